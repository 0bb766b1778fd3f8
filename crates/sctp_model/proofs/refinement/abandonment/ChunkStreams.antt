-- Of which stream a chunk is that a call looks up: in flight, even where its bytes are gone, or in front of what waits.
use Rattle.sctp_model.proofs.Names.{◌≡◌, ℕ, ◌-◌, ◌<◌, ◌≤◌, ◌^◌, Bool, true, length, Option, Some, None, refl, ap, sym, ◌∙◌, arith, nat_lt, nat_le, find}
use Rattle.sctp_model.proofs.Names.{option_map, nat_tests, both, ChunkPayloadData, has_tsn, next_pending, Outbound, passing, expiring_tail, LinkRecord, Setup}
use Rattle.sctp_model.proofs.Names.{message_at, message_of, front, sent_of, is_in_flight, tsn_of, place_of, waiting_at, RefinesOutbound, some-same}
use Rattle.sctp_outbound.specs.outbound_queue.OutboundQueue as queue
use Rattle.sctp_model.proofs.sender.SenderRun.{Consistent}
use Rattle.sctp_model.proofs.sender.Few.{few}
use Rattle.sctp_model.proofs.refinement.sending.InFlight.{Found, found-in}
use Rattle.sctp_model.proofs.refinement.sending.Fragments.{idle, shown}
use Rattle.sctp_model.proofs.refinement.sending.KindsRun.{Going}

-- ## The chunk of a TSN in flight

module _ (setup : Setup) (w : LinkRecord) (tsn : ℕ) (q : Outbound) (g : Consistent setup w) (first : w.setup.first < 2 ^ 32) (fits : tsn < 2 ^ 32)
    (flies : is_in_flight w (place_of w tsn) ≡ true) (t : RefinesOutbound w q) where
  abbrev p : ℕ
  p = place_of w tsn

  back : tsn_of w p ≡ tsn
  back = omega (arith, first, fits)

  low : w.taken ≤ p
  low = let a = (both (nat_le w.taken p) (nat_lt p (length w.slots)) flies).0 in grind (arith, nat_tests)

  high : p < length w.slots
  high = let a = (both (nat_le w.taken p) (nat_lt p (length w.slots)) flies).1 in grind (arith, nat_tests)

  -- there is one, so the call answers that stream
  pub flying-answer : option_map (λ c. c.stream_identifier) (find (has_tsn tsn) q.inflight.chunks) ≡ Some (message_at w (message_of w (place_of w tsn))).stream
  flying-answer =
      let f : Found w p q.inflight.chunks = found-in w p (omega (arith, high, few setup w g)) q.inflight.chunks w.taken (length w.slots - w.taken)
      (omega (arith, low, high, few setup w g)) low (omega (arith, low, high)) t.in_flight in
      ap (λ k. option_map (λ c. c.stream_identifier) (find (has_tsn k) q.inflight.chunks)) (sym back) ∙ ap (option_map (λ c. c.stream_identifier)) f.is
      ∙ ap (λ s. Some s.stream) f.says

-- ## In front of what waits

-- the fragment that is shown is the next one of the front
pub record IsNext (w : LinkRecord) (c : ChunkPayloadData) : Type 0 where
  pub front : front w ≡ Some c.message_id
  pub is : c ≡ waiting_at w c.message_id (sent_of w c.message_id)

pub peeked-next : (setup : Setup) (w : LinkRecord) (q : Outbound) (c : ChunkPayloadData) → Going setup w → RefinesOutbound w q → next_pending q.pending ≡ Some c
    → IsNext w c
peeked-next setup w q c g t e = by (front w) refl
  where
    nothing : {A : Type 0} {a : A} → Some a ≡ None → ⊥
    nothing z = cc

    of : (n : ℕ) → front w ≡ Some n → c ≡ waiting_at w n (sent_of w n) → IsNext w c
    of n f same = grind (arith, nat_tests)

    by : (o : Option ℕ) → front w ≡ o → IsNext w c
    by None f = absurd (nothing (sym e ∙ idle w q t f))
    by (Some n) f = of n f (some-same (sym e ∙ shown setup w n q g f t))

next-stream : (w : LinkRecord) (c : ChunkPayloadData) → IsNext w c → c.stream_identifier ≡ (message_at w c.message_id).stream
next-stream w c n = ap (λ (d : ChunkPayloadData). d.stream_identifier) n.is

pub peeked-stream : (setup : Setup) (w : LinkRecord) (q : Outbound) (c : ChunkPayloadData) → Going setup w → RefinesOutbound w q
    → next_pending q.pending ≡ Some c → c.stream_identifier ≡ (message_at w c.message_id).stream
peeked-stream setup w q c g t e = next-stream w c (peeked-next setup w q c g t e)

-- what passes a test is what is shown
passed : (p : ChunkPayloadData → Bool) (o : Option ChunkPayloadData) (c : ChunkPayloadData) → passing p o ≡ Some c → o ≡ Some c
passed p b c e = grind (arith, nat_tests)

-- the rest of a message in front, past its deadline
pub tail-stream : (setup : Setup) (w : LinkRecord) (now : ℕ) (q : Outbound) (c : ChunkPayloadData) → Going setup w → RefinesOutbound w q
    → expiring_tail now q ≡ Some c → c.stream_identifier ≡ (message_at w c.message_id).stream
tail-stream setup w now q c g t e = peeked-stream setup w q c g t (passed (queue.is_expired_tail now) (next_pending q.pending) c e)
