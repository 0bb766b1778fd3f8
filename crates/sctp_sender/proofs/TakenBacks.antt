-- What was taken back can be sent again.
use Rattle.sctp_sender.proofs.Names.{◌≡◌, ℕ, zero, suc, ◌<◌, Bool, true, false, ◌+◌, ◌^◌, List, [], ◌∷◌, length, map, get_or, Option, Some, None, refl, ap, sym}
use Rattle.sctp_sender.proofs.Names.{◌∙◌, arith, ◌&&◌, not, find, if◌then◌else◌, is_some, nat_lt, All, false≢true, length-map, none-some, ChunkPayloadData}
use Rattle.sctp_sender.proofs.Names.{Sack, distance, as_taken_back, following_tsn, has_tsn, TakenBack, Flight, IsContiguous, can_resend, is_outdated}
use Rattle.sctp_sender.proofs.Names.{is_outstanding_in, reports, sack_refusal, back_each, bytes_back, placed, restored, restored_with, takes_back, tells_of}
use Rattle.sctp_sender.proofs.Names.{answered_of_placed, answered_back, with_restored, total_bytes, PlacedData, SenderRefusal, QueueFull, Transmission, back_by}
use Rattle.sctp_sender.proofs.Names.{or_full, take_back_refusal, taken_back_by}
use Rattle.sctp_sender.proofs.Placed.{back-length, placed-answer}
use Rattle.sctp_sender.proofs.Keepings.{length-restored, restored-contiguous}
use Rattle.sctp_sender.proofs.Runs.{any_chunk, found-at, tsn-at}

abbrev answered_at : ChunkPayloadData → List ℕ → TakenBack
answered_at c bytes = record { tsn = c.tsn; stream = c.stream_identifier; bytes = length bytes; message = c.message_id }

-- what holds of each place with which something comes back holds of all that is told
answered-all : (P : TakenBack → Type 0) (bs : List (Option (List ℕ))) (cs : List ChunkPayloadData) → ((i : ℕ) (d : ChunkPayloadData) (bytes : List ℕ)
    → i < length cs → get_or bs i None ≡ Some bytes → P (answered_at (get_or cs i d) bytes)) → All P (answered_back bs cs)
answered-all P [] cs h k d lt = absurd (omega (arith, lt))
answered-all P (b ∷ bs) [] h k d lt = absurd (omega (arith, lt))
answered-all P (None ∷ bs) (c ∷ cs) h k d lt = answered-all P bs cs (λ i x bytes less e. h (suc i) x bytes (omega (arith, less)) e) k d lt
answered-all P (Some bytes ∷ bs) (c ∷ cs) h zero d lt = h 0 c bytes (omega arith) refl
answered-all P (Some bytes ∷ bs) (c ∷ cs) h (suc k) d lt =
    answered-all P bs cs (λ i x more less e. h (suc i) x more (omega (arith, less)) e) k d (omega (arith, lt))

pub restored-at : (bs : List (Option (List ℕ))) (cs : List ChunkPayloadData) (i : ℕ) (d : ChunkPayloadData) (bytes : List ℕ) → i < length cs
    → get_or bs i None ≡ Some bytes → get_or (restored bs cs) i d ≡ as_taken_back bytes (get_or cs i d)
restored-at [] cs i d bytes lt e = absurd (none-some bytes e)
restored-at (b ∷ bs) [] i d bytes lt e = absurd (omega (arith, lt))
restored-at (b ∷ bs) (c ∷ cs) zero d bytes lt e = ap (λ k. restored_with k c) e
restored-at (b ∷ bs) (c ∷ cs) (suc i) d bytes lt e = restored-at bs cs i d bytes (omega (arith, lt)) e

pub restored-none : (bs : List (Option (List ℕ))) (cs : List ChunkPayloadData) (i : ℕ) (d : ChunkPayloadData) → get_or bs i None ≡ None
    → get_or (restored bs cs) i d ≡ get_or cs i d
restored-none [] cs i d e = refl
restored-none (b ∷ bs) [] i d e = refl
restored-none (b ∷ bs) (c ∷ cs) zero d e = ap (λ k. restored_with k c) e
restored-none (b ∷ bs) (c ∷ cs) (suc i) d e = restored-none bs cs i d e

module _ (s : Sack) where
  passes : (b : Bool) (k : Option (List ℕ)) (bytes : List ℕ) → (if b then k else None) ≡ Some bytes → b ≡ true
  passes true k bytes e = refl
  passes false k bytes e = absurd (none-some bytes e)

  back-at : (cs : List ChunkPayloadData) (ks : List (Option (List ℕ))) (i : ℕ) (d : ChunkPayloadData) (bytes : List ℕ)
      → get_or (back_each s cs ks) i None ≡ Some bytes → takes_back s (get_or cs i d) ≡ true
  back-at cs [] i d bytes e = absurd (none-some bytes e)
  back-at [] (k ∷ ks) i d bytes e = absurd (none-some bytes e)
  back-at (c ∷ cs) (k ∷ ks) zero d bytes e = passes (takes_back s c) k bytes e
  back-at (c ∷ cs) (k ∷ ks) (suc i) d bytes e = back-at cs ks i d bytes e

  open' : (acked abandoned reported told : Bool) → (((acked && not abandoned) && not reported) && told) ≡ true → not abandoned ≡ true
  open' true true reported told e = absurd (false≢true e)
  open' true false reported told e = refl
  open' false abandoned reported told e = absurd (false≢true e)

  pub outstanding : (f : Flight) → IsContiguous f → (ks bs : List (Option (List ℕ))) → bs ≡ back_each s f.queue.inflight.chunks ks
      → All (λ r. can_resend r.tsn (with_restored bs f) ≡ true) (answered_back bs f.queue.inflight.chunks)
  outstanding f inv ks bs is = answered-all (λ r. can_resend r.tsn (with_restored bs f) ≡ true) bs cs here
    where
      cs : List ChunkPayloadData
      cs = f.queue.inflight.chunks

      here : (i : ℕ) (d : ChunkPayloadData) (bytes : List ℕ) → i < length cs → get_or bs i None ≡ Some bytes
          → is_outstanding_in (find (has_tsn (get_or cs i d).tsn) (restored bs cs)) ≡ true
      here i d bytes lt e =
          let after = restored-contiguous bs f inv in
          let n = length-restored bs cs in
          let tsn = tsn-at cs (following_tsn f.acked_tsn) i d (omega arith) inv.run lt in
          let found = found-at (restored bs cs) (following_tsn f.acked_tsn) i d (omega arith) after.run after.few (omega (arith, n, lt)) in
          let back = back-at cs ks i d bytes (ap (λ xs. get_or xs i None) (sym is) ∙ e) in
          ap (λ t. is_outstanding_in (find (has_tsn t) (restored bs cs))) tsn
          ∙ ap is_outstanding_in (found ∙ ap Some (restored-at bs cs i d bytes lt e))
          ∙ open' (get_or cs i d).acked (get_or cs i d).abandoned (reports s (get_or cs i d))
          (tells_of s.gap_ack_blocks (distance s.cumulative_tsn_ack (get_or cs i d).tsn)) back

-- ## By a sender that keeps what was reported

module _ (s : Sack) (t : Transmission) (ks : List (Option (List ℕ))) (kept : t.kept ≡ Some ks) (current : is_outdated s t.flight ≡ false) where
  abbrev chunks : List ChunkPayloadData
  chunks = t.flight.queue.inflight.chunks

  pub back-by-is : back_each s chunks ks ≡ back_by s t.flight t.kept
  back-by-is = ap (λ b. if b then [] else back_each s chunks ks) (sym current) ∙ ap (back_by s t.flight) (sym kept)

  pub answer-is : (backs : List PlacedData) → backs ≡ placed 0 (back_each s chunks ks) → (d : ChunkPayloadData)
      → map (λ b. answered_of_placed b (get_or chunks b.place d)) backs ≡ taken_back_by s t
  answer-is backs is d =
      ap (map (λ b. answered_of_placed b (get_or chunks b.place d))) is ∙ placed-answer 0 (back_each s chunks ks) chunks d
      (let le = back-length s chunks ks in omega (arith, le))
      ∙ ap (λ bs. answered_back bs chunks) back-by-is

  -- as many as it is told of
  pub back-count : (backs : List PlacedData) → backs ≡ placed 0 (back_each s chunks ks) → length backs ≡ length (taken_back_by s t)
  back-count backs is = sym (length-map backs (λ b. answered_of_placed b (get_or chunks b.place any_chunk))) ∙ ap length (answer-is backs is any_chunk)

  pub refusal-is : (fits : Bool) → sack_refusal s t.flight ≡ None
      → nat_lt (total_bytes t.flight.queue + bytes_back (taken_back_by s t)) (2 ^ 64) ≡ fits → take_back_refusal s t ≡ (if fits then None else Some QueueFull)
  refusal-is fits none is =
      ap (λ o. if is_some o && not (is_outdated s t.flight) then all else None) kept ∙ ap (λ b. if not b then all else None) current
      ∙ ap (λ r. or_full r (nat_lt (total_bytes t.flight.queue + bytes_back (taken_back_by s t)) (2 ^ 64))) none
      ∙ ap (λ b. if b then None else Some QueueFull) is
    where
      all : Option SenderRefusal
      all = or_full (sack_refusal s t.flight) (nat_lt (total_bytes t.flight.queue + bytes_back (taken_back_by s t)) (2 ^ 64))
