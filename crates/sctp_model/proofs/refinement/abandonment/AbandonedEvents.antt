-- Abandon, Tail and Late leave an outbound queue that refines the record.
use Rattle.sctp_model.proofs.Names.{◌≡◌, ℕ, zero, suc, ◌+◌, ◌-◌, ◌<◌, ◌≤◌, ◌^◌, Bool, true, false, List, [], ◌∷◌, length, map, Option, Some, None, refl, ap}
use Rattle.sctp_model.proofs.Names.{sym, ◌∙◌, arith, length-append, ◌⊎◌, if◌then◌else◌, ◌==◌, ◌&&◌, ◌||◌, not, nat_lt, nat_le, find, subst, cases_lt, nat_tests}
use Rattle.sctp_model.proofs.Names.{filter, is_past, is_dcep, numbers_where, always, kept-skip, both, and, get-snoc_old, ChunkPayloadData, has_tsn, waits}
use Rattle.sctp_model.proofs.Names.{Outbound, to_abandon, abandoned_of, tsn_after_of, has_tail, expiring_tail, late_tsns, NotInFlight, LinkRecord, Setup, Slot}
use Rattle.sctp_model.proofs.Names.{message_at, slot_at, message_of, no_slot, front, fragment_count, sent_of, is_partially_sent, is_in_flight, is_past_deadline}
use Rattle.sctp_model.proofs.Names.{deadline_of, tsn_of, place_of, after_abandon, with_slot, message_changed, mark_abandoned, front_if, tailing, after_tail}
use Rattle.sctp_model.proofs.Names.{late_slots, refusal_of, after, waiting_at, RefinesOutbound, sending_of, sending_at}
use Rattle.sctp_outbound.specs.outbound_queue.OutboundQueue as queue
use Rattle.sctp_outbound.specs.outbound_queue.OutboundQueue.{is_expired_tail}
use Rattle.sctp_model.specs.declared.event.Event.TheVariants as E
use Rattle.sctp_model.specs.Changes.{is_late}
use Rattle.sctp_model.proofs.sender.Shape.{shape}
use Rattle.sctp_model.proofs.sender.Sender.{Sender}
use Rattle.sctp_model.proofs.sender.SenderSteps.{of-partial, is-partial}
use Rattle.sctp_model.proofs.sender.SenderRun.{Consistent, consistent-abandoned, unless-holds}
use Rattle.sctp_model.proofs.sender.Fronts.{slot-sent}
use Rattle.sctp_model.proofs.sender.Few.{few}
use Rattle.sctp_model.proofs.refinement.sending.InFlight.{Found, found-in, head_of, tail_of}
use Rattle.sctp_model.proofs.refinement.sending.Sent.{FrontIs, front_is}
use Rattle.sctp_model.proofs.refinement.sending.Fragments.{idle, shown}
use Rattle.sctp_model.proofs.refinement.sending.KindsRun.{Going}
use Rattle.sctp_model.proofs.refinement.abandonment.Abandoned.{refines-abandoned, tsn-abandoned, waits-partial}
use Rattle.sctp_model.proofs.refinement.abandonment.AbandonedLate.{abandoned-again}

-- ## A TSN in flight

-- whether its message is to be abandoned
pub to-abandon : (w : LinkRecord) (p : ℕ) (q : Outbound) → length w.slots < 2 ^ 31 → w.taken ≤ p → p < length w.slots → RefinesOutbound w q
    → to_abandon (find (has_tsn (tsn_of w p)) q.inflight.chunks) ≡ (if (message_at w (message_of w p)).abandoned then None else Some (message_of w p))
to-abandon w p q short low high t =
    let f : Found w p q.inflight.chunks = found-in w p (omega arith) q.inflight.chunks w.taken (length w.slots - w.taken)
    (omega arith) low (omega arith) t.in_flight in
    ap to_abandon f.is
    ∙ ap (λ s. if s.chunk.abandoned then None else Some s.chunk.message) f.says

-- its message is abandoned where it was not; then the next TSN is that of the next slot
module _ (setup : Setup) (w : LinkRecord) (p : ℕ) (q : Outbound) (g : Consistent setup w) (low : w.taken ≤ p) (high : p < length w.slots)
    (t : RefinesOutbound w q) where
  abbrev owner : ℕ
  owner = message_of w p

  abbrev upcoming : ℕ
  upcoming = tsn_of w (length w.slots)

  abbrev chosen : Option ℕ
  chosen = to_abandon (find (has_tsn (tsn_of w p)) q.inflight.chunks)

  pos : 0 < sent_of w owner
  pos = slot-sent (shape w) p g.sender high

  chosen-is : (b : Bool) → (message_at w owner).abandoned ≡ b → chosen ≡ (if b then None else Some owner)
  chosen-is b e = to-abandon w p q (few setup w g) low high t ∙ ap (λ c. if c then None else Some owner) e

  pub refines-tsn : RefinesOutbound (after_abandon w owner) (abandoned_of chosen upcoming q)
  refines-tsn = by (message_at w owner).abandoned refl
    where
      by : (b : Bool) → (message_at w owner).abandoned ≡ b → RefinesOutbound (after_abandon w owner) (abandoned_of chosen upcoming q)
      by true e = subst (λ o. RefinesOutbound (after_abandon w owner) (abandoned_of o upcoming q)) (sym (chosen-is true e))
          (subst (λ v. RefinesOutbound v q) (sym (abandoned-again w owner e)) t)
      by false e = subst (λ o. RefinesOutbound (after_abandon w owner) (abandoned_of o upcoming q)) (sym (chosen-is false e))
          (refines-abandoned w owner g.sender pos (few setup w g) (omega (arith, low, high)) q t)

  pub next-tsn : tsn_after_of chosen upcoming q ≡ tsn_of (after_abandon w owner) (length (after_abandon w owner).slots)
  next-tsn = by (message_at w owner).abandoned refl
    where
      by : (b : Bool) → (message_at w owner).abandoned ≡ b
          → tsn_after_of chosen upcoming q ≡ tsn_of (after_abandon w owner) (length (after_abandon w owner).slots)
      by true e = ap (λ o. tsn_after_of o upcoming q) (chosen-is true e) ∙ ap (λ v. tsn_of v (length v.slots)) (sym (abandoned-again w owner e))
      by false e = ap (λ o. tsn_after_of o upcoming q) (chosen-is false e) ∙ tsn-abandoned w owner g.sender pos q t

  -- it has a tail where its message is partially sent
  pub tail-tsn : has_tail chosen q ≡ is_partially_sent w owner
  tail-tsn = by (message_at w owner).abandoned refl
    where
      dead : (a b c : Bool) → c ≡ true → false ≡ (a && (b && not c))
      dead a b c e = grind (arith, nat_tests)

      by : (b : Bool) → (message_at w owner).abandoned ≡ b → has_tail chosen q ≡ is_partially_sent w owner
      by true e = ap (λ o. has_tail o q) (chosen-is true e)
          ∙ dead (nat_lt 0 (sent_of w owner)) (nat_lt (sent_of w owner) (fragment_count w owner)) (message_at w owner).abandoned e
      by false e = ap (λ o. has_tail o q) (chosen-is false e) ∙ waits-partial w owner g.sender pos q t

-- ## Abandon

module _ (setup : Setup) (w : LinkRecord) (tsn : ℕ) (q : Outbound) (g : Consistent setup w) (first : w.setup.first < 2 ^ 32) (fits : tsn < 2 ^ 32)
    (ok : refusal_of w (E.Abandon tsn) ≡ None) (t : RefinesOutbound w q) where
  back : tsn_of w (place_of w tsn) ≡ tsn
  back = omega (arith, first, fits)

  low : w.taken ≤ place_of w tsn
  low = let a = (both (nat_le w.taken (place_of w tsn)) (nat_lt (place_of w tsn) (length w.slots))
      (unless-holds (is_in_flight w (place_of w tsn)) NotInFlight None ok).0).0 in grind (arith, nat_tests)

  high : place_of w tsn < length w.slots
  high = let a = (both (nat_le w.taken (place_of w tsn)) (nat_lt (place_of w tsn) (length w.slots))
      (unless-holds (is_in_flight w (place_of w tsn)) NotInFlight None ok).0).1 in grind (arith, nat_tests)

  pub refines-abandon : RefinesOutbound (after w (E.Abandon tsn))
      (abandoned_of (to_abandon (find (has_tsn tsn) q.inflight.chunks)) (tsn_of w (length w.slots)) q)
  refines-abandon = subst (λ k. RefinesOutbound (after w (E.Abandon tsn))
      (abandoned_of (to_abandon (find (has_tsn k) q.inflight.chunks)) (tsn_of w (length w.slots)) q)) back (refines-tsn setup w (place_of w tsn) q g low high t)

  pub next-abandon : tsn_after_of (to_abandon (find (has_tsn tsn) q.inflight.chunks)) (tsn_of w (length w.slots)) q ≡ tsn_of (after w (E.Abandon tsn))
      (length (after w (E.Abandon tsn)).slots)
  next-abandon = cc (back, next-tsn setup w (place_of w tsn) q g low high t)

-- ## Tail

-- the fragment that the queue tests is the next one of the front
pub tail-is : (setup : Setup) (w : LinkRecord) (now : ℕ) (q : Outbound) → Going setup w → RefinesOutbound w q
    → queue.message_of (expiring_tail now q) ≡ tailing w now
tail-is setup w now q g t = by (front w) refl
  where
    -- DCEP messages never expire
    past_deadline : (n : ℕ) → (not (is_dcep (message_at w n).ppi) && is_past now (deadline_of w n)) ≡ is_past_deadline w now n
    past_deadline n = grind (arith, nat_tests)

    chosen : (p : ChunkPayloadData → Bool) (c : ChunkPayloadData) (m : ℕ) → c.message_id ≡ m
        → queue.message_of (queue.passing p (Some c)) ≡ (if p c then Some m else None)
    chosen p c m e = grind (arith, nat_tests)

    by : (o : Option ℕ) → front w ≡ o → queue.message_of (expiring_tail now q) ≡ front_if w (λ n. is_partially_sent w n && is_past_deadline w now n) o
    by None e = ap (λ c. queue.message_of (queue.passing (is_expired_tail now) c)) (idle w q t e)
    by (Some n) e =
        let f : FrontIs w n = front_is w g.consistent.sender g.turns n e in
        cc (shown setup w n q g e t, chosen (is_expired_tail now) (waiting_at w n (sent_of w n)) n refl, past_deadline n, partial f (cases_lt 0 (sent_of w n)))
      where
        partial : FrontIs w n → (0 < sent_of w n) ⊎ (sent_of w n ≤ 0) → not (sent_of w n == 0) ≡ is_partially_sent w n
        partial f b = grind (arith, nat_tests, is-partial)

module _ (setup : Setup) (w : LinkRecord) (now : ℕ) (q : Outbound) (g : Going setup w) (made : w.taken ≤ length w.slots) (t : RefinesOutbound w q) where
  partial-tail : (n : ℕ) → tailing w now ≡ Some n → is_partially_sent w n ≡ true
  partial-tail n e = by (front w) e
    where
      by : (o : Option ℕ) → front_if w (λ n. is_partially_sent w n && is_past_deadline w now n) o ≡ Some n → is_partially_sent w n ≡ true
      by None e = cc
      by (Some k) e = one (is_partially_sent w k && is_past_deadline w now k) refl e
        where
          one : (b : Bool) → (is_partially_sent w k && is_past_deadline w now k) ≡ b → (if b then Some k else None) ≡ Some n → is_partially_sent w n ≡ true
          one false f h = cc
          one true f h = let z : k ≡ n = cc in ap (is_partially_sent w) (sym z) ∙ (both (is_partially_sent w k) (is_past_deadline w now k) f).0

  abbrev tail : Option ℕ
  tail = queue.message_of (expiring_tail now q)

  pub refines-tail : RefinesOutbound (after w (E.Tail now)) (abandoned_of tail (tsn_of w (length w.slots)) q)
  refines-tail = subst (λ o. RefinesOutbound (after w (E.Tail now)) (abandoned_of o (tsn_of w (length w.slots)) q)) (sym (tail-is setup w now q g t))
      (by (tailing w now) refl)
    where
      by : (o : Option ℕ) → tailing w now ≡ o → RefinesOutbound (after_tail w o) (abandoned_of o (tsn_of w (length w.slots)) q)
      by None e = t
      by (Some n) e = refines-abandoned w n g.consistent.sender (of-partial (shape w) n (partial-tail n e)).some (few setup w g.consistent) made q t

  pub next-tail : tsn_after_of tail (tsn_of w (length w.slots)) q ≡ tsn_of (after w (E.Tail now)) (length (after w (E.Tail now)).slots)
  next-tail = ap (λ o. tsn_after_of o (tsn_of w (length w.slots)) q) (tail-is setup w now q g t) ∙ by (tailing w now) refl
    where
      by : (o : Option ℕ) → tailing w now ≡ o → tsn_after_of o (tsn_of w (length w.slots)) q ≡ tsn_of (after_tail w o) (length (after_tail w o).slots)
      by None e = refl
      by (Some n) e = tsn-abandoned w n g.consistent.sender (of-partial (shape w) n (partial-tail n e)).some q t

-- ## Late

-- what stays while the messages of late slots are abandoned: the slots that were there, and what is in flight
pub record IsAbandoning (setup : Setup) (w v : LinkRecord) : Type 0 where
  pub consistent : Consistent setup v
  pub first : v.setup ≡ w.setup
  pub taken : v.taken ≡ w.taken
  pub more : length w.slots ≤ length v.slots
  pub slot : (p : ℕ) → p < length w.slots → slot_at v p ≡ slot_at w p

pub abandoning-first : (setup : Setup) (w : LinkRecord) → Consistent setup w → IsAbandoning setup w w
abandoning-first setup w g = record { consistent = g; first = refl; taken = refl; more = omega arith; slot = λ p lt. refl }

pub abandoning-next : (setup : Setup) (w v : LinkRecord) (n : ℕ) → 0 < sent_of v n → IsAbandoning setup w v → IsAbandoning setup w (after_abandon v n)
abandoning-next setup w v n pos g = record {
  consistent = consistent-abandoned setup v n g.consistent pos;
  first = setup-same (is_partially_sent v n) ∙ g.first;
  taken = taken-same (is_partially_sent v n) ∙ g.taken;
  more = omega (arith, g.more, slots-more (is_partially_sent v n));
  slot = λ p lt. slot-same (is_partially_sent v n) p (omega (arith, lt, g.more)) ∙ g.slot p lt;
}
  where
    setup-same : (b : Bool) → (message_changed (if b then with_slot v n true else v) n mark_abandoned).setup ≡ v.setup
    setup-same true = refl
    setup-same false = refl

    taken-same : (b : Bool) → (message_changed (if b then with_slot v n true else v) n mark_abandoned).taken ≡ v.taken
    taken-same true = refl
    taken-same false = refl

    new : Slot
    new = record { message = n; fragment = sent_of v n; is_terminal_chunk = true; arrived = false; acknowledged = false }

    slots-more : (b : Bool) → length v.slots ≤ length (message_changed (if b then with_slot v n true else v) n mark_abandoned).slots
    slots-more true = omega (arith, length-append v.slots (new ∷ []))
    slots-more false = omega arith

    slot-same : (b : Bool) (p : ℕ) → p < length v.slots → slot_at (message_changed (if b then with_slot v n true else v) n mark_abandoned) p ≡ slot_at v p
    slot-same true p lt = get-snoc_old v.slots new p no_slot (λ e. omega arith)
    slot-same false p lt = refl

abbrev pub AllInFlight : LinkRecord → List ℕ → Type 0
AllInFlight w [] = Unit {0}
AllInFlight w (p ∷ ps) = (w.taken ≤ p) × (p < length w.slots) × AllInFlight w ps

-- ## Which slots are late

late-in : (w : LinkRecord) (now : ℕ) (q : Outbound) → Sender (shape w) → RefinesOutbound w q → (cs : List ChunkPayloadData) (from count : ℕ) → w.taken ≤ from
    → from + count ≤ length w.slots → map sending_of cs ≡ map (sending_at w) (numbers_where always from count)
    → map (λ c. c.tsn) (filter (queue.is_late now q.pending) cs) ≡ map (tsn_of w) (numbers_where (is_late w now) from count)
late-in w now q s t [] from zero low high e = refl
late-in w now q s t [] from (suc count) low high e = cc
late-in w now q s t (c ∷ cs) from zero low high e = cc
late-in w now q s t (c ∷ cs) from (suc count) low high e =
    by (is_late w now from) (test ∙ refl) (late-in w now q s t cs (from + 1) count (omega (arith, low)) (omega (arith, high)) (ap tail_of e))
  where
    head : sending_of c ≡ sending_at w from
    head = ap (λ l. head_of l (sending_of c)) e

    n : ℕ
    n = message_of w from

    in-flight : is_in_flight w from ≡ true
    in-flight = and (nat_le w.taken from) (nat_lt from (length w.slots)) (grind (arith, nat_tests, low))
        (let l : from < length w.slots = omega (arith, high) in grind (arith, nat_tests))

    swap : (a b c : Bool) → (not a && (b && c)) ≡ (b && (not a && c))
    swap b o c = grind (arith, nat_tests)

    test : queue.is_late now q.pending c ≡ is_late w now from
    test =
        ap (λ x. not x.chunk.abandoned && (is_past now x.chunk.deadline && (not x.chunk.acknowledged || waits x.chunk.message q.pending))) head
        ∙ ap (λ b. not (message_at w n).abandoned && (is_past_deadline w now n && (not (slot_at w from).acknowledged || b)))
        (waits-partial w n s (slot-sent (shape w) from s (omega (arith, high))) q t)
        ∙ swap (message_at w n).abandoned (is_past_deadline w now n) (not (slot_at w from).acknowledged || is_partially_sent w n)
        ∙ ap (λ b. b && (is_past_deadline w now n && (not (message_at w n).abandoned && (not (slot_at w from).acknowledged || is_partially_sent w n))))
        (sym in-flight)

    by : (b : Bool) → queue.is_late now q.pending c ≡ b → map (λ c. c.tsn) (filter (queue.is_late now q.pending) cs) ≡ map (tsn_of w)
        (numbers_where (is_late w now) (from + 1) count) → map (λ c. c.tsn) (filter (queue.is_late now q.pending) (c ∷ cs)) ≡ map (tsn_of w)
        (if b then from ∷ numbers_where (is_late w now) (from + 1) count else numbers_where (is_late w now) (from + 1) count)
    by b f ih = grind (arith, nat_tests)

-- the late slots are in flight
late-slots : (w : LinkRecord) (now : ℕ) → w.taken ≤ length w.slots → late_slots w now ≡ numbers_where (is_late w now) w.taken (length w.slots - w.taken)
late-slots w now made = skip (kept-skip (is_late w now) 0 (length w.slots) w.taken (omega arith) (omega (arith, made))
    (λ j a b. (let z : nat_le w.taken j ≡ false = grind (arith, nat_tests) in ap (λ c. (c && nat_lt j (length w.slots)) && (is_past_deadline w now
    (message_of w j) && (not (message_at w (message_of w j)).abandoned && (not (slot_at w j).acknowledged || is_partially_sent w (message_of w j))))) z)))
  where
    skip : late_slots w now ≡ numbers_where (is_late w now) w.taken (0 + length w.slots - w.taken)
        → late_slots w now ≡ numbers_where (is_late w now) w.taken (length w.slots - w.taken)
    skip e = e ∙ ap (numbers_where (is_late w now) w.taken) (let z : 0 + length w.slots - w.taken ≡ length w.slots - w.taken = omega arith in z)

-- the TSNs that the queue lists are those of the record's late slots
pub late-tsns : (w : LinkRecord) (now : ℕ) (q : Outbound) → Sender (shape w) → w.taken ≤ length w.slots → RefinesOutbound w q
    → late_tsns now q ≡ map (tsn_of w) (late_slots w now)
late-tsns w now q s made t = late-in w now q s t q.inflight.chunks w.taken (length w.slots - w.taken) (omega arith) (omega (arith, made)) t.in_flight
    ∙ ap (map (tsn_of w)) (sym (late-slots w now made))

pub late-in_flight : (w : LinkRecord) (now : ℕ) → AllInFlight w (late_slots w now)
late-in_flight w now = all 0 (length w.slots)
  where
    one : (p : ℕ) → is_late w now p ≡ true → (w.taken ≤ p) × (p < length w.slots)
    one p e = grind (arith, nat_tests)

    all : (from count : ℕ) → AllInFlight w (numbers_where (is_late w now) from count)
    all from zero = tt
    all from (suc count) = by (is_late w now from) refl (all (from + 1) count)
      where
        by : (b : Bool) → is_late w now from ≡ b → AllInFlight w (numbers_where (is_late w now) (from + 1) count)
            → AllInFlight w (if b then from ∷ numbers_where (is_late w now) (from + 1) count else numbers_where (is_late w now) (from + 1) count)
        by true e r = let o = one from e in (o.0, o.1, r)
        by false e r = r
