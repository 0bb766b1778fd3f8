-- Sessions of a whole life: no SACK is refused that is less than 2^31 TSNs old.
use Rattle.sctp_delivery.proofs.Names.{common_steps, ◌≡◌, ℕ, ◌+◌, ◌-◌, ◌<◌, ◌≤◌, ◌^◌, Bool, true, false, [], length, map, None, refl, sym, subst, ◌∙◌, arith}
use Rattle.sctp_delivery.proofs.Names.{nat_tests, inl, inr, cases_lt, if◌then◌else◌, tsn, distance-tsn, Sack, Flight, Reception, is_outdated, sack_refusal}
use Rattle.sctp_delivery.proofs.Names.{max_sack_entries, sack_entries, after_sack, take_sack, sack_of_entries, Session, SenderCall, SenderFollows, ReceiverCall}
use Rattle.sctp_util.specs.Serial.{at_or_before, comes_before, distance}
use Rattle.sctp_outbound.specs.payload_queue.Blocks.{is_in_blocks}
use Rattle.sctp_sender.specs.Flight.{count_acked}
use Rattle.sctp_delivery.specs.ReceiverCalls as incoming
use Rattle.sctp_delivery.specs.ReceiverCalls.{reports_after}
use Rattle.sctp_delivery.specs.Recent.{AgedSack, sack_older}
use Rattle.sctp_delivery.specs.Session.{count_in_flight}
use Rattle.sctp_delivery.proofs.Delivered.{next_tsn}
use Rattle.sctp_delivery.proofs.Every.{Every}
use Rattle.sctp_delivery.proofs.FewInFlight.{IsInRun, IsSmall, sack-place}
use Rattle.sctp_delivery.proofs.Recent.{IsNear, any, sack-fits, sender-moves}
use Rattle.sctp_delivery.proofs.ReportedTsns.{IsTruthful, not-refused, sack-truthful}
use Rattle.sctp_delivery.proofs.TakenAgain.{sacked-left}
use Rattle.sctp_delivery.proofs.TsnPlaces.{base}

-- its cumulative TSN has a place, fewer than 2^31 before those that were given out since, and what it reports lies before the next TSN
abbrev pub IsSackAt : ℕ → ℕ → AgedSack → Type 0
IsSackAt first n k =
    (x : ℕ) × (k.sack.cumulative_tsn_ack ≡ tsn (base first) x) × (x ≤ n) × (n < x + k.age + 2 ^ 31)
    × ((d : ℕ) → is_in_blocks k.sack.gap_ack_blocks d ≡ true → (0 < d) × (x + d ≤ n))

pub sack-later : (first n m given : ℕ) → n ≤ m → m ≤ n + given → (k : AgedSack) → IsSackAt first n k → IsSackAt first m (sack_older given k)
sack-later first n m given le most k h = grind (arith, nat_tests, common_steps)

-- ## How many TSNs were given out

-- so many; the last of them are in flight
pub record AreGiven (first n : ℕ) (f : Flight) : Type 0 where
  pub acked : ℕ
  pub total : acked + length f.queue.inflight.chunks ≡ n
  pub is : f.acked_tsn ≡ tsn (base first) acked

sacked : (first n : ℕ) (k : Sack) (f : Flight) → IsSmall k.cumulative_tsn_ack → length f.queue.inflight.chunks < 2 ^ 31 → sack_refusal k f ≡ None → IsInRun f
    → AreGiven first n f → AreGiven first n (after_sack k f)
sacked first n k f small few fits run e = by (is_outdated k f) refl
  where
    by : (b : Bool) → is_outdated k f ≡ b → AreGiven first n (if b then f else take_sack k f)
    by true o = e
    by false o =
        let at = sack-place k f small fits run o in
        let left = sacked-left k f small few fits run o in
        let all = e.total in
        let was = e.is in
        let place = at.1 in
        record { acked = e.acked + count_acked k f; total = omega (arith, all, left); is = omega (arith, was, place) }

-- after a call of the sender, the others keep them
pub given-after : (first n : ℕ) (call : SenderCall) (old new : Session) → SenderFollows call old new → (few : count_in_flight new < 2 ^ 31)
    → IsNear old → IsNear new → AreGiven first n old.sending.sender.flight
    → (m : ℕ) × (n ≤ m) × (m ≤ n + distance (next_tsn old) (next_tsn new)) × AreGiven first m new.sending.sender.flight
given-after first n call old new f few i j e = elim (sender-moves old new few i call f) [
  | inl l ↦
      let p = old.sending.sender.flight.acked_tsn in
      let more = l.long in
      let all = e.total in
      let far : distance (next_tsn old) (next_tsn new) ≡ count_in_flight new - count_in_flight old = grind (arith, nat_tests, common_steps, distance-tsn) in (
        e.acked + count_in_flight new,
        omega (arith, all, more),
        omega (arith, all, more, far),
        record { acked = e.acked; total = refl; is = l.acked ∙ e.is },
      )
  | inr x ↦
      let fits = sack-fits old new few i call f x.0 x.1 x.2 in (
        n,
        omega arith,
        omega arith,
        subst (AreGiven first n) (sym x.3) (sacked first n x.0 old.sending.sender.flight fits.0 i.few fits.1 i.regular.regular.numbered e),
      )
]

-- ## One SACK

module _ (first most : ℕ) (s : Session) (i : IsNear s) (e : AreGiven first most s.sending.sender.flight) where
  abbrev r : Reception
  r = s.receiving.receiver

  abbrev f : Flight
  f = s.sending.sender.flight

  abbrev n : ℕ
  n = count_in_flight s

  -- that is made now
  made-at : (credit entries : ℕ) → IsSackAt first most (record { sack = sack_of_entries credit entries s.receiving.receiver; age = 0 })
  made-at credit entries =
      let t = sack-truthful f.acked_tsn n any credit entries r i.few i.arrived in
      let total = e.total in
      let is = e.is in
      let at = t.is in
      let within = t.within in
      let few = i.few in (
        e.acked + t.place,
        omega (arith, is, at),
        omega (arith, total, within),
        omega (arith, total, few),
        λ d b. let k = t.blocks d b in let far = k.within in (k.some, omega (arith, total, far)),
      )

  pub all-made : (c : ReceiverCall) → Every (IsSackAt first most) (map (λ k. record { sack = k; age = 0 }) (reports_after c s.receiving.receiver []))
  all-made (incoming.reports credit) = (made-at credit max_sack_entries, tt)
  all-made (incoming.reports_within credit bytes) = (made-at credit (sack_entries bytes), tt)
  all-made (incoming.makes_sack credit bytes) = (made-at credit (sack_entries bytes), tt)
  all-made c = tt

  -- none is refused
  module _ (k : Sack) (age : ℕ) (h : IsSackAt first most (record { sack = k; age = age })) (young : age < 2 ^ 31)
      (recent : at_or_before k.cumulative_tsn_ack s.receiving.receiver.cumulative_tsn ≡ true) where
    abbrev x : ℕ
    x = h.0

    near : distance k.cumulative_tsn_ack r.cumulative_tsn < 2 ^ 31
    unfolding at_or_before
    near = grind (arith, nat_tests)

    -- it is not past what came
    close : e.acked + i.arrived.place < x + 2 ^ 31
    unfolding distance
    close = grind (arith, nat_tests, common_steps, near)

    outdated : x < e.acked → is_outdated k f ≡ true
    unfolding comes_before distance
    outdated lt = grind (arith, nat_tests, common_steps, close)

    truthful : e.acked ≤ x → IsTruthful f.acked_tsn n any k
    truthful le =
        let total = e.total in
        let is = e.is in
        let here = h.1 in
        let upto = h.2 in
        record {
          place = x - e.acked;
          within = omega (arith, total, upto, le);
          is = omega (arith, is, here, le);
          so_far = λ j pos most. refl;
          blocks = grind (arith, nat_tests, common_steps);
        }

    pub is-taken : sack_refusal k f ≡ None
    is-taken = elim (cases_lt x e.acked) [
      | inl lt ↦ by (is_outdated k f) refl (outdated lt)
      | inr ge ↦ not-refused f.acked_tsn n any k f i.few i.regular.regular.numbered (truthful ge)
    ]
      where
        by : (b : Bool) → is_outdated k f ≡ b → b ≡ true → sack_refusal k f ≡ None
        by b e t = cc
