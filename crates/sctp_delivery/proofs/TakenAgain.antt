-- Sessions of a whole life: no TSN is taken more often than it was given out. One that is in flight, and has not come, was taken less often.
use Rattle.sctp_delivery.proofs.Names.{common_steps, ◌≡◌, ℕ, ◌+◌, ◌<◌, ◌≤◌, ◌^◌, Bool, true, false, [], ◌∷◌, length, refl, ap, sym, subst, ◌∙◌, arith}
use Rattle.sctp_delivery.proofs.Names.{nat_tests, inl, inr, ◌⊎◌, cases_lt, filter, if◌then◌else◌, not_both, same-is, fails, None, Sack, sack_refusal, Ledger}
use Rattle.sctp_delivery.proofs.Names.{tsn, distance-tsn, has_tsn, ChunkPayloadData, Reception, is_stale, New, Repeat, is_outdated, after_sack, Session}
use Rattle.sctp_delivery.proofs.Names.{SenderFollows, ReceiverFollows, SenderCall, ReceiverCall, of_receiver, Contains, ForwardTsn, Flight, take_sack, data_of}
use Rattle.sctp_delivery.proofs.Names.{data_chunk, forward_tsn, after_forward_tsn, without_incomplete, follow_forward_tsn, filter_of, has_come, with_filter}
use Rattle.sctp_delivery.proofs.Names.{with_tsn}
use Rattle.sctp_util.specs.Serial.{comes_before}
use Rattle.sctp_sender.specs.Flight.{count_acked}
use Rattle.sctp_delivery.specs.ReceiverCalls as incoming
use Rattle.sctp_delivery.specs.Recent.{IsRecent, gives, times_taken}
use Rattle.sctp_delivery.specs.Session.{count_in_flight}
use Rattle.sctp_delivery.proofs.Cases.{at-test}
use Rattle.sctp_delivery.proofs.Every.{every-contained}
use Rattle.sctp_delivery.proofs.FewInFlight.{IsInRun, IsMadeSmall, IsSmall, sack-place}
use Rattle.sctp_delivery.proofs.GivenTsns.{IsNumbered, taken-numbered}
use Rattle.sctp_delivery.proofs.Recent.{IsNear, any, fresh-given, given, sack-fits, sender-moves}
use Rattle.sctp_delivery.proofs.TakenCalls.{Knows, fresh-new, new-come, skip-come}
use Rattle.sctp_delivery.proofs.TakenTsns.{come}
use Rattle.sctp_delivery.proofs.TsnPlaces.{IsGiven, same-place}

-- where a SACK is taken, what it acknowledges leaves
pub sacked-left : (k : Sack) (f : Flight) → IsSmall k.cumulative_tsn_ack → length f.queue.inflight.chunks < 2 ^ 31 → sack_refusal k f ≡ None → IsInRun f
    → is_outdated k f ≡ false → count_acked k f + length (take_sack k f).queue.inflight.chunks ≡ length f.queue.inflight.chunks
sacked-left k f small few fits run e =
    let p = f.acked_tsn in
    let n = length f.queue.inflight.chunks in
    let c = count_acked k f in
    let at = sack-place k f small fits run e in
    let num : IsNumbered p n (take_sack k f) = subst (IsNumbered p n) (ap (λ b. if b then f else take_sack k f) e)
    (taken-numbered p n c k f few at.0 at.1 run) in
    let total = num.total in
    let same : num.acked ≡ c = same-place p num.acked c (omega (arith, total, few)) (omega (arith, at.0, few)) (sym num.acked_is ∙ at.1) in
    omega (arith, total, same)

-- what is in flight behind a SACK was in flight
sacked-given : (t : ℕ) (k : Sack) (f : Flight) → IsSmall k.cumulative_tsn_ack → length f.queue.inflight.chunks < 2 ^ 31 → sack_refusal k f ≡ None → IsInRun f
    → IsGiven (after_sack k f).acked_tsn (length (after_sack k f).queue.inflight.chunks) t → IsGiven f.acked_tsn (length f.queue.inflight.chunks) t
sacked-given t k f small few fits run = by (is_outdated k f) refl
  where
    by : (b : Bool) → is_outdated k f ≡ b
        → IsGiven (if b then f else take_sack k f).acked_tsn (length (if b then f else take_sack k f).queue.inflight.chunks) t
        → IsGiven f.acked_tsn (length f.queue.inflight.chunks) t
    by true e g = g
    by false e g =
        let place = (sack-place k f small fits run e).1 in
        let left = sacked-left k f small few fits run e in
        let some = g.some in
        let within = g.within in
        let is = g.is in
        record { place = count_acked k f + g.place; some = omega (arith, some); within = omega (arith, within, left); is = omega (arith, is, place) }

-- the TSN is in flight
abbrev pub Flies : ℕ → Session → Type 0
Flies t s = IsGiven s.sending.sender.flight.acked_tsn (count_in_flight s) t

-- ## What came has come after a call of the receiver

module _ (old new : Session) (few : count_in_flight new < 2 ^ 31) (i : IsNear old) where
  abbrev r : Reception
  r = old.receiving.receiver

  abbrev p : ℕ
  p = old.sending.sender.flight.acked_tsn

  abbrev n : ℕ
  n = count_in_flight old

  -- behind a TSN that came: this one, too
  pub stays-with : (c : ChunkPayloadData) → Flies c.tsn old → has_come c.tsn (filter_of r) ≡ false → (t : ℕ) → Flies t old → Knows t r
      → Knows t (with_filter (with_tsn c.tsn (filter_of r)) r)
  stays-with c a fresh t g e =
      (new-come p n r any i.few i.arrived c (with_filter (with_tsn c.tsn (filter_of r)) r) (record c { tsn = t } ∷ []) a fresh refl refl
      (record { each = ((g, e), tt); apart = refl })).each.1.0.1

  pub comes-too : (c : ChunkPayloadData) → Flies c.tsn old → has_come c.tsn (filter_of r) ≡ false → Knows c.tsn (with_filter (with_tsn c.tsn (filter_of r)) r)
  comes-too c a fresh =
      (new-come p n r any i.few i.arrived c (with_filter (with_tsn c.tsn (filter_of r)) r) [] a fresh refl refl
      (record { each = tt; apart = refl })).each.0.1

  -- and behind a FORWARD-TSN
  pub stays-past : (c : ForwardTsn) → Contains old.made (forward_tsn c) → comes_before c.new_cumulative_tsn old.sending.sender.flight.next_tsn ≡ true
      → (t : ℕ) → Flies t old → Knows t r → Knows t (after_forward_tsn c r)
  stays-past c handed q t g e = by (is_stale c r) refl
    where
      by : (z : Bool) → is_stale c r ≡ z → Knows t (after_forward_tsn c r)
      by true s = subst (λ b. Knows t (if b then r else without_incomplete c.new_cumulative_tsn (if b then r else follow_forward_tsn c r))) (sym s) e
      by false s =
          let small = every-contained IsMadeSmall old.made (forward_tsn c) handed i.regular.made in
          skip-come p n r any i.few i.arrived c (given old new few i c.new_cumulative_tsn small q s) t g e

  -- a chunk that is taken as new is in flight, and comes
  module _ (c : ChunkPayloadData) (said : Bool) (f : ReceiverFollows (incoming.takes c (New said)) old new)
      (q : IsRecent (of_receiver (incoming.takes c (New said))) old) where
    pub small : c.tsn < 2 ^ 32
    small = every-contained IsMadeSmall old.made (data_chunk (data_of c)) f.handed i.regular.made

    new-here : has_come c.tsn (filter_of r) ≡ false
    new-here = fresh-new c.tsn said r f.accepted.1

    pub fresh : Knows c.tsn old.receiving.receiver → ⊥
    fresh e = not_both (sym new-here ∙ e)

    pub flies : Flies c.tsn old
    flies = fresh-given old new few i c.tsn small q new-here

    pub comes : Knows c.tsn new.receiving.receiver
    comes = subst (Knows c.tsn) (sym f.step.receiver.after) (comes-too c flies new-here)

  pub stays : (t : ℕ) → Flies t old → (call : ReceiverCall) → ReceiverFollows call old new → IsRecent (of_receiver call) old → Knows t r
      → Knows t new.receiving.receiver
  stays h0 h1 h2 h3 h4 h5 = grind (arith, nat_tests, common_steps, stays-with, flies, fresh-new, stays-past)

-- ## How often it was taken

module _ (t : ℕ) (small' : t < 2 ^ 32) where
  abbrev has_come_at : Reception → Bool
  has_come_at r = come t r.cumulative_tsn r.beyond

  -- where it was given out so often
  pub record IsBalanced (g : ℕ) (s : Session) : Type 0 where
    pub most : times_taken t s ≤ g
    pub less : Flies t s → has_come_at s.receiving.receiver ≡ false → times_taken t s + 1 ≤ g

  -- where no chunk is taken, and what is in flight was in flight
  pub still : (old new : Session) (g : ℕ) → new.receiving.accepted ≡ old.receiving.accepted → (Flies t new → Flies t old)
      → (Flies t old → Knows t old.receiving.receiver → Knows t new.receiving.receiver) → IsBalanced g old → IsBalanced g new
  still old new g accepted flew knows b = grind (arith, nat_tests, common_steps)

  -- ## A call of the sender

  module _ (old new : Session) (few : count_in_flight new < 2 ^ 31) (i : IsNear old) (j : IsNear new) where
    -- what is in flight then was in flight, or is given out
    pub flew : (c : SenderCall) → SenderFollows c old new → Flies t new → Flies t old ⊎ (gives t old new ≡ true)
    flew c f g = elim (sender-moves old new few i c f) [
      | inl l ↦ grind (arith, nat_tests, common_steps, cases_lt, distance-tsn)
      | inr x ↦
          let fits = sack-fits old new few i c f x.0 x.1 x.2 in
          inl (sacked-given t x.0 old.sending.sender.flight fits.0 i.few fits.1 i.regular.regular.numbered
          (subst (λ (h : Flight). IsGiven h.acked_tsn (length h.queue.inflight.chunks) t) x.3 g))
    ]

    pub sender-balanced : (c : SenderCall) (g : ℕ) → SenderFollows c old new → IsBalanced g old → IsBalanced (g + (if gives t old new then 1 else 0)) new
    sender-balanced c g f b = grind (arith, nat_tests, common_steps, flew)

    -- ## A call of the receiver

    flying-still : new.sending ≡ old.sending → Flies t new → Flies t old
    flying-still same fl = subst (λ (l : Ledger). IsGiven l.sender.flight.acked_tsn (length l.sender.flight.queue.inflight.chunks) t) same fl

    with-new : (c : ChunkPayloadData) (said : Bool) (g : ℕ) → ReceiverFollows (incoming.takes c (New said)) old new
        → IsRecent (of_receiver (incoming.takes c (New said))) old → IsBalanced g old → IsBalanced g new
    with-new c said g f q b =
        at-test (λ z. has_tsn t c ≡ z → times_taken t new ≡ (if z then times_taken t old + 1 else times_taken t old) → IsBalanced g new) (has_tsn t c)
        (λ _ y taken.
        let is : c.tsn ≡ t = same-is c.tsn t y in
        let less = b.less (subst (λ u. Flies u old) is (flies old new few i c said f q))
        (fails (has_come_at old.receiving.receiver) (λ e. fresh old new few i c said f q (subst (λ u. Knows u old.receiving.receiver) (sym is) e))) in
        record {
          most = omega (arith, taken, less);
          less = λ fl none. absurd (not_both (sym none ∙ subst (λ u. Knows u new.receiving.receiver) is (comes old new few i c said f q)));
        })
        (λ _ y taken.
        let most = b.most in
        record {
          most = omega (arith, taken, most);
          less = λ fl none.
              let was = flying-still (ap (λ (s : Session). s.sending) f.after) fl in
              let less = b.less was (fails (has_come_at old.receiving.receiver) (λ e. not_both
              (sym none ∙ stays old new few i t was (incoming.takes c (New said)) f q e))) in
              omega (arith, taken, less);
        }) refl (ap (λ cs. length (filter (has_tsn t) cs)) f.step.accepted ∙ count)
      where
        count : length (filter (has_tsn t) (c ∷ old.receiving.accepted)) ≡ (if has_tsn t c then times_taken t old + 1 else times_taken t old)
        count = at-test (λ z. length (if z then c ∷ filter (has_tsn t) old.receiving.accepted else filter (has_tsn t) old.receiving.accepted)
            ≡ (if z then times_taken t old + 1 else times_taken t old)) (has_tsn t c) (λ _. omega arith) (λ _. refl)

    pub receiver-balanced : (c : ReceiverCall) (g : ℕ) → ReceiverFollows c old new → IsRecent (of_receiver c) old → IsBalanced g old → IsBalanced g new
    receiver-balanced (incoming.takes c (New said)) g f q b = with-new c said g f q b
    receiver-balanced (incoming.takes c Repeat) g f q b = grind (arith, nat_tests, common_steps)
    receiver-balanced c g f q b =
        still old new g f.step.accepted (flying-still (ap (λ (s : Session). s.sending) f.after)) (λ fl e. stays old new few i t fl c f q e) b

  pub wider : (g h : ℕ) (s : Session) → g ≤ h → IsBalanced g s → IsBalanced h s
  wider g h s le b = grind (arith, nat_tests, common_steps)

  -- nothing is in flight
  pub balanced-first : (s : Session) → count_in_flight s ≡ 0 → times_taken t s ≡ 0 → IsBalanced 0 s
  balanced-first s none untaken = grind (arith, nat_tests, common_steps)
