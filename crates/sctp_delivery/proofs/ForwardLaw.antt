-- A receiver that is read refuses no FORWARD-TSN that the sender may make now.
use Rattle.sctp_delivery.proofs.Names.{common_steps, ◌≡◌, ℕ, zero, suc, ◌+◌, ◌-◌, ◌%◌, ◌^◌, ◌<◌, ◌≤◌, Bool, true, false, not, List, [], ◌∷◌, take, Option, Some}
use Rattle.sctp_delivery.proofs.Names.{None, inl, inr, refl, ap, sym, subst, ◌∙◌, arith, ◌⊎◌, ◌==◌, ◌&&◌, ◌||◌, if◌then◌else◌, nat_le, nat_lt, filter, list_all}
use Rattle.sctp_delivery.proofs.Names.{list_any, cases_lt, nat_tests, same-yes, both, not_both, distance-tsn, tsn, ChunkPayloadData, ChunkForwardTsnStream}
use Rattle.sctp_delivery.proofs.Names.{ForwardTsn, data_of, last_of, is_on, message_read, InboundStream, NamedSsnTooFar, NamedStreamUnknown, TsnOpposite}
use Rattle.sctp_delivery.proofs.Names.{Reception, forward_refusal, is_open, stream_of, is_ahead, names_too_far, skip_refusal, is_name_too_far, is_named_too_far}
use Rattle.sctp_delivery.proofs.Names.{lowest_ssn, Name, ahead, is_named, is_pair_of, named_up_to, pairs_of, Flight, abandoned_in, WhileFewTsns, MayMake}
use Rattle.sctp_delivery.proofs.Names.{is_due_named, tsns_given, Session, at_start}
use Rattle.sctp_util.specs.Serial.{distance16}
use Rattle.sctp_delivery.specs.Refused.{NoneMadeIsRefused}
use Rattle.sctp_delivery.proofs.Cases.{all_streams}
use Rattle.sctp_delivery.proofs.KeptOrGone.{HeldWell, IsLate}
use Rattle.sctp_delivery.proofs.KeptSessions.{HasKept, kept-in}
use Rattle.sctp_delivery.proofs.NotRefused.{begun-low}
use Rattle.sctp_delivery.proofs.GivenTsns.{IsPassable, passable-end, passable-skip}
use Rattle.sctp_delivery.proofs.SackSteps.{known, none_dropped}
use Rattle.sctp_delivery.proofs.Sent.{Entry, WasSent}
use Rattle.sctp_delivery.proofs.SpreadCalls.{IsSpread}
use Rattle.sctp_delivery.proofs.SpreadEntries.{begun_to, is_at, to-all}
use Rattle.sctp_delivery.proofs.SpreadFlight.{AreOn, AreSteps, IsNaming, are-on, are-steps, named}
use Rattle.sctp_delivery.proofs.TightFlight.{last-at}
use Rattle.sctp_delivery.proofs.TakenCalls as answered
use Rattle.sctp_delivery.proofs.TsnPlaces.{base, same-place}
use Rattle.sctp_delivery.proofs.UnwrappedHolds.{AreDue, Came, DueOn}
use Rattle.sctp_delivery.proofs.UnwrappedSessions as sessions

-- ## Names

-- one of these names
abbrev In : ChunkForwardTsnStream → List ChunkForwardTsnStream → Type 0
In x [] = ⊥
In x (y ∷ ys) = (y ≡ x) ⊎ In x ys

in-those : (q : ChunkForwardTsnStream → Bool) (x : ChunkForwardTsnStream) (ys : List ChunkForwardTsnStream) → q x ≡ true → In x ys → In x (filter q ys)
in-those q x [] h i = i
in-those q x (y ∷ ys) h i = grind (arith, nat_tests, not_both, in-those q x ys h)

all-in : (q : ChunkForwardTsnStream → Bool) (x : ChunkForwardTsnStream) (ys : List ChunkForwardTsnStream) → list_all q ys ≡ true → In x ys → q x ≡ true
all-in q x [] h i = absurd i
all-in q x (y ∷ ys) h i =
    let b = both (q y) (list_all q ys) h in
    elim i [ inl k ↦ ap q (sym k) ∙ b.0 | inr k ↦ all-in q x ys b.1 k ]

none-in : (q : ChunkForwardTsnStream → Bool) (ys : List ChunkForwardTsnStream) → ((x : ChunkForwardTsnStream) → In x ys → q x ≡ false) → list_any q ys ≡ false
none-in q [] h = refl
none-in q (y ∷ ys) h = ap (λ b. b || list_any q ys) (h y (inl refl)) ∙ none-in q ys (λ x i. h x (inr i))

-- no ordered chunk of the stream, none that is named
none-named : (st : ℕ) (sent : List Entry) (a j : ℕ) (cs : List ChunkPayloadData) → AreOn st sent a cs → ((k : ℕ) → a < k → k ≤ a + j → is_at st k sent ≡ false)
    → filter (is_on st) (filter is_named (take j cs)) ≡ []
none-named st sent a zero cs o none = refl
none-named st sent a (suc j) [] o none = refl
none-named st sent a (suc j) (c ∷ cs) o none =
    grind (arith, nat_tests, not_both, none-named st sent (a + 1) j cs o.1 (λ k lt le. none k (omega (arith, lt)) (omega (arith, le))))

-- ## Numbers

-- near the lowest number, before it or behind
not-between : (low j : ℕ) → low ≤ j + 2 ^ 14 → j ≤ low + 2 ^ 14
    → (distance16 (low % 2 ^ 16) (j % 2 ^ 16) < 2 ^ 15 - 1) ⊎ (2 ^ 15 + 2 ^ 14 ≤ distance16 (low % 2 ^ 16) (j % 2 ^ 16))
unfolding distance16
not-between low j a b = elim (cases_lt j low) [ inl lt ↦ inr (omega (arith, lt, a)) | inr ge ↦ inl (omega (arith, ge, b)) ]

not-far : (k : ℕ) → (k < 2 ^ 15 - 1) ⊎ (2 ^ 15 + 2 ^ 14 ≤ k) → (c : Bool)
    → ((nat_le (2 ^ 15) k && nat_lt k (2 ^ 15 + 2 ^ 14)) || ((k == 2 ^ 15 - 1) && c)) ≡ false
not-far k h2 c = grind (arith, nat_tests)

-- ## A FORWARD-TSN that may be made

module _ (first n : ℕ) (few : n < 2 ^ 31) (gone : List ℕ) (s : Session) (h : HasKept first n gone s) (f : ForwardTsn)
    (may : MayMake f s.sending.sender) (due : is_due_named f s.receiving.receiver ≡ true) where
  abbrev p : ℕ
  p = base first

  abbrev r : Reception
  r = s.receiving.receiver

  abbrev sent : List Entry
  sent = h.sent

  abbrev t : ℕ
  t = f.new_cumulative_tsn

  abbrev flight : Flight
  flight = s.sending.sender.flight

  abbrev spread : IsSpread first n s h.numbered h.sent
  spread = h.kept.unwrapped.spread

  abbrev a : ℕ
  a = spread.step.numbered.acked

  passable : IsPassable p n flight spread.step.numbered few t
  passable = grind (arith, nat_tests, common_steps, passable-skip, passable-end)

  name : Name f.streams (named_up_to t flight)
  name = elim may [ inl x ↦ x.1.1 | inr x ↦ x.1.2 ]

  abbrev m : ℕ
  m = passable.given.place

  steps : (st : ℕ) → AreSteps st sent a flight.queue.inflight.chunks
  steps st = grind (arith, nat_tests, common_steps, are-steps)

  on : (st : ℕ) → AreOn st sent a flight.queue.inflight.chunks
  on st = grind (arith, nat_tests, common_steps, are-on)

  far : ahead flight t ≡ m - a
  far = grind (arith, nat_tests, common_steps, passable, distance-tsn)

  module _ (x : ChunkForwardTsnStream) (in' : In x f.streams) (lead : is_ahead f r ≡ true) where
    abbrev st : ℕ
    st = x.identifier

    abbrev B : ℕ → ℕ
    B k = begun_to st k sent

    abbrev E : ℕ → Bool
    E k = is_at st k sent

    abbrev M : ChunkPayloadData → Type 0
    M c = WasSent sent (data_of c)

    abbrev d : AreDue p st n B E M a s.receiving
    d = (h.kept.unwrapped.answered st).0

    abbrev Prior : ℕ → Type 0
    Prior = Came p st n B E M r.cumulative_tsn r.beyond

    abbrev Late : ℕ → Type 0
    Late = IsLate first sent st r.cumulative_tsn r.beyond

    abbrev Both : Option InboundStream → Type 0
    Both o = DueOn p st n B E M Prior d.k d.reach o × HeldWell first sent st n a Late o

    own : In x (filter (is_pair_of st) f.streams)
    own = in-those (is_pair_of st) x f.streams (same-yes st) in'

    -- a chunk that it passes is an ordered one of the stream
    fragment-there : (z : ℕ) × (a < z) × (z ≤ m) × (is_at st z sent ≡ true) × (B z ≡ B m)
    fragment-there = elim (last-at st a m sent) [
      | inr z ↦ z
      | inl none ↦
          let past = passable.past in
          let nothing : filter (is_on st) (named_up_to t flight) ≡ [] =
          none-named st sent a (ahead flight t) flight.queue.inflight.chunks (on st) (λ k lt le. none k lt (omega (arith, le, far, past))) in
          absurd (subst (In x) (name st ∙ ap (λ cs. pairs_of (last_of cs)) nothing) own)
    ]

    -- its number is that of the last message begun up to there
    number-is : (k : ℕ) × (k + 1 ≡ B m) × (x.sequence ≡ k % 2 ^ 16)
    number-is = by (named st p n sent flight spread.step.numbered few spread.long (steps st) (on st) f passable name)
      where
        by : IsNaming st p a sent f → (k : ℕ) × (k + 1 ≡ B m) × (x.sequence ≡ k % 2 ^ 16)
        by i = grind (arith, nat_tests, common_steps, own, passable, same-place)

    near-name : (l : InboundStream) → stream_of st r ≡ Some l → message_read l.queue.held ≡ None → is_name_too_far x.sequence l.queue.held ≡ false
    near-name l there none =
        let b : Both (Some l) = subst Both there (d.due, (h.kept.kept st).holds) in
        let e = b.0 in
        let up = sessions.grows st first all_streams none_dropped refl n s h.numbered sent spread few in
        let low = begun-low st first n few s h.numbered sent spread d l.queue.held e Late b.1.current none in
        let near = sessions.near st first all_streams none_dropped refl n s h.numbered sent spread few in
        let least = up a d.arrived.place d.arrived.least_is in
        let v = passable.given.within in
        let top = up m n v in
        let k = number-is.1 in
        let z = fragment-there in
        let zm = z.4 in
        let tight = h.kept.tight st z.0 z.1 z.3 in
        let long = spread.long in
        let all = to-all st n sent (omega (arith, long)) in
        let from = e.from in
        let within = e.within in
        let most = d.most in
        let close = not-between e.low number-is.0 (omega (arith, from, within, most, tight, all, zm, k)) (omega (arith, k, top, near, least, low)) in
        let same : distance16 (lowest_ssn l.queue.held) x.sequence ≡ distance16 (e.low % 2 ^ 16) (number-is.0 % 2 ^ 16) =
        ap (λ j. distance16 j x.sequence) e.lowest ∙ ap (distance16 (e.low % 2 ^ 16)) number-is.2 in
        grind (arith, nat_tests, not-far)

    not-named-far : is_named_too_far x (stream_of st r) ≡ false
    not-named-far = grind (arith, nat_tests, all-in, both, near-name)

  open-all : list_any (λ y. not (is_open y.identifier r)) f.streams ≡ false
  open-all = grind (arith, nat_tests, common_steps, none-in, not, all-in)

  near-all : (b : Bool) → is_ahead f r ≡ b → (b && list_any (λ y. is_named_too_far y (stream_of y.identifier r)) f.streams) ≡ false
  near-all false e = refl
  near-all true e = none-in (λ y. is_named_too_far y (stream_of y.identifier r)) f.streams (λ y i. not-named-far y i e)

  pub made-taken : skip_refusal f r ≡ None
  made-taken =
      let near = answered.near p n r (known s) few spread.step.arrived spread.step.order t passable.given in
      ap (λ b. if b then Some NamedStreamUnknown else (if names_too_far f r then Some NamedSsnTooFar else forward_refusal f r)) (closed (is_ahead f r))
      ∙ ap (λ b. if b then Some NamedSsnTooFar else forward_refusal f r) (near-all (is_ahead f r) refl)
      ∙ ap (λ b. if b then Some TsnOpposite else None) near
    where
      closed : (b : Bool) → (b && list_any (λ y. not (is_open y.identifier r)) f.streams) ≡ false
      closed true = open-all
      closed false = refl

pub none-made : WhileFewTsns NoneMadeIsRefused
none-made tsn size max most limits cs s small some run few f may due =
    made-taken tsn (tsns_given (at_start tsn size max most limits) cs s run) few (abandoned_in (at_start tsn size max most limits) cs s run) s
    (kept-in tsn size max most limits cs s small some run few) f may due
