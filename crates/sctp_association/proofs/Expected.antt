-- Of which packets something is taken.
use Rattle.std.proofs.Common.{◌≡◌, ◌⊎◌, ◌<◌, ℕ, Bool, true, false, List, drop, length, Option, None, Some, refl, ap, sym, subst, ◌∙◌, inl, inr, arith}
use Rattle.std.proofs.lemmas.Bool.{and_parts, cases_Bool, false≢true, lt-ltb, ne_eqb}
use Rattle.std.specs.Prelude.{◌==◌, ◌&&◌, ◌≢◌, not, nat_lt, Result, Ok, Err, IfOk, if◌then◌else◌}
use Rattle.sctp_association.proofs.Coming.{if_ok}
use Rattle.sctp_association.proofs.Going.{due_begun}
use Rattle.sctp_association.specs.Coming.{goes_on, is_due}
use Rattle.sctp_association.specs.Expected.{AsExpected, IsEchoExpected, IsExpected, IsInitAckExpected}
use Rattle.sctp_association.specs.Expected.{IsInitExpected, expects, is_expected, is_closed, takes_resets}
use Rattle.sctp_association.specs.Steps.{is_taken}
use Rattle.sctp_association.specs.declared.association.Association.{Association}
use Rattle.sctp_association.specs.declared.association.Reason.{Reason}
use Rattle.sctp_association.specs.declared.association.arrivals.Step.{Step}
use Rattle.sctp_association.specs.declared.association.arrivals.Step.TheVariants.{Next, Stop, Cut, Refused}
use Rattle.sctp_association.specs.declared.fault.Fault.{Fault}
use Rattle.sctp_association.specs.Reports.{value_in}
use Rattle.sctp_chunks.specs.Framing.{type_at}
use Rattle.sctp_datagram.proofs.Alone.{no-frame-fault}
use Rattle.sctp_datagram.specs.InPlace.{NoInitFault}
use Rattle.sctp_datagram.specs.Places.{IsPlace}
use Rattle.sctp_datagram.specs.declared.datagram.ChunkPlace.{ChunkPlace}
use Rattle.sctp_handshake.specs.Beginnings.{init_checked, init_reply, init_row}
use Rattle.sctp_datagram.specs.declared.params.ParamPlace.{ParamPlace}
use Rattle.sctp_handshake.specs.InitValues.{init_in, numbers_in, said_from}
use Rattle.sctp_handshake.specs.InitValues as values
use Rattle.sctp_handshake.specs.declared.init_value.InitFault.{InitFault}
use Rattle.sctp_handshake.specs.Offers.{has_no_streams, offer_fault}
use Rattle.sctp_handshake.specs.declared.init_value.InitFault.TheVariants.{ShortValue}
use Rattle.sctp_handshake.specs.declared.init_value.Said.{Said}
use Rattle.sctp_handshake.specs.declared.machine.Machine.{Machine}
use Rattle.sctp_handshake.specs.declared.offer.Offer.{Offer}
use Rattle.sctp_handshake.specs.declared.offer.OfferFault.{OfferFault}
use Rattle.sctp_handshake.specs.declared.offer.OfferFault.TheVariants.{NoTag, NoStreams, SmallWindow}
use Rattle.sctp_util.specs.declared.error.Error.{Error}
use Rattle.sctp_handshake.specs.declared.state.State.{State}
use Rattle.sctp_handshake.specs.declared.state.State.TheVariants.{Closed, CookieWait}

not-closed : (s : State) → not (is_closed s) ≡ true → s ≡ Closed → ⊥
not-closed s going closed = false≢true (sym (ap (λ s. not (is_closed s)) closed) ∙ going)

-- none is in Closed
expects_begun : (typ : ℕ) (a : Association) → is_expected typ a ≡ true → a.machine.state ≡ Closed → ⊥
expects_begun typ a e closed = elim (cases_Bool (goes_on typ)) [
  | inl on ↦ due_begun typ a (sym (ap (λ b. if b then is_due typ a else not (is_closed a.machine.state) && expects typ a) on) ∙ e) closed
  | inr off ↦ not-closed a.machine.state (and_parts (not (is_closed a.machine.state)) (expects typ a)
      (sym (ap (λ b. if b then is_due typ a else not (is_closed a.machine.state) && expects typ a) off) ∙ e)).0 closed
]

-- by itself no chunk of this type is expected
expected_none : (a : Association) (n : ℕ) → goes_on n ≡ false → expects n a ≡ false → is_expected n a ≡ true → ⊥
expected_none a n off none e =
    false≢true (sym none ∙ (and_parts (not (is_closed a.machine.state)) (expects n a)
    (sym (ap (λ b. if b then is_due n a else not (is_closed a.machine.state) && expects n a) off) ∙ e)).1)

module _ (c : ChunkPlace) (tag : ℕ) (d : List ℕ) (now : ℕ) (a : Association) (expected : IsExpected c tag d now a) where
  -- in Closed only a cookie and an INIT are expected
  pub expected_begun : (c.typ ≡ 10 → ⊥) → (c.typ ≡ 1 → ⊥) → a.machine.state ≡ Closed → ⊥
  expected_begun n10 n1 closed = elim expected [
    | inl h ↦ expects_begun c.typ a h closed
    | inr (inl e) ↦ n10 e.typ
    | inr (inr (inl e)) ↦ n1 e.typ
    | inr (inr (inr e)) ↦ waits≢closed (sym e.waits ∙ closed)
  ]
    where
      waits≢closed : CookieWait ≡ Closed → ⊥
      waits≢closed e = cc

  -- of a chunk of this type, which is no cookie, INIT or INIT ACK
  pub expected_at : (n : ℕ) → c.typ ≡ n → (n ≡ 10 → ⊥) → (n ≡ 1 → ⊥) → (n ≡ 2 → ⊥) → is_expected n a ≡ true
  expected_at n is n10 n1 n2 = elim expected [
    | inl h ↦ sym (ap (λ k. is_expected k a) is) ∙ h
    | inr (inl e) ↦ absurd (n10 (sym is ∙ e.typ))
    | inr (inr (inl e)) ↦ absurd (n1 (sym is ∙ e.typ))
    | inr (inr (inr e)) ↦ absurd (n2 (sym is ∙ e.typ))
  ]

  never : (n : ℕ) → c.typ ≡ n → goes_on n ≡ false → expects n a ≡ false → is_expected c.typ a ≡ true → ⊥
  never n is off none h = expected_none a n off none (sym (ap (λ n. is_expected n a) is) ∙ h)

  pub expected_echo : c.typ ≡ 10 → IsEchoExpected c tag d now a
  expected_echo is = elim expected [
    | inl h ↦ absurd (never 10 is refl refl h)
    | inr (inl e) ↦ e
    | inr (inr (inl e)) ↦ absurd (omega (arith, is, e.typ))
    | inr (inr (inr e)) ↦ absurd (omega (arith, is, e.typ))
  ]

  pub expected_init : c.typ ≡ 1 → IsInitExpected c d
  expected_init is = elim expected [
    | inl h ↦ absurd (never 1 is refl refl h)
    | inr (inl e) ↦ absurd (omega (arith, is, e.typ))
    | inr (inr (inl e)) ↦ e
    | inr (inr (inr e)) ↦ absurd (omega (arith, is, e.typ))
  ]

  pub expected_init_ack : c.typ ≡ 2 → IsInitAckExpected c d a
  expected_init_ack is = elim expected [
    | inl h ↦ absurd (never 2 is refl refl h)
    | inr (inl e) ↦ absurd (omega (arith, is, e.typ))
    | inr (inr (inl e)) ↦ absurd (omega (arith, is, e.typ))
    | inr (inr (inr e)) ↦ e
  ]

-- a control chunk
pub expected_control : (a : Association) (n : ℕ) → (n ≡ 0 → ⊥) → (n ≡ 3 → ⊥) → (n ≡ 192 → ⊥) → is_expected n a ≡ true
    → (a.machine.state ≡ Closed → ⊥) × (expects n a ≡ true)
expected_control a n n0 n3 n192 e =
    let off : goes_on n ≡ false = rw (ne_eqb n 0 n0) (rw (ne_eqb n 3 n3) (ne_eqb n 192 n192)) in
    let both = and_parts (not (is_closed a.machine.state)) (expects n a)
    (sym (ap (λ b. if b then is_due n a else not (is_closed a.machine.state) && expects n a) off) ∙ e) in
    (λ closed. not-closed a.machine.state both.0 closed, both.1)

-- ## Where a chunk is taken

pub as_taken : (e : Bool) (s : Step) → e ≡ true → ((k : Reason) → s ≡ Refused k → ⊥) → AsExpected e s
as_taken e Next is never = is
as_taken e Stop is never = is
as_taken e Cut is never = is
as_taken e (Refused k) is never = absurd (never k refl)

module _ (e : Bool) (r : Result Step Fault) (h : IfOk r (λ s. AsExpected e s)) where
  pub never_refused : (k : Reason) → e ≡ true → r ≡ Ok (Refused k) → ⊥
  never_refused k is refused = false≢true (sym (if_ok (λ s. AsExpected e s) r (Refused k) refused h).1 ∙ is)

  pub as_same : (d : Bool) → e ≡ d → IfOk r (λ s. AsExpected d s)
  as_same d same = subst (λ (k : Bool). IfOk r (λ s. AsExpected k s)) same h

  taken-where : (s : Step) → AsExpected e s → is_taken s ≡ true → e ≡ true
  taken-where Next is took = is
  taken-where Stop is took = is
  taken-where Cut is took = is
  taken-where (Refused k) is took = absurd (false≢true took)

  pub taken_where : (s : Step) → r ≡ Ok s → is_taken s ≡ true → e ≡ true
  taken_where s is took = taken-where s (if_ok (λ s. AsExpected e s) r s is h) took

pub and_none : (b : Bool) → (b && false) ≡ false
and_none true = refl
and_none false = refl

-- in Closed nothing is
pub closed_unexpected : (typ : ℕ) (a : Association) → a.machine.state ≡ Closed → is_expected typ a ≡ false
closed_unexpected typ a closed = elim (cases_Bool (is_expected typ a)) [
  | inl is ↦ absurd (expects_begun typ a is closed)
  | inr off ↦ off
]

open-state : (s : State) → (s ≡ Closed → ⊥) → is_closed s ≡ false
open-state Closed begun = absurd (begun refl)
open-state _ begun = refl

pub control_expected : (a : Association) (n : ℕ) → (n ≡ 0 → ⊥) → (n ≡ 3 → ⊥) → (n ≡ 192 → ⊥) → (a.machine.state ≡ Closed → ⊥)
    → expects n a ≡ is_expected n a
control_expected a n n0 n3 n192 begun =
    let off : goes_on n ≡ false = rw (ne_eqb n 0 n0) (rw (ne_eqb n 3 n3) (ne_eqb n 192 n192)) in
    sym (ap (λ b. if b then is_due n a else not (is_closed a.machine.state) && expects n a) off
    ∙ ap (λ b. not b && expects n a) (open-state a.machine.state begun))

pub resets_expected : (s : State) → takes_resets s ≡ (not (is_closed s) && takes_resets s)
resets_expected Closed = refl
resets_expected _ = refl

-- a chunk of an unknown type is expected
pub unknown_expected : (a : Association) (n : ℕ) → (n ≡ 1 → ⊥) → (n ≡ 2 → ⊥) → (n ≡ 4 → ⊥) → (n ≡ 5 → ⊥) → (n ≡ 6 → ⊥) → (n ≡ 7 → ⊥) → (n ≡ 8 → ⊥)
    → (n ≡ 10 → ⊥) → (n ≡ 11 → ⊥) → (n ≡ 14 → ⊥) → (n ≡ 130 → ⊥) → expects n a ≡ true
unknown_expected a n n1 n2 n4 n5 n6 n7 n8 n10 n11 n14 n130 =
    rw (ne_eqb n 4 n4) (rw (ne_eqb n 5 n5) (rw (ne_eqb n 6 n6) (rw (ne_eqb n 8 n8) (rw (ne_eqb n 14 n14) (rw (ne_eqb n 7 n7) (rw (ne_eqb n 11 n11)
    (rw (ne_eqb n 130 n130) (rw (ne_eqb n 1 n1) (rw (ne_eqb n 2 n2) (rw (ne_eqb n 10 n10) refl))))))))))

-- ## An INIT and an INIT ACK are read

init-long : (value : List ℕ) (said : Said) → init_in value ≡ Ok said → length value < 16 → ⊥
init-long value said reads short = by (nat_lt (length value) 16) (lt-ltb (length value) 16 short) reads
  where
    short≢ok : (said : Said) → Err ShortValue ≡ Ok said → ⊥
    short≢ok said e = cc

    by : (b : Bool) → b ≡ true → (if b then Err ShortValue else said_from (length value) value 16 (numbers_in value)) ≡ Ok said → ⊥
    by true is e = short≢ok said e
    by false is e = false≢true is

-- the value of a chunk that is there is found, where it says something
pub value_long : (d : List ℕ) (c : ChunkPlace) → IsPlace d c → (c.typ ≡ 1) ⊎ (c.typ ≡ 2) → (length (value_in d c) < 16 → ⊥)
    → (bytes : List ℕ) → bytes ≡ drop c.at d → (e : Error) → NoInitFault e bytes → ⊥
value_long d c place typ long bytes cut e fault =
    by (subst (NoInitFault e) cut fault)
  where
    is : type_at (drop c.at d) ≡ c.typ
    is = sym (ap (λ (k : ChunkPlace). k.typ) place.told)

    by : NoInitFault e (drop c.at d) → ⊥
    by (inl frame) = no-frame-fault e (drop c.at d) place.there.is_framed frame
    by (inr (inl other)) = elim typ [
      | inl one ↦ other.2 (is ∙ one)
      | inr two ↦ other.3 (is ∙ two)
    ]
    by (inr (inr short)) = long short.2

pub value_found : (d : List ℕ) (c : ChunkPlace) → IsPlace d c → (c.typ ≡ 1) ⊎ (c.typ ≡ 2) → (said : Said) → init_in (value_in d c) ≡ Ok said
    → (bytes : List ℕ) → bytes ≡ drop c.at d → (e : Error) → NoInitFault e bytes → ⊥
value_found d c place typ said reads bytes cut e fault =
    value_long d c place typ (init-long (value_in d c) said reads) bytes cut e fault

-- an offer with a tag is answered
row-answers : (s : State) (peer : Offer) (tag : ℕ) (m : Machine) → init_row s peer tag m ≡ None → ⊥
row-answers Closed peer tag m e = cc
row-answers _ peer tag m e = cc

checked-answers : (f : Option OfferFault) (peer : Offer) (tag : ℕ) (m : Machine) → (f ≡ Some NoTag → ⊥) → init_checked f peer tag m ≡ None → ⊥
checked-answers None peer tag m other e = row-answers m.state peer tag m e
checked-answers (Some NoTag) peer tag m other e = other refl
checked-answers (Some NoStreams) peer tag m other e = cc
checked-answers (Some SmallWindow) peer tag m other e = cc

pub offer_answered : (peer : Offer) (tag : ℕ) (m : Machine) → peer.tag ≢ 0 → init_reply peer tag m ≡ None → ⊥
offer_answered peer tag m tagged e = checked-answers (offer_fault peer) peer tag m fault e
  where
    by : (a b c : Bool) → a ≡ false
        → (if a then Some NoTag else (if b then Some NoStreams else (if c then Some SmallWindow else None))) ≡ Some NoTag → ⊥
    by true b c off e = false≢true (sym off)
    by false true c off e = cc
    by false false true off e = cc
    by false false false off e = cc

    fault : offer_fault peer ≡ Some NoTag → ⊥
    fault f = by (peer.tag == 0) (has_no_streams peer) (nat_lt peer.window 1500) (ne_eqb peer.tag 0 tagged) f

-- an INIT ACK of which the cookie is found was read
pub said_of : (r : Result Said InitFault) (x : Offer × ParamPlace) → values.cookie_in r ≡ Ok x → (said : Said) × (r ≡ Ok said)
said_of (Ok said) x e = (said, refl)
said_of (Err k) x e = absurd (err≢ok k x e)
  where
    err≢ok : (k : InitFault) (x : Offer × ParamPlace) → Err k ≡ Ok x → ⊥
    err≢ok k x e = cc
