-- Which streams fell to their low threshold, as messages are dropped.
use Rattle.std.proofs.Common.{◌≡◌, ◌⊎◌, inl, inr, ℕ, zero, suc, ◌<◌, arith, Bool, true, false, List, [], ◌∷◌, length, Option, Some, refl, ap, sym, subst, ◌∙◌}
use Rattle.std.proofs.lemmas.Bool.{and_parts, eqb-true, false≢true, lt-ltb, ltb-true}
use Rattle.std.specs.List.{find, list_any}
use Rattle.std.specs.Prelude.{IfSome, ◌==◌, ◌&&◌, ◌||◌, nat_lt, not, if◌then◌else◌}
use Rattle.sctp_association.specs.Brought.{AddsOnly}
use Rattle.sctp_association.specs.Lows.{AddsWhere, PutsAll, tells_drop_low}
use Rattle.sctp_association.specs.StreamSet.{is_in}
use Rattle.sctp_association.specs.Telling.{Stays}
use Rattle.sctp_sender.specs.Drops.{list_in, run_in}
use Rattle.sctp_sender.specs.Outgoing.{after_expiries, has_number}
use Rattle.sctp_sender.specs.Sender.{Transmission, after_expire_run, stream_of}
use Rattle.sctp_sender.specs.Thresholds.{fell, is_above, tells_message_low}
use Rattle.sctp_sender.specs.declared.sender.Dropped.{Dropped}
use Rattle.sctp_sender.specs.declared.sender.Dropped.TheVariants.{Abandoned, Expired}
use Rattle.sctp_sender.proofs.Lows.{expiry-number}
use Rattle.sctp_stream.specs.declared.outbound_stream.OutboundStream.{OutboundStream}
use Rattle.sctp_util.specs.Lists.{change_where}

-- ## One call

-- another stream is as it was before a change of one
found-other : (f : OutboundStream → OutboundStream) → ((l : OutboundStream) → (f l).stream_identifier ≡ l.stream_identifier) → (s t : ℕ)
    → (t == s) ≡ false → (ls : List OutboundStream) → find (has_number s) (change_where (has_number t) f ls) ≡ find (has_number s) ls
found-other f keeps s t ne [] = refl
found-other f keeps s t ne (l ∷ ls) = by (has_number t l) refl (found-other f keeps s t ne ls)
  where
    by : (b : Bool) → has_number t l ≡ b → find (has_number s) (change_where (has_number t) f ls) ≡ find (has_number s) ls
        → find (has_number s) ((if b then f l else l) ∷ change_where (has_number t) f ls) ≡ find (has_number s) (l ∷ ls)
    by true e ih =
        let no : has_number s l ≡ false = ap (λ n. n == s) (eqb-true l.stream_identifier t e) ∙ ne in
        ap (λ b. if b then Some (f l) else find (has_number s) (change_where (has_number t) f ls)) (ap (λ n. n == s) (keeps l) ∙ no) ∙ ih
        ∙ sym (ap (λ b. if b then Some l else find (has_number s) ls) no)
    by false e ih = ap (λ o. if has_number s l then Some l else o) ih

never : (b : Bool) → (b && not b) ≡ true → ⊥
never true e = false≢true e
never false e = false≢true e

told-by : (now : ℕ) (d : Dropped) (old new : Transmission)
    → IfSome (run_in (Some d)) (λ g. new ≡ after_expire_run g.stream g.unordered g.messages g.bytes now old)
    → IfSome (run_in (Some d)) (λ g. g.is_low ≡ fell g.stream old new)
    → IfSome (list_in (Some d)) (λ gone. (s : ℕ) → list_any (tells_message_low s) gone ≡ fell s old new)
    → (s : ℕ) → fell s old new ≡ true → tells_drop_low s d ≡ true
told-by now (Expired g) old new run low gone s h = by (g.stream == s) refl
  where
    by : (b : Bool) → (g.stream == s) ≡ b → (b && g.is_low) ≡ true
    by true e = low ∙ ap (λ n. fell n old new) (eqb-true g.stream s e) ∙ h
    by false e =
        let same : stream_of s new ≡ stream_of s old = ap (λ (t : Transmission). find (has_number s) t.streams) run
        ∙ found-other (after_expiries g.unordered g.messages g.bytes) (expiry-number g.unordered g.messages g.bytes) s g.stream e old.streams in
        absurd (never (is_above (stream_of s old)) (subst (λ o. (is_above (stream_of s old) && not (is_above o)) ≡ true) same h))
told-by now (Abandoned gone) old new run low all s h = all s ∙ h

-- each stream whose amount fell is among those that the answer tells
pub told_in : (now : ℕ) (o : Option Dropped) (d : Dropped) → o ≡ Some d → (old new : Transmission)
    → IfSome (run_in o) (λ g. new ≡ after_expire_run g.stream g.unordered g.messages g.bytes now old)
    → IfSome (run_in o) (λ g. g.is_low ≡ fell g.stream old new)
    → IfSome (list_in o) (λ gone. (s : ℕ) → list_any (tells_message_low s) gone ≡ fell s old new)
    → (s : ℕ) → fell s old new ≡ true → tells_drop_low s d ≡ true
told_in now o d is old new run low gone = told-by now d old new
    (subst (λ p. IfSome (run_in p) (λ g. new ≡ after_expire_run g.stream g.unordered g.messages g.bytes now old)) is run)
    (subst (λ p. IfSome (run_in p) (λ g. g.is_low ≡ fell g.stream old new)) is low)
    (subst (λ p. IfSome (list_in p) (λ all. (s : ℕ) → list_any (tells_message_low s) all ≡ fell s old new)) is gone)

-- ## One call after another

fell-then : (x y z : Bool) → (x && not z) ≡ true → ((x && not y) ≡ true) ⊎ ((y && not z) ≡ true)
fell-then true true z h = inr h
fell-then true false z h = inl refl
fell-then false y z h = absurd (false≢true h)

pub puts_then : (a b c : Transmission) (test : ℕ → Bool) (l m n : List Bool) → ((s : ℕ) → fell s b c ≡ true → test s ≡ true)
    → PutsAll (λ s. fell s a b) l m → length m ≡ length l → Stays m n → PutsAll test m n → PutsAll (λ s. fell s a c) l n
puts_then a b c test l m n tells first room stays second s h lt =
    elim (fell-then (is_above (stream_of s a)) (is_above (stream_of s b)) (is_above (stream_of s c)) h) [
      | inl x ↦ stays s (first s x lt)
      | inr y ↦ second s (tells s y) (subst (λ k. s < k) (sym room) lt)
    ]

-- no stream changes
pub puts_same : (a b c : Transmission) (l m : List Bool) → c.streams ≡ b.streams → PutsAll (λ s. fell s a b) l m → PutsAll (λ s. fell s a c) l m
puts_same a b c l m same first s h lt =
    first s (ap (λ (ls : List OutboundStream). is_above (stream_of s a) && not (is_above (find (has_number s) ls))) (sym same) ∙ h) lt

pub puts_none : (a : Transmission) (l m : List Bool) → PutsAll (λ s. fell s a a) l m
puts_none a l m s h lt = absurd (never (is_above (stream_of s a)) h)

-- where the streams are the same no amount falls
pub fell_same : (s : ℕ) (a b : Transmission) → b.streams ≡ a.streams → fell s a b ≡ true → ⊥
fell_same s a b same h = never (is_above (stream_of s a))
    (ap (λ (ls : List OutboundStream). is_above (stream_of s a) && not (is_above (find (has_number s) ls))) (sym same) ∙ h)

pub puts_alike : (a b : Transmission) (l : List Bool) → b.streams ≡ a.streams → PutsAll (λ s. fell s a b) l l
puts_alike a b l same s h lt = absurd (fell_same s a b same h)

-- ## No other stream

-- the answer tells only streams whose amount fell
told-only : (d : Dropped) (old new : Transmission) → IfSome (run_in (Some d)) (λ g. g.is_low ≡ fell g.stream old new)
    → IfSome (list_in (Some d)) (λ gone. (s : ℕ) → list_any (tells_message_low s) gone ≡ fell s old new)
    → (s : ℕ) → tells_drop_low s d ≡ true → fell s old new ≡ true
told-only (Expired g) old new low gone s h =
    let parts = and_parts (g.stream == s) g.is_low h in
    ap (λ n. fell n old new) (sym (eqb-true g.stream s parts.0)) ∙ sym low ∙ parts.1
told-only (Abandoned gone) old new low all s h = sym (all s) ∙ h

pub only_told : (o : Option Dropped) (d : Dropped) → o ≡ Some d → (old new : Transmission)
    → IfSome (run_in o) (λ g. g.is_low ≡ fell g.stream old new)
    → IfSome (list_in o) (λ gone. (s : ℕ) → list_any (tells_message_low s) gone ≡ fell s old new)
    → (s : ℕ) → tells_drop_low s d ≡ true → fell s old new ≡ true
only_told o d is old new low gone = told-only d old new
    (subst (λ p. IfSome (run_in p) (λ g. g.is_low ≡ fell g.stream old new)) is low)
    (subst (λ p. IfSome (list_in p) (λ all. (s : ℕ) → list_any (tells_message_low s) all ≡ fell s old new)) is gone)

not-from : (b : Bool) → (b ≡ true → ⊥) → not b ≡ true
not-from true f = absurd (f refl)
not-from false f = refl

-- an amount that was above before, and is not any more
fell-by : (s : ℕ) (a b : Transmission) → is_above (stream_of s a) ≡ true → not (is_above (stream_of s b)) ≡ true → fell s a b ≡ true
fell-by s a b over under = ap (λ x. x && not (is_above (stream_of s b))) over ∙ under

-- one call after another, by each of which no amount rises
pub only_then : (a b c : Transmission) (test : ℕ → Bool) (l m n : List Bool) → ((s : ℕ) → is_above (stream_of s b) ≡ true → is_above (stream_of s a) ≡ true)
    → ((s : ℕ) → is_above (stream_of s c) ≡ true → is_above (stream_of s b) ≡ true) → ((s : ℕ) → test s ≡ true → fell s b c ≡ true)
    → AddsOnly (λ s. fell s a b ≡ true) l m → AddsOnly (λ s. test s ≡ true) m n → AddsOnly (λ s. fell s a c ≡ true) l n
only_then a b c test l m n first next tells f g s w = elim (g s w) [
  | inl h ↦ elim (f s h) [
    | inl x ↦ inl x
    | inr x ↦
        let parts = and_parts (is_above (stream_of s a)) (not (is_above (stream_of s b))) x in
        inr (fell-by s a c parts.0 (not-from (is_above (stream_of s c)) (λ e. never (is_above (stream_of s b))
        (ap (λ y. y && not (is_above (stream_of s b))) (next s e) ∙ parts.1))))
  ]
  | inr x ↦
      let parts = and_parts (is_above (stream_of s b)) (not (is_above (stream_of s c))) (tells s x) in
      inr (fell-by s a c (first s parts.0) parts.1)
]

pub only_same : (a b c : Transmission) (l m : List Bool) → c.streams ≡ b.streams → AddsOnly (λ s. fell s a b ≡ true) l m
    → AddsOnly (λ s. fell s a c ≡ true) l m
only_same a b c l m same f s w = elim (f s w) [
  | inl x ↦ inl x
  | inr x ↦ inr (ap (λ (ls : List OutboundStream). is_above (stream_of s a) && not (is_above (find (has_number s) ls))) same ∙ x)
]

-- ## Exactly these

in-below : (s : ℕ) (l : List Bool) → is_in s l ≡ true → s < length l
in-below s [] h = absurd (false≢true h)
in-below zero (x ∷ l) h = omega arith
in-below (suc s) (x ∷ l) h = let lt = in-below s l h in omega (arith, lt)

pub adds_where : (test : ℕ → Bool) (l m : List Bool) → Stays l m → length m ≡ length l → PutsAll test l m → AddsOnly (λ s. test s ≡ true) l m
    → AddsWhere test l m
adds_where test l m stays room all only s = by (is_in s l) (is_in s m) refl refl
  where
    inside : is_in s m ≡ true → s < length l
    inside h = subst (λ k. s < k) room (in-below s m h)

    out : (t : Bool) → test s ≡ t → (lt : Bool) → nat_lt s (length l) ≡ lt → is_in s m ≡ true → is_in s l ≡ false → (t && lt) ≡ true
    out true t true lt h off = refl
    out true t false lt h off = sym lt ∙ lt-ltb s (length l) (inside h)
    out false t lt is h off = elim (only s h) [
      | inl x ↦ absurd (false≢true (sym off ∙ x))
      | inr x ↦ absurd (false≢true (sym t ∙ x))
    ]

    none : (t : Bool) → test s ≡ t → (lt : Bool) → nat_lt s (length l) ≡ lt → is_in s m ≡ false → (t && lt) ≡ false
    none true t true lt off = absurd (false≢true (sym off ∙ all s t (ltb-true s (length l) lt)))
    none true t false lt off = refl
    none false t lt is off = refl

    by : (x y : Bool) → is_in s l ≡ x → is_in s m ≡ y → is_in s m ≡ (is_in s l || (test s && nat_lt s (length l)))
    by true y was is = stays s was ∙ sym (ap (λ b. b || (test s && nat_lt s (length l))) was)
    by false true was is = is ∙ sym (ap (λ b. b || (test s && nat_lt s (length l))) was ∙ out (test s) refl (nat_lt s (length l)) refl is was)
    by false false was is = is ∙ sym (ap (λ b. b || (test s && nat_lt s (length l))) was ∙ none (test s) refl (nat_lt s (length l)) refl is)

-- where the streams are the same none is added
pub where_same : (a b : Transmission) (l m : List Bool) → b.streams ≡ a.streams → m ≡ l → AddsWhere (λ s. fell s a b) l m
where_same a b l m same is = adds_where (λ s. fell s a b) l m (λ s h. ap (is_in s) is ∙ h) (ap (λ k. length k) is)
    (λ s h lt. absurd (fell_same s a b same h)) (λ s h. inl (sym (ap (is_in s) is) ∙ h))

-- what is so behind the first call is so behind the next, which leaves the streams and the set
pub where_then : (a b c : Transmission) (l m n : List Bool) → c.streams ≡ b.streams → n ≡ m → AddsWhere (λ s. fell s a b) l m
    → AddsWhere (λ s. fell s a c) l n
where_then a b c l m n same is h s = ap (is_in s) is ∙ h s
    ∙ ap (λ (ls : List OutboundStream). is_in s l || ((is_above (stream_of s a) && not (is_above (find (has_number s) ls))) && nat_lt s (length l)))
    (sym same)
