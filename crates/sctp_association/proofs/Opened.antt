-- A stream that opens for a call, and is closed again where the call is refused.
use Rattle.std.proofs.Common.{◌≡◌, ℕ, Bool, true, false, List, [], ◌∷◌, ◌++◌, Option, Some, None, refl, ap, ◌∙◌}
use Rattle.std.specs.Prelude.{find, is_some, not, if◌then◌else◌}
use Rattle.sctp_association.specs.Waiting.{closed_where, opened}
use Rattle.sctp_sender.specs.Outgoing.{has_number}
use Rattle.sctp_sender.specs.Sender.{Transmission, close_stream, is_open, open_stream}
use Rattle.sctp_stream.proofs.StreamPlaces.{taken-back}
use Rattle.sctp_stream.specs.Stream.{new_stream}
use Rattle.sctp_util.proofs.Cases.{same-yes}

pub none-of : {X : Type 0} (o : Option X) → is_some o ≡ false → o ≡ None
none-of None e = refl
none-of (Some x) e = absurd (cc)

undone : (s : ℕ) (t : Transmission) → is_open s t ≡ false → close_stream s (open_stream s t) ≡ t
undone s t shut =
    ap (λ ss. let y : Transmission = record t { streams = ss } in y)
    (taken-back (has_number s) t.streams (new_stream s t.fragment_size) (same-yes s) (none-of (find (has_number s) t.streams) shut))

pub found-last : {X : Type 0} (p : X → Bool) (xs : List X) (y : X) → p y ≡ true → is_some (find p (xs ++ y ∷ [])) ≡ true
found-last p [] y h = ap (λ b. is_some (if b then Some y else None)) h
found-last p (x ∷ xs) y h = by (p x) (found-last p xs y h)
  where
    by : (b : Bool) → is_some (find p (xs ++ y ∷ [])) ≡ true → is_some (if b then Some x else find p (xs ++ y ∷ [])) ≡ true
    by true e = refl
    by false e = e

pub opened_is : (s : ℕ) (t : Transmission) → is_open s (opened s t) ≡ true
opened_is s t = by (is_open s t) refl
  where
    by : (b : Bool) → is_open s t ≡ b → is_open s (if b then t else open_stream s t) ≡ true
    by true e = e
    by false e = found-last (has_number s) t.streams (new_stream s t.fragment_size) (same-yes s)

-- a stream that was opened for a call is closed again
pub restored : (s : ℕ) (t x : Transmission) (b : Bool) → b ≡ not (is_open s t) → x ≡ opened s t → closed_where b s x ≡ t
restored s t x b is e = ap (closed_where b s) e ∙ ap (λ a. closed_where a s (opened s t)) is ∙ by (is_open s t) refl
  where
    by : (a : Bool) → is_open s t ≡ a → closed_where (not a) s (if a then t else open_stream s t) ≡ t
    by true h = refl
    by false h = undone s t h

pub apart : false ≡ true → ⊥
apart e = cc
