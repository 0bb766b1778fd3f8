-- The header of a capture of which some bytes are held, and what is left behind it.
use Rattle.std.proofs.Common.{◌≡◌, ℕ, ◌+◌, ◌<◌, ◌≤◌, List, ◌++◌, length, drop, Some, None, IfSome, refl, ap, sym, ◌∙◌, inl, inr, arith}
use Rattle.std.specs.Prelude.{Option, ◌⊎◌}
use Rattle.std.specs.Io.KnownBytes.{Keeps, IsAtEnd, prepend_known}
use Rattle.std.proofs.lemmas.List.{append-nil, length-append}
use Rattle.std.proofs.lemmas.Bool.{cases_lt}
use Rattle.std.proofs.lemmas.Bool.Decides.{nat_tests}
use Rattle.sctp_capture.specs.declared.record.Head.{Head}
use Rattle.sctp_capture.specs.declared.record.Order.TheVariants.{Big}
use Rattle.sctp_capture.specs.declared.input.Format.TheVariants.{Lines, Capture, Blocks}
use Rattle.sctp_capture.specs.declared.kind.Kind.{Kind}
use Rattle.sctp_capture.specs.Window.{Drops}
use Rattle.sctp_capture.specs.Record.{IsHead}
use Rattle.sctp_capture.specs.Blocks.{IsBlocks}
use Rattle.sctp_util.specs.Field.{u32_at}
use Rattle.sctp_capture.specs.Kind.{kind_by, IsNoOther}
use Rattle.sctp_capture.specs.Input.{IsOpened, IsOther}
use Rattle.sctp_capture.proofs.Entries.{number_more}

more_head : (held more : List ℕ) (h : Head) → IsHead held h → IsHead (held ++ more) h
more_head held more h is =
    let longer : length (held ++ more) ≡ length held + length more = length-append held more in
    record {
      long = omega (arith, is.long, longer);
      magic = rw (number_more h.order held more 0 (omega (arith, is.long))) is.magic;
      link_type = rw (number_more h.order held more 20 (omega (arith, is.long))) is.link_type;
    }

less_head : (held more : List ℕ) (h : Head) → 24 ≤ length held → IsHead (held ++ more) h → IsHead held h
less_head held more h long is = record {
  long = long;
  magic = rw (number_more h.order held more 0 (omega (arith, long))) at is.magic;
  link_type = rw (number_more h.order held more 20 (omega (arith, long))) at is.link_type;
}

-- a capture is opened
pub opened_capture : (a b c : Option (List ℕ)) (held : List ℕ) (h : Head) → Keeps a (prepend_known held b) → IsHead held h → Drops (prepend_known held b) c 24
    → IfSome a (λ xs. IsOpened (Capture h) xs c)
opened_capture None b c held h keeps is drops = tt
opened_capture (Some xs) None c held h keeps is drops = absurd keeps
opened_capture (Some xs) (Some ys) c held h keeps is drops =
    let left : c ≡ Some (drop 24 xs) = drops ∙ ap (λ l. Some (drop 24 l)) keeps in
    (rw keeps at (more_head held ys h is), rw left refl)

more_blocks : (held more : List ℕ) → IsBlocks held → IsBlocks (held ++ more)
more_blocks held more is =
    let longer : length (held ++ more) ≡ length held + length more = length-append held more in
    (omega (arith, is.0, longer), number_more Big held more 0 is.0 ∙ is.1)

less_blocks : (held more : List ℕ) → 4 ≤ length held → IsBlocks (held ++ more) → IsBlocks held
less_blocks held more long is = (long, sym (number_more Big held more 0 long) ∙ is.1)

less_other : (held more : List ℕ) → 4 ≤ length held → IsNoOther held → kind_by (u32_at (held ++ more) 0) ≡ None
less_other held more long other = ap kind_by (number_more Big held more 0 long) ∙ other long

-- lines are opened
pub opened_lines : (a b : Option (List ℕ)) (held : List ℕ) → Keeps a (prepend_known held b) → (24 ≤ length held) ⊎ IsAtEnd b → ((h : Head) → IsHead held h → ⊥)
    → (IsBlocks held → ⊥) → IsNoOther held → IfSome a (λ xs. IsOpened Lines xs (prepend_known held b))
opened_lines None b held keeps full none blocks other = tt
opened_lines (Some xs) None held keeps full none blocks other = absurd keeps
opened_lines (Some xs) (Some ys) held keeps (inl long) none blocks other =
    let four : 4 ≤ length held = omega (arith, long) in
    let lines : IsNoOther (held ++ ys) = λ _. less_other held ys four other in
    (λ h is. none h (less_head held ys h long (rw keeps is)), λ is. blocks (less_blocks held ys four (rw keeps is)), rw keeps at lines, keeps)
opened_lines (Some xs) (Some ys) held keeps (inr ended) none blocks other =
    let same : xs ≡ held = sym keeps ∙ ap (λ l. held ++ l) ended ∙ append-nil held in
    (λ h is. none h (rw same at is), λ is. blocks (rw same at is), rw (← same) at other, keeps)

-- blocks are opened
pub opened_blocks : (a b : Option (List ℕ)) (held : List ℕ) → Keeps a (prepend_known held b) → (24 ≤ length held) ⊎ IsAtEnd b → ((h : Head) → IsHead held h → ⊥)
    → IsBlocks held → IfSome a (λ xs. IsOpened Blocks xs (prepend_known held b))
opened_blocks None b held keeps full none is = tt
opened_blocks (Some xs) None held keeps full none is = absurd keeps
opened_blocks (Some xs) (Some ys) held keeps (inl long) none is =
    (λ h head. none h (less_head held ys h long (rw keeps head)), rw keeps at (more_blocks held ys is), keeps)
opened_blocks (Some xs) (Some ys) held keeps (inr ended) none is =
    let same : xs ≡ held = sym keeps ∙ ap (λ l. held ++ l) ended ∙ append-nil held in
    (λ h head. none h (rw same at head), rw (← same) at is, keeps)

-- an input of a kind that is not read
pub opened_other : (a b : Option (List ℕ)) (held : List ℕ) (kind : Kind) → Keeps a (prepend_known held b) → (24 ≤ length held) ⊎ IsAtEnd b
    → ((h : Head) → IsHead held h → ⊥) → (IsBlocks held → ⊥) → 4 ≤ length held → kind_by (u32_at held 0) ≡ Some kind → IfSome a (λ xs. IsOther xs kind)
opened_other None b held kind keeps full none blocks four is = tt
opened_other (Some xs) None held kind keeps full none blocks four is = absurd keeps
opened_other (Some xs) (Some ys) held kind keeps (inl long) none blocks four is =
    let longer : length (held ++ ys) ≡ length held + length ys = length-append held ys in
    let all : 4 ≤ length (held ++ ys) = omega (arith, four, longer) in
    let begins : kind_by (u32_at (held ++ ys) 0) ≡ Some kind = ap kind_by (number_more Big held ys 0 four) ∙ is in
    (λ h head. none h (less_head held ys h long (rw keeps head)), λ it. blocks (less_blocks held ys four (rw keeps it)), rw keeps at all, rw keeps at begins)
opened_other (Some xs) (Some ys) held kind keeps (inr ended) none blocks four is =
    let same : xs ≡ held = sym keeps ∙ ap (λ l. held ++ l) ended ∙ append-nil held in
    (λ h head. none h (rw same at head), λ it. blocks (rw same at it), rw (← same) at four, rw (← same) at is)

-- a kind is found by four bytes
pub kind_is_long : (held : List ℕ) (o : Option Kind) (kind : Kind) → (length held < 4 → o ≡ None) → o ≡ Some kind → 4 ≤ length held
kind_is_long held o kind short is = elim (cases_lt (length held) 4) [
  | inl lt ↦ absurd (some_is_none kind (sym is ∙ short lt))
  | inr le ↦ le
]
  where
    some_is_none : (kind : Kind) → Some kind ≡ None → ⊥
    some_is_none kind e = grind (arith, nat_tests)
