-- Text and entries as pieces of an input.
use Rattle.std.proofs.Common.{ℕ, List, Some, None, IfSome, refl, inl}
use Rattle.std.specs.Prelude.{Option}
use Rattle.sctp_capture.specs.declared.record.Head.{Head}
use Rattle.sctp_capture.specs.declared.record.Record.{Record}
use Rattle.sctp_capture.specs.declared.blocks.Taken.{Taken}
use Rattle.sctp_capture.specs.declared.blocks.Taken.TheVariants as taken
use Rattle.sctp_capture.specs.declared.input.Format.TheVariants.{Lines, Capture}
use Rattle.sctp_capture.specs.Record.{IsNext, IsEntry, after_entry}
use Rattle.sctp_capture.specs.Text.{IsNextText}
use Rattle.sctp_capture.specs.Blocks.{Known, Piece}
use Rattle.sctp_capture.specs.Input.{Takes, taken_by}

pub text_taken : (k : Known) (a left : Option (List ℕ)) (next : Taken) → IfSome a (λ xs. IsNextText xs left next)
    → IfSome a (λ xs. Takes Lines k xs next k left)
text_taken k None left next is = tt
text_taken k (Some xs) left taken.End is = inl is
text_taken k (Some xs) left taken.Nothing is =
    let p : Piece = record { found = None; known = k; left = is.0 } in
    (p, is.1, (is.2, refl), refl, refl, is.3)
text_taken k (Some xs) left (taken.Record r) is =
    let p : Piece = record { found = Some r; known = k; left = is.0 } in
    (p, is.1, (is.2, refl), refl, refl, is.3)

pub entry_taken : (h : Head) (k : Known) (a left : Option (List ℕ)) (next : Option Record) → IfSome a (λ xs. IsNext (IsEntry h) (after_entry h) xs left next)
    → IfSome a (λ xs. Takes (Capture h) k xs (taken_by next) k left)
entry_taken h k None left next is = tt
entry_taken h k (Some xs) left None is = inl is
entry_taken h k (Some xs) left (Some r) is =
    let p : Piece = record { found = Some r; known = k; left = after_entry h xs } in
    (p, is.0, (is.1, refl, refl), refl, refl, is.2)
