-- What a run prints of inputs, one after the other.
use Rattle.std.specs.Prelude.{◌<◌, ◌≡◌, ◌≤◌, ◌⊎◌, ℕ, ◌+◌, ◌^◌, List, length, Option, IfSome}
use Rattle.std.specs.List.{concat}
use Rattle.std.specs.Io.KnownBytes.{Appends}
use Rattle.sctp_capture.specs.declared.record.Record.{Record}
use Rattle.sctp_capture.specs.declared.input.ReadFault.{ReadFault}
use Rattle.sctp_capture.specs.declared.input.ReadFault.TheVariants as read
use Rattle.sctp_capture.specs.Input.{unread_by, unread_in, IsOther}
use Rattle.sctp_show.specs.declared.run.RunFault.{RunFault}
use Rattle.sctp_show.specs.declared.run.RunFault.TheVariants.{Input, Output, Memory, Other, TooMany}
use Rattle.sctp_show.specs.declared.run.Counts.{Counts}
use Rattle.sctp_show.specs.declared.text.Options.{Options}
use Rattle.sctp_show.specs.Text.{IsText, AreTexts, shown_by, shown_in}

-- no record was read
abbrev pub none : Counts
none = record { records = 0; unread = 0; shown = 0 }

-- each count is a number of 64 bits after one record more, of which so many have no frame, and so many are shown
abbrev pub Fits : Counts → ℕ → ℕ → Type 0
Fits c unread shown =
    (c.records + 1 < 2 ^ 64) × (c.unread + unread < 2 ^ 64) × (c.shown + shown < 2 ^ 64)

-- ---- why a run ends early

-- where its input is not read on
abbrev pub fault_of : ReadFault → RunFault
fault_of (read.Input code) = Input code
fault_of read.Memory = Memory
fault_of (read.Other kind) = Other kind

-- the writer failed
abbrev pub IsOutput : RunFault → Type 0
IsOutput (Output code) = Unit {0}
IsOutput _ = ⊥

-- the writer failed, or there was no memory
abbrev pub IsWriting : RunFault → Type 0
IsWriting (Output code) = Unit {0}
IsWriting Memory = Unit {0}
IsWriting _ = ⊥

-- a record more may pass the greatest count of 64 bits
abbrev pub IsFull : Counts → Type 0
IsFull c = (2 ^ 64 ≤ c.records + 1) ⊎ ((2 ^ 64 ≤ c.unread + 1) ⊎ (2 ^ 64 ≤ c.shown + 1))

-- the writer failed, or there was no memory, or a count may have been full before
abbrev pub IsPrintFault : Counts → RunFault → Type 0
IsPrintFault before (Output code) = Unit {0}
IsPrintFault before Memory = Unit {0}
IsPrintFault before TooMany = IsFull before
IsPrintFault before _ = ⊥

-- The reader or the writer failed, or there was no memory; or the bytes of the input are of a kind that is not read; or too much was counted, of records
-- or of pieces, of which only the last one may take no byte.
abbrev pub IsRunFault : Counts → Option (List ℕ) → RunFault → Type 0
IsRunFault after bytes (Input code) = Unit {0}
IsRunFault after bytes (Output code) = Unit {0}
IsRunFault after bytes Memory = Unit {0}
IsRunFault after bytes (Other kind) = IfSome bytes (λ xs. IsOther xs kind)
IsRunFault after bytes TooMany = IsFull after ⊎ IfSome bytes (λ xs. 2 ^ 64 ≤ length xs + 2)

-- ---- what a run prints

-- the record is the next one: its text, and nothing else, was written, and it is counted
abbrev pub PrintsRecord : Options → Record → Counts → Counts → Option (List ℕ) → Option (List ℕ) → Type 0
PrintsRecord o r before after old new =
    (text : List ℕ) × IsText o (before.records + 1) r text
    × (after.records ≡ before.records + 1) × (after.unread ≡ before.unread + unread_by r)
    × (after.shown ≡ before.shown + shown_by text) × Appends old new text

-- the records are the next ones: the text of each was written, in order, and they are counted
abbrev pub Prints : Options → List Record → Counts → Counts → Option (List ℕ) → Option (List ℕ) → Type 0
Prints o records before after old new =
    (texts : List (List ℕ)) × AreTexts o (before.records + 1) records texts
    × (after.records ≡ before.records + length records)
    × (after.unread ≡ before.unread + unread_in records)
    × (after.shown ≡ before.shown + shown_in texts) × Appends old new (concat texts)
