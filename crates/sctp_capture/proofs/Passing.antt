-- A piece that is taken leaves room for fewer.
use Rattle.std.proofs.Common.{◌≡◌, ℕ, ◌+◌, ◌<◌, ◌≤◌, Bool, true, false, zero, suc, List, [], ◌∷◌, length, None, Some, IfSome, refl, inl, inr, arith}
use Rattle.std.specs.Prelude.{Option, ◌-◌, ◌==◌, IsSomeAnd}
use Rattle.std.proofs.lemmas.Bool.{cases_lt}
use lib.ListN.{length-drop}
use Rattle.sctp_capture.specs.declared.record.Record.{Record}
use Rattle.sctp_capture.specs.declared.lead.Lead.{Lead}
use Rattle.sctp_capture.specs.declared.input.Format.{Format}
use Rattle.sctp_capture.specs.declared.input.Format.TheVariants.{Lines, Capture, Blocks}
use Rattle.sctp_capture.specs.declared.blocks.Taken.{Taken}
use Rattle.sctp_capture.specs.declared.blocks.Taken.TheVariants as taken
use Rattle.sctp_capture.specs.Lead.{no_lead}
use Rattle.sctp_capture.specs.Preamble.{preamble_of}
use Rattle.sctp_capture.specs.Dump.{is_dump}
use Rattle.sctp_capture.specs.Record.{line_in, after_line, entry_span}
use Rattle.sctp_capture.specs.Text.{after_lines, IsDump, IsLed, IsText}
use Rattle.sctp_capture.specs.Blocks.{Known, Piece, IsBlock}
use Rattle.sctp_capture.specs.Input.{IsPiece, IsTaken, Takes, most_pieces, Passes}

-- ---- lines

after_by : (b : Bool) (x : ℕ) (xs : List ℕ) → (x == 10) ≡ b → length (after_line xs) ≤ length xs → length (after_line (x ∷ xs)) ≤ length xs
after_by true x xs e rest = rw e (omega arith)
after_by false x xs e rest = rw e rest

after_le : (bytes : List ℕ) → length (after_line bytes) ≤ length bytes
after_le [] = omega arith
after_le (x ∷ xs) = omega (arith, after_by (x == 10) x xs refl (after_le xs))

after_less : (bytes : List ℕ) → 0 < length bytes → length (after_line bytes) < length bytes
after_less [] some = absurd (omega (arith, some))
after_less (x ∷ xs) some = omega (arith, after_by (x == 10) x xs refl (after_le xs))

lines_le : (n : ℕ) (text : List ℕ) → length (after_lines n text) ≤ length text
unfolding after_lines
lines_le zero text = omega arith
lines_le (suc n) text = omega (arith, lines_le n text, after_le (after_lines n text))

lines_less : (n : ℕ) (text : List ℕ) → 0 < n → 0 < length text → length (after_lines n text) < length text
unfolding after_lines
lines_less zero text some long = absurd (omega (arith, some))
lines_less (suc n) text some long = elim (cases_lt 0 (length (after_lines n text))) [
  | inl left ↦ omega (arith, lines_le n text, after_less (after_lines n text) left)
  | inr none ↦ omega (arith, after_le (after_lines n text), none, long)
]

dump_less : (lead : Lead) (text : List ℕ) (r : Record) (left : List ℕ) → IsDump lead text r left → 0 < length text → length left < length text
dump_less lead text r left is some = rw is.is_left (lines_less is.lines text is.some some)

dump_le : (lead : Lead) (text : List ℕ) (r : Record) (left : List ℕ) → IsDump lead text r left → length left ≤ length text
dump_le lead text r left is = rw is.is_left (lines_le is.lines text)

led_le : (b : Bool) (lead : Lead) (text : List ℕ) (r : Record) (left : List ℕ) → is_dump (line_in text) ≡ b → IsLed lead text r left
    → length left ≤ length text
led_le true lead text r left e is = dump_le lead text r left (is.dump e)
led_le false lead text r left e is = rw (is.none e).1 (omega arith)

text_by : (b : Bool) (o : Option Lead) (bytes : List ℕ) (found : Option Record) (left : List ℕ) → is_dump (line_in bytes) ≡ b
    → preamble_of (line_in bytes) ≡ o → 0 < length bytes → IsText bytes found left → length left < length bytes
text_by true o bytes None left e f some is = absurd (is.dump e)
text_by true o bytes (Some r) left e f some is = dump_less no_lead bytes r left (is.dump e) some
text_by false (Some lead) bytes None left e f some is = absurd (is.led lead e f)
text_by false (Some lead) bytes (Some r) left e f some is =
    let rest = led_le (is_dump (line_in (after_line bytes))) lead (after_line bytes) r left refl (is.led lead e f) in
    omega (arith, rest, after_less bytes some)
text_by false None bytes found left e f some is = rw (is.line e f).1 (after_less bytes some)

text_less : (bytes : List ℕ) (found : Option Record) (left : List ℕ) → 0 < length bytes → IsText bytes found left → length left < length bytes
text_less bytes found left some is = text_by (is_dump (line_in bytes)) (preamble_of (line_in bytes)) bytes found left refl refl some is

-- ---- what is known of a section

most_by : (b : Bool) (k : Known) (bytes : List ℕ) → k.is_lost ≡ b → most_pieces k bytes ≤ length bytes + 1
most_by true k bytes e = rw e (omega arith)
most_by false k bytes e = rw e (omega arith)

same_by : (b : Bool) (k : Known) (left bytes : List ℕ) → k.is_lost ≡ b → length left < length bytes → most_pieces k left < most_pieces k bytes
same_by true k left bytes e less = rw e less
same_by false k left bytes e less = rw e (omega (arith, less))

block_less : (k : Known) (bytes : List ℕ) (p : Piece) → 0 < length bytes → IsBlock k bytes p → most_pieces p.known p.left < most_pieces k bytes
block_less k bytes p some (begun, inl cut) =
    let none : length p.left ≡ 0 = rw cut.left refl in
    let most = most_by p.known.is_lost p.known p.left refl in
    rw begun (omega (arith, most, none, some))
block_less k bytes p some (begun, inr (inl bad)) = rw (begun, bad.known, bad.left) (omega arith)
block_less k bytes p some (begun, inr (inr headed)) =
    let long = headed.is.long in
    let least = headed.is.least in
    let left : length p.left ≡ length bytes - headed.head.length = rw headed.left (length-drop headed.head.length bytes) in
    let most = most_by p.known.is_lost p.known p.left refl in
    rw begun (omega (arith, most, left, long, least))

-- ---- pieces

piece_less : (format : Format) (k : Known) (bytes : List ℕ) (p : Piece) → 0 < length bytes → IsPiece format k bytes p
    → most_pieces p.known p.left < most_pieces k bytes
piece_less Lines k bytes p some is = rw is.1 (same_by k.is_lost k p.left bytes refl (text_less bytes p.found p.left some is.0))
piece_less (Capture h) k bytes p some is =
    let left : length p.left ≡ length bytes - entry_span h bytes = rw is.2 (length-drop (entry_span h bytes) bytes) in
    rw is.1 (same_by k.is_lost k p.left bytes refl (omega (arith, left, some)))
piece_less Blocks k bytes p some is = block_less k bytes p some is

taken_less : (format : Format) (k : Known) (bytes : List ℕ) (found : Option Record) (after : Known) (left : Option (List ℕ))
    → IsTaken format k bytes found after left → IsSomeAnd left (λ rest. most_pieces after rest < most_pieces k bytes)
taken_less format k bytes found after None is = absurd is.5
taken_less format k bytes found after (Some rest) is =
    let p : Piece = is.0 in
    rw (← is.4, is.5) (piece_less format k bytes p is.1 is.2)

takes_less : (format : Format) (k : Known) (bytes : List ℕ) (next : Taken) (after : Known) (left : Option (List ℕ))
    → Takes format k bytes next after left → Passes k bytes next after left
takes_less format k bytes taken.End after left is = tt
takes_less format k bytes taken.Nothing after left is = taken_less format k bytes None after left is
takes_less format k bytes (taken.Record r) after left is = taken_less format k bytes (Some r) after left is

pub passes_by : (format : Format) (k : Known) (a : Option (List ℕ)) (next : Taken) (after : Known) (left : Option (List ℕ))
    → IfSome a (λ xs. Takes format k xs next after left) → IfSome a (λ xs. Passes k xs next after left)
passes_by format k None next after left is = tt
passes_by format k (Some xs) next after left is = takes_less format k xs next after left is
