-- Lines of bytes of which some are held.
use Rattle.std.proofs.Common.{◌≡◌, ℕ, ◌+◌, ◌<◌, ◌≤◌, Bool, true, false, zero, suc, List, [], ◌∷◌, ◌++◌, length, take, drop, slice_index, None, Some, IfSome}
use Rattle.std.proofs.Common.{refl, ap, sym, ◌∙◌, inl, inr, arith, add-one}
use Rattle.std.specs.Prelude.{Option, ◌≢◌, ◌⊎◌, ◌==◌, IsSomeAnd, MatchResult, Ok, Err}
use Rattle.hex.specs.Hex.{decode_of}
use Rattle.sctp_capture.specs.declared.record.Fault.TheVariants.{NotHex}
use Rattle.std.specs.Io.KnownBytes.{Keeps, IsAtEnd, prepend_known}
use Rattle.std.proofs.lemmas.Bool.{cases_lt}
use Rattle.std.proofs.lemmas.Bool.Decides.{nat_tests}
use Rattle.std.proofs.lemmas.List.{append-nil, nil_from_length, length-append}
use lib.Seq.{drop-append-le}
use Rattle.std.proofs.Math.Seq.{drop-append_seam}
use Rattle.sctp_capture.specs.declared.record.Record.{Record}
use Rattle.sctp_capture.specs.Window.{Drops}
use Rattle.std.specs.declared.net.ip_addr.IpAddr.{IpAddr}
use Rattle.sctp_capture.specs.Fields.{fields_of, line_lead, said_in, AreEnds, tags_of, link_by}
use Rattle.sctp_capture.specs.Record.{line_in, after_line, digits_in, HoldsLine, IsLine, IsSaid, IsBlankLine, IsLineFound}

line_feed : (x : ℕ) (xs : List ℕ) → x ≡ 10 → line_in (x ∷ xs) ≡ []
line_feed x xs e = let it : (x == 10) ≡ true = grind (arith, nat_tests) in rw it refl

line_other : (x : ℕ) (xs : List ℕ) → x ≢ 10 → line_in (x ∷ xs) ≡ x ∷ line_in xs
line_other x xs e = let it : (x == 10) ≡ false = grind (arith, nat_tests) in rw it refl

-- the first line feed ends the line
pub line_stops : (bytes : List ℕ) (i : ℕ) → i < length bytes → slice_index bytes i ≡ 10 → ((k : ℕ) → k < i → slice_index bytes k ≢ 10)
    → i ≡ length (line_in bytes)
line_stops [] i within is before = absurd (omega (arith, within))
line_stops (x ∷ xs) zero within is before = let first : x ≡ 10 = is in sym (ap length (line_feed x xs first))
line_stops (x ∷ xs) (suc i) within is before =
    let first : x ≢ 10 = before 0 (omega arith) in
    let rest : i ≡ length (line_in xs) = line_stops xs i (omega (arith, within)) is (λ k lt. before (suc k) (omega (arith, lt))) in
    rw (line_other x xs first) (ap suc rest)

-- with no line feed all is the line
pub line_goes_on : (bytes : List ℕ) (n : ℕ) → n ≡ length bytes → ((k : ℕ) → k < n → slice_index bytes k ≢ 10) → n ≡ length (line_in bytes)
line_goes_on [] n is before = is
line_goes_on (x ∷ xs) n is before =
    let first : x ≢ 10 = before 0 (omega (arith, is)) in
    let rest : length xs ≡ length (line_in xs) = line_goes_on xs (length xs) refl (λ k lt. before (suc k) (omega (arith, lt, is))) in
    rw (line_other x xs first) (is ∙ ap suc rest)

abbrev IsFront : List ℕ → Type 0
IsFront bytes = (length (line_in bytes) ≤ length bytes) × (line_in bytes ≡ take (length (line_in bytes)) bytes)

front_by : (b : Bool) (x : ℕ) (xs : List ℕ) → (x == 10) ≡ b → IsFront xs → IsFront (x ∷ xs)
front_by true x xs e rest = rw e (omega arith, refl)
front_by false x xs e rest = rw e (omega (arith, rest.0), ap (λ l. x ∷ l) rest.1)

-- the line is the front of the bytes
pub line_front : (bytes : List ℕ) → IsFront bytes
line_front [] = (omega arith, refl)
line_front (x ∷ xs) = front_by (x == 10) x xs refl (line_front xs)

-- a list that is empty has no length
pub none_when : (n m : ℕ) (b : Bool) → b ≡ (n == 0) → b ≡ true → n ≡ m → m ≡ 0
none_when n m b says empty same = grind (arith, nat_tests)

-- a line without digits says nothing
pub blank_front : (bytes digits : List ℕ) (n : ℕ) → n ≡ length (line_in bytes) → digits ≡ digits_in (said_in (take n bytes)) → length digits ≡ 0
    → digits_in (said_in (line_in bytes)) ≡ []
blank_front bytes digits n is says none =
    let front : line_in bytes ≡ take n bytes = (line_front bytes).1 ∙ ap (λ k. take k bytes) (sym is) in
    ap (λ l. digits_in (said_in l)) front ∙ sym says ∙ nil_from_length digits none

-- a line with digits is the record that they and its lead say
pub line_is : (bytes digits : List ℕ) (n : ℕ) (r : Record) (ends : Option (IpAddr × IpAddr)) → n ≡ length (line_in bytes) → n ≤ 524288
    → digits ≡ digits_in (said_in (take n bytes)) → 0 < length digits → r.lost ≡ 0
    → r.time ≡ (line_lead (take n bytes)).time → r.direction ≡ (line_lead (take n bytes)).direction → AreEnds (take n bytes) (fields_of (take n bytes)) ends
    → r.link_type ≡ link_by ends → MatchResult (decode_of digits) (λ frame. r.frame ≡ Ok (tags_of ends ++ frame)) (λ _. r.frame ≡ Err NotHex)
    → IsLine bytes r
line_is bytes digits n r ends is short says some lost time direction are link_type text =
    let front : line_in bytes ≡ take n bytes = (line_front bytes).1 ∙ ap (λ k. take k bytes) (sym is) in
    let same : digits ≡ digits_in (said_in (line_in bytes)) = says ∙ ap (λ l. digits_in (said_in l)) (sym front) in
    let said : IsSaid (take n bytes) digits r = (ends, are, link_type, text) in
    record {
      lost = lost;
      too_long = λ long. absurd (omega (arith, long, short, is));
      time = λ _. rw front time;
      direction = λ _. rw front direction;
      some = λ _. rw (← same) some;
      text = λ _. rw (← same, front) said;
    }

-- ---- more bytes behind

abbrev IsCut : List ℕ → List ℕ → Type 0
IsCut held more = length (line_in held) < length held
    → (line_in (held ++ more) ≡ line_in held) × (after_line (held ++ more) ≡ drop (suc (length (line_in held))) held ++ more)

cut_by : (b : Bool) (x : ℕ) (xs more : List ℕ) → (x == 10) ≡ b → IsCut xs more → IsCut (x ∷ xs) more
cut_by true x xs more e rest = rw e (λ lt. (refl, refl))
cut_by false x xs more e rest = rw e (λ lt. let others = rest (omega (arith, lt)) in (ap (λ l. x ∷ l) others.0, others.1))

-- a line with its line feed stays, whatever follows
pub line_cut : (held more : List ℕ) → IsCut held more
line_cut [] more = λ lt. absurd (omega (arith, lt))
line_cut (x ∷ xs) more = cut_by (x == 10) x xs more refl (line_cut xs more)

abbrev IsJoined : List ℕ → List ℕ → Type 0
IsJoined held more = length held ≤ length (line_in held) → (line_in (held ++ more) ≡ held ++ line_in more) × (after_line (held ++ more) ≡ after_line more)

joined_by : (b : Bool) (x : ℕ) (xs more : List ℕ) → (x == 10) ≡ b → IsJoined xs more → IsJoined (x ∷ xs) more
joined_by true x xs more e rest = rw e (λ le. absurd (omega (arith, le)))
joined_by false x xs more e rest = rw e (λ le. let others = rest (omega (arith, le)) in (ap (λ l. x ∷ l) others.0, others.1))

-- bytes with no line feed begin the line that goes on behind them
pub line_joined : (held more : List ℕ) → IsJoined held more
line_joined [] more = λ le. (refl, refl)
line_joined (x ∷ xs) more = joined_by (x == 10) x xs more refl (line_joined xs more)

cut_is_line : (held more : List ℕ) (r : Record) → IsLine held r → length (line_in held) < length held → IsLine (held ++ more) r
cut_is_line held more r is lt =
    let same = (line_cut held more lt).0 in
    record {
      lost = is.lost;
      too_long = rw same is.too_long;
      time = rw same is.time;
      direction = rw same is.direction;
      some = rw same is.some;
      text = rw same is.text;
    }

-- a line that is read of what is held is that of all the bytes
pub more_line : (held more : List ℕ) (r : Record) → IsLine held r → HoldsLine held → IsLine (held ++ more) r
more_line held more r is (inl lt) = cut_is_line held more r is lt
more_line held more r is (inr long) = elim (cases_lt (length (line_in held)) (length held)) [
  | inl lt ↦ cut_is_line held more r is lt
  | inr le ↦
      let same : line_in (held ++ more) ≡ held ++ line_in more = (line_joined held more le).0 in
      let far : 524288 < length (line_in (held ++ more)) = rw (same, length-append) (omega (arith, long)) in
      record {
        lost = is.lost;
        too_long = λ _. is.too_long (omega (arith, long, le));
        time = λ short. absurd (omega (arith, far, short));
        direction = λ short. absurd (omega (arith, far, short));
        some = λ short. absurd (omega (arith, far, short));
        text = λ short. absurd (omega (arith, far, short));
      }
]

cut_is_blank : (held more : List ℕ) → IsBlankLine held → length (line_in held) < length held → IsBlankLine (held ++ more)
cut_is_blank held more is lt = let same = (line_cut held more lt).0 in rw same is

-- so is a blank one
more_blank : (held more : List ℕ) → IsBlankLine held → HoldsLine held → IsBlankLine (held ++ more)
more_blank held more is (inl lt) = cut_is_blank held more is lt
more_blank held more is (inr long) = cut_is_blank held more is (omega (arith, is.0, long))

more_found : (held more : List ℕ) (found : Option Record) → IsLineFound held found → HoldsLine held → IsLineFound (held ++ more) found
more_found held more None is holds = more_blank held more is holds
more_found held more (Some r) is holds = more_line held more r is holds

-- ---- of an input

-- the line that is read of what is held is the first of the input
pub line_single : (b e : Option (List ℕ)) (held : List ℕ) (found : Option Record) → HoldsLine held ⊎ IsAtEnd b → IsLineFound held found
    → IfSome (prepend_known held b) (λ xs. Keeps (Some (after_line xs)) e)
    → IfSome (prepend_known held b) (λ xs. IsLineFound xs found × Keeps (Some (after_line xs)) e)
line_single None e held found holds is left = tt
line_single (Some ys) e held found (inl holds) is left = (more_found held ys found is holds, left)
line_single (Some ys) e held found (inr ended) is left =
    let all : held ++ ys ≡ held = ap (λ l. held ++ l) ended ∙ append-nil held in
    (rw all is, left)

-- where nothing is held nothing is left
pub line_none : (a b : Option (List ℕ)) (held : List ℕ) → Keeps a (prepend_known held b) → HoldsLine held ⊎ IsAtEnd b → length held ≡ 0
    → IfSome a (λ xs. xs ≡ [])
line_none None b held keeps holds none = tt
line_none (Some xs) None held keeps holds none = absurd keeps
line_none (Some xs) (Some ys) held keeps (inl (inl lt)) none = absurd (omega (arith, lt, none))
line_none (Some xs) (Some ys) held keeps (inl (inr long)) none = absurd (omega (arith, long, none))
line_none (Some xs) (Some ys) held keeps (inr ended) none =
    let gone : held ≡ [] = nil_from_length held none in
    sym keeps ∙ rw (gone, ended) refl

-- as much is left behind the line of the one as behind that of the other
abbrev pub IsLeftAlike : Option (List ℕ) → Option (List ℕ) → Type 0
IsLeftAlike a b = IfSome a (λ xs. IsSomeAnd b (λ ys. after_line xs ≡ after_line ys))

pub alike_first : (a : Option (List ℕ)) → IsLeftAlike a a
alike_first None = tt
alike_first (Some xs) = refl

-- the held bytes of a line that goes on are dropped, and more is read
pub alike_next : (a b c e : Option (List ℕ)) (held : List ℕ) → IsLeftAlike a (prepend_known held b) → length held ≤ length (line_in held)
    → Drops (prepend_known held b) c (length held) → Keeps c e → IsLeftAlike a e
alike_next None b c e held alike le drops keeps = tt
alike_next (Some xs) None c e held alike le drops keeps = absurd alike
alike_next (Some xs) (Some ys) c e held alike le drops keeps =
    let left : drop (length held) (held ++ ys) ≡ ys = drop-append_seam held ys in
    let kept : Keeps (Some ys) e = rw (← left, ← drops) keeps in
    kept_alike e kept
  where
    kept_alike : (e : Option (List ℕ)) → Keeps (Some ys) e → IsLeftAlike (Some xs) e
    kept_alike None kept = absurd kept
    kept_alike (Some zs) kept = rw kept (alike ∙ (line_joined held ys le).1)

-- the held rest of a line and its line feed are dropped
pub alike_cut : (a b c : Option (List ℕ)) (held : List ℕ) → IsLeftAlike a (prepend_known held b) → length (line_in held) < length held
    → Drops (prepend_known held b) c (length (line_in held) + 1) → IfSome a (λ xs. Keeps (Some (after_line xs)) c)
alike_cut None b c held alike lt drops = tt
alike_cut (Some xs) None c held alike lt drops = absurd alike
alike_cut (Some xs) (Some ys) c held alike lt drops =
    let left : after_line xs ≡ drop (suc (length (line_in held))) held ++ ys = alike ∙ (line_cut held ys lt).1 in
    let same : drop (length (line_in held) + 1)
    (held ++ ys) ≡ drop (suc (length (line_in held))) held ++ ys = rw add-one (drop-append-le (suc (length (line_in held))) held ys (omega (arith, lt))) in
    rw drops (same ∙ sym left)

-- at the end of the input nothing is left
pub alike_end : (a b : Option (List ℕ)) (held : List ℕ) → IsLeftAlike a (prepend_known held b) → length held ≡ 0 → IsAtEnd b
    → IfSome a (λ xs. Keeps (Some (after_line xs)) (prepend_known held b))
alike_end None b held alike none ended = tt
alike_end (Some xs) None held alike none ended = absurd alike
alike_end (Some xs) (Some ys) held alike none ended =
    let gone : held ≡ [] = nil_from_length held none in
    let all : held ++ ys ≡ [] = rw (gone, ended) refl in
    all ∙ sym (rw all at alike)
