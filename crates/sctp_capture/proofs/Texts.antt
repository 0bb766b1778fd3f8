-- Dumps, line by line, of bytes of which some are held.
use Rattle.std.proofs.Common.{◌≡◌, ℕ, ◌+◌, ◌<◌, ◌≤◌, Bool, true, false, zero, suc, List, [], ◌++◌, length, None, Some, IfSome, refl, ap, sym, ◌∙◌, inl}
use Rattle.std.proofs.Common.{inr, arith, add-one}
use Rattle.std.specs.Prelude.{Option, ◌⊎◌, ◌&&◌, leb, ltb, min, Err}
use Rattle.std.specs.Io.KnownBytes.{Keeps, IsAtEnd, prepend_known}
use Rattle.std.proofs.lemmas.Bool.{cases_lt, true≢false}
use Rattle.std.proofs.lemmas.Bool.Decides.{nat_tests}
use Rattle.std.proofs.lemmas.List.{append-nil, length-append}
use Rattle.sctp_capture.specs.declared.record.Record.{Record}
use Rattle.sctp_capture.specs.declared.lead.Lead.{Lead}
use Rattle.sctp_capture.specs.Preamble.{preamble_of}
use Rattle.sctp_capture.specs.declared.record.Fault.TheVariants.{NotHex}
use Rattle.sctp_capture.specs.Lead.{no_lead}
use Rattle.sctp_capture.specs.Record.{line_in, after_line, HoldsLine, IsLineFound}
use Rattle.sctp_capture.specs.Dump.{is_dump, goes_on, says_offset, bytes_in}
use Rattle.sctp_capture.specs.Text.{after_lines, width_by, said_by, are_right, IsDumpRecord, IsDump, IsLed, IsTextTaken, IsNextText, taken_text}
use Rattle.sctp_capture.proofs.Lines.{line_cut, line_joined}

-- ---- lines that are too long

-- a line that is too long begins no dump, continues none, and says nothing of one
pub long_is_dump : (line : List ℕ) → 524288 < length line → is_dump line ≡ false
long_is_dump line long = let it : leb (length line) 524288 ≡ false = grind (arith, nat_tests) in rw it refl

pub long_goes_on : (line : List ℕ) → 524288 < length line → goes_on line ≡ false
long_goes_on line long = let it : leb (length line) 524288 ≡ false = grind (arith, nat_tests) in rw it refl

pub long_preamble : (line : List ℕ) → 524288 < length line → preamble_of line ≡ None
long_preamble line long = let it : ltb 524288 (length line) ≡ true = grind (arith, nat_tests) in rw it refl

pub dump_is_short : (line : List ℕ) → is_dump line ≡ true → length line ≤ 524288
dump_is_short line is = elim (cases_lt 524288 (length line)) [
  | inl long ↦ absurd (true≢false (sym is ∙ long_is_dump line long))
  | inr short ↦ short
]

pub line_is_short : (line : List ℕ) → goes_on line ≡ true → length line ≤ 524288
line_is_short line is = elim (cases_lt 524288 (length line)) [
  | inl long ↦ absurd (true≢false (sym is ∙ long_goes_on line long))
  | inr short ↦ short
]

-- ---- the line that is held

-- a line that is not too long is that of all the bytes
pub same_line : (held ys : List ℕ) → length (line_in held) ≤ 524288 → HoldsLine held ⊎ (ys ≡ []) → line_in (held ++ ys) ≡ line_in held
same_line held ys short (inl (inl lt)) = (line_cut held ys lt).0
same_line held ys short (inl (inr long)) = (line_cut held ys (omega (arith, short, long))).0
same_line held ys short (inr none) = ap line_in (ap (λ l. held ++ l) none ∙ append-nil held)

-- a line that is too long goes on
long_line : (held ys : List ℕ) → 524288 < length (line_in held) → HoldsLine held ⊎ (ys ≡ []) → 524288 < length (line_in (held ++ ys))
long_line held ys long (inr none) = rw (none, append-nil held) long
long_line held ys long (inl holds) = elim (cases_lt (length (line_in held)) (length held)) [
  | inl lt ↦ rw (line_cut held ys lt).0 long
  | inr le ↦
      let same : line_in (held ++ ys) ≡ held ++ line_in ys = (line_joined held ys le).0 in
      rw (same, length-append) (whole held ys long holds)
]
  where
    whole : (held ys : List ℕ) → 524288 < length (line_in held) → HoldsLine held → 524288 < length held + length (line_in ys)
    whole held ys long (inl lt) = omega (arith, lt, long)
    whole held ys long (inr much) = omega (arith, much)

-- what is said of no line that is too long is said of the line that is held where it is of that of all the bytes
pub same_said : {A : Type 0} (q : List ℕ → A) (other : A) → ((line : List ℕ) → 524288 < length line → q line ≡ other) → (held ys : List ℕ)
    → HoldsLine held ⊎ (ys ≡ []) → q (line_in (held ++ ys)) ≡ q (line_in held)
same_said q other none held ys holds = elim (cases_lt 524288 (length (line_in held))) [
  | inl long ↦ none (line_in (held ++ ys)) (long_line held ys long holds) ∙ sym (none (line_in held) long)
  | inr short ↦ ap q (same_line held ys short holds)
]

-- ---- a dump so far

-- so many lines of a dump say these bytes; of the next one so many are looked for
pub record IsAt (xs : List ℕ) (n width : ℕ) (said : List ℕ) (right : Bool) : Type 0 where
  pub goes : (k : ℕ) → 0 < k → k < n → goes_on (line_in (after_lines k xs)) ≡ true
  pub room : (k : ℕ) → k < n → length (said_by k xs) ≤ 262144
  pub wide : width ≡ width_by n xs
  pub says : said ≡ said_by n xs
  pub has : right ≡ are_right n xs

-- and behind them stand these bytes
abbrev pub IsBehind : Option (List ℕ) → Option (List ℕ) → ℕ → ℕ → List ℕ → Bool → Type 0
IsBehind a now n width said right = IfSome a (λ xs. IsAt xs n width said right × Keeps (Some (after_lines n xs)) now)

-- whose first line belongs to it
abbrev pub IsRun : Option (List ℕ) → Option (List ℕ) → ℕ → ℕ → List ℕ → Bool → Type 0
IsRun a now n width said right =
    IfSome a (λ xs. IsAt xs n width said right × (0 < n → goes_on (line_in (after_lines n xs)) ≡ true) × Keeps (Some (after_lines n xs)) now)

at_first : (xs : List ℕ) → IsAt xs 0 256 [] true
unfolding width_by said_by are_right
at_first xs = record { goes = λ k some lt. absurd (omega (arith, lt)); room = λ k lt. absurd (omega (arith, lt)); wide = refl; says = refl; has = refl }

keeps_first : (xs : List ℕ) → Keeps (Some (after_lines 0 xs)) (Some xs)
unfolding after_lines
keeps_first xs = refl

pub run_first : (a : Option (List ℕ)) → IsRun a a 0 256 [] true
run_first None = tt
run_first (Some xs) = (at_first xs, λ none. absurd (omega (arith, none)), keeps_first xs)

said_more : (n : ℕ) (xs : List ℕ) → said_by (n + 1) xs ≡ said_by n xs ++ bytes_in (width_by n xs) (line_in (after_lines n xs))
unfolding said_by
said_more n xs = rw add-one refl

right_more : (n : ℕ) (xs : List ℕ) → are_right (n + 1) xs ≡ (says_offset (line_in (after_lines n xs)) (length (said_by n xs)) && are_right n xs)
unfolding are_right
right_more n xs = rw add-one refl

lines_more : (n : ℕ) (xs : List ℕ) → after_lines (n + 1) xs ≡ after_line (after_lines n xs)
unfolding after_lines
lines_more n xs = rw add-one refl

-- the first line says how many are looked for
width_first : (xs said more line : List ℕ) (width also : ℕ) → said ≡ said_by 0 xs → width ≡ width_by 0 xs → line_in (after_lines 0 xs) ≡ line
    → more ≡ said ++ bytes_in width line → also ≡ min (length more) 256 → also ≡ width_by 1 xs
unfolding width_by said_by after_lines
width_first xs said more line width also says wide is bytes first =
    let all : more ≡ bytes_in 256 (line_in xs) = bytes ∙ rw (says, wide, is) refl in
    first ∙ ap (λ l. min (length l) 256) all

width_later : (m : ℕ) (xs : List ℕ) → width_by (suc m) xs ≡ width_by (suc (suc m)) xs
unfolding width_by
width_later m xs = refl

width_next : (n : ℕ) (xs said more line : List ℕ) (width also : ℕ) → said ≡ said_by n xs → width ≡ width_by n xs → line_in (after_lines n xs) ≡ line
    → more ≡ said ++ bytes_in width line → (n ≡ 0 → also ≡ min (length more) 256) → (0 < n → also ≡ width) → also ≡ width_by (n + 1) xs
width_next zero xs said more line width also says wide is bytes first later = width_first xs said more line width also says wide is bytes (first refl)
width_next (suc m) xs said more line width also says wide is bytes first later = rw add-one (later (omega arith) ∙ wide ∙ width_later m xs)

-- one line more
at_next : (xs : List ℕ) (n width wider : ℕ) (said more line : List ℕ) (right also : Bool) → IsAt xs n width said right
    → (0 < n → goes_on (line_in (after_lines n xs)) ≡ true) → length said ≤ 262144 → line_in (after_lines n xs) ≡ line → more ≡ said ++ bytes_in width line
    → also ≡ (says_offset line (length said) && right) → (n ≡ 0 → wider ≡ min (length more) 256) → (0 < n → wider ≡ width) → IsAt xs (n + 1) wider more also
at_next xs n width wider said more line right also at front room is bytes offset first later = record {
  goes = λ k some lt. elim (cases_lt k n) [
    | inl before ↦ at.goes k some before
    | inr last ↦ let e : k ≡ n = omega (arith, lt, last) in rw e (front (rw e at some))
  ];
  room = λ k lt. elim (cases_lt k n) [
    | inl before ↦ at.room k before
    | inr last ↦ let e : k ≡ n = omega (arith, lt, last) in rw (e, ← at.says) room
  ];
  wide = width_next n xs said more line width wider at.says at.wide is bytes first later;
  says = rw (said_more n xs, is, ← at.says, ← at.wide) bytes;
  has = rw (right_more n xs, is, ← at.says, ← at.has) offset;
}

-- what keeps these bytes keeps them on
pub keep_on : (p : List ℕ) (c e : Option (List ℕ)) → Keeps (Some p) c → Keeps c e → Keeps (Some p) e
keep_on p None e kept keeps = absurd kept
keep_on p (Some zs) None kept keeps = absurd keeps
keep_on p (Some zs) (Some ys) kept keeps = keeps ∙ kept

-- the line that is held is taken, and more is held
pub run_next : (a b c e : Option (List ℕ)) (held : List ℕ) (n width wider : ℕ) (said more : List ℕ) (right also : Bool)
    → IsRun a (prepend_known held b) n width said right → HoldsLine held ⊎ IsAtEnd b → length (line_in held) ≤ 524288 → length said ≤ 262144
    → more ≡ said ++ bytes_in width (line_in held) → also ≡ (says_offset (line_in held) (length said) && right) → (n ≡ 0 → wider ≡ min (length more) 256)
    → (0 < n → wider ≡ width) → IfSome (prepend_known held b) (λ ys. Keeps (Some (after_line ys)) c) → Keeps c e → IsBehind a e (n + 1) wider more also
run_next None b c e held n width wider said more right also run holds short room bytes offset first later left keeps = tt
run_next (Some xs) None c e held n width wider said more right also run holds short room bytes offset first later left keeps = absurd run.2
run_next (Some xs) (Some ys) c e held n width wider said more right also run holds short room bytes offset first later left keeps =
    let is : line_in (after_lines n xs) ≡ line_in held = rw (← run.2) (same_line held ys short holds) in
    let rest : Keeps (Some (after_lines (n + 1) xs)) c = rw (lines_more n xs, ← run.2) left in
    (at_next xs n width wider said more (line_in held) right also run.0 run.1 room is bytes offset first later, keep_on (after_lines (n + 1) xs) c e rest keeps)

-- a dump that goes on in the line that is held
pub run_more : (a b : Option (List ℕ)) (held : List ℕ) (n width : ℕ) (said : List ℕ) (right : Bool) → IsBehind a (prepend_known held b) n width said right
    → HoldsLine held ⊎ IsAtEnd b → goes_on (line_in held) ≡ true → IsRun a (prepend_known held b) n width said right
run_more None b held n width said right behind holds goes = tt
run_more (Some xs) None held n width said right behind holds goes = absurd behind.1
run_more (Some xs) (Some ys) held n width said right behind holds goes =
    let same : goes_on (line_in (after_lines n xs)) ≡ true = rw (← behind.1) (same_line_goes held ys holds goes) in
    (behind.0, λ some. same, behind.1)
  where
    same_line_goes : (held ys : List ℕ) → HoldsLine held ⊎ (ys ≡ []) → goes_on (line_in held) ≡ true → goes_on (line_in (held ++ ys)) ≡ true
    same_line_goes held ys holds goes = same_said goes_on false long_goes_on held ys holds ∙ goes

-- one that does not
pub run_done : (a b : Option (List ℕ)) (held : List ℕ) (n width : ℕ) (said : List ℕ) (right : Bool) (lead : Lead) (r : Record)
    → IsBehind a (prepend_known held b) n width said right → 0 < n → HoldsLine held ⊎ IsAtEnd b → (262144 < length said) ⊎ (goes_on (line_in held) ≡ false)
    → IsDumpRecord lead said right r → IfSome a (λ xs. (rest : List ℕ) × IsDump lead xs r rest × Keeps (Some rest) (prepend_known held b))
run_done None b held n width said right lead r behind some holds ended is = tt
run_done (Some xs) None held n width said right lead r behind some holds ended is = absurd behind.1
run_done (Some xs) (Some ys) held n width said right lead r behind some holds ended is =
    let at = behind.0 in (
      after_lines n xs,
      record {
        lines = n;
        some = some;
        goes = at.goes;
        room = at.room;
        ended = ends ended;
        is_left = refl;
        is = rw (← at.says, ← at.has) is;
      },
      behind.1,
    )
  where
    ends : (262144 < length said) ⊎ (goes_on (line_in held) ≡ false) → (goes_on (line_in (after_lines n xs)) ≡ false) ⊎ (262144 < length (said_by n xs))
    ends (inl much) = inr (rw (← behind.0.says) much)
    ends (inr other) = inl (rw (← behind.1) (same_said goes_on false long_goes_on held ys holds ∙ other))

-- ---- behind a mark or a time

-- a dump stands behind it
pub led_dump : (a c b e : Option (List ℕ)) (held : List ℕ) (lead : Lead) (r : Record) → IfSome a (λ xs. Keeps (Some (after_line xs)) c)
    → Keeps c (prepend_known held b) → HoldsLine held ⊎ IsAtEnd b → is_dump (line_in held) ≡ true → IfSome (prepend_known held b) (λ ys. (rest : List ℕ)
    × IsDump lead ys r rest × Keeps (Some rest) e) → IfSome a (λ xs. (rest : List ℕ) × IsLed lead (after_line xs) r rest × Keeps (Some rest) e)
led_dump None c b e held lead r left keeps holds begun is = tt
led_dump (Some xs) c None e held lead r left keeps holds begun is = absurd (keep_on (after_line xs) c None left keeps)
led_dump (Some xs) c (Some ys) e held lead r left keeps holds begun is =
    let all : held ++ ys ≡ after_line xs = keep_on (after_line xs) c (Some (held ++ ys)) left keeps in
    let begins : is_dump (line_in (after_line xs)) ≡ true = rw (← all) (same_said is_dump false long_is_dump held ys holds ∙ begun) in
    (is.0, record { dump = λ _. rw (← all) is.1; none = λ none. absurd (true≢false (sym begins ∙ none)) }, is.2)

-- no dump does
pub led_none : (a c b : Option (List ℕ)) (held : List ℕ) (lead : Lead) (r : Record) → IfSome a (λ xs. Keeps (Some (after_line xs)) c)
    → Keeps c (prepend_known held b) → HoldsLine held ⊎ IsAtEnd b → is_dump (line_in held) ≡ false → r.frame ≡ Err NotHex
    → IfSome a (λ xs. (rest : List ℕ) × IsLed lead (after_line xs) r rest × Keeps (Some rest) (prepend_known held b))
led_none None c b held lead r left keeps holds none is = tt
led_none (Some xs) c None held lead r left keeps holds none is = absurd (keep_on (after_line xs) c None left keeps)
led_none (Some xs) c (Some ys) held lead r left keeps holds none is =
    let all : held ++ ys ≡ after_line xs = keep_on (after_line xs) c (Some (held ++ ys)) left keeps in
    let begins : is_dump (line_in (after_line xs)) ≡ false = rw (← all) (same_said is_dump false long_is_dump held ys holds ∙ none) in
    (after_line xs, record { dump = λ begun. absurd (true≢false (sym begun ∙ begins)); none = λ _. (is, refl) }, all)

-- ---- pieces

longer : (held ys : List ℕ) → 0 < length held → 0 < length (held ++ ys)
longer held ys some = rw length-append (omega (arith, some))

-- a dump is the next piece
pub text_dump : (b e : Option (List ℕ)) (held : List ℕ) (r : Record) → HoldsLine held ⊎ IsAtEnd b → 0 < length held → is_dump (line_in held) ≡ true
    → IfSome (prepend_known held b) (λ xs. (rest : List ℕ) × IsDump no_lead xs r rest × Keeps (Some rest) e)
    → IfSome (prepend_known held b) (λ xs. IsTextTaken xs (Some r) e)
text_dump None e held r holds some begun is = tt
text_dump (Some ys) e held r holds some begun is =
    let begins : is_dump (line_in (held ++ ys)) ≡ true = same_said is_dump false long_is_dump held ys holds ∙ begun in (
      is.0,
      longer held ys some,
      record {
        dump = λ _. is.1;
        led = λ lead none _. absurd (true≢false (sym begins ∙ none));
        line = λ none _. absurd (true≢false (sym begins ∙ none));
      },
      is.2,
    )

lead_or : Lead → Option Lead → Lead
lead_or other None = other
lead_or other (Some lead) = lead

-- what stands behind a mark or a time is
pub text_led : (b e : Option (List ℕ)) (held : List ℕ) (lead : Lead) (r : Record) → HoldsLine held ⊎ IsAtEnd b → 0 < length held
    → is_dump (line_in held) ≡ false → preamble_of (line_in held) ≡ Some lead → IfSome (prepend_known held b)
    (λ xs. (rest : List ℕ) × IsLed lead (after_line xs) r rest × Keeps (Some rest) e) → IfSome (prepend_known held b) (λ xs. IsTextTaken xs (Some r) e)
unfolding lead_or
text_led None e held lead r holds some none answered is = tt
text_led (Some ys) e held lead r holds some none answered is =
    let begins : is_dump (line_in (held ++ ys)) ≡ false = same_said is_dump false long_is_dump held ys holds ∙ none in
    let tells : preamble_of (line_in (held ++ ys)) ≡ Some lead = same_said preamble_of None long_preamble held ys holds ∙ answered in (
      is.0,
      longer held ys some,
      record {
        dump = λ begun. absurd (true≢false (sym begun ∙ begins));
        led = λ other _ also. let same : lead ≡ other = ap (lead_or lead) (sym tells ∙ also) in rw (← same) is.1;
        line = λ _ nothing. absurd (some_is_none lead (sym tells ∙ nothing));
      },
      is.2,
    )
  where
    some_is_none : (lead : Lead) → Some lead ≡ None → ⊥
    some_is_none lead e = grind (arith, nat_tests)

-- a line is
pub text_line : (b e : Option (List ℕ)) (held : List ℕ) (found : Option Record) → HoldsLine held ⊎ IsAtEnd b → 0 < length held → is_dump (line_in held) ≡ false
    → preamble_of (line_in held) ≡ None → IfSome (prepend_known held b) (λ xs. IsLineFound xs found × Keeps (Some (after_line xs)) e)
    → IfSome (prepend_known held b) (λ xs. IsTextTaken xs found e)
text_line None e held found holds some none answered is = tt
text_line (Some ys) e held found holds some none answered is =
    let begins : is_dump (line_in (held ++ ys)) ≡ false = same_said is_dump false long_is_dump held ys holds ∙ none in
    let tells : preamble_of (line_in (held ++ ys)) ≡ None = same_said preamble_of None long_preamble held ys holds ∙ answered in (
      after_line (held ++ ys),
      longer held ys some,
      record {
        dump = λ begun. absurd (true≢false (sym begun ∙ begins));
        led = λ lead _ also. absurd (some_is_none lead (sym also ∙ tells));
        line = λ _ _. (is.0, refl);
      },
      is.1,
    )
  where
    some_is_none : (lead : Lead) → Some lead ≡ None → ⊥
    some_is_none lead e = grind (arith, nat_tests)

-- the piece at the front of what is held is the next of the input
pub text_next : (a p e : Option (List ℕ)) (found : Option Record) → Keeps a p → IfSome p (λ xs. IsTextTaken xs found e)
    → IfSome a (λ xs. IsNextText xs e (taken_text found))
text_next None p e found keeps is = tt
text_next (Some xs) None e found keeps is = absurd keeps
text_next (Some xs) (Some zs) e None keeps is = rw (← keeps) is
text_next (Some xs) (Some zs) e (Some r) keeps is = rw (← keeps) is
