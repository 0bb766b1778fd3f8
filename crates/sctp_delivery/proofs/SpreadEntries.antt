-- How many ordered messages of a stream were begun by the entries up to a place; and the entry that each chunk in flight stands for.
use Rattle.sctp_delivery.proofs.Names.{common_steps, ◌≡◌, ℕ, ◌+◌, ◌%◌, ◌^◌, ◌<◌, ◌≤◌, Bool, true, false, not, List, [], ◌∷◌, length, inl, inr, refl, ap, sym}
use Rattle.sctp_delivery.proofs.Names.{subst, ◌∙◌, arith, ⊤, ◌==◌, ◌&&◌, if◌then◌else◌, nat_le, cases_lt, nat_tests, same-yes, and, not_both, tsn}
use Rattle.sctp_delivery.proofs.Names.{ChunkPayloadData, Data, data_of, is_ordered_on}
use Rattle.sctp_delivery.proofs.Cases.{Where, where-map}
use Rattle.sctp_delivery.proofs.OrderedEntries.{AreIndexedOn, AreJoined, IsIndexed, IsLatest, IsNumberOf, begins-inner, begun_on, ends_on, one, part-fewer}
use Rattle.sctp_delivery.proofs.OrderedEntries.{part-indexed}
use Rattle.sctp_delivery.proofs.Sent.{Entry, IsLine, IsPart, Numbered, WasSent, fragment, part-itself, part-length, part-line, same-parts, tail-part, terminal}
use Rattle.sctp_delivery.proofs.TsnPlaces.{base}

-- ## The entry of a chunk

-- before the chunk so many ordered messages of the stream were begun, and up to it so many: an ordered chunk of the stream has the
-- number of the last of them
pub record IsStep (st before upto : ℕ) (c : ChunkPayloadData) : Type 0 where
  pub up : before ≤ upto
  pub most : upto ≤ before + 1
  pub other : is_ordered_on st c ≡ false → upto ≡ before
  pub number : is_ordered_on st c ≡ true → IsLatest upto c.stream_sequence_number

-- the entry is a terminal chunk, or a fragment of the chunk's message that ends it where the chunk does
abbrev pub IsFor : ChunkPayloadData → Entry → Type 0
IsFor c terminal = ⊤
IsFor c (fragment d w after) = (w.place ≡ c.message_id) × (d.ending_fragment ≡ c.ending_fragment)

-- the chunk stands for the entry with its TSN; on these streams it has the number of a message
pub record IsPlacedOn (on' : ℕ → Bool) (first : ℕ) (sent : List Entry) (c : ChunkPayloadData) : Type 0 where
  pub entry : Entry
  pub entries : List Entry
  pub part : IsPart (entry ∷ entries) sent
  pub number : c.tsn ≡ (first + length entries) % 2 ^ 32
  pub step : (st : ℕ) → Where (on' st) (IsStep st (begun_on st entries) (begun_on st (entry ∷ entries)) c)
  pub on : (st : ℕ) → is_ordered_on st c ≡ ends_on st (entry ∷ entries)
  pub for' : IsFor c entry

pub one-most : (b : Bool) → one b ≤ 1
one-most true = omega arith
one-most false = omega arith

pub step-fragment : (st : ℕ) (t : ChunkPayloadData) (w : Numbered) (after : List ℕ) (xs : List Entry)
    → (t.stream_identifier ≡ st → IsIndexed (data_of t) xs) → IsStep st (begun_on st xs) (begun_on st (fragment (data_of t) w after ∷ xs)) t
step-fragment st t w after xs i = grind (arith, nat_tests)

pub step-terminal : (st : ℕ) (t : ChunkPayloadData) (sent : List Entry)
    → (t.stream_identifier ≡ st → t.unordered ≡ false → IsLatest (begun_on t.stream_identifier sent) t.stream_sequence_number)
    → IsStep st (begun_on st sent) (begun_on st (terminal ∷ sent)) t
step-terminal st t sent h = grind (arith, nat_tests)

pub ordered-alike : (st : ℕ) (c d : ChunkPayloadData) → d.stream_identifier ≡ c.stream_identifier → d.unordered ≡ c.unordered
    → is_ordered_on st d ≡ is_ordered_on st c
ordered-alike st c d on kind = ap (λ k. (k == st) && not d.unordered) on ∙ ap (λ b. (c.stream_identifier == st) && not b) kind

pub step-alike : (st before upto : ℕ) (c d : ChunkPayloadData) → d.stream_identifier ≡ c.stream_identifier → d.unordered ≡ c.unordered
    → d.stream_sequence_number ≡ c.stream_sequence_number → IsStep st before upto c → IsStep st before upto d
step-alike st before upto c d on kind same s = grind (arith, nat_tests)

pub placed-more : (on : ℕ → Bool) (first : ℕ) (x : Entry) (sent : List Entry) (c : ChunkPayloadData) → IsPlacedOn on first sent c
    → IsPlacedOn on first (x ∷ sent) c
placed-more on first x sent c i = record { entry = i.entry; entries = i.entries; part = inr i.part; number = i.number; step = i.step; on = i.on; for' = i.for' }

-- an ordered one has the number of a message that was begun
pub number-of : (on : ℕ → Bool) (first : ℕ) (sent : List Entry) (c : ChunkPayloadData) → IsPlacedOn on first sent c → c.unordered ≡ false
    → Where (on c.stream_identifier) (IsNumberOf sent c.stream_identifier c.stream_sequence_number)
number-of on first sent c i k =
    let st = c.stream_identifier in
    where-map (on c.stream_identifier) (IsStep st (begun_on st i.entries) (begun_on st (i.entry ∷ i.entries)) c)
    (IsNumberOf sent c.stream_identifier c.stream_sequence_number)
    (λ s.
    let it : is_ordered_on st c ≡ true = and (st == st) (not c.unordered) (same-yes st) (ap not k) in
    let n = s.number it in
    let e = n.1 in
    let le = part-fewer st sent (i.entry ∷ i.entries) i.part in
    (n.0, omega (arith, e, le), n.2)) (i.step st)

-- ## Up to a place

-- so many ordered messages of the stream were begun by the first k entries
abbrev pub begun_to : ℕ → ℕ → List Entry → ℕ
begun_to st k [] = 0
begun_to st k (x ∷ xs) = if nat_le (length (x ∷ xs)) k then begun_on st (x ∷ xs) else begun_to st k xs

pub step-up : (st : ℕ) (x : Entry) (xs : List Entry) → begun_on st xs ≤ begun_on st (x ∷ xs)
step-up st terminal xs = omega arith
step-up st (fragment d w after) xs = omega arith

to-here : (st k : ℕ) (x : Entry) (xs : List Entry) → length (x ∷ xs) ≤ k → begun_to st k (x ∷ xs) ≡ begun_on st (x ∷ xs)
to-here st k x xs le = grind (arith, nat_tests)

pub to-more : (st k : ℕ) (x : Entry) (xs : List Entry) → k ≤ length xs → begun_to st k (x ∷ xs) ≡ begun_to st k xs
to-more st k x xs le = grind (arith, nat_tests)

pub to-all : (st k : ℕ) (sent : List Entry) → length sent ≤ k → begun_to st k sent ≡ begun_on st sent
to-all st k [] le = refl
to-all st k (x ∷ xs) le = to-here st k x xs le

pub to-most : (st k : ℕ) (sent : List Entry) → begun_to st k sent ≤ begun_on st sent
to-most st k [] = omega arith
to-most st k (x ∷ xs) = grind (arith, nat_tests, to-most st k xs)

pub to-up : (st j k : ℕ) (sent : List Entry) → j ≤ k → begun_to st j sent ≤ begun_to st k sent
to-up st j k [] le = omega arith
to-up st j k (x ∷ xs) le = grind (arith, nat_tests, cases_lt, to-here, to-more, to-most, to-up st j k xs le)

-- of the first entries, as many as those are
pub to-part : (st : ℕ) (sent ys : List Entry) → IsPart ys sent → begun_to st (length ys) sent ≡ begun_on st ys
to-part st [] ys p = sym (ap (begun_on st) p)
to-part st (x ∷ xs) ys (inl e) = grind (arith, nat_tests)
to-part st (x ∷ xs) ys (inr p) = to-more st (length ys) x xs (part-length xs ys p) ∙ to-part st xs ys p

-- ## At a place

-- the entry there is an ordered fragment of the stream, or the terminal chunk behind such
abbrev pub is_at : ℕ → ℕ → List Entry → Bool
is_at st k [] = false
is_at st k (x ∷ xs) = if length (x ∷ xs) == k then ends_on st (x ∷ xs) else is_at st k xs

pub at-more : (st k : ℕ) (x : Entry) (xs : List Entry) → k ≤ length xs → is_at st k (x ∷ xs) ≡ is_at st k xs
at-more st k x xs le = grind (arith, nat_tests)

pub at-here : (st : ℕ) (x : Entry) (xs : List Entry) (k : ℕ) → k ≡ length (x ∷ xs) → is_at st k (x ∷ xs) ≡ ends_on st (x ∷ xs)
at-here st x xs k e = grind (arith, nat_tests)

pub at-part : (st : ℕ) (sent ys : List Entry) → IsPart ys sent → is_at st (length ys) sent ≡ ends_on st ys
at-part st [] ys p = sym (ap (ends_on st) p)
at-part st (x ∷ xs) ys (inl e) = at-here st x xs (length ys) (ap length e) ∙ sym (ap (ends_on st) e)
at-part st (x ∷ xs) ys (inr p) = at-more st (length ys) x xs (part-length xs ys p) ∙ at-part st xs ys p

pub joined-rest : (y : Entry) (ys : List Entry) → AreJoined (y ∷ ys) → AreJoined ys
joined-rest terminal ys j = j
joined-rest (fragment d w after) ys j = j.1

pub part-joined : (xs ys : List Entry) → IsPart ys xs → AreJoined xs → AreJoined ys
part-joined [] ys p j = subst AreJoined (sym p) j
part-joined (x ∷ xs) ys (inl e) j = subst AreJoined (sym e) j
part-joined (x ∷ xs) ys (inr p) j = part-joined xs ys p (joined-rest x xs j)

-- behind a fragment that does not end its message goes another one of it, or the terminal one
ends-next : (st : ℕ) (d : Data) (w : Numbered) (after : List ℕ) (xs : List Entry) (y : Entry) → d.ending_fragment ≡ false
    → AreJoined (y ∷ fragment d w after ∷ xs) → ends_on st (y ∷ fragment d w after ∷ xs) ≡ ends_on st (fragment d w after ∷ xs)
ends-next st d w after xs y h7 h8 = grind (arith, nat_tests)

begun-next : (st : ℕ) (d : Data) (w : Numbered) (after : List ℕ) (xs : List Entry) (y : Entry) → d.ending_fragment ≡ false
    → AreJoined (y ∷ fragment d w after ∷ xs) → begun_on st (y ∷ fragment d w after ∷ xs) ≡ begun_on st (fragment d w after ∷ xs)
begun-next st d w after xs y h7 h8 = grind (arith, nat_tests)

pub at-next : (st : ℕ) (sent : List Entry) (d : Data) (w : Numbered) (after : List ℕ) (xs : List Entry) → AreJoined sent
    → IsPart (fragment d w after ∷ xs) sent → d.ending_fragment ≡ false → length (fragment d w after ∷ xs) < length sent
    → (is_at st (length (fragment d w after ∷ xs) + 1) sent ≡ ends_on st (fragment d w after ∷ xs))
    × (begun_to st (length (fragment d w after ∷ xs) + 1) sent ≡ begun_on st (fragment d w after ∷ xs))
at-next st [] d w after xs j p e lt = absurd (omega (arith, lt))
at-next st (y ∷ ys) d w after xs j (inl q) e lt = let n = ap length q in absurd (omega (arith, n, lt))
at-next st (y ∷ ys) d w after xs j (inr p) e lt = elim (cases_lt (length (fragment d w after ∷ xs)) (length ys)) [
  | inl less ↦
      let ih = at-next st ys d w after xs (joined-rest y ys j) p e less in (
        at-more st (length (fragment d w after ∷ xs) + 1) y ys (omega (arith, less)) ∙ ih.0,
        to-more st (length (fragment d w after ∷ xs) + 1) y ys (omega (arith, less)) ∙ ih.1,
      )
  | inr ge ↦
      let most = part-length ys (fragment d w after ∷ xs) p in
      let long : length ys ≡ length (fragment d w after ∷ xs) = omega (arith, ge, most) in
      let same : ys ≡ fragment d w after ∷ xs = same-parts ys ys (fragment d w after ∷ xs) (part-itself ys) p long in
      let next = subst (λ zs. AreJoined (y ∷ zs)) same j in (
        at-here st y ys (length (fragment d w after ∷ xs) + 1) (omega (arith, long)) ∙ ap (λ zs. ends_on st (y ∷ zs)) same
            ∙ ends-next st d w after xs y e next,
        to-here st (length (fragment d w after ∷ xs) + 1) y ys (omega (arith, long)) ∙ ap (λ zs. begun_on st (y ∷ zs)) same
            ∙ begun-next st d w after xs y e next,
      )
]

-- and one that does not begin stands behind one of it
pub at-before : (st : ℕ) (sent : List Entry) (d : Data) (w : Numbered) (after : List ℕ) (xs : List Entry) → AreJoined sent
    → IsPart (fragment d w after ∷ xs) sent → d.beginning_fragment ≡ false
    → (0 < length xs) × (is_at st (length xs) sent ≡ ends_on st (fragment d w after ∷ xs))
at-before st sent d w after xs j p e = grind (arith, nat_tests, at-part, not_both, part-joined, tail-part)

-- ## What was made

-- the entry of a DATA chunk that was made stands behind so many, and what stands before and behind it is of its message
pub record IsEntry (st first : ℕ) (sent : List Entry) (c : ChunkPayloadData) : Type 0 where
  pub before : ℕ
  pub within : before + 1 ≤ length sent
  pub is : c.tsn ≡ tsn (base first) (before + 1)
  pub step : IsStep st (begun_to st before sent) (begun_to st (before + 1) sent) c
  pub inner : c.beginning_fragment ≡ false → begun_to st (before + 1) sent ≡ begun_to st before sent
  pub on : is_at st (before + 1) sent ≡ is_ordered_on st c
  pub prior : c.beginning_fragment ≡ false → (0 < before) × (is_at st before sent ≡ is_ordered_on st c)
  pub next : c.ending_fragment ≡ false → before + 1 < length sent
      → (is_at st (before + 1 + 1) sent ≡ is_ordered_on st c) × (begun_to st (before + 1 + 1) sent ≡ begun_to st (before + 1) sent)

pub made-entry : (on : ℕ → Bool) (ws : List Numbered) (first : ℕ) (sent : List Entry) → IsLine ws first sent → AreIndexedOn on sent → AreJoined sent
    → (st : ℕ) → on st ≡ true → (c : ChunkPayloadData) (s : WasSent sent (data_of c)) → (e : IsEntry st first sent c) × (e.before ≡ length s.2)
made-entry on ws first sent line indexed joined st o c (w, after, xs, part) =
    let l = part-line ws first sent (fragment (data_of c) w after ∷ xs) part line in
    let i = part-indexed on sent (fragment (data_of c) w after ∷ xs) part indexed in
    let number = l.0.number in
    let long : length (fragment (data_of c) w after ∷ xs) ≡ length xs + 1 = omega arith in
    let before = to-part st sent xs (tail-part sent xs (fragment (data_of c) w after) part) in
    let upto : begun_to st (length xs + 1) sent ≡ begun_on st (fragment (data_of c) w after ∷ xs) =
    ap (λ k. begun_to st k sent) (sym long) ∙ to-part st sent (fragment (data_of c) w after ∷ xs) part in
    let e : IsEntry st first sent c = record {
      before = length xs;
      within = let n = part-length sent (fragment (data_of c) w after ∷ xs) part in omega (arith, n);
      is = omega (arith, number);
      step = grind (arith, nat_tests, common_steps);
      inner = λ e. let none = ap one (begins-inner st (data_of c) e) in omega (arith, none, upto, before);
      on = ap (λ k. is_at st k sent) (sym long) ∙ at-part st sent (fragment (data_of c) w after ∷ xs) part;
      prior = λ e. at-before st sent (data_of c) w after xs joined part e;
      next = λ e lt.
          let b = at-next st sent (data_of c) w after xs joined part e (omega (arith, lt)) in
          (ap (λ k. is_at st (k + 1) sent) (sym long) ∙ b.0, ap (λ k. begun_to st (k + 1) sent) (sym long) ∙ b.1 ∙ sym upto);
    } in
    (e, refl)
