-- Chunks of any types, one behind the other.
use Rattle.std.proofs.Common.{◌≡◌, ℕ, ◌+◌, ◌<◌, true, false, List, [], ◌∷◌, ◌++◌, length, drop, refl, sym, subst, ap, ◌∙◌, inl, inr, arith, length-append}
use Rattle.std.specs.Prelude.{◌⊎◌, zero, suc, map}
use Rattle.std.specs.List.{AllByRecursion}
use Rattle.std.proofs.lemmas.List.{drop-drop, map-append}
use Rattle.sctp_util.specs.Padding.{padded_length}
use Rattle.sctp_util.specs.Walk.{Walks}
use Rattle.sctp_chunks.specs.Framing.{declared_length, type_at}
use Rattle.sctp_chunks.specs.Wire.{Wire}
use Rattle.sctp_packets.specs.Packet.{after}
use Rattle.sctp_datagram.specs.Framing.{StartsPadded}
use Rattle.sctp_datagram.specs.InPlace.{IsInPlace}
use Rattle.sctp_datagram.specs.Places.{AreThere, HasChunks, IsThere, Passes, TellsAll, behind, place_at, rows_from}
use Rattle.sctp_datagram.specs.Types.{is_stopping}
use Rattle.sctp_datagram.specs.declared.datagram.ChunkPlace.{ChunkPlace}

-- the reading goes on behind the chunk at a place
abbrev pub Passing : List ℕ → ℕ → Type 0
Passing packet at = IsThere (drop at packet) × (is_stopping (type_at (drop at packet)) ≡ false)

-- one more chunk is passed
pub passes-next : (packet : List ℕ) (at : ℕ) (rows : List ChunkPlace) (end : ℕ) → Passes place_at packet at rows end → Passing packet end
    → Passes place_at packet at (rows ++ place_at packet end ∷ []) (behind packet end)
passes-next packet at [] end so_far on =
    let P : ℕ → Type 0 = λ p. (place_at packet end ≡ place_at packet p) × IsThere (drop p packet)
    × (is_stopping (type_at (drop p packet)) ≡ false) × (behind packet p ≡ behind packet end) in
    subst P (sym so_far) (refl, on.0, on.1, refl)
passes-next packet at (row ∷ rows) end so_far on =
    (so_far.0, so_far.1, so_far.2, passes-next packet (behind packet at) rows end so_far.3 on)

-- the packet ends at a place, or a chunk there stops the reading
abbrev pub Ends : List ℕ → ℕ → Type 0
Ends packet end = (drop end packet ≡ []) ⊎ (IsThere (drop end packet) × (is_stopping (type_at (drop end packet)) ≡ true))

-- the reading does not go on there
ends-here : (packet : List ℕ) (end : ℕ) → Ends packet end → Passing packet end → ⊥
ends-here packet end (inl none) on = omega (arith, ap (λ (l : List ℕ). length l) none, on.0.is_framed.headed)
ends-here packet end (inr stop) on = grind (arith, stop.1, on.1)

-- a chunk is there, where bytes are left
ends-there : (packet : List ℕ) (end : ℕ) → Ends packet end → 0 < length (drop end packet) → IsThere (drop end packet)
ends-there packet end (inl none) some = absurd (omega (arith, ap (λ (l : List ℕ). length l) none, some))
ends-there packet end (inr stop) some = stop.0

-- wherever the reading stands before the end, a chunk is there, if all can be read
pub goes-on : (packet : List ℕ) (at : ℕ) (xs ys : List ChunkPlace) (here end : ℕ) → Passes place_at packet at xs here → Passes place_at packet at ys end
    → Ends packet end → 0 < length (drop here packet) → IsThere (drop here packet)
goes-on packet at [] [] here end a b ended some =
    let P : ℕ → Type 0 = λ p. 0 < length (drop p packet) → IsThere (drop p packet) in
    subst P (sym b ∙ a) (ends-there packet end ended) some
goes-on packet at [] (y ∷ ys) here end a b ended some =
    let P : ℕ → Type 0 = λ p. IsThere (drop p packet) in
    subst P a b.1
goes-on packet at (x ∷ xs) [] here end a b ended some =
    let P : ℕ → Type 0 = λ p. Passing packet p in
    absurd (ends-here packet end ended (subst P b (a.1, a.2)))
goes-on packet at (x ∷ xs) (y ∷ ys) here end a b ended some =
    goes-on packet (behind packet at) xs ys here end a.3 b.3 ended some

-- where all is told
ends-answered : (packet : List ℕ) (rows : List ChunkPlace) (all : TellsAll place_at packet rows) → Ends packet all.end
ends-answered packet rows all = elim all.ended [
  | inl e ↦ inl e.0
  | inr e ↦ inr (e.0, e.1)
]

pub all-there : (packet : List ℕ) (rows passed : List ChunkPlace) (here : ℕ) → TellsAll place_at packet rows → Passes place_at packet 12 passed here
    → 0 < length (drop here packet) → IsThere (drop here packet)
all-there packet rows passed here all so_far some =
    goes-on packet 12 passed all.passed here all.end so_far all.passes (ends-answered packet rows all) some

-- ## Rows by their places

pub length-rows_from : {T : Type 0} (row : List ℕ → ℕ → T) (n : ℕ) (packet : List ℕ) (at : ℕ) → length (rows_from row packet at n) ≡ n
length-rows_from row zero packet at = refl
length-rows_from row (suc n) packet at = ap suc (length-rows_from row n packet (behind packet at))

-- the first of some chunks
pub first-there : (packet : List ℕ) (at n : ℕ) → 0 < n → AreThere packet at n → IsThere (drop at packet)
first-there packet at zero some there = absurd (omega (arith, some))
first-there packet at (suc n) some there = there.0

-- the chunks that rows tell of are there, and one more where it is there too
pub passes-there : {T : Type 0} (row : List ℕ → ℕ → T) (packet : List ℕ) (at : ℕ) (rows : List T) (end : ℕ) → Passes row packet at rows end
    → AreThere packet at (length rows)
passes-there row packet at [] end passes = tt
passes-there row packet at (r ∷ rows) end passes = (passes.1, passes-there row packet (behind packet at) rows end passes.3)

pub more-there : {T : Type 0} (row : List ℕ → ℕ → T) (packet : List ℕ) (at : ℕ) (rows : List T) (end : ℕ) (last : T) → Passes row packet at rows end
    → IsThere (drop end packet) → AreThere packet at (length (rows ++ last ∷ []))
more-there row packet at [] end last passes there = subst (λ (p : ℕ). AreThere packet p 1) (sym passes) (there, tt)
more-there row packet at (r ∷ rows) end last passes there = (passes.1, more-there row packet (behind packet at) rows end last passes.3 there)

-- rows are those of their places
pub passes-rows : {T : Type 0} (row : List ℕ → ℕ → T) (packet : List ℕ) (at : ℕ) (rows : List T) (end : ℕ) → Passes row packet at rows end
    → rows ≡ rows_from row packet at (length rows)
passes-rows row packet at [] end passes = refl
passes-rows {T} row packet at (r ∷ rows) end passes =
    let later : rows ≡ rows_from row packet (behind packet at) (length rows) = passes-rows row packet (behind packet at) rows end passes.3 in
    ap (λ (x : T). x ∷ rows) passes.0 ∙ ap (λ (xs : List T). row packet at ∷ xs) later

pub more-rows : {T : Type 0} (row : List ℕ → ℕ → T) (packet : List ℕ) (at : ℕ) (rows : List T) (end : ℕ) → Passes row packet at rows end
    → rows ++ row packet end ∷ [] ≡ rows_from row packet at (length (rows ++ row packet end ∷ []))
more-rows {T} row packet at [] end passes = ap (λ (p : ℕ). let x : List T = row packet p ∷ [] in x) (sym passes)
more-rows {T} row packet at (r ∷ rows) end passes =
    let all : List T = rows ++ row packet end ∷ [] in
    let later : all ≡ rows_from row packet (behind packet at) (length all) = more-rows row packet (behind packet at) rows end passes.3 in
    ap (λ (x : T). x ∷ all) passes.0 ∙ ap (λ (xs : List T). row packet at ∷ xs) later

-- where all is told
pub told-there : {T : Type 0} (row : List ℕ → ℕ → T) (packet : List ℕ) (rows : List T) → TellsAll row packet rows → AreThere packet 12 (length rows)
told-there {T} row packet rows all = elim all.ended [
  | inl e ↦ subst (λ (r : List T). AreThere packet 12 (length r)) (sym e.1) (passes-there row packet 12 all.passed all.end all.passes)
  | inr e ↦ subst (λ (r : List T). AreThere packet 12 (length r)) (sym e.2)
      (more-there row packet 12 all.passed all.end (row packet all.end) all.passes e.0)
]

pub told-rows : {T : Type 0} (row : List ℕ → ℕ → T) (packet : List ℕ) (rows : List T) → TellsAll row packet rows
    → rows ≡ rows_from row packet 12 (length rows)
told-rows {T} row packet rows all = elim all.ended [
  | inl e ↦ subst (λ (r : List T). r ≡ rows_from row packet 12 (length r)) (sym e.1) (passes-rows row packet 12 all.passed all.end all.passes)
  | inr e ↦ subst (λ (r : List T). r ≡ rows_from row packet 12 (length r)) (sym e.2) (more-rows row packet 12 all.passed all.end all.passes)
]

-- of so many chunks
pub counted_there : (packet : List ℕ) (n : ℕ) → HasChunks packet n → AreThere packet 12 n
counted_there packet n has = subst (λ (k : ℕ). AreThere packet 12 k) (sym has.count) (told-there place_at packet has.rows has.told)

pub counted_told : (packet : List ℕ) (n : ℕ) → HasChunks packet n → TellsAll place_at packet (rows_from place_at packet 12 n)
counted_told packet n has =
    let same : has.rows ≡ rows_from place_at packet 12 n = told-rows place_at packet has.rows has.told ∙ ap (rows_from place_at packet 12) (sym has.count) in
    subst (TellsAll place_at packet) same has.told

-- ## Rows of another kind

-- the same chunks, told in another way
pub passes-retold : {T U : Type 0} (row : List ℕ → ℕ → T) (other : List ℕ → ℕ → U) (packet : List ℕ) (at : ℕ) (rows : List T) (end : ℕ)
    → Passes row packet at rows end → (others : List U) × Passes other packet at others end
passes-retold row other packet at [] end passes = ([], passes)
passes-retold row other packet at (r ∷ rows) end passes =
    let later = passes-retold row other packet (behind packet at) rows end passes.3 in
    (other packet at ∷ later.0, (refl, passes.1, passes.2, later.1))

pub retold : {T U : Type 0} (row : List ℕ → ℕ → T) (other : List ℕ → ℕ → U) (packet : List ℕ) (rows : List T) → TellsAll row packet rows
    → (others : List U) × TellsAll other packet others
retold row other packet rows all =
    let passed = passes-retold row other packet 12 all.passed all.end all.passes in
    elim all.ended [
      | inl e ↦ (passed.0, record { passed = passed.0; end = all.end; passes = passed.1; ended = inl (e.0, refl) })
      | inr e ↦ (
        passed.0 ++ other packet all.end ∷ [],
        record { passed = passed.0; end = all.end; passes = passed.1; ended = inr (e.0, e.1, refl) },
      )
    ]

-- a function makes the one row of the other
pub passes-mapped : {T U : Type 0} (row : List ℕ → ℕ → T) (f : T → U) (packet : List ℕ) (at : ℕ) (rows : List T) (end : ℕ)
    → Passes row packet at rows end → Passes (λ p k. f (row p k)) packet at (map f rows) end
passes-mapped row f packet at [] end passes = passes
passes-mapped row f packet at (r ∷ rows) end passes =
    (ap f passes.0, passes.1, passes.2, passes-mapped row f packet (behind packet at) rows end passes.3)

pub mapped : {T U : Type 0} (row : List ℕ → ℕ → T) (f : T → U) (packet : List ℕ) (rows : List T) → TellsAll row packet rows
    → TellsAll (λ p k. f (row p k)) packet (map f rows)
mapped row f packet rows all = record {
  passed = map f all.passed;
  end = all.end;
  passes = passes-mapped row f packet 12 all.passed all.end all.passes;
  ended = elim all.ended [
    | inl e ↦ inl (e.0, ap (map f) e.1)
    | inr e ↦ inr (e.0, e.1, ap (map f) e.2 ∙ map-append f all.passed (row packet all.end ∷ []))
  ];
}

-- ## Chunks counted

-- so many chunks are passed before a place
abbrev pub PassedTo : List ℕ → ℕ → ℕ → Type 0
PassedTo packet at n = (rows : List ChunkPlace) × Passes place_at packet 12 rows at × (n ≡ length rows)

pub passed-none : (packet : List ℕ) → PassedTo packet 12 0
passed-none packet = ([], refl, refl)

pub passed-next : (packet : List ℕ) (at n : ℕ) → PassedTo packet at n → Passing packet at → PassedTo packet (behind packet at) (n + 1)
passed-next packet at n so_far on =
    let rows = so_far.0 in (
      rows ++ place_at packet at ∷ [],
      passes-next packet 12 rows at so_far.1 on,
      omega (arith, so_far.2, length-append rows (place_at packet at ∷ [])),
    )

pub passed-stop : (packet : List ℕ) (at n : ℕ) → PassedTo packet at n → IsThere (drop at packet) → is_stopping (type_at (drop at packet)) ≡ true
    → HasChunks packet (n + 1)
passed-stop packet at n so_far there stops =
    let rows = so_far.0 in
    record {
      rows = rows ++ place_at packet at ∷ [];
      told = record { passed = rows; end = at; passes = so_far.1; ended = inr (there, stops, refl) };
      count = omega (arith, so_far.2, length-append rows (place_at packet at ∷ []));
    }

-- ## Chunks that are read in place

-- wherever the reading stands before the end, such a chunk is there, where all are of them
pub in_place_passed : (packet : List ℕ) (at : ℕ) (rows : List ChunkPlace) (vs : List Wire) (here : ℕ) → Passes place_at packet at rows here
    → Walks StartsPadded after (drop at packet) vs [] → AllByRecursion IsInPlace vs → 0 < length (drop here packet)
    → (w : Wire) × IsInPlace w × StartsPadded (drop here packet) w
unfolding Walks after
in_place_passed packet at [] [] here passes walk all some =
    let none : length (drop here packet) ≡ 0 = ap (λ (p : ℕ). length (drop p packet)) (sym passes) ∙ ap (λ (l : List ℕ). length l) walk in
    absurd (omega (arith, none, some))
in_place_passed packet at [] (v ∷ vs) here passes walk all some = (v, all.0, subst (λ (p : ℕ). StartsPadded (drop p packet) v) passes walk.0)
in_place_passed packet at (row ∷ rows) [] here passes walk all some =
    absurd (omega (arith, ap (λ (l : List ℕ). length l) walk, passes.1.is_framed.headed))
in_place_passed packet at (row ∷ rows) (v ∷ vs) here passes walk all some =
    let rest = subst (λ (b : List ℕ). Walks StartsPadded after b vs []) (drop-drop (padded_length (declared_length (drop at packet))) at packet) walk.1 in
    in_place_passed packet (behind packet at) rows vs here passes.3 rest all.1 some
