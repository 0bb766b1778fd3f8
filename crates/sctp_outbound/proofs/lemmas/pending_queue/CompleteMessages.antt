-- Messages stay whole while chunks come, leave and change.
use Rattle.std.proofs.Common.{nat_le, get_or, take, length, ◌⊎◌, inl, inr, ◌≡◌, ◌==◌, ℕ, zero, suc, ◌+◌, ◌<◌, ◌≤◌, Bool, true, false, not, ◌||◌, if◌then◌else◌}
use Rattle.std.proofs.Common.{List, [], ◌∷◌, ◌++◌, map, Option, Some, None, refl, sym, ap₂, ◌∙◌, subst, arith}
use Rattle.std.specs.List.{All, list_any}
use Rattle.std.proofs.lemmas.Bool.{cases_lt}
use Rattle.std.proofs.lemmas.List.{get_or-take, get_or_default, length-take-le}
use Rattle.std.proofs.lemmas.Bool.Decides.{nat_tests}
use Rattle.sctp_data.specs.declared.chunk.chunk_payload_data.ChunkPayloadData.{ChunkPayloadData}
use Rattle.sctp_util.specs.Lists.{change_where}
use Rattle.sctp_util.proofs.Edits.{pairs_cons}
use Rattle.sctp_outbound.specs.declared.pending_queue.Selected.{Selected}
use Rattle.sctp_outbound.specs.Marks.{is_of}
use Rattle.sctp_outbound.specs.outbound_queue.OutboundQueue.{with_message_id}
use Rattle.sctp_outbound.specs.pending_queue.PendingQueue.{is_to_start, without_message}
use Rattle.sctp_outbound.specs.pending_queue.Whole.{Stage, free, begun, NumbersAscend, stage_after, stage_of, IsWhole, IsMessage}

-- all numbers that the stage knows of are below
abbrev pub IsBelow : Stage → ℕ → Type 0
IsBelow (free least) n = least ≤ n
IsBelow (begun message) n = message < n

after_below : (b : Bool) (m n : ℕ) → m < n → IsBelow (if b then free (m + 1) else begun m) n
after_below true m n lt = omega arith
after_below false m n lt = lt

-- ## Whole lists

-- a lower start and a higher bound
pub weaken_bound : (kind : Bool) (low high : ℕ) → low ≤ high → (stage : Stage) (xs : List ChunkPayloadData) → IsWhole kind low stage xs
    → IsWhole kind high stage xs
weaken_bound kind low high le (free least) [] w = w
weaken_bound kind low high le (begun message) [] w = w
weaken_bound kind low high le (free least) (c ∷ cs) w = (w.0, w.1, omega (arith, w.2), weaken_bound kind low high le (stage_after c) cs w.3)
weaken_bound kind low high le (begun message) (c ∷ cs) w = (w.0, w.1, omega (arith, w.2), weaken_bound kind low high le (stage_after c) cs w.3)

pub weaken_start : (kind : Bool) (below low high : ℕ) → low ≤ high → (xs : List ChunkPayloadData) → IsWhole kind below (free high) xs
    → IsWhole kind below (free low) xs
weaken_start kind below low high le [] w = w
weaken_start kind below low high le (c ∷ cs) w = ((w.0.0, omega (arith, w.0.1)), w.1, w.2, w.3)

-- a further message behind
pub IsWhole-append : (kind : Bool) (n m : ℕ) → n ≤ m → (stage : Stage) (xs ys : List ChunkPayloadData) → IsBelow stage n → IsWhole kind n stage xs
    → IsWhole kind m (free n) ys → IsWhole kind m stage (xs ++ ys)
IsWhole-append kind n m le (free least) [] ys b w v = weaken_start kind m least n b ys v
IsWhole-append kind n m le (begun message) [] ys b w v = absurd w
IsWhole-append kind n m le (free least) (c ∷ cs) ys b w v =
    (w.0, w.1, omega (arith, w.2), IsWhole-append kind n m le (stage_after c) cs ys (after_below c.ending_fragment c.message_id n w.2) w.3 v)
IsWhole-append kind n m le (begun message) (c ∷ cs) ys b w v =
    (w.0, w.1, omega (arith, w.2), IsWhole-append kind n m le (stage_after c) cs ys (after_below c.ending_fragment c.message_id n w.2) w.3 v)

-- a message with its number
pub IsWhole-message : (kind goes_on : Bool) (n : ℕ) (xs : List ChunkPayloadData) → IsMessage kind goes_on xs
    → IsWhole kind (n + 1) (if goes_on then begun n else free n) (map (with_message_id n) xs)
IsWhole-message kind goes_on n [] h = absurd h
IsWhole-message kind true n (c ∷ []) h = ((h.0, refl), h.2, omega arith, rw h.1 tt)
IsWhole-message kind false n (c ∷ []) h = ((h.0, omega arith), h.2, omega arith, rw h.1 tt)
IsWhole-message kind true n (c ∷ d ∷ ds) h = ((h.0, refl), h.2, omega arith, rw h.1 (IsWhole-message kind true n (d ∷ ds) h.3))
IsWhole-message kind false n (c ∷ d ∷ ds) h = ((h.0, omega arith), h.2, omega arith, rw h.1 (IsWhole-message kind true n (d ∷ ds) h.3))

-- where a list stands without a message
abbrev pub stage_without : ℕ → Stage → Stage
stage_without m (free least) = free least
stage_without m (begun j) = if j == m then free (j + 1) else begun j

module _ (kind : Bool) (below m : ℕ) where
  after_it : (b : Bool) (k : ℕ) (xs : List ChunkPayloadData) → (k == m) ≡ true → IsWhole kind below (stage_without m (if b then free (k + 1) else begun k)) xs
      → IsWhole kind below (free (k + 1)) xs
  after_it true k xs e w = w
  after_it false k xs e w = subst (λ (b : Bool). IsWhole kind below (if b then free (k + 1) else begun k) xs) e w

  after_other : (b : Bool) (k : ℕ) (xs : List ChunkPayloadData) → (k == m) ≡ false
      → IsWhole kind below (stage_without m (if b then free (k + 1) else begun k)) xs → IsWhole kind below (if b then free (k + 1) else begun k) xs
  after_other true k xs e w = w
  after_other false k xs e w = subst (λ (b : Bool). IsWhole kind below (if b then free (k + 1) else begun k) xs) e w

  -- without a message the others are whole
  pub IsWhole-without : (stage : Stage) (xs : List ChunkPayloadData) → IsWhole kind below stage xs
      → IsWhole kind below (stage_without m stage) (without_message m xs)
  IsWhole-without (free least) [] w = w
  IsWhole-without (begun j) [] w = absurd w
  IsWhole-without (free least) (c ∷ cs) w = step (c.message_id == m) refl (IsWhole-without (stage_after c) cs w.3)
    where
      step : (b : Bool) → (c.message_id == m) ≡ b → IsWhole kind below (stage_without m (stage_after c)) (without_message m cs)
          → IsWhole kind below (free least) (if not b then c ∷ without_message m cs else without_message m cs)
      step true e ih = weaken_start kind below least (c.message_id + 1) (omega (arith, w.0.1)) (without_message m cs)
          (after_it c.ending_fragment c.message_id (without_message m cs) e ih)
      step false e ih = (w.0, w.1, w.2, after_other c.ending_fragment c.message_id (without_message m cs) e ih)
  IsWhole-without (begun j) (c ∷ cs) w = step (c.message_id == m) refl (IsWhole-without (stage_after c) cs w.3)
    where
      same : (b : Bool) → (c.message_id == m) ≡ b → (j == m) ≡ b
      same b e = subst (λ k. (k == m) ≡ b) w.0.1 e

      step : (b : Bool) → (c.message_id == m) ≡ b → IsWhole kind below (stage_without m (stage_after c)) (without_message m cs)
          → IsWhole kind below (if j == m then free (j + 1) else begun j) (if not b then c ∷ without_message m cs else without_message m cs)
      step true e ih = rw (same true e)
          (subst (λ k. IsWhole kind below (free (k + 1)) (without_message m cs)) w.0.1 (after_it c.ending_fragment c.message_id (without_message m cs) e ih))
      step false e ih = rw (same false e) (w.0, w.1, w.2, after_other c.ending_fragment c.message_id (without_message m cs) e ih)

-- a change that leaves what a message is known by
pub record KeepsMessage (f : ChunkPayloadData → ChunkPayloadData) : Type 0 where
  pub number : (c : ChunkPayloadData) → (f c).message_id ≡ c.message_id
  pub begins : (c : ChunkPayloadData) → (f c).beginning_fragment ≡ c.beginning_fragment
  pub ends : (c : ChunkPayloadData) → (f c).ending_fragment ≡ c.ending_fragment
  pub kind : (c : ChunkPayloadData) → (f c).unordered ≡ c.unordered

module _ (p : ChunkPayloadData → Bool) (f : ChunkPayloadData → ChunkPayloadData) (keeps : KeepsMessage f) where
  if_number : (b : Bool) (c : ChunkPayloadData) → (if b then f c else c).message_id ≡ c.message_id
  if_number true c = keeps.number c
  if_number false c = refl

  if_begins : (b : Bool) (c : ChunkPayloadData) → (if b then f c else c).beginning_fragment ≡ c.beginning_fragment
  if_begins true c = keeps.begins c
  if_begins false c = refl

  if_ends : (b : Bool) (c : ChunkPayloadData) → (if b then f c else c).ending_fragment ≡ c.ending_fragment
  if_ends true c = keeps.ends c
  if_ends false c = refl

  if_kind : (b : Bool) (c : ChunkPayloadData) → (if b then f c else c).unordered ≡ c.unordered
  if_kind true c = keeps.kind c
  if_kind false c = refl

  same_stage : (c : ChunkPayloadData) → stage_after (if p c then f c else c) ≡ stage_after c
  same_stage c = ap₂ (λ b k. if b then free (k + 1) else begun k) (if_ends (p c) c) (if_number (p c) c)

  pub IsWhole-change_where : (kind : Bool) (below : ℕ) (stage : Stage) (xs : List ChunkPayloadData) → IsWhole kind below stage xs
      → IsWhole kind below stage (change_where p f xs)
  IsWhole-change_where kind below (free least) [] w = w
  IsWhole-change_where kind below (begun j) [] w = w
  IsWhole-change_where kind below (free least) (c ∷ cs) w = (
    (if_begins (p c) c ∙ w.0.0, rw (if_number (p c) c) w.0.1),
    if_kind (p c) c ∙ w.1,
    rw (if_number (p c) c) w.2,
    subst (λ s. IsWhole kind below s (change_where p f cs)) (sym (same_stage c)) (IsWhole-change_where kind below (stage_after c) cs w.3),
  )
  IsWhole-change_where kind below (begun j) (c ∷ cs) w = (
    (if_begins (p c) c ∙ w.0.0, if_number (p c) c ∙ w.0.1),
    if_kind (p c) c ∙ w.1,
    rw (if_number (p c) c) w.2,
    subst (λ s. IsWhole kind below s (change_where p f cs)) (sym (same_stage c)) (IsWhole-change_where kind below (stage_after c) cs w.3),
  )

  pub list_any-change_where : (m : ℕ) (xs : List ChunkPayloadData) → list_any (is_of m) (change_where p f xs) ≡ list_any (is_of m) xs
  list_any-change_where m [] = refl
  list_any-change_where m (c ∷ cs) = ap₂ (λ k b. (k == m) || b) (if_number (p c) c) (list_any-change_where m cs)

-- ## Numbers that do not wait

-- no message with the number of the bound or past it waits
pub none_past : (kind : Bool) (n m : ℕ) → n ≤ m → (stage : Stage) (xs : List ChunkPayloadData) → IsWhole kind n stage xs → list_any (is_of m) xs ≡ false
none_past kind n m le stage [] w = refl
none_past kind n m le (free least) (c ∷ cs) w = let differs : (c.message_id == m) ≡ false = grind (arith, nat_tests, w.2) in
    rw differs (none_past kind n m le (stage_after c) cs w.3)
none_past kind n m le (begun j) (c ∷ cs) w = let differs : (c.message_id == m) ≡ false = grind (arith, nat_tests, w.2) in
    rw differs (none_past kind n m le (stage_after c) cs w.3)

-- nor one that the stage is past
abbrev pub IsPast : ℕ → Stage → Type 0
IsPast m (free least) = m < least
IsPast m (begun j) = m < j

stays_past : (m : ℕ) (b : Bool) (k : ℕ) → m < k → IsPast m (if b then free (k + 1) else begun k)
stays_past m true k lt = omega arith
stays_past m false k lt = lt

pub none_before : (kind : Bool) (n m : ℕ) (stage : Stage) (xs : List ChunkPayloadData) → IsPast m stage → IsWhole kind n stage xs
    → list_any (is_of m) xs ≡ false
none_before kind n m stage [] past w = refl
none_before kind n m (free least) (c ∷ cs) past w =
    let later : m < c.message_id = omega (arith, w.0.1) in
    let differs : (c.message_id == m) ≡ false = grind (arith, nat_tests) in
    rw differs (none_before kind n m (stage_after c) cs (stays_past m c.ending_fragment c.message_id later) w.3)
none_before kind n m (begun j) (c ∷ cs) past w =
    let later : m < c.message_id = omega (arith, w.0.1) in
    let differs : (c.message_id == m) ≡ false = grind (arith, nat_tests) in
    rw differs (none_before kind n m (stage_after c) cs (stays_past m c.ending_fragment c.message_id later) w.3)

-- a removed message does not wait
pub none_without : (m : ℕ) (xs : List ChunkPayloadData) → list_any (is_of m) (without_message m xs) ≡ false
none_without m [] = refl
none_without m (c ∷ cs) = step (c.message_id == m) refl (none_without m cs)
  where
    step : (b : Bool) → (c.message_id == m) ≡ b → list_any (is_of m) (without_message m cs) ≡ false
        → list_any (is_of m) (if not b then c ∷ without_message m cs else without_message m cs) ≡ false
    step true e ih = ih
    step false e ih = rw e ih

-- all of a message with its number have it
pub list_any-message : (m n : ℕ) (xs : List ChunkPayloadData) → list_any (is_of m) (map (with_message_id n) xs) ≡ true → (n == m) ≡ true
list_any-message m n [] h = cc
list_any-message m n (c ∷ cs) h = step (n == m) refl h (list_any-message m n cs)
  where
    step : (b : Bool) → (n == m) ≡ b → (b || list_any (is_of m) (map (with_message_id n) cs)) ≡ true
        → (list_any (is_of m) (map (with_message_id n) cs) ≡ true → (n == m) ≡ true) → (n == m) ≡ true
    step true e h ih = e
    step false e h ih = ih h

-- a message that is begun has a number below the bound, since the rest of it waits
pub begun_below : (kind : Bool) (n j : ℕ) (xs : List ChunkPayloadData) → IsWhole kind n (begun j) xs → j < n
begun_below kind n j [] w = absurd w
begun_below kind n j (c ∷ cs) w = omega (arith, w.0.1, w.2)

pub stage_below : (kind : Bool) (sel : Option Selected) (n : ℕ) (xs : List ChunkPayloadData) → IsWhole kind n (stage_of kind sel) xs
    → IsBelow (stage_of kind sel) n
stage_below true None n xs w = omega arith
stage_below false None n xs w = omega arith
stage_below true (Some s) n xs w = by s.unordered w
  where
    by : (u : Bool) → IsWhole true n (if u then begun s.message_id else free 0) xs → IsBelow (if u then begun s.message_id else free 0) n
    by true w = begun_below true n s.message_id xs w
    by false w = omega arith
stage_below false (Some s) n xs w = by s.unordered w
  where
    by : (u : Bool) → IsWhole false n (if u then free 0 else begun s.message_id) xs → IsBelow (if u then free 0 else begun s.message_id) n
    by true w = omega arith
    by false w = begun_below false n s.message_id xs w

-- ## Numbers

abbrev pub least_of : Stage → ℕ
least_of (free least) = least
least_of (begun message) = message

after_least : (c : ChunkPayloadData) → c.message_id ≤ least_of (stage_after c)
after_least c = step c.ending_fragment
  where
    step : (b : Bool) → c.message_id ≤ least_of (if b then free (c.message_id + 1) else begun c.message_id)
    step true = omega arith
    step false = omega arith

-- no number is below that of the stage
pub numbers_from : (kind : Bool) (below : ℕ) (stage : Stage) (xs : List ChunkPayloadData) → IsWhole kind below stage xs
    → All (λ c. least_of stage ≤ c.message_id) xs
numbers_from kind below (free least) [] w k d lt = absurd (omega arith)
numbers_from kind below (begun message) [] w k d lt = absurd w
numbers_from kind below (free least) (c ∷ cs) w zero d lt = w.0.1
numbers_from kind below (begun message) (c ∷ cs) w zero d lt = omega (arith, w.0.1)
numbers_from kind below (free least) (c ∷ cs) w (suc k) d lt =
    omega (arith, w.0.1, after_least c, numbers_from kind below (stage_after c) cs w.3 k d (omega arith))
numbers_from kind below (begun message) (c ∷ cs) w (suc k) d lt =
    omega (arith, w.0.1, after_least c, numbers_from kind below (stage_after c) cs w.3 k d (omega arith))

-- the numbers of complete messages ascend
pub numbers_ascend : (kind : Bool) (below : ℕ) (stage : Stage) (xs : List ChunkPayloadData) → IsWhole kind below stage xs → NumbersAscend xs
numbers_ascend kind below (free least) [] w = λ i j d lt short. absurd (omega arith)
numbers_ascend kind below (begun message) [] w = absurd w
numbers_ascend kind below (free least) (c ∷ cs) w = pairs_cons (λ (a b : ChunkPayloadData). a.message_id ≤ b.message_id) c cs
    (λ k d lt. omega (arith, after_least c, numbers_from kind below (stage_after c) cs w.3 k d lt)) (numbers_ascend kind below (stage_after c) cs w.3)
numbers_ascend kind below (begun message) (c ∷ cs) w = pairs_cons (λ (a b : ChunkPayloadData). a.message_id ≤ b.message_id) c cs
    (λ k d lt. omega (arith, after_least c, numbers_from kind below (stage_after c) cs w.3 k d lt)) (numbers_ascend kind below (stage_after c) cs w.3)

-- before a chunk of a lower number no lifetime starts
pub none_to_start : (first : ℕ) (xs : List ChunkPayloadData) (place : ℕ) (x : ChunkPayloadData) → NumbersAscend xs → place < length xs → x ≡ get_or xs place x
    → x.message_id < first → All (λ c. is_to_start first c ≡ false) (take (place + 1) xs)
none_to_start first xs place x ascend within read low k d lt =
    let n : length (take (place + 1) xs) ≡ place + 1 = length-take-le (place + 1) xs (omega (arith, within)) in
    let short : k < place + 1 = omega (arith, n, lt) in
    subst (λ c. is_to_start first c ≡ false) (sym (get_or-take (place + 1) xs k d short)) (early (get_or xs k d) (below short (cases_lt k place)))
  where
    early : (c : ChunkPayloadData) → c.message_id < first → is_to_start first c ≡ false
    early c lt = let it : nat_le first c.message_id ≡ false = grind (arith, nat_tests) in rw it refl

    same : (e : ChunkPayloadData) → (get_or xs place e).message_id < first
    same e = subst (λ c. c.message_id < first) (read ∙ get_or_default xs place x e within) low

    below : k < place + 1 → (k < place) ⊎ (place ≤ k) → (get_or xs k d).message_id < first
    below short (inl lt') = omega (arith, ascend k place d lt' within, same d)
    below short (inr le) = subst (λ i. (get_or xs i d).message_id < first) (omega (arith, short, le)) (same d)
