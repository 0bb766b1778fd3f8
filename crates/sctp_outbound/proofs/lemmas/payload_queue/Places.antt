-- Chunks in a slab by their places: what an edit of one key leaves.
use Rattle.std.proofs.Common.{◌≡◌, ◌≢◌, ℕ, zero, suc, ◌<◌, ◌≤◌, List, [], ◌∷◌, length, map, get_or, set, take, drop, min, is_some, cond, IsSome, Option, None}
use Rattle.std.proofs.Common.{Some}
use Rattle.std.proofs.Common.{refl, sym, ap, ap₂, ◌∙◌, subst, arith}
use Rattle.std.specs.List.{AllByRecursion, insert, remove}
use Rattle.std.specs.Option.{option_map}
use Rattle.std.proofs.lemmas.List.Elements.{All-append, All-cons, All-set, All-take, All-drop}
use Rattle.std.proofs.lemmas.List.Sums.{sum_by-set}
use Rattle.slab.specs.Slab.{Slab, ContainsKey, get, slab_len, with_value}
use Rattle.slab.proofs.SlabLemmas.{ContainsKey-within, Updates-with_value}
use Rattle.sctp_data.specs.declared.chunk.chunk_payload_data.ChunkPayloadData.{ChunkPayloadData}
use Rattle.sctp_outbound.specs.declared.payload_queue.held.Place.{Place}
use Rattle.sctp_outbound.specs.Stored.{Stored, IsNotBefore, NoneBefore, with_chunks}
use Rattle.sctp_outbound.proofs.lemmas.payload_queue.Deadlines.{none_sooner, not_sooner}
use Rattle.sctp_outbound.specs.payload_queue.Places.{AreHeldAt, chunks_at}

abbrev as_stored : List ChunkPayloadData → ℕ → Stored
as_stored cs n = record { chunks = cs; room = n }

pub stored : (xs ys : List ChunkPayloadData) (m n : ℕ) → xs ≡ ys → m ≡ n → as_stored xs m ≡ as_stored ys n
stored xs ys m n e f = ap₂ as_stored e f

-- a slab of another capacity
pub still : (P : (ℕ → Option ChunkPayloadData) → List Place → Type 0) (old new : Slab ChunkPayloadData) (capacity : ℕ) (ps qs : List Place)
    → new ≡ record old { capacity = capacity } → qs ≡ ps → P (get old) ps → P (get new) qs
still P old new capacity ps qs e f h = subst (λ s. P (get s) qs) (sym e) (subst (P (get old)) (sym f) h)

-- none of these places has the key
abbrev pub IsApart : ℕ → List Place → Type 0
IsApart key places = AllByRecursion (λ q. q.key ≢ key) places

pub same_chunk : (o : Option ChunkPayloadData) (x y : ChunkPayloadData) → o ≡ Some x → o ≡ Some y → x ≡ y
same_chunk o x y e f = cc

-- what has a TSN is a chunk
pub is_read : (o : Option ChunkPayloadData) (tsn : ℕ) → option_map (λ (c : ChunkPayloadData). c.tsn) o ≡ Some tsn → IsSome o
is_read None tsn e = absurd (cc)
is_read (Some c) tsn e = refl

none_is_some : (c : ChunkPayloadData) → None ≡ Some c → ⊥
none_is_some c e = absurd (cc)

module _ (under : ℕ → Option ChunkPayloadData) where
  pub held_is : (ps : List Place) (cs : List ChunkPayloadData) → AreHeldAt under ps cs → cs ≡ chunks_at under ps
  held_is [] [] h = refl
  held_is [] (c ∷ cs) h = absurd h
  held_is (p ∷ ps) [] h = absurd h
  held_is (p ∷ ps) (c ∷ cs) h = rw h.0 (ap (λ xs. c ∷ xs) (held_is ps cs h.3))

  pub held_length : (ps : List Place) (cs : List ChunkPayloadData) → AreHeldAt under ps cs → length cs ≡ length ps
  held_length [] [] h = refl
  held_length [] (c ∷ cs) h = absurd h
  held_length (p ∷ ps) [] h = absurd h
  held_length (p ∷ ps) (c ∷ cs) h = ap suc (held_length ps cs h.3)

  -- the TSNs of the places are those of the chunks
  pub held_tsns : (ps : List Place) (cs : List ChunkPayloadData) → AreHeldAt under ps cs
      → map (λ (p : Place). p.tsn) ps ≡ map (λ (c : ChunkPayloadData). c.tsn) cs
  held_tsns [] [] h = refl
  held_tsns [] (c ∷ cs) h = absurd h
  held_tsns (p ∷ ps) [] h = absurd h
  held_tsns (p ∷ ps) (c ∷ cs) h = ap₂ (λ n ns. n ∷ ns) h.1 (held_tsns ps cs h.3)

  -- the chunk of a place
  pub held_at : (ps : List Place) (cs : List ChunkPayloadData) → AreHeldAt under ps cs → (n : ℕ) (p : Place) → n < length ps → p ≡ get_or ps n p
      → (x : ChunkPayloadData) × (under p.key ≡ Some x) × (p.tsn ≡ x.tsn) × ((d : ChunkPayloadData) → get_or cs n d ≡ x)
  held_at [] cs h n p lt e = absurd (omega (arith, lt))
  held_at (q ∷ ps) [] h n p lt e = absurd h
  held_at (q ∷ ps) (x ∷ cs) h zero p lt e = (x, ap (λ (r : Place). under r.key) e ∙ h.0, ap (λ (r : Place). r.tsn) e ∙ h.1, λ d. refl)
  held_at (q ∷ ps) (x ∷ cs) h (suc n) p lt e = held_at ps cs h.3 n p (omega (arith, lt)) e

  -- a key that has nothing is apart from the places
  pub vacant_apart : (key : ℕ) → under key ≡ None → (ps : List Place) (cs : List ChunkPayloadData) → AreHeldAt under ps cs → IsApart key ps
  vacant_apart key e [] [] h = tt
  vacant_apart key e [] (c ∷ cs) h = absurd h
  vacant_apart key e (p ∷ ps) [] h = absurd h
  vacant_apart key e (p ∷ ps) (c ∷ cs) h = (
    λ same. none_is_some c (sym e ∙ ap under (sym same) ∙ h.0),
    vacant_apart key e ps cs h.3,
  )

apart_at : (key : ℕ) (ps : List Place) → IsApart key ps → (n : ℕ) (p : Place) → n < length ps → (get_or ps n p).key ≢ key
apart_at key [] h n p lt = absurd (omega (arith, lt))
apart_at key (q ∷ ps) h zero p lt = h.0
apart_at key (q ∷ ps) h (suc n) p lt = apart_at key ps h.1 n p (omega (arith, lt))

apart_insert : (key : ℕ) (ps : List Place) (n : ℕ) (p : Place) → p.key ≢ key → IsApart key ps → IsApart key (insert ps n p)
apart_insert key [] zero p differs h = (differs, tt)
apart_insert key [] (suc n) p differs h = (differs, tt)
apart_insert key (q ∷ ps) zero p differs h = (differs, h)
apart_insert key (q ∷ ps) (suc n) p differs h = (h.0, apart_insert key ps n p differs h.1)

apart_remove : (key : ℕ) (ps : List Place) (n : ℕ) → IsApart key ps → IsApart key (remove ps n)
apart_remove key [] zero h = tt
apart_remove key [] (suc n) h = tt
apart_remove key (q ∷ ps) zero h = h.1
apart_remove key (q ∷ ps) (suc n) h = (h.0, apart_remove key ps n h.1)

module _ (old new : ℕ → Option ChunkPayloadData) (key : ℕ) (others : (other : ℕ) → other ≢ key → new other ≡ old other) where
  pub held_still : (ps : List Place) (cs : List ChunkPayloadData) → IsApart key ps → AreHeldAt old ps cs → AreHeldAt new ps cs
  held_still [] [] apart h = tt
  held_still [] (c ∷ cs) apart h = absurd h
  held_still (p ∷ ps) [] apart h = absurd h
  held_still (p ∷ ps) (c ∷ cs) apart h = (others p.key apart.0 ∙ h.0, h.1, h.2, held_still ps cs apart.1 h.3)

  -- a chunk under a key that was vacant, and its place
  pub held_insert : (ps : List Place) (cs : List ChunkPayloadData) (n : ℕ) (p : Place) (c : ChunkPayloadData) → n ≤ length ps → old key ≡ None
      → new key ≡ Some c → p.key ≡ key → p.tsn ≡ c.tsn → AreHeldAt old ps cs → AreHeldAt new (insert ps n p) (insert cs n c)
  held_insert ps cs zero p c le vacant is here number h = (
    ap new here ∙ is,
    number,
    subst (λ k. IsApart k ps) (sym here) (vacant_apart old key vacant ps cs h),
    held_still ps cs (vacant_apart old key vacant ps cs h) h,
  )
  held_insert [] cs (suc n) p c le vacant is here number h = absurd (omega (arith, le))
  held_insert (q ∷ ps) [] (suc n) p c le vacant is here number h = absurd h
  held_insert (q ∷ ps) (d ∷ cs) (suc n) p c le vacant is here number h =
      let apart = vacant_apart old key vacant (q ∷ ps) (d ∷ cs) h in (
        others q.key apart.0 ∙ h.0,
        h.1,
        apart_insert q.key ps n p (λ same. apart.0 (sym same ∙ here)) h.2,
        held_insert ps cs n p c (omega (arith, le)) vacant is here number h.3,
      )

  -- the place of this key, and its chunk, taken out
  pub held_remove : (ps : List Place) (cs : List ChunkPayloadData) (n : ℕ) (p : Place) → n < length ps → (get_or ps n p).key ≡ key → AreHeldAt old ps cs
      → AreHeldAt new (remove ps n) (remove cs n)
  held_remove [] cs n p lt here h = absurd (omega (arith, lt))
  held_remove (q ∷ ps) [] n p lt here h = absurd h
  held_remove (q ∷ ps) (d ∷ cs) zero p lt here h = held_still ps cs (subst (λ k. IsApart k ps) here h.2) h.3
  held_remove (q ∷ ps) (d ∷ cs) (suc n) p lt here h = (
    others q.key (λ same. apart_at q.key ps h.2 n p (omega (arith, lt)) (here ∙ sym same)) ∙ h.0,
    h.1,
    apart_remove q.key ps n h.2,
    held_remove ps cs n p (omega (arith, lt)) here h.3,
  )

  -- another chunk under the key of this place, with its TSN
  pub held_set : (ps : List Place) (cs : List ChunkPayloadData) (n : ℕ) (p : Place) (c d : ChunkPayloadData) → n < length ps → (get_or ps n p).key ≡ key
      → new key ≡ Some c → c.tsn ≡ (get_or cs n d).tsn → AreHeldAt old ps cs → AreHeldAt new ps (set cs n c)
  held_set [] cs n p c d lt here is number h = absurd (omega (arith, lt))
  held_set (q ∷ ps) [] n p c d lt here is number h = absurd h
  held_set (q ∷ ps) (e ∷ cs) zero p c d lt here is number h = (
    ap new here ∙ is,
    h.1 ∙ sym number,
    h.2,
    held_still ps cs (subst (λ k. IsApart k ps) here h.2) h.3,
  )
  held_set (q ∷ ps) (e ∷ cs) (suc n) p c d lt here is number h = (
    others q.key (λ same. apart_at q.key ps h.2 n p (omega (arith, lt)) (here ∙ sym same)) ∙ h.0,
    h.1,
    h.2,
    held_set ps cs n p c d (omega (arith, lt)) here is number h.3,
  )

  -- so of the chunks themselves: one more
  pub inserted : (c : ChunkPayloadData) → old key ≡ None → new key ≡ Some c → (ps qs : List Place) (n : ℕ) (p : Place) → n ≤ length ps
      → p.key ≡ key → p.tsn ≡ c.tsn → qs ≡ insert ps n p → AreHeldAt old ps (chunks_at old ps)
      → (chunks_at new qs ≡ insert (chunks_at old ps) n c) × AreHeldAt new qs (chunks_at new qs)
  inserted c vacant is ps qs n p le here number same h =
      let more = held_insert ps (chunks_at old ps) n p c le vacant is here number h in
      let all = held_is new (insert ps n p) (insert (chunks_at old ps) n c) more in
      rw same (sym all, subst (AreHeldAt new (insert ps n p)) all more)

  -- one fewer
  pub removed : (ps qs : List Place) (n : ℕ) (p : Place) → n < length ps → (get_or ps n p).key ≡ key → qs ≡ remove ps n
      → AreHeldAt old ps (chunks_at old ps) → (chunks_at new qs ≡ remove (chunks_at old ps) n) × AreHeldAt new qs (chunks_at new qs)
  removed ps qs n p lt here same h =
      let fewer = held_remove ps (chunks_at old ps) n p lt here h in
      let all = held_is new (remove ps n) (remove (chunks_at old ps) n) fewer in
      rw same (sym all, subst (AreHeldAt new (remove ps n)) all fewer)

  -- another in the place of one
  pub written : (c d : ChunkPayloadData) → new key ≡ Some c → (ps : List Place) (n : ℕ) (p : Place) → n < length ps → (get_or ps n p).key ≡ key
      → c.tsn ≡ (get_or (chunks_at old ps) n d).tsn → AreHeldAt old ps (chunks_at old ps)
      → (chunks_at new ps ≡ set (chunks_at old ps) n c) × AreHeldAt new ps (chunks_at new ps)
  written c d is ps n p lt here number h =
      let other = held_set ps (chunks_at old ps) n p c d lt here is number h in
      let all = held_is new ps (set (chunks_at old ps) n c) other in (sym all, subst (AreHeldAt new ps) all other)

-- the earlier of two moments, where one chunk more is held, and where one is fewer
pub none_before_insert : (m n k : ℕ) (xs : List ChunkPayloadData) (c : ChunkPayloadData) (moment : ℕ) → moment ≡ min m n → NoneBefore m xs → IsNotBefore n c
    → NoneBefore moment (insert xs k c)
none_before_insert m n k xs c moment e h own =
    let each = none_sooner m moment xs (omega (arith, e)) h in
    All-append (IsNotBefore moment) (take k xs) (c ∷ drop k xs) (All-take (IsNotBefore moment) k xs each)
    (All-cons (IsNotBefore moment) c (drop k xs) (not_sooner n moment c (omega (arith, e)) own) (All-drop (IsNotBefore moment) k xs each))

-- the key of a place is in the slab
pub is_kept : (slab : Slab ChunkPayloadData) (ps : List Place) (n : ℕ) (p : Place) → n < length (chunks_at (get slab) ps) → p ≡ get_or ps n p
    → AreHeldAt (get slab) ps (chunks_at (get slab) ps) → ContainsKey slab p.key
is_kept slab ps n p lt e h =
    let found = held_at (get slab) ps _ h n p (omega (arith, lt, held_length _ _ _ h)) e in
    subst IsSome (sym found.1) refl

-- what is held once the chunk x under the key of a place is rewritten as y
pub record IsRewritten (slab : Slab ChunkPayloadData) (ps : List Place) (n key moment : ℕ) (x y : ChunkPayloadData) : Type 0 where
  pub read : (d : ChunkPayloadData) → get_or (chunks_at (get slab) ps) n d ≡ x
  pub chunks : chunks_at (get (with_value slab key y)) ps ≡ set (chunks_at (get slab) ps) n y
  pub held : AreHeldAt (get (with_value slab key y)) ps (chunks_at (get (with_value slab key y)) ps)
  pub counted : length (chunks_at (get (with_value slab key y)) ps) ≡ length (chunks_at (get slab) ps)
  pub len : slab_len (with_value slab key y) ≡ slab_len slab
  pub deadlines : NoneBefore moment (chunks_at (get (with_value slab key y)) ps)

-- so it is where its TSN stays and its deadline comes no nearer
pub rewritten : (slab : Slab ChunkPayloadData) (ps : List Place) (n moment : ℕ) (p : Place) (x y : ChunkPayloadData) → n < length (chunks_at (get slab) ps)
    → p ≡ get_or ps n p → get slab p.key ≡ Some x → y.tsn ≡ x.tsn → (IsNotBefore moment x → IsNotBefore moment y)
    → AreHeldAt (get slab) ps (chunks_at (get slab) ps) → NoneBefore moment (chunks_at (get slab) ps) → IsRewritten slab ps n p.key moment x y
rewritten slab ps n moment p x y lt e is same later h before =
    let xs = chunks_at (get slab) ps in
    let present = is_kept slab ps n p lt e h in
    let updates = Updates-with_value slab p.key y present in
    let short : n < length ps = omega (arith, lt, held_length _ _ _ h) in
    let found = held_at (get slab) ps _ h n p short e in
    let read = λ (d : ChunkPayloadData). found.3 d ∙ same_chunk _ _ _ found.1 is in
    let number : y.tsn ≡ (get_or xs n x).tsn = same ∙ ap (λ (c : ChunkPayloadData). c.tsn) (sym (read x)) in
    let both = written (get slab) (get (with_value slab p.key y)) p.key updates.others y x updates.changed ps n p short
    (ap (λ (r : Place). r.key) (sym e)) number h in
    let moved = sum_by-set (λ o. cond (is_some o) 1 0) slab.slots p.key (Some y) None (ContainsKey-within slab p.key present) in
    record {
      read = read;
      chunks = both.0;
      held = both.1;
      counted = omega (arith, held_length _ _ _ both.1, held_length _ _ _ h);
      len = omega (arith, rw is at moved);
      deadlines = subst (NoneBefore moment) (sym both.0)
          (All-set (IsNotBefore moment) xs n y (later (subst (IsNotBefore moment) (read x) (before n x lt))) before);
    }

-- what callers see of it, where the chunk is changed by f
pub rewritten_as : (slab : Slab ChunkPayloadData) (ps : List Place) (n key moment room : ℕ) (x y : ChunkPayloadData) (f : ChunkPayloadData → ChunkPayloadData)
    (now : Stored) → IsRewritten slab ps n key moment x y → y ≡ f x → as_stored (chunks_at (get slab) ps) room ≡ now → (d : ChunkPayloadData)
    → as_stored (chunks_at (get (with_value slab key y)) ps) room ≡ with_chunks now (set now.chunks n (f (get_or now.chunks n d)))
rewritten_as slab ps n key moment room x y f now r e viewed d =
    stored _ _ _ _ (r.chunks ∙ ap (set (chunks_at (get slab) ps) n) (e ∙ ap f (sym (r.read d)))
    ∙ ap (λ s. set s.chunks n (f (get_or s.chunks n d))) viewed) (ap (λ s. s.room) viewed)

pub none_before_remove : (m k : ℕ) (xs : List ChunkPayloadData) → NoneBefore m xs → NoneBefore m (remove xs k)
none_before_remove m k xs h = All-append (IsNotBefore m) (take k xs) (drop (suc k) xs) (All-take (IsNotBefore m) k xs h) (All-drop (IsNotBefore m) (suc k) xs h)
