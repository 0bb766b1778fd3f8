-- What comes back, with its place.
use Rattle.sctp_sender.proofs.Names.{◌≡◌, ℕ, zero, suc, ◌+◌, ◌<◌, ◌≤◌, ◌%◌, ◌^◌, List, [], ◌∷◌, ◌++◌, length, map, take, drop, true, false, get_or, set, Option}
use Rattle.sctp_sender.proofs.Names.{Some, None, refl, ap, sym, subst, ◌∙◌, arith, All, list_any, ◌==◌, ◌&&◌, ◌||◌, is_some, nat_le, nat_tests, drop_more}
use Rattle.sctp_sender.proofs.Names.{length-take-le, take_more, take-append-drop, sum_by-append, sum_by-cons, none-some, change_at, length-changed}
use Rattle.sctp_sender.proofs.Names.{ChunkPayloadData, Sack, as_taken_back, TakenBack, PlacedData, answered_back, back_each, bytes_back, bytes_coming, placed}
use Rattle.sctp_sender.proofs.Names.{put_back, restored, answered_of_placed, is_at, rises_from, with_restored, with_inflight, partially_sent, following_tsn}
use Rattle.sctp_sender.proofs.Names.{Flight, IsContiguous, tsns_from, with_queue, StandSideBySide, number_of_half}
use Rattle.std.proofs.lemmas.List.{append_assoc}
use Rattle.sctp_sender.proofs.Runs.{any_chunk}

abbrev Data : Type 0
Data = Option (List ℕ)

-- ## As far as a place

-- nothing between two places
pub placed-same : (n i j : ℕ) (bs : List Data) → i ≤ j → ((k : ℕ) → i ≤ k → k < j → get_or bs k None ≡ None) → placed n (take j bs) ≡ placed n (take i bs)
placed-same n zero zero bs le none = refl
placed-same n (suc i) zero bs le none = absurd (omega (arith, le))
placed-same n zero (suc j) [] le none = refl
placed-same n (suc i) (suc j) [] le none = refl
placed-same n zero (suc j) (b ∷ bs) le none =
    ap (λ x. placed n (x ∷ take j bs)) (none 0 (omega arith) (omega arith))
    ∙ placed-same (suc n) 0 j bs (omega arith) (λ k low high. none (suc k) (omega arith) (omega (arith, high)))
placed-same n (suc i) (suc j) (None ∷ bs) le none =
    placed-same (suc n) i j bs (omega (arith, le)) (λ k low high. none (suc k) (omega (arith, low)) (omega (arith, high)))
placed-same n (suc i) (suc j) (Some bytes ∷ bs) le none =
    let b : PlacedData = record { place = n; user_data = bytes } in
    ap (λ xs. b ∷ xs) (placed-same (suc n) i j bs (omega (arith, le)) (λ k low high. none (suc k) (omega (arith, low)) (omega (arith, high))))

-- nothing from a place on
pub placed-end : (n i : ℕ) (bs : List Data) → ((k : ℕ) → i ≤ k → get_or bs k None ≡ None) → placed n bs ≡ placed n (take i bs)
placed-end n zero [] none = refl
placed-end n (suc i) [] none = refl
placed-end n zero (b ∷ bs) none =
    ap (λ x. placed n (x ∷ bs)) (none 0 (omega arith)) ∙ placed-end (suc n) 0 bs (λ k low. none (suc k) (omega arith))
placed-end n (suc i) (None ∷ bs) none = placed-end (suc n) i bs (λ k low. none (suc k) (omega (arith, low)))
placed-end n (suc i) (Some bytes ∷ bs) none =
    let b : PlacedData = record { place = n; user_data = bytes } in
    ap (λ xs. b ∷ xs) (placed-end (suc n) i bs (λ k low. none (suc k) (omega (arith, low))))

abbrev pub one : ℕ → List ℕ → List PlacedData
one place bytes = record { place = place; user_data = bytes } ∷ []

-- something at a place
pub placed-more : (n i m : ℕ) (bs : List Data) (bytes : List ℕ) → get_or bs i None ≡ Some bytes → m ≡ n + i
    → placed n (take (i + 1) bs) ≡ placed n (take i bs) ++ one m bytes
placed-more n i m [] bytes e is = absurd (none-some bytes e)
placed-more n zero m (b ∷ bs) bytes e is =
    let same : n ≡ m = omega (arith, is) in ap (λ x. placed n (x ∷ [])) e ∙ ap (λ k. one k bytes) same
placed-more n (suc i) m (None ∷ bs) bytes e is =
    let next : suc i + 1 ≡ suc (i + 1) = omega arith in
    ap (λ k. placed n (take k (None ∷ bs))) next ∙ placed-more (suc n) i m bs bytes e (omega (arith, is))
placed-more n (suc i) m (Some first ∷ bs) bytes e is =
    let next : suc i + 1 ≡ suc (i + 1) = omega arith in
    let b : PlacedData = record { place = n; user_data = first } in
    ap (λ k. placed n (take k (Some first ∷ bs))) next ∙ ap (λ xs. b ∷ xs) (placed-more (suc n) i m bs bytes e (omega (arith, is)))

-- something at a place is listed
pub placed-some : (n k : ℕ) (bs : List Data) (bytes : List ℕ) → get_or bs k None ≡ Some bytes → 0 < length (placed n bs)
placed-some n k [] bytes e = absurd (none-some bytes e)
placed-some n zero (b ∷ bs) bytes e = subst (λ (x : Data). 0 < length (placed n (x ∷ bs))) (sym e) (omega arith)
placed-some n (suc k) (None ∷ bs) bytes e = placed-some (suc n) k bs bytes e
placed-some n (suc k) (Some first ∷ bs) bytes e = omega arith

-- ## Where each stands

pub placed-within : (n end : ℕ) (bs : List Data) → n + length bs ≤ end → All (λ b. b.place < end) (placed n bs)
placed-within n end [] le k d lt = absurd (omega (arith, lt))
placed-within n end (None ∷ bs) le k d lt = placed-within (suc n) end bs (omega (arith, le)) k d lt
placed-within n end (Some bytes ∷ bs) le zero d lt = omega (arith, le)
placed-within n end (Some bytes ∷ bs) le (suc k) d lt = placed-within (suc n) end bs (omega (arith, le)) k d (omega (arith, lt))

pub back-length : (s : Sack) (cs : List ChunkPayloadData) (ks : List Data) → length (back_each s cs ks) ≤ length cs
back-length s cs [] = omega arith
back-length s [] (k ∷ ks) = omega arith
back-length s (c ∷ cs) (k ∷ ks) = let h = back-length s cs ks in omega (arith, h)

-- ## What is told

pub placed-answer : (n : ℕ) (bs : List Data) (cs : List ChunkPayloadData) (d : ChunkPayloadData) → n + length bs ≤ length cs
    → map (λ b. answered_of_placed b (get_or cs b.place d)) (placed n bs) ≡ answered_back bs (drop n cs)
placed-answer n [] cs d le = refl
placed-answer n (None ∷ bs) cs d le =
    let next : n + 1 ≡ suc n = omega arith in
    placed-answer (suc n) bs cs d (omega (arith, le)) ∙ ap (λ k. answered_back bs (drop k cs)) (sym next)
    ∙ ap (λ xs. answered_back (None ∷ bs) xs) (sym (drop_more cs n d (omega (arith, le))))
placed-answer n (Some bytes ∷ bs) cs d le =
    let next : n + 1 ≡ suc n = omega arith in
    let b : PlacedData = record { place = n; user_data = bytes } in
    ap (λ xs. answered_of_placed b (get_or cs n d) ∷ xs) (placed-answer (suc n) bs cs d (omega (arith, le)) ∙ ap (λ k. answered_back bs (drop k cs)) (sym next))
    ∙ ap (λ xs. answered_back (Some bytes ∷ bs) xs) (sym (drop_more cs n d (omega (arith, le))))

pub answer-bytes : (bs : List PlacedData) (cs : List ChunkPayloadData) (d : ChunkPayloadData)
    → bytes_back (map (λ b. answered_of_placed b (get_or cs b.place d)) bs) ≡ bytes_coming bs
answer-bytes [] cs d = refl
answer-bytes (b ∷ bs) cs d =
    let rest = answer-bytes bs cs d in
    let x = sum_by-cons (λ (t : TakenBack). t.bytes) (answered_of_placed b (get_or cs b.place d)) (map (λ b. answered_of_placed b (get_or cs b.place d)) bs) in
    let y = sum_by-cons (λ (t : PlacedData). length t.user_data) b bs in
    omega (arith, rest, x, y)

-- ## Put back

pub coming-last : (bs : List PlacedData) (b : PlacedData) → bytes_coming (bs ++ b ∷ []) ≡ bytes_coming bs + length b.user_data
coming-last bs b =
    let e = sum_by-append (λ (t : PlacedData). length t.user_data) bs (b ∷ []) in
    let f = sum_by-cons (λ (t : PlacedData). length t.user_data) b [] in omega (arith, e, f)

pub put-last : (bs : List PlacedData) (b : PlacedData) (cs : List ChunkPayloadData)
    → put_back (bs ++ b ∷ []) cs ≡ put_back bs (change_at (as_taken_back b.user_data) b.place cs)
put-last [] b cs = refl
put-last (x ∷ bs) b cs = ap (change_at (as_taken_back x.user_data) x.place) (put-last bs b cs)

pub last-is : (bs : List PlacedData) (b d : PlacedData) → get_or (bs ++ b ∷ []) (length bs) d ≡ b
last-is [] b d = refl
last-is (x ∷ bs) b d = last-is bs b d

pub set-change : {A : Type 0} (f : A → A) (xs : List A) (i : ℕ) (d : A) → i < length xs → set xs i (f (get_or xs i d)) ≡ change_at f i xs
set-change f [] i d lt = absurd (omega (arith, lt))
set-change f (x ∷ xs) zero d lt = refl
set-change f (x ∷ xs) (suc i) d lt = ap (λ ys. x ∷ ys) (set-change f xs i d (omega (arith, lt)))

pub changed-seam : {A : Type 0} (f : A → A) (n : ℕ) (xs : List A) (x : A) (ys : List A) → length xs ≡ n → change_at f n (xs ++ x ∷ ys) ≡ xs ++ f x ∷ ys
changed-seam f zero [] x ys e = refl
changed-seam f (suc n) [] x ys e = absurd (omega (arith, e))
changed-seam f zero (z ∷ xs) x ys e = absurd (omega (arith, e))
changed-seam f (suc n) (z ∷ xs) x ys e = ap (λ zs. z ∷ zs) (changed-seam f n xs x ys (omega (arith, e)))

placed-put-from : (n : ℕ) (bs : List Data) (cs : List ChunkPayloadData) (d : ChunkPayloadData) → n + length bs ≤ length cs
    → put_back (placed n bs) cs ≡ take n cs ++ restored bs (drop n cs)
placed-put-from n [] cs d le = sym (take-append-drop n cs)
placed-put-from n (b ∷ bs) cs d le = by b (placed-put-from (suc n) bs cs d (omega (arith, le)))
  where
    lt : n < length cs
    lt = omega (arith, le)

    c : ChunkPayloadData
    c = get_or cs n d

    rest : List ChunkPayloadData
    rest = restored bs (drop (n + 1) cs)

    there : put_back (placed (suc n) bs) cs ≡ take (suc n) cs ++ restored bs (drop (suc n) cs) → put_back (placed (suc n) bs) cs ≡ take n cs ++ c ∷ rest
    there ih =
        let next : suc n ≡ n + 1 = omega arith in
        ih ∙ ap (λ k. take k cs ++ restored bs (drop k cs)) next ∙ ap (λ xs. xs ++ rest) (take_more cs n d lt) ∙ append_assoc (take n cs) (c ∷ []) rest

    by : (x : Data) → put_back (placed (suc n) bs) cs ≡ take (suc n) cs ++ restored bs (drop (suc n) cs)
        → put_back (placed n (x ∷ bs)) cs ≡ take n cs ++ restored (x ∷ bs) (drop n cs)
    by None ih = there ih ∙ ap (λ xs. take n cs ++ restored (None ∷ bs) xs) (sym (drop_more cs n d lt))
    by (Some bytes) ih =
        ap (change_at (as_taken_back bytes) n) (there ih)
        ∙ changed-seam (as_taken_back bytes) n (take n cs) c rest (length-take-le n cs (omega (arith, lt)))
        ∙ ap (λ xs. take n cs ++ restored (Some bytes ∷ bs) xs) (sym (drop_more cs n d lt))

pub placed-put : (bs : List Data) (cs : List ChunkPayloadData) (d : ChunkPayloadData) → length bs ≤ length cs → put_back (placed 0 bs) cs ≡ restored bs cs
placed-put bs cs d le = placed-put-from 0 bs cs d (omega (arith, le))

-- ## In flight

pub put-length : (bs : List PlacedData) (cs : List ChunkPayloadData) → length (put_back bs cs) ≡ length cs
put-length [] cs = refl
put-length (b ∷ bs) cs = length-changed (as_taken_back b.user_data) b.place (put_back bs cs) ∙ put-length bs cs

pub put-map : {B : Type 0} (f : ChunkPayloadData → B) → ((bytes : List ℕ) (c : ChunkPayloadData) → f (as_taken_back bytes c) ≡ f c)
    → (bs : List PlacedData) (cs : List ChunkPayloadData) → map f (put_back bs cs) ≡ map f cs
put-map f same [] cs = refl
put-map {B} f same (b ∷ bs) cs = one b.place (put_back bs cs) ∙ put-map f same bs cs
  where
    one : (i : ℕ) (xs : List ChunkPayloadData) → map f (change_at (as_taken_back b.user_data) i xs) ≡ map f xs
    one i [] = refl
    one zero (x ∷ xs) = ap (λ (y : B). y ∷ map f xs) (same b.user_data x)
    one (suc i) (x ∷ xs) = ap (λ ys. f x ∷ ys) (one i xs)

pub put-contiguous : (bs : List PlacedData) (f : Flight) → IsContiguous f
    → IsContiguous (with_queue f (with_inflight f.queue (put_back bs f.queue.inflight.chunks)))
put-contiguous bs f inv =
    let cs = f.queue.inflight.chunks in
    let n = put-length bs cs in
    record {
      in_range = inv.in_range;
      run = put-map (λ c. c.tsn) (λ bytes c. refl) bs cs ∙ inv.run ∙ ap (tsns_from (following_tsn f.acked_tsn)) (sym n);
      next = inv.next ∙ ap (λ k. (f.acked_tsn + 1 + k) % 2 ^ 32) (sym n);
      few = omega (arith, n, inv.few);
      side_by_side = subst (λ ms. StandSideBySide (ms ++ number_of_half (partially_sent f.queue.pending)))
          (sym (put-map (λ c. c.message_id) (λ bytes c. refl) bs cs)) inv.side_by_side;
    }

pub put-restored : (f : Flight) (backs : List PlacedData) (bs : List Data) → backs ≡ placed 0 bs → length bs ≤ length f.queue.inflight.chunks
    → with_queue f (with_inflight f.queue (put_back backs f.queue.inflight.chunks)) ≡ with_restored bs f
put-restored f backs bs is le = ap (λ cs. with_queue f (with_inflight f.queue cs))
    (ap (λ xs. put_back xs f.queue.inflight.chunks) is ∙ placed-put bs f.queue.inflight.chunks any_chunk le)

pub nil-of : {X : Type 0} (xs : List X) → length xs ≡ 0 → xs ≡ []
nil-of [] e = refl
nil-of (x ∷ xs) e = absurd (omega (arith, e))

-- ## In order, and at their places

pub placed-rises : (m n : ℕ) (ks : List (Option (List ℕ))) → m ≤ n → rises_from m (placed n ks) ≡ true
placed-rises m n [] le = refl
placed-rises m n (None ∷ ks) le = placed-rises m (suc n) ks (omega (arith, le))
placed-rises m n (Some bytes ∷ ks) le =
    let yes : nat_le m n ≡ true = grind (arith, nat_tests, le) in
    ap (λ a. a && rises_from (suc n) (placed (suc n) ks)) yes ∙ placed-rises (suc n) (suc n) ks (omega arith)

none-under : (n k : ℕ) (ks : List (Option (List ℕ))) → k < n → list_any (is_at k) (placed n ks) ≡ false
none-under n k [] lt = refl
none-under n k (None ∷ ks) lt = none-under (suc n) k ks (omega (arith, lt))
none-under n k (Some bytes ∷ ks) lt =
    let no : (n == k) ≡ false = grind (arith, nat_tests, lt) in
    ap (λ a. a || list_any (is_at k) (placed (suc n) ks)) no ∙ none-under (suc n) k ks (omega (arith, lt))

-- one stands at a place exactly where something comes back there
pub placed-at : (n k : ℕ) (ks : List (Option (List ℕ))) → list_any (is_at (n + k)) (placed n ks) ≡ is_some (get_or ks k None)
placed-at n zero [] = refl
placed-at n (suc k) [] = refl
placed-at n zero (None ∷ ks) = none-under (suc n) (n + 0) ks (omega arith)
placed-at n (suc k) (None ∷ ks) =
    let e : n + suc k ≡ suc n + k = omega arith in ap (λ j. list_any (is_at j) (placed (suc n) ks)) e ∙ placed-at (suc n) k ks
placed-at n zero (Some bytes ∷ ks) =
    let yes : (n == n + 0) ≡ true = grind (arith, nat_tests) in ap (λ a. a || list_any (is_at (n + 0)) (placed (suc n) ks)) yes
placed-at n (suc k) (Some bytes ∷ ks) =
    let no : (n == n + suc k) ≡ false = grind (arith, nat_tests) in
    let e : n + suc k ≡ suc n + k = omega arith in
    ap (λ a. a || list_any (is_at (n + suc k)) (placed (suc n) ks)) no ∙ ap (λ j. list_any (is_at j) (placed (suc n) ks)) e ∙ placed-at (suc n) k ks
