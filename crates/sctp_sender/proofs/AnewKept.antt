-- What is kept of what a SACK reports anew.
use Rattle.sctp_sender.proofs.Names.{◌≡◌, ℕ, zero, suc, ◌+◌, ◌<◌, ◌≤◌, Bool, true, false, List, [], ◌∷◌, ◌++◌, length, drop, get_or, set, Option, Some, None}
use Rattle.sctp_sender.proofs.Names.{inl, inr, refl, ap, sym, subst, ◌∙◌, arith, ◌⊎◌, ◌==◌, ◌||◌, IfSome, if◌then◌else◌, All, list_any, cases_lt, false≢true}
use Rattle.sctp_sender.proofs.Names.{get_or-drop, get_or_past, none-some, or-none, same-is, same-yes, some-same, list_any-append, ChunkPayloadData, GapAckBlock}
use Rattle.sctp_sender.proofs.Names.{Sack, Pending, Kept, Anew, PlacedData, Flight, after_sack, count_acked, is_outdated, reports_anew, take_sack, Cover}
use Rattle.sctp_sender.proofs.Names.{IsCovered, IsOwn, blocks_after, data_after, filled, is_at, keep, keep_each, kept_after, kept_from, put_all, trimmed}
use Rattle.std.specs.Option.{option_map}
use Rattle.sctp_sender.specs.Keeping.{AreAnew}
use Rattle.sctp_sender.specs.Keeping.{kept_with}
use Rattle.sctp_sender.proofs.Covers.{neither}
use Rattle.sctp_sender.proofs.Keepings.{kept-at, length-keep_each, nothing}
use Rattle.sctp_sender.proofs.Runs.{any_chunk}

abbrev Data : Type 0
Data = Option (List ℕ)

-- ## With something at a place

with-same : (n : ℕ) (bytes : List ℕ) (ks : List Data) → get_or (kept_with n bytes ks) n None ≡ Some bytes
with-same zero bytes [] = refl
with-same zero bytes (k ∷ ks) = refl
with-same (suc n) bytes [] = with-same n bytes []
with-same (suc n) bytes (k ∷ ks) = with-same n bytes ks

with-other : (n k : ℕ) (bytes : List ℕ) (ks : List Data) → (k ≡ n → ⊥) → get_or (kept_with n bytes ks) k None ≡ get_or ks k None
with-other zero zero bytes ks differ = absurd (differ refl)
with-other zero (suc k) bytes [] differ = refl
with-other zero (suc k) bytes (x ∷ ks) differ = refl
with-other (suc n) zero bytes [] differ = refl
with-other (suc n) zero bytes (x ∷ ks) differ = refl
with-other (suc n) (suc k) bytes [] differ = with-other n k bytes [] (λ e. differ (ap suc e)) ∙ get_or_past [] k None (omega arith)
with-other (suc n) (suc k) bytes (x ∷ ks) differ = with-other n k bytes ks (λ e. differ (ap suc e))

pub put-at : (bs : List PlacedData) (ks : List Data) (f : ℕ → Data) → All (λ b. f b.place ≡ Some b.user_data) bs → (k : ℕ)
    → list_any (is_at k) bs ≡ true → get_or (put_all bs ks) k None ≡ f k
put-at [] ks f valid k h = absurd (false≢true h)
put-at (b ∷ bs) ks f valid k h = by (b.place == k) refl h (put-at bs ks f (λ i d lt. valid (suc i) d (omega (arith, lt))) k)
  where
    by : (q : Bool) → (b.place == k) ≡ q → (q || list_any (is_at k) bs) ≡ true → (list_any (is_at k) bs ≡ true → get_or (put_all bs ks) k None ≡ f k)
        → get_or (kept_with b.place b.user_data (put_all bs ks)) k None ≡ f k
    by true e g ih =
        let same = same-is b.place k e in
        ap (λ i. get_or (kept_with b.place b.user_data (put_all bs ks)) i None) (sym same) ∙ with-same b.place b.user_data (put_all bs ks)
        ∙ sym (valid 0 b (omega arith)) ∙ ap f same
    by false e g ih =
        with-other b.place k b.user_data (put_all bs ks) (λ same. false≢true (sym e ∙ ap (λ i. b.place == i) same ∙ same-yes b.place)) ∙ ih g

pub put-none : (bs : List PlacedData) (ks : List Data) (k : ℕ) → list_any (is_at k) bs ≡ false → get_or (put_all bs ks) k None ≡ get_or ks k None
put-none [] ks k h = refl
put-none (b ∷ bs) ks k h =
    let n = neither (b.place == k) (list_any (is_at k) bs) h in
    with-other b.place k b.user_data (put_all bs ks) (λ same. false≢true (sym n.0 ∙ ap (λ i. b.place == i) same ∙ same-yes b.place))
    ∙ put-none bs ks k n.1

-- ## As far as something is kept

tail-trimmed : (k : Data) (ks : List Data) → trimmed (k ∷ ks) ≡ k ∷ ks → trimmed ks ≡ ks
tail-trimmed (Some bytes) ks e = cc
tail-trimmed None ks e = by (trimmed ks) refl e
  where
    by : (xs : List Data) → trimmed ks ≡ xs → kept_from None xs ≡ None ∷ ks → trimmed ks ≡ ks
    by [] h g = let n = ap length g in absurd (omega (arith, n))
    by (x ∷ xs) h g = cc

some-kept : (n : ℕ) (bytes : List ℕ) (ks : List Data) (k : Data) → kept_from k (kept_with n bytes ks) ≡ k ∷ kept_with n bytes ks
some-kept n bytes ks (Some b) = refl
some-kept zero bytes [] None = refl
some-kept zero bytes (k ∷ ks) None = refl
some-kept (suc n) bytes [] None = refl
some-kept (suc n) bytes (k ∷ ks) None = refl

trimmed-with : (n : ℕ) (bytes : List ℕ) (ks : List Data) → trimmed ks ≡ ks → trimmed (kept_with n bytes ks) ≡ kept_with n bytes ks
trimmed-with zero bytes [] e = refl
trimmed-with zero bytes (k ∷ ks) e = ap (λ xs. Some bytes ∷ xs) (tail-trimmed k ks e)
trimmed-with (suc n) bytes [] e = ap (kept_from None) (trimmed-with n bytes [] refl) ∙ some-kept n bytes [] None
trimmed-with (suc n) bytes (k ∷ ks) e = ap (kept_from k) (trimmed-with n bytes ks (tail-trimmed k ks e)) ∙ some-kept n bytes ks k

trimmed-put : (bs : List PlacedData) (ks : List Data) → trimmed ks ≡ ks → trimmed (put_all bs ks) ≡ put_all bs ks
trimmed-put [] ks e = e
trimmed-put (b ∷ bs) ks e = trimmed-with b.place b.user_data (put_all bs ks) (trimmed-put bs ks e)

trimmed-drop : (n : ℕ) (ks : List Data) → trimmed ks ≡ ks → trimmed (drop n ks) ≡ drop n ks
trimmed-drop zero ks e = e
trimmed-drop (suc n) [] e = refl
trimmed-drop (suc n) (k ∷ ks) e = trimmed-drop n ks (tail-trimmed k ks e)

past-nil : (k : ℕ) → get_or {A = Data} [] k None ≡ None
past-nil k = get_or_past [] k None (omega arith)

trimmed-at : (xs : List Data) (k : ℕ) → get_or (trimmed xs) k None ≡ get_or xs k None
trimmed-at [] k = refl
trimmed-at (x ∷ xs) k = by x k (trimmed xs) (trimmed-at xs)
  where
    by : (x : Data) (k : ℕ) (ys : List Data) → ((i : ℕ) → get_or ys i None ≡ get_or xs i None) → get_or (kept_from x ys) k None ≡ get_or (x ∷ xs) k None
    by (Some b) zero ys h = refl
    by (Some b) (suc k) ys h = h k
    by None zero [] h = refl
    by None (suc k) [] h = past-nil (suc k) ∙ sym (past-nil k) ∙ h k
    by None zero (y ∷ ys) h = refl
    by None (suc k) (y ∷ ys) h = h k

again : (xs : List Data) → trimmed (trimmed xs) ≡ trimmed xs
again [] = refl
again (x ∷ xs) = by x (trimmed xs) (again xs)
  where
    by : (x : Data) (ys : List Data) → trimmed ys ≡ ys → trimmed (kept_from x ys) ≡ kept_from x ys
    by None [] h = refl
    by None (y ∷ ys) h = ap (kept_from None) h
    by (Some bytes) ys h = ap (kept_from (Some bytes)) h

-- two are one where the same is kept at each place
same-kept : (xs ys : List Data) → trimmed xs ≡ xs → trimmed ys ≡ ys → ((k : ℕ) → get_or xs k None ≡ get_or ys k None) → xs ≡ ys
same-kept [] [] e f h = refl
same-kept [] (y ∷ ys) e f h = sym (nothing (y ∷ ys) (λ k. sym (h k) ∙ get_or_past [] k None (omega arith))) ∙ f
same-kept (x ∷ xs) [] e f h = sym e ∙ nothing (x ∷ xs) (λ k. h k ∙ get_or_past [] k None (omega arith))
same-kept (x ∷ xs) (y ∷ ys) e f h =
    ap (λ z. z ∷ xs) (h 0) ∙ ap (λ zs. y ∷ zs) (same-kept xs ys (tail-trimmed x xs e) (tail-trimmed y ys f) (λ k. h (suc k)))

-- ## After a SACK

module _ (s : Sack) (f : Flight) (current : is_outdated s f ≡ false) (bs : List PlacedData) (are : AreAnew s f bs) (ks : List Data)
    (trim : trimmed ks ≡ ks) (short : length ks ≤ length f.queue.inflight.chunks) where
  abbrev cs : List ChunkPayloadData
  cs = f.queue.inflight.chunks

  abbrev n : ℕ
  n = count_acked s f

  abbrev all : List Data
  all = keep_each s cs ks

  abbrev own-data : ℕ → Data
  own-data k = Some (get_or cs (n + k) any_chunk).user_data

  valid : All (λ b. own-data b.place ≡ Some b.user_data) bs
  valid i d lt = ap Some (are.own i d lt any_chunk).1

  none-far : (k : ℕ) → length cs ≤ n + k → list_any (is_at k) bs ≡ false
  none-far k far = by bs are.own
    where
      by : (xs : List PlacedData) → All (IsOwn n cs) xs → list_any (is_at k) xs ≡ false
      by [] h = refl
      by (x ∷ xs) h = one (x.place == k) refl (by xs (λ i d lt. h (suc i) d (omega (arith, lt))))
        where
          one : (q : Bool) → (x.place == k) ≡ q → list_any (is_at k) xs ≡ false → (q || list_any (is_at k) xs) ≡ false
          one false e ih = ih
          one true e ih = let same = same-is x.place k e in let lt = (h 0 x (omega arith) any_chunk).0 in absurd (omega (arith, same, lt, far))

  here : (k : ℕ) → get_or (put_all bs (drop n ks)) k None ≡ get_or (drop n all) k None
  here k = elim (cases_lt (n + k) (length cs)) [
    | inl lt ↦
        let c : ChunkPayloadData = get_or cs (n + k) any_chunk in
        by c (reports_anew s c) refl (are.each k any_chunk lt) refl ∙ sym (kept-at s cs ks (n + k) any_chunk lt) ∙ sym (get_or-drop n all k None)
    | inr ge ↦
        put-none bs (drop n ks) k (none-far k ge) ∙ get_or-drop n ks k None ∙ get_or_past ks (n + k) None (omega (arith, short, ge))
        ∙ sym (get_or_past all (n + k) None (let m = length-keep_each s cs ks in omega (arith, m, ge))) ∙ sym (get_or-drop n all k None)
  ]
    where
      by : (c : ChunkPayloadData) (q : Bool) → reports_anew s c ≡ q → list_any (is_at k) bs ≡ reports_anew s c → c ≡ get_or cs (n + k) any_chunk
          → get_or (put_all bs (drop n ks)) k None ≡ keep s c (get_or ks (n + k) None)
      by c true e h is =
          put-at bs (drop n ks) own-data valid k (h ∙ e) ∙ ap (λ (x : ChunkPayloadData). Some x.user_data) (sym is)
          ∙ sym (ap (λ r. if r then Some c.user_data else get_or ks (n + k) None) e)
      by c false e h is =
          put-none bs (drop n ks) k (h ∙ e) ∙ get_or-drop n ks k None ∙ sym (ap (λ r. if r then Some c.user_data else get_or ks (n + k) None) e)

  pub kept-anew : put_all bs (drop n ks) ≡ kept_after s f ks
  kept-anew =
      same-kept (put_all bs (drop n ks)) (trimmed (drop n all)) (trimmed-put bs (drop n ks) (trimmed-drop n ks trim)) (again (drop n all))
      (λ k. here k ∙ sym (trimmed-at (drop n all) k))
      ∙ ap (λ b. if b then ks else trimmed (drop n all)) (sym current)

-- ## Filled up

pub filled-done : (n : ℕ) (ks : List Data) → n ≤ length ks → filled n ks ≡ ks
filled-done zero ks le = refl
filled-done (suc n) [] le = absurd (omega (arith, le))
filled-done (suc n) (k ∷ ks) le = ap (λ xs. k ∷ xs) (filled-done n ks (omega (arith, le)))

pub filled-more : (n : ℕ) (ks : List Data) → length ks < n → filled n (ks ++ None ∷ []) ≡ filled n ks
filled-more zero ks lt = absurd (omega (arith, lt))
filled-more (suc n) [] lt = refl
filled-more (suc n) (k ∷ ks) lt = ap (λ xs. k ∷ xs) (filled-more n ks (omega (arith, lt)))

pub filled-length : (n : ℕ) (ks : List Data) → length ks ≤ n → length (filled n ks) ≡ n
filled-length zero [] le = refl
filled-length zero (k ∷ ks) le = absurd (omega (arith, le))
filled-length (suc n) [] le = ap suc (filled-length n [] (omega arith))
filled-length (suc n) (k ∷ ks) le = ap suc (filled-length n ks (omega (arith, le)))

pub with-filled : (n : ℕ) (bytes : List ℕ) (ks : List Data) → length ks ≤ n → kept_with n bytes ks ≡ filled n ks ++ Some bytes ∷ []
with-filled zero bytes [] le = refl
with-filled zero bytes (k ∷ ks) le = absurd (omega (arith, le))
with-filled (suc n) bytes [] le = ap (λ xs. None ∷ xs) (with-filled n bytes [] (omega arith))
with-filled (suc n) bytes (k ∷ ks) le = ap (λ xs. k ∷ xs) (with-filled n bytes ks (omega (arith, le)))

pub put-filled : (n : ℕ) (bytes : List ℕ) (ks xs ys : List Data) → length ks ≤ n → xs ≡ filled n ks → ys ≡ xs ++ Some bytes ∷ [] → ys ≡ kept_with n bytes ks
put-filled n bytes ks xs ys le is new = new ∙ ap (λ zs. zs ++ Some bytes ∷ []) is ∙ sym (with-filled n bytes ks le)

pub with-set : (n : ℕ) (bytes : List ℕ) (ks : List Data) → n < length ks → kept_with n bytes ks ≡ set ks n (Some bytes)
with-set n bytes [] lt = absurd (omega (arith, lt))
with-set zero bytes (k ∷ ks) lt = refl
with-set (suc n) bytes (k ∷ ks) lt = ap (λ xs. k ∷ xs) (with-set n bytes ks (omega (arith, lt)))

pub put-last : (bs : List PlacedData) (b : PlacedData) (ks : List Data) → put_all (bs ++ b ∷ []) ks ≡ put_all bs (kept_with b.place b.user_data ks)
put-last [] b ks = refl
put-last (x ∷ bs) b ks = ap (kept_with x.place x.user_data) (put-last bs b ks)

-- ## By a sender

-- what is kept then, whether there is something to do or not
pub data-is : (anew : Option Anew) (o : Option (List Data)) (s : Sack) (f : Flight)
    → IfSome anew (λ a. (a.count ≡ count_acked s f) × AreAnew s f a.chunks.items) → IfSome anew (λ a. is_outdated s f ≡ false)
    → (anew ≡ None → (o ≡ None) ⊎ (is_outdated s f ≡ true)) → IfSome o (λ ks. (trimmed ks ≡ ks) × (length ks ≤ length f.queue.inflight.chunks))
    → option_map (data_after anew) o ≡ option_map (kept_after s f) o
data-is None o s f are current same v = elim (same refl) [
  | inl e ↦ ap (option_map (data_after None)) e ∙ sym (ap (option_map (kept_after s f)) e)
  | inr e ↦ old o e
]
  where
    old : (o : Option (List Data)) → is_outdated s f ≡ true → option_map (data_after None) o ≡ option_map (kept_after s f) o
    old None e = refl
    old (Some ks) e = ap (λ b. Some (if b then ks else trimmed (drop (count_acked s f) (keep_each s f.queue.inflight.chunks ks)))) (sym e)
data-is (Some a) None s f are current same v = refl
data-is (Some a) (Some ks) s f are current same v =
    ap (λ n. Some (put_all a.chunks.items (drop n ks))) are.0 ∙ ap Some (kept-anew s f current a.chunks.items are.1 ks v.0 v.1)

-- ## One more

pub one-more-at : (k : ℕ) (bs : List PlacedData) (b : PlacedData) → list_any (is_at k) (bs ++ b ∷ []) ≡ (list_any (is_at k) bs || (b.place == k))
one-more-at k bs b = list_any-append (is_at k) bs (b ∷ []) ∙ ap (λ q. list_any (is_at k) bs || q) (or-none (b.place == k))

pub own-more : (n : ℕ) (cs : List ChunkPayloadData) (bs : List PlacedData) (b : PlacedData) → All (IsOwn n cs) bs → IsOwn n cs b
    → All (IsOwn n cs) (bs ++ b ∷ [])
own-more n cs [] b all own zero d lt = own
own-more n cs [] b all own (suc i) d lt = absurd (omega (arith, lt))
own-more n cs (x ∷ bs) b all own zero d lt = all 0 d (omega arith)
own-more n cs (x ∷ bs) b all own (suc i) d lt = own-more n cs bs b (λ j e less. all (suc j) e (omega (arith, less))) own i d (omega (arith, lt))

-- ## In a sender

module _ (s : Sack) (f : Flight) where
  trims : (old : Option Kept) → IfSome old (λ k. Cover k.reported.items k.user_data.items f)
      → IfSome (option_map (λ k. k.user_data.items) old) (λ ks. (trimmed ks ≡ ks) × (length ks ≤ length f.queue.inflight.chunks))
  trims None v = tt
  trims (Some k) v = (v.trim, v.within)

  through : (anew : Option Anew) (o : Option Kept)
      → option_map (λ k. data_after anew k.user_data.items) o ≡ option_map (data_after anew) (option_map (λ k. k.user_data.items) o)
  through anew None = refl
  through anew (Some k) = refl

  -- what is kept then
  pub data-then : (old room new : Option Kept) (anew : Option Anew)
      → IfSome anew (λ a. (a.count ≡ count_acked s f) × AreAnew s f a.chunks.items) → IfSome anew (λ a. is_outdated s f ≡ false)
      → (anew ≡ None → (option_map (λ k. k.user_data.items) old ≡ None) ⊎ (is_outdated s f ≡ true))
      → IsCovered old f → option_map (λ k. k.user_data.items) room ≡ option_map (λ k. k.user_data.items) old
      → option_map (λ k. k.user_data.items) new ≡ option_map (λ k. data_after anew k.user_data.items) room
      → option_map (λ k. k.user_data.items) new ≡ option_map (kept_after s f) (option_map (λ k. k.user_data.items) old)
  data-then old room new anew are current same v room-same items =
      items ∙ through anew room ∙ ap (option_map (data_after anew)) room-same
      ∙ data-is anew (option_map (λ k. k.user_data.items) old) s f are current same (trims old v.cover)

  blocks-then : (o room new : Option Kept) (anew : Option Anew) → option_map (λ k. k.reported.items) room ≡ option_map (λ k. k.reported.items) o
      → option_map (λ k. k.reported.items) new ≡ option_map (λ k. blocks_after anew k.reported.items) room
      → option_map (λ k. k.reported.items) new ≡ option_map (λ k. blocks_after anew k.reported.items) o
  blocks-then o room new anew same blocks = blocks ∙ out room ∙ ap (option_map (blocks_after anew)) same ∙ sym (out o)
    where
      out : (x : Option Kept) → option_map (λ k. blocks_after anew k.reported.items) x
          ≡ option_map (blocks_after anew) (option_map (λ k. k.reported.items) x)
      out None = refl
      out (Some k) = refl

  -- and it is covered
  pub cover-then : (old new : Option Kept) (anew : Option Anew)
      → (anew ≡ None → (option_map (λ k. k.user_data.items) old ≡ None) ⊎ (is_outdated s f ≡ true))
      → IfSome anew (λ a. IfSome (option_map (λ k. k.user_data.items) old) (λ ks. Cover a.reported.items (kept_after s f ks) (after_sack s f)))
      → IfSome old (λ k. Cover k.reported.items k.user_data.items f)
      → option_map (λ k. k.user_data.items) new ≡ option_map (kept_after s f) (option_map (λ k. k.user_data.items) old)
      → option_map (λ k. k.reported.items) new ≡ option_map (λ k. blocks_after anew k.reported.items) old
      → IfSome new (λ k. Cover k.reported.items k.user_data.items (after_sack s f))
  cover-then old None anew same covered v items blocks = tt
  cover-then None (Some k) anew same covered v items blocks = absurd (none-some k.user_data.items (sym items))
  cover-then (Some o) (Some k) None same covered v items blocks = elim (same refl) [
    | inl e ↦ absurd (none-some o.user_data.items (sym e))
    | inr e ↦
        let stays : k.user_data.items ≡ o.user_data.items = some-same items
        ∙ ap (λ b. if b then o.user_data.items else trimmed (drop (count_acked s f) (keep_each s f.queue.inflight.chunks o.user_data.items))) e in
        subst (λ (xs : List GapAckBlock). Cover xs k.user_data.items (after_sack s f)) (sym (some-same blocks))
        (subst (λ (ks : List Data). Cover o.reported.items ks (after_sack s f)) (sym stays)
        (subst (λ (g : Flight). Cover o.reported.items o.user_data.items g) (sym (ap (λ b. if b then f else take_sack s f) e)) v))
  ]
  cover-then (Some o) (Some k) (Some a) same covered v items blocks =
      subst (λ (xs : List GapAckBlock). Cover xs k.user_data.items (after_sack s f)) (sym (some-same blocks))
      (subst (λ (ks : List Data). Cover a.reported.items ks (after_sack s f)) (sym (some-same items)) covered)

  pub acked-covered : (old room new : Option Kept) (anew : Option Anew) (g : Flight) → g ≡ after_sack s f
      → IfSome anew (λ a. (a.count ≡ count_acked s f) × AreAnew s f a.chunks.items) → IfSome anew (λ a. is_outdated s f ≡ false)
      → (anew ≡ None → (option_map (λ k. k.user_data.items) old ≡ None) ⊎ (is_outdated s f ≡ true))
      → IfSome anew (λ a. IfSome (option_map (λ k. k.user_data.items) old) (λ ks. Cover a.reported.items (kept_after s f ks) (after_sack s f)))
      → IsCovered old f → option_map (λ k. k.user_data.items) room ≡ option_map (λ k. k.user_data.items) old
      → option_map (λ k. k.reported.items) room ≡ option_map (λ k. k.reported.items) old
      → option_map (λ k. k.user_data.items) new ≡ option_map (λ k. data_after anew k.user_data.items) room
      → option_map (λ k. k.reported.items) new ≡ option_map (λ k. blocks_after anew k.reported.items) room → IsCovered new g
  acked-covered old room new anew g is are current same covered v room-data room-blocks items blocks = subst (IsCovered new) (sym is) (record {
    ordered = ap (λ (q : Pending). list_any (λ c. c.acked) q.ordered) (waits (is_outdated s f)) ∙ v.ordered;
    unordered = ap (λ (q : Pending). list_any (λ c. c.acked) q.unordered) (waits (is_outdated s f)) ∙ v.unordered;
    cover = cover-then old new anew same covered v.cover (data-then old room new anew are current same v room-data items)
        (blocks-then old room new anew room-blocks blocks);
  })
    where
      waits : (b : Bool) → (if b then f else take_sack s f).queue.pending ≡ f.queue.pending
      waits true = refl
      waits false = refl

-- ## Without the front

pub from-some : {X P : Type 0} (o : Option X) → (o ≡ None → ⊥) → IfSome o (λ x. P) → P
from-some None f h = absurd (f refl)
from-some (Some x) f h = h
