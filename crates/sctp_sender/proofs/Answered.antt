-- What was told is acknowledged, and says which messages are acknowledged whole.
use Rattle.sctp_sender.proofs.Names.{◌≡◌, ℕ, suc, ◌+◌, ◌<◌, ◌%◌, ◌^◌, Bool, true, false, List, [], ◌∷◌, ◌++◌, length, map, take, drop, get_or, None, set, refl}
use Rattle.sctp_sender.proofs.Names.{ap, sym, subst, ◌∙◌, inl, inr, arith, if◌then◌else◌, ◌&&◌, ◌||◌, not, nat_eq, filter, list_all, list_any, cases_eq}
use Rattle.sctp_sender.proofs.Names.{nat_tests, drop_more, get_or_default, take_more, change_where, distance, or-left, or-none, or-right, same-is, OnlyAt}
use Rattle.sctp_sender.proofs.Names.{change_where-only, list_any-append, length-change_where, ChunkPayloadData, Sack, as_acknowledged, following_tsn, has_tsn}
use Rattle.sctp_sender.proofs.Names.{Released, released_of, reports, reports_anew, tsns_from, AreInFlight, is_of_chunk, is_open_of, is_answered}
use Rattle.sctp_util.proofs.Edits.{change_where-none}
use Rattle.sctp_sender.specs.Flight.{leaves_open, open_messages}
use Rattle.sctp_sender.specs.Telling.{is_answered_as}
use Rattle.sctp_sender.proofs.Anew.{any-at, any-place, both}
use Rattle.sctp_sender.proofs.Places.{away}
use Rattle.sctp_sender.proofs.Runs.{IsRunFrom, changed-run, only-at, tsn-at}

-- anything told, where a look-up asks for one to fall back on
abbrev pub any_answered : Released
any_answered = record { tsn = 0; stream = 0; bytes = 0; nsent = 0; since = None; message = 0; is_message_acked = false; is_low = false }

-- ## Two changes

module _ {X : Type 0} (f : X → X) where
  pub change-same : (p q : X → Bool) (xs : List X) → ((k : ℕ) (d : X) → k < length xs → p (get_or xs k d) ≡ q (get_or xs k d))
      → change_where p f xs ≡ change_where q f xs
  change-same p q [] h = refl
  change-same p q (x ∷ xs) h = ap (λ b. (if b then f x else x) ∷ change_where p f xs) (h 0 x (omega arith))
      ∙ ap (λ ys. (if q x then f x else x) ∷ ys) (change-same p q xs (λ k d lt. h (suc k) d (omega (arith, lt))))

  pub change-both : (q r : X → Bool) → ((x : X) → r (f x) ≡ r x) → ((x : X) → f (f x) ≡ f x) → (xs : List X)
      → change_where r f (change_where q f xs) ≡ change_where (λ x. q x || r x) f xs
  change-both q r keeps twice [] = refl
  change-both q r keeps twice (x ∷ xs) = by (q x) (r x) refl (change-both q r keeps twice xs)
    where
      again : (k : Bool) → (if k then f (f x) else f x) ≡ f x
      again true = twice x
      again false = refl

      by : (b k : Bool) → r x ≡ k → change_where r f (change_where q f xs) ≡ change_where (λ x. q x || r x) f xs
          → (if r (if b then f x else x) then f (if b then f x else x) else (if b then f x else x)) ∷ change_where r f (change_where q f xs)
          ≡ (if b || k then f x else x) ∷ change_where (λ x. q x || r x) f xs
      by true k e ih = ap (λ y. y ∷ change_where r f (change_where q f xs)) (again (r (f x))) ∙ ap (λ ys. f x ∷ ys) ih
      by false k e ih = ap (λ j. (if j then f x else x) ∷ change_where r f (change_where q f xs)) e ∙ ap (λ ys. (if k then f x else x) ∷ ys) ih

-- ## Where a chunk that was told of stands

pub record StandsAt (acked : ℕ) (cs : List ChunkPayloadData) (r : Released) : Type 0 where
  pub k : ℕ
  pub lt : k < length cs
  pub far : distance acked r.tsn ≡ suc k
  pub tsn : r.tsn ≡ (following_tsn acked + k) % 2 ^ 32
  pub own : (d : ChunkPayloadData) → (get_or cs k d).message_id ≡ r.message

pub stands-at : (acked : ℕ) (cs : List ChunkPayloadData) → acked < 2 ^ 32 → IsRunFrom (following_tsn acked) cs → length cs < 2 ^ 31 → (r : Released)
    → list_any (is_of_chunk r) cs ≡ true → (d : ChunkPayloadData) → StandsAt acked cs r
stands-at acked cs small run few r h d =
    let p = any-place (is_of_chunk r) cs h in
    let tsn : r.tsn ≡ (following_tsn acked + p.0) % 2 ^ 32 = sym (same-is _ _ (both (has_tsn r.tsn (get_or cs p.0 d)) _ (p.2 d)).0)
    ∙ tsn-at cs (following_tsn acked) p.0 d (omega (arith, small)) run p.1 in
    record {
      k = p.0;
      lt = p.1;
      far = ap (distance acked) tsn ∙ away acked p.0 small (omega (arith, p.1, few));
      tsn = tsn;
      own = λ e. same-is _ _ (both (has_tsn r.tsn (get_or cs p.0 e)) _ (p.2 e)).1;
    }

-- the first of those that are left
pub next-in-flight : (cs : List ChunkPayloadData) (rs : List Released) (i : ℕ) (r : Released) → i < length rs → AreInFlight (drop i rs) cs
    → list_any (is_of_chunk (get_or rs i r)) cs ≡ true
next-in-flight cs rs i r lt all =
    let q : Released → Bool = λ x. list_any (is_of_chunk x) cs in
    (both (q (get_or rs i r)) (list_all q (drop (i + 1) rs)) (ap (list_all q) (sym (drop_more rs i r lt)) ∙ all)).0

-- one more is acknowledged
pub one-acknowledged : (first : ℕ) (cs ys : List ChunkPayloadData) (rs : List Released) (i k : ℕ) (r : Released) (d : ChunkPayloadData) → first < 2 ^ 32
    → IsRunFrom first cs → length cs < 2 ^ 31 → i < length rs → r ≡ get_or rs i r → k < length cs → r.tsn ≡ (first + k) % 2 ^ 32
    → ys ≡ change_where (is_answered (take i rs)) as_acknowledged cs
    → set ys k (as_acknowledged (get_or ys k d)) ≡ change_where (is_answered (take (i + 1) rs)) as_acknowledged cs
one-acknowledged first cs ys rs i k r d small run few more is lt tsn so_far =
    let n : length ys ≡ length cs = ap length so_far ∙ length-change_where (is_answered (take i rs)) as_acknowledged cs in
    let its-run : IsRunFrom first ys = ap (λ (zs : List ChunkPayloadData). map (λ (c : ChunkPayloadData). c.tsn) zs) so_far
    ∙ changed-run (is_answered (take i rs)) as_acknowledged (λ c. refl) cs ∙ run ∙ ap (tsns_from first) (sym n) in
    let only : OnlyAt (has_tsn r.tsn) ys k = subst (λ t. OnlyAt (has_tsn t) ys k) (sym tsn)
    (only-at ys first k small its-run (omega (arith, few, n)) (omega (arith, lt, n))) in
    let answered : (c : ChunkPayloadData) → (is_answered (take i rs) c || has_tsn r.tsn c) ≡ is_answered (take (i + 1) rs) c = λ c.
    ap (λ b. is_answered (take i rs) c || b) (sym (or-none (has_tsn r.tsn c))) ∙ sym (list_any-append (is_answered_as c) (take i rs) (r ∷ []))
    ∙ ap (list_any (is_answered_as c)) (ap (λ y. take i rs ++ y ∷ []) is ∙ sym (take_more rs i r more)) in
    sym (change_where-only (has_tsn r.tsn) as_acknowledged ys k d only) ∙ ap (change_where (has_tsn r.tsn) as_acknowledged) so_far
    ∙ change-both as_acknowledged (is_answered (take i rs)) (has_tsn r.tsn) (λ c. refl) (λ c. refl) cs
    ∙ change-same as_acknowledged (λ c. is_answered (take i rs) c || has_tsn r.tsn c) (is_answered (take (i + 1) rs)) cs (λ j e less. answered (get_or cs j e))

-- a chunk was told of by one more
pub answered-more : (rs : List Released) (i : ℕ) (r : Released) (c : ChunkPayloadData) → i < length rs → r ≡ get_or rs i r
    → is_answered (take (i + 1) rs) c ≡ (is_answered (take i rs) c || has_tsn r.tsn c)
answered-more rs i r c lt is =
    ap (list_any (is_answered_as c)) (take_more rs i r lt ∙ ap (λ y. take i rs ++ y ∷ []) (sym is))
    ∙ list_any-append (is_answered_as c) (take i rs) (r ∷ []) ∙ ap (λ b. is_answered (take i rs) c || b) (or-none (has_tsn r.tsn c))

-- of the chunks in flight only the one at its place
pub answer-here : (first : ℕ) (cs : List ChunkPayloadData) (r : Released) (k j : ℕ) (d : ChunkPayloadData) → first < 2 ^ 32 → IsRunFrom first cs
    → length cs < 2 ^ 31 → r.tsn ≡ (first + k) % 2 ^ 32 → k < length cs → j < length cs → has_tsn r.tsn (get_or cs j d) ≡ nat_eq k j
answer-here first cs r k j d small run few tsn lt less = elim (cases_eq j k) [
  | inl same ↦ ap (λ i. has_tsn r.tsn (get_or cs i d)) same ∙ only.here d ∙ sym (yes k j same)
  | inr other ↦ only.elsewhere j d less other ∙ sym (no k j other)
]
  where
    only : OnlyAt (has_tsn r.tsn) cs k
    only = subst (λ t. OnlyAt (has_tsn t) cs k) (sym tsn) (only-at cs first k small run few lt)

    yes : (k j : ℕ) → j ≡ k → nat_eq k j ≡ true
    yes k j e = grind (arith, nat_tests, e)

    no : (k j : ℕ) → (j ≡ k → ⊥) → nat_eq k j ≡ false
    no k j e = grind (arith, nat_tests, e)

pub none-acknowledged : (cs : List ChunkPayloadData) → change_where (is_answered []) as_acknowledged cs ≡ cs
none-acknowledged cs = change_where-none (is_answered []) as_acknowledged cs (λ k d lt. refl)

-- ## What was told

-- those that pass, and no other
only-any : (p q : ChunkPayloadData → Bool) (xs : List ChunkPayloadData) (k : ℕ) (d : ChunkPayloadData) → OnlyAt q xs k
    → list_any (λ x. p x && q x) xs ≡ p (get_or xs k d)
only-any p q xs k d o = by (p (get_or xs k d)) refl
  where
    none : (zs : List ChunkPayloadData) → ((j : ℕ) (e : ChunkPayloadData) → j < length zs → (p (get_or zs j e) && q (get_or zs j e)) ≡ false)
        → list_any (λ x. p x && q x) zs ≡ false
    none [] h = refl
    none (z ∷ zs) h = ap (λ b. b || list_any (λ x. p x && q x) zs) (h 0 z (omega arith)) ∙ none zs (λ j e lt. h (suc j) e (omega (arith, lt)))

    no : (b : Bool) → (b && false) ≡ false
    no true = refl
    no false = refl

    by : (b : Bool) → p (get_or xs k d) ≡ b → list_any (λ x. p x && q x) xs ≡ b
    by true e = any-at (λ x. p x && q x) xs k d o.in_range (ap (λ b. b && q (get_or xs k d)) e ∙ o.here d)
    by false e = none xs (λ j x lt. elim (cases_eq j k) [
      | inl same ↦
          ap (λ i. p (get_or xs i x) && q (get_or xs i x)) same
          ∙ ap (λ (y : ChunkPayloadData). p y && q y) (get_or_default xs k x d o.in_range) ∙ ap (λ b. b && q (get_or xs k d)) e
      | inr other ↦ ap (λ b. p (get_or xs j x) && b) (o.elsewhere j x lt other) ∙ no (p (get_or xs j x))
    ])

answered-of-those : (p : ChunkPayloadData → Bool) (w : ℕ → Bool) (c : ChunkPayloadData) (xs : List ChunkPayloadData)
    → list_any (is_answered_as c) (map (released_of w) (filter p xs)) ≡ list_any (λ (x : ChunkPayloadData). p x && has_tsn x.tsn c) xs
answered-of-those p w c [] = refl
answered-of-those p w c (x ∷ xs) = by (p x) (answered-of-those p w c xs)
  where
    by : (b : Bool) → list_any (is_answered_as c) (map (released_of w) (filter p xs)) ≡ list_any (λ (x : ChunkPayloadData). p x && has_tsn x.tsn c) xs
        → list_any (is_answered_as c) (map (released_of w) (if b then x ∷ filter p xs else filter p xs))
        ≡ ((b && has_tsn x.tsn c) || list_any (λ (x : ChunkPayloadData). p x && has_tsn x.tsn c) xs)
    by true ih = ap (λ k. has_tsn x.tsn c || k) ih
    by false ih = ih

-- a chunk was told of where it passes
pub answered-at : (p : ChunkPayloadData → Bool) (w : ℕ → Bool) (first : ℕ) (cs : List ChunkPayloadData) → first < 2 ^ 32 → IsRunFrom first cs
    → length cs < 2 ^ 31 → (k : ℕ) (d : ChunkPayloadData) → k < length cs
    → is_answered (map (released_of w) (filter p cs)) (get_or cs k d) ≡ p (get_or cs k d)
answered-at p w first cs small run few k d lt =
    let c : ChunkPayloadData = get_or cs k d in
    let here : c.tsn ≡ (first + k) % 2 ^ 32 = tsn-at cs first k d small run lt in
    let only : OnlyAt (λ (x : ChunkPayloadData). has_tsn x.tsn c) cs k =
    turned c (subst (λ t. OnlyAt (has_tsn t) cs k) (sym here) (only-at cs first k small run few lt)) in
    answered-of-those p w c cs ∙ only-any p (λ (x : ChunkPayloadData). has_tsn x.tsn c) cs k d only
  where
    turn : (a b : ℕ) → nat_eq a b ≡ nat_eq b a
    turn a b = grind (arith, nat_tests)

    turned : (c : ChunkPayloadData) {k : ℕ} → OnlyAt (has_tsn c.tsn) cs k → OnlyAt (λ (x : ChunkPayloadData). has_tsn x.tsn c) cs k
    turned c {k} o = record {
      in_range = o.in_range;
      here = λ d. turn c.tsn (get_or cs k d).tsn ∙ o.here d;
      elsewhere = λ j d lt other. turn c.tsn (get_or cs j d).tsn ∙ o.elsewhere j d lt other;
    }

-- those that were told of are those that pass
pub answered-are : (p : ChunkPayloadData → Bool) (w : ℕ → Bool) (first : ℕ) (cs : List ChunkPayloadData) → first < 2 ^ 32 → IsRunFrom first cs
    → length cs < 2 ^ 31 → change_where (is_answered (map (released_of w) (filter p cs))) as_acknowledged cs ≡ change_where p as_acknowledged cs
answered-are p w first cs small run few =
    change-same as_acknowledged (is_answered (map (released_of w) (filter p cs))) p cs (λ k d lt. answered-at p w first cs small run few k d lt)

-- each of them is in flight, be it changed or not
pub answered-in-flight : (p : ChunkPayloadData → Bool) (w : ℕ → Bool) (cs ds : List ChunkPayloadData)
    → ((r : Released) → list_any (is_of_chunk r) cs ≡ true → list_any (is_of_chunk r) ds ≡ true) → AreInFlight (map (released_of w) (filter p cs)) ds
answered-in-flight p w [] ds more = refl
answered-in-flight p w (c ∷ cs) ds more = by (p c) (answered-in-flight p w cs ds (λ r h. more r (or-right (is_of_chunk r c) (list_any (is_of_chunk r) cs) h)))
  where
    same : (a : ℕ) → nat_eq a a ≡ true
    same a = grind (arith, nat_tests)

    own : is_of_chunk (released_of w c) c ≡ true
    own = ap (λ b. b && nat_eq c.message_id c.message_id) (same c.tsn) ∙ same c.message_id

    by : (b : Bool) → AreInFlight (map (released_of w) (filter p cs)) ds → AreInFlight (map (released_of w) (if b then c ∷ filter p cs else filter p cs)) ds
    by true ih = ap (λ b. b && list_all (λ r. list_any (is_of_chunk r) ds) (map (released_of w) (filter p cs)))
        (more (released_of w c) (or-left (is_of_chunk (released_of w c) c) (list_any (is_of_chunk (released_of w c)) cs) own)) ∙ ih
    by false ih = ih

pub of-changed : (q : ChunkPayloadData → Bool) (r : Released) (cs : List ChunkPayloadData)
    → list_any (is_of_chunk r) (change_where q as_acknowledged cs) ≡ list_any (is_of_chunk r) cs
of-changed q r [] = refl
of-changed q r (c ∷ cs) = by (q c) (of-changed q r cs)
  where
    by : (b : Bool) → list_any (is_of_chunk r) (change_where q as_acknowledged cs) ≡ list_any (is_of_chunk r) cs
        → (is_of_chunk r (if b then as_acknowledged c else c) || list_any (is_of_chunk r) (change_where q as_acknowledged cs))
        ≡ (is_of_chunk r c || list_any (is_of_chunk r) cs)
    by true ih = ap (λ k. is_of_chunk r c || k) ih
    by false ih = ap (λ k. is_of_chunk r c || k) ih

-- ## What is noted of each

-- ## Which messages are left open

-- what a SACK leaves open is open once what it reports anew is acknowledged
pub open-is : (s : Sack) (m : ℕ) (cs : List ChunkPayloadData)
    → list_any (is_open_of m) (change_where (reports_anew s) as_acknowledged cs) ≡ list_any (nat_eq m) (open_messages s cs)
open-is s m [] = refl
open-is s m (c ∷ cs) = ap (λ b. b || list_any (is_open_of m) (change_where (reports_anew s) as_acknowledged cs)) (here c.acked (reports s c) refl refl)
    ∙ ap (λ b. (nat_eq m c.message_id && leaves_open s c) || b) (open-is s m cs) ∙ there (leaves_open s c)
  where
    here : (a r : Bool) → c.acked ≡ a → reports s c ≡ r
        → is_open_of m (if reports_anew s c then as_acknowledged c else c) ≡ (nat_eq m c.message_id && leaves_open s c)
    here true r e h = ap (λ a. is_open_of m (if not a && reports s c then as_acknowledged c else c)) e
        ∙ ap (λ a. nat_eq m c.message_id && (c.abandoned || not a)) e ∙ ap (λ a. nat_eq m c.message_id && (c.abandoned || not (a || reports s c))) (sym e)
    here false true e h = ap (λ a. is_open_of m (if not a && reports s c then as_acknowledged c else c)) e
        ∙ ap (λ r. is_open_of m (if r then as_acknowledged c else c)) h
        ∙ ap (λ r. nat_eq m c.message_id && (c.abandoned || not r)) (sym (ap (λ a. a || reports s c) e ∙ h))
    here false false e h = ap (λ a. is_open_of m (if not a && reports s c then as_acknowledged c else c)) e
        ∙ ap (λ r. is_open_of m (if r then as_acknowledged c else c)) h
        ∙ ap (λ a. nat_eq m c.message_id && (c.abandoned || not a)) (e ∙ sym (ap (λ a. a || reports s c) e ∙ h))

    there : (b : Bool) → ((nat_eq m c.message_id && b) || list_any (nat_eq m) (open_messages s cs))
        ≡ list_any (nat_eq m) (map (λ c. c.message_id) (if b then c ∷ filter (leaves_open s) cs else filter (leaves_open s) cs))
    there true = ap (λ k. k || list_any (nat_eq m) (open_messages s cs)) (and-yes (nat_eq m c.message_id))
      where
        and-yes : (b : Bool) → (b && true) ≡ b
        and-yes true = refl
        and-yes false = refl
    there false = ap (λ k. k || list_any (nat_eq m) (open_messages s cs)) (and-no (nat_eq m c.message_id))
      where
        and-no : (b : Bool) → (b && false) ≡ false
        and-no true = refl
        and-no false = refl
