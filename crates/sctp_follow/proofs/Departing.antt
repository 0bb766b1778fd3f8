-- What stays noted of fragments, where messages leave one after the other.
use Rattle.std.proofs.Common.{◌≡◌, ℕ, ◌<◌, ◌==◌, ◌||◌, ◌⊎◌, inl, inr, Bool, true, false, nat_eq, if◌then◌else◌, List, [], ◌∷◌, ◌++◌, map, length, Option, Some, None, is_some, append-nil, refl, sym, ap, subst, ◌∙◌, arith}
use Rattle.std.specs.BTreeMap as trees
use Rattle.std.specs.BTreeMap.{BTreeMap}
use Rattle.std.specs.Ordering.{nat_cmp}
use Rattle.std.specs.List.{All, list_any}
use Rattle.std.proofs.lemmas.Bool.{cases_eq, cases_Bool, false≢true, ne_eqb}
use Rattle.std.proofs.lemmas.List.{length-map}
use Rattle.std.proofs.lemmas.List.Elements.{All-nil, All-cons, All-head, All-tail, All-append, All-weaker}
use Rattle.std.proofs.lemmas.List.Folds.{list_any-append}
use Rattle.sctp_follow.specs.Forgetting.{held_in, held_of, has_tsn, Leaves, Forgets}
use Rattle.sctp_follow.specs.Lanes.{held, held_at, Reads, IsRead}
use Rattle.sctp_util.specs.Serial.{at_or_before}
use Rattle.sctp_follow.specs.Spots.{at, is_of, is_of_any, NoneUpTo}
use Rattle.sctp_follow.specs.declared.interleave.Fragment.{Fragment}
use Rattle.sctp_follow.specs.declared.interleave.Name.{Name}
use Rattle.sctp_follow.specs.declared.interleave.Whole.{Whole}
use Rattle.sctp_follow.specs.declared.lanes.Lane.{Lane}
use Rattle.sctp_follow.specs.declared.spots.Spot.{Spot}
use Rattle.sctp_follow.specs.declared.spots.Spots.{Spots}
use Rattle.sctp_follow.proofs.Leaving.{chosen, passed, left_at, left_other}

abbrev Held : Type 0
Held = List (ℕ × Fragment)

-- no fragment has a TSN
has_none : (held : Held) (t : ℕ) → held ≡ [] → has_tsn held t ≡ true → ⊥
has_none held t e has = false≢true (sym (ap (λ (xs : Held). has_tsn xs t) e) ∙ has)

-- a message has fragments
some_held : (m : Whole) → m.fragments.entries ≡ [] → ⊥
some_held m e =
    let some = m.message.some in
    let none : length (trees.values m.fragments) ≡ 0 = ap (λ (xs : Held). length (map (λ (x : ℕ × Fragment). x.1) xs)) e in
    omega (arith, some, none)

-- an element that passes a test is as each of the list is
found : {X : Type 0} (P : X → Type 0) (p : X → Bool) (xs : List X) → All P xs → list_any p xs ≡ true → (x : X) × P x × (p x ≡ true)
found P p [] a e = absurd (false≢true e)
found {X = X} P p (x ∷ xs) a e = by (p x) refl (found P p xs (All-tail P x xs a))
  where
    by : (b : Bool) → p x ≡ b → (list_any p xs ≡ true → (y : X) × P y × (p y ≡ true)) → (y : X) × P y × (p y ≡ true)
    by true is rest = (x, All-head P x xs a, is)
    by false is rest = rest (sym (ap (λ (b : Bool). b || list_any p xs) is) ∙ e)

any_left : (ms ns : List Whole) (t : ℕ) → is_of_any ms t ≡ true → is_of_any (ms ++ ns) t ≡ true
any_left ms ns t e = list_any-append (λ (m : Whole). is_of (trees.values m.fragments) t) ms ns ∙ ap (λ (b : Bool). b || is_of_any ns t) e

any_right : (ms ns : List Whole) (t : ℕ) → is_of_any ns t ≡ true → is_of_any (ms ++ ns) t ≡ true
any_right ms ns t e = list_any-append (λ (m : Whole). is_of (trees.values m.fragments) t) ms ns ∙ either (is_of_any ms t) (is_of_any ns t) e
  where
    either : (a b : Bool) → b ≡ true → (a || b) ≡ true
    either true b h = refl
    either false b h = h

module _ {K : Type 0} where
  -- nothing leaves
  pub leaves_none : (held : K → Held) (s : Spots) → Leaves held held [] s s
  leaves_none held s = record {
    still = λ k. inl refl;
    read = All-nil _;
    gone = λ t k has none. absurd (has_none (held k) t none has);
    stay = λ t same. refl;
    none = λ t e. e;
  }

  -- and then more leave
  module _ (f g h : K → Held) (ms ns : List Whole) (s mid new : Spots) (one : Leaves f g ms s mid) (two : Leaves g h ns mid new) where
    both_still : (k : K) → (h k ≡ f k) ⊎ (h k ≡ [])
    both_still k = elim (two.still k) [ inr e ↦ inr e | inl e ↦ elim (one.still k) [ inl d ↦ inl (e ∙ d) | inr d ↦ inr (e ∙ d) ] ]

    -- what stays is there between, too
    between : (k : K) → h k ≡ f k → g k ≡ f k
    between k same = elim (one.still k) [
      | inl e ↦ e
      | inr e ↦ e ∙ sym (elim (two.still k) [ inl d ↦ d ∙ e | inr d ↦ d ]) ∙ same
    ]

    gone_both : (t : ℕ) (k : K) → has_tsn (f k) t ≡ true → h k ≡ [] → (at new t ≡ None) ⊎ (is_of_any (ms ++ ns) t ≡ true)
    gone_both t k has none = elim (one.still k) [
      | inl e ↦ elim (two.gone t k (ap (λ (xs : Held). has_tsn xs t) e ∙ has) none) [ inl a ↦ inl a | inr a ↦ inr (any_right ms ns t a) ]
      | inr e ↦ elim (one.gone t k has e) [ inl a ↦ inl (two.none t a) | inr a ↦ inr (any_left ms ns t a) ]
    ]

    was_held : (m : Whole) → (k : K) × (m.fragments.entries ≡ g k) × (h k ≡ []) → (k : K) × (m.fragments.entries ≡ f k) × (h k ≡ [])
    was_held m r = elim (one.still r.0) [ inl e ↦ (r.0, r.1 ∙ e, r.2) | inr e ↦ absurd (some_held m (r.1 ∙ e)) ]

    gone_too : (m : Whole) → (k : K) × (m.fragments.entries ≡ f k) × (g k ≡ []) → (k : K) × (m.fragments.entries ≡ f k) × (h k ≡ [])
    gone_too m r = (r.0, r.1, elim (two.still r.0) [ inl e ↦ e ∙ r.2 | inr e ↦ e ])

    pub leaves_more : Leaves f h (ms ++ ns) s new
    leaves_more = record {
      still = both_still;
      read = All-append (λ (m : Whole). (k : K) × (m.fragments.entries ≡ f k) × (h k ≡ [])) ms ns
          (All-weaker (λ (m : Whole). (k : K) × (m.fragments.entries ≡ f k) × (g k ≡ [])) (λ (m : Whole). (k : K) × (m.fragments.entries ≡ f k) × (h k ≡ [])) gone_too ms one.read)
          (All-weaker (λ (m : Whole). (k : K) × (m.fragments.entries ≡ g k) × (h k ≡ [])) (λ (m : Whole). (k : K) × (m.fragments.entries ≡ f k) × (h k ≡ [])) was_held ns two.read);
      gone = gone_both;
      stay = λ t same. two.stay t (λ k has. still_there t k has (same k)) ∙ one.stay t (λ k has. between k (same k has));
      none = λ t e. two.none t (one.none t e);
    }
      where
        still_there : (t : ℕ) (k : K) → has_tsn (g k) t ≡ true → (has_tsn (f k) t ≡ true → h k ≡ f k) → h k ≡ g k
        still_there t k has same = elim (one.still k) [
          | inl e ↦ same (sym (ap (λ (xs : Held). has_tsn xs t) e) ∙ has) ∙ sym e
          | inr e ↦ absurd (has_none (g k) t e has)
        ]

  -- the fragments of messages that are read are forgotten
  forgets : (due : ℕ → Bool) (f g : K → Held) (ms : List Whole) (was s mid new : Spots) → Leaves f g ms s mid
      → ((t : ℕ) → t < 4294967296 → due t ≡ true → at s t ≡ None) → ((t : ℕ) → due t ≡ false → at s t ≡ at was t)
      → ((t : ℕ) → at new t ≡ (if is_of_any ms t then None else at mid t)) → Forgets due f g was new
  forgets due f g ms was s mid new l none_due other read = record {
    due = λ t fits is. empty t (l.none t (none_due t fits is));
    gone = λ t k has none. elim (l.gone t k has none) [ inl e ↦ empty t e | inr e ↦ read t ∙ chosen (is_of_any ms t) None (at mid t) e ];
    stay = λ t late same. elim (cases_Bool (is_of_any ms t)) [
      | inl e ↦ absurd (unread t same (found (λ (m : Whole). (k : K) × (m.fragments.entries ≡ f k) × (g k ≡ [])) (λ (m : Whole). is_of (trees.values m.fragments) t) ms l.read e))
      | inr e ↦ read t ∙ passed (is_of_any ms t) None (at mid t) e ∙ l.stay t same ∙ other t late
    ];
  }
    where
      empty : (t : ℕ) → at mid t ≡ None → at new t ≡ None
      empty t e = elim (cases_Bool (is_of_any ms t)) [
        | inl is ↦ read t ∙ chosen (is_of_any ms t) None (at mid t) is
        | inr is ↦ read t ∙ passed (is_of_any ms t) None (at mid t) is ∙ e
      ]

      unread : (t : ℕ) → ((k : K) → has_tsn (f k) t ≡ true → g k ≡ f k)
          → (m : Whole) × ((k : K) × (m.fragments.entries ≡ f k) × (g k ≡ [])) × (is_of (trees.values m.fragments) t ≡ true) → ⊥
      unread t same (m, r, is) =
          let has : has_tsn (f r.0) t ≡ true = sym (ap (λ (xs : Held). has_tsn xs t) r.1) ∙ is in
          has_none (f r.0) t (sym (same r.0 has) ∙ r.2) has

  -- the same, where they are given as a slice
  pub leaves_forgets : (due : ℕ → Bool) (f g : K → Held) (ms given : List Whole) (was s mid new : Spots) → Leaves f g ms s mid
      → ((t : ℕ) → t < 4294967296 → due t ≡ true → at s t ≡ None) → ((t : ℕ) → due t ≡ false → at s t ≡ at was t)
      → given ≡ ms → ((t : ℕ) → at new t ≡ (if is_of_any given t then None else at mid t)) → Forgets due f g was new
  leaves_forgets due f g ms given was s mid new l none_due other same read =
      forgets due f g ms was s mid new l none_due other (subst (λ (xs : List Whole). (t : ℕ) → at new t ≡ (if is_of_any xs t then None else at mid t)) same read)

-- a message of a lane is dropped
pub leaves_lost : (f g : ℕ → Held) (n : ℕ) (s new : Spots) → ((k : ℕ) → g k ≡ (if k == n then [] else f k))
    → ((t : ℕ) → at new t ≡ (if has_tsn (f n) t then None else at s t)) → Leaves f g [] s new
leaves_lost f g n s new left notes = record {
  still = λ k. elim (cases_eq k n) [ inl e ↦ inr (left_at f g [] n left k e) | inr e ↦ inl (left_other f g [] n left k e) ];
  read = All-nil _;
  gone = λ t k has none. elim (cases_eq k n) [
    | inl e ↦ inl (notes t ∙ chosen (has_tsn (f n) t) None (at s t) (subst (λ (x : ℕ). has_tsn (f x) t ≡ true) e has))
    | inr e ↦ absurd (has_none (f k) t (sym (left_other f g [] n left k e) ∙ none) has)
  ];
  stay = λ t same. elim (cases_Bool (has_tsn (f n) t)) [
    | inl has ↦ absurd (has_none (f n) t (sym (same n has) ∙ left_at f g [] n left n refl) has)
    | inr has ↦ notes t ∙ passed (has_tsn (f n) t) None (at s t) has
  ];
  none = λ t e. elim (cases_Bool (has_tsn (f n) t)) [
    | inl has ↦ notes t ∙ chosen (has_tsn (f n) t) None (at s t) has
    | inr has ↦ notes t ∙ passed (has_tsn (f n) t) None (at s t) has ∙ e
  ];
}

-- a message of a lane is read
pub leaves_read : (name : Name) (m : Whole) (old new : Lane) (s : Spots) → IsRead name m old new → Leaves (held_at old) (held_at new) (m ∷ []) s s
leaves_read name m old new s r = record {
  still = λ k. elim (cases_eq k name.number) [
    | inl e ↦ inr (left_at (held_at old) (held_at new) [] name.number r.left k e)
    | inr e ↦ inl (left_other (held_at old) (held_at new) [] name.number r.left k e)
  ];
  read =
      let first : (k : ℕ) × (m.fragments.entries ≡ held_at old k) × (held_at new k ≡ []) =
      (name.number, r.fragments, left_at (held_at old) (held_at new) [] name.number r.left name.number refl) in
      All-cons (λ (x : Whole). (k : ℕ) × (x.fragments.entries ≡ held_at old k) × (held_at new k ≡ [])) m [] first (All-nil _);
  gone = λ t k has none. elim (cases_eq k name.number) [
    | inl e ↦ inr (ap (λ (b : Bool). b || false) (ap (λ (xs : Held). has_tsn xs t) (r.fragments ∙ ap (held_at old) (sym e)) ∙ has))
    | inr e ↦ absurd (has_none (held_at old k) t (sym (left_other (held_at old) (held_at new) [] name.number r.left k e) ∙ none) has)
  ];
  stay = λ t same. refl;
  none = λ t e. e;
}

-- ordered messages are read
pub leaves_reads : (stream : ℕ) (ms : List Whole) (old new : Lane) (s : Spots) → Reads stream ms old new → Leaves (held_at old) (held_at new) ms s s
unfolding Reads
leaves_reads stream [] old new s r = subst (λ (x : Lane). Leaves (held_at old) (held_at x) [] s s) (sym r) (leaves_none (held_at old) s)
leaves_reads stream (m ∷ ms) old new s r =
    leaves_more (held_at old) (held_at r.0) (held_at new) (m ∷ []) ms s s s
    (leaves_read _ m old r.0 s r.1.read) (leaves_reads stream ms r.0 new s r.2)

-- of a message that is not held nothing is
pub none_held : (lane : Lane) (n : ℕ) → trees.get nat_cmp lane.parts n ≡ None → [] ≡ held_at lane n
none_held lane n e = sym (ap held e)

-- what leaves of a lane leaves of all lanes
module _ (key : ℕ) (old new : BTreeMap ℕ Lane) (a b : Lane) (own_old : (n : ℕ) → held_of old (key, n) ≡ held_at a n)
    (own_new : (n : ℕ) → held_of new (key, n) ≡ held_at b n)
    (others : (k : ℕ) → nat_eq k key ≡ false → trees.get nat_cmp new k ≡ trees.get nat_cmp old k) where
  was_of : (k : ℕ × ℕ) → k.0 ≡ key → held_of old k ≡ held_at a k.1
  was_of (q, n) e = subst (λ (x : ℕ). held_of old (x, n) ≡ held_at a n) (sym e) (own_old n)

  is_in : (k : ℕ × ℕ) → k.0 ≡ key → held_of new k ≡ held_at b k.1
  is_in (q, n) e = subst (λ (x : ℕ). held_of new (x, n) ≡ held_at b n) (sym e) (own_new n)

  other : (k : ℕ × ℕ) → (k.0 ≡ key → ⊥) → held_of new k ≡ held_of old k
  other (q, n) e = ap (λ (o : Option Lane). held_in o n) (others q (ne_eqb q key e))

  pub leaves_lanes : (ms : List Whole) (s mid : Spots) → Leaves (held_at a) (held_at b) ms s mid → Leaves (held_of old) (held_of new) ms s mid
  leaves_lanes ms s mid l = record {
    still = λ k. elim (cases_eq k.0 key) [
      | inl same ↦ elim (l.still k.1) [ inl e ↦ inl (is_in k same ∙ e ∙ sym (was_of k same)) | inr e ↦ inr (is_in k same ∙ e) ]
      | inr differ ↦ inl (other k differ)
    ];
    read = All-weaker (λ (m : Whole). (n : ℕ) × (m.fragments.entries ≡ held_at a n) × (held_at b n ≡ []))
        (λ (m : Whole). (k : ℕ × ℕ) × (m.fragments.entries ≡ held_of old k) × (held_of new k ≡ []))
        (λ m r. ((key, r.0), r.1 ∙ sym (own_old r.0), own_new r.0 ∙ r.2)) ms l.read;
    gone = λ t k has none. elim (cases_eq k.0 key) [
      | inl same ↦ l.gone t k.1 (sym (ap (λ (xs : Held). has_tsn xs t) (was_of k same)) ∙ has) (sym (is_in k same) ∙ none)
      | inr differ ↦ absurd (has_none (held_of old k) t (sym (other k differ) ∙ none) has)
    ];
    stay = λ t same. l.stay t (λ n has. sym (own_new n) ∙ same (key, n) (ap (λ (xs : Held). has_tsn xs t) (own_old n) ∙ has) ∙ own_old n);
    none = l.none;
  }

-- and then no message is read
pub leaves_then : {K : Type 0} (f g h : K → Held) (ms : List Whole) (s mid new : Spots) → Leaves f g ms s mid → Leaves g h [] mid new → Leaves f h ms s new
leaves_then f g h ms s mid new one two = subst (λ (xs : List Whole). Leaves f h xs s new) (append-nil ms) (leaves_more f g h ms [] s mid new one two)

-- no TSN is noted up to one
pub none_up_to : (tsn : ℕ) (s : Spots) → NoneUpTo tsn s → (t : ℕ) → t < 4294967296 → at_or_before t tsn ≡ true → at s t ≡ None
none_up_to tsn s none t fits early = by (at s t) refl
  where
    by : (o : Option Spot) → at s t ≡ o → at s t ≡ None
    by None e = e
    by (Some x) e = absurd (false≢true (sym (none t fits (ap is_some e)) ∙ early))
