-- Streams that a FORWARD-TSN visits one after another, the last one first: each is left as it is, or changes and is visited no more, or changes and
-- is visited again.
use Rattle.sctp_receiver.proofs.Names.{◌≡◌, ℕ, ◌+◌, ◌<◌, ◌≤◌, Bool, true, false, List, length, length-set, map, Option, Some, None, refl, ap, sym}
use Rattle.sctp_receiver.proofs.Names.{◌∙◌, subst, arith, ◌==◌, if◌then◌else◌, slice_get, slice_set, lt-ltb, le-ltb, slice_get_within}
use Rattle.sctp_receiver.proofs.Names.{eq-eqb, by_same, some-same, not_both, AreInverse, VisitOrder, is_spot_before, is_visited, swapped}
use Rattle.sctp_receiver.specs.declared.receiver.spans.TsnSpan.{TsnSpan}
use Rattle.sctp_receiver.proofs.VisitOrders.{set-here, set-there, other-swapped}
use Rattle.sctp_receiver.proofs.Visiting.{mapped-by, next-spot, OthersHoldNone, VisitedHoldAny}

module _ {X : Type 0} (f : X → X) (any inc : X → Bool) (out : TsnSpan → X → Bool) (u : VisitOrder) (xs : List X) where
  -- the place is one of those that are left
  abbrev pub is_left : ℕ → ℕ → Bool
  is_left left p = is_spot_before left (slice_get u.spots p)

  -- what was made of all, where so many spots are left
  pub record Going (left : ℕ) (v : VisitOrder) (ys : List X) : Type 0 where
    pub inverse : AreInverse v.order v.spots
    pub places : length v.spots ≡ length ys
    pub same : length ys ≡ length xs
    pub within : left ≤ v.count
    pub prefix : (k : ℕ) → k < left → slice_get v.order k ≡ slice_get u.order k
    pub so_far : (p : ℕ) (x : X) → slice_get xs p ≡ Some x → slice_get ys p ≡ Some (if is_left left p then x else f x)
    pub others : OthersHoldNone any inc v ys
    pub visited : (p : ℕ) (y : X) → slice_get ys p ≡ Some y → is_visited p v ≡ true → is_left left p ≡ false → any y ≡ true
    pub spans : (p : ℕ) (s : TsnSpan) (y : X) → slice_get v.spans p ≡ Some s → slice_get ys p ≡ Some y → out s y ≡ false
    pub kept : (p : ℕ) → is_left left p ≡ true → slice_get v.spans p ≡ slice_get u.spans p

  module _ (inverse : AreInverse u.order u.spots) where
    pub going-all : length u.spots ≡ length xs → OthersHoldNone any inc u xs
        → ((p : ℕ) (s : TsnSpan) (x : X) → slice_get u.spans p ≡ Some s → slice_get xs p ≡ Some x → out s x ≡ false)
        → ((x : X) → inc x ≡ false → f x ≡ x) → Going u.count u xs
    going-all places others spans stays = record {
      inverse = inverse;
      places = places;
      same = refl;
      within = omega arith;
      prefix = λ k lt. refl;
      so_far = λ p x e. e ∙ unvisited p x (is_visited p u) (λ h. stays x (others p x e h)) refl;
      others = others;
      visited = λ p y e yes no. absurd (not_both (sym no ∙ yes));
      spans = spans;
      kept = λ p h. refl;
    }
      where
        unvisited : (p : ℕ) (x : X) (b : Bool) → (is_visited p u ≡ false → f x ≡ x) → is_visited p u ≡ b → Some x ≡ Some (if is_visited p u then x else f x)
        unvisited p x true stays h = ap (λ b. Some (if b then x else f x)) (sym h)
        unvisited p x false stays h = ap Some (sym (stays h)) ∙ ap (λ b. Some (if b then x else f x)) (sym h)

    -- no spot is left
    none-left : (o : Option ℕ) → is_spot_before 0 o ≡ false
    none-left None = refl
    none-left (Some i) = le-ltb i 0 (omega arith)

    pub gone-all : (v : VisitOrder) (ys : List X) → Going 0 v ys → ys ≡ map f xs
    gone-all v ys g = mapped-by f xs ys g.same (λ p x e. g.so_far p x e ∙ ap (λ b. Some (if b then x else f x)) (none-left (slice_get u.spots p)))

    pub gone-visited : (v : VisitOrder) (ys : List X) → Going 0 v ys → VisitedHoldAny any inc v ys
    gone-visited v ys g p y e h = g.visited p y e h (none-left (slice_get u.spots p))

    module _ (m k : ℕ) (v : VisitOrder) (ys : List X) (g : Going (m + 1) v ys) (at : slice_get v.order m ≡ Some k) where
      spot : slice_get u.spots k ≡ Some m
      spot = (inverse m k).0 (sym (g.prefix m (omega arith)) ∙ at)

      left : is_left (m + 1) k ≡ true
      left = ap (is_spot_before (m + 1)) spot ∙ lt-ltb m (m + 1) (omega arith)

      no-more : is_left m k ≡ false
      no-more = ap (is_spot_before m) spot ∙ le-ltb m m (omega arith)

      -- the other places are left as they were
      others-left : (p : ℕ) → (p ≡ k → ⊥) → is_left m p ≡ is_left (m + 1) p
      others-left p ne = next-spot m (slice_get u.spots p) (λ e. ne (some-same (sym ((inverse m p).1 e) ∙ (inverse m k).1 spot)))

      stays-left : (p : ℕ) → is_left m p ≡ true → is_left (m + 1) p ≡ true
      stays-left p h = by_same p k (λ e. absurd (not_both (sym no-more ∙ ap (is_left m) (sym e) ∙ h))) (λ ne _. sym (others-left p ne) ∙ h)

      -- it is visited still, and its span is the one from before
      pub still-visited : is_visited k v ≡ true
      still-visited =
          let here : slice_get v.spots k ≡ Some m = (g.inverse m k).0 at in
          ap (is_spot_before v.count) here ∙ lt-ltb m v.count (omega (arith, g.within))

      pub was-visited : m < u.count → is_visited k u ≡ true
      was-visited lt = ap (is_spot_before u.count) spot ∙ lt-ltb m u.count lt

      pub same-span : slice_get v.spans k ≡ slice_get u.spans k
      same-span = g.kept k left

      pub same-stream : (x : X) → slice_get xs k ≡ Some x → slice_get ys k ≡ Some x
      same-stream x e = g.so_far k x e ∙ ap (λ b. Some (if b then x else f x)) left

      pub in-range : k < length ys
      in-range = let h = slice_get_within v.spots k m ((g.inverse m k).0 at) in omega (arith, h, g.places)

      -- it is as it was
      pub going-past : (x : X) → slice_get xs k ≡ Some x → f x ≡ x → any x ≡ true → Going m v ys
      going-past x here same holds = record {
        inverse = g.inverse;
        places = g.places;
        same = g.same;
        within = omega (arith, g.within);
        prefix = λ j lt. g.prefix j (omega (arith, lt));
        so_far = λ p z e. by_same p k
            (λ q. let is : z ≡ x = some-same (sym e ∙ ap (slice_get xs) q ∙ here) in
            let unmoved : f z ≡ z = ap f is ∙ same ∙ sym is in
            ap (slice_get ys) q ∙ same-stream x here ∙ ap Some (sym is) ∙ either z (is_left m p) unmoved)
            (λ ne _. g.so_far p z e ∙ ap (λ b. Some (if b then z else f z)) (sym (others-left p ne)));
        others = g.others;
        visited = λ p y e yes no. by_same p k
            (λ q. ap any (some-same (sym e ∙ ap (slice_get ys) q ∙ same-stream x here)) ∙ holds)
            (λ ne _. g.visited p y e yes (sym (others-left p ne) ∙ no));
        spans = g.spans;
        kept = λ p h. g.kept p (stays-left p h);
      }
        where
          either : (z : X) (b : Bool) → f z ≡ z → Some z ≡ Some (if b then z else f z)
          either z true e = refl
          either z false e = ap Some (sym e)

      module _ (x : X) (here : slice_get xs k ≡ Some x) (w : VisitOrder) (zs : List X) (made : zs ≡ slice_set ys k (f x)) where
        lt : k < length ys
        lt = in-range

        at-it : slice_get zs k ≡ Some (f x)
        at-it = ap (λ l. slice_get l k) made ∙ set-here ys k (f x) lt

        elsewhere : (p : ℕ) → (p ≡ k → ⊥) → slice_get zs p ≡ slice_get ys p
        elsewhere p ne = ap (λ l. slice_get l p) made ∙ set-there ys k p (f x) ne

        changed : (p : ℕ) (z : X) → slice_get xs p ≡ Some z → slice_get zs p ≡ Some (if is_left m p then z else f z)
        changed p z e = by_same p k
            (λ q. let is : x ≡ z = some-same (sym here ∙ ap (slice_get xs) (sym q) ∙ e) in
            ap (slice_get zs) q ∙ at-it ∙ ap (λ y. Some (f y)) is ∙ ap (λ b. Some (if b then z else f z)) (sym (ap (is_left m) q ∙ no-more)))
            (λ ne _. elsewhere p ne ∙ g.so_far p z e ∙ ap (λ b. Some (if b then z else f z)) (sym (others-left p ne)))

        many : length zs ≡ length ys
        many = ap length made ∙ length-set ys k (f x)

        -- it is visited again
        pub going-again : (s : TsnSpan) → w ≡ record v { spans = slice_set v.spans k s } → k < length v.spans → any (f x) ≡ true → out s (f x) ≡ false
            → Going m w zs
        going-again s is few holds inside = record {
          inverse = subst (λ (o : VisitOrder). AreInverse o.order o.spots) (sym is) g.inverse;
          places = ap (λ (o : VisitOrder). length o.spots) is ∙ g.places ∙ sym many;
          same = many ∙ g.same;
          within = omega (arith, g.within, ap (λ (o : VisitOrder). o.count) is);
          prefix = λ j less. ap (λ (o : VisitOrder). slice_get o.order j) is ∙ g.prefix j (omega (arith, less));
          so_far = changed;
          others = λ p y e h. by_same p k
              (λ q. absurd (not_both (sym h ∙ ap (is_visited p) is ∙ ap (λ j. is_visited j v) q ∙ still-visited)))
              (λ ne _. g.others p y (sym (elsewhere p ne) ∙ e) (sym (ap (is_visited p) is) ∙ h));
          visited = λ p y e yes no. by_same p k
              (λ q. ap any (some-same (sym e ∙ ap (slice_get zs) q ∙ at-it)) ∙ holds)
              (λ ne _. g.visited p y (sym (elsewhere p ne) ∙ e) (sym (ap (is_visited p) is) ∙ yes) (sym (others-left p ne) ∙ no));
          spans = λ p t y ts e. by_same p k
              (λ q. let a : t ≡ s = some-same (sym ts ∙ ap (slice_get w.spans) q
              ∙ ap (λ (o : VisitOrder). slice_get o.spans k) is ∙ set-here v.spans k s few) in
              let b : y ≡ f x = some-same (sym e ∙ ap (slice_get zs) q ∙ at-it) in
              ap (λ r. out r y) a ∙ ap (out s) b ∙ inside)
              (λ ne _. g.spans p t y (sym (set-there v.spans k p s ne) ∙ sym (ap (λ (o : VisitOrder). slice_get o.spans p) is) ∙ ts)
              (sym (elsewhere p ne) ∙ e));
          kept = λ p h. by_same p k
              (λ q. absurd (not_both (sym no-more ∙ ap (is_left m) (sym q) ∙ h)))
              (λ ne _. ap (λ (o : VisitOrder). slice_get o.spans p) is ∙ set-there v.spans k p s ne ∙ g.kept p (stays-left p h));
        }

        -- it is visited no more
        pub going-off : (visited : (p : ℕ) → is_visited p w ≡ (if p == k then false else is_visited p v)) → length w.spots ≡ length v.spots
            → (is_visited k v ≡ true → w.count + 1 ≡ v.count)
            → ((i j : ℕ) → slice_get v.spots k ≡ Some i → i < v.count → slice_get w.order j ≡ slice_get v.order (swapped i w.count j))
            → AreInverse w.order w.spots → w.spans ≡ v.spans → inc (f x) ≡ false
            → ((s : TsnSpan) → slice_get v.spans k ≡ Some s → out s (f x) ≡ false) → Going m w zs
        going-off visited places count moved turned same none inside =
            let n = count still-visited in
            let left : m ≤ w.count = omega (arith, n, g.within) in
            record {
              inverse = turned;
              places = places ∙ g.places ∙ sym many;
              same = many ∙ g.same;
              within = left;
              prefix = λ j less. moved m j ((g.inverse m k).0 at) (omega (arith, g.within))
                  ∙ ap (slice_get v.order) (other-swapped m w.count j (λ z. omega (arith, z, less)) (λ z. omega (arith, z, less, left)))
                  ∙ g.prefix j (omega (arith, less));
              so_far = changed;
              others = λ p y e h. by_same p k
                  (λ q. ap inc (some-same (sym e ∙ ap (slice_get zs) q ∙ at-it)) ∙ none)
                  (λ ne t. g.others p y (sym (elsewhere p ne) ∙ e) (sym (visited p ∙ ap (λ b. if b then false else is_visited p v) t) ∙ h));
              visited = λ p y e yes no. by_same p k
                  (λ q. absurd (not_both (sym (ap (λ b. if b then false else is_visited p v) (eq-eqb p k q)) ∙ sym (visited p) ∙ yes)))
                  (λ ne t. g.visited p y (sym (elsewhere p ne) ∙ e) (sym (visited p ∙ ap (λ b. if b then false else is_visited p v) t) ∙ yes)
                  (sym (others-left p ne) ∙ no));
              spans = λ p s y ts e. by_same p k
                  (λ q. ap (out s) (some-same (sym e ∙ ap (slice_get zs) q ∙ at-it))
                  ∙ inside s (ap (slice_get v.spans) (sym q) ∙ sym (ap (λ l. slice_get l p) same) ∙ ts))
                  (λ ne _. g.spans p s y (sym (ap (λ l. slice_get l p) same) ∙ ts) (sym (elsewhere p ne) ∙ e));
              kept = λ p h. ap (λ l. slice_get l p) same ∙ g.kept p (stays-left p h);
            }
