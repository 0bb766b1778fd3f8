-- The ordered messages of a stream are read in the order of their writes.
use Rattle.sctp_delivery.proofs.Names.{common_steps, nat_tests, ◌≡◌, ℕ, zero, suc, ◌<◌, ◌≤◌, true, false, List, [], ◌∷◌, inl, inr, ap, sym, subst, ◌∙◌, arith}
use Rattle.sctp_delivery.proofs.Names.{◌+◌, Bool, refl, All, AllPairs, if◌then◌else◌, not_both, ChunkPayloadData, ⊤, data_of, Message, pairs_cons}
use Rattle.std.proofs.Common.{◌⊎◌}
use Rattle.sctp_delivery.specs.Order.{is_ordered_on, places_where}
use Rattle.sctp_delivery.proofs.Begun.{AreOnce}
use Rattle.sctp_delivery.proofs.Delivered.{IsReadOf}
use Rattle.sctp_delivery.proofs.OnceWritten.{one-begun, EachRead, places}
use Rattle.sctp_delivery.proofs.OrderedEntries.{AreRising, IsUnder, begun_on, part-fewer}
use Rattle.sctp_delivery.proofs.OrderedPlaces.{AreNumbered, place-at}
use Rattle.sctp_delivery.proofs.Sent.{Entry, IsPart, Numbered, fragment, part-itself, terminal}
use Rattle.sctp_delivery.proofs.OrderedMessages.{is_in_order}
use Rattle.sctp_delivery.proofs.UnwrappedHolds.{Where}

-- ## Parts of the line

part-rising : (xs ys : List Entry) → IsPart ys xs → AreRising xs → AreRising ys
part-rising [] ys p r = subst AreRising (sym p) r
part-rising (x ∷ xs) ys (inl e) r = subst AreRising (sym e) r
part-rising (terminal ∷ xs) ys (inr p) r = part-rising xs ys p r
part-rising (fragment d w after ∷ xs) ys (inr p) r = part-rising xs ys p r.1

part-under : (n : ℕ) (xs ys : List Entry) → IsPart ys xs → IsUnder n xs → IsUnder n ys
part-under n [] ys p u = subst (IsUnder n) (sym p) u
part-under n (x ∷ xs) ys (inl e) u = subst (IsUnder n) (sym e) u
part-under n (terminal ∷ xs) ys (inr p) u = part-under n xs ys p u
part-under n (fragment d w after ∷ xs) ys (inr p) u = part-under n xs ys p u.1

-- one of two parts is a part of the other
parts-meet : (sent ys zs : List Entry) → IsPart ys sent → IsPart zs sent → IsPart ys zs ⊎ IsPart zs ys
parts-meet [] ys zs p q = inl (subst (λ t. IsPart t zs) (q ∙ sym p) (part-itself zs))
parts-meet (x ∷ xs) ys zs (inl p) (inl q) = inl (subst (λ t. IsPart t zs) (q ∙ sym p) (part-itself zs))
parts-meet (x ∷ xs) ys zs (inl p) (inr q) = inr (subst (IsPart zs) (sym p) (inr q))
parts-meet (x ∷ xs) ys zs (inr p) (inl q) = inl (subst (IsPart ys) (sym q) (inr p))
parts-meet (x ∷ xs) ys zs (inr p) (inr q) = parts-meet xs ys zs p q

-- ## Messages

pub all-cons : (P : ℕ → Type 0) (x : ℕ) (xs : List ℕ) → P x → All P xs → All P (x ∷ xs)
all-cons P x xs h a zero d lt = h
all-cons P x xs h a (suc k) d lt = a k d (omega (arith, lt))

-- an ordered message begins with an ordered chunk
pub starts : (st : ℕ) (m : Message) (c : ChunkPayloadData) (cs : List ChunkPayloadData) → m.fragments ≡ c ∷ cs → is_ordered_on st m ≡ true
    → (m.stream ≡ st) × (c.unordered ≡ false) × (is_in_order st m ≡ true)
starts st m c cs is e = grind (arith, nat_tests, common_steps)

-- the line up to the first chunk of a message
abbrev pub up_to : (ns : List Numbered) (sent : List Entry) (m : Message) → IsReadOf ns sent m → List Entry
up_to ns sent m x = fragment (data_of x.chunk) x.numbered x.after ∷ x.entries

-- of two ordered messages the one with the greater index was written later
module _ (ns : List Numbered) (sent : List Entry) (once : AreOnce sent) (rising : AreRising sent) (numbered : AreNumbered ns) (st : ℕ) (m o : Message)
    (x : IsReadOf ns sent m) (y : IsReadOf ns sent o) (kx : x.chunk.unordered ≡ false) (ky : y.chunk.unordered ≡ false)
    (more : begun_on st (up_to ns sent o y) < begun_on st (up_to ns sent m x)) where
  behind : IsPart (up_to ns sent o y) (up_to ns sent m x) → y.numbered.place ≤ x.numbered.place
  behind (inl e) = absurd (let f = ap (begun_on st) e in let g = more in omega (arith, f, g))
  behind (inr q) =
      (part-under x.numbered.place x.entries (up_to ns sent o y) q ((part-rising sent (up_to ns sent m x) x.part rising).0 kx)).0 ky

  either : IsPart (up_to ns sent m x) (up_to ns sent o y) ⊎ IsPart (up_to ns sent o y) (up_to ns sent m x) → y.numbered.place ≤ x.numbered.place
  either (inl p) = absurd (let f = part-fewer st (up_to ns sent o y) (up_to ns sent m x) p in let g = more in omega (arith, f, g))
  either (inr p) = behind p

  differ : x.numbered.place ≡ y.numbered.place → ⊥
  differ same = grind (arith, nat_tests, common_steps, one-begun)

  pub before : x.written.0 < y.written.0
  before = grind (arith, place-at, either, parts-meet, differ)

-- # The ordered messages of a stream are read in the order of their writes.

module _ (st : ℕ) (ns : List Numbered) (sent : List Entry) (once : AreOnce sent) (rising : AreRising sent) (numbered : AreNumbered ns)
    (T : Message → ℕ → Bool)
    (starts' : (m : Message) (x : IsReadOf ns sent m) → T m x.written.0 ≡ true → (x.chunk.unordered ≡ false) × (is_in_order st m ≡ true)) where
  -- the message is the ordered one of this index
  abbrev pub IsIndexOf : (m : Message) → IsReadOf ns sent m → ℕ → Type 0
  IsIndexOf m x i = begun_on st (up_to ns sent m x) ≡ i + 1

  -- the ordered messages of the stream have indexes below this one, each later one a greater one
  abbrev pub AreIndexedBelow : ℕ → (ms : List Message) → EachRead ns sent once ms → Type 0
  AreIndexedBelow k [] e = ⊤
  AreIndexedBelow k (m ∷ ms) e =
      Where (is_in_order st m) ((i : ℕ) × (i < k) × IsIndexOf m e.0 i × AreIndexedBelow i ms e.1) (AreIndexedBelow k ms e.1)

  -- an ordered message, and those that were read before it
  module _ (m : Message) (x : IsReadOf ns sent m) (i : ℕ) (h : IsIndexOf m x i) (kx : x.chunk.unordered ≡ false) where
    away : (k : ℕ) (ms : List Message) (e : EachRead ns sent once ms) → k ≤ i → AreIndexedBelow k ms e
        → All (λ q. x.written.0 < q) (places_where T ms (places ns sent once ms e))
    away k [] e le t = λ j d lt. absurd (omega (arith, lt))
    away k (o ∷ os) e le t = by (T o e.0.written.0) refl (is_in_order st o) refl t (λ j l u. away j os e.1 l u)
      where
        by : (b : Bool) → T o e.0.written.0 ≡ b → (c : Bool) → is_in_order st o ≡ c
            → Where c ((j : ℕ) × (j < k) × IsIndexOf o e.0 j × AreIndexedBelow j os e.1) (AreIndexedBelow k os e.1)
            → ((j : ℕ) → j ≤ i → AreIndexedBelow j os e.1 → All (λ q. x.written.0 < q) (places_where T os (places ns sent once os e.1)))
            → All (λ q. x.written.0 < q) (if b then e.0.written.0 ∷ places_where T os (places ns sent once os e.1) else places_where T os
            (places ns sent once os e.1))
        by true f false g u ih = absurd (not_both (sym g ∙ (starts' o e.0 f).1))
        by true f true g u ih =
            let s = starts' o e.0 f in
            let lt = u.1 in
            let is = u.2 in
            all-cons (λ q. x.written.0 < q) e.0.written.0 (places_where T os (places ns sent once os e.1))
            (before ns sent once rising numbered st m o x e.0 kx s.0 (omega (arith, h, is, lt, le))) (ih u.0 (omega (arith, le)) u.3)
        by false f true g u ih = let l = u.1 in ih u.0 (omega (arith, l, le)) u.3
        by false f false g u ih = ih k le u

  pub in-order-by : (k : ℕ) (ms : List Message) (e : EachRead ns sent once ms) → AreIndexedBelow k ms e
      → AllPairs (λ p q. p < q) (places_where T ms (places ns sent once ms e))
  in-order-by k [] e t = λ i j d lt short. absurd (omega (arith, short))
  in-order-by k (m ∷ ms) e t = by (T m e.0.written.0) refl (is_in_order st m) refl t (λ j u. in-order-by j ms e.1 u)
    where
      by : (b : Bool) → T m e.0.written.0 ≡ b → (c : Bool) → is_in_order st m ≡ c
          → Where c ((j : ℕ) × (j < k) × IsIndexOf m e.0 j × AreIndexedBelow j ms e.1) (AreIndexedBelow k ms e.1)
          → ((j : ℕ) → AreIndexedBelow j ms e.1 → AllPairs (λ p q. p < q) (places_where T ms (places ns sent once ms e.1)))
          → AllPairs (λ p q. p < q) (if b then e.0.written.0 ∷ places_where T ms (places ns sent once ms e.1) else places_where T ms
          (places ns sent once ms e.1))
      by true f false g u ih = absurd (not_both (sym g ∙ (starts' m e.0 f).1))
      by true f true g u ih =
          let s = starts' m e.0 f in
          pairs_cons (λ p q. p < q) e.0.written.0 (places_where T ms (places ns sent once ms e.1))
          (away m e.0 u.0 u.2 s.0 u.0 ms e.1 (omega arith) u.3) (ih u.0 u.3)
      by false f true g u ih = ih u.0 u.3
      by false f false g u ih = ih k u
