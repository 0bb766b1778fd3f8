-- Chunks in flight of a sender that keeps what is reported, beside those that it would have if no gap ack block were taken.
use Rattle.sctp_delivery.proofs.Names.{nat_tests, common_steps, ◌≡◌, ℕ, zero, suc, Bool, true, false, List, [], ◌∷◌, ◌++◌, length, map, take, drop, refl, ap}
use Rattle.sctp_delivery.proofs.Names.{ap₂, sym, ◌∙◌, arith, Option, Some, None, option_map, if◌then◌else◌, ◌||◌, filter, find, change_where, list_any}
use Rattle.sctp_delivery.proofs.Names.{length-map, ChunkPayloadData, Sack, as_abandoned, as_acknowledged, reports_anew, tsns, at_or_before, last_of}
use Rattle.sctp_sender.specs.Keeping.{back_each, back_of, keep, keep_each, restored, restored_with, trimmed}
use Rattle.sctp_delivery.proofs.Cases.{at-if}
use Rattle.sctp_delivery.proofs.Every.{Every}

-- ## One chunk

-- without what SACKs change, and its user data
abbrev pub plain : ChunkPayloadData → ChunkPayloadData
plain c = record c { acked = false; retransmit = false; miss_indicator = 0; user_data = [] }

-- the second is the first as it would be: it is not acknowledged, and has its bytes. The first has them too, or they are kept
pub record IsLike (k : Option (List ℕ)) (c d : ChunkPayloadData) : Type 0 where
  pub same : plain c ≡ plain d
  pub open' : d.acked ≡ false
  pub whole : c.acked ≡ false → c.user_data ≡ d.user_data
  pub kept : c.acked ≡ true → c.abandoned ≡ false → (bytes : List ℕ) → k ≡ Some bytes → bytes ≡ d.user_data
  pub settled : c.acked ≡ true → length c.user_data ≡ 0

-- a chunk that is not acknowledged is like itself, whatever is kept
pub like-itself : (k : Option (List ℕ)) (c : ChunkPayloadData) → c.acked ≡ false → IsLike k c c
like-itself k c e = grind (arith, nat_tests, common_steps)

pub like-abandoned : (k : Option (List ℕ)) (c d : ChunkPayloadData) → IsLike k c d → IsLike k (as_abandoned c) (as_abandoned d)
like-abandoned k c d i = grind (arith, nat_tests, common_steps)

-- ## All chunks, place by place

abbrev pub first_of : List (Option (List ℕ)) → Option (List ℕ)
first_of [] = None
first_of (k ∷ ks) = k

abbrev pub rest_of : List (Option (List ℕ)) → List (Option (List ℕ))
rest_of [] = []
rest_of (k ∷ ks) = ks

abbrev pub Relation : Type 1
Relation = Option (List ℕ) → ChunkPayloadData → ChunkPayloadData → Type 0

abbrev pub Are : Relation → List (Option (List ℕ)) → List ChunkPayloadData → List ChunkPayloadData → Type 0
Are R ks [] [] = Unit {0}
Are R ks [] (d ∷ ds) = ⊥
Are R ks (c ∷ cs) [] = ⊥
Are R ks (c ∷ cs) (d ∷ ds) = R (first_of ks) c d × Are R (rest_of ks) cs ds

module _ (R : Relation) where
  pub are-mapped : {B : Type 0} (f g : ChunkPayloadData → B) → ((k : Option (List ℕ)) (c d : ChunkPayloadData) → R k c d → f c ≡ g d)
      → (ks : List (Option (List ℕ))) (cs ds : List ChunkPayloadData) → Are R ks cs ds → map f cs ≡ map g ds
  are-mapped f g h ks [] [] a = refl
  are-mapped f g h ks [] (d ∷ ds) a = absurd a
  are-mapped f g h ks (c ∷ cs) [] a = absurd a
  are-mapped f g h ks (c ∷ cs) (d ∷ ds) a = ap₂ (λ x xs. x ∷ xs) (h (first_of ks) c d a.0) (are-mapped f g h (rest_of ks) cs ds a.1)

  pub are-behind : (x y : ChunkPayloadData) → ((k : Option (List ℕ)) → R k x y) → (ks : List (Option (List ℕ))) (cs ds : List ChunkPayloadData) → Are R ks cs ds
      → Are R ks (cs ++ x ∷ []) (ds ++ y ∷ [])
  are-behind x y h ks [] [] a = (h (first_of ks), tt)
  are-behind x y h ks [] (d ∷ ds) a = absurd a
  are-behind x y h ks (c ∷ cs) [] a = absurd a
  are-behind x y h ks (c ∷ cs) (d ∷ ds) a = (a.0, are-behind x y h (rest_of ks) cs ds a.1)

  pub are-changed : (p q : ChunkPayloadData → Bool) (f g : ChunkPayloadData → ChunkPayloadData)
      → ((k : Option (List ℕ)) (c d : ChunkPayloadData) → R k c d → q d ≡ p c) → ((k : Option (List ℕ)) (c d : ChunkPayloadData) → R k c d → R k (f c) (g d))
      → (ks : List (Option (List ℕ))) (cs ds : List ChunkPayloadData) → Are R ks cs ds → Are R ks (change_where p f cs) (change_where q g ds)
  are-changed p q f g same h ks [] [] a = tt
  are-changed p q f g same h ks [] (d ∷ ds) a = absurd a
  are-changed p q f g same h ks (c ∷ cs) [] a = absurd a
  are-changed p q f g same h ks (c ∷ cs) (d ∷ ds) a = grind (arith, nat_tests, common_steps, are-changed p q f g same h (rest_of ks) cs ds a.1)

  -- where the others stay
  pub are-marked : (p : ChunkPayloadData → Bool) (f : ChunkPayloadData → ChunkPayloadData) → ((k : Option (List ℕ)) (c d : ChunkPayloadData) → R k c d
      → R k (f c) d) → (ks : List (Option (List ℕ))) (cs ds : List ChunkPayloadData) → Are R ks cs ds → Are R ks (change_where p f cs) ds
  are-marked p f h ks [] [] a = tt
  are-marked p f h ks [] (d ∷ ds) a = absurd a
  are-marked p f h ks (c ∷ cs) [] a = absurd a
  are-marked p f h ks (c ∷ cs) (d ∷ ds) a =
      (at-if (λ x. R (first_of ks) x d) (p c) (λ _. h (first_of ks) c d a.0) (λ _. a.0), are-marked p f h (rest_of ks) cs ds a.1)

  pub are-part-marked : (p : ChunkPayloadData → Bool) (f : ChunkPayloadData → ChunkPayloadData)
      → ((k : Option (List ℕ)) (c d : ChunkPayloadData) → R k c d → R k (f c) d) → (n : ℕ) (ks : List (Option (List ℕ))) (cs ds : List ChunkPayloadData)
      → Are R ks cs ds → Are R ks (change_where p f (take n cs) ++ drop n cs) ds
  are-part-marked p f h zero ks cs ds a = a
  are-part-marked p f h (suc n) ks [] [] a = tt
  are-part-marked p f h (suc n) ks [] (d ∷ ds) a = absurd a
  are-part-marked p f h (suc n) ks (c ∷ cs) [] a = absurd a
  are-part-marked p f h (suc n) ks (c ∷ cs) (d ∷ ds) a =
      (at-if (λ x. R (first_of ks) x d) (p c) (λ _. h (first_of ks) c d a.0) (λ _. a.0), are-part-marked p f h n (rest_of ks) cs ds a.1)

  pub are-left : (n : ℕ) (ks : List (Option (List ℕ))) (cs ds : List ChunkPayloadData) → Are R ks cs ds → Are R (drop n ks) (drop n cs) (drop n ds)
  are-left zero ks cs ds a = a
  are-left (suc n) ks [] [] a = tt
  are-left (suc n) ks [] (d ∷ ds) a = absurd a
  are-left (suc n) ks (c ∷ cs) [] a = absurd a
  are-left (suc n) ks (c ∷ cs) (d ∷ ds) a = grind (arith, nat_tests, common_steps, are-left n (rest_of ks) cs ds a.1)

  pub are-trimmed : (ks : List (Option (List ℕ))) (cs ds : List ChunkPayloadData) → Are R ks cs ds → Are R (trimmed ks) cs ds
  are-trimmed [] cs ds a = a
  are-trimmed (k ∷ ks) [] [] a = tt
  are-trimmed (k ∷ ks) [] (d ∷ ds) a = absurd a
  are-trimmed (k ∷ ks) (c ∷ cs) [] a = absurd a
  are-trimmed (k ∷ ks) (c ∷ cs) (d ∷ ds) a = grind (arith, nat_tests, common_steps, are-trimmed ks cs ds a.1)

  -- where each of the others is so
  pub are-so : (S : Relation) (Q : ChunkPayloadData → Type 0) → ((k : Option (List ℕ)) (c d : ChunkPayloadData) → R k c d → Q d → S k c d)
      → (ks : List (Option (List ℕ))) (cs ds : List ChunkPayloadData) → Are R ks cs ds → Every Q ds → Are S ks cs ds
  are-so S Q h ks [] [] a e = tt
  are-so S Q h ks [] (d ∷ ds) a e = absurd a
  are-so S Q h ks (c ∷ cs) [] a e = absurd a
  are-so S Q h ks (c ∷ cs) (d ∷ ds) a e = (h (first_of ks) c d a.0 e.0, are-so S Q h (rest_of ks) cs ds a.1 e.1)

abbrev pub AreLike : List (Option (List ℕ)) → List ChunkPayloadData → List ChunkPayloadData → Type 0
AreLike ks cs ds = Are IsLike ks cs ds

pub are-plain : (ks : List (Option (List ℕ))) (cs ds : List ChunkPayloadData) → AreLike ks cs ds → map plain cs ≡ map plain ds
are-plain ks cs ds a = are-mapped IsLike plain plain (λ k c d i. i.same) ks cs ds a

pub are-tsns : (ks : List (Option (List ℕ))) (cs ds : List ChunkPayloadData) → AreLike ks cs ds → tsns cs ≡ tsns ds
are-tsns ks cs ds a = are-mapped IsLike (λ c. c.tsn) (λ c. c.tsn) (λ k c d i. ap (λ (x : ChunkPayloadData). x.tsn) i.same) ks cs ds a

pub are-long : (ks : List (Option (List ℕ))) (cs ds : List ChunkPayloadData) → AreLike ks cs ds → length cs ≡ length ds
are-long ks cs ds a = sym (length-map cs plain) ∙ ap length (are-plain ks cs ds a) ∙ length-map ds plain

-- what is so of each of the others is so of each of these
pub paired : (A B C : ChunkPayloadData → Type 0) → ((k : Option (List ℕ)) (c d : ChunkPayloadData) → IsLike k c d → A c → B d → C c)
    → (ks : List (Option (List ℕ))) (cs ds : List ChunkPayloadData) → AreLike ks cs ds → Every A cs → Every B ds → Every C cs
paired A B C h ks [] [] a e f = tt
paired A B C h ks [] (d ∷ ds) a e f = tt
paired A B C h ks (c ∷ cs) [] a e f = absurd a
paired A B C h ks (c ∷ cs) (d ∷ ds) a e f = (h (first_of ks) c d a.0 e.0 f.0, paired A B C h (rest_of ks) cs ds a.1 e.1 f.1)

-- ## What is found among chunks that are alike but for what SACKs change

module _ (p : ChunkPayloadData → Bool) (blind : (c : ChunkPayloadData) → p (plain c) ≡ p c) where
  find-plain : (cs : List ChunkPayloadData) → find p (map plain cs) ≡ option_map plain (find p cs)
  find-plain [] = refl
  find-plain (c ∷ cs) = grind (arith, nat_tests, common_steps, find-plain cs)

  pub filter-plain : (cs : List ChunkPayloadData) → filter p (map plain cs) ≡ map plain (filter p cs)
  filter-plain [] = refl
  filter-plain (c ∷ cs) = grind (arith, nat_tests, common_steps, filter-plain cs)

  pub found-plain : (cs ds : List ChunkPayloadData) → map plain cs ≡ map plain ds → option_map plain (find p cs) ≡ option_map plain (find p ds)
  found-plain cs ds e = sym (find-plain cs) ∙ ap (find p) e ∙ find-plain ds

  pub any-plain : (cs ds : List ChunkPayloadData) → map plain cs ≡ map plain ds → list_any p cs ≡ list_any p ds
  any-plain cs ds e = sym (one cs) ∙ ap (list_any p) e ∙ one ds
    where
      one : (xs : List ChunkPayloadData) → list_any p (map plain xs) ≡ list_any p xs
      one [] = refl
      one (x ∷ xs) = ap₂ (λ a b. a || b) (blind x) (one xs)

  pub passing-plain : (cs ds : List ChunkPayloadData) → map plain cs ≡ map plain ds → map plain (filter p cs) ≡ map plain (filter p ds)
  passing-plain cs ds e = sym (filter-plain cs) ∙ ap (filter p) e ∙ filter-plain ds

pub last-plain : (cs ds : List ChunkPayloadData) → map plain cs ≡ map plain ds → option_map plain (last_of cs) ≡ option_map plain (last_of ds)
last-plain cs ds e = sym (one cs) ∙ ap last_of e ∙ one ds
  where
    one : (xs : List ChunkPayloadData) → last_of (map plain xs) ≡ option_map plain (last_of xs)
    one [] = refl
    one (x ∷ []) = refl
    one (x ∷ y ∷ ys) = one (y ∷ ys)

pub take-plain : (n : ℕ) (cs ds : List ChunkPayloadData) → map plain cs ≡ map plain ds → map plain (take n cs) ≡ map plain (take n ds)
take-plain n cs ds e = sym (one n cs) ∙ ap (take n) e ∙ one n ds
  where
    one : (n : ℕ) (xs : List ChunkPayloadData) → take n (map plain xs) ≡ map plain (take n xs)
    one zero xs = refl
    one (suc n) [] = refl
    one (suc n) (x ∷ xs) = ap (λ ys. plain x ∷ ys) (one n xs)

-- what is blind to what SACKs change is the same of both
pub blind-same : {B : Type 0} (g : Option ChunkPayloadData → B) → ((c : ChunkPayloadData) → g (Some (plain c)) ≡ g (Some c)) → (o q : Option ChunkPayloadData)
    → option_map plain o ≡ option_map plain q → g o ≡ g q
blind-same g h o q e = grind (arith, nat_tests, common_steps)

-- ## A SACK

-- the same SACK, without its gap ack blocks and duplicates
pub record IsBareSack (s k : Sack) : Type 0 where
  pub same : k.cumulative_tsn_ack ≡ s.cumulative_tsn_ack
  pub none : k.gap_ack_blocks ≡ []

module _ (s k : Sack) (bare : IsBareSack s k) where
  -- alike, where the TSN is past the cumulative one
  abbrev pub IsLikeBehind : Relation
  IsLikeBehind j c d = at_or_before d.tsn s.cumulative_tsn_ack ≡ false → IsLike j c d

  reported : (j : Option (List ℕ)) (c d : ChunkPayloadData) → IsLike j c d
      → IsLikeBehind (keep s c j) (if reports_anew s c then as_acknowledged c else c) (if reports_anew k d then as_acknowledged d else d)
  reported j c d i = grind (arith, nat_tests, common_steps)

  pub are-reported : (ks : List (Option (List ℕ))) (cs ds : List ChunkPayloadData) → AreLike ks cs ds
      → Are IsLikeBehind (keep_each s cs ks) (change_where (reports_anew s) as_acknowledged cs) (change_where (reports_anew k) as_acknowledged ds)
  are-reported ks [] [] a = tt
  are-reported ks [] (d ∷ ds) a = absurd a
  are-reported ks (c ∷ cs) [] a = absurd a
  are-reported [] (c ∷ cs) (d ∷ ds) a = (reported None c d a.0, are-reported [] cs ds a.1)
  are-reported (j ∷ ks) (c ∷ cs) (d ∷ ds) a = (reported j c d a.0, are-reported ks cs ds a.1)

-- ## What comes back

module _ (s : Sack) where
  back : (k : Option (List ℕ)) (c d : ChunkPayloadData) → IsLike k c d → IsLike k (restored_with (back_of s c k) c) d
  back k c d i = grind (arith, nat_tests, common_steps)

  pub are-back : (ks : List (Option (List ℕ))) (cs ds : List ChunkPayloadData) → AreLike ks cs ds → AreLike ks (restored (back_each s cs ks) cs) ds
  are-back [] cs ds a = a
  are-back (k ∷ ks) [] [] a = tt
  are-back (k ∷ ks) [] (d ∷ ds) a = absurd a
  are-back (k ∷ ks) (c ∷ cs) [] a = absurd a
  are-back (k ∷ ks) (c ∷ cs) (d ∷ ds) a = (back k c d a.0, are-back ks cs ds a.1)
