-- What a sender gave TSNs to, one after another: each DATA chunk is a fragment of a write, and goes on where the one before it ends.
use Rattle.sctp_delivery.proofs.Names.{common_steps, ◌≡◌, ℕ, suc, ◌+◌, ◌%◌, ◌^◌, ◌<◌, ◌≤◌, true, false, List, [], ◌∷◌, ◌++◌, length, inl, inr, refl, ap, sym}
use Rattle.sctp_delivery.proofs.Names.{subst, ◌∙◌, arith, ⊤, Contains, nat_tests, PayloadProtocolIdentifier, Data}
use Rattle.std.proofs.Common.{◌⊎◌}

-- a write, and its place among the writes: so many were written before
pub record Numbered : Type 0 where
  pub stream : ℕ
  pub payload_type : PayloadProtocolIdentifier
  pub bytes : List ℕ
  pub place : ℕ

-- a terminal chunk, which is never sent; or a DATA chunk, of a write of which these bytes are left behind it
pub data Entry : Type 0 where
  terminal : Entry
  fragment : Data → Numbered → List ℕ → Entry

-- behind these entries, the last one first: it goes on with the same write, or begins a message
abbrev pub GoesOn : Data → Numbered → List ℕ → List Entry → Type 0
GoesOn d w after [] = ⊤
GoesOn d w after (terminal ∷ xs) = ⊤
GoesOn d w after (fragment e v rest ∷ xs) = d.beginning_fragment ≡ false → (w ≡ v) × (rest ≡ d.user_data ++ after)

-- the chunk is of this write, with these bytes behind it, and has this TSN
pub record Fits (ws : List Numbered) (tsn : ℕ) (d : Data) (w : Numbered) (after : List ℕ) : Type 0 where
  pub written : Contains ws w
  pub number : d.tsn ≡ tsn
  pub stream : d.stream_identifier ≡ w.stream
  pub payload : d.payload_type ≡ w.payload_type
  pub begins : d.beginning_fragment ≡ true → w.bytes ≡ d.user_data ++ after
  pub ends : d.ending_fragment ≡ true → after ≡ []
  pub part : (before : List ℕ) × (w.bytes ≡ before ++ (d.user_data ++ after))

-- all that got TSNs, from the first one on, the last entry first
abbrev pub IsLine : List Numbered → ℕ → List Entry → Type 0
IsLine ws first [] = ⊤
IsLine ws first (terminal ∷ xs) = IsLine ws first xs
IsLine ws first (fragment d w after ∷ xs) =
    Fits ws ((first + length xs) % 2 ^ 32) d w after × (GoesOn d w after xs × IsLine ws first xs)

-- ## One write more

pub contains-more : {A : Type 0} (y : A) (xs : List A) (x : A) → Contains xs x → Contains (y ∷ xs) x
contains-more y xs x c = (suc c.0, omega (arith, c.1), c.2)

pub fits-more : (v : Numbered) (ws : List Numbered) (tsn : ℕ) (d : Data) (w : Numbered) (after : List ℕ) → Fits ws tsn d w after → Fits (v ∷ ws) tsn d w after
fits-more v ws tsn d w after f = grind (arith, nat_tests, contains-more)

pub line-more : (v : Numbered) (ws : List Numbered) (first : ℕ) (xs : List Entry) → IsLine ws first xs → IsLine (v ∷ ws) first xs
line-more v ws first [] l = tt
line-more v ws first (terminal ∷ xs) l = line-more v ws first xs l
line-more v ws first (fragment d w after ∷ xs) l = (fits-more v ws ((first + length xs) % 2 ^ 32) d w after l.0, (l.1.0, line-more v ws first xs l.1.1))

-- ## What got a TSN once

-- the first entries of the line
abbrev pub IsPart : List Entry → List Entry → Type 0
IsPart ys [] = ys ≡ []
IsPart ys (x ∷ xs) = (ys ≡ x ∷ xs) ⊎ IsPart ys xs

pub part-itself : (xs : List Entry) → IsPart xs xs
part-itself [] = refl
part-itself (x ∷ xs) = inl refl

pub part-length : (xs ys : List Entry) → IsPart ys xs → length ys ≤ length xs
part-length [] ys p = let e = ap length p in omega (arith, e)
part-length (x ∷ xs) ys (inl e) = let n = ap length e in omega (arith, n)
part-length (x ∷ xs) ys (inr p) = let n = part-length xs ys p in omega (arith, n)

-- as many entries are the same ones
pub same-parts : (xs ys zs : List Entry) → IsPart ys xs → IsPart zs xs → length ys ≡ length zs → ys ≡ zs
same-parts [] ys zs p q e = p ∙ sym q
same-parts (x ∷ xs) ys zs (inl p) (inl q) e = p ∙ sym q
same-parts (x ∷ xs) ys zs (inl p) (inr q) e = let m = ap length p in let n = part-length xs zs q in absurd (omega (arith, m, n, e))
same-parts (x ∷ xs) ys zs (inr p) (inl q) e = let m = ap length q in let n = part-length xs ys p in absurd (omega (arith, m, n, e))
same-parts (x ∷ xs) ys zs (inr p) (inr q) e = same-parts xs ys zs p q e

pub tail-part : (xs ys : List Entry) (y : Entry) → IsPart (y ∷ ys) xs → IsPart ys xs
tail-part [] ys y p = cc
tail-part (x ∷ xs) ys y (inl e) = let same : ys ≡ xs = cc in inr (subst (λ zs. IsPart zs xs) (sym same) (part-itself xs))
tail-part (x ∷ xs) ys y (inr p) = inr (tail-part xs ys y p)

pub part-line : (ws : List Numbered) (first : ℕ) (xs ys : List Entry) → IsPart ys xs → IsLine ws first xs → IsLine ws first ys
part-line ws first [] ys p l = subst (IsLine ws first) (sym p) l
part-line ws first (x ∷ xs) ys (inl e) l = subst (IsLine ws first) (sym e) l
part-line ws first (terminal ∷ xs) ys (inr p) l = part-line ws first xs ys p l
part-line ws first (fragment d w after ∷ xs) ys (inr p) l = part-line ws first xs ys p l.1.1

-- the chunk got a TSN
abbrev pub WasSent : List Entry → Data → Type 0
WasSent sent d = (w : Numbered) × (after : List ℕ) × (xs : List Entry) × IsPart (fragment d w after ∷ xs) sent

pub sent-more : (x : Entry) (sent : List Entry) (d : Data) → WasSent sent d → WasSent (x ∷ sent) d
sent-more x sent d s = (s.0, s.1, s.2, inr s.3)

-- the chunk got a TSN at one of 2^32 - 1 places from this one on
abbrev pub IsFrom : ℕ → List Entry → Type 0
IsFrom low xs = (low ≤ length xs) × (length xs + 1 < low + 2 ^ 32)

abbrev pub WasSentFrom : ℕ → List Entry → Data → Type 0
WasSentFrom low sent d = (w : Numbered) × (after : List ℕ) × (xs : List Entry) × IsPart (fragment d w after ∷ xs) sent × IsFrom low xs

-- of two such chunks the one that has the next TSN stands behind the other
pub stands-next : (ws : List Numbered) (first : ℕ) (sent : List Entry) (low : ℕ) → IsLine ws first sent
    → (d e : Data) (w v : Numbered) (after rest : List ℕ) (xs ys : List Entry) → IsPart (fragment d w after ∷ xs) sent → IsPart (fragment e v rest ∷ ys) sent
    → IsFrom low xs → IsFrom low ys → e.tsn ≡ (d.tsn + 1) % 2 ^ 32 → ys ≡ fragment d w after ∷ xs
stands-next ws first sent low line d e w v after rest xs ys p q i j next = grind (arith, nat_tests, common_steps, part-line, same-parts, tail-part)

-- what has the next TSN stands behind it, while fewer than 2^32 were given out
pub stands-behind : (ws : List Numbered) (first : ℕ) (sent : List Entry) → length sent < 2 ^ 32 → IsLine ws first sent
    → (d e : Data) (w v : Numbered) (after rest : List ℕ) (xs ys : List Entry) → IsPart (fragment d w after ∷ xs) sent → IsPart (fragment e v rest ∷ ys) sent
    → e.tsn ≡ (d.tsn + 1) % 2 ^ 32 → ys ≡ fragment d w after ∷ xs
stands-behind ws first sent few line d e w v after rest xs ys p q next =
    let m = part-length sent (fragment d w after ∷ xs) p in
    let n = part-length sent (fragment e v rest ∷ ys) q in
    stands-next ws first sent 0 line d e w v after rest xs ys p q (omega arith, omega (arith, m, few)) (omega arith, omega (arith, n, few)) next

-- what has the same TSN is the same chunk
pub same-tsn : (ws : List Numbered) (first : ℕ) (sent : List Entry) → length sent < 2 ^ 32 → IsLine ws first sent → (d e : Data) → WasSent sent d
    → WasSent sent e → d.tsn ≡ e.tsn → d ≡ e
same-tsn ws first sent few line d e s r same = grind (arith, nat_tests, part-length, part-line, same-parts)
