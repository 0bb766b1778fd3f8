-- Chunks whose TSNs follow one another.
use Rattle.sctp_sender.proofs.Names.{◌≡◌, ℕ, zero, suc, ◌+◌, ◌-◌, ◌<◌, ◌≤◌, ◌%◌, ◌^◌, Bool, true, false, List, [], ◌∷◌, length, drop, get_or, Some, refl, ap}
use Rattle.sctp_sender.proofs.Names.{sym, subst, ◌∙◌, arith, if◌then◌else◌, ◌==◌, not, find, eq-eqb, ne_eqb, nat_tests, change_where, OnlyAt, ChunkPayloadData}
use Rattle.sctp_sender.proofs.Names.{has_tsn, following_tsn, tsns, without_front, past, tsns_from, fresh}
use Rattle.sctp_util.specs.Serial.{distance, at_or_before}
use Rattle.sctp_stream.proofs.StreamPlaces.{find-first}
use Rattle.sctp_data.specs.declared.chunk.chunk_payload_data.PayloadProtocolIdentifier.TheVariants.{Unknown}

-- any chunk, where a look-up asks for one to fall back on
abbrev pub any_chunk : ChunkPayloadData
any_chunk = fresh (record {
  unordered = false;
  beginning_fragment = false;
  ending_fragment = false;
  immediate_sack = false;
  tsn = 0;
  stream_identifier = 0;
  stream_sequence_number = 0;
  payload_type = Unknown;
  user_data = [];
})

abbrev pub IsRunFrom : ℕ → List ChunkPayloadData → Type 0
IsRunFrom first cs = tsns cs ≡ tsns_from first (length cs)

head-is : (first : ℕ) (c : ChunkPayloadData) (cs : List ChunkPayloadData) → IsRunFrom first (c ∷ cs) → c.tsn ≡ first
head-is first c cs e = cc

tail-is : (first : ℕ) (c : ChunkPayloadData) (cs : List ChunkPayloadData) → IsRunFrom first (c ∷ cs) → IsRunFrom (following_tsn first) cs
tail-is first c cs e = cc

-- the chunk at a place
pub tsn-at : (cs : List ChunkPayloadData) (first i : ℕ) (d : ChunkPayloadData) → first < 2 ^ 32 → IsRunFrom first cs → i < length cs
    → (get_or cs i d).tsn ≡ (first + i) % 2 ^ 32
tsn-at [] first i d small e lt = absurd (omega (arith, lt))
tsn-at (c ∷ cs) first zero d small e lt = let h = head-is first c cs e in omega arith
tsn-at (c ∷ cs) first (suc i) d small e lt = let h = tsn-at cs (following_tsn first) i d (omega arith) (tail-is first c cs e) (omega (arith, lt)) in omega arith

pub dropped : (cs : List ChunkPayloadData) (first i : ℕ) → first < 2 ^ 32 → IsRunFrom first cs → i ≤ length cs → IsRunFrom ((first + i) % 2 ^ 32) (drop i cs)
dropped cs first zero small e le = let same : (first + 0) % 2 ^ 32 ≡ first = omega arith in subst (λ f. IsRunFrom f cs) (sym same) e
dropped [] first (suc i) small e le = absurd (omega (arith, le))
dropped (c ∷ cs) first (suc i) small e le =
    let same : (following_tsn first + i) % 2 ^ 32 ≡ (first + suc i) % 2 ^ 32 = omega arith in
    subst (λ f. IsRunFrom f (drop i cs)) same (dropped cs (following_tsn first) i (omega arith) (tail-is first c cs e) (omega (arith, le)))

-- the front of what is left at a place
pub front-dropped : (cs : List ChunkPayloadData) (first i : ℕ) → first < 2 ^ 32 → IsRunFrom first cs → i < length cs
    → without_front ((first + i) % 2 ^ 32) (drop i cs) ≡ drop (i + 1) cs
front-dropped [] first i small e lt = absurd (omega (arith, lt))
front-dropped (c ∷ cs) first zero small e lt =
    let here : (c.tsn == (first + 0) % 2 ^ 32) ≡ true = eq-eqb _ _ (let h = head-is first c cs e in omega arith) in
    ap (λ b. if b then cs else c ∷ cs) here
front-dropped (c ∷ cs) first (suc i) small e lt =
    let same : (following_tsn first + i) % 2 ^ 32 ≡ (first + suc i) % 2 ^ 32 = omega arith in
    let next : suc i + 1 ≡ suc (i + 1) = omega arith in
    ap (λ t. without_front t (drop i cs)) (sym same) ∙ front-dropped cs (following_tsn first) i (omega arith) (tail-is first c cs e) (omega (arith, lt))
    ∙ ap (λ k. drop k (c ∷ cs)) (sym next)

-- no other chunk has its TSN
pub only-at : (cs : List ChunkPayloadData) (first i : ℕ) → first < 2 ^ 32 → IsRunFrom first cs → length cs < 2 ^ 31 → i < length cs
    → OnlyAt (has_tsn ((first + i) % 2 ^ 32)) cs i
only-at cs first i small e few lt = record {
  in_range = lt;
  here = λ d. eq-eqb _ _ (tsn-at cs first i d small e lt);
  elsewhere = λ k d less differ. ne_eqb _ _ (λ same. let h = tsn-at cs first k d small e less in differ (omega (arith, few, lt, less, same, h)));
}

pub found-at : (cs : List ChunkPayloadData) (first i : ℕ) (d : ChunkPayloadData) → first < 2 ^ 32 → IsRunFrom first cs → length cs < 2 ^ 31 → i < length cs
    → find (has_tsn ((first + i) % 2 ^ 32)) cs ≡ Some (get_or cs i d)
found-at cs first i d small e few lt =
    let o = only-at cs first i small e few lt in
    find-first (has_tsn ((first + i) % 2 ^ 32)) cs i d lt (λ k x less. o.elsewhere k x (omega (arith, less, lt)) (λ z. omega (arith, less, z))) (o.here d)

-- a change that keeps TSNs
pub changed-run : (p : ChunkPayloadData → Bool) (f : ChunkPayloadData → ChunkPayloadData) → ((c : ChunkPayloadData) → (f c).tsn ≡ c.tsn)
    → (cs : List ChunkPayloadData) → tsns (change_where p f cs) ≡ tsns cs
changed-run p f same [] = refl
changed-run p f same (c ∷ cs) = by (p c) (changed-run p f same cs)
  where
    by : (b : Bool) → tsns (change_where p f cs) ≡ tsns cs → tsns ((if b then f c else c) ∷ change_where p f cs) ≡ tsns (c ∷ cs)
    by true ih = ap (λ t. t ∷ tsns (change_where p f cs)) (same c) ∙ ap (λ ts. c.tsn ∷ ts) ih
    by false ih = ap (λ ts. c.tsn ∷ ts) ih

-- ## What is not past a TSN

pub later : (t base far : ℕ) → base < 2 ^ 32 → far + 1 < 2 ^ 31 → t ≡ (base + far + 1) % 2 ^ 32 → at_or_before t base ≡ false
unfolding at_or_before distance
later t base far small few is = let e : (base + (2 ^ 32 - t)) % 2 ^ 32 ≡ 2 ^ 32 - far - 1 = omega arith in grind (arith, nat_tests, few, e)

none-past : (cs : List ChunkPayloadData) (base far : ℕ) → base < 2 ^ 32 → far + length cs < 2 ^ 31 → IsRunFrom ((base + far + 1) % 2 ^ 32) cs
    → past base cs ≡ cs
none-past [] base far small few e = refl
none-past (c ∷ cs) base far small few e =
    let after : at_or_before c.tsn base ≡ false = later c.tsn base far small (omega (arith, few)) (head-is _ c cs e) in
    let next : following_tsn ((base + far + 1) % 2 ^ 32) ≡ (base + (far + 1) + 1) % 2 ^ 32 = omega arith in
    ap (λ b. if not b then c ∷ past base cs else past base cs) after
    ∙ ap (λ ds. c ∷ ds) (none-past cs base (far + 1) small (omega (arith, few)) (subst (λ f. IsRunFrom f cs) next (tail-is _ c cs e)))

one-less : (base cum : ℕ) → base < 2 ^ 32 → cum < 2 ^ 32 → 0 < distance base cum → distance (following_tsn base) cum + 1 ≡ distance base cum
unfolding distance
one-less base cum small fits pos = omega arith

same-tsn : (base cum : ℕ) → base < 2 ^ 32 → cum < 2 ^ 32 → distance base cum ≡ 0 → cum ≡ base
unfolding distance
same-tsn base cum small fits none = omega arith

pub back : (base cum : ℕ) → base < 2 ^ 32 → cum < 2 ^ 32 → 0 < distance base cum → distance base cum < 2 ^ 31 → at_or_before (following_tsn base) cum ≡ true
unfolding at_or_before
back base cum small fits pos near = let h = one-less base cum small fits pos in grind (arith, nat_tests, h, near)

pub past-is : (cs : List ChunkPayloadData) (base cum : ℕ) → base < 2 ^ 32 → cum < 2 ^ 32 → length cs < 2 ^ 31 → distance base cum ≤ length cs
    → IsRunFrom (following_tsn base) cs → past cum cs ≡ drop (distance base cum) cs
past-is [] base cum small fits few le e = nothing (distance base cum)
  where
    nothing : (k : ℕ) → [] ≡ drop {A = ChunkPayloadData} k []
    nothing zero = refl
    nothing (suc k) = refl
past-is (c ∷ cs) base cum small fits few le e = by (distance base cum) refl (λ pos.
    past-is cs (following_tsn base) cum (omega arith) fits (omega (arith, few)) (omega (arith, le, one-less base cum small fits pos)) (tail-is _ c cs e))
  where
    by : (n : ℕ) → distance base cum ≡ n → (0 < distance base cum → past cum cs ≡ drop (distance (following_tsn base) cum) cs)
        → past cum (c ∷ cs) ≡ drop n (c ∷ cs)
    by zero none ih =
        let same = same-tsn base cum small fits none in
        let first : following_tsn base ≡ (base + 0 + 1) % 2 ^ 32 = omega arith in
        ap (λ t. past t (c ∷ cs)) same ∙ none-past (c ∷ cs) base 0 small (omega (arith, few)) (subst (λ f. IsRunFrom f (c ∷ cs)) first e)
    by (suc n) far ih =
        let h = one-less base cum small fits (omega arith) in
        let less : distance (following_tsn base) cum ≡ n = omega arith in
        let upto : at_or_before c.tsn cum ≡ true = ap (λ t. at_or_before t cum) (head-is _ c cs e)
        ∙ back base cum small fits (omega (arith, far)) (omega (arith, le, far, few)) in
        ap (λ b. if not b then c ∷ past cum cs else past cum cs) upto
        ∙ ih (omega arith) ∙ ap (λ k. drop k cs) less
