-- The numbers of ordered messages that wait: on each stream one higher from message to message, modulo 2^16.
use Rattle.sctp_delivery.proofs.Names.{common_steps, nat_tests, ◌≡◌, ℕ, ◌+◌, ◌%◌, ◌^◌, ◌<◌, Bool, true, false, not, List, [], ◌∷◌, ◌++◌, refl, ap, sym, subst}
use Rattle.sctp_delivery.proofs.Names.{arith, ◌==◌, ◌&&◌, if◌then◌else◌, list_any, change_where, same-is, same-yes, not_both, ChunkPayloadData, is_of}
use Rattle.sctp_delivery.proofs.Names.{one_lower, with_deadline, without_message, IsWhole, begun, free, none_before, is_on}
use Rattle.sctp_delivery.proofs.Cases.{at-test}
use Rattle.sctp_delivery.proofs.Waiting.{lower}

-- the chunk begins a message of the stream
abbrev pub counts : ℕ → ChunkPayloadData → Bool
counts s c = (c.stream_identifier == s) && c.beginning_fragment

abbrev pub number_after : Bool → ℕ → ℕ
number_after b n = if b then (n + 1) % 2 ^ 16 else n

-- of the stream the first message in the list has the number n, each later one the next, and the next write has the number `next`
abbrev pub Turns : ℕ → List ChunkPayloadData → ℕ → ℕ → Type 0
Turns s [] n next = n ≡ next
Turns s (c ∷ cs) n next = (counts s c ≡ true → c.stream_sequence_number ≡ n) × Turns s cs (number_after (counts s c) n) next

pub turns-behind : (s : ℕ) (xs ys : List ChunkPayloadData) (n m next : ℕ) → Turns s xs n m → Turns s ys m next → Turns s (xs ++ ys) n next
turns-behind s [] ys n m next t u = subst (λ k. Turns s ys k next) (sym t) u
turns-behind s (c ∷ cs) ys n m next t u = (t.0, turns-behind s cs ys (number_after (counts s c) n) m next t.1 u)

pub turns-started : (s now : ℕ) (p : ChunkPayloadData → Bool) (cs : List ChunkPayloadData) (n next : ℕ) → Turns s cs n next
    → Turns s (change_where p (with_deadline now) cs) n next
turns-started s now p [] n next t = t
turns-started s now p (c ∷ cs) n next t = grind (arith, nat_tests, common_steps, turns-started s now p cs (number_after (counts s c) n) next t.1)

-- chunks that begin no message of the stream
pub turns-past : (s : ℕ) (c : ChunkPayloadData) (cs : List ChunkPayloadData) (n next : ℕ) → counts s c ≡ false → Turns s (c ∷ cs) n next → Turns s cs n next
turns-past s c cs n next e t = subst (λ b. Turns s cs (number_after b n) next) e t.1

pub inner-not : (s : ℕ) (c : ChunkPayloadData) → c.beginning_fragment ≡ false → counts s c ≡ false
inner-not s c e = elim (c.stream_identifier == s) as (λ b. (b && c.beginning_fragment) ≡ false) [ true ↦ e | false ↦ refl ]

-- ## The rest of a message is gone

pub without-none : (m : ℕ) (cs : List ChunkPayloadData) → list_any (is_of m) cs ≡ false → without_message m cs ≡ cs
without-none m [] e = refl
without-none m (c ∷ cs) e = grind (arith, nat_tests, common_steps, without-none m cs)

pub turns-rest : (s m below : ℕ) (kind : Bool) (cs : List ChunkPayloadData) (n next : ℕ) → IsWhole kind below (begun m) cs → Turns s cs n next
    → Turns s (without_message m cs) n next
turns-rest s m below kind [] n next w t = absurd w
turns-rest s m below kind (c ∷ cs) n next w t =
    let here : (c.message_id == m) ≡ true = subst (λ j. (j == m) ≡ true) (sym w.0.1) (same-yes m) in
    let later = turns-past s c cs n next (inner-not s c w.0.0) t in
    subst (λ b. Turns s (if not b then c ∷ without_message m cs else without_message m cs) n next) (sym here)
    (by c.ending_fragment w.3 later (λ v. turns-rest s m below kind cs n next v later))
  where
    by : (b : Bool) → IsWhole kind below (if b then free (c.message_id + 1) else begun c.message_id) cs → Turns s cs n next
        → (IsWhole kind below (begun m) cs → Turns s (without_message m cs) n next) → Turns s (without_message m cs) n next
    by true v u ih =
        let past : m < c.message_id + 1 = omega (arith, w.0.1) in
        subst (λ ds. Turns s ds n next) (sym (without-none m cs (none_before kind below m (free (c.message_id + 1)) cs past v))) u
    by false v u ih = ih (subst (λ j. IsWhole kind below (begun j) cs) w.0.1 v)

-- a message in front leaves as a whole
pub turns-first : (s below : ℕ) (kind : Bool) (c : ChunkPayloadData) (cs : List ChunkPayloadData) (n next : ℕ) → IsWhole kind below (free 0) (c ∷ cs)
    → Turns s (c ∷ cs) n next → Turns s (without_message c.message_id (c ∷ cs)) (number_after (counts s c) n) next
turns-first s below kind c cs n next w t =
    let here : (c.message_id == c.message_id) ≡ true = same-yes c.message_id in
    subst (λ b. Turns s (if not b then c ∷ without_message c.message_id cs else without_message c.message_id cs) (number_after (counts s c) n) next)
    (sym here)
    (at-test (λ b. IsWhole kind below (if b then free (c.message_id + 1) else begun c.message_id) cs → Turns s (without_message c.message_id cs)
    (number_after (counts s c) n) next) c.ending_fragment
    (λ e v.
    let past : c.message_id < c.message_id + 1 = omega arith in
    subst (λ ds. Turns s ds (number_after (counts s c) n) next)
    (sym (without-none c.message_id cs (none_before kind below c.message_id (free (c.message_id + 1)) cs past v))) t.1)
    (λ e v. turns-rest s c.message_id below kind cs (number_after (counts s c) n) next v t.1) w.3)

-- ## Numbers one lower

lower-after : (b : Bool) (n : ℕ) → lower (number_after b n) ≡ number_after b (lower n)
lower-after true n = omega arith
lower-after false n = refl

pub turns-lower : (s : ℕ) (cs : List ChunkPayloadData) (n next : ℕ) → Turns s cs n next → Turns s (change_where (is_on s) one_lower cs) (lower n) (lower next)
turns-lower s [] n next t = ap lower t
turns-lower s (c ∷ cs) n next t = grind (arith, nat_tests, common_steps, not_both, lower-after, turns-lower s cs (number_after (counts s c) n) next t.1)

-- those of another stream stay
pub turns-other : (r s : ℕ) → (r ≡ s → ⊥) → (cs : List ChunkPayloadData) (n next : ℕ) → Turns r cs n next → Turns r (change_where (is_on s) one_lower cs) n next
turns-other r s differ [] n next t = t
turns-other r s differ (c ∷ cs) n next t = grind (arith, nat_tests, common_steps, same-is, turns-other r s differ cs (number_after (counts r c) n) next t.1)
