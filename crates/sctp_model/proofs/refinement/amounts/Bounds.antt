-- How much can have been written.
use Rattle.sctp_model.proofs.Names.{◌≡◌, ℕ, zero, suc, ◌+◌, ◌*◌, ◌<◌, ◌≤◌, ◌^◌, List, [], ◌∷◌, length, refl, arith, length-drop, numbers_where, always}
use Rattle.sctp_model.proofs.Names.{total_over, pieces, total-le, Setup, LinkRecord, fragment_count, in_all, written_bytes, fragments_accepted, IsSetup}
use Rattle.sctp_model.proofs.Names.{nat_tests}
use Rattle.sctp_model.proofs.sender.SenderRun.{Consistent}

-- a piece has at most so many bytes
pub pieces-many : (most size : ℕ) (bytes : List ℕ) → 0 < size → size ≤ 65519 → length bytes ≤ most → length bytes ≤ 65519 * length (pieces most size bytes)
pieces-many zero size [] some small le = omega arith
pieces-many zero size (x ∷ xs) some small le = absurd (omega (arith, le))
pieces-many (suc most) size [] some small le = omega arith
pieces-many (suc most) size (x ∷ xs) some small le = grind (arith, nat_tests, length-drop, pieces-many most size)

pub total-times : (f g : ℕ → ℕ) (ns : List ℕ) → ((n : ℕ) → f n ≤ 65519 * g n) → total_over f ns ≤ 65519 * total_over g ns
total-times f g [] le = omega arith
total-times f g (n ∷ ns) le = omega (arith, le n, total-times f g ns le)

-- the bytes written, by the fragments that are accepted
pub written-few : (setup : Setup) (w : LinkRecord) → IsSetup w.setup → Consistent setup w → in_all w (written_bytes w) < 2 ^ 47
written-few setup w is g = grind (arith, nat_tests, pieces-many, total-times)

pub ones : (from count : ℕ) → total_over (λ n. 1) (numbers_where always from count) ≡ count
ones from zero = refl
ones from (suc count) = omega (arith, ones (from + 1) count)

-- each message has a fragment
pub messages-few : (setup : Setup) (w : LinkRecord) → Consistent setup w → length w.messages < 2 ^ 31
messages-few setup w g =
    let all = total-le (λ n. 1) (fragment_count w) 0 (length w.messages) (λ k a b. let some = g.sender.some k (omega (arith, b)) in omega (arith, some)) in
    let few : fragments_accepted w < 2 ^ 31 = g.accepted in
    omega (arith, all, few, ones 0 (length w.messages))
