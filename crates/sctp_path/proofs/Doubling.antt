-- Back-offs in a row.
use Rattle.std.proofs.Common.{◌≡◌, ℕ, zero, suc, ◌*◌, ◌^◌, ◌≤◌, min, ap, ◌∙◌, arith}
use Rattle.std.proofs.Math.Nat.{pow-suc}
use Rattle.sctp_path.specs.Rto.{Timeout, after_back_off, DoublingEndsAtMost}

-- twice the lesser of two is the lesser of the doubles, under the same bound
twice-min : (a m : ℕ) → min (2 * min a m) m ≡ min (2 * a) m
twice-min a m = omega arith

doubled : (n r : ℕ) → 2 * (2 ^ n * r) ≡ 2 ^ suc n * r
doubled n r = rw (pow-suc 2 n) (grind arith)

one-fold : (r m : ℕ) → r ≤ m → r ≡ min (2 ^ 0 * r) m
one-fold r m h = omega arith

pub doubling : DoublingEndsAtMost
doubling zero t h = ap (λ (x : ℕ). let s : Timeout = record t { rto = x } in s) (one-fold t.rto t.limits.most h)
doubling (suc n) t h =
    ap after_back_off (doubling n t h)
    ∙ ap (λ (x : ℕ). let s : Timeout = record t { rto = x } in s)
    (twice-min (2 ^ n * t.rto) t.limits.most ∙ ap (λ x. min x t.limits.most) (doubled n t.rto))
