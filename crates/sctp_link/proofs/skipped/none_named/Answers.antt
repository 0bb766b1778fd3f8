use Rattle.sctp_link.proofs.Names.{◌≡◌, ℕ, Bool, true, false, List, length, ap, ◌∙◌, inl, inr, arith, if◌then◌else◌, vec_len, Named}
use Rattle.std.specs.Prelude.{is_ok}
use Rattle.sctp_link.specs.Skips.{IsFullOrEmpty}
use Rattle.sctp_link.proofs.skipped.none_named.Goals as goal

sized : (b : Bool) (n : ℕ) (t : List Named) → length t ≡ (if b then n else 0) → IsFullOrEmpty n t
sized true n t e = inl e
sized false n t e = inr e

pub returns-clause-count : goal.returns-clause-count
returns-clause-count c =
    let made : length c.resize.new.self.items ≡ (if is_ok c.resize.result then c.args.count else vec_len c.new-table.result) =
    omega (arith, c.resize.ensures.len, c.resize.new.self.ok.0) in
    let none : vec_len c.new-table.result ≡ 0 = omega arith in
    sized (is_ok c.resize.result) c.args.count c.resize.new.self.items (made ∙ ap (λ n. if is_ok c.resize.result then c.args.count else n) none)
