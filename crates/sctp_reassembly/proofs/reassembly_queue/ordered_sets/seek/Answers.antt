use Rattle.std.proofs.Common.{◌≡◌, ℕ, ◌-◌, ◌^◌, ◌<◌, List, length, get_or, sym, ap, subst, ◌∙◌, arith}
use Rattle.std.specs.List.{position_or_len}
use Rattle.std.proofs.lemmas.Bool.{false≢true}
use Rattle.std.proofs.lemmas.Bool.Decides.{nat_tests}
use Rattle.std.proofs.lemmas.List.Sums.{position_or_len_is}
use Rattle.sctp_data.specs.ChunkSet.{ChunkSet}
use Rattle.sctp_util.proofs.Distances.{before_irrefl}
use Rattle.sctp_util.proofs.More.{fails}
use Rattle.sctp_util.specs.Serial.{comes_before}
use Rattle.sctp_reassembly.specs.reassembly_queue.Fragments.{has_ssn}
use Rattle.sctp_serial.specs.Ascending.{upper_half}
use Rattle.sctp_serial.proofs.lemmas.AscendingEdits.{Ascends, order_on}
use Rattle.sctp_reassembly.proofs.reassembly_queue.ordered_sets.seek.Goals as goal

-- among numbers that ascend no set in front of the last has its number
last_has : (xs : List ChunkSet) (last : ChunkSet) (ssn : ℕ) → Ascends (λ (s : ChunkSet). upper_half s.ssn) xs → 0 < length xs
    → last ≡ get_or xs (length xs - 1) last → last.ssn ≡ ssn → position_or_len (has_ssn ssn) xs ≡ length xs - 1
last_has xs last ssn s some read same = position_or_len_is (has_ssn ssn) xs (length xs - 1) last (omega arith)
    (λ k lt. fails (has_ssn ssn (get_or xs k last)) (λ h.
    let e : (get_or xs k last).ssn ≡ ssn = grind (arith, nat_tests) in
    let end : upper_half (get_or xs (length xs - 1) last).ssn ≡ upper_half ssn = ap (λ (y : ChunkSet). upper_half y.ssn) (sym read) ∙ ap upper_half same in
    let up = s.rises k (length xs - 1) last lt (omega arith) in
    let small = s.small (length xs - 1) last (omega arith) in
    let round = before_irrefl (upper_half ssn) (subst (λ n. n < 2 ^ 32) end small) in
    false≢true (sym round ∙ ap (comes_before (upper_half ssn)) (sym end) ∙ ap (λ n. comes_before n (upper_half (get_or xs (length xs - 1) last).ssn))
    (sym (ap upper_half e)) ∙ up)))
    (λ lt. let at = ap (λ (y : ChunkSet). y.ssn) (sym read) ∙ same in grind (arith, nat_tests))

pub returns-then-ssn-clause-there : goal.returns-then-ssn-clause-there
returns-then-ssn-clause-there c =
    let xs = c.args.sets.now.items in
    let last = c.index.result.now in
    let some : 0 < length xs = omega (arith, c.if-len-gt0.true, c.len-len.ensures) in
    let end : c.len-len.result - 1 ≡ length xs - 1 = omega (arith, c.len-len.ensures) in
    let s = order_on (λ (y : ChunkSet). upper_half y.ssn) c.args.ascending xs c.if-ascending.true c.requires.order in
    let same : last.ssn ≡ c.args.ssn = grind (arith, nat_tests, c.ssn.ensures, c.if-ssn.true) in (
      end ∙ sym (last_has xs last c.args.ssn s some (c.index.ensures ∙ ap (λ i. get_or xs i last) end) same),
      omega (arith, some, end),
    )
