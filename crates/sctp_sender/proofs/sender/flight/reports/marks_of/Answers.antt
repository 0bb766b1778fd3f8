use Rattle.sctp_sender.proofs.Names.{◌≡◌, ℕ, ◌+◌, ◌<◌, ◌≤◌, false, [], ◌∷◌, length, get_or, ap, sym, ◌∙◌, inl, inr, arith, rules, nat_lt, max, list_any}
use Rattle.sctp_sender.proofs.Names.{cases_lt, nat_tests, get_or_append_left, get_or_default, get_or_past, length_push, by_last, is_in_blocks}
use Rattle.std.proofs.lemmas.List.{get_or_push}
use Rattle.sctp_sender.proofs.Offsets.{end-more, goes_past, max-is, none-before, none-behind, past-is-in}
use Rattle.sctp_sender.proofs.sender.flight.reports.marks_of.Goals as goal

pub loop-offset-init : goal.loop-offset-init
loop-offset-init c = record {
  count = search rules;
  turns = search rules;
  marked = λ n lt. absurd (omega (arith, lt));
  furthest = λ last le. (let none : nat_lt last 0 ≡ false = grind (arith, nat_tests) in none) ∙ sym (none-before last c.args.blocks.now);
  room = search rules;
}

pub loop-offset-preserved : goal.loop-offset-preserved
loop-offset-preserved c =
    let bs = c.args.blocks.now in
    let i = c.loop-offset.offset in
    let xs = c.loop-offset.marks.items in
    let ends = c.in_ok-ends.ends.items in
    let inv = c.loop-offset.invariant in
    let put = c.put.ensures.items in
    let lt : i < length ends = omega (arith, c.loop-offset-test.true, c.len-offset-end.ensures) in
    let here : c.index.result.now ≡ get_or ends i 0 = c.index.ensures ∙ get_or_default ends i c.index.result.now 0 lt in
    let top : c.max-end.result ≡ max c.loop-offset.end c.index.result.now = max-is c.loop-offset.end c.index.result.now c.max-end.result c.max-end.ensures in
    let further : (last : ℕ) → i ≤ last → nat_lt last c.max-end.result ≡ list_any (goes_past (i + 1) last) bs = λ last le. ap (nat_lt last) top
    ∙ end-more ends bs i last c.loop-offset.end c.index.result.now c.in_ok-ends.ensures.ends le here (inv.furthest last (omega (arith, le))) in
    record {
      count = omega (arith, ap length put, length_push xs (nat_lt i c.max-end.result), inv.count);
      marked = λ n lt. by_last n i lt
          (λ old. ap (λ zs. get_or zs n false) put ∙ get_or_append_left xs (nat_lt i c.max-end.result ∷ []) false n (omega (arith, old, inv.count))
          ∙ inv.marked n old)
          (λ same. ap (λ zs. get_or zs n false) put ∙ get_or_push xs (nat_lt i c.max-end.result) false n (inv.count ∙ sym same) ∙ further i (omega arith)
          ∙ past-is-in i bs ∙ ap (is_in_blocks bs) (sym same));
      furthest = λ last le. further last (omega (arith, le));
      turns = omega (arith, c.tick.ensures, inv.turns);
      room = omega (arith, c.put.ensures.capacity, inv.room);
    }

pub returns-clause-marks : goal.returns-clause-marks
returns-clause-marks c = λ n.
    let bs = c.args.blocks.now in
    let xs = c.loop-offset.marks.items in
    let all : c.loop-offset.offset ≡ length c.in_ok-ends.ends.items =
    omega (arith, c.loop-offset-test.false, c.loop-offset.auto.offset-end, c.len-offset-end.ensures) in
    elim (cases_lt n (length xs)) [
      | inl lt ↦ c.loop-offset.invariant.marked n (omega (arith, lt, c.loop-offset.invariant.count))
      | inr ge ↦ get_or_past xs n false ge ∙ sym (none-behind bs n (omega (arith, ge, all, c.loop-offset.invariant.count, c.in_ok-ends.ensures.count)))
    ]
