use Rattle.std.proofs.Common.{sym, ◌∙◌, inl, inr, arith}
use Rattle.std.proofs.lemmas.Bool.{cases_lt}
use Rattle.sctp_outbound.proofs.lemmas.payload_queue.Gaps.{few, first_found, front_is, first_at_front, first_absent}
use Rattle.sctp_outbound.proofs.payload_queue.first_after.Goals as goal

pub returns-then-not-sna32lte-clause-first : goal.returns-then-not-sna32lte-clause-first
returns-then-not-sna32lte-clause-first c =
    let xs = c.args.held.now.chunks in
    first_at_front c.args.cumulative_tsn xs c.ranges.cumulative_tsn.fits c.requires c.in-Some.front (front_is xs c.in-Some.front c.in-Some.ensures)
    (sym c.sna32lte.ensures.value ∙ c.if-not-sna32lte.true)

pub overflow_add-result : goal.overflow_add-result
overflow_add-result c =
    let xs = c.args.held.now.chunks in
    let held = c.in-Ok.ensures.found in
    elim (cases_lt 0 c.in-Ok.place) [
      | inl later ↦ let most = few xs c.requires 0 c.in-Ok.field-0-1.now (omega (arith, held.in_range)) c.in-Ok.place later held.in_range in omega arith
      | inr at ↦ omega arith
    ]

pub returns-in-Ok-clause-first : goal.returns-in-Ok-clause-first
returns-in-Ok-clause-first c =
    first_found c.args.cumulative_tsn c.args.held.now.chunks c.ranges.cumulative_tsn.fits c.requires c.in-Ok.place c.in-Ok.field-0-1.now c.in-Ok.ensures.found

pub returns-in-Err-clause-first : goal.returns-in-Err-clause-first
returns-in-Err-clause-first c =
    let xs = c.args.held.now.chunks in
    first_absent c.args.cumulative_tsn xs c.ranges.cumulative_tsn.fits c.requires c.in-Some.front (front_is xs c.in-Some.front c.in-Some.ensures)
    (sym c.sna32lte.ensures.value ∙ c.if-not-sna32lte.false) c.in-Err.place c.in-Err.ensures.place
