use Rattle.std.proofs.Common.{◌+◌, ◌-◌, get_or, ap, ◌∙◌, arith}
use Rattle.std.proofs.lemmas.List.{get_or_default}
use Rattle.sctp_serial.specs.DataChunks.{following_tsn}
use Rattle.sctp_serial.proofs.lemmas.ListEdits.{an_element}
use Rattle.sctp_reassembly.proofs.lemmas.reassembly_queue.UnassembledRuns.{end_of, none_at_last, none_at_beginning, none_at_gap}
use Rattle.sctp_reassembly.proofs.reassembly_queue.outward.step_on.Goals as goal

pub returns-then-side-len-clause-none : goal.returns-then-side-len-clause-none
returns-then-side-len-clause-none c f n r =
    let xs = c.args.unassembled.now.chunks in
    let s = c.requires.side in
    let d = an_element xs c.args.side.place s.in_range in
    let x = get_or xs c.args.side.place d in
    none_at_last xs c.args.place c.args.side.place x (get_or_default xs c.args.side.place d x s.in_range)
    (s.ends d ∙ c.if-side.false) s.at_or_after s.in_range s.first_ending (omega arith) (f + n - 1) (end_of xs c.args.place f n r)

pub returns-then-after-clause-none : goal.returns-then-after-clause-none
returns-then-after-clause-none c f n r =
    let xs = c.args.unassembled.now.chunks in
    let s = c.requires.side in
    let d = an_element xs c.args.side.place s.in_range in
    let x = get_or xs c.args.side.place d in
    none_at_beginning xs c.args.place c.args.side.place x (get_or_default xs c.args.side.place d x s.in_range)
    (s.ends d ∙ c.if-side.false) s.at_or_after s.in_range s.first_ending c.look-after.result.now c.look-after.ensures.value c.if-after.true (f + n - 1)
    (end_of xs c.args.place f n r)

pub returns-then-after-side-clause-none : goal.returns-then-after-side-clause-none
returns-then-after-side-clause-none c f n r =
    let xs = c.args.unassembled.now.chunks in
    let s = c.requires.side in
    let d = an_element xs c.args.side.place s.in_range in
    let x = get_or xs c.args.side.place d in
    none_at_gap xs c.args.place c.args.side.place x (get_or_default xs c.args.side.place d x s.in_range)
    (s.ends d ∙ c.if-side.false) s.at_or_after s.in_range s.first_ending c.look-after.result.now (omega arith) c.look-after.ensures.value
    (λ e. c.if-after-side.true (e ∙ ap (λ t. following_tsn t) (s.number d))) (f + n - 1) (end_of xs c.args.place f n r)
