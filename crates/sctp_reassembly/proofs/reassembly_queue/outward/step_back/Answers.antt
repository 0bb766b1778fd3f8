use Rattle.std.proofs.Common.{get_or, sym, ◌∙◌, arith}
use Rattle.std.proofs.lemmas.List.{get_or_default}
use Rattle.sctp_serial.proofs.lemmas.ListEdits.{an_element}
use Rattle.sctp_reassembly.proofs.lemmas.reassembly_queue.UnassembledRuns.{start_of, none_at_zero, none_at_break, cut_before}
use Rattle.sctp_reassembly.proofs.reassembly_queue.outward.step_back.Goals as goal

pub returns-then-side-eq0-clause-none : goal.returns-then-side-eq0-clause-none
returns-then-side-eq0-clause-none c f n r =
    let xs = c.args.unassembled.now.chunks in
    let s = c.requires.side in
    let d = an_element xs c.args.place c.requires.in_range in
    let x = get_or xs c.args.side.place d in
    let read = get_or_default xs c.args.side.place d x (omega (arith, s.at_or_before, c.requires.in_range)) in
    none_at_zero xs c.args.place c.args.side.place x read (s.begins d
    ∙ c.if-side.false) s.at_or_before c.requires.in_range s.no_other c.if-side-eq0.true f (start_of xs c.args.place f n r)

pub returns-then-before-clause-none : goal.returns-then-before-clause-none
returns-then-before-clause-none c f n r =
    let xs = c.args.unassembled.now.chunks in
    let s = c.requires.side in
    let d = an_element xs c.args.place c.requires.in_range in
    let x = get_or xs c.args.side.place d in
    let read = get_or_default xs c.args.side.place d x (omega (arith, s.at_or_before, c.requires.in_range)) in
    cut_before xs c.args.place c.args.side.place x read (s.begins d ∙ c.if-side.false) s.at_or_before c.requires.in_range s.no_other (c.requires.alone c.if-alone.true)
    c.look-before.result.now (omega (arith, c.if-side-eq0.false)) c.look-before.ensures.value c.if-before.true f n r

pub returns-then-side-before-clause-none : goal.returns-then-side-before-clause-none
returns-then-side-before-clause-none c f n r =
    let xs = c.args.unassembled.now.chunks in
    let s = c.requires.side in
    let d = an_element xs c.args.place c.requires.in_range in
    let x = get_or xs c.args.side.place d in
    let read = get_or_default xs c.args.side.place d x (omega (arith, s.at_or_before, c.requires.in_range)) in
    none_at_break xs c.args.place c.args.side.place x read (s.begins d ∙ c.if-side.false) s.at_or_before c.requires.in_range s.no_other c.look-before.result.now
    (omega (arith, c.if-side-eq0.false)) c.look-before.ensures.value (λ e. c.if-side-before.true (sym (s.number d) ∙ e)) f (start_of xs c.args.place f n r)
