use Rattle.std.proofs.Common.{◌∙◌, sym, subst}
use Rattle.std.specs.List.{All}
use Rattle.sctp_serial.specs.Window.{IsWithinHalf}
use Rattle.sctp_outbound.proofs.lemmas.payload_queue.Ends.{before_one, first_spans}
use Rattle.sctp_outbound.proofs.payload_queue.window.span_one_window.Goals as goal

pub returns-then-not-is_within_half-clause-no : goal.returns-then-not-is_within_half-clause-no
returns-then-not-is_within_half-clause-no c w =
    let spans = first_spans c.args.held.now.chunks c.args.tsn c.ranges.tsn.fits c.requires w in
    sym c.if-not-is_within_half.true ∙ c.is_within_half.ensures.no (subst (λ n. IsWithinHalf (before_one n) c.args.tsn) (sym c.first_of-base.ensures) spans.0)

pub returns-clause-no : goal.returns-clause-no
returns-clause-no c w =
    let spans = first_spans c.args.held.now.chunks c.args.tsn c.ranges.tsn.fits c.requires w in
    c.are_within_half.ensures.no (subst (λ n. All (λ x. IsWithinHalf (before_one n) x.tsn) c.args.held.now.chunks) (sym c.first_of-base.ensures) spans.1)
