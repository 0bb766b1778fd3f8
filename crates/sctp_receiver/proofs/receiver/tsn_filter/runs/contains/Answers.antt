use Rattle.std.proofs.Common.{◌∙◌}
use Rattle.sctp_receiver.proofs.TsnRuns.{contained}
use Rattle.sctp_receiver.proofs.receiver.tsn_filter.runs.contains.Goals as goal

pub returns-clause-answer : goal.returns-clause-answer
returns-clause-answer c = c.reaches.ensures.value
    ∙ contained c.args.base c.args.tsn c.args.runs.now.items c.ranges.base.fits c.ranges.tsn.fits c.requires c.spot_of.result c.spot_of.ensures.spot
