use Rattle.sctp_link.proofs.Names.{◌∙◌, ap, max}
use Rattle.sctp_link.proofs.acknowledgement.Rebased.{nearer-is}
use Rattle.sctp_link.proofs.link.sack_in.nearer.Goals as goal

pub returns : goal.returns
returns c = nearer-is c.args.behind c.max.result c.less-2.result c.args.block (c.max.ensures ∙ ap (λ n. max n 1) c.less.ensures) c.less-2.ensures
