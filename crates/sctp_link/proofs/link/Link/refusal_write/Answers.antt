use Rattle.sctp_link.proofs.Names.{arith}
use Rattle.sctp_link.proofs.upkeep.Observed.{few-fragments}
use Rattle.sctp_link.proofs.link.Link.refusal_write.Goals as goal

pub overflow_add-self-inside : goal.overflow_add-self-inside
overflow_add-self-inside g c =
    let few = few-fragments c.self.invariant.1 in
    omega (arith, few, c.fragments_in-fragments.ensures.short, c.if-len-max_message_size.false)
