use Rattle.std.proofs.Common.{suc, ◌-◌, sym, rules}
use Rattle.sctp_sender.proofs.Tells.{told-none, told-place}
use Rattle.sctp_sender.proofs.sender.flight.returns.tell_of.Goals as goal

pub returns-in-None : goal.returns-in-None
returns-in-None c = sym (told-none c.args.blocks.now (suc c.args.place - c.args.count) (search rules))

pub returns-in-Some : goal.returns-in-Some
returns-in-Some c = told-place c.args.blocks.now c.in-Some.last.now c.args.count c.args.place c.requires.sorted (search rules) c.requires.least
