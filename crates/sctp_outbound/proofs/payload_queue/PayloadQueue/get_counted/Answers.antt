use Rattle.std.proofs.Common.{sym, ap, is_some}
use Rattle.sctp_serial.proofs.lemmas.Serials.{find_held, not_found}
use Rattle.sctp_outbound.proofs.payload_queue.PayloadQueue.get_counted.Goals as goal

pub returns-in-Ok-clause-value : goal.returns-in-Ok-clause-value
returns-in-Ok-clause-value c = rw (← c.self.view_is) (sym (find_held _ c.args.tsn c.self.invariant.serial _ _ c.in-Ok.ensures.found))

pub returns-in-Err-clause-value : goal.returns-in-Err-clause-value
returns-in-Err-clause-value c = rw (← c.self.view_is) (sym (not_found _ c.args.tsn c.in-Err.ensures.absent))

pub returns-in-Ok-clause-variant : goal.returns-in-Ok-clause-variant
returns-in-Ok-clause-variant c = rw (← c.self.view_is) (sym (ap is_some (find_held _ c.args.tsn c.self.invariant.serial _ _ c.in-Ok.ensures.found)))

pub returns-in-Err-clause-variant : goal.returns-in-Err-clause-variant
returns-in-Err-clause-variant c = rw (← c.self.view_is) (sym (ap is_some (not_found _ c.args.tsn c.in-Err.ensures.absent)))
