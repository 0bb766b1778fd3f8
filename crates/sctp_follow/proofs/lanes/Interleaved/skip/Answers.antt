use Rattle.std.proofs.Common.{refl}
use Rattle.std.proofs.lemmas.Bool.{false≢true}
use Rattle.sctp_follow.specs.Forgetting.{held_of, none_due}
use Rattle.sctp_follow.proofs.Departing.{leaves_forgets}
use Rattle.sctp_follow.proofs.lanes.Interleaved.skip.Goals as goal

pub returns-clause-notes : goal.returns-clause-notes
returns-clause-notes c =
    leaves_forgets none_due (held_of c.args.self.now.lanes) (held_of c.skip_in.new.self.lanes) c.in_ok-passing.passing.messages.items c.deref.result.now
    c.args.self.now.spots c.args.self.now.spots c.skip_in.new.self.spots c.forget_read.new.self
    c.in_ok-passing.ensures.notes (λ t fits is. absurd (false≢true is)) (λ t late. refl) c.deref.ensures.value c.forget_read.ensures
