use Rattle.sctp_delivery.proofs.EveryRecent.{once-given}
use Rattle.sctp_delivery.proofs.laws.messages.no_tsn_is_taken_more_often_than_given.Goals as goal

pub returns : goal.returns
returns c = once-given
