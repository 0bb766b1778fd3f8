use Rattle.std.proofs.Common.{◌≡◌, true, refl, rules}
use Rattle.sctp_channels.proofs.Coming.{comes_known, comes_none}
use Rattle.sctp_channels.proofs.Following.{data_told}
use Rattle.sctp_channels.specs.Reading.{tells_data}
use Rattle.sctp_channels.proofs.channels.Channels.knows_next.Goals as goal

pub returns-then-is_of_application-clause-comes : goal.returns-then-is_of_application-clause-comes
returns-then-is_of_application-clause-comes c now =
    let told : tells_data c.next_len.result ≡ true = search rules in
    let next = data_told true _ _ c.next_len.ensures told in
    comes_known now 0 c.args.stream c.knows.result _ _ _ _ _ (comes_none now _ _ refl) next c.knows.ensures.rest c.knows.ensures.ok c.knows.ensures.err
