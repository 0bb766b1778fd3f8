use Rattle.std.proofs.Common.{◌≡◌, ◌∙◌, [], refl, arith, rules}
use Rattle.sctp_association.specs.HostCalls.{host_of, no_log}
use Rattle.sctp_association.specs.Hosts.{first_host}
use Rattle.sctp_association.specs.Beginnings.{BeginsToAsk, HasAsked}
use Rattle.sctp_association.specs.Links.{party}
use Rattle.sctp_association.specs.Lives.{asks}
use Rattle.sctp_association.specs.Pairs.{way_between}
use Rattle.sctp_association.proofs.pair.begin.Goals as goal

pub returns-in-Ok-clause-linked : goal.returns-in-Ok-clause-linked
returns-in-Ok-clause-linked c =
    let law = c.each_call_is_what_a_host_does.ensures in
    let forth = way_between c.args.secrets.first_tsn c.args.config c.args.peer_config in
    let back = way_between c.args.peer_secrets.first_tsn c.args.peer_config c.args.config in
    let new = c.in_ok-one.one in
    let one = c.connect.new.self in
    let other = c.in-Ok.other in
    let first : host_of new no_log ≡ first_host forth = law.begun forth c.args.config.mtu new refl c.in_ok-one.ensures.halves in
    let same : host_of one no_log ≡ host_of new no_log = law.quiet new one no_log c.connect.ensures.halves [] in
    let second : host_of other no_log ≡ first_host back = law.begun back c.args.peer_config.mtu other refl c.in-Ok.ensures.halves in
    let linked = c.two_associations_go_on.ensures.begun forth back (party one no_log) (party other no_log) (same ∙ first) second in
    let set = c.two_associations_begin_once.ensures in
    let made = (set.begun forth back (party new no_log) (party other no_log) c.args.config c.args.peer_config c.args.secrets.cookie_key
    c.args.peer_secrets.cookie_key first second c.in_ok-one.ensures.made c.in-Ok.ensures.made (record { most = refl; limits = refl })
    (record { most = refl; limits = refl })).0 in
    let asked : BeginsToAsk new one × HasAsked one = (search rules, search rules) in
    let next = set.quiet forth back asks [] (party new no_log) (party one no_log) (party other no_log) made refl asked tt same refl in
    record { link = linked.0; plain = linked.1; set = next.next; fit = ((search rules, omega arith), (search rules, omega arith)) }

pub invariant_of-one : goal.invariant_of-one
invariant_of-one c = record { limited = c.connect.new.self.limited }
