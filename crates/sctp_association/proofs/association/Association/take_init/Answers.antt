use Rattle.sctp_association.proofs.Kept.{same_due}
use Rattle.sctp_association.proofs.Expected.{offer_answered, value_found}
use Rattle.sctp_association.proofs.Openings.{ok_same}
use Rattle.sctp_handshake.specs.declared.init_value.Said.{Said}
use Rattle.std.proofs.Common.{Ok, Option, Some, ap, drop, inl, rules, subst, sym, ◌≡◌, ◌<◌, ◌∙◌}
use Rattle.sctp_association.specs.Openings.{owed_to_init}
use Rattle.sctp_handshake.specs.declared.answer.Reply.{Reply}
use Rattle.sctp_association.proofs.Fresh.{fresh_some}
use Rattle.sctp_association.proofs.Reporting.{told_to_init}
use Rattle.sctp_association.specs.Reports.{params_told}
use Rattle.sctp_association.specs.declared.due.Due.{Due}
use Rattle.sctp_association.proofs.Offers.{init_answered}
use Rattle.sctp_association.proofs.association.Association.take_init.Goals as goal
use Rattle.sctp_chunks.specs.Framing.{value_at}
use Rattle.sctp_handshake.specs.Beginnings.{init_reply}
use Rattle.sctp_handshake.specs.InitValues.{host_name_of, init_in}
use Rattle.sctp_association.specs.Openings.{OffersBy}
use Rattle.sctp_association.specs.Reports.{host_name_told, to_tag}
use Rattle.sctp_association.specs.declared.due.AloneKind.TheVariants.{HostName}
use Rattle.sctp_datagram.specs.declared.params.ParamPlace.{ParamPlace}
use Rattle.sctp_util.specs.Field.{u32_at}
use Rattle.std.proofs.Common.{List, None, ℕ}

-- the ticket has the offer of the INIT
pub returns-in_ok-self-in-Some-2-clause-owes : goal.returns-in_ok-self-in-Some-2-clause-owes
returns-in_ok-self-in-Some-2-clause-owes c t owed =
    let reads : init_in (value_at (drop c.args.chunk.at c.args.datagram.now)) ≡ Ok c.in-Ok-read_init.said = search rules in
    let answer : Some c.in-Some.reply ≡ init_reply c.in-Ok-read_init.said.offer c.fresh_tag-tag.result c.args.self.now.machine = search rules in
    init_answered _ _ c.requires.own c.requires.typ _ _ reads _ (subst (λ n. 0 < n) (sym c.fresh_tag-tag.ensures)
    (fresh_some c.args.self.now.key c.args.now c.in-Ok-read_init.said.offer)) _ answer _ t (c.owe_answer.ensures.owes t owed)

-- the reply of the row is due
pub returns-in_ok-self-in-Some-2-clause-offers : goal.returns-in_ok-self-in-Some-2-clause-offers
returns-in_ok-self-in-Some-2-clause-offers c =
    let none : host_name_of (value_at (drop c.args.chunk.at c.args.datagram.now)) ≡ None = search rules in
    let reads : init_in (value_at (drop c.args.chunk.at c.args.datagram.now)) ≡ Ok c.in-Ok-read_init.said = search rules in
    let answer : Some c.in-Some.reply ≡ init_reply c.in-Ok-read_init.said.offer c.fresh_tag-tag.result c.args.self.now.machine = search rules in
    let due : c.owe_answer.new.self.due ≡ record (
    owed_to_init (Some c.in-Some.reply) c.in-Ok-read_init.said.offer.tag c.args.self.now.due
    ) { unknown_params = c.owe_answer.new.self.due.unknown_params } = search rules in
    let params : c.in_ok-self-in-Some-2.field-0 ≡ params_told c.args.self.now.config.mtu (value_at (drop c.args.chunk.at c.args.datagram.now)) =
    search rules in
    let told : c.owe_answer.new.self.due.unknown_params ≡ params_told c.args.self.now.config.mtu (value_at (drop c.args.chunk.at c.args.datagram.now)) =
    ap (λ (d : Due). d.unknown_params) c.owe_answer.ensures.due
    ∙ told_to_init (Some c.in-Some.reply) c.in-Ok-read_init.said.offer.tag (record c.args.self.now.due { unknown_params = c.in_ok-self-in-Some-2.field-0 })
    ∙ params in
    subst (λ (o : Option ParamPlace). OffersBy o (value_at (drop c.args.chunk.at c.args.datagram.now)) c.args.now c.args.self.now c.owe_answer.new.self)
    (sym none) (record {
      said = c.in-Ok-read_init.said;
      reads = reads;
      due = due ∙ ap (λ u. record (owed_to_init (Some c.in-Some.reply) c.in-Ok-read_init.said.offer.tag c.args.self.now.due) { unknown_params = u }) told
          ∙ ap (λ (r : Option Reply). record (owed_to_init r c.in-Ok-read_init.said.offer.tag c.args.self.now.due) {
            unknown_params = params_told c.args.self.now.config.mtu (value_at (drop c.args.chunk.at c.args.datagram.now));
          }) (answer ∙ ap (λ n. init_reply c.in-Ok-read_init.said.offer n c.args.self.now.machine) c.fresh_tag-tag.ensures);
    })

-- one with a Host Name Address is answered by an ABORT
pub returns-in-Some-host_name_in-clause-offers : goal.returns-in-Some-host_name_in-clause-offers
returns-in-Some-host_name_in-clause-offers c =
    let value = c.in-Ok.ensures.value ∙ ap value_at c.bytes_of.ensures in
    let found : host_name_of c.in-Ok.value.now ≡ Some c.in-Some-host_name_in.host = search rules in
    let told : c.in_ok-self-in-Some.field-0 ≡ host_name_told c.in-Ok.value.now c.in-Some-host_name_in.host c.args.self.now.config.mtu =
    search rules in
    let due : c.owe_alone.new.self.due ≡ record c.args.self.now.due {
      alone = Some (to_tag HostName (u32_at c.in-Ok.value.now 0));
      unknown_params = c.in_ok-self-in-Some.field-0;
    } = search rules in
    subst (λ (v : List ℕ). OffersBy (host_name_of v) v c.args.now c.args.self.now c.owe_alone.new.self) value
    (subst (λ (o : Option ParamPlace). OffersBy o c.in-Ok.value.now c.args.now c.args.self.now c.owe_alone.new.self) (sym found)
    (due ∙ ap (λ (u : Option (List ℕ)). record c.args.self.now.due { alone = Some (to_tag HostName (u32_at c.in-Ok.value.now 0)); unknown_params = u }) told))

-- ## What is expected is not refused

pub returns-in_default-clause-expected : goal.returns-in_default-clause-expected
returns-in_default-clause-expected c expected r is =
    value_found c.args.datagram.now c.args.chunk c.requires.place (inl expected.typ) expected.said expected.reads c.bytes_of.result.now c.bytes_of.ensures _
    c.in_default.ensures.fault

pub returns-in_default-read_init-clause-expected : goal.returns-in_default-read_init-clause-expected
returns-in_default-read_init-clause-expected c expected r is =
    c.in_default-read_init.not-Ok expected.said (c.read_init.ensures ∙ ap init_in (c.in-Ok.ensures.value ∙ ap value_at c.bytes_of.ensures) ∙ expected.reads)

pub returns-in-None-clause-expected : goal.returns-in-None-clause-expected
returns-in-None-clause-expected c expected r is =
    let said : c.in-Ok-read_init.said ≡ expected.said = ok_same c.read_init.result _ _ c.in-Ok-read_init.is
    (c.read_init.ensures ∙ ap init_in (c.in-Ok.ensures.value ∙ ap value_at c.bytes_of.ensures) ∙ expected.reads) in
    offer_answered c.in-Ok-read_init.said.offer c.fresh_tag-tag.result c.args.self.now.machine
    (λ none. expected.tagged (sym (ap (λ (s : Said). s.offer.tag) said) ∙ none)) (sym c.init.ensures ∙ c.in-None.is)

pub returns-in-Some-host_name_in-clause-due : goal.returns-in-Some-host_name_in-clause-due
returns-in-Some-host_name_in-clause-due c = same_due c.args.self.now c.owe_alone.new.self _ c.owe_alone.ensures.rest
