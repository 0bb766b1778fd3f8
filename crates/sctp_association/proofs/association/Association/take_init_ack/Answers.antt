use Rattle.sctp_association.specs.Rows.{FollowsAnswer}
use Rattle.sctp_handshake.specs.declared.state.State.{State}
use Rattle.sctp_association.proofs.Expected.{said_of, value_found, value_long}
use Rattle.sctp_association.proofs.InitAcks.{asked_host, asked_none, ended_on, ends_long}
use Rattle.sctp_chunks.specs.Framing.{value_at}
use Rattle.sctp_handshake.specs.InitValues.{host_name_of}
use Rattle.sctp_handshake.specs.declared.state.State.TheVariants.{CookieWait}
use Rattle.sctp_association.proofs.AcksOn.{told_as}
use Rattle.sctp_association.proofs.Rows.{follows_noted, follows_step}
use Rattle.sctp_association.specs.AcksDue.{AcksTold, acks_of}
use Rattle.sctp_association.proofs.Known.{within_same, within_then}
use Rattle.sctp_association.proofs.Telling.{end_same, end_then, tells_init_ack}
use Rattle.std.proofs.Common.{None, Some, ap, inr, refl, rules, subst, sym, ◌+◌, ◌≡◌, ◌∙◌}
use Rattle.std.specs.Prelude.{slice_range}
use Rattle.sctp_association.specs.Reports.{params_told, report_with, value_in}
use Rattle.sctp_association.specs.declared.due.Due.{Due}
use Rattle.sctp_association.proofs.Offered.{offered_alike, offered_same}
use Rattle.sctp_association.proofs.Offers.{init_ack_offered}
use Rattle.sctp_association.specs.Beginnings.{AnswersInit, BeginsBy}
use Rattle.sctp_association.specs.declared.association.Association.{Association}
use Rattle.sctp_association.specs.Halves.{halves_of}
use Rattle.sctp_association.proofs.Brought.{whole_passed}
use Rattle.sctp_association.specs.Events.{whole_from}
use Rattle.sctp_association.specs.Telling.{whole_of}
use Rattle.sctp_handshake.specs.InitValues.{cookie_in, init_in}
use Rattle.sctp_handshake.specs.declared.init_value.InitFault.TheVariants.{MissingCookie}
use Rattle.sctp_util.specs.Field.{u32_at}
use Rattle.std.proofs.Common.{inl}
use Rattle.std.specs.Prelude.{Err, is_some}
use Rattle.sctp_association.proofs.association.Association.take_init_ack.Goals as goal

pub returns-clause-came : goal.returns-clause-came
returns-clause-came c =
    let answers : AnswersInit c.args.datagram.now c.in-Ok-read_init_ack.read.0 = record {
      place = c.args.chunk;
      own = c.requires.own;
      typ = c.requires.typ;
      cookie = c.in-Ok-read_init_ack.read.1;
      reads = search rules;
    } in
    let rest = c.note_params.ensures.rest in
    let kept = c.follow.ensures.kept in
    let told = c.init_ack-answer.result.told in
    let begun =
    subst (λ (x : Association). BeginsBy told x.machine x.config (halves_of x) (halves_of c.follow.new.self)) rest c.follow.ensures.begun in
    init_ack_offered _ _ _ _ _ _ answers c.init_ack-answer.ensures.takes begun (record {
      config = kept.config ∙ ap (λ (x : Association). x.config) rest;
      key = kept.key ∙ ap (λ (x : Association). x.key) rest;
      machine = kept.machine ∙ ap (λ (x : Association). x.machine) rest;
      owes = λ t e. c.note_params.ensures.owes t (kept.owes t e);
      sending = within_then c.args.self.now c.note_params.new.self c.follow.new.self
          (within_same c.args.self.now c.note_params.new.self (ap (λ (x : Association). x.config) rest) (ap (λ (x : Association). x.outbound) rest))
          kept.sending;
    })

pub returns-clause-tells : goal.returns-clause-tells
returns-clause-tells c =
    let rest = c.note_params.ensures.rest in
    let told = c.follow.ensures.tells in
    tells_init_ack _ _ _ _ _ _ (c.follow.ensures.kept.machine ∙ ap (λ (x : Association). x.machine) rest) (end_then (end_same _ _ rest) told.end) told _
    c.init_ack-answer.ensures.takes

-- ## The row of its offer

pub returns-clause-row : goal.returns-clause-row
returns-clause-row c =
    let old = c.args.self.now in
    let takes = c.init_ack-answer.ensures.takes in
    let rest = c.note_params.ensures.rest in
    let waits : old.machine.state ≡ CookieWait = search rules in
    let value = c.in-Ok.ensures.value ∙ ap value_at c.bytes_of.ensures in
    let plain : host_name_of c.in-Ok.value.now ≡ None = search rules in
    let h = subst (λ (s : State). FollowsAnswer c.init_ack-answer.result c.in-Ok-read_init_ack.read.0.tag s c.args.now c.note_params.new.self c.follow.new.self)
    (sym waits) c.follow.ensures.answer in
    let noted : c.note_params.new.self.due ≡ record old.due { report = c.note_params.new.self.due.report } = c.note_params.ensures.due
    ∙ ap (λ r. record old.due { report = r }) (sym (ap (λ (d : Due). d.report) c.note_params.ensures.due)) in
    let params : c.in_ok-reported.reported ≡ params_told old.config.mtu (value_in c.args.datagram.now c.args.chunk) = search rules in
    record {
      waits = waits;
      plain = sym (ap host_name_of value) ∙ plain;
      offer = c.in-Ok-read_init_ack.read.0;
      place = c.in-Ok-read_init_ack.read.1;
      reads = search rules;
      follows = follows_step _ _ c.args.now old c.follow.new.self _ _ takes.machine takes.answer
          (c.follow.ensures.kept.machine ∙ ap (λ (x : Association). x.machine) rest)
          (follows_noted _ _ _ c.args.now old c.note_params.new.self c.follow.new.self noted (ap (λ (x : Association). x.is_over) rest)
          (ap (λ (x : Association). x.wants_shutdown) rest) (ap (λ (x : Association). x.control) rest) (ap (λ (x : Association). x.guard) rest)
          (ap (λ (x : Association). whole_of x.events) rest) h);
      acks = told_as _ _ _ _ _ takes.answer (subst (λ (x : Association). AcksTold c.init_ack-answer.result.told x.config.sack_delay (acks_of x.inbound)
          (acks_of c.follow.new.self.inbound)) rest c.follow.ensures.acks);
      cookie = λ none.
          let kept : c.note_params.new.self.cookie
          ≡ Some (slice_range (value_in c.args.datagram.now c.args.chunk) c.in-Ok-read_init_ack.read.1.at
          (c.in-Ok-read_init_ack.read.1.at + c.in-Ok-read_init_ack.read.1.length)) = search rules in
          (c.follow.ensures.stays (ap (λ a. a.told) takes.answer ∙ none)).cookie ∙ kept;
      told = c.follow.ensures.report ∙ ap (λ (d : Due). d.report) c.note_params.ensures.due ∙ ap (λ o. report_with o old.due.report) params;
    }

-- ## What is expected is not refused

pub returns-in_default-clause-expected : goal.returns-in_default-clause-expected
returns-in_default-clause-expected c expected r is = elim expected.brings [
  | inl brings ↦
      let said = said_of _ _ brings.reads in
      value_found c.args.datagram.now c.args.chunk c.requires.place (inr expected.typ) said.0 said.1 c.bytes_of.result.now c.bytes_of.ensures _
      c.in_default.ensures.fault
  | inr ends ↦ value_long c.args.datagram.now c.args.chunk c.requires.place (inr expected.typ) (ends_long c.args.chunk c.args.datagram.now ends)
      c.bytes_of.result.now c.bytes_of.ensures _ c.in_default.ensures.fault
]

pub returns-in_default-clause-came : goal.returns-in_default-clause-came
returns-in_default-clause-came c = offered_same _ _ _ refl

pub returns-in_err-raw-clause-came : goal.returns-in_err-raw-clause-came
returns-in_err-raw-clause-came c = offered_same _ _ _ refl

pub returns-in-Some-clause-came : goal.returns-in-Some-clause-came
returns-in-Some-clause-came c = offered_alike _ _ _ c.end_begun.ensures.halves c.end_begun.ensures.peer

pub returns-in-Err-MissingCookie-clause-came : goal.returns-in-Err-MissingCookie-clause-came
returns-in-Err-MissingCookie-clause-came c =
    offered_alike _ _ _ c.end_begun-in-Err-MissingCookie.ensures.halves c.end_begun-in-Err-MissingCookie.ensures.peer

pub returns-in-Err-clause-came : goal.returns-in-Err-clause-came
returns-in-Err-clause-came c = offered_same _ _ _ refl

pub returns-in_default-get-clause-came : goal.returns-in_default-get-clause-came
returns-in_default-get-clause-came c = offered_same _ _ _ refl

pub returns-in_err-cookie-clause-came : goal.returns-in_err-cookie-clause-came
returns-in_err-cookie-clause-came c = offered_same _ _ _ refl

pub returns-in_err-reported-clause-came : goal.returns-in_err-reported-clause-came
returns-in_err-reported-clause-came c = offered_same _ _ _ refl

-- ## What it brings

pub returns-clause-events : goal.returns-clause-events
returns-clause-events c =
    whole_passed _ _ _ _ c.follow.ensures.tells
    ∙ ap (λ (x : Association). whole_from x.events c.follow.new.self.events) c.note_params.ensures.rest

-- ## Where what was begun ends

pub returns-in-Some-clause-row : goal.returns-in-Some-clause-row
returns-in-Some-clause-row c =
    let old = c.args.self.now in
    let value = c.in-Ok.ensures.value ∙ ap value_at c.bytes_of.ensures in
    let found : host_name_of c.in-Ok.value.now ≡ Some c.in-Some.host = search rules in
    ended_on c.args.chunk c.args.datagram.now c.args.now old c.end_begun.new.self c.end_begun.result c.end_begun.ensures.never c.end_begun.ensures.whole
    (λ stop. record {
      waits = search rules;
      brings = record {
        why = inl (ap is_some (sym (ap host_name_of value) ∙ found));
        tagged = λ none. c.end_begun.ensures.tagged stop (ap (λ v. u32_at v 0) value ∙ none);
      };
      ends = asked_host c.args.chunk c.args.datagram.now c.in-Ok.value.now old c.end_begun.new.self value c.in-Some.host _ found (search rules)
          (c.end_begun.ensures.ends stop);
    })

pub returns-in-Err-MissingCookie-clause-row : goal.returns-in-Err-MissingCookie-clause-row
returns-in-Err-MissingCookie-clause-row c =
    let old = c.args.self.now in
    let value = c.in-Ok.ensures.value ∙ ap value_at c.bytes_of.ensures in
    let none : host_name_of c.in-Ok.value.now ≡ None = search rules in
    let missing : cookie_in (init_in c.in-Ok.value.now) ≡ Err MissingCookie = search rules in
    ended_on c.args.chunk c.args.datagram.now c.args.now old c.end_begun-in-Err-MissingCookie.new.self c.end_begun-in-Err-MissingCookie.result
    c.end_begun-in-Err-MissingCookie.ensures.never c.end_begun-in-Err-MissingCookie.ensures.whole
    (λ stop. record {
      waits = search rules;
      brings = record {
        why = inr (sym (ap (λ v. cookie_in (init_in v)) value) ∙ missing);
        tagged = λ tag. c.end_begun-in-Err-MissingCookie.ensures.tagged stop (ap (λ v. u32_at v 0) value ∙ tag);
      };
      ends = asked_none c.args.chunk c.args.datagram.now c.in-Ok.value.now old c.end_begun-in-Err-MissingCookie.new.self value none
          (c.end_begun-in-Err-MissingCookie.ensures.ends stop);
    })

pub returns-then-ne-clause-came : goal.returns-then-ne-clause-came
returns-then-ne-clause-came c = offered_same _ _ _ refl
