use Rattle.sctp_association.proofs.Ends.{if_then}
use Rattle.sctp_association.proofs.Expected.{as_same, as_taken, unknown_expected}
use Rattle.sctp_association.specs.Expected.{AsExpected, expects, is_received, may_begin, speaks}
use Rattle.sctp_association.specs.declared.association.arrivals.Step.{Step}
use Rattle.sctp_association.proofs.Telling.{tells_due, tells_peer, tells_still}
use Rattle.std.proofs.Common.{Ok, Option, ap, arith, refl, rules, subst, sym, ◌≡◌, ◌∙◌, inl}
use Rattle.std.specs.Prelude.{◌&&◌, ◌||◌, is_some, true}
use Rattle.sctp_association.proofs.AcksOn.{acks_row, acks_rows, told_as}
use Rattle.sctp_association.specs.AcksDue.{acks_of}
use Rattle.sctp_association.specs.declared.association.Association.{Association}
use Rattle.sctp_association.specs.declared.inbound.Inbound.{Inbound}
use Rattle.sctp_association.proofs.Single.{alone_by, alone_plain, cause_on, is_plain, plain_other}
use Rattle.sctp_association.proofs.Rows.{follows_from, follows_step, row_abort, row_other, row_steps, row_typ, steps_on, tag_other}
use Rattle.sctp_association.specs.Fresh.{fresh_tag}
use Rattle.sctp_association.specs.Causes.{cause_in}
use Rattle.sctp_association.specs.Rows.{FollowsStep, error_row, tag_to}
use Rattle.sctp_association.specs.declared.association.arrivals.Step.TheVariants.{Next}
use Rattle.sctp_handshake.specs.Cookies.{on_cookie_ack}
use Rattle.sctp_handshake.specs.Endings.{on_abort, on_shutdown, on_shutdown_ack, on_shutdown_complete}
use Rattle.sctp_handshake.specs.Machines.{dropped}
use Rattle.sctp_association.proofs.Arrived.{came_alike, came_same}
use Rattle.sctp_association.proofs.Begun.{quiet_complete, quiet_shutdown_ack}
use Rattle.sctp_association.proofs.Known.{keeps_by, knows_complete, knows_shutdown_ack}
use Rattle.sctp_association.proofs.Offered.{offered_alike, offered_calls, offered_fresh, offered_kept, offered_less}
use Rattle.sctp_association.specs.declared.association.Association.{Association}
use Rattle.sctp_association.specs.StreamSet.{is_in}
use Rattle.sctp_association.specs.declared.event.Events.{Events}
use Rattle.sctp_association.proofs.Brought.{brings_by, brings_none, brings_whole, whole_passed}
use Rattle.sctp_association.proofs.association.Association.take_control.Goals as goal

pub returns-in-4-clause-came : goal.returns-in-4-clause-came
returns-in-4-clause-came c = offered_kept _ _ _ (came_alike _ _ _ c.take_heartbeat.ensures.halves) c.take_heartbeat.ensures.kept

pub returns-in-5-clause-came : goal.returns-in-5-clause-came
returns-in-5-clause-came c = offered_kept _ _ _ (came_alike _ _ _ c.take_heartbeat_ack.ensures.halves) c.take_heartbeat_ack.ensures.kept

pub returns-in-6-clause-came : goal.returns-in-6-clause-came
returns-in-6-clause-came c = offered_alike _ _ _ c.take_abort.ensures.halves c.take_abort.ensures.peer

pub returns-in-7-clause-came : goal.returns-in-7-clause-came
returns-in-7-clause-came c = offered_calls _ _ _ c.take_shutdown.ensures.came c.take_shutdown.ensures.peer

pub returns-in-8-clause-came : goal.returns-in-8-clause-came
returns-in-8-clause-came c =
    let kept = c.take_answer.ensures.kept in
    offered_calls _ _ _ (came_same _ _ _ (quiet_shutdown_ack _ _ _ _ _ _ c.take_answer.ensures.begun c.shutdown_ack-answer.ensures.takes.answer))
    (keeps_by _ _ _ (knows_shutdown_ack _ _ _ c.shutdown_ack-answer.ensures.takes) kept.config kept.key kept.machine kept.owes kept.sending)

pub returns-in-9-clause-came : goal.returns-in-9-clause-came
returns-in-9-clause-came c = offered_fresh _ c.args.chunk c.requires.own (search rules) _ _ c.take_error.ensures.halves c.take_error.ensures.peer

pub returns-in-11-clause-came : goal.returns-in-11-clause-came
returns-in-11-clause-came c = c.take_cookie_ack.ensures.came

pub returns-in-14-clause-came : goal.returns-in-14-clause-came
returns-in-14-clause-came c =
    let kept = c.take_answer-in-14.ensures.kept in
    offered_calls _ _ _ (came_same _ _ _ (quiet_complete _ _ _ _ _ _ c.take_answer-in-14.ensures.begun c.shutdown_complete-answer.ensures.takes.answer))
    (keeps_by _ _ _ (knows_complete _ _ _ c.shutdown_complete-answer.ensures.takes) kept.config kept.key kept.machine kept.owes kept.sending)

pub returns-in_default-clause-came : goal.returns-in_default-clause-came
returns-in_default-clause-came c = offered_less _ _ _ _ c.note_unknown.ensures.rest c.note_unknown.ensures.owes

pub returns-in-4-clause-tells : goal.returns-in-4-clause-tells
returns-in-4-clause-tells c = tells_still _ _ c.take_heartbeat.ensures.kept c.take_heartbeat.ensures.tells

pub returns-in-5-clause-tells : goal.returns-in-5-clause-tells
returns-in-5-clause-tells c = tells_still _ _ c.take_heartbeat_ack.ensures.kept c.take_heartbeat_ack.ensures.tells

pub returns-in-6-clause-tells : goal.returns-in-6-clause-tells
returns-in-6-clause-tells c = tells_peer _ _ c.take_abort.ensures.peer c.take_abort.ensures.tells

pub returns-in-7-clause-tells : goal.returns-in-7-clause-tells
returns-in-7-clause-tells c = tells_peer _ _ c.take_shutdown.ensures.peer c.take_shutdown.ensures.tells

pub returns-in-8-clause-tells : goal.returns-in-8-clause-tells
returns-in-8-clause-tells c =
    let kept = c.take_answer.ensures.kept in
    tells_peer _ _ (keeps_by _ _ _ (knows_shutdown_ack _ _ _ c.shutdown_ack-answer.ensures.takes) kept.config kept.key kept.machine kept.owes kept.sending)
    c.take_answer.ensures.tells.end

pub returns-in-9-clause-tells : goal.returns-in-9-clause-tells
returns-in-9-clause-tells c =
    let end = c.take_error.ensures.tells in
    let told = tells_peer _ _ c.take_error.ensures.peer.keeps (record { events = end.events; over = end.over; ended = end.ended }) in
    record { end = end; begun = told.begun; restarted = told.restarted }

pub returns-in-14-clause-tells : goal.returns-in-14-clause-tells
returns-in-14-clause-tells c =
    let kept = c.take_answer-in-14.ensures.kept in
    tells_peer _ _ (keeps_by _ _ _ (knows_complete _ _ _ c.shutdown_complete-answer.ensures.takes) kept.config kept.key kept.machine kept.owes kept.sending)
    c.take_answer-in-14.ensures.tells.end

pub returns-in_default-clause-tells : goal.returns-in_default-clause-tells
returns-in_default-clause-tells c = tells_due _ _ _ c.note_unknown.ensures.rest

-- ## A chunk that comes alone

pub returns-in-4-clause-alone : goal.returns-in-4-clause-alone
returns-in-4-clause-alone c other tag =
    let typ : c.args.chunk.typ ≡ 4 = search rules in
    let d = c.args.datagram.now in
    alone_by c.args.chunk tag d c.args.now c.args.self.now c.take_heartbeat.new.self c.take_heartbeat.result
    (brings_none c.args.chunk c.args.datagram.now c.args.self.now c.take_heartbeat.new.self c.take_heartbeat.ensures.events)
    (λ e. acks_rows c.args.chunk d c.args.now c.args.self.now c.take_heartbeat.new.self (dropped c.args.self.now.machine)
    (row_typ c.args.chunk d c.args.now c.args.self.now _ typ) c.take_heartbeat.result
    (λ _. ap (λ (o : Option Inbound). acks_of o) c.take_heartbeat.ensures.inbound)
    (λ is. omega (arith, is, typ)) (λ is. omega (arith, is, typ)))
    (λ is. absurd (omega (arith, is, typ)))
    (λ is. absurd (omega (arith, is, typ))) (λ is. absurd (omega (arith, is, typ))) (λ is. c.take_heartbeat.ensures.answers)
    (λ is. absurd (omega (arith, is, typ))) (λ is. absurd (omega (arith, is, typ))) (λ is. absurd (omega (arith, is, typ)))
    (λ is. absurd (omega (arith, is, typ)))
    (λ e. row_steps c.args.chunk d c.args.now c.args.self.now c.take_heartbeat.new.self (dropped c.args.self.now.machine) 0 (λ is. omega (arith, is, typ))
    (row_typ c.args.chunk d c.args.now c.args.self.now _ typ) (ap (λ n. tag_to n c.args.self.now.machine) typ)
    c.take_heartbeat.result (c.take_heartbeat.ensures.row c.args.now))

pub returns-in-5-clause-alone : goal.returns-in-5-clause-alone
returns-in-5-clause-alone c other tag =
    let typ : c.args.chunk.typ ≡ 5 = search rules in
    let d = c.args.datagram.now in
    alone_by c.args.chunk tag d c.args.now c.args.self.now c.take_heartbeat_ack.new.self c.take_heartbeat_ack.result
    (brings_none c.args.chunk c.args.datagram.now c.args.self.now c.take_heartbeat_ack.new.self c.take_heartbeat_ack.ensures.events)
    (λ e. acks_rows c.args.chunk d c.args.now c.args.self.now c.take_heartbeat_ack.new.self (dropped c.args.self.now.machine)
    (row_typ c.args.chunk d c.args.now c.args.self.now _ typ) c.take_heartbeat_ack.result
    (λ _. ap (λ (o : Option Inbound). acks_of o) c.take_heartbeat_ack.ensures.inbound)
    (λ is. omega (arith, is, typ)) (λ is. omega (arith, is, typ)))
    (λ is. absurd (omega (arith, is, typ)))
    (λ is. absurd (omega (arith, is, typ))) (λ is. absurd (omega (arith, is, typ))) (λ is. absurd (omega (arith, is, typ)))
    (λ is. c.take_heartbeat_ack.ensures.beats) (λ is. absurd (omega (arith, is, typ))) (λ is. absurd (omega (arith, is, typ)))
    (λ is. absurd (omega (arith, is, typ)))
    (λ e. row_steps c.args.chunk d c.args.now c.args.self.now c.take_heartbeat_ack.new.self (dropped c.args.self.now.machine) 0 (λ is. omega (arith, is, typ))
    (row_typ c.args.chunk d c.args.now c.args.self.now _ typ) (ap (λ n. tag_to n c.args.self.now.machine) typ)
    c.take_heartbeat_ack.result c.take_heartbeat_ack.ensures.row)

pub returns-in-6-clause-alone : goal.returns-in-6-clause-alone
returns-in-6-clause-alone c other tag =
    let typ : c.args.chunk.typ ≡ 6 = search rules in
    alone_plain c.args.chunk tag c.args.datagram.now c.args.now c.args.self.now c.take_abort.new.self (Ok c.take_abort.result)
    (brings_whole c.args.chunk c.args.datagram.now c.args.self.now c.take_abort.new.self 6 typ refl c.take_abort.ensures.events)
    6 typ refl
    (acks_row c.args.chunk c.args.datagram.now c.args.now c.args.self.now c.take_abort.new.self (on_abort c.args.self.now.machine)
    (row_typ c.args.chunk c.args.datagram.now c.args.now c.args.self.now _ typ) c.take_abort.result (λ next. absurd (c.take_abort.ensures.next next))
    (λ is. omega (arith, is, typ)) (λ is. omega (arith, is, typ)))
    (row_abort c.args.chunk c.args.datagram.now c.args.now c.args.self.now c.take_abort.new.self c.take_abort.result typ
    c.take_abort.ensures.next c.take_abort.ensures.row)

pub returns-in-7-clause-alone : goal.returns-in-7-clause-alone
returns-in-7-clause-alone c other tag =
    let typ : c.args.chunk.typ ≡ 7 = search rules in
    let d = c.args.datagram.now in
    alone_by c.args.chunk tag d c.args.now c.args.self.now c.take_shutdown.new.self c.take_shutdown.result
    (brings_by c.args.chunk c.args.datagram.now c.args.self.now c.take_shutdown.new.self 7 typ c.take_shutdown.ensures.events refl refl refl
    c.take_shutdown.ensures.low)
    (λ e. acks_rows c.args.chunk d c.args.now c.args.self.now c.take_shutdown.new.self (on_shutdown c.args.self.now.machine)
    (row_typ c.args.chunk d c.args.now c.args.self.now _ typ) c.take_shutdown.result c.take_shutdown.ensures.acks
    (λ is. omega (arith, is, typ)) (λ is. omega (arith, is, typ)))
    (λ is. absurd (omega (arith, is, typ)))
    (λ is. absurd (omega (arith, is, typ))) (λ is. absurd (omega (arith, is, typ))) (λ is. absurd (omega (arith, is, typ)))
    (λ is. absurd (omega (arith, is, typ))) (λ is. c.take_shutdown.ensures.shuts) (λ is. absurd (omega (arith, is, typ)))
    (λ is. absurd (omega (arith, is, typ)))
    (λ e. row_steps c.args.chunk d c.args.now c.args.self.now c.take_shutdown.new.self (on_shutdown c.args.self.now.machine) 0 (λ is. omega (arith, is, typ))
    (row_typ c.args.chunk d c.args.now c.args.self.now _ typ) (ap (λ n. tag_to n c.args.self.now.machine) typ)
    c.take_shutdown.result c.take_shutdown.ensures.row)

pub returns-in-8-clause-alone : goal.returns-in-8-clause-alone
returns-in-8-clause-alone c other tag =
    let typ : c.args.chunk.typ ≡ 8 = search rules in
    let d = c.args.datagram.now in
    let took = c.shutdown_ack-answer.ensures.takes in
    let steps : c.take_answer.result ≡ Next → FollowsStep (on_shutdown_ack c.args.self.now.machine) c.peer_tag-tag.result c.args.now c.args.self.now
    c.take_answer.new.self = λ is.
    follows_step _ _ _ _ _ _ _ took.machine took.answer c.take_answer.ensures.kept.machine (
    follows_from _ _ c.args.self.now.machine.state _ _ c.args.self.now _ _ (c.take_answer.ensures.answer is) c.state-before.ensures refl refl refl refl refl
    refl
    ) in
    alone_plain c.args.chunk tag d c.args.now c.args.self.now c.take_answer.new.self (Ok c.take_answer.result)
    (brings_whole c.args.chunk c.args.datagram.now c.args.self.now c.take_answer.new.self 8 typ refl
    (whole_passed _ _ _ c.take_answer.new.self c.take_answer.ensures.tells))
    8 typ refl
    (acks_row c.args.chunk d c.args.now c.args.self.now c.take_answer.new.self (on_shutdown_ack c.args.self.now.machine)
    (row_typ c.args.chunk d c.args.now c.args.self.now _ typ) c.take_answer.result (λ next. told_as _ _ _ _ _ took.answer (c.take_answer.ensures.acks next))
    (λ is. omega (arith, is, typ)) (λ is. omega (arith, is, typ)))
    (row_steps c.args.chunk d c.args.now c.args.self.now c.take_answer.new.self (on_shutdown_ack c.args.self.now.machine) c.peer_tag-tag.result
    (λ is. omega (arith, is, typ))
    (row_typ c.args.chunk d c.args.now c.args.self.now _ typ) (ap (λ n. tag_to n c.args.self.now.machine) typ ∙ sym c.peer_tag-tag.ensures)
    (Ok c.take_answer.result) (steps_on _ _ _ _ _ c.take_answer.result steps c.take_answer.ensures.next c.take_answer.ensures.whole))

pub returns-in-9-clause-alone : goal.returns-in-9-clause-alone
returns-in-9-clause-alone c other tag =
    let typ : c.args.chunk.typ ≡ 9 = search rules in
    let d = c.args.datagram.now in
    alone_by c.args.chunk tag d c.args.now c.args.self.now c.take_error.new.self (Ok c.take_error.result)
    (brings_by c.args.chunk c.args.datagram.now c.args.self.now c.take_error.new.self 9 typ c.take_error.ensures.events refl refl refl
    (λ s w. inl (sym (ap (λ (e : Events). is_in s e.low) c.take_error.ensures.events) ∙ w)))
    (λ e. acks_rows c.args.chunk d c.args.now c.args.self.now c.take_error.new.self
    (error_row (cause_in d c.args.chunk) (fresh_tag c.args.self.now.key c.args.now c.args.self.now.machine.own) c.args.self.now.machine)
    (row_typ c.args.chunk d c.args.now c.args.self.now _ typ) (Ok c.take_error.result) (λ _. c.take_error.ensures.acks)
    (λ is. omega (arith, is, typ)) (λ is. omega (arith, is, typ)))
    (λ is. absurd (omega (arith, is, typ)))
    (λ is. absurd (omega (arith, is, typ))) (λ is. absurd (omega (arith, is, typ))) (λ is. absurd (omega (arith, is, typ)))
    (λ is. absurd (omega (arith, is, typ))) (λ is. absurd (omega (arith, is, typ)))
    (λ is. cause_on c.args.chunk d c.take_error.result c.args.self.now c.take_error.new.self c.take_error.ensures.next c.take_error.ensures.whole
    c.take_error.ensures.cause) (λ is. absurd (omega (arith, is, typ)))
    (λ e. row_steps c.args.chunk d c.args.now c.args.self.now c.take_error.new.self (error_row (cause_in d c.args.chunk)
    (fresh_tag c.args.self.now.key c.args.now c.args.self.now.machine.own) c.args.self.now.machine) 0 (λ is. omega (arith, is, typ))
    (row_typ c.args.chunk d c.args.now c.args.self.now _ typ) (ap (λ n. tag_to n c.args.self.now.machine) typ)
    (Ok c.take_error.result) c.take_error.ensures.row)

pub returns-in-11-clause-alone : goal.returns-in-11-clause-alone
returns-in-11-clause-alone c other tag =
    let typ : c.args.chunk.typ ≡ 11 = search rules in
    let d = c.args.datagram.now in
    alone_plain c.args.chunk tag d c.args.now c.args.self.now c.take_cookie_ack.new.self (Ok c.take_cookie_ack.result)
    (brings_whole c.args.chunk c.args.datagram.now c.args.self.now c.take_cookie_ack.new.self 11 typ refl c.take_cookie_ack.ensures.events)
    11 typ refl
    (acks_row c.args.chunk d c.args.now c.args.self.now c.take_cookie_ack.new.self (on_cookie_ack c.args.self.now.machine)
    (row_typ c.args.chunk d c.args.now c.args.self.now _ typ) c.take_cookie_ack.result c.take_cookie_ack.ensures.acks
    (λ is. omega (arith, is, typ)) (λ is. omega (arith, is, typ)))
    (row_steps c.args.chunk d c.args.now c.args.self.now c.take_cookie_ack.new.self (on_cookie_ack c.args.self.now.machine) 0 (λ is. omega (arith, is, typ))
    (row_typ c.args.chunk d c.args.now c.args.self.now _ typ) (ap (λ n. tag_to n c.args.self.now.machine) typ)
    (Ok c.take_cookie_ack.result) c.take_cookie_ack.ensures.row)

pub returns-in-14-clause-alone : goal.returns-in-14-clause-alone
returns-in-14-clause-alone c other tag =
    let typ : c.args.chunk.typ ≡ 14 = search rules in
    let d = c.args.datagram.now in
    let took = c.shutdown_complete-answer.ensures.takes in
    let steps : c.take_answer-in-14.result ≡ Next → FollowsStep (on_shutdown_complete c.args.self.now.machine) 0 c.args.now c.args.self.now
    c.take_answer-in-14.new.self = λ is.
    follows_step _ _ _ _ _ _ _ took.machine took.answer c.take_answer-in-14.ensures.kept.machine (
    follows_from _ _ c.args.self.now.machine.state _ _ c.args.self.now _ _ (c.take_answer-in-14.ensures.answer is) c.state-before-in-14.ensures
    refl refl refl refl refl refl
    ) in
    alone_plain c.args.chunk tag d c.args.now c.args.self.now c.take_answer-in-14.new.self (Ok c.take_answer-in-14.result)
    (brings_whole c.args.chunk c.args.datagram.now c.args.self.now c.take_answer-in-14.new.self 14 typ refl
    (whole_passed _ _ _ c.take_answer-in-14.new.self c.take_answer-in-14.ensures.tells))
    14 typ refl
    (acks_row c.args.chunk d c.args.now c.args.self.now c.take_answer-in-14.new.self (on_shutdown_complete c.args.self.now.machine)
    (row_typ c.args.chunk d c.args.now c.args.self.now _ typ) c.take_answer-in-14.result
    (λ next. told_as _ _ _ _ _ took.answer (c.take_answer-in-14.ensures.acks next))
    (λ is. omega (arith, is, typ)) (λ is. omega (arith, is, typ)))
    (row_steps c.args.chunk d c.args.now c.args.self.now c.take_answer-in-14.new.self (on_shutdown_complete c.args.self.now.machine) 0
    (λ is. omega (arith, is, typ))
    (row_typ c.args.chunk d c.args.now c.args.self.now _ typ) (ap (λ n. tag_to n c.args.self.now.machine) typ)
    (Ok c.take_answer-in-14.result) (steps_on _ _ _ _ _ c.take_answer-in-14.result steps c.take_answer-in-14.ensures.next c.take_answer-in-14.ensures.whole))

-- a chunk of another type makes nothing of the machine
pub returns-in_default-clause-alone : goal.returns-in_default-clause-alone
returns-in_default-clause-alone c other tag =
    let d = c.args.datagram.now in
    let plain : is_plain c.args.chunk.typ ≡ true = plain_other c.args.chunk.typ other.1 other.2 (search rules) (search rules) (search rules)
    (search rules) other.3 other.5 in
    alone_plain c.args.chunk tag d c.args.now c.args.self.now c.note_unknown.new.self c.note_unknown.result
    (brings_none c.args.chunk c.args.datagram.now c.args.self.now c.note_unknown.new.self (ap (λ (x : Association). x.events) c.note_unknown.ensures.rest))
    c.args.chunk.typ refl plain
    (acks_rows c.args.chunk d c.args.now c.args.self.now c.note_unknown.new.self (dropped c.args.self.now.machine)
    (row_other c.args.chunk.typ (cause_in d c.args.chunk) _ c.args.self.now.machine other.0 (search rules) (search rules) (search rules)
    (search rules) (search rules) (search rules)) c.note_unknown.result
    (λ _. ap (λ (x : Association). acks_of x.inbound) c.note_unknown.ensures.rest) other.0 other.4)
    (row_steps c.args.chunk d c.args.now c.args.self.now c.note_unknown.new.self (dropped c.args.self.now.machine) 0 (search rules)
    (row_other c.args.chunk.typ (cause_in d c.args.chunk) _ c.args.self.now.machine other.0 (search rules) (search rules) (search rules)
    (search rules) (search rules) (search rules)) (tag_other c.args.chunk.typ c.args.self.now.machine (search rules))
    c.note_unknown.result (c.note_unknown.ensures.row c.args.now))

-- ## Where a chunk is taken

pub returns-in-4-clause-expected : goal.returns-in-4-clause-expected
returns-in-4-clause-expected c other reset =
    let typ : c.args.chunk.typ ≡ 4 = search rules in
    as_same (is_some c.args.self.now.machine.peer) (c.take_heartbeat.result) (c.take_heartbeat.ensures.expected typ)
    (expects c.args.chunk.typ c.args.self.now) (sym (ap (λ n. expects n c.args.self.now) typ))

pub returns-in-5-clause-expected : goal.returns-in-5-clause-expected
returns-in-5-clause-expected c other reset =
    let typ : c.args.chunk.typ ≡ 5 = search rules in
    as_same (is_some c.args.self.now.heartbeat) (c.take_heartbeat_ack.result) (c.take_heartbeat_ack.ensures.expected typ)
    (expects c.args.chunk.typ c.args.self.now) (sym (ap (λ n. expects n c.args.self.now) typ))

pub returns-in-6-clause-expected : goal.returns-in-6-clause-expected
returns-in-6-clause-expected c other reset =
    let typ : c.args.chunk.typ ≡ 6 = search rules in
    as_same (speaks (on_abort c.args.self.now.machine).answer) (Ok c.take_abort.result) c.take_abort.ensures.expected
    (expects c.args.chunk.typ c.args.self.now) (sym (ap (λ n. expects n c.args.self.now) typ))

pub returns-in-7-clause-expected : goal.returns-in-7-clause-expected
returns-in-7-clause-expected c other reset =
    let typ : c.args.chunk.typ ≡ 7 = search rules in
    as_same (speaks (on_shutdown c.args.self.now.machine).answer || is_received c.args.self.now.machine.state) (c.take_shutdown.result)
    (c.take_shutdown.ensures.expected typ) (expects c.args.chunk.typ c.args.self.now) (sym (ap (λ n. expects n c.args.self.now) typ))

pub returns-in-8-clause-expected : goal.returns-in-8-clause-expected
returns-in-8-clause-expected c other reset =
    let typ : c.args.chunk.typ ≡ 8 = search rules in
    as_same (speaks c.shutdown_ack-answer.result) (Ok c.take_answer.result) c.take_answer.ensures.expected (expects c.args.chunk.typ c.args.self.now)
    (ap speaks c.shutdown_ack-answer.ensures.takes.answer ∙ sym (ap (λ n. expects n c.args.self.now) typ))

pub returns-in-9-clause-expected : goal.returns-in-9-clause-expected
returns-in-9-clause-expected c other reset =
    let typ : c.args.chunk.typ ≡ 9 = search rules in
    as_taken (expects c.args.chunk.typ c.args.self.now) c.take_error.result (ap (λ n. expects n c.args.self.now) typ) c.take_error.ensures.never

pub returns-in-11-clause-expected : goal.returns-in-11-clause-expected
returns-in-11-clause-expected c other reset =
    let typ : c.args.chunk.typ ≡ 11 = search rules in
    as_same (speaks (on_cookie_ack c.args.self.now.machine).answer && may_begin c.args.self.now) (Ok c.take_cookie_ack.result)
    c.take_cookie_ack.ensures.expected (expects c.args.chunk.typ c.args.self.now) (sym (ap (λ n. expects n c.args.self.now) typ))

pub returns-in-14-clause-expected : goal.returns-in-14-clause-expected
returns-in-14-clause-expected c other reset =
    let typ : c.args.chunk.typ ≡ 14 = search rules in
    as_same (speaks c.shutdown_complete-answer.result) (Ok c.take_answer-in-14.result) c.take_answer-in-14.ensures.expected
    (expects c.args.chunk.typ c.args.self.now) (ap speaks c.shutdown_complete-answer.ensures.takes.answer ∙ sym (ap (λ n. expects n c.args.self.now) typ))

pub returns-in_default-clause-expected : goal.returns-in_default-clause-expected
returns-in_default-clause-expected c other reset =
    let on = unknown_expected c.args.self.now c.args.chunk.typ other.1 other.2 (search rules) (search rules) (search rules) (search rules) (search rules)
    other.3 (search rules)
    (search rules) reset in
    if_then c.note_unknown.result (λ s is next. subst (λ (x : Step). AsExpected (expects c.args.chunk.typ c.args.self.now) x) (sym next) on)
    c.note_unknown.ensures.goes_on
