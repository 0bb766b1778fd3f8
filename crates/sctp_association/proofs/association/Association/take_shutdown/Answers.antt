use Rattle.std.proofs.Common.{Ok, ap, arith}
use Rattle.sctp_association.proofs.Telling.{end_then, to_low}
use Rattle.std.proofs.Common.{drop, refl, rules, ◌∙◌}
use Rattle.sctp_chunks.specs.Wire.{shutdown_chunk}
use Rattle.sctp_datagram.specs.Framing.{StartsWith}
use Rattle.sctp_association.proofs.Arrived.{came_same, came_then, sender_came}
use Rattle.sctp_association.proofs.AcksOn.{told_as}
use Rattle.sctp_association.proofs.Begun.{quiet_shutdown}
use Rattle.std.proofs.Common.{◌≡◌}
use Rattle.sctp_association.proofs.Rows.{follows_from, follows_step}
use Rattle.sctp_association.proofs.Shutting.{shutdown_still, shuts_still}
use Rattle.sctp_association.specs.Shutting.{ShutsBy}
use Rattle.sctp_association.proofs.Known.{keeps_by, knows_shutdown}
use Rattle.sctp_association.proofs.Going.{shutdown_read}
use Rattle.std.proofs.Common.{sym}
use Rattle.sctp_association.proofs.Brought.{low_tsn, whole_passed}
use Rattle.sctp_association.specs.StreamSet.{is_in}
use Rattle.sctp_association.specs.Events.{whole_from}
use Rattle.sctp_association.specs.declared.event.Events.{Events}
use Rattle.sctp_association.specs.Lows.{PutsAll}
use Rattle.sctp_association.specs.declared.outbound.Outbound.{Outbound}
use Rattle.sctp_sender.specs.Thresholds.{fell}
use Rattle.std.proofs.Common.{Bool, List, subst}
use Rattle.sctp_association.proofs.association.Association.take_shutdown.Goals as goal

pub returns-in_err-shutdown-clause-came : goal.returns-in_err-shutdown-clause-came
returns-in_err-shutdown-clause-came c = came_same _ _ _ refl

pub returns-in_default-clause-came : goal.returns-in_default-clause-came
returns-in_default-clause-came c = came_same _ _ _ refl

pub returns-then-not-is_again-clause-came : goal.returns-then-not-is_again-clause-came
returns-then-not-is_again-clause-came c = came_same _ _ _ refl

pub returns-in_err-_taken-clause-came : goal.returns-in_err-_taken-clause-came
returns-in_err-_taken-clause-came c =
    let reads : StartsWith (drop c.args.chunk.at c.args.datagram.now) (shutdown_chunk c.in-Some.shutdown.cumulative_tsn_ack) = search rules in
    sender_came _ _ c.requires.own _ reads _ _ _ c.take_shutdown.ensures.hearing

pub returns-clause-came : goal.returns-clause-came
returns-clause-came c =
    let reads : StartsWith (drop c.args.chunk.at c.args.datagram.now) (shutdown_chunk c.in-Some.shutdown.cumulative_tsn_ack) = search rules in
    came_then _ _ _ _ (sender_came _ _ c.requires.own _ reads _ _ _ c.take_shutdown.ensures.hearing)
    (came_same _ _ _ (quiet_shutdown _ _ _ _ _ _ c.follow.ensures.begun c.shutdown-answer.ensures.takes.answer))

pub returns-clause-peer : goal.returns-clause-peer
returns-clause-peer c =
    let on = c.follow.ensures.kept in
    keeps_by _ _ _ (knows_shutdown _ _ _ c.shutdown-answer.ensures.takes) on.config on.key on.machine on.owes
    (λ e. on.sending.0 (c.take_shutdown.ensures.limits.0 ∙ e), λ e. on.sending.1 (c.take_shutdown.ensures.limits.1 ∙ e))

pub returns-clause-tells : goal.returns-clause-tells
returns-clause-tells c = end_then (to_low _ _ _ _ c.take_shutdown.ensures.low (omega (arith, c.take_shutdown.ensures.room))) c.follow.ensures.tells.end

pub returns-in_err-_taken-clause-tells : goal.returns-in_err-_taken-clause-tells
returns-in_err-_taken-clause-tells c = to_low _ _ _ _ c.take_shutdown.ensures.low (omega (arith, c.take_shutdown.ensures.room))

-- what follows leaves the sending half
pub returns-clause-shuts : goal.returns-clause-shuts
returns-clause-shuts c =
    let reads : StartsWith (drop c.args.chunk.at c.args.datagram.now) (shutdown_chunk c.in-Some.shutdown.cumulative_tsn_ack) = search rules in
    let same : c.follow.new.self.outbound ≡ c.take_shutdown.new.self =
    shutdown_still _ _ _ _ c.shutdown-answer.ensures.takes.answer c.follow.ensures.sending c.follow.ensures.shutdown in
    let shuts : ShutsBy c.in-Some.shutdown.cumulative_tsn_ack c.args.now c.args.self.now.outbound c.take_shutdown.new.self = search rules in
    shuts_still _ _ _ _ _ _ same (record { tsn = c.in-Some.shutdown.cumulative_tsn_ack; reads = reads; shuts = shuts })

-- a SHUTDOWN is read
pub returns-in_default-clause-expected : goal.returns-in_default-clause-expected
returns-in_default-clause-expected c typ =
    let read = shutdown_read _ _ c.requires.place typ in
    absurd (c.in_ok-shutdown.ensures.some read.0 read.1.0 read.1.1 (ap Ok c.in_default.is))

pub returns-clause-acks : goal.returns-clause-acks
returns-clause-acks c next = told_as _ _ _ _ _ c.shutdown-answer.ensures.takes.answer c.follow.ensures.acks

pub returns-clause-row : goal.returns-clause-row
returns-clause-row c =
    let old = c.args.self.now in
    let takes = c.shutdown-answer.ensures.takes in
    follows_step _ 0 c.args.now old c.follow.new.self _ _ takes.machine takes.answer c.follow.ensures.kept.machine (
    follows_from _ 0 old.machine.state _ c.args.now old _ c.follow.new.self c.follow.ensures.answer c.state-before.ensures refl refl refl refl refl refl
    )

pub returns-clause-events : goal.returns-clause-events
returns-clause-events c =
    let old = c.args.self.now.events in
    let new = c.follow.new.self.events in
    let is = whole_passed _ _ _ c.follow.new.self c.follow.ensures.tells in
    is ∙ ap (λ l. record (whole_from old new) { low = l }) (sym (ap (λ (e : Events). e.low) is))

-- the buffered amount of a stream falls by it
pub returns-clause-low : goal.returns-clause-low
returns-clause-low c s w =
    let is = whole_passed _ _ _ c.follow.new.self c.follow.ensures.tells in
    let tsn = c.in-Some.shutdown.cumulative_tsn_ack in
    let reads : StartsWith (drop c.args.chunk.at c.args.datagram.now) (shutdown_chunk tsn) = search rules in
    low_tsn c.args.chunk c.args.datagram.now c.args.self.now tsn c.take_shutdown.new.low reads c.take_shutdown.ensures.fell s
    (sym (ap (λ (e : Events). is_in s e.low) is) ∙ w)

pub returns-in_err-_taken-clause-low : goal.returns-in_err-_taken-clause-low
returns-in_err-_taken-clause-low c =
    let tsn = c.in-Some.shutdown.cumulative_tsn_ack in
    let reads : StartsWith (drop c.args.chunk.at c.args.datagram.now) (shutdown_chunk tsn) = search rules in
    low_tsn c.args.chunk c.args.datagram.now c.args.self.now tsn c.take_shutdown.new.low reads c.take_shutdown.ensures.fell

-- what follows leaves the sending half, and tells of no amount
pub returns-clause-lows : goal.returns-clause-lows
returns-clause-lows c next =
    let old = c.args.self.now in
    let is = whole_passed _ _ _ c.follow.new.self c.follow.ensures.tells in
    let same : c.follow.new.self.outbound ≡ c.take_shutdown.new.self =
    shutdown_still _ _ _ _ c.shutdown-answer.ensures.takes.answer c.follow.ensures.sending c.follow.ensures.shutdown in
    let told : PutsAll (λ s. fell s old.outbound.sender c.take_shutdown.new.self.sender) old.events.low c.take_shutdown.new.low = search rules in
    subst (λ (o : Outbound). PutsAll (λ s. fell s old.outbound.sender o.sender) old.events.low c.follow.new.self.events.low) (sym same)
    (subst (λ (l : List Bool). PutsAll (λ s. fell s old.outbound.sender c.take_shutdown.new.self.sender) old.events.low l)
    (sym (ap (λ (e : Events). e.low) is)) told)
