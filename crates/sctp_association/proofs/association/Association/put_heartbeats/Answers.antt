use Rattle.std.proofs.Common.{[], Option, Some, ap, arith, sym, ℕ, ◌∙◌}
use Rattle.sctp_association.proofs.Idle.{added_longer, on_ok_so}
use Rattle.sctp_association.proofs.Known.{still_none, unmoved_then}
use Rattle.sctp_association.proofs.Others.{alike_then, beats_same, due_then, once_puts, others_puts, skip_kept}
use Rattle.sctp_association.proofs.Leaving.{into_kept}
use Rattle.sctp_association.proofs.Owing.{later_not_due}
use Rattle.sctp_path.specs.Timers.{is_due}
use Rattle.sctp_association.proofs.association.Association.put_heartbeats.Goals as goal
use Rattle.sctp_association.proofs.Requesting.{keeps_then, others_keep}
use Rattle.sctp_association.proofs.Probing as probe
use Rattle.sctp_association.proofs.Ordered as ordered
use Rattle.std.proofs.Common.{◌∷◌}

pub returns-in-Some-clause-leaves : goal.returns-in-Some-clause-leaves
returns-in-Some-clause-leaves c = into_kept c.args.self.now c.put_heartbeat_ack.new.self c.put_heartbeat.new.self [] _
    c.put_heartbeat.ensures.made.added c.put_heartbeat_ack.ensures.leaves c.put_heartbeat.ensures.replies

pub returns-in-Some-clause-owes : goal.returns-in-Some-clause-owes
returns-in-Some-clause-owes c = on_ok_so c.put_heartbeat.result (λ beats p draft short.
    let one = c.put_heartbeat_ack.ensures.others.added in
    let longer = added_longer _ _ _ _ one draft in
    let more = added_longer _ _ _ _ c.put_heartbeat.ensures.made.added (one.draft p draft) in (
      still_none _ _ c.put_heartbeat.ensures.kept.due.heartbeat (c.in_ok-put_heartbeat_ack.ensures.owes longer.0 (omega (arith, short, more.1))),
      beats (omega (arith, longer)) short,
    )) c.put_heartbeat.ensures.owes

pub returns-in_default-clause-owes : goal.returns-in_default-clause-owes
returns-in_default-clause-owes c p draft short =
    let longer = added_longer _ _ _ _ c.put_heartbeat_ack.ensures.others.added draft in (
      c.in_ok-put_heartbeat_ack.ensures.owes longer.0 short,
      ap (λ (o : Option ℕ). is_due c.args.now o) (sym c.next_heartbeat.ensures ∙ c.in-Some.is)
          ∙ later_not_due c.args.now (Some c.in-Some.at) c.if-at-now.false,
    )

pub returns-in_default-2-clause-owes : goal.returns-in_default-2-clause-owes
returns-in_default-2-clause-owes c p draft short =
    let longer = added_longer _ _ _ _ c.put_heartbeat_ack.ensures.others.added draft in (
      c.in_ok-put_heartbeat_ack.ensures.owes longer.0 short,
      ap (λ (o : Option ℕ). is_due c.args.now o) (sym c.next_heartbeat.ensures ∙ c.in_default.is),
    )

-- ## What is put

pub returns-in_err-put_heartbeat_ack-clause-made : goal.returns-in_err-put_heartbeat_ack-clause-made
returns-in_err-put_heartbeat_ack-clause-made c = once_puts c.args.self.now c.put_heartbeat_ack.new.self c.args.now
    (others_puts c.args.self.now c.put_heartbeat_ack.new.self c.put_heartbeat_ack.ensures.others)

pub returns-in_default-clause-made : goal.returns-in_default-clause-made
returns-in_default-clause-made c = once_puts c.args.self.now c.put_heartbeat_ack.new.self c.args.now
    (others_puts c.args.self.now c.put_heartbeat_ack.new.self c.put_heartbeat_ack.ensures.others)

pub returns-in_default-2-clause-made : goal.returns-in_default-2-clause-made
returns-in_default-2-clause-made c = once_puts c.args.self.now c.put_heartbeat_ack.new.self c.args.now
    (others_puts c.args.self.now c.put_heartbeat_ack.new.self c.put_heartbeat_ack.ensures.others)

pub returns-in-Some-clause-made : goal.returns-in-Some-clause-made
returns-in-Some-clause-made c = due_then c.args.now c.args.self.now c.put_heartbeat_ack.new.self c.put_heartbeat.new.self
    (once_puts c.args.self.now c.put_heartbeat_ack.new.self c.args.now
    (others_puts c.args.self.now c.put_heartbeat_ack.new.self c.put_heartbeat_ack.ensures.others)) c.put_heartbeat_ack.ensures.others.kept
    (beats_same c.args.now _ _ c.put_heartbeat_ack.ensures.others.timed)
    (skip_kept c.args.self.now c.put_heartbeat_ack.new.self c.put_heartbeat_ack.ensures.others.halves.path) c.put_heartbeat.ensures.made
    c.put_heartbeat.ensures.kept c.put_heartbeat.ensures.moments
    (skip_kept c.put_heartbeat_ack.new.self c.put_heartbeat.new.self c.put_heartbeat.ensures.halves.path)

pub returns-in-Some-clause-halves : goal.returns-in-Some-clause-halves
returns-in-Some-clause-halves c = alike_then _ _ _ c.put_heartbeat_ack.ensures.others.halves c.put_heartbeat.ensures.halves

pub returns-in-Some-clause-kept : goal.returns-in-Some-clause-kept
returns-in-Some-clause-kept c = unmoved_then _ _ _ c.put_heartbeat_ack.ensures.others.kept c.put_heartbeat.ensures.kept

-- ## No RE-CONFIG

pub returns-in_err-put_heartbeat_ack-clause-resets : goal.returns-in_err-put_heartbeat_ack-clause-resets
returns-in_err-put_heartbeat_ack-clause-resets c = others_keep c.args.self.now c.put_heartbeat_ack.new.self c.put_heartbeat_ack.ensures.others

pub returns-in_default-clause-resets : goal.returns-in_default-clause-resets
returns-in_default-clause-resets c = others_keep c.args.self.now c.put_heartbeat_ack.new.self c.put_heartbeat_ack.ensures.others

pub returns-in_default-2-clause-resets : goal.returns-in_default-2-clause-resets
returns-in_default-2-clause-resets c = others_keep c.args.self.now c.put_heartbeat_ack.new.self c.put_heartbeat_ack.ensures.others

pub returns-in-Some-clause-resets : goal.returns-in-Some-clause-resets
returns-in-Some-clause-resets c = keeps_then c.args.self.now c.put_heartbeat_ack.new.self c.put_heartbeat.new.self
    (others_keep c.args.self.now c.put_heartbeat_ack.new.self c.put_heartbeat_ack.ensures.others) c.put_heartbeat.ensures.resets

-- ## Which HEARTBEAT

pub returns-in_err-put_heartbeat_ack-clause-beats : goal.returns-in_err-put_heartbeat_ack-clause-beats
returns-in_err-put_heartbeat_ack-clause-beats c = probe.puts_none c.args.now c.args.self.now c.put_heartbeat_ack.new.self
    (probe.others_keep c.args.self.now c.put_heartbeat_ack.new.self c.put_heartbeat_ack.ensures.others)

pub returns-in_default-clause-beats : goal.returns-in_default-clause-beats
returns-in_default-clause-beats c = probe.puts_none c.args.now c.args.self.now c.put_heartbeat_ack.new.self
    (probe.others_keep c.args.self.now c.put_heartbeat_ack.new.self c.put_heartbeat_ack.ensures.others)

pub returns-in_default-2-clause-beats : goal.returns-in_default-2-clause-beats
returns-in_default-2-clause-beats c = probe.puts_none c.args.now c.args.self.now c.put_heartbeat_ack.new.self
    (probe.others_keep c.args.self.now c.put_heartbeat_ack.new.self c.put_heartbeat_ack.ensures.others)

pub returns-in-Some-clause-beats : goal.returns-in-Some-clause-beats
returns-in-Some-clause-beats c = probe.puts_later c.args.now c.args.self.now c.put_heartbeat_ack.new.self c.put_heartbeat.new.self
    (probe.others_keep c.args.self.now c.put_heartbeat_ack.new.self c.put_heartbeat_ack.ensures.others)
    (beats_same c.args.now _ _ c.put_heartbeat_ack.ensures.others.timed) c.put_heartbeat.ensures.beats

-- ## In their order

pub returns-in_err-put_heartbeat_ack-clause-order : goal.returns-in_err-put_heartbeat_ack-clause-order
returns-in_err-put_heartbeat_ack-clause-order c = ordered.order_more (5 ∷ []) (4 ∷ []) _ _ c.put_heartbeat_ack.ensures.order

pub returns-in_default-clause-order : goal.returns-in_default-clause-order
returns-in_default-clause-order c = ordered.order_more (5 ∷ []) (4 ∷ []) _ _ c.put_heartbeat_ack.ensures.order

pub returns-in_default-2-clause-order : goal.returns-in_default-2-clause-order
returns-in_default-2-clause-order c = ordered.order_more (5 ∷ []) (4 ∷ []) _ _ c.put_heartbeat_ack.ensures.order

pub returns-in-Some-clause-order : goal.returns-in-Some-clause-order
returns-in-Some-clause-order c = ordered.order_then (5 ∷ []) (4 ∷ []) _ _ _ c.put_heartbeat_ack.ensures.order c.put_heartbeat.ensures.order
