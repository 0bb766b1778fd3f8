use Rattle.std.proofs.lemmas.Bool.{leb-false}
use Rattle.std.proofs.Common.{arith}
use Rattle.sctp_association.proofs.Leaving.{by_none, by_sealed, leaves_same, with_limit}
use Rattle.std.proofs.Common.{[], ap, false, inl, refl, subst, sym, ℕ, ◌∙◌}
use Rattle.sctp_association.proofs.Skips.{skip_none, skip_sealed}
use Rattle.sctp_association.specs.Leaving.{replies_of}
use Rattle.sctp_association.specs.Packets.{Stands}
use Rattle.sctp_association.specs.Skips.{LeavesSkip}
use Rattle.std.proofs.lemmas.Bool.{leb-true}
use Rattle.sctp_association.proofs.Congested.{pauses_not, pauses_then, unsent_of, within_same}
use Rattle.sctp_association.proofs.Others.{alike_same, at_then, none_sent_so, plain_after, sealed_after, sent_same, unsent_after, unsent_alike, unsent_err}
use Rattle.sctp_association.proofs.Owing.{rto_asks}
use Rattle.sctp_association.proofs.association.Association.put_packet.Goals as goal
use Rattle.sctp_association.specs.declared.outbound.Outbound.{Outbound}
use Rattle.sctp_association.specs.Idle.{WaitsForSacks, in_flight}
use Rattle.sctp_association.specs.Sending.{IsTimed}
use Rattle.sctp_packets.specs.Draft.{headed}
use Rattle.sctp_association.proofs.Requesting.{reset_kept, reset_none_so, reset_sealed, reset_unsent}
use Rattle.sctp_association.proofs.Probing as probe
use Rattle.sctp_association.proofs.Ordered as ordered

pub returns-in_err-begin-clause-made : goal.returns-in_err-begin-clause-made
returns-in_err-begin-clause-made c = none_sent_so _ _ _ c.from_residual.ensures.0 (unsent_alike c.args.self.now c.args.self.now (alike_same c.args.self.now) _)

pub returns-in_err-filled-clause-made : goal.returns-in_err-filled-clause-made
returns-in_err-filled-clause-made c = none_sent_so _ _ _ c.from_residual-in_err-filled.ensures.0 (
    unsent_after _ _ _ _ _ _ _ c.fill-filled.ensures.made c.args.header c.in_ok-begin.ensures.begun
    (leb-true _ 12 (sym c.is_empty.ensures ∙ c.if-is_empty.true)) _
    )

pub returns-then-is_empty-clause-made : goal.returns-then-is_empty-clause-made
returns-then-is_empty-clause-made c =
    sent_same _ _ _ _ _ _ (ap (λ o. o.sender) c.pause.ensures) (unsent_after _ _ _ _ _ _ _ c.fill-filled.ensures.made c.args.header
    c.in_ok-begin.ensures.begun (leb-true _ 12 (sym c.is_empty.ensures ∙ c.if-is_empty.true)) _)

pub returns-clause-made : goal.returns-clause-made
returns-clause-made c = sealed_after _ _ _ _ _ _ _ c.fill-filled.ensures.made c.args.header c.args.is_zero _ c.in_ok-begin.ensures.begun c.seal.ensures.sealed

pub returns-in_err-begin-clause-once : goal.returns-in_err-begin-clause-once
returns-in_err-begin-clause-once c = unsent_err _ c.from_residual.ensures.0

pub returns-in_err-filled-clause-once : goal.returns-in_err-filled-clause-once
returns-in_err-filled-clause-once c = unsent_err _ c.from_residual-in_err-filled.ensures.0

pub returns-clause-once : goal.returns-clause-once
returns-clause-once c _ =
    plain_after _ _ _ _ [] _ _ c.fill-filled.ensures.made c.args.header c.args.is_zero _ c.in_ok-begin.ensures.begun c.seal.ensures.sealed

-- ## Where nothing was put

pub returns-then-is_empty-clause-idle : goal.returns-then-is_empty-clause-idle
returns-then-is_empty-clause-idle c _ state =
    let short = leb-true _ 12 (sym c.is_empty.ensures ∙ c.if-is_empty.true) in
    let idle = c.in_ok-filled.ensures.idle state (headed c.args.header) c.in_ok-begin.ensures.begun short in
    let limit = c.fill-filled.new.self.draft.limit in
    record {
      acked = idle.acked;
      sent = subst (λ (o : Outbound). WaitsForSacks limit o.sender) (sym c.pause.ensures) idle.sent;
      timed = subst (λ (o : Outbound). IsTimed (in_flight o.sender) o.timer.at) (sym c.pause.ensures) idle.timed;
      skip = ap (λ (o : Outbound). o.is_skip_due) c.pause.ensures ∙ idle.skip;
    }

pub returns-then-is_empty-clause-owes : goal.returns-then-is_empty-clause-owes
returns-then-is_empty-clause-owes c _ state =
    let short = leb-true _ 12 (sym c.is_empty.ensures ∙ c.if-is_empty.true) in
    let owed = c.in_ok-filled.ensures.owes state (headed c.args.header) c.in_ok-begin.ensures.begun short in
    let control = owed.control in
    record {
      cookie_ack = owed.cookie_ack;
      control = record {
        shutdown = control.shutdown;
        shutdown_ack = control.shutdown_ack;
        heartbeat = control.heartbeat;
        beat = (rto_asks c.args.now c.fill-filled.new.self c.pause.new.self (ap (λ (o : Outbound). o.rto) c.pause.ensures)).beat control.beat;
        report = control.report;
        unknown = control.unknown;
      };
    }

-- ## What had room

pub returns-in_err-begin-clause-within : goal.returns-in_err-begin-clause-within
returns-in_err-begin-clause-within c = pauses_not c.args.now _ c.args.self.now.outbound c.args.self.now.outbound
    (unsent_of _ c.from_residual.ensures.0) (within_same c.args.now c.args.self.now.outbound c.args.self.now.outbound refl)

pub returns-in_err-filled-clause-within : goal.returns-in_err-filled-clause-within
returns-in_err-filled-clause-within c = pauses_not c.args.now _ c.args.self.now.outbound c.fill-filled.new.self.outbound
    (unsent_of _ c.from_residual-in_err-filled.ensures.0) c.fill-filled.ensures.within

pub returns-clause-within : goal.returns-clause-within
returns-clause-within c = pauses_not c.args.now _ c.args.self.now.outbound c.fill-filled.new.self.outbound refl c.fill-filled.ensures.within

pub returns-then-is_empty-clause-within : goal.returns-then-is_empty-clause-within
returns-then-is_empty-clause-within c = pauses_then c.args.now c.args.self.now.outbound c.fill-filled.new.self.outbound
    c.pause.new.self c.fill-filled.ensures.within c.pause.ensures

-- ## What leaves

pub returns-in_err-begin-clause-leaves : goal.returns-in_err-begin-clause-leaves
returns-in_err-begin-clause-leaves c = leaves_same _ _ _ _ (with_limit (replies_of c.args.self.now) _ c.begin.ensures.limit)

pub returns-in_err-filled-clause-leaves : goal.returns-in_err-filled-clause-leaves
returns-in_err-filled-clause-leaves c =
    let short = leb-true _ 12 (sym c.is_empty.ensures ∙ c.if-is_empty.true) in
    by_none c.args.header _ _ _ _ _ _ _ c.in_ok-begin.ensures.begun
    (with_limit (replies_of c.args.self.now) _ c.begin.ensures.limit) c.fill-filled.ensures.leaves refl _ short

pub returns-then-is_empty-clause-leaves : goal.returns-then-is_empty-clause-leaves
returns-then-is_empty-clause-leaves c =
    let short = leb-true _ 12 (sym c.is_empty.ensures ∙ c.if-is_empty.true) in
    by_none c.args.header _ _ _ _ _ _ _ c.in_ok-begin.ensures.begun
    (with_limit (replies_of c.args.self.now) _ c.begin.ensures.limit) c.fill-filled.ensures.leaves refl false short

pub returns-clause-leaves : goal.returns-clause-leaves
returns-clause-leaves c = by_sealed c.args.header _ _ _ _ _ _ _ c.in_ok-begin.ensures.begun
    (with_limit (replies_of c.args.self.now) _ c.begin.ensures.limit) c.fill-filled.ensures.leaves
    (with_limit (replies_of c.fill-filled.new.self) _ c.seal.ensures.limit) c.args.is_zero c.seal.ensures.sealed

-- ## HEARTBEATs

pub returns-in_err-filled-clause-moments : goal.returns-in_err-filled-clause-moments
returns-in_err-filled-clause-moments c =
    let m = c.fill-filled.ensures.moments in record { beat = m.beat; request = m.request; responses = m.responses }

pub returns-then-is_empty-clause-moments : goal.returns-then-is_empty-clause-moments
returns-then-is_empty-clause-moments c =
    let m = c.fill-filled.ensures.moments in
    at_then _ _ _ (record { beat = m.beat; request = m.request; responses = m.responses })
    (rto_asks c.args.now c.fill-filled.new.self c.pause.new.self (ap (λ (o : Outbound). o.rto) c.pause.ensures))

pub returns-clause-moments : goal.returns-clause-moments
returns-clause-moments c =
    let m = c.fill-filled.ensures.moments in record { beat = m.beat; request = m.request; responses = m.responses }

-- ## What can still leave

pub returns-clause-fewer : goal.returns-clause-fewer
returns-clause-fewer c _ =
    let long = leb-false _ 12 (sym c.is_empty.ensures ∙ c.if-is_empty.false) in
    let filled = c.fill-filled.ensures.fewer (headed c.args.header) c.in_ok-begin.ensures.begun in
    filled.fewer (omega (arith, c.in_ok-begin.ensures.head, long))

-- ## Whether a FORWARD-TSN is due

pub returns-in_err-begin-clause-skips : goal.returns-in_err-begin-clause-skips
returns-in_err-begin-clause-skips c due = inl due

pub returns-in_err-filled-clause-skips : goal.returns-in_err-filled-clause-skips
returns-in_err-filled-clause-skips c =
    let short = leb-true _ 12 (sym c.is_empty.ensures ∙ c.if-is_empty.true) in
    let old = c.args.self.now in
    skip_none c.args.header old.draft.limit old.outbound.sender _ _ _ _ _ _ c.in_ok-begin.ensures.begun
    (subst (λ (n : ℕ). LeavesSkip (Stands c.begin.new.self.bytes c.fill-filled.new.self.draft.bytes) n old.outbound.sender old.outbound.is_skip_due
    c.fill-filled.new.self.outbound.is_skip_due) c.begin.ensures.limit
    (c.fill-filled.ensures.skips (headed c.args.header) c.in_ok-begin.ensures.begun)) refl _ short

pub returns-then-is_empty-clause-skips : goal.returns-then-is_empty-clause-skips
returns-then-is_empty-clause-skips c =
    let short = leb-true _ 12 (sym c.is_empty.ensures ∙ c.if-is_empty.true) in
    let old = c.args.self.now in
    skip_none c.args.header old.draft.limit old.outbound.sender _ _ _ _ _ _ c.in_ok-begin.ensures.begun
    (subst (λ (n : ℕ). LeavesSkip (Stands c.begin.new.self.bytes c.fill-filled.new.self.draft.bytes) n old.outbound.sender old.outbound.is_skip_due
    c.fill-filled.new.self.outbound.is_skip_due) c.begin.ensures.limit
    (c.fill-filled.ensures.skips (headed c.args.header) c.in_ok-begin.ensures.begun))
    (ap (λ (o : Outbound). o.is_skip_due) c.pause.ensures) false short

pub returns-clause-skips : goal.returns-clause-skips
returns-clause-skips c =
    let old = c.args.self.now in
    skip_sealed c.args.header old.draft.limit old.outbound.sender _ _ _ _ _ _ c.in_ok-begin.ensures.begun
    (subst (λ (n : ℕ). LeavesSkip (Stands c.begin.new.self.bytes c.fill-filled.new.self.draft.bytes) n old.outbound.sender old.outbound.is_skip_due
    c.fill-filled.new.self.outbound.is_skip_due) c.begin.ensures.limit
    (c.fill-filled.ensures.skips (headed c.args.header) c.in_ok-begin.ensures.begun)) refl c.args.is_zero c.seal.ensures.sealed

-- ## A RE-CONFIG

pub returns-in_err-begin-clause-resets : goal.returns-in_err-begin-clause-resets
returns-in_err-begin-clause-resets c = reset_none_so c.args.now _ c.args.self.now.outbound.sender c.args.self.now _ c.from_residual.ensures.0
    (reset_kept c.args.now c.args.self.now.outbound.sender c.args.self.now _ refl)

pub returns-in_err-filled-clause-resets : goal.returns-in_err-filled-clause-resets
returns-in_err-filled-clause-resets c =
    let short = leb-true _ 12 (sym c.is_empty.ensures ∙ c.if-is_empty.true) in
    let put = c.fill-filled.ensures.resets (headed c.args.header) c.in_ok-begin.ensures.begun in
    reset_none_so c.args.now _ c.args.self.now.outbound.sender c.args.self.now _ c.from_residual-in_err-filled.ensures.0 (
    reset_unsent c.args.now c.args.self.now c.fill-filled.new.self c.args.header _ _ c.in_ok-begin.ensures.begun c.args.self.now.outbound.sender
    c.fill-filled.new.self put.chunks put.reconfig put.added short put.each put.leaves
    )

pub returns-then-is_empty-clause-resets : goal.returns-then-is_empty-clause-resets
returns-then-is_empty-clause-resets c =
    let short = leb-true _ 12 (sym c.is_empty.ensures ∙ c.if-is_empty.true) in
    let put = c.fill-filled.ensures.resets (headed c.args.header) c.in_ok-begin.ensures.begun in
    reset_unsent c.args.now c.args.self.now c.fill-filled.new.self c.args.header _ _ c.in_ok-begin.ensures.begun c.args.self.now.outbound.sender
    _ put.chunks put.reconfig put.added short put.each put.leaves

pub returns-clause-resets : goal.returns-clause-resets
returns-clause-resets c =
    let put = c.fill-filled.ensures.resets (headed c.args.header) c.in_ok-begin.ensures.begun in
    reset_sealed c.args.now c.args.self.now c.fill-filled.new.self c.args.header _ _ c.in_ok-begin.ensures.begun c.args.self.now.outbound.sender
    _ c.args.is_zero put.chunks put.reconfig put.added put.each put.leaves c.seal.ensures.sealed

pub returns-then-is_empty-clause-unasked : goal.returns-then-is_empty-clause-unasked
returns-then-is_empty-clause-unasked c _ state =
    let short = leb-true _ 12 (sym c.is_empty.ensures ∙ c.if-is_empty.true) in
    c.in_ok-filled.ensures.unasked state (headed c.args.header) c.in_ok-begin.ensures.begun short

-- ## Which HEARTBEAT

pub returns-in_err-begin-clause-beats : goal.returns-in_err-begin-clause-beats
returns-in_err-begin-clause-beats c = probe.beat_none_so c.args.now _ c.args.self.now _ c.from_residual.ensures.0
    (probe.beat_kept c.args.now c.args.self.now _ refl)

pub returns-in_err-filled-clause-beats : goal.returns-in_err-filled-clause-beats
returns-in_err-filled-clause-beats c =
    let short = leb-true _ 12 (sym c.is_empty.ensures ∙ c.if-is_empty.true) in
    let put = c.fill-filled.ensures.beats in
    probe.beat_none_so c.args.now _ c.args.self.now _ c.from_residual-in_err-filled.ensures.0 (
    probe.beat_unsent c.args.now c.args.self.now _ c.args.header _ _ c.in_ok-begin.ensures.begun put.chunks put.asks put.added put.each
    (probe.probes_paused c.args.now _ _ c.args.self.now c.fill-filled.new.self put.asks put.probes refl refl refl refl) short
    )

pub returns-then-is_empty-clause-beats : goal.returns-then-is_empty-clause-beats
returns-then-is_empty-clause-beats c =
    let short = leb-true _ 12 (sym c.is_empty.ensures ∙ c.if-is_empty.true) in
    let put = c.fill-filled.ensures.beats in
    probe.beat_unsent c.args.now c.args.self.now _ c.args.header _ _ c.in_ok-begin.ensures.begun put.chunks put.asks put.added put.each
    (probe.probes_paused c.args.now _ c.fill-filled.new.self c.args.self.now _ put.asks put.probes refl refl
    (ap (λ (o : Outbound). o.used) c.pause.ensures) refl) short

pub returns-clause-beats : goal.returns-clause-beats
returns-clause-beats c =
    let put = c.fill-filled.ensures.beats in
    probe.beat_sealed c.args.now c.args.self.now _ c.args.header _ _ c.in_ok-begin.ensures.begun put.chunks put.asks put.added put.each
    (probe.probes_paused c.args.now _ c.fill-filled.new.self c.args.self.now _ put.asks put.probes refl refl refl refl) c.args.is_zero
    c.seal.ensures.sealed

-- ## In their order

pub returns-in_err-begin-clause-order : goal.returns-in_err-begin-clause-order
returns-in_err-begin-clause-order c = unsent_err _ c.from_residual.ensures.0

pub returns-in_err-filled-clause-order : goal.returns-in_err-filled-clause-order
returns-in_err-filled-clause-order c = unsent_err _ c.from_residual-in_err-filled.ensures.0

pub returns-clause-order : goal.returns-clause-order
returns-clause-order c _ =
    ordered.order_sealed c.args.header _ _ _ c.args.is_zero c.in_ok-begin.ensures.begun c.fill-filled.ensures.order c.seal.ensures.sealed
