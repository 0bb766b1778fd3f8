use Rattle.sctp_association.specs.Congested.{Path}
use Rattle.sctp_association.proofs.Leaving.{into_kept, into_then}
use Rattle.std.proofs.Common.{[], ap, arith, ◌∙◌}
use Rattle.sctp_association.proofs.Idle.{added_longer, no_shutdown, none_or, on_ok, on_ok_so}
use Rattle.sctp_association.proofs.Congested.{full_of, full_others, full_then}
use Rattle.sctp_association.proofs.Known.{still_none, unmoved_then}
use Rattle.sctp_association.proofs.Others.{beats_same, beats_then, due_others, due_then, once_puts, others_then, skip_kept, timed_then}
use Rattle.sctp_association.proofs.Putting.{adds_then}
use Rattle.sctp_association.proofs.association.Association.put_control.Goals as goal
use Rattle.sctp_association.specs.Idle.{sack_delay}
use Rattle.sctp_association.proofs.Requesting.{asks_none, keeps_then, once_keep, others_keep, puts_later, puts_none}
use Rattle.sctp_association.proofs.Probing as probe
use Rattle.sctp_association.proofs.Ordered as ordered
use Rattle.std.proofs.Common.{◌∷◌}

pub returns-in_err-put_heartbeats-clause-made : goal.returns-in_err-put_heartbeats-clause-made
returns-in_err-put_heartbeats-clause-made c = due_then c.args.now c.args.self.now c.put_shutdown.new.self c.put_heartbeats.new.self
    (once_puts c.args.self.now c.put_shutdown.new.self c.args.now c.put_shutdown.ensures.made) c.put_shutdown.ensures.kept
    (beats_same c.args.now _ _ c.put_shutdown.ensures.timed) (skip_kept c.args.self.now c.put_shutdown.new.self c.put_shutdown.ensures.full.path)
    c.put_heartbeats.ensures.made c.put_heartbeats.ensures.kept c.put_heartbeats.ensures.moments
    (skip_kept c.put_shutdown.new.self c.put_heartbeats.new.self c.put_heartbeats.ensures.halves.path)

pub returns-in_err-put_unknown_stream-clause-made : goal.returns-in_err-put_unknown_stream-clause-made
returns-in_err-put_unknown_stream-clause-made c =
    let beaten = due_then c.args.now c.args.self.now c.put_shutdown.new.self c.put_heartbeats.new.self
    (once_puts c.args.self.now c.put_shutdown.new.self c.args.now c.put_shutdown.ensures.made) c.put_shutdown.ensures.kept
    (beats_same c.args.now _ _ c.put_shutdown.ensures.timed) (skip_kept c.args.self.now c.put_shutdown.new.self c.put_shutdown.ensures.full.path)
    c.put_heartbeats.ensures.made c.put_heartbeats.ensures.kept c.put_heartbeats.ensures.moments
    (skip_kept c.put_shutdown.new.self c.put_heartbeats.new.self c.put_heartbeats.ensures.halves.path) in
    let unmoved = unmoved_then c.args.self.now _ _ c.put_shutdown.ensures.kept c.put_heartbeats.ensures.kept in
    let beats = beats_then c.args.now c.args.self.now c.put_shutdown.new.self c.put_heartbeats.new.self
    (beats_same c.args.now _ _ c.put_shutdown.ensures.timed) c.put_heartbeats.ensures.moments in
    due_others c.args.now c.args.self.now c.put_heartbeats.new.self c.put_unknown_stream.new.self beaten unmoved beats
    (skip_kept c.args.self.now c.put_heartbeats.new.self (c.put_heartbeats.ensures.halves.path ∙ c.put_shutdown.ensures.full.path))
    c.put_unknown_stream.ensures.others

pub returns-in_err-put_report-clause-made : goal.returns-in_err-put_report-clause-made
returns-in_err-put_report-clause-made c =
    let beaten = due_then c.args.now c.args.self.now c.put_shutdown.new.self c.put_heartbeats.new.self
    (once_puts c.args.self.now c.put_shutdown.new.self c.args.now c.put_shutdown.ensures.made) c.put_shutdown.ensures.kept
    (beats_same c.args.now _ _ c.put_shutdown.ensures.timed) (skip_kept c.args.self.now c.put_shutdown.new.self c.put_shutdown.ensures.full.path)
    c.put_heartbeats.ensures.made c.put_heartbeats.ensures.kept c.put_heartbeats.ensures.moments
    (skip_kept c.put_shutdown.new.self c.put_heartbeats.new.self c.put_heartbeats.ensures.halves.path) in
    let unmoved = unmoved_then c.args.self.now _ _ c.put_shutdown.ensures.kept c.put_heartbeats.ensures.kept in
    let beats = beats_then c.args.now c.args.self.now c.put_shutdown.new.self c.put_heartbeats.new.self
    (beats_same c.args.now _ _ c.put_shutdown.ensures.timed) c.put_heartbeats.ensures.moments in
    due_others c.args.now c.args.self.now c.put_heartbeats.new.self c.put_report.new.self beaten unmoved beats
    (skip_kept c.args.self.now c.put_heartbeats.new.self (c.put_heartbeats.ensures.halves.path ∙ c.put_shutdown.ensures.full.path))
    (others_then _ _ _ c.put_unknown_stream.ensures.others c.put_report.ensures.others)

pub returns-clause-made : goal.returns-clause-made
returns-clause-made c =
    let beaten = due_then c.args.now c.args.self.now c.put_shutdown.new.self c.put_heartbeats.new.self
    (once_puts c.args.self.now c.put_shutdown.new.self c.args.now c.put_shutdown.ensures.made) c.put_shutdown.ensures.kept
    (beats_same c.args.now _ _ c.put_shutdown.ensures.timed) (skip_kept c.args.self.now c.put_shutdown.new.self c.put_shutdown.ensures.full.path)
    c.put_heartbeats.ensures.made c.put_heartbeats.ensures.kept c.put_heartbeats.ensures.moments
    (skip_kept c.put_shutdown.new.self c.put_heartbeats.new.self c.put_heartbeats.ensures.halves.path) in
    let unmoved = unmoved_then c.args.self.now _ _ c.put_shutdown.ensures.kept c.put_heartbeats.ensures.kept in
    let beats = beats_then c.args.now c.args.self.now c.put_shutdown.new.self c.put_heartbeats.new.self
    (beats_same c.args.now _ _ c.put_shutdown.ensures.timed) c.put_heartbeats.ensures.moments in
    let behind = others_then _ _ _ c.put_unknown_stream.ensures.others c.put_report.ensures.others in
    let told = due_others c.args.now c.args.self.now c.put_heartbeats.new.self c.put_report.new.self beaten unmoved beats
    (skip_kept c.args.self.now c.put_heartbeats.new.self (c.put_heartbeats.ensures.halves.path ∙ c.put_shutdown.ensures.full.path))
    behind in
    due_then c.args.now c.args.self.now c.put_report.new.self c.put_resets.new.self told (unmoved_then _ _ _ unmoved behind.kept)
    (beats_then c.args.now c.args.self.now c.put_heartbeats.new.self c.put_report.new.self beats (beats_same c.args.now _ _ behind.timed))
    (skip_kept c.args.self.now c.put_report.new.self
    (behind.halves.path ∙ c.put_heartbeats.ensures.halves.path ∙ c.put_shutdown.ensures.full.path))
    c.put_resets.ensures.made c.put_resets.ensures.kept c.put_resets.ensures.moments
    (skip_kept c.put_report.new.self c.put_resets.new.self c.put_resets.ensures.halves.path)

-- ## HEARTBEATs

pub returns-in_err-put_heartbeats-clause-moments : goal.returns-in_err-put_heartbeats-clause-moments
returns-in_err-put_heartbeats-clause-moments c = beats_then c.args.now c.args.self.now c.put_shutdown.new.self c.put_heartbeats.new.self
    (beats_same c.args.now _ _ c.put_shutdown.ensures.timed) c.put_heartbeats.ensures.moments

pub returns-in_err-put_unknown_stream-clause-moments : goal.returns-in_err-put_unknown_stream-clause-moments
returns-in_err-put_unknown_stream-clause-moments c =
    let first = beats_then c.args.now c.args.self.now c.put_shutdown.new.self c.put_heartbeats.new.self
    (beats_same c.args.now _ _ c.put_shutdown.ensures.timed) c.put_heartbeats.ensures.moments in
    beats_then c.args.now c.args.self.now c.put_heartbeats.new.self c.put_unknown_stream.new.self first
    (beats_same c.args.now _ _ c.put_unknown_stream.ensures.others.timed)

pub returns-in_err-put_report-clause-moments : goal.returns-in_err-put_report-clause-moments
returns-in_err-put_report-clause-moments c =
    let first = beats_then c.args.now c.args.self.now c.put_shutdown.new.self c.put_heartbeats.new.self
    (beats_same c.args.now _ _ c.put_shutdown.ensures.timed) c.put_heartbeats.ensures.moments in
    beats_then c.args.now c.args.self.now c.put_heartbeats.new.self c.put_report.new.self first
    (beats_same c.args.now _ _ (timed_then _ _ _ c.put_unknown_stream.ensures.others.timed c.put_report.ensures.others.timed))

pub returns-clause-moments : goal.returns-clause-moments
returns-clause-moments c =
    let first = beats_then c.args.now c.args.self.now c.put_shutdown.new.self c.put_heartbeats.new.self
    (beats_same c.args.now _ _ c.put_shutdown.ensures.timed) c.put_heartbeats.ensures.moments in
    let behind = others_then _ _ _ c.put_unknown_stream.ensures.others c.put_report.ensures.others in
    let told = beats_then c.args.now c.args.self.now c.put_heartbeats.new.self c.put_report.new.self first (beats_same c.args.now _ _ behind.timed) in
    beats_then c.args.now c.args.self.now c.put_report.new.self c.put_resets.new.self told c.put_resets.ensures.moments

-- ## Where nothing was put

pub returns-clause-owes : goal.returns-clause-owes
returns-clause-owes c = on_ok c.put_resets.result (λ p draft short.
    let beaten = c.put_heartbeats.ensures in
    let unknown = c.put_unknown_stream.ensures in
    let told = c.put_report.ensures in
    let reset = c.put_resets.ensures in
    let near = others_then _ _ _ unknown.others told.others in
    let kept = unmoved_then _ _ _ near.kept reset.kept in
    let behind = adds_then _ _ _ _ _ near.added reset.made.added in
    let all = unmoved_then c.put_shutdown.new.self _ _ beaten.kept kept in
    let added = adds_then _ _ _ _ _ beaten.made.added behind in
    let shut-draft = c.put_shutdown.ensures.made.added.draft p draft in
    let beat-draft = beaten.made.added.draft _ shut-draft in
    let told-draft = unknown.others.added.draft _ beat-draft in
    let longer = added_longer _ _ _ _ added shut-draft in
    let further = added_longer _ _ _ _ behind beat-draft in
    let last = added_longer _ _ _ _ (adds_then _ _ _ _ _ told.others.added reset.made.added) told-draft in
    let shut = c.put_shutdown.ensures.owes p draft (omega (arith, short, longer.1)) in
    let beat = c.in_ok-put_heartbeats.ensures.owes _ shut-draft (omega (arith, short, further.1)) in
    record {
      shutdown = no_shutdown _ _ _ _ all.due.shutdown (reset.acks ∙ ap sack_delay told.rest ∙ unknown.acks ∙ beaten.acks) shut.0;
      shutdown_ack = all.due.shutdown_ack shut.1;
      heartbeat = still_none _ _ kept.due.heartbeat beat.0;
      beat = reset.moments.beat ((beats_same c.args.now _ _ near.timed).beat beat.1);
      report = still_none _ _ reset.kept.due.report (none_or _ _ _ c.in_ok-put_report.ensures.once (omega (arith, short, last.1)));
      unknown = still_none _ _ (unmoved_then _ _ _ told.others.kept reset.kept).unknown
          (c.in_ok-put_unknown_stream.ensures.owes further.0 (omega (arith, short, last.1)));
    })

-- ## What leaves

pub returns-in_err-put_heartbeats-clause-leaves : goal.returns-in_err-put_heartbeats-clause-leaves
returns-in_err-put_heartbeats-clause-leaves c = into_then c.args.self.now c.put_shutdown.new.self c.put_heartbeats.new.self _ _
    c.put_shutdown.ensures.made.added c.put_heartbeats.ensures.made.added c.put_shutdown.ensures.leaves c.put_heartbeats.ensures.leaves

pub returns-in_err-put_unknown_stream-clause-leaves : goal.returns-in_err-put_unknown_stream-clause-leaves
returns-in_err-put_unknown_stream-clause-leaves c =
    let shut = c.put_shutdown.ensures in
    let beat = c.put_heartbeats.ensures in
    let stream = c.put_unknown_stream.ensures in
    let beaten = into_then c.args.self.now c.put_shutdown.new.self c.put_heartbeats.new.self _ _ shut.made.added beat.made.added shut.leaves beat.leaves in
    into_then c.args.self.now c.put_heartbeats.new.self c.put_unknown_stream.new.self _ _ (adds_then _ _ _ _ _ shut.made.added beat.made.added)
    stream.others.added beaten stream.leaves

pub returns-in_err-put_report-clause-leaves : goal.returns-in_err-put_report-clause-leaves
returns-in_err-put_report-clause-leaves c =
    let shut = c.put_shutdown.ensures in
    let beat = c.put_heartbeats.ensures in
    let stream = c.put_unknown_stream.ensures in
    let report = c.put_report.ensures in
    let near = adds_then _ _ _ _ _ shut.made.added beat.made.added in
    let beaten = into_then c.args.self.now c.put_shutdown.new.self c.put_heartbeats.new.self _ _ shut.made.added beat.made.added shut.leaves beat.leaves in
    let told = into_then c.args.self.now c.put_heartbeats.new.self c.put_unknown_stream.new.self _ _ near stream.others.added beaten stream.leaves in
    into_then c.args.self.now c.put_unknown_stream.new.self c.put_report.new.self _ _ (adds_then _ _ _ _ _ near stream.others.added) report.others.added
    told report.leaves

pub returns-clause-leaves : goal.returns-clause-leaves
returns-clause-leaves c =
    let shut = c.put_shutdown.ensures in
    let beat = c.put_heartbeats.ensures in
    let stream = c.put_unknown_stream.ensures in
    let report = c.put_report.ensures in
    let near = adds_then _ _ _ _ _ shut.made.added beat.made.added in
    let beaten = into_then c.args.self.now c.put_shutdown.new.self c.put_heartbeats.new.self _ _ shut.made.added beat.made.added shut.leaves beat.leaves in
    let told = into_then c.args.self.now c.put_heartbeats.new.self c.put_unknown_stream.new.self _ _ near stream.others.added beaten stream.leaves in
    let reported = into_then c.args.self.now c.put_unknown_stream.new.self c.put_report.new.self _ _ (adds_then _ _ _ _ _ near stream.others.added)
    report.others.added told report.leaves in
    into_kept c.args.self.now c.put_report.new.self c.put_resets.new.self [] _ c.put_resets.ensures.made.added reported c.put_resets.ensures.replies

-- ## What stays

pub returns-in_err-put_heartbeats-clause-full : goal.returns-in_err-put_heartbeats-clause-full
returns-in_err-put_heartbeats-clause-full c = full_then _ c.put_shutdown.new.self.outbound _ c.put_shutdown.ensures.full
    (full_of c.put_shutdown.new.self c.put_heartbeats.new.self c.put_heartbeats.ensures.halves c.put_heartbeats.ensures.kept.rto)

pub returns-in_err-put_unknown_stream-clause-full : goal.returns-in_err-put_unknown_stream-clause-full
returns-in_err-put_unknown_stream-clause-full c =
    let first = full_then _ c.put_shutdown.new.self.outbound _ c.put_shutdown.ensures.full
    (full_of c.put_shutdown.new.self c.put_heartbeats.new.self c.put_heartbeats.ensures.halves c.put_heartbeats.ensures.kept.rto) in
    full_others c.args.self.now.outbound c.put_heartbeats.new.self c.put_unknown_stream.new.self first c.put_unknown_stream.ensures.others

pub returns-in_err-put_report-clause-full : goal.returns-in_err-put_report-clause-full
returns-in_err-put_report-clause-full c =
    let first = full_then _ c.put_shutdown.new.self.outbound _ c.put_shutdown.ensures.full
    (full_of c.put_shutdown.new.self c.put_heartbeats.new.self c.put_heartbeats.ensures.halves c.put_heartbeats.ensures.kept.rto) in
    full_others c.args.self.now.outbound c.put_heartbeats.new.self c.put_report.new.self first
    (others_then _ c.put_unknown_stream.new.self _ c.put_unknown_stream.ensures.others c.put_report.ensures.others)

pub returns-clause-full : goal.returns-clause-full
returns-clause-full c =
    let first = full_then _ c.put_shutdown.new.self.outbound _ c.put_shutdown.ensures.full
    (full_of c.put_shutdown.new.self c.put_heartbeats.new.self c.put_heartbeats.ensures.halves c.put_heartbeats.ensures.kept.rto) in
    let told = full_others c.args.self.now.outbound c.put_heartbeats.new.self c.put_report.new.self first
    (others_then _ c.put_unknown_stream.new.self _ c.put_unknown_stream.ensures.others c.put_report.ensures.others) in
    full_then _ c.put_report.new.self.outbound _ told
    (full_of c.put_report.new.self c.put_resets.new.self c.put_resets.ensures.halves c.put_resets.ensures.kept.rto)

-- ## A FORWARD-TSN that is due stays so

pub returns-in_err-put_heartbeats-clause-skip : goal.returns-in_err-put_heartbeats-clause-skip
returns-in_err-put_heartbeats-clause-skip c = ap (λ (p : Path). p.skip) c.put_heartbeats.ensures.halves.path ∙ c.put_shutdown.ensures.skip

pub returns-in_err-put_unknown_stream-clause-skip : goal.returns-in_err-put_unknown_stream-clause-skip
returns-in_err-put_unknown_stream-clause-skip c =
    ap (λ (p : Path). p.skip) c.put_unknown_stream.ensures.others.halves.path ∙ ap (λ (p : Path). p.skip) c.put_heartbeats.ensures.halves.path
    ∙ c.put_shutdown.ensures.skip

pub returns-in_err-put_report-clause-skip : goal.returns-in_err-put_report-clause-skip
returns-in_err-put_report-clause-skip c = ap (λ (p : Path). p.skip) c.put_report.ensures.others.halves.path
    ∙ ap (λ (p : Path). p.skip) c.put_unknown_stream.ensures.others.halves.path ∙ ap (λ (p : Path). p.skip) c.put_heartbeats.ensures.halves.path
    ∙ c.put_shutdown.ensures.skip

pub returns-clause-skip : goal.returns-clause-skip
returns-clause-skip c = ap (λ (p : Path). p.skip) c.put_resets.ensures.halves.path ∙ ap (λ (p : Path). p.skip) c.put_report.ensures.others.halves.path
    ∙ ap (λ (p : Path). p.skip) c.put_unknown_stream.ensures.others.halves.path ∙ ap (λ (p : Path). p.skip) c.put_heartbeats.ensures.halves.path
    ∙ c.put_shutdown.ensures.skip

-- ## A RE-CONFIG

pub returns-in_err-put_heartbeats-clause-resets : goal.returns-in_err-put_heartbeats-clause-resets
returns-in_err-put_heartbeats-clause-resets c p draft = puts_none c.args.now c.args.self.now c.put_heartbeats.new.self (
    keeps_then c.args.self.now c.put_shutdown.new.self c.put_heartbeats.new.self
    (once_keep c.args.self.now c.put_shutdown.new.self c.put_shutdown.ensures.made c.put_shutdown.ensures.timed) c.put_heartbeats.ensures.resets
    )

pub returns-in_err-put_unknown_stream-clause-resets : goal.returns-in_err-put_unknown_stream-clause-resets
returns-in_err-put_unknown_stream-clause-resets c p draft =
    let beaten = keeps_then c.args.self.now c.put_shutdown.new.self c.put_heartbeats.new.self
    (once_keep c.args.self.now c.put_shutdown.new.self c.put_shutdown.ensures.made c.put_shutdown.ensures.timed) c.put_heartbeats.ensures.resets in
    puts_none c.args.now c.args.self.now c.put_unknown_stream.new.self (
    keeps_then c.args.self.now c.put_heartbeats.new.self c.put_unknown_stream.new.self beaten
    (others_keep c.put_heartbeats.new.self c.put_unknown_stream.new.self c.put_unknown_stream.ensures.others)
    )

pub returns-in_err-put_report-clause-resets : goal.returns-in_err-put_report-clause-resets
returns-in_err-put_report-clause-resets c p draft =
    let beaten = keeps_then c.args.self.now c.put_shutdown.new.self c.put_heartbeats.new.self
    (once_keep c.args.self.now c.put_shutdown.new.self c.put_shutdown.ensures.made c.put_shutdown.ensures.timed) c.put_heartbeats.ensures.resets in
    puts_none c.args.now c.args.self.now c.put_report.new.self (
    keeps_then c.args.self.now c.put_heartbeats.new.self c.put_report.new.self beaten
    (others_keep c.put_heartbeats.new.self c.put_report.new.self
    (others_then _ c.put_unknown_stream.new.self _ c.put_unknown_stream.ensures.others c.put_report.ensures.others))
    )

pub returns-clause-resets : goal.returns-clause-resets
returns-clause-resets c p draft =
    let near = others_then _ c.put_unknown_stream.new.self _ c.put_unknown_stream.ensures.others c.put_report.ensures.others in
    let beaten = keeps_then c.args.self.now c.put_shutdown.new.self c.put_heartbeats.new.self
    (once_keep c.args.self.now c.put_shutdown.new.self c.put_shutdown.ensures.made c.put_shutdown.ensures.timed) c.put_heartbeats.ensures.resets in
    let told = keeps_then c.args.self.now c.put_heartbeats.new.self c.put_report.new.self beaten
    (others_keep c.put_heartbeats.new.self c.put_report.new.self near) in
    let longer = added_longer _ _ _ _ told.added draft in
    puts_later c.args.now c.args.self.now c.put_report.new.self c.put_resets.new.self told
    (ap (λ (p : Path). p.sender) (near.halves.path ∙ c.put_heartbeats.ensures.halves.path ∙ c.put_shutdown.ensures.full.path))
    (near.kept.rto ∙ c.put_heartbeats.ensures.kept.rto ∙ c.put_shutdown.ensures.full.rto) (c.put_resets.ensures.resets (omega (arith, longer)))

pub returns-clause-unasked : goal.returns-clause-unasked
returns-clause-unasked c = on_ok_so c.put_resets.result (λ none p draft short.
    let near = others_then _ c.put_unknown_stream.new.self _ c.put_unknown_stream.ensures.others c.put_report.ensures.others in
    let beaten = keeps_then c.args.self.now c.put_shutdown.new.self c.put_heartbeats.new.self
    (once_keep c.args.self.now c.put_shutdown.new.self c.put_shutdown.ensures.made c.put_shutdown.ensures.timed) c.put_heartbeats.ensures.resets in
    let told = keeps_then c.args.self.now c.put_heartbeats.new.self c.put_report.new.self beaten
    (others_keep c.put_heartbeats.new.self c.put_report.new.self near) in
    let longer = added_longer _ _ _ _ told.added draft in
    asks_none c.args.now c.args.self.now c.put_report.new.self told.same
    (ap (λ (p : Path). p.sender) (near.halves.path ∙ c.put_heartbeats.ensures.halves.path ∙ c.put_shutdown.ensures.full.path))
    (none (omega (arith, longer)) short)) c.put_resets.ensures.none

-- ## Which HEARTBEAT

pub returns-in_err-put_heartbeats-clause-beats : goal.returns-in_err-put_heartbeats-clause-beats
returns-in_err-put_heartbeats-clause-beats c = probe.puts_later c.args.now c.args.self.now c.put_shutdown.new.self c.put_heartbeats.new.self
    (probe.once_keep c.args.self.now c.put_shutdown.new.self c.put_shutdown.ensures.made c.put_shutdown.ensures.timed)
    (beats_same c.args.now _ _ c.put_shutdown.ensures.timed) c.put_heartbeats.ensures.beats

pub returns-in_err-put_unknown_stream-clause-beats : goal.returns-in_err-put_unknown_stream-clause-beats
returns-in_err-put_unknown_stream-clause-beats c =
    let beaten = probe.puts_later c.args.now c.args.self.now c.put_shutdown.new.self c.put_heartbeats.new.self
    (probe.once_keep c.args.self.now c.put_shutdown.new.self c.put_shutdown.ensures.made c.put_shutdown.ensures.timed)
    (beats_same c.args.now _ _ c.put_shutdown.ensures.timed) c.put_heartbeats.ensures.beats in
    probe.puts_first c.args.now c.args.self.now c.put_heartbeats.new.self c.put_unknown_stream.new.self beaten
    (probe.others_keep c.put_heartbeats.new.self c.put_unknown_stream.new.self c.put_unknown_stream.ensures.others)

pub returns-in_err-put_report-clause-beats : goal.returns-in_err-put_report-clause-beats
returns-in_err-put_report-clause-beats c =
    let beaten = probe.puts_later c.args.now c.args.self.now c.put_shutdown.new.self c.put_heartbeats.new.self
    (probe.once_keep c.args.self.now c.put_shutdown.new.self c.put_shutdown.ensures.made c.put_shutdown.ensures.timed)
    (beats_same c.args.now _ _ c.put_shutdown.ensures.timed) c.put_heartbeats.ensures.beats in
    probe.puts_first c.args.now c.args.self.now c.put_heartbeats.new.self c.put_report.new.self beaten
    (probe.others_keep c.put_heartbeats.new.self c.put_report.new.self
    (others_then _ c.put_unknown_stream.new.self _ c.put_unknown_stream.ensures.others c.put_report.ensures.others))

pub returns-clause-beats : goal.returns-clause-beats
returns-clause-beats c =
    let beaten = probe.puts_later c.args.now c.args.self.now c.put_shutdown.new.self c.put_heartbeats.new.self
    (probe.once_keep c.args.self.now c.put_shutdown.new.self c.put_shutdown.ensures.made c.put_shutdown.ensures.timed)
    (beats_same c.args.now _ _ c.put_shutdown.ensures.timed) c.put_heartbeats.ensures.beats in
    let told = probe.others_keep c.put_heartbeats.new.self c.put_report.new.self
    (others_then _ c.put_unknown_stream.new.self _ c.put_unknown_stream.ensures.others c.put_report.ensures.others) in
    probe.puts_first c.args.now c.args.self.now c.put_heartbeats.new.self c.put_resets.new.self beaten
    (probe.keeps_then c.put_heartbeats.new.self c.put_report.new.self c.put_resets.new.self told c.put_resets.ensures.beats)

-- ## In their order

pub returns-in_err-put_heartbeats-clause-order : goal.returns-in_err-put_heartbeats-clause-order
returns-in_err-put_heartbeats-clause-order c = ordered.order_then (7 ∷ 8 ∷ []) (5 ∷ 4 ∷ 9 ∷ 9 ∷ 130 ∷ []) _ _ _ c.put_shutdown.ensures.order
    (ordered.order_more (5 ∷ 4 ∷ []) (9 ∷ 9 ∷ 130 ∷ []) _ _ c.put_heartbeats.ensures.order)

pub returns-in_err-put_unknown_stream-clause-order : goal.returns-in_err-put_unknown_stream-clause-order
returns-in_err-put_unknown_stream-clause-order c = ordered.order_then (7 ∷ 8 ∷ []) (5 ∷ 4 ∷ 9 ∷ 9 ∷ 130 ∷ []) _ _ _ c.put_shutdown.ensures.order
    (ordered.order_then (5 ∷ 4 ∷ []) (9 ∷ 9 ∷ 130 ∷ []) _ _ _ c.put_heartbeats.ensures.order
    (ordered.order_more (9 ∷ []) (9 ∷ 130 ∷ []) _ _ c.put_unknown_stream.ensures.order))

pub returns-in_err-put_report-clause-order : goal.returns-in_err-put_report-clause-order
returns-in_err-put_report-clause-order c = ordered.order_then (7 ∷ 8 ∷ []) (5 ∷ 4 ∷ 9 ∷ 9 ∷ 130 ∷ []) _ _ _ c.put_shutdown.ensures.order
    (ordered.order_then (5 ∷ 4 ∷ []) (9 ∷ 9 ∷ 130 ∷ []) _ _ _ c.put_heartbeats.ensures.order
    (ordered.order_then (9 ∷ []) (9 ∷ 130 ∷ []) _ _ _ c.put_unknown_stream.ensures.order
    (ordered.order_more (9 ∷ []) (130 ∷ []) _ _ c.put_report.ensures.order)))

pub returns-clause-order : goal.returns-clause-order
returns-clause-order c = ordered.order_then (7 ∷ 8 ∷ []) (5 ∷ 4 ∷ 9 ∷ 9 ∷ 130 ∷ []) _ _ _ c.put_shutdown.ensures.order
    (ordered.order_then (5 ∷ 4 ∷ []) (9 ∷ 9 ∷ 130 ∷ []) _ _ _ c.put_heartbeats.ensures.order
    (ordered.order_then (9 ∷ []) (9 ∷ 130 ∷ []) _ _ _ c.put_unknown_stream.ensures.order
    (ordered.order_then (9 ∷ []) (130 ∷ []) _ _ _ c.put_report.ensures.order c.put_resets.ensures.order)))
