use Rattle.sctp_association.specs.Congested.{Path}
use Rattle.sctp_association.proofs.Putting.{adds_then}
use Rattle.sctp_association.proofs.Skips.{skip_later}
use Rattle.sctp_association.proofs.Fewer.{data_fewer, due_fewer, once_fewer, others_fewer, fewer_then}
use Rattle.sctp_association.proofs.Leaving.{into_kept, into_then}
use Rattle.std.proofs.Common.{ap, ◌≡◌, [], arith, false, subst, sym, ◌∙◌, inl}
use Rattle.std.specs.Prelude.{IfSome}
use Rattle.sctp_association.proofs.Congested.{from_skip, full_of, full_then, within_behind, within_full}
use Rattle.sctp_association.proofs.Idle.{added_longer, no_shutdown, on_ok, on_ok_both}
use Rattle.sctp_association.proofs.Known.{still_none, unmoved_then}
use Rattle.sctp_path.specs.Timers.{is_due}
use Rattle.sctp_association.proofs.Others.{beats_same, beats_then, due_then, once_puts, others_once, others_puts, others_then, skip_kept, skip_so, timed_then}
use Rattle.sctp_association.proofs.Others.{data_then, due_data}
use Rattle.sctp_association.proofs.association.Association.fill.Goals as goal
use Rattle.sctp_association.proofs.Requesting.{asks_none, keeps_then, once_keep, others_keep, puts_first, puts_later, puts_none, sent_keep}
use Rattle.sctp_association.proofs.Probing as probe
use Rattle.sctp_association.proofs.Ordered as ordered
use Rattle.sctp_association.specs.Ordered.{control_order}
use Rattle.std.proofs.Common.{◌∷◌}

pub returns-in_err-put_sack-clause-made : goal.returns-in_err-put_sack-clause-made
returns-in_err-put_sack-clause-made c = due_data c.args.self.now c.put_sack.new.self c.args.now (
    once_puts c.args.self.now c.put_sack.new.self c.args.now (others_once c.args.self.now c.put_cookies.new.self c.put_sack.new.self
    c.put_cookies.ensures.others c.put_sack.ensures.made c.put_sack.ensures.kept)
    )

pub returns-in_err-put_control-clause-made : goal.returns-in_err-put_control-clause-made
returns-in_err-put_control-clause-made c =
    let acked = once_puts c.args.self.now c.put_sack.new.self c.args.now (others_once c.args.self.now c.put_cookies.new.self c.put_sack.new.self
    c.put_cookies.ensures.others c.put_sack.ensures.made c.put_sack.ensures.kept) in
    due_data c.args.self.now c.put_control.new.self c.args.now (
    due_then c.args.now c.args.self.now c.put_sack.new.self c.put_control.new.self acked
    (unmoved_then _ _ _ c.put_cookies.ensures.others.kept c.put_sack.ensures.kept)
    (beats_same c.args.now _ _ (timed_then _ _ _ c.put_cookies.ensures.others.timed c.put_sack.ensures.timed))
    (skip_kept c.args.self.now c.put_sack.new.self (c.put_sack.ensures.full.path ∙ c.put_cookies.ensures.others.halves.path))
    c.put_control.ensures.made c.put_control.ensures.kept c.put_control.ensures.moments
    (skip_kept c.put_sack.new.self c.put_control.new.self c.put_control.ensures.full.path)
    )

pub returns-clause-made : goal.returns-clause-made
returns-clause-made c =
    let acked = once_puts c.args.self.now c.put_sack.new.self c.args.now (others_once c.args.self.now c.put_cookies.new.self c.put_sack.new.self
    c.put_cookies.ensures.others c.put_sack.ensures.made c.put_sack.ensures.kept) in
    let unmoved = unmoved_then _ _ _ c.put_cookies.ensures.others.kept c.put_sack.ensures.kept in
    let beats = beats_same c.args.now c.args.self.now c.put_sack.new.self
    (timed_then _ _ _ c.put_cookies.ensures.others.timed c.put_sack.ensures.timed) in
    let early = skip_kept c.args.self.now c.put_sack.new.self (c.put_sack.ensures.full.path ∙ c.put_cookies.ensures.others.halves.path) in
    let late = skip_kept c.put_sack.new.self c.put_control.new.self c.put_control.ensures.full.path in
    let controlled = due_then c.args.now c.args.self.now c.put_sack.new.self c.put_control.new.self acked unmoved beats early
    c.put_control.ensures.made c.put_control.ensures.kept c.put_control.ensures.moments late in
    data_then c.args.now c.args.self.now c.put_control.new.self c.put_data.new.self controlled
    (skip_so c.args.self.now c.put_sack.new.self c.put_control.new.self early late) c.put_data.ensures.made c.put_data.ensures.kept
    c.put_data.ensures.moments (from_skip c.args.now _ _ _ c.put_data.ensures.within.path)

pub returns-then-is_empty-clause-made : goal.returns-then-is_empty-clause-made
returns-then-is_empty-clause-made c = due_data c.args.self.now c.put_cookies.new.self c.args.now (
    once_puts c.args.self.now c.put_cookies.new.self c.args.now (others_puts c.args.self.now c.put_cookies.new.self c.put_cookies.ensures.others)
    )

pub returns-else-is_empty-clause-made : goal.returns-else-is_empty-clause-made
returns-else-is_empty-clause-made c = due_data c.args.self.now c.put_report.new.self c.args.now (
    once_puts c.args.self.now c.put_report.new.self c.args.now
    (others_puts c.args.self.now c.put_report.new.self (others_then _ _ _ c.put_cookies.ensures.others c.put_report.ensures.others))
    )

-- ## HEARTBEATs

pub returns-then-is_empty-clause-moments : goal.returns-then-is_empty-clause-moments
returns-then-is_empty-clause-moments c = beats_same c.args.now c.args.self.now c.put_cookies.new.self c.put_cookies.ensures.others.timed

pub returns-else-is_empty-clause-moments : goal.returns-else-is_empty-clause-moments
returns-else-is_empty-clause-moments c = beats_same c.args.now c.args.self.now c.put_report.new.self
    (timed_then _ _ _ c.put_cookies.ensures.others.timed c.put_report.ensures.others.timed)

pub returns-in_err-put_sack-clause-moments : goal.returns-in_err-put_sack-clause-moments
returns-in_err-put_sack-clause-moments c = beats_same c.args.now c.args.self.now c.put_sack.new.self
    (timed_then _ _ _ c.put_cookies.ensures.others.timed c.put_sack.ensures.timed)

pub returns-in_err-put_control-clause-moments : goal.returns-in_err-put_control-clause-moments
returns-in_err-put_control-clause-moments c = beats_then c.args.now c.args.self.now c.put_sack.new.self c.put_control.new.self
    (beats_same c.args.now _ _ (timed_then _ _ _ c.put_cookies.ensures.others.timed c.put_sack.ensures.timed)) c.put_control.ensures.moments

pub returns-clause-moments : goal.returns-clause-moments
returns-clause-moments c = beats_then c.args.now c.args.self.now c.put_control.new.self c.put_data.new.self (
    beats_then c.args.now c.args.self.now c.put_sack.new.self c.put_control.new.self
    (beats_same c.args.now _ _ (timed_then _ _ _ c.put_cookies.ensures.others.timed c.put_sack.ensures.timed)) c.put_control.ensures.moments
    ) c.put_data.ensures.moments

pub returns-clause-idle : goal.returns-clause-idle
returns-clause-idle c = on_ok_both c.put_data.result (λ then_sent then_skip state p draft short.
    let cookies = c.put_cookies.ensures.others.added in
    let sack = c.put_sack.ensures.made.added in
    let control = c.put_control.ensures.made.added in
    let one = cookies.draft p draft in
    let two = sack.draft _ one in
    let three = control.draft _ two in
    let more = added_longer _ _ _ _ sack one in
    let further = added_longer _ _ _ _ control two in
    let last = added_longer _ _ _ _ c.put_data.ensures.made.added three in
    let sent = then_sent state last.0 short in
    record {
      acked = subst (λ d. IfSome d (λ d. is_due c.args.now d.due ≡ false)) (sym (c.put_data.ensures.acks ∙ c.put_control.ensures.acks))
          (c.in_ok-put_sack.ensures.idle more.0 (omega (arith, short, further.1, last.1)));
      sent = sent.0;
      timed = sent.1;
      skip = then_skip state last.0 short;
    }) c.put_data.ensures.idle c.put_data.ensures.skip

pub returns-clause-owes : goal.returns-clause-owes
returns-clause-owes c = on_ok c.put_data.result (λ state p draft short.
    let cookies = c.put_cookies.ensures.others.added in
    let sack = c.put_sack.ensures.made.added in
    let control = c.put_control.ensures.made.added in
    let one = cookies.draft p draft in
    let two = sack.draft _ one in
    let more = added_longer _ _ _ _ sack one in
    let further = added_longer _ _ _ _ control two in
    let last = added_longer _ _ _ _ c.put_data.ensures.made.added (control.draft _ two) in
    let owed = c.in_ok-put_control.ensures.owes _ two (omega (arith, short, last.1)) in
    let after = c.put_data.ensures.kept.due in
    record {
      cookie_ack = after.cookie_ack (c.put_control.ensures.kept.due.cookie_ack (c.put_sack.ensures.kept.due.cookie_ack
          (c.put_cookies.ensures.owes p draft (omega (arith, short, more.1, further.1, last.1)))));
      control = record {
        shutdown = no_shutdown _ _ _ _ after.shutdown c.put_data.ensures.acks owed.shutdown;
        shutdown_ack = after.shutdown_ack owed.shutdown_ack;
        heartbeat = still_none _ _ after.heartbeat owed.heartbeat;
        beat = c.put_data.ensures.moments.beat owed.beat;
        report = still_none _ _ after.report owed.report;
        unknown = still_none _ _ c.put_data.ensures.kept.unknown owed.unknown;
      };
    })

-- ## What had room

pub returns-then-is_empty-clause-within : goal.returns-then-is_empty-clause-within
returns-then-is_empty-clause-within c = within_full c.args.now c.args.self.now.outbound c.put_cookies.new.self.outbound
    (full_of _ c.put_cookies.new.self c.put_cookies.ensures.others.halves c.put_cookies.ensures.others.kept.rto)

pub returns-else-is_empty-clause-within : goal.returns-else-is_empty-clause-within
returns-else-is_empty-clause-within c =
    within_full c.args.now c.args.self.now.outbound c.put_report.new.self.outbound (full_then _ c.put_cookies.new.self.outbound _
    (full_of _ c.put_cookies.new.self c.put_cookies.ensures.others.halves c.put_cookies.ensures.others.kept.rto)
    (full_of c.put_cookies.new.self _ c.put_report.ensures.others.halves c.put_report.ensures.others.kept.rto))

pub returns-in_err-put_sack-clause-within : goal.returns-in_err-put_sack-clause-within
returns-in_err-put_sack-clause-within c =
    within_full c.args.now c.args.self.now.outbound c.put_sack.new.self.outbound
    (full_then _ c.put_cookies.new.self.outbound _
    (full_of _ c.put_cookies.new.self c.put_cookies.ensures.others.halves c.put_cookies.ensures.others.kept.rto) c.put_sack.ensures.full)

pub returns-in_err-put_control-clause-within : goal.returns-in_err-put_control-clause-within
returns-in_err-put_control-clause-within c =
    within_full c.args.now c.args.self.now.outbound c.put_control.new.self.outbound (full_then _ c.put_cookies.new.self.outbound _
    (full_of _ c.put_cookies.new.self c.put_cookies.ensures.others.halves c.put_cookies.ensures.others.kept.rto)
    (full_then _ c.put_sack.new.self.outbound _ c.put_sack.ensures.full c.put_control.ensures.full))

pub returns-clause-within : goal.returns-clause-within
returns-clause-within c = within_behind c.args.now c.args.self.now.outbound c.put_control.new.self.outbound c.put_data.new.self.outbound (
    full_then _ c.put_cookies.new.self.outbound _ (full_of _ c.put_cookies.new.self c.put_cookies.ensures.others.halves c.put_cookies.ensures.others.kept.rto)
    (full_then _ c.put_sack.new.self.outbound _ c.put_sack.ensures.full c.put_control.ensures.full)
    ) c.put_data.ensures.within

-- ## What leaves

pub returns-else-is_empty-clause-leaves : goal.returns-else-is_empty-clause-leaves
returns-else-is_empty-clause-leaves c = into_then c.args.self.now c.put_cookies.new.self c.put_report.new.self _ _ c.put_cookies.ensures.others.added
    c.put_report.ensures.others.added c.put_cookies.ensures.leaves c.put_report.ensures.leaves

pub returns-in_err-put_sack-clause-leaves : goal.returns-in_err-put_sack-clause-leaves
returns-in_err-put_sack-clause-leaves c = into_then c.args.self.now c.put_cookies.new.self c.put_sack.new.self _ _ c.put_cookies.ensures.others.added
    c.put_sack.ensures.made.added c.put_cookies.ensures.leaves c.put_sack.ensures.leaves

pub returns-in_err-put_control-clause-leaves : goal.returns-in_err-put_control-clause-leaves
returns-in_err-put_control-clause-leaves c =
    let acked = into_then c.args.self.now c.put_cookies.new.self c.put_sack.new.self _ _ c.put_cookies.ensures.others.added c.put_sack.ensures.made.added
    c.put_cookies.ensures.leaves c.put_sack.ensures.leaves in
    let both = adds_then _ _ _ _ _ c.put_cookies.ensures.others.added c.put_sack.ensures.made.added in
    into_then c.args.self.now c.put_sack.new.self c.put_control.new.self _ _ both c.put_control.ensures.made.added acked c.put_control.ensures.leaves

pub returns-clause-leaves : goal.returns-clause-leaves
returns-clause-leaves c =
    let acked = into_then c.args.self.now c.put_cookies.new.self c.put_sack.new.self _ _ c.put_cookies.ensures.others.added c.put_sack.ensures.made.added
    c.put_cookies.ensures.leaves c.put_sack.ensures.leaves in
    let both = adds_then _ _ _ _ _ c.put_cookies.ensures.others.added c.put_sack.ensures.made.added in
    let controlled = into_then c.args.self.now c.put_sack.new.self c.put_control.new.self _ _ both c.put_control.ensures.made.added acked
    c.put_control.ensures.leaves in
    into_kept c.args.self.now c.put_control.new.self c.put_data.new.self [] _ c.put_data.ensures.made.added controlled c.put_data.ensures.replies

-- ## What stays

pub returns-clause-kept : goal.returns-clause-kept
returns-clause-kept c =
    let acked = unmoved_then c.args.self.now c.put_cookies.new.self c.put_sack.new.self c.put_cookies.ensures.others.kept c.put_sack.ensures.kept in
    let controlled = unmoved_then c.args.self.now c.put_sack.new.self c.put_control.new.self acked c.put_control.ensures.kept in
    unmoved_then c.args.self.now c.put_control.new.self c.put_data.new.self controlled c.put_data.ensures.kept

-- ## What can still leave

pub returns-then-is_empty-clause-fewer : goal.returns-then-is_empty-clause-fewer
returns-then-is_empty-clause-fewer c p draft =
    others_fewer c.args.now c.args.self.now c.put_cookies.new.self c.put_cookies.ensures.others p draft

pub returns-else-is_empty-clause-fewer : goal.returns-else-is_empty-clause-fewer
returns-else-is_empty-clause-fewer c p draft = others_fewer c.args.now c.args.self.now c.put_report.new.self
    (others_then _ _ _ c.put_cookies.ensures.others c.put_report.ensures.others) p draft

pub returns-in_err-put_sack-clause-fewer : goal.returns-in_err-put_sack-clause-fewer
returns-in_err-put_sack-clause-fewer c p draft =
    let cookies = c.put_cookies.ensures.others in
    let one = others_fewer c.args.now c.args.self.now c.put_cookies.new.self cookies p draft in
    let sack = c.put_sack.ensures in
    let two =
    once_fewer c.args.now c.put_cookies.new.self c.put_sack.new.self sack.made sack.kept sack.timed (ap (λ (p : Path). p.sender) sack.full.path) sack.skip _
    (cookies.added.draft p draft) in
    let acked = fewer_then _ _ _ _ _ _ one two in
    acked

pub returns-in_err-put_control-clause-fewer : goal.returns-in_err-put_control-clause-fewer
returns-in_err-put_control-clause-fewer c p draft =
    let cookies = c.put_cookies.ensures.others in
    let one = others_fewer c.args.now c.args.self.now c.put_cookies.new.self cookies p draft in
    let sack = c.put_sack.ensures in
    let two =
    once_fewer c.args.now c.put_cookies.new.self c.put_sack.new.self sack.made sack.kept sack.timed (ap (λ (p : Path). p.sender) sack.full.path) sack.skip _
    (cookies.added.draft p draft) in
    let acked = fewer_then _ _ _ _ _ _ one two in
    let control = c.put_control.ensures in
    let three = due_fewer c.args.now c.put_sack.new.self c.put_control.new.self control.kept control.moments control.made
    (ap (λ (p : Path). p.sender) control.full.path)
    control.skip _
    (sack.made.added.draft _ (cookies.added.draft p draft)) in
    let controlled = fewer_then _ _ _ _ _ _ acked three in
    controlled

pub returns-clause-fewer : goal.returns-clause-fewer
returns-clause-fewer c p draft =
    let cookies = c.put_cookies.ensures.others in
    let one = others_fewer c.args.now c.args.self.now c.put_cookies.new.self cookies p draft in
    let sack = c.put_sack.ensures in
    let two =
    once_fewer c.args.now c.put_cookies.new.self c.put_sack.new.self sack.made sack.kept sack.timed (ap (λ (p : Path). p.sender) sack.full.path) sack.skip _
    (cookies.added.draft p draft) in
    let acked = fewer_then _ _ _ _ _ _ one two in
    let control = c.put_control.ensures in
    let three = due_fewer c.args.now c.put_sack.new.self c.put_control.new.self control.kept control.moments control.made
    (ap (λ (p : Path). p.sender) control.full.path)
    control.skip _
    (sack.made.added.draft _ (cookies.added.draft p draft)) in
    let controlled = fewer_then _ _ _ _ _ _ acked three in
    let last = c.put_data.ensures in
    let four = data_fewer c.args.now c.put_control.new.self c.put_data.new.self last.kept last.moments last.fewer in
    fewer_then _ _ _ _ _ _ controlled four

-- ## Whether a FORWARD-TSN is due

pub returns-then-is_empty-clause-skips : goal.returns-then-is_empty-clause-skips
returns-then-is_empty-clause-skips c p draft due = inl (ap (λ (p : Path). p.skip) c.put_cookies.ensures.others.halves.path ∙ due)

pub returns-else-is_empty-clause-skips : goal.returns-else-is_empty-clause-skips
returns-else-is_empty-clause-skips c p draft due =
    inl (ap (λ (p : Path). p.skip) (c.put_report.ensures.others.halves.path ∙ c.put_cookies.ensures.others.halves.path) ∙ due)

pub returns-in_err-put_sack-clause-skips : goal.returns-in_err-put_sack-clause-skips
returns-in_err-put_sack-clause-skips c p draft due =
    inl (c.put_sack.ensures.skip ∙ ap (λ (p : Path). p.skip) c.put_cookies.ensures.others.halves.path ∙ due)

pub returns-in_err-put_control-clause-skips : goal.returns-in_err-put_control-clause-skips
returns-in_err-put_control-clause-skips c p draft due = inl (c.put_control.ensures.skip ∙ c.put_sack.ensures.skip
    ∙ ap (λ (p : Path). p.skip) c.put_cookies.ensures.others.halves.path ∙ due)

pub returns-clause-skips : goal.returns-clause-skips
returns-clause-skips c p draft =
    let cookies = c.put_cookies.ensures in
    let sack = c.put_sack.ensures in
    let control = c.put_control.ensures in
    let near = adds_then _ _ _ _ _ cookies.others.added sack.made.added in
    let longer = added_longer _ _ _ _ c.put_data.ensures.made.added (control.made.added.draft _ (near.draft p draft)) in
    skip_later c.args.self.now.draft.limit c.put_control.new.self.draft.limit _ _ _ _ _ _ _ _ _ (adds_then _ _ _ _ _ near control.made.added)
    (control.leaves.limit ∙ sack.leaves.limit ∙ cookies.leaves.limit)
    (ap (λ (p : Path). p.sender) (control.full.path ∙ sack.full.path ∙ cookies.others.halves.path))
    (control.skip ∙ sack.skip ∙ ap (λ (p : Path). p.skip) cookies.others.halves.path) (c.put_data.ensures.skips longer.0)

-- ## A RE-CONFIG

pub returns-then-is_empty-clause-resets : goal.returns-then-is_empty-clause-resets
returns-then-is_empty-clause-resets c p draft = puts_none c.args.now c.args.self.now c.put_cookies.new.self
    (others_keep c.args.self.now c.put_cookies.new.self c.put_cookies.ensures.others)

pub returns-else-is_empty-clause-resets : goal.returns-else-is_empty-clause-resets
returns-else-is_empty-clause-resets c p draft = puts_none c.args.now c.args.self.now c.put_report.new.self (
    others_keep c.args.self.now c.put_report.new.self
    (others_then _ c.put_cookies.new.self _ c.put_cookies.ensures.others c.put_report.ensures.others)
    )

pub returns-in_err-put_sack-clause-resets : goal.returns-in_err-put_sack-clause-resets
returns-in_err-put_sack-clause-resets c p draft = puts_none c.args.now c.args.self.now c.put_sack.new.self (
    keeps_then c.args.self.now c.put_cookies.new.self c.put_sack.new.self
    (others_keep c.args.self.now c.put_cookies.new.self c.put_cookies.ensures.others)
    (once_keep c.put_cookies.new.self c.put_sack.new.self c.put_sack.ensures.made c.put_sack.ensures.timed)
    )

pub returns-in_err-put_control-clause-resets : goal.returns-in_err-put_control-clause-resets
returns-in_err-put_control-clause-resets c p draft =
    let acked = keeps_then c.args.self.now c.put_cookies.new.self c.put_sack.new.self
    (others_keep c.args.self.now c.put_cookies.new.self c.put_cookies.ensures.others)
    (once_keep c.put_cookies.new.self c.put_sack.new.self c.put_sack.ensures.made c.put_sack.ensures.timed) in
    puts_later c.args.now c.args.self.now c.put_sack.new.self c.put_control.new.self acked
    (ap (λ (p : Path). p.sender) (c.put_sack.ensures.full.path ∙ c.put_cookies.ensures.others.halves.path))
    (c.put_sack.ensures.full.rto ∙ c.put_cookies.ensures.others.kept.rto) (c.put_control.ensures.resets _ (acked.added.draft p draft))

pub returns-clause-resets : goal.returns-clause-resets
returns-clause-resets c p draft =
    let acked = keeps_then c.args.self.now c.put_cookies.new.self c.put_sack.new.self
    (others_keep c.args.self.now c.put_cookies.new.self c.put_cookies.ensures.others)
    (once_keep c.put_cookies.new.self c.put_sack.new.self c.put_sack.ensures.made c.put_sack.ensures.timed) in
    let controlled = puts_later c.args.now c.args.self.now c.put_sack.new.self c.put_control.new.self acked
    (ap (λ (p : Path). p.sender) (c.put_sack.ensures.full.path ∙ c.put_cookies.ensures.others.halves.path))
    (c.put_sack.ensures.full.rto ∙ c.put_cookies.ensures.others.kept.rto) (c.put_control.ensures.resets _ (acked.added.draft p draft)) in
    puts_first c.args.now c.args.self.now c.put_control.new.self c.put_data.new.self controlled
    (sent_keep c.put_control.new.self c.put_data.new.self c.put_data.ensures.made c.put_data.ensures.resets)

pub returns-clause-unasked : goal.returns-clause-unasked
returns-clause-unasked c = on_ok c.put_data.result (λ state p draft short.
    let acked = keeps_then c.args.self.now c.put_cookies.new.self c.put_sack.new.self
    (others_keep c.args.self.now c.put_cookies.new.self c.put_cookies.ensures.others)
    (once_keep c.put_cookies.new.self c.put_sack.new.self c.put_sack.ensures.made c.put_sack.ensures.timed) in
    let two = acked.added.draft p draft in
    let last = added_longer _ _ _ _ c.put_data.ensures.made.added (c.put_control.ensures.made.added.draft _ two) in
    asks_none c.args.now c.args.self.now c.put_sack.new.self acked.same
    (ap (λ (p : Path). p.sender) (c.put_sack.ensures.full.path ∙ c.put_cookies.ensures.others.halves.path))
    (c.in_ok-put_control.ensures.unasked _ two (omega (arith, short, last.1))))

-- ## Which HEARTBEAT

pub returns-then-is_empty-clause-beats : goal.returns-then-is_empty-clause-beats
returns-then-is_empty-clause-beats c = probe.puts_idle c.args.now c.args.self.now c.put_cookies.new.self
    (probe.puts_none c.args.now c.args.self.now c.put_cookies.new.self
    (probe.others_keep c.args.self.now c.put_cookies.new.self c.put_cookies.ensures.others))

pub returns-else-is_empty-clause-beats : goal.returns-else-is_empty-clause-beats
returns-else-is_empty-clause-beats c = probe.puts_idle c.args.now c.args.self.now c.put_report.new.self (
    probe.puts_none c.args.now c.args.self.now c.put_report.new.self (
    probe.others_keep c.args.self.now c.put_report.new.self
    (others_then _ c.put_cookies.new.self _ c.put_cookies.ensures.others c.put_report.ensures.others)
    )
    )

pub returns-in_err-put_sack-clause-beats : goal.returns-in_err-put_sack-clause-beats
returns-in_err-put_sack-clause-beats c = probe.puts_idle c.args.now c.args.self.now c.put_sack.new.self (
    probe.puts_none c.args.now c.args.self.now c.put_sack.new.self (
    probe.keeps_then c.args.self.now c.put_cookies.new.self c.put_sack.new.self
    (probe.others_keep c.args.self.now c.put_cookies.new.self c.put_cookies.ensures.others)
    (probe.once_keep c.put_cookies.new.self c.put_sack.new.self c.put_sack.ensures.made c.put_sack.ensures.timed)
    )
    )

pub returns-in_err-put_control-clause-beats : goal.returns-in_err-put_control-clause-beats
returns-in_err-put_control-clause-beats c =
    let acked = probe.keeps_then c.args.self.now c.put_cookies.new.self c.put_sack.new.self
    (probe.others_keep c.args.self.now c.put_cookies.new.self c.put_cookies.ensures.others)
    (probe.once_keep c.put_cookies.new.self c.put_sack.new.self c.put_sack.ensures.made c.put_sack.ensures.timed) in
    probe.puts_idle c.args.now c.args.self.now c.put_control.new.self (
    probe.puts_later c.args.now c.args.self.now c.put_sack.new.self c.put_control.new.self acked
    (beats_same c.args.now _ _ (timed_then _ _ _ c.put_cookies.ensures.others.timed c.put_sack.ensures.timed)) c.put_control.ensures.beats
    )

pub returns-clause-beats : goal.returns-clause-beats
returns-clause-beats c =
    let acked = probe.keeps_then c.args.self.now c.put_cookies.new.self c.put_sack.new.self
    (probe.others_keep c.args.self.now c.put_cookies.new.self c.put_cookies.ensures.others)
    (probe.once_keep c.put_cookies.new.self c.put_sack.new.self c.put_sack.ensures.made c.put_sack.ensures.timed) in
    let controlled = probe.puts_later c.args.now c.args.self.now c.put_sack.new.self c.put_control.new.self acked
    (beats_same c.args.now _ _ (timed_then _ _ _ c.put_cookies.ensures.others.timed c.put_sack.ensures.timed)) c.put_control.ensures.beats in
    probe.puts_data c.args.now c.args.self.now c.put_control.new.self c.put_data.new.self controlled c.put_data.ensures.made c.put_data.ensures.beats

-- ## In their order

pub returns-then-is_empty-clause-order : goal.returns-then-is_empty-clause-order
returns-then-is_empty-clause-order c = ordered.order_data control_order _ _
    (ordered.order_more (10 ∷ 11 ∷ []) (3 ∷ 7 ∷ 8 ∷ 5 ∷ 4 ∷ 9 ∷ 9 ∷ 130 ∷ 192 ∷ []) _ _ c.put_cookies.ensures.order)

pub returns-else-is_empty-clause-order : goal.returns-else-is_empty-clause-order
returns-else-is_empty-clause-order c = ordered.order_data control_order _ _
    (ordered.order_then (10 ∷ 11 ∷ []) (3 ∷ 7 ∷ 8 ∷ 5 ∷ 4 ∷ 9 ∷ 9 ∷ 130 ∷ 192 ∷ []) _ _ _ c.put_cookies.ensures.order
    (ordered.order_late (3 ∷ 7 ∷ 8 ∷ 5 ∷ 4 ∷ []) (9 ∷ 9 ∷ 130 ∷ 192 ∷ []) _ _
    (ordered.order_more (9 ∷ []) (9 ∷ 130 ∷ 192 ∷ []) _ _ c.put_report.ensures.order)))

pub returns-in_err-put_sack-clause-order : goal.returns-in_err-put_sack-clause-order
returns-in_err-put_sack-clause-order c = ordered.order_data control_order _ _
    (ordered.order_then (10 ∷ 11 ∷ []) (3 ∷ 7 ∷ 8 ∷ 5 ∷ 4 ∷ 9 ∷ 9 ∷ 130 ∷ 192 ∷ []) _ _ _ c.put_cookies.ensures.order
    (ordered.order_more (3 ∷ []) (7 ∷ 8 ∷ 5 ∷ 4 ∷ 9 ∷ 9 ∷ 130 ∷ 192 ∷ []) _ _ c.put_sack.ensures.order))

pub returns-in_err-put_control-clause-order : goal.returns-in_err-put_control-clause-order
returns-in_err-put_control-clause-order c = ordered.order_data control_order _ _
    (ordered.order_then (10 ∷ 11 ∷ []) (3 ∷ 7 ∷ 8 ∷ 5 ∷ 4 ∷ 9 ∷ 9 ∷ 130 ∷ 192 ∷ []) _ _ _ c.put_cookies.ensures.order
    (ordered.order_then (3 ∷ []) (7 ∷ 8 ∷ 5 ∷ 4 ∷ 9 ∷ 9 ∷ 130 ∷ 192 ∷ []) _ _ _ c.put_sack.ensures.order
    (ordered.order_more (7 ∷ 8 ∷ 5 ∷ 4 ∷ 9 ∷ 9 ∷ 130 ∷ []) (192 ∷ []) _ _ c.put_control.ensures.order)))

pub returns-clause-order : goal.returns-clause-order
returns-clause-order c = ordered.order_before (10 ∷ 11 ∷ []) (3 ∷ 7 ∷ 8 ∷ 5 ∷ 4 ∷ 9 ∷ 9 ∷ 130 ∷ 192 ∷ []) _ _ _ c.put_cookies.ensures.order
    (ordered.order_before (3 ∷ []) (7 ∷ 8 ∷ 5 ∷ 4 ∷ 9 ∷ 9 ∷ 130 ∷ 192 ∷ []) _ _ _ c.put_sack.ensures.order
    (ordered.order_before (7 ∷ 8 ∷ 5 ∷ 4 ∷ 9 ∷ 9 ∷ 130 ∷ []) (192 ∷ []) _ _ _ c.put_control.ensures.order c.put_data.ensures.order))
