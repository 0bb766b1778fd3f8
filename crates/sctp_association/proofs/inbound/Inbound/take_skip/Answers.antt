use Rattle.sctp_association.proofs.Noting.{all_kept, tells_after, tells_in, tells_skip}
use Rattle.std.proofs.Common.{ap, refl, rules, ◌<◌, ◌^◌}
use Rattle.sctp_association.specs.AcksDue.{with_due}
use Rattle.sctp_association.proofs.Arriving.{received_skip, received_then}
use Rattle.sctp_association.proofs.Brought.{notes_after, notes_more, notes_rest}
use Rattle.sctp_association.proofs.First.{on_err}
use Rattle.sctp_association.proofs.Partly.{opens_from, opens_still}
use Rattle.sctp_association.proofs.inbound.Inbound.take_skip.Goals as goal
use Rattle.sctp_association.proofs.inbound.Inbound.take_skip.Goals.{in-Err+in_default, in-Ok-Skipped, in-Ok-Stale}
use Rattle.sctp_association.proofs.Named.{named_asked, skipped_served}
use Rattle.sctp_association.proofs.Reaching.{skip_led}

pub returns-in_err-open_named-clause-received : goal.returns-in_err-open_named-clause-received
returns-in_err-open_named-clause-received c = named_asked _ _ _ c.in_err-open_named.ensures.received

pub invariant_of-self : goal.invariant_of-self
invariant_of-self c =
    let fits : c.args.skip.now.new_cumulative_tsn < 2 ^ 32 = search rules in
    record { limited = skip_led _ _ _ _ _ fits c.forward_tsn.ensures c.open_named.new.self.limited }

pub returns-in-Err-OutOfMemory-clause-received : goal.returns-in-Err-OutOfMemory-clause-received
returns-in-Err-OutOfMemory-clause-received c =
    let fits : c.args.skip.now.new_cumulative_tsn < 2 ^ 32 = search rules in
    received_then _ _ _ _ (named_asked _ _ _ c.in_ok-open_named.ensures.received) (received_skip _ _ _ _ fits c.forward_tsn.ensures)

pub returns-in-Abort : goal.returns-in-Abort
returns-in-Abort c =
    let fits : c.args.skip.now.new_cumulative_tsn < 2 ^ 32 = search rules in
    record {
      tells = tells_after _ _ _ _ _ _ c.in_ok-open_named.ensures.tells (tells_in _ _ _ _
          (tells_skip _ _ _ _ _ _ _ c.forward_tsn.ensures refl (all_kept _) refl (λ n h. h) (λ is s m lt. cc (is, c.in-Err.is))));
      received = received_then _ _ _ _ (named_asked _ _ _ c.in_ok-open_named.ensures.received) (received_skip _ _ _ _ fits c.forward_tsn.ensures);
      named = λ ahead. skipped_served _ c.open_named.new.self _ _ _ _ c.forward_tsn.ensures refl refl (c.in_ok-open_named.ensures.served refl ahead);
      limits = search rules;
      cut = tt;
      same = c.in_ok-open_named.ensures.same;
      acks = λ is. cc (is);
      whole = λ is. cc (is);
      notes = notes_more _ _ _ _ _ _ (λ s p. absurd p) (λ s p. p) c.in_ok-open_named.ensures.notes;
      ends = record { refusal = c.in-Err.refusal; refused = search rules; advised = search rules };
    }

pub returns-clause-received : goal.returns-clause-received
returns-clause-received c =
    let fits : c.args.skip.now.new_cumulative_tsn < 2 ^ 32 = search rules in
    let led = received_then _ _ _ _ (named_asked _ _ _ c.in_ok-open_named.ensures.received) (received_skip _ _ _ _ fits c.forward_tsn.ensures) in
    elim c.match-forward_tsn.branch [
      | in-Ok-Skipped w ↦ rw w.self-is led
      | in-Ok-Stale w ↦ rw w.self-is led
      | in-Err+in_default w ↦ rw w.self-is led
    ]

pub returns-clause-same : goal.returns-clause-same
returns-clause-same c = elim c.match-forward_tsn.branch [
  | in-Ok-Skipped w ↦ rw w.self-is c.in_ok-open_named.ensures.same
  | in-Ok-Stale w ↦ rw w.self-is c.in_ok-open_named.ensures.same
  | in-Err+in_default w ↦ rw w.self-is c.in_ok-open_named.ensures.same
]

pub returns-clause-named : goal.returns-clause-named
returns-clause-named c = λ ahead.
    let served = c.in_ok-open_named.ensures.served refl ahead in
    elim c.match-forward_tsn.branch [
      | in-Ok-Skipped w ↦ rw w.self-is (skipped_served _ c.open_named.new.self _ _ _ _ c.forward_tsn.ensures refl refl served)
      | in-Ok-Stale w ↦ rw w.self-is (skipped_served _ c.open_named.new.self _ _ _ _ c.forward_tsn.ensures refl refl served)
      | in-Err+in_default w ↦ rw w.self-is (skipped_served _ c.open_named.new.self _ _ _ _ c.forward_tsn.ensures refl refl served)
    ]

pub returns-in-Err-OutOfMemory-clause-tells : goal.returns-in-Err-OutOfMemory-clause-tells
returns-in-Err-OutOfMemory-clause-tells c =
    tells_after _ _ _ _ _ _ c.in_ok-open_named.ensures.tells (tells_in _ _ _ _
    (tells_skip _ _ _ _ _ _ _ c.forward_tsn.ensures refl (all_kept _) refl (λ n h. h) (λ is s m lt. cc (is, c.in-Err-OutOfMemory.is))))

pub returns-clause-tells : goal.returns-clause-tells
returns-clause-tells c =
    tells_after _ _ _ _ _ _ c.in_ok-open_named.ensures.tells (tells_in _ _ _ _ (elim c.match-forward_tsn.branch [
      | in-Ok-Skipped w ↦
          let n = w.note_readable.ensures in
          rw (w.self-is, w.events-is) (tells_skip _ _ _ _ _ _ _ c.forward_tsn.ensures refl n.kept n.room n.readable (λ is. n.noted))
      | in-Ok-Stale w ↦ rw (w.self-is, w.events-is)
          (tells_skip _ _ _ _ _ _ _ c.forward_tsn.ensures refl (all_kept _) refl (λ n h. h) (λ is s m lt. cc (is, w.in-Ok-Stale.is)))
      | in-Err+in_default w ↦ rw (w.self-is, w.events-is)
          (tells_skip _ _ _ _ _ _ _ c.forward_tsn.ensures refl (all_kept _) refl (λ n h. h) (λ is s m lt. cc (is, w.in-Err.is)))
    ]))

pub returns-clause-acks : goal.returns-clause-acks
returns-clause-acks c is =
    let due = ap (with_due c.args.now) c.in_ok-open_named.ensures.acks in
    rw c.packet_came.ensures.after (elim c.match-forward_tsn.branch [
      | in-Ok-Skipped w ↦ rw w.self-is due
      | in-Ok-Stale w ↦ rw w.self-is due
      | in-Err+in_default w ↦ rw w.self-is due
    ])

-- ## What is noted

pub returns-in_err-open_named-clause-notes : goal.returns-in_err-open_named-clause-notes
returns-in_err-open_named-clause-notes c = notes_more _ _ _ _ _ _ (λ s p. absurd p) (λ s p. p) c.in_err-open_named.ensures.notes

pub returns-in-Err-OutOfMemory-clause-notes : goal.returns-in-Err-OutOfMemory-clause-notes
returns-in-Err-OutOfMemory-clause-notes c = notes_more _ _ _ _ _ _ (λ s p. absurd p) (λ s p. p) c.in_ok-open_named.ensures.notes

pub returns-clause-notes : goal.returns-clause-notes
returns-clause-notes c = elim c.match-forward_tsn.branch [
  | in-Ok-Skipped w ↦
      let n = w.note_readable.ensures in
      rw (w.self-is, w.events-is) (notes_after _ _ _ _ _ c.in_ok-open_named.ensures.notes (notes_rest _ _ _ _ n.rest n.only))
  | in-Ok-Stale w ↦ rw (w.self-is, w.events-is) (notes_more _ _ _ _ _ _ (λ s p. absurd p) (λ s p. p) c.in_ok-open_named.ensures.notes)
  | in-Err+in_default w ↦ rw (w.self-is, w.events-is) (notes_more _ _ _ _ _ _ (λ s p. absurd p) (λ s p. p) c.in_ok-open_named.ensures.notes)
]

-- ## Where memory is wanting

pub returns-in_err-open_named-clause-cut : goal.returns-in_err-open_named-clause-cut
returns-in_err-open_named-clause-cut c = on_err _ (
    let e = c.in_err-open_named.ensures in
    opens_from _ _ _ _ _ e.received e.limits.1 e.same e.acks e.unknown e.tells e.notes)

pub returns-in-Err-OutOfMemory-clause-cut : goal.returns-in-Err-OutOfMemory-clause-cut
returns-in-Err-OutOfMemory-clause-cut c =
    let e = c.in_ok-open_named.ensures in
    opens_still _ c.args.self.now c.open_named.new.self _ _ _ (opens_from _ _ _ _ _ e.received e.limits.1 e.same e.acks e.unknown e.tells e.notes)
    c.in-Err-OutOfMemory.ensures.err refl refl refl refl
