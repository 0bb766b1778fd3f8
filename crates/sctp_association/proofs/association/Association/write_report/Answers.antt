use Rattle.std.proofs.lemmas.Bool.{leb-true}
use Rattle.std.proofs.Common.{ap, inl, inr, refl, subst, sym, ◌∙◌}
use Rattle.std.proofs.lemmas.Option.{none-some}
use Rattle.sctp_association.proofs.Known.{owes_alike}
use Rattle.sctp_association.proofs.Others.{others_none, others_one}
use Rattle.sctp_association.proofs.association.Association.write_report.Goals as goal
use Rattle.sctp_association.proofs.association.Association.write_report.Goals.{else-is_put+else-is_empty, then-is_put}
use Rattle.sctp_association.proofs.association.Association.write_report.Goals.{then-is_put-via-then-is_put, then-is_put-via-else-is_put+then-is_empty}
use Rattle.sctp_association.specs.Halves.{PutsOthers}
use Rattle.sctp_association.specs.Reports.{one_cause}
use Rattle.sctp_association.proofs.Leaving.{into_same, left_or_too_long, report_leaves, with_limit}
use Rattle.sctp_association.proofs.Making.{of-some}
use Rattle.sctp_association.specs.Leaving.{LeavesInto, error_about, replies_of}
use Rattle.sctp_chunks.specs.Wire.{error_chunk}
use Rattle.sctp_packets.specs.Draft.{Draft}

pub returns-clause-others : goal.returns-clause-others
returns-clause-others c = elim c.if-is_put.branch [
  | then-is_put w ↦ subst (PutsOthers c.args.self.now) (sym w.self-is) (
      others_one c.put-is_put.result _ c.args.self.now _ c.put-is_put.ensures.added tt (inl (
        c.in-Some.report,
        c.in-Some.is,
        c.in_ok-causes.ensures
            ∙ ap (one_cause c.in-Some.report.code) c.as_slice.ensures,
        refl,
      ))
      (record {
        sender = refl;
        receiver = refl;
        path = refl;
      })
      (record {
        config = refl;
        key = refl;
        machine = refl;
        alone = refl;
        cookie = refl;
        events = refl;
        over = refl;
        wants = refl;
        control = refl;
        guard = refl;
        failures = refl;
        rto = refl;
        usable = λ s. refl;
        due = record {
          cookie_echo = λ e. e;
          cookie_ack = λ e. e;
          shutdown = λ e. e;
          shutdown_ack = λ e. e;
          heartbeat = λ info e. e;
          report = λ r e. absurd (none-some r e);
        };
        sack = λ e. e;
        unknown = λ s e. e;
      })
      (record { heartbeat = refl; idle = refl; requests = refl; peer = refl })
      )
  | else-is_put+else-is_empty w ↦ subst (PutsOthers c.args.self.now) (sym w.self-is) (
      others_none c.args.self.now _ (record {
        sender = refl;
        receiver = refl;
        path = refl;
      })
      (record {
        config = refl;
        key = refl;
        machine = refl;
        alone = refl;
        cookie = refl;
        events = refl;
        over = refl;
        wants = refl;
        control = refl;
        guard = refl;
        failures = refl;
        rto = refl;
        usable = λ s. refl;
        due = owes_alike _;
        sack = λ e. e;
        unknown = λ s e. e;
      })
      (record { heartbeat = refl; idle = refl; requests = refl; peer = refl })
      (ap (λ (d : Draft). d.bytes) (c.put-is_put.ensures.full w.if-is_put.false))
      )
]

pub returns-clause-leaves : goal.returns-clause-leaves
returns-clause-leaves c =
    let put = c.put-is_put.ensures in
    elim c.if-is_put.branch [
      | then-is_put w ↦ subst (LeavesInto c.args.self.now) (sym w.self-is) (report_leaves c.args.self.now _ c.put-is_put.new.self refl put.limit
          (λ r e. left_or_too_long c.put-is_put.result (error_about r) _ c.args.self.now.draft c.put-is_put.new.self
          (ap error_chunk (c.in_ok-causes.ensures ∙ ap (one_cause c.in-Some.report.code) c.as_slice.ensures)
          ∙ ap error_about (of-some _ _ (sym c.in-Some.is ∙ e))) put.added put.fits put.full (elim w.then-is_put.branch [
            | then-is_put-via-then-is_put v ↦ inl v.if-is_put.true
            | then-is_put-via-else-is_put+then-is_empty v ↦ inr (v.if-is_put.false, leb-true _ 12 (sym v.is_empty.ensures ∙ v.if-is_empty.true))
          ])))
      | else-is_put+else-is_empty w ↦ into_same c.args.self.now c.if-is_put.self
          (ap replies_of w.self-is ∙ with_limit (replies_of c.args.self.now) _ put.limit)
    ]
