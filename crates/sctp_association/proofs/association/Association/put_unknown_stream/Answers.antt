use Rattle.std.proofs.Common.{ap, arith, false, inl, inr, is_some, length, refl, subst, sym, true, ◌≡◌, ◌≤◌, ◌⊎◌, ◌∙◌}
use Rattle.std.proofs.lemmas.Bool.{leb-false, leb-true}
use Rattle.std.proofs.lemmas.Option.{none-some}
use Rattle.sctp_association.proofs.Known.{owes_alike}
use Rattle.sctp_association.proofs.Leaving.{into_same, leaves_beside, left_or_too_long, with_limit}
use Rattle.sctp_association.proofs.Making.{of-some}
use Rattle.sctp_association.proofs.Others.{others_none}
use Rattle.sctp_association.proofs.Owing.{as_stream, stream_put, told_in}
use Rattle.sctp_association.proofs.association.Association.put_unknown_stream.Goals as goal
use Rattle.sctp_association.proofs.association.Association.put_unknown_stream.Goals.{else-is_told+else-is_empty, then-is_told}
use Rattle.sctp_association.proofs.association.Association.put_unknown_stream.Goals.{then-is_told-via-then-is_told, then-is_told-via-else-is_told+then-is_empty}
use Rattle.sctp_association.specs.Halves.{PutsOthers}
use Rattle.sctp_association.specs.Kept.{unknown_in}
use Rattle.sctp_association.specs.Leaving.{IsTooLongIn, LeavesInto, replies_of, stream_error}
use Rattle.sctp_association.specs.Packets.{Adds, Stands, put_where}
use Rattle.sctp_association.specs.Reports.{one_cause}
use Rattle.sctp_association.specs.declared.association.Association.{Association}
use Rattle.sctp_chunks.specs.Wire.{error_chunk}
use Rattle.sctp_packets.specs.Draft.{Draft}
use Rattle.sctp_path.specs.Timers.{Delay}
use Rattle.sctp_receiver.specs.Receiver.{Reception}

pub returns-clause-others : goal.returns-clause-others
returns-clause-others c =
    let old = c.args.self.now in
    elim c.if-is_told.branch [
      | then-is_told w ↦
          let told = told_in old.inbound w.note_stream_told.new.self.inbound c.in-Some.inbound c.in-Some.is w.note_stream_told.ensures.told in
          let rest = w.note_stream_told.ensures.rest in
          subst (PutsOthers old) (sym w.self-is) (stream_put old w.note_stream_told.new.self c.in-Some.inbound told.0 c.in-Some.is told.1
          told.2.receiver told.2.delay (λ s e. absurd (none-some s (sym told.2.unknown ∙ e))) told.2.usable (record {
            outbound = rest.outbound;
            config = rest.config;
            key = rest.key;
            machine = rest.machine;
            due = rest.due;
            cookie = rest.cookie;
            events = rest.events;
            over = rest.is_over;
            wants = rest.wants_shutdown;
            control = rest.control;
            guard = rest.guard;
            heartbeat = rest.heartbeat;
            requests = rest.requests;
            peer = rest.peer_requests;
          }) c.put-is_told.result c.in-Some-unknown_stream.stream c.in_ok-causes.field-0.items w.note_stream_told.new.self.draft
          c.in-Some-unknown_stream.is told.2.unknown
          (c.in_ok-causes.ensures ∙ ap (one_cause 1) (as_stream _ _ c.to_be_bytes-number.ensures))
          (subst (λ (d : Draft). Adds (put_where c.put-is_told.result (error_chunk c.in_ok-causes.field-0.items)) old.draft.bytes d.bytes) (sym rest.draft)
          c.put-is_told.ensures.added))
      | else-is_told+else-is_empty w ↦ subst (PutsOthers old) (sym w.self-is) (
          others_none old _ (record {
            sender = refl;
            receiver = refl;
            path = refl;
          })
          (record {
            config = refl;
            key = refl;
            machine = refl;
            alone = refl;
            cookie = refl;
            events = refl;
            over = refl;
            wants = refl;
            control = refl;
            guard = refl;
            failures = refl;
            rto = refl;
            usable = λ s. refl;
            due = owes_alike _;
            sack = λ e. e;
            unknown = λ s e. e;
          })
          (record { heartbeat = refl; idle = refl; requests = refl; peer = refl })
          (ap (λ (d : Draft). d.bytes) (c.put-is_told.ensures.full w.if-is_told.false))
          )
    ]

pub returns-clause-leaves : goal.returns-clause-leaves
returns-clause-leaves c =
    let old = c.args.self.now in
    let put = c.put-is_told.ensures in
    elim c.if-is_told.branch [
      | then-is_told w ↦
          let told = told_in old.inbound w.note_stream_told.new.self.inbound c.in-Some.inbound c.in-Some.is w.note_stream_told.ensures.told in
          let rest = w.note_stream_told.ensures.rest in
          let how : (c.put-is_told.result ≡ true) ⊎ ((c.put-is_told.result ≡ false) × (length c.put-is_told.new.self.bytes ≤ 12)) =
          elim w.then-is_told.branch [
            | then-is_told-via-then-is_told v ↦ inl v.if-is_told.true
            | then-is_told-via-else-is_told+then-is_empty v ↦ inr (v.if-is_told.false, leb-true _ 12 (sym v.is_empty.ensures ∙ v.if-is_empty.true))
          ] in
          subst (LeavesInto old) (sym w.self-is) (leaves_beside old w.note_stream_told.new.self c.in-Some.inbound told.0 c.in-Some.is told.1 rest.due
          rest.cookie (ap (λ (d : Draft). d.limit) rest.draft ∙ put.limit) (ap (λ (r : Reception). r.cumulative_tsn) told.2.receiver)
          (λ e. inl (ap (λ (x : Delay). is_some x.due) told.2.delay ∙ e))
          (λ s e. inr (subst
          (λ (d : Draft). Stands old.draft.bytes d.bytes (stream_error s) ⊎ IsTooLongIn old.draft.limit old.draft.bytes (stream_error s)) (sym rest.draft)
          (left_or_too_long c.put-is_told.result (stream_error s) (error_chunk c.in_ok-causes.field-0.items) old.draft c.put-is_told.new.self
          (ap error_chunk (c.in_ok-causes.ensures ∙ ap (one_cause 1) (as_stream _ _ c.to_be_bytes-number.ensures))
          ∙ ap stream_error (of-some _ _ (sym c.in-Some-unknown_stream.is ∙ e))) put.added put.fits put.full how))))
      | else-is_told+else-is_empty w ↦ into_same old c.if-is_told.self (ap replies_of w.self-is ∙ with_limit (replies_of old) _ put.limit)
    ]

pub returns-clause-owes : goal.returns-clause-owes
returns-clause-owes c head short = elim c.if-is_told.branch [
  | then-is_told w ↦
      let told = told_in c.args.self.now.inbound w.note_stream_told.new.self.inbound c.in-Some.inbound c.in-Some.is w.note_stream_told.ensures.told in
      ap (λ (x : Association). unknown_in x.inbound) w.self-is ∙ (ap unknown_in told.1 ∙ told.2.unknown)
  | else-is_told+else-is_empty w ↦
      let long = leb-false _ 12 (sym w.is_empty.ensures ∙ w.if-is_empty.false) in
      let same = ap (λ (x : Association). length x.draft.bytes) w.self-is in
      absurd (omega (arith, short, long, same))
]
