use Rattle.sctp_association.specs.Most.{shutdowns_left}
use Rattle.std.proofs.Common.{rules, ◌≡◌, ◌∙◌}
use Rattle.sctp_association.proofs.Rows.{Asked, asked_begins, asked_idle, settles_by}
use Rattle.sctp_association.proofs.Fewer.{asked_shut}
use Rattle.sctp_association.specs.Telling.{TellsEnd}
use Rattle.sctp_association.proofs.Telling.{end_same, end_then}
use Rattle.std.proofs.Common.{ap}
use Rattle.sctp_association.proofs.Known.{keeps_by, keeps_kept, keeps_then, knows_asked, owes_same, within_same}
use Rattle.sctp_association.specs.Beginnings.{KeepsPeer}
use Rattle.sctp_association.specs.declared.association.Association.{Association}
use Rattle.sctp_association.proofs.Leaving.{asked_beats}
use Rattle.sctp_association.proofs.Others.{beats_same, beats_then}
use Rattle.sctp_association.specs.Leaving.{AsksNoMore}
use Rattle.sctp_association.specs.Still.{heartbeat_time}
use Rattle.sctp_association.proofs.association.Association.settle.Goals as goal
use Rattle.sctp_association.proofs.association.Association.settle.Goals.{else-self, else-self-via-else-self, else-self-via-then-self+else-eq, then-self+then-eq}
use Rattle.sctp_association.specs.Requesting.{resets_of}

pub returns-clause-peer : goal.returns-clause-peer
returns-clause-peer c =
    let first : KeepsPeer c.args.self.now c.if-self.self = elim c.if-self.branch [
      | then-self+then-eq w ↦ keeps_by _ _ _ (knows_asked _ _ _ w.shutdown_asked-answer.ensures) (ap (λ (x : Association). x.config) w.self-is)
          (ap (λ (x : Association). x.key) w.self-is) (ap (λ (x : Association). x.machine) w.self-is)
          (owes_same c.args.self.now c.if-self.self (ap (λ (x : Association). x.due) w.self-is))
          (within_same c.args.self.now c.if-self.self (ap (λ (x : Association). x.config) w.self-is) (ap (λ (x : Association). x.outbound) w.self-is))
      | else-self w ↦ keeps_kept _ _ (record {
        config = ap (λ (x : Association). x.config) w.self-is;
        key = ap (λ (x : Association). x.key) w.self-is;
        machine = ap (λ (x : Association). x.machine) w.self-is;
        owes = owes_same c.args.self.now c.if-self.self (ap (λ (x : Association). x.due) w.self-is);
        sending = within_same c.args.self.now c.if-self.self (ap (λ (x : Association). x.config) w.self-is) (ap (λ (x : Association). x.outbound) w.self-is);
      })
    ] in
    keeps_then _ _ _ first c.note_drained.ensures.peer

pub returns-clause-tells : goal.returns-clause-tells
returns-clause-tells c =
    let first : TellsEnd c.args.self.now c.if-self.self = elim c.if-self.branch [
      | then-self+then-eq w ↦ end_same _ _ w.self-is
      | else-self w ↦ end_same _ _ w.self-is
    ] in
    end_then first c.note_drained.ensures.tells

pub returns-clause-moments : goal.returns-clause-moments
returns-clause-moments c =
    let first : AsksNoMore c.args.now c.args.self.now c.if-self.self = elim c.if-self.branch [
      | then-self+then-eq w ↦ asked_beats c.args.now c.args.self.now c.if-self.self _ _ (ap (λ (x : Association). x.machine) w.self-is)
          (ap (λ (x : Association). x.outbound) w.self-is) (ap (λ (x : Association). x.heartbeat) w.self-is) (ap (λ (x : Association). x.requests) w.self-is)
          (ap (λ (x : Association). x.peer_requests) w.self-is) w.shutdown_asked-answer.ensures
      | else-self w ↦ beats_same c.args.now c.args.self.now c.if-self.self (record {
        heartbeat = ap heartbeat_time w.self-is;
        idle = ap (λ (x : Association). x.heartbeat) w.self-is;
        requests = ap (λ (x : Association). x.requests) w.self-is;
        peer = ap (λ (x : Association). x.peer_requests) w.self-is;
      })
    ] in
    beats_then c.args.now c.args.self.now c.if-self.self c.note_drained.new.self first c.note_drained.ensures.moments

-- ## What may still come to be due

pub returns-clause-alone : goal.returns-clause-alone
returns-clause-alone c = c.note_drained.ensures.alone ∙ elim c.if-self.branch [
  | then-self+then-eq w ↦ ap (λ (x : Association). x.due.alone) w.self-is
  | else-self w ↦ ap (λ (x : Association). x.due.alone) w.self-is
]

pub returns-clause-shut : goal.returns-clause-shut
returns-clause-shut c none =
    let first : c.if-self.self.machine.state ≡ c.args.self.now.machine.state = elim c.if-self.branch [
      | then-self+then-eq w ↦ ap (λ (x : Association). x.machine.state) w.self-is
          ∙ asked_shut c.args.self.now.machine _ _ w.shutdown_asked-answer.ensures none
      | else-self w ↦ ap (λ (x : Association). x.machine.state) w.self-is
    ] in
    c.note_drained.ensures.shut (ap shutdowns_left first ∙ none) ∙ first

-- ## The machine takes both steps

pub returns-clause-settles : goal.returns-clause-settles
returns-clause-settles c =
    let old = c.args.self.now in
    let noted = c.note_drained.ensures in
    let asked : Asked old c.if-self.self = elim c.if-self.branch [
      | then-self+then-eq w ↦ let begins = asked_begins old (search rules) (search rules) in record {
        machine = ap (λ (x : Association). x.machine) w.self-is ∙ w.shutdown_asked-answer.ensures.machine ∙ begins.0;
        wants = ap (λ (x : Association). x.wants_shutdown) w.self-is ∙ begins.1;
        due = ap (λ (x : Association). x.due) w.self-is;
        over = ap (λ (x : Association). x.is_over) w.self-is;
        outbound = ap (λ (x : Association). x.outbound) w.self-is;
        control = ap (λ (x : Association). x.control) w.self-is;
        guard = ap (λ (x : Association). x.guard) w.self-is;
      }
      | else-self w ↦ asked_idle old c.if-self.self w.self-is (elim w.else-self.branch [
        | else-self-via-then-self+else-eq v ↦ λ _ stands. absurd (search rules)
        | else-self-via-else-self v ↦ λ wants _. absurd (search rules)
      ])
    ] in
    settles_by c.args.now old c.if-self.self c.note_drained.new.self asked noted.waits noted.drained noted.due noted.over noted.sending noted.wants noted.timers

pub returns-clause-resets : goal.returns-clause-resets
returns-clause-resets c = c.note_drained.ensures.resets ∙ elim c.if-self.branch [
  | then-self+then-eq w ↦ ap resets_of w.self-is
  | else-self w ↦ ap resets_of w.self-is
]
