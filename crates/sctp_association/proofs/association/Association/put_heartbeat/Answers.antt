use Rattle.std.proofs.Common.{ap, length, refl, sym, ◌∙◌, ◌∷◌, [], List, ℕ}
use Rattle.sctp_packets.specs.Draft.{Draft}
use Rattle.sctp_params.specs.Param.{heartbeat_info}
use Rattle.sctp_association.proofs.Idle.{heartbeat_put}
use Rattle.sctp_association.proofs.Others.{puts_one}
use Rattle.sctp_association.proofs.Owing.{used_later}
use Rattle.sctp_association.proofs.association.Association.put_heartbeat.Goals as goal
use Rattle.sctp_path.specs.declared.heartbeat.Heartbeat.{Heartbeat}
use Rattle.sctp_association.proofs.Requesting.{keeps_put}
use Rattle.sctp_association.proofs.Probing as probe

pub returns-then-put-clause-made : goal.returns-then-put-clause-made
returns-then-put-clause-made c = puts_one c.put.result _ _ _ _ _ c.put.ensures.added tt
    (λ _. (c.requires.due, used_later c.args.now _ _ c.sent.new.self (ap (λ (h : Heartbeat). h.used) c.sent.ensures)))

pub returns-else-put-clause-owes : goal.returns-else-put-clause-owes
returns-else-put-clause-owes c head short = absurd (heartbeat_put c.args.self.now.draft.bytes c.put.new.self.bytes c.args.self.now.draft.limit c.put.result
    c.put.ensures.grows head short c.put.ensures.least c.if-put.false _ c.in_ok-info.info
    (rw (c.in_ok-push.ensures.items, c.new-params.ensures.items) refl) (ap length (c.in_ok-info.ensures ∙ c.to_be_bytes.ensures)) c.put.ensures.fits)

pub returns-then-put-clause-resets : goal.returns-then-put-clause-resets
returns-then-put-clause-resets c = keeps_put c.put.result _ c.args.self.now _ c.put.ensures.added refl refl

-- ## Which HEARTBEAT

pub returns-in_default-clause-beats : goal.returns-in_default-clause-beats
returns-in_default-clause-beats c = probe.puts_none c.args.now c.args.self.now _ (probe.keeps_same c.args.self.now _ refl refl)

pub returns-in_err-info-clause-beats : goal.returns-in_err-info-clause-beats
returns-in_err-info-clause-beats c = probe.puts_none c.args.now c.args.self.now _ (probe.keeps_same c.args.self.now _ refl (sym c.in-Some.is))

pub returns-in_err-push-clause-beats : goal.returns-in_err-push-clause-beats
returns-in_err-push-clause-beats c = probe.puts_none c.args.now c.args.self.now _ (probe.keeps_same c.args.self.now _ refl (sym c.in-Some.is))

pub returns-else-put-clause-beats : goal.returns-else-put-clause-beats
returns-else-put-clause-beats c = probe.puts_none c.args.now c.args.self.now _
    (probe.keeps_same c.args.self.now _ (ap (λ (d : Draft). d.bytes) (c.put.ensures.full c.if-put.false)) (sym c.in-Some.is))

pub returns-then-put-clause-beats : goal.returns-then-put-clause-beats
returns-then-put-clause-beats c = probe.puts_one c.args.now c.put.result _ c.args.self.now _ c.in-Some.heartbeat c.sent.new.self c.if-put.true
    (rw (c.in_ok-push.ensures.items, c.new-params.ensures.items)
    (ap (λ (info : List ℕ). heartbeat_info info ∷ []) (c.in_ok-info.ensures ∙ c.to_be_bytes.ensures)))
    c.put.ensures.added c.requires.due c.in-Some.is refl c.sent.ensures
