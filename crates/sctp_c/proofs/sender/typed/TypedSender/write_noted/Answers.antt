use Rattle.std.proofs.Common.{◌≡◌, ◌<◌, ◌∷◌, ℕ, rules, Some, length, remove, subst, sym, ap, ◌∙◌, inr, arith}
use Rattle.std.proofs.lemmas.Bool.Decides.{nat_tests}
use Rattle.sctp_outbound.specs.outbound_queue.OutboundQueue.{Outbound}
use Rattle.sctp_sender.specs.Sender.{Transmission, stream_of, written_to}
use Rattle.sctp_stream.specs.declared.outbound_stream.OutboundStream.{OutboundStream}
use Rattle.sctp_c.specs.Types.{KeepsTypes, noted, type_of}
use Rattle.sctp_c.proofs.Writes.{forgotten, has-bytes, keeps-from, no-bytes, noted-front, same-sender, writes}
use Rattle.sctp_c.proofs.sender.typed.TypedSender.write_noted.Goals as goal

pub returns-in-Ok-Some-default-clause-ok : goal.returns-in-Ok-Some-default-clause-ok
returns-in-Ok-Some-default-clause-ok c =
    let n = c.in-Ok-Some-default.number in
    let m = c.next_message_id-message.result in
    let old = c.args.self.now in
    let new = c.settle.new.self in
    let mid = c.note.new.self in
    let message : m ≡ old.own.flight.queue.next_message_id = c.next_message_id-message.ensures ∙ ap (λ (q : Outbound). q.next_message_id) c.outbound.ensures in
    let is : n ≡ m = (has-bytes n (length c.args.bytes.now) old.own.flight.queue.next_message_id (search rules)).1 ∙ sym message in
    let given : type_of n mid ≡ c.args.payload_type = ap (λ k. type_of k mid) is ∙ c.in-Ok.ensures.given in
    let kept : type_of n new.types ≡ type_of n mid = ap (λ k. type_of k new.types) is ∙ c.settle.ensures.given ∙ ap (λ k. type_of k mid) (sym is) in
    let wrote : (0 < length c.args.bytes.now → (l : OutboundStream) → stream_of c.args.stream old.own ≡ Some l
    → c.write.new.self ≡ written_to l c.args.stream c.args.ppi c.args.bytes.now old.own) = search rules in
    writes c.args.stream c.args.payload_type n c.in-Ok-Some-default.count c.args.bytes.now c.args.ppi old new c.requires.0
    (λ h. kept ∙ given)
    (λ h. absurd (grind (arith, nat_tests, h, c.requires.1)))
    (inr (keeps-from mid (noted n c.args.payload_type ∷ old.types) new.types new.own.flight.queue
    (λ k. noted-front n c.args.payload_type k old.types mid given (λ j other. c.in-Ok.ensures.others j (λ e. other (e ∙ sym is))))
    (subst (λ (t : Transmission). KeepsTypes mid new.types t.flight.queue) (sym c.settle.ensures.own) c.settle.ensures.kept)))
    (search rules)
    (λ some l found. c.settle.ensures.own ∙ wrote some l found)
    (search rules)
    (search rules)

pub returns-in-Ok-None-default-clause-none : goal.returns-in-Ok-None-default-clause-none
returns-in-Ok-None-default-clause-none c _ =
    let old = c.args.self.now in
    let none : length c.args.bytes.now ≡ 0 = no-bytes (length c.args.bytes.now) old.own.flight.queue.next_message_id (search rules) in
    let own : c.write.new.self ≡ old.own = search rules in (
      none,
      same-sender old c.write.new.self c.forget.new.self own
          (c.forget.ensures ∙ ap (λ l. remove l c.in-Ok.place) c.in-Ok.ensures.ok.1
          ∙ forgotten old.types c.in-Ok.place (noted c.next_message_id-message.result c.args.payload_type) c.in-Ok.ensures.ok.0),
    )

pub returns-in-Err-clause-err : goal.returns-in-Err-clause-err
returns-in-Err-clause-err c =
    let old = c.args.self.now in
    let own : c.write.new.self ≡ old.own = search rules in
    same-sender old c.write.new.self c.forget-in-Err.new.self own
    (c.forget-in-Err.ensures ∙ ap (λ l. remove l c.in-Ok.place) c.in-Ok.ensures.ok.1
    ∙ forgotten old.types c.in-Ok.place (noted c.next_message_id-message.result c.args.payload_type) c.in-Ok.ensures.ok.0)
