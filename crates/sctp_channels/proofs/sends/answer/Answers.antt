use Rattle.std.proofs.Common.{◌<◌, List, ℕ, length, lit≤, subst, sym}
use Rattle.sctp_association.specs.Calls.{write_fault}
use Rattle.sctp_association.specs.Waiting.{IsRefusal}
use Rattle.sctp_association.specs.declared.association.Association.{Association}
use Rattle.sctp_channels.proofs.Refusing.{follows_refused}
use Rattle.sctp_channels.specs.Messages.{IsHanded}
use Rattle.sctp_channels.proofs.Sending.{moded_of}
use Rattle.sctp_data.specs.declared.chunk.chunk_payload_data.PayloadProtocolIdentifier.TheVariants.{Dcep}
use Rattle.sctp_channels.proofs.sends.answer.Goals as goal

pub returns-in-Ok-write-clause-ok : goal.returns-in-Ok-write-clause-ok
returns-in-Ok-write-clause-ok c =
    let is = c.in_ok-ack.ensures.ok.1 in
    let set = c.in-Ok.ensures in
    let written = c.in-Ok-write.ensures in
    let some = subst (λ (b : List ℕ). 0 < length b) (sym is) (lit≤ tt) in
    record {
      mid = c.set_mode.new.self;
      mode = moded_of _ _ _ _ _ _ set.ok set.rest set.quiet set.tells.end.events;
      ack = subst (λ (b : List ℕ). IsHanded c.args.stream Dcep b c.set_mode.new.self c.write-2.new.self) is (written.ok some);
      only = record {
        rest = written.rest;
        sender = written.sender;
        events = record { kept = written.tells.end.events; none = written.quiet };
      };
    }

pub returns-clause-refused : goal.returns-clause-refused
returns-clause-refused c =
    let fault = c.in-Err-write.fault in
    let stream = c.args.stream in
    let named =
    subst (λ (b : List ℕ). IsRefusal fault (write_fault stream (length b) c.set_mode.new.self)) c.in_ok-ack.ensures.ok.1 c.in-Err-write.ensures.refused in
    let here = subst (λ (a : Association). IsRefusal fault (write_fault stream 1 a)) (sym c.in-Err-write.ensures.err) named in
    follows_refused _ fault _ here c.not_taken-in-Err-write.ensures.passes
