use Rattle.std.proofs.Common.{◌≡◌, ◌<◌, List, ℕ, false, length, subst, sym}
use Rattle.sctp_channels.specs.Messages.{IsHanded}
use Rattle.sctp_channels.proofs.Handing.{open_same, open_some}
use Rattle.sctp_channels.proofs.Sending.{moded_of, sends_more}
use Rattle.sctp_association.specs.Waiting.{opened}
use Rattle.sctp_data.specs.declared.chunk.chunk_payload_data.PayloadProtocolIdentifier.TheVariants.{Dcep}
use Rattle.sctp_dcep.specs.declared.message.Open.{Open}
use Rattle.sctp_sender.specs.Sender.{with_mode_on}
use Rattle.sctp_channels.proofs.channels.Channels.open.Goals as goal

pub returns-clause-written : goal.returns-clause-written
returns-clause-written c =
    let before = c.args.association.now.outbound in
    let stream = c.in-Some.stream in
    let is = c.in_ok-bytes.ensures.ok.1 in
    let some = subst (λ (b : List ℕ). 0 < length b) (sym is) (open_some c.args.request) in
    let same = sym (open_same c.args.request c.in-Open.request c.in-Open.is) in
    record {
      mid = c.set_mode.new.self;
      mode = subst (λ (o : Open). c.set_mode.new.self.outbound ≡ record before {
        sender = with_mode_on stream false o.reliability o.value (opened stream before.sender);
      }) same c.in_ok-set_mode.ensures.ok;
      written = subst (λ (b : List ℕ). IsHanded stream Dcep b c.set_mode.new.self c.write-2.new.self) is (c.in_ok-write.ensures.ok some);
    }

pub returns-clause-sends : goal.returns-clause-sends
returns-clause-sends c =
    let set = c.in_ok-set_mode.ensures in
    let written = c.in_ok-write.ensures in
    let moded = moded_of _ _ _ _ c.args.association.now c.set_mode.new.self set.ok set.rest set.quiet set.tells.end.events in
    sends_more c.args.association.now c.set_mode.new.self c.write-2.new.self moded.only (record {
      rest = written.rest;
      sender = written.sender;
      events = record { kept = written.tells.end.events; none = written.quiet };
    })
