use Rattle.std.proofs.Common.{ℕ, Some, ap, arith, inl, inr, length, min, refl, subst, sym, true, ◌∙◌, ◌≡◌, ◌+◌, ◌-◌, ◌^◌}
use Rattle.sctp_association.proofs.Congested.{base_first, base_on, left_as}
use Rattle.sctp_association.proofs.Idle.{data_is_put, data_put, fits_so, lent_fits}
use Rattle.sctp_association.proofs.Making.{lent_put, none-of, sent_there, some-none}
use Rattle.sctp_outbound.specs.pending_queue.Whole.{IsSendable}
use Rattle.sctp_association.specs.Leaving.{one_where}
use Rattle.sctp_association.proofs.Left.{sent_fewer}
use Rattle.sctp_association.proofs.Fewer.{data_same, fewer_same}
use Rattle.sctp_association.proofs.Putting.{kept, nothing}
use Rattle.sctp_association.proofs.outbound.Outbound.put_next.Goals as goal
use Rattle.sctp_association.proofs.outbound.Outbound.put_next.Goals.{in-Some-burst, in_default-burst-2, in_default-burst}
use Rattle.sctp_association.specs.declared.outbound.Outbound.{Outbound}
use Rattle.sctp_association.specs.Idle.{in_flight}
use Rattle.sctp_association.specs.Congested.{path_of}
use Rattle.sctp_association.specs.Sending.{flight_of, may_send_next}
use Rattle.sctp_outbound.specs.outbound_queue.OutboundQueue.{Outbound as Queue}
use Rattle.sctp_outbound.specs.pending_queue.PendingQueue.{next_pending}
use Rattle.sctp_sender.specs.Sender.{Transmission}
use Rattle.sctp_util.specs.Padding.{padded_length}
use Rattle.sctp_serial.specs.DataChunks.{has_tsn}
use Rattle.std.specs.Prelude.{find}

pub returns-in_default-clause-made : goal.returns-in_default-clause-made
returns-in_default-clause-made c = λ r. nothing _

pub returns-then-data_length-room-clause-made : goal.returns-then-data_length-room-clause-made
returns-then-data_length-room-clause-made c = λ r. nothing _

pub returns-in-Err-SsnsUsedUp-clause-made : goal.returns-in-Err-SsnsUsedUp-clause-made
returns-in-Err-SsnsUsedUp-clause-made c = kept _ _ _ _ c.in-Err-SsnsUsedUp.ensures.err refl

pub returns-in-Err : goal.returns-in-Err
returns-in-Err c = record {
  made = kept _ _ _ _ c.in-Err.ensures.err refl;
  sent = tt;
  counts = record { resent = refl; timeouts = refl; failures = refl; rto = refl; timer = refl };
  held = tt;
  err = (ap (λ (s : Transmission). let y : Outbound = record c.args.self.now { sender = s } in y) c.in-Err.ensures.err, refl);
  limit = refl;
  grows = omega arith;
  put = λ _. tt;
  none = tt;
  within = inl (ap (λ (s : Transmission). path_of (record c.args.self.now { sender = s })) c.in-Err.ensures.err);
  fewer = fewer_same _ _ _ _
      (data_same c.args.self.now (record c.args.self.now { sender = c.send_next_tsn.new.sender }) c.in-Err.ensures.err refl) refl;
}

pub returns-in-Some-get-clause-made : goal.returns-in-Some-get-clause-made
returns-in-Some-get-clause-made c =
    let t : Transmission = c.args.self.now.sender in
    let e : next_pending t.flight.queue.pending ≡ Some c.in-Some.chunk.now =
    sym (c.in-Some.ensures.value ∙ ap (λ (o : Queue). next_pending o.pending) c.outbound.ensures) in
    let length : c.data_length.result ≡ min (16 + padded_length (length c.in-Some.chunk.now.user_data)) (2 ^ 64 - 1) =
    c.data_length.ensures ∙ ap {B = ℕ} (λ (n : ℕ). min (16 + padded_length n) (2 ^ 64 - 1)) c.len-bytes.ensures.value in
    let fit = fits_so c.data_length.result c.room.result c.in-Some.chunk.now length
    (omega (arith, c.if-data_length-room.false)) (omega (arith, c.room.ensures.value, c.room.ensures.most)) in
    lent_put c.args.now t c.send_next_tsn.new.sender c.in-Some-sent.tsn (sym c.in-Some-sent.is ∙ c.in-Ok.ensures.answer) c.in-Ok.ensures.noted
    c.in-Ok.ensures.ok c.in-Ok.ensures.bytes (c.in-Ok.ensures.accepted refl) c.in-Some-get.chunk.now _ _ _
    (data_is_put c.in-Some-get.chunk.now c.room.result _ _ c.put.result (
    lent_fits c.args.now c.room.result t c.send_next_tsn.new.sender c.in-Some-sent.tsn c.in-Some.chunk.now c.in-Some-get.chunk.now
    (sym c.in-Some-sent.is ∙ c.in-Ok.ensures.answer) c.in-Ok.ensures.noted
    (c.in-Some-get.ensures ∙ ap (λ (o : Queue). find (has_tsn c.in-Some-sent.tsn) o.inflight.chunks) c.outbound-in-Some-sent.ensures) e fit
    ) c.room.ensures.value c.room.ensures.most c.put.ensures.fits)
    (c.in-Some-get.ensures ∙ ap (λ (o : Queue). find (has_tsn c.in-Some-sent.tsn) o.inflight.chunks) c.outbound-in-Some-sent.ensures) c.put.ensures.added

pub unreachable-requires : goal.unreachable-requires
unreachable-requires c =
    absurd
    (sent_there c.args.now c.args.self.now.sender c.send_next_tsn.new.sender c.in-Some-sent.tsn (sym c.in-Some-sent.is ∙ c.in-Ok.ensures.answer)
    c.in-Ok.ensures.noted
    (c.in_default-get.ensures ∙ ap (λ (o : Queue). find (has_tsn c.in-Some-sent.tsn) o.inflight.chunks) c.outbound-in-Some-sent.ensures))

pub returns-in_default-sent-clause-made : goal.returns-in_default-sent-clause-made
returns-in_default-sent-clause-made c =
    let e : next_pending c.args.self.now.sender.flight.queue.pending ≡ Some c.in-Some.chunk.now =
    sym (c.in-Some.ensures.value ∙ ap (λ (o : Queue). next_pending o.pending) c.outbound.ensures) in
    absurd (some-none _ (sym e ∙ none-of _ _ (sym c.in_default-sent.is ∙ c.in-Ok.ensures.answer)))

pub returns-in-Some-get-clause-put : goal.returns-in-Some-get-clause-put
returns-in-Some-get-clause-put c head _ =
    let t : Transmission = c.args.self.now.sender in
    let e : next_pending t.flight.queue.pending ≡ Some c.in-Some.chunk.now =
    sym (c.in-Some.ensures.value ∙ ap (λ (o : Queue). next_pending o.pending) c.outbound.ensures) in
    let length : c.data_length.result ≡ min (16 + padded_length (length c.in-Some.chunk.now.user_data)) (2 ^ 64 - 1) =
    c.data_length.ensures ∙ ap {B = ℕ} (λ (n : ℕ). min (16 + padded_length n) (2 ^ 64 - 1)) c.len-bytes.ensures.value in
    let fit = fits_so c.data_length.result c.room.result c.in-Some.chunk.now length
    (omega (arith, c.if-data_length-room.false)) (omega (arith, c.room.ensures.value, c.room.ensures.most)) in
    data_put c.in-Some-get.chunk.now c.room.result _ _ _ c.put.result (
    lent_fits c.args.now c.room.result t c.send_next_tsn.new.sender c.in-Some-sent.tsn c.in-Some.chunk.now c.in-Some-get.chunk.now
    (sym c.in-Some-sent.is ∙ c.in-Ok.ensures.answer) c.in-Ok.ensures.noted
    (c.in-Some-get.ensures ∙ ap (λ (o : Queue). find (has_tsn c.in-Some-sent.tsn) o.inflight.chunks) c.outbound-in-Some-sent.ensures) e fit
    ) c.room.ensures.value c.room.ensures.most c.put.ensures.fits c.put.ensures.put head

pub returns-in-Some-get-clause-within : goal.returns-in-Some-get-clause-within
returns-in-Some-get-clause-within c = inr (record {
  chunk = c.in-Some.chunk.now;
  front = sym (c.in-Some.ensures.value ∙ ap (λ (o : Queue). next_pending o.pending) c.outbound.ensures);
  room = subst (λ (n : ℕ). may_send_next n c.args.self.now.most_in_flight c.args.self.now.peer_window c.args.self.now.burst
      c.args.self.now.congestion (in_flight c.args.self.now.sender) ≡ true) c.len-bytes.ensures.value
      (sym c.may_send.ensures.value ∙ c.if-not-may_send.false);
  after = left_as c.args.now c.args.self.now c.send_next_tsn.new.sender _ c.in-Ok.ensures.ok (elim c.match-self.branch [
    | in-Some-burst w ↦ w.self-is ∙ base_on (flight_of (in_flight c.args.self.now.sender)) _ c.args.self.now.burst
        (omega (arith, c.flight-flight.ensures, w.if-flight-gt0.true)) w.in-Some-burst.is
    | in_default-burst-2 w ↦ w.self-is ∙ base_first (flight_of (in_flight c.args.self.now.sender)) _ c.args.self.now.burst c.flight-flight.ensures
        (inr (omega (arith, c.flight-flight.ensures, w.if-flight-gt0.false)))
    | in_default-burst w ↦ w.self-is ∙ base_first (flight_of (in_flight c.args.self.now.sender)) _ c.args.self.now.burst c.flight-flight.ensures
        (inl w.in_default-burst.is)
  ]);
})

-- ## What can still leave

pub returns-in_default-clause-fewer : goal.returns-in_default-clause-fewer
returns-in_default-clause-fewer c = fewer_same _ _ _ _ refl refl

pub returns-then-data_length-room-clause-fewer : goal.returns-then-data_length-room-clause-fewer
returns-then-data_length-room-clause-fewer c = fewer_same _ _ _ _ refl refl

pub returns-in-Err-SsnsUsedUp-clause-fewer : goal.returns-in-Err-SsnsUsedUp-clause-fewer
returns-in-Err-SsnsUsedUp-clause-fewer c = fewer_same _ _ _ _
    (data_same c.args.self.now (record c.args.self.now { sender = c.send_next_tsn.new.sender }) c.in-Err-SsnsUsedUp.ensures.err refl) refl

pub returns-in-Some-get-clause-fewer : goal.returns-in-Some-get-clause-fewer
returns-in-Some-get-clause-fewer c =
    let t : Transmission = c.args.self.now.sender in
    let e : next_pending t.flight.queue.pending ≡ Some c.in-Some.chunk.now =
    sym (c.in-Some.ensures.value ∙ ap (λ (o : Queue). next_pending o.pending) c.outbound.ensures) in
    sent_fewer (one_where c.args.self.now.is_skip_due) c.args.now t c.send_next_tsn.new.sender c.in-Some.chunk.now _ _
    (subst (λ (o : Queue). IsSendable o.pending o.inflight.chunks o.next_message_id) c.outbound-2.ensures c.are_whole.ensures) e c.in-Ok.ensures.ok

pub returns-in_default-sent-clause-fewer : goal.returns-in_default-sent-clause-fewer
returns-in_default-sent-clause-fewer c =
    let t : Transmission = c.args.self.now.sender in
    let e : next_pending t.flight.queue.pending ≡ Some c.in-Some.chunk.now =
    sym (c.in-Some.ensures.value ∙ ap (λ (o : Queue). next_pending o.pending) c.outbound.ensures) in
    sent_fewer (one_where c.args.self.now.is_skip_due) c.args.now t c.send_next_tsn.new.sender c.in-Some.chunk.now _ _
    (subst (λ (o : Queue). IsSendable o.pending o.inflight.chunks o.next_message_id) c.outbound-2.ensures c.are_whole.ensures) e c.in-Ok.ensures.ok
