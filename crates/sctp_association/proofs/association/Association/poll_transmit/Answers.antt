use Rattle.sctp_association.specs.Congested.{Path}
use Rattle.std.proofs.Common.{Bool, Option, [], ap, false, inl, refl, ℕ, subst, sym, true, ◌∙◌, ◌≡◌, None, arith, ◌≤◌}
use Rattle.std.specs.Prelude.{Ok, is_some}
use Rattle.sctp_association.proofs.Fewer.{data_same, replies_few, settled_few, some_less}
use Rattle.sctp_association.specs.Most.{most_data}
use Rattle.sctp_association.proofs.Telling.{end_then, low_only, tells_kept, tells_peer, tells_same, tells_then, to_low, transmits_end, unmoved_end}
use Rattle.std.proofs.lemmas.Option.{none-some}
use Rattle.sctp_association.proofs.Congested.{as_full, dropped_due, full_of, goes_on, over_not, sends_after, sends_alike, sends_same, stops, unknown_not}
use Rattle.sctp_association.proofs.Congested.{unsent_of}
use Rattle.sctp_association.proofs.Known.{keeps_then, knows_same, unmoved_keeps, unmoved_within}
use Rattle.sctp_association.proofs.Leaving.{leaves_later, leaves_same, new_then, new_unmoved, once_after, stays_leave}
use Rattle.sctp_association.proofs.Lasting.{lasts_same, lasts_then, lasts_unmoved}
use Rattle.sctp_association.proofs.Offering.{offers_none, offers_reply}
use Rattle.sctp_association.proofs.Owing.{rto_asks}
use Rattle.sctp_association.proofs.Idle.{on_ok}
use Rattle.sctp_association.proofs.Rows.{settles_enters}
use Rattle.sctp_association.proofs.Running.{none_sent}
use Rattle.sctp_association.proofs.Timers.{enters_from, enters_same, enters_then}
use Rattle.sctp_association.proofs.Others.{alike_same, at_then, beats_same, before_then, none_sent_so, sent_alone, unsent, unsent_alike, unsent_err}
use Rattle.sctp_association.proofs.Above.{pauses_streams}
use Rattle.sctp_association.proofs.Lows.{adds_where, where_same, where_then}
use Rattle.sctp_association.specs.declared.event.Events.{Events}
use Rattle.sctp_sender.specs.Sender.{Transmission}
use Rattle.sctp_association.proofs.association.Association.poll_transmit.Goals as goal
use Rattle.sctp_association.specs.Congested.{PausesWithin}
use Rattle.sctp_association.specs.Entering.{usable_in}
use Rattle.sctp_association.specs.Halves.{is_sent, receiver_of, sides_of}
use Rattle.sctp_association.specs.declared.inbound.Inbound.{Inbound}
use Rattle.sctp_association.specs.Leaving.{IsSentIn, owed_of, replies_of}
use Rattle.sctp_association.specs.declared.outbound.Outbound.{Outbound}
use Rattle.sctp_association.specs.Runs.{Sends}
use Rattle.sctp_association.specs.Skips.{LeavesSkip}
use Rattle.sctp_handshake.specs.declared.machine.Machine.{Machine}
use Rattle.std.proofs.lemmas.Bool.{false≢true}
use Rattle.sctp_association.proofs.Requesting.{not_ok, reset_alone, reset_from, reset_kept, reset_none_so, timed_resets}
use Rattle.sctp_association.specs.Requesting.{OwesNoReset, Resets}
use Rattle.sctp_association.proofs.Probing as probe
use Rattle.sctp_association.proofs.Settled.{settled_leaves}

pub returns-in_err-put_alone-clause-made : goal.returns-in_err-put_alone-clause-made
returns-in_err-put_alone-clause-made c =
    none_sent_so _ _ _ c.from_residual.ensures.0 (unsent_alike c.args.self.now c.put_alone.new.self c.put_alone.ensures.halves _)

pub returns-in-Some-clause-made : goal.returns-in-Some-clause-made
returns-in-Some-clause-made c = sent_alone _ _ c.put_alone.ensures.halves c.in_ok-put_alone.ensures.written

pub returns-then-self-clause-made : goal.returns-then-self-clause-made
returns-then-self-clause-made c = unsent_alike c.args.self.now c.args.self.now (alike_same c.args.self.now) _

pub returns-in_err-abandon-clause-made : goal.returns-in_err-abandon-clause-made
returns-in_err-abandon-clause-made c = none_sent_so _ _ _ c.from_residual-in_err-abandon.ensures.0 (
    unsent (sides_of c.args.self.now) _ (receiver_of c.args.self.now.inbound) _ c.abandon.ensures.dropped refl
    )

pub returns-in_default-peer-clause-made : goal.returns-in_default-peer-clause-made
returns-in_default-peer-clause-made c = unsent (sides_of c.args.self.now) c.settle.new.self.outbound.sender (receiver_of c.settle.new.self.inbound) _
    (subst (λ t. Sends [] c.args.self.now.outbound.sender t) (sym c.settle.ensures.halves.sender) c.abandon.ensures.dropped) c.settle.ensures.halves.receiver

pub returns-clause-made : goal.returns-clause-made
returns-clause-made c = before_then _ (sides_of c.args.self.now) c.settle.new.self.outbound.sender (receiver_of c.settle.new.self.inbound) _ _
    (subst (λ t. Sends [] c.args.self.now.outbound.sender t) (sym c.settle.ensures.halves.sender) c.abandon.ensures.dropped) c.settle.ensures.halves.receiver
    c.put_packet.ensures.made

-- ## What is offered

pub returns-in_err-put_alone-clause-offers : goal.returns-in_err-put_alone-clause-offers
returns-in_err-put_alone-clause-offers c = unsent_err _ c.from_residual.ensures.0

pub returns-in-Some-clause-offers : goal.returns-in-Some-clause-offers
returns-in-Some-clause-offers c _ = offers_reply c.args.self.now c.in-Some.alone _ c.in-Some.is c.in_ok-put_alone.ensures.offers

pub returns-in_err-abandon-clause-offers : goal.returns-in_err-abandon-clause-offers
returns-in_err-abandon-clause-offers c = unsent_err _ c.from_residual-in_err-abandon.ensures.0

pub returns-clause-offers : goal.returns-clause-offers
returns-clause-offers c sent =
    offers_none c.args.now c.args.self.now c.settle.new.self c.put_packet.new.self _ (c.put_packet.ensures.once sent)

-- ## What stays

pub returns-in_err-put_alone-clause-peer : goal.returns-in_err-put_alone-clause-peer
returns-in_err-put_alone-clause-peer c = unmoved_keeps _ _ c.put_alone.ensures.kept

pub returns-in-Some-clause-peer : goal.returns-in-Some-clause-peer
returns-in-Some-clause-peer c =
    let kept = c.put_alone.ensures.kept in
    record {
      config = kept.config;
      key = kept.key;
      machine = knows_same _ _ kept.machine;
      owes = λ t e. absurd (none-some t e);
      sending = unmoved_within _ _ kept;
    }

pub returns-in_default-peer-clause-peer : goal.returns-in_default-peer-clause-peer
returns-in_default-peer-clause-peer c =
    let peer = c.settle.ensures.peer in
    let rest = c.abandon.ensures.rest in
    record {
      config = peer.config;
      key = peer.key;
      machine = peer.machine;
      owes = peer.owes;
      sending = (
        λ e. peer.sending.0 (ap (λ (o : Outbound). o.failures.most) rest ∙ e),
        λ e. peer.sending.1 (ap (λ (o : Outbound). o.rto.limits) rest ∙ e),
      );
    }

pub returns-clause-peer : goal.returns-clause-peer
returns-clause-peer c =
    let peer = c.settle.ensures.peer in
    let rest = c.abandon.ensures.rest in
    keeps_then _ c.settle.new.self _ (record {
      config = peer.config;
      key = peer.key;
      machine = peer.machine;
      owes = peer.owes;
      sending = (
        λ e. peer.sending.0 (ap (λ (o : Outbound). o.failures.most) rest ∙ e),
        λ e. peer.sending.1 (ap (λ (o : Outbound). o.rto.limits) rest ∙ e),
      );
    })
    (unmoved_keeps _ _ c.put_packet.ensures.kept)

pub returns-in_err-put_alone-clause-tells : goal.returns-in_err-put_alone-clause-tells
returns-in_err-put_alone-clause-tells c =
    let put = c.put_alone.ensures in
    tells_peer _ _ (unmoved_keeps _ _ put.kept) (unmoved_end _ _ put.halves put.kept)

pub returns-in-Some-clause-tells : goal.returns-in-Some-clause-tells
returns-in-Some-clause-tells c =
    let put = c.put_alone.ensures in
    tells_kept _ _ (knows_same _ _ put.kept.machine) (unmoved_end c.args.self.now c.put_alone.new.self put.halves put.kept)

pub returns-then-self-clause-tells : goal.returns-then-self-clause-tells
returns-then-self-clause-tells c = tells_same _ _ refl

pub returns-in_err-abandon-clause-tells : goal.returns-in_err-abandon-clause-tells
returns-in_err-abandon-clause-tells c = tells_kept _ _ (knows_same _ _ refl)
    (to_low c.args.self.now.inbound c.args.self.now.events c.args.self.now.is_over c.abandon.new.low c.abandon.ensures.low
    (omega (arith, c.abandon.ensures.room)))

pub returns-in_default-peer-clause-tells : goal.returns-in_default-peer-clause-tells
returns-in_default-peer-clause-tells c = tells_kept _ _ c.settle.ensures.peer.machine (end_then
    (to_low c.args.self.now.inbound c.args.self.now.events c.args.self.now.is_over c.abandon.new.low c.abandon.ensures.low
    (omega (arith, c.abandon.ensures.room))) c.settle.ensures.tells)

pub returns-clause-tells : goal.returns-clause-tells
returns-clause-tells c =
    let put = c.put_packet.ensures in
    tells_then _ c.settle.new.self _ (tells_kept _ _ c.settle.ensures.peer.machine (end_then
    (to_low c.args.self.now.inbound c.args.self.now.events c.args.self.now.is_over c.abandon.new.low c.abandon.ensures.low
    (omega (arith, c.abandon.ensures.room))) c.settle.ensures.tells))
    (tells_peer _ _ (unmoved_keeps _ _ put.kept) (transmits_end _ _ _ put.made put.kept))

-- a low buffered amount, and nothing else
pub returns-in_err-put_alone-clause-quiet : goal.returns-in_err-put_alone-clause-quiet
returns-in_err-put_alone-clause-quiet c = low_only c.args.self.now.events _ c.args.self.now.events.low c.put_alone.ensures.kept.events

pub returns-in-Some-clause-quiet : goal.returns-in-Some-clause-quiet
returns-in-Some-clause-quiet c = low_only c.args.self.now.events _ c.args.self.now.events.low c.put_alone.ensures.kept.events

pub returns-in_default-peer-clause-quiet : goal.returns-in_default-peer-clause-quiet
returns-in_default-peer-clause-quiet c = low_only c.args.self.now.events _ c.abandon.new.low c.settle.ensures.events

pub returns-clause-quiet : goal.returns-clause-quiet
returns-clause-quiet c = low_only c.args.self.now.events _ c.abandon.new.low (c.put_packet.ensures.kept.events ∙ c.settle.ensures.events)

-- which amounts fell

pub returns-in_err-put_alone-clause-lows : goal.returns-in_err-put_alone-clause-lows
returns-in_err-put_alone-clause-lows c = where_same c.args.self.now.outbound.sender c.put_alone.new.self.outbound.sender _ _
    (ap (λ (t : Transmission). t.streams) c.put_alone.ensures.halves.sender)
    (ap (λ (e : Events). e.low) c.put_alone.ensures.kept.events)

pub returns-in-Some-clause-lows : goal.returns-in-Some-clause-lows
returns-in-Some-clause-lows c = where_same c.args.self.now.outbound.sender c.put_alone.new.self.outbound.sender _ _
    (ap (λ (t : Transmission). t.streams) c.put_alone.ensures.halves.sender)
    (ap (λ (e : Events). e.low) c.put_alone.ensures.kept.events)

pub returns-then-self-clause-lows : goal.returns-then-self-clause-lows
returns-then-self-clause-lows c = where_same c.args.self.now.outbound.sender c.args.self.now.outbound.sender _ _ refl refl

pub returns-in_err-abandon-clause-lows : goal.returns-in_err-abandon-clause-lows
returns-in_err-abandon-clause-lows c =
    adds_where _ _ _ c.abandon.ensures.low c.abandon.ensures.room c.abandon.ensures.told c.abandon.ensures.only

pub returns-in_default-peer-clause-lows : goal.returns-in_default-peer-clause-lows
returns-in_default-peer-clause-lows c =
    where_then c.args.self.now.outbound.sender c.abandon.new.self.sender c.settle.new.self.outbound.sender _ _ _
    (ap (λ (o : Outbound). o.sender.streams) c.settle.ensures.sending)
    (ap (λ (e : Events). e.low) c.settle.ensures.events)
    (adds_where _ _ _ c.abandon.ensures.low c.abandon.ensures.room c.abandon.ensures.told c.abandon.ensures.only)

-- what leaves leaves the streams
pub returns-clause-lows : goal.returns-clause-lows
returns-clause-lows c =
    where_then c.args.self.now.outbound.sender c.abandon.new.self.sender c.put_packet.new.self.outbound.sender _ _ _
    (pauses_streams _ _ _ _ _ c.put_packet.ensures.within.path ∙ ap (λ (o : Outbound). o.sender.streams) c.settle.ensures.sending)
    (ap (λ (e : Events). e.low) (c.put_packet.ensures.kept.events ∙ c.settle.ensures.events))
    (adds_where _ _ _ c.abandon.ensures.low c.abandon.ensures.room c.abandon.ensures.told c.abandon.ensures.only)

-- ## What is left

pub returns-in_err-put_alone-clause-left : goal.returns-in_err-put_alone-clause-left
returns-in_err-put_alone-clause-left c = lasts_unmoved _ _ c.put_alone.ensures.kept

pub returns-in-Some-clause-left : goal.returns-in-Some-clause-left
returns-in-Some-clause-left c =
    let kept = c.put_alone.ensures.kept in lasts_same c.args.self.now _ kept.over kept.machine kept.failures

pub returns-then-self-clause-left : goal.returns-then-self-clause-left
returns-then-self-clause-left c = lasts_same c.args.self.now _ refl refl refl

pub returns-in_err-abandon-clause-left : goal.returns-in_err-abandon-clause-left
returns-in_err-abandon-clause-left c = lasts_same c.args.self.now _ refl refl (ap (λ (o : Outbound). o.failures) c.abandon.ensures.rest)

pub returns-in_default-peer-clause-left : goal.returns-in_default-peer-clause-left
returns-in_default-peer-clause-left c = lasts_then c.args.self.now _ _
    (lasts_same c.args.self.now _ refl refl (ap (λ (o : Outbound). o.failures) c.abandon.ensures.rest)) c.settle.ensures.left

pub returns-clause-left : goal.returns-clause-left
returns-clause-left c = lasts_then c.args.self.now c.settle.new.self _ (
    lasts_then c.args.self.now _ _ (lasts_same c.args.self.now _ refl refl (ap (λ (o : Outbound). o.failures) c.abandon.ensures.rest)) c.settle.ensures.left
    ) (lasts_unmoved _ _ c.put_packet.ensures.kept)

-- ## What had room

pub returns-in_err-put_alone-clause-within : goal.returns-in_err-put_alone-clause-within
returns-in_err-put_alone-clause-within c = sends_same c.args.now _ c.args.self.now.outbound c.put_alone.new.self.outbound
    (goes_on _ c.put_alone.new.self (unsent_of _ c.from_residual.ensures.0))
    (full_of _ c.put_alone.new.self c.put_alone.ensures.halves c.put_alone.ensures.kept.rto)

pub returns-in-Some-clause-within : goal.returns-in-Some-clause-within
returns-in-Some-clause-within c = sends_same c.args.now _ c.args.self.now.outbound c.put_alone.new.self.outbound (goes_on (Ok true) c.put_alone.new.self refl)
    (full_of _ c.put_alone.new.self c.put_alone.ensures.halves c.put_alone.ensures.kept.rto)

pub returns-then-self-clause-within : goal.returns-then-self-clause-within
returns-then-self-clause-within c =
    sends_same c.args.now _ c.args.self.now.outbound c.args.self.now.outbound (over_not (Ok false) c.args.self.now c.if-self.true) (as_full _ _ refl)

pub returns-in_err-abandon-clause-within : goal.returns-in_err-abandon-clause-within
returns-in_err-abandon-clause-within c = sends_alike c.args.now _ c.args.self.now.outbound c.abandon.new.self c.abandon.new.self
    (goes_on _ c.args.self.now (unsent_of _ c.from_residual-in_err-abandon.ensures.0)) c.abandon.ensures.dropped c.abandon.ensures.rest
    (dropped_due c.args.now c.args.self.now.outbound c.abandon.new.self c.abandon.ensures.early) (as_full _ _ refl)

pub returns-in_default-peer-clause-within : goal.returns-in_default-peer-clause-within
returns-in_default-peer-clause-within c = sends_alike c.args.now _ c.args.self.now.outbound c.abandon.new.self c.settle.new.self.outbound
    (unknown_not (Ok false) c.settle.new.self (sym c.peer.ensures ∙ c.in_default-peer.is)) c.abandon.ensures.dropped c.abandon.ensures.rest
    (dropped_due c.args.now c.args.self.now.outbound c.abandon.new.self c.abandon.ensures.early)
    (full_of _ c.settle.new.self c.settle.ensures.halves (ap (λ (o : Outbound). o.rto) c.settle.ensures.sending))

pub returns-clause-within : goal.returns-clause-within
returns-clause-within c =
    let kept = c.put_packet.ensures.kept in
    sends_after c.args.now _ c.args.self.now.outbound c.settle.new.self.outbound c.put_packet.new.self.outbound
    (subst (λ (o : Outbound). Sends [] c.args.self.now.outbound.sender o.sender) (sym c.settle.ensures.sending) c.abandon.ensures.dropped)
    (subst (λ (o : Outbound). o ≡ record c.args.self.now.outbound { sender = o.sender; is_skip_due = o.is_skip_due }) (sym c.settle.ensures.sending)
    c.abandon.ensures.rest)
    (λ is. dropped_due c.args.now c.args.self.now.outbound c.abandon.new.self c.abandon.ensures.early
    (ap (λ (o : Outbound). o.is_skip_due) (sym c.settle.ensures.sending) ∙ is))
    (subst (λ (b : Bool). PausesWithin c.args.now b c.settle.new.self.outbound c.put_packet.new.self.outbound)
    (stops _ c.put_packet.new.self (kept.over ∙ c.settle.ensures.over ∙ c.if-self.false)
    (ap (λ (m : Machine). is_some m.peer) kept.machine ∙ ap is_some (sym c.peer.ensures ∙ c.in-Some-peer.is))) c.put_packet.ensures.within)

-- ## What is due

pub returns-in_err-put_alone-clause-leaves : goal.returns-in_err-put_alone-clause-leaves
returns-in_err-put_alone-clause-leaves c = leaves_same _ _ _ _ c.put_alone.ensures.replies

pub returns-in-Some-clause-leaves : goal.returns-in-Some-clause-leaves
returns-in-Some-clause-leaves c = leaves_same _ _ _ _ c.put_alone.ensures.replies

pub returns-then-self-clause-leaves : goal.returns-then-self-clause-leaves
returns-then-self-clause-leaves c = leaves_same _ _ _ _ refl

pub returns-in_err-abandon-clause-leaves : goal.returns-in_err-abandon-clause-leaves
returns-in_err-abandon-clause-leaves c = leaves_same _ _ _ _ refl

pub returns-in_default-peer-clause-leaves : goal.returns-in_default-peer-clause-leaves
returns-in_default-peer-clause-leaves c = stays_leave _ _ _ _ c.settle.ensures.stays

pub returns-clause-leaves : goal.returns-clause-leaves
returns-clause-leaves c = leaves_later _ _ _ _ c.settle.ensures.stays c.put_packet.ensures.leaves

-- ## What leaves once

pub returns-in_err-put_alone-clause-once : goal.returns-in_err-put_alone-clause-once
returns-in_err-put_alone-clause-once c = unsent_err _ c.from_residual.ensures.0

pub returns-in-Some-clause-once : goal.returns-in-Some-clause-once
returns-in-Some-clause-once c _ none = absurd (none-some c.in-Some.alone (sym none ∙ c.in-Some.is))

pub returns-in_err-abandon-clause-once : goal.returns-in_err-abandon-clause-once
returns-in_err-abandon-clause-once c = unsent_err _ c.from_residual-in_err-abandon.ensures.0

pub returns-clause-once : goal.returns-clause-once
returns-clause-once c sent _ = once_after c.args.now c.args.self.now c.settle.new.self c.put_packet.new.self _ c.settle.ensures.asks
    (at_then _ _ _
    (rto_asks c.args.now c.args.self.now c.abandon.new.self (ap (λ (o : Outbound). o.rto) c.abandon.ensures.rest)) c.settle.ensures.moments)
    (λ is. dropped_due c.args.now c.args.self.now.outbound c.abandon.new.self c.abandon.ensures.early
    (ap (λ (o : Outbound). o.is_skip_due) (sym c.settle.ensures.sending) ∙ is))
    (ap (λ (m : Machine). m.state) c.put_packet.ensures.kept.machine) (c.put_packet.ensures.once sent)

pub returns-in_err-put_alone-clause-asks : goal.returns-in_err-put_alone-clause-asks
returns-in_err-put_alone-clause-asks c = new_unmoved _ _ c.put_alone.ensures.kept

pub returns-in-Some-clause-asks : goal.returns-in-Some-clause-asks
returns-in-Some-clause-asks c =
    let put = new_unmoved c.args.self.now c.put_alone.new.self c.put_alone.ensures.kept in
    record {
      cookie_echo = put.cookie_echo;
      cookie_ack = put.cookie_ack;
      shutdown = put.shutdown;
      shutdown_ack = put.shutdown_ack;
      heartbeat = put.heartbeat;
      report = put.report;
      sack = put.sack;
      unknown = put.unknown;
      cookie = put.cookie;
    }

pub returns-clause-asks : goal.returns-clause-asks
returns-clause-asks c =
    let put = c.put_packet.ensures in
    new_then (owed_of c.args.self.now) (owed_of c.settle.new.self) (owed_of c.put_packet.new.self) c.settle.ensures.asks
    (ap (λ (m : Machine). m.state) put.kept.machine) (new_unmoved c.settle.new.self c.put_packet.new.self put.kept)

-- ## Streams

pub returns-in_err-put_alone-clause-usable : goal.returns-in_err-put_alone-clause-usable
returns-in_err-put_alone-clause-usable c s = c.put_alone.ensures.kept.usable s

pub returns-in-Some-clause-usable : goal.returns-in-Some-clause-usable
returns-in-Some-clause-usable c s = c.put_alone.ensures.kept.usable s

pub returns-in_default-peer-clause-usable : goal.returns-in_default-peer-clause-usable
returns-in_default-peer-clause-usable c s = ap (λ (x : Option Inbound). usable_in s x) c.settle.ensures.inbound

pub returns-clause-usable : goal.returns-clause-usable
returns-clause-usable c s = c.put_packet.ensures.kept.usable s ∙ ap (λ (x : Option Inbound). usable_in s x) c.settle.ensures.inbound

-- ## HEARTBEATs

pub returns-in_err-put_alone-clause-moments : goal.returns-in_err-put_alone-clause-moments
returns-in_err-put_alone-clause-moments c = beats_same c.args.now c.args.self.now c.put_alone.new.self c.put_alone.ensures.timed

pub returns-in-Some-clause-moments : goal.returns-in-Some-clause-moments
returns-in-Some-clause-moments c =
    let m = beats_same c.args.now c.args.self.now c.put_alone.new.self c.put_alone.ensures.timed in
    record { beat = m.beat; request = m.request; responses = m.responses }

pub returns-in_err-abandon-clause-moments : goal.returns-in_err-abandon-clause-moments
returns-in_err-abandon-clause-moments c =
    rto_asks c.args.now c.args.self.now c.abandon.new.self (ap (λ (o : Outbound). o.rto) c.abandon.ensures.rest)

pub returns-in_default-peer-clause-moments : goal.returns-in_default-peer-clause-moments
returns-in_default-peer-clause-moments c = at_then _ _ _
    (rto_asks c.args.now c.args.self.now c.abandon.new.self (ap (λ (o : Outbound). o.rto) c.abandon.ensures.rest)) c.settle.ensures.moments

pub returns-clause-moments : goal.returns-clause-moments
returns-clause-moments c = at_then _ _ _
    (at_then _ _ _
    (rto_asks c.args.now c.args.self.now c.abandon.new.self (ap (λ (o : Outbound). o.rto) c.abandon.ensures.rest)) c.settle.ensures.moments)
    c.put_packet.ensures.moments

-- ## What can still leave

pub returns-in-Some-clause-fewer : goal.returns-in-Some-clause-fewer
returns-in-Some-clause-fewer c _ =
    let put = c.put_alone.ensures in
    let beats = beats_same c.args.now c.args.self.now c.put_alone.new.self put.timed in
    let replies = replies_few c.args.now c.args.self.now c.put_alone.new.self put.kept beats in
    let half = data_same c.args.self.now.outbound c.put_alone.new.self.outbound put.halves.sender (ap (λ (p : Path). p.skip) put.halves.path) in
    let alone = some_less c.args.self.now.due.alone None c.in-Some.alone c.in-Some.is refl in
    omega (arith, replies, half, alone)

pub returns-clause-fewer : goal.returns-clause-fewer
returns-clause-fewer c sent =
    let settled = settled_few c.args.now c.args.self.now c.settle.new.self c.settle.ensures.asks
    (at_then _ _ _
    (rto_asks c.args.now c.args.self.now c.abandon.new.self (ap (λ (o : Outbound). o.rto) c.abandon.ensures.rest)) c.settle.ensures.moments)
    c.settle.ensures.shut c.settle.ensures.alone
    (subst (λ (o : Outbound). most_data o ≤ most_data c.args.self.now.outbound) (sym c.settle.ensures.sending) c.abandon.ensures.fewer) in
    let less = c.put_packet.ensures.fewer sent in
    omega (arith, settled, less)

-- ## A shutdown goes on

pub returns-in-Some-clause-settles : goal.returns-in-Some-clause-settles
returns-in-Some-clause-settles c none = absurd (none-some c.in-Some.alone (sym none ∙ c.in-Some.is))

pub returns-in_default-peer-clause-settles : goal.returns-in_default-peer-clause-settles
returns-in_default-peer-clause-settles c none going =
    let settles = c.settle.ensures.settles in
    record {
      kept = c.abandon.new.self.sender;
      dropped = c.abandon.ensures.dropped;
      machine = settles.machine;
      over = settles.over;
      wants = settles.wants;
      timers = enters_from c.args.now c.args.self.now _ _ refl refl refl (settles_enters c.args.now _ _ settles);
    }

pub returns-clause-settles : goal.returns-clause-settles
returns-clause-settles c none going =
    let settles = c.settle.ensures.settles in
    let kept = c.put_packet.ensures.kept in
    on_ok c.put_packet.result (record {
      kept = c.abandon.new.self.sender;
      dropped = c.abandon.ensures.dropped;
      machine = kept.machine ∙ settles.machine;
      over = kept.over ∙ settles.over;
      wants = kept.wants ∙ settles.wants;
      timers = enters_then c.args.now c.args.self.now c.settle.new.self c.put_packet.new.self
          (enters_from c.args.now c.args.self.now _ _ refl refl refl (settles_enters c.args.now _ _ settles)) kept.machine kept.config kept.rto kept.control
          kept.guard;
    })

pub returns-in_err-put_alone-clause-timers : goal.returns-in_err-put_alone-clause-timers
returns-in_err-put_alone-clause-timers c =
    let kept = c.put_alone.ensures.kept in
    enters_same c.args.now c.args.self.now c.put_alone.new.self (ap (λ (m : Machine). m.state) kept.machine) kept.control kept.guard

pub returns-in-Some-clause-timers : goal.returns-in-Some-clause-timers
returns-in-Some-clause-timers c =
    let kept = c.put_alone.ensures.kept in
    enters_same c.args.now c.args.self.now _ (ap (λ (m : Machine). m.state) kept.machine) kept.control kept.guard

pub returns-then-self-clause-timers : goal.returns-then-self-clause-timers
returns-then-self-clause-timers c = enters_same c.args.now c.args.self.now _ refl refl refl

pub returns-in_err-abandon-clause-timers : goal.returns-in_err-abandon-clause-timers
returns-in_err-abandon-clause-timers c = enters_same c.args.now c.args.self.now _ refl refl refl

pub returns-in_default-peer-clause-timers : goal.returns-in_default-peer-clause-timers
returns-in_default-peer-clause-timers c =
    enters_from c.args.now c.args.self.now _ _ refl refl refl (settles_enters c.args.now _ _ c.settle.ensures.settles)

pub returns-clause-timers : goal.returns-clause-timers
returns-clause-timers c =
    let kept = c.put_packet.ensures.kept in
    enters_then c.args.now c.args.self.now c.settle.new.self c.put_packet.new.self
    (enters_from c.args.now c.args.self.now _ _ refl refl refl (settles_enters c.args.now _ _ c.settle.ensures.settles)) kept.machine kept.config kept.rto
    kept.control kept.guard

-- ## Whether a FORWARD-TSN is due

pub returns-in_err-put_alone-clause-skips : goal.returns-in_err-put_alone-clause-skips
returns-in_err-put_alone-clause-skips c = record {
  kept = c.args.self.now.outbound.sender;
  dropped = none_sent c.args.self.now.outbound.sender;
  leaves = λ due. inl (ap (λ (p : Path). p.skip) c.put_alone.ensures.halves.path ∙ due);
}

pub returns-in-Some-clause-skips : goal.returns-in-Some-clause-skips
returns-in-Some-clause-skips c = record {
  kept = c.args.self.now.outbound.sender;
  dropped = none_sent c.args.self.now.outbound.sender;
  leaves = λ due. inl (ap (λ (p : Path). p.skip) c.put_alone.ensures.halves.path ∙ due);
}

pub returns-then-self-clause-skips : goal.returns-then-self-clause-skips
returns-then-self-clause-skips c = record {
  kept = c.args.self.now.outbound.sender;
  dropped = none_sent c.args.self.now.outbound.sender;
  leaves = λ due. inl due;
}

pub returns-in_err-abandon-clause-skips : goal.returns-in_err-abandon-clause-skips
returns-in_err-abandon-clause-skips c =
    record { kept = c.abandon.new.self.sender; dropped = c.abandon.ensures.dropped; leaves = λ due. inl (c.abandon.ensures.skip due) }

pub returns-in_default-peer-clause-skips : goal.returns-in_default-peer-clause-skips
returns-in_default-peer-clause-skips c = record {
  kept = c.abandon.new.self.sender;
  dropped = c.abandon.ensures.dropped;
  leaves = λ due. inl (ap (λ (o : Outbound). o.is_skip_due) c.settle.ensures.sending ∙ c.abandon.ensures.skip due);
}

pub returns-clause-skips : goal.returns-clause-skips
returns-clause-skips c = record {
  kept = c.settle.new.self.outbound.sender;
  dropped = subst (λ (o : Outbound). Sends [] c.args.self.now.outbound.sender o.sender) (sym c.settle.ensures.sending) c.abandon.ensures.dropped;
  leaves = λ due. subst (λ (n : ℕ). LeavesSkip (IsSentIn (is_sent c.put_packet.result) c.put_packet.new.self.draft.bytes) n
      c.settle.new.self.outbound.sender c.settle.new.self.outbound.is_skip_due c.put_packet.new.self.outbound.is_skip_due) c.settle.ensures.stays.limit
      c.put_packet.ensures.skips (ap (λ (o : Outbound). o.is_skip_due) c.settle.ensures.sending ∙ c.abandon.ensures.skip due);
}

-- ## A RE-CONFIG

pub returns-in_err-put_alone-clause-resets : goal.returns-in_err-put_alone-clause-resets
returns-in_err-put_alone-clause-resets c =
    let old = c.args.self.now in
    record {
      kept = old.outbound.sender;
      dropped = none_sent old.outbound.sender;
      leaves = reset_none_so c.args.now _ old.outbound.sender old c.put_alone.new.self c.from_residual.ensures.0
          (reset_kept c.args.now old.outbound.sender old c.put_alone.new.self (timed_resets old c.put_alone.new.self c.put_alone.ensures.timed));
      owes = λ is may. not_ok _ c.from_residual.ensures.0 is;
    }

pub returns-in-Some-clause-resets : goal.returns-in-Some-clause-resets
returns-in-Some-clause-resets c =
    let old = c.args.self.now in
    record {
      kept = old.outbound.sender;
      dropped = none_sent old.outbound.sender;
      leaves = reset_alone c.args.now old.outbound.sender c.in-Some.alone old _ c.in_ok-put_alone.ensures.reply
          (timed_resets old c.put_alone.new.self c.put_alone.ensures.timed);
      owes = λ is may. absurd (cc is);
    }

pub returns-then-self-clause-resets : goal.returns-then-self-clause-resets
returns-then-self-clause-resets c =
    let old = c.args.self.now in
    record {
      kept = old.outbound.sender;
      dropped = none_sent old.outbound.sender;
      leaves = reset_kept c.args.now old.outbound.sender old old refl;
      owes = λ is may. absurd (false≢true (sym may.going ∙ c.if-self.true));
    }

pub returns-in_err-abandon-clause-resets : goal.returns-in_err-abandon-clause-resets
returns-in_err-abandon-clause-resets c = record {
  kept = c.abandon.new.self.sender;
  dropped = c.abandon.ensures.dropped;
  leaves = reset_none_so c.args.now _ c.abandon.new.self.sender c.args.self.now _ c.from_residual-in_err-abandon.ensures.0
      (reset_kept c.args.now c.abandon.new.self.sender c.args.self.now _ refl);
  owes = λ is may. not_ok _ c.from_residual-in_err-abandon.ensures.0 is;
}

pub returns-in_default-peer-clause-resets : goal.returns-in_default-peer-clause-resets
returns-in_default-peer-clause-resets c = record {
  kept = c.abandon.new.self.sender;
  dropped = c.abandon.ensures.dropped;
  leaves = reset_kept c.args.now c.abandon.new.self.sender c.args.self.now c.settle.new.self c.settle.ensures.resets;
  owes = λ is may. absurd (false≢true (sym (ap is_some (sym c.peer.ensures ∙ c.in_default-peer.is)) ∙ may.known));
}

pub returns-clause-resets : goal.returns-clause-resets
returns-clause-resets c = record {
  kept = c.settle.new.self.outbound.sender;
  dropped = subst (λ (o : Outbound). Sends [] c.args.self.now.outbound.sender o.sender) (sym c.settle.ensures.sending) c.abandon.ensures.dropped;
  leaves = reset_from c.args.now _ c.settle.new.self.outbound.sender c.args.self.now c.settle.new.self c.put_packet.new.self
      (ap (λ (o : Outbound). o.rto) (c.settle.ensures.sending ∙ c.abandon.ensures.rest)) c.settle.ensures.resets c.put_packet.ensures.resets;
  owes = λ is may. subst (λ (r : Resets). OwesNoReset c.args.now c.settle.new.self.outbound.sender r) c.settle.ensures.resets
      (c.put_packet.ensures.unasked is may.state);
}

-- ## Which HEARTBEAT

pub returns-in_err-put_alone-clause-beats : goal.returns-in_err-put_alone-clause-beats
returns-in_err-put_alone-clause-beats c = probe.beat_none_so c.args.now _ c.args.self.now c.put_alone.new.self c.from_residual.ensures.0
    (probe.beat_kept c.args.now c.args.self.now c.put_alone.new.self c.put_alone.ensures.timed.idle)

pub returns-in-Some-clause-beats : goal.returns-in-Some-clause-beats
returns-in-Some-clause-beats c = probe.beat_alone c.args.now c.in-Some.alone c.args.self.now _ c.in_ok-put_alone.ensures.reply c.put_alone.ensures.timed.idle

pub returns-then-self-clause-beats : goal.returns-then-self-clause-beats
returns-then-self-clause-beats c = probe.beat_kept c.args.now c.args.self.now c.args.self.now refl

pub returns-in_err-abandon-clause-beats : goal.returns-in_err-abandon-clause-beats
returns-in_err-abandon-clause-beats c = probe.beat_none_so c.args.now _ c.args.self.now _ c.from_residual-in_err-abandon.ensures.0
    (probe.beat_kept c.args.now c.args.self.now _ refl)

pub returns-in_default-peer-clause-beats : goal.returns-in_default-peer-clause-beats
returns-in_default-peer-clause-beats c = probe.beat_kept c.args.now c.args.self.now c.settle.new.self c.settle.ensures.heartbeat

pub returns-clause-beats : goal.returns-clause-beats
returns-clause-beats c = probe.beat_from c.args.now _ c.args.self.now c.settle.new.self c.put_packet.new.self c.settle.ensures.heartbeat
    (at_then _ _ _
    (rto_asks c.args.now c.args.self.now c.abandon.new.self (ap (λ (o : Outbound). o.rto) c.abandon.ensures.rest)) c.settle.ensures.moments)
    c.put_packet.ensures.beats

-- ## In their order

pub returns-in_err-put_alone-clause-order : goal.returns-in_err-put_alone-clause-order
returns-in_err-put_alone-clause-order c = unsent_err _ c.from_residual.ensures.0

pub returns-in-Some-clause-order : goal.returns-in-Some-clause-order
returns-in-Some-clause-order c _ none = absurd (none-some c.in-Some.alone (sym none ∙ c.in-Some.is))

pub returns-in_err-abandon-clause-order : goal.returns-in_err-abandon-clause-order
returns-in_err-abandon-clause-order c = unsent_err _ c.from_residual-in_err-abandon.ensures.0

pub returns-clause-order : goal.returns-clause-order
returns-clause-order c sent _ = c.put_packet.ensures.order sent

-- ## As a shutdown goes on

pub returns-in-Some-clause-enters : goal.returns-in-Some-clause-enters
returns-in-Some-clause-enters c none = absurd (none-some c.in-Some.alone (sym none ∙ c.in-Some.is))

pub returns-in_default-peer-clause-enters : goal.returns-in_default-peer-clause-enters
returns-in_default-peer-clause-enters c none going =
    let new = c.settle.new.self in
    record {
      kept = c.abandon.new.self.sender;
      dropped = c.abandon.ensures.dropped;
      leaves = settled_leaves c.args.self.now new _ c.settle.ensures.settles.due c.settle.ensures.stays.cookie c.settle.ensures.inbound
          c.settle.ensures.stays.limit false new.draft.bytes (replies_of new) (leaves_same _ _ (replies_of new) (replies_of new) refl);
    }

pub returns-clause-enters : goal.returns-clause-enters
returns-clause-enters c none going = on_ok c.put_packet.result (record {
  kept = c.abandon.new.self.sender;
  dropped = c.abandon.ensures.dropped;
  leaves = settled_leaves c.args.self.now c.settle.new.self _ c.settle.ensures.settles.due c.settle.ensures.stays.cookie c.settle.ensures.inbound
      c.settle.ensures.stays.limit _ _ (replies_of c.put_packet.new.self) c.put_packet.ensures.leaves;
})
