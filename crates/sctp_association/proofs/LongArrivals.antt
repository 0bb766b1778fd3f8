-- Each call that a datagram brings leads on from two sessions in which nothing is old, one for each way.
use Rattle.std.proofs.Common.{◌≡◌, ◌+◌, ◌≤◌, ℕ, true, false, List, [], ◌∷◌, Option, Some, None, refl, ap, sym, subst, ◌∙◌, arith}
use Rattle.std.specs.Prelude.{Contains, if◌then◌else◌}
use Rattle.sctp_association.proofs.AgedTsns.{young-before}
use Rattle.sctp_association.proofs.Hosts.{Fits, chunk-of}
use Rattle.sctp_association.proofs.HostSteps.{IsThere, either, plain-sack}
use Rattle.sctp_association.proofs.Long.{Long, ages-of, near-of, used-of}
use Rattle.sctp_association.proofs.LongCalls.{aged-made}
use Rattle.sctp_association.proofs.LongSteps.{Later, Reach, ask-call, hear-sack, later-same, later-then, other-call, pass-call, receive-call}
use Rattle.sctp_association.proofs.LongSteps.{restart-call, there-later}
use Rattle.sctp_association.proofs.Raises.{misses-long, misses-next}
use Rattle.sctp_association.specs.Acks.{without_blocks}
use Rattle.sctp_association.specs.Arrivals.{Arrival, Does, Halves, Hearing, Hears, IsBrought, Receives, ReceivesIn, Steps, halves, without_gaps}
use Rattle.sctp_association.specs.Arrivals.{acks, begins, counts, hears, passes, receives, renews, restarts}
use Rattle.sctp_association.specs.Delivered.{IsFor, IsForMade}
use Rattle.sctp_association.specs.Hosts.{AreByRule, Host}
use Rattle.sctp_association.specs.Hosts.{IsReceiver, Way}
use Rattle.sctp_association.specs.Ages.{IsYoungCall}
use Rattle.sctp_data.specs.PayloadData.{Data, data_of}
use Rattle.sctp_data.specs.SelectiveAck.{Sack}
use Rattle.sctp_delivery.specs.EveryCall.{AnyCall, closes_incoming, discards, of_receiving, passes_over, resets_incoming}
use Rattle.sctp_delivery.specs.ReceiverCalls as incoming
use Rattle.sctp_delivery.specs.ReceiverCalls.{ReceiverMakes}
use Rattle.sctp_delivery.specs.Recent.{Aged, IsAmongYoung}
use Rattle.sctp_delivery.specs.SenderCalls as outgoing
use Rattle.sctp_delivery.specs.SenderCalls.{Made, SenderCall, SenderMakes, TakesBackAndSack, Write, data_chunk, forward_tsn, written_after}
use Rattle.sctp_receiver.specs.Receiver.{Reception, at_first, discard_refusal}
use Rattle.sctp_receiver.specs.ReceiverRuns as runs
use Rattle.sctp_receiver.specs.ReceiverRuns.{Message, messages_after, with_message}
use Rattle.sctp_receiver.specs.Resets.{reset_refusal}
use Rattle.sctp_receiver.specs.Skips.{names_closed, past_closed_refusal}
use Rattle.sctp_receiver.specs.declared.receiver.refusal.ReceiverRefusal.TheVariants.{NamedStreamUnknown}
use Rattle.sctp_sender.specs.Sender.{Transmission}
use Rattle.sctp_util.specs.Serial.{at_or_before, comes_before}

-- ## The receiver, where there is one

-- calls lead from this session to one where the sender and what was written are the same, and the receiver is this one
module _ (P : AnyCall → Type 0) (w : Way) where
  pub record Led (st : Long) (new : Option Reception) (ms : List Message) (hs : List Aged) : Type 0 where
    pub next : Long
    pub sends : next.ran.session.sending.sender ≡ st.ran.session.sending.sender
    pub receives : IsReceiver w new next.ran.session.receiving.receiver
    pub written : next.ran.session.written ≡ st.ran.session.written
    pub read : next.ran.session.receiving.read ≡ ms
    pub aged : hs ≡ ages-of next
    pub given : used-of next ≤ used-of st
    pub later : Later P st next

  pub led-same : (st : Long) (o : Option Reception) (hs : List Aged) → IsReceiver w o st.ran.session.receiving.receiver → hs ≡ ages-of st
      → Led st o st.ran.session.receiving.read hs
  led-same st o hs is aged =
      record { next = st; sends = refl; receives = is; written = refl; read = refl; aged = aged; given = omega arith; later = later-same P st }

  abbrev pub led-by : (st : Long) (new : Reception) (ms : List Message) (hs : List Aged)
      → Reach P 0 st st.ran.session.sending.sender new st.ran.session.written ms hs → Led st (Some new) ms hs
  led-by st new ms hs x = record {
    next = x.next;
    sends = x.sends;
    receives = x.receives;
    written = x.written;
    read = x.read;
    aged = x.aged;
    given = (let le = x.given in omega (arith, le));
    later = x.later;
  }

  -- or where the receiver is the same, and the sender this one
  pub record Sent (n : ℕ) (st : Long) (ws : List Write) (new : Transmission) (hs : List Aged) : Type 0 where
    pub next : Long
    pub sends : next.ran.session.sending.sender ≡ new
    pub receives : next.ran.session.receiving.receiver ≡ st.ran.session.receiving.receiver
    pub written : next.ran.session.written ≡ ws
    pub read : next.ran.session.receiving.read ≡ st.ran.session.receiving.read
    pub aged : hs ≡ ages-of next
    pub given : used-of next ≤ used-of st + n
    pub later : Later P st next

  pub sent-same : (st : Long) (new : Transmission) (hs : List Aged) → st.ran.session.sending.sender ≡ new → hs ≡ ages-of st
      → Sent 0 st st.ran.session.written new hs
  sent-same st new hs is aged =
      record { next = st; sends = is; receives = refl; written = refl; read = refl; aged = aged; given = omega arith; later = later-same P st }

  abbrev pub sent-by : (n : ℕ) (st : Long) (new : Transmission) (ws : List Write) (hs : List Aged)
      → Reach P n st new st.ran.session.receiving.receiver ws st.ran.session.receiving.read hs → Sent n st ws new hs
  sent-by n st new ws hs x = record {
    next = x.next;
    sends = x.sends;
    receives = x.receives;
    written = x.written;
    read = x.read;
    aged = x.aged;
    given = x.given;
    later = x.later;
  }

-- ## A call that a datagram brings

-- the host receives on the way w, and out is the way to the peer, which is so and made these chunks
module _ (P Q : AnyCall → Type 0) (w out : Way) (peer : Host) (hs gs : List Aged) where
  pub record Came (forth back : Long) (new : Halves) : Type 0 where
    pub sent : Sent P w 0 forth forth.ran.session.written new.sender hs
    pub led : Led Q w back new.receiver back.ran.session.receiving.read gs

  module _ (ms : List Made) (ks : List Sack) where
    pub record Ready (forth back : Long) (old : Halves) : Type 0 where
      pub sends : forth.ran.session.sending.sender ≡ old.sender
      pub receives : IsReceiver w old.receiver back.ran.session.receiving.receiver
      pub beyond : IsReceiver out peer.receiver forth.ran.session.receiving.receiver
      pub from' : back.ran.session.sending.sender ≡ peer.sender
      pub made : (m : Made) → Contains ms m → Contains back.ran.session.made m
      pub sacks : (k : Sack) → Contains ks k → IsThere forth.ran.session k
      pub aged : hs ≡ ages-of forth
      pub ages : gs ≡ ages-of back

    -- it is among these of the session, too
    among : (st : Long) → gs ≡ ages-of st → (m : Made) → IsAmongYoung m gs → IsAmongYoung m (ages-of st)
    among st c m h = subst (IsAmongYoung m) c h

    abbrev Next : ℕ
    Next = peer.sender.flight.next_tsn

    module _ (t : Transmission) (r s : Reception) (st : Long) (is : st.ran.session.receiving.receiver ≡ r) (from' : st.ran.session.sending.sender ≡ peer.sender)
        (made : (m : Made) → Contains ms m → Contains st.ran.session.made m) (c : gs ≡ ages-of st) where
      abbrev Here : Type 0
      Here = Led Q w st (Some s) st.ran.session.receiving.read gs

      before : (n : ℕ) → comes_before n Next ≡ true → comes_before n st.ran.session.sending.sender.flight.next_tsn ≡ true
      before n e = subst (λ (u : Transmission). comes_before n u.flight.next_tsn ≡ true) (sym from') e

      drop-one : (d : Data) (tsn : ℕ) → d.tsn ≡ tsn → IsAmongYoung (data_chunk d) gs → Receives (runs.discards tsn) r s
          → Q (of_receiving (discards (chunk-of d))) → Here
      drop-one d tsn same y h q =
          let young = among st c (data_chunk d) y in
          led-by Q w st s st.ran.session.receiving.read gs
          (other-call Q st gs c (discards (chunk-of d)) s
          (subst (λ x. runs.Makes (runs.discards d.tsn) x s) (sym is) (subst (λ n. runs.Makes (runs.discards n) r s) (sym same) h.makes))
          (subst (λ x. discard_refusal d.tsn x ≡ None) (sym is) (subst (λ n. discard_refusal n r ≡ None) (sym same) h.unrefused.1))
          (aged-made st (record { chunk = data_chunk d; age = young.0 }) young.2) (young-before st d young) young q)

      receive-one : (call : runs.Call) → Receives call r s → Fits P Q w (receives call) (halves t (Some r))
          → IsYoungCall out gs peer (receives call) (halves t (Some r)) → IsForMade ms call → Here
      receive-one (runs.takes x a) h fits y of =
          led-by Q w st s st.ran.session.receiving.read gs
          (receive-call Q st gs c (incoming.takes x a) s (subst (λ q. ReceiverMakes (incoming.takes x a) q s) (sym is) (h.makes, h.accepted)) (made _ of)
          (young-before st (data_of x) (among st c (data_chunk (data_of x)) y)) (among st c (data_chunk (data_of x)) y) tt)
      receive-one (runs.opens stream) h fits y of =
          led-by Q w st s st.ran.session.receiving.read gs
          (receive-call Q st gs c (incoming.opens stream) s (subst (λ q. ReceiverMakes (incoming.opens stream) q s) (sym is) (h.makes, tt)) tt tt tt tt)
      receive-one (runs.forwards f) h fits y of =
          either
          (λ (named : names_closed f r ≡ false).
          let none = ap (λ b. if b then Some NamedStreamUnknown else past_closed_refusal f r) named ∙ h.accepted in
          led-by Q w st s st.ran.session.receiving.read gs
          (receive-call Q st gs c (incoming.follows f) s (subst (λ q. ReceiverMakes (incoming.follows f) q s) (sym is) (h.makes, none)) (made _ of)
          (before f.new_cumulative_tsn y.1) tt (among st c (forward_tsn f) y.0)))
          (λ (q : Q (of_receiving (passes_over f))).
          led-by Q w st s st.ran.session.receiving.read gs
          (other-call Q st gs c (passes_over f) s (subst (λ x. runs.Makes (runs.forwards f) x s) (sym is) h.makes)
          (subst (λ x. past_closed_refusal f x ≡ None) (sym is) h.accepted) (made _ of) (before f.new_cumulative_tsn y.1)
          (among st c (forward_tsn f) y.0) q))
          fits
      receive-one (runs.closes stream) h fits y of =
          led-by Q w st s st.ran.session.receiving.read gs
          (other-call Q st gs c (closes_incoming stream) s (subst (λ x. runs.Makes (runs.closes stream) x s) (sym is) h.makes) tt tt tt tt fits)
      receive-one (runs.resets stream last) h fits y of =
          led-by Q w st s st.ran.session.receiving.read gs
          (other-call Q st gs c (resets_incoming stream last) s (subst (λ x. runs.Makes (runs.resets stream last) x s) (sym is) h.makes)
          (subst (λ x. reset_refusal stream last x ≡ None) (sym is) h.unrefused) tt tt tt fits)
      receive-one (runs.discards tsn) h fits y of = drop-one y.0 tsn y.1 y.2 h (fits (chunk-of y.0) y.1)
      receive-one _ h fits y of = absurd of

    receive-in : (call : runs.Call) (t : Transmission) (o p : Option Reception) (st : Long) → ReceivesIn call o p
        → Fits P Q w (receives call) (halves t o) → IsYoungCall out gs peer (receives call) (halves t o) → IsForMade ms call
        → IsReceiver w o st.ran.session.receiving.receiver → st.ran.session.sending.sender ≡ peer.sender
        → ((m : Made) → Contains ms m → Contains st.ran.session.made m) → gs ≡ ages-of st → Led Q w st p st.ran.session.receiving.read gs
    receive-in call t (Some r) (Some s) st h fits y of is from' made c = receive-one t r s st is from' made c call h fits y of
    receive-in call t (Some r) None st h fits y of is from' made c = absurd h
    receive-in call t None p st h fits y of is from' made c = absurd h

    acknowledge : (h : Hearing) (old new : Halves) (st : Long) → Hears h st.ran.session.sending.sender new.sender → Fits P Q w (hears h) old
        → IsYoungCall out gs peer (hears h) old → IsFor ms ks (hears h) → IsReceiver out peer.receiver st.ran.session.receiving.receiver
        → ((k : Sack) → Contains ks k → IsThere st.ran.session k) → hs ≡ ages-of st
        → Sent P w 0 st st.ran.session.written new.sender hs
    acknowledge (acks k back gone) old new st x fits y of beyond there c =
        sent-by P w 0 st new.sender st.ran.session.written hs
        (either
        (λ (e : k ≡ of.sack).
        hear-sack P st hs c k back gone new.sender x (subst (λ (j : Sack). Contains st.ran.session.sacks j) (sym e) (there of.sack of.own).own)
        (y st.ran.session.receiving.receiver beyond))
        (λ (e : k ≡ without_gaps of.sack).
        hear-sack P st hs c (without_blocks of.sack.cumulative_tsn_ack) back gone new.sender
        (plain-sack of.sack back gone st.ran.session.sending.sender new.sender
        (subst (λ (j : Sack). TakesBackAndSack j back gone st.ran.session.sending.sender new.sender) e x)) (there of.sack of.own).plain
        (subst (λ (j : Sack). at_or_before j.cumulative_tsn_ack st.ran.session.receiving.receiver.cumulative_tsn ≡ true) e
        (y st.ran.session.receiving.receiver beyond)))
        of.is)
    acknowledge (passes tsn gone) old new st x fits y of beyond there c =
        sent-by P w 0 st new.sender st.ran.session.written hs
        (pass-call P st hs c (without_blocks tsn) gone new.sender x
        (subst (λ (n : ℕ). Contains st.ran.session.sacks (without_blocks n)) of.cumulative (there of.sack of.own).plain)
        (y st.ran.session.receiving.receiver beyond))
    acknowledge (counts count) old new st x fits y of beyond there c =
        let t = st.ran.session.sending.sender in
        let long = misses-long count t new.sender x in
        let few = (near-of st).few in
        sent-by P w 0 st new.sender st.ran.session.written hs
        (ask-call P st hs c (outgoing.misses count) new.sender x tt tt (misses-next count t new.sender x) refl (omega (arith, long, few)) st.short)
    acknowledge (restarts stream) old new st x fits y of beyond there c =
        sent-by P w 0 st new.sender st.ran.session.written hs (restart-call P st hs c stream new.sender x.0 x.1 fits)

    pub take-one : (a : Arrival) (old new : Halves) (forth back : Long) → Does a old new → Fits P Q w a old → IsYoungCall out gs peer a old → IsFor ms ks a
        → Ready forth back old → Came forth back new
    take-one (receives call) old new forth back d fits y of z = record {
      sent = sent-same P w forth new.sender hs (z.sends ∙ sym d.0) z.aged;
      led = receive-in call old.sender old.receiver new.receiver back d.1 fits y of z.receives z.from' z.made z.ages;
    }
    take-one (hears h) old new forth back d fits y of z = record {
      sent = acknowledge h old new forth (subst (λ t. Hears h t new.sender) (sym z.sends) d.1) fits y of z.beyond z.sacks z.aged;
      led = led-same Q w back new.receiver gs (subst (λ o. IsReceiver w o back.ran.session.receiving.receiver) (sym d.0) z.receives) z.ages;
    }
    take-one (begins tsn max limits) old new forth back d fits y of z =
        let first = subst (λ o. IsReceiver w o back.ran.session.receiving.receiver) fits.0 z.receives in
        let same = ap (λ (n : ℕ). at_first n w.most (Some w.limits)) (sym fits.1.0) ∙ ap (λ (n : ℕ). at_first tsn n (Some w.limits)) (sym fits.1.1.0)
        ∙ ap (λ l. at_first tsn max (Some l)) (sym fits.1.1.1) in
        record {
          sent = sent-same P w forth new.sender hs (z.sends ∙ sym d.1.0) z.aged;
          led = led-same Q w back new.receiver gs (subst (λ o. IsReceiver w o back.ran.session.receiving.receiver) (sym d.1.1) (first ∙ same)) z.ages;
        }
    take-one (renews tsn size max) old new forth back d fits y of z = absurd fits

    pub ready-then : (old new : Halves) (forth back : Long) → Ready forth back old → (x : Came forth back new) → Ready x.sent.next x.led.next new
    ready-then old new forth back z x =
        let s = x.sent in
        let k = x.led in
        record {
          sends = s.sends;
          receives = k.receives;
          beyond = subst (λ q. IsReceiver out peer.receiver q) (sym s.receives) z.beyond;
          from' = k.sends ∙ z.from';
          made = λ m c. k.later.made m (z.made m c);
          sacks = λ j c. there-later P forth s.next s.later j (z.sacks j c);
          aged = s.aged;
          ages = k.aged;
        }

    pub take-each : (datagram : List ℕ) (calls : List Arrival) (old new : Halves) (forth back : Long) (r : Steps (IsBrought datagram) Does calls old new)
        → AreByRule (Fits P Q w) datagram calls old new r → AreByRule (IsYoungCall out gs peer) datagram calls old new r
        → ((a : Arrival) → IsBrought datagram a → IsFor ms ks a) → Ready forth back old → Came forth back new
    take-each datagram [] old new forth back r fits y for z = record {
      sent = sent-same P w forth new.sender hs (z.sends ∙ sym (ap (λ (h : Halves). h.sender) r)) z.aged;
      led = led-same Q w back new.receiver gs
          (subst (λ o. IsReceiver w o back.ran.session.receiving.receiver) (sym (ap (λ (h : Halves). h.receiver) r)) z.receives) z.ages;
    }
    take-each datagram (a ∷ calls) old new forth back r fits y for z =
        let x = take-one a old r.0 forth back r.1.0.does fits.0 y.0 (for a r.1.0.asked) z in
        let s = x.sent in
        let k = x.led in
        let ready = ready-then old r.0 forth back z x in
        let g = take-each datagram calls r.0 new s.next k.next r.1.1 fits.1 y.1 for ready in
        record {
          sent = record {
            next = g.sent.next;
            sends = g.sent.sends;
            receives = g.sent.receives ∙ s.receives;
            written = g.sent.written ∙ s.written;
            read = g.sent.read ∙ s.read;
            aged = g.sent.aged;
            given = (let first = s.given in let second = g.sent.given in omega (arith, first, second));
            later = later-then P forth s.next g.sent.next s.later g.sent.later;
          };
          led = record {
            next = g.led.next;
            sends = g.led.sends ∙ k.sends;
            receives = g.led.receives;
            written = g.led.written ∙ k.written;
            read = g.led.read ∙ k.read;
            aged = g.led.aged;
            given = (let first = k.given in let second = g.led.given in omega (arith, first, second));
            later = later-then Q back k.next g.led.next k.later g.led.later;
          };
        }
