use Rattle.sctp_sender.proofs.Names.{◌≡◌, ap, subst, sym, ◌∙◌, ℕ, None, rules, if◌then◌else◌, is_some, Outbound, sent_next, total_bytes, next_pending}
use Rattle.sctp_sender.proofs.Names.{IsSendable, Flight, with_queue, Transmission, with_flight, IsAllSettled, AreReported, IsCovered, following_tsn}
use Rattle.sctp_outbound.proofs.lemmas.outbound_queue.Outbounds.{sent_none}
use Rattle.sctp_sender.specs.Flight.{next_after_send}
use Rattle.sctp_sender.proofs.Amounts.{sent-bytes, started-bytes}
use Rattle.sctp_sender.proofs.Settled.{started-settled, sent-settled}
use Rattle.sctp_sender.proofs.Covers.{sent-covered, started-covered}
use Rattle.sctp_sender.proofs.Listed.{reported-on, started-reported}
use Rattle.sctp_sender.proofs.Seen.{sender_in}
use Rattle.sctp_sender.proofs.sender.Sender.send_next_tsn_unbounded.Goals as goal

pub returns-in_default : goal.returns-in_default
returns-in_default c =
    let f : Flight = c.self.inside.flight in
    let t : Transmission = sender_in c.self.inside in
    let none : None ≡ next_pending f.queue.pending = c.in_default.ensures.value ∙ ap (λ (o : Outbound). next_pending o.pending) c.queue-2.ensures in
    let same : (if is_some (next_pending f.queue.pending) then following_tsn f.next_tsn else f.next_tsn) ≡ f.next_tsn =
    ap (λ o. if is_some o then following_tsn f.next_tsn else f.next_tsn) (sym none) in
    record {
      answer = search rules;
      noted = search rules;
      ok = rw (← c.self.view_is) (ap (λ (g : Flight). with_flight g t) (c.start.ensures ∙ ap (with_queue f) (sent_none f.next_tsn c.args.now f.queue none)
          ∙ ap (λ (n : ℕ). let g : Flight = record f { queue = sent_next f.queue f.next_tsn c.args.now; next_tsn = n } in g) (sym same)));
      bytes = rw (← c.self.view_is) (ap (λ (g : Flight). total_bytes g.queue) c.start.ensures ∙ started-bytes c.args.now f.queue);
      accepted = search rules;
      refused = search rules;
      succeeds = search rules;
      idle = search rules;
      err = search rules;
    }

module _ (f : Flight) (q : Outbound) (is : q ≡ f.queue) (s : IsSendable q.pending q.inflight.chunks q.next_message_id) (now : ℕ) where
  abbrev after : Flight
  after = record f { queue = sent_next f.queue f.next_tsn now; next_tsn = next_after_send f }

  same-bytes : (g : Flight) → g ≡ after → total_bytes g.queue ≡ total_bytes f.queue
  same-bytes g e = ap (λ (h : Flight). total_bytes h.queue) e
      ∙ sent-bytes f.next_tsn now f.queue (subst (λ (r : Outbound). IsSendable r.pending r.inflight.chunks r.next_message_id) is s)

pub returns : goal.returns
returns c = record {
  answer = search rules;
  noted = search rules;
  ok = search rules;
  bytes = rw (← c.self.view_is) (same-bytes c.self.inside.flight c.queue.result.now c.queue.ensures c.are_whole.ensures c.args.now c.send_next.new.self
      c.in_ok-sent.ensures.ok);
  accepted = search rules;
  refused = search rules;
  succeeds = search rules;
  idle = search rules;
  err = search rules;
}

pub invariant_of-self : goal.invariant_of-self
invariant_of-self c =
    let f : Flight = c.self.inside.flight in (
      c.self.invariant.0,
      c.self.invariant.1,
      subst (λ (g : Flight). IsAllSettled g.queue) (sym c.start.ensures) (started-settled c.args.now f.queue c.self.invariant.2),
      subst (IsCovered c.self.inside.kept) (sym c.start.ensures) (started-covered c.self.inside.kept c.args.now f c.self.invariant.3),
      subst (AreReported c.self.inside.kept) (sym c.start.ensures) (started-reported c.self.inside.kept c.args.now f c.self.invariant.4),
    )

pub invariant_of-self-2 : goal.invariant_of-self-2
invariant_of-self-2 c =
    let f : Flight = c.self.inside.flight in (
      c.self.invariant.0,
      c.self.invariant.1,
      subst (λ (g : Flight). IsAllSettled g.queue) (sym c.in_ok-sent.ensures.ok) (sent-settled f.queue f.next_tsn c.args.now c.self.invariant.2),
      subst (IsCovered c.self.inside.kept) (sym c.in_ok-sent.ensures.ok) (sent-covered c.self.inside.kept f c.args.now (next_after_send f) c.self.invariant.3),
      reported-on c.self.inside.kept f c.send_next.new.self c.send_next.ensures.known c.self.invariant.4,
    )
