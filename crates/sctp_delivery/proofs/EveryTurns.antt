-- Sessions of every call: on a stream that goes on, what is due stays so whatever the receiver is called for, and it stays open.
use Rattle.sctp_delivery.proofs.Names.{common_steps, nat_tests, ◌≡◌, ℕ, ◌<◌, ◌^◌, Bool, true, false, not, List, [], Option, Some, None, is_some, refl, ap, sym}
use Rattle.sctp_delivery.proofs.Names.{subst, ◌∙◌, arith, ◌==◌, ◌&&◌, if◌then◌else◌, option_or, option_map, list_any, list_any-those, find-append, none-some}
use Rattle.sctp_delivery.proofs.Names.{not_both, or-left, same-yes, New, InboundStream, Reception, filter_of, ⊤, after_forward_tsn, has_come, is_open}
use Rattle.sctp_delivery.proofs.Names.{is_pair_of, is_stale, names_too_far, stream_of, with_filter, with_tsn, forward_refusal, NamedSsnTooFar, ForwardTsn}
use Rattle.sctp_delivery.proofs.Names.{ReceiverCall, Session, ReceiverFollows, Stand, of_receiver}
use Rattle.sctp_receiver.specs.Inbound.{numbers_of}
use Rattle.sctp_receiver.specs.Receiver.{repeat_tsn}
use Rattle.sctp_receiver.proofs.StreamCosts.{are_apart}
use Rattle.sctp_receiver.proofs.Closed.{others-left}
use Rattle.sctp_delivery.specs.EveryCall.{ReceiverDoes, ReceiverOther, closes_incoming, discards, makes, of_receiving, passes_over, resets_incoming}
use Rattle.sctp_delivery.specs.EveryOrder.{breaks, opens_incoming}
use Rattle.sctp_delivery.specs.ReceiverCalls as incoming
use Rattle.sctp_delivery.proofs.Cases.{by-test}
use Rattle.sctp_delivery.proofs.Every.{Every}
use Rattle.sctp_delivery.proofs.Kept.{accepted-on, changed-elsewhere, changed-here}
use Rattle.sctp_delivery.proofs.Sent.{Entry, Numbered}
use Rattle.sctp_delivery.proofs.Sessions.{unnot}
use Rattle.sctp_delivery.proofs.SpreadCalls.{IsSpreadOn}
use Rattle.sctp_delivery.proofs.TsnPlaces.{base}
use Rattle.sctp_delivery.proofs.UnwrappedCalls.{found-after, other-due, quiet, stale-same}
use Rattle.sctp_delivery.proofs.UnwrappedHolds as holds
use Rattle.sctp_delivery.proofs.UnwrappedHolds.{AreDue}
use Rattle.sctp_delivery.proofs.UnwrappedSessions as sessions

-- ## What is due

-- where it is not refused, no name is too far
pub near-names : (f : ForwardTsn) (r : Reception) (b : Bool) → (if b then Some NamedSsnTooFar else forward_refusal f r) ≡ None → b ≡ false
near-names f r true e = absurd (none-some NamedSsnTooFar (sym e))
near-names f r false e = refl

module _ (st first : ℕ) (on dropped : ℕ → Bool) (o : on st ≡ true) (n : ℕ) (old : Session) (ns : List Numbered) (sent : List Entry)
    (i : IsSpreadOn on dropped first n old ns sent) (few : n < 2 ^ 31) (new : Session) where
  abbrev r : Reception
  r = old.receiving.receiver

  abbrev Due : ℕ → Stand → Type 0
  Due = AreDue (base first) st n (sessions.to st first sent) (sessions.at st first sent) (sessions.Was st first sent)

  abbrev DueOn : (ℕ → Type 0) → ℕ → ℕ → Option InboundStream → Type 0
  DueOn = holds.DueOn (base first) st n (sessions.to st first sent) (sessions.at st first sent) (sessions.Was st first sent)

  abbrev Old : ℕ → Type 0
  Old = holds.Came (base first) st n (sessions.to st first sent) (sessions.at st first sent) (sessions.Was st first sent) r.cumulative_tsn r.beyond

  module _ (d : Due i.step.numbered.acked old.receiving) where
    -- the stream is as it was
    untouched : stream_of st new.receiving.receiver ≡ stream_of st r
        → new.receiving.receiver.cumulative_tsn ≡ r.cumulative_tsn → new.receiving.receiver.beyond ≡ r.beyond → Due d.arrived.place new.receiving
    untouched same cumulative beyond =
        quiet (base first) st n (sessions.to st first sent) (sessions.at st first sent) (sessions.Was st first sent) few
        (sessions.grows st first on dropped o n old ns sent i few) i.step.numbered.acked old.receiving new.receiving d
        (subst (DueOn Old d.k d.reach) (sym same) d.due) cumulative beyond

    pub other-call-due : (opened : Bool) → (opened ≡ true → is_open st r ≡ true) → are_apart (numbers_of r.streams) ≡ true → (call : ReceiverOther)
        → ReceiverDoes call old new → breaks opened st (of_receiving call) ≡ false → Due d.arrived.place new.receiving
    other-call-due opened open' apart (discards c) f off = by-test (has_come c.tsn (filter_of r))
        (λ e.
        let same : new.receiving.receiver ≡ repeat_tsn c.tsn r = is e in
        untouched (ap (stream_of st) same) (ap (λ (u : Reception). u.cumulative_tsn) same) (ap (λ (u : Reception). u.beyond) same))
        (λ e.
        let same : new.receiving.receiver ≡ with_filter (with_tsn c.tsn (filter_of r)) r = is e in
        other-due (base first) st n (sessions.to st first sent) (sessions.at st first sent) (sessions.Was st first sent) few
        (sessions.grows st first on dropped o n old ns sent i few) i.step.numbered.acked (sessions.near st first on dropped o n old ns sent i few) c
        old.receiving new.receiving d (sessions.step-of st first on dropped o n old ns sent i few c f.handed) r same e off
        (subst (DueOn Old d.k d.reach) (sym (ap (stream_of st) same)) d.due))
      where
        is : {b : Bool} → has_come c.tsn (filter_of r) ≡ b
            → new.receiving.receiver ≡ (if b then repeat_tsn c.tsn r else with_filter (with_tsn c.tsn (filter_of r)) r)
        is e = f.step.receiver ∙ ap (λ b. if b then repeat_tsn c.tsn r else with_filter (with_tsn c.tsn (filter_of r)) r) e
    other-call-due opened open' apart (closes_incoming stream) f off = grind (arith, nat_tests, common_steps, untouched, others-left)
    other-call-due opened open' apart (resets_incoming stream last) f off = grind (arith, nat_tests, common_steps, untouched, changed-elsewhere)
    other-call-due opened open' apart (passes_over g) f off =
        sessions.passed-due st first on dropped o n old ns sent i few new d g f.handed f.step.receiver
        (near-names g r (names_too_far g r) f.accepted)
        (λ m at le lt j only.
        let named : list_any (is_pair_of st) g.streams ≡ true =
        list_any-those (is_pair_of st) (is_pair_of st) g.streams
        (ap (list_any (is_pair_of st)) only ∙ or-left (st == st) false (same-yes st)) in
        open' (unnot opened (and-left (not opened) named off)))
      where
        and-left : (a : Bool) {b : Bool} → b ≡ true → (a && b) ≡ false → a ≡ false
        and-left false e h = refl
        and-left true e h = absurd (not_both (sym h ∙ e))

  -- and what SACKs say
  pub other-answered : (opened : Bool) → (opened ≡ true → is_open st r ≡ true) → are_apart (numbers_of r.streams) ≡ true → (call : ReceiverOther)
      → ReceiverDoes call old new → breaks opened st (of_receiving call) ≡ false → (spread : IsSpreadOn on dropped first n new ns sent)
      → sessions.IsAnswered st first n sent i.step.numbered.acked old → sessions.IsAnswered st first n sent spread.step.numbered.acked new
  other-answered opened open' apart call f off spread t =
      let e = other-call-due t.0 opened open' apart call f off in
      sessions.answered-beside st first on dropped n old new ns sent i few spread (ap (λ (s : Session). s.sending) f.after) t e
      (subst (Every (sessions.IsUpTo st first e.arrived.place)) (sym (ap (λ (s : Session). s.sacks) f.after))
      (sessions.upto-more st first t.0.arrived.place e.arrived.place old.sacks e.arrived.least_is t.1))

-- ## The stream is open

pub opens-it : (st : ℕ) (old new : Session) (call : ReceiverCall) → ReceiverFollows call old new → opens_incoming st (makes (of_receiver call)) ≡ true
    → is_open st new.receiving.receiver ≡ true
opens-it h0 h1 h2 h3 h4 h5 = grind (arith, nat_tests, common_steps, is_some, find-append, not_both)

module _ (st : ℕ) (old new : Session) (o : is_open st old.receiving.receiver ≡ true) where
  abbrev q : Reception
  q = old.receiving.receiver

  abbrev IsOpen : Option InboundStream → Type 0
  IsOpen l = is_some l ≡ true

  mapped : (f : InboundStream → InboundStream) (l : Option InboundStream) → IsOpen l → IsOpen (option_map f l)
  mapped f None h = h
  mapped f (Some l) h = refl

  -- where it is the stream that a change makes of it
  by-map : (f : InboundStream → InboundStream) → stream_of st new.receiving.receiver ≡ option_map f (stream_of st q)
      → is_open st new.receiving.receiver ≡ true
  by-map f e = ap is_some e ∙ mapped f (stream_of st q) o

  still : stream_of st new.receiving.receiver ≡ stream_of st q → is_open st new.receiving.receiver ≡ true
  still e = ap is_some e ∙ o

  kept-or : (a b : Option InboundStream) → IsOpen a → IsOpen (option_or a b)
  kept-or None b h = absurd (not_both h)
  kept-or (Some l) b h = refl

  by-forward : (g : ForwardTsn) → new.receiving.receiver ≡ after_forward_tsn g q → is_open st new.receiving.receiver ≡ true
  by-forward g after = by-test (is_stale g q)
      (λ e. still (ap (stream_of st)
      (stale-same 0 st 0 (λ k. 0) (λ k. false) (λ c. ⊤) (omega arith) (λ j k le. omega arith) g old.receiving new.receiving after e)))
      (λ e. by-map _ (found-after 0 st 0 (λ k. 0) (λ k. false) (λ c. ⊤) (omega arith) (λ j k le. omega arith) g old.receiving new.receiving after e))

  pub open-after : (call : ReceiverCall) → ReceiverFollows call old new → is_open st new.receiving.receiver ≡ true
  open-after (incoming.opens stream) f = grind (arith, nat_tests, common_steps, is_some, find-append, kept-or)
  open-after (incoming.takes c (New answered)) f =
      accepted-on c answered q new.receiving.receiver f.step.receiver st IsOpen (λ off. o) (λ on there. refl)
  open-after (incoming.follows g) f = by-forward g f.step.receiver
  open-after (incoming.reads stream) f = grind (arith, nat_tests, common_steps, by-map, changed-here, still, changed-elsewhere)
  open-after call f = still (ap (stream_of st) f.step.receiver)

  pub open-after-other : (opened : Bool) → are_apart (numbers_of q.streams) ≡ true → (call : ReceiverOther) → ReceiverDoes call old new
      → breaks opened st (of_receiving call) ≡ false → is_open st new.receiving.receiver ≡ true
  open-after-other h0 h1 h2 h3 h4 = grind (arith, nat_tests, common_steps, still, others-left, changed-elsewhere, by-forward)
