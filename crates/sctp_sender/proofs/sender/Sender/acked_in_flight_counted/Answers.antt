use Rattle.sctp_sender.proofs.Names.{◌≡◌, ◌+◌, ◌≤◌, true, ℕ, List, length, arith, rules, Option, None, inl, refl, ap, sym, subst, ◌∙◌, false≢true, ◌⊎◌, IfErr}
use Rattle.sctp_sender.proofs.Names.{is_some, OutOfMemory, Sack, sack_of, anew_turns, sack_turns, Flight, after_sack, is_outdated, released_by, sack_refusal}
use Rattle.sctp_sender.proofs.Names.{AreReported, Transmission, after_acked, with_streams, IsAllSettled}
use Rattle.std.specs.Option.{option_map}
use Rattle.std.specs.Prelude.{Some}
use Rattle.std.proofs.lemmas.Result.{err_from_is_err_and}
use Rattle.sctp_sender.proofs.AnewKept.{acked-covered, data-then, from-some}
use Rattle.sctp_sender.specs.Calls.{IsAnew}
use Rattle.sctp_sender.proofs.KeepCosts.{forged-cost, if-some, keep-cost, none-kept, none-when, refused-cost, some-first}
use Rattle.sctp_sender.proofs.Seen.{sender_in}
use Rattle.sctp_sender.proofs.Settled.{sack-settled}
use Rattle.sctp_sender.proofs.Listed.{after-reported}
use Rattle.sctp_sender.proofs.sender.Sender.acked_in_flight_counted.Goals.{After-acked_counted, After-anew_by, In_err-make_room, In_ok-anew}
use Rattle.sctp_sender.proofs.sender.Sender.acked_in_flight_counted.Goals as goal

anew : (c : In_ok-anew) → IsAnew (sack_of c.args.sack.now) (sender_in c.self.inside) c.in_ok-anew.anew
anew c = subst (λ (t : Transmission). IsAnew (sack_of c.args.sack.now) t c.in_ok-anew.anew) (sym c.self.view_is) c.in_ok-anew.ensures.anew

first : (c : After-anew_by) → c.anew_by.new.turns
    ≤ c.args.turns.now + length (sack_of c.args.sack.now).gap_ack_blocks + anew_turns (sack_of c.args.sack.now) c.self.inside.flight
first c =
    let s = sack_of c.args.sack.now in
    subst (λ (t : Transmission). c.anew_by.new.turns ≤ c.args.turns.now + length s.gap_ack_blocks + anew_turns s t.flight) (sym c.self.view_is)
    c.anew_by.ensures.cost

-- Room is refused only where something is kept anew.
some : (c : In_err-make_room) → c.in_ok-anew.anew ≡ None → ⊥
some c e = false≢true (c.in_err-make_room.ensures.idle e)

fresh : (c : In_err-make_room) {A : Type 0} → is_outdated (sack_of c.args.sack.now) c.args.self.now.flight ≡ true → A
fresh c old = absurd (false≢true (sym (from-some c.in_ok-anew.anew (some c) c.in_ok-anew.ensures.anew.current) ∙ old))

right : (c : In_err-make_room) {A : Type 0} → is_some (sack_refusal (sack_of c.args.sack.now) c.args.self.now.flight) ≡ true → A
right c claimed = absurd (false≢true (ap is_some (sym (from-some c.in_ok-anew.anew (some c) c.in_ok-anew.ensures.anew.taken)) ∙ claimed))

-- ## The turns, once what is in flight has taken the SACK

-- none where it is out of date
old-cost : (c : After-acked_counted) → is_outdated (sack_of c.args.sack.now) c.args.self.now.flight ≡ true
    → (c.in_ok-anew.anew ≡ None) × (c.acked_counted.new.turns ≡ c.args.turns.now)
old-cost c old =
    let s : Sack = sack_of c.args.sack.now in
    let none = none-when c.in_ok-anew.anew (is_outdated s c.args.self.now.flight) c.in_ok-anew.ensures.anew.current old in
    let acked = (subst (λ (t : Transmission). is_outdated s t.flight ≡ true → c.acked_counted.new.turns ≡ c.make_room.new.turns) c.self.view_is
    c.acked_counted.ensures.stale) old in
    (none, omega (arith, acked, c.anew_by.ensures.stale old, c.make_room.ensures.none none))

-- one for each block where it is refused for what it claims
claim-cost : (c : After-acked_counted) (last : ℕ) → (c.in_ok-anew.anew ≡ None → last ≡ c.acked_counted.new.turns)
    → is_some (sack_refusal (sack_of c.args.sack.now) c.args.self.now.flight) ≡ true
    → last ≤ c.args.turns.now + length (sack_of c.args.sack.now).gap_ack_blocks
claim-cost c last no-more claimed =
    let s : Sack = sack_of c.args.sack.now in
    let acked = (subst (λ (t : Transmission). is_some (sack_refusal s t.flight) ≡ true → c.acked_counted.new.turns
    ≤ c.make_room.new.turns + length s.gap_ack_blocks) c.self.view_is c.acked_counted.ensures.forged) claimed in
    forged-cost s c.args.self.now.flight c.args.turns.now c.anew_by.new.turns c.make_room.new.turns c.acked_counted.new.turns last
    c.args.self.now.kept c.in_ok-anew.anew claimed c.in_ok-anew.ensures.anew.taken c.in_ok-anew.ensures.anew.same c.anew_by.ensures.nothing_kept
    c.anew_by.ensures.stale c.make_room.ensures.none acked no-more

-- those of what is in flight where nothing is kept
plain-cost : (c : After-acked_counted) → c.args.self.now.kept ≡ None
    → (c.in_ok-anew.anew ≡ None) × (c.acked_counted.new.turns ≤ c.args.turns.now + sack_turns (sack_of c.args.sack.now) c.args.self.now.flight)
plain-cost c e =
    let s : Sack = sack_of c.args.sack.now in
    let none = none-kept c.in_ok-anew.anew c.args.self.now.kept c.in_ok-anew.ensures.anew.keeps e in
    let acked = subst (λ (t : Transmission). c.acked_counted.new.turns ≤ c.make_room.new.turns + sack_turns s t.flight) c.self.view_is
    c.acked_counted.ensures.cost in
    (none, omega (arith, acked, c.anew_by.ensures.nothing_kept e, c.make_room.ensures.none none))

-- ## What holds of the sender then

pub invariant_of-self-2 : goal.invariant_of-self-2
invariant_of-self-2 c =
    let f : Flight = c.self.inside.flight in
    let s : Sack = sack_of c.args.sack.now in
    let a = anew (goal.at.invariant_of-self-2 c).In_ok-anew in (
      c.self.invariant.0,
      c.self.invariant.1,
      subst (λ (g : Flight). IsAllSettled g.queue) (sym c.in_ok-released.ensures.ok) (sack-settled s f c.self.invariant.2),
      acked-covered s f c.self.inside.kept c.make_room.new.kept c.keep_anew.new.kept c.in_ok-anew.anew c.acked_counted.new.self c.in_ok-released.ensures.ok
          a.are a.current a.same a.covered c.self.invariant.3 c.make_room.ensures.same c.make_room.ensures.covered c.keep_anew.ensures.items
          c.keep_anew.ensures.covered,
      subst (AreReported c.keep_anew.new.kept) (sym c.in_ok-released.ensures.ok) (after-reported s f c.self.inside.kept c.make_room.new.kept
          c.keep_anew.new.kept c.in_ok-anew.anew a.same a.known c.make_room.ensures.covered c.keep_anew.ensures.covered c.self.invariant.4),
    )

pub returns-clause-acks : goal.returns-clause-acks
returns-clause-acks c =
    let f : Flight = c.self.inside.flight in
    let s : Sack = sack_of c.args.sack.now in
    let t : Transmission = sender_in c.self.inside in
    let a = anew (goal.at.returns-clause-acks c).In_ok-anew in
    let kept = data-then s f c.self.inside.kept c.make_room.new.kept c.keep_anew.new.kept c.in_ok-anew.anew a.are a.current a.same c.self.invariant.3
    c.make_room.ensures.same c.keep_anew.ensures.items in
    record {
      answer = c.in_ok-released.ensures.answer ∙ ap (λ (t : Transmission). released_by s t.flight) c.self.view_is;
      ok = ap (λ (g : Flight). let u : Transmission = record t { flight = g; kept = option_map (λ k. k.user_data.items) c.keep_anew.new.kept } in u)
          c.in_ok-released.ensures.ok
          ∙ ap (λ (o : Option (List (Option (List ℕ)))). let u : Transmission = record t { flight = after_sack s f; kept = o } in u) kept
          ∙ ap (λ (u : Transmission). with_streams u.streams (after_acked s u)) c.self.view_is;
      released = rw (← c.self.view_is) (c.in_ok-released.ensures.released c.self.invariant.2.inflight);
      accepted = search rules;
      refused = search rules;
      outdated = search rules;
      err = search rules;
    }

-- ## For each way out

pub returns-in_err-make_room-clause-acks : goal.returns-in_err-make_room-clause-acks
returns-in_err-make_room-clause-acks c =
    let p = (goal.at.returns-in_err-make_room-clause-acks c).In_err-make_room in
    let none = from-some c.in_ok-anew.anew (some p) c.in_ok-anew.ensures.anew.taken in
    let m = c.in_err-make_room.ensures.memory in
    let r = err_from_is_err_and c.from_residual-in_err-make_room.result c.from_residual-in_err-make_room.ensures.1 in
    let q = r.2 in
    let is : r.0 ≡ OutOfMemory = cc in
    record {
      answer = search rules;
      ok = search rules;
      released = search rules;
      accepted = search rules;
      refused = subst (λ r. IfErr r (λ e. ((e ≡ OutOfMemory) × (sack_refusal (sack_of c.args.sack.now) c.args.self.now.flight ≡ None))
          ⊎ (sack_refusal (sack_of c.args.sack.now) c.args.self.now.flight ≡ Some e))) (sym r.1) (inl (is, none));
      outdated = fresh p;
      err = search rules;
    }

pub returns-in_err-anew-clause-turns : goal.returns-in_err-anew-clause-turns
returns-in_err-anew-clause-turns c =
    let first = c.anew_by.ensures.cost in
    record {
      not_back = c.anew_by.ensures.not_back;
      cost = λ e. let h = c.anew_by.ensures.nothing_kept e in omega (arith, h);
      cost_keeping = if-some c.args.self.now.kept (λ ks. omega (arith, first));
      stale = c.anew_by.ensures.stale;
      forged = c.anew_by.ensures.forged;
    }

pub returns-in_err-make_room-clause-turns : goal.returns-in_err-make_room-clause-turns
returns-in_err-make_room-clause-turns c =
    let p = goal.at.returns-in_err-make_room-clause-turns c in
    record {
      not_back = omega arith;
      cost = λ e. absurd (some p.In_err-make_room (none-kept c.in_ok-anew.anew c.args.self.now.kept c.in_ok-anew.ensures.anew.keeps e));
      cost_keeping = rw (← c.self.view_is) (refused-cost (sack_of c.args.sack.now) c.self.inside.flight c.args.turns.now c.anew_by.new.turns
          c.make_room.new.turns c.make_room.new.turns (first p.After-anew_by) (omega arith) (sender_in c.self.inside).kept c.in_ok-anew.anew
          c.make_room.ensures.none c.make_room.ensures.cost (anew p.In_ok-anew).few);
      stale = fresh p.In_err-make_room;
      forged = right p.In_err-make_room;
    }

pub returns-in_err-released-clause-turns : goal.returns-in_err-released-clause-turns
returns-in_err-released-clause-turns c =
    let p = goal.at.returns-in_err-released-clause-turns c in
    record {
      not_back = omega arith;
      cost = λ e. (plain-cost p.After-acked_counted e).1;
      cost_keeping = rw (← c.self.view_is) (refused-cost (sack_of c.args.sack.now) c.self.inside.flight c.args.turns.now c.anew_by.new.turns
          c.make_room.new.turns c.acked_counted.new.turns (first p.After-anew_by) c.acked_counted.ensures.cost (sender_in c.self.inside).kept
          c.in_ok-anew.anew c.make_room.ensures.none c.make_room.ensures.cost (anew p.In_ok-anew).few);
      stale = λ old. (old-cost p.After-acked_counted old).1;
      forged = claim-cost p.After-acked_counted c.acked_counted.new.turns (λ e. refl);
    }

pub returns-clause-turns : goal.returns-clause-turns
returns-clause-turns c =
    let p = goal.at.returns-clause-turns c in
    let a = anew p.In_ok-anew in
    let f : Flight = c.self.inside.flight in
    let s : Sack = sack_of c.args.sack.now in
    let kept = data-then s f c.self.inside.kept c.make_room.new.kept c.keep_anew.new.kept c.in_ok-anew.anew a.are a.current a.same c.self.invariant.3
    c.make_room.ensures.same c.keep_anew.ensures.items in
    record {
      not_back = omega arith;
      cost = λ e.
          let h = plain-cost p.After-acked_counted e in
          let after = c.keep_anew.ensures.none h.0 in
          omega (arith, h.1, after);
      cost_keeping = rw (← c.self.view_is) (keep-cost s f c.args.turns.now c.anew_by.new.turns c.make_room.new.turns c.acked_counted.new.turns
          c.keep_anew.new.turns (first p.After-anew_by) c.acked_counted.ensures.cost c.self.inside.kept c.make_room.new.kept c.keep_anew.new.kept
          c.in_ok-anew.anew c.make_room.ensures.none c.make_room.ensures.cost c.keep_anew.ensures.none c.keep_anew.ensures.cost a.few a.passed
          (some-first c.in_ok-anew.anew _ _ a.are) c.make_room.ensures.same c.keep_anew.ensures.items kept);
      stale = λ old.
          let h = old-cost p.After-acked_counted old in
          let after = c.keep_anew.ensures.none h.0 in
          omega (arith, h.1, after);
      forged = claim-cost p.After-acked_counted c.keep_anew.new.turns c.keep_anew.ensures.none;
    }
