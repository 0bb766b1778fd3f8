use Rattle.sctp_sender.proofs.Names.{◌≡◌, ◌+◌, ◌≤◌, true, rules, arith, ℕ, List, Option, Some, None, length, inl, inr, refl, ap, sym, subst, ◌∙◌, IfSome}
use Rattle.sctp_sender.proofs.Names.{is_some, All, false≢true, Sack, sack_of, total_bytes, OutboundStream, Released, TakenBack, keeping_turns, sack_turns}
use Rattle.sctp_sender.proofs.Names.{take_back_turns, Flight, can_resend, is_outdated, released_by, sack_refusal, after_returns, places_kept}
use Rattle.sctp_sender.proofs.Names.{with_reported_again, after_releases, Transmission, after_acked, after_take_back, back_by, take_back_refusal, taken_back_by}
use Rattle.sctp_sender.proofs.Names.{with_flight, with_streams, with_lows, bytes_in}
use Rattle.sctp_sender.proofs.Lows.{chunks-tell, one-chunk-tells, released-same}
use Rattle.sctp_sender.proofs.Seen.{sender_in}
use Rattle.sctp_sender.proofs.TakenSacks.{claim-refused, if-each, none-old, none-told, nothing-kept, same-refusal}
use Rattle.sctp_sender.proofs.sender.Sender.acked_keeping.Goals as goal

-- the sender once something came back, its streams as before
abbrev Mid : Sack → Transmission → Transmission
Mid s t = with_streams t.streams (after_take_back s t)

-- it is refused for the same claims then
same : (s : Sack) (t u : Transmission) → u ≡ Mid s t → sack_refusal s u.flight ≡ sack_refusal s t.flight
same s t u e = ap (λ (x : Transmission). sack_refusal s x.flight) e ∙ same-refusal s (back_by s t.flight t.kept) t.flight

-- what keeping costs, from one sum to the other
keeping : (s : Sack) (t u : Transmission) (t0 t1 t2 t3 n : ℕ) → u ≡ Mid s t → t1 + n ≤ t0 + take_back_turns s t.flight n
    → n ≡ length (taken_back_by s t) → t3 ≡ t2 + n
    → IfSome u.kept (λ ks. t2 ≤ t1 + sack_turns s u.flight + keeping_turns s u.flight (places_kept s u.flight ks))
    → IfSome t.kept (λ ks. t3 ≤ t0 + take_back_turns s t.flight (length (taken_back_by s t))
    + (sack_turns s (after_take_back s t).flight + keeping_turns s (after_take_back s t).flight (places_kept s (after_take_back s t).flight ks)))
keeping s t u t0 t1 t2 t3 n is room many last cost =
    let own : IfSome t.kept (λ ks. t2 ≤ t1 + sack_turns s (after_take_back s t).flight
    + keeping_turns s (after_take_back s t).flight (places_kept s (after_take_back s t).flight ks)) =
    subst (λ (x : Transmission). IfSome x.kept (λ ks. t2 ≤ t1 + sack_turns s x.flight + keeping_turns s x.flight (places_kept s x.flight ks))) is cost in
    let all = subst (λ k. t1 + n ≤ t0 + take_back_turns s t.flight k) many room in
    if-each t.kept (λ ks h. omega (arith, h, all, last)) own

plain : (s : Sack) (t u : Transmission) → u ≡ Mid s t → t.kept ≡ None → sack_turns s u.flight ≡ sack_turns s t.flight
plain s t u is e = ap (λ (x : Transmission). sack_turns s x.flight) is ∙ ap (λ (x : Transmission). sack_turns s x.flight) (nothing-kept s t e)

-- where it is refused for what it claims
forged-cost : (s : Sack) (t u : Transmission) (t0 t1 t2 t3 n : ℕ) → u ≡ Mid s t → (o : Option (List (Option (List ℕ)))) → t.kept ≡ o
    → take_back_refusal s t ≡ None → (t.kept ≡ None → t1 ≡ t0)
    → (is_some (sack_refusal s u.flight) ≡ true → t2 ≤ t1 + length s.gap_ack_blocks) → (t.kept ≡ None → n ≡ 0) → t3 ≡ t2 + n
    → is_some (sack_refusal s t.flight) ≡ true → t3 ≤ t0 + length s.gap_ack_blocks
forged-cost s t u t0 t1 t2 t3 n is None kept taken idle cost none last e =
    let x = idle kept in
    let y = cost (ap is_some (same s t u is) ∙ e) in
    let z = none kept in omega (arith, x, y, z, last)
forged-cost s t u t0 t1 t2 t3 n is (Some ks) kept taken idle cost none last e = claim-refused s t ks kept e taken

-- ## Where it is refused once something came back

pub returns-in-Err-clause-acks : goal.returns-in-Err-clause-acks
returns-in-Err-clause-acks c =
    let s : Sack = sack_of c.args.sack.now in
    let old : Transmission = c.args.self.now in
    let mid : Transmission = c.bring_back_counted.new.self in
    let b = c.in_ok-back.ensures.restores in
    let ks : List ℕ = c.in_ok-back.back.told.places.items in
    let r = same s old mid b.ok in
    record {
      back = search rules;
      outstanding = search rules;
      answer = search rules;
      low = search rules;
      once = search rules;
      ok = search rules;
      bytes = search rules;
      accepted = search rules;
      refused = elim c.in-Err.ensures.acks.refused [
        | inl p ↦ inl (p.0, sym r ∙ p.1)
        | inr e ↦ inr (inl (sym r ∙ e))
      ];
      outdated = λ e. c.in-Err.ensures.acks.outdated (ap (λ (x : Transmission). is_outdated s x.flight) b.ok ∙ e);
      err = c.undo_back.ensures.undone ∙ ap (λ (x : Transmission). with_flight (with_reported_again ks x.flight) x) c.in-Err.ensures.acks.err
          ∙ ap (λ (g : Flight). with_flight g mid) c.in_ok-back.ensures.undo.same ∙ ap (with_flight old.flight) b.ok;
    }

pub returns-in-Err-clause-turns : goal.returns-in-Err-clause-turns
returns-in-Err-clause-turns c =
    let s : Sack = sack_of c.args.sack.now in
    let old : Transmission = c.args.self.now in
    let mid : Transmission = c.bring_back_counted.new.self in
    let b = c.in_ok-back.ensures.restores in
    let first = c.in_ok-back.ensures.turns in
    let second = c.in-Err.ensures.turns in
    let few = c.in_ok-back.ensures.undo.few in
    let many = ap length b.answer in
    let none : old.kept ≡ None → length c.in_ok-back.back.told.places.items ≡ 0 = λ e. few ∙ many ∙ ap length (none-told s old e) in
    record {
      not_back = let x = first.not_back in let y = second.not_back in omega (arith, x, y, c.undo_back.ensures.cost);
      cost = λ e.
          let x = first.nothing_kept e in
          let y = second.cost (ap (λ (u : Transmission). u.kept) b.ok ∙ e) in
          let z = plain s old mid b.ok e in
          let w = none e in
          omega (arith, x, y, z, w, c.undo_back.ensures.cost);
      cost_keeping = keeping s old mid c.args.turns.now c.bring_back_counted.new.turns c.acked_in_flight_counted.new.turns c.undo_back.new.turns
          (length c.in_ok-back.back.told.answered.items) b.ok c.in_ok-back.ensures.room many (let x = c.undo_back.ensures.cost in omega (arith, x, few))
          second.cost_keeping;
      stale = λ e. absurd (false≢true (c.in-Err.ensures.acks.outdated (ap (λ (x : Transmission). is_outdated s x.flight) b.ok ∙ e)));
      forged = λ e. forged-cost s old mid c.args.turns.now c.bring_back_counted.new.turns c.acked_in_flight_counted.new.turns c.undo_back.new.turns
          (length c.in_ok-back.back.told.places.items) b.ok old.kept refl (b.accepted refl) first.nothing_kept second.forged none
          c.undo_back.ensures.cost e;
    }

-- ## Where it is taken

pub returns-clause-acks : goal.returns-clause-acks
returns-clause-acks c =
    let s : Sack = sack_of c.args.sack.now in
    let old : Transmission = c.args.self.now in
    let mid : Transmission = after_take_back s old in
    let rs : List Released = c.in-Ok.released.items in
    let b = c.in_ok-back.ensures.restores in
    let a = c.in-Ok.ensures.acks in
    let r = same s old c.bring_back_counted.new.self b.ok in
    let v : sender_in c.self.inside ≡ with_streams old.streams (after_acked s mid) = c.self.view_is ∙ a.ok
    ∙ ap (λ (u : Transmission). with_streams u.streams (after_acked s u)) b.ok in
    let told : rs ≡ released_by s mid.flight = a.answer ∙ ap (λ (u : Transmission). released_by s u.flight) b.ok in
    let ls : c.return_each.new.streams ≡ mid.streams = c.return_each.ensures.value
    ∙ ap (λ xs. after_returns xs c.self.inside.streams) (c.deref.ensures.value ∙ b.answer)
    ∙ ap (λ (u : Transmission). after_returns (taken_back_by s old) u.streams) v in
    let less : c.release_each.new.streams ≡ after_releases rs mid.streams = c.release_each.ensures.less ∙ ap (after_releases rs) ls in
    let lows : c.release_each.new.gone.items ≡ with_lows rs mid.streams = c.release_each.ensures.lows ∙ ap (with_lows rs) ls in
    record {
      back = b.answer;
      outstanding = subst (λ (u : Transmission). All (λ (k : TakenBack). can_resend k.tsn u.flight ≡ true) c.in_ok-back.back.told.answered.items) b.ok
          b.outstanding;
      answer = lows ∙ ap (λ xs. with_lows xs mid.streams) told;
      low = λ n. chunks-tell n _ _ _ _ lows less;
      once = λ n. one-chunk-tells n _ _ _ _ lows less;
      ok = ap (λ (xs : List OutboundStream). with_streams xs (sender_in c.self.inside)) (less ∙ ap (λ xs. after_releases xs mid.streams) told)
          ∙ ap (λ (u : Transmission). with_streams (after_releases (released_by s mid.flight) mid.streams) u) v;
      bytes = released-same _ _ _ _ _ lows (ap (λ (u : Transmission). total_bytes u.flight.queue + bytes_in rs) c.self.view_is ∙ a.released) ∙ b.bytes;
      accepted = λ e. (sym r ∙ a.accepted refl, b.accepted refl);
      refused = search rules;
      outdated = search rules;
      err = search rules;
    }

pub returns-clause-turns : goal.returns-clause-turns
returns-clause-turns c =
    let s : Sack = sack_of c.args.sack.now in
    let old : Transmission = c.args.self.now in
    let mid : Transmission = c.bring_back_counted.new.self in
    let b = c.in_ok-back.ensures.restores in
    let first = c.in_ok-back.ensures.turns in
    let second = c.in-Ok.ensures.turns in
    let told = ap length c.deref.ensures.value in
    let many = ap length b.answer in
    record {
      not_back = let x = first.not_back in let y = second.not_back in omega (arith, x, y, c.return_each.ensures.cost);
      cost = λ e.
          let x = first.nothing_kept e in
          let y = second.cost (ap (λ (u : Transmission). u.kept) b.ok ∙ e) in
          let z = plain s old mid b.ok e in
          let w = ap length (none-told s old e) in
          omega (arith, x, y, z, w, told, many, c.return_each.ensures.cost);
      cost_keeping = keeping s old mid c.args.turns.now c.bring_back_counted.new.turns c.acked_in_flight_counted.new.turns c.return_each.new.turns
          (length c.in_ok-back.back.told.answered.items) b.ok c.in_ok-back.ensures.room many
          (let x = c.return_each.ensures.cost in omega (arith, x, told)) second.cost_keeping;
      stale = λ e.
          let x = first.stale e in
          let y = second.stale (ap (λ (u : Transmission). is_outdated s u.flight) b.ok ∙ e) in
          let w = ap length (none-old s old e) in
          omega (arith, x, y, w, told, many, c.return_each.ensures.cost);
      forged = λ e. absurd (false≢true (ap is_some (sym (sym (same s old mid b.ok) ∙ c.in-Ok.ensures.acks.accepted refl)) ∙ e));
    }
