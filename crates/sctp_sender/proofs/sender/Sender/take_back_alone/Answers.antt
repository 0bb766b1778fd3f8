use Rattle.sctp_sender.proofs.Names.{◌≡◌, true, ℕ, ◌+◌, ◌≤◌, List, Option, Some, None, length, refl, ap, sym, subst, ◌∙◌, arith, rules, All, is_some, Sack}
use Rattle.sctp_sender.proofs.Names.{sack_of, total_bytes, OutboundStream, TakenBack, take_back_turns, can_resend, sack_refusal, after_returns, Transmission}
use Rattle.sctp_sender.proofs.Names.{after_take_back, take_back_refusal, taken_back_by, with_streams}
use Rattle.sctp_sender.proofs.Seen.{sender_in}
use Rattle.sctp_sender.proofs.TakenSacks.{claim-refused, none-old, none-told}
use Rattle.sctp_sender.proofs.sender.Sender.take_back_alone.Goals as goal

pub returns-clause-takes : goal.returns-clause-takes
returns-clause-takes c =
    let s : Sack = sack_of c.args.sack.now in
    let old : Transmission = c.args.self.now in
    let b = c.in_ok-back.ensures.restores in
    let rs : List TakenBack = taken_back_by s old in
    let v : sender_in c.self.inside ≡ with_streams old.streams (after_take_back s old) = c.self.view_is ∙ b.ok in
    let streams : c.return_each.new.streams ≡ after_returns rs old.streams = c.return_each.ensures.value
    ∙ ap (λ xs. after_returns xs c.self.inside.streams) (c.deref.ensures.value ∙ b.answer) ∙ ap (λ (u : Transmission). after_returns rs u.streams) v in
    record {
      answer = b.answer;
      ok = ap (λ (xs : List OutboundStream). with_streams xs (sender_in c.self.inside)) streams
          ∙ ap (λ (u : Transmission). with_streams (after_returns rs old.streams) u) v;
      outstanding = subst (λ (u : Transmission). All (λ (k : TakenBack). can_resend k.tsn u.flight ≡ true) c.in_ok-back.back.told.answered.items)
          (sym c.self.view_is) b.outstanding;
      bytes = ap (λ (u : Transmission). total_bytes u.flight.queue) c.self.view_is ∙ b.bytes;
      accepted = λ e. b.accepted refl;
      refused = search rules;
      idle = search rules;
      outdated = search rules;
      err = search rules;
    }

-- one that is refused for what it claims takes no turn here
forged : (s : Sack) (old : Transmission) (before last : ℕ) → take_back_refusal s old ≡ None → (old.kept ≡ None → last ≡ before)
    → is_some (sack_refusal s old.flight) ≡ true → (o : Option (List (Option (List ℕ)))) → old.kept ≡ o → last ≤ before + length s.gap_ack_blocks
forged s old before last none same e None k = let x = same k in omega (arith, x)
forged s old before last none same e (Some ks) k = claim-refused s old ks k e none

pub returns-clause-turns : goal.returns-clause-turns
returns-clause-turns c =
    let s : Sack = sack_of c.args.sack.now in
    let old : Transmission = c.args.self.now in
    let b = c.in_ok-back.ensures.restores in
    let first = c.in_ok-back.ensures.turns in
    let told = ap length c.deref.ensures.value in
    let many = ap length b.answer in
    let all = ap (take_back_turns s old.flight) many in
    let none : old.kept ≡ None → c.return_each.new.turns ≡ c.args.turns.now = λ e.
    let x = first.nothing_kept e in
    let w = ap length (none-told s old e) in
    omega (arith, x, w, told, many, c.return_each.ensures.cost) in
    record {
      not_back = let x = first.not_back in omega (arith, x, c.return_each.ensures.cost);
      cost = let x = c.in_ok-back.ensures.room in omega (arith, x, told, many, all, c.return_each.ensures.cost);
      nothing_kept = none;
      stale = λ e.
          let x = first.stale e in
          let w = ap length (none-old s old e) in
          omega (arith, x, w, told, many, c.return_each.ensures.cost);
      forged = λ e. forged s old c.args.turns.now c.return_each.new.turns (b.accepted refl) none e old.kept refl;
    }
