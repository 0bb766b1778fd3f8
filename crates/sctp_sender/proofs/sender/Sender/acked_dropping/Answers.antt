use Rattle.sctp_sender.proofs.Names.{◌≡◌, ◌+◌, ◌≤◌, ℕ, List, Option, None, inl, refl, ap, sym, subst, ◌∙◌, IfSome, Sack, sack_of}
use Rattle.sctp_sender.proofs.Names.{Kept, keeping_turns, sack_turns, Flight, places_kept, AreReported, Transmission, IsAllSettled}
use Rattle.std.specs.Option.{option_map}
use Rattle.sctp_sender.specs.Calls.{CountsAcked}
use Rattle.sctp_sender.proofs.AnewKept.{acked-covered}
use Rattle.sctp_sender.proofs.Listed.{after-reported}
use Rattle.sctp_sender.proofs.Seen.{sender_in}
use Rattle.sctp_sender.proofs.Settled.{sack-settled}
use Rattle.sctp_sender.proofs.sender.Sender.acked_dropping.Goals.{After-acked_counted}
use Rattle.sctp_sender.proofs.sender.Sender.acked_dropping.Goals as goal

-- the turns are those of what is in flight
counts : (c : After-acked_counted) → c.args.self.now.kept ≡ None
    → CountsAcked (sack_of c.args.sack.now) c.args.self.now c.args.turns.now c.acked_counted.new.turns
counts c none =
    let s : Sack = sack_of c.args.sack.now in
    let f : Flight = c.self.inside.flight in
    let t : Transmission = sender_in c.self.inside in
    let own : t.kept ≡ None = ap (λ (u : Transmission). u.kept) c.self.view_is ∙ none in
    subst (λ (u : Transmission). CountsAcked s u c.args.turns.now c.acked_counted.new.turns) c.self.view_is (record {
      not_back = c.acked_counted.ensures.not_back;
      cost = λ e. c.acked_counted.ensures.cost;
      cost_keeping = subst (λ (o : Option (List (Option (List ℕ)))). IfSome o (λ ks. c.acked_counted.new.turns
          ≤ c.args.turns.now + sack_turns s f + keeping_turns s f (places_kept s f ks))) (sym own) tt;
      stale = c.acked_counted.ensures.stale;
      forged = c.acked_counted.ensures.forged;
    })

pub invariant_of-self-2 : goal.invariant_of-self-2
invariant_of-self-2 c =
    let s : Sack = sack_of c.args.sack.now in
    let f : Flight = c.self.inside.flight in
    let o : Option Kept = c.self.inside.kept in
    let none : option_map (λ (k : Kept). k.user_data.items) o ≡ None = ap (λ (u : Transmission). u.kept) c.self.view_is ∙ c.requires in
    let reported : AreReported o f = c.self.invariant.4 in (
      c.self.invariant.0,
      c.self.invariant.1,
      subst (λ (g : Flight). IsAllSettled g.queue) (sym c.in_ok-gone.ensures.ok) (sack-settled s f c.self.invariant.2),
      acked-covered s f o o o None c.acked_counted.new.self c.in_ok-gone.ensures.ok tt tt (λ _. inl none) tt c.self.invariant.3 refl refl refl refl,
      subst (AreReported o) (sym c.in_ok-gone.ensures.ok) (after-reported s f o o o None (λ _. inl none) tt refl refl reported),
    )

pub returns-in_err-gone-clause-turns : goal.returns-in_err-gone-clause-turns
returns-in_err-gone-clause-turns c = counts (goal.at.returns-in_err-gone-clause-turns c).After-acked_counted c.requires

pub returns-clause-turns : goal.returns-clause-turns
returns-clause-turns c = counts (goal.at.returns-clause-turns c).After-acked_counted c.requires
