-- What stays so in each run of calls of a receiver beside which something is kept.
use Rattle.sctp_receiver.proofs.Names.{List, [], ◌∷◌, subst, sym, Reception, Call, Makes, Stand}
use Rattle.sctp_receiver.specs.Beside.{RunsBeside}

module _ {A : Type 0} (after : Call → Reception → A → A) (P : Reception → A → Type 0)
    (step : (c : Call) (old new : Reception) (x : A) → Makes c old new → P old x → P new (after c old x)) where
  pub kept : (calls : List Call) (old new : Stand) (x y : A) → RunsBeside after old x calls new y → P old.receiver x → P new.receiver y
  kept [] old new x y r p = subst (λ (s : Stand). P s.receiver y) (sym r.0) (subst (λ z. P old.receiver z) (sym r.1) p)
  kept (c ∷ cs) old new x y r p =
      kept cs r.0 new (after c old.receiver x) y r.1.1 (step c old.receiver r.0.receiver x r.1.0.receiver p)
