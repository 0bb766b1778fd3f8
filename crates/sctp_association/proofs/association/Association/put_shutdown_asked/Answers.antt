use Rattle.sctp_association.proofs.Leaving.{stands_put}
use Rattle.sctp_association.specs.Leaving.{acked_of}
use Rattle.std.proofs.Common.{Some, ap, inl, inr, refl, sym, ◌∙◌}
use Rattle.std.proofs.Common.{true}
use Rattle.sctp_association.proofs.Idle.{shutdown_put}
use Rattle.sctp_association.proofs.Others.{shutdown_side}
use Rattle.sctp_association.proofs.association.Association.put_shutdown_asked.Goals as goal

pub returns-then-put-clause-made : goal.returns-then-put-clause-made
returns-then-put-clause-made c =
    shutdown_side c.cumulative_tsn.result true _ _ c.in-Some.inbound _ _ c.in-Some.is c.cumulative_tsn.ensures (inl c.if-not-self.false, refl)
    c.if-put.ensures.added

pub returns-else-put-clause-owes : goal.returns-else-put-clause-owes
returns-else-put-clause-owes c head short = absurd
    (shutdown_put _ _ _ c.put.result c.put.ensures.grows head short c.put.ensures.least c.if-put.false c.cumulative_tsn.result c.put.ensures.fits)

pub returns-then-put-clause-leaves : goal.returns-then-put-clause-leaves
returns-then-put-clause-leaves c = record {
  cookie_echo = λ e. inl e;
  cookie_ack = λ e. inl e;
  shutdown = λ _. inr (
    c.cumulative_tsn.result,
    ap acked_of c.in-Some.is ∙ ap Some (sym c.cumulative_tsn.ensures),
    stands_put c.put.result _ _ _ c.put.ensures.added c.if-put.true,
  );
  shutdown_ack = λ e. inl e;
  heartbeat = λ _ e. inl e;
  sack = λ e. inl e;
  report = λ _ e. inl e;
  unknown = λ _ e. inl e;
  cookie = refl;
  acked = refl;
  limit = c.put.ensures.limit;
}
