use Rattle.sctp_association.proofs.Leaving.{into_then}
use Rattle.sctp_association.proofs.Idle.{added_longer}
use Rattle.sctp_association.proofs.Others.{others_then}
use Rattle.sctp_association.proofs.association.Association.put_cookies.Goals as goal
use Rattle.sctp_association.proofs.Ordered as ordered
use Rattle.std.proofs.Common.{◌∷◌, []}

pub returns : goal.returns
returns c = record {
  others = others_then _ _ _ c.put_cookie_echo.ensures.others c.put_cookie_ack.ensures.others;
  leaves = into_then c.args.self.now c.put_cookie_echo.new.self c.put_cookie_ack.new.self _ _ c.put_cookie_echo.ensures.others.added
      c.put_cookie_ack.ensures.others.added c.put_cookie_echo.ensures.leaves c.put_cookie_ack.ensures.leaves;
  owes = λ p draft short.
      let echoed = c.put_cookie_echo.ensures.others.added.draft p draft in
      let longer = added_longer _ _ _ _ c.put_cookie_ack.ensures.others.added echoed in
      c.put_cookie_ack.ensures.owes longer.0 short;
  order = ordered.order_then (10 ∷ []) (11 ∷ []) _ _ _ c.put_cookie_echo.ensures.order c.put_cookie_ack.ensures.order;
}
