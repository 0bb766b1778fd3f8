use Rattle.sctp_sender.proofs.Names.{◌≡◌, ap, true, false, sym, ◌∙◌, is_some, Transmission, is_open, is_drained}
use Rattle.sctp_sender.proofs.SenderStreams.{reset-busy, reset-fine, reset-unknown}
use Rattle.sctp_sender.proofs.Seen.{sender_in}
use Rattle.sctp_sender.proofs.sender.Sender.reset.Goals as goal

pub returns-in_default-clause-refused : goal.returns-in_default-clause-refused
returns-in_default-clause-refused c = rw (← c.self.view_is) (reset-unknown c.args.stream (sender_in c.self.inside) (sym c.in_default.ensures))

pub returns-then-not-is_drained-clause-refused : goal.returns-then-not-is_drained-clause-refused
returns-then-not-is_drained-clause-refused c =
    let t : Transmission = sender_in c.self.inside in
    let open' : is_open c.args.stream t ≡ true = ap is_some (sym c.in-Some.ensures) in
    let busy : is_drained c.args.stream c.args.self.now ≡ false = sym c.is_drained.ensures ∙ c.if-not-is_drained.true in
    rw (← c.self.view_is) (reset-busy c.args.stream t open' (rw (← c.self.view_is) at busy))

pub returns-clause-accepted : goal.returns-clause-accepted
returns-clause-accepted c =
    let t : Transmission = sender_in c.self.inside in
    let open' : is_open c.args.stream t ≡ true = ap is_some (sym c.in-Some.ensures) in
    let drained : is_drained c.args.stream c.args.self.now ≡ true = sym c.is_drained.ensures ∙ c.if-not-is_drained.false in
    λ _. rw (← c.self.view_is) (reset-fine c.args.stream t open' (rw (← c.self.view_is) at drained))
