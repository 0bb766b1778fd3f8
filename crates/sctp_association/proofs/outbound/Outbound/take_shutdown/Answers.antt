use Rattle.std.proofs.Common.{◌≡◌, ap, rules, sym, true, ◌∙◌}
use Rattle.sctp_association.proofs.Falls.{shutdown_falls, shutdown_outdated}
use Rattle.sctp_association.proofs.Lows.{puts_alike}
use Rattle.sctp_association.specs.Acks.{without_blocks}
use Rattle.sctp_association.specs.declared.outbound.Outbound.{Outbound}
use Rattle.sctp_sender.specs.Flight.{is_outdated}
use Rattle.sctp_sender.specs.Thresholds.{fell}
use Rattle.sctp_association.proofs.outbound.Outbound.take_shutdown.Goals as goal

-- ## The buffered amounts that fall

pub returns-in-Err-clause-told : goal.returns-in-Err-clause-told
returns-in-Err-clause-told c = search rules

pub returns-then-sna32lt-clause-told : goal.returns-then-sna32lt-clause-told
returns-then-sna32lt-clause-told c =
    let late : is_outdated (without_blocks c.args.tsn) c.args.self.now.sender.flight ≡ true = search rules in
    puts_alike c.args.self.now.sender c.acked.new.sender c.args.low.now
    (shutdown_outdated _ c.args.self.now.sender c.acked.new.sender c.in-Ok.released _ c.in-Ok.is c.acked.ensures late)

pub returns-clause-told : goal.returns-clause-told
returns-clause-told c s h lt =
    let same = ap (λ (o : Outbound). o.sender) c.run_timer.ensures.rest ∙ ap (λ (o : Outbound). o.sender) c.follow.ensures.rest in
    c.note_low.ensures.told s (shutdown_falls s _ c.args.self.now.sender c.acked.new.sender c.in-Ok.released _ c.in-Ok.is c.acked.ensures
    c.deref.ensures.value (ap (fell s c.args.self.now.sender) (sym same) ∙ h)) lt
