use Rattle.std.proofs.Common.{refl}
use Rattle.sctp_association.proofs.Known.{keeps_by, keeps_then, knows_same}
use Rattle.sctp_association.proofs.Lasting.{lasts_same, lasts_then}
use Rattle.sctp_association.proofs.Others.{alike_then}
use Rattle.sctp_association.proofs.Rows.{settles_from}
use Rattle.sctp_association.proofs.Telling.{tells_peer}
use Rattle.sctp_association.proofs.association.Association.shutdown.Goals as goal
use Rattle.sctp_association.specs.Beginnings.{KeepsPeer}
use Rattle.sctp_association.specs.Rows.{asking}

pub returns-clause-settles : goal.returns-clause-settles
returns-clause-settles c =
    settles_from c.args.now (asking c.args.self.now) _ c.settle.new.self refl refl refl refl c.is_asked-self.ensures refl refl c.settle.ensures.settles

pub returns-clause-halves : goal.returns-clause-halves
returns-clause-halves c =
    alike_then c.args.self.now _ c.settle.new.self (record { sender = refl; receiver = refl; path = refl }) c.settle.ensures.halves

pub returns-clause-peer : goal.returns-clause-peer
returns-clause-peer c = keeps_then c.args.self.now _ c.settle.new.self
    (keeps_by _ _ _ (knows_same _ _ refl) refl refl refl (λ t e. e) (λ e. e, λ e. e)) c.settle.ensures.peer

pub returns-clause-tells : goal.returns-clause-tells
returns-clause-tells c =
    let peer : KeepsPeer c.args.self.now c.settle.new.self = keeps_then c.args.self.now _ c.settle.new.self
    (keeps_by _ _ _ (knows_same _ _ refl) refl refl refl (λ t e. e) (λ e. e, λ e. e)) c.settle.ensures.peer in
    tells_peer _ _ peer c.settle.ensures.tells

pub returns-clause-left : goal.returns-clause-left
returns-clause-left c =
    lasts_then c.args.self.now _ c.settle.new.self (lasts_same c.args.self.now _ refl refl refl) c.settle.ensures.left
