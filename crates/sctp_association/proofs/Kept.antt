-- An association that only looks different is the same: there is one proof that its receiver has the limits of its config.
use Rattle.std.proofs.Common.{◌≡◌, ◌≤◌, Some, ap, sym, subst, ◌∙◌}
use Rattle.std.proofs.Props.{props}
use Rattle.std.specs.Prelude.{IfSome, Option}
use Rattle.sctp_association.specs.declared.association.Association.{Association}
use Rattle.sctp_association.specs.declared.due.Due.{Due}
use Rattle.sctp_association.specs.declared.outbound.Outbound.{Outbound}
use Rattle.sctp_path.specs.declared.heartbeat.Heartbeat.{Heartbeat}
use Rattle.sctp_path.specs.declared.timer.Timer.{Timer}
use Rattle.sctp_reset.specs.Requests.{Requests}
use Rattle.sctp_association.specs.declared.event.Events.{Events}
use Rattle.sctp_association.specs.declared.inbound.Inbound.{Inbound}
use Rattle.sctp_association.specs.declared.outbound.Outbound.{Outbound}
use Rattle.sctp_association.specs.Reached.{limits_of}
use Rattle.sctp_handshake.specs.declared.machine.Machine.{Machine}
use Rattle.sctp_reset.specs.Requests.{Requests}
use Rattle.sctp_reset.specs.declared.peer_requests.PeerRequests.{PeerRequests}

abbrev pub IsWithin : Association → Type 0
IsWithin a = IfSome a.inbound (λ i. (i.receiver.limits ≡ Some (limits_of a.config)) × (i.streams ≤ a.config.inbound_streams))

one_proof : (a : Association) → IsProp (IsWithin a)
one_proof a = hlevel props

pub same_machine : (a : Association) (m : Machine) (p : IsWithin a) → m ≡ a.machine → record a { machine = m; limited = p } ≡ a
same_machine a m p e = ap (λ m. record a { machine = m; limited = p }) e ∙ ap (λ l. record a { limited = l }) (one_proof a p a.limited)

abbrev IsIn : Association → Option Inbound → Type 0
IsIn a o = IfSome o (λ i. (i.receiver.limits ≡ Some (limits_of a.config)) × (i.streams ≤ a.config.inbound_streams))

pub same_inbound : (a : Association) (o : Option Inbound) (e : Events) (p : IsIn a o) → o ≡ a.inbound → e ≡ a.events
    → record a { inbound = o; events = e; limited = p } ≡ a
same_inbound a o e p same told =
    let P : Option Inbound → Type 0 = λ x. (q : IsIn a x) → record a { inbound = x; events = e; limited = q } ≡ a in
    subst P (sym same) (λ q. ap (λ v. record a { events = v; limited = q }) told ∙ ap (λ l. record a { limited = l }) (one_proof a q a.limited)) p

pub same_due : (a b : Association) (p : IsWithin a) → b ≡ record a { due = b.due; limited = p } → b ≡ record a { due = b.due }
same_due a b p e = e ∙ ap (λ l. record a { due = b.due; limited = l }) (one_proof a p a.limited)

-- the timer of the state ran out
pub same_run_out : (a : Association) (m : Machine) (d : Due) (k : Timer) (o : Outbound) (p : IsWithin a)
    → record a { machine = m; due = d; control = k; outbound = o; limited = p } ≡ record a { machine = m; due = d; control = k; outbound = o }
same_run_out a m d k o p = ap (λ l. record a { machine = m; due = d; control = k; outbound = o; limited = l }) (one_proof a p a.limited)

-- what is looked at behind it changed
pub same_later : (a : Association) (o : Outbound) (q : Requests) (h : Option Heartbeat) (p : IsWithin a)
    → record a { outbound = o; requests = q; heartbeat = h; limited = p } ≡ record a { outbound = o; requests = q; heartbeat = h }
same_later a o q h p = ap (λ l. record a { outbound = o; requests = q; heartbeat = h; limited = l }) (one_proof a p a.limited)

pub same_told : (a : Association) (o : Outbound) (e : Events) (p : IsWithin a)
    → record a { outbound = o; events = e; limited = p } ≡ record a { outbound = o; events = e }
same_told a o e p = ap (λ l. record a { outbound = o; events = e; limited = l }) (one_proof a p a.limited)

pub same_requests : (a : Association) (o : Requests) (p : IsWithin a) → record a { requests = o; limited = p } ≡ record a { requests = o }
same_requests a o p = ap (λ l. record a { requests = o; limited = l }) (one_proof a p a.limited)

pub same_peer : (a : Association) (o : Option PeerRequests) (p : IsWithin a)
    → record a { peer_requests = o; limited = p } ≡ record a { peer_requests = o }
same_peer a o p = ap (λ l. record a { peer_requests = o; limited = l }) (one_proof a p a.limited)
