-- What begins by what is told, and what does not.
use Rattle.std.proofs.Common.{◌≡◌, true, Option, Some, None, ap, sym, subst}
use Rattle.sctp_association.specs.Arrivals.{Does, Halves}
use Rattle.sctp_association.specs.Beginnings.{Begins, BeginsBy, begins_by}
use Rattle.sctp_association.specs.declared.config.Config.{Config}
use Rattle.sctp_handshake.specs.Endings.{on_shutdown, on_shutdown_ack, on_shutdown_complete, shutdown_ack_row}
use Rattle.sctp_handshake.specs.Endings.{shutdown_complete_row, shutdown_row}
use Rattle.sctp_handshake.specs.Timeouts.{on_packet_arrived, packet_arrived_row}
use Rattle.sctp_handshake.specs.declared.answer.Answer.{Answer}
use Rattle.sctp_handshake.specs.declared.answer.Told.{Told}
use Rattle.sctp_handshake.specs.declared.machine.Machine.{Machine}
use Rattle.sctp_handshake.specs.declared.offer.Offer.{Offer}
use Rattle.sctp_handshake.specs.declared.state.State.{State}
use Rattle.sctp_handshake.specs.declared.state.State.TheVariants.{Closed, ShutdownSent}

-- ## What begins

pub begins_none : (o : Option Offer) (c : Config) (x y : Halves) → o ≡ None → y ≡ x → Begins o c x y
begins_none o c x y e same = subst (λ p. Begins p c x y) (sym e) same

pub begins_some : (o : Option Offer) (peer : Offer) (c : Config) (x y : Halves) → o ≡ Some peer → Does (begins_by peer c) x y → Begins o c x y
begins_some o peer c x y e does = subst (λ p. Begins p c x y) (sym e) does

module _ (m : Machine) (c : Config) (x y : Halves) where
  pub begun_none : (o : Option Told) → o ≡ None → y ≡ x → BeginsBy o m c x y
  begun_none o e same = subst (λ p. BeginsBy p m c x y) (sym e) same

  pub begun_by : (t o : Told) → t ≡ o → BeginsBy (Some o) m c x y → BeginsBy (Some t) m c x y
  begun_by t o e b = subst (λ k. BeginsBy (Some k) m c x y) (sym e) b

-- ## What does not begin

shutdown-quiet : (s : State) (m n : Machine) (c : Config) (x y : Halves) → BeginsBy (shutdown_row s m).answer.told n c x y → y ≡ x
shutdown-quiet Closed m n c x y b = b
shutdown-quiet _ m n c x y b = b

shutdown-ack-quiet : (s : State) (m n : Machine) (c : Config) (x y : Halves) → BeginsBy (shutdown_ack_row s m).answer.told n c x y → y ≡ x
shutdown-ack-quiet Closed m n c x y b = b
shutdown-ack-quiet _ m n c x y b = b

complete-quiet : (s : State) (m n : Machine) (c : Config) (x y : Halves) → BeginsBy (shutdown_complete_row s m).answer.told n c x y → y ≡ x
complete-quiet Closed m n c x y b = b
complete-quiet _ m n c x y b = b

arrived-quiet : (s : State) (m n : Machine) (c : Config) (x y : Halves) → BeginsBy (packet_arrived_row s true m).answer.told n c x y → y ≡ x
arrived-quiet ShutdownSent m n c x y b = b
arrived-quiet _ m n c x y b = b

module _ (m n : Machine) (c : Config) (x y : Halves) (a : Answer) (begun : BeginsBy a.told n c x y) where
  told-as : (b : Answer) → a ≡ b → BeginsBy b.told n c x y
  told-as b e = subst (λ o. BeginsBy o n c x y) (ap (λ k. k.told) e) begun

  pub quiet_shutdown : a ≡ (on_shutdown m).answer → y ≡ x
  quiet_shutdown e = shutdown-quiet m.state m n c x y (told-as (on_shutdown m).answer e)

  pub quiet_shutdown_ack : a ≡ (on_shutdown_ack m).answer → y ≡ x
  quiet_shutdown_ack e = shutdown-ack-quiet m.state m n c x y (told-as (on_shutdown_ack m).answer e)

  pub quiet_complete : a ≡ (on_shutdown_complete m).answer → y ≡ x
  quiet_complete e = complete-quiet m.state m n c x y (told-as (on_shutdown_complete m).answer e)

  pub quiet_arrived : a ≡ (on_packet_arrived true m).answer → y ≡ x
  quiet_arrived e = arrived-quiet m.state m n c x y (told-as (on_packet_arrived true m).answer e)
