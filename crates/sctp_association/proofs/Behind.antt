-- What DATA, a SACK and a FORWARD-TSN leave.
use Rattle.std.proofs.Common.{◌≡◌, ℕ, Bool, true, List, refl, ap, sym, subst, ◌∙◌, inr}
use Rattle.std.proofs.lemmas.Bool.{false≢true}
use Rattle.std.specs.Prelude.{◌==◌}
use Rattle.sctp_association.specs.Behind.{StillAs, StillOn}
use Rattle.sctp_association.specs.Ends.{EndsOn, IsAbortedBy}
use Rattle.sctp_association.specs.Rows.{owed_by}
use Rattle.sctp_association.specs.declared.association.Association.{Association}
use Rattle.sctp_association.specs.declared.association.arrivals.Step.{Step}
use Rattle.sctp_association.specs.declared.association.arrivals.Step.TheVariants.{Next, Stop, Cut, Refused}
use Rattle.sctp_association.specs.declared.due.Due.{Due}
use Rattle.sctp_datagram.specs.declared.datagram.ChunkPlace.{ChunkPlace}
use Rattle.sctp_handshake.specs.Machines as machines
use Rattle.sctp_handshake.specs.Machines.{Takes, dropped}
use Rattle.sctp_handshake.specs.Timeouts.{on_packet_arrived, packet_arrived_row}
use Rattle.sctp_handshake.specs.declared.answer.Answer.{Answer}
use Rattle.sctp_handshake.specs.declared.machine.Machine.{Machine}
use Rattle.sctp_handshake.specs.declared.state.State.{State}
use Rattle.sctp_handshake.specs.declared.state.State.TheVariants.{Closed, ShutdownSent}

arrived-machine : (s : State) (m : Machine) → (packet_arrived_row s true m).machine
    ≡ record m { attempts = (packet_arrived_row s true m).machine.attempts }
arrived-machine ShutdownSent m = refl
arrived-machine Closed m = refl
arrived-machine _ m = refl

pub arrived_peer : (m n : Machine) (a : Answer) → Takes (on_packet_arrived true m) n a → n.peer ≡ m.peer
arrived_peer m n a t = ap (λ (k : Machine). k.peer) t.machine ∙ ap (λ (k : Machine). k.peer) (arrived-machine m.state m)

arrived-due : (s : State) (m : Machine) (d : Due) → owed_by (packet_arrived_row s true m).answer.reply 0 d
    ≡ record d { shutdown = (owed_by (packet_arrived_row s true m).answer.reply 0 d).shutdown }
arrived-due ShutdownSent m d = refl
arrived-due Closed m d = refl
arrived-due _ m d = refl

arrived-shutdown : (s : State) (m : Machine) (d : Due) → d.shutdown ≡ true → (owed_by (packet_arrived_row s true m).answer.reply 0 d).shutdown ≡ true
arrived-shutdown ShutdownSent m d e = refl
arrived-shutdown Closed m d e = e
arrived-shutdown _ m d e = e

arrived-same : (s : State) (m : Machine) → (s ≡ ShutdownSent → ⊥) → packet_arrived_row s true m ≡ dropped m
arrived-same ShutdownSent m off = absurd (off refl)
arrived-same Closed m off = refl
arrived-same _ m off = refl

-- behind DATA
pub still_arrived : (a b : Association) (n : Machine) (r : Answer) → Takes (on_packet_arrived true a.machine) n r → b.machine ≡ n
    → b.due ≡ owed_by r.reply 0 a.due → b.is_over ≡ a.is_over → b.wants_shutdown ≡ a.wants_shutdown → StillAs true a b
still_arrived a b n r takes machine due over wants =
    let is : b.machine ≡ (on_packet_arrived true a.machine).machine = machine ∙ takes.machine in
    let owed : b.due ≡ owed_by (on_packet_arrived true a.machine).answer.reply 0 a.due =
    due ∙ ap (λ (k : Answer). owed_by k.reply 0 a.due) takes.answer in
    record {
      machine = is ∙ arrived-machine a.machine.state a.machine ∙ ap (λ (m : Machine). record a.machine { attempts = m.attempts }) (sym is);
      due = owed ∙ arrived-due a.machine.state a.machine a.due ∙ ap (λ (d : Due). record a.due { shutdown = d.shutdown }) (sym owed);
      shutdown = λ e. ap (λ (d : Due). d.shutdown) owed ∙ arrived-shutdown a.machine.state a.machine a.due e;
      same = λ off.
          let silent = arrived-same a.machine.state a.machine (off refl) in (
            is ∙ ap (λ (s : machines.Step). s.machine) silent,
            owed ∙ ap (λ (s : machines.Step). owed_by s.answer.reply 0 a.due) silent,
          );
      over = over;
      wants = wants;
    }

module _ (c : ChunkPlace) (d : List ℕ) (a b : Association) where
  pub still_by : (with : Bool) → (c.typ == 0) ≡ with → (s : Step) → (s ≡ Next → StillAs with a b) → (s ≡ Stop → IsAbortedBy c d a.machine.peer b)
      → (s ≡ Cut → ⊥) → StillOn c d s a b
  still_by with is Next next stop cut = subst (λ (x : Bool). StillAs x a b) (sym is) (next refl)
  still_by with is Stop next stop cut = stop refl
  still_by with is Cut next stop cut = absurd (cut refl)
  still_by with is (Refused r) next stop cut = tt

  pub still_stop : (s : Step) → StillOn c d s a b → s ≡ Stop → IsAbortedBy c d a.machine.peer b
  still_stop s still is = subst (λ (x : Step). StillOn c d x a b) is still

  -- nothing else ends
  pub still_ends : (s : Step) → StillOn c d s a b → EndsOn c d s a b
  still_ends Next h = λ going over. absurd (false≢true (sym going ∙ sym h.over ∙ over))
  still_ends Stop h = λ going over. inr h
  still_ends Cut h = h
  still_ends (Refused r) h = tt
