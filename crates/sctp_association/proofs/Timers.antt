-- The timers of the state.
use Rattle.std.proofs.Common.{◌≡◌, ◌⊎◌, ℕ, true, false, Option, Some, None, ap, sym, ◌∙◌, inl, inr}
use Rattle.std.proofs.lemmas.Bool.{false≢true}
use Rattle.std.proofs.lemmas.Option.{none-some}
use Rattle.std.specs.Prelude.{◌≢◌, is_some}
use Rattle.sctp_association.specs.Timers.{EntersTimers, KeepsTimers, RunsTimers, StartsTimers, StopsTimers, expiry, guard_in, stops}
use Rattle.sctp_association.specs.declared.association.Association.{Association}
use Rattle.sctp_association.specs.declared.config.Config.{Config}
use Rattle.sctp_handshake.specs.States.{timer}
use Rattle.sctp_handshake.specs.declared.answer.Answer.{Answer}
use Rattle.sctp_handshake.specs.declared.answer.Reply.TheVariants.{Shutdown}
use Rattle.sctp_handshake.specs.declared.answer.Told.{Told}
use Rattle.sctp_handshake.specs.declared.machine.Machine.{Machine}
use Rattle.sctp_handshake.specs.declared.state.State.{State}
use Rattle.sctp_path.specs.declared.rto.Rto.{Rto}
use Rattle.sctp_path.specs.declared.timer.Timer.{Timer}

-- they stop only where something is told
told-none : (t : Option Told) → t ≡ None → stops t ≡ true → ⊥
told-none t none e = false≢true (sym (ap stops none) ∙ e)

-- nothing is answered, and the state stays
pub runs_none : (a : Answer) (before : State) (now : ℕ) (x y : Association) → a.reply ≡ None → a.told ≡ None → y.machine.state ≡ before
    → y.control ≡ x.control → y.guard ≡ x.guard → RunsTimers a before now x y
runs_none a before now x y reply told state control guard = record {
  stop = λ e. absurd (told-none a.told told e);
  start = λ goes w. absurd (never w);
  keep = λ goes same silent. record { control = control; guard = guard };
}
  where
    never : (y.machine.state ≢ before) ⊎ (a.reply ≡ Some Shutdown) → ⊥
    never (inl other) = other state
    never (inr is) = none-some Shutdown (sym reply ∙ is)

-- what came before left them
pub runs_from : (r : Answer) (before : State) (now : ℕ) (x y e : Association) → y.control ≡ x.control → y.guard ≡ x.guard
    → RunsTimers r before now y e → RunsTimers r before now x e
runs_from r before now x y e control guard h = record {
  stop = λ is. h.stop is;
  start = λ goes w. record {
    control = (h.start goes w).control;
    guard = (h.start goes w).guard ∙ ap (λ (t : Timer). guard_in e.machine.state now e.config.shutdown_guard t.at) guard;
  };
  keep = λ goes same silent. record { control = (h.keep goes same silent).control ∙ control; guard = (h.keep goes same silent).guard ∙ guard };
}

-- what is told leaves them, unless it stops them
pub runs_told : (r : Answer) (before : State) (now : ℕ) (x y e : Association) → ((y.machine.state ≢ before) ⊎ (r.reply ≡ Some Shutdown) → StartsTimers now x y)
    → (y.machine.state ≡ before → r.reply ≢ Some Shutdown → KeepsTimers x y) → e.machine ≡ y.machine → e.config ≡ y.config
    → (stops r.told ≡ true → StopsTimers e) → (stops r.told ≡ false → KeepsTimers y e) → (stops r.told ≡ false → e.outbound.rto ≡ y.outbound.rto)
    → RunsTimers r before now x e
runs_told r before now x y e start keep machine config stop kept rto = record {
  stop = stop;
  start = λ goes w. let first = start (moved w) in record {
    control = ap (λ (t : Timer). t.at) (kept goes).control ∙ first.control
        ∙ sym (ap (λ (m : Machine). expiry (timer m.state) now y.outbound.rto.rto) machine)
        ∙ sym (ap (λ (o : Rto). expiry (timer e.machine.state) now o.rto) (rto goes));
    guard = ap (λ (t : Timer). t.at) (kept goes).guard ∙ first.guard
        ∙ sym (ap (λ (m : Machine). guard_in m.state now y.config.shutdown_guard x.guard.at) machine)
        ∙ sym (ap (λ (k : Config). guard_in e.machine.state now k.shutdown_guard x.guard.at) config);
  };
  keep = λ goes same silent. let first = keep (sym (ap (λ (m : Machine). m.state) machine) ∙ same) silent in record {
    control = (kept goes).control ∙ first.control;
    guard = (kept goes).guard ∙ first.guard;
  };
}
  where
    moved : (e.machine.state ≢ before) ⊎ (r.reply ≡ Some Shutdown) → (y.machine.state ≢ before) ⊎ (r.reply ≡ Some Shutdown)
    moved (inl other) = inl (λ same. other (ap (λ (m : Machine). m.state) machine ∙ same))
    moved (inr is) = inr is

-- the state stays, and so do they
pub enters_same : (now : ℕ) (x y : Association) → y.machine.state ≡ x.machine.state → y.control ≡ x.control → y.guard ≡ x.guard → EntersTimers now x y
enters_same now x y state control guard = record {
  start = λ other has. absurd (other state);
  keep = λ why. record { control = control; guard = guard };
}

-- and behind a call that leaves them
pub enters_then : (now : ℕ) (x y e : Association) → EntersTimers now x y → e.machine ≡ y.machine → e.config ≡ y.config
    → e.outbound.rto ≡ y.outbound.rto → e.control ≡ y.control → e.guard ≡ y.guard → EntersTimers now x e
enters_then now x y e h machine config rto control guard = record {
  start = λ other has.
      let first = h.start (λ same. other (state ∙ same)) (sym (ap (λ s. is_some (timer s)) state) ∙ has) in
      record {
        control = ap (λ (t : Timer). t.at) control ∙ first.control ∙ sym (ap (λ s. expiry (timer s) now y.outbound.rto.rto) state)
            ∙ sym (ap (λ (o : Rto). expiry (timer e.machine.state) now o.rto) rto);
        guard = ap (λ (t : Timer). t.at) guard ∙ first.guard ∙ sym (ap (λ s. guard_in s now y.config.shutdown_guard x.guard.at) state)
            ∙ sym (ap (λ (k : Config). guard_in e.machine.state now k.shutdown_guard x.guard.at) config);
      };
  keep = λ why. let first = h.keep (before why) in record { control = control ∙ first.control; guard = guard ∙ first.guard };
}
  where
    state : e.machine.state ≡ y.machine.state
    state = ap (λ (m : Machine). m.state) machine

    before : (e.machine.state ≡ x.machine.state) ⊎ (timer e.machine.state ≡ None) → (y.machine.state ≡ x.machine.state) ⊎ (timer y.machine.state ≡ None)
    before (inl same) = inl (sym state ∙ same)
    before (inr none) = inr (sym (ap timer state) ∙ none)

-- what came before left the state, and them
pub enters_from : (now : ℕ) (x y e : Association) → y.machine.state ≡ x.machine.state → y.control ≡ x.control → y.guard ≡ x.guard → EntersTimers now y e
    → EntersTimers now x e
enters_from now x y e state control guard h = record {
  start = λ other has. let first = h.start (λ same. other (same ∙ state)) has in record {
    control = first.control;
    guard = first.guard ∙ ap (λ (t : Timer). guard_in e.machine.state now e.config.shutdown_guard t.at) guard;
  };
  keep = λ why. let first = h.keep (before why) in record { control = first.control ∙ control; guard = first.guard ∙ guard };
}
  where
    before : (e.machine.state ≡ x.machine.state) ⊎ (timer e.machine.state ≡ None) → (e.machine.state ≡ y.machine.state) ⊎ (timer e.machine.state ≡ None)
    before (inl same) = inl (same ∙ sym state)
    before (inr none) = inr none
