-- Timers that run out again and again.
use Rattle.std.proofs.Common.{◌≡◌, ℕ, zero, suc, ◌+◌, ◌<◌, ◌≤◌, Bool, true, false, refl, sym, subst, arith}
use Rattle.std.specs.Prelude.{nat_lt, is_some, if◌then◌else◌}
use Rattle.std.proofs.lemmas.Bool.Decides.{nat_tests}
use Rattle.sctp_handshake.specs.declared.answer.Reply.{Reply}
use Rattle.sctp_handshake.specs.declared.answer.Reply.TheVariants as reply
use Rattle.sctp_handshake.specs.declared.machine.Machine.{Machine}
use Rattle.sctp_handshake.specs.declared.state.State.{State}
use Rattle.sctp_handshake.specs.declared.state.State.TheVariants.{Closed, CookieWait, CookieEchoed}
use Rattle.sctp_handshake.specs.declared.state.State.TheVariants.{ShutdownSent, ShutdownAckSent}
use Rattle.sctp_handshake.specs.Histories.{after}
use Rattle.sctp_handshake.specs.Laws.{retries, timeouts}
use Rattle.sctp_handshake.specs.Machines.{closed, failed}
use Rattle.sctp_handshake.specs.States.{timer}
use Rattle.sctp_handshake.specs.Timeouts.{again, sent_again, timed_out_row}

-- the machine ends after so many timeouts
abbrev Ends : ℕ → Machine → Type 0
Ends n m = (after (timeouts n) m).state ≡ Closed

closed_stays : (n : ℕ) (m : Machine) → m.state ≡ Closed → Ends n m
closed_stays zero m e = e
closed_stays (suc n) m e = subst (λ (s : State). Ends n (timed_out_row s m).machine) (sym e) (closed_stays n m e)

-- in this state so many timeouts are enough
abbrev Enough : ℕ → State → Type 0
Enough n s = (m : Machine) → m.state ≡ s → m.attempts ≤ retries s m.limits → retries s m.limits < m.attempts + n → Ends n m

again_ends : (n : ℕ) (s : State) (m : Machine) (r : Reply) → Enough n s → m.state ≡ s → retries s m.limits < m.attempts + suc n
    → Ends n (again (retries s m.limits) r m).machine
again_ends n s m r ih e lt = by (nat_lt m.attempts (retries s m.limits)) refl
  where
    by : (b : Bool) → nat_lt m.attempts (retries s m.limits) ≡ b → Ends n (if b then sent_again r m else failed m).machine
    by true h =
        let left : m.attempts < retries s m.limits = grind (arith, nat_tests) in
        ih (sent_again r m).machine e (omega arith) (omega arith)
    by false h = closed_stays n (closed m) refl

row_ends : (n : ℕ) (s : State) (m : Machine) → Enough n s → m.state ≡ s → is_some (timer s) ≡ true → retries s m.limits < m.attempts + suc n
    → Ends n (timed_out_row s m).machine
row_ends n CookieWait m ih e t lt = again_ends n CookieWait m reply.Init ih e lt
row_ends n CookieEchoed m ih e t lt = again_ends n CookieEchoed m reply.CookieEcho ih e lt
row_ends n ShutdownSent m ih e t lt = again_ends n ShutdownSent m reply.Shutdown ih e lt
row_ends n ShutdownAckSent m ih e t lt = again_ends n ShutdownAckSent m reply.ShutdownAck ih e lt
row_ends n _ m ih e t lt = cc

pub silent : (n : ℕ) (s : State) (m : Machine) → m.state ≡ s → is_some (timer s) ≡ true → m.attempts ≤ retries s m.limits
    → retries s m.limits < m.attempts + n → Ends n m
silent zero s m e t le lt = absurd (omega arith)
silent (suc n) s m e t le lt =
    subst (λ (q : State). Ends n (timed_out_row q m).machine) (sym e) (row_ends n s m (λ o f a b. silent n s o f t a b) e t lt)
