-- Timers, delayed acknowledgements and the count of failures. A moment is a number of nanoseconds; a timer that is stopped has none.
use Rattle.std.specs.Prelude.{ℕ, ◌+◌, ◌-◌, ◌^◌, Bool, true, false, nat_lt, nat_le, min, Option, Some, None}
use Rattle.sctp_path.specs.declared.failures.Failures.{Failures}

-- the moment that comes so much later; the greatest one stands for all past it
abbrev pub later : ℕ → ℕ → ℕ
later now after = min (now + after) (2 ^ 64 - 1)

-- a timer that runs is left alone: DATA that is sent, or a report taken back, starts only a stopped one (RFC 9260 6.3.2)
abbrev pub started : ℕ → ℕ → Option ℕ → Option ℕ
started now after None = Some (later now after)
started now after (Some at) = Some at

-- something is due from its moment on
abbrev pub is_due : ℕ → Option ℕ → Bool
is_due now None = false
is_due now (Some at) = nat_le at now

-- the first of two moments, of which each may be none
abbrev pub earliest : Option ℕ → Option ℕ → Option ℕ
earliest None b = b
earliest (Some a) None = Some a
earliest (Some a) (Some b) = Some (min a b)

-- ## When a SACK is due (RFC 9260 6.2)

-- SACK.Delay, and when a SACK is due, where a packet waits for one
pub record Delay : Type 0 where
  pub delay : ℕ
  pub due : Option ℕ

-- SACK.Delay is at most 500 ms
abbrev pub most_delay : ℕ
most_delay = 500_000_000

abbrev pub new_delay : ℕ → Delay
new_delay delay = record { delay = min delay most_delay; due = None }

-- a packet with DATA came: where none waits for a SACK, one is due after the delay, or now; where one waits, a SACK is due now, and
-- no later than it was
abbrev pub due_after : ℕ → Bool → ℕ → Option ℕ → ℕ
due_after now true delay None = now
due_after now false delay None = later now delay
due_after now at_once delay (Some at) = min at now

abbrev pub after_packet : ℕ → Bool → Delay → Delay
after_packet now at_once a = record a { due = Some (due_after now at_once a.delay a.due) }

-- ## Endpoint failure (RFC 9260 8.1)

-- one more, up to the greatest number of 32 bits
abbrev pub one_more : Failures → Failures
one_more f = record f { count = min (f.count + 1) (2 ^ 32 - 1) }

-- more than the limit: the peer is unreachable
abbrev pub is_passed : Failures → Bool
is_passed f = nat_lt f.most f.count
