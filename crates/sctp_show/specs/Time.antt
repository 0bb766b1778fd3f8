-- How long after a first record another one was captured.
use Rattle.std.specs.Prelude.{◌≡◌, ℕ, ◌+◌, ◌*◌, true, false, if◌then◌else◌}
use Rattle.sctp_capture.specs.declared.record.Time.{Time}
use Rattle.sctp_show.specs.declared.time.Elapsed.{Elapsed}

-- the nanoseconds of a time
abbrev pub total_of : Time → ℕ
total_of t = t.seconds * 1000000000 + t.fraction * (if t.nanoseconds then 1 else 1000)

-- so many nanoseconds after the first time, or before it
pub record IsElapsed (first time : Time) (e : Elapsed) : Type 0 where
  pub after : e.is_before ≡ false → total_of first + e.nanoseconds ≡ total_of time
  pub before : e.is_before ≡ true → total_of time + e.nanoseconds ≡ total_of first
