-- TSNs beyond the cumulative one as runs: each is told by its first and its last TSN, and none touches the next.
use Rattle.std.specs.Prelude.{◌≡◌, ℕ, zero, suc, ◌+◌, ◌-◌, ◌<◌, ◌≤◌, ◌^◌, ◌==◌, Bool, false, nat_le, nat_lt, if◌then◌else◌, List, [], ◌∷◌, ◌++◌, length, map}
use Rattle.std.specs.Prelude.{slice_get, IfSome, Option, Some, None}
use Rattle.sctp_util.specs.Kept.{runs_of}
use Rattle.sctp_util.specs.Serial.{distance}
use Rattle.sctp_serial.specs.DataChunks.{following_tsn, preceding_tsn}
use Rattle.sctp_receiver.specs.declared.receiver.tsn_filter.runs.Run.{Run}
use Rattle.sctp_receiver.specs.declared.receiver.tsn_filter.runs.Spot.{Spot}

-- so many TSNs, one after another, from this one on
abbrev pub tsns_from : ℕ → ℕ → List ℕ
tsns_from tsn zero = []
tsns_from tsn (suc n) = tsn ∷ tsns_from (following_tsn tsn) n

-- all TSNs of runs
abbrev pub tsns_of : List Run → List ℕ
tsns_of [] = []
tsns_of (r ∷ rs) = tsns_from r.first (suc (distance r.first r.last)) ++ tsns_of rs

-- a run begins more than one farther from the base than the one before it ended, and ends nearer than half the circle
pub record IsRun (base far : ℕ) (r : Run) : Type 0 where
  pub first_fits : r.first < 2 ^ 32
  pub last_fits : r.last < 2 ^ 32
  pub apart : far + 1 < distance base r.first
  pub order : distance base r.first ≤ distance base r.last
  pub near : distance base r.last < 2 ^ 31

-- so does each, behind one that ended so far from the base
abbrev pub AreRuns : ℕ → ℕ → List Run → Type 0
AreRuns base far [] = Unit {0}
AreRuns base far (r ∷ rs) = IsRun base far r × AreRuns base (distance base r.last) rs

-- how many runs TSNs beyond a base make
abbrev pub count_of_runs : ℕ → List ℕ → ℕ
count_of_runs base tsns = length (runs_of (map (distance base) tsns))

-- the run before a place
abbrev pub run_before : ℕ → List Run → Option Run
run_before zero rs = None
run_before (suc n) rs = slice_get rs n

-- the run at the place begins after the TSN, and the one before it does not
pub record IsSpot (base tsn : ℕ) (rs : List Run) (s : Spot) : Type 0 where
  pub within : s.place ≤ length rs
  pub before : s.before ≡ run_before s.place rs
  pub after : s.after ≡ slice_get rs s.place
  pub begun : IfSome s.before (λ r. distance base r.first ≤ distance base tsn)
  pub ahead : IfSome s.after (λ r. distance base tsn < distance base r.first)

-- a run, where there is one, does not end before the TSN
abbrev pub reaches : ℕ → ℕ → Option Run → Bool
reaches base tsn None = false
reaches base tsn (Some r) = nat_le (distance base tsn) (distance base r.last)

-- what is left of a run without one of its TSNs
abbrev pub left_piece : Run → ℕ → List Run
left_piece r tsn =
    if r.first == tsn then [] else (record { first = r.first; last = preceding_tsn tsn }) ∷ []

abbrev pub right_piece : Run → ℕ → List Run
right_piece r tsn =
    if r.last == tsn then [] else (record { first = following_tsn tsn; last = r.last }) ∷ []

abbrev pub pieces : Run → ℕ → List Run
pieces r tsn = left_piece r tsn ++ right_piece r tsn

-- the one of two TSNs that lies farther from the base
abbrev pub later : ℕ → ℕ → ℕ → ℕ
later base a b = if nat_lt (distance base a) (distance base b) then b else a

-- where a run begins that a TSN joins, and its place: that of the run before the TSN, where the TSN follows it
abbrev pub left_end_of : ℕ → ℕ → Option Run → ℕ × ℕ
left_end_of tsn place None = (tsn, place)
left_end_of tsn place (Some r) =
    if following_tsn r.last == tsn then (r.first, place - 1) else (tsn, place)

abbrev pub left_end : ℕ → Spot → ℕ × ℕ
left_end tsn s = left_end_of tsn s.place s.before

-- where it ends, and the place behind it: those of the run after the TSN, where that follows the TSN
abbrev pub right_end_of : ℕ → ℕ → Option Run → ℕ × ℕ
right_end_of tsn place None = (tsn, place)
right_end_of tsn place (Some r) =
    if following_tsn tsn == r.first then (r.last, place + 1) else (tsn, place)

abbrev pub right_end : ℕ → Spot → ℕ × ℕ
right_end tsn s = right_end_of tsn s.place s.after
