-- The retransmission timeout (RFC 9260 6.3.1, 6.3.3). Times are whole nanoseconds, and a quotient is rounded down.
use Rattle.std.specs.Prelude.{◌≡◌, ℕ, zero, suc, ◌≤◌, ◌^◌, ◌+◌, ◌*◌, ◌/◌, min, max, Option, Some, None}
use Rattle.std.specs.Int.{abs_diff}
use Rattle.sctp_path.specs.declared.rto.RoundTrips.{RoundTrips}

-- what a host chose: RTO.Initial, RTO.Min, RTO.Max (RFC 9260 16), and G, the granularity of its clock
pub record Limits : Type 0 where
  pub initial : ℕ
  pub least : ℕ
  pub most : ℕ
  pub granularity : ℕ

-- the limits, SRTT and RTTVAR, which are None before the first round trip, and the RTO
pub record Timeout : Type 0 where
  pub limits : Limits
  pub trips : Option RoundTrips
  pub rto : ℕ

-- RTO.Max is at least RTO.Min, and RTO.Initial lies between them
abbrev pub limits_of : ℕ → ℕ → ℕ → ℕ → Limits
limits_of initial least most granularity =
    let top = max most least in
    record { initial = min (max initial least) top; least = least; most = top; granularity = granularity }

-- WebRTC: 1 s, 200 ms and 60 s; a clock that counts milliseconds
abbrev pub usual : Limits
usual = limits_of 1_000_000_000 200_000_000 60_000_000_000 1_000_000

-- a time, raised to RTO.Min (C6) and lowered to RTO.Max (C7)
abbrev pub within : Limits → ℕ → ℕ
within l time = min (max time l.least) l.most

-- before the first round trip (C1)
abbrev pub first : Limits → Timeout
first l = record { limits = l; trips = None; rto = within l l.initial }

-- the first round trip R (C2): SRTT is R, RTTVAR is R/2. RTTVAR is at least G: G1 says so where it is 0, and to a clock of that
-- granularity less is 0
abbrev pub first_trip : ℕ → ℕ → RoundTrips
first_trip granularity r = record { smoothed = r; variation = max (r / 2) granularity }

-- each later one (C3), by the SRTT before it: RTTVAR is 3/4 RTTVAR + 1/4 |SRTT - R|, SRTT is 7/8 SRTT + 1/8 R
abbrev pub next_trip : ℕ → ℕ → RoundTrips → RoundTrips
next_trip granularity r t = record {
  smoothed = (7 * t.smoothed + r) / 8;
  variation = max ((3 * t.variation + abs_diff t.smoothed r) / 4) granularity;
}

abbrev pub trips_after : ℕ → ℕ → Option RoundTrips → RoundTrips
trips_after granularity r None = first_trip granularity r
trips_after granularity r (Some t) = next_trip granularity r t

-- SRTT + 4 RTTVAR
abbrev pub timeout_of : RoundTrips → ℕ
timeout_of t = t.smoothed + 4 * t.variation

-- a round trip was measured: earlier back-off is forgotten (RFC 9260 6.3.3)
abbrev pub after_trip : ℕ → Timeout → Timeout
after_trip r t =
    let trips = trips_after t.limits.granularity r t.trips in
    record t { trips = Some trips; rto = within t.limits (timeout_of trips) }

-- T3-rtx expired: the RTO doubles, up to RTO.Max (E2)
abbrev pub after_back_off : Timeout → Timeout
after_back_off t = record t { rto = min (2 * t.rto) t.limits.most }

-- SRTT, once there is one
abbrev pub smoothed_of : Option RoundTrips → Option ℕ
smoothed_of None = None
smoothed_of (Some t) = Some t.smoothed

-- ## Back-offs in a row

abbrev pub after_back_offs : ℕ → Timeout → Timeout
after_back_offs zero t = t
after_back_offs (suc n) t = after_back_off (after_back_offs n t)

abbrev pub DoublingEndsAtMost : Type 0
DoublingEndsAtMost =
    (n : ℕ) (t : Timeout) → t.rto ≤ t.limits.most
    → after_back_offs n t ≡ record t { rto = min (2 ^ n * t.rto) t.limits.most }
