-- Stalls of a way: for a second or more nothing is acknowledged, though something is waited for.
use Rattle.std.specs.Prelude.{◌≡◌, ℕ, ◌+◌, ◌≤◌, Bool, false, ◌&&◌, ◌||◌, ◌==◌, not, nat_lt, leb, if◌then◌else◌, Option, Some, None, is_some}
use Rattle.sctp_util.specs.Serial.{at_or_before}
use Rattle.sctp_capture.specs.declared.record.Time.{Time}
use Rattle.sctp_show.specs.Time.{total_of}
use Rattle.sctp_follow.specs.Flow.{counted}
use Rattle.sctp_follow.specs.declared.packet.Arrived.{Arrived}
use Rattle.sctp_follow.specs.declared.outstanding.Passed.{Passed}
use Rattle.sctp_follow.specs.declared.stall.Wait.{Wait}
use Rattle.sctp_follow.specs.declared.stall.Report.{Report}
use Rattle.sctp_follow.specs.declared.stall.Stall.{Stall}
use Rattle.sctp_follow.specs.declared.stall.Reason.{Reason}
use Rattle.sctp_follow.specs.declared.stall.Reason.TheVariants as reasons

-- a second or more lies between two times
abbrev pub is_long : Option Time → Option Time → Bool
is_long (Some from) (Some to) = leb (total_of from + 1000000000) (total_of to)
is_long (Some from) None = false
is_long None to = false

-- no SACK came, or so many of no use
abbrev pub reason_by : ℕ → Reason
reason_by sacks = if sacks == 0 then reasons.NoSack else reasons.NoProgress sacks

-- why nothing was acknowledged up to a time: the window was 0, or a FORWARD-TSN was not acknowledged for a second, or by the SACKs that came
abbrev pub reason_of : Option Arrived → Option Passed → ℕ → Option Time → Reason
reason_of (Some arrived) forward sacks time = reasons.Window arrived
reason_of None (Some passed) sacks time =
    if is_long passed.arrived.time time then reasons.Forward passed.arrived else reason_by sacks
reason_of None None sacks time = reason_by sacks

-- a stall that ends at a time: a second or more lies between
abbrev pub IsStall : Wait → Option Time → Stall → Type 0
IsStall w time s =
    (from : Time) × (to : Time) × (w.since ≡ Some s.since) × (s.since.time ≡ Some from)
    × (time ≡ Some to) × (s.length.is_before ≡ false)
    × (total_of from + s.length.nanoseconds ≡ total_of to)
    × (1000000000 ≤ s.length.nanoseconds) × (s.reason ≡ reason_of w.zero w.forward w.sacks time)

-- one record, or another one where there is none
abbrev pub first_of : Option Arrived → Arrived → Option Arrived
first_of None other = Some other
first_of (Some one) other = Some one

-- ---- what is waited for

-- behind a chunk that is sent: that is waited for, if nothing was
abbrev pub after_sent : Wait → Arrived → Wait
after_sent w arrived =
    record {
      since = first_of w.since arrived;
      zero = w.zero;
      forward = w.forward;
      sacks = if is_some w.since then w.sacks else 0;
    }

-- the record of the first FORWARD-TSN that is not acknowledged
abbrev pub first_forward : Option Passed → Arrived → Arrived
first_forward None arrived = arrived
first_forward (Some passed) arrived = passed.arrived

-- behind a FORWARD-TSN
abbrev pub after_forward : Wait → ℕ → Arrived → Wait
after_forward w tsn arrived =
    record {
      since = first_of w.since arrived;
      zero = w.zero;
      forward = Some (record { tsn = tsn; arrived = first_forward w.forward arrived });
      sacks = if is_some w.since then w.sacks else 0;
    }

-- a SACK ends the waiting that acknowledges something new, or opens a window that was 0
abbrev pub ends_with : Wait → Report → Bool
ends_with w r = r.is_progress || (is_some w.zero && nat_lt 0 r.credit)

abbrev pub since_after : Wait → Report → Arrived → Option Arrived
since_after w r arrived =
    if is_some w.since && not (ends_with w r) then w.since
    else if r.has_more || (r.credit == 0) then Some arrived
    else None

abbrev pub forward_left : Option Passed → ℕ → Option Passed
forward_left None tsn = None
forward_left (Some passed) tsn = if at_or_before passed.tsn tsn then None else Some passed

-- behind a SACK of a record
abbrev pub after_sack : Wait → Report → Arrived → Wait
after_sack w r arrived =
    record {
      since = since_after w r arrived;
      zero = if r.credit == 0 then first_of w.zero arrived else None;
      forward = forward_left w.forward r.tsn;
      sacks = if ends_with w r then 0 else counted w.sacks 1;
    }
