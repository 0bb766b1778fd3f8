-- What leaves, and what that makes of cwnd and of a burst (RFC 9260 6.1 A, B, D, 6.3.3 E3, 7.2.1, 7.2.3, 7.2.4). Amounts are bytes.
use Rattle.std.specs.Prelude.{◌≡◌, ◌⊎◌, ℕ, zero, suc, ◌<◌, ◌==◌, Bool, true, false, not, ◌&&◌, ◌||◌, if◌then◌else◌, [], length, find, is_some}
use Rattle.std.specs.Prelude.{Option, None, Some, Result, Ok, Err}
use Rattle.sctp_association.specs.declared.association.Association.{Association}
use Rattle.sctp_association.specs.declared.fault.Fault.{Fault}
use Rattle.sctp_association.specs.declared.outbound.Outbound.{Outbound}
use Rattle.sctp_association.specs.Idle.{in_flight}
use Rattle.sctp_association.specs.Runs.{Sends}
use Rattle.sctp_association.specs.Sending.{base_of, flight_of, idle_times, is_early, is_later, is_none_of, lowered_times, marked_in}
use Rattle.sctp_association.specs.Sending.{may_drop, may_send_again, may_send_next, sent_at}
use Rattle.sctp_data.specs.declared.chunk.chunk_payload_data.ChunkPayloadData.{ChunkPayloadData}
use Rattle.sctp_outbound.specs.pending_queue.PendingQueue.{chunk_count, next_pending}
use Rattle.sctp_path.specs.Congestion.{Control, after_resending, after_timeout}
use Rattle.sctp_path.specs.Rto.{Timeout, smoothed_of}
use Rattle.sctp_sender.specs.Resending.{all_marked, is_to_resend, resent_at}
use Rattle.sctp_sender.specs.Sender.{Transmission, after_send, with_flight}
use Rattle.sctp_stream.specs.Stats.{count_up}

-- What is sent, cwnd, and the peer's window; and how many chunks may be in flight. When DATA left last, how often it left again, whether fast
-- retransmission begins, whether a FORWARD-TSN is due, and when T3-rtx expired last. What the burst began with that is under way, and when nothing
-- more left in it
pub record Path : Type 0 where
  pub sender : Transmission
  pub congestion : Control
  pub peer_window : ℕ
  pub most : ℕ
  pub used : ℕ
  pub resent : ℕ
  pub fast : Bool
  pub skip : Bool
  pub timed_out : ℕ
  pub burst : Option ℕ
  pub paused : Option ℕ

abbrev pub path_of : Outbound → Path
path_of o = record {
  sender = o.sender;
  congestion = o.congestion;
  peer_window = o.peer_window;
  most = o.most_in_flight;
  used = o.used;
  resent = o.resent;
  fast = o.is_fast;
  skip = o.is_skip_due;
  timed_out = o.timed_out;
  burst = o.burst;
  paused = o.paused;
}

-- nothing left, and the RTO is as it was
pub record IsAsFull (old new : Outbound) : Type 0 where
  pub path : path_of new ≡ path_of old
  pub rto : new.rto ≡ old.rto

-- so many steps, one after another
abbrev pub Repeats : (Path → Path → Type 0) → ℕ → Path → Path → Type 0
Repeats Step zero old new = new ≡ old
Repeats Step (suc n) old new = (mid : Path) × Repeats Step n old mid × Step mid new

-- where T3-rtx expires all that is in flight is to be sent again, and a FORWARD-TSN is due. cwnd is one packet, and a burst is over (6.3.3 E1, E3)
abbrev pub expired_at : (now : ℕ) → (expired : Bool) → Path → Path
expired_at now false p = p
expired_at now true p = record p {
  sender = with_flight (all_marked p.sender.flight) p.sender;
  congestion = after_timeout p.congestion;
  skip = true;
  timed_out = now;
  burst = None;
}

-- ## What leaves again

-- the first chunk that is marked leaves, and is marked no more. One packet of these begins fast retransmission (7.2.4)
pub record LeavesAgain (now : ℕ) (old new : Path) : Type 0 where
  pub chunk : ChunkPayloadData
  pub marked : find is_to_resend (in_flight old.sender) ≡ Some chunk
  pub after : new ≡ record old {
    sender = with_flight (resent_at chunk.tsn now chunk old.sender.flight) old.sender;
    congestion = after_resending old.congestion.undo old.congestion;
    used = now;
    resent = count_up old.resent 1;
    fast = false;
  }

-- DATA may leave again, of a packet that begins as so many bytes are outstanding: so does fast retransmission, or at most cwnd is outstanding
-- (6.3.3 E3)
abbrev pub may_again : (now : ℕ) → Timeout → (fast : Bool) → (flight : ℕ) → Path → Bool
may_again now rto fast flight p = may_send_again fast (is_early flight now p.timed_out
    (smoothed_of rto.trips) (sent_at (find is_to_resend (in_flight p.sender)))) flight p.congestion

-- so many leave again, if they may
pub record Resends (now : ℕ) (rto : Timeout) (fast : Bool) (flight : ℕ)
    (old new : Path) : Type 0 where
  pub count : ℕ
  pub each : Repeats (LeavesAgain now) count old new
  pub may : 0 < count → may_again now rto fast flight old ≡ true

-- nothing leaves, or one chunk does again, if it may
abbrev pub StaysOrAgain : (now : ℕ) → (may : Bool) → (old new : Path) → Type 0
StaysOrAgain now may old new = (new ≡ old) ⊎ ((may ≡ true) × LeavesAgain now old new)

-- ## What leaves for the first time

-- a burst begins with what is outstanding, and goes on while something is
abbrev pub base_at : ℕ → Option ℕ → ℕ
base_at flight burst = if flight == 0 then 0 else base_of flight burst

-- the first chunk that waits leaves. It has room: it is alone, or both windows and the burst have room for it (6.1 A, B, D)
pub record LeavesNew (now : ℕ) (old new : Path) : Type 0 where
  pub chunk : ChunkPayloadData
  pub front : next_pending old.sender.flight.queue.pending ≡ Some chunk
  pub room : may_send_next (length chunk.user_data) old.most old.peer_window old.burst
      old.congestion (in_flight old.sender) ≡ true
  pub after : new ≡ record old {
    sender = after_send now old.sender;
    used = now;
    burst = Some (base_at (flight_of (in_flight old.sender)) old.burst);
  }

-- nothing leaves, or one chunk that waits
abbrev pub StaysOrLeaves : (now : ℕ) → (old new : Path) → Type 0
StaysOrLeaves now old new = (new ≡ old) ⊎ LeavesNew now old new

-- a moment later than that at which nothing more left begins another burst
abbrev pub with_burst : ℕ → Path → Path
with_burst now p = if is_later now p.paused then record p { burst = None; paused = None } else p

-- how many RTOs have passed since DATA left last, or since cwnd fell for idle RTOs
abbrev pub idle_at : ℕ → Timeout → Path → ℕ
idle_at now rto p = idle_times now p.used rto.rto

-- where some have passed they count no more
abbrev pub used_after : (now times : ℕ) → ℕ → ℕ
used_after now zero used = used
used_after now (suc n) used = now

-- while nothing is in flight cwnd falls, once for each (7.2.1)
abbrev pub idled : ℕ → Timeout → Path → Path
idled now rto p = if is_none_of (in_flight p.sender) then record p {
  congestion = lowered_times (idle_at now rto p) p.congestion;
  used = used_after now (idle_at now rto p) p.used;
} else p

-- as what waits may leave, or may not
abbrev pub begun : (now : ℕ) → Timeout → Bool → Path → Path
begun now rto true p = idled now rto (with_burst now p)
begun now rto false p = with_burst now p

-- So many chunks leave that wait: none while a chunk in flight is marked to be sent again (6.1 C).
pub record SendsNew (now : ℕ) (rto : Timeout) (old new : Path) : Type 0 where
  pub goes : Bool
  pub waits : goes ≡ true → 0 < chunk_count old.sender.flight.queue.pending
  pub clear : goes ≡ true → marked_in old.sender ≡ 0
  pub count : ℕ
  pub held : goes ≡ false → count ≡ 0
  pub each : Repeats (LeavesNew now) count (begun now rto goes old) new

-- ## What a call sends

-- what there was to skip was told, or nothing was
abbrev pub told_at : Bool → Path → Path
told_at true p = record p { skip = false }
told_at false p = p

-- first a FORWARD-TSN, then what leaves again, then what waits
pub record LeavesFrom (now : ℕ) (rto : Timeout) (old new : Path) : Type 0 where
  pub told : Bool
  pub mid : Path
  pub again : Resends now rto old.fast (flight_of (in_flight old.sender)) (told_at told old) mid
  pub left : (new ≡ mid) ⊎ SendsNew now rto mid new

-- and the RTO stays
pub record LeavesWithin (now : ℕ) (old new : Outbound) : Type 0 where
  pub path : LeavesFrom now old.rto (path_of old) (path_of new)
  pub rto : new.rto ≡ old.rto

-- there is no datagram
abbrev pub is_unsent : Result Bool Fault → Bool
is_unsent (Ok sent) = not sent
is_unsent (Err e) = false

-- so it is of an association that goes on with a peer that is known
abbrev pub pauses : Result Bool Fault → Association → Bool
pauses result a = not a.is_over && (is_some a.machine.peer && is_unsent result)

-- where nothing more leaves at this moment the time to send is over
abbrev pub ended : (now : ℕ) → Bool → Path → Path
ended now true p = record p { paused = Some now }
ended now false p = p

-- so it may be over, behind what left
pub record PausesFrom (now : ℕ) (ends : Bool) (rto : Timeout) (old new : Path) : Type 0 where
  pub last : Path
  pub left : LeavesFrom now rto old last
  pub paused : new ≡ ended now ends last

pub record PausesWithin (now : ℕ) (ends : Bool) (old new : Outbound) : Type 0 where
  pub path : PausesFrom now ends old.rto (path_of old) (path_of new)
  pub rto : new.rto ≡ old.rto

-- so it is behind calls that abandon, and make no chunk
pub record SendsWithin (now : ℕ) (ends : Bool) (old new : Outbound) : Type 0 where
  pub kept : Transmission
  pub skip : Bool
  pub dropped : Sends [] old.sender kept
  pub due : skip ≡ true → may_drop now old.sender || old.is_skip_due ≡ true
  pub path : PausesFrom now ends old.rto (record (path_of old) { sender = kept; skip = skip })
      (path_of new)
  pub rto : new.rto ≡ old.rto
