-- What an association and its streams count.
use Rattle.std.specs.Prelude.{◌≡◌, ◌⊎◌, ◌≤◌, ℕ, Option, Some, None}
use Rattle.std.specs.Option.{option_map}
use Rattle.sctp_association.specs.declared.association.Association.{Association}
use Rattle.sctp_association.specs.declared.association.stats.Stats.{Stats}
use Rattle.sctp_association.specs.declared.inbound.Inbound.{Inbound}
use Rattle.sctp_association.specs.declared.outbound.Outbound.{Outbound}
use Rattle.sctp_association.specs.Held.{held_by}
use Rattle.sctp_outbound.specs.Outstanding.{outstanding_of}
use Rattle.sctp_outbound.specs.pending_queue.PendingQueue.{total_bytes}
use Rattle.sctp_receiver.specs.Counters.{stats_on}
use Rattle.sctp_sender.specs.Sender.{stream_of}
use Rattle.sctp_stream.specs.declared.stream.DataChannelStats.{DataChannelStats}

abbrev pub stats_of : Association → Stats
stats_of a = record {
  waiting = total_bytes a.outbound.sender.flight.queue.pending;
  outstanding = (outstanding_of a.outbound.sender.flight.queue.inflight.chunks).bytes;
  resent = a.outbound.resent;
  timeouts = a.outbound.timeouts;
  held = held_by a.inbound;
}

-- nothing more is counted
pub record IsCountedAlike (old new : Outbound) : Type 0 where
  pub resent : new.resent ≡ old.resent
  pub timeouts : new.timeouts ≡ old.timeouts

-- the limit of failures is the same, and the bounds of the RTO
abbrev pub HasLimitsOf : (old new : Outbound) → Type 0
HasLimitsOf old new =
    (new.failures.most ≡ old.failures.most) × (new.rto.limits ≡ old.rto.limits)

-- so of what is sent new: no failure is counted or forgotten either, and T3-rtx and the RTO stay
pub record CountsNone (old new : Outbound) : Type 0 where
  pub resent : new.resent ≡ old.resent
  pub timeouts : new.timeouts ≡ old.timeouts
  pub failures : new.failures ≡ old.failures
  pub rto : new.rto ≡ old.rto
  pub timer : new.timer ≡ old.timer

-- chunks may be sent again, and nothing else is counted
pub record IsCountedAlong (old new : Outbound) : Type 0 where
  pub resent : old.resent ≤ new.resent
  pub timeouts : new.timeouts ≡ old.timeouts
  pub failures : new.failures ≡ old.failures
  pub rto : new.rto ≡ old.rto

-- so it is, and T3-rtx may be stopped
pub record IsCountedOn (old new : Outbound) : Type 0 where
  pub along : IsCountedAlong old new
  pub timer : (new.timer.at ≡ old.timer.at) ⊎ (new.timer.at ≡ None)

-- ## A stream

abbrev pub read_on : ℕ → Option Inbound → Option DataChannelStats
read_on stream None = None
read_on stream (Some i) = stats_on stream i.receiver

-- what was sent is of the one side, what was read of the other; of a side on which it is not open there is nothing
abbrev pub both_ways : Option DataChannelStats → Option DataChannelStats → Option DataChannelStats
both_ways None read = read
both_ways (Some sent) None = Some sent
both_ways (Some sent) (Some read) = Some (record sent {
  messages_received = read.messages_received;
  bytes_received = read.bytes_received;
})

abbrev pub stream_stats_of : ℕ → Association → Option DataChannelStats
stream_stats_of stream a =
    both_ways (option_map (λ l. l.stats) (stream_of stream a.outbound.sender)) (read_on stream a.inbound)
