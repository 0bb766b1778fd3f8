-- Counters of messages.
use Rattle.std.specs.Prelude.{ℕ, ◌+◌, ◌-◌, ◌^◌, min, Option, Some, None}
use Rattle.sctp_stream.specs.declared.stream.DataChannelStats.{DataChannelStats}

-- a count of so many more, up to the greatest number of 64 bits
abbrev pub count_up : ℕ → ℕ → ℕ
count_up n more = min (n + more) (2 ^ 64 - 1)

abbrev pub with_sent : Option ℕ → DataChannelStats → DataChannelStats
with_sent None s = s
with_sent (Some bytes) s =
    record s {
      messages_sent = count_up s.messages_sent 1;
      bytes_sent = count_up s.bytes_sent bytes;
    }

abbrev pub with_received : Option ℕ → DataChannelStats → DataChannelStats
with_received None s = s
with_received (Some bytes) s =
    record s {
      messages_received = count_up s.messages_received 1;
      bytes_received = count_up s.bytes_received bytes;
    }
