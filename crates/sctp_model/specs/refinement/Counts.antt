-- The counters of a stream, whether it is open or not, and what a message adds to them.
use Rattle.std.specs.Prelude.{ℕ, ◌+◌, Bool, true, false, Option, Some, None}
use Rattle.sctp_model.specs.declared.event.Event.{Event}
use Rattle.sctp_model.specs.declared.event.Event.TheVariants as E
use Rattle.sctp_model.specs.LinkRecord.{LinkRecord}
use Rattle.sctp_model.specs.Amounts.{Counters, saturate, on_stream, message_count, counted_bytes, if_read}

abbrev pub is_write : Event → Bool
is_write (E.Write s ppi bytes) = true
is_write _ = false

abbrev pub is_read : Event → Bool
is_read (E.Read s) = true
is_read _ = false

-- what `counters_of` says of a stream where it is open
abbrev pub counters_on : LinkRecord → ℕ → Counters
counters_on w s =
    record {
      stream_identifier = s;
      generation = 0;
      messages_sent = saturate (on_stream w s (message_count w));
      bytes_sent = saturate (on_stream w s (counted_bytes w));
      messages_received = saturate (on_stream w s (if_read w (message_count w)));
      bytes_received = saturate (on_stream w s (if_read w (counted_bytes w)));
    }

-- the counters of a stream that has counted nothing
abbrev pub no_counters : ℕ → Counters
no_counters s =
    record {
      stream_identifier = s;
      generation = 0;
      messages_sent = 0;
      bytes_sent = 0;
      messages_received = 0;
      bytes_received = 0;
    }

-- a count of so many more, which stops at the greatest u64
abbrev pub count_more : ℕ → ℕ → ℕ
count_more n more = saturate (n + more)

-- one more message sent
abbrev pub sent_more : Option ℕ → Counters → Counters
sent_more None c = c
sent_more (Some bytes) c =
    record c {
      messages_sent = count_more c.messages_sent 1;
      bytes_sent = count_more c.bytes_sent bytes;
    }

-- one more message received
abbrev pub received_more : Option ℕ → Counters → Counters
received_more None c = c
received_more (Some bytes) c =
    record c {
      messages_received = count_more c.messages_received 1;
      bytes_received = count_more c.bytes_received bytes;
    }
