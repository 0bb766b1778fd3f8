-- What a peer acknowledges.
use Rattle.std.specs.Prelude.{ℕ, ◌+◌, ◌-◌, ◌^◌, ◌==◌, not, ◌||◌, min, if◌then◌else◌, List, [], length}
use Rattle.std.specs.List.{sum_by}
use Rattle.sctp_data.specs.SelectiveAck.{Sack}
use Rattle.sctp_path.specs.declared.congestion.Acknowledged.{Acknowledged}
use Rattle.sctp_path.specs.Congestion.{Control, after_sack}
use Rattle.sctp_sender.specs.declared.sender.flight.Released.{Released}
use Rattle.sctp_sender.specs.Sender.{Transmission}

-- what a SHUTDOWN acknowledges: all up to its TSN, and no gaps (RFC 9260 3.3.8)
abbrev pub without_blocks : ℕ → Sack
without_blocks tsn = record {
  cumulative_tsn_ack = tsn;
  advertised_receiver_window_credit = 0;
  gap_ack_blocks = [];
  duplicate_tsn = [];
}

-- the length of a DATA chunk, with its header of 16 bytes (RFC 9260 3.3.1); an abandoned one was not outstanding
abbrev pub size_of : Released → ℕ
size_of one = if one.bytes == 0 then 0 else one.bytes + 16

-- the total size of the DATA chunks that were outstanding and are acknowledged (RFC 9260 7.2.1)
abbrev pub size_acked : List Released → ℕ
size_acked released = min (sum_by size_of released) (2 ^ 64 - 1)

-- what cwnd grows by (7.2.1, 7.2.2): the cumulative TSN was that before, and so many bytes were outstanding
abbrev pub acked_by : (before flight : ℕ) → List Released → Transmission → Acknowledged
acked_by before flight released t = record {
  cumulative_tsn = t.flight.acked_tsn;
  advances = not (t.flight.acked_tsn == before);
  bytes = size_acked released;
  flight = flight;
  all = length t.flight.queue.inflight.chunks == 0;
}

-- nothing grows where the cumulative TSN stays, and no chunk is acknowledged anew
abbrev pub grown_by : Acknowledged → List Released → Control → Control
grown_by a released c = if a.advances || not (length released == 0) then after_sack a c else c
