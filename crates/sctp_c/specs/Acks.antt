-- A SACK that a caller in C hands in (RFC 4960 6.2.1).
use Rattle.std.specs.Prelude.{◌≡◌, ℕ, false, true, List, [], length, map, None}
use Rattle.sctp_chunks.specs.Wire.{sack_chunk}
use Rattle.sctp_data.specs.SelectiveAck.{Sack}
use Rattle.sctp_datagram.specs.Framing.{StartsWith}
use Rattle.sctp_sender.specs.declared.sender.flight.Released.{Released}
use Rattle.sctp_sender.specs.Flight.{is_outdated, released_by, sack_refusal}
use Rattle.sctp_sender.specs.Sender.{Transmission, after_acked, after_take_back, take_back_refusal, taken_back_by}
use Rattle.sctp_sender.specs.Thresholds.{with_lows}
use Rattle.sctp_c.specs.declared.sender.acks.SctpAcked.{SctpAcked}
use Rattle.sctp_c.specs.declared.sender.acks.SctpTakenBack.{SctpTakenBack}
use Rattle.sctp_c.specs.Out.{filled}
use Rattle.sctp_c.specs.Rows.{acked_row, taken_back_row}
use Rattle.sctp_c.specs.Sending.{IsSenderCode, sender_code_for}

-- the chunks that it reports anew, each with whether the amount of its stream falls with it
abbrev pub released_to : Sack → Transmission → List Released
released_to s t = with_lows (released_by s t.flight) t.streams

-- a SACK is not out of date, and is taken: a row tells of each chunk that it reports anew, as far as there is room
pub record Takes (sack : Sack) (rows_old rows_new : List SctpAcked) (count : ℕ)
    (old new : Transmission) : Type 0 where
  pub current : is_outdated sack old.flight ≡ false
  pub accepted : sack_refusal sack old.flight ≡ None
  pub rows : rows_new ≡ filled (map acked_row (released_to sack old)) rows_old
  pub size : count ≡ length (released_to sack old)
  pub after : new ≡ after_acked sack old

-- the bytes are a SACK, which is so taken
pub record TakesSack (bytes : List ℕ) (rows_old rows_new : List SctpAcked) (count : ℕ)
    (old new : Transmission) : Type 0 where
  pub sack : Sack
  pub reads : StartsWith bytes (sack_chunk sack)
  pub taken : Takes sack rows_old rows_new count old new

-- they are a SACK that is out of date: its cumulative TSN is before the last one that was acknowledged
pub record IsStale (bytes : List ℕ) (old : Transmission) : Type 0 where
  pub sack : Sack
  pub reads : StartsWith bytes (sack_chunk sack)
  pub outdated : is_outdated sack old.flight ≡ true

-- the SACK without gap ack blocks up to a TSN: so much a SHUTDOWN acknowledges (RFC 4960 3.3.8)
abbrev pub up_to : ℕ → Sack
up_to tsn = record {
  cumulative_tsn_ack = tsn;
  advertised_receiver_window_credit = 0;
  gap_ack_blocks = [];
  duplicate_tsn = [];
}

-- they are a SACK, which is refused
pub record RefusesSack (bytes : List ℕ) (code : ℕ) (old : Transmission) : Type 0 where
  pub sack : Sack
  pub reads : StartsWith bytes (sack_chunk sack)
  pub number : code ≡ sender_code_for (sack_refusal sack old.flight)

-- they are a SACK that is not out of date, and a row tells of each chunk that it takes back, as far as there is room
pub record TakesBack (bytes : List ℕ) (rows_old rows_new : List SctpTakenBack) (count : ℕ)
    (old new : Transmission) : Type 0 where
  pub sack : Sack
  pub reads : StartsWith bytes (sack_chunk sack)
  pub current : is_outdated sack old.flight ≡ false
  pub accepted : take_back_refusal sack old ≡ None
  pub rows : rows_new ≡ filled (map taken_back_row (taken_back_by sack old)) rows_old
  pub size : count ≡ length (taken_back_by sack old)
  pub after : new ≡ after_take_back sack old

-- they are a SACK, of which nothing is taken back
pub record RefusesTakeBack (bytes : List ℕ) (code : ℕ) (old : Transmission) : Type 0 where
  pub sack : Sack
  pub reads : StartsWith bytes (sack_chunk sack)
  pub number : IsSenderCode (take_back_refusal sack old) code
