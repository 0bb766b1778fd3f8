-- Two uses of a stream, one after the other: what is read of it from some moment on, and what was written on it from there on.
use Rattle.std.specs.Prelude.{◌≡◌, ℕ, ◌+◌, ◌^◌, ◌<◌, ◌≤◌, ◌==◌, true, List, ◌++◌, length, All, Contains, Option}
use Rattle.std.specs.List.{filter}
use Rattle.sctp_receiver.specs.declared.receiver.limits.Limits.{Limits}
use Rattle.sctp_receiver.specs.ReceiverRuns.{Message}
use Rattle.sctp_sender.specs.declared.sender.Reported.{Reported}
use Rattle.sctp_delivery.specs.EveryCall.{AnyCall, RunsAny, is_single, single_messages, tsns_given_any}
use Rattle.sctp_delivery.specs.InOrder.{written_to}
use Rattle.sctp_delivery.specs.Messages.{IsWrite}
use Rattle.sctp_delivery.specs.Returns.{at_start_with}
use Rattle.sctp_delivery.specs.SenderCalls.{Write}
use Rattle.sctp_delivery.specs.Session.{Session, bytes_written}

-- P of a session of every call, and of one to which it goes on: both together give out fewer than 2^31 TSNs, and fewer than 2^64 bytes are
-- written; the first TSN is a number of 32 bits, and fragments have some bytes
abbrev pub AfterEachThatGoesOn : (Session → Session → Type 0) → Type 0
AfterEachThatGoesOn P =
    (reported : Reported) (tsn size max most : ℕ) (limits : Option Limits)
    (calls later : List AnyCall) (s t : Session)
    (run : RunsAny (at_start_with reported tsn size max most limits) calls s)
    (on : RunsAny s later t) → tsn < 2 ^ 32 → 0 < size
    → tsns_given_any (at_start_with reported tsn size max most limits) calls s run
    + tsns_given_any s later t on < 2 ^ 31
    → bytes_written t < 2 ^ 64 → P s t

-- on the stream as many messages were read as were written: those of which no fragment but the first begins one
abbrev pub AreAsManyRead : ℕ → Session → Type 0
AreAsManyRead stream s =
    length (written_to stream s)
    ≤ length (filter (λ m. m.stream == stream) (single_messages s.receiving.read))

-- what was read and written from the first session to the second, the last one first: on the stream each such message is one of these writes
pub record ReadsItsOwn (stream : ℕ) (s t : Session) : Type 0 where
  pub read : List Message
  pub written : List Write
  pub read-on : t.receiving.read ≡ read ++ s.receiving.read
  pub written-on : t.written ≡ written ++ s.written
  pub each : All (λ m. m.stream ≡ stream → is_single m.fragments ≡ true
      → (w : Write) × Contains written w × IsWrite m w) read

-- so it is of each stream on which as many were read as were written before
abbrev pub EachLaterUseReadsItsOwn : Session → Session → Type 0
EachLaterUseReadsItsOwn s t = (stream : ℕ) → AreAsManyRead stream s → ReadsItsOwn stream s t
