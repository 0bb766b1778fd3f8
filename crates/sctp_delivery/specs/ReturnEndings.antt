-- Calls that end a session of a sender that keeps what gap ack blocks report exist (RFC 4960 6.2, 6.2.1, 6.3.3; RFC 3758 3.5, 3.6).
use Rattle.std.specs.Prelude.{◌≡◌, ℕ, ◌+◌, ◌*◌, ◌^◌, ◌<◌, ◌≤◌, true, List, [], ◌∷◌, length, Option, Some, None}
use Rattle.std.specs.List.{list_all}
use Rattle.sctp_data.specs.SelectiveAck.{Sack}
use Rattle.sctp_receiver.specs.declared.receiver.limits.Limits.{Limits}
use Rattle.sctp_sender.specs.declared.sender.Reported.{Reported}
use Rattle.sctp_delivery.specs.Abandoned.{EachOtherIsReadOnce}
use Rattle.sctp_delivery.specs.Complete.{EachIsReadOnce, is_exhausted}
use Rattle.sctp_delivery.specs.Ending.{chunks_waiting, is_delivery, takes_each_of}
use Rattle.sctp_delivery.specs.Returns.{CallOrReturn, RunsWithReturns, abandoned_so, at_start_with, makes, other_calls, takes_back, tsns_given_so}
use Rattle.sctp_delivery.specs.Rounds.{chunks_left}
use Rattle.sctp_delivery.specs.SenderCalls.{takes_sack}
use Rattle.sctp_delivery.specs.Session.{Call, Session, bytes_written, of_sender}

-- P of the messages that were abandoned and of the session, after each session that leaves a TSN for each chunk that waits: with
-- these, fewer than 2^31 are given out; and in which fewer than 2^64 bytes were written. The first TSN is a number of 32 bits, and
-- fragments have some bytes
abbrev pub AfterEachWithReturnsAndTsnsLeft : (List ℕ → Session → Type 0) → Type 0
AfterEachWithReturnsAndTsnsLeft P =
    (reported : Reported) (tsn size max most : ℕ) (limits : Option Limits)
    (calls : List CallOrReturn) (s : Session)
    (run : RunsWithReturns (at_start_with reported tsn size max most limits) calls s)
    → tsn < 2 ^ 32 → 0 < size
    → tsns_given_so (at_start_with reported tsn size max most limits) calls s run
    + chunks_waiting s.sending.sender < 2 ^ 31
    → bytes_written s < 2 ^ 64
    → P (abandoned_so (at_start_with reported tsn size max most limits) calls s run) s

-- ## Calls of `acked`

-- the SACK that a call takes
abbrev pub taken_by : Call → Option Sack
taken_by (of_sender (takes_sack sack gone)) = Some sack
taken_by call = None

-- the SACK by which something was taken back just now is taken next; and by any other that is taken, something was taken back just
-- before. So each SACK is taken as `acked` takes it
abbrev pub AreAckedAfter : Option Sack → List CallOrReturn → Type 0
AreAckedAfter last [] = last ≡ None
AreAckedAfter last (makes call ∷ cs) = (taken_by call ≡ last) × AreAckedAfter None cs
AreAckedAfter last (takes_back sack back ∷ cs) = (last ≡ None) × AreAckedAfter (Some sack) cs

-- ## The end

-- calls of delivery, one after another, none of which is refused for a reason, and by which each SACK is taken as `acked` takes it, lead
-- to where nothing waits, nothing is in flight, and nothing is to be read: each chunk that waited got a TSN, no more SACKs were made than
-- chunks were left, and no more than three times as many DATA chunks and FORWARD-TSNs; and each write was read exactly once, but for
-- messages that had been abandoned
pub record CanEndSo (now : ℕ) (gone : List ℕ) (s : Session) : Type 0 where
  pub calls : List CallOrReturn
  pub ended : Session
  pub run : RunsWithReturns s calls ended
  pub delivery : list_all (is_delivery now) (other_calls calls) ≡ true
  pub acked : AreAckedAfter None calls
  pub given : tsns_given_so s calls ended run ≡ chunks_waiting s.sending.sender
  pub written : ended.written ≡ s.written
  pub sacks : length ended.sacks ≤ length s.sacks + chunks_left s.sending.sender
  pub made : length ended.made ≤ length s.made + 3 * chunks_left s.sending.sender
  pub exhausted : is_exhausted ended.sending.sender ended.receiving.receiver ≡ true
  pub read : EachOtherIsReadOnce gone ended

-- so a session ends, at whatever moment, where the receiver takes one message after another
abbrev pub EndsWhereTakenSo : List ℕ → Session → Type 0
EndsWhereTakenSo gone s =
    takes_each_of s.sending.sender s.receiving.receiver ≡ true → (now : ℕ) → CanEndSo now gone s

-- and where no message had been abandoned, each write was read exactly once then
abbrev pub EndsWithAllReadSo : List ℕ → Session → Type 0
EndsWithAllReadSo gone s =
    gone ≡ [] → takes_each_of s.sending.sender s.receiving.receiver ≡ true
    → (now : ℕ) → (e : CanEndSo now gone s) × EachIsReadOnce e.ended
