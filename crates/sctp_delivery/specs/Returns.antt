-- Sessions of a sender that keeps what gap ack blocks report, so that a later SACK can take that back (RFC 9260 6.2.1 D iv).
use Rattle.std.specs.Prelude.{◌≡◌, ⊤, ℕ, ◌+◌, ◌^◌, ◌<◌, List, [], ◌∷◌, ◌++◌, length, All, Contains, Option, None, IfSome}
use Rattle.std.specs.List.{sum_by}
use Rattle.sctp_data.specs.PayloadData.{Data}
use Rattle.sctp_data.specs.SelectiveAck.{Sack}
use Rattle.sctp_util.specs.Serial.{distance}
use Rattle.sctp_receiver.specs.declared.receiver.limits.Limits.{Limits}
use Rattle.sctp_sender.specs.declared.sender.Reported.{Reported}
use Rattle.sctp_sender.specs.declared.sender.flight.kept.TakenBack.{TakenBack}
use Rattle.sctp_sender.specs.declared.sender.flight.Released.{Released}
use Rattle.sctp_sender.specs.Keeping.{bytes_back}
use Rattle.sctp_sender.specs.Sender.{Transmission, after_take_back, stream_of, take_back_refusal, taken_back_by, with_nothing, with_reported}
use Rattle.sctp_sender.specs.SenderRuns as sender_runs
use Rattle.sctp_sender.specs.SenderRuns.{held_by_sender}
use Rattle.sctp_delivery.specs.Abandoned.{abandoned_by}
use Rattle.sctp_delivery.specs.Amounts.{bytes_for, told_on, written_on}
use Rattle.sctp_delivery.specs.SenderCalls.{TakesBackAndSack, data_chunk, takes_sack}
use Rattle.sctp_delivery.specs.Session.{Call, Follows, Session, at_start, bytes_written, count_in_flight, of_receiver, of_sender}

-- ## One call

-- a call of a session, or the sender's `take_back`, with what it answers
pub data CallOrReturn : Type 0 where
  makes : Call → CallOrReturn
  takes_back : Sack → List TakenBack → CallOrReturn

-- what the SACK no longer reports is outstanding again. The receiver made the SACK, and stays as it is
pub record TakesBack (sack : Sack) (back : List TakenBack) (old new : Session) : Type 0 where
  pub handed : Contains old.sacks sack
  pub step : sender_runs.Follows (sender_runs.takes_back back) old.sending new.sending
  pub exact : new.sending.sender ≡ after_take_back sack old.sending.sender
  pub accepted : take_back_refusal sack old.sending.sender ≡ None
  pub answered : back ≡ taken_back_by sack old.sending.sender
  pub after : new ≡ record {
    sending = new.sending;
    receiving = old.receiving;
    made = old.made;
    sacks = old.sacks;
    written = old.written;
  }

abbrev pub FollowsOrReturns : CallOrReturn → Session → Session → Type 0
FollowsOrReturns (makes call) old new = Follows call old new
FollowsOrReturns (takes_back sack back) old new = TakesBack sack back old new

-- ## Calls one after another, in any order

abbrev pub RunsWithReturns : Session → List CallOrReturn → Session → Type 0
RunsWithReturns old [] new = new ≡ old
RunsWithReturns old (c ∷ cs) new =
    (mid : Session) × (FollowsOrReturns c old mid × RunsWithReturns mid cs new)

-- so many TSNs were given out
abbrev pub tsns_given_so : (old : Session) (calls : List CallOrReturn) (new : Session)
    → RunsWithReturns old calls new → ℕ
tsns_given_so old [] new run = 0
tsns_given_so old (c ∷ cs) new run =
    distance old.sending.sender.flight.next_tsn run.0.sending.sender.flight.next_tsn
    + tsns_given_so run.0 cs new run.1.1

-- the calls that other sessions have too: modes follow from these
abbrev pub other_calls : List CallOrReturn → List Call
other_calls [] = []
other_calls (makes call ∷ cs) = call ∷ other_calls cs
other_calls (takes_back sack back ∷ cs) = other_calls cs

-- the messages that calls abandoned or let expire
abbrev pub abandoned_so : (old : Session) (calls : List CallOrReturn) (new : Session)
    → RunsWithReturns old calls new → List ℕ
abandoned_so old [] new run = []
abandoned_so old (makes (of_sender call) ∷ cs) new run =
    abandoned_by call old.sending.sender ++ abandoned_so run.0 cs new run.1.1
abandoned_so old (makes (of_receiver call) ∷ cs) new run = abandoned_so run.0 cs new run.1.1
abandoned_so old (takes_back sack back ∷ cs) new run = abandoned_so run.0 cs new run.1.1

-- ## Sessions

-- both are new, and begin with the same TSN; the sender keeps what is reported, or not
abbrev pub at_start_with : Reported → ℕ → ℕ → ℕ → ℕ → Option Limits → Session
at_start_with reported tsn size max most limits = record (at_start tsn size max most limits) {
  sending = sender_runs.with_no_bytes (with_reported reported (with_nothing tsn size max));
}

-- P of the calls and of the session, after each such session
abbrev pub AfterEachWithReturns : (List CallOrReturn → Session → Type 0) → Type 0
AfterEachWithReturns P =
    (reported : Reported) (tsn size max most : ℕ) (limits : Option Limits)
    (calls : List CallOrReturn) (s : Session)
    → RunsWithReturns (at_start_with reported tsn size max most limits) calls s → P calls s

-- P of the first TSN, of how many TSNs were given out, of the messages that were abandoned, of the calls and of the session, after
-- each that gives out fewer than 2^31 TSNs, and in which fewer than 2^64 bytes were written; the first TSN is a number of 32 bits,
-- and fragments have some bytes
abbrev pub AfterEachWithReturnsOfFewTsns : (ℕ → ℕ → List ℕ → List CallOrReturn → Session → Type 0)
    → Type 0
AfterEachWithReturnsOfFewTsns P =
    (reported : Reported) (tsn size max most : ℕ) (limits : Option Limits)
    (calls : List CallOrReturn) (s : Session)
    (run : RunsWithReturns (at_start_with reported tsn size max most limits) calls s)
    → tsn < 2 ^ 32 → 0 < size
    → tsns_given_so (at_start_with reported tsn size max most limits) calls s run < 2 ^ 31
    → bytes_written s < 2 ^ 64
    → P tsn (tsns_given_so (at_start_with reported tsn size max most limits) calls s run)
    (abandoned_so (at_start_with reported tsn size max most limits) calls s run) calls s

-- after each call fewer than 2^31 are, as a `Sender` sees to it
abbrev pub AreFewInFlightSo : (old : Session) (calls : List CallOrReturn) (new : Session)
    → RunsWithReturns old calls new → Type 0
AreFewInFlightSo old [] new run = ⊤
AreFewInFlightSo old (c ∷ cs) new run =
    (count_in_flight run.0 < 2 ^ 31) × AreFewInFlightSo run.0 cs new run.1.1

-- P of the calls and of the session, after each in which so few are, however many TSNs were given out, and in which fewer than 2^64 bytes
-- were written; the first TSN is a number of 32 bits, and fragments have some bytes
abbrev pub AfterEachWithReturnsOfFewInFlight : (List CallOrReturn → Session → Type 0) → Type 0
AfterEachWithReturnsOfFewInFlight P =
    (reported : Reported) (tsn size max most : ℕ) (limits : Option Limits)
    (calls : List CallOrReturn) (s : Session)
    (run : RunsWithReturns (at_start_with reported tsn size max most limits) calls s)
    → tsn < 2 ^ 32 → 0 < size
    → AreFewInFlightSo (at_start_with reported tsn size max most limits) calls s run
    → bytes_written s < 2 ^ 64 → P calls s

-- ## Bytes

-- each byte that was written, or came back, waits, is in flight, or was released
abbrev pub IsAccountedSo : Session → Type 0
IsAccountedSo s =
    bytes_written s + s.sending.taken_back
    ≡ held_by_sender s.sending.sender + s.sending.released

-- ## Amounts

-- the bytes of a stream that come back
abbrev pub bytes_back_on : ℕ → List TakenBack → ℕ
bytes_back_on s back = sum_by (λ r. bytes_for s r.stream r.bytes) back

abbrev pub returned_by : ℕ → CallOrReturn → ℕ
returned_by s (makes call) = 0
returned_by s (takes_back sack back) = bytes_back_on s back

-- by all calls
abbrev pub returned_on : ℕ → List CallOrReturn → ℕ
returned_on s calls = sum_by (returned_by s) calls

-- the amount of each open stream, with what was told on it, is what was written on it and what came back
abbrev pub AmountsAreLeftSo : List CallOrReturn → Session → Type 0
AmountsAreLeftSo calls s =
    (stream : ℕ)
    → IfSome (stream_of stream s.sending.sender)
    (λ l. l.buffered_amount + told_on stream (other_calls calls)
    ≡ written_on stream (other_calls calls) + returned_on stream calls)

-- a chunk that comes back is one that was made, with this TSN, on this stream and of so many bytes
abbrev pub IsOfMade : Session → TakenBack → Type 0
IsOfMade s r =
    (d : Data) × Contains s.made (data_chunk d)
    × ((d.tsn ≡ r.tsn) × (d.stream_identifier ≡ r.stream) × (length d.user_data ≡ r.bytes))

-- whatever SACK comes next, each chunk that it takes back is told so
abbrev pub EachReturnIsTold : Session → Type 0
EachReturnIsTold s =
    (sack : Sack) (back : List TakenBack) (t : Session) → TakesBack sack back s t
    → All (IsOfMade s) back

-- ## A SACK

-- what no SACK that was made no longer reports would be refused now
abbrev pub NoneIsRefusedSo : Session → Type 0
NoneIsRefusedSo s =
    All (λ sack. take_back_refusal sack s.sending.sender ≡ None) s.sacks

-- after the call, where it answers this
abbrev pub after_return : Sack → List TakenBack → Session → Session
after_return sack back s = record s {
  sending = record s.sending {
    sender = after_take_back sack s.sending.sender;
    taken_back = s.sending.taken_back + bytes_back back;
  };
}

-- what is taken back, and the SACK: they lead to where the sender is this one
abbrev pub AreTwoCalls : Sack → List TakenBack → List Released → Session → Transmission → Type 0
AreTwoCalls sack back gone s new =
    TakesBack sack back s (after_return sack back s)
    × (t : Session) × Follows (of_sender (takes_sack sack gone)) (after_return sack back s) t
    × (t.sending.sender ≡ new)

-- what `acked` makes of the sender is two calls
abbrev pub EachAckedIsTwoCalls : Session → Type 0
EachAckedIsTwoCalls s =
    (sack : Sack) (back : List TakenBack) (gone : List Released) (new : Transmission)
    → Contains s.sacks sack → TakesBackAndSack sack back gone s.sending.sender new
    → AreTwoCalls sack back gone s new
