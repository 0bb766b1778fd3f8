-- In which session of every call two hosts stand, and to which one each call leads.
use Rattle.std.specs.Prelude.{◌≡◌, ℕ, ◌+◌, ◌^◌, ◌<◌, ◌≤◌, List, [], ◌∷◌, ◌++◌, length, Contains, Option}
use Rattle.std.specs.List.{sum_by}
use Rattle.sctp_data.specs.SelectiveAck.{Sack}
use Rattle.sctp_receiver.specs.declared.receiver.limits.Limits.{Limits}
use Rattle.sctp_receiver.specs.Receiver.{Reception, at_first}
use Rattle.sctp_receiver.specs.ReceiverRuns as receiver_runs
use Rattle.sctp_sender.specs.declared.sender.Reported.{Reported}
use Rattle.sctp_sender.specs.declared.sender.flight.Released.{Released}
use Rattle.sctp_sender.specs.declared.sender.flight.kept.TakenBack.{TakenBack}
use Rattle.sctp_sender.specs.Sender.{Transmission, with_nothing, with_reported}
use Rattle.sctp_sender.specs.SenderRuns as sender_runs
use Rattle.sctp_delivery.specs.EveryCall.{AnyCall, FollowsAny, IsMadeChunk, IsMadeSack, IsReceiverTaken, IsSenderTaken, ReceiverOther, Restores, RunsAny}
use Rattle.sctp_delivery.specs.EveryCall.{SenderOther}
use Rattle.sctp_delivery.specs.EveryCall.{as_receiver_run, as_sender_run, makes, of_receiving, of_sending, takes_back, tsns_given_any}
use Rattle.sctp_delivery.specs.ReceiverCalls.{ReceiverCall, ReceiverMakes}
use Rattle.sctp_delivery.specs.Returns.{at_start_with}
use Rattle.sctp_delivery.specs.SenderCalls.{Made, SenderCall, SenderMakes, TakesBackAndSack, takes_sack, written_after}
use Rattle.sctp_delivery.specs.Session.{IsReported, IsSent, Session, bytes_written, of_receiver, of_sender}
use Rattle.sctp_delivery.specs.Stand.{most_given}

-- a session, how its hosts began, the calls that led to it, and what laws ask of these: the first TSN is a number of 32 bits, fragments
-- have some bytes, fewer than 2^31 TSNs were given out, and fewer than 2^64 bytes written
pub record StandAny : Type 0 where
  pub reported : Reported
  pub tsn : ℕ
  pub size : ℕ
  pub max : ℕ
  pub most : ℕ
  pub limits : Option Limits
  pub calls : List AnyCall
  pub session : Session
  pub run : RunsAny (at_start_with reported tsn size max most limits) calls session
  pub small : tsn < 2 ^ 32
  pub some : 0 < size
  pub few : tsns_given_any (at_start_with reported tsn size max most limits) calls session run
      < 2 ^ 31
  pub short : bytes_written session < 2 ^ 64

-- these two hosts stand there
pub record AreInAny (sender : Transmission) (receiver : Reception) (st : StandAny) : Type 0 where
  pub sends : st.session.sending.sender ≡ sender
  pub receives : st.session.receiving.receiver ≡ receiver

abbrev pub given_any : StandAny → ℕ
given_any st =
    tsns_given_any (at_start_with st.reported st.tsn st.size st.max st.most st.limits) st.calls
    st.session st.run

-- a call of the sender gives out one TSN at most, and any other none
abbrev pub most_given_any : AnyCall → ℕ
most_given_any (makes call) = most_given call
most_given_any (of_sending call) = 0
most_given_any (of_receiving call) = 0

-- one call leads from one to the other; all that was made can be handed over still
pub record StepsAny (call : AnyCall) (old new : StandAny) : Type 0 where
  pub step : FollowsAny call old.session new.session
  pub calls : new.calls ≡ old.calls ++ (call ∷ [])
  pub given : given_any new ≤ given_any old + most_given_any call
  pub made : (m : Made) → Contains old.session.made m → Contains new.session.made m
  pub sacks : (k : Sack) → Contains old.session.sacks k → Contains new.session.sacks k

-- from it a call leads to one in which these two stand
abbrev pub Leads : AnyCall → StandAny → Transmission → Reception → Type 0
Leads call st sender receiver =
    (next : StandAny) × AreInAny sender receiver next × StepsAny call st next

-- two new hosts that begin with the same TSN stand in a session
abbrev pub EachTwoBeginAny : Type 0
EachTwoBeginAny =
    (reported : Reported) (tsn size max most : ℕ) (limits : Option Limits)
    → tsn < 2 ^ 32 → 0 < size
    → (st : StandAny)
    × AreInAny (with_reported reported (with_nothing tsn size max)) (at_first tsn most limits) st
    × (st.calls ≡ []) × (given_any st ≡ 0)
    × (st.session ≡ at_start_with reported tsn size max most limits)

-- what a call of the sender makes of it is a step, where fewer than 2^64 bytes were written with it; a SACK is one that the receiver made
abbrev pub EachSenderCallStepsAny : Type 0
EachSenderCallStepsAny =
    (call : SenderCall) (old new : Transmission) (r : Reception) (st : StandAny)
    → AreInAny old r st → SenderMakes call old new → IsReported call st.session
    → given_any st + 1 < 2 ^ 31
    → sum_by (λ w. length w.bytes) (written_after call st.session.written) < 2 ^ 64
    → Leads (makes (of_sender call)) st new r

-- and what a call of the receiver makes of it; a chunk is one that the sender made
abbrev pub EachReceiverCallStepsAny : Type 0
EachReceiverCallStepsAny =
    (call : ReceiverCall) (old new : Reception) (t : Transmission) (st : StandAny)
    → AreInAny t old st → ReceiverMakes call old new → IsSent call st.session
    → Leads (makes (of_receiver call)) st t new

-- the sender closes or resets a stream, or takes back
abbrev pub EachSenderOtherStepsAny : Type 0
EachSenderOtherStepsAny =
    (call : SenderOther) (old new : Transmission) (r : Reception) (st : StandAny)
    → AreInAny old r st → sender_runs.Makes (as_sender_run call) old new → Restores call old new
    → IsSenderTaken call old → IsMadeSack call st.session → Leads (of_sending call) st new r

-- the receiver closes or resets a stream, drops a chunk, or passes over names of streams that are not open
abbrev pub EachReceiverOtherStepsAny : Type 0
EachReceiverOtherStepsAny =
    (call : ReceiverOther) (old new : Reception) (t : Transmission) (st : StandAny)
    → AreInAny t old st → receiver_runs.Makes (as_receiver_run call) old new
    → IsReceiverTaken call old → IsMadeChunk call st.session → Leads (of_receiving call) st t new

-- what `acked` makes of the sender is two steps: what the SACK takes back, and the SACK
abbrev pub EachAckedStepsAny : Type 0
EachAckedStepsAny =
    (sack : Sack) (back : List TakenBack) (gone : List Released) (old new : Transmission)
    (r : Reception) (st : StandAny) → AreInAny old r st
    → TakesBackAndSack sack back gone old new → Contains st.session.sacks sack
    → given_any st + 1 < 2 ^ 31
    → (mid : StandAny) × StepsAny (of_sending (takes_back sack back)) st mid
    × Leads (makes (of_sender (takes_sack sack gone))) mid new r
