-- In which session two hosts stand, and to which one each call leads.
use Rattle.std.specs.Prelude.{◌≡◌, ℕ, ◌+◌, ◌^◌, ◌<◌, ◌≤◌, List, [], ◌∷◌, ◌++◌, length, Contains, Option, None}
use Rattle.std.specs.List.{sum_by}
use Rattle.sctp_data.specs.SelectiveAck.{Sack}
use Rattle.sctp_receiver.specs.declared.receiver.limits.Limits.{Limits}
use Rattle.sctp_receiver.specs.Receiver.{Reception, at_first}
use Rattle.sctp_sender.specs.declared.sender.Reported.{Reported}
use Rattle.sctp_sender.specs.declared.sender.flight.Released.{Released}
use Rattle.sctp_sender.specs.declared.sender.flight.kept.TakenBack.{TakenBack}
use Rattle.sctp_sender.specs.Sender.{Transmission, with_nothing, with_reported}
use Rattle.sctp_delivery.specs.ReceiverCalls.{ReceiverCall, ReceiverMakes}
use Rattle.sctp_delivery.specs.Returns.{CallOrReturn, FollowsOrReturns, RunsWithReturns, at_start_with, makes, takes_back, tsns_given_so}
use Rattle.sctp_delivery.specs.Sacks.{tsns_given}
use Rattle.sctp_delivery.specs.SenderCalls.{Made, SenderCall, SenderMakes, TakesBackAndSack, takes_sack, written_after}
use Rattle.sctp_delivery.specs.Session.{Call, Follows, IsReported, IsSent, RunsTo, Session, at_start, bytes_written, of_receiver, of_sender}

-- a session, how its hosts began, the calls that led to it, and what laws ask of these: the first TSN is a number of 32 bits, fragments
-- have some bytes, and fewer than 2^31 TSNs were given out
pub record Stand : Type 0 where
  pub tsn : ℕ
  pub size : ℕ
  pub max : ℕ
  pub most : ℕ
  pub limits : Option Limits
  pub calls : List Call
  pub session : Session
  pub run : RunsTo (at_start tsn size max most limits) calls session
  pub small : tsn < 2 ^ 32
  pub some : 0 < size
  pub few : tsns_given (at_start tsn size max most limits) calls session run < 2 ^ 31

-- these two hosts stand there
pub record AreIn (sender : Transmission) (receiver : Reception) (st : Stand) : Type 0 where
  pub sends : st.session.sending.sender ≡ sender
  pub receives : st.session.receiving.receiver ≡ receiver

-- how many TSNs were given out
abbrev pub given_in : Stand → ℕ
given_in st =
    tsns_given (at_start st.tsn st.size st.max st.most st.limits) st.calls st.session st.run

-- a call of the sender gives out one TSN at most, and one of the receiver none
abbrev pub most_given : Call → ℕ
most_given (of_sender call) = 1
most_given (of_receiver call) = 0

-- one call leads from one to the other; all that was made can be handed over still
pub record Steps (call : Call) (old new : Stand) : Type 0 where
  pub step : Follows call old.session new.session
  pub calls : new.calls ≡ old.calls ++ (call ∷ [])
  pub given : given_in new ≤ given_in old + most_given call
  pub made : (m : Made) → Contains old.session.made m → Contains new.session.made m
  pub sacks : (k : Sack) → Contains old.session.sacks k → Contains new.session.sacks k

-- two new hosts that begin with the same TSN stand in a session
abbrev pub EachTwoBegin : Type 0
EachTwoBegin =
    (tsn size max most : ℕ) (limits : Option Limits) → tsn < 2 ^ 32 → 0 < size
    → (st : Stand) × AreIn (with_nothing tsn size max) (at_first tsn most limits) st
    × (st.calls ≡ []) × (given_in st ≡ 0)
    × (st.session ≡ at_start tsn size max most limits)

-- what a call of the sender makes of it is a step, from wherever the two stand; a SACK is one that the receiver made
abbrev pub EachSenderCallSteps : Type 0
EachSenderCallSteps =
    (call : SenderCall) (old new : Transmission) (r : Reception) (st : Stand) → AreIn old r st
    → SenderMakes call old new → IsReported call st.session → given_in st + 1 < 2 ^ 31
    → (next : Stand) × AreIn new r next × Steps (of_sender call) st next

-- and what a call of the receiver makes of it; a chunk is one that the sender made
abbrev pub EachReceiverCallSteps : Type 0
EachReceiverCallSteps =
    (call : ReceiverCall) (old new : Reception) (t : Transmission) (st : Stand) → AreIn t old st
    → ReceiverMakes call old new → IsSent call st.session
    → (next : Stand) × AreIn t new next × Steps (of_receiver call) st next

-- of what is reported a sender that stands in a session keeps nothing
abbrev pub EachKeepsNothing : Type 0
EachKeepsNothing =
    (sender : Transmission) (receiver : Reception) (st : Stand) → AreIn sender receiver st
    → sender.kept ≡ None

-- ## Where the sender keeps what gap ack blocks report

-- such a session of a sender that keeps that, or not; fewer than 2^64 bytes were written, too
pub record StandSo : Type 0 where
  pub reported : Reported
  pub tsn : ℕ
  pub size : ℕ
  pub max : ℕ
  pub most : ℕ
  pub limits : Option Limits
  pub calls : List CallOrReturn
  pub session : Session
  pub run : RunsWithReturns (at_start_with reported tsn size max most limits) calls session
  pub small : tsn < 2 ^ 32
  pub some : 0 < size
  pub few : tsns_given_so (at_start_with reported tsn size max most limits) calls session run
      < 2 ^ 31
  pub short : bytes_written session < 2 ^ 64

pub record AreInSo (sender : Transmission) (receiver : Reception) (st : StandSo) : Type 0 where
  pub sends : st.session.sending.sender ≡ sender
  pub receives : st.session.receiving.receiver ≡ receiver

abbrev pub given_so : StandSo → ℕ
given_so st =
    tsns_given_so (at_start_with st.reported st.tsn st.size st.max st.most st.limits) st.calls
    st.session st.run

abbrev pub most_given_so : CallOrReturn → ℕ
most_given_so (makes call) = most_given call
most_given_so (takes_back sack back) = 0

pub record StepsSo (call : CallOrReturn) (old new : StandSo) : Type 0 where
  pub step : FollowsOrReturns call old.session new.session
  pub calls : new.calls ≡ old.calls ++ (call ∷ [])
  pub given : given_so new ≤ given_so old + most_given_so call
  pub made : (m : Made) → Contains old.session.made m → Contains new.session.made m
  pub sacks : (k : Sack) → Contains old.session.sacks k → Contains new.session.sacks k

abbrev pub EachTwoBeginSo : Type 0
EachTwoBeginSo =
    (reported : Reported) (tsn size max most : ℕ) (limits : Option Limits)
    → tsn < 2 ^ 32 → 0 < size
    → (st : StandSo)
    × AreInSo (with_reported reported (with_nothing tsn size max)) (at_first tsn most limits) st
    × (st.calls ≡ []) × (given_so st ≡ 0)
    × (st.session ≡ at_start_with reported tsn size max most limits)

-- a call of the sender, where fewer than 2^64 bytes were written with it
abbrev pub EachSenderCallStepsSo : Type 0
EachSenderCallStepsSo =
    (call : SenderCall) (old new : Transmission) (r : Reception) (st : StandSo) → AreInSo old r st
    → SenderMakes call old new → IsReported call st.session → given_so st + 1 < 2 ^ 31
    → sum_by (λ w. length w.bytes) (written_after call st.session.written) < 2 ^ 64
    → (next : StandSo) × AreInSo new r next × StepsSo (makes (of_sender call)) st next

abbrev pub EachReceiverCallStepsSo : Type 0
EachReceiverCallStepsSo =
    (call : ReceiverCall) (old new : Reception) (t : Transmission) (st : StandSo)
    → AreInSo t old st → ReceiverMakes call old new → IsSent call st.session
    → (next : StandSo) × AreInSo t new next × StepsSo (makes (of_receiver call)) st next

-- and what `acked` makes of the sender is two steps: what the SACK takes back, and the SACK
abbrev pub EachAckedStepsSo : Type 0
EachAckedStepsSo =
    (sack : Sack) (back : List TakenBack) (gone : List Released) (old new : Transmission)
    (r : Reception) (st : StandSo) → AreInSo old r st → TakesBackAndSack sack back gone old new
    → Contains st.session.sacks sack → given_so st + 1 < 2 ^ 31
    → (mid : StandSo) × StepsSo (takes_back sack back) st mid
    × (next : StandSo) × AreInSo new r next
    × StepsSo (makes (of_sender (takes_sack sack gone))) mid next
