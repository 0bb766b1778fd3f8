-- Two hosts that both send: a session each way, of the sender of one host and the receiver of the other.
use Rattle.std.specs.Prelude.{◌≡◌, ℕ, ◌^◌, ◌<◌, List, [], ◌∷◌, Option}
use Rattle.sctp_receiver.specs.declared.receiver.limits.Limits.{Limits}
use Rattle.sctp_sender.specs.declared.sender.Reported.{Reported}
use Rattle.sctp_delivery.specs.Modes.{AreReadAsWritten}
use Rattle.sctp_delivery.specs.Recent.{AreForwardsYoung, AreRecent, AreYoung}
use Rattle.sctp_delivery.specs.Sacks.{tsns_given}
use Rattle.sctp_delivery.specs.Returns.{CallOrReturn, FollowsOrReturns, RunsWithReturns, at_start_with, other_calls, tsns_given_so}
use Rattle.sctp_delivery.specs.Session.{Call, Follows, RunsTo, Session, at_start, bytes_written}

pub record Pair : Type 0 where
  pub forth : Session
  pub back : Session

-- a call of one of the two sessions: each host makes those of its sender in one, and those of its receiver in the other
pub data PairCall (C : Type 0) : Type 0 where
  goes : C → PairCall C
  comes : C → PairCall C

-- the other session stays as it is
abbrev pub PairFollows : {C : Type 0} → (C → Session → Session → Type 0)
    → PairCall C → Pair → Pair → Type 0
PairFollows F (goes call) old new = F call old.forth new.forth × (new.back ≡ old.back)
PairFollows F (comes call) old new = F call old.back new.back × (new.forth ≡ old.forth)

-- in any order
abbrev pub PairRunsTo : {C : Type 0} → (C → Session → Session → Type 0)
    → Pair → List (PairCall C) → Pair → Type 0
PairRunsTo F old [] new = new ≡ old
PairRunsTo F old (c ∷ cs) new = (mid : Pair) × (PairFollows F c old mid × PairRunsTo F mid cs new)

-- the calls of each session
abbrev pub going : {C : Type 0} → List (PairCall C) → List C
going [] = []
going (goes call ∷ cs) = call ∷ going cs
going (comes call ∷ cs) = going cs

abbrev pub coming : {C : Type 0} → List (PairCall C) → List C
coming [] = []
coming (goes call ∷ cs) = coming cs
coming (comes call ∷ cs) = call ∷ coming cs

-- how a session begins: its first TSN, a number of 32 bits, the size of fragments, which have some bytes, the greatest sizes of messages
-- that are sent and taken, and the limits of the receiver
pub record Beginning : Type 0 where
  pub tsn : ℕ
  pub size : ℕ
  pub max : ℕ
  pub most : ℕ
  pub limits : Option Limits
  pub small : tsn < 2 ^ 32
  pub some : 0 < size

abbrev pub begun : Beginning → Session
begun b = at_start b.tsn b.size b.max b.most b.limits

abbrev pub both_begun : Beginning → Beginning → Pair
both_begun a b = record { forth = begun a; back = begun b }

-- however the calls of both hosts follow one another, those of each way alone are a session
abbrev pub EachWayIsASession : Type 0
EachWayIsASession =
    (a b : Beginning) (calls : List (PairCall Call)) (p : Pair)
    → PairRunsTo Follows (both_begun a b) calls p
    → RunsTo (begun a) (going calls) p.forth × RunsTo (begun b) (coming calls) p.back

-- so what is read both ways is what was written, where each way gives out fewer than 2^31 TSNs
abbrev pub AreReadBothWays : Type 0
AreReadBothWays =
    (a b : Beginning) (calls : List (PairCall Call)) (p : Pair)
    → PairRunsTo Follows (both_begun a b) calls p
    → ((r : RunsTo (begun a) (going calls) p.forth)
    → tsns_given (begun a) (going calls) p.forth r < 2 ^ 31)
    → ((r : RunsTo (begun b) (coming calls) p.back)
    → tsns_given (begun b) (coming calls) p.back r < 2 ^ 31)
    → AreReadAsWritten (going calls) p.forth × AreReadAsWritten (coming calls) p.back

-- and in a whole life, while each way nothing is handed over or held that is 2^31 TSNs old
abbrev pub AreReadBothWaysWhileYoung : Type 0
AreReadBothWaysWhileYoung =
    (a b : Beginning) (calls : List (PairCall Call)) (p : Pair)
    → PairRunsTo Follows (both_begun a b) calls p
    → ((r : RunsTo (begun a) (going calls) p.forth)
    → AreRecent (begun a) (going calls) p.forth r
    × AreYoung [] (begun a) (going calls) p.forth r
    × AreForwardsYoung [] (begun a) (going calls) p.forth r)
    → ((r : RunsTo (begun b) (coming calls) p.back)
    → AreRecent (begun b) (coming calls) p.back r
    × AreYoung [] (begun b) (coming calls) p.back r
    × AreForwardsYoung [] (begun b) (coming calls) p.back r)
    → AreReadAsWritten (going calls) p.forth × AreReadAsWritten (coming calls) p.back

-- ## Where senders keep what gap ack blocks report

-- the sender keeps that, or not
abbrev pub begun_with : Reported → Beginning → Session
begun_with reported b = at_start_with reported b.tsn b.size b.max b.most b.limits

abbrev pub both_begun_with : Reported → Reported → Beginning → Beginning → Pair
both_begun_with r q a b = record { forth = begun_with r a; back = begun_with q b }

-- those of each way are a session then too
abbrev pub EachWayIsASessionSo : Type 0
EachWayIsASessionSo =
    (r q : Reported) (a b : Beginning) (calls : List (PairCall CallOrReturn)) (p : Pair)
    → PairRunsTo FollowsOrReturns (both_begun_with r q a b) calls p
    → RunsWithReturns (begun_with r a) (going calls) p.forth
    × RunsWithReturns (begun_with q b) (coming calls) p.back

-- so what is read both ways is what was written, where each way gives out fewer than 2^31 TSNs, and writes fewer than 2^64 bytes
abbrev pub AreReadBothWaysSo : Type 0
AreReadBothWaysSo =
    (r q : Reported) (a b : Beginning) (calls : List (PairCall CallOrReturn)) (p : Pair)
    → PairRunsTo FollowsOrReturns (both_begun_with r q a b) calls p
    → ((run : RunsWithReturns (begun_with r a) (going calls) p.forth)
    → tsns_given_so (begun_with r a) (going calls) p.forth run < 2 ^ 31)
    → ((run : RunsWithReturns (begun_with q b) (coming calls) p.back)
    → tsns_given_so (begun_with q b) (coming calls) p.back run < 2 ^ 31)
    → bytes_written p.forth < 2 ^ 64 → bytes_written p.back < 2 ^ 64
    → AreReadAsWritten (other_calls (going calls)) p.forth
    × AreReadAsWritten (other_calls (coming calls)) p.back
