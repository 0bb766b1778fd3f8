-- Two hosts: one sends, one receives, and a network between them loses, delays, repeats and reorders what they make.
use Rattle.std.specs.Prelude.{◌≡◌, ⊤, ℕ, ◌+◌, List, [], ◌∷◌, length, All, Contains, Option}
use Rattle.std.specs.List.{sum_by}
use Rattle.sctp_data.specs.PayloadData.{data_of}
use Rattle.sctp_data.specs.SelectiveAck.{Sack}
use Rattle.sctp_receiver.specs.declared.receiver.limits.Limits.{Limits}
use Rattle.sctp_receiver.specs.ReceiverRuns as receiver_runs
use Rattle.sctp_receiver.specs.ReceiverRuns.{AreComplete, AreOfOneMessage, Stand}
use Rattle.sctp_sender.specs.SenderRuns as sender_runs
use Rattle.sctp_sender.specs.SenderRuns.{Ledger, held_by_sender}
use Rattle.sctp_delivery.specs.ReceiverCalls as incoming
use Rattle.sctp_delivery.specs.ReceiverCalls.{ReceiverCall, follows, forgets, makes_sack, opens, reads, reports, reports_after, reports_within, takes}
use Rattle.sctp_delivery.specs.SenderCalls as outgoing
use Rattle.sctp_delivery.specs.SenderCalls.{Made, MakesExactly, SenderCall, Write, data_chunk, forward_tsn, made_after, takes_sack, written_after}

-- the sender of one host, with how many bytes were written and released; the receiver of the other, with the chunks that it took
-- as new and the messages that were read; what the sender made, the SACKs that the receiver made, and what was written. Each list
-- has the last one first
pub record Session : Type 0 where
  pub sending : Ledger
  pub receiving : Stand
  pub made : List Made
  pub sacks : List Sack
  pub written : List Write

-- ## One call

-- a call of either host. Left out are those that docs/CONTRACTS.md names, `close`, `reset`, `discard`, `restore` and `take_back`
-- among them
pub data Call : Type 0 where
  of_sender : SenderCall → Call
  of_receiver : ReceiverCall → Call

-- the network hands the sender a SACK only where the receiver made it, at whatever time and however often
abbrev pub IsReported : SenderCall → Session → Type 0
IsReported (takes_sack sack gone) s = Contains s.sacks sack
IsReported _ s = ⊤

-- and the receiver a chunk only where the sender made it
abbrev pub IsSent : ReceiverCall → Session → Type 0
IsSent (takes c arrival) s = Contains s.made (data_chunk (data_of c))
IsSent (follows f) s = Contains s.made (forward_tsn f)
IsSent (opens stream) s = ⊤
IsSent (reports credit) s = ⊤
IsSent (reports_within credit bytes) s = ⊤
IsSent (makes_sack credit bytes) s = ⊤
IsSent forgets s = ⊤
IsSent (reads stream) s = ⊤

-- a call of the sender: the receiver stays as it is
pub record SenderFollows (call : SenderCall) (old new : Session) : Type 0 where
  pub handed : IsReported call old
  pub step : sender_runs.Follows (outgoing.as_run call) old.sending new.sending
  pub exact : MakesExactly call old.sending.sender new.sending.sender
  pub accepted : outgoing.IsAccepted call old.sending.sender
  pub answered : outgoing.Answers call old.sending.sender
  pub after : new ≡ record {
    sending = new.sending;
    receiving = old.receiving;
    made = made_after call old.sending.sender old.made;
    sacks = old.sacks;
    written = written_after call old.written;
  }

-- a call of the receiver: the sender stays as it is
pub record ReceiverFollows (call : ReceiverCall) (old new : Session) : Type 0 where
  pub handed : IsSent call old
  pub step : receiver_runs.Follows (incoming.as_run call) old.receiving new.receiving
  pub accepted : incoming.IsAccepted call old.receiving.receiver
  pub after : new ≡ record {
    sending = old.sending;
    receiving = new.receiving;
    made = old.made;
    sacks = reports_after call old.receiving.receiver old.sacks;
    written = old.written;
  }

abbrev pub Follows : Call → Session → Session → Type 0
Follows (of_sender call) old new = SenderFollows call old new
Follows (of_receiver call) old new = ReceiverFollows call old new

-- ## Calls one after another, in any order

abbrev pub RunsTo : Session → List Call → Session → Type 0
RunsTo old [] new = new ≡ old
RunsTo old (c ∷ cs) new = (mid : Session) × (Follows c old mid × RunsTo mid cs new)

-- both are new, and begin with the same TSN
abbrev pub at_start : ℕ → ℕ → ℕ → ℕ → Option Limits → Session
at_start tsn size max most limits =
    record {
      sending = sender_runs.at_start tsn size max;
      receiving = receiver_runs.at_start tsn most limits;
      made = [];
      sacks = [];
      written = [];
    }

-- so many chunks are in flight
abbrev pub count_in_flight : Session → ℕ
count_in_flight s = length s.sending.sender.flight.queue.inflight.chunks

-- P after each session, whatever is lost, delayed, repeated or reordered
abbrev pub AfterEachSession : (Session → Type 0) → Type 0
AfterEachSession P =
    (tsn size max most : ℕ) (limits : Option Limits) (calls : List Call) (s : Session)
    → RunsTo (at_start tsn size max most limits) calls s → P s

-- ## The laws

-- what the sender did is a run of its calls
abbrev pub IsSenderRun : Ledger → Type 0
IsSenderRun l =
    (tsn : ℕ) × (size : ℕ) × (max : ℕ) × (calls : List sender_runs.Call)
    × sender_runs.RunsTo (sender_runs.at_start tsn size max) calls l

-- and what the receiver did one of its own
abbrev pub IsReceiverRun : Stand → Type 0
IsReceiverRun r =
    (tsn : ℕ) × (max : ℕ) × (limits : Option Limits) × (calls : List receiver_runs.Call)
    × receiver_runs.RunsTo (receiver_runs.at_start tsn max limits) calls r

abbrev pub AreRuns : Session → Type 0
AreRuns s = IsSenderRun s.sending × IsReceiverRun s.receiving

abbrev pub bytes_written : Session → ℕ
bytes_written s = sum_by (λ w. length w.bytes) s.written

-- each byte that was written waits, is in flight, or was released
abbrev pub IsAccounted : Session → Type 0
IsAccounted s = bytes_written s ≡ held_by_sender s.sending.sender + s.sending.released

-- each fragment of each message that was read is a DATA chunk that the sender made, with the same wire fields
abbrev pub AreMade : Session → Type 0
AreMade s =
    All (λ m. All (λ c. Contains s.made (data_chunk (data_of c))) m.fragments) s.receiving.read

-- each such message is complete, and its fragments are of one message
abbrev pub AreMessages : Session → Type 0
AreMessages s = AreComplete s.receiving × AreOfOneMessage s.receiving
