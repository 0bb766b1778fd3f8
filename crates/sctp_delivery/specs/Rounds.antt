-- Exchanges that get through empty the sender (RFC 4960 6.2.1; RFC 3758 3.5).
use Rattle.std.specs.Prelude.{◌≡◌, ⊤, ℕ, zero, suc, ◌+◌, ◌-◌, ◌^◌, ◌<◌, ◌≤◌, ◌⊎◌, ◌||◌, Bool, true, false, List, [], ◌∷◌, length, All, Option, Some}
use Rattle.std.specs.List.{list_all}
use Rattle.sctp_util.specs.Serial.{at_or_before}
use Rattle.sctp_data.specs.declared.chunk.chunk_payload_data.ChunkPayloadData.{ChunkPayloadData}
use Rattle.sctp_data.specs.SelectiveAck.{Sack}
use Rattle.sctp_outbound.specs.pending_queue.PendingQueue.{chunk_count}
use Rattle.sctp_receiver.specs.declared.receiver.limits.Limits.{Limits}
use Rattle.sctp_sender.specs.declared.sender.flight.Released.{Released}
use Rattle.sctp_sender.specs.Abandonment.{advanced_ack_point, skip_end}
use Rattle.sctp_sender.specs.Flight.{Flight, can_resend}
use Rattle.sctp_sender.specs.Sender.{Transmission}
use Rattle.sctp_delivery.specs.Complete.{EachIsReadOnce, is_all_acknowledged, is_reliable, reads_nothing}
use Rattle.sctp_delivery.specs.ReceiverCalls.{ReceiverCall, is_reporting}
use Rattle.sctp_delivery.specs.Sacks.{tsns_given, was_taken}
use Rattle.sctp_delivery.specs.SenderCalls.{takes_sack, writes}
use Rattle.sctp_delivery.specs.Session.{Call, ReceiverFollows, RunsTo, SenderFollows, Session, at_start, of_sender}

-- ## Sessions

-- P of how many TSNs were given out and of the session, after each session that gives out fewer than 2^31; its first TSN is a number of
-- 32 bits, and its fragments have some bytes
abbrev pub AfterEachFitSessionOfFewTsns : (ℕ → Session → Type 0) → Type 0
AfterEachFitSessionOfFewTsns P =
    (tsn size max most : ℕ) (limits : Option Limits) (calls : List Call) (s : Session)
    → tsn < 2 ^ 32 → 0 < size → (r : RunsTo (at_start tsn size max most limits) calls s)
    → tsns_given (at_start tsn size max most limits) calls s r < 2 ^ 31
    → P (tsns_given (at_start tsn size max most limits) calls s r) s

abbrev pub flight_of : Session → Flight
flight_of s = s.sending.sender.flight

abbrev pub in_flight : Session → List ChunkPayloadData
in_flight s = s.sending.sender.flight.queue.inflight.chunks

-- ## What a FORWARD-TSN passes

-- the message of the first of these chunks is abandoned
abbrev pub is_first_abandoned : List ChunkPayloadData → Bool
is_first_abandoned [] = false
is_first_abandoned (c ∷ cs) = c.abandoned

-- where that is so of the chunks in flight, a FORWARD-TSN goes to the Advanced.Peer.Ack.Point: the chunk there ends its message
abbrev pub SkipsToPoint : Session → Type 0
SkipsToPoint s =
    is_first_abandoned (in_flight s) ≡ true
    → skip_end (advanced_ack_point (flight_of s)) (flight_of s)
    ≡ Some (advanced_ack_point (flight_of s))

-- ## What is sent again

-- each chunk in flight can be sent again, or the receiver took it, or its message is abandoned
abbrev pub EachCanGoOn : Session → Type 0
EachCanGoOn s =
    All (λ c. (can_resend c.tsn (flight_of s) || (was_taken c.tsn s || c.abandoned)) ≡ true)
    (in_flight s)

-- ## A round

-- the receiver took each chunk in flight whose message is not abandoned; and where a FORWARD-TSN can be made, the cumulative TSN is that
-- to which it goes, or one past it
pub record IsCaughtUp (s : Session) : Type 0 where
  pub taken : All (λ c. c.abandoned ≡ false → was_taken c.tsn s ≡ true) (in_flight s)
  pub followed : (tsn : ℕ) → skip_end (advanced_ack_point (flight_of s)) (flight_of s) ≡ Some tsn
      → at_or_before tsn s.receiving.receiver.cumulative_tsn ≡ true

-- the receiver makes a SACK, by whichever call and with whatever credit, and the sender takes it
pub record IsAnswered (s t : Session) : Type 0 where
  pub call : ReceiverCall
  pub makes : is_reporting call ≡ true
  pub reported : Session
  pub reporting : ReceiverFollows call s reported
  pub sack : Sack
  pub made : reported.sacks ≡ sack ∷ s.sacks
  pub gone : List Released
  pub taking : SenderFollows (takes_sack sack gone) reported t

-- it can make one by each such call, and the sender can take it
abbrev pub CanBeAnswered : Session → Type 0
CanBeAnswered s =
    (call : ReceiverCall) → is_reporting call ≡ true
    → (t : Session) × (a : IsAnswered s t) × (a.call ≡ call)

-- fewer chunks are in flight; the first of them is of an abandoned message, if there is one; and none is in flight where no message
-- was abandoned
pub record LeavesFewer (s t : Session) : Type 0 where
  pub fewer : 0 < length (in_flight s) → length (in_flight t) < length (in_flight s)
  pub first : (in_flight t ≡ []) ⊎ (is_first_abandoned (in_flight t) ≡ true)
  pub none : All (λ c. c.abandoned ≡ false) (in_flight s) → in_flight t ≡ []

-- a SACK of a receiver that is caught up does so
abbrev pub EachAnswerLeavesFewer : Session → Type 0
EachAnswerLeavesFewer s = IsCaughtUp s → (t : Session) → IsAnswered s t → LeavesFewer s t

-- ## Rounds

-- any call but a write
abbrev pub is_exchange : Call → Bool
is_exchange (of_sender (writes stream ppi bytes)) = false
is_exchange _ = true

-- calls of both hosts, but for writes, up to where the receiver is caught up, and something is in flight if anything waits; then the
-- receiver makes a SACK, and the sender takes it
pub record IsRound (s t : Session) : Type 0 where
  pub calls : List Call
  pub reached : Session
  pub exchange : list_all is_exchange calls ≡ true
  pub run : RunsTo s calls reached
  pub caught_up : IsCaughtUp reached
  pub sent : 0 < chunk_count (flight_of reached).queue.pending → 0 < length (in_flight reached)
  pub answered : IsAnswered reached t

-- so many rounds, one after another
abbrev pub Rounds : ℕ → Session → Session → Type 0
Rounds zero s t = t ≡ s
Rounds (suc k) s t = (mid : Session) × (IsRound s mid × Rounds k mid t)

-- how many TSNs are given out in them
abbrev pub tsns_in_rounds : (k : ℕ) (s t : Session) → Rounds k s t → ℕ
tsns_in_rounds zero s t r = 0
tsns_in_rounds (suc k) s t r =
    tsns_given s r.1.0.calls r.1.0.reached r.1.0.run + tsns_in_rounds k r.0 t r.1.1

-- how many chunks wait or are in flight
abbrev pub chunks_left : Transmission → ℕ
chunks_left t = chunk_count t.flight.queue.pending + length t.flight.queue.inflight.chunks

-- after k rounds k chunks fewer are left, or none; so many TSNs were given out before
abbrev pub EachRoundTakesOne : ℕ → Session → Type 0
EachRoundTakesOne given s =
    (k : ℕ) (t : Session) (rounds : Rounds k s t) → given + tsns_in_rounds k s t rounds < 2 ^ 31
    → chunks_left t.sending.sender ≤ chunks_left s.sending.sender - k

-- after so many rounds nothing waits, and nothing is in flight
abbrev pub IsEmptyAfter : ℕ → ℕ → Session → Type 0
IsEmptyAfter k given s =
    (t : Session) (rounds : Rounds k s t) → given + tsns_in_rounds k s t rounds < 2 ^ 31
    → is_all_acknowledged t.sending.sender ≡ true

-- so it is after as many rounds as chunks are left
abbrev pub RoundsEnd : ℕ → Session → Type 0
RoundsEnd given s = (k : ℕ) → chunks_left s.sending.sender ≤ k → IsEmptyAfter k given s

-- ## What is read then

-- none of their calls abandons or expires a message, or makes or takes a FORWARD-TSN
abbrev pub AreReliable : (k : ℕ) (s t : Session) → Rounds k s t → Type 0
AreReliable zero s t r = ⊤
AreReliable (suc k) s t r =
    (list_all is_reliable r.1.0.calls ≡ true) × AreReliable k r.0 t r.1.1

-- after as many such rounds as chunks are left, each write was read exactly once, if on no stream is a message to read; so many TSNs
-- were given out before
abbrev pub AllIsReadAfterRounds : ℕ → Session → Type 0
AllIsReadAfterRounds given s =
    (k : ℕ) (t : Session) (rounds : Rounds k s t) → AreReliable k s t rounds
    → given + tsns_in_rounds k s t rounds < 2 ^ 31 → chunks_left s.sending.sender ≤ k
    → reads_nothing t.receiving.receiver ≡ true → EachIsReadOnce t

-- P of how many TSNs were given out and of the session, after each such session of such calls alone
abbrev pub AfterEachFitReliableSession : (ℕ → Session → Type 0) → Type 0
AfterEachFitReliableSession P =
    (tsn size max most : ℕ) (limits : Option Limits) (calls : List Call) (s : Session)
    → tsn < 2 ^ 32 → 0 < size → (r : RunsTo (at_start tsn size max most limits) calls s)
    → tsns_given (at_start tsn size max most limits) calls s r < 2 ^ 31
    → list_all is_reliable calls ≡ true
    → P (tsns_given (at_start tsn size max most limits) calls s r) s
