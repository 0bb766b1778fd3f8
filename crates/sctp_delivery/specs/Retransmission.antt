-- How often and when a chunk in flight was sent, and whether it is to be sent again: by the calls of a session (RFC 9260 6.3.3, 7.2.4).
use Rattle.std.specs.Prelude.{◌≡◌, ℕ, ◌+◌, ◌-◌, ◌^◌, ◌<◌, ◌==◌, ◌&&◌, ◌||◌, Bool, true, false, min, if◌then◌else◌, List, [], ◌∷◌, length, take, slice_get, All}
use Rattle.std.specs.Prelude.{Option}
use Rattle.std.specs.Prelude.{Some, None}
use Rattle.std.specs.List.{list_any}
use Rattle.sctp_data.specs.declared.chunk.chunk_payload_data.ChunkPayloadData.{ChunkPayloadData}
use Rattle.sctp_outbound.specs.Marks.{is_outstanding}
use Rattle.sctp_receiver.specs.declared.receiver.limits.Limits.{Limits}
use Rattle.sctp_serial.specs.DataChunks.{tsns}
use Rattle.sctp_delivery.specs.Sacks.{tsns_given}
use Rattle.sctp_delivery.specs.SenderCalls.{marks, misses, next_chunk, resends, sends}
use Rattle.sctp_delivery.specs.Session.{Call, RunsTo, Session, at_start, of_sender}

-- ## What the calls did

-- a TSN was sent for the first time, or once more, at a moment; these TSNs were reported missing; or all that was outstanding was marked
pub data Event : Type 0 where
  sent : ℕ → ℕ → Event
  sent_more : ℕ → ℕ → Event
  missing : List ℕ → Event
  marked_all : Event

abbrev pub with_sent : ℕ → Option ChunkPayloadData → List Event → List Event
with_sent now None es = es
with_sent now (Some c) es = sent c.tsn now ∷ es

-- `send_next` answers a chunk or none; `add_miss_indications` counts the chunks in front
abbrev pub events_after : Call → Session → List Event → List Event
events_after (of_sender (sends now)) s es = with_sent now (next_chunk now s.sending.sender) es
events_after (of_sender (resends tsn now c)) s es = sent_more tsn now ∷ es
events_after (of_sender (misses count)) s es =
    missing (tsns (take count s.sending.sender.flight.queue.inflight.chunks)) ∷ es
events_after (of_sender marks) s es = marked_all ∷ es
events_after _ s es = es

-- those of a session, the last one first
abbrev pub events_from : List Event → (old : Session) (calls : List Call) (new : Session) → RunsTo old calls new → List Event
events_from es old [] new run = es
events_from es old (c ∷ cs) new run =
    events_from (events_after c old es) run.0 cs new run.1.1

-- ## Of one TSN, since it was sent for the first time

-- the moments at which it was sent, the last one first
abbrev pub moments : ℕ → List Event → List ℕ
moments tsn [] = []
moments tsn (sent t now ∷ es) = if tsn == t then now ∷ [] else moments tsn es
moments tsn (sent_more t now ∷ es) = if tsn == t then now ∷ moments tsn es else moments tsn es
moments tsn (missing ts ∷ es) = moments tsn es
moments tsn (marked_all ∷ es) = moments tsn es

abbrev pub is_among : ℕ → List ℕ → Bool
is_among tsn ts = list_any (λ t. tsn == t) ts

-- how often it was reported missing
abbrev pub misses_of : ℕ → List Event → ℕ
misses_of tsn [] = 0
misses_of tsn (sent t now ∷ es) = if tsn == t then 0 else misses_of tsn es
misses_of tsn (sent_more t now ∷ es) = misses_of tsn es
misses_of tsn (missing ts ∷ es) = (if is_among tsn ts then 1 else 0) + misses_of tsn es
misses_of tsn (marked_all ∷ es) = misses_of tsn es

-- since it was sent last it was reported missing for the third time, or all was marked
abbrev pub is_due : ℕ → List Event → Bool
is_due tsn [] = false
is_due tsn (sent t now ∷ es) = if tsn == t then false else is_due tsn es
is_due tsn (sent_more t now ∷ es) = if tsn == t then false else is_due tsn es
is_due tsn (missing ts ∷ es) = (is_among tsn ts && (misses_of tsn es == 2)) || is_due tsn es
is_due tsn (marked_all ∷ es) = true

-- ## The law

-- the chunk says how often it was sent and when last, how often it was reported missing, up to 3, and whether it is to be sent again
pub record IsNoted (es : List Event) (c : ChunkPayloadData) : Type 0 where
  pub count : c.nsent ≡ min (length (moments c.tsn es)) (2 ^ 32 - 1)
  pub since : c.since ≡ slice_get (moments c.tsn es) 0
  pub missed : c.miss_indicator ≡ min (misses_of c.tsn es) 3
  pub marked : c.retransmit ≡ is_due c.tsn es

-- each outstanding chunk in flight does so
abbrev pub AreNoted : List Event → Session → Type 0
AreNoted es s =
    All (λ c. is_outstanding c ≡ true → IsNoted es c) s.sending.sender.flight.queue.inflight.chunks

-- P of the events and the session, after each session of fewer than 2^31 TSNs; the first one is a number of 32 bits
abbrev pub AfterEachSessionWithEvents : (List Event → Session → Type 0) → Type 0
AfterEachSessionWithEvents P =
    (tsn size max most : ℕ) (limits : Option Limits) (calls : List Call) (s : Session)
    (run : RunsTo (at_start tsn size max most limits) calls s) → tsn < 2 ^ 32
    → tsns_given (at_start tsn size max most limits) calls s run < 2 ^ 31
    → P (events_from [] (at_start tsn size max most limits) calls s run) s
