-- Runs of calls, and what holds after each of them.
use Rattle.std.specs.Prelude.{◌≡◌, ℕ, ◌+◌, ◌^◌, ◌<◌, ◌≤◌, Bool, true, false, if◌then◌else◌, List, [], ◌∷◌, ◌++◌, length}
use Rattle.std.specs.List.{list_any}
use Rattle.sctp_params.specs.declared.param.param_reconfig_response.ReconfigResult.{ReconfigResult}
use Rattle.sctp_reset.specs.declared.own_requests.Answer.{Answer}
use Rattle.sctp_reset.specs.declared.own_requests.Answer.TheVariants.{Performed, Refused, Wait, NotUnderWay}
use Rattle.sctp_reset.specs.declared.peer_requests.Due.TheVariants.{Perform, Again}
use Rattle.sctp_reset.specs.declared.peer_requests.PeerRequests.{PeerRequests}
use Rattle.sctp_reset.specs.Requests.{Requests, streams_of}
use Rattle.sctp_reset.specs.Own.{start, is_stream, is_asked, after_ask, after_begin, after_sent, answer_to, after_response}
use Rattle.sctp_reset.specs.Peer.{expects, is_for, due_for, is_in_progress, after_request, after_answer, without_first}

-- ## This side

-- a call, with its arguments; of `begin` with what it was told of each stream, the limit, the last TSN and the time
pub data OwnCall : Type 0 where
  asks : ℕ → OwnCall
  begins : (ℕ → Bool) → ℕ → ℕ → ℕ → OwnCall
  sends : ℕ → ℕ → OwnCall
  learns : ℕ → ReconfigResult → ℕ → ℕ → OwnCall

abbrev pub after_call : OwnCall → Requests → Requests
after_call (asks s) o = after_ask s o
after_call (begins drained most last_tsn now) o = after_begin drained most last_tsn now o
after_call (sends now rto) o = after_sent now rto o
after_call (learns number result now rto) o = after_response number result now rto o

abbrev pub after_calls : List OwnCall → Requests → Requests
after_calls [] o = o
after_calls (call ∷ calls) o = after_calls calls (after_call call o)

-- it holds after any calls
abbrev pub HoldsAfterEachRun : (Requests → Type 0) → Type 0
HoldsAfterEachRun P = (first_tsn : ℕ) (calls : List OwnCall) → P (after_calls calls (start first_tsn))

-- the streams asked for: those of the request under way, then those that wait
abbrev pub streams_asked : Requests → List ℕ
streams_asked o = streams_of o.under_way ++ o.waiting

-- no number stands in the list twice
abbrev pub IsEachOnce : List ℕ → Type 0
IsEachOnce [] = Unit {0}
IsEachOnce (s ∷ ss) = (list_any (is_stream s) ss ≡ false) × IsEachOnce ss

abbrev pub AsksEachOnce : Requests → Type 0
AsksEachOnce o = IsEachOnce (streams_asked o)

-- the streams that an answer ends the request of
abbrev pub streams_ended : Answer → List ℕ
streams_ended (Performed r) = r.streams
streams_ended (Refused r result) = r.streams
streams_ended Wait = []
streams_ended NotUnderWay = []

abbrev pub streams_ended_by : OwnCall → Requests → List ℕ
streams_ended_by (asks s) o = []
streams_ended_by (begins drained most last_tsn now) o = []
streams_ended_by (sends now rto) o = []
streams_ended_by (learns number result now rto) o = streams_ended (answer_to number result o.under_way)

-- a stream stays asked for until a response ends its request
abbrev pub StaysAsked : Type 0
StaysAsked = (s : ℕ) (call : OwnCall) (o : Requests) → is_asked s o ≡ true
    → list_any (is_stream s) (streams_ended_by call o) ≡ false → is_asked s (after_call call o) ≡ true

-- a response adds no stream, whatever it says
abbrev pub AddsNothing : Type 0
AddsNothing = (number now rto : ℕ) (result : ReconfigResult) (o : Requests)
    → length (streams_asked (after_response number result now rto o)) ≤ length (streams_asked o)

-- ## The peer's side

pub data PeerCall : Type 0 where
  comes : ℕ → PeerCall
  answers : ReconfigResult → PeerCall
  responds : PeerCall

abbrev pub after_peer_call : PeerCall → PeerRequests → PeerRequests
after_peer_call (comes number) p = after_request number p
after_peer_call (answers result) p = after_answer result p
after_peer_call responds p = without_first p

abbrev pub after_peer_calls : List PeerCall → PeerRequests → PeerRequests
after_peer_calls [] p = p
after_peer_calls (call ∷ calls) p = after_peer_calls calls (after_peer_call call p)

-- 1 for a last word, 0 for any other call
abbrev pub last_word : PeerCall → ℕ
last_word (comes number) = 0
last_word (answers result) = if is_in_progress result then 0 else 1
last_word responds = 0

abbrev pub last_words : List PeerCall → ℕ
last_words [] = 0
last_words (call ∷ calls) = last_word call + last_words calls

-- a request that had its last word is not performed again, until 2^32 of them were said
abbrev pub PerformsOnce : Type 0
PerformsOnce = (p : PeerRequests) (calls : List PeerCall) → p.expected < 2 ^ 32
    → 0 < last_words calls → last_words calls < 2 ^ 32
    → due_for p.expected (after_peer_calls calls p) ≡ Perform → ⊥

-- and it is answered alike whenever it comes, until two others had theirs
abbrev pub AnswersAlike : Type 0
AnswersAlike = (p : PeerRequests) (result : ReconfigResult) (calls : List PeerCall) → p.expected < 2 ^ 32
    → is_in_progress result ≡ false → last_words calls ≤ 1
    → due_for p.expected (after_peer_calls calls (after_answer result p)) ≡ Again result

-- no two responses that are due are to one request
abbrev pub RespondsOnceEach : PeerRequests → Type 0
RespondsOnceEach p = (number : ℕ) → is_for number p.older ≡ true → is_for number p.newer ≡ false

abbrev pub HoldsAfterEachPeerRun : (PeerRequests → Type 0) → Type 0
HoldsAfterEachPeerRun P = (first_tsn : ℕ) (calls : List PeerCall)
    → P (after_peer_calls calls (expects first_tsn))
