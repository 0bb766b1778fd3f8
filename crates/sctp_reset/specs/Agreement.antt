-- Two sides, and a network between them that loses, repeats and reorders, and forges nothing.
use Rattle.std.specs.Prelude.{◌≡◌, ◌⊎◌, ℕ, ◌+◌, ◌%◌, ◌^◌, ◌<◌, ◌==◌, Bool, true, if◌then◌else◌, List, [], ◌∷◌, None}
use Rattle.std.specs.Option.{is_some}
use Rattle.sctp_params.specs.declared.param.param_reconfig_response.ReconfigResult.{ReconfigResult}
use Rattle.sctp_params.specs.declared.param.param_reconfig_response.ParamReconfigResponse.{ParamReconfigResponse}
use Rattle.sctp_reset.specs.declared.own_requests.Answer.{Answer}
use Rattle.sctp_reset.specs.declared.own_requests.Answer.TheVariants.{Performed, Refused, Wait, NotUnderWay}
use Rattle.sctp_reset.specs.declared.peer_requests.PeerRequests.{PeerRequests}
use Rattle.sctp_reset.specs.Requests.{Requests}
use Rattle.sctp_reset.specs.Own.{start, after_ask, after_begin, after_sent, answer_to, after_response}
use Rattle.sctp_reset.specs.Peer.{expects, response, kept_result, result_of, is_in_progress, after_request, after_answer}

-- the side that asks; the side that answers; how many requests began; the responses that were ever due. Then the last words
-- that the one side said, and the results that ended requests on the other, each list the last one first
pub record Talk : Type 0 where
  pub own : Requests
  pub peer : PeerRequests
  pub begun : ℕ
  pub said : List ParamReconfigResponse
  pub words : List ReconfigResult
  pub ends : List ReconfigResult

abbrev pub opened : ℕ → Talk
opened first_tsn = record {
  own = start first_tsn;
  peer = expects first_tsn;
  begun = 0;
  said = [];
  words = [];
  ends = [];
}

-- calls of the side that asks; the request that began as this one comes, counted from 0; the side that answers answers; a response
-- comes back
pub data Event : Type 0 where
  asked : ℕ → Event
  began : (ℕ → Bool) → ℕ → ℕ → ℕ → Event
  sent : ℕ → ℕ → Event
  came : ℕ → Event
  answered : ReconfigResult → Event
  returned : ParamReconfigResponse → ℕ → ℕ → Event

-- the number of the request that began as this one
abbrev pub number_of : ℕ → ℕ → ℕ
number_of first_tsn i = (first_tsn + i) % 2 ^ 32

-- one more, where a request began
abbrev pub begun_after : ℕ → Requests → Requests → ℕ
begun_after begun old new =
    if is_some old.under_way then begun else (if is_some new.under_way then begun + 1 else begun)

abbrev pub said_after : ℕ → Talk → List ParamReconfigResponse
said_after number t =
    if number == t.peer.expected then t.said
    else response number (result_of (kept_result number t.peer)) ∷ t.said

abbrev pub ends_after : ReconfigResult → Answer → List ReconfigResult → List ReconfigResult
ends_after result (Performed r) ends = result ∷ ends
ends_after result (Refused r given) ends = result ∷ ends
ends_after result Wait ends = ends
ends_after result NotUnderWay ends = ends

abbrev pub after_event : ℕ → Event → Talk → Talk
after_event first_tsn (asked s) t = record t { own = after_ask s t.own }
after_event first_tsn (began drained most last_tsn now) t =
    record t {
      own = after_begin drained most last_tsn now t.own;
      begun = begun_after t.begun t.own (after_begin drained most last_tsn now t.own);
    }
after_event first_tsn (sent now rto) t = record t { own = after_sent now rto t.own }
after_event first_tsn (came i) t =
    record t {
      peer = after_request (number_of first_tsn i) t.peer;
      said = said_after (number_of first_tsn i) t;
    }
after_event first_tsn (answered result) t =
    record t {
      peer = after_answer result t.peer;
      said = response t.peer.expected result ∷ t.said;
      words = (if is_in_progress result then t.words else result ∷ t.words);
    }
after_event first_tsn (returned r now rto) t =
    record t {
      own = after_response r.reconfig_response_sequence_number r.result now rto t.own;
      ends =
          ends_after r.result
          (answer_to r.reconfig_response_sequence_number r.result t.own.under_way)
          t.ends;
    }

abbrev pub IsSaid : ParamReconfigResponse → List ParamReconfigResponse → Type 0
IsSaid r [] = ⊥
IsSaid r (s ∷ said) = (r ≡ s) ⊎ IsSaid r said

-- what comes was sent: a request that began, a response that was due. Only a request that is awaited is answered
abbrev pub MayHappen : Event → Talk → Type 0
MayHappen (asked s) t = Unit {0}
MayHappen (began drained most last_tsn now) t = Unit {0}
MayHappen (sent now rto) t = Unit {0}
MayHappen (came i) t = i < t.begun
MayHappen (answered result) t = t.peer.is_awaited ≡ true
MayHappen (returned r now rto) t = IsSaid r t.said

abbrev pub after_events : ℕ → List Event → Talk → Talk
after_events first_tsn [] t = t
after_events first_tsn (event ∷ events) t = after_events first_tsn events (after_event first_tsn event t)

abbrev pub MayAllHappen : ℕ → List Event → Talk → Type 0
MayAllHappen first_tsn [] t = Unit {0}
MayAllHappen first_tsn (event ∷ events) t =
    MayHappen event t × MayAllHappen first_tsn events (after_event first_tsn event t)

-- the requests ended as the other side said, in order; at most one last word is still to come back
abbrev pub Agrees : List ReconfigResult → List ReconfigResult → Type 0
Agrees words ends = (words ≡ ends) ⊎ ((word : ReconfigResult) × (words ≡ word ∷ ends))

-- so it is while fewer than 2^32 requests begin
abbrev pub BothAgree : Type 0
BothAgree = (first_tsn : ℕ) (events : List Event) → first_tsn < 2 ^ 32
    → MayAllHappen first_tsn events (opened first_tsn)
    → (after_events first_tsn events (opened first_tsn)).begun < 2 ^ 32
    → Agrees (after_events first_tsn events (opened first_tsn)).words
    (after_events first_tsn events (opened first_tsn)).ends

-- wherever events led, further ones can end the request that is under way
abbrev pub EachCanEnd : Type 0
EachCanEnd = (first_tsn : ℕ) (events : List Event) → first_tsn < 2 ^ 32
    → MayAllHappen first_tsn events (opened first_tsn)
    → (after_events first_tsn events (opened first_tsn)).begun < 2 ^ 32
    → (more : List Event) × MayAllHappen first_tsn more (after_events first_tsn events (opened first_tsn))
    × ((after_events first_tsn more (after_events first_tsn events (opened first_tsn))).own.under_way
    ≡ None)
