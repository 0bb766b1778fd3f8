-- The requests of this side to reset its outgoing streams (RFC 6525 4.1, 5.1, 5.2.7).
use Rattle.std.specs.Prelude.{◌≡◌, ℕ, zero, suc, ◌+◌, ◌%◌, ◌^◌, ◌<◌, ◌==◌, nat_le, nat_lt, ◌-◌, min, Bool, true, false, ◌&&◌, ◌||◌, not, if◌then◌else◌, List, [], ◌∷◌}
use Rattle.std.specs.Prelude.{◌++◌, take, Option, Some, None}
use Rattle.std.specs.List.{filter, list_any}
use Rattle.std.specs.Option.{is_some, option_map}
use Rattle.sctp_params.specs.declared.param.param_reconfig_response.ReconfigResult.{ReconfigResult}
use Rattle.sctp_params.specs.declared.param.param_reconfig_response.ReconfigResult.TheVariants.{SuccessNop, SuccessPerformed, Denied, ErrorWrongSsn}
use Rattle.sctp_params.specs.declared.param.param_reconfig_response.ReconfigResult.TheVariants.{ErrorRequestAlreadyInProgress, ErrorBadSequenceNumber}
use Rattle.sctp_params.specs.declared.param.param_reconfig_response.ReconfigResult.TheVariants.{InProgress, Unknown}
use Rattle.sctp_reset.specs.declared.own_requests.Answer.{Answer}
use Rattle.sctp_reset.specs.declared.own_requests.Answer.TheVariants.{Performed, Refused, Wait, NotUnderWay}
use Rattle.sctp_reset.specs.Requests.{Request, Requests, streams_of}

-- the first request has the number of the first TSN (RFC 6525 4.1)
abbrev pub start : ℕ → Requests
start first_tsn = record { waiting = []; under_way = None; next_number = first_tsn }

-- ## What is asked for

abbrev pub is_stream : ℕ → ℕ → Bool
is_stream s n = n == s

-- the stream waits, or the request under way lists it
abbrev pub is_asked : ℕ → Requests → Bool
is_asked s o = list_any (is_stream s) (streams_of o.under_way) || list_any (is_stream s) o.waiting

abbrev pub is_none_of : List ℕ → Bool
is_none_of [] = true
is_none_of (s ∷ streams) = false

abbrev pub is_idle : Requests → Bool
is_idle o = not (is_some o.under_way) && is_none_of o.waiting

-- a stream that is asked for twice is asked for once
abbrev pub after_ask : ℕ → Requests → Requests
after_ask s o = if is_asked s o then o else record o { waiting = o.waiting ++ s ∷ [] }

-- ## A request begins (RFC 6525 5.1.1, 5.1.2)

-- the test says of each stream what the caller's call says
abbrev pub Tells : (ℕ → Bool → Type 0) → (ℕ → Bool) → Type 0
Tells post drained = (s : ℕ) (b : Bool) → s < 2 ^ 16 → post s b → b ≡ drained s

-- the drained streams, in order, at most so many
abbrev pub picked : (ℕ → Bool) → ℕ → List ℕ → List ℕ
picked drained most streams = take most (filter drained streams)

-- the streams without those
abbrev pub unpicked : (ℕ → Bool) → ℕ → List ℕ → List ℕ
unpicked drained zero streams = streams
unpicked drained (suc most) [] = []
unpicked drained (suc most) (s ∷ streams) =
    if drained s then unpicked drained most streams
    else s ∷ unpicked drained (suc most) streams

-- the streams go into a request, with the next number; where there is none, nothing begins
abbrev pub begin_with : List ℕ → List ℕ → ℕ → ℕ → Requests → Requests
begin_with [] left last_tsn now o = o
begin_with (s ∷ streams) left last_tsn now o = record {
  waiting = left;
  under_way = Some (record {
    number = o.next_number;
    last_tsn = last_tsn;
    streams = s ∷ streams;
    at = now;
    unanswered = 0;
  });
  next_number = (o.next_number + 1) % 2 ^ 32;
}

-- at most one request is under way
abbrev pub after_begin : (ℕ → Bool) → ℕ → ℕ → ℕ → Requests → Requests
after_begin drained most last_tsn now o =
    if is_some o.under_way then o
    else begin_with (picked drained most o.waiting) (unpicked drained most o.waiting)
    last_tsn now o

-- ## It is sent, and again (RFC 6525 5.1.1)

-- a sum, at most the greatest number below 2^bits
abbrev pub sum_within : ℕ → ℕ → ℕ → ℕ
sum_within bits n more = min (n + more) (2 ^ bits - 1)

abbrev pub due_at : ℕ → Option Request → Option Request
due_at now None = None
due_at now (Some r) = if nat_le r.at now then Some r else None

abbrev pub time_of : Request → ℕ
time_of r = r.at

-- a sending that nothing answered yet
abbrev pub sent_at : ℕ → ℕ → Request → Request
sent_at now rto r =
    record r { at = sum_within 64 now rto; unanswered = sum_within 32 r.unanswered 1 }

abbrev pub after_sent : ℕ → ℕ → Requests → Requests
after_sent now rto o = record o { under_way = option_map (sent_at now rto) o.under_way }

-- ## Nothing answers (RFC 6525 5.1.1)

-- it is to be sent again, since nothing answered its sendings
abbrev pub has_failed : ℕ → Option Request → Bool
has_failed now None = false
has_failed now (Some r) = nat_le r.at now && nat_lt 0 r.unanswered

-- that is counted: it is told once for each sending
abbrev pub counted : Request → Request
counted r = record r { unanswered = 0 }

abbrev pub after_failed : ℕ → Requests → Requests
after_failed now o =
    if has_failed now o.under_way then record o { under_way = option_map counted o.under_way } else o

-- ## A response comes (RFC 6525 4.4, 5.2.7)

-- what a result says of the request
abbrev pub answer_of : ReconfigResult → Request → Answer
answer_of SuccessNop r = Performed r
answer_of SuccessPerformed r = Performed r
answer_of Denied r = Refused r Denied
answer_of ErrorWrongSsn r = Refused r ErrorWrongSsn
answer_of ErrorRequestAlreadyInProgress r = Refused r ErrorRequestAlreadyInProgress
answer_of ErrorBadSequenceNumber r = Refused r ErrorBadSequenceNumber
answer_of InProgress r = Wait
answer_of Unknown r = Refused r Unknown

-- in progress: it is sent again later, and the sendings before count no more; any other result ends it
abbrev pub left_after : ReconfigResult → ℕ → ℕ → Request → Option Request
left_after SuccessNop now rto r = None
left_after SuccessPerformed now rto r = None
left_after Denied now rto r = None
left_after ErrorWrongSsn now rto r = None
left_after ErrorRequestAlreadyInProgress now rto r = None
left_after ErrorBadSequenceNumber now rto r = None
left_after InProgress now rto r =
    Some (record r { at = sum_within 64 now rto; unanswered = 0 })
left_after Unknown now rto r = None

abbrev pub answer_to : ℕ → ReconfigResult → Option Request → Answer
answer_to number result None = NotUnderWay
answer_to number result (Some r) =
    if r.number == number then answer_of result r else NotUnderWay

abbrev pub left_of : ℕ → ReconfigResult → ℕ → ℕ → Option Request → Option Request
left_of number result now rto None = None
left_of number result now rto (Some r) =
    if r.number == number then left_after result now rto r else Some r

abbrev pub after_response : ℕ → ReconfigResult → ℕ → ℕ → Requests → Requests
after_response number result now rto o =
    record o { under_way = left_of number result now rto o.under_way }
