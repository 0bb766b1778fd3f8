-- The requests of the peer, and what they are answered (RFC 6525 4.4, 5.2.1).
use Rattle.std.specs.Prelude.{ℕ, ◌+◌, ◌%◌, ◌^◌, ◌-◌, ◌==◌, Bool, true, false, if◌then◌else◌, Option, Some, None}
use Rattle.std.specs.Option.{is_some}
use Rattle.sctp_params.specs.declared.param.param_reconfig_response.ReconfigResult.{ReconfigResult}
use Rattle.sctp_params.specs.declared.param.param_reconfig_response.ReconfigResult.TheVariants.{SuccessNop, SuccessPerformed, Denied, ErrorWrongSsn}
use Rattle.sctp_params.specs.declared.param.param_reconfig_response.ReconfigResult.TheVariants.{ErrorRequestAlreadyInProgress, ErrorBadSequenceNumber}
use Rattle.sctp_params.specs.declared.param.param_reconfig_response.ReconfigResult.TheVariants.{InProgress, Unknown}
use Rattle.sctp_params.specs.declared.param.param_reconfig_response.ParamReconfigResponse.{ParamReconfigResponse}
use Rattle.sctp_reset.specs.declared.peer_requests.Due.{Due}
use Rattle.sctp_reset.specs.declared.peer_requests.Due.TheVariants.{Perform, Again, Bad}
use Rattle.sctp_reset.specs.declared.peer_requests.PeerRequests.{PeerRequests}

-- the first request has the number of the peer's first TSN (RFC 6525 4.1)
abbrev pub expects : ℕ → PeerRequests
expects first_tsn = record {
  expected = first_tsn;
  is_awaited = false;
  last = None;
  earlier = None;
  newer = None;
  older = None;
}

abbrev pub next_number : ℕ → ℕ
next_number n = (n + 1) % 2 ^ 32

-- the number of the request before the expected one
abbrev pub last_number : PeerRequests → ℕ
last_number p = (p.expected + (2 ^ 32 - 1)) % 2 ^ 32

-- ## Responses that are due

abbrev pub response : ℕ → ReconfigResult → ParamReconfigResponse
response number result = record {
  reconfig_response_sequence_number = number;
  result = result;
  next_tsns = None;
}

abbrev pub is_for : ℕ → Option ParamReconfigResponse → Bool
is_for number None = false
is_for number (Some r) = r.reconfig_response_sequence_number == number

-- a response is due: it takes the place of one with its number. At most two are due, as many as a RE-CONFIG chunk
-- has parameters (RFC 6525 3.1); the oldest is dropped, as where its packet is lost
abbrev pub respond : ℕ → ReconfigResult → PeerRequests → PeerRequests
respond number result p =
    if is_for number p.newer then record p { newer = Some (response number result) }
    else record p { older = p.newer; newer = Some (response number result) }

-- the older one is sent first
abbrev pub older_of : Option ParamReconfigResponse → Option ParamReconfigResponse
    → Option ParamReconfigResponse
older_of (Some r) newer = Some r
older_of None newer = newer

abbrev pub first_due : PeerRequests → Option ParamReconfigResponse
first_due p = older_of p.older p.newer

abbrev pub without_first : PeerRequests → PeerRequests
without_first p =
    if is_some p.older then record p { older = None } else record p { newer = None }

-- ## A request comes (RFC 6525 5.2.1)

-- what a request was answered for good: one of the last two, as many as a RE-CONFIG chunk has parameters
abbrev pub kept_result : ℕ → PeerRequests → Option ReconfigResult
kept_result number p =
    if next_number number == p.expected then p.last
    else (if next_number (next_number number) == p.expected then p.earlier else None)

abbrev pub due_of : Option ReconfigResult → Due
due_of (Some result) = Again result
due_of None = Bad

-- the expected one is to be performed, one that comes again is answered again, and any other is bad
abbrev pub due_for : ℕ → PeerRequests → Due
due_for number p = if number == p.expected then Perform else due_of (kept_result number p)

abbrev pub result_of : Option ReconfigResult → ReconfigResult
result_of (Some result) = result
result_of None = ErrorBadSequenceNumber

abbrev pub after_request : ℕ → PeerRequests → PeerRequests
after_request number p =
    if number == p.expected then record p { is_awaited = true }
    else respond number (result_of (kept_result number p)) p

-- ## The expected request is answered (RFC 6525 4.4, 5.2.2)

abbrev pub is_in_progress : ReconfigResult → Bool
is_in_progress SuccessNop = false
is_in_progress SuccessPerformed = false
is_in_progress Denied = false
is_in_progress ErrorWrongSsn = false
is_in_progress ErrorRequestAlreadyInProgress = false
is_in_progress ErrorBadSequenceNumber = false
is_in_progress InProgress = true
is_in_progress Unknown = false

-- the result is kept, and the next request is expected
abbrev pub moved_on : ReconfigResult → PeerRequests → PeerRequests
moved_on result p = record p {
  expected = next_number p.expected;
  is_awaited = false;
  last = Some result;
  earlier = p.last;
}

-- in progress is not the last word: the same request is still expected
abbrev pub after_answer : ReconfigResult → PeerRequests → PeerRequests
after_answer result p =
    respond p.expected result (if is_in_progress result then p else moved_on result p)
