-- The response to a request to reconfigure streams (RFC 6525 4.4).
use Rattle.std.specs.Prelude.{◌≡◌, ℕ, ◌==◌, nat_le, ◌≤◌, if◌then◌else◌, List, [], ◌++◌, length, codes, Option, Some, None}
use Rattle.sctp_params.specs.declared.param.param_reconfig_response.ReconfigResult.{ReconfigResult}
use Rattle.sctp_params.specs.declared.param.param_reconfig_response.ReconfigResult.TheVariants.{SuccessNop, SuccessPerformed, Denied, ErrorWrongSsn}
use Rattle.sctp_params.specs.declared.param.param_reconfig_response.ReconfigResult.TheVariants.{ErrorRequestAlreadyInProgress, ErrorBadSequenceNumber}
use Rattle.sctp_params.specs.declared.param.param_reconfig_response.ReconfigResult.TheVariants.{InProgress, Unknown}
use Rattle.sctp_params.specs.declared.param.param_reconfig_response.ParamReconfigResponse.{ParamReconfigResponse}
use Rattle.sctp_util.specs.Field.{be32, u32_at}

unfoldable pub result_from : ℕ → ReconfigResult
result_from n =
    if n == 0 then SuccessNop
    else (if n == 1 then SuccessPerformed
    else (if n == 2 then Denied
    else (if n == 3 then ErrorWrongSsn
    else (if n == 4 then ErrorRequestAlreadyInProgress
    else (if n == 5 then ErrorBadSequenceNumber
    else (if n == 6 then InProgress else Unknown))))))

unfoldable pub result_number : ReconfigResult → ℕ
result_number SuccessNop = 0
result_number SuccessPerformed = 1
result_number Denied = 2
result_number ErrorWrongSsn = 3
result_number ErrorRequestAlreadyInProgress = 4
result_number ErrorBadSequenceNumber = 5
result_number InProgress = 6
result_number Unknown = 7

-- the printed name of a result
abbrev pub result_name : ReconfigResult → List ℕ
result_name SuccessNop = codes "0: Success - Nothing to do"
result_name SuccessPerformed = codes "1: Success - Performed"
result_name Denied = codes "2: Denied"
result_name ErrorWrongSsn = codes "3: Error - Wrong SSN"
result_name ErrorRequestAlreadyInProgress = codes "4: Error - Request already in progress"
result_name ErrorBadSequenceNumber = codes "5: Error - Bad Sequence Number"
result_name InProgress = codes "6: In progress"
result_name Unknown = codes "Unknown ReconfigResult"

-- the sender's and the receiver's next TSN, where the value is long enough for both
abbrev pub next_tsns_in : List ℕ → Option (ℕ × ℕ)
next_tsns_in value =
    if nat_le 16 (length value) then Some (u32_at value 8, u32_at value 12) else None

abbrev pub response_in : List ℕ → ParamReconfigResponse
response_in value = record {
  reconfig_response_sequence_number = u32_at value 0;
  result = result_from (u32_at value 4);
  next_tsns = next_tsns_in value;
}

-- what stands behind the fields is skipped
pub record ReadsResponse (value : List ℕ) (r : ParamReconfigResponse) : Type 0 where
  pub long : 8 ≤ length value
  pub fields : r ≡ response_in value

abbrev pub next_tsns_encoding : Option (ℕ × ℕ) → List ℕ
next_tsns_encoding None = []
next_tsns_encoding (Some tsns) = be32 tsns.0 ++ be32 tsns.1

unfoldable pub response_value : ParamReconfigResponse → List ℕ
response_value r =
    be32 r.reconfig_response_sequence_number ++ be32 (result_number r.result)
    ++ next_tsns_encoding r.next_tsns
