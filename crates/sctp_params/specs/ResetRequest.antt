-- The request to reset outgoing streams (RFC 6525 4.1).
use Rattle.std.specs.Prelude.{◌≡◌, ℕ, ◌+◌, ◌*◌, ◌-◌, ◌/◌, ◌%◌, ◌≤◌, List, ◌++◌, length}
use Rattle.std.specs.List.{flat_map}
use Rattle.sctp_params.specs.declared.param.param_outgoing_reset_request.ParamOutgoingResetRequest.{ParamOutgoingResetRequest}
use Rattle.sctp_util.specs.Field.{be16, be32, u16_at, u32_at}
use Rattle.sctp_util.specs.Each.{each}

-- the wire part of a request
pub record ResetRequest : Type 0 where
  pub reconfig_request_sequence_number : ℕ
  pub reconfig_response_sequence_number : ℕ
  pub sender_last_tsn : ℕ
  pub stream_identifiers : List ℕ

abbrev pub reset_request_of : ParamOutgoingResetRequest → ResetRequest
reset_request_of p = record {
  reconfig_request_sequence_number = p.reconfig_request_sequence_number;
  reconfig_response_sequence_number = p.reconfig_response_sequence_number;
  sender_last_tsn = p.sender_last_tsn;
  stream_identifiers = p.stream_identifiers.items;
}

abbrev pub reset_request_in : List ℕ → ResetRequest
reset_request_in value = record {
  reconfig_request_sequence_number = u32_at value 0;
  reconfig_response_sequence_number = u32_at value 4;
  sender_last_tsn = u32_at value 8;
  stream_identifiers = each ((length value - 12) / 2) (λ i. u16_at value (12 + 2 * i));
}

pub record ReadsResetRequest (value : List ℕ) (r : ResetRequest) : Type 0 where
  pub headed : 12 ≤ length value
  pub even : length value % 2 ≡ 0
  pub fields : r ≡ reset_request_in value

unfoldable pub reset_request_value : ResetRequest → List ℕ
reset_request_value r =
    be32 r.reconfig_request_sequence_number ++ be32 r.reconfig_response_sequence_number
    ++ be32 r.sender_last_tsn ++ flat_map be16 r.stream_identifiers
