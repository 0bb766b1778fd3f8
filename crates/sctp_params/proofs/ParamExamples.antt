-- Worked examples of parameters: what bytes say, and how values are written.
use Rattle.std.proofs.Common.{◌≡◌, [], ◌∷◌, refl, arith}
use Rattle.std.specs.Prelude.{Some}
use Rattle.sctp_params.specs.declared.param.param_type.ParamType.TheVariants.{AdaptLayerInd}
use Rattle.sctp_params.specs.declared.param.param_reconfig_response.ReconfigResult.TheVariants.{SuccessPerformed}
use Rattle.sctp_util.specs.Field.{be16, be32, u16_at, u32_at}
use Rattle.sctp_params.specs.ParamType.{type_from}
use Rattle.sctp_params.specs.ParamFraming.{param_value_at}
use Rattle.sctp_params.specs.ResetRequest.{reset_request_value}
use Rattle.sctp_params.specs.ReconfigResponse.{result_from}
use Rattle.sctp_params.specs.Param.{outgoing_reset_request, reconfig_response, param_encoding}
use Rattle.sctp_params.specs.ParamKind.{ReadsParam}

-- request 1, response 2, last TSN 3, streams 4, 5 and 6
reset_request_encoding : param_encoding (outgoing_reset_request (record {
  reconfig_request_sequence_number = 1;
  reconfig_response_sequence_number = 2;
  sender_last_tsn = 3;
  stream_identifiers = 4 ∷ 5 ∷ 6 ∷ [];
})) ≡ 0 ∷ 13 ∷ 0 ∷ 22 ∷ 0 ∷ 0 ∷ 0 ∷ 1 ∷ 0 ∷ 0 ∷ 0 ∷ 2 ∷ 0 ∷ 0 ∷ 0 ∷ 3 ∷ 0 ∷ 4 ∷ 0 ∷ 5 ∷ 0 ∷ 6 ∷ []
unfolding param_encoding reset_request_value be16 be32
reset_request_encoding = refl

-- a response with both TSNs, and a byte behind it
response_read : ReadsParam (0 ∷ 16 ∷ 0 ∷ 20 ∷ 0 ∷ 0 ∷ 0 ∷ 1 ∷ 0 ∷ 0 ∷ 0 ∷ 1 ∷ 0 ∷ 0 ∷ 0 ∷ 7 ∷ 0 ∷ 0 ∷ 0 ∷ 8 ∷ 9 ∷ []) (reconfig_response (record {
  reconfig_response_sequence_number = 1;
  result = SuccessPerformed;
  next_tsns = Some (7, 8);
}))
unfolding u16_at u32_at param_value_at result_from
response_read = record {
  is_param = record { headed = omega arith; least = omega arith; within = omega arith };
  kind = (refl, tt);
  value = record { long = omega arith; fields = refl };
}

-- the adaptation layer indication has a name of its own
adaptation_layer : type_from 49158 ≡ AdaptLayerInd
unfolding type_from
adaptation_layer = refl
