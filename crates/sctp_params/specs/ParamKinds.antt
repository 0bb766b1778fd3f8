-- The kinds of parameters, each read under any type number but where it says otherwise.
use Rattle.std.specs.Prelude.{◌≡◌, ℕ}
use Rattle.sctp_params.specs.Param.{Parameter, heartbeat_info, state_cookie, supported_address_types, outgoing_reset_request, reconfig_response, random}
use Rattle.sctp_params.specs.Param.{chunk_list, requested_hmac_algorithm, supported_extensions, forward_tsn_supported, unknown_param}

abbrev pub IsHeartbeatInfo : ℕ → Parameter → Type 0
IsHeartbeatInfo typ (heartbeat_info b) = Unit {0}
IsHeartbeatInfo typ _ = ⊥

abbrev pub IsStateCookie : ℕ → Parameter → Type 0
IsStateCookie typ (state_cookie b) = Unit {0}
IsStateCookie typ _ = ⊥

abbrev pub IsSupportedAddressTypes : ℕ → Parameter → Type 0
IsSupportedAddressTypes typ (supported_address_types ts) = Unit {0}
IsSupportedAddressTypes typ _ = ⊥

abbrev pub IsOutgoingResetRequest : ℕ → Parameter → Type 0
IsOutgoingResetRequest typ (outgoing_reset_request r) = Unit {0}
IsOutgoingResetRequest typ _ = ⊥

abbrev pub IsReconfigResponse : ℕ → Parameter → Type 0
IsReconfigResponse typ (reconfig_response r) = Unit {0}
IsReconfigResponse typ _ = ⊥

abbrev pub IsRandom : ℕ → Parameter → Type 0
IsRandom typ (random b) = Unit {0}
IsRandom typ _ = ⊥

-- a chunk list is read under its own type number alone
abbrev pub IsChunkList : ℕ → Parameter → Type 0
IsChunkList typ (chunk_list ts) = typ ≡ 32771
IsChunkList typ _ = ⊥

abbrev pub IsRequestedHmacAlgorithm : ℕ → Parameter → Type 0
IsRequestedHmacAlgorithm typ (requested_hmac_algorithm hs) = Unit {0}
IsRequestedHmacAlgorithm typ _ = ⊥

abbrev pub IsSupportedExtensions : ℕ → Parameter → Type 0
IsSupportedExtensions typ (supported_extensions ts) = Unit {0}
IsSupportedExtensions typ _ = ⊥

abbrev pub IsForwardTsnSupported : ℕ → Parameter → Type 0
IsForwardTsnSupported typ forward_tsn_supported = Unit {0}
IsForwardTsnSupported typ _ = ⊥

-- an unknown parameter keeps the number that it stands under
abbrev pub IsUnknownParam : ℕ → Parameter → Type 0
IsUnknownParam typ (unknown_param n b) = typ ≡ n
IsUnknownParam typ _ = ⊥
