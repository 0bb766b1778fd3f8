-- The names of codes, as the header for C has them.
use Rattle.std.specs.Prelude.{ℕ, ◌==◌, List, [], ◌∷◌, codes, nat_lt, if◌then◌else◌}

-- of what a call answers
abbrev pub call_names : List (ℕ × List ℕ)
call_names =
    (0, codes "SCTPR_OK")
    ∷ (1, codes "SCTPR_REPEAT")
    ∷ (2, codes "SCTPR_STALE")
    ∷ (3, codes "SCTPR_NOTHING")
    ∷ (16, codes "SCTPR_NO_MEMORY")
    ∷ (17, codes "SCTPR_SHORT_BUFFER")
    ∷ (18, codes "SCTPR_INVALID")
    ∷ (19, codes "SCTPR_LENGTH_TOO_LARGE")
    ∷ (20, codes "SCTPR_BAD_CHECKSUM")
    ∷ (21, codes "SCTPR_UNKNOWN_CHUNK")
    ∷ (22, codes "SCTPR_STREAM_OPEN")
    ∷ (23, codes "SCTPR_STREAM_UNKNOWN")
    ∷ (24, codes "SCTPR_MESSAGE_TOO_LARGE")
    ∷ (25, codes "SCTPR_QUEUE_FULL")
    ∷ (26, codes "SCTPR_TSNS_USED_UP")
    ∷ (27, codes "SCTPR_NOT_IN_FLIGHT")
    ∷ (28, codes "SCTPR_SACK_BEYOND_SENT")
    ∷ (29, codes "SCTPR_SACK_BAD_GAP")
    ∷ (30, codes "SCTPR_TSN_OPPOSITE")
    ∷ (31, codes "SCTPR_STREAM_BUSY")
    ∷ (32, codes "SCTPR_SSNS_USED_UP")
    ∷ (34, codes "SCTPR_TSN_TOO_FAR")
    ∷ (35, codes "SCTPR_WINDOW_FULL")
    ∷ (36, codes "SCTPR_SSN_TOO_FAR")
    ∷ (37, codes "SCTPR_NAMED_STREAM_UNKNOWN")
    ∷ (38, codes "SCTPR_NAMED_SSN_TOO_FAR")
    ∷ (39, codes "SCTPR_RESET_IN_PROGRESS")
    ∷ []

-- of errors of packets and of chunks' headers and types
abbrev pub chunk_error_names : List (ℕ × List ℕ)
chunk_error_names =
    (40, codes "SCTPR_ERR_PACKET_RAW_TOO_SMALL")
    ∷ (41, codes "SCTPR_ERR_PARSE_SCTP_CHUNK_NOT_ENOUGH_DATA")
    ∷ (42, codes "SCTPR_ERR_SCTP_PACKET_SOURCE_PORT_ZERO")
    ∷ (43, codes "SCTPR_ERR_SCTP_PACKET_DESTINATION_PORT_ZERO")
    ∷ (44, codes "SCTPR_ERR_INIT_CHUNK_BUNDLED")
    ∷ (45, codes "SCTPR_ERR_INIT_CHUNK_VERIFY_TAG_NOT_ZERO")
    ∷ (46, codes "SCTPR_ERR_CHUNK_HEADER_TOO_SMALL")
    ∷ (47, codes "SCTPR_ERR_CHUNK_HEADER_INVALID_LENGTH")
    ∷ (48, codes "SCTPR_ERR_CHUNK_HEADER_NOT_ENOUGH_SPACE")
    ∷ (49, codes "SCTPR_ERR_CHUNK_HEADER_PADDING_NON_ZERO")
    ∷ (50, codes "SCTPR_ERR_CHUNK_TYPE_NOT_ABORT")
    ∷ (51, codes "SCTPR_ERR_CHUNK_TYPE_NOT_COOKIE_ACK")
    ∷ (52, codes "SCTPR_ERR_CHUNK_TYPE_NOT_COOKIE_ECHO")
    ∷ (53, codes "SCTPR_ERR_CHUNK_TYPE_NOT_CT")
    ∷ (54, codes "SCTPR_ERR_CHUNK_TYPE_NOT_FORWARD_TSN")
    ∷ (55, codes "SCTPR_ERR_CHUNK_TYPE_NOT_HEARTBEAT")
    ∷ (56, codes "SCTPR_ERR_CHUNK_TYPE_NOT_HEARTBEAT_ACK")
    ∷ (57, codes "SCTPR_ERR_CHUNK_TYPE_NOT_TYPE_INIT")
    ∷ (58, codes "SCTPR_ERR_CHUNK_TYPE_NOT_PAYLOAD_DATA")
    ∷ (59, codes "SCTPR_ERR_CHUNK_TYPE_NOT_RECONFIG")
    ∷ (60, codes "SCTPR_ERR_CHUNK_TYPE_NOT_SACK")
    ∷ (61, codes "SCTPR_ERR_CHUNK_TYPE_NOT_SHUTDOWN")
    ∷ (62, codes "SCTPR_ERR_CHUNK_TYPE_NOT_SHUTDOWN_ACK")
    ∷ (63, codes "SCTPR_ERR_CHUNK_TYPE_NOT_SHUTDOWN_COMPLETE")
    ∷ []

-- of errors of chunks' values
abbrev pub value_error_names : List (ℕ × List ℕ)
value_error_names =
    (64, codes "SCTPR_ERR_CHUNK_TOO_SHORT")
    ∷ (65, codes "SCTPR_ERR_CHUNK_PAYLOAD_SMALL")
    ∷ (66, codes "SCTPR_ERR_CHUNK_VALUE_NOT_LONG_ENOUGH")
    ∷ (67, codes "SCTPR_ERR_CHUNK_TYPE_INIT_FLAG_ZERO")
    ∷ (68, codes "SCTPR_ERR_CHUNK_TYPE_INIT_INITIATE_TAG_ZERO")
    ∷ (69, codes "SCTPR_ERR_INIT_INBOUND_STREAM_REQUEST_ZERO")
    ∷ (70, codes "SCTPR_ERR_INIT_OUTBOUND_STREAM_REQUEST_ZERO")
    ∷ (71, codes "SCTPR_ERR_INIT_ADVERTISED_RECEIVER_1500")
    ∷ (72, codes "SCTPR_ERR_HEARTBEAT_NOT_LONG_ENOUGH_INFO")
    ∷ (73, codes "SCTPR_ERR_HEARTBEAT_PARAM")
    ∷ (74, codes "SCTPR_ERR_HEARTBEAT_ACK_PARAMS")
    ∷ (75, codes "SCTPR_ERR_HEARTBEAT_ACK_NOT_HEARTBEAT_INFO")
    ∷ (76, codes "SCTPR_ERR_CHUNK_RECONFIG_INVALID_PARAM_A")
    ∷ (77, codes "SCTPR_ERR_CHUNK_RECONFIG_INVALID_PARAM_COMBINATION")
    ∷ (78, codes "SCTPR_ERR_SACK_SIZE_NOT_LARGE_ENOUGH_INFO")
    ∷ (79, codes "SCTPR_ERR_INVALID_CHUNK_SIZE")
    ∷ (80, codes "SCTPR_ERR_ERROR_CAUSE_TOO_SMALL")
    ∷ (81, codes "SCTPR_ERR_PARAM_HEADER_TOO_SHORT")
    ∷ (82, codes "SCTPR_ERR_PARAM_TYPE_UNHANDLED")
    ∷ (83, codes "SCTPR_ERR_PARAM_TYPE_UNEXPECTED")
    ∷ (84, codes "SCTPR_ERR_SSN_RESET_REQUEST_PARAM_TOO_SHORT")
    ∷ (85, codes "SCTPR_ERR_SSN_RESET_REQUEST_PARAM_INVALID_LENGTH")
    ∷ (86, codes "SCTPR_ERR_RECONFIG_RESP_PARAM_TOO_SHORT")
    ∷ (87, codes "SCTPR_ERR_INVALID_ALGORITHM_TYPE")
    ∷ (88, codes "SCTPR_ERR_SUPPORTED_ADDRESS_TYPES_PARAM_INVALID_LENGTH")
    ∷ (89, codes "SCTPR_ERR_SHORT_BUFFER")
    ∷ (90, codes "SCTPR_NOT_AS_GIVEN")
    ∷ []

-- the name of a number among these, or that of no code
abbrev pub name_among : List (ℕ × List ℕ) → ℕ → List ℕ
name_among [] n = codes "SCTPR_UNKNOWN"
name_among (x ∷ xs) n = if n == x.0 then x.1 else name_among xs n

unfoldable pub name_of : ℕ → List ℕ
name_of code =
    if nat_lt code 40 then name_among call_names code
    else (if nat_lt code 64 then name_among chunk_error_names code
    else name_among value_error_names code)
