-- The requests of a RE-CONFIG as they are written (RFC 6525 3.1, 4.1, 4.2, 4.3, 4.5, 4.6).
use Rattle.std.specs.Prelude.{ℕ, ◌+◌, ◌-◌, ◌%◌, Bool, ◌&&◌, ◌||◌, ◌==◌, nat_le, if◌then◌else◌, List, ◌++◌, length, drop}
use Rattle.std.specs.List.{flat_map}
use Rattle.sctp_util.specs.Field.{be16, be32}
use Rattle.sctp_util.specs.Padding.{padded_length}
use Rattle.sctp_params.specs.ParamFraming.{param_declared_length, param_framed, param_type_at}
use Rattle.sctp_c.specs.Out.{padded}
use Rattle.sctp_c.specs.Reconfig.{add_streams_type}
use Rattle.sctp_c.specs.declared.reconfig.SctpAddStreams.{SctpAddStreams}
use Rattle.sctp_c.specs.declared.reconfig.SctpReset.{SctpReset}

-- ## From their words

-- Outgoing SSN Reset Request (4.1), and its padding
abbrev pub reset_bytes : SctpReset → List ℕ → List ℕ
reset_bytes t streams =
    padded (param_framed 13 ((be32 t.request ++ be32 t.response ++ be32 t.last_tsn)
    ++ flat_map be16 streams))

-- Incoming SSN Reset Request (4.2), and its padding
abbrev pub incoming_reset_bytes : ℕ → List ℕ → List ℕ
incoming_reset_bytes request streams =
    padded (param_framed 14 (be32 request ++ flat_map be16 streams))

-- SSN/TSN Reset Request (4.3)
abbrev pub ssn_tsn_reset_bytes : ℕ → List ℕ
ssn_tsn_reset_bytes request = param_framed 15 (be32 request)

-- Add Outgoing Streams Request, or Add Incoming Streams Request: behind the number of new streams two bytes are reserved (4.5, 4.6)
abbrev pub add_streams_bytes : SctpAddStreams → List ℕ
add_streams_bytes t =
    param_framed (add_streams_type t) (be32 t.request ++ be16 t.count ++ be16 0)

-- ## From their bytes

-- the types that no reader of a whole packet takes
abbrev pub is_own : ℕ → Bool
is_own typ = typ == 14 || (typ == 15 || (typ == 17 || typ == 18))

-- a request of this type has a value of so many bytes: with streams, two for each behind its numbers
abbrev pub has_length_of : ℕ → ℕ → Bool
has_length_of typ n =
    (typ == 13 && (nat_le 12 n && n % 2 == 0))
    || ((typ == 14 && (nat_le 4 n && n % 2 == 0))
    || ((typ == 15 && n == 4) || ((typ == 17 || typ == 18) && n == 8)))

-- the bytes begin with a request of such a length
abbrev pub is_sized : List ℕ → Bool
is_sized bytes =
    nat_le 4 (length bytes) && (nat_le (param_declared_length bytes) (length bytes)
    && has_length_of (param_type_at bytes) (param_declared_length bytes - 4))

-- how many bytes it takes with its padding
abbrev pub padded_span : List ℕ → ℕ
padded_span bytes = padded_length (param_declared_length bytes)

-- nothing else follows it
abbrev pub is_last : List ℕ → Bool
is_last bytes = is_sized bytes && nat_le (length bytes) (padded_span bytes)

-- requests of these types may stand together, the first in front (3.1)
abbrev pub may_precede : ℕ → ℕ → Bool
may_precede a b = (a == 13 && b == 14) || (a == 17 && b == 18)

-- one request follows another
abbrev pub are_two : List ℕ → Bool
are_two value =
    is_sized value && (is_last (drop (padded_span value) value)
    && may_precede (param_type_at value) (param_type_at (drop (padded_span value) value)))

-- where a value's requests end, without the padding of the last one: 0, where a value is not one of them or two that may stand together
abbrev pub requests_end : List ℕ → ℕ
requests_end value =
    if is_last value && is_own (param_type_at value) then param_declared_length value
    else (if are_two value
    then padded_span value + param_declared_length (drop (padded_span value) value)
    else 0)
