-- The value of an INIT and of an INIT ACK (RFC 9260 3.3.2, 3.3.3).
use Rattle.std.specs.Prelude.{ℕ, zero, suc, ◌+◌, ◌-◌, min, Bool, true, false, ◌&&◌, ◌||◌, not, ◌==◌, nat_lt, nat_le, if◌then◌else◌}
use Rattle.std.specs.Prelude.{List, [], ◌∷◌, ◌++◌, length, drop, slice_range, Option, Some, None, Result, Ok, Err}
use Rattle.std.specs.List.{list_any}
use Rattle.sctp_util.specs.Field.{be16, be32, u16_at, u32_at}
use Rattle.sctp_util.specs.Padding.{padded_length}
use Rattle.sctp_params.specs.ParamFraming.{param_declared_length, param_type_at}
use Rattle.sctp_datagram.specs.declared.params.ParamPlace.{ParamPlace}
use Rattle.sctp_datagram.specs.Params.{is_stopping}
use Rattle.sctp_handshake.specs.declared.init_value.InitFault.{InitFault}
use Rattle.sctp_handshake.specs.declared.init_value.InitFault.TheVariants.{ShortValue, BrokenParameter, MissingCookie}
use Rattle.sctp_handshake.specs.declared.init_value.Reported.{Reported}
use Rattle.sctp_handshake.specs.declared.init_value.Said.{Said}
use Rattle.sctp_handshake.specs.declared.offer.Offer.{Offer}
use Rattle.sctp_handshake.specs.ParamTypes.{ends_at, is_told, param_if}

-- ## Parameters (RFC 9260 3.2.1)

-- a parameter begins at a place
abbrev pub is_param : List ℕ → ℕ → Bool
is_param value at =
    let rest = drop at value in
    nat_le 4 (length rest) && nat_le 4 (param_declared_length rest)
    && nat_le (param_declared_length rest) (length rest)

-- where it lies
abbrev pub place : List ℕ → ℕ → ParamPlace
place value at = let rest = drop at value in record {
  typ = param_type_at rest;
  at = at + 4;
  length = param_declared_length rest - 4;
  next = at + min (padded_length (param_declared_length rest)) (length rest);
}

-- ## What is read

-- the numbers before the parameters
abbrev pub numbers_in : List ℕ → Said
numbers_in value = record {
  offer =
      record {
        tag = u32_at value 0;
        window = u32_at value 4;
        outbound_streams = u16_at value 8;
        inbound_streams = u16_at value 10;
        first_tsn = u32_at value 12;
        forward_tsn = false;
        reconfig = false;
        zero_checksum = false;
      };
  cookie = None;
}

abbrev pub value_of : List ℕ → ParamPlace → List ℕ
value_of value p = slice_range value p.at (p.at + p.length)

-- Supported Extensions has this chunk type (RFC 5061 4.2.7)
abbrev pub has_extension : ℕ → List ℕ → Bool
has_extension typ types = list_any (λ t. t == typ) types

abbrev pub with_extensions : List ℕ → Offer → Offer
with_extensions types o =
    record o {
      forward_tsn = o.forward_tsn || has_extension 192 types;
      reconfig = o.reconfig || has_extension 130 types;
    }

-- the method of RFC 9653 4.1 for DTLS
abbrev pub is_dtls : List ℕ → Bool
is_dtls bytes = (length bytes == 4) && (u32_at bytes 0 == 1)

abbrev pub with_method : List ℕ → Offer → Offer
with_method bytes o = record o { zero_checksum = o.zero_checksum || is_dtls bytes }

abbrev pub first_of : Option ParamPlace → ParamPlace → Option ParamPlace
first_of None p = Some p
first_of (Some q) p = Some q

-- what a parameter adds: Forward-TSN-Supported (RFC 3758 3.1), Supported Extensions, Zero Checksum Acceptable, State Cookie
abbrev pub noted : List ℕ → ParamPlace → Said → Said
noted value p s =
    if p.typ == 0xC000 then record s { offer = record s.offer { forward_tsn = true } }
    else (if p.typ == 0x8008 then record s { offer = with_extensions (value_of value p) s.offer }
    else (if p.typ == 0x8001 then record s { offer = with_method (value_of value p) s.offer }
    else (if p.typ == 7 then record s { cookie = first_of s.cookie p } else s)))

-- What is said from a place on, by at most so many parameters. Each takes four bytes at least, so there are fewer than bytes.
abbrev pub said_from : ℕ → List ℕ → ℕ → Said → Result Said InitFault
said_from zero value at s = Ok s
said_from (suc most) value at s =
    if nat_lt (length value) (at + 4) then Ok s
    else (if not (is_param value at) then Err BrokenParameter
    else (if ends_at (place value at).typ then Ok s
    else said_from most value (place value at).next (noted value (place value at) s)))

-- what a value says, or why it says nothing
abbrev pub init_in : List ℕ → Result Said InitFault
init_in value =
    if nat_lt (length value) 16 then Err ShortValue
    else said_from (length value) value 16 (numbers_in value)

-- the offer of an INIT ACK and its cookie
abbrev pub cookie_by : Offer → Option ParamPlace → Result (Offer × ParamPlace) InitFault
cookie_by o None = Err MissingCookie
cookie_by o (Some p) = Ok (o, p)

abbrev pub cookie_in : Result Said InitFault → Result (Offer × ParamPlace) InitFault
cookie_in (Err e) = Err e
cookie_in (Ok s) = cookie_by s.offer s.cookie

-- ## What is told of (RFC 9260 3.2.2)

-- a parameter that begins at a place; behind one that reading ends at there is no other
abbrev pub report : List ℕ → ℕ → ParamPlace → Reported
report value at p = record {
  from = at;
  to = p.at + p.length;
  next = if is_stopping p.typ then length value else p.next;
}

-- the first from a place on, among at most so many parameters
abbrev pub told_from : ℕ → List ℕ → ℕ → Option Reported
told_from zero value at = None
told_from (suc most) value at =
    if not (is_param value at) then None
    else (if is_told (place value at).typ then Some (report value at (place value at))
    else (if ends_at (place value at).typ then None
    else told_from most value (place value at).next))

-- ## Host Name Address (RFC 9260 3.3.2.1.4)

-- the first from a place on, among at most so many parameters that are read
abbrev pub host_name_from : ℕ → List ℕ → ℕ → Option ParamPlace
host_name_from zero value at = None
host_name_from (suc most) value at =
    if not (is_param value at) then None
    else (if (place value at).typ == 11 then Some (place value at)
    else (if ends_at (place value at).typ then None
    else host_name_from most value (place value at).next))

abbrev pub host_name_of : List ℕ → Option ParamPlace
host_name_of value = host_name_from (length value) value 16

-- ## What is written

-- the chunk types of Supported Extensions
abbrev pub extensions_of : Bool → Bool → List ℕ
extensions_of true true = 130 ∷ 192 ∷ []
extensions_of true false = 130 ∷ []
extensions_of false true = 192 ∷ []
extensions_of false false = []

-- the parameters of an offer; the last one has no padding, which a chunk's length does not count
abbrev pub offer_params : Offer → List ℕ
offer_params o =
    param_if o.forward_tsn 0xC000 [] ++ param_if o.zero_checksum 0x8001 (0 ∷ 0 ∷ 0 ∷ 1 ∷ [])
    ++ param_if (o.reconfig || o.forward_tsn) 0x8008 (extensions_of o.reconfig o.forward_tsn)

abbrev pub number_bytes : Offer → List ℕ
number_bytes o =
    be32 o.tag ++ be32 o.window ++ be16 o.outbound_streams ++ be16 o.inbound_streams
    ++ be32 o.first_tsn

abbrev pub init_bytes : Offer → List ℕ
init_bytes o = number_bytes o ++ offer_params o
