-- Which chunks break a rule, of those that the reader of packets does not read.
use Rattle.std.specs.Prelude.{ℕ, zero, suc, ◌+◌, List, length, Bool, true, false, ◌==◌, ◌||◌, not, leb, ltb, if◌then◌else◌}
use Rattle.sctp_util.specs.Field.{u16_at}
use Rattle.sctp_util.specs.Padding.{padded_length}
use Rattle.sctp_util.specs.declared.error.Error.{Error}
use Rattle.sctp_util.specs.declared.error.Error.TheVariants.{ErrUnmarshalUnknownChunkType, ErrParamTypeUnhandled, ErrChunkTypeInitFlagZero}
use Rattle.sctp_util.specs.declared.error.Error.TheVariants.{ErrInvalidAlgorithmType, ErrErrorCauseTooSmall}
use Rattle.sctp_dissect.specs.declared.dissection.RawChunk.{RawChunk}

-- the fewest bytes of ECNE and CWR (RFC 4960 Appendix A), AUTH (RFC 4895 4.1), ASCONF-ACK and ASCONF (RFC 5061 4.1), I-DATA (RFC 8260 2.1), and others
abbrev pub least_length : ℕ → ℕ
least_length typ =
    if typ == 12 || (typ == 13 || (typ == 15 || typ == 128)) then 8
    else if typ == 64 then 20
    else if typ == 193 then 16
    else 4

-- the bytes from a place on are fewer causes than so many, each padded to a multiple of four bytes; the last padding may be missing (RFC 9260 3.2.1, 3.3.10)
unfoldable pub causes_from : ℕ → List ℕ → ℕ → Bool
causes_from zero value at = false
causes_from (suc count) value at =
    if leb (length value) at then true
    else if ltb (length value) (at + 4) then false
    else if ltb (u16_at value (at + 2)) 4 then false
    else if ltb (length value) (at + u16_at value (at + 2)) then false
    else causes_from count value (at + padded_length (u16_at value (at + 2)))

-- a cause takes four bytes at least, so that n bytes are fewer causes than n
abbrev pub are_causes : List ℕ → Bool
are_causes value = causes_from (length value) value 0

-- Types and parameters that the reader does not know break no rule (RFC 9260 3.2, 3.2.1), nor do flags of an INIT, which are ignored (RFC 9260 3.3.2),
-- nor other HMACs (RFC 4895 3.3), nor causes that are padded. All else that it refuses does, and a chunk that is shorter than one of its type can be.
abbrev pub breaks_by : Error → RawChunk → Bool
breaks_by ErrUnmarshalUnknownChunkType r = ltb r.length (least_length r.typ.0)
breaks_by (ErrParamTypeUnhandled parameter) r = false
breaks_by ErrChunkTypeInitFlagZero r = false
breaks_by ErrInvalidAlgorithmType r = false
breaks_by ErrErrorCauseTooSmall r = not (are_causes r.value)
breaks_by _ r = true

abbrev pub breaks_rule : RawChunk → Bool
breaks_rule r = breaks_by r.refusal r
