-- Which packets are shown.
use Rattle.std.specs.Prelude.{ℕ, ◌/◌, ◌%◌, Bool, true, false, ◌==◌, ◌&&◌, ◌||◌, not, leb, if◌then◌else◌, List, length, Option, Some, None}
use Rattle.std.specs.List.{list_any}
use Rattle.sctp_util.specs.Serial.{distance}
use Rattle.sctp_util.specs.Field.{u16_at, u32_at}
use Rattle.sctp_chunks.specs.Framing.{type_at, flags_at}
use Rattle.sctp_dissect.specs.declared.dissection.Header.{Header}
use Rattle.sctp_dissect.specs.declared.dissection.Reading.{Reading}
use Rattle.sctp_dissect.specs.declared.dissection.Reading.TheVariants.{Strict, Raw}
use Rattle.sctp_dissect.specs.declared.dissection.Item.{Item}
use Rattle.sctp_dissect.specs.declared.dissection.Dissection.{Dissection}
use Rattle.sctp_dissect.specs.declared.dissection.Fault.{Fault}
use Rattle.sctp_dissect.specs.declared.dissection.Fault.TheVariants.{ShortPacket, ShortHeader, LengthTooSmall, LengthPastEnd}
use Rattle.sctp_show.specs.Cut.{missing_of}
use Rattle.sctp_show.specs.Rules.{breaks_rule}
use Rattle.sctp_show.specs.declared.filter.TsnRange.{TsnRange}
use Rattle.sctp_show.specs.declared.filter.Filter.{Filter}
use Rattle.sctp_show.specs.declared.scene.Scene.{Scene}
use Rattle.sctp_show.specs.Scene.{is_span_asked}

-- ---- what a chunk says, by its bytes

-- DATA (RFC 4960 3.3.1) or I-DATA (RFC 8260 2.1), with all of its fixed part
abbrev pub is_data : List ℕ → Bool
is_data bytes =
    (leb 16 (length bytes) && (type_at bytes == 0))
    || (leb 20 (length bytes) && (type_at bytes == 64))

abbrev pub tsn_of : List ℕ → Option ℕ
tsn_of bytes = if is_data bytes then Some (u32_at bytes 4) else None

abbrev pub stream_of : List ℕ → Option ℕ
stream_of bytes = if is_data bytes then Some (u16_at bytes 8) else None

-- of I-DATA only a first fragment has a payload type: the second bit of its flags is set
abbrev pub payload_type_of : List ℕ → Option ℕ
payload_type_of bytes =
    if not (is_data bytes) then None
    else if type_at bytes == 0 then Some (u32_at bytes 12)
    else if flags_at bytes / 2 % 2 == 1 then Some (u32_at bytes 16)
    else None

-- ---- what is asked for

-- the number is one of those that are asked for, or none is asked for
abbrev pub is_asked : List ℕ → ℕ → Bool
is_asked numbers n = (length numbers == 0) || list_any (λ k. k == n) numbers

-- the same of a number that may be missing
abbrev pub is_asked_of : List ℕ → Option ℕ → Bool
is_asked_of numbers None = length numbers == 0
is_asked_of numbers (Some n) = is_asked numbers n

-- from the first TSN up to the last, which may lie behind 2^32 - 1, where 0 follows
abbrev pub is_in_range : ℕ → TsnRange → Bool
is_in_range tsn range = leb (distance range.first tsn) (distance range.first range.last)

abbrev pub is_tsn_asked : List TsnRange → Option ℕ → Bool
is_tsn_asked ranges None = length ranges == 0
is_tsn_asked ranges (Some tsn) = (length ranges == 0) || list_any (is_in_range tsn) ranges

-- ---- which packets pass

-- the chunk is of a type, a stream, a TSN and a payload type that are asked for
abbrev pub meets : Filter → Item → Bool
meets f item =
    is_asked f.types.items (type_at item.bytes)
    && is_asked_of f.streams.items (stream_of item.bytes)
    && is_tsn_asked f.tsns.items (tsn_of item.bytes)
    && is_asked_of f.payload_types.items (payload_type_of item.bytes)

-- no chunk is asked for
abbrev pub asks_no_chunk : Filter → Bool
asks_no_chunk f =
    (length f.types.items == 0) && (length f.streams.items == 0)
    && (length f.tsns.items == 0) && (length f.payload_types.items == 0)

-- the header has a port, of either end, and a tag that are asked for
abbrev pub has_asked_header : Filter → Option Header → Bool
has_asked_header f None = (length f.ports.items == 0) && (length f.tags.items == 0)
has_asked_header f (Some h) =
    (is_asked f.ports.items h.fields.source_port || is_asked f.ports.items h.fields.destination_port)
    && is_asked f.tags.items h.fields.verification_tag

-- the reader of packets does not read the chunk, and it breaks a rule
abbrev pub breaks : Reading → Bool
breaks (Strict k) = false
breaks (Raw r) = breaks_rule r

-- DATA or I-DATA without user data, by the length that it declares (RFC 9260 6.2)
abbrev pub is_empty_data : List ℕ → Bool
is_empty_data bytes =
    is_data bytes && (u16_at bytes 2 == (if type_at bytes == 0 then 16 else 20))

-- a chunk that breaks a rule is refused where it is there to its end, or no bytes are missing
abbrev pub is_bad : ℕ → Item → Bool
is_bad missing item =
    (breaks item.reading || is_empty_data item.bytes)
    && (missing == 0 || missing_of item.bytes == 0)

-- Bytes are left over that begin no chunk. Where bytes are missing, fewer than a header takes are a header that is cut off.
abbrev pub is_left_over : ℕ → Option Fault → Bool
is_left_over missing None = false
is_left_over missing (Some ShortPacket) = missing == 0
is_left_over missing (Some ShortHeader) = missing == 0
is_left_over missing (Some LengthTooSmall) = true
is_left_over missing (Some LengthPastEnd) = true

-- a chunk is refused, or bytes are left over, of a packet of which so many bytes are missing
abbrev pub is_refused : ℕ → Dissection → Bool
is_refused missing d = is_left_over missing d.fault || list_any (is_bad missing) d.items.items

-- it went between addresses that are asked for, of either end, of the source and of the destination, at a time that is
abbrev pub has_asked_scene : Filter → Scene → Bool
has_asked_scene f s =
    (is_span_asked f.addresses.items s.source || is_span_asked f.addresses.items s.destination)
    && is_span_asked f.sources.items s.source && is_span_asked f.destinations.items s.destination
    && is_span_asked f.times.items s.since

abbrev pub asks_no_scene : Filter → Bool
asks_no_scene f =
    (length f.addresses.items == 0) && (length f.sources.items == 0)
    && (length f.destinations.items == 0) && (length f.times.items == 0)

-- A packet passes where its header is asked for, one of its chunks meets all that is asked of a chunk, it is refused, if only those are asked for,
-- its checksum is wrong, if only those are, and where and when it was captured is asked for.
abbrev pub passes : Filter → Scene → Dissection → Bool
passes f s d =
    has_asked_header f d.header
    && (asks_no_chunk f || list_any (meets f) d.items.items)
    && (not f.only_refused || is_refused s.missing d)
    && (not f.only_wrong || s.is_wrong)
    && has_asked_scene f s

-- Any packet passes. Only then is a record shown that has no packet.
abbrev pub asks_nothing : Filter → Bool
asks_nothing f =
    (length f.ports.items == 0) && (length f.tags.items == 0) && asks_no_chunk f
    && not f.only_refused && not f.only_wrong && asks_no_scene f
