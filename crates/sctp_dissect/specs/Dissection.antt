-- What a datagram shows, whatever its bytes: a header, items by their declared lengths, and a rest.
use Rattle.std.specs.Prelude.{◌≡◌, ℕ, ◌≤◌, ◌<◌, List, [], ◌++◌, length, take, map, Option, Some, None}
use Rattle.std.specs.List.{flat_map}
use Rattle.sctp_util.specs.Field.{u16_at, u32_at, u32_le_at}
use Rattle.sctp_util.specs.Padding.{padded_length}
use Rattle.sctp_chunks.specs.Framing.{type_at, flags_at, declared_length, value_at}
use Rattle.sctp_chunks.specs.Wire.{Wire}
use Rattle.sctp_chunks.specs.Kind.{wire_of, IsFreshKind}
use Rattle.sctp_packets.specs.Packet.{Parts, Steps, checksum_input}
use Rattle.sctp_packets.specs.Fault.{PlaceFault}
use Rattle.sctp_dissect.specs.declared.dissection.Header.{Header}
use Rattle.sctp_dissect.specs.declared.dissection.RawChunk.{RawChunk}
use Rattle.sctp_dissect.specs.declared.dissection.Reading.{Reading}
use Rattle.sctp_dissect.specs.declared.dissection.Reading.TheVariants.{Strict, Raw}
use Rattle.sctp_dissect.specs.declared.dissection.Item.{Item}
use Rattle.sctp_dissect.specs.declared.dissection.Fault.{Fault}
use Rattle.sctp_dissect.specs.declared.dissection.Fault.TheVariants.{ShortPacket, ShortHeader, LengthTooSmall, LengthPastEnd}
use Rattle.sctp_dissect.specs.declared.dissection.Dissection.{Dissection}

-- the bytes begin with a chunk, all of it by the length that it declares. Padding may be missing
pub record IsWhole (bytes : List ℕ) : Type 0 where
  pub headed : 4 ≤ length bytes
  pub least : 4 ≤ declared_length bytes
  pub within : declared_length bytes ≤ length bytes

-- that chunk, and what there is of its padding
unfoldable pub span : List ℕ → List ℕ
span bytes = take (padded_length (declared_length bytes)) bytes

-- the header of the datagram, the checksum that stands in it, and that of its bytes
pub record ReadsHeader (sum : List ℕ → ℕ) (datagram : List ℕ) (h : Header) : Type 0 where
  pub bytes : h.bytes ≡ take 12 datagram
  pub source_port : h.fields.source_port ≡ u16_at datagram 0
  pub destination_port : h.fields.destination_port ≡ u16_at datagram 2
  pub verification_tag : h.fields.verification_tag ≡ u32_at datagram 4
  pub checksum : h.checksum ≡ u32_le_at datagram 8
  pub computed : h.computed ≡ sum (checksum_input datagram)

-- The chunk that the bytes begin with is no step of the reader of packets, and this is why.
pub record IsRaw (bytes : List ℕ) (r : RawChunk) : Type 0 where
  pub typ : r.typ.0 ≡ type_at bytes
  pub flags : r.flags ≡ flags_at bytes
  pub declares : r.length ≡ declared_length bytes
  pub value : r.value ≡ value_at bytes
  pub refusal : PlaceFault r.refusal bytes
  pub refused : (w : Wire) → Steps bytes w → ⊥

-- what the chunk that the bytes begin with is read as: by the grammar of packets, or raw where that has no chunk here
abbrev pub Reads : List ℕ → Reading → Type 0
Reads bytes (Strict k) = Steps bytes (wire_of k) × IsFreshKind k
Reads bytes (Raw r) = IsRaw bytes r

-- the item that the bytes begin with
pub record Shows (rest : List ℕ) (item : Item) : Type 0 where
  pub whole : IsWhole rest
  pub bytes : item.bytes ≡ span rest
  pub reading : Reads rest item.reading

-- why the walk ends before these bytes
abbrev pub Stops : Option Fault → List ℕ → Type 0
Stops None rest = rest ≡ []
Stops (Some ShortPacket) rest = ⊥
Stops (Some ShortHeader) rest = (0 < length rest) × (length rest < 4)
Stops (Some LengthTooSmall) rest = (4 ≤ length rest) × (declared_length rest < 4)
Stops (Some LengthPastEnd) rest =
    (4 ≤ length rest) × (4 ≤ declared_length rest) × (length rest < declared_length rest)

-- what a datagram of fewer than twelve bytes shows
pub record IsShort (datagram : List ℕ) (d : Dissection) : Type 0 where
  pub header : d.header ≡ None
  pub items : d.items.items ≡ []
  pub rest : d.rest ≡ datagram
  pub fault : d.fault ≡ Some ShortPacket

-- ---- all of it

abbrev pub header_bytes : Option Header → List ℕ
header_bytes None = []
header_bytes (Some h) = h.bytes

abbrev pub item_bytes : Item → List ℕ
item_bytes item = item.bytes

-- the bytes that are shown, in order
abbrev pub shown_bytes : Dissection → List ℕ
shown_bytes d = header_bytes d.header ++ flat_map item_bytes d.items.items ++ d.rest

-- ---- a packet

-- the header is that of the packet, and its checksum is right
abbrev pub IsHeader : Option Header → Parts → Type 0
IsHeader None p = ⊥
IsHeader (Some h) p = (h.checksum ≡ h.computed) × (p.source_port ≡ h.fields.source_port)
    × (p.destination_port ≡ h.fields.destination_port)
    × (p.verification_tag ≡ h.fields.verification_tag)

-- the chunk that an item is read as, if it is not raw
abbrev pub wire_in : Reading → Option Wire
wire_in (Strict k) = Some (wire_of k)
wire_in (Raw r) = None

-- what is shown is this packet, with no raw item and nothing left over
pub record IsPacket (d : Dissection) (p : Parts) : Type 0 where
  pub header : IsHeader d.header p
  pub chunks : map (λ item. wire_in item.reading) d.items.items ≡ map Some p.chunks
  pub rest : d.rest ≡ []
  pub fault : d.fault ≡ None
