-- What is printed of a chunk.
use Rattle.std.specs.Prelude.{◌≡◌, ℕ, List, [], ◌++◌, length, drop, codes, decimal, Bool, true, false, ◌==◌, if◌then◌else◌}
use Rattle.sctp_util.specs.Serial.{distance}
use Rattle.sctp_util.specs.Field.{u16_at, u32_at}
use Rattle.sctp_data.specs.declared.chunk.chunk_payload_data.ChunkPayloadData.{ChunkPayloadData}
use Rattle.sctp_dissect.specs.declared.dissection.RawChunk.{RawChunk}
use Rattle.sctp_show.specs.declared.chunk_text.Head.{Head}
use Rattle.sctp_show.specs.declared.page.Form.{Form}
use Rattle.sctp_show.specs.declared.page.Form.TheVariants.{Text, Json}
use Rattle.sctp_show.specs.Names.{payload_name}
use Rattle.sctp_show.specs.Page.{number_text, truth_text, bytes_text, words_text}

-- the name of a payload protocol identifier, if it has one
abbrev pub payload_text : Form → ℕ → List ℕ
payload_text form ppid =
    if length (payload_name ppid) == 0 then []
    else words_text form (codes "Payload type") (codes "payload_type") (payload_name ppid)

-- behind the old text, of DATA: its fields, the TSN relative to a base, the payload type that stands in its bytes, its user data
abbrev pub data_text : Form → List ℕ → ℕ → ChunkPayloadData → ℕ → List ℕ
data_text form old base c ppid =
    old
    ++ number_text form (codes "TSN") (codes "tsn") (distance base c.tsn)
    ++ number_text form (codes "Stream identifier") (codes "stream") c.stream_identifier
    ++ number_text form (codes "Stream sequence number") (codes "ssn") c.stream_sequence_number
    ++ number_text form (codes "Payload protocol identifier") (codes "ppid") ppid
    ++ payload_text form ppid
    ++ truth_text form (codes "Unordered") (codes "unordered") c.unordered
    ++ truth_text form (codes "First fragment") (codes "first") c.beginning_fragment
    ++ truth_text form (codes "Last fragment") (codes "last") c.ending_fragment
    ++ truth_text form (codes "Immediate SACK") (codes "immediate") c.immediate_sack
    ++ bytes_text form (codes "User data") (codes "data") c.user_data

-- DATA of which all of the fixed part is there (RFC 9260 3.3.1), and as much of the user data as is
pub record IsCutData (raw : RawChunk) (c : ChunkPayloadData) : Type 0 where
  pub tsn : c.tsn ≡ u32_at raw.value 0
  pub stream : c.stream_identifier ≡ u16_at raw.value 4
  pub number : c.stream_sequence_number ≡ u16_at raw.value 6
  pub user_data : c.user_data ≡ drop 12 raw.value

-- behind the old text, of the fixed part of an INIT or INIT-ACK (RFC 4960 3.3.2), its TSN relative to a base
abbrev pub init_text : Form → List ℕ → ℕ → List ℕ → List ℕ
init_text form old base value =
    old
    ++ number_text form (codes "Initiate tag") (codes "initiate_tag") (u32_at value 0)
    ++ number_text form (codes "Advertised receiver window credit") (codes "credit")
    (u32_at value 4)
    ++ number_text form (codes "Outbound streams") (codes "outbound_streams") (u16_at value 8)
    ++ number_text form (codes "Inbound streams") (codes "inbound_streams") (u16_at value 10)
    ++ number_text form (codes "Initial TSN") (codes "initial_tsn")
    (distance base (u32_at value 12))

-- behind the old text, of I-DATA (RFC 8260 2.1), its TSN relative to a base
abbrev pub i_data_text : Form → List ℕ → ℕ → List ℕ → List ℕ
i_data_text form old base value =
    old
    ++ number_text form (codes "TSN") (codes "tsn") (distance base (u32_at value 0))
    ++ number_text form (codes "Stream identifier") (codes "stream") (u16_at value 4)
    ++ number_text form (codes "Message identifier") (codes "mid") (u32_at value 8)
    ++ number_text form (codes "Payload protocol identifier or fragment") (codes "ppid_or_fsn")
    (u32_at value 12)
    ++ bytes_text form (codes "User data") (codes "data") (drop 16 value)

-- ---- a block

-- a chunk's name, type, flags (by their hex digits) and length, and what it shows, as text
abbrev pub block_lines : List ℕ → List ℕ → Head → List ℕ → List ℕ
block_lines name digits h shown =
    codes "    " ++ (name ++ (codes " chunk: type "
    ++ (decimal h.typ ++ (codes ", flags 0x"
    ++ (digits ++ (codes ", length " ++ (decimal h.length ++ (codes "\n" ++ shown))))))))

-- the same as JSON, behind what it begins with
abbrev pub block_object : List ℕ → List ℕ → Head → List ℕ → List ℕ
block_object lead name h shown =
    lead ++ (codes "\"type\":" ++ (decimal h.typ
    ++ (codes ",\"name\":\"" ++ (name
    ++ (codes "\",\"flags\":" ++ (decimal h.flags
    ++ (codes ",\"length\":" ++ (decimal h.length ++ (shown ++ codes "}")))))))))

-- a block; objects stand between commas
abbrev pub block_text : Form → Bool → List ℕ → List ℕ → Head → List ℕ → List ℕ
block_text Text is_first name digits h shown = block_lines name digits h shown
block_text Json true name digits h shown = block_object (codes "{") name h shown
block_text Json false name digits h shown = block_object (codes ",{") name h shown
