-- What the bytes of packets are: user data, control chunks and headers.
use Rattle.std.specs.Prelude.{ℕ, ◌+◌, ◌-◌, ◌==◌, ◌&&◌, ◌||◌, Bool, if◌then◌else◌, min, nat_lt, List, [], ◌∷◌, length}
use Rattle.std.specs.List.{list_any}
use Rattle.sctp_util.specs.Field.{u32_at}
use Rattle.sctp_chunks.specs.Framing.{type_at, declared_length}
use Rattle.sctp_show.specs.Filter.{is_data}
use Rattle.sctp_follow.specs.Flow.{counted, payload_length}
use Rattle.sctp_follow.specs.Tsns.{contains}
use Rattle.sctp_follow.specs.declared.load.Kind.{Kind}
use Rattle.sctp_follow.specs.declared.load.Kind.TheVariants.{First, Again, Control, Headers}
use Rattle.sctp_follow.specs.declared.load.Load.{Load}
use Rattle.sctp_follow.specs.declared.tsns.Tsns.{Tsns}

-- no bytes
abbrev pub nothing : Load
nothing = record { first = 0; again = 0; control = 0; headers = 0 }

-- all bytes
abbrev pub total : Load → ℕ
total load = min (load.first + load.again + load.control + load.headers) 18446744073709551615

-- with so many bytes more of a kind
abbrev pub with_bytes : Kind → ℕ → Load → Load
with_bytes First bytes load = record load { first = counted load.first bytes }
with_bytes Again bytes load = record load { again = counted load.again bytes }
with_bytes Control bytes load = record load { control = counted load.control bytes }
with_bytes Headers bytes load = record load { headers = counted load.headers bytes }

-- ---- a chunk

-- what its bytes are, if its TSN came before or not: user data, or a control chunk
abbrev pub kind_of : Bool → List ℕ → Kind
kind_of is_again chunk = if is_data chunk then (if is_again then Again else First) else Control

-- of a chunk of DATA or I-DATA not all of the fixed part is there, or of another one no length
abbrev pub is_headless : List ℕ → Bool
is_headless chunk = nat_lt (length chunk) 4 || (type_at chunk == 0) || (type_at chunk == 64)

-- how many these are: the user data of DATA and I-DATA, or a control chunk with its header. Neither has the padding
abbrev pub size_of : List ℕ → ℕ
size_of chunk =
    if is_data chunk then payload_length chunk
    else if is_headless chunk then 0
    else declared_length chunk

-- ---- a packet

-- the chunk is DATA or I-DATA with this TSN
abbrev pub has_tsn : ℕ → List ℕ → Bool
has_tsn tsn chunk = is_data chunk && (u32_at chunk 4 == tsn)

-- a TSN came in earlier packets, which had these ones, or in earlier chunks of this one
abbrev pub came : Tsns → List (List ℕ) → ℕ → Bool
came seen earlier tsn = contains seen tsn || list_any (has_tsn tsn) earlier

-- Behind the chunks of a packet that has so many bytes left, after earlier chunks: no chunk has more than what is left, and what is left behind all of them are
-- headers. These are the packet's, those of DATA and I-DATA, and padding; and so is what is no chunk.
unfoldable pub behind : Tsns → List (List ℕ) → ℕ → List (List ℕ) → Load → Load
behind seen earlier left [] load = with_bytes Headers left load
behind seen earlier left (chunk ∷ chunks) load =
    behind seen (chunk ∷ earlier) (left - size_of chunk) chunks
    (with_bytes (kind_of (came seen earlier (u32_at chunk 4)) chunk) (min left (size_of chunk)) load)
