-- Messages of I-DATA chunks (RFC 8260).
use Rattle.std.specs.Prelude.{◌≡◌, ℕ, ◌+◌, ◌-◌, ◌/◌, ◌%◌, ◌<◌, Bool, true, ◌&&◌, ◌||◌, not, leb, nat_lt, if◌then◌else◌, List, length, ◌==◌, min, max, slice_range, slice_index_or}
use Rattle.std.specs.List.{flat_map}
use Rattle.sctp_util.specs.Field.{u16_at, u32_at}
use Rattle.sctp_chunks.specs.Framing.{type_at, flags_at, declared_length}
use Rattle.sctp_follow.specs.declared.interleave.Fragment.{Fragment}
use Rattle.sctp_follow.specs.declared.interleave.Name.{Name}

-- ---- what an I-DATA chunk says (RFC 8260 2.1)

abbrev pub is_first : List ℕ → Bool
is_first bytes = flags_at bytes / 2 % 2 == 1

-- of the first fragment it is the payload protocol identifier, of another one its place
abbrev pub field_of : List ℕ → ℕ
field_of bytes = u32_at bytes 16

-- it has user data, and the place 0 is that of a first fragment
abbrev pub is_i_data : List ℕ → Bool
is_i_data bytes =
    leb 20 (length bytes) && (type_at bytes == 64) && nat_lt 20 (declared_length bytes)
    && (is_first bytes || nat_lt 0 (field_of bytes))

-- which message it is of
abbrev pub name_of : List ℕ → Name
name_of bytes =
    record {
      stream = u16_at bytes 8;
      unordered = flags_at bytes / 4 % 2 == 1;
      number = u32_at bytes 12;
    }

-- the fragment that it is
pub record IsFragmentOf (bytes : List ℕ) (f : Fragment) : Type 0 where
  pub tsn : f.tsn ≡ u32_at bytes 4
  pub place : f.place ≡ (if is_first bytes then 0 else field_of bytes)
  pub identifier : f.identifier ≡ (if is_first bytes then field_of bytes else 0)
  pub last : f.is_last ≡ (flags_at bytes % 2 == 1)
  pub carried : f.bytes.items ≡ slice_range bytes 20 (max 20 (min (declared_length bytes) (length bytes)))

-- ---- what an I-FORWARD-TSN says (RFC 8260 2.3.1)

-- how many messages it names, as far as they are there
abbrev pub name_count : List ℕ → ℕ
name_count bytes =
    if nat_lt (length bytes) 8 then 0 else (min (declared_length bytes) (length bytes) - 8) / 8

-- one of them
abbrev pub name_at : List ℕ → ℕ → Name
name_at bytes at =
    record {
      stream = u16_at bytes at;
      unordered = u16_at bytes (at + 2) % 2 == 1;
      number = u32_at bytes (at + 4);
    }

-- ---- what a message is (RFC 8260 2.2.2)

-- a fragment fits at a place of a message of so many: it has this number, and ends the message there, and nowhere else
abbrev pub fits : Fragment → ℕ → ℕ → Bool
fits f place count = (f.place == place) && (if place + 1 == count then f.is_last else not f.is_last)

abbrev pub FitEach : List Fragment → Type 0
FitEach fragments =
    (k : ℕ) (d : Fragment) → k < length fragments
    → fits (slice_index_or fragments k d) k (length fragments) ≡ true

-- from the first fragment to the one that ends it, none is missing
pub record IsMessage (fragments : List Fragment) : Type 0 where
  pub some : 0 < length fragments
  pub fitting : FitEach fragments

-- the bytes of a message: those of its fragments, one behind the other
abbrev pub payload_of : List Fragment → List ℕ
payload_of fragments = flat_map (λ f. f.bytes.items) fragments
