-- What is counted as outstanding once one chunk comes, goes or is changed.
use Rattle.std.proofs.Common.{◌≡◌, ℕ, ◌+◌, ◌^◌, ◌<◌, ◌≤◌, Bool, true, false, List, [], ◌∷◌, length, get_or, set, refl, ap, arith}
use Rattle.std.specs.Prelude.{if◌then◌else◌}
use Rattle.std.specs.List.{insert, remove, sum_by}
use Rattle.std.proofs.lemmas.List.Sums.{count_by-le-length, get_or-le-sum_by, sum_by-cons, sum_by-insert, sum_by-remove, sum_by-set}
use Rattle.sctp_data.specs.declared.chunk.chunk_payload_data.ChunkPayloadData.{ChunkPayloadData}
use Rattle.sctp_serial.specs.DataChunks.{bytes_of}
use Rattle.sctp_outbound.specs.declared.payload_queue.outstanding.Outstanding.{Outstanding}
use Rattle.sctp_outbound.specs.Outstanding.{Counts, HasRoom, IsCounted, IsRecounted, flight_bytes, is_to_resend, is_unmarked}

-- one for each chunk that is not marked, and for each that is
abbrev one_unmarked : ChunkPayloadData → ℕ
one_unmarked c = if is_unmarked c then 1 else 0

abbrev one_marked : ChunkPayloadData → ℕ
one_marked c = if is_to_resend c then 1 else 0

abbrev bytes_in : ChunkPayloadData → ℕ
bytes_in c = length c.user_data

flight_le : (c : ChunkPayloadData) → flight_bytes c ≤ length c.user_data
flight_le c = by (is_unmarked c)
  where
    by : (b : Bool) → (if b then length c.user_data else 0) ≤ length c.user_data
    by true = omega arith
    by false = omega arith

-- the flight size is at most all bytes
flights_le : (xs : List ChunkPayloadData) → sum_by flight_bytes xs ≤ bytes_of xs
flights_le [] = omega arith
flights_le (x ∷ xs) = omega (arith, flight_le x, flights_le xs, sum_by-cons flight_bytes x xs, sum_by-cons bytes_in x xs)

module _ (o : Outstanding) (xs : List ChunkPayloadData) (n : ℕ) (x : ChunkPayloadData) (lt : n < length xs)
    (read : (d : ChunkPayloadData) → get_or xs n d ≡ x) (h : Counts o xs) where
  pub is_counted : IsCounted o x
  is_counted = record {
    bytes = omega (arith, h.bytes, get_or-le-sum_by flight_bytes xs n x lt, ap flight_bytes (read x));
    chunks = omega (arith, h.chunks, get_or-le-sum_by one_unmarked xs n x lt, ap one_unmarked (read x));
    marked = omega (arith, h.marked, get_or-le-sum_by one_marked xs n x lt, ap one_marked (read x));
  }

  -- without the chunk
  pub counted_less : (p : Outstanding) → p.bytes + flight_bytes x ≡ o.bytes → p.chunks + one_unmarked x ≡ o.chunks → p.marked + one_marked x ≡ o.marked
      → Counts p (remove xs n)
  counted_less p bytes chunks marked = record {
    fits = omega (arith, h.fits, sum_by-remove bytes_in xs n x lt);
    bytes = omega (arith, h.bytes, bytes, sum_by-remove flight_bytes xs n x lt, ap flight_bytes (read x));
    chunks = omega (arith, h.chunks, chunks, sum_by-remove one_unmarked xs n x lt, ap one_unmarked (read x));
    marked = omega (arith, h.marked, marked, sum_by-remove one_marked xs n x lt, ap one_marked (read x));
  }

  -- another can come in place of the chunk, with so many bytes
  pub has_room : (bytes : ℕ) → length xs + 1 < 2 ^ 64 → bytes_of xs + bytes < 2 ^ 64 + length x.user_data → HasRoom o x bytes
  has_room bytes short le = record {
    counted = is_counted;
    bytes = omega (
      arith,
      le,
      h.bytes,
      flights_le (remove xs n),
      sum_by-remove flight_bytes xs n x lt,
      sum_by-remove bytes_in xs n x lt,
      ap flight_bytes (read x),
      ap bytes_in (read x),
    );
    chunks = omega (arith, h.chunks, count_by-le-length is_unmarked xs);
    marked = omega (arith, h.marked, count_by-le-length is_to_resend xs);
  }

  -- so it does
  pub recounted : (p : Outstanding) (y : ChunkPayloadData) → IsRecounted o p x y → bytes_of xs + length y.user_data < 2 ^ 64 + length x.user_data
      → Counts p (set xs n y)
  recounted p y r le = record {
    fits = omega (arith, le, sum_by-set bytes_in xs n y x lt, ap bytes_in (read x));
    bytes = omega (arith, h.bytes, r.bytes, sum_by-set flight_bytes xs n y x lt, ap flight_bytes (read x));
    chunks = omega (arith, h.chunks, r.chunks, sum_by-set one_unmarked xs n y x lt, ap one_unmarked (read x));
    marked = omega (arith, h.marked, r.marked, sum_by-set one_marked xs n y x lt, ap one_marked (read x));
  }

-- with one more chunk
pub counted_more : (o p : Outstanding) (xs : List ChunkPayloadData) (n : ℕ) (y : ChunkPayloadData) → Counts o xs → bytes_of xs + length y.user_data < 2 ^ 64
    → p.bytes ≡ o.bytes + flight_bytes y → p.chunks ≡ o.chunks + one_unmarked y → p.marked ≡ o.marked + one_marked y → Counts p (insert xs n y)
counted_more o p xs n y h le bytes chunks marked = record {
  fits = omega (arith, le, sum_by-insert bytes_in xs n y);
  bytes = omega (arith, h.bytes, bytes, sum_by-insert flight_bytes xs n y);
  chunks = omega (arith, h.chunks, chunks, sum_by-insert one_unmarked xs n y);
  marked = omega (arith, h.marked, marked, sum_by-insert one_marked xs n y);
}

-- for which there is room
pub room_for : (o : Outstanding) (xs : List ChunkPayloadData) (bytes : ℕ) → Counts o xs → bytes_of xs + bytes < 2 ^ 64 → o.bytes + bytes < 2 ^ 64
room_for o xs bytes h le = omega (arith, le, h.bytes, flights_le xs)

pub few : (o : Outstanding) (xs : List ChunkPayloadData) → Counts o xs → length xs + 1 < 2 ^ 64 → (o.chunks + 1 < 2 ^ 64) × (o.marked + 1 < 2 ^ 64)
few o xs h short = (
  omega (arith, short, h.chunks, count_by-le-length is_unmarked xs),
  omega (arith, short, h.marked, count_by-le-length is_to_resend xs),
)
