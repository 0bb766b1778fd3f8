-- Types of chunks, as RFC 9260 3.2 has a receiver tell them.
use Rattle.std.specs.Prelude.{ℕ, ◌%◌, Bool, not, ◌&&◌, ◌||◌, ◌==◌, nat_lt, nat_le}

-- those of the chunks that are read
abbrev pub is_read_type : ℕ → Bool
is_read_type t = nat_le t 11 || (t == 14 || (t == 130 || (t == 192 || t == 194)))

-- those whose value is a list of parameters or of error causes. The list is read item by item, so that an item of any type or length can stand
-- in it (RFC 9260 3.3.2, 3.3.3, 3.3.7, 3.3.10; RFC 6525 3.1)
abbrev pub is_list_type : ℕ → Bool
is_list_type t = t == 1 || (t == 2 || (t == 6 || (t == 9 || t == 130)))

-- those of the chunks that are read whole with their packet
abbrev pub is_whole_type : ℕ → Bool
is_whole_type t = is_read_type t && not (is_list_type t)

-- by the highest bit of any other one: where it is 0, what follows the chunk is not looked at
abbrev pub is_stopping : ℕ → Bool
is_stopping t = not (is_read_type t) && nat_lt t 128

-- by the bit below: where it is 1, its sender is told of the chunk in an ERROR
abbrev pub is_reported : ℕ → Bool
is_reported t = not (is_read_type t) && nat_le 64 (t % 128)
