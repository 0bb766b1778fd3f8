-- What a skip names on a stream, and the span test of its arrival, from the ends of what the stream holds.
use Rattle.std.specs.Prelude.{ℕ, ◌+◌, ◌-◌, ◌^◌, min, max, Bool, ◌&&◌, nat_lt, if◌then◌else◌, List, [], ◌∷◌, map, Option, Some, None}
use Rattle.std.specs.List.{filter}
use Rattle.sctp_model.specs.LinkRecord.{LinkRecord}
use Rattle.sctp_model.specs.Messages.{is_ordered_on, index_of}
use Rattle.sctp_model.specs.Receiver.{is_complete_message, held_on, next_of, least, greatest}

-- those of these messages that are ordered ones of stream s
abbrev pub on_stream : LinkRecord → ℕ → List ℕ → List ℕ
on_stream w s names = filter (is_ordered_on w s) names

-- the least of their indexes, or the greatest u64
abbrev pub low_named : LinkRecord → ℕ → List ℕ → ℕ
low_named w s names = least (2 ^ 64 - 1) (map (index_of w) (on_stream w s names))

-- one more than the greatest of their indexes, or 0
abbrev pub end_named : LinkRecord → ℕ → List ℕ → ℕ
end_named w s names = greatest 0 (map (λ n. index_of w n + 1) (on_stream w s names))

-- the least and the greatest of the index expected next and those of the messages held
abbrev pub lowest_held : LinkRecord → ℕ → ℕ
lowest_held w s = least (next_of w s) (map (index_of w) (held_on w s))

abbrev pub highest_held : LinkRecord → ℕ → ℕ
highest_held w s = greatest (next_of w s) (map (index_of w) (held_on w s))

-- the index of the first message held, where it is complete: a skip leaves it
abbrev pub complete_first : LinkRecord → List ℕ → Option ℕ
complete_first w [] = None
complete_first w (n ∷ ns) = if is_complete_message w n then Some (index_of w n) else None

abbrev pub min_with : Option ℕ → ℕ → ℕ
min_with None a = a
min_with (Some i) a = min a i

-- the named indexes can be told apart from the others before the skip, and after it
abbrev pub names_fit : LinkRecord → ℕ → List ℕ → Bool
names_fit w s names =
    nat_lt (max (highest_held w s) (end_named w s names - 1))
    (min (lowest_held w s) (low_named w s names) + 2 ^ 15)
    && nat_lt (end_named w s names) (min_with (complete_first w (held_on w s)) (low_named w s names)
    + 2 ^ 15)
