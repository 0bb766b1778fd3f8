-- How far the messages of each open stream are.
use Rattle.std.specs.Prelude.{ℕ, ◌+◌, ◌-◌, max, Bool, ◌&&◌, ◌==◌, if◌then◌else◌, List, [], ◌∷◌, ◌++◌, map, drop, Option, Some, None}
use Rattle.sctp_util.specs.Lists.{change_where}
use Rattle.sctp_data.specs.declared.chunk.chunk_payload_data.ChunkPayloadData.{ChunkPayloadData}
use Rattle.sctp_receiver.specs.declared.receiver.arrival.Arrival.{Arrival}
use Rattle.sctp_receiver.specs.Receiver.{is_answered_complete}
use Rattle.sctp_link.specs.declared.progress.StreamProgress.{StreamProgress}

-- of a stream
pub record Standing : Type 0 where
  pub number : ℕ
  -- the unordered messages that are complete and not read, by their numbers, in the order in which they became complete
  pub complete : List ℕ
  -- how many ordered messages were written and did not expire
  pub ordered : ℕ
  -- how many of them were begun to be sent
  pub begun : ℕ
  -- the index of the ordered message that is expected next
  pub next : ℕ
  -- one more than the greatest index that a skip named, or 0
  pub named : ℕ

-- as it is kept
abbrev pub standing_of : StreamProgress → Standing
standing_of p =
    record {
      number = p.number;
      complete = p.complete.items;
      ordered = p.ordered;
      begun = p.begun;
      next = p.next;
      named = p.named;
    }

abbrev pub number : Standing → ℕ
number p = p.number

abbrev pub has_number : ℕ → Standing → Bool
has_number s p = p.number == s

abbrev pub numbers_of : List Standing → List ℕ
numbers_of ps = map number ps

-- nothing was written, and nothing came
abbrev pub fresh : ℕ → Standing
fresh s = record { number = s; complete = []; ordered = 0; begun = 0; next = 0; named = 0 }

-- how many ordered messages there are of a stream, where there is one
abbrev pub ordered_in : Option Standing → ℕ
ordered_in None = 0
ordered_in (Some p) = p.ordered

-- how many of them are begun
abbrev pub begun_in : Option Standing → ℕ
begun_in None = 0
begun_in (Some p) = p.begun

-- a message more was written, an ordered one or not
abbrev pub with_write : Bool → Standing → Standing
with_write ordered p = record p { ordered = if ordered then p.ordered + 1 else p.ordered }

-- a message expired, an unordered one or not
abbrev pub with_expiry : Bool → Standing → Standing
with_expiry unordered p =
    record p { ordered = if unordered then p.ordered else p.ordered - 1 }

-- one more is begun
abbrev pub with_begun : Standing → Standing
with_begun p = record p { begun = p.begun + 1 }

-- a message was read: with an ordered one that was expected next the next one is
abbrev pub with_read : Bool → ℕ → Standing → Standing
with_read ordered index p =
    record p {
      complete = if ordered then p.complete else drop 1 p.complete;
      next = if ordered
          && (index == p.next) then index + 1 else p.next;
    }

-- so many indexes were named
abbrev pub with_named : ℕ → Standing → Standing
with_named end p = record p { next = max p.next end; named = max p.named end }

-- an unordered message became complete
abbrev pub with_complete : ℕ → Standing → Standing
with_complete n p = record p { complete = p.complete ++ n ∷ [] }

-- a chunk of the message n was answered
abbrev pub after_one : ChunkPayloadData → ℕ → Arrival → List Standing → List Standing
after_one c n b ps =
    if is_answered_complete b && c.unordered
    then change_where (has_number c.stream_identifier) (with_complete n) ps else ps

-- several, one after another
abbrev pub after_each : List ChunkPayloadData → List ℕ → List Arrival → List Standing → List Standing
after_each (c ∷ cs) (n ∷ ns) (b ∷ bs) ps = after_each cs ns bs (after_one c n b ps)
after_each [] ns bs ps = ps
after_each (c ∷ cs) [] bs ps = ps
after_each (c ∷ cs) (n ∷ ns) [] ps = ps
