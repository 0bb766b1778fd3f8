-- Complete messages that wait one behind another.
use Rattle.std.specs.Prelude.{◌≡◌, ℕ, ◌+◌, ◌<◌, ◌≤◌, Bool, true, false, not, ◌||◌, List, [], ◌∷◌, ◌++◌, Option, Some, None, if◌then◌else◌}
use Rattle.std.specs.List.{AllPairs, list_any}
use Rattle.sctp_data.specs.declared.chunk.chunk_payload_data.ChunkPayloadData.{ChunkPayloadData}
use Rattle.sctp_outbound.specs.declared.pending_queue.Selected.{Selected}
use Rattle.sctp_outbound.specs.Marks.{is_of}
use Rattle.sctp_outbound.specs.pending_queue.PendingQueue.{Pending}

-- where a list of messages stands: before a message numbered from `free` on, or within a message
pub data Stage : Type 0 where
  free : ℕ → Stage
  begun : ℕ → Stage

-- the chunk may come next: it begins a message with a new number, or goes on with the one that is begun
abbrev pub Follows : Stage → ChunkPayloadData → Type 0
Follows (free least) c = (c.beginning_fragment ≡ true) × (least ≤ c.message_id)
Follows (begun message) c = (c.beginning_fragment ≡ false) × (c.message_id ≡ message)

abbrev pub stage_after : ChunkPayloadData → Stage
stage_after c = if c.ending_fragment then free (c.message_id + 1) else begun c.message_id

-- complete messages of one kind, or the rest of one and then whole ones, their numbers ascending and below a bound
abbrev pub IsWhole : Bool → ℕ → Stage → List ChunkPayloadData → Type 0
IsWhole kind below (free least) [] = Unit {0}
IsWhole kind below (begun message) [] = ⊥
IsWhole kind below stage (c ∷ cs) =
    Follows stage c × (c.unordered ≡ kind) × (c.message_id < below)
    × IsWhole kind below (stage_after c) cs

-- where a list stands by the partially sent message
abbrev pub stage_of : Bool → Option Selected → Stage
stage_of kind None = free 0
stage_of true (Some s) = if s.unordered then begun s.message_id else free 0
stage_of false (Some s) = if s.unordered then free 0 else begun s.message_id

-- the numbers of the messages ascend
abbrev pub NumbersAscend : List ChunkPayloadData → Type 0
NumbersAscend cs = AllPairs (λ c d. c.message_id ≤ d.message_id) cs

-- whether no chunk of the message stands behind one of another
abbrev pub stand_in_front : ℕ → List ChunkPayloadData → Bool
stand_in_front message [] = true
stand_in_front message (c ∷ cs) =
    if is_of message c then stand_in_front message cs else not (list_any (is_of message) cs)

-- whether the first chunk is of the message
abbrev pub begins_with : ℕ → List ChunkPayloadData → Bool
begins_with message [] = false
begins_with message (c ∷ cs) = is_of message c

-- complete messages, or the rest of one and then complete ones, as the stage says
abbrev pub AreWhole : Bool → Stage → List ChunkPayloadData → Type 0
AreWhole kind stage cs = (below : ℕ) × IsWhole kind below stage cs

-- whether a chunk of the message waits
abbrev pub waits : ℕ → Pending → Bool
waits message q = list_any (is_of message) q.unordered || list_any (is_of message) q.ordered

abbrev pub partial_of : Option Selected → Option ℕ
partial_of None = None
partial_of (Some s) = Some s.message_id

-- the partially sent message
abbrev pub partially_sent : Pending → Option ℕ
partially_sent q = partial_of q.selected

-- each message waits whole in the list of its kind, but for the partially sent one, which is in front;
-- of what is in flight only that one waits too; and each number is below the next
pub record IsSendable (q : Pending) (inflight : List ChunkPayloadData) (next : ℕ) : Type 0 where
  pub ordered : IsWhole false next (stage_of false q.selected) q.ordered
  pub unordered : IsWhole true next (stage_of true q.selected) q.unordered
  pub apart : (m : ℕ) → list_any (is_of m) q.ordered ≡ true → list_any (is_of m) q.unordered ≡ false
  pub sent : (m : ℕ) → list_any (is_of m) inflight ≡ true → waits m q ≡ true → partially_sent q
      ≡ Some m
  pub below : (m : ℕ) → next ≤ m → list_any (is_of m) inflight ≡ false

-- the chunk goes on with the message
abbrev pub GoesOn : ℕ → Option ChunkPayloadData → Type 0
GoesOn message None = ⊥
GoesOn message (Some c) = (c.message_id ≡ message) × (c.beginning_fragment ≡ false)

-- ## The order of sending

abbrev pub ends : ChunkPayloadData → Bool
ends c = c.ending_fragment

-- the rest of a partially sent ordered message, then the unordered chunks, then the other ordered ones
abbrev pub rest_then : List ChunkPayloadData → List ChunkPayloadData → List ChunkPayloadData
rest_then [] us = us
rest_then (c ∷ cs) us = if c.ending_fragment then c ∷ (us ++ cs) else c ∷ rest_then cs us

-- how many chunks the rest of the message in front has
abbrev pub until_end : List ChunkPayloadData → ℕ
until_end [] = 0
until_end (c ∷ cs) = if c.ending_fragment then 1 else until_end cs + 1

abbrev pub in_order : Option Selected → List ChunkPayloadData → List ChunkPayloadData
    → List ChunkPayloadData
in_order None os us = us ++ os
in_order (Some s) os us = if s.unordered then us ++ os else rest_then os us

-- all that waits, in the order in which it will be sent
abbrev pub order_of : Pending → List ChunkPayloadData
order_of q = in_order q.selected q.ordered q.unordered

-- how many ordered chunks go before the unordered ones
abbrev pub ordered_first : Option Selected → List ChunkPayloadData → ℕ
ordered_first None os = 0
ordered_first (Some s) os = if s.unordered then 0 else until_end os

-- whether a partially sent ordered message has an end
abbrev pub has_end : Option Selected → List ChunkPayloadData → Bool
has_end None os = true
has_end (Some s) os = if s.unordered then true else list_any ends os

-- the fragments of one message of this kind, or what follows after some of them: the first begins, the last ends
abbrev pub IsMessage : Bool → Bool → List ChunkPayloadData → Type 0
IsMessage kind goes_on [] = ⊥
IsMessage kind goes_on (c ∷ []) =
    (c.beginning_fragment ≡ not goes_on) × (c.ending_fragment ≡ true) × (c.unordered ≡ kind)
IsMessage kind goes_on (c ∷ d ∷ ds) =
    (c.beginning_fragment ≡ not goes_on) × (c.ending_fragment ≡ false) × (c.unordered ≡ kind)
    × IsMessage kind true (d ∷ ds)

-- no fragment, or one complete message, all ordered or all unordered
abbrev pub IsMessageOrNone : List ChunkPayloadData → Type 0
IsMessageOrNone [] = Unit {0}
IsMessageOrNone (c ∷ cs) = IsMessage c.unordered false (c ∷ cs)
