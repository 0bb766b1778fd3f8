-- What a FORWARD-TSN names on each stream, noted first and then made at once.
use Rattle.std.specs.Prelude.{◌≡◌, ℕ, ◌==◌, Bool, true, false, List, [], ◌∷◌, Option, Some, None, slice_get}
use Rattle.std.specs.List.{list_any}
use Rattle.sctp_data.specs.declared.chunk.chunk_forward_tsn.ChunkForwardTsnStream.{ChunkForwardTsnStream}
use Rattle.sctp_reassembly.specs.declared.reassembly_queue.ordered_skips.OrderedSkips.{OrderedSkips}
use Rattle.sctp_reassembly.specs.reassembly_queue.OrderedSkips.{after_noted}
use Rattle.sctp_receiver.specs.declared.receiver.inbound_streams.InboundStream.{InboundStream}
use Rattle.sctp_receiver.specs.Inbound.{with_queue}

-- what is noted of a stream is made, if anything is
abbrev pub noted_made : Option OrderedSkips → InboundStream → InboundStream
noted_made noted l = with_queue (after_noted noted l.queue) l

-- what is noted of each, by its place
abbrev pub each_made : List (Option OrderedSkips) → List InboundStream → List InboundStream
each_made [] ls = ls
each_made (noted ∷ more) [] = []
each_made (noted ∷ more) (l ∷ ls) = noted_made noted l ∷ each_made more ls

-- nothing is noted
abbrev pub AreNone : List (Option OrderedSkips) → Type 0
AreNone noted = (p : ℕ) (skips : OrderedSkips) → slice_get noted p ≡ Some (Some skips) → ⊥

-- there is such a number, and a name has it
abbrev pub is_named : List ChunkForwardTsnStream → Option ℕ → Bool
is_named names None = false
is_named names (Some s) = list_any (λ n. s == n.identifier) names

-- something is noted only of streams that are named
abbrev pub AreNamed : List ChunkForwardTsnStream → List (Option OrderedSkips) → List ℕ → Type 0
AreNamed names noted numbers =
    (p : ℕ) (skips : OrderedSkips) → slice_get noted p ≡ Some (Some skips) → is_named names (slice_get numbers p) ≡ true
