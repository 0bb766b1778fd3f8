-- What a FORWARD-TSN looks at within streams: bounds of its turns. A turn is one look at an ordered message or at a fragment.
use Rattle.std.specs.Prelude.{ℕ, ◌+◌, ◌*◌, ◌≤◌, if◌then◌else◌, List, [], ◌∷◌, length, Some}
use Rattle.std.specs.List.{sum_by, filter}
use Rattle.sctp_data.specs.ForwardTsn.{ForwardTsn}
use Rattle.sctp_data.specs.declared.chunk.chunk_forward_tsn.ChunkForwardTsnStream.{ChunkForwardTsnStream}
use Rattle.sctp_reassembly.specs.reassembly_queue.Costs.{ordered_skip_walk, incomplete_skip_walk, unordered_skip_walk}
use Rattle.sctp_reassembly.specs.reassembly_queue.Counts.{set_chunks}
use Rattle.sctp_reassembly.specs.reassembly_queue.ReassemblyQueue.{Reassembly}
use Rattle.sctp_receiver.specs.declared.receiver.inbound_streams.InboundStream.{InboundStream}
use Rattle.sctp_receiver.specs.declared.receiver.visit.Skip.{Skip}
use Rattle.sctp_receiver.specs.declared.receiver.visit.Skip.TheVariants.{Unassembled, Incomplete}
use Rattle.sctp_receiver.specs.Noted.{is_named}
use Rattle.sctp_receiver.specs.Receiver.{Reception}
use Rattle.sctp_receiver.specs.declared.receiver.spans.TsnSpan.{TsnSpan}
use Rattle.sctp_receiver.specs.Spans.{lies_past}
use Rattle.sctp_receiver.specs.Visited.{holds_any, to_visit}

-- the streams that are named
abbrev pub named_streams : List ChunkForwardTsnStream → List InboundStream → List InboundStream
named_streams names ls = filter (λ l. is_named names (Some l.queue.si)) ls

-- all names: each once, and what each stream that is named holds, once
abbrev pub named_walk : List ChunkForwardTsnStream → List InboundStream → ℕ
named_walk names ls =
    length names + sum_by (λ l. ordered_skip_walk l.queue.held) (named_streams names ls)

abbrev pub names_walk : ForwardTsn → Reception → ℕ
names_walk f r = named_walk f.streams r.streams

-- what is discarded without a name, on one stream
abbrev pub visit_walk : Skip → Reassembly → ℕ
visit_walk Unassembled q = unordered_skip_walk q
visit_walk Incomplete q = incomplete_skip_walk q

-- and whether that is to be visited again
abbrev pub settle_walk : Skip → Reassembly → ℕ
settle_walk Unassembled q = 0
settle_walk Incomplete q = length q.ordered

-- of each stream by its place: nothing, where its stretch of TSNs lies past the TSN
abbrev pub unless_past : ℕ → TsnSpan → ℕ → ℕ
unless_past tsn span walk = if lies_past tsn span then 0 else walk

abbrev pub walks_by_place : Skip → ℕ → List TsnSpan → List InboundStream → List ℕ
walks_by_place skip tsn [] ls = []
walks_by_place skip tsn (s ∷ spans) [] = []
walks_by_place skip tsn (s ∷ spans) (l ∷ ls) =
    unless_past tsn s (if holds_any l.queue.held
    then visit_walk skip l.queue.held + settle_walk skip l.queue.held else 0)
    ∷ walks_by_place skip tsn spans ls

-- and of all together
abbrev pub walk_by_spans : Skip → ℕ → List TsnSpan → List InboundStream → ℕ
walk_by_spans skip tsn spans ls = sum_by (λ w. w) (walks_by_place skip tsn spans ls)

-- on all streams: each unassembled fragment six times, and one more for each stream that is visited
abbrev pub unordered_skips_walk : List InboundStream → ℕ
unordered_skips_walk ls = sum_by (λ l. unordered_skip_walk l.queue.held) (to_visit ls)

-- each ordered message nine times, and each of their fragments four times
abbrev pub incomplete_skips_walk : List InboundStream → ℕ
incomplete_skips_walk ls =
    sum_by (λ l. incomplete_skip_walk l.queue.held) (to_visit ls)
    + sum_by (λ l. length l.queue.held.ordered) ls

-- and all, with one for the test of each name
abbrev pub skips_walk : ForwardTsn → Reception → ℕ
skips_walk f r =
    length f.streams + names_walk f r + unordered_skips_walk r.streams
    + incomplete_skips_walk r.streams

-- ## By what is held

-- ordered messages that were not read, and their fragments and those that are unassembled
abbrev pub held_messages : List InboundStream → ℕ
held_messages ls = sum_by (λ l. length l.queue.held.ordered) ls

abbrev pub held_fragments : List InboundStream → ℕ
held_fragments ls =
    sum_by (λ l. set_chunks l.queue.held.ordered + length l.queue.held.unassembled) ls

-- two for each name, one for each stream that is visited, 14 for each message and six for each fragment
abbrev pub SkipsCostByWhatIsHeld : Type 0
SkipsCostByWhatIsHeld =
    (f : ForwardTsn) (r : Reception) → skips_walk f r
    ≤ 2 * length f.streams + length (to_visit r.streams) + 14 * held_messages r.streams
    + 6 * held_fragments r.streams
