-- Which streams a FORWARD-TSN visits beside those that it names.
use Rattle.std.specs.Prelude.{◌≡◌, ℕ, ◌==◌, ◌↔◌, Bool, true, false, not, ◌||◌, nat_lt, if◌then◌else◌, List, Option, Some, None, slice_get, length}
use Rattle.std.specs.List.{list_any, filter}
use Rattle.sctp_reassembly.specs.reassembly_queue.Fragments.{is_complete}
use Rattle.sctp_reassembly.specs.reassembly_queue.ReassemblyQueue.{Reassembly, ReassemblyState, after_unordered_skip}
use Rattle.sctp_reassembly.specs.reassembly_queue.Skips.{after_incomplete_skip}
use Rattle.sctp_receiver.specs.declared.receiver.inbound_streams.InboundStream.{InboundStream}
use Rattle.sctp_receiver.specs.declared.receiver.visit.Skip.{Skip}
use Rattle.sctp_receiver.specs.declared.receiver.visit.Skip.TheVariants.{Unassembled, Incomplete}
use Rattle.sctp_receiver.specs.Inbound.{with_queue}
use Rattle.sctp_receiver.specs.declared.receiver.spans.TsnSpan.{TsnSpan}
use Rattle.sctp_receiver.specs.Spans.{holds_outside}

-- ## What is discarded of a stream without a name

abbrev pub after_skip : Skip → ℕ → ReassemblyState → ReassemblyState
after_skip Unassembled tsn q = after_unordered_skip tsn q
after_skip Incomplete tsn q = after_incomplete_skip tsn q

abbrev pub skip_forwarded : Skip → ℕ → InboundStream → InboundStream
skip_forwarded skip tsn l = with_queue (after_skip skip tsn l.queue) l

-- it has unassembled fragments, or ordered messages that were not read
abbrev pub holds_any : Reassembly → Bool
holds_any q = not (length q.unassembled == 0) || not (length q.ordered == 0)

-- it has unassembled fragments, or an ordered message that is incomplete: else nothing of it is discarded without a name
abbrev pub holds_incomplete : Reassembly → Bool
holds_incomplete q =
    not (length q.unassembled == 0) || list_any (λ s. not (is_complete s.chunks)) q.ordered

-- the streams that a FORWARD-TSN visits at most
abbrev pub to_visit : List InboundStream → List InboundStream
to_visit ls = filter (λ l. holds_any l.queue.held) ls

-- ## Places

-- the places of the streams in some order, and at which spot of it each place stands; so many at its begin are visited; a
-- stretch of TSNs for each place; so many places more take no memory
pub record VisitOrder : Type 0 where
  pub order : List ℕ
  pub spots : List ℕ
  pub count : ℕ
  pub spans : List TsnSpan
  pub room : ℕ

-- a place stands at a spot exactly where that is the spot of the place
abbrev pub AreInverse : List ℕ → List ℕ → Type 0
AreInverse order spots = (i p : ℕ) → (slice_get order i ≡ Some p) ↔ (slice_get spots p ≡ Some i)

-- a spot is there, and before a count
abbrev pub is_spot_before : ℕ → Option ℕ → Bool
is_spot_before count None = false
is_spot_before count (Some i) = nat_lt i count

abbrev pub is_visited : ℕ → VisitOrder → Bool
is_visited place v = is_spot_before v.count (slice_get v.spots place)

-- where what stands at a spot comes from, when two spots change places
abbrev pub swapped : ℕ → ℕ → ℕ → ℕ
swapped i j k = if k == i then j else (if k == j then i else k)

-- the streams that are not visited hold nothing incomplete
pub record IsListed (v : VisitOrder) (ls : List InboundStream) : Type 0 where
  pub places : length v.spots ≡ length ls
  pub others : (p : ℕ) (l : InboundStream) → slice_get ls p ≡ Some l → is_visited p v ≡ false
      → holds_incomplete l.queue.held ≡ false

-- each stretch covers what the stream holds
abbrev pub AreSpans : List TsnSpan → List InboundStream → Type 0
AreSpans spans ls = (p : ℕ) (s : TsnSpan) (l : InboundStream) → slice_get spans p ≡ Some s
    → slice_get ls p ≡ Some l → holds_outside s l.queue.held ≡ false

-- and each that is visited has unassembled fragments or ordered messages, and none holds what its stretch does not cover
pub record IsListing (v : VisitOrder) (ls : List InboundStream) : Type 0 where
  pub listed : IsListed v ls
  pub visited : (p : ℕ) (l : InboundStream) → slice_get ls p ≡ Some l → is_visited p v ≡ true
      → holds_any l.queue.held ≡ true
  pub spans : AreSpans v.spans ls
