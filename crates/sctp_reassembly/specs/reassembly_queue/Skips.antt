-- Skips that stop before messages whose TSNs lie past a bound.
use Rattle.std.specs.Prelude.{ℕ, ◌+◌, ◌-◌, ◌%◌, ◌^◌, Bool, false, ◌&&◌, ◌||◌, not, ◌==◌, if◌then◌else◌, List, [], ◌∷◌, Option, Some, None, unwrap_or}
use Rattle.std.specs.List.{list_any, list_all, filter}
use Rattle.sctp_util.specs.Serial.{comes_before, comes_after, at_or_before, comes_before16, comes_after16, at_or_before16}
use Rattle.sctp_data.specs.declared.chunk.chunk_payload_data.ChunkPayloadData.{ChunkPayloadData}
use Rattle.sctp_data.specs.ChunkSet.{ChunkSet}
use Rattle.sctp_reassembly.specs.reassembly_queue.Fragments.{is_complete, has_ssn}
use Rattle.sctp_reassembly.specs.reassembly_queue.ReassemblyQueue.{Reassembly, ReassemblyState, set_bytes}
use Rattle.sctp_reassembly.specs.declared.reassembly_queue.ordered_skips.SsnSpan.{SsnSpan}
use Rattle.sctp_reassembly.specs.reassembly_queue.OrderedSkips.{is_in, is_skipped}
use Rattle.sctp_serial.specs.DataChunks.{following_tsn, preceding_tsn}

-- behind x a TSN at or before t is missing
abbrev pub misses_behind : ℕ → ChunkPayloadData → List ChunkPayloadData → Bool
misses_behind t x [] = not x.ending_fragment && at_or_before (following_tsn x.tsn) t
misses_behind t x (y ∷ ys) =
    (not (y.tsn == following_tsn x.tsn) && at_or_before (following_tsn x.tsn) t) || misses_behind t y ys

-- in a set a TSN at or before t is seen to be missing: the one before the first, one between neighbours, or the one behind the last
abbrev pub misses : ℕ → List ChunkPayloadData → Bool
misses t [] = false
misses t (x ∷ xs) =
    (not x.beginning_fragment && at_or_before (preceding_tsn x.tsn) t) || misses_behind t x xs

-- ## Skipping

-- an incomplete set at or before the SSN that misses a TSN
abbrev pub is_abandoned : ℕ → ℕ → ChunkSet → Bool
is_abandoned last t set =
    at_or_before16 set.ssn last && (not (is_complete set.chunks) && misses t set.chunks)

-- an incomplete set that misses a TSN at or before t: it can't become complete, where all up to t counts as come
abbrev pub cannot_complete : ℕ → ChunkSet → Bool
cannot_complete t set = not (is_complete set.chunks) && misses t set.chunks

-- a set that a skip discards: an incomplete one, of a number in the stretch where there is one, and missing a TSN where there is a bound
abbrev pub is_discarded : Option SsnSpan → Option ℕ → ChunkSet → Bool
is_discarded None None set = not (is_complete set.chunks)
is_discarded None (Some t) set = cannot_complete t set
is_discarded (Some span) None set = is_skipped span set
is_discarded (Some span) (Some t) set = is_in span set.ssn && cannot_complete t set

-- a set that a bounded skip does not pass: at or before the SSN, and complete with a TSN after t, or incomplete and missing none
abbrev pub is_unaffected : ℕ → ℕ → ChunkSet → Bool
is_unaffected last t set =
    at_or_before16 set.ssn last && (if is_complete set.chunks
    then list_any (λ c. comes_after c.tsn t) set.chunks else not (misses t set.chunks))

-- the SSN, walking the sets, replaced by one that comes before it; none without any
abbrev pub earlier_ssn : Option ℕ → ℕ → ℕ
earlier_ssn None ssn = ssn
earlier_ssn (Some first) ssn = if comes_before16 ssn first then ssn else first

abbrev pub earliest_unaffected : Option ℕ → ℕ → ℕ → List ChunkSet → Option ℕ
earliest_unaffected first last t [] = first
earliest_unaffected first last t (set ∷ sets) =
    earliest_unaffected (if is_unaffected last t set then Some (earlier_ssn first set.ssn)
    else first) last t sets

-- how far the next SSN may go: to the first set that is not passed, else past the last
abbrev pub goal_of : ℕ → ℕ → List ChunkSet → ℕ
goal_of last t sets = unwrap_or (earliest_unaffected None last t sets) ((last + 1) % 2 ^ 16)

abbrev pub held_after_bounded_skip : ℕ → ℕ → Reassembly → Reassembly
held_after_bounded_skip last t q =
    record q {
      ordered = filter (λ set. not (is_abandoned last t set)) q.ordered;
      next_ssn =
          (if comes_before16 q.next_ssn (goal_of last t q.ordered) then goal_of last t q.ordered
          else q.next_ssn);
    }

abbrev pub after_bounded_skip : ℕ → ℕ → ReassemblyState → ReassemblyState
after_bounded_skip last t q =
    record q {
      held = held_after_bounded_skip last t q.held;
      bytes = q.bytes
          - set_bytes (filter (is_abandoned last t) q.held.ordered);
    }

-- ## Skipping what no SSN names

-- the next SSN, moved past each of the sets that is not before it
abbrev pub ssn_past_sets : ℕ → List ChunkSet → ℕ
ssn_past_sets next [] = next
ssn_past_sets next (set ∷ sets) =
    ssn_past_sets (if at_or_before16 next set.ssn then (set.ssn + 1) % 2 ^ 16 else next) sets

abbrev pub held_after_incomplete_skip : ℕ → Reassembly → Reassembly
held_after_incomplete_skip t q =
    record q {
      ordered = filter (λ set. not (cannot_complete t set)) q.ordered;
      next_ssn = ssn_past_sets q.next_ssn (filter (cannot_complete t) q.ordered);
    }

abbrev pub after_incomplete_skip : ℕ → ReassemblyState → ReassemblyState
after_incomplete_skip t q =
    record q {
      held = held_after_incomplete_skip t q.held;
      bytes = q.bytes
          - set_bytes (filter (cannot_complete t) q.held.ordered);
    }

-- ## How much of a skip is applicable

-- the skip covers the set
abbrev pub is_covered : ℕ → ChunkSet → Bool
is_covered t set =
    if is_complete set.chunks then list_all (λ c. at_or_before c.tsn t) set.chunks
    else misses t set.chunks

-- a set of the last SSN that is covered, or due next
abbrev pub settles : ℕ → ℕ → ℕ → ChunkSet → Bool
settles next last t set = has_ssn last set && (has_ssn next set || is_covered t set)

-- the TSN, walking the fragments, replaced by one that comes before it; none without any
abbrev pub earlier_tsn : Option ℕ → ℕ → ℕ
earlier_tsn None tsn = tsn
earlier_tsn (Some first) tsn = if comes_before tsn first then tsn else first

abbrev pub earliest_among : Option ℕ → List ChunkPayloadData → Option ℕ
earliest_among first [] = first
earliest_among first (c ∷ cs) = earliest_among (Some (earlier_tsn first c.tsn)) cs

-- a set of the SSN, or after it
abbrev pub is_from : ℕ → ChunkSet → Bool
is_from last set = has_ssn last set || comes_after16 set.ssn last

-- the first TSN of such sets, and of those before the walk; none without any
abbrev pub earliest_from : Option ℕ → ℕ → List ChunkSet → Option ℕ
earliest_from first last [] = first
earliest_from first last (set ∷ sets) =
    earliest_from (if is_from last set then earliest_among first set.chunks else first) last sets

-- a TSN that exists and is at or before the peer's
abbrev pub is_upto : ℕ → Option ℕ → Bool
is_upto peer None = false
is_upto peer (Some tsn) = at_or_before tsn peer

abbrev pub begins_upto : ℕ → List ChunkPayloadData → Bool
begins_upto peer [] = false
begins_upto peer (x ∷ xs) = at_or_before x.tsn peer

-- a set between the next SSN and the last that the skip may pass
abbrev pub is_passable : ℕ → ℕ → ℕ → ℕ → ChunkSet → Bool
is_passable next last t peer set =
    (has_ssn next set || comes_after16 set.ssn next)
    && (comes_before16 set.ssn last && (is_covered t set || begins_upto peer set.chunks))

-- the SSN, walking the sets, replaced by one that comes after it; none without any
abbrev pub later_ssn : Option ℕ → ℕ → ℕ
later_ssn None ssn = ssn
later_ssn (Some last) ssn = if comes_after16 ssn last then ssn else last

abbrev pub latest_passable : Option ℕ → ℕ → ℕ → ℕ → ℕ → List ChunkSet → Option ℕ
latest_passable found next last t peer [] = found
latest_passable found next last t peer (set ∷ sets) =
    latest_passable (if is_passable next last t peer set then Some (later_ssn found set.ssn)
    else found) next last t peer sets

-- the greatest SSN up to the last that may be skipped now
abbrev pub applicable : ℕ → ℕ → ℕ → Reassembly → Option ℕ
applicable last t peer q =
    if comes_after16 q.next_ssn last || (list_any (settles q.next_ssn last t) q.ordered
    || is_upto peer (earliest_from None last q.ordered)) then Some last
    else latest_passable None q.next_ssn last t peer q.ordered
