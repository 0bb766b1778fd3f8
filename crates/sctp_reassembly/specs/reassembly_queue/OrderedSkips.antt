-- Skips of ordered messages that are noted one after another, and then made at once.
use Rattle.std.specs.Prelude.{ℕ, ◌+◌, ◌-◌, ◌^◌, Bool, ◌&&◌, not, nat_lt, Option, Some, None}
use Rattle.std.specs.List.{filter}
use Rattle.sctp_util.specs.Serial.{distance16}
use Rattle.sctp_data.specs.ChunkSet.{ChunkSet}
use Rattle.sctp_reassembly.specs.declared.reassembly_queue.ordered_skips.SsnSpan.{SsnSpan}
use Rattle.sctp_reassembly.specs.declared.reassembly_queue.ordered_skips.OrderedSkips.{OrderedSkips}
use Rattle.sctp_reassembly.specs.reassembly_queue.Fragments.{is_complete}
use Rattle.sctp_reassembly.specs.reassembly_queue.ReassemblyQueue.{Reassembly, ReassemblyState, set_bytes}

-- the last number of the stretch is the number, or lies less than half a circle and so many more after it
abbrev pub is_in : SsnSpan → ℕ → Bool
is_in span ssn = nat_lt (distance16 ssn span.last) (2 ^ 15 + span.more)

-- an incomplete set of such a number
abbrev pub is_skipped : SsnSpan → ChunkSet → Bool
is_skipped span set = is_in span set.ssn && not (is_complete set.chunks)

abbrev pub held_after_noted_skips : OrderedSkips → Reassembly → Reassembly
held_after_noted_skips skips q =
    record q {
      ordered = filter (λ set. not (is_skipped skips.passed set)) q.ordered;
      next_ssn = skips.next_ssn;
    }

abbrev pub after_noted_skips : OrderedSkips → ReassemblyState → ReassemblyState
after_noted_skips skips q =
    record q {
      held = held_after_noted_skips skips q.held;
      bytes = q.bytes
          - set_bytes (filter (is_skipped skips.passed) q.held.ordered);
    }

-- what is noted is made, if anything is
abbrev pub after_noted : Option OrderedSkips → ReassemblyState → ReassemblyState
after_noted None q = q
after_noted (Some skips) q = after_noted_skips skips q
