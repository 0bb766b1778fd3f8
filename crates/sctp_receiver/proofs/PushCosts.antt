-- What a DATA chunk looks at.
use Rattle.sctp_receiver.proofs.Names.{◌≡◌, length, ℕ, ◌+◌, ◌-◌, ◌*◌, ◌^◌, ◌≤◌, true, false, Option, Some, None, refl, arith, ChunkPayloadData, digits}
use Rattle.sctp_receiver.proofs.Names.{within_digits, IsOrderly, ReassemblyState, held_after_ordered_push, InboundStream, IsWithinPush, IsWithinPushOn, IsWithinData, Reception}
use Rattle.sctp_receiver.proofs.Names.{stream_of}
use Rattle.sctp_reassembly.specs.reassembly_queue.Costs.{ordered_push_looks, ordered_push_walk, FitsInOrder, Joins, JoinsAtEnd, unordered_push_looks}
use Rattle.sctp_reassembly.specs.reassembly_queue.Costs.{unordered_push_walk}
use Rattle.sctp_receiver.specs.Costs.{filter_looks}

-- a look-up among so many takes no more than one among more
pub few-digits : (m n s : ℕ) → m ≤ n → 2 ^ s ≤ 2 * m + 1 → s ≤ digits n
few-digits m n s le h = within_digits n s (omega (arith, h, le))

-- a push whose turns are bounded by what it leaves
pub push-within : (x : ChunkPayloadData) (q new : ReassemblyState) (before after : ℕ)
    → (x.unordered ≡ false → IsOrderly q.held.ordered → IsOrderly (held_after_ordered_push x q.held).ordered → IsOrderly new.held.ordered)
    → (x.unordered ≡ false → IsOrderly q.held.ordered → IsOrderly new.held.ordered → after ≤ before + ordered_push_looks x q.held)
    → (x.unordered ≡ false → after ≤ before + ordered_push_walk x q.held)
    → (x.unordered ≡ true → FitsInOrder x q.held → (first last : ℕ) → Joins x q.held first last → after ≤ before + unordered_push_looks q.held first last)
    → (x.unordered ≡ true → FitsInOrder x q.held → (first last : ℕ) → JoinsAtEnd x q first last → after ≤ before + digits (length q.held.unassembled) + 9)
    → (x.unordered ≡ true → after ≤ before + unordered_push_walk q.held) → IsWithinPush x q (after - before)
push-within x q new before after same a b c e d = record {
  ordered = λ off old then. omega (arith, a off old (same off old then));
  ordered_walk = λ off. omega (arith, b off);
  unordered = λ on f s t w. omega (arith, c on f s t w);
  unordered_few = λ on f s t w. omega (arith, e on f s t w);
  unordered_walk = λ on. omega (arith, d on);
}

-- none at all
none-on : (x : ChunkPayloadData) (o : Option InboundStream) → IsWithinPushOn x o 0
none-on x None = refl
none-on x (Some l) = record {
  ordered = λ off old then. omega arith;
  ordered_walk = λ off. omega arith;
  unordered = λ on f s t w. omega arith;
  unordered_few = λ on f s t w. omega arith;
  unordered_walk = λ on. omega arith;
}

pub data-none : (x : ChunkPayloadData) (old new : Reception) (turns : ℕ) → turns ≤ filter_looks old → IsWithinData x old new turns
data-none x old new turns few = record { pushing = 0; others = omega (arith, few); pushes = none-on x (stream_of x.stream_identifier old) }

pub data-less : (x : ChunkPayloadData) (old new : Reception) (turns more : ℕ) → turns ≤ more → IsWithinData x old new more → IsWithinData x old new turns
data-less x old new turns more le h = record { pushing = h.pushing; others = omega (arith, le, h.others); pushes = h.pushes }
