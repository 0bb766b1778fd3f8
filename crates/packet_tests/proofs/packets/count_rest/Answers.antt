use Rattle.std.proofs.Common.{ℕ, List, ◌+◌, ◌++◌, ◌∷◌, [], arith, length-append, refl, subst}
use Rattle.sctp_util.proofs.Walks.{walks_none, walks_next}
use Rattle.sctp_packets.specs.Packet.{Steps, after}
use Rattle.packet_tests.specs.Passing.{HasRead, Passes}
use Rattle.packet_tests.proofs.packets.count_rest.Goals as goal

next-read : (bytes rest more : List ℕ) (count : ℕ) → HasRead bytes rest count → Passes rest more → HasRead bytes more (count + 1)
next-read bytes rest more count so_far next = record {
  chunks = so_far.chunks ++ next.chunk ∷ [];
  walk = rw next.rest (walks_next Steps after bytes so_far.chunks rest next.chunk so_far.walk next.found);
  counted = omega (arith, so_far.counted, length-append so_far.chunks (next.chunk ∷ []));
}

pub walk-init : goal.walk-init
walk-init c = record {
  read = record { chunks = []; walk = walks_none Steps after c.args.reader.now; counted = refl };
  short = omega arith;
}

pub overflow_add-count : goal.overflow_add-count
overflow_add-count c =
    let less = c.in_ok-pass_chunk.ensures.shorter c.if-not-branch.false in
    omega (arith, c.requires, c.walk.invariant.short, less)

pub walk-preserved : goal.walk-preserved
walk-preserved c =
    let less = c.in_ok-pass_chunk.ensures.shorter c.if-not-branch.false in
    record {
      read = next-read c.args.reader.now c.walk.reader c.pass_chunk.new.reader c.walk.count c.walk.invariant.read
          (c.in_ok-pass_chunk.ensures.passed c.if-not-branch.false);
      short = omega (arith, c.walk.invariant.short, less);
    }

pub returns : goal.returns
returns c = subst (λ r. HasRead c.args.reader.now r c.walk.count) (c.in_ok-pass_chunk.ensures.end c.if-not-branch.true) c.walk.invariant.read
