use Rattle.std.proofs.Common.{◌≡◌, length, arith, inl, inr}
use Rattle.std.specs.Prelude.{map}
use Rattle.std.proofs.lemmas.Result.{err_from_is_err_and}
use Rattle.std.proofs.lemmas.Grind.{common_steps}
use Rattle.std.proofs.lemmas.List.{map-append, nil_from_length}
use Rattle.sctp_chunks.specs.Wire.{HasEncoding}
use Rattle.sctp_chunks.specs.Kind.{wire_of, IsFreshKind}
use Rattle.sctp_util.proofs.Walks.{walks_none, walks_next}
use Rattle.sctp_packets.specs.Packet.{Steps, after}
use Rattle.sctp_chunks.specs.Fits.{Canonical}
use Rattle.sctp_packets.specs.Fault.{WalkFault}
use Rattle.sctp_packets.proofs.Walk.{goes_on, walks_same, all_next}
use Rattle.sctp_packets.proofs.packet.read_chunks.Goals as goal

pub walk-init : goal.walk-init
walk-init c = record {
  walk = rw c.in_ok-chunks.ensures.items (walks_none Steps after c.args.raw);
  rewritable = rw c.in_ok-chunks.ensures.items tt;
  canonical = rw c.in_ok-chunks.ensures.items tt;
  fresh = rw c.in_ok-chunks.ensures.items tt;
}

pub walk-preserved : goal.walk-preserved
unfolding after
walk-preserved c =
    let taken = c.in_ok-length.ensures.found in
    let next = walks_next Steps after c.args.raw (map wire_of c.walk.chunks.items) c.walk.rest
    (wire_of taken.chunk) c.walk.invariant.walk taken.found in
    let encodings = all_next HasEncoding (map wire_of c.walk.chunks.items)
    (wire_of taken.chunk) c.walk.invariant.rewritable taken.rewritable in
    let again = all_next Canonical (map wire_of c.walk.chunks.items) (wire_of taken.chunk) c.walk.invariant.canonical taken.canonical in
    record {
      walk = rw (taken.items, c.reserve.ensures.items, map-append, c.advance.ensures, c.in_ok-length.ensures.length) next;
      rewritable = rw (taken.items, c.reserve.ensures.items, map-append) encodings;
      canonical = rw (taken.items, c.reserve.ensures.items, map-append) again;
      fresh = rw (taken.items, c.reserve.ensures.items)
          (all_next IsFreshKind c.walk.chunks.items taken.chunk c.walk.invariant.fresh taken.fresh);
    }

pub returns-in_err-length-clause-only : goal.returns-in_err-length-clause-only
returns-in_err-length-clause-only c = λ ws whole.
    let p = err_from_is_err_and c.from_residual-in_err-length.result c.from_residual-in_err-length.ensures.1 in
    let next = goes_on c.args.raw (map wire_of c.walk.chunks.items) ws c.walk.rest c.walk.invariant.walk whole (grind (arith, common_steps)) in
    rw (p.1, p.2) (c.in_err-length.ensures.only next.0 next.1)

pub returns-in_err-length-clause-fault : goal.returns-in_err-length-clause-fault
unfolding WalkFault
returns-in_err-length-clause-fault c =
    let p = err_from_is_err_and c.from_residual-in_err-length.result c.from_residual-in_err-length.ensures.1 in
    rw (p.1, p.2) (elim c.in_err-length.ensures.fault [
      | inl memory ↦ inl memory
      | inr fault ↦ inr (map wire_of c.walk.chunks.items, c.walk.rest, c.walk.invariant.walk, fault)
    ])

pub returns-clause-only : goal.returns-clause-only
returns-clause-only c = λ ws whole.
    let ended : length c.walk.rest ≡ 0 = grind (arith, common_steps) in
    let all = rw (nil_from_length c.walk.rest ended) at c.walk.invariant.walk in
    walks_same c.args.raw (map wire_of c.walk.chunks.items) ws all whole
