use Rattle.sctp_link.proofs.Names.{◌≡◌, ℕ, ◌<◌, length, Some, ap, arith, ◌∙◌, slice_get, slice_index_or, get_or_default, Forward, Named, record_in, sides_in}
use Rattle.sctp_link.proofs.Names.{stream_record, named_from, none_named, length-mapped}
use Rattle.sctp_link.specs.Progress.{fresh}
use Rattle.sctp_link.proofs.sides.Aligned.{count-is}
use Rattle.sctp_link.proofs.skips.NamedOnEach.{named-there}
use Rattle.sctp_link.proofs.link.Link.named_at.Goals as goal

pub number_at-requires : goal.number_at-requires
number_at-requires g c =
    let a = c.self.inside in
    let inside : c.args.at < length (record_in a).streams = rw (← c.self.view_is) at c.requires.inside in
    omega (arith, inside, length-mapped stream_record (sides_in a).streams, count-is c.self.invariant.0)

pub returns-then-at-table : goal.returns-then-at-table
returns-then-at-table g c = λ r e.
    let z : Named = record { low = 0; end = 0 } in
    let d = slice_index_or c.args.table.now c.args.at z in
    c.requires.table r d e c.if-at-table.true (get_or_default c.args.table.now c.args.at z d c.if-at-table.true)

pub returns : goal.returns
returns g c =
    let a = c.self.inside in
    let w = record_in a in
    let inside : c.args.at < length w.streams = rw (← c.self.view_is) at c.requires.inside in
    let lies : (k : ℕ) × (slice_get w.network k ≡ Some (Forward c.args.upto c.args.names.now)) = rw (← c.self.view_is) at c.requires.lies in
    let lt : c.args.at < length a.progress =
    omega (arith, inside, length-mapped stream_record (sides_in a).streams, count-is c.self.invariant.0) in
    rw (← c.self.view_is)
    (λ r e. c.named_on.ensures ∙ ap (λ ms. named_from ms c.number_at.result none_named c.args.names.now) c.deref.ensures.value
    ∙ named-there (g.C.Checksum.sum a.checksum) a c.self.invariant.0 c.self.invariant.1 lies.0 c.args.upto c.args.names.now lies.1 c.args.at lt
    c.number_at.result (c.number_at.ensures (fresh 0)) r e)
