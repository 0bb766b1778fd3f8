use Rattle.sctp_link.proofs.Names.{length-mapped, record_in, sides_in, ◌≡◌, ℕ, ◌<◌, ◌≤◌, ◌+◌, [], Some, refl, ap, sym, ◌∙◌, arith, length, slice_get, Forward}
use Rattle.sctp_link.proofs.Names.{list_all, take_all, names_fit, stream_record, subst, HasNames, all-more, all-no}
use Rattle.sctp_link.proofs.sides.Aligned.{count-is}
use Rattle.sctp_link.proofs.skips.NamedOnEach.{table-there}
use Rattle.sctp_link.proofs.link.Link.names_fit.Given.{Over}
use Rattle.sctp_link.proofs.link.Link.names_fit.Goals.{After-len-at-end}
use Rattle.sctp_link.proofs.link.Link.names_fit.Goals as goal

pub loop-at-init : goal.loop-at-init
loop-at-init g c = refl

-- All streams are gone through.
counted : (g : Over) (c : After-len-at-end g) → c.len-at-end.result ≡ length (record_in c.self.inside).streams
counted g c = omega (arith, c.len-at-end.ensures, count-is c.self.invariant.0, length-mapped stream_record (sides_in c.self.inside).streams)

pub stream_fits-requires-clause-inside : goal.stream_fits-requires-clause-inside
stream_fits-requires-clause-inside g c =
    rw (← c.self.view_is) (omega (arith, c.loop-at-test.true, counted g (goal.at.stream_fits-requires-clause-inside g c).After-len-at-end))

pub stream_fits-requires-clause-table : goal.stream_fits-requires-clause-table
stream_fits-requires-clause-table g c =
    let a = c.self.inside in
    let lies : (k : ℕ) × (slice_get (record_in a).network k ≡ Some (Forward c.args.upto c.args.names.now)) = rw (← c.self.view_is) at c.requires in
    let lt : c.loop-at.at < length a.progress = omega (arith, c.loop-at-test.true, c.len-at-end.ensures) in
    let named : HasNames a.messages.items c.args.names.now [] a.progress c.named_on_each-table.result.items =
    subst (λ ms. HasNames ms c.args.names.now [] a.progress c.named_on_each-table.result.items) c.deref.ensures.value c.named_on_each-table.ensures.names in
    rw (← c.self.view_is)
    (table-there (g.C.Checksum.sum a.checksum) a c.self.invariant.0 c.self.invariant.1 lies.0 c.args.upto c.args.names.now lies.1 c.loop-at.at lt
    c.deref-in-loop-at.result.now
    (subst (HasNames a.messages.items c.args.names.now [] a.progress) (sym c.deref-in-loop-at.ensures.value) named))

pub returns-then-not-stream_fits : goal.returns-then-not-stream_fits
returns-then-not-stream_fits g c =
    let v = c.args.self.now.recorded in
    let lt : c.loop-at.at < length v.streams = rw (← c.self.view_is)
    (omega (arith, c.loop-at-test.true, counted g (goal.at.returns-then-not-stream_fits g c).After-len-at-end)) in
    sym (all-no (λ r. names_fit v r.stream c.args.names.now) v.streams (c.loop-at.at + 1) (all-more (λ r. names_fit v r.stream c.args.names.now) v.streams
    c.loop-at.at c.stream_fits.result lt c.stream_fits.ensures c.loop-at.invariant ∙ c.if-not-stream_fits.true))

pub loop-at-preserved : goal.loop-at-preserved
loop-at-preserved g c =
    let v = c.args.self.now.recorded in
    let lt : c.loop-at.at < length v.streams = rw (← c.self.view_is)
    (omega (arith, c.loop-at-test.true, counted g (goal.at.loop-at-preserved g c).After-len-at-end)) in
    all-more (λ r. names_fit v r.stream c.args.names.now) v.streams c.loop-at.at c.stream_fits.result lt c.stream_fits.ensures c.loop-at.invariant
    ∙ c.if-not-stream_fits.false

pub returns : goal.returns
returns g c =
    let v = c.args.self.now.recorded in
    let le : length v.streams ≤ c.loop-at.at = rw (← c.self.view_is) (omega (arith, c.loop-at-test.false, counted g (goal.at.returns g c).After-len-at-end)) in
    sym (ap (list_all (λ r. names_fit v r.stream c.args.names.now)) (sym (take_all c.loop-at.at v.streams le)) ∙ c.loop-at.invariant)
