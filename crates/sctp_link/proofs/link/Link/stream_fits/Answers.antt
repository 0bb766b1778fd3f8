use Rattle.sctp_link.proofs.Names.{length-mapped, ◌≡◌, ℕ, ◌+◌, ◌<◌, true, Some, refl, ap, sym, ◌∙◌, arith, length, map, is_some, slice_get, slice_index_or}
use Rattle.sctp_link.proofs.Names.{nat_lt, StreamRecord, is_open, index_of, held_on, next_of, least, greatest, names_fit, complete_first, IsAligned}
use Rattle.sctp_link.proofs.Names.{OpenStream, new_open_stream, min_with, Inside, Named, record_in, state_in, sides_in, stream_record, named_in, Judged}
use Rattle.sctp_link.proofs.Names.{judged, lowest-short}
use Rattle.sctp_link.specs.Progress.{fresh}
use Rattle.sctp_link.proofs.sides.Aligned.{count-is}
use Rattle.sctp_link.proofs.sides.Changes.{number-answered}
use Rattle.sctp_link.proofs.skips.SkipComes.{open-at, record-at}
use Rattle.sctp_link.proofs.link.Link.stream_fits.Given.{Over}
use Rattle.sctp_link.proofs.link.Link.stream_fits.Goals.{After-number_at-stream, After-index_range-low}
use Rattle.sctp_link.proofs.link.Link.stream_fits.Goals as goal
use Rattle.sctp_link.proofs.upkeep.Facts.{facts}

-- The stream at a place is open, and it is the one that the record has there.
record IsOpenAt {C : Type 0} (a : Inside C) (at s : ℕ) : Type 0 where
  opened : is_open (record_in a) s ≡ true
  there : (r : StreamRecord) → slice_get (record_in a).streams at ≡ Some r → s ≡ r.stream

at-inside : {C : Type 0} (a : Inside C) → IsAligned a.sender a.receiver a.progress → (at : ℕ) → at < length (record_in a).streams → at < length a.progress
at-inside a al at inside = omega (arith, inside, length-mapped stream_record (sides_in a).streams, count-is al)

pub number_at-stream-requires : goal.number_at-stream-requires
number_at-stream-requires g c =
    let inside : c.args.at < length (record_in c.self.inside).streams = rw (← c.self.view_is) at c.requires.inside in
    at-inside c.self.inside c.self.invariant.0 c.args.at inside

open-one : {C : Type 0} (a : Inside C) (at s : ℕ) → at < length (record_in a).streams
    → ((d : OpenStream) → s ≡ (slice_index_or (sides_in a).streams at d).state.stream_identifier) → IsOpenAt a at s
open-one a at s inside id =
    let y = new_open_stream 0 0 0 in
    let lt : at < length (sides_in a).streams = omega (arith, inside, length-mapped stream_record (sides_in a).streams) in
    record {
      opened = ap (is_open (record_in a)) (id y) ∙ ap is_some (open-at (state_in a) refl at y lt).1;
      there = λ r e. id y ∙ sym (record-at (sides_in a).streams at y r e);
    }

-- It is the one whose number is read there.
here : (g : Over) (c : After-number_at-stream g) → IsOpenAt c.self.inside c.args.at c.number_at-stream.result
here g c =
    let a = c.self.inside in
    let inside : c.args.at < length (record_in a).streams = rw (← c.self.view_is) at c.requires.inside in
    open-one a c.args.at c.number_at-stream.result inside (λ e. c.number_at-stream.ensures (fresh 0)
    ∙ number-answered c.self.invariant.0 c.args.at (fresh 0) e (at-inside a c.self.invariant.0 c.args.at inside))

-- What was found of it and of the names is what the record has.
judge : (g : Over) (c : After-index_range-low g) → IsOpenAt c.self.inside c.args.at c.number_at-stream.result → (r : StreamRecord)
    → slice_get (record_in c.self.inside).streams c.args.at ≡ Some r → Judged (record_in c.self.inside) c.number_at-stream.result c.args.names.now
    c.index_range-low.result.0 c.index_range-low.result.1 c.named_at-named.result.low c.named_at-named.result.end
judge g c o r e =
    let w = record_in c.self.inside in
    let s = c.number_at-stream.result in
    let low : c.index_range-low.result.0 ≡ least (next_of w s) (map (index_of w) (held_on w s)) = rw (← c.self.view_is) at c.index_range-low.ensures.low in
    let high : c.index_range-low.result.1 ≡ greatest (next_of w s) (map (index_of w) (held_on w s)) = rw (← c.self.view_is) at c.index_range-low.ensures.high in
    let named : (r : StreamRecord) → slice_get w.streams c.args.at ≡ Some r → c.named_at-named.result ≡ named_in w r.stream c.args.names.now =
    rw (← c.self.view_is) at c.named_at-named.ensures in
    let is : c.named_at-named.result ≡ named_in w s c.args.names.now = named r e ∙ ap (λ t. named_in w t c.args.names.now) (sym (o.there r e)) in
    judged w s c.args.names.now c.index_range-low.result.0 c.index_range-low.result.1 c.named_at-named.result.low c.named_at-named.result.end low high
    (ap (λ (d : Named). d.low) is) (ap (λ (d : Named). d.end) is)

pub index_range-low-requires : goal.index_range-low-requires
index_range-low-requires g c = rw (← c.self.view_is) (here g (goal.at.index_range-low-requires g c).After-number_at-stream).opened

pub overflow_add-span : goal.overflow_add-span
overflow_add-span g c =
    let w = record_in c.self.inside in
    let s = c.number_at-stream.result in
    let low : c.index_range-low.result.0 ≡ least (next_of w s) (map (index_of w) (held_on w s)) = rw (← c.self.view_is) at c.index_range-low.ensures.low in
    omega (arith, c.min-span.ensures, low, lowest-short (facts c.self.invariant.1) s)

pub returns-then-max-span : goal.returns-then-max-span
returns-then-max-span g c =
    let p = goal.at.returns-then-max-span g c in
    let o = here g p.After-number_at-stream in
    rw (← c.self.view_is) (λ r e. (judge g p.After-index_range-low o r e).no'
    (omega (arith, c.if-max-span.true, c.min-span.ensures, c.max.ensures, c.saturating_sub.ensures))
    ∙ ap (λ t. names_fit (record_in c.self.inside) t c.args.names.now) (o.there r e))

pub least_left-requires : goal.least_left-requires
least_left-requires g c = rw (← c.self.view_is) (here g (goal.at.least_left-requires g c).After-number_at-stream).opened

pub returns-then-named-span : goal.returns-then-named-span
returns-then-named-span g c =
    let p = goal.at.returns-then-named-span g c in
    let o = here g p.After-number_at-stream in
    rw (← c.self.view_is) (λ r e. ap (λ n. nat_lt c.named_at-named.result.end (n + 32768)) c.min-span.ensures
    ∙ (judge g p.After-index_range-low o r e).yes' (omega (arith, c.if-max-span.false, c.min-span.ensures, c.max.ensures, c.saturating_sub.ensures))
    (omega (arith, c.if-named-span.true, c.min-span.ensures)) ∙ ap (λ t. names_fit (record_in c.self.inside) t c.args.names.now) (o.there r e))

pub returns-else-named-span : goal.returns-else-named-span
returns-else-named-span g c =
    let w = record_in c.self.inside in
    let s = c.number_at-stream.result in
    let p = goal.at.returns-else-named-span g c in
    let o = here g p.After-number_at-stream in
    let left : c.least_left.result ≡ min_with (complete_first w (held_on w s)) c.named_at-named.result.low = rw (← c.self.view_is) at c.least_left.ensures in
    rw (← c.self.view_is) (λ r e. (judge g p.After-index_range-low o r e).edge c.least_left.result left
    (omega (arith, c.if-max-span.false, c.min-span.ensures, c.max.ensures, c.saturating_sub.ensures))
    (omega (arith, c.if-named-span.false, c.min-span.ensures)) ∙ ap (λ t. names_fit w t c.args.names.now) (o.there r e))
