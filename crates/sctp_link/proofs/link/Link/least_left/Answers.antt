use Rattle.sctp_link.proofs.Names.{◌≡◌, ℕ, ap, sym, ◌∙◌, ◌<◌, true, false, Some, None, refl, arith, length, min, option_copied, slice_index_or, if◌then◌else◌}
use Rattle.sctp_link.proofs.Names.{deque_len, not_both, is_complete, ReassemblyState, is_open, index_of, held_on, is_held, set_of, min_with, record_in}
use Rattle.sctp_link.proofs.Names.{sides_in, InboundStream, Reception, option_map, complete-set, first-at, LinkRecord, ChunkSet, Facts, Bool, complete_first}
use Rattle.sctp_receiver.specs.Receiver.{stream_of}
use Rattle.sctp_link.proofs.sides.Changes.{inbound-answered}
use Rattle.sctp_link.proofs.upkeep.Lookups.{none-open, queue-none, queue-at, QueueAt}
use Rattle.sctp_link.proofs.receiver.Hears.{set-held, none-there}
use Rattle.sctp_link.proofs.skips.SkipComes.{first-none, stream-some}
use Rattle.sctp_link.proofs.link.Link.least_left.Given.{Over}
use Rattle.sctp_link.proofs.link.Link.least_left.Goals.{After-ordered-held, In-Some-front}
use Rattle.sctp_link.proofs.link.Link.least_left.Goals as goal
use Rattle.sctp_link.proofs.upkeep.Facts.{facts}

pub unreachable-requires : goal.unreachable-requires
unreachable-requires g c =
    let w = record_in c.self.inside in
    let s = c.args.stream in
    let o : is_open w s ≡ true = rw (← c.self.view_is) at c.requires in
    let none = queue-none s (sides_in c.self.inside).streams (ap option_copied (sym c.in_default.is)
    ∙ inbound-answered c.self.invariant.0 (λ (l : InboundStream). l.queue) s (option_copied c.reassembly.result) (c.reassembly.ensures
    ∙ ap (λ (r : Reception). option_map (λ (l : InboundStream). l.queue) (stream_of c.args.stream r)) c.receiver.ensures)) in
    not_both (sym (none-open w s (sides_in c.self.inside).streams refl none) ∙ o)

-- The queue of the stream, and the ordered sets that it holds.
queue : (g : Over) (c : After-ordered-held g) → QueueAt c.args.stream (sides_in c.self.inside).streams c.in-Some.queue.now
queue g c = queue-at c.args.stream (sides_in c.self.inside).streams c.in-Some.queue.now (ap option_copied (sym c.in-Some.is)
    ∙ inbound-answered c.self.invariant.0 (λ (l : InboundStream). l.queue) c.args.stream (option_copied c.reassembly.result) (c.reassembly.ensures
    ∙ ap (λ (r : Reception). option_map (λ (l : InboundStream). l.queue) (stream_of c.args.stream r)) c.receiver.ensures))

pub returns-in_default-front : goal.returns-in_default-front
returns-in_default-front g c =
    let p = queue g (goal.at.returns-in_default-front g c).After-ordered-held in
    let held = c.ordered-held.ensures ∙ ap (λ (q : ReassemblyState). q.held.ordered) p.queue in
    let empty : length (slice_index_or (sides_in c.self.inside).streams p.at p.stream).inbound.queue.held.ordered ≡ 0 =
    omega (arith, ap length held, none-there (deque_len c.ordered-held.result.now) c.in_default-front.ensures.variant.1) in
    rw (← c.self.view_is) (first-none c.self.invariant.1 p.at c.args.stream p.stream p.inside p.found empty c.args.low)

-- The first set is of the first message held.
record IsFirst (w : LinkRecord) (s : ℕ) (first : ChunkSet) : Type 0 where
  some : 0 < length (held_on w s)
  held : is_held w s (slice_index_or (held_on w s) 0 0) ≡ true
  is : first ≡ set_of w (slice_index_or (held_on w s) 0 0)

front : (g : Over) (c : In-Some-front g) → QueueAt c.args.stream (sides_in c.self.inside).streams c.in-Some.queue.now
    → IsFirst (record_in c.self.inside) c.args.stream c.in-Some-front.first.now
front g c p =
    let first = c.in-Some-front.first.now in
    let sets = c.ordered-held.ensures ∙ ap (λ (q : ReassemblyState). q.held.ordered) p.queue in
    let some : 0 < length (slice_index_or (sides_in c.self.inside).streams p.at p.stream).inbound.queue.held.ordered =
    omega (arith, ap length sets, c.in-Some-front.ensures.variant.0 refl) in
    let h = set-held c.self.invariant.1 p.at c.args.stream p.stream p.inside p.found 0 first some in
    record {
      some = stream-some c.self.invariant.1 p.at c.args.stream p.stream p.inside p.found some;
      held = h.0;
      is = c.in-Some-front.ensures.lookup ∙ ap (λ is. slice_index_or is 0 first) sets ∙ h.1;
    }

-- Its index counts where it is complete.
counts : {w : LinkRecord} → Facts w → (s : ℕ) (first : ChunkSet) → IsFirst w s first → (b : Bool) → is_complete first.chunks ≡ b
    → complete_first w (held_on w s) ≡ (if b then Some (index_of w (slice_index_or (held_on w s) 0 0)) else None)
counts {w} f s first i b e =
    let n = slice_index_or (held_on w s) 0 0 in
    first-at w s i.some ∙ ap (λ b. if b then Some (index_of w n) else None) (sym (complete-set f s n first i.held i.is) ∙ e)

pub returns-then-not-is_complete : goal.returns-then-not-is_complete
returns-then-not-is_complete g c =
    let p = goal.at.returns-then-not-is_complete g c in
    let i = front g p.In-Some-front (queue g p.After-ordered-held) in
    rw (← c.self.view_is) (ap (λ o. min_with o c.args.low)
    (sym (counts (facts c.self.invariant.1) c.args.stream c.in-Some-front.first.now i false (sym c.is_complete.ensures ∙ c.if-not-is_complete.true))))

pub index_of-requires : goal.index_of-requires
index_of-requires g c =
    let p = goal.at.index_of-requires g c in
    let i = front g p.In-Some-front (queue g p.After-ordered-held) in
    rw (← c.self.view_is) (c.args.stream, slice_index_or (held_on (record_in c.self.inside) c.args.stream) 0 0, i.held, i.is)

pub returns : goal.returns
returns g c =
    let w = record_in c.self.inside in
    let s = c.args.stream in
    let first = c.in-Some-front.first.now in
    let p = goal.at.returns g c in
    let i = front g p.In-Some-front (queue g p.After-ordered-held) in
    let answered : (s n : ℕ) → is_held w s n ≡ true → first ≡ set_of w n → c.index_of.result ≡ index_of w n = rw (← c.self.view_is) at c.index_of.ensures in
    rw (← c.self.view_is)
    (c.min.ensures ∙ ap (min c.args.low) (answered s (slice_index_or (held_on w s) 0 0) i.held i.is) ∙ ap (λ o. min_with o c.args.low)
    (sym (counts (facts c.self.invariant.1) s first i true (sym c.is_complete.ensures ∙ c.if-not-is_complete.false))))
