use Rattle.sctp_link.proofs.Names.{◌≡◌, ℕ, ap, sym, ◌∙◌, ◌<◌, ◌-◌, true, List, Some, None, refl, arith, length, find, min, max, option_map, slice_index_or}
use Rattle.sctp_link.proofs.Names.{deque_len, not_both, ChunkSet, ReassemblyState, is_open, index_of, held_on, is_held, set_of, OpenStream, has_number}
use Rattle.sctp_link.proofs.Names.{record_in, state_in, sides_in, State, IsLinked, InboundStream, Reception, some-same}
use Rattle.sctp_receiver.specs.Receiver.{stream_of}
use Rattle.sctp_link.proofs.sides.Changes.{inbound-answered, next-answered}
use Rattle.sctp_link.proofs.upkeep.Lookups.{none-open, queue-none, queue-at}
use Rattle.sctp_link.proofs.receiver.Hears.{none-answered, ends-empty, set-held, low-front, high-back, none-there}
use Rattle.sctp_link.proofs.link.Link.index_range.Given.{Over}
use Rattle.sctp_link.proofs.link.Link.index_range.Goals.{After-ordered-held}
use Rattle.sctp_link.proofs.link.Link.index_range.Goals as goal

pub unreachable-requires : goal.unreachable-requires
unreachable-requires g c =
    let o : is_open (record_in c.self.inside) c.args.stream ≡ true = rw (← c.self.view_is) at c.requires in
    not_both (sym (none-open (record_in c.self.inside) c.args.stream (sides_in c.self.inside).streams refl (none-answered
    (find (has_number c.args.stream) (sides_in c.self.inside).streams) (next-answered c.self.invariant.0 c.args.stream None c.in_default.ensures))) ∙ o)

pub unreachable-requires-in_default-reassembly : goal.unreachable-requires-in_default-reassembly
unreachable-requires-in_default-reassembly g c =
    let o : is_open (record_in c.self.inside) c.args.stream ≡ true = rw (← c.self.view_is) at c.requires in
    let none = queue-none c.args.stream (sides_in c.self.inside).streams
    (inbound-answered c.self.invariant.0 (λ (l : InboundStream). l.queue) c.args.stream None (c.in_default-reassembly.ensures
    ∙ ap (λ (r : Reception). option_map (λ (l : InboundStream). l.queue) (stream_of c.args.stream r)) c.receiver.ensures)) in
    not_both (sym (none-open (record_in c.self.inside) c.args.stream (sides_in c.self.inside).streams refl none) ∙ o)

-- What a link tells of a stream: where it stands, which index is expected next, and the ordered sets that are held.
record IsAnswered (x : State) (s next : ℕ) (sets : List ChunkSet) : Type 0 where
  at : ℕ
  d : OpenStream
  lt : at < length x.open_streams
  found : find (has_number s) x.open_streams ≡ Some (slice_index_or x.open_streams at d)
  next_is : next ≡ (slice_index_or x.open_streams at d).next
  held : sets ≡ (slice_index_or x.open_streams at d).inbound.queue.held.ordered

at : (g : Over) (c : After-ordered-held g) → IsAnswered (state_in c.self.inside) c.args.stream c.in-Some.next c.ordered-held.result.now.items
at g c =
    let p = queue-at c.args.stream (sides_in c.self.inside).streams c.in-Some-reassembly.queue.now (inbound-answered c.self.invariant.0
    (λ (l : InboundStream). l.queue) c.args.stream (Some c.in-Some-reassembly.queue.now) (c.in-Some-reassembly.ensures
    ∙ ap (λ (r : Reception). option_map (λ (l : InboundStream). l.queue) (stream_of c.args.stream r)) c.receiver.ensures)) in
    record {
      at = p.at;
      d = p.stream;
      lt = p.inside;
      found = p.found;
      next_is = some-same (next-answered c.self.invariant.0 c.args.stream (Some c.in-Some.next) c.in-Some.ensures ∙ ap (option_map (λ l. l.next)) p.found);
      held = c.ordered-held.ensures ∙ ap (λ (r : ReassemblyState). r.held.ordered) p.queue;
    }

-- The set at a place is of the message that is held there.
set-answered : {sum : List ℕ → ℕ} {x : State} (l : IsLinked sum x) (s next : ℕ) (sets : List ChunkSet) (t : IsAnswered x s next sets) (i : ℕ) (e : ChunkSet)
    → i < length sets → e ≡ slice_index_or sets i e
    → (is_held x.recorded s (slice_index_or (held_on x.recorded s) i 0) ≡ true) × (e ≡ set_of x.recorded (slice_index_or (held_on x.recorded s) i 0))
set-answered l s next sets t i e lt is =
    let h = set-held l t.at s t.d t.lt t.found i e (omega (arith, lt, ap length t.held)) in
    (h.0, is ∙ ap (λ ys. slice_index_or ys i e) t.held ∙ h.1)

pub returns-in_default-front-clause-low : goal.returns-in_default-front-clause-low
returns-in_default-front-clause-low g c =
    let x = state_in c.self.inside in
    let t = at g (goal.at.returns-in_default-front-clause-low g c).After-ordered-held in
    let empty : length (slice_index_or x.open_streams t.at t.d).inbound.queue.held.ordered ≡ 0 =
    omega (arith, ap length t.held, none-there (deque_len c.ordered-held.result.now) c.in_default-front.ensures.variant.1) in
    rw (← c.self.view_is) (t.next_is ∙ (ends-empty c.self.invariant.1 t.at c.args.stream t.d t.lt t.found empty).0)

pub returns-in_default-front-clause-high : goal.returns-in_default-front-clause-high
returns-in_default-front-clause-high g c =
    let x = state_in c.self.inside in
    let t = at g (goal.at.returns-in_default-front-clause-high g c).After-ordered-held in
    let empty : length (slice_index_or x.open_streams t.at t.d).inbound.queue.held.ordered ≡ 0 =
    omega (arith, ap length t.held, none-there (deque_len c.ordered-held.result.now) c.in_default-front.ensures.variant.1) in
    rw (← c.self.view_is) (t.next_is ∙ (ends-empty c.self.invariant.1 t.at c.args.stream t.d t.lt t.found empty).1)

pub index_of-requires : goal.index_of-requires
index_of-requires g c =
    let x = state_in c.self.inside in
    let sets = c.ordered-held.result.now.items in
    let t = at g (goal.at.index_of-requires g c).After-ordered-held in
    let some : 0 < length sets = omega (arith, c.in-Some-front.ensures.variant.0 refl) in
    let h = set-answered c.self.invariant.1 c.args.stream c.in-Some.next sets t 0 c.in-Some-front.first.now some c.in-Some-front.ensures.lookup in
    rw (← c.self.view_is) (c.args.stream, slice_index_or (held_on x.recorded c.args.stream) 0 0, h.0, h.1)

pub index_of-requires-2 : goal.index_of-requires-2
index_of-requires-2 g c =
    let x = state_in c.self.inside in
    let sets = c.ordered-held.result.now.items in
    let t = at g (goal.at.index_of-requires-2 g c).After-ordered-held in
    let some : 0 < length sets = omega (arith, c.in-Some-front.ensures.variant.0 refl) in
    let many : deque_len c.ordered-held.result.now ≡ length sets = omega arith in
    let last = c.in-Some-back.last.now in
    let h = set-answered c.self.invariant.1 c.args.stream c.in-Some.next sets t (length sets - 1) last (omega (arith, some))
    (c.in-Some-back.ensures.lookup ∙ ap (λ k. slice_index_or sets (k - 1) last) many) in
    rw (← c.self.view_is) (c.args.stream, slice_index_or (held_on x.recorded c.args.stream) (length sets - 1) 0, h.0, h.1)

pub returns-clause-low : goal.returns-clause-low
returns-clause-low g c =
    let x = state_in c.self.inside in
    let sets = c.ordered-held.result.now.items in
    let t = at g (goal.at.returns-clause-low g c).After-ordered-held in
    let some : 0 < length sets = omega (arith, c.in-Some-front.ensures.variant.0 refl) in
    let h = set-answered c.self.invariant.1 c.args.stream c.in-Some.next sets t 0 c.in-Some-front.first.now some c.in-Some-front.ensures.lookup in
    let answered : (s n : ℕ) → is_held x.recorded s n ≡ true → c.in-Some-front.first.now ≡ set_of x.recorded n
    → c.index_of.result ≡ index_of x.recorded n = rw (← c.self.view_is) at c.index_of.ensures in
    rw (← c.self.view_is) (c.min-low.ensures ∙ ap (λ n. min n c.index_of.result) t.next_is ∙ low-front c.self.invariant.1 t.at c.args.stream t.d t.lt t.found
    c.index_of.result (omega (arith, some, ap length t.held)) (answered c.args.stream (slice_index_or (held_on x.recorded c.args.stream) 0 0) h.0 h.1))

pub returns-clause-high : goal.returns-clause-high
returns-clause-high g c =
    let x = state_in c.self.inside in
    let sets = c.ordered-held.result.now.items in
    let t = at g (goal.at.returns-clause-high g c).After-ordered-held in
    let some : 0 < length sets = omega (arith, c.in-Some-front.ensures.variant.0 refl) in
    let many : deque_len c.ordered-held.result.now ≡ length sets = omega arith in
    let last = c.in-Some-back.last.now in
    let h = set-answered c.self.invariant.1 c.args.stream c.in-Some.next sets t (length sets - 1) last (omega (arith, some))
    (c.in-Some-back.ensures.lookup ∙ ap (λ k. slice_index_or sets (k - 1) last) many) in
    let answered : (s n : ℕ) → is_held x.recorded s n ≡ true → last ≡ set_of x.recorded n
    → c.index_of-2.result ≡ index_of x.recorded n = rw (← c.self.view_is) at c.index_of-2.ensures in
    let is = answered c.args.stream (slice_index_or (held_on x.recorded c.args.stream) (length sets - 1) 0) h.0 h.1 in
    rw (← c.self.view_is) (c.max-high.ensures ∙ ap (λ n. max n c.index_of-2.result) t.next_is
    ∙ high-back c.self.invariant.1 t.at c.args.stream t.d t.lt t.found c.index_of-2.result (omega (arith, some, ap length t.held)) (is
    ∙ ap (λ (ys : List ChunkSet). index_of x.recorded (slice_index_or (held_on x.recorded c.args.stream) (length ys - 1) 0)) t.held))
