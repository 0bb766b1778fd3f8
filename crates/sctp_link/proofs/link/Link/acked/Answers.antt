use Rattle.sctp_link.proofs.Names.{◌≡◌, ◌+◌, ◌-◌, ◌<◌, ◌≤◌, ◌%◌, ◌^◌, ℕ, List, true, ap, sym, ◌∙◌, refl, length, subst, arith, Some, None, max, slice_get}
use Rattle.sctp_link.proofs.Names.{list_any, ChunkSelectiveAck, sack_of, bytes_of, is_in_blocks, Outbound, with_items, with_items_is, cumulative_tsn, Report}
use Rattle.sctp_link.proofs.Names.{refusal_of, acknowledged_at, released_by, after_sack, sack_refusal, after_releases, Sides, Transmission, IsMarking, and_run}
use Rattle.sctp_link.proofs.Names.{and_blocks, in_block, IsLinked, Inside, Slot, state_from, record_from, record_in, state_in, sides_in, count-made}
use Rattle.sctp_link.proofs.Names.{sack-there}
use Rattle.sctp_model.specs.declared.event.Event.TheVariants as E
use Rattle.sctp_model.specs.LinkRecord.{Sack}
use Rattle.sctp_model.specs.Reply as R
use Rattle.sctp_link.proofs.sides.Changes.{only-memory, acked-aligned, acked-sides}
use Rattle.sctp_link.proofs.upkeep.Facts.{facts}
use Rattle.sctp_link.proofs.acknowledgement.SackTaken.{Taken, wire_sack, reads-sack, count-is, reported, marking-first, not-refused, within-run, within-blocks}
use Rattle.sctp_link.proofs.acknowledgement.SackTaken.{taken-all}
use Rattle.sctp_link.proofs.link.Link.acked.Given.{Over}
use Rattle.sctp_link.proofs.link.Link.acked.Goals.{After-max-taken, After-rebase, After-acknowledge_blocks}
use Rattle.sctp_link.proofs.link.Link.acked.Goals as goal

pub read_sack-requires : goal.read_sack-requires
read_sack-requires g c =
    let there = sack-there _ (ap (λ s. refusal_of s.recorded (E.Acked c.args.k)) c.self.view_is ∙ c.requires) in (
      wire_sack (record_in c.self.inside) there.0,
      reads-sack c.self.inside.network.items c.args.k c.index.result.now there.0 c.self.invariant.1 refl refl c.index.ensures there.1,
    )

-- What was read is a SACK of the network, and so many slots are acknowledged cumulatively with it.
record Counted {C : Type 0} (a : Inside C) (k : ℕ) (sack : ChunkSelectiveAck) (top : ℕ) : Type 0 where
  none : refusal_of (record_in a) (E.Acked k) ≡ None
  report : Report
  there : slice_get (record_in a).network k ≡ Some (Sack report)
  says : sack_of sack ≡ wire_sack (record_in a) report
  count : ((sack.cumulative_tsn_ack + (2 ^ 32 - a.first_tsn)) % 2 ^ 32 + 1) % 2 ^ 32 ≡ report.cumulative
  greater : top ≡ max a.taken report.cumulative
  short : top < 2 ^ 31

counted : (g : Over) (c : After-max-taken g) → Counted c.self.inside c.args.k c.in_ok-sack.sack c.max-taken.result
counted g c =
    let l = c.self.invariant.1 in
    let none = ap (λ s. refusal_of s.recorded (E.Acked c.args.k)) c.self.view_is ∙ c.requires in
    let there = sack-there _ none in
    let reads = reads-sack c.self.inside.network.items c.args.k c.index.result.now there.0 l refl refl c.index.ensures there.1 in
    let says = c.in_ok-sack.ensures.chunk (wire_sack (record_in c.self.inside) there.0) reads in
    let made = count-made (record_in c.self.inside) c.args.k there.0 (reported l) there.1 in
    let few = (facts l).few in
    let before = (facts l).taken in
    let count = count-is c.self.inside.first_tsn there.0.cumulative c.in_ok-sack.sack.cumulative_tsn_ack l.setup.first (omega (arith, made, few))
    (ap (λ s. s.cumulative_tsn_ack) says) in
    let top : c.max-taken.result ≡ max c.self.inside.taken there.0.cumulative = c.max-taken.ensures ∙ ap (max c.self.inside.taken) count in
    record { none = none; report = there.0; there = there.1; says = says; count = count; greater = top; short = omega (arith, top, made, few, before) }

-- What holds of the SACK as it is told anew.
record Answered {C : Type 0} (sum : List ℕ → ℕ) (a : Inside C) (k : ℕ) (s : ChunkSelectiveAck) (top : ℕ) : Type 0 where
  accepted : sack_refusal (sack_of s) a.sender.flight ≡ None
  run : a.taken < top → top ≤ length a.slots.items
  blocks : (p : ℕ) → list_any (in_block top p) s.gap_ack_blocks.items ≡ true → p < length a.slots.items
  first : IsMarking (record_in a) (acknowledged_at (record_in a)) a.slots.items
  taken : (xs : List Slot) → IsMarking (record_in a) (and_blocks (and_run (acknowledged_at (record_in a)) a.taken top) top s.gap_ack_blocks.items) xs
      → Taken sum (state_in a) k (after_releases (released_by (sack_of s) a.sender.flight) (sides_in a).streams) xs
      (after_sack (sack_of s) a.sender.flight) top

answered : (g : Over) (c : After-rebase g) → Counted c.self.inside c.args.k c.in_ok-sack.sack c.max-taken.result
    → Answered (g.C.Checksum.sum c.self.inside.checksum) c.self.inside c.args.k c.rebase.new.sack c.max-taken.result
answered g c t =
    let l = c.self.invariant.1 in
    let s = sack_of c.rebase.new.sack in
    let top = c.max-taken.result in
    let cum : s.cumulative_tsn_ack ≡ cumulative_tsn (record_in c.self.inside) top = omega (arith, c.rebase.ensures.cumulative, l.setup.first, t.short) in
    let covers : (n : ℕ) → 0 < n → is_in_blocks s.gap_ack_blocks n
    ≡ is_in_blocks (wire_sack (record_in c.self.inside) t.report).gap_ack_blocks (n + (top - t.report.cumulative)) =
    λ n pos. c.rebase.ensures.covers n pos ∙ ap (λ bs.
    is_in_blocks bs (n + (top - (((c.in_ok-sack.sack.cumulative_tsn_ack + (2 ^ 32 - c.self.inside.first_tsn)) % 2 ^ 32 + 1) % 2 ^ 32))))
    (ap (λ s. s.gap_ack_blocks) t.says) ∙ ap (λ m. is_in_blocks (wire_sack (record_in c.self.inside) t.report).gap_ack_blocks (n + (top - m))) t.count in
    let begin = c.rebase.ensures.begin in
    let first = marking-first c.self.inside.slots.items l refl in
    record {
      accepted = not-refused c.args.k t.report l t.none t.there s top t.greater cum covers begin;
      run = λ some. omega (arith, within-run c.args.k t.report l t.none t.there s top t.greater cum covers begin some, first.count);
      blocks = λ p any. omega (arith, within-blocks c.args.k t.report l t.none t.there s top t.greater cum covers begin p any, first.count);
      first = first;
      taken = λ xs marks. taken-all c.args.k t.report l t.none t.there s top t.greater cum covers begin (after_releases
          (released_by s c.self.inside.sender.flight) (sides_in c.self.inside).streams) (after_sack s c.self.inside.sender.flight) refl refl refl marks;
    }

taken : (g : Over) (c : After-acknowledge_blocks g)
    → Answered (g.C.Checksum.sum c.self.inside.checksum) c.self.inside c.args.k c.rebase.new.sack c.max-taken.result
    → Taken (g.C.Checksum.sum c.self.inside.checksum) (state_in c.self.inside) c.args.k
    (after_releases (released_by (sack_of c.rebase.new.sack) c.self.inside.sender.flight) (sides_in c.self.inside).streams)
    (with_items (with_items c.self.inside.slots c.acknowledge_run.new.slots) c.acknowledge_blocks.new.slots).items
    (after_sack (sack_of c.rebase.new.sack) c.self.inside.sender.flight) c.max-taken.result
taken g c t =
    let next = c.acknowledge_run.ensures (record_in c.self.inside) (acknowledged_at (record_in c.self.inside)) (rw c.deref_mut.ensures.value t.first) in
    let slots1 = with_items_is c.self.inside.slots c.acknowledge_run.new.slots (omega (arith, c.acknowledge_run.auto.slots, c.deref_mut.ensures.len)) in
    let slots2 = with_items_is (with_items c.self.inside.slots c.acknowledge_run.new.slots) c.acknowledge_blocks.new.slots
    (omega (arith, c.acknowledge_blocks.auto.slots, c.deref_mut-2.ensures.len)) in
    let last = c.acknowledge_blocks.ensures (record_in c.self.inside)
    (and_run (acknowledged_at (record_in c.self.inside)) c.self.inside.taken c.max-taken.result) (rw (c.deref_mut-2.ensures.value ∙ slots1) next) in
    t.taken (with_items (with_items c.self.inside.slots c.acknowledge_run.new.slots) c.acknowledge_blocks.new.slots).items
    (rw (slots2, ← c.deref.ensures.value) last)

pub overflow_cast-upto : goal.overflow_cast-upto
overflow_cast-upto g c = omega (arith, (counted g (goal.at.overflow_cast-upto g c).After-max-taken).short)

pub memory-requires : goal.memory-requires
memory-requires g c = only-memory c.in-Err.refusal _ (let p = goal.at.memory-requires g c in
    answered g p.After-rebase (counted g p.After-max-taken)).accepted c.in-Err.ensures.refused

pub acknowledge_run-requires : goal.acknowledge_run-requires
acknowledge_run-requires g c = λ some.
    omega (
      arith,
      (let p = goal.at.acknowledge_run-requires g c in answered g p.After-rebase (counted g p.After-max-taken)).run some,
      ap length c.deref_mut.ensures.value,
    )

pub acknowledge_blocks-requires-clause-short : goal.acknowledge_blocks-requires-clause-short
acknowledge_blocks-requires-clause-short g c = omega (arith, (counted g (goal.at.acknowledge_blocks-requires-clause-short g c).After-max-taken).short)

pub acknowledge_blocks-requires-clause-within : goal.acknowledge_blocks-requires-clause-within
acknowledge_blocks-requires-clause-within g c = λ p any.
    let last = (let p = goal.at.acknowledge_blocks-requires-clause-within g c in answered g p.After-rebase (counted g p.After-max-taken)).blocks p
    (ap (list_any (in_block c.max-taken.result p)) (sym c.deref.ensures.value) ∙ any) in
    let slots1 = with_items_is c.self.inside.slots c.acknowledge_run.new.slots (omega (arith, c.acknowledge_run.auto.slots, c.deref_mut.ensures.len)) in
    omega (arith, last, ap length c.deref_mut.ensures.value, c.acknowledge_run.auto.slots, ap length (c.deref_mut-2.ensures.value ∙ slots1))

pub invariant_of-self-2 : goal.invariant_of-self-2
invariant_of-self-2 g c = (
  acked-aligned c.self.invariant.0 (sack_of c.rebase.new.sack) c.acked.new.sender c.in-Ok.ensures.ok,
  subst (λ (y : Sides). IsLinked (g.C.Checksum.sum c.self.inside.checksum) (state_from y (record c.self.inside
      { slots = with_items (with_items c.self.inside.slots c.acknowledge_run.new.slots) c.acknowledge_blocks.new.slots; taken = c.max-taken.result })))
      (sym (acked-sides c.self.invariant.0 (sack_of c.rebase.new.sack) c.acked.new.sender c.in-Ok.ensures.ok))
      (let p = goal.at.invariant_of-self-2 g c in taken g p.After-acknowledge_blocks (answered g p.After-rebase (counted g p.After-max-taken))).linked,
)

pub returns-clause-ok : goal.returns-clause-ok
returns-clause-ok g c =
    let p = goal.at.returns-clause-ok g c in
    let t = taken g p.After-acknowledge_blocks (answered g p.After-rebase (counted g p.After-max-taken)) in
    rw (← c.self.view_is) (record {
      right = ap R.Acked (c.saturating_sub-bytes.ensures
          ∙ ap (λ n. n - c.inflight_bytes.result) (c.inflight_bytes-before.ensures ∙ ap (λ (q : Outbound). bytes_of q.inflight.chunks) c.outbound.ensures)
          ∙ ap (λ n. bytes_of c.self.inside.sender.flight.queue.inflight.chunks - n) (c.inflight_bytes.ensures
          ∙ ap (λ (q : Outbound). bytes_of q.inflight.chunks) c.outbound-2.ensures
          ∙ ap (λ (u : Transmission). bytes_of u.flight.queue.inflight.chunks) c.in-Ok.ensures.ok) ∙ t.bytes);
      moves = ap (λ (y : Sides). record_from y (record c.self.inside
          { slots = with_items (with_items c.self.inside.slots c.acknowledge_run.new.slots) c.acknowledge_blocks.new.slots; taken = c.max-taken.result }))
          (acked-sides c.self.invariant.0 (sack_of c.rebase.new.sack) c.acked.new.sender c.in-Ok.ensures.ok) ∙ t.moves;
    })
