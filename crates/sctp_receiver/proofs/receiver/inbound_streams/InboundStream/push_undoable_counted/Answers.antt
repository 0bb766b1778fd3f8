use Rattle.sctp_receiver.proofs.Names.{◌≡◌, ◌-◌, Bool, true, false, refl, sym, ap, ◌∙◌, subst, IsOrderly, IsWithinPush, ◌==◌, ChunkPayloadData, ReassemblyState}
use Rattle.sctp_receiver.proofs.Names.{after_ordered_push, Pushes, PushesAs}
use Rattle.sctp_receiver.proofs.PushCosts.{push-within}
use Rattle.sctp_reassembly.specs.reassembly_queue.ReassemblyQueue.{PushesUnordered, is_complete_with}
use Rattle.sctp_receiver.proofs.receiver.inbound_streams.InboundStream.push_undoable_counted.Goals as goal

either : (c : ChunkPayloadData) (complete : Bool) (old new : ReassemblyState) → (c.unordered ≡ false → (new ≡ after_ordered_push c old)
    × (complete ≡ is_complete_with c old.held)) → (c.unordered ≡ true → PushesUnordered c old new complete) → Pushes c complete old new
either c complete old new ordered unordered = by c.unordered refl
  where
    by : (b : Bool) → c.unordered ≡ b → PushesAs b c complete old new
    by false e = ordered e
    by true e = unordered e

pub returns-clause-ok : goal.returns-clause-ok
returns-clause-ok c =
    let same : c.in-Ok.fragment ≡ c.args.chunk.now = c.in-Ok.ensures.ok in
    let stream : (c.in-Ok.fragment.stream_identifier == c.args.self.now.queue.si) ≡ true =
    ap (λ (x : ChunkPayloadData). x.stream_identifier == c.args.self.now.queue.si) same ∙ c.requires in
    subst (λ (x : ChunkPayloadData). Pushes x c.in_ok-push_undoable_counted.field-0.0 c.args.self.now.queue c.push_undoable_counted.new.self) same
    (either c.in-Ok.fragment c.in_ok-push_undoable_counted.field-0.0 c.args.self.now.queue c.push_undoable_counted.new.self
    (λ e. c.in_ok-push_undoable_counted.ensures.ordered stream e) (λ e. c.in_ok-push_undoable_counted.ensures.unordered stream e))

pub returns-clause-cost : goal.returns-clause-cost
returns-clause-cost c =
    let x = c.in-Ok.fragment in
    let q = c.args.self.now.queue in
    let e = c.push_undoable_counted.ensures in
    let same : x ≡ c.args.chunk.now = c.in-Ok.ensures.ok in
    let stream : (x.stream_identifier == q.si) ≡ true = ap (λ (y : ChunkPayloadData). y.stream_identifier == q.si) same ∙ c.requires in
    let turns = c.push_undoable_counted.new.turns - c.args.turns.now in
    subst (λ (y : ChunkPayloadData). IsWithinPush y q turns) same
    (push-within x q c.push_undoable_counted.new.self c.args.turns.now c.push_undoable_counted.new.turns
    (λ off old then. subst IsOrderly (sym (ap (λ (r : ReassemblyState). r.held.ordered) (c.in_ok-push_undoable_counted.ensures.ordered stream off).0)) then)
    e.ordered_cost e.ordered_walk e.unordered_cost e.unordered_few e.unordered_walk)

pub returns-in_err-push_undoable_counted-clause-cost : goal.returns-in_err-push_undoable_counted-clause-cost
returns-in_err-push_undoable_counted-clause-cost c =
    let x = c.in-Ok.fragment in
    let q = c.args.self.now.queue in
    let e = c.push_undoable_counted.ensures in
    let same : x ≡ c.args.chunk.now = c.in-Ok.ensures.ok in
    let turns = c.push_undoable_counted.new.turns - c.args.turns.now in
    subst (λ (y : ChunkPayloadData). IsWithinPush y q turns) same
    (push-within x q c.push_undoable_counted.new.self c.args.turns.now c.push_undoable_counted.new.turns
    (λ off old then. subst IsOrderly (sym (ap (λ (r : ReassemblyState). r.held.ordered) c.in_err-push_undoable_counted.ensures.err)) old)
    e.ordered_cost e.ordered_walk e.unordered_cost e.unordered_few e.unordered_walk)
