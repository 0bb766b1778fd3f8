use Rattle.std.proofs.Common.{remove, get_or, subst, ap, ◌∙◌, inl, inr, arith}
use Rattle.sctp_data.specs.declared.chunk.chunk_payload_data.ChunkPayloadData.{ChunkPayloadData}
use Rattle.sctp_reassembly.specs.reassembly_queue.Loose.{IsFlag}
use Rattle.sctp_serial.proofs.lemmas.Serials.{serial_remove}
use Rattle.sctp_serial.proofs.lemmas.ListEdits.{an_element}
use Rattle.sctp_reassembly.proofs.lemmas.reassembly_queue.UnassembledRuns.{earliest_of_around, none_of_around}
use Rattle.sctp_reassembly.proofs.reassembly_queue.pool.search.Goals as goal

pub returns-then-searched-clause-found : goal.returns-then-searched-clause-found
returns-then-searched-clause-found c = earliest_of_around _ c.args.place (an_element _ _ c.requires.in_range) c.requires.in_range (subst
    (λ b. IsFlag b (remove c.args.unassembled.now.chunks c.args.place)) c.if-searched.true c.requires.flag) c.run_around.result c.run_around.ensures.found

pub returns-then-searched-clause-none : goal.returns-then-searched-clause-none
returns-then-searched-clause-none c = none_of_around _ c.args.place (an_element _ _ c.requires.in_range) c.requires.in_range (subst
    (λ b. IsFlag b (remove c.args.unassembled.now.chunks c.args.place)) c.if-searched.true c.requires.flag) c.run_around.result c.run_around.ensures.none

pub returns-then-searched-clause-cost : goal.returns-then-searched-clause-cost
returns-then-searched-clause-cost c s t serial none w = c.run_around.ensures.cost s t w

pub returns-else-searched-clause-cost : goal.returns-else-searched-clause-cost
returns-else-searched-clause-cost c s t serial none w =
    let xs = c.args.unassembled.now.chunks in
    let off = subst (λ b. IsFlag b (remove xs c.args.place)) c.if-searched.false c.requires.flag in
    absurd (off (serial_remove xs c.args.place c.requires.in_range serial) none)

pub returns-then-searched-clause-few : goal.returns-then-searched-clause-few
returns-then-searched-clause-few c x s t serial none w here end =
    let xs = c.args.unassembled.now.chunks in
    elim end [
      | inl (same, open_end) ↦ omega (
        arith,
        same,
        c.run_around.ensures.no_ending s t w (λ k d ge le. ap (λ i. (get_or xs i d).ending_fragment) {x = k} {y = c.args.place} (omega arith)
            ∙ ap (λ (y : ChunkPayloadData). y.ending_fragment) (here d) ∙ open_end),
      )
      | inr (same, plain) ↦ omega (
        arith,
        same,
        c.run_around.ensures.no_beginning s t w (λ k d ge le. ap (λ i. (get_or xs i d).beginning_fragment) {x = k} {y = c.args.place} (omega arith)
            ∙ ap (λ (y : ChunkPayloadData). y.beginning_fragment) (here d) ∙ plain),
      )
    ]

pub returns-else-searched-clause-few : goal.returns-else-searched-clause-few
returns-else-searched-clause-few c x s t serial none w here end =
    let xs = c.args.unassembled.now.chunks in
    let off = subst (λ b. IsFlag b (remove xs c.args.place)) c.if-searched.false c.requires.flag in
    absurd (off (serial_remove xs c.args.place c.requires.in_range serial) none)
