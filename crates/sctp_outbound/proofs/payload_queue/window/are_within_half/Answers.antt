use Rattle.std.proofs.Common.{◌≡◌, ◌-◌, ◌∙◌, get_or, sym, subst, arith}
use Rattle.sctp_data.specs.declared.chunk.chunk_payload_data.ChunkPayloadData.{ChunkPayloadData}
use Rattle.sctp_outbound.proofs.lemmas.payload_queue.Ends.{all_between, read_within}
use Rattle.sctp_outbound.proofs.payload_queue.window.are_within_half.Goals as goal

pub returns-clause-yes : goal.returns-clause-yes
returns-clause-yes c last =
    let xs = c.args.held.now.chunks in
    let first = c.is_within_half.ensures.yes c.if-not-is_within_half.false in
    let read = subst (λ n. (d : ChunkPayloadData) → (get_or xs (n - 1) d).tsn ≡ c.tsn_at-2.result) c.len-len.ensures c.tsn_at-2.ensures.value in
    all_between xs c.requires c.args.base c.ranges.base.fits c.tsn_at.result c.tsn_at-2.result (omega arith) c.tsn_at.ensures.value read first
    (c.is_within_half-2.ensures.yes last)

pub returns-clause-no : goal.returns-clause-no
returns-clause-no c all = c.is_within_half-2.ensures.no
    (read_within c.args.held.now.chunks c.args.base (c.len-len.result - 1) c.tsn_at-2.result (omega arith) c.tsn_at-2.ensures.value all)

pub returns-then-not-is_within_half-clause-no : goal.returns-then-not-is_within_half-clause-no
returns-then-not-is_within_half-clause-no c all = sym c.if-not-is_within_half.true
    ∙ c.is_within_half.ensures.no (read_within c.args.held.now.chunks c.args.base 0 c.tsn_at.result (omega arith) c.tsn_at.ensures.value all)
