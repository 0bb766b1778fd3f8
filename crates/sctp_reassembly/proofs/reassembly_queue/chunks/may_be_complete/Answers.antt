use Rattle.std.proofs.Common.{◌≡◌, ◌+◌, ◌-◌, ◌%◌, ◌^◌, ◌<◌, length, get_or, sym, ap, subst, ◌∙◌, arith}
use Rattle.std.proofs.lemmas.Bool.Decides.{nat_tests}
use Rattle.std.proofs.lemmas.List.{get_or_default}
use Rattle.sctp_data.specs.declared.chunk.chunk_payload_data.ChunkPayloadData.{ChunkPayloadData}
use Rattle.sctp_reassembly.proofs.lemmas.reassembly_queue.SetEnds.{not_ended, not_apart}
use Rattle.sctp_reassembly.proofs.lemmas.reassembly_queue.AscendingSets.{ascending_complete}
use Rattle.sctp_reassembly.proofs.reassembly_queue.chunks.may_be_complete.Goals as goal

pub returns-then-not-last-clause-no : goal.returns-then-not-last-clause-no
returns-then-not-last-clause-no c h =
    not_ended c.index-chunks-len.result c.args.chunks.now
    (ap (λ (x : ChunkPayloadData). x.ending_fragment) (sym (c.chunk-last.ensures ∙ c.index-chunks-len.is)) ∙ c.if-not-last.true)

pub returns-clause-no : goal.returns-clause-no
returns-clause-no c h =
    let xs = c.args.chunks.now in
    let first = c.chunk-first.result.now in
    let last = c.chunk-last.result.now in
    let some : 0 < length xs = omega (arith, c.if-len-eq0.false) in
    let begin : first ≡ get_or xs 0 last = c.chunk-first.ensures ∙ c.index-chunks-0.is ∙ get_or_default xs 0 _ last some in
    let end : last ≡ get_or xs (length xs - 1) last =
    c.chunk-last.ensures ∙ c.index-chunks-len.is ∙ get_or_default xs (length xs - 1) _ last (omega arith) in
    let small : (get_or xs 0 last).tsn < 2 ^ 32 = subst (λ (x : ChunkPayloadData). x.tsn < 2 ^ 32) begin c.tsn_after.ensures.fits in
    not_apart last xs small (λ e.
    let same : last.tsn ≡ c.tsn_after.result = ap (λ (x : ChunkPayloadData). x.tsn) end ∙ e
    ∙ ap (λ (x : ChunkPayloadData). (x.tsn + (length xs - 1) % 2 ^ 32) % 2 ^ 32) (sym begin) ∙ sym c.tsn_after.ensures.value in
    grind (arith, nat_tests))

pub returns-clause-yes : goal.returns-clause-yes
returns-clause-yes c h up =
    let xs = c.args.chunks.now in
    let first = c.chunk-first.result.now in
    let last = c.chunk-last.result.now in
    let some : 0 < length xs = omega (arith, c.if-len-eq0.false) in
    let begin : first ≡ get_or xs 0 last = c.chunk-first.ensures ∙ c.index-chunks-0.is ∙ get_or_default xs 0 _ last some in
    let end : last ≡ get_or xs (length xs - 1) last =
    c.chunk-last.ensures ∙ c.index-chunks-len.is ∙ get_or_default xs (length xs - 1) _ last (omega arith) in
    let same : last.tsn ≡ c.tsn_after.result = grind (arith, nat_tests) in
    ascending_complete xs last up some
    (ap (λ (x : ChunkPayloadData). x.beginning_fragment) (sym begin) ∙ c.if-not-first.false)
    (ap (λ (x : ChunkPayloadData). x.ending_fragment) (sym end) ∙ c.if-not-last.false)
    (ap (λ (x : ChunkPayloadData). x.tsn) (sym end) ∙ same ∙ c.tsn_after.ensures.value
    ∙ ap (λ (x : ChunkPayloadData). (x.tsn + (length xs - 1) % 2 ^ 32) % 2 ^ 32) begin)
