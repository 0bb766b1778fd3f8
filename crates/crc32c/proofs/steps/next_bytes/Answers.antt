use Rattle.std.proofs.Common.{◌∙◌, ◌/◌, length, ap}
use Rattle.std.specs.Prelude.{fold}
use Rattle.crc32c.specs.Castagnoli.{byte_step}
use Rattle.crc32c.proofs.Chunks.{fold-first_chunks}
use Rattle.crc32c.proofs.steps.next_bytes.Goals as goal

pub returns : goal.returns
returns c =
    let each_four = fold byte_step in
    let all_fours = c.as_chunks.result.0.now in
    let bytes = c.args.bytes.now in
    let rest = c.as_chunks.result.1.now in
    c.next_each.ensures
    ∙ (λ i. fold byte_step (c.next_fours.ensures i) rest)
    ∙ ap (λ r. fold byte_step r rest)
    ((λ i. fold each_four (c.next_sixteens.ensures i) c.as_chunks-2.result.1.now)
    ∙ (λ i. fold each_four (fold (fold each_four) c.args.remainder (c.as_chunks-2.ensures.front i))
    (c.as_chunks-2.ensures.back i))
    ∙ fold-first_chunks each_four 4 (length all_fours / 4) all_fours c.args.remainder)
    ∙ (λ i. fold byte_step (fold each_four c.args.remainder (c.as_chunks.ensures.front i))
    (c.as_chunks.ensures.back i))
    ∙ fold-first_chunks byte_step 4 (length bytes / 4) bytes c.args.remainder
