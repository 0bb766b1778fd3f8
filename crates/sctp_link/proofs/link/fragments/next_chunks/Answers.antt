use Rattle.sctp_link.proofs.Names.{◌≡◌, ◌≤◌, ◌+◌, ◌-◌, ◌/◌, map, ◌∷◌, ◌++◌, [], Some, None, length, rules, sym, arith, IfSome, subst, ChunkPayloadData}
use Rattle.sctp_link.proofs.Names.{next_pending, after_sends, chunk_length, further, chunks_taken, following_tsn, under_tsn}
use Rattle.sctp_chunks.specs.declared.chunk.chunk_kind.ChunkKind.TheVariants as C
use Rattle.sctp_model.proofs.refinement.sending.Ahead.{begins, goes-on, stops-none, stops-full}
use Rattle.sctp_link.proofs.link.fragments.next_chunks.Goals as goal

pub chunk_length-used-requires : goal.chunk_length-used-requires
chunk_length-used-requires c =
    let le : length c.args.first.now.user_data ≤ 65519 =
    subst (λ o. IfSome o (λ (d : ChunkPayloadData). length d.user_data ≤ 65519)) c.requires.shown (c.requires.short 0) in
    omega (arith, le, c.len.ensures.value)

pub loop-sent-init : goal.loop-sent-init
loop-sent-init c =
    let one : c.push_under.new.chunks.items ≡ C.PayloadData (under_tsn c.args.tsn c.args.first.now) ∷ [] = search rules in
    let le : length c.args.first.now.user_data ≤ 65519 =
    subst (λ o. IfSome o (λ (d : ChunkPayloadData). length d.user_data ≤ 65519)) c.requires.shown (c.requires.short 0) in
    record {
      chunks = begins C.PayloadData c.args.limit c.args.tsn
          (12 + c.chunk_length-used.result) c.args.outbound.now.pending c.args.first.now c.push_under.new.chunks.items c.requires.shown one (search rules);
      used = search rules;
    }

pub returns-in_default-clause-chunks : goal.returns-in_default-clause-chunks
returns-in_default-clause-chunks c =
    let none : next_pending (after_sends (c.loop-sent.sent + 1) c.args.outbound.now.pending) ≡ None = search rules in
    stops-none C.PayloadData _ c.args.limit c.loop-sent.used _ _ _ _ none c.loop-sent.invariant.chunks

pub returns-then-used-limit-clause-chunks : goal.returns-then-used-limit-clause-chunks
returns-then-used-limit-clause-chunks c =
    let some : next_pending (after_sends (c.loop-sent.sent + 1) c.args.outbound.now.pending) ≡ Some c.in-Some.chunk.now = search rules in
    stops-full C.PayloadData _ c.args.limit c.loop-sent.used _ _ c.in-Some.chunk.now _ _ some (omega arith) c.loop-sent.invariant.chunks

pub loop-sent-preserved : goal.loop-sent-preserved
loop-sent-preserved c =
    let some : next_pending (after_sends (c.loop-sent.sent + 1) c.args.outbound.now.pending) ≡ Some c.in-Some.chunk.now = search rules in
    let more : c.push_under-in-loop-sent.new.chunks.items
    ≡ c.loop-sent.chunks.items ++ C.PayloadData (under_tsn (following_tsn c.loop-sent.tsn) c.in-Some.chunk.now) ∷ [] = search rules in
    let below = c.loop-sent-test.true in
    let fits = c.if-used-limit.false in
    let len : c.chunk_length-used-in-loop-sent.result ≡ chunk_length (length c.in-Some.chunk.now.user_data) = search rules in
    record {
      chunks =
          subst (λ k. c.push_under-in-loop-sent.new.chunks.items ++ map C.PayloadData (further (c.args.limit / 16 - (c.loop-sent.sent + 1)) c.args.limit
          (c.loop-sent.used + k) (following_tsn (following_tsn c.loop-sent.tsn)) (after_sends (c.loop-sent.sent + 1 + 1) c.args.outbound.now.pending))
          ≡ map C.PayloadData (chunks_taken c.args.limit c.args.tsn c.args.outbound.now.pending)) (sym len)
          (goes-on C.PayloadData (c.args.limit / 16) c.args.limit c.loop-sent.used (following_tsn c.loop-sent.tsn) c.loop-sent.sent c.args.outbound.now.pending
          c.in-Some.chunk.now c.loop-sent.chunks.items c.push_under-in-loop-sent.new.chunks.items (map C.PayloadData
          (chunks_taken c.args.limit c.args.tsn c.args.outbound.now.pending)) below some (omega (arith, fits, len)) more c.loop-sent.invariant.chunks);
      used = omega (arith, fits, c.ranges.limit.fits);
    }
