use Rattle.sctp_sender.proofs.Names.{◌≡◌, ◌++◌, ◌∷◌, [], true, false, List, length-append, take, inr, sym, subst, ◌∙◌, arith, append-nil, filter}
use Rattle.sctp_sender.proofs.Names.{ChunkPayloadData, Name, is_named, pair_of}
use Rattle.sctp_sender.proofs.NamedStreams.{added}
use Rattle.sctp_sender.proofs.Points.{more-named}
use Rattle.sctp_sender.proofs.sender.flight.skips.pairs_within.Goals as goal

pub loop-place-preserved-then-not-is_named : goal.loop-place-preserved-then-not-is_named
loop-place-preserved-then-not-is_named c =
    let cs = c.args.queue.now.inflight.chunks in
    let x = c.in-Some.chunk.now in
    let i = c.loop-place.place in
    let nay : is_named x ≡ false = sym c.is_named.ensures ∙ c.if-not-is_named.true in
    let e = more-named cs i x false (sym c.in-Some.ensures) nay ∙ append-nil (filter is_named (take i cs)) in
    record {
      names = subst (λ (xs : List ChunkPayloadData). Name c.loop-place.pairs xs) (sym e) c.loop-place.invariant.names;
      fits = c.loop-place.invariant.fits;
    }

pub loop-place-preserved : goal.loop-place-preserved
loop-place-preserved c =
    let cs = c.args.queue.now.inflight.chunks in
    let x = c.in-Some.chunk.now in
    let i = c.loop-place.place in
    let yea : is_named x ≡ true = sym c.is_named.ensures ∙ c.if-not-is_named.false in
    let e = more-named cs i x true (sym c.in-Some.ensures) yea in
    record {
      names = subst (λ (xs : List ChunkPayloadData). Name c.name_within.new.pairs xs) (sym e)
          (c.in_ok-fits.ensures.named c.if-not-fits.false (filter is_named (take i cs)) c.loop-place.invariant.names);
      fits = c.in_ok-fits.ensures.room;
    }

pub returns-then-not-fits-clause-furthest : goal.returns-then-not-fits-clause-furthest
returns-then-not-fits-clause-furthest c =
    let cs = c.args.queue.now.inflight.chunks in
    let x = c.in-Some.chunk.now in
    let i = c.loop-place.place in
    let yea : is_named x ≡ true = sym c.is_named.ensures ∙ c.if-not-is_named.false in
    let e = more-named cs i x true (sym c.in-Some.ensures) yea in
    let full = c.in_ok-fits.ensures.full c.if-not-fits.true in
    let ps = c.loop-place.pairs in
    let n = length-append ps (pair_of x ∷ []) in
    inr (
      ps ++ pair_of x ∷ [],
      subst (λ (xs : List ChunkPayloadData). Name (ps ++ pair_of x ∷ []) xs) (sym e)
          (added ps (filter is_named (take i cs)) x full.1 c.loop-place.invariant.names),
      omega (arith, n, full.2),
    )
