use Rattle.sctp_sender.proofs.Names.{◌≡◌, ◌-◌, get_or, inl, inr, ap, sym, ◌∙◌, arith, cases_lt, ends}
use Rattle.sctp_sender.proofs.NamedStreams.{any-default}
use Rattle.sctp_sender.proofs.Walks.{read-of}
use Rattle.sctp_sender.proofs.sender.flight.skips.up_to_end.Goals as goal

pub returns-then-chunk : goal.returns-then-chunk
returns-then-chunk c =
    let cs = c.args.queue.now.inflight.chunks in
    let x = c.in-Some.chunk.now in
    let read = read-of cs (c.loop-end.end - 1) x (sym c.in-Some.ensures) in
    record {
      within = c.loop-end.invariant.within;
      ended = λ some d. ap ends (any-default cs (c.loop-end.end - 1) d x read.0 ∙ sym read.1) ∙ c.if-chunk.true;
      last = c.loop-end.invariant.last;
    }

pub loop-end-preserved : goal.loop-end-preserved
loop-end-preserved c =
    let cs = c.args.queue.now.inflight.chunks in
    let x = c.in-Some.chunk.now in
    let read = read-of cs (c.loop-end.end - 1) x (sym c.in-Some.ensures) in
    record {
      within = omega (arith, c.loop-end.invariant.within);
      last = λ k d lt le. elim (cases_lt c.loop-end.end k) [
        | inl far ↦ c.loop-end.invariant.last k d far le
        | inr near ↦
            (let at : k - 1 ≡ c.loop-end.end - 1 = omega (arith, lt, near) in
            ap (λ i. ends (get_or cs i d)) at ∙ ap ends (any-default cs (c.loop-end.end - 1) d x read.0 ∙ sym read.1) ∙ c.if-chunk.false)
      ];
    }

pub returns : goal.returns
returns c = record {
  within = omega arith;
  ended = λ some d. absurd (omega (arith, some));
  last = λ k d lt le. c.loop-end.invariant.last k d (omega (arith, lt)) le;
}
