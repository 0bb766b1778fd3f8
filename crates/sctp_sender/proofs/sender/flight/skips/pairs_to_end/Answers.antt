use Rattle.sctp_sender.proofs.Names.{◌≡◌, ℕ, ◌+◌, ◌-◌, ◌<◌, ◌≤◌, true, List, length, get_or, take, inl, inr, subst, sym, ◌∙◌, arith, filter, cases_lt}
use Rattle.sctp_sender.proofs.Names.{false≢true, ChunkPayloadData, ends, IsLastEnd, IsMore, is_named}
use Rattle.std.proofs.Common.{◌⊎◌}
use Rattle.sctp_sender.proofs.Ends.{is-more}
use Rattle.sctp_sender.proofs.sender.flight.skips.pairs_to_end.Goals as goal

module _ (cs : List ChunkPayloadData) (room left most count : ℕ) (within : left ≤ most) (in' : most ≤ length cs) (less : count ≤ left)
    (furthest : (count ≡ left) ⊎ IsMore room (filter is_named (take (count + 1) cs)))
    (beyond : (k : ℕ) (d : ChunkPayloadData) → left < k → k ≤ most → ends (get_or cs (k - 1) d) ≡ true → IsMore room (filter is_named (take k cs))) where
  -- what lies behind the count is too much
  behind : (k : ℕ) (d : ChunkPayloadData) → count < k → k ≤ most → ends (get_or cs (k - 1) d) ≡ true → IsMore room (filter is_named (take k cs))
  behind k d lt le e = elim (cases_lt left k) [
    | inl far ↦ beyond k d far le e
    | inr near ↦ by furthest near
  ]
    where
      by : (count ≡ left) ⊎ IsMore room (filter is_named (take (count + 1) cs)) → k ≤ left → IsMore room (filter is_named (take k cs))
      by (inl same) near = absurd (omega (arith, same, near, lt))
      by (inr more) near = is-more cs room (count + 1) k (omega (arith, lt)) (omega (arith, le, in')) d more

  -- and what lies behind the last end before it
  behind-end : (end : ℕ) → IsLastEnd end count cs → (k : ℕ) (d : ChunkPayloadData) → end < k → k ≤ most → ends (get_or cs (k - 1) d) ≡ true
      → IsMore room (filter is_named (take k cs))
  behind-end end is k d lt le e = elim (cases_lt count k) [
    | inl far ↦ behind k d far le e
    | inr near ↦ absurd (false≢true (sym (is.last k d lt near) ∙ e))
  ]

pub loop-count-preserved : goal.loop-count-preserved
loop-count-preserved c = record {
  within = omega (arith, c.up_to_end-end.ensures.within, c.in_ok-count.ensures.count, c.loop-count.invariant.within);
  beyond = behind-end c.args.queue.now.inflight.chunks c.args.room c.loop-count.left c.args.most c.in_ok-count.count c.loop-count.invariant.within c.requires
      c.in_ok-count.ensures.count c.in_ok-count.ensures.furthest c.loop-count.invariant.beyond c.up_to_end-end.result c.up_to_end-end.ensures;
}

pub returns-then-end-count-clause-furthest : goal.returns-then-end-count-clause-furthest
returns-then-end-count-clause-furthest c =
    behind c.args.queue.now.inflight.chunks c.args.room c.loop-count.left c.args.most c.in_ok-count.count c.loop-count.invariant.within c.requires
    c.in_ok-count.ensures.count c.in_ok-count.ensures.furthest c.loop-count.invariant.beyond

pub returns-then-end-count-clause-ended : goal.returns-then-end-count-clause-ended
returns-then-end-count-clause-ended c = λ some d.
    subst (λ n. ends (get_or c.args.queue.now.inflight.chunks (n - 1) d) ≡ true) c.if-end-count.true
    (c.up_to_end-end.ensures.ended (omega (arith, some, c.if-end-count.true)) d)
