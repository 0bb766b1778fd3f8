use Rattle.std.proofs.Common.{◌≡◌, ◌<◌, true, false, length, get_or, sym, arith}
use Rattle.sctp_reset.proofs.Splits.{took, passed, ended}
use Rattle.sctp_reset.proofs.own_requests.split.Goals as goal
use Rattle.sctp_reset.proofs.own_requests.split.Goals.{then-len-most+then-is_drained+in_ok-push, else-len-most+in_ok-push-2}
use Rattle.sctp_reset.proofs.own_requests.split.Goals.{else-len-most-via-then-len-most+else-is_drained, else-len-most-via-else-len-most}

pub loop-stream-preserved : goal.loop-stream-preserved
loop-stream-preserved g c = (
  c.loop-stream.invariant.0,
  λ drained tells.
      let x = get_or c.args.waiting.now c.loop-stream.stream-index 0 in
      let split = c.loop-stream.invariant.1 drained tells in
      let fits : x < 65536 = omega (arith, c.type_inv.waiting c.loop-stream.stream-index) in
      elim c.if-len-most.branch [
        | then-len-most+then-is_drained+in_ok-push w ↦
            let is : drained x ≡ true = sym (tells x true fits w.if-is_drained.ensures) in
            rw (w.streams-is, w.left-is, w.in_ok-push.ensures.items) (took drained _ _ _ _ _ c.loop-stream-test.true (omega arith) is split)
        | else-len-most+in_ok-push-2 w ↦
            let not : length c.loop-stream.streams.items < c.args.most → drained x ≡ false = elim w.else-len-most.branch [
              | else-len-most-via-then-len-most+else-is_drained w' ↦ λ h. sym (tells x false fits w'.if-is_drained.ensures)
              | else-len-most-via-else-len-most w' ↦ λ h. absurd (omega arith)
            ] in
            rw (w.streams-is, w.left-is, w.in_ok-push-2.ensures.items) (passed drained _ _ _ _ _ c.loop-stream-test.true not split)
      ],
)

pub returns-clause-ok : goal.returns-clause-ok
returns-clause-ok g c = λ drained tells. ended drained c.args.most c.args.waiting.now _ _ _ (omega arith) (c.loop-stream.invariant.1 drained tells)
