use Rattle.std.proofs.Common.{◌≡◌, ℕ, ◌+◌, List, [], ◌∷◌, ◌++◌, take, sym, ap}
use Rattle.std.specs.BTreeMap.{values}
use Rattle.std.proofs.lemmas.List.{take_more}
use Rattle.sctp_follow.specs.Spots.{at, is_of, is_of_any}
use Rattle.sctp_follow.specs.declared.interleave.Whole.{Whole}
use Rattle.sctp_follow.proofs.Forgetting.{forgets_more}
use Rattle.sctp_follow.proofs.spots.Spots.forget_read.Goals as goal

pub loop-message-preserved : goal.loop-message-preserved
loop-message-preserved c t =
    let ms = c.args.messages.now in
    let i = c.loop-message.message-index in
    let m = c.message-item.result in
    let f = forgets_more (λ (x : Whole). is_of (values x.fragments) t) (take i ms) m (at c.args.self.now t) (at c.loop-message.self t) (at c.forget_all.new.self t)
    (c.loop-message.invariant t) (c.forget_all.ensures t) in
    let more : take (i + 1) ms ≡ take i ms ++ m ∷ [] = rw (take_more ms i m c.loop-message-test.true) (ap (λ (x : Whole). take i ms ++ x ∷ []) (sym c.message-item.is)) in
    rw more f
