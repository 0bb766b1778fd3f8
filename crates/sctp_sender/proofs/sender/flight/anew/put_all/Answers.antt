use Rattle.sctp_sender.proofs.Names.{◌≡◌, ◌++◌, ◌∷◌, [], List, length, length-append, get_or, ap, sym, ◌∙◌, arith, get_or_append_left, PlacedData, put_all}
use Rattle.sctp_sender.proofs.AnewKept.{put-last}
use Rattle.sctp_sender.proofs.sender.flight.anew.put_all.Goals as goal

pub loop-one-preserved : goal.loop-one-preserved
loop-one-preserved c =
    let bs = c.pop.new.self.items in
    let b : PlacedData = c.in-Some.one in
    let inv = c.loop-one.invariant in
    let all : c.loop-one.chunks.items ≡ bs ++ b ∷ [] = c.in-Some.ensures.items in
    let n = ap length all in
    let m = length-append bs (b ∷ []) in
    record {
      goes_on = ap (put_all bs) c.put_at.ensures.items ∙ sym (put-last bs b c.loop-one.kept.items)
          ∙ ap (λ xs. put_all xs c.loop-one.kept.items) (sym all) ∙ inv.goes_on;
      not_back = omega (arith, c.put_at.ensures.not_back, inv.not_back);
      turns = omega (arith, n, m, c.put_at.ensures.cost, inv.turns);
      room = λ k d less.
          let same = ap (λ (x : PlacedData). x.place) (ap (λ (xs : List PlacedData). get_or xs k d) all ∙ get_or_append_left bs (b ∷ []) d k less) in
          let h = inv.room k d (omega (arith, n, m, less)) in
          omega (arith, h, same, c.put_at.ensures.capacity);
    }
