use Rattle.sctp_sender.proofs.Names.{◌≡◌, ◌<◌, ◌++◌, ◌∷◌, [], List, length, length-append, get_or, ap, sym, ◌∙◌, arith, get_or_append_left, change_at}
use Rattle.sctp_sender.proofs.Names.{length-changed, as_taken_back, Outbound, with_inflight, PlacedData, bytes_coming, put_back}
use Rattle.sctp_sender.proofs.Placed.{coming-last, last-is, put-last, set-change}
use Rattle.sctp_sender.proofs.Runs.{any_chunk}
use Rattle.sctp_sender.proofs.sender.flight.kept.restore_each.Goals as goal

pub loop-back-preserved : goal.loop-back-preserved
loop-back-preserved c =
    let q = c.loop-back.queue in
    let cs = q.inflight.chunks in
    let bs = c.pop.new.self.items in
    let b : PlacedData = c.in-Some.back in
    let inv = c.loop-back.invariant in
    let items : c.loop-back.backs.items ≡ bs ++ b ∷ [] = c.in-Some.ensures.items in
    let n = ap length items in
    let m = length-append bs (b ∷ []) in
    let last : get_or c.loop-back.backs.items (length bs) b ≡ b = ap (λ (xs : List PlacedData). get_or xs (length bs) b) items ∙ last-is bs b b in
    let at = ap (λ (x : PlacedData). x.place) last in
    let lt : b.place < length cs = let w = inv.within (length bs) b (omega (arith, n, m)) in omega (arith, w, at) in
    let back : c.take_back_at.new.self ≡ with_inflight q (change_at (as_taken_back b.user_data) b.place cs) =
    c.take_back_at.ensures.back any_chunk ∙ ap (with_inflight q) (set-change (as_taken_back b.user_data) cs b.place any_chunk lt) in
    let long = ap (λ (o : Outbound). length o.inflight.chunks) back ∙ length-changed (as_taken_back b.user_data) b.place cs in
    let w = ap bytes_coming items ∙ coming-last bs b in
    record {
      goes_on =
          ap (λ (o : Outbound). with_inflight o (put_back bs o.inflight.chunks)) back ∙ ap (with_inflight q) (sym (put-last bs b cs))
          ∙ ap (λ xs. with_inflight q (put_back xs cs)) (sym items) ∙ inv.goes_on;
      within = λ k d less.
          let same = ap (λ (x : PlacedData). x.place) (ap (λ (xs : List PlacedData). get_or xs k d) items ∙ get_or_append_left bs (b ∷ []) d k less) in
          let w = inv.within k d (omega (arith, n, m, less)) in
          omega (arith, w, same, long);
      turns = omega (arith, n, m, c.tick.ensures, inv.turns);
      fits = omega (arith, w, inv.fits, c.take_back_at.ensures.counted any_chunk);
    }
