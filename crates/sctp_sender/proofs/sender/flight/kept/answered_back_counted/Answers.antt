use Rattle.sctp_sender.proofs.Names.{◌≡◌, ◌+◌, ◌<◌, ◌≤◌, ◌++◌, ◌∷◌, [], List, length, length-append, map, take, get_or, ap, sym, ◌∙◌, arith, get_or_default}
use Rattle.sctp_sender.proofs.Names.{map-append, take_more, take_all, TakenBack, PlacedData, answered_of_placed}
use Rattle.sctp_sender.proofs.Walks.{read-of}
use Rattle.sctp_sender.proofs.sender.flight.kept.answered_back_counted.Goals as goal

pub loop-back-preserved : goal.loop-back-preserved
loop-back-preserved c =
    let cs = c.args.queue.now.inflight.chunks in
    let bs = c.args.backs.now in
    let i = c.loop-back.back-index in
    let b : PlacedData = c.back-item.result in
    let x = c.in-Some.chunk.now in
    let inv = c.loop-back.invariant in
    let at = read-of cs b.place x (sym c.in-Some.ensures) in
    let lt : i < length bs = c.loop-back-test.true in
    let n = length-append c.loop-back.answered.items (c.taken_back.result ∷ []) in
    let put = ap length c.put.ensures.items in
    let m = length-append c.loop-back.places.items (b.place ∷ []) in
    let put-place = ap length c.put-in-loop-back.ensures.items in
    let next : take (i + 1) bs ≡ take i bs ++ b ∷ [] = take_more bs i b lt ∙ ap (λ y. take i bs ++ y ∷ []) (sym c.back-item.is) in
    record {
      answered = λ d.
          let f : PlacedData → TakenBack = λ y. answered_of_placed y (get_or cs y.place d) in
          let same : c.taken_back.result ≡ f b = c.taken_back.ensures ∙ ap (answered_of_placed b) (at.1 ∙ get_or_default cs b.place x d at.0) in
          c.put.ensures.items ∙ ap (λ (ts : List TakenBack). ts ++ c.taken_back.result ∷ []) (inv.answered d)
          ∙ ap (λ (r : TakenBack). map f (take i bs) ++ r ∷ []) same ∙ sym (map-append f (take i bs) (b ∷ [])) ∙ ap (map f) (sym next);
      count = omega (arith, put, n, inv.count);
      top = omega (arith, lt);
      turns = omega (arith, c.tick.ensures, inv.turns);
      room = omega (arith, c.put.ensures.capacity, inv.room);
      places =
          c.put-in-loop-back.ensures.items ∙ ap (λ ks. ks ++ b.place ∷ []) inv.places ∙ sym (map-append (λ (y : PlacedData). y.place) (take i bs) (b ∷ []))
          ∙ ap (map (λ (y : PlacedData). y.place)) (sym next);
      places_count = omega (arith, put-place, m, inv.places_count);
      places_room = omega (arith, c.put-in-loop-back.ensures.capacity, inv.places_room);
    }

pub returns-clause-ok : goal.returns-clause-ok
returns-clause-ok c = λ d.
    let cs = c.args.queue.now.inflight.chunks in
    let bs = c.args.backs.now in
    let f : PlacedData → TakenBack = λ y. answered_of_placed y (get_or cs y.place d) in
    let all : length bs ≤ c.loop-back.back-index = c.loop-back-test.false in
    c.loop-back.invariant.answered d ∙ ap (map f) (take_all c.loop-back.back-index bs all)

pub returns-clause-places : goal.returns-clause-places
returns-clause-places c =
    let bs = c.args.backs.now in
    let all : length bs ≤ c.loop-back.back-index = c.loop-back-test.false in
    c.loop-back.invariant.places ∙ ap (map (λ (y : PlacedData). y.place)) (take_all c.loop-back.back-index bs all)
