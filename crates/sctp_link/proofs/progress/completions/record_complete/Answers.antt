use Rattle.std.proofs.Common.{◌≡◌, suc, ◌<◌, ◌+◌, ◌++◌, ◌∷◌, [], length, map, take, drop, false, arith, ap, sym, ◌∙◌, subst, add-one, drop-cons}
use Rattle.std.specs.Prelude.{slice_index_or}
use Rattle.std.proofs.lemmas.List.{take_more, take_all, length-take}
use Rattle.sctp_data.specs.declared.chunk.chunk_payload_data.ChunkPayloadData.{ChunkPayloadData}
use Rattle.sctp_receiver.specs.declared.receiver.arrival.Arrival.{Arrival}
use Rattle.sctp_receiver.specs.declared.receiver.arrival.Arrival.TheVariants.{New}
use Rattle.sctp_link.specs.Progress.{standing_of, numbers_of, after_one, after_each}
use Rattle.sctp_link.specs.Rooms.{HasRoom}
use Rattle.sctp_link.proofs.standings.Kept.{numbers-shown}
use Rattle.sctp_link.proofs.standings.Completions.{each-next, each-numbers}
use Rattle.sctp_link.proofs.standings.Rooms.{room-first}
use Rattle.sctp_link.proofs.progress.completions.record_complete.Goals as goal

pub record_one-requires-clause-numbers : goal.record_one-requires-clause-numbers
record_one-requires-clause-numbers c =
    let ps = c.args.streams.now.items in
    let i = c.loop-at.at in
    c.requires.numbers ∙ numbers-shown ps
    ∙ sym (numbers-shown c.loop-at.streams.items ∙ ap numbers_of c.loop-at.invariant.complete
    ∙ each-numbers (take i c.args.chunks.now) c.args.messages.now (take i c.args.arrivals.now) (map standing_of ps))

pub record_one-requires-clause-room : goal.record_one-requires-clause-room
record_one-requires-clause-room c =
    let i = c.loop-at.at in
    let cs = c.args.chunks.now in
    let d = c.index-chunks-at.result in
    let lt : i < length cs = c.loop-at-test.true in
    let next : drop i cs ≡ d ∷ drop (i + 1) cs =
    rw (add-one, drop-cons cs i d) (ap (λ (y : ChunkPayloadData). y ∷ drop (suc i) cs) (sym c.index-chunks-at.is)) in
    room-first d (drop (i + 1) cs) c.loop-at.streams.items (subst (λ xs. HasRoom xs c.loop-at.streams.items) next c.loop-at.invariant.room)

pub loop-at-preserved : goal.loop-at-preserved
loop-at-preserved c =
    let i = c.loop-at.at in
    let cs = c.args.chunks.now in
    let ms = c.args.messages.now in
    let bs = c.args.arrivals.now in
    let d = c.index-chunks-at.result in
    let lt : i < length cs = c.loop-at-test.true in
    let b : Arrival = slice_index_or bs i (New false) in
    let ps = map standing_of c.args.streams.now.items in
    let long : length (take i cs) ≡ i = omega (arith, length-take i cs, lt) in
    let answers : length (take i bs) ≡ i = omega (arith, length-take i bs, lt, c.requires.arrivals) in
    let here : slice_index_or ms i 0 ≡ slice_index_or ms (length (take i cs)) 0 = ap (λ k. slice_index_or ms k 0) (sym long) in
    let chunks : take i cs ++ d ∷ [] ≡ take (i + 1) cs = ap (λ (y : ChunkPayloadData). take i cs ++ y ∷ []) c.index-chunks-at.is ∙ sym (take_more cs i d lt) in
    let arrivals : take i bs ++ b ∷ [] ≡ take (i + 1) bs = sym (take_more bs i (New false) (omega (arith, lt, c.requires.arrivals))) in
    let next : drop i cs ≡ d ∷ drop (i + 1) cs =
    rw (add-one, drop-cons cs i d) (ap (λ (y : ChunkPayloadData). y ∷ drop (suc i) cs) (sym c.index-chunks-at.is)) in
    record {
      room = c.record_one.ensures.rest (drop (i + 1) cs) (subst (λ xs. HasRoom xs c.loop-at.streams.items) next c.loop-at.invariant.room);
      complete =
          c.record_one.ensures.complete ∙ ap (after_one d (slice_index_or ms i 0) b) c.loop-at.invariant.complete
          ∙ ap (λ n. after_one d n b (after_each (take i cs) ms (take i bs) ps)) here
          ∙ sym (each-next (take i cs) ms (take i bs) d b ps (long ∙ sym answers) (omega (arith, long, lt, c.requires.messages)))
          ∙ ap (λ xs. after_each xs ms (take i bs ++ b ∷ []) ps) chunks ∙ ap (λ xs. after_each (take (i + 1) cs) ms xs ps) arrivals;
    }

pub returns : goal.returns
returns c =
    let chunks : take c.loop-at.at c.args.chunks.now ≡ c.args.chunks.now = take_all c.loop-at.at c.args.chunks.now (omega (arith, c.loop-at-test.false)) in
    let answers : take c.loop-at.at c.args.arrivals.now ≡ c.args.arrivals.now =
    take_all c.loop-at.at c.args.arrivals.now (omega (arith, c.loop-at-test.false, c.requires.arrivals)) in
    let ps = map standing_of c.args.streams.now.items in
    cc (c.loop-at.invariant.complete, chunks, answers)
