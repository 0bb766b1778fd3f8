use Rattle.sctp_sender.proofs.Names.{◌≡◌, ◌+◌, ◌-◌, ◌<◌, ◌≤◌, ◌++◌, ◌∷◌, [], ℕ, suc, false, length, take, get_or, ap, sym, subst, ◌∙◌, arith, ◌==◌, ◌||◌, All}
use Rattle.sctp_sender.proofs.Names.{list_any, nat_tests, get_or_default, length_push, slice_get-get_or, or-none, ChunkPayloadData, following_tsn, PlacedData}
use Rattle.sctp_sender.proofs.Names.{IsOwn, is_at, is_answered, is_of_chunk}
use Rattle.sctp_sender.proofs.Anew.{all-at}
use Rattle.sctp_sender.proofs.AnewKept.{one-more-at, own-more}
use Rattle.sctp_sender.proofs.Answered.{StandsAt, answered-more, any_answered, stands-at, answer-here}
use Rattle.sctp_sender.proofs.Runs.{any_chunk}
use Rattle.sctp_sender.proofs.Walks.{read-of}
use Rattle.sctp_sender.proofs.sender.flight.anew.shared_each.Goals.{After-distance}
use Rattle.sctp_sender.proofs.sender.flight.anew.shared_each.Goals as goal

-- The chunk of which the answer tells, and how far it is.
told-at : (c : After-distance) → (p : StandsAt c.args.acked_tsn c.args.queue.now.inflight.chunks (get_or c.args.released.now c.loop-one.one-index any_answered))
    × (c.distance.result ≡ suc p.k)
told-at c =
    let p = stands-at c.args.acked_tsn _ c.ranges.acked_tsn.fits c.requires.run c.requires.few _
    (all-at (λ x. list_any (is_of_chunk x) c.args.queue.now.inflight.chunks) c.args.released.now c.loop-one.one-index any_answered c.requires.answered
    c.loop-one-test.true) any_chunk in
    (p, c.distance.ensures.value ∙ p.far)

pub overflow_sub-place : goal.overflow_sub-place
overflow_sub-place c = let far = (told-at (goal.at.overflow_sub-place c).After-distance).1 in omega (arith, far)

pub unreachable-requires : goal.unreachable-requires
unreachable-requires c =
    let cs = c.args.queue.now.inflight.chunks in
    let p = told-at (goal.at.unreachable-requires c).After-distance in
    let at = p.0 in
    let far = p.1 in
    let here = at.lt in
    let e = slice_get-get_or cs (c.distance.result - 1) any_chunk (omega (arith, far, here)) in
    let none = c.in_default.ensures in
    cc

pub loop-one-preserved-then-place-count : goal.loop-one-preserved-then-place-count
loop-one-preserved-then-place-count c =
    let cs = c.args.queue.now.inflight.chunks in
    let rs = c.args.released.now in
    let i = c.loop-one.one-index in
    let lt : i < length rs = c.loop-one-test.true in
    let r = get_or rs i any_answered in
    let p = told-at (goal.at.loop-one-preserved-then-place-count c).After-distance in
    let at = p.0 in
    let far = p.1 in
    let low : at.k < c.args.count = omega (arith, far, c.if-place-count.true) in
    record {
      own = c.loop-one.invariant.own;
      few = (let few = c.loop-one.invariant.few in omega (arith, few));
      top = omega (arith, lt);
      turns = omega (arith, c.tick.ensures, c.loop-one.invariant.turns);
      each = λ k d less. c.loop-one.invariant.each k d less
          ∙ sym (answered-more rs i r (get_or cs (c.args.count + k) d) lt (get_or_default rs i any_answered r lt)
          ∙ ap (λ b. is_answered (take i rs) (get_or cs (c.args.count + k) d) || b)
          (answer-here (following_tsn c.args.acked_tsn) cs r at.k (c.args.count + k) d (omega arith) c.requires.run c.requires.few at.tsn at.lt less
          ∙ other at.k (c.args.count + k) (omega (arith, low))) ∙ or-none _);
    }
  where
    other : (a b : ℕ) → a < b → (a == b) ≡ false
    other a b lt = grind (arith, nat_tests, lt)

pub loop-one-preserved : goal.loop-one-preserved
loop-one-preserved c =
    let cs = c.args.queue.now.inflight.chunks in
    let rs = c.args.released.now in
    let i = c.loop-one.one-index in
    let lt : i < length rs = c.loop-one-test.true in
    let r = get_or rs i any_answered in
    let p = told-at (goal.at.loop-one-preserved c).After-distance in
    let at = p.0 in
    let far = p.1 in
    let x = c.in-Some.chunk.now in
    let read = read-of cs (c.distance.result - 1) x (sym c.in-Some.ensures) in
    let place : c.distance.result - 1 ≡ at.k = omega (arith, far) in
    let up : c.args.count ≤ at.k = omega (arith, far, c.if-place-count.false) in
    let b : PlacedData = record { place = c.distance.result - 1 - c.args.count; user_data = c.in_ok-user_data.user_data } in
    let new : c.put.new.items.items ≡ c.loop-one.anew.items ++ b ∷ [] = c.put.ensures.items ∙ ap (λ xs. xs ++ b ∷ []) c.reserve.ensures.items in
    let there : c.args.count + b.place ≡ c.distance.result - 1 = omega (arith, place, up) in
    record {
      own = subst (λ xs. All (IsOwn c.args.count cs) xs) (sym new) (own-more c.args.count cs c.loop-one.anew.items b c.loop-one.invariant.own (λ d. (
        omega (arith, there, read.0),
        ap (λ j. (get_or cs j d).user_data) there
            ∙ ap (λ (y : ChunkPayloadData). y.user_data) (get_or_default cs (c.distance.result - 1) d x read.0 ∙ sym read.1) ∙ sym c.in_ok-user_data.ensures.ok,
      )));
      few = (let m = ap length new ∙ length_push c.loop-one.anew.items b in let few = c.loop-one.invariant.few in omega (arith, m, few));
      top = omega (arith, lt);
      turns = omega (arith, c.tick.ensures, c.loop-one.invariant.turns);
      each = λ k d less. ap (list_any (is_at k)) new ∙ one-more-at k c.loop-one.anew.items b
          ∙ ap (λ q. q || (b.place == k)) (c.loop-one.invariant.each k d less)
          ∙ sym (answered-more rs i r (get_or cs (c.args.count + k) d) lt (get_or_default rs i any_answered r lt)
          ∙ ap (λ q. is_answered (take i rs) (get_or cs (c.args.count + k) d) || q)
          (answer-here (following_tsn c.args.acked_tsn) cs r at.k (c.args.count + k) d (omega arith) c.requires.run c.requires.few at.tsn at.lt less
          ∙ moved at.k b.place c.args.count k (omega (arith, there, place))));
    }
  where
    moved : (a b n k : ℕ) → a ≡ n + b → (a == n + k) ≡ (b == k)
    moved a b n k e = grind (arith, nat_tests, e)
