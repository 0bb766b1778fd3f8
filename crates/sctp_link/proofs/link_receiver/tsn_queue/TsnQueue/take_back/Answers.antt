use Rattle.std.proofs.Common.{◌≡◌, ℕ, ◌-◌, ◌++◌, ap, sym, subst, ◌∙◌, arith, map}
use Rattle.sctp_util.specs.Serial.{distance}
use Rattle.sctp_outbound.specs.payload_queue.PayloadQueue.{Payload}
use Rattle.sctp_link.specs.declared.link_receiver.tsn_queue.undo.TsnUndo.TheVariants.{Repeat, Beyond, Next}
use Rattle.sctp_receiver.specs.TsnFilter.{placeholder}
use Rattle.sctp_receiver.specs.TsnRuns.{tsns_from}
use Rattle.sctp_receiver.specs.Undo.{passed}
use Rattle.sctp_link.specs.Tsns.{Kept, came_in, undone, CanUndo}
use Rattle.sctp_serial.specs.DataChunks.{following_tsn, tsns}
use Rattle.sctp_link.proofs.tsns.TakenBack.{gone-is, gone-placeholders, gone-rise, back-rise, back-room, next-is-back, next-placeholders, next-rise}
use Rattle.sctp_link.proofs.tsns.TakenBack.{next-places}
use Rattle.sctp_link.proofs.link_receiver.tsn_queue.TsnQueue.take_back.Goals as goal

pub returns-in-Nothing-clause-value : goal.returns-in-Nothing-clause-value
returns-in-Nothing-clause-value c = ap (λ u. undone u c.args.self.now.filter) (sym c.in-Nothing.is)

pub returns-in-Repeat-clause-value : goal.returns-in-Repeat-clause-value
returns-in-Repeat-clause-value c =
    ap (came_in c.self.inside.cumulative_tsn) c.forget_last_duplicate.ensures
    ∙ ap (λ (k : Kept). undone Repeat k.filter) c.self.view_is
    ∙ ap (λ u. undone u c.args.self.now.filter) (sym c.in-Repeat.is)

pub invariant_of-self-in-Beyond : goal.invariant_of-self-in-Beyond
invariant_of-self-in-Beyond c =
    let n = c.self.inside.cumulative_tsn in
    let q = c.self.inside.queue in
    let k = c.args.self.now in
    let can : CanUndo (Beyond c.in-Beyond.tsn) k = subst (λ u. CanUndo u k) c.in-Beyond.is c.requires in
    let f = ap (λ (h : Kept). h.filter) c.self.view_is in
    let p = ap (λ (h : Kept). h.places) c.self.view_is in
    record {
      in_range = c.self.invariant.in_range;
      placeholders =
          gone-placeholders n q k f p c.self.invariant.placeholders c.in-Beyond.tsn c.take_leaving_room.new.self c.take_leaving_room.ensures.rest can;
      rise = gone-rise n q k f p c.self.invariant.placeholders c.in-Beyond.tsn c.take_leaving_room.new.self c.take_leaving_room.ensures.rest can;
    }

pub returns-in-Beyond-clause-value : goal.returns-in-Beyond-clause-value
returns-in-Beyond-clause-value c =
    let k = c.args.self.now in
    let can : CanUndo (Beyond c.in-Beyond.tsn) k = subst (λ u. CanUndo u k) c.in-Beyond.is c.requires in
    gone-is c.self.inside.cumulative_tsn c.self.inside.queue k (ap (λ (h : Kept). h.filter) c.self.view_is) (ap (λ (h : Kept). h.places) c.self.view_is)
    c.self.invariant.placeholders c.in-Beyond.tsn c.take_leaving_room.new.self c.take_leaving_room.ensures.rest can
    ∙ ap (λ u. undone u k.filter) (sym c.in-Beyond.is)

pub returns-in-Beyond-clause-places : goal.returns-in-Beyond-clause-places
returns-in-Beyond-clause-places c = c.take_leaving_room.ensures.places ∙ ap (λ (h : Kept). h.places) c.self.view_is

pub put_back-requires-clause-rise : goal.put_back-requires-clause-rise
put_back-requires-clause-rise c =
    let k = c.args.self.now in
    let can : CanUndo (Next c.in-Next.cumulative_tsn) k = subst (λ u. CanUndo u k) c.in-Next.is c.requires in
    rw (c.distance-passed.ensures.value) (back-rise c.self.inside.cumulative_tsn c.self.inside.queue k (ap (λ (h : Kept). h.filter) c.self.view_is)
    (ap (λ (h : Kept). h.places) c.self.view_is) c.self.invariant.placeholders c.in-Next.cumulative_tsn can)

pub put_back-requires-clause-room : goal.put_back-requires-clause-room
put_back-requires-clause-room c =
    let k = c.args.self.now in
    let can : CanUndo (Next c.in-Next.cumulative_tsn) k = subst (λ u. CanUndo u k) c.in-Next.is c.requires in
    let le = back-room c.self.inside.cumulative_tsn c.self.inside.queue k (ap (λ (h : Kept). h.filter) c.self.view_is)
    (ap (λ (h : Kept). h.places) c.self.view_is) c.self.invariant.placeholders c.in-Next.cumulative_tsn can in
    omega (arith, le, c.distance-passed.ensures.value)

-- what is put back, and the rest of the queue, by how many TSNs were passed
back : (n c d : ℕ) (q mid : Payload) → d ≡ distance n c
    → mid.chunks ≡ map placeholder (tsns_from (following_tsn (following_tsn n)) (d - 1) ++ tsns q.chunks)
    → mid.chunks ≡ map placeholder (passed n c ++ tsns q.chunks)
back n c d q mid far e = e ∙ ap (λ k. map placeholder (tsns_from (following_tsn (following_tsn n)) (k - 1) ++ tsns q.chunks)) far

rest : (n c d : ℕ) (q mid : Payload) → d ≡ distance n c → mid ≡ record q { chunks = mid.chunks; room = q.room - (d - 1) }
    → mid ≡ record q { chunks = mid.chunks; room = q.room - (distance n c - 1) }
rest n c d q mid far e = e ∙ ap (λ k. let p : Payload = record q { chunks = mid.chunks; room = q.room - (k - 1) } in p) far

pub invariant_of-self-in-Next : goal.invariant_of-self-in-Next
invariant_of-self-in-Next c =
    let n = c.self.inside.cumulative_tsn in
    let q = c.self.inside.queue in
    let k = c.args.self.now in
    let can : CanUndo (Next c.in-Next.cumulative_tsn) k = subst (λ u. CanUndo u k) c.in-Next.is c.requires in
    let f = ap (λ (h : Kept). h.filter) c.self.view_is in
    let p = ap (λ (h : Kept). h.places) c.self.view_is in
    record {
      in_range = can.in_range;
      placeholders = next-placeholders n q k f p c.self.invariant.placeholders c.in-Next.cumulative_tsn can c.put_back.new.queue
          (back c.in-Next.cumulative_tsn c.self.inside.cumulative_tsn c.distance-passed.result c.self.inside.queue c.put_back.new.queue
          c.distance-passed.ensures.value
          c.put_back.ensures.placeholders) (rest c.in-Next.cumulative_tsn c.self.inside.cumulative_tsn c.distance-passed.result c.self.inside.queue
          c.put_back.new.queue c.distance-passed.ensures.value
          c.put_back.ensures.rest);
      rise = next-rise n q k f p c.self.invariant.placeholders c.in-Next.cumulative_tsn can c.put_back.new.queue
          (back c.in-Next.cumulative_tsn c.self.inside.cumulative_tsn c.distance-passed.result c.self.inside.queue c.put_back.new.queue
          c.distance-passed.ensures.value
          c.put_back.ensures.placeholders) (rest c.in-Next.cumulative_tsn c.self.inside.cumulative_tsn c.distance-passed.result c.self.inside.queue
          c.put_back.new.queue c.distance-passed.ensures.value
          c.put_back.ensures.rest);
    }

pub returns-in-Next-clause-value : goal.returns-in-Next-clause-value
returns-in-Next-clause-value c =
    let k = c.args.self.now in
    let can : CanUndo (Next c.in-Next.cumulative_tsn) k = subst (λ u. CanUndo u k) c.in-Next.is c.requires in
    next-is-back c.self.inside.cumulative_tsn c.self.inside.queue k (ap (λ (h : Kept). h.filter) c.self.view_is) (ap (λ (h : Kept). h.places) c.self.view_is)
    c.self.invariant.placeholders c.in-Next.cumulative_tsn can c.put_back.new.queue
    (back c.in-Next.cumulative_tsn c.self.inside.cumulative_tsn c.distance-passed.result c.self.inside.queue c.put_back.new.queue
    c.distance-passed.ensures.value
    c.put_back.ensures.placeholders) (rest c.in-Next.cumulative_tsn c.self.inside.cumulative_tsn c.distance-passed.result c.self.inside.queue
    c.put_back.new.queue c.distance-passed.ensures.value
    c.put_back.ensures.rest)
    ∙ ap (λ u. undone u k.filter) (sym c.in-Next.is)

pub returns-in-Next-clause-places : goal.returns-in-Next-clause-places
returns-in-Next-clause-places c =
    let k = c.args.self.now in
    let can : CanUndo (Next c.in-Next.cumulative_tsn) k = subst (λ u. CanUndo u k) c.in-Next.is c.requires in
    next-places c.self.inside.cumulative_tsn c.self.inside.queue k (ap (λ (h : Kept). h.filter) c.self.view_is) (ap (λ (h : Kept). h.places) c.self.view_is)
    c.self.invariant.placeholders c.in-Next.cumulative_tsn can c.put_back.new.queue
    (back c.in-Next.cumulative_tsn c.self.inside.cumulative_tsn c.distance-passed.result c.self.inside.queue c.put_back.new.queue
    c.distance-passed.ensures.value
    c.put_back.ensures.placeholders) (rest c.in-Next.cumulative_tsn c.self.inside.cumulative_tsn c.distance-passed.result c.self.inside.queue
    c.put_back.new.queue c.distance-passed.ensures.value
    c.put_back.ensures.rest)
