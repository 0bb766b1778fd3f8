use Rattle.std.proofs.Common.{◌≡◌, ◌+◌, length, ap, sym, ◌∙◌, true, map}
use Rattle.sctp_outbound.specs.payload_queue.PayloadQueue.{Payload}
use Rattle.sctp_receiver.specs.TsnFilter.{has_come, placeholder, rise_beyond}
use Rattle.sctp_link.specs.Tsns.{Kept, came_in}
use Rattle.sctp_link.proofs.tsns.QueueCalls.{no-window, few-bytes, after-repeat}
use Rattle.sctp_link.proofs.link_receiver.tsn_queue.TsnQueue.record_duplicate.Goals as goal
use Rattle.sctp_serial.specs.DataChunks.{tsns}

pub push-requires-clause-window : goal.push-requires-clause-window
push-requires-clause-window c =
    let q = c.self.inside.queue in
    let n = c.self.inside.cumulative_tsn in
    let come : has_come c.args.tsn (came_in n q) ≡ true = rw (← c.self.view_is) at c.requires in
    rw (c.placeholder.ensures) (no-window n c.args.tsn q c.self.invariant.in_range c.ranges.tsn.fits c.self.invariant.placeholders c.self.invariant.rise come)

pub push-requires-clause-bytes : goal.push-requires-clause-bytes
push-requires-clause-bytes c = rw (c.placeholder.ensures) (λ new. few-bytes c.self.inside.queue.chunks c.self.invariant.placeholders)

pub invariant_of-self-2 : goal.invariant_of-self-2
invariant_of-self-2 c =
    let i = c.self.invariant in
    let is = rw (c.placeholder.ensures) at c.in_ok-push.ensures.ok in
    let answer = rw (c.placeholder.ensures) at c.in_ok-push.ensures.answer in
    let a = after-repeat c.self.inside.cumulative_tsn c.args.tsn c.self.inside.queue c.push.new.self c.args.self.now.filter c.in_ok-push.field-0
    (ap (λ (k : Kept). k.filter) c.self.view_is) c.requires answer is in
    let same = ap (λ (p : Payload). p.chunks) a.0 in
    record {
      in_range = i.in_range;
      placeholders = same ∙ i.placeholders ∙ ap (λ cs. map placeholder (tsns cs)) (sym same);
      rise = ap (λ cs. rise_beyond c.self.inside.cumulative_tsn 1 (tsns cs)) same ∙ i.rise;
    }

pub returns-clause-ok : goal.returns-clause-ok
returns-clause-ok c =
    let is = rw (c.placeholder.ensures) at c.in_ok-push.ensures.ok in
    let answer = rw (c.placeholder.ensures) at c.in_ok-push.ensures.answer in
    (after-repeat c.self.inside.cumulative_tsn c.args.tsn c.self.inside.queue c.push.new.self c.args.self.now.filter c.in_ok-push.field-0
    (ap (λ (k : Kept). k.filter) c.self.view_is) c.requires answer is).1

pub returns-clause-places : goal.returns-clause-places
returns-clause-places c =
    let is = rw (c.placeholder.ensures) at c.in_ok-push.ensures.ok in
    let answer = rw (c.placeholder.ensures) at c.in_ok-push.ensures.answer in
    let a = after-repeat c.self.inside.cumulative_tsn c.args.tsn c.self.inside.queue c.push.new.self c.args.self.now.filter c.in_ok-push.field-0
    (ap (λ (k : Kept). k.filter) c.self.view_is) c.requires answer is in
    ap (λ (p : Payload). length p.chunks + p.room) a.0 ∙ ap (λ (k : Kept). k.places) c.self.view_is
