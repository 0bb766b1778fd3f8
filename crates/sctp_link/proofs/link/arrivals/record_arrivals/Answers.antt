use Rattle.sctp_link.proofs.Names.{Vec, Global, ℕ, ◌+◌, ◌++◌, ◌<◌, drop, length, ap, ◌∙◌, arith, slice_index_or, vec_capacity}
use Rattle.sctp_link.proofs.Names.{with_arrival, arrived_in, repeated_of, or-true, set-changed}
use Rattle.std.specs.Prelude.{vec_len}
use Rattle.sctp_link.proofs.receiver.Arrivals.{slots-first, repeated-first, any-first, slots-again, repeated-again, any-again}
use Rattle.sctp_link.proofs.link.arrivals.record_arrivals.Goals as goal
use Rattle.sctp_link.proofs.link.arrivals.record_arrivals.Goals.{in-New, in-Repeat}

pub loop-at-preserved : goal.loop-at-preserved
loop-at-preserved c =
    let ps = c.args.places.now in
    let bs = c.args.arrivals.now in
    let i = c.loop-at.at in
    let lt : i < length ps = c.loop-at-test.true in
    let inv = c.loop-at.invariant in
    elim c.match-arrivals-at.branch [
      | in-New w ↦ record {
        slots =
            ap (arrived_in (drop (i + 1) ps) (drop (i + 1) bs))
            (w.slots-is ∙ set-changed with_arrival c.loop-at.slots (slice_index_or ps i 0) _ (omega (arith, c.requires.inside i lt, inv.count)))
            ∙ slots-first ps bs i lt c.requires.count _ w.in-New.is c.loop-at.slots ∙ inv.slots;
        duplicates = cc (w.duplicates-is, repeated-first ps bs i lt c.requires.count _ w.in-New.is, inv.duplicates);
        new = cc (w.new-is, any-first ps bs i lt c.requires.count _ w.in-New.is, or-true c.loop-at.new, inv.new);
        room = omega (arith, ap vec_len w.duplicates-is, ap vec_capacity w.duplicates-is, inv.room);
        count = c.match-arrivals-at.auto.slots ∙ inv.count;
      }
      | in-Repeat w ↦ record {
        slots = cc (w.slots-is, slots-again ps bs i lt c.requires.count w.in-Repeat.is c.loop-at.slots, inv.slots);
        duplicates =
            ap (λ (v : Vec ℕ Global). v.items ++ repeated_of (drop (i + 1) ps) (drop (i + 1) bs)) w.duplicates-is
            ∙ ap (λ ds. ds ++ repeated_of (drop (i + 1) ps) (drop (i + 1) bs)) w.push_reserved.ensures.items
            ∙ repeated-again ps bs i lt c.requires.count w.in-Repeat.is c.loop-at.duplicates.items ∙ inv.duplicates;
        new = cc (w.new-is, any-again ps bs i lt c.requires.count w.in-Repeat.is, inv.new);
        room =
            omega (arith, ap vec_len w.duplicates-is, ap vec_capacity w.duplicates-is, w.push_reserved.ensures.len, w.push_reserved.ensures.capacity, inv.room);
        count = c.match-arrivals-at.auto.slots ∙ inv.count;
      }
    ]
