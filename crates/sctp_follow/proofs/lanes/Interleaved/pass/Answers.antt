use Rattle.std.proofs.Common.{◌≡◌, ℕ, ◌+◌, ◌%◌, Bool, false, List, [], ◌∷◌, ◌++◌, take, get_or, refl, sym, ◌∙◌}
use Rattle.std.proofs.lemmas.List.{take_more}
use Rattle.sctp_util.specs.Serial.{at_or_before}
use Rattle.sctp_follow.specs.Forgetting.{held_of}
use Rattle.sctp_follow.specs.Passing.{LooksAt}
use Rattle.sctp_follow.specs.Spots.{AreDue}
use Rattle.sctp_follow.specs.declared.spots.Spot.{Spot}
use Rattle.sctp_follow.proofs.Departing.{leaves_none, leaves_more, leaves_forgets, none_up_to}
use Rattle.sctp_follow.proofs.Looking.{looks_none, looks_more}
use Rattle.sctp_follow.proofs.lanes.Interleaved.pass.Goals as goal

pub loop-spot-init : goal.loop-spot-init
loop-spot-init c = record {
  look = rw c.new-messages.ensures.items (looks_none c.args.self.now.lanes);
  notes = rw c.new-messages.ensures.items (leaves_none (held_of c.args.self.now.lanes) c.pop_each.new.self);
  whole = refl;
}

pub loop-spot-preserved : goal.loop-spot-preserved
loop-spot-preserved c =
    let es = c.deref-spot-items.result.now in
    let i = c.loop-spot.spot-index in
    let d : ℕ × Spot = (0, record { name = record { stream = 0; unordered = false; number = 0 }; place = 0 }) in
    record {
      look = rw (c.in_ok-append.ensures.items, take_more es i d c.loop-spot-test.true) (looks_more (take i es) (get_or es i d) c.loop-spot.messages.items _
          c.args.self.now.lanes c.loop-spot.self.lanes c.see.new.self.lanes c.loop-spot.invariant.look c.in_ok-seen.ensures.looks);
      notes = rw c.in_ok-append.ensures.items (leaves_more (held_of c.args.self.now.lanes) (held_of c.loop-spot.self.lanes) (held_of c.see.new.self.lanes)
          c.loop-spot.messages.items c.in_ok-seen.seen.messages.items _ c.loop-spot.self.spots c.see.new.self.spots c.loop-spot.invariant.notes c.in_ok-seen.ensures.notes);
      whole = c.in_ok-seen.ensures.whole ∙ c.loop-spot.invariant.whole;
    }

pub returns-clause-notes : goal.returns-clause-notes
returns-clause-notes c =
    let due : ℕ → Bool = λ t. at_or_before t ((c.args.tsn + 1) % 4294967296) in
    let are : AreDue ((c.args.tsn + 1) % 4294967296) c.in_ok-due.due.items c.args.self.now.spots c.pop_each.new.self = c.in_ok-due.ensures in
    leaves_forgets due (held_of c.args.self.now.lanes) (held_of c.loop-spot.self.lanes) c.loop-spot.messages.items c.deref.result.now
    c.args.self.now.spots c.pop_each.new.self c.loop-spot.self.spots c.forget_read.new.self c.loop-spot.invariant.notes
    (none_up_to ((c.args.tsn + 1) % 4294967296) c.pop_each.new.self are.gone) are.stay c.deref.ensures.value c.forget_read.ensures
