use Rattle.std.proofs.Common.{◌≡◌, ◌+◌, ◌<◌, ◌++◌, ◌∷◌, [], length, length-append, take, drop, ap, sym, ◌∙◌, append_assoc, arith}
use Rattle.std.specs.List.{filter}
use Rattle.std.proofs.lemmas.List.{length-drop}
use Rattle.std.proofs.lemmas.List.Elements.{filter-append}
use Rattle.sctp_reassembly.specs.reassembly_queue.Resets.{is_old_message, of_new_use, dropped_bytes}
use Rattle.sctp_reassembly.proofs.lemmas.reassembly_queue.Resets.{first_left, rest_left, taken_more, more_passes, of_new_use-append, dropped_bytes-append}
use Rattle.sctp_reassembly.proofs.reassembly_queue.resets.end_use.Goals as goal

pub loop-place-preserved : goal.loop-place-preserved
loop-place-preserved c =
    let xs = c.args.sets.now.items in
    let k = c.loop-place._place in
    let x = c.in-Some.set in
    let last = c.args.last_tsn in
    let p = is_old_message last in
    let new = c.pop_front.new.self.items in
    let done = of_new_use last (take k xs) in
    let lt : k < length xs = omega (arith, c.len-place-end.ensures) in
    let e : x ∷ new ≡ drop k xs ++ done = sym c.in-Some.ensures.items ∙ c.loop-place.invariant.left in
    let at = first_left xs new done k x lt e in
    let more = taken_more xs k x lt at in
    record {
      left = c.end_use_of.ensures.rest ∙ ap (λ ys. ys ++ of_new_use last (x ∷ [])) (rest_left xs new done k x lt e)
          ∙ append_assoc (drop (k + 1) xs) done (of_new_use last (x ∷ []))
          ∙ ap (λ ys. drop (k + 1) xs ++ ys) (sym (of_new_use-append last (take k xs) (x ∷ [])) ∙ ap (of_new_use last) (sym more));
      moved = c.end_use_of.ensures.moved ∙ ap (λ ys. ys ++ filter p (x ∷ [])) c.loop-place.invariant.moved
          ∙ append_assoc c.args.moved.now.items (filter p (take k xs)) (filter p (x ∷ []))
          ∙ ap (λ ys. c.args.moved.now.items ++ ys) (sym (filter-append p (take k xs) (x ∷ [])) ∙ ap (filter p) (sym more));
      moved_room = c.end_use_of.ensures.moved_room ∙ c.loop-place.invariant.moved_room;
      counted = omega (
        arith,
        c.saturating_add-gone.ensures,
        c.loop-place.invariant.counted,
        c.end_use_of.ensures.bytes,
        dropped_bytes-append last (take k xs) (x ∷ []),
        ap (dropped_bytes last) more,
      );
    }

pub unreachable-requires : goal.unreachable-requires
unreachable-requires c =
    let xs = c.args.sets.now.items in
    let k = c.loop-place._place in
    let done = of_new_use c.args.last_tsn (take k xs) in
    let same = ap length (c.in-None.ensures.items ∙ c.in-None.ensures.rest) in
    omega (
      arith,
      c.len-place-end.ensures,
      same,
      length-drop 1 c.loop-place.sets.items,
      ap length c.loop-place.invariant.left,
      length-append (drop k xs) done,
      length-drop k xs,
    )

pub end_use_of-requires-clause-moved : goal.end_use_of-requires-clause-moved
end_use_of-requires-clause-moved c = λ old.
    let xs = c.args.sets.now.items in
    let k = c.loop-place._place in
    let x = c.in-Some.set in
    let p = is_old_message c.args.last_tsn in
    let new = c.pop_front.new.self.items in
    let done = of_new_use c.args.last_tsn (take k xs) in
    let lt : k < length xs = omega (arith, c.len-place-end.ensures) in
    let at = first_left xs new done k x lt (sym c.in-Some.ensures.items ∙ c.loop-place.invariant.left) in
    let fits : length c.loop-place.moved.items < c.loop-place.moved.capacity =
    omega (
      arith,
      c.requires,
      c.loop-place.invariant.moved_room,
      ap length c.loop-place.invariant.moved,
      length-append c.args.moved.now.items (filter p (take k xs)),
      more_passes p xs k x lt at old,
    ) in
    fits
