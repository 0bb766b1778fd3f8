use Rattle.std.proofs.Common.{◌≡◌, ◌-◌, ◌+◌, ◌/◌, min, not, is_some, get_or, length, sym, ap, subst, ◌∙◌, arith}
use Rattle.std.proofs.lemmas.List.{length-map, get_or_default}
use Rattle.sctp_data.specs.declared.chunk.chunk_payload_data.ChunkPayloadData.{ChunkPayloadData}
use Rattle.sctp_serial.specs.Window.{IsHeldAt}
use Rattle.sctp_outbound.proofs.lemmas.payload_queue.Marked.{any_chunk}
use Rattle.sctp_outbound.proofs.lemmas.payload_queue.Offsets.{place_small}
use Rattle.sctp_outbound.proofs.lemmas.payload_queue.Search.{Narrowed, narrowed_latest, narrowed_right, narrowed_left, none_has, read_tsn}
use Rattle.sctp_serial.proofs.lemmas.Halves.{halved, digits_left, one_more}
use Rattle.sctp_serial.proofs.lemmas.Serials.{find_held, not_found}
use Rattle.sctp_outbound.proofs.payload_queue.searched_place.Goals as goal

pub loop-low-init : goal.loop-low-init
loop-low-init c =
    let none : c.args.turns.now - c.args.turns.now ≡ 0 = omega arith in
    record {
      narrowed = narrowed_latest c.args.held.now.chunks c.requires c.args.tsn c.latest_place.result c.ranges.tsn.fits c.latest_place.ensures.latest _
          (c.min-high.ensures ∙ ap (λ n. min n (c.latest_place.result + 1)) c.len.ensures);
      not_back = omega arith;
      cost_left = rw none (omega (arith, c.min-high.ensures, c.len.ensures));
      cost = rw none (omega arith);
    }

-- there are fewer than 2^32 places
pub overflow_add-middle : goal.overflow_add-middle
overflow_add-middle c =
    let few = place_small c.args.held.now.chunks c.requires (c.loop-low.high - 1) (omega (arith, c.loop-low.invariant.narrowed)) in
    omega (arith, few, c.loop-low.invariant.narrowed)

pub tsn_at-here-requires : goal.tsn_at-here-requires
tsn_at-here-requires c = omega (arith, c.loop-low.invariant.narrowed.in_range, ap length c.tsns-tsns.ensures, length-map c.args.held.now.chunks (λ (x : ChunkPayloadData). x.tsn))

pub returns-then-here-tsn-clause-free : goal.returns-then-here-tsn-clause-free
returns-then-here-tsn-clause-free c =
    let xs = c.args.held.now.chunks in
    let middle = (c.loop-low.low + c.loop-low.high) / 2 in
    let read = read_tsn c.args.held.now.chunks _ _ c.tsn_at-here.result c.tsns-tsns.ensures c.tsn_at-here.ensures.value
    (omega (arith, c.loop-low.invariant.narrowed.in_range)) any_chunk in
    let at : IsHeldAt xs c.args.tsn middle (get_or xs middle any_chunk) = record {
      in_range = omega (arith, c.loop-low.invariant.narrowed.in_range);
      value = get_or_default xs middle _ any_chunk (omega (arith, c.loop-low.invariant.narrowed.in_range));
      number = read ∙ c.if-here-tsn.true;
    } in
    ap not (sym (ap is_some (find_held xs c.args.tsn c.requires middle _ at)))

pub returns-then-here-tsn-clause-cost : goal.returns-then-here-tsn-clause-cost
returns-then-here-tsn-clause-cost c =
    let more = one_more c.args.turns.now c.loop-low.turns c.tsn_at-here.new.turns c.loop-low.invariant.not_back c.tsn_at-here.ensures.turn in
    rw more (omega (arith, digits_left _ _ _ c.loop-low.invariant.cost_left (omega arith)))

pub loop-low-preserved-then-sna32lt : goal.loop-low-preserved-then-sna32lt
loop-low-preserved-then-sna32lt c =
    let read = read_tsn c.args.held.now.chunks _ _ c.tsn_at-here.result c.tsns-tsns.ensures c.tsn_at-here.ensures.value
    (omega (arith, c.loop-low.invariant.narrowed.in_range)) in
    let more = one_more c.args.turns.now c.loop-low.turns c.tsn_at-here.new.turns c.loop-low.invariant.not_back c.tsn_at-here.ensures.turn in
    record {
      narrowed = narrowed_right _ c.requires c.args.tsn _ _ _ c.ranges.tsn.fits c.loop-low.invariant.narrowed c.tsn_at-here.result (omega arith)
          (omega arith) read c.if-here-tsn.false (sym c.sna32lt.ensures ∙ c.if-sna32lt.true);
      not_back = omega arith;
      cost_left = rw more (halved _ (c.loop-low.high - c.loop-low.low) _ _ c.loop-low.invariant.cost_left (omega arith));
      cost = rw more (digits_left _ _ _ c.loop-low.invariant.cost_left (omega arith));
    }

pub loop-low-preserved : goal.loop-low-preserved
loop-low-preserved c =
    let read = read_tsn c.args.held.now.chunks _ _ c.tsn_at-here.result c.tsns-tsns.ensures c.tsn_at-here.ensures.value
    (omega (arith, c.loop-low.invariant.narrowed.in_range)) in
    let more = one_more c.args.turns.now c.loop-low.turns c.tsn_at-here.new.turns c.loop-low.invariant.not_back c.tsn_at-here.ensures.turn in
    record {
      narrowed = narrowed_left _ c.requires c.args.tsn _ _ _ c.ranges.tsn.fits c.loop-low.invariant.narrowed c.tsn_at-here.result (omega arith)
          (omega arith) read c.if-here-tsn.false (sym c.sna32lt.ensures ∙ c.if-sna32lt.false);
      not_back = omega arith;
      cost_left = rw more (halved _ (c.loop-low.high - c.loop-low.low) _ _ c.loop-low.invariant.cost_left (omega arith));
      cost = rw more (digits_left _ _ _ c.loop-low.invariant.cost_left (omega arith));
    }

pub returns-clause-free : goal.returns-clause-free
returns-clause-free c =
    let xs = c.args.held.now.chunks in
    let met : c.loop-low.high ≡ c.loop-low.low = omega (arith, c.loop-low.invariant.narrowed.ordered) in
    let none = none_has xs c.args.tsn c.loop-low.low (subst (Narrowed xs c.args.tsn c.loop-low.low) met c.loop-low.invariant.narrowed) in
    ap not (sym (ap is_some (not_found xs c.args.tsn none)))
