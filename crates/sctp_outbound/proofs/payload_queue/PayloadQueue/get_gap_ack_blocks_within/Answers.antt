use Rattle.std.proofs.Math.Nat.{pow-le-pow_right}
use Rattle.std.proofs.lemmas.Bool.Decides.{nat_tests}
use Rattle.std.proofs.Common.{◌*◌, List, length-append, ◌≡◌, ◌||◌, ◌&&◌, true, ℕ, ◌+◌, ◌-◌, ◌^◌, ◌<◌, ◌≤◌, [], ◌∷◌, ◌++◌, min, length, map, take}
use Rattle.std.proofs.Common.{Vec, Global, get_or, sym, ap, ◌∙◌, subst, arith}
use Rattle.std.specs.Prelude.{nat_le}
use Rattle.std.specs.List.{All, list_any}
use Rattle.std.proofs.lemmas.List.{length-map, map-append, take_all}
use Rattle.std.proofs.lemmas.List.Elements.{All-push}
use Rattle.std.proofs.lemmas.List.Quantifiers.{all_pairs_push}
use Rattle.sctp_data.specs.declared.chunk.chunk_payload_data.ChunkPayloadData.{ChunkPayloadData}
use Rattle.sctp_data.specs.declared.chunk.chunk_selective_ack.GapAckBlock.{GapAckBlock}
use Rattle.sctp_util.specs.Kept.{runs_of}
use Rattle.sctp_util.specs.Serial.{distance}
use Rattle.sctp_util.proofs.Cases.{or-none}
use Rattle.sctp_util.proofs.Edits.{list_any-append}
use Rattle.sctp_serial.specs.Turns.{IsWithinDigits}
use Rattle.sctp_outbound.specs.payload_queue.Blocks.{BlocksAscend, IsAtOffset, Reports, is_in_block, is_reported, is_in_blocks, gap_offsets, ends_of, is_offset}
use Rattle.sctp_outbound.proofs.lemmas.payload_queue.Gaps.{InReach, runs_more, covered_more, run_distances, run_apart, front_offsets, front_reported}
use Rattle.sctp_outbound.proofs.lemmas.payload_queue.Gaps.{rest_offsets, rest_reported, front_runs, first_runs}
use Rattle.sctp_outbound.proofs.lemmas.payload_queue.Marked.{any_chunk}
use Rattle.sctp_outbound.proofs.lemmas.payload_queue.Offsets.{at_offset, offset_here, out_at}
use Rattle.sctp_outbound.proofs.payload_queue.PayloadQueue.get_gap_ack_blocks_within.Goals as goal
use Rattle.sctp_outbound.proofs.payload_queue.PayloadQueue.get_gap_ack_blocks_within.Goals.{then-len-capacity+in_ok-blocks, else-len-capacity}

-- fewer turns are within as many digits
fewer : (n s t : ℕ) → s ≤ t → IsWithinDigits n t → IsWithinDigits n s
fewer n s t le h = let less = pow-le-pow_right {n = 2} (omega arith) le in omega arith

-- what a block can hold
held_by_block : (n : ℕ) → is_offset n ≡ true → (0 < n) × (n < 2 ^ 16)
held_by_block n h = (grind (arith, nat_tests), grind (arith, nat_tests))

-- so far there are no more blocks than of all chunks
no_more : (cumulative : ℕ) (xs : List ChunkPayloadData) (place : ℕ) (bs : List GapAckBlock) → map ends_of bs ≡ runs_of (gap_offsets cumulative (take place xs))
    → length bs ≤ length (runs_of (gap_offsets cumulative xs))
no_more cumulative xs place bs runs = omega (arith, length-map bs ends_of, ap length runs, front_runs cumulative xs place)

-- where there are no more than the limit, they are all
all_runs : (most : ℕ) (bs : List GapAckBlock) (rs : List (ℕ × ℕ)) → length bs ≤ most → map ends_of bs ≡ rs → map ends_of bs ≡ take most rs
all_runs most bs rs le e = e ∙ sym (take_all most rs (omega (arith, ap length e, length-map bs ends_of)))

-- a chunk in reach is a run of one
one_there : (cumulative : ℕ) (xs : List ChunkPayloadData) (place offset : ℕ) → IsAtOffset cumulative xs place offset
    → InReach cumulative xs place any_chunk offset 0
one_there cumulative xs place offset at = record {
  in_range = omega (arith, at);
  positive = at.positive;
  small = omega (arith, at);
  along = λ k le. subst (λ j. distance cumulative (get_or xs (place + j) any_chunk).tsn ≡ offset + j) {x = 0} (omega arith)
      (subst (λ j. distance cumulative (get_or xs j any_chunk).tsn ≡ offset + 0) {x = place} (omega arith)
      (offset_here cumulative xs place offset at any_chunk ∙ omega arith));
}

-- so it is one block more
module _ (cumulative : ℕ) (xs : List ChunkPayloadData) (place offset : ℕ) (bs : List GapAckBlock) (at : IsAtOffset cumulative xs place offset)
    (apart : All (λ b. b.end + 1 < offset) bs) (runs : map ends_of bs ≡ runs_of (gap_offsets cumulative (take place xs))) where
  first_of_all : take (length (map ends_of bs)) (runs_of (gap_offsets cumulative xs)) ≡ map ends_of bs
  first_of_all = first_runs cumulative xs (place + 0 + 1) (map ends_of bs) (offset, offset + 0)
      (runs_more cumulative xs place any_chunk offset bs 0 (one_there cumulative xs place offset at) apart runs)

  one_more : length bs + 1 ≤ length (runs_of (gap_offsets cumulative xs))
  one_more =
      let more = ap length (runs_more cumulative xs place any_chunk offset bs 0 (one_there cumulative xs place offset at) apart runs) in
      omega (arith, length-map bs ends_of, length-append (map ends_of bs) ((offset, offset + 0) ∷ []), more, front_runs cumulative xs (place + 0 + 1))

pub loop-tsns-init : goal.loop-tsns-init
loop-tsns-init c =
    let xs = c.self.inside.held.chunks in
    let cumulative = c.args.cumulative_tsn in
    let place = c.first_after-place.result in
    let first = c.first_after-place.ensures.first in
    let items = c.new-blocks.ensures.items in
    record {
      in_range = first.in_range;
      here = c.offset_at-offset.ensures.value ∙ ap (λ ns. distance cumulative (get_or ns place cumulative)) c.tsns-tsns.ensures;
      ahead = first.ascends;
      ascend = subst BlocksAscend (sym items) (record { runs = λ k d lt. absurd (omega arith); apart = λ i j d lt short. absurd (omega arith) });
      behind = λ j d le lt small k b short. absurd (omega (arith, ap length items));
      not_back = omega (arith, c.first_after-place.ensures.not_back);
      cost = fewer (length xs) _ _ (omega arith) c.first_after-place.ensures.cost;
      exact = λ n. ap (λ bs. is_in_blocks bs n) items ∙ sym (front_reported cumulative xs place first.before n);
      limit = omega (arith, ap length items);
      runs = ap (map ends_of) items ∙ ap runs_of (sym (front_offsets cumulative xs place first.before));
    }

pub run_from-run-requires-clause-at : goal.run_from-run-requires-clause-at
run_from-run-requires-clause-at c =
    let reached = held_by_block c.loop-tsns.offset (sym c.is_offset.ensures ∙ c.loop-tsns-test.true) in
    at_offset c.args.cumulative_tsn c.self.inside.held.chunks c.ranges.cumulative_tsn.fits c.loop-tsns.place c.loop-tsns.offset c.loop-tsns.invariant.here
    reached.0 reached.1

pub loop-tsns-preserved : goal.loop-tsns-preserved
loop-tsns-preserved c =
    let xs = c.self.inside.held.chunks in
    let cumulative = c.args.cumulative_tsn in
    let place = c.loop-tsns.place in
    let offset = c.loop-tsns.offset in
    let run = c.run_from-run.result in
    let last = run.next - 1 in
    let bs = c.loop-tsns.blocks.items in
    let inv = c.loop-tsns.invariant in
    let told = c.run_from-run.ensures.run in
    let fits = c.ranges.cumulative_tsn.fits in
    let serial = c.self.invariant.serial in
    let reached = held_by_block offset (sym c.is_offset.ensures ∙ c.loop-tsns-test.true) in
    let at = at_offset cumulative xs fits place offset inv.here reached.0 reached.1 in
    let block : GapAckBlock = record { start = offset; end = run.end } in
    let short : last < length xs = omega (arith, told, told.rises.to) in
    let within_reach : offset + (last - place) < 2 ^ 16 = omega (arith, told.rises.to, told.rises.from, at) in
    let here : distance cumulative (get_or xs place any_chunk).tsn ≡ offset = offset_here cumulative xs place offset at any_chunk in
    let along = λ (k : ℕ) (le : k ≤ last - place).
    run_distances cumulative xs place last fits serial inv.ahead short told.rises.rising any_chunk k (omega (arith, told.rises.from)) ∙ ap (λ o. o + k) here in
    let reach : InReach cumulative xs place any_chunk offset (last - place) =
    record { in_range = omega (arith, told.rises.from); positive = at.positive; small = within_reach; along = along } in
    let apart : All (λ b. b.end + 1 < offset) bs = subst (λ o. All (λ (b : GapAckBlock). b.end + 1 < o) bs) here
    (inv.behind place any_chunk (omega arith) at.in_range (omega (arith, here, at))) in
    let next : place + (last - place) + 1 ≡ run.next = omega (arith, told.some) in
    let kept : c.if-len-capacity.blocks.items ≡ bs = elim c.if-len-capacity.branch [
      | then-len-capacity+in_ok-blocks w ↦ ap (λ (v : Vec GapAckBlock Global). v.items) w.blocks-is ∙ w.in_ok-blocks.ensures.items
      | else-len-capacity w ↦ ap (λ (v : Vec GapAckBlock Global). v.items) w.blocks-is
    ] in
    let items = c.push_reserved.ensures.items ∙ ap (λ (ys : List GapAckBlock). ys ++ block ∷ []) kept in
    record {
      in_range = omega (arith, told.some, told.rises.to);
      here = told.goes_on;
      ahead = record {
        after = λ k d le. inv.ahead.after k d (omega (arith, told.some));
        farther = λ i j d le. inv.ahead.farther i j d (omega (arith, told.some));
      };
      ascend = subst BlocksAscend (sym items) (record {
        runs = All-push (λ (b : GapAckBlock). b.start ≤ b.end) bs block inv.ascend.runs (omega (arith, told.ends));
        apart = all_pairs_push (λ (a b : GapAckBlock). a.end + 1 < b.start) bs block inv.ascend.apart apart;
      });
      behind = λ j d le lt small. subst (All (λ (b : GapAckBlock). b.end + 1 < distance cumulative (get_or xs j d).tsn)) (sym items)
          (All-push (λ (b : GapAckBlock). b.end + 1 < distance cumulative (get_or xs j d).tsn) bs block
          (inv.behind j d (omega (arith, told.some)) lt small)
          (omega (
            arith,
            told.ends,
            run_apart cumulative xs place (place + min (length xs - place) (2 ^ 16 - offset)) last offset fits serial inv.ahead
                (omega arith) (λ cut. omega (arith, at)) told.rises j d (offset_here cumulative xs place offset at d) (omega (arith, told.some)) lt small,
          )));
      not_back = omega (arith, c.run_from-run.ensures.not_back, inv.not_back);
      cost = fewer (length xs) _ _ (omega (arith, c.run_from-run.ensures.cost, ap length items, length-append bs (block ∷ []))) inv.cost;
      exact = λ n. ap (λ ys. is_in_blocks ys n) items ∙ list_any-append (is_in_block n) bs (block ∷ [])
          ∙ ap (λ b. is_in_blocks bs n || b) (or-none (is_in_block n block))
          ∙ ap (λ e. is_in_blocks bs n || (nat_le offset n && nat_le n e)) told.ends
          ∙ covered_more cumulative xs place any_chunk offset bs n (last - place) reach (inv.exact n)
          ∙ ap (λ i. list_any (is_reported cumulative n) (take i xs)) next;
      limit = omega (arith, inv.limit, ap length items, length-append bs (block ∷ []), c.if-len-most.false, c.len.ensures);
      runs = ap (map ends_of) items ∙ map-append ends_of bs (block ∷ []) ∙ ap (λ e. map ends_of bs ++ (offset, e) ∷ []) told.ends
          ∙ runs_more cumulative xs place any_chunk offset bs (last - place) reach apart inv.runs ∙ ap (λ i. runs_of (gap_offsets cumulative (take i xs))) next;
    }

pub returns-clause-whole : goal.returns-clause-whole
returns-clause-whole c =
    let xs = c.self.inside.held.chunks in
    let inv = c.loop-tsns.invariant in
    let rest = out_at c.args.cumulative_tsn xs c.loop-tsns.place c.loop-tsns.offset inv.ahead inv.here (sym c.is_offset.ensures ∙ c.loop-tsns-test.false) in
    λ less. subst (λ cs. Reports c.args.cumulative_tsn cs c.loop-tsns.blocks.items) (ap (λ q. q.chunks) c.self.view_is) (record {
      ascend = inv.ascend;
      exact = λ n. inv.exact n ∙ rest_reported c.args.cumulative_tsn xs c.loop-tsns.place rest n;
    })

pub returns-clause-runs : goal.returns-clause-runs
returns-clause-runs c =
    let xs = c.self.inside.held.chunks in
    let inv = c.loop-tsns.invariant in
    let rest = out_at c.args.cumulative_tsn xs c.loop-tsns.place c.loop-tsns.offset inv.ahead inv.here (sym c.is_offset.ensures ∙ c.loop-tsns-test.false) in
    all_runs c.args.most c.loop-tsns.blocks.items _ inv.limit (inv.runs
    ∙ ap runs_of (rest_offsets c.args.cumulative_tsn xs c.loop-tsns.place rest ∙ ap (λ q. gap_offsets c.args.cumulative_tsn q.chunks) c.self.view_is))

pub returns-clause-cost : goal.returns-clause-cost
returns-clause-cost c = subst (λ cs. IsWithinDigits (length cs) (c.loop-tsns.turns - c.args.turns.now - 34 * length c.loop-tsns.blocks.items - 1))
    (ap (λ q. q.chunks) c.self.view_is) c.loop-tsns.invariant.cost

pub returns-clause-cost_of_runs : goal.returns-clause-cost_of_runs
returns-clause-cost_of_runs c =
    let xs = c.self.inside.held.chunks in
    let bs = c.loop-tsns.blocks.items in
    let cumulative = c.args.cumulative_tsn in
    let inv = c.loop-tsns.invariant in
    let most : length bs ≤ length (runs_of (gap_offsets cumulative xs)) = no_more cumulative xs c.loop-tsns.place bs inv.runs in
    subst (λ cs. IsWithinDigits (length cs) (c.loop-tsns.turns - c.args.turns.now - 34 * min c.args.most (length (runs_of (gap_offsets cumulative cs))) - 1))
    (ap (λ q. q.chunks) c.self.view_is)
    (fewer _ _ _ (omega (arith, most, inv.limit)) inv.cost)

pub returns-then-len-most-clause-runs : goal.returns-then-len-most-clause-runs
returns-then-len-most-clause-runs c =
    let xs = c.self.inside.held.chunks in
    let bs = c.loop-tsns.blocks.items in
    let cumulative = c.args.cumulative_tsn in
    let place = c.loop-tsns.place in
    let offset = c.loop-tsns.offset in
    let inv = c.loop-tsns.invariant in
    let reached = held_by_block offset (sym c.is_offset.ensures ∙ c.loop-tsns-test.true) in
    let at = at_offset cumulative xs c.ranges.cumulative_tsn.fits place offset inv.here reached.0 reached.1 in
    let here : distance cumulative (get_or xs place any_chunk).tsn ≡ offset = offset_here cumulative xs place offset at any_chunk in
    let apart : All (λ b. b.end + 1 < offset) bs = subst (λ o. All (λ (b : GapAckBlock). b.end + 1 < o) bs) here
    (inv.behind place any_chunk (omega arith) at.in_range (omega (arith, here, at))) in
    let all : length (map ends_of bs) ≡ c.args.most = omega (arith, length-map bs ends_of, c.if-len-most.true, c.len.ensures) in
    sym (first_of_all cumulative xs place offset bs at apart inv.runs) ∙ ap (λ n. take n (runs_of (gap_offsets cumulative xs))) all
    ∙ ap (λ q. take c.args.most (runs_of (gap_offsets cumulative q.chunks))) c.self.view_is

pub returns-then-len-most-clause-cost : goal.returns-then-len-most-clause-cost
returns-then-len-most-clause-cost c = subst (λ cs. IsWithinDigits (length cs) (c.loop-tsns.turns - c.args.turns.now - 34 * length c.loop-tsns.blocks.items - 1))
    (ap (λ q. q.chunks) c.self.view_is) c.loop-tsns.invariant.cost

pub returns-then-len-most-clause-cost_of_runs : goal.returns-then-len-most-clause-cost_of_runs
returns-then-len-most-clause-cost_of_runs c =
    let xs = c.self.inside.held.chunks in
    let bs = c.loop-tsns.blocks.items in
    let cumulative = c.args.cumulative_tsn in
    let inv = c.loop-tsns.invariant in
    let most : length bs ≤ length (runs_of (gap_offsets cumulative xs)) = no_more cumulative xs c.loop-tsns.place bs inv.runs in
    subst (λ cs. IsWithinDigits (length cs) (c.loop-tsns.turns - c.args.turns.now - 34 * min c.args.most (length (runs_of (gap_offsets cumulative cs))) - 1))
    (ap (λ q. q.chunks) c.self.view_is)
    (fewer _ _ _ (omega (arith, most, inv.limit)) inv.cost)

pub returns-in_err-blocks-clause-cost_of_runs : goal.returns-in_err-blocks-clause-cost_of_runs
returns-in_err-blocks-clause-cost_of_runs c =
    let xs = c.self.inside.held.chunks in
    let bs = c.loop-tsns.blocks.items in
    let cumulative = c.args.cumulative_tsn in
    let place = c.loop-tsns.place in
    let offset = c.loop-tsns.offset in
    let inv = c.loop-tsns.invariant in
    let reached = held_by_block offset (sym c.is_offset.ensures ∙ c.loop-tsns-test.true) in
    let at = at_offset cumulative xs c.ranges.cumulative_tsn.fits place offset inv.here reached.0 reached.1 in
    let here : distance cumulative (get_or xs place any_chunk).tsn ≡ offset = offset_here cumulative xs place offset at any_chunk in
    let apart : All (λ b. b.end + 1 < offset) bs = subst (λ o. All (λ (b : GapAckBlock). b.end + 1 < o) bs) here
    (inv.behind place any_chunk (omega arith) at.in_range (omega (arith, here, at))) in
    let most : length bs + 1 ≤ length (runs_of (gap_offsets cumulative xs)) = one_more cumulative xs place offset bs at apart inv.runs in
    subst (λ cs. IsWithinDigits (length cs) (c.run_from-run.new.turns - c.args.turns.now - 34 * min c.args.most (length (runs_of (gap_offsets cumulative cs)))
    - 1)) (ap (λ q. q.chunks) c.self.view_is)
    (fewer _ _ _ (omega (arith, most, inv.limit, c.if-len-most.false, c.len.ensures, c.run_from-run.ensures.cost)) inv.cost)
