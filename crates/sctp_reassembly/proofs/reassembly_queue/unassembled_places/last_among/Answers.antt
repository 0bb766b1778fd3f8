use Rattle.std.proofs.Common.{◌≡◌, ℕ, suc, ◌-◌, false, List, drop, subst, arith}
use Rattle.std.specs.List.{list_any}
use Rattle.std.proofs.lemmas.Bool.Decides.{nat_tests}
use Rattle.sctp_data.specs.declared.chunk.chunk_payload_data.ChunkPayloadData.{ChunkPayloadData}
use Rattle.sctp_serial.specs.DataChunks.{has_tsn}
use Rattle.sctp_reassembly.proofs.lemmas.reassembly_queue.LastFragments.{back_at, on_at, back_none, on_none}
use Rattle.sctp_reassembly.proofs.reassembly_queue.unassembled_places.last_among.Goals as goal

pub returns-then-look-tsn-clause-back : goal.returns-then-look-tsn-clause-back
returns-then-look-tsn-clause-back c =
    let xs = c.args.unassembled.now.chunks in
    let end = c.loop-end.end in
    back_at c.args.tsn xs (end - 1) c.look.result.now (omega arith) (grind (arith, nat_tests))
    (subst (λ i. list_any (has_tsn c.args.tsn) (drop i xs) ≡ false) {y = suc (end - 1)} (omega arith) c.loop-end.invariant.absent)

pub returns-then-look-tsn-clause-on : goal.returns-then-look-tsn-clause-on
returns-then-look-tsn-clause-on c =
    let xs = c.args.unassembled.now.chunks in
    let end = c.loop-end.end in
    on_at c.args.tsn xs (end - 1) c.look.result.now (omega arith) (grind (arith, nat_tests))
    (subst (λ i. list_any (has_tsn c.args.tsn) (drop i xs) ≡ false) {y = suc (end - 1)} (omega arith) c.loop-end.invariant.absent)

-- nothing is left to look at
none : (xs : List ChunkPayloadData) (t end : ℕ) → end ≡ 0 → list_any (has_tsn t) (drop end xs) ≡ false → list_any (has_tsn t) xs ≡ false
none xs t end e h = subst (λ i. list_any (has_tsn t) (drop i xs) ≡ false) e h

pub returns-clause-none_back : goal.returns-clause-none_back
returns-clause-none_back c =
    back_none c.args.tsn c.args.unassembled.now.chunks (none c.args.unassembled.now.chunks c.args.tsn c.loop-end.end (omega arith) c.loop-end.invariant.absent)

pub returns-clause-none_on : goal.returns-clause-none_on
returns-clause-none_on c =
    on_none c.args.tsn c.args.unassembled.now.chunks (none c.args.unassembled.now.chunks c.args.tsn c.loop-end.end (omega arith) c.loop-end.invariant.absent)
