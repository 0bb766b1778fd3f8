use Rattle.std.proofs.Common.{◌≡◌, ◌<◌, ◌∷◌, List, length, drop, map, add-one, ap, sym, ◌∙◌, arith}
use Rattle.std.proofs.lemmas.List.{length-drop}
use Rattle.sctp_datagram.specs.declared.datagram.ChunkPlace.{ChunkPlace}
use Rattle.sctp_c.specs.AnyChunks.{any_row}
use Rattle.sctp_c.proofs.Rows.{drop-tail, filled-step, map-next}
use Rattle.sctp_c.proofs.packet.any.fill.Goals as goal
use Rattle.sctp_c.proofs.packet.any.fill.Goals.{in-Some, in_default}

pub loop-i-preserved : goal.loop-i-preserved
loop-i-preserved c =
    let all = c.args.datagram.now.left in
    let rest = c.next.new.self.left in
    elim c.match-next.branch [
      | in-Some w ↦
          let place = w.in-Some.place in
          let next : drop c.loop-i.i all ≡ place ∷ rest = sym c.loop-i.invariant.left ∙ w.in-Some.ensures.place in
          let room : c.loop-i.i < length c.args.rows.now = omega (arith, c.min-filled.ensures, c.loop-i-test.true) in
          let more = map-next any_row c.loop-i.i all place rest next in
          let step = filled-step c.loop-i.i (map any_row all) c.args.rows.now (any_row place) (map any_row rest) more room in
          rw add-one (record {
            left = sym (drop-tail c.loop-i.i all place rest next);
            rows = w.rows-is ∙ rw (w.row_of.ensures, c.loop-i.invariant.rows) step;
          })
      | in_default w ↦
          let none : length (drop c.loop-i.i all) ≡ 0 = ap (λ (l : List ChunkPlace). length l) (sym c.loop-i.invariant.left ∙ w.in_default.ensures.end) in
          absurd (omega (arith, none, length-drop c.loop-i.i all, c.min-filled.ensures, c.left.ensures, c.loop-i-test.true))
    ]
