use Rattle.std.proofs.Common.{length-drop, sym, ap, subst, arith}
use Rattle.sctp_serial.specs.DataChunks.{bytes_of}
use Rattle.sctp_serial.specs.Runs.{HasNoRun}
use Rattle.sctp_serial.specs.Window.{IsSerial}
use Rattle.sctp_reassembly.proofs.lemmas.reassembly_queue.UnassembledRuns.{none_after_drop, no_run_on, searched_on}
use Rattle.sctp_reassembly.proofs.lemmas.reassembly_queue.Unassembled.{same_list, same_long}
use Rattle.sctp_reassembly.proofs.reassembly_queue.pool.Pool.drop_front.Goals as goal

pub is_searched-self-inside-requires : goal.is_searched-self-inside-requires
is_searched-self-inside-requires c on =
    let xs = c.self.inside.unassembled.chunks in
    subst HasNoRun (sym (same_list c.drop_front_counted.ensures.value))
    (none_after_drop xs c.args.count (omega (arith, same_long c.self.view_is, c.requires)) (no_run_on _ xs on c.self.invariant))

pub returns-clause-few : goal.returns-clause-few
returns-clause-few c serial none small =
    let xs = c.self.inside.unassembled.chunks in
    let same = same_list c.self.view_is in
    let order = subst IsSerial (sym same) serial in
    let on = searched_on c.self.inside.searched xs c.self.invariant order (subst HasNoRun (sym same) none) in
    let dropped = c.drop_front_counted.ensures.few order (omega (arith, ap bytes_of same, small)) in
    omega (arith, dropped, c.is_searched-self-inside.ensures.none on)

pub returns-clause-walk : goal.returns-clause-walk
returns-clause-walk c =
    let xs = c.self.inside.unassembled.chunks in
    let left = same_long c.drop_front_counted.ensures.value in
    omega (
      arith,
      same_long c.self.view_is,
      left,
      length-drop c.args.count xs,
      c.drop_front_counted.ensures.walk,
      c.is_searched-self-inside.ensures.walk,
    )
