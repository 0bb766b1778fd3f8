use Rattle.std.proofs.Common.{◌≤◌, ◌^◌, ◌<◌, IsTrue, length, get_or, sym, subst, arith}
use Rattle.std.specs.List.{insert}
use Rattle.sctp_util.specs.Serial.{comes_before}
use Rattle.sctp_reassembly.specs.reassembly_queue.Loose.{IsOrderFlag}
use Rattle.sctp_serial.specs.Window.{IsSerial}
use Rattle.sctp_reassembly.proofs.lemmas.reassembly_queue.SerialPlaces.{flag_is_on, flag_is_off, flag_of, serial_without, was_behind, was_ahead}
use Rattle.sctp_reassembly.proofs.lemmas.reassembly_queue.SerialPlaces.{serial_insert_at}
use Rattle.sctp_reassembly.proofs.lemmas.reassembly_queue.Unassembled.{same_list, same_long}
use Rattle.sctp_reassembly.proofs.reassembly_queue.unassembled.Loose.stays_serial.Goals as goal

pub returns-then-not-self-clause-flag : goal.returns-then-not-self-clause-flag
returns-then-not-self-clause-flag c x e s =
    let xs = c.self.inside.chunks.items in
    let le : c.args.place ≤ length xs = omega (arith, same_long c.self.view_is, c.requires) in
    flag_is_off _ xs c.if-not-self.true c.self.invariant.order
    (serial_without xs c.args.place x le (subst (λ ys. IsSerial (insert ys c.args.place x)) (sym (same_list c.self.view_is)) s))

pub returns-then-not-is_behind-clause-flag : goal.returns-then-not-is_behind-clause-flag
returns-then-not-is_behind-clause-flag c x e s =
    let xs = c.self.inside.chunks.items in
    let le : c.args.place ≤ length xs = omega (arith, same_long c.self.view_is, c.requires) in
    let there = subst (λ ys. IsSerial (insert ys c.args.place x)) (sym (same_list c.self.view_is)) s in
    c.is_behind.ensures.no c.if-not-is_behind.true
    (λ k d lt. subst (λ t. IsTrue (comes_before (get_or xs k d).tsn t)) e (was_behind xs c.args.place x le there k d lt))

pub returns-clause-flag : goal.returns-clause-flag
returns-clause-flag c x e =
    let xs = c.self.inside.chunks.items in
    let le : c.args.place ≤ length xs = omega (arith, same_long c.self.view_is, c.requires) in
    let serial = flag_is_on _ xs c.if-not-self.false c.self.invariant.order in
    subst (λ ys. IsOrderFlag c.is_ahead.result (insert ys c.args.place x)) (same_list c.self.view_is) (flag_of c.is_ahead.result (insert xs c.args.place x)
    (λ on. serial_insert_at xs c.args.place x le (subst (λ t. t < 2 ^ 32) (sym e) c.ranges.tsn.fits) serial
    (λ k d lt. subst (λ t. IsTrue (comes_before (get_or xs k d).tsn t)) (sym e) (c.is_behind.ensures.yes c.if-not-is_behind.false serial k d lt))
    (λ k d ge lt. subst (λ t. IsTrue (comes_before t (get_or xs k d).tsn)) (sym e) (c.is_ahead.ensures.yes on serial k d ge lt)))
    (λ off there.
    c.is_ahead.ensures.no off (λ k d ge lt. subst (λ t. IsTrue (comes_before t (get_or xs k d).tsn)) e (was_ahead xs c.args.place x le there k d ge lt))))
