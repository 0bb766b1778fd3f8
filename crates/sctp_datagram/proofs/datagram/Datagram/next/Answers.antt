use Rattle.std.proofs.Common.{◌≡◌, ◌<◌, ℕ, List, ap, refl, subst, arith}
use Rattle.std.proofs.lemmas.List.{length-drop}
use Rattle.sctp_datagram.specs.Datagram.{Walked}
use Rattle.sctp_datagram.specs.Places.{IsPlace}
use Rattle.sctp_datagram.proofs.Walk.{first-there}
use Rattle.sctp_datagram.proofs.datagram.Datagram.next.Goals as goal

pub overflow_add-self : goal.overflow_add-self
overflow_add-self c =
    let some : 0 < c.self.inside.left = omega (arith, c.if-self-eq0.false) in
    let first = first-there c.self.inside.raw.now c.self.inside.at c.self.inside.left some c.self.invariant.1 in
    rw (c.get_padding_size.ensures, c.place_at-place.ensures) (omega (arith, first.whole, length-drop c.self.inside.at c.self.inside.raw.now))

pub overflow_add-self-2 : goal.overflow_add-self-2
overflow_add-self-2 c =
    let some : 0 < c.self.inside.left = omega (arith, c.if-self-eq0.false) in
    let first = first-there c.self.inside.raw.now c.self.inside.at c.self.inside.left some c.self.invariant.1 in
    rw (c.get_padding_size.ensures, c.place_at-place.ensures)
    (omega (arith, first.is_framed.headed, first.whole, length-drop c.self.inside.at c.self.inside.raw.now))

pub returns-clause-there : goal.returns-clause-there
returns-clause-there c =
    let some : 0 < c.self.inside.left = omega (arith, c.if-self-eq0.false) in
    let first = first-there c.self.inside.raw.now c.self.inside.at c.self.inside.left some c.self.invariant.1 in
    let bytes : c.self.inside.raw.now ≡ c.args.self.now.bytes = ap (λ (w : Walked). w.bytes) c.self.view_is in
    subst (λ (b : List ℕ). IsPlace b c.place_at-place.result) bytes (rw c.place_at-place.ensures (record { told = refl; there = first }))
