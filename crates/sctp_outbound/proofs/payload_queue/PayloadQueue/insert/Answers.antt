use Rattle.std.proofs.Common.{◌-◌, length, sym, ap, subst, arith}
use Rattle.std.proofs.lemmas.List.Sums.{sum_by-insert}
use Rattle.sctp_serial.specs.DataChunks.{bytes_of}
use Rattle.sctp_serial.specs.Window.{SpansOneWindow, IsPlaceFor}
use Rattle.sctp_outbound.specs.payload_queue.PayloadQueue.{Payload}
use Rattle.sctp_serial.proofs.lemmas.Serials.{serial_insert, inserted-place}
use Rattle.sctp_outbound.proofs.payload_queue.PayloadQueue.insert.Goals as goal

pub insert-requires-clause-bytes : goal.insert-requires-clause-bytes
insert-requires-clause-bytes c = omega (arith, c.requires.bytes, ap (λ (q : Payload). bytes_of q.chunks) c.self.view_is)

pub invariant_of-self-2 : goal.invariant_of-self-2
invariant_of-self-2 c =
    let window = subst (λ q. SpansOneWindow q.chunks c.args.chunk.tsn) (sym c.self.view_is) c.requires.window in
    let place = subst (λ q. IsPlaceFor q.chunks c.args.chunk.tsn c.args.place) (sym c.self.view_is) c.requires.place in
    let sums = sum_by-insert (λ x. length x.user_data) c.self.inside.held.chunks c.args.place c.args.chunk in
    rw c.in_ok-insert.ensures.ok record {
      serial = serial_insert _ _ c.args.chunk c.requires.fits place window c.self.invariant.serial;
      counted = omega (arith, c.self.invariant.counted, c.len-len.ensures.value);
    }

pub returns-clause-ok : goal.returns-clause-ok
returns-clause-ok c =
    let window = subst (λ q. SpansOneWindow q.chunks c.args.chunk.tsn) (sym c.self.view_is) c.requires.window in
    let place = subst (λ q. IsPlaceFor q.chunks c.args.chunk.tsn c.args.place) (sym c.self.view_is) c.requires.place in
    let same = inserted-place c.self.inside.held.chunks c.args.chunk c.args.place c.requires.fits c.self.invariant.serial place window in
    rw (← c.self.view_is, c.in_ok-insert.ensures.ok)
    (ap (λ xs. let q : Payload = record { chunks = xs; duplicates = c.self.inside.dup_tsn.items; room = c.self.inside.held.room - 1 } in q) (sym same))
