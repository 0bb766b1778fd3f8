use Rattle.sctp_link.proofs.Names.{◌≡◌, List, map, length, rules, refl, ap, None, Some, ◌∙◌, is_some, with_items, vec_len, with_items_is, numbers_from}
use Rattle.sctp_link.proofs.Names.{next_pending, after_start, chunks_taken, Slot, Datagram, slot_record, datagram_record, record_in, next-is}
use Rattle.sctp_link.proofs.Names.{idle-right, looks-short, front, true, on-err}
use Rattle.sctp_chunks.specs.declared.chunk.chunk_kind.ChunkKind.TheVariants as C
use Rattle.sctp_link.proofs.sender.SentLists.{encodings-each, canonical-each}
use Rattle.sctp_link.proofs.sender.Gone.{aligned, can, linked, right}
use Rattle.sctp_link.proofs.link.Link.send.Given.{Over}
use Rattle.sctp_link.proofs.link.Link.send.Goals.{After-len-count, In-Some}
use Rattle.sctp_link.proofs.link.Link.send.Goals as goal
use Rattle.sctp_link.proofs.upkeep.Facts.{sends}

pub returns-in_default-clause-ok : goal.returns-in_default-clause-ok
returns-in_default-clause-ok g c =
    let none : next_pending c.self.inside.sender.flight.queue.pending ≡ None = search rules in
    let moves : c.start.new.self.recorded ≡ after_start (record_in c.self.inside) c.args.now = rw (← c.self.view_is) at c.start.ensures.right.moves in
    rw (← c.self.view_is) (idle-right (sends c.self.invariant.1) c.args.now c.start.new.self.recorded none moves)

pub next_chunks-requires-clause-short : goal.next_chunks-requires-clause-short
next_chunks-requires-clause-short g c = rw c.outbound-2.ensures (looks-short (sends c.self.invariant.1))

-- The chunks that leave.
chosen : (g : Over) (c : After-len-count g) → c.in_ok-chunks.chunks.items
    ≡ map C.PayloadData (chunks_taken c.self.inside.limit c.self.inside.sender.flight.next_tsn c.self.inside.sender.flight.queue.pending)
chosen g c = cc (c.in_ok-chunks.ensures.chunks, c.next_tsn-tsn.ensures, c.outbound-2.ensures)

pub write_chunks-requires-clause-encoding : goal.write_chunks-requires-clause-encoding
write_chunks-requires-clause-encoding g c =
    let e : next_pending c.self.inside.sender.flight.queue.pending ≡ Some c.in-Some.first.now = search rules in
    let chunks = chosen g (goal.at.write_chunks-requires-clause-encoding g c).After-len-count in
    encodings-each c.self.invariant.1 c.args.now c.in-Some.first.now e c.in_ok-chunks.chunks.items chunks

pub write_chunks-requires-clause-canonical : goal.write_chunks-requires-clause-canonical
write_chunks-requires-clause-canonical g c =
    let e : next_pending c.self.inside.sender.flight.queue.pending ≡ Some c.in-Some.first.now = search rules in
    let chunks = chosen g (goal.at.write_chunks-requires-clause-canonical g c).After-len-count in
    canonical-each c.self.invariant.1 c.args.now c.in-Some.first.now e c.in_ok-chunks.chunks.items chunks

pub send_fragments-requires-clause-able : goal.send_fragments-requires-clause-able
send_fragments-requires-clause-able g c =
    let e : next_pending c.self.inside.sender.flight.queue.pending ≡ Some c.in-Some.first.now = search rules in
    let chunks = chosen g (goal.at.send_fragments-requires-clause-able g c).After-len-count in
    let len : c.len-count.result ≡ length c.in_ok-chunks.chunks.items = search rules in
    can c.self.inside c.self.invariant.0 c.self.invariant.1 c.args.now c.in-Some.first.now e c.in_ok-chunks.chunks.items chunks c.len-count.result len
    c.reserve-3.new.self
    c.len-count.result c.in-Ok.ensures.ok c.deref_mut.result.now c.deref_mut.ensures.value c.reserve.new.self.items c.reserve.ensures.items

pub invariant_of-self-2 : goal.invariant_of-self-2
invariant_of-self-2 g c =
    let e : next_pending c.self.inside.sender.flight.queue.pending ≡ Some c.in-Some.first.now = search rules in
    let chunks = chosen g (goal.at.invariant_of-self-2 g c).After-len-count in
    let len : c.len-count.result ≡ length c.in_ok-chunks.chunks.items = search rules in
    let kept : length c.send_fragments.new.messages ≡ vec_len c.self.inside.messages = search rules in
    let places : c.in_ok-places.places.items ≡ numbers_from (length c.self.inside.slots.items) c.len-count.result = search rules in (
      aligned c.self.inside c.self.invariant.0 c.self.invariant.1 c.args.now c.in-Some.first.now e c.in_ok-chunks.chunks.items chunks c.len-count.result len
          c.reserve-3.new.self c.len-count.result c.in-Ok.ensures.ok c.deref_mut.result.now c.deref_mut.ensures.value c.reserve.new.self.items
          c.reserve.ensures.items c.send_fragments.new.sender c.send_fragments.new.progress c.send_fragments.new.messages c.send_fragments.new.slots.items
          c.send_fragments.ensures.leave c.send_fragments.ensures.rest,
      linked c.self.inside c.self.invariant.0 c.self.invariant.1 c.args.now c.in-Some.first.now e c.in_ok-chunks.chunks.items chunks c.len-count.result len
          c.reserve-3.new.self c.len-count.result c.in-Ok.ensures.ok c.deref_mut.result.now c.deref_mut.ensures.value c.reserve.new.self.items
          c.reserve.ensures.items c.send_fragments.new.sender c.send_fragments.new.progress c.send_fragments.new.messages c.send_fragments.new.slots.items
          c.send_fragments.ensures.leave c.send_fragments.ensures.rest (with_items c.self.inside.messages c.send_fragments.new.messages)
          (with_items_is c.self.inside.messages c.send_fragments.new.messages kept) c.send_fragments.new.slots refl c.push_reserved.new.self
          c.in_ok-places.places
          c.in_ok-bytes.bytes places (search rules) c.len-self-inside.result c.in_ok-bytes.ensures.encoding c.in_ok-bytes.ensures.reads (search rules),
    )

pub returns-clause-ok : goal.returns-clause-ok
returns-clause-ok g c =
    let e : next_pending c.self.inside.sender.flight.queue.pending ≡ Some c.in-Some.first.now = search rules in
    let chunks = chosen g (goal.at.returns-clause-ok g c).After-len-count in
    let len : c.len-count.result ≡ length c.in_ok-chunks.chunks.items = search rules in
    let kept : length c.send_fragments.new.messages ≡ vec_len c.self.inside.messages = search rules in
    let places : c.in_ok-places.places.items ≡ numbers_from (length c.self.inside.slots.items) c.len-count.result = search rules in
    rw (← c.self.view_is)
    (right c.self.inside c.self.invariant.0 c.self.invariant.1 c.args.now c.in-Some.first.now e c.in_ok-chunks.chunks.items chunks c.len-count.result
    len c.reserve-3.new.self c.len-count.result c.in-Ok.ensures.ok c.deref_mut.result.now c.deref_mut.ensures.value c.reserve.new.self.items
    c.reserve.ensures.items c.send_fragments.new.sender c.send_fragments.new.progress c.send_fragments.new.messages c.send_fragments.new.slots.items
    c.send_fragments.ensures.leave c.send_fragments.ensures.rest (with_items c.self.inside.messages c.send_fragments.new.messages)
    (with_items_is c.self.inside.messages c.send_fragments.new.messages kept) c.send_fragments.new.slots refl c.push_reserved.new.self c.in_ok-places.places
    c.in_ok-bytes.bytes places (search rules) c.len-self-inside.result c.len-datagram.result c.next_tsn-tsn.result (search rules) c.next_tsn-tsn.ensures)

-- A fragment is to be sent.
due : (g : Over) (c : In-Some g) → is_some (front (record_in c.self.inside)) ≡ true
due g c =
    let e : next_pending c.self.inside.sender.flight.queue.pending ≡ Some c.in-Some.first.now = search rules in
    ap is_some (next-is (sends c.self.invariant.1) c.in-Some.first.now e).front

pub returns-in_err-chunks-clause-wants : goal.returns-in_err-chunks-clause-wants
returns-in_err-chunks-clause-wants g c =
    rw (← c.self.view_is) (on-err c.from_residual.result _ (due g (goal.at.returns-in_err-chunks-clause-wants g c).In-Some))

pub returns-in_err-bytes-clause-wants : goal.returns-in_err-bytes-clause-wants
returns-in_err-bytes-clause-wants g c =
    rw (← c.self.view_is) (on-err c.from_residual-in_err-bytes.result _ (due g (goal.at.returns-in_err-bytes-clause-wants g c).In-Some))

pub returns-in_err-places-clause-wants : goal.returns-in_err-places-clause-wants
returns-in_err-places-clause-wants g c =
    rw (← c.self.view_is) (on-err c.from_residual-in_err-places.result _ (due g (goal.at.returns-in_err-places-clause-wants g c).In-Some))

pub returns-in_err-reserve-clause-wants : goal.returns-in_err-reserve-clause-wants
returns-in_err-reserve-clause-wants g c =
    rw (← c.self.view_is) (on-err c.from_residual-in_err-reserve.result _ (due g (goal.at.returns-in_err-reserve-clause-wants g c).In-Some))

pub returns-in_err-reserve-2-clause-wants : goal.returns-in_err-reserve-2-clause-wants
returns-in_err-reserve-2-clause-wants g c =
    rw (← c.self.view_is) (on-err c.from_residual-in_err-reserve-2.result _ (due g (goal.at.returns-in_err-reserve-2-clause-wants g c).In-Some))

pub returns-in-Err-clause-wants : goal.returns-in-Err-clause-wants
returns-in-Err-clause-wants g c = rw (← c.self.view_is) (due g (goal.at.returns-in-Err-clause-wants g c).In-Some)

pub returns-in_err-reserve-clause-err : goal.returns-in_err-reserve-clause-err
returns-in_err-reserve-clause-err g c =
    rw (← c.self.view_is) (on-err c.from_residual-in_err-reserve.result _
    (ap (λ (ss : List Slot). record (record_in c.self.inside) { slots = map slot_record ss }) c.reserve.ensures.items))

pub returns-in_err-reserve-2-clause-err : goal.returns-in_err-reserve-2-clause-err
returns-in_err-reserve-2-clause-err g c =
    rw (← c.self.view_is) (on-err c.from_residual-in_err-reserve-2.result _
    (ap (λ (ss : List Slot). record (record_in c.self.inside) { slots = map slot_record ss; network = map datagram_record c.reserve-2.new.self.items })
    c.reserve.ensures.items ∙ ap (λ (ns : List Datagram). record (record_in c.self.inside) { network = map datagram_record ns }) c.reserve-2.ensures.items))
