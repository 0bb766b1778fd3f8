use Rattle.sctp_link.proofs.Names.{◌≡◌, ap, sym, ◌∙◌, true, false, refl, subst, arith, map, length, is_some, option_map, slice_index_or, slice_set, ChunkSet}
use Rattle.sctp_link.proofs.Names.{chunk_at, at_start, with_read, IsLinked, Sides, IsAligned, sides, on_stream, read_recorded, record_in, record_from}
use Rattle.sctp_link.proofs.Names.{state_from, sides_in, message_record, progress_of, on_inbound, Some, stream_read, message_read, ppi-handed}
use Rattle.sctp_model.specs.Reply as R
use Rattle.sctp_link.specs.Progress.{has_number}
use Rattle.sctp_link.proofs.sides.Aligned.{open-is, read-message, read-aligned, read-sides, with-progress, standing-changed}
use Rattle.sctp_link.proofs.sides.Changes.{read-recorded}
use Rattle.sctp_link.proofs.receiver.Hears.{messages-made}
use Rattle.sctp_link.proofs.receiver.HandsOut.{IsPlaced, IsHanded, placed-at, none-handed, some-handed, handed, marked, slot-handed, handed-made}
use Rattle.sctp_link.proofs.receiver.HandsOut.{number-handed, message-handed, recorded-nothing, linked-nothing, reply-nothing, read-is, hands-begins, low}
use Rattle.sctp_link.proofs.receiver.HandsOut.{reply-read, recorded-recorded, linked-recorded}
use Rattle.sctp_link.proofs.link.Link.read.Given.{Over}
use Rattle.sctp_link.proofs.link.Link.read.Goals.{In-Some, After-read, After-index_mut-message, After-record_read}
use Rattle.sctp_link.proofs.link.Link.read.Goals as goal

-- The stream stands at a place of the open ones.
at : (g : Over) (c : After-read g) → IsPlaced c.args.stream (sides_in c.self.inside).streams
at g c = placed-at c.self.inside c.self.invariant.1 c.args.stream (rw (← c.self.view_is) at c.requires)

-- Its queue holds what is handed out.
out : (g : Over) (c : In-Some g) (p : IsPlaced c.args.stream (sides_in c.self.inside).streams)
    → message_read (slice_index_or (sides_in c.self.inside).streams p.at p.d).inbound.queue.held ≡ Some c.in-Some.chunks.set
out g c p = some-handed c.self.inside c.self.invariant.1 c.args.stream p c.in-Some.chunks
    (sym c.in-Some.is ∙ c.in-Ok.ensures.message ∙ ap (option_map at_start) (read-message c.self.invariant.0 c.args.stream p.d p.is))

-- The message of what is handed out.
note : (g : Over) (c : After-index_mut-message g) (p : IsPlaced c.args.stream (sides_in c.self.inside).streams)
    (e : message_read (slice_index_or (sides_in c.self.inside).streams p.at p.d).inbound.queue.held ≡ Some c.in-Some.chunks.set)
    → IsHanded c.self.inside (handed c.self.inside c.self.invariant.1 c.args.stream p c.in-Some.chunks e) c.index.result.now c.index_mut-message.result.now
note g c p e =
    message-handed c.self.inside c.self.invariant.1 c.args.stream p c.in-Some.chunks e c.first_tsn.result c.first_tsn.ensures c.index.result.now c.index.ensures
    c.index_mut-message.result.now c.index_mut-message.ensures.value

-- The sides, once the read is counted.
counted : (g : Over) (c : After-record_read g) → sides c.self.inside.sender c.read.new.self c.record_read.new.self
    ≡ on_stream c.args.stream (read_recorded c.index_mut-message.result.now.ordered c.index_mut-message.result.now.index)
    (on_stream c.args.stream (on_inbound stream_read) (sides_in c.self.inside))
counted g c =
    let m = c.index_mut-message.result.now in
    ap (sides c.self.inside.sender c.read.new.self) c.record_read.ensures
    ∙ read-recorded (read-aligned c.self.invariant.0 c.args.stream c.read.new.self c.in-Ok.ensures.ok) c.args.stream m.ordered m.index
    ∙ ap (on_stream c.args.stream (read_recorded m.ordered m.index)) (read-sides c.self.invariant.0 c.args.stream c.read.new.self c.in-Ok.ensures.ok)

pub unreachable-requires : goal.unreachable-requires
unreachable-requires g c =
    let p = at g (goal.at.unreachable-requires g c).After-read in
    let both : true ≡ false = sym (ap is_some p.is) ∙ open-is c.self.invariant.0 c.args.stream ∙ c.in_default.ensures.refused.1 in
    cc

pub invariant_of-self : goal.invariant_of-self
invariant_of-self g c =
    let s = c.args.stream in
    let l = c.self.invariant.1 in
    let p = at g (goal.at.invariant_of-self g c).After-read in
    let e = none-handed c.self.inside l s p
    (sym c.in_default-message.is ∙ c.in-Ok.ensures.message ∙ ap (option_map at_start) (read-message c.self.invariant.0 s p.d p.is)) in (
      read-aligned c.self.invariant.0 s c.read.new.self c.in-Ok.ensures.ok,
      subst (λ (y : Sides). IsLinked (g.C.Checksum.sum c.self.inside.checksum) (state_from y c.self.inside))
          (sym (read-sides c.self.invariant.0 s c.read.new.self c.in-Ok.ensures.ok)) (linked-nothing l s p.at p.d refl p.lt p.found e),
    )

pub returns-in_default-message-clause-right : goal.returns-in_default-message-clause-right
returns-in_default-message-clause-right g c =
    let s = c.args.stream in
    let l = c.self.invariant.1 in
    let p = at g (goal.at.returns-in_default-message-clause-right g c).After-read in
    let e = none-handed c.self.inside l s p (sym c.in_default-message.is ∙ c.in-Ok.ensures.message
    ∙ ap (option_map at_start) (read-message c.self.invariant.0 s p.d p.is)) in
    rw (← c.self.view_is) (record {
      right = reply-nothing l s p.at p.d refl p.lt p.found e;
      moves = ap (λ (y : Sides). record_from y c.self.inside) (read-sides c.self.invariant.0 s c.read.new.self c.in-Ok.ensures.ok)
          ∙ recorded-nothing l s p.at p.d refl p.lt p.found e;
    })

pub first_tsn-requires : goal.first_tsn-requires
first_tsn-requires g c =
    let q = goal.at.first_tsn-requires g c in
    let p = at g q.After-read in
    omega (arith, ap length (hands-begins c.self.invariant.1 c.args.stream p.at p.d refl p.lt p.found c.in-Some.chunks.set (out g q.In-Some p)).is)

pub index-requires : goal.index-requires
index-requires g c =
    let q = goal.at.index-requires g c in
    let p = at g q.After-read in
    let d = chunk_at (record_in c.self.inside) 0 in
    let tsn : c.first_tsn.result ≡ (slice_index_or c.in-Some.chunks.set.chunks 0 d).tsn = c.first_tsn.ensures d in
    rw tsn (omega (arith, slot-handed c.self.inside c.self.invariant.1 c.args.stream p c.in-Some.chunks (out g q.In-Some p) d))

pub index_mut-message-requires : goal.index_mut-message-requires
index_mut-message-requires g c =
    let q = goal.at.index_mut-message-requires g c in
    let p = at g q.After-read in
    let e = out g q.In-Some p in
    let number =
    number-handed c.self.inside c.self.invariant.1 c.args.stream p c.in-Some.chunks e c.first_tsn.result c.first_tsn.ensures c.index.result.now
    c.index.ensures in
    omega (arith, number, handed-made c.self.inside c.self.invariant.1 c.args.stream p c.in-Some.chunks e)

pub record_read-requires : goal.record_read-requires
record_read-requires g c =
    let q = goal.at.record_read-requires g c in
    let l = c.self.invariant.1 in
    let p = at g q.After-read in
    let e = out g q.In-Some p in
    let h = note g q.After-index_mut-message p e in
    omega (
      arith,
      h.index,
      low l c.args.stream p.at p.d refl p.lt p.found c.in-Some.chunks.set e,
      messages-made l c.self.inside.slots.items c.self.inside.messages.items refl refl,
    )

pub invariant_of-self-2 : goal.invariant_of-self-2
invariant_of-self-2 g c =
    let q = goal.at.invariant_of-self-2 g c in
    let a = c.self.inside in
    let s = c.args.stream in
    let p = at g q.After-read in
    let e = out g q.In-Some p in
    let m = c.index_mut-message.result.now in
    let h = note g q.After-index_mut-message p e in
    let messages = slice_set a.messages.items c.index.result.now.message (marked m) in (
      subst (λ ps. IsAligned a.sender c.read.new.self ps) (sym c.record_read.ensures)
          (with-progress (read-aligned c.self.invariant.0 s c.read.new.self c.in-Ok.ensures.ok) _
          (standing-changed (with_read m.ordered m.index) (λ z. refl) (has_number s) a.progress)),
      subst (λ (y : Sides). IsLinked (g.C.Checksum.sum a.checksum)
          (record (state_from y a) { recorded = record (record_from y a) { messages = map message_record messages }; progress = map progress_of messages }))
          (sym (counted g q.After-record_read)) (linked-recorded c.self.invariant.1 s p.at p.d refl p.lt p.found c.in-Some.chunks.set e m
          (map message_record messages) h.message h.reads h.index (map progress_of messages) h.progress),
    )

pub returns-clause-right : goal.returns-clause-right
returns-clause-right g c =
    let q = goal.at.returns-clause-right g c in
    let a = c.self.inside in
    let l = c.self.invariant.1 in
    let s = c.args.stream in
    let p = at g q.After-read in
    let r = c.in-Some.chunks in
    let e = out g q.In-Some p in
    let m = c.index_mut-message.result.now in
    let h = note g q.After-index_mut-message p e in
    let messages = slice_set a.messages.items c.index.result.now.message (marked m) in
    let kind : c.ppi-ppi.result ≡ m.ppi = c.ppi-ppi.ensures ∙ ap (λ (t : ChunkSet). t.ppi) (read-is l s p.at p.d refl p.lt p.found r.set e).2
    ∙ ppi-handed (record_in a) (handed c.self.inside l s p r e) ∙ ap (λ t. t.ppi) h.message in
    rw (← c.self.view_is) (record {
      right = ap (λ k. R.Message s k r.set) (kind ∙ sym (ap (λ t. t.ppi) h.message)) ∙ reply-read l s p.at p.d refl p.lt p.found r.set e;
      moves = ap (λ (y : Sides). record (record_from y a) { messages = map message_record messages }) (counted g q.After-record_read)
          ∙ recorded-recorded l s p.at p.d refl p.lt p.found r.set e m (map message_record messages) h.message h.reads h.index;
    })
