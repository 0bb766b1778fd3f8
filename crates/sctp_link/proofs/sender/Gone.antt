-- A link after a datagram of fragments left, from what was made and taken on the way.
use Rattle.sctp_link.proofs.Names.{Vec, Global, ◌≡◌, ℕ, ◌<◌, List, [], ◌∷◌, ◌++◌, length, map, Some, refl, ap, sym, ◌∙◌, numbers_from, ChunkKind, wire_of}
use Rattle.sctp_link.proofs.Names.{ReadsPacket, packet_encoding, ChunkPayloadData, next_pending, IsRight, chunks_taken, Standing, with_queue, with_room}
use Rattle.sctp_link.proofs.Names.{numbers_of, Transmission, with_flight, Inside, Message, Slot, Datagram, packet_with, state_in, record_in, IsLinked}
use Rattle.sctp_link.proofs.Names.{start_from, Outgoing, outgoing_of, started_from, CanSend, Leave, SendsOnly, IsAligned}
use Rattle.sctp_chunks.specs.declared.chunk.chunk_kind.ChunkKind.TheVariants as C
use Rattle.sctp_model.specs.declared.event.Event.TheVariants as E
use Rattle.sctp_model.specs.Reply as R
use Rattle.sctp_link.specs.declared.record.Kind.TheVariants as K
use Rattle.sctp_link.proofs.sides.Aligned.{alike}
use Rattle.sctp_link.proofs.sender.SentLists.{count-is, can-leave, gone, linked-sent, send-is-right}

module _ {S : Type 0} {sum : List ℕ → ℕ} (a : Inside S) (al : IsAligned a.sender a.receiver a.progress) (l : IsLinked sum (state_in a)) (now : ℕ)
    (c : ChunkPayloadData) (e : next_pending a.sender.flight.queue.pending ≡ Some c) (ks : List ChunkKind)
    (taken : ks ≡ map C.PayloadData (chunks_taken a.limit a.sender.flight.next_tsn a.sender.flight.queue.pending)) (count : ℕ) (len : count ≡ length ks)
    (r : Transmission) (room : ℕ) (reserved : r ≡ with_flight (with_queue a.sender.flight (with_room room a.sender.flight.queue)) a.sender) (ms : List Message)
    (em : ms ≡ a.messages.items) (slots : List Slot) (es : slots ≡ a.slots.items) where
  -- lifetimes have started
  abbrev pub s : Outgoing
  s = started_from a.unstarted now (outgoing_of r a.progress ms slots)

  pub can : (i : ℕ) (t : Outgoing) → i < count → Leave now i s t → CanSend t
  can =
      can-leave l now c e a.messages.items a.slots.items refl refl refl refl a.sender.streams a.receiver.streams s (alike al) r.flight.queue _
      (ap (λ (t : Transmission). t.flight.queue) reserved) refl (ap (start_from a.unstarted now) em) refl es
      (ap (λ (t : Transmission). t.flight.next_tsn) reserved) count (len ∙ count-is l now c e ks taken)

  module _ (u : Transmission) (ps : List Standing) (ns : List Message) (ys : List Slot) (f : Leave now count s (outgoing_of u ps ns ys))
      (only : SendsOnly r u) where
    streams-are : u.streams ≡ a.sender.streams
    streams-are = only.streams ∙ ap (λ (t : Transmission). t.streams) reserved

    size-is : u.fragment_size ≡ a.sender.fragment_size
    size-is = only.fragment_size ∙ ap (λ (t : Transmission). t.fragment_size) reserved

    greatest-is : u.max_message_size ≡ a.sender.max_message_size
    greatest-is = only.max_message_size ∙ ap (λ (t : Transmission). t.max_message_size) reserved

    pub aligned : IsAligned u a.receiver ps
    aligned =
        let left = gone l now c e a.messages.items a.slots.items refl refl refl refl a.sender.streams a.receiver.streams s (alike al) r.flight.queue _
        (ap (λ (t : Transmission). t.flight.queue) reserved) refl (ap (start_from a.unstarted now) em) refl es
        (ap (λ (t : Transmission). t.flight.next_tsn) reserved) count (len ∙ count-is l now c e ks taken) (outgoing_of u ps ns ys) f in
        record {
          receives = ap numbers_of streams-are ∙ left.alike.numbers;
          progresses = ap numbers_of streams-are ∙ left.alike.progresses;
          size = al.size ∙ sym greatest-is;
          unlimited = al.unlimited;
          forgets = only.kept ∙ ap (λ (t : Transmission). t.kept) reserved ∙ al.forgets;
        }

    module _ (mv : Vec Message Global) (em' : mv.items ≡ ns) (sv : Vec Slot Global) (es' : sv.items ≡ ys) (dv : Vec Datagram Global) (places : Vec ℕ Global)
        (bytes : List ℕ) (ep : places.items ≡ numbers_from (length a.slots.items) count)
        (made : dv.items ≡ a.network.items ++ (let d : Datagram = record { kind = K.Data places; bytes = bytes } in d) ∷ []) (started : ℕ) where
      pub linked : bytes ≡ packet_encoding sum (packet_with (map wire_of ks)) → ReadsPacket sum bytes (packet_with (map wire_of ks))
          → started ≡ length a.messages.items
          → IsLinked sum (state_in (record a { sender = u; progress = ps; messages = mv; slots = sv; network = dv; unstarted = started }))
      linked encoding reads eu =
          rw (size-is, greatest-is, streams-are, es') (linked-sent l now c e a.messages.items a.slots.items refl refl refl refl a.sender.streams
          a.receiver.streams s (alike al) r.flight.queue _ (ap (λ (t : Transmission). t.flight.queue) reserved) refl
          (ap (start_from a.unstarted now) em) refl es (ap (λ (t : Transmission). t.flight.next_tsn) reserved) count (len
          ∙ count-is l now c e ks taken) (outgoing_of u ps ns ys) f mv.items em' a.network.items dv.items places.items (K.Data places) bytes ep refl refl
          made ks taken encoding reads refl started eu u.flight.acked_tsn (only.acked ∙ ap (λ (t : Transmission). t.flight.acked_tsn) reserved))

      pub right : (datagram tsn : ℕ) → datagram ≡ length a.network.items → tsn ≡ a.sender.flight.next_tsn
          → IsRight (record_in a) (E.Send now) (R.Sent datagram tsn c.stream_sequence_number count)
          (record_in (record a { sender = u; progress = ps; messages = mv; slots = sv; network = dv; unstarted = started }))
      right datagram tsn ed et =
          rw (et, size-is, greatest-is, streams-are, es')
          (send-is-right l now c e a.messages.items a.slots.items refl refl refl refl a.sender.streams a.receiver.streams s (alike al) r.flight.queue _
          (ap (λ (t : Transmission). t.flight.queue) reserved) refl (ap (start_from a.unstarted now) em) refl es
          (ap (λ (t : Transmission). t.flight.next_tsn) reserved) count (len ∙ count-is l now c e ks taken) (outgoing_of u ps ns ys) f mv.items em'
          a.network.items dv.items places.items (K.Data places) bytes ep refl refl made c.stream_sequence_number datagram refl ed)
