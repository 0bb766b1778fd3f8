-- What the lists of a link are once a datagram of fragments has left.
use Rattle.sctp_link.proofs.Names.{◌≡◌, ℕ, ◌<◌, List, [], ◌∷◌, ◌++◌, length, map, Some, ap, sym, ◌∙◌, arith, AllByRecursion, subst, numbers_from}
use Rattle.sctp_link.proofs.Names.{length-mapped, ChunkKind, ChunkPayloadData, wire_of, HasEncoding, Canonical, ReadsPacket, packet_encoding, next_pending}
use Rattle.sctp_link.proofs.Names.{Outbound, all_started, after_start, send_fragments, IsRight, chunks_taken, Fills, Message, Slot, Datagram, Kind}
use Rattle.sctp_link.proofs.Names.{message_record, progress_of, slot_record, kind_record, datagram_record, stream_record, start_from, OutboundStream}
use Rattle.sctp_link.proofs.Names.{InboundStream, join_each, Outgoing, CanSend, Leave, packet_with, State, IsLinked, LinkRecord, refines-room, Next, next-is}
use Rattle.sctp_chunks.specs.declared.chunk.chunk_kind.ChunkKind.TheVariants as C
use Rattle.sctp_model.specs.declared.event.Event.TheVariants as E
use Rattle.sctp_model.specs.Reply as R
use Rattle.sctp_model.specs.LinkRecord as W
use Rattle.sctp_link.proofs.sides.Joined.{Alike}
use Rattle.sctp_link.proofs.upkeep.Frames.{moved}
use Rattle.sctp_link.proofs.sender.Between.{Between, between-none, between-after, each-can}
use Rattle.sctp_link.proofs.sender.Outgoing.{network-more, bytes-more}
use Rattle.sctp_link.proofs.sender.Sending
use Rattle.sctp_link.proofs.upkeep.Facts.{sends}

-- ## The chunks

module _ {sum : List ℕ → ℕ} {x : State} (l : IsLinked sum x) (now : ℕ) (c : ChunkPayloadData) (e : next_pending x.outbound.pending ≡ Some c) where
  pub next : Next x.recorded c
  next = next-is (sends l) c e

  -- how many there are
  abbrev pub many : ℕ
  many = length (chunks_taken x.recorded.setup.limit x.next_tsn x.outbound.pending)

  pub count-is : (ks : List ChunkKind) → ks ≡ map C.PayloadData (chunks_taken x.recorded.setup.limit x.next_tsn x.outbound.pending)
      → length ks ≡ length (chunks_taken x.recorded.setup.limit x.next_tsn x.outbound.pending)
  count-is ks is = ap length is ∙ length-mapped C.PayloadData (chunks_taken x.recorded.setup.limit x.next_tsn x.outbound.pending)

  pub encodings-each : (ks : List ChunkKind) → ks ≡ map C.PayloadData (chunks_taken x.recorded.setup.limit x.next_tsn x.outbound.pending)
      → AllByRecursion HasEncoding (map wire_of ks)
  encodings-each ks is = subst (λ l. AllByRecursion HasEncoding (map wire_of l)) (sym is) (Sending.fits-each l now c.message_id next.front)

  pub canonical-each : (ks : List ChunkKind) → ks ≡ map C.PayloadData (chunks_taken x.recorded.setup.limit x.next_tsn x.outbound.pending)
      → AllByRecursion Canonical (map wire_of ks)
  canonical-each ks is = subst (λ l. AllByRecursion Canonical (map wire_of l)) (sym is) (Sending.canonical-each l now c.message_id next.front)

  -- ## They leave

  module _ (ms : List Message) (slots : List Slot) (streams : x.recorded.streams ≡ map stream_record x.open_streams)
      (em : x.recorded.messages ≡ map message_record ms) (es : x.progress ≡ map progress_of ms) (ew : x.recorded.slots ≡ map slot_record slots)
      (states : List OutboundStream) (inbounds : List InboundStream) (s : Outgoing) (same : Alike states inbounds s.progress) (q : Outbound) (room : ℕ)
      (eq : q ≡ record x.outbound { inflight = record x.outbound.inflight { room = room } }) (out : s.outbound ≡ all_started now q)
      (is : s.messages ≡ start_from x.unstarted now ms) (opened : join_each states inbounds s.progress ≡ x.open_streams) (given : s.slots ≡ slots)
      (tsn : s.next_tsn ≡ x.next_tsn) where
    base : Between states inbounds x now (after_start x.recorded now) s
    base =
        between-none states inbounds l now ms em es s (refines-room q room eq l.outbound) out is same opened streams (ew ∙ ap (map slot_record) (sym given)) tsn

    fills : Fills (after_start x.recorded now) (send_fragments (after_start x.recorded now)) (chunks_taken x.recorded.setup.limit x.next_tsn x.outbound.pending)
    fills = Sending.fills l now c.message_id next.front

    -- each can, in its turn
    pub can-leave : (count : ℕ) → count ≡ many → (i : ℕ) (t : Outgoing) → i < count → Leave now i s t → CanSend t
    can-leave count ec i t lt f = each-can states inbounds x now (after_start x.recorded now) s base many fills.fronts i t (omega (arith, lt, ec)) f

    module _ (count : ℕ) (ec : count ≡ many) (t : Outgoing) (f : Leave now count s t) where
      pub gone : Between states inbounds x now (send_fragments (after_start x.recorded now)) t
      gone = subst (λ y. Between states inbounds x now y t) (sym fills.all)
          (between-after states inbounds x now (after_start x.recorded now) s base many fills.fronts many (omega arith) t (subst (λ k. Leave now k s t) ec f))

      module _ (ms' : List Message) (em' : ms' ≡ t.messages) (ds ds' : List Datagram) (ps : List ℕ) (kind : Kind) (bytes : List ℕ)
          (ep : ps ≡ numbers_from (length slots) count) (ek : kind_record kind ≡ W.Data ps) (en : x.recorded.network ≡ map datagram_record ds)
          (made : ds' ≡ ds ++ (let d : Datagram = record { kind = kind; bytes = bytes } in d) ∷ []) where
        places-are : ps ≡ Sending.places l now c.message_id next.front
        places-are = ep ∙ ap (λ k. numbers_from k count) (sym (ap length ew ∙ length-mapped slot_record slots)) ∙ ap (numbers_from (length x.recorded.slots)) ec

        network-sent : map datagram_record ds' ≡ x.recorded.network ++ W.Data (Sending.places l now c.message_id next.front) ∷ []
        network-sent =
            network-more ds ds' kind bytes made ∙ ap (λ g. map datagram_record ds ++ g ∷ []) (ek ∙ ap W.Data places-are)
            ∙ ap (λ a. a ++ W.Data (Sending.places l now c.message_id next.front) ∷ []) (sym en)

        -- the record then, and a link with these parts
        abbrev recorded-then : LinkRecord
        recorded-then = record x.recorded {
          streams = map stream_record (join_each states inbounds t.progress);
          messages = map message_record ms';
          slots = map slot_record t.slots;
          network = map datagram_record ds';
        }

        abbrev state-then : LinkRecord → List Message → ℕ → List (List ℕ) → ℕ → State
        state-then w ns unstarted datagrams acked = record x {
          recorded = w;
          open_streams = join_each states inbounds t.progress;
          progress = map progress_of ns;
          unstarted = unstarted;
          datagrams = datagrams;
          outbound = t.outbound;
          next_tsn = t.next_tsn;
          acked_tsn = acked;
        }

        recorded-sent : recorded-then ≡ Sending.v l now c.message_id next.front
        recorded-sent =
            Sending.recorded-is l now c.message_id next.front (map stream_record (join_each states inbounds t.progress)) (map message_record ms')
            (map slot_record t.slots) (map datagram_record ds') gone.records (ap (map message_record) em' ∙ gone.messages) gone.slots network-sent

        pub send-is-right : (ssn datagram : ℕ) → ssn ≡ c.stream_sequence_number → datagram ≡ length ds
            → IsRight x.recorded (E.Send now) (R.Sent datagram x.next_tsn ssn count) recorded-then
        send-is-right ssn datagram ess ed =
            subst (λ z. IsRight x.recorded (E.Send now) (R.Sent datagram x.next_tsn ssn count) z) (sym recorded-sent)
            (subst (λ k. IsRight x.recorded (E.Send now) (R.Sent k x.next_tsn ssn count) (Sending.v l now c.message_id next.front))
            (sym (ed ∙ sym (ap length en ∙ length-mapped datagram_record ds)))
            (subst (λ k. IsRight x.recorded (E.Send now) (R.Sent (length x.recorded.network) x.next_tsn ssn k) (Sending.v l now c.message_id next.front))
            (sym ec) (Sending.send-right l now c.message_id next.front ssn (ess ∙ ap (λ (d : ChunkPayloadData). d.stream_sequence_number) next.is))))

        pub linked-sent : (ks : List ChunkKind) → ks ≡ map C.PayloadData (chunks_taken x.recorded.setup.limit x.next_tsn x.outbound.pending)
            → bytes ≡ packet_encoding sum (packet_with (map wire_of ks)) → ReadsPacket sum bytes (packet_with (map wire_of ks))
            → x.datagrams ≡ map (λ g. g.bytes) ds → (unstarted : ℕ) → unstarted ≡ length ms → (acked : ℕ) → acked ≡ x.acked_tsn
            → IsLinked sum (state-then recorded-then ms' unstarted (map (λ g. g.bytes) ds') acked)
        linked-sent ks eks encoding reads eb unstarted eu acked ea =
            let v = Sending.v l now c.message_id next.front in
            let len : length x.datagrams ≡ length x.recorded.network = ap length eb ∙ length-mapped (λ (g : Datagram). g.bytes) ds
            ∙ sym (ap length en ∙ length-mapped datagram_record ds) in
            let complete = Sending.linked-send l now c.message_id next.front states inbounds t gone bytes
            (Sending.says l now c.message_id next.front ks bytes eks encoding reads) len in
            subst (λ a. IsLinked sum (state-then recorded-then ms' unstarted (map (λ g. g.bytes) ds') a)) (sym ea)
            (moved sum (state-then recorded-then ms' unstarted (map (λ g. g.bytes) ds') x.acked_tsn) v recorded-sent
            (subst (λ a. IsLinked sum (state-then v a unstarted (map (λ g. g.bytes) ds') x.acked_tsn)) (sym em')
            (subst (λ a. IsLinked sum (state-then v t.messages a (map (λ g. g.bytes) ds') x.acked_tsn))
            (sym (eu ∙ sym (ap length em ∙ length-mapped message_record ms)))
            (subst (λ a. IsLinked sum (state-then v t.messages (length x.recorded.messages) a x.acked_tsn))
            (sym (bytes-more ds ds' kind bytes made ∙ ap (λ a. a ++ bytes ∷ []) (sym eb))) complete))))
