-- A datagram of fragments leaves.
use Rattle.sctp_link.proofs.Names.{◌≡◌, ℕ, ◌-◌, ◌<◌, ◌≤◌, List, [], ◌∷◌, ◌++◌, length, map, Some, refl, ap, sym, ◌∙◌, arith, slice_get, slice_index_or}
use Rattle.sctp_link.proofs.Names.{AllByRecursion, subst, numbers_from, length-mapped, ChunkKind, ChunkPayloadData, wire_of, data_of, data_chunk, HasEncoding}
use Rattle.sctp_link.proofs.Names.{Canonical, ReadsPacket, packet_encoding, LinkRecord, StreamRecord, message_at, tsn_of, front, ordered_before, ssn_of}
use Rattle.sctp_link.proofs.Names.{chunk_at, contents_of, filter_of, in_all, written_bytes, after_start, start_lifetime, after_send}
use Rattle.sctp_link.proofs.Names.{send_fragments, IsRight, StandsFor, reply_to, fragments_accepted, shape, Quiet, chunks_taken, begun_on}
use Rattle.sctp_link.proofs.Names.{RefinesOutbound, Indexed, Fills, fill-sent, fill-started, sent-started, only-slots, before-started, outbound-same}
use Rattle.sctp_link.proofs.Names.{same-self, OpenStream, join_each, IsApart, IsDatagram, packet_with, wire_data, State, IsLinked, IsOpenStream, progress_of}
use Rattle.sctp_link.proofs.Names.{OutboundStream, InboundStream, Outgoing, stands-then, piece-short, SameStream, stream-quiet, filter-kept, fragments-same}
use Rattle.sctp_link.proofs.Names.{written-kept}
use Rattle.sctp_chunks.specs.declared.chunk.chunk_kind.ChunkKind.TheVariants as C
use Rattle.sctp_model.specs.declared.event.Event.TheVariants as E
use Rattle.sctp_model.specs.LinkRecord.{Slot, Message}
use Rattle.sctp_model.specs.LinkRecord as W
use Rattle.sctp_model.specs.Messages as M
use Rattle.sctp_model.specs.Reply as R
use Rattle.sctp_model.proofs.sender.Moves
use Rattle.sctp_model.proofs.refinement.sending.Begun
use Rattle.sctp_link.proofs.upkeep.Facts.{facts, told}
use Rattle.sctp_link.proofs.upkeep.Frames.{stream-with, encodings-more}
use Rattle.sctp_link.proofs.sender.Beginning.{index_kept}
use Rattle.sctp_link.proofs.sender.Between.{Between}
use Rattle.sctp_link.proofs.sender.Outgoing.{chunk-short}

-- ## What the chunks say

-- the wire parts of DATA chunks
wires-of : (cs : List ChunkPayloadData) → map wire_of (map C.PayloadData cs) ≡ map data_chunk (map data_of cs)
wires-of [] = refl
wires-of (c ∷ cs) = ap (λ l. data_chunk (data_of c) ∷ l) (wires-of cs)

wires-at : (v : LinkRecord) (ps : List ℕ) → map data_chunk (map (λ p. data_of (chunk_at v p)) ps) ≡ map wire_data (map (chunk_at v) ps)
wires-at v [] = refl
wires-at v (p ∷ ps) = ap (λ l. wire_data (chunk_at v p) ∷ l) (wires-at v ps)

at-short : (v : LinkRecord) (p : ℕ) → v.setup.size ≤ 65519 → length (chunk_at v p).user_data ≤ 65519
at-short v p le = omega
    (arith, le, piece-short (length (message_at v (M.message_of v p)).bytes) v.setup.size (message_at v (M.message_of v p)).bytes (M.slot_at v p).fragment)

encodings-at : (v : LinkRecord) (ps : List ℕ) → v.setup.size ≤ 65519 → AllByRecursion HasEncoding (map wire_data (map (chunk_at v) ps))
encodings-at v [] le = tt
encodings-at v (p ∷ ps) le = ((tt, chunk-short (data_of (chunk_at v p)) (at-short v p le)), encodings-at v ps le)

canonical-at : (v : LinkRecord) (ps : List ℕ) → AllByRecursion Canonical (map wire_data (map (chunk_at v) ps))
canonical-at v [] = tt
canonical-at v (p ∷ ps) = (tt, canonical-at v ps)

module _ {sum : List ℕ → ℕ} {x : State} (l : IsLinked sum x) (now n : ℕ) (fr : front x.recorded ≡ Some n) where
  abbrev w : LinkRecord
  w = x.recorded

  abbrev pub u : LinkRecord
  u = after_start x.recorded now

  -- the chunks of the datagram
  abbrev pub cs : List ChunkPayloadData
  cs = chunks_taken x.recorded.setup.limit x.next_tsn x.outbound.pending

  pub fills : Fills (after_start x.recorded now) (send_fragments (after_start x.recorded now))
      (chunks_taken x.recorded.setup.limit x.next_tsn x.outbound.pending)
  fills =
      let f = facts l in
      subst (λ z. Fills u z cs) (sym (sent-started w now))
      (fill-started w (send_fragments w) now cs (fill-sent w.setup x.next_tsn n w x.outbound.pending f.going l.outbound.pending fr l.next))

  -- the record once they have slots
  abbrev z : LinkRecord
  z = send_fragments (after_start x.recorded now)

  abbrev pub places : List ℕ
  places = numbers_from (length x.recorded.slots) (length (chunks_taken x.recorded.setup.limit x.next_tsn x.outbound.pending))

  abbrev pub v : LinkRecord
  v = record x.recorded {
    messages = (after_start x.recorded now).messages;
    slots = (send_fragments (after_start x.recorded now)).slots;
    network = x.recorded.network ++ W.Data places ∷ [];
  }

  only : send_fragments (after_start x.recorded now) ≡ record (after_start x.recorded now) { slots = (send_fragments (after_start x.recorded now)).slots }
  only = fills.all ∙ only-slots (length cs) u ∙ ap (λ s. record u { slots = s }) (ap (λ (y : LinkRecord). y.slots) (sym fills.all))

  many : length (send_fragments (after_start x.recorded now)).slots - length x.recorded.slots ≡ length cs
  many = let c = fills.count in omega (arith, c)

  sent-moves : after_send w now ≡ v
  sent-moves = cc (fr, many, only)

  pub send-right : (ssn : ℕ) → ssn ≡ ssn_of w n → IsRight w (E.Send now) (R.Sent (length w.network) x.next_tsn ssn (length cs)) v
  send-right ssn e = record {
    right = cc (l.next, e, fr, sent-moves, many);
    moves = sym sent-moves;
  }

  -- what the datagram says
  says-wires : map wire_of (map C.PayloadData cs) ≡ map wire_data (map (chunk_at v) places)
  says-wires = wires-of cs ∙ ap (map data_chunk) (fills.says ∙ ap (λ y. map (λ p. data_of (chunk_at y p)) places) only) ∙ wires-at v places

  pub fits-each : AllByRecursion HasEncoding (map wire_of (map C.PayloadData (chunks_taken x.recorded.setup.limit x.next_tsn x.outbound.pending)))
  fits-each = subst (AllByRecursion HasEncoding) (sym says-wires) (encodings-at v places l.setup.size)

  pub canonical-each : AllByRecursion Canonical (map wire_of (map C.PayloadData (chunks_taken x.recorded.setup.limit x.next_tsn x.outbound.pending)))
  canonical-each = subst (AllByRecursion Canonical) (sym says-wires) (canonical-at v places)

  pub says : (ks : List ChunkKind) (bytes : List ℕ) → ks ≡ map C.PayloadData cs → bytes ≡ packet_encoding sum (packet_with (map wire_of ks))
      → ReadsPacket sum bytes (packet_with (map wire_of ks)) → IsDatagram sum (contents_of v (W.Data places)) bytes
  says ks bytes is encoding reads =
      let e : map wire_of ks ≡ map wire_data (map (chunk_at v) places) = ap (map wire_of) is ∙ says-wires in
      record { encoding = encoding ∙ ap (λ ws. packet_encoding sum (packet_with ws)) e; reads = subst (λ ws. ReadsPacket sum bytes (packet_with ws)) e reads }

  quiet : Quiet w (after_send w now)
  quiet = Moves.quiet-sent w.setup w now (front w) (facts l).consistent

  before : (t : ℕ) → ordered_before (after_send w now) t (length (after_send w now).messages) ≡ ordered_before w t (length w.messages)
  before t = ap (λ y. ordered_before y t (length y.messages)) sent-moves ∙ ap (ordered_before u t) (length-mapped (start_lifetime now) w.messages)
      ∙ before-started w now t (length w.messages)

  stream-kept : (t : ℕ) → SameStream w v t
  stream-kept t = subst (λ y. SameStream w y t) sent-moves (stream-quiet (told l) (E.Send now) refl quiet tt refl refl refl before t)

  -- the record that the link then has
  pub recorded-is : (rs : List StreamRecord) (ms : List Message) (ss : List Slot) (ns : List W.Datagram) → rs ≡ w.streams → ms ≡ u.messages → ss ≡ z.slots
      → ns ≡ w.network ++ W.Data places ∷ [] → record w { streams = rs; messages = ms; slots = ss; network = ns } ≡ v
  recorded-is rs ms ss ns r a b c = cc (r, a, b, c)

  module _ (states : List OutboundStream) (inbounds : List InboundStream) (s : Outgoing)
      (b : Between states inbounds x now (send_fragments (after_start x.recorded now)) s) (bytes : List ℕ)
      (encoding : IsDatagram sum (contents_of v (W.Data places)) bytes) (count : length x.datagrams ≡ length x.recorded.network) where
    shape-same : shape (send_fragments (after_start x.recorded now)) ≡ shape v
    shape-same = ap shape only

    stream-sent : (k : ℕ) (d : OpenStream) → k < length (join_each states inbounds s.progress)
        → IsOpenStream v (slice_index_or (join_each states inbounds s.progress) k d)
    stream-sent k d lt =
        let y = slice_index_or x.open_streams k d in
        let long : length (join_each states inbounds s.progress) ≡ length x.open_streams =
        sym (length-mapped (λ (l : OpenStream). l.state.stream_identifier) (join_each states inbounds s.progress)) ∙ ap length b.numbers
        ∙ length-mapped (λ (l : OpenStream). l.state.stream_identifier) x.open_streams in
        subst (IsOpenStream v) (sym (b.streams k d lt)) (stream-with y (begun_on z y.state.stream_identifier) (stream-kept y.state.stream_identifier)
        (ap (λ h. Begun.begun h y.state.stream_identifier) shape-same) (l.open_streams k d (omega (arith, lt, long))))

    encodings-sent : (k : ℕ) (d : List ℕ) (g : W.Datagram) → slice_get v.network k ≡ Some g
        → IsDatagram sum (contents_of v g) (slice_index_or (x.datagrams ++ bytes ∷ []) k d)
    encodings-sent =
        subst (λ y. (k : ℕ) (d : List ℕ) (g : W.Datagram) → slice_get y.network k ≡ Some g → IsDatagram sum (contents_of y g)
        (slice_index_or (x.datagrams ++ bytes ∷ []) k d)) sent-moves (encodings-more l (E.Send now) refl (W.Data places) bytes
        (ap (λ (y : LinkRecord). y.network) sent-moves) count (subst (λ y. IsDatagram sum (contents_of y (W.Data places)) bytes) (sym sent-moves) encoding))

    indexed-sent : Indexed (shape v) (index_kept (map progress_of s.messages))
    indexed-sent = subst (λ h. Indexed h (index_kept (map progress_of s.messages))) shape-same b.indexed

    outbound-sent : RefinesOutbound v s.outbound
    outbound-sent = let r : LinkRecord = record u { slots = z.slots } in
        outbound-same r v (same-self r v refl refl refl refl) s.outbound (subst (λ y. RefinesOutbound y s.outbound) only b.outbound)

    pub linked-send : IsLinked sum (record x {
      recorded = v;
      open_streams = (join_each states inbounds s.progress);
      progress = map progress_of s.messages;
      unstarted = length x.recorded.messages;
      datagrams = x.datagrams ++ bytes ∷ [];
      outbound = s.outbound;
      next_tsn = s.next_tsn;
    })
    linked-send = record {
      setup = l.setup;
      history = (E.Send now, reply_to w (E.Send now)) ∷ l.history;
      stands = subst (λ y. StandsFor w.setup y ((E.Send now, reply_to w (E.Send now)) ∷ l.history)) sent-moves (stands-then (E.Send now) refl l.stands);
      outbound = outbound-sent;
      unstarted = sym b.begun;
      filter = l.filter ∙ sym (ap filter_of (sym sent-moves) ∙ filter-kept (told l) (E.Send now) refl quiet);
      next = b.next ∙ ap (λ y. tsn_of y (length z.slots)) only;
      acked = l.acked;
      fragments = l.fragments ∙ sym (ap fragments_accepted (sym sent-moves) ∙ fragments-same (told l) (E.Send now) refl refl);
      written = l.written ∙ sym (ap (λ y. in_all y (written_bytes y)) (sym sent-moves) ∙ written-kept (told l) (E.Send now) refl refl);
      sents = λ k lt. b.sents k (omega (arith, lt, length-mapped (start_lifetime now) w.messages));
      indexes = indexed-sent.is;
      low = indexed-sent.low;
      open_streams = stream-sent;
      apart = subst IsApart (sym b.numbers) l.apart;
      encodings = encodings-sent;
    }
