-- What an event that leaves the sender's side as it was makes of a link.
use Rattle.sctp_link.proofs.Names.{◌≡◌, ℕ, ◌+◌, ◌-◌, ◌<◌, ◌%◌, ◌^◌, true, List, ◌∷◌, length, None, ap, sym, ◌∙◌, slice_index_or, subst, numbers_where}
use Rattle.sctp_link.proofs.Names.{numbers_from, total_over, Event, Setup, LinkRecord, ordered_before, tsn_of, next_of, filter_of, StandsFor, refusal_of}
use Rattle.sctp_link.proofs.Names.{reply_to, after, IsSetup, Shape, shape, sent, parts, on, Same, reassembly_of, Filter, amount, keeps_amounts, counters_on}
use Rattle.sctp_link.proofs.Names.{begun_on, Indexed, SameToSender, outbound-same, amount-same, OpenStream, stats_in, stream_numbers, State, IsLinked}
use Rattle.sctp_link.proofs.Names.{IsOpenStream, stats_of, filter_shown, IsApart, stands-then}
use Rattle.sctp_model.proofs.refinement.sending.Begun
use Rattle.sctp_link.proofs.upkeep.Facts.{facts}
use Rattle.sctp_link.proofs.sender.Beginning.{index_kept, indexed-of}
use Rattle.sctp_link.proofs.upkeep.Frames.{encodings-same}

module _ {sum : List ℕ → ℕ} {x : State} (l : IsLinked sum x) (e : Event) (none : refusal_of x.recorded e ≡ None)
    (s : Same x.recorded (after x.recorded e)) where
  abbrev w : LinkRecord
  w = x.recorded

  abbrev v : LinkRecord
  v = after x.recorded e

  on-shape : (P : Shape → Type 0) → P (shape w) → P (shape v)
  on-shape P p = subst P (sym s.shape_is) p

  first-same : v.setup.first ≡ w.setup.first
  first-same = ap (λ t. t.first) s.setup

  stands-same : StandsFor v.setup v ((e, reply_to w e) ∷ l.history)
  stands-same = subst (λ (t : Setup). StandsFor t v ((e, reply_to w e) ∷ l.history)) (sym s.setup) (stands-then e none l.stands)

  -- what such an event leaves of an open stream
  pub stream-then : keeps_amounts e ≡ true → (y z : OpenStream) → IsOpenStream w y → z.state.stream_identifier ≡ y.state.stream_identifier
      → z.inbound.queue.held ≡ reassembly_of v y.state.stream_identifier → z.inbound.queue.si ≡ y.inbound.queue.si
      → z.inbound.queue.max_message_size ≡ y.inbound.queue.max_message_size → z.state.max_payload_size ≡ y.state.max_payload_size → z.ordered ≡ y.ordered
      → z.state.sequence_number ≡ y.state.sequence_number → z.begun ≡ y.begun → z.next ≡ next_of v y.state.stream_identifier
      → z.state.buffered_amount ≡ y.state.buffered_amount → stats_in z ≡ stats_of (counters_on v y.state.stream_identifier) → IsOpenStream v z
  stream-then keeps y z i id held si largest size ordered number begun next bytes stats =
      let t = y.state.stream_identifier in
      let f = facts l in
      let before : ordered_before v t (length v.messages) ≡ ordered_before w t (length w.messages) =
      ap (λ (b : Shape). length (numbers_where (on b t) 0 b.count)) s.shape_is in
      let same = amount-same w.setup w e t f.setup f.consistent keeps in
      record {
        held = held ∙ ap (reassembly_of v) (sym id);
        si = si ∙ i.si ∙ sym id;
        largest = largest ∙ i.largest ∙ sym (ap (λ t. t.largest) s.setup);
        size = size ∙ i.size ∙ sym (ap (λ t. t.size) s.setup);
        ordered = ordered ∙ i.ordered ∙ sym before ∙ ap (λ a. ordered_before v a (length v.messages)) (sym id);
        number = number ∙ i.number ∙ ap (λ n. n % 2 ^ 16) (sym ordered);
        begun = begun ∙ i.begun ∙ sym (ap (λ (b : Shape). Begun.begun b t) s.shape_is) ∙ ap (begun_on v) (sym id);
        next = next ∙ ap (next_of v) (sym id);
        amount = bytes ∙ i.amount ∙ sym same ∙ ap (amount v) (sym id);
        stats = stats ∙ ap (λ a. stats_of (counters_on v a)) (sym id);
      }

  module _ (progress : List (ℕ × ℕ)) (open_streams : List OpenStream) (filter : Filter) (u : LinkRecord) (progress_same : progress ≡ x.progress)
      (filter_is : filter_shown filter ≡ filter_of v) (each : (k : ℕ) (d : OpenStream) → k < length open_streams
      → IsOpenStream v (slice_index_or open_streams k d)) (found : IsApart (stream_numbers open_streams)) (q : SameToSender w v) (is : u ≡ v) where
    indexed-then : Indexed (shape v) (index_kept progress)
    indexed-then = subst (λ ps. Indexed (shape v) (index_kept ps)) (sym progress_same) (on-shape (λ b. Indexed b (index_kept x.progress)) (indexed-of l))

    at-after : IsLinked sum (record x { recorded = v; progress = progress; open_streams = open_streams; filter = filter })
    at-after = record {
      setup = subst IsSetup (sym s.setup) l.setup;
      history = (e, reply_to w e) ∷ l.history;
      stands = stands-same;
      outbound = outbound-same w v q x.outbound l.outbound;
      unstarted = l.unstarted;
      filter = filter_is;
      next = l.next ∙ ap (tsn_of w) (sym (ap (λ b. b.slots) s.shape_is)) ∙ ap (λ a. (a + length v.slots) % 2 ^ 32) (sym first-same);
      acked = l.acked ∙ ap (λ a. (a + (2 ^ 32 - 1) + w.taken) % 2 ^ 32) (sym first-same) ∙ ap (λ k. (v.setup.first + (2 ^ 32 - 1) + k) % 2 ^ 32) (sym q.taken);
      fragments = l.fragments ∙ sym (ap (λ b. total_over (parts b) (numbers_from 0 b.count)) s.shape_is);
      written = l.written ∙ sym (ap (λ b. total_over (λ n. length (b.message n).bytes) (numbers_from 0 b.count)) s.shape_is);
      sents = λ n lt. ap (λ (c : List (ℕ × ℕ)). (slice_index_or c n (0, 0)).0) progress_same
          ∙ on-shape (λ b. (n : ℕ) → n < b.count → (slice_index_or x.progress n (0, 0)).0 ≡ sent b n) l.sents n lt;
      indexes = indexed-then.is;
      low = indexed-then.low;
      open_streams = each;
      apart = found;
      encodings = encodings-same l e none s.network;
    }

    -- the link after it
    pub linked-then : IsLinked sum (record x { recorded = u; progress = progress; open_streams = open_streams; filter = filter })
    linked-then = subst (λ (t : LinkRecord). IsLinked sum (record x { recorded = t; progress = progress; open_streams = open_streams; filter = filter }))
        (sym is) at-after
