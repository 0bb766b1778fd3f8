-- No chunk of a sender has more user data than it was cut for, whatever calls it has and whatever comes.
use Rattle.std.proofs.Common.{◌≡◌, ◌+◌, ◌-◌, ◌≤◌, ◌∙◌, ℕ, zero, suc, Bool, true, false, List, [], ◌∷◌, length, get_or, drop, Option, Some, None, refl, ap, inl}
use Rattle.std.proofs.Common.{inr}
use Rattle.std.proofs.Common.{sym, subst, arith}
use Rattle.std.proofs.lemmas.List.{length-take}
use Rattle.std.proofs.lemmas.Bool.{cases_lt, false≢true}
use Rattle.std.proofs.lemmas.Bool.Decides.{nat_tests}
use Rattle.std.specs.Prelude.{All, IfSome, if◌then◌else◌, nat_le, option_map}
use Rattle.sctp_association.specs.Acks.{without_blocks}
use Rattle.sctp_association.specs.Arrivals.{Arrival, Does, Halves, Hearing, Hears, IsBroughtAs, Steps, acks, begins, counts, hears, new_sender, passes}
use Rattle.sctp_association.specs.Arrivals.{receives, renews, restarts}
use Rattle.sctp_association.specs.Asked.{calls_on}
use Rattle.sctp_association.specs.Beginnings.{IsBegunBy}
use Rattle.sctp_association.specs.declared.association.Association.{Association}
use Rattle.sctp_association.specs.declared.config.Config.{Config}
use Rattle.sctp_association.specs.Halves.{expires_t3, fragment_size, halves_of, marked}
use Rattle.sctp_association.specs.Runs.{Runs, SendsBy, is_sending, made_by}
use Rattle.sctp_association.specs.Sized.{AreSmall, AreSmallKept, EachAskIsCut, EachChunkFits, EachDatagramIsCut, EachIsCutFirst, HoldsNothing}
use Rattle.sctp_association.specs.Sized.{EachOtherIsCut, EachPollIsCut, EachSizeIsCut, EachTimeoutIsCut, IsCut, IsSized, size_set}
use Rattle.sctp_data.specs.declared.chunk.chunk_payload_data.ChunkPayloadData.{ChunkPayloadData}
use Rattle.sctp_data.specs.SelectiveAck.{Sack}
use Rattle.sctp_delivery.proofs.Cases.{at-if}
use Rattle.sctp_delivery.proofs.Changes.{Keeps, each-call, expired-one, is_write}
use Rattle.sctp_delivery.proofs.Every.{Every, all-of-every, every-changed, every-found, every-joined, every-left, every-made, every-of, every-of-all}
use Rattle.sctp_delivery.proofs.QueueChunks.{EachIs, each-fragment, pushed, sacked}
use Rattle.sctp_delivery.proofs.Writing.{accepted-stream}
use Rattle.sctp_delivery.specs.SenderCalls.{Made, SenderCall, SenderMakes, SenderMakesEach, abandons, expires, expires_late}
use Rattle.sctp_delivery.specs.SenderCalls.{expires_rexmit, expires_tail, forwards, forwards_within, marks, misses, opens, resends, reserves, sends}
use Rattle.sctp_delivery.specs.SenderCalls.{sets_low, sets_mode, sets_size, starts, takes_sack, writes}
use Rattle.sctp_sender.specs.declared.sender.flight.kept.TakenBack.{TakenBack}
use Rattle.sctp_sender.specs.declared.sender.flight.late.AbandonedMessage.{AbandonedMessage}
use Rattle.sctp_sender.specs.declared.sender.flight.Released.{Released}
use Rattle.sctp_sender.specs.Flight.{Flight, count_acked, is_outdated, released_by, reports_anew}
use Rattle.sctp_sender.specs.Keeping.{after_returns, back_each, keep, keep_each, kept_after, kept_from, more_by, restored, restored_with, takes_back, trimmed}
use Rattle.sctp_sender.specs.Keeping.{with_restored}
use Rattle.sctp_sender.specs.Late.{after_leaving, late_order, leaving_each, worn_order}
use Rattle.sctp_sender.specs.Outgoing.{after_expiry, after_releases, fragments_with_mode, from_first, has_number, less_by, with_low, with_mode, with_size}
use Rattle.sctp_sender.specs.Outgoing.{wrote}
use Rattle.sctp_sender.specs.Resending.{fits}
use Rattle.sctp_sender.specs.Sender.{Transmission, after_acked, after_take_back, back_by, is_open, taken_back_by}
use Rattle.sctp_sender.specs.Settings.{with_fragment_size}
use Rattle.sctp_stream.specs.declared.outbound_stream.OutboundStream.{OutboundStream}
use Rattle.sctp_util.specs.Lists.{change_where, pieces}
use Rattle.sctp_util.specs.Padding.{padded_length}

-- ## Pieces of a write

-- none is longer than their size
pub short-piece : (most size : ℕ) (bytes : List ℕ) (i : ℕ) → length (get_or (pieces most size bytes) i []) ≤ size
short-piece zero size bytes i = omega arith
short-piece (suc most) size [] i = omega arith
short-piece (suc most) size (x ∷ xs) zero = let cut = length-take size (x ∷ xs) in omega (arith, cut)
short-piece (suc most) size (x ∷ xs) (suc i) = short-piece most size (drop size (x ∷ xs)) i

-- ## What is kept of what was reported

module _ (n : ℕ) where
  abbrev pub IsSmall : ChunkPayloadData → Type 0
  IsSmall c = length c.user_data ≤ n

  abbrev pub IsCutStream : OutboundStream → Type 0
  IsCutStream l = l.max_payload_size ≤ n

  abbrev pub IsKept : Option (List ℕ) → Type 0
  IsKept k = IfSome k (λ bytes. length bytes ≤ n)

  abbrev pub AreKept : Option (List (Option (List ℕ))) → Type 0
  AreKept o = IfSome o (λ ks. Every IsKept ks)

  -- as far as something is kept
  trimmed-small : (ks : List (Option (List ℕ))) → Every IsKept ks → Every IsKept (trimmed ks)
  trimmed-small [] h = tt
  trimmed-small (k ∷ ks) h = by k (trimmed ks) h.0 (trimmed-small ks h.1)
    where
      by : (k : Option (List ℕ)) (js : List (Option (List ℕ))) → IsKept k → Every IsKept js → Every IsKept (kept_from k js)
      by None [] a b = tt
      by None (j ∷ js) a b = (tt, b)
      by (Some bytes) js a b = (a, b)

  module _ (sack : Sack) where
    keep-one : (c : ChunkPayloadData) (k : Option (List ℕ)) → IsSmall c → IsKept k → IsKept (keep sack c k)
    keep-one c k a b = at-if IsKept (reports_anew sack c) (λ e. a) (λ e. b)

    keep-small : (cs : List ChunkPayloadData) (ks : List (Option (List ℕ))) → Every IsSmall cs → Every IsKept ks → Every IsKept (keep_each sack cs ks)
    keep-small [] ks a b = tt
    keep-small (c ∷ cs) [] a b = (keep-one c None a.0 tt, keep-small cs [] a.1 tt)
    keep-small (c ∷ cs) (k ∷ ks) a b = (keep-one c k a.0 b.0, keep-small cs ks a.1 b.1)

    -- what is kept after a SACK
    kept-small : (f : Flight) (o : Option (List (Option (List ℕ)))) → Every IsSmall f.queue.inflight.chunks → AreKept o
        → AreKept (option_map (kept_after sack f) o)
    kept-small f None a h = tt
    kept-small f (Some ks) a h = at-if (Every IsKept) (is_outdated sack f)
        (λ e. h)
        (λ e. trimmed-small (drop (count_acked sack f) (keep_each sack f.queue.inflight.chunks ks))
        (every-left IsKept (count_acked sack f) (keep_each sack f.queue.inflight.chunks ks) (keep-small f.queue.inflight.chunks ks a h)))

    -- what comes back
    with-kept : (c : ChunkPayloadData) (k : Option (List ℕ)) → IsSmall c → IsKept k → IsSmall (restored_with k c)
    with-kept c None a b = a
    with-kept c (Some bytes) a b = b

    back-small : (ks : List (Option (List ℕ))) (cs : List ChunkPayloadData) → Every IsSmall cs → Every IsKept ks
        → Every IsSmall (restored (back_each sack cs ks) cs)
    back-small [] [] a b = tt
    back-small [] (c ∷ cs) a b = a
    back-small (k ∷ ks) [] a b = tt
    back-small (k ∷ ks) (c ∷ cs) a b =
        (at-if (λ o. IsSmall (restored_with o c)) (takes_back sack c) (λ e. with-kept c k a.0 b.0) (λ e. a.0), back-small ks cs a.1 b.1)

    back-queue : (f : Flight) (o : Option (List (Option (List ℕ)))) → EachIs IsSmall IsSmall f.queue → AreKept o
        → EachIs IsSmall IsSmall (with_restored (back_by sack f o) f).queue
    back-queue f None a h = record { ordered = a.ordered; unordered = a.unordered; inflight = a.inflight }
    back-queue f (Some ks) a h = record {
      ordered = a.ordered;
      unordered = a.unordered;
      inflight = at-if (λ bs. Every IsSmall (restored bs f.queue.inflight.chunks)) (is_outdated sack f)
          (λ e. a.inflight) (λ e. back-small ks f.queue.inflight.chunks a.inflight h);
    }

  -- ## Streams

  pub changed-cut : (p : OutboundStream → Bool) (f : OutboundStream → OutboundStream) → ((l : OutboundStream) → (f l).max_payload_size ≡ l.max_payload_size)
      → (ls : List OutboundStream) → Every IsCutStream ls → Every IsCutStream (change_where p f ls)
  changed-cut p f same ls h = every-changed IsCutStream p f (λ l _ i. subst (λ m. m ≤ n) (sym (same l)) i) ls h

  expiry-same : (unordered : Bool) (bytes : ℕ) (l : OutboundStream) → (after_expiry unordered bytes l).max_payload_size ≡ l.max_payload_size
  expiry-same true bytes l = refl
  expiry-same false bytes l = refl

  released-cut : (rs : List Released) (ls : List OutboundStream) → Every IsCutStream ls → Every IsCutStream (after_releases rs ls)
  released-cut [] ls h = h
  released-cut (r ∷ rs) ls h = released-cut rs (change_where (has_number r.stream) (less_by r.bytes) ls)
      (changed-cut (has_number r.stream) (less_by r.bytes) (λ l. refl) ls h)

  left-cut : (gs : List AbandonedMessage) (ls : List OutboundStream) → Every IsCutStream ls → Every IsCutStream (after_leaving gs ls)
  left-cut [] ls h = h
  left-cut (g ∷ gs) ls h = left-cut gs (change_where (has_number g.stream) (less_by g.bytes) ls)
      (changed-cut (has_number g.stream) (less_by g.bytes) (λ l. refl) ls h)

  returned-cut : (rs : List TakenBack) (ls : List OutboundStream) → Every IsCutStream ls → Every IsCutStream (after_returns rs ls)
  returned-cut [] ls h = h
  returned-cut (r ∷ rs) ls h = returned-cut rs (change_where (has_number r.stream) (more_by r.bytes) ls)
      (changed-cut (has_number r.stream) (more_by r.bytes) (λ l. refl) ls h)

  -- ## A sender

  pub record Small (t : Transmission) : Type 0 where
    pub size : t.fragment_size ≤ n
    pub streams : Every IsCutStream t.streams
    pub queue : EachIs IsSmall IsSmall t.flight.queue
    pub kept : AreKept t.kept

  acked-small : (sack : Sack) (t : Transmission) → Small t → Small (after_acked sack t)
  acked-small sack t s = record {
    size = s.size;
    streams = released-cut (released_by sack t.flight) t.streams s.streams;
    queue = sacked IsSmall IsSmall sack (λ c _ i. omega arith) t.flight s.queue;
    kept = kept-small sack t.flight t.kept s.queue.inflight s.kept;
  }

  returned-small : (sack : Sack) (t : Transmission) → Small t → Small (after_take_back sack t)
  returned-small sack t s = record {
    size = s.size;
    streams = returned-cut (taken_back_by sack t) t.streams s.streams;
    queue = back-queue sack t.flight t.kept s.queue s.kept;
    kept = s.kept;
  }

  pub new-small : (tsn size most : ℕ) → size ≤ n → Small (new_sender tsn size most)
  new-small tsn size most few = record { size = few; streams = tt; queue = record { ordered = tt; unordered = tt; inflight = tt }; kept = tt }

  pub resized : (size : ℕ) (t : Transmission) → size ≤ n → Small t → Small (with_fragment_size size t)
  resized size t few s =
      record { size = few; streams = every-made IsCutStream (with_size size) (λ l. few) t.streams; queue = s.queue; kept = s.kept }

  pub resized-empty : (size : ℕ) (t : Transmission) → size ≤ n → HoldsNothing t → Small (with_fragment_size size t)
  resized-empty size t few none = record {
    size = few;
    streams = every-made IsCutStream (with_size size) (λ l. few) t.streams;
    queue = record {
      ordered = subst (Every IsSmall) (sym none.ordered) tt;
      unordered = subst (Every IsSmall) (sym none.unordered) tt;
      inflight = subst (Every IsSmall) (sym none.inflight) tt;
    };
    kept = by t.kept none.kept;
  }
    where
      by : (o : Option (List (Option (List ℕ)))) → IfSome o (λ ks. ks ≡ []) → AreKept o
      by None e = tt
      by (Some ks) e = subst (Every IsKept) (sym e) tt

  -- ## Its calls

  module _ (t u : Transmission) (s : Small t) where
    keeps : Keeps IsSmall IsSmall t
    keeps = record {
      start = λ now c i. i;
      lower = λ c i. i;
      put = λ now c i. i;
      mark = λ f k c i. subst (λ m. m ≤ n) (sym (ap (λ (d : ChunkPayloadData). length d.user_data) (k c))) i;
      leave = λ c i. omega arith;
      end' = λ tsn c i. omega arith;
      acknowledge = λ c i. omega arith;
    }

    same : u ≡ t → Small u
    same e = subst Small (sym e) s

    -- by a call that writes nothing, and leaves what is kept and how long fragments are
    calm : (call : SenderCall) → is_write call ≡ false → SenderMakes call t u → (v : Transmission) → u ≡ v → v.fragment_size ≡ t.fragment_size
        → v.kept ≡ t.kept → Every IsCutStream v.streams → Small u
    calm call o m v e size kept ls = record {
      size = subst (λ m. m ≤ n) (sym (ap (λ (w : Transmission). w.fragment_size) e ∙ size)) s.size;
      streams = subst (λ (w : Transmission). Every IsCutStream w.streams) (sym e) ls;
      queue = each-call IsSmall IsSmall t keeps s.queue u call o m.0 m.1.0;
      kept = subst AreKept (sym (ap (λ (w : Transmission). w.kept) e ∙ kept)) s.kept;
    }

    pub stays-small : (call : SenderCall) → size_set call ≤ n → SenderMakes call t u → Small u
    stays-small (opens stream) z m = calm (opens stream) refl m _ m.0 refl refl (every-joined IsCutStream t.streams _ s.streams (s.size, tt))
    stays-small (sets_mode stream unordered reliability value) z m = calm (sets_mode stream unordered reliability value) refl m _ m.0 refl refl
        (changed-cut (has_number stream) (with_mode unordered reliability value) (λ l. refl) t.streams s.streams)
    stays-small (sets_low stream bytes) z m = calm (sets_low stream bytes) refl m _ m.0 refl refl
        (changed-cut (has_number stream) (with_low bytes) (λ l. refl) t.streams s.streams)
    stays-small (sets_size size) z m = subst Small (sym m.0) (resized size t z s)
    stays-small (writes stream ppi []) z m = same (m.1.0.0 refl)
    stays-small (writes stream ppi (b ∷ bs)) z m =
        let l = accepted-stream stream (length (b ∷ bs)) t m.1.1.0 in
        let cut : l.0.max_payload_size ≤ n = every-found IsCutStream (has_number stream) t.streams l.0 l.1 s.streams in
        subst Small (sym (m.1.0.1 (omega arith) l.0 l.1)) (record {
          size = s.size;
          streams = changed-cut (has_number stream) (wrote ppi (b ∷ bs)) (λ k. refl) t.streams s.streams;
          queue = pushed IsSmall IsSmall IsSmall IsSmall (λ c i. i) (λ c i. i) (fragments_with_mode l.0 ppi (b ∷ bs)) t.flight.queue
              (each-fragment IsSmall l.0 ppi (b ∷ bs)
              (λ i. let p = short-piece (length (b ∷ bs)) l.0.max_payload_size (b ∷ bs) i in omega (arith, cut, p))) s.queue;
          kept = s.kept;
        })
    stays-small (starts now) z m = calm (starts now) refl m _ m.0 refl refl s.streams
    stays-small (reserves more) z m = calm (reserves more) refl m _ m.0 refl refl s.streams
    stays-small (sends now) z m = calm (sends now) refl m _ m.1.0 refl refl s.streams
    stays-small (resends tsn now c) z m = calm (resends tsn now c) refl m _ m.0 refl refl s.streams
    stays-small marks z m = calm marks refl m _ m.0 refl refl s.streams
    stays-small (misses count) z m = calm (misses count) refl m _ m.0 refl refl s.streams
    stays-small (abandons tsn a) z m = calm (abandons tsn a) refl m _ m.1.0 refl refl
        (changed-cut (has_number a.stream) (less_by a.bytes) (λ l. refl) t.streams s.streams)
    stays-small (expires now None) z m = same (m.1.0.1.1 refl)
    stays-small (expires now (Some e)) z m =
        let i = expired-one now e t u m.1.0 in
        calm (expires now (Some e)) refl m _ i.2 refl refl
        (changed-cut (has_number i.0.stream_identifier) (after_expiry i.0.unordered e.bytes) (expiry-same i.0.unordered e.bytes) t.streams s.streams)
    stays-small (expires_tail now None) z m = same (m.1.0.1 refl)
    stays-small (expires_tail now (Some a)) z m = calm (expires_tail now (Some a)) refl m _ m.1.0.0 refl refl
        (changed-cut (has_number a.stream) (less_by a.bytes) (λ l. refl) t.streams s.streams)
    stays-small (expires_late now gone) z m = calm (expires_late now gone) refl m _ m.1.0 refl refl
        (left-cut (leaving_each (late_order now t.flight) t.flight) t.streams s.streams)
    stays-small (expires_rexmit gone) z m = calm (expires_rexmit gone) refl m _ m.1.0 refl refl
        (left-cut (leaving_each (worn_order t.flight) t.flight) t.streams s.streams)
    stays-small (forwards tsn f) z m = same m.1.0
    stays-small (forwards_within bytes f) z m = same m.1.0
    stays-small (takes_sack sack gone) z m = subst Small (sym m.1.0) (acked-small sack t s)

  -- calls one after another
  each-small : (cs : List SenderCall) (t u : Transmission) → Every (λ c. size_set c ≤ n) cs → SenderMakesEach cs t u → Small t → Small u
  each-small [] t u z r s = subst Small (sym r) s
  each-small (c ∷ cs) t u z r s = each-small cs r.0 u z.1 r.1.1 (stays-small t r.0 s c z.0 r.1.0)

  pub asked-small : (stream : ℕ) (call : SenderCall) (t u : Transmission) → size_set call ≤ n → SenderMakesEach (calls_on stream call t) t u
      → Small t → Small u
  asked-small stream call t u z r s =
      each-small (calls_on stream call t) t u
      (at-if (Every (λ c. size_set c ≤ n)) (is_open stream t) (λ e. (z, tt)) (λ e. (omega arith, (z, tt)))) r s

  -- no call by which a sender sends sets the size
  none-set : (c : SenderCall) → is_sending c ≡ true → size_set c ≤ n
  none-set (sets_size size) h = absurd (false≢true h)
  none-set _ h = omega arith

  pub sent-small : (cs : List SenderCall) (ms : List Made) (t u : Transmission) → Runs SendsBy made_by cs ms t u → Small t → Small u
  sent-small [] ms t u r s = subst Small (sym r.1) s
  sent-small (c ∷ cs) ms t u r s =
      sent-small cs r.later r.mid u r.rest (stays-small t r.mid s c (none-set c r.made.0) r.made.1)

  -- ## What comes

  hears-small : (x : Hearing) (t u : Transmission) → Hears x t u → Small t → Small u
  hears-small (acks sack back gone) t u h s = subst Small (sym h.exact) (acked-small sack (after_take_back sack t) (returned-small sack t s))
  hears-small (passes tsn gone) t u h s = stays-small t u s (takes_sack (without_blocks tsn) gone) (omega arith) h
  hears-small (counts count) t u h s = stays-small t u s (misses count) (omega arith) h
  hears-small (restarts stream) t u h s = subst Small (sym h.1) (record {
    size = s.size;
    streams = changed-cut (has_number stream) from_first (λ l. refl) t.streams s.streams;
    queue = s.queue;
    kept = s.kept;
  })

  abbrev size-of : Arrival → ℕ
  size-of (renews tsn size most) = size
  size-of _ = 0

  module _ (d : List ℕ) (a b : Association) (few : fragment_size a.config.mtu ≤ n) where
    came-one : (call : Arrival) (x y : Halves) → IsBegunBy d a b call → Does call x y → Small x.sender → Small y.sender
    came-one (receives call) x y r h s = subst Small (sym h.0) s
    came-one (hears call) x y r h s = hears-small call x.sender y.sender h.1 s
    came-one (begins tsn most limits) x y r h s = subst Small (sym h.1.0) s
    came-one (renews tsn size most) x y r h s =
        subst Small (sym h.1) (new-small tsn size most (subst (λ m. m ≤ n) (sym (ap size-of r.is)) few))

    pub came-small : (calls : List Arrival) (x y : Halves) → Steps (IsBroughtAs (IsBegunBy d a b) d) Does calls x y → Small x.sender → Small y.sender
    came-small [] x y r s = subst (λ (h : Halves). Small h.sender) (sym r) s
    came-small (c ∷ calls) x y r s = came-small calls r.0 y r.1.1 (came-one c x r.0 r.1.0.asked.rule r.1.0.does s)

  -- ## As the law says it

  pub small-of : (t : Transmission) → IsSized n t → Small t
  small-of t h = record {
    size = h.size;
    streams = every-of-all IsCutStream t.streams h.streams;
    queue = record {
      ordered = every-of-all IsSmall t.flight.queue.pending.ordered h.ordered;
      unordered = every-of-all IsSmall t.flight.queue.pending.unordered h.unordered;
      inflight = every-of-all IsSmall t.flight.queue.inflight.chunks h.inflight;
    };
    kept = by t.kept h.kept;
  }
    where
      by : (o : Option (List (Option (List ℕ)))) → AreSmallKept n o → AreKept o
      by None h = tt
      by (Some ks) h = every-of-all IsKept ks h

  pub of-small : (t : Transmission) → Small t → IsSized n t
  of-small t s = record {
    size = s.size;
    streams = all-of-every IsCutStream t.streams s.streams;
    ordered = all-of-every IsSmall t.flight.queue.pending.ordered s.queue.ordered;
    unordered = all-of-every IsSmall t.flight.queue.pending.unordered s.queue.unordered;
    inflight = all-of-every IsSmall t.flight.queue.inflight.chunks s.queue.inflight;
    kept = by t.kept s.kept;
  }
    where
      by : (o : Option (List (Option (List ℕ)))) → AreKept o → AreSmallKept n o
      by None h = tt
      by (Some ks) h = all-of-every IsKept ks h

-- ## More

greater : (mtu next : ℕ) → mtu ≤ next → fragment_size mtu ≤ fragment_size next
greater mtu next le = omega (arith, le)

module _ (n m : ℕ) (le : n ≤ m) where
  more-kept : (o : Option (List (Option (List ℕ)))) → AreKept n o → AreKept m o
  more-kept None h = tt
  more-kept (Some ks) h = every-of (IsKept n) (IsKept m) one ks h
    where
      one : (k : Option (List ℕ)) → IsKept n k → IsKept m k
      one None h = tt
      one (Some bytes) h = omega (arith, h, le)

  abbrev more-each : (cs : List ChunkPayloadData) → Every (IsSmall n) cs → Every (IsSmall m) cs
  more-each cs h = every-of (IsSmall n) (IsSmall m) (λ c i. omega (arith, i, le)) cs h

  pub more-small : (t : Transmission) → Small n t → Small m t
  more-small t s = record {
    size = (let h = s.size in omega (arith, h, le));
    streams = every-of (IsCutStream n) (IsCutStream m) (λ l i. omega (arith, i, le)) t.streams s.streams;
    queue = record {
      ordered = more-each t.flight.queue.pending.ordered s.queue.ordered;
      unordered = more-each t.flight.queue.pending.unordered s.queue.unordered;
      inflight = more-each t.flight.queue.inflight.chunks s.queue.inflight;
    };
    kept = more-kept t.kept s.kept;
  }

-- ## An association

abbrev size-in : Association → ℕ
size-in a = fragment_size a.config.mtu

same-size : (a b : Association) → b.config ≡ a.config → size-in b ≡ size-in a
same-size a b e = ap (λ (c : Config). fragment_size c.mtu) e

-- packets are as long as before
then-cut : (a b : Association) → b.config ≡ a.config → Small (size-in a) b.outbound.sender → IsCut b
then-cut a b e s = subst (λ m. IsSized m b.outbound.sender) (sym (same-size a b e)) (of-small (size-in a) b.outbound.sender s)

before : (a : Association) → IsCut a → Small (size-in a) a.outbound.sender
before a h = small-of (size-in a) a.outbound.sender h

pub each-first : EachIsCutFirst
each-first c tsn most a config e =
    let n = fragment_size c.mtu in
    let few : n ≤ n = omega arith in
    subst (λ (k : Config). IsSized (fragment_size k.mtu) a.outbound.sender) (sym config)
    (subst (λ (x : Halves). IsSized n x.sender) (sym e) (of-small n (new_sender tsn n most) (new-small n tsn n most few)))

pub each-ask : EachAskIsCut
each-ask stream call a b r z config h =
    then-cut a b config (asked-small (size-in a) stream call a.outbound.sender b.outbound.sender z r (before a h))

-- fragments of as many bytes or more; or the sender held nothing
pub each-size : EachSizeIsCut
each-size mtu a b r config lower h =
    let few : fragment_size mtu ≤ fragment_size mtu = omega arith in
    subst (λ m. IsSized (fragment_size m) b.outbound.sender) (sym config)
    (of-small (fragment_size mtu) b.outbound.sender (subst (Small (fragment_size mtu)) (sym r.sender)
    (elim (cases_lt mtu a.config.mtu) [
      | inl lt ↦ resized-empty (fragment_size mtu) (fragment_size mtu) a.outbound.sender few (lower lt)
      | inr ge ↦ resized (fragment_size mtu) (fragment_size mtu) a.outbound.sender few
          (more-small (size-in a) (fragment_size mtu) (greater a.config.mtu mtu ge) a.outbound.sender (before a h))
    ])))

pub each-timeout : EachTimeoutIsCut
each-timeout now a b r config h = then-cut a b config (by (expires_t3 now a) r.sender)
  where
    by : (e : Bool) → b.outbound.sender ≡ (if e then marked a.outbound.sender else a.outbound.sender) → Small (size-in a) b.outbound.sender
    by true e = stays-small (size-in a) a.outbound.sender b.outbound.sender (before a h) marks (omega arith) (e, (tt, (tt, tt)))
    by false e = subst (Small (size-in a)) (sym e) (before a h)

pub each-poll : EachPollIsCut
each-poll is_sent a b r config h =
    then-cut a b config (sent-small (size-in a) r.sent.calls r.made a.outbound.sender b.outbound.sender r.sent.run (before a h))

pub each-datagram : EachDatagramIsCut
each-datagram d a b f h =
    let few : size-in a ≤ size-in a = omega arith in
    then-cut a b f.config (came-small (size-in a) d a b few f.arrives.calls (halves_of a) (halves_of b) f.arrives.run (before a h))

pub each-other : EachOtherIsCut
each-other a b e config h = then-cut a b config (subst (Small (size-in a)) (sym e) (before a h))

-- ## What fits

-- with its padding, and behind the 16 bytes of a DATA chunk
padded-fits : (mtu len : ℕ) → 32 ≤ mtu → len ≤ fragment_size mtu → nat_le (16 + padded_length len) (mtu - 12) ≡ true
padded-fits mtu len least short = grind (arith, nat_tests)

pub each-fits : EachChunkFits
each-fits a least h =
    let t = a.outbound.sender in
    record {
      ordered = those t.flight.queue.pending.ordered h.ordered;
      unordered = those t.flight.queue.pending.unordered h.unordered;
      inflight = those t.flight.queue.inflight.chunks h.inflight;
    }
  where
    those : (cs : List ChunkPayloadData) → AreSmall (size-in a) cs → All (λ c. fits (a.config.mtu - 12) c ≡ true) cs
    those cs s k d lt = padded-fits a.config.mtu (length (get_or cs k d).user_data) least (s k d lt)
