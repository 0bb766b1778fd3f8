-- What an event leaves of a link's streams, bytes and datagrams.
use Rattle.sctp_link.proofs.Names.{◌≡◌, ℕ, List, [], ◌∷◌, ◌++◌, length, Some, None, refl, ap, sym, ◌∙◌, arith, length-append, slice_get, slice_index_or, subst}
use Rattle.sctp_link.proofs.Names.{slice_get_within, get-snoc_old, get-snoc_new, get-last, slice-front, by_last, Event, LinkRecord, contents_of, refusal_of}
use Rattle.sctp_link.proofs.Names.{after, shape, begun_on, Indexed, SendsNone, counted-after, OpenStream, IsDatagram, State, IsOpenStream, IsLinked}
use Rattle.sctp_link.proofs.Names.{stats_of, some-same, says-still, StreamRecord, Outbound, Filter, RefinesOutbound, filter_shown, filter_of, IsApart}
use Rattle.sctp_link.proofs.Names.{stream_numbers, reply_to, StandsFor, stands-then, outbound-same, same-self, SameStream, ◌<◌}
use Rattle.sctp_model.specs.LinkRecord as W
use Rattle.sctp_link.proofs.upkeep.Facts.{facts}
use Rattle.sctp_link.proofs.sender.Beginning.{index_kept, indexed-of}

-- ## A stream

pub stream-with : {w v : LinkRecord} (l : OpenStream) (n : ℕ) → SameStream w v l.state.stream_identifier → n ≡ begun_on v l.state.stream_identifier
    → IsOpenStream w l → IsOpenStream v (record l { begun = n })
stream-with l n f e i = record {
  held = i.held ∙ sym f.held;
  si = i.si;
  largest = i.largest ∙ ap (λ t. t.largest) (sym f.setup);
  size = i.size ∙ ap (λ t. t.size) (sym f.setup);
  ordered = i.ordered ∙ sym f.ordered;
  number = i.number;
  begun = e;
  next = i.next ∙ sym f.next;
  amount = i.amount ∙ sym f.amount;
  stats = i.stats ∙ ap stats_of (sym f.counters);
}

pub stream-same : {w v : LinkRecord} (l : OpenStream) → SameStream w v l.state.stream_identifier
    → begun_on v l.state.stream_identifier ≡ begun_on w l.state.stream_identifier → IsOpenStream w l → IsOpenStream v l
stream-same l f same i = stream-with l l.begun f (i.begun ∙ sym same) i

-- ## What an event leaves

module _ {sum : List ℕ → ℕ} {x : State} (l : IsLinked sum x) (e : Event) (ok : refusal_of x.recorded e ≡ None) where
  abbrev w : LinkRecord
  w = x.recorded

  abbrev v : LinkRecord
  v = after x.recorded e

  -- a datagram that was there
  pub encoding-old : (k : ℕ) (d : List ℕ) (g : W.Datagram) → slice_get w.network k ≡ Some g → slice_get v.network k ≡ Some g
      → IsDatagram sum (contents_of v g) (slice_index_or x.datagrams k d)
  encoding-old k d g old new =
      subst (λ c. IsDatagram sum c (slice_index_or x.datagrams k d)) (sym (says-still (facts l) e ok k g g old new)) (l.encodings k d g old)

  -- no datagram is made
  pub encodings-same : v.network ≡ w.network → (k : ℕ) (d : List ℕ) (g : W.Datagram) → slice_get v.network k ≡ Some g
      → IsDatagram sum (contents_of v g) (slice_index_or x.datagrams k d)
  encodings-same same k d g e' = encoding-old k d g (ap (λ n. slice_get n k) (sym same) ∙ e') e'

  -- one more datagram
  pub encodings-more : (n : W.Datagram) (bytes : List ℕ) → v.network ≡ w.network ++ n ∷ [] → length x.datagrams ≡ length w.network
      → IsDatagram sum (contents_of v n) bytes → (k : ℕ) (d : List ℕ) (g : W.Datagram) → slice_get v.network k ≡ Some g
      → IsDatagram sum (contents_of v g) (slice_index_or (x.datagrams ++ bytes ∷ []) k d)
  encodings-more n bytes more count is k d g e' =
      by_last {P = IsDatagram sum (contents_of v g) (slice_index_or (x.datagrams ++ bytes ∷ []) k d)} k (length w.network)
      (omega (arith, slice_get_within v.network k g e', ap length more, length-append w.network (n ∷ [])))
      (λ lt. subst (IsDatagram sum (contents_of v g)) (sym (get-snoc_old x.datagrams bytes k d (λ z. absurd (omega (arith, lt, z, count)))))
      (encoding-old k d g (sym (slice-front w.network (n ∷ []) k lt) ∙ ap (λ ds. slice_get ds k) (sym more) ∙ e') e'))
      (λ z. subst (λ g. IsDatagram sum (contents_of v g) (slice_index_or (x.datagrams ++ bytes ∷ []) k d))
      (some-same (sym (get-last w.network n) ∙ ap (λ ds. slice_get ds (length w.network)) (sym more) ∙ ap (slice_get v.network) (sym z) ∙ e'))
      (subst (IsDatagram sum (contents_of v n))
      (sym (ap (λ j. slice_index_or (x.datagrams ++ bytes ∷ []) j d) (z ∙ sym count) ∙ get-snoc_new x.datagrams bytes d)) is))

  pub indexed-kept : SendsNone e → Indexed (shape v) (index_kept x.progress)
  indexed-kept none = (counted-after w.setup w e (index_kept x.progress) (begun_on w) ok (facts l).consistent none
      (record { indexed = indexed-of l; begun = λ s. refl })).indexed

-- ## Messages, slots and what was taken of them are as they were

module _ {sum : List ℕ → ℕ} {x : State} (l : IsLinked sum x) (e : Event) (ok : refusal_of x.recorded e ≡ None) where
  pub linked-beside : (rs : List StreamRecord) (ds : List W.Datagram) (us : List ℕ)
      → after x.recorded e ≡ record x.recorded { streams = rs; network = ds; duplicates = us } → (open_streams : List OpenStream) (datagrams : List (List ℕ))
      (q : Outbound) (filter : Filter) → RefinesOutbound x.recorded q → x.unstarted ≡ q.next_unstarted
      → filter_shown filter ≡ filter_of (record x.recorded { streams = rs; network = ds; duplicates = us }) → ((k : ℕ) (d : OpenStream)
      → k < length open_streams → IsOpenStream (record x.recorded { streams = rs; network = ds; duplicates = us }) (slice_index_or open_streams k d))
      → IsApart (stream_numbers open_streams) → ((k : ℕ) (d : List ℕ) (g : W.Datagram) → slice_get ds k ≡ Some g
      → IsDatagram sum (contents_of (record x.recorded { streams = rs; network = ds; duplicates = us }) g) (slice_index_or datagrams k d))
      → IsLinked sum (record x {
        recorded = record x.recorded { streams = rs; network = ds; duplicates = us };
        open_streams = open_streams;
        datagrams = datagrams;
        outbound = q;
        filter = filter;
      })
  linked-beside rs ds us is open_streams datagrams q filter refines begun shown each apart says =
      let v : LinkRecord = record x.recorded { streams = rs; network = ds; duplicates = us } in
      record {
        setup = l.setup;
        history = (e, reply_to x.recorded e) ∷ l.history;
        stands = subst (λ u. StandsFor x.recorded.setup u ((e, reply_to x.recorded e) ∷ l.history)) is (stands-then e ok l.stands);
        outbound = outbound-same x.recorded v (same-self x.recorded v refl refl refl refl) q refines;
        unstarted = begun;
        filter = shown;
        next = l.next;
        acked = l.acked;
        fragments = l.fragments;
        written = l.written;
        sents = l.sents;
        indexes = l.indexes;
        low = l.low;
        open_streams = each;
        apart = apart;
        encodings = says;
      }

  -- one more datagram, of the same streams
  pub linked-more : (n : W.Datagram) (us bytes : List ℕ) (q : Outbound) (filter : Filter)
      → after x.recorded e ≡ record x.recorded { network = x.recorded.network ++ n ∷ []; duplicates = us } → RefinesOutbound x.recorded q
      → x.unstarted ≡ q.next_unstarted → filter_shown filter ≡ filter_of (record x.recorded { network = x.recorded.network ++ n ∷ []; duplicates = us })
      → length x.datagrams ≡ length x.recorded.network
      → IsDatagram sum (contents_of (record x.recorded { network = x.recorded.network ++ n ∷ []; duplicates = us }) n) bytes → IsLinked sum (record x {
        recorded = record x.recorded { network = x.recorded.network ++ n ∷ []; duplicates = us };
        datagrams = x.datagrams ++ bytes ∷ [];
        outbound = q;
        filter = filter;
      })
  linked-more n us bytes q filter is refines begun shown count says =
      linked-beside x.recorded.streams (x.recorded.network ++ n ∷ []) us is x.open_streams (x.datagrams ++ bytes ∷ []) q filter refines begun shown
      (λ k d lt. stream-same (slice_index_or x.open_streams k d)
      (record { setup = refl; held = refl; ordered = refl; next = refl; amount = refl; counters = refl }) refl (l.open_streams k d lt)) l.apart
      (subst (λ (v : LinkRecord). (k : ℕ) (d : List ℕ) (g : W.Datagram) → slice_get v.network k ≡ Some g
      → IsDatagram sum (contents_of v g) (slice_index_or (x.datagrams ++ bytes ∷ []) k d)) is (encodings-more l e ok n bytes
      (ap (λ (v : LinkRecord). v.network) is) count (subst (λ (v : LinkRecord). IsDatagram sum (contents_of v n) bytes) (sym is) says)))

-- another name for the record
pub moved : (sum : List ℕ → ℕ) (y : State) (v : LinkRecord) → y.recorded ≡ v → IsLinked sum (record y { recorded = v }) → IsLinked sum y
moved sum y v e l = subst (λ u. IsLinked sum (record y { recorded = u })) (sym e) l
