-- What can come back stays covered.
use Rattle.sctp_sender.proofs.Names.{◌≡◌, ℕ, ◌+◌, ◌≤◌, Bool, true, false, List, [], ◌∷◌, ◌++◌, length, length-append, map, take, drop, Option, Some, None}
use Rattle.sctp_sender.proofs.Names.{Result, Ok, Err, refl, ap, sym, subst, ◌∙◌, arith, IfSome, IsOk, OnErr, OnOk, if◌then◌else◌, ◌==◌, ◌&&◌, ◌||◌, not, find}
use Rattle.sctp_sender.proofs.Names.{filter, list_any, numbers_from, false≢true, take-append-drop, none-some, change_where, insert_before, distance, and-none}
use Rattle.sctp_sender.proofs.Names.{length-change_where, list_any-append, list_any-those, fails, not_both, ChunkPayloadData, PayloadProtocolIdentifier}
use Rattle.sctp_sender.proofs.Names.{GapAckBlock, as_abandoned, is_of, is_outstanding, with_retransmit, Outbound, abandoned_of, all_started, append_chunks}
use Rattle.sctp_sender.proofs.Names.{terminal_chunk, expired_of, as_sent, sent_next, sent_of, with_terminal_chunk, with_message, with_message_id, is_in_blocks}
use Rattle.sctp_sender.proofs.Names.{Pending, closed_up, front_of, is_to_start, last_removed, list_of, list_to_pop, one_lower, next_pending, next_pending_of}
use Rattle.sctp_sender.proofs.Names.{rest_from, rest_of, start_pending, with_deadline, without, chunk_before, has_tsn, is_on, OutboundStream, fragment_at}
use Rattle.sctp_sender.proofs.Names.{fragments_of, pieces_of, Kept, SenderRefusal, Flight, after_abandonment, can_resend, is_outstanding_in, message_to_abandon}
use Rattle.sctp_sender.proofs.Names.{resent, with_queue, Cover, IsCovered, is_uncovered, restored, with_restored, abandoned_at, abandoned_each}
use Rattle.sctp_sender.proofs.Names.{fragments_with_mode, with_reliability, after_misses, all_marked, can_miss, missed, resent_at}
use Rattle.std.specs.Prelude.{slice_get}
use Rattle.sctp_util.proofs.Edits.{list_any-inserted}
use Rattle.sctp_outbound.specs.payload_queue.PayloadQueue as payload
use Rattle.sctp_sender.proofs.Keepings.{length-restored}

-- ## No element passes a test

pub neither : (a b : Bool) → (a || b) ≡ false → (a ≡ false) × (b ≡ false)
neither false b e = (refl, e)
neither true b e = absurd (not_both (sym e))

nor : (a b : Bool) → a ≡ false → b ≡ false → (a || b) ≡ false
nor false b e h = h
nor true b e h = e

module _ (q : ChunkPayloadData → Bool) where
  none-inserted : (before : ChunkPayloadData → ChunkPayloadData → Bool) (x : ChunkPayloadData) (cs : List ChunkPayloadData) → q x ≡ false
      → list_any q cs ≡ false → list_any q (insert_before before x cs) ≡ false
  none-inserted before x cs e h = list_any-inserted q before x cs ∙ nor (q x) (list_any q cs) e h

  none-those : (p : ChunkPayloadData → Bool) (cs : List ChunkPayloadData) → list_any q cs ≡ false → list_any q (filter p cs) ≡ false
  none-those p cs h = fails (list_any q (filter p cs)) (λ e. false≢true (sym h ∙ list_any-those q p cs e))

  pub none-changed : (p : ChunkPayloadData → Bool) (f : ChunkPayloadData → ChunkPayloadData) → ((c : ChunkPayloadData) → q c ≡ false → q (f c) ≡ false)
      → (cs : List ChunkPayloadData) → list_any q cs ≡ false → list_any q (change_where p f cs) ≡ false
  none-changed p f keep [] h = refl
  none-changed p f keep (c ∷ cs) h =
      let n = neither (q c) (list_any q cs) h in
      nor (q (if p c then f c else c)) (list_any q (change_where p f cs)) (by (p c) n.0) (none-changed p f keep cs n.1)
    where
      by : (b : Bool) → q c ≡ false → q (if b then f c else c) ≡ false
      by true e = keep c e
      by false e = e

  none-joined : (xs ys : List ChunkPayloadData) → list_any q xs ≡ false → list_any q ys ≡ false → list_any q (xs ++ ys) ≡ false
  none-joined xs ys e h = list_any-append q xs ys ∙ nor (list_any q xs) (list_any q ys) e h

  none-parts : (i : ℕ) (xs : List ChunkPayloadData) → list_any q xs ≡ false → (list_any q (take i xs) ≡ false) × (list_any q (drop i xs) ≡ false)
  none-parts i xs h =
      neither (list_any q (take i xs)) (list_any q (drop i xs))
      (sym (list_any-append q (take i xs) (drop i xs)) ∙ ap (list_any q) (take-append-drop i xs) ∙ h)

  none-mapped : {A : Type 0} (f : A → ChunkPayloadData) → ((x : A) → q (f x) ≡ false) → (xs : List A) → list_any q (map f xs) ≡ false
  none-mapped f all [] = refl
  none-mapped f all (x ∷ xs) = nor (q (f x)) (list_any q (map f xs)) (all x) (none-mapped f all xs)

  none-front : (xs : List ChunkPayloadData) (c : ChunkPayloadData) → slice_get xs 0 ≡ Some c → list_any q xs ≡ false → q c ≡ false
  none-front [] c e h = absurd (none-some c e)
  none-front (x ∷ xs) c e h = let same : x ≡ c = cc in ap q (sym same) ∙ (neither (q x) (list_any q xs) h).0

-- ## What waits

record Waits (q : Pending) : Type 0 where
  ordered : list_any (λ c. c.acked) q.ordered ≡ false
  unordered : list_any (λ c. c.acked) q.unordered ≡ false

peeked : (sel : Option _) (q : Pending) (c : ChunkPayloadData) → next_pending_of sel q ≡ Some c → Waits q → c.acked ≡ false
peeked (Some s) q c e w = by s.unordered e
  where
    by : (b : Bool) → slice_get (list_of b q) 0 ≡ Some c → c.acked ≡ false
    by true h = none-front (λ c. c.acked) q.unordered c h w.unordered
    by false h = none-front (λ c. c.acked) q.ordered c h w.ordered
peeked None q c e w = by q.unordered e w.unordered
  where
    by : (us : List ChunkPayloadData) → front_of us q.ordered ≡ Some c → list_any (λ c. c.acked) us ≡ false → c.acked ≡ false
    by [] h s = none-front (λ c. c.acked) q.ordered c h w.ordered
    by (u ∷ us) h s = let same : u ≡ c = cc in ap (λ (c : ChunkPayloadData). c.acked) (sym same) ∙ (neither u.acked (list_any (λ c. c.acked) us) s).0

rest-of-waits : (b : Bool) (q : Pending) (cs : List ChunkPayloadData) → list_any (λ c. c.acked) cs ≡ false → Waits q → Waits (rest_of b q cs)
rest-of-waits true q [] s w = w
rest-of-waits false q [] s w = w
rest-of-waits true q (c ∷ cs) s w = record { ordered = w.ordered; unordered = (neither c.acked (list_any (λ c. c.acked) cs) s).1 }
rest-of-waits false q (c ∷ cs) s w = record { ordered = (neither c.acked (list_any (λ c. c.acked) cs) s).1; unordered = w.unordered }

rest-waits : (k : Option Bool) (q : Pending) → Waits q → Waits (rest_from k q)
rest-waits None q w = w
rest-waits (Some true) q w = rest-of-waits true q q.unordered w.unordered w
rest-waits (Some false) q w = rest-of-waits false q q.ordered w.ordered w

-- ## What is in flight

-- what is left uncovered by none, with as many chunks or more
carried : (o : Option Kept) (f g : Flight) → ((bs : List GapAckBlock) → list_any (is_uncovered bs f.acked_tsn) f.queue.inflight.chunks ≡ false
    → list_any (is_uncovered bs g.acked_tsn) g.queue.inflight.chunks ≡ false)
    → length f.queue.inflight.chunks ≤ length g.queue.inflight.chunks → IfSome o (λ k. Cover k.reported.items k.user_data.items f)
    → IfSome o (λ k. Cover k.reported.items k.user_data.items g)
carried None f g none le v = v
carried (Some k) f g none le v = record {
  ascend = v.ascend;
  each = none k.reported.items v.each;
  within = let w = v.within in omega (arith, w, le);
  trim = v.trim;
}

-- a change that lets no more come back
abbrev Lowers : (ChunkPayloadData → ChunkPayloadData) → Type 0
Lowers h = (bs : List GapAckBlock) (tsn : ℕ) (c : ChunkPayloadData) → is_uncovered bs tsn c ≡ false → is_uncovered bs tsn (h c) ≡ false

changed-covered : (o : Option Kept) (p : ChunkPayloadData → Bool) (h : ChunkPayloadData → ChunkPayloadData) (f g : Flight) → Lowers h
    → g.acked_tsn ≡ f.acked_tsn → g.queue.inflight.chunks ≡ change_where p h f.queue.inflight.chunks → g.queue.pending ≡ f.queue.pending
    → IsCovered o f → IsCovered o g
changed-covered o p h f g lowers tsn is same v = record {
  ordered = ap (λ (q : Pending). list_any (λ c. c.acked) q.ordered) same ∙ v.ordered;
  unordered = ap (λ (q : Pending). list_any (λ c. c.acked) q.unordered) same ∙ v.unordered;
  cover = carried o f g
      (λ bs e. ap (λ cs. list_any (is_uncovered bs g.acked_tsn) cs) is
      ∙ ap (λ t. list_any (is_uncovered bs t) (change_where p h f.queue.inflight.chunks)) tsn
      ∙ none-changed (is_uncovered bs f.acked_tsn) p h (lowers bs f.acked_tsn) f.queue.inflight.chunks e)
      (let n = length-change_where p h f.queue.inflight.chunks in let m = ap length is in omega (arith, n, m)) v.cover;
}

-- ## The calls

pub message-covered : (o : Option Kept) (cs : List ChunkPayloadData) (f : Flight) → list_any (λ c. c.acked) cs ≡ false → IsCovered o f
    → IsCovered o (with_queue f (with_message cs f.queue))
message-covered o [] f s v = v
message-covered o (c ∷ cs) f s v = by c.unordered
  where
    n : ℕ
    n = f.queue.next_message_id

    renamed : (xs : List ChunkPayloadData) → list_any (λ c. c.acked) xs ≡ false → list_any (λ c. c.acked) (map (with_message_id n) xs) ≡ false
    renamed [] t = refl
    renamed (x ∷ xs) t =
        let h = neither x.acked (list_any (λ c. c.acked) xs) t in nor x.acked (list_any (λ c. c.acked) (map (with_message_id n) xs)) h.0 (renamed xs h.1)

    by : (b : Bool) → IsCovered o (with_queue f (record f.queue {
      pending = append_chunks b (map (with_message_id n) (c ∷ cs)) f.queue.pending;
      next_message_id = n + 1;
    }))
    by true = record {
      ordered = v.ordered;
      unordered = none-joined (λ c. c.acked) f.queue.pending.unordered (map (with_message_id n) (c ∷ cs)) v.unordered (renamed (c ∷ cs) s);
      cover = carried o f _ (λ bs e. e) (omega arith) v.cover;
    }
    by false = record {
      ordered = none-joined (λ c. c.acked) f.queue.pending.ordered (map (with_message_id n) (c ∷ cs)) v.ordered (renamed (c ∷ cs) s);
      unordered = v.unordered;
      cover = carried o f _ (λ bs e. e) (omega arith) v.cover;
    }

pub fragments-unacked : (l : OutboundStream) (ppi : PayloadProtocolIdentifier) (bytes : List ℕ) → list_any (λ c. c.acked) (fragments_with_mode l ppi bytes) ≡ false
fragments-unacked l ppi bytes =
    moded (fragments_of l ppi bytes) (none-mapped (λ c. c.acked) (fragment_at l ppi bytes) (λ i. refl) (numbers_from 0 (length (pieces_of l bytes))))
  where
    moded : (xs : List ChunkPayloadData) → list_any (λ c. c.acked) xs ≡ false
        → list_any (λ c. c.acked) (map (with_reliability l.reliability_type l.reliability_value) xs) ≡ false
    moded [] t = refl
    moded (x ∷ xs) t =
        let h = neither x.acked (list_any (λ c. c.acked) xs) t in
        nor x.acked (list_any (λ c. c.acked) (map (with_reliability l.reliability_type l.reliability_value) xs)) h.0 (moded xs h.1)

pub started-covered : (o : Option Kept) (now : ℕ) (f : Flight) → IsCovered o f → IsCovered o (with_queue f (all_started now f.queue))
started-covered o now f v = by (f.queue.next_unstarted == f.queue.next_message_id)
  where
    q : Outbound
    q = f.queue

    by : (b : Bool) → IsCovered o (with_queue f (if b then q else record q {
      pending = start_pending q.next_unstarted now q.pending;
      next_unstarted = q.next_message_id;
    }))
    by true = v
    by false = record {
      ordered = none-changed (λ c. c.acked) (is_to_start q.next_unstarted) (with_deadline now) (λ c s. s) q.pending.ordered v.ordered;
      unordered = none-changed (λ c. c.acked) (is_to_start q.next_unstarted) (with_deadline now) (λ c s. s) q.pending.unordered v.unordered;
      cover = carried o f _ (λ bs e. e) (omega arith) v.cover;
    }

inserted-length : (before : ChunkPayloadData → ChunkPayloadData → Bool) (x : ChunkPayloadData) (cs : List ChunkPayloadData)
    → length cs ≤ length (insert_before before x cs)
inserted-length before x [] = omega arith
inserted-length before x (c ∷ cs) = by (before x c) (inserted-length before x cs)
  where
    by : (b : Bool) → length cs ≤ length (insert_before before x cs)
        → length (c ∷ cs) ≤ length (if b then x ∷ c ∷ cs else c ∷ insert_before before x cs)
    by true h = omega arith
    by false h = omega (arith, h)

abbrev with_next : ℕ → Outbound → Flight → Flight
with_next next q f = record f { queue = q; next_tsn = next }

sent-of-covered : (o : Option Kept) (sent : Option ChunkPayloadData) (f : Flight) (tsn now next : ℕ) → next_pending f.queue.pending ≡ sent → IsCovered o f
    → IsCovered o (with_next next (sent_of sent f.queue tsn now) f)
sent-of-covered o None f tsn now next e v = record { ordered = v.ordered; unordered = v.unordered; cover = carried o f _ (λ bs h. h) (omega arith) v.cover }
sent-of-covered o (Some c) f tsn now next e v =
    let w : Waits f.queue.pending = record { ordered = v.ordered; unordered = v.unordered } in
    let rest = rest-waits (list_to_pop f.queue.pending.selected c.beginning_fragment c.unordered) f.queue.pending w in
    let open' : c.acked ≡ false = peeked f.queue.pending.selected f.queue.pending c e w in
    record {
      ordered = rest.ordered;
      unordered = rest.unordered;
      cover = carried o f _
          (λ bs h. none-inserted (is_uncovered bs f.acked_tsn) chunk_before (as_sent tsn now c) f.queue.inflight.chunks
          (ap (λ a. (a && not c.abandoned) && not (is_in_blocks bs (distance f.acked_tsn tsn))) open') h)
          (inserted-length chunk_before (as_sent tsn now c) f.queue.inflight.chunks) v.cover;
    }

pub sent-covered : (o : Option Kept) (f : Flight) (now next : ℕ) → IsCovered o f → IsCovered o (with_next next (sent_next f.queue f.next_tsn now) f)
sent-covered o f now next v = sent-of-covered o (next_pending (all_started now f.queue).pending) (with_queue f (all_started now f.queue)) f.next_tsn now next
    refl (started-covered o now f v)

abandoned-lowers : Lowers as_abandoned
abandoned-lowers bs tsn c e = ap (λ a. a && not (is_in_blocks bs (distance tsn c.tsn))) (and-none c.acked)

abandoned-covered : (o : Option Kept) (m : Option ℕ) (f : Flight) (next : ℕ) → IsCovered o f
    → IsCovered o (with_next next (abandoned_of m f.next_tsn f.queue) f)
abandoned-covered o None f next v = record { ordered = v.ordered; unordered = v.unordered; cover = carried o f _ (λ bs h. h) (omega arith) v.cover }
abandoned-covered o (Some m) f next v = record {
  ordered = none-those (λ c. c.acked) (λ c. not (is_of m c)) q.pending.ordered v.ordered;
  unordered = none-those (λ c. c.acked) (λ c. not (is_of m c)) q.pending.unordered v.unordered;
  cover = carried o f _ (λ bs h. by (last_removed m q.pending) bs h) (long (last_removed m q.pending)) v.cover;
}
  where
    q : Outbound
    q = f.queue

    xs : List ChunkPayloadData
    xs = change_where (is_of m) as_abandoned q.inflight.chunks

    by : (t : Option ChunkPayloadData) (bs : List GapAckBlock) → list_any (is_uncovered bs f.acked_tsn) q.inflight.chunks ≡ false
        → list_any (is_uncovered bs f.acked_tsn) (with_terminal_chunk t f.next_tsn (payload.with_chunks q.inflight xs)).chunks ≡ false
    by None bs h = none-changed (is_uncovered bs f.acked_tsn) (is_of m) as_abandoned (abandoned-lowers bs f.acked_tsn) q.inflight.chunks h
    by (Some c) bs h = none-inserted (is_uncovered bs f.acked_tsn) chunk_before (terminal_chunk f.next_tsn c) xs
        (ap (λ a. a && not (is_in_blocks bs (distance f.acked_tsn f.next_tsn))) (and-none c.acked))
        (none-changed (is_uncovered bs f.acked_tsn) (is_of m) as_abandoned (abandoned-lowers bs f.acked_tsn) q.inflight.chunks h)

    long : (t : Option ChunkPayloadData) → length q.inflight.chunks ≤ length (with_terminal_chunk t f.next_tsn (payload.with_chunks q.inflight xs)).chunks
    long None = let n = length-change_where (is_of m) as_abandoned q.inflight.chunks in omega (arith, n)
    long (Some c) =
        let n = length-change_where (is_of m) as_abandoned q.inflight.chunks in
        let i = inserted-length chunk_before (terminal_chunk f.next_tsn c) xs in omega (arith, n, i)

pub after-abandonment-covered : (o : Option Kept) (m : Option ℕ) (f : Flight) → IsCovered o f → IsCovered o (after_abandonment m f)
after-abandonment-covered o m f v = abandoned-covered o m f (after_abandonment m f).next_tsn v

pub each-covered : (o : Option Kept) (tsns : List ℕ) (f : Flight) → IsCovered o f → IsCovered o (abandoned_each tsns f)
each-covered o [] f v = v
each-covered o (t ∷ ts) f v = each-covered o ts (abandoned_at t f) (after-abandonment-covered o (message_to_abandon t f) f v)

pub expired-covered : (o : Option Kept) (e : Option ChunkPayloadData) (f : Flight) → IsCovered o f → IsCovered o (with_queue f (expired_of e f.queue))
expired-covered o None f v = v
expired-covered o (Some c) f v = by c.unordered
  where
    q : Outbound
    q = f.queue

    left : Waits (without c.message_id q.pending)
    left = record {
      ordered = none-those (λ d. d.acked) (λ d. not (is_of c.message_id d)) q.pending.ordered v.ordered;
      unordered = none-those (λ d. d.acked) (λ d. not (is_of c.message_id d)) q.pending.unordered v.unordered;
    }

    by : (b : Bool) → IsCovered o (with_queue f (record q {
      pending = if b then without c.message_id q.pending else closed_up c.stream_identifier (without c.message_id q.pending);
    }))
    by true = record { ordered = left.ordered; unordered = left.unordered; cover = carried o f _ (λ bs h. h) (omega arith) v.cover }
    by false = record {
      ordered = none-changed (λ d. d.acked) (is_on c.stream_identifier) one_lower (λ d s. s) (without c.message_id q.pending).ordered left.ordered;
      unordered = left.unordered;
      cover = carried o f _ (λ bs h. h) (omega arith) v.cover;
    }

pub resend-covered : (o : Option Kept) (tsn now : ℕ) (f g : Flight) (r : Result ChunkPayloadData SenderRefusal)
    → OnOk r ((c : ChunkPayloadData) → find (has_tsn tsn) f.queue.inflight.chunks ≡ Some c → g ≡ resent_at tsn now c f) → (IsOk r → can_resend tsn f ≡ true)
    → OnErr r (g ≡ f) → IsCovered o f → IsCovered o g
resend-covered o tsn now f g (Ok x) ok may err v = by (find (has_tsn tsn) f.queue.inflight.chunks) refl (may refl)
  where
    by : (found : Option ChunkPayloadData) → find (has_tsn tsn) f.queue.inflight.chunks ≡ found → is_outstanding_in found ≡ true → IsCovered o g
    by None e h = absurd (not_both h)
    by (Some c) e h =
        subst (IsCovered o) (sym (ok c e)) (changed-covered o (has_tsn tsn) _ f (resent_at tsn now c f) (λ bs t d s. s) refl refl refl v)
resend-covered o tsn now f g (Err e) ok may err v = subst (IsCovered o) (sym err) v

pub all-marked-covered : (o : Option Kept) (f : Flight) → IsCovered o f → IsCovered o (all_marked f)
all-marked-covered o f v = changed-covered o is_outstanding (with_retransmit true) f (all_marked f) (λ bs t d s. s) refl refl refl v

pub misses-covered : (o : Option Kept) (count : ℕ) (f : Flight) → IsCovered o f → IsCovered o (after_misses count f)
misses-covered o count f v = record {
  ordered = v.ordered;
  unordered = v.unordered;
  cover = carried o f (after_misses count f) (λ bs h.
      let p = none-parts (is_uncovered bs f.acked_tsn) count cs h in
      none-joined (is_uncovered bs f.acked_tsn) (change_where can_miss missed (take count cs)) (drop count cs)
      (none-changed (is_uncovered bs f.acked_tsn) can_miss missed (λ c s. s) (take count cs) p.0) p.1)
      (let n = ap length (take-append-drop count cs) in
      let a = length-append (take count cs) (drop count cs) in
      let b = length-append (change_where can_miss missed (take count cs)) (drop count cs) in
      let m = length-change_where can_miss missed (take count cs) in omega (arith, n, a, b, m)) v.cover;
}
  where
    cs : List ChunkPayloadData
    cs = f.queue.inflight.chunks

pub count-covered : (o : Option Kept) (tsn : ℕ) (f g : Flight)
    → ((c : ChunkPayloadData) → find (has_tsn tsn) f.queue.inflight.chunks ≡ Some c → g ≡ resent tsn c f)
    → (find (has_tsn tsn) f.queue.inflight.chunks ≡ None → g ≡ f) → IsCovered o f → IsCovered o g
count-covered o tsn f g some none v = by (find (has_tsn tsn) f.queue.inflight.chunks) refl
  where
    by : (found : Option ChunkPayloadData) → find (has_tsn tsn) f.queue.inflight.chunks ≡ found → IsCovered o g
    by (Some c) e = subst (IsCovered o) (sym (some c e)) (changed-covered o (has_tsn tsn) _ f (resent tsn c f) (λ bs t d s. s) refl refl refl v)
    by None e = subst (IsCovered o) (sym (none e)) v

-- what comes back is not acknowledged
pub restored-covered : (o : Option Kept) (bs : List (Option (List ℕ))) (f : Flight) → IsCovered o f → IsCovered o (with_restored bs f)
restored-covered o bs f v = record {
  ordered = v.ordered;
  unordered = v.unordered;
  cover = carried o f (with_restored bs f) (λ blocks h. left blocks bs f.queue.inflight.chunks h)
      (let n = length-restored bs f.queue.inflight.chunks in omega (arith, n)) v.cover;
}
  where
    left : (blocks : List GapAckBlock) (bs : List (Option (List ℕ))) (cs : List ChunkPayloadData) → list_any (is_uncovered blocks f.acked_tsn) cs ≡ false
        → list_any (is_uncovered blocks f.acked_tsn) (restored bs cs) ≡ false
    left blocks [] cs h = h
    left blocks (b ∷ bs) [] h = refl
    left blocks (None ∷ bs) (c ∷ cs) h =
        let n = neither (is_uncovered blocks f.acked_tsn c) (list_any (is_uncovered blocks f.acked_tsn) cs) h in
        nor (is_uncovered blocks f.acked_tsn c) (list_any (is_uncovered blocks f.acked_tsn) (restored bs cs)) n.0 (left blocks bs cs n.1)
    left blocks (Some bytes ∷ bs) (c ∷ cs) h =
        left blocks bs cs (neither (is_uncovered blocks f.acked_tsn c) (list_any (is_uncovered blocks f.acked_tsn) cs) h).1
