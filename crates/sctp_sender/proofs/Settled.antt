-- What was acknowledged has no bytes, and stays so.
use Rattle.sctp_sender.proofs.Names.{◌≡◌, ℕ, zero, suc, ◌+◌, Bool, true, false, List, [], ◌∷◌, ◌++◌, length, map, Option, Some, None, refl, ap, sym, subst, ◌∙◌}
use Rattle.sctp_sender.proofs.Names.{arith, Result, Ok, Err, IsOk, OnErr, OnOk, if◌then◌else◌, ◌==◌, ◌&&◌, ◌||◌, not, find, sum_by-cons, none-some, filter}
use Rattle.sctp_sender.proofs.Names.{change_where, insert_before, at_or_before, distance, not_both, ChunkPayloadData, PayloadProtocolIdentifier, Sack}
use Rattle.sctp_sender.proofs.Names.{as_acknowledged, as_abandoned, is_of, is_outstanding, with_retransmit, Outbound, abandoned_of, all_started, append_chunks}
use Rattle.sctp_sender.proofs.Names.{terminal_chunk, expired_of, as_sent, sent_next, sent_of, total_bytes, with_terminal_chunk, with_message, with_message_id}
use Rattle.sctp_sender.proofs.Names.{is_in_blocks, past, Pending, closed_up, front_of, is_to_start, last_removed, list_of, list_to_pop, one_lower, next_pending}
use Rattle.sctp_sender.proofs.Names.{next_pending_of, rest_from, rest_of, start_pending, with_deadline, without, bytes_of, chunk_before, has_tsn, is_on}
use Rattle.sctp_sender.proofs.Names.{Released, SenderRefusal, OutboundStream, Flight, after_sack, can_resend, is_outdated, is_outstanding_in, is_whole}
use Rattle.sctp_sender.proofs.Names.{released_by, released_of, reports_anew, resent, take_sack, message_to_abandon, abandoned_at, abandoned_each}
use Rattle.sctp_sender.proofs.Names.{fragments_with_mode, with_reliability, after_misses, all_marked, can_miss, missed, resent_at, fragment_at, fragments_of}
use Rattle.sctp_sender.proofs.Names.{AreSettled, IsAllSettled, bytes_in}
use Rattle.std.specs.Prelude.{drop, take, slice_get}
use Rattle.sctp_outbound.specs.payload_queue.PayloadQueue as payload
use Rattle.sctp_sender.specs.Totals.{IsSettled}

-- ## Lists

inserted-settled : (before : ChunkPayloadData → ChunkPayloadData → Bool) (x : ChunkPayloadData) (cs : List ChunkPayloadData) → IsSettled x → AreSettled cs
    → AreSettled (insert_before before x cs)
inserted-settled before x [] sx s = (sx, s)
inserted-settled before x (c ∷ cs) sx s = by (before x c) (inserted-settled before x cs sx s.1)
  where
    by : (b : Bool) → AreSettled (insert_before before x cs) → AreSettled (if b then x ∷ c ∷ cs else c ∷ insert_before before x cs)
    by true ih = (sx, s)
    by false ih = (s.0, ih)

those-settled : (p : ChunkPayloadData → Bool) (cs : List ChunkPayloadData) → AreSettled cs → AreSettled (filter p cs)
those-settled p [] s = s
those-settled p (c ∷ cs) s = by (p c) (those-settled p cs s.1)
  where
    by : (b : Bool) → AreSettled (filter p cs) → AreSettled (if b then c ∷ filter p cs else filter p cs)
    by true ih = (s.0, ih)
    by false ih = ih

changed-settled : (p : ChunkPayloadData → Bool) (f : ChunkPayloadData → ChunkPayloadData) → ((c : ChunkPayloadData) → IsSettled c → IsSettled (f c))
    → (cs : List ChunkPayloadData) → AreSettled cs → AreSettled (change_where p f cs)
changed-settled p f keep [] s = s
changed-settled p f keep (c ∷ cs) s = (by (p c), changed-settled p f keep cs s.1)
  where
    by : (b : Bool) → IsSettled (if b then f c else c)
    by true = keep c s.0
    by false = s.0

joined-settled : (xs ys : List ChunkPayloadData) → AreSettled xs → AreSettled ys → AreSettled (xs ++ ys)
joined-settled [] ys s t = t
joined-settled (x ∷ xs) ys s t = (s.0, joined-settled xs ys s.1 t)

front-of-settled : (n : ℕ) (xs : List ChunkPayloadData) → AreSettled xs → AreSettled (take n xs)
front-of-settled zero xs s = tt
front-of-settled (suc n) [] s = tt
front-of-settled (suc n) (x ∷ xs) s = (s.0, front-of-settled n xs s.1)

rest-of-list-settled : (n : ℕ) (xs : List ChunkPayloadData) → AreSettled xs → AreSettled (drop n xs)
rest-of-list-settled zero xs s = s
rest-of-list-settled (suc n) [] s = tt
rest-of-list-settled (suc n) (x ∷ xs) s = rest-of-list-settled n xs s.1

mapped-settled : {A : Type 0} (f : A → ChunkPayloadData) → ((x : A) → IsSettled (f x)) → (xs : List A) → AreSettled (map f xs)
mapped-settled f all [] = tt
mapped-settled f all (x ∷ xs) = (all x, mapped-settled f all xs)

front-settled : (xs : List ChunkPayloadData) (c : ChunkPayloadData) → slice_get xs 0 ≡ Some c → AreSettled xs → IsSettled c
front-settled [] c e s = absurd (none-some c e)
front-settled (x ∷ xs) c e s = let same : x ≡ c = cc in subst IsSettled same s.0

-- ## What waits

abbrev Waits : Pending → Type 0
Waits q = AreSettled q.ordered × AreSettled q.unordered

peeked-settled : (sel : Option _) (q : Pending) (c : ChunkPayloadData) → next_pending_of sel q ≡ Some c → Waits q → IsSettled c
peeked-settled (Some s) q c e w = by s.unordered e
  where
    by : (b : Bool) → slice_get (list_of b q) 0 ≡ Some c → IsSettled c
    by true h = front-settled q.unordered c h w.1
    by false h = front-settled q.ordered c h w.0
peeked-settled None q c e w = by q.unordered e w.1
  where
    by : (us : List ChunkPayloadData) → front_of us q.ordered ≡ Some c → AreSettled us → IsSettled c
    by [] h s = front-settled q.ordered c h w.0
    by (u ∷ us) h s = let same : u ≡ c = cc in subst IsSettled same s.0

rest-of-settled : (b : Bool) (q : Pending) (cs : List ChunkPayloadData) → AreSettled cs → Waits q → Waits (rest_of b q cs)
rest-of-settled true q [] s w = w
rest-of-settled false q [] s w = w
rest-of-settled true q (c ∷ cs) s w = (w.0, s.1)
rest-of-settled false q (c ∷ cs) s w = (s.1, w.1)

rest-settled : (k : Option Bool) (q : Pending) → Waits q → Waits (rest_from k q)
rest-settled None q w = w
rest-settled (Some true) q w = rest-of-settled true q q.unordered w.1 w
rest-settled (Some false) q w = rest-of-settled false q q.ordered w.0 w

-- ## The calls

pub message-settled : (cs : List ChunkPayloadData) (q : Outbound) → AreSettled cs → IsAllSettled q → IsAllSettled (with_message cs q)
message-settled [] q s a = a
message-settled (c ∷ cs) q s a = by c.unordered
  where
    n : ℕ
    n = q.next_message_id

    renamed : (xs : List ChunkPayloadData) → AreSettled xs → AreSettled (map (with_message_id n) xs)
    renamed [] t = t
    renamed (x ∷ xs) t = (t.0, renamed xs t.1)

    by : (b : Bool) → IsAllSettled (record q { pending = append_chunks b (map (with_message_id n) (c ∷ cs)) q.pending; next_message_id = n + 1 })
    by true = record {
      ordered = a.ordered;
      unordered = joined-settled q.pending.unordered (map (with_message_id n) (c ∷ cs)) a.unordered (renamed (c ∷ cs) s);
      inflight = a.inflight;
    }
    by false = record {
      ordered = joined-settled q.pending.ordered (map (with_message_id n) (c ∷ cs)) a.ordered (renamed (c ∷ cs) s);
      unordered = a.unordered;
      inflight = a.inflight;
    }

pub fragments-settled : (l : OutboundStream) (ppi : PayloadProtocolIdentifier) (bytes : List ℕ) → AreSettled (fragments_with_mode l ppi bytes)
fragments-settled l ppi bytes = moded (fragments_of l ppi bytes) (mapped-settled (fragment_at l ppi bytes) (λ i e. absurd (not_both e)) _)
  where
    moded : (xs : List ChunkPayloadData) → AreSettled xs → AreSettled (map (with_reliability l.reliability_type l.reliability_value) xs)
    moded [] t = t
    moded (x ∷ xs) t = (t.0, moded xs t.1)

pub started-settled : (now : ℕ) (q : Outbound) → IsAllSettled q → IsAllSettled (all_started now q)
started-settled now q a = by (q.next_unstarted == q.next_message_id)
  where
    by : (b : Bool) → IsAllSettled (if b then q else record q { pending = start_pending q.next_unstarted now q.pending; next_unstarted = q.next_message_id })
    by true = a
    by false = record {
      ordered = changed-settled (is_to_start q.next_unstarted) (with_deadline now) (λ c s. s) q.pending.ordered a.ordered;
      unordered = changed-settled (is_to_start q.next_unstarted) (with_deadline now) (λ c s. s) q.pending.unordered a.unordered;
      inflight = a.inflight;
    }

sent-of-settled : (o : Option ChunkPayloadData) (q : Outbound) (tsn now : ℕ) → next_pending q.pending ≡ o → IsAllSettled q → IsAllSettled (sent_of o q tsn now)
sent-of-settled None q tsn now e a = a
sent-of-settled (Some c) q tsn now e a =
    let rest = rest-settled (list_to_pop q.pending.selected c.beginning_fragment c.unordered) q.pending (a.ordered, a.unordered) in
    record {
      ordered = rest.0;
      unordered = rest.1;
      inflight = inserted-settled chunk_before (as_sent tsn now c) q.inflight.chunks
          (peeked-settled q.pending.selected q.pending c e (a.ordered, a.unordered)) a.inflight;
    }

pub sent-settled : (q : Outbound) (tsn now : ℕ) → IsAllSettled q → IsAllSettled (sent_next q tsn now)
sent-settled q tsn now a = sent-of-settled (next_pending (all_started now q).pending) (all_started now q) tsn now refl (started-settled now q a)

pub abandoned-settled : (o : Option ℕ) (tsn : ℕ) (q : Outbound) → IsAllSettled q → IsAllSettled (abandoned_of o tsn q)
abandoned-settled None tsn q a = a
abandoned-settled (Some m) tsn q a = record {
  ordered = those-settled (λ c. not (is_of m c)) q.pending.ordered a.ordered;
  unordered = those-settled (λ c. not (is_of m c)) q.pending.unordered a.unordered;
  inflight = by (last_removed m q.pending);
}
  where
    left : AreSettled (change_where (is_of m) as_abandoned q.inflight.chunks)
    left = changed-settled (is_of m) as_abandoned (λ c s e. refl) q.inflight.chunks a.inflight

    by : (o : Option ChunkPayloadData)
        → AreSettled (with_terminal_chunk o tsn (payload.with_chunks q.inflight (change_where (is_of m) as_abandoned q.inflight.chunks))).chunks
    by None = left
    by (Some c) = inserted-settled chunk_before (terminal_chunk tsn c) (change_where (is_of m) as_abandoned q.inflight.chunks) (λ e. refl) left

pub each-settled : (tsns : List ℕ) (f : Flight) → IsAllSettled f.queue → IsAllSettled (abandoned_each tsns f).queue
each-settled [] f a = a
each-settled (t ∷ ts) f a = each-settled ts (abandoned_at t f) (abandoned-settled (message_to_abandon t f) f.next_tsn f.queue a)

pub expired-settled : (o : Option ChunkPayloadData) (q : Outbound) → IsAllSettled q → IsAllSettled (expired_of o q)
expired-settled None q a = a
expired-settled (Some c) q a = by c.unordered
  where
    left : Waits (without c.message_id q.pending)
    left = (
      those-settled (λ d. not (is_of c.message_id d)) q.pending.ordered a.ordered,
      those-settled (λ d. not (is_of c.message_id d)) q.pending.unordered a.unordered,
    )

    by : (b : Bool)
        → IsAllSettled (record q { pending = if b then without c.message_id q.pending else closed_up c.stream_identifier (without c.message_id q.pending) })
    by true = record { ordered = left.0; unordered = left.1; inflight = a.inflight }
    by false = record {
      ordered = changed-settled (is_on c.stream_identifier) one_lower (λ d s. s) (without c.message_id q.pending).ordered left.0;
      unordered = left.1;
      inflight = a.inflight;
    }

resent-at-settled : (tsn now : ℕ) (c : ChunkPayloadData) (f : Flight) → IsAllSettled f.queue → IsAllSettled (resent_at tsn now c f).queue
resent-at-settled tsn now c f a =
    record { ordered = a.ordered; unordered = a.unordered; inflight = changed-settled (has_tsn tsn) _ (λ d s. s) f.queue.inflight.chunks a.inflight }

resent-settled : (tsn : ℕ) (c : ChunkPayloadData) (f : Flight) → IsAllSettled f.queue → IsAllSettled (resent tsn c f).queue
resent-settled tsn c f a =
    record { ordered = a.ordered; unordered = a.unordered; inflight = changed-settled (has_tsn tsn) _ (λ d s. s) f.queue.inflight.chunks a.inflight }

pub resend-settled : (tsn now : ℕ) (f g : Flight) (r : Result ChunkPayloadData SenderRefusal)
    → OnOk r ((c : ChunkPayloadData) → find (has_tsn tsn) f.queue.inflight.chunks ≡ Some c → g ≡ resent_at tsn now c f) → (IsOk r → can_resend tsn f ≡ true)
    → OnErr r (g ≡ f) → IsAllSettled f.queue → IsAllSettled g.queue
resend-settled tsn now f g (Ok x) ok may err a = by (find (has_tsn tsn) f.queue.inflight.chunks) refl (may refl)
  where
    by : (o : Option ChunkPayloadData) → find (has_tsn tsn) f.queue.inflight.chunks ≡ o → is_outstanding_in o ≡ true → IsAllSettled g.queue
    by None e h = absurd (not_both h)
    by (Some c) e h = subst (λ (k : Flight). IsAllSettled k.queue) (sym (ok c e)) (resent-at-settled tsn now c f a)
resend-settled tsn now f g (Err e) ok may err a = subst (λ (h : Flight). IsAllSettled h.queue) (sym err) a

pub all-marked-settled : (f : Flight) → IsAllSettled f.queue → IsAllSettled (all_marked f).queue
all-marked-settled f a = record {
  ordered = a.ordered;
  unordered = a.unordered;
  inflight = changed-settled is_outstanding (with_retransmit true) (λ c s. s) f.queue.inflight.chunks a.inflight;
}

pub misses-settled : (count : ℕ) (f : Flight) → IsAllSettled f.queue → IsAllSettled (after_misses count f).queue
misses-settled count f a = record {
  ordered = a.ordered;
  unordered = a.unordered;
  inflight =
      let cs = f.queue.inflight.chunks in
      joined-settled (change_where can_miss missed (take count cs)) (drop count cs)
      (changed-settled can_miss missed (λ c s. s) (take count cs) (front-of-settled count cs a.inflight)) (rest-of-list-settled count cs a.inflight);
}

pub count-settled : (tsn : ℕ) (f g : Flight) → ((c : ChunkPayloadData) → find (has_tsn tsn) f.queue.inflight.chunks ≡ Some c → g ≡ resent tsn c f)
    → (find (has_tsn tsn) f.queue.inflight.chunks ≡ None → g ≡ f) → IsAllSettled f.queue → IsAllSettled g.queue
count-settled tsn f g some none a = by (find (has_tsn tsn) f.queue.inflight.chunks) refl
  where
    by : (o : Option ChunkPayloadData) → find (has_tsn tsn) f.queue.inflight.chunks ≡ o → IsAllSettled g.queue
    by (Some c) e = subst (λ (h : Flight). IsAllSettled h.queue) (sym (some c e)) (resent-settled tsn c f a)
    by None e = subst (λ (h : Flight). IsAllSettled h.queue) (sym (none e)) a

pub sack-settled : (s : Sack) (f : Flight) → IsAllSettled f.queue → IsAllSettled (after_sack s f).queue
sack-settled s f a = by (is_outdated s f)
  where
    by : (b : Bool) → IsAllSettled (if b then f else take_sack s f).queue
    by true = a
    by false = record {
      ordered = a.ordered;
      unordered = a.unordered;
      inflight =
          those-settled (λ c. not (at_or_before c.tsn s.cumulative_tsn_ack)) (change_where (reports_anew s) as_acknowledged f.queue.inflight.chunks)
          (changed-settled (reports_anew s) as_acknowledged (λ c t e. refl) f.queue.inflight.chunks a.inflight);
    }

-- ## What a SACK releases

abbrev size : ChunkPayloadData → ℕ
size c = length c.user_data

abbrev answered : Released → ℕ
answered r = r.bytes

-- a chunk that is reported cumulatively, and not anew, was acknowledged
was-acked : (a b d : Bool) → (not a && (b || d)) ≡ false → b ≡ true → a ≡ true
was-acked true b d e h = refl
was-acked false true d e h = absurd (not_both (sym e))
was-acked false false d e h = absurd (not_both h)

module _ (s : Sack) where
  abbrev after : List ChunkPayloadData → List ChunkPayloadData
  after cs = past s.cumulative_tsn_ack (change_where (reports_anew s) as_acknowledged cs)

  abbrev gone : (ℕ → Bool) → List ChunkPayloadData → List Released
  gone w cs = map (released_of w) (filter (reports_anew s) cs)

  weigh : (w : ℕ → Bool) (cs : List ChunkPayloadData) → AreSettled cs → bytes_of (after cs) + bytes_in (gone w cs) ≡ bytes_of cs
  weigh w [] t = refl
  weigh w (c ∷ cs) t = by (reports_anew s c) refl (weigh w cs t.1)
    where
      all : bytes_of (c ∷ cs) ≡ size c + bytes_of cs
      all = sum_by-cons size c cs

      anew : (k : Bool) → bytes_of (if not k then as_acknowledged c ∷ after cs else after cs) ≡ bytes_of (after cs)
      anew true = refl
      anew false = let e = sum_by-cons size (as_acknowledged c) (after cs) in omega (arith, e)

      other : (k : Bool) → (k ≡ true → size c ≡ 0) → bytes_of (if not k then c ∷ after cs else after cs) ≡ size c + bytes_of (after cs)
      other true none = let z = none refl in omega (arith, z)
      other false none = sum_by-cons size c (after cs)

      by : (b : Bool) → reports_anew s c ≡ b → bytes_of (after cs) + bytes_in (gone w cs) ≡ bytes_of cs
          → bytes_of (past s.cumulative_tsn_ack ((if b then as_acknowledged c else c) ∷ change_where (reports_anew s) as_acknowledged cs))
          + bytes_in (map (released_of w) (if b then c ∷ filter (reports_anew s) cs else filter (reports_anew s) cs)) ≡ bytes_of (c ∷ cs)
      by true e ih =
          let a = anew (at_or_before c.tsn s.cumulative_tsn_ack) in
          let r = sum_by-cons answered (released_of w c) (gone w cs) in
          omega (arith, a, r, ih, all)
      by false e ih =
          let o = other (at_or_before c.tsn s.cumulative_tsn_ack) (λ h.
          t.0 (was-acked c.acked (at_or_before c.tsn s.cumulative_tsn_ack) (is_in_blocks s.gap_ack_blocks (distance s.cumulative_tsn_ack c.tsn)) e h)) in
          omega (arith, o, ih, all)

  pub sack-bytes : (f : Flight) → AreSettled f.queue.inflight.chunks → total_bytes (after_sack s f).queue + bytes_in (released_by s f) ≡ total_bytes f.queue
  sack-bytes f t = by (is_outdated s f)
    where
      by : (b : Bool)
          → total_bytes (if b then f else take_sack s f).queue + bytes_in (if b then [] else gone (is_whole s f) f.queue.inflight.chunks) ≡ total_bytes f.queue
      by true = omega arith
      by false = let w = weigh (is_whole s f) f.queue.inflight.chunks t in omega (arith, w)

  pub after-bytes : (f g : Flight) (items : List Released) → is_outdated s f ≡ false → g ≡ after_sack s f → items ≡ gone (is_whole s f) f.queue.inflight.chunks
      → AreSettled f.queue.inflight.chunks → total_bytes g.queue + bytes_in items ≡ total_bytes f.queue
  after-bytes f g items current is answered-is t =
      let q = ap (λ (h : Flight). total_bytes h.queue) is in
      let r = ap bytes_in answered-is ∙ ap (λ b. bytes_in (if b then [] else gone (is_whole s f) f.queue.inflight.chunks)) (sym current) in
      let w = sack-bytes f t in
      omega (arith, q, r, w)
