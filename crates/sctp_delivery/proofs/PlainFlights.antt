-- What calls make of what is in flight, beside what they would make of it if no gap ack block were taken.
use Rattle.sctp_delivery.proofs.Names.{common_steps, ◌≡◌, ℕ, ◌<◌, ◌≤◌, ◌+◌, ◌^◌, false, not, List, [], ◌∷◌, ◌++◌, length, map, drop, refl, ap, ap₂, sym, subst}
use Rattle.sctp_delivery.proofs.Names.{◌∙◌, arith, Option, Some, None, option_map, if◌then◌else◌, ◌&&◌, nat_lt, nat_le, filter, find, change_where}
use Rattle.sctp_delivery.proofs.Names.{insert_before, sum_by-cons, sum_by-inserted, negated, not_both, nat_tests, length-change_where, length-map, bytes_of}
use Rattle.sctp_delivery.proofs.Names.{removed_le, ChunkPayloadData, Sack, as_abandoned, as_acknowledged, as_sent, is_of, terminal_chunk, with_terminal_chunk}
use Rattle.sctp_delivery.proofs.Names.{chunk_before, tsns, following_tsn, has_tsn, is_on, comes_before, at_or_before, distance, last_of, ends, past, past-is}
use Rattle.sctp_delivery.proofs.Names.{IsRunFrom, tsns_from, changed-run, tsn, Flight, after_abandonment, after_sack, is_outdated, message_to_abandon}
use Rattle.sctp_delivery.proofs.Names.{to_abandon, reports_anew, sack_refusal, Outbound, all_started, sent_next, sent_of, with_inflight, total_bytes}
use Rattle.sctp_delivery.proofs.Names.{last_removed, next_pending, SenderRefusal, send_refusal, is_ordered_on, past_number, begins_ordered, ahead}
use Rattle.sctp_delivery.proofs.Names.{advanced_ack_point, can_skip_to, skip_end, is_end, ends_in, is_kept, is_named, last_end, named_up_to, Name, pairs_of}
use Rattle.sctp_delivery.proofs.Names.{ChunkForwardTsnStream, started-inflight}
use Rattle.std.specs.Prelude.{unwrap_or}
use Rattle.sctp_outbound.specs.payload_queue.PayloadQueue as payload
use Rattle.sctp_outbound.specs.outbound_queue.OutboundQueue.{sent_peeked}
use Rattle.sctp_serial.specs.DataChunks.{preceding_tsn}
use Rattle.sctp_sender.specs.Flight.{count_acked, with_queue}
use Rattle.sctp_sender.specs.Keeping.{keep_each, kept_after, trimmed}
use Rattle.sctp_sender.specs.Numbers.{refusal_of}
use Rattle.sctp_sender.specs.Totals.{AreSettled}
use Rattle.sctp_sender.specs.declared.sender.refusal.SenderRefusal.TheVariants.{SsnsUsedUp, TsnsUsedUp}
use Rattle.sctp_sender.proofs.Keepings.{taken-within}
use Rattle.sctp_delivery.proofs.Cases.{at-if}
use Rattle.sctp_delivery.proofs.Every.{Every, every-all, every-tested}
use Rattle.sctp_delivery.proofs.GivenTsns.{IsNumbered}
use Rattle.sctp_delivery.proofs.Plain.{Are, AreLike, rest_of, IsBareSack, IsLike, IsLikeBehind, are-changed, are-behind, are-left, are-long, are-plain}
use Rattle.sctp_delivery.proofs.Plain.{are-reported, are-so, are-trimmed, are-tsns, blind-same, found-plain, last-plain, like-abandoned, like-itself}
use Rattle.sctp_delivery.proofs.Plain.{passing-plain, plain, take-plain}
use Rattle.sctp_sender.proofs.InLine.{put-behind}
use Rattle.sctp_delivery.proofs.QueueChunks.{peeked, removed}
use Rattle.sctp_delivery.proofs.TsnPlaces.{tsn-small}
use Rattle.sctp_delivery.proofs.ValidMarks.{IsFresh, IsUnmarked}

-- the same, with these chunks in flight
abbrev pub flight_with : Flight → List ChunkPayloadData → Flight
flight_with f ds = with_queue f (with_inflight f.queue ds)

abbrev pub chunks_of : Flight → List ChunkPayloadData
chunks_of f = f.queue.inflight.chunks

count : (xs : List ChunkPayloadData) → length (tsns xs) ≡ length xs
count xs = length-map xs (λ c. c.tsn)

-- ## What a call finds

module _ (f : Flight) (ks : List (Option (List ℕ))) (ds : List ChunkPayloadData) (a : AreLike ks f.queue.inflight.chunks ds) where
  e : map plain f.queue.inflight.chunks ≡ map plain ds
  e = are-plain ks f.queue.inflight.chunks ds a

  pub send-same : send_refusal (flight_with f ds) ≡ send_refusal f
  send-same = by (next_pending f.queue.pending)
    where
      test : ChunkPayloadData → ℕ → ℕ → Option SenderRefusal
      test c n d =
          if not (nat_lt (n + 1) (2 ^ 31)) then Some TsnsUsedUp
          else (if begins_ordered c && (nat_le (2 ^ 14) n && nat_le (2 ^ 14) d) then Some SsnsUsedUp else None)

      by : (o : Option ChunkPayloadData) → refusal_of o (flight_with f ds) ≡ refusal_of o f
      by None = refl
      by (Some c) = sym (ap₂ (test c) (are-long ks f.queue.inflight.chunks ds a)
          (blind-same (λ o. past_number o c) (λ x. refl) (find (is_ordered_on c.stream_identifier) f.queue.inflight.chunks)
          (find (is_ordered_on c.stream_identifier) ds)
          (found-plain (is_ordered_on c.stream_identifier) (λ x. refl) f.queue.inflight.chunks ds e)))

  pub abandon-same : (t : ℕ) → message_to_abandon t (flight_with f ds) ≡ message_to_abandon t f
  abandon-same t =
      sym (blind-same to_abandon (λ c. refl) (find (has_tsn t) f.queue.inflight.chunks) (find (has_tsn t) ds)
      (found-plain (has_tsn t) (λ x. refl) f.queue.inflight.chunks ds e))

  point-same : advanced_ack_point (flight_with f ds) ≡ advanced_ack_point f
  point-same =
      sym (blind-same (λ o. preceding_tsn (unwrap_or (option_map (λ (c : ChunkPayloadData). c.tsn) o) f.next_tsn)) (λ c. refl)
      (find is_kept f.queue.inflight.chunks) (find is_kept ds) (found-plain is_kept (λ x. refl) f.queue.inflight.chunks ds e))

  pub can-same : (t : ℕ) → can_skip_to t (flight_with f ds) ≡ can_skip_to t f
  can-same t = ap (λ u. nat_lt 0 (distance f.acked_tsn t) && nat_le (distance f.acked_tsn t) (distance f.acked_tsn u)) point-same

  pub end-same : (t : ℕ) → is_end t (flight_with f ds) ≡ is_end t f
  end-same t = ap₂ (λ b c. b && c) (can-same t)
      (sym (blind-same ends_in (λ c. refl) (find (has_tsn t) f.queue.inflight.chunks) (find (has_tsn t) ds)
      (found-plain (has_tsn t) (λ x. refl) f.queue.inflight.chunks ds e)))

  pub skip-same : (t : ℕ) → skip_end t (flight_with f ds) ≡ skip_end t f
  skip-same t = ap₂ (λ b o. if b then o else None) (can-same t)
      (sym (blind-same (option_map (λ (c : ChunkPayloadData). c.tsn)) (λ c. refl) (last_end t f) (last_end t (flight_with f ds))
      (last-plain _ _ (passing-plain ends (λ c. refl) _ _ (take-plain (ahead f t) f.queue.inflight.chunks ds e)))))

  pub named-both : (t s : ℕ) → pairs_of (last_of (filter (is_on s) (named_up_to t f)))
      ≡ pairs_of (last_of (filter (is_on s) (named_up_to t (flight_with f ds))))
  named-both t s =
      blind-same pairs_of (λ c. refl) (last_of (filter (is_on s) (named_up_to t f))) (last_of (filter (is_on s) (named_up_to t (flight_with f ds))))
      (last-plain _ _ (passing-plain (is_on s) (λ c. refl) _ _ (passing-plain is_named (λ c. refl) _ _ (take-plain (ahead f t) f.queue.inflight.chunks ds e))))

  pub named-same : (pairs : List ChunkForwardTsnStream) (t : ℕ) → Name pairs (named_up_to t f) → Name pairs (named_up_to t (flight_with f ds))
  named-same pairs t h s = h s ∙ named-both t s

-- ## A message leaves

pub gone-same : (o : Option ℕ) (f : Flight) (ds : List ChunkPayloadData)
    → after_abandonment o (flight_with f ds) ≡ flight_with (after_abandonment o f) (chunks_of (after_abandonment o (flight_with f ds)))
gone-same h0 h1 h2 = grind (arith, nat_tests, common_steps)

module _ (p n : ℕ) (f : Flight) (ks : List (Option (List ℕ))) (ds : List ChunkPayloadData) (a : AreLike ks f.queue.inflight.chunks ds) (few : n < 2 ^ 31)
    (h : IsNumbered p n (flight_with f ds)) where
  -- a chunk with the next TSN goes to the end of both
  are-put : (x : ChunkPayloadData) → x.tsn ≡ f.next_tsn → ((k : Option (List ℕ)) → IsLike k x x) → (cs es : List ChunkPayloadData) → tsns es ≡ tsns ds
      → AreLike ks cs es → AreLike ks (insert_before chunk_before x cs) (insert_before chunk_before x es)
  are-put x is like cs es same b =
      let first = tsn p (h.acked + 1) in
      let long : length es ≡ length ds = sym (count es) ∙ ap length same ∙ count ds in
      let longer = are-long ks cs es b in
      let total = h.total in
      let run : IsRunFrom first es = same ∙ h.run ∙ ap (tsns_from first) (sym long) in
      subst (λ xs. AreLike ks (insert_before chunk_before x cs) xs)
      (sym (put-behind x es first (tsn-small p (h.acked + 1)) (omega (arith, long, total, few)) run
      (omega (arith, is, h.next_is, total, long))))
      (subst (λ xs. AreLike ks xs (es ++ x ∷ [])) (sym (put-behind x cs first (tsn-small p (h.acked + 1)) (omega (arith, long, longer, total, few))
      (are-tsns ks cs es b ∙ run ∙ ap (tsns_from first) (sym longer)) (omega (arith, is, h.next_is, total, long, longer))))
      (are-behind IsLike x x like ks cs es b))

  pub are-gone : IsFresh f.queue → (o : Option ℕ) → AreLike ks (chunks_of (after_abandonment o f)) (chunks_of (after_abandonment o (flight_with f ds)))
  are-gone fresh None = a
  are-gone fresh (Some m) = by (last_removed m f.queue.pending) refl
    where
      marked : AreLike ks (change_where (is_of m) as_abandoned f.queue.inflight.chunks) (change_where (is_of m) as_abandoned ds)
      marked =
          are-changed IsLike (is_of m) (is_of m) as_abandoned as_abandoned (λ k c d i. ap (is_of m) (sym i.same)) like-abandoned ks f.queue.inflight.chunks ds a

      by : (o : Option ChunkPayloadData) → last_removed m f.queue.pending ≡ o
          → AreLike ks
          (with_terminal_chunk o f.next_tsn (payload.with_chunks f.queue.inflight (change_where (is_of m) as_abandoned f.queue.inflight.chunks))).chunks
          (with_terminal_chunk o f.next_tsn (payload.with_chunks f.queue.inflight (change_where (is_of m) as_abandoned ds))).chunks
      by None _ = marked
      by (Some c) i =
          are-put (terminal_chunk f.next_tsn c) refl
          (λ k. like-itself k (terminal_chunk f.next_tsn c) (removed IsUnmarked m f.queue.pending c i (fresh.ordered, fresh.unordered)).0)
          (change_where (is_of m) as_abandoned f.queue.inflight.chunks) (change_where (is_of m) as_abandoned ds)
          (changed-run (is_of m) as_abandoned (λ c. refl) ds) marked

-- no more bytes wait and are in flight than before
pub fewer-bytes : (o : Option ℕ) (f : Flight) → total_bytes (after_abandonment o f).queue ≤ total_bytes f.queue
fewer-bytes None f = omega arith
fewer-bytes (Some m) f =
    let a = removed_le (λ c. not (is_of m c)) f.queue.pending.ordered in
    let b = removed_le (λ c. not (is_of m c)) f.queue.pending.unordered in
    let c = ended (last_removed m f.queue.pending) (change_where (is_of m) as_abandoned f.queue.inflight.chunks) in
    let d = marked f.queue.inflight.chunks in
    omega (arith, a, b, c, d)
  where
    size : ChunkPayloadData → ℕ
    size c = length c.user_data

    marked : (cs : List ChunkPayloadData) → bytes_of (change_where (is_of m) as_abandoned cs) ≤ bytes_of cs
    marked [] = omega arith
    marked (c ∷ cs) =
        let x = sum_by-cons size c cs in
        let y = sum_by-cons size (if is_of m c then as_abandoned c else c) (change_where (is_of m) as_abandoned cs) in
        let z : size (if is_of m c then as_abandoned c else c) ≤ size c = at-if (λ x. size x ≤ size c) (is_of m c) (λ _. omega arith) (λ _. omega arith) in
        let r = marked cs in
        omega (arith, x, y, z, r)

    ended : (o : Option ChunkPayloadData) (cs : List ChunkPayloadData)
        → bytes_of (with_terminal_chunk o f.next_tsn (payload.with_chunks f.queue.inflight cs)).chunks ≡ bytes_of cs
    ended None cs = refl
    ended (Some c) cs = let e = sum_by-inserted size chunk_before (terminal_chunk f.next_tsn c) cs in omega (arith, e)

-- ## Lifetimes start, and a chunk is sent

pub started-same : (now : ℕ) (q : Outbound) (ds : List ChunkPayloadData) → all_started now (with_inflight q ds) ≡ with_inflight (all_started now q) ds
started-same now q ds = grind (arith, nat_tests, common_steps)

pub next-same : (q : Outbound) (ds : List ChunkPayloadData) (t now : ℕ)
    → sent_next (with_inflight q ds) t now ≡ with_inflight (sent_next q t now) (sent_next (with_inflight q ds) t now).inflight.chunks
next-same q ds t now = grind (arith, nat_tests, common_steps)

module _ (p n : ℕ) (f : Flight) (ks : List (Option (List ℕ))) (ds : List ChunkPayloadData) (a : AreLike ks f.queue.inflight.chunks ds) (few : n < 2 ^ 31)
    (h : IsNumbered p n (flight_with f ds)) (now : ℕ) (fresh : IsFresh (all_started now f.queue)) where
  pub are-sent : AreLike ks (sent_next f.queue f.next_tsn now).inflight.chunks (sent_next (with_inflight f.queue ds) f.next_tsn now).inflight.chunks
  are-sent =
      subst (λ w. AreLike ks (sent_next f.queue f.next_tsn now).inflight.chunks (sent_peeked w f.next_tsn now).inflight.chunks)
      (sym (started-same now f.queue ds))
      (by (next_pending (all_started now f.queue).pending) refl)
    where
      started : (all_started now f.queue).inflight ≡ f.queue.inflight
      started = started-inflight now f.queue

      b : AreLike ks (all_started now f.queue).inflight.chunks ds
      b = subst (λ (w : payload.Payload). AreLike ks w.chunks ds) (sym started) a

      by : (o : Option ChunkPayloadData) → next_pending (all_started now f.queue).pending ≡ o
          → AreLike ks (sent_of o (all_started now f.queue) f.next_tsn now).inflight.chunks
          (sent_of o (with_inflight (all_started now f.queue) ds) f.next_tsn now).inflight.chunks
      by None _ = b
      by (Some c) i =
          are-put p n f ks ds a few h (as_sent f.next_tsn now c) refl
          (λ k. like-itself k (as_sent f.next_tsn now c)
          (peeked IsUnmarked (all_started now f.queue).pending.selected (all_started now f.queue).pending c i (fresh.ordered, fresh.unordered)).0)
          (all_started now f.queue).inflight.chunks ds refl b

-- ## A SACK

module _ (s k : Sack) (f : Flight) (ds : List ChunkPayloadData) (bare : IsBareSack s k) where
  pub outdated-same : is_outdated k (flight_with f ds) ≡ is_outdated s f
  outdated-same = ap (λ t. comes_before t f.acked_tsn) bare.same

  pub sack-same : after_sack k (flight_with f ds) ≡ flight_with (after_sack s f) (chunks_of (after_sack k (flight_with f ds)))
  sack-same = grind (arith, nat_tests, common_steps)

  -- it is taken where the other is
  pub refusal-same : length ds ≡ length f.queue.inflight.chunks → sack_refusal s f ≡ None → sack_refusal k (flight_with f ds) ≡ None
  refusal-same long none = grind (arith, nat_tests)

module _ (s k : Sack) (bare : IsBareSack s k) (p n : ℕ) (f : Flight) (ks : List (Option (List ℕ))) (ds : List ChunkPayloadData)
    (a : AreLike ks f.queue.inflight.chunks ds) (few : n < 2 ^ 31) (h : IsNumbered p n (flight_with f ds)) (fits : s.cumulative_tsn_ack < 2 ^ 32)
    (taken : sack_refusal s f ≡ None) where
  abbrev cs' : List ChunkPayloadData
  cs' = change_where (reports_anew s) as_acknowledged f.queue.inflight.chunks

  abbrev ds' : List ChunkPayloadData
  ds' = change_where (reports_anew k) as_acknowledged ds

  abbrev first : ℕ
  first = following_tsn f.acked_tsn

  first-is : first ≡ tsn p (h.acked + 1)
  first-is = let i = h.acked_is in omega (arith, i)

  long : length f.queue.inflight.chunks ≡ length ds
  long = are-long ks f.queue.inflight.chunks ds a

  run : IsRunFrom first ds
  run = subst (λ t. IsRunFrom t ds) (sym first-is) h.run

  -- those past the cumulative TSN are the last of them
  cut : is_outdated s f ≡ false → (xs : List ChunkPayloadData) → length xs ≡ length ds → tsns xs ≡ tsns ds
      → past s.cumulative_tsn_ack xs ≡ drop (count_acked s f) xs
  cut current xs same same-tsns = grind (arith, nat_tests, common_steps, tsn-small, taken-within, past-is, long, run)

  current-sacked : is_outdated s f ≡ false → AreLike (trimmed (drop (count_acked s f) (keep_each s f.queue.inflight.chunks ks)))
      (past s.cumulative_tsn_ack cs') (past s.cumulative_tsn_ack ds')
  current-sacked current =
      let tsns-c : tsns cs' ≡ tsns ds = changed-run (reports_anew s) as_acknowledged (λ c. refl) f.queue.inflight.chunks
      ∙ are-tsns ks f.queue.inflight.chunks ds a in
      let tsns-d : tsns ds' ≡ tsns ds = changed-run (reports_anew k) as_acknowledged (λ c. refl) ds in
      let cut-c = cut current cs' (length-change_where (reports_anew s) as_acknowledged f.queue.inflight.chunks ∙ long) tsns-c in
      let cut-d = cut current ds' (length-change_where (reports_anew k) as_acknowledged ds) tsns-d in
      let js = drop (count_acked s f) (keep_each s f.queue.inflight.chunks ks) in
      let behind : Every (λ (d : ChunkPayloadData). at_or_before d.tsn s.cumulative_tsn_ack ≡ false) (past s.cumulative_tsn_ack ds') =
      grind (arith, nat_tests, common_steps, every-tested, not, every-all, e, negated) in
      are-trimmed IsLike js (past s.cumulative_tsn_ack cs') (past s.cumulative_tsn_ack ds')
      (are-so (IsLikeBehind s k bare) IsLike (λ (d : ChunkPayloadData). at_or_before d.tsn s.cumulative_tsn_ack ≡ false) (λ j c d i e. i e) js
      (past s.cumulative_tsn_ack cs') (past s.cumulative_tsn_ack ds')
      (subst (λ xs. Are (IsLikeBehind s k bare) js xs (past s.cumulative_tsn_ack ds')) (sym cut-c)
      (subst (λ ys. Are (IsLikeBehind s k bare) js (drop (count_acked s f) cs') ys) (sym cut-d)
      (are-left (IsLikeBehind s k bare) (count_acked s f) (keep_each s f.queue.inflight.chunks ks) cs' ds'
      (are-reported s k bare ks f.queue.inflight.chunks ds a)))) behind)

  pub are-sacked : AreLike (kept_after s f ks) (chunks_of (after_sack s f)) (chunks_of (after_sack k (flight_with f ds)))
  are-sacked = grind (arith, nat_tests, common_steps, outdated-same, current-sacked, e)

-- nothing that is acknowledged has bytes
pub settled-others : (ks : List (Option (List ℕ))) (cs ds : List ChunkPayloadData) → AreLike ks cs ds → AreSettled ds
settled-others ks [] [] a = tt
settled-others ks [] (d ∷ ds) a = absurd a
settled-others ks (c ∷ cs) [] a = absurd a
settled-others ks (c ∷ cs) (d ∷ ds) a = ((λ e. absurd (not_both (sym a.0.open' ∙ e))), settled-others (rest_of ks) cs ds a.1)

pub settled-kept : (ks : List (Option (List ℕ))) (cs ds : List ChunkPayloadData) → AreLike ks cs ds → AreSettled cs
settled-kept ks [] [] a = tt
settled-kept ks [] (d ∷ ds) a = absurd a
settled-kept ks (c ∷ cs) [] a = absurd a
settled-kept ks (c ∷ cs) (d ∷ ds) a = (a.0.settled, settled-kept (rest_of ks) cs ds a.1)
