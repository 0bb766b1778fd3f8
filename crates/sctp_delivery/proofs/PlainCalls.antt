-- Each call of a sender that keeps what is reported, beside what it would do if no gap ack block were taken.
use Rattle.sctp_delivery.proofs.Names.{common_steps, ◌≡◌, ℕ, ◌<◌, ◌≤◌, ◌+◌, ◌-◌, ◌^◌, Bool, true, false, not, List, [], ◌∷◌, ◌++◌, length, map, refl, ap, ap₂}
use Rattle.sctp_delivery.proofs.Names.{sym, subst, ◌∙◌, arith, append-nil, Option, Some, None, option_map, option_to_list, is_some, IfSome, find, change_where}
use Rattle.sctp_delivery.proofs.Names.{sum_by-cons, sum_by-inserted, sum_by, both, negated, none-some, some-same, nat_tests, if◌then◌else◌, nat_lt, ◌||◌, ◌&&◌}
use Rattle.sctp_delivery.proofs.Names.{ChunkPayloadData, Sack, OutboundStream, ExpiredMessage, AbandonedMessage, Released, as_sent, all_started, bytes_of}
use Rattle.sctp_delivery.proofs.Names.{data_of, expiring_tail, has_tsn, is_outstanding, message_of, next_pending, sent_next, sent_of, total_bytes}
use Rattle.sctp_delivery.proofs.Names.{with_inflight, with_message, with_retransmit, Outbound, Flight, after_abandonment, after_sack, is_outstanding_in}
use Rattle.sctp_delivery.proofs.Names.{message_to_abandon, next_after_send, released_by, tsn, with_room, count_again, sent_again, missed, can_miss, has_number}
use Rattle.sctp_delivery.proofs.Names.{less_by, with_low, with_mode, with_size, wrote, with_lows, after_releases, after_expiry, fragments_with_mode}
use Rattle.sctp_delivery.proofs.Names.{Transmission, after_abandon, after_acked, after_expire, write_refusal, written_to, with_flight, held_by_sender}
use Rattle.sctp_delivery.proofs.Names.{started-inflight, SenderFollows, Session, IsReported, bytes_written, abandoned_by, Modes, modes_after, SenderCall}
use Rattle.sctp_delivery.proofs.Names.{SenderMakes, made_after, with_chunk, written_after, Made, Write, PayloadProtocolIdentifier, SenderRefusal, all_marked}
use Rattle.sctp_delivery.proofs.Names.{after_misses, resent_at, following_tsn, abandoned_at, abandoned_each, after_abandoning, after_leaving, is_late, is_worn}
use Rattle.sctp_delivery.proofs.Names.{late_order, late_tsns, leaving_at, leaving_each, to_abandon, worn_order, worn_tsns, ◌%◌, length-change_where, no_last}
use Rattle.sctp_outbound.specs.outbound_queue.OutboundQueue.{has_tail}
use Rattle.sctp_sender.specs.Late.{with_tail}
use Rattle.sctp_sender.specs.Sender.{with_mode_on, is_open, open_stream, stream_of}
use Rattle.sctp_sender.specs.declared.sender.refusal.SenderRefusal.TheVariants.{MessageTooLarge, NotInFlight, QueueFull, StreamUnknown, TsnsUsedUp}
use Rattle.sctp_serial.specs.Window.{is_held}
use Rattle.sctp_util.specs.Serial.{distance}
use Rattle.sctp_outbound.specs.payload_queue.PayloadQueue as payload
use Rattle.sctp_outbound.proofs.lemmas.outbound_queue.Abandoned.{last_removed_none}
use Rattle.sctp_sender.specs.Abandonment.{abandon_refusal}
use Rattle.sctp_sender.specs.Flight.{has_tail_at, may_send, with_queue}
use Rattle.sctp_sender.specs.Keeping.{kept_after}
use Rattle.sctp_sender.specs.Settings.{with_fragment_size, with_low_on}
use Rattle.sctp_sender.specs.Totals.{bytes_in}
use Rattle.sctp_sender.proofs.Lows.{released-same}
use Rattle.sctp_sender.proofs.Settled.{sack-bytes}
use Rattle.sctp_stream.specs.Stream.{new_stream}
use Rattle.sctp_delivery.specs.SenderCalls as outgoing
use Rattle.sctp_delivery.specs.SenderCalls.{Tells}
use Rattle.sctp_delivery.specs.Session.{count_in_flight}
use Rattle.sctp_delivery.proofs.Cases.{at-test}
use Rattle.sctp_delivery.proofs.Changes.{expired-one, order-short}
use Rattle.sctp_delivery.proofs.Delivered.{next_tsn}
use Rattle.sctp_delivery.proofs.Every.{every-contained}
use Rattle.sctp_delivery.proofs.FewInFlight.{IsInRun, IsRegular}
use Rattle.sctp_delivery.proofs.GivenTsns.{put-length}
use Rattle.sctp_delivery.proofs.OneRead.{no-way}
use Rattle.sctp_delivery.proofs.Plain.{AreLike, IsLike, are-changed, are-long, are-marked, are-part-marked, are-plain, blind-same, found-plain, plain, rest_of}
use Rattle.sctp_delivery.proofs.PlainFlights.{abandon-same, are-gone, are-sacked, are-sent, can-same, chunks_of, end-same, fewer-bytes, flight_with, gone-same}
use Rattle.sctp_delivery.proofs.PlainFlights.{named-same, refusal-same, sack-same, send-same, next-same, settled-others, skip-same, started-same}
use Rattle.sctp_delivery.proofs.PlainSessions.{Goes, IsThere, Others, as_plain, bound-there, calls-too, kept_of, room-of, small-next, regular-of, stays-so}
use Rattle.sctp_delivery.proofs.PlainStreams.{AreAlike, bare, both-expired, both-lower, both-moded, both-opened, both-sized, both-wrote, found-alike, one-less}
use Rattle.sctp_delivery.proofs.PlainStreams.{left-alike, open-alike, released-alike}
use Rattle.sctp_delivery.proofs.SackSteps.{message-inflight}
use Rattle.sctp_delivery.proofs.ValidMarks.{IsFresh, fresh-started}
use Rattle.sctp_delivery.proofs.Writing.{accepted-stream}

-- ## What is found

-- the chunk that is found, and the one in its place
pub record IsInPlace (c : ChunkPayloadData) (t : ℕ) (ds : List ChunkPayloadData) : Type 0 where
  pub kept : Option (List ℕ)
  pub chunk : ChunkPayloadData
  pub found : find (has_tsn t) ds ≡ Some chunk
  pub like : IsLike kept c chunk

pub in-place : (t : ℕ) (c : ChunkPayloadData) (ks : List (Option (List ℕ))) (cs ds : List ChunkPayloadData) → AreLike ks cs ds → find (has_tsn t) cs ≡ Some c
    → IsInPlace c t ds
in-place t c ks [] [] a e = absurd (none-some c e)
in-place t c ks [] (y ∷ ys) a e = absurd a
in-place t c ks (x ∷ xs) [] a e = absurd a
in-place t c ks (x ∷ xs) (y ∷ ys) a e = grind (arith, nat_tests, common_steps, some-same, in-place t c (rest_of ks) xs ys a.1)

message-same : (cs : List ChunkPayloadData) (q : Outbound) (ds : List ChunkPayloadData)
    → with_message cs (with_inflight q ds) ≡ with_inflight (with_message cs q) ds
message-same [] q ds = refl
message-same (c ∷ cs) q ds = refl

-- the same bytes leave what waits
pub sent-bytes : (o : Option ChunkPayloadData) (q : Outbound) (ds : List ChunkPayloadData) (t now : ℕ)
    → total_bytes (sent_of o (with_inflight q ds) t now) + bytes_of q.inflight.chunks ≡ total_bytes (sent_of o q t now) + bytes_of ds
sent-bytes h0 h1 h2 h3 h4 = grind (arith, nat_tests, common_steps, sum_by-inserted)

-- the write is accepted there too, where its bytes fit
abbrev refused_by : Bool → Bool → Bool → Bool → Option SenderRefusal
refused_by a b c d = if not a then Some StreamUnknown else (if b then Some MessageTooLarge else (if not c || not d then Some QueueFull else None))

fits-too : (a k b c d : Bool) → k ≡ a → refused_by a b c d ≡ None → refused_by k b c true ≡ None
fits-too a k b c d same none = grind (arith, nat_tests)

-- ## What is kept after a SACK

-- what is alike is so, too, if nothing is kept
forgotten : (ks : List (Option (List ℕ))) (cs es : List ChunkPayloadData) → AreLike ks cs es → AreLike [] cs es
forgotten ks [] [] a = tt
forgotten ks [] (e ∷ es) a = absurd a
forgotten ks (c ∷ cs) [] a = absurd a
forgotten ks (c ∷ cs) (e ∷ es) a = grind (arith, nat_tests, common_steps, forgotten (rest_of ks) cs es a.1)

pub kept-sacked : (sack : Sack) (f : Flight) (es : List ChunkPayloadData) (o : Option (List (Option (List ℕ))))
    → AreLike (kept_after sack f (kept_of o)) (chunks_of (after_sack sack f)) es
    → AreLike (kept_of (option_map (kept_after sack f) o)) (chunks_of (after_sack sack f)) es
kept-sacked sack f es None a = forgotten (kept_after sack f []) (chunks_of (after_sack sack f)) es a
kept-sacked sack f es (Some ks) a = a

-- ## Messages leave, one after another

tail-same : (o : Option ℕ) (q : Outbound) (ds : List ChunkPayloadData) → has_tail o (with_inflight q ds) ≡ has_tail o q
tail-same None q ds = refl
tail-same (Some k) q ds = refl

-- how many terminal chunks get TSNs
abbrev pub ends : List ℕ → Flight → ℕ
ends [] f = 0
ends (x ∷ xs) f = (if has_tail_at f x then 1 else 0) + ends xs (abandoned_at x f)

one-more : (t : ℕ) → t < 2 ^ 32 → distance t (following_tsn t) ≡ 1
unfolding distance
one-more t near = omega (arith, near)

end-far : (o : Option ℕ) (f : Flight) → f.next_tsn < 2 ^ 32 → distance f.next_tsn (after_abandonment o f).next_tsn ≡ (if has_tail o f.queue then 1 else 0)
end-far h0 h1 h2 = grind (arith, nat_tests, common_steps, no-way, one-more)

end-next : (o : Option ℕ) (f : Flight) → f.next_tsn < 2 ^ 32 → (after_abandonment o f).next_tsn ≡ (f.next_tsn + (if has_tail o f.queue then 1 else 0)) % 2 ^ 32
end-next h0 h1 h2 = grind (arith, nat_tests, common_steps)

one-end : (b : Bool) → (if b then 1 else 0) ≤ 1
one-end true = omega arith
one-end false = omega arith

end-long : (o : Option ℕ) (f : Flight)
    → length (chunks_of (after_abandonment o f)) ≡ length (chunks_of f) + (if has_tail o f.queue then 1 else 0)
end-long h0 h1 = grind (arith, nat_tests, common_steps, length-change_where, no_last, put-length, none-some, last_removed_none)

ends-long : (xs : List ℕ) (f : Flight) → length (chunks_of (abandoned_each xs f)) ≡ length (chunks_of f) + ends xs f
ends-long [] f = omega arith
ends-long (x ∷ xs) f = grind (arith, nat_tests, common_steps, end-long, ends-long xs (abandoned_at x f))

ends-few : (xs : List ℕ) (f : Flight) → ends xs f ≤ length xs
ends-few [] f = omega arith
ends-few (x ∷ xs) f = let a = ends-few xs (abandoned_at x f) in let b = one-end (has_tail_at f x) in omega (arith, a, b)

ends-next : (xs : List ℕ) (f : Flight) → f.next_tsn < 2 ^ 32 → (abandoned_each xs f).next_tsn ≡ (f.next_tsn + ends xs f) % 2 ^ 32
ends-next [] f near = omega (arith, near)
ends-next (x ∷ xs) f near =
    let a = end-next (message_to_abandon x f) f near in
    let b = ends-next xs (abandoned_at x f) (omega (arith, a)) in
    omega (arith, a, b)

far-along : (a b e : ℕ) → a < 2 ^ 32 → e < 2 ^ 32 → b ≡ (a + e) % 2 ^ 32 → distance a b ≡ e
unfolding distance
far-along a b e near few is = omega (arith, near, few, is)

module _ (first : ℕ) (others : Others first) where
  module _ (t : Transmission) (s : Session) (n : ℕ) (gone : List ℕ) (m : Modes) (room : others.Bound n (length t.flight.queue.inflight.chunks))
      (g : Goes first others t s n gone m) where
    pub regular-is : IsRegular g.other
    regular-is = regular-of first others t s n gone m room g

    pub numbered-is : IsInRun (flight_with t.flight g.shadow.chunks)
    numbered-is = subst (λ (u : Transmission). IsInRun u.flight) g.shadow.sender regular-is.numbered

    pub fresh-is : IsFresh t.flight.queue
    fresh-is = grind (arith, nat_tests, common_steps, regular-is)

    -- as many chunks are in flight there, and few
    pub long-is : length t.flight.queue.inflight.chunks ≡ length g.shadow.chunks
    long-is = are-long (kept_of t.kept) t.flight.queue.inflight.chunks g.shadow.chunks g.shadow.like

    pub short-is : length g.shadow.chunks < 2 ^ 31
    short-is =
        let long = long-is in
        let few = room-of first others t s n gone m 0
        (subst (λ k. others.Bound k (length t.flight.queue.inflight.chunks + 0)) {x = n} {y = n + 0} (omega arith)
        (subst (others.Bound n) {x = length t.flight.queue.inflight.chunks} {y = length t.flight.queue.inflight.chunks + 0} (omega arith) room)) g in
        omega (arith, long, few)

    -- the message of a TSN leaves, if it has one
    leave-one : (x : ℕ) → others.Bound (n + (if has_tail_at t.flight x then 1 else 0))
        (length t.flight.queue.inflight.chunks + (if has_tail_at t.flight x then 1 else 0))
        → Goes first others (record t { flight = abandoned_at x t.flight }) s (n + (if has_tail_at t.flight x then 1 else 0))
        (gone ++ option_to_list (message_to_abandon x t.flight)) m
    leave-one x few = by (message_to_abandon x t.flight) refl few
      where
        w : Transmission
        w = as_plain t g.shadow.streams g.shadow.chunks

        near : t.flight.next_tsn < 2 ^ 32
        near = small-next first others t s n gone m room g

        same-message : message_to_abandon x w.flight ≡ message_to_abandon x t.flight
        same-message = abandon-same t.flight (kept_of t.kept) g.shadow.chunks g.shadow.like x

        some : (k : ℕ) (o : Option ChunkPayloadData) → find (has_tsn x) g.shadow.chunks ≡ o → to_abandon o ≡ Some k → message_to_abandon x t.flight ≡ Some k
            → others.Bound (n + (if has_tail (Some k) t.flight.queue then 1 else 0))
            (length t.flight.queue.inflight.chunks + (if has_tail (Some k) t.flight.queue then 1 else 0))
            → Goes first others (record t { flight = after_abandonment (Some k) t.flight }) s
            (n + (if has_tail (Some k) t.flight.queue then 1 else 0)) (gone ++ k ∷ []) m
        some k None e is at short = absurd (none-some k is)
        some k (Some d) e is at short =
            let g' = after_abandonment (Some k) w.flight in
            let left = total_bytes w.flight.queue - total_bytes g'.queue in
            let b : AbandonedMessage = record { stream = d.stream_identifier; number = d.message_id; bytes = left; is_low = false } in
            let less = fewer-bytes (Some k) w.flight in
            let same = gone-same (Some k) t.flight g.shadow.chunks in
            let total = ap (λ (z : Flight). total_bytes z.queue) same in
            let u : Transmission = record t { flight = after_abandonment (Some k) t.flight } in
            let far = end-far (Some k) t.flight near in
            let there : is_held g.shadow.chunks x ≡ true = ap is_some e in
            let message : message_to_abandon x w.flight ≡ Some k = same-message ∙ at in
            let more = end-long (Some k) t.flight in
            let few' : others.Bound (n + distance t.flight.next_tsn u.flight.next_tsn) (length u.flight.queue.inflight.chunks) =
            subst (λ j. others.Bound (n + j) (length u.flight.queue.inflight.chunks)) (sym far)
            (subst (others.Bound (n + (if has_tail (Some k) t.flight.queue then 1 else 0))) (sym more) short) in
            let after = calls-too first others t u s s n gone m g (outgoing.abandons x b) room few' refl refl refl refl (outgoing.abandons x b)
            (change_where (has_number d.stream_identifier) (less_by left) g.shadow.streams) (chunks_of g') (
              omega (arith, less, total),
              (
                ap (λ (z : Flight). let y : Transmission =
                    record w { streams = change_where (has_number d.stream_identifier) (less_by left) g.shadow.streams; flight = z } in y) (sym same)
                    ∙ ap (λ o. after_abandon o d.stream_identifier left w) (sym message),
                (
                  refusal k short there message,
                  (
                    ap (λ o. option_map (λ (c : ChunkPayloadData). c.stream_identifier) o) (sym e),
                    ap (λ o. option_map (λ (c : ChunkPayloadData). c.message_id) o) (sym e),
                  ),
                ),
              ),
            ) tt
            (g.shadow.alike ∙ sym (one-less d.stream_identifier left g.shadow.streams))
            (are-gone t.flight.acked_tsn (length g.shadow.chunks) t.flight (kept_of t.kept) g.shadow.chunks g.shadow.like short-is numbered-is fresh-is
            (Some k)) (λ ms. refl) (λ ws. refl) refl
            (ap option_to_list same-message) in
            subst (λ (j : ℕ). Goes first others u s (n + j) (gone ++ k ∷ []) m) far
            (subst (λ o. Goes first others u s (n + distance t.flight.next_tsn u.flight.next_tsn) (gone ++ option_to_list o) m) at after)
          where
            refusal : (k : ℕ) → others.Bound (n + (if has_tail (Some k) t.flight.queue then 1 else 0))
                (length t.flight.queue.inflight.chunks + (if has_tail (Some k) t.flight.queue then 1 else 0)) → is_held g.shadow.chunks x ≡ true
                → message_to_abandon x (flight_with t.flight g.shadow.chunks) ≡ Some k → abandon_refusal x (flight_with t.flight g.shadow.chunks) ≡ None
            refusal k short there message =
                let same = long-is in
                let fits = room-of first others t s n gone m (if has_tail (Some k) t.flight.queue then 1 else 0) short g in
                let long = length g.shadow.chunks in
                ap (λ b. if not b then Some NotInFlight else (if has_tail_at (flight_with t.flight g.shadow.chunks) x
                && not (may_send (flight_with t.flight g.shadow.chunks)) then Some TsnsUsedUp else None)) there
                ∙ ap (λ h. if h && not (may_send (flight_with t.flight g.shadow.chunks)) then Some TsnsUsedUp else None)
                (ap (λ o. has_tail o (flight_with t.flight g.shadow.chunks).queue) message)
                ∙ at-test (λ b. length t.flight.queue.inflight.chunks + (if b then 1 else 0) < 2 ^ 31
                → (if b && not (may_send (flight_with t.flight g.shadow.chunks)) then Some TsnsUsedUp else None) ≡ None)
                (has_tail (Some k) t.flight.queue)
                (λ _ lt. let ok : nat_lt (long + 1) (2 ^ 31) ≡ true = (let le : long + 1 < 2 ^ 31 = omega (arith, same, lt) in grind (arith, nat_tests)) in
                ap (λ b. if not b then Some TsnsUsedUp else None) ok)
                (λ _ _. refl) fits

        by : (o : Option ℕ) → message_to_abandon x t.flight ≡ o
            → others.Bound (n + (if has_tail (message_to_abandon x t.flight) t.flight.queue then 1 else 0))
            (length t.flight.queue.inflight.chunks + (if has_tail (message_to_abandon x t.flight) t.flight.queue then 1 else 0))
            → Goes first others (record t { flight = after_abandonment (message_to_abandon x t.flight) t.flight }) s
            (n + (if has_tail (message_to_abandon x t.flight) t.flight.queue then 1 else 0)) (gone ++ option_to_list (message_to_abandon x t.flight)) m
        by h0 h1 h2 = grind (arith, nat_tests, common_steps, append-nil, some, same-message)

  leave-each : (xs : List ℕ) (t : Transmission) (s : Session) (n : ℕ) (gone : List ℕ) (m : Modes)
      → others.Bound (n + ends xs t.flight) (length t.flight.queue.inflight.chunks + ends xs t.flight)
      → Goes first others t s n gone m
      → Goes first others (record t { flight = abandoned_each xs t.flight }) s (n + ends xs t.flight)
      (gone ++ map (λ (a : AbandonedMessage). a.number) (leaving_each xs t.flight)) m
  leave-each [] t s n gone m few g = grind (arith, nat_tests, common_steps)
  leave-each (x ∷ xs) t s n gone m few g =
      let u : Transmission = record t { flight = abandoned_at x t.flight } in
      let one : ℕ = if has_tail_at t.flight x then 1 else 0 in
      let left = option_to_list (message_to_abandon x t.flight) in
      let number : AbandonedMessage → ℕ = λ a. a.number in
      let rest = map number (leaving_each xs u.flight) in
      let long = length t.flight.queue.inflight.chunks in
      let sum : (n + one) + ends xs u.flight ≡ n + (one + ends xs u.flight) = omega arith in
      let both' : others.Bound ((n + one) + ends xs u.flight) ((long + one) + ends xs u.flight) = grind (arith, nat_tests, common_steps) in
      let here = others.fewer (n + one) (long + one) (ends xs u.flight) both' in
      let now' = leave-one t s n gone m (others.fewer n long one here) g x here in
      let more = end-long (message_to_abandon x t.flight) t.flight in
      let then' = leave-each xs u s (n + one) (gone ++ left) m
      (subst (λ k. others.Bound ((n + one) + ends xs u.flight) (k + ends xs u.flight)) (sym more) both') now' in
      let all : (gone ++ left) ++ rest ≡ gone ++ map number (leaving_at x t.flight ++ leaving_each xs u.flight) =
      grind (arith, nat_tests, common_steps) in
      subst (λ k. Goes first others (record t { flight = abandoned_each (x ∷ xs) t.flight }) s k
      (gone ++ map number (leaving_each (x ∷ xs) t.flight)) m) sum
      (subst (λ ys. Goes first others (record t { flight = abandoned_each (x ∷ xs) t.flight }) s ((n + one) + ends xs u.flight) ys m) all then')

  -- the streams have other amounts
  restreamed : (t : Transmission) (ks : List OutboundStream) (s v : Session) (n : ℕ) (gone : List ℕ) (m : Modes) → AreAlike ks t.streams
      → v.receiving ≡ s.receiving → v.sacks ≡ s.sacks → v.made ≡ s.made → v.written ≡ s.written → Goes first others t s n gone m
      → Goes first others (record t { streams = ks }) v n gone m
  restreamed t ks s v n gone m alike received reported made written g = grind (arith, nat_tests, common_steps)

module _ (first : ℕ) (others : Others first) (s v : Session) (n : ℕ) (gone : List ℕ) (m : Modes) (room : others.Bound n (count_in_flight s))
    (few : others.Bound (n + distance (next_tsn s) (next_tsn v)) (count_in_flight v)) (g : Goes first others s.sending.sender s n gone m) where
  abbrev t : Transmission
  t = s.sending.sender

  abbrev ls : List OutboundStream
  ls = g.shadow.streams

  abbrev ds : List ChunkPayloadData
  ds = g.shadow.chunks

  -- the other sender
  abbrev w : Transmission
  w = as_plain s.sending.sender g.shadow.streams g.shadow.chunks

  i : IsRegular g.other
  i = regular-is first others s.sending.sender s n gone m room g

  numbered : IsInRun (flight_with s.sending.sender.flight g.shadow.chunks)
  numbered = numbered-is first others s.sending.sender s n gone m room g

  short' : length g.shadow.chunks < 2 ^ 31
  short' = short-is first others s.sending.sender s n gone m room g

  fresh : IsFresh s.sending.sender.flight.queue
  fresh = fresh-is first others s.sending.sender s n gone m room g

  near : s.sending.sender.flight.next_tsn < 2 ^ 32
  near = small-next first others s.sending.sender s n gone m room g

  abbrev Result : SenderCall → Type 0
  Result call = Goes first others v.sending.sender v (n + distance (next_tsn s) (next_tsn v)) (gone ++ abandoned_by call s.sending.sender)
      (modes_after call m)

  few-of : (u : Transmission) → v.sending.sender ≡ u
      → others.Bound (n + distance s.sending.sender.flight.next_tsn u.flight.next_tsn) (length u.flight.queue.inflight.chunks)
  few-of u e =
      subst (λ (y : Transmission). others.Bound (n + distance (next_tsn s) y.flight.next_tsn) (length y.flight.queue.inflight.chunks)) e few

  by-call : (call : SenderCall) → SenderFollows call s v → (u : Transmission) → v.sending.sender ≡ u → (c : SenderCall) (ls' : List OutboundStream)
      (ds' : List ChunkPayloadData) → SenderMakes c (as_plain s.sending.sender g.shadow.streams g.shadow.chunks) (as_plain u ls' ds') → IsReported c g.other
      → AreAlike u.streams ls' → AreLike (kept_of u.kept) u.flight.queue.inflight.chunks ds'
      → ((ms : List Made) → made_after c (as_plain s.sending.sender g.shadow.streams g.shadow.chunks) ms ≡ made_after call s.sending.sender ms)
      → ((ws : List Write) → written_after c ws ≡ written_after call ws) → modes_after c m ≡ modes_after call m
      → abandoned_by c (as_plain s.sending.sender g.shadow.streams g.shadow.chunks) ≡ abandoned_by call s.sending.sender → Result call
  by-call call f u e c ls' ds' makes handed alike like made written modes left = grind (arith, nat_tests, common_steps, calls-too, few-of)

  by-none : (call : SenderCall) → SenderFollows call s v → (u : Transmission) → v.sending.sender ≡ u → AreAlike u.streams s.sending.sender.streams
      → AreLike (kept_of u.kept) u.flight.queue.inflight.chunks g.shadow.chunks
      → as_plain u g.shadow.streams g.shadow.chunks ≡ as_plain s.sending.sender g.shadow.streams g.shadow.chunks
      → ((ms : List Made) → made_after call s.sending.sender ms ≡ ms) → ((ws : List Write) → written_after call ws ≡ ws) → modes_after call m ≡ m
      → abandoned_by call s.sending.sender ≡ [] → Result call
  by-none call f u e alike like same made written modes left = grind (arith, nat_tests, common_steps, stays-so, few-of, near)

  -- ## A write

  writes-goes : (stream : ℕ) (ppi : PayloadProtocolIdentifier) (b : ℕ) (bs : List ℕ) → bytes_written v < 2 ^ 64
      → SenderFollows (outgoing.writes stream ppi (b ∷ bs)) s v → Result (outgoing.writes stream ppi (b ∷ bs))
  writes-goes stream ppi b bs short f =
      let l = accepted-stream stream (length (b ∷ bs)) t f.accepted in
      let u = written_to l.0 stream ppi (b ∷ bs) t in
      let e = f.exact.1 (omega arith) l.0 l.1 in
      let cs = fragments_with_mode l.0 ppi (b ∷ bs) in
      let calm = ap (λ (p : payload.Payload). bytes_of p.chunks) (message-inflight cs t.flight.queue) in
      let more = f.step.sender in
      let same = ap held_by_sender e in
      by-call (outgoing.writes stream ppi (b ∷ bs)) f u e (outgoing.writes stream ppi (b ∷ bs))
      (change_where (has_number stream) (wrote ppi (b ∷ bs)) ls) ds
      (omega (arith, calm, more, same), (((λ z. absurd (omega (arith, z))), exact l.0 l.1), (accepted f, tt))) tt
      (both-wrote stream ppi (b ∷ bs) t.streams ls g.shadow.alike)
      (subst (λ (p : payload.Payload). AreLike (kept_of t.kept) p.chunks ds) (sym (message-inflight cs t.flight.queue)) g.shadow.like)
      (λ ms. refl) (λ ws. refl) refl refl
    where
      exact : (l : OutboundStream) → stream_of stream t ≡ Some l → 0 < length (b ∷ bs) → (k : OutboundStream) → stream_of stream w ≡ Some k
          → as_plain (written_to l stream ppi (b ∷ bs) t) (change_where (has_number stream) (wrote ppi (b ∷ bs)) ls) ds ≡ written_to k stream ppi (b ∷ bs) w
      exact l is _ k at =
          let same : bare l ≡ bare k =
          some-same (ap (option_map bare) (sym is) ∙ found-alike stream t.streams ls g.shadow.alike ∙ ap (option_map bare) at) in
          let cs : fragments_with_mode l ppi (b ∷ bs) ≡ fragments_with_mode k ppi (b ∷ bs) = ap (λ x. fragments_with_mode x ppi (b ∷ bs)) same in
          ap (λ q. let y : Transmission = record w { streams = change_where (has_number stream) (wrote ppi (b ∷ bs)) ls; flight = with_queue t.flight q } in y)
          (sym (message-same (fragments_with_mode l ppi (b ∷ bs)) t.flight.queue ds) ∙ ap (λ xs. with_message xs (with_inflight t.flight.queue ds)) cs)

      fits : SenderFollows (outgoing.writes stream ppi (b ∷ bs)) s v → nat_lt (total_bytes (with_inflight t.flight.queue ds) + length (b ∷ bs)) (2 ^ 64) ≡ true
      fits f =
          let all = others.accounted g.other n gone m (bound-there first others t s n gone m g room) g.plays in
          let held : held_by_sender g.other.sending.sender ≡ total_bytes (with_inflight t.flight.queue ds) = ap held_by_sender g.shadow.sender in
          let before : bytes_written g.other ≡ bytes_written s = ap (λ ws. sum_by (λ (x : Write). length x.bytes) ws) g.shadow.written in
          let after : bytes_written v ≡ bytes_written s + length (b ∷ bs) =
          ap bytes_written f.after ∙ (let c =
          sum_by-cons (λ (x : Write). length x.bytes) (record { stream = stream; payload_type = ppi; bytes = b ∷ bs }) s.written in omega (arith, c)) in
          let lt : total_bytes (with_inflight t.flight.queue ds) + length (b ∷ bs) < 2 ^ 64 = omega (arith, all, held, before, after, short) in
          grind (arith, nat_tests)

      accepted : SenderFollows (outgoing.writes stream ppi (b ∷ bs)) s v → write_refusal stream (length (b ∷ bs)) w ≡ None
      accepted f =
          ap (refused_by (is_open stream w) (nat_lt t.max_message_size (length (b ∷ bs))) (nat_lt (t.flight.queue.next_message_id + 1) (2 ^ 64))) (fits f)
          ∙ fits-too (is_open stream t) (is_open stream w) (nat_lt t.max_message_size (length (b ∷ bs))) (nat_lt (t.flight.queue.next_message_id + 1) (2 ^ 64))
          (nat_lt (total_bytes t.flight.queue + length (b ∷ bs)) (2 ^ 64)) (sym (open-alike stream t.streams ls g.shadow.alike)) f.accepted

  -- ## Sending

  sends-goes : (now : ℕ) → SenderFollows (outgoing.sends now) s v → Result (outgoing.sends now)
  sends-goes now f =
      let q = t.flight.queue in
      let next = t.flight.next_tsn in
      let u : Transmission = with_flight (record t.flight { queue = sent_next q next now; next_tsn = next_after_send t.flight }) t in
      let es = (sent_next (with_inflight q ds) next now).inflight.chunks in
      let same = next-same q ds next now in
      let begun : IsFresh (all_started now q) = fresh-started now q fresh in
      by-call (outgoing.sends now) f u f.exact (outgoing.sends now) ls es (
        bytes f.step.sender (ap held_by_sender f.exact),
        (
          ap (λ r. let y : Transmission = record w { flight = record t.flight { queue = r; next_tsn = next_after_send t.flight } } in y) (sym same),
          (send-same t.flight (kept_of t.kept) ds g.shadow.like ∙ f.accepted, tt),
        ),
      ) tt g.shadow.alike
      (are-sent t.flight.acked_tsn (length ds) t.flight (kept_of t.kept) ds g.shadow.like short' numbered now begun)
      (λ ms. ap (λ (r : Outbound). with_chunk (option_map (as_sent next now) (next_pending r.pending)) ms) (started-same now q ds)) (λ ws. refl) refl refl
    where
      bytes : held_by_sender v.sending.sender ≡ held_by_sender t
          → held_by_sender v.sending.sender ≡ total_bytes (sent_next t.flight.queue t.flight.next_tsn now)
          → total_bytes (with_inflight (sent_next t.flight.queue t.flight.next_tsn now)
          (sent_next (with_inflight t.flight.queue ds) t.flight.next_tsn now).inflight.chunks) ≡ total_bytes (with_inflight t.flight.queue ds)
      bytes calm same = grind (arith, nat_tests, common_steps, sent-bytes, started-inflight, next-same, started-same)

  -- ## A message leaves

  abandons-goes : (tsn : ℕ) (a : AbandonedMessage) → SenderFollows (outgoing.abandons tsn a) s v → Result (outgoing.abandons tsn a)
  abandons-goes tsn a f =
      let o = message_to_abandon tsn t.flight in
      let u = after_abandon o a.stream a.bytes t in
      let g' = after_abandonment o (flight_with t.flight ds) in
      let es = chunks_of g' in
      let less = fewer-bytes o (flight_with t.flight ds) in
      let left = total_bytes (with_inflight t.flight.queue ds) - total_bytes g'.queue in
      let b : AbandonedMessage = record a { bytes = left } in
      let same = gone-same o t.flight ds in
      let total = ap (λ (x : Flight). total_bytes x.queue) same in
      let message = abandon-same t.flight (kept_of t.kept) ds g.shadow.like tsn in
      by-call (outgoing.abandons tsn a) f u f.exact (outgoing.abandons tsn b) (change_where (has_number a.stream) (less_by left) ls) es (
        omega (arith, less, total),
        (
          ap (λ (x : Flight). let y : Transmission = record w { streams = change_where (has_number a.stream) (less_by left) ls; flight = x } in y) (sym same)
              ∙ ap (λ o. after_abandon o a.stream left w) (sym message),
          (refusal f.accepted, told f.answered),
        ),
      ) tt
      (one-less a.stream a.bytes t.streams ∙ g.shadow.alike ∙ sym (one-less a.stream left ls))
      (are-gone t.flight.acked_tsn (length ds) t.flight (kept_of t.kept) ds g.shadow.like short' numbered fresh o)
      (λ ms. refl) (λ ws. refl) refl (ap option_to_list message)
    where
      found : option_map plain (find (has_tsn tsn) t.flight.queue.inflight.chunks) ≡ option_map plain (find (has_tsn tsn) ds)
      found =
          found-plain (has_tsn tsn) (λ c. refl) t.flight.queue.inflight.chunks ds (are-plain (kept_of t.kept) t.flight.queue.inflight.chunks ds g.shadow.like)

      told : Tells (Some a) (find (has_tsn tsn) t.flight.queue.inflight.chunks) → Tells (Some a) (find (has_tsn tsn) ds)
      told k = grind (arith, nat_tests, common_steps, blind-same, found)

      refusal : abandon_refusal tsn t.flight ≡ None → abandon_refusal tsn (flight_with t.flight ds) ≡ None
      refusal none = grind (arith, nat_tests, common_steps, not, blind-same, is_some, found, abandon-same, tail-same, are-long)

  -- with nothing told, and the rest of a message
  tail-goes : (now : ℕ) (a : AbandonedMessage) → SenderFollows (outgoing.expires_tail now (Some a)) s v → Result (outgoing.expires_tail now (Some a))
  tail-goes now a f =
      let o = message_of (expiring_tail now t.flight.queue) in
      let u = after_abandon o a.stream a.bytes t in
      let g' = after_abandonment o (flight_with t.flight ds) in
      let less = fewer-bytes o (flight_with t.flight ds) in
      let left = total_bytes (with_inflight t.flight.queue ds) - total_bytes g'.queue in
      let b : AbandonedMessage = record a { bytes = left } in
      let same = gone-same o t.flight ds in
      let total = ap (λ (x : Flight). total_bytes x.queue) same in
      let one = sum_by-cons (λ (x : AbandonedMessage). x.bytes) b [] in
      by-call (outgoing.expires_tail now (Some a)) f u f.exact.0 (outgoing.expires_tail now (Some b)) (change_where (has_number a.stream) (less_by left) ls)
      (chunks_of g') (
        omega (arith, less, total, one),
        (
          (
            ap (λ (x : Flight). let y : Transmission = record w { streams = change_where (has_number a.stream) (less_by left) ls; flight = x } in y) (sym same),
            (λ e. absurd (none-some b (sym e))),
          ),
          (tt, f.answered),
        ),
      ) tt
      (one-less a.stream a.bytes t.streams ∙ g.shadow.alike ∙ sym (one-less a.stream left ls))
      (are-gone t.flight.acked_tsn (length ds) t.flight (kept_of t.kept) ds g.shadow.like short' numbered fresh o) (λ ms. refl) (λ ws. refl) refl refl

  tail-idle : (now : ℕ) → SenderFollows (outgoing.expires_tail now None) s v → Result (outgoing.expires_tail now None)
  tail-idle now f =
      by-call (outgoing.expires_tail now None) f t (f.exact.1 refl) (outgoing.expires_tail now None) ls ds
      (omega arith, ((tt, λ _. refl), (tt, f.answered))) tt g.shadow.alike g.shadow.like (λ ms. refl) (λ ws. refl) refl refl

  expires-goes : (now : ℕ) (x : ExpiredMessage) → SenderFollows (outgoing.expires now (Some x)) s v → Result (outgoing.expires now (Some x))
  expires-goes now x f =
      let k = expired-one now x t v.sending.sender f.exact in
      let c = k.0 in
      let u = after_expire c x.bytes now t in
      let bytes = f.step.sender in
      let same = ap held_by_sender k.2 in
      let ls' = change_where (has_number c.stream_identifier) (after_expiry c.unordered x.bytes) ls in
      let u' : Transmission = as_plain u ls' ds in
      by-call (outgoing.expires now (Some x)) f u k.2 (outgoing.expires now (Some x)) ls' ds (
        omega (arith, bytes, same),
        (
          (f.exact.0, (subst (λ o. IfSome o (λ d. u' ≡ after_expire d x.bytes now w)) (sym k.1) refl, (λ e. absurd (none-some x (sym e))))),
          (tt, f.answered),
        ),
      ) tt (both-expired c.stream_identifier c.unordered x.bytes t.streams ls g.shadow.alike) g.shadow.like (λ ms. refl) (λ ws. refl) refl refl

  expires-idle : (now : ℕ) → SenderFollows (outgoing.expires now None) s v → Result (outgoing.expires now None)
  expires-idle now f =
      by-call (outgoing.expires now None) f t (f.exact.1.1 refl) (outgoing.expires now None) ls ds
      (omega arith, ((f.exact.0, (tt, λ _. refl)), (tt, f.answered))) tt g.shadow.alike g.shadow.like (λ ms. refl) (λ ws. refl) refl refl

  -- ## A chunk is sent again

  resends-goes : (tsn now : ℕ) (c : ChunkPayloadData) → SenderFollows (outgoing.resends tsn now c) s v → Result (outgoing.resends tsn now c)
  resends-goes tsn now c f =
      let cs = t.flight.queue.inflight.chunks in
      let b = in-place tsn c (kept_of t.kept) cs ds g.shadow.like f.accepted.1 in
      let d = b.chunk in
      let open' : is_outstanding c ≡ true = ap is_outstanding_in (sym f.accepted.1) ∙ f.accepted.0 in
      let k = both (not c.acked) (not c.abandoned) open' in
      let n' : count_again c ≡ count_again d = ap count_again b.like.same in
      let same-data : data_of c ≡ data_of d =
      ap₂ (λ (x : ChunkPayloadData) bytes. data_of (record x { user_data = bytes })) b.like.same (b.like.whole (negated c.acked k.0)) in
      let gone' : c.abandoned ≡ d.abandoned = ap (λ (x : ChunkPayloadData). x.abandoned) b.like.same in
      let out : is_outstanding d ≡ true = ap₂ (λ x y. not x && not y) b.like.open' (sym gone' ∙ negated c.abandoned k.1) in
      by-call (outgoing.resends tsn now c) f (with_flight (resent_at tsn now c t.flight) t) f.step.sender (outgoing.resends tsn now d) ls
      (change_where (has_tsn tsn) (sent_again (count_again d) now) ds)
      (refl, (tt, ((ap is_outstanding_in b.found ∙ out, b.found), tt))) tt g.shadow.alike
      (are-changed IsLike (has_tsn tsn) (has_tsn tsn) (sent_again (count_again c) now) (sent_again (count_again d) now)
      (λ _ x y j. ap (has_tsn tsn) (sym j.same))
      (λ _ x y j. record {
        same = ap₂ (λ k (z : ChunkPayloadData). let r : ChunkPayloadData = record z { nsent = k; since = Some now } in r) n' j.same;
        open' = j.open';
        whole = j.whole;
        kept = j.kept;
        settled = j.settled;
      })
      (kept_of t.kept) cs ds g.shadow.like)
      (λ ms. ap (λ y. outgoing.data_chunk y ∷ ms) (sym same-data)) (λ ws. refl) refl refl

  -- ## A SACK

  sack-goes : (sack : Sack) (left : List Released) → SenderFollows (outgoing.takes_sack sack left) s v → Result (outgoing.takes_sack sack left)
  sack-goes sack left f =
      let x = every-contained (IsThere g.other.sacks) s.sacks sack f.handed g.shadow.sacks in
      let k = x.bare in
      let fl = flight_with t.flight ds in
      let fits : sack.cumulative_tsn_ack < 2 ^ 32 = every-contained (λ (y : Sack). y.cumulative_tsn_ack < 2 ^ 32) g.other.sacks sack x.itself i.sacks in
      let told = with_lows (released_by k fl) ls in
      by-call (outgoing.takes_sack sack left) f (after_acked sack t) f.exact (outgoing.takes_sack k told) (after_releases (released_by k fl) ls)
      (chunks_of (after_sack k fl)) (
        subst (λ (y : Flight). total_bytes y.queue + bytes_in told ≡ total_bytes fl.queue) (sack-same sack k t.flight ds x.is-bare)
            (released-same (total_bytes fl.queue) (total_bytes (after_sack k fl).queue) ls (released_by k fl) told refl
            (sack-bytes k fl (settled-others (kept_of t.kept) t.flight.queue.inflight.chunks ds g.shadow.like))),
        (
          ap (λ (y : Flight). let z : Transmission = record w { streams = after_releases (released_by k fl) ls; flight = y } in z)
              (sym (sack-same sack k t.flight ds x.is-bare)),
          (refusal-same sack k t.flight ds x.is-bare (sym (are-long (kept_of t.kept) t.flight.queue.inflight.chunks ds g.shadow.like)) f.accepted, refl),
        ),
      )
      x.other (released-alike (released_by sack t.flight) t.streams ∙ g.shadow.alike ∙ sym (released-alike (released_by k fl) ls))
      (kept-sacked sack t.flight (chunks_of (after_sack k fl)) t.kept (are-sacked sack k x.is-bare t.flight.acked_tsn (length ds) t.flight
      (kept_of t.kept) ds g.shadow.like short' numbered fits f.accepted)) (λ ms. refl) (λ ws. refl) refl refl

  -- ## Several messages leave

  each-goes : (call : SenderCall) (xs : List ℕ) → SenderFollows call s v → v.sending.sender ≡ after_abandoning xs t
      → length xs ≤ 1 + length t.flight.queue.inflight.chunks
      → made_after call t s.made ≡ s.made → written_after call s.written ≡ s.written → modes_after call m ≡ m
      → abandoned_by call t ≡ map (λ (a : AbandonedMessage). a.number) (leaving_each xs t.flight) → Result call
  each-goes call xs f e short made written modes left =
      let u = after_abandoning xs t in
      let near' = short' in
      let long = are-long (kept_of t.kept) t.flight.queue.inflight.chunks ds g.shadow.like in
      let few-ends = ends-few xs t.flight in
      let far : distance t.flight.next_tsn u.flight.next_tsn ≡ ends xs t.flight =
      far-along t.flight.next_tsn u.flight.next_tsn (ends xs t.flight) near (omega (arith, few-ends, short, long, near')) (ends-next xs t.flight near) in
      let all : distance (next_tsn s) (next_tsn v) ≡ ends xs t.flight = ap (λ (y : Transmission). distance (next_tsn s) y.flight.next_tsn) e ∙ far in
      let more : length v.sending.sender.flight.queue.inflight.chunks ≡ length t.flight.queue.inflight.chunks + ends xs t.flight =
      ap (λ (y : Transmission). length y.flight.queue.inflight.chunks) e ∙ ends-long xs t.flight in
      let after = leave-each first others xs t s n gone m
      (subst (λ k. others.Bound (n + k) (length t.flight.queue.inflight.chunks + ends xs t.flight)) all
      (subst (others.Bound (n + distance (next_tsn s) (next_tsn v))) more few)) g in
      let there = restreamed first others (record t { flight = abandoned_each xs t.flight })
      (after_leaving (leaving_each xs t.flight) t.streams) s v
      (n + ends xs t.flight) (gone ++ map (λ (a : AbandonedMessage). a.number) (leaving_each xs t.flight)) m (left-alike (leaving_each xs t.flight) t.streams)
      (ap (λ (x : Session). x.receiving) f.after) (ap (λ (x : Session). x.sacks) f.after) (ap (λ (x : Session). x.made) f.after ∙ made)
      (ap (λ (x : Session). x.written) f.after ∙ written) after in
      subst (λ (y : Transmission).
      Goes first others y v (n + distance (next_tsn s) (next_tsn v)) (gone ++ abandoned_by call t) (modes_after call m)) (sym e)
      (subst (λ k. Goes first others u v (n + k) (gone ++ abandoned_by call t) (modes_after call m)) (sym all)
      (subst (λ ys. Goes first others u v (n + ends xs t.flight) (gone ++ ys) (modes_after call m)) (sym left)
      (subst (λ o. Goes first others u v (n + ends xs t.flight) (gone ++ map (λ (a : AbandonedMessage). a.number) (leaving_each xs t.flight)) o)
      (sym modes) there)))

  -- ## Every call

  pub sender-goes : (call : SenderCall) → bytes_written v < 2 ^ 64 → SenderFollows call s v → Result call
  sender-goes (outgoing.writes stream ppi []) bytes f =
      by-none (outgoing.writes stream ppi []) f t (f.exact.0 refl) refl g.shadow.like refl (λ ms. refl) (λ ws. refl) refl refl
  sender-goes (outgoing.writes stream ppi (b ∷ bs)) bytes f = writes-goes stream ppi b bs bytes f
  sender-goes (outgoing.sends now) bytes f = sends-goes now f
  sender-goes (outgoing.abandons tsn a) bytes f = abandons-goes tsn a f
  sender-goes (outgoing.expires now None) bytes f = expires-idle now f
  sender-goes (outgoing.expires now (Some x)) bytes f = expires-goes now x f
  sender-goes (outgoing.expires_tail now None) bytes f = tail-idle now f
  sender-goes (outgoing.expires_tail now (Some a)) bytes f = tail-goes now a f
  sender-goes (outgoing.expires_late now left) bytes f =
      each-goes (outgoing.expires_late now left) (late_order now t.flight) f f.exact
      (order-short (is_late now t.flight.queue.pending) t.flight (with_tail (late_tsns now t.flight.queue) t.flight)) refl refl refl refl
  sender-goes (outgoing.expires_rexmit left) bytes f =
      each-goes (outgoing.expires_rexmit left)
      (worn_order t.flight) f f.exact (order-short is_worn t.flight (with_tail (worn_tsns t.flight) t.flight)) refl refl refl refl
  sender-goes (outgoing.resends tsn now c) bytes f = resends-goes tsn now c f
  sender-goes (outgoing.takes_sack sack left) bytes f = sack-goes sack left f
  sender-goes (outgoing.opens stream) bytes f =
      by-call (outgoing.opens stream) f (open_stream stream t) f.step.sender (outgoing.opens stream) (ls ++ new_stream stream t.fragment_size ∷ []) ds
      (refl, (tt, (sym (open-alike stream t.streams ls g.shadow.alike) ∙ f.accepted, tt))) tt
      (both-opened (new_stream stream t.fragment_size) t.streams ls g.shadow.alike)
      g.shadow.like (λ ms. refl) (λ ws. refl) refl refl
  sender-goes (outgoing.sets_mode stream unordered reliability value) bytes f =
      by-call (outgoing.sets_mode stream unordered reliability value) f (with_mode_on stream unordered reliability value t) f.step.sender
      (outgoing.sets_mode stream unordered reliability value) (change_where (has_number stream) (with_mode unordered reliability value) ls) ds
      (refl, (tt, (sym (open-alike stream t.streams ls g.shadow.alike) ∙ f.accepted, tt))) tt
      (both-moded stream unordered reliability value t.streams ls g.shadow.alike)
      g.shadow.like (λ ms. refl) (λ ws. refl) refl refl
  sender-goes (outgoing.sets_low stream low) bytes f =
      by-call (outgoing.sets_low stream low) f (with_low_on stream low t) f.step.sender (outgoing.sets_low stream low)
      (change_where (has_number stream) (with_low low) ls) ds
      (refl, (tt, (sym (open-alike stream t.streams ls g.shadow.alike) ∙ f.accepted, tt))) tt (both-lower stream low t.streams ls g.shadow.alike)
      g.shadow.like (λ ms. refl) (λ ws. refl) refl refl
  sender-goes (outgoing.sets_size size') bytes f =
      by-call (outgoing.sets_size size') f (with_fragment_size size' t) f.step.sender (outgoing.sets_size size') (map (with_size size') ls) ds
      (refl, (tt, (f.accepted, tt))) tt (both-sized size' t.streams ls g.shadow.alike) g.shadow.like (λ ms. refl) (λ ws. refl) refl refl
  sender-goes (outgoing.reserves more) bytes f =
      by-call (outgoing.reserves more) f (with_flight (with_queue t.flight (with_room more t.flight.queue)) t) f.step.sender (outgoing.reserves more) ls ds
      (refl, (tt, (tt, tt))) tt g.shadow.alike g.shadow.like (λ ms. refl) (λ ws. refl) refl refl
  sender-goes (outgoing.starts now) bytes f =
      let q = all_started now t.flight.queue in
      by-call (outgoing.starts now) f (with_flight (with_queue t.flight q) t) f.step.sender (outgoing.starts now) ls ds
      (ap (λ r. with_flight (with_queue t.flight r) w) (sym (started-same now t.flight.queue ds)), (tt, (tt, tt))) tt g.shadow.alike
      (subst (λ (p : payload.Payload). AreLike (kept_of t.kept) p.chunks ds) (sym (started-inflight now t.flight.queue)) g.shadow.like) (λ ms. refl)
      (λ ws. refl) refl refl
  sender-goes outgoing.marks bytes f =
      by-none outgoing.marks f (with_flight (all_marked t.flight) t) f.step.sender refl
      (are-marked IsLike is_outstanding (with_retransmit true)
      (λ k c d i. record { same = i.same; open' = i.open'; whole = i.whole; kept = i.kept; settled = i.settled })
      (kept_of t.kept) t.flight.queue.inflight.chunks ds g.shadow.like)
      refl (λ ms. refl) (λ ws. refl) refl refl
  sender-goes (outgoing.misses count) bytes f =
      by-none (outgoing.misses count) f (with_flight (after_misses count t.flight) t) f.step.sender refl
      (are-part-marked IsLike can_miss missed
      (λ k c d i. record { same = i.same; open' = i.open'; whole = i.whole; kept = i.kept; settled = i.settled }) count
      (kept_of t.kept) t.flight.queue.inflight.chunks ds g.shadow.like)
      refl (λ ms. refl) (λ ws. refl) refl refl
  sender-goes (outgoing.forwards tsn c) bytes f =
      let like = g.shadow.like in
      by-call (outgoing.forwards tsn c) f t f.exact (outgoing.forwards tsn c) ls ds (
        omega arith,
        (
          refl,
          (
            (
              f.accepted.0 ∙ sym (skip-same t.flight (kept_of t.kept) ds like tsn),
              named-same t.flight (kept_of t.kept) ds like c.streams c.new_cumulative_tsn f.accepted.1,
            ),
            tt,
          ),
        ),
      ) tt g.shadow.alike like (λ ms. refl) (λ ws. refl) refl refl
  sender-goes (outgoing.forwards_within room' c) bytes f =
      let like = g.shadow.like in
      by-call (outgoing.forwards_within room' c) f t f.exact (outgoing.forwards_within room' c) ls ds (
        omega arith,
        (
          refl,
          (
            (
              can-same t.flight (kept_of t.kept) ds like c.new_cumulative_tsn ∙ f.accepted.0,
              end-same t.flight (kept_of t.kept) ds like c.new_cumulative_tsn ∙ f.accepted.1,
              named-same t.flight (kept_of t.kept) ds like c.streams c.new_cumulative_tsn f.accepted.2,
            ),
            tt,
          ),
        ),
      ) tt g.shadow.alike like (λ ms. refl) (λ ws. refl) refl refl
