-- Each call of a sender, and what it makes of all that got TSNs.
use Rattle.sctp_delivery.proofs.Names.{common_steps, ◌≡◌, ℕ, ◌<◌, Bool, true, List, [], ◌∷◌, length, Option, None, inl, refl, ap, sym, subst, ◌∙◌, arith, zero}
use Rattle.sctp_delivery.proofs.Names.{suc, Contains, find, slice_index_or, nat_tests, ChunkPayloadData, ForwardTsn, is_outstanding, with_retransmit}
use Rattle.sctp_delivery.proofs.Names.{all_started, KeepsMessage, has_tsn, ExpiredMessage, AbandonedMessage, Name, named_up_to, message_to_abandon, late_order}
use Rattle.sctp_delivery.proofs.Names.{worn_order, count_again, sent_again, Transmission, written_to, Makes, found-partial, tail-partial, Expires, ExpiresTail}
use Rattle.sctp_delivery.proofs.Names.{IsAccepted, Made, MakesExactly, SenderCall, abandons, as_run, expires, expires_late, expires_rexmit, expires_tail}
use Rattle.sctp_delivery.proofs.Names.{forward_tsn, forwards, forwards_within, made_after, marks, next_chunk, opens, resends, reserves, sends, sets_low}
use Rattle.sctp_delivery.proofs.Names.{sets_mode, sets_size, starts, takes_sack, writes, Write}
use Rattle.sctp_sender.specs.Flight.{with_queue}
use Rattle.sctp_delivery.specs.SenderCalls.{misses}
use Rattle.sctp_delivery.proofs.OrderedRest.{names-known}
use Rattle.sctp_delivery.proofs.Numbers.{all-open, counts-sized, number_of, numbers-sized, opened, sized-all, steady-changed, steady-same, there-sized}
use Rattle.sctp_delivery.proofs.Queues.{started}
use Rattle.sctp_delivery.proofs.Senders.{IsHeldOn, ResultOn, abandons-all, abandons-message, acked, calm, changed, first-changed, renumbered, sends-next}
use Rattle.sctp_delivery.proofs.Senders.{steady}
use Rattle.sctp_delivery.proofs.Sent.{Entry, Numbered}
use Rattle.sctp_delivery.proofs.Writing.{accepted-stream, expires-one, writes-some}
use Rattle.sctp_delivery.proofs.Every.{every-found}
use Rattle.sctp_delivery.proofs.Changes.{expired-one}

-- the writes, numbered, after a call
abbrev pub numbered_after : SenderCall → List Numbered → List Numbered
numbered_after (writes stream ppi []) ns = ns
numbered_after (writes stream ppi (b ∷ bs)) ns = record { stream = stream; payload_type = ppi; bytes = b ∷ bs; place = length ns } ∷ ns
numbered_after call ns = ns

-- the chunk that a call gives the next TSN, if it sends one
abbrev pub sent_by : SenderCall → Transmission → Option ChunkPayloadData
sent_by (sends now) t = next_chunk now t
sent_by call t = None

module _ (on : ℕ → Bool) (ws : List Numbered) (first : ℕ) (t : Transmission) (sent : List Entry) (ms : List Made) (h : IsHeldOn on ws first t sent) where
  -- a call that changes nothing
  same : (u : Transmission) → u ≡ t → ResultOn on None ws ws first sent u ms ms
  same u e = subst (λ x. ResultOn on None ws ws first sent x ms ms) (sym e) (calm on ws ws first sent t ms h)

  expires-call : (now : ℕ) (m : Option ExpiredMessage) (u : Transmission) → Expires now m t u → ResultOn on None ws ws first sent u ms ms
  expires-call now m u h4 = grind (arith, nat_tests, expired-one, expires-one, same)

  expires-tail-call : (now : ℕ) (m : Option AbandonedMessage) (u : Transmission) → ExpiresTail now m t u → ResultOn on None ws ws first sent u ms ms
  expires-tail-call h0 h1 h2 h3 = grind (arith, same, abandons-message, tail-partial)

  again-keeps : (n now : ℕ) → KeepsMessage (sent_again n now)
  again-keeps n now = record { number = λ _. refl; begins = λ _. refl; ends = λ _. refl; kind = λ _. refl }

  resends-call : (tsn now : ℕ) (c : ChunkPayloadData) (u : Transmission) → Makes (as_run (resends tsn now c)) t u → IsAccepted (resends tsn now c) t
      → ResultOn on None ws ws first sent u ms (made_after (resends tsn now c) t ms)
  resends-call tsn now c u m a =
      subst (λ y. ResultOn on None ws ws first sent y ms (made_after (resends tsn now c) t ms)) (sym m)
      (record {
        more = sent;
        held = changed on ws first t sent (has_tsn tsn) (sent_again (count_again c) now) (again-keeps (count_again c) now)
            (λ d. (λ o. (o, refl), record { kind = refl; stream = refl; number = refl; tsn = refl; message = refl; ends = refl })) h;
        once = inl refl;
        grown = inl refl;
        made = grind (arith, nat_tests, common_steps, every-found);
      })

  forwards-call : (f : ForwardTsn) (u : Transmission) → u ≡ t → Name f.streams (named_up_to f.new_cumulative_tsn t.flight)
      → ResultOn on None ws ws first sent u ms (forward_tsn f ∷ ms)
  forwards-call f u x n = subst (λ y. ResultOn on None ws ws first sent y ms (forward_tsn f ∷ ms)) (sym x) (record {
    more = sent;
    held = h;
    once = inl refl;
    grown = inl refl;
    made = λ s. (names-known on first sent f.streams f.new_cumulative_tsn t.flight h.stands.known n, s);
  })

  pub stepped : (call : SenderCall) (u : Transmission) → Makes (as_run call) t u → MakesExactly call t u → IsAccepted call t
      → ResultOn on (sent_by call t) ws (numbered_after call ws) first sent u ms (made_after call t ms)
  stepped (opens stream) u m x a =
      subst (λ y. ResultOn on None ws ws first sent y ms ms) (sym m)
      (calm on ws ws first sent _ ms
      (steady on ws first t sent h _ (opened stream t.fragment_size h.size t.streams a) t.flight sent h.stands))
  stepped (sets_mode stream unordered reliability value) u m x a = grind (arith, nat_tests, common_steps, calm, steady, steady-changed)
  stepped (writes stream ppi []) u m x a = same u (x.0 refl)
  stepped (writes stream ppi (b ∷ bs)) u m x a =
      let l = accepted-stream stream (length (b ∷ bs)) t a in
      subst (λ y. ResultOn on None ws (numbered_after (writes stream ppi (b ∷ bs)) ws) first sent y ms ms) (sym (x.1 (omega arith) l.0 l.1))
      (subst (λ k. let w : Numbered = record { stream = stream; payload_type = ppi; bytes = b ∷ bs; place = k } in ResultOn on None ws (w ∷ ws) first sent
      (written_to l.0 stream ppi (b ∷ bs) t) ms ms) h.stands.ids (writes-some on ws first t sent ms h stream ppi b bs l.0 l.1))
  stepped (starts now) u m x a =
      subst (λ y. ResultOn on None ws ws first sent y ms ms) (sym m)
      (calm on ws ws first sent _ ms (steady on ws first t sent h t.streams (steady-same t.streams) (with_queue t.flight (all_started now t.flight.queue)) sent
      (started on ws first (λ s. number_of s t.streams) now t.flight.queue t.flight.next_tsn sent h.stands)))
  stepped (sends now) u m x a =
      subst (λ y. ResultOn on (next_chunk now t) ws ws first sent y ms (made_after (sends now) t ms)) (sym x) (sends-next on ws first t sent ms now h)
  stepped (resends tsn now c) u m x a = resends-call tsn now c u m a
  stepped (abandons tsn a') u m x a =
      subst (λ y. ResultOn on None ws ws first sent y ms ms) (sym x)
      (abandons-message on ws first t sent ms h (message_to_abandon tsn t.flight)
      (found-partial t.flight.queue h.stands.sendable tsn (find (has_tsn tsn) t.flight.queue.inflight.chunks) refl) a'.stream a'.bytes)
  stepped (expires now m') u m x a = expires-call now m' u x
  stepped (expires_tail now m') u m x a = expires-tail-call now m' u x
  stepped (expires_late now gone) u m x a =
      subst (λ y. ResultOn on None ws ws first sent y ms ms) (sym x) (abandons-all on ws first t sent ms h (late_order now t.flight))
  stepped (expires_rexmit gone) u m x a = subst (λ y. ResultOn on None ws ws first sent y ms ms) (sym x)
      (abandons-all on ws first t sent ms h (worn_order t.flight))
  stepped (forwards tsn f) u m x a = forwards-call f u x a.1
  stepped (forwards_within bytes f) u m x a = forwards-call f u x a.2
  stepped marks u m x a =
      subst (λ y. ResultOn on None ws ws first sent y ms ms) (sym m)
      (calm on ws ws first sent _ ms (changed on ws first t sent is_outstanding (with_retransmit true)
      (record { number = λ _. refl; begins = λ _. refl; ends = λ _. refl; kind = λ _. refl })
      (λ d. (λ o. (o, refl), record { kind = refl; stream = refl; number = refl; tsn = refl; message = refl; ends = refl })) h))
  stepped (misses count) u m x a = grind (arith, nat_tests, calm, first-changed)
  stepped (sets_size size) u m x a =
      subst (λ y. ResultOn on None ws ws first sent y ms ms) (sym m)
      (calm on ws ws first sent _ ms (record {
        stands = renumbered on ws first (λ s. number_of s t.streams) _ t.flight.queue t.flight.next_tsn sent (λ s _. numbers-sized size s t.streams) h.stands;
        open' = all-open on t.streams _ (λ s _ o. there-sized size s t.streams ∙ o) ws h.open';
        sized = sized-all size a.0 t.streams;
        apart = λ s. let e = counts-sized size s t.streams in let k = h.apart s in omega (arith, e, k);
        size = a.0;
      }))
  stepped (sets_low stream bytes) u m x a = grind (arith, nat_tests, common_steps, calm, steady, steady-changed)
  stepped (reserves count) u m x a = grind (arith, nat_tests)
  stepped (takes_sack sack gone) u m x a = subst (λ y. ResultOn on None ws ws first sent y ms ms) (sym x)
      (calm on ws ws first sent _ ms (acked on ws first t sent sack h))

-- ## Writes without their places

abbrev pub forget : Numbered → Write
forget n = record { stream = n.stream; payload_type = n.payload_type; bytes = n.bytes }

abbrev pub forgotten : List Numbered → List Write
forgotten [] = []
forgotten (n ∷ ns) = forget n ∷ forgotten ns

pub length-forgotten : (ns : List Numbered) → length (forgotten ns) ≡ length ns
length-forgotten [] = refl
length-forgotten (n ∷ ns) = ap suc (length-forgotten ns)

pub at-forgotten : (ns : List Numbered) (k : ℕ) (n : Numbered) (w : Write) → k < length ns → slice_index_or ns k n ≡ n
    → slice_index_or (forgotten ns) k w ≡ forget n
at-forgotten [] k n w lt e = absurd (omega (arith, lt))
at-forgotten (x ∷ xs) zero n w lt e = ap forget e
at-forgotten (x ∷ xs) (suc k) n w lt e = at-forgotten xs k n w (omega (arith, lt)) e

pub contains-forgotten : (ns : List Numbered) (n : Numbered) → Contains ns n → Contains (forgotten ns) (forget n)
contains-forgotten ns n c = (c.0, (let e = length-forgotten ns in let lt = c.1 in omega (arith, e, lt)), at-forgotten ns c.0 n (forget n) c.1 c.2)
