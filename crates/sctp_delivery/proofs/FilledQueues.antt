-- Each chunk that waits has some bytes, whatever a sender does.
use Rattle.sctp_delivery.proofs.Names.{nat_tests, common_steps, ◌≡◌, ℕ, zero, suc, ◌+◌, ◌<◌, ◌≤◌, List, [], ◌∷◌, length, map, drop, refl, sym, subst, arith}
use Rattle.sctp_delivery.proofs.Names.{always, numbers_where, pieces, ChunkPayloadData, PayloadProtocolIdentifier, Outbound, with_message, OutboundStream}
use Rattle.sctp_delivery.proofs.Names.{fragment_at, fragments_of, pieces_of, fragments_with_mode, with_reliability, Transmission, Makes, IsAccepted}
use Rattle.sctp_delivery.proofs.Names.{MakesExactly, SenderCall, as_run, writes}
use Rattle.sctp_delivery.proofs.Every.{Every, every-at, every-mapped, every-all}
use Rattle.sctp_delivery.proofs.Numbers.{AreSized, size-found}
use Rattle.sctp_delivery.proofs.Writing.{accepted-stream}
use Rattle.sctp_delivery.proofs.QueueChunks.{AllWait, EachIs, pushed}
use Rattle.sctp_delivery.proofs.Changes.{Keeps, each-call}

abbrev pub IsFilled : ChunkPayloadData → Type 0
IsFilled c = 0 < length c.user_data

abbrev pub AreFilled : Outbound → Type 0
AreFilled q = AllWait IsFilled q.pending

-- ## Fragments

pieces-filled : (most size : ℕ) (bytes : List ℕ) → 0 < size → Every (λ (p : List ℕ). 0 < length p) (pieces most size bytes)
pieces-filled zero size bytes some = tt
pieces-filled (suc most) size [] some = tt
pieces-filled (suc most) zero (x ∷ xs) some = absurd (omega (arith, some))
pieces-filled (suc most) (suc size) (x ∷ xs) some = (omega arith, pieces-filled most (suc size) (drop (suc size) (x ∷ xs)) some)

module _ (l : OutboundStream) (ppi : PayloadProtocolIdentifier) (bytes : List ℕ) (some : 0 < l.max_payload_size) where
  all-pieces : Every (λ (p : List ℕ). 0 < length p) (pieces_of l bytes)
  all-pieces = pieces-filled (length bytes) l.max_payload_size bytes some

  fragments-from : (i k : ℕ) → i + k ≤ length (pieces_of l bytes) → Every IsFilled (map (fragment_at l ppi bytes) (numbers_where always i k))
  fragments-from i zero le = tt
  fragments-from i (suc k) le = grind (arith, nat_tests, common_steps, every-at, all-pieces, fragments-from (i + 1) k (omega (arith, le)))

  pub fragments-filled : Every IsFilled (fragments_with_mode l ppi bytes)
  fragments-filled =
      every-mapped IsFilled IsFilled (with_reliability l.reliability_type l.reliability_value) (λ c h. h) (fragments_of l ppi bytes)
      (fragments-from 0 (length (pieces_of l bytes)) (omega arith))

-- ## The calls

abbrev Any : ChunkPayloadData → Type 0
Any c = Unit {0}

-- of what is in flight nothing is said
each-of : (q : Outbound) → AreFilled q → EachIs IsFilled Any q
each-of q s = record { ordered = s.0; unordered = s.1; inflight = every-all Any (λ c. tt) q.inflight.chunks }

waits-of : (q : Outbound) → EachIs IsFilled Any q → AreFilled q
waits-of q h = (h.ordered, h.unordered)

message-filled : (cs : List ChunkPayloadData) (q : Outbound) → Every IsFilled cs → AreFilled q → AreFilled (with_message cs q)
message-filled cs q h s = waits-of (with_message cs q) (pushed IsFilled Any IsFilled Any (λ c i. i) (λ c i. i) cs q h (each-of q s))

module _ (t : Transmission) (sized : AreSized t.streams) (h : AreFilled t.flight.queue) where
  to : (u v : Transmission) → u ≡ v → AreFilled v.flight.queue → AreFilled u.flight.queue
  to u v e i = subst (λ (x : Transmission). AreFilled x.flight.queue) (sym e) i

  keeps : Keeps IsFilled Any t
  keeps = grind (arith, nat_tests, common_steps)

  filled-call : (call : SenderCall) (u : Transmission) → Makes (as_run call) t u → MakesExactly call t u → IsAccepted call t → AreFilled u.flight.queue
  filled-call (writes stream ppi (b ∷ bs)) u e x a =
      let l = accepted-stream stream (length (b ∷ bs)) t a in
      to u _ (x.1 (omega arith) l.0 l.1)
      (message-filled (fragments_with_mode l.0 ppi (b ∷ bs)) t.flight.queue
      (fragments-filled l.0 ppi (b ∷ bs) (size-found stream t.streams l.0 l.1 sized)) h)
  filled-call call u e x a = waits-of u.flight.queue (each-call IsFilled Any t keeps (each-of t.flight.queue h) u call refl e x)

pub filled-step : (call : SenderCall) (t u : Transmission) → Makes (as_run call) t u → MakesExactly call t u → IsAccepted call t → AreSized t.streams
    → AllWait IsFilled t.flight.queue.pending → AllWait IsFilled u.flight.queue.pending
filled-step call t u e x a sized h = filled-call t sized h call u e x a
