-- How much can have been written.
use Rattle.sctp_link.proofs.Names.{◌≡◌, ℕ, ◌+◌, ◌≤◌, List, length, refl, arith, ◌==◌, always, bytes_of, total_bytes, message_at, in_all, written_bytes}
use Rattle.sctp_link.proofs.Names.{pending_bytes, in_flight_bytes, released_bytes, balances, amount, RefinesOutbound, Outbound, State, IsLinked}
use Rattle.sctp_link.proofs.Names.{in-flight-bytes, total-wider}
use Rattle.sctp_model.specs.Amounts.{on_stream}
use Rattle.sctp_model.proofs.refinement.amounts.PendingBytes.{pending-bytes}
use Rattle.sctp_link.proofs.upkeep.Facts.{over}

-- ## What is pending and in flight

pub queued-few : {sum : List ℕ → ℕ} {x : State} → IsLinked sum x → total_bytes x.outbound ≤ in_all x.recorded (written_bytes x.recorded)
queued-few {x} l =
    let p = pending-bytes x.recorded x.outbound.pending l.outbound.pending in
    let f = over (λ w. (q : Outbound) → RefinesOutbound w q → bytes_of q.inflight.chunks ≡ in_all w (in_flight_bytes w)) l
    (in-flight-bytes x.recorded.setup l.history l.setup l.stands.run) x.outbound l.outbound in
    let b = over (λ w. in_all w (written_bytes w) ≡ in_all w (pending_bytes w) + in_all w (in_flight_bytes w) + in_all w (released_bytes w)) l
    (balances x.recorded.setup l.history l.setup l.stands.run).0 in
    omega (arith, p, f, b)

pub amount-few : {sum : List ℕ → ℕ} {x : State} (t : ℕ) → IsLinked sum x → amount x.recorded t ≤ in_all x.recorded (written_bytes x.recorded)
amount-few {x} t l =
    let b = over (λ w. (t : ℕ) → on_stream w t (written_bytes w) ≡ on_stream w t (pending_bytes w) + on_stream w t (in_flight_bytes w)
    + on_stream w t (released_bytes w)) l (balances x.recorded.setup l.history l.setup l.stands.run).1 t in
    let wide = total-wider (written_bytes x.recorded) (λ n. (message_at x.recorded n).stream == t) always 0 (length x.recorded.messages) (λ k a b e. refl) in
    omega (arith, b, wide)
