-- What a SACK takes back of what is in flight, beside what would be in flight if no gap ack block were taken.
use Rattle.sctp_delivery.proofs.Names.{common_steps, ◌≡◌, ℕ, ◌<◌, ◌≤◌, ◌+◌, ◌^◌, Bool, true, not, List, [], ◌∷◌, arith, Option, None, is_some, if◌then◌else◌}
use Rattle.sctp_delivery.proofs.Names.{◌&&◌, nat_lt, nat_tests, sum_by-cons, ChunkPayloadData, Sack, Flight, Transmission, bytes_of, total_bytes, with_inflight}
use Rattle.sctp_delivery.proofs.Names.{is_outdated, sack_refusal, SenderRefusal}
use Rattle.sctp_sender.specs.Keeping.{bytes_back, restored}
use Rattle.sctp_sender.specs.Sender.{after_take_back, back_by, or_full, take_back_refusal, taken_back_by}
use Rattle.sctp_sender.proofs.Keepings.{answered-weight, back-bytes}
use Rattle.sctp_sender.proofs.Placed.{back-length}
use Rattle.sctp_delivery.proofs.Plain.{AreLike, are-back, rest_of}
use Rattle.sctp_delivery.proofs.PlainFlights.{settled-kept}
use Rattle.sctp_delivery.proofs.PlainSessions.{kept_of}

-- what comes back is as it would be
pub back-like : (sack : Sack) (f : Flight) (o : Option (List (Option (List ℕ)))) (ds : List ChunkPayloadData) → AreLike (kept_of o) f.queue.inflight.chunks ds
    → AreLike (kept_of o) (restored (back_by sack f o) f.queue.inflight.chunks) ds
back-like h0 h1 h2 h3 h4 = grind (arith, nat_tests, common_steps, are-back)

-- what is in flight has no more bytes than it would have
pub lighter : (ks : List (Option (List ℕ))) (cs ds : List ChunkPayloadData) → AreLike ks cs ds → bytes_of cs ≤ bytes_of ds
lighter ks [] [] a = omega arith
lighter ks [] (d ∷ ds) a = absurd a
lighter ks (c ∷ cs) [] a = absurd a
lighter ks (c ∷ cs) (d ∷ ds) a = grind (arith, nat_tests, common_steps, sum_by-cons, lighter (rest_of ks) cs ds a.1)

-- what comes back is what is in flight more
pub back-more : (sack : Sack) (t : Transmission) (ds : List ChunkPayloadData) → AreLike (kept_of t.kept) t.flight.queue.inflight.chunks ds
    → total_bytes (after_take_back sack t).flight.queue ≡ total_bytes t.flight.queue + bytes_back (taken_back_by sack t)
back-more sack t ds a = grind (arith, nat_tests, common_steps, settled-kept, back-bytes, answered-weight, back-length)

fits-back : (a : Bool) (o : Option SenderRefusal) (b : Bool) → o ≡ None → b ≡ true → (if a then or_full o b else None) ≡ None
fits-back a o b none fits = grind (arith, nat_tests)

-- no more than would be in flight
pub back-few : (sack : Sack) (t : Transmission) (ds : List ChunkPayloadData) → AreLike (kept_of t.kept) t.flight.queue.inflight.chunks ds
    → total_bytes (with_inflight t.flight.queue ds) < 2 ^ 64 → total_bytes (after_take_back sack t).flight.queue < 2 ^ 64
back-few sack t ds a few =
    let less = lighter (kept_of t.kept) (restored (back_by sack t.flight t.kept) t.flight.queue.inflight.chunks) ds (back-like sack t.flight t.kept ds a) in
    omega (arith, less, few)

-- so it is not refused
pub back-fits : (sack : Sack) (t : Transmission) (ds : List ChunkPayloadData) → AreLike (kept_of t.kept) t.flight.queue.inflight.chunks ds
    → total_bytes (with_inflight t.flight.queue ds) < 2 ^ 64 → sack_refusal sack t.flight ≡ None → take_back_refusal sack t ≡ None
back-fits sack t ds a few none =
    let more = back-more sack t ds a in
    let less = back-few sack t ds a few in
    let lt : total_bytes t.flight.queue + bytes_back (taken_back_by sack t) < 2 ^ 64 = omega (arith, more, less) in
    fits-back (is_some t.kept && not (is_outdated sack t.flight)) (sack_refusal sack t.flight)
    (nat_lt (total_bytes t.flight.queue + bytes_back (taken_back_by sack t)) (2 ^ 64)) none (grind (arith, nat_tests))
