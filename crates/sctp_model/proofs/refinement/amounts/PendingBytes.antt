-- The bytes that the pending queue holds are those that the record says.
use Rattle.sctp_model.proofs.Names.{◌≡◌, ℕ, ◌+◌, ◌-◌, Bool, List, [], ◌∷◌, length, map, refl, ap, ◌∙◌, arith, if◌then◌else◌, ◌&&◌, not, sum_by-cons, flat_map}
use Rattle.sctp_model.proofs.Names.{always, total_over, numbers_where, total-where, total-plus, ChunkPayloadData, bytes_of, Pending, LinkRecord, message_at}
use Rattle.sctp_model.proofs.Names.{messages_where, fragment_at, is_expired_or_abandoned, in_all, pending_bytes, unsent_bytes, waiting_at, waiting_of}
use Rattle.sctp_model.proofs.Names.{waits_ordered, waits_unordered, RefinesPending, waiting_where, nat_tests}
use Rattle.std.proofs.lemmas.List.Sums.{sum_by-append}
use Rattle.sctp_outbound.specs.pending_queue.PendingQueue.{total_bytes}

abbrev size : ChunkPayloadData → ℕ
size c = length c.user_data

bytes-mapped : (w : LinkRecord) (n : ℕ) (is : List ℕ) → bytes_of (map (waiting_at w n) is) ≡ total_over (λ i. length (fragment_at w n i)) is
bytes-mapped w n [] = refl
bytes-mapped w n (i ∷ is) = sum_by-cons size (waiting_at w n i) (map (waiting_at w n) is) ∙ ap (λ t. length (fragment_at w n i) + t) (bytes-mapped w n is)

bytes-gathered : (w : LinkRecord) (ns : List ℕ) → bytes_of (flat_map (waiting_of w) ns) ≡ total_over (unsent_bytes w) ns
bytes-gathered w [] = refl
bytes-gathered w (n ∷ ns) = grind (arith, nat_tests, sum_by-append, bytes-mapped, bytes-gathered w ns)

pub pending-bytes : (w : LinkRecord) (q : Pending) → RefinesPending w q → total_bytes q ≡ in_all w (pending_bytes w)
pending-bytes w q t =
    ap (λ l. bytes_of l + bytes_of q.unordered) t.ordered ∙ ap (λ l. bytes_of (waiting_where w (waits_ordered w)) + bytes_of l) t.unordered
    ∙ ap (λ k. k + bytes_of (waiting_where w (waits_unordered w)))
    (bytes-gathered w (messages_where w (waits_ordered w)) ∙ total-where (unsent_bytes w) (waits_ordered w) 0 (length w.messages))
    ∙ ap (λ k. total_over (λ n. if waits_ordered w n then unsent_bytes w n else 0) (numbers_where always 0 (length w.messages)) + k)
    (bytes-gathered w (messages_where w (waits_unordered w)) ∙ total-where (unsent_bytes w) (waits_unordered w) 0 (length w.messages))
    ∙ total-plus (λ n. if waits_ordered w n then unsent_bytes w n else 0) (λ n. if waits_unordered w n then unsent_bytes w n else 0)
    (pending_bytes w) always 0 (length w.messages) (λ n a b. each (message_at w n).ordered (is_expired_or_abandoned w n) (unsent_bytes w n))
  where
    each : (o g : Bool) (k : ℕ) → (if o && not g then k else 0) + (if not o && not g then k else 0) ≡ (if g then 0 else k)
    each b c k = grind (arith, nat_tests)
