-- Moments before which no chunk has a deadline.
use Rattle.std.proofs.Common.{◌≡◌, ℕ, ◌<◌, ◌≤◌, ◌&&◌, ◌||◌, Bool, true, false, not, Option, None, Some, List, [], ◌∷◌, get_or, refl, sym, subst, arith}
use Rattle.std.specs.Prelude.{IfSome}
use Rattle.std.specs.List.{filter}
use Rattle.std.proofs.lemmas.Bool.Decides.{nat_tests}
use Rattle.std.proofs.lemmas.List.Elements.{All-head, All-tail}
use Rattle.sctp_data.specs.Reliability.{is_past}
use Rattle.sctp_data.specs.declared.chunk.chunk_payload_data.ChunkPayloadData.{ChunkPayloadData}
use Rattle.sctp_outbound.specs.Stored.{IsNotBefore, NoneBefore}
use Rattle.sctp_outbound.specs.outbound_queue.OutboundQueue.{is_late}
use Rattle.sctp_outbound.specs.pending_queue.PendingQueue.{Pending}
use Rattle.sctp_outbound.specs.pending_queue.Whole.{waits}

sooner_of : (m n : ℕ) → n ≤ m → (o : Option ℕ) → IfSome o (λ t. m ≤ t) → IfSome o (λ t. n ≤ t)
sooner_of m n le None h = tt
sooner_of m n le (Some t) h = omega (arith, h)

pub not_sooner : (m n : ℕ) (c : ChunkPayloadData) → n ≤ m → IsNotBefore m c → IsNotBefore n c
not_sooner m n c le h live = sooner_of m n le c.deadline (h live)

-- an earlier moment
pub none_sooner : (m n : ℕ) (xs : List ChunkPayloadData) → n ≤ m → NoneBefore m xs → NoneBefore n xs
none_sooner m n xs le h k d lt = not_sooner m n (get_or xs k d) le (h k d lt)

past_of : (m now : ℕ) → now < m → (o : Option ℕ) → IfSome o (λ t. m ≤ t) → is_past now o ≡ false
past_of m now lt None h = refl
past_of m now lt (Some t) h = grind (arith, nat_tests)

not_late : (m now : ℕ) → now < m → (a b : Bool) (o : Option ℕ) → (a ≡ false → IfSome o (λ t. m ≤ t)) → (not a && (is_past now o && b)) ≡ false
not_late m now lt true b o h = refl
not_late m now lt false b o h = subst (λ p. (p && b) ≡ false) (sym (past_of m now lt o (h refl))) refl

-- before the moment none is late
pub none_late : (m now : ℕ) (q : Pending) (xs : List ChunkPayloadData) → now < m → NoneBefore m xs → filter (is_late now q) xs ≡ []
none_late m now q [] lt h = refl
none_late m now q (x ∷ xs) lt h =
    let first = not_late m now lt x.abandoned (not x.acked || waits x.message_id q) x.deadline (All-head (IsNotBefore m) x xs h) in
    rw first (none_late m now q xs lt (All-tail (IsNotBefore m) x xs h))
