-- The first fragment of a write got a TSN, or it waits: while lifetimes start, writes come and fragments are sent.
use Rattle.sctp_delivery.proofs.Names.{arith, common_steps, nat_tests, ◌≡◌, ℕ, Bool, true, List, [], ◌∷◌, Option, Some, ◌==◌, ◌&&◌, ◌||◌, list_any, or-right}
use Rattle.sctp_delivery.proofs.Names.{ChunkPayloadData, PayloadProtocolIdentifier, Selected, Outbound, all_started, with_message, Pending, next_pending}
use Rattle.sctp_delivery.proofs.Names.{rest_after, IsSendable, made, OutboundStream, fragments_with_mode}
use Rattle.std.proofs.Common.{◌⊎◌}
use Rattle.sctp_delivery.proofs.Begun.{begins, begins-changed, was_begun}
use Rattle.sctp_delivery.proofs.Sent.{Entry, fragment, terminal}

-- the first fragment of this write waits
abbrev pub begins_in : ℕ → Pending → Bool
begins_in m q = list_any (begins m) q.ordered || list_any (begins m) q.unordered

-- or it got a TSN
abbrev pub is_begun : ℕ → List Entry → Pending → Bool
is_begun m sent q = was_begun m sent || begins_in m q

-- the same first fragments wait
abbrev Keeps : Pending → Pending → Type 0
Keeps p q = (m : ℕ) → begins_in m p ≡ true → begins_in m q ≡ true

pub still-begun : (m : ℕ) (x : Entry) (sent : List Entry) → was_begun m sent ≡ true → was_begun m (x ∷ sent) ≡ true
still-begun m terminal sent e = e
still-begun m (fragment d w after) sent e = or-right (d.beginning_fragment && (w.place == m)) (was_begun m sent) e

-- ## Lifetimes start

pub starts-keep : (now : ℕ) (q : Outbound) → Keeps q.pending (all_started now q).pending
starts-keep now q m h = grind (arith, nat_tests, common_steps, begins-changed)

-- ## A write

module _ (l : OutboundStream) (ppi : PayloadProtocolIdentifier) (b : ℕ) (bs : List ℕ) (q : Outbound) where
  abbrev after : Pending
  after = (with_message (fragments_with_mode l ppi (b ∷ bs)) q).pending

  pub write-keeps : Keeps q.pending after
  write-keeps m h = grind (arith, nat_tests, common_steps)

  pub write-begins : begins_in q.next_message_id after ≡ true
  write-begins = grind (arith, nat_tests, common_steps)

-- ## A fragment is sent

-- what begins a message in the queue is the chunk that is next, or stays
abbrev IsNextOrStays : ℕ → ChunkPayloadData → Pending → Type 0
IsNextOrStays m c q = (begins m c ≡ true) ⊎ (begins_in m q ≡ true)

pub next-or-stays : (m : ℕ) (c : ChunkPayloadData) (sel : Option Selected) (ro ru n : ℕ) (xs os us : List ChunkPayloadData)
    → IsSendable (made os us sel ro ru) xs n → next_pending (made os us sel ro ru) ≡ Some c → begins_in m (made os us sel ro ru) ≡ true
    → IsNextOrStays m c (rest_after c.beginning_fragment c.unordered (made os us sel ro ru))
next-or-stays h0 h1 h2 h3 h4 h5 h6 h7 h8 h9 h10 h11 = grind (arith, nat_tests, common_steps)
