-- The fragments of a datagram, looked at before they leave, each as the chunk that is made of it.
use Rattle.sctp_model.proofs.Names.{◌≡◌, ℕ, zero, suc, ◌+◌, ◌-◌, ◌/◌, ◌<◌, ◌≤◌, true, List, [], ◌∷◌, ◌++◌, length, map, Option, Some, None, refl, ap, ◌∙◌}
use Rattle.sctp_model.proofs.Names.{arith, add-one, append_assoc, sym, is_some, nat_tests, ChunkPayloadData, Pending, next_pending, Outbound, all_started}
use Rattle.sctp_model.proofs.Names.{after_sends, taken_of, chunk_length, further, chunks_taken, following_tsn, under_tsn}
use Rattle.std.proofs.lemmas.List.{append-nil}
use Rattle.sctp_outbound.specs.outbound_queue.OutboundQueue.{sent_of, sent_next}
use Rattle.sctp_outbound.proofs.lemmas.outbound_queue.Outbounds.{peeked_all_started}
use Rattle.sctp_model.proofs.refinement.sending.FilledDatagrams.{turns-enough}

after-send : (i : ℕ) (q : Pending) → after_sends (suc i) q ≡ taken_of (next_pending (after_sends i q)) (after_sends i q)
after-send zero q = refl
after-send (suc i) q = after-send i (taken_of (next_pending q) q)

-- ## The loop

pub begins : {A : Type 0} (f : ChunkPayloadData → A) (limit tsn used : ℕ) (q : Pending) (c : ChunkPayloadData) (ks : List A) → next_pending q ≡ Some c
    → ks ≡ f (under_tsn tsn c) ∷ [] → used ≡ 12 + chunk_length (length c.user_data) → ks
    ++ map f (further (limit / 16 - 0) limit used (following_tsn tsn) (taken_of (next_pending q) q)) ≡ map f (chunks_taken limit tsn q)
begins f limit tsn used q c ks shown one is =
    let fuel : limit / 16 - 0 ≡ limit / 16 = omega arith in
    let all : limit / 16 + (limit - limit / 16) ≡ limit = omega arith in
    cc (one, fuel, turns-enough (limit / 16) (limit - limit / 16) limit used (following_tsn tsn) (taken_of (next_pending q) q) (omega arith), all, is, shown)

-- with the next one
further-fits : (most limit used tsn : ℕ) (q : Pending) (c : ChunkPayloadData) → next_pending q ≡ Some c → used + chunk_length (length c.user_data) ≤ limit
    → further (suc most) limit used tsn q ≡ under_tsn tsn c ∷ further most limit (used + chunk_length (length c.user_data)) (following_tsn tsn)
    (taken_of (next_pending q) q)
further-fits most limit used tsn q c shown le = grind (arith, nat_tests)

pub goes-on : {A : Type 0} (f : ChunkPayloadData → A) (most limit used tsn i : ℕ) (q : Pending) (c : ChunkPayloadData) (ks ls complete : List A) → i < most
    → next_pending (after_sends (i + 1) q) ≡ Some c → used + chunk_length (length c.user_data) ≤ limit → ls ≡ ks ++ f (under_tsn tsn c) ∷ []
    → ks ++ map f (further (most - i) limit used tsn (after_sends (i + 1) q)) ≡ complete → ls
    ++ map f (further (most - (i + 1)) limit (used + chunk_length (length c.user_data)) (following_tsn tsn) (after_sends (i + 1 + 1) q)) ≡ complete
goes-on f most limit used tsn i q c ks ls complete lt shown le more e =
    let fuel : most - i ≡ suc (most - (i + 1)) = omega (arith, lt) in
    let rest = further (most - (i + 1)) limit (used + chunk_length (length c.user_data)) (following_tsn tsn) (after_sends (i + 1 + 1) q) in
    let next : after_sends (i + 1 + 1) q ≡ taken_of (next_pending (after_sends (i + 1) q)) (after_sends (i + 1) q) = ap (λ k. after_sends k q) (add-one (i + 1))
    ∙ after-send (i + 1) q in
    ap (λ l. l ++ map f rest) more
    ∙ append_assoc ks (f (under_tsn tsn c) ∷ []) (map f rest)
    ∙ ap (λ r. ks ++ map f (under_tsn tsn c ∷ further (most - (i + 1)) limit (used + chunk_length (length c.user_data)) (following_tsn tsn) r)) next
    ∙ sym (ap (λ k. ks ++ map f (further k limit used tsn (after_sends (i + 1) q))) fuel
    ∙ ap (λ l. ks ++ map f l) (further-fits (most - (i + 1)) limit used tsn (after_sends (i + 1) q) c shown le)) ∙ e

-- no further one
further-none : (most limit used tsn : ℕ) (q : Pending) → next_pending q ≡ None → further most limit used tsn q ≡ []
further-none zero limit used tsn q none = refl
further-none (suc most) limit used tsn q none = cc none

pub stops-none : {A : Type 0} (f : ChunkPayloadData → A) (most limit used tsn : ℕ) (q : Pending) (ks complete : List A) → next_pending q ≡ None
    → ks ++ map f (further most limit used tsn q) ≡ complete → ks ≡ complete
stops-none f most limit used tsn q ks complete none e = cc (append-nil ks, further-none most limit used tsn q none, e)

-- none that fits
further-full : (most limit used tsn : ℕ) (q : Pending) (c : ChunkPayloadData) → next_pending q ≡ Some c → limit < used + chunk_length (length c.user_data)
    → further most limit used tsn q ≡ []
further-full zero limit used tsn q c shown lt = refl
further-full (suc most) limit used tsn q c shown lt = grind (arith, nat_tests)

pub stops-full : {A : Type 0} (f : ChunkPayloadData → A) (most limit used tsn : ℕ) (q : Pending) (c : ChunkPayloadData) (ks complete : List A)
    → next_pending q ≡ Some c → limit < used + chunk_length (length c.user_data) → ks ++ map f (further most limit used tsn q) ≡ complete → ks ≡ complete
stops-full f most limit used tsn q c ks complete shown lt e = cc (append-nil ks, further-full most limit used tsn q c shown lt, e)

-- ## Room

-- a fragment that leaves takes the room of one
pub room-less : (q r : Outbound) (tsn now : ℕ) (c : ChunkPayloadData) → next_pending q.pending ≡ Some c → r ≡ sent_next q tsn now → 0 < q.inflight.room
    → q.inflight.room ≡ r.inflight.room + 1
room-less q r tsn now c shown is pos = cc (by (next_pending (all_started now q).pending) (peeked_all_started now q ∙ ap is_some shown), is)
  where
    same : (all_started now q).inflight.room ≡ q.inflight.room
    same = grind (arith, nat_tests)

    by : (o : Option ChunkPayloadData) → is_some o ≡ true → q.inflight.room ≡ (sent_of o (all_started now q) tsn now).inflight.room + 1
    by None e = cc
    by (Some d) e = omega (arith, same, pos)
