-- A DATA chunk that a sender made lies as many TSNs before the next one as it is old.
use Rattle.std.proofs.Common.{◌≡◌, ◌+◌, ◌-◌, ◌%◌, ◌<◌, ◌^◌, ℕ, Bool, true, false, List, [], ◌∷◌, map, Option, Some, None, ap, sym}
use Rattle.std.proofs.Common.{subst, arith}
use Rattle.std.proofs.lemmas.Bool.Decides.{nat_tests}
use Rattle.std.specs.Prelude.{⊤, if◌then◌else◌, is_some}
use Rattle.sctp_association.proofs.Long.{Long, ages-in, ages-of, first-of}
use Rattle.sctp_data.specs.declared.chunk.chunk_payload_data.ChunkPayloadData.{ChunkPayloadData}
use Rattle.sctp_delivery.proofs.Every.{Every, every-contained, every-joined, every-mapped}
use Rattle.sctp_delivery.proofs.EveryRecent.{near-after, near-start}
use Rattle.sctp_delivery.proofs.EveryRuns.{next-same}
use Rattle.sctp_delivery.proofs.Recent.{IsNear}
use Rattle.sctp_delivery.specs.EveryCall.{AnyCall, FollowsAny, RunsAny, makes, of_receiving, of_sending}
use Rattle.sctp_delivery.specs.EveryRecent.{AreRecentAny, aged_any}
use Rattle.sctp_delivery.specs.Recent.{Aged, IsAmongYoung, new_chunks, older}
use Rattle.sctp_delivery.specs.SenderCalls as outgoing
use Rattle.sctp_delivery.specs.SenderCalls.{Made, data_chunk, forward_tsn, next_chunk, with_chunk}
use Rattle.sctp_delivery.specs.Session.{Call, Follows, Session, of_sender}
use Rattle.sctp_data.specs.PayloadData.{Data}
use Rattle.sctp_outbound.proofs.lemmas.outbound_queue.Outbounds.{peeked_all_started}
use Rattle.sctp_outbound.specs.outbound_queue.OutboundQueue.{all_started, as_sent}
use Rattle.sctp_outbound.specs.pending_queue.PendingQueue.{next_pending}
use Rattle.sctp_sender.specs.Sender.{Transmission}
use Rattle.std.specs.Prelude.{option_map}
use Rattle.sctp_util.proofs.More.{not_both}
use Rattle.sctp_util.specs.Serial.{comes_before, distance}

-- so many before this one
abbrev IsPlaced : (next : ℕ) → Made → (age : ℕ) → Type 0
IsPlaced next (data_chunk d) age = (d.tsn < 2 ^ 32) × (0 < age) × ((d.tsn + age) % 2 ^ 32 ≡ next)
IsPlaced next (forward_tsn f) age = ⊤

abbrev ArePlaced : ℕ → List Aged → Type 0
ArePlaced next ages = Every (λ (a : Aged). IsPlaced next a.chunk a.age) ages

abbrev next-in : Session → ℕ
next-in s = s.sending.sender.flight.next_tsn

small-next : (s : Session) → IsNear s → next-in s < 2 ^ 32
small-next s i = let e = i.regular.regular.numbered.next_is in omega (arith, e)

placed-later : (a b : ℕ) → a < 2 ^ 32 → b < 2 ^ 32 → (m : Made) (age : ℕ) → IsPlaced a m age → IsPlaced b m (age + distance a b)
unfolding distance
placed-later a b small less (data_chunk d) age p =
    let pos = p.1 in
    let is = p.2 in
    (p.0, omega (arith, pos), omega (arith, small, less, is))
placed-later a b small less (forward_tsn f) age p = tt

all-later : (a b : ℕ) → a < 2 ^ 32 → b < 2 ^ 32 → (ages : List Aged) → ArePlaced a ages → ArePlaced b (map (older (distance a b)) ages)
all-later a b small less ages p =
    every-mapped (λ (x : Aged). IsPlaced a x.chunk x.age) (λ (x : Aged). IsPlaced b x.chunk x.age) (older (distance a b))
    (λ x h. placed-later a b small less x.chunk x.age h) ages p

-- the chunk that gets a TSN has the one that was next
new-placed : (call : Call) (s v : Session) → Follows call s v → next-in s < 2 ^ 32
    → ArePlaced (next-in v) (map (λ m. record { chunk = m; age = 1 }) (new_chunks call s))
new-placed (of_sender (outgoing.sends now)) s v f small =
    let t = s.sending.sender in
    let after = ap (λ (u : Transmission). u.flight.next_tsn) f.exact in
    by (next_pending (all_started now t.flight.queue).pending) (is_some (next_pending t.flight.queue.pending)) (peeked_all_started now t.flight.queue) after
  where
    by : (o : Option ChunkPayloadData) (b : Bool) → is_some o ≡ b
        → next-in v ≡ (if b then (next-in s + 1) % 2 ^ 32 else next-in s)
        → ArePlaced (next-in v) (map (λ m. record { chunk = m; age = 1 }) (with_chunk (option_map (as_sent (next-in s) now) o) []))
    by None b e is = tt
    by (Some c) true e is = ((small, omega arith, sym is), tt)
    by (Some c) false e is = absurd (not_both (sym e))
new-placed (of_sender (outgoing.forwards tsn g)) s v f small = (tt, tt)
new-placed (of_sender (outgoing.forwards_within bytes g)) s v f small = (tt, tt)
new-placed call s v f small = tt

placed-then : (c : AnyCall) (s v : Session) (ages : List Aged) → FollowsAny c s v → IsNear s → IsNear v → ArePlaced (next-in s) ages
    → ArePlaced (next-in v) (aged_any c s v ages)
placed-then (makes call) s v ages f i j p =
    every-joined (λ (x : Aged). IsPlaced (next-in v) x.chunk x.age) (map (λ m. record { chunk = m; age = 1 }) (new_chunks call s))
    (map (older (distance (next-in s) (next-in v))) ages) (new-placed call s v f (small-next s i))
    (all-later (next-in s) (next-in v) (small-next s i) (small-next v j) ages p)
placed-then (of_sending call) s v ages f i j p = subst (λ (n : ℕ). ArePlaced n ages) (sym (next-same call s v f)) p
placed-then (of_receiving call) s v ages f i j p =
    subst (λ (n : ℕ). ArePlaced n ages) (sym (ap (λ (x : Session). next-in x) f.after)) p

placed-each : (cs : List AnyCall) (s new : Session) (ages : List Aged) (r : RunsAny s cs new) → AreRecentAny s cs new r → IsNear s
    → ArePlaced (next-in s) ages → ArePlaced (next-in new) (ages-in ages s cs new r)
placed-each [] s new ages r q i p = subst (λ (x : Session). ArePlaced (next-in x) ages) (sym r) p
placed-each (c ∷ cs) s new ages r q i p =
    let j = near-after c s r.0 q.1 r.1.0 q.0 i in
    placed-each cs r.0 new (aged_any c s r.0 ages) r.1.1 q.2 j (placed-then c s r.0 ages r.1.0 i j p)

comes-so : (t age next : ℕ) → t < 2 ^ 32 → 0 < age → age < 2 ^ 31 → (t + age) % 2 ^ 32 ≡ next → comes_before t next ≡ true
unfolding comes_before distance
comes-so t age next small pos young is =
    let lo : 0 < (next + (2 ^ 32 - t)) % 2 ^ 32 = omega (arith, small, pos, young, is) in
    let hi : (next + (2 ^ 32 - t)) % 2 ^ 32 < 2 ^ 31 = omega (arith, small, pos, young, is) in
    grind (arith, nat_tests, lo, hi)

-- one that is young has a TSN before the next one
pub young-before : (st : Long) (d : Data) → IsAmongYoung (data_chunk d) (ages-of st)
    → comes_before d.tsn st.ran.session.sending.sender.flight.next_tsn ≡ true
young-before st d y =
    let r = st.ran in
    let p = every-contained (λ (x : Aged). IsPlaced (next-in r.session) x.chunk x.age) (ages-of st) (record { chunk = data_chunk d; age = y.0 }) y.2
    (placed-each r.calls (first-of r) r.session [] r.run st.recent (near-start r.reported r.tsn r.size r.max r.most r.limits st.small) tt) in
    comes-so d.tsn y.0 (next-in r.session) p.0 p.1 y.1 p.2
