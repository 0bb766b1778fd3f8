-- Payload queues that differ in their chunks alone.
use Rattle.std.proofs.Common.{◌≡◌, ℕ, ◌+◌, ◌≤◌, Bool, true, false, List, [], ◌∷◌, length, refl, ap, ◌∙◌, arith}
use Rattle.std.specs.Prelude.{min, not, if◌then◌else◌}
use Rattle.sctp_data.specs.declared.chunk.chunk_payload_data.ChunkPayloadData.{ChunkPayloadData}
use Rattle.sctp_outbound.specs.Stored.{Stored}
use Rattle.sctp_outbound.specs.payload_queue.PayloadQueue.{Payload, with_chunks, without_front, without}
use Rattle.sctp_serial.specs.DataChunks.{has_tsn}

-- two queues that differ in nothing else
pub same_but_chunks : {duplicates : List ℕ} {room : ℕ} {xs ys : List ChunkPayloadData} → xs ≡ ys
    → (let q : Payload = record { chunks = xs; duplicates = duplicates; room = room } in q) ≡ record { chunks = ys; duplicates = duplicates; room = room }
same_but_chunks {duplicates} {room} e = ap (λ cs. let q : Payload = record { chunks = cs; duplicates = duplicates; room = room } in q) e

-- one that is made of the same parts
pub made_of : (q : Payload) (held : Stored) (ds : List ℕ) → held.chunks ≡ q.chunks → held.room ≡ q.room → ds ≡ q.duplicates
    → (let p : Payload = record { chunks = held.chunks; duplicates = ds; room = held.room } in p) ≡ q
made_of q held ds chunks room duplicates = rw (chunks, room, duplicates) refl

-- a chunk leaves its place as room, and then the room is what it was
pub room_back : (q mid new : Payload) (cs : List ChunkPayloadData) (room : ℕ) → room ≡ q.room → mid ≡ record q { chunks = cs; room = mid.room }
    → length mid.chunks + mid.room ≡ length q.chunks + q.room → length cs ≤ length q.chunks → new ≡ record mid { room = min room mid.room }
    → new ≡ with_chunks q cs
room_back q mid new cs room was is places few limited =
    let same : length mid.chunks ≡ length cs = ap (λ (p : Payload). length p.chunks) is in
    let low : min room mid.room ≡ q.room = omega arith in
    limited ∙ ap (λ (p : Payload). let n : Payload = record p { room = min room mid.room } in n) is
    ∙ ap (λ (n : ℕ). let p : Payload = record q { chunks = cs; room = n } in p) low

pub without_front_short : (tsn : ℕ) (cs : List ChunkPayloadData) → length (without_front tsn cs) ≤ length cs
without_front_short tsn [] = omega arith
without_front_short tsn (c ∷ cs) = by (has_tsn tsn c)
  where
    by : (b : Bool) → length (if b then cs else c ∷ cs) ≤ length (c ∷ cs)
    by true = omega arith
    by false = omega arith

pub without_short : (tsn : ℕ) (cs : List ChunkPayloadData) → length (without tsn cs) ≤ length cs
without_short tsn [] = omega arith
without_short tsn (c ∷ cs) = by (not (has_tsn tsn c)) (without_short tsn cs)
  where
    by : (b : Bool) → length (without tsn cs) ≤ length cs → length (if b then c ∷ without tsn cs else without tsn cs) ≤ length (c ∷ cs)
    by true le = omega (arith, le)
    by false le = omega (arith, le)
