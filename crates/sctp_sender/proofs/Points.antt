-- How far a FORWARD-TSN can go.
use Rattle.sctp_sender.proofs.Names.{◌≡◌, ℕ, zero, suc, ◌+◌, ◌<◌, ◌≤◌, ◌%◌, ◌^◌, Bool, true, false, List, [], ◌∷◌, ◌++◌, length, take, get_or, slice_get}
use Rattle.sctp_sender.proofs.Names.{Option, Some, None, refl, ap, sym, ◌∙◌, arith, if◌then◌else◌, find, option_map, filter, those-more, ChunkPayloadData}
use Rattle.sctp_sender.proofs.Names.{following_tsn, Flight, IsContiguous, advanced_ack_point, ahead, is_kept, is_named}
use Rattle.std.specs.Prelude.{unwrap_or}
use Rattle.sctp_util.specs.Serial.{distance}
use Rattle.sctp_serial.specs.DataChunks.{preceding_tsn}
use Rattle.sctp_sender.proofs.Runs.{tsn-at}
use Rattle.sctp_sender.proofs.Walks.{read-of}

pub found-place : (p : ChunkPayloadData → Bool) (cs : List ChunkPayloadData) (x : ChunkPayloadData) → find p cs ≡ Some x
    → (k : ℕ) × (k < length cs) × (x ≡ get_or cs k x)
found-place p [] x e = cc
found-place p (c ∷ cs) x e = by (p c) e (found-place p cs x)
  where
    by : (b : Bool) → (if b then Some c else find p cs) ≡ Some x → (find p cs ≡ Some x → (k : ℕ) × (k < length cs) × (x ≡ get_or cs k x))
        → (k : ℕ) × (k < length (c ∷ cs)) × (x ≡ get_or (c ∷ cs) k x)
    by true e ih = (zero, omega arith, cc)
    by false e ih = let h = ih e in (suc h.0, omega (arith, h.1), h.2)

near : (acked k : ℕ) → acked < 2 ^ 32 → k < 2 ^ 31 → distance acked (preceding_tsn ((following_tsn acked + k) % 2 ^ 32)) ≡ k
unfolding distance
near acked k small few = omega arith

-- the advanced point is at most as far as what is in flight goes
pub point-within : (f : Flight) → IsContiguous f → ahead f (advanced_ack_point f) ≤ length f.queue.inflight.chunks
point-within f inv = by (find is_kept f.queue.inflight.chunks) refl
  where
    by : (o : Option ChunkPayloadData) → find is_kept f.queue.inflight.chunks ≡ o
        → distance f.acked_tsn (preceding_tsn (unwrap_or (option_map (λ c. c.tsn) o) f.next_tsn)) ≤ length f.queue.inflight.chunks
    by None e =
        let next : f.next_tsn ≡ (following_tsn f.acked_tsn + length f.queue.inflight.chunks) % 2 ^ 32 = omega (arith, inv.next) in
        let d = ap (λ t. distance f.acked_tsn (preceding_tsn t)) next ∙ near f.acked_tsn (length f.queue.inflight.chunks) inv.in_range inv.few in
        omega (arith, d)
    by (Some x) e =
        let h = found-place is_kept f.queue.inflight.chunks x e in
        let tsn : x.tsn ≡ (following_tsn f.acked_tsn + h.0) % 2 ^ 32 = ap (λ (c : ChunkPayloadData). c.tsn) h.2
        ∙ tsn-at f.queue.inflight.chunks (following_tsn f.acked_tsn) h.0 x (omega (arith, inv.in_range)) inv.run h.1 in
        let d = ap (λ t. distance f.acked_tsn (preceding_tsn t)) tsn ∙ near f.acked_tsn h.0 inv.in_range (omega (arith, h.1, inv.few)) in
        omega (arith, d, h.1)

-- one chunk more is looked at
pub more-named : (cs : List ChunkPayloadData) (i : ℕ) (x : ChunkPayloadData) (b : Bool) → slice_get cs i ≡ Some x → is_named x ≡ b
    → filter is_named (take (i + 1) cs) ≡ filter is_named (take i cs) ++ (if b then x ∷ [] else [])
more-named cs i x b is named =
    let read = read-of cs i x is in
    those-more is_named cs i x read.0 ∙ ap (λ (y : ChunkPayloadData). filter is_named (take i cs) ++ (if is_named y then y ∷ [] else [])) (sym read.1)
    ∙ ap (λ t. filter is_named (take i cs) ++ (if t then x ∷ [] else [])) named
