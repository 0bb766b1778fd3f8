-- What is held of a message.
use Rattle.std.proofs.Common.{◌≡◌, ◌⊎◌, ℕ, ◌+◌, ◌<◌, ◌≤◌, min, List, [], ◌∷◌, ◌++◌, length, take, drop, inl, inr, refl, ap, sym, ◌∙◌, arith}
use Rattle.std.specs.Prelude.{Result, Ok, Err, IfOk, IfErr, Option, Some, None}
use Rattle.std.specs.Option.{option_map}
use Rattle.sctp_association.specs.Reads.{length_of}
use Rattle.std.specs.List.{sum_by}
use Rattle.std.proofs.Common.{length-append}
use Rattle.std.proofs.lemmas.Bool.Decides.{nat_tests}
use Rattle.std.proofs.lemmas.List.{append-nil, drop_all}
use Rattle.std.proofs.lemmas.List.Sums.{sum_by-cons}
use Rattle.sctp_channels.specs.Steps.{bytes_next, kept_of}
use Rattle.sctp_data.specs.ChunkSet.{ChunkSet}
use Rattle.sctp_data.specs.declared.chunk.chunk_payload_data.PayloadProtocolIdentifier.{PayloadProtocolIdentifier}
use Rattle.sctp_reassembly.specs.reassembly_queue.ReassemblyQueue.{at_start}
use Rattle.sctp_data.specs.declared.chunk.chunk_payload_data.ChunkPayloadData.{ChunkPayloadData}
use Rattle.sctp_reassembly.specs.declared.reassembly_queue.chunks.Chunks.{Chunks}
use Rattle.sctp_reassembly.specs.reassembly_queue.Fragments.{payload_of}

-- how many bytes a message has
pub payload_size : (cs : List ChunkPayloadData) → sum_by (λ (c : ChunkPayloadData). length c.user_data) cs ≡ length (payload_of cs)
payload_size [] = refl
payload_size (c ∷ cs) = let first = sum_by-cons (λ (x : ChunkPayloadData). length x.user_data) c cs in let rest = payload_size cs in
    let sum = length-append c.user_data (payload_of cs) in omega arith

-- of one that is too long
pub kept_long : (most : ℕ) (bytes : List ℕ) → most + 12 < length bytes → take 1 bytes ≡ kept_of most bytes
kept_long most bytes long = grind (arith, nat_tests)

pub kept_whole : (most : ℕ) (bytes : List ℕ) → length bytes ≤ most + 12 → bytes ≡ kept_of most bytes
kept_whole most bytes short = grind (arith, nat_tests)

-- so it is of what is read into as much room
held_bytes : {E : Type 0} (Q : E → Type 0) (most len n : ℕ) (raw new payload : List ℕ) (r : Result ℕ E) → len ≡ min (length payload) 18446744073709551615
    → ((n ≡ 1) × (min (most + 12) 18446744073709551615 < len)) ⊎ ((n ≡ len) × (len ≤ min (most + 12) 18446744073709551615)) → length raw ≡ n
    → n < 18446744073709551615 → IfOk r (λ k. (k ≡ length payload) × (k ≤ length raw) × (new ≡ payload ++ drop k raw))
    → IfErr r (λ e. Q e × (length raw < length payload) × (new ≡ take (length raw) payload)) → new ≡ kept_of most payload
held_bytes Q most len n raw new payload (Ok k) is (inl (one, long)) room small (all, fits, read) short = absurd (omega arith)
held_bytes Q most len n raw new payload (Ok k) is (inr (whole, few)) room small (all, fits, read) short =
    read ∙ ap (λ (rest : List ℕ). payload ++ rest) (drop_all k raw (omega arith)) ∙ append-nil payload ∙ kept_whole most payload (omega arith)
held_bytes Q most len n raw new payload (Err e) is (inl (one, long)) room small ok (_, fewer, read) =
    read ∙ ap (λ (i : ℕ). take i payload) (room ∙ one) ∙ kept_long most payload (omega arith)
held_bytes Q most len n raw new payload (Err e) is (inr (whole, few)) room small ok (_, fewer, read) = absurd (omega arith)

set_in : Option Chunks → Option ChunkSet
set_in None = None
set_in (Some m) = Some m.set

size_in : Option (ℕ × PayloadProtocolIdentifier) → ℕ
size_in None = 0
size_in (Some p) = p.0

-- where the message is this one
pub held_next : {E : Type 0} (Q : E → Type 0) (next : Option ChunkSet) (m : Chunks) (most len n : ℕ) (kind : PayloadProtocolIdentifier) (raw new : List ℕ)
    (r : Result ℕ E) → Some m ≡ option_map at_start next → Some (len, kind) ≡ length_of next
    → ((n ≡ 1) × (min (most + 12) 18446744073709551615 < len)) ⊎ ((n ≡ len) × (len ≤ min (most + 12) 18446744073709551615)) → length raw ≡ n
    → n < 18446744073709551615 → IfOk r (λ k. (k ≡ length (payload_of m.set.chunks)) × (k ≤ length raw) × (new ≡ payload_of m.set.chunks ++ drop k raw))
    → IfErr r (λ e. Q e × (length raw < length (payload_of m.set.chunks)) × (new ≡ take (length raw) (payload_of m.set.chunks))) → new ≡ bytes_next most next
unfolding set_in size_in
held_next Q None m most len n kind raw new r is size by room small ok short = cc
held_next Q (Some s) m most len n kind raw new r is size by room small ok short =
    let same : Some m.set ≡ Some s = ap set_in is in
    let this : m.set ≡ s = cc in
    let bytes : len ≡ min (sum_by (λ (c : ChunkPayloadData). length c.user_data) s.chunks) 18446744073709551615 = ap size_in size in
    let sized : len ≡ min (length (payload_of m.set.chunks)) 18446744073709551615 =
    bytes ∙ ap (λ (b : ℕ). min b 18446744073709551615) (payload_size s.chunks ∙ ap (λ (z : ChunkSet). length (payload_of z.chunks)) (sym this)) in
    held_bytes Q most len n raw new (payload_of m.set.chunks) r sized by room small ok short ∙ ap (λ (z : ChunkSet). kept_of most (payload_of z.chunks)) this
