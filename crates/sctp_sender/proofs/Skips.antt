-- How far a FORWARD-TSN of so many chunks goes.
use Rattle.sctp_sender.proofs.Names.{◌≡◌, ℕ, ◌+◌, ◌<◌, ◌≤◌, ◌%◌, ◌^◌, true, List, take, ap, sym, subst, ◌∙◌, arith, ◌&&◌, nat_le, nat_lt, filter, nat_tests}
use Rattle.sctp_sender.proofs.Names.{and, ChunkPayloadData, ChunkForwardTsnStream, Flight, Name, advanced_ack_point, ahead, can_skip_to, is_named}
use Rattle.sctp_util.specs.Serial.{distance}
use Rattle.sctp_sender.specs.Abandonment.{named_up_to}

ahead-is : (acked k : ℕ) → acked < 2 ^ 32 → k < 2 ^ 32 → distance acked ((acked + k) % 2 ^ 32) ≡ k
unfolding distance
ahead-is acked k small few = omega arith

module _ (f : Flight) (small : f.acked_tsn < 2 ^ 32) (count : ℕ) (few : count < 2 ^ 31) where
  abbrev cs : List ChunkPayloadData
  cs = f.queue.inflight.chunks

  abbrev tsn : ℕ
  tsn = (f.acked_tsn + count) % 2 ^ 32

  pub far : ahead f tsn ≡ count
  far = ahead-is f.acked_tsn count small (omega (arith, few))

  pub names : (pairs : List ChunkForwardTsnStream) → Name pairs (filter is_named (take count cs)) → Name pairs (named_up_to tsn f)
  names pairs h = subst (λ n. Name pairs (filter is_named (take n cs))) (sym far) h

  pub past : count ≤ ahead f (advanced_ack_point f) → 0 < count → can_skip_to tsn f ≡ true
  past within some =
      let a : nat_lt 0 count ≡ true = grind (arith, nat_tests, some) in
      let b : nat_le count (ahead f (advanced_ack_point f)) ≡ true = grind (arith, nat_tests, within) in
      ap (λ n. nat_lt 0 n && nat_le n (ahead f (advanced_ack_point f))) far ∙ and (nat_lt 0 count) (nat_le count (ahead f (advanced_ack_point f))) a b

-- whether one can go to a TSN, by how far it is
pub can-go : (f : Flight) (tsn : ℕ) → 0 < ahead f tsn → ahead f tsn ≤ ahead f (advanced_ack_point f) → can_skip_to tsn f ≡ true
can-go f tsn some le =
    let a : nat_lt 0 (ahead f tsn) ≡ true = grind (arith, nat_tests, some) in
    let b : nat_le (ahead f tsn) (ahead f (advanced_ack_point f)) ≡ true = grind (arith, nat_tests, le) in
    and (nat_lt 0 (ahead f tsn)) (nat_le (ahead f tsn) (ahead f (advanced_ack_point f))) a b
