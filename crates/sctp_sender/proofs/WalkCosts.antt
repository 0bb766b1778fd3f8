-- What the walk over the places where something can come back costs.
use Rattle.sctp_sender.proofs.Names.{◌≡◌, ℕ, suc, ◌+◌, ◌*◌, ◌<◌, ◌≤◌, Bool, true, false, List, length, take, get_or, arith, count_by, count_by_more_yes}
use Rattle.sctp_sender.proofs.Names.{ChunkPayloadData, GapAckBlock, is_in_blocks, PicksLeftOut, is_reached}
use Rattle.sctp_sender.proofs.Counts.{count-up}
use Rattle.sctp_sender.proofs.Returns.{no_block}
use Rattle.sctp_sender.proofs.Runs.{any_chunk}

module _ (count : ℕ) (listed blocks : List GapAckBlock) (cs : List ChunkPayloadData) (began from first block : ℕ) where
  -- so many turns for what was passed; one more where the walk has just come to the end of a block
  pub record IsPaid (turns place i j : ℕ) : Type 0 where
    pub not_back : began ≤ turns
    pub inside : first ≤ length listed → i ≤ length listed
    pub within : block ≤ length blocks → j ≤ length blocks
    pub cost : (q : ChunkPayloadData → Bool) → PicksLeftOut q count listed blocks cs
        → turns + first + 2 * block + count_by q (take from cs) ≤ began + i + 2 * j + count_by q (take place cs) + 1
    pub settled : (j < length blocks → place < count + (get_or blocks j no_block).end) → (q : ChunkPayloadData → Bool)
        → PicksLeftOut q count listed blocks cs → turns + first + 2 * block + count_by q (take from cs) ≤ began + i + 2 * j + count_by q (take place cs)

  pub none-paid : IsPaid began from first block
  none-paid = record {
    not_back = omega arith;
    inside = λ h. h;
    within = λ h. h;
    cost = λ q picks. omega arith;
    settled = λ open' q picks. omega arith;
  }

module _ {count : ℕ} {listed blocks : List GapAckBlock} {cs : List ChunkPayloadData} {began from first block turns place i j : ℕ}
    (w : IsPaid count listed blocks cs began from first block turns place i j) (after next : ℕ) (is : after ≡ turns + 1) (on : place ≤ next) where
  up : (q : ChunkPayloadData → Bool) → count_by q (take place cs) ≤ count_by q (take next cs)
  up q = count-up q cs place next on

  later : began ≤ after
  later = let h = w.not_back in omega (arith, h, is)

  -- a listed block is passed
  pub run-paid : i < length listed → IsPaid count listed blocks cs began from first block after next (i + 1) j
  run-paid lt = record {
    not_back = later;
    inside = λ h. omega (arith, lt);
    within = w.within;
    cost = λ q picks. (let h = w.cost q picks in let u = up q in omega (arith, h, u, is));
    settled = λ open' q picks. (
        let h = w.settled (λ less. let o = open' less in omega (arith, o, on)) q picks in let u = up q in omega (arith, h, u, is)
        );
  }

  -- another one is
  pub block-paid : j < length blocks → IsPaid count listed blocks cs began from first block after next i (j + 1)
  block-paid lt = record {
    not_back = later;
    inside = w.inside;
    within = λ h. omega (arith, lt);
    cost = λ q picks. (let h = w.cost q picks in let u = up q in omega (arith, h, u, is));
    settled = λ open' q picks. (let h = w.cost q picks in let u = up q in omega (arith, h, u, is));
  }

  -- to the end of one
  pub end-paid : j < length blocks → place < count + (get_or blocks j no_block).end → count + (get_or blocks j no_block).end ≤ next
      → IsPaid count listed blocks cs began from first block after next i j
  end-paid lt before end = record {
    not_back = later;
    inside = w.inside;
    within = w.within;
    cost = λ q picks. (let h = w.settled (λ less. before) q picks in let u = up q in omega (arith, h, u, is));
    settled = λ open' q picks. (let o = open' lt in absurd (omega (arith, o, end)));
  }

  -- a place is looked at
  module _ (open' : j < length blocks → next < count + (get_or blocks j no_block).end) (lists : is_in_blocks listed (suc next) ≡ true)
      (left : is_reached count blocks next ≡ false) where
    pub one-picked : (q : ChunkPayloadData → Bool) → PicksLeftOut q count listed blocks cs
        → count_by q (take (next + 1) cs) ≡ count_by q (take next cs) + 1
    one-picked q picks = let p = picks next any_chunk lists left in count_by_more_yes q cs next any_chunk p.0 p.1

    pub look-cost : (q : ChunkPayloadData → Bool) → PicksLeftOut q count listed blocks cs
        → after + first + 2 * block + count_by q (take from cs) ≤ began + i + 2 * j + count_by q (take next cs) + 1
    look-cost q picks =
        let h = w.settled (λ less. let o = open' less in omega (arith, o, on)) q picks in
        let u = up q in omega (arith, h, u, is)

    pub look-paid : IsPaid count listed blocks cs began from first block after (next + 1) i j
    look-paid = record {
      not_back = later;
      inside = w.inside;
      within = w.within;
      cost = λ q picks. (let h = look-cost q picks in let one = one-picked q picks in omega (arith, h, one));
      settled = λ o q picks. (let h = look-cost q picks in let one = one-picked q picks in omega (arith, h, one));
    }
