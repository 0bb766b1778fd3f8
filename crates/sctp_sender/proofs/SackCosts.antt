-- How much a SACK reports, and of which messages.
use Rattle.sctp_sender.proofs.Names.{◌≡◌, ℕ, suc, ◌+◌, ◌-◌, ◌≤◌, true, false, List, length, map, take, get_or, Option, Some, None, refl, ap, ◌∙◌, arith, []}
use Rattle.sctp_sender.proofs.Names.{◌∷◌, ◌*◌, sym, Bool, nat_lt, cond, not, ◌&&◌, count_by, filter, nat_tests, length-filter, sum_by-cons, change_where}
use Rattle.sctp_sender.proofs.Names.{distance, or-left, or-right, ChunkPayloadData, GapAckBlock, Sack, as_acknowledged, as_taken_back, is_in_blocks, Released}
use Rattle.sctp_sender.proofs.Names.{PicksLeftOut, chunks_of, distances_in, is_left_out, keeping_turns, sack_turns, take_back_turns, to_sort, Flight}
use Rattle.sctp_sender.proofs.Names.{released_of, reports, reports_anew, answered_back, places_kept, restored, restored_with, with_restored, AreKnown}
use Rattle.sctp_sender.proofs.Names.{ascends_from, messages_of, no_message}
use Rattle.sctp_sender.specs.Costs.{messages_anew}
use Rattle.sctp_sender.proofs.Counts.{among, count-blocks, count-run, known-few, numbers-of-those, numbers_of}
use Rattle.sctp_sender.proofs.InLine.{messages-changed}
use Rattle.sctp_sender.proofs.Known.{known-at}
use Rattle.sctp_sender.proofs.Reported.{IsTaken, ends, reached}
use Rattle.sctp_sender.proofs.Keepings.{taken-within}
use Rattle.sctp_sender.proofs.Runs.{any_chunk}

module _ {s : Sack} {f : Flight} {sorted : List GapAckBlock} (taken : IsTaken s f sorted) where
  abbrev cs : List ChunkPayloadData
  cs = f.queue.inflight.chunks

  abbrev count : ℕ
  count = distance f.acked_tsn s.cumulative_tsn_ack

  -- it reports each place that it passes, and each distance of its blocks
  pub all-reported : distance f.acked_tsn s.cumulative_tsn_ack + distances_in sorted ≤ count_by (reports s) f.queue.inflight.chunks
  all-reported =
      let within : count ≤ length cs = taken-within s f taken.none taken.current in
      let front = count-run (reports s) cs any_chunk 0 count (omega (arith, within)) (λ k low high.
      let less : nat_lt k count ≡ true = grind (arith, nat_tests, high) in
      reached taken k any_chunk (omega (arith, high, within))
      ∙ or-left (nat_lt k count) (is_in_blocks sorted (suc k - count)) less) in
      let behind = count-blocks (reports s) cs any_chunk count sorted 0 taken.are.ascend (ends taken) (λ k low h.
      let end = ends taken (suc k - count) h in
      reached taken k any_chunk (omega (arith, end, low))
      ∙ or-right (nat_lt k count) (is_in_blocks sorted (suc k - count)) h) in
      let e : 0 + count ≡ count + 0 = omega arith in
      let same = ap (λ k. count_by (reports s) (take k cs)) e in
      omega (arith, front, behind, same)

  -- what is listed and it does not report is acknowledged
  pub left-out : (listed : List GapAckBlock) → AreKnown listed f.queue.inflight.chunks
      → PicksLeftOut (is_left_out s) (distance f.acked_tsn s.cumulative_tsn_ack) listed sorted f.queue.inflight.chunks
  left-out listed known k d lists left =
      let at = known-at listed cs known k d lists in
      let none : reports s (get_or cs k d) ≡ false = reached taken k d at.0 ∙ left in
      (at.0, ap (λ a. a && not (reports s (get_or cs k d))) at.1 ∙ ap not none)

-- blocks that are known are no more than chunks that are acknowledged
pub few-known : (bs : List GapAckBlock) (cs : List ChunkPayloadData) → ascends_from 0 bs ≡ true → AreKnown bs cs
    → length bs ≤ count_by (λ (c : ChunkPayloadData). c.acked) cs
few-known bs cs up known = let h = known-few cs any_chunk bs 0 up known in omega (arith, h)

-- the messages of what was told of, among those in flight, acknowledged or not
pub same-messages : (s : Sack) (cs ds : List ChunkPayloadData) (rs : List Released)
    → rs ≡ map (released_of no_message) (filter (reports_anew s) cs) → ds ≡ change_where (reports_anew s) as_acknowledged cs
    → chunks_of (numbers_of rs) ds ≡ chunks_of (messages_anew s cs) cs
same-messages s cs ds rs answer is =
    ap (λ (ns : List ℕ). chunks_of ns ds) (ap (λ (rs : List Released). numbers_of rs) answer ∙ numbers-of-those no_message (filter (reports_anew s) cs))
    ∙ ap (λ (ns : List ℕ). count_by (among (messages_anew s cs)) ns)
    (ap (λ (xs : List ChunkPayloadData). messages_of xs) is ∙ messages-changed (reports_anew s) as_acknowledged (λ c. refl) cs)

-- ## What a SACK reports was acknowledged before, or is now

anew-or-before : (s : Sack) (cs : List ChunkPayloadData)
    → count_by (reports s) cs ≤ count_by (λ (c : ChunkPayloadData). c.acked) cs + count_by (reports_anew s) cs
anew-or-before s [] = omega arith
anew-or-before s (c ∷ cs) =
    let h = anew-or-before s cs in
    let here = one c.acked (reports s c) in
    let r : count_by (reports s) (c ∷ cs) ≡ cond (reports s c) 1 0 + count_by (reports s) cs = sum_by-cons (λ c. cond (reports s c) 1 0) c cs in
    let a : count_by (λ (c : ChunkPayloadData). c.acked) (c ∷ cs) ≡ cond c.acked 1 0 + count_by (λ (c : ChunkPayloadData). c.acked) cs
    = sum_by-cons (λ (c : ChunkPayloadData). cond c.acked 1 0) c cs in
    let n : count_by (reports_anew s) (c ∷ cs) ≡ cond (reports_anew s c) 1 0 + count_by (reports_anew s) cs
    = sum_by-cons (λ c. cond (reports_anew s c) 1 0) c cs in
    omega (arith, h, here, r, a, n)
  where
    one : (a r : Bool) → cond r 1 0 ≤ cond a 1 0 + cond (not a && r) 1 0
    one true true = omega arith
    one true false = omega arith
    one false r = omega arith

none-of : (ns : List ℕ) → count_by (among []) ns ≡ 0
none-of [] = refl
none-of (n ∷ ns) = none-of ns

pub costs-of-new : (s : Sack) (f : Flight) → sack_turns s f
    ≤ 5 * length s.gap_ack_blocks + 3 * to_sort s.gap_ack_blocks + 4 * count_by (λ (c : ChunkPayloadData). c.acked) f.queue.inflight.chunks
    + 6 * count_by (reports_anew s) f.queue.inflight.chunks + chunks_of (messages_anew s f.queue.inflight.chunks) f.queue.inflight.chunks
costs-of-new s f = let h = anew-or-before s f.queue.inflight.chunks in omega (arith, h)

pub costs-of-nothing-new : (s : Sack) (f : Flight) → filter (reports_anew s) f.queue.inflight.chunks ≡ [] → sack_turns s f
    ≤ 5 * length s.gap_ack_blocks + 3 * to_sort s.gap_ack_blocks + 4 * count_by (λ (c : ChunkPayloadData). c.acked) f.queue.inflight.chunks
costs-of-nothing-new s f none =
    let cs = f.queue.inflight.chunks in
    let h = costs-of-new s f in
    let new : count_by (reports_anew s) cs ≡ 0 = sym (length-filter (reports_anew s) cs) ∙ ap (λ (xs : List ChunkPayloadData). length xs) none in
    let of-them : chunks_of (messages_anew s cs) cs ≡ 0 = ap (λ (xs : List ChunkPayloadData). chunks_of (messages_of xs) cs) none ∙ none-of (messages_of cs) in
    omega (arith, h, new, of-them)

-- ## Once something came back

module _ (q : ChunkPayloadData → Bool) (lowers : (c : ChunkPayloadData) (bytes : List ℕ) → q (as_taken_back bytes c) ≡ false) where
  fewer : (bs : List (Option (List ℕ))) (cs : List ChunkPayloadData) → count_by q (restored bs cs) ≤ count_by q cs
  fewer [] cs = omega arith
  fewer (b ∷ bs) [] = omega arith
  fewer (b ∷ bs) (c ∷ cs) =
      let h = fewer bs cs in
      let old : count_by q (c ∷ cs) ≡ cond (q c) 1 0 + count_by q cs = sum_by-cons (λ c. cond (q c) 1 0) c cs in
      let new : count_by q (restored_with b c ∷ restored bs cs) ≡ cond (q (restored_with b c)) 1 0 + count_by q (restored bs cs)
      = sum_by-cons (λ c. cond (q c) 1 0) (restored_with b c) (restored bs cs) in
      let one = here b in
      omega (arith, h, old, new, one)
    where
      here : (b : Option (List ℕ)) → cond (q (restored_with b c)) 1 0 ≤ cond (q c) 1 0
      here None = omega arith
      here (Some bytes) = let e = ap {B = ℕ} (λ b. cond b 1 0) (lowers c bytes) in omega (arith, e)

left-or-acked : (s : Sack) (cs : List ChunkPayloadData) → count_by (is_left_out s) cs ≤ count_by (λ (c : ChunkPayloadData). c.acked) cs
left-or-acked s [] = omega arith
left-or-acked s (c ∷ cs) =
    let h = left-or-acked s cs in
    let l : count_by (is_left_out s) (c ∷ cs) ≡ cond (is_left_out s c) 1 0 + count_by (is_left_out s) cs = sum_by-cons (λ c. cond (is_left_out s c) 1 0) c cs in
    let a : count_by (λ (c : ChunkPayloadData). c.acked) (c ∷ cs) ≡ cond c.acked 1 0 + count_by (λ (c : ChunkPayloadData). c.acked) cs
    = sum_by-cons (λ (c : ChunkPayloadData). cond c.acked 1 0) c cs in
    let one = here c.acked (reports s c) in
    omega (arith, h, l, a, one)
  where
    here : (a r : Bool) → cond (a && not r) 1 0 ≤ cond a 1 0
    here true true = omega arith
    here true false = omega arith
    here false r = omega arith

pub costs-together : (s : Sack) (f g : Flight) (ks bs : List (Option (List ℕ))) → g ≡ with_restored bs f
    → take_back_turns s f (length (answered_back bs f.queue.inflight.chunks)) + (sack_turns s g + keeping_turns s g (places_kept s g ks))
    ≤ 20 * length s.gap_ack_blocks + 13 * to_sort s.gap_ack_blocks + 14 * count_by (λ (c : ChunkPayloadData). c.acked) f.queue.inflight.chunks
    + 12 * count_by (reports_anew s) g.queue.inflight.chunks + chunks_of (messages_anew s g.queue.inflight.chunks) g.queue.inflight.chunks
    + 5 * length (answered_back bs f.queue.inflight.chunks) + places_kept s g ks + 2
costs-together s f g ks bs is =
    let acked : ChunkPayloadData → Bool = λ c. c.acked in
    let same = ap (λ (h : Flight). count_by acked h.queue.inflight.chunks) is in
    let fewer-acked = fewer acked (λ c bytes. refl) bs f.queue.inflight.chunks in
    let reported = anew-or-before s g.queue.inflight.chunks in
    let left-f = left-or-acked s f.queue.inflight.chunks in
    let left-g = left-or-acked s g.queue.inflight.chunks in
    omega (arith, same, fewer-acked, reported, left-f, left-g)
