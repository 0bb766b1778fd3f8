-- Blocks that are left of what was reported, once something came back.
use Rattle.sctp_sender.proofs.Names.{◌≡◌, ℕ, suc, ◌+◌, ◌<◌, ◌≤◌, Bool, true, false, List, length, get_or, Option, Some, None, refl, ap, sym, subst, ◌∙◌, arith}
use Rattle.sctp_sender.proofs.Names.{◌&&◌, not, IfSome, is_some, list_any, false≢true, get_or-map, list_any_none, distance, and-true, ChunkPayloadData}
use Rattle.sctp_sender.proofs.Names.{GapAckBlock, is_in_blocks, PlacedData, Flight, IsContiguous, Cover, blocks_left, can_come_back, is_at, is_uncovered}
use Rattle.sctp_sender.proofs.Names.{placed, restored, with_restored, AreKnown, ascends_from}
use Rattle.sctp_sender.specs.declared.sender.flight.runs.Left.{Left}
use Rattle.sctp_sender.proofs.Anew.{both}
use Rattle.sctp_sender.proofs.Covering.{can-here, covered-at, far-at}
use Rattle.sctp_sender.proofs.Keepings.{length-restored}
use Rattle.sctp_sender.proofs.Known.{known-at}
use Rattle.sctp_sender.proofs.Placed.{placed-at}
use Rattle.sctp_sender.proofs.Runs.{any_chunk}
use Rattle.sctp_sender.proofs.TakenBacks.{restored-at, restored-none}

module _ (f : Flight) (inv : IsContiguous f) (listed : List GapAckBlock) (ks : List (Option (List ℕ))) (v : Cover listed ks f) (left : List GapAckBlock)
    (up : ascends_from 0 left ≡ true) (backs : List PlacedData) (bs : List (Option (List ℕ))) (is : backs ≡ placed 0 bs)
    (same : (k : ℕ) → is_in_blocks left (suc k) ≡ (is_in_blocks listed (suc k) && not (list_any (is_at k) backs))) where
  abbrev cs : List ChunkPayloadData
  cs = f.queue.inflight.chunks

  there : (k : ℕ) → list_any (is_at k) backs ≡ is_some (get_or bs k None)
  there k = let e : k ≡ 0 + k = omega arith in ap (list_any (is_at k)) is ∙ ap (λ j. list_any (is_at j) (placed 0 bs)) e ∙ placed-at 0 k bs

  -- each chunk that is as it was and can come back is covered
  stays : (k : ℕ) → get_or bs k None ≡ None → is_in_blocks left (suc k) ≡ is_in_blocks listed (suc k)
  stays k e = same k ∙ ap (λ a. is_in_blocks listed (suc k) && not a) (there k ∙ ap is_some e) ∙ and-true (is_in_blocks listed (suc k))

  covered : (k : ℕ) (d : ChunkPayloadData) → k < length cs → is_uncovered left f.acked_tsn (get_or (restored bs cs) k d) ≡ false
  covered k d lt = by (get_or bs k None) refl
    where
      c : ChunkPayloadData
      c = get_or cs k d

      old : (b : Bool) → can_come_back c ≡ b → get_or bs k None ≡ None → is_uncovered left f.acked_tsn c ≡ false
      old false e none = ap (λ b. b && not (is_in_blocks left (distance f.acked_tsn c.tsn))) e
      old true e none =
          let in' : is_in_blocks left (suc k) ≡ true = stays k none ∙ covered-at f inv listed ks v k (can-here cs k d lt ∙ e) in
          ap (λ b. b && not (is_in_blocks left (distance f.acked_tsn c.tsn))) e
          ∙ ap (λ n. not (is_in_blocks left n)) (far-at f inv k d lt) ∙ ap not in'

      by : (o : Option (List ℕ)) → get_or bs k None ≡ o → is_uncovered left f.acked_tsn (get_or (restored bs cs) k d) ≡ false
      by None e = ap (is_uncovered left f.acked_tsn) (restored-none bs cs k d e) ∙ old (can_come_back c) refl e
      by (Some bytes) e = ap (is_uncovered left f.acked_tsn) (restored-at bs cs k d bytes lt e)

  pub left-covers : length bs ≤ length cs → Cover left ks (with_restored bs f)
  left-covers le = record {
    ascend = up;
    each = list_any_none (is_uncovered left f.acked_tsn) (restored bs cs) (λ k d less. covered k d (let n = length-restored bs cs in omega (arith, n, less)));
    within = let w = v.within in let n = length-restored bs cs in omega (arith, w, n);
    trim = v.trim;
  }

  pub left-known : AreKnown listed cs → AreKnown left (restored bs cs)
  left-known known k e =
      let h = both (is_in_blocks listed (suc k)) (not (list_any (is_at k) backs)) (sym (same k) ∙ e) in
      let none : get_or bs k None ≡ None = nothing (get_or bs k None) (sym (ap not (there k)) ∙ h.1) in
      let at = known-at listed cs known k any_chunk h.0 in
      let n = length-restored bs cs in
      let lt = at.0 in
      get_or-map (λ (c : ChunkPayloadData). c.acked) (restored bs cs) k any_chunk false (omega (arith, n, lt))
      ∙ ap (λ (c : ChunkPayloadData). c.acked) (restored-none bs cs k any_chunk none) ∙ at.1
    where
      nothing : (o : Option (List ℕ)) → not (is_some o) ≡ true → o ≡ None
      nothing None g = refl
      nothing (Some bytes) g = absurd (false≢true g)

-- what holds of the blocks that are left holds of those that are noted twice
pub noted-twice : (P : List GapAckBlock → Type 0) (left : Option Left) (bs : List GapAckBlock) → IfSome left (λ l. l.known.items ≡ l.reported.items)
    → P (blocks_left left bs) → IfSome left (λ l. P l.known.items)
noted-twice P None bs same h = tt
noted-twice P (Some l) bs same h = subst P (sym same) h
