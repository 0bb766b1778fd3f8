-- The fragment that is sent next, as the queue shows it.
use Rattle.sctp_model.proofs.Names.{◌≡◌, ℕ, ◌<◌, ◌≤◌, length, Option, Some, None, refl, ap, sym, ◌∙◌, arith, IfSome, ChunkPayloadData, next_pending}
use Rattle.sctp_model.proofs.Names.{after_sends, Outbound, LinkRecord, message_at, front, after_start, IsRight, waiting_at, some-same, nat_tests}
use Rattle.sctp_model.proofs.sender.Shape.{shape}
use Rattle.sctp_model.proofs.sender.Fronts.{front-takes}
use Rattle.sctp_model.proofs.refinement.sending.FilledDatagrams.{after_fragments, only-slots, shown-after}
use Rattle.sctp_model.proofs.refinement.sending.Fragments.{shown, idle}
use Rattle.sctp_model.proofs.refinement.Lists.{piece-short}
use Rattle.sctp_model.specs.declared.event.Event.TheVariants as E
use Rattle.sctp_model.specs.Messages as M
use Rattle.sctp_model.specs.Reply as R
use Rattle.sctp_model.proofs.refinement.Histories.{Sends, facts}

-- the chunk shown is the next fragment of the front
pub record Next (w : LinkRecord) (c : ChunkPayloadData) : Type 0 where
  pub front : front w ≡ Some c.message_id
  pub is : c ≡ waiting_at w c.message_id (M.sent_of w c.message_id)
  pub made : c.message_id < length w.messages

nothing : {A : Type 0} {a : A} → Some a ≡ None → ⊥
nothing e = cc

module _ {w : LinkRecord} {had : Outbound} {coming : ℕ} (l : Sends w had coming) where
  pub next-is : (c : ChunkPayloadData) → next_pending had.pending ≡ Some c → Next w c
  next-is c e = by (front w) refl
    where
      of : (n : ℕ) → front w ≡ Some n → c ≡ waiting_at w n (M.sent_of w n) → Next w c
      of n fr same =
          let own : n ≡ c.message_id = sym (ap (λ (d : ChunkPayloadData). d.message_id) same) in
          record {
            front = fr ∙ ap Some own;
            is = same ∙ ap (λ k. waiting_at w k (M.sent_of w k)) own;
            made = let t = (front-takes (shape w) n (facts l.told).consistent.sender fr).made in omega (arith, t, own);
          }

      by : (o : Option ℕ) → front w ≡ o → Next w c
      by None fr = absurd (nothing (sym e ∙ idle w had l.outbound fr))
      by (Some n) fr = of n fr (some-same (sym e ∙ shown w.setup w n had (facts l.told).going fr l.outbound))

  pub none-next : next_pending had.pending ≡ None → front w ≡ None
  none-next e = by (front w) refl
    where
      by : (o : Option ℕ) → front w ≡ o → front w ≡ None
      by None fr = fr
      by (Some n) fr = absurd (nothing (sym (shown w.setup w n had (facts l.told).going fr l.outbound) ∙ e))

  pub idle-right : (now : ℕ) (new : LinkRecord) → next_pending had.pending ≡ None → new ≡ after_start w now
      → IsRight w (E.Send now) R.Idle new
  idle-right now new e is = grind (arith, nat_tests, none-next)

  -- each fragment that is looked at is short
  pub looks-short : (i : ℕ) → IfSome (next_pending (after_sends i had.pending)) (λ c. length c.user_data ≤ 65519)
  looks-short i =
      let z = after_fragments i w in
      shown-after w.setup i w had.pending (λ c. length c.user_data ≤ 65519) (facts l.told).going l.outbound.pending (λ n. omega (
        arith,
        l.told.setup.size,
        ap (λ (y : LinkRecord). y.setup.size) (only-slots i w),
        piece-short (length (message_at z n).bytes) z.setup.size (message_at z n).bytes (M.sent_of z n),
      ))
