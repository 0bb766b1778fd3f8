-- The message of a slot that lies in a datagram, as a link keeps it.
use Rattle.sctp_link.proofs.Names.{◌≡◌, ℕ, ◌<◌, ◌≤◌, true, List, length, refl, ap, sym, ◌∙◌, arith, slice_index_or, message_at, message_of, index_of, is_new}
use Rattle.sctp_link.proofs.Names.{next_of, Carried, IsLinked, LiesSomewhere, Inside, Message, Slot, record_in, state_in, message_record, own-stream, lying}
use Rattle.sctp_link.proofs.upkeep.Facts.{facts}
use Rattle.sctp_model.proofs.refinement.arriving.NewSlots.{new-past}
use Rattle.sctp_link.proofs.sender.Beginning.{index_kept}
use Rattle.sctp_link.proofs.receiver.Hears.{come-message, slots-made, messages-made, slot-raw, message-raw, kept-raw}

-- the place has a slot, which is of a message that is there
pub record IsKept {C : Type 0} (a : Inside C) (p : ℕ) : Type 0 where
  pub carried : Carried (record_in a) p
  pub inside : p < length a.slots.items
  pub made : message_of (record_in a) p < length a.messages.items

module _ {C : Type 0} {sum : List ℕ → ℕ} (a : Inside C) (l : IsLinked sum (state_in a)) (p : ℕ) where
  pub kept-at : LiesSomewhere (record_in a) p → IsKept a p
  kept-at lies =
      let c = lying (facts l) p lies in
      record {
        carried = c;
        inside = omega (arith, c.made, slots-made l a.slots.items a.messages.items refl refl);
        made = omega (arith, come-message l c, messages-made l a.slots.items a.messages.items refl refl);
      }

  module _ (k : IsKept a p) (y : Slot) (y_is : y ≡ slice_index_or a.slots.items p y) where
    pub number-kept : y.message ≡ message_of (record_in a) p
    number-kept = ap (λ (t : Slot). t.message) y_is ∙ sym (ap (λ t. t.message) (slot-raw l a.slots.items a.messages.items refl refl p y k.inside))

    pub message-kept : (m : Message) → m ≡ slice_index_or a.messages.items y.message m
        → message_at (record_in a) (message_of (record_in a) p) ≡ message_record m
    message-kept m is =
        message-raw l a.slots.items a.messages.items refl refl (message_of (record_in a) p) m k.made
        ∙ ap message_record (sym (is ∙ ap (λ i. slice_index_or a.messages.items i m) number-kept))

    pub index-kept : (m : Message) → m ≡ slice_index_or a.messages.items y.message m → index_kept (state_in a).progress (message_of (record_in a) p) ≡ m.index
    index-kept m is =
        kept-raw l a.slots.items a.messages.items refl refl refl (message_of (record_in a) p) m k.made
        ∙ ap (λ (t : Message). t.index) (sym (is ∙ ap (λ i. slice_index_or a.messages.items i m) number-kept))

  pub kept-past : (k : IsKept a p) → is_new (record_in a) p ≡ true → (message_at (record_in a) (message_of (record_in a) p)).ordered ≡ true
      → next_of (record_in a) (message_at (record_in a) (message_of (record_in a) p)).stream ≤ index_of (record_in a) (message_of (record_in a) p)
  kept-past k new kind =
      let w = record_in a in
      new-past w (message_at w (message_of w p)).stream p (facts l).valid.valid k.carried new (own-stream w p k.carried kind)
