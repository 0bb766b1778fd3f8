use Rattle.sctp_model.proofs.Names.{◌≡◌, ℕ, ◌+◌, Bool, List, [], ◌∷◌, ◌++◌, length, map, get_or, refl, ◌∙◌, length-append, fun_ext, if◌then◌else◌, ◌==◌, ◌||◌}
use Rattle.sctp_model.proofs.Names.{change_at, each_numbered, length-changed, changed-keeps, Message, Slot, Report, LinkRecord, message_at, slot_at, no_message}
use Rattle.sctp_model.proofs.Names.{no_slot, get-snoc, get-changed, get-map, length-mapped, get-numbered, length-numbered, arith, nat_tests, common_steps}
use Rattle.sctp_model.specs.Changes
use Rattle.sctp_model.proofs.sender.Shape.{MessagePart, SlotPart, shape, message_part, slot_part, slotted, written, abandoned_at, expired_at}

-- The shape of the record after each change.

-- ## Shapes

-- other messages
shape-messages : (w : LinkRecord) (ms : List Message) (count : ℕ) (message : ℕ → MessagePart) → length ms ≡ count
    → ((k : ℕ) → message_part (get_or ms k no_message) ≡ message k) → shape (record w { messages = ms }) ≡ record (shape w) { count = count; message = message }
shape-messages w ms count message a b = cc (a, fun_ext b)

-- other slots
shape-slots : (w : LinkRecord) (xs : List Slot) (slots : ℕ) (slot : ℕ → SlotPart) → length xs ≡ slots → ((p : ℕ) → slot_part (get_or xs p no_slot) ≡ slot p)
    → shape (record w { slots = xs }) ≡ record (shape w) { slots = slots; slot = slot }
shape-slots w xs slots slot a b = cc (a, fun_ext b)

pub shape-started : (w : LinkRecord) (now : ℕ) → shape (Changes.after_start w now) ≡ shape w
shape-started w now = shape-messages w (map (Changes.start_lifetime now) w.messages) (length w.messages) (λ k. message_part (message_at w k))
    (length-mapped (Changes.start_lifetime now) w.messages) (λ k. get-map (Changes.start_lifetime now) message_part (λ m. refl) k w.messages no_message)

pub shape-read : (w : LinkRecord) (n : ℕ) → shape (Changes.message_changed w n Changes.mark_read) ≡ shape w
shape-read w n = shape-messages w (change_at Changes.mark_read n w.messages) (length w.messages) (λ k. message_part (message_at w k))
    (length-changed Changes.mark_read n w.messages) (λ k. changed-keeps Changes.mark_read message_part (λ m. refl) n k w.messages no_message)

pub shape-abandoned : (w : LinkRecord) (n : ℕ) → shape (Changes.message_changed w n Changes.mark_abandoned) ≡ abandoned_at (shape w) n
shape-abandoned w n = shape-messages w (change_at Changes.mark_abandoned n w.messages) (length w.messages)
    (abandoned_at (shape w) n).message (length-changed Changes.mark_abandoned n w.messages)
    (λ k. get-changed Changes.mark_abandoned message_part n k w.messages no_message refl ∙ either (k == n) (message_at w k))
  where
    either : (b : Bool) (m : Message)
        → (if b then message_part (Changes.mark_abandoned m) else message_part m) ≡ record (message_part m) { abandoned = b || m.abandoned }
    either b m = grind (arith, nat_tests)

pub shape-expired : (w : LinkRecord) (n : ℕ) → shape (Changes.message_changed w n Changes.mark_expired) ≡ expired_at (shape w) n
shape-expired w n = shape-messages w (change_at Changes.mark_expired n w.messages) (length w.messages)
    (expired_at (shape w) n).message (length-changed Changes.mark_expired n w.messages)
    (λ k. get-changed Changes.mark_expired message_part n k w.messages no_message refl ∙ either (k == n) (message_at w k))
  where
    either : (b : Bool) (m : Message)
        → (if b then message_part (Changes.mark_expired m) else message_part m) ≡ record (message_part m) { expired = b || m.expired }
    either b m = grind (arith, nat_tests)

pub shape-written : (w : LinkRecord) (m : Message) → shape (record w { messages = w.messages ++ m ∷ [] }) ≡ written (shape w) (message_part m)
shape-written w m = shape-messages w (w.messages ++ m ∷ []) (length w.messages + 1)
    (written (shape w) (message_part m)).message (length-append w.messages (m ∷ [])) (λ k. get-snoc message_part w.messages m k no_message)

pub shape-slot : (w : LinkRecord) (n : ℕ) (terminal : Bool) → shape (Changes.with_slot w n terminal) ≡ slotted (shape w) n terminal
shape-slot w n terminal = grind (arith, nat_tests, common_steps) steps 200000

pub shape-arrived : (w : LinkRecord) (p : ℕ) → shape (record w { slots = change_at Changes.mark_arrived p w.slots }) ≡ shape w
shape-arrived w p = shape-slots w (change_at Changes.mark_arrived p w.slots) (length w.slots) (λ k. slot_part (slot_at w k))
    (length-changed Changes.mark_arrived p w.slots) (λ k. changed-keeps Changes.mark_arrived slot_part (λ m. refl) p k w.slots no_slot)

pub shape-acknowledged : (w : LinkRecord) (r : Report) (taken : ℕ)
    → shape (record w { slots = each_numbered (Changes.acknowledged_by r) 0 w.slots; taken = taken }) ≡ shape w
shape-acknowledged w r taken = shape-slots w (each_numbered (Changes.acknowledged_by r) 0 w.slots) (length w.slots) (λ k. slot_part (slot_at w k))
    (length-numbered (Changes.acknowledged_by r) 0 w.slots) (λ k. get-numbered (Changes.acknowledged_by r) slot_part (λ i x. refl) 0 k w.slots no_slot)
