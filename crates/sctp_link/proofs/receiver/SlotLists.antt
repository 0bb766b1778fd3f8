-- The slots of a datagram come to the receiver of a link, one after another.
use Rattle.sctp_link.proofs.Names.{◌≡◌, ℕ, zero, suc, Bool, true, false, List, [], ◌∷◌, ◌++◌, length, map, refl, ap, sym, ◌∙◌, append-nil, ◌||◌, if◌then◌else◌}
use Rattle.sctp_link.proofs.Names.{fold, slice_index_or, list_any, subst, change_at, ChunkPayloadData, LinkRecord, message_of, no_slot, is_new, receive_slot}
use Rattle.sctp_link.proofs.Names.{mark_arrived, Arrival, New, Repeat, arrival_of, is_answered_complete, Sides, reception_of, CanTake, TakesEach, Slot}
use Rattle.sctp_link.proofs.Names.{slot_record, IsReceiver, AllCome, number_at, with_arrival, arrived_in, repeated_of, is_first, append_assoc}
use Rattle.sctp_model.proofs.sender.Network
use Rattle.sctp_model.proofs.refinement.arriving.SlotArrives
use Rattle.sctp_link.proofs.receiver.Slots.{One, core, accepted, opened, one}

-- the numbers of the messages of slots, as a link keeps them
pub numbers-are : (w : LinkRecord) (ss : List Slot) → w.slots ≡ map slot_record ss → (p : ℕ) → number_at ss p ≡ message_of w p
numbers-are w ss same p = read ss p ∙ ap (λ xs. (slice_index_or xs p no_slot).message) (sym same)
  where
    read : (ss : List Slot) (p : ℕ) → number_at ss p ≡ (slice_index_or (map slot_record ss) p no_slot).message
    read [] p = refl
    read (t ∷ ss) zero = refl
    read (t ∷ ss) (suc p) = read ss p

-- no slot that comes changes them
numbers-stay : (w : LinkRecord) (p q : ℕ) → message_of (receive_slot w p) q ≡ message_of w q
numbers-stay w p q = ap (λ y. (y.slot q).message) (Network.same-slot w p).shape_is

-- the receiver refuses none of them
pub can : (f : ℕ → ℕ) (ps : List ℕ) (cs : List ChunkPayloadData) {w : LinkRecord} {x : Sides} → ((q : ℕ) → f q ≡ message_of w q) → IsReceiver w x
    → AllCome w ps cs → CanTake cs (map f ps) x
can f [] [] num r m = tt
can f [] (c ∷ cs) num r m = absurd m
can f (p ∷ ps) [] num r m = absurd m
can f (p ∷ ps) (c ∷ cs) {w} {x} num r m = (
  accepted r p c m.0,
  opened r p c m.0,
  λ complete y t. can f ps cs (λ q. num q ∙ sym (numbers-stay w p q))
      (one r p c m.0 (f p) complete (arrival_of c.tsn complete (reception_of x)) y (num p) refl t).receiver m.1,
)

-- what they make
pub record Came (w : LinkRecord) (x : Sides) (ps : List ℕ) (bs : List Arrival) (y : Sides) : Type 0 where
  pub receiver : IsReceiver (fold receive_slot w ps) y
  pub cores : map core y.streams ≡ map core x.streams
  pub rest : y ≡ record x { streams = y.streams; cumulative_tsn = y.cumulative_tsn; beyond = y.beyond; duplicates = y.duplicates }
  pub new : list_any is_first bs ≡ list_any (is_new w) ps
  pub count : length bs ≡ length ps
  pub slots : (ss : List Slot) → w.slots ≡ map slot_record ss → (fold receive_slot w ps).slots ≡ map slot_record (arrived_in ps bs ss)
  pub duplicates : (fold receive_slot w ps).duplicates ≡ w.duplicates ++ repeated_of ps bs

marked : (p : ℕ) (ss : List Slot) → map slot_record (change_at with_arrival p ss) ≡ change_at mark_arrived p (map slot_record ss)
marked p [] = refl
marked zero (t ∷ ss) = refl
marked (suc p) (t ∷ ss) = ap (λ xs. slot_record t ∷ xs) (marked p ss)

-- whether one of those after a slot is new, where that is not
others-new : (w : LinkRecord) (p : ℕ) (ps : List ℕ) → is_new w p ≡ false → list_any (is_new (receive_slot w p)) ps ≡ list_any (is_new w) ps
others-new w p ps old = ap (λ v. list_any (is_new v) ps) (SlotArrives.repeated w p old)

came-more : (w : LinkRecord) (x mid y : Sides) (p : ℕ) (ps : List ℕ) (a : Arrival) (bs : List Arrival) → One w x p a mid → Came (receive_slot w p) mid ps bs y
    → Came w x (p ∷ ps) (a ∷ bs) y
came-more w x mid y p ps a bs o e = record {
  receiver = e.receiver;
  cores = e.cores ∙ o.cores;
  rest = e.rest ∙ ap (λ (z : Sides). record z { streams = y.streams; cumulative_tsn = y.cumulative_tsn; beyond = y.beyond; duplicates = y.duplicates }) o.rest;
  new = ap (λ b. b || list_any is_first bs) o.answer ∙ any (is_new w p) refl;
  count = ap suc e.count;
  slots = slots a o.slots;
  duplicates = e.duplicates ∙ duplicates a o.duplicates;
}
  where
    any : (b : Bool) → is_new w p ≡ b → (b || list_any is_first bs) ≡ (b || list_any (is_new w) ps)
    any true h = refl
    any false h = e.new ∙ others-new w p ps h

    slots : (a : Arrival) → (receive_slot w p).slots ≡ (if is_first a then change_at mark_arrived p w.slots else w.slots) → (ss : List Slot)
        → w.slots ≡ map slot_record ss → (fold receive_slot (receive_slot w p) ps).slots ≡ map slot_record (arrived_in (p ∷ ps) (a ∷ bs) ss)
    slots (New complete) h ss same = e.slots (change_at with_arrival p ss) (h ∙ ap (change_at mark_arrived p) same ∙ sym (marked p ss))
    slots Repeat h ss same = e.slots ss (h ∙ same)

    duplicates : (a : Arrival) → (receive_slot w p).duplicates ≡ (if is_first a then w.duplicates else w.duplicates ++ p ∷ [])
        → (receive_slot w p).duplicates ++ repeated_of ps bs ≡ w.duplicates ++ repeated_of (p ∷ ps) (a ∷ bs)
    duplicates (New complete) h = ap (λ d. d ++ repeated_of ps bs) h
    duplicates Repeat h = ap (λ d. d ++ repeated_of ps bs) h ∙ append_assoc w.duplicates (p ∷ []) (repeated_of ps bs)

pub came : (f : ℕ → ℕ) (ps : List ℕ) (cs : List ChunkPayloadData) (bs : List Arrival) {w : LinkRecord} {x : Sides} (y : Sides)
    → ((q : ℕ) → f q ≡ message_of w q) → IsReceiver w x → AllCome w ps cs → TakesEach cs (map f ps) bs x y → Came w x ps bs y
came f [] [] [] {w} {x} y num r m t = record {
  receiver = subst (IsReceiver w) (sym t) r;
  cores = ap (λ (z : Sides). map core z.streams) t;
  rest =
      subst (λ (z : Sides). z ≡ record x { streams = z.streams; cumulative_tsn = z.cumulative_tsn; beyond = z.beyond; duplicates = z.duplicates }) (sym t) refl;
  new = refl;
  count = refl;
  slots = λ ss same. same;
  duplicates = sym (append-nil w.duplicates);
}
came f [] [] (b ∷ bs) y num r m t = absurd t
came f [] (c ∷ cs) bs y num r m t = absurd m
came f (p ∷ ps) [] bs y num r m t = absurd m
came f (p ∷ ps) (c ∷ cs) [] y num r m t = absurd t
came f (p ∷ ps) (c ∷ cs) (a ∷ bs) {w} {x} y num r m t =
    let o = one r p c m.0 (f p) (is_answered_complete a) a t.0 (num p) t.1.0.answer t.1.0.taken in
    came-more w x t.0 y p ps a bs o (came f ps cs bs y (λ q. num q ∙ sym (numbers-stay w p q)) o.receiver m.1 t.1.1)
