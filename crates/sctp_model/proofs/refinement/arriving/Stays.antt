-- An arrival leaves the parts of a reassembly queue that it does not concern.
use Rattle.sctp_model.proofs.Names.{◌≡◌, ℕ, Bool, true, false, List, [], ◌∷◌, length, map, refl, ap, sym, ◌∙◌, arith, ◌&&◌, ◌||◌, not, nat_lt, nat_le}
use Rattle.sctp_model.proofs.Names.{numbers_where, kept-same, map-kept-same, LinkRecord, message_at, message_of, stream_of, is_ordered_on, index_of, slots_of}
use Rattle.sctp_model.proofs.Names.{is_unordered_on, arrived_at, arrived_of, is_complete_message, is_unread, is_held, chunk_at, set_of, complete_set_of}
use Rattle.sctp_model.proofs.Names.{is_unassembled, ordered_sets, complete_sets, unassembled_chunks, not_both, both, and-none, nat_tests}
use Rattle.sctp_model.proofs.refinement.arriving.Arrival
use Rattle.sctp_model.proofs.refinement.arriving.Arrival.{with_arrived}

pub map-all : {A B : Type 0} (f g : A → B) (xs : List A) → ((x : A) → f x ≡ g x) → map f xs ≡ map g xs
map-all f g [] same = refl
map-all f g (x ∷ xs) same = rw (same x, map-all f g xs same) refl

-- one of two places
pub by_place : {C : Type 0} (k p : ℕ) → ((k ≡ p → ⊥) → C) → (k ≡ p → C) → C
by_place {C} k p other same = grind (arith, nat_tests)

pub slots_of-arrived : (w : LinkRecord) (p n : ℕ) → slots_of (with_arrived w p) n ≡ slots_of w n
slots_of-arrived w p n = grind (arith, nat_tests, Arrival.count-arrived, kept-same, Arrival.has_fragment-arrived)

pub complete_set_of-arrived : (w : LinkRecord) (p n : ℕ) → complete_set_of (with_arrived w p) n ≡ complete_set_of w n
complete_set_of-arrived w p n = grind (arith, nat_tests, map-all, Arrival.chunk_at-arrived, slots_of-arrived)

pub complete_sets-arrived : (w : LinkRecord) (p s : ℕ) → complete_sets (with_arrived w p) s ≡ complete_sets w s
complete_sets-arrived w p s = map-all (complete_set_of (with_arrived w p)) (complete_set_of w) (stream_of w s).complete (λ n. complete_set_of-arrived w p n)

-- the ordered sets, where the slot is of no ordered message of the stream
pub ordered_sets-elsewhere : (w : LinkRecord) (p s : ℕ) → is_ordered_on w s (message_of w p) ≡ false → ordered_sets (with_arrived w p) s ≡ ordered_sets w s
ordered_sets-elsewhere w p s off =
    map-kept-same (set_of (with_arrived w p)) (set_of w) (is_held (with_arrived w p) s) (is_held w s) 0 (length w.messages)
    (λ k a b. by_place {C = is_held (with_arrived w p) s k ≡ is_held w s k} k (message_of w p)
    (λ ne. Arrival.is_held-elsewhere w p s k (λ e. ne (sym e)))
    (λ e. let no : is_ordered_on w s k ≡ false = rw e off in rw no refl))
    (λ k a b held. Arrival.set_of-elsewhere w p k (λ e. not_both (sym off ∙ rw e (on k held))))
  where
    on : (k : ℕ) → is_held (with_arrived w p) s k ≡ true → is_ordered_on w s k ≡ true
    on k e = (both (is_ordered_on w s k) (is_unread w k
        && (nat_lt 0 (arrived_of (with_arrived w p) k) && (is_complete_message (with_arrived w p) k || nat_le (stream_of w s).named (index_of w k)))) e).0

-- whether an unordered message is complete is told by its stream and by whether it was read
pub complete-unordered : (w : LinkRecord) (p n : ℕ) → (message_at w n).ordered ≡ false → is_complete_message (with_arrived w p) n ≡ is_complete_message w n
complete-unordered w p n e = rw e refl

-- whether a place is unassembled, by the message there and whether it arrived
abbrev pub unassembled_as : LinkRecord → ℕ → ℕ → ℕ → Bool → Bool
unassembled_as v s k n arrived = arrived && (nat_le v.skipped k && (is_unordered_on v s n && not (is_complete_message v n)))

-- other places are unassembled as they were
pub unassembled-other : (w : LinkRecord) (p s k : ℕ) → (k ≡ p → ⊥) → is_unassembled (with_arrived w p) s k ≡ is_unassembled w s k
unassembled-other w p s k ne = grind (arith, nat_tests, Arrival.message_of-arrived, Arrival.arrived-other, complete-unordered)

-- the unassembled chunks, where the slot is of no unordered message of the stream
pub unassembled-elsewhere : (w : LinkRecord) (p s : ℕ) → is_unordered_on w s (message_of w p) ≡ false
    → unassembled_chunks (with_arrived w p) s ≡ unassembled_chunks w s
unassembled-elsewhere w p s off =
    ap (λ c. map (chunk_at (with_arrived w p)) (numbers_where (is_unassembled (with_arrived w p) s) 0 c)) (Arrival.count-arrived w p)
    ∙ map-kept-same (chunk_at (with_arrived w p)) (chunk_at w) (is_unassembled (with_arrived w p) s) (is_unassembled w s) 0 (length w.slots)
    (λ k a b. by_place {C = is_unassembled (with_arrived w p) s k ≡ is_unassembled w s k} k p (λ ne. unassembled-other w p s k ne) (λ e. same k e))
    (λ k a b e. Arrival.chunk_at-arrived w p k)
  where
    none : (v : LinkRecord) (k : ℕ) (a : Bool) → is_unordered_on v s (message_of w p) ≡ false → unassembled_as v s k (message_of w p) a ≡ false
    none v k true e = rw e (and-none (nat_le v.skipped k))
    none v k false e = refl

    same : (k : ℕ) → k ≡ p → is_unassembled (with_arrived w p) s k ≡ is_unassembled w s k
    same k e = cc (Arrival.message_of-arrived w p k, e, none (with_arrived w p) k (arrived_at (with_arrived w p) k) off, none w k (arrived_at w k) off)
