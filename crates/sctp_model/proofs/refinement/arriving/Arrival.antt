-- What an arrival leaves as it was, and what it changes.
use Rattle.sctp_model.proofs.Names.{◌≡◌, ℕ, ◌+◌, ◌-◌, ◌<◌, ◌≤◌, ◌^◌, Bool, true, false, length, refl, ap, sym, ◌∙◌, arith, map, zero, suc, ◌%◌, ◌∷◌, ◌==◌, not}
use Rattle.sctp_model.proofs.Names.{nat_lt, if◌then◌else◌, nat_tests, common_steps, numbers_where, change_at, insert_before, is_complete, chunk_before}
use Rattle.sctp_model.proofs.Names.{chunk_at, has_come, chunks_come, set_of, kept-same, kept-skip, map-kept-same, map-kept-inserted, length-kept-le, front-kept}
use Rattle.sctp_model.proofs.Names.{comes_before-tsn, tsn, LinkRecord, slot_at, message_of, no_slot, fragment_count, has_fragment, arrived_at, arrived_of}
use Rattle.sctp_model.proofs.Names.{has_arrived, is_held, mark_arrived, IsLaid, Valid, fails, both, length-changed, changed-same, changed-other, changed-keeps}
use Rattle.sctp_model.proofs.Names.{kept-short, length-kept-one_more, ChunkPayloadData}
use Rattle.sctp_reassembly.specs.reassembly_queue.Fragments.{completes}

-- ## A set is complete exactly where each fragment of the message came

-- the chunks of a message that lies at count places from base on
pub record IsMessage (first : ℕ) (f : ℕ → ChunkPayloadData) (p : ℕ → Bool) (base count : ℕ) : Type 0 where
  pub some : 0 < count
  pub short : count < 2 ^ 32
  pub tsn_is : (k : ℕ) → base ≤ k → k < base + count → p k ≡ true → (f k).tsn ≡ tsn first k
  pub begins : (k : ℕ) → base ≤ k → k < base + count → p k ≡ true → (f k).beginning_fragment ≡ (k == base)
  pub ends : (k : ℕ) → base ≤ k → k < base + count → p k ≡ true → (f k).ending_fragment ≡ (k + 1 == base + count)

module _ (first : ℕ) (f : ℕ → ChunkPayloadData) (p : ℕ → Bool) (base count : ℕ) (m : IsMessage first f p base count) where
  follows : (x y : ℕ) → base ≤ x → x < y → y < base + count → p x ≡ true → p y ≡ true → ((f y).tsn == ((f x).tsn + 1) % 2 ^ 32) ≡ (y == x + 1)
  follows x y low lt high px py = grind (arith, nat_tests)

  -- those after x are all the rest
  rest : (x left : ℕ) → base ≤ x → x + 1 + left ≡ base + count → p x ≡ true
      → completes (f x) (map f (numbers_where p (x + 1) left)) ≡ (length (numbers_where p (x + 1) left) == left)
  rest x zero low e px = m.ends x low (omega arith) px ∙ let h : x + 1 ≡ base + count = omega arith in grind (arith, nat_tests)
  rest x (suc left) low e px = step (p (x + 1)) refl (λ h. rest (x + 1) left (omega arith) (omega arith) h)
    where
      step : (b : Bool) → p (x + 1) ≡ b
          → (p (x + 1) ≡ true → completes (f (x + 1)) (map f (numbers_where p (x + 1 + 1) left)) ≡ (length (numbers_where p (x + 1 + 1) left) == left))
          → completes (f x) (map f (if b then (x + 1) ∷ numbers_where p (x + 1 + 1) left else numbers_where p (x + 1 + 1) left))
          ≡ (length (if b then (x + 1) ∷ numbers_where p (x + 1 + 1) left else numbers_where p (x + 1 + 1) left) == suc left)
      step true h ih = grind (arith, nat_tests, follows)
      step false h ih = grind (arith, nat_tests, front-kept, length-kept-le)

  pub complete-kept : is_complete (map f (numbers_where p base count)) ≡ (length (numbers_where p base count) == count)
  complete-kept = grind (arith, nat_tests, rest, front-kept, length-kept-le)

-- ## A slot arrives

abbrev pub with_arrived : LinkRecord → ℕ → LinkRecord
with_arrived w p = record w { slots = change_at mark_arrived p w.slots }

-- ## A slot of a message

pub of_message : (w : LinkRecord) (n p : ℕ) → has_fragment w n p ≡ true → message_of w p ≡ n
of_message w n p e = let h : (message_of w p == n) ≡ true = (both (message_of w p == n) (not (slot_at w p).is_terminal_chunk) e).0 in grind (arith, nat_tests)

pub has-fragment : (w : LinkRecord) (p : ℕ) → (slot_at w p).is_terminal_chunk ≡ false → has_fragment w (message_of w p) p ≡ true
has-fragment w p e = rw e (grind (arith, nat_tests))

pub no-fragment : (w : LinkRecord) (n p : ℕ) → (message_of w p ≡ n → ⊥) → has_fragment w n p ≡ false
no-fragment w n p ne = fails (has_fragment w n p) (λ e. ne (of_message w n p e))

-- past the slots there is none
pub beyond : (w : LinkRecord) (n p : ℕ) → length w.slots ≤ p → has_fragment w n p ≡ false
beyond w n p le = let e : slot_at w p ≡ no_slot = grind (arith, common_steps) in rw e (grind (arith, common_steps))

pub come : (w : LinkRecord) (n p : ℕ) → has_come w n p ≡ true → (has_fragment w n p ≡ true) × (arrived_at w p ≡ true)
come w n p e = both (has_fragment w n p) (arrived_at w p) e

-- ## A set is complete where its message is complete

pub kept-window : (p : ℕ → Bool) (all base count : ℕ) → ((k : ℕ) → p k ≡ true → (base ≤ k) × (k < base + count) × (k < all))
    → numbers_where p 0 all ≡ numbers_where p base count
kept-window p all base count inside =
    let total = all + (base + count) in
    sym (kept-short p 0 all (base + count) total refl (λ k a b. fails (p k) (λ e. absurd (omega (arith, (inside k e).2)))))
    ∙ kept-skip p 0 total base (omega arith) (omega arith) (λ k a b. fails (p k) (λ e. absurd (omega (arith, (inside k e).0))))
    ∙ kept-short p base count all (0 + total - base) (omega arith) (λ k a b. fails (p k) (λ e. absurd (omega (arith, (inside k e).1))))

pub is_message : (w : LinkRecord) (n base : ℕ) → Valid w → n < length w.messages → IsLaid w n base
    → IsMessage w.setup.first (chunk_at w) (has_come w n) base (fragment_count w n)
is_message w n base valid lt laid = grind (arith, nat_tests, come, of_message)

pub window : (w : LinkRecord) (n base : ℕ) → IsLaid w n base
    → numbers_where (has_come w n) 0 (length w.slots) ≡ numbers_where (has_come w n) base (fragment_count w n)
window w n base laid = grind (arith, nat_tests, kept-window, come, beyond)

pub set_is_complete : (w : LinkRecord) (n : ℕ) → Valid w → n < length w.messages → is_complete (chunks_come w n) ≡ has_arrived w n
set_is_complete w n valid lt =
    let laid = valid.laid n in
    let l = window w n laid.0 laid.1 in
    cc (l, complete-kept w.setup.first (chunk_at w) (has_come w n) laid.0 (fragment_count w n) (is_message w n laid.0 valid lt laid.1))

-- ## An arrival: what stays

pub count-arrived : (w : LinkRecord) (p : ℕ) → length (with_arrived w p).slots ≡ length w.slots
count-arrived w p = length-changed mark_arrived p w.slots

pub message_of-arrived : (w : LinkRecord) (p k : ℕ) → message_of (with_arrived w p) k ≡ message_of w k
message_of-arrived w p k = changed-keeps mark_arrived (λ x. x.message) (λ x. refl) p k w.slots no_slot

pub fragment-arrived : (w : LinkRecord) (p k : ℕ) → (slot_at (with_arrived w p) k).fragment ≡ (slot_at w k).fragment
fragment-arrived w p k = changed-keeps mark_arrived (λ x. x.fragment) (λ x. refl) p k w.slots no_slot

pub mark-arrived : (w : LinkRecord) (p k : ℕ) → (slot_at (with_arrived w p) k).is_terminal_chunk ≡ (slot_at w k).is_terminal_chunk
mark-arrived w p k = changed-keeps mark_arrived (λ x. x.is_terminal_chunk) (λ x. refl) p k w.slots no_slot

pub arrived-here : (w : LinkRecord) (p : ℕ) → p < length w.slots → arrived_at (with_arrived w p) p ≡ true
arrived-here w p lt = ap (λ x. x.arrived) (changed-same mark_arrived p w.slots no_slot lt)

pub arrived-other : (w : LinkRecord) (p k : ℕ) → (k ≡ p → ⊥) → arrived_at (with_arrived w p) k ≡ arrived_at w k
arrived-other w p k ne = ap (λ x. x.arrived) (changed-other mark_arrived p k w.slots no_slot ne)

pub chunk_at-arrived : (w : LinkRecord) (p k : ℕ) → chunk_at (with_arrived w p) k ≡ chunk_at w k
chunk_at-arrived w p k = rw (message_of-arrived w p k, fragment-arrived w p k) refl

pub has_fragment-arrived : (w : LinkRecord) (p n k : ℕ) → has_fragment (with_arrived w p) n k ≡ has_fragment w n k
has_fragment-arrived w p n k = rw (message_of-arrived w p k, mark-arrived w p k) refl

pub has_come-other : (w : LinkRecord) (p n k : ℕ) → (k ≡ p → ⊥) → has_come (with_arrived w p) n k ≡ has_come w n k
has_come-other w p n k ne = rw (has_fragment-arrived w p n k, arrived-other w p k ne) refl

-- a slot of another message
pub has_come-elsewhere : (w : LinkRecord) (p n k : ℕ) → (message_of w p ≡ n → ⊥) → has_come (with_arrived w p) n k ≡ has_come w n k
has_come-elsewhere w p n k ne = grind (arith, nat_tests, has_come-other, no-fragment, has_fragment-arrived)

-- ## An arrival: the sets

pub kept_come-elsewhere : (w : LinkRecord) (p n : ℕ) → (message_of w p ≡ n → ⊥)
    → numbers_where (has_come (with_arrived w p) n) 0 (length (with_arrived w p).slots) ≡ numbers_where (has_come w n) 0 (length w.slots)
kept_come-elsewhere w p n ne =
    cc (count-arrived w p, kept-same (has_come (with_arrived w p) n) (has_come w n) 0 (length w.slots) (λ k a b. has_come-elsewhere w p n k ne))

pub set_of-elsewhere : (w : LinkRecord) (p n : ℕ) → (message_of w p ≡ n → ⊥) → set_of (with_arrived w p) n ≡ set_of w n
set_of-elsewhere w p n ne = grind (arith, nat_tests, count-arrived, map-kept-same, has_come-elsewhere, chunk_at-arrived)

-- the place of a chunk among those of its list, whatever the list
pub order_of : (w : LinkRecord) (p k : ℕ) → length w.slots < 2 ^ 31 → p < length w.slots → k < length w.slots → (k ≡ p → ⊥)
    → chunk_before (chunk_at w p) (chunk_at w k) ≡ nat_lt p k
order_of w p k few lt lk ne = comes_before-tsn w.setup.first p k (omega arith) (omega arith) (λ e. ne (sym e))

pub chunks_come-here : (w : LinkRecord) (p : ℕ) → length w.slots < 2 ^ 31 → p < length w.slots → arrived_at w p ≡ false → (slot_at w p).is_terminal_chunk
    ≡ false → chunks_come (with_arrived w p) (message_of w p) ≡ insert_before chunk_before (chunk_at w p) (chunks_come w (message_of w p))
chunks_come-here w p few lt new fragment =
    let n = message_of w p in
    let out : has_come w n p ≡ false = rw new (grind (arith, common_steps)) in
    let in' : has_come (with_arrived w p) n p ≡ true = rw (has_fragment-arrived w p n p, arrived-here w p lt, has-fragment w p fragment) refl in
    ap (λ c. map (chunk_at (with_arrived w p)) (numbers_where (has_come (with_arrived w p) n) 0 c)) (count-arrived w p)
    ∙ map-kept-same (chunk_at (with_arrived w p)) (chunk_at w) (has_come (with_arrived w p) n) (has_come (with_arrived w p) n) 0 (length w.slots)
    (λ k a b. refl) (λ k a b e. chunk_at-arrived w p k)
    ∙ map-kept-inserted (chunk_at w) chunk_before (has_come w n) (has_come (with_arrived w p) n) p 0 (length w.slots) out in' (omega arith) (omega arith)
    (λ k a b ne. sym (has_come-other w p n k ne))
    (λ k a b ne pass. order_of w p k few lt (omega arith) ne)

-- ## An arrival: what is held

pub arrived_of-elsewhere : (w : LinkRecord) (p n : ℕ) → (message_of w p ≡ n → ⊥) → arrived_of (with_arrived w p) n ≡ arrived_of w n
arrived_of-elsewhere w p n ne = ap length (kept_come-elsewhere w p n ne)

pub arrived_of-here : (w : LinkRecord) (p : ℕ) → p < length w.slots → arrived_at w p ≡ false → (slot_at w p).is_terminal_chunk ≡ false
    → arrived_of (with_arrived w p) (message_of w p) ≡ arrived_of w (message_of w p) + 1
arrived_of-here w p lt new fragment =
    let n = message_of w p in
    let out : has_come w n p ≡ false = rw new (grind (arith, common_steps)) in
    let in' : has_come (with_arrived w p) n p ≡ true = rw (has_fragment-arrived w p n p, arrived-here w p lt, has-fragment w p fragment) refl in
    ap (λ c. length (numbers_where (has_come (with_arrived w p) n) 0 c)) (count-arrived w p)
    ∙ length-kept-one_more (has_come w n) (has_come (with_arrived w p) n) p 0 (length w.slots) out in' (omega arith) (omega arith)
    (λ k a b ne. sym (has_come-other w p n k ne))

pub is_held-elsewhere : (w : LinkRecord) (p s n : ℕ) → (message_of w p ≡ n → ⊥) → is_held (with_arrived w p) s n ≡ is_held w s n
is_held-elsewhere w p s n ne = rw (arrived_of-elsewhere w p n ne) refl
