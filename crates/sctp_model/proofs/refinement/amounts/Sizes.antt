-- No fragment makes its message larger than the link takes: what the queue counts with it are fragments of its message.
use Rattle.sctp_model.proofs.Names.{◌≡◌, ℕ, zero, suc, ◌+◌, ◌-◌, ◌<◌, ◌≤◌, ◌%◌, ◌^◌, Bool, true, false, List, [], ◌∷◌, ◌++◌, length, map, refl, ap, sym, ◌∙◌}
use Rattle.sctp_model.proofs.Names.{arith, if◌then◌else◌, ◌==◌, ◌&&◌, not, nat_lt, subst, nat_tests, sum_by-cons, numbers_where, always, total_over}
use Rattle.sctp_model.proofs.Names.{after_leading, kept-snoc_in, not_both, both, and, same-yes, same-is, negated, and-none, total-append, total-at, total-where}
use Rattle.sctp_model.proofs.Names.{total-split, total-kept_same, numbers-append, same16-index, ChunkPayloadData, ChunkSet, has_ssn, bytes_of, following_tsn}
use Rattle.sctp_model.proofs.Names.{is_too_large, Setup, LinkRecord, message_at, slot_at, message_of, is_ordered_on, index_of, ssn_of, tsn_of, fragment_at}
use Rattle.sctp_model.proofs.Names.{fragment_count, has_fragment, sent_of, arrived_at, is_new, is_held, chunk_at, set_of, is_unassembled, has_come, IsSpan}
use Rattle.sctp_model.proofs.Names.{Valid, ValidUnassembled}
use Rattle.std.specs.Prelude.{reverse}
use Rattle.std.proofs.lemmas.List.{reverse-append}
use Rattle.sctp_reassembly.specs.reassembly_queue.Fragments.{chunks_of_ssn}
use Rattle.sctp_serial.specs.DataChunks.{preceding_tsn}
use Rattle.sctp_reassembly.specs.reassembly_queue.Sizes.{bytes_down, bytes_up, back_from, on_from, size_before, size_after, projected_size}
use Rattle.sctp_reassembly.specs.reassembly_queue.ReassemblyQueue.{ReassemblyState}
use Rattle.sctp_model.specs.Amounts
use Rattle.sctp_model.proofs.sender.Shape.{shape}
use Rattle.sctp_model.proofs.sender.Sender.{Sender}
use Rattle.sctp_model.proofs.sender.SenderRun.{Consistent}
use Rattle.sctp_model.proofs.acknowledgement.Bytes.{slots-bytes, fragments-bytes}
use Rattle.sctp_model.specs.refinement.Holds.{reassembly_of}
use Rattle.sctp_model.proofs.refinement.arriving.Arrival
use Rattle.sctp_model.proofs.refinement.reading.Line
use Rattle.sctp_model.proofs.refinement.arriving.Unassembled
use Rattle.sctp_model.proofs.refinement.sending.SlotsGoOn.{AllGoOn}
use Rattle.sctp_model.proofs.refinement.arriving.Carried.{Carried, enters}
use Rattle.sctp_model.proofs.refinement.arriving.SlotArrives
use Rattle.sctp_model.proofs.refinement.reading.Taken.{held}

-- ## Lists

-- the sum of the first so many
upto : (ℕ → ℕ) → ℕ → ℕ
upto f k = total_over f (numbers_where always 0 k)

upto-next : (f : ℕ → ℕ) (k : ℕ) → upto f (suc k) ≡ upto f k + f k
unfolding upto
upto-next f k =
    ap (total_over f) (kept-snoc_in always 0 k k (omega arith) refl) ∙ total-append f (numbers_where always 0 k) (k ∷ []) ∙ omega arith

upto-more : (f : ℕ → ℕ) (a b : ℕ) → a ≤ b → upto f a ≤ upto f b
unfolding upto
upto-more f a b le =
    let all : a + (b - a) ≡ b = omega arith in
    let parts = total-append f (numbers_where always 0 a) (numbers_where always a (b - a)) in
    let complete = ap (total_over f) (numbers-append a (b - a) ∙ ap (numbers_where always 0) all) in
    omega (arith, parts, complete)

-- the chunks of the first set of this number are those of some set that has it, or none
chunks-found : (P : List ChunkPayloadData → Type 0) (ssn : ℕ) (f : ℕ → ChunkSet) (q : ℕ → Bool) (from count : ℕ) → P [] → ((k : ℕ) → from ≤ k → k < from + count
    → q k ≡ true → has_ssn ssn (f k) ≡ true → P (f k).chunks) → P (chunks_of_ssn ssn (map f (numbers_where q from count)))
chunks-found P ssn f q from zero none some = none
chunks-found P ssn f q from (suc count) none some = grind (arith, nat_tests, chunks-found P ssn f q (from + 1) count none)

bytes-mapped : (w : LinkRecord) (ks : List ℕ) → bytes_of (map (chunk_at w) ks) ≡ total_over (λ k. length (chunk_at w k).user_data) ks
bytes-mapped w [] = refl
bytes-mapped w (k ∷ ks) = cc (sum_by-cons (λ (c : ChunkPayloadData). length c.user_data) (chunk_at w k) (map (chunk_at w) ks), bytes-mapped w ks)

-- ## Chunks of slots

-- a chunk of a slot that has a fragment
record IsSlot (w : LinkRecord) (y : ChunkPayloadData) : Type 0 where
  place : ℕ
  made : place < length w.slots
  is : y ≡ chunk_at w place
  fragment : (slot_at w place).is_terminal_chunk ≡ false

abbrev AllSlots : LinkRecord → List ChunkPayloadData → Type 0
AllSlots w [] = Unit {0}
AllSlots w (y ∷ ys) = IsSlot w y × AllSlots w ys

slots-append : (w : LinkRecord) (xs ys : List ChunkPayloadData) → AllSlots w xs → AllSlots w ys → AllSlots w (xs ++ ys)
slots-append w [] ys a b = b
slots-append w (x ∷ xs) ys a b = (a.0, slots-append w xs ys a.1 b)

slots-reverse : (w : LinkRecord) (xs : List ChunkPayloadData) → AllSlots w xs → AllSlots w (reverse xs)
slots-reverse w [] a = tt
slots-reverse w (x ∷ xs) a = subst (AllSlots w) (sym (reverse-append (x ∷ []) xs)) (slots-append w (reverse xs) (x ∷ []) (slots-reverse w xs a.1) (a.0, tt))

slots-after : (w : LinkRecord) (t : ChunkPayloadData → Bool) (xs : List ChunkPayloadData) → AllSlots w xs → AllSlots w (after_leading t xs)
slots-after w t [] a = tt
slots-after w t (x ∷ xs) a = grind (arith, nat_tests, slots-after w t xs)

slots-on : (w : LinkRecord) (tsn : ℕ) (xs : List ChunkPayloadData) → AllSlots w xs → AllSlots w (on_from tsn xs)
slots-on w tsn [] a = tt
slots-on w tsn (x ∷ xs) a = grind (arith, nat_tests, slots-on w tsn xs)

slots-kept : (w : LinkRecord) (q : ℕ → Bool) (from count : ℕ) → ((k : ℕ) → from ≤ k → k < from + count → q k ≡ true
    → (k < length w.slots) × ((slot_at w k).is_terminal_chunk ≡ false)) → AllSlots w (map (chunk_at w) (numbers_where q from count))
slots-kept w q from zero h = tt
slots-kept w q from (suc count) h = grind (arith, nat_tests, slots-kept w q (from + 1) count)

-- ## One message

module _ (w : LinkRecord) (valid : Valid w) (n : ℕ) where
  -- the length of its fragment i
  size : ℕ → ℕ
  size i = length (fragment_at w n i)

  size-of : (k : ℕ) → has_fragment w n k ≡ true → length (chunk_at w k).user_data ≡ size (slot_at w k).fragment
  unfolding size
  size-of k h = ap (λ m. length (fragment_at w m (slot_at w k).fragment)) (Arrival.of_message w n k h)

  module _ (goes : AllGoOn (shape w))
      (prefix : (n p j : ℕ) → has_fragment w n p ≡ true → (slot_at w p).fragment ≡ j + 1 → has_fragment w n (p - 1) ≡ true) where
    before : (x y : ℕ) → x < length w.slots → y < length w.slots → (w.setup.first + y) % 2 ^ 32 ≡ ((w.setup.first + x) % 2 ^ 32 + (2 ^ 32 - 1)) % 2 ^ 32
        → x ≡ y + 1
    before x y a b e = omega (arith, valid.few)

    behind : (x y : ℕ) → x < length w.slots → y < length w.slots → (w.setup.first + y) % 2 ^ 32 ≡ ((w.setup.first + x) % 2 ^ 32 + 1) % 2 ^ 32 → y ≡ x + 1
    behind x y a b e = omega (arith, valid.few)

    -- the neighbours below have no more than the fragments before it
    down : (ys : List ChunkPayloadData) (p j : ℕ) → AllSlots w ys → p < length w.slots → has_fragment w n p ≡ true → (slot_at w p).fragment ≡ j + 1
        → bytes_down (tsn_of w p) ys ≤ upto size (suc j)
    down [] p j a lt h e = omega arith
    down (y ∷ ys) p j a lt h e = step (y.tsn == preceding_tsn (tsn_of w p)) refl (λ q i l g f. down ys q i a.1 l g f)
      where
        step : (b : Bool) → (y.tsn == preceding_tsn (tsn_of w p)) ≡ b
            → ((q i : ℕ) → q < length w.slots → has_fragment w n q ≡ true → (slot_at w q).fragment ≡ i + 1 → bytes_down (tsn_of w q) ys ≤ upto size (suc i))
            → (if b then length y.user_data + (if y.beginning_fragment then 0 else bytes_down y.tsn ys) else 0) ≤ upto size (suc j)
        step false t ih = omega arith
        step true t ih =
            let q = a.0.place in
            let tsn : tsn_of w q ≡ preceding_tsn (tsn_of w p) = ap (λ c. c.tsn) (sym a.0.is) ∙ same-is y.tsn (preceding_tsn (tsn_of w p)) t in
            let next : p ≡ q + 1 = before p q lt a.0.made tsn in
            let at : p - 1 ≡ q = omega (arith, next) in
            let mine : has_fragment w n q ≡ true = ap (has_fragment w n) (sym at) ∙ prefix n p j h e in
            let l = valid.laid n in
            let i : (slot_at w q).fragment ≡ j = omega (arith, l.1.at p h, l.1.at q mine, next, e) in
            let long : length y.user_data ≡ size j = ap (λ c. length c.user_data) a.0.is ∙ size-of q mine ∙ ap size i in
            let begins : y.beginning_fragment ≡ (j == 0) = ap (λ c. c.beginning_fragment) a.0.is ∙ ap (λ k. k == 0) i in
            let tsn' : y.tsn ≡ tsn_of w q = ap (λ c. c.tsn) a.0.is in
            rw (long, begins, tsn') (by j i (λ k f. ih q k a.0.made mine f))
          where
            by : (j : ℕ) → (slot_at w a.0.place).fragment ≡ j
                → ((k : ℕ) → (slot_at w a.0.place).fragment ≡ k + 1 → bytes_down (tsn_of w a.0.place) ys ≤ upto size (suc k))
                → size j + (if j == 0 then 0 else bytes_down (tsn_of w a.0.place) ys) ≤ upto size (suc j)
            by zero i ih = omega (arith, upto-next size 0)
            by (suc k) i ih = let z : (suc k == 0) ≡ false = grind (arith, nat_tests) in rw z (omega (arith, upto-next size (suc k), ih k (omega (arith, i))))

    -- the neighbours above have no more than the fragments after it
    up : (ys : List ChunkPayloadData) (p j : ℕ) → AllSlots w ys → p < length w.slots → has_fragment w n p ≡ true → (slot_at w p).fragment ≡ j
        → j + 1 < fragment_count w n → bytes_up (tsn_of w p) ys + upto size (suc j) ≤ upto size (fragment_count w n)
    up [] p j a lt h e short = omega (arith, upto-more size (suc j) (fragment_count w n) (omega arith))
    up (y ∷ ys) p j a lt h e short = step (y.tsn == following_tsn (tsn_of w p)) refl (λ q i l g f s. up ys q i a.1 l g f s)
      where
        step : (b : Bool) → (y.tsn == following_tsn (tsn_of w p)) ≡ b
            → ((q i : ℕ) → q < length w.slots → has_fragment w n q ≡ true → (slot_at w q).fragment ≡ i → i + 1 < fragment_count w n
            → bytes_up (tsn_of w q) ys + upto size (suc i) ≤ upto size (fragment_count w n)) → (if b
            then length y.user_data + (if y.ending_fragment then 0 else bytes_up y.tsn ys) else 0) + upto size (suc j) ≤ upto size (fragment_count w n)
        step false t ih = omega (arith, upto-more size (suc j) (fragment_count w n) (omega arith))
        step true t ih =
            let q = a.0.place in
            let tsn : tsn_of w q ≡ following_tsn (tsn_of w p) = ap (λ c. c.tsn) (sym a.0.is) ∙ same-is y.tsn (following_tsn (tsn_of w p)) t in
            let next : q ≡ p + 1 = behind p q lt a.0.made tsn in
            let of : message_of w p ≡ n = Arrival.of_message w n p h in
            let terminal : (slot_at w p).is_terminal_chunk ≡ false =
            negated (slot_at w p).is_terminal_chunk (both (message_of w p == n) (not (slot_at w p).is_terminal_chunk) h).1 in
            let on = goes p lt terminal (omega (arith, e, short, ap (fragment_count w) of)) in
            let of' : message_of w q ≡ n = ap (message_of w) next ∙ on.same (omega (arith, next, a.0.made)) ∙ of in
            let mine : has_fragment w n q ≡ true = ap (λ m. has_fragment w m q) (sym of') ∙ Arrival.has-fragment w q a.0.fragment in
            let l = valid.laid n in
            let i : (slot_at w q).fragment ≡ suc j = omega (arith, l.1.at p h, l.1.at q mine, next, e) in
            let long : length y.user_data ≡ size (suc j) = ap (λ c. length c.user_data) a.0.is ∙ size-of q mine ∙ ap size i in
            let ends : y.ending_fragment ≡ (suc j + 1 == fragment_count w n) = ap (λ c. c.ending_fragment) a.0.is
            ∙ ap (λ k. k + 1 == fragment_count w (message_of w q)) i ∙ ap (λ m. suc j + 1 == fragment_count w m) of' in
            let tsn' : y.tsn ≡ tsn_of w q = ap (λ c. c.tsn) a.0.is in
            rw (long, ends, tsn') (by (suc j + 1 == fragment_count w n) refl (λ s. ih q (suc j) a.0.made mine i s))
          where
            by : (b : Bool) → (suc j + 1 == fragment_count w n) ≡ b
                → (suc j + 1 < fragment_count w n → bytes_up (tsn_of w a.0.place) ys + upto size (suc (suc j)) ≤ upto size (fragment_count w n))
                → size (suc j) + (if b then 0 else bytes_up (tsn_of w a.0.place) ys) + upto size (suc j) ≤ upto size (fragment_count w n)
            by b s ih = grind (arith, nat_tests, upto-next, size)

    -- with the unassembled neighbours of a fragment: its message at most
    around : (p : ℕ) (unassembled : List ChunkPayloadData) → p < length w.slots → has_fragment w n p ≡ true → AllSlots w unassembled
        → size_before (chunk_at w p) unassembled + length (chunk_at w p).user_data + size_after (chunk_at w p) unassembled ≤ upto size (fragment_count w n)
    around p unassembled lt h a =
        let j = (slot_at w p).fragment in
        omega (arith, low j refl, size-of p h, upto-next size j, high (j + 1 == fragment_count w (message_of w p)) refl)
      where
        low : (j : ℕ) → (slot_at w p).fragment ≡ j
            → (if j == 0 then 0 else bytes_down (tsn_of w p) (back_from (preceding_tsn (tsn_of w p)) unassembled)) ≤ upto size j
        low zero e = omega arith
        low (suc i) e = grind (arith, nat_tests, down, slots-after, slots-reverse)

        high : (b : Bool) → ((slot_at w p).fragment + 1 == fragment_count w (message_of w p)) ≡ b
            → (if b then 0 else bytes_up (tsn_of w p) (on_from (following_tsn (tsn_of w p)) unassembled)) + upto size (suc (slot_at w p).fragment)
            ≤ upto size (fragment_count w n)
        high true e = let z = same-is ((slot_at w p).fragment + 1) (fragment_count w (message_of w p)) e in
            omega (arith, upto-more size (suc (slot_at w p).fragment) (fragment_count w n) (omega (arith, (valid.laid n).1.within p h)))
        high false e =
            let ne : (slot_at w p).fragment + 1 ≡ fragment_count w n → ⊥ = λ z. (let y : ((slot_at w p).fragment + 1 == fragment_count w (message_of w p))
            ≡ true = ap (λ m. (slot_at w p).fragment + 1 == fragment_count w m) (Arrival.of_message w n p h) ∙ ap (λ k. k == fragment_count w n) z
            ∙ same-yes (fragment_count w n) in not_both (sym e ∙ y)) in
            let short : (slot_at w p).fragment + 1 < fragment_count w n = strict ((slot_at w p).fragment + 1) (fragment_count w n)
            (let z = (valid.laid n).1.within p h in omega (arith, z)) ne in
            up (on_from (following_tsn (tsn_of w p)) unassembled) p (slot_at w p).fragment
            (slots-on w (following_tsn (tsn_of w p)) unassembled a) lt h refl short
          where
            strict : (a b : ℕ) → a ≤ b → (a ≡ b → ⊥) → a < b
            strict a b le ne = grind (arith, nat_tests)

  -- what has come of it, and a fragment that has not
  come-with : (p : ℕ) → Sender (shape w) → p < length w.slots → has_fragment w n p ≡ true → arrived_at w p ≡ false
      → bytes_of (map (chunk_at w) (numbers_where (has_come w n) 0 (length w.slots))) + length (chunk_at w p).user_data ≤ upto size (sent_of w n)
  unfolding size upto
  come-with p s lt h new =
      let f : ℕ → ℕ = λ k. length (chunk_at w k).user_data in
      let out : ℕ → Bool = λ k. has_fragment w n k && not (arrived_at w k) in
      let all = has_fragment w n in
      let split = total-split f all (arrived_at w) 0 (length w.slots) in
      let one = total-at (λ k. if out k then f k else 0) p 0 (length w.slots) (omega arith) (omega (arith, lt)) in
      let here : (if out p then f p else 0) ≡ f p = ap (λ b. if b then f p else 0) (and (has_fragment w n p) (not (arrived_at w p)) h (ap not new)) in
      let rest = total-where f out 0 (length w.slots) in
      let same = total-where f all 0 (length w.slots) ∙ total-kept_same (λ k. if all k then f k else 0) (λ k. if all k then Amounts.slot_bytes w n k
      else 0) always 0 (length w.slots) (λ k a b. each k (all k) refl) ∙ sym (total-where (Amounts.slot_bytes w n) all 0 (length w.slots)) in
      omega (arith, bytes-mapped w (numbers_where (has_come w n) 0 (length w.slots)), split, one, here, rest, same, slots-bytes w n s)
    where
      each : (k : ℕ) (b : Bool) → has_fragment w n k ≡ b → (if b then length (chunk_at w k).user_data else 0) ≡ (if b then Amounts.slot_bytes w n k else 0)
      each k true e = size-of k e
      each k false e = refl

  all-bytes : 0 < w.setup.size → upto size (fragment_count w n) ≡ length (message_at w n).bytes
  unfolding size upto
  all-bytes pos = fragments-bytes w n pos

  -- the set with its SSN, and a fragment that has not come
  set-with : (s p : ℕ) → Sender (shape w) → p < length w.slots → has_fragment w n p ≡ true → arrived_at w p ≡ false → n < length w.messages
      → is_ordered_on w s n ≡ true → IsSpan w s (index_of w n ∷ [])
      → bytes_of (chunks_of_ssn (ssn_of w n) (map (set_of w) (numbers_where (is_held w s) 0 (length w.messages)))) + length (chunk_at w p).user_data
      ≤ upto size (fragment_count w n)
  set-with s p a lt h new made on sp =
      chunks-found (λ l. bytes_of l + length (chunk_at w p).user_data ≤ upto size (fragment_count w n)) (ssn_of w n) (set_of w)
      (is_held w s) 0 (length w.messages)
      (omega (arith, come-with p a lt h new, more))
      (λ k x y e t. let z = only k (omega arith) e (same-is (ssn_of w k) (ssn_of w n) t) in rw z (omega (arith, come-with p a lt h new, more)))
    where
      more : upto size (sent_of w n) ≤ upto size (fragment_count w n)
      more = upto-more size (sent_of w n) (fragment_count w n) (a.within n made)

      mine : (sp.low ≤ index_of w n) × (index_of w n ≤ sp.high)
      mine = sp.others (index_of w n) (let e : (index_of w n == index_of w n) ≡ true = same-yes (index_of w n) in rw e refl)

      only : (k : ℕ) → k < length w.messages → is_held w s k ≡ true → ssn_of w k ≡ ssn_of w n → k ≡ n
      only k l e z =
          let o = (held w s k e).on in
          let b = sp.held k l e in
          let same : index_of w k % 2 ^ 16 ≡ index_of w n % 2 ^ 16 = sym (Line.ssn_on w s k o) ∙ z ∙ Line.ssn_on w s n on in
          let t : (index_of w k == index_of w n) ≡ true =
          sym (same16-index (index_of w k) (index_of w n) (omega (arith, b, mine, sp.short)) (omega (arith, b, mine, sp.short)))
          ∙ ap (λ v. v == index_of w n % 2 ^ 16) same ∙ same-yes (index_of w n % 2 ^ 16) in
          Line.index-same w s k n o on (same-is (index_of w k) (index_of w n) t)

-- ## What the queue asks

module _ (setup : Setup) (w : LinkRecord) (p : ℕ) (q : ReassemblyState) (g : Consistent setup w) (valid : Valid w) (more : ValidUnassembled w)
    (goes : AllGoOn (shape w)) (pos : 0 < w.setup.size) (c : Carried w p) (new : is_new w p ≡ true)
    (near : (message_at w (message_of w p)).ordered ≡ true → IsSpan w (message_at w (message_of w p)).stream (index_of w (message_of w p) ∷ []))
    (short : length (message_at w (message_of w p)).bytes ≤ w.setup.largest)
    (holds : q.held ≡ reassembly_of w (message_at w (message_of w p)).stream) (limit : q.max_message_size ≡ w.setup.largest) where
  abbrev n : ℕ
  n = message_of w p

  abbrev s : ℕ
  s = (message_at w (message_of w p)).stream

  fragment : has_fragment w n p ≡ true
  fragment = Arrival.has-fragment w p c.fragment

  unassembled-slots : AllSlots w (map (chunk_at w) (numbers_where (is_unassembled w s) 0 (length w.slots)))
  unassembled-slots =
      slots-kept w (is_unassembled w s) 0 (length w.slots) (λ k a b e. (omega arith, more.terminals k (Unassembled.unassembled w s k e).datagram_received))

  -- what the queue adds up, by whether the message is unordered
  sum-by : Bool → ℕ
  sum-by b = if b then size_before (chunk_at w p) (reassembly_of w s).unassembled + length (chunk_at w p).user_data + size_after (chunk_at w p)
      (reassembly_of w s).unassembled else bytes_of (chunks_of_ssn (ssn_of w n) (reassembly_of w s).ordered) + length (chunk_at w p).user_data

  bound : (b : Bool) → (message_at w n).ordered ≡ b
      → projected_size (chunk_at w p) (reassembly_of w s).ordered (reassembly_of w s).unassembled ≤ length (message_at w n).bytes
  unfolding sum-by
  bound true e =
      let on = SlotArrives.ordered-on w s p (enters w p c new) e in
      let r = set-with w valid n s p g.sender c.made fragment (SlotArrives.not-arrived w p new) (valid.made n p fragment) on (near e) in
      subst (λ b. sum-by (not b) ≤ length (message_at w n).bytes) (sym e) (omega (arith, r, all-bytes w valid n pos))
  bound false e =
      let r =
      around w valid n goes more.prefix p (map (chunk_at w) (numbers_where (is_unassembled w s) 0 (length w.slots))) c.made fragment unassembled-slots in
      subst (λ b. sum-by (not b) ≤ length (message_at w n).bytes) (sym e) (omega (arith, r, all-bytes w valid n pos))

  -- a new fragment does not make its message larger than the longest taken
  pub never-too-large : is_too_large (chunk_at w p) q ≡ false
  never-too-large =
      let small : projected_size (chunk_at w p)
      (reassembly_of w s).ordered (reassembly_of w s).unassembled ≤ w.setup.largest = omega (arith, bound (message_at w n).ordered refl, short) in
      let no : nat_lt w.setup.largest (projected_size (chunk_at w p) (reassembly_of w s).ordered (reassembly_of w s).unassembled) ≡ false =
      grind (arith, nat_tests) in
      cc (holds, limit, no, and-none ((chunk_at w p).stream_identifier == q.si))
