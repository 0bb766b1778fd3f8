-- A read of an ordered message: what it leaves.
use Rattle.sctp_model.proofs.Names.{◌≡◌, ℕ, ◌+◌, ◌-◌, ◌<◌, ◌≤◌, ◌%◌, ◌^◌, true, false, List, [], ◌∷◌, length, get_or, Some, refl, ap, sym, ◌∙◌, inl, inr, map}
use Rattle.sctp_model.proofs.Names.{arith, ◌⊎◌, if◌then◌else◌, ◌==◌, ◌&&◌, not, nat_le, nat_tests, eq-or-lt_of_le, change_at, after_read, without_first}
use Rattle.sctp_model.proofs.Names.{chunk_at, set_of, complete_set_of, is_unassembled, ordered_sets, complete_sets, unassembled_chunks, kept-same, kept-skip}
use Rattle.sctp_model.proofs.Names.{map-kept-same, front-kept, FrontOf, IsFront, LinkRecord, message_at, message_of, stream_of, no_message, is_ordered_on}
use Rattle.sctp_model.proofs.Names.{index_of, ssn_of, ordered_on, slots_of, is_unordered_on, arrived_at, is_complete_message, is_held, held_on, next_of}
use Rattle.sctp_model.proofs.Names.{mark_read, IsSpan, Valid, fails, not_both, length-changed, changed-same, changed-other, changed-keeps, same16-index}
use Rattle.sctp_model.proofs.Names.{numbers_where}
use Rattle.sctp_model.specs.refinement.Holds.{reassembly_of}
use Rattle.sctp_model.specs.Messages.{fragments_of}
use Rattle.sctp_model.proofs.refinement.reading.Line
use Rattle.sctp_model.proofs.refinement.reading.Line.{on-made, on-ordered, ssn_on, line-at, index-at, next_is, next_le, next_passes}
use Rattle.sctp_model.proofs.refinement.arriving.Stays.{map-all, by_place}
use Rattle.sctp_util.proofs.Wraps
use Rattle.sctp_model.proofs.refinement.reading.Taken
use Rattle.sctp_model.proofs.refinement.reading.Taken.{held, IsDue, complete_held}

abbrev pub with_read : LinkRecord → ℕ → LinkRecord
with_read w n = record w { messages = change_at mark_read n w.messages }

-- ## What stays

pub count-read : (w : LinkRecord) (n : ℕ) → length (with_read w n).messages ≡ length w.messages
count-read w n = length-changed mark_read n w.messages

pub on-read : (w : LinkRecord) (n s k : ℕ) → is_ordered_on (with_read w n) s k ≡ is_ordered_on w s k
on-read w n s k = changed-keeps mark_read (λ m. (m.stream == s) && (m.ordered && not m.expired)) (λ m. refl) n k w.messages no_message

pub ordered-read : (w : LinkRecord) (n k : ℕ) → (message_at (with_read w n) k).ordered ≡ (message_at w k).ordered
ordered-read w n k = changed-keeps mark_read (λ m. m.ordered) (λ m. refl) n k w.messages no_message

pub stream-read : (w : LinkRecord) (n k : ℕ) → (message_at (with_read w n) k).stream ≡ (message_at w k).stream
stream-read w n k = changed-keeps mark_read (λ m. m.stream) (λ m. refl) n k w.messages no_message

pub index-read : (w : LinkRecord) (n k : ℕ) → index_of (with_read w n) k ≡ index_of w k
index-read w n k = grind (arith, nat_tests, stream-read, kept-same, on-read)

pub line-read : (w : LinkRecord) (n s : ℕ) → ordered_on (with_read w n) s ≡ ordered_on w s
line-read w n s = cc (count-read w n, kept-same (is_ordered_on (with_read w n) s) (is_ordered_on w s) 0 (length w.messages) (λ k a b. on-read w n s k))

pub ssn-read : (w : LinkRecord) (n k : ℕ) → ssn_of (with_read w n) k ≡ ssn_of w k
ssn-read w n k = rw (index-read w n k, ordered-read w n k, changed-keeps mark_read (λ m. m.before) (λ m. refl) n k w.messages no_message) refl

pub fragments-read : (w : LinkRecord) (n k : ℕ) → fragments_of (with_read w n) k ≡ fragments_of w k
fragments-read w n k = rw (changed-keeps mark_read (λ m. m.bytes) (λ m. refl) n k w.messages no_message) refl

pub ppi-read : (w : LinkRecord) (n k : ℕ) → (message_at (with_read w n) k).ppi ≡ (message_at w k).ppi
ppi-read w n k = changed-keeps mark_read (λ m. m.ppi) (λ m. refl) n k w.messages no_message

pub chunk-read : (w : LinkRecord) (n p : ℕ) → chunk_at (with_read w n) p ≡ chunk_at w p
chunk-read w n p = grind (arith, nat_tests, ssn-read, fragments-read, stream-read, ordered-read, ppi-read)

pub set-read : (w : LinkRecord) (n k : ℕ) → set_of (with_read w n) k ≡ set_of w k
set-read w n k = grind (arith, nat_tests, ssn-read, ppi-read, map-all, chunk-read)

pub message-other : (w : LinkRecord) (n k : ℕ) → (k ≡ n → ⊥) → message_at (with_read w n) k ≡ message_at w k
message-other w n k ne = changed-other mark_read n k w.messages no_message ne

pub held-read : (w : LinkRecord) (n s k : ℕ) → (k ≡ n → ⊥) → is_held (with_read w n) s k ≡ is_held w s k
held-read w n s k ne = rw (index-read w n k, message-other w n k ne) refl

pub read-now : (w : LinkRecord) (n : ℕ) → n < length w.messages → (message_at (with_read w n) n).read ≡ true
read-now w n lt = ap (λ m. m.read) (changed-same mark_read n w.messages no_message lt)

pub held-now : (w : LinkRecord) (n s : ℕ) → n < length w.messages → is_held (with_read w n) s n ≡ false
held-now w n s lt = fails (is_held (with_read w n) s n) (λ e. not_both (sym (held (with_read w n) s n e).unread ∙ read-now w n lt))

pub complete_set-read : (w : LinkRecord) (n k : ℕ) → complete_set_of (with_read w n) k ≡ complete_set_of w k
complete_set-read w n k = rw (ppi-read w n k, map-all (chunk_at (with_read w n)) (chunk_at w) (slots_of w k) (λ p. chunk-read w n p)) refl

pub complete_sets-read : (w : LinkRecord) (n s : ℕ) → complete_sets (with_read w n) s ≡ complete_sets w s
complete_sets-read w n s = map-all (complete_set_of (with_read w n)) (complete_set_of w) (stream_of w s).complete (λ k. complete_set-read w n k)

-- the unassembled chunks, where an ordered message was read
pub unassembled-read : (w : LinkRecord) (n s : ℕ) → (message_at w n).ordered ≡ true → unassembled_chunks (with_read w n) s ≡ unassembled_chunks w s
unassembled-read w n s on =
    map-kept-same (chunk_at (with_read w n)) (chunk_at w) (is_unassembled (with_read w n) s) (is_unassembled w s) 0 (length w.slots)
    (λ k a b. ap (λ x. arrived_at w k && (nat_le w.skipped k && x)) (by_message (message_of w k)))
    (λ k a b e. chunk-read w n k)
  where
    by_message : (m : ℕ)
        → (is_unordered_on (with_read w n) s m && not (is_complete_message (with_read w n) m)) ≡ (is_unordered_on w s m && not (is_complete_message w m))
    by_message m = grind (arith, nat_tests, message-other, ordered-read)

-- ## What changes

module _ (w : LinkRecord) (s n : ℕ) (valid : Valid w) (sp : IsSpan w s []) (d : IsDue w s n) where
  n-held : is_held w s n ≡ true
  n-held = Taken.is-held w s n (complete_held w s n valid d.on d.unread d.complete)

  n-made : n < length w.messages
  n-made = on-made w s n d.on

  -- the front set leaves
  sets-left : (rest : List ℕ) → held_on w s ≡ n ∷ rest → ordered_sets (with_read w n) s ≡ without_first (ordered_sets w s)
  sets-left rest e =
      let f = front (held_on w s) e (front-kept (is_held w s) 0 (length w.messages)) in
      let v = with_read w n in
      map-kept-same (set_of v) (set_of w) (is_held v s) (is_held v s) 0 (length v.messages) (λ k a b. refl) (λ k a b h. set-read w n k)
      ∙ ap (λ c. map (set_of w) (numbers_where (is_held v s) 0 c)) (count-read w n)
      ∙ ap (map (set_of w))
      (kept-skip (is_held v s) 0 (length w.messages) (n + 1) (omega arith) (omega (arith, n-made)) (λ j a b. upto f j b (eq-or-lt_of_le (below j b)))
      ∙ kept-same (is_held v s) (is_held w s) (n + 1) (0 + length w.messages - (n + 1)) (λ j a b. held-read w n s j (λ z. omega arith)) ∙ sym f.others)
      ∙ ap (λ l. without_first (map (set_of w) l)) (sym e)
    where
      front : (l : List ℕ) → l ≡ n ∷ rest → FrontOf (is_held w s) 0 (length w.messages) l → IsFront (is_held w s) 0 (length w.messages) n rest
      front l e f = rw e at f

      below : (j : ℕ) → j < n + 1 → j ≤ n
      below j lt = omega arith

      upto : IsFront (is_held w s) 0 (length w.messages) n rest → (j : ℕ) → j < n + 1 → (j ≡ n) ⊎ (j < n) → is_held (with_read w n) s j ≡ false
      upto f j b (inl z) = ap (is_held (with_read w n) s) z ∙ held-now w n s n-made
      upto f j b (inr l) = held-read w n s j (λ z. omega arith) ∙ f.first j (omega arith) l

  stays-read : (k : ℕ) → (message_at w k).read ≡ true → (message_at (with_read w n) k).read ≡ true
  stays-read k e = by_place {C = (message_at (with_read w n) k).read ≡ true} k n (λ ne. rw (message-other w n k ne) e) (λ z. rw z (read-now w n n-made))

  stays-unread : (k : ℕ) → (k ≡ n → ⊥) → (message_at w k).read ≡ false → (message_at (with_read w n) k).read ≡ false
  stays-unread k ne e = rw (message-other w n k ne) e

  -- the message at a place of the line, in the new record
  at-line : (j : ℕ) → get_or (ordered_on (with_read w n) s) j 0 ≡ get_or (ordered_on w s) j 0
  at-line j = ap (λ l. get_or l j 0) (line-read w n s)

  pub next-moves : index_of w n ≡ next_of w s → next_of (with_read w n) s ≡ next_of w s + 1
  next-moves e =
      let line = ordered_on w s in
      let long : index_of w n < length line = Line.index-short w s n d.on in
      next_is (with_read w n) s (next_of w s + 1) (omega arith) (omega (arith, long, ap length (line-read w n s)))
      (λ j low high. ap (λ m. (message_at (with_read w n) m).read) (at-line j) ∙ pass j low (eq-or-lt_of_le (upto j high)))
      (λ lt. ap (λ m. (message_at (with_read w n) m).read) (at-line (next_of w s + 1)) ∙ stop (omega (arith, lt, ap length (line-read w n s))))
    where
      upto : (j : ℕ) → j < next_of w s + 1 → j ≤ next_of w s
      upto j lt = omega arith

      pass : (j : ℕ) → (stream_of w s).named ≤ j → (j ≡ next_of w s) ⊎ (j < next_of w s)
          → (message_at (with_read w n) (get_or (ordered_on w s) j 0)).read ≡ true
      pass j low b = grind (arith, nat_tests, line-at, read-now, n-made, stays-read, next_passes)

      stop : next_of w s + 1 < length (ordered_on w s) → (message_at (with_read w n) (get_or (ordered_on w s) (next_of w s + 1) 0)).read ≡ false
      stop lt = grind (arith, nat_tests, index-at, stays-unread)

  pub next-stays : (index_of w n ≡ next_of w s → ⊥) → next_of (with_read w n) s ≡ next_of w s
  next-stays ne =
      next_is (with_read w n) s (next_of w s) (omega arith) (omega (arith, next_le w s (valid.named_made s), ap length (line-read w n s)))
      (λ j low high. ap (λ m. (message_at (with_read w n) m).read) (at-line j) ∙ stays-read (get_or (ordered_on w s) j 0) (next_passes w s j low high))
      (λ lt. ap (λ m. (message_at (with_read w n) m).read) (at-line (next_of w s)) ∙ stop (omega (arith, lt, ap length (line-read w n s))))
    where
      stop : next_of w s < length (ordered_on w s) → (message_at (with_read w n) (get_or (ordered_on w s) (next_of w s) 0)).read ≡ false
      stop lt = grind (arith, nat_tests, index-at, stays-unread)

  next-read : next_of (with_read w n) s % 2 ^ 16 ≡ (if ssn_of w n == next_of w s % 2 ^ 16 then (next_of w s % 2 ^ 16 + 1) % 2 ^ 16 else next_of w s % 2 ^ 16)
  next-read = grind (arith, nat_tests, n-made, n-held, ssn_on, same16-index, next-moves, Wraps.next16, next-stays)

  pub ordered-read_off : (rest : List ℕ) → held_on w s ≡ n ∷ rest → reassembly_of (with_read w n) s ≡ after_read (Some (set_of w n)) (reassembly_of w s)
  ordered-read_off rest e =
      rw (next-read, sets-left rest e, complete_sets-read w n s, unassembled-read w n s (on-ordered w s n d.on)) refl

  -- ## The other streams are as they were

  pub next-other : (t : ℕ) → (t ≡ s → ⊥) → next_of (with_read w n) t ≡ next_of w t
  next-other t ne =
      next_is (with_read w n) t (next_of w t) (omega arith) (omega (arith, next_le w t (valid.named_made t), ap length (line-read w n t)))
      (λ j low high. ap (λ m. (message_at (with_read w n) m).read) (ap (λ l. get_or l j 0) (line-read w n t))
      ∙ stays-read (get_or (ordered_on w t) j 0) (next_passes w t j low high))
      (λ lt. ap (λ m. (message_at (with_read w n) m).read) (ap (λ l. get_or l (next_of w t) 0) (line-read w n t))
      ∙ stop (omega (arith, lt, ap length (line-read w n t))))
    where
      stop : next_of w t < length (ordered_on w t) → (message_at (with_read w n) (get_or (ordered_on w t) (next_of w t) 0)).read ≡ false
      stop lt =
          let m = get_or (ordered_on w t) (next_of w t) 0 in
          let at = index-at w t (next_of w t) lt in
          stays-unread m (λ z. ne (sym (Line.on-stream w t m at.0) ∙ ap (λ k. (message_at w k).stream) z ∙ Line.on-stream w s n d.on))
          (fails (message_at w m).read (λ r. absurd (omega (arith, at.1, valid.read_past t m at.0 r))))

  pub read-elsewhere : (t : ℕ) → (t ≡ s → ⊥) → reassembly_of (with_read w n) t ≡ reassembly_of w t
  read-elsewhere t ne = rw (ap (λ x. x % 2 ^ 16) (next-other t ne), sets-same, complete_sets-read w n t, unassembled-read w n t (on-ordered w s n d.on)) refl
    where
      off : (k : ℕ) → is_ordered_on w t k ≡ true → k ≡ n → ⊥
      off k on z = ne (sym (Line.on-stream w t k on) ∙ ap (λ m. (message_at w m).stream) z ∙ Line.on-stream w s n d.on)

      held-same : (k : ℕ) → is_held (with_read w n) t k ≡ is_held w t k
      held-same k = by_place {C = is_held (with_read w n) t k ≡ is_held w t k} k n (λ x. held-read w n t k x)
          (λ z. ap (is_held (with_read w n) t) z ∙ held-now w n t n-made ∙ sym (fails (is_held w t k) (λ h. off k (held w t k h).on z)))

      sets-same : ordered_sets (with_read w n) t ≡ ordered_sets w t
      sets-same =
          map-kept-same (set_of (with_read w n)) (set_of w) (is_held (with_read w n) t) (is_held w t) 0 (length (with_read w n).messages) (λ k a b. held-same k)
          (λ k a b h. set-read w n k) ∙ ap (λ c. map (set_of w) (numbers_where (is_held w t) 0 c)) (count-read w n)
