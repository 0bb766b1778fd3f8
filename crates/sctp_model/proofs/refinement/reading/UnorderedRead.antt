-- A read of an unordered message: the queues hold then what the record says.
use Rattle.sctp_model.proofs.Names.{◌≡◌, ℕ, ◌<◌, true, false, List, ◌∷◌, length, map, get_or, Some, refl, ap, sym, ◌∙◌, arith, nat_tests, numbers_where}
use Rattle.sctp_model.proofs.Names.{map-kept-same, LinkRecord, StreamRecord, message_at, stream_at, stream_of, is_ordered_on, ordered_on, is_unordered_on}
use Rattle.sctp_model.proofs.Names.{is_complete_message, is_held, next_of, read_of, Reassembly, without_first, ordered_sets, unassembled_chunks, set_of}
use Rattle.sctp_model.proofs.Names.{complete_set_of, Valid, fails, not_both}
use Rattle.sctp_model.specs.Changes
use Rattle.sctp_model.specs.refinement.Holds.{reassembly_of}
use Rattle.sctp_model.proofs.refinement.reading.Line
use Rattle.sctp_model.proofs.refinement.reading.Line.{index-at, next_is, next_le, next_passes}
use Rattle.sctp_model.proofs.refinement.arriving.Stays
use Rattle.sctp_model.proofs.refinement.arriving.Stays.{by_place}
use Rattle.sctp_model.proofs.refinement.reading.Taken.{held}
use Rattle.sctp_model.proofs.refinement.reading.Reading
use Rattle.sctp_model.proofs.refinement.reading.Reading.{with_read}
use Rattle.sctp_model.proofs.refinement.arriving.Unordered.{unordered-of}
use Rattle.sctp_model.proofs.refinement.arriving.UnorderedStep
use Rattle.sctp_model.proofs.refinement.skipping.SkipStep
use Rattle.sctp_model.proofs.refinement.reading.Keeps

abbrev pub after_read_unordered : Reassembly → Reassembly
after_read_unordered q = record q { unordered = without_first q.unordered }

module _ (w : LinkRecord) (n : ℕ) (valid : Valid w) (kind : (message_at w n).ordered ≡ false) where
  off : (t k : ℕ) → is_ordered_on w t k ≡ true → k ≡ n → ⊥
  off t k on z = not_both (sym kind ∙ ap (λ m. (message_at w m).ordered) (sym z) ∙ Line.on-ordered w t k on)

  not-held : (v : LinkRecord) → (message_at v n).ordered ≡ false → (t : ℕ) → is_held v t n ≡ false
  not-held v e t = fails (is_held v t n) (λ h. not_both (sym e ∙ Line.on-ordered v t n (held v t n h).on))

  pub sets-read_unordered : (t : ℕ) → ordered_sets (with_read w n) t ≡ ordered_sets w t
  sets-read_unordered t =
      map-kept-same (set_of (with_read w n)) (set_of w) (is_held (with_read w n) t) (is_held w t) 0 (length (with_read w n).messages)
      (λ k a b. by_place {C = is_held (with_read w n) t k ≡ is_held w t k} k n (λ x. Reading.held-read w n t k x) (λ z. ap (is_held (with_read w n) t) z
      ∙ not-held (with_read w n) (Reading.ordered-read w n n ∙ kind) t ∙ sym (ap (is_held w t) z ∙ not-held w kind t)))
      (λ k a b h. Reading.set-read w n k)
      ∙ ap (λ c. map (set_of w) (numbers_where (is_held w t) 0 c)) (Reading.count-read w n)

  pub next-read_unordered : (t : ℕ) → next_of (with_read w n) t ≡ next_of w t
  next-read_unordered t =
      next_is (with_read w n) t (next_of w t) (omega arith) (omega (arith, next_le w t (valid.named_made t), ap length (Reading.line-read w n t)))
      (λ j low high. at j (omega (arith, high, next_le w t (valid.named_made t))) ∙ next_passes w t j low high)
      (λ lt. let lt' : next_of w t < length (ordered_on w t) = omega (arith, lt, ap length (Reading.line-read w n t)) in at (next_of w t) lt' ∙ stop lt')
    where
      at : (j : ℕ) → j < length (ordered_on w t)
          → (message_at (with_read w n) (get_or (ordered_on (with_read w n) t) j 0)).read ≡ (message_at w (get_or (ordered_on w t) j 0)).read
      at j lt =
          cc (Reading.line-read w n t, Reading.message-other w n (get_or (ordered_on w t) j 0) (off t (get_or (ordered_on w t) j 0) (index-at w t j lt).0))

      stop : next_of w t < length (ordered_on w t) → (message_at w (get_or (ordered_on w t) (next_of w t) 0)).read ≡ false
      stop lt = let x = index-at w t (next_of w t) lt in Line.next_unread w t (get_or (ordered_on w t) (next_of w t) 0) x.0 x.1

module _ (w : LinkRecord) (s n : ℕ) (rest : List ℕ) (r : StreamRecord) (valid : Valid w) (on : is_unordered_on w s n ≡ true) (made : n < length w.messages)
    (open' : stream_at w s ≡ Some r) (front : (stream_of w s).complete ≡ n ∷ rest) where
  abbrev u : LinkRecord
  u = read_of w s (Some n)

  kind : (message_at w n).ordered ≡ false
  kind = (unordered-of w s n on).1

  left : (stream_of u s).complete ≡ rest
  left = grind (arith, nat_tests, Keeps.complete-here)

  named-u : (t : ℕ) → (stream_of u t).named ≡ (stream_of (with_read w n) t).named
  named-u t = Keeps.named-changed (with_read w n) s Changes.without_first (λ r. refl) (λ r. refl) t

  complete-u : (m : ℕ) → is_unordered_on w s m ≡ true → is_complete_message u m ≡ is_complete_message w m
  complete-u m e = grind (arith, nat_tests, kind, unordered-of, Reading.ordered-read, Reading.read-now, Reading.message-other, left)

  unassembled-u : unassembled_chunks u s ≡ unassembled_chunks w s
  unassembled-u = grind (arith, nat_tests, map-kept-same, Reading.chunk-read, Reading.stream-read, Reading.ordered-read, complete-u)

  pub unordered-read_off : reassembly_of u s ≡ after_read_unordered (reassembly_of w s)
  unordered-read_off =
      SkipStep.parts
      (UnorderedStep.next-streams (with_read w n) u.streams named-u s ∙ next-read_unordered w n valid kind s)
      (UnorderedStep.sets-streams (with_read w n) u.streams named-u s ∙ sets-read_unordered w n valid kind s)
      (ap (map (complete_set_of u)) left ∙ Stays.map-all (complete_set_of u) (complete_set_of w) rest (λ m. Reading.complete_set-read w n m)
      ∙ ap (λ l. without_first (map (complete_set_of w) l)) (sym front))
      unassembled-u
