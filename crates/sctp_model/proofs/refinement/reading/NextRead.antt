-- A read: what the queue hands out, and what it holds then, are what the record says.
use Rattle.sctp_model.proofs.Names.{◌≡◌, ℕ, ◌<◌, true, false, List, [], ◌∷◌, length, map, Option, Some, None, refl, ap, sym, ◌∙◌, arith, zero, suc, ◌+◌, ◌-◌}
use Rattle.sctp_model.proofs.Names.{Bool, if◌then◌else◌, ◌==◌, ◌&&◌, not, nat_le, nat_lt, list_any, filter, numbers_where, first_of, or_else, map-kept-same}
use Rattle.sctp_model.proofs.Names.{kept-same, fails, after_read, message_read, LinkRecord, StreamRecord, message_at, message_of, stream_at, stream_of}
use Rattle.sctp_model.proofs.Names.{is_unordered_on, is_ordered_on, index_of, ordered_on, arrived_at, is_complete_message, is_unread, run_of, next_read}
use Rattle.sctp_model.proofs.Names.{next_of, read_of, after_reading, chunk_at, set_of, complete_set_of, handed_out, is_unassembled, unassembled_chunks, IsSpan}
use Rattle.sctp_model.proofs.Names.{Valid, ValidUnassembled, nat_tests}
use Rattle.sctp_reassembly.specs.reassembly_queue.ReassemblyQueue.{message_among, rest_among, rest_read}
use Rattle.sctp_model.specs.refinement.Holds.{reassembly_of}
use Rattle.sctp_model.proofs.refinement.arriving.Stays.{by_place}
use Rattle.sctp_model.proofs.refinement.reading.Taken.{is_due, map_option, front-gives, due-front, complete-ordered}
use Rattle.sctp_model.proofs.refinement.reading.Reading.{with_read}
use Rattle.sctp_model.proofs.refinement.arriving.Unordered.{unordered-of, waits-on}
use Rattle.sctp_model.proofs.receiver.Known.{any-here}
use Rattle.sctp_model.proofs.refinement.reading.Line.{index_on}
use Rattle.sctp_model.proofs.receiver.Due.{wanted, ReadComplete, run-first, take-kept}
use Rattle.sctp_model.specs.Changes
use Rattle.sctp_model.proofs.refinement.reading.Line
use Rattle.sctp_model.proofs.refinement.reading.Reading
use Rattle.sctp_model.proofs.refinement.reading.Keeps
use Rattle.sctp_model.proofs.refinement.skipping.SkipStep
use Rattle.sctp_model.proofs.refinement.reading.UnorderedRead

-- ## The next message of the run is the first one that is due

-- the definition's next ordered message
pub run-due : (w : LinkRecord) (s : ℕ) → Valid w → first_of (filter (is_unread w) (run_of w s)) ≡ first_of (numbers_where (is_due w s) 0 (length w.messages))
run-due w s valid =
    let line = ordered_on w s in
    let next = next_of w s in
    cc (
      run-first (is_complete_message w) (read_at w)
          (stream_of w s).named line (all (is_ordered_on w s) 0 (length w.messages) (λ k e r. complete-ordered w s k e ∙ valid.read_complete s k e r)),
      take-kept (is_ordered_on w s) (wanted (is_complete_message w) (read_at w)) (index_of w) 0 (length w.messages) (next + 1) 0 (next + 1) (omega arith)
          (λ k a b e. index_on w s k e ∙ place k),
      kept-same (λ k. is_ordered_on w s k && (wanted (is_complete_message w) (read_at w) k && nat_lt (index_of w k) (next + 1)))
          (is_due w s) 0 (length w.messages) (λ k a b. same (is_ordered_on w s k) (not (read_at w k)) (is_complete_message w k) (index_of w k) next),
    )
  where
    read_at : LinkRecord → ℕ → Bool
    read_at w k = (message_at w k).read

    place : (k : ℕ) → length (numbers_where (is_ordered_on w s) 0 k) ≡ 0 + length (numbers_where (is_ordered_on w s) 0 (k - 0))
    place k = let e : k - 0 ≡ k = omega arith in rw e (omega arith)

    all : (p : ℕ → Bool) (from count : ℕ) → ((k : ℕ) → p k ≡ true → (message_at w k).read ≡ true → is_complete_message w k ≡ true)
        → ReadComplete (is_complete_message w) (λ k. (message_at w k).read) (numbers_where p from count)
    all p from zero h = tt
    all p from (suc count) h = grind (arith, nat_tests, all p (from + 1) count h)

    same : (a b c : Bool) (i n : ℕ) → (a && ((b && c) && nat_lt i (n + 1))) ≡ (a && (b && (c && nat_le i n)))
    same o b c i n = grind (arith, nat_tests)

-- ## The queue after a read

-- the unassembled fragments of a stream that message n is no unordered one of
unassembled-other : (w : LinkRecord) (n t : ℕ) → is_unordered_on w t n ≡ false → unassembled_chunks (with_read w n) t ≡ unassembled_chunks w t
unassembled-other w n t off =
    map-kept-same (chunk_at (with_read w n)) (chunk_at w) (is_unassembled (with_read w n) t) (is_unassembled w t) 0 (length w.slots)
    (λ k a b. ap (λ x. arrived_at w k && (nat_le w.skipped k && x)) (by_message (message_of w k)))
    (λ k a b e. Reading.chunk-read w n k)
  where
    still : is_unordered_on (with_read w n) t n ≡ false
    still = rw (Reading.stream-read w n n, Reading.ordered-read w n n) off

    by_message : (m : ℕ)
        → (is_unordered_on (with_read w n) t m && not (is_complete_message (with_read w n) m)) ≡ (is_unordered_on w t m && not (is_complete_message w m))
    by_message m = by_place
        {C = (is_unordered_on (with_read w n) t m && not (is_complete_message (with_read w n) m)) ≡ (is_unordered_on w t m && not (is_complete_message w m))} m
        n
        (λ ne. rw (Reading.message-other w n m ne) refl)
        (λ e. ap (λ j. is_unordered_on (with_read w n) t j && not (is_complete_message (with_read w n) j)) e
        ∙ ap (λ b. b && not (is_complete_message (with_read w n) n)) still
        ∙ sym (ap (λ j. is_unordered_on w t j && not (is_complete_message w j)) e ∙ ap (λ b. b && not (is_complete_message w n)) off))

module _ (w : LinkRecord) (s : ℕ) (r : StreamRecord) (valid : Valid w) (more : ValidUnassembled w) (sp : IsSpan w s []) (open' : stream_at w s ≡ Some r) where
  abbrev due : Option ℕ
  due = first_of (numbers_where (is_due w s) 0 (length w.messages))

  next-due : first_of (filter (is_unread w) (run_of w s)) ≡ due
  next-due = run-due w s valid

  abbrev next_with : List ℕ → Option ℕ
  next_with l = or_else (first_of l) (first_of (filter (is_unread w) (run_of w s)))

  handed-ordered : (n : ℕ) → (message_at w n).ordered ≡ true → set_of w n ≡ handed_out w n
  handed-ordered n e = sym (ap (λ b. if b then set_of w n else complete_set_of w n) e)

  handed-complete : (n : ℕ) → (message_at w n).ordered ≡ false → complete_set_of w n ≡ handed_out w n
  handed-complete n e = sym (ap (λ b. if b then set_of w n else complete_set_of w n) e)

  given : (o : Option ℕ) → due ≡ o → map_option (set_of w) o ≡ map_option (handed_out w) o
  given None e = refl
  given (Some n) e = ap (λ x. Some x) (handed-ordered n (Line.on-ordered w s n (due-front w s valid sp n e).0.on))

  of-front : (n : ℕ) (rest : List ℕ) → (stream_of w s).complete ≡ n ∷ rest → (is_unordered_on w s n ≡ true) × (n < length w.messages)
  of-front n rest e = let i = more.waits s n (ap (list_any (λ k. k == n)) e ∙ any-here n rest) in (waits-on w s n i, i.made)

  message-with : (l : List ℕ) → (stream_of w s).complete ≡ l
      → message_among (map (complete_set_of w) l) (reassembly_of w s) ≡ map_option (handed_out w) (next_with l)
  message-with [] e = front-gives w s valid sp ∙ given due refl ∙ ap (map_option (handed_out w)) (sym next-due)
  message-with (n ∷ rest) e = ap (λ x. Some x) (handed-complete n (unordered-of w s n (of-front n rest e).0).1)

  -- the queue hands out the message that is due
  pub message-is : message_read (reassembly_of w s) ≡ map_option (handed_out w) (next_read w s)
  message-is = message-with (stream_of w s).complete refl

  after-ordered : (o : Option ℕ) → due ≡ o → (stream_of w s).complete ≡ []
      → after_read (map_option (set_of w) o) (reassembly_of w s) ≡ reassembly_of (read_of w s o) s
  after-ordered b e empty = grind (arith, nat_tests, due-front, Keeps.ordered-read_of, Reading.ordered-read_off)

  rest-with : (l : List ℕ) → (stream_of w s).complete ≡ l
      → rest_among (map (complete_set_of w) l) (reassembly_of w s) ≡ reassembly_of (read_of w s (next_with l)) s
  rest-with [] e = cc (front-gives w s valid sp, after-ordered due refl e, next-due)
  rest-with (n ∷ rest) e =
      let f = of-front n rest e in
      cc (e, UnorderedRead.unordered-read_off w s n rest r valid f.0 f.1 open' e)

  -- and holds then what the record says
  pub rest-is : rest_read (reassembly_of w s) ≡ reassembly_of (after_reading w s) s
  rest-is = rest-with (stream_of w s).complete refl

  other-ordered : (t : ℕ) → (t ≡ s → ⊥) → (o : Option ℕ) → due ≡ o → (stream_of w s).complete ≡ [] → reassembly_of (read_of w s o) t ≡ reassembly_of w t
  other-ordered t ne b e empty = grind (arith, nat_tests, due-front, Keeps.ordered-read_of, Reading.read-elsewhere)

  other-with : (t : ℕ) → (t ≡ s → ⊥) → (l : List ℕ) → (stream_of w s).complete ≡ l → reassembly_of (read_of w s (next_with l)) t ≡ reassembly_of w t
  other-with t ne [] e = ap (λ o. reassembly_of (read_of w s o) t) next-due ∙ other-ordered t ne due refl e
  other-with t ne (n ∷ rest) e =
      let f = of-front n rest e in
      let u = unordered-of w s n f.0 in
      let v = with_read w n in
      let g = Changes.without_first in
      let off : is_unordered_on w t n ≡ false = fails (is_unordered_on w t n) (λ h. ne (sym (unordered-of w t n h).0 ∙ u.0)) in
      let plain : reassembly_of v t ≡ reassembly_of w t = SkipStep.parts (UnorderedRead.next-read_unordered w n valid u.1 t)
      (UnorderedRead.sets-read_unordered w n valid u.1 t) (Reading.complete_sets-read w n t) (unassembled-other w n t off) in
      Keeps.restreamed v (Changes.stream_changed v s g).streams t (Keeps.named-changed v s g (λ r. refl) (λ r. refl))
      (Keeps.complete-other v s g (λ r. refl) (λ r. refl) t ne) ∙ plain

  -- the other streams' queues are as they were
  pub read-others : (t : ℕ) → (t ≡ s → ⊥) → reassembly_of (after_reading w s) t ≡ reassembly_of w t
  read-others t ne = other-with t ne (stream_of w s).complete refl
