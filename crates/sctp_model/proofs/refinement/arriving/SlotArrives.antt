-- A fragment arrives: what the reassembly queues and the filter hold then, in the words of the queues.
use Rattle.sctp_model.proofs.Names.{◌≡◌, ℕ, ◌+◌, ◌<◌, ◌≤◌, Bool, true, false, List, [], ◌∷◌, ◌++◌, length, map, take, drop, Some, refl, ap, sym, ◌∙◌, arith}
use Rattle.sctp_model.proofs.Names.{◌==◌, ◌&&◌, not, nat_tests, map-append, insert_before, advance_over, comes_before, front-kept, fails, not_both, and}
use Rattle.sctp_model.proofs.Names.{ChunkPayloadData, chunk_before, held_after_ordered_push, set_of_run, BecomesComplete, LinkRecord, StreamRecord, message_at}
use Rattle.sctp_model.proofs.Names.{slot_at, message_of, stream_at, is_ordered_on, is_unordered_on, index_of, has_fragment, slots_of, tsn_of, arrived_at}
use Rattle.sctp_model.proofs.Names.{cumulative, is_new, stream_changed, with_complete, becomes_complete, receive_slot, chunk_at, complete_set_of, filter_of}
use Rattle.sctp_model.proofs.Names.{unassembled_chunks, seen_of, IsSpan, Valid, ValidUnassembled}
use Rattle.sctp_model.specs.refinement.Holds.{reassembly_of}
use Rattle.sctp_model.proofs.refinement.arriving.Arrival
use Rattle.sctp_model.proofs.refinement.arriving.Arrival.{with_arrived}
use Rattle.sctp_model.proofs.refinement.arriving.Filter
use Rattle.sctp_model.proofs.refinement.arriving.Ordered
use Rattle.sctp_model.proofs.refinement.arriving.Ordered.{Arrives}
use Rattle.sctp_model.proofs.refinement.arriving.Unordered
use Rattle.sctp_model.proofs.refinement.arriving.Unordered.{ArrivesUnassembled}
use Rattle.sctp_model.proofs.refinement.arriving.UnorderedStep
use Rattle.sctp_model.proofs.refinement.reading.Keeps
use Rattle.sctp_model.proofs.refinement.skipping.SkipStep
use Rattle.sctp_model.proofs.refinement.arriving.Stays
use Rattle.sctp_model.proofs.refinement.reading.Line

-- ## Not new

-- only the duplicates grow
pub repeated : (w : LinkRecord) (p : ℕ) → is_new w p ≡ false → receive_slot w p ≡ record w { duplicates = w.duplicates ++ p ∷ [] }
repeated w p e = rw e refl

pub repeated-filter : (w : LinkRecord) (p : ℕ) → is_new w p ≡ false
    → filter_of (receive_slot w p) ≡ record (filter_of w) { duplicates = (filter_of w).duplicates ++ tsn_of w p ∷ [] }
repeated-filter w p e = rw (e, map-append (tsn_of w) w.duplicates (p ∷ [])) refl

pub repeated-reassembly : (w : LinkRecord) (p t : ℕ) → is_new w p ≡ false → reassembly_of (receive_slot w p) t ≡ reassembly_of w t
repeated-reassembly w p t e = rw e refl

-- ## New

-- what an arrival of a slot of stream s knows
pub record Enters (w : LinkRecord) (s p : ℕ) : Type 0 where
  pub made : p < length w.slots
  pub new : is_new w p ≡ true
  pub fragment : (slot_at w p).is_terminal_chunk ≡ false
  pub stream : (message_at w (message_of w p)).stream ≡ s
  pub alive : (message_at w (message_of w p)).expired ≡ false

module _ (w : LinkRecord) (p : ℕ) (new : is_new w p ≡ true) where
  pub fresh : cumulative w ≤ p
  fresh = grind (arith, nat_tests)

  pub not-arrived : arrived_at w p ≡ false
  not-arrived = grind (arith, nat_tests)

module _ (w : LinkRecord) (s p : ℕ) (a : Enters w s p) where
  abbrev n : ℕ
  n = message_of w p

  hits : ((message_at w n).stream == s) ≡ true
  hits = let e = a.stream in grind (arith, nat_tests)

  pub ordered-on : (message_at w n).ordered ≡ true → is_ordered_on w s n ≡ true
  ordered-on e = and ((message_at w n).stream == s)
      ((message_at w n).ordered && not (message_at w n).expired) hits (and (message_at w n).ordered (not (message_at w n).expired) e (ap not a.alive))

  pub unordered-on : (message_at w n).ordered ≡ false → is_unordered_on w s n ≡ true
  unordered-on e = and ((message_at w n).stream == s) (not (message_at w n).ordered) hits (ap not e)

  pub arrives : (message_at w n).ordered ≡ true → IsSpan w s (index_of w n ∷ []) → Arrives w s p
  arrives e sp = record { made = a.made; new = not-arrived w p a.new; fresh = fresh w p a.new; fragment = a.fragment; on = ordered-on e; near = sp }

  pub arrives-unassembled : (message_at w n).ordered ≡ false → ArrivesUnassembled w s p
  arrives-unassembled e = record { made = a.made; new = not-arrived w p a.new; fresh = fresh w p a.new; fragment = a.fragment; on = unordered-on e }

  -- of an ordered message: the queue of its stream holds it where its push puts it
  pub ordered-slot : Valid w → (message_at w n).ordered ≡ true → IsSpan w s (index_of w n ∷ [])
      → reassembly_of (receive_slot w p) s ≡ held_after_ordered_push (chunk_at w p) (reassembly_of w s)
  ordered-slot valid e sp = ap (λ v. reassembly_of v s) (Ordered.ordered-step w s p valid (arrives e sp)) ∙ Ordered.ordered-arrived w s p valid (arrives e sp)

-- ## A complete unordered message

complete-run : (w : LinkRecord) (n p : ℕ) → has_fragment w n p ≡ true → p < length w.slots → set_of_run (map (chunk_at w) (slots_of w n)) ≡ complete_set_of w n
complete-run w n p has lt = grind (arith, nat_tests, front-kept, Arrival.of_message)

module _ (w : LinkRecord) (s p : ℕ) (r : StreamRecord) (valid : Valid w) (more : ValidUnassembled w) (a : Enters w s p)
    (kind : (message_at w (message_of w p)).ordered ≡ false) (open' : stream_at w s ≡ Some r) where
  abbrev v : LinkRecord
  v = with_arrived w p

  abbrev xs : List ChunkPayloadData
  xs = insert_before chunk_before (chunk_at w p) (unassembled_chunks w s)

  unassembled : ArrivesUnassembled w s p
  unassembled = arrives-unassembled w s p a kind

  off : is_ordered_on w s (message_of w p) ≡ false
  off = fails (is_ordered_on w s (message_of w p)) (λ e. not_both (sym kind ∙ Line.on-ordered w s (message_of w p) e))

  by_complete : (b : Bool) → becomes_complete v (message_of w p) ≡ b → BecomesComplete xs (reassembly_of w s) (reassembly_of (receive_slot w p) s) b
  by_complete true e =
      let n = message_of w p in
      let t = UnorderedStep.unordered-arrived w s p r valid more unassembled open' e in
      let u = stream_changed v s (with_complete n) in
      let same = UnorderedStep.ordered-same w s p r valid more unassembled open' e s in
      let put = Unordered.unassembled-put w s p valid more unassembled in
      let set : complete_set_of w n ≡ set_of_run (take t.count (drop t.first xs)) =
      sym (complete-run w n p (Arrival.has-fragment w p a.fragment) a.made) ∙ ap set_of_run t.taken
      ∙ ap (λ l. set_of_run (take t.count (drop t.first l))) put in
      let moved : reassembly_of u s ≡ record (reassembly_of w s) {
        unassembled = take t.first xs ++ drop (t.first + t.count) xs;
        unordered = (reassembly_of w s).unordered ++ set_of_run (take t.count (drop t.first xs)) ∷ [];
      } =
      SkipStep.parts same.0 same.1 (t.moved ∙ ap (λ x. (reassembly_of w s).unordered ++ x ∷ []) set)
      (t.rest ∙ ap (λ l. take t.first l ++ drop (t.first + t.count) l) put) in
      record {
        first = t.first;
        count = t.count;
        run = rw (sym put) t.run;
        moved = ap (λ x. reassembly_of x s) (UnorderedStep.step w s p r valid more unassembled open' e) ∙ moved;
      }
  by_complete false e =
      let k = UnorderedStep.unordered-kept w s p valid more unassembled e in
      let plain : reassembly_of v s ≡ record (reassembly_of w s) { unassembled = xs } =
      SkipStep.parts refl (Stays.ordered_sets-elsewhere w p s off) (Stays.complete_sets-arrived w p s) k.1 in
      (k.2, ap (λ x. reassembly_of x s) k.0 ∙ plain)

  -- the queue of its stream holds it unassembled, or the complete message that it completes
  pub unordered-slot : BecomesComplete xs (reassembly_of w s) (reassembly_of (receive_slot w p) s) (becomes_complete v (message_of w p))
  unordered-slot = by_complete (becomes_complete v (message_of w p)) refl

-- ## The other streams, and the filter

pub slot-elsewhere : (w : LinkRecord) (s p t : ℕ) → Valid w → Enters w s p → IsSpan w s (index_of w (message_of w p) ∷ []) → (t ≡ s → ⊥)
    → reassembly_of (receive_slot w p) t ≡ reassembly_of w t
slot-elsewhere w s p t valid a sp ne =
    grind (arith, nat_tests, Ordered.ordered-step, arrives, Ordered.ordered-elsewhere, Keeps.unordered-elsewhere, arrives-unassembled)

-- what an arrival leaves of the record but for the slot and the stream's complete messages
noted : (w : LinkRecord) (p : ℕ) → is_new w p ≡ true
    → (seen_of (receive_slot w p) ≡ seen_of (with_arrived w p)) × ((receive_slot w p).duplicates ≡ w.duplicates)
noted w p e = grind (arith, nat_tests)

pub filter-slot : (w : LinkRecord) (p : ℕ) → Valid w → p < length w.slots → is_new w p ≡ true
    → seen_of (receive_slot w p) ≡ advance_over (seen_of w).cum (insert_before comes_before (tsn_of w p) (seen_of w).held)
filter-slot w p valid made e = cc ((noted w p e).0, Filter.filter-arrived w p valid.skipped_made valid.few made (fresh w p e) (not-arrived w p e))

pub duplicates-slot : (w : LinkRecord) (p : ℕ) → is_new w p ≡ true → (filter_of (receive_slot w p)).duplicates ≡ (filter_of w).duplicates
duplicates-slot w p e = grind (arith, nat_tests)
