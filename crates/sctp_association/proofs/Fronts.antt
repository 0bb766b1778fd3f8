-- Where no message becomes complete, none comes to be read.
use Rattle.std.proofs.Common.{◌≡◌, ℕ, Bool, true, false, List, [], ◌∷◌, Option, Some, None, refl, ap, sym, ◌∙◌}
use Rattle.std.proofs.lemmas.Bool.{false≢true}
use Rattle.std.specs.Prelude.{is_some, not, ◌&&◌, ◌||◌, if◌then◌else◌}
use Rattle.std.specs.List.{list_any}
use Rattle.sctp_data.specs.ChunkSet.{ChunkSet}
use Rattle.sctp_data.specs.declared.chunk.chunk_payload_data.ChunkPayloadData.{ChunkPayloadData}
use Rattle.sctp_reassembly.specs.reassembly_queue.Fragments.{chunks_of_ssn, has_ssn, is_complete, is_complete_after, new_set, set_before, sets_with}
use Rattle.sctp_reassembly.specs.reassembly_queue.Fragments.{with_chunk}
use Rattle.sctp_reassembly.specs.reassembly_queue.ReassemblyQueue.{Reassembly, ReassemblyState, front_readable, held_after_ordered_push}
use Rattle.sctp_reassembly.specs.reassembly_queue.ReassemblyQueue.{after_read, is_complete_with, message_among, message_read, rest_read}
use Rattle.sctp_receiver.specs.Inbound.{Pushes, PushesAs}
use Rattle.sctp_serial.specs.DataChunks.{chunk_before, has_tsn}
use Rattle.sctp_util.specs.Lists.{change_first, insert_before}
use Rattle.sctp_util.specs.Serial.{at_or_before16, comes_before16}

-- ## An ordered fragment comes

-- a set that is not complete is not read
not-front : (next : ℕ) (s : ChunkSet) (ss : List ChunkSet) → is_complete s.chunks ≡ false → is_some (front_readable next (s ∷ ss)) ≡ true → ⊥
not-front next s ss e h = false≢true (sym (ap (λ b. is_some (if b && at_or_before16 s.ssn next then Some s else None)) e) ∙ h)

none-there : (ssn : ℕ) (ss : List ChunkSet) → list_any (has_ssn ssn) ss ≡ false → chunks_of_ssn ssn ss ≡ []
none-there ssn [] e = refl
none-there ssn (s ∷ ss) e = by (has_ssn ssn s) (none-there ssn ss) e
  where
    by : (b : Bool) → (list_any (has_ssn ssn) ss ≡ false → chunks_of_ssn ssn ss ≡ []) → b || list_any (has_ssn ssn) ss ≡ false
        → (if b then s.chunks else chunks_of_ssn ssn ss) ≡ []
    by true rest e = absurd (false≢true (sym e))
    by false rest e = rest e

module _ (x : ChunkPayloadData) (next : ℕ) where
  abbrev ssn : ℕ
  ssn = x.stream_sequence_number

  -- in its set, which is the front
  with-front : (s : ChunkSet) (ss : List ChunkSet) → is_complete_after x s.chunks ≡ false → is_some (front_readable next (with_chunk x s ∷ ss)) ≡ true
      → is_some (front_readable next (s ∷ ss)) ≡ true
  with-front s ss = by (list_any (has_tsn x.tsn) s.chunks)
    where
      put : Bool → ChunkSet
      put b = record s { chunks = if b then s.chunks else insert_before chunk_before x s.chunks }

      by : (b : Bool) → (not b && is_complete (insert_before chunk_before x s.chunks)) ≡ false → is_some (front_readable next (put b ∷ ss)) ≡ true
          → is_some (front_readable next (s ∷ ss)) ≡ true
      by true e h = h
      by false e h = absurd (not-front next (put false) ss e h)

  -- in a new set
  new-front : (s : ChunkSet) (ss : List ChunkSet) → is_complete (x ∷ []) ≡ false
      → is_some (front_readable next (insert_before set_before (new_set x) (s ∷ ss))) ≡ true → is_some (front_readable next (s ∷ ss)) ≡ true
  new-front s ss e = by (set_before (new_set x) s)
    where
      by : (b : Bool) → is_some (front_readable next (if b then new_set x ∷ s ∷ ss else s ∷ insert_before set_before (new_set x) ss)) ≡ true
          → is_some (front_readable next (s ∷ ss)) ≡ true
      by true h = absurd (not-front next (new_set x) (s ∷ ss) e h)
      by false h = h

  sets-with : (ss : List ChunkSet) → is_complete_after x (chunks_of_ssn ssn ss) ≡ false → is_some (front_readable next (sets_with x ss)) ≡ true
      → is_some (front_readable next ss) ≡ true
  sets-with [] e h = absurd (not-front next (new_set x) [] e h)
  sets-with (s ∷ ss) e h = by (has_ssn ssn s) (list_any (has_ssn ssn) ss) refl e h
    where
      by : (b a : Bool) → list_any (has_ssn ssn) ss ≡ a → is_complete_after x (if b then s.chunks else chunks_of_ssn ssn ss) ≡ false
          → is_some (front_readable next (if b || a
          then (if b then with_chunk x s ∷ ss else s ∷ change_first (has_ssn ssn) (with_chunk x) ss) else insert_before set_before (new_set x) (s ∷ ss))) ≡ true
          → is_some (front_readable next (s ∷ ss)) ≡ true
      by true a there e h = with-front s ss e h
      by false true there e h = h
      by false false there e h = new-front s ss (ap (is_complete_after x) (sym (none-there ssn ss there)) ∙ e) h

held-with : (x : ChunkPayloadData) (q : Reassembly) → is_complete_with x q ≡ false → is_some (message_read (held_after_ordered_push x q)) ≡ true
    → is_some (message_read q) ≡ true
held-with x q = by (comes_before16 x.stream_sequence_number q.next_ssn)
  where
    among : (us : List ChunkSet) → is_complete_after x (chunks_of_ssn x.stream_sequence_number q.ordered) ≡ false
        → is_some (message_among us (record q { ordered = sets_with x q.ordered })) ≡ true → is_some (message_among us q) ≡ true
    among [] e h = sets-with x q.next_ssn q.ordered e h
    among (u ∷ us) e h = refl

    by : (b : Bool) → (not b && is_complete_after x (chunks_of_ssn x.stream_sequence_number q.ordered)) ≡ false
        → is_some (message_read (if b then q else record q { ordered = sets_with x q.ordered })) ≡ true → is_some (message_read q) ≡ true
    by true e h = h
    by false e h = among q.unordered e h

-- ## A fragment comes

-- fragments that are not assembled are not read
unread : (q : Reassembly) (xs : List ChunkPayloadData) → message_read (record q { unassembled = xs }) ≡ message_read q
unread q xs = by q.unordered
  where
    by : (us : List ChunkSet) → message_among us (record q { unassembled = xs }) ≡ message_among us q
    by [] = refl
    by (u ∷ us) = refl

-- where no message became complete by it, none can be read that could not before
pub pushed : (x : ChunkPayloadData) (old new : ReassemblyState) → Pushes x false old new → is_some (message_read new.held) ≡ true
    → is_some (message_read old.held) ≡ true
pushed x old new p h = by x.unordered p
  where
    by : (b : Bool) → PushesAs b x false old new → is_some (message_read old.held) ≡ true
    by false e = held-with x old.held (sym e.1) (sym (ap (λ (q : ReassemblyState). is_some (message_read q.held)) e.0) ∙ h)
    by true e = sym (ap (λ (q : Reassembly). is_some (message_read q)) e.0.1 ∙ ap is_some (unread old.held _)) ∙ h

-- ## A message is read

-- where one can be read still, one could before
pub left_read : (q : Reassembly) → is_some (message_read (rest_read q)) ≡ true → is_some (message_read q) ≡ true
left_read q h = by q.unordered h
  where
    by : (us : List ChunkSet) → is_some (message_read (rest_read (record q { unordered = us }))) ≡ true
        → is_some (message_read (record q { unordered = us })) ≡ true
    by (u ∷ us) h = refl
    by [] h = on (front_readable q.next_ssn q.ordered) refl h
      where
        on : (o : Option ChunkSet) → front_readable q.next_ssn q.ordered ≡ o
            → is_some (message_read (after_read o (record q { unordered = [] }))) ≡ true → is_some o ≡ true
        on None e h = sym (ap is_some e) ∙ h
        on (Some s) e h = refl
