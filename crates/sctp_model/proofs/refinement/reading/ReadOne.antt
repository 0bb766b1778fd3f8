-- What a read and the other events make of the index expected next, and when the queue has nothing to read.
use Rattle.sctp_model.proofs.Names.{◌≡◌, ℕ, ◌+◌, Bool, true, false, List, [], ◌∷◌, Option, Some, None, refl, ap, ◌∙◌, arith, ◌⊎◌, ◌↔◌, if◌then◌else◌, ◌==◌, not}
use Rattle.sctp_model.proofs.Names.{fold, slice_get, list_any, filter, nat_tests, first_of, or_else, negated, ChunkSet, message_read, Event, Setup, LinkRecord}
use Rattle.sctp_model.proofs.Names.{StreamRecord, Datagram, Data, stream_at, stream_of, index_of, next_of, next_read, held_on, is_unread, run_of, read_of}
use Rattle.sctp_model.proofs.Names.{after_reading, receive_slot, set_of, handed_out, History, record_of, IsRun, refusal_of, after, IsSetup, IsSpan, Valid}
use Rattle.sctp_model.proofs.Names.{ValidUnassembled}
use Rattle.sctp_model.specs.declared.event.Event.TheVariants as E
use Rattle.sctp_model.specs.declared.event.LinkRefusal.TheVariants.{StreamOpen}
use Rattle.sctp_model.specs.Messages
use Rattle.sctp_model.specs.Changes
use Rattle.sctp_model.proofs.sender.SenderRun.{consistent-run, consistent-after, unless-holds}
use Rattle.sctp_model.proofs.sender.Moves
use Rattle.sctp_model.proofs.sender.Moves.{Quiet}
use Rattle.sctp_model.proofs.receiver.Known.{still-of}
use Rattle.sctp_model.proofs.receiver.Ordered
use Rattle.sctp_model.proofs.receiver.Received.{received-run}
use Rattle.sctp_model.proofs.receiver.View
use Rattle.sctp_model.proofs.receiver.View.{view}
use Rattle.sctp_model.specs.refinement.Holds.{reassembly_of}
use Rattle.sctp_model.proofs.refinement.reading.Keeps
use Rattle.sctp_model.proofs.refinement.reading.Line
use Rattle.sctp_model.proofs.refinement.reading.NextRead
use Rattle.sctp_model.proofs.refinement.reading.Reading
use Rattle.sctp_model.proofs.refinement.reading.Reading.{with_read}
use Rattle.sctp_model.proofs.refinement.reading.NextRead.{run-due}
use Rattle.sctp_model.proofs.refinement.reading.UnorderedRead
use Rattle.sctp_model.proofs.refinement.arriving.Carried.{by_step, noted}
use Rattle.sctp_model.proofs.refinement.reading.Taken.{IsDue, map_option, due-front}
use Rattle.sctp_model.proofs.refinement.arriving.UnorderedStep

-- ## A read

-- an ordered message is read: the front of what is held, and the index expected next moves by one where it is that one
pub record ReadsOrdered (w : LinkRecord) (s n : ℕ) : Type 0 where
  pub none : (stream_of w s).complete ≡ []
  pub due : IsDue w s n
  pub rest : List ℕ
  pub front : held_on w s ≡ n ∷ rest
  pub message : message_read (reassembly_of w s) ≡ Some (set_of w n)
  pub here : next_of (after_reading w s) s ≡ (if index_of w n == next_of w s then next_of w s + 1 else next_of w s)
  pub other : (t : ℕ) → (t ≡ s → ⊥) → next_of (after_reading w s) t ≡ next_of w t

-- the complete unordered message that came first is read: no index moves
pub record ReadsComplete (w : LinkRecord) (s n : ℕ) : Type 0 where
  pub rest : List ℕ
  pub complete : (stream_of w s).complete ≡ n ∷ rest
  pub unordered : (Messages.message_at w n).ordered ≡ false
  pub next : (t : ℕ) → next_of (after_reading w s) t ≡ next_of w t

-- with nothing to read nothing changes
pub nothing-read : (w : LinkRecord) (s : ℕ) → next_read w s ≡ None → after_reading w s ≡ w
nothing-read w s e = ap (read_of w s) e

module _ (w : LinkRecord) (s : ℕ) (r : StreamRecord) (valid : Valid w) (more : ValidUnassembled w) (sp : IsSpan w s []) (open' : stream_at w s ≡ Some r) where
  -- the index expected next after a read is that of the record with the message read
  restreamed : (n t : ℕ) → next_of (read_of w s (Some n)) t ≡ next_of (with_read w n) t
  restreamed n t = UnorderedStep.next-streams (with_read w n)
      (read_of w s (Some n)).streams (Keeps.named-changed (with_read w n) s Changes.without_first (λ r. refl) (λ r. refl)) t

  pub complete-read : (n : ℕ) (rest : List ℕ) → (stream_of w s).complete ≡ n ∷ rest → ReadsComplete w s n
  complete-read n rest e =
      let front : next_read w s ≡ Some n = ap (λ l. or_else (first_of l) (first_of (filter (is_unread w) (run_of w s)))) e in
      let kind = (more.waits s n (ap (λ l. list_any (λ k. k == n) l) e ∙ first-in n rest)).unordered in
      record {
        rest = rest;
        complete = e;
        unordered = kind;
        next = λ t. ap (λ o. next_of (read_of w s o) t) front ∙ restreamed n t ∙ UnorderedRead.next-read_unordered w n valid kind t;
      }
    where
      first-in : (n : ℕ) (rest : List ℕ) → list_any (λ k. k == n) (n ∷ rest) ≡ true
      first-in n rest = let z : (n == n) ≡ true = grind (arith, nat_tests) in rw z refl

  pub ordered-read : (n : ℕ) → (stream_of w s).complete ≡ [] → next_read w s ≡ Some n → ReadsOrdered w s n
  ordered-read n e front =
      grind (arith, nat_tests, due-front, run-due, Line.on-ordered, NextRead.message-is, restreamed, Reading.next-other, Reading.next-moves, Reading.next-stays)

  -- what is read next: the first complete unordered message, or the ordered one at the front
  pub reads-one : (n : ℕ) → next_read w s ≡ Some n → ReadsComplete w s n ⊎ ReadsOrdered w s n
  reads-one n e = grind (arith, nat_tests, ordered-read, complete-read)

  -- the queue has nothing to read where the record has nothing
  pub none-read : next_read w s ≡ None → message_read (reassembly_of w s) ≡ None
  none-read e = NextRead.message-is w s r valid more sp open' ∙ ap (map_option (handed_out w)) e

  pub none-due : message_read (reassembly_of w s) ≡ None → next_read w s ≡ None
  none-due e = grind (arith, nat_tests, NextRead.message-is)

  pub none : (message_read (reassembly_of w s) ≡ None) ↔ (next_read w s ≡ None)
  none = (none-due, none-read)

  -- what the queue hands out is a message of the record
  pub some-read : (set : ChunkSet) → message_read (reassembly_of w s) ≡ Some set → (n : ℕ) × (next_read w s ≡ Some n) × (set ≡ handed_out w n)
  some-read set e = grind (arith, nat_tests, none-read, NextRead.message-is)

-- ## The other events leave the index expected next

-- all but arrivals and reads
abbrev pub KeepsNext : Event → Type 0
KeepsNext (E.Arrive k) = ⊥
KeepsNext (E.Read s) = ⊥
KeepsNext e = Unit {0}

next-view : (w v : LinkRecord) (t : ℕ) → view v ≡ view w → next_of v t ≡ next_of w t
next-view w v t e = ap (λ x. View.next x t) e

next-taken : (w : LinkRecord) (o : Option Datagram) (t : ℕ) → next_of (Changes.after_acked w o) t ≡ next_of w t
next-taken w b t = grind (arith, nat_tests)

pub next-same : (setup : Setup) (h : History) (e : Event) (t : ℕ) → IsSetup setup → IsRun setup h → refusal_of (record_of setup h) e ≡ None → KeepsNext e
    → next_of (after (record_of setup h) e) t ≡ next_of (record_of setup h) t
next-same setup h e t is run ok keeps = by e ok keeps
  where
    quiet : (e : Event) → refusal_of (record_of setup h) e ≡ None → Quiet (record_of setup h) (after (record_of setup h) e)
        → next_of (after (record_of setup h) e) t ≡ next_of (record_of setup h) t
    quiet e ok q =
        let g = consistent-run setup h run in
        let a = consistent-after setup (record_of setup h) e ok g in
        Ordered.next-still (view (record_of setup h)) (view (after (record_of setup h) e))
        (still-of setup (record_of setup h) (after (record_of setup h) e) g a q) (received-run setup h is run).ordered t

    by : (e : Event) → refusal_of (record_of setup h) e ≡ None → KeepsNext e → next_of (after (record_of setup h) e) t ≡ next_of (record_of setup h) t
    by (E.Open s) ok keeps =
        next-view (record_of setup h) (Changes.after_open (record_of setup h) s) t (View.view-opened (record_of setup h) s
        (negated (Messages.is_open (record_of setup h) s) (unless-holds (not (Messages.is_open (record_of setup h) s)) StreamOpen None ok).0))
    by (E.Mode s u y v) ok keeps =
        next-view (record_of setup h) (Changes.after_mode (record_of setup h) s u y v) t (View.view-moded (record_of setup h) s u y v)
    by (E.Arrive k) ok keeps = absurd keeps
    by (E.Acked k) ok keeps = next-taken (record_of setup h) (slice_get (record_of setup h).network k) t
    by (E.Read s) ok keeps = absurd keeps
    by (E.Ack credit) ok keeps = refl
    by event ok keeps = quiet event ok (Moves.quiet-after setup (record_of setup h) event refl (consistent-run setup h run))

-- nor does the arrival of fragments move it
next-slots : (ps : List ℕ) (w : LinkRecord) (t : ℕ) → next_of (fold receive_slot w ps) t ≡ next_of w t
next-slots [] w t = refl
next-slots (p ∷ ps) w t = next-slots ps (receive_slot w p) t ∙ by_step (λ u. next_of u t ≡ next_of w t) w p refl (λ e b h. new b)
  where
    new : (b : Bool) → next_of (noted w p b) t ≡ next_of w t
    new b = grind (arith, nat_tests, UnorderedStep.next-streams, Keeps.named-changed)

pub next-arrive : (setup : Setup) (h : History) (k t : ℕ) (slots : List ℕ) → slice_get (record_of setup h).network k ≡ Some (Data slots)
    → next_of (after (record_of setup h) (E.Arrive k)) t ≡ next_of (record_of setup h) t
next-arrive setup h k t slots e = grind (arith, nat_tests, next-slots)
