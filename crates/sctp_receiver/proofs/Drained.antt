-- What reading a stream until no message is left gives.
use Rattle.sctp_receiver.proofs.Names.{◌≡◌, ℕ, ◌+◌, ◌%◌, ◌^◌, Bool, true, false, List, [], ◌∷◌, ◌++◌, drop, Option, Some, None, Result, Ok, Err, refl, ap, sym}
use Rattle.sctp_receiver.proofs.Names.{◌∙◌, if◌then◌else◌, ◌==◌, IfOk, OnOk, option_map, slice_get, eq-eqb, ChunkPayloadData, ChunkSet, Reassembly, after_read}
use Rattle.sctp_receiver.proofs.Names.{is_readable, message_among, rest_among, InboundStream, ReceiverRefusal, has_number, number, stream_read, Reception}
use Rattle.sctp_receiver.proofs.Names.{message_of, message_on, stream_of}
use Rattle.sctp_reassembly.specs.declared.reassembly_queue.chunks.Chunks.{Chunks}
use Rattle.sctp_reassembly.specs.reassembly_queue.ReassemblyQueue.{at_start as start_of}
use Rattle.sctp_receiver.specs.Receiver.{after_read as read_on}
use Rattle.sctp_receiver.specs.Drains.{Drains, DrainsGiveWhatIsDue, WhatIsDueDrains, due_from, due_on}
use Rattle.sctp_receiver.proofs.Handed.{found-changed}
use Rattle.sctp_receiver.proofs.ReadsCounted.{found-number}

-- ## One message

abbrev with_next : Option ChunkSet → List ChunkSet → List ChunkSet
with_next None ms = []
with_next (Some m) ms = m ∷ ms

abbrev due_in : Reassembly → List ChunkSet
due_in q = q.unordered ++ due_from q.next_ssn q.ordered

abbrev held : ℕ → List ChunkSet → List ChunkSet → List ChunkPayloadData → Reassembly
held next os us un = record { next_ssn = next; ordered = os; unordered = us; unassembled = un }

first-due : (next : ℕ) (os us : List ChunkSet) (un : List ChunkPayloadData)
    → us ++ due_from next os ≡ with_next (message_among us (held next os us un)) (due_in (rest_among us (held next os us un)))
first-due next os (u ∷ us) un = refl
first-due next [] [] un = refl
first-due next (s ∷ ss) [] un = by (is_readable next s)
  where
    by : (b : Bool) → (if b then s ∷ due_from (if s.ssn == next then (next + 1) % 2 ^ 16 else next) ss else [])
        ≡ with_next (if b then Some s else None) (due_in (after_read (if b then Some s else None) (held next (s ∷ ss) [] un)))
    by true = refl
    by false = refl

next-due : (o : Option InboundStream) → due_on o ≡ with_next (message_of o) (due_on (option_map stream_read o))
next-due None = refl
next-due (Some l) = first-due l.queue.held.next_ssn l.queue.held.ordered l.queue.held.unordered l.queue.held.unassembled

-- the stream is read
read-here : (st : ℕ) (r : Reception) → stream_of st (read_on st r) ≡ option_map stream_read (stream_of st r)
read-here st r = found-changed st st stream_read (λ l e. refl) r.streams ∙ by (stream_of st r) refl
  where
    by : (o : Option InboundStream) → stream_of st r ≡ o
        → option_map (λ l. if has_number st l then stream_read l else l) o ≡ option_map stream_read o
    by None e = refl
    by (Some l) e =
        let on : has_number st l ≡ true = eq-eqb (number l) st (found-number st r.streams l e) in
        ap (λ b. Some (if b then stream_read l else l)) on

due-now : (st : ℕ) (r : Reception) → due_on (stream_of st r) ≡ with_next (message_on st r) (due_on (stream_of st (read_on st r)))
due-now st r = next-due (stream_of st r) ∙ ap (λ o. with_next (message_on st r) (due_on o)) (sym (read-here st r))

-- ## The law

pub only : DrainsGiveWhatIsDue
only st [] old new d = sym (due-now st old ∙ ap (λ m. with_next m (due_on (stream_of st (read_on st old)))) d.0)
only st (m ∷ ms) old new d =
    ap (λ xs. m ∷ xs) (only st ms (read_on st old) new d.1)
    ∙ sym (due-now st old ∙ ap (λ x. with_next x (due_on (stream_of st (read_on st old)))) d.0)

reads-all : (st : ℕ) (ms : List ChunkSet) (old : Reception) → due_on (stream_of st old) ≡ ms → (new : Reception) × Drains st ms old new
reads-all st [] old e = (old, (by (message_on st old) (sym (due-now st old) ∙ e), refl))
  where
    by : (o : Option ChunkSet) → with_next o (due_on (stream_of st (read_on st old))) ≡ [] → o ≡ None
    by None h = refl
    by (Some x) h = cc
reads-all st (m ∷ ms) old e =
    let h = by (message_on st old) (sym (due-now st old) ∙ e) in
    let rest = reads-all st ms (read_on st old) h.1 in
    (rest.0, (h.0, rest.1))
  where
    by : (o : Option ChunkSet) → with_next o (due_on (stream_of st (read_on st old))) ≡ m ∷ ms
        → (o ≡ Some m) × (due_on (stream_of st (read_on st old)) ≡ ms)
    by None h = cc
    by (Some x) h = let same : x ≡ m = cc in let rest : due_on (stream_of st (read_on st old)) ≡ ms = cc in (ap Some same, rest)

pub all : WhatIsDueDrains
all st old = reads-all st (due_on (stream_of st old)) old refl

-- ## One read

rest-due : (next : ℕ) (os us : List ChunkSet) (un : List ChunkPayloadData)
    → due_in (rest_among us (held next os us un)) ≡ drop 1 (us ++ due_from next os)
rest-due next os (u ∷ us) un = refl
rest-due next [] [] un = refl
rest-due next (s ∷ ss) [] un = by (is_readable next s) refl
  where
    by : (b : Bool) → is_readable next s ≡ b → due_in (after_read (if b then Some s else None) (held next (s ∷ ss) [] un))
        ≡ drop 1 (if b then s ∷ due_from (if s.ssn == next then (next + 1) % 2 ^ 16 else next) ss else [])
    by true e = refl
    by false e = ap (λ b. if b then s ∷ due_from (if s.ssn == next then (next + 1) % 2 ^ 16 else next) ss else []) e

rest-on : (o : Option InboundStream) → due_on (option_map stream_read o) ≡ drop 1 (due_on o)
rest-on None = refl
rest-on (Some l) = rest-due l.queue.held.next_ssn l.queue.held.ordered l.queue.held.unordered l.queue.held.unassembled

first-on : (m : Option ChunkSet) (ms : List ChunkSet) → m ≡ slice_get (with_next m ms) 0
first-on None ms = refl
first-on (Some x) ms = refl

pub first : (st : ℕ) (r : Reception) (o : Result (Option Chunks) ReceiverRefusal) → IfOk o (λ message. message ≡ option_map start_of (message_on st r))
    → IfOk o (λ message. message ≡ option_map start_of (slice_get (due_on (stream_of st r)) 0))
first st r (Err e) h = h
first st r (Ok m) h =
    h ∙ ap (option_map start_of) (first-on (message_on st r) (due_on (stream_of st (read_on st r)))
    ∙ ap (λ ms. slice_get ms 0) (sym (due-now st r)))

pub rest : (st : ℕ) (r new : Reception) (o : Result (Option Chunks) ReceiverRefusal) → OnOk o (new ≡ read_on st r)
    → OnOk o (due_on (stream_of st new) ≡ drop 1 (due_on (stream_of st r)))
rest st r new (Err e) h = h
rest st r new (Ok m) h = ap (λ x. due_on (stream_of st x)) h ∙ ap due_on (read-here st r) ∙ rest-on (stream_of st r)
