-- A message that is read next is a write: a session goes on by one call.
use Rattle.sctp_delivery.proofs.Names.{common_steps, nat_tests, ◌≡◌, ℕ, ◌+◌, ◌^◌, ◌<◌, true, List, [], ◌∷◌, ◌++◌, Option, Some, refl, ap, subst, ◌∙◌, arith}
use Rattle.sctp_delivery.proofs.Names.{Result, IfOk, IfSome, IsOk, option_map, ChunkPayloadData, ChunkSet, Chunks, ReceiverRefusal, Reception, is_open}
use Rattle.sctp_delivery.proofs.Names.{message_on, Message, WhileTsnsLast, tsns_given, reads, Call, Follows, ReceiverFollows, RunsTo, Session, at_start}
use Rattle.sctp_delivery.proofs.Names.{of_receiver}
use Rattle.sctp_util.specs.Serial.{distance}
use Rattle.sctp_reassembly.specs.reassembly_queue.ReassemblyQueue.{at_start as start_of}
use Rattle.sctp_receiver.specs.Receiver.{after_read}
use Rattle.sctp_receiver.specs.ReceiverRuns.{with_message}
use Rattle.sctp_delivery.specs.Messages.{IsReadIn}
use Rattle.sctp_delivery.proofs.Delivered as delivered
use Rattle.sctp_delivery.proofs.Delivered.{next_tsn}

-- one call more
unfoldable pub run-then : (cs : List Call) (c : Call) (old mid new : Session) → RunsTo old cs mid → Follows c mid new → RunsTo old (cs ++ c ∷ []) new
run-then [] c old mid new r f = (new, (subst (λ s. Follows c s new) r f, refl))
run-then (d ∷ cs) c old mid new r f = (r.0, (r.1.0, run-then cs c r.0 mid new r.1.1 f))

pub given-then : (cs : List Call) (c : Call) (old mid new : Session) (r : RunsTo old cs mid) (f : Follows c mid new)
    → tsns_given old (cs ++ c ∷ []) new (run-then cs c old mid new r f) ≡ tsns_given old cs mid r + distance (next_tsn mid) (next_tsn new)
unfolding run-then
given-then [] c old mid new r f = let e = ap (λ s. distance (next_tsn s) (next_tsn new)) r in omega (arith, e)
given-then (d ∷ cs) c old mid new r f = let e = given-then cs c r.0 mid new r.1.1 f in omega (arith, e)

-- no way from a TSN to itself, or all the way round
pub no-way : (n : ℕ) → n < 2 ^ 32 → distance n n ≡ 0
unfolding distance
no-way n small = omega (arith, small)

-- after a read
unfoldable pub read_of : ℕ → Session → Session
read_of stream s = record s {
  receiving = record s.receiving {
    receiver = after_read stream s.receiving.receiver;
    read = with_message stream (message_on stream s.receiving.receiver) s.receiving.read;
  };
}

pub reads-on : (stream : ℕ) (s : Session) → is_open stream s.receiving.receiver ≡ true → ReceiverFollows (reads stream) s (read_of stream s)
unfolding read_of
reads-on stream s e = record { handed = tt; step = record { receiver = refl; accepted = refl; read = refl }; accepted = e; after = refl }

pub read-next : (r : Reception) (stream : ℕ) (set : ChunkSet) → is_open stream r ≡ true → message_on stream r ≡ Some set
    → WhileTsnsLast (IsReadIn r stream set.chunks)
unfolding read_of
read-next r stream set open' message tsn size max most limits cs s small some run few is =
    let start = at_start tsn size max most limits in
    let f = reads-on stream s (ap (is_open stream) is ∙ open') in
    let z = no-way (next_tsn s) (delivered.next-small tsn size max most limits cs s small some run) in
    let given = given-then cs (of_receiver (reads stream)) start s (read_of stream s) run f in
    let read : (read_of stream s).receiving.read ≡ record { stream = stream; fragments = set.chunks } ∷ s.receiving.read =
    ap (λ o. with_message stream o s.receiving.read) (ap (message_on stream) is ∙ message) in
    let m : Message = record { stream = stream; fragments = set.chunks } in
    let law = delivered.law tsn size max most limits (cs ++ of_receiver (reads stream) ∷ [])
    (read_of stream s) small some (run-then cs (of_receiver (reads stream)) start s (read_of stream s) run f) (omega (arith, given, few, z)) in
    (subst (λ ms. delivered.AllWrites s.written ms) read law) 0 m (omega arith)

-- what the call answers
pub answers : (P : List ChunkPayloadData → Type 0) (r : Reception) (stream : ℕ) (o : Result (Option Chunks) ReceiverRefusal)
    → ((set : ChunkSet) → is_open stream r ≡ true → message_on stream r ≡ Some set → P set.chunks)
    → IfOk o (λ message. message ≡ option_map start_of (message_on stream r)) → (IsOk o → is_open stream r ≡ true)
    → IfOk o (λ message. IfSome message (λ chunks. P chunks.set.chunks))
answers h0 h1 h2 h3 h4 h5 h6 = grind (arith, nat_tests, common_steps)

pub answers-write : (r : Reception) (stream : ℕ) (o : Result (Option Chunks) ReceiverRefusal)
    → IfOk o (λ message. message ≡ option_map start_of (message_on stream r)) → (IsOk o → is_open stream r ≡ true)
    → IfOk o (λ message. IfSome message (λ chunks. WhileTsnsLast (IsReadIn r stream chunks.set.chunks)))
answers-write r stream o m a = answers (λ cs. WhileTsnsLast (IsReadIn r stream cs)) r stream o (read-next r stream) m a
