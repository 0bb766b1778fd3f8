-- A message that is read next is read in order: a session goes on by one call.
use Rattle.sctp_delivery.proofs.Names.{◌≡◌, ℕ, true, [], ◌∷◌, ◌++◌, Option, Some, ap, subst, ◌∙◌, arith, Result, IfOk, IfSome, IsOk, option_map, ChunkSet}
use Rattle.sctp_delivery.proofs.Names.{Chunks, ReceiverRefusal, Reception, is_open, message_on, WhileFewTsns, AreReadInOrder, reads, at_start, of_receiver}
use Rattle.sctp_reassembly.specs.reassembly_queue.ReassemblyQueue.{at_start as start_of}
use Rattle.sctp_receiver.specs.ReceiverRuns.{with_message}
use Rattle.sctp_delivery.specs.Order.{IsNextIn}
use Rattle.sctp_delivery.proofs.Delivered as delivered
use Rattle.sctp_delivery.proofs.Delivered.{next_tsn}
use Rattle.sctp_delivery.proofs.OneRead.{answers, given-then, no-way, read_of, reads-on, run-then}
use Rattle.sctp_delivery.proofs.FewYoung.{in-order}

read-next : (r : Reception) (stream : ℕ) (set : ChunkSet) → is_open stream r ≡ true → message_on stream r ≡ Some set
    → WhileFewTsns (IsNextIn r stream set.chunks)
unfolding read_of
read-next r stream set open' message tsn size max most limits cs s small some run few is =
    let start = at_start tsn size max most limits in
    let f = reads-on stream s (ap (is_open stream) is ∙ open') in
    let z = no-way (next_tsn s) (delivered.next-small tsn size max most limits cs s small some run) in
    let given = given-then cs (of_receiver (reads stream)) start s (read_of stream s) run f in
    let read : (read_of stream s).receiving.read ≡ record { stream = stream; fragments = set.chunks } ∷ s.receiving.read =
    ap (λ o. with_message stream o s.receiving.read) (ap (message_on stream) is ∙ message) in
    let law = in-order tsn size max most limits (cs ++ of_receiver (reads stream) ∷ []) (read_of stream s) small some
    (run-then cs (of_receiver (reads stream)) start s (read_of stream s) run f) (omega (arith, given, few, z)) in
    subst (λ ms. AreReadInOrder (record s { receiving = record s.receiving { read = ms } })) read law

-- what the call answers
pub answers-next : (r : Reception) (stream : ℕ) (o : Result (Option Chunks) ReceiverRefusal)
    → IfOk o (λ message. message ≡ option_map start_of (message_on stream r)) → (IsOk o → is_open stream r ≡ true)
    → IfOk o (λ message. IfSome message (λ chunks. WhileFewTsns (IsNextIn r stream chunks.set.chunks)))
answers-next r stream o m a = answers (λ cs. WhileFewTsns (IsNextIn r stream cs)) r stream o (read-next r stream) m a
