-- What a stream holds counts for: no less than its count says; and without the messages that are to be read.
use Rattle.sctp_delivery.proofs.Names.{◌≡◌, ℕ, ◌+◌, ◌≤◌, Bool, true, false, not, List, [], ◌∷◌, ◌++◌, length, refl, sym, subst, arith, if◌then◌else◌, is_some}
use Rattle.sctp_delivery.proofs.Names.{list_all, sum_by, sum_by-cons, sum_by-inserted, common_steps, nat_tests, both, negated, bytes_of, change_where}
use Rattle.sctp_delivery.proofs.Names.{ChunkPayloadData, ChunkForwardTsnStream, ChunkSet, ForwardTsn, InboundStream, Reassembly, ReassemblyState, message_read}
use Rattle.sctp_delivery.proofs.Names.{is_passed, after_ordered_push, Pushes, stream_read, unassembled_forwarded, without_incomplete, after_forward_tsn}
use Rattle.sctp_delivery.proofs.Names.{incomplete_forwarded, follow_forward_tsn, is_stale, Reception, cannot_complete, cost_of, Session, Call, RunsTo}
use Rattle.sctp_delivery.proofs.Names.{ReceiverFollows, of_receiver, of_sender, ReceiverCall}
use Rattle.std.specs.Prelude.{◌*◌}
use Rattle.std.proofs.lemmas.List.Sums.{sum_by-le-sum_by}
use Rattle.sctp_reassembly.specs.reassembly_queue.Counts.{set_chunks}
use Rattle.sctp_reassembly.specs.reassembly_queue.ReassemblyQueue.{held_bytes, set_bytes}
use Rattle.sctp_reassembly.proofs.lemmas.reassembly_queue.ByteCounts.{bytes_with, dropped, skipped, whole_bytes}
use Rattle.sctp_receiver.specs.Credit.{cost_held_on, cost_of_chunks}
use Rattle.sctp_receiver.specs.Drains.{due_from}
use Rattle.sctp_receiver.specs.Inbound.{has_number, named_forwarded, ssn_forwarded}
use Rattle.sctp_receiver.specs.Limits.{chunk_cost}
use Rattle.sctp_delivery.specs.Ending.{left_on}
use Rattle.sctp_delivery.proofs.Every.{Every, every-changed, every-found, every-joined, every-mapped}

-- ## A queue counts no more bytes than it holds

abbrev pub IsUnder : InboundStream → Type 0
IsUnder l = l.queue.bytes ≤ held_bytes l.queue.held

under-ordered : (x : ChunkPayloadData) (q : ReassemblyState) → q.bytes ≤ held_bytes q.held
    → (after_ordered_push x q).bytes ≤ held_bytes (after_ordered_push x q).held
under-ordered x q h = grind (arith, nat_tests, bytes_with)

under-pushed : (c : ChunkPayloadData) (complete : Bool) (old new : ReassemblyState) → Pushes c complete old new → old.bytes ≤ held_bytes old.held
    → new.bytes ≤ held_bytes new.held
under-pushed c complete old new p h = grind (arith, nat_tests, common_steps, under-ordered, whole_bytes, sum_by-inserted)

under-read : (l : InboundStream) → IsUnder l → IsUnder (stream_read l)
under-read l h = grind (arith, nat_tests, common_steps)

under-named : (ns : List ChunkForwardTsnStream) (ls : List InboundStream) → Every IsUnder ls → Every IsUnder (named_forwarded ns ls)
under-named [] ls e = e
under-named (n ∷ ns) ls e =
    under-named ns (change_where (has_number n.identifier) (ssn_forwarded n.sequence) ls)
    (every-changed IsUnder (has_number n.identifier) (ssn_forwarded n.sequence) (λ l h u. let x = skipped (is_passed n.sequence) l.queue.held.ordered in
    omega (arith, u, x)) ls e)

under-followed : (g : ForwardTsn) (r : Reception) → Every IsUnder r.streams → Every IsUnder (after_forward_tsn g r).streams
under-followed g r e = by (is_stale g r)
  where
    by : (b : Bool) → Every IsUnder (if b then r else without_incomplete g.new_cumulative_tsn (if b then r else follow_forward_tsn g r)).streams
    by true = e
    by false =
        every-mapped IsUnder IsUnder (incomplete_forwarded g.new_cumulative_tsn)
        (λ l u. let x = skipped (cannot_complete g.new_cumulative_tsn) l.queue.held.ordered in omega (arith, u, x))
        (follow_forward_tsn g r).streams
        (every-mapped IsUnder IsUnder (unassembled_forwarded g.new_cumulative_tsn)
        (λ l u. let x = dropped g.new_cumulative_tsn l.queue.held.unassembled in omega (arith, u, x)) (named_forwarded g.streams r.streams)
        (under-named g.streams r.streams e))

under-after : (call : ReceiverCall) (old new : Session) → ReceiverFollows call old new → Every IsUnder old.receiving.receiver.streams
    → Every IsUnder new.receiving.receiver.streams
under-after h0 h1 h2 h3 h4 = grind (arith, every-joined, every-changed, under-pushed, every-found, under-followed, under-read)

pub under-in : (cs : List Call) (old new : Session) → RunsTo old cs new → Every IsUnder old.receiving.receiver.streams
    → Every IsUnder new.receiving.receiver.streams
under-in [] old new r e = subst (λ (s : Session). Every IsUnder s.receiving.receiver.streams) (sym r) e
under-in (of_sender call ∷ cs) old new r e =
    under-in cs r.0 new r.1.1 (subst (λ (s : Session). Every IsUnder s.receiving.receiver.streams) (sym r.1.0.after) e)
under-in (of_receiver call ∷ cs) old new r e = under-in cs r.0 new r.1.1 (under-after call old r.0 r.1.0 e)

-- ## What is to be read

-- what chunks, and what sets of them, count for
pub prices : (cs : List ChunkPayloadData) → cost_of_chunks cs ≡ bytes_of cs + chunk_cost * length cs
prices [] = omega arith
prices (c ∷ cs) = grind (arith, common_steps, prices cs)

set-prices : (ss : List ChunkSet) → sum_by (λ set. cost_of_chunks set.chunks) ss ≡ set_bytes ss + chunk_cost * set_chunks ss
set-prices [] = omega arith
set-prices (s ∷ ss) = grind (arith, common_steps, prices, sum_by-cons, set-prices ss)

-- it counts no more than it holds
counts-less : (l : InboundStream) → IsUnder l → cost_of l ≤ cost_held_on l
counts-less l u = grind (arith, nat_tests, common_steps, set-prices, prices)

abbrev due_cost : Reassembly → ℕ
due_cost q = sum_by (λ set. cost_of_chunks set.chunks) (q.unordered ++ due_from q.next_ssn q.ordered)

abbrev held : ℕ → List ChunkSet → List ChunkSet → List ChunkPayloadData → Reassembly
held next os us un = record { next_ssn = next; ordered = os; unordered = us; unassembled = un }

due-none : (next : ℕ) (os us : List ChunkSet) (un : List ChunkPayloadData) → is_some (message_read (held next os us un)) ≡ false
    → due_cost (held next os us un) ≡ 0
due-none next os us un e = grind (arith, nat_tests)

-- a read leaves no more, and where nothing is to be read, all is left
pub left-read : (l : InboundStream) → left_on (stream_read l) ≤ left_on l
left-read l = grind (arith, nat_tests, common_steps)

left-unread : (l : InboundStream) → IsUnder l → is_some (message_read l.queue.held) ≡ false → left_on l ≡ cost_of l
left-unread l u e = grind (arith, nat_tests, common_steps, due-none, counts-less)

pub lefts-unread : (ls : List InboundStream) → Every IsUnder ls → list_all (λ l. not (is_some (message_read l.queue.held))) ls ≡ true
    → sum_by left_on ls ≡ sum_by cost_of ls
lefts-unread [] u e = refl
lefts-unread (l ∷ ls) u e = grind (arith, nat_tests, common_steps, both, left-unread, negated, sum_by-cons, lefts-unread ls u.1)

pub lefts-le : (ls : List InboundStream) → sum_by left_on ls ≤ sum_by cost_of ls
lefts-le ls = sum_by-le-sum_by left_on cost_of ls (λ l. omega arith)
