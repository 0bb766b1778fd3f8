-- Sessions that can end: what is due, a call in front of others that end one, reads, and streams that are opened.
use Rattle.sctp_delivery.proofs.Names.{◌≡◌, ℕ, ◌+◌, ◌<◌, ◌≤◌, Bool, true, false, not, List, [], ◌∷◌, ◌++◌, length, Option, Some, None, refl, ap, ◌∙◌, arith}
use Rattle.sctp_delivery.proofs.Names.{◌-◌, ◌^◌, subst, zero, suc, is_some, sym, ◌||◌, find, if◌then◌else◌, ◌&&◌, list_any, sum_by, list_all, nat_tests}
use Rattle.sctp_delivery.proofs.Names.{sum_by-cons, none-some, common_steps, and-none, same-yes, some-same, sum_by-inserted, and, not_both, change_where}
use Rattle.sctp_delivery.proofs.Names.{insert_before, distance, ForwardTsn, ChunkPayloadData, as_acknowledged, past, Pending, ReassemblyState, Reassembly}
use Rattle.sctp_delivery.proofs.Names.{front_readable, message_read, rest_read, without_first, Pushes, new_stream, stream_read, unassembled_forwarded}
use Rattle.sctp_delivery.proofs.Names.{with_queue, cost_of, Reception, follow_forward_tsn, is_stale, new_refusal, is_open, after_forward_tsn}
use Rattle.sctp_delivery.proofs.Names.{incomplete_forwarded, without_incomplete, InboundStream, Limits, chunk_before, has_tsn, sent_again, chunks_waiting}
use Rattle.sctp_delivery.proofs.Names.{ReceiverCall, reads, in_flight, Call, ReceiverFollows, RunsTo, Session, of_receiver, of_sender, Follows, SenderFollows}
use Rattle.sctp_delivery.proofs.Names.{at_start, distance-tsn, EachOtherIsReadOnce, ap₂, append-nil, abandoned_in, is_exhausted, reads_nothing, tsns_given}
use Rattle.sctp_delivery.proofs.Names.{SenderCall, Write, written_after, list_all-append, ChunkSet}
use Rattle.sctp_receiver.proofs.DataEach.{takes-keeps}
use Rattle.sctp_receiver.proofs.Forwarded.{followed-numbers}
use Rattle.sctp_receiver.proofs.Inbounds.{stays-mapped}
use Rattle.sctp_receiver.proofs.Receptions.{read-numbers}
use Rattle.sctp_receiver.proofs.StreamCosts.{all-cost, are_apart, changed-cost, mapped-cost, more-apart, named-cost, one-changed, opened-cost}
use Rattle.sctp_receiver.specs.Inbound.{has_number, named_forwarded, numbers_of}
use Rattle.sctp_receiver.specs.Limits.{chunk_cost}
use Rattle.sctp_receiver.specs.Receiver.{open_stream}
use Rattle.sctp_delivery.specs.Ending.{is_delivery, left_on, rest_cost, waiting_cost}
use Rattle.sctp_delivery.specs.ReceiverCalls.{opens}
use Rattle.sctp_delivery.proofs.Besides.{EachEnds, receiver-so}
use Rattle.sctp_delivery.proofs.Delivered.{next_tsn}
use Rattle.sctp_delivery.proofs.Every.{Every}
use Rattle.sctp_delivery.proofs.GivenTsns.{IsNumbered}
use Rattle.sctp_delivery.proofs.HeldCosts.{left-read, lefts-unread, under-in}
use Rattle.sctp_delivery.proofs.RefusedLaw.{fit-session}
use Rattle.sctp_delivery.proofs.Reached.{HasKept, IsReached, kept}
use Rattle.sctp_delivery.proofs.TsnPlaces.{base}
use Rattle.sctp_delivery.proofs.OneRead.{given-then, read_of, reads-on, run-then}
use Rattle.sctp_delivery.proofs.PlainSessions.{gone-then, gone_by}

-- # Sessions that can end: what is due, and what a receiver with limits has room for

-- ## What was not taken

-- the message is not abandoned, and the chunk is none of those that were taken
abbrev pub is_due : List ChunkPayloadData → ChunkPayloadData → Bool
is_due accepted c = not (c.abandoned || list_any (has_tsn c.tsn) accepted)

abbrev worth : ℕ → Bool → ℕ
worth n b = if b then n else 0

-- what the chunks that are due weigh
abbrev pub due_by : (ChunkPayloadData → ℕ) → List ChunkPayloadData → List ChunkPayloadData → ℕ
due_by w accepted cs = sum_by (λ c. worth (w c) (is_due accepted c)) cs

-- as many are due
abbrev pub due : List ChunkPayloadData → List ChunkPayloadData → ℕ
due accepted cs = due_by (λ c. 1) accepted cs

-- so many chunks were made, and are due
abbrev pub spent : Session → ℕ
spent s = length s.made + due s.receiving.accepted s.sending.sender.flight.queue.inflight.chunks

module _ (w : ChunkPayloadData → ℕ) where
  -- one more was taken
  no-more-due : (x : ChunkPayloadData) (accepted : List ChunkPayloadData) (c : ChunkPayloadData)
      → worth (w c) (is_due (x ∷ accepted) c) ≤ worth (w c) (is_due accepted c)
  no-more-due x accepted c = grind (arith, nat_tests)

  few-due : (x : ChunkPayloadData) (accepted cs : List ChunkPayloadData) → due_by w (x ∷ accepted) cs ≤ due_by w accepted cs
  few-due x accepted [] = omega arith
  few-due x accepted (c ∷ cs) = grind (arith, common_steps, no-more-due, sum_by-cons, few-due x accepted cs)

  -- it was due, so less is
  pub less-due : (x : ChunkPayloadData) (accepted cs : List ChunkPayloadData) → is_due accepted x ≡ true → find (has_tsn x.tsn) cs ≡ Some x
      → due_by w (x ∷ accepted) cs + w x ≤ due_by w accepted cs
  less-due x accepted [] h e = absurd (none-some x e)
  less-due x accepted (c ∷ cs) h e = grind (arith, common_steps, few-due, no-more-due, same-yes, some-same, sum_by-cons, less-due x accepted cs h)

  -- to send one again changes nothing in that
  pub same-due : ((count now : ℕ) (c : ChunkPayloadData) → w (sent_again count now c) ≡ w c) → (accepted : List ChunkPayloadData)
      (p : ChunkPayloadData → Bool) (count now : ℕ) (cs : List ChunkPayloadData)
      → due_by w accepted (change_where p (sent_again count now) cs) ≡ due_by w accepted cs
  same-due same accepted p count now [] = refl
  same-due same accepted p count now (c ∷ cs) = grind (arith, common_steps, sum_by-cons, same-due same accepted p count now cs)

  -- nor does a SACK make more due
  pub sack-due : ((c : ChunkPayloadData) → w (as_acknowledged c) ≤ w c) → (accepted : List ChunkPayloadData) (tsn : ℕ) (p : ChunkPayloadData → Bool)
      (cs : List ChunkPayloadData) → due_by w accepted (past tsn (change_where p as_acknowledged cs)) ≤ due_by w accepted cs
  sack-due less accepted tsn p [] = omega arith
  sack-due less accepted tsn p (c ∷ cs) = grind (arith, common_steps, sum_by-cons, sack-due less accepted tsn p cs)

  -- one that is put in flight
  pub put-due : (accepted : List ChunkPayloadData) (x : ChunkPayloadData) (cs : List ChunkPayloadData)
      → due_by w accepted (insert_before chunk_before x cs) ≤ due_by w accepted cs + w x
  put-due accepted x cs = grind (arith, nat_tests, sum_by-inserted)

  -- no more is due than all weigh
  pub all-due : (accepted cs : List ChunkPayloadData) → due_by w accepted cs ≤ sum_by w cs
  all-due accepted [] = omega arith
  all-due accepted (c ∷ cs) = grind (arith, common_steps, sum_by-cons, all-due accepted cs)

-- ## What it costs

-- a chunk counts for its bytes, and for its cost
abbrev pub price : ChunkPayloadData → ℕ
price c = length c.user_data + chunk_cost

-- where the session began, with the messages that were abandoned before it is ended, how many SACKs and chunks may have been made then, and
-- when that is
pub record Setting : Type 0 where
  pub first : ℕ
  pub size : ℕ
  pub max : ℕ
  pub most : ℕ
  pub limits : Option Limits
  pub small : first < 2 ^ 32
  pub some : 0 < size
  pub enough : max ≤ most
  pub gone : List ℕ
  pub sacks : ℕ
  pub made : ℕ
  pub now : ℕ

abbrev pub pending_of : Session → Pending
pending_of s = s.sending.sender.flight.queue.pending

-- what waits of the partially sent message, and of each message that waits no more than this
abbrev pub rest_of : Pending → ℕ
rest_of q = rest_cost q.selected q

abbrev pub FitEach : ℕ → Pending → Type 0
FitEach w q =
    Every (λ c. waiting_cost c.message_id q ≤ w) q.ordered × Every (λ c. waiting_cost c.message_id q ≤ w) q.unordered

-- what is due in flight, and what waits of the partially sent message; and with it what the receiver holds and is not to be read
abbrev pub load : Session → ℕ
load s = due_by price s.receiving.accepted (in_flight s) + rest_of (pending_of s)

abbrev pub cost : Session → ℕ
cost s = sum_by left_on s.receiving.receiver.streams + load s

-- where there are limits, the receiver has room for all that, if any of it is to come, and then for one message after another
abbrev pub RoomIn : Option Limits → Session → Type 0
RoomIn None s = Unit {0}
RoomIn (Some l) s =
    (length (in_flight s) ≤ l.reach) × (0 < chunks_waiting s.sending.sender → 0 < l.reach) × (0 < load s → cost s ≤ l.window)
    × FitEach l.window (pending_of s)

-- there still is, where the same chunks wait
room-still : (o : Option Limits) (s t : Session) → pending_of t ≡ pending_of s → length (in_flight t) ≤ length (in_flight s)
    → load t ≤ load s → cost t ≤ cost s → RoomIn o s → RoomIn o t
room-still h0 h1 h2 h3 h4 h5 h6 h7 = grind (arith, nat_tests, common_steps)

-- so no TSN in flight is refused for the limits, while something is due
pub none-refused : (o : Option Limits) (s : Session) (tsn : ℕ) → RoomIn o s → s.receiving.receiver.limits ≡ o
    → distance s.receiving.receiver.cumulative_tsn tsn ≤ length (in_flight s) → 0 < due_by price s.receiving.accepted (in_flight s)
    → sum_by left_on s.receiving.receiver.streams ≡ sum_by cost_of s.receiving.receiver.streams → new_refusal tsn s.receiving.receiver ≡ None
none-refused o s tsn room is near some unread = grind (arith, nat_tests, common_steps, and-none)

-- ## What a call makes of it

pub read-cost : (stream : ℕ) (ls : List InboundStream) → sum_by left_on (change_where (has_number stream) stream_read ls) ≤ sum_by left_on ls
read-cost stream ls = changed-cost left_on (has_number stream) stream_read left-read ls

pub open-cost : (stream max : ℕ) (ls : List InboundStream) → sum_by left_on (ls ++ new_stream stream max ∷ []) ≡ sum_by left_on ls
open-cost stream max ls = opened-cost left_on ls (new_stream stream max) refl

pub followed-cost : (g : ForwardTsn) (r : Reception) → sum_by cost_of (after_forward_tsn g r).streams ≤ sum_by cost_of r.streams
followed-cost g r = by (is_stale g r)
  where
    by : (b : Bool) → sum_by cost_of (if b then r else without_incomplete g.new_cumulative_tsn (if b then r else follow_forward_tsn g r)).streams
        ≤ sum_by cost_of r.streams
    by true = omega arith
    by false =
        let t = g.new_cumulative_tsn in
        let named = named-cost cost_of (all-cost 0).named g.streams r.streams in
        let less = mapped-cost cost_of (unassembled_forwarded t) ((all-cost 0).unassembled t) (named_forwarded g.streams r.streams) in
        let last = mapped-cost cost_of (incomplete_forwarded t) ((all-cost 0).incomplete t) (follow_forward_tsn g r).streams in
        omega (arith, named, less, last)

-- ## Streams of their own

apart-after : (call : ReceiverCall) (old new : Session) → ReceiverFollows call old new → are_apart (numbers_of old.receiving.receiver.streams) ≡ true
    → are_apart (numbers_of new.receiving.receiver.streams) ≡ true
apart-after h0 h1 h2 h3 h4 = grind (arith, nat_tests, common_steps, more-apart, takes-keeps, followed-numbers, stays-mapped, read-numbers)

pub apart-in : (cs : List Call) (old new : Session) → RunsTo old cs new → are_apart (numbers_of old.receiving.receiver.streams) ≡ true
    → are_apart (numbers_of new.receiving.receiver.streams) ≡ true
apart-in [] old new r a = ap (λ (s : Session). are_apart (numbers_of s.receiving.receiver.streams)) r ∙ a
apart-in (of_sender call ∷ cs) old new r a =
    apart-in cs r.0 new r.1.1 (ap (λ (s : Session). are_apart (numbers_of s.receiving.receiver.streams)) r.1.0.after ∙ a)
apart-in (of_receiver call ∷ cs) old new r a = apart-in cs r.0 new r.1.1 (apart-after call old r.0 r.1.0 a)

-- a chunk that is taken adds its price
pub taken-cost : (c : ChunkPayloadData) (complete : Bool) (l : InboundStream) (q : ReassemblyState) (ls : List InboundStream)
    → are_apart (numbers_of ls) ≡ true → find (has_number c.stream_identifier) ls ≡ Some l → Pushes c complete l.queue q
    → sum_by cost_of (change_where (has_number c.stream_identifier) (with_queue q) ls) ≤ sum_by cost_of ls + price c
taken-cost c complete l q ls apart found pushed =
    one-changed cost_of c.stream_identifier (length c.user_data + chunk_cost) (with_queue q) l ls apart found
    ((all-cost (length c.user_data)).pushed c complete l q (omega arith) pushed)

-- ## How many are due

count-all : (cs : List ChunkPayloadData) → sum_by (λ (c : ChunkPayloadData). 1) cs ≡ length cs
count-all [] = refl
count-all (c ∷ cs) = let n = sum_by-cons (λ (d : ChunkPayloadData). 1) c cs in let ih = count-all cs in omega (arith, n, ih)

-- no more than are in flight
pub few-spent : (s : Session) → spent s ≤ length s.made + length (in_flight s)
few-spent s =
    let le = all-due (λ c. 1) s.receiving.accepted (in_flight s) in
    let n = count-all (in_flight s) in
    omega (arith, le, n)

-- # Sessions that can end: a call in front of others that end one

-- ## From a start

abbrev pub start : Setting → Session
start b = at_start b.first b.size b.max b.most b.limits

-- n TSNs were given out since, fewer than 2^31; and the receiver has room for what is left
pub record At (b : Setting) (n : ℕ) (s : Session) : Type 0 where
  pub calls : List Call
  pub run : RunsTo (start b) calls s
  pub given : tsns_given (start b) calls s run ≡ n
  pub gone : abandoned_in (start b) calls s run ≡ b.gone
  pub few : n < 2 ^ 31
  pub room : RoomIn b.limits s

-- calls of delivery lead from the session to the end
pub record EndsAlone (b : Setting) (s : Session) : Type 0 where
  pub calls : List Call
  pub ended : Session
  pub run : RunsTo s calls ended
  pub delivery : list_all (is_delivery b.now) calls ≡ true
  pub given : tsns_given s calls ended run ≡ chunks_waiting s.sending.sender
  pub written : ended.written ≡ s.written
  pub sacks : length ended.sacks ≤ b.sacks
  pub made : length ended.made ≤ b.made
  pub exhausted : is_exhausted ended.sending.sender ended.receiving.receiver ≡ true
  pub read : EachOtherIsReadOnce b.gone ended

-- and from each session of a sender that keeps what is reported, which is beside it
abbrev pub EachBeside : Setting → Session → Type 0
EachBeside b s = EachEnds b.now b.gone b.sacks b.made s

pub record Ends (b : Setting) (s : Session) : Type 0 where
  pub alone : EndsAlone b s
  pub beside : EachBeside b s

module _ (b : Setting) where
  pub reached : (n : ℕ) (s : Session) → At b n s → IsReached b.first n s
  reached n s i = grind (arith, nat_tests)

  pub kept-at : (n : ℕ) (s : Session) → At b n s → HasKept b.first n s
  kept-at n s i = kept b.first n s i.few (reached n s i)

  pub numbered-at : (n : ℕ) (s : Session) → At b n s → IsNumbered (base b.first) n s.sending.sender.flight
  numbered-at n s i = (kept-at n s i).kept.step.numbered

  -- where nothing is to be read, all that is held is left
  pub all-left : (n : ℕ) (s : Session) → At b n s → reads_nothing s.receiving.receiver ≡ true
      → sum_by left_on s.receiving.receiver.streams ≡ sum_by cost_of s.receiving.receiver.streams
  all-left n s i unread = lefts-unread s.receiving.receiver.streams (under-in i.calls (start b) s i.run tt) unread

  -- the receiver takes messages as long as the sender writes
  pub long-enough : (n : ℕ) (s : Session) → At b n s → s.sending.sender.max_message_size ≤ s.receiving.receiver.max_message_size
  long-enough n s i = grind (arith, nat_tests, fit-session)

  -- no two of its streams have one number
  pub apart-at : (n : ℕ) (s : Session) → At b n s → are_apart (numbers_of s.receiving.receiver.streams) ≡ true
  apart-at n s i = apart-in i.calls (start b) s i.run refl

  pub no-distance : (n : ℕ) (s : Session) → At b n s → distance (next_tsn s) (next_tsn s) ≡ 0
  no-distance n s i =
      let at = (numbered-at n s i).next_is in
      ap (λ u. distance u u) at ∙ distance-tsn (base b.first) (n + 1) (n + 1) (omega arith) (omega arith)
      ∙ (let z : n + 1 - (n + 1) ≡ 0 = omega arith in z)

  -- ## Behind one more call

  -- a call of delivery abandons nothing
  none-gone : (call : Call) (s : Session) → is_delivery b.now call ≡ true → gone_by call s ≡ []
  none-gone call s d = grind (arith, nat_tests, not_both)

  pub at-next : (n : ℕ) (call : Call) (s t : Session) → Follows call s t → is_delivery b.now call ≡ true
      → n + distance (next_tsn s) (next_tsn t) < 2 ^ 31 → RoomIn b.limits t → At b n s → At b (n + distance (next_tsn s) (next_tsn t)) t
  at-next n call s t f d few room i = record {
    calls = i.calls ++ call ∷ [];
    run = run-then i.calls call (start b) s t i.run f;
    given = given-then i.calls call (start b) s t i.run f ∙ ap (λ k. k + distance (next_tsn s) (next_tsn t)) i.given;
    gone = gone-then i.calls call (start b) s t i.run f ∙ ap₂ (λ xs ys. xs ++ ys) i.gone (none-gone call s d) ∙ append-nil b.gone;
    few = few;
    room = room;
  }

  -- where no TSN is given out, and the same chunks wait
  pub at-same : (n : ℕ) (call : Call) (s t : Session) → Follows call s t → is_delivery b.now call ≡ true → next_tsn t ≡ next_tsn s
      → pending_of t ≡ pending_of s → length (in_flight t) ≤ length (in_flight s) → load t ≤ load s → cost t ≤ cost s → At b n s
      → At b n t
  at-same n call s t f d same waits left lighter less i =
      let none : distance (next_tsn s) (next_tsn t) ≡ 0 = ap (distance (next_tsn s)) same ∙ no-distance n s i in
      let few = i.few in
      subst (λ k. At b k t) {x = n + distance (next_tsn s) (next_tsn t)} {y = n} (omega (arith, none))
      (at-next n call s t f d (omega (arith, none, few)) (room-still b.limits s t waits left lighter less i.room) i)

  -- ## In front of calls that end it

  unwritten : (call : SenderCall) (ws : List Write) → is_delivery b.now (of_sender call) ≡ true → written_after call ws ≡ ws
  unwritten call ws h3 = grind (arith, nat_tests, not_both)

  pub sender-before : (call : SenderCall) (s t : Session) → SenderFollows call s t → is_delivery b.now (of_sender call) ≡ true
      → distance (next_tsn s) (next_tsn t) + chunks_waiting t.sending.sender ≡ chunks_waiting s.sending.sender → EndsAlone b t → EndsAlone b s
  sender-before call s t f d waiting e = record {
    calls = of_sender call ∷ e.calls;
    ended = e.ended;
    run = (t, (f, e.run));
    delivery = and (is_delivery b.now (of_sender call)) (list_all (is_delivery b.now) e.calls) d e.delivery;
    given = let g = e.given in omega (arith, g, waiting);
    written = e.written ∙ ap (λ (x : Session). x.written) f.after ∙ unwritten call s.written d;
    sacks = e.sacks;
    made = e.made;
    exhausted = e.exhausted;
    read = e.read;
  }

  pub receiver-alone : (n : ℕ) (call : ReceiverCall) (s t : Session) → At b n s → ReceiverFollows call s t → EndsAlone b t → EndsAlone b s
  receiver-alone n call s t i f e =
      let sender = ap (λ (x : Session). x.sending) f.after in
      let none : distance (next_tsn s) (next_tsn t) ≡ 0 = ap (λ l. distance (next_tsn s) l.sender.flight.next_tsn) sender ∙ no-distance n s i in
      let waiting = ap (λ l. chunks_waiting l.sender) sender in
      record {
        calls = of_receiver call ∷ e.calls;
        ended = e.ended;
        run = (t, (f, e.run));
        delivery = e.delivery;
        given = let g = e.given in omega (arith, g, none, waiting);
        written = e.written ∙ ap (λ (x : Session). x.written) f.after;
        sacks = e.sacks;
        made = e.made;
        exhausted = e.exhausted;
        read = e.read;
      }

  pub receiver-before : (n : ℕ) (call : ReceiverCall) (s t : Session) → At b n s → ReceiverFollows call s t → Ends b t → Ends b s
  receiver-before n call s t i f e = search (receiver-alone, receiver-so, no-distance)

-- # Sessions that can end: all that is to be read is read, and streams are opened

-- ## A read leaves fewer

abbrev count : Reassembly → ℕ
count q = length q.ordered + length q.unordered

-- so many messages are whole or begun
abbrev pub sets : InboundStream → ℕ
sets l = length l.queue.held.ordered + length l.queue.held.unordered

-- no more are left, and where a message is read fewer
abbrev Fewer : Option ChunkSet → Reassembly → Reassembly → Type 0
Fewer o r q = (count r ≤ count q) × (is_some o ≡ true → count r < count q)

first-gone : (next : ℕ) (s : ChunkSet) (ss : List ChunkSet) → Some s ≡ front_readable next ss → length (without_first ss) < length ss
first-gone next s [] e = absurd (none-some s (sym e))
first-gone next s (x ∷ xs) e = omega arith

rest-fewer : (q : Reassembly) → Fewer (message_read q) (rest_read q) q
rest-fewer q = grind (arith, nat_tests, first-gone, not_both)

no-more : (p : InboundStream → Bool) (ls : List InboundStream) → sum_by sets (change_where p stream_read ls) ≤ sum_by sets ls
no-more p [] = omega arith
no-more p (l ∷ ls) = grind (arith, common_steps, rest-fewer, sum_by-cons, no-more p ls)

-- an open stream on which a message is to be read
record Readable (ls : List InboundStream) : Type 0 where
  number : ℕ
  there : is_some (find (has_number number) ls) ≡ true
  fewer : sum_by sets (change_where (has_number number) stream_read ls) < sum_by sets ls

abbrev is_unread : InboundStream → Bool
is_unread l = not (is_some (message_read l.queue.held))

readable : (ls : List InboundStream) → list_all is_unread ls ≡ false → Readable ls
readable [] e = absurd (not_both (sym e))
readable (l ∷ ls) e = by (is_some (message_read l.queue.held)) refl e (readable ls)
  where
    by : (b : Bool) → is_some (message_read l.queue.held) ≡ b → (not b && list_all is_unread ls) ≡ false
        → (list_all is_unread ls ≡ false → Readable ls) → Readable (l ∷ ls)
    by true h f ih = record {
      number = l.queue.si;
      there = ap (λ b. is_some (if b then Some l else find (has_number l.queue.si) ls)) (same-yes l.queue.si);
      fewer =
          let rest = change_where (has_number l.queue.si) stream_read ls in
          let n = sum_by-cons sets (stream_read l) rest in
          let o = sum_by-cons sets l ls in
          let lt = (rest-fewer l.queue.held).1 h in
          let le = no-more (has_number l.queue.si) ls in
          subst (λ b. sum_by sets ((if b then stream_read l else l) ∷ change_where (has_number l.queue.si) stream_read ls) < sum_by sets (l ∷ ls))
          (sym (same-yes l.queue.si)) (omega (arith, n, o, lt, le));
    }
    by false h f ih = grind (arith, nat_tests, common_steps, is_some, sum_by-cons, rest-fewer)

-- ## What stays

-- the sender, what was taken and up to which TSN, what was made, and the SACKs
pub record Rests (s t : Session) : Type 0 where
  pub sending : t.sending ≡ s.sending
  pub accepted : t.receiving.accepted ≡ s.receiving.accepted
  pub cumulative : t.receiving.receiver.cumulative_tsn ≡ s.receiving.receiver.cumulative_tsn
  pub made : t.made ≡ s.made
  pub sacks : t.sacks ≡ s.sacks

pub rests-same : (s : Session) → Rests s s
rests-same s = record { sending = refl; accepted = refl; cumulative = refl; made = refl; sacks = refl }

pub rests-then : (s t u : Session) → Rests s t → Rests t u → Rests s u
rests-then s t u a c = grind (arith, nat_tests)

-- ## Reading

module _ (b : Setting) where
  -- where nothing is to be read, whatever else is as it was, it can end
  abbrev pub EndsRead : ℕ → Session → Type 0
  EndsRead n s = (t : Session) → At b n t → Rests s t → reads_nothing t.receiving.receiver ≡ true → Ends b t

  read-on : (n : ℕ) (s : Session) → At b n s → EndsRead n s → (Readable s.receiving.receiver.streams → Ends b s) → Ends b s
  read-on n s i next more = grind (arith, nat_tests, readable, rests-same)

  read-all : (m n : ℕ) (s : Session) → At b n s → sum_by sets s.receiving.receiver.streams ≤ m → EndsRead n s → Ends b s
  unfolding read_of
  read-all zero n s i le next = read-on n s i next (λ r. let lt = r.fewer in absurd (omega (arith, le, lt)))
  read-all (suc m) n s i le next = read-on n s i next (λ r.
      let t = read_of r.number s in
      let f = reads-on r.number s r.there in
      let lt = r.fewer in
      receiver-before b n (reads r.number) s t i f
      (read-all m n t (at-same b n (of_receiver (reads r.number)) s t f refl refl refl (omega arith) (omega arith) (let less =
      read-cost r.number s.receiving.receiver.streams in
      omega (arith, less)) i) (omega (arith, le, lt)) (λ u j x none.
      next u j (rests-then s t u (record { sending = refl; accepted = refl; cumulative = refl; made = refl; sacks = refl }) x) none)))

  pub ends-read : (n : ℕ) (s : Session) → At b n s → EndsRead n s → Ends b s
  ends-read n s i next = read-all (sum_by sets s.receiving.receiver.streams) n s i (omega arith) next

-- ## Opening

-- one more stream is open, or it was
pub record Opens (stream : ℕ) (s t : Session) : Type 0 where
  pub rests : Rests s t
  pub there : is_open stream t.receiving.receiver ≡ true
  pub stays : (x : ℕ) → is_open x s.receiving.receiver ≡ true → is_open x t.receiving.receiver ≡ true
  pub unread : reads_nothing s.receiving.receiver ≡ true → reads_nothing t.receiving.receiver ≡ true

found-more : (p : InboundStream → Bool) (ls ms : List InboundStream) → is_some (find p ls) ≡ true → is_some (find p (ls ++ ms)) ≡ true
found-more p [] ms e = absurd (not_both e)
found-more p (l ∷ ls) ms e = grind (arith, nat_tests, is_some, found-more p ls ms)

found-last : (p : InboundStream → Bool) (ls : List InboundStream) (m : InboundStream) → p m ≡ true → is_some (find p (ls ++ m ∷ [])) ≡ true
found-last p [] m e = ap (λ c. is_some (if c then Some m else None)) e
found-last p (l ∷ ls) m e = grind (arith, nat_tests, is_some, found-last p ls m e)

abbrev after_opens : ℕ → Session → Session
after_opens stream s = record s { receiving = record s.receiving { receiver = open_stream stream s.receiving.receiver } }

opens-one : (stream : ℕ) (s : Session) → is_open stream s.receiving.receiver ≡ false → ReceiverFollows (opens stream) s (after_opens stream s)
opens-one stream s none = grind (arith, nat_tests)

opened : (stream : ℕ) (s : Session) → Opens stream s (after_opens stream s)
opened stream s = grind (arith, nat_tests, and, found-last, found-more, list_all-append, same-yes)

module _ (b : Setting) where
  pub ends-open : (stream n : ℕ) (s : Session) → At b n s → ((t : Session) → At b n t → Opens stream s t → Ends b t) → Ends b s
  ends-open stream n s i next = by (is_open stream s.receiving.receiver) refl
    where
      by : (c : Bool) → is_open stream s.receiving.receiver ≡ c → Ends b s
      by true e = next s i (record { rests = rests-same s; there = e; stays = λ x o. o; unread = λ o. o })
      by false e =
          let t = after_opens stream s in
          let f = opens-one stream s e in
          receiver-before b n (opens stream) s t i f
          (next t (at-same b n (of_receiver (opens stream)) s t f refl refl refl (omega arith) (omega arith)
          (let same = open-cost stream s.receiving.receiver.max_message_size s.receiving.receiver.streams in omega (arith, same)) i) (opened stream s))
