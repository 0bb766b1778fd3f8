-- What is held after each run of calls, and what a SACK tells of it.
use Rattle.sctp_receiver.proofs.Names.{◌≡◌, ℕ, ◌+◌, ◌*◌, ◌<◌, ◌≤◌, ◌^◌, Bool, true, false, List, [], ◌∷◌, ◌++◌, map, length, Option, Some, None, refl, ap, sym}
use Rattle.sctp_receiver.proofs.Names.{◌∙◌, arith, subst, if◌then◌else◌, find, sum_by, sum_by-cons, change_where, ChunkPayloadData}
use Rattle.sctp_receiver.proofs.Names.{ChunkForwardTsnStream, ChunkSet, ForwardTsn, set_chunks, ReassemblyState, message_read, New, Repeat, InboundStream}
use Rattle.sctp_receiver.proofs.Names.{Limits, number, numbers_of, has_number, new_stream, with_queue, Pushes, PushesAs, stream_read, ssn_forwarded}
use Rattle.sctp_receiver.proofs.Names.{named_forwarded, unassembled_forwarded, chunk_cost, cost_of, Reception, Accepts, filter_of, with_filter, repeat_tsn}
use Rattle.sctp_receiver.proofs.Names.{after_discard, message_of, message_on, is_stale, follow_forward_tsn, after_forward, Call, opens, closes, takes, discards}
use Rattle.sctp_receiver.proofs.Names.{reports, reports_within, reads, resets, forwards, forwards_by_names, Message, Stand, Makes, accepted_after, with_message}
use Rattle.sctp_receiver.proofs.Names.{Follows, RunsTo, at_start, stream_reset, incomplete_forwarded, without_incomplete, after_forward_tsn, has_come, with_tsn}
use Rattle.sctp_receiver.proofs.Names.{AfterEachLimitedRun, bytes_of}
use Rattle.sctp_reassembly.specs.reassembly_queue.ReassemblyQueue.{IsCounted, held_bytes, set_bytes, bytes_read}
use Rattle.sctp_reassembly.proofs.lemmas.reassembly_queue.ByteCounts.{ordered_counted, unordered_counted, skip_counted, drop_counted, incomplete_counted}
use Rattle.sctp_reassembly.proofs.lemmas.reassembly_queue.Resets.{reset_counted}
use Rattle.sctp_receiver.specs.Limits.{window_left}
use Rattle.sctp_receiver.specs.ReceiverRuns.{messages_after}
use Rattle.sctp_receiver.specs.Credit.{cost_of_chunks, cost_held_on, AfterEachUnlimitedRun, TellsWhatIsLeft}
use Rattle.sctp_receiver.specs.Credit.{OpensByReads, TellsTheMost}
use Rattle.sctp_receiver.proofs.DataEach.{takes-keeps}
use Rattle.sctp_receiver.proofs.Forwarded.{followed-numbers}
use Rattle.sctp_receiver.proofs.Inbounds.{stays-mapped, stays-changed}
use Rattle.sctp_receiver.proofs.Receptions.{read-numbers}
use Rattle.sctp_receiver.proofs.StreamCosts.{are_apart, changed-cost, mapped-cost, named-cost, opened-cost, one-changed, more-apart}
use Rattle.sctp_receiver.proofs.Closed.{closed-apart, closed-cost}
use Rattle.sctp_stream.proofs.Removals.{out-each}
use Rattle.sctp_stream.specs.Numbers.{swapped_out}
use Rattle.std.specs.List.{AllByRecursion}
use Rattle.sctp_receiver.proofs.Weights as weights
use Rattle.sctp_receiver.proofs.Weights.{weight, message_weight}

-- ## Streams that count the bytes which they hold

abbrev AllCounted : List InboundStream → Type 0
AllCounted ls = AllByRecursion (λ l. IsCounted l.queue) ls

changed-counted : (p : InboundStream → Bool) (f : InboundStream → InboundStream) → ((l : InboundStream) → IsCounted l.queue → IsCounted (f l).queue)
    → (ls : List InboundStream) → AllCounted ls → AllCounted (change_where p f ls)
changed-counted p f keeps [] a = tt
changed-counted p f keeps (l ∷ ls) a = (by (p l), changed-counted p f keeps ls a.1)
  where
    by : (b : Bool) → IsCounted (if b then f l else l).queue
    by true = keeps l a.0
    by false = a.0

mapped-counted : (f : InboundStream → InboundStream) → ((l : InboundStream) → IsCounted l.queue → IsCounted (f l).queue) → (ls : List InboundStream)
    → AllCounted ls → AllCounted (map f ls)
mapped-counted f keeps [] a = tt
mapped-counted f keeps (l ∷ ls) a = (keeps l a.0, mapped-counted f keeps ls a.1)

named-counted : (ns : List ChunkForwardTsnStream) (ls : List InboundStream) → AllCounted ls → AllCounted (named_forwarded ns ls)
named-counted [] ls a = a
named-counted (n ∷ ns) ls a =
    named-counted ns (change_where (has_number n.identifier) (ssn_forwarded n.sequence) ls)
    (changed-counted (has_number n.identifier) (ssn_forwarded n.sequence) (λ l h. skip_counted n.sequence l.queue h) ls a)

opened-counted : (ls : List InboundStream) (x : InboundStream) → IsCounted x.queue → AllCounted ls → AllCounted (ls ++ x ∷ [])
opened-counted [] x h a = (h, tt)
opened-counted (l ∷ ls) x h a = (a.0, opened-counted ls x h a.1)

found-counted : (p : InboundStream → Bool) (ls : List InboundStream) (x : InboundStream) → find p ls ≡ Some x → AllCounted ls → IsCounted x.queue
found-counted p [] x e a = cc
found-counted p (l ∷ ls) x e a = by (p l) e (λ f. found-counted p ls x f a.1)
  where
    by : (b : Bool) → (if b then Some l else find p ls) ≡ Some x → (find p ls ≡ Some x → IsCounted x.queue) → IsCounted x.queue
    by true e rest = let same : l ≡ x = cc in subst (λ (y : InboundStream). IsCounted y.queue) same a.0
    by false e rest = rest e

read-counted : (l : InboundStream) → IsCounted l.queue → IsCounted (stream_read l).queue
read-counted l h =
    let out = weights.read (λ c. length c.user_data) l.queue.held in
    let same = by (message_read l.queue.held) in
    omega (arith, h, out, same)
  where
    by : (o : Option ChunkSet) → bytes_read o ≡ message_weight (λ c. length c.user_data) o
    by None = refl
    by (Some set) = refl

pushed-counted : (c : ChunkPayloadData) (complete : Bool) (old new : ReassemblyState) → Pushes c complete old new
    → held_bytes old.held + length c.user_data < 2 ^ 64 → IsCounted old → IsCounted new
pushed-counted c complete old new p fits h = by c.unordered p
  where
    by : (b : Bool) → PushesAs b c complete old new → IsCounted new
    by false e = subst IsCounted (sym e.0) (ordered_counted c old fits h)
    by true e = unordered_counted c old new complete e fits h

-- ## What they cost

chunks-cost : (xs : List ChunkPayloadData) → cost_of_chunks xs ≡ bytes_of xs + chunk_cost * length xs
chunks-cost [] = refl
chunks-cost (x ∷ xs) =
    let a = sum_by-cons (λ (c : ChunkPayloadData). length c.user_data + chunk_cost) x xs in
    let b = sum_by-cons (λ (c : ChunkPayloadData). length c.user_data) x xs in
    let ih = chunks-cost xs in
    omega (arith, a, b, ih)

sets-cost : (sets : List ChunkSet) → sum_by (λ set. cost_of_chunks set.chunks) sets ≡ set_bytes sets + chunk_cost * set_chunks sets
sets-cost [] = refl
sets-cost (s ∷ sets) =
    let a = sum_by-cons (λ (set : ChunkSet). cost_of_chunks set.chunks) s sets in
    let b = sum_by-cons (λ (set : ChunkSet). bytes_of set.chunks) s sets in
    let d = sum_by-cons (λ (set : ChunkSet). length set.chunks) s sets in
    let e = chunks-cost s.chunks in
    let ih = sets-cost sets in
    omega (arith, a, b, d, e, ih)

stream-cost : (l : InboundStream) → IsCounted l.queue → cost_of l ≡ cost_held_on l
stream-cost l h =
    let a = sets-cost l.queue.held.ordered in
    let b = sets-cost l.queue.held.unordered in
    let c = chunks-cost l.queue.held.unassembled in
    omega (arith, h, a, b, c)

streams-cost : (ls : List InboundStream) → AllCounted ls → sum_by cost_of ls ≡ sum_by cost_held_on ls
streams-cost [] a = refl
streams-cost (l ∷ ls) a =
    let x = sum_by-cons cost_of l ls in
    let y = sum_by-cons cost_held_on l ls in
    let h = stream-cost l a.0 in
    let ih = streams-cost ls a.1 in
    omega (arith, x, y, h, ih)

-- ## What is held, however chunks are weighed

module _ (w : ChunkPayloadData → ℕ) where
  abbrev on : InboundStream → ℕ
  on l = weight w l.queue.held

  abbrev weight_read : List Message → ℕ
  weight_read ms = sum_by (λ m. sum_by w m.fragments) ms

  within : (m : InboundStream → ℕ) (p : InboundStream → Bool) (ls : List InboundStream) (x : InboundStream) → find p ls ≡ Some x → m x ≤ sum_by m ls
  within m p [] x e = cc
  within m p (l ∷ ls) x e = by (p l) e (within m p ls x)
    where
      by : (b : Bool) → (if b then Some l else find p ls) ≡ Some x → (find p ls ≡ Some x → m x ≤ sum_by m ls) → m x ≤ sum_by m (l ∷ ls)
      by true e rest = let same : l ≡ x = cc in let is = ap m same in let a = sum_by-cons m l ls in omega (arith, is, a)
      by false e rest = let ih = rest e in let a = sum_by-cons m l ls in omega (arith, ih, a)

  -- a message leaves its stream
  one-read : (s : ℕ) (ls : List InboundStream)
      → sum_by on (change_where (has_number s) stream_read ls) + message_weight w (message_of (find (has_number s) ls)) ≤ sum_by on ls
  one-read s [] = omega arith
  one-read s (l ∷ ls) = by (has_number s l) (one-read s ls)
    where
      by : (b : Bool) → sum_by on (change_where (has_number s) stream_read ls) + message_weight w (message_of (find (has_number s) ls)) ≤ sum_by on ls
          → sum_by on ((if b then stream_read l else l) ∷ change_where (has_number s) stream_read ls)
          + message_weight w (message_of (if b then Some l else find (has_number s) ls)) ≤ sum_by on (l ∷ ls)
      by true ih =
          let a = sum_by-cons on (stream_read l) (change_where (has_number s) stream_read ls) in
          let b = sum_by-cons on l ls in
          let out = weights.read w l.queue.held in
          let others = changed-cost on (has_number s) stream_read less ls in
          omega (arith, a, b, out, others)
        where
          less : (x : InboundStream) → on (stream_read x) ≤ on x
          less x = let h = weights.read w x.queue.held in omega (arith, h)
      by false ih =
          let a = sum_by-cons on l (change_where (has_number s) stream_read ls) in
          let b = sum_by-cons on l ls in
          omega (arith, a, b, ih)

  read-more : (s : ℕ) (o : Option ChunkSet) (ms : List Message) → weight_read (with_message s o ms) ≡ message_weight w o + weight_read ms
  read-more s None ms = omega arith
  read-more s (Some set) ms =
      let m : Message = record { stream = s; fragments = set.chunks } in
      sum_by-cons (λ (x : Message). sum_by w x.fragments) m ms

-- ## One call

-- the limits are these; no two streams have one number; what is held and what was read weighs no more than what was taken; and each stream
-- counts the bytes that it holds
record IsKept (limits : Option Limits) (r : Reception) (cs : List ChunkPayloadData) (ms : List Message) : Type 0 where
  limited : r.limits ≡ limits
  apart : are_apart (numbers_of r.streams) ≡ true
  held : (w : ChunkPayloadData → ℕ) → sum_by (on w) r.streams + weight_read w ms ≤ sum_by w cs
  counted : bytes_of cs < 2 ^ 64 → AllCounted r.streams

module _ (limits : Option Limits) where
  -- the streams change, and hold no more
  quiet : (r : Reception) (ls : List InboundStream) (cs : List ChunkPayloadData) (ms : List Message) → IsKept limits r cs ms
      → are_apart (numbers_of ls) ≡ true → ((w : ChunkPayloadData → ℕ) → sum_by (on w) ls ≤ sum_by (on w) r.streams)
      → (AllCounted r.streams → AllCounted ls) → IsKept limits (record r { streams = ls }) cs ms
  quiet r ls cs ms k apart less counts = record {
    limited = k.limited;
    apart = apart;
    held = λ w. let h = k.held w in let l = less w in omega (arith, h, l);
    counted = λ few. counts (k.counted few);
  }

  -- they stay
  still : (r new : Reception) (cs : List ChunkPayloadData) (ms : List Message) → IsKept limits r cs ms → new.streams ≡ r.streams
      → new.limits ≡ r.limits → IsKept limits new cs ms
  still r new cs ms k streams same = record {
    limited = same ∙ k.limited;
    apart = ap (λ ls. are_apart (numbers_of ls)) streams ∙ k.apart;
    held = λ w. let h = k.held w in let e = ap (sum_by (on w)) streams in omega (arith, h, e);
    counted = λ few. subst AllCounted (sym streams) (k.counted few);
  }

  accepts : (c : ChunkPayloadData) (complete : Bool) (old new : Reception) (cs : List ChunkPayloadData) (ms : List Message) → IsKept limits old cs ms
      → Accepts c complete old new → IsKept limits new (c ∷ cs) ms
  accepts c complete old new cs ms k a =
      let ls = change_where (has_number c.stream_identifier) (with_queue a.queue) old.streams in
      let streams : new.streams ≡ ls = ap (λ (r : Reception). r.streams) a.after in
      record {
        limited = ap (λ (r : Reception). r.limits) a.after ∙ k.limited;
        apart = ap are_apart (takes-keeps c (New complete) old new a).0 ∙ k.apart;
        held = λ w.
            let h = k.held w in
            let e = ap (sum_by (on w)) streams in
            let more = one-changed (on w) c.stream_identifier (w c) (with_queue a.queue) a.stream old.streams k.apart a.found
            (weights.pushed w c complete a.stream.queue a.queue a.pushed) in
            let taken = sum_by-cons w c cs in
            omega (arith, h, e, more, taken);
        counted = λ few.
            let taken = sum_by-cons (λ (x : ChunkPayloadData). length x.user_data) c cs in
            let was : AllCounted old.streams = k.counted (omega (arith, few, taken)) in
            let h = k.held (λ x. length x.user_data) in
            let one = within (λ x. length x.user_data) (on (λ x. length x.user_data)) (has_number c.stream_identifier) old.streams a.stream a.found in
            let fits : held_bytes a.stream.queue.held + length c.user_data < 2 ^ 64 = omega (arith, few, taken, h, one) in
            let is : IsCounted a.queue = pushed-counted c complete a.stream.queue a.queue a.pushed fits
            (found-counted (has_number c.stream_identifier) old.streams a.stream a.found was) in
            subst AllCounted (sym streams)
            (changed-counted (has_number c.stream_identifier) (with_queue a.queue) (λ l x. is) old.streams was);
      }

  discarded : (t : ℕ) (r : Reception) (cs : List ChunkPayloadData) (ms : List Message) → IsKept limits r cs ms → IsKept limits (after_discard t r) cs ms
  discarded t r cs ms k = by (has_come t (filter_of r))
    where
      by : (b : Bool) → IsKept limits (if b then repeat_tsn t r else with_filter (with_tsn t (filter_of r)) r) cs ms
      by true = still r (repeat_tsn t r) cs ms k refl refl
      by false = still r (with_filter (with_tsn t (filter_of r)) r) cs ms k refl refl

  read : (s : ℕ) (r : Reception) (cs : List ChunkPayloadData) (ms : List Message) → IsKept limits r cs ms
      → IsKept limits (record r { streams = change_where (has_number s) stream_read r.streams }) cs (with_message s (message_on s r) ms)
  read s r cs ms k = record {
    limited = k.limited;
    apart = ap are_apart (read-numbers s r) ∙ k.apart;
    held = λ w.
        let h = k.held w in
        let less = one-read w s r.streams in
        let more = read-more w s (message_on s r) ms in
        omega (arith, h, less, more);
    counted = λ few. changed-counted (has_number s) stream_read read-counted r.streams (k.counted few);
  }

  forwarded : (g : ForwardTsn) (r : Reception) (cs : List ChunkPayloadData) (ms : List Message) → IsKept limits r cs ms
      → IsKept limits (after_forward g r) cs ms
  forwarded g r cs ms k = by (is_stale g r)
    where
      by : (b : Bool) → IsKept limits (if b then r else follow_forward_tsn g r) cs ms
      by true = k
      by false = record {
        limited = k.limited;
        apart = ap are_apart (followed-numbers g r) ∙ k.apart;
        held = λ w.
            let h = k.held w in
            let named = named-cost (on w) (λ ssn l. weights.named w ssn l.queue) g.streams r.streams in
            let less = mapped-cost (on w) (unassembled_forwarded g.new_cumulative_tsn) (λ l. weights.unassembled w g.new_cumulative_tsn l.queue)
            (named_forwarded g.streams r.streams) in
            omega (arith, h, named, less);
        counted = λ few. mapped-counted (unassembled_forwarded g.new_cumulative_tsn) (λ l x. drop_counted g.new_cumulative_tsn l.queue x)
            (named_forwarded g.streams r.streams) (named-counted g.streams r.streams (k.counted few));
      }

  skipped : (g : ForwardTsn) (r : Reception) (cs : List ChunkPayloadData) (ms : List Message) → IsKept limits r cs ms
      → IsKept limits (after_forward_tsn g r) cs ms
  skipped g r cs ms k = by (is_stale g r) (forwarded g r cs ms k)
    where
      by : (b : Bool) → IsKept limits (after_forward g r) cs ms
          → IsKept limits (if b then r else without_incomplete g.new_cumulative_tsn (after_forward g r)) cs ms
      by true h = k
      by false h =
          let ls = (after_forward g r).streams in
          quiet (after_forward g r) (map (incomplete_forwarded g.new_cumulative_tsn) ls) cs ms h
          (ap are_apart (stays-mapped number (incomplete_forwarded g.new_cumulative_tsn) (λ l. refl) ls) ∙ h.apart)
          (λ w. mapped-cost (on w) (incomplete_forwarded g.new_cumulative_tsn) (λ l. weights.incomplete w g.new_cumulative_tsn l.queue) ls)
          (mapped-counted (incomplete_forwarded g.new_cumulative_tsn) (λ l x. incomplete_counted g.new_cumulative_tsn l.queue x) ls)

  made : (c : Call) (old new : Reception) (cs : List ChunkPayloadData) (ms : List Message) → IsKept limits old cs ms → Makes c old new
      → IsKept limits new (accepted_after c cs) (messages_after c old ms)
  made (opens stream) old new cs ms k m =
      let x = new_stream stream old.max_message_size in
      subst (λ r. IsKept limits r cs ms) (sym m.1)
      (quiet old (old.streams ++ x ∷ []) cs ms k (more-apart old.streams x k.apart m.0)
      (λ w. let e = opened-cost (on w) old.streams x refl in omega (arith, e)) (opened-counted old.streams x refl))
  made (closes stream) old new cs ms k m =
      subst (λ r. IsKept limits r cs ms) (sym m)
      (quiet old (swapped_out (has_number stream) old.streams) cs ms k (closed-apart stream old.streams k.apart)
      (λ w. closed-cost (on w) stream old.streams) (out-each (has_number stream) (λ (l : InboundStream). IsCounted l.queue) old.streams))
  made (takes c (New complete)) old new cs ms k m = accepts c complete old new cs ms k m
  made (takes c Repeat) old new cs ms k m =
      still old new cs ms k (ap (λ (r : Reception). r.streams) m) (ap (λ (r : Reception). r.limits) m)
  made (discards tsn) old new cs ms k m = subst (λ r. IsKept limits r cs ms) (sym m) (discarded tsn old cs ms k)
  made reports old new cs ms k m =
      still old new cs ms k (ap (λ (r : Reception). r.streams) m) (ap (λ (r : Reception). r.limits) m)
  made (reports_within bytes) old new cs ms k m =
      still old new cs ms k (ap (λ (r : Reception). r.streams) m) (ap (λ (r : Reception). r.limits) m)
  made (reads stream) old new cs ms k m =
      subst (λ r. IsKept limits r cs (with_message stream (message_on stream old) ms)) (sym m) (read stream old cs ms k)
  made (resets stream last) old new cs ms k m =
      subst (λ r. IsKept limits r cs ms) (sym m)
      (quiet old (change_where (has_number stream) (stream_reset last) old.streams) cs ms k
      (ap are_apart (stays-changed number (stream_reset last) (λ x. refl) (has_number stream) old.streams) ∙ k.apart)
      (λ w. changed-cost (on w) (has_number stream) (stream_reset last) (λ l. weights.reset w last l.queue) old.streams)
      (changed-counted (has_number stream) (stream_reset last) (λ l x. reset_counted last l.queue x) old.streams))
  made (forwards g) old new cs ms k m = subst (λ r. IsKept limits r cs ms) (sym m) (skipped g old cs ms k)
  made (forwards_by_names g) old new cs ms k m = subst (λ r. IsKept limits r cs ms) (sym m) (forwarded g old cs ms k)

  -- ## Every run

  step : (c : Call) (old new : Stand) → IsKept limits old.receiver old.accepted old.read → Follows c old new
      → IsKept limits new.receiver new.accepted new.read
  step c old new k f =
      subst (λ cs. IsKept limits new.receiver cs new.read) (sym f.accepted)
      (subst (λ ms. IsKept limits new.receiver (accepted_after c old.accepted) ms) (sym f.read)
      (made c old.receiver new.receiver old.accepted old.read k f.receiver))

  run : (calls : List Call) (old new : Stand) → IsKept limits old.receiver old.accepted old.read → RunsTo old calls new
      → IsKept limits new.receiver new.accepted new.read
  run [] old new k e = subst (λ (s : Stand). IsKept limits s.receiver s.accepted s.read) (sym e) k
  run (c ∷ cs) old new k r = run cs r.0 new (step c old r.0 k r.1.0) r.1.1

  after-run : (tsn max : ℕ) (calls : List Call) (s : Stand) → RunsTo (at_start tsn max limits) calls s
      → IsKept limits s.receiver s.accepted s.read
  after-run tsn max calls s r =
      run calls (at_start tsn max limits) s (record { limited = refl; apart = refl; held = λ w. omega arith; counted = λ few. tt }) r

-- ## The laws

left-is : (l : Limits) (s : Stand) → l.window < 2 ^ 64 → IsKept (Some l) s.receiver s.accepted s.read → bytes_of s.accepted < 2 ^ 64 → TellsWhatIsLeft l s
left-is l s usize k few = λ room.
    let e = streams-cost s.receiver.streams (k.counted few) in
    let is = ap (λ o. window_left o s.receiver.streams) k.limited in
    is ∙ omega (arith, usize, e)

pub exact : AfterEachLimitedRun TellsWhatIsLeft
exact tsn max l calls s usize r few = left-is l s usize (after-run (Some l) tsn max calls s r) few

pub left : AfterEachLimitedRun OpensByReads
left tsn max l calls s usize r few = λ room.
    let k = after-run (Some l) tsn max calls s r in
    let e = left-is l s usize k few room in
    let h = k.held (λ c. length c.user_data + chunk_cost) in
    omega (arith, e, h)

pub unlimited : AfterEachUnlimitedRun TellsTheMost
unlimited tsn max calls s r = λ room. ap (λ o. window_left o s.receiver.streams) (after-run None tsn max calls s r).limited
