-- What a receiver with limits holds, in every run of calls of which none is refused.
use Rattle.sctp_receiver.proofs.Names.{◌≡◌, ℕ, suc, ◌+◌, ◌*◌, ◌<◌, ◌≤◌, ◌^◌, Bool, true, false, List, [], ◌∷◌, ◌++◌, map, length, Option, Some, None, refl, ap}
use Rattle.sctp_receiver.proofs.Names.{sym, ◌∙◌, inl, inr, arith, subst, if◌then◌else◌, ⊤, ◌&&◌, nat_lt, nat_le, All, sum_by, option_or, cases_lt}
use Rattle.sctp_receiver.proofs.Names.{nat_tests, length-append, length-drop, sum_by-cons, change_where, distance, comes_before, ChunkPayloadData, ForwardTsn}
use Rattle.sctp_receiver.proofs.Names.{held_chunks, New, Repeat, InboundStream, Limits, ReceiverRefusal, TsnOpposite, TsnTooFar, WindowFull, number, numbers_of}
use Rattle.sctp_receiver.proofs.Names.{has_number, new_stream, with_queue, stream_read, named_forwarded, unassembled_forwarded, chunk_cost, cost_of, held_cost}
use Rattle.sctp_receiver.proofs.Names.{refusal_by, Reception, filter_of, with_filter, Accepts, noted_by, repeat_tsn, new_refusal, stream_of, stream_refusal}
use Rattle.sctp_receiver.proofs.Names.{data_refusal, discard_refusal, forward_refusal, after_discard, max_sack_entries, duplicates_answered, sack_entries}
use Rattle.sctp_receiver.proofs.Names.{after_sack_within, is_stale, follow_forward_tsn, after_forward, Call, opens, closes, takes, discards, reports}
use Rattle.sctp_receiver.proofs.Names.{reports_within, reads, resets, forwards, forwards_by_names, Stand, Makes, accepted_after, Follows, at_start}
use Rattle.sctp_receiver.proofs.Names.{stream_reset, incomplete_forwarded, without_incomplete, after_forward_tsn, Filter, has_come, is_opposite, highest_tsn}
use Rattle.sctp_receiver.proofs.Names.{with_tsn, skipped_to}
use Rattle.std.proofs.Math.Nat.{mul-le-mul_right, add-mul}
use Rattle.std.proofs.lemmas.List.Sums.{sum_by-le-sum_by}
use Rattle.sctp_receiver.specs.Limits.{refusal_within}
use Rattle.sctp_receiver.specs.Receiver.{arrival_of}
use Rattle.sctp_receiver.specs.ReceiverRuns.{IsAnswered, IsUnrefused, RunsUnrefused, AfterEachRunWithin}
use Rattle.sctp_receiver.specs.ReceiverRuns.{HoldsFewChunks, CostsLittle, NotesFewDuplicates, KeepsFewTsns}
use Rattle.sctp_receiver.proofs.Inbounds.{stays-mapped, stays-changed}
use Rattle.sctp_receiver.proofs.DataEach.{takes-keeps}
use Rattle.sctp_receiver.proofs.Forwarded.{followed-numbers}
use Rattle.sctp_receiver.proofs.GapCounts.{IsAscending, far_in, few-beyond, past-highest, lies-beyond, next-with, next-skipped, reached-with, reached-skipped}
use Rattle.sctp_receiver.proofs.Receptions.{after, read-numbers}
use Rattle.sctp_receiver.proofs.StreamCosts.{IsCost, chunks_cost, chunks-cost, all-cost, are_apart, changed-cost, mapped-cost, named-cost}
use Rattle.sctp_receiver.proofs.StreamCosts.{opened-cost, one-changed, more-apart}
use Rattle.sctp_receiver.proofs.Closed.{closed-apart, closed-cost}
use Rattle.sctp_stream.specs.Numbers.{swapped_out}

-- ## Numbers

-- where no more are missing, and no more is held
no-more : (cost cost' w far far' n n' reach k : ℕ) → cost' ≤ cost → far' + n ≤ far + n' → cost + far * k ≤ w + (reach + n) * k
    → cost' + far' * k ≤ w + (reach + n') * k
no-more cost cost' w far far' n n' reach k less narrower bound =
    let p = mul-le-mul_right k narrower in
    omega (arith, add-mul far' n k, add-mul far n' k, add-mul reach n k, add-mul reach n' k)

-- where one that was missing came
one-filled : (cost cost' w far far' n n' reach k : ℕ) → cost' ≤ cost + k → far' + (n + 1) ≤ far + n' → cost + far * k ≤ w + (reach + n) * k
    → cost' + far' * k ≤ w + (reach + n') * k
one-filled cost cost' w far far' n n' reach k less narrower bound =
    let p = mul-le-mul_right k narrower in
    let one : 1 * k ≡ k = omega arith in
    omega (arith, add-mul far' (n + 1) k, add-mul n 1 k, add-mul far n' k, add-mul reach n k, add-mul reach n' k)

-- where one came past all, with something left of the window
one-past : (cost cost' w far' n n' reach k : ℕ) → cost' ≤ cost + k → cost < w → far' + (n + 1) ≤ reach + n' → cost' + far' * k ≤ w + (reach + n') * k
one-past cost cost' w far' n n' reach k less left narrower =
    let p = mul-le-mul_right k narrower in
    let one : 1 * k ≡ k = omega arith in
    omega (arith, add-mul far' (n + 1) k, add-mul n 1 k, add-mul reach n' k)

-- ## What the limits refuse

-- a new TSN that they do not refuse lies within reach, and either not past the highest or something is left of the window
record IsWithin (l : Limits) (t : ℕ) (f : Filter) (ls : List InboundStream) : Type 0 where
  near : distance f.cumulative_tsn t ≤ l.reach
  unfilled : comes_before (highest_tsn f) t ≡ true → held_cost ls < l.window

within : (l : Limits) (t : ℕ) (f : Filter) (ls : List InboundStream) → refusal_within l t f ls ≡ None → IsWithin l t f ls
within l t f ls e = by (nat_lt l.reach (distance f.cumulative_tsn t)) refl e
  where
    by : (b : Bool) → nat_lt l.reach (distance f.cumulative_tsn t) ≡ b
        → (if b then Some TsnTooFar else (if comes_before (highest_tsn f) t && nat_le l.window (held_cost ls) then Some WindowFull else None)) ≡ None
        → IsWithin l t f ls
    by true h e = cc
    by false h e = record {
      near = grind (arith, nat_tests, h);
      unfilled = λ past.
          left (nat_le l.window (held_cost ls)) refl (subst (λ b. (if b && nat_le l.window (held_cost ls) then Some WindowFull else None) ≡ None) past e);
    }
      where
        left : (c : Bool) → nat_le l.window (held_cost ls) ≡ c → (if c then Some WindowFull else None) ≡ None → held_cost ls < l.window
        left true g e = cc
        left false g e = grind (arith, nat_tests, g)

-- a TSN that is neither refused nor came is new: not opposite, and within the limits
record IsTaken (l : Limits) (t : ℕ) (r : Reception) : Type 0 where
  near : is_opposite t (filter_of r) ≡ false
  limits : IsWithin l t (filter_of r) r.streams

new-taken : (l : Limits) (t : ℕ) (r : Reception) (rest : Option ReceiverRefusal) → r.limits ≡ Some l
    → (if is_opposite t (filter_of r) then Some TsnOpposite else option_or (new_refusal t r) rest) ≡ None → IsTaken l t r
new-taken l t r rest some e = by (is_opposite t (filter_of r)) refl e
  where
    first : (o : Option ReceiverRefusal) → option_or o rest ≡ None → o ≡ None
    first None e = refl
    first (Some x) e = cc

    by : (b : Bool) → is_opposite t (filter_of r) ≡ b → (if b then Some TsnOpposite else option_or (new_refusal t r) rest) ≡ None → IsTaken l t r
    by true h e = cc
    by false h e = record {
      near = h;
      limits = within l t (filter_of r) r.streams (ap (λ o. refusal_by o t (filter_of r) r.streams) (sym some) ∙ first (new_refusal t r) e);
    }

-- ## One call

module _ (m : InboundStream → ℕ) (fits : ChunkPayloadData → Type 0) (most : ℕ) (is : IsCost m fits most) (l : Limits) (usize : l.window < 2 ^ 64) where
  -- with the one chunk that each missing TSN below the highest may still bring, what is held costs no more than the limits say
  abbrev IsWithinLimits : Reception → Type 0
  IsWithinLimits r = sum_by m r.streams + far_in (filter_of r) * most ≤ l.window + (l.reach + length r.beyond) * most

  record IsBounded (r : Reception) (cs : List ChunkPayloadData) : Type 0 where
    limited : r.limits ≡ Some l
    ascending : IsAscending (filter_of r)
    apart : are_apart (numbers_of r.streams) ≡ true
    bound : All fits cs → IsWithinLimits r
    reached : far_in (filter_of r) ≤ l.reach
    noted : length r.duplicates ≤ max_sack_entries

  -- a new TSN comes, and no more than one chunk with it
  module _ (t : ℕ) (r : Reception) (small : t < 2 ^ 32) (a : IsAscending (filter_of r)) (fresh : has_come t (filter_of r) ≡ false) (taken : IsTaken l t r) where
    abbrev next : Filter
    next = with_tsn t (filter_of r)

    new-ascending : IsAscending next
    new-ascending = elim (cases_lt (far_in (filter_of r)) (distance r.cumulative_tsn t)) [
      | inl past ↦ (next-with (filter_of r) t (distance r.cumulative_tsn t) a small fresh taken.near (omega arith) (omega arith)).ascending
      | inr below ↦ (next-with (filter_of r) t (far_in (filter_of r)) a small fresh taken.near below (omega arith)).ascending
    ]

    new-bound : (cost' : ℕ) → cost' ≤ sum_by m r.streams + most → IsWithinLimits r
        → cost' + far_in next * most ≤ l.window + (l.reach + length next.beyond) * most
    new-bound cost' less bound = elim (cases_lt (far_in (filter_of r)) (distance r.cumulative_tsn t)) [
      | inl past ↦
          let near = taken.limits.near in
          let narrower = (next-with (filter_of r) t l.reach a small fresh taken.near near (omega arith)).le in
          let step = lies-beyond (filter_of r) t a small fresh taken.near in
          let left : held_cost r.streams < l.window = taken.limits.unfilled (past-highest (filter_of r) t a small step.near past) in
          let less-than = sum_by-le-sum_by m cost_of r.streams is.within in
          one-past (sum_by m r.streams) cost' l.window (far_in next) (length r.beyond)
          (length next.beyond) l.reach most less (omega (arith, usize, left, less-than)) narrower
      | inr below ↦
          let narrower = (next-with (filter_of r) t (far_in (filter_of r)) a small fresh taken.near below (omega arith)).le in
          one-filled (sum_by m r.streams) cost' l.window (far_in (filter_of r)) (far_in next) (length r.beyond)
          (length next.beyond) l.reach most less narrower bound
    ]

  -- a call by which no TSN comes
  quiet : (r : Reception) (ls : List InboundStream) (cs : List ChunkPayloadData) → IsBounded r cs → are_apart (numbers_of ls) ≡ true
      → sum_by m ls ≤ sum_by m r.streams → IsBounded (record r { streams = ls }) cs
  quiet r ls cs b apart less = record {
    limited = b.limited;
    ascending = record { small = b.ascending.small; rise = b.ascending.rise };
    apart = apart;
    bound = λ fit. let h = b.bound fit in omega (arith, less, h);
    reached = b.reached;
    noted = b.noted;
  }

  duplicated : (r : Reception) (ds : List ℕ) (cs : List ChunkPayloadData) → IsBounded r cs → length ds ≤ max_sack_entries
      → IsBounded (record r { duplicates = ds }) cs
  duplicated r ds cs b few = record {
    limited = b.limited;
    ascending = record { small = b.ascending.small; rise = b.ascending.rise };
    apart = b.apart;
    bound = b.bound;
    reached = b.reached;
    noted = few;
  }

  -- a TSN comes again
  few-noted : (limits : Option Limits) (t : ℕ) (ds : List ℕ) → limits ≡ Some l → length ds ≤ max_sack_entries
      → length (noted_by limits t ds) ≤ max_sack_entries
  few-noted None t ds some few = cc
  few-noted (Some x) t ds some few = by (nat_le max_sack_entries (length ds)) refl
    where
      by : (c : Bool) → nat_le max_sack_entries (length ds) ≡ c → length (if c then ds else ds ++ t ∷ []) ≤ max_sack_entries
      by true h = few
      by false h = let room : length ds < max_sack_entries = grind (arith, nat_tests, h) in omega (arith, room, length-append ds (t ∷ []))

  repeated : (t : ℕ) (r : Reception) (cs : List ChunkPayloadData) → IsBounded r cs → IsBounded (repeat_tsn t r) cs
  repeated t r cs b = duplicated r (noted_by r.limits t r.duplicates) cs b (few-noted r.limits t r.duplicates b.limited b.noted)

  tail : (c : ChunkPayloadData) (cs : List ChunkPayloadData) → All fits (c ∷ cs) → All fits cs
  tail c cs h = λ k d lt. h (suc k) d (omega (arith, lt))

  head : (c : ChunkPayloadData) (cs : List ChunkPayloadData) → All fits (c ∷ cs) → fits c
  head c cs h = h 0 c (omega arith)

  -- ## DATA

  -- one that is answered as new did not come
  complete-new : (t : ℕ) (complete : Bool) (r : Reception) → New complete ≡ arrival_of t complete r → has_come t (filter_of r) ≡ false
  complete-new t complete r e = by (has_come t (filter_of r)) refl e
    where
      by : (b : Bool) → has_come t (filter_of r) ≡ b → New complete ≡ (if b then Repeat else New complete) → has_come t (filter_of r) ≡ false
      by true h e = cc
      by false h e = h

  chunk-taken : (c : ChunkPayloadData) (r : Reception) → r.limits ≡ Some l → has_come c.tsn (filter_of r) ≡ false → data_refusal c r ≡ None → IsTaken l c.tsn r
  chunk-taken c r some fresh e =
      new-taken l c.tsn r (stream_refusal c (stream_of c.stream_identifier r)) some
      (subst (λ b. (if b then None else (if is_opposite c.tsn (filter_of r) then Some TsnOpposite
      else option_or (new_refusal c.tsn r) (stream_refusal c (stream_of c.stream_identifier r)))) ≡ None) fresh e)

  accepts : (c : ChunkPayloadData) (complete : Bool) (old new : Reception) (cs : List ChunkPayloadData) → IsBounded old cs → IsAnswered c (New complete) old
      → Accepts c complete old new → IsBounded new (c ∷ cs)
  accepts c complete old new cs b answered a =
      let fresh = complete-new c.tsn complete old answered.answer in
      let taken = chunk-taken c old b.limited fresh answered.accepted in
      let ls = change_where (has_number c.stream_identifier) (with_queue a.queue) old.streams in
      let r' : Reception = with_filter (with_tsn c.tsn (filter_of old)) (record old { streams = ls }) in
      let ascending = new-ascending c.tsn old answered.fits b.ascending fresh taken in
      let numbers : numbers_of ls ≡ numbers_of old.streams = ap (λ (r : Reception). numbers_of r.streams) (sym a.after)
      ∙ (takes-keeps c (New complete) old new a).0 in
      let bounded : IsBounded r' (c ∷ cs) = record {
        limited = b.limited;
        ascending = record { small = ascending.small; rise = ascending.rise };
        apart = ap are_apart numbers ∙ b.apart;
        bound = λ fit.
            let more = one-changed m c.stream_identifier most (with_queue a.queue) a.stream old.streams b.apart a.found
            (is.pushed c complete a.stream a.queue (head c cs fit) a.pushed) in
            new-bound c.tsn old answered.fits b.ascending fresh taken (sum_by m ls) more (b.bound (tail c cs fit));
        reached = reached-with (filter_of old) c.tsn l.reach b.ascending answered.fits fresh taken.near taken.limits.near b.reached;
        noted = b.noted;
      } in
      subst (λ r. IsBounded r (c ∷ cs)) (sym a.after) bounded

  -- ## A chunk is dropped

  discarded : (t : ℕ) (r : Reception) (cs : List ChunkPayloadData) → IsBounded r cs → t < 2 ^ 32 → discard_refusal t r ≡ None → IsBounded (after_discard t r) cs
  discarded t r cs b small e = by (has_come t (filter_of r)) refl e
    where
      by : (c : Bool) → has_come t (filter_of r) ≡ c → (if c then None else (if is_opposite t (filter_of r) then Some TsnOpposite else new_refusal t r)) ≡ None
          → IsBounded (if c then repeat_tsn t r else with_filter (with_tsn t (filter_of r)) r) cs
      by true h e = repeated t r cs b
      by false h e =
          let taken = new-taken l t r None b.limited (alone (is_opposite t (filter_of r)) e) in
          let ascending = new-ascending t r small b.ascending h taken in
          record {
            limited = b.limited;
            ascending = record { small = ascending.small; rise = ascending.rise };
            apart = b.apart;
            bound = λ fit. new-bound t r small b.ascending h taken (sum_by m r.streams) (omega arith) (b.bound fit);
            reached = reached-with (filter_of r) t l.reach b.ascending small h taken.near taken.limits.near b.reached;
            noted = b.noted;
          }
        where
          alone : (c : Bool) → (if c then Some TsnOpposite else new_refusal t r) ≡ None
              → (if c then Some TsnOpposite else option_or (new_refusal t r) None) ≡ None
          alone true e = e
          alone false e = ap (λ o. option_or o None) e

  -- ## A FORWARD-TSN comes

  forwarded : (g : ForwardTsn) (r : Reception) (cs : List ChunkPayloadData) → IsBounded r cs → g.new_cumulative_tsn < 2 ^ 32 → forward_refusal g r ≡ None
      → IsBounded (after_forward g r) cs
  forwarded g r cs b small e = by (is_stale g r) refl
    where
      near : (c : Bool) → (if c then Some TsnOpposite else None) ≡ None → c ≡ false
      near true e = cc
      near false e = refl

      by : (c : Bool) → is_stale g r ≡ c → IsBounded (if c then r else follow_forward_tsn g r) cs
      by true h = b
      by false h =
          let t = g.new_cumulative_tsn in
          let past = after r.cumulative_tsn t b.ascending.small small (near (is_opposite t (filter_of r)) e) h in
          let next = next-skipped (filter_of r) t b.ascending small past in
          let named = named-cost m is.named g.streams r.streams in
          let less = mapped-cost m (unassembled_forwarded t) (is.unassembled t) (named_forwarded g.streams r.streams) in
          let narrower = next.le in
          record {
            limited = b.limited;
            ascending = record { small = next.ascending.small; rise = next.ascending.rise };
            apart = ap are_apart (followed-numbers g r) ∙ b.apart;
            bound = λ fit. no-more (sum_by m r.streams) (sum_by m (follow_forward_tsn g r).streams) l.window (far_in (filter_of r))
                (far_in (skipped_to t (filter_of r))) (length r.beyond)
                (length (skipped_to t (filter_of r)).beyond) l.reach most (omega (arith, named, less)) narrower (b.bound fit);
            reached = reached-skipped (filter_of r) t l.reach b.ascending small past b.reached;
            noted = b.noted;
          }

  -- and what it leaves that can't become complete is discarded
  skipped : (g : ForwardTsn) (r : Reception) (cs : List ChunkPayloadData) → IsBounded r cs → g.new_cumulative_tsn < 2 ^ 32 → forward_refusal g r ≡ None
      → IsBounded (after_forward_tsn g r) cs
  skipped g r cs b small e = by (is_stale g r) (forwarded g r cs b small e)
    where
      by : (c : Bool) → IsBounded (after_forward g r) cs → IsBounded (if c then r else without_incomplete g.new_cumulative_tsn (after_forward g r)) cs
      by true h = b
      by false h =
          let t = g.new_cumulative_tsn in
          let ls = (after_forward g r).streams in
          quiet (after_forward g r) (map (incomplete_forwarded t) ls) cs h (ap are_apart (stays-mapped number (incomplete_forwarded t) (λ l. refl) ls)
          ∙ h.apart) (mapped-cost m (incomplete_forwarded t) (is.incomplete t) ls)

  -- ## Every run

  step : (c : Call) (old new : Stand) → IsBounded old.receiver old.accepted → IsUnrefused c old.receiver → Follows c old new
      → IsBounded new.receiver new.accepted
  step c old new b u f = subst (IsBounded new.receiver) (sym f.accepted) (by c u f.receiver)
    where
      by : (c : Call) → IsUnrefused c old.receiver → Makes c old.receiver new.receiver → IsBounded new.receiver (accepted_after c old.accepted)
      by (opens stream) u made = subst (λ r. IsBounded r old.accepted) (sym made.1)
          (quiet old.receiver (old.receiver.streams ++ new_stream stream old.receiver.max_message_size ∷ []) old.accepted b
          (more-apart old.receiver.streams (new_stream stream old.receiver.max_message_size) b.apart made.0)
          (let e = opened-cost m old.receiver.streams (new_stream stream old.receiver.max_message_size) (is.fresh stream old.receiver.max_message_size) in
          omega (arith, e)))
      by (closes stream) u made = subst (λ r. IsBounded r old.accepted) (sym made)
          (quiet old.receiver (swapped_out (has_number stream) old.receiver.streams) old.accepted b
          (closed-apart stream old.receiver.streams b.apart) (closed-cost m stream old.receiver.streams))
      by (takes c (New answered)) u made = accepts c answered old.receiver new.receiver old.accepted b u made
      by (takes c Repeat) u made = subst (λ r. IsBounded r old.accepted) (sym made) (repeated c.tsn old.receiver old.accepted b)
      by (discards tsn) u made = subst (λ r. IsBounded r old.accepted) (sym made) (discarded tsn old.receiver old.accepted b u.0 u.1)
      by reports u made = subst (λ r. IsBounded r old.accepted) (sym made) (duplicated old.receiver [] old.accepted b (omega arith))
      by (reports_within bytes) u made = subst (λ r. IsBounded r old.accepted) (sym made)
          (duplicated old.receiver (after_sack_within bytes old.receiver).duplicates old.accepted b
          (let e = length-drop (duplicates_answered (sack_entries bytes) old.receiver) old.receiver.duplicates in omega (arith, e, b.noted)))
      by (reads stream) u made = subst (λ r. IsBounded r old.accepted) (sym made)
          (quiet old.receiver (change_where (has_number stream) stream_read old.receiver.streams) old.accepted b
          (ap are_apart (read-numbers stream old.receiver) ∙ b.apart) (changed-cost m (has_number stream) stream_read is.read old.receiver.streams))
      by (resets stream last) u made = subst (λ r. IsBounded r old.accepted) (sym made)
          (quiet old.receiver (change_where (has_number stream) (stream_reset last) old.receiver.streams) old.accepted b
          (ap are_apart (stays-changed number (stream_reset last) (λ x. refl) (has_number stream) old.receiver.streams)
          ∙ b.apart) (changed-cost m (has_number stream) (stream_reset last) (is.reset last) old.receiver.streams))
      by (forwards g) u made = subst (λ r. IsBounded r old.accepted) (sym made) (skipped g old.receiver old.accepted b u.0 u.1)
      by (forwards_by_names g) u made = subst (λ r. IsBounded r old.accepted) (sym made) (forwarded g old.receiver old.accepted b u.0 u.1)

  run : (calls : List Call) (old new : Stand) → IsBounded old.receiver old.accepted → RunsUnrefused old calls new → IsBounded new.receiver new.accepted
  run [] old new b e = subst (λ (s : Stand). IsBounded s.receiver s.accepted) (sym e) b
  run (c ∷ cs) old new b r = run cs r.0 new (step c old r.0 b r.1.0.0 r.1.0.1) r.1.1

  start : (tsn max : ℕ) → IsBounded (at_start tsn max (Some l)).receiver []
  start tsn max = record {
    limited = refl;
    ascending = record { small = omega arith; rise = refl };
    apart = refl;
    bound = λ fit. omega arith;
    reached = omega arith;
    noted = omega arith;
  }

  after-run : (tsn max : ℕ) (calls : List Call) (s : Stand) → RunsUnrefused (at_start tsn max (Some l)) calls s → IsBounded s.receiver s.accepted
  after-run tsn max calls s r = run calls (at_start tsn max (Some l)) s (start tsn max) r

  -- the TSNs beyond the cumulative one, and those that came again
  pub beyond : (tsn max : ℕ) (calls : List Call) (s : Stand) → RunsUnrefused (at_start tsn max (Some l)) calls s → length s.receiver.beyond ≤ l.reach
  beyond tsn max calls s r =
      let b = after-run tsn max calls s r in
      let few = few-beyond (filter_of s.receiver) b.ascending in
      let reached = b.reached in
      omega (arith, few, reached)

  pub duplicates : (tsn max : ℕ) (calls : List Call) (s : Stand) → RunsUnrefused (at_start tsn max (Some l)) calls s
      → length s.receiver.duplicates ≤ max_sack_entries
  duplicates tsn max calls s r = (after-run tsn max calls s r).noted

  -- what is held alone
  pub held : (tsn max : ℕ) (calls : List Call) (s : Stand) → RunsUnrefused (at_start tsn max (Some l)) calls s → All fits s.accepted
      → sum_by m s.receiver.streams ≤ l.window + l.reach * most
  held tsn max calls s r fit =
      let b = after-run tsn max calls s r in
      let bound = b.bound fit in
      let few = mul-le-mul_right most (few-beyond (filter_of s.receiver) b.ascending) in
      omega (arith, bound, few, add-mul l.reach (length s.receiver.beyond) most)

-- ## The law

times-cost : (f : InboundStream → ℕ) (ls : List InboundStream) → sum_by (λ x. chunk_cost * f x) ls ≡ chunk_cost * sum_by f ls
times-cost f [] = refl
times-cost f (x ∷ ls) = let a = sum_by-cons (λ y. chunk_cost * f y) x ls in let b = sum_by-cons f x ls in let ih = times-cost f ls in omega (arith, a, b, ih)

pub few-chunks : AfterEachRunWithin HoldsFewChunks
few-chunks tsn max l calls s usize r =
    let h = held chunks_cost (λ c. ⊤) chunk_cost chunks-cost l usize tsn max calls s r (λ k d lt. tt) in
    let e = times-cost (λ x. held_chunks x.queue.held) s.receiver.streams in
    omega (arith, h, e)

pub little : AfterEachRunWithin CostsLittle
little tsn max l calls s usize r = λ most fit. held cost_of (λ c. length c.user_data ≤ most) (most + chunk_cost) (all-cost most) l usize tsn max calls s r fit

pub few-tsns : AfterEachRunWithin KeepsFewTsns
few-tsns tsn max l calls s usize r = beyond chunks_cost (λ c. ⊤) chunk_cost chunks-cost l usize tsn max calls s r

pub few-duplicates : AfterEachRunWithin NotesFewDuplicates
few-duplicates tsn max l calls s usize r = duplicates chunks_cost (λ c. ⊤) chunk_cost chunks-cost l usize tsn max calls s r
