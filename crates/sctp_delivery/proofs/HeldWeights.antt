-- What a stream holds weighs no more after a call than before, but for a chunk that is taken; and no less than the message that is read of it.
use Rattle.sctp_delivery.proofs.Names.{common_steps, nat_tests, ◌≡◌, ℕ, ◌+◌, ◌≤◌, Bool, true, List, [], ◌∷◌, Option, Some, None, refl, ap, arith, ◌==◌}
use Rattle.sctp_delivery.proofs.Names.{if◌then◌else◌, option_map, find-append, ChunkPayloadData, ForwardTsn, InboundStream, Reception, stream_of, with_queue}
use Rattle.sctp_delivery.proofs.Names.{Accepts, ReassemblyState, message_on, is_on, held_weight, weight, skipped_each, unassembled_forwarded, stream_forwarded}
use Rattle.sctp_delivery.proofs.Names.{incomplete_forwarded, follow_forward_tsn, without_incomplete, after_forward_tsn, is_stale, ssns_of, same-yes}
use Rattle.sctp_delivery.proofs.Names.{ReceiverCall, ReceiverFollows, Session, New, Repeat, same-is}
use Rattle.sctp_receiver.specs.Inbound.{numbers_of}
use Rattle.sctp_receiver.specs.Receiver.{after_read, open_stream}
use Rattle.sctp_receiver.proofs.Forwarded.{found-followed, found-mapped}
use Rattle.sctp_receiver.proofs.Weights as weights
use Rattle.sctp_receiver.proofs.Weights.{message_weight}
use Rattle.sctp_receiver.specs.Resets.{stream_reset}
use Rattle.sctp_receiver.proofs.Closed.{others-left}
use Rattle.sctp_receiver.proofs.StreamCosts.{are_apart}
use Rattle.sctp_stream.proofs.Removals.{out-none}
use Rattle.sctp_delivery.specs.EveryCall.{ReceiverDoes, ReceiverOther, closes_incoming, discards, passes_over, resets_incoming}
use Rattle.sctp_delivery.specs.ReceiverCalls as incoming
use Rattle.sctp_delivery.proofs.Cases.{by-test}
use Rattle.sctp_delivery.proofs.Kept.{accepted-on, changed-elsewhere, changed-here}

-- w: how chunks are weighed; st: a stream
module _ (w : ChunkPayloadData → ℕ) (st : ℕ) where
  abbrev pub on : Reception → ℕ
  on r = held_weight w (stream_of st r)

  -- a chunk that is taken as new
  abbrev pub taken : ReceiverCall → ℕ
  taken (incoming.takes c (New answered)) = if is_on st c then w c else 0
  taken call = 0

  opened : (s : ℕ) (r : Reception) → on (open_stream s r) ≤ on r
  opened s r = grind (arith, nat_tests, common_steps, find-append)

  accepted : (c : ChunkPayloadData) (said : Bool) (old new : Reception) → Accepts c said old new → on new ≤ (if is_on st c then w c else 0) + on old
  accepted c said old new a =
      accepted-on c said old new a st (λ o. held_weight w o ≤ (if is_on st c then w c else 0) + on old)
      (λ off. omega arith)
      (λ here there.
      let h = weights.pushed w c said a.stream.queue a.queue a.pushed in
      let was = ap (held_weight w) there in
      let more : ◌≡◌ {A = ℕ} (if is_on st c then w c else 0) (w c) = ap (λ b. if b then w c else 0) here in
      omega (arith, h, was, more))

  read-less : (stream : ℕ) (r : Reception) → on (after_read stream r) ≤ on r
  read-less stream r = grind (arith, nat_tests, common_steps, changed-here, changed-elsewhere)

  names : (ssns : List ℕ) (q : ReassemblyState) → weight w (skipped_each ssns q).held ≤ weight w q.held
  names [] q = omega arith
  names (n ∷ ns) q = let a = weights.named w n q in let b = names ns (skipped_each (n ∷ []) q) in omega (arith, a, b)

  followed : (f : ForwardTsn) (r : Reception) → on (after_forward_tsn f r) ≤ on r
  followed f r = by (is_stale f r)
    where
      t : ℕ
      t = f.new_cumulative_tsn

      less : (o : Option InboundStream)
          → held_weight w (option_map (incomplete_forwarded t) (option_map (λ l. unassembled_forwarded t (stream_forwarded f.streams l)) o)) ≤ held_weight w o
      less None = omega arith
      less (Some l) =
          let q = skipped_each (ssns_of l.queue.si f.streams) l.queue in
          let a = names (ssns_of l.queue.si f.streams) l.queue in
          let b = weights.unassembled w t q in
          let c = weights.incomplete w t (unassembled_forwarded t (with_queue q l)).queue in
          omega (arith, a, b, c)

      by : (b : Bool) → on (if b then r else without_incomplete t (if b then r else follow_forward_tsn f r)) ≤ on r
      by h0 = grind (arith, nat_tests, common_steps, found-mapped, found-followed, less)

  -- after a call of the receiver
  pub weighs : (call : ReceiverCall) (old new : Session) → ReceiverFollows call old new
      → on new.receiving.receiver ≤ taken call + on old.receiving.receiver
  weighs (incoming.opens stream) old new f =
      let h = opened stream old.receiving.receiver in let is = ap on f.step.receiver.1 in omega (arith, h, is)
  weighs (incoming.takes c (New answered)) old new f =
      accepted c answered old.receiving.receiver new.receiving.receiver f.step.receiver
  weighs (incoming.takes c Repeat) old new f = let is = ap on f.step.receiver in omega (arith, is)
  weighs (incoming.follows g) old new f =
      let h = followed g old.receiving.receiver in let is = ap on f.step.receiver in omega (arith, h, is)
  weighs (incoming.reads stream) old new f =
      let h = read-less stream old.receiving.receiver in let is = ap on f.step.receiver in omega (arith, h, is)
  weighs call old new f = let is = ap on f.step.receiver in omega (arith, is)

  -- after a call of the receiver that most sessions do not have, where each stream has a number of its own
  pub weighs-so : (call : ReceiverOther) (old new : Session) → are_apart (numbers_of old.receiving.receiver.streams) ≡ true → ReceiverDoes call old new
      → on new.receiving.receiver ≤ on old.receiving.receiver
  weighs-so (discards c) old new apart f = grind (arith, nat_tests, common_steps)
  weighs-so (closes_incoming s) old new apart f = grind (arith, nat_tests, common_steps, same-is, out-none, others-left)
  weighs-so (resets_incoming s last) old new apart f =
      let r = old.receiving.receiver in
      let is = ap on f.step.receiver in
      by-test (s == st)
      (λ e.
      let here = ap (held_weight w) (changed-here s (stream_reset last) (λ l g. refl) r.streams st e) in
      let less = begun (stream_of st r) in
      omega (arith, is, here, less))
      (λ e. let same = ap (held_weight w) (changed-elsewhere s (stream_reset last) (λ l g. refl) r.streams st e) in omega (arith, is, same))
    where
      begun : (o : Option InboundStream) → held_weight w (option_map (stream_reset last) o) ≤ held_weight w o
      begun None = omega arith
      begun (Some l) = weights.reset w last l.queue
  weighs-so (passes_over g) old new apart f =
      let h = followed g old.receiving.receiver in let is = ap on f.step.receiver in omega (arith, h, is)

  -- the message that is read was held
  pub read-held : (r : Reception) → message_weight w (message_on st r) + on (after_read st r) ≡ on r
  read-held r = grind (arith, nat_tests, common_steps, changed-here, same-yes)
