-- Following the advice at a refusal settles the next chunk to come.
use Rattle.sctp_receiver.proofs.Names.{◌≡◌, ℕ, ◌<◌, ◌≤◌, ◌^◌, Bool, true, false, List, [], ◌∷◌, ◌++◌, Option, Some, None, refl, ap, sym, ◌∙◌, subst, arith, ⊤}
use Rattle.sctp_receiver.proofs.Names.{if◌then◌else◌, ◌==◌, ◌&&◌, ◌||◌, not, nat_lt, nat_le, find, is_some, list_any, option_or, nat_tests, distance}
use Rattle.sctp_receiver.proofs.Names.{same-yes, same-is, both, not_both, ChunkPayloadData, ForwardTsn, is_too_large, message_read, after_one, following_tsn}
use Rattle.sctp_receiver.proofs.Names.{InboundStream, Limits, ReceiverRefusal, StreamUnknown, TsnOpposite, MessageTooLarge, TsnTooFar, WindowFull, SsnTooFar}
use Rattle.sctp_receiver.proofs.Names.{NamedStreamUnknown, NamedSsnTooFar, has_number, new_stream, cost_of, held_cost, refusal_by, Reception, filter_of}
use Rattle.sctp_receiver.proofs.Names.{stream_of, open_stream, new_refusal, stream_refusal, data_refusal, arrival_refusal, forward_refusal, past_closed_refusal}
use Rattle.sctp_receiver.proofs.Names.{skip_refusal, Filter, has_come, is_opposite, highest_tsn}
use Rattle.sctp_util.specs.Serial.{comes_before}
use Rattle.sctp_receiver.specs.declared.advice.AbortCause.{AbortCause}
use Rattle.sctp_receiver.specs.declared.advice.AbortCause.TheVariants.{OutOfResource, ProtocolViolation}
use Rattle.sctp_receiver.specs.declared.advice.Advice.TheVariants as advice
use Rattle.sctp_receiver.specs.declared.advice.SkipAdvice.TheVariants as skip
use Rattle.sctp_receiver.specs.Advice.{is_any_readable, is_next_to_come, drop_or_abort, advice_for, skip_advice_for, IsDiscarded, IsDropped, SettlesAtOnce}
use Rattle.sctp_receiver.specs.Advice.{IsSettledBy}
use Rattle.sctp_receiver.specs.Advice.{IsSettled, Settles, AdviceSettles, SettlesSkip, SkipAdviceSettles}
use Rattle.sctp_receiver.specs.Limits.{is_beyond_window}
use Rattle.sctp_receiver.specs.Receiver.{close_stream}
use Rattle.sctp_receiver.specs.Receiver.{is_duplicates_full}
use Rattle.sctp_receiver.specs.Skips.{is_ahead, names_closed, names_too_far}
use Rattle.sctp_receiver.specs.Ssns.{is_too_far_on}
use Rattle.sctp_receiver.proofs.Closed.{closed-cost}
use Rattle.sctp_stream.proofs.Removals.{out-none}
use Rattle.sctp_stream.specs.Numbers.{swapped_out}

-- ## Streams

-- one more stream, with nothing to read
none-more : (p : InboundStream → Bool) (ls : List InboundStream) (x : InboundStream) → p x ≡ false → list_any p (ls ++ x ∷ []) ≡ list_any p ls
none-more p [] x h = ap (λ b. b || false) h
none-more p (l ∷ ls) x h = ap (λ b. p l || b) (none-more p ls x h)

found-last : (s : ℕ) (ls : List InboundStream) (x : InboundStream) → has_number s x ≡ true → is_some (find (has_number s) (ls ++ x ∷ [])) ≡ true
found-last s [] x h = ap (λ b. is_some (if b then Some x else None)) h
found-last s (l ∷ ls) x h = by (has_number s l) (found-last s ls x h)
  where
    by : (b : Bool) → is_some (find (has_number s) (ls ++ x ∷ [])) ≡ true → is_some (if b then Some l else find (has_number s) (ls ++ x ∷ [])) ≡ true
    by true ih = refl
    by false ih = ih

-- what limits do not refuse, they do not refuse where less is held
less-refused : (l : Option Limits) (t : ℕ) (f : Filter) (ls ls' : List InboundStream) → held_cost ls' ≤ held_cost ls → refusal_by l t f ls ≡ None
    → refusal_by l t f ls' ≡ None
less-refused None t f ls ls' less h = refl
less-refused (Some l) t f ls ls' less h = far (nat_lt l.reach (distance f.cumulative_tsn t)) h
  where
    full : (past b b' : Bool) → nat_le l.window (held_cost ls) ≡ b → nat_le l.window (held_cost ls') ≡ b'
        → (if past && b then Some WindowFull else None) ≡ None → (if past && b' then Some WindowFull else None) ≡ None
    full false b b' e e' h = refl
    full true true b' e e' h = cc
    full true false false e e' h = refl
    full true false true e e' h =
        let more : held_cost ls < l.window = grind (arith, nat_tests, e) in
        let enough : l.window ≤ held_cost ls' = grind (arith, nat_tests, e') in
        absurd (omega (arith, less, more, enough))

    far : (b : Bool) → (if b then Some TsnTooFar else (if is_beyond_window l.window t f ls then Some WindowFull else None)) ≡ None
        → (if b then Some TsnTooFar else (if is_beyond_window l.window t f ls' then Some WindowFull else None)) ≡ None
    far true h = cc
    far false h = full (comes_before (highest_tsn f) t) (nat_le l.window (held_cost ls)) (nat_le l.window (held_cost ls')) refl refl h

-- a stream that is closed is not open
not-open : (s : ℕ) (ls : List InboundStream) → is_some (find (has_number s) (swapped_out (has_number s) ls)) ≡ false
not-open s ls = ap is_some (out-none (has_number s) ls)

closed-less : (s : ℕ) (r : Reception) → held_cost (close_stream s r).streams ≤ held_cost r.streams
closed-less s r = let h = closed-cost cost_of s r.streams in omega (arith, h)

-- ## Why the next chunk is refused

module _ (c : ChunkPayloadData) (r : Reception) (small : r.cumulative_tsn < 2 ^ 32) (next : is_next_to_come c r ≡ true) where
  is-next : (c.tsn == following_tsn r.cumulative_tsn) ≡ true
  is-next = (both (c.tsn == following_tsn r.cumulative_tsn) (not (is_any_readable r)) next).0

  near : is_opposite c.tsn (filter_of r) ≡ false
  near =
      ap (λ t. distance r.cumulative_tsn t == 2 ^ 31) (same-is c.tsn (following_tsn r.cumulative_tsn) is-next)
      ∙ ap (λ d. d == 2 ^ 31) (after_one r.cumulative_tsn small)

  discarded : (q : Reception) → has_come c.tsn (filter_of q) ≡ false → is_opposite c.tsn (filter_of q) ≡ false → new_refusal c.tsn q ≡ None
      → (c.tsn == following_tsn q.cumulative_tsn) ≡ true → IsDiscarded c.tsn q
  discarded q fresh off within first = record {
    accepted = ap (λ b. if b then None else (if is_opposite c.tsn (filter_of q) then Some TsnOpposite else new_refusal c.tsn q)) fresh
        ∙ ap (λ b. if b then Some TsnOpposite else new_refusal c.tsn q) off ∙ within;
    free = ap (λ b. if b then not (is_duplicates_full q) else not (c.tsn == following_tsn q.cumulative_tsn)) fresh ∙ ap not first;
  }

  -- what is known at each refusal
  abbrev Reasons : Option ReceiverRefusal → Type 0
  Reasons None = ⊤
  Reasons (Some StreamUnknown) = IsDiscarded c.tsn r × (stream_of c.stream_identifier r ≡ None)
  Reasons (Some MessageTooLarge) = IsDropped c (close_stream c.stream_identifier r)
  Reasons (Some WindowFull) = ⊤
  Reasons (Some TsnTooFar) = ⊤
  Reasons (Some SsnTooFar) = ⊤
  Reasons (Some _) = ⊥

  limit-reasons : (o : Option Limits) (rest : Option ReceiverRefusal) → (refusal_by o c.tsn (filter_of r) r.streams ≡ None → Reasons rest)
      → Reasons (option_or (refusal_by o c.tsn (filter_of r) r.streams) rest)
  limit-reasons None rest then' = then' refl
  limit-reasons (Some l) rest then' = far (nat_lt l.reach (distance r.cumulative_tsn c.tsn)) then'
    where
      full : (b : Bool) → ((if b then Some WindowFull else None) ≡ None → Reasons rest) → Reasons (option_or (if b then Some WindowFull else None) rest)
      full true then' = tt
      full false then' = then' refl

      far : (b : Bool)
          → ((if b then Some TsnTooFar else (if is_beyond_window l.window c.tsn (filter_of r) r.streams then Some WindowFull else None)) ≡ None → Reasons rest)
          → Reasons (option_or (if b then Some TsnTooFar else (if is_beyond_window l.window c.tsn (filter_of r) r.streams then Some WindowFull else None)) rest)
      far true then' = tt
      far false then' = full (is_beyond_window l.window c.tsn (filter_of r) r.streams) then'

  stream-reasons : (o : Option InboundStream) → stream_of c.stream_identifier r ≡ o → has_come c.tsn (filter_of r) ≡ false → new_refusal c.tsn r ≡ None
      → Reasons (stream_refusal c o)
  stream-reasons None closed fresh within = (discarded r fresh near within is-next, closed)
  stream-reasons (Some l) found fresh within = by (is_too_large c l.queue)
    where
      by : (b : Bool) → Reasons (if b then Some MessageTooLarge else None)
      by true = record {
        closed = not-open c.stream_identifier r.streams;
        discarded = discarded (close_stream c.stream_identifier r) fresh near
            (less-refused r.limits c.tsn (filter_of r) r.streams (close_stream c.stream_identifier r).streams (closed-less c.stream_identifier r) within)
            is-next;
      }
      by false = tt

  data-reasons : Reasons (data_refusal c r)
  data-reasons = by (has_come c.tsn (filter_of r)) refl
    where
      by : (b : Bool) → has_come c.tsn (filter_of r) ≡ b
          → Reasons (if b then None else (if is_opposite c.tsn (filter_of r) then Some TsnOpposite
          else option_or (new_refusal c.tsn r) (stream_refusal c (stream_of c.stream_identifier r))))
      by true e = tt
      by false fresh =
          subst (λ b. Reasons (if b then Some TsnOpposite
          else option_or (new_refusal c.tsn r) (stream_refusal c (stream_of c.stream_identifier r)))) (sym near)
          (limit-reasons r.limits (stream_refusal c (stream_of c.stream_identifier r))
          (λ within. stream-reasons (stream_of c.stream_identifier r) refl fresh within))

  reasons : Reasons (arrival_refusal c r)
  reasons = by (not (has_come c.tsn (filter_of r)) && is_too_far_on c (stream_of c.stream_identifier r))
    where
      by : (b : Bool) → Reasons (if b then Some SsnTooFar else data_refusal c r)
      by true = tt
      by false = data-reasons

  aborts : (cause : AbortCause) → SettlesAtOnce (drop_or_abort cause c r) c r
  aborts cause = subst (λ b. SettlesAtOnce (if b then advice.Abort cause else advice.Drop) c r) (sym next) tt

  aborted : (cause : AbortCause) → Settles (drop_or_abort cause c r) c r
  aborted cause = subst (λ b. Settles (if b then advice.Abort cause else advice.Drop) c r) (sym next) tt

  -- where its stream is open
  at-once : is_some (stream_of c.stream_identifier r) ≡ true → (o : Option ReceiverRefusal) → Reasons o → IsSettledBy o c r
  at-once known None why = tt
  at-once known (Some StreamUnknown) why = absurd (not_both (sym (ap is_some why.1) ∙ known))
  at-once known (Some MessageTooLarge) why = why
  at-once known (Some WindowFull) why = aborts OutOfResource
  at-once known (Some TsnTooFar) why = aborts OutOfResource
  at-once known (Some SsnTooFar) why = aborts ProtocolViolation
  at-once known (Some _) why = absurd why

-- ## The law

-- once its stream is opened
opened : (c : ChunkPayloadData) (r : Reception) → r.cumulative_tsn < 2 ^ 32 → is_next_to_come c r ≡ true → IsSettled c (open_stream c.stream_identifier r)
opened c r small next =
    let s = c.stream_identifier in
    let x = new_stream s r.max_message_size in
    let readable : InboundStream → Bool = λ l. is_some (message_read l.queue.held) in
    let next' : is_next_to_come c (open_stream s r) ≡ true =
    ap (λ b. (c.tsn == following_tsn r.cumulative_tsn) && not b) (none-more readable r.streams x refl) ∙ next in
    at-once c (open_stream s r) small next' (found-last s r.streams x (same-yes s)) (arrival_refusal c (open_stream s r))
    (reasons c (open_stream s r) small next')

pub settles : AdviceSettles
settles c r e small next is = by e (subst (Reasons c r small next) is (reasons c r small next))
  where
    by : (e : ReceiverRefusal) → Reasons c r small next (Some e) → Settles (advice_for e c r) c r
    by StreamUnknown why = (why.0, opened c r small next)
    by MessageTooLarge why = why
    by WindowFull why = aborted c r small next OutOfResource
    by TsnTooFar why = aborted c r small next OutOfResource
    by SsnTooFar why = aborted c r small next ProtocolViolation
    by _ why = absurd why

-- ## A FORWARD-TSN

ahead-near : (a b : ℕ) → comes_before a b ≡ true → (distance a b == 2 ^ 31) ≡ false
unfolding comes_before
ahead-near a b h =
    let lt = (both (nat_lt 0 (distance a b)) (nat_lt (distance a b) (2 ^ 31)) h).1 in
    let less : distance a b < 2 ^ 31 = grind (arith, nat_tests, lt) in
    grind (arith, nat_tests)

module _ (f : ForwardTsn) (r : Reception) (unread : is_any_readable r ≡ false) where
  abbrev SkipReasons : Option ReceiverRefusal → Type 0
  SkipReasons None = ⊤
  SkipReasons (Some NamedStreamUnknown) = (e : ReceiverRefusal) → past_closed_refusal f r ≡ Some e → e ≡ NamedSsnTooFar
  SkipReasons (Some NamedSsnTooFar) = ⊤
  SkipReasons (Some TsnOpposite) = is_opposite f.new_cumulative_tsn (filter_of r) ≡ true
  SkipReasons (Some _) = ⊥

  -- a chunk that is followed is refused for a name alone
  named : is_ahead f r ≡ true → (e : ReceiverRefusal) → past_closed_refusal f r ≡ Some e → e ≡ NamedSsnTooFar
  named ahead e is = by (names_too_far f r) (subst (λ b. (if names_too_far f r then Some NamedSsnTooFar else (if b then Some TsnOpposite else None)) ≡ Some e)
      (ahead-near r.cumulative_tsn f.new_cumulative_tsn ahead) is)
    where
      by : (b : Bool) → (if b then Some NamedSsnTooFar else None) ≡ Some e → e ≡ NamedSsnTooFar
      by true h = cc
      by false h = cc

  skip-reasons : SkipReasons (skip_refusal f r)
  skip-reasons = by (names_closed f r) refl
    where
      opposite : (b : Bool) → is_opposite f.new_cumulative_tsn (filter_of r) ≡ b → SkipReasons (if b then Some TsnOpposite else None)
      opposite true h = h
      opposite false h = tt

      far : (b : Bool) → SkipReasons (if b then Some NamedSsnTooFar else forward_refusal f r)
      far true = tt
      far false = opposite (is_opposite f.new_cumulative_tsn (filter_of r)) refl

      by : (b : Bool) → names_closed f r ≡ b → SkipReasons (if b then Some NamedStreamUnknown else past_closed_refusal f r)
      by true h = named (both (is_ahead f r) _ h).0
      by false h = far (names_too_far f r)

pub settles-skip : SkipAdviceSettles
settles-skip f r e unread is = by e (subst (SkipReasons f r unread) is (skip-reasons f r unread))
  where
    by : (e : ReceiverRefusal) → SkipReasons f r unread (Some e) → SettlesSkip (skip_advice_for e r) f r
    by NamedStreamUnknown why = why
    by NamedSsnTooFar why = subst (λ b. SettlesSkip (if b then skip.Drop else skip.Abort ProtocolViolation) f r) (sym unread) tt
    by TsnOpposite why = why
    by _ why = absurd why
