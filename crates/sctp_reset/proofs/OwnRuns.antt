-- What a run of calls leaves of the streams asked for.
use Rattle.std.proofs.Common.{◌≡◌, ℕ, zero, suc, ◌≤◌, Bool, true, false, List, [], ◌∷◌, ◌++◌, length, Option, Some, None, refl, ap, ◌∙◌, arith, length-append}
use Rattle.std.proofs.Common.{append_assoc}
use Rattle.std.specs.Prelude.{◌==◌, ◌||◌, if◌then◌else◌}
use Rattle.std.specs.List.{list_any}
use Rattle.std.specs.Option.{option_map}
use Rattle.std.proofs.lemmas.List.{append-nil}
use Rattle.std.proofs.lemmas.List.Folds.{list_any-append}
use Rattle.sctp_params.specs.declared.param.param_reconfig_response.ReconfigResult.{ReconfigResult}
use Rattle.sctp_params.specs.declared.param.param_reconfig_response.ReconfigResult.TheVariants.{SuccessNop, SuccessPerformed, Denied, ErrorWrongSsn}
use Rattle.sctp_params.specs.declared.param.param_reconfig_response.ReconfigResult.TheVariants.{ErrorRequestAlreadyInProgress, ErrorBadSequenceNumber}
use Rattle.sctp_params.specs.declared.param.param_reconfig_response.ReconfigResult.TheVariants.{InProgress, Unknown}
use Rattle.sctp_util.proofs.Cases.{by_same, same-yes}
use Rattle.sctp_reset.specs.declared.own_requests.Answer.TheVariants.{NotUnderWay}
use Rattle.sctp_reset.specs.Requests.{Request, Requests, streams_of}
use Rattle.sctp_reset.specs.Own.{start, is_stream, is_asked, after_ask, picked, unpicked, begin_with, after_begin, sent_at, after_sent, answer_of, answer_to}
use Rattle.sctp_reset.specs.Own.{left_after, left_of, after_response}
use Rattle.sctp_reset.specs.Runs.{OwnCall, asks, begins, sends, learns, after_call, after_calls, streams_asked, streams_ended, IsEachOnce, AsksEachOnce}
use Rattle.sctp_reset.specs.Runs.{StaysAsked, AddsNothing, HoldsAfterEachRun}

-- ## A split keeps the streams

-- among both lists, or among all
any-split : (t drained : ℕ → Bool) (most : ℕ) (ss : List ℕ)
    → (list_any t (picked drained most ss) || list_any t (unpicked drained most ss)) ≡ list_any t ss
any-split t drained zero ss = refl
any-split t drained (suc most) [] = refl
any-split t drained (suc most) (s ∷ ss) = step (drained s) refl (any-split t drained most ss) (any-split t drained (suc most) ss)
  where
    turn : (a b c : Bool) → (a || (b || c)) ≡ (b || (a || c))
    turn true true c = refl
    turn true false c = refl
    turn false true c = refl
    turn false false c = refl

    join : (a b c : Bool) → ((a || b) || c) ≡ (a || (b || c))
    join true b c = refl
    join false b c = refl

    step : (b : Bool) → drained s ≡ b
        → (list_any t (picked drained most ss) || list_any t (unpicked drained most ss)) ≡ list_any t ss
        → (list_any t (picked drained (suc most) ss) || list_any t (unpicked drained (suc most) ss)) ≡ list_any t ss
        → (list_any t (picked drained (suc most) (s ∷ ss)) || list_any t (unpicked drained (suc most) (s ∷ ss))) ≡ (t s || list_any t ss)
    step true e taken passed = rw e (join (t s) _ _ ∙ ap (λ b. t s || b) taken)
    step false e taken passed = rw e (turn (list_any t (picked drained (suc most) ss)) (t s) _ ∙ ap (λ b. t s || b) passed)

-- ## Asked for until answered

or-more : (a b c : Bool) → (a || b) ≡ true → (a || (b || c)) ≡ true
or-more true b c e = refl
or-more false true c e = refl
or-more false false c e = cc

or-other : (a b : Bool) → (a || b) ≡ true → a ≡ false → b ≡ true
or-other true b e f = cc
or-other false b e f = e

ask-asked : (s stream : ℕ) (o : Requests) → is_asked s o ≡ true → is_asked s (after_ask stream o) ≡ true
ask-asked s stream o asked = step (is_asked stream o)
  where
    step : (b : Bool) → is_asked s (if b then o else record o { waiting = o.waiting ++ stream ∷ [] }) ≡ true
    step true = asked
    step false = rw list_any-append (or-more (list_any (is_stream s) (streams_of o.under_way)) _ _ asked)

begin-asked : (s : ℕ) (drained : ℕ → Bool) (most last_tsn now : ℕ) (o : Requests) → is_asked s (after_begin drained most last_tsn now o) ≡ is_asked s o
begin-asked s drained most last_tsn now o = step o.under_way
  where
    begun : (streams left : List ℕ) → (list_any (is_stream s) streams || list_any (is_stream s) left) ≡ list_any (is_stream s) o.waiting
        → is_asked s (begin_with streams left last_tsn now (record o { under_way = None })) ≡ list_any (is_stream s) o.waiting
    begun [] left e = refl
    begun (x ∷ streams) left e = e

    step : (u : Option Request) → is_asked s (after_begin drained most last_tsn now (record o { under_way = u })) ≡ is_asked s (record o { under_way = u })
    step None = begun (picked drained most o.waiting) (unpicked drained most o.waiting) (any-split (is_stream s) drained most o.waiting)
    step (Some r) = refl

sent-streams : (now rto : ℕ) (u : Option Request) → streams_of (option_map (sent_at now rto) u) ≡ streams_of u
sent-streams now rto None = refl
sent-streams now rto (Some r) = refl

sent-asked : (s now rto : ℕ) (o : Requests) → is_asked s (after_sent now rto o) ≡ is_asked s o
sent-asked s now rto o = ap (λ ss. list_any (is_stream s) ss || list_any (is_stream s) o.waiting) (sent-streams now rto o.under_way)

result-asked : (t : ℕ → Bool) (waits : Bool) (result : ReconfigResult) (now rto : ℕ) (r : Request) → (list_any t r.streams || waits) ≡ true
    → list_any t (streams_ended (answer_of result r)) ≡ false → (list_any t (streams_of (left_after result now rto r)) || waits) ≡ true
result-asked t waits SuccessNop now rto r asked other = or-other (list_any t r.streams) waits asked other
result-asked t waits SuccessPerformed now rto r asked other = or-other (list_any t r.streams) waits asked other
result-asked t waits Denied now rto r asked other = or-other (list_any t r.streams) waits asked other
result-asked t waits ErrorWrongSsn now rto r asked other = or-other (list_any t r.streams) waits asked other
result-asked t waits ErrorRequestAlreadyInProgress now rto r asked other = or-other (list_any t r.streams) waits asked other
result-asked t waits ErrorBadSequenceNumber now rto r asked other = or-other (list_any t r.streams) waits asked other
result-asked t waits InProgress now rto r asked other = asked
result-asked t waits Unknown now rto r asked other = or-other (list_any t r.streams) waits asked other

response-asked : (s number now rto : ℕ) (result : ReconfigResult) (u : Option Request) (waits : Bool)
    → (list_any (is_stream s) (streams_of u) || waits) ≡ true → list_any (is_stream s) (streams_ended (answer_to number result u)) ≡ false
    → (list_any (is_stream s) (streams_of (left_of number result now rto u)) || waits) ≡ true
response-asked s number now rto result None waits asked other = asked
response-asked s number now rto result (Some r) waits asked other = step (r.number == number) other
  where
    step : (b : Bool) → list_any (is_stream s) (streams_ended (if b then answer_of result r else NotUnderWay)) ≡ false
        → (list_any (is_stream s) (streams_of (if b then left_after result now rto r else Some r)) || waits) ≡ true
    step true o = result-asked (is_stream s) waits result now rto r asked o
    step false o = asked

pub stays-asked : StaysAsked
stays-asked s (asks stream) o asked other = ask-asked s stream o asked
stays-asked s (begins drained most last_tsn now) o asked other = begin-asked s drained most last_tsn now o ∙ asked
stays-asked s (sends now rto) o asked other = sent-asked s now rto o ∙ asked
stays-asked s (learns number result now rto) o asked other =
    response-asked s number now rto result o.under_way (list_any (is_stream s) o.waiting) asked other

-- ## A response leaves the streams of the request, or none of them

-- what it leaves
data LeavesOf (old : Option Request) : Option Request → Type 0 where
  all : (u : Option Request) → streams_of u ≡ streams_of old → LeavesOf old u
  none : LeavesOf old None

result-leaves : (result : ReconfigResult) (now rto : ℕ) (r : Request) → LeavesOf (Some r) (left_after result now rto r)
result-leaves SuccessNop now rto r = none
result-leaves SuccessPerformed now rto r = none
result-leaves Denied now rto r = none
result-leaves ErrorWrongSsn now rto r = none
result-leaves ErrorRequestAlreadyInProgress now rto r = none
result-leaves ErrorBadSequenceNumber now rto r = none
result-leaves InProgress now rto r = all _ refl
result-leaves Unknown now rto r = none

response-leaves : (number now rto : ℕ) (result : ReconfigResult) (u : Option Request) → LeavesOf u (left_of number result now rto u)
response-leaves number now rto result None = none
response-leaves number now rto result (Some r) = step (r.number == number)
  where
    step : (b : Bool) → LeavesOf (Some r) (if b then left_after result now rto r else Some r)
    step true = result-leaves result now rto r
    step false = all (Some r) refl

pub adds-nothing : AddsNothing
adds-nothing number now rto result o = step (left_of number result now rto o.under_way) (response-leaves number now rto result o.under_way)
  where
    step : (u : Option Request) → LeavesOf o.under_way u → length (streams_of u ++ o.waiting) ≤ length (streams_of o.under_way ++ o.waiting)
    step u (all v e) = rw e (omega arith)
    step None none = omega (arith, length-append (streams_of o.under_way) o.waiting)

-- ## Each once

any-between : (t : ℕ → Bool) (xs ys : List ℕ) (s : ℕ) → list_any t (xs ++ s ∷ ys) ≡ (t s || list_any t (xs ++ ys))
any-between t [] ys s = refl
any-between t (x ∷ xs) ys s = ap (λ b. t x || b) (any-between t xs ys s) ∙ turn (t x) (t s) (list_any t (xs ++ ys))
  where
    turn : (a b c : Bool) → (a || (b || c)) ≡ (b || (a || c))
    turn true true c = refl
    turn true false c = refl
    turn false true c = refl
    turn false false c = refl

neither : (a b : Bool) → (a || b) ≡ false → (a ≡ false) × (b ≡ false)
neither true b e = cc
neither false b e = (refl, e)

other-way : (s x : ℕ) → is_stream s x ≡ false → is_stream x s ≡ false
other-way s x e = by_same s x (λ h. absurd (let y : is_stream s x ≡ true = rw h (same-yes x) in cc)) (λ _ o. o)

once-between : (xs ys : List ℕ) (s : ℕ) → IsEachOnce (xs ++ ys) → list_any (is_stream s) (xs ++ ys) ≡ false → IsEachOnce (xs ++ s ∷ ys)
once-between [] ys s once new = (new, once)
once-between (x ∷ xs) ys s once new =
    let parts = neither (is_stream s x) (list_any (is_stream s) (xs ++ ys)) new in
    let other : is_stream x s ≡ false = other-way s x parts.0 in
    (any-between (is_stream x) xs ys s ∙ rw other once.0, once-between xs ys s once.1 parts.1)

once-rest : (xs ys : List ℕ) → IsEachOnce (xs ++ ys) → IsEachOnce ys
once-rest [] ys once = once
once-rest (x ∷ xs) ys once = once-rest xs ys once.1

split-once : (drained : ℕ → Bool) (most : ℕ) (ss : List ℕ) → IsEachOnce ss → IsEachOnce (picked drained most ss ++ unpicked drained most ss)
split-once drained zero ss once = once
split-once drained (suc most) [] once = tt
split-once drained (suc most) (s ∷ ss) once = step (drained s) refl (split-once drained most ss once.1) (split-once drained (suc most) ss once.1)
  where
    new : (m : ℕ) → list_any (is_stream s) (picked drained m ss ++ unpicked drained m ss) ≡ false
    new m = list_any-append (is_stream s) (picked drained m ss) (unpicked drained m ss) ∙ any-split (is_stream s) drained m ss ∙ once.0

    step : (b : Bool) → drained s ≡ b → IsEachOnce (picked drained most ss ++ unpicked drained most ss)
        → IsEachOnce (picked drained (suc most) ss ++ unpicked drained (suc most) ss)
        → IsEachOnce (picked drained (suc most) (s ∷ ss) ++ unpicked drained (suc most) (s ∷ ss))
    step true e taken passed = rw e (new most, taken)
    step false e taken passed = rw e (once-between (picked drained (suc most) ss) (unpicked drained (suc most) ss) s passed (new (suc most)))

ask-once : (s : ℕ) (o : Requests) → AsksEachOnce o → AsksEachOnce (after_ask s o)
ask-once s o once = step (is_asked s o) refl
  where
    step : (b : Bool) → is_asked s o ≡ b → AsksEachOnce (if b then o else record o { waiting = o.waiting ++ s ∷ [] })
    step true e = once
    step false e =
        let asked = streams_asked o in
        let new : list_any (is_stream s) (asked ++ []) ≡ false = rw append-nil (list_any-append (is_stream s) (streams_of o.under_way) o.waiting ∙ e) in
        let before : IsEachOnce (asked ++ []) = rw append-nil once in
        rw (← append_assoc) (once-between asked [] s before new)

begin-once : (drained : ℕ → Bool) (most last_tsn now : ℕ) (o : Requests) → AsksEachOnce o → AsksEachOnce (after_begin drained most last_tsn now o)
begin-once drained most last_tsn now o once = step o.under_way once
  where
    begun : (streams left : List ℕ) → IsEachOnce (streams ++ left) → IsEachOnce o.waiting
        → AsksEachOnce (begin_with streams left last_tsn now (record o { under_way = None }))
    begun [] left split waiting = waiting
    begun (x ∷ streams) left split waiting = split

    step : (u : Option Request) → IsEachOnce (streams_of u ++ o.waiting) → AsksEachOnce (after_begin drained most last_tsn now (record o { under_way = u }))
    step None w = begun (picked drained most o.waiting) (unpicked drained most o.waiting) (split-once drained most o.waiting w) w
    step (Some r) w = w

response-once : (number now rto : ℕ) (result : ReconfigResult) (o : Requests) → AsksEachOnce o → AsksEachOnce (after_response number result now rto o)
response-once number now rto result o once = step (left_of number result now rto o.under_way) (response-leaves number now rto result o.under_way)
  where
    step : (u : Option Request) → LeavesOf o.under_way u → IsEachOnce (streams_of u ++ o.waiting)
    step u (all v e) = rw e once
    step None none = once-rest (streams_of o.under_way) o.waiting once

call-once : (call : OwnCall) (o : Requests) → AsksEachOnce o → AsksEachOnce (after_call call o)
call-once (asks s) o once = ask-once s o once
call-once (begins drained most last_tsn now) o once = begin-once drained most last_tsn now o once
call-once (sends now rto) o once = rw (sent-streams now rto o.under_way) once
call-once (learns number result now rto) o once = response-once number now rto result o once

calls-once : (calls : List OwnCall) (o : Requests) → AsksEachOnce o → AsksEachOnce (after_calls calls o)
calls-once [] o once = once
calls-once (call ∷ calls) o once = calls-once calls (after_call call o) (call-once call o once)

pub asks-once : HoldsAfterEachRun AsksEachOnce
asks-once first_tsn calls = calls-once calls (start first_tsn) tt
