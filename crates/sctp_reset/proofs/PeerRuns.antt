-- What a run of calls leaves of the peer's requests.
use Rattle.std.proofs.Common.{◌≡◌, ℕ, ◌+◌, ◌%◌, ◌^◌, ◌<◌, ◌≤◌, Bool, true, false, List, [], ◌∷◌, Option, Some, None, refl, ap, ◌∙◌, arith}
use Rattle.std.specs.Prelude.{◌==◌, if◌then◌else◌}
use Rattle.std.specs.Option.{is_some}
use Rattle.sctp_params.specs.declared.param.param_reconfig_response.ReconfigResult.{ReconfigResult}
use Rattle.sctp_util.proofs.Cases.{by_same, same-yes}
use Rattle.sctp_reset.specs.declared.peer_requests.Due.TheVariants.{Perform, Again}
use Rattle.sctp_reset.specs.declared.peer_requests.PeerRequests.{PeerRequests}
use Rattle.sctp_reset.specs.Peer.{expects, next_number, response, is_for, respond, kept_result, due_of, due_for, result_of, is_in_progress, moved_on}
use Rattle.sctp_reset.specs.Peer.{after_request, after_answer, without_first}
use Rattle.sctp_reset.specs.Runs.{PeerCall, comes, answers, responds, after_peer_call, after_peer_calls, last_word, last_words, PerformsOnce, AnswersAlike}
use Rattle.sctp_reset.specs.Runs.{RespondsOnceEach, HoldsAfterEachPeerRun}

-- ## What responses leave as it is

pub record IsSame (old new : PeerRequests) : Type 0 where
  pub expected : new.expected ≡ old.expected
  pub last : new.last ≡ old.last
  pub earlier : new.earlier ≡ old.earlier

same-respond : (number : ℕ) (result : ReconfigResult) (p : PeerRequests) → IsSame p (respond number result p)
same-respond number result p = step (is_for number p.newer)
  where
    step : (b : Bool)
        → IsSame p (if b then record p { newer = Some (response number result) } else record p { older = p.newer; newer = Some (response number result) })
    step true = record { expected = refl; last = refl; earlier = refl }
    step false = record { expected = refl; last = refl; earlier = refl }

pub same-request : (number : ℕ) (p : PeerRequests) → IsSame p (after_request number p)
same-request number p = step (number == p.expected)
  where
    step : (b : Bool) → IsSame p (if b then record p { is_awaited = true } else respond number (result_of (kept_result number p)) p)
    step true = record { expected = refl; last = refl; earlier = refl }
    step false = same-respond number (result_of (kept_result number p)) p

same-without : (p : PeerRequests) → IsSame p (without_first p)
same-without p = step (is_some p.older)
  where
    step : (b : Bool) → IsSame p (if b then record p { older = None } else record p { newer = None })
    step true = record { expected = refl; last = refl; earlier = refl }
    step false = record { expected = refl; last = refl; earlier = refl }

-- what an answer makes of it, in progress or not
pub answered-same : (result : ReconfigResult) (p : PeerRequests) → is_in_progress result ≡ true → IsSame p (after_answer result p)
answered-same result p e = rw e (same-respond p.expected result p)

pub answered-moved : (result : ReconfigResult) (p : PeerRequests) → is_in_progress result ≡ false → IsSame (moved_on result p) (after_answer result p)
answered-moved result p e = rw e (same-respond p.expected result (moved_on result p))

-- ## The expected number

expected-call : (call : PeerCall) (p : PeerRequests) → p.expected < 2 ^ 32 → (after_peer_call call p).expected ≡ (p.expected + last_word call) % 2 ^ 32
expected-call (comes number) p below = (same-request number p).expected ∙ omega arith
expected-call (answers result) p below = step (is_in_progress result) refl
  where
    step : (b : Bool) → is_in_progress result ≡ b → (after_answer result p).expected ≡ (p.expected + (if b then 0 else 1)) % 2 ^ 32
    step true e = (answered-same result p e).expected ∙ omega arith
    step false e = (answered-moved result p e).expected
expected-call responds p below = (same-without p).expected ∙ omega arith

expected-calls : (calls : List PeerCall) (p : PeerRequests) → p.expected < 2 ^ 32
    → (after_peer_calls calls p).expected ≡ (p.expected + last_words calls) % 2 ^ 32
expected-calls [] p below = omega arith
expected-calls (call ∷ calls) p below =
    let first = expected-call call p below in
    let rest = expected-calls calls (after_peer_call call p) (omega arith) in
    omega arith

not-perform : (found : Option ReconfigResult) → due_of found ≡ Perform → ⊥
not-perform (Some result) e = cc
not-perform None e = cc

pub performs-once : PerformsOnce
performs-once p calls below some few e =
    let now = expected-calls calls p below in
    by_same {P = ⊥} p.expected (after_peer_calls calls p).expected (λ h. omega arith)
    (λ _ far. not-perform (kept_result p.expected (after_peer_calls calls p)) (rw far at e))

-- ## What is kept

-- n had its last word, and none since
record IsLast (n : ℕ) (result : ReconfigResult) (p : PeerRequests) : Type 0 where
  pub expected : p.expected ≡ next_number n
  pub kept : p.last ≡ Some result

-- and one since
record IsEarlier (n : ℕ) (result : ReconfigResult) (p : PeerRequests) : Type 0 where
  pub expected : p.expected ≡ next_number (next_number n)
  pub kept : p.earlier ≡ Some result

still-last : (n : ℕ) (result : ReconfigResult) (old new : PeerRequests) → IsSame old new → IsLast n result old → IsLast n result new
still-last n result old new same is = record { expected = same.expected ∙ is.expected; kept = same.last ∙ is.kept }

still-earlier : (n : ℕ) (result : ReconfigResult) (old new : PeerRequests) → IsSame old new → IsEarlier n result old → IsEarlier n result new
still-earlier n result old new same is = record { expected = same.expected ∙ is.expected; kept = same.earlier ∙ is.kept }

now-earlier : (n : ℕ) (result next : ReconfigResult) (old new : PeerRequests) → IsSame (moved_on next old) new → IsLast n result old → IsEarlier n result new
now-earlier n result next old new same is = record { expected = same.expected ∙ ap next_number is.expected; kept = same.earlier ∙ is.kept }

due-last : (n : ℕ) (result : ReconfigResult) (p : PeerRequests) → n < 2 ^ 32 → IsLast n result p → due_for n p ≡ Again result
due-last n result p below is =
    let e = is.expected in
    let far : (n == p.expected) ≡ false = by_same n p.expected (λ h. absurd (omega arith)) (λ _ no'. no') in
    let near : (next_number n == p.expected) ≡ true = rw e (same-yes (next_number n)) in
    rw (far, near, is.kept) refl

due-earlier : (n : ℕ) (result : ReconfigResult) (p : PeerRequests) → n < 2 ^ 32 → IsEarlier n result p → due_for n p ≡ Again result
due-earlier n result p below is =
    let e = is.expected in
    let far : (n == p.expected) ≡ false = by_same n p.expected (λ h. absurd (omega arith)) (λ _ no'. no') in
    let past : (next_number n == p.expected) ≡ false = by_same (next_number n) p.expected (λ h. absurd (omega arith)) (λ _ no'. no') in
    let near : (next_number (next_number n) == p.expected) ≡ true = rw e (same-yes (next_number (next_number n))) in
    rw (far, past, near, is.kept) refl

after-earlier : (n : ℕ) (result : ReconfigResult) (calls : List PeerCall) (p : PeerRequests) → n < 2 ^ 32 → last_words calls ≤ 0
    → IsEarlier n result p → due_for n (after_peer_calls calls p) ≡ Again result
after-earlier n result [] p below few is = due-earlier n result p below is
after-earlier n result (comes number ∷ calls) p below few is =
    after-earlier n result calls _ below (omega arith) (still-earlier n result p _ (same-request number p) is)
after-earlier n result (answers next ∷ calls) p below few is =
    step (is_in_progress next) refl (omega arith) (λ le. after-earlier n result calls (after_answer next p) below le)
  where
    step : (b : Bool) → is_in_progress next ≡ b → (if b then 0 else 1) + last_words calls ≤ 0
        → (last_words calls ≤ 0 → IsEarlier n result (after_answer next p) → due_for n (after_peer_calls calls (after_answer next p)) ≡ Again result)
        → due_for n (after_peer_calls calls (after_answer next p)) ≡ Again result
    step true e le ih = ih (omega arith) (still-earlier n result p _ (answered-same next p e) is)
    step false e le ih = absurd (omega arith)
after-earlier n result (responds ∷ calls) p below few is =
    after-earlier n result calls _ below (omega arith) (still-earlier n result p _ (same-without p) is)

after-last : (n : ℕ) (result : ReconfigResult) (calls : List PeerCall) (p : PeerRequests) → n < 2 ^ 32 → last_words calls ≤ 1
    → IsLast n result p → due_for n (after_peer_calls calls p) ≡ Again result
after-last n result [] p below few is = due-last n result p below is
after-last n result (comes number ∷ calls) p below few is =
    after-last n result calls _ below (omega arith) (still-last n result p _ (same-request number p) is)
after-last n result (answers next ∷ calls) p below few is =
    step (is_in_progress next) refl (omega arith) (λ le. after-last n result calls (after_answer next p) below le)
  where
    step : (b : Bool) → is_in_progress next ≡ b → (if b then 0 else 1) + last_words calls ≤ 1
        → (last_words calls ≤ 1 → IsLast n result (after_answer next p) → due_for n (after_peer_calls calls (after_answer next p)) ≡ Again result)
        → due_for n (after_peer_calls calls (after_answer next p)) ≡ Again result
    step true e le ih = ih (omega arith) (still-last n result p _ (answered-same next p e) is)
    step false e le ih = after-earlier n result calls (after_answer next p) below (omega arith) (now-earlier n result next p _ (answered-moved next p e) is)
after-last n result (responds ∷ calls) p below few is =
    after-last n result calls _ below (omega arith) (still-last n result p _ (same-without p) is)

pub answers-alike : AnswersAlike
answers-alike p result calls below word few =
    after-last p.expected result calls (after_answer result p) below few
    (let same = answered-moved result p word in record { expected = same.expected; kept = same.last })

-- ## No two responses to one request

respond-once : (number : ℕ) (result : ReconfigResult) (p : PeerRequests) → RespondsOnceEach p → RespondsOnceEach (respond number result p)
respond-once number result p once = step (is_for number p.newer) refl
  where
    step : (b : Bool) → is_for number p.newer ≡ b
        → RespondsOnceEach (if b then record p { newer = Some (response number result) }
        else record p { older = p.newer; newer = Some (response number result) })
    step true e = λ n h. by_same number n (λ same. let h' = rw (← same) at h in let o = once number h' in cc) (λ _ other. other)
    step false e = λ n h. by_same number n (λ same. let h' = rw (← same) at h in cc) (λ _ other. other)

request-once : (number : ℕ) (p : PeerRequests) → RespondsOnceEach p → RespondsOnceEach (after_request number p)
request-once number p once = step (number == p.expected)
  where
    step : (b : Bool) → RespondsOnceEach (if b then record p { is_awaited = true } else respond number (result_of (kept_result number p)) p)
    step true = once
    step false = respond-once number (result_of (kept_result number p)) p once

answer-once : (result : ReconfigResult) (p : PeerRequests) → RespondsOnceEach p → RespondsOnceEach (after_answer result p)
answer-once result p once = step (is_in_progress result)
  where
    step : (b : Bool) → RespondsOnceEach (respond p.expected result (if b then p else moved_on result p))
    step true = respond-once p.expected result p once
    step false = respond-once p.expected result (moved_on result p) once

without-once : (p : PeerRequests) → RespondsOnceEach p → RespondsOnceEach (without_first p)
without-once p once = step (is_some p.older)
  where
    step : (b : Bool) → RespondsOnceEach (if b then record p { older = None } else record p { newer = None })
    step true = λ n h. cc
    step false = λ n h. refl

calls-once : (calls : List PeerCall) (p : PeerRequests) → RespondsOnceEach p → RespondsOnceEach (after_peer_calls calls p)
calls-once [] p once = once
calls-once (comes number ∷ calls) p once = calls-once calls (after_request number p) (request-once number p once)
calls-once (answers result ∷ calls) p once = calls-once calls (after_answer result p) (answer-once result p once)
calls-once (responds ∷ calls) p once = calls-once calls (without_first p) (without-once p once)

pub responds-once : HoldsAfterEachPeerRun RespondsOnceEach
responds-once first_tsn calls = calls-once calls (expects first_tsn) (λ n h. cc)
