-- Both sides agree.
use Rattle.std.proofs.Common.{◌≡◌, ℕ, ◌+◌, ◌^◌, ◌<◌, ◌≤◌, Bool, true, false, List, [], ◌∷◌, ◌++◌, length, Option, Some, None, refl, ap}
use Rattle.std.proofs.Common.{sym, ◌∙◌, inl, inr, arith, add-one}
use Rattle.std.specs.Prelude.{◌⊎◌, ◌==◌, if◌then◌else◌}
use Rattle.std.specs.Option.{is_some, option_map}
use Rattle.std.proofs.lemmas.Bool.{cases_lt, both_ways}
use Rattle.sctp_params.specs.declared.param.param_reconfig_response.ReconfigResult.{ReconfigResult}
use Rattle.sctp_params.specs.declared.param.param_reconfig_response.ReconfigResult.TheVariants.{SuccessNop, SuccessPerformed, Denied, ErrorWrongSsn}
use Rattle.sctp_params.specs.declared.param.param_reconfig_response.ReconfigResult.TheVariants.{ErrorRequestAlreadyInProgress, ErrorBadSequenceNumber}
use Rattle.sctp_params.specs.declared.param.param_reconfig_response.ReconfigResult.TheVariants.{InProgress, Unknown}
use Rattle.sctp_params.specs.declared.param.param_reconfig_response.ParamReconfigResponse.{ParamReconfigResponse}
use Rattle.sctp_util.proofs.Cases.{by_same, same-yes, same-is, some-same}
use Rattle.sctp_reset.specs.declared.own_requests.Answer.TheVariants.{NotUnderWay}
use Rattle.sctp_reset.specs.declared.peer_requests.PeerRequests.{PeerRequests}
use Rattle.sctp_reset.specs.Requests.{Request, Requests}
use Rattle.sctp_reset.specs.Own.{is_asked, picked, unpicked, begin_with, after_begin, sent_at, answer_of, answer_to, left_after}
use Rattle.sctp_reset.specs.Own.{left_of}
use Rattle.sctp_reset.specs.Peer.{next_number, response, is_for, respond, kept_result, result_of, is_in_progress, moved_on, after_request}
use Rattle.sctp_reset.specs.Peer.{after_answer}
use Rattle.sctp_reset.specs.Agreement.{Talk, opened, Event, asked, began, sent, came, answered, returned, number_of, begun_after, ends_after}
use Rattle.sctp_reset.specs.Agreement.{after_event, IsSaid, MayHappen, after_events, MayAllHappen, Agrees, BothAgree, EachCanEnd}
use Rattle.sctp_reset.proofs.PeerRuns.{IsSame, same-request, answered-same, answered-moved}

-- ## The last word on a request

-- of the request that began as this one; the list has the last word first
word_at : ℕ → List ReconfigResult → Option ReconfigResult
word_at i [] = None
word_at i (word ∷ words) = if i == length words then Some word else word_at i words

word-newest : (word : ReconfigResult) (words : List ReconfigResult) → word_at (length words) (word ∷ words) ≡ Some word
unfolding word_at
word-newest word words = rw (same-yes (length words)) refl

word-below : (i : ℕ) (words : List ReconfigResult) (result : ReconfigResult) → word_at i words ≡ Some result → i < length words
unfolding word_at
word-below i [] result e = cc
word-below i (word ∷ words) result e = by_same i (length words) (λ h. omega arith)
    (λ _ far. let below = word-below i words result (rw far at e) in omega arith)

word-kept : (i : ℕ) (word : ReconfigResult) (words : List ReconfigResult) (result : ReconfigResult) → word_at i words ≡ Some result
    → word_at i (word ∷ words) ≡ Some result
unfolding word_at
word-kept i word words result e =
    let below = word-below i words result e in
    by_same i (length words) (λ h. absurd (omega arith)) (λ _ far. rw far e)

-- ## What holds all the time

-- what a response to the request that began as this one says: in progress, its last word, or it is past
data Means (i : ℕ) (result : ReconfigResult) (words : List ReconfigResult) : Type 0 where
  progress : is_in_progress result ≡ true → Means i result words
  last-word : word_at i words ≡ Some result → Means i result words
  past : i + 1 < length words → Means i result words

record IsValid (first : ℕ) (words : List ReconfigResult) (begun : ℕ) (r : ParamReconfigResponse) : Type 0 where
  pub request : ℕ
  pub began : request < begun
  pub number : r.reconfig_response_sequence_number ≡ number_of first request
  pub means : Means request r.result words

abbrev AllValid : ℕ → List ReconfigResult → ℕ → List ParamReconfigResponse → Type 0
AllValid first words begun [] = Unit {0}
AllValid first words begun (r ∷ said) = IsValid first words begun r × AllValid first words begun said

-- the request under way is the one after those that ended
abbrev IsNext : ℕ → ℕ → ℕ → Option Request → Type 0
IsNext first begun ended None = begun ≡ ended
IsNext first begun ended (Some r) = (begun ≡ ended + 1) × (r.number ≡ number_of first ended)

abbrev IsKept : Option ReconfigResult → List ReconfigResult → Type 0
IsKept last [] = Unit {0}
IsKept last (word ∷ words) = (last ≡ Some word) × (is_in_progress word ≡ false)

record IsInStep (first : ℕ) (t : Talk) : Type 0 where
  pub next : t.own.next_number ≡ number_of first t.begun
  pub under_way : IsNext first t.begun (length t.ends) t.own.under_way
  pub expected : t.peer.expected ≡ number_of first (length t.words)
  pub awaited : t.peer.is_awaited ≡ true → length t.words < t.begun
  pub within : length t.words ≤ t.begun
  pub kept : IsKept t.peer.last t.words
  pub agrees : Agrees t.words t.ends
  pub valid : AllValid first t.words t.begun t.said

-- ## What responses say lasts

means-more : (i : ℕ) (result word : ReconfigResult) (words : List ReconfigResult) → Means i result words → Means i result (word ∷ words)
means-more i result word words (progress e) = progress e
means-more i result word words (last-word e) = last-word (word-kept i word words result e)
means-more i result word words (past lt) = past (omega arith)

valid-words : (first begun : ℕ) (word : ReconfigResult) (words : List ReconfigResult) (said : List ParamReconfigResponse)
    → AllValid first words begun said → AllValid first (word ∷ words) begun said
valid-words first begun word words [] all = tt
valid-words first begun word words (r ∷ said) (s, all) = (
  record { request = s.request; began = s.began; number = s.number; means = means-more s.request r.result word words s.means },
  valid-words first begun word words said all,
)

valid-begun : (first begun more : ℕ) (words : List ReconfigResult) (said : List ParamReconfigResponse) → begun ≤ more
    → AllValid first words begun said → AllValid first words more said
valid-begun first begun more words [] le all = tt
valid-begun first begun more words (r ∷ said) le (s, all) =
    (record { request = s.request; began = omega (arith, s.began); number = s.number; means = s.means }, valid-begun first begun more words said le all)

said-valid : (first begun : ℕ) (words : List ReconfigResult) (said : List ParamReconfigResponse) (r : ParamReconfigResponse)
    → IsSaid r said → AllValid first words begun said → IsValid first words begun r
said-valid first begun words [] r none all = absurd none
said-valid first begun words (s ∷ said) r (inl e) all = rw e all.0
said-valid first begun words (s ∷ said) r (inr among) all = said-valid first begun words said r among all.1

-- ## Lengths

one-more : (words ends : List ReconfigResult) → Agrees words ends → (length words ≡ length ends) ⊎ (length words ≡ length ends + 1)
one-more words ends (inl e) = inl (ap length e)
one-more words ends (inr w) = inr (ap length w.1 ∙ sym (add-one (length ends)))

begun-bounds : (first begun ended : ℕ) (u : Option Request) → IsNext first begun ended u → (ended ≤ begun) × (begun ≤ ended + 1)
begun-bounds first begun ended None e = (omega arith, omega arith)
begun-bounds first begun ended (Some r) e = (omega (arith, e.0), omega (arith, e.0))

number-once : (first i k : ℕ) → i < 2 ^ 32 → k < 2 ^ 32 → number_of first i ≡ number_of first k → i ≡ k
number-once first i k a b e = omega arith

number-next : (first i k : ℕ) → i + 1 ≡ k → next_number (number_of first i) ≡ number_of first k
number-next first i k e = omega arith

-- ## A request comes

respond-awaited : (number : ℕ) (result : ReconfigResult) (p : PeerRequests) → (respond number result p).is_awaited ≡ p.is_awaited
respond-awaited number result p = step (is_for number p.newer)
  where
    step : (b : Bool) → (if b then record p { newer = Some (response number result) }
        else record p { older = p.newer; newer = Some (response number result) }).is_awaited ≡ p.is_awaited
    step true = refl
    step false = refl

came-awaited : (number : ℕ) (p : PeerRequests) → (number == p.expected) ≡ false → (after_request number p).is_awaited ≡ p.is_awaited
came-awaited number p far = rw far (respond-awaited number (result_of (kept_result number p)) p)

means-kept : (first i : ℕ) (p : PeerRequests) (words : List ReconfigResult) → p.expected ≡ number_of first (length words) → IsKept p.last words
    → i + 1 ≡ length words → Means i (result_of (kept_result (number_of first i) p)) words
means-kept first i p [] expected kept e = absurd (omega arith)
means-kept first i p (word ∷ words) expected kept e =
    let near : (next_number (number_of first i) == p.expected) ≡ true
    = rw (expected, number-next first i (length (word ∷ words)) e) (same-yes (number_of first (length (word ∷ words)))) in
    let place : i ≡ length words = omega arith in
    rw (near, kept.0) (last-word (rw place (word-newest word words)))

came-step : (first i : ℕ) (t : Talk) → IsInStep first t → i < t.begun → t.begun < 2 ^ 32 → IsInStep first (after_event first (came i) t)
came-step first i t h lt few = record {
  next = h.next;
  under_way = h.under_way;
  expected = same.expected ∙ h.expected;
  awaited = λ a. by_same number t.peer.expected (λ e. let place =
      number-once first i (length t.words) (omega arith) (omega (arith, h.within)) (e ∙ h.expected) in omega arith)
      (λ _ far. h.awaited (sym (came-awaited number t.peer far) ∙ a));
  within = h.within;
  kept = rw same.last h.kept;
  agrees = h.agrees;
  valid = step (number == t.peer.expected) refl;
}
  where
    number : ℕ
    number = number_of first i

    same : IsSame t.peer (after_request number t.peer)
    same = same-request number t.peer

    isnt : (number ≡ t.peer.expected → ⊥) → i ≡ length t.words → ⊥
    isnt other e = other (ap (number_of first) e ∙ sym h.expected)

    means : (number ≡ t.peer.expected → ⊥) → (length t.words ≡ length t.ends) ⊎ (length t.words ≡ length t.ends + 1)
        → (i + 1 < length t.words) ⊎ (length t.words ≤ i + 1) → Means i (result_of (kept_result number t.peer)) t.words
    means other lengths (inl lt) = past lt
    means other (inl lengths) (inr ge) =
        let ne = isnt other in
        let bounds = begun-bounds first t.begun (length t.ends) t.own.under_way h.under_way in
        means-kept first i t.peer t.words h.expected h.kept (omega (arith, bounds.1))
    means other (inr lengths) (inr ge) =
        let ne = isnt other in
        let bounds = begun-bounds first t.begun (length t.ends) t.own.under_way h.under_way in
        means-kept first i t.peer t.words h.expected h.kept (omega (arith, bounds.1))

    step : (b : Bool) → (number == t.peer.expected) ≡ b
        → AllValid first t.words t.begun (if b then t.said else response number (result_of (kept_result number t.peer)) ∷ t.said)
    step true e = h.valid
    step false e = (
      record {
        request = i;
        began = lt;
        number = refl;
        means = means (λ z. both_ways (number == t.peer.expected) e (rw z (same-yes t.peer.expected))) (one-more t.words t.ends h.agrees)
            (cases_lt (i + 1) (length t.words));
      },
      h.valid,
    )

-- ## A request is answered

answered-step : (first : ℕ) (result : ReconfigResult) (t : Talk) → IsInStep first t → t.peer.is_awaited ≡ true
    → IsInStep first (after_event first (answered result) t)
answered-step first result t h awaited = step (is_in_progress result) refl (one-more t.words t.ends h.agrees) h.agrees
  where
    open-now : length t.words < t.begun
    open-now = h.awaited awaited

    bounds : (length t.ends ≤ t.begun) × (t.begun ≤ length t.ends + 1)
    bounds = begun-bounds first t.begun (length t.ends) t.own.under_way h.under_way

    moved : is_in_progress result ≡ false → IsSame (moved_on result t.peer) (after_answer result t.peer)
    moved e = answered-moved result t.peer e

    not-awaited : is_in_progress result ≡ false → (after_answer result t.peer).is_awaited ≡ false
    not-awaited e = rw e (respond-awaited t.peer.expected result (moved_on result t.peer))

    step : (b : Bool) → is_in_progress result ≡ b → (length t.words ≡ length t.ends) ⊎ (length t.words ≡ length t.ends + 1) → Agrees t.words t.ends
        → IsInStep first
        (record t { peer = after_answer result t.peer; said = response t.peer.expected result ∷ t.said; words = (if b then t.words else result ∷ t.words) })
    step true e lengths agrees =
        let same = answered-same result t.peer e in record {
          next = h.next;
          under_way = h.under_way;
          expected = same.expected ∙ h.expected;
          awaited = λ _. open-now;
          within = h.within;
          kept = rw same.last h.kept;
          agrees = h.agrees;
          valid = (record { request = length t.words; began = open-now; number = h.expected; means = progress e }, h.valid);
        }
    step false e lengths (inr w) = absurd (omega (arith, bounds.1, ap length w.1))
    step false e lengths (inl same-words) =
        record {
          next = h.next;
          under_way = h.under_way;
          expected = (moved e).expected ∙ ap next_number h.expected ∙ number-next first (length t.words) (length (result ∷ t.words)) (omega arith);
          awaited = λ a. absurd (both_ways _ (not-awaited e) a);
          within = omega (arith, open-now);
          kept = ((moved e).last, e);
          agrees = inr (result, ap (λ ws. result ∷ ws) same-words);
          valid = (
            record { request = length t.words; began = open-now; number = h.expected; means = last-word (word-newest result t.words) },
            valid-words first t.begun result t.words t.said h.valid,
          );
        }

-- ## A response comes back

left-progress : (result : ReconfigResult) (now rto : ℕ) (r : Request) → is_in_progress result ≡ true
    → left_after result now rto r ≡ left_after InProgress now rto r
left-progress SuccessNop now rto r e = cc
left-progress SuccessPerformed now rto r e = cc
left-progress Denied now rto r e = cc
left-progress ErrorWrongSsn now rto r e = cc
left-progress ErrorRequestAlreadyInProgress now rto r e = cc
left-progress ErrorBadSequenceNumber now rto r e = cc
left-progress InProgress now rto r e = refl
left-progress Unknown now rto r e = cc

ends-progress : (result : ReconfigResult) (r : Request) (ends : List ReconfigResult) → is_in_progress result ≡ true
    → ends_after result (answer_of result r) ends ≡ ends
ends-progress SuccessNop r ends e = cc
ends-progress SuccessPerformed r ends e = cc
ends-progress Denied r ends e = cc
ends-progress ErrorWrongSsn r ends e = cc
ends-progress ErrorRequestAlreadyInProgress r ends e = cc
ends-progress ErrorBadSequenceNumber r ends e = cc
ends-progress InProgress r ends e = refl
ends-progress Unknown r ends e = cc

left-final : (result : ReconfigResult) (now rto : ℕ) (r : Request) → is_in_progress result ≡ false → left_after result now rto r ≡ None
left-final SuccessNop now rto r e = refl
left-final SuccessPerformed now rto r e = refl
left-final Denied now rto r e = refl
left-final ErrorWrongSsn now rto r e = refl
left-final ErrorRequestAlreadyInProgress now rto r e = refl
left-final ErrorBadSequenceNumber now rto r e = refl
left-final InProgress now rto r e = cc
left-final Unknown now rto r e = refl

ends-final : (result : ReconfigResult) (r : Request) (ends : List ReconfigResult) → is_in_progress result ≡ false
    → ends_after result (answer_of result r) ends ≡ result ∷ ends
ends-final SuccessNop r ends e = refl
ends-final SuccessPerformed r ends e = refl
ends-final Denied r ends e = refl
ends-final ErrorWrongSsn r ends e = refl
ends-final ErrorRequestAlreadyInProgress r ends e = refl
ends-final ErrorBadSequenceNumber r ends e = refl
ends-final InProgress r ends e = cc
ends-final Unknown r ends e = refl

-- what is left of the request, and how it ended
record Leaves (first begun : ℕ) (words ends : List ReconfigResult) (u : Option Request) : Type 0 where
  pub under_way : IsNext first begun (length ends) u
  pub agrees : Agrees words ends

-- the last word on the request under way is the newest one
newest : (i : ℕ) (result : ReconfigResult) (words ends : List ReconfigResult) → i ≡ length ends → word_at i words ≡ Some result → Agrees words ends
    → words ≡ result ∷ ends
newest i result words ends e said (inl same) = let below = word-below i words result said in absurd (omega (arith, ap length same))
newest i result words ends e said (inr w) =
    let at : word_at (length ends) (w.0 ∷ ends) ≡ Some result = rw (← e, ← w.1) said in
    let is : w.0 ≡ result = some-same (sym (word-newest w.0 ends) ∙ at) in
    w.1 ∙ ap (λ word. word ∷ ends) is

ended : (first begun i : ℕ) (result : ReconfigResult) (words ends : List ReconfigResult) → begun ≡ length ends + 1 → i ≡ length ends → length words ≤ begun
    → is_in_progress result ≡ false → Means i result words → Agrees words ends → Leaves first begun words (result ∷ ends) None
ended first begun i result words ends b e within final (progress p) agrees = absurd (both_ways (is_in_progress result) final p)
ended first begun i result words ends b e within final (last-word said) agrees =
    record { under_way = omega arith; agrees = inl (newest i result words ends e said agrees) }
ended first begun i result words ends b e within final (past lt) agrees = absurd (omega arith)

result-leaves : (first begun i now rto : ℕ) (result : ReconfigResult) (words ends : List ReconfigResult) (r : Request)
    → IsNext first begun (length ends) (Some r) → i ≡ length ends → length words ≤ begun → Means i result words → Agrees words ends
    → Leaves first begun words (ends_after result (answer_of result r) ends) (left_after result now rto r)
result-leaves first begun i now rto result words ends r next e within means agrees = step (is_in_progress result) refl
  where
    step : (b : Bool) → is_in_progress result ≡ b → Leaves first begun words (ends_after result (answer_of result r) ends) (left_after result now rto r)
    step true p = rw (left-progress result now rto r p, ends-progress result r ends p) (record { under_way = next; agrees = agrees })
    step false p = rw (left-final result now rto r p, ends-final result r ends p) (ended first begun i result words ends next.0 e within p means agrees)

response-leaves : (first begun number now rto : ℕ) (result : ReconfigResult) (words ends : List ReconfigResult) (u : Option Request) (i : ℕ)
    → begun < 2 ^ 32 → i < begun → number ≡ number_of first i → length words ≤ begun → Means i result words → Agrees words ends
    → IsNext first begun (length ends) u → Leaves first begun words (ends_after result (answer_to number result u) ends) (left_of number result now rto u)
response-leaves first begun number now rto result words ends None i few lt is within means agrees next = record { under_way = next; agrees = agrees }
response-leaves first begun number now rto result words ends (Some r) i few lt is within means agrees next = step (r.number == number) refl
  where
    step : (b : Bool) → (r.number == number) ≡ b
        → Leaves first begun words (ends_after result (if b then answer_of result r else NotUnderWay) ends) (if b then left_after result now rto r else Some r)
    step true e =
        let same : number_of first i ≡ number_of first (length ends) = sym is ∙ sym (same-is r.number number e) ∙ next.1 in
        result-leaves first begun i now rto result words ends r next
        (number-once first i (length ends) (omega arith) (omega (arith, next.0)) same) within means agrees
    step false e = record { under_way = next; agrees = agrees }

returned-step : (first now rto : ℕ) (r : ParamReconfigResponse) (t : Talk) → IsInStep first t → IsSaid r t.said → t.begun < 2 ^ 32
    → IsInStep first (after_event first (returned r now rto) t)
returned-step first now rto r t h said few =
    let s = said-valid first t.begun t.words t.said r said h.valid in
    let leaves = response-leaves first t.begun r.reconfig_response_sequence_number now rto r.result t.words t.ends t.own.under_way s.request
    few s.began s.number h.within s.means h.agrees h.under_way in
    record {
      next = h.next;
      under_way = leaves.under_way;
      expected = h.expected;
      awaited = h.awaited;
      within = h.within;
      kept = h.kept;
      agrees = leaves.agrees;
      valid = h.valid;
    }

-- ## Calls of the side that asks

asked-step : (first s : ℕ) (t : Talk) → IsInStep first t → IsInStep first (after_event first (asked s) t)
asked-step first s t h = step (is_asked s t.own)
  where
    step : (b : Bool) → IsInStep first (record t { own = (if b then t.own else record t.own { waiting = t.own.waiting ++ s ∷ [] }) })
    step true = h
    step false = record {
      next = h.next;
      under_way = h.under_way;
      expected = h.expected;
      awaited = h.awaited;
      within = h.within;
      kept = h.kept;
      agrees = h.agrees;
      valid = h.valid;
    }

sent-next : (first begun ended now rto : ℕ) (u : Option Request) → IsNext first begun ended u → IsNext first begun ended (option_map (sent_at now rto) u)
sent-next first begun ended now rto None next = next
sent-next first begun ended now rto (Some r) next = next

sent-step : (first now rto : ℕ) (t : Talk) → IsInStep first t → IsInStep first (after_event first (sent now rto) t)
sent-step first now rto t h = record {
  next = h.next;
  under_way = sent-next first t.begun (length t.ends) now rto t.own.under_way h.under_way;
  expected = h.expected;
  awaited = h.awaited;
  within = h.within;
  kept = h.kept;
  agrees = h.agrees;
  valid = h.valid;
}

-- what a beginning makes of the numbers
record Begins (first begun ended : ℕ) (old new : Requests) : Type 0 where
  pub next : new.next_number ≡ number_of first (begun_after begun old new)
  pub under_way : IsNext first (begun_after begun old new) ended new.under_way
  pub more : begun ≤ begun_after begun old new

began-next : (first begun ended : ℕ) (drained : ℕ → Bool) (most last_tsn now : ℕ) (o : Requests) → o.next_number ≡ number_of first begun
    → IsNext first begun ended o.under_way → Begins first begun ended o (after_begin drained most last_tsn now o)
began-next first begun ended drained most last_tsn now o next is = step o.under_way is
  where
    start-with : (streams left : List ℕ) → begun ≡ ended
        → Begins first begun ended (record o { under_way = None }) (begin_with streams left last_tsn now (record o { under_way = None }))
    start-with [] left e = record { next = next; under_way = e; more = omega arith }
    start-with (s ∷ streams) left e = record {
      next = ap next_number next ∙ number-next first begun (begun + 1) refl;
      under_way = (ap (λ n. n + 1) e, next ∙ ap (number_of first) e);
      more = omega arith;
    }

    step : (u : Option Request) → IsNext first begun ended u
        → Begins first begun ended (record o { under_way = u }) (after_begin drained most last_tsn now (record o { under_way = u }))
    step None e = start-with (picked drained most o.waiting) (unpicked drained most o.waiting) e
    step (Some r) e = record { next = next; under_way = e; more = omega arith }

began-step : (first : ℕ) (drained : ℕ → Bool) (most last_tsn now : ℕ) (t : Talk) → IsInStep first t
    → IsInStep first (after_event first (began drained most last_tsn now) t)
began-step first drained most last_tsn now t h =
    let b = began-next first t.begun (length t.ends) drained most last_tsn now t.own h.next h.under_way in
    record {
      next = b.next;
      under_way = b.under_way;
      expected = h.expected;
      awaited = λ a. omega (arith, h.awaited a, b.more);
      within = omega (arith, h.within, b.more);
      kept = h.kept;
      agrees = h.agrees;
      valid = valid-begun first t.begun _ t.words t.said b.more h.valid;
    }

-- ## All events

one-step : (first : ℕ) (event : Event) (t : Talk) → IsInStep first t → MayHappen event t → t.begun < 2 ^ 32 → IsInStep first (after_event first event t)
one-step first (asked s) t h may few = asked-step first s t h
one-step first (began drained most last_tsn now) t h may few = began-step first drained most last_tsn now t h
one-step first (sent now rto) t h may few = sent-step first now rto t h
one-step first (came i) t h may few = came-step first i t h may few
one-step first (answered result) t h may few = answered-step first result t h may
one-step first (returned r now rto) t h may few = returned-step first now rto r t h may few

begun-more : (begun : ℕ) (old new : Requests) → begun ≤ begun_after begun old new
begun-more begun old new = step (is_some old.under_way) (is_some new.under_way)
  where
    step : (a b : Bool) → begun ≤ (if a then begun else (if b then begun + 1 else begun))
    step true b = omega arith
    step false true = omega arith
    step false false = omega arith

event-more : (first : ℕ) (event : Event) (t : Talk) → t.begun ≤ (after_event first event t).begun
event-more first (asked s) t = omega arith
event-more first (began drained most last_tsn now) t = begun-more t.begun t.own (after_begin drained most last_tsn now t.own)
event-more first (sent now rto) t = omega arith
event-more first (came i) t = omega arith
event-more first (answered result) t = omega arith
event-more first (returned r now rto) t = omega arith

events-more : (first : ℕ) (events : List Event) (t : Talk) → t.begun ≤ (after_events first events t).begun
events-more first [] t = omega arith
events-more first (event ∷ events) t = omega (arith, event-more first event t, events-more first events (after_event first event t))

all-steps : (first : ℕ) (events : List Event) (t : Talk) → IsInStep first t → MayAllHappen first events t → (after_events first events t).begun < 2 ^ 32
    → IsInStep first (after_events first events t)
all-steps first [] t h may few = h
all-steps first (event ∷ events) t h may few =
    let after = after_event first event t in
    all-steps first events after
    (one-step first event t h may.0 (omega (arith, event-more first event t, events-more first events after))) may.1 few

at-first : (first : ℕ) → first < 2 ^ 32 → IsInStep first (opened first)
at-first first lt = record {
  next = omega arith;
  under_way = refl;
  expected = omega arith;
  awaited = λ a. absurd (both_ways false refl a);
  within = omega arith;
  kept = tt;
  agrees = inl refl;
  valid = tt;
}

pub both-agree : BothAgree
both-agree first_tsn events lt may few = (all-steps first_tsn events (opened first_tsn) (at-first first_tsn lt) may few).agrees

-- ## The request under way can end

-- the last word on a request that came before is kept, and is not "in progress"
kept-final : (first i : ℕ) (p : PeerRequests) (words : List ReconfigResult) → p.expected ≡ number_of first (length words) → IsKept p.last words
    → i + 1 ≡ length words → is_in_progress (result_of (kept_result (number_of first i) p)) ≡ false
kept-final first i p [] expected kept e = absurd (omega arith)
kept-final first i p (word ∷ words) expected kept e =
    let near : (next_number (number_of first i) == p.expected) ≡ true
    = rw (expected, number-next first i (length (word ∷ words)) e) (same-yes (number_of first (length (word ∷ words)))) in
    rw (near, kept.0) kept.1

-- the events that end it
record CanEnd (first : ℕ) (t : Talk) : Type 0 where
  pub more : List Event
  pub may : MayAllHappen first more t
  pub ends : (after_events first more t).own.under_way ≡ None

left-none : (number : ℕ) (result : ReconfigResult) (r : Request) → r.number ≡ number → is_in_progress result ≡ false → left_of number result 0 0 (Some r) ≡ None
left-none number result r e final = let is : (r.number == number) ≡ true = rw e (same-yes number) in rw is (left-final result 0 0 r final)

-- the other side did not say its last word: it does
end-anew : (first : ℕ) (t : Talk) (r : Request) → IsInStep first t → t.own.under_way ≡ Some r → length t.ends < t.begun → r.number ≡ t.peer.expected
    → r.number ≡ number_of first (length t.ends) → CanEnd first t
end-anew first t r h is lt next number =
    let came-first = after_event first (came (length t.ends)) t in
    let expected : (number_of first (length t.ends) == t.peer.expected) ≡ true = rw (← number, next) (same-yes t.peer.expected) in
    let awaited : (after_request (number_of first (length t.ends)) t.peer).is_awaited ≡ true = rw expected refl in
    let same : r.number ≡ came-first.peer.expected = next ∙ sym (same-request (number_of first (length t.ends)) t.peer).expected in
    record {
      more = came (length t.ends) ∷ answered SuccessPerformed ∷ returned (response came-first.peer.expected SuccessPerformed) 0 0 ∷ [];
      may = (lt, (awaited, (inl refl, tt)));
      ends = rw is (left-none came-first.peer.expected SuccessPerformed r same refl);
    }

-- it did: it answers alike
end-again : (first : ℕ) (t : Talk) (r : Request) → IsInStep first t → t.own.under_way ≡ Some r → length t.ends < t.begun → t.begun < 2 ^ 32
    → length t.words ≡ length t.ends + 1 → r.number ≡ number_of first (length t.ends) → CanEnd first t
end-again first t r h is lt few lengths number =
    let n = number_of first (length t.ends) in
    let result = result_of (kept_result n t.peer) in
    let far : (n == t.peer.expected) ≡ false = by_same n t.peer.expected
    (λ e. absurd (let z = number-once first (length t.ends) (length t.words) (omega arith) (omega (arith, h.within)) (e ∙ h.expected) in omega arith))
    (λ _ f. f) in
    let final = kept-final first (length t.ends) t.peer t.words h.expected h.kept (omega arith) in
    record {
      more = came (length t.ends) ∷ returned (response n result) 0 0 ∷ [];
      may = (lt, (rw far (inl refl), tt));
      ends = rw is (left-none n result r number final);
    }

can-end : (first : ℕ) (t : Talk) → IsInStep first t → t.begun < 2 ^ 32 → CanEnd first t
can-end first t h few = step t.own.under_way refl h.under_way
  where
    by-words : (r : Request) → t.own.under_way ≡ Some r → IsNext first t.begun (length t.ends) (Some r)
        → (length t.words ≡ length t.ends) ⊎ (length t.words ≡ length t.ends + 1) → CanEnd first t
    by-words r is next (inl lengths) =
        end-anew first t r h is (omega (arith, next.0)) (next.1 ∙ ap (number_of first) (sym lengths) ∙ sym h.expected) next.1
    by-words r is next (inr lengths) = end-again first t r h is (omega (arith, next.0)) few lengths next.1

    step : (u : Option Request) → t.own.under_way ≡ u → IsNext first t.begun (length t.ends) u → CanEnd first t
    step None is next = record { more = []; may = tt; ends = is }
    step (Some r) is next = by-words r is next (one-more t.words t.ends h.agrees)

pub each-can-end : EachCanEnd
each-can-end first_tsn events lt may few =
    let end = can-end first_tsn (after_events first_tsn events (opened first_tsn))
    (all-steps first_tsn events (opened first_tsn) (at-first first_tsn lt) may few) few in
    (end.more, end.may, end.ends)
