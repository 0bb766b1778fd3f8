-- A fragment is sent: what waits then is what the record says.
use Rattle.sctp_model.proofs.Names.{◌≡◌, ℕ, suc, ◌+◌, ◌-◌, ◌<◌, Bool, true, false, List, [], ◌∷◌, length, Option, Some, None, refl, ap, sym, ◌∙◌, inl, ◌++◌}
use Rattle.sctp_model.proofs.Names.{inr, arith, ◌⊎◌, if◌then◌else◌, ◌==◌, ◌&&◌, not, slice_get, subst, nat_tests, first_of, or_else, numbers_where, kept-none}
use Rattle.sctp_model.proofs.Names.{front-kept, FrontOf, fails, not_both, by_same, negated, same-yes, FirstOf, first-kept, ChunkPayloadData, Selected, Pending}
use Rattle.sctp_model.proofs.Names.{next_pending, LinkRecord, message_at, messages_where, front, fragment_count, sent_of, is_partially_sent, is_unsent}
use Rattle.sctp_model.proofs.Names.{with_slot, is_expired_or_abandoned, waiting_at, waiting_of, waiting_where, waits_ordered, waits_unordered, selected_of}
use Rattle.sctp_model.proofs.Names.{RefinesPending, flat_map}
use Rattle.sctp_outbound.specs.pending_queue.PendingQueue.{list_of, rest_after, front_of, next_pending_of}
use Rattle.sctp_outbound.specs.pending_queue.PendingQueue.{rest_of, selected_after}
use Rattle.sctp_model.proofs.sender.Shape.{shape, sent}
use Rattle.sctp_model.proofs.sender.Sender.{Sender}
use Rattle.sctp_model.proofs.sender.SenderSteps
use Rattle.sctp_model.proofs.sender.SenderSteps.{Takes, is-partial, sent-other, sent-here}
use Rattle.sctp_model.proofs.sender.Fronts.{front-takes, is-unsent}
use Rattle.sctp_model.proofs.sender.Shapes
use Rattle.sctp_model.proofs.refinement.sending.Waiting
use Rattle.sctp_model.proofs.refinement.sending.Waiting.{Alike, gathered-same, gathered-from, gathered-none}

-- ## The queue's pop

-- with the rest of one list
abbrev left_of : Bool → List ChunkPayloadData → Option Selected → Pending → Pending
left_of true cs s q = record q { unordered = cs; selected = s }
left_of false cs s q = record q { ordered = cs; selected = s }

last : (u : Bool) (q : Pending) (c : ChunkPayloadData) (cs : List ChunkPayloadData) (o : Option Selected) → q.selected ≡ o
    → rest_of u q (c ∷ cs) ≡ left_of u cs (selected_after o u c) q
last true q c cs o e = ap (λ s. let p : Pending = record q { unordered = cs; selected = selected_after s true c } in p) e
last false q c cs o e = ap (λ s. let p : Pending = record q { ordered = cs; selected = selected_after s false c } in p) e

front-some : (c : ChunkPayloadData) (cs xs : List ChunkPayloadData) → xs ≡ c ∷ cs → slice_get xs 0 ≡ Some c
front-some c cs xs e = ap (λ l. slice_get l 0) e

popped-none : (u : Bool) (q : Pending) (c : ChunkPayloadData) (cs : List ChunkPayloadData) → q.selected ≡ None → list_of u q ≡ c ∷ cs
    → (u ≡ false → q.unordered ≡ []) → c.beginning_fragment ≡ true
    → (next_pending q ≡ Some c) × (rest_after c.beginning_fragment u q ≡ left_of u cs (selected_after None u c) q)
popped-none u q c cs sel l none begins = grind (arith, nat_tests, last, front-some)

popped-some : (s : Selected) (q : Pending) (c : ChunkPayloadData) (cs : List ChunkPayloadData) (b : Bool) → q.selected ≡ Some s → list_of s.unordered q ≡ c ∷ cs
    → (next_pending q ≡ Some c) × (rest_after b s.unordered q ≡ left_of s.unordered cs (selected_after (Some s) s.unordered c) q)
popped-some s q c cs b sel l = grind (arith, nat_tests, front-some, last)

-- ## What the front is

-- the messages of a kind are sent in turn: before a partially sent one none of its kind is unsent
abbrev pub KindsInTurn : LinkRecord → Type 0
KindsInTurn w = (n k : ℕ) → is_partially_sent w n ≡ true → k < n → (message_at w k).ordered ≡ (message_at w n).ordered → is_unsent w k ≡ false

pub record FrontIs (w : LinkRecord) (n : ℕ) : Type 0 where
  pub takes : Takes (shape w) n
  -- none of its kind before it waits
  pub before : (k : ℕ) → k < n → (message_at w k).ordered ≡ (message_at w n).ordered → (is_partially_sent w k ≡ false) × (is_unsent w k ≡ false)
  -- it is the partially sent one, or nothing is partially sent and it is unsent
  pub selected : (is_partially_sent w n ≡ true) ⊎ ((sent_of w n ≡ 0) × ((k : ℕ) → k < length w.messages → is_partially_sent w k ≡ false))
  -- unordered ones go first
  pub kinds : sent_of w n ≡ 0 → (message_at w n).ordered ≡ true → (k : ℕ) → k < length w.messages → (message_at w k).ordered ≡ false → is_unsent w k ≡ false

module _ (w : LinkRecord) (s : Sender (shape w)) (turns : KindsInTurn w) (n : ℕ) (is : front w ≡ Some n) where
  takes : Takes (shape w) n
  takes = front-takes (shape w) n s is

  first-partial : is_partially_sent w n ≡ true → FrontIs w n
  first-partial h = record {
    takes = takes;
    before = λ k lt e. (fails (is_partially_sent w k) (λ g. absurd (omega (arith, lt, takes.alone k g))), turns n k h lt e);
    selected = inl h;
    kinds = λ z. absurd (omega (arith, z, (SenderSteps.of-partial (shape w) n h).some));
  }

  neither : (a b : Bool) → (a && b) ≡ false → b ≡ true → a ≡ false
  neither c b e h = grind (arith, nat_tests)

  third : ((j : ℕ) → j < length w.messages → is_partially_sent w j ≡ false)
      → ((j : ℕ) → j < length w.messages → (is_unsent w j && not (message_at w j).ordered) ≡ false) → (o : Option ℕ)
      → FirstOf (λ k. is_unsent w k && (message_at w k).ordered) (length w.messages) o → o ≡ Some n → FrontIs w n
  third no' none b f e = grind (arith, nat_tests, takes, neither)

  second : ((j : ℕ) → j < length w.messages → is_partially_sent w j ≡ false) → (o : Option ℕ) → FirstOf (λ k. is_unsent w k && not (message_at w k).ordered)
      (length w.messages) o → or_else o (first_of (messages_where w (λ k. is_unsent w k && (message_at w k).ordered))) ≡ Some n → FrontIs w n
  second no' None f e = third no' (λ j lt. f j lt) (first_of (messages_where w (λ k. is_unsent w k && (message_at w k).ordered)))
      (first-kept (λ k. is_unsent w k && (message_at w k).ordered) (length w.messages)) e
  second no' (Some k) f e = grind (arith, nat_tests, takes, neither)

  first : (o : Option ℕ) → FirstOf (is_partially_sent w) (length w.messages) o
      → or_else o (or_else (first_of (messages_where w (λ k. is_unsent w k && not (message_at w k).ordered)))
      (first_of (messages_where w (λ k. is_unsent w k && (message_at w k).ordered)))) ≡ Some n → FrontIs w n
  first b f e = grind (arith, nat_tests, second, first-kept, first-partial)

  pub front_is : FrontIs w n
  front_is = first (first_of (messages_where w (is_partially_sent w))) (first-kept (is_partially_sent w) (length w.messages)) is

-- a message that is not expired or abandoned, neither partially sent nor unsent, was wholly sent
pub all-sent : (w : LinkRecord) (k : ℕ) → is_expired_or_abandoned w k ≡ false → is_partially_sent w k ≡ false → is_unsent w k ≡ false → waiting_of w k ≡ []
all-sent w k given partial unsent = grind (arith, nat_tests, is-unsent, is-partial)

-- ## The fragment leaves its list

module _ (w : LinkRecord) (n : ℕ) (f : FrontIs w n) where
  abbrev v : LinkRecord
  v = with_slot w n false

  abbrev i : ℕ
  i = sent_of w n

  abbrev c : ChunkPayloadData
  c = waiting_at w n (sent_of w n)

  alike : (k : ℕ) → Alike w v k
  alike k = record { setup = refl; message = refl; ssn = refl }

  sent-elsewhere : (k : ℕ) → (n ≡ k → ⊥) → sent_of v k ≡ sent_of w k
  sent-elsewhere k ne = ap (λ x. sent x k) (Shapes.shape-slot w n false) ∙ sent-other (shape w) n false k ne

  sent-now : sent_of v n ≡ sent_of w n + 1
  sent-now = ap (λ x. sent x n) (Shapes.shape-slot w n false) ∙ sent-here (shape w) n

  waiting-elsewhere : (k : ℕ) → (n ≡ k → ⊥) → waiting_of v k ≡ waiting_of w k
  waiting-elsewhere k ne = Waiting.waiting_of-alike w v k (alike k) (sent-elsewhere k ne)

  waiting-here : waiting_of w n ≡ c ∷ waiting_of v n
  waiting-here =
      let more = f.takes.more in
      cc ((let z : fragment_count w n - i ≡ suc (fragment_count w n - (i + 1)) = omega (arith, more) in z), sent-now)

  -- the list of its kind
  where-front : (t : ℕ → Bool) → t n ≡ true → ((k : ℕ) → k < n → t k ≡ true → waiting_of w k ≡ []) → waiting_where w t ≡ c ∷ waiting_where v t
  where-front t hit none =
      let lt = f.takes.made in
      let left = 0 + length w.messages - (n + 1) in
      gathered-from (waiting_of w) t n 0 (length w.messages) (omega arith) (omega (arith, lt)) hit (λ k a b e. none k b e)
      ∙ ap (λ l. l ++ flat_map (waiting_of w) (numbers_where t (n + 1) left)) waiting-here
      ∙ ap (λ l. c ∷ (waiting_of v n ++ l))
      (gathered-same (waiting_of w) (waiting_of v) t t (n + 1) left (λ k a b. refl) (λ k a b e. sym (waiting-elsewhere k (λ z. omega (arith, a, z)))))
      ∙ ap (λ l. c ∷ l) (sym (gathered-from (waiting_of v) t n 0 (length w.messages) (omega arith) (omega (arith, lt)) hit
      (λ k a b e. waiting-elsewhere k (λ z. omega (arith, b, z)) ∙ none k b e)))

  -- and the other one
  where-other : (t : ℕ → Bool) → t n ≡ false → waiting_where v t ≡ waiting_where w t
  where-other t miss = gathered-same (waiting_of v) (waiting_of w) t t 0 (length w.messages) (λ k a b. refl)
      (λ k a b e. waiting-elsewhere k (λ z. not_both (sym miss ∙ ap t z ∙ e)))

  given : is_expired_or_abandoned w n ≡ false
  given = rw (f.takes.kept, f.takes.alive) refl

  split : (a b : Bool) → (a && not b) ≡ true → (a ≡ true) × (b ≡ false)
  split c b e = grind (arith, nat_tests)

  quiet : (k : ℕ) → k < n → (message_at w k).ordered ≡ (message_at w n).ordered → is_expired_or_abandoned w k ≡ false → waiting_of w k ≡ []
  quiet k lt e g = let b = f.before k lt e in all-sent w k g b.0 b.1

  join : (a b : Bool) → a ≡ true → b ≡ false → (a && not b) ≡ true
  join c b e h = grind (arith, nat_tests)

  miss-of : (a b : Bool) → a ≡ false → (a && not b) ≡ false
  miss-of true b e = cc
  miss-of false b e = refl

  -- by its kind
  abbrev kind_of : Bool → ℕ → Bool
  kind_of u k = if u then waits_unordered w k else waits_ordered w k

  lists : (u : Bool) → (message_at w n).ordered ≡ not u → (q : Pending) → RefinesPending w q
      → (list_of u q ≡ c ∷ waiting_where v (kind_of u)) × ((s : Option Selected) → s ≡ selected_of v (first_of (messages_where v (is_partially_sent v)))
      → RefinesPending v (left_of u (waiting_where v (kind_of u)) s q))
  lists true e q t = grind (arith, nat_tests, where-front, join, given, split, quiet, where-other, miss-of)
  lists false e q t = grind (arith, nat_tests, where-front, join, given, split, quiet, where-other, miss-of)

  -- the partially sent message then
  partial-elsewhere : (k : ℕ) → (n ≡ k → ⊥) → is_partially_sent v k ≡ false
  partial-elsewhere k ne = cc (sent-elsewhere k ne, fails (is_partially_sent w k) (λ h. ne (sym (f.takes.alone k h))))

  partial-here : is_partially_sent v n ≡ not (i + 1 == fragment_count w n)
  partial-here = grind (arith, nat_tests, sent-now)

  selected-then : (if i + 1 == fragment_count w n then None else Some (let s : Selected = record { message_id = n; unordered = not (message_at w n).ordered } in
      s)) ≡ selected_of v (first_of (messages_where v (is_partially_sent v)))
  selected-then = by (i + 1 == fragment_count w n) refl
    where
      found : (l : List ℕ) → FrontOf (is_partially_sent v) 0 (length w.messages) l → is_partially_sent v n ≡ true
          → Some (let s : Selected = record { message_id = n; unordered = not (message_at w n).ordered } in s) ≡ selected_of v (first_of l)
      found [] g h = absurd (not_both (sym (g n (omega arith) (omega (arith, f.takes.made))) ∙ h))
      found (k ∷ rest) g h = grind (arith, nat_tests, partial-elsewhere)

      none : is_partially_sent v n ≡ false → (k : ℕ) → is_partially_sent v k ≡ false
      none h k = by_same {P = is_partially_sent v k ≡ false} n k (λ e. ap (is_partially_sent v) (sym e) ∙ h) (λ ne x. partial-elsewhere k ne)

      by : (b : Bool) → (i + 1 == fragment_count w n) ≡ b
          → (if b then None else Some (let s : Selected = record { message_id = n; unordered = not (message_at w n).ordered } in s))
          ≡ selected_of v (first_of (messages_where v (is_partially_sent v)))
      by true e = sym (ap (λ l. selected_of v (first_of l)) (kept-none (is_partially_sent v) 0 (length w.messages) (λ k a b. none (partial-here ∙ ap not e) k)))
      by false e = found (messages_where v (is_partially_sent v)) (front-kept (is_partially_sent v) 0 (length w.messages)) (partial-here ∙ ap not e)

  -- the queue shows this fragment, and without it holds what the record says
  pub pending-sent : (q : Pending) → RefinesPending w q → (next_pending q ≡ Some c) × RefinesPending v (rest_after c.beginning_fragment c.unordered q)
  pending-sent q t = by f.selected
    where
      u : Bool
      u = not (message_at w n).ordered

      twice : (b : Bool) → b ≡ not (not b)
      twice true = refl
      twice false = refl

      l : (list_of u q ≡ c ∷ waiting_where v (kind_of u)) × ((s : Option Selected) → s ≡ selected_of v (first_of (messages_where v (is_partially_sent v)))
          → RefinesPending v (left_of u (waiting_where v (kind_of u)) s q))
      l = lists u (twice (message_at w n).ordered) q t

      own : Selected
      own = record { message_id = n; unordered = not (message_at w n).ordered }

      partial : (k : List ℕ) → FrontOf (is_partially_sent w) 0 (length w.messages) k → is_partially_sent w n ≡ true → selected_of w (first_of k) ≡ Some own
      partial [] g h = absurd (not_both (sym (g n (omega arith) (omega (arith, f.takes.made))) ∙ h))
      partial (k ∷ rest) g h = let e = f.takes.alone k g.passes in
          ap (λ j. Some (let s : Selected = record { message_id = j; unordered = not (message_at w j).ordered } in s)) e

      ends : (b : Bool) → (if b && (n == n) then None else Some own) ≡ (if b then None else Some own)
      ends true = ap (λ b. if b then None else Some own) (same-yes n)
      ends false = refl

      no-unordered : sent_of w n ≡ 0 → ((k : ℕ) → k < length w.messages → is_partially_sent w k ≡ false) → u ≡ false → q.unordered ≡ []
      no-unordered z none e =
          t.unordered ∙ gathered-none (waiting_of w) (waits_unordered w) 0 (length w.messages)
          (λ k a b h. let p = split (not (message_at w k).ordered) (is_expired_or_abandoned w k) h in
          all-sent w k p.1 (none k (omega arith)) (f.kinds z (yes-of (message_at w n).ordered e) k (omega arith) (negated (message_at w k).ordered p.0)))
        where
          yes-of : (b : Bool) → not b ≡ false → b ≡ true
          yes-of true h = refl
          yes-of false h = cc

      by : (is_partially_sent w n ≡ true) ⊎ ((sent_of w n ≡ 0) × ((k : ℕ) → k < length w.messages → is_partially_sent w k ≡ false))
          → (next_pending q ≡ Some c) × RefinesPending v (rest_after c.beginning_fragment c.unordered q)
      by (inl h) =
          let p = popped-some own q c (waiting_where v (kind_of u)) c.beginning_fragment (t.selected
          ∙ partial (messages_where w (is_partially_sent w)) (front-kept (is_partially_sent w) 0 (length w.messages)) h) l.0 in
          (p.0, subst (RefinesPending v) (sym p.1) (l.1 (selected_after (Some own) u c) (ends (i + 1 == fragment_count w n) ∙ selected-then)))
      by (inr r) =
          let sel = t.selected ∙ ap (λ k. selected_of w (first_of k)) (kept-none (is_partially_sent w) 0 (length w.messages) (λ k a b. r.1 k (omega arith))) in
          let p = popped-none u q c (waiting_where v (kind_of u)) sel l.0 (no-unordered r.0 r.1) (ap (λ j. j == 0) r.0) in
          (p.0, subst (RefinesPending v) (sym p.1) (l.1 (selected_after None u c) selected-then))

-- ## Nothing to send

pub pending-idle : (w : LinkRecord) (q : Pending) → RefinesPending w q
    → ((k : ℕ) → k < length w.messages → (is_partially_sent w k ≡ false) × (is_unsent w k ≡ false)) → next_pending q ≡ None
pending-idle w q t none =
    ap (λ o. next_pending_of o q)
    (t.selected ∙ ap (λ k. selected_of w (first_of k)) (kept-none (is_partially_sent w) 0 (length w.messages) (λ k a b. (none k (omega arith)).0)))
    ∙ ap (λ l. front_of l q.ordered) (t.unordered ∙ gathered-none (waiting_of w) (waits_unordered w) 0 (length w.messages)
    (λ k a b h. all-sent w k (given (not (message_at w k).ordered) (is_expired_or_abandoned w k) h) (none k (omega arith)).0 (none k (omega arith)).1))
    ∙ ap (λ l. slice_get l 0) (t.ordered ∙ gathered-none (waiting_of w) (waits_ordered w) 0 (length w.messages)
    (λ k a b h. all-sent w k (given (message_at w k).ordered (is_expired_or_abandoned w k) h) (none k (omega arith)).0 (none k (omega arith)).1))
  where
    given : (a b : Bool) → (a && not b) ≡ true → b ≡ false
    given c b e = grind (arith, nat_tests)
