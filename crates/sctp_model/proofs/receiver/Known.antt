use Rattle.sctp_model.proofs.Names.{◌≡◌, ℕ, zero, suc, ◌+◌, ◌-◌, ◌<◌, ◌≤◌, Bool, true, false, List, [], ◌∷◌, ◌++◌, length, take, drop, Some, refl, ap, sym, ◌∙◌}
use Rattle.sctp_model.proofs.Names.{inl, inr, arith, ◌⊎◌, if◌then◌else◌, ◌==◌, ◌&&◌, ◌||◌, not, nat_le, nat_lt, list_any, list_all, filter, subst, cases_lt}
use Rattle.sctp_model.proofs.Names.{nat_tests, numbers_where, leading, first_of, kept-same, fails, not_both, both, and, kept-short, Setup, LinkRecord, is_new}
use Rattle.sctp_model.proofs.Names.{LogEntry, SlotReceived, SkipReceived, AllDifferent, by_same, same-yes, same-is, negated, or-right, or-split, or-none}
use Rattle.sctp_model.proofs.Names.{and-none, all-more, any-append}
use Rattle.sctp_util.proofs.Alls
use Rattle.sctp_model.specs.Messages
use Rattle.sctp_model.specs.Changes
use Rattle.sctp_model.specs.Log
use Rattle.sctp_model.proofs.sender.Shape.{has, on, sent, parts}
use Rattle.sctp_model.proofs.sender.Sender.{Sender}
use Rattle.sctp_model.proofs.sender.SenderEnds.{sent-none}
use Rattle.sctp_model.proofs.sender.SenderRun.{Consistent}
use Rattle.sctp_model.proofs.sender.Grows.{Grows, parts-grown}
use Rattle.sctp_model.proofs.sender.Moves.{Quiet}
use Rattle.sctp_model.proofs.receiver.Arrivals.{Arrivals, with_arrived, arrived-beyond}
use Rattle.sctp_model.proofs.receiver.View
use Rattle.sctp_model.proofs.receiver.View.{View, view, has_come, come_count, all_come, complete_at, arrived_in, noted_in, skipped_in, read_in, run, line}
use Rattle.sctp_model.proofs.receiver.View.{next_read}
use Rattle.sctp_model.proofs.receiver.CompleteMessages

-- In every history what is complete in the record is what the order of arrivals makes complete.

-- ## What the sender's changes leave

pub record Still (u v : View) : Type 0 where
  pub grows : Grows u.x v.x
  pub sender : Sender u.x
  pub sender' : Sender v.x
  pub arrived : (p : ℕ) → v.arrived p ≡ u.arrived p
  pub beyond : (p : ℕ) → u.x.slots ≤ p → u.arrived p ≡ false
  pub read : (n : ℕ) → n < u.x.count → v.read n ≡ u.read n
  pub unread : (n : ℕ) → u.x.count ≤ n → n < v.x.count → v.read n ≡ false
  pub named : (s : ℕ) → v.named s ≡ u.named s
  pub complete : (s : ℕ) → v.complete s ≡ u.complete s
  pub skipped : v.skipped ≡ u.skipped

pub still-of : (setup : Setup) (w v : LinkRecord) → Consistent setup w → Consistent setup v → Quiet w v → Still (view w) (view v)
still-of setup w v g a q = grind (arith, nat_tests, arrived-beyond)

pub come-still : (u v : View) → Still u v → (n : ℕ) → come_count v n ≡ come_count u n
come-still u v s n = ap length
    (kept-short (has_come v n) 0 u.x.slots (v.x.slots - u.x.slots) v.x.slots (omega (arith, s.grows.slots)) (λ k a b. ap (λ c. has v.x n k && c) (s.arrived k
    ∙ s.beyond k (omega arith)) ∙ and-none (has v.x n k)) ∙ kept-same (has_come v n) (has_come u n) 0 u.x.slots (λ k a b.
    ap (λ c. has v.x n k && c) (s.arrived k) ∙ ap (λ y. ((y.message == n) && not y.is_terminal_chunk) && u.arrived k) (s.grows.slot k (omega arith))))

pub all-still : (u v : View) → Still u v → (n : ℕ) → n < u.x.count → all_come v n ≡ all_come u n
all-still u v s n lt = ap (λ c. c == parts v.x n) (come-still u v s n) ∙ ap (λ k. come_count u n == k) (parts-grown u.x v.x s.grows n lt)

pub complete-still : (u v : View) → Still u v → (n : ℕ) → n < u.x.count → complete_at v n ≡ complete_at u n
complete-still u v s n lt = search (arith, nat_tests, all-still)

-- what has arrived was sent
pub come-sent : (v : View) (n : ℕ) → come_count v n ≤ sent v.x n
come-sent v n = less 0 v.x.slots
  where
    less : (from count : ℕ) → length (numbers_where (λ k. has v.x n k && v.arrived k) from count) ≤ length (numbers_where (has v.x n) from count)
    less from zero = omega arith
    less from (suc count) = step (has v.x n from) (v.arrived from) (less (from + 1) count)
      where
        step : (c d : Bool) → length (numbers_where (λ k. has v.x n k && v.arrived k) (from + 1) count) ≤ length (numbers_where (has v.x n) (from + 1) count)
            → length (if c && d then from ∷ numbers_where (λ k. has v.x n k && v.arrived k) (from + 1) count
            else numbers_where (λ k. has v.x n k && v.arrived k) (from + 1) count)
            ≤ length (if c then from ∷ numbers_where (has v.x n) (from + 1) count else numbers_where (has v.x n) (from + 1) count)
        step c d h1 = grind (arith, nat_tests)

-- ## The invariant

-- a complete unordered message that waits to be read
pub record IsReady (v : View) (s n : ℕ) : Type 0 where
  pub made : n < v.x.count
  pub stream : (v.x.message n).stream ≡ s
  pub kind : (v.x.message n).ordered ≡ false
  pub unread : v.read n ≡ false

pub record Complete (v : View) (log : List LogEntry) : Type 0 where
  pub datagram_received : CompleteMessages.SlotsReceived v.x log
  pub ready : (s n : ℕ) → list_any (λ k. k == n) (v.complete s) ≡ true → IsReady v s n
  pub differ : (s : ℕ) → AllDifferent (v.complete s)
  pub agrees : (n : ℕ) → n < v.x.count → complete_at v n ≡ CompleteMessages.complete_in v.x log n

pub record Known (w : LinkRecord) (log : List LogEntry) : Type 0 where
  pub arrivals : Arrivals w log
  pub complete : Complete (view w) log

pub hears : (w : LinkRecord) (log : List LogEntry) → Arrivals w log → CompleteMessages.Hears (view w) log
hears w log h = record { arrived = h.arrived; covered = h.covered }

pub complete-as : (u v : View) (log : List LogEntry) → v ≡ u → Complete u log → Complete v log
complete-as u v log e h = subst (λ y. Complete y log) (sym e) h

-- ## The sender's changes

different-same : (xs ys : List ℕ) → ys ≡ xs → AllDifferent xs → AllDifferent ys
different-same xs ys e a = subst AllDifferent (sym e) a

pub complete-quiet : (u v : View) (log : List LogEntry) → ((p : ℕ) → u.arrived p ≡ Log.arrived_new log p) → Still u v → Complete u log → Complete v log
complete-quiet u v log arrivals s h = record {
  datagram_received = CompleteMessages.received-later u.x v.x s.grows.slots log h.datagram_received;
  ready = grind (arith, nat_tests);
  differ = λ t. different-same (u.complete t) (v.complete t) (s.complete t) (h.differ t);
  agrees = λ n lt. by n lt (cases_lt n u.x.count);
}
  where
    new-at : (n : ℕ) → n < v.x.count → u.x.count ≤ n → complete_at v n ≡ false
    new-at n lt ge = kind (v.x.message n).ordered refl
      where
        none : come_count v n ≡ 0
        none = omega (arith, come-still u v s n, come-sent u n, sent-none u.x n s.sender ge)

        kind : (b : Bool) → (v.x.message n).ordered ≡ b
            → (if b then all_come v n else v.read n || list_any (λ k. k == n) (v.complete (v.x.message n).stream)) ≡ false
        kind true e = let z : come_count v n < parts v.x n = omega (arith, none, s.sender'.some n lt) in grind (arith, nat_tests)
        kind false e = grind (arith, nat_tests)

    new-in : (n : ℕ) → n < v.x.count → u.x.count ≤ n → CompleteMessages.complete_in v.x log n ≡ false
    new-in n lt ge = fails (CompleteMessages.complete_in v.x log n)
        (λ e. let y = CompleteMessages.complete-come v log n (λ p. s.arrived p ∙ arrivals p) (s.sender'.within n lt) e in
        let z = same-is (come_count v n) (parts v.x n) y in
        absurd (omega (arith, z, come-still u v s n, come-sent u n, sent-none u.x n s.sender ge, s.sender'.some n lt)))

    by : (n : ℕ) → n < v.x.count → (n < u.x.count) ⊎ (u.x.count ≤ n) → complete_at v n ≡ CompleteMessages.complete_in v.x log n
    by n lt (inl l) = complete-still u v s n l ∙ h.agrees n l
        ∙ sym (CompleteMessages.complete-later u.x v.x s.sender s.sender' s.grows log h.datagram_received n l)
    by n lt (inr ge) = new-at n lt ge ∙ sym (new-in n lt ge)

-- ## A slot comes

abbrev pub noting : View → ℕ → View
noting v n = if not (v.x.message n).ordered && CompleteMessages.due v n then noted_in v (v.x.message n).stream n else v

pub view-received : (setup : Setup) (w : LinkRecord) (p : ℕ) → Consistent setup w → p < length w.slots → is_new w p ≡ true
    → view (Changes.receive_slot w p) ≡ noting (arrived_in (view w) p) (Messages.message_of w p)
view-received setup w p g lt new =
    ap (λ b. view (if b then Changes.note_completion (with_arrived w p) (Messages.message_of w p) else record w { duplicates = w.duplicates ++ p ∷ [] })) new
    ∙ step (Changes.becomes_complete (with_arrived w p) (Messages.message_of w p)) ∙ ap (λ v. noting v (Messages.message_of w p)) (View.view-arrived w p lt)
  where
    step : (b : Bool) → view (if b then Changes.stream_changed (with_arrived w p) (Messages.message_at w (Messages.message_of w p)).stream
        (Changes.with_complete (Messages.message_of w p)) else with_arrived w p) ≡ (if b
        then noted_in (view (with_arrived w p)) (Messages.message_at w (Messages.message_of w p)).stream (Messages.message_of w p) else view (with_arrived w p))
    step true = View.view-noted (with_arrived w p) (Messages.message_at w (Messages.message_of w p)).stream (Messages.message_of w p)
        (g.known (Messages.message_of w p) (g.sender.made p lt))
    step false = refl

pub differ-more : (xs : List ℕ) (n : ℕ) → list_any (λ k. k == n) xs ≡ false → AllDifferent xs → AllDifferent (xs ++ n ∷ [])
differ-more [] n e a = (refl, tt)
differ-more (x ∷ xs) n e a = (
  any-append (λ y. y == x) xs (n ∷ []) ∙ ap (λ b. b || ((n == x) || false)) a.0 ∙ or-none (n == x)
      ∙ fails (n == x) (λ h. not_both (sym (left (x == n) (list_any (λ k. k == n) xs) e) ∙ flip (same-is n x h))),
  differ-more xs n (right (x == n) (list_any (λ k. k == n) xs) e) a.1,
)
  where
    left : (a b : Bool) → (a || b) ≡ false → a ≡ false
    left a b h1 = grind (arith, nat_tests)

    right : (a b : Bool) → (a || b) ≡ false → b ≡ false
    right a b h1 = grind (arith, nat_tests)

    flip : n ≡ x → (x == n) ≡ true
    flip z = grind (arith, nat_tests)

-- a message with a slot that has not arrived
pub not-all : (v : View) (n p : ℕ) → sent v.x n ≤ parts v.x n → p < v.x.slots → has v.x n p ≡ true → v.arrived p ≡ false → all_come v n ≡ false
not-all v n p le lt h e = fails (all_come v n) (λ a. not_both (sym e ∙ Alls.all-at v.arrived (has v.x n) p 0 v.x.slots (omega arith) (omega arith) h
    (both (sent v.x n == parts v.x n) (list_all v.arrived (CompleteMessages.slots_in v.x n)) (sym (CompleteMessages.all-come v n le) ∙ a)).1))

-- another message has arrived as it had
pub come-other : (v : View) (p n : ℕ) → ((v.x.slot p).message ≡ n → ⊥) → come_count (arrived_in v p) n ≡ come_count v n
come-other v p n ne = grind (arith, nat_tests)

module _ (v : View) (log : List LogEntry) (p : ℕ) (s : Sender v.x) (h : Complete v log) (arrivals : CompleteMessages.Hears v log)
    (arrivals' : CompleteMessages.Hears (arrived_in v p) (SlotReceived p ∷ log)) (lt : p < v.x.slots) (terminal : (v.x.slot p).is_terminal_chunk ≡ false)
    (new : v.arrived p ≡ false) where
  abbrev m : ℕ
  m = (v.x.slot p).message

  abbrev v1 : View
  v1 = arrived_in v p

  abbrev v2 : View
  v2 = noting (arrived_in v p) (v.x.slot p).message

  made : m < v.x.count
  made = s.made p lt

  here : has v.x m p ≡ true
  here = and ((v.x.slot p).message == m) (not (v.x.slot p).is_terminal_chunk) (same-yes m) (ap not terminal)

  -- it was not complete before
  pub not-complete : (v.x.message m).ordered ≡ false → complete_at v m ≡ false
  not-complete o = grind (arith, nat_tests, not-all, made, here, CompleteMessages.complete-come)

  pub due-other : (n : ℕ) → (m ≡ n → ⊥) → CompleteMessages.due v1 n ≡ CompleteMessages.due v n
  due-other n ne = ap (λ c. (c == parts v.x n) && list_all (λ q. nat_le v.skipped q) (CompleteMessages.slots_in v.x n)) (come-other v p n ne)

  -- who is complete then
  pub complete-then : (n : ℕ) → n < v.x.count → (v.x.message n).ordered ≡ false → complete_at v2 n ≡ (complete_at v n || CompleteMessages.due v1 n)
  complete-then n l o = by_same {P = complete_at v2 n ≡ (complete_at v n || CompleteMessages.due v1 n)} m n
      (λ e. same e (CompleteMessages.due v1 m) refl)
      (λ ne f. other ne f (not (v.x.message m).ordered && CompleteMessages.due v1 m) ∙ sym (stays ne))
    where
      same : m ≡ n → (b : Bool) → CompleteMessages.due v1 m ≡ b → complete_at v2 n ≡ (complete_at v n || CompleteMessages.due v1 n)
      same h1 b h2 = search (arith, nat_tests, and, or-right, same-yes, any-append, and-none, or-none)

      other : (m ≡ n → ⊥) → (m == n) ≡ false → (b : Bool) → complete_at (if b then noted_in v1 (v.x.message m).stream m else v1) n ≡ complete_at v n
      other h1 h2 b = search (arith, nat_tests, any-append, or-none)

      -- what is due was complete
      stays : (m ≡ n → ⊥) → (complete_at v n || CompleteMessages.due v1 n) ≡ complete_at v n
      stays ne = grind (arith, nat_tests, due-other, CompleteMessages.due-complete)

  agrees-then : (n : ℕ) → n < v.x.count → complete_at v2 n ≡ CompleteMessages.complete_in v.x (SlotReceived p ∷ log) n
  agrees-then n l = by (v.x.message n).ordered refl
    where
      kind : (b : Bool) → (v.x.message n).ordered ≡ true → complete_at (if b then noted_in v1 (v.x.message m).stream m else v1) n ≡ complete_at v1 n
      kind true o = cc o
      kind false o = refl

      by : (b : Bool) → (v.x.message n).ordered ≡ b → complete_at v2 n ≡ CompleteMessages.complete_in v.x (SlotReceived p ∷ log) n
      by true o = kind (not (v.x.message m).ordered && CompleteMessages.due v1 m) o
          ∙ CompleteMessages.ordered-complete v1 (SlotReceived p ∷ log) n arrivals'.arrived (s.within n l) o
      by false o = cc (complete-then n l o, h.agrees n l, CompleteMessages.one-more v1 (SlotReceived p) log n arrivals' (s.within n l) o)

  pub complete-slot : Complete v2 (SlotReceived p ∷ log)
  complete-slot = by (not (v.x.message m).ordered && CompleteMessages.due v1 m) refl
    where
      by : (b : Bool) → (not (v.x.message m).ordered && CompleteMessages.due v1 m) ≡ b → Complete v2 (SlotReceived p ∷ log)
      by false e =
          complete-as v1 v2 (SlotReceived p ∷ log) (ap (λ b. if b then noted_in v1 (v.x.message m).stream m else v1) e)
          (record {
            datagram_received = (lt, h.datagram_received);
            ready = λ t n i. let r = h.ready t n i in record { made = r.made; stream = r.stream; kind = r.kind; unread = r.unread };
            differ = h.differ;
            agrees = λ n l. ap (λ b. complete_at (if b then noted_in v1 (v.x.message m).stream m else v1) n) (sym e) ∙ agrees-then n l;
          })
      by true e =
          let kind : (v.x.message m).ordered ≡ false = negated (v.x.message m).ordered (both (not (v.x.message m).ordered) (CompleteMessages.due v1 m) e).0 in
          complete-as (noted_in v1 (v.x.message m).stream m) v2 (SlotReceived p ∷ log) (ap (λ b. if b then noted_in v1 (v.x.message m).stream m else v1) e)
          (record {
            datagram_received = (lt, h.datagram_received);
            ready = λ t n i. waits kind t n (t == (v.x.message m).stream) refl i;
            differ = λ t. apart kind t (t == (v.x.message m).stream) refl;
            agrees = λ n l. ap (λ b. complete_at (if b then noted_in v1 (v.x.message m).stream m else v1) n) (sym e) ∙ agrees-then n l;
          })
        where
          unread : (v.x.message m).ordered ≡ false → v.read m ≡ false
          unread kind = grind (arith, nat_tests, not-complete)

          absent : (v.x.message m).ordered ≡ false → list_any (λ k. k == m) (v.complete (v.x.message m).stream) ≡ false
          absent kind = grind (arith, nat_tests, not-complete)

          old : (t n : ℕ) → list_any (λ k. k == n) (v.complete t) ≡ true → IsReady (noted_in v1 (v.x.message m).stream m) t n
          old t n i = let r = h.ready t n i in record { made = r.made; stream = r.stream; kind = r.kind; unread = r.unread }

          waits : (v.x.message m).ordered ≡ false → (t n : ℕ) → (b : Bool) → (t == (v.x.message m).stream) ≡ b
              → list_any (λ k. k == n) (if b then v.complete t ++ m ∷ [] else v.complete t) ≡ true → IsReady (noted_in v1 (v.x.message m).stream m) t n
          waits kind t n false f i = old t n i
          waits kind t n true f i =
              side (or-split (list_any (λ k. k == n) (v.complete t)) ((m == n) || false) (sym (any-append (λ k. k == n) (v.complete t) (m ∷ [])) ∙ i))
            where
              side : (list_any (λ k. k == n) (v.complete t) ≡ true) ⊎ (((m == n) || false) ≡ true) → IsReady (noted_in v1 (v.x.message m).stream m) t n
              side (inl j) = old t n j
              side (inr j) =
                  let z : m ≡ n = same-is m n (sym (or-none (m == n)) ∙ j) in
                  subst (λ k. IsReady (noted_in v1 (v.x.message m).stream m) t k) z
                  (record { made = made; stream = sym (same-is t (v.x.message m).stream f); kind = kind; unread = unread kind })

          apart : (v.x.message m).ordered ≡ false → (t : ℕ) → (b : Bool) → (t == (v.x.message m).stream) ≡ b
              → AllDifferent (if b then v.complete t ++ m ∷ [] else v.complete t)
          apart kind t false f = h.differ t
          apart kind t true f =
              differ-more (v.complete t) m (ap (λ k. list_any (λ k. k == m) (v.complete k)) (same-is t (v.x.message m).stream f) ∙ absent kind) (h.differ t)

-- ## Other things come

-- nothing becomes complete
agrees-still : (u v : View) (coming : LogEntry) (log : List LogEntry) → CompleteMessages.Hears u log → CompleteMessages.Hears v (coming ∷ log) → v.x ≡ u.x
    → Sender u.x → Complete u log → ((n : ℕ) → n < u.x.count → complete_at v n ≡ complete_at u n) → ((n : ℕ) → CompleteMessages.due v n ≡ true
    → CompleteMessages.due u n ≡ true) → (n : ℕ) → n < u.x.count → complete_at v n ≡ CompleteMessages.complete_in u.x (coming ∷ log) n
agrees-still u v coming log arrivals arrivals' e s h same less n lt = by (u.x.message n).ordered refl
  where
    le : sent v.x n ≤ parts v.x n
    le = subst (λ y. sent y n ≤ parts y n) (sym e) (s.within n lt)

    kind : (u.x.message n).ordered ≡ (v.x.message n).ordered
    kind = ap (λ y. (y.message n).ordered) (sym e)

    by : (b : Bool) → (u.x.message n).ordered ≡ b → complete_at v n ≡ CompleteMessages.complete_in u.x (coming ∷ log) n
    by true o = cc (CompleteMessages.ordered-complete v (coming ∷ log) n arrivals'.arrived le (sym kind ∙ o), e)
    by false o =
        same n lt ∙ h.agrees n lt
        ∙ sym (ap (λ y. CompleteMessages.complete_in y (coming ∷ log) n) (sym e) ∙ CompleteMessages.one-more v coming log n arrivals' le (sym kind ∙ o)
        ∙ ap (λ y. CompleteMessages.complete_in y log n || CompleteMessages.due v n) e ∙ gone (CompleteMessages.due v n) refl)
      where
        gone : (b : Bool) → CompleteMessages.due v n ≡ b
            → (CompleteMessages.complete_in u.x log n || CompleteMessages.due v n) ≡ CompleteMessages.complete_in u.x log n
        gone b h1 = grind (arith, nat_tests, CompleteMessages.due-complete)

-- a slot comes again, or a SACK is made
pub complete-again : (v : View) (coming : LogEntry) (log : List LogEntry) → CompleteMessages.Hears v log → CompleteMessages.Hears v (coming ∷ log) → Sender v.x
    → CompleteMessages.SlotsReceived v.x (coming ∷ log) → Complete v log → Complete v (coming ∷ log)
complete-again v coming log arrivals arrivals' s datagram_received h = grind (arith, nat_tests, agrees-still)

pub complete-skip : (v : View) (log : List LogEntry) (upto : ℕ) (names : List ℕ) → CompleteMessages.Hears v log
    → CompleteMessages.Hears (skipped_in v upto names) (SkipReceived upto names ∷ log) → Sender v.x → v.skipped ≤ upto → Complete v log
    → Complete (skipped_in v upto names) (SkipReceived upto names ∷ log)
complete-skip v log upto names arrivals arrivals' s le h = record {
  datagram_received = h.datagram_received;
  ready = λ t n i. let r = h.ready t n i in record { made = r.made; stream = r.stream; kind = r.kind; unread = r.unread };
  differ = h.differ;
  agrees = agrees-still v (skipped_in v upto names) (SkipReceived upto names) log arrivals arrivals' refl s h (λ n lt. refl) (λ n e. less n e);
}
  where
    less : (n : ℕ) → CompleteMessages.due (skipped_in v upto names) n ≡ true → CompleteMessages.due v n ≡ true
    less n e = grind (arith, nat_tests, all-more) steps 150000

-- ## A read

-- what is read next: a complete unordered message, or the first unread one of the run
pub record ReadsComplete (v : View) (s n : ℕ) : Type 0 where
  pub rest : List ℕ
  pub is : v.complete s ≡ n ∷ rest

pub record ReadsRun (v : View) (s n : ℕ) : Type 0 where
  pub none : v.complete s ≡ []
  pub first : first_of (filter (λ n. not (v.read n)) (run v s)) ≡ Some n

pub reads : (v : View) (s n : ℕ) → next_read v s ≡ Some n → ReadsComplete v s n ⊎ ReadsRun v s n
reads v s n e = grind (arith, nat_tests)

-- one of the run is complete, unread, and on the line
pub record IsNext (v : View) (s n : ℕ) : Type 0 where
  pub made : n < v.x.count
  pub on_it : on v.x s n ≡ true
  pub complete_now : complete_at v n ≡ true
  pub unread : v.read n ≡ false

pub run-is : (v : View) (s n : ℕ) → ReadsRun v s n → IsNext v s n
run-is v s n r = record {
  made = let t = all (λ k. nat_lt k v.x.count) (λ k a b e. let l : k < v.x.count = omega (arith, b) in grind (arith, nat_tests)) in grind (arith, nat_tests);
  on_it = all (on v.x s) (λ k a b e. e);
  complete_now = Alls.all-first (complete_at v) (filter (λ n. not (v.read n)) (run v s)) n (Alls.all-passing (complete_at v) (λ n. not (v.read n)) (run v s)
      (Alls.all-append (complete_at v) (filter (complete_at v) (take (v.named s) (line v s))) (leading (complete_at v) (drop (v.named s) (line v s)))
      (Alls.all-passed (complete_at v) (take (v.named s) (line v s))) (all-led (complete_at v) (drop (v.named s) (line v s))))) r.first;
  unread = negated (v.read n)
      (Alls.all-first (λ n. not (v.read n)) (filter (λ n. not (v.read n)) (run v s)) n (Alls.all-passed (λ n. not (v.read n)) (run v s)) r.first);
}
  where
    all : (t : ℕ → Bool) → ((k : ℕ) → 0 ≤ k → k < 0 + v.x.count → on v.x s k ≡ true → t k ≡ true) → t n ≡ true
    all t h =
        let base = Alls.all-kept t (on v.x s) 0 v.x.count h in
        Alls.all-first t (filter (λ n. not (v.read n)) (run v s)) n (Alls.all-passing t (λ n. not (v.read n)) (run v s)
        (Alls.all-append t (filter (complete_at v) (take (v.named s) (line v s))) (leading (complete_at v) (drop (v.named s) (line v s)))
        (Alls.all-passing t (complete_at v) (take (v.named s) (line v s)) (Alls.all-take t (v.named s) (line v s) base))
        (Alls.all-leading t (complete_at v) (drop (v.named s) (line v s)) (Alls.all-drop t (v.named s) (line v s) base)))) r.first

    all-led : (q : ℕ → Bool) (xs : List ℕ) → list_all q (leading q xs) ≡ true
    all-led q [] = refl
    all-led q (x ∷ xs) = step (q x) refl (all-led q xs)
      where
        step : (b : Bool) → q x ≡ b → list_all q (leading q xs) ≡ true → list_all q (if b then x ∷ leading q xs else []) ≡ true
        step b h1 h2 = grind (arith, nat_tests)

-- a message read is ordered, or it was ready
pub record HasRead (v : View) (s n : ℕ) : Type 0 where
  pub made : n < v.x.count
  pub stream : (v.x.message n).stream ≡ s
  pub unread : v.read n ≡ false
  pub complete_now : complete_at v n ≡ true

pub any-here : (n : ℕ) (rest : List ℕ) → list_any (λ k. k == n) (n ∷ rest) ≡ true
any-here n rest = ap (λ b. b || list_any (λ k. k == n) rest) (same-yes n)

pub ready-first : (v : View) (log : List LogEntry) (s n : ℕ) → Complete v log → ReadsComplete v s n → IsReady v s n
ready-first v log s n h r = h.ready s n (ap (list_any (λ k. k == n)) r.is ∙ any-here n r.rest)

pub ready-complete : (v : View) (log : List LogEntry) (s n : ℕ) → Complete v log → ReadsComplete v s n → complete_at v n ≡ true
ready-complete v log s n h r =
    let i = ready-first v log s n h r in
    ap (λ b. if b then all_come v n else v.read n || list_any (λ k. k == n) (v.complete (v.x.message n).stream)) i.kind
    ∙ or-right (v.read n) (list_any (λ k. k == n) (v.complete (v.x.message n).stream))
    (ap (λ t. list_any (λ k. k == n) (v.complete t)) i.stream ∙ ap (list_any (λ k. k == n)) r.is ∙ any-here n r.rest)

-- other messages are complete as they were, and so is this one
pub complete-read : (v : View) (log : List LogEntry) (s n : ℕ) → Complete v log → ReadsComplete v s n ⊎ ReadsRun v s n → (k : ℕ)
    → complete_at (read_in v s n) k ≡ complete_at v k
complete-read v log s n h r k = by (v.x.message k).ordered refl
  where
    flat : (b : Bool) → ((v.x.message k).ordered ≡ b)
        → complete_at v k ≡ (if b then all_come v k else v.read k || list_any (λ j. j == k) (v.complete (v.x.message k).stream))
    flat b o = ap (λ b. if b then all_come v k else v.read k || list_any (λ j. j == k) (v.complete (v.x.message k).stream)) o

    same : (k ≡ n → ⊥) → (b : Bool) → ((v.x.message k).stream == s) ≡ b → list_any (λ j. j == k) (if b then drop 1 (v.complete (v.x.message k).stream)
        else v.complete (v.x.message k).stream) ≡ list_any (λ j. j == k) (v.complete (v.x.message k).stream)
    same h1 b h2 = grind (arith, nat_tests)

    by : (b : Bool) → (v.x.message k).ordered ≡ b → complete_at (read_in v s n) k ≡ complete_at v k
    by true o = cc (o, flat true o)
    by false o =
        ap (λ b. if b then all_come v k else (if k == n then true else v.read k) || list_any (λ j. j == k) (if (v.x.message k).stream == s
        then drop 1 (v.complete (v.x.message k).stream) else v.complete (v.x.message k).stream)) o ∙ by_same {
        P = ((if k == n then true else v.read k) || list_any (λ j. j == k) (if (v.x.message k).stream == s then drop 1 (v.complete (v.x.message k).stream)
        else v.complete (v.x.message k).stream)) ≡ complete_at v k} k n
        (λ e. let yes' : (k == n) ≡ true = ap (λ j. k == j) (sym e) ∙ same-yes k in ap (λ b. (if b then true else v.read k) || list_any (λ j. j == k)
        (if (v.x.message k).stream == s then drop 1 (v.complete (v.x.message k).stream) else v.complete (v.x.message k).stream)) yes' ∙ sym (was e r))
        (λ ne f. ap (λ b. (if b then true else v.read k)
        || list_any (λ j. j == k) (if (v.x.message k).stream == s then drop 1 (v.complete (v.x.message k).stream) else v.complete (v.x.message k).stream)) f
        ∙ ap (λ b. v.read k || b) (same ne ((v.x.message k).stream == s) refl) ∙ sym (flat false o))
      where
        was : k ≡ n → ReadsComplete v s n ⊎ ReadsRun v s n → complete_at v k ≡ true
        was e (inl a) = ap (complete_at v) e ∙ ready-complete v log s n h a
        was e (inr a) = ap (complete_at v) e ∙ (run-is v s n a).complete_now

pub complete-reading : (v : View) (log : List LogEntry) (s n : ℕ) → Complete v log → ReadsComplete v s n ⊎ ReadsRun v s n → Complete (read_in v s n) log
complete-reading v log s n h r = record {
  datagram_received = h.datagram_received;
  ready = λ t k i. waits t k (t == s) refl i;
  differ = λ t. apart t (t == s);
  agrees = λ k lt. complete-read v log s n h r k ∙ h.agrees k lt;
}
  where
    dropped : (t k : ℕ) (l : List ℕ) → list_any (λ j. j == k) (drop 1 l) ≡ true → list_any (λ j. j == k) l ≡ true
    dropped t k l h1 = grind (arith, nat_tests)

    kept-on : (t k : ℕ) → (k ≡ n → ⊥) → IsReady v t k → IsReady (read_in v s n) t k
    kept-on t k ne i = grind (arith, nat_tests)

    -- what is left is not the one that was read
    not-first : (k : ℕ) → list_any (λ j. j == k) (drop 1 (v.complete s)) ≡ true → k ≡ n → ReadsComplete v s n ⊎ ReadsRun v s n → ⊥
    not-first k h1 h2 h3 = grind (arith, nat_tests)

    other-stream : (t k : ℕ) → (t == s) ≡ false → IsReady v t k → k ≡ n → ReadsComplete v s n ⊎ ReadsRun v s n → ⊥
    other-stream t k f i e (inl a) = not_both (sym f
        ∙ (let z : t ≡ s = sym i.stream ∙ ap (λ j. (v.x.message j).stream) e ∙ (ready-first v log s n h a).stream in ap (λ j. j == s) z ∙ same-yes s))
    other-stream t k f i e (inr a) =
        let b = run-is v s n a in
        let o = both (v.x.message n).ordered (not (v.x.message n).expired)
        (both ((v.x.message n).stream == s) ((v.x.message n).ordered && not (v.x.message n).expired) b.on_it).1 in
        not_both (sym i.kind ∙ ap (λ j. (v.x.message j).ordered) e ∙ o.0)

    waits : (t k : ℕ) (b : Bool) → (t == s) ≡ b → list_any (λ j. j == k) (if b then drop 1 (v.complete t) else v.complete t) ≡ true
        → IsReady (read_in v s n) t k
    waits t k true f i = let z = same-is t s f in
        kept-on t k (λ e. not-first k (ap (λ u. list_any (λ j. j == k) (drop 1 (v.complete u))) (sym z) ∙ i) e r) (h.ready t k (dropped t k (v.complete t) i))
    waits t k false f i = kept-on t k (λ e. other-stream t k f (h.ready t k i) e r) (h.ready t k i)

    apart : (t : ℕ) (b : Bool) → AllDifferent (if b then drop 1 (v.complete t) else v.complete t)
    apart t b = grind (arith, nat_tests)
