-- In every state the indexes that 16-bit numbers must tell apart lie within half a circle.
use Rattle.sctp_model.proofs.Names.{◌≡◌, ℕ, zero, suc, ◌+◌, ◌<◌, ◌≤◌, ◌^◌, Bool, true, false, List, [], ◌∷◌, ◌++◌, length, map, Option, Some, None, refl, ap}
use Rattle.sctp_model.proofs.Names.{sym, ◌∙◌, inl, inr, arith, append-nil, ◌⊎◌, if◌then◌else◌, ◌==◌, ◌||◌, min, max, nat_lt, nat_le, find, is_some, unwrap_or}
use Rattle.sctp_model.proofs.Names.{slice_get, list_any, list_all, filter, subst, eq-or-lt_of_le, cases_lt, nat_tests, numbers_where, kept-none, fails}
use Rattle.sctp_model.proofs.Names.{not_both, both, and, leading-le, length-dropped, Event, StreamUnknown, NoSuchDatagram, SpanTooWide, Setup, StreamRecord}
use Rattle.sctp_model.proofs.Names.{Datagram, LinkRecord, least, greatest, fits, spans_fit, History, record_of, IsRun, refusal_of, after, unless}
use Rattle.sctp_model.proofs.Names.{is_for_receiver, arrival_fits, adds_to_span, LogEntry, IsSetup, OnEveryRun, SpansFit, by_same}
use Rattle.sctp_model.specs.declared.event.Event.TheVariants as E
use Rattle.sctp_model.specs.Messages
use Rattle.sctp_model.specs.Receiver
use Rattle.sctp_model.specs.Changes
use Rattle.sctp_model.specs.Log
use Rattle.sctp_model.proofs.sender.Shape.{shape, on, index, sent}
use Rattle.sctp_model.proofs.sender.Sender.{Sender}
use Rattle.sctp_model.proofs.sender.SenderRun.{Consistent, consistent-run, consistent-after, unless-holds, found}
use Rattle.sctp_model.proofs.sender.Moves.{Quiet, quiet-after}
use Rattle.sctp_model.proofs.receiver.View
use Rattle.sctp_model.proofs.receiver.View.{View, view, come_count, complete_at, held, line, next, read_in}
use Rattle.sctp_model.proofs.receiver.Indexes.{on-stream, on-ordered, index-lt, next_reads}
use Rattle.sctp_model.proofs.receiver.Known
use Rattle.sctp_model.proofs.receiver.Known.{Still, Complete, ReadsComplete, ReadsRun, reads, still-of, come-still, come-sent, complete-still, complete-read}
use Rattle.sctp_model.proofs.receiver.Ordered
use Rattle.sctp_model.proofs.receiver.Ordered.{Ordered, next-still, read-other}
use Rattle.sctp_model.proofs.receiver.Due.{IsDue}
use Rattle.sctp_model.proofs.receiver.Received.{Received, received-run}

pub greatest-append : (x : ℕ) (xs ys : List ℕ) → greatest x (xs ++ ys) ≡ greatest (greatest x xs) ys
greatest-append x [] ys = refl
greatest-append x (y ∷ xs) ys = greatest-append (max x y) xs ys

pub least-append : (x : ℕ) (xs ys : List ℕ) → least x (xs ++ ys) ≡ least (least x xs) ys
least-append x [] ys = refl
least-append x (y ∷ xs) ys = least-append (min x y) xs ys

greatest-ge : (x : ℕ) (xs : List ℕ) → x ≤ greatest x xs
greatest-ge x [] = omega arith
greatest-ge x (y ∷ xs) = omega (arith, greatest-ge (max x y) xs)

least-le : (x : ℕ) (xs : List ℕ) → least x xs ≤ x
least-le x [] = omega arith
least-le x (y ∷ xs) = omega (arith, least-le (min x y) xs)

greatest-in : (x y : ℕ) (xs : List ℕ) → list_any (λ z. z == y) xs ≡ true → y ≤ greatest x xs
greatest-in x y [] e = cc
greatest-in x y (z ∷ xs) e = step (z == y) refl e (λ h. greatest-in (max x z) y xs h)
  where
    step : (b : Bool) → (z == y) ≡ b → (b || list_any (λ z. z == y) xs) ≡ true → (list_any (λ z. z == y) xs ≡ true → y ≤ greatest (max x z) xs)
        → y ≤ greatest (max x z) xs
    step b h1 h2 h3 = grind (arith, nat_tests, greatest-ge)

least-in : (x y : ℕ) (xs : List ℕ) → list_any (λ z. z == y) xs ≡ true → least x xs ≤ y
least-in x y [] e = cc
least-in x y (z ∷ xs) e = step (z == y) refl e (λ h. least-in (min x z) y xs h)
  where
    step : (b : Bool) → (z == y) ≡ b → (b || list_any (λ z. z == y) xs) ≡ true → (list_any (λ z. z == y) xs ≡ true → least (min x z) xs ≤ y)
        → least (min x z) xs ≤ y
    step b h1 h2 h3 = grind (arith, nat_tests, least-le)

in-kept : (f : ℕ → ℕ) (p : ℕ → Bool) (k from count : ℕ) → from ≤ k → k < from + count → p k ≡ true
    → list_any (λ z. z == f k) (map f (numbers_where p from count)) ≡ true
in-kept f p k from zero low high e = absurd (omega arith)
in-kept f p k from (suc count) low high e = step (p from) refl (eq-or-lt_of_le low) (λ l. in-kept f p k (from + 1) count l (omega arith) e)
  where
    step : (b : Bool) → p from ≡ b → (from ≡ k) ⊎ (from < k) → (from + 1 ≤ k → list_any (λ z. z == f k) (map f (numbers_where p (from + 1) count)) ≡ true)
        → list_any (λ z. z == f k) (map f (if b then from ∷ numbers_where p (from + 1) count else numbers_where p (from + 1) count)) ≡ true
    step b h1 h2 h3 = grind (arith, nat_tests)

all-below : (x y : ℕ) (f : ℕ → ℕ) (p : ℕ → Bool) (from count : ℕ) → x ≤ y → ((k : ℕ) → from ≤ k → k < from + count → p k ≡ true → f k ≤ y)
    → greatest x (map f (numbers_where p from count)) ≤ y
all-below x y f p from zero le h = le
all-below x y f p from (suc count) le h = step (p from) refl (λ z g. all-below z y f p (from + 1) count g (λ k a b e. h k (omega arith) (omega arith) e))
  where
    step : (b : Bool) → p from ≡ b → ((z : ℕ) → z ≤ y → greatest z (map f (numbers_where p (from + 1) count)) ≤ y)
        → greatest x (map f (if b then from ∷ numbers_where p (from + 1) count else numbers_where p (from + 1) count)) ≤ y
    step b h1 h2 = grind (arith, nat_tests)

all-above : (x y : ℕ) (f : ℕ → ℕ) (p : ℕ → Bool) (from count : ℕ) → y ≤ x → ((k : ℕ) → from ≤ k → k < from + count → p k ≡ true → y ≤ f k)
    → y ≤ least x (map f (numbers_where p from count))
all-above x y f p from zero le h = le
all-above x y f p from (suc count) le h = step (p from) refl (λ z g. all-above z y f p (from + 1) count g (λ k a b e. h k (omega arith) (omega arith) e))
  where
    step : (b : Bool) → p from ≡ b → ((z : ℕ) → y ≤ z → y ≤ least z (map f (numbers_where p (from + 1) count)))
        → y ≤ least x (map f (if b then from ∷ numbers_where p (from + 1) count else numbers_where p (from + 1) count))
    step b h1 h2 = grind (arith, nat_tests)

-- the index expected next and those of the messages held lie between two numbers less than 2^15 apart
pub record IsNear (v : View) (s : ℕ) : Type 0 where
  pub low : ℕ
  pub high : ℕ
  pub short : high < low + 2 ^ 15
  pub above : low ≤ next v s
  pub below : next v s ≤ high
  pub held_above : (k : ℕ) → k < v.x.count → held v s k ≡ true → low ≤ index v.x k
  pub held_below : (k : ℕ) → k < v.x.count → held v s k ≡ true → index v.x k ≤ high

abbrev pub AllNear : View → Type 0
AllNear v = (s : ℕ) → IsNear v s

pub near-fits : (w : LinkRecord) (s : ℕ) (more : List ℕ) → fits w more s ≡ true → IsNear (view w) s
near-fits w s more e =
    let n = Receiver.next_of w s in
    let held' = map (Messages.index_of w) (Receiver.held_on w s) in
    let g : greatest n (held' ++ more) ≡ greatest (greatest n held') more = greatest-append n held' more in
    let l : least n (held' ++ more) ≡ least (least n held') more = least-append n held' more in
    record {
      low = least n (held' ++ more);
      high = greatest n (held' ++ more);
      short = grind (arith, nat_tests);
      above = least-le n (held' ++ more);
      below = greatest-ge n (held' ++ more);
      held_above = λ k lt h. let i = in-kept (Messages.index_of w) (Receiver.is_held w s) k 0 (length w.messages) (omega arith) (omega arith) h in
          omega (arith, l, least-le (least n held') more, least-in n (Messages.index_of w k) held' i);
      held_below = λ k lt h. let i = in-kept (Messages.index_of w) (Receiver.is_held w s) k 0 (length w.messages) (omega arith) (omega arith) h in
          omega (arith, g, greatest-ge (greatest n held') more, greatest-in n (Messages.index_of w k) held' i);
    }

-- so do the indexes of these messages
pub near-others : (w : LinkRecord) (s : ℕ) (more : List ℕ) (e : fits w more s ≡ true) (y : ℕ) → list_any (λ z. z == y) more ≡ true
    → ((near-fits w s more e).low ≤ y) × (y ≤ (near-fits w s more e).high)
unfolding near-fits
near-others w s more e y i = grind (arith, nat_tests, greatest-append, least-append, least-in, greatest-in)

fits-near : (w : LinkRecord) (s : ℕ) → IsNear (view w) s → fits w [] s ≡ true
fits-near w s near =
    let n = Receiver.next_of w s in
    let xs = map (Messages.index_of w) (Receiver.held_on w s) in
    let a = all-below n near.high (Messages.index_of w)
    (Receiver.is_held w s) 0 (length w.messages) near.below (λ k a b e. near.held_below k (omega arith) e) in
    let b = all-above n near.low (Messages.index_of w) (Receiver.is_held w s) 0 (length w.messages) near.above (λ k a b e. near.held_above k (omega arith) e) in
    let lt : greatest n xs < least n xs + 2 ^ 15 = omega (arith, a, b, near.short) in
    ap (λ l. nat_lt (greatest n l) (least n l + 2 ^ 15)) (append-nil xs) ∙ grind (arith, nat_tests)

-- ## Held messages

pub record IsHeld (v : View) (s n : ℕ) : Type 0 where
  pub on_it : on v.x s n ≡ true
  pub unread : v.read n ≡ false
  pub some : 0 < come_count v n
  pub kept_for : (complete_at v n || nat_le (v.named s) (index v.x n)) ≡ true

pub held-of : (v : View) (s n : ℕ) → held v s n ≡ true → IsHeld v s n
held-of v s n e = grind (arith, nat_tests, both)

pub is-held : (v : View) (s n : ℕ) → IsHeld v s n → held v s n ≡ true
is-held v s n h = grind (arith, nat_tests)

-- ## The sender's changes

record WasHeld (u v : View) (s n : ℕ) : Type 0 where
  made : n < u.x.count
  was : held u s n ≡ true
  same : index v.x n ≡ index u.x n

held-still : (u v : View) → Still u v → Ordered u → (s n : ℕ) → held v s n ≡ true → WasHeld u v s n
held-still u v t o s n e =
    let h = held-of v s n e in
    let come : 0 < come_count u n = omega (arith, h.some, come-still u v t n) in
    let pos : 0 < sent u.x n = omega (arith, come, come-sent u n) in
    let old = Ordered.sent-old u v t o s n pos h.on_it in
    record {
      made = old.made;
      was = is-held u s n (record {
        on_it = old.on_it;
        unread = sym (t.read n old.made) ∙ h.unread;
        some = come;
        kept_for = cc (complete-still u v t n old.made, t.named s, old.same, h.kept_for);
      });
      same = old.same;
    }

near-still : (u v : View) → Still u v → Ordered u → AllNear u → AllNear v
near-still u v t o near s =
    let n = near s in
    record {
      low = n.low;
      high = n.high;
      short = n.short;
      above = omega (arith, n.above, next-still u v t o s);
      below = omega (arith, n.below, next-still u v t o s);
      held_above = λ k lt h. let w = held-still u v t o s k h in omega (arith, w.same, n.held_above k w.made w.was);
      held_below = λ k lt h. let w = held-still u v t o s k h in omega (arith, w.same, n.held_below k w.made w.was);
    }

-- ## A read

held-read : (v : View) (log : List LogEntry) (s n t k : ℕ) → Complete v log → ReadsComplete v s n ⊎ ReadsRun v s n → held (read_in v s n) t k ≡ true
    → (k ≡ n → ⊥) × (held v t k ≡ true)
held-read v log s n t k h r e = search (arith, nat_tests, held-of, not_both, Ordered.read-here, is-held, read-other, complete-read)

near-read_other : (v : View) (log : List LogEntry) (s n t : ℕ) → Complete v log → ReadsComplete v s n ⊎ ReadsRun v s n → next (read_in v s n) t ≡ next v t
    → IsNear v t → IsNear (read_in v s n) t
near-read_other v log s n t h r e near = search (arith, nat_tests, held-read)

-- the first one due is the first one held
first-held : (v : View) (s n k : ℕ) → IsDue v s n → k < v.x.count → held v s k ≡ true → n ≤ k
first-held v s n k d lt e = by (cases_lt k n)
  where
    by : (k < n) ⊎ (n ≤ k) → n ≤ k
    by (inr g) = g
    by (inl l) =
        let h = held-of v s k e in
        let less = index-lt v.x s k n h.on_it d.on_it l in
        kind h less l (complete_at v k) refl
      where
        kind : IsHeld v s k → index v.x k < index v.x n → k < n → (b : Bool) → complete_at v k ≡ b → n ≤ k
        kind h1 h2 h3 b h4 = grind (arith, nat_tests, next_reads)

near-due : (v : View) (log : List LogEntry) (s n : ℕ) → Sender v.x → Complete v log → Ordered v → ReadsRun v s n → IsDue v s n → IsNear v s
    → IsNear (read_in v s n) s
near-due v log s n a h o r d near = by (eq-or-lt_of_le d.near)
  where
    past : (k : ℕ) → k < v.x.count → held (read_in v s n) s k ≡ true → index v.x n < index v.x k
    past k lt e = let x = held-read v log s n s k h (inr r) e in index-lt v.x s n k d.on_it (held-of v s k x.1).on_it (strict (first-held v s n k d lt x.1) x.0)
      where
        strict : n ≤ k → (k ≡ n → ⊥) → n < k
        strict le ne = elim (eq-or-lt_of_le le) [ inl z ↦ absurd (ne (sym z)) | inr l ↦ l ]

    by : (index v.x n ≡ next v s) ⊎ (index v.x n < next v s) → IsNear (read_in v s n) s
    by (inr l) = near-read_other v log s n s h (inr r) (Ordered.next-stays v s n a o d l) near
    by (inl e) =
        let m = Ordered.next-moves v s n a o d e in
        record {
          low = next v s + 1;
          high = max near.high (next v s + 1);
          short = omega (arith, near.short, near.above);
          above = omega (arith, m);
          below = omega (arith, m);
          held_above = λ k lt i. omega (arith, past k lt i, e);
          held_below = λ k lt i. omega (arith, near.held_below k lt (held-read v log s n s k h (inr r) i).1);
        }

near-reading : (v : View) (log : List LogEntry) (s n : ℕ) → Sender v.x → Complete v log → Ordered v → ReadsComplete v s n ⊎ ReadsRun v s n → AllNear v
    → AllNear (read_in v s n)
near-reading v log s n a h o (inl r) near t =
    let kind = (Known.ready-first v log s n h r).kind in
    near-read_other v log s n t h (inl r)
    (Ordered.next-read_other v s n t a o (λ k i e. not_both (sym kind ∙ ap (λ j. (v.x.message j).ordered) (sym e) ∙ on-ordered v.x t k i))) (near t)
near-reading v log s n a h o (inr r) near t =
    let d = Ordered.due-of v s n o r in
    by_same {P = IsNear (read_in v s n) t} t s
    (λ e. subst (λ y. IsNear (read_in v s n) y) (sym e) (near-due v log s n a h o r d (near s)))
    (λ ne f. near-read_other v log s n t h (inr r) (Ordered.next-elsewhere v s n a o d t ne) (near t))

-- ## An arrival

-- on a stream that is not open nothing is
near-closed : (setup : Setup) (w : LinkRecord) (s : ℕ) → Consistent setup w → Messages.is_open w s ≡ false → IsNear (view w) s
near-closed setup w s g e = record {
  low = 0;
  high = 0;
  short = omega arith;
  above = omega arith;
  below = omega (arith, zero');
  held_above = λ k lt h. omega arith;
  held_below = λ k lt h. absurd (none k lt (held-of (view w) s k h).on_it);
}
  where
    none : (k : ℕ) → k < length w.messages → on (shape w) s k ≡ true → ⊥
    none k lt h = not_both (sym e ∙ ap (Messages.is_open w) (sym (on-stream (shape w) s k h)) ∙ g.known k lt)

    empty : line (view w) s ≡ []
    empty = kept-none (on (shape w) s) 0 (length w.messages) (λ k a b. fails (on (shape w) s k) (λ h. none k (omega arith) h))

    at : (o : Option StreamRecord) → is_some o ≡ false → unwrap_or o (Messages.no_stream s) ≡ Messages.no_stream s
    at o h1 = grind (arith, nat_tests)

    zero' : next (view w) s ≡ 0
    zero' =
        let n : (view w).named s ≡ 0 = ap (λ r. r.named) (at (Messages.stream_at w s) e) in
        let l = next-none (view w) s empty in
        omega (arith, n, l)
      where
        next-none : (v : View) (s : ℕ) → line v s ≡ [] → next v s ≤ v.named s
        next-none v s e = grind (arith, nat_tests, leading-le, length-dropped)

pub all-streams : (t : ℕ → Bool) (rs : List StreamRecord) (s : ℕ) (r : StreamRecord) → list_all (λ r. t r.stream) rs ≡ true
    → find (λ r. r.stream == s) rs ≡ Some r → t r.stream ≡ true
all-streams t [] s r a e = cc
all-streams t (q ∷ rs) s r a e = let c = both (t q.stream) (list_all (λ r. t r.stream) rs) a in step (q.stream == s) e c.0 (λ h. all-streams t rs s r c.1 h)
  where
    step : (b : Bool) → (if b then Some q else find (λ r. r.stream == s) rs) ≡ Some r → t q.stream ≡ true
        → (find (λ r. r.stream == s) rs ≡ Some r → t r.stream ≡ true) → t r.stream ≡ true
    step b h1 h2 h3 = grind (arith, nat_tests)

pub near-spans : (setup : Setup) (w : LinkRecord) (messages : List ℕ) → Consistent setup w → spans_fit w messages ≡ true → AllNear (view w)
near-spans setup w messages g e s = by (Messages.stream_at w s) refl
  where
    by : (o : Option StreamRecord) → Messages.stream_at w s ≡ o → IsNear (view w) s
    by None f = near-closed setup w s g (ap is_some f)
    by (Some r) f =
        let x = all-streams (λ t. fits w (map (Messages.index_of w) (filter (Messages.is_ordered_on w t) messages)) t) w.streams s r e f in
        subst (IsNear (view w)) (found s w.streams r f)
        (near-fits w r.stream (map (Messages.index_of w) (filter (Messages.is_ordered_on w r.stream) messages)) x)

pub near-as : (u v : View) → v ≡ u → AllNear u → AllNear v
near-as u v e n = subst AllNear (sym e) n

near-quiet : (setup : Setup) (w v : LinkRecord) (log : List LogEntry) → Consistent setup w → Consistent setup v → Quiet w v → Received w log → AllNear (view w)
    → AllNear (view v)
near-quiet setup w v log g a q r n = near-still (view w) (view v) (still-of setup w v g a q) r.ordered n

near-taken : (w : LinkRecord) (o : Option Datagram) → AllNear (view w) → AllNear (view (Changes.after_acked w o))
near-taken w o h1 = search (arith, nat_tests, near-as, View.view-taken)

near-reads : (setup : Setup) (w : LinkRecord) (log : List LogEntry) (s : ℕ) (o : Option ℕ) → Consistent setup w → Messages.is_open w s ≡ true
    → Receiver.next_read w s ≡ o → Received w log → AllNear (view w) → AllNear (view (Changes.read_of w s o))
near-reads setup w log s None g a e r n = n
near-reads setup w log s (Some k) g a e r n = near-as (read_in (view w) s k) (view (Changes.read_of w s (Some k))) (View.view-read w s k a)
    (near-reading (view w) log s k g.sender r.known.complete r.ordered (reads (view w) s k e) n)

near-after : (setup : Setup) (w : LinkRecord) (log : List LogEntry) (e : Event) → Consistent setup w → refusal_of w e ≡ None → Consistent setup (after w e)
    → Received w log → AllNear (view w) → AllNear (view (after w e))
near-after setup w log (E.Open s) g ok a r n = grind (arith, nat_tests, View.view-opened)
near-after setup w log (E.Mode s u y v) g ok a r n = near-as (view w) (view (Changes.after_mode w s u y v)) (View.view-moded w s u y v) n
near-after setup w log (E.Arrive k) g ok a r n =
    let d = slice_get w.network k in
    let first = unless-holds (is_for_receiver d) NoSuchDatagram (unless (arrival_fits w d) SpanTooWide None) ok in
    let second = unless-holds (arrival_fits w d) SpanTooWide None first.1 in
    near-spans setup (Changes.after_arrive w d)
    (adds_to_span w d) a (both (spans_fit w (adds_to_span w d)) (spans_fit (Changes.after_arrive w d) (adds_to_span w d)) second.0).1
near-after setup w log (E.Acked k) g ok a r n = near-taken w (slice_get w.network k) n
near-after setup w log (E.Read s) g ok a r n =
    near-reads setup w log s (Receiver.next_read w s) g (unless-holds (Messages.is_open w s) StreamUnknown None ok).0 refl r n
near-after setup w log (E.Ack credit) g ok a r n = near-as (view w) (view (after w (E.Ack credit))) refl n
near-after setup w log event g ok a r n = near-quiet setup w (after w event) log g a (quiet-after setup w event refl g) r n

pub near-run : (setup : Setup) (h : History) → IsSetup setup → IsRun setup h → AllNear (view (record_of setup h))
near-run setup [] is run = λ s. record {
  low = 0;
  high = 0;
  short = omega arith;
  above = omega arith;
  below = omega arith;
  held_above = λ k lt. absurd (omega arith);
  held_below = λ k lt. absurd (omega arith);
}
near-run setup (entry ∷ older) is run =
    let g = consistent-run setup older run.1.1 in
    near-after setup (record_of setup older) (Log.log_of setup older) entry.0 g run.0 (consistent-after setup (record_of setup older) entry.0 run.0 g)
    (received-run setup older is run.1.1) (near-run setup older is run.1.1)

pub spans_fit_always : OnEveryRun SpansFit
spans_fit_always setup h is run = all (record_of setup h).streams
  where
    all : (rs : List StreamRecord) → list_all (λ r. fits (record_of setup h)
        (map (Messages.index_of (record_of setup h)) (filter (Messages.is_ordered_on (record_of setup h) r.stream) [])) r.stream) rs ≡ true
    all [] = refl
    all (r ∷ rs) = and (fits (record_of setup h) [] r.stream) (list_all (λ r.
        fits (record_of setup h) (map (Messages.index_of (record_of setup h)) (filter (Messages.is_ordered_on (record_of setup h) r.stream) [])) r.stream) rs)
        (fits-near (record_of setup h) r.stream (near-run setup h is run r.stream)) (all rs)
