-- What was read so far on a stream.
use Rattle.sctp_model.proofs.Names.{◌≡◌, ℕ, suc, ◌+◌, ◌-◌, ◌<◌, ◌≤◌, Bool, true, false, List, [], ◌∷◌, ◌++◌, length, refl, ap, sym, ◌∙◌, arith, append-nil}
use Rattle.sctp_model.proofs.Names.{if◌then◌else◌, ◌==◌, ◌&&◌, not, nat_lt, list_all, filter, subst, nat_tests, numbers_where, kept-same, kept-none}
use Rattle.sctp_model.proofs.Names.{kept-snoc_in, fails, not_both, both, and, kept-short, same-is, LinkRecord, LogEntry, all-more}
use Rattle.sctp_util.proofs.Alls
use Rattle.sctp_model.specs.Log
use Rattle.sctp_model.proofs.sender.Shape.{Shape, shape, has, on, sent, parts}
use Rattle.sctp_model.proofs.sender.Sender.{Sender}
use Rattle.sctp_model.proofs.sender.SenderSteps.{of-has}
use Rattle.sctp_model.proofs.sender.Grows.{Grows}
use Rattle.sctp_model.proofs.receiver.View
use Rattle.sctp_model.proofs.receiver.View.{View}
use Rattle.sctp_model.proofs.receiver.Indexes.{on-ordered}
use Rattle.sctp_model.proofs.receiver.Names.{on-grown}
use Rattle.sctp_model.proofs.receiver.CompleteMessages.{SlotsReceived, complete_in, slots_in, complete-later, new-received, were-new, some-kept}
use Rattle.sctp_model.proofs.receiver.Known
use Rattle.sctp_model.proofs.receiver.Known.{Known, Complete, Still}
use Rattle.sctp_model.proofs.receiver.Ordered.{Ordered}

-- ## Lists

pub kept-one : (t : ℕ → Bool) (m from count : ℕ) → from ≤ m → m < from + count → ((k : ℕ) → from ≤ k → k < from + count → (k ≡ m → ⊥) → t k ≡ false)
    → numbers_where t from count ≡ (if t m then m ∷ [] else [])
kept-one t m from count a b none =
    let before = m - from in
    let total : count ≡ before + (1 + (from + count - (m + 1))) = omega arith in
    let at : from + before ≡ m = omega arith in
    ap (numbers_where t from) total
    ∙ Alls.kept-split t from before (1 + (from + count - (m + 1)))
    ∙ ap (λ l. l ++ numbers_where t (from + before) (1 + (from + count - (m + 1))))
    (kept-none t from before (λ k c d. none k c (omega arith) (λ e. absurd (omega arith)))) ∙ ap (λ k. numbers_where t k (1 + (from + count - (m + 1)))) at
    ∙ Alls.kept-split t m 1 (from + count - (m + 1)) ∙ ap (λ l. numbers_where t m 1 ++ l)
    (kept-none t (m + 1) (from + count - (m + 1)) (λ k c d. none k (omega arith) (omega arith) (λ e. absurd (omega arith))))
    ∙ append-nil (numbers_where t m 1)

-- the last one of them
pub kept-last : (t u : ℕ → Bool) (n count : ℕ) → n < count → t n ≡ false → u n ≡ true → ((k : ℕ) → k < count → (k ≡ n → ⊥) → u k ≡ t k)
    → ((k : ℕ) → k < count → t k ≡ true → k < n) → numbers_where u 0 count ≡ numbers_where t 0 count ++ n ∷ []
kept-last t u n count lt out in' same below =
    kept-short u 0 (suc n) (count - suc n) count (omega arith)
    (λ k a b. same k (omega arith) (λ e. absurd (omega arith)) ∙ fails (t k) (λ e. absurd (omega (arith, below k (omega arith) e))))
    ∙ kept-snoc_in u 0 n n (omega arith) in' ∙ ap (λ l. l ++ n ∷ []) (kept-same u t 0 n (λ k a b. same k (omega arith) (λ e. absurd (omega arith)))
    ∙ sym (kept-short t 0 n (count - n) count (omega arith) (λ k a b. fails (t k) (λ e. absurd (omega (arith, below k (omega arith) e))))))

pub passing-append : (q : ℕ → Bool) (xs ys : List ℕ) → filter q (xs ++ ys) ≡ filter q xs ++ filter q ys
passing-append q [] ys = refl
passing-append q (x ∷ xs) ys = grind (arith, nat_tests, (passing-append q xs ys))

-- tests that agree on each of a list
pub passing-same : (t q r : ℕ → Bool) (xs : List ℕ) → ((k : ℕ) → t k ≡ true → q k ≡ r k) → list_all t xs ≡ true → filter q xs ≡ filter r xs
passing-same t q r [] same a = refl
passing-same t q r (x ∷ xs) same a = let c = both (t x) (list_all t xs) a in
    ap (λ b. if b then x ∷ filter q xs else filter q xs) (same x c.0) ∙ ap (λ l. if r x then x ∷ l else l) (passing-same t q r xs same c.1)

-- ## The unordered messages, in the order in which they became complete

abbrev pub off : Shape → ℕ → ℕ → Bool
off x s n = ((x.message n).stream == s) && not (x.message n).ordered

abbrev pub became : Shape → LogEntry → List LogEntry → ℕ → ℕ → Bool
became x coming log s n = off x s n && (complete_in x (coming ∷ log) n && not (complete_in x log n))

abbrev pub complete_list : Shape → List LogEntry → ℕ → List ℕ
complete_list x [] s = []
complete_list x (coming ∷ log) s = complete_list x log s ++ numbers_where (became x coming log s) 0 x.count

pub complete_list-is : (w : LinkRecord) (log : List LogEntry) (s : ℕ) → Log.complete_by w log s ≡ complete_list (shape w) log s
complete_list-is w [] s = refl
complete_list-is w (coming ∷ log) s = ap (λ l. l ++ numbers_where (became (shape w) coming log s) 0 (length w.messages)) (complete_list-is w log s)

-- a new message is not complete by what came before it
complete-fresh : (x y : Shape) → Sender x → Sender y → Grows x y → (log : List LogEntry) → SlotsReceived x log → (n : ℕ) → x.count ≤ n → n < y.count
    → complete_in y log n ≡ false
complete-fresh x y a b g log f n ge lt = fails (complete_in y log n) (λ e.
    let c = both (sent y n == parts y n)
    (if (y.message n).ordered then list_all (Log.arrived_new log) (slots_in y n) else Log.were_complete (slots_in y n) log) e in
    let z = same-is (sent y n) (parts y n) c.0 in
    let q = some-kept (has y n) 0 y.slots (omega (arith, z, b.some n lt)) in
    let new = Alls.all-at (Log.arrived_new log) (has y n) q.0 0 y.slots (omega arith) (omega (arith, q.2)) q.3 (either (y.message n).ordered c.1) in
    let old = new-received x log q.0 f new in
    let m : (x.slot q.0).message ≡ n = ap (λ s. s.message) (sym (g.slot q.0 old)) ∙ (of-has y n q.0 q.3).0 in
    absurd (omega (arith, a.made q.0 old, m, ge)))
  where
    either : (o : Bool) → (if o then list_all (Log.arrived_new log) (slots_in y n) else Log.were_complete (slots_in y n) log) ≡ true
        → list_all (Log.arrived_new log) (slots_in y n) ≡ true
    either o h1 = grind (arith, nat_tests, were-new)

received-tail : (x : Shape) (coming : LogEntry) (log : List LogEntry) → SlotsReceived x (coming ∷ log) → SlotsReceived x log
received-tail x coming log h1 = grind (arith, nat_tests)

pub complete_list-later : (x y : Shape) → Sender x → Sender y → Grows x y → (log : List LogEntry) → SlotsReceived x log → (s : ℕ)
    → complete_list y log s ≡ complete_list x log s
complete_list-later x y a b g [] f s = refl
complete_list-later x y a b g (coming ∷ log) f s =
    ap (λ l. l ++ numbers_where (became y coming log s) 0 y.count) (complete_list-later x y a b g log (received-tail x coming log f) s)
    ∙ ap (λ l. complete_list x log s ++ l)
    (kept-short (became y coming log s) 0 x.count (y.count - x.count) y.count (omega (arith, g.count)) (λ k c d.
    ap (λ e. off y s k && (e && not (complete_in y log k))) (complete-fresh x y a b g (coming ∷ log) f k (omega arith) (omega arith)) ∙ none (off y s k))
    ∙ kept-same (became y coming log s) (became x coming log s) 0 x.count (λ k c d.
    ap (λ e. off y s k && (e && not (complete_in y log k))) (complete-later x y a b g (coming ∷ log) f k (omega arith))
    ∙ ap (λ e. off y s k && (complete_in x (coming ∷ log) k && not e)) (complete-later x y a b g log (received-tail x coming log f) k (omega arith))
    ∙ ap (λ m. ((m.stream == s) && not m.ordered) && (complete_in x (coming ∷ log) k && not (complete_in x log k))) (g.message k (omega arith))))
  where
    none : (b : Bool) → (b && false) ≡ false
    none b = grind (arith, nat_tests)

-- nothing becomes complete
pub complete_list-same : (x : Shape) (coming : LogEntry) (log : List LogEntry) (s : ℕ)
    → ((n : ℕ) → n < x.count → complete_in x (coming ∷ log) n ≡ complete_in x log n) → complete_list x (coming ∷ log) s ≡ complete_list x log s
complete_list-same x coming log s same = grind (arith, nat_tests, kept-none, append-nil)

-- ## What was read so far

abbrev pub was_read : View → ℕ → ℕ → Bool
was_read v s n = (nat_lt n v.x.count && ((v.x.message n).stream == s)) && v.read n

abbrev pub read_on : View → ℕ → ℕ → Bool
read_on v s n = on v.x s n && v.read n

pub record SoFar (s : ℕ) (list : List ℕ) (v : View) (log : List LogEntry) : Type 0 where
  pub all : list_all (was_read v s) list ≡ true
  pub ordered : filter (λ n. (v.x.message n).ordered) list ≡ numbers_where (read_on v s) 0 v.x.count
  pub unordered : complete_list v.x log s ≡ filter (λ n. not (v.x.message n).ordered) list ++ v.complete s

pub was-made : (v : View) (s n : ℕ) → was_read v s n ≡ true → n < v.x.count
was-made v s n e = grind (arith, nat_tests)

pub so_far-as : (s : ℕ) (list : List ℕ) (u v : View) (log : List LogEntry) → v ≡ u → SoFar s list u log → SoFar s list v log
so_far-as s list u v log e f = subst (λ y. SoFar s list y log) (sym e) f

pub so_far-still : (s : ℕ) (list : List ℕ) (u v : View) (log : List LogEntry) → Still u v → Complete u log → Ordered u → SoFar s list u log → SoFar s list v log
so_far-still s list u v log t h o f = record {
  all = all-more (was_read u s) (was_read v s) list (λ n e. stays n e) f.all;
  ordered = passing-same (was_read u s) (λ n. (v.x.message n).ordered)
      (λ n. (u.x.message n).ordered) list (λ n e. ap (λ m. m.ordered) (t.grows.message n (was-made u s n e))) f.all ∙ f.ordered ∙ sym lines;
  unordered = complete_list-later u.x v.x t.sender t.sender' t.grows log h.datagram_received s ∙ f.unordered
      ∙ ap (λ l. l ++ u.complete s) (sym (passing-same (was_read u s) (λ n. not (v.x.message n).ordered) (λ n. not (u.x.message n).ordered) list
      (λ n e. ap (λ m. not m.ordered) (t.grows.message n (was-made u s n e))) f.all))
      ∙ ap (λ l. filter (λ n. not (v.x.message n).ordered) list ++ l) (sym (t.complete s));
}
  where
    stays : (n : ℕ) → was_read u s n ≡ true → was_read v s n ≡ true
    stays n e = search (arith, nat_tests, was-made, both, and)

    none : (b : Bool) → (b && false) ≡ false
    none b = grind (arith, nat_tests)

    lines : numbers_where (read_on v s) 0 v.x.count ≡ numbers_where (read_on u s) 0 u.x.count
    lines =
        kept-short (read_on v s) 0 u.x.count (v.x.count - u.x.count) v.x.count (omega (arith, t.grows.count))
        (λ k a b. ap (λ c. on v.x s k && c) (t.unread k (omega arith) (omega arith)) ∙ none (on v.x s k))
        ∙ kept-same (read_on v s) (read_on u s) 0 u.x.count (λ k a b. ap (λ c. on v.x s k && c) (t.read k (omega arith))
        ∙ same k (omega arith) (u.read k) refl (u.x.message k).ordered refl)
      where
        plain : (k : ℕ) → k < u.x.count → (u.x.message k).ordered ≡ false → on v.x s k ≡ on u.x s k
        plain k lt e = fails (on v.x s k) (λ h. not_both (sym e ∙ sym (ap (λ m. m.ordered) (t.grows.message k lt)) ∙ on-ordered v.x s k h))
            ∙ sym (fails (on u.x s k) (λ h. not_both (sym e ∙ on-ordered u.x s k h)))

        same : (k : ℕ) → k < u.x.count → (r : Bool) → u.read k ≡ r → (b : Bool) → (u.x.message k).ordered ≡ b → (on v.x s k && r) ≡ (on u.x s k && r)
        same k lt false r b e = none (on v.x s k) ∙ sym (none (on u.x s k))
        same k lt true r false e = ap (λ c. c && true) (plain k lt e)
        same k lt true r true e =
            let z = same-is (View.come_count u k) (parts u.x k) (o.read_complete k lt e r) in
            ap (λ c. c && true) (on-grown u.x v.x t.sender t.sender' t.grows s k (omega (arith, z, Known.come-sent u k, t.sender.some k lt)))
