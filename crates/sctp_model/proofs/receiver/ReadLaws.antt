-- The reads of a stream: ordered messages in order, unordered ones as they became complete, Nothing where all is read.
use Rattle.sctp_model.proofs.Names.{◌≡◌, ℕ, zero, suc, ◌+◌, ◌-◌, ◌<◌, ◌≤◌, Bool, true, false, List, [], ◌∷◌, ◌++◌, length, take, drop, Option, Some, None, refl}
use Rattle.sctp_model.proofs.Names.{ap, sym, ◌∙◌, inl, inr, arith, append-nil, length-append, ◌⊎◌, if◌then◌else◌, ◌==◌, ◌&&◌, ◌||◌, not, nat_lt, slice_get}
use Rattle.sctp_model.proofs.Names.{option_to_list, list_all, filter, subst, nat_tests, numbers_where, leading, first_of, or_else, kept-same, kept-none, both}
use Rattle.sctp_model.proofs.Names.{and, same-is, StreamUnknown, Setup, LinkRecord, LogEntry, number_read, numbers_read, History, record_of, IsRun, read_reply}
use Rattle.sctp_model.proofs.Names.{IsSetup, OnEveryRun, ordered_reads, unordered_reads, ReadsBeginRun, ReadsBeginCompleteRun, ReadsBeginComplete}
use Rattle.sctp_model.proofs.Names.{UnorderedFirst, NothingWhereRead}
use Rattle.sctp_util.proofs.Alls
use Rattle.sctp_model.specs.declared.event.Event.TheVariants as E
use Rattle.sctp_model.specs.Messages
use Rattle.sctp_model.specs.Receiver
use Rattle.sctp_model.specs.Changes
use Rattle.sctp_model.specs.Log
use Rattle.sctp_model.proofs.sender.Shape.{shape, on, index}
use Rattle.sctp_model.proofs.sender.SenderRun.{Consistent, consistent-run, unless-holds}
use Rattle.sctp_model.proofs.receiver.Events.{step-moves}
use Rattle.sctp_model.proofs.receiver.View
use Rattle.sctp_model.proofs.receiver.View.{View, view, complete_at, read_in, line, run, next_read}
use Rattle.sctp_model.proofs.receiver.Indexes.{on-stream, on-ordered, index_on}
use Rattle.sctp_model.proofs.receiver.Names.{named_is_named}
use Rattle.sctp_model.proofs.receiver.KnownRun.{completeness_agrees}
use Rattle.sctp_model.proofs.receiver.Known
use Rattle.sctp_model.proofs.receiver.Known.{ReadsComplete, ReadsRun, reads}
use Rattle.sctp_model.proofs.receiver.Ordered
use Rattle.sctp_model.proofs.receiver.Ordered.{Ordered, ordered-at}
use Rattle.sctp_model.proofs.receiver.Due.{take-kept, take-none}
use Rattle.sctp_model.proofs.Lossless.{no-skips, none-named}
use Rattle.sctp_model.proofs.receiver.Received.{received-run}
use Rattle.sctp_model.proofs.receiver.SoFar
use Rattle.sctp_model.proofs.receiver.SoFar.{SoFar, so_far-as, read_on, complete_list-is}
use Rattle.sctp_model.proofs.receiver.SoFarSteps.{Answered, answered-moving, so_far-elsewhere, so_far-unordered, so_far-ordered}

-- ## What was read, in every history

answered-read : (setup : Setup) (older : History) (t s : ℕ) (o : Option ℕ) → Consistent setup (record_of setup older)
    → Messages.is_open (record_of setup older) t ≡ true → Receiver.next_read (record_of setup older) t ≡ o
    → Answered s (numbers_read setup older s) (record_of setup older) (Log.log_of setup older)
    → SoFar s (numbers_read setup older s ++ (if t == s then number_read (record_of setup older) s (read_reply (record_of setup older) o) else []))
    (view (Changes.read_of (record_of setup older) t o)) (Log.log_of setup older)
answered-read setup older t s None g a e b = grind (arith, nat_tests, append-nil)
answered-read setup older t s (Some n) g a e b =
    so_far-as s list' (read_in (view w) t n) (view (Changes.read_of w t (Some n))) log (View.view-read w t n a) (by (t == s) refl)
  where
    w : LinkRecord
    w = record_of setup older

    log : List LogEntry
    log = Log.log_of setup older

    list' : List ℕ
    list' = numbers_read setup older s ++ (if t == s then number_read (record_of setup older) s (read_reply (record_of setup older) (Some n)) else [])

    r : ReadsComplete (view w) t n ⊎ ReadsRun (view w) t n
    r = reads (view w) t n e

    stream-of : ReadsComplete (view w) t n ⊎ ReadsRun (view w) t n → (Messages.message_at w n).stream ≡ t
    stream-of (inl q) = (Known.ready-first (view w) log t n b.received.known.complete q).stream
    stream-of (inr q) = on-stream (shape w) t n (Known.run-is (view w) t n q).on_it

    here : (u : ℕ) → t ≡ u → ReadsComplete (view w) t n ⊎ ReadsRun (view w) t n → SoFar u (numbers_read setup older u) (view w) log
        → SoFar u (numbers_read setup older u ++ n ∷ []) (read_in (view w) t n) log
    here u z (inl q) f = subst (λ y. SoFar u (numbers_read setup older u ++ n ∷ []) (read_in (view w) y n) log) (sym z)
        (so_far-unordered (view w) log u n (numbers_read setup older u) b.received.known.complete (subst (λ y. ReadsComplete (view w) y n) z q) f)
    here u z (inr q) f =
        let q' = subst (λ y. ReadsRun (view w) y n) z q in
        subst (λ y. SoFar u (numbers_read setup older u ++ n ∷ []) (read_in (view w) y n) log) (sym z)
        (so_far-ordered (view w) log u n (numbers_read setup older u) b.received.ordered q' (Ordered.due-of (view w) u n b.received.ordered q') f)

    by : (c : Bool) → (t == s) ≡ c
        → SoFar s (numbers_read setup older s ++ (if c then number_read w s (read_reply w (Some n)) else [])) (read_in (view w) t n) log
    by true z =
        let y = same-is t s z in
        subst (λ l. SoFar s (numbers_read setup older s ++ l) (read_in (view w) t n) log)
        (sym (ap (λ u. option_to_list (Receiver.next_read w u)) (sym y) ∙ ap option_to_list e)) (here s y r b.so_far)
    by false z = subst (λ l. SoFar s l (read_in (view w) t n) log) (sym (append-nil (numbers_read setup older s)))
        (so_far-elsewhere (view w) log s t n (numbers_read setup older s) (stream-of r) z b.so_far)

pub so_far-run : (setup : Setup) (h : History) → IsSetup setup → IsRun setup h → (s : ℕ)
    → SoFar s (numbers_read setup h s) (view (record_of setup h)) (Log.log_of setup h)
so_far-run setup [] is run s = record { all = refl; ordered = refl; unordered = refl }
so_far-run setup ((E.Read t, r) ∷ older) is run s =
    let b : Answered s (numbers_read setup older s) (record_of setup older)
    (Log.log_of setup older) = record { received = received-run setup older is run.1.1; so_far = so_far-run setup older is run.1.1 s } in
    subst (λ y. SoFar s (numbers_read setup older s ++ (if t == s then number_read (record_of setup older) s y else []))
    (view (Changes.after_reading (record_of setup older) t)) (Log.log_of setup older)) (sym run.1.0)
    (answered-read setup older t s (Receiver.next_read (record_of setup older) t) (consistent-run setup older run.1.1)
    (unless-holds (Messages.is_open (record_of setup older) t) StreamUnknown None run.0).0 refl b)
so_far-run setup ((event, r) ∷ older) is run s =
    (step-moves setup (Answered s (numbers_read setup older s)) (answered-moving setup s (numbers_read setup older s))
    older is run.1.1 event r refl run.0 (record { received = received-run setup older is run.1.1; so_far = so_far-run setup older is run.1.1 s })).so_far

-- ## The run: what was read, then what was not

kept-halves : (t r : ℕ → Bool) (from count : ℕ) → ((j k : ℕ) → j < k → t j ≡ true → t k ≡ true → r k ≡ true → r j ≡ true)
    → numbers_where t from count ≡ numbers_where (λ k. t k && r k) from count ++ numbers_where (λ k. t k && not (r k)) from count
kept-halves t r from zero down = refl
kept-halves t r from (suc count) down = step (t from) (r from) refl refl (kept-halves t r (from + 1) count down)
  where
    reads' : List ℕ
    reads' = numbers_where (λ k. t k && r k) (from + 1) count

    others : List ℕ
    others = numbers_where (λ k. t k && not (r k)) (from + 1) count

    step : (a b : Bool) → t from ≡ a → r from ≡ b → numbers_where t (from + 1) count ≡ reads' ++ others → (if a then from ∷ numbers_where t (from + 1) count
        else numbers_where t (from + 1) count) ≡ (if a && b then from ∷ reads' else reads') ++ (if a && not b then from ∷ others else others)
    step false b e f ih = ih
    step true true e f ih = ap (λ l. from ∷ l) ih
    step true false e f ih =
        let none : reads' ≡ [] = grind (arith, nat_tests, kept-none) in
        ap (λ l. from ∷ l) (ih ∙ ap (λ l. l ++ others) none) ∙ sym (ap (λ l. l ++ from ∷ others) none)

pub passing-kept : (q p : ℕ → Bool) (from count : ℕ) → filter q (numbers_where p from count) ≡ numbers_where (λ k. p k && q k) from count
passing-kept q p from zero = refl
passing-kept q p from (suc count) = grind (arith, nat_tests, (passing-kept q p (from + 1) count))

-- the first so many, and the leading of the others, are those that pass among more of the first
passing-leading : (q : ℕ → Bool) (i : ℕ) (xs : List ℕ) → filter q (take i xs) ++ leading q (drop i xs) ≡ filter q (take (i + length (leading q (drop i xs))) xs)
passing-leading q zero [] = refl
passing-leading q zero (x ∷ xs) = front (x ∷ xs)
    ∙ ap (λ k. filter q (take k (x ∷ xs))) (let z : length (leading q (x ∷ xs)) ≡ 0 + length (leading q (x ∷ xs)) = omega arith in z)
  where
    front : (xs : List ℕ) → leading q xs ≡ filter q (take (length (leading q xs)) xs)
    front [] = refl
    front (y ∷ ys) = step (q y) refl (front ys)
      where
        step : (b : Bool) → q y ≡ b → leading q ys ≡ filter q (take (length (leading q ys)) ys)
            → (if b then y ∷ leading q ys else []) ≡ filter q (take (length (if b then y ∷ leading q ys else [])) (y ∷ ys))
        step b h1 h2 = grind (arith, nat_tests)
passing-leading q (suc i) [] = sym (take-none (suc i + 0) q)
passing-leading q (suc i) (x ∷ xs) =
    let z : suc (i + length (leading q (drop i xs))) ≡ suc i + length (leading q (drop i xs)) = omega arith in
    step (q x) (passing-leading q i xs) ∙ ap (λ k. filter q (take k (x ∷ xs))) z
  where
    step : (b : Bool) → filter q (take i xs) ++ leading q (drop i xs) ≡ filter q (take (i + length (leading q (drop i xs))) xs)
        → (if b then x ∷ filter q (take i xs) else filter q (take i xs)) ++ leading q (drop i xs)
        ≡ (if b then x ∷ filter q (take (i + length (leading q (drop i xs))) xs) else filter q (take (i + length (leading q (drop i xs))) xs))
    step b h1 = grind (arith, nat_tests)

leading-more : (q r : ℕ → Bool) (xs : List ℕ) → list_all (λ k. not (q k) || r k) xs ≡ true → length (leading q xs) ≤ length (leading r xs)
leading-more q r [] e = omega arith
leading-more q r (x ∷ xs) e = let c = both (not (q x) || r x) (list_all (λ k. not (q k) || r k) xs) e in step (q x) (r x) c.0 (leading-more q r xs c.1)
  where
    step : (a b : Bool) → (not a || b) ≡ true → length (leading q xs) ≤ length (leading r xs)
        → length (if a then x ∷ leading q xs else []) ≤ length (if b then x ∷ leading r xs else [])
    step a b h1 h2 = grind (arith, nat_tests)

-- where the run ends
abbrev edge : View → ℕ → ℕ
edge v s = v.named s + length (leading (complete_at v) (drop (v.named s) (line v s)))

abbrev in_run : View → ℕ → ℕ → Bool
in_run v s k = on v.x s k && (complete_at v k && nat_lt (index v.x k) (edge v s))

run-kept : (v : View) (s : ℕ) → run v s ≡ numbers_where (in_run v s) 0 v.x.count
run-kept v s =
    passing-leading (complete_at v) (v.named s) (line v s)
    ∙ take-kept (on v.x s) (complete_at v) (index v.x) 0 v.x.count (edge v s) 0 (edge v s) (omega arith) (λ k a b e. index_on v.x s k e ∙ place k)
  where
    place : (k : ℕ) → length (numbers_where (on v.x s) 0 k) ≡ 0 + length (numbers_where (on v.x s) 0 (k - 0))
    place k = let e : k - 0 ≡ k = omega arith in rw e (omega arith)

-- what was read is in the run
read-in_run : (v : View) (s k : ℕ) → Ordered v → k < v.x.count → read_on v s k ≡ true → in_run v s k ≡ true
read-in_run v s k o lt e =
    let a = both (on v.x s k) (v.read k) e in
    let wh : complete_at v k ≡ true = ordered-at v k (on-ordered v.x s k a.0) ∙ o.read_complete k lt (on-ordered v.x s k a.0) a.1 in
    let all = Alls.all-kept (λ k. not (v.read k) || complete_at v k) (on v.x s) 0 v.x.count (λ j x y h. implied j (omega arith) h (v.read j) refl) in
    let more = leading-more v.read (complete_at v) (drop (v.named s) (line v s))
    (Alls.all-drop (λ k. not (v.read k) || complete_at v k) (v.named s) (line v s) all) in
    let low : index v.x k < edge v s = omega (arith, o.read_past s k lt a.0 a.1, more) in
    and (on v.x s k)
    (complete_at v k && nat_lt (index v.x k) (edge v s)) a.0 (and (complete_at v k) (nat_lt (index v.x k) (edge v s)) wh (grind (arith, nat_tests)))
  where
    implied : (j : ℕ) → j < v.x.count → on v.x s j ≡ true → (b : Bool) → v.read j ≡ b → (not b || complete_at v j) ≡ true
    implied j l h true r = ordered-at v j (on-ordered v.x s j h) ∙ o.read_complete j l (on-ordered v.x s j h) r
    implied j l h false r = refl

pub run-halves : (v : View) (s : ℕ) → Ordered v → run v s ≡ numbers_where (read_on v s) 0 v.x.count ++ filter (λ n. not (v.read n)) (run v s)
run-halves v s o =
    run-kept v s
    ∙ short (in_run v s) v.read
    ∙ ap (λ l. l ++ numbers_where (λ k. in_run v s k && not (v.read k)) 0 v.x.count)
    (kept-same (λ k. in_run v s k && v.read k) (read_on v s) 0 v.x.count (λ k a b. same k (omega arith) (v.read k) refl (on v.x s k) refl))
    ∙ ap (λ l. numbers_where (read_on v s) 0 v.x.count ++ l)
    (sym (ap (filter (λ n. not (v.read n))) (run-kept v s) ∙ passing-kept (λ n. not (v.read n)) (in_run v s) 0 v.x.count))
  where
    same : (k : ℕ) → k < v.x.count → (r : Bool) → v.read k ≡ r → (c : Bool) → on v.x s k ≡ c → (in_run v s k && r) ≡ (on v.x s k && r)
    same k h1 r h2 c h3 = search (arith, nat_tests, read-in_run, and)

    -- only the numbers of messages matter
    short : (t r : ℕ → Bool) → numbers_where (in_run v s) 0 v.x.count
        ≡ numbers_where (λ k. in_run v s k && v.read k) 0 v.x.count ++ numbers_where (λ k. in_run v s k && not (v.read k)) 0 v.x.count
    short t r =
        kept-same (in_run v s) made 0 v.x.count (λ k a b. sym (at k (omega arith)))
        ∙ kept-halves made v.read 0 v.x.count (λ j k l a b e. down j k l (both (nat_lt j v.x.count) (in_run v s j) a)
        (both (nat_lt k v.x.count) (in_run v s k) b) e) ∙ ap (λ l. l ++ numbers_where (λ k. made k && not (v.read k)) 0 v.x.count)
        (kept-same (λ k. made k && v.read k) (λ k. in_run v s k && v.read k) 0 v.x.count (λ k a b. ap (λ c. c && v.read k) (at k (omega arith))))
        ∙ ap (λ l. numbers_where (λ k. in_run v s k && v.read k) 0 v.x.count ++ l) (kept-same (λ k. made k && not (v.read k))
        (λ k. in_run v s k && not (v.read k)) 0 v.x.count (λ k a b. ap (λ c. c && not (v.read k)) (at k (omega arith))))
      where
        made : ℕ → Bool
        made k = nat_lt k v.x.count && in_run v s k

        at : (k : ℕ) → k < v.x.count → (nat_lt k v.x.count && in_run v s k) ≡ in_run v s k
        at k lt = let e : nat_lt k v.x.count ≡ true = grind (arith, nat_tests) in ap (λ b. b && in_run v s k) e

        down : (j k : ℕ) → j < k → (nat_lt j v.x.count ≡ true) × (in_run v s j ≡ true) → (nat_lt k v.x.count ≡ true) × (in_run v s k ≡ true) → v.read k ≡ true
            → v.read j ≡ true
        down j k l a b e =
            let x = both (on v.x s j) (complete_at v j && nat_lt (index v.x j) (edge v s)) a.1 in
            let y = both (on v.x s k) (complete_at v k && nat_lt (index v.x k) (edge v s)) b.1 in
            let wh = (both (complete_at v j) (nat_lt (index v.x j) (edge v s)) x.1).0 in
            let lt = b.0 in
            o.downward s j k l (grind (arith, nat_tests)) x.0 y.0 e (sym (ordered-at v j (on-ordered v.x s j x.0)) ∙ wh)

-- ## The laws

-- the run of the record is the one that the order of arrivals gives
pub run-is : (setup : Setup) (h : History) → IsSetup setup → IsRun setup h → (s : ℕ)
    → Log.run_by (record_of setup h) (Log.log_of setup h) s ≡ run (view (record_of setup h)) s
run-is setup h is go s =
    ap (λ k. filter (Log.is_complete_by w log) (take k line') ++ leading (Log.is_complete_by w log) (drop k line')) (sym (named_is_named setup h is go s))
    ∙ ap (λ l. l ++ leading (Log.is_complete_by w log) (drop (v.named s) line'))
    (passing-all (Log.is_complete_by w log) (complete_at v) (take (v.named s) line') (Alls.all-take agree (v.named s) line' all))
    ∙ ap (λ l. filter (complete_at v) (take (v.named s) line') ++ l)
    (leading-all (Log.is_complete_by w log) (complete_at v) (drop (v.named s) line') (Alls.all-drop agree (v.named s) line' all))
  where
    w : LinkRecord
    w = record_of setup h

    log : List LogEntry
    log = Log.log_of setup h

    v : View
    v = view (record_of setup h)

    line' : List ℕ
    line' = line (view (record_of setup h)) s

    agree : ℕ → Bool
    agree n = nat_lt n (length (record_of setup h).messages)

    all : list_all agree line' ≡ true
    all = Alls.all-kept agree (on (shape w) s) 0 (length w.messages) (λ k a b e. let l : k < length w.messages = omega (arith, b) in grind (arith, nat_tests))

    equal : (n : ℕ) → agree n ≡ true → Log.is_complete_by (record_of setup h) (Log.log_of setup h) n ≡ complete_at (view (record_of setup h)) n
    equal n e = sym (completeness_agrees setup h is go n (let z : nat_lt n (length (record_of setup h).messages) ≡ true = e in grind (arith, nat_tests)))

    passing-all : (q r : ℕ → Bool) (xs : List ℕ) → list_all agree xs ≡ true → filter (Log.is_complete_by w log) xs ≡ filter (complete_at v) xs
    passing-all q r xs a = SoFar.passing-same agree (Log.is_complete_by w log) (complete_at v) xs equal a

    leading-all : (q r : ℕ → Bool) (xs : List ℕ) → list_all agree xs ≡ true → leading (Log.is_complete_by w log) xs ≡ leading (complete_at v) xs
    leading-all q r [] a = refl
    leading-all q r (x ∷ xs) a = let c = both (agree x) (list_all agree xs) a in ap (λ b. if b then x ∷ leading (Log.is_complete_by w log) xs else [])
        (equal x c.0) ∙ ap (λ l. if complete_at v x then x ∷ l else []) (leading-all q r xs c.1)

-- the ordered reads, then what of the run was not read
pub reads-then : (setup : Setup) (h : History) → IsSetup setup → IsRun setup h → (s : ℕ) → Log.run_by (record_of setup h)
    (Log.log_of setup h) s ≡ ordered_reads setup h s ++ filter (λ n. not ((view (record_of setup h)).read n)) (run (view (record_of setup h)) s)
reads-then setup h is go s =
    run-is setup h is go s ∙ run-halves (view (record_of setup h)) s (received-run setup h is go).ordered
    ∙ ap (λ l. l ++ filter (λ n. not ((view (record_of setup h)).read n)) (run (view (record_of setup h)) s)) (sym (so_far-run setup h is go s).ordered)

pub reads_begin_run : OnEveryRun ReadsBeginRun
reads_begin_run setup h is go s = (filter (λ n. not ((view (record_of setup h)).read n)) (run (view (record_of setup h)) s), sym (reads-then setup h is go s))

pub reads_begin_complete_run : OnEveryRun ReadsBeginCompleteRun
reads_begin_complete_run setup h is go s lossless =
    let w = record_of setup h in
    let log = Log.log_of setup h in
    let p = reads_begin_run setup h is go s in
    let z : Log.named_by w s log ≡ 0 = none-named w s log (no-skips setup h lossless) in (
      p.0,
      p.1 ∙ ap (λ k. filter (Log.is_complete_by w log) (take k (Messages.ordered_on w s))
          ++ leading (Log.is_complete_by w log) (drop k (Messages.ordered_on w s))) z ∙ complete-line (Log.is_complete_by w log) (Messages.ordered_on w s),
    )
  where
    complete-line : (q : ℕ → Bool) (xs : List ℕ) → filter q (take 0 xs) ++ leading q (drop 0 xs) ≡ leading q xs
    complete-line q xs = grind (arith, nat_tests)

-- the unordered reads, then those that wait
pub unordered-then : (setup : Setup) (h : History) → IsSetup setup → IsRun setup h → (s : ℕ)
    → Log.complete_by (record_of setup h) (Log.log_of setup h) s ≡ unordered_reads setup h s ++ (view (record_of setup h)).complete s
unordered-then setup h is go s = complete_list-is (record_of setup h) (Log.log_of setup h) s ∙ (so_far-run setup h is go s).unordered

pub reads_begin_complete : OnEveryRun ReadsBeginComplete
reads_begin_complete setup h is go s = ((view (record_of setup h)).complete s, sym (unordered-then setup h is go s))

pub unordered_first : OnEveryRun UnorderedFirst
unordered_first setup h is go s n e =
    first ((view (record_of setup h)).complete s) (sym (at (unordered_reads setup h s) ((view (record_of setup h)).complete s))
    ∙ ap (λ l. slice_get l (length (unordered_reads setup h s))) (sym (unordered-then setup h is go s)) ∙ e)
  where
    at : (xs ys : List ℕ) → slice_get (xs ++ ys) (length xs) ≡ first_of ys
    at [] [] = refl
    at [] (y ∷ ys) = refl
    at (x ∷ xs) ys = at xs ys

    first : (l : List ℕ) → first_of l ≡ Some n
        → or_else (first_of l) (first_of (filter (λ n. not ((view (record_of setup h)).read n)) (run (view (record_of setup h)) s))) ≡ Some n
    first l h1 = grind (arith, nat_tests)

nothing-left : (xs ys : List ℕ) → xs ≡ xs ++ ys → ys ≡ []
nothing-left xs [] e = refl
nothing-left xs (y ∷ ys) e = absurd (omega (arith, ap length e, length-append xs (y ∷ ys)))

pub nothing_where_read : OnEveryRun NothingWhereRead
nothing_where_read setup h is go s = grind (arith, nat_tests, reads-then, append-nil, unordered-then, nothing-left)
