-- What the receiver keeps of ordered messages.
use Rattle.sctp_model.proofs.Names.{◌≡◌, ℕ, ◌+◌, ◌-◌, ◌<◌, ◌≤◌, Bool, true, false, List, [], ◌∷◌, length, map, get_or, refl, ap, sym, ◌∙◌, inl, inr, arith, ◌⊎◌}
use Rattle.sctp_model.proofs.Names.{if◌then◌else◌, ◌==◌, ◌&&◌, ◌||◌, not, nat_le, max, list_any, filter, subst, eq-or-lt_of_le, cases_lt, nat_tests, fails}
use Rattle.sctp_model.proofs.Names.{not_both, and, greatest, by_same, same-yes, same-is}
use Rattle.sctp_model.proofs.sender.Shape.{has, on, index, sent, parts}
use Rattle.sctp_model.proofs.sender.Sender.{Sender}
use Rattle.sctp_model.proofs.sender.Network.{IsNamable, NamesFit, namable-grown}
use Rattle.sctp_model.proofs.sender.Slots.{sent-made}
use Rattle.sctp_model.proofs.receiver.View.{View, come_count, all_come, complete_at, arrived_in, noted_in, skipped_in, read_in, line, next, named_more}
use Rattle.sctp_model.proofs.receiver.Indexes.{on-stream, on-ordered, index-lt, index-same, index-short, index-at, next_reads, next_unread, next_passes}
use Rattle.sctp_model.proofs.receiver.Indexes.{next_le, next_by}
use Rattle.sctp_model.proofs.receiver.Names.{on-grown}
use Rattle.sctp_model.proofs.receiver.CompleteMessages.{some-kept}
use Rattle.sctp_model.proofs.receiver.Known.{Still, ReadsRun, all-still, come-sent, come-other, not-all, noting}
use Rattle.sctp_model.proofs.receiver.Due.{run-due, IsDue, due-first}

-- an ordered message is complete where it has arrived
pub ordered-at : (v : View) (n : ℕ) → (v.x.message n).ordered ≡ true → complete_at v n ≡ all_come v n
ordered-at v n e = ap (λ b. if b then all_come v n else v.read n || list_any (λ k. k == n) (v.complete (v.x.message n).stream)) e

-- the message that was named last
pub record NamedAt (v : View) (s k : ℕ) : Type 0 where
  pub n : ℕ
  pub on_it : on v.x s n ≡ true
  pub upto : ℕ
  pub namable : IsNamable v.x upto n
  pub covered : upto < v.skipped
  pub is : k ≡ index v.x n + 1

abbrev pub NamedIs : View → ℕ → ℕ → Type 0
NamedIs v s k = (k ≡ 0) ⊎ NamedAt v s k

pub record Ordered (v : View) : Type 0 where
  -- what arrived is no terminal chunk
  pub terminals : (p : ℕ) → v.arrived p ≡ true → (v.x.slot p).is_terminal_chunk ≡ false
  -- an ordered message that was read had arrived, and comes before the next expected one
  pub read_complete : (n : ℕ) → n < v.x.count → (v.x.message n).ordered ≡ true → v.read n ≡ true → all_come v n ≡ true
  pub read_past : (s n : ℕ) → n < v.x.count → on v.x s n ≡ true → v.read n ≡ true → index v.x n < next v s
  -- what was complete before a message that was read, was read
  pub downward : (s m n : ℕ) → m < n → n < v.x.count → on v.x s m ≡ true → on v.x s n ≡ true → v.read n ≡ true → all_come v m ≡ true → v.read m ≡ true
  pub named_is : (s : ℕ) → NamedIs v s (v.named s)

-- ## The slots of what comes before the named ones are skipped

pub named-skipped : (v : View) → Sender v.x → Ordered v → (s n p : ℕ) → on v.x s n ≡ true → index v.x n < v.named s → p < v.x.slots → has v.x n p ≡ true
    → p < v.skipped
named-skipped v a o s n p h lt l f = by (o.named_is s)
  where
    by : NamedIs v s (v.named s) → p < v.skipped
    by (inl z) = absurd (omega arith)
    by (inr d) = at (cases_lt n d.n) (cases_lt d.n n)
      where
        at : (n < d.n) ⊎ (d.n ≤ n) → (d.n < n) ⊎ (n ≤ d.n) → p < v.skipped
        at (inl lo) t = grind (arith, nat_tests, some-kept)
        at (inr g) (inl hi) = absurd (omega (arith, index-lt v.x s d.n n d.on_it h hi, d.is))
        at (inr g) (inr e) = let z : n ≡ d.n = omega arith in omega (arith, d.namable.within p l (ap (λ k. has v.x k p) (sym z) ∙ f), d.covered)

pub named-made : (v : View) → Sender v.x → Ordered v → (s : ℕ) → v.named s ≤ length (line v s)
named-made v a o s = grind (arith, nat_tests, index-short, sent-made)

-- ## The sender's changes

module _ (u v : View) (t : Still u v) (o : Ordered u) where
  pub record Old (s n : ℕ) : Type 0 where
    pub made : n < u.x.count
    pub some : 0 < sent u.x n
    pub on_it : on u.x s n ≡ true
    pub same : index v.x n ≡ index u.x n

  -- what was sent
  pub sent-old : (s n : ℕ) → 0 < sent u.x n → on v.x s n ≡ true → Old s n
  sent-old s n pos h =
      let lt = sent-made u.x n t.sender pos in
      let e : on u.x s n ≡ true = sym (on-grown u.x v.x t.sender t.sender' t.grows s n pos) ∙ h in
      record { made = lt; some = pos; on_it = e; same = t.grows.same_index n pos (on-ordered u.x s n e) }

  pub sent-on : (s n : ℕ) → 0 < sent u.x n → on u.x s n ≡ true → on v.x s n ≡ true
  sent-on s n pos h = on-grown u.x v.x t.sender t.sender' t.grows s n pos ∙ h

  come-pos : (n : ℕ) → n < u.x.count → all_come u n ≡ true → 0 < sent u.x n
  come-pos n lt e = let z = same-is (come_count u n) (parts u.x n) e in omega (arith, z, come-sent u n, t.sender.some n lt)

  read-sent : (s n : ℕ) → n < u.x.count → on u.x s n ≡ true → u.read n ≡ true → 0 < sent u.x n
  read-sent s n lt h r = come-pos n lt (o.read_complete n lt (on-ordered u.x s n h) r)

  was-made : (n : ℕ) → n < v.x.count → v.read n ≡ true → n < u.x.count
  was-made n lt r = elim (cases_lt n u.x.count) [ inl l ↦ l | inr g ↦ absurd (not_both (sym (t.unread n g lt) ∙ r)) ]

  was-read : (n : ℕ) → n < v.x.count → v.read n ≡ true → u.read n ≡ true
  was-read n lt r = sym (t.read n (was-made n lt r)) ∙ r

  -- what was read in the new record
  read-old : (s n : ℕ) → n < v.x.count → on v.x s n ≡ true → v.read n ≡ true → Old s n
  read-old s n lt h r =
      let l = was-made n lt r in
      let ord : (u.x.message n).ordered ≡ true = sym (ap (λ m. m.ordered) (t.grows.message n l)) ∙ on-ordered v.x s n h in
      sent-old s n (come-pos n l (o.read_complete n l ord (was-read n lt r))) h

  -- a message of the line that was sent is on the new one at its place
  at-place : (s j : ℕ) (k : ℕ) → k < u.x.count → on u.x s k ≡ true → 0 < sent u.x k → index u.x k ≡ j → j < length (line v s)
  at-place s j k lt h pos e =
      let m = t.grows.same_index k pos (on-ordered u.x s k h) in
      omega (arith, e, m, index-short v s k (omega (arith, lt, t.grows.count)) (sent-on s k pos h))

  next-high : (s : ℕ) → next u s ≤ length (line v s)
  next-high s = by (cases_lt (u.named s) (next u s))
    where
      named : NamedIs u s (u.named s) → next u s ≤ u.named s → next u s ≤ length (line v s)
      named (inl z) le = omega (arith, z)
      named (inr d) le = let l = at-place s (index u.x d.n) d.n (sent-made u.x d.n t.sender d.namable.some) d.on_it d.namable.some refl in
          omega (arith, d.is, l)

      by : (u.named s < next u s) ⊎ (next u s ≤ u.named s) → next u s ≤ length (line v s)
      by (inr le) = named (o.named_is s) le
      by (inl l) =
          let made = next_le u s (named-made u t.sender o s) in
          let r = index-at u s (next u s - 1) (omega (arith, made, l)) in
          let k = get_or (line u s) (next u s - 1) 0 in
          let red : u.read k ≡ true = next_passes u s (next u s - 1) (omega arith) (omega arith) in
          let z = at-place s (next u s - 1) k r.made r.on_it (read-sent s k r.made r.on_it red) r.at in
          omega (arith, z, l)

  pub next-still : (s : ℕ) → next v s ≡ next u s
  next-still s = next_by v s (next u s) (let n = t.named s in omega (arith, n)) (next-high s)
      (λ k lt h low high. pass k lt h (let n = t.named s in omega (arith, n, low)) high)
      (λ k lt h e. fails (v.read k) (λ r. let d = read-old s k lt h r in not_both (sym (next_unread u s k d.made d.on_it (sym d.same ∙ e)) ∙ was-read k lt r)))
    where
      pass : (k : ℕ) → k < v.x.count → on v.x s k ≡ true → u.named s ≤ index v.x k → index v.x k < next u s → v.read k ≡ true
      pass k lt h low high =
          let j = index v.x k in
          let r = index-at u s j (omega (arith, high, next_le u s (named-made u t.sender o s))) in
          let m = get_or (line u s) j 0 in
          let red : u.read m ≡ true = next_passes u s j low high in
          let pos = read-sent s m r.made r.on_it red in
          let same : index v.x m ≡ index v.x k = t.grows.same_index m pos (on-ordered u.x s m r.on_it) ∙ r.at in
          let z : m ≡ k = index-same v.x s m k (sent-on s m pos r.on_it) h same in
          ap v.read (sym z) ∙ t.read m r.made ∙ red

  pub ordered-still : ((p : ℕ) → u.arrived p ≡ true → p < u.x.slots) → Ordered v
  ordered-still inside = record {
    terminals = λ p e. let f : u.arrived p ≡ true = sym (t.arrived p) ∙ e in ap (λ y. y.is_terminal_chunk) (t.grows.slot p (inside p f)) ∙ o.terminals p f;
    read_complete = grind (arith, nat_tests, all-still);
    read_past = λ s n lt h r. let d = read-old s n lt h r in omega (arith, d.same, next-still s, o.read_past s n d.made d.on_it (was-read n lt r));
    downward = λ s m n mn lt hm hn r c.
        let d = read-old s n lt hn r in
        let ml : m < u.x.count = omega (arith, mn, d.made) in
        let c' : all_come u m ≡ true = sym (all-still u v t m ml) ∙ c in
        let e = sent-old s m (come-pos m ml c') hm in
        t.read m ml ∙ o.downward s m n mn d.made e.on_it d.on_it (was-read n lt r) c';
    named_is = λ s. by s (o.named_is s);
  }
    where
      by : (s : ℕ) → NamedIs u s (u.named s) → NamedIs v s (v.named s)
      by s (inl z) = inl (t.named s ∙ z)
      by s (inr d) = inr (record {
        n = d.n;
        on_it = sent-on s d.n d.namable.some d.on_it;
        upto = d.upto;
        namable = namable-grown u.x v.x t.sender t.grows d.upto d.n d.namable;
        covered = omega (arith, d.covered, t.skipped);
        is = t.named s ∙ d.is ∙ ap (λ i. i + 1) (sym (t.grows.same_index d.n d.namable.some (on-ordered u.x s d.n d.on_it)));
      })

-- ## A slot comes

pub ordered-arrived : (v : View) (p : ℕ) → Sender v.x → p < v.x.slots → (v.x.slot p).is_terminal_chunk ≡ false → v.arrived p ≡ false → v.skipped ≤ p → Ordered v
    → Ordered (arrived_in v p)
ordered-arrived v p a lt terminal new past o = record {
  terminals = grind (arith, nat_tests);
  read_complete = λ n l h r.
      let all = o.read_complete n l h r in
      ap (λ c. c == parts v.x n) (come-other v p n (λ e. not_both (sym (not-all v n p (a.within n l) lt (slot-of n e) new) ∙ all))) ∙ all;
  read_past = o.read_past;
  downward = λ s m n mn l hm hn r c. by_same {P = v.read m ≡ true} (v.x.slot p).message m
      (λ e. next_reads v s m (omega (arith, mn, l)) hm (above s m hm e (cases_lt (index v.x m) (v.named s)))
      (omega (arith, index-lt v.x s m n hm hn mn, o.read_past s n l hn r)))
      (λ ne f. o.downward s m n mn l hm hn r (sym (ap (λ k. k == parts v.x m) (come-other v p m ne)) ∙ c));
  named_is = λ s. by s (o.named_is s);
}
  where
    slot-of : (n : ℕ) → (v.x.slot p).message ≡ n → has v.x n p ≡ true
    slot-of n e = and ((v.x.slot p).message == n) (not (v.x.slot p).is_terminal_chunk) (ap (λ k. k == n) e ∙ same-yes n) (ap not terminal)

    above : (s m : ℕ) → on v.x s m ≡ true → (v.x.slot p).message ≡ m → (index v.x m < v.named s) ⊎ (v.named s ≤ index v.x m) → v.named s ≤ index v.x m
    above s m h e (inr g) = g
    above s m h e (inl l) = absurd (omega (arith, past, named-skipped v a o s m p h l lt (slot-of m e)))

    by : (s : ℕ) → NamedIs v s (v.named s) → NamedIs (arrived_in v p) s (v.named s)
    by s h1 = grind (arith, nat_tests)

pub ordered-noting : (v : View) (n : ℕ) → Ordered v → Ordered (noting v n)
ordered-noting v n o = step (not (v.x.message n).ordered && _)
  where
    step : (b : Bool) → Ordered (if b then noted_in v (v.x.message n).stream n else v)
    step true = grind (arith, nat_tests)
    step false = o

-- ## A skip

pub ordered-skipped : (v : View) (upto : ℕ) (names : List ℕ) → Sender v.x → NamesFit v.x upto names → v.skipped ≤ upto → Ordered v
    → Ordered (skipped_in v upto names)
ordered-skipped v upto names a f le o = record {
  terminals = o.terminals;
  read_complete = o.read_complete;
  read_past = λ s n lt h r. past s n lt h r (cases_lt (index v.x n) (named_more v names s));
  downward = o.downward;
  named_is = λ s. all s names f (v.named s) (old s (o.named_is s));
}
  where
    grown : (s x : ℕ) (ns : List ℕ) → x ≤ greatest x (map (λ n. index v.x n + 1) ns)
    grown s x [] = omega arith
    grown s x (n ∷ ns) = let g = grown s (max x (index v.x n + 1)) ns in omega (arith, g)

    past : (s n : ℕ) → n < v.x.count → on v.x s n ≡ true → v.read n ≡ true → (index v.x n < named_more v names s) ⊎ (named_more v names s ≤ index v.x n)
        → index v.x n < next (skipped_in v upto names) s
    past s n lt h r (inl l) = omega arith
    past s n lt h r (inr g) = elim (cases_lt (index v.x n) (next (skipped_in v upto names) s)) [
      | inl l ↦ l
      | inr e ↦
          let j = next (skipped_in v upto names) s in
          let k = get_or (line v s) j 0 in
          let q = index-at v s j (omega (arith, e, index-short v s n lt h)) in
          let un : v.read k ≡ false = next_unread (skipped_in v upto names) s k q.made q.on_it q.at in
          let red : v.read k ≡ true = next_reads v s k q.made q.on_it (let m = grown s (v.named s) (filter (on v.x s) names) in omega (arith, q.at, m))
          (omega (arith, q.at, e, o.read_past s n lt h r)) in
          absurd (not_both (sym un ∙ red))
    ]

    old : (s : ℕ) → NamedIs v s (v.named s) → NamedIs (skipped_in v upto names) s (v.named s)
    old s h1 = grind (arith, nat_tests)

    all : (s : ℕ) (ns : List ℕ) → NamesFit v.x upto ns → (x : ℕ) → NamedIs (skipped_in v upto names) s x
        → NamedIs (skipped_in v upto names) s (greatest x (map (λ n. index v.x n + 1) (filter (on v.x s) ns)))
    all s [] f x h = h
    all s (n ∷ ns) f x h = step (on v.x s n) refl (λ y g. all s ns f.1 y g)
      where
        larger : on v.x s n ≡ true → (x < index v.x n + 1) ⊎ (index v.x n + 1 ≤ x) → NamedIs (skipped_in v upto names) s (max x (index v.x n + 1))
        larger h1 h2 = grind (arith, nat_tests)

        step : (b : Bool) → on v.x s n ≡ b → ((y : ℕ) → NamedIs (skipped_in v upto names) s y
            → NamedIs (skipped_in v upto names) s (greatest y (map (λ n. index v.x n + 1) (filter (on v.x s) ns))))
            → NamedIs (skipped_in v upto names) s (greatest x (map (λ n. index v.x n + 1) (if b then n ∷ filter (on v.x s) ns else filter (on v.x s) ns)))
        step true e ih = ih (max x (index v.x n + 1)) (larger e (cases_lt x (index v.x n + 1)))
        step false e ih = ih x h

-- ## A read

named-read : (v : View) (s n t : ℕ) → NamedIs v t (v.named t) → NamedIs (read_in v s n) t (v.named t)
named-read v s n t h1 = grind (arith, nat_tests)

pub read-other : (v : View) (s n k : ℕ) → (k ≡ n → ⊥) → (read_in v s n).read k ≡ v.read k
read-other v s n k ne = ap (λ b. if b then true else v.read k) (fails (k == n) (λ z. ne (same-is k n z)))

pub read-here : (v : View) (s n : ℕ) → (read_in v s n).read n ≡ true
read-here v s n = ap (λ b. if b then true else v.read n) (same-yes n)

pub stays-read : (v : View) (s n k : ℕ) → v.read k ≡ true → (read_in v s n).read k ≡ true
stays-read v s n k e = elim (k == n) as (λ b. (if b then true else v.read k) ≡ true) [ true ↦ refl | false ↦ e ]

-- the next one of a stream on which no ordered message is read
pub next-read_other : (v : View) (s n t : ℕ) → Sender v.x → Ordered v → ((k : ℕ) → on v.x t k ≡ true → k ≡ n → ⊥) → next (read_in v s n) t ≡ next v t
next-read_other v s n t a o off = next_by (read_in v s n) t (next v t) (omega arith) (next_le v t (named-made v a o t))
    (λ k lt h low high. stays-read v s n k (next_reads v t k lt h low high))
    (λ k lt h e. read-other v s n k (off k h) ∙ next_unread v t k lt h e)

pub ordered-read_unordered : (v : View) (s n : ℕ) → Sender v.x → (v.x.message n).ordered ≡ false → Ordered v → Ordered (read_in v s n)
ordered-read_unordered v s n a kind o = record {
  terminals = o.terminals;
  read_complete = λ k lt h r. o.read_complete k lt h (sym (read-other v s n k (λ e. not_both (sym kind ∙ ap (λ j. (v.x.message j).ordered) (sym e) ∙ h))) ∙ r);
  read_past = λ t k lt h r. omega (arith, next-read_other v s n t a o (off t), o.read_past t k lt h (sym (read-other v s n k (off t k h)) ∙ r));
  downward = λ t j k jk lt hj hk r c. stays-read v s n j (o.downward t j k jk lt hj hk (sym (read-other v s n k (off t k hk)) ∙ r) c);
  named_is = λ t. named-read v s n t (o.named_is t);
}
  where
    off : (t k : ℕ) → on v.x t k ≡ true → k ≡ n → ⊥
    off t k h e = not_both (sym kind ∙ ap (λ j. (v.x.message j).ordered) (sym e) ∙ on-ordered v.x t k h)

-- the first one due
pub due-of : (v : View) (s n : ℕ) → Ordered v → ReadsRun v s n → IsDue v s n
due-of v s n o r =
    due-first v s n (sym (run-due v s (λ k lt h e. ordered-at v k (on-ordered v.x s k h) ∙ o.read_complete k lt (on-ordered v.x s k h) e)) ∙ r.first)

module _ (v : View) (s n : ℕ) (a : Sender v.x) (o : Ordered v) (d : IsDue v s n) where
  all-of : all_come v n ≡ true
  all-of = sym (ordered-at v n (on-ordered v.x s n d.on_it)) ∙ d.complete_now

  pub next-moves : index v.x n ≡ next v s → next (read_in v s n) s ≡ next v s + 1
  next-moves e = next_by (read_in v s n) s (next v s + 1) (omega arith) (omega (arith, e, index-short v s n d.made d.on_it))
      (λ k lt h low high. pass k lt h low (eq-or-lt_of_le (upto (index v.x k) high)))
      (λ k lt h z. read-other v s n k (λ y. absurd (omega (arith, ap (index v.x) y, z, e)))
      ∙ fails (v.read k) (λ r. absurd (omega (arith, z, o.read_past s k lt h r))))
    where
      upto : (j : ℕ) → j < next v s + 1 → j ≤ next v s
      upto j lt = omega arith

      pass : (k : ℕ) → k < v.x.count → on v.x s k ≡ true → v.named s ≤ index v.x k → (index v.x k ≡ next v s) ⊎ (index v.x k < next v s)
          → (read_in v s n).read k ≡ true
      pass k h1 h2 h3 h4 = grind (arith, nat_tests, index-same, next_reads)

  pub next-stays : index v.x n < next v s → next (read_in v s n) s ≡ next v s
  next-stays l = next_by (read_in v s n) s (next v s) (omega arith) (next_le v s (named-made v a o s))
      (λ k lt h low high. stays-read v s n k (next_reads v s k lt h low high))
      (λ k lt h e. read-other v s n k (λ y. absurd (omega (arith, ap (index v.x) y, e, l))) ∙ next_unread v s k lt h e)

  -- the next one is past it, and not before where it was
  pub next-grows : (next v s ≤ next (read_in v s n) s) × (index v.x n < next (read_in v s n) s)
  next-grows = by (eq-or-lt_of_le d.near)
    where
      by : (index v.x n ≡ next v s) ⊎ (index v.x n < next v s) → (next v s ≤ next (read_in v s n) s) × (index v.x n < next (read_in v s n) s)
      by h1 = grind (arith, nat_tests, next-moves, next-stays)

  pub next-elsewhere : (t : ℕ) → (t ≡ s → ⊥) → next (read_in v s n) t ≡ next v t
  next-elsewhere t ne = next-read_other v s n t a o (λ k h e. ne (sym (on-stream v.x t k h) ∙ ap (λ j. (v.x.message j).stream) e ∙ on-stream v.x s n d.on_it))

  next-up : (t : ℕ) → next v t ≤ next (read_in v s n) t
  next-up t = by_same {P = next v t ≤ next (read_in v s n) t} t s (λ e. subst (λ y. next v y ≤ next (read_in v s n) y) (sym e) next-grows.0)
      (λ ne f. omega (arith, next-elsewhere t ne))

  -- a complete one before it was read
  before : (k : ℕ) → k < n → on v.x s k ≡ true → all_come v k ≡ true → v.read k ≡ true
  before k lt h c = by (v.read k) refl
    where
      by : (b : Bool) → v.read k ≡ b → v.read k ≡ true
      by true e = e
      by false e =
          let wh : complete_at v k ≡ true = ordered-at v k (on-ordered v.x s k h) ∙ c in
          let near : nat_le (index v.x k)
          (next v s) ≡ true = (let l : index v.x k ≤ next v s = omega (arith, index-lt v.x s k n h d.on_it lt, d.near) in grind (arith, nat_tests)) in
          absurd (not_both (sym (d.first k lt) ∙ and (on v.x s k) (not (v.read k) && (complete_at v k && nat_le (index v.x k) (next v s))) h (and (not
          (v.read k)) (complete_at v k && nat_le (index v.x k) (next v s)) (ap not e) (and (complete_at v k) (nat_le (index v.x k) (next v s)) wh near))))

  pub ordered-read : Ordered (read_in v s n)
  ordered-read = record {
    terminals = o.terminals;
    read_complete =
        λ k lt h r. by_same {P = all_come v k ≡ true} k n (λ e. ap (all_come v) e ∙ all-of) (λ ne f. o.read_complete k lt h (sym (read-other v s n k ne) ∙ r));
    read_past = λ t k lt h r. by_same {P = index v.x k < next (read_in v s n) t} k n
        (λ e. let z : t ≡ s = sym (on-stream v.x t k h) ∙ ap (λ j. (v.x.message j).stream) e ∙ on-stream v.x s n d.on_it in
        subst (λ y. index v.x k < next (read_in v s n) y) (sym z) (subst (λ j. index v.x j < next (read_in v s n) s) (sym e) next-grows.1))
        (λ ne f. let u = next-up t in omega (arith, u, o.read_past t k lt h (sym (read-other v s n k ne) ∙ r)));
    downward = λ t j k jk lt hj hk r c. stays-read v s n j (by_same {P = v.read j ≡ true} k n
        (λ e. let z : t ≡ s = sym (on-stream v.x t k hk) ∙ ap (λ j. (v.x.message j).stream) e ∙ on-stream v.x s n d.on_it in
        before j (omega (arith, jk, e)) (ap (λ y. on v.x y j) (sym z) ∙ hj) c)
        (λ ne f. o.downward t j k jk lt hj hk (sym (read-other v s n k ne) ∙ r) c));
    named_is = λ t. named-read v s n t (o.named_is t);
  }
