-- No TSN is read twice: the fragments of all messages that were read have TSNs of their own.
use Rattle.sctp_delivery.proofs.Names.{◌≡◌, ℕ, ◌+◌, ◌≤◌, Bool, true, false, not, List, [], ◌∷◌, ◌++◌, Option, refl, ap, sym, subst, ◌∙◌, arith, ◌==◌, zero, suc}
use Rattle.sctp_delivery.proofs.Names.{◌<◌, nat_lt, ◌||◌, if◌then◌else◌, filter, list_all, list_any, sum_by, sum_by-cons, sum_by-append, nat_tests}
use Rattle.sctp_delivery.proofs.Names.{common_steps, negated, or-right, same-is, same-yes, and, both, ChunkPayloadData, Limits, Message, fragments_read}
use Rattle.sctp_delivery.proofs.Names.{has_tsn, is_on, NoneIsReadTwice, fragments_of_all, AfterEachSessionOfFewTsns, NoneIsTakenTwice, are_apart, Session}
use Rattle.sctp_receiver.specs.ReceiverRuns as receiver_runs
use Rattle.sctp_receiver.proofs.Handed as handed
use Rattle.sctp_delivery.proofs.Cases.{at-if, at-test, by-test}
use Rattle.sctp_delivery.proofs.SackLaws as sacks
use Rattle.sctp_delivery.proofs.Sessions as sessions
use Rattle.sctp_delivery.proofs.Sessions.{each-read, none-fails, receiver-runs}

-- ## How often a TSN stands in a list

abbrev pub one : ℕ → ChunkPayloadData → ℕ
one t c = if has_tsn t c then 1 else 0

abbrev pub count : ℕ → List ChunkPayloadData → ℕ
count t cs = sum_by (one t) cs

more : (t : ℕ) (c : ChunkPayloadData) (cs : List ChunkPayloadData) → count t (c ∷ cs) ≡ one t c + count t cs
more t c cs = sum_by-cons (one t) c cs

pub none-count : (t : ℕ) (cs : List ChunkPayloadData) → list_any (has_tsn t) cs ≡ false → count t cs ≡ 0
none-count t [] e = refl
none-count t (c ∷ cs) e = grind (arith, nat_tests, common_steps, none-count t cs)

pub count-none : (t : ℕ) (cs : List ChunkPayloadData) → count t cs ≡ 0 → list_any (has_tsn t) cs ≡ false
count-none t [] e = refl
count-none t (c ∷ cs) e = grind (arith, nat_tests, common_steps, count-none t cs)

pub once : (t : ℕ) (cs : List ChunkPayloadData) → are_apart cs ≡ true → count t cs ≤ 1
once t [] e = omega arith
once t (c ∷ cs) e = by-test (has_tsn t c)
    (λ i.
    let z = none-count t cs (subst (λ n. list_any (has_tsn n) cs ≡ false) (same-is c.tsn t i) (negated (list_any (has_tsn c.tsn) cs) b.0)) in
    let o : one t c ≡ 1 = ap (λ k. if k then 1 else 0) i in
    omega (arith, more t c cs, z, o))
    (λ i. let o : one t c ≡ 0 = ap (λ k. if k then 1 else 0) i in omega (arith, more t c cs, once t cs b.1, o))
  where
    b : (not (list_any (has_tsn c.tsn) cs) ≡ true) × (are_apart cs ≡ true)
    b = both (not (list_any (has_tsn c.tsn) cs)) (are_apart cs) e

apart-where : (cs : List ChunkPayloadData) → ((t : ℕ) → count t cs ≤ 1) → are_apart cs ≡ true
apart-where [] le = refl
apart-where (c ∷ cs) le = and (not (list_any (has_tsn c.tsn) cs)) (are_apart cs) (ap not here) (apart-where cs less)
  where
    here : list_any (has_tsn c.tsn) cs ≡ false
    here =
        let o : one c.tsn c ≡ 1 = ap (λ k. if k then 1 else 0) (same-yes c.tsn) in
        count-none c.tsn cs (omega (arith, sum_by-cons (one c.tsn) c cs, o, le c.tsn))

    less : (t : ℕ) → count t cs ≤ 1
    less t = let more = sum_by-cons (one t) c cs in let n = le t in omega (arith, more, n)

-- ## The stream of a TSN

-- the stream of the first of these chunks that has the TSN
abbrev stream_of : ℕ → List ChunkPayloadData → ℕ
stream_of t [] = 0
stream_of t (c ∷ cs) = if has_tsn t c then c.stream_identifier else stream_of t cs

-- it is on this stream, where it has the TSN
abbrev is_there : ℕ → ℕ → ChunkPayloadData → Bool
is_there t st c = not (has_tsn t c) || is_on st c

none-there : (t st : ℕ) (cs : List ChunkPayloadData) → list_any (has_tsn t) cs ≡ false → list_all (is_there t st) cs ≡ true
none-there t st [] e = refl
none-there t st (c ∷ cs) e = grind (arith, nat_tests, common_steps, none-there t st cs)

all-there : (t : ℕ) (cs : List ChunkPayloadData) → are_apart cs ≡ true → list_all (is_there t (stream_of t cs)) cs ≡ true
all-there t [] e = refl
all-there t (c ∷ cs) e = at-if (λ z. list_all (is_there t z) (c ∷ cs) ≡ true) (has_tsn t c)
    (λ i.
    and (is_there t c.stream_identifier c) (list_all (is_there t c.stream_identifier) cs)
    (or-right (not (has_tsn t c)) (c.stream_identifier == c.stream_identifier) (same-yes c.stream_identifier))
    (none-there t c.stream_identifier cs (subst (λ n. list_any (has_tsn n) cs ≡ false) (same-is c.tsn t i)
    (negated (list_any (has_tsn c.tsn) cs) b.0))))
    (λ i. and (is_there t (stream_of t cs) c) (list_all (is_there t (stream_of t cs)) cs) (ap (λ k. not k || is_on (stream_of t cs) c) i)
    (all-there t cs b.1))
  where
    b : (not (list_any (has_tsn c.tsn) cs) ≡ true) × (are_apart cs ≡ true)
    b = both (not (list_any (has_tsn c.tsn) cs)) (are_apart cs) e

pub fewer : (t : ℕ) (p : ChunkPayloadData → Bool) (cs : List ChunkPayloadData) → count t (filter p cs) ≤ count t cs
fewer t p [] = omega arith
fewer t p (c ∷ cs) = grind (arith, nat_tests, common_steps, more t c cs, fewer t p cs)

-- ## Messages

-- of a message on another stream none has the TSN
none-elsewhere : (t st other : ℕ) → (other == st) ≡ false → (cs : List ChunkPayloadData) → list_all (is_there t st) cs ≡ true → list_all (is_on other) cs ≡ true
    → count t cs ≡ 0
none-elsewhere t st other differ [] e f = refl
none-elsewhere t st other differ (c ∷ cs) e f =
    let a = both (is_there t st c) (list_all (is_there t st) cs) e in
    let b = both (is_on other c) (list_all (is_on other) cs) f in
    let off : is_on st c ≡ false = subst (λ n. (n == st) ≡ false) (sym (same-is c.stream_identifier other b.0)) differ in
    let o : one t c ≡ 0 = grind (arith, nat_tests, common_steps) in
    omega (arith, sum_by-cons (one t) c cs, none-elsewhere t st other differ cs a.1 b.1, o)

count-all : (t st : ℕ) (ms : List Message) → list_all (λ m. list_all (is_there t st) m.fragments) ms ≡ true
    → list_all (λ m. list_all (is_on m.stream) m.fragments) ms ≡ true → count t (fragments_of_all ms) ≡ count t (fragments_read st ms)
count-all t st [] e f = refl
count-all t st (m ∷ ms) e f = at-test (λ k. count t (m.fragments ++ fragments_of_all ms) ≡ count t
    (if k then m.fragments ++ fragments_read st ms else fragments_read st ms)) (m.stream == st)
    (λ i. let s = sum_by-append (one t) m.fragments (fragments_read st ms) in omega (arith, both-sums, s, count-all t st ms a.1 b.1))
    (λ i. let z = none-elsewhere t st m.stream i m.fragments a.0 b.0 in omega (arith, both-sums, z, count-all t st ms a.1 b.1))
  where
    a : (list_all (is_there t st) m.fragments ≡ true) × (list_all (λ x. list_all (is_there t st) x.fragments) ms ≡ true)
    a = both (list_all (is_there t st) m.fragments) (list_all (λ x. list_all (is_there t st) x.fragments) ms) e

    b : (list_all (is_on m.stream) m.fragments ≡ true) × (list_all (λ x. list_all (is_on x.stream) x.fragments) ms ≡ true)
    b = both (list_all (is_on m.stream) m.fragments) (list_all (λ x. list_all (is_on x.stream) x.fragments) ms) f

    both-sums : count t (m.fragments ++ fragments_of_all ms) ≡ count t m.fragments + count t (fragments_of_all ms)
    both-sums = sum_by-append (one t) m.fragments (fragments_of_all ms)

-- ## The law

pub none-twice-so : (first most : ℕ) (limits : Option Limits) (calls : List receiver_runs.Call) (s : Session)
    → receiver_runs.RunsTo (receiver_runs.at_start first most limits) calls s.receiving → NoneIsTakenTwice s → NoneIsReadTwice s
none-twice-so first most limits calls s run apart = apart-where (fragments_of_all s.receiving.read) (λ t. counted t)
  where
    counted : (t : ℕ) → count t (fragments_of_all s.receiving.read) ≤ 1
    counted t =
        let st = stream_of t s.receiving.accepted in
        let weighs = handed.accepted first most limits calls s.receiving run in
        let there = all-there t s.receiving.accepted apart in
        let e = each-read (λ _. is_there t st) s.receiving.read (λ r. let w = weighs r (sessions.fails (is_there t st)) in
        let z = none-fails (is_there t st) (is_on r) s.receiving.accepted there in omega (arith, w, z)) in
        let f = sessions.read-on-so first most limits calls s run in
        let all = count-all t st s.receiving.read e f in
        omega (arith, all, weighs st (one t), fewer t (is_on st) s.receiving.accepted, once t s.receiving.accepted apart)

-- ## No TSN is read more often than it is taken

-- on the streams below one
module _ (t : ℕ) where
  abbrev read_under : ℕ → List Message → List ChunkPayloadData
  read_under k [] = []
  read_under k (m ∷ ms) = if nat_lt m.stream k then m.fragments ++ read_under k ms else read_under k ms

  abbrev taken_under : ℕ → List ChunkPayloadData → List ChunkPayloadData
  taken_under k cs = filter (λ c. nat_lt c.stream_identifier k) cs

  read-more : (k : ℕ) (ms : List Message) → count t (read_under (k + 1) ms) ≡ count t (fragments_read k ms) + count t (read_under k ms)
  read-more k [] = omega arith
  read-more k (m ∷ ms) = grind (arith, nat_tests, common_steps, read-more k ms)

  taken-more : (k : ℕ) (cs : List ChunkPayloadData) → count t (taken_under (k + 1) cs) ≡ count t (filter (is_on k) cs) + count t (taken_under k cs)
  taken-more k [] = omega arith
  taken-more k (c ∷ cs) = grind (arith, nat_tests, common_steps, taken-more k cs)

  none-under : (ms : List Message) → count t (read_under 0 ms) ≡ 0
  none-under [] = omega arith
  none-under (m ∷ ms) = grind (arith, nat_tests, common_steps, none-under ms)

  all-under : (ms : List Message) → (k : ℕ) × ((j : ℕ) → k ≤ j → read_under j ms ≡ fragments_of_all ms)
  all-under [] = (0, λ j le. refl)
  all-under (m ∷ ms) =
      let rest = all-under ms in (
        m.stream + 1 + rest.0,
        λ j le.
            let lt : m.stream < j = omega (arith, le) in
            let yes : nat_lt m.stream j ≡ true = grind (arith, nat_tests) in
            ap (λ b. if b then m.fragments ++ read_under j ms else read_under j ms) yes ∙ ap (λ cs. m.fragments ++ cs) (rest.1 j (omega (arith, le))),
      )

  pub none-more : (first most : ℕ) (limits : Option Limits) (calls : List receiver_runs.Call) (s : Session)
      → receiver_runs.RunsTo (receiver_runs.at_start first most limits) calls s.receiving
      → count t (fragments_of_all s.receiving.read) ≤ count t s.receiving.accepted
  none-more first most limits calls s run =
      let all = all-under s.receiving.read in
      let le = upto all.0 in
      let less = fewer t (λ c. nat_lt c.stream_identifier all.0) s.receiving.accepted in
      let is = ap (count t) (all.1 all.0 (omega arith)) in
      omega (arith, le, less, is)
    where
      upto : (k : ℕ) → count t (read_under k s.receiving.read) ≤ count t (taken_under k s.receiving.accepted)
      upto zero = let z = none-under s.receiving.read in omega (arith, z)
      upto (suc k) =
          let a = read-more k s.receiving.read in
          let b = taken-more k s.receiving.accepted in
          let w = handed.accepted first most limits calls s.receiving run k (one t) in
          let ih = upto k in
          subst (λ j. count t (read_under j s.receiving.read) ≤ count t (taken_under j s.receiving.accepted)) {x = k + 1} {y = suc k} (omega arith)
          (omega (arith, a, b, w, ih))

pub none-twice : AfterEachSessionOfFewTsns (λ first given s. NoneIsReadTwice s)
none-twice first size max most limits cs s run small few = grind (arith, nat_tests, common_steps, none-twice-so, receiver-runs, sacks.none-twice)
