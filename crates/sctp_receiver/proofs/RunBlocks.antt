-- The gap ack blocks of runs, and how many runs there are.
use Rattle.sctp_receiver.proofs.Names.{◌≡◌, ℕ, zero, suc, ◌+◌, ◌-◌, ◌<◌, ◌≤◌, ◌^◌, Bool, true, false, List, [], ◌∷◌, ◌++◌, length, map, take, drop, Some, refl}
use Rattle.sctp_receiver.proofs.Names.{ap, sym, subst, ◌∙◌, inl, inr, arith, if◌then◌else◌, ◌==◌, ◌&&◌, nat_lt, min, slice_get, filter, cases_lt, append-nil}
use Rattle.sctp_receiver.proofs.Names.{drop_all, nat_tests, distance, same-yes, same-is, fails, and, following_tsn, Run, rise_beyond, block_of, tsns_from}
use Rattle.sctp_receiver.proofs.Names.{tsns_of, AreRuns, count_of_runs}
use Rattle.std.proofs.lemmas.List.{take_at, take_all}
use Rattle.sctp_util.specs.Kept.{runs_of, put_before_runs}
use Rattle.sctp_data.specs.declared.chunk.chunk_selective_ack.GapAckBlock.{GapAckBlock}
use Rattle.sctp_outbound.specs.payload_queue.Blocks.{is_offset}
use Rattle.sctp_receiver.proofs.TsnLists.{step-of, nearer}
use Rattle.sctp_receiver.proofs.TsnRuns.{next-far, run-rises, span, runs-rise, drop-from}

-- a run that begins farther than a number stands apart
starts : (e : ℕ) (bs : List (ℕ × ℕ)) → (x : ℕ) × ((rest : List (ℕ × ℕ)) × (put_before_runs e bs ≡ (e, x) ∷ rest))
starts e [] = (e, ([], refl))
starts e (b ∷ bs) = by (b.0 == e + 1)
  where
    by : (t : Bool) → (x : ℕ) × ((rest : List (ℕ × ℕ)) × ((if t then (e, b.1) ∷ bs else (e, e) ∷ b ∷ bs) ≡ (e, x) ∷ rest))
    by true = (b.1, (bs, refl))
    by false = (e, (b ∷ bs, refl))

stands-apart : (d e x : ℕ) (rest : List (ℕ × ℕ)) → d + 1 < e → put_before_runs d ((e, x) ∷ rest) ≡ (d, d) ∷ (e, x) ∷ rest
stands-apart d e x rest lt =
    let nay : (e == d + 1) ≡ false = fails (e == d + 1) (λ q. omega (arith, lt, same-is e (d + 1) q)) in
    ap (λ b. if b then (d, x) ∷ rest else (d, d) ∷ (e, x) ∷ rest) nay

joins-next : (d e x : ℕ) (rest : List (ℕ × ℕ)) → e ≡ d + 1 → put_before_runs d ((e, x) ∷ rest) ≡ (d, x) ∷ rest
joins-next d e x rest is = ap (λ b. if b then (d, x) ∷ rest else (d, d) ∷ (e, x) ∷ rest) (ap (λ u. u == d + 1) is ∙ same-yes (d + 1))

-- the runs by their distances, up to the first that begins at the limit or farther
abbrev pub spans : ℕ → ℕ → List Run → List (ℕ × ℕ)
spans limit base [] = []
spans limit base (r ∷ rs) =
    if nat_lt (distance base r.first) limit then (distance base r.first, min (distance base r.last) (limit - 1)) ∷ spans limit base rs else []

module _ (limit base : ℕ) (hb : base < 2 ^ 32) where
  abbrev pub below : ℕ → Bool
  below n = nat_lt 0 n && nat_lt n limit

  -- the distances that are less than the limit
  abbrev pub offsets_of : List ℕ → List ℕ
  offsets_of ts = filter below (map (distance base) ts)

  is-below : (n : ℕ) → 0 < n → n < limit → below n ≡ true
  is-below n pos lt =
      let a : nat_lt 0 n ≡ true = grind (arith, nat_tests, pos) in
      let b : nat_lt n limit ≡ true = grind (arith, nat_tests, lt) in
      and (nat_lt 0 n) (nat_lt n limit) a b

  is-above : (n : ℕ) → 0 < n → limit ≤ n → below n ≡ false
  is-above n pos le =
      let a : nat_lt 0 n ≡ true = grind (arith, nat_tests, pos) in
      let b : nat_lt n limit ≡ false = grind (arith, nat_tests, le) in
      ap (λ x. x && nat_lt n limit) a ∙ b

  kept : (t : ℕ) (ts : List ℕ) → 0 < distance base t → distance base t < limit → offsets_of (t ∷ ts) ≡ distance base t ∷ offsets_of ts
  kept t ts pos lt = ap (λ b. if b then distance base t ∷ offsets_of ts else offsets_of ts) (is-below (distance base t) pos lt)

  dropped : (t : ℕ) (ts : List ℕ) → 0 < distance base t → limit ≤ distance base t → offsets_of (t ∷ ts) ≡ offsets_of ts
  dropped t ts pos le = ap (λ b. if b then distance base t ∷ offsets_of ts else offsets_of ts) (is-above (distance base t) pos le)

  far-none : (far : ℕ) (ts : List ℕ) → limit ≤ far + 1 → rise_beyond base far ts ≡ true → offsets_of ts ≡ []
  far-none far [] le h = refl
  far-none far (t ∷ ts) le h =
      let s = step-of base far t ts h in
      let more = s.0.farther in
      dropped t ts (omega (arith, more)) (omega (arith, more, le)) ∙ far-none (distance base t) ts (omega (arith, more, le)) s.1

  not-joined : (d far : ℕ) (ts : List ℕ) → d + 1 ≤ far → rise_beyond base far ts ≡ true
      → put_before_runs d (runs_of (offsets_of ts)) ≡ (d, d) ∷ runs_of (offsets_of ts)
  not-joined d far [] le h = refl
  not-joined d far (t ∷ ts) le h =
      let s = step-of base far t ts h in
      let more = s.0.farther in
      let e = distance base t in
      elim (cases_lt e limit) [
        | inl lt ↦
            let head = starts e (runs_of (offsets_of ts)) in
            let all : runs_of (offsets_of (t ∷ ts)) ≡ (e, head.0) ∷ head.1.0 = ap runs_of (kept t ts (omega (arith, more)) lt) ∙ head.1.1 in
            subst (λ (bs : List (ℕ × ℕ)). put_before_runs d bs ≡ (d, d) ∷ bs) (sym all) (stands-apart d e head.0 head.1.0 (omega (arith, more, le)))
        | inr ge ↦
            let all : offsets_of (t ∷ ts) ≡ offsets_of ts = dropped t ts (omega (arith, more)) ge in
            subst (λ (ds : List ℕ). put_before_runs d (runs_of ds) ≡ (d, d) ∷ runs_of ds) (sym all) (not-joined d e ts (omega (arith, more, le)) s.1)
      ]

  run-block : (t n : ℕ) (ts : List ℕ) → t < 2 ^ 32 → 0 < distance base t → distance base t + n < 2 ^ 31 → distance base t < limit
      → rise_beyond base (distance base t + n + 1) ts ≡ true
      → runs_of (offsets_of (tsns_from t (suc n) ++ ts)) ≡ (distance base t, min (distance base t + n) (limit - 1)) ∷ runs_of (offsets_of ts)
  run-block t zero ts ht pos near lt h =
      let d = distance base t in
      let end : d ≡ min (d + 0) (limit - 1) = omega (arith, lt) in
      ap runs_of (kept t ts pos lt) ∙ not-joined d (d + 0 + 1) ts (omega arith) h ∙ ap (λ k. (d, k) ∷ runs_of (offsets_of ts)) end
  run-block t (suc n) ts ht pos near lt h =
      let d = distance base t in
      let next = following_tsn t in
      let one : distance base next ≡ d + 1 = next-far base t hb ht (omega (arith, near)) in
      let more = tsns_from next (suc n) ++ ts in
      let same : d + suc n + 1 ≡ distance base next + n + 1 = omega (arith, one) in
      let rest = subst (λ k. rise_beyond base k ts ≡ true) same h in
      ap runs_of (kept t more pos lt) ∙ elim (cases_lt (d + 1) limit) [
        | inl low ↦
            let end : min (distance base next + n) (limit - 1) ≡ min (d + suc n) (limit - 1) = ap (λ k. min k (limit - 1)) (omega (arith, one)) in
            ap (put_before_runs d) (run-block next n ts (omega arith) (omega (arith, one)) (omega (arith, one, near)) (omega (arith, one, low)) rest)
            ∙ joins-next d (distance base next) (min (distance base next + n) (limit - 1)) (runs_of (offsets_of ts)) one
            ∙ ap (λ k. (d, k) ∷ runs_of (offsets_of ts)) end
        | inr high ↦
            let end : d ≡ min (d + suc n) (limit - 1) = omega (arith, high, lt) in
            let far = run-rises base d next n ts hb (omega arith) (omega (arith, one)) (omega (arith, one, near))
            (nearer base (distance base next + n + 1) (distance base next + n) ts (omega arith) rest) in
            ap (λ ds. put_before_runs d (runs_of ds)) (far-none d more high far)
            ∙ ap (λ k. (d, k) ∷ []) end
            ∙ ap (λ ds. (d, min (d + suc n) (limit - 1)) ∷ runs_of ds) (sym (far-none (d + suc n + 1) ts (omega (arith, high)) h))
      ]

  pub spans-are : (far : ℕ) (rs : List Run) → AreRuns base far rs → runs_of (offsets_of (tsns_of rs)) ≡ spans limit base rs
  spans-are far [] are = refl
  spans-are far (r ∷ rs) are =
      let d = distance base r.first in
      let apart = are.0.apart in
      let last = are.0.near in
      let sum = span base far r hb are.0 in
      let rest = runs-rise base (distance base r.last) rs hb are.1 in
      let same : distance base r.last + 1 ≡ d + distance r.first r.last + 1 = omega (arith, sum) in
      elim (cases_lt d limit) [
        | inl lt ↦
            let yes : nat_lt d limit ≡ true = grind (arith, nat_tests, lt) in
            run-block r.first (distance r.first r.last) (tsns_of rs) are.0.first_fits (omega (arith, apart)) (omega (arith, sum, last)) lt
            (subst (λ k. rise_beyond base k (tsns_of rs) ≡ true) same rest)
            ∙ ap (λ k. (d, min k (limit - 1)) ∷ runs_of (offsets_of (tsns_of rs))) sum
            ∙ ap (λ bs. (d, min (distance base r.last) (limit - 1)) ∷ bs) (spans-are (distance base r.last) rs are.1)
            ∙ ap (λ b. if b then (d, min (distance base r.last) (limit - 1)) ∷ spans limit base rs else []) (sym yes)
        | inr ge ↦
            let nay : nat_lt d limit ≡ false = grind (arith, nat_tests, ge) in
            let whole = runs-rise base far (r ∷ rs) hb are in
            let far-all : rise_beyond base (d - 1) (tsns_of (r ∷ rs)) ≡ true = run-rises base (d - 1) r.first (distance r.first r.last) (tsns_of rs) hb
            are.0.first_fits (omega (arith, apart)) (omega (arith, sum, last))
            (nearer base (distance base r.last + 1) (d + distance r.first r.last) (tsns_of rs) (omega (arith, sum)) rest) in
            ap runs_of (far-none (d - 1) (tsns_of (r ∷ rs)) (omega (arith, ge, apart)) far-all)
            ∙ ap (λ b. if b then (d, min (distance base r.last) (limit - 1)) ∷ spans limit base rs else []) (sym nay)
      ]

-- ## How many there are

all-kept : (base far : ℕ) (ts : List ℕ) (hb : base < 2 ^ 32) → rise_beyond base far ts ≡ true → offsets_of (2 ^ 31) base hb ts ≡ map (distance base) ts
all-kept base far [] hb h = refl
all-kept base far (t ∷ ts) hb h =
    let s = step-of base far t ts h in
    kept (2 ^ 31) base hb t ts (let m = s.0.farther in omega (arith, m)) s.0.near ∙ ap (λ ds. distance base t ∷ ds) (all-kept base (distance base t) ts hb s.1)

all-spans : (base far : ℕ) (rs : List Run) (hb : base < 2 ^ 32) → AreRuns base far rs → length (spans (2 ^ 31) base rs) ≡ length rs
all-spans base far [] hb are = refl
all-spans base far (r ∷ rs) hb are =
    let order = are.0.order in
    let near = are.0.near in
    let yes : nat_lt (distance base r.first) (2 ^ 31) ≡ true = grind (arith, nat_tests, order, near) in
    let h = all-spans base (distance base r.last) rs hb are.1 in
    ap (λ b. length (if b then (distance base r.first, min (distance base r.last) (2 ^ 31 - 1)) ∷ spans (2 ^ 31) base rs else [])) yes ∙ omega (arith, h)

pub run-count : (base : ℕ) (rs : List Run) → base < 2 ^ 32 → AreRuns base 0 rs → count_of_runs base (tsns_of rs) ≡ length rs
run-count base rs hb are =
    ap (λ ds. length (runs_of ds)) (sym (all-kept base (0 + 1) (tsns_of rs) hb (runs-rise base 0 rs hb are)))
    ∙ ap length (spans-are (2 ^ 31) base hb 0 rs are)
    ∙ all-spans base 0 rs hb are

-- ## Blocks one after another

no-block : (base k : ℕ) (rs : List Run) (r : Run) → slice_get rs k ≡ Some r → 65535 < distance base r.first → map block_of (spans 65536 base (drop k rs)) ≡ []
no-block base k rs r e lt =
    let is-far : nat_lt (distance base r.first) 65536 ≡ false = grind (arith, nat_tests, lt) in
    ap (λ us. map block_of (spans 65536 base us)) (drop-from rs k r e)
    ∙ ap (λ b. map block_of (if b then (distance base r.first, min (distance base r.last) 65535) ∷ spans 65536 base (drop (suc k) rs) else [])) is-far

-- so many, or all
pub first-blocks : (most : ℕ) (bs rest all : List GapAckBlock) → length bs ≡ most → bs ++ rest ≡ all → bs ≡ take most all
first-blocks most bs rest all e h = sym (take_at bs rest most e) ∙ ap (take most) h

pub all-blocks : (most : ℕ) (bs rest all : List GapAckBlock) → length bs ≤ most → rest ≡ [] → bs ++ rest ≡ all → bs ≡ take most all
all-blocks most bs rest all le none h =
    let same : all ≡ bs = sym h ∙ ap (λ cs. bs ++ cs) none ∙ append-nil bs in
    sym (take_all most bs le) ∙ ap (take most) (sym same)

pub blocks-end : (base k most : ℕ) (rs : List Run) (r : Run) (bs all : List GapAckBlock) → slice_get rs k ≡ Some r → 65535 < distance base r.first
    → length bs ≤ most → bs ++ map block_of (spans 65536 base (drop k rs)) ≡ all → bs ≡ take most all
blocks-end base k most rs r bs all e lt le h = all-blocks most bs (map block_of (spans 65536 base (drop k rs))) all le (no-block base k rs r e lt) h

pub blocks-all : (base k most : ℕ) (rs : List Run) (bs all : List GapAckBlock) → length rs ≤ k → length bs ≤ most
    → bs ++ map block_of (spans 65536 base (drop k rs)) ≡ all → bs ≡ take most all
blocks-all base k most rs bs all ge le h =
    all-blocks most bs (map block_of (spans 65536 base (drop k rs))) all le (ap (λ us. map block_of (spans 65536 base us)) (drop_all k rs ge)) h

pub blocks-are : (base : ℕ) (rs : List Run) → base < 2 ^ 32 → AreRuns base 0 rs
    → map block_of (spans 65536 base rs) ≡ map block_of (runs_of (filter is_offset (map (distance base) (tsns_of rs))))
blocks-are base rs hb are = sym (ap (map block_of) (spans-are 65536 base hb 0 rs are))
