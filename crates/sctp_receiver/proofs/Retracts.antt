-- A TSN that came is taken back.
use Rattle.sctp_receiver.proofs.Names.{◌≡◌, ℕ, zero, suc, ◌+◌, ◌-◌, ◌<◌, ◌≤◌, ◌%◌, ◌^◌, Bool, true, false, List, [], ◌∷◌, ◌++◌, length, take, drop, Some, refl}
use Rattle.sctp_receiver.proofs.Names.{ap, sym, subst, ◌∙◌, arith, if◌then◌else◌, ◌==◌, not, slice_get, unwrap_or, list_any, filter, length-append}
use Rattle.sctp_receiver.proofs.Names.{append_assoc, append-nil, drop_all, insert_before, advance_over, Seen, comes_before, at_or_before, same-yes, same-is}
use Rattle.sctp_receiver.proofs.Names.{following_tsn, distance_rest, neither, after_one, Beyond, Next, Filter, rise_beyond, has_come, is_opposite, with_tsn}
use Rattle.sctp_receiver.proofs.Names.{Run, tsns_from, tsns_of, AreRuns, count_of_runs, passed, undo_of, retracted, CanRetract}
use Rattle.sctp_receiver.specs.TsnFilter.{MakesRoom}
use Rattle.sctp_util.specs.Serial.{distance}
use Rattle.sctp_serial.proofs.lemmas.AscendingEdits.{distance_sum}
use Rattle.sctp_receiver.specs.declared.receiver.tsn_filter.undo.FilterUndo.{FilterUndo}
use Rattle.sctp_receiver.proofs.RunBlocks.{run-count}
use Rattle.sctp_receiver.proofs.TsnRuns.{next-far, rest-is, span, split-at, got-within, runs-split, runs-nearer, tsns-append}
use Rattle.sctp_receiver.proofs.TsnLists.{IsStep, step-of, beyond, moves, stays, rise-inserted}

-- ## Room

pub advance-short : (c : ℕ) (ts : List ℕ) → length (advance_over c ts).held ≤ length ts
advance-short c [] = omega arith
advance-short c (t ∷ ts) = by (t == following_tsn c) (advance-short t ts)
  where
    by : (b : Bool) → length (advance_over t ts).held ≤ length ts → (let s : Seen = if b then advance_over t ts else
        record { cum = c; held = t ∷ ts } in length s.held ≤ length (t ∷ ts))
    by true h = omega (arith, h)
    by false h = omega arith

-- ## What the cumulative TSN moved over

next-farther : (c x t : ℕ) → c < 2 ^ 32 → x < 2 ^ 32 → t ≡ following_tsn x → distance c x < distance c t → distance c t ≡ distance c x + 1
unfolding distance
next-farther c x t hc hx is lt = omega (arith, is, lt)

no-more : (n x : ℕ) (ts : List ℕ) → tsns_from x (n - n) ++ ts ≡ ts
no-more n x ts = let e : n - n ≡ 0 = omega arith in ap (λ k. tsns_from x k ++ ts) e

-- it is one run, from the next one on
moved-over : (c x : ℕ) (ts : List ℕ) → c < 2 ^ 32 → x < 2 ^ 32 → rise_beyond c (distance c x) ts ≡ true
    → (distance c x ≤ distance c (advance_over x ts).cum) × (ts ≡ tsns_from (following_tsn x) (distance c (advance_over x ts).cum - distance c x) ++
    (advance_over x ts).held)
moved-over c x [] hc hx h = (omega arith, sym (no-more (distance c x) (following_tsn x) []))
moved-over c x (t ∷ ts) hc hx h = by (t == following_tsn x) refl (moved-over c t ts hc s.0.small s.1)
  where
    s : IsStep c (distance c x) t × (rise_beyond c (distance c t) ts ≡ true)
    s = step-of c (distance c x) t ts h

    by : (b : Bool) → (t == following_tsn x) ≡ b
        → (distance c t ≤ distance c (advance_over t ts).cum) × (ts ≡ tsns_from (following_tsn t) (distance c (advance_over t ts).cum - distance c t)
        ++ (advance_over t ts).held)
        → (let m : Seen = if b then advance_over t ts else record { cum = x; held = t ∷ ts } in (distance c x ≤ distance c m.cum) ×
        (t ∷ ts ≡ tsns_from (following_tsn x) (distance c m.cum - distance c x) ++ m.held))
    by true e ih =
        let is : t ≡ following_tsn x = same-is t (following_tsn x) e in
        let one : distance c t ≡ distance c x + 1 = next-farther c x t hc hx is s.0.farther in
        let end = (advance_over t ts).cum in
        let count : suc (distance c end - distance c t) ≡ distance c end - distance c x = omega (arith, one, ih.0) in (
          omega (arith, one, ih.0),
          ap (λ us. t ∷ us) ih.1
              ∙ ap (λ u. u ∷ (tsns_from (following_tsn u) (distance c end - distance c t) ++ (advance_over t ts).held)) is
              ∙ ap (λ n. tsns_from (following_tsn x) n ++ (advance_over t ts).held) count,
        )
    by false e ih = (omega arith, sym (no-more (distance c x) (following_tsn x) (t ∷ ts)))

pub passed-is : (c : ℕ) (ts : List ℕ) → c < 2 ^ 32 → rise_beyond c 1 ts ≡ true → passed c (advance_over (following_tsn c) ts).cum ++
    (advance_over (following_tsn c) ts).held ≡ ts
passed-is c ts lt h =
    let one = after_one c lt in
    let m = moved-over c (following_tsn c) ts lt (omega arith) (subst (λ n. rise_beyond c n ts ≡ true) (sym one) h) in
    let end = advance_over (following_tsn c) ts in
    sym (m.1 ∙ ap (λ n. tsns_from (following_tsn (following_tsn c)) (distance c end.cum - n) ++ end.held) one)

-- ## One beyond

without-new : (t : ℕ) (ts : List ℕ) → filter (λ u. not (u == t)) (t ∷ ts) ≡ filter (λ u. not (u == t)) ts
without-new t ts = ap (λ b. if not b then t ∷ filter (λ u. not (u == t)) ts else filter (λ u. not (u == t)) ts) (same-yes t)

pub taken-out : (t : ℕ) (ts : List ℕ) → list_any (λ u. u == t) ts ≡ false → filter (λ u. not (u == t)) (insert_before comes_before t ts) ≡ ts
taken-out t [] gone = without-new t []
taken-out t (u ∷ us) gone = by (comes_before t u) (taken-out t us n.1)
  where
    n : ((u == t) ≡ false) × (list_any (λ v. v == t) us ≡ false)
    n = neither (u == t) (list_any (λ v. v == t) us) gone

    by : (b : Bool) → filter (λ v. not (v == t)) (insert_before comes_before t us) ≡ us
        → filter (λ v. not (v == t)) (if b then t ∷ u ∷ us else u ∷ insert_before comes_before t us) ≡ u ∷ us
    by true ih = without-new t (u ∷ us) ∙ rest-is t (u ∷ us) gone
    by false ih =
        ap (λ b. if not b then u ∷ filter (λ v. not (v == t)) (insert_before comes_before t us) else filter (λ v. not (v == t))
        (insert_before comes_before t us)) n.0
        ∙ ap (λ vs. u ∷ vs) ih

-- ## What is taken back is what was

module _ (t : ℕ) (f : Filter) (lt : f.cumulative_tsn < 2 ^ 32) (small : t < 2 ^ 32) (rise : rise_beyond f.cumulative_tsn 1 f.beyond ≡ true)
    (fresh : has_come t f ≡ false) (near : is_opposite t f ≡ false) where
  pub taken-back : (r : ℕ) → retracted (undo_of t f) (record (with_tsn t f) { room = r }) ≡ f
  taken-back r = by (t == following_tsn f.cumulative_tsn) refl
    where
      apart : (at_or_before t f.cumulative_tsn ≡ false) × (list_any (λ u. u == t) f.beyond ≡ false)
      apart = neither (at_or_before t f.cumulative_tsn) (list_any (λ u. u == t) f.beyond) fresh

      by : (b : Bool) → (t == following_tsn f.cumulative_tsn) ≡ b → retracted (if b then Next f.cumulative_tsn f.room else Beyond t f.room)
          (record (with_tsn t f) { room = r }) ≡ f
      by true e =
          let is : t ≡ following_tsn f.cumulative_tsn = same-is t (following_tsn f.cumulative_tsn) e in
          let go : advance_over f.cumulative_tsn (insert_before comes_before t f.beyond) ≡ advance_over (following_tsn f.cumulative_tsn) f.beyond = ap
          (λ u. advance_over f.cumulative_tsn (insert_before comes_before u f.beyond)) is ∙ moves f.cumulative_tsn f.beyond lt rise in
          ap (λ (s : Seen). let g : Filter = record f { beyond = passed f.cumulative_tsn s.cum ++ s.held } in g) go
          ∙ ap (λ ts. let g : Filter = record f { beyond = ts } in g) (passed-is f.cumulative_tsn f.beyond lt rise)
      by false e =
          let lies : IsStep f.cumulative_tsn 1 t = beyond f.cumulative_tsn t lt small apart.0 near e in
          let more : rise_beyond f.cumulative_tsn 1 (insert_before comes_before t f.beyond) ≡ true = rise-inserted f.cumulative_tsn 1 t f.beyond lt
          lies apart.1 rise in
          ap (λ (s : Seen). let g : Filter = record {
            cumulative_tsn = s.cum;
            beyond = filter (λ u. not (u == t)) s.held;
            duplicates = f.duplicates;
            room = f.room;
          } in g) (stays f.cumulative_tsn (insert_before comes_before t f.beyond) lt more)
          ∙ ap (λ ts. let g : Filter = record f { beyond = ts } in g) (taken-out t f.beyond apart.1)

pub can-retract : (u : FilterUndo) (new old : Filter) → retracted u new ≡ old → old.cumulative_tsn < 2 ^ 32
    → rise_beyond old.cumulative_tsn 1 old.beyond ≡ true → count_of_runs old.cumulative_tsn old.beyond ≤ old.room → old.room ≤ new.room → CanRetract u new
can-retract u new old back lt rise places room = record {
  in_range = subst (λ (f : Filter). f.cumulative_tsn < 2 ^ 32) (sym back) lt;
  rise = subst (λ (f : Filter). rise_beyond f.cumulative_tsn 1 f.beyond ≡ true) (sym back) rise;
  places = subst (λ (f : Filter). count_of_runs f.cumulative_tsn f.beyond ≤ f.room) (sym back) places;
  room = subst (λ (f : Filter). f.room ≤ new.room) (sym back) room;
}

-- it came behind room for it
module _ (t : ℕ) (old mid new : Filter) (made : MakesRoom t old mid) (came : new ≡ with_tsn t mid) where
  pub more-room : old.room ≤ new.room
  more-room = let h = made.more in let e = ap (λ (f : Filter). f.room) came in omega (arith, h, e)

  pub came-behind-room : new ≡ record (with_tsn t old) { room = new.room }
  came-behind-room = let g : Filter → Filter = λ f. record (with_tsn t old) { room = f.room } in
      came ∙ ap (with_tsn t) made.same ∙ ap g (sym came)

  pub behind-room-back : old.cumulative_tsn < 2 ^ 32 → t < 2 ^ 32 → rise_beyond old.cumulative_tsn 1 old.beyond ≡ true → has_come t old ≡ false
      → is_opposite t old ≡ false → retracted (undo_of t old) new ≡ old
  behind-room-back lt small rise fresh near = ap (retracted (undo_of t old)) came-behind-room ∙ taken-back t old lt small rise fresh near new.room

-- ## The TSNs that it moved over are beyond again

-- the last one of a run by itself
pub run-end : (t n : ℕ) → t < 2 ^ 32 → tsns_from t (suc n) ≡ tsns_from t n ++ (t + n) % 2 ^ 32 ∷ []
run-end t zero lt = let e : t ≡ (t + 0) % 2 ^ 32 = omega arith in ap (λ u. u ∷ []) e
run-end t (suc n) lt =
    let e : (following_tsn t + n) % 2 ^ 32 ≡ (t + suc n) % 2 ^ 32 = omega arith in
    ap (λ us. t ∷ us) (run-end (following_tsn t) n (omega arith) ∙ ap (λ u. tsns_from (following_tsn t) n ++ u ∷ []) e)

end-is : (a b : ℕ) → a < 2 ^ 32 → b < 2 ^ 32 → (a + distance a b) % 2 ^ 32 ≡ b
unfolding distance
end-is a b ha hb = omega arith

-- the last of the last run is the last of all
at-end : (us : List ℕ) (x : ℕ) → slice_get (us ++ x ∷ []) (length us) ≡ Some x
at-end [] x = refl
at-end (u ∷ us) x = at-end us x

pub highest-is : (c far : ℕ) (rs : List Run) (r : Run) → c < 2 ^ 32 → AreRuns c far rs → slice_get rs (length rs - 1) ≡ Some r
    → unwrap_or (slice_get (tsns_of rs) (length (tsns_of rs) - 1)) c ≡ r.last
highest-is c far rs r hc are e =
    let k = length rs - 1 in
    let inside = got-within rs k r e in
    let none : drop (suc k) rs ≡ [] = drop_all (suc k) rs (omega arith) in
    let whole : rs ≡ take k rs ++ r ∷ [] = split-at rs k r e ∙ ap (λ us. take k rs ++ r ∷ us) none in
    let both = runs-split c far (take k rs) (r ∷ []) (subst (AreRuns c far) whole are) in
    let us = tsns_of (take k rs) ++ tsns_from r.first (distance r.first r.last) in
    let all : tsns_of rs ≡ us ++ r.last ∷ [] =
    ap tsns_of whole ∙ tsns-append (take k rs) (r ∷ [])
    ∙ ap (λ ws. tsns_of (take k rs) ++ ws) (append-nil (tsns_from r.first (suc (distance r.first r.last)))
    ∙ run-end r.first (distance r.first r.last) both.1.0.first_fits
    ∙ ap (λ u. tsns_from r.first (distance r.first r.last) ++ u ∷ []) (end-is r.first r.last both.1.0.first_fits both.1.0.last_fits))
    ∙ sym (append_assoc (tsns_of (take k rs)) (tsns_from r.first (distance r.first r.last)) (r.last ∷ [])) in
    let long = length-append us (r.last ∷ []) in
    let place : length (us ++ r.last ∷ []) - 1 ≡ length us = omega (arith, long) in
    ap (λ ts. unwrap_or (slice_get ts (length ts - 1)) c) all
    ∙ ap (λ n. unwrap_or (slice_get (us ++ r.last ∷ []) n) c) place
    ∙ ap (λ o. unwrap_or o c) (at-end us r.last)

run-fits : (base far t n : ℕ) (ts : List ℕ) → base < 2 ^ 32 → rise_beyond base far (tsns_from t (suc n) ++ ts) ≡ true
    → (distance base t + n < 2 ^ 31) × (rise_beyond base (distance base t + n) ts ≡ true)
run-fits base far t zero ts hb h =
    let s = step-of base far t ts h in
    let same : distance base t ≡ distance base t + 0 = omega arith in
    (let near = s.0.near in omega (arith, near), subst (λ k. rise_beyond base k ts ≡ true) same s.1)
run-fits base far t (suc n) ts hb h =
    let s = step-of base far t (tsns_from (following_tsn t) (suc n) ++ ts) h in
    let near = s.0.near in
    let one = next-far base t hb s.0.small (omega (arith, near)) in
    let r = run-fits base (distance base t) (following_tsn t) n ts hb s.1 in
    let same : distance base (following_tsn t) + n ≡ distance base t + suc n = omega (arith, one) in
    (let first = r.0 in omega (arith, first, same), subst (λ k. rise_beyond base k ts ≡ true) same r.1)

-- runs seen from an earlier base
to-base : (base c far low : ℕ) (rs : List Run) → base < 2 ^ 32 → c < 2 ^ 32 → distance base c < 2 ^ 31 → AreRuns c far rs
    → rise_beyond base low (tsns_of rs) ≡ true → AreRuns base (distance base c + far) rs
to-base base c far low [] hb hc near are h = tt
to-base base c far low (r ∷ rs) hb hc near are h =
    let apart = are.0.apart in
    let order = are.0.order in
    let end = are.0.near in
    let f = run-fits base low r.first (distance r.first r.last) (tsns_of rs) hb h in
    let close = f.0 in
    let sum = span c far r hc are.0 in
    let first = distance_sum base c r.first hb hc are.0.first_fits (omega (arith, near, order, end)) in
    let last = distance_sum base c r.last hb hc are.0.last_fits (omega (arith, near, end)) in (
      record {
        first_fits = are.0.first_fits;
        last_fits = are.0.last_fits;
        apart = omega (arith, apart, first);
        order = omega (arith, order, first, last);
        near = omega (arith, sum, first, last, close);
      },
      subst (λ k. AreRuns base k rs) last (to-base base c (distance c r.last) (distance base r.first + distance r.first r.last) rs hb hc near are.1 f.1),
    )

two-on : (c : ℕ) → c < 2 ^ 32 → distance c (following_tsn (following_tsn c)) ≡ 2
unfolding distance
two-on c lt = omega arith

far-next : (c : ℕ) → c < 2 ^ 32 → following_tsn (following_tsn c) ≡ (c + 2) % 2 ^ 32
far-next c lt = omega arith

module _ (c last : ℕ) (rs : List Run) (hc : c < 2 ^ 32) (hl : last < 2 ^ 32) (are : AreRuns last 0 rs)
    (rise : rise_beyond c 1 (passed c last ++ tsns_of rs) ≡ true) where
  -- none was moved over
  pub none-back : distance c last ≤ 1 → AreRuns c 0 rs
  none-back le =
      let none : distance c last - 1 ≡ 0 = omega (arith, le) in
      let h : rise_beyond c 1 (tsns_of rs) ≡ true = ap (λ n. rise_beyond c 1 (tsns_from (following_tsn (following_tsn c)) n ++ tsns_of rs)) (sym none) ∙ rise in
      runs-nearer c (distance c last + 0) 0 rs (omega arith) (to-base c last 0 1 rs hc hl (omega (arith, le)) are h)

  -- they are a run
  module _ (more : 1 < distance c last) where
    abbrev run : Run
    run = record { first = (c + 2) % 2 ^ 32; last = last }

    first-far : distance c run.first ≡ 2
    first-far = ap (distance c) (sym (far-next c hc)) ∙ two-on c hc

    sum : distance c run.first + distance run.first last ≡ distance c last
    sum = distance_rest c run.first last hc (omega arith) hl (omega (arith, first-far, more))

    pub back-tsns : tsns_of (run ∷ rs) ≡ passed c last ++ tsns_of rs
    back-tsns =
        let count : suc (distance run.first last) ≡ distance c last - 1 = omega (arith, sum, first-far, more) in
        ap (λ n. tsns_from run.first n ++ tsns_of rs) count
        ∙ ap (λ u. tsns_from u (distance c last - 1) ++ tsns_of rs) (sym (far-next c hc))

    pub back-runs : AreRuns c 0 (run ∷ rs)
    back-runs =
        let f = run-fits c 1 run.first (distance run.first last) (tsns_of rs) hc (ap (rise_beyond c 1) back-tsns ∙ rise) in
        let close = f.0 in
        let end : distance c last < 2 ^ 31 = omega (arith, close, sum) in
        let same : distance c last + 0 ≡ distance c last = omega arith in (
          record {
            first_fits = omega arith;
            last_fits = hl;
            apart = omega (arith, first-far);
            order = omega (arith, first-far, more);
            near = end;
          },
          subst (λ k. AreRuns c k rs) same (to-base c last 0 (distance c run.first + distance run.first last) rs hc hl end are f.1),
        )

    pub back-room : (room : ℕ) → count_of_runs c (passed c last ++ tsns_of rs) ≤ room → length rs < room
    back-room room le =
        let a = ap (count_of_runs c) back-tsns in
        let b = run-count c (run ∷ rs) hc back-runs in
        omega (arith, a, b, le)
