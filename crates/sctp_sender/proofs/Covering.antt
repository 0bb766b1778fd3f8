-- What a SACK takes back of what is covered, and what covers it afterwards.
use Rattle.sctp_sender.proofs.Names.{◌≡◌, ℕ, zero, suc, ◌+◌, ◌-◌, ◌<◌, ◌≤◌, Bool, true, false, List, [], ◌∷◌, length, length-drop, map, drop, get_or, Option}
use Rattle.sctp_sender.proofs.Names.{Result, Ok, Err, Some, None, inl, inr, refl, ap, sym, ◌∙◌, arith, IfOk, if◌then◌else◌, ◌&&◌, ◌||◌, not, nat_lt, list_any}
use Rattle.sctp_sender.proofs.Names.{cases_lt, false≢true, nat_tests, get_or-drop, get_or-map, get_or_past, length-map, list_any_none, change_where, distance}
use Rattle.sctp_sender.proofs.Names.{and-none, or-left, or-right, not_both, ChunkPayloadData, GapAckBlock, Sack, as_acknowledged, is_in_blocks, following_tsn}
use Rattle.sctp_sender.proofs.Names.{Flight, IsContiguous, after_sack, reports, reports_anew, take_sack, Cover, back_each, can_at, can_come_back, is_uncovered}
use Rattle.sctp_sender.proofs.Names.{keep_each, kept_after, return_at, returns_at, takes_back, kept_from, tells_of, trimmed, AreKnown, ascends_from, is_reached}
use Rattle.sctp_sender.specs.Keeping.{back_of}
use Rattle.sctp_sender.proofs.Covers.{neither}
use Rattle.sctp_sender.proofs.Keepings.{length-keep_each, taken-within}
use Rattle.sctp_sender.proofs.Known.{known-at}
use Rattle.sctp_sender.proofs.Tells.{told-same}
use Rattle.sctp_sender.proofs.Reported.{IsTaken, changed-at, ends, reached}
use Rattle.sctp_sender.proofs.Runs.{any_chunk, past-is, tsn-at}
use Rattle.sctp_sender.proofs.Sacks.{apart, count as marked-count, cum-is, run as marked-run}

none-at : {X : Type 0} (q : X → Bool) (xs : List X) (i : ℕ) (d : X) → list_any q xs ≡ false → i < length xs → q (get_or xs i d) ≡ false
none-at q [] i d h lt = absurd (omega (arith, lt))
none-at q (x ∷ xs) zero d h lt = (neither (q x) (list_any q xs) h).0
none-at q (x ∷ xs) (suc i) d h lt = none-at q xs i d (neither (q x) (list_any q xs) h).1 (omega (arith, lt))

-- ## The chunk at a place

pub can-here : (cs : List ChunkPayloadData) (k : ℕ) (d : ChunkPayloadData) → k < length cs → can_at cs k ≡ can_come_back (get_or cs k d)
can-here cs k d lt = get_or-map can_come_back cs k d false lt

can-in : (cs : List ChunkPayloadData) (k : ℕ) → can_at cs k ≡ true → k < length cs
can-in cs k e = elim (cases_lt k (length cs)) [
  | inl lt ↦ lt
  | inr ge ↦ absurd (false≢true (sym (get_or_past (map can_come_back cs) k false (let n = length-map cs can_come_back in omega (arith, n, ge))) ∙ e))
]

module _ (f : Flight) (inv : IsContiguous f) where
  abbrev cs : List ChunkPayloadData
  cs = f.queue.inflight.chunks

  -- how far it is past what is acknowledged
  pub far-at : (k : ℕ) (d : ChunkPayloadData) → k < length cs → distance f.acked_tsn (get_or cs k d).tsn ≡ suc k
  far-at k d lt =
      let tsn = tsn-at cs (following_tsn f.acked_tsn) k d (omega arith) inv.run lt in
      let few = inv.few in
      apart (get_or cs k d).tsn f.acked_tsn k inv.in_range (omega (arith, few, lt)) (omega (arith, tsn)) ∙ omega arith

  module _ (bs : List GapAckBlock) (ks : List (Option (List ℕ))) (v : Cover bs ks f) where
    -- what can come back is covered at its distance
    pub covered-at : (k : ℕ) → can_at cs k ≡ true → is_in_blocks bs (suc k) ≡ true
    covered-at k e =
        let lt = can-in cs k e in
        let c : ChunkPayloadData = get_or cs k any_chunk in
        let none : is_uncovered bs f.acked_tsn c ≡ false = none-at (is_uncovered bs f.acked_tsn) cs k any_chunk v.each lt in
        let can : can_come_back c ≡ true = sym (can-here cs k any_chunk lt) ∙ e in
        sym (ap (is_in_blocks bs) (far-at k any_chunk lt)) ∙ unless (is_in_blocks bs (distance f.acked_tsn c.tsn))
        (sym (ap (λ b. b && not (is_in_blocks bs (distance f.acked_tsn c.tsn))) can) ∙ none)
      where
        unless : (b : Bool) → not b ≡ false → b ≡ true
        unless true h = refl
        unless false h = absurd (not_both (sym h))

module _ {s : Sack} {f : Flight} {sorted : List GapAckBlock} (taken : IsTaken s f sorted) where
  abbrev now : List ChunkPayloadData
  now = f.queue.inflight.chunks

  abbrev count : ℕ
  count = distance f.acked_tsn s.cumulative_tsn_ack

  within : count ≤ length now
  within = taken-within s f taken.none taken.current

  reports-here : (k : ℕ) (d : ChunkPayloadData) → k < length now → reports s (get_or now k d) ≡ is_reached count sorted k
  reports-here k d lt = reached taken k d lt

  now-far : (k : ℕ) (d : ChunkPayloadData) → count + k < length now → distance s.cumulative_tsn_ack (get_or now (count + k) d).tsn ≡ suc k
  now-far k d lt =
      let tsn = tsn-at now (following_tsn f.acked_tsn) (count + k) d (omega arith) taken.whole.run lt in
      let cum = cum-is f.acked_tsn s.cumulative_tsn_ack taken.whole.in_range taken.fits in
      let few = taken.whole.few in
      apart (get_or now (count + k) d).tsn s.cumulative_tsn_ack k taken.fits (omega (arith, few, lt)) (omega (arith, tsn, cum)) ∙ omega arith

  -- the chunk at the place comes back
  taken-at : (k : ℕ) → k < length now
      → (returns_at count sorted now k && tells_of sorted (suc k - count)) ≡ takes_back s (get_or now k any_chunk)
  taken-at k lt = elim (cases_lt k count) [
    | inl low ↦
        let front : nat_lt k count ≡ true = grind (arith, nat_tests, low) in
        let out : returns_at count sorted now k ≡ false = ap (λ b. can_at now k && not (b || is_in_blocks sorted (suc k - count))) front
        ∙ and-none (can_at now k) in
        ap (λ b. b && tells_of sorted (suc k - count)) out
        ∙ sym (ap (λ b. b && tells_of s.gap_ack_blocks (distance s.cumulative_tsn_ack c.tsn)) (sym here ∙ out))
    | inr ge ↦
        let whole : count + (k - count) ≡ k = omega (arith, ge) in
        let far : distance s.cumulative_tsn_ack c.tsn ≡ suc k - count = ap (λ i. distance s.cumulative_tsn_ack (get_or now i any_chunk).tsn) (sym whole)
        ∙ now-far (k - count) any_chunk (omega (arith, lt, ge)) ∙ omega (arith, ge) in
        ap (λ b. b && tells_of sorted (suc k - count)) here
        ∙ ap (λ b. (can_come_back c && not (reports s c)) && b) (told-same sorted s.gap_ack_blocks (suc k - count) taken.are
        ∙ ap (tells_of s.gap_ack_blocks) (sym far))
  ]
    where
      c : ChunkPayloadData
      c = get_or now k any_chunk

      here : returns_at count sorted now k ≡ (can_come_back c && not (reports s c))
      here = ap (λ b. b && not (is_reached count sorted k)) (can-here now k any_chunk lt)
          ∙ ap (λ b. can_come_back c && not b) (sym (reports-here k any_chunk lt))

  -- what comes back, place by place
  pub back-is : (ks : List (Option (List ℕ))) (k : ℕ) → get_or (back_each s now ks) k None ≡ return_at count sorted now ks k
  back-is ks k = elim (cases_lt k (length now)) [
    | inl lt ↦
        one now ks k any_chunk lt ∙ ap (λ b. if b then get_or ks k None else None) (sym (taken-at k lt))
    | inr ge ↦
        let none : can_at now k ≡ false = get_or_past (map can_come_back now) k false (let n = length-map now can_come_back in omega (arith, n, ge)) in
        past now ks k ge
        ∙ sym (ap (λ b. if (b && not (is_reached count sorted k)) && tells_of sorted (suc k - count) then get_or ks k None else None) none)
  ]
    where
      nil : (k : ℕ) → get_or {A = Option (List ℕ)} [] k None ≡ None
      nil k = get_or_past [] k None (omega arith)

      one : (xs : List ChunkPayloadData) (ks : List (Option (List ℕ))) (k : ℕ) (d : ChunkPayloadData) → k < length xs
          → get_or (back_each s xs ks) k None ≡ back_of s (get_or xs k d) (get_or ks k None)
      one xs [] k d lt = nil k ∙ sym (ap (λ x. back_of s (get_or xs k d) x) (nil k) ∙ same (takes_back s (get_or xs k d)))
        where
          same : (b : Bool) → (let x : Option (List ℕ) = None in if b then x else None) ≡ None
          same true = refl
          same false = refl
      one [] (x ∷ ks) k d lt = absurd (omega (arith, lt))
      one (c ∷ xs) (x ∷ ks) zero d lt = refl
      one (c ∷ xs) (x ∷ ks) (suc k) d lt = one xs ks k d (omega (arith, lt))

      past : (xs : List ChunkPayloadData) (ks : List (Option (List ℕ))) (k : ℕ) → length xs ≤ k → get_or (back_each s xs ks) k None ≡ None
      past xs [] k ge = nil k
      past [] (x ∷ ks) k ge = nil k
      past (c ∷ xs) (x ∷ ks) zero ge = absurd (omega (arith, ge))
      past (c ∷ xs) (x ∷ ks) (suc k) ge = past xs ks k (omega (arith, ge))

  -- ## After it

  abbrev marked : List ChunkPayloadData
  marked = change_where (reports_anew s) as_acknowledged now

  after-is : (after_sack s f).queue.inflight.chunks ≡ drop count marked
  after-is =
      let n = marked-count f taken.whole s taken.fits in
      let few = taken.whole.few in
      ap (λ b. (if b then f else take_sack s f).queue.inflight.chunks) taken.current
      ∙ past-is marked f.acked_tsn s.cumulative_tsn_ack taken.whole.in_range taken.fits (omega (arith, few, n)) (omega (arith, within, n))
      (marked-run f taken.whole s taken.fits)

  -- the chunk there was in flight before
  now-at : (k : ℕ) (d : ChunkPayloadData) → count + k < length now
      → get_or (drop count marked) k d
      ≡ (if reports_anew s (get_or now (count + k) d) then as_acknowledged (get_or now (count + k) d) else get_or now (count + k) d)
  now-at k d lt = get_or-drop count marked k d ∙ changed-at (reports_anew s) as_acknowledged now (count + k) d lt

  kept-length : (ks : List (Option (List ℕ))) → length (kept_after s f ks) ≤ length (drop count marked)
  kept-length ks =
      let all : List (Option (List ℕ)) = keep_each s now ks in
      let n = length-keep_each s now ks in
      let m = marked-count f taken.whole s taken.fits in
      let a = length-drop count all in
      let b = length-drop count marked in
      let t = trimmed-length (drop count all) in
      let is = ap (λ (x : Bool). length (if x then ks else trimmed (drop count all))) taken.current in
      omega (arith, n, m, a, b, t, is)
    where
      trimmed-length : (xs : List (Option (List ℕ))) → length (trimmed xs) ≤ length xs
      trimmed-length [] = omega arith
      trimmed-length (x ∷ xs) = by x (trimmed xs) (trimmed-length xs)
        where
          by : (x : Option (List ℕ)) (ys : List (Option (List ℕ))) → length ys ≤ length xs → length (kept_from x ys) ≤ suc (length xs)
          by None [] h = omega arith
          by None (y ∷ ys) h = omega (arith, h)
          by (Some bytes) ys h = omega (arith, h)

  kept-trimmed : (ks : List (Option (List ℕ))) → trimmed (kept_after s f ks) ≡ kept_after s f ks
  kept-trimmed ks =
      ap (λ (b : Bool). trimmed (if b then ks else trimmed (drop count (keep_each s now ks)))) taken.current
      ∙ twice (drop count (keep_each s now ks)) ∙ sym (ap (λ (b : Bool). if b then ks else trimmed (drop count (keep_each s now ks))) taken.current)
    where
      again : (x : Option (List ℕ)) (ys : List (Option (List ℕ))) → trimmed ys ≡ ys → trimmed (kept_from x ys) ≡ kept_from x ys
      again None [] h = refl
      again None (y ∷ ys) h = ap (kept_from None) h
      again (Some bytes) ys h = ap (kept_from (Some bytes)) h

      twice : (xs : List (Option (List ℕ))) → trimmed (trimmed xs) ≡ trimmed xs
      twice [] = refl
      twice (x ∷ xs) = again x (trimmed xs) (twice xs)

  acked-now : (k : ℕ) (d : ChunkPayloadData) → count + k < length now
      → ((get_or now (count + k) d).acked || reports s (get_or now (count + k) d)) ≡ true → (get_or (drop count marked) k d).acked ≡ true
  acked-now k d lt h = ap (λ (x : ChunkPayloadData). x.acked) (now-at k d lt)
      ∙ by (get_or now (count + k) d).acked (reports s (get_or now (count + k) d)) refl refl h
    where
      c : ChunkPayloadData
      c = get_or now (count + k) d

      by : (a r : Bool) → c.acked ≡ a → reports s c ≡ r → (a || r) ≡ true → (if reports_anew s c then as_acknowledged c else c).acked ≡ true
      by true r e g o = ap (λ b. (if not b && reports s c then as_acknowledged c else c).acked) e ∙ e
      by false true e g o = ap (λ b. (if not b && reports s c then as_acknowledged c else c).acked) e ∙ ap (λ b. (if b then as_acknowledged c else c).acked) g
      by false false e g o = absurd (false≢true o)

  -- what these blocks or earlier ones report is acknowledged then
  pub after-known : (bs listed : List GapAckBlock) → AreKnown listed now → ((k : ℕ) → is_in_blocks bs (suc k) ≡ true
      → (is_in_blocks sorted (suc k) || is_in_blocks listed (suc (count + k))) ≡ true) → AreKnown bs (after_sack s f).queue.inflight.chunks
  after-known bs listed known from k e =
      ap (λ (xs : List ChunkPayloadData). get_or (map (λ (c : ChunkPayloadData). c.acked) xs) k false) after-is
      ∙ by (is_in_blocks sorted (suc k)) refl (from k e)
    where
      at : count + k < length now → ((get_or now (count + k) any_chunk).acked || reports s (get_or now (count + k) any_chunk)) ≡ true
          → get_or (map (λ (c : ChunkPayloadData). c.acked) (drop count marked)) k false ≡ true
      at lt h =
          let n = length-drop count marked in
          let m = marked-count f taken.whole s taken.fits in
          get_or-map (λ (c : ChunkPayloadData). c.acked) (drop count marked) k any_chunk false (omega (arith, n, m, lt)) ∙ acked-now k any_chunk lt h

      by : (b : Bool) → is_in_blocks sorted (suc k) ≡ b → (b || is_in_blocks listed (suc (count + k))) ≡ true
          → get_or (map (λ (c : ChunkPayloadData). c.acked) (drop count marked)) k false ≡ true
      by true there o =
          let end = ends taken (suc k) there in
          let lt : count + k < length now = omega (arith, end) in
          let same : suc (count + k) - count ≡ suc k = omega arith in
          at lt (or-right (get_or now (count + k) any_chunk).acked (reports s (get_or now (count + k) any_chunk)) (reports-here (count + k) any_chunk lt
          ∙ or-right (nat_lt (count + k) count) (is_in_blocks sorted (suc (count + k) - count)) (ap (is_in_blocks sorted) same ∙ there)))
      by false there o =
          let h = known-at listed now known (count + k) any_chunk o in
          at h.0 (or-left (get_or now (count + k) any_chunk).acked (reports s (get_or now (count + k) any_chunk)) h.1)

  module _ (bs : List GapAckBlock) (ks : List (Option (List ℕ))) (ascend : ascends_from 0 bs ≡ true)
      (theirs : (k : ℕ) → is_in_blocks sorted (suc k) ≡ true → is_in_blocks bs (suc k) ≡ true)
      (left : (k : ℕ) → count + k < length now → returns_at count sorted now (count + k) ≡ true → is_in_blocks bs (suc k) ≡ true) where
    uncovered-none : (k : ℕ) (d : ChunkPayloadData) → count + k < length now → is_uncovered bs s.cumulative_tsn_ack (get_or (drop count marked) k d) ≡ false
    uncovered-none k d lt =
        ap (is_uncovered bs s.cumulative_tsn_ack) (now-at k d lt) ∙ by (reports s c) refl
      where
        c : ChunkPayloadData
        c = get_or now (count + k) d

        in' : is_in_blocks bs (suc k) ≡ true → (x : ChunkPayloadData) → x.tsn ≡ c.tsn → is_uncovered bs s.cumulative_tsn_ack x ≡ false
        in' e x same =
            ap (λ t. can_come_back x && not (is_in_blocks bs (distance s.cumulative_tsn_ack t))) same
            ∙ ap (λ n. can_come_back x && not (is_in_blocks bs n)) (now-far k d lt)
            ∙ ap (λ b. can_come_back x && not b) e ∙ and-none (can_come_back x)

        tsn-same : (b : Bool) → (if b then as_acknowledged c else c).tsn ≡ c.tsn
        tsn-same true = refl
        tsn-same false = refl

        out : (b : Bool) → can_come_back c ≡ b → reports s c ≡ false → is_uncovered bs s.cumulative_tsn_ack c ≡ false
        out false e r = ap (λ b. b && not (is_in_blocks bs (distance s.cumulative_tsn_ack c.tsn))) e
        out true e r = in' (left k lt (ap (λ b. b && not (is_reached count sorted (count + k))) (can-here now (count + k) d lt ∙ e)
            ∙ ap not (sym (reports-here (count + k) d lt) ∙ r))) c refl

        by : (r : Bool) → reports s c ≡ r
            → is_uncovered bs s.cumulative_tsn_ack (if reports_anew s c then as_acknowledged c else c) ≡ false
        by true e =
            let at : is_reached count sorted (count + k) ≡ true = sym (reports-here (count + k) d lt) ∙ e in
            let behind : nat_lt (count + k) count ≡ false = grind (arith, nat_tests) in
            let same : suc (count + k) - count ≡ suc k = omega arith in
            let there : is_in_blocks sorted (suc k) ≡ true = sym (ap (is_in_blocks sorted) same)
            ∙ sym (ap (λ b. b || is_in_blocks sorted (suc (count + k) - count)) behind) ∙ at in
            in' (theirs k there) (if reports_anew s c then as_acknowledged c else c) (tsn-same (reports_anew s c))
        by false e =
            let old : reports_anew s c ≡ false = ap (λ b. not c.acked && b) e ∙ and-none (not c.acked) in
            ap (λ b. is_uncovered bs s.cumulative_tsn_ack (if b then as_acknowledged c else c)) old ∙ out (can_come_back c) refl e

    pub after-covered : Cover bs (kept_after s f ks) (after_sack s f)
    after-covered = record {
      ascend = ascend;
      each = ap (λ (g : Flight). list_any (is_uncovered bs g.acked_tsn) g.queue.inflight.chunks)
          (ap (λ b. if b then f else take_sack s f) taken.current)
          ∙ ap (list_any (is_uncovered bs s.cumulative_tsn_ack)) (sym (ap (λ b. (if b then f else take_sack s f).queue.inflight.chunks) taken.current)
          ∙ after-is) ∙ list_any_none (is_uncovered bs s.cumulative_tsn_ack) (drop count marked) (λ k d less. uncovered-none k d
          (let n = length-drop count marked in let m = marked-count f taken.whole s taken.fits in omega (arith, n, m, less)));
      within = let a = ap length after-is in let b = kept-length ks in omega (arith, a, b);
      trim = kept-trimmed ks;
    }

-- what holds of an answer holds of what follows from it
pub each-ok : {A E : Type 0} (r : Result A E) {P Q : A → Type 0} → ((a : A) → P a → Q a) → IfOk r P → IfOk r Q
each-ok (Ok a) f h = f a h
each-ok (Err e) f h = h

pub both-ok : {A E : Type 0} (r : Result A E) {P Q R : A → Type 0} → ((a : A) → P a → Q a → R a) → IfOk r P → IfOk r Q → IfOk r R
both-ok (Ok a) f g h = f a g h
both-ok (Err e) f g h = h
