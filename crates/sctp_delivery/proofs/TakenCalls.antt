-- What gap ack blocks leave out: nothing of the distances that they are made of.
use Rattle.sctp_delivery.proofs.Names.{◌≡◌, ℕ, ◌<◌, ◌≤◌, ◌^◌, Bool, true, false, List, ◌∷◌, refl, ap, sym, subst, ◌∙◌, arith, ◌+◌, length, inl, inr, [], map}
use Rattle.sctp_delivery.proofs.Names.{if◌then◌else◌, ◌==◌, nat_le, Contains, ◌||◌, ◌⊎◌, nat_lt, filter, list_any, nat_tests, advance_over, insert_before}
use Rattle.sctp_delivery.proofs.Names.{at_or_before, comes_before, distance, or-left, or-right, same-is, same-yes, or-split, and, not_both, tsn, distance-tsn}
use Rattle.sctp_delivery.proofs.Names.{distance-tsn_back, ChunkPayloadData, ForwardTsn, data_of, New, Repeat, Reception, filter_of, follow_forward_tsn}
use Rattle.sctp_delivery.proofs.Names.{is_stale, max_sack_entries, sack_entries, sack_of_entries, after_forward_tsn, without_incomplete, has_come, is_opposite}
use Rattle.sctp_delivery.proofs.Names.{with_tsn, has_tsn, following_tsn, ReceiverCall, reports_after, are_apart, passes, was_taken, EachSackTells}
use Rattle.sctp_delivery.proofs.Names.{NextSackTells, reports_tsn, data_chunk, forward_tsn, Made, ReceiverFollows, Session, list_any_at, cases_lt, common_steps}
use Rattle.sctp_delivery.proofs.Names.{runs_of, put_before_runs, Sack, is_in_blocks, is_offset}
use Rattle.std.specs.Prelude.{not}
use Rattle.sctp_receiver.specs.TsnFilter.{gap_ack_blocks, offsets}
use Rattle.sctp_delivery.specs.ReceiverCalls as incoming
use Rattle.sctp_delivery.specs.Sacks.{TellsWhatCame}
use Rattle.sctp_delivery.proofs.Cases.{at-test}
use Rattle.sctp_delivery.proofs.Every.{Every, every-contained, every-inserted, every-of, every-passing, one-of, all-of-every}
use Rattle.sctp_delivery.proofs.ArrivedTsns.{IsArrived, IsKnown, advanced, in_run}
use Rattle.sctp_delivery.proofs.SackSteps.{IsMadeGiven}
use Rattle.sctp_delivery.proofs.TakenTsns.{advance-keeps, any-inserted, come, insert-keeps, skip-keeps}
use Rattle.sctp_delivery.proofs.TsnPlaces.{IsGiven, more-given, before, tsn-small, upto-yes, past-is}
use Rattle.sctp_delivery.proofs.ReportedTsns.{IsTruthful, later-truthful, sack-truthful, any-run}
use Rattle.sctp_receiver.proofs.GapCounts.{IsAscending, far_in, next-skipped, next-with}
use Rattle.sctp_receiver.proofs.TsnLists.{expected-absent, expected-after}

abbrev IsRun : ℕ × ℕ → Type 0
IsRun b = b.0 ≤ b.1

put-run : (x : ℕ) (bs : List (ℕ × ℕ)) → Every IsRun bs → Every IsRun (put_before_runs x bs)
put-run h0 h1 h2 = grind (arith, nat_tests, common_steps)

runs-run : (ds : List ℕ) → Every IsRun (runs_of ds)
runs-run [] = tt
runs-run (d ∷ ds) = put-run d (runs_of ds) (runs-run ds)

alone : (x d : ℕ) → (x == d) ≡ true → in_run d (x, x) ≡ true
alone x d e = let same = same-is x d e in and (nat_le x d) (nat_le d x) (grind (arith, nat_tests)) (grind (arith, nat_tests))

put-has : (x d : ℕ) (bs : List (ℕ × ℕ)) → Every IsRun bs → (x == d) ≡ true → list_any (in_run d) (put_before_runs x bs) ≡ true
put-has x d [] v e = or-left (in_run d (x, x)) false (alone x d e)
put-has x d (b ∷ bs) v e = grind (arith, nat_tests, same-is x d e)

put-keeps : (x d : ℕ) (bs : List (ℕ × ℕ)) → list_any (in_run d) bs ≡ true → list_any (in_run d) (put_before_runs x bs) ≡ true
put-keeps h0 h1 h2 h3 = grind (arith, nat_tests, common_steps)

pub runs-have : (ds : List ℕ) (d : ℕ) → list_any (λ x. x == d) ds ≡ true → list_any (in_run d) (runs_of ds) ≡ true
runs-have [] d e = absurd (not_both e)
runs-have (x ∷ xs) d e = by (or-split (x == d) (list_any (λ y. y == d) xs) e) (λ f. runs-have xs d f)
  where
    by : ((x == d) ≡ true) ⊎ (list_any (λ y. y == d) xs ≡ true) → (list_any (λ y. y == d) xs ≡ true → list_any (in_run d) (runs_of xs) ≡ true) → list_any
        (in_run d) (put_before_runs x (runs_of xs)) ≡ true
    by (inl a) ih = put-has x d (runs_of xs) (runs-run xs) a
    by (inr a) ih = put-keeps x d (runs_of xs) (ih a)

-- the distance of one that is held
pub distance-held : (f : ℕ → ℕ) (q : ℕ → Bool) (ts : List ℕ) (t : ℕ) → q (f t) ≡ true → list_any (λ u. u == t) ts ≡ true → list_any (λ x. x == f t)
    (filter q (map f ts)) ≡ true
distance-held f q [] t h e = absurd (not_both e)
distance-held f q (x ∷ xs) t h e = by (q (f x)) refl (or-split (x == t) (list_any (λ u. u == t) xs) e) (λ g. distance-held f q xs t h g)
  where
    by : (k : Bool) → q (f x) ≡ k → ((x == t) ≡ true) ⊎ (list_any (λ u. u == t) xs ≡ true) →
        (list_any (λ u. u == t) xs ≡ true → list_any (λ y. y == f t) (filter q (map f xs)) ≡ true) → list_any (λ y. y == f t)
        (if k then f x ∷ filter q (map f xs) else filter q (map f xs)) ≡ true
    by h0 h1 h2 h3 = grind (arith, nat_tests, common_steps)

-- # A session in which few TSNs are given out, call by call of the receiver: no TSN is taken twice

-- the TSN came
abbrev pub Knows : ℕ → Reception → Type 0
Knows t r = come t r.cumulative_tsn r.beyond ≡ true

-- a chunk whose TSN was given out, and came
abbrev pub HasCome : ℕ → ℕ → Reception → ChunkPayloadData → Type 0
HasCome p n r c = IsGiven p n c.tsn × (come c.tsn r.cumulative_tsn r.beyond ≡ true)

-- all that were taken have come, each once
pub record AreTaken (p n : ℕ) (r : Reception) (cs : List ChunkPayloadData) : Type 0 where
  pub each : Every (HasCome p n r) cs
  pub apart : are_apart cs ≡ true

pub more-come : (p m n : ℕ) (r : Reception) (cs : List ChunkPayloadData) → m ≤ n → AreTaken p m r cs → AreTaken p n r cs
more-come p m n r cs le t = grind (arith, nat_tests, common_steps, every-of, more-given)

-- one that did not come is not among them
pub not-among : (p n : ℕ) (r : Reception) (cs : List ChunkPayloadData) (t : ℕ) → come t r.cumulative_tsn r.beyond ≡ false → Every (HasCome p n r) cs → list_any
    (has_tsn t) cs ≡ false
not-among p n r cs t fresh h = grind (arith, nat_tests, common_steps, one-of, not_both, same-is)

pub fresh-new : (t : ℕ) (answered : Bool) (r : Reception) → New answered ≡ (if has_come t (filter_of r) then Repeat else New answered)
    → has_come t (filter_of r) ≡ false
fresh-new t answered r e = grind (arith, nat_tests, common_steps)

module _ (p n : ℕ) (r : Reception) (kn : ℕ → Bool) (few : n < 2 ^ 31) (h : IsArrived p n kn r.cumulative_tsn r.beyond) where
  pub beyond-given : Every (IsGiven p n) r.beyond
  beyond-given = every-of (IsKnown p n kn) (IsGiven p n) (λ t k. record { place = k.place; some = k.some; within = k.within; is = k.is }) r.beyond h.each

  module _ (t : ℕ) (g : IsGiven p n t) where
    advances : (u : ℕ) → IsGiven p n u → come u r.cumulative_tsn (insert_before comes_before t r.beyond) ≡ true → come u
        (advance_over r.cumulative_tsn (insert_before comes_before t r.beyond)).cum
        (advance_over r.cumulative_tsn (insert_before comes_before t r.beyond)).held ≡ true
    advances u k e = advance-keeps p n r.cumulative_tsn h.place (insert_before comes_before t r.beyond) few h.within h.is
        (every-inserted (IsGiven p n) comes_before t r.beyond g beyond-given) u k e

  -- what a filter with one TSN more knows
  pub new-come : (c : ChunkPayloadData) (q : Reception) (cs : List ChunkPayloadData) → IsGiven p n c.tsn → has_come c.tsn (filter_of r) ≡ false
      → q.cumulative_tsn ≡ (advance_over r.cumulative_tsn (insert_before comes_before c.tsn r.beyond)).cum → q.beyond ≡
      (advance_over r.cumulative_tsn (insert_before comes_before c.tsn r.beyond)).held → AreTaken p n r cs → AreTaken p n q (c ∷ cs)
  new-come c q cs g fresh cum held t = record {
    each = (
      (g, to c.tsn (advances c.tsn g c.tsn g own)),
      every-of (HasCome p n r) (HasCome p n q)
          (λ x k. (k.0, to x.tsn (advances c.tsn g x.tsn k.0 (insert-keeps comes_before c.tsn r.cumulative_tsn r.beyond x.tsn k.1)))) cs t.each,
    );
    apart = and (not (list_any (has_tsn c.tsn) cs)) (are_apart cs) (ap not (not-among p n r cs c.tsn fresh t.each)) t.apart;
  }
    where
      to : (u : ℕ) → come u (advance_over r.cumulative_tsn (insert_before comes_before c.tsn r.beyond)).cum
          (advance_over r.cumulative_tsn (insert_before comes_before c.tsn r.beyond)).held ≡ true → come u q.cumulative_tsn q.beyond ≡ true
      to u e = ap (λ x. come u x q.beyond) cum ∙ ap (come u (advance_over r.cumulative_tsn (insert_before comes_before c.tsn r.beyond)).cum) held ∙ e

      own : come c.tsn r.cumulative_tsn (insert_before comes_before c.tsn r.beyond) ≡ true
      own = or-right (at_or_before c.tsn r.cumulative_tsn) (list_any (λ u. u == c.tsn) (insert_before comes_before c.tsn r.beyond))
          (any-inserted (λ u. u == c.tsn) comes_before c.tsn r.beyond (or-left (c.tsn == c.tsn) (list_any (λ u. u == c.tsn) r.beyond) (same-yes c.tsn)))

  -- what came has come after a FORWARD-TSN
  pub skip-come : (f : ForwardTsn) → IsGiven p n f.new_cumulative_tsn → (u : ℕ) → IsGiven p n u → come u r.cumulative_tsn r.beyond ≡ true
      → come u (after_forward_tsn f r).cumulative_tsn (after_forward_tsn f r).beyond ≡ true
  skip-come f g u k e = at-test (λ b. Knows u (if b then r else without_incomplete f.new_cumulative_tsn (if b then r else follow_forward_tsn f r)))
      (is_stale f r)
      (λ stale. e)
      (λ stale.
      let m = f.new_cumulative_tsn in
      let in' = g.within in
      let le : h.place ≤ g.place =
      omega (arith, past-is p g.place h.place g.is h.is (omega (arith, in', few)) (omega (arith, few)) stale) in
      let skipped : come u (tsn p g.place) (filter (λ v. not (at_or_before v (tsn p g.place))) r.beyond) ≡ true =
      skip-keeps p n h.place g.place r.beyond u few le in' k (ap (λ v. come u v r.beyond) (sym h.is) ∙ e) in
      advance-keeps p n m g.place (filter (λ v. not (at_or_before v m)) r.beyond) few in' g.is
      (every-passing (IsGiven p n) (λ v. not (at_or_before v m)) r.beyond beyond-given) u k
      (subst (λ v. come u v (filter (λ w. not (at_or_before w v)) r.beyond) ≡ true) (sym g.is) skipped))

-- ## The calls

module _ (p n : ℕ) (kn : ℕ → Bool) (old new : Session) (few : n < 2 ^ 31) (m : Every (IsMadeGiven p n) old.made)
    (h : IsArrived p n kn old.receiving.receiver.cumulative_tsn old.receiving.receiver.beyond) where
  -- a TSN that came has come after each
  pub stays-come : (call : ReceiverCall) → ReceiverFollows call old new → (t : ℕ) → IsGiven p n t → Knows t old.receiving.receiver
      → Knows t new.receiving.receiver
  stays-come (incoming.opens stream) f t g e = subst (Knows t) (sym f.step.receiver.1) e
  stays-come (incoming.takes c Repeat) f t g e = subst (Knows t) (sym f.step.receiver) e
  stays-come (incoming.takes c (New answered)) f t g e =
      let r = old.receiving.receiver in
      subst (Knows t) (sym f.step.receiver.after)
      (advances p n r kn few h c.tsn (every-contained (IsMadeGiven p n) old.made (data_chunk (data_of c)) f.handed m) t g
      (insert-keeps comes_before c.tsn r.cumulative_tsn r.beyond t e))
  stays-come (incoming.follows c) f t g e =
      subst (Knows t) (sym f.step.receiver)
      (skip-come p n old.receiving.receiver kn few h c (every-contained (IsMadeGiven p n) old.made (forward_tsn c) f.handed m) t g e)
  stays-come call f t g e = subst (Knows t) (sym f.step.receiver) e

  module _ (t : AreTaken p n old.receiving.receiver old.receiving.accepted) where
    to : (q : Reception) (cs : List ChunkPayloadData) → new.receiving.receiver ≡ q → new.receiving.accepted ≡ cs → AreTaken p n q cs
        → AreTaken p n new.receiving.receiver new.receiving.accepted
    to q cs e i k = subst (λ x. AreTaken p n x new.receiving.accepted) (sym e) (subst (AreTaken p n q) (sym i) k)

    -- nothing is taken
    kept : (call : ReceiverCall) → ReceiverFollows call old new → new.receiving.accepted ≡ old.receiving.accepted
        → AreTaken p n new.receiving.receiver new.receiving.accepted
    kept call f i = to new.receiving.receiver old.receiving.accepted refl i (record {
      each = every-of (HasCome p n old.receiving.receiver) (HasCome p n new.receiving.receiver) (λ x k. (k.0, stays-come call f x.tsn k.0 k.1))
          old.receiving.accepted t.each;
      apart = t.apart;
    })

    pub takes-once : (call : ReceiverCall) → ReceiverFollows call old new → AreTaken p n new.receiving.receiver new.receiving.accepted
    takes-once (incoming.takes c (New answered)) f =
        let r = old.receiving.receiver in
        let g : IsGiven p n c.tsn = every-contained (IsMadeGiven p n) old.made (data_chunk (data_of c)) f.handed m in
        to _ (c ∷ old.receiving.accepted) f.step.receiver.after f.step.accepted
        (new-come p n r kn few h c _ old.receiving.accepted g (fresh-new c.tsn answered r f.accepted.1) refl refl t)
    takes-once (incoming.takes c Repeat) f = kept (incoming.takes c Repeat) f f.step.accepted
    takes-once call f = kept call f f.step.accepted

-- # A session in which few TSNs are given out, call by call of the receiver: what arrived

-- ## What stays known

pub more-arrived : (p m n : ℕ) (kn kn' : ℕ → Bool) (cumulative : ℕ) (beyond : List ℕ) → m ≤ n → ((t : ℕ) → kn t ≡ true → kn' t ≡ true)
    → IsArrived p m kn cumulative beyond → IsArrived p n kn' cumulative beyond
more-arrived p m n kn kn' cumulative beyond le more h = grind (arith, nat_tests, common_steps, every-of)

-- ## A TSN comes

-- what is passed up to a FORWARD-TSN that was made
pub passed-upto : (p n : ℕ) (ms : List Made) (f : ForwardTsn) → n < 2 ^ 31 → (g : IsGiven p n f.new_cumulative_tsn) → Contains ms (forward_tsn f) → (k : ℕ)
    → k ≤ g.place → list_any (passes (tsn p k)) ms ≡ true
passed-upto p n ms f few g in' k le = grind (arith, nat_tests, common_steps, upto-yes, list_any_at)

module _ (p n : ℕ) (kn now : ℕ → Bool) (old new : Session) (few : n < 2 ^ 31) (m : Every (IsMadeGiven p n) old.made) where
  -- what arrived at the receiver, known by what is known after the call
  abbrev Hears : Reception → Type 0
  Hears r = IsArrived p n now r.cumulative_tsn r.beyond

  -- what is known stays so, and known is what was taken
  module _ (grows : (t : ℕ) → kn t ≡ true → now t ≡ true) (taken : (t : ℕ) → was_taken t new ≡ true → now t ≡ true)
      (h : IsArrived p n kn old.receiving.receiver.cumulative_tsn old.receiving.receiver.beyond) where
    still : Hears old.receiving.receiver
    still = more-arrived p n n kn now old.receiving.receiver.cumulative_tsn old.receiving.receiver.beyond (omega arith) grows h

    hears-to : (r : Reception) → new.receiving.receiver ≡ r → Hears r → Hears new.receiving.receiver
    hears-to r e k = subst Hears (sym e) k

    -- with a new TSN
    hears-one : (t : ℕ) → IsGiven p n t → now t ≡ true → IsArrived p n now old.receiving.receiver.cumulative_tsn
        (insert_before comes_before t old.receiving.receiver.beyond)
    hears-one t g so = grind (arith, nat_tests, common_steps, still, every-inserted)

    -- known is what it passes
    abbrev IsKnownUpTo : ForwardTsn → Type 0
    IsKnownUpTo f = (g : IsGiven p n f.new_cumulative_tsn) (k : ℕ) → k ≤ g.place → now (tsn p k) ≡ true

    -- with all up to a FORWARD-TSN
    hears-upto : (f : ForwardTsn) → Contains old.made (forward_tsn f) → IsKnownUpTo f → IsArrived p n now f.new_cumulative_tsn
        (filter (λ t. not (at_or_before t f.new_cumulative_tsn)) old.receiving.receiver.beyond)
    hears-upto f in' passed =
        let g : IsGiven p n f.new_cumulative_tsn = every-contained (IsMadeGiven p n) old.made (forward_tsn f) in' m in
        record {
          place = g.place;
          within = g.within;
          is = g.is;
          so_far = λ k pos le. passed g k le;
          each = every-passing (IsKnown p n now) (λ t. not (at_or_before t f.new_cumulative_tsn)) old.receiving.receiver.beyond still.each;
        }

    pub follows-arrived : (f : ForwardTsn) → Contains old.made (forward_tsn f) → IsKnownUpTo f → Hears (after_forward_tsn f old.receiving.receiver)
    follows-arrived f in' passed = at-test (λ b. Hears (if b then old.receiving.receiver else without_incomplete f.new_cumulative_tsn
        (if b then old.receiving.receiver else follow_forward_tsn f old.receiving.receiver))) (is_stale f old.receiving.receiver)
        (λ e. still)
        (λ e. advanced p n now f.new_cumulative_tsn (filter (λ t. not (at_or_before t f.new_cumulative_tsn)) old.receiving.receiver.beyond) few
        (hears-upto f in' passed))

    pub hears : (call : ReceiverCall) → ReceiverFollows call old new
        → ((f : ForwardTsn) → Contains old.made (forward_tsn f) → call ≡ incoming.follows f → IsKnownUpTo f) → Hears new.receiving.receiver
    hears (incoming.opens stream) f passed = hears-to _ f.step.receiver.1 still
    hears (incoming.takes c Repeat) f passed = hears-to _ f.step.receiver still
    hears (incoming.takes c (New answered)) f passed =
        let given : IsGiven p n c.tsn = every-contained (IsMadeGiven p n) old.made (data_chunk (data_of c)) f.handed m in
        let here : was_taken c.tsn new ≡ true = ap (list_any (has_tsn c.tsn)) f.step.accepted ∙ or-left (has_tsn c.tsn c)
        (list_any (has_tsn c.tsn) old.receiving.accepted) (same-yes c.tsn) in
        hears-to _ f.step.receiver.after
        (advanced p n now old.receiving.receiver.cumulative_tsn (insert_before comes_before c.tsn old.receiving.receiver.beyond) few
        (hears-one c.tsn given (taken c.tsn here)))
    hears (incoming.follows g) f passed = hears-to _ f.step.receiver (follows-arrived g f.handed (passed g f.handed refl))
    hears call f passed = hears-to _ f.step.receiver still

-- ## What SACKs say

pub tells : (p n : ℕ) (kn now : ℕ → Bool) (old : Session) (call : ReceiverCall) → n < 2 ^ 31 → ((t : ℕ) → kn t ≡ true → now t ≡ true)
    → IsArrived p n kn old.receiving.receiver.cumulative_tsn old.receiving.receiver.beyond → Every (IsTruthful p n kn) old.sacks
    → Every (IsTruthful p n now) (reports_after call old.receiving.receiver old.sacks)
tells p n kn now old call few grows h t = by call
  where
    rest : Every (IsTruthful p n now) old.sacks
    rest = every-of (IsTruthful p n kn) (IsTruthful p n now) (λ k x. later-truthful p n n kn now k (omega arith) grows x) old.sacks t

    told : (credit entries : ℕ) → IsTruthful p n now (sack_of_entries credit entries old.receiving.receiver)
    told credit entries =
        later-truthful p n n kn now _ (omega arith) grows (sack-truthful p n kn credit entries old.receiving.receiver few h)

    by : (c : ReceiverCall) → Every (IsTruthful p n now) (reports_after c old.receiving.receiver old.sacks)
    by (incoming.reports credit) = (told credit max_sack_entries, rest)
    by (incoming.reports_within credit bytes) = (told credit (sack_entries bytes), rest)
    by (incoming.makes_sack credit bytes) = (told credit (sack_entries bytes), rest)
    by call = rest

-- # A session in which few TSNs are given out, call by call of the receiver: its TSNs stay in order, and the next SACK leaves none out

-- ## The order of TSNs

abbrev pub IsInOrder : Reception → Type 0
IsInOrder r = IsAscending (filter_of r)

module _ (p n : ℕ) (r : Reception) (kn : ℕ → Bool) (few : n < 2 ^ 31) (h : IsArrived p n kn r.cumulative_tsn r.beyond) (a : IsInOrder r) where
  -- one that was given out is not half the circle away
  pub near : (t : ℕ) → IsGiven p n t → is_opposite t (filter_of r) ≡ false
  near t g = grind (arith, nat_tests, common_steps, cases_lt, distance-tsn_back, distance-tsn)

  small-of : (t : ℕ) → IsGiven p n t → t < 2 ^ 32
  small-of t g = let s = tsn-small p g.place in omega (arith, s)

  pub order-with : (t : ℕ) → IsGiven p n t → has_come t (filter_of r) ≡ false → IsAscending (with_tsn t (filter_of r))
  order-with t g fresh =
      (next-with (filter_of r) t (distance r.cumulative_tsn t + far_in (filter_of r)) a (small-of t g) fresh (near t g) (omega arith) (omega arith)).ascending

  pub order-past : (f : ForwardTsn) → IsGiven p n f.new_cumulative_tsn → IsInOrder (after_forward_tsn f r)
  order-past f g = at-test (λ b. IsInOrder (if b then r else without_incomplete f.new_cumulative_tsn (if b then r else follow_forward_tsn f r)))
      (is_stale f r)
      (λ e. a)
      (λ e. let k = (next-skipped (filter_of r) f.new_cumulative_tsn a (small-of f.new_cumulative_tsn g)
      (ahead e)).ascending in record { small = k.small; rise = k.rise })
    where
      ahead : is_stale f r ≡ false → comes_before r.cumulative_tsn f.new_cumulative_tsn ≡ true
      ahead stale =
          let past = past-is p g.place h.place g.is h.is (omega (arith, few)) (omega (arith, few)) stale in
          let e : nat_lt h.place g.place ≡ true = grind (arith, nat_tests) in
          ap (λ v. comes_before v f.new_cumulative_tsn) h.is ∙ ap (comes_before (tsn p h.place)) g.is
          ∙ before p h.place g.place (omega (arith, few)) (omega (arith, few)) ∙ e

module _ (p n : ℕ) (kn : ℕ → Bool) (old new : Session) (few : n < 2 ^ 31) (m : Every (IsMadeGiven p n) old.made)
    (h : IsArrived p n kn old.receiving.receiver.cumulative_tsn old.receiving.receiver.beyond) (a : IsInOrder old.receiving.receiver) where
  order-to : (q : Reception) → new.receiving.receiver ≡ q → IsInOrder q → IsInOrder new.receiving.receiver
  order-to q e o = subst IsInOrder (sym e) o

  pub keeps-order : (call : ReceiverCall) → ReceiverFollows call old new → IsInOrder new.receiving.receiver
  keeps-order (incoming.opens stream) f = order-to _ f.step.receiver.1 (record { small = a.small; rise = a.rise })
  keeps-order (incoming.takes c Repeat) f = order-to _ f.step.receiver (record { small = a.small; rise = a.rise })
  keeps-order (incoming.takes c (New answered)) f =
      let g : IsGiven p n c.tsn = every-contained (IsMadeGiven p n) old.made (data_chunk (data_of c)) f.handed m in
      let k = order-with p n old.receiving.receiver kn few h a c.tsn g (fresh-new c.tsn answered old.receiving.receiver f.accepted.1) in
      order-to _ f.step.receiver.after (record { small = k.small; rise = k.rise })
  keeps-order (incoming.follows g) f = order-to _ f.step.receiver
      (order-past p n old.receiving.receiver kn few h a g (every-contained (IsMadeGiven p n) old.made (forward_tsn g) f.handed m))
  keeps-order call f = order-to _ f.step.receiver (record { small = a.small; rise = a.rise })

-- ## The next SACK

module _ (p n : ℕ) (s : Session) (kn : ℕ → Bool) (few : n < 2 ^ 31) (h : IsArrived p n kn s.receiving.receiver.cumulative_tsn s.receiving.receiver.beyond)
    (a : IsInOrder s.receiving.receiver) (t : AreTaken p n s.receiving.receiver s.receiving.accepted) where
  abbrev r : Reception
  r = s.receiving.receiver

  expected : come (following_tsn s.receiving.receiver.cumulative_tsn) s.receiving.receiver.cumulative_tsn s.receiving.receiver.beyond ≡ true → ⊥
  expected e = elim (or-split (at_or_before (following_tsn r.cumulative_tsn) r.cumulative_tsn)
      (list_any (λ u. u == following_tsn r.cumulative_tsn) r.beyond) e) [
        | inl x ↦ not_both (sym (expected-after r.cumulative_tsn a.small) ∙ x)
        | inr x ↦ not_both (sym (expected-absent r.cumulative_tsn 1 r.beyond a.small (omega arith) a.rise) ∙ x)
      ]

  pub next-untaken : was_taken (following_tsn s.receiving.receiver.cumulative_tsn) s ≡ false
  next-untaken = grind (arith, nat_tests, common_steps, one-of, expected, same-is)

  -- one beyond is in a block, if it is not too far
  in-block : (u : ℕ) → is_offset (distance s.receiving.receiver.cumulative_tsn u) ≡ true → list_any (λ v. v == u) s.receiving.receiver.beyond ≡ true
      → is_in_blocks (gap_ack_blocks (filter_of s.receiving.receiver)) (distance s.receiving.receiver.cumulative_tsn u) ≡ true
  in-block u far e =
      any-run (distance r.cumulative_tsn u) (runs_of (offsets (filter_of r)))
      ∙ runs-have (offsets (filter_of r)) (distance r.cumulative_tsn u) (distance-held (distance r.cumulative_tsn) is_offset r.beyond u far e)

  abbrev IsAnswered : Sack → ChunkPayloadData → Type 0
  IsAnswered k c = (reports_tsn c.tsn k || nat_le (2 ^ 16) (distance k.cumulative_tsn_ack c.tsn)) ≡ true

  answered : (credit entries : ℕ) → length (sack_of_entries credit entries s.receiving.receiver).gap_ack_blocks < entries → (c : ChunkPayloadData)
      → HasCome p n s.receiving.receiver c → IsAnswered (sack_of_entries credit entries s.receiving.receiver) c
  answered credit entries free c k = by (at_or_before c.tsn r.cumulative_tsn) refl
      (or-split (at_or_before c.tsn r.cumulative_tsn) (list_any (λ u. u == c.tsn) r.beyond) k.1)
    where
      past : at_or_before c.tsn s.receiving.receiver.cumulative_tsn ≡ false → 0 < distance s.receiving.receiver.cumulative_tsn c.tsn
      past e = grind (arith, nat_tests, common_steps, past-is, distance-tsn)

      beyond-answered : (b : Bool) → nat_le (2 ^ 16) (distance s.receiving.receiver.cumulative_tsn c.tsn) ≡ b
          → 0 < distance s.receiving.receiver.cumulative_tsn c.tsn
          → list_any (λ u. u == c.tsn) s.receiving.receiver.beyond ≡ true → IsAnswered (sack_of_entries credit entries s.receiving.receiver) c
      beyond-answered h0 h1 h2 h3 = grind (arith, nat_tests, common_steps, or-right, and, in-block, or-left)

      by : (b : Bool) → at_or_before c.tsn s.receiving.receiver.cumulative_tsn ≡ b → (at_or_before c.tsn s.receiving.receiver.cumulative_tsn ≡ true) ⊎
          (list_any (λ u. u == c.tsn) s.receiving.receiver.beyond ≡ true) → IsAnswered (sack_of_entries credit entries s.receiving.receiver) c
      by true e x = grind (arith, nat_tests, common_steps)
      by false e (inl x) = absurd (not_both (sym e ∙ x))
      by false e (inr x) = beyond-answered (nat_le (2 ^ 16) (distance r.cumulative_tsn c.tsn)) refl (past e) x

  told : (credit entries : ℕ) → TellsWhatCame entries s (sack_of_entries credit entries s.receiving.receiver)
  told credit entries = record {
    next = next-untaken;
    all = λ free. all-of-every (IsAnswered (sack_of_entries credit entries r)) s.receiving.accepted
        (every-of (HasCome p n r) (IsAnswered (sack_of_entries credit entries r)) (λ c k. answered credit entries free c k) s.receiving.accepted t.each);
  }

  pub next-sack-tells : NextSackTells s
  next-sack-tells credit new f = (sack_of_entries credit max_sack_entries r, ap (λ (x : Session). x.sacks) f.after, told credit max_sack_entries)

  pub each-sack-tells : EachSackTells s
  each-sack-tells (incoming.reports credit) new e f =
      (sack_of_entries credit max_sack_entries r, ap (λ (x : Session). x.sacks) f.after, told credit max_sack_entries)
  each-sack-tells (incoming.reports_within credit bytes) new e f =
      (sack_of_entries credit (sack_entries bytes) r, ap (λ (x : Session). x.sacks) f.after, told credit (sack_entries bytes))
  each-sack-tells (incoming.makes_sack credit bytes) new e f =
      (sack_of_entries credit (sack_entries bytes) r, ap (λ (x : Session). x.sacks) f.after, told credit (sack_entries bytes))
  each-sack-tells call new e f = absurd (not_both e)
