-- The streams of a receiver where one is closed: their numbers stay apart, and the others are found as before.
use Rattle.sctp_receiver.proofs.Names.{◌≡◌, ℕ, ◌≤◌, Bool, true, false, List, [], ◌∷◌, ◌++◌, Option, Some, None, refl, ap, sym, ◌∙◌, arith}
use Rattle.sctp_receiver.proofs.Names.{if◌then◌else◌, ◌==◌, not, find, filter, list_any, sum_by, option_or, find-append, eq-eqb, same-is, fails}
use Rattle.sctp_receiver.proofs.Names.{not_both, and, neither, InboundStream, number, numbers_of, has_number, Reception, Call, Makes, opens, closes}
use Rattle.sctp_receiver.proofs.Names.{takes, discards, reports, reports_within, reads, resets, forwards, forwards_by_names, ForwardTsn, filter_of, has_come}
use Rattle.sctp_receiver.proofs.Names.{repeat_tsn, with_filter, with_tsn, after_discard, after_forward, after_forward_tsn, is_stale}
use Rattle.sctp_receiver.proofs.Names.{without_incomplete, incomplete_forwarded, stream_reset, new_stream}
use Rattle.std.proofs.lemmas.List.{map-append}
use Rattle.std.specs.List.{slice_rotate_right}
use Rattle.sctp_util.proofs.Edits.{list_any-append}
use Rattle.sctp_receiver.proofs.DataEach.{takes-keeps}
use Rattle.sctp_receiver.proofs.Forwarded.{after-numbers}
use Rattle.sctp_receiver.proofs.Inbounds.{stays-changed, stays-mapped}
use Rattle.sctp_receiver.proofs.Receptions.{read-numbers}
use Rattle.sctp_receiver.proofs.StreamCosts.{are_apart, apart-of, any-kept, kept-apart, kept-cost, more-apart, or_false}
use Rattle.sctp_stream.proofs.Removals.{from-last, rotated, rotated-map, out-sum}
use Rattle.sctp_stream.specs.Numbers.{swapped_out}

-- ## What the others count for

pub closed-cost : (m : InboundStream → ℕ) (s : ℕ) (ls : List InboundStream) → sum_by m (swapped_out (has_number s) ls) ≤ sum_by m ls
closed-cost m s ls = let h = kept-cost m (λ l. not (has_number s l)) ls in let e = out-sum (has_number s) m ls in omega (arith, h, e)

-- ## Numbers stay apart

-- the last number comes first
any-front : (n : ℕ) (ns : List ℕ) → list_any (λ k. k == n) ns ≡ false → list_any (λ k. k == n) (slice_rotate_right ns 1) ≡ false
any-front n = from-last (λ ns. list_any (λ k. k == n) ns ≡ false → list_any (λ k. k == n) (slice_rotate_right ns 1) ≡ false) (λ h. h) more
  where
    more : (ks : List ℕ) (k : ℕ) → list_any (λ k. k == n) (ks ++ k ∷ []) ≡ false → list_any (λ k. k == n) (slice_rotate_right (ks ++ k ∷ []) 1) ≡ false
    more ks k h =
        let parts = neither (list_any (λ k. k == n) ks) (list_any (λ k. k == n) (k ∷ [])) (sym (list_any-append (λ k. k == n) ks (k ∷ [])) ∙ h) in
        let last = neither (k == n) false parts.1 in
        ap (list_any (λ k. k == n)) (rotated ks k) ∙ or_false (k == n) (list_any (λ k. k == n) ks) last.0 parts.0

other : (a b : ℕ) → (a == b) ≡ false → (b == a) ≡ false
other a b e = fails (b == a) (λ t. not_both (sym e ∙ eq-eqb a b (sym (same-is b a t))))

apart-last : (ks : List ℕ) (k : ℕ) → are_apart (ks ++ k ∷ []) ≡ true → are_apart (k ∷ ks) ≡ true
apart-last [] k h = h
apart-last (n ∷ ks) k h =
    let parts = apart-of n (ks ++ k ∷ []) h in
    let rest = apart-of k ks (apart-last ks k parts.1) in
    let any = neither (list_any (λ j. j == n) ks) (list_any (λ j. j == n) (k ∷ [])) (sym (list_any-append (λ j. j == n) ks (k ∷ [])) ∙ parts.0) in
    let last = neither (k == n) false any.1 in
    and _ _ (ap not (or_false (n == k) (list_any (λ j. j == k) ks) (other k n last.0) rest.0)) (and _ _ (ap not any.0) rest.1)

apart-front : (ns : List ℕ) → are_apart ns ≡ true → are_apart (slice_rotate_right ns 1) ≡ true
apart-front = from-last (λ ns. are_apart ns ≡ true → are_apart (slice_rotate_right ns 1) ≡ true) (λ h. h)
    (λ ks k h. ap are_apart (rotated ks k) ∙ apart-last ks k h)

any-closed : (n s : ℕ) (ls : List InboundStream) → list_any (λ k. k == n) (numbers_of ls) ≡ false
    → list_any (λ k. k == n) (numbers_of (swapped_out (has_number s) ls)) ≡ false
any-closed n s [] h = refl
any-closed n s (l ∷ ls) h = by (has_number s l) (any-closed n s ls others.1)
  where
    left : List InboundStream
    left = filter (λ l. not (has_number s l)) ls

    others : (number l == n) ≡ false × (list_any (λ k. k == n) (numbers_of ls) ≡ false)
    others = neither (number l == n) (list_any (λ k. k == n) (numbers_of ls)) h

    by : (b : Bool) → list_any (λ k. k == n) (numbers_of (swapped_out (has_number s) ls)) ≡ false
        → list_any (λ k. k == n) (numbers_of (if b then slice_rotate_right left 1 else l ∷ swapped_out (has_number s) ls)) ≡ false
    by true ih = ap (list_any (λ k. k == n)) (rotated-map number left)
        ∙ any-front n (numbers_of left) (any-kept n (λ l. not (has_number s l)) ls others.1)
    by false ih = or_false (number l == n) (list_any (λ k. k == n) (numbers_of (swapped_out (has_number s) ls))) others.0 ih

pub closed-apart : (s : ℕ) (ls : List InboundStream) → are_apart (numbers_of ls) ≡ true → are_apart (numbers_of (swapped_out (has_number s) ls)) ≡ true
closed-apart s [] h = refl
closed-apart s (l ∷ ls) h = by (has_number s l) (closed-apart s ls parts.1)
  where
    left : List InboundStream
    left = filter (λ l. not (has_number s l)) ls

    parts : (list_any (λ k. k == number l) (numbers_of ls) ≡ false) × (are_apart (numbers_of ls) ≡ true)
    parts = apart-of (number l) (numbers_of ls) h

    by : (b : Bool) → are_apart (numbers_of (swapped_out (has_number s) ls)) ≡ true
        → are_apart (numbers_of (if b then slice_rotate_right left 1 else l ∷ swapped_out (has_number s) ls)) ≡ true
    by true ih = ap are_apart (rotated-map number left) ∙ apart-front (numbers_of left) (kept-apart (λ l. not (has_number s l)) ls parts.1)
    by false ih = and _ _ (ap not (any-closed (number l) s ls parts.0)) ih

-- ## The others are found as before

not-found : (n : ℕ) (ls : List InboundStream) → list_any (λ k. k == n) (numbers_of ls) ≡ false → find (has_number n) ls ≡ None
not-found n [] h = refl
not-found n (l ∷ ls) h =
    let parts = neither (number l == n) (list_any (λ k. k == n) (numbers_of ls)) h in
    ap (λ b. if b then Some l else find (has_number n) ls) parts.0 ∙ not-found n ls parts.1

found-front : (t : ℕ) (ls : List InboundStream) → are_apart (numbers_of ls) ≡ true
    → find (has_number t) (slice_rotate_right ls 1) ≡ find (has_number t) ls
found-front t = from-last (λ ls. are_apart (numbers_of ls) ≡ true → find (has_number t) (slice_rotate_right ls 1) ≡ find (has_number t) ls) (λ h. refl) more
  where
    more : (ks : List InboundStream) (k : InboundStream) → are_apart (numbers_of (ks ++ k ∷ [])) ≡ true
        → find (has_number t) (slice_rotate_right (ks ++ k ∷ []) 1) ≡ find (has_number t) (ks ++ k ∷ [])
    more ks k h = ap (find (has_number t)) (rotated ks k) ∙ by (number k == t) refl ∙ sym (find-append (has_number t) ks (k ∷ []))
      where
        gone : list_any (λ j. j == number k) (numbers_of ks) ≡ false
        gone = (apart-of (number k) (numbers_of ks) (apart-last (numbers_of ks) (number k) (sym (ap are_apart (map-append number ks (k ∷ []))) ∙ h))).0

        rest : (o : Option InboundStream) → o ≡ option_or o None
        rest None = refl
        rest (Some l) = refl

        by : (b : Bool) → (number k == t) ≡ b
            → (if b then Some k else find (has_number t) ks) ≡ option_or (find (has_number t) ks) (if b then Some k else None)
        by true e =
            sym (ap (λ o. option_or o (Some k)) (not-found t ks (ap (λ n. list_any (λ j. j == n) (numbers_of ks)) (sym (same-is (number k) t e)) ∙ gone)))
        by false e = rest (find (has_number t) ks)

left-found : (s t : ℕ) → (s == t) ≡ false → (ls : List InboundStream)
    → find (has_number t) (filter (λ l. not (has_number s l)) ls) ≡ find (has_number t) ls
left-found s t differ [] = refl
left-found s t differ (l ∷ ls) = by (number l == s) refl (left-found s t differ ls)
  where
    by : (b : Bool) → (number l == s) ≡ b → find (has_number t) (filter (λ l. not (has_number s l)) ls) ≡ find (has_number t) ls
        → find (has_number t) (if not b then l ∷ filter (λ l. not (has_number s l)) ls else filter (λ l. not (has_number s l)) ls)
        ≡ (if number l == t then Some l else find (has_number t) ls)
    by true h ih =
        let off : (number l == t) ≡ false = fails (number l == t)
        (λ z. not_both (sym differ ∙ eq-eqb s t (sym (same-is (number l) s h) ∙ same-is (number l) t z))) in
        ih ∙ sym (ap (λ b. if b then Some l else find (has_number t) ls) off)
    by false h ih = ap (λ o. if number l == t then Some l else o) ih

pub others-left : (s t : ℕ) → (s == t) ≡ false → (ls : List InboundStream) → are_apart (numbers_of ls) ≡ true
    → find (has_number t) (swapped_out (has_number s) ls) ≡ find (has_number t) ls
others-left s t differ [] h = refl
others-left s t differ (l ∷ ls) h = by (number l == s) refl (others-left s t differ ls parts.1)
  where
    left : List InboundStream
    left = filter (λ l. not (has_number s l)) ls

    parts : (list_any (λ k. k == number l) (numbers_of ls) ≡ false) × (are_apart (numbers_of ls) ≡ true)
    parts = apart-of (number l) (numbers_of ls) h

    by : (b : Bool) → (number l == s) ≡ b → find (has_number t) (swapped_out (has_number s) ls) ≡ find (has_number t) ls
        → find (has_number t) (if b then slice_rotate_right left 1 else l ∷ swapped_out (has_number s) ls)
        ≡ (if number l == t then Some l else find (has_number t) ls)
    by true h ih =
        let off : (number l == t) ≡ false = fails (number l == t)
        (λ z. not_both (sym differ ∙ eq-eqb s t (sym (same-is (number l) s h) ∙ same-is (number l) t z))) in
        found-front t left (kept-apart (λ l. not (has_number s l)) ls parts.1) ∙ left-found s t differ ls
        ∙ sym (ap (λ b. if b then Some l else find (has_number t) ls) off)
    by false h ih = ap (λ o. if number l == t then Some l else o) ih

-- ## In every run numbers are apart

dropped-numbers : (tsn : ℕ) (r : Reception) → numbers_of (after_discard tsn r).streams ≡ numbers_of r.streams
dropped-numbers tsn r = by (has_come tsn (filter_of r))
  where
    by : (b : Bool) → numbers_of (if b then repeat_tsn tsn r else with_filter (with_tsn tsn (filter_of r)) r).streams ≡ numbers_of r.streams
    by true = refl
    by false = refl

skipped-numbers : (f : ForwardTsn) (r : Reception) → numbers_of (after_forward_tsn f r).streams ≡ numbers_of r.streams
skipped-numbers f r = by (is_stale f r) (after-numbers f r)
  where
    by : (b : Bool) → numbers_of (after_forward f r).streams ≡ numbers_of r.streams
        → numbers_of (if b then r else without_incomplete f.new_cumulative_tsn (after_forward f r)).streams ≡ numbers_of r.streams
    by true h = refl
    by false h = stays-mapped number (incomplete_forwarded f.new_cumulative_tsn) (λ l. refl) (after_forward f r).streams ∙ h

-- no call makes two streams of one number
pub stays-apart : (c : Call) (old new : Reception) → Makes c old new → are_apart (numbers_of old.streams) ≡ true → are_apart (numbers_of new.streams) ≡ true
stays-apart c old new made apart = by c made
  where
    numbers : Reception → List ℕ
    numbers r = numbers_of r.streams

    same : numbers new ≡ numbers old → are_apart (numbers new) ≡ true
    same e = ap are_apart e ∙ apart

    by : (c : Call) → Makes c old new → are_apart (numbers new) ≡ true
    by (opens s) made = ap (λ r. are_apart (numbers r)) made.1 ∙ more-apart old.streams (new_stream s old.max_message_size) apart made.0
    by (closes s) made = ap (λ r. are_apart (numbers r)) made ∙ closed-apart s old.streams apart
    by (takes c a) made = same (takes-keeps c a old new made).0
    by (discards t) made = same (ap numbers made ∙ dropped-numbers t old)
    by reports made = same (ap numbers made)
    by (reports_within b) made = same (ap numbers made)
    by (reads s) made = same (ap numbers made ∙ read-numbers s old)
    by (resets s last) made = same (ap numbers made ∙ stays-changed number (stream_reset last) (λ l. refl) (has_number s) old.streams)
    by (forwards f) made = same (ap numbers made ∙ skipped-numbers f old)
    by (forwards_by_names f) made = same (ap numbers made ∙ after-numbers f old)
