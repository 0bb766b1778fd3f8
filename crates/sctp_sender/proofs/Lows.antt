-- Streams whose buffered amount falls to its low threshold.
use Rattle.sctp_sender.proofs.Names.{◌≡◌, ℕ, zero, suc, ◌+◌, ◌-◌, ◌<◌, ◌≤◌, Bool, true, false, List, [], ◌∷◌, ◌++◌, length, set, take, drop, get_or}
use Rattle.sctp_sender.proofs.Names.{append_assoc, Option, Some, None, refl, ap, sym, subst, ◌∙◌, arith, if◌then◌else◌, ◌==◌, ◌&&◌, ◌||◌, not, nat_lt, nat_le}
use Rattle.sctp_sender.proofs.Names.{option_map, find, count_by, list_any, sum_by, nat_tests, drop_more, sum_by-cons, change_where, same-is, not_both}
use Rattle.sctp_sender.proofs.Names.{OutboundStream, Released, AbandonedMessage, after_leaving, after_expiries, after_releases, has_number, less_by, number}
use Rattle.sctp_sender.proofs.Names.{falls_in, falls_on, tells_message_low, with_lows, with_message_lows}
use Rattle.std.specs.Prelude.{slice_get}
use Rattle.std.proofs.lemmas.List.{drop-set-lt, take_more_set}
use Rattle.sctp_sender.specs.Thresholds.{is_above, tells_low}

-- ## The stream that is found after a change

module _ (f : OutboundStream → OutboundStream) (keeps : (l : OutboundStream) → number (f l) ≡ number l) (s : ℕ) where
  found-same : (ls : List OutboundStream) → find (has_number s) (change_where (has_number s) f ls) ≡ option_map f (find (has_number s) ls)
  found-same [] = refl
  found-same (l ∷ ls) = by (has_number s l) refl (found-same ls)
    where
      by : (b : Bool) → has_number s l ≡ b → find (has_number s) (change_where (has_number s) f ls) ≡ option_map f (find (has_number s) ls)
          → find (has_number s) ((if b then f l else l) ∷ change_where (has_number s) f ls) ≡ option_map f (if b then Some l else find (has_number s) ls)
      by true e ih = ap (λ b. if b then Some (f l) else find (has_number s) (change_where (has_number s) f ls)) (ap (λ n. n == s) (keeps l) ∙ e)
      by false e ih = ap (λ b. if b then Some l else find (has_number s) (change_where (has_number s) f ls)) e ∙ ih

  found-other : (t : ℕ) → (t == s) ≡ false → (ls : List OutboundStream) → find (has_number s) (change_where (has_number t) f ls) ≡ find (has_number s) ls
  found-other t ne [] = refl
  found-other t ne (l ∷ ls) = by (has_number t l) refl (found-other t ne ls)
    where
      by : (b : Bool) → has_number t l ≡ b → find (has_number s) (change_where (has_number t) f ls) ≡ find (has_number s) ls
          → find (has_number s) ((if b then f l else l) ∷ change_where (has_number t) f ls) ≡ find (has_number s) (l ∷ ls)
      by true e ih =
          let no : has_number s l ≡ false = ap (λ n. n == s) (same-is l.stream_identifier t e) ∙ ne in
          ap (λ b. if b then Some (f l) else find (has_number s) (change_where (has_number t) f ls)) (ap (λ n. n == s) (keeps l) ∙ no) ∙ ih
          ∙ sym (ap (λ b. if b then Some l else find (has_number s) ls) no)
      by false e ih = ap (λ o. if has_number s l then Some l else o) ih

-- ## One release

falls : (low a n : ℕ) → (nat_lt 0 n && (nat_lt low a && nat_le (a - n) low)) ≡ (nat_lt low a && not (nat_lt low (a - n)))
falls low a n = grind (arith, nat_tests)

falls-above : (o : Option OutboundStream) (n : ℕ) → falls_in o n ≡ (is_above o && not (is_above (option_map (less_by n) o)))
falls-above None n = refl
falls-above (Some l) n = falls l.buffered_amount_low l.buffered_amount n

lower : (low a n : ℕ) → nat_lt low (a - n) ≡ true → nat_lt low a ≡ true
lower low a n e = grind (arith, nat_tests)

above-before : (o : Option OutboundStream) (n : ℕ) → is_above (option_map (less_by n) o) ≡ true → is_above o ≡ true
above-before None n e = e
above-before (Some l) n e = lower l.buffered_amount_low l.buffered_amount n e

expiry-above : (b : Bool) (m n : ℕ) (o : Option OutboundStream) → is_above (option_map (after_expiries b m n) o) ≡ is_above (option_map (less_by n) o)
expiry-above b m n None = refl
expiry-above true m n (Some l) = refl
expiry-above false m n (Some l) = refl

pub expiry-number : (b : Bool) (m n : ℕ) (l : OutboundStream) → number (after_expiries b m n l) ≡ number l
expiry-number true m n l = refl
expiry-number false m n l = refl

-- what a release of one stream tells
pub release-falls : (s n : ℕ) (ls : List OutboundStream)
    → falls_on s n ls ≡ (is_above (find (has_number s) ls) && not (is_above (find (has_number s) (change_where (has_number s) (less_by n) ls))))
release-falls s n ls =
    falls-above (find (has_number s) ls) n
    ∙ ap (λ o. is_above (find (has_number s) ls) && not (is_above o)) (sym (found-same (less_by n) (λ l. refl) s ls))

pub expiry-falls : (s : ℕ) (b : Bool) (m n : ℕ) (ls : List OutboundStream)
    → falls_on s n ls ≡ (is_above (find (has_number s) ls) && not (is_above (find (has_number s) (change_where (has_number s) (after_expiries b m n) ls))))
expiry-falls s b m n ls =
    falls-above (find (has_number s) ls) n
    ∙ ap (λ a. is_above (find (has_number s) ls) && not a)
    (sym (expiry-above b m n (find (has_number s) ls)) ∙ ap is_above (sym (found-same (after_expiries b m n) (expiry-number b m n) s ls)))

-- ## One release after another

abbrev one_if : Bool → ℕ
one_if b = if b then 1 else 0

abbrev one_less : ℕ → ℕ → List OutboundStream → List OutboundStream
one_less t n ls = change_where (has_number t) (less_by n) ls

module _ (s : ℕ) where
  abbrev above : List OutboundStream → Bool
  above ls = is_above (find (has_number s) ls)

  still-above : (t n : ℕ) (ls : List OutboundStream) → above (one_less t n ls) ≡ true → above ls ≡ true
  still-above t n ls = by (t == s) refl
    where
      by : (b : Bool) → (t == s) ≡ b → above (one_less t n ls) ≡ true → above ls ≡ true
      by true e h = above-before (find (has_number s) ls) n (ap is_above (sym (found-same (less_by n) (λ l. refl) s ls))
          ∙ ap (λ u. above (one_less u n ls)) (sym (same-is t s e)) ∙ h)
      by false e h = ap is_above (sym (found-other (less_by n) (λ l. refl) s t e ls)) ∙ h

  none : (b : Bool) → 0 ≡ one_if (b && not b)
  none true = refl
  none false = refl

  answered : (t n : ℕ) (ls : List OutboundStream) → one_if (t == s && falls_on t n ls) ≡ one_if (above ls && not (above (one_less t n ls)))
  answered t n ls = by (t == s) refl
    where
      by : (b : Bool) → (t == s) ≡ b → one_if (b && falls_on t n ls) ≡ one_if (above ls && not (above (one_less t n ls)))
      by true e =
          subst (λ u. one_if (falls_on u n ls) ≡ one_if (above ls && not (above (one_less u n ls)))) (sym (same-is t s e)) (ap one_if (release-falls s n ls))
      by false e = none (above ls) ∙ ap (λ b. one_if (above ls && not b)) (ap is_above (sym (found-other (less_by n) (λ l. refl) s t e ls)))

  joined : (a b c : Bool) → (b ≡ true → a ≡ true) → (c ≡ true → b ≡ true) → one_if (a && not b) + one_if (b && not c) ≡ one_if (a && not c)
  joined true true true p q = refl
  joined true true false p q = refl
  joined true false true p q = absurd (not_both (q refl))
  joined true false false p q = refl
  joined false true c p q = absurd (not_both (p refl))
  joined false false true p q = refl
  joined false false false p q = refl

  -- ## Chunks

  releases-above : (rs : List Released) (ls : List OutboundStream) → above (after_releases rs ls) ≡ true → above ls ≡ true
  releases-above [] ls e = e
  releases-above (r ∷ rs) ls e = still-above r.stream r.bytes ls (releases-above rs (one_less r.stream r.bytes ls) e)

  pub count-lows : (rs : List Released) (ls : List OutboundStream)
      → count_by (tells_low s) (with_lows rs ls) ≡ one_if (above ls && not (above (after_releases rs ls)))
  count-lows [] ls = none (above ls)
  count-lows (r ∷ rs) ls =
      let more = one_less r.stream r.bytes ls in
      sum_by-cons (λ x. one_if (tells_low s x)) (record r { is_low = falls_on r.stream r.bytes ls }) (with_lows rs more)
      ∙ ap (λ n. n + count_by (tells_low s) (with_lows rs more)) (answered r.stream r.bytes ls)
      ∙ ap (λ n. one_if (above ls && not (above more)) + n) (count-lows rs more)
      ∙ joined (above ls) (above more) (above (after_releases rs more)) (still-above r.stream r.bytes ls) (releases-above rs more)

  -- ## Messages

  leaving-above : (gs : List AbandonedMessage) (ls : List OutboundStream) → above (after_leaving gs ls) ≡ true → above ls ≡ true
  leaving-above [] ls e = e
  leaving-above (g ∷ gs) ls e = still-above g.stream g.bytes ls (leaving-above gs (one_less g.stream g.bytes ls) e)

  pub count-message-lows : (gs : List AbandonedMessage) (ls : List OutboundStream)
      → count_by (tells_message_low s) (with_message_lows gs ls) ≡ one_if (above ls && not (above (after_leaving gs ls)))
  count-message-lows [] ls = none (above ls)
  count-message-lows (g ∷ gs) ls =
      let more = one_less g.stream g.bytes ls in
      sum_by-cons (λ x. one_if (tells_message_low s x)) (record g { is_low = falls_on g.stream g.bytes ls }) (with_message_lows gs more)
      ∙ ap (λ n. n + count_by (tells_message_low s) (with_message_lows gs more)) (answered g.stream g.bytes ls)
      ∙ ap (λ n. one_if (above ls && not (above more)) + n) (count-message-lows gs more)
      ∙ joined (above ls) (above more) (above (after_leaving gs more)) (still-above g.stream g.bytes ls) (leaving-above gs more)

-- ## What the counts say

at-most-one : (b : Bool) → one_if b ≤ 1
at-most-one true = omega arith
at-most-one false = omega arith

module _ {A : Type 0} (p : A → Bool) where
  any-counted : (xs : List A) → list_any p xs ≡ nat_lt 0 (count_by p xs)
  any-counted [] = refl
  any-counted (x ∷ xs) = by (p x) (any-counted xs) ∙ ap (nat_lt 0) (sym (sum_by-cons (λ y. one_if (p y)) x xs))
    where
      by : (b : Bool) → list_any p xs ≡ nat_lt 0 (count_by p xs) → (b || list_any p xs) ≡ nat_lt 0 (one_if b + count_by p xs)
      by true e = grind (arith, nat_tests)
      by false e = let z : count_by p xs ≡ 0 + count_by p xs = omega arith in e ∙ ap (nat_lt 0) z

  positive : (b : Bool) → nat_lt 0 (one_if b) ≡ b
  positive true = refl
  positive false = refl

  pub any-is : (xs : List A) (b : Bool) → count_by p xs ≡ one_if b → list_any p xs ≡ b
  any-is xs b e = any-counted xs ∙ ap (nat_lt 0) e ∙ positive b

  pub one-is : (xs : List A) (b : Bool) → count_by p xs ≡ one_if b → count_by p xs ≤ 1
  one-is xs b e = let most = at-most-one b in omega (arith, e, most)

-- ## What the calls tell

module _ (s : ℕ) (ls ms : List OutboundStream) where
  abbrev fallen : Bool
  fallen = above s ls && not (above s ms)

  pub release-answered : (n : ℕ) (b : Bool) → b ≡ falls_on s n ls → ms ≡ change_where (has_number s) (less_by n) ls → b ≡ fallen
  release-answered n b low less = low ∙ release-falls s n ls ∙ ap (λ ks. above s ls && not (above s ks)) (sym less)

  pub expiry-answered : (u : Bool) (m n : ℕ) (b : Bool) → b ≡ falls_on s n ls → ms ≡ change_where (has_number s) (after_expiries u m n) ls → b ≡ fallen
  expiry-answered u m n b low less = low ∙ expiry-falls s u m n ls ∙ ap (λ ks. above s ls && not (above s ks)) (sym less)

  module _ (rs xs : List Released) (lows : xs ≡ with_lows rs ls) (less : ms ≡ after_releases rs ls) where
    counted : count_by (tells_low s) xs ≡ one_if fallen
    counted = ap (count_by (tells_low s)) lows ∙ count-lows s rs ls ∙ ap (λ ks. one_if (above s ls && not (above s ks))) (sym less)

    pub chunks-tell : list_any (tells_low s) xs ≡ fallen
    chunks-tell = any-is (tells_low s) xs fallen counted

    pub one-chunk-tells : count_by (tells_low s) xs ≤ 1
    one-chunk-tells = one-is (tells_low s) xs fallen counted

  module _ (gs xs : List AbandonedMessage) (lows : xs ≡ with_message_lows gs ls) (less : ms ≡ after_leaving gs ls) where
    messages-counted : count_by (tells_message_low s) xs ≡ one_if fallen
    messages-counted = ap (count_by (tells_message_low s)) lows ∙ count-message-lows s gs ls ∙ ap (λ ks. one_if (above s ls && not (above s ks))) (sym less)

    pub messages-tell : list_any (tells_message_low s) xs ≡ fallen
    messages-tell = any-is (tells_message_low s) xs fallen messages-counted

    pub one-message-tells : count_by (tells_message_low s) xs ≤ 1
    one-message-tells = one-is (tells_message_low s) xs fallen messages-counted

-- ## One place more of an answer

module _ (i : ℕ) (ls : List OutboundStream) where
  -- what stands before a place, and what is told from there on
  pub next-low : (rs : List Released) (r : Released) (b : Bool) → i < length rs → r ≡ get_or rs i r → b ≡ falls_on r.stream r.bytes ls
      → let x : Released = record r { is_low = b } in
      take i rs ++ with_lows (drop i rs) ls ≡ take (i + 1) (set rs i x) ++ with_lows (drop (i + 1) (set rs i x)) (one_less r.stream r.bytes ls)
  next-low rs r b lt is low =
      let x : Released = record r { is_low = b } in
      let more = one_less r.stream r.bytes ls in
      let here : drop i rs ≡ r ∷ drop (i + 1) rs = drop_more rs i r lt ∙ ap (λ y. y ∷ drop (i + 1) rs) (sym is) in
      let rest : drop (i + 1) (set rs i x) ≡ drop (i + 1) rs = drop-set-lt (i + 1) rs i x (omega arith) in
      ap (λ ys. take i rs ++ with_lows ys ls) here
      ∙ ap (λ k. let y : Released = record r { is_low = k } in take i rs ++ y ∷ with_lows (drop (i + 1) rs) more) (sym low)
      ∙ sym (append_assoc (take i rs) (x ∷ []) (with_lows (drop (i + 1) rs) more))
      ∙ ap (λ ys. ys ++ with_lows (drop (i + 1) rs) more) (sym (take_more_set rs i x lt))
      ∙ ap (λ ys. take (i + 1) (set rs i x) ++ with_lows ys more) (sym rest)

  pub next-less : (rs : List Released) (r : Released) (b : Bool) → i < length rs → r ≡ get_or rs i r → let x : Released = record r { is_low = b } in
      after_releases (drop i rs) ls ≡ after_releases (drop (i + 1) (set rs i x)) (one_less r.stream r.bytes ls)
  next-less rs r b lt is =
      let x : Released = record r { is_low = b } in
      ap (λ ys. after_releases ys ls) (drop_more rs i r lt ∙ ap (λ y. y ∷ drop (i + 1) rs) (sym is))
      ∙ ap (λ ys. after_releases ys (one_less r.stream r.bytes ls)) (sym (drop-set-lt (i + 1) rs i x (omega arith)))

  pub next-message-low : (gs : List AbandonedMessage) (g : AbandonedMessage) (b : Bool) → i < length gs → g ≡ get_or gs i g → b ≡ falls_on g.stream g.bytes ls
      → let x : AbandonedMessage = record g { is_low = b } in
      take i gs ++ with_message_lows (drop i gs) ls ≡ take (i + 1) (set gs i x) ++ with_message_lows (drop (i + 1) (set gs i x)) (one_less g.stream g.bytes ls)
  next-message-low gs g b lt is low =
      let x : AbandonedMessage = record g { is_low = b } in
      let more = one_less g.stream g.bytes ls in
      let here : drop i gs ≡ g ∷ drop (i + 1) gs = drop_more gs i g lt ∙ ap (λ y. y ∷ drop (i + 1) gs) (sym is) in
      let rest : drop (i + 1) (set gs i x) ≡ drop (i + 1) gs = drop-set-lt (i + 1) gs i x (omega arith) in
      ap (λ ys. take i gs ++ with_message_lows ys ls) here
      ∙ ap (λ k. let y : AbandonedMessage = record g { is_low = k } in take i gs ++ y ∷ with_message_lows (drop (i + 1) gs) more) (sym low)
      ∙ sym (append_assoc (take i gs) (x ∷ []) (with_message_lows (drop (i + 1) gs) more))
      ∙ ap (λ ys. ys ++ with_message_lows (drop (i + 1) gs) more) (sym (take_more_set gs i x lt))
      ∙ ap (λ ys. take (i + 1) (set gs i x) ++ with_message_lows ys more) (sym rest)

  pub next-message-less : (gs : List AbandonedMessage) (g : AbandonedMessage) (b : Bool) → i < length gs → g ≡ get_or gs i g → let x : AbandonedMessage =
      record g { is_low = b } in after_leaving (drop i gs) ls ≡ after_leaving (drop (i + 1) (set gs i x)) (one_less g.stream g.bytes ls)
  next-message-less gs g b lt is =
      let x : AbandonedMessage = record g { is_low = b } in
      ap (λ ys. after_leaving ys ls) (drop_more gs i g lt ∙ ap (λ y. y ∷ drop (i + 1) gs) (sym is))
      ∙ ap (λ ys. after_leaving ys (one_less g.stream g.bytes ls)) (sym (drop-set-lt (i + 1) gs i x (omega arith)))

-- ## The bytes stay

lows-bytes : (rs : List Released) (ls : List OutboundStream) → sum_by (λ r. r.bytes) (with_lows rs ls) ≡ sum_by (λ r. r.bytes) rs
lows-bytes [] ls = refl
lows-bytes (r ∷ rs) ls =
    sum_by-cons (λ (x : Released). x.bytes) (record r { is_low = falls_on r.stream r.bytes ls }) (with_lows rs (one_less r.stream r.bytes ls))
    ∙ ap (λ n. r.bytes + n) (lows-bytes rs (one_less r.stream r.bytes ls)) ∙ sym (sum_by-cons (λ (x : Released). x.bytes) r rs)

message-lows-bytes : (gs : List AbandonedMessage) (ls : List OutboundStream) → sum_by (λ g. g.bytes) (with_message_lows gs ls) ≡ sum_by (λ g. g.bytes) gs
message-lows-bytes [] ls = refl
message-lows-bytes (g ∷ gs) ls =
    sum_by-cons (λ (x : AbandonedMessage). x.bytes) (record g { is_low = falls_on g.stream g.bytes ls }) (with_message_lows gs (one_less g.stream g.bytes ls))
    ∙ ap (λ n. g.bytes + n) (message-lows-bytes gs (one_less g.stream g.bytes ls)) ∙ sym (sum_by-cons (λ (x : AbandonedMessage). x.bytes) g gs)

module _ (old new : ℕ) (ls : List OutboundStream) where
  pub released-same : (rs xs : List Released) → xs ≡ with_lows rs ls → new + sum_by (λ r. r.bytes) rs ≡ old → new + sum_by (λ r. r.bytes) xs ≡ old
  released-same rs xs lows e = ap (λ (ys : List Released). new + sum_by (λ r. r.bytes) ys) lows ∙ ap (λ n. new + n) (lows-bytes rs ls) ∙ e

  pub messages-released-same : (gs xs : List AbandonedMessage) → xs ≡ with_message_lows gs ls → new + sum_by (λ g. g.bytes) gs ≡ old
      → new + sum_by (λ g. g.bytes) xs ≡ old
  messages-released-same gs xs lows e = ap (λ (ys : List AbandonedMessage). new + sum_by (λ g. g.bytes) ys) lows ∙ ap (λ n. new + n) (message-lows-bytes gs ls)
      ∙ e

-- ## The TSNs stay

length-lows : (rs : List Released) (ls : List OutboundStream) → length (with_lows rs ls) ≡ length rs
length-lows [] ls = refl
length-lows (r ∷ rs) ls = ap (λ n. suc n) (length-lows rs (one_less r.stream r.bytes ls))

tsn-at : (rs : List Released) (ls : List OutboundStream) (k : ℕ)
    → option_map (λ (r : Released). r.tsn) (slice_get (with_lows rs ls) k) ≡ option_map (λ (r : Released). r.tsn) (slice_get rs k)
tsn-at [] ls k = refl
tsn-at (r ∷ rs) ls zero = refl
tsn-at (r ∷ rs) ls (suc k) = tsn-at rs (one_less r.stream r.bytes ls) k

-- the last TSN of an answer
pub last-tsn : (rs : List Released) (ls : List OutboundStream) → option_map (λ (r : Released). r.tsn)
    (slice_get (with_lows rs ls) (length (with_lows rs ls) - 1)) ≡ option_map (λ (r : Released). r.tsn) (slice_get rs (length rs - 1))
last-tsn rs ls = ap (λ n. option_map (λ (r : Released). r.tsn) (slice_get (with_lows rs ls) (n - 1))) (length-lows rs ls) ∙ tsn-at rs ls (length rs - 1)
