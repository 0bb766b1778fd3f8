-- The ordered messages of a stream, by index, and the one that is expected next.
use Rattle.sctp_model.proofs.Names.{◌≡◌, ℕ, ◌+◌, ◌-◌, ◌<◌, ◌≤◌, ◌%◌, ◌^◌, Bool, true, false, length, drop, get_or, refl, ap, sym, ◌∙◌, inl, inr, arith}
use Rattle.sctp_model.proofs.Names.{zero-add, ◌⊎◌, ◌==◌, ◌&&◌, not, cases_lt, nat_tests, common_steps, numbers_where, leading, length-kept-lt, LinkRecord}
use Rattle.sctp_model.proofs.Names.{message_at, stream_of, is_ordered_on, index_of, ssn_of, ordered_on, no_message, next_of, not_both, both, leading-passes}
use Rattle.sctp_model.proofs.Names.{leading-stops, leading-le, leading-is, get-drop, length-dropped, kept-get, kept-place}

-- ## Indexes

pub on-stream : (w : LinkRecord) (s n : ℕ) → is_ordered_on w s n ≡ true → (message_at w n).stream ≡ s
on-stream w s n on = let h : ((message_at w n).stream == s) ≡ true =
    (both ((message_at w n).stream == s) ((message_at w n).ordered && not (message_at w n).expired) on).0 in grind (arith, nat_tests)

pub on-ordered : (w : LinkRecord) (s n : ℕ) → is_ordered_on w s n ≡ true → (message_at w n).ordered ≡ true
on-ordered w s n on = (both (message_at w n).ordered (not (message_at w n).expired)
    (both ((message_at w n).stream == s) ((message_at w n).ordered && not (message_at w n).expired) on).1).0

pub index_on : (w : LinkRecord) (s n : ℕ) → is_ordered_on w s n ≡ true → index_of w n ≡ length (numbers_where (is_ordered_on w s) 0 n)
index_on w s n on = rw (on-stream w s n on) refl

pub index-lt : (w : LinkRecord) (s j k : ℕ) → is_ordered_on w s j ≡ true → is_ordered_on w s k ≡ true → j < k → index_of w j < index_of w k
index-lt w s j k a b lt = rw (index_on w s j a, index_on w s k b) (length-kept-lt (is_ordered_on w s) 0 j k (rw (zero-add j) a) lt)

pub index-same : (w : LinkRecord) (s j k : ℕ) → is_ordered_on w s j ≡ true → is_ordered_on w s k ≡ true → index_of w j ≡ index_of w k → j ≡ k
index-same w s j k a b e = step (cases_lt j k) (cases_lt k j)
  where
    step : (j < k) ⊎ (k ≤ j) → (k < j) ⊎ (j ≤ k) → j ≡ k
    step (inl l) t = absurd (omega (arith, index-lt w s j k a b l))
    step (inr g) (inl l) = absurd (omega (arith, index-lt w s k j b a l))
    step (inr g) (inr h) = omega arith

pub ssn_on : (w : LinkRecord) (s n : ℕ) → is_ordered_on w s n ≡ true → ssn_of w n ≡ index_of w n % 2 ^ 16
ssn_on w s n on = rw (on-ordered w s n on) refl

pub on-made : (w : LinkRecord) (s n : ℕ) → is_ordered_on w s n ≡ true → n < length w.messages
on-made w s n on = step (cases_lt n (length w.messages))
  where
    step : (n < length w.messages) ⊎ (length w.messages ≤ n) → n < length w.messages
    step (inl l) = l
    step (inr g) = let e : message_at w n ≡ no_message = grind (arith, common_steps) in absurd (not_both (ap (λ m. m.ordered) (sym e) ∙ on-ordered w s n on))

pub line-at : (w : LinkRecord) (s n d : ℕ) → is_ordered_on w s n ≡ true → get_or (ordered_on w s) (index_of w n) d ≡ n
line-at w s n d on = rw (index_on w s n on) (kept-get (is_ordered_on w s) 0 (length w.messages) n n d (omega arith) (on-made w s n on) on)

pub index-short : (w : LinkRecord) (s n : ℕ) → is_ordered_on w s n ≡ true → index_of w n < length (ordered_on w s)
index-short w s n on = rw (index_on w s n on) (length-kept-lt (is_ordered_on w s) 0 n (length w.messages) (rw (zero-add n) on) (on-made w s n on))

-- ## The one expected next

abbrev pub read_at : LinkRecord → ℕ → Bool
read_at w n = (message_at w n).read

pub next_reads : (w : LinkRecord) (s k : ℕ) → is_ordered_on w s k ≡ true → (stream_of w s).named ≤ index_of w k → index_of w k < next_of w s
    → (message_at w k).read ≡ true
next_reads w s k on low high =
    let named = (stream_of w s).named in
    let line = ordered_on w s in
    let at : get_or (drop named line) (index_of w k - named) 0 ≡ k = get-drop named line (index_of w k - named) (index_of w k) 0 (omega arith)
    ∙ line-at w s k 0 on in
    rw at at (leading-passes (read_at w) (drop named line) (index_of w k - named) 0 (omega arith))

pub next_unread : (w : LinkRecord) (s k : ℕ) → is_ordered_on w s k ≡ true → index_of w k ≡ next_of w s → (message_at w k).read ≡ false
next_unread w s k on e =
    let named = (stream_of w s).named in
    let line = ordered_on w s in
    let count = length (leading (read_at w) (drop named line)) in
    let at : get_or (drop named line) count 0 ≡ k = get-drop named line count (index_of w k) 0 e ∙ line-at w s k 0 on in
    rw at at (leading-stops (read_at w) (drop named line) 0 (omega (arith, length-dropped named line, index-short w s k on, e)))

-- the next one is settled by what is read before it and what is not at it
pub next_is : (w : LinkRecord) (s x : ℕ) → (stream_of w s).named ≤ x → x ≤ length (ordered_on w s)
    → ((k : ℕ) → (stream_of w s).named ≤ k → k < x → (message_at w (get_or (ordered_on w s) k 0)).read ≡ true)
    → (x < length (ordered_on w s) → (message_at w (get_or (ordered_on w s) x 0)).read ≡ false) → next_of w s ≡ x
next_is w s x low high pass stop =
    let named = (stream_of w s).named in
    let line = ordered_on w s in
    let count : length (leading (read_at w) (drop named line)) ≡ x - named =
    leading-is (read_at w) (drop named line) (x - named) 0 (omega (arith, length-dropped named line))
    (λ j lt. rw (get-drop named line j (named + j) 0 refl) (pass (named + j) (omega arith) (omega arith)))
    (λ lt. rw (get-drop named line (x - named) x 0 (omega arith)) (stop (omega (arith, length-dropped named line)))) in
    omega (arith, count)

-- ## By place in the line

pub index-at : (w : LinkRecord) (s j : ℕ) → j < length (ordered_on w s)
    → (is_ordered_on w s (get_or (ordered_on w s) j 0) ≡ true) × (index_of w (get_or (ordered_on w s) j 0) ≡ j)
index-at w s j lt =
    let r = kept-place (is_ordered_on w s) 0 (length w.messages) j 0 lt in
    let k : get_or (ordered_on w s) j 0 ≡ r.k = omega (arith, r.is) in
    (r.passes, index_on w s (get_or (ordered_on w s) j 0) r.passes ∙ ap (λ n. length (numbers_where (is_ordered_on w s) 0 n)) k ∙ r.place_is)

pub next_le : (w : LinkRecord) (s : ℕ) → (stream_of w s).named ≤ length (ordered_on w s) → next_of w s ≤ length (ordered_on w s)
next_le w s made = omega (arith, length-dropped (stream_of w s).named (ordered_on w s), leading-le (read_at w) (drop (stream_of w s).named (ordered_on w s)))

pub next_passes : (w : LinkRecord) (s j : ℕ) → (stream_of w s).named ≤ j → j < next_of w s → (message_at w (get_or (ordered_on w s) j 0)).read ≡ true
next_passes w s j low high =
    let named = (stream_of w s).named in
    let line = ordered_on w s in
    let at : get_or (drop named line) (j - named) 0 ≡ get_or line j 0 = get-drop named line (j - named) j 0 (omega arith) in
    rw at at (leading-passes (read_at w) (drop named line) (j - named) 0 (omega arith))
