-- What the sender does leaves the receiver's queues as they are.
use Rattle.sctp_model.proofs.Names.{◌≡◌, ℕ, zero, suc, ◌+◌, ◌-◌, ◌<◌, ◌≤◌, ◌%◌, ◌^◌, Bool, true, false, List, [], ◌∷◌, ◌++◌, length, map, refl, ap, sym, ◌∙◌}
use Rattle.sctp_model.proofs.Names.{inl, inr, arith, append-nil, length-append, ◌⊎◌, if◌then◌else◌, ◌==◌, ◌&&◌, ◌||◌, not, nat_le, nat_lt, list_any, cases_lt}
use Rattle.sctp_model.proofs.Names.{numbers_where, unbroken, kept-same, map-kept-same, unbroken-same, same-yes, same-is, or-left, or-right, and-none, fails}
use Rattle.sctp_model.proofs.Names.{kept-short, Setup, LinkRecord, message_at, message_of, stream_of, is_ordered_on, is_unordered_on, index_of, ssn_of}
use Rattle.sctp_model.proofs.Names.{has_fragment, slots_of, sent_of, fragment_count, tsn_of, arrived_at, arrived_of, has_arrived, is_complete_message}
use Rattle.sctp_model.proofs.Names.{is_unread, is_held, next_of, cumulative, LogEntry, IsValid, chunk_at, set_of, complete_set_of, is_unassembled, filter_of}
use Rattle.sctp_model.proofs.Names.{ordered_sets, complete_sets, unassembled_chunks, nat_tests}
use Rattle.sctp_model.proofs.refinement.arriving.UnorderedStep.{kept-split}
use Rattle.sctp_model.proofs.sender.Shape.{shape}
use Rattle.sctp_model.proofs.sender.SenderRun.{Consistent}
use Rattle.sctp_model.proofs.sender.Moves.{Quiet}
use Rattle.sctp_model.proofs.sender.Network.{chunk-stays}
use Rattle.sctp_model.proofs.receiver.Arrivals.{arrived-beyond, cumulative-le}
use Rattle.sctp_model.proofs.receiver.Names.{on-grown}
use Rattle.sctp_model.proofs.sender.Slots.{sent-made}
use Rattle.sctp_model.proofs.receiver.View.{view}
use Rattle.sctp_model.proofs.receiver.Known.{Still, still-of, come-still, complete-still, come-sent}
use Rattle.sctp_model.proofs.receiver.Ordered
use Rattle.sctp_model.proofs.receiver.Received.{Received}
use Rattle.sctp_model.specs.refinement.Holds.{reassembly_of}
use Rattle.sctp_model.proofs.refinement.reading.Line
use Rattle.sctp_model.proofs.refinement.skipping.SkipStep
use Rattle.sctp_model.proofs.refinement.reading.Taken.{held}

unbroken-short : (p : ℕ → Bool) (from count total : ℕ) → count ≤ total → p (from + count) ≡ false → unbroken p from total ≡ unbroken p from count
unbroken-short p from zero zero le e = refl
unbroken-short p from zero (suc total) le e = ap (λ b. if b then unbroken p (from + 1) total + 1 else 0) (ap p (let y : from ≡ from + 0 = omega arith in y) ∙ e)
unbroken-short p from (suc count) zero le e = absurd (omega arith)
unbroken-short p from (suc count) (suc total) le e = ap (λ k. if p from then k + 1 else 0)
    (unbroken-short p (from + 1) count total (omega arith) (ap p (let y : from + 1 + count ≡ from + suc count = omega arith in y) ∙ e))

module _ (setup : Setup) (w v : LinkRecord) (log : List LogEntry) (g : Consistent setup w) (g' : Consistent setup v) (q : Quiet w v) (r : Received w log)
    (valid : IsValid w) where
  still : Still (view w) (view v)
  still = still-of setup w v g g' q

  arrived-none : (p : ℕ) → length w.slots ≤ p → arrived_at v p ≡ false
  arrived-none p le = q.arrived p ∙ arrived-beyond w p le

  slots-le : length w.slots ≤ length v.slots
  slots-le = q.grows.slots

  stream-same : (s : ℕ) → stream_of v s ≡ stream_of w s
  stream-same s = ap (λ rs. stream_of (record w { streams = rs }) s) q.streams

  -- a list over slots that have arrived
  over-slots : {A : Type 0} (f h : ℕ → A) (t u : ℕ → Bool) → ((p : ℕ) → p < length w.slots → t p ≡ u p) → ((p : ℕ) → length w.slots ≤ p → t p ≡ false)
      → ((p : ℕ) → p < length w.slots → f p ≡ h p) → map f (numbers_where t 0 (length v.slots)) ≡ map h (numbers_where u 0 (length w.slots))
  over-slots f h t u same none values =
      ap (map f) (kept-short t 0 (length w.slots) (length v.slots - length w.slots) (length v.slots) (omega (arith, slots-le)) (λ k a b. none k (omega arith)))
      ∙ map-kept-same f h t u 0 (length w.slots) (λ k a b. same k (omega arith)) (λ k a b e. values k (omega arith))

  chunk-same : (p : ℕ) → p < length w.slots → chunk_at v p ≡ chunk_at w p
  chunk-same p lt = chunk-stays w v p g.sender (record { setup = q.setup; network = q.network; grows = q.grows }) lt

  has-same : (n p : ℕ) → p < length w.slots → has_fragment v n p ≡ has_fragment w n p
  has-same n p lt = ap (λ s. (s.message == n) && not s.is_terminal_chunk) (q.grows.slot p lt)

  come-chunks : (n : ℕ) → map (chunk_at v) (numbers_where (λ p. has_fragment v n p && arrived_at v p) 0 (length v.slots)) ≡ map (chunk_at w)
      (numbers_where (λ p. has_fragment w n p && arrived_at w p) 0 (length w.slots))
  come-chunks n = over-slots (chunk_at v) (chunk_at w) (λ p. has_fragment v n p && arrived_at v p) (λ p. has_fragment w n p && arrived_at w p)
      (λ p lt. ap (λ b. b && arrived_at v p) (has-same n p lt) ∙ ap (λ b. has_fragment w n p && b) (q.arrived p))
      (λ p le. ap (λ b. has_fragment v n p && b) (arrived-none p le) ∙ and-none (has_fragment v n p))
      chunk-same

  -- ## What is held

  made : (n : ℕ) → 0 < sent_of w n → n < length w.messages
  made n pos = sent-made (shape w) n g.sender pos

  held-parts : (s k : ℕ) → 0 < arrived_of w k → is_held v s k ≡ is_held w s k
  held-parts s k some =
      let pos : 0 < sent_of w k = omega (arith, some, come-sent (view w) k) in
      let lt = made k pos in
      cc (
        on-grown (shape w) (shape v) g.sender g'.sender q.grows s k pos,
        q.read k lt,
        come-still (view w) (view v) still k,
        complete-still (view w) (view v) still k lt,
        stream-same s,
        by (is_ordered_on w s k) refl pos,
      )
    where
      by : (b : Bool) → is_ordered_on w s k ≡ b → 0 < sent_of w k
          → (b && (is_unread w k && (nat_lt 0 (arrived_of w k) && (is_complete_message w k || nat_le (stream_of w s).named (index_of v k)))))
          ≡ (b && (is_unread w k && (nat_lt 0 (arrived_of w k) && (is_complete_message w k || nat_le (stream_of w s).named (index_of w k)))))
      by true e pos = cc (q.grows.same_index k pos (Line.on-ordered w s k e))
      by false e pos = refl

  held-none : (u : LinkRecord) (s k : ℕ) → arrived_of u k ≡ 0 → is_held u s k ≡ false
  held-none u s k z = fails (is_held u s k) (λ h. omega (arith, (held u s k h).some, z))

  held-same : (s k : ℕ) → is_held v s k ≡ is_held w s k
  held-same s k = by (cases_lt 0 (arrived_of w k))
    where
      by : (0 < arrived_of w k) ⊎ (arrived_of w k ≤ 0) → is_held v s k ≡ is_held w s k
      by (inl l) = held-parts s k l
      by (inr z) = held-none v s k (omega (arith, come-still (view w) (view v) still k)) ∙ sym (held-none w s k (omega arith))

  message-same : (n : ℕ) → n < length w.messages → ((message_at v n).stream ≡ (message_at w n).stream) × ((message_at v n).ordered ≡ (message_at w n).ordered)
      × ((message_at v n).ppi ≡ (message_at w n).ppi) × ((message_at v n).before ≡ (message_at w n).before)
  message-same n lt = let e = q.grows.message n lt in (ap (λ m. m.stream) e, ap (λ m. m.ordered) e, ap (λ m. m.ppi) e, ap (λ m. m.before) e)

  set-same : (s n : ℕ) → is_held w s n ≡ true → set_of v n ≡ set_of w n
  set-same s n h =
      let i = held w s n h in
      let pos : 0 < sent_of w n = omega (arith, i.some, come-sent (view w) n) in
      let m = message-same n (made n pos) in
      let ssn : ssn_of v n ≡ ssn_of w n =
      ap (λ b. (if b then index_of v n else (message_at v n).before) % 2 ^ 16) (m.1 ∙ Line.on-ordered w s n i.on)
      ∙ ap (λ j. j % 2 ^ 16) (q.grows.same_index n pos (Line.on-ordered w s n i.on))
      ∙ sym (ap (λ b. (if b then index_of w n else (message_at w n).before) % 2 ^ 16) (Line.on-ordered w s n i.on)) in
      cc (ssn, m.2, come-chunks n)

  pub sets-same : (s : ℕ) → ordered_sets v s ≡ ordered_sets w s
  sets-same s =
      ap (map (set_of v)) (kept-short (is_held v s) 0 (length w.messages) (length v.messages - length w.messages) (length v.messages) (let c = q.grows.count in
      omega (arith, c)) (λ k a b. held-same s k ∙ fails (is_held w s k) (λ h. absurd (omega (arith, Line.on-made w s k (held w s k h).on, a)))))
      ∙ map-kept-same (set_of v) (set_of w) (is_held v s) (is_held w s) 0 (length w.messages) (λ k a b. held-same s k)
      (λ k a b e. set-same s k (sym (held-same s k) ∙ e))

  -- ## Unassembled fragments

  pub unassembled-same : (s : ℕ) → unassembled_chunks v s ≡ unassembled_chunks w s
  unassembled-same s = over-slots (chunk_at v) (chunk_at w) (is_unassembled v s) (is_unassembled w s) same none chunk-same
    where
      none : (p : ℕ) → length w.slots ≤ p → is_unassembled v s p ≡ false
      none p le = cc (arrived-none p le)

      same : (p : ℕ) → p < length w.slots → is_unassembled v s p ≡ is_unassembled w s p
      same p lt =
          let n = message_of w p in
          let l = g.sender.made p lt in
          let m = message-same n l in
          ap (λ b. b && (nat_le v.skipped p && (is_unordered_on v s (message_of v p) && not (is_complete_message v (message_of v p))))) (q.arrived p)
          ∙ ap (λ k. arrived_at w p && (nat_le k p && (is_unordered_on v s (message_of v p) && not (is_complete_message v (message_of v p))))) q.skipped
          ∙ ap (λ x. arrived_at w p && (nat_le w.skipped p && (is_unordered_on v s x && not (is_complete_message v x))))
          (ap (λ x. x.message) (q.grows.slot p lt))
          ∙ ap (λ x. arrived_at w p && (nat_le w.skipped p && (((x == s) && not (message_at v n).ordered) && not (is_complete_message v n)))) m.0
          ∙ ap (λ x. arrived_at w p && (nat_le w.skipped p && ((((message_at w n).stream == s) && not x) && not (is_complete_message v n)))) m.1
          ∙ ap (λ x. arrived_at w p && (nat_le w.skipped p && (is_unordered_on w s n && not x))) (complete-still (view w) (view v) still n l)

  pub next-same : (s : ℕ) → next_of v s ≡ next_of w s
  next-same s = Ordered.next-still (view w) (view v) still r.ordered s

  -- ## Complete unordered messages

  -- a complete one was wholly sent, and gets no further slot
  slots-same : (n : ℕ) → n < length w.messages → has_arrived w n ≡ true → slots_of v n ≡ slots_of w n
  slots-same n lt all =
      let full : arrived_of w n ≡ fragment_count w n = same-is (arrived_of w n) (fragment_count w n) all in
      let sent-all : sent_of w n ≡ fragment_count w n = omega (arith, full, come-sent (view w) n, g.sender.within n lt) in
      let count : sent_of v n ≡ sent_of w n = q.grows.ended n (omega (arith, sent-all, g.sender.some n lt)) (inl sent-all) in
      let split : numbers_where (has_fragment v n) 0 (length v.slots) ≡ numbers_where (has_fragment v n) 0 (length w.slots) ++ numbers_where (has_fragment v n)
      (length w.slots) (length v.slots - length w.slots) = kept-split (has_fragment v n) 0 (length w.slots) (length v.slots - length w.slots)
      (length v.slots) (length w.slots) (omega (arith, slots-le)) (omega arith) in
      let old : numbers_where (has_fragment v n) 0 (length w.slots) ≡ slots_of w n = kept-same (has_fragment v n) (has_fragment w n) 0 (length w.slots)
      (λ k a b. has-same n k (omega arith)) in
      let joined : slots_of v n ≡ slots_of w n ++ numbers_where (has_fragment v n) (length w.slots) (length v.slots - length w.slots) = split
      ∙ ap (λ l. l ++ numbers_where (has_fragment v n) (length w.slots) (length v.slots - length w.slots)) old in
      let none : numbers_where (has_fragment v n) (length w.slots)
      (length v.slots - length w.slots) ≡ [] = nothing (numbers_where (has_fragment v n) (length w.slots) (length v.slots - length w.slots)) (omega (
        arith,
        count,
        ap length joined,
        length-append (slots_of w n) (numbers_where (has_fragment v n) (length w.slots) (length v.slots - length w.slots)),
      )) in
      cc (joined, none, append-nil (slots_of w n))
    where
      nothing : (l : List ℕ) → length l ≡ 0 → l ≡ []
      nothing [] e = refl
      nothing (x ∷ xs) e = absurd (omega arith)

  complete-set-same : (n : ℕ) → n < length w.messages → has_arrived w n ≡ true → complete_set_of v n ≡ complete_set_of w n
  complete-set-same n lt all =
      let m = message-same n lt in
      let chunks : map (chunk_at v) (slots_of v n) ≡ map (chunk_at w) (slots_of w n) =
      ap (map (chunk_at v)) (slots-same n lt all) ∙ map-kept-same (chunk_at v) (chunk_at w) (has_fragment w n) (has_fragment w n) 0 (length w.slots)
      (λ k a b. refl) (λ k a b e. chunk-same k (omega arith)) in
      cc

  pub complete-same : (s : ℕ) → complete_sets v s ≡ complete_sets w s
  complete-same s = ap (λ x. map (complete_set_of v) x.complete) (stream-same s) ∙ over (stream_of w s).complete (λ n e. e)
    where
      one : (n : ℕ) → list_any (λ k. k == n) (stream_of w s).complete ≡ true → complete_set_of v n ≡ complete_set_of w n
      one n e = grind (arith, nat_tests, complete-set-same)

      over : (l : List ℕ) → ((n : ℕ) → list_any (λ k. k == n) l ≡ true → list_any (λ k. k == n) (stream_of w s).complete ≡ true)
          → map (complete_set_of v) l ≡ map (complete_set_of w) l
      over [] h = refl
      over (n ∷ l) h =
          cc (one n (h n (or-left (n == n) (list_any (λ k. k == n) l) (same-yes n))), over l (λ k e. h k (or-right (n == k) (list_any (λ j. j == k) l) e)))

  -- the reassembly queues are as they were
  pub reassembly-quiet : (s : ℕ) → reassembly_of v s ≡ reassembly_of w s
  reassembly-quiet s = SkipStep.parts (next-same s) (sets-same s) (complete-same s) (unassembled-same s)

  -- ## The filter

  cumulative-quiet : cumulative v ≡ cumulative w
  cumulative-quiet =
      let short = valid.valid.skipped_made in
      ap (λ k. k + unbroken (arrived_at v) k (length v.slots - k)) q.skipped
      ∙ ap (λ c. w.skipped + c) (unbroken-short (arrived_at v) w.skipped (length w.slots - w.skipped) (length v.slots - w.skipped) (omega (arith, slots-le))
      (arrived-none (w.skipped + (length w.slots - w.skipped)) (omega (arith, short)))
      ∙ unbroken-same (arrived_at v) (arrived_at w) w.skipped (length w.slots - w.skipped) (λ k a b. q.arrived k))

  pub filter-quiet : filter_of v ≡ filter_of w
  filter-quiet =
      let c = cumulative w in
      let top = cumulative-le w valid.valid.skipped_made in
      let held' : map (tsn_of v) (numbers_where (arrived_at v) (cumulative v) (length v.slots - cumulative v)) ≡ map (tsn_of w)
      (numbers_where (arrived_at w) c (length w.slots - c)) =
      ap (λ k. map (tsn_of v) (numbers_where (arrived_at v) k (length v.slots - k))) cumulative-quiet
      ∙ ap (map (tsn_of v)) (kept-short (arrived_at v) c (length w.slots - c) (length v.slots - length w.slots) (length v.slots - c)
      (omega (arith, slots-le, top)) (λ k a b. arrived-none k (omega (arith, top, a))))
      ∙ map-kept-same (tsn_of v) (tsn_of w) (arrived_at v) (arrived_at w) c (length w.slots - c) (λ k a b. q.arrived k) (λ k a b e. tsn-same k) in
      cc (cumulative-quiet, q.setup, held', duplicates-same w.duplicates)
    where
      tsn-same : (k : ℕ) → tsn_of v k ≡ tsn_of w k
      tsn-same k = ap (λ t. (t.first + k) % 2 ^ 32) q.setup

      duplicates-same : (l : List ℕ) → map (tsn_of v) v.duplicates ≡ map (tsn_of w) w.duplicates
      duplicates-same l = grind (arith, nat_tests)
