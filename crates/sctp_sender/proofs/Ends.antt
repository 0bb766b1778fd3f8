-- How far a FORWARD-TSN goes that ends with a message.
use Rattle.sctp_sender.proofs.Names.{◌≡◌, ℕ, zero, suc, ◌+◌, ◌-◌, ◌/◌, ◌<◌, ◌≤◌, ◌%◌, ◌^◌, Bool, true, false, List, [], ◌∷◌, ◌++◌, length, length-append}
use Rattle.sctp_sender.proofs.Names.{length-set, take, get_or, set, Option, Some, None, inl, inr, refl, ap, sym, subst, ◌∙◌, arith, if◌then◌else◌, ◌&&◌, find}
use Rattle.sctp_sender.proofs.Names.{nat_le, nat_lt, option_map, filter, cases_lt, false≢true, nat_tests, append-nil, those-more, ChunkPayloadData}
use Rattle.sctp_sender.proofs.Names.{ChunkForwardTsnStream, last_of, ends, following_tsn, has_tsn, Flight, IsContiguous, IsFirstPair, IsLastEnd, IsMore}
use Rattle.sctp_sender.proofs.Names.{IsNoPair, Name, advanced_ack_point, ahead, can_skip_to, is_named, is_pair_of, pair_of}
use Rattle.std.proofs.Common.{◌⊎◌}
use Rattle.sctp_sender.specs.Abandonment.{Fit, IsTooLong, ends_in, is_end}
use Rattle.sctp_sender.specs.Abandonment.{last_end, skip_end}
use Rattle.sctp_sender.proofs.NamedStreams.{added, last-push, renamed}
use Rattle.sctp_sender.proofs.Places.{place-is}
use Rattle.sctp_sender.proofs.Runs.{any_chunk, found-at, tsn-at}
use Rattle.sctp_sender.proofs.Skips.{can-go}

-- ## The last that ends a message

both : (a b : Bool) → (a && b) ≡ true → (a ≡ true) × (b ≡ true)
both true b h = (refl, h)
both false b h = absurd (false≢true h)

module _ (cs : List ChunkPayloadData) where
  one-more : (n : ℕ) (d : ChunkPayloadData) (b : Bool) → n < length cs → ends (get_or cs n d) ≡ b
      → filter ends (take (n + 1) cs) ≡ filter ends (take n cs) ++ (if b then get_or cs n d ∷ [] else [])
  one-more n d b lt e = those-more ends cs n d lt ∙ ap (λ k. filter ends (take n cs) ++ (if k then get_or cs n d ∷ [] else [])) e

  same-ends : (j end : ℕ) (d : ChunkPayloadData) → end + j ≤ length cs → ((i : ℕ) → end ≤ i → i < end + j → ends (get_or cs i d) ≡ false)
      → filter ends (take (end + j) cs) ≡ filter ends (take end cs)
  same-ends zero end d in' none = let same : end + 0 ≡ end = omega arith in ap (λ n. filter ends (take n cs)) same
  same-ends (suc j) end d in' none =
      let next : end + suc j ≡ end + j + 1 = omega arith in
      ap (λ n. filter ends (take n cs)) next ∙ one-more (end + j) d false (omega (arith, in')) (none (end + j) (omega arith) (omega arith))
      ∙ append-nil (filter ends (take (end + j) cs)) ∙ same-ends j end d (omega (arith, in')) (λ i le lt. none i le (omega (arith, lt)))

  up-to : (end count : ℕ) → IsLastEnd end count cs → count ≤ length cs → (d : ChunkPayloadData) → filter ends (take count cs) ≡ filter ends (take end cs)
  up-to end count is in' d =
      let sum : end + (count - end) ≡ count = omega (arith, is.within) in
      ap (λ n. filter ends (take n cs)) (sym sum)
      ∙ same-ends (count - end) end d (omega (arith, is.within, in')) (λ i le lt. let at : i + 1 - 1 ≡ i = omega arith in
      ap (λ k. ends (get_or cs k d)) (sym at) ∙ is.last (i + 1) d (omega (arith, le)) (omega (arith, lt, is.within)))

  pub last-none : (count : ℕ) → IsLastEnd 0 count cs → count ≤ length cs → (d : ChunkPayloadData) → last_of (filter ends (take count cs)) ≡ None
  last-none count is in' d = ap last_of (up-to 0 count is in' d)

  pub last-some : (end count : ℕ) → IsLastEnd end count cs → 0 < end → count ≤ length cs → (d : ChunkPayloadData)
      → last_of (filter ends (take count cs)) ≡ Some (get_or cs (end - 1) d)
  last-some end count is some in' d =
      let at : end ≡ end - 1 + 1 = omega (arith, some) in
      ap last_of (up-to end count is in' d ∙ ap (λ n. filter ends (take n cs)) at
      ∙ one-more (end - 1) d true (omega (arith, some, is.within, in')) (is.ended some d))
      ∙ last-push (filter ends (take (end - 1) cs)) (get_or cs (end - 1) d)

module _ (f : Flight) (inv : IsContiguous f) (tsn : ℕ) where
  abbrev goes : Bool → Option ℕ
  goes b = if b then option_map (λ c. c.tsn) (last_end tsn f) else None

  module _ (can : can_skip_to tsn f ≡ true) (within : ahead f tsn ≤ length f.queue.inflight.chunks) (d : ChunkPayloadData) where
    pub none-ends : IsLastEnd 0 (ahead f tsn) f.queue.inflight.chunks → None ≡ skip_end tsn f
    none-ends is = sym (ap goes can ∙ ap (option_map (λ c. c.tsn)) (last-none f.queue.inflight.chunks (ahead f tsn) is within d))

    pub ends-at : (end : ℕ) → IsLastEnd end (ahead f tsn) f.queue.inflight.chunks → 0 < end → Some ((f.acked_tsn + end) % 2 ^ 32) ≡ skip_end tsn f
    ends-at end is some =
        let read = tsn-at f.queue.inflight.chunks (following_tsn f.acked_tsn)
        (end - 1) d (omega (arith, inv.in_range)) inv.run (omega (arith, some, is.within, within)) in
        let same : (f.acked_tsn + end) % 2 ^ 32 ≡ (following_tsn f.acked_tsn + (end - 1)) % 2 ^ 32 = omega (arith, some) in
        ap Some (same ∙ sym read) ∙ sym (ap goes can ∙ ap (option_map (λ c. c.tsn)) (last-some f.queue.inflight.chunks end (ahead f tsn) is some within d))

-- ## Names of more chunks are not fewer

first-or-none : (s : ℕ) (ps : List ChunkForwardTsnStream) → ((k : ℕ) × IsFirstPair s ps k) ⊎ IsNoPair s ps (length ps)
first-or-none s [] = inr (λ k d lt. absurd (omega (arith, lt)))
first-or-none s (p ∷ ps) = by (is_pair_of s p) refl (first-or-none s ps)
  where
    later : is_pair_of s p ≡ false → (n : ℕ) → IsNoPair s ps n → (k : ℕ) (d : ChunkForwardTsnStream) → k < suc n → is_pair_of s (get_or (p ∷ ps) k d) ≡ false
    later e n none zero d lt = e
    later e n none (suc k) d lt = none k d (omega (arith, lt))

    by : (b : Bool) → is_pair_of s p ≡ b → ((k : ℕ) × IsFirstPair s ps k) ⊎ IsNoPair s ps (length ps)
        → ((k : ℕ) × IsFirstPair s (p ∷ ps) k) ⊎ IsNoPair s (p ∷ ps) (length (p ∷ ps))
    by true e h = inl (0, record { inside = omega arith; here = λ d. e; before = λ k d lt. absurd (omega (arith, lt)) })
    by false e (inl h) = inl (suc h.0, record { inside = (let i = h.1.inside in omega (arith, i)); here = h.1.here; before = later e h.0 h.1.before })
    by false e (inr none) = inr (later e (length ps) none)

abbrev MoreThan : ℕ → List ChunkPayloadData → Type 0
MoreThan least cs = (ps : List ChunkForwardTsnStream) × (Name ps cs) × (least ≤ length ps)

more-pairs : (least : ℕ) (cs : List ChunkPayloadData) (c : ChunkPayloadData) → MoreThan least cs → MoreThan least (cs ++ c ∷ [])
more-pairs least cs c h = by (first-or-none c.stream_identifier h.0)
  where
    by : ((k : ℕ) × IsFirstPair c.stream_identifier h.0 k) ⊎ IsNoPair c.stream_identifier h.0 (length h.0) → MoreThan least (cs ++ c ∷ [])
    by (inl f) = (set h.0 f.0 (pair_of c), renamed h.0 cs c f.0 f.1 h.1, (let n = length-set h.0 f.0 (pair_of c) in omega (arith, n, h.2)))
    by (inr none) = (h.0 ++ pair_of c ∷ [], added h.0 cs c none h.1, (let n = length-append h.0 (pair_of c ∷ []) in omega (arith, n, h.2)))

module _ (cs : List ChunkPayloadData) (least : ℕ) where
  next-pairs : (n : ℕ) → n < length cs → (d : ChunkPayloadData) → MoreThan least (filter is_named (take n cs))
      → MoreThan least (filter is_named (take (n + 1) cs))
  next-pairs n lt d h = subst (MoreThan least) (sym (those-more is_named cs n d lt)) (by (is_named (get_or cs n d)))
    where
      by : (b : Bool) → MoreThan least (filter is_named (take n cs) ++ (if b then get_or cs n d ∷ [] else []))
      by true = more-pairs least (filter is_named (take n cs)) (get_or cs n d) h
      by false = subst (MoreThan least) (sym (append-nil (filter is_named (take n cs)))) h

  later-pairs : (j n : ℕ) → n + j ≤ length cs → (d : ChunkPayloadData) → MoreThan least (filter is_named (take n cs))
      → MoreThan least (filter is_named (take (n + j) cs))
  later-pairs zero n in' d h = let same : n + 0 ≡ n = omega arith in subst (λ k. MoreThan least (filter is_named (take k cs))) (sym same) h
  later-pairs (suc j) n in' d h =
      let next : n + j + 1 ≡ n + suc j = omega arith in
      subst (λ k. MoreThan least (filter is_named (take k cs))) next (next-pairs (n + j) (omega (arith, in')) d (later-pairs j n (omega (arith, in')) d h))

pub is-more : (cs : List ChunkPayloadData) (room n k : ℕ) → n ≤ k → k ≤ length cs → (d : ChunkPayloadData) → IsMore room (filter is_named (take n cs))
    → IsMore room (filter is_named (take k cs))
is-more cs room n k le in' d h =
    let sum : n + (k - n) ≡ k = omega (arith, le) in
    let m = later-pairs cs (room + 1) (k - n) n (omega (arith, le, in')) d (h.0, h.1, omega (arith, h.2)) in
    let there = subst (λ i. MoreThan (room + 1) (filter is_named (take i cs))) sum m in
    (there.0, there.1, omega (arith, there.2))

some-pairs : (cs : List ChunkPayloadData) (k : ℕ) → k ≤ length cs → (d : ChunkPayloadData) → MoreThan 0 (filter is_named (take k cs))
some-pairs cs k in' d =
    let sum : 0 + k ≡ k = omega arith in
    subst (λ i. MoreThan 0 (filter is_named (take i cs))) sum (later-pairs cs 0 k 0 (omega (arith, in')) d ([], λ s. refl, omega arith))

-- ## A FORWARD-TSN of a length

found-end : (o : Option ChunkPayloadData) → ends_in o ≡ true → (c : ChunkPayloadData) × (o ≡ Some c) × (ends c ≡ true)
found-end None h = absurd (false≢true h)
found-end (Some c) h = (c, refl, h)

module _ (f : Flight) (inv : IsContiguous f) where
  abbrev cs : List ChunkPayloadData
  cs = f.queue.inflight.chunks

  -- where a message ends, stands a chunk that ends it
  end-place : (t : ℕ) → is_end t f ≡ true
      → (c : ChunkPayloadData) × (can_skip_to t f ≡ true) × (0 < ahead f t) × (ahead f t ≤ length cs) × (ends (get_or cs (ahead f t - 1) c) ≡ true)
  end-place t is =
      let h = both (can_skip_to t f) (ends_in (find (has_tsn t) cs)) is in
      let e = found-end (find (has_tsn t) cs) h.1 in
      let p = place-is f inv t e.0 e.1 in
      let at : ahead f t - 1 ≡ p.0 = omega (arith, p.2) in
      (e.0, h.0, omega (arith, p.2), omega (arith, p.2, p.1), ap (λ k. ends (get_or cs k e.0)) at ∙ ap ends (sym p.3) ∙ e.2)

  -- one of under 8 bytes is too short for any
  pub short-of : (bytes : ℕ) → bytes < 8 → (t : ℕ) → is_end t f ≡ true → IsTooLong bytes t f
  short-of bytes short t is =
      let h = end-place t is in
      let m = some-pairs cs (ahead f t) h.3 h.0 in
      (m.0, m.1, omega (arith, short))

  module _ (bytes room count most : ℕ) (long : 8 ≤ bytes) (room-is : room ≡ (bytes - 8) / 4) (most-is : most ≡ ahead f (advanced_ack_point f)) where
    pub later-long : ((k : ℕ) (d : ChunkPayloadData) → count < k → k ≤ most → ends (get_or cs (k - 1) d) ≡ true → IsMore room (filter is_named (take k cs)))
        → (t : ℕ) → is_end t f ≡ true → (ahead f t ≤ count) ⊎ IsTooLong bytes t f
    later-long far t is =
        let h = end-place t is in
        elim (cases_lt count (ahead f t)) [
          | inl lt ↦
              (let near = both (nat_lt 0 (ahead f t)) (nat_le (ahead f t) (ahead f (advanced_ack_point f))) h.1 in
              let le : ahead f t ≤ most = grind (arith, nat_tests, near.1, most-is) in
              let m = far (ahead f t) h.0 lt le h.4 in
              inr (m.0, m.1, omega (arith, m.2, room-is, long)))
          | inr le ↦ inl le
        ]

    pub all-long : count ≡ 0 → ((t : ℕ) → is_end t f ≡ true → (ahead f t ≤ count) ⊎ IsTooLong bytes t f) → (t : ℕ) → is_end t f ≡ true → IsTooLong bytes t f
    all-long none all t is = by (all t is)
      where
        by : (ahead f t ≤ count) ⊎ IsTooLong bytes t f → IsTooLong bytes t f
        by (inl le) = let h = end-place t is in absurd (omega (arith, le, none, h.2))
        by (inr l) = l

  -- a chunk there ends a message
  pub is-end-at : (count : ℕ) (d : ChunkPayloadData) → can_skip_to ((f.acked_tsn + count) % 2 ^ 32) f ≡ true → 0 < count → count ≤ length cs
      → ends (get_or cs (count - 1) d) ≡ true → is_end ((f.acked_tsn + count) % 2 ^ 32) f ≡ true
  is-end-at count d can some in' e =
      let at = found-at cs (following_tsn f.acked_tsn) (count - 1) d (omega (arith, inv.in_range)) inv.run inv.few (omega (arith, some, in')) in
      let same : (f.acked_tsn + count) % 2 ^ 32 ≡ (following_tsn f.acked_tsn + (count - 1)) % 2 ^ 32 = omega (arith, some) in
      let there = ap (λ t. ends_in (find (has_tsn t) cs)) same ∙ ap ends_in at ∙ e in
      ap (λ b. b && ends_in (find (has_tsn ((f.acked_tsn + count) % 2 ^ 32)) cs)) can ∙ there

-- ## All names up to the advanced point

-- where it is looked no farther than to the last end
module _ (f : Flight) (inv : IsContiguous f) (far most : ℕ) (far-is : far ≡ ahead f (advanced_ack_point f)) (near : far ≤ length f.queue.inflight.chunks)
    (last : IsLastEnd most far f.queue.inflight.chunks) where
  there : IsLastEnd most (ahead f (advanced_ack_point f)) f.queue.inflight.chunks
  there = subst (λ n. IsLastEnd most n f.queue.inflight.chunks) far-is last

  pub nowhere : most ≡ 0 → None ≡ skip_end (advanced_ack_point f) f
  nowhere none = by (can_skip_to (advanced_ack_point f) f) refl
    where
      by : (b : Bool) → can_skip_to (advanced_ack_point f) f ≡ b → None ≡ skip_end (advanced_ack_point f) f
      by true can = none-ends f inv (advanced_ack_point f) can (omega (arith, near, far-is)) any_chunk
          (subst (λ n. IsLastEnd n (ahead f (advanced_ack_point f)) f.queue.inflight.chunks) none there)
      by false can = sym (ap (λ b. if b then option_map (λ c. c.tsn) (last_end (advanced_ack_point f) f) else None) can)

  pub somewhere : 0 < most → Some ((f.acked_tsn + most) % 2 ^ 32) ≡ skip_end (advanced_ack_point f) f
  somewhere some =
      let can = can-go f (advanced_ack_point f) (omega (arith, some, last.within, far-is)) (omega arith) in
      ends-at f inv (advanced_ack_point f) can (omega (arith, near, far-is)) any_chunk most there some

  module _ (bytes room count : ℕ) (long : 8 ≤ bytes) (room-is : room ≡ (bytes - 8) / 4)
      (furthest : (k : ℕ) (d : ChunkPayloadData) → count < k → k ≤ most → ends (get_or f.queue.inflight.chunks (k - 1) d) ≡ true
      → IsMore room (filter is_named (take k f.queue.inflight.chunks))) where
    pub farther : (k : ℕ) (d : ChunkPayloadData) → count < k → k ≤ far → ends (get_or f.queue.inflight.chunks (k - 1) d) ≡ true
        → IsMore room (filter is_named (take k f.queue.inflight.chunks))
    farther k d lt le e = elim (cases_lt most k) [
      | inl beyond ↦ absurd (false≢true (sym (last.last k d beyond le) ∙ e))
      | inr here ↦ furthest k d lt here e
    ]

    -- it goes there, where there is room for all names
    pub all-there : Fit bytes (advanced_ack_point f) f → count ≤ most → count ≡ most
    all-there fit within = elim (cases_lt count most) [
      | inl lt ↦
          (let some : 0 < most = omega (arith, lt) in
          let m = furthest most any_chunk lt (omega arith) (last.ended some any_chunk) in
          let up = is-more f.queue.inflight.chunks room most far last.within near any_chunk m in
          let n = fit up.0 (subst (λ k. Name up.0 (filter is_named (take k f.queue.inflight.chunks))) far-is up.1) in
          absurd (omega (arith, n, up.2, room-is, long)))
      | inr le ↦ omega (arith, le, within)
    ]

-- one of under 8 bytes has no room for none
pub none-fit : (f : Flight) (far bytes : ℕ) → far ≡ ahead f (advanced_ack_point f) → far ≤ length f.queue.inflight.chunks → bytes < 8
    → Fit bytes (advanced_ack_point f) f → ⊥
none-fit f far bytes far-is near short fit =
    let m = some-pairs f.queue.inflight.chunks far near any_chunk in
    let n = fit m.0 (subst (λ k. Name m.0 (filter is_named (take k f.queue.inflight.chunks))) far-is m.1) in
    omega (arith, n, short)
