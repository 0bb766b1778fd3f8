-- Room for numbers on streams, while it is made for one chunk after another, and while it is taken.
use Rattle.std.proofs.Common.{◌≡◌, ℕ, zero, suc, ◌+◌, ◌<◌, ◌≤◌, cond, List, [], ◌∷◌, length, map, take, Some, ap, sym, ◌∙◌, subst, arith}
use Rattle.std.specs.Prelude.{slice_get, slice_index_or, slice_set}
use Rattle.std.specs.VecDeque.{deque_len, deque_capacity}
use Rattle.std.proofs.lemmas.Bool.{eq-eqb, ne_eqb}
use Rattle.std.proofs.lemmas.List.Sums.{sum_by-cons, get_or-le-sum_by, count_by_more_yes, count_by_more_no}
use Rattle.sctp_util.proofs.Cases.{some-same}
use Rattle.sctp_data.specs.declared.chunk.chunk_payload_data.ChunkPayloadData.{ChunkPayloadData}
use Rattle.sctp_stream.specs.Numbers.{IsOnlyPlace, IsAbsent}
use Rattle.sctp_link.specs.declared.progress.StreamProgress.{StreamProgress}
use Rattle.sctp_link.specs.Rooms.{is_of, chunks_of, HasRoom, HasCounted}

-- ## The numbers of streams

number-of : (ps : List StreamProgress) (k : ℕ) (p : StreamProgress) → k < length ps → p ≡ slice_index_or ps k p
    → slice_get (map (λ (x : StreamProgress). x.number) ps) k ≡ Some p.number
number-of [] k p lt e = absurd (omega (arith, lt))
number-of (y ∷ ys) zero p lt e = ap (λ (x : StreamProgress). Some x.number) (sym e)
number-of (y ∷ ys) (suc k) p lt e = number-of ys k p (omega (arith, lt)) e

-- what holds of a stream that is put at a place and of all others holds of each
each-put : (P : StreamProgress → Type 0) (ps : List StreamProgress) (j : ℕ) (q : StreamProgress) → P q
    → ((k : ℕ) (p : StreamProgress) → k < length ps → p ≡ slice_index_or ps k p → (k ≡ j → ⊥) → P p) → (k : ℕ) (p : StreamProgress)
    → k < length (slice_set ps j q) → p ≡ slice_index_or (slice_set ps j q) k p → P p
each-put P [] j q here rest k p lt e = absurd (omega (arith, lt))
each-put P (y ∷ ys) zero q here rest zero p lt e = subst P (sym e) here
each-put P (y ∷ ys) zero q here rest (suc k) p lt e = rest (suc k) p (omega (arith, lt)) e (λ z. omega (arith, z))
each-put P (y ∷ ys) (suc j) q here rest zero p lt e = rest zero p (omega arith) e (λ z. omega (arith, z))
each-put P (y ∷ ys) (suc j) q here rest (suc k) p lt e =
    each-put P ys j q here (λ i x less f ne. rest (suc i) x (omega (arith, less)) f (λ z. ne (omega (arith, z)))) k p (omega (arith, lt)) e

-- ## The chunks of a stream

first-of : (p : StreamProgress) (c : ChunkPayloadData) (cs : List ChunkPayloadData)
    → chunks_of p (c ∷ cs) ≡ cond (is_of p.number c) 1 0 + chunks_of p cs
first-of p c cs = sum_by-cons (λ x. cond (is_of p.number x) 1 0) c cs

own-first : (p : StreamProgress) (c : ChunkPayloadData) (cs : List ChunkPayloadData) → p.number ≡ c.stream_identifier
    → chunks_of p (c ∷ cs) ≡ 1 + chunks_of p cs
own-first p c cs e = first-of p c cs ∙ ap (λ b. cond b 1 0 + chunks_of p cs) (eq-eqb c.stream_identifier p.number (sym e))

-- with fewer chunks less room is needed
pub room-less : (c : ChunkPayloadData) (cs : List ChunkPayloadData) (ps : List StreamProgress) → HasRoom (c ∷ cs) ps → HasRoom cs ps
room-less c cs ps h = λ k p lt e. omega (arith, h k p lt e, first-of p c cs)

pub room-first : (c : ChunkPayloadData) (cs : List ChunkPayloadData) (ps : List StreamProgress) → HasRoom (c ∷ cs) ps → HasRoom (c ∷ []) ps
room-first c cs ps h = λ k p lt e. omega (arith, h k p lt e, first-of p c cs, first-of p c [])

-- there is room for none
pub room-none : (ps : List StreamProgress) → HasRoom [] ps
room-none ps = λ k p lt e. omega (arith, p.complete.small.1)

module _ (ns : List ℕ) (ps : List StreamProgress) (is : ns ≡ map (λ (p : StreamProgress). p.number) ps) where
  number-absent : (s : ℕ) → IsAbsent s ns → (j : ℕ) (p : StreamProgress) → j < length ps → p ≡ slice_index_or ps j p → s ≡ p.number → ⊥
  number-absent s absent j p lt e z = absent j (ap (λ ms. slice_get ms j) is ∙ number-of ps j p lt e ∙ ap Some (sym z))

  number-there : (s k : ℕ) → IsOnlyPlace s ns k → (j : ℕ) (p : StreamProgress) → j < length ps → p ≡ slice_index_or ps j p → (j ≡ k → ⊥)
      → s ≡ p.number → ⊥
  number-there s k only j p lt e ne z = ne (only.only j (ap (λ ms. slice_get ms j) is ∙ number-of ps j p lt e ∙ ap Some (sym z)))

  -- the stream of a chunk, at its place
  module _ (c : ChunkPayloadData) (k : ℕ) (only : IsOnlyPlace c.stream_identifier ns k) (lt : k < length ps) (p : StreamProgress)
      (at' : p ≡ slice_index_or ps k p) where
    number-here : p.number ≡ c.stream_identifier
    number-here = some-same (sym (number-of ps k p lt at') ∙ ap (λ ms. slice_get ms k) (sym is) ∙ only.here)

    -- it has room for one number
    pub room-one : HasRoom (c ∷ []) ps → deque_len p.complete < deque_capacity p.complete
    room-one h = omega (arith, h k p lt at', own-first p c [] number-here)

    -- one number takes the room of one chunk
    pub room-taken : (q : StreamProgress) → q.number ≡ p.number → deque_len q.complete ≡ deque_len p.complete + 1
        → deque_capacity q.complete ≡ deque_capacity p.complete → (cs : List ChunkPayloadData) → HasRoom (c ∷ cs) ps → HasRoom cs (slice_set ps k q)
    room-taken q same len cap cs h =
        each-put (λ x. deque_len x.complete + chunks_of x cs ≤ deque_capacity x.complete) ps k q
        (rw same (omega (arith, h k p lt at', own-first p c cs number-here, len, cap))) (λ j x less e ne. room-less c cs ps h j x less e)

    -- more room is room
    pub room-stays : (q : StreamProgress) → q.number ≡ p.number → deque_len q.complete ≡ deque_len p.complete
        → deque_capacity p.complete ≤ deque_capacity q.complete → (cs : List ChunkPayloadData) → HasRoom cs ps → HasRoom cs (slice_set ps k q)
    room-stays q same len cap cs h =
        each-put (λ x. deque_len x.complete + chunks_of x cs ≤ deque_capacity x.complete) ps k q
        (rw same (omega (arith, h k p lt at', len, cap))) (λ j x less e ne. h j x less e)

    module _ (cs : List ChunkPayloadData) (i : ℕ) (is-c : c ≡ slice_index_or cs i c) (inside : i < length cs) where
      -- its chunks with this one, and without it
      pub own-more : chunks_of p (take (i + 1) cs) ≡ chunks_of p (take i cs) + 1
      own-more = count_by_more_yes (is_of p.number) cs i c inside (eq-eqb _ _ (ap (λ (x : ChunkPayloadData). x.stream_identifier) (sym is-c) ∙ sym number-here))

      pub own-some : 0 < chunks_of p cs
      own-some =
          let one = get_or-le-sum_by (λ x. cond (is_of p.number x) 1 0) cs i c inside in
          let yes = eq-eqb _ _ (ap (λ (x : ChunkPayloadData). x.stream_identifier) (sym is-c) ∙ sym number-here) in
          omega (arith, one, ap {B = ℕ} (λ b. cond b 1 0) yes)

      other-more : (j : ℕ) (x : StreamProgress) → j < length ps → x ≡ slice_index_or ps j x → (j ≡ k → ⊥)
          → chunks_of x (take (i + 1) cs) ≡ chunks_of x (take i cs)
      other-more j x less e ne =
          count_by_more_no (is_of x.number) cs i c inside
          (ne_eqb _ _ (λ z. number-there c.stream_identifier k only j x less e ne (ap (λ (y : ChunkPayloadData). y.stream_identifier) is-c ∙ z)))

      -- room for one chunk more
      pub room-more : (q : StreamProgress) → q.number ≡ p.number → deque_len q.complete + chunks_of p (take (i + 1) cs) ≤ deque_capacity q.complete
          → HasRoom (take i cs) ps → HasRoom (take (i + 1) cs) (slice_set ps k q)
      room-more q same room h =
          each-put (λ x. deque_len x.complete + chunks_of x (take (i + 1) cs) ≤ deque_capacity x.complete) ps k q
          (rw same room) (λ j x less e ne. omega (arith, h j x less e, other-more j x less e ne))

      -- its count is cleared
      pub count-cleared : (q : StreamProgress) → q.incoming ≡ 0 → HasCounted (take i cs) [] ps → HasCounted (take (i + 1) cs) [] (slice_set ps k q)
      count-cleared q z h =
          each-put (λ x. 0 < chunks_of x (take (i + 1) cs) → x.incoming ≡ 0) ps k q
          (λ some. z) (λ j x less e ne some. h j x less e (omega (arith, some, other-more j x less e ne)))

      -- and it counts this one
      pub count-more : (q : StreamProgress) → q.number ≡ p.number → q.incoming ≡ p.incoming + 1 → HasCounted cs (take i cs) ps
          → HasCounted cs (take (i + 1) cs) (slice_set ps k q)
      count-more q same z h =
          each-put (λ x. 0 < chunks_of x cs → x.incoming ≡ chunks_of x (take (i + 1) cs)) ps k q
          (λ some. rw same (z ∙ ap (λ n. n + 1) (h k p lt at' own-some) ∙ sym own-more))
          (λ j x less e ne some. h j x less e some ∙ sym (other-more j x less e ne))

  -- where the stream of a chunk is not open
  module _ (c : ChunkPayloadData) (absent : IsAbsent c.stream_identifier ns) (cs : List ChunkPayloadData) (i : ℕ) (is-c : c ≡ slice_index_or cs i c)
      (inside : i < length cs) where
    none-more : (j : ℕ) (x : StreamProgress) → j < length ps → x ≡ slice_index_or ps j x → chunks_of x (take (i + 1) cs) ≡ chunks_of x (take i cs)
    none-more j x less e =
        count_by_more_no (is_of x.number) cs i c inside
        (ne_eqb _ _ (λ z. number-absent c.stream_identifier absent j x less e (ap (λ (y : ChunkPayloadData). y.stream_identifier) is-c ∙ z)))

    pub absent-room : HasRoom (take i cs) ps → HasRoom (take (i + 1) cs) ps
    absent-room h = λ j x less e. omega (arith, h j x less e, none-more j x less e)

    pub absent-cleared : HasCounted (take i cs) [] ps → HasCounted (take (i + 1) cs) [] ps
    absent-cleared h = λ j x less e some. h j x less e (omega (arith, some, none-more j x less e))

    pub absent-counted : HasCounted cs (take i cs) ps → HasCounted cs (take (i + 1) cs) ps
    absent-counted h = λ j x less e some. h j x less e some ∙ sym (none-more j x less e)
