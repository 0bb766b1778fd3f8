-- As many ordered messages were read as were written, in order: each is the write at its place.
use Rattle.std.proofs.Common.{◌≡◌, ℕ, suc, ◌+◌, ◌<◌, ◌≤◌, true, List, [], ◌∷◌, ◌++◌, length, map, refl, ap, ap₂, sym, subst, ◌∙◌, arith, eq-eqb}
use Rattle.std.specs.Prelude.{All, AllPairs, Some, ◌==◌, ◌&&◌, if◌then◌else◌, slice_index_or}
use Rattle.sctp_association.specs.Links.{AreInOrder}
use Rattle.sctp_association.specs.Pairs.{IsOrdered, answered, read_each, written_each}
use Rattle.sctp_data.specs.declared.chunk.chunk_payload_data.PayloadProtocolIdentifier.{PayloadProtocolIdentifier}
use Rattle.sctp_delivery.specs.InOrder.{Are}
use Rattle.sctp_delivery.specs.Messages.{IsWrite, StandAt}
use Rattle.sctp_delivery.specs.Order.{is_ordered_on, ordered_places}
use Rattle.sctp_delivery.specs.SenderCalls.{Write, writes, written_after}
use Rattle.sctp_reassembly.specs.declared.reassembly_queue.chunks.Chunks.{Chunks}
use Rattle.sctp_reassembly.specs.reassembly_queue.Fragments.{payload_of}
use Rattle.sctp_receiver.specs.ReceiverRuns.{Message}

-- ## Places that rise

abbrev Rise : ℕ → List ℕ → Type 0
Rise k [] = Unit {0}
Rise k (p ∷ ps) = (k ≤ p) × Rise (suc p) ps

rise : (k : ℕ) (ps : List ℕ) → All (λ p. k ≤ p) ps → AllPairs (λ p q. p < q) ps → Rise k ps
rise k [] a h = tt
rise k (p ∷ ps) a h = (
  a 0 0 (omega arith),
  rise (suc p) ps (λ i d lt. (let l = h 0 (suc i) d (omega arith) (omega (arith, lt)) in omega (arith, l)))
      (λ i j d lt short. h (suc i) (suc j) d (omega (arith, lt)) (omega (arith, short))),
)

-- each place is one of so many
below : (ws : List Write) (ms : List Message) (ps : List ℕ) → StandAt ws ms ps → (k : ℕ) → k ≤ length ws → Rise k ps → k + length ms ≤ length ws
below ws [] [] at k le r = omega (arith, le)
below ws [] (p ∷ ps) at k le r = absurd at
below ws (m ∷ ms) [] at k le r = absurd at
below ws (m ∷ ms) (p ∷ ps) at k le r =
    let lt = at.0.0 in
    let least = r.0 in
    let rest = below ws ms ps at.1 (suc p) (omega (arith, lt)) r.1 in
    omega (arith, least, rest)

-- ## Each is at its place

module _ (all : List Write) where
  -- these are the writes from the k-th one on
  IsRest : ℕ → List Write → Type 0
  IsRest k ws = (length all ≡ k + length ws) × ((i : ℕ) (d : Write) → slice_index_or ws i d ≡ slice_index_or all (k + i) d)

  each-is : (k : ℕ) (ws : List Write) (ms : List Message) (ps : List ℕ) → IsRest k ws → StandAt all ms ps → Rise k ps → length ms ≡ length ws → Are ms ws
  unfolding IsRest
  each-is k [] [] ps rest at r many = tt
  each-is k (w ∷ ws) [] ps rest at r many = absurd (omega (arith, many))
  each-is k [] (m ∷ ms) ps rest at r many = absurd (omega (arith, many))
  each-is k (w ∷ ws) (m ∷ ms) [] rest at r many = absurd at
  each-is k (w ∷ ws) (m ∷ ms) (p ∷ ps) rest at r many =
      let total = rest.0 in
      let lt = at.0.0 in
      let least = r.0 in
      let fill = below all ms ps at.1 (suc p) (omega (arith, lt)) r.1 in
      let here : p ≡ k + 0 = omega (arith, total, least, fill, many) in
      let next : suc p ≡ suc k = omega (arith, here) in
      let is : slice_index_or all p w ≡ w = ap (λ n. slice_index_or all n w) here ∙ sym (rest.1 0 w) in
      let shift : (i : ℕ) → k + suc i ≡ suc k + i = λ i. omega arith in (
        subst (IsWrite m) is (at.0.1 w),
        each-is (suc k) ws ms ps (omega (arith, total), λ i d. rest.1 (suc i) d ∙ ap (λ n. slice_index_or all n d) (shift i)) at.1
            (subst (λ n. Rise n ps) next r.1) (omega (arith, many)),
      )

-- ## Where each is ordered

abbrev AreOrderedOn : ℕ → List Message → Type 0
AreOrderedOn stream [] = Unit {0}
AreOrderedOn stream (m ∷ ms) = (is_ordered_on stream m ≡ true) × AreOrderedOn stream ms

-- the places of all messages are those of the ordered ones
places-all : (stream : ℕ) (ws : List Write) (ms : List Message) (ps : List ℕ) → StandAt ws ms ps → AreOrderedOn stream ms → ordered_places stream ms ps ≡ ps
places-all stream ws [] [] at o = refl
places-all stream ws [] (p ∷ ps) at o = absurd at
places-all stream ws (m ∷ ms) [] at o = absurd at
places-all stream ws (m ∷ ms) (p ∷ ps) at o =
    ap (λ b. if b then p ∷ ordered_places stream ms ps else ordered_places stream ms ps) o.0
    ∙ ap (λ (qs : List ℕ). p ∷ qs) (places-all stream ws ms ps at.1 o.1)

in-turn : (stream : ℕ) (ws : List Write) (ms : List Message) → AreInOrder ws ms → AreOrderedOn stream ms → length ms ≡ length ws → Are ms ws
unfolding IsRest
in-turn stream ws ms order o many =
    let up = subst (AllPairs (λ p q. p < q)) (places-all stream ws ms order.0 order.1 o) (order.3 stream) in
    let plus : (i : ℕ) → i ≡ 0 + i = λ i. omega arith in
    each-is ws 0 ws ms order.0 (omega arith, λ i d. ap (λ n. slice_index_or ws n d) (plus i)) order.1 (rise 0 order.0 (λ i d lt. omega arith) up) many

-- ## Messages one after another

module _ (stream : ℕ) (ppi : PayloadProtocolIdentifier) where
  abbrev payload : Chunks → List ℕ
  payload message = payload_of message.set.chunks

  abbrev AreSome : List (List ℕ) → Type 0
  AreSome bs = All (λ bytes. 0 < length bytes) bs

  others-some : (b : List ℕ) (bs : List (List ℕ)) → AreSome (b ∷ bs) → AreSome bs
  others-some b bs some k d lt = some (suc k) d (omega (arith, lt))

  -- one more
  pub written-more : (bs : List (List ℕ)) (b : List ℕ) (ws : List Write)
      → written_each stream ppi (bs ++ b ∷ []) ws ≡ written_after (writes stream ppi b) (written_each stream ppi bs ws)
  written-more [] b ws = refl
  written-more (x ∷ bs) b ws = written-more bs b (written_after (writes stream ppi x) ws)

  pub read-more : (cs : List Chunks) (c : Chunks) (ms : List Message) → read_each stream (cs ++ c ∷ []) ms ≡ answered stream (Some c) (read_each stream cs ms)
  read-more [] c ms = refl
  read-more (x ∷ cs) c ms = read-more cs c (answered stream (Some x) ms)

  -- how many there are
  written-length : (bs : List (List ℕ)) (ws : List Write) → AreSome bs → length (written_each stream ppi bs ws) ≡ length bs + length ws
  written-length [] ws some = omega arith
  written-length ([] ∷ bs) ws some = let none = some 0 [] (omega arith) in absurd (omega (arith, none))
  written-length ((x ∷ xs) ∷ bs) ws some =
      let n = written-length bs (written_after (writes stream ppi (x ∷ xs)) ws) (others-some (x ∷ xs) bs some) in omega (arith, n)

  read-length : (cs : List Chunks) (ms : List Message) → length (read_each stream cs ms) ≡ length cs + length ms
  read-length [] ms = omega arith
  read-length (c ∷ cs) ms = let n = read-length cs (answered stream (Some c) ms) in omega (arith, n)

  -- each of those that were read is ordered, on the stream
  same-stream : (n : ℕ) → (n == n) ≡ true
  same-stream n = eq-eqb n n refl

  read-ordered : (cs : List Chunks) (ms : List Message) → All IsOrdered cs → AreOrderedOn stream ms → AreOrderedOn stream (read_each stream cs ms)
  read-ordered [] ms o rest = rest
  read-ordered (c ∷ cs) ms o rest =
      read-ordered cs (answered stream (Some c) ms) (λ k d lt. o (suc k) d (omega (arith, lt)))
      (ap₂ (λ a b. a && b) (same-stream stream) (o 0 c (omega arith)), rest)

  -- each is the write at its place: so they are the same
  same-each : (bs : List (List ℕ)) (cs : List Chunks) (ws : List Write) (ms : List Message) → AreSome bs → length cs ≡ length bs
      → Are (read_each stream cs ms) (written_each stream ppi bs ws) → Are ms ws × (map payload cs ≡ bs)
  same-each [] [] ws ms some many are = (are, refl)
  same-each (b ∷ bs) [] ws ms some many are = absurd (omega (arith, many))
  same-each [] (c ∷ cs) ws ms some many are = absurd (omega (arith, many))
  same-each ([] ∷ bs) (c ∷ cs) ws ms some many are = let none = some 0 [] (omega arith) in absurd (omega (arith, none))
  same-each ((x ∷ xs) ∷ bs) (c ∷ cs) ws ms some many are =
      let rest = same-each bs cs (written_after (writes stream ppi (x ∷ xs)) ws) (answered stream (Some c) ms) (others-some (x ∷ xs) bs some)
      (omega (arith, many)) are in
      (rest.0.1, ap₂ (λ y ys. y ∷ ys) rest.0.0.bytes rest.1)

  -- where nothing was written or read before
  pub all-same : (bs : List (List ℕ)) (cs : List Chunks) (ws : List Write) (ms : List Message) → ws ≡ [] → ms ≡ [] → AreSome bs
      → length cs ≡ length bs → All IsOrdered cs → AreInOrder (written_each stream ppi bs ws) (read_each stream cs ms) → map payload cs ≡ bs
  all-same bs cs ws ms nothing none some many o order =
      let wrote = written-length bs [] some in
      let read = read-length cs [] in
      let order' = subst (λ (xs : List Message). AreInOrder (written_each stream ppi bs []) (read_each stream cs xs)) none
      (subst (λ (xs : List Write). AreInOrder (written_each stream ppi bs xs) (read_each stream cs ms)) nothing order) in
      (same-each bs cs [] [] some many (in-turn stream (written_each stream ppi bs []) (read_each stream cs []) order'
      (read-ordered cs [] o tt) (omega (arith, wrote, read, many)))).1
