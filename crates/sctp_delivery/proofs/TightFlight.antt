-- How many ordered messages of a stream are begun past one that has an ordered chunk in flight: fewer than 2^14.
use Rattle.sctp_delivery.proofs.Names.{common_steps, ◌≡◌, ℕ, zero, suc, ◌+◌, ◌-◌, ◌%◌, ◌^◌, ◌<◌, ◌≤◌, Bool, true, false, List, [], ◌∷◌, length, inl, inr}
use Rattle.sctp_delivery.proofs.Names.{Option, Some, None, refl, ap, sym, subst, ◌∙◌, arith, ◌⊎◌, ◌&&◌, if◌then◌else◌, nat_le, cases_lt, nat_tests, negated}
use Rattle.sctp_delivery.proofs.Names.{same-is, both, not_both, ChunkPayloadData, data_of, Flight, begins_ordered, first_ordered, is_ordered_on, is_too_far}
use Rattle.sctp_delivery.proofs.Names.{past_number, Transmission, IsAccepted, SenderCall, next_chunk}
use Rattle.std.specs.List.{find}
use Rattle.sctp_delivery.specs.SenderCalls as outgoing
use Rattle.sctp_delivery.proofs.Calls.{sent_by}
use Rattle.sctp_delivery.proofs.OrderedEntries.{AreIndexed, IsIndexed, begins_on, begun_on}
use Rattle.sctp_delivery.proofs.Queues.{IsEnded}
use Rattle.sctp_delivery.proofs.Senders.{IsMoreBy}
use Rattle.sctp_delivery.proofs.Sent.{Entry, Numbered, fragment, terminal}
use Rattle.sctp_delivery.proofs.SpreadCalls.{not-far}
use Rattle.sctp_delivery.proofs.SpreadEntries.{at-here, at-more, begun_to, is_at, to-all, to-more, to-up, one-most}
use Rattle.sctp_delivery.proofs.SpreadFlight.{AreOn, AreSteps}
use Rattle.sctp_delivery.proofs.UnwrappedArrived.{at-within}

-- ## Entries

pub step-few : (st : ℕ) (x : Entry) (xs : List Entry) → begun_on st (x ∷ xs) ≤ begun_on st xs + 1
step-few st terminal xs = omega arith
step-few st (fragment d w after) xs = let h = one-most (begins_on st d) in omega (arith, h)

-- no more messages are begun than there are entries
pub to-few : (st j k : ℕ) (sent : List Entry) → j ≤ k → begun_to st k sent ≤ begun_to st j sent + (k - j)
to-few st j k [] le = omega arith
to-few st j k (x ∷ xs) le = elim (cases_lt k (length (x ∷ xs))) [
  | inl lt ↦
      let a = to-more st j x xs (omega (arith, lt, le)) in
      let b = to-more st k x xs (omega (arith, lt)) in
      let ih = to-few st j k xs le in
      omega (arith, a, b, ih)
  | inr ge ↦ elim (cases_lt j (length (x ∷ xs))) [
    | inl lt ↦
        let a = to-more st j x xs (omega (arith, lt)) in
        let b = to-all st k (x ∷ xs) ge in
        let c = to-all st (length xs) xs (omega arith) in
        let ih = to-few st j (length xs) xs (omega (arith, lt)) in
        let more = step-few st x xs in
        let far : (length xs - j) + 1 ≤ k - j = omega (arith, ge, lt) in
        omega (arith, a, b, c, ih, more, far)
    | inr more ↦ grind (arith, nat_tests, common_steps, to-all)
  ]
]

-- none is begun at a place with no ordered fragment of the stream
pub to-same : (st k : ℕ) (sent : List Entry) → is_at st (k + 1) sent ≡ false → begun_to st (k + 1) sent ≡ begun_to st k sent
to-same st k [] e = refl
to-same st k (x ∷ xs) e = elim (cases_lt (k + 1) (length (x ∷ xs))) [
  | inl lt ↦
      to-more st (k + 1) x xs (omega (arith, lt)) ∙ to-same st k xs (sym (at-more st (k + 1) x xs (omega (arith, lt))) ∙ e)
      ∙ sym (to-more st k x xs (omega (arith, lt)))
  | inr ge ↦ grind (arith, nat_tests, common_steps, cases_lt, to-all, at-here, to-more)
]

-- the last ordered fragment of the stream between two places, if there is one
pub last-at : (st a m : ℕ) (sent : List Entry) → ((k : ℕ) → a < k → k ≤ m → is_at st k sent ≡ false)
    ⊎ ((z : ℕ) × (a < z) × (z ≤ m) × (is_at st z sent ≡ true) × (begun_to st z sent ≡ begun_to st m sent))
last-at st a zero sent = inl (λ k lt le. absurd (omega (arith, lt, le)))
last-at st a (suc m) sent = elim (cases_lt a (suc m)) [
  | inr ge ↦ inl (λ k lt le. absurd (omega (arith, lt, le, ge)))
  | inl lt ↦ by (last-at st a m sent) (is_at st (suc m) sent) refl lt
]
  where
    by : ((k : ℕ) → a < k → k ≤ m → is_at st k sent ≡ false)
        ⊎ ((z : ℕ) × (a < z) × (z ≤ m) × (is_at st z sent ≡ true) × (begun_to st z sent ≡ begun_to st m sent))
        → (b : Bool) → is_at st (suc m) sent ≡ b → a < suc m → ((k : ℕ) → a < k → k ≤ suc m → is_at st k sent ≡ false)
        ⊎ ((z : ℕ) × (a < z) × (z ≤ suc m) × (is_at st z sent ≡ true) × (begun_to st z sent ≡ begun_to st (suc m) sent))
    by ih true e lt = inr (suc m, lt, omega arith, e, refl)
    by ih false e lt =
        let next : m + 1 ≡ suc m = omega arith in
        let same : begun_to st (suc m) sent ≡ begun_to st m sent =
        ap (λ k. begun_to st k sent) (sym next) ∙ to-same st m sent (ap (λ k. is_at st k sent) next ∙ e) in
        elim ih [
          | inl none ↦ inl (λ k past le. elim (cases_lt k (suc m)) [
            | inl less ↦ none k past (omega (arith, less))
            | inr ge ↦ let it : k ≡ suc m = omega (arith, ge, le) in ap (λ j. is_at st j sent) it ∙ e
          ])
          | inr z ↦ let le = z.2 in inr (z.0, z.1, omega (arith, le), z.3, z.4 ∙ sym same)
        ]

-- ## In flight

-- behind the place acknowledged: fewer than 2^14 messages are begun past that of an ordered fragment of the stream
abbrev pub IsTight : ℕ → ℕ → List Entry → Type 0
IsTight st a sent =
    (z : ℕ) → a < z → is_at st z sent ≡ true → begun_on st sent + 1 ≤ begun_to st z sent + 2 ^ 14

pub tight-later : (st a b : ℕ) (sent : List Entry) → a ≤ b → IsTight st a sent → IsTight st b sent
tight-later st a b sent le h z lt at = h z (omega (arith, le, lt)) at

-- with one entry more, by which no message of the stream is begun, or by which there still are so few
grown-tight : (st a : ℕ) (x : Entry) (sent : List Entry) → IsTight st a sent
    → ((z : ℕ) → a < z → is_at st z sent ≡ true → begun_on st (x ∷ sent) + 1 ≤ begun_to st z sent + 2 ^ 14) → IsTight st a (x ∷ sent)
grown-tight st a x sent h few z lt at = grind (arith, nat_tests, at-more, cases_lt, to-all, to-more)

ended-tight : (st a : ℕ) (sent more : List Entry) → IsEnded sent more → IsTight st a sent → IsTight st a more
ended-tight st a sent more (inl e) h = subst (IsTight st a) (sym e) h
ended-tight st a sent more (inr e) h = subst (IsTight st a) (sym e) (grown-tight st a terminal sent h h)

-- the first ordered chunk of the stream in flight, where there is one at a place
record IsFirstAt (st a z : ℕ) (sent : List Entry) (cs : List ChunkPayloadData) : Type 0 where
  chunk : ChunkPayloadData
  found : find (is_ordered_on st) cs ≡ Some chunk
  place : ℕ
  past : a < place
  upto : place ≤ z
  at : is_at st place sent ≡ true
  index : ℕ
  begun : index + 1 ≡ begun_to st place sent
  number : chunk.stream_sequence_number ≡ index % 2 ^ 16

first-at : (st a z : ℕ) (sent : List Entry) (cs : List ChunkPayloadData) → AreSteps st sent a cs → AreOn st sent a cs → a < z → z ≤ a + length cs
    → is_at st z sent ≡ true → IsFirstAt st a z sent cs
first-at st a z sent [] s o lt le at = absurd (omega (arith, lt, le))
first-at st a z sent (c ∷ cs) s o lt le at = by (is_ordered_on st c) refl (λ l. first-at st (a + 1) z sent cs s.1 o.1 l (omega (arith, le)) at)
  where
    by : (b : Bool) → is_ordered_on st c ≡ b → (a + 1 < z → IsFirstAt st (a + 1) z sent cs) → IsFirstAt st a z sent (c ∷ cs)
    by true h ih =
        let k = s.0.number h in
        record {
          chunk = c;
          found = ap (λ b. if b then Some c else find (is_ordered_on st) cs) h;
          place = a + 1;
          past = omega arith;
          upto = omega (arith, lt);
          at = sym o.0 ∙ h;
          index = k.0;
          begun = k.1;
          number = k.2;
        }
    by false h ih = grind (arith, nat_tests, cases_lt, not_both)

-- a message is begun that is not too far
begun-tight : (st a n : ℕ) (sent : List Entry) (f : Flight) (c : ChunkPayloadData) → length sent ≡ n → a + length f.queue.inflight.chunks ≡ n
    → AreSteps st sent a f.queue.inflight.chunks → AreOn st sent a f.queue.inflight.chunks → c.stream_identifier ≡ st → begins_ordered c ≡ true
    → c.stream_sequence_number ≡ begun_on st sent % 2 ^ 16 → is_too_far f c ≡ false → IsTight st a sent
    → (z : ℕ) → a < z → is_at st z sent ≡ true → begun_on st sent + 2 ≤ begun_to st z sent + 2 ^ 14
begun-tight st a n sent f c long total steps on same begins number far h z lt at =
    by (nat_le (2 ^ 14) (length f.queue.inflight.chunks)) refl
    (sym (ap (λ b. b && (nat_le (2 ^ 14) (length f.queue.inflight.chunks) && nat_le (2 ^ 14) (past_number (first_ordered c.stream_identifier f) c))) begins)
    ∙ far)
  where
    within : z ≤ length sent
    within = at-within st z sent at

    all : begun_to st n sent ≡ begun_on st sent
    all = to-all st n sent (omega (arith, long))

    by : (b : Bool) → nat_le (2 ^ 14) (length f.queue.inflight.chunks) ≡ b
        → (b && nat_le (2 ^ 14) (past_number (first_ordered c.stream_identifier f) c)) ≡ false → begun_on st sent + 2 ≤ begun_to st z sent + 2 ^ 14
    by false g e =
        let few : length f.queue.inflight.chunks < 2 ^ 14 = grind (arith, nat_tests, g) in
        let more = to-few st z n sent (omega (arith, within, long)) in
        let w = within in
        let left : n - z + 2 ≤ 2 ^ 14 = omega (arith, few, total, lt, w, long) in
        omega (arith, more, left, all)
    by true g e =
        let w = within in
        let o = first-at st a z sent f.queue.inflight.chunks steps on lt (omega (arith, w, long, total)) at in
        let first : first_ordered c.stream_identifier f ≡ Some o.chunk = ap (λ k. find (is_ordered_on k) f.queue.inflight.chunks) same ∙ o.found in
        let past : nat_le (2 ^ 14) (past_number (Some o.chunk) c) ≡ false = ap (λ k. nat_le (2 ^ 14) (past_number k c)) (sym first) ∙ e in
        let less : (c.stream_sequence_number + (2 ^ 16 - o.chunk.stream_sequence_number)) % 2 ^ 16 < 2 ^ 14 = grind (arith, nat_tests, past) in
        let old = h o.place o.past o.at in
        let begun = o.begun in
        let x = o.number in
        let up = to-up st o.place z sent o.upto in
        let upto = o.upto in
        let top = to-up st o.place n sent (omega (arith, upto, w, long)) in
        omega (arith, less, old, begun, x, number, up, top, all)

sent-tight : (st a n : ℕ) (sent : List Entry) (f : Flight) (c : ChunkPayloadData) (w : Numbered) (after : List ℕ) → length sent ≡ n
    → a + length f.queue.inflight.chunks ≡ n → AreSteps st sent a f.queue.inflight.chunks → AreOn st sent a f.queue.inflight.chunks
    → IsIndexed (data_of c) sent → is_too_far f c ≡ false → IsTight st a sent → IsTight st a (fragment (data_of c) w after ∷ sent)
sent-tight st a n sent f c w after long total steps on index far h = grind (arith, nat_tests, begun-tight, both, grown-tight, negated, same-is)

-- after a call of the sender, by what stood before it
pub tight-after : (st a n : ℕ) (sent more : List Entry) (t : Transmission) (call : SenderCall) → IsMoreBy (sent_by call t) sent more → IsAccepted call t
    → AreIndexed more → length sent ≡ n → a + length t.flight.queue.inflight.chunks ≡ n → AreSteps st sent a t.flight.queue.inflight.chunks
    → AreOn st sent a t.flight.queue.inflight.chunks → IsTight st a sent → IsTight st a more
tight-after st a n sent more t (outgoing.sends now) grown accepted indexed long total steps on h = by (next_chunk now t) refl grown
  where
    by : (o : Option ChunkPayloadData) → o ≡ next_chunk now t → IsMoreBy o sent more → IsTight st a more
    by None is g = ended-tight st a sent more g h
    by (Some c) is g =
        subst (IsTight st a) (sym g.2)
        (sent-tight st a n sent t.flight c g.0 g.1 long total steps on (subst AreIndexed g.2 indexed).0 (not-far t now c is accepted) h)
tight-after st a n sent more t call grown accepted indexed long total steps on h = ended-tight st a sent more grown h
