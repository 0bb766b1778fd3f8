-- How old what was made is, where fewer than 2^31 TSNs were given out.
use Rattle.sctp_delivery.proofs.Names.{common_steps, ◌≡◌, ℕ, zero, suc, ◌+◌, ◌%◌, ◌<◌, ◌≤◌, ◌^◌, true, List, [], ◌∷◌, ◌++◌, length, map, Option, Some, None}
use Rattle.sctp_delivery.proofs.Names.{refl, ap, sym, subst, arith, nat_tests, inl, inr, ⊤, list_all, Contains, slice_index_or, ChunkPayloadData, Data, data_of}
use Rattle.sctp_delivery.proofs.Names.{Made, data_chunk, forward_tsn, with_chunk, tsn, distance-tsn, next_chunk, made_after, Session, SenderCall, of_sender}
use Rattle.sctp_util.specs.Serial.{comes_before, distance}
use Rattle.std.proofs.lemmas.List.Elements.{Contains-append_right}
use Rattle.sctp_delivery.specs.Recent.{Aged, aged_after, older}
use Rattle.sctp_delivery.specs.SenderCalls as outgoing
use Rattle.sctp_delivery.proofs.Calls.{sent_by}
use Rattle.sctp_delivery.proofs.Delivered.{next_tsn}
use Rattle.sctp_delivery.proofs.Every.{Every, every-of}
use Rattle.sctp_delivery.proofs.Queues.{IsEnded}
use Rattle.sctp_delivery.proofs.SackSteps.{IsMadeGiven}
use Rattle.sctp_delivery.proofs.Senders.{IsMoreBy}
use Rattle.sctp_delivery.proofs.Sent.{Entry, IsLine, IsPart, Numbered, fragment, part-length, part-line, terminal}
use Rattle.sctp_delivery.proofs.TsnPlaces.{IsGiven, base}
use Rattle.sctp_delivery.proofs.YoungReads.{both-pass, from-test, is_recent}

-- ## What was made has an age

abbrev pub IsAged : ℕ → List Aged → Made → Type 0
IsAged n ages m = (age : ℕ) × (age ≤ n) × Contains ages (record { chunk = m; age = age })

abbrev pub IsEntryAged : ℕ → List Aged → Entry → Type 0
IsEntryAged n ages terminal = ⊤
IsEntryAged n ages (fragment d w after) = IsAged n ages (data_chunk d)

abbrev pub IsForwardAged : ℕ → List Aged → Made → Type 0
IsForwardAged n ages (data_chunk d) = ⊤
IsForwardAged n ages (forward_tsn f) = IsAged n ages (forward_tsn f)

contains-mapped : (f : Aged → Aged) (xs : List Aged) (k : ℕ) (x : Aged) → k < length xs → slice_index_or xs k x ≡ x → Contains (map f xs) (f x)
contains-mapped f [] k x lt e = absurd (omega (arith, lt))
contains-mapped f (y ∷ ys) zero x lt e = (0, omega arith, ap f e)
contains-mapped f (y ∷ ys) (suc k) x lt e =
    let h = contains-mapped f ys k x (omega (arith, lt)) e in
    let le = h.1 in
    (suc h.0, omega (arith, le), h.2)

aged-later : (n given : ℕ) (xs ages : List Aged) (m : Made) → IsAged n ages m → IsAged (n + given) (xs ++ map (older given) ages) m
aged-later n given xs ages m h =
    let le = h.1 in
    let c = h.2 in (
      h.0 + given,
      omega (arith, le),
      Contains-append_right xs (map (older given) ages) (record { chunk = m; age = h.0 + given })
          (contains-mapped (older given) ages c.0 (record { chunk = m; age = h.0 }) c.1 c.2),
    )

pub entry-later : (n given : ℕ) (xs ages : List Aged) (e : Entry) → IsEntryAged n ages e → IsEntryAged (n + given) (xs ++ map (older given) ages) e
entry-later n given xs ages terminal h = tt
entry-later n given xs ages (fragment d w after) h = aged-later n given xs ages (data_chunk d) h

pub forward-later : (n given : ℕ) (xs ages : List Aged) (m : Made) → IsForwardAged n ages m → IsForwardAged (n + given) (xs ++ map (older given) ages) m
forward-later n given xs ages (data_chunk d) h = tt
forward-later n given xs ages (forward_tsn f) h = aged-later n given xs ages (forward_tsn f) h

pub part-aged : (n : ℕ) (ages : List Aged) (sent xs : List Entry) (d : Data) (w : Numbered) (after : List ℕ) → IsPart (fragment d w after ∷ xs) sent
    → Every (IsEntryAged n ages) sent → IsAged n ages (data_chunk d)
part-aged n ages [] xs d w after p e = absurd (cc)
part-aged n ages (x ∷ sent) xs d w after (inl same) e = (subst (Every (IsEntryAged n ages)) (sym same) e).0
part-aged n ages (x ∷ sent) xs d w after (inr p) e = part-aged n ages sent xs d w after p e.1

-- all that was made so far
abbrev pub AreAged : ℕ → List Aged → List Entry → List Made → Type 0
AreAged n ages sent ms = Every (IsEntryAged n ages) sent × Every (IsForwardAged n ages) ms

-- a TSN of one of the first places is before the next one
pub given-before : (p n t next : ℕ) → n < 2 ^ 31 → next ≡ tsn p (n + 1) → IsGiven p n t → comes_before t next ≡ true
unfolding comes_before
given-before p n t next few is g = grind (arith, nat_tests, common_steps, distance-tsn)

place-before : (first n k t next : ℕ) → n < 2 ^ 31 → k < n → next ≡ (first + n) % 2 ^ 32 → t ≡ (first + k) % 2 ^ 32 → comes_before t next ≡ true
unfolding comes_before distance
place-before first n k t next few lt is at = grind (arith, nat_tests, common_steps)

-- so it is of what is held, after more TSNs, too
pub all-before : (first m next st : ℕ) (ns : List Numbered) (sent : List Entry) → IsLine ns first sent → length sent ≤ m → m < 2 ^ 31
    → next ≡ (first + m) % 2 ^ 32 → (cs : List ChunkPayloadData) → list_all (is_recent sent st) cs ≡ true
    → list_all (λ c. comes_before c.tsn next) cs ≡ true
all-before first m next st ns sent line le few is cs e = grind (arith, nat_tests, common_steps, both-pass, from-test, part-line, part-length, place-before)

-- ## Ages after a call of the sender

module _ (first n : ℕ) (old new : Session) (sent more : List Entry) (ages : List Aged) (upto : length more ≤ n + distance (next_tsn old) (next_tsn new)) where
  abbrev now_given : ℕ
  now_given = distance (next_tsn old) (next_tsn new)

  entries-later : (xs : List Aged) → Every (IsEntryAged n ages) sent → Every (IsEntryAged (n + now_given) (xs ++ map (older now_given) ages)) sent
  entries-later xs h = every-of (IsEntryAged n ages) (IsEntryAged (n + now_given) (xs ++ map (older now_given) ages)) (entry-later n now_given xs ages) sent h

  forwards-later : (xs : List Aged) → Every (IsForwardAged n ages) old.made → Every (IsForwardAged (n + now_given) (xs ++ map (older now_given) ages)) old.made
  forwards-later xs h =
      every-of (IsForwardAged n ages) (IsForwardAged (n + now_given) (xs ++ map (older now_given) ages)) (forward-later n now_given xs ages) old.made h

  calm-aged : (xs : List Aged) → IsEnded sent more → Every (IsEntryAged n ages) sent
      → Every (IsEntryAged (n + now_given) (xs ++ map (older now_given) ages)) more
  calm-aged xs (inl e) h = subst (Every (IsEntryAged (n + now_given) (xs ++ map (older now_given) ages))) (sym e) (entries-later xs h)
  calm-aged xs (inr e) h = subst (Every (IsEntryAged (n + now_given) (xs ++ map (older now_given) ages))) (sym e) (tt, entries-later xs h)

  pub aged-then : (c : SenderCall) → IsMoreBy (sent_by c old.sending.sender) sent more
      → Every (IsMadeGiven (base first) (n + now_given)) (made_after c old.sending.sender old.made) → AreAged n ages sent old.made
      → AreAged (n + now_given) (aged_after (of_sender c) old new ages) more (made_after c old.sending.sender old.made)
  aged-then (outgoing.sends now) g y h = by (next_chunk now old.sending.sender) g
    where
      by : (o : Option ChunkPayloadData) → IsMoreBy o sent more
          → AreAged (n + now_given) (map (λ m. record { chunk = m; age = 1 }) (with_chunk o []) ++ map (older now_given) ages) more (with_chunk o old.made)
      by None g = (calm-aged [] g h.0, forwards-later [] h.1)
      by (Some c) g =
          let one : List Aged = record { chunk = data_chunk (data_of c); age = 1 } ∷ [] in
          let long = ap length g.2 in
          let all = upto in (
            subst (Every (IsEntryAged (n + now_given) (one ++ map (older now_given) ages))) (sym g.2)
                ((1, omega (arith, long, all), (0, omega arith, refl)), entries-later one h.0),
            (tt, forwards-later one h.1),
          )
  aged-then (outgoing.resends tsn now c) g y h = (calm-aged [] g h.0, (tt, forwards-later [] h.1))
  aged-then (outgoing.forwards t c) g y h =
      let one : List Aged = record { chunk = forward_tsn c; age = 1 } ∷ [] in
      let pos = y.0.some in
      let within = y.0.within in
      (calm-aged one g h.0, ((1, omega (arith, pos, within), (0, omega arith, refl)), forwards-later one h.1))
  aged-then (outgoing.forwards_within bytes c) g y h =
      let one : List Aged = record { chunk = forward_tsn c; age = 1 } ∷ [] in
      let pos = y.0.some in
      let within = y.0.within in
      (calm-aged one g h.0, ((1, omega (arith, pos, within), (0, omega arith, refl)), forwards-later one h.1))
  aged-then c g y h = (calm-aged [] g h.0, forwards-later [] h.1)
