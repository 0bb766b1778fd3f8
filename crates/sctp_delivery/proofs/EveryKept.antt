-- Sessions of every call, on a stream that goes on: each TSN that came was taken, or is of a message that is gone; and what is lost of unordered
-- messages is of such. A message is gone that was abandoned, or of which a chunk was dropped.
use Rattle.sctp_delivery.proofs.Names.{common_steps, ◌≡◌, ℕ, suc, ◌+◌, ◌-◌, ◌<◌, ◌≤◌, ◌^◌, Bool, true, false, List, [], ◌∷◌, length, map, Option, Some, None}
use Rattle.sctp_delivery.proofs.Names.{inl, inr, ⊤, refl, ap, sym, subst, ◌∙◌, arith, ◌||◌, ◌==◌, if◌then◌else◌, nat_eq, filter, list_any, list_any_at}
use Rattle.sctp_delivery.proofs.Names.{list_all, sum_by, nat_tests, cases_lt, or-left, or-right, or-split, same-is, same-yes, not_both, eq-eqb, at_or_before}
use Rattle.sctp_delivery.proofs.Names.{tsn, distance, distance-tsn, ChunkPayloadData, Data, data_of, data_chunk, forward_tsn, ForwardTsn, New, has_tsn}
use Rattle.sctp_delivery.proofs.Names.{has_come, filter_of, with_filter, with_tsn, Reassembly, InboundStream, stream_of, Reception, Stand, Message, held_weight}
use Rattle.sctp_delivery.proofs.Names.{is_on, is_complete, is_one_message, was_taken, Contains, Limits, Session, SenderCall, SenderFollows, ReceiverCall}
use Rattle.sctp_delivery.proofs.Names.{ReceiverFollows, IsRunFrom, AllPass-from_list_all, slice_index_or, AreMade, AreMessages, made_after, after_forward_tsn}
use Rattle.sctp_delivery.proofs.Names.{at_start, reads_nothing, message_read, none-some, set_weight}
use Rattle.sctp_receiver.specs.Inbound.{numbers_of}
use Rattle.sctp_receiver.specs.Receiver.{after_discard, close_stream, repeat_tsn}
use Rattle.sctp_receiver.specs.Resets.{reset_stream}
use Rattle.sctp_receiver.proofs.StreamCosts.{are_apart}
use Rattle.sctp_delivery.specs.EveryCall.{ReceiverDoes, ReceiverOther, as_receiver_run, closes_incoming, discards, of_receiving, passes_over, resets_incoming}
use Rattle.sctp_delivery.specs.EveryEnd.{IsReadOn, dropped_by}
use Rattle.sctp_delivery.specs.EveryOrder.{breaks}
use Rattle.sctp_delivery.specs.ReceiverCalls as incoming
use Rattle.sctp_delivery.proofs.AbandonedMessages.{AreAmong, AreMarkedGone, flight_of}
use Rattle.sctp_delivery.proofs.ArrivedTsns.{IsArrived}
use Rattle.sctp_delivery.proofs.Cases.{at-if, at-test, by-test}
use Rattle.sctp_delivery.proofs.Delivered.{EachSent, each-from, each-sent-on, found-sent-on, next_tsn, single-on}
use Rattle.sctp_delivery.proofs.Every.{Every, every-at, every-contained, every-of-all}
use Rattle.sctp_delivery.proofs.Even as held
use Rattle.sctp_delivery.proofs.Even.{Fits, IsEven, Leaves, Puts, even-of, lonely, lonely-kind, lonely-less, lonely-light, sets-light}
use Rattle.sctp_delivery.proofs.EveryRuns.{discard-arrived}
use Rattle.sctp_delivery.proofs.EverySettled.{found-read}
use Rattle.sctp_delivery.proofs.InTheEnd.{some-of, unread-of}
use Rattle.sctp_delivery.proofs.KeptSets.{IsUnordered, OnlyFirst}
use Rattle.sctp_delivery.proofs.UnorderedGone as unordered_gone
use Rattle.sctp_delivery.proofs.UnorderedGone.{IsNeat, neat-kept, neat-more, pushed-neat}
use Rattle.sctp_delivery.proofs.MessagePlaces.{IsEntryAt, is_of_stream, place-tsn}
use Rattle.sctp_delivery.proofs.OrderedEntries.{AreIndexedOn, AreJoined}
use Rattle.sctp_delivery.proofs.PassedMessages.{AreCutGone, ArePassing, AreTakenOrGone, EndsMessage, IsMadePassing, IsPassing, is_gone}
use Rattle.sctp_delivery.proofs.PassingCalls as passing_calls
use Rattle.sctp_delivery.proofs.PassingCalls.{IsGone, made-passing, passing-later, placed-each}
use Rattle.sctp_delivery.proofs.GivenTsns.{rest-run}
use Rattle.sctp_delivery.proofs.Queues.{IsOnceMore}
use Rattle.sctp_delivery.proofs.ReadOnce.{count-none, none-count, one}
use Rattle.sctp_delivery.proofs.ReadOnce as read_once
use Rattle.sctp_delivery.proofs.SackLaws.{more-accepted}
use Rattle.sctp_delivery.proofs.SackSteps.{IsMadeGiven}
use Rattle.sctp_delivery.proofs.Senders.{AreSentOn}
use Rattle.sctp_delivery.proofs.Sent.{Entry, IsLine, IsPart, Numbered, WasSent, fragment, part-itself, part-length, part-line, same-tsn, tail-part, terminal}
use Rattle.sctp_delivery.proofs.Sessions as sessions
use Rattle.sctp_delivery.proofs.Sessions.{IsTakenMade}
use Rattle.sctp_delivery.proofs.SpreadCalls.{IsSpreadOn, SpreadsOn}
use Rattle.sctp_delivery.proofs.SpreadEntries.{IsFor, IsPlacedOn}
use Rattle.sctp_delivery.proofs.TakenCalls.{follows-arrived, fresh-new, hears, more-arrived, not-among}
use Rattle.sctp_delivery.proofs.TsnPlaces.{base, IsGiven, same-place, upto-yes}
use Rattle.sctp_delivery.proofs.UnwrappedSessions.{IsAnswered}
use Rattle.sctp_delivery.proofs.Whole.{AreWholeOn, IsWholeOn}

-- ## Entries by their places

abbrev is_gone_entry : List ℕ → Entry → Bool
is_gone_entry gone terminal = true
is_gone_entry gone (fragment d w after) = is_gone gone w.place

-- the entry at a place is a terminal chunk, or of a message that is gone
abbrev pub gone_at : List ℕ → List Entry → ℕ → Bool
gone_at gone [] y = y == 0
gone_at gone (x ∷ xs) y = if length (x ∷ xs) == y then is_gone_entry gone x else gone_at gone xs y

at-part : (gone : List ℕ) (x : Entry) (xs ys : List Entry) → IsPart (x ∷ xs) ys → gone_at gone ys (length (x ∷ xs)) ≡ is_gone_entry gone x
at-part gone x xs [] p = let n = ap length p in absurd (omega (arith, n))
at-part gone x xs (y ∷ ys) (inl e) = subst (λ zs. gone_at gone zs (length (x ∷ xs)) ≡ is_gone_entry gone x) e
    (ap (λ b. if b then is_gone_entry gone x else gone_at gone xs (length (x ∷ xs))) (same-yes (length (x ∷ xs))))
at-part gone x xs (y ∷ ys) (inr p) =
    let lt = part-length ys (x ∷ xs) p in
    let other : (length (y ∷ ys) == length (x ∷ xs)) ≡ false = grind (arith, nat_tests, lt) in
    ap (λ b. if b then is_gone_entry gone y else gone_at gone ys (length (x ∷ xs))) other ∙ at-part gone x xs ys p

at-among : (gone more : List ℕ) → AreAmong gone more → (xs : List Entry) (y : ℕ) → gone_at gone xs y ≡ true → gone_at more xs y ≡ true
at-among gone more a [] y e = e
at-among gone more a (x ∷ xs) y e =
    at-test (λ b. (if b then is_gone_entry gone x else gone_at gone xs y) ≡ true → (if b then is_gone_entry more x else gone_at more xs y) ≡ true)
    (length (x ∷ xs) == y) (λ _ h. here x h) (λ _ h. at-among gone more a xs y h) e
  where
    here : (x : Entry) → is_gone_entry gone x ≡ true → is_gone_entry more x ≡ true
    here terminal h = refl
    here (fragment d w after) h = a w.place h

at-within : (gone : List ℕ) (xs : List Entry) (y : ℕ) → gone_at gone xs y ≡ true → y ≤ length xs
at-within gone [] y e = let z = same-is y 0 e in omega (arith, z)
at-within gone (x ∷ xs) y e =
    at-test (λ b. (if b then is_gone_entry gone x else gone_at gone xs y) ≡ true → y ≤ length (x ∷ xs)) (length (x ∷ xs) == y)
    (λ n h. let z = same-is (length (x ∷ xs)) y n in omega (arith, z))
    (λ n h. let z = at-within gone xs y h in omega (arith, z)) e

at-later : (gone more : List ℕ) → AreAmong gone more → (sent xs : List Entry) → IsOnceMore sent xs → (y : ℕ) → gone_at gone sent y ≡ true
    → gone_at more xs y ≡ true
at-later h0 h1 h2 h3 h4 h5 h6 h7 = grind (arith, nat_tests, common_steps, at-among, at-within)

-- ## Messages that are not ordered ones of a stream

abbrev pub elsewhere : ℕ → List Entry → List ℕ
elsewhere st [] = []
elsewhere st (terminal ∷ xs) = elsewhere st xs
elsewhere st (fragment d w after ∷ xs) = if is_of_stream st d then elsewhere st xs else w.place ∷ elsewhere st xs

elsewhere-more : (st : ℕ) (x : Entry) (xs : List Entry) → AreAmong (elsewhere st xs) (elsewhere st (x ∷ xs))
elsewhere-more h0 h1 h2 h3 h4 = grind (arith, nat_tests, common_steps, or-right)

elsewhere-has : (st : ℕ) (d : Data) (w : Numbered) (after : List ℕ) (xs sent : List Entry) → IsPart (fragment d w after ∷ xs) sent
    → is_of_stream st d ≡ false → is_gone (elsewhere st sent) w.place ≡ true
elsewhere-has st d w after xs [] q off = let n = ap length q in absurd (omega (arith, n))
elsewhere-has st d w after xs (y ∷ ys) (inr q) off = elsewhere-more st y ys w.place (elsewhere-has st d w after xs ys q off)
elsewhere-has st d w after xs (y ∷ ys) (inl e) off = grind (arith, nat_tests, common_steps, or-left, same-yes)

-- each has an entry that is none
pub elsewhere-of : (st k : ℕ) (sent : List Entry) → is_gone (elsewhere st sent) k ≡ true → (d : Data) × (w : Numbered) × (after : List ℕ) × (xs : List Entry)
    × IsPart (fragment d w after ∷ xs) sent × (is_of_stream st d ≡ false) × (w.place ≡ k)
elsewhere-of st k [] e = absurd (not_both e)
elsewhere-of st k (terminal ∷ xs) e = let r = elsewhere-of st k xs e in (r.0, r.1, r.2, r.3, inr r.4, r.5, r.6)
elsewhere-of st k (fragment d w after ∷ xs) e = at-test (λ b. is_gone (if b then elsewhere st xs else w.place ∷ elsewhere st xs) k ≡ true
    → (e : Data) × (v : Numbered) × (rest : List ℕ) × (ys : List Entry) × IsPart (fragment e v rest ∷ ys) (fragment d w after ∷ xs)
    × (is_of_stream st e ≡ false) × (v.place ≡ k)) (is_of_stream st d)
    (λ on h. let r = elsewhere-of st k xs h in (r.0, r.1, r.2, r.3, inr r.4, r.5, r.6))
    (λ off h. elim (or-split (nat_eq k w.place) (is_gone (elsewhere st xs) k) h) [
      | inl s ↦ (d, w, after, xs, inl refl, off, sym (same-is k w.place s))
      | inr s ↦ let r = elsewhere-of st k xs s in (r.0, r.1, r.2, r.3, inr r.4, r.5, r.6)
    ]) e

-- these messages, or those
abbrev pub listed : Option (List ℕ) → ℕ → List Entry → List ℕ
listed None st sent = elsewhere st sent
listed (Some others) st sent = others

pub listed-more : (l : Option (List ℕ)) (st : ℕ) (sent more : List Entry) → IsOnceMore sent more → AreAmong (listed l st sent) (listed l st more)
listed-more h0 h1 h2 h3 h4 h5 h6 = grind (arith, nat_tests, common_steps, elsewhere-more)

-- a chunk that the call drops, and that had not come, is of one of these messages
abbrev pub IsDropOf : List ℕ → List Entry → Session → ReceiverOther → Type 0
IsDropOf gone sent s (discards c) = (w : Numbered) (after : List ℕ) (xs : List Entry) → IsPart (fragment (data_of c) w after ∷ xs) sent
    → has_come c.tsn (filter_of s.receiving.receiver) ≡ false → is_gone gone w.place ≡ true
IsDropOf gone sent s (closes_incoming stream) = ⊤
IsDropOf gone sent s (resets_incoming stream last) = ⊤
IsDropOf gone sent s (passes_over g) = ⊤

-- where the stream goes on, it is not an ordered one of it
pub drops-elsewhere : (st : ℕ) (gone : List ℕ) (sent : List Entry) (s : Session) (opened : Bool) (call : ReceiverOther)
    → AreAmong (elsewhere st sent) gone → breaks opened st (of_receiving call) ≡ false → IsDropOf gone sent s call
drops-elsewhere h0 h1 h2 h3 h4 h5 h6 h7 = grind (arith, nat_tests, common_steps, elsewhere-has)

-- ## What is known of a TSN: it was taken, or is of a message that is gone

abbrev pub place_in : ℕ → ℕ → ℕ
place_in first t = distance (tsn (base first) 0) t

abbrev pub known_so : ℕ → List ℕ → List Entry → Session → ℕ → Bool
known_so first gone sent s t = was_taken t s || gone_at gone sent (place_in first t)

module _ (ws : List Numbered) (first : ℕ) (sent : List Entry) (line : IsLine ws first sent) (n : ℕ) (long : length sent ≡ n) (few : n < 2 ^ 31)
    (gone : List ℕ) (s : Session) where
  place-of : (k : ℕ) → k ≤ n → place_in first (tsn (base first) k) ≡ k
  place-of k le = distance-tsn (base first) 0 k (omega arith) (omega (arith, le, few)) ∙ (let e : k - 0 ≡ k = omega arith in e)

  number : (d : Data) (w : Numbered) (after : List ℕ) (xs : List Entry) → IsPart (fragment d w after ∷ xs) sent
      → (d.tsn ≡ tsn (base first) (length xs + 1)) × (length xs + 1 ≤ n)
  number d w after xs q = grind (arith, nat_tests, common_steps, part-line, part-length)

  gone-of : (x : Entry) (xs : List Entry) → IsPart (x ∷ xs) sent → gone_at gone sent (place_in first (tsn (base first) (length xs + 1))) ≡ is_gone_entry gone x
  gone-of x xs q =
      let l = part-length sent (x ∷ xs) q in
      let plus : length xs + 1 ≡ length (x ∷ xs) = omega arith in
      let is = place-of (length xs + 1) (omega (arith, l, long)) ∙ plus in
      ap (gone_at gone sent) is ∙ at-part gone x xs sent q

  -- a fragment at a known place
  pub known-entry : (d : Data) (w : Numbered) (after : List ℕ) (xs : List Entry) → IsPart (fragment d w after ∷ xs) sent
      → known_so first gone sent s (tsn (base first) (length xs + 1)) ≡ true → (was_taken d.tsn s || is_gone gone w.place) ≡ true
  known-entry d w after xs q e =
      let t = tsn (base first) (length xs + 1) in
      elim (or-split (was_taken t s) (gone_at gone sent (place_in first t)) e) [
        | inl h ↦ or-left (was_taken d.tsn s) (is_gone gone w.place) (ap (λ u. was_taken u s) (number d w after xs q).0 ∙ h)
        | inr h ↦ or-right (was_taken d.tsn s) (is_gone gone w.place) (sym (gone-of (fragment d w after) xs q) ∙ h)
      ]

  -- where all fragments up to a place were taken, or are gone
  pub known-upto : (zs : List Entry) → IsPart zs sent → AreTakenOrGone gone s zs → (k : ℕ) → k ≤ length zs
      → known_so first gone sent s (tsn (base first) k) ≡ true
  known-upto [] q c k le =
      let zero' : k ≡ 0 = omega (arith, le) in
      or-right (was_taken (tsn (base first) k) s) (gone_at gone sent (place_in first (tsn (base first) k)))
      (subst (λ j. gone_at gone sent (place_in first (tsn (base first) j)) ≡ true) (sym zero')
      (ap (gone_at gone sent) (place-of 0 (omega arith)) ∙ at-zero sent))
    where
      at-zero : (xs : List Entry) → gone_at gone xs 0 ≡ true
      at-zero [] = refl
      at-zero (x ∷ xs) =
          let other : (length (x ∷ xs) == 0) ≡ false = grind (arith, nat_tests) in
          ap (λ b. if b then is_gone_entry gone x else gone_at gone xs 0) other ∙ at-zero xs
  known-upto (z ∷ zs) q c k le = elim (cases_lt k (length (z ∷ zs))) [
    | inl lt ↦ known-upto zs (tail-part sent zs z q) (rest z c) k (omega (arith, lt))
    | inr ge ↦
        let it : length zs + 1 ≡ k = omega (arith, ge, le) in
        subst (λ j. known_so first gone sent s (tsn (base first) j) ≡ true) it (here z q c)
  ]
    where
      rest : (z : Entry) → AreTakenOrGone gone s (z ∷ zs) → AreTakenOrGone gone s zs
      rest terminal c = c
      rest (fragment d w after) c = c.1

      here : (z : Entry) → IsPart (z ∷ zs) sent → AreTakenOrGone gone s (z ∷ zs) → known_so first gone sent s (tsn (base first) (length zs + 1)) ≡ true
      here terminal q c = grind (arith, nat_tests, common_steps, or-right, gone-of)
      here (fragment d w after) q c =
          let t = tsn (base first) (length zs + 1) in
          elim (or-split (was_taken d.tsn s) (is_gone gone w.place) c.0) [
            | inl h ↦ or-left (was_taken t s) (gone_at gone sent (place_in first t)) (ap (λ u. was_taken u s) (sym (number d w after zs q).0) ∙ h)
            | inr h ↦ or-right (was_taken t s) (gone_at gone sent (place_in first t)) (gone-of (fragment d w after) zs q ∙ h)
          ]

-- the message of a chunk in flight, by its TSN
flight-tells : (on : ℕ → Bool) (first n : ℕ) (sent : List Entry) → length sent ≡ n → n < 2 ^ 31 → (a : ℕ) (cs : List ChunkPayloadData) → a + length cs ≤ n
    → IsRunFrom (tsn (base first) (a + 1)) cs → Every (IsPlacedOn on first sent) cs → (d : Data) (w : Numbered) (after : List ℕ) (xs : List Entry)
    → IsPart (fragment d w after ∷ xs) sent → d.tsn ≡ tsn (base first) (length xs + 1) → a < length xs + 1 → length xs + 1 ≤ a + length cs
    → is_gone (map (λ c. c.message_id) (filter (has_tsn d.tsn) cs)) w.place ≡ true
flight-tells on first n sent long few a [] total run placed d w after xs q is lt le = absurd (omega (arith, lt, le))
flight-tells on first n sent long few a (c ∷ cs) total run placed d w after xs q is lt le = elim (cases_lt (a + 1) (length xs + 1)) [
  | inl up ↦
      let ih = flight-tells on first n sent long few (a + 1) cs (omega (arith, total)) r.1 placed.1 d w after xs q is up (omega (arith, le)) in
      at-if (λ z. is_gone (map (λ (c : ChunkPayloadData). c.message_id) z) w.place ≡ true) (has_tsn d.tsn c)
      (λ _. or-right (nat_eq w.place c.message_id) (is_gone (map (λ (c : ChunkPayloadData). c.message_id) (filter (has_tsn d.tsn) cs)) w.place) ih)
      (λ _. ih)
  | inr ge ↦
      let at : a + 1 ≡ length xs + 1 = omega (arith, lt, ge) in
      let i = placed.0 in
      let same = passing_calls.entry-at on first n sent long few c (a + 1) i r.0 (omega arith) (omega (arith, total)) (fragment d w after ∷ xs) q
      (omega (arith, at)) in
      let message : w.place ≡ c.message_id = own i.entry i.entries i.for' same in
      let there : has_tsn d.tsn c ≡ true = eq-eqb c.tsn d.tsn (r.0 ∙ ap (tsn (base first)) at ∙ sym is) in
      subst (λ b. is_gone (map (λ (c : ChunkPayloadData). c.message_id) (if b then c ∷ filter (has_tsn d.tsn) cs else filter (has_tsn d.tsn) cs))
      w.place ≡ true)
      (sym there)
      (or-left (nat_eq w.place c.message_id) (is_gone (map (λ (c : ChunkPayloadData). c.message_id) (filter (has_tsn d.tsn) cs)) w.place)
      (subst (λ m. (w.place == m) ≡ true) message (same-yes w.place)))
]
  where
    r : (c.tsn ≡ tsn (base first) (a + 1)) × IsRunFrom (tsn (base first) (a + 1 + 1)) cs
    r = rest-run (base first) a c cs run

    own : (x : Entry) (ys : List Entry) → IsFor c x → x ∷ ys ≡ fragment d w after ∷ xs → w.place ≡ c.message_id
    own terminal ys f e = cc
    own (fragment e v rest) ys f same = let it : v ≡ w = cc in ap (λ (u : Numbered). u.place) (sym it) ∙ f.0

-- ## A session

-- where these messages are gone
pub record IsTold (st first n : ℕ) (gone : List ℕ) (s : Session) (sent : List Entry) : Type 0 where
  pub known : IsArrived (base first) n (known_so first gone sent s) s.receiving.receiver.cumulative_tsn s.receiving.receiver.beyond
  pub passing : ArePassing (base first) gone s sent
  pub even : IsEven st (IsGone gone sent) (IsNeat (base first) n) s.receiving

-- where the receiver and what was made stay as they are
pub told-beside : (st first n : ℕ) (gone : List ℕ) (s t : Session) (sent : List Entry) → t.receiving ≡ s.receiving → t.made ≡ s.made
    → IsTold st first n gone s sent → IsTold st first n gone t sent
told-beside st first n gone s t sent same made h = record {
  known = subst (λ (y : Stand). IsArrived (base first) n (λ u. list_any (has_tsn u) y.accepted || gone_at gone sent (place_in first u))
      y.receiver.cumulative_tsn y.receiver.beyond) (sym same) h.known;
  passing = subst (Every (IsMadePassing (base first) gone t sent)) (sym made)
      (passing-later (base first) gone gone s t sent sent (λ m e. e) (λ k e. ap (λ (y : Stand). list_any (has_tsn k) y.accepted) same ∙ e) (inl refl) s.made
      h.passing);
  even = subst (IsEven st (IsGone gone sent) (IsNeat (base first) n)) (sym same) h.even;
}

pub told-first : (st first size max most : ℕ) (limits : Option Limits) (gone : List ℕ) → first < 2 ^ 32
    → IsTold st first 0 gone (at_start first size max most limits) []
told-first st first size max most limits gone small = grind (arith, nat_tests, common_steps)

-- what was read on a stream whose numbers go on
pub whole-on : (on : ℕ → Bool) (first : ℕ) (s : Session) (ns : List Numbered) (sent : List Entry) (st : ℕ) → on st ≡ true → length sent < 2 ^ 32
    → IsLine ns first sent → AreIndexedOn on sent → AreSentOn on sent s.made → AreMessages s → AreMade s → sessions.AreOn s
    → AreWholeOn sent st s.receiving.read
whole-on on first s ns sent st o few line indexed made whole all there = every-of-all (IsWholeOn sent st) s.receiving.read (λ k m lt same.
    let it = slice_index_or s.receiving.read k m in
    let complete = AllPass-from_list_all (λ x. is_complete x.fragments) s.receiving.read whole.0 k m lt in
    let gave = each-sent-on on sent s.made it.fragments made (all k m lt) in (
      complete,
      only it complete (AllPass-from_list_all (λ x. is_one_message x.fragments) s.receiving.read whole.1 k m lt) gave
          (AllPass-from_list_all (λ x. list_all (is_on x.stream) x.fragments) s.receiving.read there k m lt) (ap on same ∙ o),
      gave,
    ))
  where
    only : (m : Message) → is_complete m.fragments ≡ true → is_one_message m.fragments ≡ true → EachSent sent m.fragments
        → list_all (is_on m.stream) m.fragments ≡ true → on m.stream ≡ true → OnlyFirst m.fragments
    only m complete one gave here o' = by m.fragments refl
      where
        by : (cs : List ChunkPayloadData) → m.fragments ≡ cs → OnlyFirst cs
        by [] is = tt
        by (c ∷ cs) is = single-on ns first sent 0 line on indexed m complete one (each-from sent few m.fragments gave) here o' c cs is

-- ## A call

module _ (on dropped : ℕ → Bool) (st first n : ℕ) (few : n < 2 ^ 31) (old : Session) (ns : List Numbered) (sent : List Entry)
    (i : IsSpreadOn on dropped first n old ns sent) (gone : List ℕ) (answered : IsAnswered st first n sent i.step.numbered.acked old)
    (h : IsTold st first n gone old sent) where
  abbrev p : ℕ
  p = base first

  abbrev r : Reception
  r = old.receiving.receiver

  abbrev o : Option InboundStream
  o = stream_of st r

  abbrev line : IsLine ns first sent
  line = i.holds.held.stands.queued.line

  -- what is acknowledged has come
  least : i.step.numbered.acked ≤ h.known.place
  least = grind (arith, nat_tests, common_steps, same-place)

  came : (d : Data) (w : Numbered) (after : List ℕ) (xs : List Entry) → IsPart (fragment d w after ∷ xs) sent → length xs + 1 ≤ h.known.place
      → (was_taken d.tsn old || is_gone gone w.place) ≡ true
  came d w after xs q le = known-entry ns first sent line n i.long few gone old d w after xs q (h.known.so_far (length xs + 1) (omega arith) le)

  -- of the sender
  pub sender-told : (call : SenderCall) (new : Session) (few' : n + distance (next_tsn old) (next_tsn new) < 2 ^ 31) → SenderFollows call old new
      → (x : SpreadsOn on dropped first n call old new ns sent i) (more : List ℕ) → AreAmong gone more
      → AreMarkedGone more (flight_of old).queue.inflight.chunks → IsTold st first (n + distance (next_tsn old) (next_tsn new)) more new x.more
  sender-told call new few' f x more later marked =
      let m = n + distance (next_tsn old) (next_tsn new) in
      let same : new.receiving ≡ old.receiving = ap (λ (s : Session). s.receiving) f.after in
      let before = passing-later p gone more old old sent sent later (λ k e. e) (inl refl) old.made h.passing in
      record {
        known = subst (λ (y : Stand). IsArrived p m (λ u. list_any (has_tsn u) y.accepted || gone_at more x.more (place_in first u))
            y.receiver.cumulative_tsn y.receiver.beyond) (sym same)
            (more-arrived p n m (known_so first gone sent old) (known_so first more x.more old) r.cumulative_tsn r.beyond (omega arith) (grows x.more x.once)
            h.known);
        passing = subst (Every (IsMadePassing p more new x.more)) (sym (ap (λ (s : Session). s.made) f.after))
            (passing-later p more more old new sent x.more (λ k e. e) (λ k e. ap (λ (y : Stand). list_any (has_tsn k) y.accepted) same ∙ e) x.once
            (made_after call old.sending.sender old.made)
            (made-passing on dropped first n old ns sent more i few before marked
            (λ d w after xs q le. wider d w (came d w after xs q (omega (arith, le, least)))) call f.accepted));
        even = subst (IsEven st (IsGone more x.more) (IsNeat p m)) (sym same)
            (even-of st (IsGone gone sent) (IsGone more x.more) (IsNeat p n) (IsNeat p m) old.receiving (gone-more x.more x.once)
            (λ q e. neat-more p n few m q (omega arith) e) h.even);
      }
    where
      wider : (d : Data) (w : Numbered) → (was_taken d.tsn old || is_gone gone w.place) ≡ true → (was_taken d.tsn old || is_gone more w.place) ≡ true
      wider d w e = grind (arith, nat_tests, common_steps, or-split, or-left, or-right)

      grows : (xs : List Entry) → IsOnceMore sent xs → (t : ℕ) → known_so first gone sent old t ≡ true → known_so first more xs old t ≡ true
      grows xs once t e = grind (arith, nat_tests, common_steps, or-split, or-left, or-right, at-later)

      part-more : (xs : List Entry) → IsOnceMore sent xs → (ys : List Entry) → IsPart ys sent → IsPart ys xs
      part-more xs (inl e) ys q = subst (IsPart ys) (sym e) q
      part-more xs (inr e) ys q = subst (IsPart ys) (sym e.1) (inr q)

      gone-more : (xs : List Entry) → IsOnceMore sent xs → (c : ChunkPayloadData) → IsGone gone sent c → IsGone more xs c
      gone-more xs once c g = grind (arith, nat_tests, common_steps, part-more)

  -- it is of one of the messages that the call tells
  pub drops-told : (call : ReceiverOther) → ((m : ℕ) → is_gone (dropped_by call old) m ≡ true → is_gone gone m ≡ true) → IsDropOf gone sent old call
  drops-told (discards c) covers = λ w after xs q new'.
      let num = number ns first sent line n i.long few gone old (data_of c) w after xs q in
      let x = i.step.numbered in
      let far : h.known.place < length xs + 1 = grind (arith, nat_tests, common_steps, cases_lt, not_both, or-left, upto-yes) in
      let all = x.total in
      let tells = flight-tells on first n sent i.long few x.acked (flight_of old).queue.inflight.chunks (omega (arith, all)) x.run
      (placed-each on first sent (flight_of old).queue.inflight.chunks i.holds.held.stands.known) (data_of c) w after xs q num.0
      (omega (arith, far, least)) (omega (arith, all, num.1)) in
      covers w.place (ap (λ b. is_gone (if b then [] else map (λ (d : ChunkPayloadData). d.message_id)
      (filter (has_tsn c.tsn) (flight_of old).queue.inflight.chunks)) w.place) new' ∙ tells)
  drops-told (closes_incoming stream) covers = tt
  drops-told (resets_incoming stream last) covers = tt
  drops-told (passes_over g) covers = tt

  -- of the receiver
  module _ (cut : AreCutGone gone sent) (made : IsTakenMade old) (whole : AreWholeOn sent st old.receiving.read) where
    was-made : (d : Data) → Contains old.made (data_chunk d) → WasSent sent d
    was-made d c = found-sent-on on sent old.made d i.holds.made c

    abbrev joined : AreJoined sent
    joined = i.holds.held.stands.queued.joined

    neat-of : (l : InboundStream) → o ≡ Some l → IsNeat p n l.queue.held
    neat-of l found = (subst (held.Sorted st (IsGone gone sent) (IsNeat p n)) found h.even.so.holds).1

    -- of a TSN that was not taken no unordered fragment is unassembled
    fresh : (t : ℕ) → list_any (has_tsn t) old.receiving.accepted ≡ false → (l : InboundStream) → o ≡ Some l
        → list_any (has_tsn t) l.queue.held.unassembled ≡ false
    fresh t off l found =
        let v = one t in
        let z = none-count t old.receiving.accepted off in
        let fewer = read_once.fewer t (is_on st) old.receiving.accepted in
        let less = lonely-less v (filter (is_on st) old.receiving.accepted) in
        let law = h.even.so.weighs (lonely v) (lonely-light v) in
        let is = ap (held_weight (lonely v)) found in
        let x = lonely-kind v l.queue.held.unassembled (neat-of l found).rest.kinds in
        count-none t l.queue.held.unassembled (omega (arith, z, fewer, less, law, is, x))

    puts : (c : ChunkPayloadData) (said : Bool) → Contains old.made (data_chunk (data_of c)) → has_come c.tsn (filter_of r) ≡ false
        → Puts st (IsGone gone sent) (IsNeat p n) c said o
    puts c said in' new' = by o refl
      where
        g : IsGiven p n c.tsn
        g = every-contained (IsMadeGiven p n) old.made (data_chunk (data_of c)) in' i.step.made

        by : (q : Option InboundStream) → o ≡ q → Puts st (IsGone gone sent) (IsNeat p n) c said q
        by None e = tt
        by (Some l) e = λ there q pushes neat. pushed-neat p n few c g.place (omega arith, g.within, g.is) said l.queue q pushes
            (λ u. fresh c.tsn (not-among p n r old.receiving.accepted c.tsn new' i.step.taken.each) l e) neat

    leaves : (g : ForwardTsn) → Contains old.made (forward_tsn g) → Leaves st (IsGone gone sent) (IsNeat p n) g o
    leaves g in' = by o refl
      where
        pass : IsPassing p gone old sent g
        pass = every-contained (IsMadePassing p gone old sent) old.made (forward_tsn g) in' h.passing

        by : (q : Option InboundStream) → o ≡ q → Leaves st (IsGone gone sent) (IsNeat p n) g q
        by None e = tt
        by (Some l) e = every-of-all (λ c. at_or_before c.tsn g.new_cumulative_tsn ≡ true → IsGone gone sent c) l.queue.held.unassembled (λ x c lt b.
            let xs = l.queue.held.unassembled in
            let y = slice_index_or xs x c in
            let sent' = every-at (λ (z : ChunkPayloadData). WasSent sent (data_of z)) xs x c lt
            (unordered_gone.was-unassembled ns first sent line joined n i.long few gone cut old was-made made i.step.taken.apart st whole h.even l e) in
            unordered_gone.gone-unassembled ns first sent line joined n i.long few gone cut old was-made made i.step.taken.apart st whole h.even l e
            pass.passed pass.part pass.ends pass.came y sent' (every-at IsUnordered xs x c lt (neat-of l e).rest.kinds)
            (some-of y.tsn xs (list_any_at (has_tsn y.tsn) xs x c lt (same-yes y.tsn))) (ap (at_or_before y.tsn) (sym pass.is) ∙ b))

    -- all up to a FORWARD-TSN is known
    passed-known : (g : ForwardTsn) → Contains old.made (forward_tsn g) → (v : IsGiven p n g.new_cumulative_tsn) (k : ℕ) → k ≤ v.place
        → known_so first gone sent old (tsn p k) ≡ true
    passed-known g in' v k le = grind (arith, nat_tests, common_steps, every-contained, part-length, same-place, known-upto)

    module _ (new : Session) (apart : are_apart (numbers_of r.streams) ≡ true) where
      -- what is known stays so
      stays : ((t : ℕ) → was_taken t old ≡ true → was_taken t new ≡ true) → (t : ℕ) → known_so first gone sent old t ≡ true
          → known_so first gone sent new t ≡ true
      stays grows t e = grind (arith, nat_tests, common_steps, or-split, or-left, or-right)

      after : new.made ≡ old.made → ((t : ℕ) → was_taken t old ≡ true → was_taken t new ≡ true)
          → IsArrived p n (known_so first gone sent new) new.receiving.receiver.cumulative_tsn new.receiving.receiver.beyond
          → IsEven st (IsGone gone sent) (IsNeat p n) new.receiving → IsTold st first n gone new sent
      after same grows known even = record {
        known = known;
        passing = subst (Every (IsMadePassing p gone new sent)) (sym same)
            (passing-later p gone gone old new sent sent (λ m e. e) grows (inl refl) old.made h.passing);
        even = even;
      }

      fits : (call : ReceiverCall) → ReceiverFollows call old new → Fits st (IsGone gone sent) (IsNeat p n) (incoming.as_run call) o
      fits (incoming.takes c (New said)) f = puts c said f.handed (fresh-new c.tsn said r f.accepted.1)
      fits (incoming.follows g) f = leaves g f.handed
      fits call f = tt

      pub receiver-told : (call : ReceiverCall) → ReceiverFollows call old new → IsTold st first n gone new sent
      receiver-told call f =
          let grows = more-accepted call old new f in
          after (ap (λ (s : Session). s.made) f.after) grows
          (hears p n (known_so first gone sent old) (known_so first gone sent new) old new few i.step.made (stays grows)
          (λ t e. or-left (was_taken t new) (gone_at gone sent (place_in first t)) e) h.known call f
          (λ g in' same v k le. stays grows (tsn p k) (passed-known g in' v k le)))
          (held.step st (IsGone gone sent) (IsNeat p n) (neat-kept p n few) (incoming.as_run call) old.receiving new.receiving apart (fits call f) f.step
          h.even)

      -- where no chunk is taken
      quiet : (call : ReceiverOther) → ReceiverDoes call old new → new.receiving.accepted ≡ old.receiving.accepted
          → Fits st (IsGone gone sent) (IsNeat p n) (as_receiver_run call) o → (q : Reception) → new.receiving.receiver ≡ q
          → IsArrived p n (known_so first gone sent old) q.cumulative_tsn q.beyond → IsTold st first n gone new sent
      quiet call f same fit q is arrived =
          let grows : (t : ℕ) → was_taken t old ≡ true → was_taken t new ≡ true = λ t e. ap (list_any (has_tsn t)) same ∙ e in
          after (ap (λ (s : Session). s.made) f.after) grows
          (more-arrived p n n (known_so first gone sent old) (known_so first gone sent new) new.receiving.receiver.cumulative_tsn new.receiving.receiver.beyond
          (omega arith) (stays grows)
          (subst (λ (z : Reception). IsArrived p n (known_so first gone sent old) z.cumulative_tsn z.beyond) (sym is) arrived))
          (held.step st (IsGone gone sent) (IsNeat p n) (neat-kept p n few) (as_receiver_run call) old.receiving new.receiving apart fit f.step h.even)

      -- a chunk that is dropped is of a message that is gone
      dropped-known : (c : ChunkPayloadData) → Contains old.made (data_chunk (data_of c)) → has_come c.tsn (filter_of r) ≡ false
          → IsDropOf gone sent old (discards c) → known_so first gone sent old c.tsn ≡ true
      dropped-known c in' new' covers =
          let w = was-made (data_of c) in' in
          let num = number ns first sent line n i.long few gone old (data_of c) w.0 w.1 w.2 w.3 in
          or-right (was_taken c.tsn old) (gone_at gone sent (place_in first c.tsn))
          (ap (λ t. gone_at gone sent (place_in first t)) num.0 ∙ gone-of ns first sent line n i.long few gone old (fragment (data_of c) w.0 w.1) w.2 w.3
          ∙ covers w.0 w.1 w.2 w.3 new')

      pub other-told : (opened : Bool) (call : ReceiverOther) → ReceiverDoes call old new → breaks opened st (of_receiving call) ≡ false
          → IsDropOf gone sent old call → IsTold st first n gone new sent
      other-told opened (discards c) f off covers = by-test (has_come c.tsn (filter_of r))
          (λ e.
          quiet (discards c) f f.step.accepted tt (repeat_tsn c.tsn r)
          (f.step.receiver ∙ ap (λ b. if b then repeat_tsn c.tsn r else with_filter (with_tsn c.tsn (filter_of r)) r) e) h.known)
          (λ e.
          let given = every-contained (IsMadeGiven p n) old.made (data_chunk (data_of c)) f.handed i.step.made in
          quiet (discards c) f f.step.accepted tt (after_discard c.tsn r) f.step.receiver
          (discard-arrived p n (known_so first gone sent old) r few c.tsn given h.known (dropped-known c f.handed e covers)))
      other-told opened (closes_incoming stream) f off covers =
          quiet (closes_incoming stream) f f.step.accepted off (close_stream stream r) f.step.receiver h.known
      other-told opened (resets_incoming stream last) f off covers =
          quiet (resets_incoming stream last) f f.step.accepted off (reset_stream stream last r) f.step.receiver h.known
      other-told opened (passes_over g) f off covers =
          quiet (passes_over g) f f.step.accepted (leaves g f.handed) (after_forward_tsn g r) f.step.receiver
          (follows-arrived p n (known_so first gone sent old) (known_so first gone sent old) old old few i.step.made (λ t e. e)
          (λ t e. or-left (was_taken t old) (gone_at gone sent (place_in first t)) e) h.known g f.handed (passed-known g f.handed))

    -- ## In the end: nothing is in flight, no message is partially sent, and nothing is to be read

    module _ (landed : (flight_of old).queue.inflight.chunks ≡ []) (ends : 0 < n → EndsMessage sent) (unread : reads_nothing r ≡ true) where
      all-came : AreTakenOrGone gone old sent
      all-came = passing_calls.all-came gone old sent (λ d w after xs q.
          let m = (number ns first sent line n i.long few gone old d w after xs q).1 in
          let total = i.step.numbered.total in
          came d w after xs q (omega (arith, m, total, ap length landed, least)))

      -- of an unordered message that is not gone each fragment was read
      module _ (d : Data) (w : Numbered) (after : List ℕ) (xs : List Entry) (part : IsPart (fragment d w after ∷ xs) sent)
          (there : d.stream_identifier ≡ st) (kind : d.unordered ≡ true) (alive : is_gone gone w.place ≡ false) where
        abbrev y : ℕ
        y = suc (length xs)

        abbrev t : ℕ
        t = tsn p y

        it : IsEntryAt sent y d w
        it = record { after = after; entries = xs; part = part; place = refl }

        within : y ≤ n
        within = let l = part-length sent (fragment d w after ∷ xs) part in let long = i.long in omega (arith, l, long)

        is : d.tsn ≡ t
        is = place-tsn ns first sent line joined n i.long few y d w it

        taken : was_taken t old ≡ true
        taken = elim (or-split (was_taken d.tsn old) (is_gone gone w.place) (passing_calls.came-at gone old sent all-came d w after xs part)) [
          | inl e ↦ ap (λ u. was_taken u old) (sym is) ∙ e
          | inr e ↦ absurd (not_both (sym alive ∙ e))
        ]

        none-held : held_weight (lonely (one t)) o ≡ 0
        none-held = by o refl
          where
            none-complete : (q : Reassembly) → message_read q ≡ None → q.unordered ≡ []
            none-complete q none = grind (arith, nat_tests, common_steps, none-some)

            by : (l : Option InboundStream) → o ≡ l → held_weight (lonely (one t)) l ≡ 0
            by None e = refl
            by (Some l) e =
                let q = l.queue.held in
                let v = one t in
                let h' = subst (held.Sorted st (IsGone gone sent) (IsNeat p n)) e h.even.so.holds in
                let empty = ap (λ us. sum_by (set_weight (lonely v)) us) (none-complete q (unread-of st r.streams l unread e)) in
                let left : sum_by v q.unassembled ≤ 0 = elim (cases_lt 0 (sum_by v q.unassembled)) [
                  | inl lt ↦
                      let le = within in
                      absurd (unordered_gone.none-alive ns first sent line joined n i.long few gone cut old was-made made i.step.taken.apart st whole h.even l e
                      sent
                      (part-itself sent) (ends (omega (arith, le))) all-came y d w it (omega (arith, le, i.long)) kind alive lt)
                  | inr ge ↦ ge
                ] in
                omega (
                  arith,
                  sets-light (lonely v) (lonely-light v) q.ordered h'.0,
                  empty,
                  lonely-kind v q.unassembled h'.1.rest.kinds,
                  left,
                )

        pub ended-read : IsReadOn st d old.receiving.read
        ended-read =
            let on' = unordered_gone.taken-there ns first sent line joined n i.long few gone cut old was-made made i.step.taken.apart st whole h.even y d w
            it there taken in
            let law = unordered_gone.law ns first sent line joined n i.long few gone cut old was-made made i.step.taken.apart st whole h.even y d w it kind in
            let none = unordered_gone.none-lost ns first sent line joined n i.long few gone cut old was-made made i.step.taken.apart st whole h.even y d w
            it alive in
            let x = found-read st t old.receiving.read (omega (arith, on', law, none, none-held)) in
            let gave = (every-contained (IsWholeOn sent st) old.receiving.read x.0 x.1 whole x.2).2 in
            let was = every-contained (λ (c : ChunkPayloadData). WasSent sent (data_of c)) x.0.fragments x.3 x.4 gave in
            let few' = i.long in (
              x.0,
              x.1,
              x.2,
              x.3,
              x.4,
              same-tsn ns first sent (omega (arith, few', few)) line (data_of x.3) d was (w, after, xs, part)
                  (same-is x.3.tsn t x.5 ∙ sym is),
            )
