-- In each session of few TSNs: each FORWARD-TSN passes abandoned messages, and what was taken, alone (RFC 3758 3.5).
use Rattle.sctp_delivery.proofs.Names.{◌≡◌, ℕ, ◌+◌, ◌<◌, ◌≤◌, ◌^◌, Bool, true, not, List, [], ◌∷◌, ◌++◌, length, take, Option, Some, None, inl, inr, refl, ap}
use Rattle.sctp_delivery.proofs.Names.{sym, subst, ◌∙◌, arith, suc, ◌||◌, if◌then◌else◌, nat_le, option_map, ◌==◌, filter, cases_lt, nat_tests, none-some}
use Rattle.sctp_delivery.proofs.Names.{common_steps, at_or_before, distance, or-left, or-right, or-split, same-is, some-same, not_both, tsn, ChunkPayloadData}
use Rattle.sctp_delivery.proofs.Names.{ForwardTsn, Data, data_of, ends, Limits, ahead, can_skip_to, is_end, last_end, skip_end, Flight, found-passes, IsRunFrom}
use Rattle.sctp_delivery.proofs.Names.{abandoned_by, ReceiverCall, passes, was_passed, was_taken, IsAccepted, Made, SenderCall, data_chunk, forward_tsn}
use Rattle.sctp_delivery.proofs.Names.{made_after, ReceiverFollows, SenderFollows, Session, at_start}
use Rattle.std.proofs.Common.{◌⊎◌}
use Rattle.sctp_delivery.proofs.Cases.{all_streams, at-test, by-test}
use Rattle.sctp_delivery.proofs.AbandonedMessages.{AreAmong, AreMarkedGone, cut-later, flight_of, gone-left, gone-right, marked-later, stays-cut, stays-marked}
use Rattle.sctp_delivery.proofs.AbandonedMessages.{AreBegunOrGone, begun-later, stays-begun-or-gone, AreBelow, below-after, by-below}
use Rattle.sctp_delivery.proofs.Calls.{numbered_after}
use Rattle.sctp_delivery.proofs.Delivered.{next_tsn}
use Rattle.sctp_delivery.proofs.Every.{Every, every-joined, every-of, every-taken, one-of, every-found, every-tested}
use Rattle.sctp_delivery.proofs.InFlight.{AreKnownOn, IsKnownOn}
use Rattle.sctp_delivery.proofs.Numbers.{number_of}
use Rattle.sctp_delivery.proofs.PassedMessages.{AreCutGone, ArePassing, AreTakenOrGone, EndsMessage, IsMadePassing, IsPassing, is_gone, EndsGone}
use Rattle.sctp_delivery.proofs.GivenTsns.{IsPassable, last-every, lead, passable-end, passable-skip, rest-run}
use Rattle.sctp_delivery.proofs.Queues.{IsOnceMore}
use Rattle.sctp_delivery.proofs.SackLaws.{more-accepted}
use Rattle.sctp_delivery.proofs.SackSteps.{none_dropped}
use Rattle.sctp_delivery.proofs.Sent.{Entry, IsPart, Numbered, fragment, part-length, part-line, same-parts, terminal, IsLine, WasSent, part-itself, tail-part}
use Rattle.sctp_delivery.proofs.SpreadCalls.{IsSpread, IsSpreadOn, Spreads}
use Rattle.sctp_delivery.proofs.SpreadEntries.{IsFor, IsPlacedOn, begun_to, is_at, to-part}
use Rattle.sctp_delivery.proofs.TsnPlaces.{at-or-before, base, same-place}
use Rattle.sctp_delivery.proofs.MessagePlaces.{IsEntryAt, is_of_stream, same-message}
use Rattle.sctp_delivery.proofs.MessagePlaces as sets
use Rattle.sctp_delivery.proofs.OrderedEntries.{AreJoined, ends_on}
use Rattle.sctp_delivery.proofs.UnwrappedHolds as holds

-- ## Parts

-- as many entries as that
pub part-of-length : (sent : List Entry) (k : ℕ) → k ≤ length sent → (ys : List Entry) × IsPart ys sent × (length ys ≡ k)
part-of-length [] k le = ([], refl, omega (arith, le))
part-of-length (x ∷ xs) k le = elim (cases_lt k (length (x ∷ xs))) [
  | inl lt ↦ let r = part-of-length xs k (omega (arith, lt)) in (r.0, inr r.1, r.2)
  | inr ge ↦ (x ∷ xs, inl refl, omega (arith, le, ge))
]

-- the shorter of two parts is one of the longer
pub shorter-part : (sent ys zs : List Entry) → IsPart ys sent → IsPart zs sent → length ys ≤ length zs → IsPart ys zs
shorter-part [] ys zs p q le = subst (IsPart ys) (sym q) p
shorter-part (x ∷ xs) ys zs p (inl q) le = subst (IsPart ys) (sym q) p
shorter-part (x ∷ xs) ys zs (inr p) (inr q) le = shorter-part xs ys zs p q le
shorter-part (x ∷ xs) ys zs (inl p) (inr q) le = let a = ap length p in let b = part-length xs zs q in absurd (omega (arith, a, b, le))

pub part-then : (xs ys zs : List Entry) → IsPart ys xs → IsPart zs ys → IsPart zs xs
part-then [] ys zs p q = subst (IsPart zs) p q
part-then (x ∷ xs) ys zs (inl e) q = subst (IsPart zs) e q
part-then (x ∷ xs) ys zs (inr p) q = inr (part-then xs ys zs p q)

module _ (gone : List ℕ) (s : Session) where
  pub came-at : (zs : List Entry) → AreTakenOrGone gone s zs → (d : Data) (w : Numbered) (after : List ℕ) (xs : List Entry)
      → IsPart (fragment d w after ∷ xs) zs → (was_taken d.tsn s || is_gone gone w.place) ≡ true
  came-at [] c d w after xs p = absurd (let n = ap length p in omega (arith, n))
  came-at (z ∷ zs) c d w after xs (inl p) = (subst (AreTakenOrGone gone s) (sym p) c).0
  came-at (terminal ∷ zs) c d w after xs (inr p) = came-at zs c d w after xs p
  came-at (fragment e v rest ∷ zs) c d w after xs (inr p) = came-at zs c.1 d w after xs p

  pub all-came : (zs : List Entry) → ((d : Data) (w : Numbered) (after : List ℕ) (xs : List Entry) → IsPart (fragment d w after ∷ xs) zs
      → (was_taken d.tsn s || is_gone gone w.place) ≡ true) → AreTakenOrGone gone s zs
  all-came [] h = tt
  all-came (terminal ∷ zs) h = all-came zs (λ d w after xs p. h d w after xs (inr p))
  all-came (fragment d w after ∷ zs) h = (h d w after zs (inl refl), all-came zs (λ e v rest xs p. h e v rest xs (inr p)))

-- ## Later

pub came-later : (gone more : List ℕ) (s t : Session) → AreAmong gone more → ((k : ℕ) → was_taken k s ≡ true → was_taken k t ≡ true)
    → (zs : List Entry) → AreTakenOrGone gone s zs → AreTakenOrGone more t zs
came-later gone more s t a grows zs c = grind (arith, nat_tests, common_steps, all-came, or-split, came-at, or-left, or-right)

pub passing-later : (p : ℕ) (gone more : List ℕ) (s t : Session) (sent xs : List Entry) → AreAmong gone more
    → ((k : ℕ) → was_taken k s ≡ true → was_taken k t ≡ true) → IsOnceMore sent xs → (ms : List Made) → Every (IsMadePassing p gone s sent) ms
    → Every (IsMadePassing p more t xs) ms
passing-later p gone more s t sent xs a grows once ms h = every-of (IsMadePassing p gone s sent) (IsMadePassing p more t xs) one ms h
  where
    part : (ys : List Entry) → IsPart ys sent → IsOnceMore sent xs → IsPart ys xs
    part ys i (inl e) = subst (IsPart ys) (sym e) i
    part ys i (inr e) = subst (IsPart ys) (sym e.1) (inr i)

    one : (m : Made) → IsMadePassing p gone s sent m → IsMadePassing p more t xs m
    one h0 h1 = grind (arith, nat_tests, common_steps, part, came-later)

-- ## What is acknowledged

module _ (first n : ℕ) (s : Session) (ns : List Numbered) (sent : List Entry) (gone : List ℕ) (i : IsSpread first n s ns sent) (few : n < 2 ^ 31)
    (passing : ArePassing (base first) gone s sent) where
  abbrev IsHere : Data → Numbered → List ℕ → List Entry → Type 0
  IsHere d w after xs = IsPart (fragment d w after ∷ xs) sent

  within : (d : Data) (w : Numbered) (after : List ℕ) (xs : List Entry) → IsHere d w after xs → length xs + 1 ≤ n
  within d w after xs p = let a = part-length sent (fragment d w after ∷ xs) p in omega (arith, a)

  number : (d : Data) (w : Numbered) (after : List ℕ) (xs : List Entry) → IsHere d w after xs → d.tsn ≡ tsn (base first) (length xs + 1)
  number d w after xs p = grind (arith, nat_tests, common_steps, part-line ns first sent (fragment d w after ∷ xs) p i.holds.held.stands.queued.line)

  -- what a FORWARD-TSN passes was taken, or is gone
  passed-came : (d : Data) (w : Numbered) (after : List ℕ) (xs : List Entry) → IsHere d w after xs → was_passed d.tsn s ≡ true
      → (was_taken d.tsn s || is_gone gone w.place) ≡ true
  passed-came d w after xs p e =
      let one = one-of (IsMadePassing (base first) gone s sent) (passes d.tsn) s.made e passing in
      by one.0 one.1 one.2
    where
      by : (m : Made) → passes d.tsn m ≡ true → IsMadePassing (base first) gone s sent m → (was_taken d.tsn s || is_gone gone w.place) ≡ true
      by (data_chunk x) h g = absurd (not_both h)
      by (forward_tsn f) h g =
          let long = part-length sent g.passed g.part in
          let order : nat_le (length xs + 1) (length g.passed) ≡ true =
          sym (at-or-before (base first) (length xs + 1) (length g.passed) (omega (arith, within d w after xs p, few)) (omega (arith, long, few)))
          ∙ ap (λ t. at_or_before t (tsn (base first) (length g.passed))) (sym (number d w after xs p)) ∙ ap (at_or_before d.tsn) (sym g.is) ∙ h in
          let le : length xs + 1 ≤ length g.passed = grind (arith, nat_tests) in
          came-at gone s g.passed g.came d w after xs
          (shorter-part sent (fragment d w after ∷ xs) g.passed p g.part (omega (arith, le)))

  -- up to the place acknowledged
  pub acknowledged-came : (d : Data) (w : Numbered) (after : List ℕ) (xs : List Entry) → IsHere d w after xs → length xs + 1 ≤ i.step.numbered.acked
      → (was_taken d.tsn s || is_gone gone w.place) ≡ true
  acknowledged-came d w after xs p le =
      let a = i.step.settled in
      let m = i.step.numbered in
      let far = a.within in
      let same : a.place ≡ m.acked = same-place (base first) a.place m.acked (omega (arith, far, few)) (omega (arith, few)) (sym a.is ∙ m.acked_is) in
      let known = subst (λ t. (was_taken t s || was_passed t s) ≡ true) (sym (number d w after xs p))
      (a.so_far (length xs + 1) (omega arith) (omega (arith, le, same))) in
      elim (or-split (was_taken d.tsn s) (was_passed d.tsn s) known) [
        | inl e ↦ or-left (was_taken d.tsn s) (is_gone gone w.place) e
        | inr e ↦ passed-came d w after xs p e
      ]

  -- where nothing is in flight, each fragment
  pub all-taken-or-gone : (flight_of s).queue.inflight.chunks ≡ [] → AreTakenOrGone gone s sent
  all-taken-or-gone none = all-came gone s sent (λ d w after xs p.
      acknowledged-came d w after xs p (omega (arith, ap length none, within d w after xs p)))

-- ## A FORWARD-TSN is made

pub placed-each : (on : ℕ → Bool) (first : ℕ) (sent : List Entry) (cs : List ChunkPayloadData) → AreKnownOn on first sent cs
    → Every (IsPlacedOn on first sent) cs
placed-each on first sent cs k = every-of (IsKnownOn on first sent) (IsPlacedOn on first sent) (λ c i. i.1) cs k

module _ (on : ℕ → Bool) (first n : ℕ) (sent : List Entry) (long : length sent ≡ n) (few : n < 2 ^ 31) where
  -- the entry of a chunk is the last of as many entries
  pub entry-at : (c : ChunkPayloadData) (place : ℕ) (i : IsPlacedOn on first sent c) → c.tsn ≡ tsn (base first) place → 0 < place → place ≤ n
      → (ys : List Entry)
      → IsPart ys sent → length ys ≡ place → i.entry ∷ i.entries ≡ ys
  entry-at c place i is some le ys p same =
      same-parts sent (i.entry ∷ i.entries) ys i.part p (omega (arith, part-length sent (i.entry ∷ i.entries) i.part, is, some, le, same, long, few))

  -- what is in flight in front, up to the first that is kept, is gone
  lead-gone : (gone : List ℕ) (a : ℕ) (cs : List ChunkPayloadData) → a + length cs ≤ n → IsRunFrom (tsn (base first) (a + 1)) cs
      → Every (IsPlacedOn on first sent) cs → AreMarkedGone gone cs → (d : Data) (w : Numbered) (after : List ℕ) (xs : List Entry)
      → IsPart (fragment d w after ∷ xs) sent → a < length xs + 1 → length xs + 1 ≤ a + lead cs → is_gone gone w.place ≡ true
  lead-gone gone a [] total run placed marked d w after xs p lt le = absurd (omega (arith, lt, le))
  lead-gone gone a (c ∷ cs) total run placed marked d w after xs p lt le =
      by-test c.abandoned
      (λ e. elim (cases_lt (a + 1) (length xs + 1)) [
        | inl up ↦
            let more = ap (λ b. if not b then 0 else lead cs + 1) e in
            (lead-gone gone (a + 1) cs (omega (arith, total)) r.1 placed.1 marked.1 d w after xs p) up (omega (arith, more, le))
        | inr ge ↦
            let i = placed.0 in
            let same = entry-at c (a + 1) i r.0 (omega arith) (omega (arith, total)) (fragment d w after ∷ xs) p (omega (arith, lt, ge)) in
            ap (is_gone gone) (own i.entry i.entries i.for' same) ∙ marked.0 e
      ])
      (λ e.
      absurd (omega (arith, ap (λ b. if not b then 0 else lead cs + 1) e, lt, le)))
    where
      r : (c.tsn ≡ tsn (base first) (a + 1)) × IsRunFrom (tsn (base first) (a + 1 + 1)) cs
      r = rest-run (base first) a c cs run

      own : (x : Entry) (ys : List Entry) → IsFor c x → x ∷ ys ≡ fragment d w after ∷ xs → w.place ≡ c.message_id
      own terminal ys f e = cc
      own (fragment e v rest) ys f same = let it : v ≡ w = cc in ap (λ (u : Numbered). u.place) (sym it) ∙ f.0

-- a chunk in flight has the TSN, and ends its message
record EndsThere (on : ℕ → Bool) (first : ℕ) (sent : List Entry) (t : ℕ) : Type 0 where
  chunk : ChunkPayloadData
  is : chunk.tsn ≡ t
  ends' : chunk.ending_fragment ≡ true
  placed : IsPlacedOn on first sent chunk

ends-end : (on : ℕ → Bool) (first : ℕ) (sent : List Entry) (t : ℕ) (f : Flight) → is_end t f ≡ true → AreKnownOn on first sent f.queue.inflight.chunks
    → EndsThere on first sent t
ends-end on first sent t f e known = grind (arith, nat_tests, common_steps, not_both, same-is, found-passes, every-found)

ends-skip : (on : ℕ → Bool) (first : ℕ) (sent : List Entry) (t u : ℕ) (f : Flight) → Some u ≡ skip_end t f → AreKnownOn on first sent f.queue.inflight.chunks
    → EndsThere on first sent u
ends-skip on first sent t u f is known = at-test (λ b. Some u ≡ (if b then option_map (λ (c : ChunkPayloadData). c.tsn) (last_end t f) else None) →
    EndsThere on first sent u) (can_skip_to t f)
    (λ e i. found (last_end t f) refl i)
    (λ e i. absurd (none-some u (sym i))) is
  where
    front : List ChunkPayloadData
    front = take (ahead f t) f.queue.inflight.chunks

    each : Every (λ (c : ChunkPayloadData). IsPlacedOn on first sent c × (ends c ≡ true)) (filter ends front)
    each = grind (arith, nat_tests, common_steps, every-tested, every-of, every-taken, placed-each)

    found : (o : Option ChunkPayloadData) → last_end t f ≡ o → Some u ≡ option_map (λ (c : ChunkPayloadData). c.tsn) o → EndsThere on first sent u
    found h0 h1 h2 = grind (arith, nat_tests, common_steps, none-some, last-every, each, some-same)

-- where what is acknowledged was taken, or is gone
module _ (on dropped : ℕ → Bool) (first n : ℕ) (s : Session) (ns : List Numbered) (sent : List Entry) (gone : List ℕ)
    (i : IsSpreadOn on dropped first n s ns sent) (few : n < 2 ^ 31)
    (passing : ArePassing (base first) gone s sent) (marked : AreMarkedGone gone (flight_of s).queue.inflight.chunks)
    (came : (d : Data) (w : Numbered) (after : List ℕ) (xs : List Entry) → IsPart (fragment d w after ∷ xs) sent → length xs + 1 ≤ i.step.numbered.acked
    → (was_taken d.tsn s || is_gone gone w.place) ≡ true) where
  passes-gone : (g : ForwardTsn) → IsPassable (base first) n (flight_of s) i.step.numbered few g.new_cumulative_tsn
      → EndsThere on first sent g.new_cumulative_tsn → IsPassing (base first) gone s sent g
  passes-gone g h end =
      let given = h.given in
      let le = given.within in
      let some = given.some in
      let long = i.long in
      let part = part-of-length sent given.place (omega (arith, le, long)) in
      let same = entry-at on first n sent long few end.chunk given.place end.placed (end.is ∙ given.is) some le part.0 part.1 part.2 in
      record {
        passed = part.0;
        part = part.1;
        is = given.is ∙ ap (tsn (base first)) (sym part.2);
        ends = subst EndsMessage same (at end.chunk end.placed.entry end.placed.entries end.placed.for' end.ends');
        came = all-came gone s part.0 (λ d w after xs p. here d w after xs (in-all part.0 part.1 d w after xs p)
            (let m = part-length part.0 (fragment d w after ∷ xs) p in omega (arith, m, part.2)));
      }
    where
      at : (c : ChunkPayloadData) (x : Entry) (xs : List Entry) → IsFor c x → c.ending_fragment ≡ true → EndsMessage (x ∷ xs)
      at c terminal xs f e = tt
      at c (fragment d w after) xs f e = f.1 ∙ e

      in-all : (ys : List Entry) → IsPart ys sent → (d : Data) (w : Numbered) (after : List ℕ) (xs : List Entry) → IsPart (fragment d w after ∷ xs) ys
          → IsPart (fragment d w after ∷ xs) sent
      in-all ys q d w after xs p = part-then sent ys (fragment d w after ∷ xs) q p

      here : (d : Data) (w : Numbered) (after : List ℕ) (xs : List Entry) → IsPart (fragment d w after ∷ xs) sent → length xs + 1 ≤ h.given.place
          → (was_taken d.tsn s || is_gone gone w.place) ≡ true
      here d w after xs p most = elim (cases_lt i.step.numbered.acked (length xs + 1)) [
        | inr le ↦ came d w after xs p le
        | inl lt ↦
            let total = i.step.numbered.total in
            let upto = h.upto in
            or-right (was_taken d.tsn s) (is_gone gone w.place)
            (lead-gone on first n sent i.long few gone i.step.numbered.acked (flight_of s).queue.inflight.chunks (omega (arith, total)) i.step.numbered.run
            (placed-each on first sent (flight_of s).queue.inflight.chunks i.holds.held.stands.known) marked d w after xs p lt (omega (arith, most, upto)))
      ]

  -- what a call makes
  pub made-passing : (call : SenderCall) → IsAccepted call s.sending.sender
      → Every (IsMadePassing (base first) gone s sent) (made_after call s.sending.sender s.made)
  made-passing h0 h1 = grind (arith, nat_tests, common_steps, passes-gone, passable-skip, ends-skip, passable-end, ends-end)

-- ## A call

-- what is so of a session in which the messages with these numbers were abandoned
pub record IsPassed (first : ℕ) (gone : List ℕ) (s : Session) (ns : List Numbered) (sent : List Entry) : Type 0 where
  pub marked : AreMarkedGone gone (flight_of s).queue.inflight.chunks
  pub cut : AreCutGone gone sent
  pub begun' : AreBegunOrGone gone (length ns) sent (flight_of s).queue.pending
  pub below : AreBelow (length ns) gone
  pub passing : ArePassing (base first) gone s sent

pub sender-passes : (first n : ℕ) (gone : List ℕ) (call : SenderCall) (old new : Session) (ns : List Numbered) (sent : List Entry)
    (i : IsSpread first n old ns sent) → n + distance (next_tsn old) (next_tsn new) < 2 ^ 31 → SenderFollows call old new
    → (x : Spreads first n call old new ns sent i) → IsPassed first gone old ns sent
    → IsPassed first (gone ++ abandoned_by call old.sending.sender) new (numbered_after call ns) x.more
sender-passes first n gone call old new ns sent i few f x h =
    let small : n < 2 ^ 31 = omega (arith, few) in
    let answered = abandoned_by call old.sending.sender in
    let more = gone ++ answered in
    let later : AreAmong gone more = gone-left gone answered in
    let among : AreAmong answered more = gone-right gone answered in
    let valid = i.step.valid in
    let marked = marked-later gone more later (flight_of old).queue.inflight.chunks h.marked in
    let before = passing-later (base first) gone more old old sent sent later (λ k e. e) (inl refl) old.made h.passing in
    record {
      marked = stays-marked more old new (record { ordered = valid.ordered; unordered = valid.unordered }) marked call among f;
      cut = stays-cut all_streams more first old new ns sent x.more i.holds x.spread.holds.held.stands.counted (cut-later gone more later sent h.cut) call
          among f x.grown;
      begun' = grind (arith, nat_tests, common_steps, stays-begun-or-gone, begun-later);
      below =
          below-after call ns more
          (every-joined (λ m. m < length ns) gone answered h.below
          (by-below ns first (λ s. number_of s old.sending.sender.streams) call old.sending.sender sent i.holds.held.stands));
      passing =
          subst (Every (IsMadePassing (base first) more new x.more)) (sym (ap (λ (s : Session). s.made) f.after))
          (passing-later (base first) more more old new sent x.more (λ m e. e) (λ k e. ap (was_taken k) f.after ∙ e) x.once
          (made_after call old.sending.sender old.made) (made-passing all_streams none_dropped first n old ns sent more i small before marked
          (acknowledged-came first n old ns sent more i small before) call f.accepted));
    }

pub receiver-passes : (first : ℕ) (gone : List ℕ) (call : ReceiverCall) (old new : Session) (ns : List Numbered) (sent : List Entry)
    → ReceiverFollows call old new → IsPassed first gone old ns sent → IsPassed first gone new ns sent
receiver-passes first gone call old new ns sent f h =
    let sender : new.sending ≡ old.sending = ap (λ (s : Session). s.sending) f.after in
    record {
      marked = subst (λ l. AreMarkedGone gone l.sender.flight.queue.inflight.chunks) (sym sender) h.marked;
      cut = h.cut;
      begun' = subst (λ l. AreBegunOrGone gone (length ns) sent l.sender.flight.queue.pending) (sym sender) h.begun';
      below = h.below;
      passing =
          subst (Every (IsMadePassing (base first) gone new sent)) (sym (ap (λ (s : Session). s.made) f.after))
          (passing-later (base first) gone gone old new sent sent (λ m e. e) (more-accepted call old new f) (inl refl) old.made h.passing);
    }

pub passed-first : (tsn size max most : ℕ) (limits : Option Limits) → IsPassed tsn [] (at_start tsn size max most limits) [] []
passed-first tsn size max most limits = record { marked = tt; cut = tt; begun' = λ m lt e. absurd (omega (arith, lt)); below = tt; passing = tt }

-- # Of an entry up to a place that a FORWARD-TSN goes to: its TSN was taken, or its message is gone, and then so are all fragments of it.

-- the chunk is of a message that is gone
abbrev pub IsGone : List ℕ → List Entry → ChunkPayloadData → Type 0
IsGone gone sent c = (y : ℕ) × (w : Numbered) × IsEntryAt sent y (data_of c) w × (is_gone gone w.place ≡ true)

-- what is no longer than one part is a part of it
taken-part : (gone : List ℕ) (s : Session) (passed : List Entry) (d : Data) (w : Numbered) (after : List ℕ) (xs : List Entry)
    → IsPart (fragment d w after ∷ xs) passed → AreTakenOrGone gone s passed → (was_taken d.tsn s || is_gone gone w.place) ≡ true
taken-part gone s [] d w after xs p t = cc
taken-part gone s (terminal ∷ ys) d w after xs (inl e) t = cc
taken-part gone s (terminal ∷ ys) d w after xs (inr p) t = taken-part gone s ys d w after xs p t
taken-part gone s (fragment e v rest ∷ ys) d w after xs (inl q) t = grind (arith, nat_tests)
taken-part gone s (fragment e v rest ∷ ys) d w after xs (inr p) t = taken-part gone s ys d w after xs p t.1

-- the entry at an ordered place of a stream: a fragment, or the terminal chunk behind one of a message that is gone
abbrev pub IsFragmentOf : ℕ → List Entry → ℕ → Type 0
IsFragmentOf st sent z = (d : Data) × (w : Numbered) × IsEntryAt sent z d w × (is_of_stream st d ≡ true)

abbrev pub IsCutOf : List ℕ → ℕ → List Entry → ℕ → Type 0
IsCutOf gone st sent z =
    (y : ℕ) × (d : Data) × (w : Numbered) × IsEntryAt sent y d w × (is_of_stream st d ≡ true) × (is_gone gone w.place ≡ true)
    × (begun_to st y sent ≡ begun_to st z sent)

module _ (gone : List ℕ) (st : ℕ) (sent : List Entry) where
  at-cut : (z : ℕ) (xs : List Entry) → IsPart (terminal ∷ xs) sent → ends_on st xs ≡ true → EndsGone gone xs → length (terminal ∷ xs) ≡ z
      → IsCutOf gone st sent z
  at-cut z [] p e g n = absurd g
  at-cut z (terminal ∷ zs) p e g n = absurd g
  at-cut z (fragment d w after ∷ zs) p e g n =
      let q = tail-part sent (fragment d w after ∷ zs) terminal p in (
        suc (length zs),
        d,
        w,
        record { after = after; entries = zs; part = q; place = refl },
        e,
        g.1,
        to-part st sent (fragment d w after ∷ zs) q ∙ sym (to-part st sent (terminal ∷ fragment d w after ∷ zs) p)
            ∙ ap (λ k. begun_to st k sent) n,
      )

  pub at-entry : (z : ℕ) (ys : List Entry) → IsPart ys sent → is_at st z ys ≡ true → AreCutGone gone ys
      → IsFragmentOf st sent z ⊎ IsCutOf gone st sent z
  at-entry z [] p e c = absurd (not_both e)
  at-entry z (terminal ∷ xs) p e c = at-test (λ b. (if b then ends_on st (terminal ∷ xs) else is_at st z xs) ≡ true → IsFragmentOf st sent z ⊎ IsCutOf
      gone st sent z) (length (terminal ∷ xs) == z)
      (λ n f. inr (at-cut z xs p f c.0 (same-is (length (terminal ∷ xs)) z n)))
      (λ n f. at-entry z xs (tail-part sent xs terminal p) f c.1) e
  at-entry z (fragment d w after ∷ xs) p e c = at-test (λ b. (if b then ends_on st (fragment d w after ∷ xs) else is_at st z xs) ≡ true → IsFragmentOf
      st sent z ⊎ IsCutOf gone st sent z) (length (fragment d w after ∷ xs) == z)
      (λ n f. inl (
        d,
        w,
        record { after = after; entries = xs; part = p; place = sym (same-is (length (fragment d w after ∷ xs)) z n) },
        f,
      ))
      (λ n f. at-entry z xs (tail-part sent xs (fragment d w after) p) f c) e

module _ (ws : List Numbered) (first : ℕ) (sent : List Entry) (line : IsLine ws first sent) (joined : AreJoined sent) (n : ℕ)
    (long : length sent ≡ n) (few : n < 2 ^ 31) (gone : List ℕ) (cut : AreCutGone gone sent) (s : Session) (passed : List Entry)
    (part : IsPart passed sent) (came : AreTakenOrGone gone s passed) where
  abbrev p : ℕ
  p = base first

  -- a fragment up to the place was taken, or its message is gone
  pub taken-or-gone : (z : ℕ) (d : Data) (w : Numbered) → IsEntryAt sent z d w → z ≤ length passed
      → (was_taken (tsn p z) s ≡ true) ⊎ (is_gone gone w.place ≡ true)
  taken-or-gone z d w i le = grind (arith, shorter-part, part-line, or-split, taken-part)

  module _ (st : ℕ) where
    abbrev Fits : ℕ → List ChunkPayloadData → Type 0
    Fits = holds.Fits p st n (λ k. begun_to st k sent) (λ k. is_at st k sent) (λ c. WasSent sent (data_of c))

    abbrev Rises : ℕ → ℕ → List ChunkPayloadData → Type 0
    Rises = holds.Rises p st n (λ k. begun_to st k sent) (λ k. is_at st k sent) (λ c. WasSent sent (data_of c))

    -- where a fragment of the message is of one that is gone, all are
    all-gone : (z : ℕ) (d : Data) (w : Numbered) → IsEntryAt sent z d w → is_of_stream st d ≡ true → is_gone gone w.place ≡ true
        → (i low : ℕ) (cs : List ChunkPayloadData) → Rises i low cs → begun_to st z sent ≡ i + 1 → Every (IsGone gone sent) cs
    all-gone z d w k on dead i low [] r e = tt
    all-gone z d w k on dead i low (c ∷ cs) r e =
        let o = r.0 in
        let x = sets.of-entry ws first sent line joined n long few st i c o in
        let same : w ≡ x.0 =
        same-message ws first sent line joined st z (o.before + 1) d (data_of c) w x.0 k x.1 on o.on (e ∙ sym o.begun) in (
          (o.before + 1, x.0, x.1, subst (λ (v : Numbered). is_gone gone v.place ≡ true) same dead),
          all-gone z d w k on dead i (o.before + 1) cs r.2 e,
        )

    pub resolved : (z : ℕ) → is_at st z sent ≡ true → z ≤ length passed
        → (was_taken (tsn p z) s ≡ true)
        ⊎ ((i : ℕ) (cs : List ChunkPayloadData) → Fits i cs → begun_to st z sent ≡ i + 1 → Every (IsGone gone sent) cs)
    resolved z e le = elim (at-entry gone st sent z sent (part-itself sent) e cut) [
      | inl h ↦ elim (taken-or-gone z h.0 h.1 h.2 le) [
        | inl t ↦ inl t
        | inr t ↦ inr (λ i cs fits count. all-gone z h.0 h.1 h.2 h.3 t i 0 cs fits count)
      ]
      | inr h ↦ inr (λ i cs fits count. all-gone h.0 h.1 h.2 h.3 h.4 h.5 i 0 cs fits (h.6 ∙ count))
    ]
