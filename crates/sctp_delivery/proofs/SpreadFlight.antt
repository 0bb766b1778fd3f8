-- What is in flight, place by place: how far the numbers of ordered messages are apart, and which of them a FORWARD-TSN names.
use Rattle.sctp_delivery.proofs.Names.{◌≡◌, ℕ, zero, suc, ◌+◌, ◌-◌, ◌%◌, ◌^◌, ◌<◌, ◌≤◌, Bool, true, false, List, [], ◌∷◌, length, take, inl, Option, Some, None}
use Rattle.sctp_delivery.proofs.Names.{refl, ap, sym, subst, ◌∙◌, arith, ⊤, ◌&&◌, if◌then◌else◌, nat_le, filter, nat_tests, none-some, some-same, tsn}
use Rattle.sctp_delivery.proofs.Names.{distance-tsn, ChunkPayloadData, ChunkForwardTsnStream, ForwardTsn, last_of, is_on, Name, ahead, is_kept, is_named}
use Rattle.sctp_delivery.proofs.Names.{is_pair_of, named_up_to, pairs_of, Flight, begins_ordered, first_ordered, is_ordered_on, is_too_far, past_number}
use Rattle.sctp_delivery.proofs.Names.{IsRunFrom, Made, data_chunk, forward_tsn}
use Rattle.std.proofs.Common.{◌⊎◌}
use Rattle.std.specs.List.{find}
use Rattle.sctp_delivery.proofs.GivenTsns.{IsNumbered, IsPassable, lead, rest-run}
use Rattle.sctp_delivery.proofs.Cases.{where-is}
use Rattle.sctp_delivery.proofs.InFlight.{AreKnownOn}
use Rattle.sctp_delivery.proofs.OrderedEntries.{IsLatest, begun_on}
use Rattle.sctp_delivery.proofs.Queues.{IsOnceMore}
use Rattle.sctp_delivery.proofs.Sent.{Entry, part-length, tail-part}
use Rattle.sctp_delivery.proofs.SpreadEntries.{IsPlacedOn, IsStep, at-more, at-part, begun_to, is_at, to-more, to-part, to-up}
use Rattle.sctp_delivery.proofs.TsnPlaces.{base}
use Rattle.sctp_delivery.proofs.Sessions.{unnot}

-- each chunk stands for the entry at the next place behind a
abbrev pub AreSteps : ℕ → List Entry → ℕ → List ChunkPayloadData → Type 0
AreSteps st sent a [] = ⊤
AreSteps st sent a (c ∷ cs) = IsStep st (begun_to st a sent) (begun_to st (a + 1) sent) c × AreSteps st sent (a + 1) cs

pub are-steps : (on : ℕ → Bool) (first n : ℕ) (sent : List Entry) → length sent ≡ n → n < 2 ^ 31 → (st : ℕ) → on st ≡ true → (a : ℕ)
    (cs : List ChunkPayloadData) → a + length cs ≡ n → IsRunFrom (tsn (base first) (a + 1)) cs → AreKnownOn on first sent cs → AreSteps st sent a cs
are-steps on first n sent long few st o a [] total run known = tt
are-steps on first n sent long few st o a (c ∷ cs) total run known =
    (here known.0.1, are-steps on first n sent long few st o (a + 1) cs (omega (arith, total)) r.1 known.1)
  where
    r : (c.tsn ≡ tsn (base first) (a + 1)) × IsRunFrom (tsn (base first) (a + 1 + 1)) cs
    r = rest-run (base first) a c cs run

    here : IsPlacedOn on first sent c → IsStep st (begun_to st a sent) (begun_to st (a + 1) sent) c
    here i =
        let within = part-length sent (i.entry ∷ i.entries) i.part in
        let number = i.number in
        let given = r.0 in
        let same : length i.entries ≡ a = omega (arith, number, given, within, long, few, total) in
        let next : length (i.entry ∷ i.entries) ≡ a + 1 = omega (arith, same) in
        let before : begun_on st i.entries ≡ begun_to st a sent =
        sym (to-part st sent i.entries (tail-part sent i.entries i.entry i.part)) ∙ ap (λ k. begun_to st k sent) same in
        let upto : begun_on st (i.entry ∷ i.entries) ≡ begun_to st (a + 1) sent =
        sym (to-part st sent (i.entry ∷ i.entries) i.part) ∙ ap (λ k. begun_to st k sent) next in
        subst (λ m. IsStep st (begun_to st a sent) m c) upto (subst (λ m. IsStep st m (begun_on st (i.entry ∷ i.entries)) c) before
        (where-is (on st) (IsStep st (begun_on st i.entries) (begun_on st (i.entry ∷ i.entries)) c) o (i.step st)))

-- whether it is an ordered one of the stream
abbrev pub AreOn : ℕ → List Entry → ℕ → List ChunkPayloadData → Type 0
AreOn st sent a [] = ⊤
AreOn st sent a (c ∷ cs) = (is_ordered_on st c ≡ is_at st (a + 1) sent) × AreOn st sent (a + 1) cs

pub are-on : (on : ℕ → Bool) (first n : ℕ) (sent : List Entry) → length sent ≡ n → n < 2 ^ 31 → (st a : ℕ) (cs : List ChunkPayloadData)
    → a + length cs ≡ n → IsRunFrom (tsn (base first) (a + 1)) cs → AreKnownOn on first sent cs → AreOn st sent a cs
are-on on first n sent long few st a [] total run known = tt
are-on on first n sent long few st a (c ∷ cs) total run known =
    let r = rest-run (base first) a c cs run in
    (here known.0.1 r.0, are-on on first n sent long few st (a + 1) cs (omega (arith, total)) r.1 known.1)
  where
    here : IsPlacedOn on first sent c → c.tsn ≡ tsn (base first) (a + 1) → is_ordered_on st c ≡ is_at st (a + 1) sent
    here i given =
        let within = part-length sent (i.entry ∷ i.entries) i.part in
        let number = i.number in
        let next : length (i.entry ∷ i.entries) ≡ a + 1 = omega (arith, number, given, within, long, few, total) in
        i.on st ∙ sym (at-part st sent (i.entry ∷ i.entries) i.part) ∙ ap (λ k. is_at st k sent) next

-- ## How far apart

-- the first ordered chunk of the stream
record IsFirst (st : ℕ) (sent : List Entry) (a e : ℕ) (d : ChunkPayloadData) : Type 0 where
  index : ℕ
  number : d.stream_sequence_number ≡ index % 2 ^ 16
  from : begun_to st a sent ≤ index + 1
  near : index ≤ begun_to st a sent
  within : index + 1 ≤ begun_to st e sent

module _ (st : ℕ) (sent : List Entry) where
  steps-few : (a e : ℕ) (cs : List ChunkPayloadData) → a + length cs ≡ e → AreSteps st sent a cs
      → begun_to st e sent ≤ begun_to st a sent + length cs
  steps-few a e [] total s = grind (arith, nat_tests)
  steps-few a e (c ∷ cs) total s = grind (arith, nat_tests, steps-few (a + 1) e cs (omega (arith, total)) s.1)

  steps-none : (a e : ℕ) (cs : List ChunkPayloadData) → a + length cs ≡ e → AreSteps st sent a cs → find (is_ordered_on st) cs ≡ None
      → begun_to st e sent ≡ begun_to st a sent
  steps-none a e [] total s f = let same : e ≡ a = omega (arith, total) in ap (λ k. begun_to st k sent) same
  steps-none a e (c ∷ cs) total s f = grind (arith, nat_tests, none-some, steps-none (a + 1) e cs (omega (arith, total)) s.1)

  steps-first : (a e : ℕ) (cs : List ChunkPayloadData) (d : ChunkPayloadData) → a + length cs ≡ e → AreSteps st sent a cs
      → find (is_ordered_on st) cs ≡ Some d → IsFirst st sent a e d
  steps-first a e [] d total s f = absurd (none-some d f)
  steps-first a e (c ∷ cs) d total s f = grind (arith, nat_tests, some-same, to-up, steps-first (a + 1) e cs d (omega (arith, total)) s.1)

  -- an ordered message that is next, and not too far
  pub near-next : (f : Flight) (c : ChunkPayloadData) (a n : ℕ) → AreSteps st sent a f.queue.inflight.chunks
      → a + length f.queue.inflight.chunks ≡ n → c.stream_identifier ≡ st → begins_ordered c ≡ true
      → c.stream_sequence_number ≡ begun_to st n sent % 2 ^ 16 → is_too_far f c ≡ false
      → begun_to st n sent ≤ begun_to st a sent + 2 ^ 14 → begun_to st n sent + 1 ≤ begun_to st a sent + 2 ^ 14
  near-next f c a n s total on begins number near small =
      by (nat_le (2 ^ 14) (length f.queue.inflight.chunks)) refl
      (sym (ap (λ b. b && (nat_le (2 ^ 14) (length f.queue.inflight.chunks) && nat_le (2 ^ 14) (past_number (first_ordered c.stream_identifier f) c))) begins)
      ∙ near)
    where
      from : (o : Option ChunkPayloadData) → find (is_ordered_on st) f.queue.inflight.chunks ≡ o → nat_le (2 ^ 14) (past_number o c) ≡ false
          → begun_to st n sent + 1 ≤ begun_to st a sent + 2 ^ 14
      from None e lt = let none = steps-none a n f.queue.inflight.chunks total s e in omega (arith, none)
      from (Some d) e lt =
          let i = steps-first a n f.queue.inflight.chunks d total s e in
          let past : (c.stream_sequence_number + (2 ^ 16 - d.stream_sequence_number)) % 2 ^ 16 < 2 ^ 14 = grind (arith, nat_tests) in
          let x = i.number in
          let y = i.from in
          let z = i.near in
          let w = i.within in
          omega (arith, past, x, y, z, w, number, small)

      by : (b : Bool) → nat_le (2 ^ 14) (length f.queue.inflight.chunks) ≡ b
          → (b && nat_le (2 ^ 14) (past_number (first_ordered c.stream_identifier f) c)) ≡ false
          → begun_to st n sent + 1 ≤ begun_to st a sent + 2 ^ 14
      by b h2 h3 = grind (arith, nat_tests, from, steps-few)

-- ## What is named

-- up to some place, where so many were begun at one before: this is the last ordered chunk of the stream between, if there is one
abbrev Says : ℕ → ℕ → ℕ → Option ChunkPayloadData → Type 0
Says st b m None = m ≡ b
Says st b m (Some d) = (d.stream_identifier ≡ st) × IsLatest m d.stream_sequence_number

says-some : (st b k m : ℕ) (y : ChunkPayloadData) (ys : List ChunkPayloadData) → Says st b m (last_of (y ∷ ys)) → Says st k m (last_of (y ∷ ys))
says-some st b k m y [] s = s
says-some st b k m y (z ∷ zs) s = says-some st b k m z zs s

module _ (st : ℕ) (sent : List Entry) where
  says-first : (a e : ℕ) (c : ChunkPayloadData) (xs : List ChunkPayloadData) → is_ordered_on st c ≡ true
      → IsStep st (begun_to st a sent) (begun_to st (a + 1) sent) c → Says st (begun_to st (a + 1) sent) (begun_to st e sent) (last_of xs)
      → Says st (begun_to st a sent) (begun_to st e sent) (last_of (c ∷ xs))
  says-first a e c [] h s i = grind (arith, nat_tests)
  says-first a e c (y ∷ ys) h s i = says-some st (begun_to st (a + 1) sent) (begun_to st a sent) (begun_to st e sent) y ys i

  -- of an abandoned chunk and those behind it
  both-tests : (c : ChunkPayloadData) (xs : List ChunkPayloadData) → c.abandoned ≡ true
      → filter (is_on st) (filter is_named (c ∷ xs)) ≡ (if is_ordered_on st c then c ∷ filter (is_on st) (filter is_named xs)
      else filter (is_on st) (filter is_named xs))
  both-tests c xs gone = grind (arith, nat_tests)

  says-named : (a e j : ℕ) (cs : List ChunkPayloadData) → a + j ≡ e → j ≤ lead cs → AreSteps st sent a cs
      → Says st (begun_to st a sent) (begun_to st e sent) (last_of (filter (is_on st) (filter is_named (take j cs))))
  says-named a e zero cs total le s = let same : e ≡ a = omega (arith, total) in ap (λ k. begun_to st k sent) same
  says-named a e (suc j) [] total le s = absurd (omega (arith, le))
  says-named a e (suc j) (c ∷ cs) total le s = kept (is_kept c) refl le (λ l. says-named (a + 1) e j cs (omega (arith, total)) l s.1)
    where
      by : (b : Bool) → is_ordered_on st c ≡ b
          → Says st (begun_to st (a + 1) sent) (begun_to st e sent) (last_of (filter (is_on st) (filter is_named (take j cs))))
          → Says st (begun_to st a sent) (begun_to st e sent)
          (last_of (if b then c ∷ filter (is_on st) (filter is_named (take j cs)) else filter (is_on st) (filter is_named (take j cs))))
      by true h ih = says-first a e c (filter (is_on st) (filter is_named (take j cs))) h s.0 ih
      by false h ih = subst (λ b. Says st b (begun_to st e sent) (last_of (filter (is_on st) (filter is_named (take j cs))))) (s.0.other h) ih

      kept : (b : Bool) → is_kept c ≡ b → suc j ≤ (if b then 0 else lead cs + 1)
          → (j ≤ lead cs → Says st (begun_to st (a + 1) sent) (begun_to st e sent) (last_of (filter (is_on st) (filter is_named (take j cs)))))
          → Says st (begun_to st a sent) (begun_to st e sent) (last_of (filter (is_on st) (filter is_named (c ∷ take j cs))))
      kept b h2 h3 h4 = grind (arith, nat_tests, both-tests, by, unnot)

last-none : (y : ChunkPayloadData) (ys : List ChunkPayloadData) → last_of (y ∷ ys) ≡ None → ⊥
last-none y [] e = none-some y (sym e)
last-none y (z ∷ zs) e = last-none z zs e

none-named : (st : ℕ) (sent : List Entry) (a e j : ℕ) (cs : List ChunkPayloadData) → a + j ≡ e → j ≤ lead cs → AreOn st sent a cs
    → last_of (filter (is_on st) (filter is_named (take j cs))) ≡ None → (k : ℕ) → a < k → k ≤ e → is_at st k sent ≡ false
none-named st sent a e zero cs total le o none k lt most = absurd (omega (arith, total, lt, most))
none-named st sent a e (suc j) [] total le o none k lt most = absurd (omega (arith, le))
none-named st sent a e (suc j) (c ∷ cs) total le o none k lt most =
    kept (is_kept c) refl le (λ l f. none-named st sent (a + 1) e j cs (omega (arith, total)) l o.1 f k)
  where
    split : is_ordered_on st c ≡ false → ((a + 1 < k) → (k ≤ e) → is_at st k sent ≡ false) → is_at st k sent ≡ false
    split h1 h2 = grind (arith, nat_tests)

    by : (b : Bool) → is_ordered_on st c ≡ b
        → last_of (if b then c ∷ filter (is_on st) (filter is_named (take j cs)) else filter (is_on st) (filter is_named (take j cs))) ≡ None
        → (last_of (filter (is_on st) (filter is_named (take j cs))) ≡ None → (a + 1 < k) → (k ≤ e) → is_at st k sent ≡ false) → is_at st k sent ≡ false
    by true h f ih = absurd (last-none c (filter (is_on st) (filter is_named (take j cs))) f)
    by false h f ih = split h (ih f)

    kept : (b : Bool) → is_kept c ≡ b → suc j ≤ (if b then 0 else lead cs + 1)
        → (j ≤ lead cs → last_of (filter (is_on st) (filter is_named (take j cs))) ≡ None → (a + 1 < k) → (k ≤ e) → is_at st k sent ≡ false)
        → is_at st k sent ≡ false
    kept b h2 h3 h4 = grind (arith, nat_tests, both-tests, by, unnot)

-- these names, up to a place: none of the stream, and no ordered chunk of it behind the place acknowledged; or one, the number of the
-- last message that was begun up to there
abbrev pub Tells : ℕ → ℕ → ℕ → List Entry → List ChunkForwardTsnStream → Type 0
Tells st a place sent ns =
    ((filter (is_pair_of st) ns ≡ []) × (begun_to st place sent ≤ begun_to st a sent)
    × ((k : ℕ) → a < k → k ≤ place → is_at st k sent ≡ false))
    ⊎ ((k : ℕ) × (k + 1 ≡ begun_to st place sent)
    × (filter (is_pair_of st) ns ≡ (let n : ChunkForwardTsnStream = record { identifier = st; sequence = k % 2 ^ 16 } in n) ∷ []))

-- a FORWARD-TSN, where a is the place acknowledged
pub record IsNaming (st p a : ℕ) (sent : List Entry) (g : ForwardTsn) : Type 0 where
  pub place : ℕ
  pub within : place ≤ length sent
  pub is : g.new_cumulative_tsn ≡ tsn p place
  pub tells : Tells st a place sent g.streams

abbrev pub IsMadeNaming : ℕ → ℕ → ℕ → List Entry → Made → Type 0
IsMadeNaming st p a sent (data_chunk d) = ⊤
IsMadeNaming st p a sent (forward_tsn g) = IsNaming st p a sent g

-- k places behind a
pub named-at : (st p a k : ℕ) (sent : List Entry) (f : Flight) → a + length f.queue.inflight.chunks ≡ length sent
    → AreSteps st sent a f.queue.inflight.chunks → AreOn st sent a f.queue.inflight.chunks → (g : ForwardTsn) → ahead f g.new_cumulative_tsn ≡ k
    → k ≤ lead f.queue.inflight.chunks → g.new_cumulative_tsn ≡ tsn p (a + k) → Name g.streams (named_up_to g.new_cumulative_tsn f)
    → Tells st a (a + k) sent g.streams
named-at st p a k sent f long s o g far upto is name = by (last_of (filter (is_on st) (named_up_to g.new_cumulative_tsn f))) refl (name st) says
  where
    says : Says st (begun_to st a sent) (begun_to st (a + k) sent) (last_of (filter (is_on st) (named_up_to g.new_cumulative_tsn f)))
    says = grind (arith, nat_tests, far, says-named)

    by : (q : Option ChunkPayloadData) → last_of (filter (is_on st) (named_up_to g.new_cumulative_tsn f)) ≡ q
        → filter (is_pair_of st) g.streams ≡ pairs_of q → Says st (begun_to st a sent) (begun_to st (a + k) sent) q
        → Tells st a (a + k) sent g.streams
    by None n e y = inl (
      e,
      omega (arith, y),
      none-named st sent a (a + k) (ahead f g.new_cumulative_tsn) f.queue.inflight.chunks (omega (arith, far)) (omega (arith, far, upto)) o n,
    )
    by (Some d) n e y = grind (arith, nat_tests)

pub named : (st p n : ℕ) (sent : List Entry) (f : Flight) (h : IsNumbered p n f) (few : n < 2 ^ 31) → length sent ≡ n
    → AreSteps st sent h.acked f.queue.inflight.chunks → AreOn st sent h.acked f.queue.inflight.chunks → (g : ForwardTsn)
    → IsPassable p n f h few g.new_cumulative_tsn → Name g.streams (named_up_to g.new_cumulative_tsn f) → IsNaming st p h.acked sent g
named st p n sent f h few long s o g i name =
    let a = h.acked in
    let k = i.given.place - a in
    let past = i.past in
    let upto = i.upto in
    let total = h.total in
    let within = i.given.within in
    let same : i.given.place ≡ a + k = omega (arith, past) in
    let is = i.given.is ∙ ap (tsn p) same in
    let far : ahead f g.new_cumulative_tsn ≡ k = grind (arith, nat_tests, distance-tsn) in
    record {
      place = a + k;
      within = omega (arith, within, long, same);
      is = is;
      tells = named-at st p a k sent f (omega (arith, total, long)) s o g far (omega (arith, upto, past)) is name;
    }

-- it tells so still when more is acknowledged, and more got TSNs
pub naming-later : (st p a b : ℕ) (sent more : List Entry) → a ≤ b → a ≤ length sent → IsOnceMore sent more → (m : Made)
    → IsMadeNaming st p a sent m → IsMadeNaming st p b more m
naming-later st p a b sent more le within once (data_chunk d) i = tt
naming-later st p a b sent more le within once (forward_tsn g) i = grind (arith, nat_tests, at-more, to-more, to-up)

pub tells-later : (st a b place : ℕ) (sent more : List Entry) (ns : List ChunkForwardTsnStream) → a ≤ b → a ≤ length sent → place ≤ length sent
    → IsOnceMore sent more → Tells st a place sent ns → Tells st b place more ns
tells-later st a b place sent more ns le within far once t = grind (arith, nat_tests, at-more, to-more, to-up)
