-- The rest of a message that is partially sent has the number of what was sent of it.
use Rattle.sctp_delivery.proofs.Names.{◌≡◌, ℕ, ◌+◌, Bool, true, false, not, List, [], ◌∷◌, ◌++◌, Option, Some, ap, sym, subst, ◌∙◌, arith, take, ◌==◌, ◌&&◌}
use Rattle.sctp_delivery.proofs.Names.{if◌then◌else◌, filter, list_any, none-some, nat_tests, common_steps, or-left, same-yes, some-same, negated, fails}
use Rattle.sctp_delivery.proofs.Names.{not_both, both, ChunkPayloadData, Selected, is_of, Pending, last_of, last_removed, IsSendable, IsWhole, begun, free}
use Rattle.sctp_delivery.proofs.Names.{partial_of, partially_sent, stage_of, none_before, ChunkForwardTsnStream, Name, ahead, is_named, is_pair_of, named_up_to}
use Rattle.sctp_delivery.proofs.Names.{pairs_of, Flight, is_on}
use Rattle.sctp_delivery.proofs.Cases.{Where, at-test, where-map}
use Rattle.sctp_delivery.proofs.Every.{Every, every-joined, every-of, every-passing, every-taken, every-all, every-both, every-tested}
use Rattle.sctp_delivery.proofs.OrderedEntries.{AreIndexedOn, IsIndexed, IsLatest, begun_on, ends_on, latest-here, IsNumberOf, number-more}
use Rattle.sctp_delivery.proofs.Sending.{QueuedOn}
use Rattle.sctp_delivery.proofs.Sent.{Entry, IsLine, Numbered, fragment, terminal}
use Rattle.sctp_delivery.proofs.Waiting.{Waits, between, inside, place_of, within}
use Rattle.sctp_delivery.proofs.InFlight.{AreKnownOn, IsKnownOn}
use Rattle.sctp_delivery.proofs.SpreadEntries.{number-of}

-- it goes on with the last entry: on the streams that this is of, with the number of the last message that was begun, if it is ordered
abbrev pub IsRest : (ℕ → Bool) → List Entry → ChunkPayloadData → Type 0
IsRest on sent c =
    Where (on c.stream_identifier) (c.unordered ≡ false → IsLatest (begun_on c.stream_identifier sent) c.stream_sequence_number)
    × ((st : ℕ) → ((c.stream_identifier == st) && not c.unordered) ≡ ends_on st sent)

last-is : (P : ChunkPayloadData → Type 0) (xs : List ChunkPayloadData) (c : ChunkPayloadData) → last_of xs ≡ Some c → Every P xs → P c
last-is P [] c e h = absurd (none-some c e)
last-is P (x ∷ []) c e h = subst P (some-same e) h.0
last-is P (x ∷ y ∷ ys) c e h = last-is P (y ∷ ys) c e h.1

none-pass : (P : ChunkPayloadData → Type 0) (p : ChunkPayloadData → Bool) (xs : List ChunkPayloadData) → list_any p xs ≡ false → Every P (filter p xs)
none-pass P p [] e = tt
none-pass P p (x ∷ xs) e = grind (arith, nat_tests, common_steps, none-pass P p xs)

module _ (on : ℕ → Bool) (ws : List Numbered) (kind : Bool) (n m : ℕ) (sent : List Entry) where
  rest-alike : (ssn : ℕ) (like : Bool) (v : Numbered) (left : List ℕ) (cs : List ChunkPayloadData)
      → Where (on v.stream) (like ≡ false → IsLatest (begun_on v.stream sent) ssn) → ((st : ℕ) → ((v.stream == st) && not like) ≡ ends_on st sent)
      → IsWhole kind n (begun m) cs → Waits ws cs (within m ssn like v left) → Every (IsRest on sent) (filter (is_of m) cs)
  rest-alike ssn like v left [] num there w h = absurd w
  rest-alike ssn like v left (c ∷ cs) num there w h =
      let is : (c.message_id == m) ≡ true = subst (λ j. (j == m) ≡ true) (sym w.0.1) (same-yes m) in
      subst (λ b. Every (IsRest on sent) (if b then c ∷ filter (is_of m) cs else filter (is_of m) cs)) (sym is) (
        (
          subst (λ s. Where (on s) (c.unordered ≡ false → IsLatest (begun_on s sent) c.stream_sequence_number)) (sym h.2.0.stream) own,
          λ st. ap (λ s. (s == st) && not c.unordered) h.2.0.stream ∙ same st,
        ),
        at-test (λ b. IsWhole kind n (if b then free (c.message_id + 1) else begun c.message_id) cs → Waits ws cs
            (if b then between else within c.message_id c.stream_sequence_number c.unordered h.0 h.1) → Every (IsRest on sent) (filter (is_of m) cs))
            c.ending_fragment
            (λ f x k. none-pass (IsRest on sent) (is_of m) cs (none_before kind n m (free (c.message_id + 1)) cs (omega arith) x))
            (λ e x k. (rest-alike c.stream_sequence_number c.unordered h.0 h.1 cs own same) (subst (λ j. IsWhole kind n (begun j) cs) w.0.1 x)
            (subst (λ j. Waits ws cs (within j c.stream_sequence_number c.unordered h.0 h.1)) w.0.1 k)) w.3 h.2.1.1,
      )
    where
      own : Where (on h.0.stream) (c.unordered ≡ false → IsLatest (begun_on h.0.stream sent) c.stream_sequence_number)
      own = grind (arith, nat_tests, common_steps)

      same : (st : ℕ) → ((h.0.stream == st) && not c.unordered) ≡ ends_on st sent
      same st = grind (arith, nat_tests, common_steps)

rest-from : (on : ℕ → Bool) (ws : List Numbered) (kind : Bool) (first n m : ℕ) (sent : List Entry) (cs : List ChunkPayloadData) → AreIndexedOn on sent
    → IsLine ws first sent → IsWhole kind n (begun m) cs → Waits ws cs (inside m sent) → Every (IsRest on sent) (filter (is_of m) cs)
rest-from on ws kind first n m sent [] i l w h = absurd w
rest-from on ws kind first n m [] (c ∷ cs) i l w h = absurd h.2.1.0
rest-from on ws kind first n m (terminal ∷ xs) (c ∷ cs) i l w h = absurd h.2.1.0
rest-from on ws kind first n m (fragment e v rest ∷ xs) (c ∷ cs) i l w h =
    rest-alike on ws kind n m (fragment e v rest ∷ xs) e.stream_sequence_number e.unordered v rest (c ∷ cs)
    (subst (λ s. Where (on s) (e.unordered ≡ false → IsLatest (begun_on s (fragment e v rest ∷ xs)) e.stream_sequence_number)) l.0.stream
    (where-map (on e.stream_identifier) (IsIndexed e xs)
    (e.unordered ≡ false → IsLatest (begun_on e.stream_identifier (fragment e v rest ∷ xs)) e.stream_sequence_number)
    (λ j k. latest-here e v rest xs k j) i.0))
    (λ st. ap (λ s. (s == st) && not e.unordered) (sym l.0.stream)) w h

pub last-rest : (on : ℕ → Bool) (ws : List Numbered) (first : ℕ) (number : ℕ → ℕ) (sent : List Entry) (m : ℕ) (c : ChunkPayloadData) (p : Pending)
    (xs : List ChunkPayloadData) (n : ℕ) → IsSendable p xs n → partially_sent p ≡ Some m → last_removed m p ≡ Some c → QueuedOn on ws first number p sent
    → IsRest on sent c
last-rest on ws first number sent m c p xs n s partial last q =
    last-is (IsRest on sent) (filter (is_of m) p.ordered ++ filter (is_of m) p.unordered) c last
    (by p.selected partial s.ordered s.unordered q.ordered q.unordered)
  where
    there : (kind : Bool) (cs : List ChunkPayloadData) → IsWhole kind n (begun m) cs → list_any (is_of m) cs ≡ true
    there kind [] w = absurd w
    there kind (c ∷ cs) w = or-left (c.message_id == m) (list_any (is_of m) cs) (subst (λ j. (j == m) ≡ true) (sym w.0.1) (same-yes m))

    kinds : (b : Bool) → IsWhole false n (if b then free 0 else begun m) p.ordered → IsWhole true n (if b then begun m else free 0) p.unordered
        → Waits ws p.ordered (if b then between else inside m sent) → Waits ws p.unordered (if b then inside m sent else between)
        → Every (IsRest on sent) (filter (is_of m) p.ordered ++ filter (is_of m) p.unordered)
    kinds true v w h g =
        every-joined (IsRest on sent) (filter (is_of m) p.ordered) (filter (is_of m) p.unordered)
        (none-pass (IsRest on sent) (is_of m) p.ordered
        (fails (list_any (is_of m) p.ordered) (λ e. not_both (sym (s.apart m e) ∙ there true p.unordered w))))
        (rest-from on ws true first n m sent p.unordered q.indexed q.line w g)
    kinds false v w h g =
        every-joined (IsRest on sent) (filter (is_of m) p.ordered) (filter (is_of m) p.unordered)
        (rest-from on ws false first n m sent p.ordered q.indexed q.line v h)
        (none-pass (IsRest on sent) (is_of m) p.unordered (s.apart m (there false p.ordered v)))

    by : (sel : Option Selected) → partial_of sel ≡ Some m → IsWhole false n (stage_of false sel) p.ordered
        → IsWhole true n (stage_of true sel) p.unordered → Waits ws p.ordered (place_of false sel sent) → Waits ws p.unordered (place_of true sel sent)
        → Every (IsRest on sent) (filter (is_of m) p.ordered ++ filter (is_of m) p.unordered)
    by h0 h1 h2 h3 h4 h5 = grind (arith, nat_tests, common_steps, none-some, some-same, kinds, between)

-- # Each name of a FORWARD-TSN has the number of a message that was begun

abbrev pub IsNamed : (ℕ → Bool) → List Entry → ChunkForwardTsnStream → Type 0
IsNamed on sent n = Where (on n.identifier) (IsNumberOf sent n.identifier n.sequence)

abbrev pub AreNamed : (ℕ → Bool) → List Entry → List ChunkForwardTsnStream → Type 0
AreNamed on sent ns = Every (IsNamed on sent) ns

pub named-more : (on : ℕ → Bool) (x : Entry) (sent : List Entry) (ns : List ChunkForwardTsnStream) → AreNamed on sent ns → AreNamed on (x ∷ sent) ns
named-more on x sent ns h = grind (arith, nat_tests, common_steps, every-of, where-map, number-more)

-- the chunk has the number of a message that was begun
abbrev HasNumber : (ℕ → Bool) → List Entry → ChunkPayloadData → Type 0
HasNumber on sent c = Where (on c.stream_identifier) (IsNumberOf sent c.stream_identifier c.stream_sequence_number)

-- the pair of the last of these
last-named : (on : ℕ → Bool) (sent : List Entry) (cs : List ChunkPayloadData) → Every (HasNumber on sent) cs → AreNamed on sent (pairs_of (last_of cs))
last-named on sent [] h = tt
last-named on sent (c ∷ []) h = (h.0, tt)
last-named on sent (c ∷ d ∷ ds) h = last-named on sent (d ∷ ds) h.1

-- each pair is one of those of its stream
own-pairs : (on : ℕ → Bool) (sent : List Entry) (ns : List ChunkForwardTsnStream) → ((s : ℕ) → AreNamed on sent (filter (is_pair_of s) ns))
    → AreNamed on sent ns
own-pairs on sent [] h = tt
own-pairs on sent (n ∷ ns) h = (here, own-pairs on sent ns later)
  where
    here : IsNamed on sent n
    here = (subst (λ b. AreNamed on sent (if b then n ∷ filter (is_pair_of n.identifier) ns else filter (is_pair_of n.identifier) ns))
        (same-yes n.identifier) (h n.identifier)).0

    later : (s : ℕ) → AreNamed on sent (filter (is_pair_of s) ns)
    later s = grind (arith, nat_tests, common_steps)

pub names-known : (on : ℕ → Bool) (first : ℕ) (sent : List Entry) (ns : List ChunkForwardTsnStream) (tsn : ℕ) (f : Flight)
    → AreKnownOn on first sent f.queue.inflight.chunks
    → Name ns (named_up_to tsn f) → AreNamed on sent ns
names-known on first sent ns tsn f known name =
    own-pairs on sent ns (λ s. subst (AreNamed on sent) (sym (name s))
    (last-named on sent (filter (is_on s) (named_up_to tsn f)) (every-passing (HasNumber on sent) (is_on s) (named_up_to tsn f) numbered)))
  where
    numbered : Every (HasNumber on sent) (named_up_to tsn f)
    numbered =
        every-both (IsKnownOn on first sent) (λ c. is_named c ≡ true) (HasNumber on sent)
        (λ c k e. number-of on first sent c k.1 (negated c.unordered (both c.abandoned _ e).1)) (named_up_to tsn f)
        (every-passing (IsKnownOn on first sent) is_named (take (ahead f tsn) f.queue.inflight.chunks)
        (every-taken (IsKnownOn on first sent) (ahead f tsn) f.queue.inflight.chunks known))
        (every-tested (λ c. is_named c ≡ true) is_named (take (ahead f tsn) f.queue.inflight.chunks)
        (every-all (λ c. is_named c ≡ true → is_named c ≡ true) (λ c e. e) (take (ahead f tsn) f.queue.inflight.chunks)))
