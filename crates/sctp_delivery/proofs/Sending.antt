-- A fragment is sent: it goes on where the last entry ends, and what waits behind it goes on with it.
use Rattle.sctp_delivery.proofs.Names.{common_steps, ◌≡◌, ℕ, ◌+◌, ◌%◌, ◌^◌, ◌≤◌, Bool, true, false, not, List, [], ◌∷◌, length, Option, Some, None, slice_get}
use Rattle.sctp_delivery.proofs.Names.{inl, inr, refl, ap, sym, subst, ◌∙◌, arith, ⊤, if◌then◌else◌, none-some, nat_tests, some-same, not_both}
use Rattle.sctp_delivery.proofs.Names.{ChunkPayloadData, Data, data_of, Selected, as_sent, Pending, list_to_pop, next_pending, rest_after, rest_from}
use Rattle.sctp_delivery.proofs.Names.{selected_after, IsSendable, IsWhole, begun, free, made}
use Rattle.std.proofs.Common.{◌⊎◌}
use Rattle.sctp_delivery.proofs.Cases.{Where, where-map, where-yes}
use Rattle.sctp_delivery.proofs.OrderedEntries.{AreIndexedOn, AreJoined, AreRanked, AreRising, IsIndexed, IsOpen, IsUnder, Joins, begins-ordered}
use Rattle.sctp_delivery.proofs.OrderedEntries.{begins-unordered, begins_on, begun_on, one, ranked-ordered, ranked-unordered, under-more}
use Rattle.sctp_delivery.proofs.Sent.{Entry, Fits, GoesOn, IsLine, Numbered, fragment, terminal}
use Rattle.sctp_delivery.proofs.Waiting.{Goes, Place, Waits, between, inside, place_after, place_of}
use Rattle.sctp_delivery.proofs.Turns.{Turns, counts, number_after}

-- the number of the first message of the stream that waits, up to this one of the next write: so many were begun
abbrev pub IsTurn : ℕ → List ChunkPayloadData → ℕ → List Entry → Type 0
IsTurn s os next sent = (n : ℕ) × (Turns s os n next × (n ≡ begun_on s sent % 2 ^ 16))

-- what got TSNs, from the first one on, and what waits behind it: fragments of these writes, where the next write on a stream has this
-- number. Of numbers that is so on these streams
pub record QueuedOn (on : ℕ → Bool) (ws : List Numbered) (first : ℕ) (number : ℕ → ℕ) (q : Pending) (sent : List Entry) : Type 0 where
  pub line : IsLine ws first sent
  pub ordered : Waits ws q.ordered (place_of false q.selected sent)
  pub unordered : Waits ws q.unordered (place_of true q.selected sent)
  pub turns : (s : ℕ) → Where (on s) (IsTurn s q.ordered (number s) sent)
  pub indexed : AreIndexedOn on sent
  pub ranked : AreRanked ws q.ordered sent
  pub joined : AreJoined sent
  pub open' : IsOpen sent q.selected

-- ## The places

-- the chunk is of the partially sent message, where there is one
abbrev OnTurn : Option Selected → Bool → ChunkPayloadData → Type 0
OnTurn None kind c = ⊤
OnTurn (Some s) kind c = (s.unordered ≡ kind) × (c.message_id ≡ s.message_id)

module _ (c : ChunkPayloadData) (tsn now : ℕ) (w : Numbered) (after : List ℕ) (sent : List Entry) where
  abbrev sent_entry : Entry
  sent_entry = fragment (data_of (as_sent tsn now c)) w after

  own-place : (kind : Bool) (sel : Option Selected) → OnTurn sel kind c → place_of kind (selected_after sel kind c) (sent_entry ∷ sent) ≡ place_after c w after
  own-place kind sel h3 = grind (arith, nat_tests)

  other-place : (kind : Bool) (sel : Option Selected) (xs : List Entry) → OnTurn sel kind c
      → place_of (not kind) (selected_after sel kind c) xs ≡ place_of (not kind) sel sent
  other-place kind sel xs t = grind (arith, nat_tests)

  -- the write of a first fragment has the number of its message
  placed : (p : Place) → Goes p c w after → c.beginning_fragment ≡ true → w.place ≡ c.message_id
  placed p h2 h3 = grind (arith, nat_tests)

  -- ## The line

  fits-sent : (ws : List Numbered) → Fits ws c.tsn (data_of c) w after → Fits ws tsn (data_of (as_sent tsn now c)) w after
  fits-sent ws f = record { written = f.written; number = refl; stream = f.stream; payload = f.payload; begins = f.begins; ends = f.ends; part = f.part }

  -- it begins a message, or goes on with that of the last entry
  abbrev Starts : Type 0
  Starts = (c.beginning_fragment ≡ true) ⊎ ((m : ℕ) × Goes (inside m sent) c w after)

  goes-behind : (xs : List Entry) → (c.beginning_fragment ≡ true) ⊎ ((m : ℕ) × Goes (inside m xs) c w after)
      → GoesOn (data_of (as_sent tsn now c)) w after xs
  goes-behind xs h = grind (arith, nat_tests)

  -- ## Messages

  -- nothing is partially sent where it ends its message
  stays-open : (kind : Bool) (sel : Option Selected) → OnTurn sel kind c → w.place ≡ c.message_id → IsOpen (sent_entry ∷ sent) (selected_after sel kind c)
  stays-open kind sel t own = grind (arith, nat_tests)

  of-message : (kind : Bool) (sel : Option Selected) → OnTurn sel kind c → IsOpen sent sel → Goes (place_of kind sel sent) c w after → w.place ≡ c.message_id
  of-message kind sel h3 h4 h5 = grind (arith, nat_tests)

  joins-sent : (ws : List Numbered) (first : ℕ) (kind : Bool) (sel : Option Selected) → OnTurn sel kind c → Fits ws c.tsn (data_of c) w after
      → IsLine ws first sent → IsOpen sent sel → Goes (place_of kind sel sent) c w after → Joins (data_of (as_sent tsn now c)) sent
  joins-sent ws first kind sel h5 h6 h7 h8 h9 = grind (arith, nat_tests)

  -- ## Numbers

  -- one that goes on has the number of the last entry, and its place
  index-inner : (on : ℕ → Bool) (ws : List Numbered) (first m : ℕ) (xs : List Entry) → Fits ws c.tsn (data_of c) w after → IsLine ws first xs
      → AreIndexedOn on xs → Goes (inside m xs) c w after → Where (on c.stream_identifier) (IsIndexed (data_of (as_sent tsn now c)) xs)
  index-inner on ws first m [] fits line i g = absurd g
  index-inner on ws first m (terminal ∷ xs) fits line i g = absurd g
  index-inner on ws first m (fragment e v rest ∷ xs) fits line i g =
      subst (λ s. Where (on s) (IsIndexed d (fragment e v rest ∷ xs))) (sym same)
      (where-map (on e.stream_identifier) (IsIndexed e xs) (IsIndexed d (fragment e v rest ∷ xs)) next i.0)
    where
      d : Data
      d = data_of (as_sent tsn now c)

      same : c.stream_identifier ≡ e.stream_identifier
      same = fits.stream ∙ ap (λ (x : Numbered). x.stream) g.write ∙ sym line.0.stream

      next : IsIndexed e xs → IsIndexed d (fragment e v rest ∷ xs)
      next j k = grind (arith, nat_tests, common_steps)

  under-inner : (m : ℕ) (xs : List Entry) → c.unordered ≡ false → AreRising xs → Goes (inside m xs) c w after → IsUnder w.place xs
  under-inner m xs h3 h4 h5 = grind (arith, nat_tests)

-- ## The queue behind it

-- the entry of a chunk that is sent, and what is queued behind it
abbrev pub SendsOn : (ℕ → Bool) → List Numbered → ℕ → (ℕ → ℕ) → Pending → List Entry → ChunkPayloadData → ℕ → ℕ → Type 0
SendsOn on ws first number q sent c tsn now =
    (w : Numbered) × (after : List ℕ)
    × (QueuedOn on ws first number (rest_after c.beginning_fragment c.unordered q) (fragment (data_of (as_sent tsn now c)) w after ∷ sent)
    × (w.place ≡ c.message_id))

module _ (on : ℕ → Bool) (ws : List Numbered) (first : ℕ) (number : ℕ → ℕ) (sent : List Entry) (tsn now : ℕ)
    (next : tsn ≡ (first + length sent) % 2 ^ 32) (ro ru : ℕ) (c : ChunkPayloadData) where
  in-line : (w : Numbered) (after : List ℕ) → Fits ws c.tsn (data_of c) w after → GoesOn (data_of (as_sent tsn now c)) w after sent → IsLine ws first sent
      → IsLine ws first (fragment (data_of (as_sent tsn now c)) w after ∷ sent)
  in-line w after f g l = (subst (λ k. Fits ws k (data_of (as_sent tsn now c)) w after) next (fits-sent c tsn now w after sent ws f), (g, l))

  from-ordered : (sel : Option Selected) (os us : List ChunkPayloadData) → list_to_pop sel c.beginning_fragment c.unordered ≡ Some false → c.unordered ≡ false
      → OnTurn sel false c → QueuedOn on ws first number (made (c ∷ os) us sel ro ru) sent
      → SendsOn on ws first number (made (c ∷ os) us sel ro ru) sent c tsn now
  from-ordered sel os us pops kind turn q =
      let w = q.ordered.0 in
      let after = q.ordered.1 in
      let fits = q.ordered.2.0 in (
        w,
        after,
        (
          subst (λ k. QueuedOn on ws first number (rest_from k (made (c ∷ os) us sel ro ru)) (fragment (data_of (as_sent tsn now c)) w after ∷ sent)) (sym pops)
              (record {
                line = in-line w after fits (goes-behind c tsn now w after sent sent start) q.line;
                ordered = subst (Waits ws os) (sym (own-place c tsn now w after sent false sel turn)) q.ordered.2.1.1;
                unordered = subst (Waits ws us)
                    (sym (other-place c tsn now w after sent false sel (fragment (data_of (as_sent tsn now c)) w after ∷ sent) turn)) q.unordered;
                turns = λ s. where-map (on s) (IsTurn s (c ∷ os) (number s) sent) (IsTurn s os (number s) (entry ∷ sent))
                    (λ t. (number_after (counts s c) t.0, (t.1.0.1, begun-so s t.0 t.1.1))) (q.turns s);
                indexed = (index start, q.indexed);
                ranked = ranked-ordered (data_of (as_sent tsn now c)) w after ws c os sent q.ranked (under start) (at-most start)
                    (λ s. begins-ordered s (data_of (as_sent tsn now c)) kind);
                joined = (joins-sent c tsn now w after sent ws first false sel turn fits q.line q.open' q.ordered.2.1.0, q.joined);
                open' = stays-open c tsn now w after sent false sel turn own;
              }),
          own,
        ),
      )
    where
      own : q.ordered.0.place ≡ c.message_id
      own = of-message c tsn now q.ordered.0 q.ordered.1 sent false sel turn q.open' q.ordered.2.1.0

      starts : (o : Option Selected) → OnTurn o false c → Goes (place_of false o sent) c q.ordered.0 q.ordered.1 → Starts c tsn now q.ordered.0 q.ordered.1 sent
      starts None t g = inl g.0
      starts (Some s) t g = inr (s.message_id, subst (λ b. Goes (if b then between else inside s.message_id sent) c q.ordered.0 q.ordered.1) t.0 g)

      start : Starts c tsn now q.ordered.0 q.ordered.1 sent
      start = starts sel turn q.ordered.2.1.0

      d : Data
      d = data_of (as_sent tsn now c)

      entry : Entry
      entry = fragment (data_of (as_sent tsn now c)) q.ordered.0 q.ordered.1

      begun-so : (s n : ℕ) → n ≡ begun_on s sent % 2 ^ 16 → number_after (counts s c) n ≡ (one (begins_on s d) + begun_on s sent) % 2 ^ 16
      begun-so s n e = grind (arith, nat_tests, common_steps)

      index : Starts c tsn now q.ordered.0 q.ordered.1 sent → Where (on c.stream_identifier) (IsIndexed d sent)
      index (inl b) = grind (arith, nat_tests, common_steps)
      index (inr g) = index-inner c tsn now q.ordered.0 q.ordered.1 sent on ws first g.0 sent q.ordered.2.0 q.line q.indexed g.1

      at-most : Starts c tsn now q.ordered.0 q.ordered.1 sent → q.ordered.0.place ≤ c.message_id
      at-most h1 = grind (arith, nat_tests)

      under : Starts c tsn now q.ordered.0 q.ordered.1 sent → IsUnder q.ordered.0.place sent
      under h1 = grind (arith, nat_tests, placed, under-inner, under-more)

  from-unordered : (sel : Option Selected) (os us : List ChunkPayloadData) → list_to_pop sel c.beginning_fragment c.unordered ≡ Some true → c.unordered ≡ true
      → OnTurn sel true c → QueuedOn on ws first number (made os (c ∷ us) sel ro ru) sent
      → SendsOn on ws first number (made os (c ∷ us) sel ro ru) sent c tsn now
  from-unordered sel os us pops kind turn q =
      let w = q.unordered.0 in
      let after = q.unordered.1 in
      let fits = q.unordered.2.0 in (
        w,
        after,
        (
          subst (λ k. QueuedOn on ws first number (rest_from k (made os (c ∷ us) sel ro ru)) (fragment (data_of (as_sent tsn now c)) w after ∷ sent)) (sym pops)
              (record {
                line = in-line w after fits (goes-behind c tsn now w after sent sent (starts sel turn q.unordered.2.1.0)) q.line;
                ordered = grind (arith, nat_tests, common_steps);
                unordered = subst (Waits ws us) (sym (own-place c tsn now w after sent true sel turn)) q.unordered.2.1.1;
                turns = λ s. where-map (on s) (IsTurn s os (number s) sent) (IsTurn s os (number s) (fragment d w after ∷ sent))
                    (λ t. (t.0, (t.1.0, begun-so s t.0 t.1.1))) (q.turns s);
                indexed = (where-yes (on c.stream_identifier) (IsIndexed d sent) (λ _ k. absurd (not_both (sym k ∙ kind))), q.indexed);
                ranked = ranked-unordered (data_of (as_sent tsn now c)) w after ws os sent kind q.ranked;
                joined = (joins-sent c tsn now w after sent ws first true sel turn fits q.line q.open' q.unordered.2.1.0, q.joined);
                open' = stays-open c tsn now w after sent true sel turn own;
              }),
          own,
        ),
      )
    where
      own : q.unordered.0.place ≡ c.message_id
      own = of-message c tsn now q.unordered.0 q.unordered.1 sent true sel turn q.open' q.unordered.2.1.0

      starts : (o : Option Selected) → OnTurn o true c → Goes (place_of true o sent) c q.unordered.0 q.unordered.1
          → Starts c tsn now q.unordered.0 q.unordered.1 sent
      starts None t g = inl g.0
      starts (Some s) t g = inr (s.message_id, subst (λ b. Goes (if b then inside s.message_id sent else between) c q.unordered.0 q.unordered.1) t.0 g)

      d : Data
      d = data_of (as_sent tsn now c)

      begun-so : (s n : ℕ) → n ≡ begun_on s sent % 2 ^ 16 → n ≡ (one (begins_on s d) + begun_on s sent) % 2 ^ 16
      begun-so s n e = let z = ap one (begins-unordered s d kind) in omega (arith, z, e)

  -- what is next is sent
  pub queued-sent : (sel : Option Selected) (os us xs : List ChunkPayloadData) (n : ℕ) → IsSendable (made os us sel ro ru) xs n
      → next_pending (made os us sel ro ru) ≡ Some c → QueuedOn on ws first number (made os us sel ro ru) sent
      → SendsOn on ws first number (made os us sel ro ru) sent c tsn now
  queued-sent None os (u ∷ us) xs n k e q = at u (some-same e) k.unordered q
    where
      at : (x : ChunkPayloadData) → x ≡ c → IsWhole true n (free 0) (x ∷ us) → QueuedOn on ws first number (made os (x ∷ us) None ro ru) sent
          → SendsOn on ws first number (made os (x ∷ us) None ro ru) sent c tsn now
      at x same v r =
          let whole = subst (λ y. IsWhole true n (free 0) (y ∷ us)) same v in
          subst (λ y. SendsOn on ws first number (made os (y ∷ us) None ro ru) sent c tsn now) (sym same)
          (from-unordered None os us (ap (λ b. if b then Some c.unordered else None) whole.0.0
          ∙ ap Some whole.1) whole.1 tt (subst (λ y. QueuedOn on ws first number (made os (y ∷ us) None ro ru) sent) same r))
  queued-sent None (o ∷ os) [] xs n k e q = at o (some-same e) k.ordered q
    where
      at : (x : ChunkPayloadData) → x ≡ c → IsWhole false n (free 0) (x ∷ os) → QueuedOn on ws first number (made (x ∷ os) [] None ro ru) sent
          → SendsOn on ws first number (made (x ∷ os) [] None ro ru) sent c tsn now
      at x same v r =
          let whole = subst (λ y. IsWhole false n (free 0) (y ∷ os)) same v in
          subst (λ y. SendsOn on ws first number (made (y ∷ os) [] None ro ru) sent c tsn now) (sym same)
          (from-ordered None os [] (ap (λ b. if b then Some c.unordered else None) whole.0.0
          ∙ ap Some whole.1) whole.1 tt (subst (λ y. QueuedOn on ws first number (made (y ∷ os) [] None ro ru) sent) same r))
  queued-sent None [] [] xs n k e q = absurd (none-some c e)
  queued-sent (Some s) os us xs n k e q = by s.unordered refl
    where
      unordered : s.unordered ≡ true → (us : List ChunkPayloadData) → IsWhole true n (begun s.message_id) us → slice_get us 0 ≡ Some c
          → QueuedOn on ws first number (made os us (Some s) ro ru) sent → SendsOn on ws first number (made os us (Some s) ro ru) sent c tsn now
      unordered h [] v f r = absurd v
      unordered h (u ∷ us) v f r =
          let same : u ≡ c = some-same f in
          let whole = subst (λ y. IsWhole true n (begun s.message_id) (y ∷ us)) same v in
          subst (λ y. SendsOn on ws first number (made os (y ∷ us) (Some s) ro ru) sent c tsn now) (sym same)
          (from-unordered (Some s) os us (ap Some h) whole.1 (h, whole.0.1)
          (subst (λ y. QueuedOn on ws first number (made os (y ∷ us) (Some s) ro ru) sent) same r))

      ordered : s.unordered ≡ false → (os : List ChunkPayloadData) → IsWhole false n (begun s.message_id) os → slice_get os 0 ≡ Some c
          → QueuedOn on ws first number (made os us (Some s) ro ru) sent → SendsOn on ws first number (made os us (Some s) ro ru) sent c tsn now
      ordered h [] v f r = absurd v
      ordered h (o ∷ os) v f r =
          let same : o ≡ c = some-same f in
          let whole = subst (λ y. IsWhole false n (begun s.message_id) (y ∷ os)) same v in
          subst (λ y. SendsOn on ws first number (made (y ∷ os) us (Some s) ro ru) sent c tsn now) (sym same)
          (from-ordered (Some s) os us (ap Some h) whole.1 (h, whole.0.1)
          (subst (λ y. QueuedOn on ws first number (made (y ∷ os) us (Some s) ro ru) sent) same r))

      by : (b : Bool) → s.unordered ≡ b → SendsOn on ws first number (made os us (Some s) ro ru) sent c tsn now
      by b h2 = grind (arith, nat_tests, ordered, slice_get, unordered)

-- ## What is next

-- the chunk is of one of the writes
abbrev pub IsOfWrite : List Numbered → ChunkPayloadData → Type 0
IsOfWrite ws c = (w : Numbered) × (after : List ℕ) × Fits ws c.tsn (data_of c) w after

first-fits : (ws : List Numbered) (cs : List ChunkPayloadData) (p : Place) (c : ChunkPayloadData) → slice_get cs 0 ≡ Some c → Waits ws cs p → IsOfWrite ws c
first-fits ws [] p c e h = absurd (none-some c e)
first-fits ws (x ∷ xs) p c e h = subst (IsOfWrite ws) (some-same e) (h.0, h.1, h.2.0)

pub next-fits : (on : ℕ → Bool) (ws : List Numbered) (first : ℕ) (number : ℕ → ℕ) (q : Pending) (sent : List Entry) (c : ChunkPayloadData)
    → next_pending q ≡ Some c
    → QueuedOn on ws first number q sent → IsOfWrite ws c
next-fits on ws first number q sent c e h = grind (arith, nat_tests, between, first-fits, slice_get)
