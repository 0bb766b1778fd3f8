-- Stretches of TSNs: past one of them a skip discards nothing, and what calls leave of a stream stays inside.
use Rattle.sctp_receiver.proofs.Names.{◌≡◌, ℕ, suc, ◌+◌, ◌-◌, ◌<◌, ◌≤◌, ◌^◌, Bool, true, false, List, [], ◌∷◌, length, Option, Some, None, refl, ap, ap₂, sym}
use Rattle.sctp_receiver.proofs.Names.{◌∙◌, arith, Result, Ok, Err, not, ◌==◌, ◌&&◌, ◌||◌, nat_lt, nat_le, nat_tests, if◌then◌else◌, slice_get}
use Rattle.sctp_receiver.proofs.Names.{slice_index_or, le-ltb}
use Rattle.sctp_receiver.proofs.Names.{IfSome, list_any, filter, IfOk, OnErr, not_both, both, fails, neither, lt-ltb}
use Rattle.sctp_util.specs.Serial.{distance, at_or_before, comes_before16}
use Rattle.sctp_receiver.proofs.Names.{following_tsn, chunk_before, has_tsn, bytes_of, insert_before, change_first, after_leading}
use Rattle.sctp_receiver.proofs.Names.{ChunkPayloadData, ChunkSet, is_complete, Reassembly, ReassemblyState, after_read, rest_among, front_readable}
use Rattle.sctp_receiver.proofs.Names.{without_first}
use Rattle.sctp_receiver.proofs.Names.{after_unordered_skip, BecomesComplete, OrderedSkips, PushUndo, cannot_complete, incomplete_agrees, InboundStream}
use Rattle.sctp_receiver.proofs.Names.{ReceiverRefusal, Skip, Unassembled, Incomplete, Pushes, PushesAs, with_queue, stream_read, skip_forwarded}
use Rattle.sctp_receiver.proofs.Names.{holds_incomplete}
use Rattle.sctp_serial.specs.DataChunks.{preceding_tsn}
use Rattle.sctp_util.proofs.Edits.{list_any-inserted, list_any-those}
use Rattle.sctp_reassembly.specs.reassembly_queue.Fragments.{has_ssn, set_before, with_chunk, new_set, sets_with}
use Rattle.sctp_reassembly.specs.reassembly_queue.ReassemblyQueue.{held_after_ordered_push, leading_upto}
use Rattle.sctp_reassembly.specs.reassembly_queue.OrderedSkips.{is_skipped, after_noted_skips}
use Rattle.sctp_reassembly.specs.reassembly_queue.Skips.{misses, misses_behind}
use Rattle.sctp_receiver.specs.declared.receiver.spans.TsnSpan.{TsnSpan}
use Rattle.sctp_receiver.specs.Spans.{is_outside, chunk_outside, lies_past, set_outside, sets_outside, front_outside, holds_outside}
use Rattle.sctp_receiver.proofs.Settled.{any-less, is-empty}

-- ## Distances

pub triangle : (a b c : ℕ) → a < 2 ^ 32 → b < 2 ^ 32 → distance a c ≤ distance a b + distance b c
unfolding distance
triangle a b c ha hb = omega arith

pub within-circle : (a b : ℕ) → distance a b < 2 ^ 32
unfolding distance
within-circle a b = omega arith

module _ (t first length x : ℕ) (ht : t < 2 ^ 32) (hf : first < 2 ^ 32) (far : 2 ≤ distance t first) (short : distance t first + length < 2 ^ 31)
    (inside : distance first x ≤ length) where
  between : (2 ≤ distance t x) × (distance t x < 2 ^ 31)
  unfolding distance
  between = (omega (arith, far, short, inside), omega (arith, far, short, inside))

  one-before : at_or_before (preceding_tsn x) t ≡ false
  unfolding distance at_or_before
  one-before = let b = between in le-ltb _ _ (omega (arith, b))

  one-behind : at_or_before (following_tsn x) t ≡ false
  unfolding distance at_or_before
  one-behind = let b = between in le-ltb _ _ (omega (arith, b))

  itself : x < 2 ^ 32 → at_or_before x t ≡ false
  unfolding distance at_or_before
  itself hx = let b = between in le-ltb _ _ (omega (arith, b))

-- ## Tests of lists

none-and : (b : Bool) → (b && false) ≡ false
none-and true = refl
none-and false = refl

none-any : {A : Type 0} (p : A → Bool) → ((x : A) → p x ≡ false) → (xs : List A) → list_any p xs ≡ false
none-any p none [] = refl
none-any p none (x ∷ xs) = ap₂ (λ a b. a || b) (none x) (none-any p none xs)

-- as each place has it
pub none-of-each : {A : Type 0} (p : A → Bool) (xs : List A) → ((k : ℕ) (x : A) → slice_get xs k ≡ Some x → p x ≡ false) → list_any p xs ≡ false
none-of-each p [] h = refl
none-of-each p (x ∷ xs) h = ap₂ (λ a b. a || b) (h 0 x refl) (none-of-each p xs (λ k y e. h (suc k) y e))

fewer-any : {A : Type 0} (p q : A → Bool) (xs : List A) → list_any p xs ≡ false → list_any p (filter q xs) ≡ false
fewer-any p q xs h = fails (list_any p (filter q xs)) (λ t. not_both (sym h ∙ list_any-those p q xs t))

-- ## Past a stretch nothing is discarded

module _ (t : ℕ) (s : TsnSpan) (ht : t < 2 ^ 32) (hf : s.first < 2 ^ 32) (past : lies_past t s ≡ true) where
  near : (2 ≤ distance t s.first) × (distance t s.first + s.length < 2 ^ 31)
  near = let h = both (nat_le 2 (distance t s.first)) (nat_lt (distance t s.first + s.length) (2 ^ 31)) past in
      (grind (arith, nat_tests, h.0), grind (arith, nat_tests, h.1))

  covered : (x : ℕ) → is_outside s x ≡ false → distance s.first x ≤ s.length
  covered x h = grind (arith, nat_tests)

  behind-none : (x : ChunkPayloadData) (cs : List ChunkPayloadData) → chunk_outside s x ≡ false → list_any (chunk_outside s) cs ≡ false
      → misses_behind t x cs ≡ false
  behind-none x [] hx hs =
      ap (λ b. not x.ending_fragment && b) (one-behind t s.first s.length x.tsn ht hf near.0 near.1 (covered x.tsn hx)) ∙ none-and (not x.ending_fragment)
  behind-none x (y ∷ ys) hx hs =
      let parts = neither (chunk_outside s y) (list_any (chunk_outside s) ys) hs in
      ap₂ (λ a b. a || b) (ap (λ b. not (y.tsn == following_tsn x.tsn) && b)
      (one-behind t s.first s.length x.tsn ht hf near.0 near.1 (covered x.tsn hx)) ∙ none-and (not (y.tsn == following_tsn x.tsn)))
      (behind-none y ys parts.0 parts.1)

  misses-none : (cs : List ChunkPayloadData) → list_any (chunk_outside s) cs ≡ false → misses t cs ≡ false
  misses-none [] h = refl
  misses-none (x ∷ xs) h =
      let parts = neither (chunk_outside s x) (list_any (chunk_outside s) xs) h in
      ap₂ (λ a b. a || b) (ap (λ b. not x.beginning_fragment && b)
      (one-before t s.first s.length x.tsn ht hf near.0 near.1 (covered x.tsn parts.0)) ∙ none-and (not x.beginning_fragment))
      (behind-none x xs parts.0 parts.1)

  set-stays : (set : ChunkSet) → set_outside s set ≡ false → cannot_complete t set ≡ false
  set-stays set h = by (is_complete set.chunks) h
    where
      inner : (a : Bool) → ((a || true) && list_any (chunk_outside s) set.chunks) ≡ false → list_any (chunk_outside s) set.chunks ≡ false
      inner true h = h
      inner false h = h

      by : (c : Bool) → ((s.all || not c) && list_any (chunk_outside s) set.chunks) ≡ false → (not c && misses t set.chunks) ≡ false
      by true h = refl
      by false h = misses-none set.chunks (inner s.all h)

  -- the first fragment comes after it
  abbrev comes_upto : List ChunkPayloadData → Bool
  comes_upto [] = false
  comes_upto (c ∷ cs) = at_or_before c.tsn t

  front-after : (cs : List ChunkPayloadData) → front_outside s cs ≡ false → comes_upto cs ≡ false
  front-after [] h = refl
  front-after (c ∷ cs) h =
      let parts = neither (not (nat_lt c.tsn (2 ^ 32))) (is_outside s c.tsn) h in
      let small : c.tsn < 2 ^ 32 = grind (arith, nat_tests, parts.0) in
      itself t s.first s.length c.tsn ht hf near.0 near.1 (covered c.tsn parts.1) small

  all-stay : (cs : List ChunkPayloadData) → comes_upto cs ≡ false → after_leading (λ x. at_or_before x.tsn t) cs ≡ cs
  all-stay [] h = refl
  all-stay (c ∷ cs) h = ap (λ b. if b then after_leading (λ x. at_or_before x.tsn t) cs else c ∷ cs) h

  none-leads : (cs : List ChunkPayloadData) → comes_upto cs ≡ false → leading_upto t cs ≡ []
  none-leads [] h = refl
  none-leads (c ∷ cs) h = ap (λ b. if b then c ∷ leading_upto t cs else []) h

  unassembled-stay : (q : ReassemblyState) → front_outside s q.held.unassembled ≡ false → after_unordered_skip t q ≡ q
  unassembled-stay q h = ap₂ (λ us n. let r : ReassemblyState = record q { held = record q.held { unassembled = us }; bytes = n } in r)
      (all-stay q.held.unassembled up) (ap (λ us. q.bytes - bytes_of us) (none-leads q.held.unassembled up) ∙ less q.bytes)
    where
      up : comes_upto q.held.unassembled ≡ false
      up = front-after q.held.unassembled h

      less : (n : ℕ) → n - bytes_of [] ≡ n
      less n = omega arith

  pub past-stays : (skip : Skip) (l : InboundStream) → holds_outside s l.queue.held ≡ false → skip_forwarded skip t l ≡ l
  past-stays Unassembled l h =
      ap (λ q. with_queue q l) (unassembled-stay l.queue (neither (front_outside s l.queue.held.unassembled) (sets_outside s l.queue.held.ordered) h).0)
  past-stays Incomplete l h =
      let parts = neither (front_outside s l.queue.held.unassembled) (sets_outside s l.queue.held.ordered) h in
      ap (λ q. with_queue q l) (incomplete_agrees t l.queue (any-less (set_outside s) (cannot_complete t) set-stays l.queue.held.ordered parts.1))

-- ## Fewer messages

module _ (s : TsnSpan) where
  first-off : (sets : List ChunkSet) → sets_outside s sets ≡ false → sets_outside s (without_first sets) ≡ false
  first-off [] h = refl
  first-off (set ∷ sets) h = (neither (set_outside s set) (sets_outside s sets) h).1

  -- a read
  pub read-inside : (l : InboundStream) → holds_outside s l.queue.held ≡ false → holds_outside s (stream_read l).queue.held ≡ false
  read-inside l h = among l.queue.held.unordered
    where
      q : Reassembly
      q = l.queue.held

      front : (o : Option ChunkSet) → holds_outside s (after_read o q) ≡ false
      front None = h
      front (Some set) = let parts = neither (front_outside s q.unassembled) (sets_outside s q.ordered) h in
          ap₂ (λ a b. a || b) parts.0 (first-off q.ordered parts.1)

      among : (us : List ChunkSet) → holds_outside s (rest_among us q) ≡ false
      among [] = front (front_readable q.next_ssn q.ordered)
      among (u ∷ us) = h

  -- what names say
  pub noted-inside : (skips : OrderedSkips) (l : InboundStream) → holds_outside s l.queue.held ≡ false
      → holds_outside s (after_noted_skips skips l.queue).held ≡ false
  noted-inside skips l h = let parts = neither (front_outside s l.queue.held.unassembled) (sets_outside s l.queue.held.ordered) h in
      ap₂ (λ a b. a || b) parts.0 (fewer-any (set_outside s) (λ set. not (is_skipped skips.passed set)) l.queue.held.ordered parts.1)

  -- a skip without a name
  pub skip-inside : (skip : Skip) (t : ℕ) (l : InboundStream) → holds_outside s l.queue.held ≡ false
      → sets_outside s (skip_forwarded skip t l).queue.held.ordered ≡ false
  skip-inside Unassembled t l h = (neither (front_outside s l.queue.held.unassembled) (sets_outside s l.queue.held.ordered) h).1
  skip-inside Incomplete t l h = fewer-any (set_outside s) (λ set. not (cannot_complete t set)) l.queue.held.ordered
      (neither (front_outside s l.queue.held.unassembled) (sets_outside s l.queue.held.ordered) h).1

  -- where nothing is incomplete the messages say it alone
  pub settled-inside : (q : Reassembly) → holds_incomplete q ≡ false → sets_outside s q.ordered ≡ false → holds_outside s q ≡ false
  settled-inside q none h =
      let parts = neither (not (length q.unassembled == 0)) (list_any (λ (x : ChunkSet). not (is_complete x.chunks)) q.ordered) none in
      ap₂ (λ a b. a || b) (ap (front_outside s) (is-empty q.unassembled parts.0)) h

-- a wider stretch
pub wider-sets : (s w : TsnSpan) → ((t : ℕ) → is_outside s t ≡ false → is_outside w t ≡ false) → w.all ≡ s.all → (sets : List ChunkSet)
    → sets_outside s sets ≡ false → sets_outside w sets ≡ false
wider-sets s w wider all sets h = any-less (set_outside s) (set_outside w) each sets h
  where
    each : (set : ChunkSet) → set_outside s set ≡ false → set_outside w set ≡ false
    each set h = ap (λ b. (b || not (is_complete set.chunks)) && list_any (chunk_outside w) set.chunks) all ∙ by (s.all || not (is_complete set.chunks)) h
      where
        by : (b : Bool) → (b && list_any (chunk_outside s) set.chunks) ≡ false → (b && list_any (chunk_outside w) set.chunks) ≡ false
        by true h = any-less (chunk_outside s) (chunk_outside w) (λ c e. wider c.tsn e) set.chunks h
        by false h = refl

-- complete messages alone have none outside of a stretch that is not for all
pub complete-inside : (s : TsnSpan) (sets : List ChunkSet) → s.all ≡ false → list_any (λ (x : ChunkSet). not (is_complete x.chunks)) sets ≡ false
    → sets_outside s sets ≡ false
complete-inside s sets all h = any-less (λ (x : ChunkSet). not (is_complete x.chunks)) (set_outside s)
    (λ set e. ap₂ (λ a b. (a || b) && list_any (chunk_outside s) set.chunks) all e) sets h

pub both-inside : (s : TsnSpan) (q : Reassembly) → front_outside s q.unassembled ≡ false → sets_outside s q.ordered ≡ false → holds_outside s q ≡ false
both-inside s q front sets = ap₂ (λ a b. a || b) front sets

-- the first fragment, as it is read
pub front-inside : (s : TsnSpan) (cs : List ChunkPayloadData) (c : ChunkPayloadData) → 0 < length cs → c ≡ slice_index_or cs 0 c → c.tsn < 2 ^ 32
    → is_outside s c.tsn ≡ false → front_outside s cs ≡ false
front-inside s [] c some at fits h = absurd (omega (arith, some))
front-inside s (x ∷ xs) c some at fits h =
    let is : c ≡ x = at in
    let small : nat_lt c.tsn (2 ^ 32) ≡ true = lt-ltb c.tsn (2 ^ 32) fits in
    ap₂ (λ a b. not a || b) (sym (ap (λ (z : ChunkPayloadData). nat_lt z.tsn (2 ^ 32)) is) ∙ small)
    (sym (ap (λ (z : ChunkPayloadData). is_outside s z.tsn) is) ∙ h)

-- ## A fragment comes

-- a message has a fragment outside
abbrev any_outside : TsnSpan → ChunkSet → Bool
any_outside s set = list_any (chunk_outside s) set.chunks

all-sets : (s : TsnSpan) (sets : List ChunkSet) → list_any (any_outside s) sets ≡ false → sets_outside s sets ≡ false
all-sets s sets h = any-less (any_outside s) (set_outside s)
    (λ set e. ap (λ b. (s.all || not (is_complete set.chunks)) && b) e ∙ none-and (s.all || not (is_complete set.chunks))) sets h

-- of every TSN
pub whole-sets : (s : TsnSpan) → ((t : ℕ) → is_outside s t ≡ false) → (sets : List ChunkSet) → sets_outside s sets ≡ false
whole-sets s none sets = all-sets s sets (none-any (any_outside s) (λ set. none-any (chunk_outside s) (λ c. none c.tsn) set.chunks) sets)

module _ (s w : TsnSpan) (wider : (t : ℕ) → (s.all ≡ true → is_outside s t ≡ false) → is_outside w t ≡ false) where
  one-wider : (set : ChunkSet) → set_outside s set ≡ false → any_outside w set ≡ false
  one-wider set h = by s.all refl h
    where
      by : (b : Bool) → s.all ≡ b → ((b || not (is_complete set.chunks)) && list_any (chunk_outside s) set.chunks) ≡ false → any_outside w set ≡ false
      by true e h = any-less (chunk_outside s) (chunk_outside w) (λ c k. wider c.tsn (λ _. k)) set.chunks h
      by false e h = none-any (chunk_outside w) (λ c. wider c.tsn (λ k. absurd (not_both (sym e ∙ k)))) set.chunks

  all-wider : (sets : List ChunkSet) → sets_outside s sets ≡ false → list_any (any_outside w) sets ≡ false
  all-wider sets h = any-less (set_outside s) (any_outside w) one-wider sets h

module _ (w : TsnSpan) (c : ChunkPayloadData) (here : chunk_outside w c ≡ false) where
  with-inside : (set : ChunkSet) → any_outside w set ≡ false → any_outside w (with_chunk c set) ≡ false
  with-inside set h = by (list_any (has_tsn c.tsn) set.chunks)
    where
      by : (b : Bool) → list_any (chunk_outside w) (if b then set.chunks else insert_before chunk_before c set.chunks) ≡ false
      by true = h
      by false = list_any-inserted (chunk_outside w) chunk_before c set.chunks ∙ ap₂ (λ a b. a || b) here h

  first-changed : (p : ChunkSet → Bool) (sets : List ChunkSet) → list_any (any_outside w) sets ≡ false
      → list_any (any_outside w) (change_first p (with_chunk c) sets) ≡ false
  first-changed p [] h = refl
  first-changed p (set ∷ sets) h =
      let parts = neither (any_outside w set) (list_any (any_outside w) sets) h in
      by (p set) parts.0 parts.1 (first-changed p sets parts.1)
    where
      by : (b : Bool) → any_outside w set ≡ false → list_any (any_outside w) sets ≡ false
          → list_any (any_outside w) (change_first p (with_chunk c) sets) ≡ false
          → list_any (any_outside w) (if b then with_chunk c set ∷ sets else set ∷ change_first p (with_chunk c) sets) ≡ false
      by true one rest ih = ap₂ (λ a b. a || b) (with-inside set one) rest
      by false one rest ih = ap₂ (λ a b. a || b) one ih

  put-inside : (sets : List ChunkSet) → list_any (any_outside w) sets ≡ false → list_any (any_outside w) (sets_with c sets) ≡ false
  put-inside sets h = by (list_any (has_ssn c.stream_sequence_number) sets)
    where
      alone : any_outside w (new_set c) ≡ false
      alone = ap (λ b. b || false) here

      by : (b : Bool) → list_any (any_outside w) (if b then change_first (has_ssn c.stream_sequence_number) (with_chunk c) sets
          else insert_before set_before (new_set c) sets) ≡ false
      by true = first-changed (has_ssn c.stream_sequence_number) sets h
      by false = list_any-inserted (any_outside w) set_before (new_set c) sets ∙ ap₂ (λ a b. a || b) alone h

  after-push : (q : Reassembly) → list_any (any_outside w) q.ordered ≡ false → list_any (any_outside w) (held_after_ordered_push c q).ordered ≡ false
  after-push q h = by (comes_before16 c.stream_sequence_number q.next_ssn)
    where
      after : Bool → Reassembly
      after b = if b then q else record q { ordered = sets_with c q.ordered }

      by : (b : Bool) → list_any (any_outside w) (after b).ordered ≡ false
      by true = h
      by false = put-inside q.ordered h

  pushed : (complete : Bool) (old new : ReassemblyState) → Pushes c complete old new → list_any (any_outside w) old.held.ordered ≡ false
      → list_any (any_outside w) new.held.ordered ≡ false
  pushed complete old new p h = by c.unordered p
    where
      same : (xs : List ChunkPayloadData) (b : Bool) → BecomesComplete xs old.held new.held b → new.held.ordered ≡ old.held.ordered
      same xs true whole = ap (λ (q : Reassembly). q.ordered) whole.moved
      same xs false none = ap (λ (q : Reassembly). q.ordered) none.1

      by : (b : Bool) → PushesAs b c complete old new → list_any (any_outside w) new.held.ordered ≡ false
      by false e = ap (λ (q : ReassemblyState). list_any (any_outside w) q.held.ordered) e.0 ∙ after-push old.held h
      by true e = ap (list_any (any_outside w)) (same _ complete e.0) ∙ h

  pub push-inside : (x y : InboundStream) (r : Result (Bool × PushUndo) ReceiverRefusal) → IfOk r (λ put. Pushes c put.0 x.queue y.queue)
      → OnErr r (y ≡ x) → (s : TsnSpan) → (empty : Bool) → empty ≡ (length x.queue.held.ordered == 0)
      → ((t : ℕ) → empty ≡ false → (s.all ≡ true → is_outside s t ≡ false) → is_outside w t ≡ false)
      → holds_outside s x.queue.held ≡ false → sets_outside w y.queue.held.ordered ≡ false
  push-inside x y r ok err s empty is wider h = all-sets w y.queue.held.ordered (by r ok err)
    where
      inside : sets_outside s x.queue.held.ordered ≡ false
      inside = (neither (front_outside s x.queue.held.unassembled) (sets_outside s x.queue.held.ordered) h).1

      was : (b : Bool) → empty ≡ b → list_any (any_outside w) x.queue.held.ordered ≡ false
      was true e = ap (list_any (any_outside w)) (is-empty x.queue.held.ordered (ap not (sym is ∙ e)))
      was false e = all-wider s w (λ t k. wider t e k) x.queue.held.ordered inside

      by : (r : Result (Bool × PushUndo) ReceiverRefusal) → IfOk r (λ put. Pushes c put.0 x.queue y.queue) → OnErr r (y ≡ x)
          → list_any (any_outside w) y.queue.held.ordered ≡ false
      by (Ok put) ok err = pushed put.0 x.queue y.queue ok (was empty refl)
      by (Err e) ok err = ap (λ (l : InboundStream). list_any (any_outside w) l.queue.held.ordered) err ∙ was empty refl

-- ## A stretch is measured

-- a message is taken into account: of an incomplete one each fragment is inside, and the stretch is of all while none is complete
abbrev pub IsMeasured : Option TsnSpan → Bool → ChunkSet → Type 0
IsMeasured None all set = is_complete set.chunks ≡ true × all ≡ false
IsMeasured (Some span) all set =
    (is_complete set.chunks ≡ false → list_any (chunk_outside span) set.chunks ≡ false) × (is_complete set.chunks ≡ true → all ≡ false)

-- a complete one more
pub complete-more : (o : Option TsnSpan) (all : Bool) (set : ChunkSet) → IsMeasured o all set → IsMeasured o false set
complete-more None all set h = (h.0, refl)
complete-more (Some span) all set h = (h.0, λ _. refl)

pub complete-measured : (o : Option TsnSpan) (set : ChunkSet) → is_complete set.chunks ≡ true → IsMeasured o false set
complete-measured None set e = (e, refl)
complete-measured (Some span) set e = (λ n. absurd (not_both (sym n ∙ e)), λ _. refl)

-- an incomplete one more
pub incomplete-more : (o : Option TsnSpan) (w : TsnSpan) (all : Bool) (set : ChunkSet)
    → IfSome o (λ s. (t : ℕ) → is_outside s t ≡ false → is_outside w t ≡ false) → IsMeasured o all set → IsMeasured (Some w) all set
incomplete-more None w all set wider h = (λ n. absurd (not_both (sym n ∙ h.0)), λ _. h.1)
incomplete-more (Some s) w all set wider h =
    (λ n. any-less (chunk_outside s) (chunk_outside w) (λ c k. wider c.tsn k) set.chunks (h.0 n), h.1)

pub incomplete-measured : (w : TsnSpan) (all : Bool) (set : ChunkSet) → is_complete set.chunks ≡ false → list_any (chunk_outside w) set.chunks ≡ false
    → IsMeasured (Some w) all set
incomplete-measured w all set e h = (λ _. h, λ y. absurd (not_both (sym e ∙ y)))

pub measured-none : (all : Bool) (sets : List ChunkSet) → ((k : ℕ) (set : ChunkSet) → slice_get sets k ≡ Some set → IsMeasured None all set)
    → list_any (λ (s : ChunkSet). not (is_complete s.chunks)) sets ≡ false
measured-none all sets h = none-of-each (λ (s : ChunkSet). not (is_complete s.chunks)) sets (λ k set e. ap not (h k set e).0)

pub measured-all : (span : TsnSpan) (all : Bool) (sets : List ChunkSet) → ((k : ℕ) (set : ChunkSet) → slice_get sets k ≡ Some set
    → IsMeasured (Some span) all set) → sets_outside (record span { all = all }) sets ≡ false
measured-all span all sets h = none-of-each (set_outside (record span { all = all })) sets (λ k set e. by set (is_complete set.chunks) refl (h k set e))
  where
    incomplete : (set : ChunkSet) (b : Bool) → list_any (chunk_outside span) set.chunks ≡ false → (b && list_any (chunk_outside span) set.chunks) ≡ false
    incomplete set b e = ap (λ z. b && z) e ∙ none-and b

    by : (set : ChunkSet) (b : Bool) → is_complete set.chunks ≡ b → IsMeasured (Some span) all set → set_outside (record span { all = all }) set ≡ false
    by set true e h =
        ap₂ (λ x y. (x || not y) && list_any (chunk_outside span) set.chunks) (h.1 e) e
    by set false e h = incomplete set (all || not (is_complete set.chunks)) (h.0 e)
