-- Which places in flight a SACK reports.
use Rattle.sctp_sender.proofs.Names.{◌≡◌, ℕ, zero, suc, ◌+◌, ◌-◌, ◌<◌, ◌≤◌, ◌%◌, ◌^◌, Bool, true, false, List, [], ◌∷◌, length, length-drop, map, drop, get_or}
use Rattle.sctp_sender.proofs.Names.{Option, Some, None, refl, ap, sym, ◌∙◌, inl, inr, arith, if◌then◌else◌, ◌&&◌, ◌||◌, not, nat_le, nat_lt, filter, list_all}
use Rattle.sctp_sender.proofs.Names.{list_any, cases_lt, nat_tests, get_or-drop, get_or-map, none-some, change_where, at_or_before, length-change_where}
use Rattle.sctp_sender.proofs.Names.{ChunkPayloadData, GapAckBlock, Sack, as_acknowledged, is_in_block, is_in_blocks, partially_sent, following_tsn, Released}
use Rattle.sctp_sender.proofs.Names.{SenderRefusal, InflightQueueTsnPop, TsnRequestNotExist, Flight, IsContiguous, count_acked, is_half, is_outdated, is_whole}
use Rattle.sctp_sender.proofs.Names.{is_within, released_of, reports, reports_anew, sack_refusal, AreKnown, AreSorted, PicksAnew, is_closed, is_open_of}
use Rattle.sctp_sender.proofs.Names.{is_reached, judged, no_message}
use Rattle.sctp_util.specs.Serial.{distance}
use Rattle.sctp_sender.proofs.Anew.{all-at, any-place, both}
use Rattle.sctp_sender.proofs.Keepings.{taken-within}
use Rattle.sctp_sender.proofs.Runs.{any_chunk, back, later, tsn-at}
use Rattle.sctp_sender.proofs.Sacks.{apart, cum-is}
use Rattle.sctp_sender.proofs.Answered.{open-is}

before : (acked cum count k : ℕ) → acked < 2 ^ 32 → count < 2 ^ 31 → k < count → cum ≡ (acked + count) % 2 ^ 32
    → distance ((acked + k) % 2 ^ 32) cum ≡ count - k
unfolding distance
before acked cum count k small near lt is = omega arith

-- what a change makes of the element at a place
pub changed-at : {X : Type 0} (p : X → Bool) (f : X → X) (xs : List X) (k : ℕ) (d : X) → k < length xs
    → get_or (change_where p f xs) k d ≡ (if p (get_or xs k d) then f (get_or xs k d) else get_or xs k d)
changed-at p f [] k d lt = absurd (omega (arith, lt))
changed-at p f (x ∷ xs) zero d lt = refl
changed-at p f (x ∷ xs) (suc k) d lt = changed-at p f xs k d (omega (arith, lt))

-- what a SACK reports is acknowledged after it
acked-then : (s : Sack) (c : ChunkPayloadData) → reports s c ≡ true → (if reports_anew s c then as_acknowledged c else c).acked ≡ true
acked-then s c e = by c.acked refl
  where
    by : (a : Bool) → c.acked ≡ a → (if reports_anew s c then as_acknowledged c else c).acked ≡ true
    by true h = ap (λ a. (if not a && reports s c then as_acknowledged c else c).acked) h ∙ h
    by false h = ap (λ a. (if not a && reports s c then as_acknowledged c else c).acked) h ∙ ap (λ r. (if r then as_acknowledged c else c).acked) e

-- blocks of a SACK that is taken
pub taken-blocks : (s : Sack) (f : Flight) → sack_refusal s f ≡ None → is_outdated s f ≡ false
    → list_all (is_within (length f.queue.inflight.chunks - count_acked s f)) s.gap_ack_blocks ≡ true
taken-blocks s f taken current = by (nat_lt (length f.queue.inflight.chunks) (count_acked s f)) refl (ap (λ b. if b then None else rest) (sym current) ∙ taken)
  where
    within : Bool
    within = list_all (is_within (length f.queue.inflight.chunks - count_acked s f)) s.gap_ack_blocks

    rest : Option SenderRefusal
    rest = if nat_lt (length f.queue.inflight.chunks) (count_acked s f) then Some InflightQueueTsnPop else (if within then None else Some TsnRequestNotExist)

    last : (b : Bool) → within ≡ b → (if b then None else Some TsnRequestNotExist) ≡ None → within ≡ true
    last true e h = e
    last false e h = absurd (none-some TsnRequestNotExist (sym h))

    by : (b : Bool) → nat_lt (length f.queue.inflight.chunks) (count_acked s f) ≡ b → rest ≡ None → within ≡ true
    by false e h = last within refl (sym (ap (λ b. if b then Some InflightQueueTsnPop else (if within then None else Some TsnRequestNotExist)) e) ∙ h)
    by true e h = absurd (none-some InflightQueueTsnPop
        (sym h ∙ ap (λ b. if b then Some InflightQueueTsnPop else (if within then None else Some TsnRequestNotExist)) e))

block-ends : (left n : ℕ) (b : GapAckBlock) → is_within left b ≡ true → is_in_block n b ≡ true → n ≤ left
block-ends left n b e h = let t = both (nat_le b.start n) (nat_le n b.end) h in grind (arith, nat_tests, e, t.0, t.1)

-- a SACK that is neither refused nor out of date, and its blocks in ascending order
pub record IsTaken (s : Sack) (f : Flight) (sorted : List GapAckBlock) : Type 0 where
  pub whole : IsContiguous f
  pub fits : s.cumulative_tsn_ack < 2 ^ 32
  pub none : sack_refusal s f ≡ None
  pub current : is_outdated s f ≡ false
  pub are : AreSorted sorted s.gap_ack_blocks

module _ {s : Sack} {f : Flight} {sorted : List GapAckBlock} (taken : IsTaken s f sorted) where
  abbrev cs : List ChunkPayloadData
  cs = f.queue.inflight.chunks

  abbrev count : ℕ
  count = distance f.acked_tsn s.cumulative_tsn_ack

  within : count ≤ length cs
  within = taken-within s f taken.none taken.current

  reports-at : (k : ℕ) (d : ChunkPayloadData) → k < length cs → reports s (get_or cs k d) ≡ (nat_lt k count || is_in_blocks s.gap_ack_blocks (suc k - count))
  reports-at k d lt = elim (cases_lt k count) [
    | inl low ↦
        let c : ChunkPayloadData = get_or cs k d in
        let front : nat_lt k count ≡ true = grind (arith, nat_tests, low) in
        let base : ℕ = (f.acked_tsn + k) % 2 ^ 32 in
        let near : count < 2 ^ 31 = omega (arith, within, taken.whole.few) in
        let far : distance base s.cumulative_tsn_ack ≡ count - k = before f.acked_tsn s.cumulative_tsn_ack count k taken.whole.in_range near low cum in
        let next : c.tsn ≡ following_tsn base = omega (arith, tsn k d lt) in
        let upto : at_or_before c.tsn s.cumulative_tsn_ack ≡ true = ap (λ t. at_or_before t s.cumulative_tsn_ack) next
        ∙ back base s.cumulative_tsn_ack (omega arith) taken.fits (omega (arith, far, low)) (omega (arith, far, near)) in
        ap (λ b. b || is_in_blocks s.gap_ack_blocks (distance s.cumulative_tsn_ack c.tsn)) upto
        ∙ sym (ap (λ b. b || is_in_blocks s.gap_ack_blocks (suc k - count)) front)
    | inr high ↦
        let c : ChunkPayloadData = get_or cs k d in
        let n : ℕ = k - count in
        let behind : nat_lt k count ≡ false = grind (arith, nat_tests, high) in
        let is : c.tsn ≡ (s.cumulative_tsn_ack + n + 1) % 2 ^ 32 = omega (arith, tsn k d lt, cum, high) in
        let near : n + 1 < 2 ^ 31 = omega (arith, taken.whole.few, lt) in
        let after : at_or_before c.tsn s.cumulative_tsn_ack ≡ false = later c.tsn s.cumulative_tsn_ack n taken.fits near is in
        let away : distance s.cumulative_tsn_ack c.tsn ≡ suc k - count = apart c.tsn s.cumulative_tsn_ack n taken.fits near is ∙ omega (arith, high) in
        ap (λ b. b || is_in_blocks s.gap_ack_blocks (distance s.cumulative_tsn_ack c.tsn)) after ∙ ap (is_in_blocks s.gap_ack_blocks) away
        ∙ sym (ap (λ b. b || is_in_blocks s.gap_ack_blocks (suc k - count)) behind)
  ]
    where
      cum : s.cumulative_tsn_ack ≡ (f.acked_tsn + count) % 2 ^ 32
      cum = cum-is f.acked_tsn s.cumulative_tsn_ack taken.whole.in_range taken.fits

      tsn : (k : ℕ) (d : ChunkPayloadData) → k < length cs → (get_or cs k d).tsn ≡ (following_tsn f.acked_tsn + k) % 2 ^ 32
      tsn k d lt = tsn-at cs (following_tsn f.acked_tsn) k d (omega arith) taken.whole.run lt

  pub reached : (k : ℕ) (d : ChunkPayloadData) → k < length cs → reports s (get_or cs k d) ≡ is_reached count sorted k
  reached k d lt = elim (cases_lt k count) [
    | inl low ↦
        let front : nat_lt k count ≡ true = grind (arith, nat_tests, low) in
        reports-at k d lt ∙ ap (λ b. b || is_in_blocks s.gap_ack_blocks (suc k - count)) front
        ∙ sym (ap (λ b. b || is_in_blocks sorted (suc k - count)) front)
    | inr high ↦ reports-at k d lt ∙ ap (λ b. nat_lt k count || b) (sym (taken.are.same (suc k - count) (omega (arith, high))))
  ]

  pub picks : PicksAnew (reports_anew s) count sorted cs
  picks k d lt = ap (λ b. not (get_or cs k d).acked && b) (reached k d lt)

  pub ends : (n : ℕ) → is_in_blocks sorted n ≡ true → count + n ≤ length cs
  ends n h = elim (cases_lt 0 n) [
    | inl pos ↦
        let p = any-place (is_in_block n) s.gap_ack_blocks (sym (taken.are.same n pos) ∙ h) in
        let any : GapAckBlock = record { start = 0; end = 0 } in
        let e = all-at (is_within (length cs - count)) s.gap_ack_blocks p.0 any (taken-blocks s f taken.none taken.current) p.1 in
        let le = block-ends (length cs - count) n (get_or s.gap_ack_blocks p.0 any) e (p.2 any) in
        omega (arith, le, within)
    | inr none ↦ omega (arith, none, within)
  ]

  -- what it reports beyond its cumulative TSN is known to be acknowledged after it
  pub known-then : AreKnown sorted (drop count (change_where (reports_anew s) as_acknowledged cs))
  known-then k h =
      let marked : List ChunkPayloadData = change_where (reports_anew s) as_acknowledged cs in
      let far : ℕ = count + k in
      let lt : far < length cs = let e = ends (suc k) h in omega (arith, e) in
      let n = length-change_where (reports_anew s) as_acknowledged cs in
      let less : k < length (drop count marked) = let m = length-drop count marked in omega (arith, m, n, lt) in
      let same : suc far - count ≡ suc k = omega arith in
      let c : ChunkPayloadData = get_or cs far any_chunk in
      let said : reports s c ≡ true = reached far any_chunk lt ∙ or-in (nat_lt far count) (ap (is_in_blocks sorted) same ∙ h) in
      get_or-map (λ (c : ChunkPayloadData). c.acked) (drop count marked) k any_chunk false less
      ∙ ap (λ (c : ChunkPayloadData). c.acked) (get_or-drop count marked k any_chunk ∙ changed-at (reports_anew s) as_acknowledged cs far any_chunk lt)
      ∙ acked-then s c said
    where
      or-in : (a : Bool) {b : Bool} → b ≡ true → (a || b) ≡ true
      or-in true e = refl
      or-in false e = e

-- ## What is told in the end

pub answered-judged : (s : Sack) (f : Flight) (partial : Option ℕ) → partial ≡ partially_sent f.queue.pending → (cs ds : List ChunkPayloadData)
    → cs ≡ f.queue.inflight.chunks → ds ≡ change_where (reports_anew s) as_acknowledged cs
    → map (judged partial ds) (map (released_of no_message) (filter (reports_anew s) cs)) ≡ map (released_of (is_whole s f)) (filter (reports_anew s) cs)
answered-judged s f partial is-partial cs ds is are = each (filter (reports_anew s) cs)
  where
    closed : (m : ℕ) → is_closed partial ds m ≡ is_whole s f m
    closed m = ap (λ h. not (is_half h m) && not (list_any (is_open_of m) ds)) is-partial
        ∙ ap (λ b. not (is_half (partially_sent f.queue.pending) m) && not b) (ap (list_any (is_open_of m)) (are
        ∙ ap (change_where (reports_anew s) as_acknowledged) is) ∙ open-is s m f.queue.inflight.chunks)

    each : (xs : List ChunkPayloadData) → map (judged partial ds) (map (released_of no_message) xs) ≡ map (released_of (is_whole s f)) xs
    each [] = refl
    each (x ∷ xs) =
        ap (λ (k : Bool). let r : Released = record (released_of no_message x) { is_message_acked = k } in
        r ∷ map (judged partial ds) (map (released_of no_message) xs)) (closed x.message_id)
        ∙ ap (λ (rs : List Released). released_of (is_whole s f) x ∷ rs) (each xs)
