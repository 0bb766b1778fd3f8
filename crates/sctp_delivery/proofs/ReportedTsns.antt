-- What a SACK reports, where none arrived at the filter of which it speaks but those that were given out.
use Rattle.sctp_delivery.proofs.Names.{◌≡◌, ℕ, zero, suc, ◌+◌, ◌-◌, ◌<◌, ◌≤◌, ◌^◌, Bool, true, false, List, [], ◌∷◌, length, map, take, Some, None, refl, ap}
use Rattle.sctp_delivery.proofs.Names.{◌∙◌, inl, inr, arith, if◌then◌else◌, ◌&&◌, ◌||◌, nat_lt, nat_le, list_all, list_any, cases_lt, nat_tests, distance}
use Rattle.sctp_delivery.proofs.Names.{or-left, or-right, or-split, and, both, not_both, tsn, distance-tsn, distance-tsn_back, Sack, is_in_blocks, is_offset}
use Rattle.sctp_delivery.proofs.Names.{Reception, sack_of_entries, Flight, is_outdated, sack_refusal, reports_tsn}
use Rattle.sctp_data.specs.declared.chunk.chunk_selective_ack.GapAckBlock.{GapAckBlock}
use Rattle.sctp_outbound.specs.payload_queue.Blocks.{is_in_block}
use Rattle.sctp_receiver.specs.TsnFilter.{block_of}
use Rattle.sctp_sender.specs.declared.sender.refusal.SenderRefusal.TheVariants.{InflightQueueTsnPop, TsnRequestNotExist}
use Rattle.sctp_sender.specs.Flight.{count_acked, is_within}
use Rattle.sctp_delivery.proofs.GivenTsns.{IsNumbered}
use Rattle.sctp_delivery.proofs.ArrivedTsns.{IsArrived, IsKnownAfter, after-cumulative, in-runs, in_run}
use Rattle.sctp_delivery.proofs.TsnPlaces.{at-or-before, before}

-- all that it reports is known, and was given out
pub record IsTruthful (p n : ℕ) (known : ℕ → Bool) (s : Sack) : Type 0 where
  pub place : ℕ
  pub within : place ≤ n
  pub is : s.cumulative_tsn_ack ≡ tsn p place
  pub so_far : (k : ℕ) → 0 < k → k ≤ place → known (tsn p k) ≡ true
  pub blocks : (d : ℕ) → is_in_blocks s.gap_ack_blocks d ≡ true → IsKnownAfter p n known place d

-- ## The SACK of a receiver

pub any-run : (d : ℕ) (rs : List (ℕ × ℕ)) → is_in_blocks (map block_of rs) d ≡ list_any (in_run d) rs
any-run d [] = refl
any-run d (r ∷ rs) = ap (λ b. (nat_le r.0 d && nat_le d r.1) || b) (any-run d rs)

any-taken : (d n : ℕ) (bs : List GapAckBlock) → is_in_blocks (take n bs) d ≡ true → is_in_blocks bs d ≡ true
any-taken d zero bs e = absurd (not_both e)
any-taken d (suc n) [] e = e
any-taken d (suc n) (b ∷ bs) e = elim (or-split (is_in_block d b) (is_in_blocks (take n bs) d) e) [
  | inl h ↦ or-left (is_in_block d b)
      (is_in_blocks bs d) h
  | inr h ↦ or-right (is_in_block d b) (is_in_blocks bs d) (any-taken d n bs h)
]

offset-is : (d : ℕ) → is_offset d ≡ true → (0 < d) × (d < 2 ^ 16)
offset-is d e = let b = both (nat_lt 0 d) (nat_lt d (2 ^ 16)) e in (grind (arith, nat_tests), grind (arith, nat_tests))

-- with so many blocks and duplicates at most
pub sack-truthful : (p n : ℕ) (known : ℕ → Bool) (credit entries : ℕ) (r : Reception) → n < 2 ^ 31
    → IsArrived p n known r.cumulative_tsn r.beyond → IsTruthful p n known (sack_of_entries credit entries r)
sack-truthful p n known credit entries r few h = grind (arith, nat_tests, after-cumulative, any-run, any-taken, in-runs, offset-is)

-- ## Later

pub later-truthful : (p m n : ℕ) (known known' : ℕ → Bool) (s : Sack) → m ≤ n → ((t : ℕ) → known t ≡ true → known' t ≡ true) → IsTruthful p m known s
    → IsTruthful p n known' s
later-truthful p m n known known' s le more h = grind (arith, nat_tests)

-- ## It is not refused

within-each : (p n left : ℕ) (known : ℕ → Bool) (place : ℕ) (bs : List GapAckBlock) → n ≡ place + left →
    ((d : ℕ) → is_in_blocks bs d ≡ true → IsKnownAfter p n known place d) → list_all (is_within left) bs ≡ true
within-each p n left known place [] sum h = refl
within-each p n left known place (b ∷ bs) sum h =
    and (is_within left b) (list_all (is_within left) bs) here (within-each p n left known place bs sum
    (λ d e. h d (or-right (is_in_block d b) (is_in_blocks bs d) e)))
  where
    here : is_within left b ≡ true
    here = elim (cases_lt b.end b.start) [
      | inl lt ↦ grind (arith, nat_tests)
      | inr ge ↦
          let first : is_in_block b.start b ≡ true = grind (arith, nat_tests) in
          let last : is_in_block b.end b ≡ true = grind (arith, nat_tests) in
          let f = h b.start (or-left (is_in_block b.start b) (is_in_blocks bs b.start) first) in
          let l = h b.end (or-left (is_in_block b.end b) (is_in_blocks bs b.end) last) in
          let pos = f.some in
          let le = l.within in
          let short : b.end ≤ left = omega (arith, sum, le) in
          grind (arith, nat_tests)
    ]

pub not-refused : (p n : ℕ) (known : ℕ → Bool) (s : Sack) (f : Flight) → n < 2 ^ 31 → IsNumbered p n f → IsTruthful p n known s → sack_refusal s f ≡ None
not-refused p n known s f few h t = by (is_outdated s f) refl
  where
    current : is_outdated s f ≡ false → h.acked ≤ t.place
    current h1 = grind (arith, nat_tests, before)

    by : (b : Bool) → is_outdated s f ≡ b → (if b then None else (if nat_lt (length f.queue.inflight.chunks)
        (count_acked s f) then Some InflightQueueTsnPop else (if list_all
        (is_within (length f.queue.inflight.chunks - count_acked s f)) s.gap_ack_blocks then None else Some TsnRequestNotExist))) ≡ None
    by true e = refl
    by false e =
        let total = h.total in
        let within = t.within in
        let le = current e in
        let far : count_acked s f ≡ t.place - h.acked = ap (λ u. distance u s.cumulative_tsn_ack) h.acked_is ∙ ap (distance (tsn p h.acked)) t.is
        ∙ distance-tsn p h.acked t.place le (omega (arith, within, few)) in
        let enough : nat_lt (length f.queue.inflight.chunks) (count_acked s f) ≡ false = grind (arith, nat_tests) in
        let fits : list_all (is_within (length f.queue.inflight.chunks - count_acked s f)) s.gap_ack_blocks ≡ true = within-each p n
        (length f.queue.inflight.chunks - count_acked s f) known t.place s.gap_ack_blocks (omega (arith, far, total, within, le)) t.blocks in
        rw (enough, fits) refl

-- ## What it reports

pub answered-known : (p n : ℕ) (known : ℕ → Bool) (s : Sack) (k : ℕ) → n < 2 ^ 31 → 0 < k → k ≤ 2 ^ 31 → IsTruthful p n known s
    → reports_tsn (tsn p k) s ≡ true →
    (known (tsn p k) ≡ true) × (k ≤ n)
answered-known p n known s k few pos far t e = grind (arith, nat_tests, at-or-before, cases_lt, distance-tsn, distance-tsn_back, or-split)
