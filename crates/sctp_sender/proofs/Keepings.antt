-- What is kept place by place, and what comes back.
use Rattle.sctp_sender.proofs.Names.{◌≡◌, ℕ, zero, suc, ◌+◌, ◌-◌, ◌<◌, ◌≤◌, ◌%◌, ◌^◌, Bool, true, false, List, [], ◌∷◌, ◌++◌, length, map, get_or, Option, Some}
use Rattle.sctp_sender.proofs.Names.{None, refl, ap, sym, subst, ◌∙◌, arith, if◌then◌else◌, ◌&&◌, not, nat_lt, list_all, sum_by, false≢true, nat_tests}
use Rattle.sctp_sender.proofs.Names.{sum_by-cons, none-some, ChunkPayloadData, distance, Sack, as_taken_back, partially_sent, bytes_of, following_tsn}
use Rattle.sctp_sender.proofs.Names.{TakenBack, SenderRefusal, InflightQueueTsnPop, TsnRequestNotExist, Flight, IsContiguous, count_acked, is_outdated}
use Rattle.sctp_sender.proofs.Names.{is_within, reports, sack_refusal, tsns_from, back_each, bytes_back, keep, keep_each, kept_from, restored, restored_with}
use Rattle.sctp_sender.proofs.Names.{answered_back, tells_of, trimmed, with_restored, StandSideBySide, number_of_half, AreSettled, IsAllSettled}
use Rattle.sctp_sender.specs.Keeping.{answered_of}

-- ## As far as something is kept

pub nothing : (ks : List (Option (List ℕ))) → ((n : ℕ) → get_or ks n None ≡ None) → trimmed ks ≡ []
nothing [] none = refl
nothing (k ∷ ks) none = ap (λ j. kept_from j (trimmed ks)) (none 0) ∙ ap (kept_from None) (nothing ks (λ n. none (suc n)))

-- ## What is kept of each

module _ (s : Sack) where
  pub length-keep_each : (cs : List ChunkPayloadData) (ks : List (Option (List ℕ))) → length (keep_each s cs ks) ≡ length cs
  length-keep_each [] ks = refl
  length-keep_each (c ∷ cs) [] = ap suc (length-keep_each cs [])
  length-keep_each (c ∷ cs) (k ∷ ks) = ap suc (length-keep_each cs ks)

  pub kept-at : (cs : List ChunkPayloadData) (ks : List (Option (List ℕ))) (i : ℕ) (d : ChunkPayloadData) → i < length cs
      → get_or (keep_each s cs ks) i None ≡ keep s (get_or cs i d) (get_or ks i None)
  kept-at [] ks i d lt = absurd (omega (arith, lt))
  kept-at (c ∷ cs) [] zero d lt = refl
  kept-at (c ∷ cs) [] (suc i) d lt = kept-at cs [] i d (omega (arith, lt))
  kept-at (c ∷ cs) (k ∷ ks) zero d lt = refl
  kept-at (c ∷ cs) (k ∷ ks) (suc i) d lt = kept-at cs ks i d (omega (arith, lt))
  -- ## What comes back of each

-- ## Of a chunk that is acknowledged, and not abandoned

-- ## What is told

-- ## Restored

-- how many bytes come back at a place, and at all
abbrev pub size : Option (List ℕ) → ℕ
size None = 0
size (Some bytes) = length bytes

abbrev pub weight : List (Option (List ℕ)) → ℕ
weight bs = sum_by size bs

pub answered-weight : (bs : List (Option (List ℕ))) (cs : List ChunkPayloadData) → length bs ≤ length cs → bytes_back (answered_back bs cs) ≡ weight bs
answered-weight [] cs le = refl
answered-weight (b ∷ bs) [] le = absurd (omega (arith, le))
answered-weight (b ∷ bs) (c ∷ cs) le = by b (answered-weight bs cs (omega (arith, le)))
  where
    by : (x : Option (List ℕ)) → bytes_back (answered_back bs cs) ≡ weight bs → bytes_back (answered_of x c ++ answered_back bs cs) ≡ weight (x ∷ bs)
    by None h = let e = sum_by-cons size None bs in omega (arith, e, h)
    by (Some bytes) h =
        let r : TakenBack = record { tsn = c.tsn; stream = c.stream_identifier; bytes = length bytes; message = c.message_id } in
        let e = sum_by-cons size (Some bytes) bs in
        let f = sum_by-cons (λ (t : TakenBack). t.bytes) r (answered_back bs cs) in
        omega (arith, e, f, h)

pub length-restored : (bs : List (Option (List ℕ))) (cs : List ChunkPayloadData) → length (restored bs cs) ≡ length cs
length-restored [] cs = refl
length-restored (b ∷ bs) [] = refl
length-restored (b ∷ bs) (c ∷ cs) = ap suc (length-restored bs cs)

pub map-restored : {B : Type 0} (f : ChunkPayloadData → B) → ((bytes : List ℕ) (c : ChunkPayloadData) → f (as_taken_back bytes c) ≡ f c)
    → (bs : List (Option (List ℕ))) (cs : List ChunkPayloadData) → map f (restored bs cs) ≡ map f cs
map-restored f same [] cs = refl
map-restored f same (b ∷ bs) [] = refl
map-restored f same (None ∷ bs) (c ∷ cs) = ap (λ ys. f c ∷ ys) (map-restored f same bs cs)
map-restored {B} f same (Some bytes ∷ bs) (c ∷ cs) = ap (λ (y : B). y ∷ map f (restored bs cs)) (same bytes c) ∙ ap (λ ys. f c ∷ ys) (map-restored f same bs cs)

-- ## In flight

pub restored-contiguous : (bs : List (Option (List ℕ))) (f : Flight) → IsContiguous f → IsContiguous (with_restored bs f)
restored-contiguous bs f inv =
    let cs = f.queue.inflight.chunks in
    let n = length-restored bs cs in
    record {
      in_range = inv.in_range;
      run = map-restored (λ c. c.tsn) (λ bytes c. refl) bs cs ∙ inv.run ∙ ap (tsns_from (following_tsn f.acked_tsn)) (sym n);
      next = inv.next ∙ ap (λ k. (f.acked_tsn + 1 + k) % 2 ^ 32) (sym n);
      few = omega (arith, n, inv.few);
      side_by_side = subst (λ ms. StandSideBySide (ms ++ number_of_half (partially_sent f.queue.pending)))
          (sym (map-restored (λ c. c.message_id) (λ bytes c. refl) bs cs)) inv.side_by_side;
    }

-- a SACK that is taken reports no more cumulatively than is in flight
pub taken-within : (s : Sack) (f : Flight) → sack_refusal s f ≡ None → is_outdated s f ≡ false → count_acked s f ≤ length f.queue.inflight.chunks
taken-within s f taken current = by (nat_lt (length f.queue.inflight.chunks) (count_acked s f)) refl (ap (λ b. if b then None else rest) (sym current) ∙ taken)
  where
    rest : Option SenderRefusal
    rest = if nat_lt (length f.queue.inflight.chunks) (count_acked s f) then Some InflightQueueTsnPop
        else (if list_all (is_within (length f.queue.inflight.chunks - count_acked s f)) s.gap_ack_blocks then None else Some TsnRequestNotExist)

    by : (b : Bool) → nat_lt (length f.queue.inflight.chunks) (count_acked s f) ≡ b → rest ≡ None → count_acked s f ≤ length f.queue.inflight.chunks
    by false e h = grind (arith, nat_tests, e)
    by true e h = absurd (none-some InflightQueueTsnPop (sym h ∙ ap (λ b. if b then Some InflightQueueTsnPop
        else (if list_all (is_within (length f.queue.inflight.chunks - count_acked s f)) s.gap_ack_blocks then None else Some TsnRequestNotExist)) e))

-- ## What comes back has bytes

pub restored-settled : (bs : List (Option (List ℕ))) (cs : List ChunkPayloadData) → AreSettled cs → AreSettled (restored bs cs)
restored-settled [] cs a = a
restored-settled (b ∷ bs) [] a = a
restored-settled (None ∷ bs) (c ∷ cs) a = (a.0, restored-settled bs cs a.1)
restored-settled (Some bytes ∷ bs) (c ∷ cs) a = ((λ e. absurd (false≢true e)), restored-settled bs cs a.1)

module _ (s : Sack) where
  -- what comes back of a chunk is all that it has then
  pub back-bytes : (cs : List ChunkPayloadData) (ks : List (Option (List ℕ))) → AreSettled cs
      → bytes_of (restored (back_each s cs ks) cs) ≡ bytes_of cs + weight (back_each s cs ks)
  back-bytes cs [] a = omega arith
  back-bytes [] (k ∷ ks) a = refl
  back-bytes (c ∷ cs) (k ∷ ks) a = by c.acked c.abandoned (reports s c)
      (tells_of s.gap_ack_blocks (distance s.cumulative_tsn_ack c.tsn)) k a.0 (back-bytes cs ks a.1)
    where
      more : List (Option (List ℕ))
      more = back_each s cs ks

      none : bytes_of (restored more cs) ≡ bytes_of cs + weight more → bytes_of (c ∷ restored more cs) ≡ bytes_of (c ∷ cs) + weight (None ∷ more)
      none h =
          let a = sum_by-cons (λ (x : ChunkPayloadData). length x.user_data) c (restored more cs) in
          let b = sum_by-cons (λ (x : ChunkPayloadData). length x.user_data) c cs in
          let w = sum_by-cons size None more in
          omega (arith, a, b, w, h)

      some : (bytes : List ℕ) → length c.user_data ≡ 0 → bytes_of (restored more cs) ≡ bytes_of cs + weight more
          → bytes_of (as_taken_back bytes c ∷ restored more cs) ≡ bytes_of (c ∷ cs) + weight (Some bytes ∷ more)
      some bytes z h =
          let a = sum_by-cons (λ (x : ChunkPayloadData). length x.user_data) (as_taken_back bytes c) (restored more cs) in
          let b = sum_by-cons (λ (x : ChunkPayloadData). length x.user_data) c cs in
          let w = sum_by-cons size (Some bytes) more in
          omega (arith, a, b, w, z, h)

      by : (acked abandoned reported told : Bool) (k : Option (List ℕ)) → (acked ≡ true → length c.user_data ≡ 0)
          → bytes_of (restored more cs) ≡ bytes_of cs + weight more → (let b : Option (List ℕ) = if ((acked && not abandoned) && not reported) && told then k else None in
          bytes_of (restored_with b c ∷ restored more cs) ≡ bytes_of (c ∷ cs) + weight (b ∷ more))
      by false abandoned reported told k z h = none h
      by true true reported told k z h = none h
      by true false true told k z h = none h
      by true false false false k z h = none h
      by true false false true None z h = none h
      by true false false true (Some bytes) z h = some bytes (z refl) h

pub restored-all-settled : (bs : List (Option (List ℕ))) (f : Flight) → IsAllSettled f.queue → IsAllSettled (with_restored bs f).queue
restored-all-settled bs f a = record { ordered = a.ordered; unordered = a.unordered; inflight = restored-settled bs f.queue.inflight.chunks a.inflight }
