-- TSNs that came are taken back.
use Rattle.std.proofs.Common.{◌≡◌, ℕ, zero, suc, ◌+◌, ◌-◌, ◌<◌, ◌≤◌, ◌%◌, ◌^◌, Bool, true, false, List, [], ◌∷◌, ◌++◌, length, map, refl, ap, sym, subst, ◌∙◌}
use Rattle.std.proofs.Common.{arith, take}
use Rattle.std.specs.Prelude.{if◌then◌else◌, ◌==◌, ◌||◌, not}
use Rattle.std.specs.List.{list_any, filter}
use Rattle.std.proofs.lemmas.List.{length-map, length-append, append_assoc}
use Rattle.sctp_util.specs.Lists.{insert_before}
use Rattle.sctp_util.specs.Serial.{distance, at_or_before}
use Rattle.sctp_data.specs.declared.chunk.chunk_payload_data.ChunkPayloadData.{ChunkPayloadData}
use Rattle.sctp_serial.specs.DataChunks.{chunk_before, following_tsn, tsns}
use Rattle.sctp_serial.specs.Window
use Rattle.sctp_serial.specs.Window.{IsWindow}
use Rattle.sctp_outbound.specs.payload_queue.PayloadQueue.{Payload, push_chunk, without}
use Rattle.sctp_receiver.specs.TsnFilter.{Filter, has_come, is_opposite, with_tsn, with_duplicate, placeholder, rise_beyond}
use Rattle.sctp_link.specs.declared.link_receiver.tsn_queue.undo.TsnUndo.{TsnUndo}
use Rattle.sctp_link.specs.declared.link_receiver.tsn_queue.undo.TsnUndo.TheVariants.{Repeat, Beyond, Next}
use Rattle.sctp_receiver.specs.TsnRuns.{tsns_from}
use Rattle.sctp_receiver.specs.Undo.{passed, retracted}
use Rattle.sctp_receiver.specs.declared.receiver.tsn_filter.undo.FilterUndo.TheVariants as undo
use Rattle.sctp_receiver.proofs.Retracts as retracts
use Rattle.sctp_receiver.proofs.Retracts.{run-end}
use Rattle.sctp_receiver.proofs.TsnRuns.{absent-nearer, in-front, rise-behind}
use Rattle.sctp_link.specs.Tsns.{Kept, came, came_in, undo_of, undone, CanUndo, each_undone, CanUndoEach}
use Rattle.sctp_link.proofs.tsns.Placeholders.{tsns-placeholder, as-placeholders, placeholders-inserted, new-is, window}
use Rattle.sctp_receiver.proofs.TsnLists.{IsStep, nearer, behind-it}

-- ## What is taken back is what was

module _ (t : ℕ) (f : Filter) (lt : f.cumulative_tsn < 2 ^ 32) (small : t < 2 ^ 32) (rise : rise_beyond f.cumulative_tsn 1 f.beyond ≡ true)
    (fresh : has_come t f ≡ false) (near : is_opposite t f ≡ false) where
  pub taken-back : undone (undo_of t f) (with_tsn t f) ≡ f
  taken-back = by (t == following_tsn f.cumulative_tsn) (retracts.taken-back t f lt small rise fresh near f.room)
    where
      by : (b : Bool) → retracted (if b then undo.Next f.cumulative_tsn f.room else undo.Beyond t f.room) (with_tsn t f) ≡ f
          → undone (if b then Next f.cumulative_tsn else Beyond t) (with_tsn t f) ≡ f
      by true back = back
      by false back = back

-- one that came again is noted no more
shorter : (t : ℕ) (ds : List ℕ) → take (length (ds ++ t ∷ []) - 1) (ds ++ t ∷ []) ≡ ds
shorter t [] = refl
shorter t (d ∷ ds) =
    let n : length (d ∷ ds ++ t ∷ []) - 1 ≡ suc (length (ds ++ t ∷ []) - 1) = omega (arith, length-append ds (t ∷ [])) in
    ap (λ k. take k (d ∷ ds ++ t ∷ [])) n ∙ ap (λ us. d ∷ us) (shorter t ds)

pub repeat-back : (t : ℕ) (f : Filter) → undone Repeat (with_duplicate t f) ≡ f
repeat-back t f = ap (λ ds. let g : Filter = record f { duplicates = ds } in g) (shorter t f.duplicates)

pub can-undo : (u : TsnUndo) (k : Kept) (old : Filter) → undone u k.filter ≡ old → old.cumulative_tsn < 2 ^ 32
    → rise_beyond old.cumulative_tsn 1 old.beyond ≡ true → length old.beyond ≤ k.places → CanUndo u k
can-undo u k old back lt rise places = record {
  in_range = subst (λ (f : Filter). f.cumulative_tsn < 2 ^ 32) (sym back) lt;
  rise = subst (λ (f : Filter). rise_beyond f.cumulative_tsn 1 f.beyond ≡ true) (sym back) rise;
  places = subst (λ (f : Filter). length f.beyond ≤ k.places) (sym back) places;
}

-- ## Marks leave, and come again

pub tsns-without : (t : ℕ) (cs : List ChunkPayloadData) → tsns (without t cs) ≡ filter (λ u. not (u == t)) (tsns cs)
tsns-without t [] = refl
tsns-without t (c ∷ cs) = by (not (c.tsn == t)) (tsns-without t cs)
  where
    by : (b : Bool) → tsns (without t cs) ≡ filter (λ u. not (u == t)) (tsns cs)
        → tsns (if b then c ∷ without t cs else without t cs) ≡ (if b then c.tsn ∷ filter (λ u. not (u == t)) (tsns cs) else filter
        (λ u. not (u == t)) (tsns cs))
    by true ih = ap (λ us. c.tsn ∷ us) ih
    by false ih = ih

pub placeholders-without : (t : ℕ) (ts : List ℕ) → without t (map placeholder ts) ≡ map placeholder (filter (λ u. not (u == t)) ts)
placeholders-without t [] = refl
placeholders-without t (u ∷ us) = by (not (u == t)) (placeholders-without t us)
  where
    by : (b : Bool) → without t (map placeholder us) ≡ map placeholder (filter (λ v. not (v == t)) us)
        → (if b then placeholder u ∷ without t (map placeholder us) else without t (map placeholder us)) ≡ map placeholder
        (if b then u ∷ filter (λ v. not (v == t)) us else filter (λ v. not (v == t)) us)
    by true ih = ap (λ cs. placeholder u ∷ cs) ih
    by false ih = ih

self-distance : (c : ℕ) → c < 2 ^ 32 → distance c c ≡ 0
unfolding distance
self-distance c lt = omega arith

pub length-run : (t n : ℕ) → length (tsns_from t n) ≡ n
length-run t zero = refl
length-run t (suc n) = let h = length-run (following_tsn t) n in omega (arith, h)

-- the mark that is put back next: so many TSNs past the one that the cumulative TSN goes back to
module _ (c left : ℕ) (q : Payload) (lt : c < 2 ^ 32) (more : 1 < left) (placeholders : q.chunks ≡ map placeholder (tsns q.chunks))
    (rise : rise_beyond c 1 (tsns_from (following_tsn (following_tsn c)) (left - 1) ++ tsns q.chunks) ≡ true) where
  pub run-split : tsns_from (following_tsn (following_tsn c)) (left - 1) ++ tsns q.chunks ≡ tsns_from (following_tsn (following_tsn c)) (left - 1 - 1)
      ++ (c + left) % 2 ^ 32 ∷ tsns q.chunks
  run-split =
      let first = following_tsn (following_tsn c) in
      let n : left - 1 ≡ suc (left - 1 - 1) = omega (arith, more) in
      let e : (first + (left - 1 - 1)) % 2 ^ 32 ≡ (c + left) % 2 ^ 32 = omega (arith, more) in
      ap (λ k. tsns_from first k ++ tsns q.chunks) n
      ∙ ap (λ us. us ++ tsns q.chunks) (run-end first (left - 1 - 1) (omega arith) ∙ ap (λ u. tsns_from first (left - 1 - 1) ++ u ∷ []) e)
      ∙ append_assoc (tsns_from first (left - 1 - 1)) ((c + left) % 2 ^ 32 ∷ []) (tsns q.chunks)

  stands : IsStep c 1 ((c + left) % 2 ^ 32) × (rise_beyond c (distance c ((c + left) % 2 ^ 32)) (tsns q.chunks) ≡ true)
  stands = rise-behind c 1 (tsns_from (following_tsn (following_tsn c)) (left - 1 - 1)) ((c + left) % 2 ^ 32) (tsns q.chunks)
      (ap (rise_beyond c 1) (sym run-split) ∙ rise)

  pub back-window : IsWindow c q.chunks ((c + left) % 2 ^ 32)
  back-window = window c ((c + left) % 2 ^ 32) q.chunks lt stands.0 (nearer c (distance c ((c + left) % 2 ^ 32)) 1 (tsns q.chunks)
      (omega (arith, stands.0.farther)) stands.1)

  pub back-new : Window.is_new q.chunks ((c + left) % 2 ^ 32) c ≡ true
  back-new =
      let t = (c + left) % 2 ^ 32 in
      let after : at_or_before t c ≡ false = behind-it c c t lt lt stands.0.small stands.0.near (omega (arith, self-distance c lt, stands.0.farther)) in
      let gone : list_any (λ u. u == t) (tsns q.chunks) ≡ false = absent-nearer c (distance c t) t (tsns q.chunks) (omega arith) stands.1 in
      new-is q.chunks t c ∙ ap (λ b. not (b || list_any (λ u. u == t) (tsns q.chunks))) after ∙ ap not gone

  module _ (now : Payload) (is : now ≡ push_chunk q (placeholder ((c + left) % 2 ^ 32))) where
    put-chunks : now.chunks ≡ map placeholder ((c + left) % 2 ^ 32 ∷ tsns q.chunks)
    put-chunks =
        let t = (c + left) % 2 ^ 32 in
        ap (λ (p : Payload). p.chunks) is
        ∙ ap (insert_before chunk_before (placeholder t)) placeholders
        ∙ placeholders-inserted t (tsns q.chunks)
        ∙ ap (map placeholder) (in-front c t (tsns q.chunks) lt stands.0.small stands.1)

    pub back-placeholders : now.chunks ≡ map placeholder (tsns now.chunks)
    back-placeholders = as-placeholders now.chunks ((c + left) % 2 ^ 32 ∷ tsns q.chunks) put-chunks

    pub back-same : tsns_from (following_tsn (following_tsn c)) (left - 1 - 1) ++ tsns now.chunks ≡ tsns_from (following_tsn (following_tsn c))
        (left - 1) ++ tsns q.chunks
    back-same = ap (λ us. tsns_from (following_tsn (following_tsn c)) (left - 1 - 1) ++ us)
        (ap tsns put-chunks ∙ tsns-placeholder ((c + left) % 2 ^ 32 ∷ tsns q.chunks)) ∙ sym run-split

-- ## The TSNs as they were

module _ (c : ℕ) (q : Payload) (k : Kept) (view : came_in c q ≡ k.filter) (count : length q.chunks + q.room ≡ k.places)
    (placeholders : q.chunks ≡ map placeholder (tsns q.chunks)) where
  -- one beyond goes
  module _ (t : ℕ) (mid : Payload) (is : mid ≡ record q { chunks = without t q.chunks; room = mid.room }) (can : CanUndo (Beyond t) k) where
    out : tsns mid.chunks ≡ filter (λ u. not (u == t)) (tsns q.chunks)
    out = ap (λ (p : Payload). tsns p.chunks) is ∙ tsns-without t q.chunks

    pub gone-is : came_in c mid ≡ undone (Beyond t) k.filter
    gone-is =
        ap (λ (d : List ℕ). came c (tsns mid.chunks) d) (ap (λ (p : Payload). p.duplicates) is)
        ∙ ap (λ (us : List ℕ). came c us q.duplicates) out
        ∙ ap (undone (Beyond t)) view

    pub gone-placeholders : mid.chunks ≡ map placeholder (tsns mid.chunks)
    gone-placeholders = as-placeholders mid.chunks (filter (λ u. not (u == t)) (tsns q.chunks))
        (ap (λ (p : Payload). p.chunks) is ∙ ap (without t) placeholders ∙ placeholders-without t (tsns q.chunks))

    pub gone-rise : rise_beyond c 1 (tsns mid.chunks) ≡ true
    gone-rise = ap (λ (f : Filter). rise_beyond f.cumulative_tsn 1 f.beyond) gone-is ∙ can.rise

  -- the cumulative TSN goes back
  module _ (n : ℕ) (can : CanUndo (Next n) k) where
    pub back-rise : rise_beyond n 1 (passed n c ++ tsns q.chunks) ≡ true
    back-rise = subst (λ (f : Filter). rise_beyond n 1 (passed n f.cumulative_tsn ++ f.beyond) ≡ true) (sym view) can.rise

    pub back-room : distance n c - 1 ≤ q.room
    back-room =
        let p : length (passed n c ++ tsns q.chunks) ≤ k.places = subst
        (λ (f : Filter). length (passed n f.cumulative_tsn ++ f.beyond) ≤ k.places) (sym view) can.places in
        let a = length-append (passed n c) (tsns q.chunks) in
        let b = length-run (following_tsn (following_tsn n)) (distance n c - 1) in
        let m = length-map q.chunks (λ (x : ChunkPayloadData). x.tsn) in
        omega (arith, p, a, b, m, count)

    module _ (mid : Payload) (back : mid.chunks ≡ map placeholder (passed n c ++ tsns q.chunks))
        (rest : mid ≡ record q { chunks = mid.chunks; room = q.room - (distance n c - 1) }) where
      back-tsns : tsns mid.chunks ≡ passed n c ++ tsns q.chunks
      back-tsns = ap tsns back ∙ tsns-placeholder (passed n c ++ tsns q.chunks)

      pub next-is-back : came_in n mid ≡ undone (Next n) k.filter
      next-is-back =
          ap (λ (d : List ℕ). came n (tsns mid.chunks) d) (ap (λ (p : Payload). p.duplicates) rest)
          ∙ ap (λ (us : List ℕ). came n us q.duplicates) back-tsns
          ∙ ap (undone (Next n)) view

      pub next-placeholders : mid.chunks ≡ map placeholder (tsns mid.chunks)
      next-placeholders = as-placeholders mid.chunks (passed n c ++ tsns q.chunks) back

      pub next-rise : rise_beyond n 1 (tsns mid.chunks) ≡ true
      next-rise = ap (rise_beyond n 1) back-tsns ∙ back-rise

      pub next-places : length mid.chunks + mid.room ≡ k.places
      next-places =
          let a = ap (λ (us : List ℕ). length us) back-tsns in
          let b = length-append (passed n c) (tsns q.chunks) in
          let d = length-run (following_tsn (following_tsn n)) (distance n c - 1) in
          let m = length-map mid.chunks (λ (x : ChunkPayloadData). x.tsn) in
          let o = length-map q.chunks (λ (x : ChunkPayloadData). x.tsn) in
          let r = ap (λ (p : Payload). p.room) rest in
          omega (arith, a, b, d, m, o, r, back-room, count)

-- ## Several

pub undone-last : (us : List TsnUndo) (u : TsnUndo) (f : Filter) → each_undone (us ++ u ∷ []) f ≡ each_undone us (undone u f)
undone-last [] u f = refl
undone-last (v ∷ us) u f = ap (undone v) (undone-last us u f)

-- with so many places
abbrev pub kept : Filter → ℕ → Kept
kept f places = record { filter = f; places = places }

pub can-last : (us : List TsnUndo) (u : TsnUndo) (k : Kept) → CanUndoEach (us ++ u ∷ []) k
    → CanUndo u k × CanUndoEach us (kept (undone u k.filter) k.places)
can-last [] u k can = (can.1, tt)
can-last (v ∷ us) u k can =
    let r = can-last us u k can.0 in
    (r.0, (r.1, subst (λ f. CanUndo v (kept f k.places)) (undone-last us u k.filter) can.1))

pub last-can : (us : List TsnUndo) (u : TsnUndo) (k : Kept) → CanUndo u k → CanUndoEach us (kept (undone u k.filter) k.places)
    → CanUndoEach (us ++ u ∷ []) k
last-can [] u k one rest = (tt, one)
last-can (v ∷ us) u k one rest =
    (last-can us u k one rest.0, subst (λ f. CanUndo v (kept f k.places)) (sym (undone-last us u k.filter)) rest.1)

-- more places serve too
pub can-more : (us : List TsnUndo) (f : Filter) (few many : ℕ) → few ≤ many → CanUndoEach us (kept f few) → CanUndoEach us (kept f many)
can-more [] f few many le can = tt
can-more (u ∷ us) f few many le can = (
  can-more us f few many le can.0,
  record { in_range = can.1.in_range; rise = can.1.rise; places = omega (arith, le, can.1.places) },
)
