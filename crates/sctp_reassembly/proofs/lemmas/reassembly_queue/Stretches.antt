-- What joins a fragment that is put in, looked at from there to both sides.
use Rattle.std.proofs.Common.{◌≡◌, ◌≢◌, ℕ, ◌+◌, ◌-◌, ◌^◌, ◌<◌, ◌≤◌, IsTrue, List, length, length-drop, length-take-le, get_or, take, drop, remove, sym, ap}
use Rattle.std.proofs.Common.{subst, ◌∙◌, inl, inr, arith, Bool, true, Option, None, Some}
use Rattle.std.specs.Prelude.{IfSome}
use Rattle.std.specs.List.{insert}
use Rattle.std.proofs.lemmas.Bool.{cases_eq, false≢true}
use Rattle.sctp_util.specs.Lists.{insert_before}
use Rattle.sctp_util.specs.Serial.{comes_before}
use Rattle.sctp_util.proofs.Distances.{before_irrefl}
use Rattle.sctp_serial.proofs.lemmas.ListEdits.{inserted-position, remove-insert}
use Rattle.sctp_serial.specs.Window.{IsSerial}
use Rattle.sctp_reassembly.specs.reassembly_queue.Costs.{FitsInOrder, Joins, IsAtEnd}
use Rattle.sctp_reassembly.specs.reassembly_queue.Loose.{place_among}
use Rattle.sctp_reassembly.specs.reassembly_queue.ReassemblyQueue.{Reassembly}
use Rattle.std.proofs.lemmas.List.{get_or_default}
use Rattle.std.proofs.lemmas.List.Edits.{length-insert, get_or-insert_below, get_or-insert_at, get_or-insert_above}
use Rattle.sctp_data.specs.declared.chunk.chunk_payload_data.ChunkPayloadData.{ChunkPayloadData}
use Rattle.sctp_serial.specs.DataChunks.{bytes_of, chunk_before, following_tsn, preceding_tsn}
use Rattle.sctp_serial.specs.Runs.{IsRising, IsRun, IsRunAround, HasNoRun, IsStretch}
use Rattle.sctp_reassembly.proofs.lemmas.reassembly_queue.SerialPlaces.{was_behind, place_upto, serial_without}
use Rattle.sctp_reassembly.proofs.lemmas.reassembly_queue.UnassembledBytes.{one_out}
use Rattle.sctp_reassembly.proofs.lemmas.reassembly_queue.UnassembledRuns.{stretch_from, stretch_to, all_around}

-- TSNs rise by one from here to the place, and this is the TSN here
pub record RisesFrom (xs : List ChunkPayloadData) (place tsn here next : ℕ) : Type 0 where
  pub number : (x d : ChunkPayloadData) → x.tsn ≡ tsn → (get_or (insert xs place x) here d).tsn ≡ next
  pub rising : (x : ChunkPayloadData) → x.tsn ≡ tsn → IsRising (insert xs place x) here place

pub rises_at : (xs : List ChunkPayloadData) (place tsn : ℕ) → place ≤ length xs → RisesFrom xs place tsn place tsn
rises_at xs place tsn le = record {
  number = λ x d e. ap (λ (c : ChunkPayloadData). c.tsn) (get_or-insert_at xs place x d le) ∙ e;
  rising = λ x e k d ge lt. absurd (omega arith);
}

follows : (n m : ℕ) → n < 2 ^ 32 → m ≡ preceding_tsn n → n ≡ following_tsn m
follows n m small e = omega arith

-- one place nearer to the front
pub rises_before : (xs : List ChunkPayloadData) (place tsn here next : ℕ) (y : ChunkPayloadData) → place ≤ length xs → 0 < here → here ≤ place → next < 2 ^ 32
    → y ≡ get_or xs (here - 1) y → y.tsn ≡ preceding_tsn next → RisesFrom xs place tsn here next → RisesFrom xs place tsn (here - 1) y.tsn
rises_before xs place tsn here next y le pos upto small read before h = record {
  number = λ x d e. number x d;
  rising = λ x e k d ge lt. elim (cases_eq k (here - 1)) [
    | inl same ↦
        ap (λ i. (get_or (insert xs place x) i d).tsn) {x = k + 1} {y = here} (omega arith) ∙ h.number x d e ∙ follows next y.tsn small before
        ∙ ap (λ t. following_tsn t) (sym (number x d)) ∙ ap (λ i. following_tsn (get_or (insert xs place x) i d).tsn) (sym same)
    | inr apart ↦ h.rising x e k d (omega arith) lt
  ];
}
  where
    number : (x d : ChunkPayloadData) → (get_or (insert xs place x) (here - 1) d).tsn ≡ y.tsn
    number x d =
        ap (λ (c : ChunkPayloadData). c.tsn) (get_or-insert_below xs place x d (here - 1) (omega arith) le
        ∙ get_or_default xs (here - 1) d y (omega arith) ∙ sym read)

pub front_within : (xs : List ChunkPayloadData) (place tsn here next : ℕ) → here ≤ place → RisesFrom xs place tsn here next → (x : ChunkPayloadData) (s t : ℕ)
    → x.tsn ≡ tsn → IsStretch (insert xs place x) place s t → s ≤ here
front_within xs place tsn here next le h x s t e w = stretch_from (insert xs place x) place s t w here x le (h.rising x e)

-- TSNs rise by one from the place to this one, in front of which the scan stands, and this is the TSN there
pub record RisesTo (xs : List ChunkPayloadData) (place tsn here last : ℕ) : Type 0 where
  pub number : (x d : ChunkPayloadData) → x.tsn ≡ tsn → (get_or (insert xs place x) here d).tsn ≡ last
  pub rising : (x : ChunkPayloadData) → x.tsn ≡ tsn → IsRising (insert xs place x) place here

pub rises_from : (xs : List ChunkPayloadData) (place tsn : ℕ) → place ≤ length xs → RisesTo xs place tsn place tsn
rises_from xs place tsn le = record {
  number = λ x d e. ap (λ (c : ChunkPayloadData). c.tsn) (get_or-insert_at xs place x d le) ∙ e;
  rising = λ x e k d ge lt. absurd (omega arith);
}

-- one place nearer to the end
pub rises_after : (xs : List ChunkPayloadData) (place tsn here last : ℕ) (y : ChunkPayloadData) → place ≤ here → here < length xs
    → y ≡ get_or xs here y → y.tsn ≡ following_tsn last → RisesTo xs place tsn here last → RisesTo xs place tsn (here + 1) y.tsn
rises_after xs place tsn here last y from lt read after h = record {
  number = λ x d e. number x d;
  rising = λ x e k d ge up. elim (cases_eq k here) [
    | inl same ↦ ap (λ i. (get_or (insert xs place x) (i + 1) d).tsn) same ∙ number x d ∙ after ∙ ap (λ t. following_tsn t) (sym (h.number x d e))
        ∙ ap (λ i. following_tsn (get_or (insert xs place x) i d).tsn) (sym same)
    | inr apart ↦ h.rising x e k d ge (omega arith)
  ];
}
  where
    number : (x d : ChunkPayloadData) → (get_or (insert xs place x) (here + 1) d).tsn ≡ y.tsn
    number x d =
        ap (λ (c : ChunkPayloadData). c.tsn) (get_or-insert_above xs place x d here from (omega arith)
        ∙ get_or_default xs here d y lt ∙ sym read)

pub back_within : (xs : List ChunkPayloadData) (place tsn here last : ℕ) → place ≤ here → here ≤ length xs → RisesTo xs place tsn here last
    → (x : ChunkPayloadData) (s t : ℕ) → x.tsn ≡ tsn → IsStretch (insert xs place x) place s t → here ≤ t
back_within xs place tsn here last from le h x s t e w =
    stretch_to (insert xs place x) place s t w here x from (omega (arith, length-insert xs place x (omega arith))) (h.rising x e)

-- a run around the place is no longer than its stretch
pub run_within : (xs : List ChunkPayloadData) (place s t f n : ℕ) (d : ChunkPayloadData) → IsStretch xs place s t → IsRunAround xs place f n → n ≤ t + 1 - s
run_within xs place s t f n d w (run, from, to) =
    let low = stretch_from xs place s t w f d from (λ k e ge lt. run.rising k e ge (omega arith)) in
    let high = stretch_to xs place s t w (f + n - 1) d (omega arith) (omega (arith, run.in_range)) (λ k e ge lt. run.rising k e (omega arith) lt) in
    omega (arith, low, high, run.some)

-- in serial order the TSN of what is put in was not there
pub no_repeat : (xs : List ChunkPayloadData) (place : ℕ) (x : ChunkPayloadData) → place ≤ length xs → IsSerial (insert xs place x) → (d : ChunkPayloadData)
    → 0 < place → (get_or xs (place - 1) d).tsn ≢ x.tsn
no_repeat xs place x le serial d pos same =
    let n = length-insert xs place x le in
    let small = subst (λ (c : ChunkPayloadData). c.tsn < 2 ^ 32) (get_or-insert_at xs place x d le) (serial.in_range place d (omega arith)) in
    let up = was_behind xs place x le serial (place - 1) d (omega arith) in
    false≢true (sym (before_irrefl x.tsn small) ∙ subst (λ t. IsTrue (comes_before t x.tsn)) same up)

-- ## Where a chunk goes

pub inserted_among : (xs : List ChunkPayloadData) (x : ChunkPayloadData) (place : ℕ) → place ≡ place_among x.tsn xs
    → insert_before chunk_before x xs ≡ insert xs place x
inserted_among xs x place at = inserted-position chunk_before x xs ∙ ap (λ i. insert xs i x) (sym at)

-- without it nothing has changed
pub none_without : (xs : List ChunkPayloadData) (x : ChunkPayloadData) (place : ℕ) → place ≤ length xs → HasNoRun xs
    → HasNoRun (remove (insert xs place x) place)
none_without xs x place le none = subst HasNoRun (sym (remove-insert xs place x le)) none

-- so it is noted of its place, where it is known
pub apart_after : (apart : Option ℕ) (searched : Bool) (xs ys : List ChunkPayloadData) (x : ChunkPayloadData) (place : ℕ) → place ≤ length xs
    → ys ≡ insert xs place x → (searched ≡ true → HasNoRun xs) → IfSome apart (λ p. (p ≡ place) × (searched ≡ true))
    → IfSome apart (λ p. HasNoRun (remove ys p))
apart_after None searched xs ys x place le e known h = tt
apart_after (Some p) searched xs ys x place le e known h =
    subst (λ i. HasNoRun (remove ys i)) (sym h.0) (subst (λ ls. HasNoRun (remove ls place)) (sym e) (none_without xs x place le (known h.1)))

-- the run that it completes lies in its stretch
pub run_joined : (xs : List ChunkPayloadData) (x : ChunkPayloadData) (place : ℕ) → place ≤ length xs → HasNoRun xs → (s t f n : ℕ)
    → IsStretch (insert xs place x) place s t → IsRun (insert xs place x) f n → n ≤ t + 1 - s
run_joined xs x place le none s t f n w run =
    let lt : place < length (insert xs place x) = omega (arith, length-insert xs place x le) in
    run_within (insert xs place x) place s t f n x w (all_around (insert xs place x) place x lt (none_without xs x place le none) f n run)

-- and at an end of its stretch, where its message goes on, it completes none
pub none_at_end : (xs : List ChunkPayloadData) (x : ChunkPayloadData) (place : ℕ) → place ≤ length xs → HasNoRun xs → (s t f n : ℕ)
    → IsStretch (insert xs place x) place s t → IsAtEnd x place s t → IsRun (insert xs place x) f n → ⊥
none_at_end xs x place le none s t f n w end run =
    let ys = insert xs place x in
    let lt : place < length ys = omega (arith, length-insert xs place x le) in
    let (r, from, to) = all_around ys place x lt (none_without xs x place le none) f n run in
    let low = stretch_from ys place s t w f x from (λ k e ge up. r.rising k e ge (omega arith)) in
    let high = stretch_to ys place s t w (f + n - 1) x (omega arith) (omega (arith, r.in_range)) (λ k e ge up. r.rising k e (omega arith) up) in
    elim end [
      | inl (same, open_end) ↦ false≢true (sym open_end ∙ ap (λ (c : ChunkPayloadData). c.ending_fragment) (sym (get_or-insert_at xs place x x le))
          ∙ ap (λ i. (get_or ys i x).ending_fragment) {x = place} {y = f + n - 1} (omega (arith, same, high)) ∙ r.ends x)
      | inr (same, plain) ↦ false≢true (sym plain ∙ ap (λ (c : ChunkPayloadData). c.beginning_fragment) (sym (get_or-insert_at xs place x x le))
          ∙ ap (λ i. (get_or ys i x).beginning_fragment) {x = place} {y = f} (omega (arith, same, low)) ∙ r.begins x)
    ]

pub bytes_with : (xs : List ChunkPayloadData) (x : ChunkPayloadData) (place : ℕ) → place ≤ length xs
    → bytes_of (insert xs place x) ≡ length x.user_data + bytes_of xs
bytes_with xs x place le =
    one_out (insert xs place x) xs place x (omega (arith, length-insert xs place x le)) (sym (remove-insert xs place x le))
    (sym (get_or-insert_at xs place x x le))

-- a chunk that stands in order with those that are there, at its place
pub record FitsAt (xs : List ChunkPayloadData) (x : ChunkPayloadData) (place s t : ℕ) : Type 0 where
  pub le : place ≤ length xs
  pub serial : IsSerial (insert xs place x)
  pub without : IsSerial xs
  pub none : HasNoRun xs
  pub small : bytes_of xs + length x.user_data < 2 ^ 64 - 1
  pub stretch : IsStretch (insert xs place x) place s t

pub fits_at : (q : Reassembly) (xs : List ChunkPayloadData) (x : ChunkPayloadData) (place s t : ℕ) → xs ≡ q.unassembled
    → place ≡ place_among x.tsn q.unassembled → FitsInOrder x q → Joins x q s t → FitsAt xs x place s t
fits_at q xs x place s t same at f w =
    let e : insert_before chunk_before x q.unassembled ≡ insert xs place x =
    inserted_among q.unassembled x place at ∙ ap (λ zs. insert zs place x) (sym same) in
    let le : place ≤ length xs = omega (arith, ap length same, place_upto x.tsn q.unassembled place at) in
    let serial = subst IsSerial e f.serial in
    record {
      le = le;
      serial = serial;
      without = serial_without xs place x le serial;
      none = subst HasNoRun (sym same) f.incomplete;
      small = subst (λ zs. bytes_of zs + length x.user_data < 2 ^ 64 - 1) (sym same) f.bytes;
      stretch = subst (λ ys. IsStretch ys place s t) e (subst (λ i. IsStretch (insert_before chunk_before x q.unassembled) i s t) (sym at) w);
    }

-- how many fragments a run has that is taken out
pub run_long : (ys taken : List ChunkPayloadData) (f n : ℕ) → f + n ≤ length ys → taken ≡ take n (drop f ys) → length taken ≡ n
run_long ys taken f n le e = ap length e ∙ length-take-le n (drop f ys) (omega (arith, length-drop f ys))
