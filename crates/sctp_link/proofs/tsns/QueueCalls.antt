-- What each call makes of the TSNs in a queue.
use Rattle.std.proofs.Common.{◌≡◌, ℕ, ◌+◌, ◌-◌, ◌<◌, ◌≤◌, ◌^◌, Bool, true, false, List, [], ◌∷◌, length, map, ap, sym, subst, ◌∙◌, inl, inr, arith}
use Rattle.std.proofs.Common.{IsTrue}
use Rattle.std.proofs.Common.{Result, Ok, Err}
use Rattle.std.specs.Prelude.{if◌then◌else◌, ◌==◌, not, IsOk, IfOk}
use Rattle.std.specs.List.{list_any, filter}
use Rattle.std.proofs.lemmas.Bool.Decides.{nat_tests}
use Rattle.sctp_util.specs.Lists.{insert_before, advance_over, Seen}
use Rattle.sctp_util.specs.Serial.{distance, comes_before, at_or_before}
use Rattle.sctp_util.proofs.More.{not_both}
use Rattle.sctp_util.proofs.Distances.{before_is, distance_cases}
use Rattle.sctp_data.specs.declared.chunk.chunk_payload_data.ChunkPayloadData.{ChunkPayloadData}
use Rattle.sctp_serial.specs.DataChunks.{chunk_before, bytes_of, following_tsn, tsns}
use Rattle.sctp_serial.specs.Window
use Rattle.sctp_serial.specs.Window.{IsWindow}
use Rattle.sctp_outbound.specs.payload_queue.PayloadQueue.{Payload, push_chunk, add_duplicate, past, with_chunks}
use Rattle.sctp_receiver.specs.TsnFilter.{Filter, has_come, is_opposite, with_tsn, with_duplicate, skipped_to, placeholder, rise_beyond}
use Rattle.sctp_link.specs.Tsns.{came, came_in}
use Rattle.sctp_receiver.proofs.TsnLists.{IsStep, IsMoved, expected-absent, expected-after, beyond, stays, moves, moved, rise-inserted, rise-past, rebased}
use Rattle.sctp_link.proofs.tsns.Placeholders.{tsns-placeholder, as-placeholders, placeholders-inserted, placeholders-past, no-bytes, new-is, window}
use Rattle.sctp_serial.proofs.lemmas.ListEdits.{neither}
use Rattle.sctp_reassembly.proofs.lemmas.reassembly_queue.SerialPlaces.{after_one}

-- ## New and repeated ones

pub come-expected : (c : ℕ) (q : Payload) → c < 2 ^ 32 → rise_beyond c 1 (tsns q.chunks) ≡ true → has_come (following_tsn c) (came_in c q) ≡ false
come-expected c q lt h = cc (expected-after c lt, expected-absent c 1 (tsns q.chunks) lt (omega arith) h)

pub few-bytes : (cs : List ChunkPayloadData) → cs ≡ map placeholder (tsns cs) → bytes_of cs + 0 < 2 ^ 64
few-bytes cs e = let none : bytes_of cs ≡ 0 = ap bytes_of e ∙ no-bytes (tsns cs) in omega arith

module _ (c t : ℕ) (q : Payload) (lt : c < 2 ^ 32) (small : t < 2 ^ 32) (placeholders : q.chunks ≡ map placeholder (tsns q.chunks))
    (rise : rise_beyond c 1 (tsns q.chunks) ≡ true) where
  pub no-window : has_come t (came_in c q) ≡ true → IsTrue (Window.is_new q.chunks t c) → IsWindow c q.chunks t
  no-window come new = absurd (not_both (sym (ap not come) ∙ sym (new-is q.chunks t c) ∙ new))

  module _ (fresh : has_come t (came_in c q) ≡ false) (near : is_opposite t (came_in c q) ≡ false) where
    pub is-new : Window.is_new q.chunks t c ≡ true
    is-new = new-is q.chunks t c ∙ ap not fresh

    module _ (differs : (t == following_tsn c) ≡ false) where
      pub lies : IsStep c 1 t
      lies = beyond c t lt small (neither (at_or_before t c) (list_any (λ u. u == t) (tsns q.chunks)) fresh).0 near differs

      pub new-window : IsWindow c q.chunks t
      new-window = window c t q.chunks lt lies rise

      put : tsns (insert_before chunk_before (placeholder t) q.chunks) ≡ insert_before comes_before t (tsns q.chunks)
      put = ap (λ cs. tsns (insert_before chunk_before (placeholder t) cs)) placeholders ∙ ap tsns (placeholders-inserted t (tsns q.chunks))
          ∙ tsns-placeholder (insert_before comes_before t (tsns q.chunks))

      pub put-placeholders : insert_before chunk_before (placeholder t) q.chunks ≡ map placeholder (tsns (insert_before chunk_before (placeholder t) q.chunks))
      put-placeholders = as-placeholders (insert_before chunk_before (placeholder t) q.chunks) (insert_before comes_before t (tsns q.chunks))
          (ap (insert_before chunk_before (placeholder t)) placeholders ∙ placeholders-inserted t (tsns q.chunks))

      more : rise_beyond c 1 (insert_before comes_before t (tsns q.chunks)) ≡ true
      more = rise-inserted c 1 t (tsns q.chunks) lt lies (neither (at_or_before t c) (list_any (λ u. u == t) (tsns q.chunks)) fresh).1 rise

      pub put-rise : rise_beyond c 1 (tsns (insert_before chunk_before (placeholder t) q.chunks)) ≡ true
      put-rise = ap (rise_beyond c 1) put ∙ more

      pub put-is : came c (tsns (insert_before chunk_before (placeholder t) q.chunks)) q.duplicates ≡ with_tsn t (came_in c q)
      put-is = ap (λ (ts : List ℕ). came c ts q.duplicates) put
          ∙ ap (λ (s : Seen). came s.cum s.held q.duplicates) (sym (stays c (insert_before comes_before t (tsns q.chunks)) lt more))

-- what a push within room makes
pub within-room : {E : Type 0} (r : Result Bool E) (q now : Payload) (x : ChunkPayloadData) (b : Bool) → IsOk r → IfOk r (λ new. new ≡ b)
    → IfOk r (λ new. now ≡ (if new then push_chunk q x else add_duplicate q x.tsn)) → b ≡ true → now ≡ push_chunk q x
within-room (Ok new) q now x b ok answer is one = is ∙ ap (λ n. if n then push_chunk q x else add_duplicate q x.tsn) (answer ∙ one)
within-room (Err e) q now x b ok answer is one = cc

-- what a push that is not refused makes
pub put-in : (q now : Payload) (x : ChunkPayloadData) (new b : Bool) → new ≡ b
    → now ≡ (if new then push_chunk q x else add_duplicate q x.tsn) → b ≡ true → now ≡ push_chunk q x
put-in q now x new b answer is one = is ∙ ap (λ n. if n then push_chunk q x else add_duplicate q x.tsn) (answer ∙ one)

pub length-put : {A : Type 0} (before : A → A → Bool) (x : A) (xs : List A) → length (insert_before before x xs) ≡ length xs + 1
length-put before x [] = omega arith
length-put before x (e ∷ es) = by (before x e) (length-put before x es)
  where
    by : (b : Bool) → length (insert_before before x es) ≡ length es + 1 → length (if b then x ∷ e ∷ es else e ∷ insert_before before x es) ≡ length
        (e ∷ es) + 1
    by true ih = omega arith
    by false ih = omega (arith, ih)

-- it takes one place of the room, where there is one
pub put-places : (q now : Payload) (x : ChunkPayloadData) → now ≡ push_chunk q x → length q.chunks + q.room ≤ length now.chunks + now.room
put-places q now x is =
    let a = ap (λ (p : Payload). length p.chunks) is in
    let b = ap (λ (p : Payload). p.room) is in
    let n = length-put chunk_before x q.chunks in
    omega (arith, a, b, n)

-- ## The cumulative TSN moves

module _ (c : ℕ) (q : Payload) (lt : c < 2 ^ 32) (placeholders : q.chunks ≡ map placeholder (tsns q.chunks))
    (rise : rise_beyond c 1 (tsns q.chunks) ≡ true) where
  -- over the one that is expected next
  pub next-moved : IsMoved (advance_over (following_tsn c) (tsns q.chunks))
  next-moved =
      let one = after_one c lt in
      let none : 1 - distance c (following_tsn c) ≡ 0 = omega arith in
      moved (following_tsn c) (tsns q.chunks) (omega arith) (subst (λ n. rise_beyond (following_tsn c) n (tsns q.chunks) ≡ true) none
      (rebased c (following_tsn c) 1 (tsns q.chunks) lt (omega arith) (omega arith) rise))

  pub next-is : (let s : Seen = advance_over (following_tsn c) (tsns q.chunks) in came s.cum s.held q.duplicates) ≡ with_tsn (following_tsn c) (came_in c q)
  next-is = ap (λ (s : Seen). came s.cum s.held q.duplicates) (sym (moves c (tsns q.chunks) lt rise))

  module _ (n : ℕ) (small : n < 2 ^ 32) (after : comes_before c n ≡ true) where
    past-is : tsns (past n q.chunks) ≡ filter (λ t. not (at_or_before t n)) (tsns q.chunks)
    past-is = ap (λ cs. tsns (past n cs)) placeholders ∙ ap tsns (placeholders-past n (tsns q.chunks))
        ∙ tsns-placeholder (filter (λ t. not (at_or_before t n)) (tsns q.chunks))

    pub past-placeholders : past n q.chunks ≡ map placeholder (tsns (past n q.chunks))
    past-placeholders = as-placeholders (past n q.chunks) (filter (λ t. not (at_or_before t n)) (tsns q.chunks))
        (ap (past n) placeholders ∙ placeholders-past n (tsns q.chunks))

    pub past-moved : IsMoved (advance_over n (tsns (past n q.chunks)))
    past-moved =
        let d = before_is c n after in
        let none : 1 - distance c n ≡ 0 = omega (arith, d) in
        subst (λ ts. IsMoved (advance_over n ts)) (sym past-is)
        (moved n (filter (λ t. not (at_or_before t n)) (tsns q.chunks)) small (subst
        (λ m. rise_beyond n m (filter (λ t. not (at_or_before t n)) (tsns q.chunks)) ≡ true) none (rise-past c n 1 (tsns q.chunks) lt small d.1 rise)))

    pub skipped-is : (let s : Seen = advance_over n (tsns (past n q.chunks)) in came s.cum s.held q.duplicates) ≡ skipped_to n (came_in c q)
    skipped-is = ap (λ ts. let s : Seen = advance_over n ts in came s.cum s.held q.duplicates) past-is

-- ## Calls as a whole: the view before is v

module _ (c : ℕ) (q then' : Payload) (r : ℕ) (v : Filter) (view : came_in c q ≡ v) (lt : c < 2 ^ 32)
    (placeholders : q.chunks ≡ map placeholder (tsns q.chunks))
    (rise : rise_beyond c 1 (tsns q.chunks) ≡ true) where
  pub after-next : (t : ℕ) → t ≡ following_tsn c → advance_over t (tsns q.chunks) ≡ record { cum = r; held = tsns then'.chunks }
      → then' ≡ record q { chunks = then'.chunks; room = then'.room }
      → IsMoved (record { cum = r; held = tsns then'.chunks }) × (came_in r then' ≡ with_tsn t v)
  after-next t is e rest =
      let go : advance_over (following_tsn c) (tsns q.chunks) ≡ record { cum = r; held = tsns then'.chunks } = ap (λ u. advance_over u (tsns q.chunks)) (sym is)
      ∙ e in (
        subst IsMoved go (next-moved c q lt placeholders rise),
        ap (λ (d : List ℕ). came r (tsns then'.chunks) d) (ap (λ (p : Payload). p.duplicates) rest)
            ∙ ap (λ (s : Seen). came s.cum s.held q.duplicates) (sym go)
            ∙ next-is c q lt placeholders rise ∙ ap (λ u. with_tsn u (came_in c q)) (sym is)
            ∙ ap (with_tsn t) view,
      )

  pub after-skip : (n : ℕ) → n < 2 ^ 32 → comes_before c n ≡ true → (mid : Payload) → mid ≡ with_chunks q (past n q.chunks)
      → advance_over n (tsns mid.chunks) ≡ record { cum = r; held = tsns then'.chunks } → then' ≡ record mid { chunks = then'.chunks; room = then'.room }
      → IsMoved (record { cum = r; held = tsns then'.chunks }) × (came_in r then' ≡ skipped_to n v)
  after-skip n small before mid is e rest =
      let go : advance_over n (tsns (past n q.chunks)) ≡ record { cum = r; held = tsns then'.chunks } = ap (λ (p : Payload). advance_over n (tsns p.chunks))
      (sym is) ∙ e in
      let dups : then'.duplicates ≡ q.duplicates = ap (λ (p : Payload). p.duplicates) rest ∙ ap (λ (p : Payload). p.duplicates) is in (
        subst IsMoved go (past-moved c q lt placeholders rise n small before),
        ap (λ (d : List ℕ). came r (tsns then'.chunks) d) dups
            ∙ ap (λ (s : Seen). came s.cum s.held q.duplicates) (sym go)
            ∙ skipped-is c q lt placeholders rise n small before
            ∙ ap (skipped_to n) view,
      )

  pub skip-placeholders : (n : ℕ) → n < 2 ^ 32 → comes_before c n ≡ true → (mid : Payload) → mid ≡ with_chunks q (past n q.chunks)
      → mid.chunks ≡ map placeholder (tsns mid.chunks)
  skip-placeholders n small before mid is =
      let e : mid.chunks ≡ past n q.chunks = ap (λ (p : Payload). p.chunks) is in
      e ∙ past-placeholders c q lt placeholders rise n small before ∙ ap (λ cs. map placeholder (tsns cs)) (sym e)

-- a new TSN that is not the one expected next is put in the queue
module _ (c t : ℕ) (q then' : Payload) (v : Filter) (view : came_in c q ≡ v) (lt : c < 2 ^ 32) (small : t < 2 ^ 32)
    (placeholders : q.chunks ≡ map placeholder (tsns q.chunks)) (rise : rise_beyond c 1 (tsns q.chunks) ≡ true)
    (fresh : has_come t v ≡ false) (near : is_opposite t v ≡ false) (differs : (t == following_tsn c) ≡ false) where
  inside-fresh : has_come t (came_in c q) ≡ false
  inside-fresh = ap (has_come t) view ∙ fresh

  inside-near : is_opposite t (came_in c q) ≡ false
  inside-near = ap (is_opposite t) view ∙ near

  pub put-window : IsWindow c q.chunks t
  put-window = new-window c t q lt small placeholders rise inside-fresh inside-near differs

  pub put-new : Window.is_new q.chunks t c ≡ true
  put-new = is-new c t q lt small placeholders rise inside-fresh inside-near

  pub record IsPut : Type 0 where
    pub as-placeholders : then'.chunks ≡ map placeholder (tsns then'.chunks)
    pub rises : rise_beyond c 1 (tsns then'.chunks) ≡ true
    pub is : came_in c then' ≡ with_tsn t v

  pub after-put : then' ≡ push_chunk q (placeholder t) → IsPut
  after-put e =
      let cs : then'.chunks ≡ insert_before chunk_before (placeholder t) q.chunks = ap (λ (p : Payload). p.chunks) e in
      record {
        as-placeholders = cc (cs, put-placeholders c t q lt small placeholders rise inside-fresh inside-near differs);
        rises = ap (λ ds. rise_beyond c 1 (tsns ds)) cs ∙ put-rise c t q lt small placeholders rise inside-fresh inside-near differs;
        is = cc (cs, e, put-is c t q lt small placeholders rise inside-fresh inside-near differs, view);
      }

-- a TSN that came is noted
pub after-repeat : (c t : ℕ) (q then' : Payload) (v : Filter) (new : Bool) → came_in c q ≡ v → has_come t v ≡ true → new ≡ Window.is_new q.chunks t c
    → then' ≡ (if new then push_chunk q (placeholder t) else add_duplicate q t) → (then' ≡ add_duplicate q t) × (came_in c then' ≡ with_duplicate t v)
after-repeat c t q then' v new view come answer is =
    let old : Window.is_new q.chunks t c ≡ false = new-is q.chunks t c ∙ ap not (ap (has_come t) view ∙ come) in
    let e : then' ≡ add_duplicate q t = is ∙ ap (λ b. if b then push_chunk q (placeholder t) else add_duplicate q t) (answer ∙ old) in
    (e, ap (came_in c) e ∙ ap (with_duplicate t) view)

-- ## What is at or before does not come after

pub not-after : (c t : ℕ) → c < 2 ^ 32 → t < 2 ^ 32 → at_or_before t c ≡ true → comes_before c t ≡ false
unfolding at_or_before comes_before
not-after c t hc ht early =
    let short : distance t c < 2 ^ 31 = grind (arith, nat_tests, early) in
    elim (distance_cases c t hc ht) [
      | inl p ↦ elim (distance_cases t c ht hc) [
        | inl q ↦ (let z : distance c t ≡ 0 = omega (arith, p, q, short) in grind (arith, nat_tests, z))
        | inr q ↦ (let z : 2 ^ 31 ≤ distance c t = omega (arith, p, q, short) in grind (arith, nat_tests, z))
      ]
      | inr p ↦ elim (distance_cases t c ht hc) [
        | inl q ↦ (let z : 2 ^ 31 ≤ distance c t = omega (arith, p, q, short) in grind (arith, nat_tests, z))
        | inr q ↦ absurd (omega (arith, p, q))
      ]
    ]
