-- The chunks in flight, from the first one on, that are not marked for retransmission.
use Rattle.sctp_sender.proofs.Names.{◌≡◌, ℕ, zero, suc, ◌+◌, ◌-◌, ◌<◌, ◌≤◌, Bool, true, false, List, [], ◌∷◌, ◌++◌, length, length-append, map, take, drop}
use Rattle.sctp_sender.proofs.Names.{get_or, slice_get, Option, Some, None, inl, inr, refl, ap, sym, subst, ◌∙◌, arith, ◌&&◌, ◌||◌, ◌==◌, min, not}
use Rattle.sctp_sender.proofs.Names.{if◌then◌else◌, filter, list_any, cases_lt, take_more, change_where, or-none, length-change_where, list_any-append}
use Rattle.sctp_sender.proofs.Names.{not_both, ChunkPayloadData, as_abandoned, is_of, is_outstanding, Outbound, abandoned_of, all_started, as_sent, expired_of}
use Rattle.sctp_sender.proofs.Names.{sent_next, sent_of, terminal_chunk, with_inflight, with_terminal_chunk, last_removed, next_pending, PlacedData}
use Rattle.sctp_sender.proofs.Names.{following_tsn, Flight, IsContiguous, tsns_from, put_back, AreUnmarked, can_miss, is_third, is_to_resend, is_worn, missed}
use Rattle.std.specs.List.{find}
use Rattle.std.proofs.lemmas.List.{length-drop}
use Rattle.sctp_outbound.specs.payload_queue.PayloadQueue as payload
use Rattle.sctp_sender.proofs.Flights.{started-inflight}
use Rattle.sctp_sender.proofs.InLine.{put-behind}
use Rattle.sctp_sender.proofs.Placed.{put-length, put-map}
use Rattle.sctp_sender.proofs.Runs.{IsRunFrom, changed-run}
use Rattle.sctp_sender.proofs.Walks.{read-of}

abbrev pub is_marked : ChunkPayloadData → Bool
is_marked c = c.retransmit

or-no : (a b : Bool) → (a || b) ≡ false → (a ≡ false) × (b ≡ false)
or-no true b e = absurd (not_both (sym e))
or-no false b e = (refl, e)

pub none-passed : (cs : List ChunkPayloadData) → AreUnmarked 0 cs
none-passed cs = record { within = omega arith; each = refl }

any-of-none : {X : Type 0} (p : X → Bool) (n : ℕ) → list_any p (take n []) ≡ false
any-of-none p zero = refl
any-of-none p (suc n) = refl

-- fewer of them
pub fewer : {X : Type 0} (p : X → Bool) (j n : ℕ) (xs : List X) → j ≤ n → list_any p (take n xs) ≡ false → list_any p (take j xs) ≡ false
fewer p zero n xs le e = refl
fewer p (suc j) zero xs le e = absurd (omega (arith, le))
fewer p (suc j) (suc n) [] le e = refl
fewer p (suc j) (suc n) (x ∷ xs) le e =
    let h = or-no (p x) (list_any p (take n xs)) e in
    ap (λ k. k || list_any p (take j xs)) h.0 ∙ fewer p j n xs (omega (arith, le)) h.1

-- none passes among the first so many, place by place
pub none-in-front : {X : Type 0} (p : X → Bool) (n : ℕ) (xs : List X) → ((k : ℕ) (d : X) → k < n → k < length xs → p (get_or xs k d) ≡ false)
    → list_any p (take n xs) ≡ false
none-in-front p zero xs h = refl
none-in-front p (suc n) [] h = refl
none-in-front p (suc n) (x ∷ xs) h =
    ap (λ k. k || list_any p (take n xs)) (h 0 x (omega arith) (omega arith))
    ∙ none-in-front p n xs (λ k d low in'. h (suc k) d (omega (arith, low)) (omega (arith, in')))

-- ## What stays so

module _ (q : ChunkPayloadData → Bool) (g : ChunkPayloadData → ChunkPayloadData)
    (keeps : (c : ChunkPayloadData) → c.retransmit ≡ false → (g c).retransmit ≡ false) where
  stays : (n : ℕ) (cs : List ChunkPayloadData) → list_any is_marked (take n cs) ≡ false → list_any is_marked (take n (change_where q g cs)) ≡ false
  stays zero cs e = refl
  stays (suc n) [] e = refl
  stays (suc n) (c ∷ cs) e = by (q c) (or-no c.retransmit (list_any is_marked (take n cs)) e)
      (stays n cs (or-no c.retransmit (list_any is_marked (take n cs)) e).1)
    where
      rest : List ChunkPayloadData
      rest = take n (change_where q g cs)

      by : (b : Bool) → (c.retransmit ≡ false) × (list_any is_marked (take n cs) ≡ false) → list_any is_marked rest ≡ false
          → list_any is_marked ((if b then g c else c) ∷ rest) ≡ false
      by true h ih = ap (λ k. k || list_any is_marked rest) (keeps c h.0) ∙ ih
      by false h ih = ap (λ k. k || list_any is_marked rest) h.0 ∙ ih

  pub changed : (n : ℕ) (cs : List ChunkPayloadData) → AreUnmarked n cs → AreUnmarked n (change_where q g cs)
  changed n cs u = record {
    within = let k = length-change_where q g cs in let w = u.within in omega (arith, k, w);
    each = stays n cs u.each;
  }

pub changed-on : (n : ℕ) (old new : Outbound) (q : ChunkPayloadData → Bool) (g : ChunkPayloadData → ChunkPayloadData)
    → ((c : ChunkPayloadData) → c.retransmit ≡ false → (g c).retransmit ≡ false) → new ≡ with_inflight old (change_where q g old.inflight.chunks)
    → AreUnmarked n old.inflight.chunks → AreUnmarked n new.inflight.chunks
changed-on n old new q g keeps is u =
    subst (AreUnmarked n) (sym (ap (λ (o : Outbound). o.inflight.chunks) is)) (changed q g keeps n old.inflight.chunks u)

front-same : {X : Type 0} (n : ℕ) (xs ys : List X) → n ≤ length xs → take n (xs ++ ys) ≡ take n xs
front-same zero xs ys le = refl
front-same (suc n) [] ys le = absurd (omega (arith, le))
front-same (suc n) (x ∷ xs) ys le = ap (λ zs. x ∷ zs) (front-same n xs ys (omega (arith, le)))

-- where more are sent
pub more : (n : ℕ) (cs ds : List ChunkPayloadData) → AreUnmarked n cs → AreUnmarked n (cs ++ ds)
more n cs ds u = record {
  within = let k = length-append cs ds in let w = u.within in omega (arith, k, w);
  each = ap (list_any is_marked) (front-same n cs ds u.within) ∙ u.each;
}

-- where some leave in front
left : (j k n : ℕ) (cs : List ChunkPayloadData) → j + k ≤ n → list_any is_marked (take n cs) ≡ false → list_any is_marked (take j (drop k cs)) ≡ false
left j zero n cs le e = fewer is_marked j n cs (omega (arith, le)) e
left j (suc k) zero cs le e = absurd (omega (arith, le))
left j (suc k) (suc n) [] le e = any-of-none is_marked j
left j (suc k) (suc n) (c ∷ cs) le e = left j k n cs (omega (arith, le)) (or-no c.retransmit (list_any is_marked (take n cs)) e).1

pub left-over : (n k m : ℕ) (cs : List ChunkPayloadData) → m ≡ n - k → AreUnmarked n cs → AreUnmarked m (drop k cs)
left-over n k m cs is u = elim (cases_lt k n) [
  | inl lt ↦ record {
    within = let d = length-drop k cs in let w = u.within in omega (arith, d, w, is);
    each = left m k n cs (omega (arith, is, lt)) u.each;
  }
  | inr ge ↦
      let none : m ≡ 0 = omega (arith, is, ge) in
      subst (λ i. AreUnmarked i (drop k cs)) (sym none) (none-passed (drop k cs))
]

-- where some are outstanding again
pub flagged : (n : ℕ) (cs : List ChunkPayloadData) → list_any is_marked (take n cs) ≡ list_any (λ b. b) (take n (map is_marked cs))
flagged zero cs = refl
flagged (suc n) [] = refl
flagged (suc n) (c ∷ cs) = ap (λ b. c.retransmit || b) (flagged n cs)

pub put-unmarked : (n : ℕ) (bs : List PlacedData) (cs : List ChunkPayloadData) → AreUnmarked n cs → AreUnmarked n (put_back bs cs)
put-unmarked n bs cs u = record {
  within = let k = put-length bs cs in let w = u.within in omega (arith, k, w);
  each = flagged n (put_back bs cs) ∙ ap (λ fs. list_any (λ b. b) (take n fs)) (put-map is_marked (λ bytes c. refl) bs cs) ∙ sym (flagged n cs) ∙ u.each;
}

-- ## A chunk is sent, or a message abandoned

pub sent-unmarked : (n : ℕ) (f : Flight) → IsContiguous f → AreUnmarked n f.queue.inflight.chunks → (now : ℕ) (then' : Outbound)
    → then' ≡ sent_next f.queue f.next_tsn now → AreUnmarked n then'.inflight.chunks
sent-unmarked n f inv u now then' is =
    subst (λ (o : Outbound). AreUnmarked n o.inflight.chunks) (sym is) (by (next_pending (all_started now f.queue).pending))
  where
    same : (all_started now f.queue).inflight.chunks ≡ f.queue.inflight.chunks
    same = ap (λ (p : payload.Payload). p.chunks) (started-inflight now f.queue)

    before : AreUnmarked n (all_started now f.queue).inflight.chunks
    before = subst (AreUnmarked n) (sym same) u

    by : (o : Option ChunkPayloadData) → AreUnmarked n (sent_of o (all_started now f.queue) f.next_tsn now).inflight.chunks
    by None = before
    by (Some c) =
        let xs = (all_started now f.queue).inflight.chunks in
        let k = ap length same in
        let at-end = put-behind (as_sent f.next_tsn now c) xs (following_tsn f.acked_tsn) (omega arith) (omega (arith, k, inv.few))
        (subst (IsRunFrom (following_tsn f.acked_tsn)) (sym same) inv.run) (let next = inv.next in omega (arith, next, k)) in
        subst (AreUnmarked n) (sym at-end) (more n xs (as_sent f.next_tsn now c ∷ []) before)

pub abandoned-unmarked : (n : ℕ) (f : Flight) → IsContiguous f → AreUnmarked n f.queue.inflight.chunks → (o : Option ℕ) (then' : Outbound)
    → then' ≡ abandoned_of o f.next_tsn f.queue → AreUnmarked n then'.inflight.chunks
abandoned-unmarked n f inv u None then' is = subst (λ (o : Outbound). AreUnmarked n o.inflight.chunks) (sym is) u
abandoned-unmarked n f inv u (Some m) then' is =
    subst (λ (o : Outbound). AreUnmarked n o.inflight.chunks) (sym is) (by (last_removed m f.queue.pending))
  where
    xs : List ChunkPayloadData
    xs = change_where (is_of m) as_abandoned f.queue.inflight.chunks

    marked : AreUnmarked n xs
    marked = changed (is_of m) as_abandoned (λ c e. refl) n f.queue.inflight.chunks u

    k : length xs ≡ length f.queue.inflight.chunks
    k = length-change_where (is_of m) as_abandoned f.queue.inflight.chunks

    run : IsRunFrom (following_tsn f.acked_tsn) xs
    run = changed-run (is_of m) as_abandoned (λ c. refl) f.queue.inflight.chunks ∙ inv.run ∙ ap (tsns_from (following_tsn f.acked_tsn)) (sym k)

    by : (o : Option ChunkPayloadData) → AreUnmarked n (with_terminal_chunk o f.next_tsn (payload.with_chunks f.queue.inflight xs)).chunks
    by None = marked
    by (Some c) =
        let t = terminal_chunk f.next_tsn c in
        let at-end = put-behind t xs (following_tsn f.acked_tsn) (omega arith)
        (omega (arith, k, inv.few)) run (let next = inv.next in omega (arith, next, k)) in
        subst (AreUnmarked n) (sym at-end) (more n xs (t ∷ []) marked)

pub started-unmarked : (n : ℕ) (q r : Outbound) (now : ℕ) → r ≡ all_started now q → AreUnmarked n q.inflight.chunks → AreUnmarked n r.inflight.chunks
started-unmarked n q r now is u = subst (λ (o : Outbound). AreUnmarked n o.inflight.chunks) (sym is)
    (subst (λ (p : payload.Payload). AreUnmarked n p.chunks) (sym (started-inflight now q)) u)

pub expired-unmarked : (n : ℕ) (q r : Outbound) (o : Option ChunkPayloadData) → r ≡ expired_of o q → AreUnmarked n q.inflight.chunks
    → AreUnmarked n r.inflight.chunks
expired-unmarked n q r None is u = subst (λ (o : Outbound). AreUnmarked n o.inflight.chunks) (sym is) u
expired-unmarked n q r (Some c) is u = subst (λ (o : Outbound). AreUnmarked n o.inflight.chunks) (sym is) u

-- ## Chunks are counted as missing

third-not : (can two marked : Bool) → (can && (two && not marked)) ≡ false → can ≡ true → marked ≡ false → (two || marked) ≡ false
third-not false two marked e can m = absurd (not_both can)
third-not true two true e can m = absurd (not_both (sym m))
third-not true true false e can m = absurd (not_both (sym e))
third-not true false false e can m = refl

missing : (n i : ℕ) (cs : List ChunkPayloadData) → list_any is_marked (take n cs) ≡ false → list_any is_third (take n cs) ≡ false
    → list_any is_marked (take n (change_where can_miss missed (take i cs) ++ drop i cs)) ≡ false
missing zero i cs e t = refl
missing (suc n) zero cs e t = e
missing (suc n) (suc i) [] e t = refl
missing (suc n) (suc i) (c ∷ cs) e t = by (can_miss c) refl (or-no c.retransmit (list_any is_marked (take n cs)) e)
    (or-no (is_third c) (list_any is_third (take n cs)) t)
    (missing n i cs (or-no c.retransmit (list_any is_marked (take n cs)) e).1 (or-no (is_third c) (list_any is_third (take n cs)) t).1)
  where
    rest : List ChunkPayloadData
    rest = take n (change_where can_miss missed (take i cs) ++ drop i cs)

    by : (b : Bool) → can_miss c ≡ b → (c.retransmit ≡ false) × (list_any is_marked (take n cs) ≡ false)
        → (is_third c ≡ false) × (list_any is_third (take n cs) ≡ false) → list_any is_marked rest ≡ false
        → list_any is_marked ((if b then missed c else c) ∷ rest) ≡ false
    by true can h k ih =
        ap (λ a. a || list_any is_marked rest) (third-not (can_miss c) (c.miss_indicator == 2) c.retransmit k.0 can h.0) ∙ ih
    by false can h k ih = ap (λ a. a || list_any is_marked rest) h.0 ∙ ih

none-third : (count : ℕ) (cs : List ChunkPayloadData) → length (filter is_third (take count cs)) ≡ 0 → list_any is_third (take count cs) ≡ false
none-third zero cs e = refl
none-third (suc n) [] e = refl
none-third (suc n) (c ∷ cs) e = by (is_third c) e (none-third n cs)
  where
    by : (b : Bool) → length (if b then c ∷ filter is_third (take n cs) else filter is_third (take n cs)) ≡ 0
        → (length (filter is_third (take n cs)) ≡ 0 → list_any is_third (take n cs) ≡ false) → (b || list_any is_third (take n cs)) ≡ false
    by true h ih = absurd (omega (arith, h))
    by false h ih = ih h

-- nothing is marked by it: nothing is third
missing-none : (n i : ℕ) (cs : List ChunkPayloadData) → list_any is_marked (take n cs) ≡ false → list_any is_third (take i cs) ≡ false
    → list_any is_marked (take n (change_where can_miss missed (take i cs) ++ drop i cs)) ≡ false
missing-none zero i cs e t = refl
missing-none (suc n) zero cs e t = e
missing-none (suc n) (suc i) [] e t = refl
missing-none (suc n) (suc i) (c ∷ cs) e t = by (can_miss c) refl (or-no c.retransmit (list_any is_marked (take n cs)) e)
    (or-no (is_third c) (list_any is_third (take i cs)) t)
    (missing-none n i cs (or-no c.retransmit (list_any is_marked (take n cs)) e).1 (or-no (is_third c) (list_any is_third (take i cs)) t).1)
  where
    rest : List ChunkPayloadData
    rest = take n (change_where can_miss missed (take i cs) ++ drop i cs)

    by : (b : Bool) → can_miss c ≡ b → (c.retransmit ≡ false) × (list_any is_marked (take n cs) ≡ false)
        → (is_third c ≡ false) × (list_any is_third (take i cs) ≡ false) → list_any is_marked rest ≡ false
        → list_any is_marked ((if b then missed c else c) ∷ rest) ≡ false
    by true can h k ih =
        ap (λ a. a || list_any is_marked rest) (third-not (can_miss c) (c.miss_indicator == 2) c.retransmit k.0 can h.0) ∙ ih
    by false can h k ih = ap (λ a. a || list_any is_marked rest) h.0 ∙ ih

-- ## A walk

-- one that is not marked is passed
pub one-passed : (n : ℕ) (cs : List ChunkPayloadData) (x : ChunkPayloadData) → slice_get cs n ≡ Some x → x.retransmit ≡ false → AreUnmarked n cs
    → AreUnmarked (n + 1) cs
one-passed n cs x at open' u =
    let r = read-of cs n x at in
    record {
      within = let lt = r.0 in omega (arith, lt);
      each = ap (list_any is_marked) (take_more cs n x r.0) ∙ list_any-append is_marked (take n cs) (get_or cs n x ∷ [])
          ∙ ap (λ k. k || list_any is_marked (get_or cs n x ∷ [])) u.each ∙ or-none (get_or cs n x).retransmit ∙ ap is_marked (sym r.1) ∙ open';
    }

-- what is sent again next stands behind them, and so does each worn chunk
pub find-behind : (n : ℕ) (cs : List ChunkPayloadData) → list_any is_marked (take n cs) ≡ false → find is_to_resend cs ≡ find is_to_resend (drop n cs)
find-behind zero cs e = refl
find-behind (suc n) [] e = refl
find-behind (suc n) (c ∷ cs) e =
    let h = or-no c.retransmit (list_any is_marked (take n cs)) e in
    ap (λ k. if k && is_outstanding c then Some c else find is_to_resend cs) h.0 ∙ find-behind n cs h.1

pub none-worn : (n : ℕ) (cs : List ChunkPayloadData) → list_any is_marked (take n cs) ≡ false → filter is_worn (take n cs) ≡ []
none-worn zero cs e = refl
none-worn (suc n) [] e = refl
none-worn (suc n) (c ∷ cs) e = by c.retransmit refl (or-no c.retransmit (list_any is_marked (take n cs)) e)
    (none-worn n cs (or-no c.retransmit (list_any is_marked (take n cs)) e).1)
  where
    not-worn : c.retransmit ≡ false → is_worn c ≡ false
    not-worn h = cc

    by : (b : Bool) → c.retransmit ≡ b → (c.retransmit ≡ false) × (list_any is_marked (take n cs) ≡ false) → filter is_worn (take n cs) ≡ []
        → (if is_worn c then c ∷ filter is_worn (take n cs) else filter is_worn (take n cs)) ≡ []
    by b is h ih = ap (λ k. if k then c ∷ filter is_worn (take n cs) else filter is_worn (take n cs)) (not-worn h.0) ∙ ih

-- where fewer are known
less : (j n : ℕ) (cs : List ChunkPayloadData) → j ≤ n → AreUnmarked n cs → AreUnmarked j cs
less j n cs le u = record { within = let w = u.within in omega (arith, le, w); each = fewer is_marked j n cs le u.each }

length-part : (n i : ℕ) (cs : List ChunkPayloadData) → n ≤ length cs → n ≤ length (change_where can_miss missed (take i cs) ++ drop i cs)
length-part n zero cs le = le
length-part n (suc i) [] le = le
length-part zero (suc i) (c ∷ cs) le = omega arith
length-part (suc n) (suc i) (c ∷ cs) le = let h = length-part n i cs (omega (arith, le)) in omega (arith, h)

missed-unmarked : (n i : ℕ) (cs : List ChunkPayloadData) → AreUnmarked n cs → list_any is_third (take n cs) ≡ false
    → AreUnmarked n (change_where can_miss missed (take i cs) ++ drop i cs)
missed-unmarked n i cs u t = record { within = length-part n i cs u.within; each = missing n i cs u.each t }

missed-unmarked-all : (n i : ℕ) (cs : List ChunkPayloadData) → AreUnmarked n cs → list_any is_third (take i cs) ≡ false
    → AreUnmarked n (change_where can_miss missed (take i cs) ++ drop i cs)
missed-unmarked-all n i cs u t = record { within = length-part n i cs u.within; each = missing-none n i cs u.each t }

-- so many are marked by it, and none before a place
pub counted-unmarked : (n i thirds place new : ℕ) (cs : List ChunkPayloadData) → AreUnmarked n cs → thirds ≡ length (filter is_third (take i cs))
    → list_any is_third (take place cs) ≡ false → (thirds ≡ 0 → new ≡ n) → (0 < thirds → new ≡ min n place)
    → AreUnmarked new (change_where can_miss missed (take i cs) ++ drop i cs)
counted-unmarked n i zero place new cs u count before none some =
    subst (λ k. AreUnmarked k (change_where can_miss missed (take i cs) ++ drop i cs)) (sym (none refl))
    (missed-unmarked-all n i cs u (none-third i cs (sym count)))
counted-unmarked n i (suc m) place new cs u count before none some =
    let e = some (omega arith) in
    missed-unmarked new i cs (less new n cs (omega (arith, e)) u) (fewer is_third new place cs (omega (arith, e)) before)
