-- Once the messages of what is worn out are abandoned, no chunk in flight is worn out.
use Rattle.sctp_sender.proofs.Names.{◌≡◌, ℕ, zero, suc, ◌+◌, ◌<◌, ◌%◌, ◌^◌, Bool, true, false, List, [], ◌∷◌, length, map, get_or, Option, Some, None, Result}
use Rattle.sctp_sender.proofs.Names.{Ok, Err, refl, ap, sym, subst, ◌∙◌, arith, OnOk, if◌then◌else◌, ◌==◌, ◌&&◌, ◌||◌, not, find, filter, list_all, list_any}
use Rattle.sctp_sender.proofs.Names.{eq-eqb, change_where, insert_before, same-is, same-yes, and, both, not_both, ChunkPayloadData, as_abandoned, is_of}
use Rattle.sctp_sender.proofs.Names.{terminal_chunk, to_abandon, with_terminal_chunk, last_removed, chunk_before, following_tsn, has_tsn, Flight, IsContiguous}
use Rattle.sctp_sender.proofs.Names.{after_abandonment, abandoned_at, are_listed, is_worn, worn_tsns}
use Rattle.sctp_outbound.specs.payload_queue.PayloadQueue as payload
use Rattle.sctp_sender.specs.Resending.{is_listed}
use Rattle.sctp_sender.proofs.Lates.{all-of, found-passes, none-passes}
use Rattle.sctp_sender.proofs.NamedStreams.{any-default}
use Rattle.sctp_sender.proofs.Points.{found-place}
use Rattle.sctp_sender.proofs.Runs.{IsRunFrom, only-at, tsn-at}

-- ## Tests

-- w: worn, h: it has the TSN, l: its TSN is listed
less : (w h l : Bool) → (not w || (h || l)) ≡ true → (h ≡ true → w ≡ false) → (not w || l) ≡ true
less false h l e k = refl
less true false l e k = e
less true true l e k = absurd (not_both (sym (k refl)))

more : (w h l : Bool) → (not w || l) ≡ true → (not w || (h || l)) ≡ true
more false h l e = refl
more true true l e = refl
more true false l e = e

implied : (h r : Bool) → (not h || r) ≡ true → h ≡ true → r ≡ true
implied true r e has = e
implied false r e has = absurd (not_both has)

gone : (r a b d : Bool) → b ≡ true → ((r && (not a && not b)) && d) ≡ false
gone false a b d e = refl
gone true true b d e = refl
gone true false true d e = refl
gone true false false d e = absurd (not_both e)

not-worn : (c : ChunkPayloadData) → c.abandoned ≡ true → is_worn c ≡ false
not-worn c e = gone c.retransmit c.acked c.abandoned _ e

-- ## Lists

module _ {A : Type 0} where
  pair-all : (p q r : A → Bool) (xs : List A) → ((x : A) → p x ≡ true → q x ≡ true → r x ≡ true) → list_all p xs ≡ true → list_all q xs ≡ true
      → list_all r xs ≡ true
  pair-all p q r [] h a b = refl
  pair-all p q r (x ∷ xs) h a b =
      let i = both (p x) (list_all p xs) a in
      let j = both (q x) (list_all q xs) b in
      and (r x) (list_all r xs) (h x i.0 j.0) (pair-all p q r xs h i.1 j.1)

  changed-all : (p : A → Bool) (g : A → A) (q r s : A → Bool) (xs : List A) → ((x : A) → q x ≡ true → r x ≡ true → s (if p x then g x else x) ≡ true)
      → list_all q xs ≡ true → list_all r xs ≡ true → list_all s (change_where p g xs) ≡ true
  changed-all p g q r s [] h a b = refl
  changed-all p g q r s (x ∷ xs) h a b =
      let i = both (q x) (list_all q xs) a in
      let j = both (r x) (list_all r xs) b in
      and (s (if p x then g x else x)) (list_all s (change_where p g xs)) (h x i.0 j.0) (changed-all p g q r s xs h i.1 j.1)

  inserted-all : (q : A → Bool) (before : A → A → Bool) (x : A) (xs : List A) → q x ≡ true → list_all q xs ≡ true
      → list_all q (insert_before before x xs) ≡ true
  inserted-all q before x [] e h = and (q x) true e refl
  inserted-all q before x (y ∷ ys) e h = let i = both (q y) (list_all q ys) h in by (before x y) i.0 (inserted-all q before x ys e i.1)
    where
      by : (b : Bool) → q y ≡ true → list_all q (insert_before before x ys) ≡ true → list_all q (if b then x ∷ y ∷ ys else y ∷ insert_before before x ys) ≡ true
      by true f ih = and (q x) (list_all q (y ∷ ys)) e h
      by false f ih = and (q y) (list_all q (insert_before before x ys)) f ih

  all-from : (q : A → Bool) (xs : List A) → ((k : ℕ) (d : A) → k < length xs → q (get_or xs k d) ≡ true) → list_all q xs ≡ true
  all-from q [] h = refl
  all-from q (x ∷ xs) h = and (q x) (list_all q xs) (h zero x (omega arith)) (all-from q xs (λ k d lt. h (suc k) d (omega (arith, lt))))

-- ## A TSN is that of one chunk

same-tsn : (cs : List ChunkPayloadData) (first t : ℕ) (y : ChunkPayloadData) (r : ChunkPayloadData → Bool) → first < 2 ^ 32 → IsRunFrom first cs
    → length cs < 2 ^ 31 → find (has_tsn t) cs ≡ Some y → r y ≡ true → list_all (λ c. not (has_tsn t c) || r c) cs ≡ true
same-tsn cs first t y r small run few e ry = all-from (λ c. not (has_tsn t c) || r c) cs (λ k d lt. by k d lt (has_tsn t (get_or cs k d)) (k == i) refl refl)
  where
    h : (k : ℕ) × (k < length cs) × (y ≡ get_or cs k y)
    h = found-place (has_tsn t) cs y e

    i : ℕ
    i = h.0

    at : t ≡ (first + i) % 2 ^ 32
    at = sym (same-is y.tsn t (found-passes (has_tsn t) cs y e)) ∙ ap (λ (c : ChunkPayloadData). c.tsn) h.2 ∙ tsn-at cs first i y small run h.1

    by : (k : ℕ) (d : ChunkPayloadData) → k < length cs → (b s : Bool) → has_tsn t (get_or cs k d) ≡ b → (k == i) ≡ s → (not b || r (get_or cs k d)) ≡ true
    by k d lt false s has same = refl
    by k d lt true true has same =
        let k-is : k ≡ i = same-is k i same in
        ap r (any-default cs k d y lt ∙ ap (λ n. get_or cs n y) k-is ∙ sym h.2) ∙ ry
    by k d lt true false has same =
        let o = only-at cs first i small run few h.1 in
        let other : has_tsn ((first + i) % 2 ^ 32) (get_or cs k d) ≡ false = o.elsewhere k d lt (λ z. not_both (sym same ∙ eq-eqb k i z)) in
        let also : has_tsn t (get_or cs k d) ≡ false = ap (λ n. has_tsn n (get_or cs k d)) at ∙ other in
        absurd (not_both (sym also ∙ has))

-- ## One message is abandoned

pub listed-after : (f : Flight) → IsContiguous f → (t : ℕ) (us : List ℕ) → are_listed (t ∷ us) f ≡ true → are_listed us (abandoned_at t f) ≡ true
listed-after f inv t us h = by (find (has_tsn t) cs) refl
  where
    cs : List ChunkPayloadData
    cs = f.queue.inflight.chunks

    answered : (y : ChunkPayloadData) (r : ChunkPayloadData → Bool) → find (has_tsn t) cs ≡ Some y → r y ≡ true
        → list_all (λ c. not (has_tsn t c) || r c) cs ≡ true
    answered y r e ry = same-tsn cs (following_tsn f.acked_tsn) t y r (omega arith) inv.run inv.few e ry

    marked : (m : ℕ) → list_all (λ c. not (has_tsn t c) || is_of m c) cs ≡ true → list_all (is_listed us) (change_where (is_of m) as_abandoned cs) ≡ true
    marked m of =
        changed-all (is_of m) as_abandoned (is_listed (t ∷ us)) (λ c. not (has_tsn t c) || is_of m c) (is_listed us) cs
        (λ c a b. one c (is_of m c) a b) h of
      where
        one : (c : ChunkPayloadData) (b : Bool) → is_listed (t ∷ us) c ≡ true → (not (has_tsn t c) || b) ≡ true
            → is_listed us (if b then as_abandoned c else c) ≡ true
        one c true a e = refl
        one c false a e = less (is_worn c) (has_tsn t c) (list_any (λ u. has_tsn u c) us) a (λ has. absurd (not_both (implied (has_tsn t c) false e has)))

    ended : (m : ℕ) (o : Option ChunkPayloadData) → list_all (is_listed us) (change_where (is_of m) as_abandoned cs) ≡ true → list_all (is_listed us)
        (with_terminal_chunk o f.next_tsn (payload.with_chunks f.queue.inflight (change_where (is_of m) as_abandoned cs))).chunks ≡ true
    ended m None e = e
    ended m (Some d) e = inserted-all (is_listed us) chunk_before (terminal_chunk f.next_tsn d) (change_where (is_of m) as_abandoned cs) refl e

    open-one : (y : ChunkPayloadData) → find (has_tsn t) cs ≡ Some y → (b : Bool) → y.abandoned ≡ b
        → are_listed us (after_abandonment (if b then None else Some y.message_id) f) ≡ true
    open-one y e true a =
        pair-all (is_listed (t ∷ us)) (λ c. not (has_tsn t c) || c.abandoned) (is_listed us) cs
        (λ c l r. less (is_worn c) (has_tsn t c) (list_any (λ u. has_tsn u c) us) l (λ has. not-worn c (implied (has_tsn t c) c.abandoned r has))) h
        (answered y (λ c. c.abandoned) e a)
    open-one y e false a =
        ended y.message_id (last_removed y.message_id f.queue.pending) (marked y.message_id (answered y (is_of y.message_id) e (same-yes y.message_id)))

    by : (o : Option ChunkPayloadData) → find (has_tsn t) cs ≡ o → are_listed us (after_abandonment (to_abandon o) f) ≡ true
    by None e =
        pair-all (is_listed (t ∷ us)) (λ c. not (has_tsn t c)) (is_listed us) cs
        (λ c l r. less (is_worn c) (has_tsn t c) (list_any (λ u. has_tsn u c) us) l (λ has. absurd (not_both (sym (ap not has) ∙ r)))) h
        (none-passes (has_tsn t) cs e)
    by (Some y) e = open-one y e y.abandoned refl

pub listed-same : (f g : Flight) → IsContiguous f → (t : ℕ) → g ≡ abandoned_at t f → (us : List ℕ) → are_listed (t ∷ us) f ≡ true → are_listed us g ≡ true
listed-same f g inv t is us h = subst (λ (k : Flight). are_listed us k ≡ true) (sym is) (listed-after f inv t us h)

-- ## All of them

pub listed-more : (t : ℕ) (us : List ℕ) (f : Flight) → are_listed us f ≡ true → are_listed (t ∷ us) f ≡ true
listed-more t us f h =
    all-of (is_listed us) (is_listed (t ∷ us)) f.queue.inflight.chunks (λ c e. more (is_worn c) (has_tsn t c) (list_any (λ u. has_tsn u c) us) e) h

own : (cs : List ChunkPayloadData) → list_all (is_listed (map (λ (c : ChunkPayloadData). c.tsn) (filter is_worn cs))) cs ≡ true
own [] = refl
own (c ∷ cs) = by (is_worn c) refl (own cs)
  where
    us : List ℕ
    us = map (λ (d : ChunkPayloadData). d.tsn) (filter is_worn cs)

    by : (b : Bool) → is_worn c ≡ b → list_all (is_listed us) cs ≡ true
        → list_all (is_listed (map (λ (d : ChunkPayloadData). d.tsn) (if b then c ∷ filter is_worn cs else filter is_worn cs))) (c ∷ cs) ≡ true
    by true e ih =
        let here : (not (is_worn c) || ((c.tsn == c.tsn) || list_any (λ u. has_tsn u c) us)) ≡ true =
        ap (λ b. not (is_worn c) || (b || list_any (λ u. has_tsn u c) us)) (same-yes c.tsn) ∙ anyway (is_worn c) in
        and (is_listed (c.tsn ∷ us) c) (list_all (is_listed (c.tsn ∷ us)) cs) here
        (all-of (is_listed us) (is_listed (c.tsn ∷ us)) cs (λ d h. more (is_worn d) (has_tsn c.tsn d) (list_any (λ u. has_tsn u d) us) h) ih)
      where
        anyway : (w : Bool) → (not w || true) ≡ true
        anyway true = refl
        anyway false = refl
    by false e ih = and (is_listed us c) (list_all (is_listed us) cs) (ap (λ w. not w || list_any (λ u. has_tsn u c) us) e) ih

pub all-listed : (f : Flight) → are_listed (worn_tsns f) f ≡ true
all-listed f = own f.queue.inflight.chunks

none : (cs : List ChunkPayloadData) → list_all (is_listed []) cs ≡ true → filter is_worn cs ≡ []
none [] h = refl
none (c ∷ cs) h = let i = both (is_listed [] c) (list_all (is_listed []) cs) h in by (is_worn c) i.0 (none cs i.1)
  where
    by : (b : Bool) → (not b || false) ≡ true → filter is_worn cs ≡ [] → (if b then c ∷ filter is_worn cs else filter is_worn cs) ≡ []
    by true e ih = absurd (not_both e)
    by false e ih = ih

pub none-worn : (f : Flight) → are_listed [] f ≡ true → worn_tsns f ≡ []
none-worn f h = ap (map (λ (c : ChunkPayloadData). c.tsn)) (none f.queue.inflight.chunks h)

pub none-left-on : {T E : Type 0} (r : Result T E) (f g : Flight) (ts : List ℕ) → ts ≡ worn_tsns f → OnOk r (are_listed ts f ≡ true → are_listed [] g ≡ true)
    → OnOk r (worn_tsns g ≡ [])
none-left-on (Ok v) f g ts e h = none-worn g (h (subst (λ us. are_listed us f ≡ true) (sym e) (all-listed f)))
none-left-on (Err v) f g ts e h = tt
