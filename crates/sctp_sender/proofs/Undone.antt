-- What came back is undone, where the rest of a call is refused.
use Rattle.sctp_sender.proofs.Names.{◌≡◌, ℕ, zero, suc, ◌+◌, ◌<◌, ◌≤◌, ◌%◌, ◌^◌, Bool, true, false, List, [], ◌∷◌, ◌++◌, length, length-append, map, take}
use Rattle.sctp_sender.proofs.Names.{get_or, set, append_assoc, Option, Some, None, refl, ap, sym, subst, ◌∙◌, arith, if◌then◌else◌, ◌&&◌, not, IfSome}
use Rattle.sctp_sender.proofs.Names.{none-some, some-same, Kept, eq-eqb, ne_eqb, All, list_any, change_at, change_where, distance, change_where-only}
use Rattle.sctp_sender.proofs.Names.{length-changed, Sack, ChunkPayloadData, GapAckBlock, as_acknowledged, as_taken_back, with_retransmit, with_inflight}
use Rattle.sctp_sender.proofs.Names.{partially_sent, following_tsn, has_tsn, Flight, IsContiguous, reports, tsns_from, with_queue, AreReported, Cover}
use Rattle.sctp_sender.proofs.Names.{HaveOwnTsns, IsCovered, as_reported, back_each, placed, reported_again, restored, tells_of, with_reported_again}
use Rattle.sctp_sender.proofs.Names.{with_restored, AreKnown, AreUnmarked, StandSideBySide, number_of_half, AreSettled, IsAllSettled}
use Rattle.std.specs.Prelude.{Vec}
use Rattle.std.specs.Global.{Global}
use Rattle.std.specs.Option.{option_map}
use Rattle.sctp_util.proofs.More.{changed-keeps, changed-same}
use Rattle.sctp_sender.proofs.Placed.{changed-seam, nil-of, set-change}
use Rattle.sctp_sender.proofs.Runs.{IsRunFrom, tsn-at}
use Rattle.sctp_sender.proofs.Unmarked.{flagged, is_marked}

-- ## One chunk

pub own-tsns : (first : ℕ) (cs : List ChunkPayloadData) → first < 2 ^ 32 → IsRunFrom first cs → length cs < 2 ^ 31 → HaveOwnTsns cs
own-tsns first cs small run few i k d here there e =
    let a = tsn-at cs first i d small run here in
    let b = tsn-at cs first k d small run there in
    omega (arith, a, b, e, few, here, there)

set-over : {A : Type 0} (f : A → A) (i : ℕ) (xs : List A) (y : A) → i < length xs → set (change_at f i xs) i y ≡ set xs i y
set-over f i [] y lt = absurd (omega (arith, lt))
set-over f zero (x ∷ xs) y lt = refl
set-over f (suc i) (x ∷ xs) y lt = ap (λ ys. x ∷ ys) (set-over f i xs y (omega (arith, lt)))

-- one that is not marked is as any acknowledged one
pub unmarked-again : (cs : List ChunkPayloadData) (i : ℕ) (d : ChunkPayloadData) → i < length cs → (get_or cs i d).retransmit ≡ false
    → set cs i (as_acknowledged (get_or cs i d)) ≡ change_at as_reported i cs
unmarked-again cs i d lt e =
    let c : ChunkPayloadData = get_or cs i d in
    ap (λ b. let x : ChunkPayloadData = record c { acked = true; retransmit = b; user_data = [] } in set cs i x) (sym e) ∙ set-change as_reported cs i d lt

-- one that is marked stays so
pub marked-again : (cs : List ChunkPayloadData) (i : ℕ) (d : ChunkPayloadData) → HaveOwnTsns cs → i < length cs → (get_or cs i d).retransmit ≡ true
    → change_where (has_tsn (get_or cs i d).tsn) (with_retransmit true) (change_at as_acknowledged i cs) ≡ change_at as_reported i cs
marked-again cs i d own lt e =
    let c : ChunkPayloadData = get_or cs i d in
    let ds : List ChunkPayloadData = change_at as_acknowledged i cs in
    let n = length-changed as_acknowledged i cs in
    let tsn : (k : ℕ) (x : ChunkPayloadData) → (get_or ds k x).tsn ≡ (get_or cs k x).tsn =
    λ k x. changed-keeps as_acknowledged (λ (y : ChunkPayloadData). y.tsn) (λ y. refl) i k cs x in
    change_where-only (has_tsn c.tsn) (with_retransmit true) ds i d (record {
      in_range = omega (arith, n, lt);
      here = λ x. eq-eqb _ _ (tsn i x ∙ at-any x);
      elsewhere = λ k x less differ. ne_eqb _ _ (λ same. differ (own k i x (omega (arith, n, less)) lt (sym (tsn k x) ∙ same ∙ sym (at-any x))));
    })
    ∙ ap (λ (x : ChunkPayloadData). set ds i (with_retransmit true x)) (changed-same as_acknowledged i cs d lt)
    ∙ set-over as_acknowledged i cs (with_retransmit true (as_acknowledged c)) lt
    ∙ ap (λ b. let x : ChunkPayloadData = record c { acked = true; retransmit = b; user_data = [] } in set cs i x) (sym e)
    ∙ set-change as_reported cs i d lt
  where
    at-any : (x : ChunkPayloadData) → (get_or cs i x).tsn ≡ (get_or cs i d).tsn
    at-any x = ap (λ (y : ChunkPayloadData). y.tsn) (any cs i lt)
      where
        any : (xs : List ChunkPayloadData) (j : ℕ) → j < length xs → get_or xs j x ≡ get_or xs j d
        any [] j less = absurd (omega (arith, less))
        any (y ∷ ys) zero less = refl
        any (y ∷ ys) (suc j) less = any ys j (omega (arith, less))

-- ## Each of them

pub again-more : (ks : List ℕ) (k : ℕ) (cs : List ChunkPayloadData) → reported_again (ks ++ k ∷ []) cs ≡ change_at as_reported k (reported_again ks cs)
again-more [] k cs = refl
again-more (x ∷ ks) k cs = again-more ks k (change_at as_reported x cs)

pub again-length : (ks : List ℕ) (cs : List ChunkPayloadData) → length (reported_again ks cs) ≡ length cs
again-length [] cs = refl
again-length (k ∷ ks) cs = again-length ks (change_at as_reported k cs) ∙ length-changed as_reported k cs

pub again-own : (ks : List ℕ) (cs : List ChunkPayloadData) → HaveOwnTsns cs → HaveOwnTsns (reported_again ks cs)
again-own [] cs own = own
again-own (k ∷ ks) cs own = again-own ks (change_at as_reported k cs) (λ i j d here there e.
    let n = length-changed as_reported k cs in
    own i j d (omega (arith, n, here)) (omega (arith, n, there))
    (sym (changed-keeps as_reported (λ (y : ChunkPayloadData). y.tsn) (λ y. refl) k i cs d) ∙ e
    ∙ changed-keeps as_reported (λ (y : ChunkPayloadData). y.tsn) (λ y. refl) k j cs d))

again-map : {B : Type 0} (f : ChunkPayloadData → B) → ((c : ChunkPayloadData) → f (as_reported c) ≡ f c) → (ks : List ℕ) (cs : List ChunkPayloadData)
    → map f (reported_again ks cs) ≡ map f cs
again-map f same [] cs = refl
again-map {B} f same (k ∷ ks) cs = again-map f same ks (change_at as_reported k cs) ∙ one k cs
  where
    one : (i : ℕ) (xs : List ChunkPayloadData) → map f (change_at as_reported i xs) ≡ map f xs
    one i [] = refl
    one zero (x ∷ xs) = ap (λ (y : B). y ∷ map f xs) (same x)
    one (suc i) (x ∷ xs) = ap (λ ys. f x ∷ ys) (one i xs)

flag-stays : (i k : ℕ) (cs : List ChunkPayloadData) → get_or (map (λ (c : ChunkPayloadData). c.acked) cs) k false ≡ true
    → get_or (map (λ (c : ChunkPayloadData). c.acked) (change_at as_reported i cs)) k false ≡ true
flag-stays i k [] e = e
flag-stays zero zero (c ∷ cs) e = refl
flag-stays zero (suc k) (c ∷ cs) e = e
flag-stays (suc i) zero (c ∷ cs) e = e
flag-stays (suc i) (suc k) (c ∷ cs) e = flag-stays i k cs e

pub again-known : (bs : List GapAckBlock) (ks : List ℕ) (cs : List ChunkPayloadData) → AreKnown bs cs → AreKnown bs (reported_again ks cs)
again-known bs [] cs known = known
again-known bs (k ∷ ks) cs known = again-known bs ks (change_at as_reported k cs) (λ j h. flag-stays k j cs (known j h))

pub again-unmarked : (n : ℕ) (ks : List ℕ) (cs : List ChunkPayloadData) → AreUnmarked n cs → AreUnmarked n (reported_again ks cs)
again-unmarked n ks cs u = record {
  within = let k = again-length ks cs in let w = u.within in omega (arith, k, w);
  each = flagged n (reported_again ks cs) ∙ ap (λ fs. list_any (λ b. b) (take n fs)) (again-map is_marked (λ c. refl) ks cs) ∙ sym (flagged n cs) ∙ u.each;
}

pub again-contiguous : (ks : List ℕ) (f : Flight) → IsContiguous f → IsContiguous (with_reported_again ks f)
again-contiguous ks f inv =
    let cs = f.queue.inflight.chunks in
    let n = again-length ks cs in
    record {
      in_range = inv.in_range;
      run = again-map (λ c. c.tsn) (λ c. refl) ks cs ∙ inv.run ∙ ap (tsns_from (following_tsn f.acked_tsn)) (sym n);
      next = inv.next ∙ ap (λ k. (f.acked_tsn + 1 + k) % 2 ^ 32) (sym n);
      few = omega (arith, n, inv.few);
      side_by_side = subst (λ ms. StandSideBySide (ms ++ number_of_half (partially_sent f.queue.pending)))
          (sym (again-map (λ c. c.message_id) (λ c. refl) ks cs)) inv.side_by_side;
    }

-- ## What came back

abbrev Undoable : List (Option (List ℕ)) → List ChunkPayloadData → Type 0
Undoable [] cs = Unit {0}
Undoable (b ∷ bs) [] = Unit {0}
Undoable (None ∷ bs) (c ∷ cs) = Undoable bs cs
Undoable (Some bytes ∷ bs) (c ∷ cs) = ((c.acked ≡ true) × (c.user_data ≡ [])) × Undoable bs cs

back-undoable : (s : Sack) (cs : List ChunkPayloadData) (ks : List (Option (List ℕ))) → AreSettled cs → Undoable (back_each s cs ks) cs
back-undoable s cs [] a = tt
back-undoable s [] (k ∷ ks) a = tt
back-undoable s (c ∷ cs) (k ∷ ks) a = by c.acked c.abandoned (reports s c)
    (tells_of s.gap_ack_blocks (distance s.cumulative_tsn_ack c.tsn)) k refl a.0 (back-undoable s cs ks a.1)
  where
    by : (acked abandoned reported told : Bool) (k : Option (List ℕ)) → acked ≡ c.acked → (c.acked ≡ true → length c.user_data ≡ 0)
        → Undoable (back_each s cs ks) cs
        → Undoable ((if ((acked && not abandoned) && not reported) && told then k else None) ∷ back_each s cs ks) (c ∷ cs)
    by false abandoned reported told k e z h = h
    by true true reported told k e z h = h
    by true false true told k e z h = h
    by true false false false k e z h = h
    by true false false true None e z h = h
    by true false false true (Some bytes) e z h = ((sym e, nil-of c.user_data (z (sym e))), h)

as-before : (bytes : List ℕ) (c : ChunkPayloadData) → c.acked ≡ true → c.user_data ≡ [] → as_reported (as_taken_back bytes c) ≡ c
as-before bytes c e z =
    ap (λ b. let x : ChunkPayloadData = record c { acked = b; user_data = [] } in x) (sym e)
    ∙ ap (λ (ys : List ℕ). let x : ChunkPayloadData = record c { user_data = ys } in x) (sym z)

undone-from : (n : ℕ) (xs : List ChunkPayloadData) (bs : List (Option (List ℕ))) (cs : List ChunkPayloadData) → length xs ≡ n → length bs ≤ length cs
    → Undoable bs cs → reported_again (map (λ b. b.place) (placed n bs)) (xs ++ restored bs cs) ≡ xs ++ cs
undone-from n xs [] cs e le u = refl
undone-from n xs (b ∷ bs) [] e le u = absurd (omega (arith, le))
undone-from n xs (None ∷ bs) (c ∷ cs) e le u =
    let m = length-append xs (c ∷ []) in
    ap (reported_again (map (λ b. b.place) (placed (suc n) bs))) (sym (append_assoc xs (c ∷ []) (restored bs cs)))
    ∙ undone-from (suc n) (xs ++ c ∷ []) bs cs (omega (arith, m, e)) (omega (arith, le)) u ∙ append_assoc xs (c ∷ []) cs
undone-from n xs (Some bytes ∷ bs) (c ∷ cs) e le u =
    let m = length-append xs (c ∷ []) in
    ap (reported_again (map (λ b. b.place) (placed (suc n) bs))) (changed-seam as_reported n xs (as_taken_back bytes c) (restored bs cs) e
    ∙ ap (λ (x : ChunkPayloadData). xs ++ x ∷ restored bs cs) (as-before bytes c u.0.0 u.0.1) ∙ sym (append_assoc xs (c ∷ []) (restored bs cs)))
    ∙ undone-from (suc n) (xs ++ c ∷ []) bs cs (omega (arith, m, e)) (omega (arith, le)) u.1 ∙ append_assoc xs (c ∷ []) cs

pub undone : (s : Sack) (ks bs : List (Option (List ℕ))) (f : Flight) → bs ≡ back_each s f.queue.inflight.chunks ks → length bs ≤ length f.queue.inflight.chunks
    → AreSettled f.queue.inflight.chunks → with_reported_again (map (λ b. b.place) (placed 0 bs)) (with_restored bs f) ≡ f
undone s ks bs f is le a = ap (λ cs. with_queue f (with_inflight f.queue cs)) (undone-from 0 [] bs f.queue.inflight.chunks refl le
    (subst (λ xs. Undoable xs f.queue.inflight.chunks) (sym is) (back-undoable s f.queue.inflight.chunks ks a)))

-- ## What holds of it

again-settled : (ks : List ℕ) (cs : List ChunkPayloadData) → AreSettled cs → AreSettled (reported_again ks cs)
again-settled [] cs a = a
again-settled (k ∷ ks) cs a = again-settled ks (change_at as_reported k cs) (one k cs a)
  where
    one : (i : ℕ) (xs : List ChunkPayloadData) → AreSettled xs → AreSettled (change_at as_reported i xs)
    one i [] h = h
    one zero (x ∷ xs) h = ((λ e. refl), h.1)
    one (suc i) (x ∷ xs) h = (h.0, one i xs h.1)

pub again-all-settled : (ks : List ℕ) (f : Flight) → IsAllSettled f.queue → IsAllSettled (with_reported_again ks f).queue
again-all-settled ks f a = record {
  ordered = a.ordered;
  unordered = a.unordered;
  inflight = again-settled ks f.queue.inflight.chunks a.inflight;
}

-- ## What is noted then as reported

abbrev data-of : Option Kept → Option (List (Option (List ℕ)))
data-of o = option_map (λ k. k.user_data.items) o

abbrev blocks-of : Option Kept → Option (List GapAckBlock)
blocks-of o = option_map (λ k. k.reported.items) o

none-again : (ks : List ℕ) (f : Flight) → ks ≡ [] → with_reported_again ks f ≡ f
none-again ks f e = ap (λ xs. with_reported_again xs f) e

cover-again : (o n : Option Kept) (before : Option (Vec GapAckBlock Global)) (ks : List ℕ) (f g : Flight) (kept : Option (List (Option (List ℕ))))
    → kept ≡ data-of o → with_reported_again ks f ≡ g → IfSome before (λ bs. IfSome kept (λ ds. Cover bs.items ds g)) → (before ≡ None → ks ≡ [])
    → data-of n ≡ data-of o → (before ≡ None → blocks-of n ≡ blocks-of o) → IfSome before (λ bs. blocks-of n ≡ option_map (λ _. bs.items) o)
    → IfSome o (λ k. Cover k.reported.items k.user_data.items f)
    → IfSome n (λ k. Cover k.reported.items k.user_data.items (with_reported_again ks f))
cover-again o None before ks f g kept is same cover none own stay set v = tt
cover-again None (Some k) before ks f g kept is same cover none own stay set v = absurd (none-some k.user_data.items (sym own))
cover-again (Some o) (Some k) None ks f g kept is same cover none own stay set v =
    subst (Cover k.reported.items k.user_data.items) (sym (none-again ks f (none refl)))
    (subst (λ bs. Cover bs k.user_data.items f) (sym (some-same (stay refl)))
    (subst (λ (ds : List (Option (List ℕ))). Cover o.reported.items ds f) (sym (some-same own)) v))
cover-again (Some o) (Some k) (Some b) ks f g kept is same cover none own stay set v =
    subst (Cover k.reported.items k.user_data.items) (sym same)
    (subst (λ bs. Cover bs k.user_data.items g) (sym (some-same set))
    (subst (λ (ds : List (Option (List ℕ))). Cover b.items ds g) (sym (some-same own))
    (subst (λ (x : Option (List (Option (List ℕ)))). IfSome x (λ ds. Cover b.items ds g)) is cover)))

pub undone-covered : (o n : Option Kept) (before : Option (Vec GapAckBlock Global)) (ks : List ℕ) (f g : Flight) (kept : Option (List (Option (List ℕ))))
    → kept ≡ data-of o → with_reported_again ks f ≡ g → IfSome before (λ bs. IfSome kept (λ ds. Cover bs.items ds g)) → (before ≡ None → ks ≡ [])
    → data-of n ≡ data-of o → (before ≡ None → blocks-of n ≡ blocks-of o) → IfSome before (λ bs. blocks-of n ≡ option_map (λ _. bs.items) o)
    → IsCovered o f → IsCovered n (with_reported_again ks f)
undone-covered o n before ks f g kept is same cover none own stay set v = record {
  ordered = v.ordered;
  unordered = v.unordered;
  cover = cover-again o n before ks f g kept is same cover none own stay set v.cover;
}

pub undone-reported : (o n : Option Kept) (before : Option (Vec GapAckBlock Global)) (ks : List ℕ) (f g : Flight) → with_reported_again ks f ≡ g
    → IfSome before (λ bs. AreKnown bs.items g.queue.inflight.chunks) → (before ≡ None → ks ≡ []) → (before ≡ None → blocks-of n ≡ blocks-of o)
    → IfSome before (λ bs. blocks-of n ≡ option_map (λ _. bs.items) o) → AreReported o f → AreReported n (with_reported_again ks f)
undone-reported o None before ks f g same known none stay set v = tt
undone-reported None (Some k) None ks f g same known none stay set v = absurd (none-some k.reported.items (sym (stay refl)))
undone-reported None (Some k) (Some b) ks f g same known none stay set v = absurd (none-some k.reported.items (sym set))
undone-reported (Some o) (Some k) None ks f g same known none stay set v =
    subst (λ (h : Flight). AreKnown k.reported.items h.queue.inflight.chunks) (sym (none-again ks f (none refl)))
    (subst (λ bs. AreKnown bs f.queue.inflight.chunks) (sym (some-same (stay refl))) v)
undone-reported (Some o) (Some k) (Some b) ks f g same known none stay set v =
    subst (λ (h : Flight). AreKnown k.reported.items h.queue.inflight.chunks) (sym same)
    (subst (λ bs. AreKnown bs g.queue.inflight.chunks) (sym (some-same set)) known)

-- what was noted before

abbrev IsOld : Option Kept → Option (Vec GapAckBlock Global) → Type 0
IsOld o before = IfSome before (λ bs. IfSome o (λ k. bs.items ≡ k.reported.items))

pub before-covers : (o : Option Kept) (before : Option (Vec GapAckBlock Global)) (f : Flight) → IsOld o before
    → IfSome o (λ k. Cover k.reported.items k.user_data.items f) → IfSome before (λ bs. IfSome (data-of o) (λ ks. Cover bs.items ks f))
before-covers o None f is v = tt
before-covers None (Some b) f is v = tt
before-covers (Some k) (Some b) f is v = subst (λ bs. Cover bs k.user_data.items f) (sym is) v

pub before-known : (o : Option Kept) (before : Option (Vec GapAckBlock Global)) (f : Flight) (k : Kept) → o ≡ Some k → IsOld o before
    → AreReported o f → IfSome before (λ bs. AreKnown bs.items f.queue.inflight.chunks)
before-known o None f k e is v = tt
before-known None (Some b) f k e is v = absurd (none-some k e)
before-known (Some j) (Some b) f k e is v = subst (λ bs. AreKnown bs f.queue.inflight.chunks) (sym is) v

pub places-within : (n end : ℕ) (bs : List (Option (List ℕ))) → n + length bs ≤ end → All (λ k. k < end) (map (λ b. b.place) (placed n bs))
places-within n end [] le k d lt = absurd (omega (arith, lt))
places-within n end (None ∷ bs) le k d lt = places-within (suc n) end bs (omega (arith, le)) k d lt
places-within n end (Some bytes ∷ bs) le zero d lt = omega (arith, le)
places-within n end (Some bytes ∷ bs) le (suc k) d lt = places-within (suc n) end bs (omega (arith, le)) k d (omega (arith, lt))
