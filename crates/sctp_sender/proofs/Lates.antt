-- Messages that are abandoned one after another.
use Rattle.sctp_sender.proofs.Names.{◌≡◌, ℕ, zero, suc, ◌+◌, ◌<◌, ◌≤◌, Bool, true, false, List, [], ◌∷◌, length, drop, get_or, Option, Some, None, refl, ap}
use Rattle.sctp_sender.proofs.Names.{sym, subst, ◌∙◌, inl, inr, arith, if◌then◌else◌, find, not, option_map, option_to_list, list_all, list_any, none-some}
use Rattle.sctp_sender.proofs.Names.{change_where, negated, or-left, or-right, or-split, same-yes, list_any-those, and, both, fails, not_both, ChunkPayloadData}
use Rattle.sctp_sender.proofs.Names.{as_abandoned, is_of, Outbound, abandoned_of, has_tail, to_abandon, with_terminal_chunk, Pending, without, IsSendable}
use Rattle.sctp_sender.proofs.Names.{partially_sent, waits, last_removed_none, has_tsn, Flight, has_tail_at, message_to_abandon, abandoned_at, with_tail}
use Rattle.sctp_sender.proofs.Names.{partial_gone}
use Rattle.sctp_outbound.specs.payload_queue.PayloadQueue as payload

-- ## Lists

module _ {A : Type 0} (p : A → Bool) where
  pub found-passes : (xs : List A) (x : A) → find p xs ≡ Some x → p x ≡ true
  found-passes [] x e = cc
  found-passes (y ∷ ys) x e = by (p y) refl (found-passes ys x) e
    where
      by : (b : Bool) → p y ≡ b → (find p ys ≡ Some x → p x ≡ true) → (if b then Some y else find p ys) ≡ Some x → p x ≡ true
      by true h ih f = let same : y ≡ x = cc in ap p (sym same) ∙ h
      by false h ih f = ih f

  pub none-passes : (xs : List A) → find p xs ≡ None → list_all (λ x. not (p x)) xs ≡ true
  none-passes [] e = refl
  none-passes (y ∷ ys) e = by (p y) refl (none-passes ys) e
    where
      by : (b : Bool) → p y ≡ b → (find p ys ≡ None → list_all (λ x. not (p x)) ys ≡ true) → (if b then Some y else find p ys) ≡ None
          → list_all (λ x. not (p x)) (y ∷ ys) ≡ true
      by true h ih f = absurd (none-some y (sym f))
      by false h ih f = and (not (p y)) (list_all (λ x. not (p x)) ys) (ap not h) (ih f)

  pub found-any : (r : A → Bool) (xs : List A) (x : A) → find p xs ≡ Some x → r x ≡ true → list_any r xs ≡ true
  found-any r [] x e h = cc
  found-any r (y ∷ ys) x e h = by (p y) (λ f. found-any r ys x f h) e
    where
      by : (b : Bool) → (find p ys ≡ Some x → list_any r ys ≡ true) → (if b then Some y else find p ys) ≡ Some x → list_any r (y ∷ ys) ≡ true
      by true ih f = let same : y ≡ x = cc in or-left (r y) (list_any r ys) (ap r same ∙ h)
      by false ih f = or-right (r y) (list_any r ys) (ih f)

pub all-of : {A : Type 0} (p q : A → Bool) (xs : List A) → ((x : A) → p x ≡ true → q x ≡ true) → list_all p xs ≡ true → list_all q xs ≡ true
all-of p q [] h e = refl
all-of p q (x ∷ xs) h e = let b = both (p x) (list_all p xs) e in and (q x) (list_all q xs) (h x b.0) (all-of p q xs h b.1)

pub all-each : {A : Type 0} (p : A → Bool) (xs : List A) → ((x : A) → p x ≡ true) → list_all p xs ≡ true
all-each p [] h = refl
all-each p (x ∷ xs) h = and (p x) (list_all p xs) (h x) (all-each p xs h)

-- ## What waits

waits-less : (m n : ℕ) (q : Pending) → waits n (without m q) ≡ true → waits n q ≡ true
waits-less m n q h = elim (or-split (list_any (is_of n) (without m q).unordered) (list_any (is_of n) (without m q).ordered) h) [
  | inl a ↦ or-left (list_any (is_of n) q.unordered) (list_any (is_of n) q.ordered) (list_any-those (is_of n) (λ c. not (is_of m c)) q.unordered a)
  | inr a ↦ or-right (list_any (is_of n) q.unordered) (list_any (is_of n) q.ordered) (list_any-those (is_of n) (λ c. not (is_of m c)) q.ordered a)
]

find-changed : (t m : ℕ) (cs : List ChunkPayloadData)
    → find (has_tsn t) (change_where (is_of m) as_abandoned cs) ≡ option_map (λ c. if is_of m c then as_abandoned c else c) (find (has_tsn t) cs)
find-changed t m [] = refl
find-changed t m (c ∷ cs) = by (is_of m c) refl (find-changed t m cs)
  where
    here : (b k : Bool) → is_of m c ≡ b → find (has_tsn t) (change_where (is_of m) as_abandoned cs) ≡ option_map (λ d. if is_of m d then as_abandoned d else d)
        (find (has_tsn t) cs) → (if k then Some (if b then as_abandoned c else c) else find (has_tsn t) (change_where (is_of m) as_abandoned cs))
        ≡ option_map (λ d. if is_of m d then as_abandoned d else d) (if k then Some c else find (has_tsn t) cs)
    here b true e ih = ap (λ a. Some (if a then as_abandoned c else c)) (sym e)
    here b false e ih = ih

    by : (b : Bool) → is_of m c ≡ b → find (has_tsn t) (change_where (is_of m) as_abandoned cs) ≡ option_map (λ d. if is_of m d then as_abandoned d else d)
        (find (has_tsn t) cs) → find (has_tsn t) ((if b then as_abandoned c else c) ∷ change_where (is_of m) as_abandoned cs)
        ≡ option_map (λ d. if is_of m d then as_abandoned d else d) (find (has_tsn t) (c ∷ cs))
    by true e ih = here true (has_tsn t c) e ih
    by false e ih = here false (has_tsn t c) e ih

-- where a message with no tail is abandoned, no other gets one
module _ (f : Flight) (t : ℕ) where
  kept : (m : ℕ) (q : Outbound) → q.pending ≡ without m f.queue.pending → (o : Option ChunkPayloadData)
      → has_tail (to_abandon (option_map (λ c. if is_of m c then as_abandoned c else c) o)) q ≡ true → has_tail (to_abandon o) f.queue ≡ true
  kept m q is None h = h
  kept m q is (Some c) h = by (is_of m c) h
    where
      open-one : (b : Bool) → has_tail (if b then None else Some c.message_id) q ≡ true → has_tail (if b then None else Some c.message_id) f.queue ≡ true
      open-one true e = e
      open-one false e = waits-less m c.message_id f.queue.pending (subst (λ (p : Pending). waits c.message_id p ≡ true) is e)

      by : (b : Bool) → has_tail (to_abandon (Some (if b then as_abandoned c else c))) q ≡ true → has_tail (to_abandon (Some c)) f.queue ≡ true
      by true e = absurd (not_both e)
      by false e = open-one c.abandoned e

  after-one : (o : Option ℕ) → has_tail o f.queue ≡ false → has_tail (to_abandon (find (has_tsn t) (abandoned_of o f.next_tsn f.queue).inflight.chunks))
      (abandoned_of o f.next_tsn f.queue) ≡ true → has_tail_at f t ≡ true
  after-one None w h = h
  after-one (Some m) w h =
      let q = abandoned_of (Some m) f.next_tsn f.queue in
      let cs = f.queue.inflight.chunks in
      let unmarked = ap (λ o. (with_terminal_chunk o f.next_tsn (payload.with_chunks f.queue.inflight (change_where (is_of m) as_abandoned cs))).chunks)
      (last_removed_none m f.queue.pending w) in
      kept m q refl (find (has_tsn t) cs) (subst (λ xs. has_tail (to_abandon xs) q ≡ true) (ap (find (has_tsn t)) unmarked ∙ find-changed t m cs) h)

pub no-tail-after : (f : Flight) (s t : ℕ) → has_tail_at f s ≡ false → not (has_tail_at f t) ≡ true → not (has_tail_at (abandoned_at s f) t) ≡ true
no-tail-after f s t w h =
    ap not (fails (has_tail_at (abandoned_at s f) t) (λ e. let was = after-one f t (message_to_abandon s f) w e in not_both (sym (ap not was) ∙ h)))

-- ## The message that alone has a tail

-- with none partially sent no message in flight waits
pub none-waits : (q : Outbound) → IsSendable q.pending q.inflight.chunks q.next_message_id → partially_sent q.pending ≡ None → (t : ℕ)
    → has_tail (to_abandon (find (has_tsn t) q.inflight.chunks)) q ≡ false
none-waits q s none t = by (find (has_tsn t) q.inflight.chunks) refl
  where
    by : (o : Option ChunkPayloadData) → find (has_tsn t) q.inflight.chunks ≡ o → has_tail (to_abandon o) q ≡ false
    by None e = refl
    by (Some c) e = open-one c.abandoned
      where
        open-one : (b : Bool) → has_tail (if b then None else Some c.message_id) q ≡ false
        open-one true = refl
        open-one false = fails (waits c.message_id q.pending) (λ w. none-some c.message_id (sym none
            ∙ s.sent c.message_id (found-any (has_tsn t) (is_of c.message_id) q.inflight.chunks c e (same-yes c.message_id)) w))

-- once the message with a tail is abandoned, none is partially sent
pub none-partial : (f : Flight) (t : ℕ) → IsSendable f.queue.pending f.queue.inflight.chunks f.queue.next_message_id → has_tail_at f t ≡ true
    → partially_sent (abandoned_at t f).queue.pending ≡ None
none-partial f t s h = by (find (has_tsn t) f.queue.inflight.chunks) refl h
  where
    by : (o : Option ChunkPayloadData) → find (has_tsn t) f.queue.inflight.chunks ≡ o → has_tail (to_abandon o) f.queue ≡ true
        → partially_sent (abandoned_of (to_abandon o) f.next_tsn f.queue).pending ≡ None
    by None e w = absurd (not_both w)
    by (Some c) e w = open-one c.abandoned w
      where
        open-one : (b : Bool) → has_tail (if b then None else Some c.message_id) f.queue ≡ true
            → partially_sent (abandoned_of (if b then None else Some c.message_id) f.next_tsn f.queue).pending ≡ None
        open-one true v = absurd (not_both v)
        open-one false v = partial_gone c.message_id f.queue.pending.selected
            (s.sent c.message_id (found-any (has_tsn t) (is_of c.message_id) f.queue.inflight.chunks c e (same-yes c.message_id)) v)

-- ## One TSN more

pub next-of : (ts : List ℕ) (i d : ℕ) → i < length ts → drop i ts ≡ get_or ts i d ∷ drop (i + 1) ts
next-of [] i d lt = absurd (omega (arith, lt))
next-of (t ∷ ts) zero d lt = refl
next-of (t ∷ ts) (suc i) d lt =
    let next : suc i + 1 ≡ suc (i + 1) = omega arith in
    next-of ts i d (omega (arith, lt)) ∙ ap (λ k. get_or ts i d ∷ drop k (t ∷ ts)) (sym next)

pub at-most-one : {A : Type 0} (o : Option A) → length (option_to_list o) ≤ 1
at-most-one None = omega arith
at-most-one (Some x) = omega arith

pub rest-with-no-tail : (f g : Flight) (t : ℕ) (ts : List ℕ) → list_all (λ x. not (has_tail_at f x)) (t ∷ ts) ≡ true → g ≡ abandoned_at t f
    → list_all (λ x. not (has_tail_at g x)) ts ≡ true
rest-with-no-tail f g t ts all is =
    let parts = both (not (has_tail_at f t)) (list_all (λ x. not (has_tail_at f x)) ts) all in
    subst (λ (h : Flight). list_all (λ x. not (has_tail_at h x)) ts ≡ true) (sym is)
    (all-of (λ x. not (has_tail_at f x)) (λ x. not (has_tail_at (abandoned_at t f) x)) ts
    (λ x h. no-tail-after f t x (negated (has_tail_at f t) parts.0) h) parts.1)

pub none-left : (f g : Flight) (t : ℕ) (ts : List ℕ) → IsSendable f.queue.pending f.queue.inflight.chunks f.queue.next_message_id
    → IsSendable g.queue.pending g.queue.inflight.chunks g.queue.next_message_id → Some t ≡ with_tail ts f → g ≡ abandoned_at t f
    → list_all (λ x. not (has_tail_at g x)) ts ≡ true
none-left f g t ts before after first is =
    let partial = ap (λ (h : Flight). partially_sent h.queue.pending) is ∙ none-partial f t before (found-passes (has_tail_at f) ts t (sym first)) in
    all-each (λ x. not (has_tail_at g x)) ts (λ x. ap not (none-waits g.queue after partial x))
