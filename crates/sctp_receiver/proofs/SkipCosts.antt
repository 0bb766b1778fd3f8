-- What the skips of a FORWARD-TSN look at within streams.
use Rattle.sctp_receiver.proofs.Names.{◌≡◌, ℕ, zero, suc, ◌+◌, ◌≤◌, Bool, true, false, List, [], ◌∷◌, length, map, Option, Some, None, refl, ap, sym, ◌∙◌}
use Rattle.sctp_receiver.proofs.Names.{arith, not, if◌then◌else◌, slice_get, slice_set, sum_by, filter, sum_by-cons, sum_by-set, slice_get_within}
use Rattle.sctp_receiver.proofs.Names.{get_or_from_slice_get, some-same, not_both, ChunkSet, ForwardTsn, ChunkForwardTsnStream, set_chunks, is_passed}
use Rattle.sctp_receiver.proofs.Names.{cannot_complete, InboundStream, Skip, Unassembled, Incomplete, ssn_forwarded, named_forwarded, unassembled_forwarded}
use Rattle.sctp_receiver.proofs.Names.{Reception, after_forward, follow_forward_tsn, is_stale, settle_walk, unordered_skips_walk, incomplete_skips_walk}
use Rattle.sctp_receiver.proofs.Names.{AreInverse, holds_any, skip_forwarded, to_visit}
use Rattle.std.proofs.Common.{ap₂}
use Rattle.sctp_receiver.specs.declared.receiver.spans.TsnSpan.{TsnSpan}
use Rattle.sctp_receiver.specs.Spans.{lies_past}
use Rattle.sctp_receiver.specs.SkipCosts.{visit_walk, unless_past, walks_by_place, walk_by_spans}
use Rattle.sctp_reassembly.specs.reassembly_queue.Costs.{ordered_skip_walk, incomplete_skip_walk, unordered_skip_walk}
use Rattle.sctp_receiver.proofs.Settled.{named-any, unassembled-any}
use Rattle.sctp_receiver.proofs.StreamCosts.{mapped-cost, named-cost}
use Rattle.sctp_receiver.proofs.VisitOrders.{set-there}
use Rattle.sctp_receiver.proofs.Weights as weights

-- ## What is spent at the places of an order

-- a number, none where there is none
abbrev number_of : Option ℕ → ℕ
number_of None = 0
number_of (Some n) = n

-- what stands at a place of a list
abbrev weight_at : List ℕ → Option ℕ → ℕ
weight_at ws None = 0
weight_at ws (Some p) = number_of (slice_get ws p)

-- at the first so many places of an order
abbrev pub spent : ℕ → List ℕ → List ℕ → ℕ
spent zero order ws = 0
spent (suc n) order ws = spent n order ws + weight_at ws (slice_get order n)

abbrev pub total : List ℕ → ℕ
total ws = sum_by (λ (w : ℕ). w) ws

-- another place is none of the first so many
spent-without : (m n p : ℕ) (order spots ws : List ℕ) → AreInverse order spots → slice_get order n ≡ Some p → m ≤ n
    → spent m order (slice_set ws p 0) ≡ spent m order ws
spent-without zero n p order spots ws inverse at le = refl
spent-without (suc m) n p order spots ws inverse at le =
    let ih = spent-without m n p order spots ws inverse at (omega (arith, le)) in
    let e = by (slice_get order m) refl in
    omega (arith, ih, e)
  where
    by : (o : Option ℕ) → slice_get order m ≡ o → weight_at (slice_set ws p 0) o ≡ weight_at ws o
    by None e = refl
    by (Some q) e = ap number_of (set-there ws p q 0
        (λ z. let same : m ≡ n = some-same (sym ((inverse m q).0 e) ∙ ap (slice_get spots) z ∙ (inverse n p).0 at) in omega (arith, same, le)))

pub spent-within : (n : ℕ) (order spots ws : List ℕ) → AreInverse order spots → spent n order ws ≤ total ws
spent-within zero order spots ws inverse = omega arith
spent-within (suc n) order spots ws inverse = by (λ vs. spent-within n order spots vs inverse) (slice_get order n) refl
  where
    by : ((vs : List ℕ) → spent n order vs ≤ total vs) → (o : Option ℕ) → slice_get order n ≡ o → spent n order ws + weight_at ws o ≤ total ws
    by less None e = let ih = less ws in omega (arith, ih)
    by less (Some p) e = at (slice_get ws p) refl
      where
        at : (o : Option ℕ) → slice_get ws p ≡ o → spent n order ws + number_of o ≤ total ws
        at None f = let ih = less ws in omega (arith, ih)
        at (Some w) f =
            let ih = less (slice_set ws p 0) in
            let same = spent-without n n p order spots ws inverse e (omega arith) in
            let s = sum_by-set (λ (v : ℕ). v) ws p 0 0 (slice_get_within ws p w f) in
            let here = get_or_from_slice_get ws p w 0 f in
            omega (arith, ih, same, s, here)

-- one more
pub spent-more : (n k w : ℕ) (order ws : List ℕ) → slice_get order n ≡ Some k → slice_get ws k ≡ Some w → spent (suc n) order ws ≡ spent n order ws + w
spent-more n k w order ws at here =
    let e : weight_at ws (slice_get order n) ≡ w = ap (weight_at ws) at ∙ ap number_of here in
    omega (arith, e)

module _ {X : Type 0} (f : X → ℕ) where
  pub at-map : (xs : List X) (p : ℕ) (x : X) → slice_get xs p ≡ Some x → slice_get (map f xs) p ≡ Some (f x)
  at-map [] p x e = cc
  at-map (y ∷ xs) zero x e = ap (λ z. Some (f z)) (some-same e)
  at-map (y ∷ xs) (suc p) x e = at-map xs p x e

-- ## Only streams that are visited

abbrev any : InboundStream → Bool
any l = holds_any l.queue.held

abbrev pub if_visited : (InboundStream → ℕ) → InboundStream → ℕ
if_visited m l = if holds_any l.queue.held then m l else 0

pub visited-sum : (m : InboundStream → ℕ) (ls : List InboundStream) → sum_by m (to_visit ls) ≡ sum_by (if_visited m) ls
visited-sum m [] = refl
visited-sum m (l ∷ ls) = by (any l) (visited-sum m ls) ∙ sym (sum_by-cons (if_visited m) l ls)
  where
    by : (b : Bool) → sum_by m (to_visit ls) ≡ sum_by (if_visited m) ls
        → sum_by m (if b then l ∷ to_visit ls else to_visit ls) ≡ (if b then m l else 0) + sum_by (if_visited m) ls
    by true ih = let a = sum_by-cons m l (to_visit ls) in omega (arith, a, ih)
    by false ih = omega (arith, ih)

pub visited-within : (m : InboundStream → ℕ) (ls : List InboundStream) → sum_by m (to_visit ls) ≤ sum_by m ls
visited-within m [] = omega arith
visited-within m (l ∷ ls) = by (any l) (visited-within m ls)
  where
    by : (b : Bool) → sum_by m (to_visit ls) ≤ sum_by m ls → sum_by m (if b then l ∷ to_visit ls else to_visit ls) ≤ sum_by m (l ∷ ls)
    by true ih = omega (arith, ih, sum_by-cons m l ls, sum_by-cons m l (to_visit ls))
    by false ih = omega (arith, ih, sum_by-cons m l ls)

-- ## By stretches of TSNs

module _ (skip : Skip) (tsn : ℕ) where
  -- of a stream that holds any
  abbrev pub walk_on : InboundStream → ℕ
  walk_on l = if holds_any l.queue.held then visit_walk skip l.queue.held + settle_walk skip l.queue.held else 0

  pub at-place : (spans : List TsnSpan) (ls : List InboundStream) (p : ℕ) (s : TsnSpan) (l : InboundStream) → slice_get spans p ≡ Some s
      → slice_get ls p ≡ Some l → slice_get (walks_by_place skip tsn spans ls) p ≡ Some (unless_past tsn s (walk_on l))
  at-place [] ls p s l es el = cc
  at-place (t ∷ spans) [] p s l es el = cc
  at-place (t ∷ spans) (m ∷ ls) zero s l es el = ap₂ (λ a b. Some (unless_past tsn a (walk_on b))) (some-same es) (some-same el)
  at-place (t ∷ spans) (m ∷ ls) (suc p) s l es el = at-place spans ls p s l es el

  pub past-less : (spans : List TsnSpan) (ls : List InboundStream) → walk_by_spans skip tsn spans ls
      ≤ sum_by (λ (l : InboundStream). visit_walk skip l.queue.held) (to_visit ls)
      + sum_by (λ (l : InboundStream). settle_walk skip l.queue.held) (to_visit ls)
  past-less [] ls = omega arith
  past-less (s ∷ spans) [] = omega arith
  past-less (s ∷ spans) (l ∷ ls) =
      let ih = past-less spans ls in
      let one = sum_by-cons (λ (w : ℕ). w) (unless_past tsn s (walk_on l)) (walks_by_place skip tsn spans ls) in
      let rest = by (any l) ih in
      omega (arith, one, rest, less (lies_past tsn s))
    where
      less : (b : Bool) → (if b then 0 else walk_on l) ≤ walk_on l
      less true = omega arith
      less false = omega arith

      visit : InboundStream → ℕ
      visit x = visit_walk skip x.queue.held

      settle : InboundStream → ℕ
      settle x = settle_walk skip x.queue.held

      by : (b : Bool) → walk_by_spans skip tsn spans ls ≤ sum_by visit (to_visit ls) + sum_by settle (to_visit ls)
          → (if b then visit l + settle l else 0) + walk_by_spans skip tsn spans ls
          ≤ sum_by visit (if b then l ∷ to_visit ls else to_visit ls) + sum_by settle (if b then l ∷ to_visit ls else to_visit ls)
      by true ih = omega (arith, ih, sum_by-cons visit l (to_visit ls), sum_by-cons settle l (to_visit ls))
      by false ih = omega (arith, ih)

-- no more of one that changes so that it holds no more
visited-less : (m : InboundStream → ℕ) (x y : InboundStream) → (any x ≡ false → any y ≡ false) → m y ≤ m x → if_visited m y ≤ if_visited m x
visited-less m x y keeps le = by (any x) (any y) keeps
  where
    by : (a b : Bool) → (a ≡ false → b ≡ false) → (if b then m y else 0) ≤ (if a then m x else 0)
    by true true h = le
    by true false h = omega arith
    by false true h = absurd (not_both (sym (h refl)))
    by false false h = omega arith

-- ## Fewer sets

pub fewer-length : {A : Type 0} (p : A → Bool) (xs : List A) → length (filter p xs) ≤ length xs
fewer-length p [] = omega arith
fewer-length p (x ∷ xs) = by (p x) (fewer-length p xs)
  where
    by : (b : Bool) → length (filter p xs) ≤ length xs → length (if b then x ∷ filter p xs else filter p xs) ≤ length (x ∷ xs)
    by true ih = omega (arith, ih)
    by false ih = omega (arith, ih)

fewer-chunks : (p : ChunkSet → Bool) (sets : List ChunkSet) → set_chunks (filter p sets) ≤ set_chunks sets
fewer-chunks p sets = weights.fewer (λ x. 0) (λ (s : ChunkSet). length s.chunks) p sets

abbrev pub ordered_walk : InboundStream → ℕ
ordered_walk l = ordered_skip_walk l.queue.held

abbrev pub incomplete_walk : InboundStream → ℕ
incomplete_walk l = incomplete_skip_walk l.queue.held

abbrev pub unordered_walk : InboundStream → ℕ
unordered_walk l = unordered_skip_walk l.queue.held

abbrev pub messages : InboundStream → ℕ
messages l = length l.queue.held.ordered

module _ (ssn : ℕ) (l : InboundStream) where
  kept : length (ssn_forwarded ssn l).queue.held.ordered ≤ length l.queue.held.ordered
  kept = fewer-length (λ set. not (is_passed ssn set)) l.queue.held.ordered

  kept-chunks : set_chunks (ssn_forwarded ssn l).queue.held.ordered ≤ set_chunks l.queue.held.ordered
  kept-chunks = fewer-chunks (λ set. not (is_passed ssn set)) l.queue.held.ordered

  named-incomplete : incomplete_walk (ssn_forwarded ssn l) ≤ incomplete_walk l
  named-incomplete = let a = kept in let b = kept-chunks in omega (arith, a, b)

-- no more is to be settled after a skip
pub settle-less : (skip : Skip) (tsn : ℕ) (l : InboundStream)
    → settle_walk skip (skip_forwarded skip tsn l).queue.held ≤ settle_walk skip l.queue.held
settle-less Unassembled tsn l = omega arith
settle-less Incomplete tsn l = fewer-length (λ set. not (cannot_complete tsn set)) l.queue.held.ordered

-- ## All of them

pub unordered-after-names : (ns : List ChunkForwardTsnStream) (ls : List InboundStream) → unordered_skips_walk (named_forwarded ns ls) ≤ unordered_skips_walk ls
unordered-after-names ns ls =
    let a = visited-sum unordered_walk (named_forwarded ns ls) in
    let b = visited-sum unordered_walk ls in
    let h = named-cost (if_visited unordered_walk) (λ ssn l. visited-less unordered_walk l (ssn_forwarded ssn l) (named-any ssn l) (omega arith)) ns ls in
    omega (arith, a, b, h)

incomplete-after-names : (ns : List ChunkForwardTsnStream) (ls : List InboundStream)
    → incomplete_skips_walk (named_forwarded ns ls) ≤ incomplete_skips_walk ls
incomplete-after-names ns ls =
    let a = visited-sum incomplete_walk (named_forwarded ns ls) in
    let b = visited-sum incomplete_walk ls in
    let h = named-cost (if_visited incomplete_walk)
    (λ ssn l. visited-less incomplete_walk l (ssn_forwarded ssn l) (named-any ssn l) (named-incomplete ssn l)) ns ls in
    let m = named-cost messages kept ns ls in
    omega (arith, a, b, h, m)

incomplete-after-fragments : (tsn : ℕ) (ls : List InboundStream) → incomplete_skips_walk (map (unassembled_forwarded tsn) ls) ≤ incomplete_skips_walk ls
incomplete-after-fragments tsn ls =
    let f = unassembled_forwarded tsn in
    let a = visited-sum incomplete_walk (map f ls) in
    let b = visited-sum incomplete_walk ls in
    let h = mapped-cost (if_visited incomplete_walk) f (λ l. visited-less incomplete_walk l (f l) (unassembled-any tsn l) (omega arith)) ls in
    let m = mapped-cost messages f (λ l. omega arith) ls in
    omega (arith, a, b, h, m)

pub incomplete-after : (f : ForwardTsn) (r : Reception) → incomplete_skips_walk (after_forward f r).streams ≤ incomplete_skips_walk r.streams
incomplete-after f r = by (is_stale f r)
  where
    by : (b : Bool) → incomplete_skips_walk (if b then r else follow_forward_tsn f r).streams ≤ incomplete_skips_walk r.streams
    by true = omega arith
    by false =
        let a = incomplete-after-fragments f.new_cumulative_tsn (named_forwarded f.streams r.streams) in
        let b = incomplete-after-names f.streams r.streams in
        omega (arith, a, b)

pub none-settled : (ls : List InboundStream) → sum_by (λ (l : InboundStream). settle_walk Unassembled l.queue.held) ls ≡ 0
none-settled [] = refl
none-settled (l ∷ ls) = let a = sum_by-cons (λ (x : InboundStream). settle_walk Unassembled x.queue.held) l ls in let ih = none-settled ls in
    omega (arith, a, ih)
