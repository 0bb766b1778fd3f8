-- Streams that hold nothing incomplete: no skip without a name changes them, and no read or name leaves them with more.
use Rattle.sctp_receiver.proofs.Names.{◌≡◌, ℕ, ◌-◌, ◌≤◌, map, Bool, true, false, List, [], ◌∷◌, length, refl, ap, ap₂, sym, ◌∙◌, arith, Option, Some, None}
use Rattle.sctp_receiver.proofs.Names.{◌==◌, ◌&&◌, ◌||◌, not, if◌then◌else◌, list_any, filter, ne_eqb, after_leading, change_where, at_or_before, fails}
use Rattle.sctp_receiver.proofs.Names.{not_both, ChunkSet, ForwardTsn, ChunkForwardTsnStream, is_complete, Reassembly, ReassemblyState, after_unordered_skip}
use Rattle.sctp_receiver.proofs.Names.{after_read, front_readable, rest_among, without_first, is_passed, OrderedSkips, cannot_complete, incomplete_agrees}
use Rattle.sctp_receiver.proofs.Names.{neither, bytes_of, InboundStream, Skip, Unassembled, Incomplete, with_queue, has_number, stream_read, ssn_forwarded}
use Rattle.sctp_receiver.proofs.Names.{named_forwarded, unassembled_forwarded, Reception, after_forward, follow_forward_tsn, is_stale, skip_forwarded}
use Rattle.sctp_receiver.proofs.Names.{holds_any, holds_incomplete, to_visit}
use Rattle.sctp_util.proofs.Edits.{list_any-those}
use Rattle.sctp_reassembly.specs.reassembly_queue.ReassemblyQueue.{leading_upto}
use Rattle.sctp_reassembly.specs.reassembly_queue.OrderedSkips.{is_skipped, after_noted_skips}
use Rattle.sctp_reassembly.specs.reassembly_queue.Skips.{misses}

pub is-empty : {A : Type 0} (xs : List A) → not (length xs == 0) ≡ false → xs ≡ []
is-empty [] h = refl
is-empty (x ∷ xs) h = absurd (not_both (sym h ∙ ap not (ne_eqb (length (x ∷ xs)) 0 (λ e. omega (arith, e)))))

abbrev pub is_incomplete : ChunkSet → Bool
is_incomplete s = not (is_complete s.chunks)

-- what holds none holds nothing incomplete
pub none-incomplete : (q : Reassembly) → holds_any q ≡ false → holds_incomplete q ≡ false
none-incomplete q h =
    let parts = neither (not (length q.unassembled == 0)) (not (length q.ordered == 0)) h in
    ap (λ b. b || list_any is_incomplete q.ordered) parts.0 ∙ ap (list_any is_incomplete) (is-empty q.ordered parts.1)

-- ## Skips

pub any-less : {A : Type 0} (p r : A → Bool) → ((x : A) → p x ≡ false → r x ≡ false) → (xs : List A) → list_any p xs ≡ false → list_any r xs ≡ false
any-less p r less [] h = refl
any-less p r less (x ∷ xs) h = let parts = neither (p x) (list_any p xs) h in
    ap₂ (λ a b. a || b) (less x parts.0) (any-less p r less xs parts.1)

unassembled-stays : (tsn : ℕ) (q : ReassemblyState) → q.held.unassembled ≡ [] → after_unordered_skip tsn q ≡ q
unassembled-stays tsn q e = ap₂ (λ us n. let r : ReassemblyState = record q { held = record q.held { unassembled = us }; bytes = n } in r)
    (ap (after_leading (λ x. at_or_before x.tsn tsn)) e ∙ sym e) (ap (λ us. q.bytes - bytes_of (leading_upto tsn us)) e ∙ less q.bytes)
  where
    less : (n : ℕ) → n - bytes_of [] ≡ n
    less n = omega arith

pub skip-stays : (skip : Skip) (tsn : ℕ) (l : InboundStream) → holds_incomplete l.queue.held ≡ false → skip_forwarded skip tsn l ≡ l
skip-stays Unassembled tsn l h =
    let parts = neither (not (length l.queue.held.unassembled == 0)) (list_any is_incomplete l.queue.held.ordered) h in
    ap (λ q. with_queue q l) (unassembled-stays tsn l.queue (is-empty l.queue.held.unassembled parts.0))
skip-stays Incomplete tsn l h =
    let parts = neither (not (length l.queue.held.unassembled == 0)) (list_any is_incomplete l.queue.held.ordered) h in
    ap (λ q. with_queue q l) (incomplete_agrees tsn l.queue (any-less is_incomplete (cannot_complete tsn) less l.queue.held.ordered parts.1))
  where
    less : (s : ChunkSet) → is_incomplete s ≡ false → cannot_complete tsn s ≡ false
    less s h = ap (λ b. b && misses tsn s.chunks) h

-- ## Fewer sets

-- the unassembled fragments stay, and of the sets some go
fewer-sets : (q r : Reassembly) → r.unassembled ≡ q.unassembled → (list_any is_incomplete q.ordered ≡ false → list_any is_incomplete r.ordered ≡ false)
    → holds_incomplete q ≡ false → holds_incomplete r ≡ false
fewer-sets q r same less h =
    let parts = neither (not (length q.unassembled == 0)) (list_any is_incomplete q.ordered) h in
    ap₂ (λ a b. a || b) (ap (λ us. not (length us == 0)) same ∙ parts.0) (less parts.1)

without-first : (sets : List ChunkSet) → list_any is_incomplete sets ≡ false → list_any is_incomplete (without_first sets) ≡ false
without-first [] h = refl
without-first (s ∷ sets) h = (neither (is_incomplete s) (list_any is_incomplete sets) h).1

pub read-none : (l : InboundStream) → holds_incomplete l.queue.held ≡ false → holds_incomplete (stream_read l).queue.held ≡ false
read-none l h = among l.queue.held.unordered
  where
    q : Reassembly
    q = l.queue.held

    front : (o : Option ChunkSet) → holds_incomplete (after_read o q) ≡ false
    front None = h
    front (Some set) = fewer-sets q (after_read (Some set) q) refl (without-first q.ordered) h

    among : (us : List ChunkSet) → holds_incomplete (rest_among us q) ≡ false
    among [] = front (front_readable q.next_ssn q.ordered)
    among (u ∷ us) = h

thinned : (p : ChunkSet → Bool) (sets : List ChunkSet) → list_any is_incomplete sets ≡ false → list_any is_incomplete (filter p sets) ≡ false
thinned p sets e = fails (list_any is_incomplete (filter p sets)) (λ t. not_both (sym e ∙ list_any-those is_incomplete p sets t))

pub noted-none : (skips : OrderedSkips) (l : InboundStream) → holds_incomplete l.queue.held ≡ false
    → holds_incomplete (after_noted_skips skips l.queue).held ≡ false
noted-none skips l h =
    fewer-sets l.queue.held (after_noted_skips skips l.queue).held refl (thinned (λ set. not (is_skipped skips.passed set)) l.queue.held.ordered) h

-- ## No more streams to visit

pub unassembled-any : (tsn : ℕ) (l : InboundStream) → holds_any l.queue.held ≡ false → holds_any (unassembled_forwarded tsn l).queue.held ≡ false
unassembled-any tsn l h =
    let parts = neither (not (length l.queue.held.unassembled == 0)) (not (length l.queue.held.ordered == 0)) h in
    ap₂ (λ us os. not (length (after_leading (λ x. at_or_before x.tsn tsn) us) == 0) || not (length os == 0))
    (is-empty l.queue.held.unassembled parts.0) (is-empty l.queue.held.ordered parts.1)

pub named-any : (ssn : ℕ) (l : InboundStream) → holds_any l.queue.held ≡ false → holds_any (ssn_forwarded ssn l).queue.held ≡ false
named-any ssn l h =
    let parts = neither (not (length l.queue.held.unassembled == 0)) (not (length l.queue.held.ordered == 0)) h in
    ap₂ (λ us os. not (length us == 0) || not (length (filter (λ set. not (is_passed ssn set)) os) == 0))
    (is-empty l.queue.held.unassembled parts.0) (is-empty l.queue.held.ordered parts.1)

abbrev any : InboundStream → Bool
any l = holds_any l.queue.held

fewer-step : (a b : Bool) (x y : InboundStream) (xs ys : List InboundStream) → (b ≡ false → a ≡ false) → length xs ≤ length ys
    → length (if a then x ∷ xs else xs) ≤ length (if b then y ∷ ys else ys)
fewer-step true true x y xs ys less le = omega (arith, le)
fewer-step true false x y xs ys less le = absurd (not_both (sym (less refl)))
fewer-step false true x y xs ys less le = omega (arith, le)
fewer-step false false x y xs ys less le = le

fewer-mapped : (f : InboundStream → InboundStream) → ((l : InboundStream) → any l ≡ false → any (f l) ≡ false) → (ls : List InboundStream)
    → length (to_visit (map f ls)) ≤ length (to_visit ls)
fewer-mapped f less [] = omega arith
fewer-mapped f less (l ∷ ls) = fewer-step (any (f l)) (any l) (f l) l (to_visit (map f ls)) (to_visit ls) (less l) (fewer-mapped f less ls)

fewer-changed : (p : InboundStream → Bool) (f : InboundStream → InboundStream) → ((l : InboundStream) → any l ≡ false → any (f l) ≡ false)
    → (ls : List InboundStream) → length (to_visit (change_where p f ls)) ≤ length (to_visit ls)
fewer-changed p f less [] = omega arith
fewer-changed p f less (l ∷ ls) =
    fewer-step (any (if p l then f l else l)) (any l) (if p l then f l else l) l (to_visit (change_where p f ls)) (to_visit ls) (by (p l))
    (fewer-changed p f less ls)
  where
    by : (b : Bool) → any l ≡ false → any (if b then f l else l) ≡ false
    by true h = less l h
    by false h = h

pub fewer-named : (ns : List ChunkForwardTsnStream) (ls : List InboundStream) → length (to_visit (named_forwarded ns ls)) ≤ length (to_visit ls)
fewer-named [] ls = omega arith
fewer-named (n ∷ ns) ls =
    let a = fewer-changed (has_number n.identifier) (ssn_forwarded n.sequence) (named-any n.sequence) ls in
    let b = fewer-named ns (change_where (has_number n.identifier) (ssn_forwarded n.sequence) ls) in
    omega (arith, a, b)

-- nor after all that the names say, and the unassembled fragments
pub fewer-followed : (tsn : ℕ) (ns : List ChunkForwardTsnStream) (ls : List InboundStream)
    → length (to_visit (map (unassembled_forwarded tsn) (named_forwarded ns ls))) ≤ length (to_visit ls)
fewer-followed tsn ns ls =
    let a = fewer-mapped (unassembled_forwarded tsn) (unassembled-any tsn) (named_forwarded ns ls) in
    let b = fewer-named ns ls in
    omega (arith, a, b)

pub fewer-after : (f : ForwardTsn) (r : Reception) → length (to_visit (after_forward f r).streams) ≤ length (to_visit r.streams)
fewer-after f r = by (is_stale f r)
  where
    by : (b : Bool) → length (to_visit (if b then r else follow_forward_tsn f r).streams) ≤ length (to_visit r.streams)
    by true = omega arith
    by false = fewer-followed f.new_cumulative_tsn f.streams r.streams
