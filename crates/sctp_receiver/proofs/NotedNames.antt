-- What a FORWARD-TSN names on each stream, noted first and then made at once.
use Rattle.sctp_receiver.proofs.Names.{◌≡◌, ℕ, zero, suc, ◌+◌, ◌<◌, ◌≤◌, Bool, true, false, List, [], ◌∷◌, length, get_or, Option, Some, None, refl, sym, ap}
use Rattle.sctp_receiver.proofs.Names.{ap₂, ◌∙◌, arith, ◌==◌, if◌then◌else◌, slice_get, slice_index_or, slice_set, list_any, sum_by, eq-eqb, ne_eqb}
use Rattle.sctp_receiver.proofs.Names.{sum_by-cons, change_where, by_same, some-same, ChunkForwardTsnStream, OrderedSkips, after_noted, after_ordered_skip}
use Rattle.sctp_receiver.proofs.Names.{IsOnlyPlace, changed, inside, InboundStream, number, numbers_of, has_number, ssn_forwarded, noted_made, each_made}
use Rattle.sctp_receiver.proofs.Names.{AreNone, is_named, AreNamed}
use Rattle.std.proofs.Common.{◌||◌}
use Rattle.std.proofs.lemmas.Bool.{true≢false}
use Rattle.sctp_receiver.specs.SkipCosts.{named_streams}
use Rattle.sctp_receiver.proofs.SkipCosts.{ordered_walk}
use Rattle.sctp_receiver.proofs.VisitOrders.{set-there}

-- ## What is noted of each is made

pub made-number : (noted : Option OrderedSkips) (l : InboundStream) → number (noted_made noted l) ≡ number l
made-number None l = refl
made-number (Some skips) l = refl

pub made-numbers : (ns : List (Option OrderedSkips)) (ls : List InboundStream) → numbers_of (each_made ns ls) ≡ numbers_of ls
made-numbers [] ls = refl
made-numbers (n ∷ ns) [] = refl
made-numbers (n ∷ ns) (l ∷ ls) = ap₂ (λ k ks. k ∷ ks) (made-number n l) (made-numbers ns ls)

-- nothing is
pub none-made : (ns : List (Option OrderedSkips)) (ls : List InboundStream) → AreNone ns → each_made ns ls ≡ ls
none-made [] ls none = refl
none-made (n ∷ ns) [] none = refl
none-made (n ∷ ns) (l ∷ ls) none = ap₂ (λ x xs. x ∷ xs) (by n (λ s e. none 0 s (ap Some e))) (none-made ns ls (λ p s e. none (suc p) s e))
  where
    by : (o : Option OrderedSkips) → ((s : OrderedSkips) → o ≡ Some s → ⊥) → noted_made o l ≡ l
    by None h = refl
    by (Some s) h = absurd (h s refl)

-- the note at a place changes
pub made-noted : (ns : List (Option OrderedSkips)) (ls : List InboundStream) (p : ℕ) (n : Option OrderedSkips) (d : InboundStream) → p < length ns
    → p < length ls → each_made (slice_set ns p n) ls ≡ slice_set (each_made ns ls) p (noted_made n (slice_index_or ls p d))
made-noted [] ls p n d a b = absurd (omega (arith, a))
made-noted (m ∷ ns) [] p n d a b = absurd (omega (arith, b))
made-noted (m ∷ ns) (l ∷ ls) zero n d a b = refl
made-noted (m ∷ ns) (l ∷ ls) (suc p) n d a b = ap (λ xs. noted_made m l ∷ xs) (made-noted ns ls p n d (omega (arith, a)) (omega (arith, b)))

-- the stream at a place
made-at : (ns : List (Option OrderedSkips)) (ls : List InboundStream) (p : ℕ) (m : Option OrderedSkips) (d e : InboundStream) → slice_get ns p ≡ Some m
    → p < length ls → slice_index_or (each_made ns ls) p e ≡ noted_made m (slice_index_or ls p d)
made-at [] ls p m d e h b = absurd (cc)
made-at (n ∷ ns) [] p m d e h b = absurd (omega (arith, b))
made-at (n ∷ ns) (l ∷ ls) zero m d e h b = ap (λ o. noted_made o l) (some-same h)
made-at (n ∷ ns) (l ∷ ls) (suc p) m d e h b = made-at ns ls p m d e h (omega (arith, b))

-- what is noted of it is made, and no longer noted
pub made-now : (ns : List (Option OrderedSkips)) (ls : List InboundStream) (p : ℕ) (m : Option OrderedSkips) (d : InboundStream) → slice_get ns p ≡ Some m
    → p < length ls → each_made (slice_set ns p None) (slice_set ls p (noted_made m (slice_index_or ls p d))) ≡ each_made ns ls
made-now [] ls p m d h b = absurd (cc)
made-now (n ∷ ns) [] p m d h b = absurd (omega (arith, b))
made-now (n ∷ ns) (l ∷ ls) zero m d h b = ap (λ o. noted_made o l ∷ each_made ns ls) (sym (some-same h))
made-now (n ∷ ns) (l ∷ ls) (suc p) m d h b = ap (λ xs. noted_made n l ∷ xs) (made-now ns ls p m d h (omega (arith, b)))

-- a name is noted on its stream
pub noted-name : (ns : List (Option OrderedSkips)) (ls : List InboundStream) (numbers : List ℕ) → numbers ≡ numbers_of ls → (s ssn k : ℕ)
    → IsOnlyPlace s numbers k → (m : Option OrderedSkips) (n : OrderedSkips) (x : InboundStream) → k < length ns → slice_get ns k ≡ Some m
    → x ≡ slice_index_or ls k x → after_noted (Some n) x.queue ≡ after_ordered_skip ssn (after_noted m x.queue)
    → each_made (slice_set ns k (Some n)) ls ≡ change_where (has_number s) (ssn_forwarded ssn) (each_made ns ls)
noted-name ns ls numbers is s ssn k p m n x lt at here next =
    let all = each_made ns ls in
    let b : k < length ls = inside number ls numbers is s k p in
    let y = noted_made m x in
    let there : y ≡ slice_index_or all k y = ap (noted_made m) here ∙ sym (made-at ns ls k m x y at b) in
    let after : noted_made (Some n) x ≡ ssn_forwarded ssn y = ap (λ q. record x { queue = q }) next in
    made-noted ns ls k (Some n) x lt b ∙ ap (λ l. slice_set all k (noted_made (Some n) l)) (sym here)
    ∙ changed number all numbers (is ∙ sym (made-numbers ns ls)) s k p (ssn_forwarded ssn) y (noted_made (Some n) x) there after

-- ## What is noted is named

any-at : {A : Type 0} (f : A → Bool) (xs : List A) (k : ℕ) (d : A) → k < length xs → f (get_or xs k d) ≡ true → list_any f xs ≡ true
any-at f [] k d lt h = absurd (omega (arith, lt))
any-at f (x ∷ xs) zero d lt h = ap (λ b. b || list_any f xs) h
any-at f (x ∷ xs) (suc k) d lt h = by (f x) (any-at f xs k d (omega (arith, lt)) h)
  where
    by : (b : Bool) → list_any f xs ≡ true → b || list_any f xs ≡ true
    by true e = refl
    by false e = e

-- the name at a place
pub name-there : (names : List ChunkForwardTsnStream) (k : ℕ) (d : ChunkForwardTsnStream) → k < length names
    → is_named names (Some (get_or names k d).identifier) ≡ true
name-there names k d lt = any-at (λ n. (get_or names k d).identifier == n.identifier) names k d lt (eq-eqb _ _ refl)

-- behind a name of whose stream nothing is noted any more
pub next-named : (n : ChunkForwardTsnStream) (names : List ChunkForwardTsnStream) (ns ms : List (Option OrderedSkips)) (numbers : List ℕ)
    → AreNamed (n ∷ names) ns numbers → ((p : ℕ) (s : OrderedSkips) → slice_get ms p ≡ Some (Some s)
    → (slice_get ns p ≡ Some (Some s)) × (slice_get numbers p ≡ Some n.identifier → ⊥)) → AreNamed names ms numbers
next-named n names ns ms numbers named h = λ p s e. let was = h p s e in by p was.1 (slice_get numbers p) refl (named p s was.0)
  where
    by : (p : ℕ) → (slice_get numbers p ≡ Some n.identifier → ⊥) → (o : Option ℕ) → slice_get numbers p ≡ o → is_named (n ∷ names) o ≡ true
        → is_named names o ≡ true
    by p other None e t = t
    by p other (Some k) e t = ap (λ b. b || is_named names (Some k)) (sym (ne_eqb k n.identifier (λ z. other (e ∙ ap Some z)))) ∙ t

none-set : (ns : List (Option OrderedSkips)) (k : ℕ) (s : OrderedSkips) → slice_get (slice_set ns k None) k ≡ Some (Some s) → ⊥
none-set [] k s e = absurd (cc)
none-set (n ∷ ns) zero s e = absurd (cc)
none-set (n ∷ ns) (suc k) s e = none-set ns k s e

-- since what was noted of it is made now
pub taken-named : (n : ChunkForwardTsnStream) (names : List ChunkForwardTsnStream) (ns : List (Option OrderedSkips)) (numbers : List ℕ) (k : ℕ)
    → AreNamed (n ∷ names) ns numbers → IsOnlyPlace n.identifier numbers k → AreNamed names (slice_set ns k None) numbers
taken-named n names ns numbers k named only = next-named n names ns (slice_set ns k None) numbers named
    (λ p s e. by_same p k (λ z. absurd (none-set ns k s (ap (slice_get (slice_set ns k None)) (sym z) ∙ e)))
    (λ ne t. (sym (set-there ns k p None ne) ∙ e, λ h. ne (only.only p h))))

-- or since nothing was
pub other-named : (n : ChunkForwardTsnStream) (names : List ChunkForwardTsnStream) (ns : List (Option OrderedSkips)) (numbers : List ℕ)
    → AreNamed (n ∷ names) ns numbers → ((p : ℕ) (s : OrderedSkips) → slice_get ns p ≡ Some (Some s) → slice_get numbers p ≡ Some n.identifier → ⊥)
    → AreNamed names ns numbers
other-named n names ns numbers named h = next-named n names ns ns numbers named (λ p s e. (e, h p s e))

pub none-named : (ns : List (Option OrderedSkips)) (numbers : List ℕ) → AreNamed [] ns numbers → AreNone ns
none-named ns numbers named = λ p s e. by (slice_get numbers p) (named p s e)
  where
    by : (o : Option ℕ) → is_named [] o ≡ true → ⊥
    by None t = true≢false (sym t)
    by (Some k) t = true≢false (sym t)

-- ## What is still to be looked at

abbrev note_walk : Option OrderedSkips → InboundStream → ℕ
note_walk None l = 0
note_walk (Some s) l = ordered_walk l

abbrev pub pending : List (Option OrderedSkips) → List InboundStream → ℕ
pending [] ls = 0
pending (n ∷ ns) [] = 0
pending (n ∷ ns) (l ∷ ls) = note_walk n l + pending ns ls

pub pending-less : (ns : List (Option OrderedSkips)) (ls : List InboundStream) (p : ℕ) (s : OrderedSkips) (y d : InboundStream) → slice_get ns p ≡ Some (Some s)
    → p < length ls → pending (slice_set ns p None) (slice_set ls p y) + ordered_walk (slice_index_or ls p d) ≡ pending ns ls
pending-less [] ls p s y d h b = absurd (cc)
pending-less (n ∷ ns) [] p s y d h b = absurd (omega (arith, b))
pending-less (n ∷ ns) (l ∷ ls) zero s y d h b = let e = ap (λ o. note_walk o l) (some-same h) in omega (arith, e)
pending-less (n ∷ ns) (l ∷ ls) (suc p) s y d h b = let ih = pending-less ns ls p s y d h (omega (arith, b)) in omega (arith, ih)

pub pending-named : (names : List ChunkForwardTsnStream) (ns : List (Option OrderedSkips)) (ls : List InboundStream) → AreNamed names ns (numbers_of ls)
    → pending ns ls ≤ sum_by ordered_walk (named_streams names ls)
pending-named names [] ls named = omega arith
pending-named names (n ∷ ns) [] named = omega arith
pending-named names (n ∷ ns) (l ∷ ls) named = by n (is_named names (Some (number l))) (λ s e. named 0 s (ap Some e))
    (pending-named names ns ls (λ p s e. named (suc p) s e))
  where
    by : (o : Option OrderedSkips) (b : Bool) → ((s : OrderedSkips) → o ≡ Some s → b ≡ true) → pending ns ls ≤ sum_by ordered_walk (named_streams names ls)
        → note_walk o l + pending ns ls ≤ sum_by ordered_walk (if b then l ∷ named_streams names ls else named_streams names ls)
    by None true h ih = let a = sum_by-cons ordered_walk l (named_streams names ls) in omega (arith, a, ih)
    by None false h ih = omega (arith, ih)
    by (Some s) true h ih = let a = sum_by-cons ordered_walk l (named_streams names ls) in omega (arith, a, ih)
    by (Some s) false h ih = absurd (true≢false (sym (h s refl)))
