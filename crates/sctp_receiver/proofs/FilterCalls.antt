-- The calls of a filter of TSNs.
use Rattle.sctp_receiver.proofs.Names.{◌≡◌, ℕ, suc, ◌<◌, ◌^◌, true, false, List, [], ◌∷◌, ◌++◌, length, refl, ap, sym, ◌∙◌, arith, ◌==◌, ◌||◌, list_any}
use Rattle.sctp_receiver.proofs.Names.{nat_tests, same-is, fails, neither, insert_before, advance_over, Seen, distance, comes_before, at_or_before}
use Rattle.sctp_receiver.proofs.Names.{following_tsn, after_one, Run, Filter, rise_beyond, has_come, is_opposite, with_tsn, AreRuns, tsns_from, tsns_of}
use Rattle.sctp_receiver.proofs.Names.{subst, count_of_runs}
use Rattle.sctp_receiver.specs.TsnFilter.{HasRoomFor}
use Rattle.sctp_receiver.proofs.RunBlocks.{run-count}
use Rattle.sctp_receiver.proofs.RunMoves.{past, all-past}
use Rattle.sctp_receiver.proofs.TsnLists.{IsStep, beyond, expected-absent, expected-after, stays, moves}
use Rattle.sctp_receiver.proofs.TsnRuns.{runs-rise}

-- a filter of these parts
abbrev pub filter_in : ℕ → List ℕ → List ℕ → ℕ → Filter
filter_in c beyond duplicates room = record { cumulative_tsn = c; beyond = beyond; duplicates = duplicates; room = room }

pub come-expected : (c : ℕ) (rs : List Run) (duplicates : List ℕ) (room : ℕ) → c < 2 ^ 32 → AreRuns c 0 rs
    → has_come (following_tsn c) (filter_in c (tsns_of rs) duplicates room) ≡ false
come-expected c rs duplicates room lt are =
    ap (λ a. a || list_any (λ u. u == following_tsn c) (tsns_of rs)) (expected-after c lt)
    ∙ expected-absent c 1 (tsns_of rs) lt (omega arith) (runs-rise c 0 rs lt are)

pub same-empty : (rs : List Run) → (length rs == 0) ≡ (length (tsns_of rs) == 0)
same-empty [] = refl
same-empty (r ∷ rs) = some (length rs) ∙ sym (some (length (tsns_from (following_tsn r.first) (distance r.first r.last) ++ tsns_of rs)))
  where
    some : (n : ℕ) → (suc n == 0) ≡ false
    some n = grind (arith, nat_tests)

-- the one that is expected next comes
pub next-is : (c t r was room : ℕ) (ts now duplicates : List ℕ) → c < 2 ^ 32 → t ≡ following_tsn c → rise_beyond c 1 ts ≡ true
    → advance_over t (past t ts) ≡ record { cum = r; held = now }
    → filter_in r now duplicates room ≡ record (with_tsn t (filter_in c ts duplicates was)) { room = room }
next-is c t r was room ts now duplicates lt is rise moved =
    let one = after_one c lt in
    let none = all-past c (following_tsn c) 1 ts lt (omega arith) (omega (arith, one)) rise in
    ap (λ (s : Seen). filter_in s.cum s.held duplicates room) (sym moved ∙ ap (λ u. advance_over u (past u ts)) is
    ∙ ap (advance_over (following_tsn c)) none ∙ sym (moves c ts lt rise) ∙ ap (λ u. advance_over c (insert_before comes_before u ts)) (sym is))

-- another one comes
pub put-beyond : (c t was room : ℕ) (ts now duplicates : List ℕ) → c < 2 ^ 32 → rise_beyond c 1 now ≡ true → now ≡ insert_before comes_before t ts
    → filter_in c now duplicates room ≡ record (with_tsn t (filter_in c ts duplicates was)) { room = room }
put-beyond c t was room ts now duplicates lt rise is =
    ap (λ (s : Seen). filter_in s.cum s.held duplicates room) (sym (stays c now lt rise) ∙ ap (advance_over c) is)

-- where it lies
pub lies-beyond : (c t room : ℕ) (ts duplicates : List ℕ) (v : Filter) → filter_in c ts duplicates room ≡ v → c < 2 ^ 32 → t < 2 ^ 32 → has_come t v ≡ false
    → is_opposite t v ≡ false → (t ≡ following_tsn c → ⊥) → IsStep c 1 t
lies-beyond c t room ts duplicates v view hc ht new near ne =
    let new-in : has_come t (filter_in c ts duplicates room) ≡ false = ap (has_come t) view ∙ new in
    let near-in : is_opposite t (filter_in c ts duplicates room) ≡ false = ap (is_opposite t) view ∙ near in
    let differs : (t == following_tsn c) ≡ false = fails (t == following_tsn c) (λ e. ne (same-is t (following_tsn c) e)) in
    beyond c t hc ht (neither (at_or_before t c) (list_any (λ u. u == t) ts) new-in).0 near-in differs

-- there is a place for its run
pub has-room : (c t room : ℕ) (rs : List Run) (duplicates : List ℕ) (v : Filter) → filter_in c (tsns_of rs) duplicates room ≡ v → c < 2 ^ 32
    → AreRuns c 0 rs → HasRoomFor t v → (t ≡ following_tsn c → ⊥) → length rs < room
has-room c t room rs duplicates v view hc are has ne =
    let differs : (t == following_tsn c) ≡ false = fails (t == following_tsn c) (λ e. ne (same-is t (following_tsn c) e)) in
    let n = run-count c rs hc are in
    let h : count_of_runs c (tsns_of rs) < room = subst (HasRoomFor t) (sym view) has differs in
    omega (arith, n, h)
