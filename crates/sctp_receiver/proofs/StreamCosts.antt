-- What the streams of a receiver cost, and what the calls make of that.
use Rattle.sctp_receiver.proofs.Names.{◌≡◌, ℕ, ◌+◌, ◌*◌, ◌≤◌, Bool, true, false, List, [], ◌∷◌, ◌++◌, length, map, Some, refl, ap, sym, ◌∙◌, arith, subst}
use Rattle.sctp_receiver.proofs.Names.{if◌then◌else◌, find, not, ⊤, ◌==◌, ◌&&◌, ◌||◌, is_some, list_any, sum_by, filter, sum_by-cons, sum_by-append, eq-eqb}
use Rattle.sctp_receiver.proofs.Names.{change_where, same-is, and, both, fails, not_both, ChunkPayloadData, ChunkForwardTsnStream, ChunkSet, set_chunks}
use Rattle.sctp_receiver.proofs.Names.{Reassembly, ReassemblyState, held_chunks, neither, InboundStream, number, numbers_of, has_number, new_stream, with_queue}
use Rattle.sctp_receiver.proofs.Names.{Pushes, PushesAs, stream_read, ssn_forwarded, named_forwarded, unassembled_forwarded, chunk_cost, cost_of, stream_reset}
use Rattle.sctp_receiver.proofs.Names.{incomplete_forwarded}
use Rattle.sctp_reassembly.specs.reassembly_queue.ReassemblyQueue.{is_kept, count_up}
use Rattle.sctp_receiver.proofs.Weights as weights
use Rattle.sctp_receiver.proofs.Weights.{weight}

-- ## Chunks and bytes of a queue

-- each chunk counts one
ones : (xs : List ChunkPayloadData) → sum_by (λ x. 1) xs ≡ length xs
ones [] = refl
ones (x ∷ xs) = let e = sum_by-cons (λ (y : ChunkPayloadData). 1) x xs in let ih = ones xs in omega arith

sets-ones : (sets : List ChunkSet) → sum_by (weights.set_weight (λ x. 1)) sets ≡ set_chunks sets
sets-ones [] = refl
sets-ones (s ∷ sets) =
    let a = sum_by-cons (weights.set_weight (λ x. 1)) s sets in
    let b = sum_by-cons (λ (set : ChunkSet). length set.chunks) s sets in
    let o = ones s.chunks in
    let ih = sets-ones sets in
    omega arith

chunks-weigh : (q : Reassembly) → weight (λ x. 1) q ≡ held_chunks q
chunks-weigh q = let a = sets-ones q.ordered in let b = sets-ones q.unordered in let o = ones q.unassembled in omega arith

pushed-chunks : (c : ChunkPayloadData) (complete : Bool) (old new : ReassemblyState) → Pushes c complete old new
    → held_chunks new.held ≤ held_chunks old.held + 1
pushed-chunks c complete old new p =
    let h = weights.pushed (λ x. 1) c complete old new p in
    let a = chunks-weigh old.held in
    let b = chunks-weigh new.held in
    omega arith

pushed-bytes : (c : ChunkPayloadData) (complete : Bool) (old new : ReassemblyState) → Pushes c complete old new → new.bytes ≤ old.bytes + length c.user_data
pushed-bytes c complete old new p = by c.unordered p
  where
    kept : (b : Bool) → (if b then count_up old.bytes (length c.user_data) else old.bytes) ≤ old.bytes + length c.user_data
    kept true = omega arith
    kept false = omega arith

    by : (b : Bool) → PushesAs b c complete old new → new.bytes ≤ old.bytes + length c.user_data
    by false e = let is = ap (λ (q : ReassemblyState). q.bytes) e.0 in let k = kept (is_kept c old.held) in omega arith
    by true e = let is = ap (λ (q : ReassemblyState). q.bytes) e.1 in omega arith

-- ## What a stream costs, one way or another

-- a cost of streams of which a chunk adds at most so much, and no other call adds any
pub record IsCost (m : InboundStream → ℕ) (fits : ChunkPayloadData → Type 0) (most : ℕ) : Type 0 where
  pub fresh : (s max : ℕ) → m (new_stream s max) ≡ 0
  pub pushed : (c : ChunkPayloadData) (complete : Bool) (l : InboundStream) (q : ReassemblyState) → fits c → Pushes c complete l.queue q
      → m (with_queue q l) ≤ m l + most
  pub read : (l : InboundStream) → m (stream_read l) ≤ m l
  pub named : (ssn : ℕ) (l : InboundStream) → m (ssn_forwarded ssn l) ≤ m l
  pub unassembled : (tsn : ℕ) (l : InboundStream) → m (unassembled_forwarded tsn l) ≤ m l
  pub reset : (last : ℕ) (l : InboundStream) → m (stream_reset last l) ≤ m l
  pub incomplete : (tsn : ℕ) (l : InboundStream) → m (incomplete_forwarded tsn l) ≤ m l
  pub within : (l : InboundStream) → m l ≤ cost_of l

read-chunks : (q : ReassemblyState) (l : InboundStream) → held_chunks (stream_read l).queue.held ≤ held_chunks l.queue.held
read-chunks q l = let h = weights.read (λ x. 1) l.queue.held in let a = chunks-weigh l.queue.held in let b = chunks-weigh (stream_read l).queue.held in
    omega arith

named-chunks : (ssn : ℕ) (l : InboundStream) → held_chunks (ssn_forwarded ssn l).queue.held ≤ held_chunks l.queue.held
named-chunks ssn l = let h = weights.named (λ x. 1) ssn l.queue in let a = chunks-weigh l.queue.held in let b = chunks-weigh (ssn_forwarded ssn l).queue.held in
    omega arith

unassembled-chunks : (tsn : ℕ) (l : InboundStream) → held_chunks (unassembled_forwarded tsn l).queue.held ≤ held_chunks l.queue.held
unassembled-chunks tsn l = let h = weights.unassembled (λ x. 1) tsn l.queue in let a = chunks-weigh l.queue.held in
    let b = chunks-weigh (unassembled_forwarded tsn l).queue.held in omega arith

reset-chunks : (last : ℕ) (l : InboundStream) → held_chunks (stream_reset last l).queue.held ≤ held_chunks l.queue.held
reset-chunks last l = let h = weights.reset (λ x. 1) last l.queue in let a = chunks-weigh l.queue.held in
    let b = chunks-weigh (stream_reset last l).queue.held in omega arith

incomplete-chunks : (tsn : ℕ) (l : InboundStream) → held_chunks (incomplete_forwarded tsn l).queue.held ≤ held_chunks l.queue.held
incomplete-chunks tsn l = let h = weights.incomplete (λ x. 1) tsn l.queue in let a = chunks-weigh l.queue.held in
    let b = chunks-weigh (incomplete_forwarded tsn l).queue.held in omega arith

-- for its chunks alone
abbrev pub chunks_cost : InboundStream → ℕ
chunks_cost l = chunk_cost * held_chunks l.queue.held

pub chunks-cost : IsCost chunks_cost (λ c. ⊤) chunk_cost
chunks-cost = record {
  fresh = λ s max. refl;
  pushed = λ c complete l q fits p. let h = pushed-chunks c complete l.queue q p in omega arith;
  read = λ l. let h = read-chunks l.queue l in omega arith;
  named = λ ssn l. let h = named-chunks ssn l in omega arith;
  unassembled = λ tsn l. let h = unassembled-chunks tsn l in omega arith;
  reset = λ last l. let h = reset-chunks last l in omega arith;
  incomplete = λ tsn l. let h = incomplete-chunks tsn l in omega arith;
  within = λ l. omega arith;
}

pub all-cost : (most : ℕ) → IsCost cost_of (λ c. length c.user_data ≤ most) (most + chunk_cost)
all-cost most = record {
  fresh = λ s max. refl;
  pushed = λ c complete l q fits p. let h = pushed-chunks c complete l.queue q p in let b = pushed-bytes c complete l.queue q p in omega arith;
  read = λ l. let h = read-chunks l.queue l in omega arith;
  named = λ ssn l. let h = named-chunks ssn l in omega arith;
  unassembled = λ tsn l. let h = unassembled-chunks tsn l in omega arith;
  reset = λ last l. let h = reset-chunks last l in omega arith;
  incomplete = λ tsn l. let h = incomplete-chunks tsn l in omega arith;
  within = λ l. omega arith;
}

-- ## All streams

-- no two have one number
abbrev pub are_apart : List ℕ → Bool
are_apart [] = true
are_apart (n ∷ ns) = not (list_any (λ k. k == n) ns) && are_apart ns

turned : (b : Bool) → not b ≡ true → b ≡ false
turned true h = absurd (not_both h)
turned false h = refl

pub apart-of : (n : ℕ) (ns : List ℕ) → are_apart (n ∷ ns) ≡ true → (list_any (λ k. k == n) ns ≡ false) × (are_apart ns ≡ true)
apart-of n ns h = let p = both (not (list_any (λ k. k == n) ns)) (are_apart ns) h in (turned (list_any (λ k. k == n) ns) p.0, p.1)

module _ (m : InboundStream → ℕ) where
  pub changed-cost : (p : InboundStream → Bool) (f : InboundStream → InboundStream) → ((l : InboundStream) → m (f l) ≤ m l) → (ls : List InboundStream)
      → sum_by m (change_where p f ls) ≤ sum_by m ls
  changed-cost p f less [] = omega arith
  changed-cost p f less (l ∷ ls) = by (p l) (changed-cost p f less ls)
    where
      by : (b : Bool) → sum_by m (change_where p f ls) ≤ sum_by m ls → sum_by m ((if b then f l else l) ∷ change_where p f ls) ≤ sum_by m (l ∷ ls)
      by true ih = let a = sum_by-cons m (f l) (change_where p f ls) in let b = sum_by-cons m l ls in let h = less l in omega arith
      by false ih = let a = sum_by-cons m l (change_where p f ls) in let b = sum_by-cons m l ls in omega arith

  pub mapped-cost : (f : InboundStream → InboundStream) → ((l : InboundStream) → m (f l) ≤ m l) → (ls : List InboundStream) → sum_by m (map f ls) ≤ sum_by m ls
  mapped-cost f less [] = omega arith
  mapped-cost f less (l ∷ ls) = let a = sum_by-cons m (f l) (map f ls) in let b = sum_by-cons m l ls in let h = less l in let ih = mapped-cost f less ls in
      omega arith

  pub named-cost : ((ssn : ℕ) (l : InboundStream) → m (ssn_forwarded ssn l) ≤ m l) → (ns : List ChunkForwardTsnStream) (ls : List InboundStream)
      → sum_by m (named_forwarded ns ls) ≤ sum_by m ls
  named-cost less [] ls = omega arith
  named-cost less (n ∷ ns) ls =
      let a = changed-cost (has_number n.identifier) (ssn_forwarded n.sequence) (less n.sequence) ls in
      let b = named-cost less ns (change_where (has_number n.identifier) (ssn_forwarded n.sequence) ls) in
      omega arith

  pub kept-cost : (p : InboundStream → Bool) (ls : List InboundStream) → sum_by m (filter p ls) ≤ sum_by m ls
  kept-cost p ls = weights.fewer (λ x. 0) m p ls

  pub opened-cost : (ls : List InboundStream) (l : InboundStream) → m l ≡ 0 → sum_by m (ls ++ l ∷ []) ≡ sum_by m ls
  opened-cost ls l none = let a = sum_by-append m ls (l ∷ []) in let b = sum_by-cons m l [] in omega arith

  -- where no stream has the number, none is changed
  none-changed : (s : ℕ) (f : InboundStream → InboundStream) (ls : List InboundStream) → list_any (λ k. k == s) (numbers_of ls) ≡ false
      → sum_by m (change_where (has_number s) f ls) ≡ sum_by m ls
  none-changed s f [] gone = refl
  none-changed s f (l ∷ ls) gone = by (number l == s) gone (λ e. none-changed s f ls e)
    where
      by : (b : Bool) → (b || list_any (λ k. k == s) (numbers_of ls)) ≡ false
          → (list_any (λ k. k == s) (numbers_of ls) ≡ false → sum_by m (change_where (has_number s) f ls) ≡ sum_by m ls)
          → sum_by m ((if b then f l else l) ∷ change_where (has_number s) f ls) ≡ sum_by m (l ∷ ls)
      by true e ih = absurd (not_both (sym e))
      by false e ih = let a = sum_by-cons m l (change_where (has_number s) f ls) in let b = sum_by-cons m l ls in let h = ih e in omega arith

  -- the one with the number costs at most so much more
  pub one-changed : (s most : ℕ) (f : InboundStream → InboundStream) (x : InboundStream) (ls : List InboundStream) → are_apart (numbers_of ls) ≡ true
      → find (has_number s) ls ≡ Some x → m (f x) ≤ m x + most → sum_by m (change_where (has_number s) f ls) ≤ sum_by m ls + most
  one-changed s most f x [] apart e less = cc
  one-changed s most f x (l ∷ ls) apart e less = by (number l == s) refl e (λ h. one-changed s most f x ls rest.1 h less)
    where
      rest : (list_any (λ k. k == number l) (numbers_of ls) ≡ false) × (are_apart (numbers_of ls) ≡ true)
      rest = apart-of (number l) (numbers_of ls) apart

      by : (b : Bool) → (number l == s) ≡ b → (if b then Some l else find (has_number s) ls) ≡ Some x
          → (find (has_number s) ls ≡ Some x → sum_by m (change_where (has_number s) f ls) ≤ sum_by m ls + most)
          → sum_by m ((if b then f l else l) ∷ change_where (has_number s) f ls) ≤ sum_by m (l ∷ ls) + most
      by true is e more =
          let same : l ≡ x = cc in
          let here : m (f l) ≤ m l + most = subst (λ y. m (f y) ≤ m y + most) (sym same) less in
          let others = none-changed s f ls (ap (λ n. list_any (λ k. k == n) (numbers_of ls)) (sym (same-is (number l) s is)) ∙ rest.0) in
          let a = sum_by-cons m (f l) (change_where (has_number s) f ls) in
          let b = sum_by-cons m l ls in
          omega arith
      by false is e more =
          let ih = more e in
          let a = sum_by-cons m l (change_where (has_number s) f ls) in
          let b = sum_by-cons m l ls in
          omega arith

-- ## Numbers stay apart

pub or_false : (a b : Bool) → a ≡ false → b ≡ false → (a || b) ≡ false
or_false a b x y = rw (x, y) refl

pub any-kept : (n : ℕ) (p : InboundStream → Bool) (ls : List InboundStream) → list_any (λ k. k == n) (numbers_of ls) ≡ false
    → list_any (λ k. k == n) (numbers_of (filter p ls)) ≡ false
any-kept n p [] h = refl
any-kept n p (l ∷ ls) h = by (p l) (any-kept n p ls others.1)
  where
    others : (number l == n) ≡ false × (list_any (λ k. k == n) (numbers_of ls) ≡ false)
    others = neither (number l == n) (list_any (λ k. k == n) (numbers_of ls)) h

    by : (b : Bool) → list_any (λ k. k == n) (numbers_of (filter p ls)) ≡ false
        → list_any (λ k. k == n) (numbers_of (if b then l ∷ filter p ls else filter p ls)) ≡ false
    by true ih = or_false (number l == n) (list_any (λ k. k == n) (numbers_of (filter p ls))) others.0 ih
    by false ih = ih

pub kept-apart : (p : InboundStream → Bool) (ls : List InboundStream) → are_apart (numbers_of ls) ≡ true → are_apart (numbers_of (filter p ls)) ≡ true
kept-apart p [] h = refl
kept-apart p (l ∷ ls) h = by (p l) (kept-apart p ls parts.1)
  where
    parts : (list_any (λ k. k == number l) (numbers_of ls) ≡ false) × (are_apart (numbers_of ls) ≡ true)
    parts = apart-of (number l) (numbers_of ls) h

    by : (b : Bool) → are_apart (numbers_of (filter p ls)) ≡ true → are_apart (numbers_of (if b then l ∷ filter p ls else filter p ls)) ≡ true
    by true ih = and _ _ (ap not (any-kept (number l) p ls parts.0)) ih
    by false ih = ih

any-more : (n : ℕ) (ls : List InboundStream) (x : InboundStream) → list_any (λ k. k == n) (numbers_of ls) ≡ false → (number x == n) ≡ false
    → list_any (λ k. k == n) (numbers_of (ls ++ x ∷ [])) ≡ false
any-more n [] x h e = or_false (number x == n) false e refl
any-more n (l ∷ ls) x h e =
    let others = neither (number l == n) (list_any (λ k. k == n) (numbers_of ls)) h in
    or_false (number l == n) (list_any (λ k. k == n) (numbers_of (ls ++ x ∷ []))) others.0 (any-more n ls x others.1 e)

-- one more, with a number that none has
pub more-apart : (ls : List InboundStream) (x : InboundStream) → are_apart (numbers_of ls) ≡ true → is_some (find (has_number (number x)) ls) ≡ false
    → are_apart (numbers_of (ls ++ x ∷ [])) ≡ true
more-apart [] x h none = refl
more-apart (l ∷ ls) x h none = by (number l == number x) refl none (λ e. more-apart ls x parts.1 e)
  where
    parts : (list_any (λ k. k == number l) (numbers_of ls) ≡ false) × (are_apart (numbers_of ls) ≡ true)
    parts = apart-of (number l) (numbers_of ls) h

    by : (b : Bool) → (number l == number x) ≡ b → is_some (if b then Some l else find (has_number (number x)) ls) ≡ false
        → (is_some (find (has_number (number x)) ls) ≡ false → are_apart (numbers_of (ls ++ x ∷ [])) ≡ true)
        → are_apart (number l ∷ numbers_of (ls ++ x ∷ [])) ≡ true
    by true e none more = absurd (not_both (sym none))
    by false e none more =
        let other : (number x == number l) ≡ false = fails (number x == number l)
        (λ t. not_both (sym e ∙ eq-eqb (number l) (number x) (sym (same-is (number x) (number l) t)))) in
        and _ _ (ap not (any-more (number l) ls x parts.0 other)) (more none)
