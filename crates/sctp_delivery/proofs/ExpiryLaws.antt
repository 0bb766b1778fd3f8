-- Only what may expire expires, and each that is due.
use Rattle.sctp_delivery.proofs.Names.{common_steps, ◌≡◌, ℕ, ◌+◌, ◌<◌, ◌≤◌, ◌^◌, Bool, true, false, List, [], ◌∷◌, length, map, refl, ap, sym, subst, ◌∙◌}
use Rattle.sctp_delivery.proofs.Names.{arith, not, Option, Some, None, is_some, ◌++◌, inr, ◌==◌, ◌||◌, if◌then◌else◌, ⊤, ◌&&◌, option_to_list, nat_eq, filter}
use Rattle.sctp_delivery.proofs.Names.{list_any, nat_tests, or-left, or-right, same-is, same-yes, fails, not_both, and, both, tsn, ChunkPayloadData, IsRunFrom}
use Rattle.sctp_delivery.proofs.Names.{is_dcep, abandoned_of, expiring_tail, is_expired, is_expired_tail, is_late, late_tsns, message_of, passing, Pending}
use Rattle.sctp_delivery.proofs.Names.{next_pending, Flight, message_to_abandon, abandoned_at, abandoned_with, late_order, leaving_each, worn_order, is_worn}
use Rattle.sctp_delivery.proofs.Names.{worn_tsns, Transmission, found-passes, abandoned_by, abandoned_in, AfterEachFitRun, Sending, at_first, deadline_of}
use Rattle.sctp_delivery.proofs.Names.{modes_from, numbered_in, reliable_mode, Modes, modes_after, SenderCall, append_assoc, append-nil, distance, Reliable}
use Rattle.sctp_delivery.proofs.Names.{tsns_given, Call, RunsTo, Session, at_start, of_receiver, of_sender}
use Rattle.std.proofs.Common.{◌⊎◌}
use Rattle.sctp_delivery.proofs.Every.{Every, every-of, every-passing, every-both, all-of-every, every-changed, every-found, every-inserted, every-joined}
use Rattle.sctp_delivery.proofs.Every.{every-all}
use Rattle.sctp_delivery.proofs.FewInFlight.{all-regular, regular-first}
use Rattle.sctp_delivery.proofs.GivenTsns.{IsPast, rest-run, IsNumbered}
use Rattle.sctp_delivery.proofs.TsnPlaces.{same-place, base}
use Rattle.sctp_data.specs.Reliability.{is_past}
use Rattle.sctp_sender.specs.Late.{tail_first}
use Rattle.sctp_sender.specs.Resending.{is_over, is_to_resend, limit_of, rexmit_limit}
use Rattle.sctp_delivery.specs.Expiries.{EachDueExpires, IsReason, OnlyTheDueExpire, is_due_in_front, is_late_as_written, is_lifetime_over, is_limit_passed}
use Rattle.sctp_delivery.specs.Expiries.{is_sent_too_often, is_worn_as_written, AfterEachRunOfAsked, IsEachReliableReadInTheEnd, asked_by, asked_in}
use Rattle.sctp_delivery.specs.Modes.{AfterEachRunOfFewInFlight, deadline_from}
use Rattle.sctp_delivery.specs.SenderCalls as outgoing
use Rattle.sctp_delivery.proofs.AbandonedMessages.{numbers, numbers-append, gone-left, gone-right, by-below}
use Rattle.sctp_delivery.proofs.FilledQueues.{IsFilled}
use Rattle.sctp_delivery.proofs.ModeSessions.{said-of-few, HasSaidOfFew, few-start, none-given, said-then, still-then, said-in, KeepsModes, keeps-after}
use Rattle.sctp_delivery.proofs.ModeQueues.{AreModed, IsFlying, IsInMode, IsWaiting, numbered-at}
use Rattle.sctp_delivery.proofs.QueueChunks.{AllWait, peeked}
use Rattle.sctp_delivery.proofs.Calls.{length-forgotten}
use Rattle.sctp_delivery.proofs.Delivered.{next_tsn}
use Rattle.sctp_delivery.proofs.Numbers.{number_of}
use Rattle.sctp_delivery.proofs.OthersOnce.{others-read}
use Rattle.sctp_delivery.proofs.PassedMessages.{is_gone}

-- # In a run of TSNs the chunk with a TSN that was listed is the one for which it was listed

-- the TSN is one of these
abbrev pub is_one : List ℕ → ℕ → Bool
is_one ts t = list_any (λ u. u == t) ts

pub each-one : (ts : List ℕ) → Every (λ t. is_one ts t ≡ true) ts
each-one [] = tt
each-one (t ∷ ts) = grind (arith, nat_tests, every-of, or-left, or-right, same-yes, each-one ts)

-- each chunk has a place past a
each-past : (b a n : ℕ) (cs : List ChunkPayloadData) → IsRunFrom (tsn b (a + 1)) cs → a + length cs ≤ n → Every (λ c. IsPast b a n c.tsn) cs
each-past b a n [] run le = tt
each-past b a n (c ∷ cs) run le =
    let r = rest-run b a c cs run in
    grind (arith, nat_tests, every-of, each-past b (a + 1) n cs r.1 (omega (arith, le)))

-- none of these has another TSN
others : (b a n t : ℕ) (cs : List ChunkPayloadData) → n < 2 ^ 31 → t ≡ tsn b a → a ≤ n → Every (λ c. IsPast b a n c.tsn) cs
    → Every (λ (c : ChunkPayloadData). (c.tsn == t) ≡ false) cs
others b a n t cs few is le h = grind (arith, nat_tests, every-of, same-is, same-place)

none-one : (t : ℕ) (cs : List ChunkPayloadData) → Every (λ (c : ChunkPayloadData). (c.tsn == t) ≡ false) cs
    → is_one (map (λ (c : ChunkPayloadData). c.tsn) cs) t ≡ false
none-one t [] h = refl
none-one t (c ∷ cs) h = ap (λ b. b || is_one (map (λ (x : ChunkPayloadData). x.tsn) cs) t) h.0 ∙ none-one t cs h.1

module _ (p : ChunkPayloadData → Bool) (b n : ℕ) (few : n < 2 ^ 31) where
  abbrev pub listed : List ChunkPayloadData → List ℕ
  listed cs = map (λ c. c.tsn) (filter p cs)

  abbrev IsItsOwn : List ℕ → ChunkPayloadData → Type 0
  IsItsOwn ts c = is_one ts c.tsn ≡ true → p c ≡ true

  pub own-listed : (a : ℕ) (cs : List ChunkPayloadData) → IsRunFrom (tsn b (a + 1)) cs → a + length cs ≤ n → Every (IsItsOwn (listed cs)) cs
  own-listed a [] run le = tt
  own-listed a (c ∷ cs) run le = by (p c) refl (own-listed (a + 1) cs r.1 (omega (arith, le)))
    where
      r : (c.tsn ≡ tsn b (a + 1)) × IsRunFrom (tsn b (a + 1 + 1)) cs
      r = rest-run b a c cs run

      apart : Every (λ (x : ChunkPayloadData). (x.tsn == c.tsn) ≡ false) cs
      apart = others b (a + 1) n c.tsn cs few r.0 (omega (arith, le)) (each-past b (a + 1) n cs r.1 (omega (arith, le)))

      turned : (x : ChunkPayloadData) → (x.tsn == c.tsn) ≡ false → (c.tsn == x.tsn) ≡ false
      turned x e = fails (c.tsn == x.tsn) (λ h.
          not_both (sym e ∙ subst (λ t. (t == c.tsn) ≡ true) (same-is c.tsn x.tsn h) (same-yes c.tsn)))

      both-so : (ds : List ChunkPayloadData) → Every (λ (x : ChunkPayloadData). (x.tsn == c.tsn) ≡ false) ds → Every (IsItsOwn (listed cs)) ds
          → Every (IsItsOwn (c.tsn ∷ listed cs)) ds
      both-so ds h2 h3 = grind (arith, nat_tests, every-both, turned)

      by : (q : Bool) → p c ≡ q → Every (IsItsOwn (listed cs)) cs
          → Every (IsItsOwn (map (λ (x : ChunkPayloadData). x.tsn) (if q then c ∷ filter p cs else filter p cs))) (c ∷ cs)
      by true e ih = (λ h. e, both-so cs apart ih)
      by false e ih = grind (arith, nat_tests, apart, every-passing, none-one, not_both)

-- ## One of all

-- what is so of a chunk of the list is so of one of the list
pub each-any : {A : Type 0} (q : A → A → Bool) (xs : List A) → Every (λ x. q x x ≡ true → list_any (q x) xs ≡ true) xs
each-any q [] = tt
each-any q (x ∷ xs) = grind (arith, nat_tests, every-of, or-left, or-right, each-any q xs)

-- two tests that agree on each leave the same
pub same-left : {A : Type 0} (p q : A → Bool) (xs : List A) → Every (λ x. p x ≡ q x) xs → filter p xs ≡ filter q xs
same-left p q [] h = refl
same-left p q (x ∷ xs) h =
    ap (λ b. if b then x ∷ filter p xs else filter p xs) h.0 ∙ ap (λ ys. if q x then x ∷ ys else ys) (same-left p q xs h.1)

-- # Only what may expire expires, and each that is due

-- ## One chunk

-- a write in the reliable mode has no lifetime
never : (now : ℕ) (o : Option ℕ) → is_past now (deadline_from reliable_mode o) ≡ false
never now None = refl
never now (Some t) = refl

-- the mode says what the chunk says
module _ (now : ℕ) (w : Sending) (c : ChunkPayloadData) (m : IsInMode w.mode c) where
  pub past-is : c.deadline ≡ deadline_of w → (not (is_dcep c.payload_type) && is_past now c.deadline) ≡ is_lifetime_over now w
  past-is d = grind (arith, nat_tests, never)

  pub worn-is : (count : ℕ) → (not (is_dcep c.payload_type) && is_over count (rexmit_limit c.reliability)) ≡ is_limit_passed count w
  worn-is count = grind (arith, nat_tests)

-- ## In front

module _ (now : ℕ) (ws : List Sending) (q : Pending) (moded : AllWait (IsWaiting ws) q) (filled : AllWait IsFilled q) where
  abbrev over : ChunkPayloadData → Bool
  over c = is_lifetime_over now (numbered_in c.message_id ws)

  first-is : (c : ChunkPayloadData) → next_pending q ≡ Some c → is_expired now c ≡ (c.beginning_fragment && over c)
  first-is c e =
      let h = peeked (IsWaiting ws) q.selected q c e moded in
      let some = peeked IsFilled q.selected q c e filled in
      let full : (length c.user_data == 0) ≡ false = grind (arith, nat_tests, some) in
      ap (λ b. c.beginning_fragment && (not b && (not (is_dcep c.payload_type) && is_past now c.deadline))) full
      ∙ ap (λ b. c.beginning_fragment && b) (past-is now (numbered_in c.message_id ws) c h.0.1 h.1)

  tail-is : (c : ChunkPayloadData) → next_pending q ≡ Some c → is_expired_tail now c ≡ (not c.beginning_fragment && over c)
  tail-is c e =
      let h = peeked (IsWaiting ws) q.selected q c e moded in
      ap (λ b. not c.beginning_fragment && b) (past-is now (numbered_in c.message_id ws) c h.0.1 h.1)

  some-passing : (p : ChunkPayloadData → Bool) (c : ChunkPayloadData) → is_some (if p c then Some c else None) ≡ p c
  some-passing p c = elim (p c) as (λ b. is_some (if b then Some c else None) ≡ b) [ true ↦ refl | false ↦ refl ]

  pub front-goes : (o : Option ChunkPayloadData) → next_pending q ≡ o → is_some (passing (is_expired now) o) ≡ is_due_in_front true now ws o
  front-goes None e = refl
  front-goes (Some c) e = some-passing (is_expired now) c ∙ first-is c e

  pub tail-goes : (o : Option ChunkPayloadData) → next_pending q ≡ o → is_some (passing (is_expired_tail now) o) ≡ is_due_in_front false now ws o
  tail-goes None e = refl
  tail-goes (Some c) e = some-passing (is_expired_tail now) c ∙ tail-is c e

  abbrev Over : ℕ → Type 0
  Over n = is_lifetime_over now (numbered_in n ws) ≡ true

  -- what goes is over
  of-passing : (p : ChunkPayloadData → Bool) (o : Option ChunkPayloadData) → ((c : ChunkPayloadData) → o ≡ Some c → p c ≡ true → over c ≡ true)
      → Every Over (option_to_list (message_of (passing p o)))
  of-passing p o h3 = grind (arith, nat_tests)

  pub front-over : Every Over (option_to_list (message_of (passing (is_expired now) (next_pending q))))
  front-over = of-passing (is_expired now) (next_pending q) (λ c e x. (both c.beginning_fragment (over c) (sym (first-is c e) ∙ x)).1)

  pub tail-over : Every Over (option_to_list (message_of (passing (is_expired_tail now) (next_pending q))))
  tail-over = of-passing (is_expired_tail now) (next_pending q) (λ c e x. (both (not c.beginning_fragment) (over c) (sym (tail-is c e) ∙ x)).1)

-- ## In flight

module _ (ws : List Sending) (n : ℕ) where
  -- a chunk that is not abandoned
  late-same : (now : ℕ) (q : Pending) (c : ChunkPayloadData) → IsFlying ws n c → is_late now q c ≡ is_late_as_written now ws q c
  late-same now q c h = grind (arith, nat_tests)

  worn-same : (c : ChunkPayloadData) → IsFlying ws n c → is_worn c ≡ is_worn_as_written ws c
  worn-same c h = ap (λ b. is_to_resend c && b) (worn-is 0 (numbered_in c.message_id ws) c h.0.1 c.nsent)

  pub late-are : (now : ℕ) (q : Pending) (cs : List ChunkPayloadData) → Every (IsFlying ws n) cs
      → map (λ (c : ChunkPayloadData). c.tsn) (filter (is_late now q) cs) ≡ map (λ (c : ChunkPayloadData). c.tsn) (filter (is_late_as_written now ws q) cs)
  late-are now q cs h =
      ap (map (λ (c : ChunkPayloadData). c.tsn)) (same-left (is_late now q) (is_late_as_written now ws q) cs
      (every-of (IsFlying ws n) (λ c. is_late now q c ≡ is_late_as_written now ws q c) (late-same now q) cs h))

  pub worn-are : (cs : List ChunkPayloadData) → Every (IsFlying ws n) cs
      → map (λ (c : ChunkPayloadData). c.tsn) (filter is_worn cs) ≡ map (λ (c : ChunkPayloadData). c.tsn) (filter (is_worn_as_written ws) cs)
  worn-are cs h =
      ap (map (λ (c : ChunkPayloadData). c.tsn)) (same-left is_worn (is_worn_as_written ws) cs
      (every-of (IsFlying ws n) (λ c. is_worn c ≡ is_worn_as_written ws c) worn-same cs h))

-- ## Messages that are abandoned by TSNs

-- R is so of the message of each chunk that has one of these TSNs and is not abandoned
module _ (R : ℕ → Type 0) (L : List ℕ) where
  abbrev pub IsReady : ChunkPayloadData → Type 0
  IsReady c = c.abandoned ≡ false → is_one L c.tsn ≡ true → R c.message_id

  ready-at : (o : Option ℕ) (tsn : ℕ) (f : Flight) → Every IsReady f.queue.inflight.chunks → Every IsReady (abandoned_of o tsn f.queue).inflight.chunks
  ready-at o tsn f h4 = grind (arith, nat_tests, every-changed, every-inserted, not_both)

  one-answered : (tsn bytes : ℕ) (o : Option ChunkPayloadData) → is_one L tsn ≡ true
      → ((c : ChunkPayloadData) → o ≡ Some c → (c.tsn ≡ tsn) × IsReady c) → Every R (numbers (abandoned_with o bytes))
  one-answered tsn bytes o h4 h5 = grind (arith, nat_tests)

  pub each-answered : (ts : List ℕ) (f : Flight) → Every (λ t. is_one L t ≡ true) ts → Every IsReady f.queue.inflight.chunks
      → Every R (numbers (leaving_each ts f))
  each-answered [] f l h = tt
  each-answered (t ∷ ts) f l h =
      let ih = each-answered ts (abandoned_at t f) l.1 (ready-at (message_to_abandon t f) f.next_tsn f h) in
      grind (arith, nat_tests, every-found, every-joined, found-passes, numbers-append, one-answered, ready-at, same-is, ih)

  -- with the TSN of the message with a tail in front
  pub order-listed : (f : Flight) → Every (λ t. is_one L t ≡ true) (tail_first L f)
  order-listed f = grind (arith, nat_tests, each-one, every-found, every-joined)

-- what is so of each chunk that passes is so of each that is listed
ready : (R : ℕ → Type 0) (p : ChunkPayloadData → Bool) (L : List ℕ) (cs : List ChunkPayloadData)
    → Every (λ (c : ChunkPayloadData). is_one L c.tsn ≡ true → p c ≡ true) cs → Every (λ (c : ChunkPayloadData). p c ≡ true → R c.message_id) cs
    → Every (IsReady R L) cs
ready R p L cs own so =
    every-both (λ c. is_one L c.tsn ≡ true → p c ≡ true) (λ c. p c ≡ true → R c.message_id) (IsReady R L) (λ c i h e l. h (i l)) cs own so

module _ (b most : ℕ) (few : most < 2 ^ 31) (ws : List Sending) (t : Transmission) (h : AreModed ws t.flight.queue)
    (filled : AllWait IsFilled t.flight.queue.pending) (given : IsNumbered b most t.flight) where
  abbrev cs : List ChunkPayloadData
  cs = t.flight.queue.inflight.chunks

  waiting : AllWait (IsWaiting ws) t.flight.queue.pending
  waiting = (h.ordered, h.unordered)

  own : (p : ChunkPayloadData → Bool)
      → Every (λ (c : ChunkPayloadData). is_one (map (λ (x : ChunkPayloadData). x.tsn) (filter p cs)) c.tsn ≡ true → p c ≡ true) cs
  own p = let total = given.total in own-listed p b most few given.acked cs given.run (omega (arith, total))

  late-over : (now : ℕ) → Every (λ (c : ChunkPayloadData). is_late now t.flight.queue.pending c ≡ true
      → is_lifetime_over now (numbered_in c.message_id ws) ≡ true) cs
  late-over now = grind (arith, nat_tests, both, every-of, late-same)

  abbrev Often : ℕ → Type 0
  Often k = is_sent_too_often k (numbered_in k ws) t ≡ true

  worn-often : Every (λ (c : ChunkPayloadData). is_worn c ≡ true → Often c.message_id) cs
  worn-often = by cs h.inflight (each-any (λ c d. (d.message_id == c.message_id) && is_limit_passed d.nsent (numbered_in c.message_id ws)) cs)
    where
      one : (c : ChunkPayloadData) → IsFlying ws t.flight.queue.next_unstarted c → is_worn c ≡ true
          → ((c.message_id == c.message_id) && is_limit_passed c.nsent (numbered_in c.message_id ws)) ≡ true
      one c h2 h3 = grind (arith, nat_tests, and, both, same-yes, worn-same)

      by : (ds : List ChunkPayloadData) → Every (IsFlying ws t.flight.queue.next_unstarted) ds
          → Every (λ (c : ChunkPayloadData). ((c.message_id == c.message_id) && is_limit_passed c.nsent (numbered_in c.message_id ws)) ≡ true
          → Often c.message_id) ds → Every (λ (c : ChunkPayloadData). is_worn c ≡ true → Often c.message_id) ds
      by [] f a = tt
      by (d ∷ ds) f a = (λ e. a.0 (one d f.0 e), by ds f.1 a.1)

  pub each-reason : (call : SenderCall) → Every (λ k. IsReason call t k (numbered_in k ws)) (abandoned_by call t)
  each-reason (outgoing.expires now m) = front-over now ws t.flight.queue.pending waiting filled
  each-reason (outgoing.expires_tail now m) = by (is_some m)
    where
      by : (b : Bool) → Every (λ k. is_lifetime_over now (numbered_in k ws) ≡ true)
          (option_to_list (if b then message_of (expiring_tail now t.flight.queue) else None))
      by true = tail-over now ws t.flight.queue.pending waiting filled
      by false = tt
  each-reason (outgoing.expires_late now gone) =
      each-answered (λ k. is_lifetime_over now (numbered_in k ws) ≡ true) (late_tsns now t.flight.queue) (late_order now t.flight) t.flight
      (order-listed (λ k. is_lifetime_over now (numbered_in k ws) ≡ true) (late_tsns now t.flight.queue) t.flight)
      (ready (λ k. is_lifetime_over now (numbered_in k ws) ≡ true) (is_late now t.flight.queue.pending) (late_tsns now t.flight.queue) cs
      (own (is_late now t.flight.queue.pending)) (late-over now))
  each-reason (outgoing.expires_rexmit gone) =
      each-answered Often (worn_tsns t.flight) (worn_order t.flight) t.flight (order-listed Often (worn_tsns t.flight) t.flight)
      (ready Often is_worn (worn_tsns t.flight) cs (own is_worn) worn-often)
  each-reason (outgoing.abandons tsn a) = every-all (λ (k : ℕ). ⊤) (λ k. tt) (abandoned_by (outgoing.abandons tsn a) t)
  each-reason call = tt

-- ## The laws

pub only-due : AfterEachRunOfFewInFlight OnlyTheDueExpire
only-due first size max most limits cs s small some r few call = grind (arith, said-in, all-regular, regular-first, all-of-every, each-reason)

pub each-due-expires : AfterEachFitRun EachDueExpires
each-due-expires tsn size max most limits cs s small some r now = grind (arith, nat_tests, front-goes, late-are, said-in, tail-goes, worn-are)

-- # A reliable write is abandoned by `abandon` alone, so that each other one is read in the end

-- ## A reason is none of what is reliable

never-over : (now : ℕ) (w : Sending) → w.mode.reliability ≡ Reliable → is_lifetime_over now w ≡ false
never-over now w e = grind (arith, nat_tests)

never-passed : (count : ℕ) (w : Sending) → w.mode.reliability ≡ Reliable → is_limit_passed count w ≡ false
never-passed count w e = ap (λ r. is_over count (limit_of r w.mode.value)) e

never-often : (n : ℕ) (w : Sending) (cs : List ChunkPayloadData) → w.mode.reliability ≡ Reliable
    → list_any (λ c. (c.message_id == n) && is_limit_passed c.nsent w) cs ≡ false
never-often n w [] e = refl
never-often n w (c ∷ cs) e = grind (arith, nat_tests, never-passed, never-often n w cs e)

-- a call of `abandon` named the message, or its write is not reliable
abbrev pub IsAskedOrNot : List Sending → List ℕ → ℕ → Type 0
IsAskedOrNot ws asked n = (is_gone asked n ≡ true) ⊎ ((n < length ws) × (((numbered_in n ws).mode.reliability ≡ Reliable) → ⊥))

-- each of a list is one of it
each-asked : (ws : List Sending) (ns : List ℕ) → Every (IsAskedOrNot ws ns) ns
each-asked ws [] = tt
each-asked ws (n ∷ ns) = grind (arith, nat_tests, every-of, or-left, or-right, same-yes, each-asked ws ns)

-- those with a reason are not reliable
unasked : (R : ℕ → Type 0) (ws : List Sending) (asked ns : List ℕ) → ((n : ℕ) → R n → (numbered_in n ws).mode.reliability ≡ Reliable → ⊥) → Every R ns
    → Every (λ n. n < length ws) ns → Every (IsAskedOrNot ws asked) ns
unasked R ws asked ns not-so h b = every-both R (λ n. n < length ws) (IsAskedOrNot ws asked) (λ n i lt. inr (lt, not-so n i)) ns h b

of-reasons : (call : SenderCall) (t : Transmission) (ws : List Sending) → Every (λ n. IsReason call t n (numbered_in n ws)) (abandoned_by call t)
    → Every (λ n. n < length ws) (abandoned_by call t) → Every (IsAskedOrNot ws (asked_by call t)) (abandoned_by call t)
of-reasons call t ws h4 h5 = grind (arith, nat_tests, each-asked, never-often, never-over, not_both, unasked)

-- ## Calls

askable : (ws vs : List Sending) (xs ys : List ℕ) → KeepsModes ws vs → ((n : ℕ) → is_gone xs n ≡ true → is_gone ys n ≡ true) → (n : ℕ)
    → IsAskedOrNot ws xs n → IsAskedOrNot vs ys n
askable h0 h1 h2 h3 h4 h5 h6 h7 = grind (arith, nat_tests, common_steps)

module _ (first : ℕ) where
  -- what a call gives up
  left-by : (n : ℕ) (call : SenderCall) (old : Session) (m : Modes) → n < 2 ^ 31 → HasSaidOfFew first n m old
      → Every (IsAskedOrNot m.of_writes (asked_by call old.sending.sender)) (abandoned_by call old.sending.sender)
  left-by n call old m few h =
      let t = old.sending.sender in
      let p = h.unwrapped.spread in
      of-reasons call t m.of_writes (each-reason (base first) n few m.of_writes t h.said.sender.queue h.said.filled p.step.numbered call)
      (subst (λ k. Every (λ i. i < k) (abandoned_by call t)) (sym h.said.count)
      (by-below h.numbered first (λ s. number_of s t.streams) call t h.sent p.holds.held.stands))

  given-in : (n : ℕ) (cs : List Call) (old new : Session) (m : Modes) (r : RunsTo old cs new) → n + tsns_given old cs new r < 2 ^ 31
      → HasSaidOfFew first n m old → (gone asked : List ℕ) → Every (IsAskedOrNot m.of_writes asked) gone
      → Every (IsAskedOrNot (modes_from m cs).of_writes (asked ++ asked_in old cs new r)) (gone ++ abandoned_in old cs new r)
  given-in n [] old new m r few h gone asked e = grind (arith, nat_tests, common_steps, append-nil)
  given-in n (of_sender call ∷ cs) old new m r few h gone asked e =
      let t = old.sending.sender in
      let d = distance (next_tsn old) (next_tsn r.0) in
      let k = modes_after call m in
      let xs = asked ++ asked_by call t in
      let keep = keeps-after call m in
      let all : Every (IsAskedOrNot k.of_writes xs) (gone ++ abandoned_by call t) =
      every-joined (IsAskedOrNot k.of_writes xs) gone (abandoned_by call t)
      (every-of (IsAskedOrNot m.of_writes asked) (IsAskedOrNot k.of_writes xs)
      (askable m.of_writes k.of_writes asked xs keep (gone-left asked (asked_by call t))) gone e)
      (every-of (IsAskedOrNot m.of_writes (asked_by call t)) (IsAskedOrNot k.of_writes xs)
      (askable m.of_writes k.of_writes (asked_by call t) xs keep (gone-right asked (asked_by call t))) (abandoned_by call t)
      (left-by n call old m (omega (arith, few)) h)) in
      let ih = given-in (n + d) cs r.0 new k r.1.1 (omega (arith, few)) (said-then first n call old r.0 m (omega (arith, few)) r.1.0 h)
      (gone ++ abandoned_by call t) xs all in
      grind (arith, nat_tests, append_assoc, said-then, ih)
  given-in n (of_receiver call ∷ cs) old new m r few h gone asked e =
      let none = none-given first n call old r.0 m r.1.0 h in
      given-in n cs r.0 new m r.1.1 (omega (arith, few, none)) (still-then first n call old r.0 m (omega (arith, few)) r.1.0 h) gone asked e

-- ## The law

-- one of those
at-gone : (P : ℕ → Type 0) (n : ℕ) (ns : List ℕ) → is_gone ns n ≡ true → Every P ns → P n
at-gone P n [] e h = absurd (not_both e)
at-gone P n (k ∷ ks) e h = by (nat_eq n k) refl e (λ f. at-gone P n ks f h.1)
  where
    by : (b : Bool) → nat_eq n k ≡ b → (b || is_gone ks n) ≡ true → (is_gone ks n ≡ true → P n) → P n
    by true i f ih = subst P (sym (same-is n k i)) h.0
    by false i f ih = ih f

pub reliable-read : AfterEachRunOfAsked IsEachReliableReadInTheEnd
reliable-read tsn size max most limits cs s run small some few exhausted =
    let start = at_start tsn size max most limits in
    let u = said-of-few tsn size max most limits cs s small some run few in
    let ws = (modes_from at_first cs).of_writes in
    let asked = asked_in start cs s run in
    let gone = abandoned_in start cs s run in
    let o = others-read tsn size max most limits cs s run small few some exhausted in
    let total = ap length u.unwrapped.spread.holds.writes in
    let long = length-forgotten u.numbered in
    let count = u.said.count in
    let each = given-in tsn 0 cs start s at_first run (omega (arith, few)) (few-start tsn size max most limits small some) [] [] tt in
    grind (arith, nat_tests, at-gone, not_both, numbered-at)
