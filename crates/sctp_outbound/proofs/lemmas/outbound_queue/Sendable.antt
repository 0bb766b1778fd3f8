-- The queues stay sendable while chunks come, leave and change.
use Rattle.std.proofs.Common.{◌≡◌, ◌==◌, ℕ, zero, suc, ◌+◌, ◌-◌, ◌<◌, ◌≤◌, Bool, true, false, not, ◌||◌, ◌&&◌, if◌then◌else◌, List, [], ◌∷◌, ◌++◌, length, map}
use Rattle.std.proofs.Common.{Option, Some, None, slice_get, ◌⊎◌, inl, inr, refl, sym, ap, ap₂, ◌∙◌, subst, arith}
use Rattle.std.specs.List.{find, list_any}
use Rattle.std.proofs.lemmas.Bool.{false≢true}
use Rattle.std.proofs.lemmas.Bool.Decides.{nat_tests}
use Rattle.std.proofs.lemmas.List.Sums.{sum_by-append, sum_by-cons}
use Rattle.std.proofs.lemmas.Option.{none-some}
use Rattle.sctp_data.specs.declared.chunk.chunk_payload_data.ChunkPayloadData.{ChunkPayloadData}
use Rattle.sctp_util.specs.Lists.{change_where, insert_before}
use Rattle.sctp_util.proofs.Edits.{list_any-append, list_any-inserted, list_any-those}
use Rattle.sctp_outbound.specs.declared.pending_queue.Selected.{Selected}
use Rattle.sctp_outbound.specs.Marks.{is_of}
use Rattle.sctp_outbound.specs.outbound_queue.OutboundQueue.{Outbound, abandon_chunks, with_message_id, append_chunks, after_sends, taken_of, tsn_after}
use Rattle.sctp_outbound.specs.payload_queue.PayloadQueue.{without_front}
use Rattle.sctp_serial.specs.DataChunks.{chunk_before, bytes_of, has_tsn, following_tsn}
use Rattle.sctp_outbound.specs.pending_queue.PendingQueue.{Pending, front_of, list_of, next_pending, next_pending_of, chunk_to_pop, chunk_to_pop_from}
use Rattle.sctp_outbound.specs.pending_queue.PendingQueue.{list_to_pop, push_pending, rest_after, rest_from, selected_after, selected_without, without, without_message}
use Rattle.sctp_outbound.specs.pending_queue.PendingQueue.{total_bytes}
use Rattle.sctp_outbound.specs.pending_queue.Whole.{free, begun, GoesOn, stage_after, stage_of, IsWhole, IsMessage, IsMessageOrNone, IsSendable}
use Rattle.sctp_outbound.specs.pending_queue.Whole.{partial_of}
use Rattle.sctp_outbound.specs.pending_queue.Whole.{partially_sent, in_order, order_of, rest_then, waits}
use Rattle.sctp_outbound.proofs.lemmas.pending_queue.CompleteMessages.{IsWhole-append, IsWhole-message, IsWhole-without, IsWhole-change_where, KeepsMessage}
use Rattle.sctp_outbound.proofs.lemmas.pending_queue.CompleteMessages.{list_any-change_where, list_any-message, none_before, none_past, none_without}
use Rattle.sctp_outbound.proofs.lemmas.pending_queue.CompleteMessages.{stage_below, stage_without, weaken_bound, weaken_start}
use Rattle.sctp_util.proofs.Cases.{or-left, or-right}
use Rattle.sctp_util.proofs.More.{fails}

abbrev pub made : List ChunkPayloadData → List ChunkPayloadData → Option Selected → ℕ → ℕ → Pending
made os us sel ro ru = record { ordered = os; unordered = us; selected = sel; ordered_room = ro; unordered_room = ru }

pub or_false : (a b : Bool) → a ≡ false → b ≡ false → (a || b) ≡ false
or_false a b h k = rw (h, k) refl

-- one of the two, also where each leads to another
or_cases : (a b c d : Bool) → (a ≡ true → c ≡ true) → (b ≡ true → d ≡ true) → (a || b) ≡ true → (c || d) ≡ true
or_cases true b c d f g h = or-left c d (f refl)
or_cases false b c d f g h = or-right c d (g h)

or_known : (a b : Bool) → b ≡ false → (a || b) ≡ true → a ≡ true
or_known true b h k = refl
or_known false b h k = absurd (false≢true (sym h ∙ k))

or_elim : {P : Type 0} (a b : Bool) → (a ≡ true → P) → (b ≡ true → P) → (a || b) ≡ true → P
or_elim true b f g h = f refl
or_elim false b f g h = g h

-- ## What is in flight

-- with no further message in flight
pub sendable-fewer : (q : Pending) (xs ys : List ChunkPayloadData) (n : ℕ) → ((m : ℕ) → list_any (is_of m) ys ≡ true → list_any (is_of m) xs ≡ true)
    → IsSendable q xs n → IsSendable q ys n
sendable-fewer q xs ys n fewer s = record {
  ordered = s.ordered;
  unordered = s.unordered;
  apart = s.apart;
  sent = λ m h k. s.sent m (fewer m h) k;
  below = λ m le. fails _ (λ h. false≢true (sym (s.below m le) ∙ fewer m h));
}

pub list_any-without_front : (m tsn : ℕ) (xs : List ChunkPayloadData) → list_any (is_of m) (without_front tsn xs) ≡ true → list_any (is_of m) xs ≡ true
list_any-without_front m tsn [] h = h
list_any-without_front m tsn (c ∷ cs) h = step (has_tsn tsn c) h
  where
    step : (b : Bool) → list_any (is_of m) (if b then cs else c ∷ cs) ≡ true → list_any (is_of m) (c ∷ cs) ≡ true
    step true h = or-right (is_of m c) (list_any (is_of m) cs) h
    step false h = h

pub without_front_le : (tsn : ℕ) (xs : List ChunkPayloadData) → bytes_of (without_front tsn xs) ≤ bytes_of xs
without_front_le tsn [] = omega arith
without_front_le tsn (c ∷ cs) = step (has_tsn tsn c)
  where
    step : (b : Bool) → bytes_of (if b then cs else c ∷ cs) ≤ bytes_of (c ∷ cs)
    step true = omega (arith, sum_by-cons (λ (x : ChunkPayloadData). length x.user_data) c cs)
    step false = omega arith

-- marks leave the messages
pub sendable-marked : (q : Pending) (xs : List ChunkPayloadData) (n : ℕ) (p : ChunkPayloadData → Bool) (f : ChunkPayloadData → ChunkPayloadData)
    → KeepsMessage f → IsSendable q xs n → IsSendable q (change_where p f xs) n
sendable-marked q xs n p f keeps s = sendable-fewer q xs (change_where p f xs) n (λ m h. sym (list_any-change_where p f keeps m xs) ∙ h) s

-- ## What waits

-- the chunks of both lists changed, but not the messages
pub sendable-changed : (os us : List ChunkPayloadData) (sel : Option Selected) (ro ru so su : ℕ) (xs : List ChunkPayloadData) (n : ℕ)
    (p r : ChunkPayloadData → Bool) (f g : ChunkPayloadData → ChunkPayloadData) → KeepsMessage f → KeepsMessage g → IsSendable (made os us sel ro ru) xs n
    → IsSendable (made (change_where p f os) (change_where r g us) sel so su) xs n
sendable-changed os us sel ro ru so su xs n p r f g keeps keeps' s = record {
  ordered = IsWhole-change_where p f keeps false n (stage_of false sel) os s.ordered;
  unordered = IsWhole-change_where r g keeps' true n (stage_of true sel) us s.unordered;
  apart = λ m h. list_any-change_where r g keeps' m us ∙ s.apart m (sym (list_any-change_where p f keeps m os) ∙ h);
  sent = λ m h k. s.sent m h (ap₂ (λ a b. a || b) (sym (list_any-change_where r g keeps' m us)) (sym (list_any-change_where p f keeps m os)) ∙ k);
  below = s.below;
}

pub sendable-ordered_changed : (os us : List ChunkPayloadData) (sel : Option Selected) (ro ru : ℕ) (xs : List ChunkPayloadData) (n : ℕ)
    (p : ChunkPayloadData → Bool) (f : ChunkPayloadData → ChunkPayloadData) → KeepsMessage f → IsSendable (made os us sel ro ru) xs n
    → IsSendable (made (change_where p f os) us sel ro ru) xs n
sendable-ordered_changed os us sel ro ru xs n p f keeps s = record {
  ordered = IsWhole-change_where p f keeps false n (stage_of false sel) os s.ordered;
  unordered = s.unordered;
  apart = λ m h. s.apart m (sym (list_any-change_where p f keeps m os) ∙ h);
  sent = λ m h k. s.sent m h (ap (λ b. list_any (is_of m) us || b) (sym (list_any-change_where p f keeps m os)) ∙ k);
  below = s.below;
}

-- ## A message that is removed

stage_of-without : (m : ℕ) (kind : Bool) (sel : Option Selected) (below : ℕ) (xs : List ChunkPayloadData)
    → IsWhole kind below (stage_without m (stage_of kind sel)) xs → IsWhole kind below (stage_of kind (selected_without m sel)) xs
stage_of-without m true None below xs w = w
stage_of-without m false None below xs w = w
stage_of-without m true (Some s) below xs w = by s.unordered (s.message_id == m) refl w
  where
    by : (u b : Bool) → (s.message_id == m) ≡ b → IsWhole true below (stage_without m (if u then begun s.message_id else free 0)) xs
        → IsWhole true below (stage_of true (if b then None else Some (record { message_id = s.message_id; unordered = u }))) xs
    by true true e w = weaken_start true below 0 (s.message_id + 1)
        (omega arith) xs (subst (λ b. IsWhole true below (if b then free (s.message_id + 1) else begun s.message_id) xs) e w)
    by true false e w = subst (λ b. IsWhole true below (if b then free (s.message_id + 1) else begun s.message_id) xs) e w
    by false true e w = w
    by false false e w = w
stage_of-without m false (Some s) below xs w = by s.unordered (s.message_id == m) refl w
  where
    by : (u b : Bool) → (s.message_id == m) ≡ b → IsWhole false below (stage_without m (if u then free 0 else begun s.message_id)) xs
        → IsWhole false below (stage_of false (if b then None else Some (record { message_id = s.message_id; unordered = u }))) xs
    by true true e w = w
    by true false e w = w
    by false true e w = weaken_start false below 0 (s.message_id + 1)
        (omega arith) xs (subst (λ b. IsWhole false below (if b then free (s.message_id + 1) else begun s.message_id) xs) e w)
    by false false e w = subst (λ b. IsWhole false below (if b then free (s.message_id + 1) else begun s.message_id) xs) e w

partial-without : (m k : ℕ) (sel : Option Selected) → partial_of sel ≡ Some k → (m ≡ k → ⊥) → partial_of (selected_without m sel) ≡ Some k
partial-without m k None h differs = absurd (none-some k h)
partial-without m k (Some s) h differs =
    let same : s.message_id ≡ k = cc in
    let other : (s.message_id == m) ≡ false = fails _ (λ e. differs (grind (arith, nat_tests))) in
    rw other h

pub sendable-without : (os us : List ChunkPayloadData) (sel : Option Selected) (ro ru : ℕ) (xs : List ChunkPayloadData) (n m : ℕ)
    → IsSendable (made os us sel ro ru) xs n → IsSendable (without m (made os us sel ro ru)) xs n
sendable-without os us sel ro ru xs n m s = record {
  ordered = stage_of-without m false sel n (without_message m os) (IsWhole-without false n m (stage_of false sel) os s.ordered);
  unordered = stage_of-without m true sel n (without_message m us) (IsWhole-without true n m (stage_of true sel) us s.unordered);
  apart = λ k h.
      fails _ (λ e. false≢true (sym (s.apart k (list_any-those (is_of k) (λ c. not (is_of m c)) os h)) ∙ list_any-those (is_of k) (λ c. not (is_of m c)) us e));
  sent = λ k h w. partial-without m k sel
      (s.sent k h (or_cases _ _ _ _ (list_any-those (is_of k) (λ c. not (is_of m c)) us) (list_any-those (is_of k) (λ c. not (is_of m c)) os) w))
      (λ e. false≢true (sym (subst (λ j. (list_any (is_of j) (without_message m us) || list_any (is_of j) (without_message m os)) ≡ false) e
      (or_false _ _ (none_without m us) (none_without m os))) ∙ w));
  below = s.below;
}

-- ## A message that is pushed

pub sendable-pushed : (kind : Bool) (os us : List ChunkPayloadData) (sel : Option Selected) (ro ru : ℕ) (xs ms : List ChunkPayloadData) (n : ℕ)
    → IsMessage kind false ms → IsSendable (made os us sel ro ru) xs n
    → IsSendable (append_chunks kind (map (with_message_id n) ms) (made os us sel ro ru)) xs (n + 1)
sendable-pushed true os us sel ro ru xs ms n h s = record {
  ordered = weaken_bound false n (n + 1) (omega arith) (stage_of false sel) os s.ordered;
  unordered = IsWhole-append true n (n + 1) (omega arith) (stage_of true sel) us (map (with_message_id n) ms)
      (stage_below true sel n us s.unordered) s.unordered (IsWhole-message true false n ms h);
  apart = λ m k. list_any-append (is_of m) us (map (with_message_id n) ms) ∙ or_false _ _ (s.apart m k) (fails _ (λ e. let same : n ≡ m =
      grind (arith, nat_tests, list_any-message m n ms e) in false≢true (sym (none_past false n m (omega arith) (stage_of false sel) os s.ordered) ∙ k)));
  sent = λ m k w. s.sent m k (or_cases _ _ _ _ (λ e. or_known _ _ (fails _ (λ f. new_is_new m k (list_any-message m n ms f)))
      (sym (list_any-append (is_of m) us (map (with_message_id n) ms)) ∙ e)) (λ e. e) w);
  below = λ m le. s.below m (omega arith);
}
  where
    new_is_new : (m : ℕ) → list_any (is_of m) xs ≡ true → (n == m) ≡ true → ⊥
    new_is_new m k e = let same : n ≡ m = grind (arith, nat_tests) in false≢true (sym (s.below m (omega arith)) ∙ k)
sendable-pushed false os us sel ro ru xs ms n h s = record {
  ordered = IsWhole-append false n (n + 1) (omega arith) (stage_of false sel) os (map (with_message_id n) ms)
      (stage_below false sel n os s.ordered) s.ordered (IsWhole-message false false n ms h);
  unordered = weaken_bound true n (n + 1) (omega arith) (stage_of true sel) us s.unordered;
  apart = λ m k. or_elim _ _ (s.apart m) (λ e. let same : n ≡ m = grind (arith, nat_tests, list_any-message m n ms e) in
      none_past true n m (omega arith) (stage_of true sel) us s.unordered) (sym (list_any-append (is_of m) os (map (with_message_id n) ms)) ∙ k);
  sent = λ m k w. s.sent m k (or_cases _ _ _ _ (λ e. e)
      (λ e. or_known _ _ (fails _ (λ f. new_is_new m k (list_any-message m n ms f))) (sym (list_any-append (is_of m) os (map (with_message_id n) ms)) ∙ e)) w);
  below = λ m le. s.below m (omega arith);
}
  where
    new_is_new : (m : ℕ) → list_any (is_of m) xs ≡ true → (n == m) ≡ true → ⊥
    new_is_new m k e = let same : n ≡ m = grind (arith, nat_tests) in false≢true (sym (s.below m (omega arith)) ∙ k)

-- a chunk goes behind its list as a list of one does
pub one_pushed : (c : ChunkPayloadData) (q : Pending) → push_pending q c ≡ append_chunks c.unordered (c ∷ []) q
one_pushed c q = by c.unordered
  where
    by : (kind : Bool) → (if kind then record q { unordered = q.unordered ++ c ∷ []; unordered_room = q.unordered_room - 1 }
        else record q { ordered = q.ordered ++ c ∷ []; ordered_room = q.ordered_room - 1 }) ≡ append_chunks kind (c ∷ []) q
    by true = refl
    by false = refl

pub one_bytes : (kind : Bool) (c : ChunkPayloadData) (q : Pending) → total_bytes (append_chunks kind (c ∷ []) q) ≡ total_bytes q + length c.user_data
one_bytes kind c q = by kind
  where
    size : ChunkPayloadData → ℕ
    size x = length x.user_data

    by : (k : Bool) → total_bytes (append_chunks k (c ∷ []) q) ≡ total_bytes q + length c.user_data
    by true = omega (arith, sum_by-append size q.unordered (c ∷ []), sum_by-cons size c [])
    by false = omega (arith, sum_by-append size q.ordered (c ∷ []), sum_by-cons size c [])

-- ## A chunk that is sent

-- the partially sent message after a chunk of it left
abbrev selected_by : Bool → ChunkPayloadData → Option Selected
selected_by kind c = if c.ending_fragment then None else Some (record { message_id = c.message_id; unordered = kind })

-- the chunk is in front of the list that is sent from: cs follow it, and other is the other list
record Turn (kind : Bool) (n : ℕ) (sel : Option Selected) (c : ChunkPayloadData) (cs other : List ChunkPayloadData) : Type 0 where
  pops : list_to_pop sel c.beginning_fragment c.unordered ≡ Some kind
  tail : IsWhole kind n (stage_after c) cs
  number : c.message_id < n
  others : IsWhole (not kind) n (free 0) other
  partial : (m : ℕ) → partial_of sel ≡ Some m → c.message_id ≡ m
  after : selected_after sel kind c ≡ selected_by kind c

turn_new : (kind : Bool) (n : ℕ) (c : ChunkPayloadData) (cs other : List ChunkPayloadData) → IsWhole kind n (free 0) (c ∷ cs)
    → IsWhole (not kind) n (free 0) other → Turn kind n None c cs other
turn_new kind n c cs other w v = record {
  pops = rw (w.0.0, w.1) refl;
  tail = w.3;
  number = w.2;
  others = v;
  partial = λ m h. absurd (none-some m h);
  after = refl;
}

turn_on : (kind : Bool) (n : ℕ) (s : Selected) (c : ChunkPayloadData) (cs other : List ChunkPayloadData) → s.unordered ≡ kind
    → IsWhole kind n (begun s.message_id) (c ∷ cs) → IsWhole (not kind) n (free 0) other → Turn kind n (Some s) c cs other
turn_on kind n s c cs other e w v = record {
  pops = ap Some e;
  tail = w.3;
  number = w.2;
  others = v;
  partial = λ m h. let same : s.message_id ≡ m = cc in w.0.1 ∙ same;
  after = step c.ending_fragment;
}
  where
    it : (c.message_id == s.message_id) ≡ true
    it = grind (arith, nat_tests, w.0.1)

    step : (b : Bool)
        → (if b && (c.message_id == s.message_id) then None else Some s) ≡ (if b then None else Some (record { message_id = c.message_id; unordered = kind }))
    step true = rw it refl
    step false = ap₂ (λ i u. let t : Selected = record { message_id = i; unordered = u } in Some t) (sym w.0.1) e

-- of what is in flight then only this message waits
front_sent : (kind : Bool) (m n : ℕ) (c : ChunkPayloadData) (cs other xs : List ChunkPayloadData) → IsWhole kind n (stage_after c) cs
    → ((c.message_id == m || list_any (is_of m) cs) ≡ true → list_any (is_of m) other ≡ false)
    → (list_any (is_of m) xs ≡ true → (list_any (is_of m) cs || list_any (is_of m) other) ≡ true → c.message_id ≡ m)
    → (c.message_id == m || list_any (is_of m) xs) ≡ true → (list_any (is_of m) cs || list_any (is_of m) other) ≡ true
    → partial_of (selected_by kind c) ≡ Some m
front_sent kind m n c cs other xs w apart sent h k = step c.ending_fragment w
  where
    same : c.message_id ≡ m
    same = or_elim (c.message_id == m) (list_any (is_of m) xs) (λ e. grind (arith, nat_tests)) (λ e. sent e k) h

    it : (c.message_id == m) ≡ true
    it = grind (arith, nat_tests, same)

    step : (b : Bool) → IsWhole kind n (if b then free (c.message_id + 1) else begun c.message_id) cs
        → partial_of (if b then None else Some (record { message_id = c.message_id; unordered = kind })) ≡ Some m
    step true v =
        let gone : list_any (is_of m) cs ≡ false = none_before kind n m (free (c.message_id + 1)) cs (omega (arith, same)) v in
        absurd (false≢true (sym (or_false _ _ gone (apart (or-left _ _ it))) ∙ k))
    step false v = ap Some same

-- where the list stands then
stage_by : (kind b : Bool) (n k : ℕ) (cs : List ChunkPayloadData) → IsWhole kind n (if b then free (k + 1) else begun k) cs
    → IsWhole kind n (stage_of kind (if b then None else Some (record { message_id = k; unordered = kind }))) cs
stage_by true true n k cs w = weaken_start true n 0 (k + 1) (omega arith) cs w
stage_by true false n k cs w = w
stage_by false true n k cs w = weaken_start false n 0 (k + 1) (omega arith) cs w
stage_by false false n k cs w = w

other_by : (kind b : Bool) (n k : ℕ) (cs : List ChunkPayloadData) → IsWhole (not kind) n (free 0) cs
    → IsWhole (not kind) n (stage_of (not kind) (if b then None else Some (record { message_id = k; unordered = kind }))) cs
other_by true true n k cs w = w
other_by true false n k cs w = w
other_by false true n k cs w = w
other_by false false n k cs w = w

number_of : (m : ℕ) (t c : ChunkPayloadData) (xs : List ChunkPayloadData) → t.message_id ≡ c.message_id
    → list_any (is_of m) (insert_before chunk_before t xs) ≡ (c.message_id == m || list_any (is_of m) xs)
number_of m t c xs same = list_any-inserted (is_of m) chunk_before t xs ∙ ap (λ k. k == m || list_any (is_of m) xs) same

or_comm : (a b : Bool) → (a || b) ≡ (b || a)
or_comm true true = refl
or_comm true false = refl
or_comm false true = refl
or_comm false false = refl

module _ (sel : Option Selected) (ro ru n : ℕ) (xs : List ChunkPayloadData) (t c : ChunkPayloadData) (same : t.message_id ≡ c.message_id) where
  still_below : ((m : ℕ) → n ≤ m → list_any (is_of m) xs ≡ false) → c.message_id < n → (m : ℕ) → n ≤ m
      → list_any (is_of m) (insert_before chunk_before t xs) ≡ false
  still_below below lt m le = let other : (c.message_id == m) ≡ false = grind (arith, nat_tests) in number_of m t c xs same ∙ or_false _ _ other (below m le)

  sent_ordered : (os us : List ChunkPayloadData) → Turn false n sel c os us → IsSendable (made (c ∷ os) us sel ro ru) xs n
      → IsSendable (made os us (selected_after sel false c) ro ru) (insert_before chunk_before t xs) n
  sent_ordered os us turn s = rw turn.after record {
    ordered = stage_by false c.ending_fragment n c.message_id os turn.tail;
    unordered = other_by false c.ending_fragment n c.message_id us turn.others;
    apart = λ m h. s.apart m (or-right (c.message_id == m) (list_any (is_of m) os) h);
    sent = λ m h k.
        let it = c.message_id == m in
        let o = list_any (is_of m) os in
        let u = list_any (is_of m) us in
        front_sent false m n c os us xs turn.tail (s.apart m)
        (λ e w. turn.partial m (s.sent m e (or_cases u o u (it || o) (λ f. f) (λ f. or-right it o f) (or_comm u o ∙ w)))) (sym (number_of m t c xs same) ∙ h)
        (or_comm o u ∙ k);
    below = still_below s.below turn.number;
  }

  sent_unordered : (os us : List ChunkPayloadData) → Turn true n sel c us os → IsSendable (made os (c ∷ us) sel ro ru) xs n
      → IsSendable (made os us (selected_after sel true c) ro ru) (insert_before chunk_before t xs) n
  sent_unordered os us turn s = rw turn.after record {
    ordered = other_by true c.ending_fragment n c.message_id os turn.others;
    unordered = stage_by true c.ending_fragment n c.message_id us turn.tail;
    apart = λ m h. fails (list_any (is_of m) us) (λ e. false≢true (sym (s.apart m h) ∙ or-right (c.message_id == m) (list_any (is_of m) us) e));
    sent = λ m h k.
        let it = c.message_id == m in
        let o = list_any (is_of m) os in
        let u = list_any (is_of m) us in
        front_sent true m n c us os xs turn.tail (λ e. fails o (λ f. false≢true (sym (s.apart m f) ∙ e)))
        (λ e w. turn.partial m (s.sent m e (or_cases u o (it || u) o (λ f. or-right it u f) (λ f. f) w))) (sym (number_of m t c xs same) ∙ h) k;
    below = still_below s.below turn.number;
  }

-- what a peek shows is what a pop takes, and the queues stay sendable with it in flight
pub record SendsOn (q : Pending) (c t : ChunkPayloadData) (xs : List ChunkPayloadData) (n : ℕ) : Type 0 where
  pub taken : chunk_to_pop c.beginning_fragment c.unordered q ≡ Some c
  pub sendable : IsSendable (rest_after c.beginning_fragment c.unordered q) (insert_before chunk_before t xs) n
  pub order : order_of q ≡ c ∷ order_of (rest_after c.beginning_fragment c.unordered q)

module _ (ro ru n : ℕ) (xs : List ChunkPayloadData) (t : ChunkPayloadData) where
  by_ordered : (o : ChunkPayloadData) (os us : List ChunkPayloadData) (b : Bool) → (if b then o ∷ (us ++ os) else o ∷ rest_then os us)
      ≡ o ∷ in_order (if b then None else Some (record { message_id = o.message_id; unordered = false })) os us
  by_ordered o os us true = refl
  by_ordered o os us false = refl

  by_unordered : (u : ChunkPayloadData) (os us : List ChunkPayloadData) (b : Bool)
      → u ∷ (us ++ os) ≡ u ∷ in_order (if b then None else Some (record { message_id = u.message_id; unordered = true })) os us
  by_unordered u os us true = refl
  by_unordered u os us false = refl

  from_ordered : (sel : Option Selected) (o : ChunkPayloadData) (os us : List ChunkPayloadData)
      → in_order sel (o ∷ os) us ≡ (if o.ending_fragment then o ∷ (us ++ os) else o ∷ rest_then os us) → t.message_id ≡ o.message_id → Turn false n sel o os us
      → IsSendable (made (o ∷ os) us sel ro ru) xs n → SendsOn (made (o ∷ os) us sel ro ru) o t xs n
  from_ordered sel o os us e same turn s = record {
    taken = rw turn.pops refl;
    sendable = rw turn.pops (sent_ordered sel ro ru n xs t o same os us turn s);
    order = rw turn.pops (rw turn.after (e ∙ by_ordered o os us o.ending_fragment));
  }

  from_unordered : (sel : Option Selected) (u : ChunkPayloadData) (os us : List ChunkPayloadData) → in_order sel os (u ∷ us) ≡ u ∷ (us ++ os)
      → t.message_id ≡ u.message_id → Turn true n sel u us os → IsSendable (made os (u ∷ us) sel ro ru) xs n → SendsOn (made os (u ∷ us) sel ro ru) u t xs n
  from_unordered sel u os us e same turn s = record {
    taken = rw turn.pops refl;
    sendable = rw turn.pops (sent_unordered sel ro ru n xs t u same os us turn s);
    order = rw turn.pops (rw turn.after (e ∙ by_unordered u os us u.ending_fragment));
  }

  rest_then_nothing : (os : List ChunkPayloadData) → rest_then os [] ≡ os
  rest_then_nothing [] = refl
  rest_then_nothing (c ∷ cs) = step c.ending_fragment (rest_then_nothing cs)
    where
      step : (b : Bool) → rest_then cs [] ≡ cs → (if b then c ∷ cs else c ∷ rest_then cs []) ≡ c ∷ cs
      step true e = refl
      step false e = ap (λ ys. c ∷ ys) e

  alone : (o : ChunkPayloadData) (os : List ChunkPayloadData) (b : Bool) → o ∷ os ≡ (if b then o ∷ os else o ∷ rest_then os [])
  alone o os true = refl
  alone o os false = ap (λ ys. o ∷ ys) (sym (rest_then_nothing os))

  at : (q : Pending) (d c : ChunkPayloadData) → d ≡ c → t.message_id ≡ c.message_id → (t.message_id ≡ d.message_id → SendsOn q d t xs n) → SendsOn q c t xs n
  at q d c e same f = subst (λ (y : ChunkPayloadData). SendsOn q y t xs n) e (f (same ∙ ap (λ (y : ChunkPayloadData). y.message_id) (sym e)))

  some_same : (d c : ChunkPayloadData) → Some d ≡ Some c → d ≡ c
  some_same d c e = cc

  goes_on_unordered : (os us : List ChunkPayloadData) (sel : Selected) (c : ChunkPayloadData) → sel.unordered ≡ true → t.message_id ≡ c.message_id
      → IsSendable (made os us (Some sel) ro ru) xs n → slice_get us 0 ≡ Some c → SendsOn (made os us (Some sel) ro ru) c t xs n
  goes_on_unordered os [] sel c e same s h = absurd (none-some c h)
  goes_on_unordered os (u ∷ us) sel c e same s h =
      let whole = subst (λ b. IsWhole true n (if b then begun sel.message_id else free 0) (u ∷ us)) e s.unordered in
      let others = subst (λ b. IsWhole false n (if b then free 0 else begun sel.message_id) os) e s.ordered in
      at _ u c (some_same u c h) same (λ f.
      from_unordered (Some sel) u os us (ap (λ b. if b then u ∷ (us ++ os) else rest_then os (u ∷ us)) e) f (turn_on true n sel u us os e whole others) s)

  goes_on_ordered : (os us : List ChunkPayloadData) (sel : Selected) (c : ChunkPayloadData) → sel.unordered ≡ false → t.message_id ≡ c.message_id
      → IsSendable (made os us (Some sel) ro ru) xs n → slice_get os 0 ≡ Some c → SendsOn (made os us (Some sel) ro ru) c t xs n
  goes_on_ordered [] us sel c e same s h = absurd (none-some c h)
  goes_on_ordered (o ∷ os) us sel c e same s h =
      let whole = subst (λ b. IsWhole false n (if b then free 0 else begun sel.message_id) (o ∷ os)) e s.ordered in
      let others = subst (λ b. IsWhole true n (if b then begun sel.message_id else free 0) us) e s.unordered in
      at _ o c (some_same o c h) same (λ f.
      from_ordered (Some sel) o os us (ap (λ b. if b then us ++ o ∷ os else rest_then (o ∷ os) us) e) f (turn_on false n sel o os us e whole others) s)

  sends_on : (os us : List ChunkPayloadData) (sel : Option Selected) (c : ChunkPayloadData) → t.message_id ≡ c.message_id
      → IsSendable (made os us sel ro ru) xs n → next_pending (made os us sel ro ru) ≡ Some c → SendsOn (made os us sel ro ru) c t xs n
  sends_on os (u ∷ us) None c same s h =
      at _ u c (some_same u c h) same (λ e. from_unordered None u os us refl e (turn_new true n u us os s.unordered s.ordered) s)
  sends_on (o ∷ os) [] None c same s h =
      at _ o c (some_same o c h) same (λ e. from_ordered None o os [] (alone o os o.ending_fragment) e (turn_new false n o os [] s.ordered s.unordered) s)
  sends_on [] [] None c same s h = absurd (none-some c h)
  sends_on os us (Some sel) c same s h = by sel.unordered refl
    where
      by : (b : Bool) → sel.unordered ≡ b → SendsOn (made os us (Some sel) ro ru) c t xs n
      by true e = goes_on_unordered os us sel c e same s (subst (λ b. slice_get (list_of b (made os us (Some sel) ro ru)) 0 ≡ Some c) e h)
      by false e = goes_on_ordered os us sel c e same s (subst (λ b. slice_get (list_of b (made os us (Some sel) ro ru)) 0 ≡ Some c) e h)

pub sendable-sent : (q : Pending) (xs : List ChunkPayloadData) (n : ℕ) (c t : ChunkPayloadData) → t.message_id ≡ c.message_id → IsSendable q xs n
    → next_pending q ≡ Some c → SendsOn q c t xs n
sendable-sent q xs n c t same s h = sends_on q.ordered_room q.unordered_room n xs t q.ordered q.unordered q.selected c same s h

-- the bytes that leave with a chunk
popped_bytes_from : (k : Option Bool) (os us : List ChunkPayloadData) (sel : Option Selected) (ro ru : ℕ) (c : ChunkPayloadData)
    → chunk_to_pop_from k (made os us sel ro ru) ≡ Some c
    → total_bytes (rest_from k (made os us sel ro ru)) + length c.user_data ≡ total_bytes (made os us sel ro ru)
popped_bytes_from None os us sel ro ru c h = absurd (none-some c h)
popped_bytes_from (Some true) os [] sel ro ru c h = absurd (none-some c h)
popped_bytes_from (Some true) os (u ∷ us) sel ro ru c h = let same : u ≡ c = cc in
    omega (arith, sum_by-cons (λ (x : ChunkPayloadData). length x.user_data) u us, ap (λ (x : ChunkPayloadData). length x.user_data) same)
popped_bytes_from (Some false) [] us sel ro ru c h = absurd (none-some c h)
popped_bytes_from (Some false) (o ∷ os) us sel ro ru c h = let same : o ≡ c = cc in
    omega (arith, sum_by-cons (λ (x : ChunkPayloadData). length x.user_data) o os, ap (λ (x : ChunkPayloadData). length x.user_data) same)

pub popped_bytes : (b u : Bool) (q : Pending) (c : ChunkPayloadData) → chunk_to_pop b u q ≡ Some c
    → total_bytes (rest_after b u q) + length c.user_data ≡ total_bytes q
popped_bytes b u q c h = popped_bytes_from (list_to_pop q.selected b u) q.ordered q.unordered q.selected q.ordered_room q.unordered_room c h

-- the kind of a message is that of its first chunk
pub message_of_first : (xs : List ChunkPayloadData) (x : ChunkPayloadData) → Some x ≡ slice_get xs 0 → IsMessageOrNone xs → IsMessage x.unordered false xs
message_of_first [] x h m = absurd (none-some x (sym h))
message_of_first (y ∷ ys) x h m = let same : y ≡ x = cc in subst (λ (z : ChunkPayloadData). IsMessage z.unordered false (y ∷ ys)) same m

-- ## The order of sending

nothing_waits : (os us : List ChunkPayloadData) (sel : Option Selected) (ro ru n : ℕ) (xs : List ChunkPayloadData) → IsSendable (made os us sel ro ru) xs n
    → next_pending (made os us sel ro ru) ≡ None → in_order sel os us ≡ []
nothing_waits os (u ∷ us) None ro ru n xs s h = absurd (none-some u (sym h))
nothing_waits (o ∷ os) [] None ro ru n xs s h = absurd (none-some o (sym h))
nothing_waits [] [] None ro ru n xs s h = refl
nothing_waits os us (Some sel) ro ru n xs s h = absurd (by sel.unordered s.ordered s.unordered h)
  where
    some_unordered : (us : List ChunkPayloadData) → IsWhole true n (begun sel.message_id) us → slice_get us 0 ≡ None → ⊥
    some_unordered [] w h = w
    some_unordered (u ∷ us) w h = none-some u (sym h)

    some_ordered : (os : List ChunkPayloadData) → IsWhole false n (begun sel.message_id) os → slice_get os 0 ≡ None → ⊥
    some_ordered [] w h = w
    some_ordered (o ∷ os) w h = none-some o (sym h)

    by : (k : Bool) → IsWhole false n (if k then free 0 else begun sel.message_id) os → IsWhole true n (if k then begun sel.message_id else free 0) us
        → slice_get (list_of k (made os us (Some sel) ro ru)) 0 ≡ None → ⊥
    by true w v h = some_unordered us v h
    by false w v h = some_ordered os w h

-- the chunk at a place of the order is what a peek gives after so many sends
pub order_is : (i : ℕ) (q : Pending) (xs : List ChunkPayloadData) (n : ℕ) → IsSendable q xs n → slice_get (order_of q) i ≡ next_pending (after_sends i q)
order_is zero q xs n s = by (next_pending q) refl
  where
    by : (o : Option ChunkPayloadData) → next_pending q ≡ o → slice_get (order_of q) 0 ≡ o
    by None h = ap (λ l. slice_get l 0) (nothing_waits q.ordered q.unordered q.selected q.ordered_room q.unordered_room n xs s h)
    by (Some c) h = ap (λ l. slice_get l 0) (sendable-sent q xs n c c refl s h).order
order_is (suc i) q xs n s = by (next_pending q) refl (order_is i q xs n s) (λ r ys t. order_is i r ys n t)
  where
    by : (o : Option ChunkPayloadData) → next_pending q ≡ o → slice_get (order_of q) i ≡ next_pending (after_sends i q)
        → ((r : Pending) (ys : List ChunkPayloadData) → IsSendable r ys n → slice_get (order_of r) i ≡ next_pending (after_sends i r))
        → slice_get (order_of q) (suc i) ≡ next_pending (after_sends i (taken_of o q))
    by None h same ih =
        let e = nothing_waits q.ordered q.unordered q.selected q.ordered_room q.unordered_room n xs s h in
        ap (λ l. slice_get l (suc i)) e ∙ ap (λ l. slice_get l i) (sym e) ∙ same
    by (Some c) h same ih =
        let on = sendable-sent q xs n c c refl s h in
        ap (λ l. slice_get l (suc i)) on.order ∙ ih (rest_after c.beginning_fragment c.unordered q) (insert_before chunk_before c xs) on.sendable

-- ## The partially sent message

goes_on_in : (kind : Bool) (n j m : ℕ) (xs : List ChunkPayloadData) → IsWhole kind n (begun j) xs → j ≡ m → GoesOn m (slice_get xs 0)
goes_on_in kind n j m [] w e = w
goes_on_in kind n j m (c ∷ cs) w e = (w.0.1 ∙ e, w.0.0)

-- while a message is partially sent a peek gives its next fragment
pub goes_on : (q : Pending) (xs : List ChunkPayloadData) (n m : ℕ) → IsSendable q xs n → partially_sent q ≡ Some m → GoesOn m (next_pending q)
goes_on q xs n m s h = by q.selected s.ordered s.unordered h
  where
    by : (sel : Option Selected) → IsWhole false n (stage_of false sel) q.ordered → IsWhole true n (stage_of true sel) q.unordered → partial_of sel ≡ Some m
        → GoesOn m (next_pending (made q.ordered q.unordered sel q.ordered_room q.unordered_room))
    by None w v h = absurd (none-some m h)
    by (Some t) w v h = kind t.unordered w v
      where
        same : t.message_id ≡ m
        same = cc

        kind : (k : Bool) → IsWhole false n (if k then free 0 else begun t.message_id) q.ordered
            → IsWhole true n (if k then begun t.message_id else free 0) q.unordered
            → GoesOn m (slice_get (list_of k (made q.ordered q.unordered (Some t) q.ordered_room q.unordered_room)) 0)
        kind true w v = goes_on_in true n t.message_id m q.unordered v same
        kind false w v = goes_on_in false n t.message_id m q.ordered w same

begins_in : (kind : Bool) (n : ℕ) (xs : List ChunkPayloadData) (c : ChunkPayloadData) → IsWhole kind n (free 0) xs → slice_get xs 0 ≡ Some c
    → c.beginning_fragment ≡ true
begins_in kind n [] c w h = absurd (none-some c h)
begins_in kind n (x ∷ xs) c w h = subst (λ (y : ChunkPayloadData). y.beginning_fragment ≡ true) (some_is x c h) w.0.0
  where
    some_is : (x c : ChunkPayloadData) → Some x ≡ Some c → x ≡ c
    some_is x c h = cc

-- a fragment in front that does not begin is of the partially sent message
pub partial_in_front : (q : Pending) (xs : List ChunkPayloadData) (n : ℕ) (c : ChunkPayloadData) → IsSendable q xs n → next_pending q ≡ Some c
    → c.beginning_fragment ≡ false → partially_sent q ≡ Some c.message_id
partial_in_front q xs n c s h e = by q.selected refl s.ordered s.unordered
  where
    same_of : (m : ℕ) (o : Option ChunkPayloadData) → o ≡ Some c → GoesOn m o → Some m ≡ Some c.message_id
    same_of m None h g = absurd g
    same_of m (Some d) h g = let it : d ≡ c = cc in ap Some (sym g.0 ∙ ap (λ (y : ChunkPayloadData). y.message_id) it)

    front : (os us : List ChunkPayloadData) → IsWhole false n (free 0) os → IsWhole true n (free 0) us → front_of us os ≡ Some c → ⊥
    front os (u ∷ us) w v h = false≢true (sym e ∙ begins_in true n (u ∷ us) c v h)
    front os [] w v h = false≢true (sym e ∙ begins_in false n os c w h)

    by : (sel : Option Selected) → q.selected ≡ sel → IsWhole false n (stage_of false sel) q.ordered → IsWhole true n (stage_of true sel) q.unordered
        → partial_of sel ≡ Some c.message_id
    by None e w v = absurd (front q.ordered q.unordered w v (subst (λ o. next_pending_of o q ≡ Some c) e h))
    by (Some t) e w v = same_of t.message_id (next_pending q) h (goes_on q xs n t.message_id s (ap partial_of e))

pub partial_gone : (m : ℕ) (sel : Option Selected) → partial_of sel ≡ Some m → partial_of (selected_without m sel) ≡ None
partial_gone m None h = absurd (none-some m h)
partial_gone m (Some t) h = let same : t.message_id ≡ m = cc in let it : (t.message_id == m) ≡ true = grind (arith, nat_tests) in rw it refl

-- the next TSN is taken only with the partially sent message
pub kept_or_gone : (m tsn : ℕ) (q : Outbound) → (waits m q.pending ≡ true → partially_sent q.pending ≡ Some m)
    → (tsn_after m tsn q ≡ tsn) ⊎ (partially_sent (abandon_chunks m tsn q).pending ≡ None)
kept_or_gone m tsn q f = step (waits m q.pending) refl
  where
    step : (b : Bool) → waits m q.pending ≡ b → ((if b then following_tsn tsn else tsn) ≡ tsn) ⊎ (partial_of (selected_without m q.pending.selected) ≡ None)
    step true e = inr (partial_gone m q.pending.selected (f e))
    step false e = inl refl

-- a chunk in flight is of a message in flight
pub found_in : (tsn : ℕ) (xs : List ChunkPayloadData) (c : ChunkPayloadData) → find (has_tsn tsn) xs ≡ Some c → list_any (is_of c.message_id) xs ≡ true
found_in tsn [] c h = absurd (none-some c h)
found_in tsn (x ∷ xs) c h = step (has_tsn tsn x) h (found_in tsn xs c)
  where
    it : x ≡ c → (x.message_id == c.message_id) ≡ true
    it e = grind (arith, nat_tests, ap (λ (y : ChunkPayloadData). y.message_id) e)

    step : (b : Bool) → (if b then Some x else find (has_tsn tsn) xs) ≡ Some c → (find (has_tsn tsn) xs ≡ Some c → list_any (is_of c.message_id) xs ≡ true)
        → list_any (is_of c.message_id) (x ∷ xs) ≡ true
    step true h ih = let same : x ≡ c = cc in or-left (x.message_id == c.message_id) (list_any (is_of c.message_id) xs) (it same)
    step false h ih = or-right (x.message_id == c.message_id) (list_any (is_of c.message_id) xs) (ih h)
