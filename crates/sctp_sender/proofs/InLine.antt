-- The chunks of each message stand side by side in flight, whatever is sent, abandoned, marked or taken out.
use Rattle.sctp_sender.proofs.Names.{◌≡◌, ℕ, zero, suc, ◌+◌, ◌<◌, ◌≤◌, ◌%◌, ◌^◌, Bool, true, false, List, [], ◌∷◌, ◌++◌, length, take, drop, Option, Some, None}
use Rattle.sctp_sender.proofs.Names.{inl, inr, refl, ap, sym, subst, ◌∙◌, arith, if◌then◌else◌, ◌&&◌, ◌||◌, ◌==◌, find, list_any, false≢true, nat_tests}
use Rattle.sctp_sender.proofs.Names.{append-nil, map-append, take-append-drop, length-map, none-some, change_where, insert_before, comes_before, or-left}
use Rattle.sctp_sender.proofs.Names.{or-split, length-change_where, list_any-append, ChunkPayloadData, has_tsn, chunk_before, following_tsn, tsns, as_abandoned}
use Rattle.sctp_sender.proofs.Names.{is_of, Outbound, abandoned_of, all_started, as_sent, expired_of, message_of, sent_of, sent_next, terminal_chunk}
use Rattle.sctp_sender.proofs.Names.{to_abandon, with_inflight, with_terminal_chunk, closed_up, is_to_start, last_removed, list_to_pop, next_pending}
use Rattle.sctp_sender.proofs.Names.{start_pending, with_deadline, without, IsSendable, partially_sent, waits, last_removed_none, found_in, partial_gone}
use Rattle.sctp_sender.proofs.Names.{partial_in_front, sendable-changed, sendable-sent, KeepsMessage, tsns_from, StandSideBySide, is_number, messages_in_line}
use Rattle.sctp_sender.proofs.Names.{messages_of, number_of_half}
use Rattle.std.proofs.Common.{not}
use Rattle.std.proofs.Common.{ap₂}
use Rattle.std.proofs.lemmas.List.{append_assoc, drop-append-le, drop-map}
use Rattle.sctp_outbound.specs.outbound_queue.OutboundQueue.{is_expired_tail, passing}
use Rattle.sctp_outbound.specs.payload_queue.PayloadQueue as payload
use Rattle.sctp_outbound.specs.pending_queue.PendingQueue.{rest_after}
use Rattle.sctp_outbound.specs.pending_queue.Whole.{GoesOn, partial_of}
use Rattle.sctp_outbound.proofs.lemmas.outbound_queue.Abandoned.{last_is_of}
use Rattle.sctp_outbound.proofs.lemmas.outbound_queue.Sendable.{goes_on}
use Rattle.sctp_outbound.proofs.lemmas.outbound_queue.SideBySide.{partial_before, partial_rest, peeked_waits, some_is}
use Rattle.sctp_sender.proofs.Runs.{IsRunFrom, changed-run}
use Rattle.sctp_sender.proofs.Flights.{behind, started-inflight}

-- ## Numbers

pub shorter : (xs ys : List ℕ) → StandSideBySide (xs ++ ys) → StandSideBySide xs
shorter [] ys s = tt
shorter (m ∷ []) ys s = tt
shorter (m ∷ n ∷ ms) ys s = (λ h. s.0 (list_any-append (is_number m) (n ∷ ms) ys ∙ or-left _ _ h), shorter (n ∷ ms) ys s.1)

once-more : (b : Bool) → (b || (b || false)) ≡ (b || false)
once-more true = refl
once-more false = refl

any-twice : (p : ℕ → Bool) (xs : List ℕ) (m : ℕ) → list_any p (xs ++ m ∷ m ∷ []) ≡ list_any p (xs ++ m ∷ [])
any-twice p [] m = once-more (p m)
any-twice p (x ∷ xs) m = ap (λ k. p x || k) (any-twice p xs m)

twice : (xs : List ℕ) (m : ℕ) → StandSideBySide (xs ++ m ∷ []) → StandSideBySide (xs ++ m ∷ m ∷ [])
twice [] m s = (λ h. refl, tt)
twice (a ∷ []) m s = (λ h. s.0 (sym (any-twice (is_number a) [] m) ∙ h), twice [] m tt)
twice (a ∷ b ∷ xs) m s = (λ h. s.0 (sym (any-twice (is_number a) (b ∷ xs) m) ∙ h), twice (b ∷ xs) m s.1)

any-later : (a b : Bool) → (a || b) ≡ false → b ≡ false
any-later true b h = absurd (false≢true (sym h))
any-later false b h = h

apart : (a m : ℕ) (k : Bool) → ((a == m) || k) ≡ false → ((m == a) || false) ≡ true → ⊥
apart a m true none h = grind (arith, nat_tests, none, h)
apart a m false none h = grind (arith, nat_tests, none, h)

new-last : (xs : List ℕ) (m : ℕ) → StandSideBySide xs → list_any (is_number m) xs ≡ false → StandSideBySide (xs ++ m ∷ [])
new-last [] m s none = tt
new-last (a ∷ []) m s none = (λ h. absurd (apart a m false none h), tt)
new-last (a ∷ b ∷ xs) m s none = (
  λ h. elim (or-split (list_any (is_number a) (b ∷ xs)) ((m == a) || false) (sym (list_any-append (is_number a) (b ∷ xs) (m ∷ [])) ∙ h)) [
    | inl l ↦ s.0 l
    | inr r ↦ absurd (apart a m (list_any (is_number m) (b ∷ xs)) none r)
  ],
  new-last (b ∷ xs) m s.1 (any-later (a == m) (list_any (is_number m) (b ∷ xs)) none),
)

later : (n : ℕ) (xs : List ℕ) → StandSideBySide xs → StandSideBySide (drop n xs)
later zero xs s = s
later (suc n) [] s = tt
later (suc zero) (a ∷ []) s = tt
later (suc (suc n)) (a ∷ []) s = tt
later (suc n) (a ∷ b ∷ xs) s = later n (b ∷ xs) s.1

-- ## The messages of chunks

any-message : (m : ℕ) (cs : List ChunkPayloadData) → list_any (is_number m) (messages_of cs) ≡ list_any (is_of m) cs
any-message m [] = refl
any-message m (c ∷ cs) = ap (λ k. (c.message_id == m) || k) (any-message m cs)

pub messages-changed : (p : ChunkPayloadData → Bool) (f : ChunkPayloadData → ChunkPayloadData) → ((c : ChunkPayloadData) → (f c).message_id ≡ c.message_id)
    → (cs : List ChunkPayloadData) → messages_of (change_where p f cs) ≡ messages_of cs
messages-changed p f same [] = refl
messages-changed p f same (c ∷ cs) = by (p c) (messages-changed p f same cs)
  where
    by : (b : Bool) → messages_of (change_where p f cs) ≡ messages_of cs → messages_of ((if b then f c else c) ∷ change_where p f cs) ≡ messages_of (c ∷ cs)
    by true ih = ap₂ (λ t ts. t ∷ ts) (same c) ih
    by false ih = ap (λ ts. c.message_id ∷ ts) ih

messages-append : (xs ys : List ChunkPayloadData) → messages_of (xs ++ ys) ≡ messages_of xs ++ messages_of ys
messages-append xs ys = map-append (λ c. c.message_id) xs ys

-- of the first so many
pub messages-part-changed : (p : ChunkPayloadData → Bool) (f : ChunkPayloadData → ChunkPayloadData) → ((c : ChunkPayloadData) → (f c).message_id ≡ c.message_id)
    → (cs : List ChunkPayloadData) (i : ℕ) → messages_of (change_where p f (take i cs) ++ drop i cs) ≡ messages_of cs
messages-part-changed p f same cs i =
    messages-append (change_where p f (take i cs)) (drop i cs) ∙ ap (λ ms. ms ++ messages_of (drop i cs)) (messages-changed p f same (take i cs))
    ∙ sym (messages-append (take i cs) (drop i cs)) ∙ ap messages_of (take-append-drop i cs)

-- a chunk with the next TSN goes to the end
pub put-behind : (x : ChunkPayloadData) (cs : List ChunkPayloadData) (first : ℕ) → first < 2 ^ 32 → length cs < 2 ^ 31 → IsRunFrom first cs
    → x.tsn ≡ (first + length cs) % 2 ^ 32 → insert_before chunk_before x cs ≡ cs ++ x ∷ []
put-behind x [] first small few run is = refl
put-behind x (c ∷ cs) first small few run is =
    let head : c.tsn ≡ first = cc in
    let tail : IsRunFrom (following_tsn first) cs = cc in
    let late : comes_before x.tsn c.tsn ≡ false = ap (λ t. comes_before t c.tsn) is ∙ ap (comes_before ((first + suc (length cs)) % 2 ^ 32)) head
    ∙ behind first (suc (length cs)) small (omega arith) (omega (arith, few)) in
    let same : x.tsn ≡ (following_tsn first + length cs) % 2 ^ 32 = omega (arith, is) in
    ap (λ b. if b then x ∷ c ∷ cs else c ∷ insert_before chunk_before x cs) late
    ∙ ap (λ ds. c ∷ ds) (put-behind x cs (following_tsn first) (omega arith) (omega (arith, few)) tail same)

-- ## What is in line

abbrev pub IsInLine : Outbound → Type 0
IsInLine q = StandSideBySide (messages_in_line q)

partial-or-none : (ms : List ℕ) (h k : Option ℕ) → ((m : ℕ) → k ≡ Some m → h ≡ Some m) → StandSideBySide (ms ++ number_of_half h)
    → StandSideBySide (ms ++ number_of_half k)
partial-or-none ms h None less s = rw (append-nil ms) (shorter ms (number_of_half h) s)
partial-or-none ms h (Some m) less s = subst (λ o. StandSideBySide (ms ++ number_of_half o)) (less m refl) s

pub less-in-line : (q r : Outbound) → messages_of r.inflight.chunks ≡ messages_of q.inflight.chunks
    → ((m : ℕ) → partially_sent r.pending ≡ Some m → partially_sent q.pending ≡ Some m) → IsInLine q → IsInLine r
less-in-line q r same less s = partial-or-none (messages_of r.inflight.chunks) (partially_sent q.pending)
    (partially_sent r.pending) less (subst (λ ms. StandSideBySide (ms ++ number_of_half (partially_sent q.pending))) (sym same) s)

pub same-in-line : (q r : Outbound) → messages_of r.inflight.chunks ≡ messages_of q.inflight.chunks → partially_sent r.pending ≡ partially_sent q.pending
    → IsInLine q → IsInLine r
same-in-line q r same partial s = less-in-line q r same (λ m h. sym partial ∙ h) s

pub marked-in-line : (q r : Outbound) (p : ChunkPayloadData → Bool) (f : ChunkPayloadData → ChunkPayloadData)
    → ((c : ChunkPayloadData) → (f c).message_id ≡ c.message_id) → r ≡ with_inflight q (change_where p f q.inflight.chunks) → IsInLine q → IsInLine r
marked-in-line q r p f keeps is s =
    same-in-line q r (ap (λ (o : Outbound). messages_of o.inflight.chunks) is ∙ messages-changed p f keeps q.inflight.chunks)
    (ap (λ (o : Outbound). partially_sent o.pending) is) s

pub part-marked-in-line : (q r : Outbound) (p : ChunkPayloadData → Bool) (f : ChunkPayloadData → ChunkPayloadData) (i : ℕ) → ((c : ChunkPayloadData)
    → (f c).message_id ≡ c.message_id) → r ≡ with_inflight q (change_where p f (take i q.inflight.chunks) ++ drop i q.inflight.chunks) → IsInLine q → IsInLine r
part-marked-in-line q r p f i keeps is s =
    same-in-line q r (ap (λ (o : Outbound). messages_of o.inflight.chunks) is ∙ messages-part-changed p f keeps q.inflight.chunks i)
    (ap (λ (o : Outbound). partially_sent o.pending) is) s

pub rest-in-line : (q r : Outbound) (i : ℕ) → i ≤ length q.inflight.chunks → r ≡ with_inflight q (drop i q.inflight.chunks) → IsInLine q → IsInLine r
rest-in-line q r i le is s =
    subst IsInLine (sym is)
    (subst StandSideBySide
    (drop-append-le i (messages_of q.inflight.chunks) (number_of_half (partially_sent q.pending)) (let n = length-map q.inflight.chunks (λ c. c.message_id) in
    omega (arith, n, le)) ∙ ap (λ ms. ms ++ number_of_half (partially_sent q.pending)) (drop-map (λ c. c.message_id) i q.inflight.chunks))
    (later i (messages_in_line q) s))

started-same : (now : ℕ) (q : Outbound) → (messages_of (all_started now q).inflight.chunks ≡ messages_of q.inflight.chunks)
    × (partially_sent (all_started now q).pending ≡ partially_sent q.pending)
started-same now q = by (q.next_unstarted == q.next_message_id)
  where
    by : (b : Bool) → (messages_of (if b then q else record q
        { pending = start_pending q.next_unstarted now q.pending; next_unstarted = q.next_message_id }).inflight.chunks ≡ messages_of q.inflight.chunks)
        × (partially_sent (if b then q else record q { pending = start_pending q.next_unstarted now q.pending; next_unstarted = q.next_message_id }).pending
        ≡ partially_sent q.pending)
    by true = (refl, refl)
    by false = (refl, refl)

pub started-chunks : (now : ℕ) (q r : Outbound) → r ≡ all_started now q → tsns r.inflight.chunks ≡ tsns q.inflight.chunks
started-chunks now q r is = ap (λ (o : Outbound). tsns o.inflight.chunks) is ∙ ap (λ (p : payload.Payload). tsns p.chunks) (started-inflight now q)

pub started-in-line : (now : ℕ) (q r : Outbound) → r ≡ all_started now q → IsInLine q → IsInLine r
started-in-line now q r is s = subst IsInLine (sym is) (let e = started-same now q in same-in-line q (all_started now q) e.0 e.1 s)

pub expired-in-line : (o : Option ChunkPayloadData) (q r : Outbound) → r ≡ expired_of o q → IsInLine q → IsInLine r
expired-in-line None q r is s = subst IsInLine (sym is) s
expired-in-line (Some c) q r is s = subst IsInLine (sym is) (by c.unordered)
  where
    by : (b : Bool)
        → IsInLine (record q { pending = if b then without c.message_id q.pending else closed_up c.stream_identifier (without c.message_id q.pending) })
    by true = less-in-line q (record q { pending = without c.message_id q.pending }) refl (λ j. partial_before c.message_id j q.pending.selected) s
    by false = less-in-line q (record q { pending = closed_up c.stream_identifier (without c.message_id q.pending) }) refl
        (λ j. partial_before c.message_id j q.pending.selected) s

pub expired-chunks : (o : Option ChunkPayloadData) (q r : Outbound) → r ≡ expired_of o q → tsns r.inflight.chunks ≡ tsns q.inflight.chunks
expired-chunks None q r is = ap (λ (o : Outbound). tsns o.inflight.chunks) is
expired-chunks (Some c) q r is = ap (λ (o : Outbound). tsns o.inflight.chunks) is

-- ## Sending

started-sendable : (now : ℕ) (q : Outbound) → IsSendable q.pending q.inflight.chunks q.next_message_id
    → IsSendable (all_started now q).pending (all_started now q).inflight.chunks (all_started now q).next_message_id
started-sendable now q k = by (q.next_unstarted == q.next_message_id)
  where
    keeps : KeepsMessage (with_deadline now)
    keeps = record { number = λ _. refl; begins = λ _. refl; ends = λ _. refl; kind = λ _. refl }

    by : (b : Bool)
        → (let r : Outbound = if b then q else record q { pending = start_pending q.next_unstarted now q.pending; next_unstarted = q.next_message_id } in
        IsSendable r.pending r.inflight.chunks r.next_message_id)
    by true = k
    by false = sendable-changed q.pending.ordered q.pending.unordered q.pending.selected q.pending.ordered_room q.pending.unordered_room q.pending.ordered_room
        q.pending.unordered_room q.inflight.chunks q.next_message_id (is_to_start q.next_unstarted) (is_to_start q.next_unstarted) (with_deadline now)
        (with_deadline now) keeps keeps k

goes : (m : ℕ) (c : ChunkPayloadData) (o : Option ChunkPayloadData) → o ≡ Some c → GoesOn m o → c.message_id ≡ m
goes m c None e g = absurd g
goes m c (Some d) e g = ap (λ (x : ChunkPayloadData). x.message_id) (sym (some_is d c e)) ∙ g.0

-- a number behind those in line: that of the partially sent message, or a new one
behind-partial : (ms : List ℕ) (h k : Option ℕ) (n : ℕ) → ((m : ℕ) → h ≡ Some m → n ≡ m) → (h ≡ None → list_any (is_number n) ms ≡ false)
    → ((m : ℕ) → k ≡ Some m → n ≡ m) → StandSideBySide (ms ++ number_of_half h) → StandSideBySide ((ms ++ n ∷ []) ++ number_of_half k)
behind-partial ms h k n on new partial s = after k partial (first h on new s)
  where
    first : (h : Option ℕ) → ((m : ℕ) → h ≡ Some m → n ≡ m) → (h ≡ None → list_any (is_number n) ms ≡ false) → StandSideBySide (ms ++ number_of_half h)
        → StandSideBySide (ms ++ n ∷ [])
    first None on new s = new-last ms n (rw (append-nil ms) at s) (new refl)
    first (Some m) on new s = subst (λ j. StandSideBySide (ms ++ j ∷ [])) (sym (on m refl)) s

    after : (k : Option ℕ) → ((m : ℕ) → k ≡ Some m → n ≡ m) → StandSideBySide (ms ++ n ∷ []) → StandSideBySide ((ms ++ n ∷ []) ++ number_of_half k)
    after None partial s = rw (append-nil (ms ++ n ∷ [])) s
    after (Some m) partial s = rw (append_assoc ms (n ∷ []) (m ∷ [])) (subst (λ j. StandSideBySide (ms ++ n ∷ j ∷ [])) (partial m refl) (twice ms n s))

module _ (q : Outbound) (first : ℕ) (small : first < 2 ^ 32) (few : length q.inflight.chunks < 2 ^ 31) (run : IsRunFrom first q.inflight.chunks)
    (k : IsSendable q.pending q.inflight.chunks q.next_message_id) (s : IsInLine q) where
  sent-of-in-line : (now tsn : ℕ) (o : Option ChunkPayloadData) → next_pending q.pending ≡ o → tsn ≡ (first + length q.inflight.chunks) % 2 ^ 32
      → IsInLine (sent_of o q tsn now)
  sent-of-in-line now tsn None e is = s
  sent-of-in-line now tsn (Some c) e is =
      let p = q.pending in
      let t = as_sent tsn now c in
      let on = sendable-sent p q.inflight.chunks q.next_message_id c t refl k e in
      let at-end = put-behind t q.inflight.chunks first small few run is in
      let partial : (m : ℕ) → partial_of p.selected ≡ Some m
      → c.message_id ≡ m = λ m h. goes m c (next_pending p) e (goes_on p q.inflight.chunks q.next_message_id m k h) in
      let then' : (m : ℕ) → partially_sent (rest_after c.beginning_fragment c.unordered p) ≡ Some m → c.message_id ≡ m =
      λ m h. elim (partial_rest
      (list_to_pop p.selected c.beginning_fragment c.unordered) p.ordered p.unordered p.selected p.ordered_room p.unordered_room c m on.taken h) [
        | inl l ↦ partial m l
        | inr r ↦ r
      ] in
      let new : partially_sent p ≡ None → list_any (is_number c.message_id) (messages_of q.inflight.chunks) ≡ false =
      λ none. any-message c.message_id q.inflight.chunks ∙ fresh none (list_any (is_of c.message_id) q.inflight.chunks) refl in
      subst (λ ms. StandSideBySide (ms ++ number_of_half (partially_sent (rest_after c.beginning_fragment c.unordered p))))
      (sym (ap messages_of at-end ∙ messages-append q.inflight.chunks (t ∷ [])))
      (behind-partial (messages_of q.inflight.chunks) (partially_sent p)
      (partially_sent (rest_after c.beginning_fragment c.unordered p)) c.message_id partial new then' s)
    where
      fresh : partially_sent q.pending ≡ None → (b : Bool) → list_any (is_of c.message_id) q.inflight.chunks ≡ b → b ≡ false
      fresh none false h = refl
      fresh none true h = absurd (none-some c.message_id (sym none
          ∙ k.sent c.message_id h (peeked_waits q.pending.ordered q.pending.unordered q.pending.selected q.pending.ordered_room q.pending.unordered_room c e)))

  pub abandoned-in-line : (o : Option ℕ) (tsn : ℕ) → tsn ≡ (first + length q.inflight.chunks) % 2 ^ 32
      → ((m : ℕ) → o ≡ Some m → waits m q.pending ≡ true → partially_sent q.pending ≡ Some m) → (r : Outbound) → r ≡ abandoned_of o tsn q → IsInLine r
  abandoned-in-line None tsn is partial r e = subst IsInLine (sym e) s
  abandoned-in-line (Some m) tsn is partial r e = subst IsInLine (sym e) (by (last_removed m q.pending) refl)
    where
      xs : List ChunkPayloadData
      xs = change_where (is_of m) as_abandoned q.inflight.chunks

      same : messages_of xs ≡ messages_of q.inflight.chunks
      same = messages-changed (is_of m) as_abandoned (λ c. refl) q.inflight.chunks

      by : (o : Option ChunkPayloadData) → last_removed m q.pending ≡ o
          → IsInLine (record q { pending = without m q.pending; inflight = with_terminal_chunk o tsn (payload.with_chunks q.inflight xs) })
      by None none = less-in-line q (record q { pending = without m q.pending; inflight = payload.with_chunks q.inflight xs }) same
          (λ j. partial_before m j q.pending.selected) s
      by (Some c) some = tail (waits m q.pending) refl
        where
          tail : (b : Bool) → waits m q.pending ≡ b
              → IsInLine (record q { pending = without m q.pending; inflight = with_terminal_chunk (Some c) tsn (payload.with_chunks q.inflight xs) })
          tail false w = let none = last_removed_none m q.pending w in absurd (cc)
          tail true w =
              let t = terminal_chunk tsn c in
              let is-partial : partially_sent q.pending ≡ Some m = partial m refl w in
              let is-of : c.message_id ≡ m = last_is_of m q.pending c some in
              let at-end = put-behind t xs first small (omega (arith, few, n)) xs-run (omega (arith, is, n)) in
              let gone : partially_sent (without m q.pending) ≡ None = partial_gone m q.pending.selected is-partial in
              subst (λ ms. StandSideBySide (ms ++ number_of_half (partially_sent (without m q.pending))))
              (sym (ap messages_of at-end ∙ messages-append xs (t ∷ []) ∙ ap (λ ms. ms ++ c.message_id ∷ []) same))
              (behind-partial (messages_of q.inflight.chunks) (partially_sent q.pending) (partially_sent (without m q.pending)) c.message_id (λ j h. is-of
              ∙ (let u : Some m ≡ Some j = sym is-partial ∙ h in cc)) (λ none. absurd (none-some m (sym none ∙ is-partial)))
              (λ j h. absurd (none-some j (sym gone ∙ h))) s)
            where
              n : length xs ≡ length q.inflight.chunks
              n = length-change_where (is_of m) as_abandoned q.inflight.chunks

              xs-run : IsRunFrom first xs
              xs-run = changed-run (is_of m) as_abandoned (λ c. refl) q.inflight.chunks ∙ run ∙ ap (tsns_from first) (sym n)

-- the whole of a send
pub sent-in-line : (q : Outbound) (first : ℕ) → first < 2 ^ 32 → length q.inflight.chunks < 2 ^ 31 → IsRunFrom first q.inflight.chunks
    → IsSendable q.pending q.inflight.chunks q.next_message_id → IsInLine q → (now tsn : ℕ) → tsn ≡ (first + length q.inflight.chunks) % 2 ^ 32 → (r : Outbound)
    → r ≡ sent_next q tsn now → IsInLine r
sent-in-line q first small few run k s now tsn is r e =
    let in' = started-inflight now q in
    let n : length (all_started now q).inflight.chunks ≡ length q.inflight.chunks = ap (λ (p : payload.Payload). length p.chunks) in' in
    let run' : IsRunFrom first (all_started now q).inflight.chunks = subst (λ (p : payload.Payload). IsRunFrom first p.chunks) (sym in') run in
    subst IsInLine (sym e)
    (sent-of-in-line (all_started now q) first small (omega (arith, few, n)) run' (started-sendable now q k)
    (started-in-line now q (all_started now q) refl s) now tsn (next_pending (all_started now q).pending) refl (omega (arith, is, n)))

-- the message of a chunk in flight waits only where it is partially sent
pub found-partial : (q : Outbound) → IsSendable q.pending q.inflight.chunks q.next_message_id → (tsn : ℕ) (o : Option ChunkPayloadData)
    → find (has_tsn tsn) q.inflight.chunks ≡ o → (m : ℕ) → to_abandon o ≡ Some m → waits m q.pending ≡ true → partially_sent q.pending ≡ Some m
found-partial q k tsn None e m h w = absurd (none-some m h)
found-partial q k tsn (Some c) e m h w = step c.abandoned h
  where
    there : c.message_id ≡ m → list_any (is_of m) q.inflight.chunks ≡ true
    there same = subst (λ j. list_any (is_of j) q.inflight.chunks ≡ true) same (found_in tsn q.inflight.chunks c e)

    step : (b : Bool) → (if b then None else Some c.message_id) ≡ Some m → partially_sent q.pending ≡ Some m
    step true h = absurd (none-some m h)
    step false h = let same : c.message_id ≡ m = cc in k.sent m (there same) w

not-first : (a b : Bool) → (not a && b) ≡ true → a ≡ false
not-first true b h = absurd (false≢true h)
not-first false b h = refl

-- a message whose rest is in front is partially sent
pub tail-partial : (q : Outbound) → IsSendable q.pending q.inflight.chunks q.next_message_id → (now : ℕ) (o : Option ChunkPayloadData)
    → next_pending q.pending ≡ o → (m : ℕ) → message_of (passing (is_expired_tail now) o) ≡ Some m → partially_sent q.pending ≡ Some m
tail-partial q k now None e m h = absurd (none-some m h)
tail-partial q k now (Some c) e m h = step (is_expired_tail now c) refl h
  where
    step : (b : Bool) → is_expired_tail now c ≡ b → message_of (if b then Some c else None) ≡ Some m → partially_sent q.pending ≡ Some m
    step true t h = partial_in_front q.pending q.inflight.chunks q.next_message_id c k e (not-first c.beginning_fragment _ t) ∙ h
    step false t h = absurd (none-some m h)
