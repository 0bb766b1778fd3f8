-- The queues of a sender beside all that it gave TSNs to, while chunks come, leave and change.
use Rattle.sctp_delivery.proofs.Names.{common_steps, ◌≡◌, ℕ, ◌+◌, ◌%◌, ◌^◌, Bool, true, false, List, [], ◌∷◌, length, Option, Some, None, inl, inr, refl, ap}
use Rattle.sctp_delivery.proofs.Names.{sym, subst, ◌∙◌, arith, not, ◌==◌, if◌then◌else◌, list_any, none-some, nat_tests, change_where, insert_before, or-left}
use Rattle.sctp_delivery.proofs.Names.{same-yes, some-same, not_both, ChunkPayloadData, data_of, Selected, as_abandoned, is_of, Outbound, abandon_chunks}
use Rattle.sctp_delivery.proofs.Names.{abandoned_of, all_started, as_sent, sent_of, terminal_chunk, tsn_after_of, with_inflight, with_terminal_chunk}
use Rattle.sctp_delivery.proofs.Names.{is_to_start, last_removed, next_pending, start_pending, with_deadline, without, without_message, IsSendable, IsWhole}
use Rattle.sctp_delivery.proofs.Names.{begun, free, partial_of, partially_sent, waits, abandoned_none, last_is_of, no_last, partial_gone, sendable-sent}
use Rattle.sctp_delivery.proofs.Names.{KeepsMessage, chunk_before, following_tsn, list_any-inserted, list_any-those}
use Rattle.std.proofs.Common.{◌⊎◌}
use Rattle.sctp_outbound.specs.payload_queue.PayloadQueue as payload
use Rattle.sctp_outbound.specs.pending_queue.PendingQueue.{selected_without}
use Rattle.sctp_outbound.proofs.lemmas.outbound_queue.Abandoned.{sendable-abandoned}
use Rattle.sctp_outbound.proofs.lemmas.outbound_queue.Sendable.{sendable-changed, sendable-marked}
use Rattle.sctp_delivery.proofs.Cases.{all_streams, where-is, where-map, where-yes}
use Rattle.sctp_delivery.proofs.Begun.{IsBegun, begins, begins-changed, begun-ended, begun-less, begun-sent}
use Rattle.sctp_delivery.proofs.InFlight.{AreKnownOn, KeepsData, abandoned-keeps, abandoned-not, known-changed, known-more, IsKnownOn}
use Rattle.sctp_delivery.proofs.OrderedEntries.{IsIndexed, IsLatest, begun_on, ranked-changed, ranked-ended, ranked-those}
use Rattle.sctp_delivery.proofs.OrderedRest.{last-rest}
use Rattle.sctp_delivery.proofs.Sending.{IsTurn, QueuedOn, queued-sent}
use Rattle.sctp_delivery.proofs.Sent.{Entry, Numbered, fragment, terminal}
use Rattle.sctp_delivery.proofs.SpreadEntries.{IsStep, step-fragment, step-terminal}
use Rattle.sctp_delivery.proofs.Turns.{Turns, turns-rest, turns-started, without-none}
use Rattle.sctp_delivery.proofs.Waiting.{Waits, between, inside, nowhere, place_of, waits-started, waits-without}
use Rattle.sctp_delivery.proofs.Every.{every-inserted}

-- the queues and the next TSN, where these entries got TSNs
pub record StandsOn (on : ℕ → Bool) (ws : List Numbered) (first : ℕ) (number : ℕ → ℕ) (q : Outbound) (next : ℕ) (sent : List Entry) : Type 0 where
  pub queued : QueuedOn on ws first number q.pending sent
  pub sendable : IsSendable q.pending q.inflight.chunks q.next_message_id
  pub known : AreKnownOn on first sent q.inflight.chunks
  pub counted : next ≡ (first + length sent) % 2 ^ 32
  pub begun' : IsBegun q.pending.ordered q.pending.unordered q.next_message_id sent
  pub ids : q.next_message_id ≡ length ws

abbrev pub Stands : List Numbered → ℕ → (ℕ → ℕ) → Outbound → ℕ → List Entry → Type 0
Stands ws first number q next sent = StandsOn all_streams ws first number q next sent

-- ## Lifetimes

pub started : (on : ℕ → Bool) (ws : List Numbered) (first : ℕ) (number : ℕ → ℕ) (now : ℕ) (q : Outbound) (next : ℕ) (sent : List Entry)
    → StandsOn on ws first number q next sent
    → StandsOn on ws first number (all_started now q) next sent
started on ws first number now q next sent s = by (q.next_unstarted == q.next_message_id)
  where
    keeps : KeepsMessage (with_deadline now)
    keeps = record { number = λ _. refl; begins = λ _. refl; ends = λ _. refl; kind = λ _. refl }

    by : (b : Bool) → StandsOn on ws first number (if b then q
        else record q { pending = start_pending q.next_unstarted now q.pending; next_unstarted = q.next_message_id }) next sent
    by true = s
    by false = record {
      queued = record {
        line = s.queued.line;
        ordered = waits-started ws now (is_to_start q.next_unstarted) q.pending.ordered (place_of false q.pending.selected sent) s.queued.ordered;
        unordered = waits-started ws now (is_to_start q.next_unstarted) q.pending.unordered (place_of true q.pending.selected sent) s.queued.unordered;
        turns = λ st. where-map (on st) (IsTurn st q.pending.ordered (number st) sent)
            (IsTurn st (change_where (is_to_start q.next_unstarted) (with_deadline now) q.pending.ordered) (number st) sent)
            (λ t. (t.0, (turns-started st now (is_to_start q.next_unstarted) q.pending.ordered t.0 (number st) t.1.0, t.1.1))) (s.queued.turns st);
        indexed = s.queued.indexed;
        ranked = ranked-changed (is_to_start q.next_unstarted) (with_deadline now)
            (record { message = λ c. refl; begins = λ r c. refl }) ws q.pending.ordered sent s.queued.ranked;
        joined = s.queued.joined;
        open' = s.queued.open';
      };
      sendable = sendable-changed q.pending.ordered q.pending.unordered q.pending.selected q.pending.ordered_room q.pending.unordered_room
          q.pending.ordered_room q.pending.unordered_room q.inflight.chunks q.next_message_id (is_to_start q.next_unstarted) (is_to_start q.next_unstarted)
          (with_deadline now) (with_deadline now) keeps keeps s.sendable;
      known = s.known;
      counted = s.counted;
      begun' = begun-less q.pending.ordered q.pending.unordered (change_where (is_to_start q.next_unstarted) (with_deadline now) q.pending.ordered)
          (change_where (is_to_start q.next_unstarted) (with_deadline now) q.pending.unordered) q.next_message_id sent
          (λ m h. sym (begins-changed (is_to_start q.next_unstarted) (with_deadline now) keeps m q.pending.ordered) ∙ h)
          (λ m h. sym (begins-changed (is_to_start q.next_unstarted) (with_deadline now) keeps m q.pending.unordered) ∙ h) s.begun';
      ids = s.ids;
    }

-- ## Sending

-- as many entries as before, or one more
abbrev pub IsOnceMore : List Entry → List Entry → Type 0
IsOnceMore sent more = (more ≡ sent) ⊎ ((x : Entry) × (more ≡ x ∷ sent))

-- as many as before, or a terminal one more
abbrev pub IsEnded : List Entry → List Entry → Type 0
IsEnded sent more = (more ≡ sent) ⊎ (more ≡ terminal ∷ sent)

pub once-ended : (sent more : List Entry) → IsEnded sent more → IsOnceMore sent more
once-ended sent more (inl e) = inl e
once-ended sent more (inr e) = inr (terminal, e)

-- the chunk, and what stands after it was sent
pub record IsSent (on : ℕ → Bool) (ws : List Numbered) (first : ℕ) (number : ℕ → ℕ) (q : Outbound) (next : ℕ) (now : ℕ) (sent : List Entry)
    (c : ChunkPayloadData) : Type 0 where
  pub write : Numbered
  pub after : List ℕ
  pub stands : StandsOn on ws first number (sent_of (Some c) q next now) (following_tsn next) (fragment (data_of (as_sent next now c)) write after ∷ sent)
  pub place : write.place ≡ c.message_id

pub sends : (on : ℕ → Bool) (ws : List Numbered) (first : ℕ) (number : ℕ → ℕ) (now : ℕ) (q : Outbound) (next : ℕ) (sent : List Entry) (c : ChunkPayloadData)
    → next_pending q.pending ≡ Some c → StandsOn on ws first number q next sent → IsSent on ws first number q next now sent c
sends on ws first number now q next sent c e s =
    let p = q.pending in
    let t = as_sent next now c in
    let it = queued-sent on ws first number sent next now s.counted p.ordered_room p.unordered_room c p.selected p.ordered p.unordered q.inflight.chunks
    q.next_message_id s.sendable e s.queued in
    record {
      write = it.0;
      after = it.1;
      stands = record {
        queued = it.2.0;
        sendable = (sendable-sent p q.inflight.chunks q.next_message_id c t refl s.sendable e).sendable;
        known = every-inserted (IsKnownOn on first (fragment (data_of t) it.0 it.1 ∷ sent)) chunk_before t q.inflight.chunks (
          (λ o. (it.0, it.1, sent, inl refl)),
          record {
            entry = fragment (data_of t) it.0 it.1;
            entries = sent;
            part = inl refl;
            number = s.counted;
            step = λ st. where-yes (on st) (IsStep st (begun_on st sent) (begun_on st (fragment (data_of t) it.0 it.1 ∷ sent)) t)
                (λ e. step-fragment st t it.0 it.1 sent
                (λ same. where-is (on t.stream_identifier) (IsIndexed (data_of t) sent) (ap on same ∙ e) it.2.0.indexed.0));
            on = λ st. refl;
            for' = (it.2.1, refl);
          },
        )
            (known-more on first (fragment (data_of t) it.0 it.1) sent q.inflight.chunks s.known);
        counted = let n = s.counted in omega (arith, n);
        begun' = begun-sent p q.inflight.chunks (insert_before chunk_before t q.inflight.chunks) q.next_message_id sent c (data_of t) it.0 it.1 refl
            (λ _. it.2.1) e s.sendable (sendable-sent p q.inflight.chunks q.next_message_id c t refl s.sendable e).sendable
            (list_any-inserted (is_of c.message_id) chunk_before t q.inflight.chunks
            ∙ or-left (c.message_id == c.message_id) (list_any (is_of c.message_id) q.inflight.chunks) (same-yes c.message_id)) s.begun';
        ids = s.ids;
      };
      place = it.2.1;
    }

-- ## Abandonment

-- what stands after messages were abandoned
pub record Abandons (on : ℕ → Bool) (ws : List Numbered) (first : ℕ) (number : ℕ → ℕ) (sent : List Entry) (q r : Outbound) (next : ℕ) : Type 0 where
  pub more : List Entry
  pub stands : StandsOn on ws first number r next more
  pub ended : IsEnded sent more
  pub last : (more ≡ sent) ⊎ (partially_sent r.pending ≡ None)
  pub none : partially_sent q.pending ≡ None → (more ≡ sent) × (partially_sent r.pending ≡ None)

pub no-abandons : (on : ℕ → Bool) (ws : List Numbered) (first : ℕ) (number : ℕ → ℕ) (sent : List Entry) (q : Outbound) (next : ℕ)
    → StandsOn on ws first number q next sent
    → Abandons on ws first number sent q q next
no-abandons on ws first number sent q next s = record { more = sent; stands = s; ended = inl refl; last = inl refl; none = λ h. (refl, h) }

pub abandons-then : (on : ℕ → Bool) (ws : List Numbered) (first : ℕ) (number : ℕ → ℕ) (sent : List Entry) (q r o : Outbound) (next last : ℕ)
    (a : Abandons on ws first number sent q r next) → Abandons on ws first number a.more r o last → Abandons on ws first number sent q o last
abandons-then on ws first number sent q r o next last a b = grind (arith, nat_tests)

pub nowhere-none : (ws : List Numbered) (cs : List ChunkPayloadData) → Waits ws cs nowhere → ⊥
nowhere-none ws [] h = h
nowhere-none ws (c ∷ cs) h = h.2.1.0

-- the rest of the message in front is gone
rest-gone : (ws : List Numbered) (m : ℕ) (cs : List ChunkPayloadData) (sent : List Entry) → Waits ws cs (inside m sent)
    → Waits ws (without_message m cs) between
rest-gone ws m cs [] h = absurd (nowhere-none ws cs h)
rest-gone ws m cs (terminal ∷ xs) h = absurd (nowhere-none ws cs h)
rest-gone ws m cs (fragment d w after ∷ xs) h =
    let g = waits-without ws m cs (inside m (fragment d w after ∷ xs)) h in
    subst (Waits ws (without_message m cs)) (ap (λ b. if b then between else inside m (fragment d w after ∷ xs)) (same-yes m)) g

pub marked : (on : ℕ → Bool) (ws : List Numbered) (first : ℕ) (number : ℕ → ℕ) (q : Outbound) (next : ℕ) (sent : List Entry) (p : ChunkPayloadData → Bool)
    (f : ChunkPayloadData → ChunkPayloadData) → KeepsMessage f → KeepsData f → StandsOn on ws first number q next sent
    → StandsOn on ws first number (with_inflight q (change_where p f q.inflight.chunks)) next sent
marked on ws first number q next sent p f keeps keeps' s = search (sendable-marked, known-changed)

-- with other chunks in flight, of no other messages
pub refilled : (on : ℕ → Bool) (ws : List Numbered) (first : ℕ) (number : ℕ → ℕ) (q : Outbound) (next : ℕ) (sent : List Entry) (cs : List ChunkPayloadData)
    → ((m : ℕ) → list_any (is_of m) cs ≡ true → list_any (is_of m) q.inflight.chunks ≡ true) → AreKnownOn on first sent cs
    → StandsOn on ws first number q next sent
    → StandsOn on ws first number (with_inflight q cs) next sent
refilled on ws first number q next sent cs fewer known s = grind (arith, nat_tests, common_steps)

module _ (on : ℕ → Bool) (ws : List Numbered) (first : ℕ) (number : ℕ → ℕ) (q : Outbound) (next : ℕ) (sent : List Entry)
    (s : StandsOn on ws first number q next sent) (m : ℕ) where
  abbrev xs : List ChunkPayloadData
  xs = change_where (is_of m) as_abandoned q.inflight.chunks

  keeps : KeepsMessage as_abandoned
  keeps = record { number = λ _. refl; begins = λ _. refl; ends = λ _. refl; kind = λ _. refl }

  -- none of it waits
  whole-abandoned : waits m q.pending ≡ false → Abandons on ws first number sent q (abandon_chunks m next q) next
  whole-abandoned e =
      let is = abandoned_none m next q s.sendable e in
      subst (λ r. Abandons on ws first number sent q r next) (sym is) (record {
        more = sent;
        stands = marked on ws first number q next sent (is_of m) as_abandoned keeps abandoned-keeps s;
        ended = inl refl;
        last = inl refl;
        none = λ h. (refl, h);
      })

  -- its rest is in front
  front : (t : Selected) (os us : List ChunkPayloadData) (ro ru n : ℕ) (ys : List ChunkPayloadData) → t.message_id ≡ m
      → IsSendable (record { ordered = os; unordered = us; selected = Some t; ordered_room = ro; unordered_room = ru }) ys n
      → QueuedOn on ws first number (record { ordered = os; unordered = us; selected = Some t; ordered_room = ro; unordered_room = ru }) sent
      → QueuedOn on ws first number (without m (record { ordered = os; unordered = us; selected = Some t; ordered_room = ro; unordered_room = ru }))
      (terminal ∷ sent)
  front t os us ro ru n ys same k h = record {
    line = h.line;
    ordered = at false (kinds-ordered t.unordered h.ordered);
    unordered = at true (kinds-unordered t.unordered h.unordered);
    turns = λ st. where-map (on st) (IsTurn st os (number st) sent) (IsTurn st (without_message m os) (number st) (terminal ∷ sent))
        (λ u. (u.0, (turned t.unordered k.ordered k.unordered st u.0 u.1.0, u.1.1))) (h.turns st);
    indexed = h.indexed;
    ranked = ranked-ended ws (without_message m os) sent (ranked-those (λ c. not (is_of m c)) ws os sent h.ranked);
    joined = h.joined;
    open' = tt;
  }
    where
      gone : selected_without m (Some t) ≡ None
      gone = ap (λ b. if b then None else Some t) (subst (λ j. (j == m) ≡ true) (sym same) (same-yes m))

      list : Bool → List ChunkPayloadData
      list true = us
      list false = os

      at : (kind : Bool) → Waits ws (without_message m (list kind)) between
          → Waits ws (without_message m (list kind)) (place_of kind (selected_without m (Some t)) (terminal ∷ sent))
      at true w = subst (λ o. Waits ws (without_message m us) (place_of true o (terminal ∷ sent))) (sym gone) w
      at false w = subst (λ o. Waits ws (without_message m os) (place_of false o (terminal ∷ sent))) (sym gone) w

      kinds-ordered : (b : Bool) → Waits ws os (if b then between else inside t.message_id sent) → Waits ws (without_message m os) between
      kinds-ordered true w = waits-without ws m os between w
      kinds-ordered false w = rest-gone ws m os sent (subst (λ j. Waits ws os (inside j sent)) same w)

      kinds-unordered : (b : Bool) → Waits ws us (if b then inside t.message_id sent else between) → Waits ws (without_message m us) between
      kinds-unordered true w = rest-gone ws m us sent (subst (λ j. Waits ws us (inside j sent)) same w)
      kinds-unordered false w = waits-without ws m us between w

      there : (cs : List ChunkPayloadData) → IsWhole true n (begun t.message_id) cs → list_any (is_of m) cs ≡ true
      there [] w = absurd w
      there (c ∷ cs) w = or-left (c.message_id == m) (list_any (is_of m) cs) (subst (λ j. (j == m) ≡ true) (sym (w.0.1 ∙ same)) (same-yes m))

      turned : (b : Bool) → IsWhole false n (if b then free 0 else begun t.message_id) os → IsWhole true n (if b then begun t.message_id else free 0) us
          → (st i : ℕ) → Turns st os i (number st) → Turns st (without_message m os) i (number st)
      turned b h2 h3 st i h6 = grind (arith, nat_tests, not_both, there, turns-rest, without-none)

  rest-abandoned : waits m q.pending ≡ true → partially_sent q.pending ≡ Some m → (o : Option ChunkPayloadData) → last_removed m q.pending ≡ o
      → Abandons on ws first number sent q
      (record q { pending = without m q.pending; inflight = with_terminal_chunk o next (payload.with_chunks q.inflight xs) })
      (following_tsn next)
  rest-abandoned e partial None f = absurd (no_last m q.pending e f)
  rest-abandoned e partial (Some c) f =
      let t = terminal_chunk next c in
      let rest = last-rest on ws first number sent m c q.pending q.inflight.chunks q.next_message_id s.sendable partial f s.queued in
      let gone : partially_sent (without m q.pending) ≡ None = partial_gone m q.pending.selected partial in
      record {
        more = terminal ∷ sent;
        stands = record {
          queued = selected q.pending.selected partial s.sendable s.queued;
          sendable = sendable-abandoned q.pending q.inflight.chunks q.next_message_id m t (last_is_of m q.pending c f) e s.sendable;
          known = every-inserted (IsKnownOn on first (terminal ∷ sent)) chunk_before t xs (
            (λ o. absurd (abandoned-not t refl o)),
            record {
              entry = terminal;
              entries = sent;
              part = inl refl;
              number = s.counted;
              step = λ st. where-yes (on st) (IsStep st (begun_on st sent) (begun_on st (terminal ∷ sent)) t)
                  (λ e. step-terminal st t sent (λ same.
                  where-is (on c.stream_identifier) (c.unordered ≡ false → IsLatest (begun_on c.stream_identifier sent) c.stream_sequence_number)
                  (ap on same ∙ e) rest.0));
              on = rest.1;
              for' = tt;
            },
          ) (known-more on first terminal sent xs
              (known-changed on first sent (is_of m) as_abandoned abandoned-keeps q.inflight.chunks s.known));
          counted = let n = s.counted in omega (arith, n);
          begun' = grind (arith, nat_tests, common_steps, begun-ended, begun-less, list_any-those, not);
          ids = s.ids;
        };
        ended = inr refl;
        last = inr gone;
        none = λ h. absurd (none-some m (sym h ∙ partial));
      }
    where
      selected : (sel : Option Selected) → partial_of sel ≡ Some m → IsSendable (record q.pending { selected = sel }) q.inflight.chunks q.next_message_id
          → QueuedOn on ws first number (record q.pending { selected = sel }) sent
          → QueuedOn on ws first number (without m (record q.pending { selected = sel })) (terminal ∷ sent)
      selected None h k r = absurd (none-some m h)
      selected (Some t) h k r =
          front t q.pending.ordered q.pending.unordered q.pending.ordered_room q.pending.unordered_room q.next_message_id q.inflight.chunks (some-same h) k r

pub abandoned : (on : ℕ → Bool) (ws : List Numbered) (first : ℕ) (number : ℕ → ℕ) (q : Outbound) (next : ℕ) (sent : List Entry)
    → StandsOn on ws first number q next sent
    → (o : Option ℕ) → ((m : ℕ) → o ≡ Some m → waits m q.pending ≡ true → partially_sent q.pending ≡ Some m)
    → Abandons on ws first number sent q (abandoned_of o next q) (tsn_after_of o next q)
abandoned h0 h1 h2 h3 h4 h5 h6 h7 h8 h9 = grind (arith, nat_tests, common_steps, no-abandons, rest-abandoned, whole-abandoned)
