-- A write waits behind what waits already, and a message that was not sent leaves.
use Rattle.sctp_delivery.proofs.Names.{nat_tests, common_steps, ◌≡◌, ℕ, ◌+◌, ◌%◌, ◌^◌, Bool, true, false, List, [], ◌∷◌, ◌++◌, map, Option, Some, None, refl}
use Rattle.sctp_delivery.proofs.Names.{ap, sym, subst, ◌∙◌, arith, not, ◌==◌, ◌&&◌, if◌then◌else◌, list_any, none-some, change_where, by_same, or-left, same-is}
use Rattle.sctp_delivery.proofs.Names.{same-yes, some-same, fails, not_both, ChunkPayloadData, Selected, is_of, Outbound, append_chunks, expired_of}
use Rattle.sctp_delivery.proofs.Names.{with_message, with_message_id, closed_up, next_pending, one_lower, without, without_message, GoesOn, IsMessage, goes_on}
use Rattle.sctp_delivery.proofs.Names.{made, KeepsMessage, is_on, list_any-those}
use Rattle.sctp_outbound.specs.payload_queue.PayloadQueue as payload
use Rattle.sctp_outbound.proofs.lemmas.outbound_queue.Sendable.{sendable-ordered_changed, sendable-pushed, sendable-without}
use Rattle.sctp_delivery.proofs.Cases.{Where, at-test, where-is, where-map, where-yes}
use Rattle.sctp_delivery.proofs.Begun.{begins, begins-changed, begun-less, begun-ordered, begun-unordered}
use Rattle.sctp_delivery.proofs.OrderedEntries.{ranked-changed, ranked-more, ranked-those, ranked-written}
use Rattle.sctp_delivery.proofs.Queues.{StandsOn}
use Rattle.sctp_delivery.proofs.Sending.{IsTurn}
use Rattle.sctp_delivery.proofs.Sent.{Entry, Numbered, line-more}
use Rattle.sctp_delivery.proofs.Turns.{Turns, counts, number_after, turns-behind, turns-first, turns-lower, turns-other, without-none}
use Rattle.sctp_delivery.proofs.Waiting.{Waits, between, lower, place_of, waits-behind, waits-lower, waits-more, waits-without}

-- ## A write

pub pushed : (on : ℕ → Bool) (ws : List Numbered) (first : ℕ) (number number' : ℕ → ℕ) (q : Outbound) (next : ℕ) (sent : List Entry)
    → StandsOn on ws first number q next sent → (w : Numbered) (c : ChunkPayloadData) (cs : List ChunkPayloadData) → IsMessage c.unordered false (c ∷ cs)
    → c.stream_identifier ≡ w.stream → Waits (w ∷ ws) (map (with_message_id q.next_message_id) (c ∷ cs)) between
    → (c.unordered ≡ true → (r : ℕ) → number' r ≡ number r)
    → (c.unordered ≡ false → (r : ℕ) → Turns r (map (with_message_id q.next_message_id) (c ∷ cs)) (number r) (number' r))
    → StandsOn on (w ∷ ws) first number' (with_message (c ∷ cs) q) next sent
pushed on ws first number number' q next sent s w c cs message stream waits' same turns' = at-test
    (λ b. IsMessage b false (c ∷ cs) → StandsOn on (w ∷ ws) first number'
    (record q { pending = append_chunks b (map (with_message_id q.next_message_id) (c ∷ cs)) q.pending; next_message_id = q.next_message_id + 1 })
    next sent) c.unordered
    (λ e m. record {
      queued = record {
        line = line-more w ws first sent s.queued.line;
        ordered = waits-more w ws q.pending.ordered (place_of false q.pending.selected sent) s.queued.ordered;
        unordered = grind (arith, nat_tests, common_steps, waits-behind, waits-more);
        turns = λ r. subst (λ k. Where (on r) (IsTurn r q.pending.ordered k sent)) (sym (same e r)) (s.queued.turns r);
        indexed = s.queued.indexed;
        ranked = ranked-more w ws q.pending.ordered sent s.queued.ranked;
        joined = s.queued.joined;
        open' = s.queued.open';
      };
      sendable = sendable-pushed true q.pending.ordered q.pending.unordered q.pending.selected q.pending.ordered_room q.pending.unordered_room
          q.inflight.chunks
          (c ∷ cs) q.next_message_id m s.sendable;
      known = s.known;
      counted = s.counted;
      begun' = begun-unordered q.pending.ordered q.pending.unordered q.next_message_id sent (c ∷ cs) s.begun';
      ids = omega arith;
    })
    (λ e m. record {
      queued = record {
        line = line-more w ws first sent s.queued.line;
        ordered = grind (arith, nat_tests, common_steps, waits-behind, waits-more);
        unordered = waits-more w ws q.pending.unordered (place_of true q.pending.selected sent) s.queued.unordered;
        turns = λ r. where-map (on r) (IsTurn r q.pending.ordered (number r) sent)
            (IsTurn r (q.pending.ordered ++ map (with_message_id q.next_message_id) (c ∷ cs)) (number' r) sent) (λ t. (
              t.0,
              (
                turns-behind r q.pending.ordered (map (with_message_id q.next_message_id) (c ∷ cs)) t.0 (number r) (number' r) t.1.0 (turns' e r),
                t.1.1,
              ),
            )) (s.queued.turns r);
        indexed = s.queued.indexed;
        ranked = ranked-written w ws q.pending.ordered sent q.next_message_id c cs false s.ids stream m s.queued.ranked;
        joined = s.queued.joined;
        open' = s.queued.open';
      };
      sendable = sendable-pushed false q.pending.ordered q.pending.unordered q.pending.selected q.pending.ordered_room q.pending.unordered_room
          q.inflight.chunks (c ∷ cs) q.next_message_id m s.sendable;
      known = s.known;
      counted = s.counted;
      begun' = begun-ordered q.pending.ordered q.pending.unordered q.next_message_id sent (c ∷ cs) s.begun';
      ids = omega arith;
    }) message

-- ## Expiry

-- what is left of ordered chunks without the message of the first one, the later numbers of its stream closed up
abbrev lowered : ChunkPayloadData → List ChunkPayloadData → List ChunkPayloadData
lowered o os = change_where (is_on o.stream_identifier) one_lower (without_message o.message_id (o ∷ os))

-- the numbers after an ordered message of this stream left unsent
pub record IsLower (on : ℕ → Bool) (s : ℕ) (number number' : ℕ → ℕ) : Type 0 where
  pub here : Where (on s) (number' s ≡ lower (number s))
  pub elsewhere : (r : ℕ) → (r ≡ s → ⊥) → number' r ≡ number r

module _ (on : ℕ → Bool) (ws : List Numbered) (first : ℕ) (number number' : ℕ → ℕ) (ro ru : ℕ) (fl : payload.Payload) (id un next : ℕ) (sent : List Entry) where
  abbrev queue : Option Selected → List ChunkPayloadData → List ChunkPayloadData → Outbound
  queue sel os us = record { pending = made os us sel ro ru; inflight = fl; next_message_id = id; next_unstarted = un }

  unordered-expired : (u : ChunkPayloadData) (os us : List ChunkPayloadData) → StandsOn on ws first number (queue None os (u ∷ us)) next sent
      → ((r : ℕ) → number' r ≡ number r) → StandsOn on ws first number' (expired_of (Some u) (queue None os (u ∷ us))) next sent
  unordered-expired u os us s same = subst (λ b. StandsOn on ws first number' (record (queue None os (u ∷ us)) {
    pending =
        if b then without u.message_id (made os (u ∷ us) None ro ru) else closed_up u.stream_identifier (without u.message_id (made os (u ∷ us) None ro ru));
  }) next sent) (sym s.sendable.unordered.1) (record {
    queued = record {
      line = s.queued.line;
      ordered = waits-without ws u.message_id os between s.queued.ordered;
      unordered = waits-without ws u.message_id (u ∷ us) between s.queued.unordered;
      turns = λ r.
          subst (λ cs. Where (on r) (IsTurn r cs (number' r) sent)) (sym (without-none u.message_id os none))
          (subst (λ k. Where (on r) (IsTurn r os k sent)) (sym (same r)) (s.queued.turns r));
      indexed = s.queued.indexed;
      ranked = ranked-those (λ c. not (is_of u.message_id c)) ws os sent s.queued.ranked;
      joined = s.queued.joined;
      open' = s.queued.open';
    };
    sendable = sendable-without os (u ∷ us) None ro ru fl.chunks id u.message_id s.sendable;
    known = s.known;
    counted = s.counted;
    begun' = grind (arith, nat_tests, common_steps, begun-less, list_any-those, not);
    ids = s.ids;
  })
    where
      none : list_any (is_of u.message_id) os ≡ false
      none = fails (list_any (is_of u.message_id) os) (λ e.
          not_both (sym (s.sendable.apart u.message_id e) ∙ or-left (u.message_id == u.message_id) (list_any (is_of u.message_id) us) (same-yes u.message_id)))

  ordered-expired : (o : ChunkPayloadData) (os : List ChunkPayloadData) → o.beginning_fragment ≡ true
      → StandsOn on ws first number (queue None (o ∷ os) []) next sent → IsLower on o.stream_identifier number number'
      → StandsOn on ws first number' (expired_of (Some o) (queue None (o ∷ os) [])) next sent
  ordered-expired o os begins-it s lowers = subst (λ b. StandsOn on ws first number' (record (queue None (o ∷ os) []) {
    pending =
        if b then without o.message_id (made (o ∷ os) [] None ro ru) else closed_up o.stream_identifier (without o.message_id (made (o ∷ os) [] None ro ru));
  }) next sent) (sym s.sendable.ordered.1) (record {
    queued = record {
      line = s.queued.line;
      ordered =
          waits-lower ws o.stream_identifier (without_message o.message_id (o ∷ os)) between (waits-without ws o.message_id (o ∷ os) between s.queued.ordered);
      unordered = s.queued.unordered;
      turns = λ r. by_same r o.stream_identifier
          (λ e. subst (λ k. Where (on k) (IsTurn k (lowered o os) (number' k) sent)) (sym e) here)
          (λ differ e. elsewhere r differ);
      indexed = s.queued.indexed;
      ranked = ranked-changed (is_on o.stream_identifier) one_lower (record { message = λ c. refl; begins = λ r c. refl }) ws
          (without_message o.message_id (o ∷ os)) sent (ranked-those (λ c. not (is_of o.message_id c)) ws (o ∷ os) sent s.queued.ranked);
      joined = s.queued.joined;
      open' = s.queued.open';
    };
    sendable = sendable-ordered_changed (without_message o.message_id (o ∷ os)) [] None ro ru fl.chunks id (is_on o.stream_identifier) one_lower keeps
        (sendable-without (o ∷ os) [] None ro ru fl.chunks id o.message_id s.sendable);
    known = s.known;
    counted = s.counted;
    begun' = begun-less (o ∷ os) [] (lowered o os) [] id sent (λ k h. list_any-those (begins k) (λ c. not (is_of o.message_id c)) (o ∷ os)
        (sym (begins-changed (is_on o.stream_identifier) one_lower keeps k (without_message o.message_id (o ∷ os))) ∙ h)) (λ k h. h) s.begun';
    ids = s.ids;
  })
    where
      keeps : KeepsMessage one_lower
      keeps = record { number = λ _. refl; begins = λ _. refl; ends = λ _. refl; kind = λ _. refl }

      here : Where (on o.stream_identifier) (IsTurn o.stream_identifier (lowered o os) (number' o.stream_identifier) sent)
      here = where-yes (on o.stream_identifier) (IsTurn o.stream_identifier (lowered o os) (number' o.stream_identifier) sent) (λ e.
          let st = o.stream_identifier in
          let t = where-is (on st) (IsTurn st (o ∷ os) (number st) sent) e (s.queued.turns st) in
          let down = where-is (on st) (number' st ≡ lower (number st)) e lowers.here in
          let counted : counts st o ≡ true = ap (λ b. b && o.beginning_fragment) (same-yes st) ∙ begins-it in
          let gone = subst (λ b. Turns st (without_message o.message_id (o ∷ os)) (number_after b t.0) (number st)) counted
          (turns-first st id false o os t.0 (number st) s.sendable.ordered t.1.0) in
          let is = t.1.1 in (
            lower ((t.0 + 1) % 2 ^ 16),
            (
              subst (Turns st (lowered o os) (lower ((t.0 + 1) % 2 ^ 16))) (sym down)
                  (turns-lower st (without_message o.message_id (o ∷ os)) ((t.0 + 1) % 2 ^ 16) (number st) gone),
              omega (arith, is),
            ),
          ))

      elsewhere : (r : ℕ) → (r ≡ o.stream_identifier → ⊥) → Where (on r) (IsTurn r (lowered o os) (number' r) sent)
      elsewhere r differ = where-map (on r) (IsTurn r (o ∷ os) (number r) sent) (IsTurn r (lowered o os) (number' r) sent) (λ t.
          let not-on : (o.stream_identifier == r) ≡ false = fails (o.stream_identifier == r) (λ e. differ (sym (same-is o.stream_identifier r e))) in
          let uncounted : counts r o ≡ false = ap (λ b. b && o.beginning_fragment) not-on in
          let gone = subst (λ b. Turns r (without_message o.message_id (o ∷ os)) (number_after b t.0) (number r)) uncounted
          (turns-first r id false o os t.0 (number r) s.sendable.ordered t.1.0) in (
            t.0,
            (
              subst (Turns r (lowered o os) t.0) (sym (lowers.elsewhere r differ))
                  (turns-other r o.stream_identifier differ (without_message o.message_id (o ∷ os)) t.0 (number r) gone),
              t.1.1,
            ),
          )) (s.queued.turns r)

  -- the message in front, which is unsent
  front-expired : (sel : Option Selected) (os us : List ChunkPayloadData) (c : ChunkPayloadData) → next_pending (made os us sel ro ru) ≡ Some c
      → c.beginning_fragment ≡ true → StandsOn on ws first number (queue sel os us) next sent → (c.unordered ≡ true → (r : ℕ) → number' r ≡ number r)
      → (c.unordered ≡ false → IsLower on c.stream_identifier number number') → StandsOn on ws first number' (expired_of (Some c) (queue sel os us)) next sent
  front-expired (Some t) os us c e begins s same lowers =
      absurd (goes (next_pending (made os us (Some t) ro ru)) e (goes_on (made os us (Some t) ro ru) fl.chunks id t.message_id s.sendable refl))
    where
      goes : (o : Option ChunkPayloadData) → o ≡ Some c → GoesOn t.message_id o → ⊥
      goes None h g = g
      goes (Some d) h g = let it : d ≡ c = some-same h in not_both (sym g.1 ∙ ap (λ (x : ChunkPayloadData). x.beginning_fragment) it ∙ begins)
  front-expired None os (u ∷ us) c e begins s same lowers =
      let it : u ≡ c = some-same e in
      subst (λ x. StandsOn on ws first number' (expired_of (Some x) (queue None os (u ∷ us))) next sent) it
      (unordered-expired u os us s (same (ap (λ (x : ChunkPayloadData). x.unordered) (sym it) ∙ s.sendable.unordered.1)))
  front-expired None (o ∷ os) [] c e begins s same lowers =
      let it : o ≡ c = some-same e in
      subst (λ x. StandsOn on ws first number' (expired_of (Some x) (queue None (o ∷ os) [])) next sent) it
      (ordered-expired o os (ap (λ (x : ChunkPayloadData). x.beginning_fragment) it ∙ begins) s
      (subst (λ (x : ChunkPayloadData). IsLower on x.stream_identifier number number') (sym it)
      (lowers (ap (λ (x : ChunkPayloadData). x.unordered) (sym it) ∙ s.sendable.ordered.1))))
  front-expired None [] [] c e begins s same lowers = absurd (none-some c e)

pub expired : (on : ℕ → Bool) (ws : List Numbered) (first : ℕ) (number number' : ℕ → ℕ) (q : Outbound) (next : ℕ) (sent : List Entry)
    → StandsOn on ws first number q next sent
    → (c : ChunkPayloadData) → next_pending q.pending ≡ Some c → c.beginning_fragment ≡ true → (c.unordered ≡ true → (r : ℕ) → number' r ≡ number r)
    → (c.unordered ≡ false → IsLower on c.stream_identifier number number') → StandsOn on ws first number' (expired_of (Some c) q) next sent
expired on ws first number number' q next sent s c e begins same lowers =
    front-expired on ws first number number' q.pending.ordered_room q.pending.unordered_room q.inflight q.next_message_id q.next_unstarted next sent
    q.pending.selected q.pending.ordered q.pending.unordered c e begins s same lowers
