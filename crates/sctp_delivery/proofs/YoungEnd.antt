-- Reliable sessions of a whole life: where nothing waits, nothing is in flight and nothing is held, each write was read exactly once.
use Rattle.sctp_delivery.proofs.Names.{common_steps, nat_tests, ◌⊎◌, ◌≡◌, ℕ, zero, suc, ◌+◌, ◌-◌, ◌%◌, ◌<◌, ◌≤◌, ◌^◌, Bool, true, false, List, [], ◌∷◌, length}
use Rattle.sctp_delivery.proofs.Names.{Option, Some, None, refl, ap, sym, subst, ◌∙◌, arith, inl, inr, cases_lt, ◌==◌, ◌||◌, if◌then◌else◌, list_all, list_any}
use Rattle.sctp_delivery.proofs.Names.{filter, Contains, StandAt, sum_by, sum_by-cons, insert_before, both, not_both, or-left, or-right, or-split, same-is}
use Rattle.sctp_delivery.proofs.Names.{same-yes, tsn, ChunkPayloadData, ChunkSet, Data, data_of, is_on, has_tsn, is_complete, is_one_message, completes}
use Rattle.sctp_delivery.proofs.Names.{Message, fragments_on, fragments_read, held_weight, message_on, stream_of, New, Reception, Stand, Ledger, ReceiverCall}
use Rattle.sctp_delivery.proofs.Names.{SenderCall, Call, RunsTo, Session, SenderFollows, ReceiverFollows, at_start, of_receiver, of_sender, is_reliable}
use Rattle.sctp_delivery.proofs.Names.{is_reliable_at_receiver, is_reliable_at_sender, is_all_acknowledged, holds_nothing, slice_index_or, Pending, Unknown}
use Rattle.sctp_util.specs.Serial.{at_or_before, comes_before}
use Rattle.sctp_receiver.specs.ReceiverRuns.{with_message}
use Rattle.sctp_receiver.proofs.Handed.{taken-more}
use Rattle.sctp_delivery.specs.Complete.{IsAllReadWhereSettled}
use Rattle.sctp_delivery.specs.ReceiverCalls as incoming
use Rattle.sctp_delivery.specs.Recent.{Aged, AreRecent, AreYoung, HoldsRecent, IsRecent, IsYoung, WhileReliableAndYoung, aged_after}
use Rattle.sctp_delivery.specs.Session.{count_in_flight}
use Rattle.sctp_delivery.proofs.AbandonedMessages.{AreBegunOrGone, stays-begun-or-gone}
use Rattle.sctp_delivery.proofs.AllBegun.{begins_in}
use Rattle.sctp_delivery.proofs.ArrivedTsns.{IsArrived, IsKnown, advanced}
use Rattle.sctp_delivery.proofs.Begun.{AreOnce, begins, was_begun}
use Rattle.sctp_delivery.proofs.Calls.{length-forgotten, numbered_after}
use Rattle.sctp_delivery.proofs.Cases.{all_streams, by-test}
use Rattle.sctp_delivery.proofs.Delivered.{EachSentFrom, Holds, Sends, follows, inner-of, next_tsn, sender-step}
use Rattle.sctp_delivery.proofs.Every.{Every, every-contained, every-inserted, one-of}
use Rattle.sctp_delivery.proofs.FlightPlaces.{IsSet, sender-set}
use Rattle.sctp_delivery.proofs.Kept.{IsKeptIn, held-weighs, kept-first, receiver-kept, sender-kept}
use Rattle.sctp_delivery.proofs.KeptSessions.{IsIdle, begun-part, idle-of, none-held, slice-itself}
use Rattle.sctp_delivery.proofs.NoneAbandoned.{none-by}
use Rattle.sctp_delivery.proofs.OnceWritten.{EachRead, places, stand}
use Rattle.sctp_delivery.proofs.OrderedEntries.{AreIndexed}
use Rattle.sctp_delivery.proofs.OrderedPlaces.{place-at}
use Rattle.sctp_delivery.proofs.PassedMessages.{is_gone}
use Rattle.sctp_delivery.proofs.Queues.{IsOnceMore}
use Rattle.sctp_delivery.proofs.ReadOnce.{one}
use Rattle.sctp_delivery.proofs.Recent.{IsNear, any, near-first, receiver-near, sack-fits, sender-near}
use Rattle.sctp_delivery.proofs.Sent.{Entry, IsLine, IsPart, Numbered, contains-more, fragment, part-length, part-line, same-parts}
use Rattle.sctp_delivery.proofs.TakenCalls.{Knows}
use Rattle.sctp_delivery.proofs.TakenTsns.{come}
use Rattle.sctp_delivery.proofs.TsnPlaces.{IsGiven, base, upto-is, upto-yes}
use Rattle.sctp_delivery.proofs.TakenAgain.{Flies, flies}
use Rattle.sctp_delivery.proofs.YoungOwn.{AreAt, AreRead, AreReadOn, IsOwned, IsWhole, absent, all-recent, all-whole, apart, held_with, now-held, owned-first}
use Rattle.sctp_delivery.proofs.YoungOwn.{reads-are, receiver-owned, sender-owned}
use Rattle.sctp_delivery.proofs.YoungReads.{IsYoungSession, each-from, floor, more-long, receiver-young, recent-place, sender-young, young-first}

-- ## What came

-- what stands at the place is acknowledged, or came
abbrev HasCome : (first a q : ℕ) → Session → Type 0
HasCome first a q s = (q < a) ⊎ Knows (tsn (base first) (q + 1)) s.receiving.receiver

-- the next TSN did not come
unknown-next : (p n t cumulative : ℕ) (beyond : List ℕ) → n < 2 ^ 31 → IsArrived p n any cumulative beyond → t ≡ tsn p (n + 1)
    → come t cumulative beyond ≡ true → ⊥
unknown-next p n t cumulative beyond few h is e = grind (arith, nat_tests, common_steps, or-split, upto-is, one-of, same-is)

flies-at : (first : ℕ) (s : Session) (sent : List Entry) (e : IsSet first s.sending.sender.flight sent) (q : ℕ) → e.acked ≤ q → q < length sent
    → Flies (tsn (base first) (q + 1)) s
flies-at first s sent e q le lt =
    let total = e.total in
    let is = e.is in
    record { place = q + 1 - e.acked; some = omega (arith, le); within = omega (arith, total, le, lt); is = omega (arith, is, le) }

-- ## A call of the sender

module _ (first : ℕ) (call : SenderCall) (old new : Session) (ns : List Numbered) (sent : List Entry) (f : SenderFollows call old new)
    (h : Holds first old ns sent)
    (few : count_in_flight new < 2 ^ 31) (j : IsNear old) (k : IsNear new) (e : IsSet first old.sending.sender.flight sent) where
  abbrev x : Sends all_streams first call old new ns sent
  x = sender-step first call old new ns sent f h

  set-after : IsSet first new.sending.sender.flight x.more
  set-after =
      sender-set all_streams first call old new ns sent f h j.few few j.regular.regular.numbered (λ k gone e. (sack-fits old new few j call f k gone e).0) e

  same : new.receiving ≡ old.receiving
  same = ap (λ (s : Session). s.receiving) f.after

  reached : set-after.acked ≤ e.acked + j.arrived.place
  reached = grind (arith, nat_tests, common_steps, more-long, set-after, same)

  came-before : (q : ℕ) → q < length x.more → HasCome first set-after.acked q new → (q < length sent) × HasCome first e.acked q old
  came-before q lt (inl b) =
      let r = reached in
      let total = e.total in
      let within = j.arrived.within in
      (omega (arith, b, r, total, within), by (cases_lt q e.acked))
    where
      by : (q < e.acked) ⊎ (e.acked ≤ q) → HasCome first e.acked q old
      by (inl y) = inl y
      by (inr y) =
          let r = reached in
          let is = e.is in
          let within = j.arrived.within in
          let was = j.few in
          inr (or-left (at_or_before (tsn (base first) (q + 1)) old.receiving.receiver.cumulative_tsn) _
          (upto-yes old.sending.sender.flight.acked_tsn (q + 1 - e.acked) j.arrived.place (omega (arith, is, y)) j.arrived.is (omega (arith, b, r, within, was))
          (omega (arith, within, was)) (omega (arith, b, r, y))))
  came-before q lt (inr b) =
      let y = subst (λ (r : Stand). Knows (tsn (base first) (q + 1)) r.receiver) same b in
      let hi = (more-long sent x.more x.once).1 in (
        elim (cases_lt q (length sent)) [
          | inl z ↦ z
          | inr z ↦
              let total = e.total in
              let is = e.is in
              absurd (unknown-next old.sending.sender.flight.acked_tsn (count_in_flight old) (tsn (base first) (q + 1)) old.receiving.receiver.cumulative_tsn
              old.receiving.receiver.beyond j.few j.arrived (omega (arith, total, is, hi, lt, z)) y)
        ],
        inr y,
      )

-- ## A chunk comes

module _ (old new : Session) (few : count_in_flight new < 2 ^ 31) (j : IsNear old) (c : ChunkPayloadData) (said : Bool)
    (f : ReceiverFollows (incoming.takes c (New said)) old new) (q : IsRecent (of_receiver (incoming.takes c (New said))) old) where
  abbrev r : Reception
  r = old.receiving.receiver

  abbrev p : ℕ
  p = old.sending.sender.flight.acked_tsn

  abbrev n : ℕ
  n = count_in_flight old

  abbrev K : ℕ → Bool
  K u = come u old.receiving.receiver.cumulative_tsn old.receiving.receiver.beyond || (u == c.tsn)

  each-known : (ts : List ℕ) → ((t : ℕ) → list_any (λ u. u == t) ts ≡ true → K t ≡ true) → Every (IsKnown p n any) ts → Every (IsKnown p n K) ts
  each-known [] g h = tt
  each-known (t ∷ ts) g h =
      let k = h.0 in (
        record { place = k.place; some = k.some; within = k.within; is = k.is; so = g t (or-left (t == t) (list_any (λ u. u == t) ts) (same-yes t)) },
        each-known ts (λ u e. g u (or-right (t == u) (list_any (λ v. v == u) ts) e)) h.1,
      )

  after : IsArrived p n K new.receiving.receiver.cumulative_tsn new.receiving.receiver.beyond
  after =
      to _ f.step.receiver.after (advanced p n K r.cumulative_tsn (insert_before comes_before c.tsn r.beyond) j.few beside)
    where
      a : IsGiven p n c.tsn
      a = flies old new few j c said f q

      beside : IsArrived p n K r.cumulative_tsn (insert_before comes_before c.tsn r.beyond)
      beside = record {
        place = j.arrived.place;
        within = j.arrived.within;
        is = j.arrived.is;
        so_far = λ k pos le.
            let within = j.arrived.within in
            let was = j.few in
            or-left (come (tsn p k) r.cumulative_tsn r.beyond) _ (or-left (at_or_before (tsn p k) r.cumulative_tsn) _
            (upto-yes p k j.arrived.place refl j.arrived.is (omega (arith, le, within, was)) (omega (arith, within, was)) le));
        each =
            every-inserted (IsKnown p n K) comes_before c.tsn r.beyond
            (record { place = a.place; some = a.some; within = a.within; is = a.is; so = or-right (come c.tsn r.cumulative_tsn r.beyond) _ (same-yes c.tsn) })
            (each-known r.beyond (λ t e. or-left (come t r.cumulative_tsn r.beyond) _ (or-right (at_or_before t r.cumulative_tsn) _ e)) j.arrived.each);
      }

      to : (y : Reception) → new.receiving.receiver ≡ y → IsArrived p n K y.cumulative_tsn y.beyond
          → IsArrived p n K new.receiving.receiver.cumulative_tsn new.receiving.receiver.beyond
      to y is h = subst (λ (z : Reception). IsArrived p n K z.cumulative_tsn z.beyond) (sym is) h

  known-then : (u : ℕ) → Flies u old → Knows u new.receiving.receiver → Knows u old.receiving.receiver ⊎ (c.tsn ≡ u)
  unfolding at_or_before
  known-then u g e = split (elim (or-split (at_or_before u new.receiving.receiver.cumulative_tsn) (list_any (λ v. v == u) new.receiving.receiver.beyond) e) [
    | inl b ↦
        let within = after.within in
        let was = j.few in
        let upto = g.within in
        let le = upto-is p g.place after.place g.is after.is (omega (arith, upto, was)) (omega (arith, within, was)) b in
        subst (λ v. K v ≡ true) (sym g.is) (after.so_far g.place g.some le)
    | inr b ↦
        let x = one-of (IsKnown p n K) (λ v. v == u) new.receiving.receiver.beyond b after.each in
        subst (λ v. K v ≡ true) (same-is x.0 u x.1) x.2.so
  ])
    where
      split : K u ≡ true → Knows u old.receiving.receiver ⊎ (c.tsn ≡ u)
      split e = grind (arith, nat_tests, common_steps, or-split, same-is)

-- ## What became of a first fragment that came

-- its message was read, or it is held
abbrev IsThere : Session → List Entry → List ℕ → Data → List Entry → Type 0
IsThere s sent ps d xs =
    Contains ps (length xs + 1) ⊎ ((floor (length sent) ≤ length xs) × (0 < held_with d.tsn d.stream_identifier s))

abbrev AreThere : (first : ℕ) → Session → List Entry → ℕ → List ℕ → Type 0
AreThere first s sent a ps =
    (d : Data) (w : Numbered) (after : List ℕ) (xs : List Entry) → IsPart (fragment d w after ∷ xs) sent → d.beginning_fragment ≡ true
    → HasCome first a (length xs) s → IsThere s sent ps d xs

-- one that is held has a TSN before the next one
before-of : (s : Session) (st t : ℕ) → HoldsRecent s → 0 < held_with t st s → comes_before t (next_tsn s) ≡ true
before-of s st t h lt = at (fragments_on (stream_of st s.receiving.receiver)) (h st)
    (let w = held-weighs (one t) (stream_of st s.receiving.receiver) in omega (arith, w, lt))
  where
    at : (cs : List ChunkPayloadData) → list_all (λ c. comes_before c.tsn (next_tsn s)) cs ≡ true → 0 < sum_by (one t) cs
        → comes_before t (next_tsn s) ≡ true
    at [] e k = absurd (omega (arith, k))
    at (c ∷ cs) e k =
        let b = both (comes_before c.tsn (next_tsn s)) (list_all (λ c. comes_before c.tsn (next_tsn s)) cs) e in
        by-test (has_tsn t c)
        (λ y. subst (λ u. comes_before u (next_tsn s) ≡ true) (same-is c.tsn t y) b.0)
        (λ n. at cs b.1 (let m = sum_by-cons (one t) c cs in let z : one t c ≡ 0 = ap (λ b. if b then 1 else 0) n in omega (arith, m, z, k)))

-- a part that is no longer
old-part : (sent more : List Entry) (x : Entry) (xs : List Entry) → IsOnceMore sent more → IsPart (x ∷ xs) more → length xs < length sent → IsPart (x ∷ xs) sent
old-part h0 h1 h2 h3 h4 h5 h6 = grind (arith, nat_tests, common_steps)

module _ (first : ℕ) (call : SenderCall) (old new : Session) (ns : List Numbered) (sent : List Entry) (f : SenderFollows call old new)
    (h : Holds first old ns sent)
    (few : count_in_flight new < 2 ^ 31) (j : IsNear old) (k : IsNear new) (e : IsSet first old.sending.sender.flight sent) (recent : HoldsRecent new)
    (ps : List ℕ) (t : AreThere first old sent e.acked ps) where
  abbrev y : Sends all_streams first call old new ns sent
  y = sender-step first call old new ns sent f h

  sender-there : AreThere first new y.more (set-after first call old new ns sent f h few j k e).acked ps
  sender-there d w after xs p b come =
      let n = part-length y.more (fragment d w after ∷ xs) p in
      let was = came-before first call old new ns sent f h few j k e (length xs) (omega (arith, n)) come in
      elim (t d w after xs (old-part sent y.more (fragment d w after) xs y.once p was.0) b was.1) [
        | inl c ↦ inl c
        | inr c ↦
            let same = ap (λ (s : Session). held_weight (one d.tsn) (stream_of d.stream_identifier s.receiving.receiver)) f.after in
            let held = c.1 in
            let lt : 0 < held_with d.tsn d.stream_identifier new = omega (arith, same, held) in
            let number = (part-line (numbered_after call ns) first y.more (fragment d w after ∷ xs) p y.holds.held.stands.queued.line).0.number in
            let low = c.0 in
            let hi = (more-long sent y.more y.once).1 in
            inr (
              recent-place first (length y.more) (length xs) (next_tsn new) d.tsn (omega (arith, n)) (omega (arith, low, hi)) y.holds.held.stands.counted number
                  (before-of new d.stream_identifier d.tsn recent lt),
              lt,
            )
      ]

-- ## A call of the receiver

module _ (first : ℕ) (call : ReceiverCall) (old new : Session) (ns : List Numbered) (sent : List Entry) (ages : List Aged)
    (f : ReceiverFollows call old new) (i : IsYoungSession first old ns sent ages) (young : IsYoung (of_receiver call) ages) (recent : HoldsRecent new)
    (few : count_in_flight new < 2 ^ 31) (q : IsRecent (of_receiver call) old) (j : IsNear old) (ps : List ℕ) (h : IsOwned old sent ps)
    (e : IsSet first old.sending.sender.flight sent) (ko : IsKeptIn old) (kn : IsKeptIn new) (whole : Every IsWhole new.receiving.read)
    (qs : List ℕ) (o : IsOwned new sent qs) (on : AreReadOn sent old.receiving.read new.receiving.read ps qs) (t : AreThere first old sent e.acked ps) where
  line : IsLine ns first sent
  line = i.holds.held.stands.queued.line

  kept-place : (z : ℕ) → Contains ps z → Contains qs z
  kept-place z c = by on
    where
      by : AreReadOn sent old.receiving.read new.receiving.read ps qs → Contains qs z
      by (inl x) = subst (λ zs. Contains zs z) (sym x.1) c
      by (inr x) = subst (λ zs. Contains zs z) (sym x.3) (contains-more x.1 ps z c)

  module _ (d : Data) (w : Numbered) (after : List ℕ) (xs : List Entry) (p : IsPart (fragment d w after ∷ xs) sent) (b : d.beginning_fragment ≡ true) where
    abbrev st : ℕ
    st = d.stream_identifier

    number : d.tsn ≡ (first + length xs) % 2 ^ 32
    number = (part-line ns first sent (fragment d w after ∷ xs) p line).0.number

    within : length xs < length sent
    within = let n = part-length sent (fragment d w after ∷ xs) p in omega (arith, n)

    -- what is held of it, by what was taken and read
    weights : (held_with d.tsn st new + sum_by (one d.tsn) (fragments_read st new.receiving.read)
        ≡ sum_by (one d.tsn) (filter (is_on st) new.receiving.accepted))
        × (held_with d.tsn st old + sum_by (one d.tsn) (fragments_read st old.receiving.read) ≡ sum_by (one d.tsn) (filter (is_on st) old.receiving.accepted))
    weights = grind (arith, nat_tests, common_steps)

    -- at such a place, one with the same TSN is the same
    same-entry : (c : Data) (v : Numbered) (rest : List ℕ) (ys : List Entry) → IsPart (fragment c v rest ∷ ys) sent → c.tsn ≡ d.tsn
        → floor (length sent) ≤ length xs → floor (length sent) ≤ length ys → fragment c v rest ∷ ys ≡ fragment d w after ∷ xs
    same-entry c v rest ys r same lo low = grind (arith, part-line, part-length, same-parts)

    -- where as much was taken or more, and the same was read
    still : (c : ReceiverCall) → new.receiving.read ≡ old.receiving.read
        → sum_by (one d.tsn) (filter (is_on st) old.receiving.accepted) ≤ sum_by (one d.tsn) (filter (is_on st) new.receiving.accepted)
        → IsThere old sent ps d xs → IsThere new sent qs d xs
    still h0 h1 h2 h3 = grind (arith, nat_tests, common_steps, kept-place, weights)

    known-old : HasCome first e.acked (length xs) old → IsThere old sent ps d xs
    known-old come = t d w after xs p b come

    -- a chunk is taken
    takes-there : (c : ChunkPayloadData) (said : Bool) → call ≡ incoming.takes c (New said) → HasCome first e.acked (length xs) new → IsThere new sent qs d xs
    takes-there c said is come = by come
      where
        g : ReceiverFollows (incoming.takes c (New said)) old new
        g = subst (λ x. ReceiverFollows x old new) is f

        q' : IsRecent (of_receiver (incoming.takes c (New said))) old
        q' = subst (λ x. IsRecent (of_receiver x) old) is q

        y' : IsYoung (of_receiver (incoming.takes c (New said))) ages
        y' = subst (λ x. IsYoung (of_receiver x) ages) is young

        more : sum_by (one d.tsn) (filter (is_on st) new.receiving.accepted)
            ≡ (if is_on st c then one d.tsn c else 0) + sum_by (one d.tsn) (filter (is_on st) old.receiving.accepted)
        more = ap (λ cs. sum_by (one d.tsn) (filter (is_on st) cs)) g.step.accepted ∙ taken-more (one d.tsn) st c old.receiving.accepted (is_on st c) refl

        keep : HasCome first e.acked (length xs) old → IsThere new sent qs d xs
        keep come = still call g.step.read (let m = more in omega (arith, m)) (known-old come)

        anew : c.tsn ≡ d.tsn → e.acked ≤ length xs → IsThere new sent qs d xs
        anew same le = grind (arith, nat_tests, common_steps, every-contained, y', same-entry, same-yes, weights)

        by : HasCome first e.acked (length xs) new → IsThere new sent qs d xs
        by (inl lt) = keep (inl lt)
        by (inr y) = elim (cases_lt (length xs) e.acked) [
          | inl lt ↦ keep (inl lt)
          | inr ge ↦ elim (known-then old new few j c said g q' (tsn (base first) (length xs + 1)) (flies-at first old sent e (length xs) ge within) y) [
            | inl z ↦ keep (inr z)
            | inr z ↦ let n = number in anew (omega (arith, z, n)) ge
          ]
        ]

    -- a message is read
    module _ (stream : ℕ) (is : call ≡ incoming.reads stream) where
      g : ReceiverFollows (incoming.reads stream) old new
      g = subst (λ x. ReceiverFollows x old new) is f

      come-old : HasCome first e.acked (length xs) new → HasCome first e.acked (length xs) old
      come-old (inl lt) = inl lt
      come-old (inr y) = inr (subst (λ (r : Reception). Knows (tsn (base first) (length xs + 1)) r) g.step.receiver y)

      not-inner : (cs : List ChunkPayloadData) → floor (length sent) ≤ length xs → EachSentFrom (floor (length sent)) sent cs
          → Every (λ (c : ChunkPayloadData). c.beginning_fragment ≡ false) cs → 0 < sum_by (one d.tsn) cs → ⊥
      not-inner [] lo a n lt = omega (arith, lt)
      not-inner (c ∷ cs) lo a n lt = by-test (has_tsn d.tsn c)
          (λ y.
          let it = same-entry (data_of c) a.0.0 a.0.1 a.0.2 a.0.3 (same-is c.tsn d.tsn y) lo a.0.4.0 in
          let chunk : data_of c ≡ d = cc in
          not_both (sym n.0 ∙ ap (λ (x : Data). x.beginning_fragment) chunk ∙ b))
          (λ z. not-inner cs lo a.1 n.1
          (let m = sum_by-cons (one d.tsn) c cs in let none : one d.tsn c ≡ 0 = ap (λ b. if b then 1 else 0) z in omega (arith, m, none, lt)))

      -- it is the first one of the message that has it
      is-first : (cs : List ChunkPayloadData) → floor (length sent) ≤ length xs → (a : EachSentFrom (floor (length sent)) sent cs)
          → is_complete cs ≡ true → is_one_message cs ≡ true → 0 < sum_by (one d.tsn) cs
          → (ms : List Message) → (z : ℕ) (zs : List ℕ) → AreRead new sent (record { stream = stream; fragments = cs } ∷ ms) (z ∷ zs)
          → (0 < z → floor (length sent) < z) → z ≡ length xs + 1
      is-first [] lo a c o lt ms z zs r fresh = absurd (omega (arith, lt))
      is-first (c ∷ cs) lo a complete o lt ms z zs r fresh =
          let inner =
          (follows ns first sent (floor (length sent)) line i.holds.held.stands.queued.indexed c cs a.0.0 a.0.1 a.0.2 a.0.3 a.0.4
          (both c.beginning_fragment (completes c cs) complete).1 a.1 (inner-of c cs o)).2 in
          let at = r.0.1.0 in
          let low = fresh (omega (arith, at)) in
          by-test (has_tsn d.tsn c)
          (λ y.
          let it = same-entry (data_of c) r.0.0.1.0.0 r.0.0.1.0.1 r.0.0.1.0.2 r.0.0.1.0.3 (same-is c.tsn d.tsn y) lo (omega (arith, at, low)) in
          let n = ap length it in
          omega (arith, n, at))
          (λ z. absurd (not-inner cs lo a.1 inner
          (let m = sum_by-cons (one d.tsn) c cs in let none : one d.tsn c ≡ 0 = ap (λ b. if b then 1 else 0) z in omega (arith, m, none, lt))))

      with-it : (set : ChunkSet) → message_on stream old.receiving.receiver ≡ Some set → IsThere old sent ps d xs → IsThere new sent qs d xs
      with-it set m (inl z) = inl (kept-place (length xs + 1) z)
      with-it set m (inr z) = by-test (stream == st) here elsewhere
        where
          read : new.receiving.read ≡ record { stream = stream; fragments = set.chunks } ∷ old.receiving.read
          read = g.step.read ∙ ap (λ o. with_message stream o old.receiving.read) m

          elsewhere : (stream == st) ≡ false → IsThere new sent qs d xs
          elsewhere n = grind (arith, nat_tests, common_steps, weights, read)

          first-one : 0 < sum_by (one d.tsn) set.chunks → IsThere new sent qs d xs
          first-one lt = by on
            where
              e' : EachSentFrom (floor (length sent)) sent set.chunks
              e' = each-from (floor (length sent)) stream sent set.chunks (omega arith)
                  (all-recent all_streams first call old new ns sent ages f i young recent few q j ps h stream g set m)

              w' : Every IsWhole (record { stream = stream; fragments = set.chunks } ∷ old.receiving.read)
              w' = subst (Every IsWhole) read whole

              by : AreReadOn sent old.receiving.read new.receiving.read ps qs → IsThere new sent qs d xs
              by (inl y) = let n = ap length (sym read ∙ y.0) in absurd (omega (arith, n))
              by (inr y) =
                  let r = subst (λ ms. AreRead new sent ms qs) read o.once.0 in
                  let r' = subst (AreRead new sent (record { stream = stream; fragments = set.chunks } ∷ old.receiving.read)) y.3 r in
                  let at = is-first set.chunks z.0 e' w'.0.0 w'.0.1 lt old.receiving.read y.1 ps r' y.4 in
                  inl (subst (λ zs. Contains zs (length xs + 1)) (sym y.3) (0, omega arith, at))

          here : (stream == st) ≡ true → IsThere new sent qs d xs
          here y = elim (cases_lt 0 (sum_by (one d.tsn) set.chunks)) [
            | inl lt ↦ first-one lt
            | inr ge ↦
                let n = now-held all_streams first call old new ns sent ages f i young recent few q j ps h stream g set m d.tsn in
                let held = z.1 in
                let a = ap (λ k. held_with d.tsn k new) (same-is stream st y) in
                let c = ap (λ k. held_with d.tsn k old) (same-is stream st y) in
                inr (z.0, omega (arith, n, held, ge, a, c))
          ]

      reads-there : HasCome first e.acked (length xs) new → IsThere new sent qs d xs
      reads-there come = by (message_on stream old.receiving.receiver) refl
        where
          by : (m : Option ChunkSet) → message_on stream old.receiving.receiver ≡ m → IsThere new sent qs d xs
          by None m = still call (g.step.read ∙ ap (λ o. with_message stream o old.receiving.read) m)
              (let c = ap (λ cs. sum_by (one d.tsn) (filter (is_on st) cs)) g.step.accepted in omega (arith, c)) (known-old (come-old come))
          by (Some set) m = with-it set m (known-old (come-old come))

    -- nothing comes, and nothing is read
    quiet-there : (cumulative : new.receiving.receiver.cumulative_tsn ≡ old.receiving.receiver.cumulative_tsn)
        → new.receiving.receiver.beyond ≡ old.receiving.receiver.beyond → new.receiving.read ≡ old.receiving.read
        → new.receiving.accepted ≡ old.receiving.accepted → HasCome first e.acked (length xs) new → IsThere new sent qs d xs
    quiet-there cumulative beyond read accepted came = grind (arith, still, known-old)

  receiver-there : is_reliable_at_receiver call ≡ true → AreThere first new sent e.acked qs
  receiver-there reliable d w after xs p b come = by call refl reliable f
    where
      by : (c : ReceiverCall) → call ≡ c → is_reliable_at_receiver c ≡ true → ReceiverFollows c old new → IsThere new sent qs d xs
      by (incoming.takes c (New said)) is r g = takes-there d w after xs p b c said is come
      by (incoming.reads stream) is r g = reads-there d w after xs p b stream is come
      by (incoming.follows c) is r g = absurd (not_both r)
      by (incoming.opens stream) is r g = grind (arith, nat_tests, common_steps, quiet-there)
      by c is r g = grind (arith, nat_tests, common_steps, quiet-there)

-- ## Each session

whole-before : (cs : List Call) (old new : Session) → RunsTo old cs new → Every IsWhole new.receiving.read → Every IsWhole old.receiving.read
whole-before [] old new r h = subst (λ (s : Session). Every IsWhole s.receiving.read) r h
whole-before (of_sender call ∷ cs) old new r h =
    subst (λ (s : Stand). Every IsWhole s.read) (ap (λ (s : Session). s.receiving) r.1.0.after) (whole-before cs r.0 new r.1.1 h)
whole-before (of_receiver call ∷ cs) old new r h = grind (arith, nat_tests, common_steps, whole-before cs r.0 new r.1.1 h)

record After (first : ℕ) (s : Session) : Type 0 where
  numbered : List Numbered
  sent : List Entry
  ages : List Aged
  places' : List ℕ
  young : IsYoungSession first s numbered sent ages
  owned : IsOwned s sent places'
  set : IsSet first s.sending.sender.flight sent
  there : AreThere first s sent set.acked places'
  begun : AreBegunOrGone [] (length numbered) sent s.sending.sender.flight.queue.pending

there-then : (first : ℕ) (cs : List Call) (old new : Session) (ns : List Numbered) (sent : List Entry) (ages : List Aged) (r : RunsTo old cs new)
    → AreRecent old cs new r → AreYoung ages old cs new r → list_all is_reliable cs ≡ true → IsNear old → IsYoungSession first old ns sent ages
    → (ps : List ℕ) → IsOwned old sent ps → IsKeptIn old → (e : IsSet first old.sending.sender.flight sent) → AreThere first old sent e.acked ps
    → AreBegunOrGone [] (length ns) sent old.sending.sender.flight.queue.pending → Every IsWhole new.receiving.read → After first new
there-then first [] old new ns sent ages r q y all j i ps h k e t b w = subst (After first) (sym r) (record {
  numbered = ns;
  sent = sent;
  ages = ages;
  places' = ps;
  young = i;
  owned = h;
  set = e;
  there = t;
  begun = b;
})
there-then first (of_sender call ∷ cs) old new ns sent ages r q y all j i ps h k e t b w =
    let a = both (is_reliable_at_sender call) (list_all is_reliable cs) all in
    let x = sender-step first call old r.0 ns sent r.1.0 i.holds in
    let near = sender-near old r.0 q.1 j call r.1.0 q.0 in
    there-then first cs r.0 new (numbered_after call ns) x.more (aged_after (of_sender call) old r.0 ages) r.1.1 q.2 y.2 a.1 near
    (sender-young all_streams first call old r.0 ns sent ages r.1.0 i y.1) ps
    (sender-owned all_streams first call old r.0 ns sent ages r.1.0 i y.1 q.1 j near ps h)
    (sender-kept call old r.0 a.0 r.1.0 k) (set-after first call old r.0 ns sent r.1.0 i.holds q.1 j near e)
    (sender-there first call old r.0 ns sent r.1.0 i.holds q.1 j near e y.1 ps t)
    (stays-begun-or-gone all_streams [] first old r.0 ns sent x.more i.holds x.once b call
    (λ m g. subst (λ ms. is_gone ms m ≡ true) (none-by call old.sending.sender a.0) g) r.1.0 x.grown) w
there-then first (of_receiver call ∷ cs) old new ns sent ages r q y all j i ps h k e t b w =
    let a = both (is_reliable_at_receiver call) (list_all is_reliable cs) all in
    let o = receiver-owned all_streams first call old r.0 ns sent ages r.1.0 i y.0 y.1 q.1 q.0 j ps h in
    let kn = receiver-kept call old r.0 a.0 (absent all_streams first call old r.0 ns sent ages r.1.0 i y.0 y.1 q.1 q.0 j ps h) r.1.0 k in
    let same = ap (λ (s : Session). s.sending) r.1.0.after in
    let e' = subst (λ (l : Ledger). (z : IsSet first l.sender.flight sent) × (z.acked ≡ e.acked)) (sym same) (e, refl) in
    there-then first cs r.0 new ns sent (aged_after (of_receiver call) old r.0 ages) r.1.1 q.2 y.2 a.1 (receiver-near old r.0 q.1 j call r.1.0 q.0)
    (receiver-young all_streams first call old r.0 ns sent ages r.1.0 i y.0) o.0 o.1 kn e'.0
    (subst (λ z. AreThere first r.0 sent z o.0) (sym e'.1)
    (receiver-there first call old r.0 ns sent ages r.1.0 i y.0 y.1 q.1 q.0 j ps h e k kn (whole-before cs r.0 new r.1.1 w) o.0 o.1 o.2 t a.0))
    (subst (λ (l : Ledger). AreBegunOrGone [] (length ns) sent l.sender.flight.queue.pending) (sym same) b) w

-- ## The law

-- a message of which the first fragment stands there is of its write
found-place : (ns : List Numbered) (first : ℕ) (sent : List Entry) (once : AreOnce sent) (line : IsLine ns first sent) (indexed : AreIndexed sent) (s : Session)
    (d : Data) (w : Numbered) (after : List ℕ) (xs : List Entry) → IsPart (fragment d w after ∷ xs) sent → (place : ℕ)
    → ((v : Numbered) → (c : Contains ns v) → v ≡ w → c.0 ≡ place) → (ms : List Message) (e : EachRead ns sent once ms) (ps : List ℕ)
    → AreAt ns first sent once line s ms e ps → (k : ℕ) → k < length ps → slice_index_or ps k (length xs + 1) ≡ length xs + 1
    → Contains (places ns sent once ms e) place
found-place ns first sent once line indexed s d w after xs p place at [] e [] a k lt z = absurd (omega (arith, lt))
found-place ns first sent once line indexed s d w after xs p place at [] e (y ∷ ps) a k lt z = absurd a
found-place ns first sent once line indexed s d w after xs p place at (m ∷ ms) e [] a k lt z = absurd a
found-place ns first sent once line indexed s d w after xs p place at (m ∷ ms) e (y ∷ ps) a zero lt z =
    let is = a.0 in
    let it : fragment (data_of e.0.chunk) e.0.numbered e.0.after ∷ e.0.entries ≡ fragment d w after ∷ xs =
    same-parts sent (fragment (data_of e.0.chunk) e.0.numbered e.0.after ∷ e.0.entries) (fragment d w after ∷ xs) e.0.part p (omega (arith, is, z)) in
    let same : e.0.numbered ≡ w = cc in
    (0, omega arith, at e.0.numbered e.0.written same)
found-place ns first sent once line indexed s d w after xs p place at (m ∷ ms) e (y ∷ ps) a (suc k) lt z =
    contains-more e.0.written.0 (places ns sent once ms e.1) place
    (found-place ns first sent once line indexed s d w after xs p place at ms e.1 ps a.1 k (omega (arith, lt)) z)

pub law : WhileReliableAndYoung IsAllReadWhereSettled
law tsn size max most limits cs s small some r q y all settled =
    let start = at_start tsn size max most limits in
    let whole = all-whole tsn size max most limits cs s r in
    let a = there-then tsn cs start s [] [] [] r q y all (near-first tsn size max most limits small) (young-first tsn size max most limits small some) []
    (owned-first tsn size max most limits) (kept-first tsn size max most limits)
    (record { acked = 0; total = omega arith; is = omega (arith, small); set = λ st o. (tt, tt) })
    (λ d w after xs p b come. absurd (let n = ap length p in omega (arith, n))) (λ m lt g. absurd (omega (arith, lt))) whole in
    let h = a.young.holds in
    let ns = a.numbered in
    let sent = a.sent in
    let once = h.held.stands.begun'.once in
    let line = h.held.stands.queued.line in
    let indexed = h.held.stands.queued.indexed in
    let read = s.receiving.read in
    let e = reads-are ns tsn sent once line indexed s read a.places' a.owned.once.0 whole in
    let b = both (is_all_acknowledged s.sending.sender) (holds_nothing s.receiving.receiver) settled in
    let idle = idle-of s b.0 in (
      places ns sent once read e.0,
      subst (λ ws. StandAt ws read (places ns sent once read e.0)) h.writes (stand ns sent once read e.0),
      apart ns tsn sent once line s read e.0 a.places' e.1 a.owned.once.1,
      λ k lt. here s a idle b.1 e k (let n = ap length h.writes in let m = length-forgotten ns in omega (arith, lt, n, m)),
    )
  where
    none-written : Numbered
    none-written = record { stream = 0; payload_type = Unknown; bytes = []; place = 0 }

    here : (s : Session) (a : After tsn s) → IsIdle s → holds_nothing s.receiving.receiver ≡ true
        → (e : (e : EachRead a.numbered a.sent a.young.holds.held.stands.begun'.once s.receiving.read)
        × AreAt a.numbered tsn a.sent a.young.holds.held.stands.begun'.once a.young.holds.held.stands.queued.line s
        s.receiving.read e a.places') → (k : ℕ) → k < length a.numbered
        → Contains (places a.numbered a.sent a.young.holds.held.stands.begun'.once s.receiving.read e.0) k
    here s a idle empty e k lt =
        let h = a.young.holds in
        let ns = a.numbered in
        let w = slice_index_or ns k none-written in
        let at = place-at ns k w h.placed lt (slice-itself ns k w none-written lt) in
        let b = begun-part w.place a.sent (begun-at w.place (omega (arith, at))) in
        let n = part-length a.sent (fragment b.0 b.1 b.2 ∷ b.3) b.4 in
        let total = a.set.total in
        let none = ap length idle.inflight in
        elim (a.there b.0 b.1 b.2 b.3 b.4 b.5 (inl (omega (arith, n, total, none)))) [
          | inl c ↦
              found-place ns tsn a.sent h.held.stands.begun'.once h.held.stands.queued.line h.held.stands.queued.indexed s b.0 b.1 b.2 b.3 b.4 k
              (λ v c same.
              let p' : v.place ≡ w.place = ap (λ (x : Numbered). x.place) same ∙ b.6 in
              omega (arith, place-at ns c.0 v h.placed c.1 c.2, p', at)) s.receiving.read e.0 a.places' e.1 c.0 c.1 c.2
          | inr c ↦
              let z = none-held b.0.stream_identifier b.0.tsn s.receiving.receiver empty in
              let v = held-weighs (one b.0.tsn) (stream_of b.0.stream_identifier s.receiving.receiver) in
              let held = c.1 in
              absurd (omega (arith, z, v, held))
        ]
      where
        begun-at : (m : ℕ) → m < length a.numbered → was_begun m a.sent ≡ true
        begun-at m lt = elim (or-split (was_begun m a.sent) (begins_in m left) (a.begun m lt refl)) [
          | inl e ↦ e
          | inr e ↦ elim (or-split (list_any (begins m) left.ordered) (list_any (begins m) left.unordered) e) [
            | inl f ↦ absurd (not_both (sym (ap (list_any (begins m)) idle.ordered) ∙ f))
            | inr f ↦ absurd (not_both (sym (ap (list_any (begins m)) idle.unordered) ∙ f))
          ]
        ]
          where
            left : Pending
            left = s.sending.sender.flight.queue.pending
