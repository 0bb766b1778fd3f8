-- Sessions of a whole life: no write is read twice, while what is handed over and what is held is less than 2^31 TSNs old.
use Rattle.sctp_delivery.proofs.Names.{common_steps, ◌⊎◌, Limits, ◌≡◌, ℕ, zero, suc, ◌+◌, ◌%◌, ◌<◌, ◌≤◌, ◌^◌, Bool, true, false, List, [], ◌∷◌, length, Option}
use Rattle.sctp_delivery.proofs.Names.{Some, None, refl, ap, sym, subst, ◌∙◌, arith, nat_tests, inl, inr, if◌then◌else◌, nat_lt, list_all, All, AllPairs}
use Rattle.sctp_delivery.proofs.Names.{pairs_cons, sum_by, sum_by-cons, AllPass-from_list_all, both, and, not, not_both, fails, negated, same-is}
use Rattle.sctp_delivery.proofs.Names.{ChunkPayloadData, ChunkSet, Data, data_of, is_on, has_tsn, is_complete, is_one_message, Message, fragments_on}
use Rattle.sctp_delivery.proofs.Names.{held_weight, message_on, stream_of, New, ReceiverCall, SenderCall, Call, RunsTo, Session, SenderFollows, ReceiverFollows}
use Rattle.sctp_delivery.proofs.Names.{at_start, of_receiver, of_sender, Reception, Stand, Ledger, AreWritesOfTheirOwn, StandAt}
use Rattle.std.proofs.Common.{◌≢◌}
use Rattle.sctp_util.specs.Serial.{comes_before, distance}
use Rattle.sctp_receiver.specs.ReceiverRuns.{with_message}
use Rattle.sctp_receiver.proofs.Weights.{message_weight}
use Rattle.sctp_delivery.specs.ReceiverCalls as incoming
use Rattle.sctp_delivery.specs.Recent.{Aged, AreRecent, AreYoung, HoldsRecent, IsRecent, IsYoung, WhileRecentAndYoung, aged_after, gives}
use Rattle.sctp_delivery.specs.Session.{count_in_flight}
use Rattle.sctp_delivery.proofs.Begun.{AreOnce}
use Rattle.sctp_delivery.proofs.Calls.{numbered_after}
use Rattle.sctp_delivery.proofs.Cases.{all_streams, at-test, by-test}
use Rattle.sctp_delivery.proofs.Delivered.{EachSentFrom, IsReadOf, Sends, next_tsn, sender-step, sender-step-on, single-is, single-on}
use Rattle.sctp_delivery.proofs.Every.{Every, every-all, every-of, every-of-all}
use Rattle.sctp_delivery.proofs.HeldWeights.{read-held, weighs}
use Rattle.sctp_delivery.proofs.Kept.{IsAbsent, held-weighs}
use Rattle.sctp_delivery.proofs.OrderedEntries.{AreIndexed}
use Rattle.sctp_delivery.proofs.OnceWritten.{EachRead, one-start, places, stand}
use Rattle.sctp_delivery.proofs.Queues.{IsOnceMore}
use Rattle.sctp_delivery.proofs.ReadOnce.{one}
use Rattle.sctp_delivery.proofs.Recent.{IsNear, near-first, receiver-near, sender-near}
use Rattle.sctp_delivery.proofs.Sent.{Entry, IsLine, IsPart, Numbered, fragment, part-length, part-line, same-parts}
use Rattle.sctp_delivery.proofs.Sessions as sessions
use Rattle.sctp_delivery.proofs.Sessions.{all-pass}
use Rattle.sctp_delivery.proofs.TakenAgain.{Flies, comes, flew, flies, fresh, small, stays}
use Rattle.sctp_delivery.proofs.TakenCalls.{Knows}
use Rattle.sctp_delivery.proofs.TakenTsns.{come}
use Rattle.sctp_delivery.proofs.TsnPlaces.{IsGiven}
use Rattle.sctp_delivery.proofs.YoungReads.{IsReadFrom, IsYoungOn, IsYoungSession, each-from, each-more, floor, is_recent, more-long, more-part, receiver-young}
use Rattle.sctp_delivery.proofs.YoungReads.{sender-young, weight-none, young-first}

-- ## The messages that were read, by the places of their first fragments

-- so it is of the first fragment, which has the place p; a message of none has the place 0
abbrev pub AtFirst : (P : ChunkPayloadData → Numbered → List ℕ → List Entry → Type 0) (p low : ℕ) (sent : List Entry) (cs : List ChunkPayloadData)
    → EachSentFrom low sent cs → Type 0
AtFirst P p low sent [] e = p ≡ 0
AtFirst P p low sent (c ∷ cs) e = (p ≡ length e.0.2 + 1) × P c e.0.0 e.0.1 e.0.2

-- how many chunks with the TSN are held on the stream
abbrev pub held_with : ℕ → ℕ → Session → ℕ
held_with t st s = held_weight (one t) (stream_of st s.receiving.receiver)

-- while it is less than 2^31 TSNs old: it came where it is in flight, and is held no more
pub record IsDone (s : Session) (sent : List Entry) (stream : ℕ) (c : ChunkPayloadData) (w : Numbered) (after : List ℕ) (xs : List Entry) : Type 0 where
  pub part : IsPart (fragment (data_of c) w after ∷ xs) sent
  pub on : c.stream_identifier ≡ stream
  pub known : floor (length sent) ≤ length xs → Flies c.tsn s → Knows c.tsn s.receiving.receiver
  pub unheld : floor (length sent) ≤ length xs → held_with c.tsn stream s ≡ 0

abbrev pub AreRead : Session → List Entry → List Message → List ℕ → Type 0
AreRead s sent [] [] = Unit {0}
AreRead s sent [] (p ∷ ps) = ⊥
AreRead s sent (m ∷ ms) [] = ⊥
AreRead s sent (m ∷ ms) (p ∷ ps) =
    ((r : IsReadFrom sent m) × AtFirst (IsDone s sent m.stream) p r.0 sent m.fragments r.1) × AreRead s sent ms ps

-- none of these places stands twice
abbrev pub AreOther : ℕ → List ℕ → Type 0
AreOther p ps = Every (λ q. 0 < p → p ≡ q → ⊥) ps

abbrev pub AreDistinct : List ℕ → Type 0
AreDistinct [] = Unit {0}
AreDistinct (p ∷ ps) = AreOther p ps × AreDistinct ps

-- they are the same places still, or one more message is read, whose first fragment is less than 2^31 TSNs old
abbrev pub AreReadOn : List Entry → (ms ns : List Message) (ps qs : List ℕ) → Type 0
AreReadOn sent ms ns ps qs =
    ((ns ≡ ms) × (qs ≡ ps)) ⊎ ((m : Message) × (p : ℕ) × (ns ≡ m ∷ ms) × (qs ≡ p ∷ ps) × (0 < p → floor (length sent) < p))

pub record IsOwned (s : Session) (sent : List Entry) (ps : List ℕ) : Type 0 where
  pub single : (st t : ℕ) → held_with t st s ≤ 1
  pub missing : (t : ℕ) → t < 2 ^ 32 → Flies t s → (Knows t s.receiving.receiver → ⊥) → (st : ℕ) → held_with t st s ≡ 0
  pub once : AreRead s sent s.receiving.read ps × AreDistinct ps
  pub recent : HoldsRecent s

-- where the facts of each are kept
pub read-kept : (s v : Session) (sent more : List Entry) → IsOnceMore sent more
    → ((stream : ℕ) (c : ChunkPayloadData) (w : Numbered) (after : List ℕ) (xs : List Entry) → IsDone s sent stream c w after xs
    → IsDone v more stream c w after xs)
    → (ms : List Message) (ps : List ℕ) → AreRead s sent ms ps → AreRead v more ms ps
read-kept s v sent more once keep [] [] h = tt
read-kept s v sent more once keep [] (p ∷ ps) h = absurd h
read-kept s v sent more once keep (m ∷ ms) [] h = absurd h
read-kept s v sent more once keep (m ∷ ms) (q ∷ ps) h =
    let x = at m.fragments h.0.0.1 h.0.1 in
    (((low, x.0), x.1), read-kept s v sent more once keep ms ps h.1)
  where
    low : ℕ
    low = h.0.0.0

    at : (cs : List ChunkPayloadData) (e : EachSentFrom low sent cs) → AtFirst (IsDone s sent m.stream) q low sent cs e
        → (f : EachSentFrom low more cs) × AtFirst (IsDone v more m.stream) q low more cs f
    at [] e a = (tt, a)
    at (c ∷ cs) e a = (
      (
        (e.0.0, e.0.1, e.0.2, more-part sent more (fragment (data_of c) e.0.0 e.0.1 ∷ e.0.2) once e.0.3, e.0.4),
        each-more sent more once low cs e.1,
      ),
      (a.0, keep m.stream c e.0.0 e.0.1 e.0.2 a.1),
    )

-- ## Counts

has-none : (t : ℕ) (cs : List ChunkPayloadData) → list_all (λ c. not (has_tsn t c)) cs ≡ true → sum_by (one t) cs ≡ 0
has-none t [] e = refl
has-none t (c ∷ cs) e =
    let b = both (not (has_tsn t c)) (list_all (λ c. not (has_tsn t c)) cs) e in
    let here : one t c ≡ 0 = ap (λ b. if b then 1 else 0) (negated (has_tsn t c) b.0) in
    omega (arith, sum_by-cons (one t) c cs, here, has-none t cs b.1)

-- none that is held has the next TSN
none-next : (s : Session) (st t : ℕ) → t < 2 ^ 32 → HoldsRecent s → t ≡ next_tsn s → held_with t st s ≡ 0
unfolding comes_before distance
none-next s st t small h is = sym (held-weighs (one t) (stream_of st s.receiving.receiver)) ∙ has-none t cs (off cs (h st))
  where
    cs : List ChunkPayloadData
    cs = fragments_on (stream_of st s.receiving.receiver)

    off : (ds : List ChunkPayloadData) → list_all (λ c. comes_before c.tsn (next_tsn s)) ds ≡ true → list_all (λ c. not (has_tsn t c)) ds ≡ true
    off [] e = refl
    off (c ∷ ds) e =
        let b = both (comes_before c.tsn (next_tsn s)) (list_all (λ c. comes_before c.tsn (next_tsn s)) ds) e in
        let pos : 0 < distance c.tsn (next_tsn s) = grind (arith, nat_tests, (both (nat_lt 0 (distance c.tsn (next_tsn s))) _ b.0).0) in
        and (not (has_tsn t c)) (list_all (λ c. not (has_tsn t c)) ds)
        (ap not (fails (has_tsn t c) (λ k. let same = same-is c.tsn t k in omega (arith, pos, same, is, small)))) (off ds b.1)

-- ## A call of the sender

module _ (going : ℕ → Bool) (first : ℕ) (call : SenderCall) (old new : Session) (ns : List Numbered) (sent : List Entry) (ages : List Aged)
    (f : SenderFollows call old new) (i : IsYoungOn going first old ns sent ages) (recent : HoldsRecent new)
    (few : count_in_flight new < 2 ^ 31) (j : IsNear old) (k : IsNear new) (ps : List ℕ) (h : IsOwned old sent ps) where
  abbrev x : Sends going first call old new ns sent
  x = sender-step-on going first call old new ns sent f i.holds

  same : new.receiving ≡ old.receiving
  same = ap (λ (s : Session). s.receiving) f.after

  same-held : (t st : ℕ) → held_with t st new ≡ held_with t st old
  same-held t st = ap (λ (r : Stand). held_weight (one t) (stream_of st r.receiver)) same

  -- a TSN that is given out is the next one
  is-next : (t : ℕ) → t < 2 ^ 32 → gives t old new ≡ true → t ≡ next_tsn old
  unfolding distance
  is-next t small g =
      let lt : distance (next_tsn old) t < distance (next_tsn old) (next_tsn new) = grind (arith, nat_tests) in
      let a = i.holds.held.stands.counted in
      let b = x.holds.held.stands.counted in
      let long = more-long sent x.more x.once in
      let lo = long.0 in
      let hi = long.1 in
      omega (arith, lt, a, b, lo, hi, small)

  still-missing : (t : ℕ) → t < 2 ^ 32 → Flies t new → (Knows t new.receiving.receiver → ⊥) → (st : ℕ) → held_with t st new ≡ 0
  still-missing t small fl off st = same-held t st ∙ elim (flew t small old new few j k call f fl) [
    | inl o ↦ h.missing t small o (λ e. off (subst (λ (r : Stand). Knows t r.receiver) (sym same) e)) st
    | inr g ↦ none-next old st t small h.recent (is-next t small g)
  ]

  still-done : (stream : ℕ) (c : ChunkPayloadData) (w : Numbered) (after : List ℕ) (xs : List Entry) → IsDone old sent stream c w after xs
      → IsDone new x.more stream c w after xs
  still-done stream c w after xs d =
      let long = more-long sent x.more x.once in
      let lo = long.0 in
      let number = (part-line ns first sent (fragment (data_of c) w after ∷ xs) d.part i.holds.held.stands.queued.line).0.number in
      let lt = part-length sent (fragment (data_of c) w after ∷ xs) d.part in
      let a = i.holds.held.stands.counted in
      let small : c.tsn < 2 ^ 32 = omega (arith, number) in
      record {
        part = more-part sent x.more (fragment (data_of c) w after ∷ xs) x.once d.part;
        on = d.on;
        known = λ le fl. subst (λ (r : Stand). Knows c.tsn r.receiver) (sym same) (elim (flew c.tsn small old new few j k call f fl) [
          | inl o ↦ d.known (omega (arith, le, lo)) o
          | inr g ↦ let next = is-next c.tsn small g in absurd (omega (arith, next, number, a, le, lo, lt))
        ]);
        unheld = λ le. same-held c.tsn stream ∙ d.unheld (omega (arith, le, lo));
      }

  pub sender-owned : IsOwned new x.more ps
  sender-owned = grind (arith, nat_tests, common_steps, same-held, still-missing, same, read-kept, still-done)

-- ## A call of the receiver

module _ (going : ℕ → Bool) (first : ℕ) (call : ReceiverCall) (old new : Session) (ns : List Numbered) (sent : List Entry) (ages : List Aged)
    (f : ReceiverFollows call old new) (i : IsYoungOn going first old ns sent ages) (young : IsYoung (of_receiver call) ages) (recent : HoldsRecent new)
    (few : count_in_flight new < 2 ^ 31) (q : IsRecent (of_receiver call) old) (j : IsNear old) (ps : List ℕ) (h : IsOwned old sent ps) where
  sending : new.sending ≡ old.sending
  sending = ap (λ (s : Session). s.sending) f.after

  flies-still : (t : ℕ) → Flies t new → Flies t old
  flies-still t fl = subst (λ (l : Ledger). IsGiven l.sender.flight.acked_tsn (length l.sender.flight.queue.inflight.chunks) t) sending fl

  -- where the chunk that is taken, if there is one, has another TSN, no more is held
  no-more : (c : ReceiverCall) → ReceiverFollows c old new → (t st : ℕ)
      → ((d : ChunkPayloadData) (said : Bool) → c ≡ incoming.takes d (New said) → (d.tsn ≡ t → ⊥)) → held_with t st new ≤ held_with t st old
  no-more (incoming.takes d (New said)) g t st other =
      let a = weighs (one t) st (incoming.takes d (New said)) old new g in
      let off : has_tsn t d ≡ false = fails (has_tsn t d) (λ e. other d said refl (same-is d.tsn t e)) in
      let none : one t d ≡ 0 = ap (λ b. if b then 1 else 0) off in
      let z : ◌≡◌ {A = ℕ} (if is_on st d then one t d else 0) 0 = at-test (λ b. (if b then one t d else 0) ≡ 0) (is_on st d) (λ _. none) (λ _. refl) in
      omega (arith, a, z)
  no-more c g t st other = let a = weighs (one t) st c old new g in omega (arith, a)

  one-more : (c : ReceiverCall) → ReceiverFollows c old new → IsRecent (of_receiver c) old → (t st : ℕ) → held_with t st new ≤ 1
  one-more (incoming.takes d (New said)) g q' t st =
      let a = weighs (one t) st (incoming.takes d (New said)) old new g in
      let le = h.single st t in
      at-test (λ b. held_with t st new ≤ (if is_on st d then (if b then 1 else 0) else 0) + held_with t st old → held_with t st new ≤ 1) (has_tsn t d)
      (λ e w.
      let is = same-is d.tsn t e in
      let z = h.missing d.tsn (small old new few j d said g q') (flies old new few j d said g q') (fresh old new few j d said g q') st in
      let z' : held_with t st old ≡ 0 = subst (λ u. held_with u st old ≡ 0) is z in
      let most : (if is_on st d then 1 else 0) ≤ 1 = at-test (λ b. (if b then 1 else 0) ≤ 1) (is_on st d) (λ _. omega arith) (λ _. omega arith) in
      omega (arith, w, z', most))
      (λ e w.
      let none : ◌≡◌ {A = ℕ} (if is_on st d then 0 else 0) 0 = at-test (λ b. ◌≡◌ {A = ℕ} (if b then 0 else 0) 0) (is_on st d) (λ _. refl) (λ _. refl) in
      omega (arith, w, none, le)) a
  one-more c g q' t st =
      let a = weighs (one t) st c old new g in
      let le = h.single st t in
      omega (arith, a, le)

  -- none is held with the TSN of the chunk that is taken
  pub absent : IsAbsent call old
  absent st d said is = grind (arith, small, flies)

  -- a chunk that did not come is not the one that is taken
  not-it : (t : ℕ) → (Knows t new.receiving.receiver → ⊥) → (d : ChunkPayloadData) (said : Bool) → call ≡ incoming.takes d (New said) → (d.tsn ≡ t → ⊥)
  not-it t off d said is same =
      let g = subst (λ c. ReceiverFollows c old new) is f in
      let q' = subst (λ c. IsRecent (of_receiver c) old) is q in
      off (subst (λ u. Knows u new.receiving.receiver) same (comes old new few j d said g q'))

  -- nor is one that came before
  not-known : (t : ℕ) → (Flies t old → Knows t old.receiving.receiver) → (d : ChunkPayloadData) (said : Bool) → call ≡ incoming.takes d (New said)
      → (d.tsn ≡ t → ⊥)
  not-known t known d said is same = grind (arith, nat_tests, common_steps, flies)

  missing-still : (t : ℕ) → t < 2 ^ 32 → Flies t new → (Knows t new.receiving.receiver → ⊥) → (st : ℕ) → held_with t st new ≡ 0
  missing-still t small fl off st =
      let was = flies-still t fl in
      let z = h.missing t small was (λ e. off (stays old new few j t was call f q e)) st in
      let le = no-more call f t st (not-it t off) in
      omega (arith, z, le)

  done-still : (stream : ℕ) (c : ChunkPayloadData) (w : Numbered) (after : List ℕ) (xs : List Entry) → IsDone old sent stream c w after xs
      → IsDone new sent stream c w after xs
  done-still stream c w after xs d = record {
    part = d.part;
    on = d.on;
    known = λ le fl. let was = flies-still c.tsn fl in stays old new few j c.tsn was call f q (d.known le was);
    unheld = λ le.
        let z = d.unheld le in
        let more = no-more call f c.tsn stream (not-known c.tsn (d.known le)) in
        omega (arith, z, more);
  }

  -- ## A message is read

  module _ (stream : ℕ) (g : ReceiverFollows (incoming.reads stream) old new) (set : ChunkSet)
      (is : message_on stream old.receiving.receiver ≡ Some set) where
    pub now-held : (t : ℕ) → sum_by (one t) set.chunks + held_with t stream new ≡ held_with t stream old
    now-held t =
        let a = read-held (one t) stream old.receiving.receiver in
        let b = ap (λ o. message_weight (one t) o) is in
        let c = ap (λ (r : Reception). held_weight (one t) (stream_of stream r)) g.step.receiver in
        omega (arith, a, b, c)

    pub all-recent : list_all (is_recent sent stream) set.chunks ≡ true
    all-recent =
        let p = sessions.fails (is_recent sent stream) in
        let a = read-held p stream old.receiving.receiver in
        let b = ap (λ o. message_weight p o) is in
        let z = weight-none going first call old new ns sent ages f i young stream in
        all-pass (is_recent sent stream) set.chunks (omega (arith, a, b, z))

    abbrev it : Message
    it = record { stream = stream; fragments = set.chunks }

    -- its first fragment, and its place
    first-done : (cs : List ChunkPayloadData) → set.chunks ≡ cs → (e : EachSentFrom (floor (length sent)) sent cs)
        → (p : ℕ) × AtFirst (IsDone new sent stream) p (floor (length sent)) sent cs e
        × ((ps : List ℕ) (ms : List Message) → AreRead old sent ms ps → AreOther p ps) × (0 < p → floor (length sent) < p)
    first-done [] chunks e = (0, refl, λ ps ms a. every-all (λ q. 0 < 0 → 0 ≡ q → ⊥) (λ q lt. absurd (omega (arith, lt))) ps, λ lt. absurd (omega (arith, lt)))
    first-done (c ∷ cs) chunks e = (length e.0.2 + 1, (refl, done), others, λ lt. (let low = e.0.4.0 in omega (arith, low)))
      where
        t : ℕ
        t = c.tsn

        counted : 1 ≤ sum_by (one t) set.chunks
        counted = grind (arith, nat_tests, common_steps)

        on : c.stream_identifier ≡ stream
        on = grind (arith, nat_tests, common_steps, all-recent, same-is)

        number : c.tsn ≡ (first + length e.0.2) % 2 ^ 32
        number = (part-line ns first sent (fragment (data_of c) e.0.0 e.0.1 ∷ e.0.2) e.0.3 i.holds.held.stands.queued.line).0.number

        done : IsDone new sent stream c e.0.0 e.0.1 e.0.2
        done = record {
          part = e.0.3;
          on = on;
          known = λ le fl. by-test (come-now t)
              (λ y. y)
              (λ no.
              let was = flies-still t fl in
              let z = h.missing t (omega (arith, number)) was (λ y. not_both (sym no ∙ stays old new few j t was call f q y)) stream in
              let n = now-held t in
              absurd (omega (arith, z, n, counted)));
          unheld = λ le.
              let n = now-held t in
              let most = h.single stream t in
              omega (arith, n, most, counted);
        }
          where
            come-now : ℕ → Bool
            come-now u = come u new.receiving.receiver.cumulative_tsn new.receiving.receiver.beyond

        others : (ps : List ℕ) (ms : List Message) → AreRead old sent ms ps → AreOther (length e.0.2 + 1) ps
        others [] ms a = tt
        others (p ∷ ps) [] a = absurd a
        others (p ∷ ps) (m ∷ ms) a = ((λ lt same. differs m.fragments a.0.0.1 a.0.1 same), others ps ms a.1)
          where
            differs : (ds : List ChunkPayloadData) (d : EachSentFrom a.0.0.0 sent ds) → AtFirst (IsDone old sent m.stream) p a.0.0.0 sent ds d
                → length e.0.2 + 1 ≡ p → ⊥
            differs [] d b same = omega (arith, b, same)
            differs (y ∷ ys) d b same =
                let at = b.0 in
                let it' : fragment (data_of c) e.0.0 e.0.1 ∷ e.0.2 ≡ fragment (data_of y) d.0.0 d.0.1 ∷ d.0.2 =
                same-parts sent (fragment (data_of c) e.0.0 e.0.1 ∷ e.0.2) (fragment (data_of y) d.0.0 d.0.1 ∷ d.0.2) e.0.3 d.0.3 (omega (arith, at, same)) in
                let chunk : data_of c ≡ data_of y = cc in
                let low = e.0.4.0 in
                let z = b.1.unheld (omega (arith, at, same, low)) in
                let z' : held_with t stream old ≡ 0 = subst (λ u. held_with u stream old ≡ 0) (ap (λ (o : Data). o.tsn) (sym chunk))
                (subst (λ s. held_with y.tsn s old ≡ 0) (sym b.1.on ∙ ap (λ (o : Data). o.stream_identifier) (sym chunk) ∙ on) z) in
                let n = now-held t in
                omega (arith, z', n, counted)

    with-it : (qs : List ℕ) × AreRead new sent (it ∷ old.receiving.read) qs × AreDistinct qs
        × AreReadOn sent old.receiving.read (it ∷ old.receiving.read) ps qs
    with-it =
        let e = each-from (floor (length sent)) stream sent set.chunks (omega arith) all-recent in
        let d = first-done set.chunks refl e in (
          d.0 ∷ ps,
          (((floor (length sent), e), d.1), read-kept old new sent sent (inl refl) done-still old.receiving.read ps h.once.0),
          (d.2 ps old.receiving.read h.once.0, h.once.1),
          inr (it, d.0, refl, refl, d.3),
        )

  abbrev ReadOn : List Message → Type 0
  ReadOn ns = (qs : List ℕ) × AreRead new sent ns qs × AreDistinct qs × AreReadOn sent old.receiving.read ns ps qs

  as-before : ReadOn old.receiving.read
  as-before = (ps, read-kept old new sent sent (inl refl) done-still old.receiving.read ps h.once.0, h.once.1, inl (refl, refl))

  read-once : (c : ReceiverCall) → ReceiverFollows c old new → ReadOn new.receiving.read
  read-once (incoming.reads stream) g = subst ReadOn (sym g.step.read) (by (message_on stream old.receiving.receiver) refl)
    where
      by : (o : Option ChunkSet) → message_on stream old.receiving.receiver ≡ o → ReadOn (with_message stream o old.receiving.read)
      by None e = as-before
      by (Some set) e = with-it stream g set e
  read-once c g = subst ReadOn (sym g.step.read) as-before

  pub receiver-owned : (qs : List ℕ) × IsOwned new sent qs × AreReadOn sent old.receiving.read new.receiving.read ps qs
  receiver-owned =
      let r = read-once call f in
      (r.0, record { single = λ st t. one-more call f q t st; missing = missing-still; once = (r.1, r.2); recent = recent }, r.3)

-- ## Each session

record After (first : ℕ) (s : Session) : Type 0 where
  numbered : List Numbered
  sent : List Entry
  ages : List Aged
  places' : List ℕ
  young : IsYoungSession first s numbered sent ages
  owned : IsOwned s sent places'

owned-then : (first : ℕ) (cs : List Call) (old new : Session) (ns : List Numbered) (sent : List Entry) (ages : List Aged) (r : RunsTo old cs new)
    → AreRecent old cs new r → AreYoung ages old cs new r → IsNear old → IsYoungSession first old ns sent ages → (ps : List ℕ) → IsOwned old sent ps
    → After first new
owned-then first [] old new ns sent ages r q y j i ps h = grind (arith, nat_tests, common_steps)
owned-then first (of_sender call ∷ cs) old new ns sent ages r q y j i ps h =
    let x = sender-step first call old r.0 ns sent r.1.0 i.holds in
    let k = sender-near old r.0 q.1 j call r.1.0 q.0 in
    owned-then first cs r.0 new (numbered_after call ns) x.more (aged_after (of_sender call) old r.0 ages) r.1.1 q.2 y.2 k
    (sender-young all_streams first call old r.0 ns sent ages r.1.0 i y.1) ps
    (sender-owned all_streams first call old r.0 ns sent ages r.1.0 i y.1 q.1 j k ps h)
owned-then first (of_receiver call ∷ cs) old new ns sent ages r q y j i ps h =
    let o = receiver-owned all_streams first call old r.0 ns sent ages r.1.0 i y.0 y.1 q.1 q.0 j ps h in
    owned-then first cs r.0 new ns sent (aged_after (of_receiver call) old r.0 ages) r.1.1 q.2 y.2 (receiver-near old r.0 q.1 j call r.1.0 q.0)
    (receiver-young all_streams first call old r.0 ns sent ages r.1.0 i y.0) o.0 o.1

-- ## The law

-- it is complete, and on its stream; and where its fragments got TSNs, none of them but the first begins a message
abbrev pub IsSole : List Entry → Message → Type 0
IsSole sent m =
    (is_complete m.fragments ≡ true) × (list_all (is_on m.stream) m.fragments ≡ true)
    × ((low : ℕ) → EachSentFrom low sent m.fragments → (c : ChunkPayloadData) (cs : List ChunkPayloadData) → m.fragments ≡ c ∷ cs
    → Every (λ (d : ChunkPayloadData). d.beginning_fragment ≡ false) cs)

module _ (ns : List Numbered) (first : ℕ) (sent : List Entry) (once : AreOnce sent) (line : IsLine ns first sent) (s : Session) where
  -- the first fragments of these messages stand at these places
  abbrev pub AreAt : (ms : List Message) → EachRead ns sent once ms → List ℕ → Type 0
  AreAt [] e [] = Unit {0}
  AreAt [] e (p ∷ ps) = ⊥
  AreAt (m ∷ ms) e [] = ⊥
  AreAt (m ∷ ms) e (p ∷ ps) = (p ≡ length e.0.entries + 1) × AreAt ms e.1 ps

  read-is : (m : Message) → IsSole sent m → (r : IsReadFrom sent m) (p : ℕ) → AtFirst (IsDone s sent m.stream) p r.0 sent m.fragments r.1
      → (x : IsReadOf ns sent m) × (p ≡ length x.entries + 1)
  read-is m h r p a = by m.fragments refl r.1 a
    where
      by : (cs : List ChunkPayloadData) → m.fragments ≡ cs → (e : EachSentFrom r.0 sent cs) → AtFirst (IsDone s sent m.stream) p r.0 sent cs e
          → (x : IsReadOf ns sent m) × (p ≡ length x.entries + 1)
      by [] is e a = absurd (not_both (sym (ap is_complete is) ∙ h.0))
      by (c ∷ cs) is e a =
          let x = single-is ns first sent r.0 line m h.0 c cs is e (h.2 r.0 (subst (EachSentFrom r.0 sent) (sym is) e) c cs is)
          (ap (list_all (is_on m.stream)) (sym is) ∙ h.1) in
          let long = ap length x.1 in
          let at = a.0 in
          (x.0, omega (arith, long, at))

  pub sole-are : (ms : List Message) (ps : List ℕ) → AreRead s sent ms ps → Every (IsSole sent) ms → (e : EachRead ns sent once ms) × AreAt ms e ps
  sole-are [] [] a w = (tt, tt)
  sole-are [] (p ∷ ps) a w = absurd a
  sole-are (m ∷ ms) [] a w = absurd a
  sole-are (m ∷ ms) (p ∷ ps) a w =
      let x = read-is m w.0 a.0.0 p a.0.1 in
      let r = sole-are ms ps a.1 w.1 in
      ((x.0, r.0), (x.1, r.1))

  away : (m : Message) (x : IsReadOf ns sent m) (p : ℕ) → p ≡ length x.entries + 1 → (ms : List Message) (e : EachRead ns sent once ms) (ps : List ℕ)
      → AreAt ms e ps → AreOther p ps → All (λ q. x.written.0 ≢ q) (places ns sent once ms e)
  away m x p at [] e ps a o k d lt = absurd (omega (arith, lt))
  away m x p at (n ∷ ms) e [] a o k d lt = absurd a
  away m x p at (n ∷ ms) e (q ∷ ps) a o zero d lt = λ same.
      let long = ap length (one-start ns sent once m n x e.0 same) in
      let there = a.0 in
      o.0 (omega (arith, at)) (omega (arith, at, there, long))
  away m x p at (n ∷ ms) e (q ∷ ps) a o (suc k) d lt = away m x p at ms e.1 ps a.1 o.1 k d (omega (arith, lt))

  pub apart : (ms : List Message) (e : EachRead ns sent once ms) (ps : List ℕ) → AreAt ms e ps → AreDistinct ps
      → AllPairs (λ p q. p ≢ q) (places ns sent once ms e)
  apart [] e ps a d = λ i j x lt short. absurd (omega (arith, short))
  apart (m ∷ ms) e [] a d = absurd a
  apart (m ∷ ms) e (p ∷ ps) a d =
      pairs_cons (λ p q. p ≢ q) e.0.written.0 (places ns sent once ms e.1) (away m e.0 p a.0 ms e.1 ps a.1 d.0) (apart ms e.1 ps a.1 d.1)

-- where on each stream ordered messages have numbers one behind another
abbrev pub IsWhole : Message → Type 0
IsWhole m = (is_complete m.fragments ≡ true) × (is_one_message m.fragments ≡ true) × (list_all (is_on m.stream) m.fragments ≡ true)

pub reads-are : (ns : List Numbered) (first : ℕ) (sent : List Entry) (once : AreOnce sent) (line : IsLine ns first sent) → AreIndexed sent → (s : Session)
    (ms : List Message) (ps : List ℕ) → AreRead s sent ms ps → Every IsWhole ms
    → (e : EachRead ns sent once ms) × AreAt ns first sent once line s ms e ps
reads-are ns first sent once line indexed s ms ps a w =
    sole-are ns first sent once line s ms ps a
    (every-of IsWhole (IsSole sent)
    (λ m h. (h.0, h.2, λ low e c cs is. single-on ns first sent low line all_streams indexed m h.0 h.1 e h.2 refl c cs is)) ms w)

pub owned-first : (tsn size max most : ℕ) (limits : Option Limits) → IsOwned (at_start tsn size max most limits) [] []
owned-first tsn size max most limits =
    record { single = λ st t. omega arith; missing = λ t lt fl off st. refl; once = (tt, tt); recent = λ st. refl }

-- each message that was read is whole, of one message, and on its stream
pub all-whole : (tsn size max most : ℕ) (limits : Option Limits) (cs : List Call) (s : Session) → RunsTo (at_start tsn size max most limits) cs s
    → Every IsWhole s.receiving.read
all-whole tsn size max most limits cs s r =
    let read = s.receiving.read in
    let whole = sessions.messages tsn size max most limits cs s r in
    let on = sessions.read-on tsn size max most limits cs s r in
    every-of-all IsWhole read
    (λ k m lt. (
      AllPass-from_list_all (λ x. is_complete x.fragments) read whole.0 k m lt,
      AllPass-from_list_all (λ x. is_one_message x.fragments) read whole.1 k m lt,
      AllPass-from_list_all (λ x. list_all (is_on x.stream) x.fragments) read on k m lt,
    ))

pub law : WhileRecentAndYoung AreWritesOfTheirOwn
law tsn size max most limits cs s small some r q y =
    let start = at_start tsn size max most limits in
    let a = owned-then tsn cs start s [] [] [] r q y (near-first tsn size max most limits small) (young-first tsn size max most limits small some) []
    (owned-first tsn size max most limits) in
    let h = a.young.holds in
    let ns = a.numbered in
    let sent = a.sent in
    let once = h.held.stands.begun'.once in
    let read = s.receiving.read in
    let e = reads-are ns tsn sent once h.held.stands.queued.line h.held.stands.queued.indexed s read a.places' a.owned.once.0
    (all-whole tsn size max most limits cs s r) in (
      places ns sent once read e.0,
      subst (λ ws. StandAt ws read (places ns sent once read e.0)) h.writes (stand ns sent once read e.0),
      apart ns tsn sent once h.held.stands.queued.line s read e.0 a.places' e.1 a.owned.once.1,
    )
