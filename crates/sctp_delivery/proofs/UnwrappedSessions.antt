-- In each session the indexes of the ordered messages that are read on a stream rise, where its numbers go on and each FORWARD-TSN names it.
use Rattle.sctp_delivery.proofs.Names.{common_steps, nat_tests, ◌≡◌, ℕ, ◌+◌, ◌-◌, ◌^◌, ◌<◌, ◌≤◌, Bool, true, false, List, [], ◌∷◌, length, Option, Some, None}
use Rattle.sctp_delivery.proofs.Names.{inl, inr, refl, ap, sym, subst, ◌∙◌, arith, Contains, find, ◌⊎◌, list_any, distance, tsn, ChunkPayloadData, ChunkSet}
use Rattle.sctp_delivery.proofs.Names.{data_of, Sack, Reassembly, New, InboundStream, Limits, Reception, stream_of, Stand, names_closed, names_too_far}
use Rattle.sctp_delivery.proofs.Names.{skip_refusal, late_order, worn_order, Transmission, OutboundStream, ReceiverCall, reports_after, SenderCall, data_chunk}
use Rattle.sctp_delivery.proofs.Names.{forward_tsn, ReceiverFollows, SenderFollows, Session, at_start, misses, has_tsn, cases_lt, Ledger, ForwardTsn}
use Rattle.sctp_delivery.proofs.Names.{after_forward_tsn, filter, is_open, is_pair_of, not}
use Rattle.sctp_receiver.specs.Inbound.{has_number}
use Rattle.sctp_sender.specs.Sender.{stream_of as sender_stream}
use Rattle.sctp_delivery.specs.ReceiverCalls as incoming
use Rattle.sctp_delivery.specs.SenderCalls as outgoing
use Rattle.sctp_delivery.proofs.Cases.{all_streams}
use Rattle.sctp_delivery.proofs.Delivered.{found-sent-on, next_tsn}
use Rattle.sctp_delivery.proofs.UnwrappedArrived.{Rising, between, missing}
use Rattle.sctp_delivery.proofs.Every.{Every, every-contained, every-of}
use Rattle.sctp_delivery.proofs.GivenTsns.{raises-each}
use Rattle.sctp_delivery.proofs.Queues.{IsOnceMore}
use Rattle.sctp_delivery.proofs.SackSteps.{flight_of, written-open, none_dropped}
use Rattle.sctp_delivery.proofs.Sent.{Entry, Numbered, WasSent, sent-more}
use Rattle.sctp_delivery.proofs.Sessions.{unnot}
use Rattle.sctp_delivery.proofs.SpreadCalls.{IsSpread, IsSpreadOn, Spreads, SpreadsOn, receiver-spreads, spread-first-on}
use Rattle.sctp_delivery.proofs.SpreadEntries.{IsEntry, at-more, begun_to, is_at, made-entry, to-all, to-more, to-up}
use Rattle.sctp_delivery.proofs.SpreadFlight.{IsMadeNaming}
use Rattle.sctp_delivery.proofs.TakenCalls.{fresh-new}
use Rattle.sctp_delivery.proofs.TsnPlaces.{base, same-place}
use Rattle.sctp_delivery.proofs.UnwrappedCalls.{followed-due, none-among, opened-due, quiet, read-on-due, taken-due}
use Rattle.sctp_delivery.proofs.UnwrappedHolds.{AreDue, Came, DueOn, Fits, IsBeyond, IsOf, IsStepOf, Rises, none-past}
use Rattle.sctp_delivery.proofs.UnwrappedReads.{AreSets, IsDue}
use Rattle.sctp_delivery.proofs.OrderedMessages.{not-far}

-- ## More TSNs are given out

module _ (p st n m : ℕ) (B C : ℕ → ℕ) (E F : ℕ → Bool) (M N : ChunkPayloadData → Type 0) (few : m < 2 ^ 31) (le : n ≤ m)
    (same : (k : ℕ) → k ≤ n → C k ≡ B k) (up : C n ≤ C m) (alike : (k : ℕ) → k ≤ n → F k ≡ E k) (made : (c : ChunkPayloadData) → M c → N c) where
  abbrev of-more : (i : ℕ) (c : ChunkPayloadData) → IsOf p st n B E M i c → IsOf p st m C F N i c
  of-more i c o =
      record {
        before = o.before;
        within = omega (arith, le);
        is = o.is;
        begun = same (o.before + 1) o.within ∙ o.begun;
        made = made c o.made;
        on = o.on;
        inner = λ f. same o.before (omega arith) ∙ o.inner f;
      }

  pub rises-more : (i low : ℕ) (cs : List ChunkPayloadData) → Rises p st n B E M i low cs → Rises p st m C F N i low cs
  rises-more i low [] r = tt
  rises-more i low (c ∷ cs) r = (of-more i c r.0, r.1, rises-more i (r.0.before + 1) cs r.2)

  sets-more : (D G : ℕ → Type 0) (low top : ℕ) (ss : List ChunkSet) → AreSets p n B (Fits p st n B E M) D low top ss
      → AreSets p m C (Fits p st m C F N) G low top ss
  sets-more D G low top [] r = tt
  sets-more D G low top (s ∷ ss) r = (r.0, (r.1.0, rises-more r.0 0 s.chunks r.1.1), sets-more D G (r.0 + 1) top ss r.2)

  due-more : (D G : ℕ → Type 0) → ((y : ℕ) → y ≤ m → G y → (y ≤ n) × D y) → (k reach : ℕ) (q : Reassembly)
      → IsDue p n B (Fits p st n B E M) D k reach q → IsDue p m C (Fits p st m C F N) G k reach q
  due-more D G back k reach q d = record {
    index = d.index;
    low = d.low;
    next = d.next;
    lowest = d.lowest;
    due = d.due;
    from = d.from;
    near = d.near;
    within = d.within;
    far = d.far;
    sets = sets-more D G d.low reach q.ordered d.sets;
    kept = grind (arith, nat_tests, common_steps);
    unordered = d.unordered;
    unassembled = d.unassembled;
  }

  pub on-more : (D G : ℕ → Type 0) → ((y : ℕ) → y ≤ m → G y → (y ≤ n) × D y) → (k reach : ℕ) (o : Option InboundStream)
      → DueOn p st n B E M D k reach o → DueOn p st m C F N G k reach o
  on-more D G back k reach None d = (d.0, d.1, λ y most g. let b = back y most g in d.2 y b.0 b.1)
  on-more D G back k reach (Some l) d = due-more D G back k reach l.queue.held d

  pub beyond-more : (reach t : ℕ) → IsBeyond p st n B E M reach t → IsBeyond p st m C F N reach t
  beyond-more reach t b = grind (arith, nat_tests, common_steps)

  pub came-more : (a : ℕ) (s : Stand) (d : AreDue p st n B E M a s) (y : ℕ) → y ≤ m → Came p st m C F N s.receiver.cumulative_tsn s.receiver.beyond y
      → (y ≤ n) × Came p st n B E M s.receiver.cumulative_tsn s.receiver.beyond y
  came-more a s d y most h = elim (cases_lt n y) [
    | inl lt ↦
        let small : n < 2 ^ 31 = omega (arith, le, few) in
        absurd (none-past p st n B E M small d.reach a s.receiver.cumulative_tsn s.receiver.beyond d.arrived y lt (omega (arith, most, few)) h.1)
    | inr ge ↦ (ge, (sym (alike y ge) ∙ h.0, h.1))
  ]

  abbrev pub are-more : (a b : ℕ) (s : Stand) (d : AreDue p st n B E M a s) → b ≤ d.arrived.place → AreDue p st m C F N b s
  are-more a b s d least =
      let h = d.arrived in
      let w = h.within in
      let most = d.most in
      record {
        k = d.k;
        reach = d.reach;
        due = on-more (Came p st n B E M s.receiver.cumulative_tsn s.receiver.beyond) (Came p st m C F N s.receiver.cumulative_tsn s.receiver.beyond)
            (came-more a s d) d.k d.reach (stream_of st s.receiver) d.due;
        most = omega (arith, most, same n (omega arith), up);
        arrived = record {
          place = h.place;
          least_is = least;
          within = omega (arith, w, le);
          is = h.is;
          covered = omega (arith, same h.place w);
          each = every-of (IsBeyond p st n B E M d.reach) (IsBeyond p st m C F N d.reach) (beyond-more d.reach) s.receiver.beyond h.each;
        };
      }

-- ## What is acknowledged

-- as before, or up to the cumulative TSN of a SACK that was made
abbrev IsAckedBy : Session → Session → Type 0
IsAckedBy old new =
    ((flight_of new).acked_tsn ≡ (flight_of old).acked_tsn)
    ⊎ ((s : Sack) × Contains old.sacks s × ((flight_of new).acked_tsn ≡ s.cumulative_tsn_ack))

acked-by : (call : SenderCall) (old new : Session) → SenderFollows call old new → IsAckedBy old new
acked-by (outgoing.resends u now c) old new f = inl (ap (λ (u : Transmission). u.flight.acked_tsn) f.step.sender)
acked-by (outgoing.sends now) old new f = inl (ap (λ (u : Transmission). u.flight.acked_tsn) f.exact)
acked-by (outgoing.forwards u c) old new f = inl (ap (λ (u : Transmission). u.flight.acked_tsn) f.exact)
acked-by (outgoing.forwards_within bytes c) old new f = inl (ap (λ (u : Transmission). u.flight.acked_tsn) f.exact)
acked-by (outgoing.writes stream ppi []) old new f = inl (ap (λ (u : Transmission). u.flight.acked_tsn) (f.exact.0 refl))
acked-by (outgoing.writes stream ppi (b ∷ bs)) old new f = by (sender_stream stream old.sending.sender) refl
  where
    by : (o : Option OutboundStream) → sender_stream stream old.sending.sender ≡ o → IsAckedBy old new
    by None e = absurd (written-open stream (length (b ∷ bs)) old.sending.sender f.accepted e)
    by (Some l) e = inl (ap (λ (u : Transmission). u.flight.acked_tsn) (f.exact.1 (omega arith) l e))
acked-by (outgoing.abandons u a) old new f = grind (arith, nat_tests, common_steps)
acked-by (outgoing.expires now None) old new f = inl (ap (λ (u : Transmission). u.flight.acked_tsn) (f.exact.1.1 refl))
acked-by (outgoing.expires now (Some e)) old new f = grind (arith, nat_tests, common_steps)
acked-by (outgoing.expires_tail now None) old new f = inl (ap (λ (u : Transmission). u.flight.acked_tsn) (f.exact.1 refl))
acked-by (outgoing.expires_tail now (Some a)) old new f = grind (arith, nat_tests, common_steps)
acked-by (outgoing.expires_late now gone) old new f =
    inl (ap (λ (u : Transmission). u.flight.acked_tsn) f.exact ∙ (raises-each 0 (late_order now (flight_of old)) (flight_of old)).acked)
acked-by (outgoing.expires_rexmit gone) old new f =
    inl (ap (λ (u : Transmission). u.flight.acked_tsn) f.exact ∙ (raises-each 0 (worn_order (flight_of old)) (flight_of old)).acked)
acked-by (outgoing.takes_sack k gone) old new f = grind (arith, nat_tests, common_steps)
acked-by call old new f = inl (ap (λ (u : Transmission). u.flight.acked_tsn) f.step.sender)

-- ## A session

module _ (st first : ℕ) where
  abbrev pub to : List Entry → ℕ → ℕ
  to sent k = begun_to st k sent

  abbrev pub at : List Entry → ℕ → Bool
  at sent k = is_at st k sent

  abbrev pub Was : List Entry → ChunkPayloadData → Type 0
  Was sent c = WasSent sent (data_of c)

  -- the SACK says nothing past the place
  abbrev pub IsUpTo : ℕ → Sack → Type 0
  IsUpTo place k = (x : ℕ) × (k.cumulative_tsn_ack ≡ tsn (base first) x) × (x ≤ place)

  abbrev pub IsAnswered : ℕ → List Entry → ℕ → Session → Type 0
  IsAnswered n sent a s = (d : AreDue (base first) st n (to sent) (at sent) (Was sent) a s.receiving) × Every (IsUpTo d.arrived.place) s.sacks

  pub upto-more : (a b : ℕ) (ks : List Sack) → a ≤ b → Every (IsUpTo a) ks → Every (IsUpTo b) ks
  upto-more a b ks le h = every-of (IsUpTo a) (IsUpTo b) (λ k x. let y = x.2 in (x.0, x.1, omega (arith, y, le))) ks h

  -- ## A call of the sender

  pub same-at : (n : ℕ) (sent more : List Entry) → length sent ≡ n → IsOnceMore sent more → (k : ℕ) → k ≤ n → at more k ≡ at sent k
  same-at n sent more long (inl e) k le = ap (is_at st k) e
  same-at n sent more long (inr x) k le = ap (is_at st k) x.1 ∙ at-more st k x.0 sent (omega (arith, le, long))

  pub was-more : (sent more : List Entry) → IsOnceMore sent more → (c : ChunkPayloadData) → Was sent c → Was more c
  was-more sent more (inl e) c w = subst (λ xs. Was xs c) (sym e) w
  was-more sent more (inr x) c w = subst (λ xs. Was xs c) (sym x.1) (sent-more x.0 sent (data_of c) w)

  pub same-to : (n : ℕ) (sent more : List Entry) → length sent ≡ n → IsOnceMore sent more → (k : ℕ) → k ≤ n → to more k ≡ to sent k
  same-to n sent more long (inl e) k le = ap (begun_to st k) e
  same-to n sent more long (inr x) k le = ap (begun_to st k) x.1 ∙ to-more st k x.0 sent (omega (arith, le, long))

  pub sender-answered-on : (on dropped : ℕ → Bool) (n : ℕ) (call : SenderCall) (old new : Session) (ns : List Numbered) (sent : List Entry)
      (i : IsSpreadOn on dropped first n old ns sent) → (few : n + distance (next_tsn old) (next_tsn new) < 2 ^ 31) → (f : SenderFollows call old new)
      → (x : SpreadsOn on dropped first n call old new ns sent i) → IsAnswered n sent i.step.numbered.acked old
      → IsAnswered (n + distance (next_tsn old) (next_tsn new)) x.more x.spread.step.numbered.acked new
  sender-answered-on on dropped n call old new ns sent i few f x t =
      let d = t.0 in
      let m = n + distance (next_tsn old) (next_tsn new) in
      let b = x.spread.step.numbered.acked in
      let is = x.spread.step.numbered.acked_is in
      let least : b ≤ d.arrived.place = grind (arith, nat_tests, common_steps, acked-by, every-contained, same-place) in
      subst (IsAnswered m x.more b) (sym f.after) (
        are-more (base first) st n m (to sent) (to x.more) (at sent) (at x.more) (Was sent) (Was x.more) few (omega arith)
            (same-to n sent x.more i.long x.once) (to-up st n m x.more (omega arith)) (same-at n sent x.more i.long x.once)
            (was-more sent x.more x.once) i.step.numbered.acked b old.receiving d least,
        t.1,
      )

  pub sender-answered : (n : ℕ) (call : SenderCall) (old new : Session) (ns : List Numbered) (sent : List Entry) (i : IsSpread first n old ns sent)
      → (few : n + distance (next_tsn old) (next_tsn new) < 2 ^ 31) → (f : SenderFollows call old new) → (x : Spreads first n call old new ns sent i)
      → IsAnswered n sent i.step.numbered.acked old → IsAnswered (n + distance (next_tsn old) (next_tsn new)) x.more x.spread.step.numbered.acked new
  sender-answered n call old new ns sent i few f x t = sender-answered-on all_streams none_dropped n call old new ns sent i few f x t

  -- ## A call of the receiver

  module _ (on dropped : ℕ → Bool) (o : on st ≡ true) (n : ℕ) (old : Session) (ns : List Numbered) (sent : List Entry)
      (i : IsSpreadOn on dropped first n old ns sent) (few : n < 2 ^ 31) where
    abbrev pub acked : ℕ
    acked = i.step.numbered.acked

    pub grows : (j k : ℕ) → j ≤ k → to sent j ≤ to sent k
    grows j k le = to-up st j k sent le

    pub near : to sent n ≤ to sent acked + 2 ^ 14
    near = let long = i.long in let all = to-all st n sent (omega (arith, long)) in let h = i.near st o in omega (arith, all, h)

    -- a chunk that was made
    pub entry-of : (c : ChunkPayloadData) → Was sent c → IsEntry st first sent c
    entry-of c w =
        let q = i.holds.held.stands.queued in
        (made-entry on ns first sent q.line q.indexed q.joined st o c w).0

    pub step-of : (c : ChunkPayloadData) → Contains old.made (data_chunk (data_of c)) → IsStepOf (base first) st n (to sent) (at sent) (Was sent) c
    step-of c in' =
        let w = found-sent-on on sent old.made (data_of c) i.holds.made in' in
        let e = entry-of c w in
        record {
          before = e.before;
          within = omega arith;
          is = e.is;
          made = w;
          on = e.on;
          other = e.step.other;
          own = λ h. let k = e.step.number h in (k.0, sym k.1, k.2);
          inner = λ h b. sym (e.inner b);
        }

    -- the place is one of the message with this index
    abbrev IsIn : ℕ → ℕ → Type 0
    IsIn j z = (at sent z ≡ true) × (to sent z ≡ j + 1)

    all-in : (j k l m : ℕ) → IsIn j k → IsIn j l → k ≤ m → m ≤ l → IsIn j m
    all-in j k l m a b le most =
        let up = to-up st k m sent le in
        let x = a.1 in
        let y = b.1 in
        (between st sent i.holds.held.stands.queued.joined k l m a.0 b.0 le most (x ∙ sym y), omega (arith, up, to-up st m l sent most, x, y))

    rising-of : (j low : ℕ) (cs : List ChunkPayloadData) → Rises (base first) st n (to sent) (at sent) (Was sent) j low cs
        → Rising (base first) n few (IsIn j) (all-in j) low cs
    rising-of j low [] r = tt
    rising-of j low (c ∷ cs) r =
        let o = r.0 in
        let e = entry-of c o.made in
        let same : e.before + 1 ≡ o.before + 1 = omega (arith, few, e.is, o.is) in
        let back : e.before ≡ o.before + 1 - 1 = omega (arith, same) in
        let begun = ap (to sent) same ∙ o.begun in (
          record {
            place = o.before + 1;
            past = omega arith;
            within = o.within;
            is = o.is;
            of = (ap (at sent) (sym same) ∙ e.on ∙ o.on, o.begun);
            next = grind (arith, nat_tests, common_steps);
            prior = grind (arith, nat_tests, common_steps);
          },
          rising-of j (o.before + 1) cs r.2,
        )

    pub missed : (m j : ℕ) (cs : List ChunkPayloadData) → m ≤ n → Fits (base first) st n (to sent) (at sent) (Was sent) j cs
        → misses (tsn (base first) m) cs ≡ true
        → (z : ℕ) × (z ≤ m) × (at sent z ≡ true) × (to sent z ≡ j + 1) × (list_any (has_tsn (tsn (base first) z)) cs ≡ false)
    missed m j cs le r e =
        let g = missing (base first) n few (IsIn j) (all-in j) m le cs (rising-of j 0 cs r) e in
        (g.place, g.upto, g.of.0, g.of.1, g.absent)

    pub refused : (f : _) (r : Reception) → skip_refusal f r ≡ None → (names_too_far f r ≡ false) × (names_closed f r ≡ false)
    refused f r e = grind (arith, nat_tests, common_steps)

    module _ (new : Session) (d : AreDue (base first) st n (to sent) (at sent) (Was sent) acked old.receiving) where
      abbrev Old : ℕ → Type 0
      Old = Came (base first) st n (to sent) (at sent) (Was sent) old.receiving.receiver.cumulative_tsn old.receiving.receiver.beyond

      abbrev Now : Type 0
      Now = AreDue (base first) st n (to sent) (at sent) (Was sent) d.arrived.place new.receiving

      pub same-streams : new.receiving.receiver.streams ≡ old.receiving.receiver.streams
          → new.receiving.receiver.cumulative_tsn ≡ old.receiving.receiver.cumulative_tsn
          → new.receiving.receiver.beyond ≡ old.receiving.receiver.beyond → Now
      same-streams streams cumulative beyond =
          quiet (base first) st n (to sent) (at sent) (Was sent) few grows acked old.receiving new.receiving d
          (subst (λ ls. DueOn (base first) st n (to sent) (at sent) (Was sent) Old d.k d.reach (find (has_number st) ls)) (sym streams) d.due) cumulative beyond

      -- a FORWARD-TSN that was made, where the stream is open if it names that
      pub passed-due : (g : ForwardTsn) → Contains old.made (forward_tsn g) → new.receiving.receiver ≡ after_forward_tsn g old.receiving.receiver
          → names_too_far g old.receiving.receiver ≡ false
          → ((m : ℕ) → g.new_cumulative_tsn ≡ tsn (base first) m → m ≤ n → d.arrived.place < m → (j : ℕ)
          → filter (is_pair_of st) g.streams ≡ record { identifier = st; sequence = j } ∷ [] → is_open st old.receiving.receiver ≡ true) → Now
      passed-due g in' after near-names open' =
          let x = every-contained (IsMadeNaming st (base first) acked sent) old.made (forward_tsn g) in' (i.names st o) in
          (followed-due (base first) st n (to sent) (at sent)
          (Was sent) few grows acked near g x.place old.receiving new.receiving d (omega arith) x.is after x.tells near-names
          (λ lt j only. open' x.place x.is (omega arith) lt j only)
          (λ j cs fits e. missed x.place j cs (omega arith) fits e)).0

      due-after : (call : ReceiverCall) → ReceiverFollows call old new → Now
      due-after (incoming.opens stream) f =
          quiet (base first) st n (to sent) (at sent) (Was sent) few grows acked old.receiving new.receiving d
          (subst (λ (r : Reception). DueOn (base first) st n (to sent) (at sent) (Was sent) Old d.k d.reach (stream_of st r)) (sym f.step.receiver.1)
          (opened-due (base first) st n (to sent) (at sent) (Was sent) few grows Old d.k d.reach stream old.receiving.receiver.max_message_size
          old.receiving.receiver.streams d.due))
          (ap (λ (r : Reception). r.cumulative_tsn) f.step.receiver.1) (ap (λ (r : Reception). r.beyond) f.step.receiver.1)
      due-after (incoming.takes c (New answered)) f =
          let fresh = fresh-new c.tsn answered old.receiving.receiver f.accepted.1 in
          (taken-due (base first) st n (to sent) (at sent)
          (Was sent) few grows acked near c answered old.receiving new.receiving d (step-of c f.handed) f.step.receiver
          fresh (not-far c old.receiving.receiver fresh f.accepted.0)).0
      due-after (incoming.follows g) f =
          let r = refused g old.receiving.receiver f.accepted in
          passed-due g f.handed f.step.receiver r.0
          (λ m is le lt j only. unnot (is_open st old.receiving.receiver)
          (none-among (base first) st n (to sent) (at sent) (Was sent) few grows acked g m old.receiving d le is
          (λ x. not (is_open x.identifier old.receiving.receiver)) r.1 lt (record { identifier = st; sequence = j }) only))
      due-after (incoming.reads stream) f =
          read-on-due (base first) st n (to sent) (at sent)
          (Was sent) few grows acked stream old.receiving new.receiving d (ap (λ (r : Reception). r.streams) f.step.receiver)
          (ap (λ (r : Reception). r.cumulative_tsn) f.step.receiver) (ap (λ (r : Reception). r.beyond) f.step.receiver)
      due-after call f = grind (arith, nat_tests, common_steps, same-streams)

  -- the SACKs that were made
  answered-after : (place more : ℕ) (old : Session) (call : ReceiverCall) → old.receiving.receiver.cumulative_tsn ≡ tsn (base first) place → place ≤ more
      → Every (IsUpTo place) old.sacks → Every (IsUpTo more) (reports_after call old.receiving.receiver old.sacks)
  answered-after h0 h1 h2 h3 h4 h5 h6 = grind (arith, nat_tests, common_steps, upto-more)

  -- what is due then, where the sender stays as it is and the SACKs say so much
  pub answered-beside : (on dropped : ℕ → Bool) (n : ℕ) (old new : Session) (ns : List Numbered) (sent : List Entry)
      (i : IsSpreadOn on dropped first n old ns sent) (few : n < 2 ^ 31) (spread : IsSpreadOn on dropped first n new ns sent)
      → new.sending ≡ old.sending → (t : IsAnswered n sent i.step.numbered.acked old)
      → (e : AreDue (base first) st n (to sent) (at sent) (Was sent) t.0.arrived.place new.receiving) → Every (IsUpTo e.arrived.place) new.sacks
      → IsAnswered n sent spread.step.numbered.acked new
  answered-beside on dropped n old new ns sent i few spread sending t e upto =
      let a = i.step.numbered.acked in
      let b = spread.step.numbered.acked in
      let same : b ≡ a = same-place (base first) b a (omega (arith, spread.step.numbered.total, few)) (omega (arith, i.step.numbered.total, few))
      (sym spread.step.numbered.acked_is ∙ ap (λ (l : Ledger). l.sender.flight.acked_tsn) sending ∙ i.step.numbered.acked_is) in
      let up = e.arrived.least_is in
      let from = t.0.arrived.least_is in (
        are-more (base first) st n n (to sent) (to sent) (at sent) (at sent) (Was sent) (Was sent) few (omega arith) (λ k le. refl) (omega arith)
            (λ k le. refl) (λ c w. w) t.0.arrived.place b new.receiving e
            (omega (arith, same, up, from)),
        upto,
      )

  pub receiver-answered-on : (on dropped : ℕ → Bool) → on st ≡ true → (n : ℕ) (call : ReceiverCall) (old new : Session) (ns : List Numbered)
      (sent : List Entry) (i : IsSpreadOn on dropped first n old ns sent) → (few : n < 2 ^ 31) → (f : ReceiverFollows call old new)
      → (spread : IsSpreadOn on dropped first n new ns sent) → IsAnswered n sent i.step.numbered.acked old
      → IsAnswered n sent spread.step.numbered.acked new
  receiver-answered-on on dropped o n call old new ns sent i few f spread t =
      let d = t.0 in
      let e = due-after on dropped o n old ns sent i few new d call f in
      answered-beside on dropped n old new ns sent i few spread (ap (λ (s : Session). s.sending) f.after) t e
      (subst (Every (IsUpTo e.arrived.place)) (sym (ap (λ (s : Session). s.sacks) f.after))
      (answered-after d.arrived.place e.arrived.place old call d.arrived.is e.arrived.least_is t.1))

  receiver-answered : (n : ℕ) (call : ReceiverCall) (old new : Session) (ns : List Numbered) (sent : List Entry) (i : IsSpread first n old ns sent)
      → (few : n < 2 ^ 31) → (f : ReceiverFollows call old new) → (spread : IsSpread first n new ns sent)
      → IsAnswered n sent i.step.numbered.acked old → IsAnswered n sent spread.step.numbered.acked new
  receiver-answered n call old new ns sent i few f spread t =
      receiver-answered-on all_streams none_dropped refl n call old new ns sent i few f spread t

-- ## Every session

-- on each stream that each FORWARD-TSN names, what is read is in turn
pub record IsUnwrapped (first n : ℕ) (s : Session) (ns : List Numbered) (sent : List Entry) : Type 0 where
  pub spread : IsSpread first n s ns sent
  pub answered : (st : ℕ) → IsAnswered st first n sent spread.step.numbered.acked s

pub receiver-unwrapped : (first n : ℕ) (call : ReceiverCall) (old new : Session) (ns : List Numbered) (sent : List Entry) → n < 2 ^ 31
    → ReceiverFollows call old new → IsUnwrapped first n old ns sent → IsUnwrapped first n new ns sent
receiver-unwrapped first n call old new ns sent few f i =
    let spread = receiver-spreads first n call old new ns sent few f i.spread in
    record {
      spread = spread;
      answered = λ st. receiver-answered st first n call old new ns sent i.spread few f spread (i.answered st);
    }

pub answered-first : (st first : ℕ) (on dropped : ℕ → Bool) (size max most : ℕ) (limits : Option Limits) (small : first < 2 ^ 32) (some : 0 < size)
    → IsAnswered st first 0 [] (spread-first-on on dropped first size max most limits small some).step.numbered.acked
    (at_start first size max most limits)
answered-first st first on dropped size max most limits small some = grind (arith, nat_tests, common_steps)

pub unwrapped-first : (first size max most : ℕ) (limits : Option Limits) → first < 2 ^ 32 → 0 < size
    → IsUnwrapped first 0 (at_start first size max most limits) [] []
unwrapped-first first size max most limits small some =
    record {
      spread = spread-first-on all_streams none_dropped first size max most limits small some;
      answered = λ st. answered-first st first all_streams none_dropped size max most limits small some;
    }
