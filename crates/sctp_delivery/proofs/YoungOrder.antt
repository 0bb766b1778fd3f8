-- Sessions of a whole life: the ordered messages of a stream are read in the order of their writes.
use Rattle.sctp_delivery.proofs.Names.{common_steps, ◌≡◌, ℕ, ◌+◌, ◌-◌, ◌%◌, ◌<◌, ◌≤◌, ◌^◌, Bool, true, false, not, List, [], ◌∷◌, length, Option, Some, None}
use Rattle.sctp_delivery.proofs.Names.{refl, ap, sym, subst, ◌∙◌, arith, nat_tests, inl, inr, ⊤, ◌==◌, if◌then◌else◌, list_all, find, option_map, AllPairs}
use Rattle.sctp_delivery.proofs.Names.{both, not_both, same-is, none-some, tsn, ChunkPayloadData, ChunkSet, data_of, data_chunk, forward_tsn, ForwardTsn}
use Rattle.sctp_delivery.proofs.Names.{fragments_on, InboundStream, Reception, Stand, stream_of, stream_read, message_on, Message, New, Limits, is_open}
use Rattle.sctp_delivery.proofs.Names.{names_closed, names_too_far, skip_refusal, ReceiverCall, SenderCall, ReceiverFollows, SenderFollows, Session, Call}
use Rattle.sctp_delivery.proofs.Names.{RunsTo, at_start, of_receiver, of_sender, AreReadInOrder, StandAt, change_where, Modes, at_first, modes_after}
use Rattle.sctp_delivery.proofs.Names.{modes_from, after_forward_tsn, filter_of, has_come, is_pair_of, list_any, list_any-those, or-left, same-yes, with_filter}
use Rattle.sctp_delivery.proofs.Names.{with_tsn, ◌⊎◌, ◌&&◌}
use Rattle.sctp_util.specs.Serial.{comes_before, distance}
use Rattle.sctp_receiver.specs.Inbound.{numbers_of, has_number}
use Rattle.sctp_receiver.specs.Receiver.{repeat_tsn, message_of}
use Rattle.sctp_receiver.specs.Resets.{stream_reset}
use Rattle.sctp_receiver.proofs.Closed.{others-left}
use Rattle.sctp_receiver.proofs.StreamCosts.{are_apart}
use Rattle.sctp_delivery.specs.EveryCall.{ReceiverDoes, ReceiverOther, closes_incoming, discards, of_receiving, passes_over, resets_incoming}
use Rattle.sctp_delivery.specs.EveryOrder.{breaks}
use Rattle.sctp_delivery.specs.EveryRecent.{IsPassedYoung, IsRecentAny}
use Rattle.sctp_delivery.proofs.EveryTurns.{near-names}
use Rattle.sctp_receiver.specs.ReceiverRuns.{with_message}
use Rattle.std.proofs.Common.{◌≢◌}
use Rattle.sctp_delivery.specs.Modes.{AreReadAsWritten, was_written_ordered}
use Rattle.sctp_delivery.specs.Order.{is_ordered_on, places_where}
use Rattle.sctp_delivery.specs.ReceiverCalls as incoming
use Rattle.sctp_delivery.specs.Recent.{Aged, AreForwardsYoung, AreRecent, AreYoung, HoldsRecent, IsAmongYoung, IsForwardYoung, IsRecent, IsYoung}
use Rattle.sctp_delivery.specs.Recent.{WhileAllAreYoung, AfterEachYoungRun, aged_after}
use Rattle.sctp_delivery.specs.Session.{count_in_flight}
use Rattle.sctp_delivery.proofs.Calls.{numbered_after}
use Rattle.sctp_delivery.proofs.Cases.{all_streams, by-test}
use Rattle.sctp_delivery.proofs.Delivered.{EachSentFrom, Holds, HoldsOn, IsReadOf, Sends, next_tsn, sender-step, sender-step-on}
use Rattle.sctp_delivery.proofs.Every.{Every, every-contained}
use Rattle.sctp_delivery.proofs.Kept.{changed-elsewhere, changed-here}
use Rattle.sctp_delivery.proofs.OrderedMessages.{is_in_order, not-far, starts_ordered}
use Rattle.sctp_delivery.proofs.Queues.{IsOnceMore}
use Rattle.sctp_delivery.proofs.Recent.{IsNear, near-first, receiver-near, sender-near}
use Rattle.sctp_delivery.proofs.Sent.{Entry, IsLine, Numbered, fragment, part-length, part-line}
use Rattle.sctp_delivery.proofs.Sessions.{unnot}
use Rattle.sctp_delivery.proofs.SpreadEntries.{begun_to, to-part, to-up}
use Rattle.sctp_delivery.proofs.TakenCalls.{fresh-new}
use Rattle.sctp_delivery.proofs.TsnPlaces.{base}
use Rattle.sctp_delivery.proofs.UnwrappedCalls.{AreDueSince, IsNamingTo, followed-due, moved, none-among, opened-due, other-due, quiet, taken-due}
use Rattle.sctp_delivery.proofs.UnwrappedHolds.{AreDue, Came, DueOn, Fits, Where, at-in}
use Rattle.sctp_delivery.proofs.UnwrappedReads.{read-due}
use Rattle.sctp_delivery.proofs.YoungOwn.{AreAt, AreRead, AreReadOn, AtFirst, IsDone, IsOwned, all-whole, apart, owned-first, reads-are, receiver-owned}
use Rattle.sctp_delivery.proofs.YoungOwn.{sender-owned}
use Rattle.sctp_delivery.proofs.YoungReads.{IsPlaced, IsYoungSession, floor, more-long, receiver-young, recent-place, sender-young, young-first}
use Rattle.sctp_delivery.proofs.YoungSpread.{IsNamedAt, IsSpreadOut, IsSpreadOver, receiver-spread, sender-spread, spread-first}
use Rattle.sctp_delivery.proofs.Begun.{AreOnce}
use Rattle.sctp_delivery.proofs.ModeSessions.{IsAsSaid, said-after, said-beside, said-first, starts-ordered}
use Rattle.sctp_delivery.proofs.OnceWritten.{EachRead, places, stand}
use Rattle.sctp_delivery.proofs.OrderedEntries.{AreRising, begun_on}
use Rattle.sctp_delivery.proofs.OrderedPlaces.{AreNumbered}
use Rattle.sctp_delivery.proofs.UnwrappedLaw.{AreIndexedBelow, in-order-by, starts}
use Rattle.sctp_delivery.proofs.YoungTurns.{At, Begun, Due, Stands, due-later, due-more, missed, step-of}

-- what a FORWARD-TSN that is not refused names
refused : (f : ForwardTsn) (r : Reception) → skip_refusal f r ≡ None → (names_too_far f r ≡ false) × (names_closed f r ≡ false)
refused f r e = grind (arith, nat_tests, common_steps)

-- a TSN before the next one, to which a young FORWARD-TSN goes, is of a place that is less than 2^31 TSNs old
recent-name : (first n place age next t : ℕ) → place ≤ n → n < place + age + 2 ^ 31 → age < 2 ^ 31 → next ≡ (first + n) % 2 ^ 32
    → t ≡ tsn (base first) place → comes_before t next ≡ true → floor n ≤ place
unfolding comes_before distance
recent-name first n place age next t upto far less is at e = grind (arith, nat_tests, common_steps)

abbrev pub alone : Reception → Stand
alone r = record { receiver = r; accepted = []; read = [] }

lower : (st first : ℕ) (sent : List Entry) (low a b : ℕ) (r : Reception) → a ≤ b → (e : Due st first sent low b r)
    → (f : Due st first sent low a r) × (f.k ≡ e.k)
lower st first sent low a b r le e =
    let h = e.arrived in
    let least = h.least_is in (
      record {
        k = e.k;
        reach = e.reach;
        due = e.due;
        most = e.most;
        arrived = record { place = h.place; least_is = omega (arith, least, le); within = h.within; is = h.is; covered = h.covered; each = h.each };
      },
      refl,
    )

-- ## A call of the receiver

module _ (going : ℕ → Bool) (st first : ℕ) (goes : going st ≡ true) (old new : Session) (ns : List Numbered) (sent : List Entry) (ages : List Aged)
    (h : HoldsOn going first old ns sent) (i : IsNear old) (x : IsSpreadOver going first old sent ages) (placed : Every (IsPlaced sent) ages) where
  abbrev low : ℕ
  low = floor (length sent)

  abbrev n : ℕ
  n = length sent - low

  abbrev p : ℕ
  p = base first + low

  abbrev B : ℕ → ℕ
  B = Begun st first sent low

  abbrev E : ℕ → Bool
  E = At st first sent low

  abbrev M : ChunkPayloadData → Type 0
  M = Stands st first sent low

  abbrev r : Reception
  r = old.receiving.receiver

  abbrev s : Reception
  s = new.receiving.receiver

  few : n < 2 ^ 31
  few = omega arith

  within : low ≤ length sent
  within = omega arith

  acked-from : low ≤ x.set.acked
  acked-from = let t = x.set.total in let f = i.few in omega (arith, t, f)

  abbrev a : ℕ
  a = x.set.acked - low

  grows : (j k : ℕ) → j ≤ k → B j ≤ B k
  grows j k le = to-up st (low + j) (low + k) sent (omega (arith, le))

  near : B n ≤ B a + 2 ^ 14
  near = grind (arith, nat_tests, common_steps)

  stands-of : (c : ChunkPayloadData) → IsAmongYoung (data_chunk (data_of c)) ages → M c
  stands-of c y = grind (arith, nat_tests, common_steps)

  module _ (d : Due st first sent low a r) where
    abbrev pub Now : Type 0
    Now = AreDueSince p st n B E M d.k d.arrived.place (alone s)

    abbrev Old : ℕ → Type 0
    Old = Came p st n B E M r.cumulative_tsn r.beyond

    -- the stream is as it was
    untouched : stream_of st s ≡ stream_of st r → s.cumulative_tsn ≡ r.cumulative_tsn → s.beyond ≡ r.beyond → Now
    untouched same cumulative beyond = (
      quiet p st n B E M few grows a (alone r) (alone s) d (subst (DueOn p st n B E M Old d.k d.reach) (sym same) d.due) cumulative beyond,
      omega arith,
    )

    still : s.streams ≡ r.streams → s.cumulative_tsn ≡ r.cumulative_tsn → s.beyond ≡ r.beyond → Now
    still streams = untouched (ap (find (has_number st)) streams)

    -- behind a FORWARD-TSN, where what it names is open
    passed : (g : ForwardTsn) → IsAmongYoung (forward_tsn g) ages → comes_before g.new_cumulative_tsn (next_tsn old) ≡ true → s ≡ after_forward_tsn g r
        → names_too_far g r ≡ false → (names_closed g r ≡ false) ⊎ (list_any (is_pair_of st) g.streams ≡ true → is_open st r ≡ true) → Now
    passed g y before after close open' =
        let z = every-contained (λ (m : Aged). IsNamedAt going first x.set.acked m.age sent m.chunk) ages
        (record { chunk = forward_tsn g; age = y.0 }) y.2 x.names in
        let m = z.0 - low in
        let upto = z.1 in
        let far = z.2 in
        let less = y.1 in
        let at = z.3 in
        let from : low ≤ z.0 = recent-name first (length sent) z.0 y.0 (next_tsn old) g.new_cumulative_tsn upto far less h.held.stands.counted at before in
        let start = acked-from in
        let here : low + m ≡ z.0 = omega (arith, from) in
        let there : low + a ≡ x.set.acked = omega (arith, start) in
        let to = ap (λ k. begun_to st k sent) here in
        let by = ap (λ k. begun_to st k sent) there in
        let is : g.new_cumulative_tsn ≡ tsn p m = omega (arith, at, from) in
        let le : m ≤ n = omega (arith, upto, from) in
        let naming : IsNamingTo p st n B E M a m g.streams = grind (arith, nat_tests, common_steps) in
        followed-due p st n B E M few grows a near g m (alone r) (alone s) d le is after naming close
        (λ lt j only. elim open' [
          | inl all ↦ unnot (is_open st r) (none-among p st n B E M few grows a g m (alone r) d le is (λ o. not (is_open o.identifier r)) all lt
              (record { identifier = st; sequence = j }) only)
          | inr named ↦ named (list_any-those (is_pair_of st) (is_pair_of st) g.streams
              (ap (list_any (is_pair_of st)) only ∙ or-left (st == st) false (same-yes st)))
        ])
        (λ j cs fits e.
        missed st first going goes ns sent h.held.stands.queued.line h.held.stands.queued.indexed h.held.stands.queued.joined low few within m j cs le
        fits e)

    -- a call of the receiver that most sessions do not have, by which the stream goes on
    pub other : (opened : Bool) → (opened ≡ true → is_open st r ≡ true) → are_apart (numbers_of r.streams) ≡ true → (call : ReceiverOther)
        → ReceiverDoes call old new → IsRecentAny (of_receiving call) old → IsPassedYoung (of_receiving call) ages
        → breaks opened st (of_receiving call) ≡ false → Now
    other opened open' apart (discards c) f q y off = by-test (has_come c.tsn (filter_of r))
        (λ e.
        let same : s ≡ repeat_tsn c.tsn r = is e in
        still (ap (λ (o : Reception). o.streams) same) (ap (λ (o : Reception). o.cumulative_tsn) same) (ap (λ (o : Reception). o.beyond) same))
        (λ e.
        let same : s ≡ with_filter (with_tsn c.tsn (filter_of r)) r = is e in (
          other-due p st n B E M few grows a near c (alone r) (alone s) d
              (step-of st first going goes ns sent h.held.stands.queued.line h.held.stands.queued.indexed h.held.stands.queued.joined low few within c
              (stands-of c y))
              r same e off (subst (DueOn p st n B E M Old d.k d.reach) (sym (ap (stream_of st) same)) d.due),
          omega arith,
        ))
      where
        is : {b : Bool} → has_come c.tsn (filter_of r) ≡ b → s ≡ (if b then repeat_tsn c.tsn r else with_filter (with_tsn c.tsn (filter_of r)) r)
        is e = f.step.receiver ∙ ap (λ b. if b then repeat_tsn c.tsn r else with_filter (with_tsn c.tsn (filter_of r)) r) e
    other opened open' apart (closes_incoming stream) f q y off =
        untouched (ap (stream_of st) f.step.receiver ∙ others-left stream st off r.streams apart)
        (ap (λ (o : Reception). o.cumulative_tsn) f.step.receiver) (ap (λ (o : Reception). o.beyond) f.step.receiver)
    other opened open' apart (resets_incoming stream last) f q y off =
        untouched (ap (stream_of st) f.step.receiver ∙ changed-elsewhere stream (stream_reset last) (λ l k. refl) r.streams st off)
        (ap (λ (o : Reception). o.cumulative_tsn) f.step.receiver) (ap (λ (o : Reception). o.beyond) f.step.receiver)
    other opened open' apart (passes_over g) f q y off =
        passed g y q f.step.receiver (near-names g r (names_too_far g r) f.accepted) (inr (λ named. open' (unnot opened (and-left (not opened) named off))))
      where
        and-left : (b : Bool) {c : Bool} → c ≡ true → (b && c) ≡ false → b ≡ false
        and-left false e k = refl
        and-left true e k = absurd (not_both (sym k ∙ e))

    after : (c : ReceiverCall) → ReceiverFollows c old new → IsYoung (of_receiver c) ages → IsForwardYoung (of_receiver c) ages
        → IsRecent (of_receiver c) old → ((stream : ℕ) → c ≡ incoming.reads stream → ⊥) → Now
    after (incoming.opens stream) f y z q none = (
      quiet p st n B E M few grows a (alone r) (alone s) d
          (subst (λ (o : Reception). DueOn p st n B E M Old d.k d.reach (stream_of st o)) (sym f.step.receiver.1)
          (opened-due p st n B E M few grows Old d.k d.reach stream r.max_message_size r.streams d.due))
          (ap (λ (o : Reception). o.cumulative_tsn) f.step.receiver.1) (ap (λ (o : Reception). o.beyond) f.step.receiver.1),
      omega arith,
    )
    after (incoming.takes c (New said)) f y z q none =
        let fresh = fresh-new c.tsn said r f.accepted.1 in
        taken-due p st n B E M few grows a near c said (alone r) (alone s) d
        (step-of st first going goes ns sent h.held.stands.queued.line h.held.stands.queued.indexed h.held.stands.queued.joined low few within c
        (stands-of c y))
        f.step.receiver fresh (not-far c r fresh f.accepted.0)
    after (incoming.follows g) f y z q none = let close = refused g r f.accepted in passed g z q f.step.receiver close.0 (inl close.1)
    after (incoming.reads stream) f y z q none = absurd (none stream refl)
    after c f y z q none =
        still (ap (λ (o : Reception). o.streams) f.step.receiver) (ap (λ (o : Reception). o.cumulative_tsn) f.step.receiver)
        (ap (λ (o : Reception). o.beyond) f.step.receiver)

    -- a message is read: where it is an ordered one of the stream, it has an index from the first that was due on
    module _ (stream : ℕ) (f : ReceiverFollows (incoming.reads stream) old new) where
      abbrev IsNext : ℕ → Type 0
      IsNext k =
          (set : ChunkSet) → message_on stream r ≡ Some set → is_in_order st (record { stream = stream; fragments = set.chunks }) ≡ true
          → (j : ℕ) × (d.k ≤ j) × (j < k) × Fits p st n B E M j set.chunks

      abbrev Reads : Type 0
      Reads = (e : AreDue p st n B E M d.arrived.place (alone s)) × (d.k ≤ e.k) × IsNext e.k

      to : (k : ℕ) → d.k ≤ k → IsNext k → DueOn p st n B E M Old k d.reach (stream_of st s) → Reads
      to k le next due = (
        moved p st n B E M few grows a (alone r) (alone s) d k due (ap (λ (o : Reception). o.cumulative_tsn) f.step.receiver)
            (ap (λ (o : Reception). o.beyond) f.step.receiver),
        le,
        next,
      )

      found : stream_of st s ≡ find (has_number st) (change_where (has_number stream) stream_read r.streams)
      found = ap (stream_of st) f.step.receiver

      here : (stream == st) ≡ true → (o : Option InboundStream) → stream_of st r ≡ o → Reads
      here e None is =
          to d.k (omega arith) (λ set m order. absurd (none-some set (sym (ap message_of (there ∙ is)) ∙ m)))
          (subst (DueOn p st n B E M Old d.k d.reach) (sym (found ∙ changed-here stream stream_read (λ l g. refl) r.streams st e
          ∙ ap (option_map stream_read) is)) (subst (DueOn p st n B E M Old d.k d.reach) is d.due))
        where
          there : stream_of stream r ≡ stream_of st r
          there = ap (λ k. stream_of k r) (same-is stream st e)
      here e (Some l) is =
          let there = ap (λ k. stream_of k r) (same-is stream st e) in
          let x = read-due p n B (Fits p st n B E M) Old (at-in p st n B E M few grows) d.k d.reach l.queue.held
          (subst (DueOn p st n B E M Old d.k d.reach) is d.due) in
          to x.after x.up (λ set m order. let t = x.turn set (sym (ap message_of (there ∙ is)) ∙ m) (both (stream == st) (starts_ordered set.chunks) order).1 in
          (t.0, t.1.0, t.1.1, t.2))
          (subst (DueOn p st n B E M Old x.after d.reach) (sym (found ∙ changed-here stream stream_read (λ l g. refl) r.streams st e
          ∙ ap (option_map stream_read) is)) x.due)

      elsewhere : (stream == st) ≡ false → Reads
      elsewhere e =
          to d.k (omega arith) (λ set m order. absurd (not_both (sym e ∙ (both (stream == st) (starts_ordered set.chunks) order).0)))
          (subst (DueOn p st n B E M Old d.k d.reach) (sym (found ∙ changed-elsewhere stream stream_read (λ l g. refl) r.streams st e)) d.due)

      reads : Reads
      reads = by-test (stream == st) (λ e. here e (stream_of st r) refl) elsewhere

-- ## Messages that were read

-- the ordered ones of the stream have indexes below this one, each later one a greater one: p is the place of the first fragment
abbrev pub AreTurned : ℕ → List Entry → ℕ → List Message → List ℕ → Type 0
AreTurned st sent k [] ps = ⊤
AreTurned st sent k (m ∷ ms) [] = ⊤
AreTurned st sent k (m ∷ ms) (p ∷ ps) =
    Where (is_in_order st m) ((i : ℕ) × (i < k) × (p ≤ length sent) × (begun_to st p sent ≡ i + 1) × AreTurned st sent i ms ps)
    (AreTurned st sent k ms ps)

pub turned-more : (st : ℕ) (sent more : List Entry) → IsOnceMore sent more → (j k : ℕ) → j ≤ k → (ms : List Message) (ps : List ℕ) → AreTurned st sent j ms ps
    → AreTurned st more k ms ps
turned-more st sent more once j k le [] ps t = tt
turned-more st sent more once j k le (m ∷ ms) [] t = tt
turned-more st sent more once j k le (m ∷ ms) (p ∷ ps) t = by (is_in_order st m) t (λ i l. turned-more st sent more once i i (omega arith) ms ps)
    (turned-more st sent more once j k le ms ps)
  where
    by : (b : Bool) → Where b ((i : ℕ) × (i < j) × (p ≤ length sent) × (begun_to st p sent ≡ i + 1) × AreTurned st sent i ms ps) (AreTurned st sent j ms ps)
        → ((i : ℕ) → i < j → AreTurned st sent i ms ps → AreTurned st more i ms ps) → (AreTurned st sent j ms ps → AreTurned st more k ms ps)
        → Where b ((i : ℕ) × (i < k) × (p ≤ length more) × (begun_to st p more ≡ i + 1) × AreTurned st more i ms ps) (AreTurned st more k ms ps)
    by h0 h1 h2 h3 = grind (arith, nat_tests, common_steps)

-- ## A session

-- what is due then, and the turn of the messages that were read
pub later-turn : (st first : ℕ) (sent : List Entry) (start : ℕ) (r q : Reception) (ms : List Message) (ps : List ℕ)
    (d : Due st first sent (floor (length sent)) start r) → AreTurned st sent d.k ms ps
    → AreDueSince (base first + floor (length sent)) st (length sent - floor (length sent)) (Begun st first sent (floor (length sent)))
    (At st first sent (floor (length sent))) (Stands st first sent (floor (length sent))) d.k d.arrived.place (alone q)
    → (e : Due st first sent (floor (length sent)) start q) × AreTurned st sent e.k ms ps
later-turn st first sent start r q ms ps d t now =
    let l = lower st first sent (floor (length sent)) start d.arrived.place q d.arrived.least_is now.0 in
    let same = l.1 in
    let up = now.1 in
    (l.0, turned-more st sent sent (inl refl) d.k l.0.k (omega (arith, same, up)) ms ps t)

-- so it is of these streams
pub record IsTurned (calm : ℕ → Bool) (first : ℕ) (s : Session) (sent : List Entry) (acked : ℕ) (ps : List ℕ) : Type 0 where
  pub due : (st : ℕ) → calm st ≡ true → Due st first sent (floor (length sent)) (acked - floor (length sent)) s.receiving.receiver
  pub turned : (st : ℕ) (c : calm st ≡ true) → AreTurned st sent (due st c).k s.receiving.read ps

-- the index of an ordered message is that at the place of its first fragment
place-index : (going : ℕ → Bool) (st first : ℕ) (ns : List Numbered) (sent : List Entry) {s : Session} → HoldsOn going first s ns sent → (p : ℕ)
    → (0 < p → floor (length sent) < p) → (new : Session) (stream j : ℕ) (cs : List ChunkPayloadData) → starts_ordered cs ≡ true
    → Fits (base first + floor (length sent)) st (length sent - floor (length sent)) (Begun st first sent (floor (length sent)))
    (At st first sent (floor (length sent))) (Stands st first sent (floor (length sent))) j cs
    → (lo : ℕ) (e : EachSentFrom lo sent cs) → AtFirst (IsDone new sent stream) p lo sent cs e → (p ≤ length sent) × (begun_to st p sent ≡ j + 1)
place-index going st first ns sent h p fresh new stream j [] order fits lo e at = absurd (not_both order)
place-index going st first ns sent h p fresh new stream j (c ∷ cs) order fits lo e at =
    let o = fits.0 in
    let number = (part-line ns first sent (fragment (data_of c) e.0.0 e.0.1 ∷ e.0.2) at.1.part h.held.stands.queued.line).0.number in
    let lt = part-length sent (fragment (data_of c) e.0.0 e.0.1 ∷ e.0.2) at.1.part in
    let is = o.is in
    let within = o.within in
    let place = at.0 in
    let from = fresh (omega (arith, place)) in
    let same : p ≡ floor (length sent) + (o.before + 1) = omega (arith, number, lt, is, within, place, from) in
    (omega (arith, place, lt), ap (λ k. begun_to st k sent) same ∙ o.begun)

longer : {A : Type 0} (x : A) (xs : List A) → x ∷ xs ≡ xs → ⊥
longer x xs e = let n = ap length e in omega (arith, n)

module _ (going calm : ℕ → Bool) (sub : (st : ℕ) → calm st ≡ true → going st ≡ true) (first : ℕ) (call : ReceiverCall) (old new : Session) (ns : List Numbered)
    (sent : List Entry) (ages : List Aged) (f : ReceiverFollows call old new)
    (h : HoldsOn going first old ns sent) (i : IsNear old) (x : IsSpreadOver going first old sent ages) (placed : Every (IsPlaced sent) ages)
    (y : IsYoung (of_receiver call) ages) (z : IsForwardYoung (of_receiver call) ages) (q : IsRecent (of_receiver call) old) (ps qs : List ℕ)
    (on : AreReadOn sent old.receiving.read new.receiving.read ps qs) (read : AreRead new sent new.receiving.read qs)
    (t : IsTurned calm first old sent x.set.acked ps) where
  abbrev start : ℕ
  start = x.set.acked - floor (length sent)

  -- what is due then, and where nothing is read, or one message, its turn
  abbrev Then : ℕ → Type 0
  Then st = (e : Due st first sent (floor (length sent)) start new.receiving.receiver) × AreTurned st sent e.k new.receiving.read qs

  none-read : new.receiving.read ≡ old.receiving.read → (new.receiving.read ≡ old.receiving.read) × (qs ≡ ps)
  none-read e = grind (arith, nat_tests, common_steps, longer)

  quiet-turn : (st : ℕ) (c : calm st ≡ true) → new.receiving.read ≡ old.receiving.read
      → AreDueSince (base first + floor (length sent)) st (length sent - floor (length sent)) (Begun st first sent (floor (length sent)))
      (At st first sent (floor (length sent))) (Stands st first sent (floor (length sent))) (t.due st c).k (t.due st c).arrived.place
      (alone new.receiving.receiver) → Then st
  quiet-turn st c e now =
      let o = none-read e in
      let l = later-turn st first sent start old.receiving.receiver new.receiving.receiver old.receiving.read ps (t.due st c) (t.turned st c) now in
      (l.0, subst (λ ms. AreTurned st sent l.0.k ms qs) (sym o.0) (subst (AreTurned st sent l.0.k old.receiving.read) (sym o.1) l.1))

  -- a message that is read
  module _ (st : ℕ) (c : calm st ≡ true) (stream : ℕ) (g : ReceiverFollows (incoming.reads stream) old new) where
    d : Due st first sent (floor (length sent)) start old.receiving.receiver
    d = t.due st c

    abbrev now : Reads going st first (sub st c) old new ns sent ages h i x placed (t.due st c) stream g
    now = reads going st first (sub st c) old new ns sent ages h i x placed (t.due st c) stream g

    l : (f : Due st first sent (floor (length sent)) start new.receiving.receiver) × (f.k ≡ now.0.k)
    l = lower st first sent (floor (length sent)) start (t.due st c).arrived.place new.receiving.receiver (t.due st c).arrived.least_is now.0

    up : (t.due st c).k ≤ l.0.k
    up = let same = l.1 in let le = now.1 in omega (arith, same, le)

    with-message' : (set : ChunkSet) → message_on stream old.receiving.receiver ≡ Some set
        → new.receiving.read ≡ record { stream = stream; fragments = set.chunks } ∷ old.receiving.read → Then st
    with-message' set is e = elim on [
      | inl o ↦ absurd (longer it old.receiving.read (sym e ∙ o.0))
      | inr o ↦ (
        l.0,
        subst (λ ms. AreTurned st sent l.0.k ms qs) (sym e) (subst (AreTurned st sent l.0.k (it ∷ old.receiving.read)) (sym o.3)
            (by o.1 o.4 (subst (λ ms. AreRead new sent ms (o.1 ∷ ps)) e (subst (AreRead new sent new.receiving.read) o.3 read)) (is_in_order st it) refl)),
      )
    ]
      where
        it : Message
        it = record { stream = stream; fragments = set.chunks }

        by : (p : ℕ) → (0 < p → floor (length sent) < p)
            → AreRead new sent (record { stream = stream; fragments = set.chunks } ∷ old.receiving.read) (p ∷ ps) → (b : Bool)
            → is_in_order st (record { stream = stream; fragments = set.chunks }) ≡ b
            → Where b ((i : ℕ) × (i < l.0.k) × (p ≤ length sent) × (begun_to st p sent ≡ i + 1) × AreTurned st sent i old.receiving.read ps)
            (AreTurned st sent l.0.k old.receiving.read ps)
        by p fresh r false m = turned-more st sent sent (inl refl) (t.due st c).k l.0.k up old.receiving.read ps (t.turned st c)
        by p fresh r true m =
            let j = now.2 set is m in
            let same = l.1 in
            let lt = j.2 in
            let w = place-index going st first ns sent h p (λ f. fresh f) new stream j.0 set.chunks (both (stream == st) (starts_ordered set.chunks) m).1 j.3
            r.0.0.0 r.0.0.1 r.0.1 in
            (j.0, omega (arith, lt, same), w.0, w.1, turned-more st sent sent (inl refl) (t.due st c).k j.0 j.1 old.receiving.read ps (t.turned st c))

    read-turn : (o : Option ChunkSet) → message_on stream old.receiving.receiver ≡ o → new.receiving.read ≡ with_message stream o old.receiving.read → Then st
    read-turn None is e =
        let o = none-read e in (
          l.0,
          subst (λ ms. AreTurned st sent l.0.k ms qs) (sym o.0) (subst (AreTurned st sent l.0.k old.receiving.read) (sym o.1)
              (turned-more st sent sent (inl refl) (t.due st c).k l.0.k up old.receiving.read ps (t.turned st c))),
        )
    read-turn (Some set) is e = with-message' set is e

  to-then : (c : ReceiverCall) → c ≡ call → ReceiverFollows c old new → (st : ℕ) → calm st ≡ true → Then st
  to-then (incoming.reads stream) is g st k = read-turn st k stream g (message_on stream old.receiving.receiver) refl g.step.read
  to-then c is g st k =
      quiet-turn st k g.step.read
      (after going st first (sub st k) old new ns sent ages h i x placed (t.due st k) c g (subst (λ d. IsYoung (of_receiver d) ages) (sym is) y)
      (subst (λ d. IsForwardYoung (of_receiver d) ages) (sym is) z) (subst (λ d. IsRecent (of_receiver d) old) (sym is) q) (λ stream e. cc))

  pub receiver-turned : IsTurned calm first new sent x.set.acked qs
  receiver-turned = record { due = λ st k. (to-then call refl f st k).0; turned = λ st k. (to-then call refl f st k).1 }

-- ## A call of the sender

module _ (going calm : ℕ → Bool) (first : ℕ) (call : SenderCall) (old new : Session) (ns : List Numbered) (sent : List Entry) (ages : List Aged)
    (f : SenderFollows call old new)
    (h : HoldsOn going first old ns sent) (few' : count_in_flight new < 2 ^ 31) (i : IsNear old) (j : IsNear new) (x : IsSpreadOver going first old sent ages)
    (recent : HoldsRecent new) (ps : List ℕ) (t : IsTurned calm first old sent x.set.acked ps) where
  abbrev y : Sends going first call old new ns sent
  y = sender-step-on going first call old new ns sent f h

  abbrev z : IsSpreadOver going first new y.more (aged_after (of_sender call) old new ages)
  z = sender-spread going first call old new ns sent ages f h few' i j x

  abbrev more : List Entry
  more = y.more

  abbrev from : ℕ
  from = floor (length sent)

  abbrev up-to : ℕ
  up-to = floor (length more) - floor (length sent)

  same : new.receiving ≡ old.receiving
  same = ap (λ (s : Session). s.receiving) f.after

  long : (length sent ≤ length more) × (length more ≤ length sent + 1)
  long = more-long sent more y.once

  moved-to : from + up-to ≡ floor (length more)
  moved-to = let lo = long.0 in omega (arith, lo)

  module _ (st : ℕ) (c : calm st ≡ true) where
    abbrev was : Due st first sent from (x.set.acked - from) old.receiving.receiver
    was = t.due st c

    -- what is acknowledged has come
    reached : z.set.acked ≤ from + was.arrived.place
    reached = grind (arith, long, same)

    late : (d : ChunkPayloadData) (b : ℕ) → comes_before d.tsn (next_tsn new) ≡ true → b + 1 ≤ length sent - from → d.tsn ≡ tsn (base first + from) (b + 1)
        → up-to ≤ b
    late d b e le at =
        let lo = long.0 in
        let hi = long.1 in
        let k = recent-place first (length more) (from + b) (next_tsn new) d.tsn (omega (arith, le, lo)) (omega (arith, hi))
        y.holds.held.stands.counted (omega (arith, at)) e in
        omega (arith, k, lo)

    then-due : (e : Due st first more (floor (length more)) (z.set.acked - floor (length more)) new.receiving.receiver) × (e.k ≡ was.k)
    then-due =
        let lo = long.0 in
        let hi = long.1 in
        let total = z.set.total in
        let back = reached in
        let test = ap (λ (s : Stand). list_all (λ c. comes_before c.tsn (next_tsn new)) (fragments_on (stream_of st s.receiver))) (sym same) ∙ recent st in
        let e = due-later st first ns sent h.held.stands.queued.line from up-to (omega (arith, lo, hi)) (omega arith)
        (λ d. comes_before d.tsn (next_tsn new)) late (x.set.acked - from) old.receiving.receiver was
        (omega (arith, back, total, few', lo, hi)) test i.order.rise in
        let place = e.2 in
        let g = due-more st first sent more (from + up-to) (was.arrived.place - up-to) (z.set.acked - (from + up-to)) y.once (omega (arith, lo, hi)) lo
        (omega (arith, lo, hi)) old.receiving.receiver e.0 (omega (arith, place, back)) in
        subst (λ (s : Stand). (e : Due st first more (floor (length more)) (z.set.acked - floor (length more)) s.receiver) × (e.k ≡ was.k)) (sym same)
        (subst (λ w. (e : Due st first more w (z.set.acked - w) old.receiving.receiver) × (e.k ≡ was.k)) moved-to (g.0, g.1 ∙ e.1))

  pub sender-turned : IsTurned calm first new more z.set.acked ps
  sender-turned = record {
    due = λ st c. (then-due st c).0;
    turned = grind (arith, nat_tests, common_steps, then-due, same, turned-more);
  }

-- ## Each session

record After (first : ℕ) (m : Modes) (s : Session) : Type 0 where
  numbered : List Numbered
  sent : List Entry
  ages : List Aged
  places' : List ℕ
  young : IsYoungSession first s numbered sent ages
  owned : IsOwned s sent places'
  acked : ℕ
  turned : IsTurned all_streams first s sent acked places'
  said : IsAsSaid m s numbered sent

all-then : (first : ℕ) (cs : List Call) (old new : Session) (ns : List Numbered) (sent : List Entry) (ages : List Aged) (r : RunsTo old cs new)
    → AreRecent old cs new r → AreYoung ages old cs new r → AreForwardsYoung ages old cs new r → IsNear old → IsYoungSession first old ns sent ages
    → (ps : List ℕ) → IsOwned old sent ps → (x : IsSpreadOut first old sent ages) → IsTurned all_streams first old sent x.set.acked ps → (m : Modes)
    → IsAsSaid m old ns sent → After first (modes_from m cs) new
all-then first [] old new ns sent ages r q y z j i ps h x t m u = grind (arith, nat_tests, common_steps)
all-then first (of_sender call ∷ cs) old new ns sent ages r q y z j i ps h x t m u =
    let g = sender-step first call old r.0 ns sent r.1.0 i.holds in
    let k = sender-near old r.0 q.1 j call r.1.0 q.0 in
    all-then first cs r.0 new (numbered_after call ns) g.more (aged_after (of_sender call) old r.0 ages) r.1.1 q.2 y.2 z.1 k
    (sender-young all_streams first call old r.0 ns sent ages r.1.0 i y.1) ps
    (sender-owned all_streams first call old r.0 ns sent ages r.1.0 i y.1 q.1 j k ps h)
    (sender-spread all_streams first call old r.0 ns sent ages r.1.0 i.holds q.1 j k x)
    (sender-turned all_streams all_streams first call old r.0 ns sent ages r.1.0 i.holds q.1 j k x y.1 ps t) (modes_after call m)
    (said-after call old r.0 m ns sent g.more r.1.0 g.grown i.holds.held.sized u)
all-then first (of_receiver call ∷ cs) old new ns sent ages r q y z j i ps h x t m u =
    let o = receiver-owned all_streams first call old r.0 ns sent ages r.1.0 i y.0 y.1 q.1 q.0 j ps h in
    all-then first cs r.0 new ns sent (aged_after (of_receiver call) old r.0 ages) r.1.1 q.2 y.2 z.1 (receiver-near old r.0 q.1 j call r.1.0 q.0)
    (receiver-young all_streams first call old r.0 ns sent ages r.1.0 i y.0) o.0 o.1
    (receiver-spread all_streams first call old r.0 sent ages (ap (λ (s : Session). s.sending) r.1.0.after) x)
    (receiver-turned all_streams all_streams (λ st c. c) first call old r.0 ns sent ages r.1.0 i.holds j x i.placed y.0 z.0 q.0 ps o.0 o.2 o.1.once.0 t) m
    (said-beside old r.0 m ns sent (ap (λ (s : Session). s.sending) r.1.0.after) u)

-- ## The law

module _ (st : ℕ) (ns : List Numbered) (first : ℕ) (sent : List Entry) (once : AreOnce sent) (line : IsLine ns first sent)
    (s : Session) (rising : AreRising sent) (numbered : AreNumbered ns) (T : Message → ℕ → Bool)
    (starts' : (m : Message) (x : IsReadOf ns sent m) → T m x.written.0 ≡ true → (x.chunk.unordered ≡ false) × (is_in_order st m ≡ true)) where
  pub indexed-below : (k : ℕ) (ms : List Message) (e : EachRead ns sent once ms) (ps : List ℕ) → AreAt ns first sent once line s ms e ps
      → AreTurned st sent k ms ps → AreIndexedBelow st ns sent once rising numbered T starts' k ms e
  indexed-below k [] e ps a t = tt
  indexed-below k (m ∷ ms) e [] a t = absurd a
  indexed-below k (m ∷ ms) e (p ∷ ps) a t = by (is_in_order st m) t (λ j u. indexed-below j ms e.1 ps a.1 u)
    where
      at : p ≡ length (fragment (data_of e.0.chunk) e.0.numbered e.0.after ∷ e.0.entries)
      at = let is = a.0 in omega (arith, is)

      by : (b : Bool) → Where b ((i : ℕ) × (i < k) × (p ≤ length sent) × (begun_to st p sent ≡ i + 1) × AreTurned st sent i ms ps) (AreTurned st sent k ms ps)
          → ((j : ℕ) → AreTurned st sent j ms ps → AreIndexedBelow st ns sent once rising numbered T starts' j ms e.1)
          → Where b ((i : ℕ) × (i < k) × (begun_on st (fragment (data_of e.0.chunk) e.0.numbered e.0.after ∷ e.0.entries) ≡ i + 1)
          × AreIndexedBelow st ns sent once rising numbered T starts' i ms e.1) (AreIndexedBelow st ns sent once rising numbered T starts' k ms e.1)
      by true u ih = (
        u.0,
        u.1,
        sym (to-part st sent (fragment (data_of e.0.chunk) e.0.numbered e.0.after ∷ e.0.entries) e.0.part) ∙ ap (λ n. begun_to st n sent) (sym at) ∙ u.3,
        ih u.0 u.4,
      )
      by false u ih = ih k u

pub turned-first : (calm : ℕ → Bool) (first size max most : ℕ) (limits : Option Limits) → first < 2 ^ 32
    → IsTurned calm first (at_start first size max most limits) [] 0 []
turned-first calm first size max most limits small = record {
  due = grind (arith, nat_tests, common_steps);
  turned = λ st c. tt;
}

all-young : (tsn size max most : ℕ) (limits : Option Limits) (cs : List Call) (s : Session) → tsn < 2 ^ 32 → 0 < size
    → (r : RunsTo (at_start tsn size max most limits) cs s) → AreRecent (at_start tsn size max most limits) cs s r
    → AreYoung [] (at_start tsn size max most limits) cs s r → AreForwardsYoung [] (at_start tsn size max most limits) cs s r
    → After tsn (modes_from at_first cs) s
all-young tsn size max most limits cs s small some r q y z =
    all-then tsn cs (at_start tsn size max most limits) s [] [] [] r q y z (near-first tsn size max most limits small)
    (young-first tsn size max most limits small some) [] (owned-first tsn size max most limits) (spread-first all_streams tsn size max most limits small)
    (turned-first all_streams tsn size max most limits small) at_first (said-first tsn size max most limits)

-- of the messages that pass, each of which begins with an ordered fragment, the places of the writes fall
module _ (tsn size max most : ℕ) (limits : Option Limits) (cs : List Call) (s : Session) (r : RunsTo (at_start tsn size max most limits) cs s)
    (a : After tsn (modes_from at_first cs) s) where
  abbrev h : Holds tsn s a.numbered a.sent
  h = a.young.holds

  once : AreOnce a.sent
  once = h.held.stands.begun'.once

  e : (e : EachRead a.numbered a.sent once s.receiving.read)
      × AreAt a.numbered tsn a.sent once h.held.stands.queued.line s s.receiving.read e a.places'
  e = reads-are a.numbered tsn a.sent once h.held.stands.queued.line h.held.stands.queued.indexed s s.receiving.read a.places' a.owned.once.0
      (all-whole tsn size max most limits cs s r)

  in-order : (T : ℕ → Message → ℕ → Bool)
      → ((st : ℕ) (m : Message) (x : IsReadOf a.numbered a.sent m) → T st m x.written.0 ≡ true → (x.chunk.unordered ≡ false) × (is_in_order st m ≡ true))
      → (places : List ℕ) × StandAt s.written s.receiving.read places × AllPairs (λ p q. p ≢ q) places
      × ((st : ℕ) → AllPairs (λ p q. p < q) (places_where (T st) s.receiving.read places))
  in-order T starts' = (
    places a.numbered a.sent once s.receiving.read e.0,
    subst (λ ws. StandAt ws s.receiving.read (places a.numbered a.sent once s.receiving.read e.0)) h.writes
        (stand a.numbered a.sent once s.receiving.read e.0),
    apart a.numbered tsn a.sent once h.held.stands.queued.line s s.receiving.read e.0 a.places' e.1 a.owned.once.1,
    λ st.
        let rising = h.held.stands.queued.ranked.rising in
        in-order-by st a.numbered a.sent once rising h.placed (T st) (starts' st) (a.turned.due st refl).k s.receiving.read e.0
        (indexed-below st a.numbered tsn a.sent once h.held.stands.queued.line s rising h.placed (T st) (starts' st)
        (a.turned.due st refl).k s.receiving.read e.0 a.places' e.1 (a.turned.turned st refl)),
  )

pub law : WhileAllAreYoung AreReadInOrder
law tsn size max most limits cs s small some r q y z =
    let a = all-young tsn size max most limits cs s small some r q y z in
    in-order tsn size max most limits cs s r a (λ st m p. is_ordered_on st m)
    (λ st m x f. let b = starts st m x.chunk x.others x.fragments f in (b.1, b.2))

-- what was written ordered is read in the order of the writes
pub as-written : AfterEachYoungRun AreReadAsWritten
as-written tsn size max most limits cs s small some r q y z =
    let m = modes_from at_first cs in
    let a = all-young tsn size max most limits cs s small some r q y z in
    in-order tsn size max most limits cs s r a (λ st. was_written_ordered m.of_writes st)
    (λ st. starts-ordered m s a.numbered a.sent a.said a.young.holds.placed st)
