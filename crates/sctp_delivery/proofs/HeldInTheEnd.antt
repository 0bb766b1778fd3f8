-- Where nothing is in flight, no message is partially sent and nothing is to be read, a receiver holds nothing.
use Rattle.sctp_delivery.proofs.Names.{common_steps, ◌≡◌, ℕ, suc, ◌+◌, ◌^◌, ◌<◌, ◌≤◌, true, false, List, [], ◌∷◌, length, Option, Some, None, inl, inr, refl}
use Rattle.sctp_delivery.proofs.Names.{ap, sym, subst, ◌∙◌, arith, All, ◌⊎◌, ◌==◌, list_all, list_any, sum_by, cases_lt, nat_tests, at_or_before, or-left}
use Rattle.sctp_delivery.proofs.Names.{or-split, same-is, nat_le, fails, same-yes, not_both, tsn, ChunkPayloadData, ChunkSet, Data, data_of, is_complete}
use Rattle.sctp_delivery.proofs.Names.{Reassembly, message_read, InboundStream, Limits, Reception, stream_of, fragments_read, is_one_message, held_weight}
use Rattle.sctp_delivery.proofs.Names.{set_weight, has_tsn, reads_nothing, was_taken, Call, RunsTo, Session, at_start}
use Rattle.sctp_delivery.proofs.Cases.{all_streams, by-test}
use Rattle.sctp_delivery.proofs.InTheEnd.{none-data, some-of, unread-of}
use Rattle.sctp_delivery.proofs.UnwrappedHolds.{IsSome}
use Rattle.sctp_delivery.proofs.Delivered.{EachSent}
use Rattle.sctp_delivery.proofs.KeptSessions.{complete-messages, IsKeptIn}
use Rattle.sctp_delivery.proofs.Every.{Every, one-of}
use Rattle.sctp_delivery.proofs.KeptCalls as calls
use Rattle.sctp_delivery.proofs.KeptOrGone.{IsPassedTo, IsPast, is_upto, upto-place, HeldWell, IsHeldWell, IsLate, at-in, place-in}
use Rattle.sctp_delivery.proofs.NotRefused.{begun-low, front-open, lowest-next}
use Rattle.sctp_delivery.proofs.FragmentPlaces.{at_place, shown}
use Rattle.sctp_delivery.proofs.MessagePlaces.{IsEntryAt, IsSpan, ends-own, entry-at, entry-of, next-of, span-of, misses-one, place-tsn}
use Rattle.sctp_delivery.proofs.OrderedEntries.{AreJoined}
use Rattle.sctp_delivery.proofs.PassedMessages.{EndsMessage, is_gone}
use Rattle.sctp_delivery.proofs.ReadOnce.{none-count, one}
use Rattle.sctp_delivery.proofs.SackSteps.{none_dropped}
use Rattle.sctp_delivery.proofs.Sent.{Entry, IsLine, IsPart, Numbered, WasSent, fragment, part-itself, part-length, same-parts, terminal}
use Rattle.sctp_delivery.proofs.Sessions as made_in
use Rattle.sctp_delivery.proofs.SpreadEntries.{begun_to, is_at, to-up}
use Rattle.sctp_delivery.proofs.TsnPlaces.{base, same-place, upto-yes}
use Rattle.sctp_delivery.proofs.UnassembledGone as unassembled
use Rattle.sctp_delivery.proofs.UnwrappedHolds as holds
use Rattle.sctp_delivery.proofs.UnwrappedReads as reads
use Rattle.sctp_delivery.proofs.UnwrappedReads.{IsDue}
use Rattle.sctp_delivery.proofs.UnwrappedSessions as sessions

-- nothing is held
pub record IsBare (q : Reassembly) : Type 0 where
  pub ordered : q.ordered ≡ []
  pub unordered : q.unordered ≡ []
  pub unassembled : q.unassembled ≡ []

module _ (first size max most : ℕ) (limits : Option Limits) (cs : List Call) (s : Session) (run : RunsTo (at_start first size max most limits) cs s)
    (n : ℕ) (few : n < 2 ^ 31) (gone : List ℕ) (ns : List Numbered) (sent : List Entry) (k : IsKeptIn first n gone s ns sent)
    (landed : s.sending.sender.flight.queue.inflight.chunks ≡ []) (unbegun : s.sending.sender.flight.queue.pending.selected ≡ None)
    (unread : reads_nothing s.receiving.receiver ≡ true) where
  abbrev p : ℕ
  p = base first

  abbrev r : Reception
  r = s.receiving.receiver

  abbrev a : ℕ
  a = k.unwrapped.spread.step.numbered.acked

  long : length sent ≡ n
  long = k.unwrapped.spread.long

  line : IsLine ns first sent
  line = k.unwrapped.spread.holds.held.stands.queued.line

  joined : AreJoined sent
  joined = k.unwrapped.spread.holds.held.stands.queued.joined

  made : list_all (made_in.made_among s.made) s.receiving.accepted ≡ true
  made = made_in.all-made cs (at_start first size max most limits) s run refl

  whole : All (λ m. (is_complete m.fragments ≡ true) × (is_one_message m.fragments ≡ true) × EachSent sent m.fragments) s.receiving.read
  whole = complete-messages first size max most limits cs s run sent k.unwrapped.spread.holds.made

  -- the last message was sent whole, or cut short
  ends : 0 < n → EndsMessage sent
  ends some = grind (arith, nat_tests, common_steps, long)

  module _ (st : ℕ) where
    abbrev Fits : ℕ → List ChunkPayloadData → Type 0
    Fits = holds.Fits p st n (λ y. begun_to st y sent) (λ y. is_at st y sent) (λ c. WasSent sent (data_of c))

    abbrev Came : ℕ → Type 0
    Came = holds.Came p st n (λ y. begun_to st y sent) (λ y. is_at st y sent) (λ c. WasSent sent (data_of c)) r.cumulative_tsn r.beyond

    abbrev answered : holds.AreDue p st n (λ y. begun_to st y sent) (λ y. is_at st y sent) (λ c. WasSent sent (data_of c)) a s.receiving
    answered = calls.answered first n few s s ns sent k.unwrapped gone st

    -- all that got TSNs has come
    upto : n ≤ answered.arrived.place
    upto = omega (arith, answered.arrived.least_is, ap length landed)

    all-came : (y : ℕ) → y ≤ n → is_at st y sent ≡ true → Came y
    all-came y le on =
        let h : y ≤ answered.arrived.place = omega (arith, le, upto) in (
          on,
          or-left (at_or_before (tsn p y) r.cumulative_tsn) (list_any (λ u. u == tsn p y) r.beyond)
              (upto-yes p y answered.arrived.place refl answered.arrived.is (omega (arith, le, few)) (omega (arith, answered.arrived.within, few)) h),
        )

    in-set : (i y : ℕ) (cs : List ChunkPayloadData) → y ≤ n → Fits i cs → list_any (has_tsn (tsn p y)) cs ≡ true → begun_to st y sent ≡ i + 1
    in-set = at-in ns first sent line joined n long few st

    module _ (l : InboundStream) (found : stream_of st r ≡ Some l) (none : message_read l.queue.held ≡ None) where
      abbrev q : Reassembly
      q = l.queue.held

      well : IsHeldWell first sent st n a (IsLate first sent st r.cumulative_tsn r.beyond) l.queue
      well = subst (HeldWell first sent st n a (IsLate first sent st r.cumulative_tsn r.beyond)) found (k.kept st).holds

      d : IsDue p n (λ y. begun_to st y sent) Fits Came answered.k answered.reach q
      d = calls.due-on first n few s s ns sent k.unwrapped gone st l found

      none-unordered : q.unordered ≡ []
      none-unordered = grind (arith, nat_tests)

      -- ## Ordered sets

      module _ (F : ChunkSet) (rest : List ChunkSet) (is : q.ordered ≡ F ∷ rest) where
        sets : reads.AreSets p n (λ y. begun_to st y sent) Fits Came d.low answered.reach (F ∷ rest)
        sets = subst (reads.AreSets p n (λ y. begun_to st y sent) Fits Came d.low answered.reach) is d.sets

        some : IsSome F
        some = (subst (Every IsSome) is well.current.some).0

        place : (y : ℕ) × (y ≤ n) × (list_any (has_tsn (tsn p y)) F.chunks ≡ true)
        place = place-in ns first sent line joined n long few st sets.0 F.chunks sets.1.1 some

        count : begun_to st place.0 sent ≡ sets.0 + 1
        count = in-set sets.0 place.0 F.chunks place.1 sets.1.1 place.2

        least : sets.0 + 1 ≤ begun_to st n sent
        least = let u = to-up st place.0 n sent place.1 in let c = count in omega (arith, u, c)

        -- a place of a message from the next one on is held
        is-held : (z : ℕ) → z ≤ n → is_at st z sent ≡ true → d.index < begun_to st z sent
            → (list_any (has_tsn (tsn p z)) F.chunks ≡ true) ⊎ (list_any (λ (x : ChunkSet). list_any (has_tsn (tsn p z)) x.chunks) rest ≡ true)
        is-held z le on lt = grind (arith, all-came, or-split)

        -- it is not incomplete
        not-open : is_complete F.chunks ≡ false → d.index ≤ sets.0 → ⊥
        not-open c ge =
            let most' = some-given F.chunks sets.1.1 some in
            let miss = misses-one ns first sent line joined n long few st sets.0 n (omega arith)
            (sent, part-itself sent, long, ends most') least F.chunks sets.1.1 some c in
            let z = sessions.missed st first all_streams none_dropped refl n s ns sent k.unwrapped.spread few n sets.0 F.chunks (omega arith) sets.1.1 miss in
            elim (is-held z.0 z.1 z.2 (omega (arith, ge))) [
              | inl h ↦ not_both (sym z.4 ∙ h)
              | inr h ↦
                  reads.later-none p n (λ y. begun_to st y sent) Fits Came in-set (sets.0 + 1) answered.reach z.0 rest sets.2 z.1 (omega arith) h
            ]
          where
            some-given : (cs : List ChunkPayloadData) → Fits sets.0 cs → 0 < length cs → 0 < n
            some-given [] h lt = absurd (omega (arith, lt))
            some-given (c ∷ cs) h lt = omega arith

        -- it is of the next message, and no later one was begun
        same : (sets.0 ≡ d.index) × (sets.0 ≡ d.low)
        same =
            let low = begun-low st first n few s ns sent k.unwrapped.spread answered q d (IsLate first sent st r.cumulative_tsn r.beyond) well.current none in
            let next = lowest-next st first n few s ns sent k.unwrapped.spread answered q d (IsLate first sent st r.cumulative_tsn r.beyond) well.current
            none in
            let u = to-up st n answered.arrived.place sent upto in
            let l = least in
            (omega (arith, low, next, u, l, sets.1.0.0), omega (arith, low, u, l, sets.1.0.0))

        no-front : ⊥
        no-front = by-test (is_complete F.chunks)
            (λ c. front-open st first n few s ns sent k.unwrapped.spread answered q d (IsLate first sent st r.cumulative_tsn r.beyond) well.current
            none
            F rest is sets same.1 c)
            (λ c. let e = same.0 in not-open c (omega (arith, e)))

      none-ordered : q.ordered ≡ []
      none-ordered = grind (arith, nat_tests, common_steps, no-front)

      -- ## Nothing is unassembled: what stands past the place up to which FORWARD-TSNs went was taken

      to : IsPassedTo first sent st n (k.kept st).lost s.receiving
      to = (k.kept st).floor

      taken-past : (y : ℕ) → to.floor < y → y ≤ n → was_taken (tsn p y) s ≡ true
      taken-past y over le =
          let at = to.arrived in
          let within' = at.within in
          let most = answered.arrived.within in
          let same : at.place ≡ answered.arrived.place = same-place p at.place answered.arrived.place (omega (arith, within', few))
          (omega (arith, most, few)) (sym at.is ∙ answered.arrived.is) in
          elim (or-split (was_taken (tsn p y) s) (is_upto p to.floor (tsn p y)) (at.so_far y (omega (arith, over)) (omega (arith, le, upto, same)))) [
            | inl e ↦ e
            | inr e ↦ absurd (not_both (sym (upto-place p to.floor y (tsn p y) refl (omega (arith, le, few))
                ∙ (let t : nat_le y to.floor ≡ false = grind (arith, nat_tests, over) in t)) ∙ e))
          ]

      -- no terminal chunk stands there
      uncut : (y : ℕ) (d : Data) (w : Numbered) (i : IsEntryAt sent y d w) → to.floor < suc y → suc y ≤ n
          → IsPart (terminal ∷ fragment d w i.after ∷ i.entries) sent → ⊥
      uncut y d w i over le part =
          let c = one-of (λ c. WasSent sent (data_of c)) (has_tsn (tsn p (suc y))) s.receiving.accepted (taken-past (suc y) over le)
          (unassembled.was-taken ns first sent line k.unwrapped.spread.holds.held.stands.queued.indexed joined n long few gone k.passed.cut s
          k.unwrapped.spread.holds.made made
          k.unwrapped.spread.step.taken.apart whole st a (k.kept st)) in
          let e = entry-at ns first sent line joined n long few c.0 c.2 (suc y) le (same-is c.0.tsn (tsn p (suc y)) c.1) in
          let same : terminal ∷ fragment d w i.after ∷ i.entries ≡ fragment (data_of c.0) e.0 e.1.after ∷ e.1.entries =
          grind (arith, nat_tests, common_steps, same-parts, terminal) in
          cc

      none-lost-past : (j : ℕ) → to.floor < j → j ≤ n → sum_by (one (tsn p j)) (k.kept st).lost ≡ 0
      none-lost-past j over le = none-count (tsn p j) (k.kept st).lost (fails (list_any (has_tsn (tsn p j)) (k.kept st).lost) (λ e.
          let c = one-of (λ c. is_upto p to.floor c.tsn ≡ true) (has_tsn (tsn p j)) (k.kept st).lost e to.gone-to in
          not_both (sym (upto-place p to.floor j c.0.tsn (same-is c.0.tsn (tsn p j) c.1) (omega (arith, le, few))
          ∙ (let t : nat_le j to.floor ≡ false = grind (arith, nat_tests, over) in t)) ∙ c.2)))

      -- a message that was begun past it was taken whole
      none-past : (c : ChunkPayloadData) → WasSent sent (data_of c) → c.unordered ≡ true → is_upto p to.floor c.tsn ≡ false
          → 0 < sum_by (one c.tsn) q.unassembled → ⊥
      none-past c was kind later some =
          let r = entry-of ns first sent line joined n long few c was in
          let y = r.0 in
          let i = r.2 in
          let le = r.3 in
          let at = r.4 in
          let show = shown none-data sent in
          let f = at_place none-data sent in
          let over' : nat_le y to.floor ≡ false = sym (upto-place p to.floor y c.tsn at (omega (arith, le, few))) ∙ later in
          let over : to.floor < y = grind (arith, nat_tests, over') in
          let g = span-of ns first sent line joined f show n (omega (arith, long)) (sent, part-itself sent, long, ends (omega (arith, over, le)))
          (λ v z. to.floor < z) (λ v z h. omega (arith, h)) (λ z e v o b lt h. next-of ns first sent line joined z e v o b (omega (arith, lt, long))
          (uncut z e v o (omega (arith, h)) (omega (arith, lt)))) y (data_of c) r.1 le i over in
          let start : to.floor < g.start = past-start g over in
          let below = g.below in
          unassembled.none-stays ns first sent line k.unwrapped.spread.holds.held.stands.queued.indexed joined n long few gone k.passed.cut s
          k.unwrapped.spread.holds.made made
          k.unwrapped.spread.step.taken.apart whole st a (k.kept st) l found n (omega (arith, long)) y (data_of c) r.1 i kind
          (subst (λ t. 0 < sum_by (one t) q.unassembled) at some) g (λ j from upto'. taken-past j (omega (arith, start, from)) (omega (arith, upto', below)))
          (λ j from upto'. none-lost-past j (omega (arith, start, from)) (omega (arith, upto', below)))
        where
          past-start : {y : ℕ} {w : Numbered} (g : IsSpan (at_place none-data sent) sent n w (data_of c) y) → to.floor < y → to.floor < g.start
          past-start g over = elim (cases_lt to.floor g.start) [
            | inl lt ↦ lt
            | inr ge ↦ elim to.ends [
              | inl zero' ↦ let some' = g.some in absurd (omega (arith, ge, zero', some'))
              | inr e ↦
                  let from = g.from in
                  let upto' = g.upto in
                  absurd (not_both (sym (g.open' to.floor ge (omega (arith, over, from)))
                  ∙ ends-own ns first sent line joined to.floor (at_place none-data sent to.floor) _ (g.each to.floor ge (omega (arith, over, from))).0 e))
            ]
          ]

      all-assembled : q.unassembled ≡ []
      all-assembled = by q.unassembled refl
          (unassembled.was-unassembled ns first sent line k.unwrapped.spread.holds.held.stands.queued.indexed joined n long few gone k.passed.cut s
          k.unwrapped.spread.holds.made made
          k.unwrapped.spread.step.taken.apart whole st a (k.kept st) l found) well.tidy.rest.kinds (subst (IsPast first sent st to.floor) found to.past)
        where
          by : (cs : List ChunkPayloadData) → q.unassembled ≡ cs → Every (λ c. WasSent sent (data_of c)) cs → Every (λ c. c.unordered ≡ true) cs
              → Every (λ c. is_upto p to.floor c.tsn ≡ false) cs → cs ≡ []
          by [] e w u h = refl
          by (c ∷ cs) e w u h = grind (arith, nat_tests, common_steps, some, some-of, or-left, same-yes, none-past)

      pub none-there : IsBare l.queue.held
      none-there = record { ordered = none-ordered; unordered = none-unordered; unassembled = all-assembled }

    pub none-held : (t : ℕ) → held_weight (one t) (stream_of st r) ≡ 0
    none-held t = by (stream_of st r) refl
      where
        by : (o : Option InboundStream) → stream_of st r ≡ o → held_weight (one t) o ≡ 0
        by None f = refl
        by (Some l) f =
            let m = unread-of st r.streams l unread f in
            omega (
              arith,
              ap (λ ss. sum_by (set_weight (one t)) ss) (none-ordered l f m),
              ap (λ ss. sum_by (set_weight (one t)) ss) (none-unordered l f m),
              ap (sum_by (one t)) (all-assembled l f m),
            )

  -- so each fragment that was taken of a message that is not gone was read
  pub taken-read : (d : Data) (w : Numbered) (after : List ℕ) (xs : List Entry) → IsPart (fragment d w after ∷ xs) sent → is_gone gone w.place ≡ false
      → was_taken d.tsn s ≡ true → (st : ℕ) × (0 < sum_by (one d.tsn) (fragments_read st s.receiving.read))
  taken-read d w after xs part alive taken =
      let st = d.stream_identifier in
      let i : IsEntryAt sent (suc (length xs)) d w = record { after = after; entries = xs; part = part; place = refl } in
      let is = place-tsn ns first sent line joined n long few (suc (length xs)) d w i in
      let le : suc (length xs) ≤ n = omega (arith, part-length sent (fragment d w after ∷ xs) part, long) in
      let law = (k.kept st).weighs (one (tsn p (suc (length xs)))) in
      let held = none-held st (tsn p (suc (length xs))) in
      let lost = unassembled.none-lost ns first sent line k.unwrapped.spread.holds.held.stands.queued.indexed joined n long few gone k.passed.cut s
      k.unwrapped.spread.holds.made made
      k.unwrapped.spread.step.taken.apart whole st a (k.kept st) (suc (length xs)) d w i alive in
      let on = unassembled.taken-there ns first sent line k.unwrapped.spread.holds.held.stands.queued.indexed joined n long few gone k.passed.cut s
      k.unwrapped.spread.holds.made made
      k.unwrapped.spread.step.taken.apart whole st a (k.kept st) (suc (length xs)) d w i refl (subst (λ t. was_taken t s ≡ true) is taken) in (
        st,
        subst (λ t. 0 < sum_by (one t) (fragments_read st s.receiving.read)) (sym is) (omega (arith, law, held, lost, on)),
      )
