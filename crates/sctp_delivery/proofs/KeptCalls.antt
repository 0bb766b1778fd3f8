-- What a FORWARD-TSN takes out of a queue, weighed, and that what stays is in order.
use Rattle.sctp_delivery.proofs.Names.{◌≡◌, ℕ, ◌+◌, ◌<◌, ◌≤◌, ◌^◌, Bool, true, false, not, List, [], ◌∷◌, refl, arith, ◌%◌, Option, Some, None, inl, inr, ap}
use Rattle.sctp_delivery.proofs.Names.{sym, subst, ◌∙◌, ◌++◌, length, map, All, ◌⊎◌, ◌==◌, ◌&&◌, option_map, slice_index_or, filter, sum_by, list_any, list_all}
use Rattle.sctp_delivery.proofs.Names.{sum_by-append, sum_by-cons, after_leading, at_or_before, and, fails, not_both, ChunkPayloadData, ChunkSet, Reassembly}
use Rattle.sctp_delivery.proofs.Names.{ReassemblyState, held_after_ordered_skip, held_after_unordered_skip, is_passed, all_complete, held_weight, is_unmixed}
use Rattle.sctp_delivery.proofs.Names.{set_weight, weight, fragments_of_sets, cases_lt, eq-eqb, or-split, same-is, or-left, same-yes, tsn, data_of, New}
use Rattle.sctp_delivery.proofs.Names.{InboundStream, new_stream, number, stream_read, with_queue, skipped_each, ssns_of, Accepts, Reception, stream_of}
use Rattle.sctp_delivery.proofs.Names.{follow_forward_tsn, is_stale, Stand, fragments_read, is_one_message, is_too_far_on, is_name_too_far, found-passes}
use Rattle.sctp_delivery.proofs.Names.{is_ordered_on, has_tsn, is_on, ReceiverCall, ReceiverFollows, Session, list_any_at, nat_tests, common_steps}
use Rattle.sctp_delivery.proofs.Names.{ChunkForwardTsnStream, ForwardTsn, is_complete, cannot_complete, names_closed, names_too_far, without_incomplete}
use Rattle.sctp_delivery.proofs.Names.{is_pair_of, passes, was_taken, forward_tsn, nat_le, or-right}
use Rattle.sctp_reassembly.specs.reassembly_queue.ReassemblyQueue.{after_ordered_skip, after_unordered_skip}
use Rattle.sctp_delivery.proofs.Cases.{all_streams, by-test}
use Rattle.sctp_delivery.proofs.Every.{Every, every-joined, every-of, every-passing, one-of, every-contained, every-at, every-of-all}
use Rattle.sctp_delivery.proofs.KeptSets.{IsTidy, IsUnordered, sets-those}
use Rattle.sctp_delivery.proofs.UnwrappedReads.{leading-each, IsDue}
use Rattle.sctp_receiver.specs.Inbound.{has_number}
use Rattle.sctp_delivery.specs.ReceiverCalls as incoming
use Rattle.sctp_delivery.proofs.UnwrappedHolds.{IsCurrent}
use Rattle.sctp_delivery.proofs.InTheEnd.{some-of}
use Rattle.sctp_delivery.proofs.Kept.{AnyWeight, sets-fresh, IsOther, IsSo, Puts, accepted-on, after-call, none-held}
use Rattle.sctp_delivery.proofs.OrderedMessages.{not-far}
use Rattle.sctp_delivery.proofs.ArrivedTsns.{IsArrived}
use Rattle.sctp_delivery.proofs.KeptOrGone.{IsPassedTo, IsPast, is_upto, known_past, upto-place, IsComing, HeldWell, IsHeldWell, IsKeptBut, IsLate, pushed-well}
use Rattle.sctp_delivery.proofs.KeptOrGone.{read-well, IsPassedBy, at-in, place-in}
use Rattle.sctp_delivery.proofs.MessagePlaces.{IsWanted, entry-of, wanted-some, within, EndsAt, wanted-after, entry-at, fragment-upto, misses-one}
use Rattle.sctp_delivery.proofs.OrderedEntries.{AreJoined}
use Rattle.sctp_delivery.proofs.ReadOnce.{count-none, one}
use Rattle.sctp_delivery.proofs.Sent.{Entry, IsLine, Numbered, WasSent, part-length}
use Rattle.sctp_delivery.proofs.SpreadEntries.{begun_to, is_at, to-up}
use Rattle.sctp_delivery.proofs.TakenCalls.{hears, HasCome, fresh-new, not-among, beyond-given, stays-come}
use Rattle.sctp_delivery.proofs.TakenTsns.{come, advance-keeps}
use Rattle.sctp_delivery.proofs.TsnPlaces.{base, IsGiven, same-place, upto-is, upto-yes}
use Rattle.sctp_delivery.proofs.Unassembled.{each-leading, leading, leading-split, left-orderly, left-tidy, past-left, pushed-each, read-unassembled}
use Rattle.sctp_delivery.proofs.Unassembled.{skipped-orderly, skipped-tidy}
use Rattle.sctp_delivery.proofs.UnwrappedCalls.{window, IsNamingTo, Misses, ahead-is, changed, clear-came, close, found-after, gone-begun, gone-held}
use Rattle.sctp_delivery.proofs.UnwrappedCalls.{name-within, named-by, now-is, stale-same}
use Rattle.sctp_delivery.proofs.UnwrappedHolds as holds
use Rattle.sctp_delivery.proofs.UnwrappedSessions as sessions
use Rattle.sctp_delivery.proofs.UnwrappedSessions.{IsUnwrapped}
use Rattle.sctp_reassembly.specs.reassembly_queue.Skips.{after_incomplete_skip}
use Rattle.sctp_delivery.proofs.Delivered.{EachSent}
use Rattle.sctp_delivery.proofs.PassingCalls.{IsGone, resolved}
use Rattle.sctp_delivery.proofs.PassedMessages.{AreCutGone, IsPassing}
use Rattle.sctp_delivery.proofs.SackSteps.{known, none_dropped}
use Rattle.sctp_delivery.proofs.Sessions as made_in
use Rattle.sctp_delivery.proofs.SpreadFlight.{IsMadeNaming}
use Rattle.sctp_delivery.proofs.UnassembledGone.{gone-unassembled, was-unassembled}

-- ## Sets

-- those that pass the test and those that fail it
pub filter-split : (r : ChunkSet → Bool) (w : ChunkPayloadData → ℕ) (ss : List ChunkSet)
    → sum_by (set_weight w) (filter (λ s. not (r s)) ss) + sum_by w (fragments_of_sets (filter r ss)) ≡ sum_by (set_weight w) ss
filter-split r w [] = refl
filter-split r w (s ∷ ss) =
    grind (arith, nat_tests, common_steps, filter-split r w ss, sum_by-append w s.chunks (fragments_of_sets (filter r ss)), sum_by-cons (set_weight w) s ss)

pub each-dropped : (P : ChunkPayloadData → Type 0) (r : ChunkSet → Bool) (ss : List ChunkSet) → Every (λ s. r s ≡ true → Every P s.chunks) ss
    → Every P (fragments_of_sets (filter r ss))
each-dropped P r [] e = tt
each-dropped P r (s ∷ ss) e = grind (arith, nat_tests, common_steps, each-dropped P r ss e.1)

-- # What was taken on a stream is held or was read, but for fragments of messages that are gone: each call of the receiver.

-- ## A call

module _ (first n : ℕ) (few : n < 2 ^ 31) (old new : Session) (ns : List Numbered) (sent : List Entry) (i : IsUnwrapped first n old ns sent)
    (gone : List ℕ) (st : ℕ) where
  abbrev p : ℕ
  p = base first

  abbrev a : ℕ
  a = i.spread.step.numbered.acked

  abbrev r : Reception
  r = old.receiving.receiver

  abbrev B : ℕ → ℕ
  B k = begun_to st k sent

  abbrev E : ℕ → Bool
  E k = is_at st k sent

  abbrev M : ChunkPayloadData → Type 0
  M c = WasSent sent (data_of c)

  abbrev Fits : ℕ → List ChunkPayloadData → Type 0
  Fits = holds.Fits p st n B E M

  abbrev Came : ℕ → Type 0
  Came = holds.Came p st n B E M r.cumulative_tsn r.beyond

  -- what came by the end of the call
  abbrev CameThen : ℕ → Type 0
  CameThen = holds.Came p st n B E M new.receiving.receiver.cumulative_tsn new.receiving.receiver.beyond

  -- with what came by then, the ordered messages that are due
  abbrev DueOn : (ℕ → Type 0) → ℕ → ℕ → Option InboundStream → Type 0
  DueOn = holds.DueOn p st n B E M

  line : IsLine ns first sent
  line = i.spread.holds.held.stands.queued.line

  joined : AreJoined sent
  joined = i.spread.holds.held.stands.queued.joined

  up : (j k : ℕ) → j ≤ k → B j ≤ B k
  up j k le = to-up st j k sent le

  abbrev pub Answered : Session → Type 0
  Answered s = holds.AreDue p st n B E M a s.receiving

  pub answered : Answered old
  answered = (i.answered st).0

  pub near : B n ≤ B a + 2 ^ 14
  near = sessions.near st first all_streams none_dropped refl n old ns sent i.spread few

  abbrev Late : Stand → ℕ → Type 0
  Late s = IsLate first sent st s.receiver.cumulative_tsn s.receiver.beyond

  abbrev Well : (ℕ → Type 0) → Option InboundStream → Type 0
  Well = HeldWell first sent st n a

  abbrev Keeps : Stand → Type 0
  Keeps = IsKeptBut first sent st n a gone old.made

  -- what was not given out has not come
  pub unarrived : come (tsn p (n + 1)) r.cumulative_tsn r.beyond ≡ true → ⊥
  unarrived = holds.none-past p st n B E M few answered.reach a r.cumulative_tsn r.beyond answered.arrived (n + 1) (omega arith) (omega (arith, few))

  wanted-place : (y : ℕ) → IsWanted st sent y → 0 < y
  wanted-place y (inl h) = (within ns first sent line joined y h.0 h.1 h.2).0
  wanted-place y (inr h) = omega (arith, h.1)

  pub late-less : (call : ReceiverCall) → ReceiverFollows call old new → (y : ℕ) → y ≤ n + 1 → Late new.receiving y → Late old.receiving y
  late-less call f y le l = (
    l.0,
    fails (come (tsn p y) r.cumulative_tsn r.beyond) (λ e. elim (cases_lt n y) [
      | inl over ↦ let it : y ≡ n + 1 = omega (arith, over, le) in unarrived (subst (λ k. come (tsn p k) r.cumulative_tsn r.beyond ≡ true) it e)
      | inr under ↦
          not_both (sym l.1 ∙ stays-come p n _ old new few i.spread.step.made i.spread.step.arrived call f (tsn p y)
          (record { place = y; some = wanted-place y l.0; within = under; is = refl }) e)
    ]),
  )

  pub well-less : (L M : ℕ → Type 0) → ((y : ℕ) → y ≤ n + 1 → M y → L y) → (o : Option InboundStream) → Well L o → Well M o
  well-less h0 h1 h2 h3 h4 = grind (arith, nat_tests, common_steps)

  -- what is so with what was to come stays so with what is to come then
  abbrev So : List ChunkPayloadData → Stand → Type 0
  So = IsSo st AnyWeight (Well (Late old.receiving))

  before : (k : Keeps old.receiving) → So k.lost old.receiving
  before k = record { weighs = λ w v. k.weighs w; holds = k.holds }

  abbrev Passed : List ChunkPayloadData → Stand → Type 0
  Passed = IsPassedTo first sent st n

  after-so : (call : ReceiverCall) → ReceiverFollows call old new → (k : Keeps old.receiving) → So k.lost new.receiving → Passed k.lost new.receiving
      → Keeps new.receiving
  after-so call f k s to = record {
    lost = k.lost;
    of-gone = k.of-gone;
    weighs = λ w. s.weighs w tt;
    holds = well-less (Late old.receiving) (Late new.receiving) (late-less call f) (stream_of st new.receiving.receiver) s.holds;
    floor = to;
  }

  -- what is known by one place is known by a later one
  known-more : (call : ReceiverCall) → ReceiverFollows call old new → (j m : ℕ) → j ≤ m → (t : ℕ) → known_past first sent st j old.receiving t ≡ true
      → known_past first sent st m new.receiving t ≡ true
  known-more call f j m le t e = grind (arith, nat_tests, common_steps)

  known-taken : (m t : ℕ) → was_taken t new ≡ true → known_past first sent st m new.receiving t ≡ true
  known-taken m t e = or-left (list_any (has_tsn t) new.receiving.accepted) (is_upto (base first) m t) e

  -- what came up to a place has come after the call
  below-still : (call : ReceiverCall) → ReceiverFollows call old new → (k : Keeps old.receiving) → (y : ℕ) → 0 < y → y ≤ k.floor.floor
      → come (tsn p y) new.receiving.receiver.cumulative_tsn new.receiving.receiver.beyond ≡ true
  below-still call f k y pos le =
      let within = k.floor.within in
      stays-come p n (known old) old new few i.spread.step.made i.spread.step.arrived call f (tsn p y)
      (record { place = y; some = pos; within = omega (arith, le, within); is = refl }) (k.floor.below y pos le)

  -- the place stays
  passed-still : (call : ReceiverCall) → ReceiverFollows call old new → (k : Keeps old.receiving)
      → IsPast first sent st k.floor.floor (stream_of st new.receiving.receiver)
      → IsArrived p n (known_past first sent st k.floor.floor new.receiving) new.receiving.receiver.cumulative_tsn new.receiving.receiver.beyond
      → Passed k.lost new.receiving
  passed-still call f k past came = search below-still

  -- where nothing changes
  pub still : (call : ReceiverCall) → ReceiverFollows call old new → new.receiving.accepted ≡ old.receiving.accepted
      → new.receiving.read ≡ old.receiving.read → new.receiving.receiver ≡ r → Keeps old.receiving → Keeps new.receiving
  still call f e g same k = grind (arith, nat_tests, common_steps)

  -- ## A stream is opened

  fresh-well : (stream : ℕ) → stream_of st r ≡ None → Well (Late old.receiving) (Some (new_stream stream r.max_message_size))
  fresh-well stream e =
      let d = subst (DueOn Came answered.k answered.reach) e answered.due in
      record {
        current = record {
          index = 0;
          next = omega arith;
          from = omega (arith, answered.arrived.covered, up a answered.arrived.place answered.arrived.least_is);
          upto = omega arith;
          late = λ y le l. wanted-some ns first sent line joined st y l.0;
          whole = tt;
          some = tt;
        };
        tidy = record { sets = tt; rest = record { whole = tt; unassembled = tt; kinds = tt; none = λ g m run. omega arith } };
        orderly = refl;
      }

  -- ## What is held came

  pub held-came : (t : ℕ) → Keeps old.receiving → 0 < held_weight (one t) (stream_of st r) → come t r.cumulative_tsn r.beyond ≡ true
  held-came t k lt = by-test (list_any (has_tsn t) old.receiving.accepted)
      (λ e.
      let o = one-of (HasCome p n r) (has_tsn t) old.receiving.accepted e i.spread.step.taken.each in
      ap (λ u. come u r.cumulative_tsn r.beyond) (sym (same-is o.0.tsn t o.1)) ∙ o.2.1)
      (λ e. let z = none-held st AnyWeight (Well (Late old.receiving)) k.lost old.receiving (before k) t tt e in absurd (omega (arith, z, lt)))

  sets-came : (t : ℕ) (ss : List ChunkSet) → list_any (λ (s : ChunkSet). list_any (has_tsn t) s.chunks) ss ≡ true → 0 < sum_by (set_weight (one t)) ss
  sets-came t [] e = absurd (not_both e)
  sets-came t (s ∷ ss) e =
      let m = sum_by-cons (set_weight (one t)) s ss in
      elim (or-split (list_any (has_tsn t) s.chunks) (list_any (λ (x : ChunkSet). list_any (has_tsn t) x.chunks) ss) e) [
        | inl h ↦ let x = some-of t s.chunks h in omega (arith, m, x)
        | inr h ↦ let x = sets-came t ss h in omega (arith, m, x)
      ]

  -- where the queue is current, its index is the one that is due
  pub index-due : (L : ℕ → Type 0) (l : InboundStream) → stream_of st r ≡ Some l → (h : IsHeldWell first sent st n a L l.queue)
      → (d : IsDue p n B Fits Came answered.k answered.reach l.queue.held)
      → h.current.index ≡ d.index
  index-due L l e h d = grind (arith, nat_tests, answered.arrived.covered, up a answered.arrived.place answered.arrived.least_is)

  abbrev Due : ReassemblyState → Type 0
  Due q = IsDue p n B Fits Came answered.k answered.reach q.held

  pub due-on : (l : InboundStream) → stream_of st r ≡ Some l → Due l.queue
  due-on l e = subst (DueOn Came answered.k answered.reach) e answered.due

  -- ## A message is read

  read : (k : Keeps old.receiving) (l : InboundStream) → stream_of st r ≡ Some l → Well (Late old.receiving) (Some (stream_read l))
  read k l e =
      let h : Well (Late old.receiving) (Some l) = subst (Well (Late old.receiving)) e k.holds in
      let d = due-on l e in
      read-well ns first sent line joined n i.spread.long few st a (Late old.receiving) l.queue h Came answered.k answered.reach d
      (index-due (Late old.receiving) l e h d) answered.most (λ y l'. l'.0) (λ y there l'.
      not_both (sym l'.1 ∙ held-came (tsn p y) k (omega (arith, sets-came (tsn p y) l.queue.held.ordered there, ap (held_weight (one (tsn p y))) e))))

  -- ## A chunk is taken

  module _ (c : ChunkPayloadData) (said : Bool) (f : ReceiverFollows (incoming.takes c (New said)) old new) (k : Keeps old.receiving)
      (after : Answered new) where
    abbrev acc : Accepts c said r new.receiving.receiver
    acc = f.step.receiver

    g : holds.IsStepOf p st n B E M c
    g = sessions.step-of st first all_streams none_dropped refl n old ns sent i.spread few c f.handed

    fresh : come c.tsn r.cumulative_tsn r.beyond ≡ false
    fresh = fresh-new c.tsn said r f.accepted.1

    off : list_any (has_tsn c.tsn) old.receiving.accepted ≡ false
    off = not-among p n r old.receiving.accepted c.tsn fresh i.spread.step.taken.each

    bare : held_weight (one c.tsn) (stream_of st r) ≡ 0
    bare = none-held st AnyWeight (Well (Late old.receiving)) k.lost old.receiving (before k) c.tsn tt off

    put : Puts st AnyWeight (Well (Late old.receiving)) k.lost old.receiving new.receiving (before k) c said acc
    put on' e = record { weighs = λ w v. x.1 w; holds = x.0 }
      where
        h : IsHeldWell first sent st n a (Late old.receiving) acc.stream.queue
        h = subst (Well (Late old.receiving)) e k.holds

        is : stream_of st new.receiving.receiver ≡ Some (with_queue acc.queue acc.stream)
        is = accepted-on c said r new.receiving.receiver acc st (λ o. o ≡ Some (with_queue acc.queue acc.stream)) (λ no. absurd (not_both (sym no ∙ on')))
            (λ yes there. refl)

        dd : Due acc.stream.queue
        dd = due-on acc.stream e

        zero' : weight (one c.tsn) acc.stream.queue.held ≡ 0
        zero' = let y = ap (held_weight (one c.tsn)) e in omega (arith, y, bare)

        on : is_on (number acc.stream) c ≡ true
        on = eq-eqb c.stream_identifier (number acc.stream) (sym (same-is (number acc.stream) c.stream_identifier
            (found-passes (has_number c.stream_identifier) r.streams acc.stream acc.found)))

        D : IsDue p n B Fits CameThen after.k after.reach acc.queue.held
        D = subst (DueOn CameThen after.k after.reach) is after.due

        near-number : (o : (k' : ℕ) × (B (g.before + 1) ≡ k' + 1) × (c.stream_sequence_number ≡ k' % 2 ^ 16)) → c.unordered ≡ false
            → o.0 < h.current.index + 2 ^ 15
        near-number o kind =
            let w = window p st n B E M few up a c old.receiving answered g fresh near kind o acc.stream.queue.held dd
            (ap (is_too_far_on c) (sym acc.found) ∙ not-far c r fresh f.accepted.0) in
            omega (arith, dd.from, index-due (Late old.receiving) acc.stream e h dd)

        coming : c.unordered ≡ false → IsComing ns first sent line joined n i.spread.long few st a (Late old.receiving) h.current.index c
        coming kind =
            let ord : is_ordered_on st c ≡ true = and (is_on st c) (not c.unordered) on' (ap not kind) in
            let o = g.own ord in
            let w = entry-at ns first sent line joined n i.spread.long few c g.made (g.before + 1) g.within g.is in
            record {
              place = g.before + 1;
              of = o.0;
              within = g.within;
              is = g.is;
              begun = o.1;
              number = o.2;
              late = (inl (data_of c, w.0, w.1, ord), ap (λ t. come t r.cumulative_tsn r.beyond) (sym g.is) ∙ fresh);
              near = near-number o kind;
            }

        x : IsHeldWell first sent st n a (Late old.receiving) acc.queue
            × ((w : ChunkPayloadData → ℕ) → weight w acc.queue.held ≡ w c + weight w acc.stream.queue.held)
        x =
            let within' = g.within in
            pushed-well ns first sent line joined n i.spread.long few st a (Late old.receiving) c said acc.stream.queue acc.queue acc.pushed h
            (sets-fresh c.tsn acc.stream.queue.held.ordered (let z = zero' in omega (arith, z)))
            CameThen on (g.before + 1, (omega arith, within', g.is))
            (count-none c.tsn acc.stream.queue.held.unassembled (let z = zero' in omega (arith, z)))
            (λ kind. (coming kind, (D.low, after.reach, D.sets)))

  -- ## Nothing unassembled stands up to the place

  module _ (k : Keeps old.receiving) (after : Answered new) where
    abbrev Past : Option InboundStream → Type 0
    Past = IsPast first sent st k.floor.floor

    abbrev Later : ChunkPayloadData → Type 0
    Later c = is_upto (base first) k.floor.floor c.tsn ≡ false

    -- one that did not come stands past it
    fresh-later : (c : ChunkPayloadData) (said : Bool) → ReceiverFollows (incoming.takes c (New said)) old new → Later c
    fresh-later c said f = fails (is_upto (base first) k.floor.floor c.tsn) (λ e.
        let g = sessions.step-of st first all_streams none_dropped refl n old ns sent i.spread few c f.handed in
        let within = g.within in
        let is = upto-place p k.floor.floor (g.before + 1) c.tsn g.is (omega (arith, within, few)) in
        let test = sym is ∙ e in
        let le : g.before + 1 ≤ k.floor.floor = grind (arith, nat_tests) in
        not_both (sym (fresh-new c.tsn said r f.accepted.1) ∙ ap (λ t. come t r.cumulative_tsn r.beyond) g.is
        ∙ k.floor.below (g.before + 1) (omega arith) le))

    put-past : (c : ChunkPayloadData) (said : Bool) (f : ReceiverFollows (incoming.takes c (New said)) old new)
        → Puts st AnyWeight Past k.lost old.receiving new.receiving (record { weighs = λ w v. k.weighs w; holds = k.floor.past }) c said f.step.receiver
    put-past c said f on e = record {
      weighs = (put c said f k after on e).weighs;
      holds =
          let a = f.step.receiver in
          pushed-each Later c said a.stream.queue a.queue a.pushed (fresh-later c said f) (subst Past e k.floor.past);
    }

    -- no FORWARD-TSN is followed
    passed-by : (call : ReceiverCall) → IsOther call → ReceiverFollows call old new → Passed k.lost new.receiving
    passed-by call o f =
        let floor = k.floor.floor in
        passed-still call f k (after-call st AnyWeight Past k.lost old new (record { weighs = λ w v. k.weighs w; holds = k.floor.past }) call o f
        (λ stream e. tt) (λ c said is g. put-past c said g)
        (λ l e. subst (Every Later) (sym (read-unassembled l.queue.held)) (subst Past e k.floor.past))).holds
        (hears p n (known_past first sent st floor old.receiving) (known_past first sent st floor new.receiving) old new few i.spread.step.made
        (known-more call f floor floor (omega arith)) (known-taken floor) k.floor.arrived call f (λ g in' same. absurd (subst IsOther same o)))

  pub keeps-other : (call : ReceiverCall) → IsOther call → ReceiverFollows call old new → Answered new → Keeps old.receiving → Keeps new.receiving
  keeps-other call o f after k = after-so call f k
      (after-call st AnyWeight (Well (Late old.receiving)) k.lost old new (before k) call o f fresh-well (λ c said is g. put c said g k after) (read k))
      (passed-by k after call o f)

  -- ## A FORWARD-TSN comes: what the receiver drops of the stream is of messages that are gone

  module _ (cut : AreCutGone gone sent) (made : list_all (made_in.made_among old.made) old.receiving.accepted ≡ true)
      (whole : All (λ m. (is_complete m.fragments ≡ true) × (is_one_message m.fragments ≡ true) × EachSent sent m.fragments) old.receiving.read)
      (g : ForwardTsn) (f : ReceiverFollows (incoming.follows g) old new) (pass : IsPassing (base first) gone old sent g)
      (k : Keeps old.receiving) where
    abbrev m : ℕ
    m = length pass.passed

    least : m ≤ n
    least = let x = part-length sent pass.passed pass.part in omega (arith, x)

    ends : EndsAt sent m
    ends = (pass.passed, pass.part, refl, pass.ends)

    abbrev Goes : ChunkPayloadData → Type 0
    Goes c = IsPassedBy gone sent old.made c × (is_upto p m c.tsn ≡ true)

    -- a place up to it
    upto-m : (y t : ℕ) → t ≡ tsn p y → y ≤ m → is_upto p m t ≡ true
    upto-m y t is le = upto-place p m y t is (omega (arith, le, least, few)) ∙ (let e : nat_le y m ≡ true = grind (arith, nat_tests) in e)

    -- what it passes
    passes-it : (c : ChunkPayloadData) → at_or_before c.tsn g.new_cumulative_tsn ≡ true → list_any (passes c.tsn) old.made ≡ true
    passes-it c e = list_any_at (passes c.tsn) old.made f.handed.0 (forward_tsn g) f.handed.1 (ap (passes c.tsn) f.handed.2 ∙ e)

    abbrev Rises : ℕ → ℕ → List ChunkPayloadData → Type 0
    Rises = holds.Rises p st n B E M

    accepted : (names_too_far g r ≡ false) × (names_closed g r ≡ false)
    accepted = sessions.refused st first all_streams none_dropped refl n old ns sent i.spread few g r f.accepted

    abbrev t : ℕ
    t = g.new_cumulative_tsn

    -- what it names of the stream
    naming : IsNamingTo p st n B E M a m g.streams
    naming =
        let x = every-contained (IsMadeNaming st p a sent) old.made (forward_tsn g) f.handed (i.spread.names st refl) in
        let same : x.place ≡ m = same-place p x.place m (omega (arith, few)) (omega (arith, least, few)) (sym x.is ∙ pass.is) in
        subst (λ j. IsNamingTo p st n B E M a j g.streams) same x.tells

    missing : Misses p st n B E M few up m
    missing j cs fits e = sessions.missed st first all_streams none_dropped refl n old ns sent i.spread few m j cs least fits e

    at : (j y : ℕ) (cs : List ChunkPayloadData) → y ≤ n → Fits j cs → list_any (has_tsn (tsn p y)) cs ≡ true → B y ≡ j + 1
    at = at-in ns first sent line joined n i.spread.long few st

    place : (j : ℕ) (cs : List ChunkPayloadData) → Fits j cs → 0 < length cs → (y : ℕ) × (y ≤ n) × (list_any (has_tsn (tsn p y)) cs ≡ true)
    place = place-in ns first sent line joined n i.spread.long few st

    abbrev Now : Reassembly → Type 0
    Now = IsCurrent p n B (B a) (B n) (Late new.receiving)

    -- what was taken came
    taken-came : (z : ℕ) → was_taken (tsn p z) old ≡ true → come (tsn p z) r.cumulative_tsn r.beyond ≡ true
    taken-came z e = grind (arith, nat_tests, common_steps, one-of (HasCome p n r) (has_tsn (tsn p z)) old.receiving.accepted e i.spread.step.taken.each)

    -- the queue after its names, with what goes
    record IsSkipped (q after : ReassemblyState) : Type 0 where
      lost : List ChunkPayloadData
      of-gone : Every Goes lost
      weighs : (w : ChunkPayloadData → ℕ) → weight w after.held + sum_by w lost ≡ weight w q.held
      well : IsHeldWell first sent st n a (Late new.receiving) after
      uncut : Every (λ s. cannot_complete t s ≡ false) after.held.ordered
      same-unassembled : after.held.unassembled ≡ q.held.unassembled

    module _ (fresh : is_stale g r ≡ false) where
      now-is' : new.receiving.receiver ≡ without_incomplete t (follow_forward_tsn g r)
      now-is' = now-is p st n B E M few up g old.receiving new.receiving f.step.receiver fresh

      lt : answered.arrived.place < m
      lt = ahead-is p st n B E M few up a g m old.receiving answered least pass.is fresh

      -- all up to the place has come then
      upto-come : (y : ℕ) → 0 < y → y ≤ m → come (tsn p y) new.receiving.receiver.cumulative_tsn new.receiving.receiver.beyond ≡ true
      upto-come y some le =
          let given : IsGiven p n (tsn p y) = record { place = y; some = some; within = omega (arith, le, least); is = refl } in
          subst (λ (q : Reception). come (tsn p y) q.cumulative_tsn q.beyond ≡ true) (sym now-is')
          (advance-keeps p n t m (filter (λ u. not (at_or_before u t)) r.beyond) few least pass.is
          (every-passing (IsGiven p n) (λ u. not (at_or_before u t)) r.beyond (beyond-given p n r (known old) few i.spread.step.arrived)) (tsn p y) given
          (or-left (at_or_before (tsn p y) t) (list_any (λ u. u == tsn p y) (filter (λ u. not (at_or_before u t)) r.beyond))
          (upto-yes p y m refl pass.is (omega (arith, le, least, few)) (omega (arith, least, few)) le)))

      -- what is still to come is of later messages
      past-new : (y : ℕ) → y ≤ n + 1 → Late new.receiving y → B m < B y
      past-new y le l = elim (cases_lt m y) [
        | inl lt ↦ wanted-after ns first sent line joined st m ends y l.0 lt
        | inr ge ↦ absurd (not_both (sym l.1 ∙ upto-come y (wanted-place y l.0) ge))
      ]

      module _ (l : InboundStream) (e : stream_of st r ≡ Some l) (h : IsHeldWell first sent st n a (Late old.receiving) l.queue) where
        d : IsDue p n B Fits Came answered.k answered.reach l.queue.held
        d = due-on l e

        same-index : h.current.index ≡ d.index
        same-index = index-due (Late old.receiving) l e h d

        abbrev later : Now l.queue.held
        later = holds.current-less p n B (B a) (B n) (Late old.receiving) (Late new.receiving) l.queue.held (late-less (incoming.follows g) f) h.current

        names : ssns_of l.queue.si g.streams ≡ map (λ x. x.sequence) (filter (is_pair_of st) g.streams)
        names = named-by p st n B E M few up a g m old.receiving answered least pass.is l e

        -- it has no name of the stream
        unnamed : filter (is_pair_of st) g.streams ≡ [] → ((j : ℕ) → a < j → j ≤ m → E j ≡ false) → IsSkipped l.queue l.queue
        unnamed none clear = record {
          lost = [];
          of-gone = tt;
          weighs = λ w. omega arith;
          well = record { current = later; tidy = h.tidy; orderly = h.orderly };
          uncut =
              holds.none-cut p n B Fits Came at place t h.current.index d.low answered.reach l.queue.held.ordered d.sets
              (gone-held p st n B E M few up t m least pass.is Came missing h.current.index d.low answered.reach l.queue.held.ordered d.sets held)
              h.current.whole h.current.some;
          same-unassembled = refl;
        }
          where
            held : (z : ℕ) → z ≤ m → E z ≡ true → d.low + 1 ≤ B z → h.current.index + 1 ≤ B z
                → list_any (λ (s : ChunkSet). list_any (has_tsn (tsn p z)) s.chunks) l.queue.held.ordered ≡ true
            held z upto on lo from = elim (d.kept z (omega (arith, upto, least))
                (clear-came p st n B E M few up a g m old.receiving answered least pass.is clear z upto on)) [
                  | inl x ↦ let s = same-index in absurd (omega (arith, x, from, s))
                  | inr x ↦ x
                ]

        -- it names the last message of the stream that was begun up to the place
        module _ (j : ℕ) (last : j + 1 ≡ B m)
            (only : filter (is_pair_of st) g.streams ≡ record { identifier = st; sequence = j % 2 ^ 16 } ∷ []) where
          close' : is_name_too_far (j % 2 ^ 16) l.queue.held ≡ false
          close' = close p st n B E M few up a g m old.receiving answered least pass.is accepted.0 lt l e (j % 2 ^ 16) only

          near' : (answered.reach ≤ j + 1 + 2 ^ 14) × (j + 1 ≤ answered.reach + 2 ^ 14)
          near' = name-within p st n B E M few up a g m old.receiving answered least pass.is near lt j last

          skip : (x : Now (held_after_ordered_skip (j % 2 ^ 16) l.queue.held)) × (j + 1 ≤ x.index)
          skip =
              let x = up a m (omega (arith, answered.arrived.least_is, lt)) in
              holds.skip-current p n B Fits Came at place answered.k answered.reach j (j % 2 ^ 16) l.queue.held d refl near'.0 near'.1 close'
              (B a) (B n) (Late new.receiving) later same-index (omega (arith, up m n least, last)) (omega (arith, x, last))
              (λ y le l'. let z = past-new y le l' in omega (arith, z, last))

          misses-held : (x : ℕ) (cs : List ChunkPayloadData) → Fits x cs → 0 < length cs → is_complete cs ≡ false → x ≤ j
              → (z : ℕ) × (z ≤ m) × (E z ≡ true) × (B z ≡ x + 1) × (list_any (has_tsn (tsn p z)) cs ≡ false)
          misses-held x cs fits some open' le =
              missing x cs fits (misses-one ns first sent line joined n i.spread.long few st x m least ends (omega (arith, le, last)) cs fits some open')

          -- the fragments of a message up to the place are passed
          pass-all : (z : ℕ) → z ≤ m → (y low : ℕ) (cs : List ChunkPayloadData) → Rises y low cs → B z ≡ y + 1 → Every (IsGone gone sent) cs
              → Every Goes cs
          pass-all z upto y low [] r count e = tt
          pass-all z upto y low (c ∷ cs) r count e =
              let o = r.0 in
              let le = fragment-upto ns first sent line joined n i.spread.long few st y m least ends (omega (arith, up z m upto, count)) c o in
              let before' = upto-yes p (o.before + 1) m o.is pass.is (omega (arith, le, least, few)) (omega (arith, least, few)) le in
              (((e.0, passes-it c before'), upto-m (o.before + 1) c.tsn o.is le), pass-all z upto y (o.before + 1) cs r.2 count e.1)

          passed-gone : Every (λ s. is_passed (j % 2 ^ 16) s ≡ true → Every Goes s.chunks) l.queue.held.ordered
          passed-gone =
              holds.all-passed p n B Fits Came at place answered.k answered.reach j (j % 2 ^ 16) l.queue.held d refl near'.0 near'.1 close'
              Goes m least E misses-held (B a) (B n) (Late old.receiving) h.current hold
            where
              hold : (z : ℕ) → z ≤ m → E z ≡ true → h.current.index + 1 ≤ B z
                  → (list_any (λ (s : ChunkSet). list_any (has_tsn (tsn p z)) s.chunks) l.queue.held.ordered ≡ true)
                  ⊎ ((x : ℕ) (cs : List ChunkPayloadData) → Fits x cs → B z ≡ x + 1 → Every Goes cs)
              hold z upto on from =
                  elim (resolved ns first sent line joined n i.spread.long few gone cut old pass.passed pass.part pass.came st z on upto) [
                    | inr x ↦ inr (λ y cs fits count. pass-all z upto y 0 cs fits count (x y cs fits count))
                    | inl x ↦ elim (d.kept z (omega (arith, upto, least)) (on, taken-came z x)) [
                      | inl y ↦ let s = same-index in absurd (omega (arith, y, from, s))
                      | inr y ↦ inl y
                    ]
                  ]

          named : IsSkipped l.queue (after_ordered_skip (j % 2 ^ 16) l.queue)
          named =
              let x = skip in
              record {
                lost = fragments_of_sets (filter (is_passed (j % 2 ^ 16)) l.queue.held.ordered);
                of-gone = each-dropped Goes (is_passed (j % 2 ^ 16)) l.queue.held.ordered passed-gone;
                weighs = λ w. let s = filter-split (is_passed (j % 2 ^ 16)) w l.queue.held.ordered in omega (arith, s);
                well = grind (arith, nat_tests, common_steps, skipped-tidy, skipped-orderly);
                uncut =
                    let q = held_after_ordered_skip (j % 2 ^ 16) l.queue.held in
                    let sets = sets-those Fits (λ s. not (is_passed (j % 2 ^ 16) s)) d.low answered.reach l.queue.held.ordered d.sets in
                    holds.none-cut p n B Fits Came at place t x.0.index d.low answered.reach q.ordered sets
                    (gone-begun p st n B E M few up t m least pass.is Came missing x.0.index d.low answered.reach q.ordered sets
                    (omega (arith, last)))
                    x.0.whole x.0.some;
                same-unassembled = refl;
              }

        skipped : IsSkipped l.queue (skipped_each (ssns_of l.queue.si g.streams) l.queue)
        skipped = elim naming [
          | inl x ↦
              subst (λ xs. IsSkipped l.queue (skipped_each xs l.queue)) (sym (names ∙ ap (map (λ (y : ChunkForwardTsnStream). y.sequence)) x.0))
              (unnamed x.0 x.2)
          | inr x ↦
              subst (λ xs. IsSkipped l.queue (skipped_each xs l.queue)) (sym (names ∙ ap (map (λ (y : ChunkForwardTsnStream). y.sequence)) x.2))
              (named x.0 x.1 x.2)
        ]

        -- unassembled fragments up to the place
        unassembled-gone : Every (λ c. at_or_before c.tsn t ≡ true → Goes c) l.queue.held.unassembled
        unassembled-gone = every-of-all (λ c. at_or_before c.tsn t ≡ true → Goes c) l.queue.held.unassembled (λ x c lt b.
            let xs = l.queue.held.unassembled in
            let y = slice_index_or xs x c in
            let sent' = every-at (λ (z : ChunkPayloadData). WasSent sent (data_of z)) xs x c lt
            (was-unassembled ns first sent line i.spread.holds.held.stands.queued.indexed joined n i.spread.long few gone cut old i.spread.holds.made made
            i.spread.step.taken.apart
            whole st a k l e) in
            let place' = entry-of ns first sent line joined n i.spread.long few y sent' in
            let within' = place'.3 in (
              (
                gone-unassembled ns first sent line i.spread.holds.held.stands.queued.indexed joined n i.spread.long few gone cut old i.spread.holds.made
                    made i.spread.step.taken.apart whole st a k l e
                    pass.passed pass.part pass.ends pass.came y sent'
                    (every-at IsUnordered xs x c lt h.tidy.rest.kinds) (some-of y.tsn xs (list_any_at (has_tsn y.tsn) xs x c lt (same-yes y.tsn)))
                    (ap (at_or_before y.tsn) (sym pass.is) ∙ b),
                passes-it y b,
              ),
              upto-m place'.0 y.tsn place'.4
                  (upto-is p place'.0 m place'.4 pass.is (omega (arith, within', few)) (omega (arith, least, few)) b),
            ))

        abbrev after-names : ReassemblyState
        after-names = skipped_each (ssns_of l.queue.si g.streams) l.queue

        abbrev after-all : ReassemblyState
        after-all = after_incomplete_skip t (after_unordered_skip t after-names)

        uncut-same : after-all.held ≡ held_after_unordered_skip t after-names.held
        uncut-same = holds.same-uncut t (held_after_unordered_skip t after-names.held) skipped.uncut

        well-after : IsHeldWell first sent st n a (Late new.receiving) after-all
        well-after = record {
          current =
              subst Now (sym uncut-same) (holds.current-same p n B (B a) (B n) (Late new.receiving) after-names.held
              (held_after_unordered_skip t after-names.held) refl refl skipped.well.current);
          tidy = subst (IsTidy p n) (sym uncut-same) (left-tidy p n few t after-names.held skipped.well.tidy);
          orderly =
              ap (λ (q : Reassembly). all_complete q.unordered && is_unmixed after-names.si q) uncut-same ∙ left-orderly t after-names skipped.well.orderly;
        }

        weighs-after : (w : ChunkPayloadData → ℕ)
            → weight w after-all.held + (sum_by w skipped.lost + sum_by w (leading (λ x. at_or_before x.tsn t) l.queue.held.unassembled))
            ≡ weight w l.queue.held
        weighs-after w =
            let v = leading-split (λ x. at_or_before x.tsn t) w after-names.held.unassembled in
            let z = ap (λ xs. sum_by w (leading (λ x. at_or_before x.tsn t) xs)) skipped.same-unassembled in
            omega (arith, skipped.weighs w, ap (weight w) uncut-same, v, z)

      -- what is lost stands up to the later of the two places, and what is unassembled past it
      passed-to : (lost : List ChunkPayloadData) → Every (λ c. is_upto p m c.tsn ≡ true) lost
          → IsPast first sent st m (stream_of st new.receiving.receiver) → IsPast first sent st k.floor.floor (stream_of st new.receiving.receiver)
          → Passed (lost ++ k.lost) new.receiving
      passed-to lost upto past-m past-old = elim (cases_lt k.floor.floor m) [
        | inl under ↦ record {
          floor = m;
          within = least;
          ends = inr ends;
          below = upto-come;
          gone-to = every-joined (λ c. is_upto p m c.tsn ≡ true) lost k.lost upto
              (every-of (λ c. is_upto p k.floor.floor c.tsn ≡ true) (λ c. is_upto p m c.tsn ≡ true) (λ c e. grind (arith, nat_tests)) k.lost
              k.floor.gone-to);
          past = past-m;
          arrived = comes m (omega (arith, under)) (omega arith);
        }
        | inr over ↦ record {
          floor = k.floor.floor;
          within = k.floor.within;
          ends = k.floor.ends;
          below = below-still (incoming.follows g) f k;
          gone-to = every-joined (λ c. is_upto p k.floor.floor c.tsn ≡ true) lost k.lost
              (every-of (λ c. is_upto p m c.tsn ≡ true) (λ c. is_upto p k.floor.floor c.tsn ≡ true) (λ c e. grind (arith, nat_tests)) lost upto)
              k.floor.gone-to;
          past = past-old;
          arrived = comes k.floor.floor (omega arith) over;
        }
      ]
        where
          comes : (to : ℕ) → k.floor.floor ≤ to → m ≤ to
              → IsArrived p n (known_past first sent st to new.receiving) new.receiving.receiver.cumulative_tsn new.receiving.receiver.beyond
          comes to from over =
              hears p n (known_past first sent st k.floor.floor old.receiving) (known_past first sent st to new.receiving) old new few i.spread.step.made
              (known-more (incoming.follows g) f k.floor.floor to from) (known-taken to) k.floor.arrived (incoming.follows g) f (λ h in' same v y le.
              let it : g.new_cumulative_tsn ≡ h.new_cumulative_tsn = ap new_tsn same in
              let within' = v.within in
              let at : v.place ≡ m = same-place p v.place m (omega (arith, within', few)) (omega (arith, least, few)) (sym v.is ∙ sym it ∙ pass.is) in
              or-right (list_any (has_tsn (tsn p y)) new.receiving.accepted) (is_upto p to (tsn p y))
              (upto-place p to y (tsn p y) refl (omega (arith, le, at, least, few))
              ∙ (let e : nat_le y to ≡ true = grind (arith, nat_tests) in e)))
            where
              new_tsn : ReceiverCall → ℕ
              new_tsn (incoming.follows h) = h.new_cumulative_tsn
              new_tsn call = 0

      followed : Keeps new.receiving
      followed = by (stream_of st r) refl (found-after p st n B E M few up g old.receiving new.receiving f.step.receiver fresh) k.holds
        where
          weigh : (o : Option InboundStream) → (w : ChunkPayloadData → ℕ) → stream_of st r ≡ o
              → sum_by w (filter (is_on st) new.receiving.accepted) ≡ sum_by w (fragments_read st new.receiving.read) + held_weight w o + sum_by w k.lost
          weigh o w e = grind (arith, nat_tests, common_steps, k.weighs w, ap (held_weight w) e)

          by : (o : Option InboundStream) → stream_of st r ≡ o
              → stream_of st new.receiving.receiver
              ≡ option_map (changed p st n B E M few up g old.receiving new.receiving f.step.receiver) o
              → HeldWell first sent st n a (Late old.receiving) o → Keeps new.receiving
          by None e is h = record {
            lost = k.lost;
            of-gone = k.of-gone;
            weighs = λ w. let x = weigh None w e in let y = ap (held_weight w) is in omega (arith, x, y);
            holds = subst (HeldWell first sent st n a (Late new.receiving)) (sym is) tt;
            floor = passed-to [] tt (subst (IsPast first sent st m) (sym is) tt) (subst (IsPast first sent st k.floor.floor) (sym is) tt);
          }
          by (Some l) e is h =
              let s = skipped l e h in
              let front = leading (λ x. at_or_before x.tsn t) l.queue.held.unassembled in
              let all = every-joined Goes s.lost front s.of-gone
              (each-leading Goes (λ x. at_or_before x.tsn t) l.queue.held.unassembled (unassembled-gone l e h)) in
              let left : (after-all l e h).held.unassembled ≡ after_leading (λ x. at_or_before x.tsn t) l.queue.held.unassembled =
              ap (λ (q : Reassembly). q.unassembled) (uncut-same l e h) ∙ ap (after_leading (λ x. at_or_before x.tsn t)) s.same-unassembled in
              record {
                lost = (s.lost ++ front) ++ k.lost;
                of-gone = every-joined (IsPassedBy gone sent old.made) (s.lost ++ front) k.lost
                    (every-of Goes (IsPassedBy gone sent old.made) (λ c g. g.0) (s.lost ++ front) all) k.of-gone;
                weighs = λ w.
                    let y = ap (held_weight w) is in
                    omega (arith, weigh (Some l) w e, y, weighs-after l e h w, sum_by-append w (s.lost ++ front) k.lost, sum_by-append w s.lost front);
                holds = subst (HeldWell first sent st n a (Late new.receiving)) (sym is) (well-after l e h);
                floor = passed-to (s.lost ++ front) (every-of Goes (λ c. is_upto p m c.tsn ≡ true) (λ c g. g.1) (s.lost ++ front) all)
                    (subst (IsPast first sent st m) (sym is) (subst (Every (λ c. is_upto p m c.tsn ≡ false)) (sym left)
                    (subst (λ u. Every (λ c. is_upto p m c.tsn ≡ false) (after_leading (λ x. at_or_before x.tsn u) l.queue.held.unassembled)) (sym pass.is)
                    (past-left p n few m least 0 l.queue.held.unassembled h.tidy.rest.unassembled))))
                    (subst (IsPast first sent st k.floor.floor) (sym is) (subst (Every (λ c. is_upto p k.floor.floor c.tsn ≡ false)) (sym left)
                    (leading-each (λ c. is_upto p k.floor.floor c.tsn ≡ false) (λ x. at_or_before x.tsn t) l.queue.held.unassembled
                    (subst (IsPast first sent st k.floor.floor) e k.floor.past))));
              }

    pub keeps-followed : Keeps new.receiving
    keeps-followed = grind (arith, nat_tests, common_steps, g, stale-same, up, still, incoming.follows, followed)
