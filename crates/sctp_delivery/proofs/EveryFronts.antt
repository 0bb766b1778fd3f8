-- Sessions of every call: on a stream that goes on each ordered message before the next one was read, is held whole, or may be passed over. Only those
-- may be that a FORWARD-TSN passed, which has a name of the stream, and of which a message is gone.
use Rattle.sctp_delivery.proofs.Names.{common_steps, nat_tests, ◌≡◌, ℕ, ◌+◌, ◌%◌, ◌^◌, ◌<◌, ◌≤◌, Bool, true, false, not, List, [], ◌∷◌, Option, Some, None, inl}
use Rattle.sctp_delivery.proofs.Names.{inr, refl, ap, sym, subst, ◌∙◌, arith, ⊤, ◌⊎◌, ◌==◌, if◌then◌else◌, find, filter, list_any, option_map, option_or}
use Rattle.sctp_delivery.proofs.Names.{cases_lt, not_both, same-is, eq-eqb, distance, tsn, at_or_before16, ◌&&◌, ChunkPayloadData, ChunkSet, Data, has_tsn}
use Rattle.sctp_delivery.proofs.Names.{Reassembly, ReassemblyState, is_complete, held_after_incomplete_skip, held_after_ordered_skip, held_after_unordered_skip}
use Rattle.sctp_delivery.proofs.Names.{is_passed, message_read, misses, InboundStream, New, new_stream, stream_read, Reception, stream_of, ForwardTsn}
use Rattle.sctp_delivery.proofs.Names.{after_forward_tsn, is_stale, is_pair_of, message_on, Message, Stand, map, Session, ReceiverCall, ReceiverFollows}
use Rattle.sctp_delivery.proofs.Names.{SenderCall, SenderFollows, Contains, forward_tsn, change_where, incomplete_forwarded, length, stream_forwarded}
use Rattle.sctp_delivery.proofs.Names.{unassembled_forwarded, ChunkForwardTsnStream, with_queue, find-append, same-yes, or-left, list_any-those, names_too_far}
use Rattle.sctp_delivery.proofs.Names.{ssns_of, skipped_each, was_taken}
use Rattle.sctp_reassembly.specs.reassembly_queue.ReassemblyQueue.{after_ordered_skip}
use Rattle.sctp_receiver.specs.Inbound.{has_number, numbers_of}
use Rattle.sctp_receiver.specs.Receiver.{message_of}
use Rattle.sctp_receiver.specs.ReceiverRuns.{with_message}
use Rattle.sctp_receiver.specs.Resets.{stream_reset}
use Rattle.sctp_receiver.proofs.StreamCosts.{are_apart}
use Rattle.sctp_receiver.proofs.Closed.{others-left}
use Rattle.sctp_delivery.specs.EveryCall.{ReceiverDoes, ReceiverOther, closes_incoming, discards, of_receiving, passes_over, resets_incoming}
use Rattle.sctp_delivery.specs.EveryOrder.{breaks}
use Rattle.sctp_delivery.specs.ReceiverCalls as incoming
use Rattle.sctp_delivery.proofs.AbandonedMessages.{AreAmong}
use Rattle.sctp_delivery.proofs.Cases.{at-test, by-test}
use Rattle.sctp_delivery.proofs.Delivered.{next_tsn}
use Rattle.sctp_delivery.proofs.Every.{every-contained, one-of}
use Rattle.sctp_delivery.proofs.EveryTurns.{near-names}
use Rattle.sctp_delivery.proofs.Kept.{accepted-on, changed-elsewhere, changed-here}
use Rattle.sctp_delivery.proofs.MessagePlaces.{IsEntryAt, is_of_stream, misses-one}
use Rattle.sctp_delivery.proofs.NotRefused.{begin-place}
use Rattle.sctp_delivery.proofs.PassedMessages.{AreCutGone, IsPassing, is_gone}
use Rattle.sctp_delivery.proofs.PassingCalls.{at-entry, taken-or-gone}
use Rattle.sctp_delivery.proofs.Queues.{IsOnceMore}
use Rattle.sctp_delivery.proofs.Sent.{Entry, IsLine, Numbered, part-itself, part-length}
use Rattle.sctp_delivery.proofs.SpreadCalls.{IsSpreadOn, SpreadsOn}
use Rattle.sctp_delivery.proofs.SpreadEntries.{begun_to, to-all, to-up}
use Rattle.sctp_delivery.proofs.SpreadFlight.{IsMadeNaming, IsNaming}
use Rattle.sctp_delivery.proofs.TakenTsns.{come}
use Rattle.sctp_delivery.proofs.TightFlight.{step-few}
use Rattle.sctp_delivery.proofs.TsnPlaces.{base, same-place}
use Rattle.sctp_delivery.proofs.UnwrappedCalls.{ahead-is, clear-came, close, found-after, gone-begun, gone-held, name-within, named-by, stale-same}
use Rattle.sctp_delivery.proofs.UnwrappedHolds as holds
use Rattle.sctp_delivery.proofs.UnwrappedHolds.{AreDue, at-in}
use Rattle.sctp_delivery.proofs.UnwrappedReads as reads
use Rattle.sctp_delivery.proofs.UnwrappedReads.{IsDue, name-due}
use Rattle.sctp_delivery.proofs.UnwrappedSessions as sessions
use Rattle.sctp_delivery.proofs.UnwrappedSessions.{rises-more, same-at, same-to, was-more}
use Rattle.sctp_delivery.proofs.WholeSets.{HasFront, IsHeldIn, IsUncut, cut-front, held-those, pushed-front, read-next, set-of, skipped-front, skipped-next}

-- # One stream of a session

-- the next number of the stream, and what is so of its sets
abbrev pub next_of : Option InboundStream → ℕ
next_of None = 0
next_of (Some l) = l.queue.held.next_ssn

abbrev pub FrontOf : Option InboundStream → Type 0
FrontOf None = ⊤
FrontOf (Some l) = HasFront l.queue.held

-- of the ordered message of the stream with the index a fragment was sent, and the message is gone
abbrev pub IsGoneAt : ℕ → List ℕ → List Entry → ℕ → Type 0
IsGoneAt st gone sent j =
    (z : ℕ) × (e : Data) × (v : Numbered) × IsEntryAt sent z e v × (is_of_stream st e ≡ true) × (begun_to st z sent ≡ j + 1)
    × (is_gone gone v.place ≡ true)

module _ (st first : ℕ) where
  abbrev Fit : ℕ → List Entry → ℕ → List ChunkPayloadData → Type 0
  Fit n sent = holds.Fits (base first) st n (sessions.to st first sent) (sessions.at st first sent) (sessions.Was st first sent)

  -- the message with this index was read
  abbrev pub HasRead : ℕ → List Entry → ℕ → List Message → Type 0
  HasRead n sent i [] = ⊥
  HasRead n sent i (m ∷ ms) = ((m.stream ≡ st) × Fit n sent i m.fragments) ⊎ HasRead n sent i ms

  -- it is held whole
  abbrev pub IsHeldOn : ℕ → List Entry → ℕ → Option InboundStream → Type 0
  IsHeldOn n sent i None = ⊥
  IsHeldOn n sent i (Some l) = IsHeldIn (Fit n sent) i l.queue.held.ordered

  -- G i: it may be passed over
  abbrev pub IsDone : ℕ → List Entry → (ℕ → Type 0) → Option InboundStream → List Message → ℕ → Type 0
  IsDone n sent G o ms i = HasRead n sent i ms ⊎ (IsHeldOn n sent i o ⊎ G i)

  -- each ordered message before the next one was read, is held whole, or may be passed over
  pub record IsReadUp (n : ℕ) (sent : List Entry) (G : ℕ → Type 0) (o : Option InboundStream) (ms : List Message) : Type 0 where
    pub next : ℕ
    pub number : next_of o ≡ next % 2 ^ 16
    pub front : FrontOf o
    pub within : next ≤ begun_to st n sent
    pub near : begun_to st n sent ≤ next + (2 ^ 15 + 2 ^ 14)
    pub done : (i : ℕ) → i < next → IsDone n sent G o ms i

  abbrev Due : ℕ → List Entry → ℕ → Stand → Type 0
  Due n sent = AreDue (base first) st n (sessions.to st first sent) (sessions.at st first sent) (sessions.Was st first sent)

  abbrev DueOn : ℕ → List Entry → (ℕ → Type 0) → ℕ → ℕ → Option InboundStream → Type 0
  DueOn n sent = holds.DueOn (base first) st n (sessions.to st first sent) (sessions.at st first sent) (sessions.Was st first sent)

  -- ## A call of the sender

  -- the next message lies near all that were begun
  near-due : (n : ℕ) (sent : List Entry) (C : ℕ → Type 0) (k reach next : ℕ) (o : Option InboundStream) → DueOn n sent C k reach o
      → next_of o ≡ next % 2 ^ 16 → reach ≤ begun_to st n sent → begun_to st n sent ≤ reach + 2 ^ 14 → next ≤ begun_to st n sent
      → begun_to st n sent ≤ next + (2 ^ 15 + 2 ^ 14 + 1) → begun_to st n sent ≤ next + (2 ^ 15 + 2 ^ 14)
  near-due h0 h1 h2 h3 h4 h5 h6 h7 h8 h9 h10 h11 h12 = grind (arith, nat_tests, common_steps)

  read-more : (n m : ℕ) (sent more : List Entry) → ((i : ℕ) (cs : List ChunkPayloadData) → Fit n sent i cs → Fit m more i cs) → (i : ℕ) (ms : List Message)
      → HasRead n sent i ms → HasRead m more i ms
  read-more n m sent more f i [] h = h
  read-more n m sent more f i (x ∷ xs) h = elim h [ inl e ↦ inl (e.0, f i x.fragments e.1) | inr e ↦ inr (read-more n m sent more f i xs e) ]

  sets-more : (n m : ℕ) (sent more : List Entry) → ((i : ℕ) (cs : List ChunkPayloadData) → Fit n sent i cs → Fit m more i cs) → (i : ℕ) (ss : List ChunkSet)
      → IsHeldIn (Fit n sent) i ss → IsHeldIn (Fit m more) i ss
  sets-more n m sent more f i [] h = h
  sets-more n m sent more f i (s ∷ ss) h = elim h [ inl e ↦ inl (f i s.chunks e.0, e.1) | inr e ↦ inr (sets-more n m sent more f i ss e) ]

  held-more : (n m : ℕ) (sent more : List Entry) → ((i : ℕ) (cs : List ChunkPayloadData) → Fit n sent i cs → Fit m more i cs) → (i : ℕ)
      (o : Option InboundStream) → IsHeldOn n sent i o → IsHeldOn m more i o
  held-more n m sent more f i None h = h
  held-more n m sent more f i (Some l) h = sets-more n m sent more f i l.queue.held.ordered h

  pub gone-later : (n : ℕ) (gone more : List ℕ) → AreAmong gone more → (sent xs : List Entry) → length sent ≡ n → IsOnceMore sent xs → (j : ℕ)
      → IsGoneAt st gone sent j → IsGoneAt st more xs j
  gone-later n gone more a sent xs long once j g = grind (arith, nat_tests, common_steps, part-length, same-to)

  pub sender-up : (on dropped : ℕ → Bool) → on st ≡ true → (n : ℕ) (call : SenderCall) (old new : Session) (ns : List Numbered) (sent : List Entry)
      (i : IsSpreadOn on dropped first n old ns sent) → (few : n + distance (next_tsn old) (next_tsn new) < 2 ^ 31) → (f : SenderFollows call old new)
      → (x : SpreadsOn on dropped first n call old new ns sent i)
      → sessions.IsAnswered st first (n + distance (next_tsn old) (next_tsn new)) x.more x.spread.step.numbered.acked new
      → (G H : ℕ → Type 0) → ((j : ℕ) → G j → H j) → IsReadUp n sent G (stream_of st old.receiving.receiver) old.receiving.read
      → IsReadUp (n + distance (next_tsn old) (next_tsn new)) x.more H (stream_of st new.receiving.receiver) new.receiving.read
  sender-up on dropped o n call old new ns sent i few f x t G H later u' =
      let m = n + distance (next_tsn old) (next_tsn new) in
      let u : IsReadUp n sent G (stream_of st new.receiving.receiver) new.receiving.read =
      subst (λ (s : Stand). IsReadUp n sent G (stream_of st s.receiver) s.read) (sym (ap (λ (s : Session). s.receiving) f.after)) u' in
      let same = sessions.same-to st first n sent x.more i.long x.once in
      let long = x.spread.long in
      let all = to-all st m x.more (omega (arith, long)) in
      let near = x.spread.near st o in
      let d = t.0 in
      let up = to-up st x.spread.step.numbered.acked d.arrived.place x.more d.arrived.least_is in
      let covered = d.arrived.covered in
      let wide : begun_to st m x.more ≤ d.reach + 2 ^ 14 = omega (arith, all, near, up, covered) in
      let grown : begun_to st n sent ≤ begun_to st m x.more = omega (arith, same n (omega arith), to-up st n m x.more (omega arith)) in
      let least = u.near in
      let within = u.within in
      record {
        next = u.next;
        number = u.number;
        front = u.front;
        within = omega (arith, within, grown);
        near = near-due m x.more _ d.k d.reach u.next (stream_of st new.receiving.receiver) d.due u.number d.most wide (omega (arith, within, grown))
            (omega (arith, least, one-more m x.more i.long x.spread.long x.once));
        done = grind (arith, nat_tests, common_steps, read-more, fit, held-more);
      }
    where
      fit : (k : ℕ) (cs : List ChunkPayloadData) → Fit n sent k cs → Fit (n + distance (next_tsn old) (next_tsn new)) x.more k cs
      fit k cs r =
          let m = n + distance (next_tsn old) (next_tsn new) in
          rises-more (base first) st n m (sessions.to st first sent) (sessions.to st first x.more) (sessions.at st first sent)
          (sessions.at st first x.more) (sessions.Was st first sent) (sessions.Was st first x.more) few (omega arith)
          (same-to st first n sent x.more i.long x.once) (to-up st n m x.more (omega arith)) (same-at st first n sent x.more i.long x.once)
          (was-more st first sent x.more x.once) k 0 cs r

      -- one message more is begun at most
      one-more : (m : ℕ) (more : List Entry) → length sent ≡ n → length more ≡ m → IsOnceMore sent more → begun_to st m more ≤ begun_to st n sent + 1
      one-more m more long longer once = grind (arith, nat_tests, common_steps, to-all, step-few)

  -- ## A call of the receiver

  module _ (on dropped : ℕ → Bool) (o : on st ≡ true) (n : ℕ) (old : Session) (ns : List Numbered) (sent : List Entry)
      (i : IsSpreadOn on dropped first n old ns sent) (few : n < 2 ^ 31) where
    abbrev r : Reception
    r = old.receiving.receiver

    abbrev p : ℕ
    p = base first

    abbrev B : ℕ → ℕ
    B = sessions.to st first sent

    abbrev E : ℕ → Bool
    E = sessions.at st first sent

    abbrev M : ChunkPayloadData → Type 0
    M = sessions.Was st first sent

    abbrev Fits : ℕ → List ChunkPayloadData → Type 0
    Fits = Fit n sent

    abbrev Old : ℕ → Type 0
    Old = holds.Came p st n B E M r.cumulative_tsn r.beyond

    grows : (j k : ℕ) → j ≤ k → B j ≤ B k
    grows = sessions.grows st first on dropped o n old ns sent i few

    -- a complete set is of one message
    pub one-index : (j k : ℕ) (cs : List ChunkPayloadData) → Fits j cs → Fits k cs → is_complete cs ≡ true → j ≡ k
    one-index h0 h1 h2 h3 h4 h5 = grind (arith, nat_tests, common_steps, not_both, or-left, eq-eqb, at-in, grows)

    -- ## A FORWARD-TSN names the stream

    -- of the messages up to its place, each from the next one on is held whole, or is gone
    module _ (gone : List ℕ) (cut : AreCutGone gone sent) (g : ForwardTsn) (pass : IsPassing p gone old sent g) (k reach : ℕ) (q : Reassembly)
        (due : IsDue p n B Fits Old k reach q) where
      abbrev m : ℕ
      m = length pass.passed

      pub least : m ≤ n
      least = let l = part-length sent pass.passed pass.part in let long = i.long in omega (arith, l, long)

      abbrev line : IsLine ns first sent
      line = i.holds.held.stands.queued.line

      taken-came : (z : ℕ) → was_taken (tsn p z) old ≡ true → come (tsn p z) r.cumulative_tsn r.beyond ≡ true
      taken-came z e = grind (arith, nat_tests, common_steps, one-of, same-is)

      -- a place of such a message is held, or its message is gone
      held-or-gone : (z j : ℕ) → z ≤ m → E z ≡ true → B z ≡ j + 1 → due.index ≤ j
          → (list_any (λ (s : ChunkSet). list_any (has_tsn (tsn p z)) s.chunks) q.ordered ≡ true) ⊎ IsGoneAt st gone sent j
      held-or-gone z j le there count from = elim (at-entry gone st sent z sent (part-itself sent) there cut) [
        | inr h ↦ inr (h.0, h.1, h.2, h.3, h.4, h.6 ∙ count, h.5)
        | inl h ↦
            elim (taken-or-gone ns first sent line i.holds.held.stands.queued.joined n i.long few gone cut old pass.passed pass.part pass.came z h.0 h.1 h.2
            le) [
              | inr e ↦ inr (z, h.0, h.1, h.2, h.3, count, e)
              | inl e ↦ elim (due.kept z (let l = least in omega (arith, le, l)) (there, taken-came z e)) [
                | inl x ↦ absurd (omega (arith, x, count, from))
                | inr x ↦ inl x
              ]
            ]
      ]

      pub whole-or-gone : (j : ℕ) → due.index ≤ j → j + 1 ≤ B m → IsHeldIn Fits j q.ordered ⊎ IsGoneAt st gone sent j
      whole-or-gone j from upto =
          let z = begin-place st m j sent upto in
          let l = least in
          let zs = z.1 in
          elim (held-or-gone z.0 j z.1 z.2 z.3 from) [
            | inr e ↦ inr e
            | inl e ↦ elim (set-of p n B Fits Old reach (at-in p st n B E M few grows) z.0 j (omega (arith, zs, l)) z.3 due.low q.ordered due.sets e) [
              | inl h ↦ inl h
              | inr h ↦
                  let miss = misses-one ns first sent line i.holds.held.stands.queued.joined n i.long few st j m l (pass.passed, pass.part, refl, pass.ends)
                  upto h.0 h.1 h.2 h.3 in
                  let y = sessions.missed st first on dropped o n old ns sent i few m j h.0 l h.1 miss in
                  let ys = y.1 in
                  elim (held-or-gone y.0 j y.1 y.2 y.3 from) [
                    | inr f ↦ inr f
                    | inl f ↦ absurd (not_both (sym y.4 ∙ h.4 y.0 (omega (arith, ys, l)) y.3 f))
                  ]
            ]
          ]

    module _ (new : Session) (d : Due n sent i.step.numbered.acked old.receiving) (G : ℕ → Type 0)
        (u : IsReadUp n sent G (stream_of st old.receiving.receiver) old.receiving.read) where
      abbrev ReadUp : Option InboundStream → List Message → Type 0
      ReadUp = IsReadUp n sent G

      abbrev Done : Option InboundStream → List Message → ℕ → Type 0
      Done = IsDone n sent G

      abbrev Now : Type 0
      Now = ReadUp (stream_of st new.receiving.receiver) new.receiving.read

      wide : B n ≤ d.reach + 2 ^ 14
      wide = grind (arith, nat_tests, common_steps, sessions.near, grows)

      -- the next message is that of the queue
      pub index-is : (l : InboundStream) (due : IsDue p n B Fits Old d.k d.reach l.queue.held) → next_of (Some l) ≡ u.next % 2 ^ 16
          → due.index ≡ u.next
      index-is l due number = grind (arith, nat_tests, common_steps, wide)

      -- with the same next number
      kept : (l : Option InboundStream) (ms : List Message) → next_of l ≡ next_of (stream_of st r) → FrontOf l
          → ((j : ℕ) → j < u.next → Done (stream_of st r) old.receiving.read j → Done l ms j) → ReadUp l ms
      kept l ms same front more = grind (arith, nat_tests, common_steps)

      still : new.receiving.read ≡ old.receiving.read → stream_of st new.receiving.receiver ≡ stream_of st r → Now
      still read same = subst (λ l. ReadUp l new.receiving.read) (sym same) (subst (ReadUp (stream_of st r)) (sym read) u)

      -- the stream is another one
      to-stream : (l : Option InboundStream) → new.receiving.read ≡ old.receiving.read → stream_of st new.receiving.receiver ≡ l
          → ReadUp l old.receiving.read → Now
      to-stream l read is up = subst (λ x. ReadUp x new.receiving.read) (sym is) (subst (ReadUp l) (sym read) up)

      -- where what is held whole stays so
      held-done : (l k : Option InboundStream) (j : ℕ) → (IsHeldOn n sent j l → IsHeldOn n sent j k) → Done l old.receiving.read j
          → Done k old.receiving.read j
      held-done l k j f h = elim h [ inl x ↦ inl x | inr x ↦ inr (elim x [ inl y ↦ inl (f y) | inr y ↦ inr y ]) ]

      -- ## A FORWARD-TSN

      module _ (gone : List ℕ) (cut : AreCutGone gone sent) (g : ForwardTsn) (in' : Contains old.made (forward_tsn g)) (pass : IsPassing p gone old sent g)
          (may : (j : ℕ) → list_any (is_pair_of st) g.streams ≡ true → IsGoneAt st gone sent j → G j) (far : names_too_far g r ≡ false)
          (after : new.receiving.receiver ≡ after_forward_tsn g r) (read : new.receiving.read ≡ old.receiving.read) where
        abbrev t : ℕ
        t = g.new_cumulative_tsn

        abbrev a : ℕ
        a = i.step.numbered.acked

        abbrev to-place : ℕ
        to-place = length pass.passed

        short : to-place ≤ n
        short = let l = part-length sent pass.passed pass.part in let long = i.long in omega (arith, l, long)

        x : IsNaming st p a sent g
        x = every-contained (IsMadeNaming st p a sent) old.made (forward_tsn g) in' (i.names st o)

        same-there : x.place ≡ to-place
        same-there =
            let w = x.within in
            let long = i.long in
            let s = short in
            same-place p x.place to-place (omega (arith, w, long, few)) (omega (arith, s, few)) (sym x.is ∙ pass.is)

        missing : (j : ℕ) (cs : List ChunkPayloadData) → Fits j cs → misses (tsn p to-place) cs ≡ true
            → (z : ℕ) × (z ≤ to-place) × (E z ≡ true) × (B z ≡ j + 1) × (list_any (has_tsn (tsn p z)) cs ≡ false)
        missing j cs fits e = sessions.missed st first on dropped o n old ns sent i few to-place j cs short fits e

        abbrev final : ReassemblyState → Reassembly
        final z = held_after_incomplete_skip t (held_after_unordered_skip t z.held)

        abbrev changed : InboundStream → InboundStream
        changed l = incomplete_forwarded t (unassembled_forwarded t (stream_forwarded g.streams l))

        module _ (fresh : is_stale g r ≡ false) (l : InboundStream) (is : stream_of st r ≡ Some l) where
          due : IsDue p n B Fits Old d.k d.reach l.queue.held
          due = subst (DueOn n sent Old d.k d.reach) is d.due

          front : HasFront l.queue.held
          front = subst FrontOf is u.front

          names : ssns_of l.queue.si g.streams ≡ map (λ (y : ChunkForwardTsnStream). y.sequence) (filter (is_pair_of st) g.streams)
          names = named-by p st n B E M few grows a g to-place old.receiving d short pass.is l is

          -- it has no name of the stream
          unnamed-up : filter (is_pair_of st) g.streams ≡ [] → ((k : ℕ) → a < k → k ≤ to-place → E k ≡ false) → ReadUp (Some (changed l)) old.receiving.read
          unnamed-up none clear =
              let came = clear-came p st n B E M few grows a g to-place old.receiving d short pass.is clear in
              let s = short in
              let goes = gone-held p st n B E M few grows t to-place short pass.is Old missing due.index due.low d.reach l.queue.held.ordered due.sets
              (λ z upto at lo from. elim (due.kept z (omega (arith, upto, s)) (came z upto at)) [
                | inl h ↦ absurd (omega (arith, h, from))
                | inr h ↦ h
              ]) in
              let same : skipped_each (ssns_of l.queue.si g.streams) l.queue ≡ l.queue =
              ap (λ ssns. skipped_each ssns l.queue) (names ∙ ap (map (λ (y : ChunkForwardTsnStream). y.sequence)) none) in
              let k = subst (λ z. IsUncut p n B Fits Old d.k d.reach l.queue.held due front t (final z)) (sym same)
              (cut-front p n B Fits Old d.k d.reach l.queue.held due front t goes) in
              kept (Some (changed l)) old.receiving.read (k.0 ∙ ap next_of (sym is)) k.2 (λ j lt h.
              held-done (Some l) (Some (changed l)) j (λ e. subst (IsHeldIn Fits j) (sym k.1) e) (subst (λ y. Done y old.receiving.read j) is h))

          -- it names the last message that was begun up to its place
          named-up : (j : ℕ) → j + 1 ≡ B to-place → filter (is_pair_of st) g.streams ≡ record { identifier = st; sequence = j % 2 ^ 16 } ∷ []
              → ReadUp (Some (changed l)) old.receiving.read
          named-up j last only =
              let lt = ahead-is p st n B E M few grows a g to-place old.receiving d short pass.is fresh in
              let near = name-within p st n B E M few grows a g to-place old.receiving d short pass.is
              (sessions.near st first on dropped o n old ns sent i few) lt j last in
              let far' = close p st n B E M few grows a g to-place old.receiving d short pass.is far lt l is (j % 2 ^ 16) only in
              let top = grows to-place n short in
              let s = name-due p n B Fits Old (at-in p st n B E M few grows) d.k d.reach j (j % 2 ^ 16) (B n) l.queue.held due refl near.0 near.1 d.most
              (omega (arith, top, last)) far' in
              let q = held_after_ordered_skip (j % 2 ^ 16) l.queue.held in
              let passed = s.passed in
              let goes = gone-begun p st n B E M few grows t to-place short pass.is Old missing s.due.index s.due.low s.more q.ordered s.due.sets
              (omega (arith, last, passed)) in
              let uncut = cut-front p n B Fits Old d.k s.more q s.due (skipped-front (j % 2 ^ 16) l.queue.held front) t goes in
              let same : skipped_each (ssns_of l.queue.si g.streams) l.queue ≡ after_ordered_skip (j % 2 ^ 16) l.queue =
              ap (λ ssns. skipped_each ssns l.queue) (names ∙ ap (map (λ (y : ChunkForwardTsnStream). y.sequence)) only) in
              let k = subst (λ z. IsUncut p n B Fits Old d.k s.more q s.due (skipped-front (j % 2 ^ 16) l.queue.held front) t (final z)) (sym same) uncut in
              let next = skipped-next p n B Fits Old d.k d.reach l.queue.held due front j (j % 2 ^ 16) refl near.0
              (reads.name-near p n B Fits Old (at-in p st n B E M few grows) d.k d.reach j (j % 2 ^ 16) l.queue.held due refl near.0 near.1 far') in
              let index = index-is l due (ap next_of (sym is) ∙ u.number) in
              let up = next.2 in
              let within = u.within in
              let near' = u.near in
              record {
                next = next.0;
                number = k.0 ∙ next.1;
                front = k.2;
                within = elim next.3 [ inl e ↦ omega (arith, e, index, within) | inr e ↦ omega (arith, e, last, top) ];
                near = omega (arith, up, index, near');
                done = λ y less. elim (cases_lt y u.next) [
                  | inl before ↦ held-done (Some l) (Some (changed l)) y (stays y k.1) (subst (λ z. Done z old.receiving.read y) is (u.done y before))
                  | inr ge ↦
                      let most : y + 1 ≤ B to-place = grind (arith, nat_tests, common_steps) in
                      elim (whole-or-gone gone cut g pass d.k d.reach l.queue.held due y (omega (arith, index, ge)) most) [
                        | inl h ↦ inr (inl (stays y k.1 h))
                        | inr h ↦ inr (inr (may y named h))
                      ]
                ];
              }
            where
              named : list_any (is_pair_of st) g.streams ≡ true
              named = list_any-those (is_pair_of st) (is_pair_of st) g.streams (ap (list_any (is_pair_of st)) only ∙ or-left (st == st) false (same-yes st))

              stays : (y : ℕ) {ss : List ChunkSet} → ss ≡ (held_after_ordered_skip (j % 2 ^ 16) l.queue.held).ordered
                  → IsHeldIn Fits y l.queue.held.ordered → IsHeldIn Fits y ss
              stays y e h = subst (IsHeldIn Fits y) (sym e) (held-those Fits y (λ s. not (is_passed (j % 2 ^ 16) s)) whole-stays l.queue.held.ordered h)
                where
                  whole-stays : (s : ChunkSet) → is_complete s.chunks ≡ true → not (is_passed (j % 2 ^ 16) s) ≡ true
                  whole-stays s c = at-test (λ b. not (b && not (is_complete s.chunks)) ≡ true) (at_or_before16 s.ssn (j % 2 ^ 16))
                      (λ _. ap (λ b. not (not b)) c) (λ _. refl)

        pub passed-up : Now
        passed-up = by-test (is_stale g r)
            (λ e. still read (ap (stream_of st) (stale-same p st n B E M few grows g old.receiving new.receiving after e)))
            (λ e. by e (stream_of st r) refl (found-after p st n B E M few grows g old.receiving new.receiving after e))
          where
            by : is_stale g r ≡ false → (l : Option InboundStream) → stream_of st r ≡ l → stream_of st new.receiving.receiver ≡ option_map changed l → Now
            by e None is found = still read (found ∙ sym is)
            by e (Some l) is found = to-stream (Some (changed l)) read found (elim x.tells [
              | inl h ↦ unnamed-up e l is h.0 (λ k lt le. let s = same-there in h.2 k lt (omega (arith, le, s)))
              | inr h ↦ named-up e l is h.0 (let s = same-there in h.1 ∙ ap B s) h.2
            ])

      -- ## A message is read

      -- what was read stays so
      more-read : (stream : ℕ) (set : Option ChunkSet) (j : ℕ) → HasRead n sent j old.receiving.read
          → HasRead n sent j (with_message stream set old.receiving.read)
      more-read stream None j h = h
      more-read stream (Some s) j h = inr h

      read-up : (stream : ℕ) → new.receiving.receiver.streams ≡ change_where (has_number stream) stream_read r.streams
          → new.receiving.read ≡ with_message stream (message_on stream r) old.receiving.read → Now
      read-up stream streams read = subst (ReadUp (stream_of st new.receiving.receiver)) (sym read)
          (by-test (stream == st) (λ e. here e (stream_of st r) refl) (λ e.
          subst (λ l. ReadUp l (with_message stream (message_on stream r) old.receiving.read))
          (sym (ap (find (has_number st)) streams ∙ changed-elsewhere stream stream_read (λ l h. refl) r.streams st e))
          (kept (stream_of st r) (with_message stream (message_on stream r) old.receiving.read) refl u.front
          (λ j lt h. elim h [ inl x ↦ inl (more-read stream (message_on stream r) j x) | inr x ↦ inr x ]))))
        where
          here : (stream == st) ≡ true → (l : Option InboundStream) → stream_of st r ≡ l
              → ReadUp (stream_of st new.receiving.receiver) (with_message stream (message_on stream r) old.receiving.read)
          here on' l is = by l is
              (ap (find (has_number st)) streams ∙ changed-here stream stream_read (λ l h. refl) r.streams st on' ∙ ap (option_map stream_read) is)
              (ap (λ s. stream_of s r) (same-is stream st on') ∙ is)
            where
              by : (l : Option InboundStream) → stream_of st r ≡ l → stream_of st new.receiving.receiver ≡ option_map stream_read l → stream_of stream r ≡ l
                  → ReadUp (stream_of st new.receiving.receiver) (with_message stream (message_on stream r) old.receiving.read)
              by None is new' there =
                  subst (λ k. ReadUp k (with_message stream (message_on stream r) old.receiving.read)) (sym new')
                  (kept None (with_message stream (message_on stream r) old.receiving.read) (ap next_of (sym is)) tt (λ j lt h.
                  elim (subst (λ z. Done z old.receiving.read j) is h) [ inl x ↦ inl (more-read stream (message_on stream r) j x) | inr x ↦ inr x ]))
              by (Some l) is new' there =
                  let due = subst (DueOn n sent Old d.k d.reach) is d.due in
                  let front = subst FrontOf is u.front in
                  let index = index-is l due (ap next_of (sym is) ∙ u.number) in
                  let one = read-next p n B Fits Old d.k d.reach l.queue.held due front in
                  let set = message_read l.queue.held in
                  let before' : (j : ℕ) → j < u.next → Done (Some (stream_read l)) (with_message stream set old.receiving.read) j = λ j lt.
                  elim (subst (λ z. Done z old.receiving.read j) is (u.done j lt)) [
                    | inl x ↦ inl (more-read stream set j x)
                    | inr x ↦ elim x [
                      | inr y ↦ inr (inr y)
                      | inl y ↦ elim (one.held j y) [
                        | inl z ↦ inr (inl z)
                        | inr z ↦ inl (now j z.0 set z.1 z.2)
                      ]
                    ]
                  ] in
                  subst (λ k. ReadUp k (with_message stream (message_on stream r) old.receiving.read)) (sym new')
                  (subst (λ k. ReadUp (Some (stream_read l)) (with_message stream (message_of k) old.receiving.read)) (sym there) (elim one.next [
                    | inl k ↦ record {
                      next = u.next;
                      number = k ∙ ap next_of (sym is) ∙ u.number;
                      front = one.front;
                      within = u.within;
                      near = u.near;
                      done = before';
                    }
                    | inr k ↦ record {
                      next = u.next + 1;
                      number = k.4 ∙ ap (λ j. (j + 1) % 2 ^ 16) index;
                      front = one.front;
                      within = let lt = k.3 in let most = d.most in omega (arith, lt, most, index);
                      near = let near = u.near in omega (arith, near);
                      done = λ j lt. elim (cases_lt j u.next) [
                        | inl less ↦ before' j less
                        | inr ge ↦
                            let same : due.index ≡ j = omega (arith, index, lt, ge) in
                            inl (now j k.0 set k.1 (subst (λ j. Fits j k.0.chunks) same k.2))
                      ];
                    }
                  ]))
                where
                  now : (j : ℕ) (s : ChunkSet) (set : Option ChunkSet) → set ≡ Some s → Fits j s.chunks
                      → HasRead n sent j (with_message stream set old.receiving.read)
                  now j s set e fits = subst (λ z. HasRead n sent j (with_message stream z old.receiving.read)) (sym e) (inl (same-is stream st on', fits))

      -- ## Each call

      -- what FORWARD-TSNs that were made pass
      module _ (gone : List ℕ) (cut : AreCutGone gone sent) (passing : (g : ForwardTsn) → Contains old.made (forward_tsn g) → IsPassing p gone old sent g)
          (may : (g : ForwardTsn) → Contains old.made (forward_tsn g) → (j : ℕ) → list_any (is_pair_of st) g.streams ≡ true → IsGoneAt st gone sent j → G j)
        where
          pub receiver-up : (call : ReceiverCall) → ReceiverFollows call old new → Now
          receiver-up (incoming.opens stream) f =
              let found = ap (stream_of st) f.step.receiver.1 ∙ find-append (has_number st) r.streams (new_stream stream r.max_message_size ∷ []) in
              to-stream (option_or (stream_of st r) (if stream == st then Some (new_stream stream r.max_message_size) else None)) f.step.read found
              (opened (stream_of st r) (stream == st) u)
            where
              opened : (l : Option InboundStream) (b : Bool) → ReadUp l old.receiving.read
                  → ReadUp (option_or l (if b then Some (new_stream stream r.max_message_size) else None)) old.receiving.read
              opened h0 h1 h2 = grind (arith, nat_tests, common_steps)
          receiver-up (incoming.takes c (New answered)) f =
              let acc = f.step.receiver in
              subst (ReadUp (stream_of st new.receiving.receiver)) (sym f.step.read)
              (accepted-on c answered r new.receiving.receiver acc st (λ l. ReadUp l old.receiving.read) (λ off. u) (λ on' there.
              let due = subst (DueOn n sent Old d.k d.reach) there d.due in
              let index = index-is acc.stream due (ap next_of (sym there) ∙ u.number) in
              let k = pushed-front p n B Fits Old d.k d.reach acc.stream.queue.held due (subst FrontOf there u.front) one-index c answered acc.stream.queue
              acc.queue refl acc.pushed in
              kept (Some (with_queue acc.queue acc.stream)) old.receiving.read (k.0 ∙ ap next_of (sym there)) k.1 (λ j lt h.
              held-done (Some acc.stream) (Some (with_queue acc.queue acc.stream)) j (k.2 j (omega (arith, lt, index)))
              (subst (λ z. Done z old.receiving.read j) there h))))
          receiver-up (incoming.follows g) f =
              passed-up gone cut g f.handed (passing g f.handed) (may g f.handed)
              (sessions.refused st first on dropped o n old ns sent i few g r f.accepted).0 f.step.receiver f.step.read
          receiver-up (incoming.reads stream) f = read-up stream (ap (λ (q : Reception). q.streams) f.step.receiver) f.step.read
          receiver-up call f = still f.step.read (ap (stream_of st) f.step.receiver)

          pub other-up : (opened : Bool) → are_apart (numbers_of r.streams) ≡ true → (call : ReceiverOther) → ReceiverDoes call old new
              → breaks opened st (of_receiving call) ≡ false → Now
          other-up opened apart (discards c) f off = grind (arith, still)
          other-up opened apart (closes_incoming stream) f off =
              still f.step.read (ap (stream_of st) f.step.receiver ∙ others-left stream st off r.streams apart)
          other-up opened apart (resets_incoming stream last) f off =
              still f.step.read (ap (stream_of st) f.step.receiver ∙ changed-elsewhere stream (stream_reset last) (λ l h. refl) r.streams st off)
          other-up opened apart (passes_over g) f off =
              passed-up gone cut g f.handed (passing g f.handed) (may g f.handed) (near-names g r (names_too_far g r) f.accepted) f.step.receiver f.step.read
