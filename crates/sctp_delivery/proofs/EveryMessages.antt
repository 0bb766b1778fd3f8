-- Sessions of every call: each message of which no fragment but the first begins one is a write, and no write is read twice.
use Rattle.sctp_delivery.proofs.Names.{common_steps, nat_tests, ◌≡◌, ℕ, zero, suc, ◌+◌, ◌<◌, ◌^◌, Bool, true, false, not, List, [], ◌∷◌, ◌++◌, length, Option}
use Rattle.sctp_delivery.proofs.Names.{refl, ap, sym, subst, ◌∙◌, arith, All, Contains, slice_index_or, filter, list_all, list_any, and, both, ◌≤◌, None}
use Rattle.sctp_delivery.proofs.Names.{Released, SenderCall, SenderFollows, distance, fails, ◌==◌, not_both, list_any-append, ChunkPayloadData, Message, is_on}
use Rattle.sctp_delivery.proofs.Names.{data_of, data_chunk, StandAt, AreMade, AreMessages, Session, Write, Limits, Transmission, Modes, Stand, Data, Pending}
use Rattle.sctp_delivery.proofs.Names.{Unknown, nat_eq, or-split, ◌-◌, if◌then◌else◌, inl, inr, is_all_acknowledged, reads_nothing, at_first, modes_from}
use Rattle.sctp_delivery.proofs.Names.{AllPairs, Some, some-same, same-yes, ◌&&◌, ◌⊎◌, Sack, bytes_written}
use Rattle.std.proofs.Common.{◌≢◌}
use Rattle.sctp_sender.specs.declared.sender.Reported.{Reported}
use Rattle.sctp_sender.specs.declared.sender.flight.kept.TakenBack.{TakenBack}
use Rattle.sctp_sender.specs.Keeping.{bytes_back}
use Rattle.sctp_sender.specs.Sender.{take_back_refusal}
use Rattle.sctp_sender.specs.Totals.{bytes_in}
use Rattle.sctp_delivery.specs.EveryCall.{AnyCall, AreSingleWhereSteady, AreSingleWritesOfTheirOwn, AreWritesWhereSingle, RunsAny, SenderDoes, takes_back}
use Rattle.sctp_delivery.specs.EveryCall.{is_single, is_steady, single_messages, tsns_given_any, was_dropped}
use Rattle.sctp_receiver.specs.ReceiverRuns.{AreComplete, AreOfOneMessage}
use Rattle.sctp_delivery.specs.EveryEnd.{IsLeftOn, IsOrderedReadInTheEnd, IsReadOn, IsSentReadInTheEnd, IsUnorderedReadInTheEnd, IsUnorderedReadOrHeld}
use Rattle.sctp_delivery.specs.EveryEnd.{IsUnorderedSentReadInTheEnd, abandoned_any, dropped_any, is_unnamed}
use Rattle.sctp_delivery.specs.EveryOrder.{AreSingleReadAsWritten, AreSingleReadInOrder, is_unbroken, plain_calls}
use Rattle.sctp_delivery.specs.Messages.{AreParts, AreSame}
use Rattle.sctp_delivery.specs.Returns.{NoneIsRefusedSo, after_return, at_start_with}
use Rattle.sctp_delivery.specs.SenderCalls.{TakesBackAndSack, takes_sack}
use Rattle.sctp_delivery.proofs.AbandonedMessages.{cut-later, gone-left}
use Rattle.sctp_delivery.proofs.Begun.{AreOnce, was_begun}
use Rattle.sctp_delivery.proofs.Calls.{at-forgotten, contains-forgotten, forget, forgotten, length-forgotten}
use Rattle.sctp_delivery.proofs.Cases.{at-if}
use Rattle.sctp_delivery.proofs.Delivered.{HoldsOn, next_tsn, sender-step-on, IsReadOf, found-sent-on}
use Rattle.sctp_delivery.specs.Complete.{is_exhausted}
use Rattle.sctp_delivery.specs.Modes.{unknown}
use Rattle.sctp_delivery.proofs.EveryEnds.{all-done, was-read}
use Rattle.sctp_delivery.proofs.EveryHeld.{even}
use Rattle.sctp_delivery.proofs.EveryKept.{elsewhere, elsewhere-of, ended-read, whole-on}
use Rattle.sctp_delivery.proofs.EverySettled as every_settled
use Rattle.sctp_delivery.proofs.EveryRuns as runs
use Rattle.sctp_delivery.proofs.EveryShadows.{every, HasBesideSo, IsPlayedSo, MayPass, has-beside-so, played-accounted}
use Rattle.sctp_delivery.proofs.Every.{Every, every-contained}
use Rattle.sctp_delivery.proofs.OnceWritten.{EachRead, apart, places, stand}
use Rattle.sctp_delivery.proofs.InTheEnd.{none-selected}
use Rattle.sctp_delivery.proofs.KeptSessions.{IsIdle, begun-part, idle-of, same-write, slice-itself}
use Rattle.sctp_delivery.proofs.MessagePlaces.{IsEntryAt, is_of_stream, same-message}
use Rattle.sctp_delivery.proofs.ModeSessions.{kind-at}
use Rattle.sctp_delivery.proofs.Numbers.{number_of}
use Rattle.sctp_delivery.proofs.AllBegun.{begins_in}
use Rattle.sctp_delivery.proofs.OrderedEntries.{IsOpen}
use Rattle.sctp_delivery.proofs.OrderedPlaces.{place-at}
use Rattle.sctp_delivery.proofs.PassedMessages.{EndsMessage}
use Rattle.sctp_delivery.proofs.PlainHolds.{held-like}
use Rattle.sctp_delivery.proofs.PlainReturns.{back-fits, back-more}
use Rattle.sctp_delivery.proofs.Plain.{are-long}
use Rattle.sctp_delivery.proofs.PlainSessions.{as_plain, small-next}
use Rattle.sctp_delivery.proofs.OneRead.{no-way}
use Rattle.sctp_delivery.proofs.Stands.{one-given}
use Rattle.sctp_delivery.proofs.Senders.{AreSentOn}
use Rattle.sctp_delivery.proofs.Sent.{Entry, IsPart, Numbered, contains-more, fragment, part-line, same-tsn}
use Rattle.sctp_delivery.proofs.Sessions as sessions
use Rattle.sctp_delivery.proofs.YoungReads.{IsReadFrom}
use Rattle.sctp_delivery.proofs.EveryRead.{each-single, from-made, none-begin, some-apart}
use Rattle.sctp_delivery.proofs.EveryFewYoung.{few-young}
use Rattle.sctp_delivery.proofs.EveryYoung as young
use Rattle.sctp_delivery.proofs.EveryYoungOrder as young_order
use Rattle.sctp_delivery.specs.EveryRecent.{ArePassedYoung, AreRecentAny, AreYoungAny}
pub use Rattle.sctp_delivery.proofs.EveryRead.{steady-there, told-apart}

-- ## Each session

module _ (reported : Reported) (first size max most : ℕ) (limits : Option Limits) (cs : List AnyCall) (s : Session)
    (r : RunsAny (at_start_with reported first size max most limits) cs s) (small : first < 2 ^ 32) (some : 0 < size)
    (few : tsns_given_any (at_start_with reported first size max most limits) cs s r < 2 ^ 31) (short : bytes_written s < 2 ^ 64) where
  abbrev n : ℕ
  n = tsns_given_any (at_start_with reported first size max most limits) cs s r

  -- the modes that the calls say
  abbrev modes : Modes
  modes = modes_from at_first (plain_calls cs)

  -- what was abandoned
  abbrev pub gone : List ℕ
  gone = abandoned_any (at_start_with reported first size max most limits) cs s r

  -- of what chunks were dropped
  abbrev pub others : List ℕ
  others = dropped_any (at_start_with reported first size max most limits) cs s r

  beside : HasBesideSo (is_steady cs) (was_dropped cs) (is_unbroken cs) (Some others) (steady-there false cs) first s n gone modes
  beside = grind (arith, nat_tests, common_steps, has-beside-so, not, some-same)

  i : IsPlayedSo (is_steady cs) (was_dropped cs) (is_unbroken cs) (Some others) (steady-there false cs) first beside.other n gone modes
  i = beside.plays few

  on-each : sessions.AreOn s
  on-each = sessions.read-on-so first most limits (runs.receiver_calls cs) s (runs.receiver-runs cs (at_start_with reported first size max most limits) s r)

  made : AreSentOn (is_steady cs) i.sent s.made
  made = subst (AreSentOn (is_steady cs) i.sent) beside.shadow.made i.spread.holds.made

  writes : forgotten i.numbered ≡ s.written
  writes = i.spread.holds.writes ∙ beside.shadow.written

  read-from : Every (IsReadFrom i.sent) s.receiving.read
  read-from =
      from-made (is_steady cs) i.sent s (let a = i.spread.long in omega (arith, a, few)) made (runs.made reported first size max most limits cs s r)

  -- what is asked of a session of a whole life is so of it
  y : AreRecentAny (at_start_with reported first size max most limits) cs s r
      × AreYoungAny [] (at_start_with reported first size max most limits) cs s r
      × ArePassedYoung [] (at_start_with reported first size max most limits) cs s r
  y = few-young reported first size max most limits cs s r small some few short

  pub are-writes : AreWritesWhereSingle s
  are-writes = young.written reported first size max most limits cs s r small some y.0 y.1 short

  pub are-single : AreSingleWhereSteady cs s
  are-single = young.single reported first size max most limits cs s r small some y.0 y.1 short

  pub in-order : AreSingleReadInOrder cs s
  in-order = young_order.in-order reported first size max most limits cs s r small some y.0 y.1 y.2 short

  pub as-written : AreSingleReadAsWritten cs s
  as-written = young_order.as-written reported first size max most limits cs s r small some y.0 y.1 y.2 short

  -- ## Places

  abbrev once : AreOnce i.sent
  once = i.spread.holds.held.stands.begun'.once

  abbrev singles-read : List Message
  singles-read = single_messages s.receiving.read

  each-is : EachRead i.numbered i.sent once singles-read
  each-is = each-single (is_steady cs) first s i.numbered i.sent i.spread.holds.held.stands.queued.line
      i.spread.holds.held.stands.queued.indexed once writes on-each
      (runs.messages reported first size max most limits cs s r) read-from

  abbrev own-places : List ℕ
  own-places = places i.numbered i.sent once singles-read each-is

  own-stand : StandAt s.written singles-read own-places
  own-stand = subst (λ ws. StandAt ws singles-read own-places) writes (stand i.numbered i.sent once singles-read each-is)

  own-apart : AllPairs (λ p q. p ≢ q) own-places
  own-apart = search (apart, i, each-is, some-apart, runs.none-read-twice)

  pub of-their-own : AreSingleWritesOfTheirOwn s
  of-their-own = (own-places, own-stand, own-apart)

  -- ## Chunks

  -- a DATA chunk that was made is a part of a write, and the only one with its TSN
  pub parts : AreParts s
  parts d c =
      let x = found-sent-on (is_steady cs) i.sent s.made d made c in
      let f = (part-line i.numbered first i.sent (fragment d x.0 x.1 ∷ x.2) x.3 i.spread.holds.held.stands.queued.line).0 in (
        forget x.0,
        subst (λ ws. Contains ws (forget x.0)) writes (contains-forgotten i.numbered x.0 f.written),
        record { stream = f.stream; payload_type = f.payload; bytes = (f.part.0, x.1, f.part.1) },
      )

  pub same : AreSame s
  same d e c k is =
      same-tsn i.numbered first i.sent (let a = i.spread.long in omega (arith, a, few)) i.spread.holds.held.stands.queued.line d e
      (found-sent-on (is_steady cs) i.sent s.made d made c) (found-sent-on (is_steady cs) i.sent s.made e made k) is

  -- ## In the end

  -- nothing waits, is in flight, or is to be read
  module _ (exhausted : is_exhausted s.sending.sender s.receiving.receiver ≡ true) (st : ℕ) (c : is_unbroken cs st ≡ true) where
    abbrev q : Session
    q = beside.other

    steady : is_steady cs st ≡ true
    steady = steady-there false cs st c

    idle : IsIdle s
    idle = idle-of s (both (is_all_acknowledged s.sending.sender) (reads_nothing s.receiving.receiver) exhausted).0

    bare : (o : Transmission → List ChunkPayloadData) → o q.sending.sender ≡ o (as_plain s.sending.sender beside.shadow.streams beside.shadow.chunks)
    bare o = ap o beside.shadow.sender

    none-left : (ds : List ChunkPayloadData) → length ds ≡ 0 → ds ≡ []
    none-left [] e = refl
    none-left (d ∷ ds) e = absurd (omega (arith, e))

    landed : q.sending.sender.flight.queue.inflight.chunks ≡ []
    landed = grind (arith, nat_tests, common_steps, none-left, are-long, idle)

    unbegun : q.sending.sender.flight.queue.pending.selected ≡ None
    unbegun = none-selected (is_steady cs) i.numbered first (λ r. number_of r q.sending.sender.streams) q.sending.sender.flight.queue.pending i.sent
        i.spread.holds.held.stands.queued (bare (λ u. u.flight.queue.pending.ordered) ∙ idle.ordered)
        (bare (λ u. u.flight.queue.pending.unordered) ∙ idle.unordered)

    unread : reads_nothing q.receiving.receiver ≡ true
    unread = ap (λ (y : Stand). reads_nothing y.receiver) beside.shadow.receiving
        ∙ (both (is_all_acknowledged s.sending.sender) (reads_nothing s.receiving.receiver) exhausted).1

    -- what was made and read there is what was made and read here
    made-there : AreMade q
    made-there =
        subst (λ ms. All (λ m. All (λ k. Contains ms (data_chunk (data_of k))) m.fragments) q.receiving.read) (sym beside.shadow.made)
        (subst (λ (y : Stand). All (λ m. All (λ k. Contains s.made (data_chunk (data_of k))) m.fragments) y.read) (sym beside.shadow.receiving)
        (runs.made reported first size max most limits cs s r))

    whole-there : AreMessages q
    whole-there =
        subst (λ y. AreComplete y × AreOfOneMessage y) (sym beside.shadow.receiving) (runs.messages reported first size max most limits cs s r)

    -- ## Ordered ones

    -- a message that has an ordered fragment of the stream has no other fragments
    none-elsewhere : (d : Data) (w : Numbered) (after : List ℕ) (xs : List Entry) → IsPart (fragment d w after ∷ xs) i.sent → is_of_stream st d ≡ true
        → list_any (nat_eq w.place) (elsewhere st i.sent) ≡ true → ⊥
    none-elsewhere d w after xs part on' e =
        let r = elsewhere-of st w.place i.sent e in
        let line = i.spread.holds.held.stands.queued.line in
        let a = (part-line i.numbered first i.sent (fragment d w after ∷ xs) part line).0 in
        let b = (part-line i.numbered first i.sent (fragment r.0 r.1 r.2 ∷ r.3) r.4 line).0 in
        let x = place-at i.numbered a.written.0 w i.spread.holds.placed a.written.1 a.written.2 in
        let y = place-at i.numbered b.written.0 r.1 i.spread.holds.placed b.written.1 b.written.2 in
        let at = r.6 in
        let index : b.written.0 ≡ a.written.0 = omega (arith, x, y, at) in
        let same : r.1 ≡ w = sym b.written.2 ∙ ap (λ k. slice_index_or i.numbered k r.1) index ∙ slice-itself i.numbered a.written.0 r.1 w a.written.1
        ∙ a.written.2 in
        let stream : r.0.stream_identifier ≡ d.stream_identifier = b.stream ∙ ap (λ (v : Numbered). v.stream) same ∙ sym a.stream in
        let kind : r.0.unordered ≡ d.unordered =
        sym (kind-at modes q i.numbered i.sent i.said i.spread.holds.placed r.0 r.1 r.2 r.3 b.written r.4 unknown)
        ∙ ap (λ k. (slice_index_or modes.of_writes k unknown).mode.unordered) index
        ∙ kind-at modes q i.numbered i.sent i.said i.spread.holds.placed d w after xs a.written part unknown in
        not_both (sym r.5 ∙ ap (λ k. (k == st) && not r.0.unordered) stream ∙ ap (λ k. (d.stream_identifier == st) && not k) kind ∙ on')

    -- each fragment of one was read, where no FORWARD-TSN names the stream, or the message is not gone
    read-part : (d : Data) (w : Numbered) (after : List ℕ) (xs : List Entry) → IsPart (fragment d w after ∷ xs) i.sent → d.stream_identifier ≡ st
        → d.unordered ≡ false → (is_unnamed st s.made ≡ true) ⊎ (list_any (nat_eq w.place) gone ≡ false) → IsReadOn st d s.receiving.read
    read-part d w after xs part on' kind spared =
        let x = beside.shadow in
        let others' = elsewhere st i.sent in
        let of-stream : is_of_stream st d ≡ true = and (d.stream_identifier == st) (not d.unordered) (ap (λ k. k == st) on' ∙ same-yes st) (ap not kind) in
        let it : IsEntryAt i.sent (suc (length xs)) d w = record { after = after; entries = xs; part = part; place = refl } in
        subst (λ (y : Stand). IsReadOn st d y.read) x.receiving
        (was-read st first (is_steady cs) (was_dropped cs) steady n q i.numbered i.sent i.spread few whole-there made-there d w after xs part on' kind
        (λ j lt is. elim (all-done st first (is_steady cs) (was_dropped cs) steady n q i.numbered i.sent i.spread few (i.answered st c).0
        (MayPass st (gone ++ others') q.made i.sent) (i.up st c) landed unbegun unread j lt) [
          | inl h ↦ h
          | inr h ↦ absurd (elim spared [
            | inl e ↦ not_both (sym h.0 ∙ ap (is_unnamed st) x.made ∙ e)
            | inr e ↦
                let g = h.1 in
                let same = same-message i.numbered first i.sent i.spread.holds.held.stands.queued.line i.spread.holds.held.stands.queued.joined st g.0
                (suc (length xs)) g.1 d g.2 w g.3 it g.4 of-stream (g.5 ∙ sym is) in
                let dead = ap (λ (v : Numbered). list_any (nat_eq v.place) (gone ++ others')) (sym same) ∙ g.6 in
                elim (or-split (list_any (nat_eq w.place) gone) (list_any (nat_eq w.place) others')
                (sym (list_any-append (nat_eq w.place) gone others') ∙ dead)) [
                  | inl k ↦ not_both (sym e ∙ k)
                  | inr k ↦ none-elsewhere d w after xs part of-stream k
                ]
          ])
        ]))

    -- ## Unordered ones, of messages that are not lost

    read-unordered : (d : Data) (w : Numbered) (after : List ℕ) (xs : List Entry) → IsPart (fragment d w after ∷ xs) i.sent → d.stream_identifier ≡ st
        → d.unordered ≡ true → list_any (nat_eq w.place) (gone ++ others) ≡ false → IsReadOn st d s.receiving.read
    read-unordered d w after xs part on' kind alive =
        let x = beside.shadow in
        let all = i.taken in
        subst (λ (y : Stand). IsReadOn st d y.read) x.receiving
        (ended-read (is_steady cs) (was_dropped cs) st first n few q i.numbered i.sent i.spread (gone ++ others) (i.answered st c)
        (i.told (Some others) refl st c) (cut-later gone (gone ++ others) (gone-left gone others) i.sent i.cut) i.taken
        (whole-on (is_steady cs) first q i.numbered i.sent st steady (let a = i.spread.long in omega (arith, a, few))
        i.spread.holds.held.stands.queued.line i.spread.holds.held.stands.queued.indexed i.spread.holds.made whole-there made-there
        (ap (λ (y : Stand). list_all (λ m. list_all (is_on m.stream) m.fragments) y.read) x.receiving ∙ on-each))
        landed (λ lt. ends i.sent (subst (IsOpen i.sent) unbegun i.spread.holds.held.stands.queued.open') i.spread.long lt) unread d w after xs part on' kind
        alive)
      where
        ends : (xs : List Entry) → IsOpen xs None → length xs ≡ n → 0 < n → EndsMessage xs
        ends h0 h1 h2 h3 = grind (arith, nat_tests, common_steps)

    -- ## Each write

    -- where its first fragment was read
    module _ (unordered : Bool) (gone' : List ℕ) (among : (m : ℕ) → list_any (nat_eq m) gone ≡ true → list_any (nat_eq m) gone' ≡ true)
        (reads : (d : Data) (w : Numbered) (after : List ℕ) (xs : List Entry) → IsPart (fragment d w after ∷ xs) i.sent → d.stream_identifier ≡ st
        → d.unordered ≡ unordered → list_any (nat_eq w.place) gone' ≡ false → IsReadOn st d s.receiving.read)
        (k : ℕ) (left : IsLeftOn unordered st gone' cs s k) where
      total : length s.written ≡ length i.numbered
      total = sym (ap length writes) ∙ length-forgotten i.numbered

      lt : k < length i.numbered
      lt = let l = left.inside in omega (arith, l, total)

      abbrev none_written : Numbered
      none_written = record { stream = 0; payload_type = Unknown; bytes = []; place = 0 }

      abbrev w : Numbered
      w = slice_index_or i.numbered k none_written

      at : w.place + k + 1 ≡ length i.numbered
      at = place-at i.numbered k w i.spread.holds.placed lt (slice-itself i.numbered k w none_written lt)

      alive : list_any (nat_eq w.place) gone' ≡ false
      alive = let is : w.place ≡ length s.written - (k + 1) = omega (arith, at, total) in ap (λ m. list_any (nat_eq m) gone') is ∙ left.left

      begun : was_begun w.place i.sent ≡ true
      begun =
          let off = fails (list_any (nat_eq w.place) gone) (λ e. not_both (sym alive ∙ among w.place e)) in
          elim (or-split (was_begun w.place i.sent) (begins_in w.place p) (i.begun w.place (omega (arith, at)) off)) [
            | inl e ↦ e
            | inr e ↦ grind (arith, nat_tests, common_steps, or-split, not_both, idle)
          ]
        where
          p : Pending
          p = q.sending.sender.flight.queue.pending

      -- its first fragment
      abbrev first_part : (d : Data) × (v : Numbered) × (after : List ℕ) × (xs : List Entry) × IsPart (fragment d v after ∷ xs) i.sent
          × (d.beginning_fragment ≡ true) × (v.place ≡ w.place)
      first_part = begun-part w.place i.sent begun

      abbrev v : Numbered
      v = first_part.1

      written_at : Contains i.numbered v
      written_at = (part-line i.numbered first i.sent (fragment first_part.0 v first_part.2 ∷ first_part.3) first_part.4
          i.spread.holds.held.stands.queued.line).0.written

      same-place' : (u : Numbered) (h : Contains i.numbered u) → u.place ≡ w.place → h.0 ≡ k
      same-place' u h e = let a = place-at i.numbered h.0 u i.spread.holds.placed h.1 h.2 in omega (arith, a, e, at)

      on-stream : first_part.0.stream_identifier ≡ st
      on-stream =
          let l = part-line i.numbered first i.sent (fragment first_part.0 v first_part.2 ∷ first_part.3) first_part.4 i.spread.holds.held.stands.queued.line in
          let is : slice_index_or s.written written_at.0 (forget v) ≡ forget v =
          ap (λ ws. slice_index_or ws written_at.0 (forget v)) (sym writes) ∙ at-forgotten i.numbered written_at.0 v (forget v) written_at.1 written_at.2 in
          l.0.stream ∙ sym (ap (λ (y : Write). y.stream) is) ∙ ap (λ j. (slice_index_or s.written j (forget v)).stream) (same-place' v written_at first_part.6)
          ∙ left.on (forget v)

      of-kind : first_part.0.unordered ≡ unordered
      of-kind =
          sym (kind-at modes q i.numbered i.sent i.said i.spread.holds.placed first_part.0 v first_part.2 first_part.3 written_at first_part.4 unknown)
          ∙ ap (λ j. (slice_index_or modes.of_writes j unknown).mode.unordered) (same-place' v written_at first_part.6) ∙ left.kind

      placed : Contains own-places k
      placed =
          let m = reads first_part.0 v first_part.2 first_part.3 first_part.4 on-stream of-kind
          (ap (λ j. list_any (nat_eq j) gone') first_part.6 ∙ alive) in
          let alone : is_single m.0.fragments ≡ true =
          subst (λ (x : Message). is_steady cs x.stream ≡ true → is_single x.fragments ≡ true) m.1.2 (are-single m.1.0 m.0 m.1.1)
          (ap (is_steady cs) m.2 ∙ steady) in
          let x = place-of singles-read each-is m.0 (contains-those (λ y. is_single y.fragments) s.receiving.read m.0 alone m.1) in
          let head : data_of x.0.chunk ≡ first_part.0 = grind (arith, nat_tests, common_steps, head-is, none-begin) in
          let same = same-write i.numbered first i.sent (let a = i.spread.long in omega (arith, a, few)) i.spread.holds.held.stands.queued.line
          (data_of x.0.chunk) first_part.0 x.0.numbered v x.0.after first_part.2 x.0.entries first_part.3 x.0.part first_part.4
          (ap (λ (y : Data). y.tsn) head) in
          subst (Contains own-places) (same-place' x.0.numbered x.0.written (ap (λ (y : Numbered). y.place) same ∙ first_part.6)) x.1
        where
          -- one that begins is the first
          head-is : (c : ChunkPayloadData) (ds : List ChunkPayloadData) → Every (λ (d : ChunkPayloadData). d.beginning_fragment ≡ false) ds
              → (d : ChunkPayloadData) → Contains (c ∷ ds) d → d.beginning_fragment ≡ true → c ≡ d
          head-is h0 h1 h2 h3 h4 h5 = grind (arith, nat_tests, common_steps, not_both, every-contained, lt)

          place-of : (ms : List Message) (e : EachRead i.numbered i.sent once ms) (m : Message) → Contains ms m
              → (x : IsReadOf i.numbered i.sent m) × Contains (places i.numbered i.sent once ms e) x.written.0
          place-of [] e m h = absurd (let lt = h.1 in omega (arith, lt))
          place-of (y ∷ ys) e m (zero, lt, is) = subst
              (λ (z : Message). (x : IsReadOf i.numbered i.sent z) × Contains (places i.numbered i.sent once (y ∷ ys) e) x.written.0) is
              (e.0, (0, omega arith, refl))
          place-of (y ∷ ys) e m (suc j, lt, is) =
              let x = place-of ys e.1 m (j, omega (arith, lt), is) in
              (x.0, contains-more e.0.written.0 (places i.numbered i.sent once ys e.1) x.0.written.0 x.1)

          contains-those : (p : Message → Bool) (ms : List Message) (m : Message) → p m ≡ true → Contains ms m → Contains (filter p ms) m
          contains-those p [] m e h = absurd (let lt = h.1 in omega (arith, lt))
          contains-those p (y ∷ ys) m e (zero, lt, is) =
              subst (λ b. Contains (if b then y ∷ filter p ys else filter p ys) m) (sym (ap p is ∙ e)) (0, omega arith, is)
          contains-those p (y ∷ ys) m e (suc j, lt, is) =
              let x = contains-those p ys m e (j, omega (arith, lt), is) in
              at-if (λ z. Contains z m) (p y) (λ _. contains-more y (filter p ys) m x) (λ _. x)

  -- what was made of such a stream was read
  pub sent-read : IsSentReadInTheEnd cs s
  sent-read exhausted st c unnamed d in' on' kind =
      let w = found-sent-on (is_steady cs) i.sent s.made d made in' in
      read-part exhausted st c d w.0 w.1 w.2 w.3 on' kind (inl unnamed)

  -- and what was written on it, whatever FORWARD-TSNs name
  pub ordered-read : IsOrderedReadInTheEnd gone cs s
  ordered-read exhausted = (
    own-places,
    own-stand,
    own-apart,
    λ st c k left.
        placed exhausted st c false gone (λ m e. e) (λ d w after xs part on' kind off. read-part exhausted st c d w after xs part on' kind (inr off)) k left,
  )

  pub unordered-written-read : IsUnorderedReadInTheEnd (gone ++ others) cs s
  unordered-written-read exhausted = (
    own-places,
    own-stand,
    own-apart,
    λ st c k left. placed exhausted st c true (gone ++ others) (gone-left gone others) (read-unordered exhausted st c) k left,
  )

  -- and so was what was made of it unordered, where no message was lost
  pub unordered-sent-read : IsUnorderedSentReadInTheEnd (gone ++ others) cs s
  unordered-sent-read none exhausted st c d in' on' kind =
      let w = found-sent-on (is_steady cs) i.sent s.made d made in' in
      read-unordered exhausted st c d w.0 w.1 w.2 w.3 on' kind (ap (list_any (nat_eq w.0.place)) none)

  -- what was made of it unordered was read, or is held, if it was neither dropped nor passed
  pub unordered-read : IsUnorderedReadOrHeld cs s
  unordered-read acknowledged st c d in' on' kind undropped unpassed =
      every_settled.read first n few (is_steady cs) (was_dropped cs) s i.numbered i.sent i.spread.long i.spread.holds.held.stands.queued.line made
      (runs.in-step reported first size max most limits cs s r small few) (runs.all-made reported first size max most limits cs s r)
      (runs.made reported first size max most limits cs s r) st (even reported first size max most limits cs s r st c) acknowledged d in' on' kind undropped
      unpassed

  -- what comes back is not refused
  pub none-refused-back : NoneIsRefusedSo s
  none-refused-back = grind (arith, runs.none-refused, lt, back-fits, played-accounted, i)

  -- the sender holds what got TSNs, too; so a call of it gives out one at most
  holds : HoldsOn (is_steady cs) first s i.numbered i.sent
  holds = grind (arith, held-like, i, writes)

  pub given-once : (call : SenderCall) (t : Session) → SenderFollows call s t → distance (next_tsn s) (next_tsn t) ≤ 1
  given-once call t f =
      let h = holds in
      let x = sender-step-on (is_steady cs) first call s t i.numbered i.sent f h in
      one-given first i.sent x.more (next_tsn s) (next_tsn t) h.held.stands.counted x.holds.held.stands.counted x.once

  -- no way from the TSN that is next to itself
  pub same-way : distance (next_tsn s) (next_tsn s) ≡ 0
  same-way =
      no-way (next_tsn s) (small-next first (every (is_steady cs) (was_dropped cs) (is_unbroken cs) (Some others) (steady-there false cs) first)
      s.sending.sender s n gone
      modes few beside)

  -- what `acked` makes of the sender is two calls
  pub two-calls : (sack : Sack) (back : List TakenBack) (gone : List Released) (new : Transmission) → Contains s.sacks sack
      → TakesBackAndSack sack back gone s.sending.sender new
      → SenderDoes (takes_back sack back) s (after_return sack back s)
      × (t : Session) × SenderFollows (takes_sack sack gone) (after_return sack back s) t × (t.sending.sender ≡ new)
  two-calls sack back gone new handed x =
      let h = beside.shadow in
      let t = s.sending.sender in
      let more = back-more sack t h.chunks h.like in
      let same = ap bytes_back x.returned in
      let all = x.bytes in
      let refused = none-refused-back in (
        record {
          handed = handed;
          step = record { sender = omega (arith, more, same); written = omega arith; released = omega arith; taken_back = refl };
          exact = refl;
          accepted = (subst (λ k. take_back_refusal k t ≡ None) handed.2 (refused handed.0 sack handed.1), x.returned);
          after = refl;
        },
        record (after_return sack back s) {
          sending = record (after_return sack back s).sending { sender = new; released = s.sending.released + bytes_in gone };
        },
        record {
          handed = handed;
          step = record { sender = omega (arith, more, same, all); written = omega arith; released = refl; taken_back = omega arith };
          exact = x.exact;
          accepted = x.accepted;
          answered = x.answered;
          after = refl;
        },
        refl,
      )
