-- Sessions of every call: in the end each ordered DATA chunk of a stream that goes on was read, but of messages that may be passed over.
use Rattle.sctp_delivery.proofs.Names.{common_steps, ◌≡◌, ℕ, suc, ◌+◌, ◌^◌, ◌<◌, ◌≤◌, Bool, true, false, List, [], ◌∷◌, length, Option, Some, None, inl, inr}
use Rattle.sctp_delivery.proofs.Names.{refl, ap, sym, subst, ◌∙◌, arith, All, Contains, if◌then◌else◌, list_any, nat_le, cases_lt, nat_tests, or-left, or-split}
use Rattle.sctp_delivery.proofs.Names.{same-is, same-yes, and, not_both, none-some, at_or_before16, tsn, at_or_before16-index, ChunkPayloadData, ChunkSet, Data}
use Rattle.sctp_delivery.proofs.Names.{data_of, has_tsn, is_complete, is_readable, front_readable, message_read, Reassembly, InboundStream, Reception}
use Rattle.sctp_delivery.proofs.Names.{stream_of, Message, reads_nothing, data_chunk, AreMade, AreMessages, Session, ◌==◌, ◌%◌, ◌⊎◌, is_ordered_on, not}
use Rattle.std.proofs.lemmas.List.Folds.{Any-from_list_any}
use Rattle.sctp_data.specs.ChunkSet.{fresh}
use Rattle.sctp_reassembly.specs.reassembly_queue.ReassemblyQueue.{message_among}
use Rattle.sctp_delivery.specs.EveryEnd.{IsReadOn}
use Rattle.sctp_delivery.proofs.Cases.{by-test}
use Rattle.sctp_delivery.proofs.Delivered.{found-sent-on}
use Rattle.sctp_delivery.proofs.EveryFronts.{FrontOf, HasRead, IsHeldOn, IsReadUp, index-is, next_of, one-index}
use Rattle.sctp_delivery.proofs.InTheEnd.{unread-of}
use Rattle.sctp_delivery.proofs.MessagePlaces.{IsEntryAt, has-all, misses-one, place-tsn}
use Rattle.sctp_delivery.proofs.NotRefused.{begin-place}
use Rattle.sctp_delivery.proofs.OrderedEntries.{AreJoined}
use Rattle.sctp_delivery.proofs.PassedMessages.{EndsMessage}
use Rattle.sctp_delivery.proofs.Sent.{Entry, IsLine, IsPart, Numbered, contains-more, fragment, part-itself, part-length, same-tsn, terminal}
use Rattle.sctp_delivery.proofs.SpreadCalls.{IsSpreadOn}
use Rattle.sctp_delivery.proofs.TsnPlaces.{base, same-place, upto-yes}
use Rattle.sctp_delivery.proofs.UnwrappedHolds as holds
use Rattle.sctp_delivery.proofs.UnwrappedHolds.{AreDue, at-in}
use Rattle.sctp_delivery.proofs.UnwrappedReads.{AreSets, IsDue, later-none}
use Rattle.sctp_delivery.proofs.UnwrappedSessions as sessions
use Rattle.sctp_delivery.proofs.WholeSets.{HasFront, IsFront, IsHeldIn, before-is}

module _ (st first : ℕ) (on dropped : ℕ → Bool) (o : on st ≡ true) (n : ℕ) (s : Session) (ns : List Numbered) (sent : List Entry)
    (i : IsSpreadOn on dropped first n s ns sent) (few : n < 2 ^ 31) where
  abbrev p : ℕ
  p = base first

  abbrev r : Reception
  r = s.receiving.receiver

  abbrev B : ℕ → ℕ
  B = sessions.to st first sent

  abbrev E : ℕ → Bool
  E = sessions.at st first sent

  abbrev M : ChunkPayloadData → Type 0
  M = sessions.Was st first sent

  abbrev Fits : ℕ → List ChunkPayloadData → Type 0
  Fits = holds.Fits p st n B E M

  abbrev Came : ℕ → Type 0
  Came = holds.Came p st n B E M r.cumulative_tsn r.beyond

  line : IsLine ns first sent
  line = i.holds.held.stands.queued.line

  joined : AreJoined sent
  joined = i.holds.held.stands.queued.joined

  grows : (j k : ℕ) → j ≤ k → B j ≤ B k
  grows = sessions.grows st first on dropped o n s ns sent i few

  -- ## Nothing is in flight, and nothing is to be read

  module _ (d : AreDue p st n B E M i.step.numbered.acked s.receiving) (G : ℕ → Type 0) (u : IsReadUp st first n sent G (stream_of st r) s.receiving.read)
      (landed : s.sending.sender.flight.queue.inflight.chunks ≡ []) (unbegun : s.sending.sender.flight.queue.pending.selected ≡ None)
      (unread : reads_nothing r ≡ true) where
    long : length sent ≡ n
    long = i.long

    -- the last message was sent whole, or cut short
    ends : 0 < n → EndsMessage sent
    ends some = grind (arith, nat_tests, common_steps, long, terminal)

    upto : n ≤ d.arrived.place
    upto = grind (arith, nat_tests, common_steps)

    came : (y : ℕ) → y ≤ n → E y ≡ true → Came y
    came y le on' = grind (arith, nat_tests, common_steps, upto, or-left, upto-yes)

    module _ (l : InboundStream) (found : stream_of st r ≡ Some l) (due : IsDue p n B Fits Came d.k d.reach l.queue.held) (front : HasFront l.queue.held) where
      abbrev q : Reassembly
      q = l.queue.held

      abbrev Sets : ℕ → List ChunkSet → Type 0
      Sets low ss = AreSets p n B Fits Came low d.reach ss

      abbrev has : ℕ → List ChunkSet → Bool
      has z ss = list_any (λ (x : ChunkSet). list_any (has_tsn (tsn p z)) x.chunks) ss

      none : message_read q ≡ None
      none = unread-of st r.streams l unread found

      -- a place of the next message is held
      held : (z : ℕ) → z ≤ n → E z ≡ true → B z ≡ due.index + 1 → has z q.ordered ≡ true
      held z le on' begun = elim (due.kept z le (came z le on')) [
        | inl h ↦ absurd (omega (arith, h, begun))
        | inr h ↦ h
      ]

      -- the front set is not complete, if it is of the next message or of one before it
      not-whole : (x : ChunkSet) (xs : List ChunkSet) → q.ordered ≡ x ∷ xs → (j : ℕ) → x.ssn ≡ j % 2 ^ 16 → due.low ≤ j → j ≤ due.index
          → is_complete x.chunks ≡ true → ⊥
      not-whole x xs is j number lo le c =
          let near = due.near in
          let order : nat_le j due.index ≡ true = grind (arith, nat_tests, le) in
          let at : at_or_before16 x.ssn q.next_ssn ≡ true = grind (arith, nat_tests, common_steps, at_or_before16-index) in
          let e : is_readable q.next_ssn x ≡ true = and (is_complete x.chunks) (at_or_before16 x.ssn q.next_ssn) c at in
          by q.unordered refl (ap (front_readable q.next_ssn) is ∙ ap (λ b. if b then Some x else None) e)
        where
          by : (us : List ChunkSet) → q.unordered ≡ us → front_readable q.next_ssn q.ordered ≡ Some x → ⊥
          by [] e f = none-some x (sym (sym f ∙ ap (λ us. message_among us q) (sym e) ∙ none))
          by (v ∷ vs) e f = none-some v (sym (ap (λ us. message_among us q) (sym e) ∙ none))

      -- so all sets are of the next message or of later ones
      from-next : Sets due.index q.ordered
      from-next = by q.ordered refl
        where
          by : (ss : List ChunkSet) → q.ordered ≡ ss → Sets due.index q.ordered
          by [] is = subst (Sets due.index) (sym is) tt
          by (x ∷ xs) is =
              let a = subst (Sets due.low) is due.sets in
              let lo = a.1.0.0 in
              elim (cases_lt a.0 due.index) [
                | inl lt ↦
                    let whole = (subst (IsFront q.next_ssn) is front).0
                    (before-is p n B Fits Came d.k d.reach q due front x a.0 a.1.0.2 lo a.1.0.1 lt) in
                    absurd (not-whole x xs is a.0 a.1.0.2 lo (omega (arith, lt)) whole)
                | inr ge ↦ subst (Sets due.index) (sym is) (a.0, ((ge, a.1.0.1, a.1.0.2), a.1.1), a.2)
              ]

      -- none before it is held whole
      none-held : (j : ℕ) → j < due.index → IsHeldIn Fits j q.ordered → ⊥
      none-held j lt = by due.index q.ordered (omega arith) from-next
        where
          by : (low : ℕ) (ss : List ChunkSet) → due.index ≤ low → Sets low ss → IsHeldIn Fits j ss → ⊥
          by low [] le a h = absurd h
          by low (x ∷ xs) le a h =
              let lo = a.1.0.0 in
              elim h [
                | inl f ↦
                    let same = one-index st first on dropped o n s ns sent i few j a.0 x.chunks f.0 a.1.1 f.1 in
                    absurd (omega (arith, same, lo, le, lt))
                | inr f ↦ by (a.0 + 1) xs (omega (arith, lo, le)) a.2 f
              ]

      -- the front set is not that of the next message
      module _ (x : ChunkSet) (xs : List ChunkSet) (is : q.ordered ≡ x ∷ xs) (a : Sets due.index (x ∷ xs)) (same : a.0 ≡ due.index)
          (some : 0 < length x.chunks) (past : due.index < B n) where
        not-open : is_complete x.chunks ≡ false → ⊥
        not-open c =
            let miss = misses-one ns first sent line joined n long few st a.0 n (omega arith) (sent, part-itself sent, long, ends (given x.chunks a.1.1 some))
            (omega (arith, same, past)) x.chunks a.1.1 some c in
            let z = sessions.missed st first on dropped o n s ns sent i few n a.0 x.chunks (omega arith) a.1.1 miss in
            elim (or-split (list_any (has_tsn (tsn p z.0)) x.chunks) (has z.0 xs)
            (sym (ap (has z.0) is) ∙ held z.0 z.1 z.2 (omega (arith, same, z.3)))) [
              | inl h ↦ not_both (sym z.4 ∙ h)
              | inr h ↦ later-none p n B Fits Came (at-in p st n B E M few grows) (a.0 + 1) d.reach z.0 xs a.2 z.1 (omega (arith, z.3)) h
            ]
          where
            given : (cs : List ChunkPayloadData) → Fits a.0 cs → 0 < length cs → 0 < n
            given [] h lt = absurd (omega (arith, lt))
            given (c ∷ cs) h lt = let w = h.0.within in omega (arith, w)

        no-front : ⊥
        no-front =
            let from = due.from in
            by-test (is_complete x.chunks) (not-whole x xs is a.0 a.1.0.2 (omega (arith, same, from)) (omega (arith, same))) not-open

      all-begun : B n ≤ due.index
      all-begun = elim (cases_lt due.index (B n)) [
        | inr ge ↦ ge
        | inl lt ↦
            let z = begin-place st n due.index sent (omega (arith, lt)) in
            absurd (by q.ordered refl from-next z.0 z.1 z.3 (held z.0 z.1 z.2 z.3) lt)
      ]
        where
          by : (ss : List ChunkSet) → q.ordered ≡ ss → Sets due.index q.ordered → (z : ℕ) → z ≤ n → B z ≡ due.index + 1 → has z q.ordered ≡ true
              → due.index < B n → ⊥
          by [] is a z le begun h lt = not_both (sym (ap (has z) is) ∙ h)
          by (x ∷ xs) is a' z le begun h lt =
              let a = subst (Sets due.index) is a' in
              let lo = a.1.0.0 in
              elim (or-split (list_any (has_tsn (tsn p z)) x.chunks) (has z xs) (sym (ap (has z) is) ∙ h)) [
                | inr g ↦ later-none p n B Fits Came (at-in p st n B E M few grows) (a.0 + 1) d.reach z xs a.2 le (omega (arith, begun, lo)) g
                | inl g ↦
                    let b = at-in p st n B E M few grows a.0 z x.chunks le a.1.1 g in
                    no-front x xs is a (omega (arith, b, begun)) (some-in x.chunks g) lt
              ]
            where
              some-in : (cs : List ChunkPayloadData) → list_any (has_tsn (tsn p z)) cs ≡ true → 0 < length cs
              some-in [] e = absurd (not_both e)
              some-in (c ∷ cs) e = omega arith

    -- so all ordered messages of the stream are before the next one
    pub all-up : B n ≤ u.next
    all-up = by (stream_of st r) refl
      where
        by : (l : Option InboundStream) → stream_of st r ≡ l → B n ≤ u.next
        by None is = grind (arith, nat_tests, common_steps, grows, upto)
        by (Some l) is =
            let due = subst (holds.DueOn p st n B E M Came d.k d.reach) is d.due in
            let all = all-begun l is due (subst FrontOf is u.front) in
            let same = index-is st first on dropped o n s ns sent i few s d G u l due (ap next_of (sym is) ∙ u.number) in
            omega (arith, all, same)

    -- and each of them was read, or may be passed over
    pub all-done : (j : ℕ) → j < B n → HasRead st first n sent j s.receiving.read ⊎ G j
    all-done j lt =
        let up = all-up in
        elim (u.done j (omega (arith, lt, up))) [
          | inl h ↦ inl h
          | inr h ↦ elim h [ inl k ↦ absurd (by (stream_of st r) refl k) | inr k ↦ inr k ]
        ]
      where
        by : (l : Option InboundStream) → stream_of st r ≡ l → IsHeldOn st first n sent j (stream_of st r) → ⊥
        by None is k = subst (IsHeldOn st first n sent j) is k
        by (Some l) is k =
            let due = subst (holds.DueOn p st n B E M Came d.k d.reach) is d.due in
            let front = subst FrontOf is u.front in
            let all = all-begun l is due front in
            none-held l is due front j (omega (arith, all, lt)) (subst (IsHeldOn st first n sent j) is k)

  -- ## A chunk that was made

  -- the message with an index was read
  read-at : (j : ℕ) (ms : List Message) → HasRead st first n sent j ms → (m : Message) × Contains ms m × (m.stream ≡ st) × Fits j m.fragments
  read-at j [] h = absurd h
  read-at j (m ∷ ms) h = elim h [
    | inl e ↦ (m, (0, omega arith, refl), e.0, e.1)
    | inr e ↦ let x = read-at j ms e in (x.0, contains-more m ms x.0 x.1, x.2, x.3)
  ]

  pub was-read : AreMessages s → AreMade s → (d : Data) (w : Numbered) (after : List ℕ) (xs : List Entry) → IsPart (fragment d w after ∷ xs) sent
      → d.stream_identifier ≡ st → d.unordered ≡ false
      → ((j : ℕ) → j < B n → B (suc (length xs)) ≡ j + 1 → HasRead st first n sent j s.receiving.read) → IsReadOn st d s.receiving.read
  was-read whole made d w after xs part on' kind read =
      let c0 = fresh d in
      let ordered : is_ordered_on st c0 ≡ true =
      and (d.stream_identifier == st) (not d.unordered) (ap (λ k. k == st) on' ∙ same-yes st) (ap not kind) in
      let entry = sessions.entry-of st first on dropped o n s ns sent i few c0 (w, after, xs, part) in
      let own = entry.step.number ordered in
      let top = grows (entry.before + 1) n (let w' = entry.within in let long = i.long in omega (arith, w', long)) in
      let e : IsEntryAt sent (suc (length xs)) d w = record { after = after; entries = xs; part = part; place = refl } in
      let within : suc (length xs) ≤ n = let l = part-length sent (fragment d w after ∷ xs) part in let long = i.long in omega (arith, l, long) in
      let is = place-tsn ns first sent line joined n i.long few (suc (length xs)) d w e in
      let at : entry.before + 1 ≡ suc (length xs) = grind (arith, nat_tests, common_steps, same-place, long) in
      let m = read-at own.0 s.receiving.read (read own.0 (let e = own.1 in omega (arith, e, top)) (ap B (sym at) ∙ sym own.1)) in
      let complete : is_complete m.0.fragments ≡ true = grind (arith, nat_tests, common_steps) in
      let all : All (λ c. Contains s.made (data_chunk (data_of c))) m.0.fragments =
      subst (λ (x : Message). All (λ c. Contains s.made (data_chunk (data_of c))) x.fragments) m.1.2 (made m.1.0 m.0 m.1.1) in
      let there = has-all ns first sent line joined n i.long few st own.0 m.0.fragments m.3 complete (suc (length xs))
      (inl (d, w, e, ordered)) (sym (ap B at) ∙ sym own.1) in
      let a = Any-from_list_any (has_tsn (tsn p (suc (length xs)))) m.0.fragments there in
      let c = a.1 in
      let number : c.tsn ≡ d.tsn = same-is c.tsn (tsn p (suc (length xs))) a.4 ∙ sym is in
      let here : Contains s.made (data_chunk (data_of c)) = subst (λ x. Contains s.made (data_chunk (data_of x))) a.3 (all a.0 c a.2) in (
        m.0,
        m.1,
        m.2,
        c,
        (a.0, a.2, a.3),
        same-tsn ns first sent (let long = i.long in omega (arith, long, few)) line (data_of c) d
            (found-sent-on on sent s.made (data_of c) i.holds.made here) (w, after, xs, part) number,
      )
