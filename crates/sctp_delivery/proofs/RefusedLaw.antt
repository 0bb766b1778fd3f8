-- How long messages may be: in each session what the sender and the streams of the receiver were given stays, and no write is longer.
use Rattle.sctp_delivery.proofs.Names.{◌≡◌, ℕ, ◌+◌, ◌%◌, ◌^◌, ◌<◌, ◌≤◌, Bool, true, false, not, List, [], ◌∷◌, Option, Some, None, inl, inr, refl, ap, sym}
use Rattle.sctp_delivery.proofs.Names.{subst, ◌∙◌, arith, length, ◌==◌, ◌&&◌, ◌||◌, Contains, if◌then◌else◌, list_any, list_all, option_or, cases_lt, nat_tests}
use Rattle.sctp_delivery.proofs.Names.{none-some, common_steps, or-left, or-split, same-is, same-yes, and-none, or-right, some-same, and, not_both, both, tsn}
use Rattle.sctp_delivery.proofs.Names.{ChunkPayloadData, ChunkSet, Data, data_of, has_tsn, bytes_of, chunk_before, message_read, Reassembly, ReassemblyState}
use Rattle.sctp_delivery.proofs.Names.{New, Repeat, InboundStream, TsnOpposite, Limits, Reception, arrival_refusal, filter_of, follow_forward_tsn, is_stale}
use Rattle.sctp_delivery.proofs.Names.{new_refusal, stream_of, is_open, without_incomplete, incomplete_forwarded, is_ssn_too_far, is_too_far_on, has_come}
use Rattle.sctp_delivery.proofs.Names.{is_opposite, reports, is_ordered_on, held_weight, abandoned_in, ReceiverCall, AfterEachUnlimitedSession, IsInFlight}
use Rattle.sctp_delivery.proofs.Names.{is_takable, is_reported, tsns_given, was_taken, Call, ReceiverFollows, RunsTo, Session, at_start, of_receiver, of_sender}
use Rattle.sctp_delivery.proofs.Names.{SenderFollows, sum_by-inserted, insert_before, size_after, size_before, Pushes, ssns_of, stream_forwarded}
use Rattle.sctp_delivery.proofs.Names.{unassembled_forwarded, Write, SenderCall, written_after, reads_nothing, Transmission}
use Rattle.std.specs.Prelude.{is_some, not}
use Rattle.std.specs.List.{find}
use Rattle.sctp_receiver.specs.declared.receiver.refusal.ReceiverRefusal.TheVariants.{SsnTooFar}
use Rattle.sctp_receiver.specs.Receiver.{message_of, stream_refusal}
use Rattle.sctp_delivery.specs.ReceiverCalls as incoming
use Rattle.sctp_delivery.specs.Refused.{NoneInFlightIsRefused, is_due_on, IsCopy, NoneIsRefusedWhereRead}
use Rattle.sctp_delivery.proofs.Cases.{all_streams, at-if, at-test, by-test}
use Rattle.sctp_delivery.proofs.Delivered.{found-sent}
use Rattle.sctp_delivery.proofs.EntryLengths.{unassembled-fits, set-fits, part-fits}
use Rattle.sctp_delivery.proofs.Every.{Every, every-contained, every-of-all, one-of, every-found, every-changed, every-joined, every-mapped}
use Rattle.sctp_delivery.proofs.UnwrappedHolds.{IsCurrent, AreDue, Came, DueOn, IsOf, rises-put, Fits}
use Rattle.sctp_delivery.proofs.KeptSessions.{complete-messages, HasKept, kept-in}
use Rattle.sctp_delivery.proofs.InFlight.{IsKnown}
use Rattle.sctp_delivery.proofs.Kept.{sets-fresh}
use Rattle.sctp_delivery.proofs.KeptCalls as calls
use Rattle.sctp_delivery.proofs.KeptOrGone.{HeldWell, IsLate}
use Rattle.sctp_delivery.proofs.MessagePlaces.{entry-at}
use Rattle.sctp_delivery.proofs.NotRefused.{begun-low, near-distance, same-index}
use Rattle.sctp_delivery.proofs.GivenTsns.{flight-given}
use Rattle.sctp_delivery.proofs.ReadOnce.{one}
use Rattle.sctp_delivery.proofs.SackLaws as sacks
use Rattle.sctp_delivery.proofs.SackSteps.{known, none_dropped}
use Rattle.sctp_delivery.proofs.Sent.{Entry, WasSent, fragment, part-line}
use Rattle.sctp_delivery.proofs.Sessions as made_in
use Rattle.sctp_delivery.proofs.SpreadCalls.{IsSpread}
use Rattle.sctp_delivery.proofs.SpreadEntries.{begun_to, is_at, made-entry}
use Rattle.sctp_delivery.proofs.TakenCalls.{HasCome}
use Rattle.sctp_delivery.proofs.TakenTsns.{come}
use Rattle.sctp_delivery.proofs.TakenCalls as answered
use Rattle.sctp_delivery.proofs.TsnPlaces.{IsGiven, base}
use Rattle.sctp_delivery.proofs.UnassembledGone.{was-unassembled}
use Rattle.sctp_delivery.proofs.UnwrappedSessions as sessions
use Rattle.sctp_reassembly.specs.reassembly_queue.Fragments.{chunks_of_ssn}
use Rattle.sctp_reassembly.specs.reassembly_queue.Sizes.{projected_size}
use Rattle.sctp_delivery.proofs.Calls.{contains-forgotten, forget}
use Rattle.sctp_delivery.proofs.UnwrappedReads.{AreSets, IsDue}
use Rattle.sctp_receiver.proofs.Forwarded.{followed-mapped, skipped-size}
use Rattle.sctp_delivery.specs.SenderCalls as outgoing
use Rattle.sctp_delivery.proofs.Writing.{accepted-stream}
use Rattle.sctp_delivery.proofs.InTheEnd.{nothing}
use Rattle.sctp_delivery.proofs.Changes.{expired-one}

-- ## The sender

abbrev MaxSame : Session → Session → Type 0
MaxSame old new = new.sending.sender.max_message_size ≡ old.sending.sender.max_message_size

max-after : (call : SenderCall) (old new : Session) → SenderFollows call old new → MaxSame old new
max-after (outgoing.resends u now c) old new f = ap (λ (u : Transmission). u.max_message_size) f.step.sender
max-after (outgoing.sends now) old new f = ap (λ (u : Transmission). u.max_message_size) f.exact
max-after (outgoing.forwards u c) old new f = ap (λ (u : Transmission). u.max_message_size) f.exact
max-after (outgoing.forwards_within bytes c) old new f = ap (λ (u : Transmission). u.max_message_size) f.exact
max-after (outgoing.writes stream ppi []) old new f = ap (λ (u : Transmission). u.max_message_size) (f.exact.0 refl)
max-after (outgoing.writes stream ppi (b ∷ bs)) old new f =
    let l = accepted-stream stream (length (b ∷ bs)) old.sending.sender f.accepted in
    ap (λ (u : Transmission). u.max_message_size) (f.exact.1 (omega arith) l.0 l.1)
max-after (outgoing.abandons u a) old new f = ap (λ (u : Transmission). u.max_message_size) f.exact
max-after (outgoing.expires now None) old new f = ap (λ (u : Transmission). u.max_message_size) (f.exact.1.1 refl)
max-after (outgoing.expires now (Some e)) old new f =
    ap (λ (u : Transmission). u.max_message_size) (expired-one now e old.sending.sender new.sending.sender f.exact).2
max-after (outgoing.expires_tail now None) old new f = ap (λ (u : Transmission). u.max_message_size) (f.exact.1 refl)
max-after (outgoing.expires_tail now (Some a)) old new f = ap (λ (u : Transmission). u.max_message_size) f.exact.0
max-after (outgoing.expires_late now gone) old new f = ap (λ (u : Transmission). u.max_message_size) f.exact
max-after (outgoing.expires_rexmit gone) old new f = ap (λ (u : Transmission). u.max_message_size) f.exact
max-after (outgoing.takes_sack k gone) old new f = ap (λ (u : Transmission). u.max_message_size) f.exact
max-after call old new f = ap (λ (u : Transmission). u.max_message_size) f.step.sender

-- no write is longer
abbrev pub AreWithin : ℕ → List Write → Type 0
AreWithin max ws = Every (λ w. length w.bytes ≤ max) ws

written-within : (call : SenderCall) (t : Transmission) (ws : List Write) → outgoing.IsAccepted call t → AreWithin t.max_message_size ws
    → AreWithin t.max_message_size (written_after call ws)
written-within h0 h1 h2 h3 h4 = grind (arith, nat_tests, common_steps)

-- ## The receiver

-- each stream takes messages of up to this length, as the receiver does
pub record AreSized (most : ℕ) (r : Reception) : Type 0 where
  pub own : r.max_message_size ≡ most
  pub each : Every (λ l. l.queue.max_message_size ≡ most) r.streams

pushed-size : (c : ChunkPayloadData) (answered : Bool) (old new : ReassemblyState) → Pushes c answered old new → new.max_message_size ≡ old.max_message_size
pushed-size c answered old new pushed = grind (arith, nat_tests, common_steps)

module _ (most : ℕ) where
  abbrev P : InboundStream → Type 0
  P l = l.queue.max_message_size ≡ most

  sized-after : (call : ReceiverCall) (old new : Session) → ReceiverFollows call old new → AreSized most old.receiving.receiver
      → AreSized most new.receiving.receiver
  sized-after (incoming.opens stream) old new f s = grind (arith, nat_tests, common_steps, every-joined)
  sized-after (incoming.takes c Repeat) old new f s = subst (AreSized most) (sym f.step.receiver) (record { own = s.own; each = s.each })
  sized-after (incoming.takes c (New answered)) old new f s = grind (arith, nat_tests, common_steps, pushed-size, every-found, every-changed)
  sized-after (incoming.follows g) old new f s = subst (AreSized most) (sym f.step.receiver)
      (at-test (λ b. AreSized most (if b then old.receiving.receiver else without_incomplete g.new_cumulative_tsn
      (if b then old.receiving.receiver else follow_forward_tsn g old.receiving.receiver))) (is_stale g old.receiving.receiver)
      (λ e. s)
      (λ e. record {
        own = s.own;
        each = every-mapped P P (incomplete_forwarded g.new_cumulative_tsn) (λ l p. p) (follow_forward_tsn g old.receiving.receiver).streams
            (subst (Every P) (sym (followed-mapped g old.receiving.receiver))
            (every-mapped P P (λ l. unassembled_forwarded g.new_cumulative_tsn (stream_forwarded g.streams l))
            (λ l p. skipped-size (ssns_of l.queue.si g.streams) l.queue ∙ p) old.receiving.receiver.streams s.each));
      }))
  sized-after (incoming.reads stream) old new f s = grind (arith, nat_tests, common_steps, every-changed)
  sized-after call old new f s = subst (AreSized most) (sym f.step.receiver) (record { own = s.own; each = s.each })

-- ## Every session

pub record AreFit (max most : ℕ) (s : Session) : Type 0 where
  pub sender : s.sending.sender.max_message_size ≡ max
  pub writes : AreWithin max s.written
  pub streams : AreSized most s.receiving.receiver

sender-fit : (max most : ℕ) (call : SenderCall) (old new : Session) → SenderFollows call old new → AreFit max most old → AreFit max most new
sender-fit max most call old new f h = grind (arith, nat_tests, common_steps, max-after, written-within)

receiver-fit : (max most : ℕ) (call : ReceiverCall) (old new : Session) → ReceiverFollows call old new → AreFit max most old → AreFit max most new
receiver-fit max most call old new f h = grind (arith, sized-after)

fit-after : (max most : ℕ) (cs : List Call) (old new : Session) → RunsTo old cs new → AreFit max most old → AreFit max most new
fit-after max most [] old new r h = subst (AreFit max most) (sym r) h
fit-after max most (of_sender call ∷ cs) old new r h = fit-after max most cs r.0 new r.1.1 (sender-fit max most call old r.0 r.1.0 h)
fit-after max most (of_receiver call ∷ cs) old new r h = fit-after max most cs r.0 new r.1.1 (receiver-fit max most call old r.0 r.1.0 h)

pub fit-session : (tsn size max most : ℕ) (limits : Option Limits) (cs : List Call) (s : Session) → RunsTo (at_start tsn size max most limits) cs s
    → AreFit max most s
fit-session tsn size max most limits cs s r =
    fit-after max most cs (at_start tsn size max most limits) s r (record { sender = refl; writes = tt; streams = record { own = refl; each = tt } })

-- # A receiver that is read refuses nothing that an honest sender still needs taken

-- ## Limits

-- they stay as they are
limits-after : (call : ReceiverCall) (old new : Session) → ReceiverFollows call old new
    → new.receiving.receiver.limits ≡ old.receiving.receiver.limits
limits-after h0 h1 h2 h3 = grind (arith, nat_tests, common_steps)

pub limits-same : (cs : List Call) (old new : Session) → RunsTo old cs new → new.receiving.receiver.limits ≡ old.receiving.receiver.limits
limits-same [] old new r = ap (λ (s : Session). s.receiving.receiver.limits) r
limits-same (of_sender call ∷ cs) old new r =
    limits-same cs r.0 new r.1.1 ∙ ap (λ (s : Session). s.receiving.receiver.limits) r.1.0.after
limits-same (of_receiver call ∷ cs) old new r = limits-same cs r.0 new r.1.1 ∙ limits-after call old r.0 r.1.0

-- ## A chunk in flight

module _ (first n : ℕ) (few : n < 2 ^ 31) (gone : List ℕ) (s : Session) (h : HasKept first n gone s)
    (unassembled-sent : (st : ℕ) (l : InboundStream) → stream_of st s.receiving.receiver ≡ Some l
    → Every (λ c. WasSent h.sent (data_of c)) l.queue.held.unassembled)
    (within : AreWithin s.sending.sender.max_message_size s.written)
    (sized : Every (λ (l : InboundStream). l.queue.max_message_size ≡ s.receiving.receiver.max_message_size) s.receiving.receiver.streams)
    (enough : s.sending.sender.max_message_size ≤ s.receiving.receiver.max_message_size) where
  abbrev p : ℕ
  p = base first

  abbrev r : Reception
  r = s.receiving.receiver

  abbrev sent : List Entry
  sent = h.sent

  abbrev spread : IsSpread first n s h.numbered h.sent
  spread = h.kept.unwrapped.spread

  abbrev chunks : List ChunkPayloadData
  chunks = s.sending.sender.flight.queue.inflight.chunks

  abbrev max : ℕ
  max = s.sending.sender.max_message_size

  -- no write is longer than the sender takes
  bound : (c : ChunkPayloadData) (was : WasSent sent (data_of c)) → length was.0.bytes ≤ max
  bound c (w, after, xs, part) =
      let f = (part-line h.numbered first sent (fragment (data_of c) w after ∷ xs) part spread.holds.held.stands.queued.line).0.written in
      let in' = subst (λ ws. Contains ws (forget w)) spread.holds.writes (contains-forgotten h.numbered w f) in
      every-contained (λ (v : Write). length v.bytes ≤ max) s.written (forget w) in' within

  -- what was taken has come
  taken-came : (t : ℕ) → was_taken t s ≡ true → come t r.cumulative_tsn r.beyond ≡ true
  taken-came t e = grind (arith, nat_tests, common_steps, one-of (HasCome p n r) (has_tsn t) s.receiving.accepted e spread.step.taken.each)

  -- one that did not come was sent as it is in flight
  was-sent : (c : ChunkPayloadData) → Contains chunks c → c.abandoned ≡ false → come c.tsn r.cumulative_tsn r.beyond ≡ false → WasSent sent (data_of c)
  was-sent c in' kept fresh = by-test c.acked
      (λ e.
      let answered' = every-contained (λ (y : ChunkPayloadData). is_reported s y ≡ true → (was_taken y.tsn s || y.abandoned) ≡ true) chunks c in'
      (every-of-all (λ (y : ChunkPayloadData). is_reported s y ≡ true → (was_taken y.tsn s || y.abandoned) ≡ true) chunks
      (sacks.came p n s few spread.step)) in
      absurd (elim (or-split (was_taken c.tsn s) c.abandoned (answered' (or-left c.acked (list_any (λ sack. reports sack c) s.sacks) e))) [
        | inl t ↦ not_both (sym fresh ∙ taken-came c.tsn t)
        | inr t ↦ not_both (sym kept ∙ t)
      ]))
      (λ e. k.0 (and (not c.acked) (not c.abandoned) (ap not e) (ap not kept)))
    where
      k : IsKnown first sent c
      k = every-contained (IsKnown first sent) chunks c in' spread.holds.held.stands.known

  module _ (x : ChunkPayloadData) (g : IsGiven p n x.tsn) (fresh : has_come x.tsn (filter_of r) ≡ false) (was : WasSent sent (data_of x)) where
    abbrev st : ℕ
    st = x.stream_identifier

    abbrev B : ℕ → ℕ
    B k = begun_to st k sent

    abbrev E : ℕ → Bool
    E k = is_at st k sent

    abbrev M : ChunkPayloadData → Type 0
    M c = WasSent sent (data_of c)

    abbrev d : AreDue p st n B E M spread.step.numbered.acked s.receiving
    d = (h.kept.unwrapped.answered st).0

    abbrev Prior : ℕ → Type 0
    Prior = Came p st n B E M r.cumulative_tsn r.beyond

    abbrev a : ℕ
    a = spread.step.numbered.acked

    abbrev Late : ℕ → Type 0
    Late = IsLate first sent st r.cumulative_tsn r.beyond

    abbrev Both : Option InboundStream → Type 0
    Both o = DueOn p st n B E M Prior d.k d.reach o × HeldWell first sent st n a Late o

    -- no set of the stream has it
    absent : (l : InboundStream) → stream_of st r ≡ Some l → Every (λ (y : ChunkSet). list_any (has_tsn x.tsn) y.chunks ≡ false) l.queue.held.ordered
    absent l there = sets-fresh x.tsn l.queue.held.ordered (elim (cases_lt 0 (held_weight (one x.tsn) (stream_of st r))) [
      | inl lt ↦ absurd (not_both (sym fresh ∙ calls.held-came first n few s s h.numbered sent h.kept.unwrapped gone st x.tsn (h.kept.kept st) lt))
      | inr ge ↦ let is = ap (held_weight (one x.tsn)) there in omega (arith, ge, is)
    ])

    module _ (ordered : x.unordered ≡ false) (held : Reassembly) (due : IsDue p n B (Fits p st n B E M) Prior d.k d.reach held)
        (c : IsCurrent p n B (B a) (B n) Late held) (free : Every (λ (y : ChunkSet). list_any (has_tsn x.tsn) y.chunks ≡ false) held.ordered)
        (none : message_read held ≡ None) where
      -- the index of its message, from the lowest one on
      record IsWindowed : Type 0 where
        index : ℕ
        of : IsOf p st n B E M index x
        number : x.stream_sequence_number ≡ index % 2 ^ 16
        from : due.low ≤ index
        upto : index < due.low + 2 ^ 15

      windowed : IsWindowed
      windowed =
          let queued = spread.holds.held.stands.queued in
          let on : is_ordered_on st x ≡ true = and (x.stream_identifier == st) (not x.unordered) (same-yes x.stream_identifier) (ap not ordered) in
          let entry = (made-entry all_streams h.numbered first sent queued.line queued.indexed queued.joined st refl x was).0 in
          let long = spread.long in
          let within = entry.within in
          let at = entry-at h.numbered first sent queued.line queued.joined n long few x was (entry.before + 1) (omega (arith, within, long)) entry.is in
          let number = entry.step.number on in
          let index = number.1 in
          let past = c.late (entry.before + 1) (omega (arith, within, long))
          (inl (data_of x, at.0, at.1, on), ap (λ t. come t r.cumulative_tsn r.beyond) (sym entry.is) ∙ fresh) in
          let low = begun-low st first n few s h.numbered sent spread d held due Late c none in
          let least = sessions.grows st first all_streams none_dropped refl n s h.numbered sent spread few
          spread.step.numbered.acked d.arrived.place d.arrived.least_is in
          let top = sessions.grows st first all_streams none_dropped refl n s h.numbered sent spread few (entry.before + 1) n (omega (arith, within, long)) in
          let from = due.from in
          record {
            index = number.0;
            of = grind (arith, nat_tests, common_steps);
            number = number.2;
            from = omega (arith, past, index, from, same-index st first n few s h.numbered sent spread d held due Late c none);
            upto = omega (arith, index, top, sessions.near st first all_streams none_dropped refl n s h.numbered sent spread few, least, low);
          }

      -- its number is not too far
      not-far : is_ssn_too_far x.stream_sequence_number held ≡ false
      not-far = grind (arith, nat_tests, common_steps, near-distance, windowed)

      -- with it its set is no longer than the write
      set-with : (low : ℕ) (ss : List ChunkSet) → due.low ≤ low → AreSets p n B (Fits p st n B E M) Prior low d.reach ss
          → Every (λ (y : ChunkSet). list_any (has_tsn x.tsn) y.chunks ≡ false) ss
          → bytes_of (chunks_of_ssn x.stream_sequence_number ss) + length x.user_data ≤ max
      set-with low [] le a v = grind (arith, nat_tests, common_steps, part-fits h.numbered first sent spread.holds.held.stands.queued.line x was, bound x was)
      set-with low (y ∷ ys) le a v = at-if (λ z. bytes_of z + length x.user_data ≤ max) (y.ssn == x.stream_sequence_number)
          (λ e.
          let w = windowed in
          let number : a.0 % 2 ^ 16 ≡ w.index % 2 ^ 16 = sym a.1.0.2 ∙ same-is y.ssn x.stream_sequence_number e ∙ w.number in
          let same : a.0 ≡ w.index = omega (arith, number, a.1.0.0, a.1.0.1, le) in
          let fits = subst (λ k. Fits p st n B E M k y.chunks) same a.1.1 in
          let queued = spread.holds.held.stands.queued in
          let put = rises-put p st n B E M few (sessions.grows st first all_streams none_dropped refl n s h.numbered sent spread few)
          w.index 0 x y.chunks w.of (omega arith)
          v.0 fits in
          let all = set-fits st first n few h.numbered sent spread.long queued.line queued.joined max bound w.index
          (insert_before chunk_before x y.chunks)
          put in
          omega (arith, all, sum_by-inserted (λ (c : ChunkPayloadData). length c.user_data) chunk_before x y.chunks))
          (λ e. set-with (a.0 + 1) ys (omega (arith, le, a.1.0.0)) a.2 v.1)

      ordered-fits : bytes_of (chunks_of_ssn x.stream_sequence_number held.ordered) + length x.user_data ≤ max
      ordered-fits = set-with due.low held.ordered (omega arith) due.sets free

  -- ## Its stream

  module _ (x : ChunkPayloadData) (g : IsGiven p n x.tsn) (fresh : has_come x.tsn (filter_of r) ≡ false) (was : WasSent sent (data_of x))
      (l : InboundStream) (there : stream_of x.stream_identifier r ≡ Some l) (unread : x.unordered ≡ false → message_read l.queue.held ≡ None) where
    both-of : Both x g fresh was (Some l)
    both-of =
        subst (Both x g fresh was) there ((h.kept.unwrapped.answered x.stream_identifier).0.due, (h.kept.kept x.stream_identifier).holds)

    near-enough : (not x.unordered && is_ssn_too_far x.stream_sequence_number l.queue.held) ≡ false
    near-enough = by-test x.unordered
        (ap (λ b. not b && is_ssn_too_far x.stream_sequence_number l.queue.held))
        (λ e. ap (λ b. not b && is_ssn_too_far x.stream_sequence_number l.queue.held) e
        ∙ not-far x g fresh was e l.queue.held both-of.0 both-of.1.current (absent x g fresh was l there) (unread e))

    projected : projected_size x l.queue.held.ordered l.queue.held.unassembled ≤ max
    projected = at-test (λ b. (if b then size_before x l.queue.held.unassembled + length x.user_data + size_after x l.queue.held.unassembled else
        bytes_of (chunks_of_ssn x.stream_sequence_number l.queue.held.ordered) + length x.user_data) ≤ max) x.unordered
        (λ e.
        let queued = spread.holds.held.stands.queued in
        let all = unassembled-fits first h.numbered sent (omega (arith, spread.long, few)) queued.line queued.joined l.queue.held.unassembled
        (unassembled-sent x.stream_identifier l there) x was in
        omega (arith, all, bound x was))
        (λ e. ordered-fits x g fresh was e l.queue.held both-of.0 both-of.1.current (absent x g fresh was l there) (unread e))

    -- the stream takes it
    takes : stream_refusal x (Some l) ≡ None
    takes = grind (arith, nat_tests, common_steps, every-found, projected, and-none)

  -- ## The law

  -- where the limits do not refuse its TSN
  not-refused : (c x : ChunkPayloadData) → Contains chunks c → c.abandoned ≡ false → IsCopy x c s → is_takable x r ≡ true → new_refusal x.tsn r ≡ None
      → arrival_refusal x r ≡ None
  not-refused c x in' kept same due limits = at-test (λ b. (if not b && is_too_far_on x (stream_of x.stream_identifier r) then Some SsnTooFar else
      (if b then None else (if is_opposite x.tsn (filter_of r) then Some TsnOpposite else option_or (new_refusal x.tsn r)
      (stream_refusal x (stream_of x.stream_identifier r))))) ≡ None) (has_come x.tsn (filter_of r))
      (λ e. refl)
      (λ e.
      let near = answered.near p n r (known s) few spread.step.arrived spread.step.order x.tsn g in
      let stream = on e (stream_of x.stream_identifier r) refl in
      ap (λ b. if b then Some SsnTooFar else (if is_opposite x.tsn (filter_of r) then Some TsnOpposite
      else option_or (new_refusal x.tsn r) (stream_refusal x (stream_of x.stream_identifier r)))) stream.0
      ∙ ap (λ b. if b then Some TsnOpposite else option_or (new_refusal x.tsn r) (stream_refusal x (stream_of x.stream_identifier r))) near
      ∙ ap (λ o. option_or o (stream_refusal x (stream_of x.stream_identifier r))) limits ∙ stream.1)
    where
      at : x.tsn ≡ c.tsn
      at = elim same [ inl e ↦ ap (λ (d : Data). d.tsn) e | inr e ↦ e.0 ]

      g : IsGiven p n x.tsn
      g = subst (IsGiven p n) (sym at)
          (every-contained (λ (y : ChunkPayloadData). IsGiven p n y.tsn) chunks c in' (flight-given p n s.sending.sender.flight spread.step.numbered))

      parts : (is_open x.stream_identifier r ≡ true) × (is_due_on x r ≡ true)
      parts = both (is_open x.stream_identifier r) (is_due_on x r) due

      unread : (l : InboundStream) → stream_of x.stream_identifier r ≡ Some l → x.unordered ≡ false → message_read l.queue.held ≡ None
      unread l there e = nothing (message_read l.queue.held) (sym (ap (λ b. b || not (is_some (message_of (stream_of x.stream_identifier r)))) e
          ∙ ap (λ o. not (is_some (message_of o))) there) ∙ parts.1)

      sent-too : has_come x.tsn (filter_of r) ≡ false → WasSent sent (data_of x)
      sent-too fresh = elim same [
        | inl e ↦ subst (WasSent sent) (sym e) (was-sent c in' kept (ap (λ t. come t r.cumulative_tsn r.beyond) (sym at) ∙ fresh))
        | inr e ↦ found-sent sent s.made (data_of x) spread.holds.made e.1
      ]

      on : has_come x.tsn (filter_of r) ≡ false → (o : Option InboundStream) → stream_of x.stream_identifier r ≡ o
          → (is_too_far_on x o ≡ false) × (stream_refusal x o ≡ None)
      on fresh None there = absurd (not_both (ap is_some (sym there) ∙ parts.0))
      on fresh (Some l) there =
          let was = sent-too fresh in
          (near-enough x g fresh was l there (unread l there), takes x g fresh was l there (unread l there))

none-with-room : (tsn size max most : ℕ) (limits : Option Limits) (cs : List Call) (s : Session) → tsn < 2 ^ 32 → 0 < size
    → (run : RunsTo (at_start tsn size max most limits) cs s) → tsns_given (at_start tsn size max most limits) cs s run < 2 ^ 31
    → s.sending.sender.max_message_size ≤ s.receiving.receiver.max_message_size → (x : ChunkPayloadData) → IsInFlight x s
    → is_takable x s.receiving.receiver ≡ true → new_refusal x.tsn s.receiving.receiver ≡ None → arrival_refusal x s.receiving.receiver ≡ None
none-with-room tsn size max most limits cs s small some run few enough x f t room =
    let fit = fit-session tsn size max most limits cs s run in
    let h = kept-in tsn size max most limits cs s small some run few in
    let k = h.kept in
    let spread = k.unwrapped.spread in
    let queued = spread.holds.held.stands.queued in
    not-refused tsn (tsns_given (at_start tsn size max most limits) cs s run) few (abandoned_in (at_start tsn size max most limits) cs s run) s h
    (λ st. was-unassembled h.numbered tsn h.sent queued.line queued.indexed queued.joined
    (tsns_given (at_start tsn size max most limits) cs s run) spread.long few
    (abandoned_in (at_start tsn size max most limits) cs s run) k.passed.cut s spread.holds.made
    (made_in.all-made cs (at_start tsn size max most limits) s run refl) spread.step.taken.apart
    (complete-messages tsn size max most limits cs s run h.sent spread.holds.made) st spread.step.numbered.acked (k.kept st))
    (subst (λ k. AreWithin k s.written) (sym fit.sender) fit.writes)
    (subst (λ k. Every (λ (l : InboundStream). l.queue.max_message_size ≡ k) s.receiving.receiver.streams) (sym fit.streams.own) fit.streams.each)
    enough f.chunk x f.sent f.kept f.same t room

pub none-in-flight : AfterEachUnlimitedSession NoneInFlightIsRefused
none-in-flight tsn size max most cs s small some run few enough x f t = grind (arith, nat_tests, common_steps, none-with-room, limits-same)

-- ## Where nothing is to be read

found-all : (q p : InboundStream → Bool) (ls : List InboundStream) (l : InboundStream) → list_all q ls ≡ true → find p ls ≡ Some l → q l ≡ true
found-all q p [] l h e = absurd (none-some l e)
found-all q p (x ∷ xs) l h e = at-test (λ b. (if b then Some x else find p xs) ≡ Some l → q l ≡ true) (p x)
    (λ e f. ap q (sym (some-same f)) ∙ (both (q x) (list_all q xs) h).0)
    (λ e f. (found-all q p xs l (both (q x) (list_all q xs) h).1) f) e

takable-where-read : (x : ChunkPayloadData) (r : Reception) → reads_nothing r ≡ true → is_open x.stream_identifier r ≡ true → is_takable x r ≡ true
takable-where-read x r none open' = grind (arith, nat_tests, common_steps, and, or-right, found-all)

pub none-where-read : AfterEachUnlimitedSession NoneIsRefusedWhereRead
none-where-read tsn size max most cs s small some run few enough none x f open' =
    none-in-flight tsn size max most cs s small some run few enough x f (takable-where-read x s.receiving.receiver none open')

-- and where the limits do not refuse its TSN
pub none-read-with-room : (tsn size max most : ℕ) (limits : Option Limits) (cs : List Call) (s : Session) → tsn < 2 ^ 32 → 0 < size
    → (run : RunsTo (at_start tsn size max most limits) cs s) → tsns_given (at_start tsn size max most limits) cs s run < 2 ^ 31
    → s.sending.sender.max_message_size ≤ s.receiving.receiver.max_message_size → reads_nothing s.receiving.receiver ≡ true → (x : ChunkPayloadData)
    → IsInFlight x s → is_open x.stream_identifier s.receiving.receiver ≡ true → new_refusal x.tsn s.receiving.receiver ≡ None
    → arrival_refusal x s.receiving.receiver ≡ None
none-read-with-room tsn size max most limits cs s small some run few enough none x f open' room =
    none-with-room tsn size max most limits cs s small some run few enough x f (takable-where-read x s.receiving.receiver none open') room
