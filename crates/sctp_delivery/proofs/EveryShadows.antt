-- Sessions of every call: beside each there is one of a sender that keeps nothing, with the same chunks. So what is read is what was written.
use Rattle.sctp_delivery.proofs.Names.{common_steps, nat_tests, ◌≡◌, ℕ, ◌+◌, ◌<◌, ◌^◌, Bool, true, false, not, List, [], ◌∷◌, ◌++◌, length, map, Option, refl}
use Rattle.sctp_delivery.proofs.Names.{ap, sym, subst, ◌∙◌, arith, distance, not_both, or-left, or-right, filter, change_where, Limits, Modes, OutboundStream}
use Rattle.sctp_delivery.proofs.Names.{Call, Follows, Session, bytes_written, of_receiver, of_sender, at_first, has_number, Transmission, abandoned_by}
use Rattle.sctp_delivery.proofs.Names.{append-nil, append_assoc, SenderCall, Made, ForwardTsn, is_pair_of, list_any_at, made_after, stream_of, Mode, is_open}
use Rattle.sctp_delivery.proofs.Names.{modes_from, negated, or-split, Some, None, none-some, list_any-append, ChunkPayloadData, has_come, has_tsn, filter_of, ⊤}
use Rattle.sctp_delivery.proofs.Names.{IsAccounted, Contains, list_any, same-yes, forward_tsn, if◌then◌else◌, ◌||◌}
use Rattle.sctp_receiver.specs.ReceiverRuns as receiver_runs
use Rattle.sctp_sender.specs.declared.sender.Reported.{Reported}
use Rattle.sctp_sender.specs.Outgoing.{from_first}
use Rattle.sctp_sender.specs.Sender.{with_streams}
use Rattle.sctp_sender.specs.SenderRuns as sender_runs
use Rattle.sctp_stream.specs.Numbers.{swapped_out}
use Rattle.sctp_stream.proofs.Removals.{out-each}
use Rattle.sctp_receiver.specs.Inbound.{numbers_of}
use Rattle.sctp_receiver.proofs.StreamCosts.{are_apart}
use Rattle.sctp_receiver.proofs.Closed.{stays-apart}
use Rattle.sctp_delivery.specs.EveryCall.{AnyCall, FollowsAny, ReceiverDoes, ReceiverOther, RunsAny, SenderDoes, SenderOther, as_receiver_run, closes}
use Rattle.sctp_delivery.specs.EveryCall.{closes_incoming, discards, drops, makes, of_receiving, of_sending, passes_over, renews, resets, resets_incoming}
use Rattle.sctp_delivery.specs.EveryCall.{takes_back, tsns_given_any}
use Rattle.sctp_delivery.specs.EveryEnd.{abandoned_any, dropped_any, dropped_by, is_naming, is_unnamed}
use Rattle.sctp_delivery.specs.EveryOrder.{breaks, goes_on, is_unbroken, opens_incoming, plain_calls}
use Rattle.sctp_delivery.specs.ReceiverCalls as incoming
use Rattle.sctp_delivery.specs.Returns.{at_start_with}
use Rattle.sctp_delivery.proofs.AbandonedMessages.{AreAmong, AreBegunOrGone, AreMarkedGone, begun-later, cut-later, flight_of, gone-left, gone-right}
use Rattle.sctp_delivery.proofs.AbandonedMessages.{marked-later, stays-begun-or-gone, stays-cut, stays-marked}
use Rattle.sctp_delivery.proofs.Calls.{numbered_after}
use Rattle.sctp_delivery.proofs.Delivered.{next_tsn}
use Rattle.sctp_delivery.proofs.EveryFronts.{IsGoneAt, IsReadUp, gone-later, other-up, receiver-up, sender-up}
use Rattle.sctp_delivery.proofs.EveryGoes.{HasRun, closed-goes, closes-held, received-goes, received-too, reset-goes, resets-held, run-accounted, run-after}
use Rattle.sctp_delivery.proofs.EveryGoes.{run-beside, run-first, run-restreamed, with_sender, returns-goes, unmoved}
use Rattle.sctp_delivery.proofs.EveryKept.{IsDropOf, IsTold, drops-elsewhere, drops-told, elsewhere, listed, listed-more, other-told, receiver-told}
use Rattle.sctp_delivery.proofs.EveryKept.{sender-told, told-beside, told-first, whole-on}
use Rattle.sctp_delivery.proofs.EveryRuns as runs
use Rattle.sctp_delivery.proofs.EveryTurns.{open-after, open-after-other, opens-it, other-answered}
use Rattle.sctp_delivery.proofs.FewInFlight.{regular-of-few}
use Rattle.sctp_delivery.proofs.ModeSessions.{AreInModes, IsAsSaid, changed-in, said-after, said-beside, said-first}
use Rattle.sctp_delivery.proofs.PassedMessages.{AreCutGone, IsMadePassing, IsPassing, is_gone}
use Rattle.sctp_delivery.proofs.Plain.{are-plain, plain}
use Rattle.sctp_delivery.proofs.PlainCalls.{sender-goes}
use Rattle.sctp_delivery.proofs.PlainSessions.{Goes, Others, Shadows, gone_by, kept_of, modes_by, receives-too, goes-first}
use Rattle.sctp_delivery.proofs.Every.{every-contained}
use Rattle.sctp_delivery.proofs.SackLaws as sacks
use Rattle.sctp_delivery.proofs.Senders.{IsHeldOn}
use Rattle.sctp_delivery.proofs.Sent.{Entry, Numbered}
use Rattle.sctp_delivery.proofs.Sessions as made_in
use Rattle.sctp_delivery.proofs.Sessions.{IsTakenMade, more-made, unnot}
use Rattle.sctp_delivery.proofs.SpreadCalls.{IsSpreadOn, beside-spreads, receiver-spreads-on, sender-spreads-on, spread-first-on}
use Rattle.sctp_delivery.proofs.TsnPlaces.{base}
use Rattle.sctp_delivery.proofs.UnwrappedSessions.{IsAnswered, answered-first, receiver-answered-on, sender-answered-on}
use Rattle.sctp_delivery.proofs.Whole.{AreWholeOn}

-- # Streams of the sender that are left

-- the streams that are left are in the same modes
pub left-in-modes : (f : ℕ → Mode) (s : ℕ) (ls : List OutboundStream) → AreInModes f ls → AreInModes f (swapped_out (has_number s) ls)
left-in-modes f s ls h = grind (arith, nat_tests, common_steps, out-each)

-- # FORWARD-TSNs that were made

-- a name before, and one now
named-after : (st : ℕ) (call : SenderCall) (t : Transmission) (ms : List Made) → is_unnamed st ms ≡ false → is_unnamed st (made_after call t ms) ≡ false
named-after st call t ms e = ap not (more-made (is_naming st) call t ms (unnot (list_any (is_naming st) ms) e))

named-of : (st : ℕ) (ms : List Made) (g : ForwardTsn) → Contains ms (forward_tsn g) → list_any (is_pair_of st) g.streams ≡ true → is_unnamed st ms ≡ false
named-of st ms g c e = ap not (list_any_at (is_naming st) ms c.0 (forward_tsn g) c.1 (ap (is_naming st) c.2 ∙ e))

-- an ordered message of a stream may be passed over where it is named, and the message is gone
abbrev pub MayPass : ℕ → List ℕ → List Made → List Entry → ℕ → Type 0
MayPass st gone made sent j = (is_unnamed st made ≡ false) × IsGoneAt st gone sent j

-- # What is so of the receiver's streams

-- each has a number of its own; and of these streams those are open of which that is said
pub record IsReady (calm opened : ℕ → Bool) (s : Session) : Type 0 where
  pub apart : are_apart (numbers_of s.receiving.receiver.streams) ≡ true
  pub open' : (st : ℕ) → calm st ≡ true → opened st ≡ true → is_open st s.receiving.receiver ≡ true

pub ready-first : (calm : ℕ → Bool) (reported : Reported) (first size max most : ℕ) (limits : Option Limits)
    → IsReady calm (λ q. false) (at_start_with reported first size max most limits)
ready-first calm reported first size max most limits = record { apart = refl; open' = λ st c o. absurd (not_both o) }

-- the receiver stays as it is
ready-still : (calm opened : ℕ → Bool) (s v : Session) → v.receiving ≡ s.receiving → IsReady calm opened s → IsReady calm (λ q. opened q || false) v
ready-still calm opened s v same h = grind (arith, nat_tests, common_steps, or-split, not_both)

pub ready-after : (calm opened : ℕ → Bool) (c : AnyCall) (s v : Session) → FollowsAny c s v → ((st : ℕ) → calm st ≡ true → breaks (opened st) st c ≡ false)
    → IsReady calm opened s → IsReady calm (λ q. opened q || opens_incoming q c) v
ready-after h0 h1 h2 h3 h4 h5 h6 h7 =
    grind (arith, nat_tests, common_steps, ready-still, stays-apart, or-split, open-after, opens-it, open-after-other, not_both)

pub modes-on : (c : AnyCall) (cs : List AnyCall) (m : Modes) → modes_from (modes_from m (plain_calls (c ∷ []))) (plain_calls cs)
    ≡ modes_from m (plain_calls (c ∷ cs))
modes-on h0 h1 h2 = grind (arith, nat_tests, common_steps)

-- what the call abandons
abbrev gone_any : AnyCall → Session → List ℕ
gone_any (makes call) s = gone_by call s
gone_any (of_sending call) s = []
gone_any (of_receiving call) s = []

gone-on : (c : AnyCall) (cs : List AnyCall) (s new : Session) (r : RunsAny s (c ∷ cs) new)
    → gone_any c s ++ abandoned_any r.0 cs new r.1.1 ≡ abandoned_any s (c ∷ cs) new r
gone-on (makes (of_sender call)) cs s new r = refl
gone-on (makes (of_receiver call)) cs s new r = refl
gone-on (of_sending call) cs s new r = refl
gone-on (of_receiving call) cs s new r = refl

-- of which messages the call drops a chunk
abbrev dropped_of : AnyCall → Session → List ℕ
dropped_of (makes call) s = []
dropped_of (of_sending call) s = []
dropped_of (of_receiving call) s = dropped_by call s

dropped-on : (c : AnyCall) (cs : List AnyCall) (s new : Session) (r : RunsAny s (c ∷ cs) new)
    → dropped_of c s ++ dropped_any r.0 cs new r.1.1 ≡ dropped_any s (c ∷ cs) new r
dropped-on (makes call) cs s new r = refl
dropped-on (of_sending call) cs s new r = refl
dropped-on (of_receiving call) cs s new r = refl

-- what is alike is of the same messages
same-numbers : (t : ℕ) (cs : List ChunkPayloadData) → map (λ c. c.message_id) (filter (has_tsn t) (map plain cs))
    ≡ map (λ c. c.message_id) (filter (has_tsn t) cs)
same-numbers t [] = refl
same-numbers t (c ∷ cs) = grind (arith, nat_tests, common_steps, same-numbers t cs)

same-dropped : (call : ReceiverOther) (s d : Session) → Shadows s.sending.sender s d → dropped_by call d ≡ dropped_by call s
same-dropped (discards c) s d x =
    let cs = s.sending.sender.flight.queue.inflight.chunks in
    let is : d.sending.sender.flight.queue.inflight.chunks ≡ x.chunks = ap (λ (u : Transmission). u.flight.queue.inflight.chunks) x.sender in
    let alike = sym (same-numbers c.tsn x.chunks) ∙ ap (λ ds. map (λ (y : ChunkPayloadData). y.message_id) (filter (has_tsn c.tsn) ds))
    (sym (are-plain (kept_of s.sending.sender.kept) cs x.chunks x.like)) ∙ same-numbers c.tsn cs in
    ap (λ (y : receiver_runs.Stand). if has_come c.tsn (filter_of y.receiver) then [] else map (λ (z : ChunkPayloadData). z.message_id)
    (filter (has_tsn c.tsn) d.sending.sender.flight.queue.inflight.chunks)) x.receiving
    ∙ ap (λ ms. if has_come c.tsn (filter_of s.receiving.receiver) then [] else ms)
    (ap (λ ds. map (λ (z : ChunkPayloadData). z.message_id) (filter (has_tsn c.tsn) ds)) is ∙ alike)
same-dropped (closes_incoming st) s d x = refl
same-dropped (resets_incoming st last) s d x = refl
same-dropped (passes_over g) s d x = refl

-- what is gone stays so
wider : (gone answered others more : List ℕ) → AreAmong others more → AreAmong (gone ++ others) ((gone ++ answered) ++ more)
wider gone answered others more among k e = grind (arith, nat_tests, common_steps, or-split, list_any-append, gone-left, gone-right)

-- what the receiver was called for
pub record IsCalled (first : ℕ) (y : receiver_runs.Stand) : Type 0 where
  pub most : ℕ
  pub limits : Option Limits
  pub calls : List receiver_runs.Call
  pub run : receiver_runs.RunsTo (receiver_runs.at_start first most limits) calls y

called-then : (first : ℕ) (c : receiver_runs.Call) (y z : receiver_runs.Stand) → IsCalled first y → receiver_runs.Follows c y z → IsCalled first z
called-then first c y z h f = record {
  most = h.most;
  limits = h.limits;
  calls = h.calls ++ c ∷ [];
  run = more-run h.calls (receiver_runs.at_start first h.most h.limits) y h.run f;
}
  where
    more-run : (cs : List receiver_runs.Call) (a b : receiver_runs.Stand) → receiver_runs.RunsTo a cs b → receiver_runs.Follows c b z
        → receiver_runs.RunsTo a (cs ++ c ∷ []) z
    more-run [] a b r g = (z, (subst (λ l. receiver_runs.Follows c l z) r g, refl))
    more-run (d ∷ cs) a b r g = (r.0, (r.1.0, more-run cs r.0 b r.1.1 g))

-- # The session beside it

-- numbers go on on some streams; on some of these the receiver goes on, too. Of each of these it is told what becomes of its ordered messages; and where
-- it is said of which messages the receiver drops chunks, what becomes of the others
module _ (on dropped calm : ℕ → Bool) (lost : Option (List ℕ)) (sub : (st : ℕ) → calm st ≡ true → on st ≡ true) (first : ℕ) where
  abbrev IsSaid : Option (List ℕ) → Type 0
  IsSaid None = ⊤
  IsSaid (Some others) = lost ≡ Some others

  -- what stays true of it after n TSNs were given out
  pub record IsPlayedSo (d : Session) (n : ℕ) (gone : List ℕ) (m : Modes) : Type 0 where
    pub numbered : List Numbered
    pub sent : List Entry
    pub spread : IsSpreadOn on dropped first n d numbered sent
    pub said : IsAsSaid m d numbered sent
    pub begun : AreBegunOrGone gone (length numbered) sent d.sending.sender.flight.queue.pending
    pub answered : (st : ℕ) → calm st ≡ true → IsAnswered st first n sent spread.step.numbered.acked d
    pub up : (st : ℕ) → calm st ≡ true
        → IsReadUp st first n sent (MayPass st (gone ++ elsewhere st sent) d.made sent) (stream_of st d.receiving.receiver) d.receiving.read
    pub ran : HasRun first d
    pub taken : IsTakenMade d
    pub called : IsCalled first d.receiving
    pub apart : are_apart (numbers_of d.receiving.receiver.streams) ≡ true
    pub marked : AreMarkedGone gone (flight_of d).queue.inflight.chunks
    pub cut : AreCutGone gone sent
    pub told : (l : Option (List ℕ)) → IsSaid l → (st : ℕ) → calm st ≡ true → IsTold st first n (gone ++ listed l st sent) d sent

  -- what was read on such a stream
  whole : (d : Session) (n : ℕ) (gone : List ℕ) (m : Modes) (p : IsPlayedSo d n gone m) → n < 2 ^ 31 → (st : ℕ) → calm st ≡ true
      → AreWholeOn p.sent st d.receiving.read
  whole d n gone m p few st c =
      let h = p.called in
      let long = p.spread.long in
      whole-on on first d p.numbered p.sent st (sub st c) (omega (arith, long, few)) p.spread.holds.held.stands.queued.line
      p.spread.holds.held.stands.queued.indexed p.spread.holds.made (made_in.messages-so first h.most h.limits h.calls d h.run)
      (made_in.made-so first h.most h.limits h.calls d h.run p.taken) (made_in.read-on-so first h.most h.limits h.calls d h.run)

  abbrev PlaysSo : Session → ℕ → List ℕ → Modes → Type 0
  PlaysSo d n gone m = n < 2 ^ 31 → IsPlayedSo d n gone m

  -- where its sender stays as it is
  beside-played : (d e : Session) (n : ℕ) (gone : List ℕ) (m : Modes) → (same : e.sending ≡ d.sending) → (made : e.made ≡ d.made)
      → (written : e.written ≡ d.written) → (p : IsPlayedSo d n gone m) → (spread : IsSpreadOn on dropped first n e p.numbered p.sent)
      → ((st : ℕ) → calm st ≡ true → IsAnswered st first n p.sent spread.step.numbered.acked e)
      → ((st : ℕ) → calm st ≡ true
      → IsReadUp st first n p.sent (MayPass st (gone ++ elsewhere st p.sent) d.made p.sent) (stream_of st e.receiving.receiver) e.receiving.read)
      → IsTakenMade e → IsCalled first e.receiving → are_apart (numbers_of e.receiving.receiver.streams) ≡ true
      → ((l : Option (List ℕ)) → IsSaid l → (st : ℕ) → calm st ≡ true → IsTold st first n (gone ++ listed l st p.sent) e p.sent) → IsPlayedSo e n gone m
  beside-played d e n gone m same made written p spread answered up taken called apart told = record {
    numbered = p.numbered;
    sent = p.sent;
    spread = spread;
    said = said-beside d e m p.numbered p.sent same p.said;
    begun = subst (λ (l : sender_runs.Ledger). AreBegunOrGone gone (length p.numbered) p.sent l.sender.flight.queue.pending) (sym same) p.begun;
    answered = answered;
    up = λ st c. subst (λ ms. IsReadUp st first n p.sent (MayPass st (gone ++ elsewhere st p.sent) ms p.sent) (stream_of st e.receiving.receiver)
        e.receiving.read) (sym made) (up st c);
    ran = run-beside first d e same written p.ran;
    taken = taken;
    called = called;
    apart = apart;
    marked = subst (λ (l : sender_runs.Ledger). AreMarkedGone gone l.sender.flight.queue.inflight.chunks) (sym same) p.marked;
    cut = p.cut;
    told = told;
  }

  cut-with : (gone others : List ℕ) (sent : List Entry) → AreCutGone gone sent → AreCutGone (gone ++ others) sent
  cut-with gone others sent cut = cut-later gone (gone ++ others) (gone-left gone others) sent cut

  -- what FORWARD-TSNs that were made pass on such a stream
  made-passes : (st : ℕ) (d : Session) (n : ℕ) (gone : List ℕ) (m : Modes) (i : IsPlayedSo d n gone m) → calm st ≡ true → (g : ForwardTsn)
      → Contains d.made (forward_tsn g) → IsPassing (base first) (gone ++ elsewhere st i.sent) d i.sent g
  made-passes st d n gone m i c g h =
      every-contained (IsMadePassing (base first) (gone ++ elsewhere st i.sent) d i.sent) d.made (forward_tsn g) h (i.told None tt st c).passing

  pub onward : (d e : Session) (n : ℕ) (gone : List ℕ) (m : Modes) → PlaysSo d n gone m → (c : Call) → Follows c d e
      → PlaysSo e (n + distance (next_tsn d) (next_tsn e)) (gone ++ gone_by c d) (modes_by c m)
  onward d e n gone m p (of_sender call) f few =
      let small : n < 2 ^ 31 = omega (arith, few) in
      let i = p small in
      let x = sender-spreads-on on dropped first n call d e i.numbered i.sent i.spread few f in
      let answered = abandoned_by call d.sending.sender in
      let more = gone ++ answered in
      let same : e.receiving ≡ d.receiving = ap (λ (s : Session). s.receiving) f.after in
      let chunks = (flight_of d).queue.inflight.chunks in
      record {
        numbered = numbered_after call i.numbered;
        sent = x.more;
        spread = x.spread;
        said = said-after call d e m i.numbered i.sent x.more f x.grown i.spread.holds.held.sized i.said;
        begun =
            stays-begun-or-gone on (gone ++ answered) first d e i.numbered i.sent x.more i.spread.holds x.once
            (begun-later gone (gone ++ answered) (gone-left gone answered) (length i.numbered) i.sent d.sending.sender.flight.queue.pending i.begun) call
            (gone-right gone answered) f x.grown;
        answered = λ st c. sender-answered-on st first on dropped n call d e i.numbered i.sent i.spread few f x (i.answered st c);
        up = λ st c.
            sender-up st first on dropped (sub st c) n call d e i.numbered i.sent i.spread few f x
            (sender-answered-on st first on dropped n call d e i.numbered i.sent i.spread few f x (i.answered st c))
            (MayPass st (gone ++ elsewhere st i.sent) d.made i.sent) (MayPass st (more ++ elsewhere st x.more) e.made x.more)
            (λ j h. (
              ap (is_unnamed st) (ap (λ (s : Session). s.made) f.after) ∙ named-after st call d.sending.sender d.made h.0,
              gone-later st first n (gone ++ elsewhere st i.sent) (more ++ elsewhere st x.more)
                  (wider gone answered (elsewhere st i.sent) (elsewhere st x.more) (listed-more None st i.sent x.more x.once)) i.sent x.more i.spread.long
                  x.once j h.1,
            )) (i.up st c);
        ran = run-after first call d e f i.ran;
        taken = made_in.sent-made call d e f i.taken;
        called = subst (IsCalled first) (sym same) i.called;
        apart = subst (λ (y : receiver_runs.Stand). are_apart (numbers_of y.receiver.streams) ≡ true) (sym same) i.apart;
        marked = stays-marked more d e
            (record { ordered = i.spread.step.valid.ordered; unordered = i.spread.step.valid.unordered })
            (marked-later gone more (gone-left gone answered) chunks i.marked) call (gone-right gone answered) f;
        cut = stays-cut on more first d e i.numbered i.sent x.more i.spread.holds x.spread.holds.held.stands.counted
            (cut-later gone more (gone-left gone answered) i.sent i.cut) call (gone-right gone answered) f x.grown;
        told = λ l said st c.
            let before = listed l st i.sent in
            let after = listed l st x.more in
            sender-told on dropped st first n small d i.numbered i.sent i.spread (gone ++ before) (i.answered st c) (i.told l said st c) call e few f x
            (more ++ after) (wider gone answered before after (listed-more l st i.sent x.more x.once))
            (marked-later gone (more ++ after) (λ k g. gone-left more after k (gone-left gone answered k g)) chunks i.marked);
      }
  onward d e n gone m p (of_receiver call) f few =
      let small : n < 2 ^ 31 = omega (arith, few) in
      let i = p small in
      let none = sacks.no-move (base first) n d e (ap (λ (s : Session). s.sending) f.after) i.spread.step.numbered in
      let spread = receiver-spreads-on on dropped first n call d e i.numbered i.sent small f i.spread in
      subst (λ k. IsPlayedSo e k (gone ++ []) m) {x = n} {y = n + distance (next_tsn d) (next_tsn e)} (omega (arith, none))
      (subst (λ xs. IsPlayedSo e n xs m) (sym (append-nil gone))
      (beside-played d e n gone m (ap (λ (s : Session). s.sending) f.after) (ap (λ (s : Session). s.made) f.after) (ap (λ (s : Session). s.written) f.after)
      i spread (λ st c. receiver-answered-on st first on dropped (sub st c) n call d e i.numbered i.sent i.spread small f spread (i.answered st c))
      (λ st c. receiver-up st first on dropped (sub st c) n d i.numbered i.sent i.spread small e (i.answered st c).0
      (MayPass st (gone ++ elsewhere st i.sent) d.made i.sent) (i.up st c) (gone ++ elsewhere st i.sent) (cut-with gone (elsewhere st i.sent) i.sent i.cut)
      (made-passes st d n gone m i c) (λ g h j name at. (named-of st d.made g h name, at)) call f) (made_in.taken-made call d e f i.taken)
      (called-then first (incoming.as_run call) d.receiving e.receiving i.called f.step)
      (stays-apart (incoming.as_run call) d.receiving.receiver e.receiving.receiver f.step.receiver i.apart)
      (λ l said st c. receiver-told on dropped st first n small d i.numbered i.sent i.spread (gone ++ listed l st i.sent) (i.answered st c)
      (i.told l said st c) (cut-with gone (listed l st i.sent) i.sent i.cut) i.taken (whole d n gone m i small st c) e i.apart call f)))

  pub played-accounted : (d : Session) (n : ℕ) (gone : List ℕ) (m : Modes) → IsPlayedSo d n gone m → IsAccounted d
  played-accounted d n gone m i = run-accounted first d i.ran

  abbrev pub every : Others first
  every = record {
    Bound = λ n k. n < 2 ^ 31;
    fewer = λ n k more few. omega (arith, few);
    Plays = λ d n gone m. n < 2 ^ 31 → IsPlayedSo d n gone m;
    onward = λ d e n gone m was few p c f. onward d e n gone m p c f;
    regular = λ d n gone m few p. regular-of-few dropped (base first) n d (p few).spread.step;
    room = λ d n gone m more few p. let total = (p (omega (arith, few))).spread.step.numbered.total in omega (arith, total, few);
    accounted = λ d n gone m few p. played-accounted d n gone m (p few);
  }

  -- ## The calls that most sessions do not have

  -- the sender has other streams
  with-streams : (d : Session) (n : ℕ) (gone : List ℕ) (m : Modes) (ls : List OutboundStream) (c : sender_runs.Call)
      → sender_runs.Follows c d.sending (record d.sending { sender = with_streams ls d.sending.sender }) → (i : IsPlayedSo d n gone m)
      → IsHeldOn on i.numbered first (with_streams ls d.sending.sender) i.sent → AreInModes m.of_streams ls
      → IsPlayedSo (with_sender (with_streams ls d.sending.sender) d) n gone m
  with-streams d n gone m ls c f i h modes = record {
    numbered = i.numbered;
    sent = i.sent;
    spread = record {
      holds = record { held = h; made = i.spread.holds.made; writes = i.spread.holds.writes; placed = i.spread.holds.placed };
      step = grind (arith, nat_tests, common_steps);
      long = i.spread.long;
      near = i.spread.near;
      names = i.spread.names;
    };
    said = assumption i.said;
    begun = i.begun;
    answered = i.answered;
    up = i.up;
    ran = run-restreamed first d ls c f i.ran;
    taken = i.taken;
    called = i.called;
    apart = i.apart;
    marked = i.marked;
    cut = i.cut;
    told = λ l said st k.
        told-beside st first n (gone ++ listed l st i.sent) d (with_sender (with_streams ls d.sending.sender) d) i.sent refl refl (i.told l said st k);
  }

  module _ (s v : Session) (n : ℕ) (gone : List ℕ) (m : Modes) (g : Goes first every s.sending.sender s n gone m) where
    abbrev d : Session
    d = g.other

    other-goes : (call : SenderOther) → ((r : ℕ) → renews r (of_sending call) ≡ true → on r ≡ false) → SenderDoes call s v
        → Goes first every v.sending.sender v n gone m
    other-goes (takes_back sack back) off f = grind (arith, nat_tests, common_steps, returns-goes)
    other-goes (closes st) off f = closed-goes first every s v n gone m g st f (λ few.
        let i = g.plays few in
        with-streams d n gone m (swapped_out (has_number st) d.sending.sender.streams) (sender_runs.closes st)
        (record { sender = refl; written = omega arith; released = omega arith; taken_back = omega arith }) i
        (closes-held on first st (off st (same-yes st)) i.numbered d.sending.sender i.sent i.spread.holds.held)
        (left-in-modes m.of_streams st d.sending.sender.streams i.said.sender.streams))
    other-goes (resets st) off f = reset-goes first every s v n gone m g st f (λ few.
        let i = g.plays few in
        with-streams d n gone m (change_where (has_number st) from_first d.sending.sender.streams) (sender_runs.resets st)
        (record { sender = refl; written = omega arith; released = omega arith; taken_back = omega arith }) i
        (resets-held on first st (off st (same-yes st)) i.numbered d.sending.sender i.sent i.spread.holds.held)
        (changed-in m.of_streams (has_number st) from_first (record { number = λ l. refl; unordered = λ l. refl; reliability = λ l. refl; value = λ l. refl })
        d.sending.sender.streams i.said.sender.streams))

    -- of which messages it drops chunks
    drops-of : (opened : ℕ → Bool) (call : ReceiverOther) → ((others : List ℕ) → lost ≡ Some others → AreAmong (dropped_by call s) others)
        → (few : n < 2 ^ 31) (st : ℕ) (c : calm st ≡ true) → breaks (opened st) st (of_receiving call) ≡ false → (l : Option (List ℕ)) → IsSaid l
        → IsDropOf (gone ++ listed l st (g.plays few).sent) (g.plays few).sent d call
    drops-of opened call covers few st c off None said = grind (arith, nat_tests, common_steps, drops-elsewhere, gone-right)
    drops-of opened call covers few st c off (Some others) said =
        let i = g.plays few in
        drops-told on dropped st first n few d i.numbered i.sent i.spread (gone ++ others) (i.answered st c) (i.told (Some others) said st c) call
        (λ k e. gone-right gone others k (covers others said k (subst (λ xs. is_gone xs k ≡ true) (same-dropped call s d g.shadow) e)))

    other-receives : (opened : ℕ → Bool) → IsReady calm opened s → (call : ReceiverOther)
        → ((t : ℕ) → drops t (of_receiving call) ≡ true → dropped t ≡ true)
        → ((st : ℕ) → calm st ≡ true → breaks (opened st) st (of_receiving call) ≡ false)
        → ((others : List ℕ) → lost ≡ Some others → AreAmong (dropped_by call s) others) → ReceiverDoes call s v
        → Goes first every v.sending.sender v n gone m
    other-receives opened ready call so unbroken covers f =
        let x = g.shadow in
        let e : Session = record d { receiving = v.receiving } in
        let f' = received-too first every s v n gone m g call f in
        received-goes first every s v n gone m g call f (λ few.
        let i = g.plays few in
        let spread = beside-spreads on dropped first n d e i.numbered i.sent few refl refl refl
        (runs.receiver-other dropped (base first) n few d e i.spread.step call so f') i.spread in
        beside-played d e n gone m refl refl refl i spread
        (λ st c. other-answered st first on dropped (sub st c) n d i.numbered i.sent i.spread few e (opened st)
        (λ o. subst (λ (y : receiver_runs.Stand). is_open st y.receiver ≡ true) (sym x.receiving) (ready.open' st c o))
        (subst (λ (y : receiver_runs.Stand). are_apart (numbers_of y.receiver.streams) ≡ true) (sym x.receiving) ready.apart) call f'
        (unbroken st c) spread
        (i.answered st c))
        (λ st c. other-up st first on dropped (sub st c) n d i.numbered i.sent i.spread few e (i.answered st c).0
        (MayPass st (gone ++ elsewhere st i.sent) d.made i.sent) (i.up st c) (gone ++ elsewhere st i.sent)
        (cut-with gone (elsewhere st i.sent) i.sent i.cut) (made-passes st d n gone m i c) (λ g h j name at. (named-of st d.made g h name, at))
        (opened st) (subst (λ (y : receiver_runs.Stand). are_apart (numbers_of y.receiver.streams) ≡ true) (sym x.receiving) ready.apart) call f'
        (unbroken st c)) (runs.takes-made (of_receiving call) d e f' i.taken)
        (called-then first (as_receiver_run call) d.receiving e.receiving i.called f'.step)
        (stays-apart (as_receiver_run call) d.receiving.receiver e.receiving.receiver f'.step.receiver i.apart)
        (λ l said st c. other-told on dropped st first n few d i.numbered i.sent i.spread (gone ++ listed l st i.sent) (i.answered st c)
        (i.told l said st c) (cut-with gone (listed l st i.sent) i.sent i.cut) i.taken (whole d n gone m i few st c) e i.apart (opened st) call f'
        (unbroken st c) (drops-of opened call covers few st c (unbroken st c) l said)))

  -- ## Every call

  -- there is such a session
  abbrev pub HasBesideSo : Session → ℕ → List ℕ → Modes → Type 0
  HasBesideSo s n gone m = Goes first every s.sending.sender s n gone m

  one-any : (opened : ℕ → Bool) (c : AnyCall) (s v : Session) (n : ℕ) (gone : List ℕ) (m : Modes) → FollowsAny c s v
      → n + distance (next_tsn s) (next_tsn v) < 2 ^ 31
      → bytes_written v < 2 ^ 64 → ((t : ℕ) → drops t c ≡ true → dropped t ≡ true) → ((r : ℕ) → renews r c ≡ true → on r ≡ false)
      → ((st : ℕ) → calm st ≡ true → breaks (opened st) st c ≡ false) → ((others : List ℕ) → lost ≡ Some others → AreAmong (dropped_of c s) others)
      → IsReady calm opened s → HasBesideSo s n gone m
      → HasBesideSo v (n + distance (next_tsn s) (next_tsn v)) (gone ++ gone_any c s) (modes_from m (plain_calls (c ∷ [])))
  one-any opened (makes (of_sender call)) s v n gone m f few short so off whole covers ready h =
      sender-goes first every s v n gone m (omega (arith, few)) few h call short f
  one-any opened (makes (of_receiver call)) s v n gone m f few short so off whole covers ready h =
      unmoved first every s v n gone m (ap (λ (y : Session). next_tsn y) f.after) (omega (arith, few)) h
      (receives-too first every call s v n gone m (omega (arith, few)) h f)
  one-any opened (of_sending call) s v n gone m f few short so off whole covers ready h =
      unmoved first every s v n gone m (runs.next-same call s v f) (omega (arith, few)) h (other-goes s v n gone m h call off f)
  one-any opened (of_receiving call) s v n gone m f few short so off whole covers ready h =
      unmoved first every s v n gone m (ap (λ (y : Session). next_tsn y) f.after) (omega (arith, few)) h
      (other-receives s v n gone m h opened ready call so whole covers f)

  all-any : (opened : ℕ → Bool) (cs : List AnyCall) (s new : Session) (n : ℕ) (gone : List ℕ) (m : Modes) (r : RunsAny s cs new)
      → n + tsns_given_any s cs new r < 2 ^ 31
      → bytes_written new < 2 ^ 64 → ((t : ℕ) → list_any (drops t) cs ≡ true → dropped t ≡ true)
      → ((q : ℕ) → list_any (renews q) cs ≡ true → on q ≡ false) → ((q : ℕ) → calm q ≡ true → goes_on (opened q) q cs ≡ true)
      → ((others : List ℕ) → lost ≡ Some others → AreAmong (dropped_any s cs new r) others) → IsReady calm opened s → HasBesideSo s n gone m
      → HasBesideSo new (n + tsns_given_any s cs new r) (gone ++ abandoned_any s cs new r) (modes_from m (plain_calls cs))
  all-any opened [] s new n gone m r few short so off whole covers ready h = grind (arith, nat_tests, common_steps, append-nil)
  all-any opened (c ∷ cs) s new n gone m r few short so off whole covers ready h =
      let d = distance (next_tsn s) (next_tsn r.0) in
      let rest = tsns_given_any r.0 cs new r.1.1 in
      let bytes = runs.grows cs r.0 new r.1.1 in
      let sum : (n + d) + rest ≡ n + (d + rest) = omega arith in
      let one : (q : ℕ) → calm q ≡ true → (breaks (opened q) q c ≡ false) × (goes_on (opened q || opens_incoming q c) q cs ≡ true) =
      grind (arith, nat_tests, common_steps, not, negated) in
      let left : (gone ++ gone_any c s) ++ abandoned_any r.0 cs new r.1.1 ≡ gone ++ abandoned_any s (c ∷ cs) new r =
      append_assoc gone (gone_any c s) (abandoned_any r.0 cs new r.1.1) ∙ ap (λ xs. gone ++ xs) (gone-on c cs s new r) in
      subst (λ k. HasBesideSo new k (gone ++ abandoned_any s (c ∷ cs) new r) (modes_from m (plain_calls (c ∷ cs)))) sum
      (subst (λ xs. HasBesideSo new ((n + d) + rest) xs (modes_from m (plain_calls (c ∷ cs)))) left
      (subst (HasBesideSo new ((n + d) + rest) ((gone ++ gone_any c s) ++ abandoned_any r.0 cs new r.1.1)) (modes-on c cs m)
      (all-any (λ q. opened q || opens_incoming q c) cs r.0 new (n + d) (gone ++ gone_any c s) (modes_from m (plain_calls (c ∷ []))) r.1.1
      (omega (arith, few)) short
      (λ t e. so t (or-right (drops t c) (list_any (drops t) cs) e)) (λ q e. off q (or-right (renews q c) (list_any (renews q) cs) e))
      (λ q e. (one q e).1) (λ others is k g. covers others is k (subst (λ xs. is_gone xs k ≡ true) (dropped-on c cs s new r)
      (gone-right (dropped_of c s) (dropped_any r.0 cs new r.1.1) k g))) (ready-after calm opened c s r.0 r.1.0 (λ q e. (one q e).0) ready)
      (one-any opened c s r.0 n gone m r.1.0 (omega (arith, few)) (omega (arith, bytes, short)) (λ t e. so t (or-left (drops t c) (list_any (drops t) cs) e))
      (λ q e. off q (or-left (renews q c) (list_any (renews q) cs) e)) (λ q e. (one q e).0)
      (λ others is k g. covers others is k (subst (λ xs. is_gone xs k ≡ true) (dropped-on c cs s new r)
      (gone-left (dropped_of c s) (dropped_any r.0 cs new r.1.1) k g))) ready h))))

  begins : (reported : Reported) (size max most : ℕ) (limits : Option Limits) → first < 2 ^ 32 → 0 < size
      → HasBesideSo (at_start_with reported first size max most limits) 0 [] at_first
  begins reported size max most limits small some = goes-first first every reported size max most limits (λ few. record {
    numbered = [];
    sent = [];
    spread = spread-first-on on dropped first size max most limits small some;
    said = said-first first size max most limits;
    begun = λ k lt e. absurd (omega (arith, lt));
    answered = λ st c. answered-first st first on dropped size max most limits small some;
    up = λ st c.
        record { next = 0; number = omega arith; front = tt; within = omega arith; near = omega arith; done = λ j lt. absurd (omega (arith, lt)) };
    ran = run-first first size max most limits;
    taken = refl;
    called = record { most = most; limits = limits; calls = []; run = refl };
    apart = refl;
    marked = tt;
    cut = tt;
    told = λ l said st c. told-first st first size max most limits (listed l st []) small;
  })

  pub has-beside-so : (reported : Reported) (size max most : ℕ) (limits : Option Limits) (cs : List AnyCall) (s : Session)
      → (r : RunsAny (at_start_with reported first size max most limits) cs s) → first < 2 ^ 32 → 0 < size
      → tsns_given_any (at_start_with reported first size max most limits) cs s r < 2 ^ 31 → bytes_written s < 2 ^ 64
      → ((t : ℕ) → list_any (drops t) cs ≡ true → dropped t ≡ true) → ((q : ℕ) → list_any (renews q) cs ≡ true → on q ≡ false)
      → ((q : ℕ) → calm q ≡ true → is_unbroken cs q ≡ true)
      → ((others : List ℕ) → lost ≡ Some others → AreAmong (dropped_any (at_start_with reported first size max most limits) cs s r) others)
      → HasBesideSo s (tsns_given_any (at_start_with reported first size max most limits) cs s r)
      (abandoned_any (at_start_with reported first size max most limits) cs s r) (modes_from at_first (plain_calls cs))
  has-beside-so reported size max most limits cs s r small some few short so off whole covers =
      let n = tsns_given_any (at_start_with reported first size max most limits) cs s r in
      subst (λ k. HasBesideSo s k (abandoned_any (at_start_with reported first size max most limits) cs s r) (modes_from at_first (plain_calls cs)))
      {x = 0 + n} {y = n} (omega arith)
      (all-any (λ q. false) cs (at_start_with reported first size max most limits) s 0 [] at_first r (omega (arith, few)) short so off whole covers
      (ready-first calm reported first size max most limits) (begins reported size max most limits small some))

-- ## Where it is not said of which messages chunks are dropped

abbrev pub IsPlayed : (on dropped calm : ℕ → Bool) (sub : (st : ℕ) → calm st ≡ true → on st ≡ true) (first : ℕ)
    → Session → ℕ → List ℕ → Modes → Type 0
IsPlayed on dropped calm sub first d n gone m = IsPlayedSo on dropped calm None sub first d n gone m

abbrev pub HasBeside : (on dropped calm : ℕ → Bool) (sub : (st : ℕ) → calm st ≡ true → on st ≡ true) (first : ℕ)
    → Session → ℕ → List ℕ → Modes → Type 0
HasBeside on dropped calm sub first s n gone m = HasBesideSo on dropped calm None sub first s n gone m

pub has-beside : (on dropped calm : ℕ → Bool) (sub : (st : ℕ) → calm st ≡ true → on st ≡ true) (first : ℕ) (reported : Reported) (size max most : ℕ)
    (limits : Option Limits) (cs : List AnyCall) (s : Session)
    → (r : RunsAny (at_start_with reported first size max most limits) cs s) → first < 2 ^ 32 → 0 < size
    → tsns_given_any (at_start_with reported first size max most limits) cs s r < 2 ^ 31 → bytes_written s < 2 ^ 64
    → ((t : ℕ) → list_any (drops t) cs ≡ true → dropped t ≡ true) → ((q : ℕ) → list_any (renews q) cs ≡ true → on q ≡ false)
    → ((q : ℕ) → calm q ≡ true → is_unbroken cs q ≡ true)
    → HasBeside on dropped calm sub first s (tsns_given_any (at_start_with reported first size max most limits) cs s r)
    (abandoned_any (at_start_with reported first size max most limits) cs s r) (modes_from at_first (plain_calls cs))
has-beside on dropped calm sub first reported size max most limits cs s r small some few short so off whole =
    grind (arith, nat_tests, common_steps, has-beside-so, none-some)
