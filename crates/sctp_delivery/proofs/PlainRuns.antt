-- Sessions of a sender that keeps what is reported: beside each there is one in which no gap ack block is taken, with the same chunks.
use Rattle.sctp_delivery.proofs.Names.{nat_tests, common_steps, ◌≡◌, AllPairs, ℕ, ◌<◌, ◌≤◌, ◌+◌, ◌^◌, true, List, [], ◌∷◌, ◌++◌, length, refl, ap, ap₂, sym}
use Rattle.sctp_delivery.proofs.Names.{subst, ◌∙◌, arith, append_assoc, Option, ◌==◌, ◌&&◌, Contains, Limits, Transmission, Drop, Session, RunsTo, at_start}
use Rattle.sctp_delivery.proofs.Names.{bytes_written, of_receiver, of_sender, abandoned_in, tsns_given, Modes, at_first, modes_from, Write, chunk_count}
use Rattle.sctp_delivery.proofs.Names.{is_exhausted, reads_nothing, StandAt, AreMade, AreMessages, Stand, Call, Data, data_chunk, EachOtherIsReadOnce}
use Rattle.sctp_delivery.proofs.Names.{slice_index_or, AreWrites, AreWritesOfTheirOwn, NoneIsReadTwice, AreReadInOrder, NoneIsRefused, NoneIsTakenTwice}
use Rattle.sctp_delivery.proofs.Names.{EachSackTells, was_passed, was_taken, not_both, ◌||◌}
use Rattle.std.specs.Prelude.{◌≢◌}
use Rattle.sctp_util.specs.Serial.{distance}
use Rattle.sctp_sender.specs.declared.sender.Reported.{Reported}
use Rattle.sctp_sender.specs.declared.sender.Reported.TheVariants.{Keep}
use Rattle.sctp_delivery.specs.Abandoned.{IsEachOtherReadInTheEnd}
use Rattle.sctp_delivery.specs.Messages.{AreParts, IsPart}
use Rattle.sctp_delivery.specs.Modes.{AreReadAsWritten, AreSentAsWritten, IsUnorderedAt, was_written_ordered}
use Rattle.sctp_delivery.specs.Order.{places_where}
use Rattle.sctp_delivery.specs.Returns.{AfterEachWithReturns, AfterEachWithReturnsOfFewInFlight, AfterEachWithReturnsOfFewTsns, AreFewInFlightSo, CallOrReturn}
use Rattle.sctp_delivery.specs.Returns.{IsAccountedSo, FollowsOrReturns, RunsWithReturns, abandoned_so, at_start_with, makes, other_calls, takes_back}
use Rattle.sctp_delivery.specs.Returns.{tsns_given_so}
use Rattle.sctp_delivery.specs.Sacks.{AcknowledgedCame, LeftCame, ReportWhatCame}
use Rattle.sctp_delivery.specs.EveryCall.{AcknowledgedArrived, LeftArrived, ReportWhatArrived, drops}
use Rattle.sctp_delivery.specs.Session.{count_in_flight}
use Rattle.sctp_delivery.proofs.Delivered as delivered
use Rattle.sctp_delivery.proofs.Delivered.{next_tsn}
use Rattle.sctp_delivery.proofs.EveryGoes.{returns-goes, unmoved}
use Rattle.sctp_delivery.proofs.EveryRuns as every
use Rattle.sctp_delivery.proofs.FewInFlight.{regular-first}
use Rattle.sctp_delivery.proofs.ReturnsAny.{any_calls, as_any, follows-any, none-dropped, of-each, of-few-tsns, runs-any}
use Rattle.sctp_delivery.proofs.FewYoung as few_young
use Rattle.sctp_delivery.proofs.ModeSessions as modes
use Rattle.sctp_delivery.proofs.OthersOnce as others
use Rattle.sctp_delivery.proofs.Plain.{are-long}
use Rattle.sctp_delivery.proofs.PlainCalls.{sender-goes}
use Rattle.sctp_delivery.proofs.PlainSessions.{Goes, Shadows, Others, gone_by, kept_of, modes_by, plain, receives-too, goes-first}
use Rattle.sctp_delivery.proofs.SackLaws.{IsInStepBut}
use Rattle.sctp_delivery.proofs.SackSteps.{none_dropped}
use Rattle.sctp_delivery.proofs.TsnPlaces.{base}

-- ## Bytes

pub accounted : AfterEachWithReturns (λ calls s. IsAccountedSo s)
accounted = of-each (λ cs s. IsAccountedSo s) every.accounted

-- ## Every call

pub grows : (cs : List CallOrReturn) (old new : Session) → RunsWithReturns old cs new → bytes_written old ≤ bytes_written new
grows cs old new r = every.grows (any_calls cs) old new (runs-any cs old new r)

-- what a call abandons, and what it makes of the modes
abbrev gone_so : CallOrReturn → Session → List ℕ
gone_so (makes call) s = gone_by call s
gone_so (takes_back sack back) s = []

abbrev modes_so : CallOrReturn → Modes → Modes
modes_so (makes call) m = modes_by call m
modes_so (takes_back sack back) m = m

gone-cons : (c : CallOrReturn) (cs : List CallOrReturn) (s new : Session) (r : RunsWithReturns s (c ∷ cs) new)
    → abandoned_so s (c ∷ cs) new r ≡ gone_so c s ++ abandoned_so r.0 cs new r.1.1
gone-cons (makes (of_sender call)) cs s new r = refl
gone-cons (makes (of_receiver call)) cs s new r = refl
gone-cons (takes_back sack back) cs s new r = refl

modes-cons : (c : CallOrReturn) (cs : List CallOrReturn) (m : Modes) → modes_from m (other_calls (c ∷ cs)) ≡ modes_from (modes_so c m) (other_calls cs)
modes-cons h0 h1 h2 = grind (arith, nat_tests, common_steps)

module _ (first : ℕ) (others : Others first) where
  -- one call
  pub one-goes : (c : CallOrReturn) (s v : Session) (n : ℕ) (gone : List ℕ) (m : Modes) → FollowsOrReturns c s v
      → others.Bound n (count_in_flight s) → others.Bound (n + distance (next_tsn s) (next_tsn v)) (count_in_flight v) → bytes_written v < 2 ^ 64
      → Goes first others s.sending.sender s n gone m
      → Goes first others v.sending.sender v (n + distance (next_tsn s) (next_tsn v)) (gone ++ gone_so c s) (modes_so c m)
  one-goes (makes (of_sender call)) s v n gone m f was few short g = sender-goes first others s v n gone m was few g call short f
  one-goes (makes (of_receiver call)) s v n gone m f was few short g =
      unmoved first others s v n gone m (ap (λ (y : Session). next_tsn y) f.after) was g (receives-too first others call s v n gone m was g f)
  one-goes (takes_back sack back) s v n gone m f was few short g =
      unmoved first others s v n gone m (ap (λ (y : Transmission). y.flight.next_tsn) f.exact) was g (returns-goes first others sack back s v n gone m f g)

module _ (first size max most : ℕ) (limits : Option Limits) where
  abbrev Going : Session → ℕ → List ℕ → Modes → Type 0
  Going s n gone m = Goes first (plain first size max most limits) s.sending.sender s n gone m

  -- while few chunks are in flight
  all-go : (cs : List CallOrReturn) (s new : Session) (r : RunsWithReturns s cs new) (n : ℕ) (gone : List ℕ) (m : Modes) → count_in_flight s < 2 ^ 31
      → AreFewInFlightSo s cs new r → bytes_written new < 2 ^ 64 → Going s n gone m
      → Going new (n + tsns_given_so s cs new r) (gone ++ abandoned_so s cs new r) (modes_from m (other_calls cs))
  all-go [] s new r n gone m was few short g = grind (arith, nat_tests, common_steps)
  all-go (c ∷ cs) s new r n gone m was few short g =
      let d = distance (next_tsn s) (next_tsn r.0) in
      let rest = tsns_given_so r.0 cs new r.1.1 in
      let bytes = grows cs r.0 new r.1.1 in
      let one = one-goes first (plain first size max most limits) c s r.0 n gone m r.1.0 was few.0 (omega (arith, bytes, short)) g in
      let then' = all-go cs r.0 new r.1.1 (n + d) (gone ++ gone_so c s) (modes_so c m) few.0 few.1 short one in
      let sum : (n + d) + rest ≡ n + (d + rest) = omega arith in
      let left : (gone ++ gone_so c s) ++ abandoned_so r.0 cs new r.1.1 ≡ gone ++ abandoned_so s (c ∷ cs) new r =
      append_assoc gone (gone_so c s) (abandoned_so r.0 cs new r.1.1) ∙ ap (λ xs. gone ++ xs) (sym (gone-cons c cs s new r)) in
      subst (λ k. Going new k (gone ++ abandoned_so s (c ∷ cs) new r) (modes_from m (other_calls (c ∷ cs)))) sum
      (subst (λ xs. Going new ((n + d) + rest) xs (modes_from m (other_calls (c ∷ cs)))) left
      (subst (Going new ((n + d) + rest) ((gone ++ gone_so c s) ++ abandoned_so r.0 cs new r.1.1)) (sym (modes-cons c cs m)) then'))

-- fewer chunks are in flight than TSNs were given out
few-flying : (first n : ℕ) (cs : List CallOrReturn) (s new : Session) (r : RunsWithReturns s cs new) → n + tsns_given_so s cs new r < 2 ^ 31
    → IsInStepBut none_dropped (base first) n s → AreFewInFlightSo s cs new r
few-flying first n [] s new r few i = tt
few-flying first n (c ∷ cs) s new r few i =
    let d = distance (next_tsn s) (next_tsn r.0) in
    let h = every.one-step none_dropped (base first) (as_any c) n s r.0 (omega (arith, few)) (λ t e. absurd (not-dropping c t e))
    (follows-any c s r.0 r.1.0) i in
    let total = h.numbered.total in
    (omega (arith, total, few), few-flying first (n + d) cs r.0 new r.1.1 (omega (arith, few)) h)
  where
    not-dropping : (k : CallOrReturn) (t : ℕ) → drops t (as_any k) ≡ true → ⊥
    not-dropping (makes call) t e = not_both e
    not-dropping (takes_back sack back) t e = not_both e

pub at-start : (reported : Reported) (first size max most : ℕ) (limits : Option Limits) → first < 2 ^ 32
    → Goes first (plain first size max most limits) (at_start_with reported first size max most limits).sending.sender
    (at_start_with reported first size max most limits) 0 [] at_first
at-start reported first size max most limits small = grind (arith, nat_tests, common_steps, goes-first, regular-first)

pub none-flying : (reported : Reported) (first size max most : ℕ) (limits : Option Limits)
    → count_in_flight (at_start_with reported first size max most limits) ≡ 0
none-flying Drop first size max most limits = refl
none-flying Keep first size max most limits = refl

-- what all sessions have
module _ (reported : Reported) (first size max most : ℕ) (limits : Option Limits) (calls : List CallOrReturn) (s : Session)
    (run : RunsWithReturns (at_start_with reported first size max most limits) calls s) (small : first < 2 ^ 32)
    (flying : AreFewInFlightSo (at_start_with reported first size max most limits) calls s run) (short : bytes_written s < 2 ^ 64) where
  pub goes : Goes first (plain first size max most limits) s.sending.sender s
      (tsns_given_so (at_start_with reported first size max most limits) calls s run)
      (abandoned_so (at_start_with reported first size max most limits) calls s run) (modes_from at_first (other_calls calls))
  goes =
      let none = none-flying reported first size max most limits in
      subst (λ k. Goes first (plain first size max most limits) s.sending.sender s k
      (abandoned_so (at_start_with reported first size max most limits) calls s run)
      (modes_from at_first (other_calls calls))) {x = 0 + tsns_given_so (at_start_with reported first size max most limits) calls s run} (omega arith)
      (all-go first size max most limits calls (at_start_with reported first size max most limits) s run 0 [] at_first (omega (arith, none))
      flying short (at-start reported first size max most limits small))

  abbrev pub other : Session
  other = goes.other

  pub shadow : Shadows s.sending.sender s goes.other
  shadow = goes.shadow

  as-seen : goes.other ≡ record { sending = goes.other.sending; receiving = s.receiving; made = s.made; sacks = goes.other.sacks; written = s.written }
  as-seen = grind (arith, nat_tests, common_steps)

  -- what is so of each session of a sender that keeps nothing and gives out so many TSNs
  pub so : (P : Session → Type 0) → ((cs : List Call) (r : RunsTo (at_start first size max most limits) cs goes.other)
      → tsns_given (at_start first size max most limits) cs goes.other r ≡ tsns_given_so (at_start_with reported first size max most limits) calls s run
      → P goes.other) → P (record { sending = goes.other.sending; receiving = s.receiving; made = s.made; sacks = goes.other.sacks; written = s.written })
  so P law = let p = goes.plays.plain in subst P as-seen (law p.calls p.run p.given)

  -- and with the modes of its calls, and what is abandoned
  pub so-called : (P : Modes → List ℕ → Session → Type 0) → ((cs : List Call) (r : RunsTo (at_start first size max most limits) cs goes.other)
      → tsns_given (at_start first size max most limits) cs goes.other r ≡ tsns_given_so (at_start_with reported first size max most limits) calls s run
      → P (modes_from at_first cs) (abandoned_in (at_start first size max most limits) cs goes.other r) goes.other)
      → P (modes_from at_first (other_calls calls)) (abandoned_so (at_start_with reported first size max most limits) calls s run)
      (record { sending = goes.other.sending; receiving = s.receiving; made = s.made; sacks = goes.other.sacks; written = s.written })
  so-called P law = grind (arith, nat_tests, common_steps, as-seen)

-- few are in flight where few TSNs were given out
pub flying-of : (reported : Reported) (first size max most : ℕ) (limits : Option Limits) (calls : List CallOrReturn) (s : Session)
    (run : RunsWithReturns (at_start_with reported first size max most limits) calls s) → first < 2 ^ 32
    → tsns_given_so (at_start_with reported first size max most limits) calls s run < 2 ^ 31
    → AreFewInFlightSo (at_start_with reported first size max most limits) calls s run
flying-of reported first size max most limits calls s run small few =
    few-flying first 0 calls (at_start_with reported first size max most limits) s run (omega (arith, few))
    (every.begin-any none_dropped reported first size max most limits small)

-- ## Messages

pub made : AfterEachWithReturnsOfFewTsns (λ first n gone cs s. AreMade s)
made reported first size max most limits cs s run small some few short = of-each (λ cs s. AreMade s) every.made reported first size max most limits cs s run

pub messages : AfterEachWithReturnsOfFewTsns (λ first n gone cs s. AreMessages s)
messages reported first size max most limits cs s run small some few short =
    of-each (λ cs s. AreMessages s) every.messages reported first size max most limits cs s run

pub written : AfterEachWithReturnsOfFewTsns (λ first n gone cs s. AreWrites s)
written reported first size max most limits cs s run small some few short =
    so reported first size max most limits cs s run small (flying-of reported first size max most limits cs s run small few) short AreWrites
    (λ ks r e. delivered.law first size max most limits ks _ small some r (omega (arith, e, few)))

pub none-read-twice : AfterEachWithReturnsOfFewTsns (λ first n gone cs s. NoneIsReadTwice s)
none-read-twice = of-few-tsns (λ first n cs s. NoneIsReadTwice s) every.none-read-twice

pub of-their-own : AfterEachWithReturnsOfFewTsns (λ first n gone cs s. AreWritesOfTheirOwn s)
of-their-own reported first size max most limits cs s run small some few short =
    so reported first size max most limits cs s run small (flying-of reported first size max most limits cs s run small few) short AreWritesOfTheirOwn
    (λ ks r e. few_young.of-their-own first size max most limits ks _ small some r (omega (arith, e, few)))

pub in-order : AfterEachWithReturnsOfFewTsns (λ first n gone cs s. AreReadInOrder s)
in-order reported first size max most limits cs s run small some few short =
    so reported first size max most limits cs s run small (flying-of reported first size max most limits cs s run small few) short AreReadInOrder
    (λ ks r e. few_young.in-order first size max most limits ks _ small some r (omega (arith, e, few)))

-- `AreReadAsWritten`, of the modes
abbrev AreReadSo : Modes → Session → Type 0
AreReadSo m s =
    (places : List ℕ) × StandAt s.written s.receiving.read places × AllPairs (λ p q. p ≢ q) places
    × ((stream : ℕ) → AllPairs (λ p q. p < q) (places_where (was_written_ordered m.of_writes stream) s.receiving.read places))

pub as-written : AfterEachWithReturnsOfFewTsns (λ first n gone cs s. AreReadAsWritten (other_calls cs) s)
as-written reported first size max most limits cs s run small some few short =
    so-called reported first size max most limits cs s run small (flying-of reported first size max most limits cs s run small few) short
    (λ m gone s. AreReadSo m s)
    (λ ks r e. few_young.as-written first size max most limits ks _ small some r (omega (arith, e, few)))

-- ## Chunks

-- `AreSentAsWritten`, of the modes
abbrev AreSentSo : Modes → Session → Type 0
AreSentSo m s =
    (length m.of_writes ≡ length s.written)
    × ((d : Data) → Contains s.made (data_chunk d)
    → (p : ℕ) × (p < length s.written) × ((w : Write) → IsPart d (slice_index_or s.written p w)) × IsUnorderedAt m.of_writes p d.unordered)

pub sent-as-written : AfterEachWithReturnsOfFewInFlight (λ cs s. AreSentAsWritten (other_calls cs) s)
sent-as-written reported first size max most limits cs s run small some flying short =
    so-called reported first size max most limits cs s run small flying short (λ m gone s. AreSentSo m s)
    (λ ks r e. modes.sent-as-written first size max most limits ks _ small some r)

pub parts : AfterEachWithReturnsOfFewInFlight (λ cs s. AreParts s)
parts reported first size max most limits cs s run small some flying short =
    so reported first size max most limits cs s run small flying short AreParts (λ ks r e. delivered.parts first size max most limits ks _ small some r)

-- ## In the end

pub others-read : AfterEachWithReturnsOfFewTsns (λ first n gone cs s. IsEachOtherReadInTheEnd gone s)
others-read reported first size max most limits cs s run small some few short exhausted =
    let x = shadow reported first size max most limits cs s run small (flying-of reported first size max most limits cs s run small few) short in
    let t = s.sending.sender in
    let long = are-long (kept_of t.kept) t.flight.queue.inflight.chunks x.chunks x.like in
    so-called reported first size max most limits cs s run small (flying-of reported first size max most limits cs s run small few) short
    (λ m gone s. EachOtherIsReadOnce gone s)
    (λ ks r e. others.others-read first size max most limits ks _ r small (omega (arith, e, few)) some
    (ap₂ (λ (u : Transmission) (q : Stand). is_exhausted u q.receiver) x.sender x.receiving
    ∙ ap (λ k. ((chunk_count t.flight.queue.pending == 0) && (k == 0)) && reads_nothing s.receiving.receiver) (sym long) ∙ exhausted))

-- ## SACKs

pub none-refused : AfterEachWithReturnsOfFewTsns (λ first n gone cs s. NoneIsRefused s)
none-refused = of-few-tsns (λ first n cs s. NoneIsRefused s) every.none-refused

pub report-came : AfterEachWithReturnsOfFewTsns (λ first n gone cs s. ReportWhatCame first n s)
report-came reported first size max most limits cs s run small some few short t fits from told =
    let x = of-few-tsns ReportWhatArrived every.report-arrived reported first size max most limits cs s run small some few short t fits from told in
    (subst (λ b. ((b || was_taken t s) || was_passed t s) ≡ true) (none-dropped cs t) x.0, x.1)

pub each-tells : AfterEachWithReturnsOfFewTsns (λ first n gone cs s. EachSackTells s)
each-tells = of-few-tsns (λ first n cs s. EachSackTells s) every.each-tells

pub left-came : AfterEachWithReturnsOfFewTsns (λ first n gone cs s. LeftCame first s)
left-came reported first size max most limits cs s run small some few short t fits from upto =
    subst (λ b. ((b || was_taken t s) || was_passed t s) ≡ true) (none-dropped cs t)
    (of-few-tsns (λ first n cs s. LeftArrived first cs s) every.left-arrived reported first size max most limits cs s run small some few short t fits from upto)

pub acknowledged-came : AfterEachWithReturnsOfFewTsns (λ first n gone cs s. AcknowledgedCame s)
acknowledged-came reported first size max most limits cs s run small some few short k c lt told =
    let t = (slice_index_or s.sending.sender.flight.queue.inflight.chunks k c).tsn in
    let gone = (slice_index_or s.sending.sender.flight.queue.inflight.chunks k c).abandoned in
    subst (λ b. ((b || was_taken t s) || gone) ≡ true) (none-dropped cs t)
    (of-few-tsns (λ first n cs s. AcknowledgedArrived cs s) every.acknowledged-arrived reported first size max most limits cs s run small some few short k c lt
    told)

pub none-taken-twice : AfterEachWithReturnsOfFewTsns (λ first n gone cs s. NoneIsTakenTwice s)
none-taken-twice = of-few-tsns (λ first n cs s. NoneIsTakenTwice s) every.none-taken-twice
