-- Sessions of every call: what stays true of them, whatever the two hosts are called for.
use Rattle.sctp_delivery.proofs.Names.{common_steps, nat_tests, ◌≡◌, ℕ, ◌+◌, ◌<◌, ◌≤◌, ◌^◌, Bool, true, not, List, [], ◌∷◌, Option, Some, None, refl, ap, sym}
use Rattle.sctp_delivery.proofs.Names.{subst, ◌∙◌, arith, distance, or-left, or-right, same-yes, both, ChunkPayloadData, Limits, has_tsn, tsns, Sack, Flight}
use Rattle.sctp_delivery.proofs.Names.{NoneIsReadTwice, CanBeAnswered, AllReportedLeaves, EachSackTells, NoneIsRefused, NoneIsTakenTwice, PassAbandoned}
use Rattle.sctp_delivery.proofs.Names.{StaysAcknowledged, are_apart, was_passed, was_taken, data_chunk, forward_tsn, AreMade, AreMessages, Session}
use Rattle.sctp_delivery.proofs.Names.{bytes_written, of_receiver, of_sender, list_any, data_of, Reception, filter_of, with_filter, has_come, with_tsn}
use Rattle.sctp_delivery.proofs.Names.{after_forward_tsn, passes, tsn, Transmission}
use Rattle.sctp_receiver.specs.Receiver.{after_discard, close_stream}
use Rattle.sctp_receiver.specs.Resets.{reset_stream}
use Rattle.sctp_receiver.specs.ReceiverRuns as receiver_runs
use Rattle.sctp_receiver.specs.TsnFilter.{placeholder}
use Rattle.sctp_sender.specs.declared.sender.Reported.{Reported}
use Rattle.sctp_sender.specs.Keeping.{back_each, back_of, restored, restored_with, with_restored}
use Rattle.sctp_sender.specs.Sender.{back_by}
use Rattle.sctp_sender.specs.SenderRuns as sender_runs
use Rattle.sctp_sender.proofs.Accounts as accounts
use Rattle.sctp_delivery.specs.EveryCall.{AfterEachAny, AfterEachAnyOfFewTsns, AcknowledgedArrived, AnyCall, FollowsAny, LeftArrived, ReceiverDoes}
use Rattle.sctp_delivery.specs.EveryCall.{ReceiverOther, ReleasedArrived, ReportWhatArrived, RunsAny, SenderDoes, SenderOther, as_receiver_run, as_sender_run}
use Rattle.sctp_delivery.specs.EveryCall.{closes, closes_incoming, discards, drops, makes, of_receiving, of_sending, passes_over, resets, resets_incoming}
use Rattle.sctp_delivery.specs.EveryCall.{takes_back, tsns_given_any, was_dropped}
use Rattle.sctp_delivery.specs.ReceiverCalls as incoming
use Rattle.sctp_delivery.specs.Returns.{IsAccountedSo, at_start_with}
use Rattle.sctp_delivery.specs.SenderCalls as outgoing
use Rattle.sctp_delivery.proofs.ArrivedTsns.{IsArrived, advanced}
use Rattle.sctp_delivery.proofs.Cases.{at-if}
use Rattle.sctp_delivery.proofs.Every.{Every, every-contained, every-inserted, every-of}
use Rattle.sctp_delivery.proofs.GivenTsns.{IsNumbered, same-numbered}
use Rattle.sctp_delivery.proofs.ReadOnce.{none-twice-so}
use Rattle.sctp_delivery.proofs.ReportedTsns.{later-truthful}
use Rattle.sctp_delivery.proofs.SackLaws as sacks
use Rattle.sctp_delivery.proofs.SackLaws.{IsInStepBut, grows-so}
use Rattle.sctp_delivery.proofs.SackSteps.{IsMadeGiven, came_in, known_or, passed_in}
use Rattle.sctp_delivery.proofs.Sessions as sessions
use Rattle.sctp_delivery.proofs.Sessions.{IsTakenMade, kept-so, sent-made, taken-made}
use Rattle.sctp_delivery.proofs.TakenCalls.{AreTaken, HasCome, IsInOrder, each-sack-tells, follows-arrived, more-arrived, new-come, order-past, order-with}
use Rattle.sctp_delivery.proofs.TakenCalls.{passed-upto, skip-come}
use Rattle.sctp_delivery.proofs.Taking.{can-but}
use Rattle.sctp_delivery.proofs.TsnPlaces.{base, IsGiven}
use Rattle.sctp_delivery.proofs.ValidMarks.{IsRight, IsValid}

-- # What a filter of TSNs knows

-- ## A chunk is dropped

module _ (p n : ℕ) (kn : ℕ → Bool) (r : Reception) (few : n < 2 ^ 31) (t : ℕ) (g : IsGiven p n t) (h : IsArrived p n kn r.cumulative_tsn r.beyond) where
  pub discard-arrived : kn t ≡ true → IsArrived p n kn (after_discard t r).cumulative_tsn (after_discard t r).beyond
  discard-arrived so = grind (arith, nat_tests, common_steps, advanced, every-inserted)

  pub discard-order : IsInOrder r → IsInOrder (after_discard t r)
  discard-order a = at-if IsInOrder (has_come t (filter_of r))
      (λ e. record { small = a.small; rise = a.rise })
      (λ e. let k = order-with p n r kn few h a t g e in record { small = k.small; rise = k.rise })

  discard-taken : (cs : List ChunkPayloadData) → AreTaken p n r cs → AreTaken p n (after_discard t r) cs
  discard-taken cs k = at-if (λ z. AreTaken p n z cs) (has_come t (filter_of r))
      (λ e. record { each = k.each; apart = k.apart })
      (λ e.
      let x = new-come p n r kn few h (placeholder t) (with_filter (with_tsn t (filter_of r)) r) cs g e refl refl k in
      record { each = x.each.1; apart = (both (not (list_any (has_tsn t) cs)) (are_apart cs) x.apart).1 })

-- ## Each call of the receiver that most sessions do not have

module _ (dropped : ℕ → Bool) (p n : ℕ) (few : n < 2 ^ 31) (old new : Session) (i : IsInStepBut dropped p n old) where
  abbrev r : Reception
  r = old.receiving.receiver

  abbrev cs : List ChunkPayloadData
  cs = old.receiving.accepted

  -- what is known after the call
  abbrev Known : ℕ → Bool
  Known = known_or dropped new

  -- where the receiver is this one then, and no chunk is taken as new
  to : (q : Reception) → new.receiving.receiver ≡ q → new.receiving.accepted ≡ cs → new.made ≡ old.made → new.sending ≡ old.sending
      → new.sacks ≡ old.sacks → IsArrived p n Known q.cumulative_tsn q.beyond → AreTaken p n q cs → IsInOrder q → IsInStepBut dropped p n new
  to q e same made sender told arrived taken order = grind (arith, nat_tests, common_steps, grows-so, every-of, later-truthful)

  grown : (call : ReceiverOther) → ReceiverDoes call old new → new.receiving.accepted ≡ cs → (t : ℕ) → known_or dropped old t ≡ true → Known t ≡ true
  grown call f same =
      grows-so dropped p n old new (λ t k. ap (list_any (has_tsn t)) same ∙ k) (λ t k. ap (was_passed t) f.after ∙ k)

  still-arrived : (call : ReceiverOther) → ReceiverDoes call old new → new.receiving.accepted ≡ cs → IsArrived p n Known r.cumulative_tsn r.beyond
  still-arrived call f same = more-arrived p n n (known_or dropped old) Known r.cumulative_tsn r.beyond (omega arith) (grown call f same) i.arrived

  -- a stream is other than it was, and no TSN
  restreams : (call : ReceiverOther) → ReceiverDoes call old new → (q : Reception) → new.receiving.receiver ≡ q → new.receiving.accepted ≡ cs
      → IsArrived p n Known q.cumulative_tsn q.beyond → AreTaken p n q cs → IsInOrder q → IsInStepBut dropped p n new
  restreams call f q e same arrived taken order =
      to q e same (ap (λ (s : Session). s.made) f.after) (ap (λ (s : Session). s.sending) f.after) (ap (λ (s : Session). s.sacks) f.after) arrived taken order

  pub receiver-other : (call : ReceiverOther) → ((t : ℕ) → drops t (of_receiving call) ≡ true → dropped t ≡ true) → ReceiverDoes call old new
      → IsInStepBut dropped p n new
  receiver-other (discards c) so f =
      let g : IsGiven p n c.tsn = every-contained (IsMadeGiven p n) old.made (data_chunk (data_of c)) f.handed i.made in
      restreams (discards c) f (after_discard c.tsn r) f.step.receiver f.step.accepted
      (discard-arrived p n Known r few c.tsn g (still-arrived (discards c) f f.step.accepted)
      (or-left (came_in dropped new c.tsn) (was_passed c.tsn new) (or-left (dropped c.tsn) (was_taken c.tsn new) (so c.tsn (same-yes c.tsn)))))
      (discard-taken p n (known_or dropped old) r few c.tsn g i.arrived cs i.taken)
      (discard-order p n (known_or dropped old) r few c.tsn g i.arrived i.order)
  receiver-other (closes_incoming stream) so f =
      restreams (closes_incoming stream) f (close_stream stream r) f.step.receiver f.step.accepted
      (still-arrived (closes_incoming stream) f f.step.accepted) (record { each = i.taken.each; apart = i.taken.apart })
      (record { small = i.order.small; rise = i.order.rise })
  receiver-other (resets_incoming stream last) so f =
      restreams (resets_incoming stream last) f (reset_stream stream last r) f.step.receiver f.step.accepted
      (still-arrived (resets_incoming stream last) f f.step.accepted) (record { each = i.taken.each; apart = i.taken.apart })
      (record { small = i.order.small; rise = i.order.rise })
  receiver-other (passes_over c) so f =
      let g : IsGiven p n c.new_cumulative_tsn = every-contained (IsMadeGiven p n) old.made (forward_tsn c) f.handed i.made in
      let made : new.made ≡ old.made = ap (λ (s : Session). s.made) f.after in
      restreams (passes_over c) f (after_forward_tsn c r) f.step.receiver f.step.accepted
      (follows-arrived p n (known_or dropped old) Known old new few i.made (grown (passes_over c) f f.step.accepted)
      (λ t e. or-left (came_in dropped new t) (was_passed t new) (or-right (dropped t) (was_taken t new) e)) i.arrived c f.handed
      (λ h k le. or-right (came_in dropped new (tsn p k)) (was_passed (tsn p k) new)
      (ap (list_any (passes (tsn p k))) made ∙ passed-upto p n old.made c few h f.handed k le)))
      (record {
        each = every-of (HasCome p n r) (HasCome p n (after_forward_tsn c r))
            (λ x k. (k.0, skip-come p n r (known_or dropped old) few i.arrived c g x.tsn k.0 k.1)) cs i.taken.each;
        apart = i.taken.apart;
      })
      (order-past p n r (known_or dropped old) few i.arrived i.order c g)

-- # What is in flight

-- ## What comes back

module _ (taken passed : ℕ → Bool) (sack : Sack) where
  back-right : (k : Option (List ℕ)) (c : ChunkPayloadData) → IsRight taken passed c → IsRight taken passed (restored_with (back_of sack c k) c)
  back-right k c r = grind (arith, nat_tests, common_steps)

  backs-right : (ks : List (Option (List ℕ))) (ds : List ChunkPayloadData) → Every (IsRight taken passed) ds
      → Every (IsRight taken passed) (restored (back_each sack ds ks) ds)
  backs-right [] [] e = tt
  backs-right [] (c ∷ ds) e = e
  backs-right (k ∷ ks) [] e = tt
  backs-right (k ∷ ks) (c ∷ ds) e = (back-right k c e.0, backs-right ks ds e.1)

  pub back-valid : (f : Flight) (o : Option (List (Option (List ℕ)))) → IsValid taken passed f.queue
      → IsValid taken passed (with_restored (back_by sack f o) f).queue
  back-valid h0 h1 h2 = grind (arith, nat_tests, common_steps, backs-right)

pub restored-tsns : (bs : List (Option (List ℕ))) (ds : List ChunkPayloadData) → tsns (restored bs ds) ≡ tsns ds
restored-tsns [] ds = refl
restored-tsns (b ∷ bs) [] = refl
restored-tsns (None ∷ bs) (c ∷ ds) = ap (λ ts. c.tsn ∷ ts) (restored-tsns bs ds)
restored-tsns (Some bytes ∷ bs) (c ∷ ds) = ap (λ ts. c.tsn ∷ ts) (restored-tsns bs ds)

-- ## Each call of the sender that most sessions do not have

module _ (dropped : ℕ → Bool) (p n : ℕ) (old new : Session) (i : IsInStepBut dropped p n old) where
  -- what is in flight has the same TSNs then
  other-flight : (call : SenderOther) → SenderDoes call old new → (t : Transmission) → new.sending.sender ≡ t → IsNumbered p n t.flight
      → t.flight.acked_tsn ≡ old.sending.sender.flight.acked_tsn
      → IsValid (came_in dropped old) (passed_in old.made) t.flight.queue → IsInStepBut dropped p n new
  other-flight call f t e numbered acked valid =
      let to : (P : Session → Type 0) → P (record old {
        sending = new.sending;
      }) → P new = λ P h. subst P (sym f.after) h in
      to (IsInStepBut dropped p n) (record {
        numbered = subst (λ (u : Transmission). IsNumbered p n u.flight) (sym e) numbered;
        settled = subst (λ (u : Transmission). IsArrived p n (known_or dropped old) u.flight.acked_tsn []) (sym e)
            (subst (λ a. IsArrived p n (known_or dropped old) a []) (sym acked) i.settled);
        made = i.made;
        arrived = i.arrived;
        sacks = i.sacks;
        valid = subst (λ (u : Transmission). IsValid (came_in dropped old) (passed_in old.made) u.flight.queue) (sym e) valid;
        taken = i.taken;
        order = i.order;
      })

  pub sender-other : (call : SenderOther) → SenderDoes call old new → IsInStepBut dropped p n new
  sender-other (takes_back sack back) f =
      let t = old.sending.sender in
      let bs = back_by sack t.flight t.kept in
      other-flight (takes_back sack back) f _ f.exact
      (same-numbered p n t.flight (with_restored bs t.flight) (restored-tsns bs t.flight.queue.inflight.chunks) refl refl i.numbered) refl
      (back-valid (came_in dropped old) (passed_in old.made) sack t.flight t.kept i.valid)
  sender-other (closes stream) f = other-flight (closes stream) f _ f.step.sender i.numbered refl i.valid
  sender-other (resets stream) f = other-flight (resets stream) f _ f.step.sender i.numbered refl i.valid

-- no TSN is given out
pub next-same : (call : SenderOther) (old new : Session) → SenderDoes call old new
    → new.sending.sender.flight.next_tsn ≡ old.sending.sender.flight.next_tsn
next-same h0 h1 h2 h3 = grind (arith, nat_tests, common_steps)

-- # Calls one after another

-- ## Each host by itself

abbrev pub sender_calls : List AnyCall → List sender_runs.Call
sender_calls [] = []
sender_calls (makes (of_sender call) ∷ cs) = outgoing.as_run call ∷ sender_calls cs
sender_calls (makes (of_receiver call) ∷ cs) = sender_calls cs
sender_calls (of_sending call ∷ cs) = as_sender_run call ∷ sender_calls cs
sender_calls (of_receiving call ∷ cs) = sender_calls cs

abbrev pub receiver_calls : List AnyCall → List receiver_runs.Call
receiver_calls [] = []
receiver_calls (makes (of_sender call) ∷ cs) = receiver_calls cs
receiver_calls (makes (of_receiver call) ∷ cs) = incoming.as_run call ∷ receiver_calls cs
receiver_calls (of_sending call ∷ cs) = receiver_calls cs
receiver_calls (of_receiving call ∷ cs) = as_receiver_run call ∷ receiver_calls cs

sender-runs : (cs : List AnyCall) (old new : Session) → RunsAny old cs new → sender_runs.RunsTo old.sending (sender_calls cs) new.sending
sender-runs [] old new r = ap (λ (s : Session). s.sending) r
sender-runs (makes (of_sender call) ∷ cs) old new r = (r.0.sending, (r.1.0.step, sender-runs cs r.0 new r.1.1))
sender-runs (makes (of_receiver call) ∷ cs) old new r =
    subst (λ l. sender_runs.RunsTo l (sender_calls cs) new.sending) (ap (λ (s : Session). s.sending) r.1.0.after) (sender-runs cs r.0 new r.1.1)
sender-runs (of_sending call ∷ cs) old new r = (r.0.sending, (r.1.0.step, sender-runs cs r.0 new r.1.1))
sender-runs (of_receiving call ∷ cs) old new r =
    subst (λ l. sender_runs.RunsTo l (sender_calls cs) new.sending) (ap (λ (s : Session). s.sending) r.1.0.after) (sender-runs cs r.0 new r.1.1)

pub receiver-runs : (cs : List AnyCall) (old new : Session) → RunsAny old cs new
    → receiver_runs.RunsTo old.receiving (receiver_calls cs) new.receiving
receiver-runs [] old new r = ap (λ (s : Session). s.receiving) r
receiver-runs (makes (of_receiver call) ∷ cs) old new r = (r.0.receiving, (r.1.0.step, receiver-runs cs r.0 new r.1.1))
receiver-runs (makes (of_sender call) ∷ cs) old new r =
    subst (λ l. receiver_runs.RunsTo l (receiver_calls cs) new.receiving) (ap (λ (s : Session). s.receiving) r.1.0.after) (receiver-runs cs r.0 new r.1.1)
receiver-runs (of_receiving call ∷ cs) old new r = (r.0.receiving, (r.1.0.step, receiver-runs cs r.0 new r.1.1))
receiver-runs (of_sending call ∷ cs) old new r =
    subst (λ l. receiver_runs.RunsTo l (receiver_calls cs) new.receiving) (ap (λ (s : Session). s.receiving) r.1.0.after) (receiver-runs cs r.0 new r.1.1)

-- ## What each call keeps, all do

module _ (P : Session → Type 0) (kept : (c : AnyCall) (a b : Session) → FollowsAny c a b → P a → P b) where
  pub keeps : (cs : List AnyCall) (old new : Session) → RunsAny old cs new → P old → P new
  keeps [] old new r h = subst P (sym r) h
  keeps (c ∷ cs) old new r h = keeps cs r.0 new r.1.1 (kept c old r.0 r.1.0 h)

-- ## Bytes

abbrev IsWritten : Session → Type 0
IsWritten s = bytes_written s ≡ s.sending.written

counts : (c : AnyCall) (old new : Session) → FollowsAny c old new → IsWritten old → IsWritten new
counts h0 h1 h2 h3 h4 = grind (arith, nat_tests, common_steps)

no-bytes : (reported : Reported) (tsn size max most : ℕ) (limits : Option Limits) → IsWritten (at_start_with reported tsn size max most limits)
no-bytes reported tsn size max most limits = refl

-- bytes that were written stay so
pub grows : (cs : List AnyCall) (old new : Session) → RunsAny old cs new → bytes_written old ≤ bytes_written new
grows [] old new r = let e = ap bytes_written r in omega (arith, e)
grows (makes (of_sender call) ∷ cs) old new r = grind (arith, nat_tests, common_steps, grows cs r.0 new r.1.1)
grows (makes (of_receiver call) ∷ cs) old new r = let e = ap bytes_written r.1.0.after in let rest = grows cs r.0 new r.1.1 in omega (arith, e, rest)
grows (of_sending call ∷ cs) old new r = let e = ap bytes_written r.1.0.after in let rest = grows cs r.0 new r.1.1 in omega (arith, e, rest)
grows (of_receiving call ∷ cs) old new r = let e = ap bytes_written r.1.0.after in let rest = grows cs r.0 new r.1.1 in omega (arith, e, rest)

pub accounted : AfterEachAny (λ calls s. IsAccountedSo s)
accounted reported tsn size max most limits cs s r =
    let start = at_start_with reported tsn size max most limits in
    let law = accounts.accounted tsn size max reported (sender_calls cs) s.sending (sender-runs cs start s r) in
    let c = keeps IsWritten counts cs start s r (no-bytes reported tsn size max most limits) in
    omega (arith, law, c)

-- ## Messages

pub takes-made : (c : AnyCall) (old new : Session) → FollowsAny c old new → IsTakenMade old → IsTakenMade new
takes-made h0 h1 h2 h3 h4 = grind (arith, nat_tests, common_steps, sent-made, taken-made, kept-so)

pub all-made : AfterEachAny (λ calls s. IsTakenMade s)
all-made reported tsn size max most limits cs s r = keeps IsTakenMade takes-made cs (at_start_with reported tsn size max most limits) s r refl

pub made : AfterEachAny (λ calls s. AreMade s)
made reported tsn size max most limits cs s r =
    let start = at_start_with reported tsn size max most limits in
    sessions.made-so tsn most limits (receiver_calls cs) s (receiver-runs cs start s r) (all-made reported tsn size max most limits cs s r)

pub messages : AfterEachAny (λ calls s. AreMessages s)
messages reported tsn size max most limits cs s r =
    sessions.messages-so tsn most limits (receiver_calls cs) s (receiver-runs cs (at_start_with reported tsn size max most limits) s r)

-- ## What nobody else speaks of

module _ (dropped : ℕ → Bool) (p : ℕ) where
  abbrev Given : ℕ → Session → Session → ℕ
  Given n old new = n + distance old.sending.sender.flight.next_tsn new.sending.sender.flight.next_tsn

  -- no TSN is given out
  unmoved : (n : ℕ) (old new : Session) → new.sending.sender.flight.next_tsn ≡ old.sending.sender.flight.next_tsn → IsInStepBut dropped p n old
      → IsInStepBut dropped p n new → IsInStepBut dropped p (Given n old new) new
  unmoved n old new same i j =
      let none : distance old.sending.sender.flight.next_tsn new.sending.sender.flight.next_tsn ≡ 0 =
      ap (distance old.sending.sender.flight.next_tsn) same ∙ sacks.no-move p n old old refl i.numbered in
      subst (λ k. IsInStepBut dropped p k new) {x = n} {y = Given n old new} (omega (arith, none)) j

  pub one-step : (c : AnyCall) (n : ℕ) (old new : Session) → Given n old new < 2 ^ 31 → ((t : ℕ) → drops t c ≡ true → dropped t ≡ true)
      → FollowsAny c old new → IsInStepBut dropped p n old → IsInStepBut dropped p (Given n old new) new
  one-step (makes (of_sender call)) n old new few so f i = sacks.sender-step-but dropped p n old new call few f i
  one-step (makes (of_receiver call)) n old new few so f i =
      unmoved n old new (ap (λ (s : Session). s.sending.sender.flight.next_tsn) f.after) i
      (sacks.receiver-step-but dropped p n call old new (omega (arith, few)) f i)
  one-step (of_sending call) n old new few so f i = unmoved n old new (next-same call old new f) i (sender-other dropped p n old new i call f)
  one-step (of_receiving call) n old new few so f i =
      unmoved n old new (ap (λ (s : Session). s.sending.sender.flight.next_tsn) f.after) i
      (receiver-other dropped p n (omega (arith, few)) old new i call so f)

  all-steps : (cs : List AnyCall) (n : ℕ) (old new : Session) (r : RunsAny old cs new) → n + tsns_given_any old cs new r < 2 ^ 31
      → ((t : ℕ) → was_dropped cs t ≡ true → dropped t ≡ true) → IsInStepBut dropped p n old → IsInStepBut dropped p (n + tsns_given_any old cs new r) new
  all-steps [] n old new r few all i =
      subst (λ k. IsInStepBut dropped p k new) {x = n} {y = n + 0} (omega arith) (subst (IsInStepBut dropped p n) (sym r) i)
  all-steps (c ∷ cs) n old new r few all i =
      let sum : Given n old r.0 + tsns_given_any r.0 cs new r.1.1 ≡ n + tsns_given_any old (c ∷ cs) new r = omega arith in
      subst (λ k. IsInStepBut dropped p k new) sum
      (all-steps cs (Given n old r.0) r.0 new r.1.1 (omega (arith, few)) (λ t e. all t (or-right (drops t c) (was_dropped cs t) e))
      (one-step c n old r.0 (omega (arith, few)) (λ t e. all t (or-left (drops t c) (was_dropped cs t) e)) r.1.0 i))

pub begin-any : (dropped : ℕ → Bool) (reported : Reported) (first size max most : ℕ) (limits : Option Limits) → first < 2 ^ 32
    → IsInStepBut dropped (base first) 0 (at_start_with reported first size max most limits)
begin-any dropped reported first size max most limits small = grind (arith, nat_tests, common_steps)

pub in-step : AfterEachAnyOfFewTsns (λ first n cs s. IsInStepBut (was_dropped cs) (base first) n s)
in-step reported first size max most limits cs s r small few =
    let start = at_start_with reported first size max most limits in
    let n = tsns_given_any start cs s r in
    subst (λ k. IsInStepBut (was_dropped cs) (base first) k s) {x = 0 + n} {y = n} (omega arith)
    (all-steps (was_dropped cs) (base first) cs 0 start s r (omega (arith, few)) (λ t e. e)
    (begin-any (was_dropped cs) reported first size max most limits small))

-- ## The laws

module _ (reported : Reported) (first size max most : ℕ) (limits : Option Limits) (cs : List AnyCall) (s : Session)
    (r : RunsAny (at_start_with reported first size max most limits) cs s) (small : first < 2 ^ 32)
    (few : tsns_given_any (at_start_with reported first size max most limits) cs s r < 2 ^ 31) where
  abbrev n : ℕ
  n = tsns_given_any (at_start_with reported first size max most limits) cs s r

  i : IsInStepBut (was_dropped cs) (base first) n s
  i = in-step reported first size max most limits cs s r small few

  pub none-refused : NoneIsRefused s
  none-refused = sacks.accepts (was_dropped cs) (base first) n s few i

  pub report-arrived : ReportWhatArrived first n cs s
  report-arrived = sacks.reports-given (was_dropped cs) first n s small few i

  pub each-tells : EachSackTells s
  each-tells = each-sack-tells (base first) n s (known_or (was_dropped cs) s) few i.arrived i.order i.taken

  pub acknowledged-arrived : AcknowledgedArrived cs s
  acknowledged-arrived = sacks.came-so (was_dropped cs) (base first) n s few i

  pub released-arrived : ReleasedArrived cs s
  released-arrived = sacks.released (was_dropped cs) (base first) n s few i

  pub left-arrived : LeftArrived first cs s
  left-arrived = sacks.left-came (was_dropped cs) first n s small few i

  pub pass-abandoned : PassAbandoned s
  pass-abandoned = sacks.passed-gone (was_dropped cs) (base first) n s i

  pub stays-acknowledged : StaysAcknowledged s
  stays-acknowledged = sacks.kept (base first) n s few i.numbered

  pub all-leaves : AllReportedLeaves s
  all-leaves = sacks.reported-leaves (was_dropped cs) (base first) n s few i

  pub all-can : CanBeAnswered s
  all-can = can-but (was_dropped cs) (base first) n s few i

  pub none-taken-twice : NoneIsTakenTwice s
  none-taken-twice = i.taken.apart

  pub none-read-twice : NoneIsReadTwice s
  none-read-twice =
      none-twice-so first most limits (receiver_calls cs) s (receiver-runs cs (at_start_with reported first size max most limits) s r) none-taken-twice
