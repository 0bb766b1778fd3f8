-- Sessions of every call in a whole life: what came at the receiver lies behind the acknowledged TSN. No TSN is taken, or read, more often than it was
-- given out, and no SACK is refused that is less than 2^31 TSNs old. Most sessions are sessions of these.
use Rattle.sctp_delivery.proofs.Names.{common_steps, nat_tests, ◌≡◌, ℕ, ◌+◌, ◌<◌, ◌≤◌, ◌^◌, List, [], ◌∷◌, ◌++◌, length, map, Option, None, refl, ap, sym}
use Rattle.sctp_delivery.proofs.Names.{subst, ◌∙◌, arith, Limits, Drop, ChunkPayloadData, Transmission, Reception, Ledger, filter, if◌then◌else◌, sack_refusal}
use Rattle.sctp_delivery.proofs.Names.{at_or_before, distance, fragments_of_all, sum_by-cons, true, false, CanBeAnswered, Session, RunsTo, Call, at_start}
use Rattle.sctp_delivery.proofs.Names.{of_receiver, of_sender, tsns, has_come, has_tsn, filter_of, after_forward_tsn, data_of, data_chunk}
use Rattle.sctp_receiver.specs.Receiver.{after_discard}
use Rattle.sctp_sender.specs.declared.sender.Reported.{Reported}
use Rattle.sctp_sender.specs.Sender.{back_by}
use Rattle.sctp_delivery.specs.EveryCall.{AnyCall, FollowsAny, ReceiverDoes, ReceiverOther, RunsAny, SenderDoes, SenderOther, closes, closes_incoming, discards}
use Rattle.sctp_delivery.specs.EveryCall.{makes, of_receiving, of_sending, passes_over, resets, resets_incoming, takes_back}
use Rattle.sctp_delivery.specs.EveryRecent.{AreReadAsGiven, AreRecentAny, AreTakenAsGiven, IsRecentAny, WhileAnyRecent, new_sacks_any, sacks_aged_any}
use Rattle.sctp_delivery.specs.EveryRecent.{times_given_any}
use Rattle.sctp_delivery.specs.Recent.{AgedSack, AreRecent, EachIsTakenOnceWhereGiven, NoYoungSackIsRefused, NoneYoungIsRefused, WhileRecent, gives, sack_older}
use Rattle.sctp_delivery.specs.Recent.{sacks_aged, new_sacks, times_given, times_taken}
use Rattle.sctp_delivery.specs.Returns.{at_start_with}
use Rattle.sctp_delivery.specs.Session.{count_in_flight}
use Rattle.sctp_delivery.proofs.Cases.{at-if, at-test}
use Rattle.sctp_delivery.proofs.Delivered.{next_tsn}
use Rattle.sctp_delivery.proofs.Every.{Every, all-of-every, every-contained, every-joined, every-mapped, every-of}
use Rattle.sctp_delivery.proofs.EveryRuns.{back-valid, receiver-runs, receiver_calls, restored-tsns}
use Rattle.sctp_delivery.proofs.FewInFlight.{HasSmall, IsMadeSmall, follows-small, still-run, with-small}
use Rattle.sctp_delivery.proofs.GivenTsns.{as-long}
use Rattle.sctp_delivery.proofs.ReadOnce.{count, none-more, one}
use Rattle.sctp_delivery.proofs.Recent.{Comes, IsNear, any, comes-past, comes-with, fresh-given, longer-arrived, near-can, none, receiver-near, same-longer}
use Rattle.sctp_delivery.proofs.Recent.{sender-near}
use Rattle.sctp_delivery.proofs.TakenAgain.{Flies, IsBalanced, balanced-first, receiver-balanced, sender-balanced, stays-past, stays-with, still, wider}
use Rattle.sctp_delivery.proofs.TakenCalls.{Knows}
use Rattle.sctp_delivery.proofs.TsnPlaces.{IsGiven}
use Rattle.sctp_delivery.proofs.ValidMarks.{IsFresh, IsValid}
use Rattle.sctp_delivery.proofs.YoungSacks.{AreGiven, IsSackAt, all-made, given-after, is-taken, sack-later}

-- ## Calls that most sessions do not have

module _ (old new : Session) (few : count_in_flight new < 2 ^ 31) (i : IsNear old) where
  abbrev u : Transmission
  u = old.sending.sender

  abbrev r : Reception
  r = old.receiving.receiver

  -- the sender has another flight, with the same TSNs
  other-flight : (call : SenderOther) → SenderDoes call old new → (t : Transmission) → new.sending.sender ≡ t
      → tsns t.flight.queue.inflight.chunks ≡ tsns old.sending.sender.flight.queue.inflight.chunks
      → t.flight.next_tsn ≡ old.sending.sender.flight.next_tsn → t.flight.acked_tsn ≡ old.sending.sender.flight.acked_tsn
      → IsFresh t.flight.queue → IsValid any none t.flight.queue → IsNear new
  other-flight call f t e same next acked fresh valid = grind (arith, still-run, longer-arrived, same-longer)

  sender-other : (call : SenderOther) → SenderDoes call old new → IsNear new
  sender-other (takes_back sack back) f =
      let bs = back_by sack u.flight u.kept in
      let fresh = i.regular.regular.fresh in
      other-flight (takes_back sack back) f _ f.exact (restored-tsns bs u.flight.queue.inflight.chunks) refl refl
      (record { ordered = fresh.ordered; unordered = fresh.unordered }) (back-valid any none sack u.flight u.kept i.valid)
  sender-other (closes stream) f = other-flight (closes stream) f _ f.step.sender refl refl refl i.regular.regular.fresh i.valid
  sender-other (resets stream) f = other-flight (resets stream) f _ f.step.sender refl refl refl i.regular.regular.fresh i.valid

  -- what came stands so
  abbrev Stood : Reception → Type 0
  Stood q = HasSmall q × Comes old new few i q

  other-reception : (call : ReceiverOther) → ReceiverDoes call old new → (q : Reception) → new.receiving.receiver ≡ q → Stood q → IsNear new
  other-reception call f q e h = grind (arith, nat_tests, common_steps)

  -- a chunk that was made and is handed over now, is in flight where it has not come
  handed-given : (c : ChunkPayloadData) → ReceiverDoes (discards c) old new → IsRecentAny (of_receiving (discards c)) old
      → has_come c.tsn (filter_of r) ≡ false → IsGiven u.flight.acked_tsn (count_in_flight old) c.tsn
  handed-given c f q fresh =
      fresh-given old new few i c.tsn (every-contained IsMadeSmall old.made (data_chunk (data_of c)) f.handed i.regular.made) q fresh

  receiver-other : (call : ReceiverOther) → ReceiverDoes call old new → IsRecentAny (of_receiving call) old → IsNear new
  receiver-other (discards c) f q =
      other-reception (discards c) f (after_discard c.tsn r) f.step.receiver (at-if Stood (has_come c.tsn (filter_of r))
      (λ e. ((i.regular.cumulative, i.regular.beyond), (i.arrived, record { small = i.order.small; rise = i.order.rise })))
      (λ e. (
        with-small old i.regular c.tsn (every-contained IsMadeSmall old.made (data_chunk (data_of c)) f.handed i.regular.made),
        comes-with old new few i c.tsn (handed-given c f q e) e,
      )))
  receiver-other (closes_incoming stream) f q = grind (arith, nat_tests, common_steps)
  receiver-other (resets_incoming stream last) f q = grind (arith, nat_tests, common_steps)
  receiver-other (passes_over c) f q =
      other-reception (passes_over c) f (after_forward_tsn c r) f.step.receiver (follows-small old i.regular c f.handed, comes-past old new few i c f.handed q)

  -- ## What is in flight, and what came, stays so

  pub flight-same : (call : SenderOther) → SenderDoes call old new
      → (new.sending.sender.flight.acked_tsn ≡ old.sending.sender.flight.acked_tsn) × (count_in_flight new ≡ count_in_flight old)
  flight-same h0 h1 = grind (arith, nat_tests, common_steps, as-long, restored-tsns)

  pub flew-so : (call : SenderOther) → SenderDoes call old new → (t : ℕ) → Flies t new → Flies t old
  flew-so call f t g = grind (arith, nat_tests, common_steps, flight-same)

  pub stays-so : (t : ℕ) → Flies t old → (call : ReceiverOther) → ReceiverDoes call old new → IsRecentAny (of_receiving call) old → Knows t r
      → Knows t new.receiving.receiver
  stays-so h0 h1 h2 h3 h4 h5 = grind (arith, stays-with, handed-given, stays-past)

-- no other call takes a chunk
pub accepted-same : (call : ReceiverOther) (old new : Session) → ReceiverDoes call old new → new.receiving.accepted ≡ old.receiving.accepted
accepted-same h0 h1 h2 h3 = grind (arith, nat_tests, common_steps)

-- ## Every call

pub near-after : (c : AnyCall) (old new : Session) → count_in_flight new < 2 ^ 31 → FollowsAny c old new → IsRecentAny c old → IsNear old → IsNear new
near-after h0 h1 h2 h3 h4 h5 h6 = grind (arith, nat_tests, common_steps, sender-near, receiver-near, sender-other, receiver-other)

near-then : (cs : List AnyCall) (s new : Session) (run : RunsAny s cs new) → AreRecentAny s cs new run → IsNear s → IsNear new
near-then [] s new run q i = subst IsNear (sym run) i
near-then (c ∷ cs) s new run q i = near-then cs run.0 new run.1.1 q.2 (near-after c s run.0 q.1 run.1.0 q.0 i)

module _ (t : ℕ) (fits : t < 2 ^ 32) where
  balanced-after : (c : AnyCall) (old new : Session) (g : ℕ) → count_in_flight new < 2 ^ 31 → FollowsAny c old new → IsRecentAny c old → IsNear old
      → IsNear new → IsBalanced t fits g old → IsBalanced t fits (g + (if gives t old new then 1 else 0)) new
  balanced-after (makes (of_sender call)) old new g few f q i j b = sender-balanced t fits old new few i j call g f b
  balanced-after (makes (of_receiver call)) old new g few f q i j b =
      wider t fits g _ new (omega arith) (receiver-balanced t fits old new few i j call g f q b)
  balanced-after (of_sending call) old new g few f q i j b = grind (arith, nat_tests, common_steps)
  balanced-after (of_receiving call) old new g few f q i j b =
      wider t fits g _ new (omega arith) (still t fits old new g (accepted-same call old new f)
      (λ fl. subst (λ (l : Ledger). IsGiven l.sender.flight.acked_tsn (length l.sender.flight.queue.inflight.chunks) t)
      (ap (λ (s : Session). s.sending) f.after) fl)
      (λ fl e. stays-so old new few i t fl call f q e) b)

  balanced-then : (cs : List AnyCall) (s new : Session) (run : RunsAny s cs new) → AreRecentAny s cs new run → IsNear s → (g : ℕ) → IsBalanced t fits g s
      → IsBalanced t fits (g + times_given_any t s cs new run) new
  balanced-then [] s new run q i g b = subst (IsBalanced t fits (g + 0)) (sym run) (wider t fits g (g + 0) s (omega arith) b)
  balanced-then (c ∷ cs) s new run q i g b =
      let j = near-after c s run.0 q.1 run.1.0 q.0 i in
      let one : ℕ = if gives t s run.0 then 1 else 0 in
      let rest = times_given_any t run.0 cs new run.1.1 in
      wider t fits ((g + one) + rest) (g + (one + rest)) new (omega arith)
      (balanced-then cs run.0 new run.1.1 q.2 j (g + one) (balanced-after c s run.0 g q.1 run.1.0 q.0 i j b))

-- ## SACKs

-- how many TSNs were given out then, and the SACK that the call makes
module _ (first n : ℕ) (old new : Session) (few : count_in_flight new < 2 ^ 31) (i : IsNear old) (e : AreGiven first n old.sending.sender.flight) where
  abbrev NowGiven : AnyCall → Type 0
  NowGiven c =
      (m : ℕ) × (n ≤ m) × (m ≤ n + distance (next_tsn old) (next_tsn new)) × AreGiven first m new.sending.sender.flight
      × Every (IsSackAt first m) (map (λ k. record { sack = k; age = 0 }) (new_sacks_any c old))

  sacks-after : (c : AnyCall) → FollowsAny c old new → IsRecentAny c old → NowGiven c
  sacks-after (makes (of_sender call)) f q =
      let g = given-after first n call old new f few i (sender-near old new few i call f q) e in
      (g.0, g.1, g.2, g.3, tt)
  sacks-after (makes (of_receiver call)) f q = grind (arith, nat_tests, common_steps, all-made)
  sacks-after (of_sending call) f q =
      let same = flight-same old new few i call f in
      let total = e.total in
      let long = same.1 in
      (n, omega arith, omega arith, record { acked = e.acked; total = omega (arith, total, long); is = same.0 ∙ e.is }, tt)
  sacks-after (of_receiving call) f q = grind (arith, nat_tests, common_steps)

sacks-then : (first n : ℕ) (cs : List AnyCall) (old new : Session) (ks : List AgedSack) (run : RunsAny old cs new) → AreRecentAny old cs new run → IsNear old
    → AreGiven first n old.sending.sender.flight → Every (IsSackAt first n) ks → NoneYoungIsRefused (sacks_aged_any ks old cs new run) new
sacks-then first n [] old new ks run q i e k =
    subst (NoneYoungIsRefused ks) (sym run)
    (all-of-every (λ a. a.age < 2 ^ 31 → at_or_before a.sack.cumulative_tsn_ack old.receiving.receiver.cumulative_tsn ≡ true
    → sack_refusal a.sack old.sending.sender.flight ≡ None) ks
    (every-of (IsSackAt first n) (λ a. a.age < 2 ^ 31 → at_or_before a.sack.cumulative_tsn_ack old.receiving.receiver.cumulative_tsn ≡ true
    → sack_refusal a.sack old.sending.sender.flight ≡ None) (λ a y young recent. is-taken first n old i e a.sack a.age y young recent) ks k))
sacks-then first n (c ∷ cs) old new ks run q i e k =
    let given = distance (next_tsn old) (next_tsn run.0) in
    let m = sacks-after first n old run.0 q.1 i e c run.1.0 q.0 in
    sacks-then first m.0 cs run.0 new (map (λ k. record { sack = k; age = 0 }) (new_sacks_any c old) ++ map (sack_older given) ks) run.1.1 q.2
    (near-after c old run.0 q.1 run.1.0 q.0 i) m.3
    (every-joined (IsSackAt first m.0) (map (λ k. record { sack = k; age = 0 }) (new_sacks_any c old)) (map (sack_older given) ks) m.4
    (every-mapped (IsSackAt first n) (IsSackAt first m.0) (sack_older given) (sack-later first n m.0 given m.1 m.2) ks k))

-- ## The beginning

pub near-start : (reported : Reported) (first size max most : ℕ) (limits : Option Limits) → first < 2 ^ 32
    → IsNear (at_start_with reported first size max most limits)
near-start h0 h1 h2 h3 h4 h5 h6 = grind (arith, nat_tests, common_steps)

-- nothing was done
record IsIdleStart (first : ℕ) (s : Session) : Type 0 where
  flying : count_in_flight s ≡ 0
  untaken : (t : ℕ) → times_taken t s ≡ 0
  given : AreGiven first 0 s.sending.sender.flight

idle-start : (reported : Reported) (first size max most : ℕ) (limits : Option Limits) → first < 2 ^ 32
    → IsIdleStart first (at_start_with reported first size max most limits)
idle-start h0 h1 h2 h3 h4 h5 h6 = grind (arith, nat_tests, common_steps)

-- ## The laws

pub can : WhileAnyRecent (λ given sacks s. CanBeAnswered s)
can reported first size max most limits cs s run small q = grind (arith, nat_tests, common_steps, near-can, near-then, near-start)

pub taken : WhileAnyRecent (λ given sacks s. AreTakenAsGiven given s)
taken reported first size max most limits cs s run small q t fits =
    let start = at_start_with reported first size max most limits in
    let o = idle-start reported first size max most limits small in
    let b = balanced-then t fits cs start s run q (near-start reported first size max most limits small) 0
    (balanced-first t fits start o.flying (o.untaken t)) in
    let most = b.most in
    omega (arith, most)

pub read : WhileAnyRecent (λ given sacks s. AreReadAsGiven given s)
read reported first size max most limits cs s run small q t fits =
    let le = none-more t first most limits (receiver_calls cs) s (receiver-runs cs (at_start_with reported first size max most limits) s run) in
    let a = counted (fragments_of_all s.receiving.read) in
    let b = counted s.receiving.accepted in
    let c = taken reported first size max most limits cs s run small q t fits in
    omega (arith, le, a, b, c)
  where
    counted : (ds : List ChunkPayloadData) → length (filter (has_tsn t) ds) ≡ count t ds
    counted [] = refl
    counted (d ∷ ds) = at-test (λ b. length (if b then d ∷ filter (has_tsn t) ds else filter (has_tsn t) ds) ≡ count t (d ∷ ds)) (has_tsn t d)
        (λ e. let o : one t d ≡ 1 = ap (λ b. if b then 1 else 0) e in omega (arith, sum_by-cons (one t) d ds, o, counted ds))
        (λ e. let o : one t d ≡ 0 = ap (λ b. if b then 1 else 0) e in omega (arith, sum_by-cons (one t) d ds, o, counted ds))

pub none-refused : WhileAnyRecent (λ given sacks s. NoneYoungIsRefused sacks s)
none-refused reported first size max most limits cs s run small q =
    sacks-then first 0 cs (at_start_with reported first size max most limits) s [] run q (near-start reported first size max most limits small)
    (idle-start reported first size max most limits small).given tt

-- ## Most sessions

unfoldable pub any_of : List Call → List AnyCall
any_of [] = []
any_of (c ∷ cs) = makes c ∷ any_of cs

unfoldable pub run-any : (cs : List Call) (old new : Session) → RunsTo old cs new → RunsAny old (any_of cs) new
unfolding any_of
run-any [] old new r = r
run-any (c ∷ cs) old new r = (r.0, (r.1.0, run-any cs r.0 new r.1.1))

pub recent-any : (cs : List Call) (old new : Session) (r : RunsTo old cs new) → AreRecent old cs new r → AreRecentAny old (any_of cs) new (run-any cs old new r)
unfolding any_of run-any
recent-any [] old new r q = tt
recent-any (c ∷ cs) old new r q = (q.0, q.1, recent-any cs r.0 new r.1.1 q.2)

given-any : (t : ℕ) (cs : List Call) (old new : Session) (r : RunsTo old cs new)
    → times_given_any t old (any_of cs) new (run-any cs old new r) ≡ times_given t old cs new r
unfolding any_of run-any
given-any t [] old new r = refl
given-any t (c ∷ cs) old new r = ap (λ k. (if gives t old r.0 then 1 else 0) + k) (given-any t cs r.0 new r.1.1)

sacks-any : (ks : List AgedSack) (cs : List Call) (old new : Session) (r : RunsTo old cs new)
    → sacks_aged_any ks old (any_of cs) new (run-any cs old new r) ≡ sacks_aged ks old cs new r
unfolding any_of run-any
sacks-any ks [] old new r = refl
sacks-any ks (c ∷ cs) old new r =
    sacks-any (map (λ k. record { sack = k; age = 0 }) (new_sacks c old) ++ map (sack_older (distance (next_tsn old) (next_tsn r.0))) ks) cs r.0 new r.1.1

module _ (first size max most : ℕ) (limits : Option Limits) (cs : List Call) (s : Session) (small : first < 2 ^ 32)
    (run : RunsTo (at_start first size max most limits) cs s) (q : AreRecent (at_start first size max most limits) cs s run) where
  of-any : (P : (ℕ → ℕ) → List AgedSack → Session → Type 0) → WhileAnyRecent P
      → P (λ t. times_given_any t (at_start first size max most limits) (any_of cs) s (run-any cs (at_start first size max most limits) s run))
      (sacks_aged_any [] (at_start first size max most limits) (any_of cs) s (run-any cs (at_start first size max most limits) s run)) s
  of-any P law =
      law Drop first size max most limits (any_of cs) s (run-any cs (at_start first size max most limits) s run) small
      (recent-any cs (at_start first size max most limits) s run q)

pub can-so : WhileRecent CanBeAnswered
can-so first size max most limits cs s small run q = of-any first size max most limits cs s small run q (λ given sacks s. CanBeAnswered s) can

pub once-given : EachIsTakenOnceWhereGiven
once-given first size max most limits cs s small run q t fits =
    let le = of-any first size max most limits cs s small run q (λ given sacks s. AreTakenAsGiven given s) taken t fits in
    let same = given-any t cs (at_start first size max most limits) s run in
    omega (arith, le, same)

pub none-young-refused : NoYoungSackIsRefused
none-young-refused first size max most limits cs s small some run q =
    subst (λ ks. NoneYoungIsRefused ks s) (sacks-any [] cs (at_start first size max most limits) s run)
    (of-any first size max most limits cs s small run q (λ given sacks s. NoneYoungIsRefused sacks s) none-refused)
