-- What is read of an ordered stream is some of the writes to it, in their order.
use Rattle.sctp_delivery.proofs.Names.{common_steps, ◌≡◌, ℕ, zero, suc, ◌+◌, ◌-◌, ◌<◌, ◌≤◌, Bool, true, false, not, List, [], ◌∷◌, length, map, inl, inr, refl}
use Rattle.sctp_delivery.proofs.Names.{ap, sym, subst, ◌∙◌, arith, All, AllPairs, ◌==◌, ◌&&◌, if◌then◌else◌, slice_index_or, filter, list_all, cases_lt}
use Rattle.sctp_delivery.proofs.Names.{nat_tests, same-is, same-yes, both, Message, SenderCall, Write, written_after, Call, RunsTo, Session, at_start}
use Rattle.sctp_delivery.proofs.Names.{of_receiver, of_sender, StandAt, IsWrite, Modes, Sending, at_first, modes_after, modes_from, starting}
use Rattle.sctp_delivery.proofs.Names.{AfterEachRunOfFewTsns, Limits, Option, not_both}
use Rattle.std.specs.Prelude.{cond}
use Rattle.sctp_delivery.specs.InOrder.{Are, AreAmong, AreReadInTurn, keeps_order, read_from, written_to}
use Rattle.sctp_delivery.specs.Modes.{AreReadAsWritten, unknown, was_written_ordered}
use Rattle.sctp_delivery.specs.Order.{places_where}
use Rattle.sctp_delivery.specs.EveryCall.{AfterEachAnyOfFewBytes, AnyCall, AreSingleWhereSteady, RunsAny, is_single, is_steady, makes, of_receiving, of_sending}
use Rattle.sctp_delivery.specs.EveryCall.{single_messages}
use Rattle.sctp_delivery.specs.EveryOrder.{AreReadInTurnWhereUnbroken, AreSingleReadAsWritten, is_ordered_throughout, is_unbroken, plain_calls}
use Rattle.sctp_delivery.specs.Recent.{AfterEachYoungRun}
use Rattle.sctp_delivery.specs.EveryRecent.{WhileAllAnyYoung}
use Rattle.sctp_delivery.specs.Returns.{at_start_with}
use Rattle.sctp_sender.specs.declared.sender.Reported.{Reported}
use Rattle.sctp_delivery.proofs.Every.{Every, every-of, every-of-all}
use Rattle.sctp_delivery.proofs.EveryMessages as messages
use Rattle.sctp_delivery.proofs.EveryYoung as young
use Rattle.sctp_delivery.proofs.EveryYoungOrder as young_order
use Rattle.sctp_delivery.proofs.FewYoung.{of-few}
use Rattle.sctp_delivery.proofs.YoungOrder.{as-written}

-- ## The writes to an ordered stream

-- each of the writes to the stream is ordered
abbrev AreOrderedOn : ℕ → List Sending → List Write → Type 0
AreOrderedOn st [] ws = Unit {0}
AreOrderedOn st (v ∷ vs) [] = Unit {0}
AreOrderedOn st (v ∷ vs) (w ∷ ws) = (w.stream ≡ st → v.mode.unordered ≡ false) × AreOrderedOn st vs ws

record IsOrdered (st : ℕ) (m : Modes) (ws : List Write) : Type 0 where
  stream : (m.of_streams st).unordered ≡ false
  writes' : AreOrderedOn st m.of_writes ws

ordered-started : (st now : ℕ) (vs : List Sending) (ws : List Write) → AreOrderedOn st vs ws → AreOrderedOn st (map (starting now) vs) ws
ordered-started st now [] ws o = tt
ordered-started st now (v ∷ vs) [] o = tt
ordered-started st now (v ∷ vs) (w ∷ ws) o = (o.0, ordered-started st now vs ws o.1)

ordered-at : (st : ℕ) (vs : List Sending) (ws : List Write) (p : ℕ) (w : Write) → p < length ws → AreOrderedOn st vs ws → (slice_index_or ws p w).stream ≡ st
    → (slice_index_or vs p unknown).mode.unordered ≡ false
ordered-at st [] ws p w lt o e = refl
ordered-at st (v ∷ vs) [] p w lt o e = absurd (omega (arith, lt))
ordered-at st (v ∷ vs) (x ∷ ws) zero w lt o e = o.0 e
ordered-at st (v ∷ vs) (x ∷ ws) (suc p) w lt o e = ordered-at st vs ws p w (omega (arith, lt)) o.1 e

after-call : (st : ℕ) (call : SenderCall) (m : Modes) (ws : List Write) → keeps_order st (of_sender call) ≡ true → IsOrdered st m ws
    → IsOrdered st (modes_after call m) (written_after call ws)
after-call h0 h1 h2 h3 h4 h5 = grind (arith, nat_tests, common_steps, same-is, same-yes, ordered-started)

ordered-run : (st : ℕ) (cs : List Call) (old new : Session) (m : Modes) → RunsTo old cs new → list_all (keeps_order st) cs ≡ true
    → IsOrdered st m old.written → IsOrdered st (modes_from m cs) new.written
ordered-run st [] old new m r e o = subst (λ (s : Session). IsOrdered st m s.written) (sym r) o
ordered-run st (of_sender call ∷ cs) old new m r e o =
    let b = both (keeps_order st (of_sender call)) (list_all (keeps_order st) cs) e in
    ordered-run st cs r.0 new (modes_after call m) r.1.1 b.1
    (subst (IsOrdered st (modes_after call m)) (sym (ap (λ (s : Session). s.written) r.1.0.after)) (after-call st call m old.written b.0 o))
ordered-run st (of_receiver call ∷ cs) old new m r e o =
    ordered-run st cs r.0 new m r.1.1 e (subst (IsOrdered st m) (sym (ap (λ (s : Session). s.written) r.1.0.after)) o)

ordered-any : (st : ℕ) (cs : List AnyCall) (old new : Session) (m : Modes) → RunsAny old cs new → list_all (keeps_order st) (plain_calls cs) ≡ true
    → IsOrdered st m old.written → IsOrdered st (modes_from m (plain_calls cs)) new.written
ordered-any st [] old new m r e o = subst (λ (s : Session). IsOrdered st m s.written) (sym r) o
ordered-any st (makes (of_sender call) ∷ cs) old new m r e o =
    let b = both (keeps_order st (of_sender call)) (list_all (keeps_order st) (plain_calls cs)) e in
    ordered-any st cs r.0 new (modes_after call m) r.1.1 b.1
    (subst (IsOrdered st (modes_after call m)) (sym (ap (λ (s : Session). s.written) r.1.0.after)) (after-call st call m old.written b.0 o))
ordered-any st (makes (of_receiver call) ∷ cs) old new m r e o =
    ordered-any st cs r.0 new m r.1.1 e (subst (IsOrdered st m) (sym (ap (λ (s : Session). s.written) r.1.0.after)) o)
ordered-any st (of_sending call ∷ cs) old new m r e o =
    ordered-any st cs r.0 new m r.1.1 e (subst (IsOrdered st m) (sym (ap (λ (s : Session). s.written) r.1.0.after)) o)
ordered-any st (of_receiving call ∷ cs) old new m r e o =
    ordered-any st cs r.0 new m r.1.1 e (subst (IsOrdered st m) (sym (ap (λ (s : Session). s.written) r.1.0.after)) o)

-- ## Places that rise

abbrev Rise : ℕ → List ℕ → Type 0
Rise k [] = Unit {0}
Rise k (q ∷ qs) = (k ≤ q) × Rise (suc q) qs

rise : (k : ℕ) (qs : List ℕ) → All (λ q. k ≤ q) qs → AllPairs (λ p q. p < q) qs → Rise k qs
rise k [] a h = tt
rise k (q ∷ qs) a h = (
  a 0 0 (omega arith),
  rise (suc q) qs (λ i d lt. (let l = h 0 (suc i) d (omega arith) (omega (arith, lt)) in omega (arith, l)))
      (λ i j d lt short. h (suc i) (suc j) d (omega (arith, lt)) (omega (arith, short))),
)

lower : (j k : ℕ) (qs : List ℕ) → j ≤ k → Rise k qs → Rise j qs
lower j k [] le r = tt
lower j k (q ∷ qs) le r = (let l = r.0 in omega (arith, le, l), r.1)

-- ## Messages at such places

module _ (st : ℕ) where
  -- each of these messages is on the stream, and the write at its place, counted from k on
  abbrev AreFrom : ℕ → List Write → List Message → List ℕ → Type 0
  AreFrom k zs [] qs = Unit {0}
  AreFrom k zs (f ∷ fs) [] = ⊥
  AreFrom k zs (f ∷ fs) (q ∷ qs) =
      ((f.stream ≡ st) × ((q < k + length zs) × ((w : Write) → IsWrite f (slice_index_or zs (q - k) w)))) × AreFrom k zs fs qs

  shifted : (k : ℕ) (z : Write) (zs : List Write) (fs : List Message) (qs : List ℕ) → Rise (suc k) qs → AreFrom k (z ∷ zs) fs qs → AreFrom (suc k) zs fs qs
  shifted k z zs [] qs r a = tt
  shifted k z zs (f ∷ fs) [] r a = absurd a
  shifted k z zs (f ∷ fs) (q ∷ qs) r a =
      let le = r.0 in
      let lt = a.0.1.0 in
      let e : q - k ≡ suc (q - suc k) = omega (arith, le) in (
        (a.0.0, (omega (arith, lt), λ w. subst (λ i. IsWrite f (slice_index_or (z ∷ zs) i w)) e (a.0.1.1 w))),
        shifted k z zs fs qs (lower (suc k) (suc q) qs (omega (arith, le)) r.1) a.1,
      )

  abbrev on : List Write → List Write
  on zs = filter (λ w. w.stream == st) zs

  among : (k : ℕ) (zs : List Write) (fs : List Message) (qs : List ℕ) → Rise k qs → AreFrom k zs fs qs → AreAmong fs (on zs)
  among k zs [] qs r a = tt
  among k zs (f ∷ fs) [] r a = absurd a
  among k [] (f ∷ fs) (q ∷ qs) r a = let le = r.0 in let lt = a.0.1.0 in absurd (omega (arith, le, lt))
  among k (z ∷ zs) (f ∷ fs) (q ∷ qs) r a = elim (cases_lt k q) [
    | inl lt ↦
        let rest = among (suc k) zs (f ∷ fs) (q ∷ qs) (omega (arith, lt), r.1) (shifted k z zs (f ∷ fs) (q ∷ qs) (omega (arith, lt), r.1) a) in
        skip (z.stream == st) rest
    | inr ge ↦
        let le = r.0 in
        let zero' : q - k ≡ 0 = omega (arith, ge) in
        let is = subst (λ i. IsWrite f (slice_index_or (z ∷ zs) i z)) zero' (a.0.1.1 z) in
        let here : (z.stream == st) ≡ true = ap (λ n. n == st) (sym is.stream ∙ a.0.0) ∙ same-yes st in
        let up = lower (suc k) (suc q) qs (omega (arith, le)) r.1 in
        subst (λ b. AreAmong (f ∷ fs) (cond b (z ∷ on zs) (on zs))) (sym here) (inl (is, among (suc k) zs fs qs up (shifted k z zs fs qs up a.1)))
  ]
    where
      skip : (b : Bool) → AreAmong (f ∷ fs) (on zs) → AreAmong (f ∷ fs) (cond b (z ∷ on zs) (on zs))
      skip true h = inr h
      skip false h = h

  some : (ws : List Write) (p : ℕ) → p < length ws → Write
  some [] p lt = absurd (omega (arith, lt))
  some (w ∷ ws) p lt = w

  -- of messages at their places those on the stream, where each write to it is ordered
  stand-on : (vs : List Sending) (ws : List Write) → AreOrderedOn st vs ws → (ms : List Message) (ps : List ℕ) → StandAt ws ms ps
      → AreFrom 0 ws (filter (λ m. m.stream == st) ms) (places_where (was_written_ordered vs st) ms ps)
  stand-on vs ws o [] ps s = tt
  stand-on vs ws o (m ∷ ms) [] s = absurd s
  stand-on vs ws o (m ∷ ms) (p ∷ ps) s = by (stand-on vs ws o ms ps s.1) (m.stream == st) refl
    where
      fs : List Message
      fs = filter (λ m. m.stream == st) ms

      qs : List ℕ
      qs = places_where (was_written_ordered vs st) ms ps

      by : AreFrom 0 ws fs qs → (b : Bool) → (m.stream == st) ≡ b
          → AreFrom 0 ws (cond b (m ∷ fs) fs) (if b && not (slice_index_or vs p unknown).mode.unordered then p ∷ qs else qs)
      by rest false e = rest
      by rest true e =
          let here = same-is m.stream st e in
          let w = some ws p s.0.0 in
          let plain = ordered-at st vs ws p w s.0.0 o (sym (s.0.1 w).stream ∙ here) in
          let lt = s.0.0 in
          let same : p ≡ p - 0 = omega arith in
          let is : (v : Write) → IsWrite m (slice_index_or ws (p - 0) v) = λ v. subst (λ i. IsWrite m (slice_index_or ws i v)) same (s.0.1 v) in
          subst (λ u. AreFrom 0 ws (m ∷ fs) (if true && not u then p ∷ qs else qs)) (sym plain) ((here, (omega (arith, lt), is)), rest)

  -- of messages at their places, where the places of those rise
  among-places : (vs : List Sending) (ws : List Write) → AreOrderedOn st vs ws → (ms : List Message) (ps : List ℕ) → StandAt ws ms ps
      → AllPairs (λ p q. p < q) (places_where (was_written_ordered vs st) ms ps) → AreAmong (filter (λ m. m.stream == st) ms) (on ws)
  among-places vs ws o ms ps s h =
      among 0 ws (filter (λ m. m.stream == st) ms) (places_where (was_written_ordered vs st) ms ps) (rise 0 _ (λ k d lt. omega arith) h)
      (stand-on vs ws o ms ps s)

-- ## As many

fewer : (ms : List Message) (ws : List Write) → AreAmong ms ws → length ms ≤ length ws
fewer [] ws a = omega arith
fewer (m ∷ ms) [] a = absurd a
fewer (m ∷ ms) (w ∷ ws) (inl a) = let n = fewer ms ws a.1 in omega (arith, n)
fewer (m ∷ ms) (w ∷ ws) (inr a) = let n = fewer (m ∷ ms) ws a in omega (arith, n)

pub are : (ms : List Message) (ws : List Write) → AreAmong ms ws → length ws ≤ length ms → Are ms ws
are [] [] a le = tt
are [] (w ∷ ws) a le = absurd (omega (arith, le))
are (m ∷ ms) [] a le = absurd a
are (m ∷ ms) (w ∷ ws) (inl a) le = (a.0, are ms ws a.1 (omega (arith, le)))
are (m ∷ ms) (w ∷ ws) (inr a) le = let n = fewer (m ∷ ms) ws a in absurd (omega (arith, le, n))

-- ## The law

-- where what was written ordered is read in that order
pub in-turn-of : (tsn size max most : ℕ) (limits : Option Limits) (cs : List Call) (s : Session) → RunsTo (at_start tsn size max most limits) cs s
    → AreReadAsWritten cs s → AreReadInTurn cs s
in-turn-of tsn size max most limits cs s r law =
    record { among = among-on; all = λ st e le. are (read_from st s) (written_to st s) (among-on st e) le }
  where
    among-on : (st : ℕ) → list_all (keeps_order st) cs ≡ true → AreAmong (read_from st s) (written_to st s)
    among-on st e =
        let o = ordered-run st cs (at_start tsn size max most limits) s at_first r e (record { stream = refl; writes' = tt }) in
        among-places st (modes_from at_first cs).of_writes s.written o.writes' s.receiving.read law.0 law.1 (law.3 st)

pub in-turn-young : AfterEachYoungRun AreReadInTurn
in-turn-young tsn size max most limits cs s small some' r q y z =
    in-turn-of tsn size max most limits cs s r (as-written tsn size max most limits cs s small some' r q y z)

pub in-turn : AfterEachRunOfFewTsns AreReadInTurn
in-turn = of-few AreReadInTurn in-turn-young

-- those on the stream, where each of these is single, are single
same-on : (st : ℕ) (ms : List Message) → Every (λ (m : Message). (m.stream == st) ≡ true → is_single m.fragments ≡ true) ms
    → filter (λ m. m.stream == st) (single_messages ms) ≡ filter (λ m. m.stream == st) ms
same-on st [] h = refl
same-on st (m ∷ ms) h = grind (arith, nat_tests, common_steps, not_both, same-on st ms h.1)

-- where what was written ordered is read in that order, and messages are single where the sender is steady
in-turn-so : (reported : Reported) (tsn size max most : ℕ) (limits : Option Limits) (cs : List AnyCall) (s : Session)
    → RunsAny (at_start_with reported tsn size max most limits) cs s → AreSingleReadAsWritten cs s → AreSingleWhereSteady cs s
    → AreReadInTurnWhereUnbroken cs s
in-turn-so reported tsn size max most limits cs s r law alone =
    record { among = among-on; all = λ st e le. are (read_from st s) (written_to st s) (among-on st e) le }
  where
    among-on : (st : ℕ) → is_ordered_throughout cs st ≡ true → AreAmong (read_from st s) (written_to st s)
    among-on st e =
        let b = both (is_unbroken cs st) (list_all (keeps_order st) (plain_calls cs)) e in
        let o = ordered-any st cs (at_start_with reported tsn size max most limits) s at_first r b.1 (record { stream = refl; writes' = tt }) in
        let single : Every (λ (m : Message). is_steady cs m.stream ≡ true → is_single m.fragments ≡ true) s.receiving.read =
        every-of-all (λ m. is_steady cs m.stream ≡ true → is_single m.fragments ≡ true) s.receiving.read alone in
        subst (λ ms. AreAmong ms (written_to st s))
        (same-on st s.receiving.read
        (every-of (λ (m : Message). is_steady cs m.stream ≡ true → is_single m.fragments ≡ true)
        (λ (m : Message). (m.stream == st) ≡ true → is_single m.fragments ≡ true)
        (λ m h f. h (ap (is_steady cs) (same-is m.stream st f) ∙ messages.steady-there false cs st b.0)) s.receiving.read single))
        (among-places st (modes_from at_first (plain_calls cs)).of_writes s.written o.writes' (single_messages s.receiving.read) law.0 law.1 (law.3 st b.0))

pub in-turn-any : AfterEachAnyOfFewBytes AreReadInTurnWhereUnbroken
in-turn-any reported tsn size max most limits cs s r small some' few short =
    grind (arith, nat_tests, common_steps, in-turn-so, messages.as-written, messages.are-single)

pub in-turn-any-young : WhileAllAnyYoung AreReadInTurnWhereUnbroken
in-turn-any-young reported tsn size max most limits cs s r small some' q y z short =
    grind (arith, nat_tests, common_steps, in-turn-so, young_order.as-written, young.single)
