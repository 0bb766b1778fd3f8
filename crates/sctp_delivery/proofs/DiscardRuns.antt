-- Sessions in which the receiver drops chunks are some of those of every call.
use Rattle.sctp_delivery.proofs.Names.{◌≡◌, ℕ, ◌+◌, ◌<◌, ◌≤◌, ◌^◌, ◌||◌, Bool, List, [], ◌∷◌, length, Option, refl, ap, sym, subst, ◌∙◌, arith, distance}
use Rattle.sctp_delivery.proofs.Names.{Limits, has_tsn, CallOrDiscard, RunsWithDiscards, discards, makes, AreWrites, AreWritesOfTheirOwn}
use Rattle.sctp_delivery.proofs.Names.{NoneIsReadTwice, CanBeAnswered, AllReportedLeaves, EachSackTells, NoneIsRefused, NoneIsTakenTwice, PassAbandoned}
use Rattle.sctp_delivery.proofs.Names.{StaysAcknowledged, was_passed, was_taken, AreMade, AreMessages, IsAccounted, Session, at_start}
use Rattle.sctp_delivery.proofs.Names.{of_receiver, of_sender, slice_index_or, released_by, Drop}
use Rattle.sctp_delivery.specs.Discards.{AfterEachWithDiscards, AcknowledgedCameSo, LeftCameSo, ReleasedCameSo}
use Rattle.sctp_delivery.specs.Discards.{ReportWhatCameSo, WhileFewerTsnsWithDiscards, tsns_given_so, was_discarded}
use Rattle.sctp_delivery.specs.EveryCall as any
use Rattle.sctp_delivery.specs.EveryCall.{AnyCall, RunsAny, drops, of_receiving, tsns_given_any, was_dropped}
use Rattle.sctp_delivery.proofs.Calls.{numbered_after}
use Rattle.sctp_delivery.proofs.Delivered as delivered
use Rattle.sctp_delivery.proofs.Delivered.{Holds, IsReadSession}
use Rattle.sctp_delivery.proofs.EveryRuns as every
use Rattle.sctp_delivery.proofs.OnceWritten.{own-so}
use Rattle.sctp_delivery.proofs.Sent.{Entry, Numbered}
use Rattle.sctp_delivery.proofs.Sessions as sessions

-- the same calls
abbrev as_any : List CallOrDiscard → List AnyCall
as_any [] = []
as_any (makes call ∷ cs) = any.makes call ∷ as_any cs
as_any (discards c ∷ cs) = of_receiving (any.discards c) ∷ as_any cs

-- the same session, in which as many TSNs are given out
record IsSameRun (cs : List CallOrDiscard) (old new : Session) (r : RunsWithDiscards old cs new) : Type 0 where
  run : RunsAny old (as_any cs) new
  given : tsns_given_any old (as_any cs) new run ≡ tsns_given_so old cs new r

any-run : (cs : List CallOrDiscard) (old new : Session) (r : RunsWithDiscards old cs new) → IsSameRun cs old new r
any-run [] old new r = record { run = r; given = refl }
any-run (makes call ∷ cs) old new r =
    let x = any-run cs r.0 new r.1.1 in
    record { run = (r.0, (r.1.0, x.run)); given = ap (λ k. distance old.sending.sender.flight.next_tsn r.0.sending.sender.flight.next_tsn + k) x.given }
any-run (discards c ∷ cs) old new r =
    let x = any-run cs r.0 new r.1.1 in
    let f = r.1.0 in
    record {
      run = (r.0, (record { handed = f.handed; step = f.step; accepted = f.accepted; after = f.after }, x.run));
      given = ap (λ k. distance old.sending.sender.flight.next_tsn r.0.sending.sender.flight.next_tsn + k) x.given;
    }

-- and the same chunks are dropped
dropped-same : (t : ℕ) (cs : List CallOrDiscard) → was_dropped (as_any cs) t ≡ was_discarded t cs
dropped-same t [] = refl
dropped-same t (makes call ∷ cs) = dropped-same t cs
dropped-same t (discards c ∷ cs) = ap (λ b. has_tsn t c || b) (dropped-same t cs)

-- ## Bytes and messages

-- nothing comes back
none-back : (cs : List CallOrDiscard) (old new : Session) → RunsWithDiscards old cs new → old.sending.taken_back ≡ 0 → new.sending.taken_back ≡ 0
none-back [] old new r e = ap (λ (s : Session). s.sending.taken_back) r ∙ e
none-back (makes (of_sender call) ∷ cs) old new r e =
    none-back cs r.0 new r.1.1 (let a = r.1.0.step.taken_back in let z = sessions.none-back call in omega (arith, a, z, e))
none-back (makes (of_receiver call) ∷ cs) old new r e = none-back cs r.0 new r.1.1 (ap (λ (s : Session). s.sending.taken_back) r.1.0.after ∙ e)
none-back (discards c ∷ cs) old new r e = none-back cs r.0 new r.1.1 (ap (λ (s : Session). s.sending.taken_back) r.1.0.after ∙ e)

pub accounted : AfterEachWithDiscards IsAccounted
accounted tsn size max most limits cs s r =
    let law = every.accounted Drop tsn size max most limits (as_any cs) s (any-run cs (at_start tsn size max most limits) s r).run in
    let none = none-back cs (at_start tsn size max most limits) s r refl in
    omega (arith, law, none)

pub made : AfterEachWithDiscards AreMade
made tsn size max most limits cs s r =
    every.made Drop tsn size max most limits (as_any cs) s (any-run cs (at_start tsn size max most limits) s r).run

pub messages : AfterEachWithDiscards AreMessages
messages tsn size max most limits cs s r =
    every.messages Drop tsn size max most limits (as_any cs) s (any-run cs (at_start tsn size max most limits) s r).run

-- the writes and the entries after some calls, these no more than the TSNs that were given out
record After (first : ℕ) (old : Session) (cs : List CallOrDiscard) (new : Session) (r : RunsWithDiscards old cs new) (sent : List Entry) : Type 0 where
  numbered : List Numbered
  more : List Entry
  holds : Holds first new numbered more
  few : length more ≤ length sent + tsns_given_so old cs new r

held-after : (first : ℕ) (cs : List CallOrDiscard) (old new : Session) (ns : List Numbered) (sent : List Entry) (r : RunsWithDiscards old cs new)
    → Holds first old ns sent → After first old cs new r sent
held-after first [] old new ns sent r h = record { numbered = ns; more = sent; holds = subst (λ s. Holds first s ns sent) (sym r) h; few = omega arith }
held-after first (makes (of_sender call) ∷ cs) old new ns sent r h =
    let x = delivered.sender-step first call old r.0 ns sent r.1.0 h in
    let a = held-after first cs r.0 new (numbered_after call ns) x.more r.1.1 x.holds in
    record { numbered = a.numbered; more = a.more; holds = a.holds; few = omega arith }
held-after first (makes (of_receiver call) ∷ cs) old new ns sent r h =
    let a = held-after first cs r.0 new ns sent r.1.1 (delivered.receiver-step first call old r.0 ns sent r.1.0 h) in
    record { numbered = a.numbered; more = a.more; holds = a.holds; few = omega arith }
held-after first (discards c ∷ cs) old new ns sent r h =
    let same : Holds first r.0 ns sent =
    subst (λ s. Holds first s ns sent) (sym r.1.0.after) (record { held = h.held; made = h.made; writes = h.writes; placed = h.placed }) in
    let a = held-after first cs r.0 new ns sent r.1.1 same in
    record { numbered = a.numbered; more = a.more; holds = a.holds; few = omega arith }

read-of : WhileFewerTsnsWithDiscards (2 ^ 32) IsReadSession
read-of tsn size max most limits cs s small some r few =
    let a = held-after tsn cs (at_start tsn size max most limits) s [] [] r (delivered.at-first tsn size max most limits small some) in
    delivered.read-from tsn s
    (sessions.read-on-so tsn most limits (every.receiver_calls (as_any cs)) s (every.receiver-runs (as_any cs) (at_start tsn size max most limits) s
    (any-run cs (at_start tsn size max most limits) s r).run))
    (messages tsn size max most limits cs s r) (made tsn size max most limits cs s r) a.numbered a.more (omega (arith, few)) a.holds

pub written : WhileFewerTsnsWithDiscards (2 ^ 32) AreWrites
written tsn size max most limits cs s small some r few = delivered.are-writes s (read-of tsn size max most limits cs s small some r few)

-- ## What SACKs say

module _ (first size max most : ℕ) (limits : Option Limits) (cs : List CallOrDiscard) (s : Session)
    (r : RunsWithDiscards (at_start first size max most limits) cs s) (small : first < 2 ^ 32)
    (few : tsns_given_so (at_start first size max most limits) cs s r < 2 ^ 31) where
  x : IsSameRun cs (at_start first size max most limits) s r
  x = any-run cs (at_start first size max most limits) s r

  few' : tsns_given_any (at_start first size max most limits) (as_any cs) s x.run < 2 ^ 31
  few' = let e = x.given in omega (arith, e, few)

  -- where a chunk came, by the calls of such a session
  came-so : (t : ℕ) (b : Bool) → ((was_dropped (as_any cs) t || was_taken t s) || b) ≡ ((was_discarded t cs || was_taken t s) || b)
  came-so t b = ap (λ d. (d || was_taken t s) || b) (dropped-same t cs)

  pub none-refused : NoneIsRefused s
  none-refused = every.none-refused Drop first size max most limits (as_any cs) s x.run small few'

  pub report-came : ReportWhatCameSo first (tsns_given_so (at_start first size max most limits) cs s r) cs s
  report-came t fits from told =
      let k = every.report-arrived Drop first size max most limits (as_any cs) s x.run small few' t fits from told in
      (sym (came-so t (was_passed t s)) ∙ k.0, subst (λ n. distance first t < n) x.given k.1)

  pub each-tells : EachSackTells s
  each-tells = every.each-tells Drop first size max most limits (as_any cs) s x.run small few'

  pub acknowledged-came : AcknowledgedCameSo cs s
  acknowledged-came k c lt told =
      let d = slice_index_or s.sending.sender.flight.queue.inflight.chunks k c in
      sym (came-so d.tsn d.abandoned) ∙ every.acknowledged-arrived Drop first size max most limits (as_any cs) s x.run small few' k c lt told

  pub released-came : ReleasedCameSo cs s
  released-came k sack lt j q short some =
      let e = slice_index_or (released_by (slice_index_or s.sacks k sack) s.sending.sender.flight) j q in
      sym (ap (λ b. b || was_taken e.tsn s) (dropped-same e.tsn cs))
      ∙ every.released-arrived Drop first size max most limits (as_any cs) s x.run small few' k sack lt j q short some

  pub left-came : LeftCameSo first cs s
  left-came t fits from upto =
      sym (came-so t (was_passed t s)) ∙ every.left-arrived Drop first size max most limits (as_any cs) s x.run small few' t fits from upto

  pub pass-abandoned : PassAbandoned s
  pass-abandoned = every.pass-abandoned Drop first size max most limits (as_any cs) s x.run small few'

  pub stays-acknowledged : StaysAcknowledged s
  stays-acknowledged = every.stays-acknowledged Drop first size max most limits (as_any cs) s x.run small few'

  pub all-leaves : AllReportedLeaves s
  all-leaves = every.all-leaves Drop first size max most limits (as_any cs) s x.run small few'

  pub all-can : CanBeAnswered s
  all-can = every.all-can Drop first size max most limits (as_any cs) s x.run small few'

  pub none-taken-twice : NoneIsTakenTwice s
  none-taken-twice = every.none-taken-twice Drop first size max most limits (as_any cs) s x.run small few'

  pub none-read-twice : NoneIsReadTwice s
  none-read-twice = every.none-read-twice Drop first size max most limits (as_any cs) s x.run small few'

pub of-their-own : WhileFewerTsnsWithDiscards (2 ^ 31) AreWritesOfTheirOwn
of-their-own tsn size max most limits cs s small some r few =
    own-so s (read-of tsn size max most limits cs s small some r (omega (arith, few))) (none-read-twice tsn size max most limits cs s r small few)
