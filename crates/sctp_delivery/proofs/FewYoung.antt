-- In a session that gives out fewer than 2^31 TSNs nothing is handed over or held that is 2^31 TSNs old.
use Rattle.sctp_delivery.proofs.Names.{◌≡◌, ◌+◌, ◌<◌, List, [], ◌∷◌, refl, ap}
use Rattle.sctp_delivery.proofs.Names.{arith}
use Rattle.sctp_delivery.proofs.Names.{tsn}
use Rattle.sctp_delivery.proofs.Names.{tsns_given, Call, RunsTo, Session}
use Rattle.sctp_delivery.proofs.Names.{at_start}
use Rattle.sctp_util.specs.Serial.{distance}
use Rattle.sctp_delivery.specs.EveryCall.{tsns_given_any}
use Rattle.sctp_delivery.specs.EveryRecent.{ArePassedYoung, AreRecentAny, AreYoungAny}
use Rattle.sctp_delivery.proofs.Names.{Drop}
use Rattle.sctp_delivery.proofs.EveryFewYoung.{few-any}
use Rattle.sctp_delivery.proofs.EveryRecent.{any_of, run-any}
use Rattle.sctp_delivery.proofs.EveryYoung.{AreBacked}
use Rattle.sctp_delivery.specs.Recent.{AfterEachYoungRun, Aged, AreForwardsYoung, AreRecent, AreYoung, FewTsnsAreYoung, WhileReliableAndYoung}
use Rattle.sctp_delivery.specs.Complete.{AfterEachReliableSession}
use Rattle.sctp_delivery.specs.Messages.{AreWritesOfTheirOwn, WhileFewTsns}
use Rattle.sctp_delivery.specs.Modes.{AfterEachRunOfFewTsns, AreReadAsWritten}
use Rattle.sctp_delivery.specs.Order.{AreReadInOrder}
use Rattle.sctp_delivery.specs.Recent.{aged_after}
use Rattle.sctp_delivery.proofs.Delivered.{next_tsn}
use Rattle.sctp_delivery.proofs.YoungOrder as young_order
use Rattle.sctp_delivery.proofs.YoungOwn as young_own

-- most sessions are sessions of every call: what is asked of these is asked of those

recent-of : (cs : List Call) (old new : Session) (r : RunsTo old cs new) → AreRecentAny old (any_of cs) new (run-any cs old new r) → AreRecent old cs new r
unfolding any_of run-any
recent-of [] old new r q = tt
recent-of (c ∷ cs) old new r q = (q.0, q.1, recent-of cs r.0 new r.1.1 q.2)

young-of : (ages : List Aged) (cs : List Call) (old new : Session) (r : RunsTo old cs new) → AreYoungAny ages old (any_of cs) new (run-any cs old new r)
    → AreYoung ages old cs new r
unfolding any_of run-any
young-of ages [] old new r q = tt
young-of ages (c ∷ cs) old new r q = (q.0, q.1, young-of (aged_after c old r.0 ages) cs r.0 new r.1.1 q.2)

forwards-of : (ages : List Aged) (cs : List Call) (old new : Session) (r : RunsTo old cs new) → ArePassedYoung ages old (any_of cs) new (run-any cs old new r)
    → AreForwardsYoung ages old cs new r
unfolding any_of run-any
forwards-of ages [] old new r q = tt
forwards-of ages (c ∷ cs) old new r q = (q.0, forwards-of (aged_after c old r.0 ages) cs r.0 new r.1.1 q.1)

given-of : (cs : List Call) (old new : Session) (r : RunsTo old cs new)
    → tsns_given_any old (any_of cs) new (run-any cs old new r) ≡ tsns_given old cs new r
unfolding any_of run-any
given-of [] old new r = refl
given-of (c ∷ cs) old new r = ap (λ k. distance (next_tsn old) (next_tsn r.0) + k) (given-of cs r.0 new r.1.1)

backed-of : (K : Type 0) (cs : List Call) → AreBacked K (any_of cs)
unfolding any_of
backed-of K [] = tt
backed-of K (c ∷ cs) = (tt, backed-of K cs)

pub few-young : FewTsnsAreYoung
few-young tsn size max most limits cs s small some r few =
    let start = at_start tsn size max most limits in
    let given = given-of cs start s r in
    let y = few-any ⊥ Drop tsn size max most limits (any_of cs) s (run-any cs start s r) small some (omega (arith, given, few)) (λ k. absurd k)
    (backed-of ⊥ cs) in
    (recent-of cs start s r y.0, young-of [] cs start s r y.1, forwards-of [] cs start s r y.2)

-- so what is so in a whole life is so in it
pub of-few : (P : List Call → Session → Type 0) → AfterEachYoungRun P → AfterEachRunOfFewTsns P
of-few P law tsn size max most limits cs s small some r few =
    let y = few-young tsn size max most limits cs s small some r few in
    law tsn size max most limits cs s small some r y.0 y.1 y.2

pub in-order : WhileFewTsns AreReadInOrder
in-order = of-few (λ calls s. AreReadInOrder s) young_order.law

pub as-written : AfterEachRunOfFewTsns AreReadAsWritten
as-written = of-few AreReadAsWritten young_order.as-written

pub of-their-own : WhileFewTsns AreWritesOfTheirOwn
of-their-own =
    of-few (λ calls s. AreWritesOfTheirOwn s)
    (λ tsn size max most limits cs s small some r q y z. young_own.law tsn size max most limits cs s small some r q y)

pub of-reliable : (P : Session → Type 0) → WhileReliableAndYoung P → AfterEachReliableSession (λ size s. 0 < size → P s)
of-reliable P law tsn size max most limits cs s run small few all some =
    let y = few-young tsn size max most limits cs s small some run few in
    law tsn size max most limits cs s small some run y.0 y.1 all
