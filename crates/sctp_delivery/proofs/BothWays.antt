-- Of calls of two hosts that both send, those of each way are a session.
use Rattle.sctp_delivery.proofs.Names.{◌≡◌, List, [], ◌∷◌, ap, subst, Follows, RunsTo, Session}
use Rattle.sctp_delivery.specs.BothWays.{AreReadBothWays, AreReadBothWaysSo, AreReadBothWaysWhileYoung, EachWayIsASession, EachWayIsASessionSo, Pair, PairCall}
use Rattle.sctp_delivery.specs.BothWays.{PairRunsTo, both_begun}
use Rattle.sctp_delivery.specs.BothWays.{both_begun_with, comes, coming, goes, going}
use Rattle.sctp_delivery.specs.Returns.{FollowsOrReturns, RunsWithReturns}
use Rattle.sctp_delivery.proofs.FewYoung as few_young
use Rattle.sctp_delivery.proofs.PlainRuns.{as-written}
use Rattle.sctp_delivery.proofs.YoungOrder as young_order

-- whatever a call and calls one after another are
module _ {C : Type 0} (F : C → Session → Session → Type 0) (R : Session → List C → Session → Type 0) (none : (old new : Session) → new ≡ old → R old [] new)
    (one : (c : C) (cs : List C) (old mid new : Session) → F c old mid → R mid cs new → R old (c ∷ cs) new) where
  forth : (cs : List (PairCall C)) (old new : Pair) → PairRunsTo F old cs new → R old.forth (going cs) new.forth
  forth [] old new r = none old.forth new.forth (ap (λ (p : Pair). p.forth) r)
  forth (goes call ∷ cs) old new r = one call (going cs) old.forth r.0.forth new.forth r.1.0.0 (forth cs r.0 new r.1.1)
  forth (comes call ∷ cs) old new r = subst (λ s. R s (going cs) new.forth) r.1.0.1 (forth cs r.0 new r.1.1)

  back : (cs : List (PairCall C)) (old new : Pair) → PairRunsTo F old cs new → R old.back (coming cs) new.back
  back [] old new r = none old.back new.back (ap (λ (p : Pair). p.back) r)
  back (goes call ∷ cs) old new r = subst (λ s. R s (coming cs) new.back) r.1.0.1 (back cs r.0 new r.1.1)
  back (comes call ∷ cs) old new r = one call (coming cs) old.back r.0.back new.back r.1.0.0 (back cs r.0 new r.1.1)

pub each-way : EachWayIsASession
each-way a b cs p r = (
  forth Follows RunsTo (λ old new e. e) (λ c cs old mid new f g. (mid, (f, g))) cs (both_begun a b) p r,
  back Follows RunsTo (λ old new e. e) (λ c cs old mid new f g. (mid, (f, g))) cs (both_begun a b) p r,
)

pub read-both-ways : AreReadBothWays
read-both-ways a b cs p r few few' =
    let w = each-way a b cs p r in (
      few_young.as-written a.tsn a.size a.max a.most a.limits (going cs) p.forth a.small a.some w.0 (few w.0),
      few_young.as-written b.tsn b.size b.max b.most b.limits (coming cs) p.back b.small b.some w.1 (few' w.1),
    )

pub read-while-young : AreReadBothWaysWhileYoung
read-while-young a b cs p r young young' =
    let w = each-way a b cs p r in
    let y = young w.0 in
    let z = young' w.1 in (
      young_order.as-written a.tsn a.size a.max a.most a.limits (going cs) p.forth a.small a.some w.0 y.0 y.1 y.2,
      young_order.as-written b.tsn b.size b.max b.most b.limits (coming cs) p.back b.small b.some w.1 z.0 z.1 z.2,
    )

-- where senders keep what is reported
pub each-way-so : EachWayIsASessionSo
each-way-so k q a b cs p r = (
  forth FollowsOrReturns RunsWithReturns (λ old new e. e) (λ c cs old mid new f g. (mid, (f, g))) cs (both_begun_with k q a b) p r,
  back FollowsOrReturns RunsWithReturns (λ old new e. e) (λ c cs old mid new f g. (mid, (f, g))) cs (both_begun_with k q a b) p r,
)

pub read-both-ways-so : AreReadBothWaysSo
read-both-ways-so k q a b cs p r few few' short short' =
    let w = each-way-so k q a b cs p r in (
      as-written k a.tsn a.size a.max a.most a.limits (going cs) p.forth w.0 a.small a.some (few w.0) short,
      as-written q b.tsn b.size b.max b.most b.limits (coming cs) p.back w.1 b.small b.some (few' w.1) short',
    )
