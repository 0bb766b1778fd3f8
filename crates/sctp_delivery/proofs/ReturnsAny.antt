-- A session of a sender that keeps what is reported is one of every call: what holds of these holds of it.
use Rattle.sctp_delivery.proofs.Names.{common_steps, nat_tests, ◌≡◌, ℕ, ◌+◌, false, List, [], ◌∷◌, refl, ap, subst, arith, Session, distance}
use Rattle.sctp_delivery.specs.EveryCall as any
use Rattle.sctp_delivery.specs.EveryCall.{AfterEachAny, AfterEachAnyOfFewBytes, AfterEachAnyOfFewTsns, AnyCall, FollowsAny, RunsAny, of_sending, tsns_given_any}
use Rattle.sctp_delivery.specs.EveryCall.{was_dropped}
use Rattle.sctp_delivery.specs.Returns as returns
use Rattle.sctp_delivery.specs.Returns.{AfterEachWithReturns, AfterEachWithReturnsOfFewTsns, CallOrReturn, FollowsOrReturns, RunsWithReturns, at_start_with}
use Rattle.sctp_delivery.specs.Returns.{tsns_given_so}
use Rattle.sctp_delivery.proofs.Delivered.{next_tsn}

-- ## The calls

abbrev pub as_any : CallOrReturn → AnyCall
as_any (returns.makes call) = any.makes call
as_any (returns.takes_back sack back) = of_sending (any.takes_back sack back)

abbrev pub any_calls : List CallOrReturn → List AnyCall
any_calls [] = []
any_calls (c ∷ cs) = as_any c ∷ any_calls cs

pub follows-any : (c : CallOrReturn) (old new : Session) → FollowsOrReturns c old new → FollowsAny (as_any c) old new
follows-any h0 h1 h2 h3 = grind (arith, nat_tests, common_steps)

unfoldable pub runs-any : (cs : List CallOrReturn) (old new : Session) → RunsWithReturns old cs new → RunsAny old (any_calls cs) new
runs-any [] old new r = r
runs-any (c ∷ cs) old new r = (r.0, (follows-any c old r.0 r.1.0, runs-any cs r.0 new r.1.1))

given-any : (cs : List CallOrReturn) (old new : Session) (r : RunsWithReturns old cs new)
    → tsns_given_any old (any_calls cs) new (runs-any cs old new r) ≡ tsns_given_so old cs new r
unfolding runs-any
given-any [] old new r = refl
given-any (c ∷ cs) old new r = ap (λ k. distance (next_tsn old) (next_tsn r.0) + k) (given-any cs r.0 new r.1.1)

-- no chunk is dropped
pub none-dropped : (cs : List CallOrReturn) (t : ℕ) → was_dropped (any_calls cs) t ≡ false
none-dropped [] t = refl
none-dropped (returns.makes call ∷ cs) t = none-dropped cs t
none-dropped (returns.takes_back sack back ∷ cs) t = none-dropped cs t

-- ## What holds of every session of every call

pub of-each : (P : List AnyCall → Session → Type 0) → AfterEachAny P → AfterEachWithReturns (λ cs s. P (any_calls cs) s)
of-each P law reported first size max most limits cs s run =
    law reported first size max most limits (any_calls cs) s (runs-any cs (at_start_with reported first size max most limits) s run)

-- and of each of few TSNs, and bytes
pub of-few-tsns : (P : ℕ → ℕ → List AnyCall → Session → Type 0) → AfterEachAnyOfFewTsns P
    → AfterEachWithReturnsOfFewTsns (λ first n gone cs s. P first n (any_calls cs) s)
of-few-tsns P law reported first size max most limits cs s run small some few short =
    let start = at_start_with reported first size max most limits in
    let given = given-any cs start s run in
    subst (λ n. P first n (any_calls cs) s) given
    (law reported first size max most limits (any_calls cs) s (runs-any cs start s run) small (omega (arith, given, few)))

pub of-few-bytes : (P : List AnyCall → Session → Type 0) → AfterEachAnyOfFewBytes P
    → AfterEachWithReturnsOfFewTsns (λ first n gone cs s. P (any_calls cs) s)
of-few-bytes P law reported first size max most limits cs s run small some few short =
    let start = at_start_with reported first size max most limits in
    let given = given-any cs start s run in
    law reported first size max most limits (any_calls cs) s (runs-any cs start s run) small some (omega (arith, given, few)) short
