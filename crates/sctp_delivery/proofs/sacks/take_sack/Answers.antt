use Rattle.sctp_delivery.proofs.Names.{◌≡◌, ◌<◌, true, List, [], ◌∷◌, sym, subst, Result, Ok, Err, IfOk, All, Contains, Sack, sack_of, released_by, has_number}
use Rattle.sctp_delivery.proofs.Names.{less_by, Transmission, with_lows, Released, SenderRefusal, OutboundStream, change_where, AfterEachSessionOfFewTsns}
use Rattle.sctp_delivery.proofs.Names.{was_taken, Session}
use Rattle.sctp_delivery.proofs.Every.{Every, all-of-every, every-of-all}
use Rattle.sctp_delivery.proofs.SackLaws.{all-released-came}
use Rattle.sctp_delivery.proofs.sacks.take_sack.Goals as goal

abbrev IsTaken : Session → Released → Type 0
IsTaken s r = 0 < r.bytes → was_taken r.tsn s ≡ true

-- whatever is told of low thresholds
lows-taken : (s : Session) (rs : List Released) (ls : List OutboundStream) → Every (IsTaken s) rs → Every (IsTaken s) (with_lows rs ls)
lows-taken s [] ls e = tt
lows-taken s (r ∷ rs) ls e = (e.0, lows-taken s rs (change_where (has_number r.stream) (less_by r.bytes) ls) e.1)

all-taken : (t : Transmission) (k : Sack) (rs : List Released) → rs ≡ with_lows (released_by k t.flight) t.streams → AfterEachSessionOfFewTsns
    (λ first count s. s.sending.sender ≡ t → Contains s.sacks k → All (λ r. 0 < r.bytes → was_taken r.tsn s ≡ true) rs)
all-taken t k rs is first size max most limits cs s run small few same in' =
    let law = all-released-came first size max most limits cs s run small few in
    let taken = subst (λ x. All (IsTaken s) (released_by x s.sending.sender.flight)) in'.2 (law in'.0 k in'.1) in
    let here = subst (λ (u : Transmission). All (IsTaken s) (released_by k u.flight)) same taken in
    subst (All (IsTaken s)) (sym is)
    (all-of-every (IsTaken s) (with_lows (released_by k t.flight) t.streams)
    (lows-taken s (released_by k t.flight) t.streams (every-of-all (IsTaken s) (released_by k t.flight) here)))

answered : {V : Type 0} (r : Result V SenderRefusal) (items : V → List Released) (t : Transmission) (k : Sack) → IfOk r
    (λ v. items v ≡ with_lows (released_by k t.flight) t.streams) → IfOk r
    (λ v. AfterEachSessionOfFewTsns (λ first count s. s.sending.sender ≡ t → Contains s.sacks k → All (λ x. 0 < x.bytes → was_taken x.tsn s ≡ true)
    (items v)))
answered (Ok v) items t k e = all-taken t k (items v) e
answered (Err x) items t k e = tt

pub returns-clause-came : goal.returns-clause-came
returns-clause-came c = answered c.acked.result (λ v. v.items) c.args.sender.now (sack_of c.args.sack.now) c.acked.ensures.answer
