-- In a reliable session no message is abandoned: what is said of the other messages is said of all.
use Rattle.sctp_delivery.proofs.Names.{◌≡◌, ◌++◌, true, List, [], ◌∷◌, refl, ap₂, arith, list_all, nat_tests, both, Transmission, EachOtherIsReadOnce}
use Rattle.sctp_delivery.proofs.Names.{abandoned_by, abandoned_in, is_reliable, is_reliable_at_receiver, is_reliable_at_sender, SenderCall, Call, RunsTo}
use Rattle.sctp_delivery.proofs.Names.{Session, of_receiver, of_sender}
use Rattle.sctp_delivery.specs.Complete.{EachIsReadOnce}

pub none-by : (call : SenderCall) (t : Transmission) → is_reliable_at_sender call ≡ true → abandoned_by call t ≡ []
none-by call t h3 = grind (arith, nat_tests)

pub none-in : (cs : List Call) (old new : Session) (run : RunsTo old cs new) → list_all is_reliable cs ≡ true → abandoned_in old cs new run ≡ []
none-in [] old new run all = refl
none-in (of_sender call ∷ cs) old new run all =
    let b = both (is_reliable_at_sender call) (list_all is_reliable cs) all in
    ap₂ (λ xs ys. xs ++ ys) (none-by call old.sending.sender b.0) (none-in cs run.0 new run.1.1 b.1)
none-in (of_receiver call ∷ cs) old new run all =
    let b = both (is_reliable_at_receiver call) (list_all is_reliable cs) all in
    none-in cs run.0 new run.1.1 b.1

pub each-of-others : (s : Session) → EachOtherIsReadOnce [] s → EachIsReadOnce s
each-of-others s e = (e.0, e.1, e.2, λ k lt. e.3 k lt refl)
