use Rattle.sctp_delivery.proofs.Names.{◌≡◌, Result, Ok, Err, None, Some, true, sym, subst, ◌∙◌, IfErr, IsOk, none-some, ForwardTsn, ReceiverRefusal, Reception}
use Rattle.sctp_delivery.proofs.Names.{skip_refusal, WhileFewTsns, MayMake, is_due_named}
use Rattle.sctp_data.specs.ForwardTsn.{forward_tsn_of}
use Rattle.sctp_delivery.proofs.ForwardLaw as law
use Rattle.sctp_delivery.proofs.refusals.follow.Goals as goal

answered : {V : Type 0} (a : Result V ReceiverRefusal) (r : Reception) (f : ForwardTsn) → IfErr a (λ e. skip_refusal f r ≡ Some e)
    → is_due_named f r ≡ true → WhileFewTsns (λ s. s.receiving.receiver ≡ r → MayMake f s.sending.sender → IsOk a)
answered (Ok v) r f h = λ due tsn size max most limits cs s small some run few same may. search
answered (Err e) r f h = λ due tsn size max most limits cs s small some run few same may.
    let none = subst (λ q. skip_refusal f q ≡ None) same
    (law.none-made tsn size max most limits cs s small some run few f may (subst (λ q. is_due_named f q ≡ true) (sym same) due)) in
    absurd (none-some e (sym none ∙ h))

pub returns-clause-taken : goal.returns-clause-taken
returns-clause-taken c = answered c.forward_tsn.result c.args.receiver.now (forward_tsn_of c.args.chunk.now) c.forward_tsn.ensures.refused
