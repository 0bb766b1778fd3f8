-- DATA that comes is taken, or refused still.
use Rattle.std.proofs.Common.{◌≡◌, ℕ, true, false, List, Option, Some, Result, Ok, ap, inl, inr, refl, sym, subst, ◌∙◌}
use Rattle.std.proofs.lemmas.Bool.{false≢true}
use Rattle.std.specs.Prelude.{◌⊎◌, Err, IfOk, OnOk}
use Rattle.sctp_association.specs.Coming.{FollowsData, HasTakenData, TakesDataAt}
use Rattle.sctp_association.specs.Halves.{receiver_of}
use Rattle.sctp_association.specs.declared.association.Association.{Association}
use Rattle.sctp_association.specs.Steps.{is_accepted}
use Rattle.sctp_association.specs.declared.association.Taken.{Taken}
use Rattle.sctp_association.specs.declared.fault.Fault.{Fault}
use Rattle.sctp_association.specs.declared.association.arrivals.Step.{Step}
use Rattle.sctp_association.specs.declared.association.arrivals.Step.TheVariants.{Next, Stop, Cut, Refused}
use Rattle.sctp_association.specs.declared.inbound.Followed.{Followed}
use Rattle.sctp_association.specs.declared.inbound.Followed.TheVariants.{Done, Wanting}
use Rattle.sctp_receiver.specs.Receiver.{Reception, IsRefusedFor, close_stream, filter_of}
use Rattle.sctp_receiver.specs.TsnFilter.{has_come}
use Rattle.sctp_receiver.specs.declared.receiver.refusal.ReceiverRefusal.{ReceiverRefusal}
use Rattle.sctp_receiver.specs.declared.receiver.refusal.ReceiverRefusal.TheVariants.{OutOfMemory}

pub if_ok : {T E : Type 0} (P : T → Type 0) (r : Result T E) (x : T) → r ≡ Ok x → IfOk r P → P x
if_ok P r x e h = subst (λ s. IfOk s P) e h

pub takes_still : (at : ℕ) (d : List ℕ) (old a b : Association) → receiver_of b.inbound ≡ receiver_of a.inbound → TakesDataAt at d old a
    → TakesDataAt at d old b
takes_still at d old a b e t = subst (HasTakenData at d old.inbound) (sym e) t

pub follows_data : (at : ℕ) (d : List ℕ) (s : Step) (a b : Association) → (s ≡ Next → TakesDataAt at d a b) → (s ≡ Stop → b.is_over ≡ true)
    → FollowsData at d s a b
follows_data at d Next a b next stop = next refl
follows_data at d Stop a b next stop = stop refl
follows_data at d Cut a b next stop = tt
follows_data at d (Refused r) a b next stop = tt

pub followed : (at : ℕ) (d : List ℕ) (s : Step) (a b : Association) → s ≡ Next → FollowsData at d s a b → TakesDataAt at d a b
followed at d s a b next h = subst (λ (k : Step). FollowsData at d k a b) next h

pub refused_for : (reason : Option ReceiverRefusal) (e : ReceiverRefusal) → (e ≡ OutOfMemory → ⊥) → IsRefusedFor reason e → reason ≡ Some e
refused_for reason e not (inl h) = absurd (not h.0)
refused_for reason e not (inr h) = h

pub closed_came : (tsn s : ℕ) (m r : Reception) → r ≡ close_stream s m → has_come tsn (filter_of m) ≡ true → has_come tsn (filter_of r) ≡ true
closed_came tsn s m r e h = ap (λ (q : Reception). has_come tsn (filter_of q)) e ∙ h

-- what is followed and ends no association is done, unless memory was wanting
pub done_unless : (f : Followed) (X : Type 0) → (f ≡ Done) ⊎ (f ≡ Wanting) → (f ≡ Wanting → ⊥) → (f ≡ Done → X) → X
done_unless f X (inl e) not done = done e
done_unless f X (inr e) not done = absurd (not e)

-- ## What is not read

pub never_told : (r : Result Taken Fault) (t : Taken) → r ≡ Ok t → is_accepted t ≡ true → IfOk r (λ t. is_accepted t ≡ false) → ⊥
never_told r t e is never = false≢true (sym (if_ok (λ t. is_accepted t ≡ false) r t e never) ∙ is)

pub never_accepted : (r : Result Taken Fault) (X : Type 0) → IfOk r (λ t. is_accepted t ≡ false) → IfOk r (λ t. is_accepted t ≡ true → X)
never_accepted (Ok t) X never = λ is. absurd (false≢true (sym never ∙ is))
never_accepted (Err e) X never = tt

pub on_ok : {T E X : Type 0} (r : Result T E) (x : T) → r ≡ Ok x → OnOk r X → X
on_ok {T} {E} {X} r x e h = subst (λ s. OnOk s X) e h
