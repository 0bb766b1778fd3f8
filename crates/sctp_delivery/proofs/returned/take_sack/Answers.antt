use Rattle.sctp_delivery.proofs.Names.{◌≡◌, ◌⊎◌, Some, None, ap, sym, subst, ◌∙◌, inl, inr, Result, Ok, Err, IfOk, IfErr, Contains, Sack, sack_of, sack_refusal}
use Rattle.sctp_delivery.proofs.Names.{none-some}
use Rattle.sctp_delivery.proofs.Names.{SenderRefusal, Transmission}
use Rattle.sctp_delivery.specs.SenderCalls.{TakesBackAndSack}
use Rattle.sctp_sender.specs.Sender.{take_back_refusal}
use Rattle.sctp_sender.specs.declared.sender.Acked.{Acked}
use Rattle.sctp_sender.specs.declared.sender.refusal.SenderRefusal.TheVariants.{OutOfMemory}
use Rattle.sctp_delivery.specs.Returns.{AfterEachWithReturnsOfFewTsns, AreTwoCalls}
use Rattle.sctp_delivery.proofs.PlainLaws.{none-refused-back, two-calls}
use Rattle.sctp_delivery.proofs.PlainRuns.{none-refused}
use Rattle.sctp_delivery.proofs.WholeSacks.{makes}
use Rattle.sctp_delivery.proofs.returned.take_sack.Goals as goal

-- the two calls that it makes
called : (k : Sack) (old new : Transmission) (v : Acked) → TakesBackAndSack k v.taken_back.items v.released.items old new
    → AfterEachWithReturnsOfFewTsns (λ first n gone cs s. s.sending.sender ≡ old → Contains s.sacks k
    → AreTwoCalls k v.taken_back.items v.released.items s new)
called k old new v a reported first size max most limits cs s run small some few short same in' =
    two-calls reported first size max most limits cs s run small some few short k v.taken_back.items v.released.items new in'
    (subst (λ t. TakesBackAndSack k v.taken_back.items v.released.items t new) (sym same) a)

told : (k : Sack) (old new : Transmission) (r : Result Acked SenderRefusal) → IfOk r
    (λ v. TakesBackAndSack k v.taken_back.items v.released.items old new) → IfOk r
    (λ a. AfterEachWithReturnsOfFewTsns (λ first n gone cs s. s.sending.sender ≡ old → Contains s.sacks k
    → AreTwoCalls k a.taken_back.items a.released.items s new))
told k old new (Err e) a = tt
told k old new (Ok v) a = called k old new v a

-- neither of the two is refused
abbrev Reasons : Sack → Transmission → SenderRefusal → Type 0
Reasons k old e =
    ((e ≡ OutOfMemory) × (sack_refusal k old.flight ≡ None)) ⊎ ((sack_refusal k old.flight ≡ Some e) ⊎ (take_back_refusal k old ≡ Some e))

of-memory : (k : Sack) (old : Transmission) (e : SenderRefusal) → Reasons k old e
    → AfterEachWithReturnsOfFewTsns (λ first n gone cs s. s.sending.sender ≡ old → Contains s.sacks k → e ≡ OutOfMemory)
of-memory k old e why reported first size max most limits cs s run small some few short same in' =
    let plain = subst (λ j. sack_refusal j s.sending.sender.flight ≡ None) in'.2
    (none-refused reported first size max most limits cs s run small some few short in'.0 k in'.1) in
    let back = subst (λ j. take_back_refusal j s.sending.sender ≡ None) in'.2
    (none-refused-back reported first size max most limits cs s run small some few short in'.0 k in'.1) in
    elim why [
      | inl h ↦ h.0
      | inr h ↦ elim h [
        | inl i ↦ absurd (none-some e (sym plain ∙ ap (λ (t : Transmission). sack_refusal k t.flight) same ∙ i))
        | inr i ↦ absurd (none-some e (sym back ∙ ap (take_back_refusal k) same ∙ i))
      ]
    ]

refused : (k : Sack) (old : Transmission) (r : Result Acked SenderRefusal) → IfErr r (Reasons k old)
    → IfErr r (λ e. AfterEachWithReturnsOfFewTsns (λ first n gone cs s. s.sending.sender ≡ old → Contains s.sacks k → e ≡ OutOfMemory))
refused k old (Ok v) a = tt
refused k old (Err e) a = of-memory k old e a

pub returns-clause-refused : goal.returns-clause-refused
returns-clause-refused c = refused (sack_of c.args.sack.now) c.args.sender.now c.acked.result c.acked.ensures.refused

pub returns-clause-calls : goal.returns-clause-calls
returns-clause-calls c =
    told (sack_of c.args.sack.now) c.args.sender.now c.acked.new.self c.acked.result
    (makes (sack_of c.args.sack.now) c.args.sender.now c.acked.new.self c.acked.result c.acked.ensures)
