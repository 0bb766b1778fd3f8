use Rattle.sctp_delivery.proofs.Names.{◌≡◌, ◌≤◌, true, Result, Ok, Err, None, sym, subst, ◌∙◌, inl, inr, IfErr, none-some, ChunkPayloadData, ReceiverRefusal}
use Rattle.sctp_delivery.proofs.Names.{Reception, arrival_refusal, AfterEachUnlimitedSession, IsInFlight, is_takable}
use Rattle.sctp_receiver.specs.declared.receiver.refusal.ReceiverRefusal.TheVariants.{OutOfMemory}
use Rattle.sctp_receiver.specs.Receiver.{IsRefusedFor}
use Rattle.sctp_delivery.proofs.RefusedLaw as law
use Rattle.sctp_delivery.proofs.refusals.take_chunk.Goals as goal

answered : {V : Type 0} (a : Result V ReceiverRefusal) (r : Reception) (x : ChunkPayloadData) → IfErr a (λ e. IsRefusedFor (arrival_refusal x r) e)
    → IfErr a (λ e. is_takable x r ≡ true → AfterEachUnlimitedSession (λ s. s.receiving.receiver ≡ r
    → s.sending.sender.max_message_size ≤ r.max_message_size → IsInFlight x s → e ≡ OutOfMemory))
answered (Ok v) r x h = tt
answered (Err e) r x h = λ t tsn size max most cs s small some run few same enough in'.
    let none = subst (λ q. arrival_refusal x q ≡ None) same
    (law.none-in-flight tsn size max most cs s small some run few (subst (λ (q : Reception). s.sending.sender.max_message_size ≤ q.max_message_size)
    (sym same) enough)
    x in' (subst (λ q. is_takable x q ≡ true) (sym same) t)) in
    elim h [ inl m ↦ m.0 | inr m ↦ absurd (none-some e (sym none ∙ m)) ]

pub returns-clause-refused : goal.returns-clause-refused
returns-clause-refused c = answered c.data.result c.args.receiver.now c.args.chunk.now c.data.ensures.refused
