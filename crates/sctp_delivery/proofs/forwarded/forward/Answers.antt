use Rattle.sctp_delivery.proofs.Names.{◌≡◌, ℕ, true, Option, Some, subst, ◌∙◌, Result, Ok, Err, IfOk, option_map, advanced_ack_point, skip_end, Transmission}
use Rattle.sctp_delivery.proofs.Names.{SenderRefusal, in_flight, is_first_abandoned}
use Rattle.sctp_delivery.specs.Modes.{WhileFewInFlight}
use Rattle.sctp_data.specs.declared.chunk.chunk_forward_tsn.ChunkForwardTsn.{ChunkForwardTsn}
use Rattle.sctp_delivery.proofs.RoundsEnd.{all-skip}
use Rattle.sctp_delivery.proofs.forwarded.forward.Goals as goal

goes-there : (t : Transmission) (r : Result (Option ChunkForwardTsn) SenderRefusal)
    → IfOk r (λ o. option_map (λ c. c.new_cumulative_tsn) o ≡ skip_end (advanced_ack_point t.flight) t.flight)
    → IfOk r (λ o. WhileFewInFlight (λ s. s.sending.sender ≡ t → is_first_abandoned (in_flight s) ≡ true
    → option_map (λ c. c.new_cumulative_tsn) o ≡ Some (advanced_ack_point t.flight)))
goes-there t (Err e) answered = tt
goes-there t (Ok o) answered = λ first size max most limits cs s small some run few same gone.
    answered ∙ subst (λ (u : Transmission). skip_end (advanced_ack_point u.flight) u.flight ≡ Some (advanced_ack_point u.flight)) same
    (all-skip first size max most limits cs s small some run few gone)

pub returns-clause-made : goal.returns-clause-made
returns-clause-made c =
    let t = c.args.sender.now in
    goes-there t c.forward_tsn_to.result
    (subst (λ (p : ℕ). IfOk c.forward_tsn_to.result (λ o. option_map (λ x. x.new_cumulative_tsn) o ≡ skip_end p t.flight)) c.advanced_ack_point-furthest.ensures
    c.forward_tsn_to.ensures.tsn)
