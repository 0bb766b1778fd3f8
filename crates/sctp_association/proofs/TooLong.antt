-- Messages that are too long are told.
use Rattle.std.proofs.Common.{◌≡◌, Bool, true, false, Option, Some, None, refl, ap, sym, subst, ◌∙◌}
use Rattle.std.specs.Option.{option_or}
use Rattle.std.proofs.Props.{props}
use Rattle.std.specs.Prelude.{⊤, ℕ, List, Result, Ok, Err, OnErr, IfSome, if◌then◌else◌, is_some, nat_lt, not, ◌&&◌}
use Rattle.sctp_association.specs.AcksDue.{entered_on}
use Rattle.sctp_association.specs.Reached.{IsLimited}
use Rattle.sctp_association.specs.Served.{is_to_open}
use Rattle.sctp_association.specs.declared.event.Events.{Events}
use Rattle.sctp_association.specs.ToldBy.{TellsLong}
use Rattle.sctp_association.specs.declared.association.Association.{Association}
use Rattle.sctp_association.specs.declared.inbound.Inbound.{Inbound}
use Rattle.sctp_datagram.specs.declared.datagram.ChunkPlace.{ChunkPlace}
use Rattle.sctp_data.specs.declared.chunk.chunk_payload_data.ChunkPayloadData.{ChunkPayloadData}
use Rattle.sctp_receiver.specs.Limits.{is_beyond_window, refusal_by}
use Rattle.sctp_receiver.specs.Receiver.{Reception, arrival_refusal, filter_of, is_open, new_refusal, open_stream, stream_of, stream_refusal}
use Rattle.sctp_receiver.specs.Ssns.{is_too_far_on}
use Rattle.sctp_receiver.specs.TsnFilter.{has_come, is_opposite}
use Rattle.sctp_receiver.specs.declared.receiver.inbound_streams.InboundStream.{InboundStream}
use Rattle.sctp_receiver.specs.declared.receiver.limits.Limits.{Limits}
use Rattle.sctp_receiver.specs.declared.receiver.refusal.ReceiverRefusal.{ReceiverRefusal}
use Rattle.sctp_receiver.specs.declared.receiver.refusal.ReceiverRefusal.TheVariants.{MessageTooLarge, SsnTooFar, StreamUnknown, TsnOpposite, TsnTooFar}
use Rattle.sctp_receiver.specs.declared.receiver.refusal.ReceiverRefusal.TheVariants.{WindowFull}
use Rattle.sctp_util.specs.Serial.{distance}

-- the receiver that DATA comes to, where its stream opens first, and where it does not
pub entered_opened : (c : ChunkPayloadData) (i : Inbound) (r : Reception) → is_to_open c.stream_identifier i ≡ true
    → r ≡ open_stream c.stream_identifier i.receiver → entered_on c i ≡ r
entered_opened c i r on opened =
    ap (λ (b : Bool). let q : Reception = if b then open_stream c.stream_identifier i.receiver else i.receiver in q) on ∙ sym opened

pub entered_unopened : (c : ChunkPayloadData) (i : Inbound) → is_to_open c.stream_identifier i ≡ false → entered_on c i ≡ i.receiver
entered_unopened c i off =
    ap (λ (b : Bool). let q : Reception = if b then open_stream c.stream_identifier i.receiver else i.receiver in q) off

pub same_refusal : (a b : ReceiverRefusal) → Some a ≡ Some b → a ≡ b
same_refusal a b e = cc

-- ## Where a message is too long

abbrev IsOther : Option ReceiverRefusal → Type 0
IsOther (Some MessageTooLarge) = ⊥
IsOther _ = ⊤

module _ (c : ChunkPayloadData) (r : Reception) where
  in-limits : (o : Option Limits) → IsOther (option_or (refusal_by o c.tsn (filter_of r) r.streams) (Some StreamUnknown))
  in-limits None = tt
  in-limits (Some l) = by (nat_lt l.reach (distance r.cumulative_tsn c.tsn)) (is_beyond_window l.window c.tsn (filter_of r) r.streams)
    where
      by : (x y : Bool) → IsOther (option_or (if x then Some TsnTooFar else (if y then Some WindowFull else None)) (Some StreamUnknown))
      by true y = tt
      by false true = tt
      by false false = tt

  -- why it is refused, by its stream
  abbrev refusal-on : Option InboundStream → Option ReceiverRefusal
  refusal-on o = if not (has_come c.tsn (filter_of r)) && is_too_far_on c o then Some SsnTooFar
      else (if has_come c.tsn (filter_of r) then None
      else (if is_opposite c.tsn (filter_of r) then Some TsnOpposite else option_or (new_refusal c.tsn r) (stream_refusal c o)))

  on-none : IsOther (refusal-on None)
  on-none = by (not (has_come c.tsn (filter_of r)) && is_too_far_on c None) (has_come c.tsn (filter_of r)) (is_opposite c.tsn (filter_of r))
    where
      by : (x y z : Bool) → IsOther (if x then Some SsnTooFar else (if y then None else (if z then Some TsnOpposite
          else option_or (new_refusal c.tsn r) (Some StreamUnknown))))
      by true y z = tt
      by false true z = tt
      by false false true = tt
      by false false false = in-limits r.limits

  -- its stream is open
  pub large_open : arrival_refusal c r ≡ Some MessageTooLarge → is_open c.stream_identifier r ≡ true
  large_open large = by (stream_of c.stream_identifier r) refl
    where
      by : (o : Option InboundStream) → stream_of c.stream_identifier r ≡ o → is_open c.stream_identifier r ≡ true
      by None e = absurd (subst IsOther (sym (ap refusal-on e) ∙ large) on-none)
      by (Some l) e = ap is_some e

-- there is a receiving half
pub tells_long : (c : ChunkPlace) (d : List ℕ) (o : Option Inbound) (i : Inbound) (b : Association) → o ≡ Some i → TellsLong c d i b
    → IfSome o (λ k. TellsLong c d k b)
tells_long c d o i b is h = subst (λ (x : Option Inbound). IfSome x (λ k. TellsLong c d k b)) (sym is) h

-- ## What is refused changes nothing

pub same_receiver : (i : Inbound) (q : Reception) (p : ∥ IsLimited i.streams q ∥₁) → q ≡ i.receiver → record i { receiver = q; limited = p } ≡ i
same_receiver i q p e =
    let P : Reception → Type 0 = λ x. (l : ∥ IsLimited i.streams x ∥₁) → record i { receiver = x; limited = l } ≡ i in
    subst P (sym e) (λ l. ap (λ k. record i { limited = k }) (one-limit i l i.limited)) p
  where
    one-limit : (i : Inbound) → IsProp ∥ IsLimited i.streams i.receiver ∥₁
    one-limit i = hlevel props

pub err_same : {X E : Type 0} (r : Result X E) (k i j : Inbound) (e f : Events) → OnErr r ((k ≡ j) × (f ≡ e)) → j ≡ i → OnErr r ((k ≡ i) × (f ≡ e))
err_same (Ok x) k i j e f h same = tt
err_same (Err x) k i j e f h same = (h.0 ∙ same, h.1)
