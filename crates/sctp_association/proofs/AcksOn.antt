-- When a SACK comes to be due.
use Rattle.std.proofs.Common.{◌≡◌, ◌⊎◌, ℕ, Bool, true, false, List, Option, Some, None, refl, ap, sym, subst, arith, ◌∙◌, inl, inr}
use Rattle.std.specs.Option.{option_map}
use Rattle.std.specs.Prelude.{Result, Ok, Err, IfOk, if◌then◌else◌}
use Rattle.sctp_association.specs.AcksDue.{Acks, AcksData, AcksTold, acks_by, acks_in, acks_of, no_acks, with_due}
use Rattle.sctp_association.specs.AcksOn.{AcksDataAt, AcksDataIn, AcksOn}
use Rattle.sctp_association.specs.Rows.{row_of}
use Rattle.sctp_association.specs.Served.{is_to_open}
use Rattle.sctp_association.specs.declared.association.Association.{Association}
use Rattle.sctp_association.specs.declared.association.arrivals.Step as arrivals
use Rattle.sctp_association.specs.declared.association.arrivals.Step.TheVariants.{Next, Stop, Cut, Refused}
use Rattle.sctp_association.specs.declared.fault.Fault.{Fault}
use Rattle.sctp_association.specs.declared.inbound.Inbound.{Inbound}
use Rattle.sctp_data.specs.declared.chunk.chunk_payload_data.ChunkPayloadData.{ChunkPayloadData}
use Rattle.sctp_datagram.specs.declared.datagram.ChunkPlace.{ChunkPlace}
use Rattle.sctp_handshake.specs.Machines.{Step}
use Rattle.sctp_handshake.specs.declared.answer.Answer.{Answer}
use Rattle.sctp_handshake.specs.declared.answer.Told.{Told}
use Rattle.sctp_receiver.specs.Receiver.{Reception, arrival_refusal, open_stream}
use Rattle.sctp_receiver.specs.declared.receiver.refusal.ReceiverRefusal.{ReceiverRefusal}

-- ## What the machine tells

module _ (delay : ℕ) (x y : Option Acks) where
  pub told_none : (t : Option Told) → t ≡ None → y ≡ x → AcksTold t delay x y
  told_none t is same = subst (λ o. AcksTold o delay x y) (sym is) same

  pub told_by : (t o : Told) → t ≡ o → AcksTold (Some o) delay x y → AcksTold (Some t) delay x y
  told_by t o is h = subst (λ k. AcksTold (Some k) delay x y) (sym is) h

  pub told_as : (a b : Answer) → a ≡ b → AcksTold a.told delay x y → AcksTold b.told delay x y
  told_as a b is h = subst (λ (k : Answer). AcksTold k.told delay x y) is h

-- the receiving half begins, or is as it was
pub told_begun : (delay : ℕ) (a b : Option Inbound) → (acks_of b ≡ Some (no_acks delay)) ⊎ (b ≡ a)
    → (acks_of b ≡ Some (no_acks delay)) ⊎ (acks_of b ≡ acks_of a)
told_begun delay a b (inl new) = inl new
told_begun delay a b (inr same) = inr (ap (λ (o : Option Inbound). acks_of o) same)

-- ## By the type of the chunk

module _ (c : ChunkPlace) (d : List ℕ) (now : ℕ) (a b : Association) where
  -- of a chunk that is neither DATA nor FORWARD-TSN
  pub acks_row : (t : Step) → row_of c d now a ≡ t → (s : arrivals.Step)
      → (s ≡ Next → AcksTold t.answer.told a.config.sack_delay (acks_of a.inbound) (acks_of b.inbound))
      → (c.typ ≡ 0 → ⊥) → (c.typ ≡ 192 → ⊥) → AcksOn c d now s a b
  acks_row t row Next h no-data no-skip = record {
    noted = λ is. absurd (no-data is);
    skipped = λ is. absurd (no-skip is);
    other = λ _ _. subst (λ (k : Step). AcksTold k.answer.told a.config.sack_delay (acks_of a.inbound) (acks_of b.inbound)) (sym row) (h refl);
  }
  acks_row t row Stop h no-data no-skip = tt
  acks_row t row Cut h no-data no-skip = tt
  acks_row t row (Refused r) h no-data no-skip = tt

  pub acks_rows : (t : Step) → row_of c d now a ≡ t → (r : Result arrivals.Step Fault)
      → (r ≡ Ok Next → AcksTold t.answer.told a.config.sack_delay (acks_of a.inbound) (acks_of b.inbound))
      → (c.typ ≡ 0 → ⊥) → (c.typ ≡ 192 → ⊥) → IfOk r (λ s. AcksOn c d now s a b)
  acks_rows t row (Ok s) h no-data no-skip = acks_row t row s (λ next. h (ap (λ (k : arrivals.Step). Ok k) next)) no-data no-skip
  acks_rows t row (Err e) h no-data no-skip = tt

  -- of DATA
  pub acks_data : c.typ ≡ 0 → (s : arrivals.Step) → (s ≡ Next → AcksDataIn c.at d now a.inbound b.inbound) → AcksOn c d now s a b
  acks_data typ Next h = record {
    noted = λ _. h refl;
    skipped = λ is. absurd (omega (arith, is, typ));
    other = λ off _. absurd (off typ);
  }
  acks_data typ Stop h = tt
  acks_data typ Cut h = tt
  acks_data typ (Refused r) h = tt

  -- of a FORWARD-TSN
  pub acks_skip : c.typ ≡ 192 → (s : arrivals.Step) → (s ≡ Next → acks_of b.inbound ≡ option_map (with_due now) (acks_of a.inbound))
      → AcksOn c d now s a b
  acks_skip typ Next h = record {
    noted = λ is. absurd (omega (arith, is, typ));
    skipped = λ _. h refl;
    other = λ _ off. absurd (off typ);
  }
  acks_skip typ Stop h = tt
  acks_skip typ Cut h = tt
  acks_skip typ (Refused r) h = tt

-- there is a receiving half
pub acks_data_in : (at : ℕ) (d : List ℕ) (now : ℕ) (i j : Inbound) (x y : Option Inbound) → x ≡ Some i → y ≡ Some j → AcksDataAt at d now i j
    → AcksDataIn at d now x y
acks_data_in at d now i j x y old new h =
    subst (λ o. AcksDataIn at d now o y) (sym old) (subst (λ o. AcksDataIn at d now (Some i) o) (sym new) h)

-- ## DATA

-- no stream is opened for it
pub acks_unopened : (c : ChunkPayloadData) (now : ℕ) (i j : Inbound) → is_to_open c.stream_identifier i ≡ false
    → acks_in j ≡ acks_by (arrival_refusal c i.receiver) c now i.receiver j.receiver (acks_in i) → AcksData c now i j
acks_unopened c now i j off h = subst (λ (b : Bool). acks_in j ≡ acks_by (arrival_refusal c
    (if b then open_stream c.stream_identifier i.receiver else i.receiver)) c now i.receiver j.receiver (acks_in i)) (sym off) h

-- where its stream opens first, the same is due
opened-same : (r : Option ReceiverRefusal) (c : ChunkPayloadData) (now s : ℕ) (x y : Reception) (a : Acks)
    → acks_by r c now (open_stream s x) y a ≡ acks_by r c now x y a
opened-same None c now s x y a = refl
opened-same (Some refusal) c now s x y a = refl

pub acks_opened : (c : ChunkPayloadData) (now : ℕ) (i k j : Inbound) → is_to_open c.stream_identifier i ≡ true
    → k.receiver ≡ open_stream c.stream_identifier i.receiver → acks_in k ≡ acks_in i
    → acks_in j ≡ acks_by (arrival_refusal c k.receiver) c now k.receiver j.receiver (acks_in k) → AcksData c now i j
acks_opened c now i k j on opened same h =
    let first : acks_in j ≡ acks_by (arrival_refusal c (open_stream c.stream_identifier i.receiver)) c now
    (open_stream c.stream_identifier i.receiver) j.receiver (acks_in k) =
    subst (λ (r : Reception). acks_in j ≡ acks_by (arrival_refusal c r) c now r j.receiver (acks_in k)) opened h in
    let next : acks_in j ≡ acks_by (arrival_refusal c (open_stream c.stream_identifier i.receiver)) c now i.receiver j.receiver (acks_in i) =
    subst (λ (a : Acks). acks_in j ≡ acks_by (arrival_refusal c (open_stream c.stream_identifier i.receiver)) c now
    (open_stream c.stream_identifier i.receiver) j.receiver a) same first
    ∙ opened-same (arrival_refusal c (open_stream c.stream_identifier i.receiver)) c now c.stream_identifier i.receiver j.receiver (acks_in i) in
    subst (λ (b : Bool). acks_in j ≡ acks_by (arrival_refusal c
    (if b then open_stream c.stream_identifier i.receiver else i.receiver)) c now i.receiver j.receiver (acks_in i)) (sym on) next
