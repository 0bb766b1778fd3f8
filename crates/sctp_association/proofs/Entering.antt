-- User data that comes enters the receiver, on a stream that the peer may use.
use Rattle.std.proofs.Common.{◌≡◌, ◌⊎◌, ℕ, ◌^◌, ◌<◌, ◌≤◌, Bool, true, false, List, drop, length, Option, Some, None, Result, Ok, refl, ap, sym, subst, ◌∙◌, inl}
use Rattle.std.proofs.Common.{inr}
use Rattle.std.proofs.lemmas.Bool.{and_parts, cases_Bool, cases_lt, eqb-true, false≢true, ltb-true}
use Rattle.std.specs.Prelude.{⊤, ◌==◌, ◌&&◌, not, nat_lt, if◌then◌else◌, is_some}
use Rattle.std.specs.Option.{option_or}
use Rattle.sctp_association.proofs.Reaching.{not-too-far}
use Rattle.sctp_association.proofs.Arrived.{received_in, receiver_in, sender_led}
use Rattle.sctp_association.specs.Arrivals.{Arrival, Asks, AsksFor, AsksToHear, Does, Follows, Halves, HearsBy, Received, halves, hears, receives}
use Rattle.sctp_association.specs.Coming.{IsAskedAt, MayUse}
use Rattle.sctp_association.specs.Entering.{Enters, Handles, HandlesOpen, KeepsUsable, IsHandled, IsHandledOn, IsLeft, IsTooLong, IsTooLongOn}
use Rattle.sctp_association.specs.Entering.{usable_in, with_open}
use Rattle.sctp_association.specs.Halves.{receiver_of}
use Rattle.sctp_association.specs.Served.{is_to_open, is_usable}
use Rattle.sctp_association.specs.StreamSet.{is_in}
use Rattle.sctp_association.specs.declared.association.Association.{Association}
use Rattle.sctp_association.specs.declared.inbound.Inbound.{Inbound}
use Rattle.sctp_chunks.specs.Wire.{Wire, data_chunk, sack_chunk}
use Rattle.sctp_data.specs.PayloadData.{data_of}
use Rattle.sctp_data.specs.SelectiveAck.{Sack}
use Rattle.sctp_datagram.specs.Framing.{StartsWith}
use Rattle.sctp_data.specs.declared.chunk.chunk_payload_data.ChunkPayloadData.{ChunkPayloadData}
use Rattle.sctp_reassembly.specs.reassembly_queue.ReassemblyQueue.{is_too_large}
use Rattle.sctp_receiver.specs.Advice.{advice_for, drop_or_abort, is_next_to_come}
use Rattle.sctp_receiver.specs.Calls.{TakesData}
use Rattle.sctp_receiver.specs.declared.advice.AbortCause.{AbortCause}
use Rattle.sctp_receiver.specs.declared.advice.AbortCause.TheVariants.{OutOfResource, ProtocolViolation}
use Rattle.sctp_receiver.specs.declared.advice.Advice.{Advice}
use Rattle.sctp_receiver.specs.declared.advice.Advice.TheVariants as advice
use Rattle.sctp_receiver.specs.declared.receiver.arrival.Arrival.{Arrival as Answer}
use Rattle.sctp_receiver.specs.declared.receiver.inbound_streams.InboundStream.{InboundStream}
use Rattle.sctp_receiver.specs.declared.receiver.limits.Limits.{Limits}
use Rattle.sctp_receiver.specs.declared.receiver.refusal.ReceiverRefusal.{ReceiverRefusal}
use Rattle.sctp_receiver.specs.declared.receiver.refusal.ReceiverRefusal.TheVariants.{MessageTooLarge, SsnTooFar, StreamUnknown, TsnOpposite, TsnTooFar}
use Rattle.sctp_receiver.specs.declared.receiver.refusal.ReceiverRefusal.TheVariants.{WindowFull}
use Rattle.sctp_receiver.specs.Limits.{is_beyond_window, refusal_by}
use Rattle.sctp_receiver.specs.Receiver.{Reception, arrival_refusal, data_refusal, filter_of, is_open, new_refusal, open_stream}
use Rattle.sctp_receiver.specs.Receiver.{stream_of, stream_refusal}
use Rattle.sctp_receiver.specs.Ssns.{is_too_far_on}
use Rattle.sctp_receiver.specs.TsnFilter.{has_come, is_opposite}
use Rattle.sctp_sender.specs.Sender.{Transmission}
use Rattle.sctp_util.specs.Serial.{distance}

-- ## Why a chunk is refused

-- not since its stream is unknown
abbrev Known : Option ReceiverRefusal → Type 0
Known (Some StreamUnknown) = ⊥
Known _ = ⊤

module _ (c : ChunkPayloadData) (r : Reception) where
  on-stream : (o : Option InboundStream) → is_some o ≡ true → Known (stream_refusal c o)
  on-stream None there = false≢true there
  on-stream (Some l) there = by (is_too_large c l.queue)
    where
      by : (b : Bool) → Known (if b then Some MessageTooLarge else None)
      by true = tt
      by false = tt

  in-limits : (o : Option Limits) (rest : Option ReceiverRefusal) → Known rest → Known (option_or (refusal_by o c.tsn (filter_of r) r.streams) rest)
  in-limits None rest known = known
  in-limits (Some l) rest known =
      by (nat_lt l.reach (distance r.cumulative_tsn c.tsn)) (is_beyond_window l.window c.tsn (filter_of r) r.streams)
    where
      by : (x y : Bool) → Known (option_or (if x then Some TsnTooFar else (if y then Some WindowFull else None)) rest)
      by true y = tt
      by false true = tt
      by false false = known

  data-known : is_open c.stream_identifier r ≡ true → Known (data_refusal c r)
  data-known live = by (has_come c.tsn (filter_of r)) (is_opposite c.tsn (filter_of r))
    where
      by : (x y : Bool)
          → Known (if x then None
          else (if y then Some TsnOpposite else option_or (new_refusal c.tsn r) (stream_refusal c (stream_of c.stream_identifier r))))
      by true y = tt
      by false true = tt
      by false false = in-limits r.limits _ (on-stream (stream_of c.stream_identifier r) live)

  known : is_open c.stream_identifier r ≡ true → Known (arrival_refusal c r)
  known live = by (not (has_come c.tsn (filter_of r)) && is_too_far_on c (stream_of c.stream_identifier r))
    where
      by : (b : Bool) → Known (if b then Some SsnTooFar else data_refusal c r)
      by true = tt
      by false = data-known live

  -- where the stream is open
  pub never_unknown : is_open c.stream_identifier r ≡ true → (e : ReceiverRefusal) → arrival_refusal c r ≡ Some e → e ≡ StreamUnknown → ⊥
  never_unknown live e why is = subst Known (why ∙ ap (λ (x : ReceiverRefusal). Some x) is) (known live)

  -- ## What is advised

  not-drop : (cause : AbortCause) (a : Advice) (X : Type 0) → (advice.Drop ≡ a → X) → (advice.Abort cause ≡ a → X) → drop_or_abort cause c r ≡ a → X
  not-drop cause a X drop abort = by (is_next_to_come c r)
    where
      by : (b : Bool) → (if b then advice.Abort cause else advice.Drop) ≡ a → X
      by true e = abort e
      by false e = drop e

  pub only_unknown : (e : ReceiverRefusal) → advice_for e c r ≡ advice.OpenOrDiscard → e ≡ StreamUnknown
  only_unknown StreamUnknown is = refl
  only_unknown MessageTooLarge is = cc
  only_unknown WindowFull is = not-drop OutOfResource advice.OpenOrDiscard (WindowFull ≡ StreamUnknown) (λ x. cc) (λ x. cc) is
  only_unknown TsnTooFar is = not-drop OutOfResource advice.OpenOrDiscard (TsnTooFar ≡ StreamUnknown) (λ x. cc) (λ x. cc) is
  only_unknown SsnTooFar is = not-drop ProtocolViolation advice.OpenOrDiscard (SsnTooFar ≡ StreamUnknown) (λ x. cc) (λ x. cc) is
  only_unknown _ is = cc

  pub only_too_large : (e : ReceiverRefusal) → advice_for e c r ≡ advice.CloseAndDiscard → e ≡ MessageTooLarge
  only_too_large StreamUnknown is = cc
  only_too_large MessageTooLarge is = refl
  only_too_large WindowFull is = not-drop OutOfResource advice.CloseAndDiscard (WindowFull ≡ MessageTooLarge) (λ x. cc) (λ x. cc) is
  only_too_large TsnTooFar is = not-drop OutOfResource advice.CloseAndDiscard (TsnTooFar ≡ MessageTooLarge) (λ x. cc) (λ x. cc) is
  only_too_large SsnTooFar is = not-drop ProtocolViolation advice.CloseAndDiscard (SsnTooFar ≡ MessageTooLarge) (λ x. cc) (λ x. cc) is
  only_too_large _ is = cc

-- ## Streams that the peer may use

-- a stream is put into the set of those on which a message was too long
pub usable_but : (stream s : ℕ) (i : Inbound) (flags : List Bool) (long : Type 0)
    → (stream < length i.discarded → (n : ℕ) → is_in n flags ≡ (if n == stream then true else is_in n i.discarded))
    → (length i.discarded ≤ stream → flags ≡ i.discarded) → long → is_usable s i ≡ true
    → ((nat_lt s i.streams && not (is_in s flags)) ≡ true) ⊎ ((stream ≡ s) × long)
usable_but stream s i flags long value full is usable = elim (cases_Bool (s == stream)) [
  | inl same ↦ inr (sym (eqb-true s stream same), is)
  | inr other ↦
      let still : is_in s flags ≡ is_in s i.discarded = elim (cases_lt stream (length i.discarded)) [
        | inl lt ↦ value lt s ∙ ap (λ b. if b then true else is_in s i.discarded) other
        | inr ge ↦ ap (is_in s) (full ge)
      ] in
      inl (ap (λ b. nat_lt s i.streams && not b) still ∙ usable)
]

pub usable_same : (s : ℕ) (i j : Inbound) → j.streams ≡ i.streams → is_in s j.discarded ≡ is_in s i.discarded → is_usable s j ≡ is_usable s i
usable_same s i j few still =
    ap (λ n. nat_lt s n && not (is_in s j.discarded)) few ∙ ap (λ b. nat_lt s i.streams && not b) still

-- it was agreed on, and no message on it was too long
pub usable_parts : (s : ℕ) (i : Inbound) → is_usable s i ≡ true → (s < i.streams) × (is_in s i.discarded ≡ false)
usable_parts s i usable =
    let parts = and_parts (nat_lt s i.streams) (not (is_in s i.discarded)) usable in
    (ltb-true s i.streams parts.0, by (is_in s i.discarded) parts.1)
  where
    by : (b : Bool) → not b ≡ true → b ≡ false
    by true e = absurd (false≢true e)
    by false e = refl

pub to_use : (s : ℕ) (i : Inbound) → is_to_open s i ≡ true → is_usable s i ≡ true
to_use s i to = (and_parts (not (is_open s i.receiver)) (is_usable s i) to).1

-- ## What becomes of a chunk

-- the receiver took it
pub entered : (c : ChunkPayloadData) (r s : Reception) (a : Result Answer ReceiverRefusal) (x : Answer) → c.tsn < 2 ^ 32 → a ≡ Ok x
    → TakesData c r s a → Enters c r s
entered c r s a x fits is t = from (subst (TakesData c r s) is t)
  where
    from : TakesData c r s (Ok x) → Enters c r s
    from t = record {
      arrival = x;
      receives = record {
        unrefused = record { fits = fits; accepted = not-too-far c r (t.accepted refl); answer = t.answer };
        accepted = (t.accepted refl, t.answer);
        makes = t.ok;
      };
    }

-- so it did, and nothing changed but what is noted
pub handled_entered : (c : ChunkPayloadData) (i j : Inbound) (s : Reception) (a : Result Answer ReceiverRefusal) (x : Answer) → c.tsn < 2 ^ 32 → a ≡ Ok x
    → TakesData c i.receiver s a → j.receiver ≡ s → j.streams ≡ i.streams → j.discarded ≡ i.discarded → HandlesOpen c i j
handled_entered c i j s a x fits is t same few shut = record {
  handled = λ live. inl (subst (Enters c i.receiver) (sym same) (entered c i.receiver s a x fits is t));
  kept = λ n usable. inl (usable_same n i j few (ap (is_in n) shut) ∙ usable);
}

-- the receiver refused it
pub handled_refused : (e : ReceiverRefusal) (c : ChunkPayloadData) (i k : Inbound) (r : Reception) → arrival_refusal c i.receiver ≡ Some e
    → r ≡ i.receiver → ((e ≡ StreamUnknown → ⊥) → IsTooLong c r k.receiver ⊎ IsLeft c r k.receiver)
    → KeepsUsable c (IsTooLong c r k.receiver) i k → HandlesOpen c i k
handled_refused e c i k r why same handled kept = record {
  handled = λ live. inr (
      subst (λ (q : Reception). IsTooLong c q k.receiver ⊎ IsLeft c q k.receiver) same (handled (never_unknown c i.receiver live e why))
      );
  kept = λ s usable. elim (kept s usable) [
    | inl still ↦ inl still
    | inr long ↦ inr (long.0, subst (λ (q : Reception). IsTooLong c q k.receiver) same long.1)
  ];
}

-- ## A stream is open, or opens

opens-not : (s : ℕ) (r : Reception) → is_open s r ≡ true → with_open s r ≡ r
opens-not s r live = ap (λ b. if b then r else open_stream s r) live

-- it was open, or may not be used
pub handles_open : (c : ChunkPayloadData) (i j : Inbound) → is_to_open c.stream_identifier i ≡ false → HandlesOpen c i j → Handles c i j
handles_open c i j shut h = record {
  handled = λ usable.
      let live = is-live usable in
      subst (λ (r : Reception). IsHandled c r j.receiver) (sym (opens-not c.stream_identifier i.receiver live)) (h.handled live);
  kept = λ s usable. elim (h.kept s usable) [
    | inl still ↦ inl still
    | inr long ↦
        let live = is-live (subst (λ (n : ℕ). is_usable n i ≡ true) (sym long.0) usable) in
        inr (long.0, subst (λ (r : Reception). IsTooLong c r j.receiver) (sym (opens-not c.stream_identifier i.receiver live)) long.1)
  ];
}
  where
    is-live : is_usable c.stream_identifier i ≡ true → is_open c.stream_identifier i.receiver ≡ true
    is-live usable = by (is_open c.stream_identifier i.receiver) (ap (λ b. not (is_open c.stream_identifier i.receiver) && b) (sym usable) ∙ shut)
      where
        by : (b : Bool) → (not b && true) ≡ false → b ≡ true
        by true e = refl
        by false e = absurd (false≢true (sym e))

-- it opened
pub handles_opened : (c : ChunkPayloadData) (i m j : Inbound) → is_to_open c.stream_identifier i ≡ true
    → (is_usable c.stream_identifier i ≡ true → m.receiver ≡ open_stream c.stream_identifier i.receiver) → is_open c.stream_identifier m.receiver ≡ true
    → m.streams ≡ i.streams → ((n : ℕ) → is_in n m.discarded ≡ is_in n i.discarded) → HandlesOpen c m j → Handles c i j
handles_opened c i m j to opened live few same h = record {
  handled = λ usable. subst (λ (r : Reception). IsHandled c r j.receiver) (sym at) (h.handled live);
  kept = λ s usable. elim (h.kept s (usable_same s i m few (same s) ∙ usable)) [
    | inl still ↦ inl still
    | inr long ↦ inr (long.0, subst (λ (r : Reception). IsTooLong c r j.receiver) (sym at) long.1)
  ];
}
  where
    parts : (not (is_open c.stream_identifier i.receiver) ≡ true) × (is_usable c.stream_identifier i ≡ true)
    parts = and_parts (not (is_open c.stream_identifier i.receiver)) (is_usable c.stream_identifier i) to

    at : with_open c.stream_identifier i.receiver ≡ m.receiver
    at = by (is_open c.stream_identifier i.receiver) parts.0 ∙ sym (opened parts.1)
      where
        by : (b : Bool) → not b ≡ true → (if b then i.receiver else open_stream c.stream_identifier i.receiver) ≡ open_stream c.stream_identifier i.receiver
        by true e = absurd (false≢true e)
        by false e = refl

-- ## Of an association

entered-by : (c : ChunkPayloadData) (i j : Inbound) → Handles c i j → (o : Option Inbound) → o ≡ Some i → usable_in c.stream_identifier o ≡ true
    → IsHandledOn c (receiver_of o) (Some j.receiver)
entered-by c i j h o is usable =
    subst (λ (x : Option Inbound). IsHandledOn c (receiver_of x) (Some j.receiver)) (sym is)
    (h.handled (ap (λ (x : Option Inbound). usable_in c.stream_identifier x) (sym is) ∙ usable))

pub entered_in : (c : ChunkPayloadData) (o : Option Inbound) (r : Option Reception) (i j : Inbound) → o ≡ Some i → r ≡ Some j.receiver → Handles c i j
    → usable_in c.stream_identifier o ≡ true → IsHandledOn c (receiver_of o) r
entered_in c o r i j is there h usable = subst (IsHandledOn c (receiver_of o)) (sym there) (entered-by c i j h o is usable)

module _ (at : ℕ) (d : List ℕ) (a b : Association) where
  pub may_use_by : b.inbound ≡ a.inbound → MayUse at d a b
  may_use_by same = λ s usable. inl (ap (λ (x : Option Inbound). usable_in s x) same ∙ usable)

  module _ (i j : Inbound) (was : a.inbound ≡ Some i) (is : b.inbound ≡ Some j) where
    usable-was : (s : ℕ) → usable_in s a.inbound ≡ true → is_usable s i ≡ true
    usable-was s usable = ap (λ (x : Option Inbound). usable_in s x) (sym was) ∙ usable

    usable-is : (s : ℕ) → is_usable s j ≡ true → usable_in s b.inbound ≡ true
    usable-is s usable = ap (λ (x : Option Inbound). usable_in s x) is ∙ usable

    -- behind FORWARD-TSN
    pub may_use_skip : j.streams ≡ i.streams → ((n : ℕ) → is_in n j.discarded ≡ is_in n i.discarded) → MayUse at d a b
    may_use_skip few same = λ s usable. inl (usable-is s (usable_same s i j few (same s) ∙ usable-was s usable))

    -- behind DATA
    pub may_use_data : (c : ChunkPayloadData) → StartsWith (drop at d) (data_chunk (data_of c)) → Handles c i j → MayUse at d a b
    may_use_data c reads h = λ s usable. elim (h.kept s (usable-was s usable)) [
      | inl still ↦ inl (usable-is s still)
      | inr long ↦ inr (record { chunk = c; reads = reads; on = long.0; long = between long.1 })
    ]
      where
        between : IsTooLongOn c (Some i.receiver) (Some j.receiver) → IsTooLongOn c (receiver_of a.inbound) (receiver_of b.inbound)
        between long =
            subst (λ (x : Option Inbound). IsTooLongOn c (receiver_of a.inbound) (receiver_of x)) (sym is)
            (subst (λ (x : Option Inbound). IsTooLongOn c (receiver_of x) (Some j.receiver)) (sym was) long)

-- ## Calls for one chunk

module _ (at : ℕ) (d : List ℕ) (w : Wire) (reads : StartsWith (drop at d) w) where
  asked : (a : Arrival) → Asks w a → IsAskedAt at d a
  asked a h = record { chunk = w; reads = reads; asks = h }

  -- of the receiver
  pub calls_of_receiver : (t : Transmission) (o k : Option Inbound) (i j : Inbound) → o ≡ Some i → k ≡ Some j → Received (AsksFor w) i.receiver j.receiver
      → Follows (IsAskedAt at d) Does (halves t (receiver_of o)) (halves t (receiver_of k))
  calls_of_receiver t o k i j e f h =
      receiver_in (AsksFor w) (IsAskedAt at d) (λ c a. asked (receives c) a) t (receiver_of o) (receiver_of k) (received_in (AsksFor w) o k i j e f h)

  -- of the sender
  calls_of_sender : (r : Option Reception) (t u : Transmission) → HearsBy (AsksToHear w) t u → Follows (IsAskedAt at d) Does (halves t r) (halves u r)
  calls_of_sender r t u h = sender_led (AsksToHear w) (IsAskedAt at d) (λ c a. asked (hears c) a) r t u h

-- of a SACK that is read where it lies
pub calls_of_sack : (at : ℕ) (d bytes : List ℕ) (s : Sack) → bytes ≡ drop at d → StartsWith bytes (sack_chunk s) → (r : Option Reception)
    (t u : Transmission) → HearsBy (AsksToHear (sack_chunk s)) t u → Follows (IsAskedAt at d) Does (halves t r) (halves u r)
calls_of_sack at d bytes s e reads r t u h =
    calls_of_sender at d (sack_chunk s) (subst (λ (l : List ℕ). StartsWith l (sack_chunk s)) e reads) r t u h

pub calls_then : (at : ℕ) (d : List ℕ) (x y z : Halves) → Follows (IsAskedAt at d) Does x y → z ≡ y → Follows (IsAskedAt at d) Does x z
calls_then at d x y z f e = subst (λ (h : Halves). Follows (IsAskedAt at d) Does x h) (sym e) f
