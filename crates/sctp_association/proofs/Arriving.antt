-- Calls go on where others end; each call of a half is one that a chunk asks for.
use Rattle.std.proofs.Common.{◌≡◌, ℕ, ◌^◌, ◌<◌, false, List, [], ◌∷◌, ◌++◌, None, Result, Ok, Err, refl, sym, subst}
use Rattle.std.specs.Global.{Global}
use Rattle.std.specs.Prelude.{◌⊎◌, IsOk, OnErr, OnOk, Vec}
use Rattle.sctp_association.proofs.Reaching.{not-named-too-far, not-too-far}
use Rattle.sctp_association.specs.Acks.{without_blocks}
use Rattle.sctp_association.specs.Arrivals.{HearsBy, AsksFor, AsksToHear, Follows, Hearing, IsCount, IsOpening, IsReset, IsRestart, Received, Receives, Steps}
use Rattle.sctp_association.specs.Arrivals.{Hears, acks, counts, passes, restarts, without_gaps}
use Rattle.sctp_chunks.specs.Wire.{data_chunk, forward_tsn_chunk, sack_chunk, shutdown_chunk}
use Rattle.sctp_data.specs.declared.chunk.chunk_payload_data.ChunkPayloadData.{ChunkPayloadData}
use Rattle.sctp_data.specs.ForwardTsn.{ForwardTsn}
use Rattle.sctp_data.specs.PayloadData.{data_of}
use Rattle.sctp_data.specs.SelectiveAck.{Sack}
use Rattle.sctp_delivery.proofs.WholeSacks as whole
use Rattle.sctp_receiver.specs.declared.receiver.arrival.Arrival.{Arrival}
use Rattle.sctp_receiver.specs.declared.receiver.arrival.Forwarded.{Forwarded}
use Rattle.sctp_receiver.specs.declared.receiver.refusal.ReceiverRefusal.{ReceiverRefusal}
use Rattle.sctp_receiver.specs.Calls.{Skips, TakesData}
use Rattle.sctp_receiver.specs.Receiver.{Reception, after_discard, close_stream, discard_refusal, is_open, open_stream}
use Rattle.sctp_receiver.specs.ReceiverRuns.{Call, closes, discards, forwards, opens, resets, takes}
use Rattle.sctp_receiver.specs.Resets.{reset_refusal, reset_stream}
use Rattle.sctp_receiver.specs.Skips.{past_closed_refusal}
use Rattle.sctp_sender.specs.Calls as calls
use Rattle.sctp_sender.specs.Resending.{count_before}
use Rattle.sctp_sender.specs.Sender.{Transmission}
use Rattle.sctp_sender.specs.Settings as settings
use Rattle.sctp_sender.specs.declared.sender.Acked.{Acked}
use Rattle.sctp_sender.specs.declared.sender.flight.Released.{Released}
use Rattle.sctp_sender.specs.declared.sender.refusal.SenderRefusal.{SenderRefusal}

-- ## Any calls

module _ {C T : Type 0} (Asked : C → Type 0) (Does : C → T → T → Type 0) where
  steps-then : (cs ds : List C) (x y z : T) → Steps Asked Does cs x y → Steps Asked Does ds y z → Steps Asked Does (cs ++ ds) x z
  steps-then [] ds x y z r s = subst (λ t. Steps Asked Does ds t z) r s
  steps-then (c ∷ cs) ds x y z r s = (r.0, (r.1.0, steps-then cs ds r.0 y z r.1.1 s))

  pub follows_same : (x y : T) → y ≡ x → Follows Asked Does x y
  follows_same x y e = record { calls = []; run = e }

  pub follows_one : (c : C) (x y : T) → Asked c → Does c x y → Follows Asked Does x y
  follows_one c x y a m = record { calls = c ∷ []; run = (y, (record { asked = a; does = m }, refl)) }

  pub follows_then : (x y z : T) → Follows Asked Does x y → Follows Asked Does y z → Follows Asked Does x z
  follows_then x y z f g = record { calls = f.calls ++ g.calls; run = steps-then f.calls g.calls x y z f.run g.run }

-- what asks for them asks for more
module _ {C T : Type 0} (P Q : C → Type 0) (Does : C → T → T → Type 0) (more : (c : C) → P c → Q c) where
  steps-of : (cs : List C) (x y : T) → Steps P Does cs x y → Steps Q Does cs x y
  steps-of [] x y r = r
  steps-of (c ∷ cs) x y r = (r.0, (record { asked = more c r.1.0.asked; does = r.1.0.does }, steps-of cs r.0 y r.1.1))

  pub follows_of : (x y : T) → Follows P Does x y → Follows Q Does x y
  follows_of x y f = record { calls = f.calls; run = steps-of f.calls x y f.run }

-- ## Of the receiver

pub received_same : (P : Call → Type 0) (r s : Reception) → s ≡ r → Received P r s
received_same P r s e = follows_same P Receives r s e

pub received_then : (P : Call → Type 0) (r s t : Reception) → Received P r s → Received P s t → Received P r t
received_then P r s t f g = follows_then P Receives r s t f g

pub received_opened : (stream : ℕ) (r s : Reception) → is_open stream r ≡ false → s ≡ open_stream stream r → Received (IsOpening stream) r s
received_opened stream r s shut e =
    follows_one (IsOpening stream) Receives (opens stream) r s refl (record { unrefused = tt; accepted = tt; makes = (shut, e) })

opening-asked : (c : ChunkPayloadData) (call : Call) → IsOpening c.stream_identifier call → AsksFor (data_chunk (data_of c)) call
opening-asked c (opens stream) e = e
opening-asked c _ e = absurd e

module _ (c : ChunkPayloadData) (r s : Reception) where
  pub opened_asked : Received (IsOpening c.stream_identifier) r s → Received (AsksFor (data_chunk (data_of c))) r s
  opened_asked f = follows_of (IsOpening c.stream_identifier) (AsksFor (data_chunk (data_of c))) Receives (opening-asked c) r s f

  pub received_data : (a : Result Arrival ReceiverRefusal) → c.tsn < 2 ^ 32 → TakesData c r s a → Received (AsksFor (data_chunk (data_of c))) r s
  received_data (Ok a) fits t =
      follows_one (AsksFor (data_chunk (data_of c))) Receives (takes c a) r s refl (record {
        unrefused = record { fits = fits; accepted = not-too-far c r (t.accepted refl); answer = t.answer };
        accepted = (t.accepted refl, t.answer);
        makes = t.ok;
      })
  received_data (Err e) fits t = received_same (AsksFor (data_chunk (data_of c))) r s t.err

  pub received_discarded : c.tsn < 2 ^ 32 → discard_refusal c.tsn r ≡ None → s ≡ after_discard c.tsn r
      → Received (AsksFor (data_chunk (data_of c))) r s
  received_discarded fits accepted e =
      follows_one (AsksFor (data_chunk (data_of c))) Receives (discards c.tsn) r s refl (record { unrefused = (fits, accepted); accepted = tt; makes = e })

  pub received_closed : s ≡ close_stream c.stream_identifier r → Received (AsksFor (data_chunk (data_of c))) r s
  received_closed e =
      follows_one (AsksFor (data_chunk (data_of c))) Receives (closes c.stream_identifier) r s refl (record { unrefused = tt; accepted = tt; makes = e })

pub received_skip : (f : ForwardTsn) (r s : Reception) (a : Result Forwarded ReceiverRefusal) → f.new_cumulative_tsn < 2 ^ 32
    → Skips past_closed_refusal f r s a → Received (AsksFor (forward_tsn_chunk f)) r s
received_skip f r s (Ok a) fits t =
    follows_one (AsksFor (forward_tsn_chunk f)) Receives (forwards f) r s refl (record {
      unrefused = (fits, not-named-too-far f r (t.accepted refl));
      accepted = t.accepted refl;
      makes = t.ok;
    })
received_skip f r s (Err e) fits t = received_same (AsksFor (forward_tsn_chunk f)) r s t.err

pub received_reset : (stream last : ℕ) (r s : Reception) → reset_refusal stream last r ≡ None → s ≡ reset_stream stream last r
    → Received (IsReset stream last) r s
received_reset stream last r s accepted e =
    follows_one (IsReset stream last) Receives (resets stream last) r s (refl, refl) (record { unrefused = accepted; accepted = tt; makes = e })

-- ## Of the sender

pub acknowledged_same : (P : Hearing → Type 0) (t u : Transmission) → u ≡ t → HearsBy P t u
acknowledged_same P t u e = follows_same P Hears t u e

pub acknowledged_then : (P : Hearing → Type 0) (t u v : Transmission) → HearsBy P t u → HearsBy P u v → HearsBy P t v
acknowledged_then P t u v f g = follows_then P Hears t u v f g

module _ (s k : Sack) (is : (k ≡ s) ⊎ (k ≡ without_gaps s)) (t u : Transmission) where
  pub acknowledged_sack : (r : Result Acked SenderRefusal) → calls.Acknowledges k t u r → HearsBy (AsksToHear (sack_chunk s)) t u
  acknowledged_sack (Ok a) h =
      follows_one (AsksToHear (sack_chunk s)) Hears (acks k a.taken_back.items a.released.items) t u is (whole.makes k t u (Ok a) h)
  acknowledged_sack (Err e) h = acknowledged_same (AsksToHear (sack_chunk s)) t u h.err

count-asked : (s : Sack) (h : Hearing) → IsCount h → AsksToHear (sack_chunk s) h
count-asked s (counts count) e = tt
count-asked s _ e = absurd e

pub counted_asked : (s : Sack) (t u : Transmission) → HearsBy IsCount t u → HearsBy (AsksToHear (sack_chunk s)) t u
counted_asked s t u f = follows_of IsCount (AsksToHear (sack_chunk s)) Hears (count-asked s) t u f

pub acknowledged_count : (before : ℕ) (t u : Transmission) (marked : ℕ) → calls.Misses before t u marked → HearsBy IsCount t u
acknowledged_count before t u marked h =
    follows_one IsCount Hears (counts (count_before before t.flight)) t u tt (h.missed, (tt, (tt, tt)))

pub acknowledged_restart : (stream : ℕ) (t u : Transmission) → settings.reset_refusal stream t ≡ None → u ≡ settings.reset_on stream t
    → HearsBy IsRestart t u
acknowledged_restart stream t u accepted e = follows_one IsRestart Hears (restarts stream) t u tt (accepted, e)

pub acknowledged_shutdown : (tsn : ℕ) (t u : Transmission) (r : Result (Vec Released Global) SenderRefusal) → calls.Acks (without_blocks tsn) t u r
    → HearsBy (AsksToHear (shutdown_chunk tsn)) t u
acknowledged_shutdown tsn t u (Ok v) h =
    follows_one (AsksToHear (shutdown_chunk tsn)) Hears (passes tsn v.items) t u refl (h.released, (h.ok, (h.accepted refl, h.answer)))
acknowledged_shutdown tsn t u (Err e) h = acknowledged_same (AsksToHear (shutdown_chunk tsn)) t u h.err

pub acknowledged_as : (tsn : ℕ) (k : Sack) (t u v : Transmission) (r : Result (Vec Released Global) SenderRefusal) → k ≡ without_blocks tsn
    → calls.Acks k t u r → v ≡ u → HearsBy (AsksToHear (shutdown_chunk tsn)) t v
acknowledged_as tsn k t u v r is h same =
    subst (λ w. HearsBy (AsksToHear (shutdown_chunk tsn)) t w) (sym same)
    (acknowledged_shutdown tsn t u r (subst (λ s. calls.Acks s t u r) is h))

pub received_gone : (c : ChunkPayloadData) (r m s : Reception) → c.tsn < 2 ^ 32 → discard_refusal c.tsn r ≡ None → m ≡ after_discard c.tsn r
    → s ≡ close_stream c.stream_identifier m → Received (AsksFor (data_chunk (data_of c))) r s
received_gone c r m s fits accepted e f =
    received_then (AsksFor (data_chunk (data_of c))) r m s (received_discarded c r m fits accepted e) (received_closed c m s f)

pub received_reset_by : {X : Type 0} (stream last : ℕ) (r s : Reception) (a : Result X ReceiverRefusal) → OnOk a (s ≡ reset_stream stream last r)
    → (IsOk a → reset_refusal stream last r ≡ None) → OnErr a (s ≡ r) → Received (IsReset stream last) r s
received_reset_by stream last r s (Ok x) ok accepted err = received_reset stream last r s (accepted refl) ok
received_reset_by stream last r s (Err e) ok accepted err = received_same (IsReset stream last) r s err

pub acknowledged_restart_by : {X : Type 0} (stream : ℕ) (t u : Transmission) (a : Result X SenderRefusal) → OnOk a (u ≡ settings.reset_on stream t)
    → (IsOk a → settings.reset_refusal stream t ≡ None) → OnErr a (u ≡ t) → HearsBy IsRestart t u
acknowledged_restart_by stream t u (Ok x) ok accepted err = acknowledged_restart stream t u (accepted refl) ok
acknowledged_restart_by stream t u (Err e) ok accepted err = acknowledged_same IsRestart t u err
