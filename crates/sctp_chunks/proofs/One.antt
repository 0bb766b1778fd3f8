-- Bytes begin with one chunk at most.
use Rattle.std.proofs.Common.{◌≡◌, ℕ, ◌<◌, ◌≤◌, Bool, true, false, List, length, drop, refl, ap, sym, ◌∙◌, arith}
use Rattle.sctp_util.proofs.Walks.{walks_one}
use Rattle.sctp_chunks.specs.declared.chunk.error_cause.ErrorCause.{ErrorCause}
use Rattle.std.specs.Prelude.{Option, Some, None}
use Rattle.sctp_params.specs.Param.{Parameter, heartbeat_info}
use Rattle.sctp_params.specs.ParamKind.{ReadsParam}
use Rattle.sctp_params.specs.ParamFraming.{after_param}
use Rattle.sctp_params.proofs.ParamOne.{reads_one_param, no_param}
use Rattle.sctp_chunks.specs.Framing.{value_at}
use Rattle.sctp_chunks.specs.Params.{ReadsParams}
use Rattle.sctp_chunks.specs.Init.{Init, ReadsInit, init_in, ack_type}
use Rattle.sctp_chunks.specs.Heartbeat.{ReadsHeartbeat}
use Rattle.sctp_chunks.specs.Reconfig.{Reconfig, ReadsPair}
use Rattle.sctp_data.specs.PayloadData.{Data}
use Rattle.sctp_data.specs.SelectiveAck.{Sack}
use Rattle.sctp_chunks.specs.ErrorCause.{ReadsCause, ReadsCauses, after_cause}
use Rattle.sctp_data.specs.ForwardTsn.{ForwardTsn}
use Rattle.sctp_chunks.specs.IForwardTsn.{IForwardTsn}
use Rattle.sctp_chunks.specs.Wire.{Wire, data_chunk, init_chunk, sack_chunk, heartbeat_chunk, heartbeat_ack_chunk, reconfig_chunk, IsInit, abort_chunk}
use Rattle.sctp_chunks.specs.Wire.{shutdown_chunk, shutdown_ack_chunk, error_chunk, cookie_echo_chunk, cookie_ack_chunk, shutdown_complete_chunk}
use Rattle.sctp_chunks.specs.Wire.{forward_tsn_chunk, i_forward_tsn_chunk, ReadsChunk}

-- no cause stands where fewer than four bytes are left
pub no_cause : (bytes : List ℕ) → length bytes < 4 → (c : ErrorCause) → ReadsCause bytes c → ⊥
no_cause bytes short c r = omega (arith, r.is_cause.headed)

pub cause_one : (bytes : List ℕ) (c d : ErrorCause) → ReadsCause bytes c → ReadsCause bytes d → c ≡ d
cause_one bytes c d r s = r.fields ∙ sym s.fields

pub causes_one : (bytes : List ℕ) (cs ds : List ErrorCause) → ReadsCauses bytes cs → ReadsCauses bytes ds → cs ≡ ds
causes_one bytes cs ds r s =
    walks_one ReadsCause after_cause cause_one bytes cs ds r.rest s.rest (no_cause r.rest r.ended) (no_cause s.rest s.ended) r.walk s.walk

pub params_one : (bytes : List ℕ) (ps qs : List Parameter) → ReadsParams bytes ps → ReadsParams bytes qs → ps ≡ qs
params_one bytes ps qs r s =
    walks_one ReadsParam after_param reads_one_param bytes ps qs r.rest s.rest (no_param r.rest r.ended) (no_param s.rest s.ended) r.walk s.walk

same_ack : (a b : Bool) → ack_type a ≡ ack_type b → a ≡ b
same_ack true true e = refl
same_ack false false e = refl
same_ack _ _ e = absurd (omega arith)

ack_range : (a : Bool) → (1 ≤ ack_type a) × (ack_type a ≤ 2)
ack_range true = (omega arith, omega arith)
ack_range false = (omega arith, omega arith)

inits_one : (flags : ℕ) (value : List ℕ) (i j : Init) → ack_type i.is_ack ≡ ack_type j.is_ack → ReadsInit flags value i → ReadsInit flags value j → i ≡ j
inits_one flags value i j typ r s =
    let ack : i.is_ack ≡ j.is_ack = same_ack i.is_ack j.is_ack typ in
    let params : i.params ≡ j.params = params_one (drop 16 value) i.params j.params r.params s.params in
    let same : init_in i.is_ack value i.params ≡ init_in j.is_ack value j.params = rw (ack, params) refl in
    r.fields ∙ same ∙ sym s.fields

pub heartbeats_one : (value : List ℕ) (ps qs : List Parameter) → ReadsHeartbeat value ps → ReadsHeartbeat value qs → ps ≡ qs
heartbeats_one value ps qs r s = let e : heartbeat_info r.info ≡ heartbeat_info s.info = reads_one_param value (heartbeat_info r.info)
    (heartbeat_info s.info) r.reads s.reads in r.one ∙ rw e (sym s.one)

pub pairs_one : (value : List ℕ) (a b c d : Option Parameter) → ReadsPair value a b → ReadsPair value c d → (a ≡ c) × (b ≡ d)
pairs_one value (Some a) None (Some c) None r s = (ap Some (reads_one_param value a c r.0 s.0), refl)
pairs_one value (Some a) None (Some c) (Some d) r s = absurd (omega (arith, r.1, s.1.is_param.headed))
pairs_one value (Some a) (Some b) (Some c) None r s = absurd (omega (arith, s.1, r.1.is_param.headed))
pairs_one value (Some a) (Some b) (Some c) (Some d) r s =
    (ap Some (reads_one_param value a c r.0 s.0), ap Some (reads_one_param (after_param value) b d r.1 s.1))
pairs_one value None b _ _ r s = absurd r
pairs_one value _ _ None d r s = absurd s

reconfigs_one : (value : List ℕ) (p q : Reconfig) → ReadsPair value p.param_a p.param_b → ReadsPair value q.param_a q.param_b → p ≡ q
reconfigs_one value p q r s = let e = pairs_one value p.param_a p.param_b q.param_a q.param_b r s in again p q e.0 e.1
  where
    again : (p q : Reconfig) → p.param_a ≡ q.param_a → p.param_b ≡ q.param_b → p ≡ q
    again p q a b = let f : record { param_a = p.param_a; param_b = p.param_b } ≡ q = rw (a, b) refl in f

pub reads_one : (bytes : List ℕ) (v w : Wire) → ReadsChunk bytes v → ReadsChunk bytes w → v ≡ w
reads_one bytes (data_chunk d) (data_chunk e) r s = ap data_chunk (r.value.fields ∙ sym s.value.fields)
reads_one bytes (init_chunk i) (init_chunk j) r s = ap init_chunk (inits_one _ _ i j (sym r.typ ∙ s.typ) r.value s.value)
reads_one bytes (sack_chunk d) (sack_chunk e) r s = ap sack_chunk (r.value.fields ∙ sym s.value.fields)
reads_one bytes (heartbeat_chunk ps) (heartbeat_chunk qs) r s = ap heartbeat_chunk (heartbeats_one _ ps qs r.value s.value)
reads_one bytes (heartbeat_ack_chunk ps) (heartbeat_ack_chunk qs) r s = ap heartbeat_ack_chunk (heartbeats_one _ ps qs r.value s.value)
reads_one bytes (reconfig_chunk p) (reconfig_chunk q) r s = ap reconfig_chunk (reconfigs_one _ p q r.value s.value)
reads_one bytes (abort_chunk cs) (abort_chunk ds) r s = ap abort_chunk (causes_one _ cs ds r.value s.value)
reads_one bytes (shutdown_chunk m) (shutdown_chunk n) r s = ap shutdown_chunk (r.value.1 ∙ sym s.value.1)
reads_one bytes shutdown_ack_chunk shutdown_ack_chunk r s = refl
reads_one bytes (error_chunk cs) (error_chunk ds) r s = ap error_chunk (causes_one _ cs ds r.value s.value)
reads_one bytes (cookie_echo_chunk b) (cookie_echo_chunk c) r s = ap cookie_echo_chunk (r.value ∙ sym s.value)
reads_one bytes cookie_ack_chunk cookie_ack_chunk r s = refl
reads_one bytes shutdown_complete_chunk shutdown_complete_chunk r s = refl
reads_one bytes (forward_tsn_chunk f) (forward_tsn_chunk g) r s = ap forward_tsn_chunk (r.value.fields ∙ sym s.value.fields)
reads_one bytes (i_forward_tsn_chunk f) (i_forward_tsn_chunk g) r s = ap i_forward_tsn_chunk (r.value.fields ∙ sym s.value.fields)
reads_one bytes (init_chunk i) w r s = absurd (omega (arith, r.typ, s.typ, ack_range i.is_ack))
reads_one bytes v (init_chunk j) r s = absurd (omega (arith, r.typ, s.typ, ack_range j.is_ack))
reads_one bytes v w r s = absurd (omega (arith, r.typ, s.typ))

-- ---- the same for each kind

pub data_one : (bytes : List ℕ) (d : Data) (w : Wire) → ReadsChunk bytes (data_chunk d) → ReadsChunk bytes w → data_chunk d ≡ w
data_one bytes d w r s = reads_one bytes (data_chunk d) w r s

pub sack_one : (bytes : List ℕ) (d : Sack) (w : Wire) → ReadsChunk bytes (sack_chunk d) → ReadsChunk bytes w → sack_chunk d ≡ w
sack_one bytes d w r s = reads_one bytes (sack_chunk d) w r s

pub abort_one : (bytes : List ℕ) (cs : List ErrorCause) (w : Wire) → ReadsChunk bytes (abort_chunk cs) → ReadsChunk bytes w → abort_chunk cs ≡ w
abort_one bytes cs w r s = reads_one bytes (abort_chunk cs) w r s

pub shutdown_one : (bytes : List ℕ) (n : ℕ) (w : Wire) → ReadsChunk bytes (shutdown_chunk n) → ReadsChunk bytes w → shutdown_chunk n ≡ w
shutdown_one bytes n w r s = reads_one bytes (shutdown_chunk n) w r s

pub shutdown_ack_one : (bytes : List ℕ) (w : Wire) → ReadsChunk bytes shutdown_ack_chunk → ReadsChunk bytes w → shutdown_ack_chunk ≡ w
shutdown_ack_one bytes w r s = reads_one bytes shutdown_ack_chunk w r s

pub error_one : (bytes : List ℕ) (cs : List ErrorCause) (w : Wire) → ReadsChunk bytes (error_chunk cs) → ReadsChunk bytes w → error_chunk cs ≡ w
error_one bytes cs w r s = reads_one bytes (error_chunk cs) w r s

pub cookie_echo_one : (bytes b : List ℕ) (w : Wire) → ReadsChunk bytes (cookie_echo_chunk b) → ReadsChunk bytes w → cookie_echo_chunk b ≡ w
cookie_echo_one bytes b w r s = reads_one bytes (cookie_echo_chunk b) w r s

pub cookie_ack_one : (bytes : List ℕ) (w : Wire) → ReadsChunk bytes cookie_ack_chunk → ReadsChunk bytes w → cookie_ack_chunk ≡ w
cookie_ack_one bytes w r s = reads_one bytes cookie_ack_chunk w r s

pub shutdown_complete_one : (bytes : List ℕ) (w : Wire) → ReadsChunk bytes shutdown_complete_chunk → ReadsChunk bytes w → shutdown_complete_chunk ≡ w
shutdown_complete_one bytes w r s = reads_one bytes shutdown_complete_chunk w r s

pub forward_tsn_one : (bytes : List ℕ) (f : ForwardTsn) (w : Wire) → ReadsChunk bytes (forward_tsn_chunk f) → ReadsChunk bytes w → forward_tsn_chunk f ≡ w
forward_tsn_one bytes f w r s = reads_one bytes (forward_tsn_chunk f) w r s

pub i_forward_tsn_one : (bytes : List ℕ) (f : IForwardTsn) (w : Wire) → ReadsChunk bytes (i_forward_tsn_chunk f) → ReadsChunk bytes w
    → i_forward_tsn_chunk f ≡ w
i_forward_tsn_one bytes f w r s = reads_one bytes (i_forward_tsn_chunk f) w r s

pub init_one : (bytes : List ℕ) (i : Init) (w : Wire) → ReadsChunk bytes (init_chunk i) → ReadsChunk bytes w → init_chunk i ≡ w
init_one bytes i w r s = reads_one bytes (init_chunk i) w r s

-- the parameters of whatever INIT the bytes begin with
pub init_params : (bytes : List ℕ) (w : Wire) → IsInit w → ReadsChunk bytes w → (ps : List Parameter) × ReadsParams (drop 16 (value_at bytes)) ps
init_params bytes (init_chunk i) k r = (i.params, r.value.params)
init_params bytes _ k r = absurd k

pub heartbeat_one : (bytes : List ℕ) (ps : List Parameter) (w : Wire) → ReadsChunk bytes (heartbeat_chunk ps) → ReadsChunk bytes w → heartbeat_chunk ps ≡ w
heartbeat_one bytes ps w r s = reads_one bytes (heartbeat_chunk ps) w r s

pub heartbeat_ack_one : (bytes : List ℕ) (ps : List Parameter) (w : Wire) → ReadsChunk bytes (heartbeat_ack_chunk ps) → ReadsChunk bytes w
    → heartbeat_ack_chunk ps ≡ w
heartbeat_ack_one bytes ps w r s = reads_one bytes (heartbeat_ack_chunk ps) w r s

pub reconfig_one : (bytes : List ℕ) (q : Reconfig) (w : Wire) → ReadsChunk bytes (reconfig_chunk q) → ReadsChunk bytes w → reconfig_chunk q ≡ w
reconfig_one bytes q w r s = reads_one bytes (reconfig_chunk q) w r s
