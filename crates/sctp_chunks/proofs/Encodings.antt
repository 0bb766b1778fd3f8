-- Why a chunk has no encoding.
use Rattle.std.proofs.Common.{List, [], ◌∷◌, inl, inr}
use Rattle.std.specs.Prelude.{Option, Some, None}
use Rattle.sctp_util.specs.declared.error.Error.{Error}
use Rattle.sctp_params.specs.Param.{Parameter}
use Rattle.sctp_chunks.specs.Heartbeat.{IsOneInfo, OneInfoFault}
use Rattle.sctp_chunks.specs.Wire.{Wire, heartbeat_ack_chunk, reconfig_chunk, HasFirst, HasEncoding}
use Rattle.sctp_chunks.specs.Check.{FormFault, NoFirstFault, EncodingFault, IsEncodingError}

no_info : (e : Error) (ps : List Parameter) → OneInfoFault e ps → IsEncodingError e × (IsOneInfo ps → ⊥)
no_info e [] f = (inr (inl f), λ t. t)
no_info e (p ∷ []) f = (inr (inr (inl f.0)), λ t. f.1 t)
no_info e (p ∷ q ∷ ps) f = (inr (inl f), λ t. t)

no_first : (e : Error) (a : Option Parameter) → NoFirstFault e a → IsEncodingError e × (HasFirst a → ⊥)
no_first e None f = (inr (inr (inr f)), λ t. t)
no_first e (Some a) f = absurd f

no_form : (e : Error) (w : Wire) → FormFault e w → IsEncodingError e × (HasEncoding w → ⊥)
no_form e (heartbeat_ack_chunk ps) f = let n = no_info e ps f in (n.0, λ t. n.1 t.0)
no_form e (reconfig_chunk r) f = let n = no_first e r.param_a f in (n.0, λ t. n.1 t.0)
no_form e _ f = absurd f

-- a refusal of writing says that there is no encoding, by one of four errors
pub no_encoding : (e : Error) (w : Wire) → EncodingFault e w → IsEncodingError e × (HasEncoding w → ⊥)
no_encoding e w (inl f) = no_form e w f
no_encoding e w (inr f) = (inl f.0, λ t. f.2 t.1)
