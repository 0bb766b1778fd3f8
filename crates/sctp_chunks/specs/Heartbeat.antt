-- HEARTBEAT and HEARTBEAT-ACK: what the sender wants back (RFC 4960 3.3.5, 3.3.6).
use Rattle.std.specs.Prelude.{◌≡◌, ◌≢◌, ℕ, List, [], ◌∷◌}
use Rattle.sctp_params.specs.Param.{Parameter, heartbeat_info, ReadsBack, param_type_of}
use Rattle.sctp_params.specs.ParamKind.{IsReadAs, ReadsParam}
use Rattle.sctp_params.specs.declared.param.param_type.ParamType.TheVariants as types
use Rattle.sctp_util.specs.declared.error.Error.{Error}
use Rattle.sctp_util.specs.declared.error.Error.TheVariants as errors

-- one parameter; bytes after it are ignored
pub record ReadsHeartbeat (value : List ℕ) (ps : List Parameter) : Type 0 where
  pub info : List ℕ
  pub one : ps ≡ heartbeat_info info ∷ []
  pub reads : ReadsParam value (heartbeat_info info)

-- parameters as reading gives them
pub record IsReadHeartbeat (ps : List Parameter) : Type 0 where
  pub info : List ℕ
  pub one : ps ≡ heartbeat_info info ∷ []
  pub again : ReadsBack IsReadAs (heartbeat_info info)

-- exactly one parameter, whose type is Heartbeat Info
abbrev pub IsOneInfo : List Parameter → Type 0
IsOneInfo [] = ⊥
IsOneInfo (p ∷ []) = param_type_of p ≡ types.HeartbeatInfo
IsOneInfo (p ∷ q ∷ ps) = ⊥

-- no parameter, or several; or one of another type
abbrev pub OneInfoFault : Error → List Parameter → Type 0
OneInfoFault e [] = e ≡ errors.ErrHeartbeatAckParams
OneInfoFault e (p ∷ []) =
    (e ≡ errors.ErrHeartbeatAckNotHeartbeatInfo) × (param_type_of p ≢ types.HeartbeatInfo)
OneInfoFault e (p ∷ q ∷ ps) = e ≡ errors.ErrHeartbeatAckParams
