-- Parameters one behind the other, read and written (RFC 4960 3.2.1).
use Rattle.std.specs.Prelude.{ℕ, ◌<◌, ◌≤◌, Bool, true, false, List, [], ◌∷◌, ◌++◌, length, replicate}
use Rattle.std.specs.List.{AllByRecursion}
use Rattle.sctp_util.specs.Padding.{padding_of}
use Rattle.sctp_util.specs.Walk.{Walks}
use Rattle.sctp_params.specs.ParamFraming.{after_param}
use Rattle.sctp_params.specs.Param.{Parameter, ReadsBack, param_encoding}
use Rattle.sctp_params.specs.ParamKind.{IsReadAs, ReadsParam, ParamFault}
use Rattle.sctp_util.specs.declared.error.Error.{Error}

-- the parameters, by their declared lengths; up to three bytes after the last one are ignored
pub record ReadsParams (bytes : List ℕ) (ps : List Parameter) : Type 0 where
  pub rest : List ℕ
  pub walk : Walks ReadsParam after_param bytes ps rest
  pub ended : length rest < 4

-- a parameter's refusal, at a place that the walk comes to
unfoldable pub ParamsFault : Error → List ℕ → Type 0
ParamsFault e bytes =
    (ps : List Parameter) × (rest : List ℕ) × Walks ReadsParam after_param bytes ps rest
    × (4 ≤ length rest) × ParamFault e rest

-- parameters that read back, each whatever follows it
abbrev pub ReadBack : List Parameter → Type 0
ReadBack ps = AllByRecursion (ReadsBack IsReadAs) ps

-- how many zeros follow an encoding of this length; a bare one has none
abbrev pub gap : Bool → ℕ → ℕ
gap true n = 0
gap false n = padding_of n

-- a parameter, bare or with its padding
unfoldable pub padded_param : Bool → Parameter → List ℕ
padded_param true p = param_encoding p
padded_param false p = param_encoding p ++ replicate (padding_of (length (param_encoding p))) 0

-- parameters, all bare, or each with its padding before the next; the last one is bare
unfoldable pub params_encoding : Bool → List Parameter → List ℕ
params_encoding bare [] = []
params_encoding bare (p ∷ []) = padded_param true p
params_encoding bare (p ∷ q ∷ ps) = padded_param bare p ++ params_encoding bare (q ∷ ps)
