-- RECONFIG: streams are reset or added (RFC 6525 3.1).
use Rattle.std.specs.Prelude.{◌≡◌, ℕ, ◌⊎◌, true, false, Option, Some, None, option_map, List, [], ◌++◌, length}
use Rattle.sctp_params.specs.ParamFraming.{after_param}
use Rattle.sctp_params.specs.Param.{Parameter, ReadsBack, param_type_of}
use Rattle.sctp_params.specs.ParamKind.{IsReadAs, ReadsParam, parameter_of}
use Rattle.sctp_params.specs.declared.param.param_type.ParamType.{ParamType}
use Rattle.sctp_params.specs.declared.param.param_type.ParamType.TheVariants as types
use Rattle.sctp_util.specs.declared.error.Error.{Error}
use Rattle.sctp_util.specs.declared.error.Error.TheVariants as errors
use Rattle.sctp_chunks.specs.Params.{padded_param}
use Rattle.sctp_chunks.specs.declared.chunk.chunk_reconfig.ChunkReconfig.{ChunkReconfig}

-- the wire part of a RECONFIG
pub record Reconfig : Type 0 where
  pub param_a : Option Parameter
  pub param_b : Option Parameter

abbrev pub reconfig_of : ChunkReconfig → Reconfig
reconfig_of c =
    record {
      param_a = option_map parameter_of c.param_a;
      param_b = option_map parameter_of c.param_b;
    }

-- a parameter, and a second where bytes remain after the first; bytes after the second are ignored
abbrev pub ReadsPair : List ℕ → Option Parameter → Option Parameter → Type 0
ReadsPair value None b = ⊥
ReadsPair value (Some a) None = ReadsParam value a × (length (after_param value) ≡ 0)
ReadsPair value (Some a) (Some b) = ReadsParam value a × ReadsParam (after_param value) b

-- both read back
abbrev pub PairReadsBack : Option Parameter → Option Parameter → Type 0
PairReadsBack None b = ⊥
PairReadsBack (Some a) None = ReadsBack IsReadAs a
PairReadsBack (Some a) (Some b) = ReadsBack IsReadAs a × ReadsBack IsReadAs b

-- the first parameter, padded before a second
abbrev pub pair_encoding : Option Parameter → Option Parameter → List ℕ
pair_encoding None b = []
pair_encoding (Some a) None = padded_param true a
pair_encoding (Some a) (Some b) = padded_param false a ++ padded_param true b

abbrev pub reconfig_value : Reconfig → List ℕ
reconfig_value r = pair_encoding r.param_a r.param_b

-- the types that may stand together
abbrev pub MayStandTogether : ParamType → ParamType → Type 0
MayStandTogether a b =
    ((a ≡ types.OutSsnResetReq) × (b ≡ types.IncSsnResetReq))
    ⊎ ((a ≡ types.AddOutStreamsReq) × (b ≡ types.AddIncStreamsReq))
    ⊎ ((a ≡ types.ReconfigResp) × (b ≡ types.OutSsnResetReq))
    ⊎ ((a ≡ types.ReconfigResp) × (b ≡ types.ReconfigResp))

-- there is a first parameter, and a second may stand beside it
abbrev pub IsPair : Option Parameter → Option Parameter → Type 0
IsPair None b = ⊥
IsPair (Some a) None = Unit {0}
IsPair (Some a) (Some b) = MayStandTogether (param_type_of a) (param_type_of b)

abbrev pub PairFault : Error → Option Parameter → Option Parameter → Type 0
PairFault e None b = e ≡ errors.ErrChunkReconfigInvalidParamA
PairFault e (Some a) None = ⊥
PairFault e (Some a) (Some b) =
    (e ≡ errors.ErrChunkReconfigInvalidParamCombination)
    × (MayStandTogether (param_type_of a) (param_type_of b) → ⊥)
