-- What bytes show as parameters, whatever they are: items by their declared lengths, and a rest.
use Rattle.std.specs.Prelude.{◌≡◌, ℕ, List, take}
use Rattle.sctp_util.specs.Padding.{padded_length}
use Rattle.sctp_params.specs.Param.{Parameter}
use Rattle.sctp_params.specs.ParamFraming.{IsParam, param_type_at, param_declared_length, param_value_at}
use Rattle.sctp_params.specs.ParamKind.{parameter_of, ReadsParam, ParamFault}
use Rattle.sctp_dissect.specs.declared.params.RawParam.{RawParam}
use Rattle.sctp_dissect.specs.declared.params.ParamReading.{ParamReading}
use Rattle.sctp_dissect.specs.declared.params.ParamReading.TheVariants.{Strict, Raw}
use Rattle.sctp_dissect.specs.declared.params.ParamItem.{ParamItem}

-- the parameter that the bytes begin with, and what there is of its padding
unfoldable pub param_span : List ℕ → List ℕ
param_span bytes = take (padded_length (param_declared_length bytes)) bytes

-- The reader of parameters reads none here, and this is why.
pub record IsRawParam (bytes : List ℕ) (r : RawParam) : Type 0 where
  pub typ : r.typ ≡ param_type_at bytes
  pub declares : r.length ≡ param_declared_length bytes
  pub value : r.value ≡ param_value_at bytes
  pub refusal : ParamFault r.refusal bytes
  pub refused : (p : Parameter) → ReadsParam bytes p → ⊥

-- what the parameter that the bytes begin with is read as
abbrev pub ReadsAsParam : List ℕ → ParamReading → Type 0
ReadsAsParam bytes (Strict k) = ReadsParam bytes (parameter_of k)
ReadsAsParam bytes (Raw r) = IsRawParam bytes r

-- the item that the bytes begin with
pub record ShowsParam (rest : List ℕ) (item : ParamItem) : Type 0 where
  pub whole : IsParam rest
  pub bytes : item.bytes ≡ param_span rest
  pub reading : ReadsAsParam rest item.reading

abbrev pub param_bytes : ParamItem → List ℕ
param_bytes item = item.bytes
