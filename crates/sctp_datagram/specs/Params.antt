-- Parameters of any type, as RFC 9260 3.2.1 has a receiver take them.
use Rattle.std.specs.Prelude.{◌≡◌, ℕ, ◌+◌, ◌-◌, ◌%◌, min, Bool, nat_lt, nat_le, List, length, take, drop}
use Rattle.sctp_util.specs.Padding.{padded_length}
use Rattle.sctp_params.specs.ParamFraming.{IsParam, param_declared_length, param_type_at, param_value_at}
use Rattle.sctp_datagram.specs.declared.params.ParamPlace.{ParamPlace}

-- ## Types that the reader does not know

-- by the highest bit: where it is 0, no parameter behind it in its chunk is looked at
abbrev pub is_stopping : ℕ → Bool
is_stopping t = nat_lt t 0x8000

-- by the bit below: where it is 1, the sender is told of the parameter
abbrev pub is_reported : ℕ → Bool
is_reported t = nat_le 0x4000 (t % 0x8000)

-- ## Places

-- A parameter begins at a place of the bytes, and these are its type and where its value lies. The next one begins behind its padding, or at
-- the end of the bytes: the padding of the last one is not counted in its chunk's length (RFC 9260 3.2).
pub record TellsParam (bytes : List ℕ) (at : ℕ) (p : ParamPlace) : Type 0 where
  pub is_param : IsParam (drop at bytes)
  pub typ : p.typ ≡ param_type_at (drop at bytes)
  pub value_at : p.at ≡ at + 4
  pub value_length : p.length ≡ param_declared_length (drop at bytes) - 4
  pub value : take p.length (drop p.at bytes) ≡ param_value_at (drop at bytes)
  pub later : p.next
      ≡ at + min (padded_length (param_declared_length (drop at bytes))) (length (drop at bytes))
