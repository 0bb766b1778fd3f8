-- The algorithms that a sender asks its peer to authenticate chunks by (RFC 4895 3.3).
use Rattle.std.specs.Prelude.{◌≡◌, ℕ, ◌==◌, ◌*◌, ◌/◌, ◌<◌, ◌⊎◌, if◌then◌else◌, List, length, codes}
use Rattle.std.specs.List.{flat_map}
use Rattle.sctp_params.specs.declared.param.param_requested_hmac_algorithm.HmacAlgorithm.{HmacAlgorithm}
use Rattle.sctp_params.specs.declared.param.param_requested_hmac_algorithm.HmacAlgorithm.TheVariants.{HmacResv1, HmacSha128, HmacResv2, HmacSha256, Unknown}
use Rattle.sctp_util.specs.Field.{be16, u16_at}
use Rattle.sctp_util.specs.Each.{each}

unfoldable pub algorithm_from : ℕ → HmacAlgorithm
algorithm_from n =
    if n == 0 then HmacResv1
    else (if n == 1 then HmacSha128
    else (if n == 2 then HmacResv2
    else (if n == 3 then HmacSha256 else Unknown)))

unfoldable pub algorithm_number : HmacAlgorithm → ℕ
algorithm_number HmacResv1 = 0
algorithm_number HmacSha128 = 1
algorithm_number HmacResv2 = 2
algorithm_number HmacSha256 = 3
algorithm_number Unknown = 4

-- the printed name of an algorithm
abbrev pub algorithm_name : HmacAlgorithm → List ℕ
algorithm_name HmacResv1 = codes "HMAC Reserved (0x00)"
algorithm_name HmacSha128 = codes "HMAC SHA-128"
algorithm_name HmacResv2 = codes "HMAC Reserved (0x02)"
algorithm_name HmacSha256 = codes "HMAC SHA-256"
algorithm_name Unknown = codes "Unknown HMAC Algorithm"

-- the numbers of the algorithms that can be asked for
abbrev pub IsRequestable : ℕ → Type 0
IsRequestable n = (n ≡ 1) ⊎ (n ≡ 3)

-- a value of algorithms: two bytes each; a last odd byte is ignored
pub record ReadsAlgorithms (value : List ℕ) (hs : List HmacAlgorithm) : Type 0 where
  pub requestable : (i : ℕ) → i < length value / 2 → IsRequestable (u16_at value (2 * i))
  pub algorithms : hs ≡ each (length value / 2) (λ i. algorithm_from (u16_at value (2 * i)))

abbrev pub algorithm_encoding : HmacAlgorithm → List ℕ
algorithm_encoding a = be16 (algorithm_number a)

unfoldable pub algorithms_value : List HmacAlgorithm → List ℕ
algorithms_value algorithms = flat_map algorithm_encoding algorithms
