-- The parameters of a RE-CONFIG that are read.
use Rattle.std.proofs.Common.{◌≡◌, ℕ, ◌+◌, ◌-◌, ◌*◌, ◌/◌, ◌≤◌, List, length, refl, sym, subst}
use Rattle.sctp_util.proofs.EachAt.{length_each}
use Rattle.sctp_util.specs.Each.{each}
use Rattle.sctp_util.specs.Field.{u16_at, u32_at}
use Rattle.sctp_params.specs.ParamFraming.{IsParam, param_type_at, param_value_at}
use Rattle.sctp_c.specs.Out.{filled}
use Rattle.sctp_c.specs.Reconfig.{IsEven, IsIncomingReset, IsReset}

-- the numbers and the streams of a value are those of the request
pub is_reset : (bytes value : List ℕ) (a b c : ℕ) (old rows : List ℕ) → IsParam bytes × (param_type_at bytes ≡ 13) → value ≡ param_value_at bytes
    → 12 ≤ length value → IsEven (length value) → a ≡ u32_at value 0 → b ≡ u32_at value 4 → c ≡ u32_at value 8
    → rows ≡ filled (each ((length value - 12) / 2) (λ i. u16_at value (12 + 2 * i))) old
    → IsReset bytes (record { request = a; response = b; last_tsn = c }) ((length value - 12) / 2) old rows
is_reset bytes value a b c old rows is same =
    let P : List ℕ → Type 0 = λ v. 12 ≤ length v → IsEven (length v) → a ≡ u32_at v 0 → b ≡ u32_at v 4 → c ≡ u32_at v 8
    → rows ≡ filled (each ((length v - 12) / 2) (λ i. u16_at v (12 + 2 * i))) old
    → IsReset bytes (record { request = a; response = b; last_tsn = c }) ((length v - 12) / 2) old rows in
    subst P (sym same) (λ long even ea eb ec named. record {
      is_param = is.0;
      typ = is.1;
      long = long;
      even = even;
      numbers = rw (ea, eb, ec) refl;
      streams = sym (length_each ((length (param_value_at bytes) - 12) / 2) (λ i. u16_at (param_value_at bytes) (12 + 2 * i)));
      named = named;
    })

-- the number and the streams of a value are those of the request
pub is_incoming_reset : (bytes value : List ℕ) (n : ℕ) (old rows : List ℕ) → IsParam bytes × (param_type_at bytes ≡ 14) → value ≡ param_value_at bytes
    → 4 ≤ length value → IsEven (length value) → n ≡ u32_at value 0 → rows ≡ filled (each ((length value - 4) / 2) (λ i. u16_at value (4 + 2 * i))) old
    → IsIncomingReset bytes n ((length value - 4) / 2) old rows
is_incoming_reset bytes value n old rows is same =
    let P : List ℕ → Type 0 = λ v. 4 ≤ length v → IsEven (length v) → n ≡ u32_at v 0
    → rows ≡ filled (each ((length v - 4) / 2) (λ i. u16_at v (4 + 2 * i))) old → IsIncomingReset bytes n ((length v - 4) / 2) old rows in
    subst P (sym same) (λ long even number named. record {
      is_param = is.0;
      typ = is.1;
      long = long;
      even = even;
      request = number;
      streams = sym (length_each ((length (param_value_at bytes) - 4) / 2) (λ i. u16_at (param_value_at bytes) (4 + 2 * i)));
      named = named;
    })
