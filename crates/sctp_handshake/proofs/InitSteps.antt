-- What is said from a place on, by one parameter more.
use Rattle.std.proofs.Common.{◌≡◌, ℕ, zero, suc, ◌+◌, ◌-◌, ◌<◌, ◌≤◌, ◌^◌, Bool, true, false, List, [], ◌∷◌, ◌++◌, length, refl, ◌∙◌, ap, arith}
use Rattle.std.specs.Prelude.{nat_lt, ◌==◌, ◌||◌, Ok, Err, Some, None}
use Rattle.std.specs.Int.{w16, w32, from_be_bytes, to_be_bytes}
use Rattle.std.proofs.lemmas.Bool.Decides.{nat_tests}
use Rattle.std.proofs.lemmas.Nat.{from_be_bytes-to_be_bytes_2, from_be_bytes-to_be_bytes_4}
use Rattle.sctp_util.specs.Field.{be16, be32, u16_at, u32_at}
use Rattle.sctp_handshake.specs.declared.offer.Offer.{Offer}
use Rattle.sctp_handshake.specs.Tickets.{OfferFits}
use Rattle.sctp_handshake.specs.declared.init_value.InitFault.TheVariants.{BrokenParameter}
use Rattle.sctp_handshake.specs.declared.init_value.Said.{Said}
use Rattle.sctp_handshake.specs.ParamTypes.{ends_at, is_told, param_if}
use Rattle.sctp_handshake.specs.InitValues.{is_param, place, noted, said_from, init_in, numbers_in, host_name_from, told_from, report, number_bytes, init_bytes, extensions_of}

module _ (value : List ℕ) (at : ℕ) (s : Said) where
  -- too few bytes are left
  pub said_over : (n : ℕ) → length value < at + 4 → said_from n value at s ≡ Ok s
  said_over zero lt = refl
  said_over (suc n) lt = let over : nat_lt (length value) (at + 4) ≡ true = grind (arith, nat_tests) in rw over refl

  enough : at + 4 ≤ length value → nat_lt (length value) (at + 4) ≡ false
  enough le = grind (arith, nat_tests)

  -- the next parameter is one that reading ends at
  pub said_ended : (n : ℕ) → at + 4 ≤ length value → is_param value at ≡ true → ends_at (place value at).typ ≡ true → said_from n value at s ≡ Ok s
  said_ended zero le param ends = refl
  said_ended (suc n) le param ends = rw (enough le, param, ends) refl

  -- no parameter begins
  pub said_broken : (n : ℕ) → 0 < n → at + 4 ≤ length value → is_param value at ≡ false → said_from n value at s ≡ Err BrokenParameter
  said_broken zero lt le broken = absurd (omega arith)
  said_broken (suc n) lt le broken = rw (enough le, broken) refl

  -- one is read
  said_step : (n : ℕ) → at + 4 ≤ length value → is_param value at ≡ true → ends_at (place value at).typ ≡ false
      → said_from (suc n) value at s ≡ said_from n value (place value at).next (noted value (place value at) s)
  said_step n le param goes = rw (enough le, param, goes) refl

  pub said_next : (seen : ℕ) → seen < length value → at + 4 ≤ length value → is_param value at ≡ true → ends_at (place value at).typ ≡ false
      → said_from (length value - seen) value at s ≡ said_from (length value - (seen + 1)) value (place value at).next (noted value (place value at) s)
  said_next seen lt le param goes =
      let e : length value - seen ≡ suc (length value - (seen + 1)) = omega arith in
      ap (λ n. said_from n value at s) e ∙ said_step (length value - (seen + 1)) le param goes

-- no parameter more is looked at
pub said_none : (value : List ℕ) (at n : ℕ) (s : Said) → n ≡ 0 → said_from n value at s ≡ Ok s
said_none value at n s e = rw e refl

pub init_of_long : (value : List ℕ) → 16 ≤ length value → init_in value ≡ said_from (length value) value 16 (numbers_in value)
init_of_long value le = let long : nat_lt (length value) 16 ≡ false = grind (arith, nat_tests) in rw long refl

module _ (value : List ℕ) (at : ℕ) where
  pub host_broken : (n : ℕ) → is_param value at ≡ false → host_name_from n value at ≡ None
  host_broken zero broken = refl
  host_broken (suc n) broken = rw broken refl

  -- the parameter is a Host Name Address
  pub host_here : (n : ℕ) → 0 < n → is_param value at ≡ true → ((place value at).typ == 11) ≡ true → host_name_from n value at ≡ Some (place value at)
  host_here zero lt param host = absurd (omega arith)
  host_here (suc n) lt param host = rw (param, host) refl

  pub host_ended : (n : ℕ) → is_param value at ≡ true → ((place value at).typ == 11) ≡ false → ends_at (place value at).typ ≡ true
      → host_name_from n value at ≡ None
  host_ended zero param host ends = refl
  host_ended (suc n) param host ends = rw (param, ends, host) refl

  host_step : (n : ℕ) → is_param value at ≡ true → ((place value at).typ == 11) ≡ false → ends_at (place value at).typ ≡ false
      → host_name_from (suc n) value at ≡ host_name_from n value (place value at).next
  host_step n param host goes = rw (param, goes, host) refl

  pub host_next : (seen : ℕ) → seen < length value → is_param value at ≡ true → ((place value at).typ == 11) ≡ false → ends_at (place value at).typ ≡ false
      → host_name_from (length value - seen) value at ≡ host_name_from (length value - (seen + 1)) value (place value at).next
  host_next seen lt param host goes =
      let e : length value - seen ≡ suc (length value - (seen + 1)) = omega arith in
      ap (λ n. host_name_from n value at) e ∙ host_step (length value - (seen + 1)) param host goes

-- no parameter more is looked at
pub host_none : (value : List ℕ) (at n : ℕ) → n ≡ 0 → host_name_from n value at ≡ None
host_none value at n e = rw e refl

module _ (value : List ℕ) (at : ℕ) where
  pub told_broken : (n : ℕ) → is_param value at ≡ false → told_from n value at ≡ None
  told_broken zero broken = refl
  told_broken (suc n) broken = rw broken refl

  -- the parameter is one that is told of
  pub told_here : (n : ℕ) → 0 < n → is_param value at ≡ true → is_told (place value at).typ ≡ true → told_from n value at ≡ Some (report value at (place
      value at))
  told_here zero lt param told = absurd (omega arith)
  told_here (suc n) lt param told = rw (param, told) refl

  pub told_ended : (n : ℕ) → is_param value at ≡ true → is_told (place value at).typ ≡ false → ends_at (place value at).typ ≡ true → told_from n value at ≡ None
  told_ended zero param told ends = refl
  told_ended (suc n) param told ends = rw (param, told, ends) refl

  told_step : (n : ℕ) → is_param value at ≡ true → is_told (place value at).typ ≡ false → ends_at (place value at).typ ≡ false
      → told_from (suc n) value at ≡ told_from n value (place value at).next
  told_step n param told goes = rw (param, told, goes) refl

  pub told_next : (seen : ℕ) → seen < length value → is_param value at ≡ true → is_told (place value at).typ ≡ false → ends_at (place value at).typ ≡ false
      → told_from (length value - seen) value at ≡ told_from (length value - (seen + 1)) value (place value at).next
  told_next seen lt param told goes =
      let e : length value - seen ≡ suc (length value - (seen + 1)) = omega arith in
      ap (λ n. told_from n value at) e ∙ told_step (length value - (seen + 1)) param told goes

-- no parameter more is looked at
pub told_none : (value : List ℕ) (at n : ℕ) → n ≡ 0 → told_from n value at ≡ None
told_none value at n e = rw e refl

pub length-number_bytes : (o : Offer) → length (number_bytes o) ≡ 16
unfolding be16 be32
length-number_bytes o = refl

-- ## An offer is read as it was written

u32_again : (n : ℕ) → n < 2 ^ 32 → from_be_bytes w32 (to_be_bytes w32 n) ≡ n
u32_again = from_be_bytes-to_be_bytes_4

u16_again : (n : ℕ) → n < 2 ^ 16 → from_be_bytes w16 (to_be_bytes w16 n) ≡ n
u16_again = from_be_bytes-to_be_bytes_2

-- what is said by these numbers and flags
made : ℕ → ℕ → ℕ → ℕ → ℕ → Bool → Bool → Bool → Said
made tag window outbound_streams inbound_streams first_tsn forward_tsn reconfig zero_checksum = record {
  offer = record {
    tag = tag;
    window = window;
    outbound_streams = outbound_streams;
    inbound_streams = inbound_streams;
    first_tsn = first_tsn;
    forward_tsn = forward_tsn;
    reconfig = reconfig;
    zero_checksum = zero_checksum;
  };
  cookie = None;
}

-- the parameters behind any 16 bytes
module _ (b0 b1 b2 b3 b4 b5 b6 b7 b8 b9 b10 b11 b12 b13 b14 b15 : ℕ) where
  flags : (f r z : Bool)
      → init_in (b0 ∷ b1 ∷ b2 ∷ b3 ∷ b4 ∷ b5 ∷ b6 ∷ b7 ∷ b8 ∷ b9 ∷ b10 ∷ b11 ∷ b12 ∷ b13 ∷ b14 ∷ b15 ∷ (param_if f 0xC000 [] ++ param_if z 0x8001 (0 ∷ 0 ∷
      0 ∷ 1 ∷ []) ++ param_if (r || f) 0x8008 (extensions_of r f)))
      ≡ Ok (made (from_be_bytes w32 (b0 ∷ b1 ∷ b2 ∷ b3 ∷ [])) (from_be_bytes w32 (b4 ∷ b5 ∷ b6 ∷ b7 ∷ [])) (from_be_bytes w16 (b8 ∷ b9 ∷ []))
      (from_be_bytes w16 (b10 ∷ b11 ∷ []))
      (from_be_bytes w32 (b12 ∷ b13 ∷ b14 ∷ b15 ∷ [])) f r z)
  unfolding be16 u16_at u32_at made
  flags false false false = refl
  flags false false true = refl
  flags false true false = refl
  flags false true true = refl
  flags true false false = refl
  flags true false true = refl
  flags true true false = refl
  flags true true true = refl

same : (t w o i n t' w' o' i' n' : ℕ) (f r z : Bool) → t ≡ t' → w ≡ w' → o ≡ o' → i ≡ i' → n ≡ n' → made t w o i n f r z ≡ made t' w' o' i' n' f r z
same t w o i n t' w' o' i' n' f r z a b c d e = cc

pub offer_again : (o : Offer) → OfferFits o → init_in (init_bytes o) ≡ Ok (record { offer = o; cookie = None })
unfolding be16 be32 made
offer_again o w =
    flags _ _ _ _ _ _ _ _ _ _ _ _ _ _ _ _ o.forward_tsn o.reconfig o.zero_checksum
    ∙ ap Ok (same _ _ _ _ _ o.tag o.window o.outbound_streams o.inbound_streams o.first_tsn o.forward_tsn o.reconfig o.zero_checksum (u32_again o.tag w.tag)
    (u32_again o.window w.window) (u16_again o.outbound_streams w.outbound_streams) (u16_again o.inbound_streams w.inbound_streams) (u32_again o.first_tsn
    w.first_tsn))
