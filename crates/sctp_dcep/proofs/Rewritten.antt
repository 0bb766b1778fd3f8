-- What was read can be written.
use Rattle.std.proofs.Common.{◌≡◌, ℕ, ◌+◌, ◌-◌, ◌<◌, ◌≤◌, ◌^◌, Bool, true, false, List, length, drop, refl, ap, subst, inl, inr, arith, Ok, Err}
use Rattle.std.specs.Prelude.{nat_lt, ◌==◌, ◌⊎◌, not, if◌then◌else◌, slice_index, slice_range, None}
use Rattle.std.proofs.lemmas.List.{length-take}
use Rattle.std.proofs.lemmas.Bool.Decides.{nat_tests}
use Rattle.sctp_util.specs.Field.{AreBytes, u16_at}
use Rattle.sctp_util.proofs.Bytes.{bytes_take, bytes_drop}
use Rattle.sctp_dcep.specs.declared.fault.Fault.TheVariants.{OutOfMemory, TooShort, UnknownChannelType, WrongLength}
use Rattle.sctp_dcep.specs.declared.message.Open.{Open}
use Rattle.sctp_dcep.specs.declared.message.Message.TheVariants as messages
use Rattle.sctp_dcep.proofs.Again.{parameter_again}
use Rattle.sctp_dcep.specs.Message.{as_read, is_channel_type, is_too_long, label_end, open_in, read_open_of, reliability_in, write_refusal}

-- the request can be written, and is read as it is
abbrev IsOwn : Open → Type 0
IsOwn o = (write_refusal (messages.Open o) ≡ None) × (as_read (messages.Open o) ≡ messages.Open o)

u16_fits : (bytes : List ℕ) (at : ℕ) → AreBytes bytes → u16_at bytes at < 2 ^ 16
unfolding u16_at
u16_fits bytes at h = let b = bytes_take 2 (drop at bytes) (bytes_drop at bytes h) in omega (arith, b 0, b 1)

-- a part between two places is no longer than their distance
length-slice_range : (bytes : List ℕ) (from end : ℕ) → length (slice_range bytes from end) ≤ end - from
length-slice_range bytes from end = omega (arith, length-take (end - from) (drop from bytes))

short_enough : (text : List ℕ) (n : ℕ) → length text ≤ n → n < 2 ^ 16 → is_too_long text ≡ false
short_enough text n a b = grind (arith, nat_tests)

refuses_none : (o : Open) → is_too_long o.label ≡ false → is_too_long o.protocol ≡ false → write_refusal (messages.Open o) ≡ None
refuses_none o a b = rw (a, b) refl

own : (bytes : List ℕ) → AreBytes bytes → length bytes ≡ label_end bytes + u16_at bytes 10 → IsOwn (open_in bytes)
own bytes small long =
    let label = short_enough (slice_range bytes 12 (label_end bytes)) (u16_at bytes 8)
    (omega (arith, length-slice_range bytes 12 (label_end bytes))) (u16_fits bytes 8 small) in
    let protocol = short_enough (slice_range bytes (label_end bytes) (length bytes)) (u16_at bytes 10)
    (omega (arith, length-slice_range bytes (label_end bytes) (length bytes), long)) (u16_fits bytes 10 small) in (
      refuses_none (open_in bytes) label protocol,
      ap (λ v. messages.Open (record (open_in bytes) { value = v })) (parameter_again (reliability_in bytes) _),
    )

own_read : (bytes : List ℕ) (o : Open) → AreBytes bytes → Ok o ≡ read_open_of bytes → IsOwn o
own_read bytes o small is = walk (nat_lt (length bytes) 12) (is_channel_type (slice_index bytes 1)) (length bytes == label_end bytes + u16_at bytes 10) refl is
  where
    walk : (a b c : Bool) → (length bytes == label_end bytes + u16_at bytes 10) ≡ c
        → Ok o ≡ (if a then Err TooShort else (if not b then Err UnknownChannelType else (if c then Ok (open_in bytes) else Err WrongLength))) → IsOwn o
    walk true b c at e = cc
    walk false false c at e = cc
    walk false true false at e = cc
    walk false true true at e =
        let long : length bytes ≡ label_end bytes + u16_at bytes 10 = grind (arith, nat_tests) in
        let same : open_in bytes ≡ o = cc in
        subst IsOwn same (own bytes small long)

-- so is what a call answers
pub own_answer : (bytes : List ℕ) (o : Open) → AreBytes bytes
    → (Ok o ≡ read_open_of bytes) ⊎ ((Ok o ≡ Err OutOfMemory) × ((read : Open) × (read_open_of bytes ≡ Ok read))) → IsOwn o
own_answer bytes o small (inl is) = own_read bytes o small is
own_answer bytes o small (inr other) = let never = other.0 in cc
