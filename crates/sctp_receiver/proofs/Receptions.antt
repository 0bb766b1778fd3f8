-- What a receiver refuses, by the places of its streams and by its TSNs.
use Rattle.sctp_receiver.proofs.Names.{◌≡◌, ℕ, ◌<◌, ◌≤◌, ◌^◌, true, false, List, Option, Some, None, refl, ap, sym, ◌∙◌, inl, inr, arith, ◌==◌, if◌then◌else◌}
use Rattle.sctp_receiver.proofs.Names.{is_some, slice_index_or, option_or, nat_tests, get_or_default, distance, comes_before, not_both, comes_before_from}
use Rattle.sctp_receiver.proofs.Names.{distance_cases, ChunkPayloadData, InboundStream, Limits, StreamUnknown, TsnOpposite, IsOnlyPlace, number, numbers_of}
use Rattle.sctp_receiver.proofs.Names.{has_number, new_stream, stream_read, Filter, has_come, is_opposite, refusal_by, Reception, stream_of, is_open, filter_of}
use Rattle.sctp_receiver.proofs.Names.{data_refusal, new_refusal, stream_refusal, absent-find, inside, found}
use Rattle.std.specs.Prelude.{MatchOption}
use Rattle.sctp_util.specs.Serial.{at_or_before}
use Rattle.sctp_stream.specs.Numbers.{IsAbsent}
use Rattle.sctp_receiver.specs.Receiver.{after_read}
use Rattle.sctp_receiver.proofs.Inbounds.{stays-changed}

-- a receiver as its parts say
abbrev pub reception_in : List InboundStream → Filter → ℕ → Option Limits → Reception
reception_in streams f max limits =
    record { streams = streams; cumulative_tsn = f.cumulative_tsn; beyond = f.beyond; duplicates = f.duplicates; max_message_size = max; limits = limits }

-- limits don't look at the room of the TSNs
pub any-room : (l : Option Limits) (t : ℕ) (f : Filter) (ls : List InboundStream) → refusal_by l t (record f { room = 0 }) ls ≡ refusal_by l t f ls
any-room None t f ls = refl
any-room (Some l) t f ls = refl

module _ (r : Reception) (s : ℕ) where
  pub closed : IsAbsent s (numbers_of r.streams) → stream_of s r ≡ None
  closed absent = absent-find number r.streams (numbers_of r.streams) refl s absent

  pub open-at : (k : ℕ) → IsOnlyPlace s (numbers_of r.streams) k → is_open s r ≡ true
  open-at k p =
      let d = new_stream 0 0 in
      let x = slice_index_or r.streams k d in
      ap is_some (found number r.streams (numbers_of r.streams) refl s k p x
      (get_or_default r.streams k d x (inside number r.streams (numbers_of r.streams) refl s k p)))

  pub open-is : (o : Option ℕ) → MatchOption o (IsAbsent s (numbers_of r.streams)) (IsOnlyPlace s (numbers_of r.streams)) → is_open s r ≡ is_some o
  open-is None absent = ap is_some (closed absent)
  open-is (Some k) p = open-at k p

pub read-numbers : (s : ℕ) (r : Reception) → numbers_of (after_read s r).streams ≡ numbers_of r.streams
read-numbers s r = stays-changed number stream_read (λ l. refl) (has_number s) r.streams

-- a chunk of a stream that is not open
pub unknown : (c : ChunkPayloadData) (r : Reception) → has_come c.tsn (filter_of r) ≡ false → is_opposite c.tsn (filter_of r) ≡ false
    → new_refusal c.tsn r ≡ None → stream_of c.stream_identifier r ≡ None → data_refusal c r ≡ Some StreamUnknown
unknown c r fresh near within closed =
    ap (λ b. if b then None else (if is_opposite c.tsn (filter_of r) then Some TsnOpposite
    else option_or (new_refusal c.tsn r) (stream_refusal c (stream_of c.stream_identifier r)))) fresh
    ∙ ap (λ b. if b then Some TsnOpposite else option_or (new_refusal c.tsn r) (stream_refusal c (stream_of c.stream_identifier r))) near
    ∙ ap (λ o. option_or o (stream_refusal c (stream_of c.stream_identifier r))) within ∙ ap (stream_refusal c) closed

-- what is neither at or before nor opposite comes after
pub after : (c t : ℕ) → c < 2 ^ 32 → t < 2 ^ 32 → (distance c t == 2 ^ 31) ≡ false → at_or_before t c ≡ false → comes_before c t ≡ true
unfolding at_or_before
after c t hc ht near late =
    let apart : distance c t ≡ 2 ^ 31 → ⊥ = λ e. not_both (sym near ∙ ap (λ d. d == 2 ^ 31) e) in
    let far : 2 ^ 31 ≤ distance t c = grind (arith, nat_tests, late) in
    elim (distance_cases c t hc ht) [
      | inl p ↦ elim (distance_cases t c ht hc) [
        | inl q ↦ comes_before_from c t (omega (arith, apart, far)) (omega (arith, apart, far))
        | inr q ↦ comes_before_from c t (omega (arith, apart, far)) (omega (arith, apart, far))
      ]
      | inr p ↦ elim (distance_cases t c ht hc) [
        | inl q ↦ comes_before_from c t (omega (arith, apart, far)) (omega (arith, apart, far))
        | inr q ↦ comes_before_from c t (omega (arith, apart, far)) (omega (arith, apart, far))
      ]
    ]
