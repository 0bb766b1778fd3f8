-- What becomes of an INIT ACK.
use Rattle.std.proofs.Common.{◌≡◌, ◌<◌, ℕ, zero, suc, Bool, true, false, List, drop, length, Option, None, Some, refl, ap, sym, subst, ◌∙◌, inl, inr, arith}
use Rattle.std.proofs.Math.ListN.{length-drop}
use Rattle.std.proofs.lemmas.Bool.{false≢true, lt-ltb}
use Rattle.std.specs.Prelude.{◌&&◌, not, nat_le, nat_lt, Err, if◌then◌else◌, is_some}
use Rattle.sctp_association.specs.Openings.{BringsEnd, EndsAsked, InitAckOn, end_kind, end_told}
use Rattle.sctp_association.specs.Reports.{EndsBegun, host_name_told, value_in}
use Rattle.sctp_association.specs.declared.association.Association.{Association}
use Rattle.sctp_association.specs.declared.association.arrivals.Step.{Step}
use Rattle.sctp_association.specs.declared.association.arrivals.Step.TheVariants.{Next, Stop, Cut, Refused}
use Rattle.sctp_association.specs.declared.due.AloneKind.{AloneKind}
use Rattle.sctp_association.specs.declared.due.AloneKind.TheVariants as alone
use Rattle.sctp_datagram.specs.declared.datagram.ChunkPlace.{ChunkPlace}
use Rattle.sctp_datagram.specs.declared.params.ParamPlace.{ParamPlace}
use Rattle.sctp_handshake.specs.InitValues.{cookie_in, host_name_from, host_name_of, init_in, is_param, numbers_in, said_from}
use Rattle.sctp_handshake.specs.declared.init_value.InitFault.TheVariants.{MissingCookie, ShortValue}
use Rattle.sctp_params.specs.ParamFraming.{param_declared_length}
use Rattle.sctp_util.specs.Field.{u32_at}

-- ## A value that is too short says nothing

no-param : (value : List ℕ) → length value < 16 → is_param value 16 ≡ false
no-param value short =
    let few : length (drop 16 value) ≡ 0 = omega (arith, length-drop 16 value) in
    ap (λ (n : ℕ). nat_le 4 n && nat_le 4 (param_declared_length (drop 16 value))
    && nat_le (param_declared_length (drop 16 value)) (length (drop 16 value))) few

not-none : (b : Bool) (o : Option ParamPlace) → b ≡ false → (if not b then None else o) ≡ None
not-none true o e = absurd (false≢true (sym e))
not-none false o e = refl

host-short : (most : ℕ) (value : List ℕ) → length value < 16 → host_name_from most value 16 ≡ None
host-short zero value short = refl
host-short (suc most) value short =
    not-none (is_param value 16) _ (no-param value short)

read-short : (value : List ℕ) → length value < 16 → cookie_in (init_in value) ≡ Err MissingCookie → ⊥
read-short value short e = by (nat_lt (length value) 16) (lt-ltb (length value) 16 short) e
  where
    by : (b : Bool) → b ≡ true → cookie_in (if b then Err ShortValue else said_from (length value) value 16 (numbers_in value)) ≡ Err MissingCookie → ⊥
    by true is e = cc
    by false is e = false≢true is

pub ends_long : (c : ChunkPlace) (d : List ℕ) → BringsEnd c d → length (value_in d c) < 16 → ⊥
ends_long c d brings short = elim brings.why [
  | inl host ↦ false≢true (sym (ap (λ (o : Option ParamPlace). is_some o) (host-short (length (value_in d c)) (value_in d c) short)) ∙ host)
  | inr missing ↦ read-short (value_in d c) short missing
]

-- ## Where what was begun ends

pub ended_on : (c : ChunkPlace) (d : List ℕ) (now : ℕ) (a b : Association) (s : Step) → (s ≡ Next → ⊥) → (s ≡ Cut → ⊥) → (s ≡ Stop → EndsAsked c d a b)
    → InitAckOn c d now s a b
ended_on c d now a b Next next cut stop = absurd (next refl)
ended_on c d now a b Stop next cut stop = stop refl
ended_on c d now a b Cut next cut stop = absurd (cut refl)
ended_on c d now a b (Refused r) next cut stop = tt

module _ (c : ChunkPlace) (d value : List ℕ) (a b : Association) (is : value ≡ value_in d c) where
  asked : (kind : AloneKind) (raw : Option (List ℕ)) → kind ≡ end_kind (host_name_of (value_in d c))
      → raw ≡ end_told (value_in d c) a.config.mtu (host_name_of (value_in d c)) → EndsBegun kind raw (u32_at value 0) a b
      → EndsBegun (end_kind (host_name_of (value_in d c))) (end_told (value_in d c) a.config.mtu (host_name_of (value_in d c))) (u32_at (value_in d c) 0) a b
  asked kind raw same told h =
      subst (λ k. EndsBegun k (end_told (value_in d c) a.config.mtu (host_name_of (value_in d c))) (u32_at (value_in d c) 0) a b) same
      (subst (λ r. EndsBegun kind r (u32_at (value_in d c) 0) a b) told (subst (λ v. EndsBegun kind raw (u32_at v 0) a b) is h))

  -- by a Host Name Address
  pub asked_host : (p : ParamPlace) (raw : Option (List ℕ)) → host_name_of value ≡ Some p → raw ≡ host_name_told value p a.config.mtu
      → EndsBegun alone.HostName raw (u32_at value 0) a b
      → EndsBegun (end_kind (host_name_of (value_in d c))) (end_told (value_in d c) a.config.mtu (host_name_of (value_in d c))) (u32_at (value_in d c) 0) a b
  asked_host p raw there told h =
      let found = sym (ap host_name_of is) ∙ there in
      asked alone.HostName raw (sym (ap end_kind found))
      (told ∙ ap (λ v. host_name_told v p a.config.mtu) is ∙ sym (ap (end_told (value_in d c) a.config.mtu) found)) h

  -- without a cookie
  pub asked_none : host_name_of value ≡ None → EndsBegun alone.NoCookie None (u32_at value 0) a b
      → EndsBegun (end_kind (host_name_of (value_in d c))) (end_told (value_in d c) a.config.mtu (host_name_of (value_in d c))) (u32_at (value_in d c) 0) a b
  asked_none none h =
      let found = sym (ap host_name_of is) ∙ none in
      asked alone.NoCookie None (sym (ap end_kind found)) (sym (ap (end_told (value_in d c) a.config.mtu) found)) h
