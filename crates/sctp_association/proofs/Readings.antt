-- What is read of an INIT that was written: its tag and its first TSN.
use Rattle.std.proofs.Common.{◌≡◌, ℕ, zero, suc, ◌<◌, ◌^◌, Bool, true, false, List, [], ◌++◌, length, Option, Some, None, refl, sym, ap, ◌∙◌, append_assoc}
use Rattle.std.proofs.Common.{arith, length-append}
use Rattle.std.specs.Prelude.{Result, Ok, Err, if◌then◌else◌, nat_lt, not, ◌==◌, ◌+◌}
use Rattle.sctp_util.proofs.Fields.{length_be16, length_be32, u32_at_be32}
use Rattle.sctp_util.specs.Field.{be16, be32, u32_at}
use Rattle.sctp_chunks.specs.Init.{Init, init_value}
use Rattle.sctp_chunks.specs.Params.{params_encoding}
use Rattle.sctp_datagram.specs.declared.params.ParamPlace.{ParamPlace}
use Rattle.sctp_handshake.specs.declared.init_value.InitFault.{InitFault}
use Rattle.sctp_handshake.specs.declared.init_value.InitFault.TheVariants.{BrokenParameter}
use Rattle.sctp_handshake.specs.declared.init_value.Said.{Said}
use Rattle.sctp_handshake.specs.declared.offer.Offer.{Offer}
use Rattle.sctp_handshake.specs.InitValues.{cookie_by, cookie_in, init_in, is_param, noted, numbers_in, place, said_from}
use Rattle.sctp_handshake.specs.ParamTypes.{ends_at}

-- ## What stands in the value

module _ (i : Init) where
  tag-there : i.initiate_tag < 2 ^ 32 → u32_at (init_value i) 0 ≡ i.initiate_tag
  unfolding init_value be32 params_encoding
  tag-there fits = u32_at_be32 [] (
      be32 i.advertised_receiver_window_credit ++ be16 i.num_outbound_streams ++ be16 i.num_inbound_streams ++ be32 i.initial_tsn
      ++ params_encoding false i.params
      ) i.initiate_tag 0 refl fits

  tsn-there : i.initial_tsn < 2 ^ 32 → u32_at (init_value i) 12 ≡ i.initial_tsn
  unfolding init_value be32 params_encoding be16
  tsn-there fits =
      let a = be32 i.initiate_tag in
      let b = be32 i.advertised_receiver_window_credit in
      let c = be16 i.num_outbound_streams in
      let d = be16 i.num_inbound_streams in
      let rest = be32 i.initial_tsn ++ params_encoding false i.params in
      let e : (a ++ (b ++ (c ++ d))) ++ rest ≡ a ++ (b ++ (c ++ (d ++ rest))) =
      append_assoc a (b ++ (c ++ d)) rest ∙ ap (λ l. a ++ l) (append_assoc b (c ++ d) rest ∙ ap (λ l. b ++ l) (append_assoc c d rest)) in
      ap (λ l. u32_at l 12) (sym e) ∙ u32_at_be32 (a ++ (b ++ (c ++ d))) (params_encoding false i.params) i.initial_tsn 12 (omega (
        arith,
        length-append a (b ++ (c ++ d)),
        length-append b (c ++ d),
        length-append c d,
        length_be32 i.initiate_tag,
        length_be32 i.advertised_receiver_window_credit,
        length_be16 i.num_outbound_streams,
        length_be16 i.num_inbound_streams,
      )) fits

-- ## What is said

-- parameters say nothing of the numbers
abbrev Alike : Said → Said → Type 0
Alike s t = (t.offer.tag ≡ s.offer.tag) × (t.offer.first_tsn ≡ s.offer.first_tsn)

alike-then : (s t u : Said) → Alike s t → Alike t u → Alike s u
alike-then s t u f g = (g.0 ∙ f.0, g.1 ∙ f.1)

pick : (b : Bool) (s x y : Said) → Alike s x → Alike s y → Alike s (if b then x else y)
pick true s x y f g = f
pick false s x y f g = g

noted-alike : (value : List ℕ) (p : ParamPlace) (s : Said) → Alike s (noted value p s)
noted-alike value p s =
    pick (p.typ == 0xC000) s _ _ (refl, refl) (
    pick (p.typ == 0x8008) s _ _ (refl, refl) (pick (p.typ == 0x8001) s _ _ (refl, refl) (pick (p.typ == 7) s _ _ (refl, refl) (refl, refl)))
    )

abbrev ok-of : Said → Result Said InitFault
ok-of s = Ok s

of-ok : (s t : Said) → ok-of s ≡ Ok t → s ≡ t
of-ok s t e = cc

abbrev err-of : InitFault → Result Said InitFault
err-of f = Err f

no-ok : (f : InitFault) (t : Said) → err-of f ≡ Ok t → ⊥
no-ok f t h = cc

same-alike : (s t : Said) → ok-of s ≡ Ok t → Alike s t
same-alike s t e = let is = of-ok s t e in (ap (λ (k : Said). k.offer.tag) (sym is), ap (λ (k : Said). k.offer.first_tsn) (sym is))

-- one parameter more
one-alike : (over is ends : Bool) (rest : Result Said InitFault) (s t : Said) → (rest ≡ Ok t → Alike s t)
    → (if over then Ok s else (if not is then Err BrokenParameter else (if ends then Ok s else rest))) ≡ Ok t → Alike s t
one-alike true is ends rest s t on e = same-alike s t e
one-alike false false ends rest s t on e = absurd (no-ok BrokenParameter t e)
one-alike false true true rest s t on e = same-alike s t e
one-alike false true false rest s t on e = on e

said-alike : (n : ℕ) (value : List ℕ) (at : ℕ) (s t : Said) → said_from n value at s ≡ Ok t → Alike s t
said-alike zero value at s t e = same-alike s t e
said-alike (suc n) value at s t e =
    let next = noted value (place value at) s in
    one-alike (nat_lt (length value) (at + 4)) (is_param value at) (ends_at (place value at).typ) (said_from n value (place value at).next next) s t
    (λ is. alike-then s next t (noted-alike value (place value at) s) (said-alike n value (place value at).next next t is)) e

long-alike : (short : Bool) (fault : InitFault) (r : Result Said InitFault) (s t : Said) → (r ≡ Ok t → Alike s t)
    → (if short then Err fault else r) ≡ Ok t → Alike s t
long-alike true fault r s t on e = absurd (no-ok fault t e)
long-alike false fault r s t on e = on e

numbers-alike : (value : List ℕ) (t : Said) → init_in value ≡ Ok t → Alike (numbers_in value) t
numbers-alike value t e =
    long-alike (nat_lt (length value) 16) _ (said_from (length value) value 16 (numbers_in value)) (numbers_in value) t
    (said-alike (length value) value 16 (numbers_in value) t) e

-- an INIT that was written, as it is read
pub init_said : (i : Init) (t : Said) → i.initiate_tag < 2 ^ 32 → i.initial_tsn < 2 ^ 32 → init_in (init_value i) ≡ Ok t
    → (t.offer.tag ≡ i.initiate_tag) × (t.offer.first_tsn ≡ i.initial_tsn)
init_said i t tag tsn e =
    let all = numbers-alike (init_value i) t e in
    (all.0 ∙ tag-there i tag, all.1 ∙ tsn-there i tsn)

-- where there is a cookie, too
abbrev pair : Offer → ParamPlace → Offer × ParamPlace
pair o c = (o, c)

by-cookie : (o p : Offer) (k : Option ParamPlace) (c : ParamPlace) → cookie_by p k ≡ Ok (o, c) → p ≡ o
by-cookie o p None c e = absurd (cc)
by-cookie o p (Some k) c e = let same : pair p k ≡ pair o c = cc in ap (λ (x : Offer × ParamPlace). x.0) same

pub answer_said : (r : Result Said InitFault) (o : Offer) (c : ParamPlace) → cookie_in r ≡ Ok (o, c) → (s : Said) × (r ≡ Ok s) × (s.offer ≡ o)
answer_said (Err f) o c e = absurd (cc)
answer_said (Ok s) o c e = (s, refl, by-cookie o s.offer s.cookie c e)
