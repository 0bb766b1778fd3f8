-- Parameters as they are written.
use Rattle.std.proofs.Common.{◌≡◌, ℕ, zero, suc, ◌+◌, ◌<◌, ◌≤◌, Bool, true, false, eqb, List, [], ◌∷◌, ◌++◌, length, get_or, take, drop, replicate, refl, sym}
use Rattle.std.proofs.Common.{ap, subst, ◌∙◌, arith, length-append, length-drop, add-one, eq-eqb}
use Rattle.std.specs.Prelude.{map, ◌||◌, Option, Some, None, option_map}
use Rattle.std.proofs.lemmas.List.{append-nil, length-replicate}
use Rattle.std.proofs.lemmas.Bool.{eqb-true}
use Rattle.std.proofs.Math.ListN.{drop_of_length-le}
use Rattle.sctp_util.specs.Padding.{padded_length}
use Rattle.sctp_util.specs.Walk.{Walks}
use Rattle.sctp_params.specs.declared.param.param_kind.ParamKind.{ParamKind}
use Rattle.sctp_params.specs.Param.{Parameter, heartbeat_info, param_value_of, param_encoding}
use Rattle.sctp_params.specs.ParamKind.{IsReadAs, ReadsParam, parameter_of}
use Rattle.sctp_params.specs.ParamFraming.{param_declared_length, after_param}
use Rattle.sctp_params.proofs.ParamLengths.{length_param_encoding, param_no_longer}
use Rattle.sctp_chunks.specs.Params.{padded_param, params_encoding, gap}
use Rattle.sctp_chunks.specs.Heartbeat.{ReadsHeartbeat, IsOneInfo}
use Rattle.sctp_chunks.specs.Reconfig.{ReadsPair, pair_encoding}
use Rattle.sctp_chunks.specs.Wire.{HasFirst}

pub length_padded_param : (bare : Bool) (p : Parameter)
    → length (padded_param bare p) ≡ 4 + length (param_value_of p) + gap bare (4 + length (param_value_of p))
unfolding padded_param
length_padded_param true p = omega (arith, length_param_encoding p)
length_padded_param false p = simp (length-append, length-replicate, length_param_encoding) refl

pub padded_is : (bare : Bool) (p : Parameter) → padded_param bare p ≡ param_encoding p ++ replicate (gap bare (length (param_encoding p))) 0
unfolding padded_param
padded_is true p = sym (append-nil _)
padded_is false p = refl

-- ---- the parameters from a place on: the one there, and those after it

from_bare : (ps : List ParamKind) (i : ℕ) (d : ParamKind) → i < length ps
    → params_encoding true (map parameter_of (drop i ps))
    ≡ padded_param true (parameter_of (get_or ps i d)) ++ params_encoding true (map parameter_of (drop (suc i) ps))
unfolding params_encoding
from_bare [] i d lt = absurd (omega arith)
from_bare (p ∷ []) zero d lt = sym (append-nil _)
from_bare (p ∷ q ∷ ps) zero d lt = refl
from_bare (p ∷ ps) (suc i) d lt = from_bare ps i d (omega arith)

from_padded : (ps : List ParamKind) (i : ℕ) (d : ParamKind) (is_last : Bool) → i < length ps → (is_last ≡ true → suc i ≡ length ps)
    → (suc i ≡ length ps → is_last ≡ true) → params_encoding false (map parameter_of (drop i ps))
    ≡ padded_param is_last (parameter_of (get_or ps i d)) ++ params_encoding false (map parameter_of (drop (suc i) ps))
unfolding params_encoding
from_padded [] i d is_last lt a b = absurd (omega arith)
from_padded (p ∷ []) zero d true lt a b = sym (append-nil _)
from_padded (p ∷ []) zero d false lt a b = absurd (cc (b refl))
from_padded (p ∷ q ∷ ps) zero d true lt a b = absurd (omega (arith, a refl))
from_padded (p ∷ q ∷ ps) zero d false lt a b = refl
from_padded (p ∷ ps) (suc i) d is_last lt a b = from_padded ps i d is_last (omega arith) (λ e. omega (arith, a e)) (λ e. b (ap suc e))

pub params_encoding_from : (bare : Bool) (ps : List ParamKind) (i : ℕ) (d : ParamKind) → i < length ps
    → params_encoding bare (map parameter_of (drop i ps)) ≡ padded_param (bare || eqb (i + 1) (length ps))
    (parameter_of (get_or ps i d)) ++ params_encoding bare (map parameter_of (drop (i + 1) ps))
params_encoding_from true ps i d lt = rw add-one (from_bare ps i d lt)
params_encoding_from false ps i d lt =
    let last : Bool = eqb (i + 1) (length ps) in
    rw add-one (from_padded ps i d (eqb (suc i) (length ps)) lt (λ t. eqb-true (suc i) (length ps) t) (λ h. eq-eqb (suc i) (length ps) h))

-- the same, as what is left shrinks
pub params_length_from : (bare : Bool) (ps : List ParamKind) (i : ℕ) (d : ParamKind) → i < length ps
    → length (params_encoding bare (map parameter_of (drop i ps)))
    ≡ length (padded_param (bare || eqb (i + 1) (length ps)) (parameter_of (get_or ps i d)))
    + length (params_encoding bare (map parameter_of (drop (i + 1) ps)))
params_length_from bare ps i d lt = ap length (params_encoding_from bare ps i d lt)
    ∙ length-append (padded_param (bare || eqb (i + 1) (length ps)) (parameter_of (get_or ps i d))) _

pub no_params_left : (bare : Bool) (ps : List ParamKind) (i : ℕ) → length ps ≤ i → params_encoding bare (map parameter_of (drop i ps)) ≡ []
unfolding params_encoding
no_params_left bare ps i le = rw (drop_of_length-le ps le) refl

pub zeros : (n : ℕ) → n ≤ 4 → take {A = ℕ} n (0 ∷ 0 ∷ 0 ∷ 0 ∷ []) ≡ replicate n 0
zeros zero le = refl
zeros (suc zero) le = refl
zeros (suc (suc zero)) le = refl
zeros (suc (suc (suc zero))) le = refl
zeros (suc (suc (suc (suc zero)))) le = refl
zeros (suc (suc (suc (suc (suc n))))) le = absurd (omega arith)

pub gap_small : (b : Bool) (n : ℕ) → gap b n ≤ 4
gap_small true n = omega arith
gap_small false n = omega arith

-- parameters that were read are written in no more room
pub params_encoding_short : (bare : Bool) (bytes : List ℕ) (ps : List Parameter) (rest : List ℕ) → Walks ReadsParam after_param bytes ps rest
    → length (params_encoding bare ps) ≤ length bytes
unfolding Walks params_encoding after_param
params_encoding_short bare bytes [] rest w = omega arith
params_encoding_short bare bytes (p ∷ []) rest w = omega (arith, length_padded_param true p, param_no_longer IsReadAs bytes p w.0, w.0.is_param.within)
params_encoding_short true bytes (p ∷ q ∷ ps) rest w =
    let next = params_encoding_short true (after_param bytes) (q ∷ ps) rest w.1 in
    let more : 4 ≤ length (after_param bytes) = w.1.0.is_param.headed in
    let cut = length-drop (padded_length (param_declared_length bytes)) bytes in
    simp length-append (omega (arith, next, more, cut, length_padded_param true p, param_no_longer IsReadAs bytes p w.0))
params_encoding_short false bytes (p ∷ q ∷ ps) rest w =
    let next = params_encoding_short false (after_param bytes) (q ∷ ps) rest w.1 in
    let more : 4 ≤ length (after_param bytes) = w.1.0.is_param.headed in
    let cut = length-drop (padded_length (param_declared_length bytes)) bytes in
    simp length-append (omega (arith, next, more, cut, length_padded_param false p, param_no_longer IsReadAs bytes p w.0))

one_step : (value : List ℕ) (p : Parameter) → ReadsParam value p → Walks ReadsParam after_param value (p ∷ []) (after_param value)
unfolding Walks
one_step value p r = (r, refl)

-- the one parameter of a HEARTBEAT that was read is written in no more room
pub heartbeat_short : (value : List ℕ) (ps : List Parameter) → ReadsHeartbeat value ps → length (params_encoding true ps) ≤ length value
heartbeat_short value ps r =
    let P : List Parameter → Type 0 = λ qs. length (params_encoding true qs) ≤ length value in
    subst P (sym r.one) (params_encoding_short true value (heartbeat_info r.info ∷ []) (after_param value) (one_step value (heartbeat_info r.info) r.reads))

pub one_info : (value : List ℕ) (ps : List Parameter) → ReadsHeartbeat value ps → IsOneInfo ps
one_info value ps r = subst IsOneInfo (sym r.one) refl

-- the parameters of a RECONFIG that was read are written in no more room
pub pair_short : (value : List ℕ) (a b : Option Parameter) → ReadsPair value a b → length (pair_encoding a b) ≤ length value
unfolding Walks params_encoding
pair_short value None b r = absurd r
pair_short value (Some a) None r = params_encoding_short false value (a ∷ []) (after_param value) (r.0, refl)
pair_short value (Some a) (Some b) r = params_encoding_short false value (a ∷ b ∷ []) (after_param (after_param value)) (r.0, (r.1, refl))

-- how long the parameters of a RECONFIG are as they are written
pub length_both : (x y : Option ParamKind) (a b : ParamKind) → x ≡ Some a → y ≡ Some b
    → length (pair_encoding (option_map parameter_of x) (option_map parameter_of y))
    ≡ length (padded_param false (parameter_of a)) + length (padded_param true (parameter_of b))
length_both x y a b e f = rw (e, f) (length-append (padded_param false (parameter_of a)) (padded_param true (parameter_of b)))

pub both_encoding : (x y : Option ParamKind) (a b : ParamKind) → x ≡ Some a → y ≡ Some b
    → pair_encoding (option_map parameter_of x) (option_map parameter_of y) ≡ padded_param false (parameter_of a) ++ padded_param true (parameter_of b)
both_encoding x y a b e f = rw (e, f) refl

pub only_encoding : (x y : Option ParamKind) (a : ParamKind) → x ≡ Some a → y ≡ None
    → pair_encoding (option_map parameter_of x) (option_map parameter_of y) ≡ padded_param true (parameter_of a)
only_encoding x y a e f = rw (e, f) refl

pub pair_first : (value : List ℕ) (a b : Option Parameter) → ReadsPair value a b → HasFirst a
pair_first value None b r = absurd r
pair_first value (Some a) b r = tt
