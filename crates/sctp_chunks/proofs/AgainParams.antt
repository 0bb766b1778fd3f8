-- Parameters that are written read back.
use Rattle.std.proofs.Common.{◌≡◌, ℕ, ◌+◌, true, false, List, [], ◌∷◌, ◌++◌, length, replicate, refl, sym, ap, subst, ◌∙◌, arith, append_assoc}
use Rattle.std.specs.Prelude.{Option, Some, None}
use Rattle.std.proofs.lemmas.List.{append-nil, length-replicate}
use Rattle.std.proofs.Math.ListN.{drop_of_length-le}
use Rattle.sctp_util.specs.Padding.{padding_of}
use Rattle.sctp_util.specs.Walk.{Walks}
use Rattle.sctp_params.specs.ParamFraming.{param_declared_length, after_param}
use Rattle.sctp_params.specs.Param.{Parameter, heartbeat_info, ReadsBack, param_encoding, param_value_of}
use Rattle.sctp_params.specs.ParamKind.{IsReadAs, ReadsParam}
use Rattle.sctp_params.proofs.ParamLengths.{length_param_encoding}
use Rattle.sctp_params.proofs.ParamAgain.{declared_param_encoding, after_param_encoding}
use Rattle.sctp_chunks.specs.Params.{ReadsParams, ReadBack, padded_param, params_encoding}
use Rattle.sctp_chunks.specs.Heartbeat.{ReadsHeartbeat, IsReadHeartbeat}
use Rattle.sctp_chunks.specs.Reconfig.{ReadsPair, PairReadsBack, pair_encoding}

-- a parameter's encoding reads back where nothing follows it
alone : (p : Parameter) → ReadsBack IsReadAs p → ReadsParam (param_encoding p) p
alone p back = let P : List ℕ → Type 0 = λ b. ReadsParam b p in subst P (append-nil (param_encoding p)) (back.reads [])

-- and nothing is left behind it
after_alone : (p : Parameter) → ReadsBack IsReadAs p → after_param (param_encoding p) ≡ []
unfolding after_param
after_alone p back =
    let n : param_declared_length (param_encoding p) ≡ 4 + length (param_value_of p) =
    ap param_declared_length (sym (append-nil (param_encoding p))) ∙ declared_param_encoding p [] back.has_encoding in
    drop_of_length-le (param_encoding p) (omega (arith, n, length_param_encoding p))

abbrev zeros : Parameter → List ℕ
zeros p = replicate (padding_of (length (param_encoding p))) 0

-- with padding, what follows the padding is left
after_padded : (p : Parameter) (rest : List ℕ) → ReadsBack IsReadAs p → after_param (param_encoding p ++ (zeros p ++ rest)) ≡ rest
after_padded p rest back = after_param_encoding p (zeros p) rest back.has_encoding (rw (length-replicate, length_param_encoding p) refl)

walk_again : (ps : List Parameter) → ReadBack ps → Walks ReadsParam after_param (params_encoding false ps) ps []
unfolding Walks params_encoding padded_param
walk_again [] back = refl
walk_again (p ∷ []) back = (alone p back.0, after_alone p back.0)
walk_again (p ∷ q ∷ ps) back =
    let rest : List ℕ = params_encoding false (q ∷ ps) in
    let e : (param_encoding p ++ zeros p) ++ rest ≡ param_encoding p ++ (zeros p ++ rest) = append_assoc (param_encoding p) (zeros p) rest in
    let others = walk_again (q ∷ ps) back.1 in
    let P : List ℕ → Type 0 = λ b. ReadsParam b p × Walks ReadsParam after_param (after_param b) (q ∷ ps) [] in
    let Q : List ℕ → Type 0 = λ b. Walks ReadsParam after_param b (q ∷ ps) [] in
    subst P (sym e) (back.0.reads (zeros p ++ rest), subst Q (sym (after_padded p rest back.0)) others)

pub params_again : (ps : List Parameter) → ReadBack ps → ReadsParams (params_encoding false ps) ps
params_again ps back = record { rest = []; walk = walk_again ps back; ended = omega arith }

one_again : (p : Parameter) → ReadsBack IsReadAs p → ReadsParam (params_encoding true (p ∷ [])) p
unfolding params_encoding padded_param
one_again p back = alone p back

pub heartbeat_again : (ps : List Parameter) → IsReadHeartbeat ps → ReadsHeartbeat (params_encoding true ps) ps
heartbeat_again ps h = record {
  info = h.info;
  one = h.one;
  reads = let P : List Parameter → Type 0 = λ qs. ReadsParam (params_encoding true qs) (heartbeat_info h.info) in
      subst P (sym h.one) (one_again (heartbeat_info h.info) h.again);
}

pub pair_again : (a b : Option Parameter) → PairReadsBack a b → ReadsPair (pair_encoding a b) a b
unfolding padded_param
pair_again None b back = absurd back
pair_again (Some a) None back = (alone a back, ap length (after_alone a back))
pair_again (Some a) (Some b) back =
    let e : (param_encoding a ++ zeros a) ++ param_encoding b ≡ param_encoding a ++ (zeros a ++ param_encoding b) = append_assoc (param_encoding a) (zeros a)
    (param_encoding b) in
    let P : List ℕ → Type 0 = λ x. ReadsParam x a × ReadsParam (after_param x) b in
    let Q : List ℕ → Type 0 = λ x. ReadsParam x b in
    subst P (sym e) (back.0.reads (zeros a ++ param_encoding b), subst Q (sym (after_padded a (param_encoding b) back.0)) (alone b back.1))
