-- A small session in which a FORWARD-TSN names an ordered stream that goes on: of two messages the one is read that was not abandoned, and the law on
-- what is read in the end says so. If it said so of the other one, it would be false.
use Rattle.sctp_delivery.proofs.Names.{◌≡◌, zero, suc, true, false, List, [], ◌∷◌, refl, arith, ap, ◌∙◌, ℕ, map, not_both, StandAt, Contains, Write, Binary}
use Rattle.sctp_delivery.proofs.Names.{slice_index_or, ◌==◌}
use Rattle.sctp_util.specs.Serial.{at_or_before, at_or_before16, comes_before, comes_before16, distance, distance16}
use Rattle.sctp_delivery.specs.EveryCall.{AnyCall, RunsAny, makes, single_messages}
use Rattle.sctp_delivery.specs.EveryEnd.{IsLeftOn, IsOrderedReadInTheEnd, abandoned_any, is_unnamed}
use Rattle.sctp_delivery.specs.EveryOrder.{is_unbroken}
use Rattle.sctp_delivery.proofs.Examples.{all_calls, all-run, exhausted, in_the_end, start}

abbrev calls : List AnyCall
calls = map makes all_calls

abbrev session : RunsAny start calls in_the_end
session = all-run

-- a FORWARD-TSN names the stream, which goes on; and the first message alone was abandoned
tells : (is_unnamed 1 in_the_end.made ≡ false) × (is_unbroken calls 1 ≡ true) × (abandoned_any start calls in_the_end session ≡ 0 ∷ [])
unfolding at_or_before at_or_before16 comes_before comes_before16 distance distance16
tells = (refl, refl, refl)

second : IsLeftOn false 1 (0 ∷ []) calls in_the_end 0
second = record { inside = omega arith; on = λ w. refl; kind = refl; left = refl }

-- so the law says that the second message was read
second-read : IsOrderedReadInTheEnd (0 ∷ []) calls in_the_end → (places : List ℕ) × Contains places 0
second-read law = let x = law exhausted in (x.0, x.3 1 tells.1 0 second)

-- if it said so of the first one too, it would be false
first : IsLeftOn false 1 [] calls in_the_end 1
first = record { inside = omega arith; on = λ w. refl; kind = refl; left = refl }

falls : IsOrderedReadInTheEnd [] calls in_the_end → ⊥
unfolding at_or_before at_or_before16 comes_before comes_before16 distance distance16
falls law = let x = law exhausted in one x.0 x.1 (x.3 1 refl 1 first)
  where
    one : (ps : List ℕ) → StandAt in_the_end.written (single_messages in_the_end.receiving.read) ps → Contains ps 1 → ⊥
    one [] s c = let lt = c.1 in absurd (omega (arith, lt))
    one (p ∷ []) s (zero, lt, is) =
        let w : Write = record { stream = 1; payload_type = Binary; bytes = [] } in
        let e = (s.0.1 w).bytes in
        let at = ap (λ k. slice_index_or in_the_end.written k w) is in
        not_both (ap (λ xs. slice_index_or xs 0 0 == 7) (e ∙ ap (λ (w : Write). w.bytes) at))
    one (p ∷ []) s (suc k, lt, is) = absurd (omega (arith, lt))
    one (p ∷ q ∷ ps) s c = absurd s.1
