-- The names of a skip, one after another: an ordered skip to the SSN of each comes to one skip to the last.
use Rattle.sctp_model.proofs.Names.{◌≡◌, ℕ, ◌<◌, ◌≤◌, ◌^◌, ◌%◌, List, [], ◌∷◌, length, map, Some, refl, sym, ◌∙◌, inl, inr, arith, ◌⊎◌, LinkRecord}
use Rattle.sctp_model.proofs.Names.{StreamRecord, stream_at, index_of, ssn_of, cumulative, IsSpan, Valid, held_after_ordered_skips, on_stream, end_named}
use Rattle.sctp_model.proofs.Names.{nat_tests}
use Rattle.sctp_model.specs.refinement.Holds.{reassembly_of}
use Rattle.sctp_model.proofs.refinement.reading.Line
use Rattle.sctp_model.proofs.refinement.skipping.SkipStep.{with_skip, once-is}
use Rattle.sctp_model.proofs.refinement.skipping.SkipSpans.{IsLast, last-named, none-named, named-last, gone_forward, gone-last}

-- the SSN of each is its index
pub ssns-are : (w : LinkRecord) (s : ℕ) (names : List ℕ) → map (ssn_of w) (on_stream w s names) ≡ map (λ n. index_of w n % 2 ^ 16) (on_stream w s names)
ssns-are w s [] = refl
ssns-are w s (n ∷ ns) = grind (arith, nat_tests, Line.ssn_on, ssns-are w s ns)

-- one skip after another, against one to the last
pub skips-in-turn : (w : LinkRecord) (s upto : ℕ) (names : List ℕ) (r : StreamRecord) → Valid w → upto < length w.slots → cumulative w ≤ upto
    → stream_at w s ≡ Some r → IsSpan w s (map (index_of w) (on_stream w s names)) → IsSpan (with_skip w upto names) s (map (index_of w) (on_stream w s names))
    → held_after_ordered_skips (map (λ n. index_of w n % 2 ^ 16) (on_stream w s names)) (reassembly_of w s) ≡ gone_forward (end_named w s names)
    (reassembly_of w s)
skips-in-turn w s upto names r valid lt counts open' before after' = cc (ssns-are w s names, step (last-named w s 0 names))
  where
    step : (end_named w s names ≡ 0) ⊎ IsLast w s (end_named w s names) (on_stream w s names)
        → held_after_ordered_skips (map (ssn_of w) (on_stream w s names)) (reassembly_of w s) ≡ gone_forward (end_named w s names) (reassembly_of w s)
    step (inl z) = cc (none-named w (on_stream w s names) z, z)
    step (inr last) =
        once-is w s upto names r valid lt counts open' before after' last.number last.on last.among (named-last w s names last)
        ∙ sym (gone-last w s (end_named w s names) (on_stream w s names) (reassembly_of w s) last)
