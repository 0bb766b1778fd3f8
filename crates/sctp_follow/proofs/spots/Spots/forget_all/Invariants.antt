use Rattle.std.proofs.Common.{◌≡◌, ℕ, List, ◌++◌, None, if◌then◌else◌}
use Rattle.std.specs.BTreeMap.{values}
use Rattle.sctp_follow.specs.Spots.{at, is_of}
use Rattle.sctp_follow.specs.declared.interleave.Fragment.{Fragment}
use Rattle.sctp_follow.proofs.spots.Spots.forget_all.Given as goal

abbrev pub invariant-loop-fragment : goal.invariant-loop-fragment
invariant-loop-fragment l =
    (seen : List Fragment) × (values l.fragments ≡ seen ++ l.fragment-iterator)
    × ((t : ℕ) → at l.self t ≡ (if is_of seen t then None else at l.initial.self t))
