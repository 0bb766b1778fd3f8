use Rattle.std.proofs.Common.{◌≡◌, ℕ, ◌<◌, ◌≤◌, length, drop, true, get_or}
use Rattle.std.specs.BTreeMap.{values}
use Rattle.sctp_follow.specs.Interleave.{fits}
use Rattle.sctp_follow.specs.declared.interleave.Fragment.{Fragment}
use Rattle.sctp_follow.proofs.lanes.Part.fits_each.Given as goal

abbrev pub invariant-loop-fragment : goal.invariant-loop-fragment
invariant-loop-fragment l = record {
  within : l.place ≤ length (values l.self.fragments);
  rest : l.fragment-iterator ≡ drop l.place (values l.self.fragments);
  fit : (k : ℕ) (d : Fragment) → k < l.place → fits (get_or (values l.self.fragments) k d) k l.count ≡ true;
}
