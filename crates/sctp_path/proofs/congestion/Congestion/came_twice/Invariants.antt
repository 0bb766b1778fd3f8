use Rattle.std.proofs.Common.{◌≡◌, drop}
use Rattle.sctp_path.specs.Congestion.{after_repeats}
use Rattle.sctp_path.proofs.congestion.Congestion.came_twice.Given as goal

-- what is left of the TSNs leads from here to what all of them lead to
abbrev pub invariant-loop-tsn : goal.invariant-loop-tsn
invariant-loop-tsn l = after_repeats (drop l.tsn-index l.tsns) l.self ≡ after_repeats l.tsns l.initial.self
