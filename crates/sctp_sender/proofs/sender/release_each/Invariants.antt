use Rattle.sctp_sender.proofs.Names.{◌≡◌, ◌++◌, take, drop, after_releases, with_lows}
use Rattle.sctp_sender.proofs.sender.release_each.Given as goal

abbrev pub invariant-loop-one : goal.invariant-loop-one
invariant-loop-one l = record {
  less : after_releases l.fn.gone.items l.initial.streams ≡ after_releases (drop l.one-index l.one-items) l.streams;
  lows : with_lows l.fn.gone.items l.initial.streams ≡ take l.one-index l.one-items ++ with_lows (drop l.one-index l.one-items) l.streams;
}
