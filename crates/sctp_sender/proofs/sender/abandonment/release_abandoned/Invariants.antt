use Rattle.sctp_sender.proofs.Names.{◌≡◌, ◌++◌, take, drop, after_leaving, with_message_lows}
use Rattle.sctp_sender.proofs.sender.abandonment.release_abandoned.Given as goal

abbrev pub invariant-loop-one : goal.invariant-loop-one
invariant-loop-one l = record {
  less : after_leaving l.fn.gone.items l.initial.streams ≡ after_leaving (drop l.one-index l.one-items) l.streams;
  lows : with_message_lows l.fn.gone.items l.initial.streams ≡ take l.one-index l.one-items ++ with_message_lows (drop l.one-index l.one-items) l.streams;
}
