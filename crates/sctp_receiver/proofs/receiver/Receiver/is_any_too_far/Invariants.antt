use Rattle.sctp_receiver.proofs.Names.{◌≡◌, ◌+◌, ◌≤◌, drop, list_any, stream_of}
use Rattle.sctp_receiver.specs.Ssns.{is_named_too_far}
use Rattle.sctp_receiver.proofs.receiver.Receiver.is_any_too_far.Given as goal

abbrev pub invariant-loop-place : goal.invariant-loop-place
invariant-loop-place l = record {
  rest : list_any (λ n. is_named_too_far n (stream_of n.identifier l.self)) (drop l.place l.names)
      ≡ list_any (λ n. is_named_too_far n (stream_of n.identifier l.self)) l.names;
  not_back : l.initial.skips ≤ l.skips;
  walk : l.skips ≤ l.initial.skips + l.place;
}
