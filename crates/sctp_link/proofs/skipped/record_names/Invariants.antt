use Rattle.sctp_link.proofs.Names.{◌≡◌, map, drop, standing_named}
use Rattle.sctp_link.proofs.skipped.record_names.Given as goal

abbrev pub invariant-loop-number : goal.invariant-loop-number
invariant-loop-number l =
    map (standing_named l.messages (drop l.number-index l.names)) l.progress ≡ map (standing_named l.messages l.names) l.initial.progress
