use Rattle.std.proofs.Common.{◌≡◌, ◌≤◌, [], false, length, true}
use Rattle.sctp_association.specs.Brought.{AddsOnly}
use Rattle.sctp_association.specs.Lows.{PutsAll}
use Rattle.sctp_association.specs.Most.{most_data}
use Rattle.sctp_association.specs.Runs.{Sends}
use Rattle.sctp_association.specs.Sending.{may_drop}
use Rattle.sctp_association.specs.Telling.{Stays}
use Rattle.sctp_sender.specs.Thresholds.{fell}
use Rattle.sctp_association.proofs.outbound.Outbound.abandon.Given as goal

-- what is late is abandoned, and nothing else changes; nothing is before something may be
abbrev pub invariant-loop : goal.invariant-loop
invariant-loop l = (l.self ≡ record l.initial.self {
  sender = l.self.sender;
  is_skip_due = l.self.is_skip_due;
}) × Sends [] l.initial.self.sender l.self.sender
    × (may_drop l.now l.initial.self.sender ≡ false → l.self ≡ l.initial.self)
    × (most_data l.self ≤ most_data l.initial.self)
    × (l.initial.self.is_skip_due ≡ true → l.self.is_skip_due ≡ true) × Stays l.initial.low l.low
    × (length l.low ≡ length l.initial.low) × PutsAll (λ s. fell s l.initial.self.sender l.self.sender) l.initial.low l.low
    × AddsOnly (λ s. fell s l.initial.self.sender l.self.sender ≡ true) l.initial.low l.low
