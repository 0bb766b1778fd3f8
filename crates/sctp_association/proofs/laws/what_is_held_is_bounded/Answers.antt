use Rattle.std.proofs.Common.{◌≡◌, ℕ, ◌≤◌, Option, Some, None, ap, sym, ◌∙◌, subst, arith}
use Rattle.std.proofs.Math.Logic.{∥∥₁_elim}
use Rattle.std.specs.Coded.{le_prop}
use Rattle.std.specs.Prelude.{IfSome}
use Rattle.sctp_association.proofs.laws.what_is_held_is_bounded.Goals as goal
use Rattle.sctp_association.proofs.ReachedBounds.{bytes-held, chunks-held, duplicates-noted, streams-open, tsns-beyond}
use Rattle.sctp_association.specs.declared.config.Config.{Config}
use Rattle.sctp_association.specs.declared.inbound.Inbound.{Inbound}
use Rattle.sctp_association.specs.Held.{CostsLittle, HoldsFewChunks, KeepsFewTsns, NotesFewDuplicates, OfEach, OpensFewStreams}
use Rattle.sctp_association.specs.Reached.{IsReached, limits_of}
use Rattle.sctp_receiver.specs.declared.receiver.limits.Limits.{Limits}
use Rattle.sctp_receiver.specs.Receiver.{Reception}

abbrev within : {X : Type 0} → X → Option X → X
within x None = x
within x (Some y) = y

-- what holds of all that is reached holds of the receiver, by the limits of the config
each : (P : Config → Reception → Type 0) → ((g : Config) (r : Reception) → IsProp (P g r))
    → ((g : Config) (n : ℕ) (r : Reception) → n ≤ g.inbound_streams → IsReached (limits_of g) n r → P g r) → OfEach P
each P prop holds a = by a.inbound a.limited
  where
    own : Limits
    own = limits_of a.config

    by : (o : Option Inbound) → IfSome o (λ i. (i.receiver.limits ≡ Some own) × (i.streams ≤ a.config.inbound_streams))
        → IfSome o (λ i. P a.config i.receiver)
    by None same = tt
    by (Some i) same = ∥∥₁_elim i.limited (prop a.config i.receiver) (λ h.
        holds a.config i.streams i.receiver same.1
        (subst (λ l. IsReached l i.streams i.receiver) (ap (within own) (sym h.own ∙ same.0)) h.reached))

pub returns : goal.returns
returns c = record {
  chunks = each HoldsFewChunks (λ g r. le_prop) (λ g n r few h. chunks-held (limits_of g) n r h);
  bytes = each CostsLittle (λ g r. le_prop) (λ g n r few h. bytes-held (limits_of g) n r h);
  beyond = each KeepsFewTsns (λ g r. le_prop) (λ g n r few h. tsns-beyond (limits_of g) n r h);
  duplicates = each NotesFewDuplicates (λ g r. le_prop) (λ g n r few h. duplicates-noted (limits_of g) n r h);
  streams = each OpensFewStreams (λ g r. le_prop) (λ g n r few h. omega (arith, few, streams-open (limits_of g) n r h));
}
