-- The limits of its Config: from `new` on an association goes by them, whatever calls it has (RFC 9260 4, 6.3.1, 8.1, 16).
use Rattle.std.specs.Prelude.{◌≡◌, ℕ, suc, ◌+◌, ◌≤◌, max, List}
use Rattle.sctp_association.specs.Beginnings.{IsMadeOf}
use Rattle.sctp_association.specs.Lasting.{BeginsWithin, expiries_left, limits_by}
use Rattle.sctp_association.specs.Lives.{Deed, DoesDeed}
use Rattle.sctp_association.specs.declared.association.Association.{Association}
use Rattle.sctp_association.specs.declared.config.Config.{Config}

-- Max.Init.Retransmits, Association.Max.Retrans, RTO.Min and RTO.Max of the config; `set_mtu` alone changes what is kept of it
pub record HasLimits (c : Config) (a : Association) : Type 0 where
  pub config : a.config ≡ record c { mtu = a.config.mtu }
  pub machine : a.machine.limits ≡ limits_by c
  pub failures : a.outbound.failures.most ≡ c.max_retrans
  pub rto : a.outbound.rto.limits ≡ c.rto

-- ## The law

-- what `new` answers
abbrev pub EachBeginsLimited : Type 0
EachBeginsLimited =
    (c : Config) (key : List ℕ) (tsn : ℕ) (a : Association) → IsMadeOf c key tsn a
    → BeginsWithin c a → HasLimits c a

-- whatever a call does: `handle_datagram` with any datagram, `connect`, `set_mtu`, `poll_transmit`, and each that knows no more of the peer
abbrev pub EachDeedKeepsLimits : Type 0
EachDeedKeepsLimits =
    (c : Config) (deed : Deed) (a b : Association) → DoesDeed deed a b → HasLimits c a
    → HasLimits c b

-- a call that leaves the machine, the failures and the RTO as they are, as `write`, `read` and `poll` do
abbrev pub EachQuietKeepsLimits : Type 0
EachQuietKeepsLimits =
    (c : Config) (a b : Association) → b.config ≡ a.config → b.machine ≡ a.machine
    → b.outbound.failures ≡ a.outbound.failures → b.outbound.rto ≡ a.outbound.rto
    → HasLimits c a → HasLimits c b

-- no more expiries are left than by Association.Max.Retrans of the config twice, or by it and Max.Init.Retransmits, and one
abbrev pub FewAreLeftBy : Type 0
FewAreLeftBy =
    (c : Config) (a : Association) → HasLimits c a
    → expiries_left a ≤ suc (c.max_retrans + max c.max_init_retrans c.max_retrans)
