-- What the receiver of an association can be: what calls of it lead to, whatever a peer sends.
use Rattle.std.specs.Prelude.{◌≡◌, ⊤, ℕ, ◌^◌, ◌<◌, ◌≤◌, List, [], ◌∷◌, length, Some}
use Rattle.sctp_association.specs.declared.config.Config.{Config}
use Rattle.sctp_receiver.specs.declared.receiver.limits.Limits.{Limits}
use Rattle.sctp_receiver.specs.Receiver.{Reception}
use Rattle.sctp_receiver.specs.ReceiverRuns.{Call, RunsUnrefused, Stand, at_start, opens, takes}

-- those of a config
abbrev pub limits_of : Config → Limits
limits_of c = record { window = c.window; reach = c.reach }

-- the most bytes of user data of a DATA chunk: its length is a u16, and 16 bytes stand before them (RFC 9260 3.3.1)
abbrev pub most_user_data : ℕ
most_user_data = 65519

-- a chunk that is taken has no more, and a stream that is opened is one of so many
abbrev pub IsUsual : ℕ → Call → Type 0
IsUsual streams (takes c arrival) = length c.user_data ≤ most_user_data
IsUsual streams (opens stream) = stream < streams
IsUsual streams _ = ⊤

abbrev pub AreUsual : ℕ → List Call → Type 0
AreUsual streams [] = ⊤
AreUsual streams (c ∷ cs) = IsUsual streams c × AreUsual streams cs

-- such calls, of which none was refused, led a new receiver with these limits to it
pub record IsReached (limits : Limits) (streams : ℕ) (r : Reception) : Type 0 where
  pub tsn : ℕ
  pub max : ℕ
  pub calls : List Call
  pub stand : Stand
  pub usual : AreUsual streams calls
  pub run : RunsUnrefused (at_start tsn max (Some limits)) calls stand
  pub there : stand.receiver ≡ r
  pub usize : limits.window < 2 ^ 64

-- so by the limits that it has
pub record IsLimited (streams : ℕ) (r : Reception) : Type 0 where
  pub limits : Limits
  pub own : r.limits ≡ Some limits
  pub reached : IsReached limits streams r
