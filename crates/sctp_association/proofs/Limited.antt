-- From `new` on an association goes by the limits of its Config.
use Rattle.std.proofs.Common.{◌≡◌, ◌≤◌, ℕ, suc, ◌+◌, List, ap, sym, subst, ◌∙◌}
use Rattle.std.specs.Prelude.{max}
use Rattle.sctp_association.proofs.Known.{within_by}
use Rattle.sctp_association.proofs.Lasting.{few-left}
use Rattle.sctp_association.specs.Beginnings.{ArrivesAsOffered, BeginsToAsk, IsKeptButMtu, KeepsPeer}
use Rattle.sctp_association.specs.Lasting.{StaysWithin, expiries_left}
use Rattle.sctp_association.specs.Limited.{EachBeginsLimited, EachDeedKeepsLimits, EachQuietKeepsLimits, FewAreLeftBy, HasLimits}
use Rattle.sctp_association.specs.Lives.{asks, handles, resizes, stays, writes}
use Rattle.sctp_association.specs.declared.association.Association.{Association}
use Rattle.sctp_association.specs.declared.config.Config.{Config}
use Rattle.sctp_handshake.specs.declared.machine.Limits.{Limits}
use Rattle.sctp_handshake.specs.declared.machine.Machine.{Machine}
use Rattle.sctp_path.specs.Rto.{Timeout}
use Rattle.sctp_path.specs.declared.failures.Failures.{Failures}

-- the config is the same but for the MTU
abbrev But : Config → Association → Type 0
But c a = a.config ≡ record c { mtu = a.config.mtu }

but-same : (c : Config) (a b : Association) → b.config ≡ a.config → But c a → But c b
but-same c a b e but = e ∙ but ∙ ap (λ (n : ℕ). record c { mtu = n }) (sym (ap (λ (k : Config). k.mtu) e))

but-mtu : (c : Config) (a b : Association) → b.config ≡ record a.config { mtu = b.config.mtu } → But c a → But c b
but-mtu c a b e but = e ∙ ap (λ (k : Config). record k { mtu = b.config.mtu }) but

module _ (c : Config) (a b : Association) (h : HasLimits c a) where
  limited : But c b → b.machine.limits ≡ a.machine.limits → StaysWithin a b → HasLimits c b
  limited but machine within =
      record {
        config = but;
        machine = machine ∙ h.machine;
        failures = within.0 (h.failures ∙ sym (ap (λ (k : Config). k.max_retrans) h.config)) ∙ ap (λ (k : Config). k.max_retrans) but;
        rto = within.1 (h.rto ∙ sym (ap (λ (k : Config). k.rto) h.config)) ∙ ap (λ (k : Config). k.rto) but;
      }

-- ## The law

pub each-begins : EachBeginsLimited
each-begins c key tsn a made begun = record {
  config = made.config ∙ ap (λ (n : ℕ). record c { mtu = n }) (sym (ap (λ (k : Config). k.mtu) made.config));
  machine = begun.limits;
  failures = ap (λ (f : Failures). f.most) begun.failures;
  rto = ap (λ (t : Timeout). t.limits) begun.rto;
}

kept : (c : Config) (a b : Association) → KeepsPeer a b → HasLimits c a → HasLimits c b
kept c a b k h = limited c a b h (but-same c a b k.config h.config) k.machine.limits k.sending

asked : (c : Config) (a b : Association) → BeginsToAsk a b → HasLimits c a → HasLimits c b
asked c a b k h = limited c a b h (but-same c a b k.config h.config) (ap (λ (m : Machine). m.limits) k.machine) k.sending

resized : (c : Config) (a b : Association) → IsKeptButMtu a b → HasLimits c a → HasLimits c b
resized c a b k h = limited c a b h (but-mtu c a b k.config h.config) (ap (λ (m : Machine). m.limits) k.machine) k.sending

came : (c : Config) (d : List ℕ) (a b : Association) → ArrivesAsOffered d a b → HasLimits c a → HasLimits c b
came c d a b f h = limited c a b h (but-same c a b f.config h.config) f.machine f.sending

pub each-deed : EachDeedKeepsLimits
each-deed c stays a b k h = kept c a b k h
each-deed c asks a b k h = asked c a b k.0 h
each-deed c resizes a b k h = resized c a b k h
each-deed c (writes d) a b k h = kept c a b k.0 h
each-deed c (handles d) a b f h = came c d a b f h

pub each-quiet : EachQuietKeepsLimits
each-quiet c a b config machine failures rto h =
    limited c a b h (but-same c a b config h.config) (ap (λ (m : Machine). m.limits) machine)
    (within_by a b config (ap (λ (f : Failures). f.most) failures) (ap (λ (t : Timeout). t.limits) rto))

pub few-by : FewAreLeftBy
few-by c a h =
    let most = subst (λ (n : ℕ). expiries_left a ≤ suc (n + max a.machine.limits.max_init_retransmits a.machine.limits.association_max_retrans))
    h.failures (few-left a) in
    subst (λ (l : Limits). expiries_left a ≤ suc (c.max_retrans + max l.max_init_retransmits l.association_max_retrans)) h.machine most
