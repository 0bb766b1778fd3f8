-- An association that goes on alone: its timers are looked at, what leaves is lost, and nothing of its peer comes.
use Rattle.std.specs.Prelude.{◌≡◌, ℕ, suc, ◌+◌, ◌-◌, ◌^◌, ◌<◌, ◌≤◌, max, Bool, true, List, [], ◌∷◌}
use Rattle.sctp_association.specs.declared.association.Association.{Association}
use Rattle.sctp_association.specs.declared.config.Config.{Config}
use Rattle.sctp_association.specs.Lasting.{Expires, expires, expiries, expiries_left}
use Rattle.sctp_association.specs.Limited.{HasLimits}

-- at these moments, one after another: of each, whether T3-rtx or the timer of the state expired then
abbrev pub LastsAt : List ℕ → List Bool → (old new : Association) → Type 0
LastsAt [] [] old new = new ≡ old
LastsAt [] (e ∷ es) old new = ⊥
LastsAt (now ∷ moments) [] old new = ⊥
LastsAt (now ∷ moments) (e ∷ es) old new =
    (e ≡ expires now old)
    × ((mid : Association) × (Expires e old mid × LastsAt moments es mid new))

-- Where as many timers expired as were left the association is over; so it is after one more than Association.Max.Retrans of its config twice, or than
-- that and Max.Init.Retransmits
pub record GoesOnAlone (moments : List ℕ) (old new : Association) : Type 0 where
  pub expired : List Bool
  pub lasts : LastsAt moments expired old new
  pub ends : old.outbound.failures.most < 2 ^ 32 - 1 → expiries_left old ≤ expiries expired
      → new.is_over ≡ true
  pub ends_by : (c : Config) → HasLimits c old → c.max_retrans < 2 ^ 32 - 1
      → suc (c.max_retrans + max c.max_init_retrans c.max_retrans) ≤ expiries expired
      → new.is_over ≡ true
