-- Which streams have a low buffered amount, as messages are dropped.
use Rattle.std.specs.Prelude.{◌≡◌, ℕ, ◌<◌, ◌==◌, ◌&&◌, ◌||◌, nat_lt, Bool, true, List, length}
use Rattle.std.specs.List.{list_any}
use Rattle.sctp_association.specs.StreamSet.{is_in}
use Rattle.sctp_sender.specs.Thresholds.{tells_message_low}
use Rattle.sctp_sender.specs.declared.sender.Dropped.{Dropped}
use Rattle.sctp_sender.specs.declared.sender.Dropped.TheVariants.{Abandoned, Expired}

-- the answer of `drop_expired` says that the amount of the stream fell to its low threshold
abbrev pub tells_drop_low : ℕ → Dropped → Bool
tells_drop_low s (Expired run) = run.stream == s && run.is_low
tells_drop_low s (Abandoned gone) = list_any (tells_message_low s) gone.items

-- each stream that passes the test is in the set afterwards, if the set has room for it
abbrev pub PutsAll : (test : ℕ → Bool) → (old new : List Bool) → Type 0
PutsAll test old new = (s : ℕ) → test s ≡ true → s < length old → is_in s new ≡ true

-- exactly the streams that pass the test are added, where the set has room for them
abbrev pub AddsWhere : (test : ℕ → Bool) → (old new : List Bool) → Type 0
AddsWhere test old new =
    (s : ℕ) → is_in s new ≡ (is_in s old || (test s && nat_lt s (length old)))
