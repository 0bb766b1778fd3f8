-- TSNs that came again, and the SACKs that tell them, after each run of calls of a receiver (RFC 9260 6.2).
use Rattle.std.specs.Prelude.{◌≡◌, ℕ, ◌-◌, ◌/◌, min, Bool, true, nat_lt, if◌then◌else◌, List, [], ◌∷◌, ◌++◌, length, Option, Some, None}
use Rattle.sctp_receiver.specs.declared.receiver.arrival.Arrival.TheVariants.{Repeat}
use Rattle.sctp_receiver.specs.declared.receiver.limits.Limits.{Limits}
use Rattle.sctp_receiver.specs.Beside.{AfterEachRunBeside}
use Rattle.sctp_receiver.specs.Credit.{next_sack}
use Rattle.sctp_receiver.specs.Receiver.{Reception, filter_of}
use Rattle.sctp_receiver.specs.ReceiverRuns.{Call, Stand, discards, reports, reports_within, takes}
use Rattle.sctp_receiver.specs.TsnFilter.{has_come}

-- how many gap ack blocks and duplicates go into a SACK chunk of so many bytes, 65,535 at most: its header takes 16, and each 4
abbrev pub places_in : ℕ → ℕ
places_in room = (min room 65535 - 16) / 4

-- the TSN that came again by the call: of a DATA chunk, or of one that was dropped
abbrev pub came_again : Call → Reception → List ℕ
came_again (takes c Repeat) r = c.tsn ∷ []
came_again (discards tsn) r = if has_come tsn (filter_of r) then tsn ∷ [] else []
came_again _ r = []

-- the TSNs that came again, and those of them that were told, in their order
pub record Repeats : Type 0 where
  pub again : List ℕ
  pub told : List ℕ

abbrev pub waiting : Repeats → ℕ
waiting d = length d.again - length d.told

-- a receiver with limits notes none while as many wait as go into the longest SACK
abbrev pub is_place : Option Limits → ℕ → Bool
is_place None n = true
is_place (Some l) n = nat_lt n (places_in 65535)

abbrev pub noted : Bool → List ℕ → List ℕ
noted true tsns = tsns
noted _ tsns = []

-- a SACK tells those that are its duplicates; where one that `make_sack` made is sent, all count as told
abbrev pub told_after : Call → Reception → Repeats → List ℕ
told_after (reports_within bytes) r d = d.told ++ (next_sack bytes r).duplicate_tsn
told_after reports r d = d.again
told_after _ r d = d.told

abbrev pub repeats_after : Call → Reception → Repeats → Repeats
repeats_after c r d = record {
  again = d.again ++ noted (is_place r.limits (waiting d)) (came_again c r);
  told = told_after c r d;
}

abbrev pub none_again : Repeats
none_again = record { again = []; told = [] }

-- P after each run, of the TSNs that came again in it
abbrev pub AfterEachRunWithRepeats : (Stand → Repeats → Type 0) → Type 0
AfterEachRunWithRepeats P = AfterEachRunBeside repeats_after none_again P

-- ## The laws

-- what came again was told, once for each time and in order, or is noted for the next SACK
abbrev pub AreToldOnce : Stand → Repeats → Type 0
AreToldOnce s d = d.again ≡ d.told ++ s.receiver.duplicates

-- the next SACK tells as many as fit behind its blocks
abbrev pub FillTheSack : Stand → Repeats → Type 0
FillTheSack s d =
    (room : ℕ) → length (next_sack room s.receiver).duplicate_tsn
    ≡ min (waiting d) (places_in room - length (next_sack room s.receiver).gap_ack_blocks)
