-- What a call of a receiver makes, and what it reports.
use Rattle.std.specs.Prelude.{◌≡◌, ⊤, ℕ, Bool, true, false, List, ◌∷◌, None}
use Rattle.sctp_data.specs.declared.chunk.chunk_payload_data.ChunkPayloadData.{ChunkPayloadData}
use Rattle.sctp_data.specs.ForwardTsn.{ForwardTsn}
use Rattle.sctp_data.specs.SelectiveAck.{Sack}
use Rattle.sctp_receiver.specs.declared.receiver.arrival.Arrival.{Arrival}
use Rattle.sctp_receiver.specs.Receiver.{Reception, arrival_of, arrival_refusal, is_open, is_answered_complete, max_sack_entries, sack, sack_entries}
use Rattle.sctp_receiver.specs.Receiver.{sack_within}
use Rattle.sctp_receiver.specs.ReceiverRuns as runs
use Rattle.sctp_receiver.specs.ReceiverRuns.{Makes}
use Rattle.sctp_receiver.specs.Skips.{skip_refusal}

-- a call that is not refused, with its arguments and its answer where that is not settled by them
pub data ReceiverCall : Type 0 where
  opens : ℕ → ReceiverCall
  -- `data`
  takes : ChunkPayloadData → Arrival → ReceiverCall
  -- `forward_tsn`
  follows : ForwardTsn → ReceiverCall
  -- `replay::make_sack` and `sack_sent`: its credit
  reports : ℕ → ReceiverCall
  -- `sack`: its credit, which is the `window`, and its room in bytes; the duplicates that did not fit are kept
  reports_within : ℕ → ℕ → ReceiverCall
  -- `make_sack`: its credit, which is the `window`, and its room in bytes; the receiver stays as it is
  makes_sack : ℕ → ℕ → ReceiverCall
  -- `sack_sent`: the duplicates are forgotten
  forgets : ReceiverCall
  reads : ℕ → ReceiverCall

-- the call as runs of a receiver have it; one that changes nothing is there a SACK of no bytes, which reports no duplicate
abbrev pub as_run : ReceiverCall → runs.Call
as_run (opens stream) = runs.opens stream
as_run (takes c arrival) = runs.takes c arrival
as_run (follows f) = runs.forwards f
as_run (reports credit) = runs.reports
as_run (reports_within credit bytes) = runs.reports_within bytes
as_run (makes_sack credit bytes) = runs.reports_within 0
as_run forgets = runs.reports
as_run (reads stream) = runs.reads stream

-- what the call found, and what it answers
abbrev pub IsAccepted : ReceiverCall → Reception → Type 0
IsAccepted (opens stream) r = ⊤
IsAccepted (takes c arrival) r =
    (arrival_refusal c r ≡ None) × (arrival ≡ arrival_of c.tsn (is_answered_complete arrival) r)
IsAccepted (follows f) r = skip_refusal f r ≡ None
IsAccepted (reports credit) r = ⊤
IsAccepted (reports_within credit bytes) r = ⊤
IsAccepted (makes_sack credit bytes) r = ⊤
IsAccepted forgets r = ⊤
IsAccepted (reads stream) r = is_open stream r ≡ true

-- one call
abbrev pub ReceiverMakes : ReceiverCall → Reception → Reception → Type 0
ReceiverMakes call old new = Makes (as_run call) old new × IsAccepted call old

-- ## SACKs

-- a SACK is made by the call
abbrev pub is_reporting : ReceiverCall → Bool
is_reporting (reports credit) = true
is_reporting (reports_within credit bytes) = true
is_reporting (makes_sack credit bytes) = true
is_reporting _ = false

-- how many gap ack blocks and duplicates it has at most
abbrev pub entries_of : ReceiverCall → ℕ
entries_of (reports_within credit bytes) = sack_entries bytes
entries_of (makes_sack credit bytes) = sack_entries bytes
entries_of _ = max_sack_entries

-- the wire fields of the SACKs that were made, the last one first
abbrev pub reports_after : ReceiverCall → Reception → List Sack → List Sack
reports_after (reports credit) r sacks = sack credit r ∷ sacks
reports_after (reports_within credit bytes) r sacks = sack_within credit bytes r ∷ sacks
reports_after (makes_sack credit bytes) r sacks = sack_within credit bytes r ∷ sacks
reports_after forgets r sacks = sacks
reports_after (opens stream) r sacks = sacks
reports_after (takes c arrival) r sacks = sacks
reports_after (follows f) r sacks = sacks
reports_after (reads stream) r sacks = sacks
