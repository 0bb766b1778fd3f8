-- Messages of TSNs that are abandoned in turn.
use Rattle.std.specs.Prelude.{ℕ, Option, Some, None}
use Rattle.sctp_model.specs.LinkRecord.{LinkRecord}
use Rattle.sctp_model.specs.Messages.{message_of, place_of}
use Rattle.sctp_model.specs.Changes.{after_abandon}

-- the message of a TSN that was given out
abbrev pub message_of_tsn : LinkRecord → ℕ → ℕ
message_of_tsn w tsn = message_of w (place_of w tsn)

-- the record once the message of a TSN, where there is one, is abandoned
abbrev pub abandoned_tsn : LinkRecord → Option ℕ → LinkRecord
abandoned_tsn w None = w
abandoned_tsn w (Some tsn) = after_abandon w (message_of_tsn w tsn)
