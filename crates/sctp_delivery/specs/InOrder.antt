-- What is read of an ordered stream, message by message: some of the writes to it, in their order (RFC 4960 6.6).
use Rattle.std.specs.Prelude.{◌≡◌, ⊤, ℕ, ◌≤◌, ◌==◌, Bool, true, not, ◌&&◌, ◌⊎◌, List, [], ◌∷◌, length}
use Rattle.std.specs.List.{filter, list_all}
use Rattle.sctp_receiver.specs.ReceiverRuns.{Message}
use Rattle.sctp_delivery.specs.Messages.{IsWrite}
use Rattle.sctp_delivery.specs.SenderCalls.{Write, sets_mode}
use Rattle.sctp_delivery.specs.Session.{Call, Session, of_sender}

-- the writes to a stream, and the messages that were read from it, each list the last one first
abbrev pub written_to : ℕ → Session → List Write
written_to stream s = filter (λ w. w.stream == stream) s.written

abbrev pub read_from : ℕ → Session → List Message
read_from stream s = filter (λ m. m.stream == stream) s.receiving.read

-- each message is the write at its place
abbrev pub Are : List Message → List Write → Type 0
Are [] [] = ⊤
Are [] (w ∷ ws) = ⊥
Are (m ∷ ms) [] = ⊥
Are (m ∷ ms) (w ∷ ws) = IsWrite m w × Are ms ws

-- so it is once some of the writes are left out
abbrev pub AreAmong : List Message → List Write → Type 0
AreAmong [] ws = ⊤
AreAmong (m ∷ ms) [] = ⊥
AreAmong (m ∷ ms) (w ∷ ws) = (IsWrite m w × AreAmong ms ws) ⊎ AreAmong (m ∷ ms) ws

-- the call makes not the stream unordered
abbrev pub keeps_order : ℕ → Call → Bool
keeps_order stream (of_sender (sets_mode s unordered reliability value)) =
    not ((s == stream) && unordered)
keeps_order stream _ = true

-- where no call did, what was read of the stream is what was written to it, in the same order, but for writes that are left out: none
-- where as many were read
pub record AreReadInTurn (calls : List Call) (s : Session) : Type 0 where
  pub among : (stream : ℕ) → list_all (keeps_order stream) calls ≡ true
      → AreAmong (read_from stream s) (written_to stream s)
  pub all : (stream : ℕ) → list_all (keeps_order stream) calls ≡ true
      → length (written_to stream s) ≤ length (read_from stream s)
      → Are (read_from stream s) (written_to stream s)
