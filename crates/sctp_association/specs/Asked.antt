-- Calls of its sender by which an association does what an application asks (`sctp_delivery`).
use Rattle.std.specs.Prelude.{ℕ, if◌then◌else◌, List, [], ◌∷◌}
use Rattle.sctp_delivery.specs.SenderCalls.{SenderCall, SenderMakesEach, opens}
use Rattle.sctp_sender.specs.Sender.{Transmission, is_open}

-- a stream opens first, where it is not open
abbrev pub calls_on : ℕ → SenderCall → Transmission → List SenderCall
calls_on stream call t = if is_open stream t then call ∷ [] else opens stream ∷ call ∷ []

-- none of them is refused
abbrev pub AsksOn : ℕ → SenderCall → Transmission → Transmission → Type 0
AsksOn stream call old new = SenderMakesEach (calls_on stream call old) old new
