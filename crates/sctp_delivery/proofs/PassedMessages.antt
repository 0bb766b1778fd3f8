-- Which messages a FORWARD-TSN passes (RFC 3758 3.5): of each message that no call abandoned or let expire, the receiver took the fragments up to it.
use Rattle.sctp_delivery.proofs.Names.{◌≡◌, ℕ, Bool, true, false, List, [], ◌∷◌, length, ⊤, ◌||◌, nat_eq, list_any, tsn, ForwardTsn, was_taken, Made}
use Rattle.sctp_delivery.proofs.Names.{data_chunk, forward_tsn, Session}
use Rattle.sctp_delivery.proofs.Every.{Every}
use Rattle.sctp_delivery.proofs.Sent.{Entry, IsPart, fragment, terminal}

-- the message with this number was abandoned or has expired: it is one of these
abbrev pub is_gone : List ℕ → ℕ → Bool
is_gone gone m = list_any (nat_eq m) gone

-- each of these fragments was taken, or its message is gone
abbrev pub AreTakenOrGone : List ℕ → Session → List Entry → Type 0
AreTakenOrGone gone s [] = ⊤
AreTakenOrGone gone s (terminal ∷ xs) = AreTakenOrGone gone s xs
AreTakenOrGone gone s (fragment d w after ∷ xs) = ((was_taken d.tsn s || is_gone gone w.place) ≡ true) × AreTakenOrGone gone s xs

-- the last of these entries ends its message, or is a terminal chunk
abbrev pub EndsMessage : List Entry → Type 0
EndsMessage [] = ⊥
EndsMessage (terminal ∷ xs) = ⊤
EndsMessage (fragment d w after ∷ xs) = d.ending_fragment ≡ true

-- a FORWARD-TSN goes to the TSN of an entry that ends a message; of the entries up to it each fragment was taken, or its message is gone.
-- (What it names is told by SpreadFlight.IsNaming, with the place that is acknowledged now: `names` of SpreadCalls.IsSpread)
pub record IsPassing (p : ℕ) (gone : List ℕ) (s : Session) (sent : List Entry) (g : ForwardTsn) : Type 0 where
  pub passed : List Entry
  pub part : IsPart passed sent
  pub is : g.new_cumulative_tsn ≡ tsn p (length passed)
  pub ends : EndsMessage passed
  pub came : AreTakenOrGone gone s passed

abbrev pub IsMadePassing : ℕ → List ℕ → Session → List Entry → Made → Type 0
IsMadePassing p gone s sent (data_chunk d) = ⊤
IsMadePassing p gone s sent (forward_tsn g) = IsPassing p gone s sent g

-- so is each that was made
abbrev pub ArePassing : ℕ → List ℕ → Session → List Entry → Type 0
ArePassing p gone s sent = Every (IsMadePassing p gone s sent) s.made

-- behind a terminal chunk stands a fragment that does not end its message, and that message is gone
abbrev pub EndsGone : List ℕ → List Entry → Type 0
EndsGone gone [] = ⊥
EndsGone gone (terminal ∷ xs) = ⊥
EndsGone gone (fragment d w after ∷ xs) = (d.ending_fragment ≡ false) × (is_gone gone w.place ≡ true)

-- each terminal chunk does
abbrev pub AreCutGone : List ℕ → List Entry → Type 0
AreCutGone gone [] = ⊤
AreCutGone gone (terminal ∷ xs) = EndsGone gone xs × AreCutGone gone xs
AreCutGone gone (fragment d w after ∷ xs) = AreCutGone gone xs
