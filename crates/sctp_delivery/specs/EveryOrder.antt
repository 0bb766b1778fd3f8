-- In which order messages are read in sessions of every call (RFC 4960 6.6): on each stream that goes on, in that of their writes.
use Rattle.std.specs.Prelude.{◌≡◌, ◌≢◌, ℕ, ◌<◌, ◌≤◌, ◌==◌, ◌&&◌, ◌||◌, Bool, true, false, not, List, [], ◌∷◌, length, AllPairs}
use Rattle.std.specs.List.{list_all, list_any}
use Rattle.sctp_sender.specs.Abandonment.{is_pair_of}
use Rattle.sctp_sender.specs.Numbers.{is_ordered_on}
use Rattle.sctp_delivery.specs.EveryCall.{AnyCall, closes_incoming, discards, makes, of_receiving, of_sending, passes_over, renews, resets_incoming}
use Rattle.sctp_delivery.specs.EveryCall.{single_messages}
use Rattle.sctp_delivery.specs.InOrder.{Are, AreAmong, keeps_order, read_from, written_to}
use Rattle.sctp_delivery.specs.Messages.{StandAt}
use Rattle.sctp_delivery.specs.Modes.{sendings, was_written_ordered}
use Rattle.sctp_delivery.specs.Order.{ordered_places, places_where}
use Rattle.sctp_delivery.specs.ReceiverCalls.{opens}
use Rattle.sctp_delivery.specs.Session.{Call, Session, of_receiver}

-- ## Streams that go on

-- the receiver opens the stream by the call
abbrev pub opens_incoming : ℕ → AnyCall → Bool
opens_incoming s (makes (of_receiver (opens stream))) = stream == s
opens_incoming s _ = false

-- by the call a host closes or resets the stream, or the receiver drops an ordered chunk of it; or it passes over a name of the stream,
-- which it has not opened
abbrev pub breaks : Bool → ℕ → AnyCall → Bool
breaks opened s (makes call) = false
breaks opened s (of_sending call) = renews s (of_sending call)
breaks opened s (of_receiving (discards c)) = is_ordered_on s c
breaks opened s (of_receiving (closes_incoming stream)) = stream == s
breaks opened s (of_receiving (resets_incoming stream last)) = stream == s
breaks opened s (of_receiving (passes_over f)) = not opened && list_any (is_pair_of s) f.streams

-- none of the calls does; whether the receiver opened the stream before them is said
abbrev pub goes_on : Bool → ℕ → List AnyCall → Bool
goes_on opened s [] = true
goes_on opened s (c ∷ cs) =
    not (breaks opened s c) && goes_on (opened || opens_incoming s c) s cs

-- so from the first call on
abbrev pub is_unbroken : List AnyCall → ℕ → Bool
is_unbroken calls s = goes_on false s calls

-- the calls that most sessions have, too: modes follow from these
abbrev pub plain_calls : List AnyCall → List Call
plain_calls [] = []
plain_calls (makes call ∷ cs) = call ∷ plain_calls cs
plain_calls (of_sending call ∷ cs) = plain_calls cs
plain_calls (of_receiving call ∷ cs) = plain_calls cs

-- ## The laws

-- each message that was read, and of which no fragment but the first begins one, is a write at a place of its own. On each such stream, of two
-- ordered ones the one that was read later was written later: its place is the lower one, since writes and messages have the last one first
abbrev pub AreSingleReadInOrder : List AnyCall → Session → Type 0
AreSingleReadInOrder calls s =
    (places : List ℕ) × StandAt s.written (single_messages s.receiving.read) places
    × AllPairs (λ p q. p ≢ q) places
    × ((stream : ℕ) → is_unbroken calls stream ≡ true
    → AllPairs (λ p q. p < q) (ordered_places stream (single_messages s.receiving.read) places))

-- and of two whose writes are ordered, as the modes of their stream and their payload types say
abbrev pub AreSingleReadAsWritten : List AnyCall → Session → Type 0
AreSingleReadAsWritten calls s =
    (places : List ℕ) × StandAt s.written (single_messages s.receiving.read) places
    × AllPairs (λ p q. p ≢ q) places
    × ((stream : ℕ) → is_unbroken calls stream ≡ true
    → AllPairs (λ p q. p < q)
    (places_where (was_written_ordered (sendings (plain_calls calls)) stream)
    (single_messages s.receiving.read) places))

-- such a stream that no call makes unordered
abbrev pub is_ordered_throughout : List AnyCall → ℕ → Bool
is_ordered_throughout calls s =
    is_unbroken calls s && list_all (keeps_order s) (plain_calls calls)

-- what was read of it is what was written to it, message by message and in the same order, but for writes that are left out: none where as many
-- were read
pub record AreReadInTurnWhereUnbroken (calls : List AnyCall) (s : Session) : Type 0 where
  pub among : (stream : ℕ) → is_ordered_throughout calls stream ≡ true
      → AreAmong (read_from stream s) (written_to stream s)
  pub all : (stream : ℕ) → is_ordered_throughout calls stream ≡ true
      → length (written_to stream s) ≤ length (read_from stream s)
      → Are (read_from stream s) (written_to stream s)
