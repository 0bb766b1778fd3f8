-- The halves of an association, and the packet that it writes.
use Rattle.std.specs.Prelude.{◌≡◌, ℕ, ◌-◌, Bool, false, not, ◌&&◌, min, max, if◌then◌else◌, List, [], Option, None, Result, Ok, Err}
use Rattle.std.specs.List.{AllByRecursion}
use Rattle.std.specs.Option.{option_map}
use Rattle.sctp_association.specs.declared.association.Association.{Association}
use Rattle.sctp_association.specs.declared.fault.Fault.{Fault}
use Rattle.sctp_association.specs.declared.inbound.Inbound.{Inbound}
use Rattle.sctp_association.specs.Arrivals.{Halves, halves, new_sender}
use Rattle.sctp_association.specs.Congested.{path_of}
use Rattle.sctp_association.specs.Kept.{IsUnmoved}
use Rattle.sctp_association.specs.Leaving.{IsDueOnce, IsDueOrData, IsReplyOnce, owed_at, owed_of}
use Rattle.sctp_association.specs.Packets.{Adds, IsOf, IsSkipOnce, PutsOf, Sides, sides}
use Rattle.sctp_association.specs.Still.{heartbeat_time}
use Rattle.sctp_chunks.specs.Wire.{Wire}
use Rattle.sctp_path.specs.Congestion.{pmdcs_of}
use Rattle.sctp_path.specs.Timers.{is_due}
use Rattle.sctp_receiver.specs.Receiver.{Reception}
use Rattle.sctp_sender.specs.Resending.{all_marked}
use Rattle.sctp_sender.specs.Sender.{Transmission, with_flight}
use Rattle.sctp_sender.specs.Settings.{with_fragment_size}

abbrev pub receiver_of : Option Inbound → Option Reception
receiver_of i = option_map (λ i. i.receiver) i

abbrev pub sides_of : Association → Sides
sides_of a = sides a.outbound.sender (receiver_of a.inbound) a.draft.bytes

abbrev pub halves_of : Association → Halves
halves_of a = halves a.outbound.sender (receiver_of a.inbound)

-- neither half changes, nor a window of what is sent, nor when DATA left last, nor the burst, nor whether a FORWARD-TSN is due
pub record HalvesAlike (old new : Association) : Type 0 where
  pub sender : new.outbound.sender ≡ old.outbound.sender
  pub receiver : receiver_of new.inbound ≡ receiver_of old.inbound
  pub path : path_of new.outbound ≡ path_of old.outbound

-- calls of both halves led on. What was put is no INIT, and each reply of it was due, and is due no more
abbrev pub PutsDue : ℕ → Association → Association → Type 0
PutsDue now old new =
    PutsOf (IsDueOnce (owed_at now old) (owed_at now new)) (sides_of old) (sides_of new)

-- the same, and DATA
abbrev pub PutsDueOrData : ℕ → Association → Association → Type 0
PutsDueOrData now old new =
    PutsOf (IsDueOrData (owed_at now old) (owed_at now new)) (sides_of old) (sides_of new)

-- DATA is put; or a FORWARD-TSN, that was due, and is due no more
abbrev pub PutsSent : Association → Association → Type 0
PutsSent old new = PutsOf (IsSkipOnce old.outbound.is_skip_due new.outbound.is_skip_due)
    (sides_of old) (sides_of new)

-- no HEARTBEAT among them
abbrev pub PutsOnce : Association → Association → Type 0
PutsOnce old new = PutsOf (IsReplyOnce (owed_of old) (owed_of new)) (sides_of old) (sides_of new)

-- the same is due at the same moment, the same HEARTBEAT waits for its answer, and the same of resets
pub record IsAsTimed (old new : Association) : Type 0 where
  pub heartbeat : heartbeat_time new ≡ heartbeat_time old
  pub idle : new.heartbeat ≡ old.heartbeat
  pub requests : new.requests ≡ old.requests
  pub peer : new.peer_requests ≡ old.peer_requests

-- neither half changes, and what was put is neither DATA nor FORWARD-TSN, SACK, SHUTDOWN, HEARTBEAT, RE-CONFIG or
-- INIT. What the association begins by stays
pub record PutsOthers (old new : Association) : Type 0 where
  pub halves : HalvesAlike old new
  pub chunks : List Wire
  pub added : Adds chunks old.draft.bytes new.draft.bytes
  pub own : AllByRecursion (IsOf [] []) chunks
  pub plain : AllByRecursion (IsReplyOnce (owed_of old) (owed_of new)) chunks
  pub kept : IsUnmoved old new
  pub timed : IsAsTimed old new

-- a datagram is there
abbrev pub is_sent : Result Bool Fault → Bool
is_sent (Ok sent) = sent
is_sent (Err e) = false

-- ## Sizes

-- the user data of a DATA chunk that fills a packet of at most so many bytes (RFC 9260 3.3.1)
abbrev pub fragment_size : ℕ → ℕ
fragment_size mtu = max 1 (min (pmdcs_of mtu - 16) 65519)

-- a new sender, and no receiver: by the first TSN, the bytes of a packet, and the longest message
abbrev pub first_halves : (tsn mtu max : ℕ) → Halves
first_halves tsn mtu max = halves (new_sender tsn (fragment_size mtu) max) None

-- what is written later is cut for packets of at most so many bytes, and the receiver stays as it is
pub record SetsFragmentSize (mtu : ℕ) (old new : Association) : Type 0 where
  pub sender : new.outbound.sender
      ≡ with_fragment_size (fragment_size mtu) old.outbound.sender
  pub receiver : receiver_of new.inbound ≡ receiver_of old.inbound

-- ## T3-rtx

-- it expires, unless the association is over, or ends since T5-shutdown-guard expires
abbrev pub expires_t3 : ℕ → Association → Bool
expires_t3 now a =
    not a.is_over && (not (is_due now a.guard.at) && is_due now a.outbound.timer.at)

-- all that is in flight is to be sent again (RFC 9260 6.3.3 E3)
abbrev pub marked : Transmission → Transmission
marked t = with_flight (all_marked t.flight) t

-- where T3-rtx expires the sender marks what is in flight, and nothing else changes in a half
pub record MarksByT3 (now : ℕ) (old new : Association) : Type 0 where
  pub sender : new.outbound.sender
      ≡ (if expires_t3 now old then marked old.outbound.sender else old.outbound.sender)
  pub receiver : receiver_of new.inbound ≡ receiver_of old.inbound
