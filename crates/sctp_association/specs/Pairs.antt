-- What a caller of two associations says of its calls: the moves that they are (`Hosts`), and what its logs have then (`HostCalls`).
use Rattle.std.specs.Prelude.{◌≡◌, ℕ, zero, suc, ◌+◌, ◌^◌, ◌<◌, Bool, true, false, not, if◌then◌else◌, List, [], ◌∷◌, All, Contains, map, Option, Some}
use Rattle.std.specs.List.{list_all}
use Rattle.std.specs.Option.{option_map}
use Rattle.std.proofs.Math.ListN.{replicate}
use Rattle.sctp_association.specs.declared.association.Association.{Association}
use Rattle.sctp_association.specs.declared.config.Config.{Config}
use Rattle.sctp_association.specs.Asked.{calls_on}
use Rattle.sctp_association.specs.Beginnings.{ArrivesAsOffered, HasAsked, IsUnbegun}
use Rattle.sctp_association.specs.Halves.{fragment_size}
use Rattle.sctp_association.specs.HostCalls.{Log, asked_of, host_of, sent_of}
use Rattle.sctp_association.specs.Hosts.{Act, ArePlainMoves, Host, IsFit, Move, MovesTo, Way, asks, bytes_of, handles, hosts, one_acts, other_acts, polls}
use Rattle.sctp_association.specs.Links.{AreInOrder, AreLinked, IsPlainLink, Party, host_at, party}
use Rattle.sctp_association.specs.Reached.{limits_of}
use Rattle.sctp_association.specs.Setups.{AreSetUp, BringsOwnCookies}
use Rattle.sctp_data.specs.declared.chunk.chunk_payload_data.PayloadProtocolIdentifier.{PayloadProtocolIdentifier}
use Rattle.sctp_delivery.specs.SenderCalls.{Write, writes, written_after}
use Rattle.sctp_reassembly.specs.declared.reassembly_queue.chunks.Chunks.{Chunks}
use Rattle.sctp_reassembly.specs.reassembly_queue.Fragments.{payload_of}
use Rattle.sctp_receiver.specs.ReceiverRuns.{Message, with_message}

-- ## How two begin

-- the way from an association with the one config, and this first TSN, to one with the other
abbrev pub way_between : ℕ → Config → Config → Way
way_between tsn from to = record {
  tsn = tsn;
  size = fragment_size from.mtu;
  max = from.max_message_size;
  most = to.max_message_size;
  limits = limits_of to;
}

-- the two are linked, and set up with each other; no datagram has come that is not plain, and the numbers are fit
pub record BeginLinked (forth back : Way) (one other : Party) : Type 0 where
  pub link : AreLinked forth back one other
  pub plain : IsPlainLink forth back one other link
  pub set : AreSetUp forth back one other
  pub fit : IsFit forth × IsFit back

-- the first one has asked the peer for an association, and the second one was not begun: an INIT begins it
abbrev pub FirstHasAsked : (one other : Association) → Type 0
FirstHasAsked one other = HasAsked one × IsUnbegun other

-- ## What stays set up

-- where both were set up, they are set up after it, whatever the other is
abbrev pub StaysSetUp : (old : Association) (before : Log) (new : Association) (after : Log) → Type 0
StaysSetUp old before new after =
    (forth back : Way) (other : Party) → AreSetUp forth back (party old before) other
    → AreSetUp forth back (party new after) other

-- the datagram comes so many times, each time as `handle_datagram` says
abbrev pub ComesOffered : (datagram : List ℕ) (times : ℕ) (old new : Association) → Type 0
ComesOffered datagram zero old new = new ≡ old
ComesOffered datagram (suc n) old new =
    (mid : Association) × ComesOffered datagram n old mid × ArrivesAsOffered datagram mid new

-- where both were set up, they are set up after that, if the peer wrote the datagram, it has no forged cookie, and the peer has not begun again. It has
-- no forged cookie then, too
abbrev pub KeepsSetUp : (datagram : List ℕ) (old new : Association) → Type 0
KeepsSetUp datagram old new =
    (forth back : Way) (l : Log) (peer : Party) (set : AreSetUp forth back (party old l) peer)
    → Contains peer.log.sent datagram → BringsOwnCookies set.life datagram
    → new.machine.has_restarted ≡ false
    → (next : AreSetUp forth back (party new l) peer) × BringsOwnCookies next.life datagram

abbrev pub ComesSetUp : (datagram : List ℕ) (times : ℕ) (old new : Association) → Type 0
ComesSetUp datagram times old new =
    ComesOffered datagram times old new × KeepsSetUp datagram old new

-- ## Calls of one

-- a message is written
abbrev pub acts_of_write : ℕ → PayloadProtocolIdentifier → List ℕ → Association → List Act
acts_of_write stream ppi bytes a =
    map asks (calls_on stream (writes stream ppi bytes) a.outbound.sender)

abbrev pub write_of : ℕ → PayloadProtocolIdentifier → List ℕ → Association → Log → Log
write_of stream ppi bytes a l = asked_of stream (writes stream ppi bytes) a l

-- what was answered is read
abbrev pub answered : ℕ → Option Chunks → List Message → List Message
answered stream message ms = with_message stream (option_map (λ c. c.set) message) ms

abbrev pub answer_of : ℕ → Option Chunks → Log → Log
answer_of stream message l = record l { read = answered stream message l.read }

-- ## Calls of both

-- the datagram comes so many times to the other, whatever the one is that wrote it
abbrev pub comes : ℕ → List ℕ → List Move
comes times datagram = replicate times (other_acts (handles datagram))

abbrev pub Comes : List ℕ → ℕ → Association → Association → Type 0
Comes datagram times old new =
    (one : Host) (m : Log) → Contains one.sent datagram
    → MovesTo (hosts one (host_of old m)) (comes times datagram) (hosts one (host_of new m))

-- the one asks for a datagram, and where there is one it comes so many times to the other
abbrev pub passes : Bool → ℕ → List ℕ → List Move
passes is_sent times datagram =
    one_acts (polls is_sent datagram)
    ∷ (if is_sent then comes times datagram else [])

-- so both stay set up: the one that wrote it, and after it came so many times the other
abbrev pub PassesSetUp : Bool → ℕ → (one other next_one next_other : Association) → Type 0
PassesSetUp is_sent times one other next_one next_other =
    ((l : Log) → StaysSetUp one l next_one (sent_of is_sent next_one l))
    × (is_sent ≡ true → ComesSetUp next_one.draft.bytes times other next_other)

-- such moves led from there to here
pub record Led (one other next_one next_other : Party) : Type 0 where
  pub moves : List Move
  pub run : MovesTo (hosts (host_at one) (host_at other)) moves
      (hosts (host_at next_one) (host_at next_other))

-- they passed datagrams, and wrote and read nothing
pub record Exchanges (one other next_one next_other : Association) (l m : Log) : Type 0 where
  pub one_sent : List (List ℕ)
  pub other_sent : List (List ℕ)
  pub led : Led (party one l) (party other m) (party next_one (record l { sent = one_sent }))
      (party next_other (record m { sent = other_sent }))

-- ## What is delivered

-- from `new` on each call that a datagram brought was plain, up to there and on these moves; and each has written fewer than 2^31 - 1 bytes
pub record IsPlainSince (forth back : Way) (one other next_one next_other : Party)
    (led : Led one other next_one next_other) : Type 0 where
  pub link : AreLinked forth back one other
  pub plain : IsPlainLink forth back one other link
  pub moved : ArePlainMoves forth back (hosts (host_at one) (host_at other)) led.moves
      (hosts (host_at next_one) (host_at next_other)) led.run
  pub fit : IsFit forth × IsFit back
  pub few : bytes_of next_one.log.written + 1 < 2 ^ 31
  pub few_back : bytes_of next_other.log.written + 1 < 2 ^ 31

-- the one has written these, the other has read those, and datagrams passed. Where they were plain, each message that was read is a write at a
-- place of its own, in order
pub record Delivers (ws : List Write) (ms : List Message)
    (one other next_one next_other : Association) (l m : Log) : Type 0 where
  pub one_log : Log
  pub other_log : Log
  pub led : Led (party one l) (party other m) (party next_one one_log)
      (party next_other other_log)
  pub written : one_log.written ≡ ws
  pub read : other_log.read ≡ ms
  pub beside : (one_log.read ≡ l.read) × (other_log.written ≡ m.written)
  pub order : (forth back : Way)
      → IsPlainSince forth back (party one l) (party other m) (party next_one one_log)
      (party next_other other_log) led → AreInOrder ws ms

-- a message is written behind the others, and what is answered is read
abbrev pub DeliversOne : ℕ → PayloadProtocolIdentifier → List ℕ → Option Chunks
    → (one other next_one next_other : Association) → Log → Log → Type 0
DeliversOne stream ppi bytes message one other next_one next_other l m =
    Delivers (written_after (writes stream ppi bytes) l.written) (answered stream message m.read)
    one other next_one next_other l m

-- ## Messages one after another

abbrev pub written_each : ℕ → PayloadProtocolIdentifier → List (List ℕ) → List Write → List Write
written_each stream ppi [] ws = ws
written_each stream ppi (bytes ∷ more) ws =
    written_each stream ppi more (written_after (writes stream ppi bytes) ws)

abbrev pub read_each : ℕ → List Chunks → List Message → List Message
read_each stream [] ms = ms
read_each stream (message ∷ more) ms =
    read_each stream more (answered stream (Some message) ms)

-- no fragment of it is unordered
abbrev pub IsOrdered : Chunks → Type 0
IsOrdered message = list_all (λ c. not c.unordered) message.set.chunks ≡ true

-- each was written, and these were read. Where nothing was written or read before, and datagrams were plain, the messages that were read are
-- those that were written, in the same order, if they are ordered
pub record Transfers (stream : ℕ) (ppi : PayloadProtocolIdentifier) (messages : List (List ℕ))
    (read : List Chunks) (one other next_one next_other : Association) (l m : Log) : Type 0 where
  pub delivers : Delivers (written_each stream ppi messages l.written)
      (read_each stream read m.read) one other next_one next_other l m
  pub same : (forth back : Way)
      → IsPlainSince forth back (party one l) (party other m) (party next_one delivers.one_log)
      (party next_other delivers.other_log) delivers.led → l.written ≡ [] → m.read ≡ []
      → All IsOrdered read → map (λ message. payload_of message.set.chunks) read ≡ messages
