-- What the clauses of an association's calls say of it is what a host does (`Hosts`).
use Rattle.std.specs.Prelude.{◌≡◌, ℕ, ◌+◌, Bool, true, if◌then◌else◌, List, [], ◌∷◌, map, Contains, Option, Some, None}
use Rattle.sctp_association.specs.declared.association.Association.{Association}
use Rattle.sctp_association.specs.declared.inbound.Inbound.{Inbound}
use Rattle.sctp_association.specs.Arrivals.{Arrives}
use Rattle.sctp_association.specs.Asked.{AsksOn, calls_on}
use Rattle.sctp_association.specs.Halves.{HalvesAlike, MarksByT3, SetsFragmentSize, expires_t3, first_halves, fragment_size, halves_of}
use Rattle.sctp_association.specs.Halves.{receiver_of, sides_of}
use Rattle.sctp_association.specs.Hosts.{Act, Acts, ArePlain, Host, IsPlainAct, Way, asks, first_host, fragments_by, handles, is_asking, polls}
use Rattle.sctp_association.specs.Hosts.{reads_on}
use Rattle.sctp_association.specs.Packets.{Transmits}
use Rattle.sctp_association.specs.Reads.{AreReadOff, IsSameBeside, message_in}
use Rattle.sctp_association.specs.Waiting.{opened}
use Rattle.sctp_delivery.specs.SenderCalls.{SenderCall, Write, marks, sets_size, written_after}
use Rattle.sctp_receiver.specs.Receiver.{is_open}
use Rattle.sctp_receiver.specs.ReceiverRuns.{Message, with_message}

-- ## What a caller keeps of an association

-- what was written to it and read of it, the datagrams that it wrote, and into how many fragments what was written was cut; each list has
-- the last one first
pub record Log : Type 0 where
  pub written : List Write
  pub read : List Message
  pub sent : List (List ℕ)
  pub fragments : ℕ

abbrev pub no_log : Log
no_log = record { written = []; read = []; sent = []; fragments = 0 }

-- its halves are those of the association
abbrev pub host_of : Association → Log → Host
host_of a l = record {
  sender = a.outbound.sender;
  receiver = receiver_of a.inbound;
  written = l.written;
  read = l.read;
  sent = l.sent;
  fragments = l.fragments;
}

abbrev pub ActsEach : List (List ℕ) → List Act → Host → Host → Type 0
ActsEach peer [] old new = new ≡ old
ActsEach peer (act ∷ acts) old new =
    (mid : Host) × (Acts peer act old mid × ActsEach peer acts mid new)

-- such acts, and no others, lead from the one to the other, whatever datagrams the peer wrote
abbrev pub Leads : Association → Log → List Act → Association → Log → Type 0
Leads a l acts b m = (peer : List (List ℕ)) → ActsEach peer acts (host_of a l) (host_of b m)

-- ## The calls

-- `new`
abbrev pub EachBegins : Type 0
EachBegins =
    (w : Way) (mtu : ℕ) (a : Association) → w.size ≡ fragment_size mtu
    → halves_of a ≡ first_halves w.tsn mtu w.max → host_of a no_log ≡ first_host w

-- what a call for the application adds
abbrev pub asked_of : ℕ → SenderCall → Association → Log → Log
asked_of stream call a l = record l {
  written = written_after call l.written;
  fragments = l.fragments + fragments_by call (opened stream a.outbound.sender);
}

-- `write`, `set_mode`, `set_buffered_amount_low_threshold`: calls of the sender
abbrev pub EachAskActs : Type 0
EachAskActs =
    (stream : ℕ) (call : SenderCall) (a b : Association) (l : Log) → is_asking call ≡ true
    → AsksOn stream call a.outbound.sender b.outbound.sender
    → receiver_of b.inbound ≡ receiver_of a.inbound
    → Leads a l (map asks (calls_on stream call a.outbound.sender)) b (asked_of stream call a l)

-- `set_mtu`
abbrev pub EachSizeActs : Type 0
EachSizeActs =
    (mtu : ℕ) (a b : Association) (l : Log) → SetsFragmentSize mtu a b
    → Leads a l (asks (sets_size (fragment_size mtu)) ∷ []) b l

-- `handle_timeout`: what is in flight is marked, where T3-rtx expires
abbrev pub acts_of_timeout : ℕ → Association → List Act
acts_of_timeout now a = if expires_t3 now a then asks marks ∷ [] else []

abbrev pub EachTimeoutActs : Type 0
EachTimeoutActs =
    (now : ℕ) (a b : Association) (l : Log) → MarksByT3 now a b
    → Leads a l (acts_of_timeout now a) b l

-- `read`: of an open stream
abbrev pub acts_of_read : ℕ → Option Inbound → List Act
acts_of_read stream None = []
acts_of_read stream (Some i) = if is_open stream i.receiver then reads_on stream ∷ [] else []

-- what it answers was read
abbrev pub read_of : ℕ → Association → Log → Log
read_of stream a l = record l { read = with_message stream (message_in stream a.inbound) l.read }

abbrev pub EachReadActs : Type 0
EachReadActs =
    (now stream : ℕ) (a b : Association) (l : Log) → AreReadOff now stream a.inbound b.inbound
    → IsSameBeside a b → Leads a l (acts_of_read stream a.inbound) b (read_of stream a l)

-- `poll_transmit`: where it answers true, the bytes are a datagram
abbrev pub sent_of : Bool → Association → Log → Log
sent_of is_sent b l = record l { sent = if is_sent then b.draft.bytes ∷ l.sent else l.sent }

abbrev pub EachPollActs : Type 0
EachPollActs =
    (is_sent : Bool) (a b : Association) (l : Log) → Transmits is_sent (sides_of a) (sides_of b)
    → Leads a l (polls is_sent b.draft.bytes ∷ []) b (sent_of is_sent b l)

-- `handle_datagram` of one that the peer wrote: it is plain where each call that it brings is
abbrev pub EachDatagramActs : Type 0
EachDatagramActs =
    (datagram : List ℕ) (a b : Association) (l : Log) (peer : List (List ℕ))
    → Contains peer datagram → (came : Arrives datagram (halves_of a) (halves_of b))
    → (done : Acts peer (handles datagram) (host_of a l) (host_of b l))
    × ((w : Way) → ArePlain w datagram came.calls (halves_of a) (halves_of b) came.run
    → IsPlainAct w peer (handles datagram) (host_of a l) (host_of b l) done)

-- `connect`, `shutdown`, `abort`, `reset_stream`, `poll`
abbrev pub EachOtherIsQuiet : Type 0
EachOtherIsQuiet = (a b : Association) (l : Log) → HalvesAlike a b → Leads a l [] b l
