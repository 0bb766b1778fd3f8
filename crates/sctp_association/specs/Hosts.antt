-- Two associations, and a network that loses, delays, repeats and reorders the datagrams that they write.
use Rattle.std.specs.Prelude.{◌≡◌, ⊤, ℕ, ◌+◌, ◌^◌, ◌<◌, ◌≤◌, Bool, true, false, if◌then◌else◌, List, [], ◌∷◌, length, Contains, Option, Some, None}
use Rattle.std.specs.List.{sum_by}
use Rattle.sctp_association.specs.Arrivals.{Arrival, Arrives, Does, Halves, IsBrought, Steps, begins, halves, hears, new_sender, receives, renews, restarts}
use Rattle.sctp_association.specs.Packets.{Transmits, sides}
use Rattle.sctp_data.specs.ForwardTsn.{ForwardTsn}
use Rattle.sctp_delivery.specs.Abandoned.{IsEachOtherReadInTheEnd}
use Rattle.sctp_delivery.specs.Messages.{AreWrites, AreWritesOfTheirOwn}
use Rattle.sctp_delivery.specs.Order.{AreReadInOrder}
use Rattle.sctp_delivery.specs.Returns.{abandoned_so, at_start_with}
use Rattle.sctp_delivery.specs.SenderCalls.{SenderCall, SenderMakes, Write, written_after}
use Rattle.sctp_delivery.specs.SenderCalls.{marks, opens, sets_low, sets_mode, sets_size, writes}
use Rattle.sctp_delivery.specs.Session.{Session}
use Rattle.sctp_delivery.specs.Stand.{StandSo}
use Rattle.sctp_receiver.specs.declared.receiver.limits.Limits.{Limits}
use Rattle.sctp_receiver.specs.Receiver.{Reception, after_read, at_first, is_open, message_on}
use Rattle.sctp_receiver.specs.ReceiverRuns as runs
use Rattle.sctp_receiver.specs.ReceiverRuns.{Message, with_message}
use Rattle.sctp_receiver.specs.Skips.{names_closed}
use Rattle.sctp_sender.specs.Sender.{Transmission, stream_of}
use Rattle.sctp_stream.specs.Stream.{pieces_of}
use Rattle.sctp_stream.specs.declared.outbound_stream.OutboundStream.{OutboundStream}

-- ## One association

-- its halves, what it wrote and read, the datagrams that it wrote, and into how many fragments what it wrote was cut; each list has the
-- last one first
pub record Host : Type 0 where
  pub sender : Transmission
  pub receiver : Option Reception
  pub written : List Write
  pub read : List Message
  pub sent : List (List ℕ)
  pub fragments : ℕ

-- one way between two: the first TSN, the size of a fragment and the longest message of the sender; the longest message and the limits
-- of the receiver
pub record Way : Type 0 where
  pub tsn : ℕ
  pub size : ℕ
  pub max : ℕ
  pub most : ℕ
  pub limits : Limits

-- it was made by `new`, on this way
abbrev pub first_host : Way → Host
first_host w = record {
  sender = new_sender w.tsn w.size w.max;
  receiver = None;
  written = [];
  read = [];
  sent = [];
  fragments = 0;
}

-- ## What it does

-- a call of the sender for the application, or for T3-rtx
abbrev pub is_asking : SenderCall → Bool
is_asking (opens stream) = true
is_asking (sets_mode stream unordered reliability value) = true
is_asking (writes stream ppi bytes) = true
is_asking (sets_low stream bytes) = true
is_asking (sets_size size) = true
is_asking marks = true
is_asking _ = false

-- a write is cut into so many fragments
abbrev pub pieces_on : Option OutboundStream → List ℕ → ℕ
pieces_on None bytes = 0
pieces_on (Some l) bytes = length (pieces_of l bytes)

abbrev pub fragments_by : SenderCall → Transmission → ℕ
fragments_by (writes stream ppi bytes) t = pieces_on (stream_of stream t) bytes
fragments_by _ t = 0

pub record Asks (call : SenderCall) (old new : Host) : Type 0 where
  pub asking : is_asking call ≡ true
  pub makes : SenderMakes call old.sender new.sender
  pub after : new ≡ record old {
    sender = new.sender;
    written = written_after call old.written;
    fragments = old.fragments + fragments_by call old.sender;
  }

-- `read` of an open stream
pub record ReadsOn (stream : ℕ) (old new : Host) : Type 0 where
  pub receiver : Reception
  pub there : old.receiver ≡ Some receiver
  pub is : is_open stream receiver ≡ true
  pub after : new ≡ record old {
    receiver = Some (after_read stream receiver);
    read = with_message stream (message_on stream receiver) old.read;
  }

-- `poll_transmit`: where it answers true, these bytes are a datagram
pub record Polls (is_sent : Bool) (datagram : List ℕ) (old new : Host) : Type 0 where
  pub before : List ℕ
  pub transmits : Transmits is_sent (sides old.sender old.receiver before)
      (sides new.sender new.receiver datagram)
  pub after : new ≡ record old {
    sender = new.sender;
    receiver = new.receiver;
    sent = if is_sent then datagram ∷ old.sent else old.sent;
  }

-- `handle_datagram` of a datagram that the peer wrote, at whatever time and however often: what `came` says of it
pub record Handles (peer : List (List ℕ)) (datagram : List ℕ) (old new : Host) : Type 0 where
  pub handed : Contains peer datagram
  pub arrives : Arrives datagram (halves old.sender old.receiver)
      (halves new.sender new.receiver)
  pub after : new ≡ record old { sender = new.sender; receiver = new.receiver }

pub data Act : Type 0 where
  asks : SenderCall → Act
  reads_on : ℕ → Act
  polls : Bool → List ℕ → Act
  handles : List ℕ → Act

-- the datagrams are the peer's
abbrev pub Acts : List (List ℕ) → Act → Host → Host → Type 0
Acts peer (asks call) old new = Asks call old new
Acts peer (reads_on stream) old new = ReadsOn stream old new
Acts peer (polls is_sent datagram) old new = Polls is_sent datagram old new
Acts peer (handles datagram) old new = Handles peer datagram old new

-- ## Two of them

pub record Hosts : Type 0 where
  pub one : Host
  pub other : Host

abbrev pub hosts : Host → Host → Hosts
hosts a b = record { one = a; other = b }

pub data Move : Type 0 where
  one_acts : Act → Move
  other_acts : Act → Move

abbrev pub Moves : Move → Hosts → Hosts → Type 0
Moves (one_acts act) old new = Acts old.other.sent act old.one new.one × (new.other ≡ old.other)
Moves (other_acts act) old new = Acts old.one.sent act old.other new.other × (new.one ≡ old.one)

abbrev pub MovesTo : Hosts → List Move → Hosts → Type 0
MovesTo old [] new = new ≡ old
MovesTo old (m ∷ ms) new = (mid : Hosts) × (Moves m old mid × MovesTo mid ms new)

-- ## What datagrams may bring

-- each call that a datagram brings is as the rule says, by the halves that it finds
abbrev pub AreByRule : (Rule : Arrival → Halves → Type 0) (datagram : List ℕ)
    (calls : List Arrival) (old new : Halves)
    → Steps (IsBrought datagram) Does calls old new → Type 0
AreByRule Rule datagram [] old new run = ⊤
AreByRule Rule datagram (a ∷ calls) old new run =
    Rule a old × AreByRule Rule datagram calls run.0 new run.1.1

abbrev pub IsActByRule : (Rule : Arrival → Halves → Type 0) (peer : List (List ℕ)) (act : Act)
    (old new : Host) → Acts peer act old new → Type 0
IsActByRule Rule peer (asks call) old new done = ⊤
IsActByRule Rule peer (reads_on stream) old new done = ⊤
IsActByRule Rule peer (polls is_sent datagram) old new done = ⊤
IsActByRule Rule peer (handles datagram) old new done =
    AreByRule Rule datagram done.arrives.calls (halves old.sender old.receiver)
    (halves new.sender new.receiver) done.arrives.run

-- a rule for what comes to the one, and one for what comes to the other
abbrev pub IsMoveByRule : (One Other : Arrival → Halves → Type 0) (m : Move) (old new : Hosts)
    → Moves m old new → Type 0
IsMoveByRule One Other (one_acts act) old new done =
    IsActByRule One old.other.sent act old.one new.one done.0
IsMoveByRule One Other (other_acts act) old new done =
    IsActByRule Other old.one.sent act old.other new.other done.0

abbrev pub AreMovesByRule : (One Other : Arrival → Halves → Type 0) (old : Hosts)
    (moves : List Move) (new : Hosts) → MovesTo old moves new → Type 0
AreMovesByRule One Other old [] new run = ⊤
AreMovesByRule One Other old (m ∷ ms) new run =
    IsMoveByRule One Other m old run.0 run.1.0
    × AreMovesByRule One Other run.0 ms new run.1.1

-- ## What sessions have

abbrev pub NamesOpen : ForwardTsn → Option Reception → Type 0
NamesOpen f None = ⊤
NamesOpen f (Some r) = names_closed f r ≡ false

-- DATA is taken or opens its stream, and a FORWARD-TSN names open streams; a SACK or SHUTDOWN is taken; and the receiver begins once, as the way of
-- the peer does. No stream is closed, none is reset, no TSN alone is noted, and the sender does not begin anew
abbrev pub IsPlain : Way → Arrival → Halves → Type 0
IsPlain w (receives (runs.takes c arrival)) h = ⊤
IsPlain w (receives (runs.opens stream)) h = ⊤
IsPlain w (receives (runs.forwards f)) h = NamesOpen f h.receiver
IsPlain w (receives _) h = ⊥
IsPlain w (hears (restarts stream)) h = ⊥
IsPlain w (hears _) h = ⊤
IsPlain w (begins tsn max limits) h =
    (h.receiver ≡ None) × ((tsn ≡ w.tsn) × ((max ≡ w.most) × (limits ≡ w.limits)))
IsPlain w (renews tsn size max) h = ⊥

-- each call that a datagram brings is plain
abbrev pub ArePlain : (w : Way) (datagram : List ℕ) (calls : List Arrival) (old new : Halves)
    → Steps (IsBrought datagram) Does calls old new → Type 0
ArePlain w datagram calls old new run = AreByRule (IsPlain w) datagram calls old new run

-- the way is that on which the host receives
abbrev pub IsPlainAct : (w : Way) (peer : List (List ℕ)) (act : Act) (old new : Host)
    → Acts peer act old new → Type 0
IsPlainAct w peer act old new done = IsActByRule (IsPlain w) peer act old new done

-- forth is the way from the one to the other
abbrev pub ArePlainMoves : (forth back : Way) (old : Hosts) (moves : List Move) (new : Hosts)
    → MovesTo old moves new → Type 0
ArePlainMoves forth back old moves new run =
    AreMovesByRule (IsPlain back) (IsPlain forth) old moves new run

-- ## The law

-- the first TSN is a number of 32 bits, and fragments have some bytes
abbrev pub IsFit : Way → Type 0
IsFit w = (w.tsn < 2 ^ 32) × (0 < w.size)

abbrev pub bytes_of : List Write → ℕ
bytes_of ws = sum_by (λ w. length w.bytes) ws

-- what it wrote is fewer than 2^64 bytes, and was cut into so few fragments that no TSN is given out twice: each takes one at most
abbrev pub WroteFew : Host → Type 0
WroteFew h = (h.fragments + 1 < 2 ^ 31) × (bytes_of h.written < 2 ^ 64)

abbrev pub IsReceiver : Way → Option Reception → Reception → Type 0
IsReceiver w None r = r ≡ at_first w.tsn w.most (Some w.limits)
IsReceiver w (Some s) r = r ≡ s

-- the messages that calls of the session abandoned or let expire
abbrev pub abandoned_in : StandSo → List ℕ
abandoned_in st =
    abandoned_so (at_start_with st.reported st.tsn st.size st.max st.most st.limits)
    st.calls st.session st.run

-- the sender of the one and the receiver of the other stand in this session (`sctp_delivery`), in which was written what the one wrote, and
-- read what the other read. So each message that was read is one that was written, at a place of its own, in order
pub record DeliversPlain (w : Way) (a b : Host) (s : Session) : Type 0 where
  pub sends : s.sending.sender ≡ a.sender
  pub receives : IsReceiver w b.receiver s.receiving.receiver
  pub written : s.written ≡ a.written
  pub read : s.receiving.read ≡ b.read
  pub writes : AreWrites s
  pub own : AreWritesOfTheirOwn s
  pub order : AreReadInOrder s

-- and where nothing waits, is in flight or is to be read, each other write was read exactly once
pub record Delivers (w : Way) (a b : Host) : Type 0 where
  pub stand : StandSo
  pub delivers : DeliversPlain w a b stand.session
  pub ends : IsEachOtherReadInTheEnd (abandoned_in stand) stand.session

-- so it is both ways, whatever two associations do from `new` on, and whatever becomes of their datagrams
abbrev pub EachDelivers : Type 0
EachDelivers =
    (forth back : Way) (moves : List Move) (new : Hosts)
    (run : MovesTo (hosts (first_host forth) (first_host back)) moves new)
    → ArePlainMoves forth back (hosts (first_host forth) (first_host back)) moves new run
    → IsFit forth → IsFit back → WroteFew new.one → WroteFew new.other
    → Delivers forth new.one new.other × Delivers back new.other new.one

-- what an association wrote was cut into no more fragments than it has bytes, whatever comes
abbrev pub EachIsCut : Type 0
EachIsCut =
    (forth back : Way) (moves : List Move) (new : Hosts)
    → MovesTo (hosts (first_host forth) (first_host back)) moves new
    → (new.one.fragments ≤ bytes_of new.one.written)
    × (new.other.fragments ≤ bytes_of new.other.written)
