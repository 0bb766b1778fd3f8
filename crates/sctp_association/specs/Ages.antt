-- How old is what datagrams bring, and what receivers hold: how many TSNs the peer gave out since.
use Rattle.std.specs.Prelude.{◌≡◌, ⊤, ℕ, ◌^◌, ◌<◌, true, List, [], ◌∷◌, ◌++◌, length, map, Option, Some, None}
use Rattle.std.specs.List.{list_all}
use Rattle.sctp_association.specs.Arrivals.{Arrival, Halves, acks, begins, hears, passes, receives, renews}
use Rattle.sctp_association.specs.HostCalls.{ActsEach}
use Rattle.sctp_association.specs.Hosts.{Act, Acts, Host, Hosts, IsActByRule, IsReceiver, Move, MovesTo, Way, asks, first_host, handles, hosts, one_acts}
use Rattle.sctp_association.specs.Hosts.{other_acts, polls, reads_on}
use Rattle.sctp_association.specs.Links.{AreLinked, Party, host_at}
use Rattle.sctp_association.specs.Runs.{Runs, SendsBy, made_by}
use Rattle.sctp_data.specs.ForwardTsn.{ForwardTsn}
use Rattle.sctp_data.specs.PayloadData.{Data, data_of}
use Rattle.sctp_delivery.specs.Complete.{fragments_held}
use Rattle.sctp_delivery.specs.Recent.{Aged, IsAmongYoung, older}
use Rattle.sctp_delivery.specs.SenderCalls.{Made, SenderCall, data_chunk, forward_tsn, forwards, forwards_within, next_chunk, sends, with_chunk}
use Rattle.sctp_receiver.specs.Receiver.{Reception}
use Rattle.sctp_receiver.specs.ReceiverRuns as runs
use Rattle.sctp_sender.specs.Sender.{Transmission}
use Rattle.sctp_util.specs.Serial.{at_or_before, comes_before, distance}

-- ## How old is what a sender made

-- the DATA chunk to which the call gives a TSN, if there is one, or the FORWARD-TSN that it makes
abbrev pub new_by : SenderCall → Transmission → List Made
new_by (sends now) t = with_chunk (next_chunk now t) []
new_by (forwards tsn f) t = forward_tsn f ∷ []
new_by (forwards_within bytes f) t = forward_tsn f ∷ []
new_by _ t = []

-- all of these, the last one first, after calls by which it sends: how many TSNs were given out from that of a DATA chunk on, or since a FORWARD-TSN
-- was made. A DATA chunk that is sent again is as old as before
abbrev pub aged_over : List Aged → (calls : List SenderCall) (made : List Made)
    (old new : Transmission) → Runs SendsBy made_by calls made old new → List Aged
aged_over ages [] made old new run = ages
aged_over ages (c ∷ cs) made old new run =
    aged_over (map (λ m. record { chunk = m; age = 1 }) (new_by c old)
    ++ map (older (distance old.flight.next_tsn run.mid.flight.next_tsn)) ages)
    cs run.later run.mid new run.rest

-- after an act: of these `poll_transmit` alone gives out TSNs
abbrev pub aged_by : List Aged → (peer : List (List ℕ)) (act : Act) (old new : Host)
    → Acts peer act old new → List Aged
aged_by ages peer (asks call) old new done = ages
aged_by ages peer (reads_on stream) old new done = ages
aged_by ages peer (polls is_sent datagram) old new done =
    aged_over ages done.transmits.sent.calls done.transmits.made old.sender new.sender
    done.transmits.sent.run
aged_by ages peer (handles datagram) old new done = ages

-- ## What datagrams may bring

-- the FORWARD-TSN is one of these, made fewer than 2^31 TSNs ago, and the TSN to which it goes is before this one
abbrev pub IsYoungSkip : List Aged → (next : ℕ) → ForwardTsn → Type 0
IsYoungSkip ages next f =
    IsAmongYoung (forward_tsn f) ages × (comes_before f.new_cumulative_tsn next ≡ true)

-- the TSN is not past the cumulative one of this receiver, which begins with the first TSN of the way
abbrev pub IsReached : Way → Option Reception → (tsn : ℕ) → Type 0
IsReached w o tsn =
    (r : Reception) → IsReceiver w o r → at_or_before tsn r.cumulative_tsn ≡ true

-- what the call is for is less than 2^31 TSNs old: DATA that is taken, or of which the TSN alone is noted, a FORWARD-TSN, and the cumulative TSN of a
-- SACK or SHUTDOWN. These are of what the peer made, and out is the way to it
abbrev pub IsYoungCall : (out : Way) (ages : List Aged) (peer : Host) → Arrival → Halves → Type 0
IsYoungCall out ages peer (receives (runs.takes c arrival)) h =
    IsAmongYoung (data_chunk (data_of c)) ages
IsYoungCall out ages peer (receives (runs.discards tsn)) h =
    (d : Data) × (d.tsn ≡ tsn) × IsAmongYoung (data_chunk d) ages
IsYoungCall out ages peer (receives (runs.forwards f)) h =
    IsYoungSkip ages peer.sender.flight.next_tsn f
IsYoungCall out ages peer (receives _) h = ⊤
IsYoungCall out ages peer (hears (acks sack back gone)) h =
    IsReached out peer.receiver sack.cumulative_tsn_ack
IsYoungCall out ages peer (hears (passes tsn gone)) h = IsReached out peer.receiver tsn
IsYoungCall out ages peer (hears _) h = ⊤
IsYoungCall out ages peer (begins tsn max limits) h = ⊤
IsYoungCall out ages peer (renews tsn size max) h = ⊤

-- ## What hosts may hold

-- the receiver holds no DATA chunk whose TSN is not before this one: each is read, or dropped, before it is 2^31 TSNs old
abbrev pub HoldsYoung : (next : ℕ) → Option Reception → Type 0
HoldsYoung next None = ⊤
HoldsYoung next (Some r) =
    (stream : ℕ) → list_all (λ c. comes_before c.tsn next) (fragments_held stream r) ≡ true

-- that of the other holds none so old, and fewer than 2^31 chunks of the one are in flight
abbrev pub IsBounded : (one other : Host) → Type 0
IsBounded one other =
    (length one.sender.flight.queue.inflight.chunks < 2 ^ 31)
    × HoldsYoung one.sender.flight.next_tsn other.receiver

-- so it is after `poll_transmit` of the one: no other act gives out TSNs
abbrev pub IsBoundedBy : Act → (one other : Host) → Type 0
IsBoundedBy (asks call) one other = ⊤
IsBoundedBy (reads_on stream) one other = ⊤
IsBoundedBy (polls is_sent datagram) one other = IsBounded one other
IsBoundedBy (handles datagram) one other = ⊤

-- each call that a datagram brings is so, and what is held then. These are what the one made before, and those what the other made
abbrev pub AreYoungMoves : (forth back : Way) (ones others : List Aged) (old : Hosts)
    (moves : List Move) (new : Hosts) → MovesTo old moves new → Type 0
AreYoungMoves forth back ones others old [] new run = ⊤
AreYoungMoves forth back ones others old (one_acts act ∷ ms) new run =
    IsActByRule (IsYoungCall forth others old.other) old.other.sent act old.one run.0.one run.1.0.0
    × IsBoundedBy act run.0.one run.0.other
    × AreYoungMoves forth back
    (aged_by ones old.other.sent act old.one run.0.one run.1.0.0) others run.0 ms new run.1.1
AreYoungMoves forth back ones others old (other_acts act ∷ ms) new run =
    IsActByRule (IsYoungCall back ones old.one) old.one.sent act old.other run.0.other run.1.0.0
    × IsBoundedBy act run.0.other run.0.one
    × AreYoungMoves forth back ones
    (aged_by others old.one.sent act old.other run.0.other run.1.0.0) run.0 ms new run.1.1

-- ## What was made, after moves

-- by the one, and by the other
abbrev pub aged_one : List Aged → (old : Hosts) (moves : List Move) (new : Hosts)
    → MovesTo old moves new → List Aged
aged_one ages old [] new run = ages
aged_one ages old (one_acts act ∷ ms) new run =
    aged_one (aged_by ages old.other.sent act old.one run.0.one run.1.0.0) run.0 ms new run.1.1
aged_one ages old (other_acts act ∷ ms) new run = aged_one ages run.0 ms new run.1.1

abbrev pub aged_other : List Aged → (old : Hosts) (moves : List Move) (new : Hosts)
    → MovesTo old moves new → List Aged
aged_other ages old [] new run = ages
aged_other ages old (one_acts act ∷ ms) new run = aged_other ages run.0 ms new run.1.1
aged_other ages old (other_acts act ∷ ms) new run =
    aged_other (aged_by ages old.one.sent act old.other run.0.other run.1.0.0) run.0 ms new run.1.1

-- ## Two of them, as a caller has them

abbrev pub IsYoungLink : (forth back : Way) (one other : Party)
    → AreLinked forth back one other → Type 0
IsYoungLink forth back one other link =
    AreYoungMoves forth back [] [] (hosts (first_host forth) (first_host back)) link.moves
    (hosts (host_at one) (host_at other)) link.run

-- what each made since `new`
abbrev pub made_by_one : (forth back : Way) (one other : Party)
    → AreLinked forth back one other → List Aged
made_by_one forth back one other link =
    aged_one [] (hosts (first_host forth) (first_host back)) link.moves
    (hosts (host_at one) (host_at other)) link.run

abbrev pub made_by_other : (forth back : Way) (one other : Party)
    → AreLinked forth back one other → List Aged
made_by_other forth back one other link =
    aged_other [] (hosts (first_host forth) (first_host back)) link.moves
    (hosts (host_at one) (host_at other)) link.run

-- acts of the one: out is the way to the peer, which made these chunks
abbrev pub AreYoungActs : (out : Way) (others : List Aged) (peer : Host) (acts : List Act)
    (old new : Host) → ActsEach peer.sent acts old new → Type 0
AreYoungActs out others peer [] old new done = ⊤
AreYoungActs out others peer (act ∷ acts) old new done =
    IsActByRule (IsYoungCall out others peer) peer.sent act old done.0 done.1.0
    × IsBoundedBy act done.0 peer × AreYoungActs out others peer acts done.0 new done.1.1

-- what it made, after these
abbrev pub aged_each : List Aged → (peer : List (List ℕ)) (acts : List Act) (old new : Host)
    → ActsEach peer acts old new → List Aged
aged_each ages peer [] old new done = ages
aged_each ages peer (act ∷ acts) old new done =
    aged_each (aged_by ages peer act old done.0 done.1.0) peer acts done.0 new done.1.1
