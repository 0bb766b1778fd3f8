-- Two associations that begin once, whatever else datagrams bring: streams are closed or reset, TSNs noted without their chunks, and names of streams
-- that are not open passed over.
use Rattle.std.specs.Prelude.{◌≡◌, ◌≢◌, All, AllPairs, ⊤, ℕ, Bool, true, false, List, [], ◌∷◌, ◌++◌, Contains}
use Rattle.std.specs.List.{filter}
use Rattle.sctp_association.specs.declared.association.Association.{Association}
use Rattle.sctp_association.specs.Ages.{AreYoungActs, IsYoungCall, IsYoungLink, aged_each, made_by_one, made_by_other}
use Rattle.sctp_association.specs.Arrivals.{Arrival, Arrives, Does, Halves, IsBrought, Steps, begins, halves, hears, receives, renews, restarts}
use Rattle.sctp_association.specs.Beginnings.{ArrivesAsOffered, IsBegunBy}
use Rattle.sctp_association.specs.Halves.{halves_of}
use Rattle.sctp_association.specs.HostCalls.{ActsEach, Log, host_of}
use Rattle.sctp_association.specs.Hosts.{Act, Acts, AreByRule, AreMovesByRule, ArePlainMoves, Host, Hosts, IsActByRule, IsFit, IsPlain, IsReceiver, Move}
use Rattle.sctp_association.specs.Hosts.{MovesTo}
use Rattle.sctp_association.specs.Hosts.{NamesOpen, Way, WroteFew, asks, first_host, handles, hosts, one_acts, other_acts, polls, reads_on}
use Rattle.sctp_association.specs.Links.{AreActsByRule, AreLinked, Party, host_at}
use Rattle.sctp_data.specs.ForwardTsn.{ForwardTsn}
use Rattle.sctp_delivery.specs.EveryCall.{AnyCall, AreSingle, AreSingleWritesOfTheirOwn, AreToldApart, AreWritesWhereSingle, closes, closes_incoming}
use Rattle.sctp_delivery.specs.EveryCall.{discards, is_single, makes, of_receiving, of_sending, passes_over, resets, resets_incoming, single_messages}
use Rattle.sctp_delivery.specs.EveryCall.{takes_back}
use Rattle.sctp_delivery.specs.EveryEnd.{IsOrderedReadInTheEnd, IsSentReadInTheEnd, IsUnorderedReadInTheEnd, abandoned_any, dropped_any}
use Rattle.sctp_delivery.specs.EveryOrder.{AreReadInTurnWhereUnbroken, AreSingleReadAsWritten, AreSingleReadInOrder, is_unbroken}
use Rattle.sctp_delivery.specs.Messages.{AreParts, IsWrite, NoneIsReadTwice, StandAt}
use Rattle.sctp_delivery.specs.Recent.{Aged}
use Rattle.sctp_delivery.specs.Returns.{IsAccountedSo, at_start_with}
use Rattle.sctp_delivery.specs.SenderCalls.{Write}
use Rattle.sctp_delivery.specs.Session.{AreMade, AreMessages, Session}
use Rattle.sctp_delivery.specs.StandAny.{StandAny}
use Rattle.sctp_receiver.specs.ReceiverRuns as runs
use Rattle.sctp_receiver.specs.ReceiverRuns.{Message}

-- ## What datagrams may bring

-- whatever call it is; but the receiver begins once, as the way of the peer does, and the sender does not begin anew
abbrev pub IsOneLife : Way → Arrival → Halves → Type 0
IsOneLife w (receives call) h = ⊤
IsOneLife w (hears call) h = ⊤
IsOneLife w (begins tsn max limits) h = IsPlain w (begins tsn max limits) h
IsOneLife w (renews tsn size max) h = ⊥

-- forth is the way from the one to the other
abbrev pub AreOneLife : (forth back : Way) (old : Hosts) (moves : List Move) (new : Hosts)
    → MovesTo old moves new → Type 0
AreOneLife forth back old moves new run =
    AreMovesByRule (IsOneLife back) (IsOneLife forth) old moves new run

-- ## What datagrams brought

-- a call that a datagram brought, and the halves that it found
pub record Brought : Type 0 where
  pub call : Arrival
  pub found : Halves

abbrev pub brought : Arrival → Halves → Brought
brought a h = record { call = a; found = h }

abbrev pub brought_in : (datagram : List ℕ) (calls : List Arrival) (old new : Halves)
    → Steps (IsBrought datagram) Does calls old new → List Brought
brought_in datagram [] old new run = []
brought_in datagram (a ∷ calls) old new run =
    brought a old ∷ brought_in datagram calls run.0 new run.1.1

abbrev pub brought_by : (peer : List (List ℕ)) (act : Act) (old new : Host)
    → Acts peer act old new → List Brought
brought_by peer (asks call) old new done = []
brought_by peer (reads_on stream) old new done = []
brought_by peer (polls is_sent datagram) old new done = []
brought_by peer (handles datagram) old new done =
    brought_in datagram done.arrives.calls (halves old.sender old.receiver)
    (halves new.sender new.receiver) done.arrives.run

-- what they brought to the one, and to the other, the first first
abbrev pub brought_to_one : (old : Hosts) (moves : List Move) (new : Hosts)
    → MovesTo old moves new → List Brought
brought_to_one old [] new run = []
brought_to_one old (one_acts act ∷ ms) new run =
    brought_by old.other.sent act old.one run.0.one run.1.0.0
    ++ brought_to_one run.0 ms new run.1.1
brought_to_one old (other_acts act ∷ ms) new run = brought_to_one run.0 ms new run.1.1

abbrev pub brought_to_other : (old : Hosts) (moves : List Move) (new : Hosts)
    → MovesTo old moves new → List Brought
brought_to_other old [] new run = []
brought_to_other old (one_acts act ∷ ms) new run = brought_to_other run.0 ms new run.1.1
brought_to_other old (other_acts act ∷ ms) new run =
    brought_by old.one.sent act old.other run.0.other run.1.0.0
    ++ brought_to_other run.0 ms new run.1.1

-- the call is one of these
abbrev pub Came : List Brought → Arrival → Type 0
Came bs a = (found : Halves) × Contains bs (brought a found)

-- ## What the session has

-- a call that sessions of plain calls do not have
abbrev pub is_other : AnyCall → Bool
is_other (makes call) = false
is_other (of_sending (takes_back sack back)) = false
is_other (of_sending (closes stream)) = true
is_other (of_sending (resets stream)) = true
is_other (of_receiving call) = true

abbrev pub others_of : List AnyCall → List AnyCall
others_of calls = filter is_other calls

-- the FORWARD-TSN is one of these, and it named a stream that was not open
abbrev pub CamePastClosed : List Brought → ForwardTsn → Type 0
CamePastClosed bs f =
    (found : Halves) × Contains bs (brought (receives (runs.forwards f)) found)
    × (NamesOpen f found.receiver → ⊥)

-- a datagram brought such a call, to the host of the sender or to that of the receiver. None has the sender close a stream
abbrev pub WasBrought : (to_sender to_receiver : List Brought) → AnyCall → Type 0
WasBrought to_sender to_receiver (makes call) = ⊤
WasBrought to_sender to_receiver (of_sending (takes_back sack back)) = ⊤
WasBrought to_sender to_receiver (of_sending (closes stream)) = ⊥
WasBrought to_sender to_receiver (of_sending (resets stream)) =
    Came to_sender (hears (restarts stream))
WasBrought to_sender to_receiver (of_receiving (discards c)) =
    Came to_receiver (receives (runs.discards c.tsn))
WasBrought to_sender to_receiver (of_receiving (closes_incoming stream)) =
    Came to_receiver (receives (runs.closes stream))
WasBrought to_sender to_receiver (of_receiving (resets_incoming stream last)) =
    Came to_receiver (receives (runs.resets stream last))
WasBrought to_sender to_receiver (of_receiving (passes_over f)) = CamePastClosed to_receiver f

-- no datagram had the sender begin the stream again
abbrev pub IsSteady : (to_sender : List Brought) (stream : ℕ) → Type 0
IsSteady to_sender stream = Came to_sender (hears (restarts stream)) → ⊥

-- nor had one a host close or reset the stream; and none came without its chunk, and none named a stream that was not open
pub record IsUntouched (to_sender to_receiver : List Brought) (stream : ℕ) : Type 0 where
  pub begun : IsSteady to_sender stream
  pub closed : Came to_receiver (receives (runs.closes stream)) → ⊥
  pub reset : (last : ℕ) → Came to_receiver (receives (runs.resets stream last)) → ⊥
  pub noted : (tsn : ℕ) → Came to_receiver (receives (runs.discards tsn)) → ⊥
  pub passed : (f : ForwardTsn) → CamePastClosed to_receiver f → ⊥

-- on a steady stream, of the fragments of a message none but the first begins one
abbrev pub AreSingleOnSteady : (to_sender : List Brought) → List Message → Type 0
AreSingleOnSteady to_sender ms =
    All (λ m. IsSteady to_sender m.stream → is_single m.fragments ≡ true) ms

-- ## The law

-- the messages that calls of the session abandoned or let expire
abbrev pub abandoned_any_in : StandAny → List ℕ
abandoned_any_in st =
    abandoned_any (at_start_with st.reported st.tsn st.size st.max st.most st.limits)
    st.calls st.session st.run

-- those of which the receiver dropped a chunk that had not come
abbrev pub dropped_any_in : StandAny → List ℕ
dropped_any_in st =
    dropped_any (at_start_with st.reported st.tsn st.size st.max st.most st.limits)
    st.calls st.session st.run

-- no datagram brought a TSN without its chunk
abbrev pub NoneWasDropped : (to_receiver : List Brought) → Type 0
NoneWasDropped to_receiver =
    (tsn : ℕ) → Came to_receiver (receives (runs.discards tsn)) → ⊥

-- the sender of the one and the receiver of the other stand in a session of every call (`sctp_delivery`), in which was written what the one wrote, and
-- read what the other read; each call of it that sessions of plain calls do not have was brought. So each byte is accounted for, and each message that
-- is read is whole, of fragments that are parts of writes. A message of which no fragment but the first begins one is a write at a place of its
-- own. Each is so on a stream that the sender did not begin again; and each on all, where of two ordered messages of a stream that are sent one right
-- behind the other the second has a number of its own. On an untouched stream ordered messages, and what was written while it was ordered, are
-- read in the order of their writes
pub record DeliversIn (w : Way) (to_sender to_receiver : List Brought) (a b : Host)
    (calls : List AnyCall) (s : Session) : Type 0 where
  pub sends : s.sending.sender ≡ a.sender
  pub receives : IsReceiver w b.receiver s.receiving.receiver
  pub written : s.written ≡ a.written
  pub read : s.receiving.read ≡ b.read
  pub others : All (WasBrought to_sender to_receiver) (others_of calls)
  pub bytes : IsAccountedSo s
  pub made : AreMade s
  pub whole : AreMessages s
  pub parts : AreParts s
  pub writes : AreWritesWhereSingle s
  pub own : AreSingleWritesOfTheirOwn s
  pub steady : AreSingleOnSteady to_sender b.read
  pub apart : AreToldApart s → AreSingle s
  pub unbroken : (stream : ℕ) → IsUntouched to_sender to_receiver stream
      → is_unbroken calls stream ≡ true
  pub order : AreSingleReadInOrder calls s
  pub modes : AreSingleReadAsWritten calls s
  pub turn : AreReadInTurnWhereUnbroken calls s

-- in a session that gives out few TSNs no fragment is read twice, too. Where nothing waits, is in flight or is to be read, each write on an untouched
-- stream was read exactly once, unless it expired or was abandoned. Of an unordered write the receiver may have dropped a chunk, where a datagram
-- brought that
pub record DeliversAny (w : Way) (to_sender to_receiver : List Brought) (a b : Host) : Type 0 where
  pub stand : StandAny
  pub delivers : DeliversIn w to_sender to_receiver a b stand.calls stand.session
  pub once : NoneIsReadTwice stand.session
  pub end : IsOrderedReadInTheEnd (abandoned_any_in stand) stand.calls stand.session
  pub chunks : IsSentReadInTheEnd stand.calls stand.session
  pub unordered : IsUnorderedReadInTheEnd (abandoned_any_in stand ++ dropped_any_in stand)
      stand.calls stand.session
  pub dropped : NoneWasDropped to_receiver → dropped_any_in stand ≡ []

-- so it is both ways, whatever two associations do from `new` on, and whatever becomes of their datagrams
abbrev pub EachDeliversAny : Type 0
EachDeliversAny =
    (forth back : Way) (moves : List Move) (new : Hosts)
    (run : MovesTo (hosts (first_host forth) (first_host back)) moves new)
    → AreOneLife forth back (hosts (first_host forth) (first_host back)) moves new run
    → IsFit forth → IsFit back → WroteFew new.one → WroteFew new.other
    → DeliversAny forth (brought_to_one (hosts (first_host forth) (first_host back)) moves new run)
    (brought_to_other (hosts (first_host forth) (first_host back)) moves new run) new.one new.other
    × DeliversAny back (brought_to_other (hosts (first_host forth) (first_host back)) moves new run)
    (brought_to_one (hosts (first_host forth) (first_host back)) moves new run) new.other new.one

-- where each call is plain, each is so
abbrev pub EachPlainIsOneLife : Type 0
EachPlainIsOneLife =
    (forth back : Way) (old : Hosts) (moves : List Move) (new : Hosts)
    (run : MovesTo old moves new) → ArePlainMoves forth back old moves new run
    → AreOneLife forth back old moves new run

-- ## Two of them, as a caller has them

abbrev pub IsOneLifeLink : (forth back : Way) (one other : Party)
    → AreLinked forth back one other → Type 0
IsOneLifeLink forth back one other link =
    AreOneLife forth back (hosts (first_host forth) (first_host back)) link.moves
    (hosts (host_at one) (host_at other)) link.run

-- what datagrams brought to each meanwhile
abbrev pub came_to_one : (forth back : Way) (one other : Party)
    → AreLinked forth back one other → List Brought
came_to_one forth back one other link =
    brought_to_one (hosts (first_host forth) (first_host back)) link.moves
    (hosts (host_at one) (host_at other)) link.run

abbrev pub came_to_other : (forth back : Way) (one other : Party)
    → AreLinked forth back one other → List Brought
came_to_other forth back one other link =
    brought_to_other (hosts (first_host forth) (first_host back)) link.moves
    (hosts (host_at one) (host_at other)) link.run

-- each message that was read on a stream which the sender did not begin again is one that was written
abbrev pub AreWritesOnSteady : (to_sender : List Brought) → List Write → List Message → Type 0
AreWritesOnSteady to_sender ws ms =
    All (λ m. IsSteady to_sender m.stream → (w : Write) × Contains ws w × IsWrite m w) ms

-- those of which no fragment but the first begins one are writes at places of their own. Both lists have the last one first
abbrev pub AreOfTheirOwn : List Write → List Message → Type 0
AreOfTheirOwn ws ms =
    (places : List ℕ) × StandAt ws (single_messages ms) places
    × AllPairs (λ p q. p ≢ q) places

-- what the other read the one wrote
pub record IsReadAsWrittenAny (w : Way) (to_sender to_receiver : List Brought) (one other : Party)
    : Type 0 where
  pub delivers : DeliversAny w to_sender to_receiver (host_at one) (host_at other)
  pub writes : AreWritesOnSteady to_sender one.log.written other.log.read
  pub own : AreOfTheirOwn one.log.written other.log.read

abbrev pub EachLinkDeliversAny : Type 0
EachLinkDeliversAny =
    (forth back : Way) (one other : Party) (link : AreLinked forth back one other)
    → IsOneLifeLink forth back one other link → IsFit forth → IsFit back
    → WroteFew (host_at one) → WroteFew (host_at other)
    → IsReadAsWrittenAny forth (came_to_one forth back one other link)
    (came_to_other forth back one other link) one other
    × IsReadAsWrittenAny back (came_to_other forth back one other link)
    (came_to_one forth back one other link) other one

-- ## What leads on

-- two that were made by `new`: no datagram came, and nothing was made
abbrev pub EachOneLifeBegins : Type 0
EachOneLifeBegins =
    (forth back : Way) (one other : Party) → host_at one ≡ first_host forth
    → host_at other ≡ first_host back
    → (link : AreLinked forth back one other) × IsOneLifeLink forth back one other link
    × (came_to_one forth back one other link ≡ [])
    × (came_to_other forth back one other link ≡ [])
    × IsYoungLink forth back one other link × (made_by_one forth back one other link ≡ [])
    × (made_by_other forth back one other link ≡ [])

-- acts of the one bring these calls
abbrev pub brought_each : (peer : List (List ℕ)) (acts : List Act) (old new : Host)
    → ActsEach peer acts old new → List Brought
brought_each peer [] old new done = []
brought_each peer (act ∷ acts) old new done =
    brought_by peer act old done.0 done.1.0 ++ brought_each peer acts done.0 new done.1.1

-- acts of the one: those that a clause of a call says (`HostCalls`)
abbrev pub EachOneLifeGoesOn : Type 0
EachOneLifeGoesOn =
    (forth back : Way) (acts : List Act) (old new other : Party)
    (link : AreLinked forth back old other)
    (done : ActsEach other.log.sent acts (host_at old) (host_at new))
    → (next : AreLinked forth back new other)
    × (IsOneLifeLink forth back old other link
    → AreActsByRule (IsOneLife back) other.log.sent acts (host_at old) (host_at new) done
    → IsOneLifeLink forth back new other next)
    × (came_to_one forth back new other next
    ≡ came_to_one forth back old other link
    ++ brought_each other.log.sent acts (host_at old) (host_at new) done)
    × (came_to_other forth back new other next ≡ came_to_other forth back old other link)
    × (IsYoungLink forth back old other link
    → AreYoungActs forth (made_by_other forth back old other link) (host_at other) acts
    (host_at old) (host_at new) done → IsYoungLink forth back new other next)
    × (made_by_one forth back new other next
    ≡ aged_each (made_by_one forth back old other link) other.log.sent acts
    (host_at old) (host_at new) done)
    × (made_by_other forth back new other next ≡ made_by_other forth back old other link)

-- the two change places
abbrev pub EachOneLifeTurns : Type 0
EachOneLifeTurns =
    (forth back : Way) (one other : Party) (link : AreLinked forth back one other)
    → (turned : AreLinked back forth other one)
    × (IsOneLifeLink forth back one other link → IsOneLifeLink back forth other one turned)
    × (came_to_one back forth other one turned ≡ came_to_other forth back one other link)
    × (came_to_other back forth other one turned ≡ came_to_one forth back one other link)
    × (IsYoungLink forth back one other link → IsYoungLink back forth other one turned)
    × (made_by_one back forth other one turned ≡ made_by_other forth back one other link)
    × (made_by_other back forth other one turned ≡ made_by_one forth back one other link)

-- `handle_datagram` of one that the peer wrote: it brings these calls
abbrev pub EachDatagramBrings : Type 0
EachDatagramBrings =
    (datagram : List ℕ) (a b : Association) (l : Log) (peer : List (List ℕ))
    → Contains peer datagram → (came : Arrives datagram (halves_of a) (halves_of b))
    → (done : Acts peer (handles datagram) (host_of a l) (host_of b l))
    × ((w : Way) → AreByRule (IsOneLife w) datagram came.calls (halves_of a) (halves_of b) came.run
    → IsActByRule (IsOneLife w) peer (handles datagram) (host_of a l) (host_of b l) done)
    × (brought_by peer (handles datagram) (host_of a l) (host_of b l) done
    ≡ brought_in datagram came.calls (halves_of a) (halves_of b) came.run)
    × ((out : Way) (ages : List Aged) (z : Host)
    → AreByRule (IsYoungCall out ages z) datagram came.calls (halves_of a) (halves_of b) came.run
    → IsActByRule (IsYoungCall out ages z) peer (handles datagram) (host_of a l) (host_of b l) done)

-- and by whose offers halves begin, `handle_datagram` says (`offered`)
abbrev pub EachOfferedIsBrought : Type 0
EachOfferedIsBrought =
    (datagram : List ℕ) (a b : Association) → ArrivesAsOffered datagram a b
    → (came : Arrives datagram (halves_of a) (halves_of b))
    × AreByRule (λ call found. IsBegunBy datagram a b call) datagram came.calls
    (halves_of a) (halves_of b) came.run
