-- Two associations from `new` on, as each knows the other: by INITs, INIT ACKs and cookies (RFC 9260 5.1).
use Rattle.std.specs.Prelude.{◌≡◌, ◌⊎◌, ℕ, ◌^◌, ◌<◌, ◌++◌, Bool, true, false, not, List, [], ◌∷◌, Contains, Some}
use Rattle.std.specs.List.{AllByRecursion}
use Rattle.sctp_association.specs.Arrivals.{Arrival, Does, IsBrought, Steps}
use Rattle.sctp_association.specs.Beginnings.{AnswersInit, ArrivesAsOffered, IsEchoed, IsMadeOf, OffersInit}
use Rattle.sctp_association.specs.Halves.{halves_of}
use Rattle.sctp_association.specs.HostCalls.{ActsEach, Log}
use Rattle.sctp_association.specs.Hosts.{Act, AreByRule, IsFit, Way, WroteFew, asks, bytes_of, first_host, handles as hands, polls, reads_on}
use Rattle.sctp_association.specs.Kept.{OwesTicket}
use Rattle.sctp_association.specs.Links.{AreLinked, Party, host_at, party}
use Rattle.sctp_association.specs.Lives.{Deed, DoesDeed, Knows, Life, handles, life_after, writes}
use Rattle.sctp_association.specs.OneLife.{Brought, IsOneLifeLink, IsReadAsWrittenAny, brought_in, came_to_one, came_to_other}
use Rattle.sctp_association.specs.Reached.{limits_of}
use Rattle.sctp_association.specs.Ages.{AreYoungActs, IsYoungCall, IsYoungLink, aged_each, made_by_one, made_by_other}
use Rattle.sctp_association.specs.Young.{IsReadAsWrittenYoung}
use Rattle.sctp_association.specs.declared.association.Association.{Association}
use Rattle.sctp_association.specs.declared.config.Config.{Config}
use Rattle.sctp_delivery.specs.Recent.{Aged}
use Rattle.sctp_handshake.specs.declared.offer.Offer.{Offer}
use Rattle.sctp_handshake.specs.declared.ticket.Ticket.{Ticket}

-- ## One of them

-- each INIT and INIT ACK of these datagrams offers this first TSN
abbrev pub OfferTsn : (tsn : ℕ) → (datagrams : List (List ℕ)) → Type 0
OfferTsn tsn datagrams =
    (d : List ℕ) → Contains datagrams d → (offer : Offer) → OffersInit d offer ⊎ AnswersInit d offer
    → offer.first_tsn ≡ tsn

-- its config is as the way on which it receives
pub record ReceivesBy (w : Way) (c : Config) : Type 0 where
  pub most : c.max_message_size ≡ w.most
  pub limits : limits_of c ≡ w.limits

-- `out` is the way on which it sends, and `back` that on which it receives. It offers one first TSN, that of its way, in tickets and in datagrams. The
-- peer that it knows has that of the way back
pub record IsSetUp (out back : Way) (l : Life) (x : Party) : Type 0 where
  pub knows : Knows l x.association
  pub own : x.association.machine.own.first_tsn ≡ out.tsn
  pub due : (ticket : Ticket) → OwesTicket x.association ticket → ticket.own.first_tsn ≡ out.tsn
  pub sealed : (ticket : Ticket) → Contains l.sealed ticket → ticket.own.first_tsn ≡ out.tsn
  pub sent : OfferTsn out.tsn x.log.sent
  pub peer : (offer : Offer) → x.association.machine.peer ≡ Some offer → offer.first_tsn ≡ back.tsn
  pub config : ReceivesBy back x.association.config

-- ## Both

-- what came the peer wrote
abbrev pub CameFrom : Life → Party → Type 0
CameFrom l peer = (d : List ℕ) → Contains l.came d → Contains peer.log.sent d

-- from `new` on each is set up so, and each receiver began once, with the first TSN of the peer (`OneLife`)
pub record AreSetUp (forth back : Way) (one other : Party) : Type 0 where
  pub life : Life
  pub peer_life : Life
  pub one_is : IsSetUp forth back life one
  pub other_is : IsSetUp back forth peer_life other
  pub came : CameFrom life other
  pub came_back : CameFrom peer_life one
  pub link : AreLinked forth back one other
  pub once : IsOneLifeLink forth back one other link

-- ## What leads on

-- two that were made by `new`
abbrev pub EachTwoAreSetUp : Type 0
EachTwoAreSetUp =
    (forth back : Way) (one other : Party) (c peer_c : Config) (key peer_key : List ℕ)
    → host_at one ≡ first_host forth → host_at other ≡ first_host back
    → IsMadeOf c key forth.tsn one.association → IsMadeOf peer_c peer_key back.tsn other.association
    → ReceivesBy back c → ReceivesBy forth peer_c
    → (set : AreSetUp forth back one other) × IsYoungLink forth back one other set.link
    × (made_by_one forth back one other set.link ≡ [])
    × (made_by_other forth back one other set.link ≡ [])

-- after this deed of the one they are set up, too. Its life goes on, that of the other stays, and datagrams brought so many calls more. Where what came
-- by it is young, all is that was before; and these are what the one made
pub record AreSetUpBy (forth back : Way) (old new other : Party) (set : AreSetUp forth back old other)
    (deed : Deed) (more : List Brought) (IsYoung : Type 0) (made : List Aged) : Type 0 where
  pub next : AreSetUp forth back new other
  pub life : next.life ≡ life_after deed old.association set.life
  pub peer_life : next.peer_life ≡ set.peer_life
  pub came : came_to_one forth back new other next.link
      ≡ came_to_one forth back old other set.link ++ more
  pub came_back : came_to_other forth back new other next.link
      ≡ came_to_other forth back old other set.link
  pub young : IsYoungLink forth back old other set.link → IsYoung
      → IsYoungLink forth back new other next.link
  pub made_then : made_by_one forth back new other next.link ≡ made
  pub made_back : made_by_other forth back new other next.link
      ≡ made_by_other forth back old other set.link

-- after these acts of the one
abbrev pub AreSetUpByActs : (forth back : Way) (old new other : Party)
    (set : AreSetUp forth back old other) → Deed → (acts : List Act)
    → ActsEach other.log.sent acts (host_at old) (host_at new) → Type 0
AreSetUpByActs forth back old new other set deed acts done =
    AreSetUpBy forth back old new other set deed []
    (AreYoungActs forth (made_by_other forth back old other set.link) (host_at other) acts
    (host_at old) (host_at new) done)
    (aged_each (made_by_one forth back old other set.link) other.log.sent acts
    (host_at old) (host_at new) done)

-- it writes and takes no datagram
abbrev pub is_quiet : Act → Bool
is_quiet (asks call) = true
is_quiet (reads_on stream) = true
is_quiet (polls is_sent datagram) = not is_sent
is_quiet (hands datagram) = false

abbrev pub AreQuiet : List Act → Type 0
AreQuiet acts = AllByRecursion (λ act. is_quiet act ≡ true) acts

-- no datagram comes or is written by it
abbrev pub is_silent : Deed → Bool
is_silent (writes datagram) = false
is_silent (handles datagram) = false
is_silent _ = true

-- a call that no datagram brings, and that writes none
abbrev pub EachQuietCallKeeps : Type 0
EachQuietCallKeeps =
    (forth back : Way) (deed : Deed) (acts : List Act) (old new other : Party)
    (set : AreSetUp forth back old other) → is_silent deed ≡ true
    → DoesDeed deed old.association new.association → AreQuiet acts
    → (done : ActsEach other.log.sent acts (host_at old) (host_at new))
    → new.log.sent ≡ old.log.sent → AreSetUpByActs forth back old new other set deed acts done

-- `poll_transmit`, where it answers true
abbrev pub EachWrittenKeeps : Type 0
EachWrittenKeeps =
    (forth back : Way) (d : List ℕ) (old new other : Party) (set : AreSetUp forth back old other)
    → DoesDeed (writes d) old.association new.association
    → (done : ActsEach other.log.sent (polls true d ∷ []) (host_at old) (host_at new))
    → new.log.sent ≡ d ∷ old.log.sent
    → AreSetUpByActs forth back old new other set (writes d) (polls true d ∷ []) done

-- no cookie of the datagram is forged: this side has sealed each ticket that it echoes
abbrev pub BringsOwnCookies : Life → (datagram : List ℕ) → Type 0
BringsOwnCookies l datagram =
    (ticket : Ticket) → IsEchoed datagram l.key ticket → Contains l.sealed ticket

-- the calls that the datagram brought are these
abbrev pub brought_with : (d : List ℕ) (a b : Association) (calls : List Arrival)
    → Steps (IsBrought d) Does calls (halves_of a) (halves_of b) → List Brought
brought_with d a b calls run = brought_in d calls (halves_of a) (halves_of b) run

-- what the datagram brought is young
abbrev pub BringsYoung : (forth back : Way) (d : List ℕ) (a b : Association) (l : Log)
    (other : Party) (set : AreSetUp forth back (party a l) other) (calls : List Arrival)
    → Steps (IsBrought d) Does calls (halves_of a) (halves_of b) → Type 0
BringsYoung forth back d a b l other set calls run =
    AreByRule (IsYoungCall forth (made_by_other forth back (party a l) other set.link) (host_at other)) d
    calls (halves_of a) (halves_of b) run

-- `handle_datagram` of one that the peer wrote, where the peer has not begun again (RFC 9260 5.2.4 A)
abbrev pub EachDatagramKeeps : Type 0
EachDatagramKeeps =
    (forth back : Way) (d : List ℕ) (a b : Association) (l : Log) (other : Party)
    (set : AreSetUp forth back (party a l) other) → Contains other.log.sent d
    → (f : ArrivesAsOffered d a b) → BringsOwnCookies set.life d
    → b.machine.has_restarted ≡ false
    → (run : Steps (IsBrought d) Does f.arrives.calls (halves_of a) (halves_of b))
    × AreSetUpBy forth back (party a l) (party b l) other set (handles d)
    (brought_with d a b f.arrives.calls run)
    (BringsYoung forth back d a b l other set f.arrives.calls run)
    (made_by_one forth back (party a l) other set.link)

-- the two change places
abbrev pub EachSetUpTurns : Type 0
EachSetUpTurns =
    (forth back : Way) (one other : Party) (set : AreSetUp forth back one other)
    → (turned : AreSetUp back forth other one)
    × (came_to_one back forth other one turned.link
    ≡ came_to_other forth back one other set.link)
    × (came_to_other back forth other one turned.link
    ≡ came_to_one forth back one other set.link)
    × (IsYoungLink forth back one other set.link → IsYoungLink back forth other one turned.link)
    × (made_by_one back forth other one turned.link
    ≡ made_by_other forth back one other set.link)
    × (made_by_other back forth other one turned.link
    ≡ made_by_one forth back one other set.link)

-- ## What holds

abbrev pub EachSetUpDelivers : Type 0
EachSetUpDelivers =
    (forth back : Way) (one other : Party) (set : AreSetUp forth back one other)
    → IsFit forth → IsFit back → WroteFew (host_at one) → WroteFew (host_at other)
    → IsReadAsWrittenAny forth (came_to_one forth back one other set.link)
    (came_to_other forth back one other set.link) one other
    × IsReadAsWrittenAny back (came_to_other forth back one other set.link)
    (came_to_one forth back one other set.link) other one

-- and in a whole life, while nothing that datagrams bring is old
abbrev pub EachSetUpDeliversYoung : Type 0
EachSetUpDeliversYoung =
    (forth back : Way) (one other : Party) (set : AreSetUp forth back one other)
    → IsYoungLink forth back one other set.link → IsFit forth → IsFit back
    → bytes_of one.log.written < 2 ^ 64 → bytes_of other.log.written < 2 ^ 64
    → IsReadAsWrittenYoung forth (came_to_one forth back one other set.link)
    (came_to_other forth back one other set.link) one other
    × IsReadAsWrittenYoung back (came_to_other forth back one other set.link)
    (came_to_one forth back one other set.link) other one
