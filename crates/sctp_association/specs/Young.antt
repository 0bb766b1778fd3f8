-- Two associations in a whole life: nothing that datagrams bring is 2^31 TSNs old (RFC 1982 3.2), however many TSNs were given out.
use Rattle.std.specs.Prelude.{ℕ, ◌^◌, ◌<◌, List, [], Option}
use Rattle.sctp_association.specs.Ages.{AreYoungMoves, IsYoungLink}
use Rattle.sctp_association.specs.Hosts.{ArePlainMoves, DeliversPlain, Host, Hosts, IsFit, Move, MovesTo, Way, WroteFew, bytes_of, first_host, hosts}
use Rattle.sctp_association.specs.Links.{AreInOrder, AreLinked, IsPlainLink, Party, host_at}
use Rattle.sctp_association.specs.OneLife.{AreOfTheirOwn, AreOneLife, AreWritesOnSteady, Brought, DeliversIn, IsOneLifeLink, brought_to_one, brought_to_other}
use Rattle.sctp_association.specs.OneLife.{came_to_one, came_to_other}
use Rattle.sctp_delivery.specs.EveryCall.{AnyCall, RunsAny}
use Rattle.sctp_delivery.specs.Returns.{at_start_with}
use Rattle.sctp_delivery.specs.Session.{Session}
use Rattle.sctp_receiver.specs.declared.receiver.limits.Limits.{Limits}
use Rattle.sctp_sender.specs.declared.sender.Reported.{Reported}

-- ## The law

-- a session of every call, and how its hosts began
pub record Ran : Type 0 where
  pub reported : Reported
  pub tsn : ℕ
  pub size : ℕ
  pub max : ℕ
  pub most : ℕ
  pub limits : Option Limits
  pub calls : List AnyCall
  pub session : Session
  pub run : RunsAny (at_start_with reported tsn size max most limits) calls session

-- such a session, however many TSNs it gives out. What is read in the end, and that no TSN is read twice, `DeliversAny` alone says, which asks for few
pub record DeliversYoung (w : Way) (to_sender to_receiver : List Brought) (a b : Host) : Type 0 where
  pub ran : Ran
  pub delivers : DeliversIn w to_sender to_receiver a b ran.calls ran.session

-- so it is both ways, whatever two associations do from `new` on
abbrev pub EachDeliversYoung : Type 0
EachDeliversYoung =
    (forth back : Way) (moves : List Move) (new : Hosts)
    (run : MovesTo (hosts (first_host forth) (first_host back)) moves new)
    → AreOneLife forth back (hosts (first_host forth) (first_host back)) moves new run
    → AreYoungMoves forth back [] [] (hosts (first_host forth) (first_host back)) moves new run
    → IsFit forth → IsFit back → bytes_of new.one.written < 2 ^ 64
    → bytes_of new.other.written < 2 ^ 64
    → DeliversYoung forth
    (brought_to_one (hosts (first_host forth) (first_host back)) moves new run)
    (brought_to_other (hosts (first_host forth) (first_host back)) moves new run) new.one new.other
    × DeliversYoung back
    (brought_to_other (hosts (first_host forth) (first_host back)) moves new run)
    (brought_to_one (hosts (first_host forth) (first_host back)) moves new run) new.other new.one

-- where each side writes few fragments, nothing is old: so `EachDeliversAny` is said of fewer than this
abbrev pub EachFewIsYoung : Type 0
EachFewIsYoung =
    (forth back : Way) (moves : List Move) (new : Hosts)
    (run : MovesTo (hosts (first_host forth) (first_host back)) moves new)
    → AreOneLife forth back (hosts (first_host forth) (first_host back)) moves new run
    → IsFit forth → IsFit back → WroteFew new.one → WroteFew new.other
    → AreYoungMoves forth back [] [] (hosts (first_host forth) (first_host back)) moves new run

-- ## Two of them, as a caller has them

-- what the other read the one wrote
pub record IsReadAsWrittenYoung (w : Way) (to_sender to_receiver : List Brought) (one other : Party)
    : Type 0 where
  pub delivers : DeliversYoung w to_sender to_receiver (host_at one) (host_at other)
  pub writes : AreWritesOnSteady to_sender one.log.written other.log.read
  pub own : AreOfTheirOwn one.log.written other.log.read

abbrev pub EachLinkDeliversYoung : Type 0
EachLinkDeliversYoung =
    (forth back : Way) (one other : Party) (link : AreLinked forth back one other)
    → IsOneLifeLink forth back one other link → IsYoungLink forth back one other link
    → IsFit forth → IsFit back → bytes_of one.log.written < 2 ^ 64
    → bytes_of other.log.written < 2 ^ 64
    → IsReadAsWrittenYoung forth (came_to_one forth back one other link)
    (came_to_other forth back one other link) one other
    × IsReadAsWrittenYoung back (came_to_other forth back one other link)
    (came_to_one forth back one other link) other one

-- ## Plain calls

-- where each call that a datagram brings is plain, too: so each message that was read was written, no write twice, and ordered ones in order
pub record DeliversPlainYoung (w : Way) (a b : Host) : Type 0 where
  pub ran : Ran
  pub delivers : DeliversPlain w a b ran.session

abbrev pub EachPlainDeliversYoung : Type 0
EachPlainDeliversYoung =
    (forth back : Way) (moves : List Move) (new : Hosts)
    (run : MovesTo (hosts (first_host forth) (first_host back)) moves new)
    → ArePlainMoves forth back (hosts (first_host forth) (first_host back)) moves new run
    → AreYoungMoves forth back [] [] (hosts (first_host forth) (first_host back)) moves new run
    → IsFit forth → IsFit back → bytes_of new.one.written < 2 ^ 64
    → bytes_of new.other.written < 2 ^ 64
    → DeliversPlainYoung forth new.one new.other × DeliversPlainYoung back new.other new.one

-- what the other read the one wrote
pub record IsReadPlainlyYoung (w : Way) (one other : Party) : Type 0 where
  pub delivers : DeliversPlainYoung w (host_at one) (host_at other)
  pub order : AreInOrder one.log.written other.log.read

abbrev pub EachPlainLinkDeliversYoung : Type 0
EachPlainLinkDeliversYoung =
    (forth back : Way) (one other : Party) (link : AreLinked forth back one other)
    → IsPlainLink forth back one other link → IsYoungLink forth back one other link
    → IsFit forth → IsFit back → bytes_of one.log.written < 2 ^ 64
    → bytes_of other.log.written < 2 ^ 64
    → IsReadPlainlyYoung forth one other × IsReadPlainlyYoung back other one
