-- Two associations from `new` on, as a caller has them: what each of their calls makes of that, and what holds then.
use Rattle.std.specs.Prelude.{◌≡◌, ◌≢◌, AllPairs, ⊤, ℕ, ◌<◌, ◌≤◌, List, [], ◌∷◌}
use Rattle.sctp_association.specs.declared.association.Association.{Association}
use Rattle.sctp_association.specs.Arrivals.{Arrival, Halves}
use Rattle.sctp_association.specs.HostCalls.{ActsEach, Log, host_of}
use Rattle.sctp_association.specs.Hosts.{Act, ArePlainMoves, Delivers, Host, IsActByRule, IsFit, IsPlain, Move, MovesTo, Way, WroteFew, bytes_of, first_host}
use Rattle.sctp_association.specs.Hosts.{hosts}
use Rattle.sctp_delivery.specs.Messages.{StandAt}
use Rattle.sctp_delivery.specs.Order.{ordered_places}
use Rattle.sctp_delivery.specs.SenderCalls.{Write}
use Rattle.sctp_receiver.specs.ReceiverRuns.{Message}

-- ## Two of them

-- an association, and what became of it
pub record Party : Type 0 where
  pub association : Association
  pub log : Log

abbrev pub party : Association → Log → Party
party a l = record { association = a; log = l }

abbrev pub host_at : Party → Host
host_at x = host_of x.association x.log

-- from `new` on, such moves led to these two; forth is the way from the one to the other
pub record AreLinked (forth back : Way) (one other : Party) : Type 0 where
  pub moves : List Move
  pub run : MovesTo (hosts (first_host forth) (first_host back)) moves
      (hosts (host_at one) (host_at other))

-- each call that a datagram brought meanwhile was plain
abbrev pub IsPlainLink : (forth back : Way) (one other : Party) → AreLinked forth back one other
    → Type 0
IsPlainLink forth back one other link =
    ArePlainMoves forth back (hosts (first_host forth) (first_host back)) link.moves
    (hosts (host_at one) (host_at other)) link.run

-- ## What leads on

-- two that were made by `new`
abbrev pub EachTwoBegin : Type 0
EachTwoBegin =
    (forth back : Way) (one other : Party) → host_at one ≡ first_host forth
    → host_at other ≡ first_host back
    → (link : AreLinked forth back one other) × IsPlainLink forth back one other link

abbrev pub AreActsByRule : (Rule : Arrival → Halves → Type 0) (peer : List (List ℕ))
    (acts : List Act) (old new : Host) → ActsEach peer acts old new → Type 0
AreActsByRule Rule peer [] old new done = ⊤
AreActsByRule Rule peer (act ∷ acts) old new done =
    IsActByRule Rule peer act old done.0 done.1.0
    × AreActsByRule Rule peer acts done.0 new done.1.1

abbrev pub ArePlainActs : (w : Way) (peer : List (List ℕ)) (acts : List Act) (old new : Host)
    → ActsEach peer acts old new → Type 0
ArePlainActs w peer acts old new done = AreActsByRule (IsPlain w) peer acts old new done

-- acts of the one: those that a clause of a call says (`HostCalls`)
abbrev pub EachLinkGoesOn : Type 0
EachLinkGoesOn =
    (forth back : Way) (acts : List Act) (old new other : Party)
    (link : AreLinked forth back old other)
    (done : ActsEach other.log.sent acts (host_at old) (host_at new))
    → (next : AreLinked forth back new other)
    × (IsPlainLink forth back old other link
    → ArePlainActs back other.log.sent acts (host_at old) (host_at new) done
    → IsPlainLink forth back new other next)

-- the two change places: so what holds of the one holds of the other
abbrev pub EachLinkTurns : Type 0
EachLinkTurns =
    (forth back : Way) (one other : Party) (link : AreLinked forth back one other)
    → (turned : AreLinked back forth other one)
    × (IsPlainLink forth back one other link → IsPlainLink back forth other one turned)

-- ## What holds

-- each message that was read is a write at a place of its own, on that stream, with that payload type and those bytes; and of two ordered ones of
-- a stream the one that was read later was written later. Both lists have the last one first
abbrev pub AreInOrder : List Write → List Message → Type 0
AreInOrder ws ms =
    (places : List ℕ) × StandAt ws ms places × AllPairs (λ p q. p ≢ q) places
    × ((stream : ℕ) → AllPairs (λ p q. p < q) (ordered_places stream ms places))

-- what the other read the one wrote
pub record IsReadAsWritten (w : Way) (one other : Party) : Type 0 where
  pub delivers : Delivers w (host_at one) (host_at other)
  pub order : AreInOrder one.log.written other.log.read

abbrev pub EachLinkDelivers : Type 0
EachLinkDelivers =
    (forth back : Way) (one other : Party) (link : AreLinked forth back one other)
    → IsPlainLink forth back one other link → IsFit forth → IsFit back
    → WroteFew (host_at one) → WroteFew (host_at other)
    → IsReadAsWritten forth one other × IsReadAsWritten back other one

-- fewer fragments than bytes: so what was written shows that it is few
abbrev pub EachLinkIsCut : Type 0
EachLinkIsCut =
    (forth back : Way) (one other : Party) → AreLinked forth back one other
    → (one.log.fragments ≤ bytes_of one.log.written)
    × (other.log.fragments ≤ bytes_of other.log.written)
