-- An association as it stands, and the steps that inputs have in common.
use Rattle.std.specs.Prelude.{◌≡◌, min, Bool, true, false, ◌&&◌, is_some, Option, Some, None}
use Rattle.sctp_handshake.specs.declared.answer.Answer.{Answer}
use Rattle.sctp_handshake.specs.declared.answer.Reply.{Reply}
use Rattle.sctp_handshake.specs.declared.answer.Told.TheVariants as told
use Rattle.sctp_handshake.specs.declared.machine.Agreed.{Agreed}
use Rattle.sctp_handshake.specs.declared.machine.Limits.{Limits}
use Rattle.sctp_handshake.specs.declared.machine.Machine.{Machine}
use Rattle.sctp_handshake.specs.declared.offer.Offer.{Offer}
use Rattle.sctp_handshake.specs.declared.state.State.{State}
use Rattle.sctp_handshake.specs.declared.state.State.TheVariants.{Closed, CookieWait, CookieEchoed, Established}
use Rattle.sctp_handshake.specs.declared.state.State.TheVariants.{ShutdownPending, ShutdownSent, ShutdownReceived, ShutdownAckSent}
use Rattle.sctp_handshake.specs.declared.ticket.TieTags.{TieTags}
use Rattle.sctp_handshake.specs.Answers.{silent, replied, noticed}

abbrev pub new_machine : Offer → Limits → Machine
new_machine own limits = record {
  state = Closed;
  own = own;
  peer = None;
  limits = limits;
  attempts = 0;
  stale = 0;
  has_restarted = false;
}

-- the peer is known from the INIT ACK on (RFC 9260 5.1 C)
abbrev pub knows_peer : State → Bool
knows_peer Closed = false
knows_peer CookieWait = false
knows_peer CookieEchoed = true
knows_peer Established = true
knows_peer ShutdownPending = true
knows_peer ShutdownSent = true
knows_peer ShutdownReceived = true
knows_peer ShutdownAckSent = true

abbrev pub KnowsPeer : Machine → Type 0
KnowsPeer m = is_some m.peer ≡ knows_peer m.state

-- each side may send on as many streams as it wants and the other takes (RFC 9260 5.1.1)
abbrev pub agreed_with : Offer → Offer → Agreed
agreed_with own peer = record {
  outbound_streams = min own.outbound_streams peer.inbound_streams;
  inbound_streams = min own.inbound_streams peer.outbound_streams;
  forward_tsn = own.forward_tsn && peer.forward_tsn;
  reconfig = own.reconfig && peer.reconfig;
}

abbrev pub agreed_by : Offer → Option Offer → Option Agreed
agreed_by own None = None
agreed_by own (Some peer) = Some (agreed_with own peer)

abbrev pub agreed : Machine → Option Agreed
agreed m = agreed_by m.own m.peer

-- the tie-tags of an association: its own tags, where both are known (RFC 9260 5.2.2)
abbrev pub tie_tags_by : Offer → Option Offer → Option TieTags
tie_tags_by own None = None
tie_tags_by own (Some peer) = Some (record { own = own.tag; peer = peer.tag })

abbrev pub tie_tags_of : Machine → Option TieTags
tie_tags_of m = tie_tags_by m.own m.peer

-- a state is entered, and its timer begins
abbrev pub into : State → Machine → Machine
into s m = record m { state = s; attempts = 0 }

-- the association ends, and what was known of it goes
abbrev pub closed : Machine → Machine
closed m = record m { state = Closed; peer = None; attempts = 0; stale = 0 }

-- ## A step: what an input leaves, and what it is answered

pub record Step : Type 0 where
  pub machine : Machine
  pub answer : Answer

-- the input is dropped
abbrev pub dropped : Machine → Step
dropped m = record { machine = m; answer = silent }

-- it is answered, and nothing changes
abbrev pub answered : Reply → Machine → Step
answered r m = record { machine = m; answer = replied r }

-- it ends the association, and the application is told that it failed
abbrev pub failed : Machine → Step
failed m = record { machine = closed m; answer = noticed told.Failed }

-- a call took a step
pub record Takes (s : Step) (new : Machine) (result : Answer) : Type 0 where
  pub machine : new ≡ s.machine
  pub answer : result ≡ s.answer
