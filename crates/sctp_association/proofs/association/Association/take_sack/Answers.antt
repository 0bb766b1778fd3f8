use Rattle.sctp_association.proofs.AcksOn.{acks_row}
use Rattle.std.proofs.Common.{Ok, ◌≡◌}
use Rattle.sctp_association.proofs.Ends.{forged_still, sack_there}
use Rattle.sctp_association.specs.Ends.{by_sack}
use Rattle.sctp_association.specs.declared.outbound.acks.SackTaken.TheVariants.{Forged}
use Rattle.std.proofs.Common.{ap, inr}
use Rattle.sctp_association.proofs.Rows.{follows_still, row_is, row_typ}
use Rattle.sctp_association.specs.Coming.{goes_on}
use Rattle.sctp_association.specs.Rows.{tag_to}
use Rattle.sctp_association.specs.declared.association.arrivals.Step.TheVariants.{Next}
use Rattle.sctp_handshake.specs.Machines.{dropped}
use Rattle.sctp_association.proofs.Telling.{end_then, to_low, to_same}
use Rattle.std.proofs.Common.{arith, refl, rules, sym, ◌∙◌}
use Rattle.sctp_association.proofs.Brought.{adds_more, brings_at, brings_none, low_sack}
use Rattle.sctp_association.specs.Brought.{low_by_sack}
use Rattle.sctp_association.specs.StreamSet.{is_in}
use Rattle.sctp_association.specs.declared.event.Events.{Events}
use Rattle.sctp_association.proofs.Entering.{calls_of_sack, may_use_by}
use Rattle.sctp_association.proofs.Arrived.{came_alike, came_same, came_then, sack_came}
use Rattle.sctp_association.proofs.Going.{sack_read}
use Rattle.sctp_association.proofs.Paths.{moves_in}
use Rattle.sctp_association.proofs.Sacks.{hears_in}
use Rattle.sctp_association.proofs.association.Association.take_sack.Goals as goal

pub returns-then-not-takes_sacks-clause-came : goal.returns-then-not-takes_sacks-clause-came
returns-then-not-takes_sacks-clause-came c = came_same _ _ _ refl

pub returns-in-Err-clause-came : goal.returns-in-Err-clause-came
returns-in-Err-clause-came c = came_same _ _ _ refl

pub returns-in-Err-clause-on : goal.returns-in-Err-clause-on
returns-in-Err-clause-on c tag takes = absurd (
    sack_read _ _ c.requires.place c.requires.typ _ c.bytes_of.ensures _ c.in_ok-unless_memory-in-Err.ensures c.in-Err.ensures.fault)

pub returns-in-Err-clause-sacks : goal.returns-in-Err-clause-sacks
returns-in-Err-clause-sacks c tag takes = absurd (
    sack_read _ _ c.requires.place c.requires.typ _ c.bytes_of.ensures _ c.in_ok-unless_memory-in-Err.ensures c.in-Err.ensures.fault)

pub returns-in-Taken-clause-on : goal.returns-in-Taken-clause-on
returns-in-Taken-clause-on c tag takes = (
  record { going = takes.going; state = takes.state; served = takes.served; own = takes.own },
  record {
    calls = calls_of_sack c.args.chunk.at c.args.datagram.now _ _ c.bytes_of.ensures c.in-Ok.ensures.found _ _ _ c.take_sack.ensures.hearing;
    usable = may_use_by c.args.chunk.at c.args.datagram.now c.args.self.now _ refl;
    comes = λ is. absurd (omega (arith, c.requires.typ, is));
  },
)

pub returns-in-Taken-clause-sacks : goal.returns-in-Taken-clause-sacks
returns-in-Taken-clause-sacks c tag takes = (
  record { going = takes.going; state = takes.state; own = takes.own },
  λ is. hears_in _ _ c.requires.own _ _ c.bytes_of.ensures c.in-Ok.ensures.found _ _ _ (c.take_sack.ensures.hears (search rules)),
)

pub returns-in_err-unless_memory-in-Err-clause-came : goal.returns-in_err-unless_memory-in-Err-clause-came
returns-in_err-unless_memory-in-Err-clause-came c = came_same _ _ _ refl

pub returns-in-Err-clause-tells : goal.returns-in-Err-clause-tells
returns-in-Err-clause-tells c = to_same

pub returns-in_err-unless_memory-in-Err-clause-tells : goal.returns-in_err-unless_memory-in-Err-clause-tells
returns-in_err-unless_memory-in-Err-clause-tells c = to_same

pub returns-in_err-take_sack-clause-came : goal.returns-in_err-take_sack-clause-came
returns-in_err-take_sack-clause-came c =
    sack_came _ _ c.requires.own _ _ c.bytes_of.ensures c.in-Ok.ensures.found _ _ _ c.take_sack.ensures.hearing

pub returns-in-Taken-clause-came : goal.returns-in-Taken-clause-came
returns-in-Taken-clause-came c =
    sack_came _ _ c.requires.own _ _ c.bytes_of.ensures c.in-Ok.ensures.found _ _ _ c.take_sack.ensures.hearing

pub returns-clause-came : goal.returns-clause-came
returns-clause-came c =
    came_then _ _ _ _ (sack_came _ _ c.requires.own _ _ c.bytes_of.ensures c.in-Ok.ensures.found _ _ _ c.take_sack.ensures.hearing)
    (came_alike _ _ _ c.end_with.ensures.halves)

pub returns-clause-peer : goal.returns-clause-peer
returns-clause-peer c =
    let peer = c.end_with.ensures.peer refl in
    let limits = c.take_sack.ensures.limits in
    record {
      config = peer.config;
      key = peer.key;
      machine = peer.machine;
      owes = peer.owes;
      sending = (λ e. peer.sending.0 (limits.0 ∙ e), λ e. peer.sending.1 (limits.1 ∙ e));
    }

pub returns-in_err-take_sack-clause-tells : goal.returns-in_err-take_sack-clause-tells
returns-in_err-take_sack-clause-tells c = to_low _ _ _ _ c.take_sack.ensures.low (omega (arith, c.take_sack.ensures.room))

pub returns-in-Taken-clause-tells : goal.returns-in-Taken-clause-tells
returns-in-Taken-clause-tells c = to_low _ _ _ _ c.take_sack.ensures.low (omega (arith, c.take_sack.ensures.room))

pub returns-clause-tells : goal.returns-clause-tells
returns-clause-tells c = end_then (to_low _ _ _ _ c.take_sack.ensures.low (omega (arith, c.take_sack.ensures.room))) c.end_with.ensures.tells

pub returns-in-Taken-clause-path : goal.returns-in-Taken-clause-path
returns-in-Taken-clause-path c = (
  λ is. moves_in _ _ _ _ c.bytes_of.ensures c.in-Ok.ensures.found _ _ _ (c.take_sack.ensures.path (search rules)),
  λ not. absurd (not c.requires.typ),
)

-- ## The row of a SACK

pub returns-in-Taken-clause-row : goal.returns-in-Taken-clause-row
returns-in-Taken-clause-row c =
    let old = c.args.self.now in
    row_is c.args.chunk c.args.datagram.now c.args.now old _ (dropped old.machine) 0 (λ is. omega (arith, is, c.requires.typ))
    (row_typ c.args.chunk c.args.datagram.now c.args.now old _ c.requires.typ) (ap (λ n. tag_to n old.machine) c.requires.typ)
    Next (follows_still 0 c.args.now old _ refl refl refl refl refl refl refl)

-- by a forged one the association ends
pub returns-clause-still : goal.returns-clause-still
returns-clause-still c =
    let forged : c.take_sack.result ≡ Ok Forged = search rules in
    by_sack _ (sack_there c.args.chunk.at c.args.datagram.now _ c.bytes_of.result.now c.bytes_of.ensures c.in-Ok.ensures.found)
    (forged_still _ c.args.self.now.outbound c.end_with.new.self.outbound (c.end_with.ensures.outbound ∙ c.take_sack.ensures.forged forged)
    (c.take_sack.ensures.claims forged)) c.end_with.ensures.aborted

pub returns-clause-row : goal.returns-clause-row
returns-clause-row c = inr (ap goes_on c.requires.typ, returns-clause-still c)

-- ## Where it is taken

pub returns-in-Err-clause-due : goal.returns-in-Err-clause-due
returns-in-Err-clause-due c = absurd (
    sack_read _ _ c.requires.place c.requires.typ _ c.bytes_of.ensures _ c.in_ok-unless_memory-in-Err.ensures c.in-Err.ensures.fault)

-- ## When a SACK is due stays

pub returns-in-Taken-clause-acks : goal.returns-in-Taken-clause-acks
returns-in-Taken-clause-acks c =
    let old = c.args.self.now in
    acks_row c.args.chunk c.args.datagram.now c.args.now old _ (dropped old.machine) (row_typ c.args.chunk c.args.datagram.now c.args.now old _ c.requires.typ)
    Next (λ _. refl) (λ is. omega (arith, is, c.requires.typ)) (λ is. omega (arith, is, c.requires.typ))

-- ## What it brings

pub returns-then-not-takes_sacks-clause-events : goal.returns-then-not-takes_sacks-clause-events
returns-then-not-takes_sacks-clause-events c = brings_none _ _ _ _ refl

pub returns-in-Err-clause-events : goal.returns-in-Err-clause-events
returns-in-Err-clause-events c = brings_none _ _ _ _ refl

pub returns-in_err-unless_memory-in-Err-clause-events : goal.returns-in_err-unless_memory-in-Err-clause-events
returns-in_err-unless_memory-in-Err-clause-events c = brings_none _ _ _ _ refl

pub returns-in_err-take_sack-clause-events : goal.returns-in_err-take_sack-clause-events
returns-in_err-take_sack-clause-events c = brings_at _ _ _ _ 3 c.requires.typ refl refl refl refl
    (adds_more _ _ _ _ (λ s p. low_by_sack _
    (sack_there c.args.chunk.at c.args.datagram.now _ c.bytes_of.result.now c.bytes_of.ensures c.in-Ok.ensures.found) p)
    c.take_sack.ensures.fell)

pub returns-in-Taken-clause-events : goal.returns-in-Taken-clause-events
returns-in-Taken-clause-events c = brings_at _ _ _ _ 3 c.requires.typ refl refl refl refl
    (adds_more _ _ _ _ (λ s p. low_by_sack _
    (sack_there c.args.chunk.at c.args.datagram.now _ c.bytes_of.result.now c.bytes_of.ensures c.in-Ok.ensures.found) p)
    c.take_sack.ensures.fell)

pub returns-clause-events : goal.returns-clause-events
returns-clause-events c =
    let is = c.end_with.ensures.events in
    brings_at _ _ _ _ 3 c.requires.typ (is ∙ sym (ap (λ (e : Events). record c.args.self.now.events { closed = e.closed; low = e.low }) is))
    (ap (λ (e : Events). e.readable) is) (ap (λ (e : Events). e.too_long) is) (ap (λ (e : Events). e.reset_by_peer) is)
    (λ s w. low_sack c.args.chunk c.args.datagram.now c.args.self.now _ c.take_sack.new.low
    (sack_there c.args.chunk.at c.args.datagram.now _ c.bytes_of.result.now c.bytes_of.ensures c.in-Ok.ensures.found) c.take_sack.ensures.fell s
    (sym (ap (λ (e : Events). is_in s e.low) is) ∙ w))

pub returns-in-Taken-clause-lows : goal.returns-in-Taken-clause-lows
returns-in-Taken-clause-lows c next = record {
  sack = _;
  reads = sack_there c.args.chunk.at c.args.datagram.now _ c.bytes_of.result.now c.bytes_of.ensures c.in-Ok.ensures.found;
  told = c.take_sack.ensures.told (search rules);
}
