use Rattle.std.specs.Option.{option_map}
use Rattle.sctp_association.proofs.AcksOn.{acks_skip}
use Rattle.sctp_association.specs.AcksDue.{Acks, acks_of, with_due}
use Rattle.sctp_association.specs.declared.inbound.Followed.TheVariants.{Done}
use Rattle.sctp_association.proofs.Behind.{still_by, still_stop}
use Rattle.sctp_association.specs.Behind.{StillAs}
use Rattle.sctp_association.proofs.Coming.{done_unless, if_ok}
use Rattle.sctp_association.proofs.Ends.{skip_aborts}
use Rattle.std.specs.Prelude.{false, ◌==◌}
use Rattle.sctp_association.proofs.Rows.{follows_still, row_goes, row_typ}
use Rattle.sctp_association.specs.Coming.{goes_on}
use Rattle.sctp_association.specs.Rows.{FollowsStep, tag_to}
use Rattle.sctp_handshake.specs.Machines.{dropped}
use Rattle.sctp_association.proofs.Telling.{end_then, to_in}
use Rattle.std.proofs.Common.{arith, drop, refl, rules, Ok, Some, ap, subst, sym, ◌≡◌}
use Rattle.sctp_association.specs.Arrivals.{halves}
use Rattle.sctp_association.specs.Halves.{receiver_of}
use Rattle.sctp_association.proofs.Going.{forward_read, goes_by}
use Rattle.sctp_association.proofs.Sacks.{hears_by}
use Rattle.sctp_association.specs.Coming.{TakesDataOf}
use Rattle.sctp_association.proofs.Entering.{calls_of_receiver, calls_then, may_use_skip}
use Rattle.sctp_association.specs.declared.association.Association.{Association}
use Rattle.sctp_association.specs.Sacks.{TakesSacksOf}
use Rattle.sctp_association.proofs.Arrived.{came_alike, came_same, came_then, receiver_came}
use Rattle.sctp_chunks.specs.Wire.{forward_tsn_chunk}
use Rattle.sctp_datagram.specs.Framing.{StartsWith}
use Rattle.sctp_data.specs.ForwardTsn.{forward_tsn_of}
use Rattle.std.proofs.Common.{Bool, None, Option, true, ◌∙◌}
use Rattle.std.proofs.lemmas.Bool.{and_from}
use Rattle.std.specs.Prelude.{◌&&◌, is_some}
use Rattle.sctp_association.proofs.Expected.{and_none, as_taken}
use Rattle.sctp_association.specs.Coming.{is_due}
use Rattle.sctp_association.specs.declared.inbound.Inbound.{Inbound}
use Rattle.sctp_handshake.specs.States.{takes_data}
use Rattle.sctp_association.proofs.Brought.{brings_none, brings_skip}
use Rattle.sctp_association.specs.Telling.{whole_of}
use Rattle.sctp_association.proofs.Partly.{opens_only}
use Rattle.sctp_association.specs.Arrivals.{IsOpeningNamed}
use Rattle.sctp_association.specs.Partly.{OpensIn}
use Rattle.sctp_association.proofs.association.Association.take_skip.Goals as goal

pub returns-then-not-takes_data-clause-came : goal.returns-then-not-takes_data-clause-came
returns-then-not-takes_data-clause-came c = came_same _ _ _ refl

pub returns-in_err-skip-clause-came : goal.returns-in_err-skip-clause-came
returns-in_err-skip-clause-came c = came_same _ _ _ refl

pub returns-in_default-clause-came : goal.returns-in_default-clause-came
returns-in_default-clause-came c = came_same _ _ _ refl

pub returns-in_default-inbound-clause-came : goal.returns-in_default-inbound-clause-came
returns-in_default-inbound-clause-came c = came_same _ _ _ refl

pub returns-in_default-take_skip-clause-came : goal.returns-in_default-take_skip-clause-came
returns-in_default-take_skip-clause-came c =
    let reads : StartsWith (drop c.args.chunk.at c.args.datagram.now) (forward_tsn_chunk (forward_tsn_of c.in-Some.skip)) = search rules in
    receiver_came _ _ c.requires.own _ reads _ _ _ _ c.take_skip.new.self c.in-Some-inbound.is refl c.take_skip.ensures.received

pub returns-clause-came : goal.returns-clause-came
returns-clause-came c =
    let reads : StartsWith (drop c.args.chunk.at c.args.datagram.now) (forward_tsn_chunk (forward_tsn_of c.in-Some.skip)) = search rules in
    came_then _ _ _ _ (receiver_came _ _ c.requires.own _ reads _ _ _ _ c.take_skip.new.self c.in-Some-inbound.is refl c.take_skip.ensures.received)
    (came_alike _ _ _ c.end_by.ensures.halves)

pub returns-clause-peer : goal.returns-clause-peer
returns-clause-peer c =
    let peer = c.end_by.ensures.peer in record { config = peer.config; key = peer.key; machine = peer.machine; owes = peer.owes; sending = peer.sending }

pub returns-in_default-take_skip-clause-tells : goal.returns-in_default-take_skip-clause-tells
returns-in_default-take_skip-clause-tells c = to_in _ _ _ _ _ _ c.in-Some-inbound.is c.take_skip.ensures.tells

pub returns-clause-tells : goal.returns-clause-tells
returns-clause-tells c = end_then (to_in _ _ _ _ _ _ c.in-Some-inbound.is c.take_skip.ensures.tells) c.end_by.ensures.tells

-- ## It is read, and DATA is taken as before

pub returns-in_default-clause-on : goal.returns-in_default-clause-on
returns-in_default-clause-on c tag takes =
    let read = forward_read _ _ c.requires.place c.requires.typ in
    absurd (c.in_ok-skip.ensures.some read.0 read.1.0 read.1.1 (ap Ok c.in_default.is))

pub returns-clause-on : goal.returns-clause-on
returns-clause-on c tag takes =
    let old = c.args.self.now in
    let reads : StartsWith (drop c.args.chunk.at c.args.datagram.now) (forward_tsn_chunk (forward_tsn_of c.in-Some.skip)) = search rules in
    let no-data : c.args.chunk.typ ≡ 0 → ⊥ = λ is. absurd (omega (arith, c.requires.typ, is)) in
    goes_by c.args.chunk tag c.args.datagram.now c.end_by.result old c.end_by.new.self (λ r e. absurd (c.end_by.ensures.never r e)) c.end_by.ensures.over
    (λ next.
    let there : c.end_by.new.self.inbound ≡ Some c.take_skip.new.self = ap (λ (a : Association). a.inbound) (c.end_by.ensures.on next) in (
      subst (TakesDataOf tag) (sym (c.end_by.ensures.on next)) (record { going = takes.going; state = takes.state; served = refl; own = takes.own }),
      record {
        calls = calls_then _ _ _ _ _ (calls_of_receiver c.args.chunk.at c.args.datagram.now _ reads old.outbound.sender old.inbound _ _
            c.take_skip.new.self c.in-Some-inbound.is there c.take_skip.ensures.received)
            (ap (λ (a : Association). halves a.outbound.sender (receiver_of c.end_by.new.self.inbound)) (c.end_by.ensures.on next));
        usable = may_use_skip c.args.chunk.at c.args.datagram.now old c.end_by.new.self _ c.take_skip.new.self c.in-Some-inbound.is there
            c.take_skip.ensures.limits.1 c.take_skip.ensures.same;
        comes = λ is. absurd (no-data is);
      },
    ))

pub returns-in_default-clause-sacks : goal.returns-in_default-clause-sacks
returns-in_default-clause-sacks c tag takes =
    let read = forward_read _ _ c.requires.place c.requires.typ in
    absurd (c.in_ok-skip.ensures.some read.0 read.1.0 read.1.1 (ap Ok c.in_default.is))

pub returns-clause-sacks : goal.returns-clause-sacks
returns-clause-sacks c tag takes =
    hears_by c.args.chunk tag c.args.datagram.now c.end_by.result c.args.self.now c.end_by.new.self
    (λ is. absurd (omega (arith, c.requires.typ, is))) (λ r e. absurd (c.end_by.ensures.never r e)) c.end_by.ensures.over (λ next.
    subst (TakesSacksOf tag) (sym (c.end_by.ensures.on next)) (record { going = takes.going; state = takes.state; own = takes.own }))

-- ## What it leaves, and what ends the association

pub returns-clause-still : goal.returns-clause-still
returns-clause-still c =
    let old = c.args.self.now in
    let reads : StartsWith (drop c.args.chunk.at c.args.datagram.now) (forward_tsn_chunk (forward_tsn_of c.in-Some.skip)) = search rules in
    let came = if_ok _ _ _ c.in-Ok.is c.take_skip.ensures.ends in
    still_by c.args.chunk c.args.datagram.now old c.end_by.new.self false (ap (λ n. n == 0) c.requires.typ) c.end_by.result
    (λ next. subst (λ (x : Association). StillAs false old x) (sym (c.end_by.ensures.on next))
    (record { machine = refl; due = refl; shutdown = λ e. e; same = λ off. (refl, refl); over = refl; wants = refl }))
    (λ stop. skip_aborts c.args.chunk c.args.datagram.now _ _ refl c.end_by.new.self _ c.end_by.ensures.halves.receiver (forward_tsn_of c.in-Some.skip) reads
    _ came (c.end_by.ensures.stops stop).0 (c.end_by.ensures.stops stop).1 c.end_by.ensures.aborts) c.end_by.ensures.whole

-- ## The row of a FORWARD-TSN

pub returns-clause-row : goal.returns-clause-row
returns-clause-row c =
    let old = c.args.self.now in
    let step = dropped old.machine in
    row_goes c.args.chunk c.args.datagram.now c.args.now old c.end_by.new.self step 0
    (row_typ c.args.chunk c.args.datagram.now c.args.now old _ c.requires.typ) (ap (λ n. tag_to n old.machine) c.requires.typ)
    (ap goes_on c.requires.typ) c.end_by.result
    (λ next. subst (λ (x : Association). FollowsStep step 0 c.args.now old x) (sym (c.end_by.ensures.on next))
    (follows_still 0 c.args.now old _ refl refl refl refl refl refl (ap whole_of c.take_skip.ensures.notes.rest)))
    (still_stop c.args.chunk c.args.datagram.now old c.end_by.new.self c.end_by.result (returns-clause-still c))

-- ## Where it is taken

pub returns-then-not-takes_data-clause-due : goal.returns-then-not-takes_data-clause-due
returns-then-not-takes_data-clause-due c =
    let off : takes_data c.args.self.now.machine.state ≡ false = search rules in
    (refl, ap (λ (b : Bool). b && is_some c.args.self.now.inbound) off)

pub returns-in_default-clause-due : goal.returns-in_default-clause-due
returns-in_default-clause-due c =
    let read = forward_read _ _ c.requires.place c.requires.typ in
    absurd (c.in_ok-skip.ensures.some read.0 read.1.0 read.1.1 (ap Ok c.in_default.is))

pub returns-in_default-inbound-clause-due : goal.returns-in_default-inbound-clause-due
returns-in_default-inbound-clause-due c =
    let none : c.args.self.now.inbound ≡ None = search rules in (
      refl,
      ap (λ (o : Option Inbound). takes_data c.args.self.now.machine.state && is_some o) none ∙ and_none (takes_data c.args.self.now.machine.state),
    )

pub returns-in_default-take_skip-clause-due : goal.returns-in_default-take_skip-clause-due
returns-in_default-take_skip-clause-due c =
    let on : takes_data c.args.self.now.machine.state ≡ true = search rules in
    and_from (takes_data c.args.self.now.machine.state) (is_some c.args.self.now.inbound) on (ap (λ (o : Option Inbound). is_some o) c.in-Some-inbound.is)

pub returns-clause-due : goal.returns-clause-due
returns-clause-due c =
    let on : takes_data c.args.self.now.machine.state ≡ true = search rules in
    as_taken (is_due 192 c.args.self.now) c.end_by.result (
    and_from (takes_data c.args.self.now.machine.state) (is_some c.args.self.now.inbound) on (ap (λ (o : Option Inbound). is_some o) c.in-Some-inbound.is)
    ) c.end_by.ensures.never

-- ## A SACK is due

pub returns-clause-acks : goal.returns-clause-acks
returns-clause-acks c =
    acks_skip c.args.chunk c.args.datagram.now c.args.now c.args.self.now c.end_by.new.self c.requires.typ c.end_by.result (λ next.
    let done : c.take_skip.result ≡ Ok Done = c.in-Ok.is
    ∙ ap Ok (done_unless _ _ (c.end_by.ensures.next next) (λ wanting. c.take_skip.ensures.whole (c.in-Ok.is ∙ ap Ok wanting)) (λ e. e)) in
    ap (λ (a : Association). acks_of a.inbound) (c.end_by.ensures.on next) ∙ ap (λ (a : Acks). Some a) (c.take_skip.ensures.acks done)
    ∙ sym (ap (λ (o : Option Inbound). option_map (with_due c.args.now) (acks_of o)) c.in-Some-inbound.is))

-- ## What it brings

pub returns-then-not-takes_data-clause-events : goal.returns-then-not-takes_data-clause-events
returns-then-not-takes_data-clause-events c = brings_none _ _ _ _ refl

pub returns-in_err-skip-clause-events : goal.returns-in_err-skip-clause-events
returns-in_err-skip-clause-events c = brings_none _ _ _ _ refl

pub returns-in_default-clause-events : goal.returns-in_default-clause-events
returns-in_default-clause-events c = brings_none _ _ _ _ refl

pub returns-in_default-inbound-clause-events : goal.returns-in_default-inbound-clause-events
returns-in_default-inbound-clause-events c = brings_none _ _ _ _ refl

pub returns-in_default-take_skip-clause-events : goal.returns-in_default-take_skip-clause-events
returns-in_default-take_skip-clause-events c =
    brings_skip _ _ _ _ _ c.take_skip.new.self _ c.in-Some-inbound.is refl refl c.requires.typ c.take_skip.ensures.notes

pub returns-clause-events : goal.returns-clause-events
returns-clause-events c =
    brings_skip _ _ _ _ _ c.take_skip.new.self _ c.in-Some-inbound.is c.end_by.ensures.halves.receiver c.end_by.ensures.events c.requires.typ
    c.take_skip.ensures.notes

-- ## Where memory is wanting

pub returns-in_default-take_skip-clause-cut : goal.returns-in_default-take_skip-clause-cut
returns-in_default-take_skip-clause-cut c is =
    let reads : StartsWith (drop c.args.chunk.at c.args.datagram.now) (forward_tsn_chunk (forward_tsn_of c.in-Some.skip)) = search rules in
    let cut : OpensIn (IsOpeningNamed (forward_tsn_of c.in-Some.skip)) c.in-Some-inbound.inbound c.args.self.now.events c.take_skip.new.self
    c.take_skip.new.events = search rules in
    record {
      skip = forward_tsn_of c.in-Some.skip;
      reads = reads;
      opens = opens_only _ c.args.self.now _ _ c.take_skip.new.self c.in-Some-inbound.is refl cut (record {
        config = refl;
        key = refl;
        machine = refl;
        is_over = refl;
        wants_shutdown = refl;
        outbound = refl;
        requests = refl;
        peer_requests = refl;
        control = refl;
        guard = refl;
        heartbeat = refl;
        cookie = refl;
        due = refl;
        draft = refl;
      });
    }
