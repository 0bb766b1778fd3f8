use Rattle.sctp_association.proofs.AcksOn.{acks_data, acks_data_in}
use Rattle.sctp_association.proofs.Behind.{arrived_peer, still_arrived, still_by, still_stop}
use Rattle.sctp_association.specs.Behind.{StillAs}
use Rattle.sctp_association.specs.Rows.{owed_by}
use Rattle.sctp_association.proofs.Coming.{if_ok}
use Rattle.sctp_association.proofs.Ends.{data_aborts}
use Rattle.std.specs.Prelude.{true, ◌==◌}
use Rattle.sctp_association.proofs.Rows.{follows_from, follows_step, row_goes, row_typ}
use Rattle.sctp_association.specs.Coming.{goes_on}
use Rattle.sctp_association.specs.Rows.{FollowsStep, tag_to}
use Rattle.sctp_handshake.specs.Timeouts.{on_packet_arrived}
use Rattle.sctp_association.proofs.Telling.{end_then, to_in}
use Rattle.std.proofs.Common.{arith, Ok, Some, ap, refl, subst, sym, ◌≡◌, ◌∙◌}
use Rattle.sctp_association.proofs.Arrived.{came_alike, came_same, came_then, receiver_came}
use Rattle.sctp_association.proofs.Coming.{done_unless, followed, follows_data}
use Rattle.sctp_association.specs.Arrivals.{Halves, halves}
use Rattle.sctp_association.specs.Coming.{HasComeOrIsDropped, TakesDataOf}
use Rattle.sctp_association.proofs.Begun.{quiet_arrived}
use Rattle.sctp_association.specs.Halves.{receiver_of}
use Rattle.sctp_association.proofs.Entering.{calls_of_receiver, calls_then, entered_in, may_use_data}
use Rattle.sctp_association.specs.declared.association.Association.{Association}
use Rattle.sctp_association.specs.declared.inbound.Followed.TheVariants.{Done}
use Rattle.sctp_association.proofs.First.{on_err}
use Rattle.sctp_association.proofs.Kept.{same_inbound, same_machine}
use Rattle.sctp_association.proofs.Known.{keeps_by, keeps_then, knows_arrived}
use Rattle.sctp_association.proofs.Going.{arrived_state, arrived_told, goes_by, served_alike, takes_on}
use Rattle.sctp_association.proofs.Sacks.{hears_by, sacks_on}
use Rattle.sctp_association.specs.Sacks.{TakesSacksOf}
use Rattle.sctp_handshake.specs.declared.machine.Machine.{Machine}
use Rattle.std.proofs.Common.{Bool, None, Option, false, rules}
use Rattle.std.proofs.lemmas.Bool.{and_from}
use Rattle.std.specs.Prelude.{◌&&◌, is_some}
use Rattle.sctp_association.proofs.Expected.{and_none, as_taken}
use Rattle.sctp_association.specs.Coming.{is_due}
use Rattle.sctp_association.specs.declared.inbound.Inbound.{Inbound}
use Rattle.sctp_handshake.specs.States.{takes_data}
use Rattle.sctp_association.proofs.Brought.{brings_data, brings_none}
use Rattle.sctp_association.specs.Telling.{whole_of}
use Rattle.sctp_association.specs.declared.event.Events.{Events}
use Rattle.sctp_association.proofs.TooLong.{tells_long}
use Rattle.sctp_association.specs.StreamSet.{is_in}
use Rattle.sctp_association.specs.Telling.{HasPlaces}
use Rattle.sctp_association.specs.declared.association.arrivals.Step.TheVariants.{Next}
use Rattle.sctp_association.proofs.Partly.{opens_only}
use Rattle.sctp_association.proofs.association.Association.take_data.Goals as goal

pub returns-then-not-takes_data-clause-came : goal.returns-then-not-takes_data-clause-came
returns-then-not-takes_data-clause-came c = came_same _ _ _ refl

pub returns-in_err-data-clause-came : goal.returns-in_err-data-clause-came
returns-in_err-data-clause-came c = came_same _ _ _ refl

pub returns-in_default-clause-came : goal.returns-in_default-clause-came
returns-in_default-clause-came c = came_same _ _ _ refl

pub returns-in_err-followed-clause-came : goal.returns-in_err-followed-clause-came
returns-in_err-followed-clause-came c =
    receiver_came _ _ c.requires.own _ c.in_ok-data.ensures.found _ _ _ _ c.take_data.new.self c.in-Some.is refl c.take_data.ensures.received

pub returns-in-Wanting-clause-came : goal.returns-in-Wanting-clause-came
returns-in-Wanting-clause-came c =
    receiver_came _ _ c.requires.own _ c.in_ok-data.ensures.found _ _ _ _ c.take_data.new.self c.in-Some.is refl c.take_data.ensures.received

pub returns-clause-came : goal.returns-clause-came
returns-clause-came c =
    came_then _ _ _ _ (
    receiver_came _ _ c.requires.own _ c.in_ok-data.ensures.found _ _ _ _ c.take_data.new.self c.in-Some.is refl c.take_data.ensures.received
    ) (
    came_then _ _ _ _ (came_same _ _ _ (quiet_arrived _ _ _ _ _ _ c.follow.ensures.begun c.packet_arrived-answer.ensures.answer))
    (came_alike _ _ _ c.end_by.ensures.halves)
    )

pub returns-in_err-followed-clause-err : goal.returns-in_err-followed-clause-err
returns-in_err-followed-clause-err c =
    on_err _ (same_inbound c.args.self.now _ _ _ (ap Some c.in_err-followed.ensures.err.0 ∙ sym c.in-Some.is) c.in_err-followed.ensures.err.1)

pub returns-in_default-clause-refused : goal.returns-in_default-clause-refused
returns-in_default-clause-refused c = λ r e. same_machine c.args.self.now c.args.self.now.machine _ refl

pub returns-clause-peer : goal.returns-clause-peer
returns-clause-peer c =
    let on = c.follow.ensures.kept in
    keeps_then c.args.self.now c.follow.new.self _
    (keeps_by _ _ _ (knows_arrived _ _ _ c.packet_arrived-answer.ensures) on.config on.key on.machine (λ t e. on.owes t e)
    (λ e. on.sending.0 e, λ e. on.sending.1 e))
    c.end_by.ensures.peer

pub returns-clause-takes : goal.returns-clause-takes
returns-clause-takes c =
    let chunk = c.in_ok-data.data in
    let still = c.end_by.ensures.halves.receiver
    ∙ ap (λ (h : Halves). h.receiver) (quiet_arrived _ _ _ _ _ _ c.follow.ensures.begun c.packet_arrived-answer.ensures.answer) in
    follows_data _ _ _ c.args.self.now _ (λ next.
    let done : c.take_data.result ≡ Ok Done =
    c.in_ok-followed.was ∙ ap Ok (done_unless _ _ (c.end_by.ensures.next next) c.in_default-followed.not-Wanting (λ e. e)) in
    record {
      chunk = chunk;
      reads = c.in_ok-data.ensures.found;
      taken = subst (HasComeOrIsDropped chunk) (sym still) (c.take_data.ensures.takes done);
      entered = entered_in chunk c.args.self.now.inbound _ _ c.take_data.new.self c.in-Some.is still (c.take_data.ensures.handles done);
    }) c.end_by.ensures.over

pub returns-in_err-followed-clause-tells : goal.returns-in_err-followed-clause-tells
returns-in_err-followed-clause-tells c = to_in _ _ _ _ _ _ c.in-Some.is c.take_data.ensures.tells

pub returns-in-Wanting-clause-tells : goal.returns-in-Wanting-clause-tells
returns-in-Wanting-clause-tells c = to_in _ _ _ _ _ _ c.in-Some.is c.take_data.ensures.tells

pub returns-clause-tells : goal.returns-clause-tells
returns-clause-tells c =
    end_then (to_in _ _ _ _ _ _ c.in-Some.is c.take_data.ensures.tells)
    (end_then c.follow.ensures.tells.end c.end_by.ensures.tells)

-- ## DATA is taken as before

pub returns-clause-on : goal.returns-clause-on
returns-clause-on c tag takes =
    let old = c.args.self.now in
    let quiet = arrived_told old.machine _ _ c.packet_arrived-answer.ensures in
    let kept = c.follow.ensures.kept.machine in
    let goes : TakesDataOf tag c.follow.new.self =
    takes_on tag old c.follow.new.self takes (c.follow.ensures.over quiet)
    (ap (λ (m : Machine). m.state) kept ∙ arrived_state old.machine _ _ c.packet_arrived-answer.ensures)
    (ap (λ (m : Machine). m.own) kept ∙ (knows_arrived old.machine _ _ c.packet_arrived-answer.ensures).own)
    (served_alike (Some c.take_data.new.self) c.follow.new.self.inbound ((c.follow.ensures.quiet quiet).receiver) refl) in
    goes_by c.args.chunk tag c.args.datagram.now c.end_by.result old c.end_by.new.self (λ r e. absurd (c.end_by.ensures.never r e)) c.end_by.ensures.over
    (λ next.
    let done : c.take_data.result ≡ Ok Done =
    c.in_ok-followed.was ∙ ap Ok (done_unless _ _ (c.end_by.ensures.next next) c.in_default-followed.not-Wanting (λ e. e)) in
    let there : c.end_by.new.self.inbound ≡ Some c.take_data.new.self =
    ap (λ (a : Association). a.inbound) (c.end_by.ensures.on next) ∙ c.follow.ensures.inbound quiet in
    let sender : c.end_by.new.self.outbound.sender ≡ old.outbound.sender =
    ap (λ (a : Association). a.outbound.sender) (c.end_by.ensures.on next) ∙ (c.follow.ensures.quiet quiet).sender in (
      subst (TakesDataOf tag) (sym (c.end_by.ensures.on next)) goes,
      record {
        calls = calls_then _ _ _ _ _ (calls_of_receiver c.args.chunk.at c.args.datagram.now _ c.in_ok-data.ensures.found old.outbound.sender old.inbound _ _
            c.take_data.new.self c.in-Some.is there c.take_data.ensures.received)
            (ap (λ t. halves t (receiver_of c.end_by.new.self.inbound)) sender);
        usable = may_use_data c.args.chunk.at c.args.datagram.now old c.end_by.new.self _ c.take_data.new.self c.in-Some.is there c.in_ok-data.data
            c.in_ok-data.ensures.found (c.take_data.ensures.handles done);
        comes = λ is. followed _ _ _ old _ next (returns-clause-takes c);
      },
    ))

-- ## So are SACKs

pub returns-clause-sacks : goal.returns-clause-sacks
returns-clause-sacks c tag takes =
    let old = c.args.self.now in
    let quiet = arrived_told old.machine _ _ c.packet_arrived-answer.ensures in
    let kept = c.follow.ensures.kept.machine in
    let there : TakesSacksOf tag c.follow.new.self =
    sacks_on tag old c.follow.new.self takes (c.follow.ensures.over quiet)
    (ap (λ (m : Machine). m.state) kept ∙ arrived_state old.machine _ _ c.packet_arrived-answer.ensures)
    (ap (λ (m : Machine). m.own) kept ∙ (knows_arrived old.machine _ _ c.packet_arrived-answer.ensures).own) in
    hears_by c.args.chunk tag c.args.datagram.now c.end_by.result c.args.self.now c.end_by.new.self
    (λ is. absurd (omega (arith, c.requires.typ, is))) (λ r e. absurd (c.end_by.ensures.never r e)) c.end_by.ensures.over (
    λ next. subst (TakesSacksOf tag) (sym (c.end_by.ensures.on next)) there
    )

pub returns-clause-sending : goal.returns-clause-sending
returns-clause-sending c =
    let quiet = arrived_told c.args.self.now.machine _ _ c.packet_arrived-answer.ensures in
    c.end_by.ensures.sending ∙ c.follow.ensures.sending quiet

-- ## What it leaves, and what ends the association

pub returns-clause-still : goal.returns-clause-still
returns-clause-still c =
    let old = c.args.self.now in
    let took = c.packet_arrived-answer.ensures in
    let quiet = arrived_told old.machine _ _ took in
    let kept = c.follow.ensures.kept.machine in
    let owed : c.follow.new.self.due ≡ owed_by c.packet_arrived-answer.result.reply 0 old.due = c.follow.ensures.due quiet in
    let there : receiver_of c.end_by.new.self.inbound ≡ Some c.take_data.new.self.receiver =
    c.end_by.ensures.halves.receiver
    ∙ ap (λ (h : Halves). h.receiver) (quiet_arrived _ _ _ _ _ _ c.follow.ensures.begun c.packet_arrived-answer.ensures.answer) in
    let came = if_ok _ _ _ c.in_ok-followed.was c.take_data.ensures.ends in
    let peer : c.follow.new.self.machine.peer ≡ old.machine.peer =
    ap (λ (m : Machine). m.peer) kept ∙ arrived_peer old.machine _ _ took in
    still_by c.args.chunk c.args.datagram.now old c.end_by.new.self true (ap (λ n. n == 0) c.requires.typ) c.end_by.result (
    λ next. subst (λ (x : Association). StillAs true old x) (sym (c.end_by.ensures.on next)) (
    still_arrived old c.follow.new.self _ _ took kept owed
    (c.follow.ensures.over quiet) c.follow.ensures.answer.wants
    )
    )
    (λ stop. data_aborts c.args.chunk c.args.datagram.now old.machine.peer _ peer c.end_by.new.self _ there c.in_ok-data.data c.in_ok-data.ensures.found
    _ came (c.end_by.ensures.stops stop).0 (c.end_by.ensures.stops stop).1 c.end_by.ensures.aborts) c.end_by.ensures.whole

-- ## The row of DATA

pub returns-clause-row : goal.returns-clause-row
returns-clause-row c =
    let old = c.args.self.now in
    let took = c.packet_arrived-answer.ensures in
    let step = on_packet_arrived true old.machine in
    row_goes c.args.chunk c.args.datagram.now c.args.now old c.end_by.new.self step 0
    (row_typ c.args.chunk c.args.datagram.now c.args.now old _ c.requires.typ) (ap (λ n. tag_to n old.machine) c.requires.typ)
    (ap goes_on c.requires.typ) c.end_by.result (
    λ next. subst (λ (x : Association). FollowsStep step 0 c.args.now old x) (sym (c.end_by.ensures.on next)) (
    follows_step step 0 c.args.now old c.follow.new.self _ _ took.machine took.answer (c.follow.ensures.kept.machine) (
    follows_from _ 0 old.machine.state _ c.args.now old _ c.follow.new.self c.follow.ensures.answer c.state-before.ensures refl refl refl refl refl
    (ap whole_of c.take_data.ensures.notes.rest)
    )
    )
    ) (still_stop c.args.chunk c.args.datagram.now old c.end_by.new.self c.end_by.result (returns-clause-still c))

-- ## Where it is taken

pub returns-then-not-takes_data-clause-due : goal.returns-then-not-takes_data-clause-due
returns-then-not-takes_data-clause-due c =
    let off : takes_data c.args.self.now.machine.state ≡ false = search rules in
    (refl, ap (λ (b : Bool). b && is_some c.args.self.now.inbound) off)

pub returns-in_default-clause-due : goal.returns-in_default-clause-due
returns-in_default-clause-due c =
    let none : c.args.self.now.inbound ≡ None = search rules in (
      refl,
      ap (λ (o : Option Inbound). takes_data c.args.self.now.machine.state && is_some o) none ∙ and_none (takes_data c.args.self.now.machine.state),
    )

pub returns-in-Wanting-clause-due : goal.returns-in-Wanting-clause-due
returns-in-Wanting-clause-due c =
    let on : takes_data c.args.self.now.machine.state ≡ true = search rules in
    and_from (takes_data c.args.self.now.machine.state) (is_some c.args.self.now.inbound) on (ap (λ (o : Option Inbound). is_some o) c.in-Some.is)

pub returns-clause-due : goal.returns-clause-due
returns-clause-due c =
    let on : takes_data c.args.self.now.machine.state ≡ true = search rules in
    as_taken (is_due 0 c.args.self.now) c.end_by.result (
    and_from (takes_data c.args.self.now.machine.state) (is_some c.args.self.now.inbound) on (ap (λ (o : Option Inbound). is_some o) c.in-Some.is)
    ) c.end_by.ensures.never

-- ## When a SACK is due

pub returns-clause-acks : goal.returns-clause-acks
returns-clause-acks c =
    let old = c.args.self.now in
    let quiet = arrived_told old.machine _ _ c.packet_arrived-answer.ensures in
    acks_data c.args.chunk c.args.datagram.now c.args.now old c.end_by.new.self c.requires.typ c.end_by.result (λ next.
    let done : c.take_data.result ≡ Ok Done =
    c.in_ok-followed.was ∙ ap Ok (done_unless _ _ (c.end_by.ensures.next next) c.in_default-followed.not-Wanting (λ e. e)) in
    let there : c.end_by.new.self.inbound ≡ Some c.take_data.new.self =
    ap (λ (a : Association). a.inbound) (c.end_by.ensures.on next) ∙ c.follow.ensures.inbound quiet in
    acks_data_in c.args.chunk.at c.args.datagram.now c.args.now _ c.take_data.new.self old.inbound _ c.in-Some.is there (
    record { chunk = c.in_ok-data.data; reads = c.in_ok-data.ensures.found; acks = c.take_data.ensures.acks done }
    ))

-- ## What it brings

pub returns-then-not-takes_data-clause-events : goal.returns-then-not-takes_data-clause-events
returns-then-not-takes_data-clause-events c = brings_none _ _ _ _ refl

pub returns-in_err-data-clause-events : goal.returns-in_err-data-clause-events
returns-in_err-data-clause-events c = brings_none _ _ _ _ refl

pub returns-in_default-clause-events : goal.returns-in_default-clause-events
returns-in_default-clause-events c = brings_none _ _ _ _ refl

pub returns-in_err-followed-clause-events : goal.returns-in_err-followed-clause-events
returns-in_err-followed-clause-events c = brings_none _ _ _ _ c.in_err-followed.ensures.err.1

pub returns-in-Wanting-clause-events : goal.returns-in-Wanting-clause-events
returns-in-Wanting-clause-events c =
    brings_data _ _ _ _ _ c.take_data.new.self _ c.in-Some.is refl refl c.requires.typ c.in_ok-data.data c.in_ok-data.ensures.found c.take_data.ensures.notes

pub returns-clause-events : goal.returns-clause-events
returns-clause-events c =
    let quiet = arrived_told c.args.self.now.machine _ _ c.packet_arrived-answer.ensures in
    let there : receiver_of c.end_by.new.self.inbound ≡ Some c.take_data.new.self.receiver =
    c.end_by.ensures.halves.receiver
    ∙ ap (λ (h : Halves). h.receiver) (quiet_arrived _ _ _ _ _ _ c.follow.ensures.begun c.packet_arrived-answer.ensures.answer) in
    let end = c.end_by.ensures.events ∙ ap (λ (e : Events). record e { closed = c.end_by.new.self.events.closed }) (c.follow.ensures.events quiet) in
    brings_data _ _ _ _ _ c.take_data.new.self _ c.in-Some.is there end c.requires.typ c.in_ok-data.data c.in_ok-data.ensures.found
    c.take_data.ensures.notes

-- ## A message that is too long

pub returns-clause-long : goal.returns-clause-long
returns-clause-long c next places =
    let old = c.args.self.now in
    let quiet = arrived_told old.machine _ _ c.packet_arrived-answer.ensures in
    let is : c.end_by.result ≡ Next = search rules in
    let done : c.take_data.result ≡ Ok Done =
    c.in_ok-followed.was ∙ ap Ok (done_unless _ _ (c.end_by.ensures.next is) c.in_default-followed.not-Wanting (λ e. e)) in
    let behind : c.end_by.new.self.events.too_long ≡ c.take_data.new.events.too_long =
    ap (λ (a : Association). a.events.too_long) (c.end_by.ensures.on is) ∙ ap (λ (e : Events). e.too_long) (c.follow.ensures.events quiet) in
    tells_long c.args.chunk c.args.datagram.now old.inbound _ c.end_by.new.self c.in-Some.is (record {
      chunk = c.in_ok-data.data;
      reads = c.in_ok-data.ensures.found;
      told = λ large. ap (is_in c.in_ok-data.data.stream_identifier) behind
          ∙ c.take_data.ensures.told (subst (λ (o : Option Inbound). HasPlaces o old.events) c.in-Some.is places) done large;
    })

-- ## Where memory is wanting

pub returns-in-Wanting-clause-cut : goal.returns-in-Wanting-clause-cut
returns-in-Wanting-clause-cut c is = record {
  chunk = c.in_ok-data.data;
  reads = c.in_ok-data.ensures.found;
  opens = opens_only _ c.args.self.now _ _ c.take_data.new.self c.in-Some.is refl (c.take_data.ensures.cut (search rules)) (record {
    config = refl;
    key = refl;
    machine = refl;
    is_over = refl;
    wants_shutdown = refl;
    outbound = refl;
    requests = refl;
    peer_requests = refl;
    control = refl;
    guard = refl;
    heartbeat = refl;
    cookie = refl;
    due = refl;
    draft = refl;
  });
}
