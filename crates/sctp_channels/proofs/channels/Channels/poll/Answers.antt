use Rattle.std.proofs.Common.{◌∙◌, None, ap, inl, subst, sym}
use Rattle.sctp_association.specs.declared.association.Association.{Association}
use Rattle.sctp_channels.proofs.Coming.{comes_then}
use Rattle.sctp_channels.proofs.Following.{some_more, some_same}
use Rattle.sctp_channels.proofs.Gaining.{gains_then}
use Rattle.sctp_channels.proofs.News.{comes_news, polls_news}
use Rattle.sctp_channels.proofs.Polling.{comes_on, comes_taken, polls_association, polls_channel, polls_idle, polls_many, ready, taken_is}
use Rattle.sctp_channels.proofs.Telling.{always_err, tells_then}
use Rattle.sctp_channels.specs.Answers.{Polls}
use Rattle.sctp_channels.specs.Steps.{state_of}
use Rattle.sctp_channels.proofs.channels.Channels.poll.Goals as goal

pub returns-in_err-settle-clause-err : goal.returns-in_err-settle-clause-err
returns-in_err-settle-clause-err c =
    always_err _ (gains_then _ _ _ _ _ c.loop-done.invariant.gains c.loop-done.invariant.side c.settle.ensures.gains)

pub returns-in_err-settle-clause-comes : goal.returns-in_err-settle-clause-comes
returns-in_err-settle-clause-comes c = always_err _ (comes_on _ _ _ _ _ _ c.loop-done.invariant.comes c.settle.ensures.comes)

pub returns-in-Some-clause-told : goal.returns-in-Some-clause-told
returns-in-Some-clause-told c =
    let settled = gains_then _ _ _ _ _ c.loop-done.invariant.gains c.loop-done.invariant.side c.settle.ensures.gains in
    tells_then c.args.self.now.side c.settle.new.self.side c.args.self.now.channels.items c.settle.new.self.channels.items c.next_event.new.self.channels.items
    c.in-Some.event settled (c.settle.ensures.side ∙ c.loop-done.invariant.side) c.in-Some.ensures.told

pub returns-in-Some-clause-polls : goal.returns-in-Some-clause-polls
returns-in-Some-clause-polls c =
    let comes = comes_on _ _ _ _ _ _ c.loop-done.invariant.comes c.settle.ensures.comes in
    polls_channel c.args.now 0 _ c.settle.new.self c.next_event.new.self c.settle.new.association c.in-Some.event comes c.next_event.ensures.rest
    c.in-Some.ensures.next c.next_event.ensures.left

pub returns-then-is_some-clause-control : goal.returns-then-is_some-clause-control
returns-then-is_some-clause-control c = some_more _ _ _ _ c.loop-done.invariant.control c.settle.ensures.control

pub returns-then-is_some-clause-polls : goal.returns-then-is_some-clause-polls
returns-then-is_some-clause-polls c =
    let quiet = c.next_event.ensures.none c.in-None.is in
    polls_many c.args.now c.loop-done._done _ _ c.settle.new.self c.next_event.new.self c.settle.new.association c.loop-done.invariant.comes
    c.in_ok-settle.ensures.looked quiet.0 (sym c.if-is_some.ensures)

pub returns-in_default-clause-polls : goal.returns-in_default-clause-polls
returns-in_default-clause-polls c =
    let comes = comes_on _ _ _ _ _ _ c.loop-done.invariant.comes c.settle.ensures.comes in
    let left = ready c.args.now 0 (state_of c.args.self.now c.args.association.now) c.settle.new.self c.next_event.new.self c.settle.new.association comes
    c.in_ok-settle.ensures.done (c.next_event.ensures.none c.in-None.is) c.if-is_some.ensures in
    let idle = polls_idle c.args.now 0 _ c.next_event.new.self c.settle.new.association left.0 left.1 left.2 (c.poll.ensures.all c.in_default.is) in
    subst (λ (z : Association). Polls c.args.now (state_of c.args.self.now c.args.association.now) (state_of c.next_event.new.self z) None)
    (sym (c.poll.ensures.none c.in_default.is)) idle

pub returns-in-Some-take-clause-told : goal.returns-in-Some-take-clause-told
returns-in-Some-take-clause-told c =
    let settled = gains_then _ _ _ _ _ c.loop-done.invariant.gains c.loop-done.invariant.side c.settle.ensures.gains in
    let same = c.settle.ensures.side ∙ c.loop-done.invariant.side in
    let still = gains_then c.args.self.now.side c.settle.new.self.side c.args.self.now.channels.items c.settle.new.self.channels.items
    c.next_event.new.self.channels.items settled same c.in-None.ensures.told in
    tells_then c.args.self.now.side c.next_event.new.self.side c.args.self.now.channels.items c.next_event.new.self.channels.items
    c.take.new.self.channels.items
    c.in-Some-take.told still (c.next_event.ensures.side ∙ same) c.in-Some-take.ensures.told

pub returns-in-Some-take-clause-polls : goal.returns-in-Some-take-clause-polls
returns-in-Some-take-clause-polls c =
    let comes = comes_on _ _ _ _ _ _ c.loop-done.invariant.comes c.settle.ensures.comes in
    let left = ready c.args.now 0 (state_of c.args.self.now c.args.association.now) c.settle.new.self c.next_event.new.self c.settle.new.association comes
    c.in_ok-settle.ensures.done (c.next_event.ensures.none c.in-None.is) c.if-is_some.ensures in
    let told = c.in-Some-poll.ensures in
    let taken = taken_is c.in-Some-poll.event c.next_event.new.self c.take.new.self c.settle.new.association c.poll.new.self left.1 left.2 told.told told.others
    told.adds told.rest (c.take.ensures.after c.poll.new.self) in
    polls_association c.args.now 0 _ c.in-Some-poll.event _ _ c.in-Some-take.told left.0 taken c.in-Some-take.ensures.passed

pub loop-done-preserved : goal.loop-done-preserved
loop-done-preserved c =
    let settled = gains_then _ _ _ _ _ c.loop-done.invariant.gains c.loop-done.invariant.side c.settle.ensures.gains in
    let same = c.settle.ensures.side ∙ c.loop-done.invariant.side in
    let still = gains_then c.args.self.now.side c.settle.new.self.side c.args.self.now.channels.items c.settle.new.self.channels.items
    c.next_event.new.self.channels.items settled same c.in-None.ensures.told in
    let comes = comes_then _ _ _ _ _ c.loop-done.invariant.comes c.settle.ensures.comes in
    let left = ready c.args.now c.loop-done._done (state_of c.args.self.now c.args.association.now) c.settle.new.self c.next_event.new.self
    c.settle.new.association comes c.in_ok-settle.ensures.done (c.next_event.ensures.none c.in-None.is) c.if-is_some.ensures in
    let told = c.in-Some-poll.ensures in
    let taken = taken_is c.in-Some-poll.event c.next_event.new.self c.take.new.self c.settle.new.association c.poll.new.self left.1 left.2 told.told told.others
    told.adds told.rest (c.take.ensures.after c.poll.new.self) in
    let side = c.next_event.ensures.side ∙ same in record {
      side = c.take.ensures.side ∙ side;
      gains = gains_then c.args.self.now.side c.next_event.new.self.side c.args.self.now.channels.items c.next_event.new.self.channels.items
          c.take.new.self.channels.items still side c.in-None-take.ensures.told;
      control = some_more _ _ _ _ c.loop-done.invariant.control (
          some_more _ _ _ _ c.settle.ensures.control (some_same _ _ _ (ap (λ (a : Association). a.inbound) c.poll.ensures.rest))
          );
      comes = comes_taken c.args.now c.loop-done._done _ c.in-Some-poll.event _ _ left.0 taken c.in-None-take.ensures.passed;
    }

pub returns-in_err-settle-clause-control : goal.returns-in_err-settle-clause-control
returns-in_err-settle-clause-control c = some_more _ _ _ _ c.loop-done.invariant.control c.settle.ensures.control

pub returns-in-Some-clause-control : goal.returns-in-Some-clause-control
returns-in-Some-clause-control c = some_more _ _ _ _ c.loop-done.invariant.control c.settle.ensures.control

pub returns-in_default-clause-control : goal.returns-in_default-clause-control
returns-in_default-clause-control c =
    some_more _ _ _ _ c.loop-done.invariant.control (
    some_more _ _ _ _ c.settle.ensures.control (some_same _ _ _ (ap (λ (a : Association). a.inbound) c.poll.ensures.rest))
    )

pub returns-in-Some-take-clause-control : goal.returns-in-Some-take-clause-control
returns-in-Some-take-clause-control c =
    some_more _ _ _ _ c.loop-done.invariant.control (
    some_more _ _ _ _ c.settle.ensures.control (some_same _ _ _ (ap (λ (a : Association). a.inbound) c.poll.ensures.rest))
    )

pub returns-in-Some-clause-others : goal.returns-in-Some-clause-others
returns-in-Some-clause-others c = polls_news _ _ _ _ (returns-in-Some-clause-polls c)

pub returns-then-is_some-clause-others : goal.returns-then-is_some-clause-others
returns-then-is_some-clause-others c = polls_news _ _ _ _ (returns-then-is_some-clause-polls c)

pub returns-in_default-clause-others : goal.returns-in_default-clause-others
returns-in_default-clause-others c = polls_news _ _ _ _ (returns-in_default-clause-polls c)

pub returns-in-Some-take-clause-others : goal.returns-in-Some-take-clause-others
returns-in-Some-take-clause-others c = polls_news _ _ _ _ (returns-in-Some-take-clause-polls c)

pub returns-in_err-settle-clause-news : goal.returns-in_err-settle-clause-news
returns-in_err-settle-clause-news c = always_err _ (comes_news _ _ _ _ (comes_on _ _ _ _ _ _ c.loop-done.invariant.comes c.settle.ensures.comes))

pub returns-clause-others : goal.returns-clause-others
returns-clause-others c e waits = inl (comes_news _ _ _ _ c.loop-done.invariant.comes e waits)
