use Rattle.std.proofs.Common.{◌≡◌, List, rules, subst, true, false, ℕ}
use Rattle.std.proofs.lemmas.Bool.{false≢true}
use Rattle.sctp_association.proofs.SetupPairs.{poll_stays}
use Rattle.sctp_association.proofs.Pairs.{Polls, by-moves, by-poll, passed, where-refused}
use Rattle.sctp_association.specs.Halves.{is_sent}
use Rattle.sctp_association.specs.Offering.{OffersAsDue}
use Rattle.sctp_association.specs.Pairs.{Comes, ComesSetUp, passes}
use Rattle.sctp_association.proofs.pair.pass.Goals as goal

pub returns-in_err-poll_transmit-clause-err : goal.returns-in_err-poll_transmit-clause-err
returns-in_err-poll_transmit-clause-err c =
    let old = c.args.one.now in
    let new = c.poll_transmit.new.self in
    where-refused c.from_residual.result
    (by-poll old new c.args.other.now false (λ l. c.each_call_is_what_a_host_does.ensures.polled false old new l c.in_err-poll_transmit.ensures.made))

pub returns-in_err-copy-clause-err : goal.returns-in_err-copy-clause-err
returns-in_err-copy-clause-err c =
    let old = c.args.one.now in
    let new = c.poll_transmit.new.self in
    where-refused c.from_residual-in_err-copy.result
    (by-poll old new c.args.other.now (is_sent c.poll_transmit.result)
    (λ l. c.each_call_is_what_a_host_does.ensures.polled (is_sent c.poll_transmit.result) old new l c.poll_transmit.ensures.made))

pub returns-in_err-hand_over-clause-err : goal.returns-in_err-hand_over-clause-err
returns-in_err-hand_over-clause-err c =
    let law = c.each_call_is_what_a_host_does.ensures.polled in
    let old = c.args.one.now in
    let new = c.poll_transmit.new.self in
    let other = c.args.other.now in
    let bytes = new.draft.bytes in
    let next = c.hand_over.new.other in
    let sent : c.in_ok-poll_transmit.field-0 ≡ true = search rules in
    let same : c.in_ok-copy.copy ≡ bytes = search rules in
    let polls : Polls old new other true =
    subst (Polls old new other) sent (λ l. law c.in_ok-poll_transmit.field-0 old new l c.in_ok-poll_transmit.ensures.made) in
    let came = c.in_err-hand_over.ensures.err in
    where-refused c.from_residual-in_err-hand_over.result (λ l m.
    by-moves old new other true next (passes true came.0 bytes) l m
    (passed old new other came.0 next polls (subst (λ (bs : List ℕ). Comes bs came.0 other next) same came.1) l m))

pub returns-clause-moves : goal.returns-clause-moves
returns-clause-moves c =
    let law = c.each_call_is_what_a_host_does.ensures.polled in
    let old = c.args.one.now in
    let new = c.poll_transmit.new.self in
    let other = c.args.other.now in
    let next = c.hand_over.new.other in
    let sent : c.in_ok-poll_transmit.field-0 ≡ true = search rules in
    let same : c.in_ok-copy.copy ≡ new.draft.bytes = search rules in
    passed old new other c.args.times next
    (subst (Polls old new other) sent (λ l. law c.in_ok-poll_transmit.field-0 old new l c.in_ok-poll_transmit.ensures.made))
    (subst (λ (bs : List ℕ). Comes bs c.args.times other next) same c.in_ok-hand_over.ensures.ok)

pub returns-clause-set_up : goal.returns-clause-set_up
returns-clause-set_up c =
    let old = c.args.one.now in
    let new = c.poll_transmit.new.self in
    let other = c.args.other.now in
    let next = c.hand_over.new.other in
    let set = c.two_associations_begin_once.ensures in
    let sent : c.in_ok-poll_transmit.field-0 ≡ true = search rules in
    let same : c.in_ok-copy.copy ≡ new.draft.bytes = search rules in
    let polls = subst (Polls old new other) sent
    (λ l. c.each_call_is_what_a_host_does.ensures.polled c.in_ok-poll_transmit.field-0 old new l c.in_ok-poll_transmit.ensures.made) in
    let offers : OffersAsDue old new.draft.bytes = search rules in (
      poll_stays set.quiet set.written true old new c.poll_transmit.ensures.peer (λ _. offers) polls,
      λ _. subst (λ (bs : List ℕ). ComesSetUp bs c.args.times other next) same c.in_ok-hand_over.ensures.set_up,
    )

-- where there is no datagram, both stay as they were set up
pub returns-then-not-branch-clause-set_up : goal.returns-then-not-branch-clause-set_up
returns-then-not-branch-clause-set_up c =
    let old = c.args.one.now in
    let new = c.poll_transmit.new.self in
    let set = c.two_associations_begin_once.ensures in
    let sent : c.in_ok-poll_transmit.field-0 ≡ false = search rules in
    let polls = subst (Polls old new c.args.other.now) sent
    (λ l. c.each_call_is_what_a_host_does.ensures.polled c.in_ok-poll_transmit.field-0 old new l c.in_ok-poll_transmit.ensures.made) in
    (poll_stays set.quiet set.written false old new c.poll_transmit.ensures.peer (λ e. absurd (false≢true e)) polls, λ e. absurd (false≢true e))
