use Rattle.sctp_association.proofs.Ends.{forged_by}
use Rattle.std.proofs.Common.{ap, false, length, refl, rules, subst, sym, true, vec_len, ◌≡◌, ◌∙◌}
use Rattle.std.proofs.lemmas.Bool.{false≢true}
use Rattle.sctp_association.proofs.Arriving.{acknowledged_sack, acknowledged_same, acknowledged_then, counted_asked}
use Rattle.sctp_association.proofs.Moving.{follows_sack}
use Rattle.sctp_association.proofs.Sacks.{hears_outdated, hears_taken}
use Rattle.sctp_association.specs.Paths.{FollowsSack}
use Rattle.sctp_data.specs.SelectiveAck.{Sack, sack_of}
use Rattle.sctp_sender.specs.Flight.{is_outdated}
use Rattle.sctp_association.proofs.Brought.{adds_more, adds_none, sack_fell}
use Rattle.sctp_association.proofs.Falls.{outdated_falls, sack_falls}
use Rattle.sctp_association.proofs.outbound.Outbound.take_sack.Goals as goal

pub returns-then-sna32lt-clause-hearing : goal.returns-then-sna32lt-clause-hearing
returns-then-sna32lt-clause-hearing c = acknowledged_same _ _ _ refl

pub returns-in-Err-OutOfMemory-clause-hearing : goal.returns-in-Err-OutOfMemory-clause-hearing
returns-in-Err-OutOfMemory-clause-hearing c = acknowledged_sack _ _ c.pass_over_blocks.ensures.either _ _ _ c.acked.ensures

pub returns-in-Err : goal.returns-in-Err
returns-in-Err c = record {
  low = λ s w. w;
  room = refl;
  fell = adds_none _ _;
  told = search rules;
  hearing = acknowledged_sack _ _ c.pass_over_blocks.ensures.either _ _ _ c.acked.ensures;
  hears = search rules;
  path = search rules;
  counts = search rules;
  limits = search rules;
  forged = search rules;
  claims = λ is. forged_by _ _ c.args.self.now c.acked.result c.pass_over_blocks.ensures.taken (λ x e. cc (e, c.in-Err.is))
      (λ e. search (rules, e)) c.acked.ensures.refused;
  err = search rules;
}

pub returns-clause-hearing : goal.returns-clause-hearing
returns-clause-hearing c =
    acknowledged_then _ _ _ _ (acknowledged_sack _ _ c.pass_over_blocks.ensures.either _ _ _ c.acked.ensures) (
    acknowledged_then _ _ _ _ (acknowledged_same _ _ _ (ap (λ o. o.sender) c.follow.ensures.rest ∙ ap (λ o. o.sender) c.note_back.ensures)) (
    acknowledged_then _ _ _ _ (counted_asked _ _ _ c.count_missing.ensures.hearing) (acknowledged_same _ _ _ (ap (λ o. o.sender) c.run_timer.ensures.rest))
    )
    )

pub returns-then-sna32lt-clause-hears : goal.returns-then-sna32lt-clause-hears
returns-then-sna32lt-clause-hears c taken = hears_outdated _ _ _ (search rules) refl

pub returns-clause-hears : goal.returns-clause-hears
returns-clause-hears c taken =
    hears_taken _ _ c.pass_over_blocks.ensures.either _ _ _ _ c.in-Ok.acked c.in-Ok.is c.acked.ensures (
    acknowledged_then _ _ _ _ (acknowledged_same _ _ _ (ap (λ o. o.sender) c.follow.ensures.rest ∙ ap (λ o. o.sender) c.note_back.ensures)) (
    acknowledged_then _ _ _ _ (counted_asked _ _ _ c.count_missing.ensures.hearing) (acknowledged_same _ _ _ (ap (λ o. o.sender) c.run_timer.ensures.rest))
    )
    )

-- ## What it makes of the sending half

pub returns-then-sna32lt-clause-path : goal.returns-then-sna32lt-clause-path
returns-then-sna32lt-clause-path c taken =
    let is : is_outdated (sack_of c.args.sack.now) c.args.self.now.sender.flight ≡ true = search rules in
    (λ late. refl, λ current. absurd (false≢true (sym current ∙ is)))

pub returns-clause-path : goal.returns-clause-path
returns-clause-path c taken =
    let is : is_outdated (sack_of c.args.sack.now) c.args.self.now.sender.flight ≡ false = search rules in
    let many : length c.in-Ok.acked.taken_back.items ≡ vec_len c.in-Ok.acked.taken_back = search rules in (
      λ late. absurd (false≢true (sym is ∙ late)),
      λ current. subst (λ (k : Sack). FollowsSack k c.args.now c.args.self.now c.run_timer.new.self) c.pass_over_blocks.ensures.taken (
          follows_sack _ c.args.now c.args.self.now c.in-Ok.acked _ c.acked.new.self c.in-Ok.is c.acked.ensures c.acked_tsn-before.result
          c.flight-flight.result c.acked_tsn-before.ensures c.flight-flight.ensures c.note_back.new.self c.len.result c.came_twice.new.self
          c.deref-2.result.now c.note_back.ensures (c.len.ensures
          ∙ sym many) c.deref-2.ensures.value c.came_twice.ensures c.deref-3.result.now c.deref-4.result.now
          c.deref-3.ensures.value c.deref-4.ensures.value c.follow.new.self c.count_missing.new.self c.run_timer.new.self (record {
            grown = c.follow.ensures.grown;
            trips = c.follow.ensures.trips;
            failures = c.follow.ensures.failures;
            timer = c.follow.ensures.timer;
            rest = c.follow.ensures.rest;
          }) c.acked_tsn.result c.acked_tsn.ensures c.count_missing.ensures.missed c.run_timer.ensures.at c.run_timer.ensures.rest),
    )

-- ## The buffered amounts that fall

pub returns-then-sna32lt-clause-fell : goal.returns-then-sna32lt-clause-fell
returns-then-sna32lt-clause-fell c = adds_none _ _

pub returns-in-Err-OutOfMemory-clause-fell : goal.returns-in-Err-OutOfMemory-clause-fell
returns-in-Err-OutOfMemory-clause-fell c = adds_none _ _

pub returns-clause-fell : goal.returns-clause-fell
returns-clause-fell c =
    adds_more _ _ _ _ (λ n h. sack_fell n _ c.args.self.now _ c.acked.new.self c.in-Ok.acked _ c.in-Ok.is c.acked.ensures
    c.pass_over_blocks.ensures.taken c.deref.ensures.value h) c.note_low.ensures.only

pub returns-then-sna32lt-clause-told : goal.returns-then-sna32lt-clause-told
returns-then-sna32lt-clause-told c taken s h lt =
    let is : is_outdated (sack_of c.args.sack.now) c.args.self.now.sender.flight ≡ true = search rules in
    absurd (outdated_falls s (sack_of c.args.sack.now) c.args.self.now is h)

pub returns-clause-told : goal.returns-clause-told
returns-clause-told c taken s h lt =
    c.note_low.ensures.told s (sack_falls s _ c.args.self.now _ c.acked.new.self c.in-Ok.acked _ c.in-Ok.is c.acked.ensures
    c.pass_over_blocks.ensures.taken c.deref.ensures.value h) lt
