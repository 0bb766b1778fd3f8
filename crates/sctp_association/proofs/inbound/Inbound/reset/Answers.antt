use Rattle.std.proofs.Common.{arith, ◌∙◌}
use Rattle.sctp_association.proofs.Arriving.{received_reset_by}
use Rattle.sctp_association.proofs.Noting.{IsLater, later_after, later_peer, stays_put, stays_same, tells_in, tells_reset_by}
use Rattle.std.proofs.Common.{refl, ◌≡◌}
use Rattle.sctp_association.proofs.Brought.{resets_read, resets_then}
use Rattle.sctp_association.specs.Events.{brought_at}
use Rattle.sctp_association.proofs.inbound.Inbound.reset.Goals as goal
use Rattle.sctp_association.proofs.inbound.Inbound.reset.Goals.{else-is_named, else-is_told, then-is_named+in_ok-reserve, then-is_told}
use Rattle.sctp_association.specs.declared.event.Events.{Events}

pub returns-clause-received : goal.returns-clause-received
returns-clause-received c =
    received_reset_by _ _ _ _ c.reset.result c.reset.ensures.ok c.reset.ensures.accepted c.reset.ensures.err

pub returns-clause-tells : goal.returns-clause-tells
returns-clause-tells c =
    let e : Events = c.args.events.now in
    let named : IsLater e c.if-is_named.events = elim c.if-is_named.branch [
      | then-is_named+in_ok-reserve w ↦ rw w.events-is (later_peer e _ (stays_same _ _ w.reserve.ensures.same) w.reserve.ensures.kept)
      | else-is_named w ↦ rw w.events-is (later_peer e _ (λ n h. h) (omega arith))
    ] in
    let told : IsLater c.if-is_named.events c.if-is_told.events = elim c.if-is_told.branch [
      | then-is_told w ↦ rw w.events-is (later_peer c.if-is_named.events _ (stays_put _ _ _ w.insert.ensures.value w.insert.ensures.full)
          (omega (arith, w.insert.ensures.room)))
      | else-is_told w ↦ rw w.events-is (later_peer c.if-is_named.events _ (λ n h. h) (omega arith))
    ] in
    let n = c.note_unless.ensures in
    let before = later_after e c.if-is_named.events c.if-is_told.events named told in
    tells_in _ _ _ _ (tells_reset_by _ _ _ _ _ _ c.reset.result c.reset.ensures.ok c.reset.ensures.err
    (later_after _ _ _ before (record { kept = n.kept; room = n.room; stays = n.readable }))
    (λ could m lt. n.noted (c.is_readable-could_read.ensures ∙ could) m (omega (arith, before.room, lt))))

pub returns-clause-events : goal.returns-clause-events
returns-clause-events c =
    let e : Events = c.args.events.now in
    let named : c.if-is_named.events ≡ brought_at 130 e c.if-is_named.events = elim c.if-is_named.branch [
      | then-is_named+in_ok-reserve w ↦ rw w.events-is refl
      | else-is_named w ↦ rw w.events-is refl
    ] in
    let told : c.if-is_told.events ≡ brought_at 130 c.if-is_named.events c.if-is_told.events = elim c.if-is_told.branch [
      | then-is_told w ↦ rw w.events-is refl
      | else-is_told w ↦ rw w.events-is refl
    ] in
    resets_then e c.if-is_told.events c.note_unless.new.events (resets_then e c.if-is_named.events c.if-is_told.events named told)
    (resets_read c.if-is_told.events c.note_unless.new.events c.note_unless.ensures.rest)
