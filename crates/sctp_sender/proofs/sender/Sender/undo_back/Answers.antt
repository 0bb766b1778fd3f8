use Rattle.sctp_sender.proofs.Names.{◌≡◌, ℕ, List, ap, sym, subst, ◌∙◌, Flight, AreReported, IsCovered, with_reported_again, Transmission, IsAllSettled}
use Rattle.std.specs.Option.{option_map}
use Rattle.sctp_sender.proofs.Undone.{again-all-settled, undone-covered, undone-reported}
use Rattle.sctp_sender.proofs.sender.Sender.undo_back.Goals as goal

pub invariant_of-self : goal.invariant_of-self
invariant_of-self c =
    let f : Flight = c.self.inside.flight in
    let ks : List ℕ = c.args.back.told.places.items in
    let t = c.requires.0 in
    let u = c.requires.1 in
    let kept : t.kept ≡ option_map (λ k. k.user_data.items) c.self.inside.kept = c.requires.2 ∙ ap (λ (t : Transmission). t.kept) (sym c.self.view_is) in
    let same : with_reported_again ks f ≡ t.flight = ap (λ (t : Transmission). with_reported_again ks t.flight) c.self.view_is ∙ u.same in
    let new : c.report_again_counted.new.self ≡ with_reported_again ks f = c.report_again_counted.ensures.value
    ∙ ap (λ xs. with_reported_again xs f) c.deref.ensures.value in (
      c.self.invariant.0,
      c.self.invariant.1,
      subst (λ (g : Flight). IsAllSettled g.queue) (sym new) (again-all-settled ks f c.self.invariant.2),
      subst (IsCovered c.set_reported.new.kept) (sym new) (undone-covered c.self.inside.kept c.set_reported.new.kept c.args.back.before ks f t.flight
          t.kept kept same u.cover u.none c.set_reported.ensures.data c.set_reported.ensures.none c.set_reported.ensures.some c.self.invariant.3),
      subst (AreReported c.set_reported.new.kept) (sym new) (undone-reported c.self.inside.kept c.set_reported.new.kept c.args.back.before ks f t.flight
          same u.known u.none c.set_reported.ensures.none c.set_reported.ensures.some c.self.invariant.4),
    )
