use Rattle.std.proofs.Common.{rules, ◌≡◌, ◌==◌, ap, subst, sym, ◌∙◌}
use Rattle.std.specs.List.{filter}
use Rattle.std.proofs.lemmas.Fn.{filter_same}
use Rattle.sctp_c.specs.Types.{Up, type_of}
use Rattle.sctp_c.specs.declared.sender.types.Noted.{Noted}
use Rattle.sctp_c.proofs.Noted.{kept, up-filter}
use Rattle.sctp_c.proofs.sender.types.Types.keep_seen.Goals as goal

pub invariant_of-self : goal.invariant_of-self
invariant_of-self c =
    let left : c.retain.new.self.items ≡ filter (λ (r : Noted). r.stamp == c.args.stamp) c.self.inside.rows.items =
    filter_same _ _ _ (λ x b f' k. search rules) _ _ c.retain.ensures.filtered in
    subst Up (sym left) (up-filter (λ (r : Noted). r.stamp == c.args.stamp) c.self.inside.rows.items c.self.invariant)

pub returns : goal.returns
returns c m seen =
    let left : c.retain.new.self.items ≡ filter (λ (r : Noted). r.stamp == c.args.stamp) c.self.inside.rows.items =
    filter_same _ _ _ (λ x b f' k. search rules) _ _ c.retain.ensures.filtered in
    ap (type_of m) (left ∙ ap (filter (λ (r : Noted). r.stamp == c.args.stamp)) c.self.view_is) ∙ kept c.args.stamp m c.args.self.now seen
