use Rattle.sctp_link.proofs.Names.{◌≡◌, None, refl, ap, ◌∙◌, at_first, with_nothing, sides}
use Rattle.sctp_link.specs.Sides.{fresh}
use Rattle.sctp_link.proofs.sender.Begins.{linked-fresh}
use Rattle.sctp_link.proofs.link.Link.with_limit.Goals as goal

pub invariant_of-result : goal.invariant_of-result
invariant_of-result g c =
    let t = with_nothing c.args.first_tsn c.args.fragment_size c.args.max_message_size in
    let r = at_first c.args.first_tsn c.args.max_message_size None in
    let all : sides c.new.result c.new-2.result c.new-3.result ≡ fresh c.args.first_tsn c.args.fragment_size c.args.max_message_size =
    ap (λ z. sides z c.new-2.result c.new-3.result) c.new.ensures ∙ ap (λ z. sides t z c.new-3.result) c.new-2.ensures ∙ ap (sides t r) c.new-3.ensures in (
      rw (c.new.ensures, c.new-2.ensures, c.new-3.ensures) (record { receives = refl; progresses = refl; size = refl; unlimited = refl; forgets = refl }),
      linked-fresh (g.C.Checksum.sum c.args.checksum) c.args.first_tsn c.args.fragment_size c.args.max_message_size c.args.limit
          (sides c.new.result c.new-2.result c.new-3.result) c.new-4.result.items c.new-5.result.items c.new-6.result.items c.new-7.result.items
          c.ranges.first_tsn.fits c.requires.some c.requires.short all c.new-4.ensures.items c.new-5.ensures.items c.new-6.ensures.items c.new-7.ensures.items,
    )
