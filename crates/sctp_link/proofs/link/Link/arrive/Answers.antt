use Rattle.sctp_link.proofs.Names.{◌≡◌, Some, None, ap, ◌∙◌, arith, refl, refusal_of, record_in, kind_record}
use Rattle.sctp_model.specs.declared.event.Event.TheVariants as E
use Rattle.sctp_link.proofs.receiver.Comes.{never-sack, there-is}
use Rattle.sctp_link.proofs.upkeep.Observed.{kept-kind}
use Rattle.sctp_link.proofs.link.Link.arrive.Goals as goal

pub index-requires : goal.index-requires
index-requires g c =
    let none : refusal_of (record_in c.self.inside) (E.Arrive c.args.k) ≡ None = rw (← c.self.view_is) at c.requires in
    omega (arith, there-is (record_in c.self.inside) c.args.k c.self.inside.network.items refl none)

pub arrive_data-requires-clause-lies : goal.arrive_data-requires-clause-lies
arrive_data-requires-clause-lies g c =
    let none : refusal_of (record_in c.self.inside) (E.Arrive c.args.k) ≡ None = rw (← c.self.view_is) at c.requires in
    let lt = there-is (record_in c.self.inside) c.args.k c.self.inside.network.items refl none in
    let e = kept-kind c.self.inside.network.items c.args.k c.index.result.now lt c.index.ensures ∙ ap (λ k. Some (kind_record k)) c.in-Data.is in
    rw (← c.self.view_is) (c.in-Data.places.items, e)

pub arrive_skip-requires-clause-lies : goal.arrive_skip-requires-clause-lies
arrive_skip-requires-clause-lies g c =
    let none : refusal_of (record_in c.self.inside) (E.Arrive c.args.k) ≡ None = rw (← c.self.view_is) at c.requires in
    let lt = there-is (record_in c.self.inside) c.args.k c.self.inside.network.items refl none in
    let e = kept-kind c.self.inside.network.items c.args.k c.index.result.now lt c.index.ensures ∙ ap (λ k. Some (kind_record k)) c.in-Forward.is in
    rw (← c.self.view_is) (c.in-Forward.messages.items, e)

pub unreachable-requires : goal.unreachable-requires
unreachable-requires g c =
    let none : refusal_of (record_in c.self.inside) (E.Arrive c.args.k) ≡ None = rw (← c.self.view_is) at c.requires in
    let lt = there-is (record_in c.self.inside) c.args.k c.self.inside.network.items refl none in
    let e = kept-kind c.self.inside.network.items c.args.k c.index.result.now lt c.index.ensures ∙ ap (λ k. Some (kind_record k)) c.in-Sack.is in
    never-sack (record_in c.self.inside) c.args.k _ e none
