use Rattle.sctp_link.proofs.Names.{◌≡◌, ◌<◌, Some, None, ap, sym, ◌∙◌, rules, length, Option, slice_get, Data, Forward, unless, is_for_receiver, arrival_fits}
use Rattle.sctp_link.proofs.Names.{NoSuchDatagram, SpanTooWide, record_in, kind_record}
use Rattle.sctp_model.specs.LinkRecord.{Datagram}
use Rattle.sctp_link.proofs.upkeep.Observed.{kept-kind}
use Rattle.sctp_link.proofs.link.Link.refusal_arrive.Goals as goal

pub span_fits-requires : goal.span_fits-requires
span_fits-requires g c =
    let lt : c.args.k < length c.self.inside.network.items = search rules in
    let e = kept-kind c.self.inside.network.items c.args.k c.index.result.now lt c.index.ensures in
    rw (← c.self.view_is) (c.args.k, e ∙ ap (λ k. Some (kind_record k)) c.in-Data.is ∙ ap (λ ps. Some (Data ps)) (sym c.deref.ensures.value))

pub skip_fits-requires : goal.skip_fits-requires
skip_fits-requires g c =
    let lt : c.args.k < length c.self.inside.network.items = search rules in
    let e = kept-kind c.self.inside.network.items c.args.k c.index.result.now lt c.index.ensures in
    rw (← c.self.view_is)
    (c.args.k, e ∙ ap (λ k. Some (kind_record k)) c.in-Forward.is ∙ ap (λ ns. Some (Forward c.in-Forward.upto ns)) (sym c.deref-in-Forward.ensures.value))

pub returns-in-Data : goal.returns-in-Data
returns-in-Data g c =
    let w = record_in c.self.inside in
    let lt : c.args.k < length c.self.inside.network.items = search rules in
    let e = kept-kind c.self.inside.network.items c.args.k c.index.result.now lt c.index.ensures in
    let there : slice_get w.network c.args.k ≡ Some (Data c.deref.result.now) = e ∙ ap (λ k. Some (kind_record k)) c.in-Data.is
    ∙ ap (λ ps. Some (Data ps)) (sym c.deref.ensures.value) in
    let fits : c.span_fits.result ≡ arrival_fits w (Some (Data c.deref.result.now)) = rw (← c.self.view_is) at c.span_fits.ensures in
    rw (← c.self.view_is) (c.unless_fits.ensures ∙ ap (λ b. unless b SpanTooWide None) fits
    ∙ sym (ap (λ (o : Option Datagram). unless (is_for_receiver o) NoSuchDatagram (unless (arrival_fits w o) SpanTooWide None)) there))

pub returns-in-Forward : goal.returns-in-Forward
returns-in-Forward g c =
    let w = record_in c.self.inside in
    let lt : c.args.k < length c.self.inside.network.items = search rules in
    let e = kept-kind c.self.inside.network.items c.args.k c.index.result.now lt c.index.ensures in
    let there : slice_get w.network c.args.k ≡ Some (Forward c.in-Forward.upto c.deref-in-Forward.result.now) = e
    ∙ ap (λ k. Some (kind_record k)) c.in-Forward.is ∙ ap (λ ns. Some (Forward c.in-Forward.upto ns)) (sym c.deref-in-Forward.ensures.value) in
    let fits : c.skip_fits.result ≡ arrival_fits w (Some (Forward c.in-Forward.upto c.deref-in-Forward.result.now)) =
    rw (← c.self.view_is) at c.skip_fits.ensures in
    rw (← c.self.view_is) (c.unless_fits-in-Forward.ensures ∙ ap (λ b. unless b SpanTooWide None) fits
    ∙ sym (ap (λ (o : Option Datagram). unless (is_for_receiver o) NoSuchDatagram (unless (arrival_fits w o) SpanTooWide None)) there))

pub returns-in-Sack : goal.returns-in-Sack
returns-in-Sack g c =
    let w = record_in c.self.inside in
    let lt : c.args.k < length c.self.inside.network.items = search rules in
    let e = kept-kind c.self.inside.network.items c.args.k c.index.result.now lt c.index.ensures in
    rw (← c.self.view_is) (sym (ap (λ (o : Option Datagram). unless (is_for_receiver o) NoSuchDatagram (unless (arrival_fits w o) SpanTooWide None)) (e
    ∙ ap (λ k. Some (kind_record k)) c.in-Sack.is)))
