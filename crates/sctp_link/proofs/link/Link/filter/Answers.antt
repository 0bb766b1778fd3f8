use Rattle.sctp_link.proofs.Names.{◌≡◌, ap, sym, ◌∙◌, FilterRecord, cumulative, cumulative_tsn, tsns-placeholder, record_in, tsns}
use Rattle.sctp_link.proofs.link.Link.filter.Goals as goal

pub returns : goal.returns
returns g c =
    let w = record_in c.self.inside in
    let f = c.self.invariant.1.filter in
    let held : tsns c.filter.result.now.chunks ≡ c.self.inside.receiver.beyond = ap tsns c.filter.ensures.beyond
    ∙ tsns-placeholder c.self.inside.receiver.beyond in
    let base : cumulative_tsn w (cumulative w) ≡ c.self.inside.receiver.cumulative_tsn = sym (ap (λ (r : FilterRecord). r.cumulative) f) in
    rw (← c.self.view_is)
    (ap (λ t. let r : FilterRecord = record { cumulative = t; held = tsns c.filter.result.now.chunks; duplicates = c.filter.result.now.duplicates } in r) base
    ∙ ap (λ ts. let r : FilterRecord = record { cumulative = c.self.inside.receiver.cumulative_tsn; held = ts; duplicates = c.filter.result.now.duplicates } in
    r) held ∙ ap (λ ds. let r : FilterRecord =
    record { cumulative = c.self.inside.receiver.cumulative_tsn; held = c.self.inside.receiver.beyond; duplicates = ds } in r) c.filter.ensures.duplicates ∙ f)
