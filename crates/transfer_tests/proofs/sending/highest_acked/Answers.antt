use Rattle.std.proofs.Common.{List, length, ap, ◌∙◌, ◌-◌}
use Rattle.std.specs.Prelude.{option_map, slice_get}
use Rattle.sctp_sender.specs.declared.sender.flight.Released.{Released}
use Rattle.sctp_data.specs.SelectiveAck.{sack_of}
use Rattle.sctp_sender.specs.Flight.{released_by}
use Rattle.sctp_sender.proofs.Lows.{last-tsn}
use Rattle.transfer_tests.proofs.sending.highest_acked.Goals as goal

pub returns-in-Some-clause-highest : goal.returns-in-Some-clause-highest
returns-in-Some-clause-highest c =
    ap (option_map (λ (r : Released). r.tsn)) c.in-Some.ensures.value
    ∙ ap (λ (rs : List Released). option_map (λ (r : Released). r.tsn) (slice_get rs (length rs - 1))) (c.deref.ensures.value ∙ c.in_ok-released.ensures.answer)
    ∙ last-tsn (released_by (sack_of c.args.sack.now) c.args.sender.now.flight) c.args.sender.now.streams

pub returns-clause-highest : goal.returns-clause-highest
returns-clause-highest c =
    ap (option_map (λ (r : Released). r.tsn)) c.in-None.ensures.value
    ∙ ap (λ (rs : List Released). option_map (λ (r : Released). r.tsn) (slice_get rs (length rs - 1))) (c.deref.ensures.value ∙ c.in_ok-released.ensures.answer)
    ∙ last-tsn (released_by (sack_of c.args.sack.now) c.args.sender.now.flight) c.args.sender.now.streams
