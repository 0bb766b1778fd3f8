use Rattle.sctp_link.proofs.Names.{◌≡◌, ◌+◌, ◌-◌, ◌%◌, ◌^◌, ◌++◌, ◌∷◌, [], length, take, rules, refl, ap, ◌∙◌, sym, subst, length-mapped, Sack, sack_of}
use Rattle.sctp_link.proofs.Names.{after_ack, Reception, IsRight, Kind, Datagram, datagram_record, state_in, record_in, IsLinked, map}
use Rattle.sctp_model.specs.Reply as R
use Rattle.sctp_receiver.specs.Inbound.{numbers_of}
use Rattle.sctp_receiver.specs.Receiver.{filter_of, sack}
use Rattle.sctp_model.specs.declared.event.Event.TheVariants as E
use Rattle.sctp_link.proofs.sides.Aligned.{with-receiver}
use Rattle.sctp_link.specs.declared.record.Kind.TheVariants as K
use Rattle.sctp_link.proofs.upkeep.Frames.{moved}
use Rattle.sctp_link.proofs.sender.Outgoing.{network-more, bytes-more}
use Rattle.sctp_link.proofs.acknowledgement.Reporting.{cut-is, answered-count, answered-is, fits-encoding, cumulative-place, report-is, linked-ack}
use Rattle.sctp_link.proofs.acknowledgement.Reporting.{recorded-acked}
use Rattle.sctp_link.proofs.link.Link.ack.Given.{Over}
use Rattle.sctp_link.proofs.link.Link.ack.Goals.{After-push_reserved}
use Rattle.sctp_link.proofs.link.Link.ack.Goals as goal

pub write_datagram-requires-clause-encoding : goal.write_datagram-requires-clause-encoding
write_datagram-requires-clause-encoding g c = (
  tt,
  fits-encoding c.self.invariant.1 c.args.credit c.self.inside.receiver refl (sack_of c.in-Ok.sack)
      (c.in-Ok.ensures.sack ∙ ap (sack c.args.credit) c.receiver.ensures),
)

-- The record has the datagram that says what came.
acked : (g : Over) (c : After-push_reserved g) → record (record_in c.self.inside)
    { network = map datagram_record c.push_reserved.new.self.items; duplicates = c.clear.new.self.items } ≡ after_ack (record_in c.self.inside) c.args.credit
acked g c =
    let r = c.self.inside.receiver in
    let s = sack_of c.in-Ok.sack in
    let is = (c.in-Ok.ensures.sack ∙ ap (sack c.args.credit) c.receiver.ensures) in
    let cut = cut-is c.self.invariant.1 c.args.credit r refl s is in
    let counted = answered-count c.self.invariant.1 c.args.credit r refl s is in
    let kept : c.in_ok-blocks.blocks.items ≡ s.gap_ack_blocks = search rules in
    let noted : c.in_ok-duplicates.duplicates.items ≡ take (length s.duplicate_tsn) c.self.inside.duplicates.items = search rules in
    let kind : Kind = K.Sack c.from.result c.args.credit c.in_ok-blocks.blocks c.in_ok-duplicates.duplicates in
    let more : c.push_reserved.new.self.items
    ≡ c.self.inside.network.items ++ (let d : Datagram = record { kind = kind; bytes = c.in_ok-bytes.bytes } in d) ∷ [] =
    search rules in
    let network = network-more c.self.inside.network.items c.push_reserved.new.self.items kind c.in_ok-bytes.bytes more in
    let tsn : c.in-Ok.sack.cumulative_tsn_ack ≡ c.self.inside.receiver.cumulative_tsn = ap (λ (t : Sack). t.cumulative_tsn_ack) is in
    let place : c.from.result ≡ ((c.in-Ok.sack.cumulative_tsn_ack + (2 ^ 32 - c.self.inside.first_tsn)) % 2 ^ 32 + 1) % 2 ^ 32 = search rules in
    let report = report-is c.self.invariant.1 c.args.credit _ s.gap_ack_blocks refl cut
    (length s.duplicate_tsn) counted c.from.result _ c.in_ok-duplicates.duplicates.items (place
    ∙ ap (λ t. ((t + (2 ^ 32 - c.self.inside.first_tsn)) % 2 ^ 32 + 1) % 2 ^ 32) tsn ∙ cumulative-place c.self.invariant.1 c.args.credit) refl noted in
    recorded-acked (record_in c.self.inside) c.args.credit _ c.clear.new.self.items _ network (rw kept report) (search rules)

pub invariant_of-self-2 : goal.invariant_of-self-2
invariant_of-self-2 g c =
    let sum = g.C.Checksum.sum c.self.inside.checksum in
    let r = c.self.inside.receiver in
    let s = sack_of c.in-Ok.sack in
    let is = (c.in-Ok.ensures.sack ∙ ap (sack c.args.credit) c.receiver.ensures) in
    let cut = cut-is c.self.invariant.1 c.args.credit r refl s is in
    let counted = answered-count c.self.invariant.1 c.args.credit r refl s is in
    let kind : Kind = K.Sack c.from.result c.args.credit c.in_ok-blocks.blocks c.in_ok-duplicates.duplicates in
    let more : c.push_reserved.new.self.items
    ≡ c.self.inside.network.items ++ (let d : Datagram = record { kind = kind; bytes = c.in_ok-bytes.bytes } in d) ∷ [] =
    search rules in
    let bytes = bytes-more c.self.inside.network.items c.push_reserved.new.self.items kind c.in_ok-bytes.bytes more in
    let tsn : c.in-Ok.sack.cumulative_tsn_ack ≡ c.self.inside.receiver.cumulative_tsn = ap (λ (t : Sack). t.cumulative_tsn_ack) is in
    let moves = acked g (goal.at.invariant_of-self-2 g c).After-push_reserved in
    let len = length-mapped (λ (d : Datagram). d.bytes) c.self.inside.network.items ∙ sym (length-mapped datagram_record c.self.inside.network.items) in
    let sent = c.sack_sent.ensures in (
      with-receiver c.self.invariant.0 c.sack_sent.new.self (ap (λ (z : Reception). numbers_of z.streams) sent)
          (ap (λ (z : Reception). z.max_message_size) sent) (ap (λ (z : Reception). z.limits) sent),
      subst (λ (z : Reception).
          IsLinked sum (state_in (record c.self.inside { receiver = z; network = c.push_reserved.new.self; duplicates = c.clear.new.self })))
          (sym sent) (moved _ _ (after_ack (record_in c.self.inside) c.args.credit) moves (rw bytes (linked-ack c.self.invariant.1 c.args.credit _
          s.gap_ack_blocks refl cut (length s.duplicate_tsn) counted s c.in_ok-bytes.bytes (record (filter_of r) { duplicates = [] }) tsn (ap (λ (t : Sack).
          t.advertised_receiver_window_credit) is) refl (answered-is c.self.invariant.1 c.args.credit r refl s is) (search rules) (search rules) len refl))),
    )

pub returns-clause-ok : goal.returns-clause-ok
returns-clause-ok g c =
    let len : c.len-datagram.result ≡ length c.self.inside.network.items = search rules in
    rw (← c.self.view_is) (subst (λ (z : Reception). IsRight (record_in c.self.inside) (E.Ack c.args.credit) (R.Ack c.len-datagram.result)
    (record_in (record c.self.inside { receiver = z; network = c.push_reserved.new.self; duplicates = c.clear.new.self }))) (sym c.sack_sent.ensures)
    (record {
      right = ap R.Ack (len ∙ sym (length-mapped datagram_record c.self.inside.network.items));
      moves = acked g (goal.at.returns-clause-ok g c).After-push_reserved;
    }))
