use Rattle.sctp_link.proofs.Names.{◌≡◌, ◌∷◌, ◌++◌, [], rules, None, refl, ap, sym, ◌∙◌, map, arith, length-mapped, ForwardTsn, Forward, place_of, tsn_of}
use Rattle.sctp_link.proofs.Names.{with_datagram, skip_refusal, Datagram, datagram_record, pair_in, record_in}
use Rattle.sctp_model.specs.declared.event.Event.TheVariants as E
use Rattle.sctp_link.specs.declared.record.Kind.TheVariants as K
use Rattle.sctp_link.proofs.upkeep.Frames.{moved}
use Rattle.sctp_link.proofs.sender.Outgoing.{network-more, bytes-more}
use Rattle.sctp_link.proofs.skips.SkipMade.{pairs-short, skip-says, linked-made}
use Rattle.sctp_link.proofs.link.Link.skip.Goals as goal

pub write_datagram-requires-clause-encoding : goal.write_datagram-requires-clause-encoding
write_datagram-requires-clause-encoding g c =
    let w = record_in c.self.inside in
    let ms = c.self.inside.messages.items in
    let names = c.args.messages.items in
    let place = place_of w c.args.upto in
    let ok : skip_refusal w place names ≡ None = rw (← c.self.view_is) at c.requires in
    let pairs : c.in_ok-streams.streams.items ≡ map (pair_in ms) names = c.in_ok-streams.ensures.pairs
    ∙ ap (λ qs. map (pair_in qs) c.deref-2.result.now) c.deref.ensures.value ∙ ap (map (pair_in ms)) c.deref-2.ensures.value in
    let f : ForwardTsn = record { new_cumulative_tsn = c.args.upto; streams = c.in_ok-streams.streams.items } in
    (tt, pairs-short c.self.invariant.1 place names ok ms refl refl f pairs)

pub invariant_of-self-2 : goal.invariant_of-self-2
invariant_of-self-2 g c =
    let w = record_in c.self.inside in
    let ms = c.self.inside.messages.items in
    let names = c.args.messages.items in
    let place = place_of w c.args.upto in
    let ok : skip_refusal w place names ≡ None = rw (← c.self.view_is) at c.requires in
    let pairs : c.in_ok-streams.streams.items ≡ map (pair_in ms) names = c.in_ok-streams.ensures.pairs
    ∙ ap (λ qs. map (pair_in qs) c.deref-2.result.now) c.deref.ensures.value ∙ ap (map (pair_in ms)) c.deref-2.ensures.value in
    let f : ForwardTsn = record { new_cumulative_tsn = c.args.upto; streams = c.in_ok-streams.streams.items } in
    let own : c.args.upto ≡ tsn_of w place = omega (arith, c.self.invariant.1.setup.first, c.ranges.upto.fits) in
    let more : c.push_reserved.new.self.items ≡ c.self.inside.network.items
    ++ (let d : Datagram = record { kind = K.Forward place c.args.messages; bytes = c.in_ok-bytes.bytes } in d) ∷ [] = search rules in
    let network = network-more c.self.inside.network.items c.push_reserved.new.self.items (K.Forward place c.args.messages) c.in_ok-bytes.bytes more in
    let bytes = bytes-more c.self.inside.network.items c.push_reserved.new.self.items (K.Forward place c.args.messages) c.in_ok-bytes.bytes more in (
      c.self.invariant.0,
      moved _ _ (with_datagram w (Forward place names)) (ap (λ ds. record w { network = ds }) network)
          (rw bytes (linked-made c.self.invariant.1 place names ok f (skip-says c.self.invariant.1 place names ok ms refl refl f own pairs) c.in_ok-bytes.bytes
          (E.Skip c.args.upto c.args.messages) ok refl c.in_ok-bytes.ensures.encoding c.in_ok-bytes.ensures.reads
          (length-mapped (λ (d : Datagram). d.bytes) c.self.inside.network.items ∙ sym (length-mapped datagram_record c.self.inside.network.items)))),
    )
