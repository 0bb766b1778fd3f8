use Rattle.sctp_link.proofs.Names.{◌≡◌, ◌+◌, ◌-◌, ◌^◌, ◌++◌, ◌∷◌, [], length, rules, refl, ap, None, ◌∙◌, sym, subst, is_some, min, length-mapped}
use Rattle.sctp_link.proofs.Names.{change_where, has_tsn, with_nsent, with_inflight, after_resend, Data, refusal_of, IsRight, Transmission, Datagram}
use Rattle.sctp_link.proofs.Names.{datagram_record, state_in, record_in, IsLinked, map}
use Rattle.sctp_model.specs.declared.event.Event.TheVariants as E
use Rattle.sctp_model.specs.Reply as R
use Rattle.sctp_link.proofs.sides.Changes.{flight-aligned}
use Rattle.sctp_link.specs.declared.record.Kind.TheVariants as K
use Rattle.sctp_link.proofs.upkeep.Frames.{moved}
use Rattle.sctp_link.proofs.sender.Outgoing.{found, there, resend-fits, linked-resend, network-more, bytes-more}
use Rattle.sctp_link.proofs.link.Link.resend.Given.{Over}
use Rattle.sctp_link.proofs.link.Link.resend.Goals.{After-push_reserved}
use Rattle.sctp_link.proofs.link.Link.resend.Goals as goal

pub write_again-requires-clause-held : goal.write_again-requires-clause-held
write_again-requires-clause-held g c =
    let ok : refusal_of (record_in c.self.inside) (E.Resend c.args.tsn) ≡ None = rw (← c.self.view_is) at c.requires in
    ap is_some (there c.self.invariant.1 c.args.tsn c.ranges.tsn.fits ok)

pub write_again-requires-clause-encoding : goal.write_again-requires-clause-encoding
write_again-requires-clause-encoding g c d e =
    let ok : refusal_of (record_in c.self.inside) (E.Resend c.args.tsn) ≡ None = rw (← c.self.view_is) at c.requires in
    (tt, resend-fits c.self.invariant.1 c.args.tsn c.ranges.tsn.fits ok d e)

-- The record has one datagram more.
moves : (g : Over) (c : After-push_reserved g) → record (record_in c.self.inside) { network = map datagram_record c.push_reserved.new.self.items }
    ≡ after_resend (record_in c.self.inside) c.args.tsn
moves g c =
    let places = c.in_ok-places.places in
    let more : c.push_reserved.new.self.items
    ≡ c.self.inside.network.items ++ (let d : Datagram = record { kind = K.Data places; bytes = c.in_ok-bytes.bytes } in d) ∷ [] = search rules in
    cc (network-more c.self.inside.network.items c.push_reserved.new.self.items (K.Data places) c.in_ok-bytes.bytes more, c.in_ok-places.ensures.places)

pub invariant_of-self-2 : goal.invariant_of-self-2
invariant_of-self-2 g c =
    let ok : refusal_of (record_in c.self.inside) (E.Resend c.args.tsn) ≡ None = rw (← c.self.view_is) at c.requires in
    let l = c.self.invariant.1 in
    let small = c.ranges.tsn.fits in
    let d = (found l c.args.tsn small ok).chunk in
    let e = there l c.args.tsn small ok in
    let counted = c.in_ok-bytes.ensures.counted d e in
    let places = c.in_ok-places.places in
    let more : c.push_reserved.new.self.items
    ≡ c.self.inside.network.items ++ (let d : Datagram = record { kind = K.Data places; bytes = c.in_ok-bytes.bytes } in d) ∷ [] = search rules in
    let bytes = bytes-more c.self.inside.network.items c.push_reserved.new.self.items (K.Data places) c.in_ok-bytes.bytes more in (
      flight-aligned c.self.invariant.0 c.write_again.new.sender _ counted,
      subst (λ (u : Transmission).
          IsLinked (g.C.Checksum.sum c.self.inside.checksum) (state_in (record c.self.inside { sender = u; network = c.push_reserved.new.self }))) (sym counted)
          (moved _ _ (after_resend (record_in c.self.inside) c.args.tsn) (moves g (goal.at.invariant_of-self-2 g c).After-push_reserved)
          (rw bytes (linked-resend l c.args.tsn small ok d c.in_ok-bytes.bytes (min (d.nsent + 1) (2 ^ 32 - 1)) (with_inflight c.self.inside.sender.flight.queue
          (change_where (has_tsn c.args.tsn) (with_nsent (min (d.nsent + 1) (2 ^ 32 - 1))) c.self.inside.sender.flight.queue.inflight.chunks)) e
          (c.in_ok-bytes.ensures.encoding d e) (c.in_ok-bytes.ensures.reads d e) (length-mapped (λ (d : Datagram). d.bytes) c.self.inside.network.items
          ∙ sym (length-mapped datagram_record c.self.inside.network.items)) refl))),
    )

pub returns-clause-ok : goal.returns-clause-ok
returns-clause-ok g c =
    let ok : refusal_of (record_in c.self.inside) (E.Resend c.args.tsn) ≡ None = rw (← c.self.view_is) at c.requires in
    let l = c.self.invariant.1 in
    let small = c.ranges.tsn.fits in
    let d = (found l c.args.tsn small ok).chunk in
    let e = there l c.args.tsn small ok in
    let len : c.len-datagram.result ≡ length c.self.inside.network.items = search rules in
    rw (← c.self.view_is) (subst (λ (u : Transmission). IsRight (record_in c.self.inside) (E.Resend c.args.tsn) (R.Resent c.len-datagram.result)
    (record_in (record c.self.inside { sender = u; network = c.push_reserved.new.self }))) (sym (c.in_ok-bytes.ensures.counted d e))
    (record {
      right = ap R.Resent (len ∙ sym (length-mapped datagram_record c.self.inside.network.items));
      moves = moves g (goal.at.returns-clause-ok g c).After-push_reserved;
    }))
