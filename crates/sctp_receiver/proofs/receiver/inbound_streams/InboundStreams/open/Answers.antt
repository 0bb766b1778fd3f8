use Rattle.sctp_receiver.proofs.Names.{rules, arith, ◌≡◌, ◌+◌, ◌++◌, ◌∷◌, [], slice_get, length, ap, ap₂, sym, subst, ◌∙◌, refl, sum_by, number, numbers_of}
use Rattle.sctp_receiver.proofs.Names.{new_stream}
use Rattle.sctp_receiver.proofs.Names.{cost_within, VisitOrder, IsListing, is_visited}
use Rattle.std.proofs.Common.{length-append}
use Rattle.std.proofs.lemmas.List.{map-append}
use Rattle.sctp_receiver.proofs.CostSums.{opened-sum}
use Rattle.sctp_util.proofs.Getting.{length-mapped}
use Rattle.sctp_receiver.proofs.Listing.{one-opened}
use Rattle.sctp_receiver.proofs.receiver.inbound_streams.InboundStreams.open.Goals as goal

pub invariant_of-self-2 : goal.invariant_of-self-2
invariant_of-self-2 c =
    let ls = c.self.inside.items.items in
    let l = new_stream c.args.stream c.args.max_message_size in
    let items : c.put.new.items.items ≡ ls ++ l ∷ [] = c.put.ensures.items ∙ ap₂ (λ xs x. xs ++ x ∷ []) c.make_place.ensures.items c.new-opened.ensures in
    let rest = c.reserve.ensures.rest in
    record {
      numbers = c.in_ok-push.ensures.ok ∙ ap (λ ns. ns ++ c.args.stream ∷ []) c.self.invariant.numbers ∙ sym (map-append number ls (l ∷ []))
          ∙ ap numbers_of (sym items);
      cost = c.self.invariant.cost ∙ sym (opened-sum ls c.args.stream c.args.max_message_size) ∙ ap (sum_by cost_within) (sym items);
      visits = subst (IsListing c.push-2.new.self) (sym items) (one-opened c.self.inside.visits c.push-2.new.self ls l c.self.invariant.visits
          (c.push-2.ensures.places ∙ ap (λ (v : VisitOrder). length v.spots + 1) rest)
          (λ p. c.push-2.ensures.visited p ∙ ap (is_visited p) rest)
          (λ p less. c.push-2.ensures.spans p (omega (arith, less, ap (λ (v : VisitOrder). length v.spots) rest))
          ∙ ap (λ (v : VisitOrder). slice_get v.spans p) rest) refl (λ s. refl));
      places =
          let many : c.len.result ≡ length c.make_place.new.items.items = search rules in
          omega (
            arith,
            c.in_ok-make_room.ensures.ok,
            many,
            ap length c.make_place.ensures.items,
            ap length c.in_ok-push.ensures.ok,
            length-append c.self.inside.numbers (c.args.stream ∷ []),
            ap length c.self.invariant.numbers,
            length-mapped number ls,
          );
      none = c.make_room.ensures.none;
    }
