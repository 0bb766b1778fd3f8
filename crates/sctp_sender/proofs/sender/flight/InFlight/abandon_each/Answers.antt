use Rattle.sctp_sender.proofs.Names.{◌≡◌, ◌+◌, ◌++◌, ◌∷◌, length, length-append, drop, get_or, ap, sym, subst, ◌∙◌, append_assoc, arith, has_tail_at, not}
use Rattle.sctp_sender.proofs.Names.{option_to_list, list_all, sum_by, sum_by-append, AbandonedMessage, are_listed, abandoned_at, abandoned_each, leaving_each}
use Rattle.std.specs.Prelude.{true}
use Rattle.sctp_sender.specs.Late.{leaving_at}
use Rattle.sctp_sender.proofs.Lates.{at-most-one, next-of, rest-with-no-tail}
use Rattle.sctp_sender.proofs.sender.flight.InFlight.abandon_each.Goals as goal

pub loop-tsn-preserved : goal.loop-tsn-preserved
loop-tsn-preserved c =
    let ts = c.args.tsns.now in
    let i = c.loop-tsn.tsn-index in
    let t = get_or ts i 0 in
    let f = c.loop-tsn.self in
    let rest = drop (i + 1) ts in
    let inv = c.loop-tsn.invariant in
    let items = c.loop-tsn.abandoned.items in
    let d : drop i ts ≡ t ∷ rest = next-of ts i 0 c.loop-tsn-test.true in
    let is : c.abandon_message.new.self ≡ abandoned_at t f = c.in-Ok.ensures.ok in
    let one : option_to_list c.in-Ok.one ≡ leaving_at t f = c.in-Ok.ensures.answer in
    record {
      so_far = inv.so_far ∙ ap (λ xs. abandoned_each xs f) d ∙ ap (abandoned_each rest) (sym is);
      listed = λ all. c.in-Ok.ensures.listed rest (subst (λ xs. are_listed xs f ≡ true) d (inv.listed all));
      answered =
          inv.answered ∙ ap (λ xs. items ++ leaving_each xs f) d ∙ sym (append_assoc items (leaving_at t f) (leaving_each rest (abandoned_at t f)))
          ∙ ap (λ xs. (items ++ xs) ++ leaving_each rest (abandoned_at t f)) (sym one)
          ∙ ap (λ xs. xs ++ leaving_each rest (abandoned_at t f)) (sym c.put_any.ensures.items)
          ∙ ap (λ g. c.put_any.new.abandoned.items ++ leaving_each rest g) (sym is);
      bytes =
          (let s = ap (sum_by (λ (g : AbandonedMessage). g.bytes)) c.put_any.ensures.items
          ∙ sum_by-append (λ (g : AbandonedMessage). g.bytes) items (option_to_list c.in-Ok.one) in
          omega (arith, s, c.in-Ok.ensures.released, inv.bytes));
      known = λ bs k. c.abandon_message.ensures.known bs (inv.known bs k);
      no_tail = rest-with-no-tail f c.abandon_message.new.self t rest (subst (λ xs. list_all (λ x. not (has_tail_at f x)) xs ≡ true) d inv.no_tail) is;
      room =
          (let n = ap length c.put_any.ensures.items ∙ length-append items (option_to_list c.in-Ok.one) in
          let m = at-most-one c.in-Ok.one in
          let k = ap length d in
          omega (arith, n, m, k, inv.room, c.put_any.ensures.capacity));
    }
