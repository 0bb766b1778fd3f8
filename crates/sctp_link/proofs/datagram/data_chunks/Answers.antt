use Rattle.sctp_link.proofs.Names.{◌≡◌, ◌++◌, ◌∷◌, [], map, ap, sym, subst, ◌∙◌, arith, rules, reverse, AllByRecursion, reverse-append, nil_from_length, fresh}
use Rattle.sctp_link.proofs.Names.{wire_of, IsFreshKind, append_assoc, front_all, all_last}
use Rattle.sctp_link.proofs.upkeep.Packets.{data_kind, fresh_data, last_data, none_data}
use Rattle.sctp_link.proofs.datagram.data_chunks.Goals as goal

pub unreachable-requires : goal.unreachable-requires
unreachable-requires c =
    let k = c.loop-kind.invariant.known c.requires.data.0 c.requires.data.1 in
    let r = last_data c.pop.new.self.items c.in-Some.kind k.0 (ap (map wire_of) (sym c.in-Some.ensures.items) ∙ k.3) in
    data_kind c.in-Some.kind r.final c.in_default-kind.not-PayloadData r.last

pub loop-kind-preserved : goal.loop-kind-preserved
loop-kind-preserved c =
    let all = subst (AllByRecursion IsFreshKind) c.in-Some.ensures.items c.loop-kind.invariant.fresh in
    record {
      known = λ ds e.
          let k = c.loop-kind.invariant.known ds e in
          let r = last_data c.pop.new.self.items c.in-Some.kind k.0 (ap (map wire_of) (sym c.in-Some.ensures.items) ∙ k.3) in
          let one =
          fresh_data c.in-PayloadData.chunk r.final (subst IsFreshKind c.in-PayloadData.is (all_last IsFreshKind c.pop.new.self.items c.in-Some.kind all))
          (ap wire_of (sym c.in-PayloadData.is) ∙ r.last) in (
            r.less,
            r.final ∷ k.1,
            k.2 ∙ ap (λ xs. xs ++ k.1) r.all ∙ append_assoc r.less (r.final ∷ []) k.1,
            r.rest,
            ap reverse c.in_ok-push.ensures.items ∙ reverse-append c.loop-kind.chunks.items (c.in-PayloadData.chunk ∷ [])
                ∙ ap (λ x. x ∷ reverse c.loop-kind.chunks.items) one ∙ ap (λ xs. fresh r.final ∷ xs) k.4,
          );
      fresh = front_all IsFreshKind c.pop.new.self.items c.in-Some.kind all;
    }

pub returns-clause-chunks : goal.returns-clause-chunks
returns-clause-chunks c = λ ds e.
    let none : c.loop-kind.kinds.items ≡ [] = nil_from_length c.loop-kind.kinds.items (omega (arith, c.in_default.ensures.cases.0)) in
    let k = c.loop-kind.invariant.known ds e in
    let front : k.0 ≡ [] = none_data k.0 (sym (ap (map wire_of) none) ∙ k.3) in
    let turned : c.reverse.new.self.items ≡ reverse c.loop-kind.chunks.items = search rules in
    turned ∙ k.4 ∙ ap (map fresh) (sym (k.2 ∙ ap (λ xs. xs ++ k.1) front))
