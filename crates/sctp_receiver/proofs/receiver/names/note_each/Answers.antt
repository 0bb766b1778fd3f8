use Rattle.sctp_receiver.proofs.Names.{rules, ◌≡◌, suc, ◌+◌, ◌<◌, length, drop, drop-cons, add-one, refl, ap, sym, ◌∙◌, inl, inr, arith, ChunkForwardTsnStream}
use Rattle.sctp_receiver.proofs.Names.{named_forwarded, each_made, is_named}
use Rattle.sctp_receiver.proofs.NotedNames.{name-there, none-made}
use Rattle.sctp_receiver.proofs.receiver.names.note_each.Goals as goal

pub loop-place-preserved : goal.loop-place-preserved
loop-place-preserved c =
    let ns = c.args.names.now in
    let k = c.loop-place.place in
    let inv = c.loop-place.invariant in
    let all = each_made c.loop-place.noted.items c.args.streams.now in
    let lt : k < length ns = search rules in
    let none : ChunkForwardTsnStream = record { identifier = 0; sequence = 0 } in
    let here = c.note.ensures in
    let next : named_forwarded (drop k ns) all ≡ named_forwarded (drop (k + 1) ns) (each_made c.note.new.noted.items c.args.streams.now) =
    ap (λ xs. named_forwarded xs all) (drop-cons ns k none lt) ∙ rw add-one (ap (named_forwarded (drop (suc k) ns)) (sym here.value)) in
    record {
      so_far = inv.so_far ∙ next;
      same = here.places ∙ inv.same;
      named = λ p s e. elim (here.named p s e) [
        | inl z ↦ ap (is_named ns) z ∙ name-there ns k none lt
        | inr was ↦ inv.named p s was
      ];
      turns = omega (arith, inv.turns, c.tick.ensures);
    }

pub loop-place-init : goal.loop-place-init
loop-place-init c = record {
  so_far = ap (named_forwarded c.args.names.now) (sym (none-made c.args.noted.now.items c.args.streams.now c.requires.none));
  same = refl;
  named = λ p s e. absurd (c.requires.none p s e);
  turns = omega arith;
}
