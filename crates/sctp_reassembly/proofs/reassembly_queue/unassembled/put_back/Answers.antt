use Rattle.std.proofs.Common.{◌≡◌, ◌-◌, ◌++◌, [], length, take, drop, append_assoc, length-take-le, sym, ap, ap₂, ◌∙◌, arith, rules}
use Rattle.std.specs.VecDeque.{deque_len}
use Rattle.std.proofs.Math.Seq.{drop-append_seam, take-append_seam}
use Rattle.std.proofs.lemmas.List.{length-append}
use Rattle.sctp_reassembly.proofs.reassembly_queue.unassembled.put_back.Goals as goal

pub returns-clause-value : goal.returns-clause-value
returns-clause-value c =
    let xs = c.args.chunks.now.items in
    let f = c.args.first in
    let ks = c.args.kept in
    let zs = c.loop-fragment.chunks.items in
    let front = length-take-le f xs c.requires.in_range in
    let none : c.loop-fragment.kept ≡ [] = search rules in
    let all : zs ≡ (ks ++ drop f xs) ++ take f xs = ap (λ ys. ys ++ zs) (sym none) ∙ c.loop-fragment.invariant.value
    ∙ ap (λ ys. ks ++ ys) c.rotate_left.ensures.items ∙ sym (append_assoc ks (drop f xs) (take f xs)) in
    let long : deque_len c.loop-fragment.chunks ≡ length zs = search rules in
    let at : deque_len c.loop-fragment.chunks - f ≡ length (ks ++ drop f xs) =
    omega (arith, long, ap length all, length-append (ks ++ drop f xs) (take f xs), front) in
    c.rotate_right.ensures.items
    ∙ ap₂ (λ i ys. drop i ys ++ take i ys) at all
    ∙ ap₂ (λ us vs. us ++ vs) (drop-append_seam (ks ++ drop f xs) (take f xs)) (take-append_seam (ks ++ drop f xs) (take f xs))
    ∙ sym (append_assoc (take f xs) ks (drop f xs))

pub returns-clause-turns : goal.returns-clause-turns
returns-clause-turns c =
    let none : c.loop-fragment.kept ≡ [] = search rules in
    omega (arith, c.loop-fragment.invariant.turns, ap length none)
