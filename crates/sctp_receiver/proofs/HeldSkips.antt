-- What the skips of a FORWARD-TSN look at, by what is held.
use Rattle.sctp_receiver.proofs.Names.{ℕ, ◌+◌, ◌*◌, ◌≤◌, Bool, true, false, List, [], ◌∷◌, length, Some, arith, if◌then◌else◌, sum_by, sum_by-cons, ForwardTsn}
use Rattle.sctp_receiver.proofs.Names.{set_chunks, InboundStream, number, is_named, Reception, unordered_skips_walk, incomplete_skips_walk, holds_any, to_visit}
use Rattle.sctp_receiver.specs.SkipCosts.{skips_walk, held_messages, held_fragments}
use Rattle.sctp_receiver.proofs.SkipCosts.{ordered_walk, incomplete_walk, unordered_walk, messages}
use Rattle.sctp_receiver.proofs.StreamCosts.{kept-cost}

-- ## All streams

abbrev fragments : InboundStream → ℕ
fragments l = set_chunks l.queue.held.ordered + length l.queue.held.unassembled

all-walks : (ls : List InboundStream) → sum_by ordered_walk ls + unordered_skips_walk ls + incomplete_skips_walk ls
    ≤ length (to_visit ls) + 14 * held_messages ls + 6 * held_fragments ls
all-walks [] = omega arith
all-walks (l ∷ ls) = by (holds_any l.queue.held) (all-walks ls)
  where
    by : (b : Bool) → sum_by ordered_walk ls + unordered_skips_walk ls + incomplete_skips_walk ls
        ≤ length (to_visit ls) + 14 * held_messages ls + 6 * held_fragments ls
        → sum_by ordered_walk (l ∷ ls) + sum_by unordered_walk (if b then l ∷ to_visit ls else to_visit ls)
        + (sum_by incomplete_walk (if b then l ∷ to_visit ls else to_visit ls) + sum_by messages (l ∷ ls))
        ≤ length (if b then l ∷ to_visit ls else to_visit ls) + 14 * held_messages (l ∷ ls) + 6 * held_fragments (l ∷ ls)
    by true ih =
        let a = sum_by-cons ordered_walk l ls in
        let m = sum_by-cons messages l ls in
        let f = sum_by-cons fragments l ls in
        let u = sum_by-cons unordered_walk l (to_visit ls) in
        let i = sum_by-cons incomplete_walk l (to_visit ls) in
        omega (arith, ih, a, m, f, u, i)
    by false ih =
        let a = sum_by-cons ordered_walk l ls in
        let m = sum_by-cons messages l ls in
        let f = sum_by-cons fragments l ls in
        omega (arith, ih, a, m, f)

pub by-what-is-held : (f : ForwardTsn) (r : Reception) → skips_walk f r
    ≤ 2 * length f.streams + length (to_visit r.streams) + 14 * held_messages r.streams + 6 * held_fragments r.streams
by-what-is-held f r =
    let named = kept-cost ordered_walk (λ l. is_named f.streams (Some (number l))) r.streams in
    let rest = all-walks r.streams in
    omega (arith, named, rest)
