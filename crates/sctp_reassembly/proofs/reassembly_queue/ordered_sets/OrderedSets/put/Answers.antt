use Rattle.std.proofs.Common.{◌≡◌, ◌+◌, ◌*◌, ◌≤◌, ◌<◌, ℕ, Bool, List, Option, length, map, get_or, set, refl, sym, ap, subst, ◌∙◌, arith}
use Rattle.std.specs.List.{position_or_len}
use Rattle.std.proofs.lemmas.List.{length-set}
use Rattle.sctp_data.specs.ChunkSet.{ChunkSet}
use Rattle.sctp_data.specs.declared.chunk.chunk_payload_data.ChunkPayloadData.{ChunkPayloadData}
use Rattle.sctp_reassembly.specs.reassembly_queue.Fragments.{has_ssn, chunks_of_ssn, with_chunk, without_chunk, sets_with, answer_with, new_set}
use Rattle.sctp_serial.proofs.lemmas.ListEdits.{any_at, first_changed}
use Rattle.sctp_reassembly.proofs.lemmas.reassembly_queue.ChunkSets.{chunks_at}
use Rattle.sctp_serial.specs.Ascending.{IsOrder, upper_half}
use Rattle.sctp_reassembly.specs.reassembly_queue.Orders.{digits, IsInOrder, IsOrderly, IsOffOnlyOutOfOrder}
use Rattle.sctp_reassembly.specs.reassembly_queue.Undo.{AreNoted, IsNotedOf}
use Rattle.std.proofs.Math.Seq.{map-set_same}
use Rattle.sctp_reassembly.proofs.lemmas.reassembly_queue.Undone.{stood-there}
use Rattle.sctp_reassembly.proofs.reassembly_queue.ordered_sets.OrderedSets.put.Goals as goal

-- the place is that of the first set of the chunk's number
abbrev IsThere : ChunkPayloadData → List ChunkSet → ℕ → Type 0
IsThere x xs i = (i ≡ position_or_len (has_ssn x.stream_sequence_number) xs) × (i < length xs)

module _ (x : ChunkPayloadData) (xs : List ChunkSet) (i : ℕ) (at : IsThere x xs i) where
  held_there : chunks_of_ssn x.stream_sequence_number xs ≡ (get_or xs i (new_set x)).chunks
  held_there =
      let ssn = x.stream_sequence_number in
      let d = new_set x in
      let within : position_or_len (has_ssn ssn) xs < length xs = omega (arith, at.0, at.1) in
      chunks_at ssn xs d within ∙ ap (λ k. (get_or xs k d).chunks) (sym at.0)

  -- the chunk in the first set of its number
  put_there : (ys : List ChunkSet) → ((d : ChunkSet) → ys ≡ set xs i (with_chunk x (get_or xs i d))) → ys ≡ sets_with x xs
  put_there ys put =
      let ssn = x.stream_sequence_number in
      let d = new_set x in
      let within : position_or_len (has_ssn ssn) xs < length xs = omega (arith, at.0, at.1) in
      rw (any_at (has_ssn ssn) xs within)
      (put d ∙ ap (λ k. set xs k (with_chunk x (get_or xs k d))) at.0 ∙ sym (first_changed (has_ssn ssn) (with_chunk x) xs d))

  -- and what it answers
  answer_there : (answer : Option Bool)
      → ((d : ChunkSet) → answer ≡ answer_with x (get_or xs i d).chunks) → answer ≡ answer_with x (chunks_of_ssn x.stream_sequence_number xs)
  answer_there answer put =
      let ssn = x.stream_sequence_number in
      let d = new_set x in
      let within : position_or_len (has_ssn ssn) xs < length xs = omega (arith, at.0, at.1) in
      put d ∙ ap (λ k. answer_with x (get_or xs k d).chunks) at.0 ∙ ap (answer_with x) (sym (chunks_at ssn xs d within))

  -- in any sets
  walk_there : (t v : ℕ) → v ≤ t + 3 * length (get_or xs i (new_set x)).chunks + 7
      → v ≤ t + 3 * length (chunks_of_ssn x.stream_sequence_number xs) + 7
  walk_there t v put = let e = ap length held_there in omega arith

  -- in orderly ones
  few_there : (t v : ℕ) (ys : List ChunkSet) → length ys ≡ length xs
      → ((d : ChunkSet) → IsInOrder (get_or xs i d) → IsInOrder (get_or ys i d) → v ≤ t + digits (length (get_or xs i d).chunks) + 6)
      → IsOrderly xs → IsOrderly ys → v ≤ t + digits (length (chunks_of_ssn x.stream_sequence_number xs)) + 6
  few_there t v ys long put a b =
      let d = new_set x in
      let h = put d (a.fragments i d at.1) (b.fragments i d (omega (arith, long, at.1))) in
      let e = ap (λ cs. digits (length cs)) held_there in
      omega arith

pub returns-in_default-clause-ok : goal.returns-in_default-clause-ok
returns-in_default-clause-ok c =
    let at = rw (c.in-Ok.is, ← c.self.view_is) at c.requires.there in
    rw (← c.self.view_is) (put_there c.args.chunk c.self.inside.sets.items c.in-Ok.set at _ c.in_ok-put-in-Ok.ensures.ok)

pub returns-in_default-clause-answer : goal.returns-in_default-clause-answer
returns-in_default-clause-answer c =
    let at = rw (c.in-Ok.is, ← c.self.view_is) at c.requires.there in
    rw (← c.self.view_is) (answer_there c.args.chunk c.self.inside.sets.items c.in-Ok.set at _ (rw c.in_default.is at c.in_ok-put-in-Ok.ensures.answer))

pub invariant_of-self-in-Ok : goal.invariant_of-self-in-Ok
invariant_of-self-in-Ok c =
    let num = (λ (s : ChunkSet). upper_half s.ssn) in
    let xs = c.self.inside.sets.items in
    let d = new_set c.args.chunk in
    let same = map-set_same num xs c.in-Ok.set (with_chunk c.args.chunk (get_or xs c.in-Ok.set d)) d refl in
    let flag = c.self.inside.ascending in
    let put = sym (c.in_ok-put-in-Ok.ensures.ok d) in
    record {
      order = subst (λ ys. IsOrder flag (map num ys)) put (subst (IsOrder flag) (sym same) c.self.invariant.order);
      exact = subst (λ ys. IsOffOnlyOutOfOrder flag (map num ys)) put (subst (IsOffOnlyOutOfOrder flag) (sym same) c.self.invariant.exact);
    }

pub returns-in-Some-clause-ok : goal.returns-in-Some-clause-ok
returns-in-Some-clause-ok c =
    let at = rw (c.in-Ok.is, ← c.self.view_is) at c.requires.there in
    rw (← c.self.view_is) (put_there c.args.chunk c.self.inside.sets.items c.in-Ok.set at _ c.in_ok-put-in-Ok.ensures.ok)

pub returns-in-Some-clause-answer : goal.returns-in-Some-clause-answer
returns-in-Some-clause-answer c =
    let at = rw (c.in-Ok.is, ← c.self.view_is) at c.requires.there in
    rw (← c.self.view_is) (answer_there c.args.chunk c.self.inside.sets.items c.in-Ok.set at _ (rw c.in-Some.is at c.in_ok-put-in-Ok.ensures.answer))

pub returns-in-Some-clause-undo : goal.returns-in-Some-clause-undo
returns-in-Some-clause-undo c =
    let xs = c.self.inside.sets.items in
    let i = c.in-Ok.set in
    let d = new_set c.args.chunk in
    let at = rw (c.in-Ok.is, ← c.self.view_is) at c.requires.there in
    let undo = rw c.in-Some.is at c.in_ok-put-in-Ok.ensures.undo in
    let ys = c.put_into.new.self.items in
    let long = ap length (c.in_ok-put-in-Ok.ensures.ok d) in
    let lt : i < length ys = omega (arith, at.1, long, length-set xs i (with_chunk c.args.chunk (get_or xs i d))) in
    let f = without_chunk c.in-Some.put.place in
    let back = undo.1 ∙ c.self.view_is in (
      record {
        place = (
          lt,
          λ e. record {
            in_range = undo.0 e;
            noted =
                subst (λ (s : ChunkSet). IsNotedOf c.noted_at-set_noted.result s.chunks) (stood-there f i xs ys e lt undo.1) (c.noted_at-set_noted.ensures e);
          },
        );
        noted = subst (AreNoted c.noted-noted.result) (sym back) c.noted-noted.ensures;
      },
      back,
    )

pub returns-in_err-put-in-Ok-clause-cost : goal.returns-in_err-put-in-Ok-clause-cost
returns-in_err-put-in-Ok-clause-cost c =
    let at = rw (c.in-Ok.is, ← c.self.view_is) at c.requires.there in
    rw (← c.self.view_is) (walk_there c.args.chunk c.self.inside.sets.items c.in-Ok.set at c.args.turns.now c.put_into.new.turns
    (c.put_into.ensures.cost (new_set c.args.chunk)))

pub returns-in_err-put-in-Ok-clause-few : goal.returns-in_err-put-in-Ok-clause-few
returns-in_err-put-in-Ok-clause-few c =
    let xs = c.self.inside.sets.items in
    let i = c.in-Ok.set in
    let d = new_set c.args.chunk in
    let at = rw (c.in-Ok.is, ← c.self.view_is) at c.requires.there in
    let long : length c.put_into.new.self.items ≡ length xs = ap length c.in_err-put-in-Ok.ensures.err in
    rw (← c.self.view_is) (λ a b.
    few_there c.args.chunk xs i at c.args.turns.now c.put_into.new.turns c.put_into.new.self.items long
    c.put_into.ensures.few a b)

pub returns-in_default-clause-cost : goal.returns-in_default-clause-cost
returns-in_default-clause-cost c =
    let at = rw (c.in-Ok.is, ← c.self.view_is) at c.requires.there in
    rw (← c.self.view_is) (walk_there c.args.chunk c.self.inside.sets.items c.in-Ok.set at c.args.turns.now c.put_into.new.turns
    (c.put_into.ensures.cost (new_set c.args.chunk)))

pub returns-in_default-clause-few : goal.returns-in_default-clause-few
returns-in_default-clause-few c =
    let xs = c.self.inside.sets.items in
    let i = c.in-Ok.set in
    let d = new_set c.args.chunk in
    let at = rw (c.in-Ok.is, ← c.self.view_is) at c.requires.there in
    let long : length c.put_into.new.self.items ≡ length xs = ap length (c.in_ok-put-in-Ok.ensures.ok d)
    ∙ length-set xs i (with_chunk c.args.chunk (get_or xs i d)) in
    rw (← c.self.view_is) (λ a b.
    few_there c.args.chunk xs i at c.args.turns.now c.put_into.new.turns c.put_into.new.self.items long
    c.put_into.ensures.few a b)

pub returns-in-Some-clause-cost : goal.returns-in-Some-clause-cost
returns-in-Some-clause-cost c =
    let at = rw (c.in-Ok.is, ← c.self.view_is) at c.requires.there in
    rw (← c.self.view_is) (walk_there c.args.chunk c.self.inside.sets.items c.in-Ok.set at c.args.turns.now c.put_into.new.turns
    (c.put_into.ensures.cost (new_set c.args.chunk)))

pub returns-in-Some-clause-few : goal.returns-in-Some-clause-few
returns-in-Some-clause-few c =
    let xs = c.self.inside.sets.items in
    let i = c.in-Ok.set in
    let d = new_set c.args.chunk in
    let at = rw (c.in-Ok.is, ← c.self.view_is) at c.requires.there in
    let long : length c.put_into.new.self.items ≡ length xs = ap length (c.in_ok-put-in-Ok.ensures.ok d)
    ∙ length-set xs i (with_chunk c.args.chunk (get_or xs i d)) in
    rw (← c.self.view_is) (λ a b.
    few_there c.args.chunk xs i at c.args.turns.now c.put_into.new.turns c.put_into.new.self.items long
    c.put_into.ensures.few a b)
