use Rattle.std.proofs.Common.{◌≡◌, ℕ, suc, ◌+◌, ◌++◌, List, [], ◌∷◌, length, take, drop, remove, length-append, length-drop, length-take-le, sym, ap, subst, ◌∙◌, arith}
use Rattle.std.proofs.lemmas.List.{drop_more}
use Rattle.sctp_data.specs.declared.chunk.chunk_payload_data.ChunkPayloadData.{ChunkPayloadData}
use Rattle.sctp_serial.specs.Window.{IsSerial}
use Rattle.sctp_serial.specs.DataChunks.{bytes_of}
use Rattle.sctp_reassembly.specs.reassembly_queue.Loose.{Unassembled}
use Rattle.sctp_reassembly.proofs.lemmas.reassembly_queue.UnassembledBytes.{some_out}
use Rattle.sctp_reassembly.proofs.lemmas.reassembly_queue.SerialPlaces.{flag_is_on, serial_on, serial_cut}
use Rattle.sctp_reassembly.proofs.lemmas.reassembly_queue.Unassembled.{same_list, same_long}
use Rattle.sctp_reassembly.proofs.reassembly_queue.unassembled.Loose.take_one.Goals as goal

-- what is left without one of them
cut : (xs : List ChunkPayloadData) (i : ℕ) → remove xs i ≡ take i xs ++ drop (i + 1) xs
cut xs i = let e : suc i ≡ i + 1 = omega arith in ap (λ k. take i xs ++ drop k xs) e

pub is_still_serial-self-inside-requires : goal.is_still_serial-self-inside-requires
is_still_serial-self-inside-requires c on =
    let xs = c.self.inside.chunks.items in
    let all = same_long c.self.view_is in
    subst IsSerial (sym (c.take_out-fragment.ensures.rest ∙ cut xs c.args.place))
    (serial_cut xs c.args.place 1 (omega (arith, all, c.requires)) (flag_is_on _ xs on c.self.invariant.order))

pub invariant_of-self : goal.invariant_of-self
invariant_of-self c =
    let xs = c.self.inside.chunks.items in
    let rest = c.take_out-fragment.ensures.rest ∙ cut xs c.args.place in
    record {
      counted = c.bytes_without-self-inside.ensures.value (bytes_of (take 1 (drop c.args.place xs)))
          (omega (arith, c.self.invariant.counted, some_out xs c.args.place 1, ap bytes_of rest))
          c.bytes_from-gone.ensures.value;
      order = c.is_still_serial-self-inside.ensures.flag;
      room = omega (arith, c.self.invariant.room, c.take_out-fragment.ensures.capacity);
      apart = tt;
    }

pub returns-clause-taken : goal.returns-clause-taken
returns-clause-taken c =
    let xs = c.self.inside.chunks.items in
    let i = c.args.place in
    let all = same_long c.self.view_is in
    ap (λ y. y ∷ []) c.take_out-fragment.ensures.value
    ∙ ap (λ ys. take 1 ys) (sym (drop_more xs i c.take_out-fragment.result (omega (arith, all, c.requires))))
    ∙ ap (λ ys. take 1 (drop i ys)) (same_list c.self.view_is)

pub returns-clause-rest : goal.returns-clause-rest
returns-clause-rest c =
    let xs = c.self.inside.chunks.items in
    rw (← c.self.view_is) (ap (λ ys. let p : Unassembled = record { chunks = ys; places = c.self.inside.places } in p)
    (c.take_out-fragment.ensures.rest ∙ cut xs c.args.place))

pub returns-clause-few : goal.returns-clause-few
returns-clause-few c serial small =
    let xs = c.self.inside.chunks.items in
    let same = same_list c.self.view_is in
    let on = serial_on c.self.inside.serial xs c.self.invariant.order (subst IsSerial (sym same) serial) in
    let counted = c.bytes_without-self-inside.ensures.none (omega (arith, c.self.invariant.counted, ap bytes_of same, small)) in
    omega (arith, c.bytes_from-gone.ensures.turns, counted, c.is_still_serial-self-inside.ensures.none on)

pub returns-clause-walk : goal.returns-clause-walk
returns-clause-walk c =
    let xs = c.self.inside.chunks.items in
    let i = c.args.place in
    let all = same_long c.self.view_is in
    let front = length-take-le i xs (omega (arith, all, c.requires)) in
    let left = length-append (take i xs) (drop (i + 1) xs) in
    omega (
      arith,
      all,
      front,
      left,
      length-drop (i + 1) xs,
      ap length (c.take_out-fragment.ensures.rest ∙ cut xs i),
      c.bytes_from-gone.ensures.turns,
      c.bytes_without-self-inside.ensures.walk,
      c.is_still_serial-self-inside.ensures.walk,
    )
