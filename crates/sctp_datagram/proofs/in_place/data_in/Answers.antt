use Rattle.std.proofs.Common.{◌≡◌, ◌-◌, ℕ, take, drop, length, ap, ◌∙◌, arith}
use Rattle.std.proofs.lemmas.List.{take_rest}
use Rattle.sctp_chunks.specs.Framing.{flags_at, value_at}
use Rattle.sctp_data.specs.PayloadData.{data_of, data_in}
use Rattle.sctp_datagram.proofs.InPlace.{behind_numbers, data_place, data_reads}
use Rattle.sctp_datagram.proofs.in_place.data_in.Goals as goal

pub slice-requires-clause-start_le_end : goal.slice-requires-clause-start_le_end
slice-requires-clause-start_le_end c =
    let place = data_place c.args.raw.now c.args.place c.requires.place c.requires.typ in
    omega (arith, place.long)

pub data_made-requires-clause-long : goal.data_made-requires-clause-long
data_made-requires-clause-long c =
    let place = data_place c.args.raw.now c.args.place c.requires.place c.requires.typ in
    rw (take_rest c.as_slice.result.now c.args.place.at, c.as_slice.ensures, place.value) place.numbers

pub data_made-requires-clause-end : goal.data_made-requires-clause-end
data_made-requires-clause-end c =
    let place = data_place c.args.raw.now c.args.place c.requires.place c.requires.typ in
    rw (take_rest c.as_slice.result.now c.args.place.at, c.as_slice.ensures)
    (c.in_ok-user_data.ensures.ok ∙ behind_numbers c.args.raw.now c.args.place.at c.args.place.length place.long)

pub returns-clause-found : goal.returns-clause-found
returns-clause-found c =
    let place = data_place c.args.raw.now c.args.place c.requires.place c.requires.typ in
    let all = c.as_slice.result.now in
    let bytes = drop c.args.place.at c.args.raw.now in
    let value = take (c.args.place.length - 4) (drop 4 (take (length all - c.args.place.at) (drop c.args.place.at all))) in
    let same : value ≡ value_at bytes = rw (take_rest all c.args.place.at, c.as_slice.ensures) place.value in
    let fields : data_of c.data_made.result ≡ data_in (flags_at bytes) value =
    c.data_made.ensures.fields ∙ ap (λ (f : ℕ). data_in f value) place.flags in
    data_reads bytes value (data_of c.data_made.result) place.chunk same (rw same place.numbers) fields
