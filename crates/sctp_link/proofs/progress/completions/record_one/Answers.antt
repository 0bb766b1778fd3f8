use Rattle.std.proofs.Common.{ap, map, refl, sym, ◌∙◌, arith}
use Rattle.sctp_link.specs.declared.progress.StreamProgress.{StreamProgress}
use Rattle.sctp_link.specs.Progress.{Standing, standing_of, with_complete}
use Rattle.sctp_link.proofs.standings.Kept.{absent-on, place-inside, put-on}
use Rattle.sctp_link.proofs.standings.Completions.{one-absent, one-complete, one-more}
use Rattle.sctp_link.proofs.standings.Rooms.{room-less, room-one, room-taken}
use Rattle.sctp_link.proofs.progress.completions.record_one.Goals as goal

pub returns-in_default-clause-rest : goal.returns-in_default-clause-rest
returns-in_default-clause-rest c = λ cs. room-less c.args.chunk.now cs c.args.streams.now.items

pub returns-in_default-clause-complete : goal.returns-in_default-clause-complete
returns-in_default-clause-complete c =
    let ps = c.args.streams.now.items in
    one-absent c.args.chunk.now c.args.message c.args.arrival (map standing_of ps)
    (absent-on c.args.numbers.now ps c.requires.numbers c.args.chunk.now.stream_identifier (with_complete c.args.message) c.in_default.ensures)

pub index_mut-requires : goal.index_mut-requires
index_mut-requires c =
    omega (
      arith,
      place-inside c.args.numbers.now c.args.streams.now.items c.requires.numbers c.args.chunk.now.stream_identifier c.in-Some.place c.in-Some.ensures,
    )

pub push_back_reserved-requires : goal.push_back_reserved-requires
push_back_reserved-requires c =
    let ps = c.args.streams.now.items in
    let lt = place-inside c.args.numbers.now ps c.requires.numbers c.args.chunk.now.stream_identifier c.in-Some.place c.in-Some.ensures in
    room-one c.args.numbers.now ps c.requires.numbers c.args.chunk.now c.in-Some.place c.in-Some.ensures lt c.index_mut.result.now c.index_mut.ensures.value
    c.requires.room

pub returns-then-completes-clause-rest : goal.returns-then-completes-clause-rest
returns-then-completes-clause-rest c =
    let ps = c.args.streams.now.items in
    let p = c.index_mut.result.now in
    let q : StreamProgress = record p { complete = c.push_back_reserved.new.self } in
    let lt = place-inside c.args.numbers.now ps c.requires.numbers c.args.chunk.now.stream_identifier c.in-Some.place c.in-Some.ensures in
    room-taken c.args.numbers.now ps c.requires.numbers c.args.chunk.now c.in-Some.place c.in-Some.ensures lt p c.index_mut.ensures.value q refl
    c.push_back_reserved.ensures.len c.push_back_reserved.ensures.capacity

pub returns-then-completes-clause-complete : goal.returns-then-completes-clause-complete
returns-then-completes-clause-complete c =
    let p = c.index_mut.result.now in
    let q : StreamProgress = record p { complete = c.push_back_reserved.new.self } in
    let ps = c.args.streams.now.items in
    put-on c.args.numbers.now ps c.requires.numbers c.args.chunk.now.stream_identifier c.in-Some.place c.in-Some.ensures p q c.index_mut.ensures.value
    (with_complete c.args.message)
    (ap (λ ws. let x : Standing = record (standing_of p) { complete = ws } in x) c.push_back_reserved.ensures.items)
    ∙ sym (one-complete c.args.chunk.now c.args.message c.args.arrival (map standing_of ps) (sym c.completes.ensures ∙ c.if-completes.true))

pub returns-else-completes-clause-rest : goal.returns-else-completes-clause-rest
returns-else-completes-clause-rest c = λ cs. room-less c.args.chunk.now cs c.args.streams.now.items

pub returns-else-completes-clause-complete : goal.returns-else-completes-clause-complete
returns-else-completes-clause-complete c =
    sym (one-more c.args.chunk.now c.args.message c.args.arrival (map standing_of c.args.streams.now.items) (sym c.completes.ensures ∙ c.if-completes.false))
