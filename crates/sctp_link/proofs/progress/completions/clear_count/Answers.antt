use Rattle.std.proofs.Common.{◌<◌, length, refl, arith}
use Rattle.sctp_link.specs.declared.progress.StreamProgress.{StreamProgress}
use Rattle.sctp_link.proofs.standings.Kept.{kept-set, place-inside}
use Rattle.sctp_link.proofs.standings.Rooms.{room-stays, count-cleared, absent-cleared}
use Rattle.sctp_link.proofs.progress.completions.clear_count.Goals as goal

pub returns-in_default-clause-counted : goal.returns-in_default-clause-counted
returns-in_default-clause-counted c =
    absent-cleared c.args.numbers.now c.args.streams.now.items c.requires.numbers c.index-chunks-at.result c.in_default.ensures c.args.chunks.now c.args.at
    c.index-chunks-at.is c.requires.inside

pub index_mut-requires : goal.index_mut-requires
index_mut-requires c =
    omega (
      arith,
      place-inside c.args.numbers.now c.args.streams.now.items c.requires.numbers c.index-chunks-at.result.stream_identifier c.in-Some.place c.in-Some.ensures,
    )

pub returns-clause-kept : goal.returns-clause-kept
returns-clause-kept c =
    let p = c.index_mut.result.now in
    kept-set c.args.streams.now.items c.in-Some.place p (record p { incoming = 0 }) c.index_mut.ensures.value refl

pub returns-clause-stays : goal.returns-clause-stays
returns-clause-stays c =
    let p = c.index_mut.result.now in
    let q : StreamProgress = record p { incoming = 0 } in
    let ps = c.args.streams.now.items in
    let lt : c.in-Some.place < length ps =
    place-inside c.args.numbers.now ps c.requires.numbers c.index-chunks-at.result.stream_identifier c.in-Some.place c.in-Some.ensures in
    room-stays c.args.numbers.now ps c.requires.numbers c.index-chunks-at.result c.in-Some.place c.in-Some.ensures lt p c.index_mut.ensures.value q refl refl
    (omega arith)

pub returns-clause-counted : goal.returns-clause-counted
returns-clause-counted c =
    let p = c.index_mut.result.now in
    let q : StreamProgress = record p { incoming = 0 } in
    let ps = c.args.streams.now.items in
    let lt : c.in-Some.place < length ps =
    place-inside c.args.numbers.now ps c.requires.numbers c.index-chunks-at.result.stream_identifier c.in-Some.place c.in-Some.ensures in
    count-cleared c.args.numbers.now ps c.requires.numbers c.index-chunks-at.result c.in-Some.place c.in-Some.ensures lt p c.index_mut.ensures.value
    c.args.chunks.now c.args.at c.index-chunks-at.is c.requires.inside q refl
