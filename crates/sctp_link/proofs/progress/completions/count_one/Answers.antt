use Rattle.std.proofs.Common.{◌<◌, ◌+◌, cond, length, take, ap, refl, arith}
use Rattle.std.proofs.lemmas.List.{length-take}
use Rattle.std.proofs.lemmas.List.Sums.{count_by-le-length, sum_by-take-le}
use Rattle.sctp_link.specs.Progress.{Standing, standing_of}
use Rattle.sctp_link.specs.Rooms.{is_of}
use Rattle.sctp_link.proofs.standings.Kept.{kept-set, place-inside}
use Rattle.sctp_link.proofs.standings.Rooms.{own-more, own-some, room-more, count-more, absent-room, absent-counted}
use Rattle.sctp_link.proofs.progress.completions.count_one.Goals as goal

pub returns-in_default-clause-counted : goal.returns-in_default-clause-counted
returns-in_default-clause-counted c =
    absent-counted c.args.numbers.now c.args.streams.now.items c.requires.numbers c.index-chunks-at.result c.in_default.ensures c.args.chunks.now c.args.at
    c.index-chunks-at.is c.requires.inside c.requires.counted

pub returns-in_default-clause-room : goal.returns-in_default-clause-room
returns-in_default-clause-room c =
    absent-room c.args.numbers.now c.args.streams.now.items c.requires.numbers c.index-chunks-at.result c.in_default.ensures c.args.chunks.now c.args.at
    c.index-chunks-at.is c.requires.inside

pub index_mut-progress-requires : goal.index_mut-progress-requires
index_mut-progress-requires c =
    omega (
      arith,
      place-inside c.args.numbers.now c.args.streams.now.items c.requires.numbers c.index-chunks-at.result.stream_identifier c.in-Some.place c.in-Some.ensures,
    )

pub overflow_add-incoming : goal.overflow_add-incoming
overflow_add-incoming c =
    let p = c.index_mut-progress.result.now in
    let ps = c.args.streams.now.items in
    let lt : c.in-Some.place < length ps =
    place-inside c.args.numbers.now ps c.requires.numbers c.index-chunks-at.result.stream_identifier c.in-Some.place c.in-Some.ensures in
    let so-far = c.requires.counted c.in-Some.place p lt c.index_mut-progress.ensures.value
    (own-some c.args.numbers.now ps c.requires.numbers c.index-chunks-at.result c.in-Some.place c.in-Some.ensures lt p
    c.index_mut-progress.ensures.value
    c.args.chunks.now c.args.at c.index-chunks-at.is c.requires.inside) in
    omega (
      arith,
      so-far,
      c.requires.short,
      count_by-le-length (is_of p.number) (take c.args.at c.args.chunks.now),
      length-take c.args.at c.args.chunks.now,
    )

pub returns-in_err-reserve-clause-kept : goal.returns-in_err-reserve-clause-kept
returns-in_err-reserve-clause-kept c =
    let p = c.index_mut-progress.result.now in
    kept-set c.args.streams.now.items c.in-Some.place p (record p { incoming = p.incoming + 1; complete = c.reserve.new.self })
    c.index_mut-progress.ensures.value
    (ap (λ ws. let x : Standing = record (standing_of p) { complete = ws } in x) c.reserve.ensures.items)

pub returns-in_err-reserve-clause-counted : goal.returns-in_err-reserve-clause-counted
returns-in_err-reserve-clause-counted c =
    let p = c.index_mut-progress.result.now in
    let ps = c.args.streams.now.items in
    let lt : c.in-Some.place < length ps =
    place-inside c.args.numbers.now ps c.requires.numbers c.index-chunks-at.result.stream_identifier c.in-Some.place c.in-Some.ensures in
    count-more c.args.numbers.now ps c.requires.numbers c.index-chunks-at.result c.in-Some.place c.in-Some.ensures lt p c.index_mut-progress.ensures.value
    c.args.chunks.now c.args.at c.index-chunks-at.is c.requires.inside _ refl refl c.requires.counted

pub returns-in_err-reserve-clause-spare : goal.returns-in_err-reserve-clause-spare
returns-in_err-reserve-clause-spare c = λ h.
    let p = c.index_mut-progress.result.now in
    let ps = c.args.streams.now.items in
    let lt : c.in-Some.place < length ps =
    place-inside c.args.numbers.now ps c.requires.numbers c.index-chunks-at.result.stream_identifier c.in-Some.place c.in-Some.ensures in
    let so-far = c.requires.counted c.in-Some.place p lt c.index_mut-progress.ensures.value
    (own-some c.args.numbers.now ps c.requires.numbers c.index-chunks-at.result c.in-Some.place c.in-Some.ensures lt p
    c.index_mut-progress.ensures.value
    c.args.chunks.now c.args.at c.index-chunks-at.is c.requires.inside) in
    let more = own-more c.args.numbers.now ps c.requires.numbers c.index-chunks-at.result c.in-Some.place c.in-Some.ensures lt p
    c.index_mut-progress.ensures.value
    c.args.chunks.now c.args.at c.index-chunks-at.is c.requires.inside in
    absurd (omega (
      arith,
      so-far,
      more,
      h c.in-Some.place p lt c.index_mut-progress.ensures.value,
      sum_by-take-le (λ x. cond (is_of p.number x) 1 0) c.args.chunks.now (c.args.at + 1),
      c.in_err-reserve.ensures.full,
    ))

pub returns-clause-kept : goal.returns-clause-kept
returns-clause-kept c =
    let p = c.index_mut-progress.result.now in
    kept-set c.args.streams.now.items c.in-Some.place p (record p { incoming = p.incoming + 1; complete = c.reserve.new.self })
    c.index_mut-progress.ensures.value
    (ap (λ ws. let x : Standing = record (standing_of p) { complete = ws } in x) c.reserve.ensures.items)

pub returns-clause-counted : goal.returns-clause-counted
returns-clause-counted c =
    let p = c.index_mut-progress.result.now in
    let ps = c.args.streams.now.items in
    let lt : c.in-Some.place < length ps =
    place-inside c.args.numbers.now ps c.requires.numbers c.index-chunks-at.result.stream_identifier c.in-Some.place c.in-Some.ensures in
    count-more c.args.numbers.now ps c.requires.numbers c.index-chunks-at.result c.in-Some.place c.in-Some.ensures lt p c.index_mut-progress.ensures.value
    c.args.chunks.now c.args.at c.index-chunks-at.is c.requires.inside _ refl refl c.requires.counted

pub returns-clause-room : goal.returns-clause-room
returns-clause-room c =
    let p = c.index_mut-progress.result.now in
    let ps = c.args.streams.now.items in
    let lt : c.in-Some.place < length ps =
    place-inside c.args.numbers.now ps c.requires.numbers c.index-chunks-at.result.stream_identifier c.in-Some.place c.in-Some.ensures in
    let so-far = c.requires.counted c.in-Some.place p lt c.index_mut-progress.ensures.value
    (own-some c.args.numbers.now ps c.requires.numbers c.index-chunks-at.result c.in-Some.place c.in-Some.ensures lt p
    c.index_mut-progress.ensures.value
    c.args.chunks.now c.args.at c.index-chunks-at.is c.requires.inside) in
    let more = own-more c.args.numbers.now ps c.requires.numbers c.index-chunks-at.result c.in-Some.place c.in-Some.ensures lt p
    c.index_mut-progress.ensures.value
    c.args.chunks.now c.args.at c.index-chunks-at.is c.requires.inside in
    room-more c.args.numbers.now ps c.requires.numbers c.index-chunks-at.result c.in-Some.place c.in-Some.ensures lt p c.index_mut-progress.ensures.value
    c.args.chunks.now c.args.at c.index-chunks-at.is c.requires.inside _ refl (omega (arith, so-far, more, c.in_ok-reserve.ensures.ok))
