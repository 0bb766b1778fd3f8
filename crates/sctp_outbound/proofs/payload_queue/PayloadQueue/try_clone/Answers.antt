use Rattle.std.proofs.Common.{rules, ◌≡◌, ℕ, ◌+◌, ◌<◌, length, take, ap, ◌∙◌, arith}
use Rattle.std.specs.Prelude.{max}
use Rattle.std.proofs.lemmas.List.{take_all}
use Rattle.std.proofs.lemmas.List.Elements.{same_from_all_zip}
use Rattle.std.proofs.lemmas.List.Sums.{sum_by-take-le, sum_by_more}
use Rattle.sctp_data.specs.declared.chunk.chunk_payload_data.ChunkPayloadData.{ChunkPayloadData}
use Rattle.sctp_serial.specs.DataChunks.{bytes_of}
use Rattle.sctp_outbound.specs.Stored.{Stored}
use Rattle.sctp_outbound.specs.payload_queue.PayloadQueue.{Payload}
use Rattle.sctp_outbound.proofs.lemmas.payload_queue.Payloads.{made_of}
use Rattle.sctp_outbound.proofs.payload_queue.PayloadQueue.try_clone.Goals as goal

abbrev bytes_in : ChunkPayloadData → ℕ
bytes_in c = length c.user_data

pub insert-requires-clause-bytes : goal.insert-requires-clause-bytes
insert-requires-clause-bytes c =
    let xs = c.self.inside.held.chunks in
    let x = c.look.result.now in
    let lt : c.loop-place.place < length xs = omega (arith, c.loop-place-test.true, c.len-place-end.ensures) in
    let more = sum_by_more bytes_in xs c.loop-place.place x lt in
    let part = sum_by-take-le bytes_in xs (c.loop-place.place + 1) in
    let had = ap bytes_of c.loop-place.invariant.copied in
    let one = ap bytes_in c.look.ensures.value in
    let same = ap bytes_in c.in_ok-try_clone.ensures.ok in
    let all = ap (λ (q : Payload). bytes_of q.chunks) c.self.view_is in
    omega (arith, more, part, had, one, same, all, c.get_num_bytes-n_bytes.ensures, c.get_num_bytes-n_bytes.type_inv)

pub returns-clause-ok : goal.returns-clause-ok
returns-clause-ok c =
    let xs = c.self.inside.held.chunks in
    let all : take c.loop-place.place xs ≡ xs = take_all c.loop-place.place xs (omega (arith, c.loop-place-test.false, c.len-place-end.ensures)) in
    let made = c.held-2.view_is ∙ c.in_ok-reserve-2.ensures.ok in
    let room : max c.room.result c.loop-place.held.room ≡ c.self.inside.held.room =
    omega (arith, c.loop-place.invariant.room, c.room.ensures, c.loop-place-test.false, c.len-place-end.ensures) in
    let same : c.in_ok-clone.field-0.items ≡ c.self.inside.dup_tsn.items = same_from_all_zip _ _ _ c.in_ok-clone.ensures.cases.0 (λ x y e. cc) in
    made_of c.args.self.now _ c.in_ok-clone.field-0.items
    (ap (λ (s : Stored). s.chunks) made ∙ c.loop-place.invariant.copied ∙ all ∙ ap (λ (q : Payload). q.chunks) c.self.view_is)
    (ap (λ (s : Stored). s.room) made ∙ room ∙ ap (λ (q : Payload). q.room) c.self.view_is)
    (same ∙ ap (λ (q : Payload). q.duplicates) c.self.view_is)
