use Rattle.std.proofs.Common.{◌≡◌, ◌<◌, List, [], ◌∷◌, length, None, sym, subst, arith}
use Rattle.std.specs.List.{slice_get}
use Rattle.std.specs.Option.{option_map}
use Rattle.sctp_data.specs.declared.chunk.chunk_payload_data.ChunkPayloadData.{ChunkPayloadData}
use Rattle.sctp_outbound.specs.payload_queue.PayloadQueue.{IsLatestPlace}
use Rattle.sctp_outbound.proofs.lemmas.payload_queue.Gaps.{front_is}
use Rattle.sctp_outbound.proofs.lemmas.payload_queue.Search.{latest_found}
use Rattle.sctp_outbound.proofs.payload_queue.latest_place.Goals as goal

-- there is a first chunk
none_absent : (xs : List ChunkPayloadData) → None ≡ option_map (λ c. c.tsn) (slice_get xs 0) → 0 < length xs → ⊥
none_absent [] e short = omega arith
none_absent (x ∷ xs) e short = cc

pub returns-in-Some-clause-latest : goal.returns-in-Some-clause-latest
returns-in-Some-clause-latest c =
    let xs = c.args.held.now.chunks in
    subst (IsLatestPlace xs c.args.tsn) (sym c.distance.ensures.value)
    (latest_found xs c.requires c.args.tsn c.in-Some.front c.ranges.tsn.fits (front_is xs c.in-Some.front c.in-Some.ensures))

pub returns-in-None-clause-latest : goal.returns-in-None-clause-latest
returns-in-None-clause-latest c short = absurd (none_absent c.args.held.now.chunks c.in-None.ensures short)
