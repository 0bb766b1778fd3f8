use Rattle.std.proofs.Common.{◌≡◌, not, is_some, sym, ap, ◌∙◌, ◌-◌, get_or, length, subst, arith}
use Rattle.sctp_data.specs.declared.chunk.chunk_payload_data.ChunkPayloadData.{ChunkPayloadData}
use Rattle.sctp_serial.specs.Window.{IsPlaceFor}
use Rattle.sctp_outbound.proofs.lemmas.payload_queue.Search.{Narrowed, none_has, place_found, narrowed_none, behind_last}
use Rattle.sctp_serial.proofs.lemmas.Serials.{not_found}
use Rattle.sctp_outbound.proofs.payload_queue.free_place.Goals as goal

pub returns-then-len-eq0-clause-free : goal.returns-then-len-eq0-clause-free
returns-then-len-eq0-clause-free c =
    let xs = c.args.held.now.chunks in
    let n = subst (λ k. Narrowed xs c.args.tsn 0 k) {x = length xs} {y = 0} (omega arith) (narrowed_none xs c.args.tsn) in
    ap not (sym (ap is_some (not_found xs c.args.tsn (none_has xs c.args.tsn 0 n))))

pub returns-then-len-eq0-clause-place : goal.returns-then-len-eq0-clause-place
returns-then-len-eq0-clause-place c =
    let xs = c.args.held.now.chunks in
    let n = subst (λ k. Narrowed xs c.args.tsn 0 k) {x = length xs} {y = 0} (omega arith) (narrowed_none xs c.args.tsn) in
    place_found xs c.args.tsn 0 n

pub returns-then-sna32lt-clause-free : goal.returns-then-sna32lt-clause-free
returns-then-sna32lt-clause-free c =
    let xs = c.args.held.now.chunks in
    let n = behind_last xs c.requires c.args.tsn c.tsn_at-last.result c.ranges.tsn.fits (omega arith)
    (subst (λ k. (d : ChunkPayloadData) → (get_or xs (k - 1) d).tsn ≡ c.tsn_at-last.result) c.len-len.ensures c.tsn_at-last.ensures.value)
    (sym c.sna32lt.ensures ∙ c.if-sna32lt.true) in
    ap not (sym (ap is_some (not_found xs c.args.tsn (none_has xs c.args.tsn (length xs) n))))

pub returns-then-sna32lt-clause-place : goal.returns-then-sna32lt-clause-place
returns-then-sna32lt-clause-place c =
    let xs = c.args.held.now.chunks in
    let n = behind_last xs c.requires c.args.tsn c.tsn_at-last.result c.ranges.tsn.fits (omega arith)
    (subst (λ k. (d : ChunkPayloadData) → (get_or xs (k - 1) d).tsn ≡ c.tsn_at-last.result) c.len-len.ensures c.tsn_at-last.ensures.value)
    (sym c.sna32lt.ensures ∙ c.if-sna32lt.true) in
    subst (IsPlaceFor xs c.args.tsn) (sym c.len-len.ensures) (place_found xs c.args.tsn (length xs) n)
