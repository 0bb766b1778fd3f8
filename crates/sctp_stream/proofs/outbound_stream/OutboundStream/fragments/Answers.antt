use Rattle.std.proofs.Common.{◌≡◌, ◌+◌, ◌-◌, ◌*◌, ◌<◌, ◌≤◌, ◌==◌, ◌++◌, ◌∷◌, [], List, suc, min, map, length, length-append, take, drop, refl, sym, ap, ap₂}
use Rattle.std.proofs.Common.{◌∙◌, arith}
use Rattle.std.proofs.Math.Nat.{suc-mul}
use Rattle.std.proofs.lemmas.List.{map-append, append-nil, take_all}
use Rattle.std.proofs.Math.Seq.{take-add}
use Rattle.sctp_util.specs.Kept.{numbers_from, always}
use Rattle.sctp_util.proofs.Passing.{kept-snoc_in}
use Rattle.sctp_data.specs.declared.chunk.chunk_payload_data.ChunkPayloadData.{ChunkPayloadData}
use Rattle.sctp_reassembly.specs.reassembly_queue.Fragments.{payload_of}
use Rattle.sctp_reassembly.proofs.lemmas.reassembly_queue.PiecesTaken.{payload-append}
use Rattle.sctp_stream.specs.Stream.{fragment, fragment_at, pieces_of}
use Rattle.sctp_stream.proofs.Pieces.{piece_below, piece_none, begins, ends, slice_is}
use Rattle.sctp_stream.proofs.outbound_stream.OutboundStream.fragments.Goals as goal

pub loop-at-preserved : goal.loop-at-preserved
loop-at-preserved c =
    let s = c.args.self.now in
    let xs = c.args.raw.now in
    let size = s.max_payload_size in
    let old = c.loop-at.chunks.items in
    let k = length old in
    let at = c.loop-at.at in
    let end = at + c.min.result in
    let f = fragment_at s c.args.ppi xs in
    let pos : 0 < size = omega (arith, c.get-size.ensures.value, c.get-size.ensures.bounds) in
    let lt : at < length xs = omega (arith, c.len-len.ensures.value) in
    let place : at ≡ k * size = omega (arith, c.loop-at.invariant.place) in
    let step : c.min.result ≡ min size (length xs - at) = omega (arith, c.min.ensures, c.get-size.ensures.value, c.len-len.ensures.value) in
    let below = piece_below (length xs) size xs k (omega arith) pos (omega arith) in
    let one = ap length c.in_ok-push.ensures.items ∙ length-append old (c.fragment.result ∷ []) in
    let count : length c.push.new.self.items ≡ suc k = omega arith in
    let next = suc-mul k size in
    let more : numbers_from 0 (suc k) ≡ numbers_from 0 k ++ k ∷ [] = kept-snoc_in always 0 k k (omega arith) refl in
    let ppi = c.args.ppi in
    let bytes = c.in_ok-bytes.bytes in
    let first = begins size xs k at pos place lt in
    let last : (end == c.len-len.result) ≡ (k + 1 == length (pieces_of s xs)) = ap (λ n. end == n) c.len-len.ensures.value
    ∙ ends size xs k at pos place lt end (ap (λ n. at + n) step) in
    let piece = c.in_ok-bytes.ensures.ok ∙ slice_is size xs k at pos place lt (end - at) (omega arith) in
    let made : c.fragment.result ≡ f k =
    c.fragment.ensures
    ∙ ap (λ b. fragment s ppi b (end == c.len-len.result) bytes) first
    ∙ ap (λ b. fragment s ppi (k == 0) b bytes) last
    ∙ ap (λ bs. fragment s ppi (k == 0) (k + 1 == length (pieces_of s xs)) bs) piece in
    record {
      place = omega (arith, ap (λ n. n * size) count);
      joined = ap payload_of c.in_ok-push.ensures.items
          ∙ payload-append old (c.fragment.result ∷ [])
          ∙ ap₂ (λ a b. a ++ b) c.loop-at.invariant.joined (ap (λ (x : ChunkPayloadData). x.user_data ++ []) c.fragment.ensures ∙ append-nil bytes
          ∙ c.in_ok-bytes.ensures.ok ∙ ap (λ n. take n (drop at xs)) {x = end - at} {y = c.min.result} (omega arith)) ∙ sym (take-add at c.min.result xs);
      within = omega arith;
      made = c.in_ok-push.ensures.items
          ∙ ap₂ (λ (fs : List ChunkPayloadData) (x : ChunkPayloadData). fs ++ x ∷ []) c.loop-at.invariant.made made
          ∙ sym (map-append f (numbers_from 0 k) (k ∷ []))
          ∙ ap (map f) (sym more)
          ∙ ap (λ n. map f (numbers_from 0 n)) (sym count);
    }

pub returns-clause-ok : goal.returns-clause-ok
returns-clause-ok c =
    let s = c.args.self.now in
    let xs = c.args.raw.now in
    let size = s.max_payload_size in
    let k = length c.loop-at.chunks.items in
    let pos : 0 < size = omega (arith, c.get-size.ensures.value, c.get-size.ensures.bounds) in
    let over : length xs ≤ k * size = omega (arith, c.loop-at.invariant.place, c.len-len.ensures.value) in
    let none = piece_none (length xs) size xs k (omega arith) pos over in
    let all : k ≡ length (pieces_of s xs) = omega (arith, c.loop-at.invariant.within) in
    c.loop-at.invariant.made ∙ ap (λ n. map (fragment_at s c.args.ppi xs) (numbers_from 0 n)) all

pub returns-clause-joined : goal.returns-clause-joined
returns-clause-joined c = c.loop-at.invariant.joined ∙ take_all c.loop-at.at c.args.raw.now (omega (arith, c.len-len.ensures.value))
