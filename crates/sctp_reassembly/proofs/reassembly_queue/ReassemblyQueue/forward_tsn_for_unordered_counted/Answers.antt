use Rattle.std.proofs.Common.{◌≡◌, ◌-◌, ◌^◌, ◌<◌, not, length, length-take-le, take, drop, sym, ap, ap₂, ◌∙◌, subst, arith}
use Rattle.std.specs.List.{position_or_len}
use Rattle.sctp_util.specs.Serial.{at_or_before}
use Rattle.sctp_util.specs.Lists.{after_leading}
use Rattle.sctp_serial.specs.DataChunks.{bytes_of}
use Rattle.sctp_serial.proofs.lemmas.ListEdits.{after_leading-position}
use Rattle.sctp_reassembly.proofs.lemmas.reassembly_queue.ChunkSets.{state_of, leading_upto-position}
use Rattle.sctp_reassembly.specs.reassembly_queue.ReassemblyQueue.{ReassemblyState, IsCounted, leading_upto}
use Rattle.sctp_serial.specs.Runs.{HasNoRun}
use Rattle.sctp_serial.specs.Window.{IsSerial}
use Rattle.sctp_reassembly.proofs.lemmas.reassembly_queue.ByteCounts.{drop_counted}
use Rattle.sctp_reassembly.proofs.lemmas.reassembly_queue.Unassembled.{same_list, same_long, same_places}
use Rattle.sctp_reassembly.proofs.reassembly_queue.ReassemblyQueue.forward_tsn_for_unordered_counted.Goals as goal

pub returns-clause-value : goal.returns-clause-value
returns-clause-value c =
    let q = c.self.inside in
    let t = c.args.new_cumulative_tsn in
    let xs = q.unordered_chunks.chunks in
    let k = c.front_upto-count.result in
    let at : k ≡ position_or_len (λ x. not (at_or_before x.tsn t)) xs = c.front_upto-count.ensures.place
    ∙ ap (position_or_len (λ x. not (at_or_before x.tsn t))) (same_list c.unassembled-unassembled.ensures) in
    let left : c.drop_front.new.self.chunks ≡ after_leading (λ x. at_or_before x.tsn t) xs = same_list c.drop_front.ensures.value ∙ ap (λ i. drop i xs) at
    ∙ sym (after_leading-position (λ x. at_or_before x.tsn t) xs) in
    let gone = ap (λ i. take i xs) at ∙ leading_upto-position t xs in
    let counted = rw c.unassembled-unassembled.ensures at c.bytes_of_front-gone.ensures.value in
    rw (← c.self.view_is) (c.release.ensures (bytes_of (take k xs)) counted
    ∙ ap (λ ds. state_of q.si q.next_ssn q.ordered q.unordered.items c.drop_front.new.self.chunks
    (q.n_bytes - bytes_of ds) q.max_message_size c.drop_front.new.self.places) gone ∙ ap₂ (λ ls n. state_of q.si q.next_ssn q.ordered q.unordered.items ls
    (q.n_bytes - bytes_of (leading_upto t xs)) q.max_message_size n) left (same_places c.drop_front.ensures.value))

pub returns-clause-counted : goal.returns-clause-counted
returns-clause-counted c h = subst IsCounted (sym (returns-clause-value c)) (drop_counted c.args.new_cumulative_tsn c.args.self.now h)

pub returns-clause-few : goal.returns-clause-few
returns-clause-few c h =
    let t = c.args.new_cumulative_tsn in
    let xs = c.self.inside.unordered_chunks.chunks in
    let k = c.front_upto-count.result in
    let there = same_list c.unassembled-unassembled.ensures in
    let held : xs ≡ c.args.self.now.held.unassembled = ap (λ (q : ReassemblyState). q.held.unassembled) c.self.view_is in
    let at : k ≡ position_or_len (λ x. not (at_or_before x.tsn t)) xs = c.front_upto-count.ensures.place
    ∙ ap (position_or_len (λ x. not (at_or_before x.tsn t))) there in
    let gone = ap length (ap (λ i. take i xs) at ∙ leading_upto-position t xs) in
    let whole = length-take-le k xs (omega (arith, c.front_upto-count.ensures.in_range, ap length there)) in
    let dropped = c.drop_front.ensures.few (subst IsSerial (sym held) h.serial) (subst HasNoRun (sym held) h.incomplete)
    (subst (λ ys. bytes_of ys < 2 ^ 64 - 1) (sym held) h.bytes) in
    omega (
      arith,
      ap (λ ys. length (leading_upto t ys)) held,
      gone,
      whole,
      dropped,
      c.front_upto-count.ensures.cost,
      c.bytes_of_front-gone.ensures.turns,
    )

pub returns-clause-walk : goal.returns-clause-walk
returns-clause-walk c =
    let xs = c.self.inside.unordered_chunks.chunks in
    let held : xs ≡ c.args.self.now.held.unassembled = ap (λ (q : ReassemblyState). q.held.unassembled) c.self.view_is in
    omega (
      arith,
      ap length held,
      same_long c.unassembled-unassembled.ensures,
      c.front_upto-count.ensures.in_range,
      c.front_upto-count.ensures.cost,
      c.bytes_of_front-gone.ensures.turns,
      c.drop_front.ensures.walk,
    )
