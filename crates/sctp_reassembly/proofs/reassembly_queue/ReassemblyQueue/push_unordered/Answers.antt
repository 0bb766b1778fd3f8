use Rattle.std.proofs.Common.{◌≡◌, ◌-◌, ◌^◌, ◌<◌, ◌∷◌, ◌++◌, [], List, length, min, length-append, remove, refl, sym, ap, ap₂, subst, ◌∙◌, arith}
use Rattle.std.proofs.lemmas.List.Edits.{length-insert}
use Rattle.sctp_util.specs.Lists.{insert_before}
use Rattle.sctp_serial.specs.DataChunks.{chunk_before}
use Rattle.sctp_data.specs.ChunkSet.{ChunkSet}
use Rattle.sctp_data.specs.declared.chunk.chunk_payload_data.ChunkPayloadData.{ChunkPayloadData}
use Rattle.sctp_serial.specs.Runs.{IsRun, HasNoRun}
use Rattle.sctp_reassembly.specs.reassembly_queue.ReassemblyQueue.{Reassembly, ReassemblyState, set_of_run, count_up}
use Rattle.sctp_reassembly.specs.reassembly_queue.Counts.{set_chunks}
use Rattle.sctp_reassembly.specs.reassembly_queue.Loose.{Unassembled, place_among}
use Rattle.sctp_reassembly.specs.reassembly_queue.Undo.{last_chunks}
use Rattle.sctp_reassembly.proofs.lemmas.reassembly_queue.ChunkSets.{state_of}
use Rattle.sctp_reassembly.proofs.lemmas.reassembly_queue.Undone.{last_out, last_there}
use Rattle.sctp_reassembly.proofs.lemmas.reassembly_queue.SerialPlaces.{place_upto}
use Rattle.sctp_reassembly.proofs.lemmas.reassembly_queue.Stretches.{fits_at, run_long, run_joined, none_at_end, inserted_among}
use Rattle.sctp_reassembly.proofs.reassembly_queue.ReassemblyQueue.push_unordered.Goals as goal

pub returns-in-None-clause-ok : goal.returns-in-None-clause-ok
returns-in-None-clause-ok c =
    let q = c.self.inside in
    let h = rw c.in-None.is at c.in_ok-run.ensures.ok in
    let counted = c.saturating_add-self-inside.ensures ∙ ap (count_up q.n_bytes) c.len-len.ensures.value in
    rw (← c.self.view_is) (
      (
        subst HasNoRun h.1 h.0,
        ap₂ (λ us ls. let r : Reassembly = record { next_ssn = q.next_ssn; ordered = q.ordered; unordered = us; unassembled = ls } in
            r) c.in_ok-reserve.ensures.items h.1,
      ),
      ap₂ (λ b n.
          state_of q.si q.next_ssn q.ordered c.reserve.new.self.items c.put_undoable.new.self.chunks b q.max_message_size n) counted c.in_ok-run.ensures.places,
    )

pub returns-in-Some-clause-ok : goal.returns-in-Some-clause-ok
returns-in-Some-clause-ok c =
    let q = c.self.inside in
    let h = rw c.in-Some.is at c.in_ok-run.ensures.ok in
    let counted = c.saturating_add-self-inside.ensures ∙ ap (count_up q.n_bytes) c.len-len.ensures.value in
    let taken = c.set_of_run.ensures.value ∙ ap set_of_run h.fragments in
    let more = c.push_back_reserved.ensures.items ∙ ap₂ (λ (a : List ChunkSet) (b : ChunkSet). a ++ b ∷ []) c.in_ok-reserve.ensures.items taken in
    rw (← c.self.view_is) (
      record {
        first = h.first;
        count = h.count;
        run = h.run;
        moved = ap₂ (λ us ls. let r : Reassembly = record { next_ssn = q.next_ssn; ordered = q.ordered; unordered = us; unassembled = ls } in r) more h.rest;
      },
      ap₂ (λ b n. state_of q.si q.next_ssn q.ordered c.push_back_reserved.new.self.items c.put_undoable.new.self.chunks b q.max_message_size n) counted
          c.in_ok-run.ensures.places,
    )

-- a message has the fragments of its run
fragments_of : (run : List ChunkPayloadData) → (set_of_run run).chunks ≡ run
fragments_of [] = refl
fragments_of (x ∷ xs) = refl

-- the message that became whole stands behind the others, with the fragments of the run
last_is : (us more : List ChunkSet) (set : ChunkSet) (run : List ChunkPayloadData)
    → more ≡ us ++ set ∷ [] → set ≡ set_of_run run → (remove more (length more - 1) ≡ us) × (last_chunks more ≡ run)
last_is us more set run behind made = (
  ap (λ xs. remove xs (length xs - 1)) behind ∙ last_out us set,
  ap last_chunks behind ∙ last_there us set ∙ ap (λ (s : ChunkSet). s.chunks) made ∙ fragments_of run,
)

pub returns-in-Some-clause-undo : goal.returns-in-Some-clause-undo
returns-in-Some-clause-undo c =
    let q = c.self.inside in
    let set = c.set_of_run.result in
    let more = c.push_back_reserved.new.self.items in
    let with_last : more ≡ q.unordered.items ++ set ∷ [] = c.push_back_reserved.ensures.items ∙ ap (λ us. us ++ set ∷ []) c.in_ok-reserve.ensures.items in
    let last = last_is q.unordered.items more set c.in-Some.chunks with_last c.set_of_run.ensures.value in
    let back = rw c.in-Some.is at c.in_ok-run.ensures.undo in
    rw (c.of.ensures, c.of-undo.ensures, ← c.self.view_is, last.1)
    (ap₂ (λ us (p : Unassembled). state_of q.si q.next_ssn q.ordered us p.chunks q.n_bytes q.max_message_size p.places) last.0 back)

pub returns-in-Some-clause-can : goal.returns-in-Some-clause-can
returns-in-Some-clause-can c =
    let q = c.self.inside in
    let set = c.set_of_run.result in
    let more = c.push_back_reserved.new.self.items in
    let with_last : more ≡ q.unordered.items ++ set ∷ [] = c.push_back_reserved.ensures.items ∙ ap (λ us. us ++ set ∷ []) c.in_ok-reserve.ensures.items in
    let last = last_is q.unordered.items more set c.in-Some.chunks with_last c.set_of_run.ensures.value in
    let can = rw c.in-Some.is at c.in_ok-run.ensures.can in
    let some : 0 < length more = omega (arith, ap length with_last, length-append q.unordered.items (set ∷ [])) in
    rw (c.of.ensures, c.of-undo.ensures) (record {
      put = rw last.1 can;
      some = some;
      counted = c.chunk_count-n_chunks.ensures ∙ ap (λ us. min (set_chunks us) (2 ^ 64 - 1)) (c.in_ok-reserve.ensures.items ∙ sym last.0);
    })

-- ## Looks

pub returns-in_err-run-clause-cost : goal.returns-in_err-run-clause-cost
returns-in_err-run-clause-cost c fits s t w =
    let q = c.args.self.now.held in
    let xs = c.self.inside.unordered_chunks.chunks in
    let same : xs ≡ q.unassembled = ap (λ (r : ReassemblyState). r.held.unassembled) c.self.view_is in
    let h = fits_at q xs c.args.chunk c.args.place s t same c.requires fits w in
    omega (arith, c.in_err-run.ensures.cost s t h.serial h.none h.small h.stretch)

pub returns-in_err-run-clause-walk : goal.returns-in_err-run-clause-walk
returns-in_err-run-clause-walk c =
    let same : c.self.inside.unordered_chunks.chunks ≡ c.args.self.now.held.unassembled = ap (λ (r : ReassemblyState). r.held.unassembled) c.self.view_is in
    omega (arith, c.in_err-run.ensures.walk, ap length same)

pub returns-in-None-clause-cost : goal.returns-in-None-clause-cost
returns-in-None-clause-cost c fits s t w =
    let q = c.args.self.now.held in
    let xs = c.self.inside.unordered_chunks.chunks in
    let same : xs ≡ q.unassembled = ap (λ (r : ReassemblyState). r.held.unassembled) c.self.view_is in
    let h = fits_at q xs c.args.chunk c.args.place s t same c.requires fits w in
    omega (arith, c.in_ok-run.ensures.cost s t h.serial h.none h.small h.stretch)

pub returns-in-Some-clause-cost : goal.returns-in-Some-clause-cost
returns-in-Some-clause-cost c fits s t w =
    let q = c.args.self.now.held in
    let xs = c.self.inside.unordered_chunks.chunks in
    let x = c.args.chunk in
    let same : xs ≡ q.unassembled = ap (λ (r : ReassemblyState). r.held.unassembled) c.self.view_is in
    let h = fits_at q xs x c.args.place s t same c.requires fits w in
    let r = rw c.in-Some.is at c.in_ok-run.ensures.ok in
    let at = c.requires ∙ ap (place_among x.tsn) (sym same) in
    let long = run_long (insert_before chunk_before x xs) c.in-Some.chunks r.first r.count r.run.run.in_range r.fragments in
    let few =
    run_joined xs x c.args.place h.le h.none s t r.first r.count h.stretch (subst (λ ys. IsRun ys r.first r.count) (inserted_among xs x c.args.place at)
    r.run.run) in
    omega
    (arith, c.in_ok-run.ensures.cost s t h.serial h.none h.small h.stretch, c.set_of_run.ensures.cost, long, few, h.stretch.holds_from, h.stretch.holds_to)

pub returns-in-None-clause-walk : goal.returns-in-None-clause-walk
returns-in-None-clause-walk c =
    let same : c.self.inside.unordered_chunks.chunks ≡ c.args.self.now.held.unassembled = ap (λ (r : ReassemblyState). r.held.unassembled) c.self.view_is in
    omega (arith, c.in_ok-run.ensures.walk, ap length same)

pub returns-in-Some-clause-walk : goal.returns-in-Some-clause-walk
returns-in-Some-clause-walk c =
    let xs = c.self.inside.unordered_chunks.chunks in
    let x = c.args.chunk in
    let same : xs ≡ c.args.self.now.held.unassembled = ap (λ (r : ReassemblyState). r.held.unassembled) c.self.view_is in
    let r = rw c.in-Some.is at c.in_ok-run.ensures.ok in
    let at = c.requires ∙ ap (place_among x.tsn) (sym same) in
    let long = run_long (insert_before chunk_before x xs) c.in-Some.chunks r.first r.count r.run.run.in_range r.fragments in
    let all = ap length (inserted_among xs x c.args.place at) ∙ length-insert xs c.args.place x (place_upto x.tsn xs c.args.place at) in
    omega (arith, c.in_ok-run.ensures.walk, c.set_of_run.ensures.cost, long, all, ap length same, r.run.run.in_range)

pub returns-in_err-run-clause-few : goal.returns-in_err-run-clause-few
returns-in_err-run-clause-few c fits s t w end =
    let q = c.args.self.now.held in
    let xs = c.self.inside.unordered_chunks.chunks in
    let same : xs ≡ q.unassembled = ap (λ (r : ReassemblyState). r.held.unassembled) c.self.view_is in
    let h = fits_at q xs c.args.chunk c.args.place s t same c.requires fits w in
    omega (arith, c.in_err-run.ensures.few s t h.serial h.none h.small h.stretch end)

pub returns-in-None-clause-few : goal.returns-in-None-clause-few
returns-in-None-clause-few c fits s t w end =
    let q = c.args.self.now.held in
    let xs = c.self.inside.unordered_chunks.chunks in
    let same : xs ≡ q.unassembled = ap (λ (r : ReassemblyState). r.held.unassembled) c.self.view_is in
    let h = fits_at q xs c.args.chunk c.args.place s t same c.requires fits w in
    omega (arith, c.in_ok-run.ensures.few s t h.serial h.none h.small h.stretch end)

pub returns-in-Some-clause-few : goal.returns-in-Some-clause-few
returns-in-Some-clause-few c fits s t w end =
    let q = c.args.self.now.held in
    let xs = c.self.inside.unordered_chunks.chunks in
    let x = c.args.chunk in
    let same : xs ≡ q.unassembled = ap (λ (r : ReassemblyState). r.held.unassembled) c.self.view_is in
    let h = fits_at q xs x c.args.place s t same c.requires fits w in
    let r = rw c.in-Some.is at c.in_ok-run.ensures.ok in
    let at = c.requires ∙ ap (place_among x.tsn) (sym same) in
    absurd (none_at_end xs x c.args.place h.le h.none s t r.first r.count h.stretch end
    (subst (λ ys. IsRun ys r.first r.count) (inserted_among xs x c.args.place at) r.run.run))
