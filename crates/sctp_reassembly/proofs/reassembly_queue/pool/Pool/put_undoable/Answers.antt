use Rattle.std.proofs.Common.{◌≡◌, ◌++◌, get_or, ℕ, ◌+◌, ◌-◌, ◌^◌, ◌<◌, ◌≤◌, ◌&&◌, Bool, true, List, [], length, length-append, length-drop, length-take-le}
use Rattle.std.proofs.Common.{insert, remove}
use Rattle.std.proofs.Common.{take}
use Rattle.std.proofs.Common.{drop, refl, sym, ap, ap₂, subst, ◌∙◌, arith}
use Rattle.std.proofs.lemmas.List.Edits.{length-insert, get_or-insert_at}
use Rattle.sctp_data.specs.declared.chunk.chunk_payload_data.ChunkPayloadData.{ChunkPayloadData}
use Rattle.sctp_util.specs.Lists.{insert_before}
use Rattle.sctp_serial.specs.DataChunks.{bytes_of, chunk_before}
use Rattle.sctp_serial.specs.Runs.{HasNoRun, IsRun, IsStretch}
use Rattle.sctp_serial.specs.Window.{IsSerial}
use Rattle.sctp_reassembly.specs.reassembly_queue.Loose.{IsFlag, IsRunTaken, Unassembled, place_among, with_one}
use Rattle.sctp_serial.proofs.lemmas.ListEdits.{remove-insert, inserted-position}
use Rattle.sctp_reassembly.proofs.lemmas.reassembly_queue.SerialPlaces.{place_upto, serial_on, serial_without}
use Rattle.sctp_reassembly.proofs.lemmas.reassembly_queue.Stretches.{none_without, run_joined, none_at_end, bytes_with}
use Rattle.sctp_reassembly.proofs.lemmas.reassembly_queue.UnassembledRuns.{no_run_on, searched_on}
use Rattle.sctp_reassembly.proofs.lemmas.reassembly_queue.TakenRuns.{NoneWhere, flag_after_take}
use Rattle.sctp_reassembly.specs.declared.reassembly_queue.unassembled.InsertionUndo.{InsertionUndo}
use Rattle.sctp_reassembly.specs.reassembly_queue.PoolUndo.{CanUndoPut}
use Rattle.sctp_reassembly.proofs.lemmas.reassembly_queue.TakenBack.{Undoes, one_undone, run_undone}
use Rattle.sctp_reassembly.proofs.lemmas.reassembly_queue.Unassembled.{same_list, same_long}
use Rattle.sctp_reassembly.proofs.reassembly_queue.pool.Pool.put_undoable.Goals as goal

-- what was put in stands at its place
put_in : (xs ys zs : List ChunkPayloadData) (x : ChunkPayloadData) (place : ℕ)
    → xs ≡ zs → place ≡ place_among x.tsn zs → ys ≡ insert xs place x → ys ≡ insert_before chunk_before x zs
put_in xs ys zs x place same at e = e ∙ ap₂ (λ ls i. insert ls i x) same at ∙ sym (inserted-position chunk_before x zs)

-- and without it no more runs are there than before
flag_before : (searched : Bool) (xs ys : List ChunkPayloadData) (place : ℕ) (x : ChunkPayloadData)
    → place ≤ length xs → ys ≡ insert xs place x → IsFlag searched xs → IsFlag searched (remove ys place)
flag_before searched xs ys place x le e flag =
    subst (IsFlag searched) (sym (ap (λ ls. remove ls place) e ∙ remove-insert xs place x le)) flag

-- a place among them is one of the equal ones
within : {p q : Unassembled} → p ≡ q → (n place : ℕ) → place ≡ place_among n q.chunks → place ≤ length p.chunks
within {q} e n place at = omega (arith, same_long e, place_upto n q.chunks place at)

-- an undo of the fragments is one of the pool, where the mark was on for a reason
can_undo : {u : InsertionUndo} {ks : List ChunkPayloadData} {old new : Unassembled} → Undoes u ks old new → (b : Bool) → IsFlag b old.chunks
    → CanUndoPut (record { put = u; searched = b }) ks new
can_undo h b flag = record { put = h.can; flag = subst (λ (p : Unassembled). IsFlag b p.chunks) (sym h.done) flag }

pub insert_counted-requires-clause-searched : goal.insert_counted-requires-clause-searched
insert_counted-requires-clause-searched c on = no_run_on _ _ on c.self.invariant

pub insert_counted-requires-clause-place : goal.insert_counted-requires-clause-place
insert_counted-requires-clause-place c = within c.self.view_is c.args.chunk.tsn c.args.place c.requires

pub search-requires-clause-flag : goal.search-requires-clause-flag
search-requires-clause-flag c =
    let le = within c.self.view_is c.args.chunk.tsn c.args.place c.requires in
    let put = same_list c.in_ok-insert_counted.ensures.ok in
    flag_before c.self.inside.searched c.self.inside.unassembled.chunks _ c.args.place c.args.chunk le put c.self.invariant

pub search-requires-clause-in_range : goal.search-requires-clause-in_range
search-requires-clause-in_range c =
    let le = within c.self.view_is c.args.chunk.tsn c.args.place c.requires in
    omega (arith, same_long c.in_ok-insert_counted.ensures.ok, length-insert c.self.inside.unassembled.chunks c.args.place c.args.chunk le)

pub is_searched-self-inside-requires : goal.is_searched-self-inside-requires
is_searched-self-inside-requires c on =
    let xs = c.self.inside.unassembled.chunks in
    let ys = c.insert_counted.new.self.chunks in
    let put = c.in_ok-insert_counted.ensures.ok in
    let run = c.in-Some.ensures.found.run in
    let le = within c.self.view_is c.args.chunk.tsn c.args.place c.requires in
    let flag = flag_before c.self.inside.searched xs ys c.args.place c.args.chunk le (same_list put) c.self.invariant in
    let lt : c.args.place < length ys = omega (arith, same_long put, length-insert xs c.args.place c.args.chunk le) in
    let left = flag_after_take c.self.inside.searched c.is_serial-serial.result ys c.args.place c.in-Some.first c.in-Some.count lt flag
    c.is_serial-serial.ensures run in
    subst HasNoRun (sym (same_list c.in-Ok.ensures.rest))
    (subst (λ b. NoneWhere b (take c.in-Some.first ys ++ drop (c.in-Some.first + c.in-Some.count) ys)) (sym c.is_known-known.ensures ∙ on) left)

pub returns-in_default-clause-ok : goal.returns-in_default-clause-ok
returns-in_default-clause-ok c =
    let there = put_in _ _ _ c.args.chunk c.args.place (same_list c.self.view_is) c.requires (same_list c.in_ok-insert_counted.ensures.ok) in
    (rw c.in_default.is at c.search.ensures.none, there)

pub returns-in-Ok-clause-ok : goal.returns-in-Ok-clause-ok
returns-in-Ok-clause-ok c =
    let there = put_in _ _ _ c.args.chunk c.args.place (same_list c.self.view_is) c.requires (same_list c.in_ok-insert_counted.ensures.ok) in
    subst (λ ys. IsRunTaken ys c.take_run_counted.new.self.chunks c.in-Ok.chunks) there record {
      first = c.in-Some.first;
      count = c.in-Some.count;
      run = c.in-Some.ensures.found;
      rest = same_list c.in-Ok.ensures.rest;
      fragments = c.in-Ok.ensures.taken;
    }

pub returns-in_default-clause-undo : goal.returns-in_default-clause-undo
returns-in_default-clause-undo c =
    let le = within c.self.view_is c.args.chunk.tsn c.args.place c.requires in
    let back = one_undone _ _ [] _ _ c.args.chunk c.new-put.ensures refl refl c.flags-flags.ensures le c.in_ok-insert_counted.ensures.ok in
    back.done ∙ c.self.view_is

pub returns-in_default-clause-can : goal.returns-in_default-clause-can
returns-in_default-clause-can c =
    let le = within c.self.view_is c.args.chunk.tsn c.args.place c.requires in
    let back = one_undone _ _ [] _ _ c.args.chunk c.new-put.ensures refl refl c.flags-flags.ensures le c.in_ok-insert_counted.ensures.ok in
    can_undo back c.self.inside.searched c.self.invariant

pub returns-in-Ok-clause-undo : goal.returns-in-Ok-clause-undo
returns-in-Ok-clause-undo c =
    let le = within c.self.view_is c.args.chunk.tsn c.args.place c.requires in
    let in_range = c.in-Some.ensures.found.run.in_range in
    let put = c.in_ok-insert_counted.ensures.ok in
    let back = run_undone _ _ _ _ _ _ c.args.chunk _ c.new-put-in-Ok.ensures c.in-Ok.ensures.taken in_range c.flags-flags.ensures le put c.in-Ok.ensures.rest in
    back.done ∙ c.self.view_is

pub returns-in-Ok-clause-can : goal.returns-in-Ok-clause-can
returns-in-Ok-clause-can c =
    let le = within c.self.view_is c.args.chunk.tsn c.args.place c.requires in
    let in_range = c.in-Some.ensures.found.run.in_range in
    let put = c.in_ok-insert_counted.ensures.ok in
    let back = run_undone _ _ _ _ _ _ c.args.chunk _ c.new-put-in-Ok.ensures c.in-Ok.ensures.taken in_range c.flags-flags.ensures le put c.in-Ok.ensures.rest in
    can_undo back c.self.inside.searched c.self.invariant

pub put_back-requires : goal.put_back-requires
put_back-requires c =
    let le = within c.self.view_is c.args.chunk.tsn c.args.place c.requires in
    let put = c.in-Err.ensures.err ∙ c.in_ok-insert_counted.ensures.ok in
    let back = one_undone _ _ _ _ _ c.args.chunk c.new-put-in-Err.ensures refl c.new.ensures.items c.flags-flags.ensures le put in
    back.can

pub returns-in-Err-clause-err : goal.returns-in-Err-clause-err
returns-in-Err-clause-err c =
    let le = within c.self.view_is c.args.chunk.tsn c.args.place c.requires in
    let put = c.in-Err.ensures.err ∙ c.in_ok-insert_counted.ensures.ok in
    let back = one_undone _ _ _ _ _ c.args.chunk c.new-put-in-Err.ensures refl c.new.ensures.items c.flags-flags.ensures le put in
    c.put_back.ensures ∙ back.done ∙ c.self.view_is

pub invariant_of-self-in-Err : goal.invariant_of-self-in-Err
invariant_of-self-in-Err c =
    let le = within c.self.view_is c.args.chunk.tsn c.args.place c.requires in
    let put = c.in-Err.ensures.err ∙ c.in_ok-insert_counted.ensures.ok in
    let back = one_undone _ _ _ _ _ c.args.chunk c.new-put-in-Err.ensures refl c.new.ensures.items c.flags-flags.ensures le put in
    subst (λ (p : Unassembled). IsFlag c.self.inside.searched p.chunks) (sym (c.put_back.ensures ∙ back.done)) c.self.invariant

-- ## Looks

-- what is known in serial order of what was put in
record Plain (searched : Bool) (xs ys : List ChunkPayloadData) (place s t : ℕ) : Type 0 where
  pub none : HasNoRun xs
  pub without : HasNoRun (remove ys place)
  pub serial : IsSerial ys
  pub stretch : IsStretch ys place s t
  pub bytes : bytes_of ys < 2 ^ 64 - 1
  pub on : searched ≡ true
  pub joined : (f n : ℕ) → IsRun ys f n → n ≤ t + 1 - s

plain : (searched : Bool) (old mid : Unassembled) (xs : List ChunkPayloadData) (x : ChunkPayloadData) (place s t : ℕ) → old.chunks ≡ xs → place ≤ length xs
    → mid.chunks ≡ insert old.chunks place x → IsFlag searched old.chunks → IsSerial (insert xs place x) → HasNoRun xs
    → bytes_of xs + length x.user_data < 2 ^ 64 - 1 → IsStretch (insert xs place x) place s t → Plain searched old.chunks mid.chunks place s t
plain searched old mid xs x place s t same le put flag serial none small w =
    let e : insert xs place x ≡ mid.chunks = ap (λ zs. insert zs place x) (sym same) ∙ sym put in
    record {
      none = subst HasNoRun (sym same) none;
      without = subst (λ ys. HasNoRun (remove ys place)) e (none_without xs x place le none);
      serial = subst IsSerial e serial;
      stretch = subst (λ ys. IsStretch ys place s t) e w;
      bytes = subst (λ ys. bytes_of ys < 2 ^ 64 - 1) e (omega (arith, bytes_with xs x place le, small));
      on = searched_on searched old.chunks flag (subst IsSerial (sym same) (serial_without xs place x le serial)) (subst HasNoRun (sym same) none);
      joined = λ f n run. run_joined xs x place le none s t f n w (subst (λ ys. IsRun ys f n) (sym e) run);
    }

pub returns-in_default-clause-cost : goal.returns-in_default-clause-cost
returns-in_default-clause-cost c s t serial none small w =
    let xs = c.args.self.now.chunks in
    let h = plain c.self.inside.searched c.self.inside.unassembled c.insert_counted.new.self xs c.args.chunk c.args.place s t (same_list c.self.view_is)
    (place_upto c.args.chunk.tsn xs c.args.place c.requires)
    (same_list c.in_ok-insert_counted.ensures.ok) c.self.invariant serial none small w in
    omega (arith, c.in_ok-insert_counted.ensures.few, c.search.ensures.cost s t h.serial h.without h.stretch, w.holds_from, w.holds_to)

pub returns-in-Ok-clause-cost : goal.returns-in-Ok-clause-cost
returns-in-Ok-clause-cost c s t serial none small w =
    let xs = c.args.self.now.chunks in
    let h = plain c.self.inside.searched c.self.inside.unassembled c.insert_counted.new.self xs c.args.chunk c.args.place s t (same_list c.self.view_is)
    (place_upto c.args.chunk.tsn xs c.args.place c.requires)
    (same_list c.in_ok-insert_counted.ensures.ok) c.self.invariant serial none small w in
    let known = c.is_known-known.ensures
    ∙ ap₂ (λ a b. a && b) h.on (serial_on c.is_serial-serial.result c.insert_counted.new.self.chunks c.is_serial-serial.ensures h.serial) in
    omega (
      arith,
      c.in_ok-insert_counted.ensures.few,
      c.search.ensures.cost s t h.serial h.without h.stretch,
      c.in-Ok.ensures.few h.serial h.bytes,
      h.joined c.in-Some.first c.in-Some.count c.in-Some.ensures.found.run,
      c.is_searched-self-inside.ensures.none known,
      w.holds_from,
      w.holds_to,
    )

pub returns-in-Err-clause-cost : goal.returns-in-Err-clause-cost
returns-in-Err-clause-cost c s t serial none small w =
    let xs = c.args.self.now.chunks in
    let h = plain c.self.inside.searched c.self.inside.unassembled c.insert_counted.new.self xs c.args.chunk c.args.place s t (same_list c.self.view_is)
    (place_upto c.args.chunk.tsn xs c.args.place c.requires)
    (same_list c.in_ok-insert_counted.ensures.ok) c.self.invariant serial none small w in
    omega (
      arith,
      c.in_ok-insert_counted.ensures.few,
      c.search.ensures.cost s t h.serial h.without h.stretch,
      c.in-Err.ensures.few h.serial h.bytes,
      h.joined c.in-Some.first c.in-Some.count c.in-Some.ensures.found.run,
      w.holds_from,
      w.holds_to,
    )

-- so many there are with it
with_it : {old mid : Unassembled} (now : Unassembled) (x : ChunkPayloadData) (place : ℕ) → old ≡ now → place ≡ place_among x.tsn now.chunks
    → mid ≡ with_one place x old → length mid.chunks ≡ length now.chunks + 1
with_it {old} now x place same at put =
    omega (arith, same_long same, same_long put, length-insert old.chunks place x (within same x.tsn place at))

pub returns-in_default-clause-walk : goal.returns-in_default-clause-walk
returns-in_default-clause-walk c =
    let n = with_it c.args.self.now c.args.chunk c.args.place c.self.view_is c.requires c.in_ok-insert_counted.ensures.ok in
    omega (arith, n, c.in_ok-insert_counted.ensures.few, c.search.ensures.walk)

pub returns-in-Ok-clause-walk : goal.returns-in-Ok-clause-walk
returns-in-Ok-clause-walk c =
    let n = with_it c.args.self.now c.args.chunk c.args.place c.self.view_is c.requires c.in_ok-insert_counted.ensures.ok in
    let run = c.in-Some.ensures.found.run in
    let ys = c.insert_counted.new.self.chunks in
    let front = length-take-le c.in-Some.first ys (omega (arith, run.in_range)) in
    let left = length-append (take c.in-Some.first ys) (drop (c.in-Some.first + c.in-Some.count) ys) in
    omega (
      arith,
      n,
      run.in_range,
      front,
      left,
      length-drop (c.in-Some.first + c.in-Some.count) ys,
      same_long c.in-Ok.ensures.rest,
      c.in_ok-insert_counted.ensures.few,
      c.search.ensures.walk,
      c.in-Ok.ensures.walk,
      c.is_searched-self-inside.ensures.walk,
    )

pub returns-in-Err-clause-walk : goal.returns-in-Err-clause-walk
returns-in-Err-clause-walk c =
    let n = with_it c.args.self.now c.args.chunk c.args.place c.self.view_is c.requires c.in_ok-insert_counted.ensures.ok in
    omega (arith, n, c.in-Some.ensures.found.run.in_range, c.in_ok-insert_counted.ensures.few, c.search.ensures.walk, c.in-Err.ensures.walk)

pub returns-in_default-clause-few : goal.returns-in_default-clause-few
returns-in_default-clause-few c s t serial none small w end =
    let xs = c.args.self.now.chunks in
    let le = place_upto c.args.chunk.tsn xs c.args.place c.requires in
    let put = same_list c.in_ok-insert_counted.ensures.ok in
    let h = plain c.self.inside.searched c.self.inside.unassembled c.insert_counted.new.self xs c.args.chunk c.args.place s t (same_list c.self.view_is) le put
    c.self.invariant serial none small w in
    let here : (d : ChunkPayloadData) → get_or c.insert_counted.new.self.chunks c.args.place d ≡ c.args.chunk = λ d. ap (λ ys. get_or ys c.args.place d) put
    ∙ get_or-insert_at c.self.inside.unassembled.chunks c.args.place c.args.chunk d (omega (arith, same_long c.self.view_is, le)) in
    omega (arith, c.in_ok-insert_counted.ensures.few, c.search.ensures.few c.args.chunk s t h.serial h.without h.stretch here end)

pub returns-in-Ok-clause-few : goal.returns-in-Ok-clause-few
returns-in-Ok-clause-few c s t serial none small w end =
    let xs = c.args.self.now.chunks in
    let e = same_list c.in_ok-insert_counted.ensures.ok ∙ ap (λ zs. insert zs c.args.place c.args.chunk) (same_list c.self.view_is) in
    absurd (none_at_end xs c.args.chunk c.args.place (place_upto c.args.chunk.tsn xs c.args.place c.requires) none s t c.in-Some.first c.in-Some.count w end
    (subst (λ ys. IsRun ys c.in-Some.first c.in-Some.count) e c.in-Some.ensures.found.run))

pub returns-in-Err-clause-few : goal.returns-in-Err-clause-few
returns-in-Err-clause-few c s t serial none small w end =
    let xs = c.args.self.now.chunks in
    let e = same_list c.in_ok-insert_counted.ensures.ok ∙ ap (λ zs. insert zs c.args.place c.args.chunk) (same_list c.self.view_is) in
    absurd (none_at_end xs c.args.chunk c.args.place (place_upto c.args.chunk.tsn xs c.args.place c.requires) none s t c.in-Some.first c.in-Some.count w end
    (subst (λ ys. IsRun ys c.in-Some.first c.in-Some.count) e c.in-Some.ensures.found.run))
