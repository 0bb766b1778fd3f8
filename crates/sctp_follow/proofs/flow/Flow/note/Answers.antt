use Rattle.std.proofs.Common.{rules, ◌≡◌, ◌+◌, ℕ, Bool, true, false, List, [], ◌∷◌, map, drop, get_or, refl, ap, sym, ◌∙◌, arith}
use Rattle.std.proofs.lemmas.List.{drop_more, at_drop_all}
use Rattle.sctp_util.specs.Field.{u32_at}
use Rattle.sctp_show.specs.Filter.{is_data}
use Rattle.sctp_dissect.specs.Dissection.{item_bytes}
use Rattle.sctp_follow.specs.Load.{total, came, behind}
use Rattle.sctp_follow.specs.Tsns.{contains}
use Rattle.sctp_follow.specs.declared.tsns.Tsns.{Tsns}
use Rattle.sctp_follow.proofs.Loads.{came_data, came_other, total_behind, behind_none, behind_next}
use Rattle.sctp_follow.proofs.flow.Flow.note.Goals as goal

pub loop-item-preserved : goal.loop-item-preserved
loop-item-preserved c =
    let i = c.loop-item.invariant in
    let chunk : List ℕ = c.as_slice-bytes.result.now in
    let items = c.args.items.now in
    let at : ℕ = c.loop-item.item-index in
    let rest : List (List ℕ) = map item_bytes (drop (at + 1) items) in
    let same : (get_or items at c.item-item.result).bytes ≡ chunk = search rules in
    let step : chunk ∷ rest ≡ map item_bytes (drop at items) =
    ap (λ (b : List ℕ). b ∷ rest) (sym same) ∙ sym (ap (map item_bytes) (drop_more items at c.item-item.result (omega (arith, c.loop-item-test.true)))) in
    record {
      earlier = chunk ∷ i.earlier;
      seen = λ tsn. by tsn (is_data chunk) refl;
      same = behind_next c.args.self.now.tsns i.earlier c.loop-item.left chunk rest c.loop-item.load c.has_come.result _ _
          (λ d. c.has_come.ensures d ∙ i.seen (u32_at chunk 4)) c.note_chunk-left.ensures.left c.note_chunk-left.ensures.load
          ∙ ap (λ (chunks : List (List ℕ)). behind c.args.self.now.tsns i.earlier c.loop-item.left chunks c.loop-item.load) step ∙ i.same;
    }
  where
    kept : (tsn : ℕ) → contains c.note_base.new.self.tsns tsn ≡ came c.args.self.now.tsns c.loop-item.invariant.earlier tsn
    kept tsn = ap (λ (s : Tsns). contains s tsn) c.note_base.ensures.tsns ∙ c.loop-item.invariant.seen tsn

    by : (tsn : ℕ) (d : Bool) → is_data c.as_slice-bytes.result.now ≡ d
        → contains c.note_chunk.new.self.tsns tsn ≡ came c.args.self.now.tsns (c.as_slice-bytes.result.now ∷ c.loop-item.invariant.earlier) tsn
    by tsn true e =
        came_data c.args.self.now.tsns c.note_base.new.self.tsns c.note_chunk.new.self.tsns c.loop-item.invariant.earlier c.as_slice-bytes.result.now tsn e
        (c.in_ok-note_chunk.ensures.seen e tsn) (kept tsn)
    by tsn false e = came_other c.args.self.now.tsns c.note_chunk.new.self.tsns c.loop-item.invariant.earlier c.as_slice-bytes.result.now tsn e
        (ap (λ (s : Tsns). contains s tsn) (c.in_ok-note_chunk.ensures.others e).3 ∙ kept tsn)

pub returns-clause-load : goal.returns-clause-load
returns-clause-load c =
    let i = c.loop-item.invariant in
    let seen = c.args.self.now.tsns in
    c.note.ensures ∙ sym (behind_none seen i.earlier c.loop-item.left c.loop-item.load)
    ∙ sym (at_drop_all (λ items.
    behind seen i.earlier c.loop-item.left (map item_bytes items) c.loop-item.load) c.args.items.now c.loop-item.item-index c.loop-item-test.false) ∙ i.same

pub returns-clause-bytes : goal.returns-clause-bytes
returns-clause-bytes c =
    ap total (returns-clause-load c) ∙ total_behind c.args.self.now.tsns [] c.args.extent.length (map item_bytes c.args.items.now) c.args.self.now.load
