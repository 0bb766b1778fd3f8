use Rattle.std.proofs.Common.{◌≡◌, ℕ, ◌-◌, ◌^◌, ◌<◌, List, length, min, get_or, set, ap, subst, sym, ◌∙◌}
use Rattle.sctp_util.specs.Lists.{change_at}
use Rattle.sctp_data.specs.ChunkSet.{ChunkSet}
use Rattle.sctp_reassembly.specs.declared.reassembly_queue.chunks.Noted.{Noted}
use Rattle.sctp_reassembly.specs.reassembly_queue.Counts.{SetDeque, set_chunks}
use Rattle.sctp_reassembly.specs.reassembly_queue.Fragments.{without_chunk}
use Rattle.sctp_reassembly.specs.reassembly_queue.Undo.{IsNotedOf}
use Rattle.sctp_reassembly.proofs.lemmas.reassembly_queue.Undone.{changed-set}
use Rattle.sctp_reassembly.proofs.reassembly_queue.counted_sets.CountedSets.remove_from.Goals as goal

-- the set at a place of the deque
module _ (q p : SetDeque) (i at : ℕ) (old : ChunkSet) (view : q ≡ p) (read : old ≡ get_or q.items i old) where
  same : old ≡ get_or p.items i old
  same = read ∙ ap (λ (s : SetDeque). get_or s.items i old) view

  is_short : ((d : ChunkSet) → at < length (get_or p.items i d).chunks) → at < length old.chunks
  is_short short = subst (λ (s : ChunkSet). at < length s.chunks) (sym same) (short old)

  is_noted : (m : Noted) → ((d : ChunkSet) → IsNotedOf m (without_chunk at (get_or p.items i d)).chunks) → IsNotedOf m (without_chunk at old).chunks
  is_noted m noted = subst (λ s. IsNotedOf m (without_chunk at s).chunks) (sym same) (noted old)

  written : (new : ChunkSet) → new ≡ without_chunk at old → set q.items i new ≡ change_at (without_chunk at) i p.items
  written new gone =
      let f = without_chunk at in
      ap (λ y. set q.items i y) (gone ∙ ap f read)
      ∙ sym (changed-set f i q.items old)
      ∙ ap (λ (s : SetDeque). change_at f i s.items) view

pub remove-requires : goal.remove-requires
remove-requires c = record {
  in_range = is_short _ _ c.args.place c.args.at c.index_mut.result.now c.self.view_is c.index_mut.ensures.value c.requires.chunk;
  noted = is_noted _ _ c.args.place c.args.at c.index_mut.result.now c.self.view_is c.index_mut.ensures.value c.args.noted c.requires.noted;
}

pub invariant_of-self : goal.invariant_of-self
invariant_of-self c =
    c.requires.counted
    ∙ ap (λ (sets : List ChunkSet). min (set_chunks sets) (2 ^ 64 - 1))
    (sym (written _ _ c.args.place c.args.at c.index_mut.result.now c.self.view_is c.index_mut.ensures.value c.remove.new.self c.remove.ensures))

pub returns : goal.returns
returns c = written _ _ c.args.place c.args.at c.index_mut.result.now c.self.view_is c.index_mut.ensures.value c.remove.new.self c.remove.ensures
