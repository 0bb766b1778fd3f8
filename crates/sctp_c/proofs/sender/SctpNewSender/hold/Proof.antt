-- `hold` stores the pointer of the parts, and what they own goes with it.
use mathlib.Core.Path.{◌≡◌, refl, subst}
use mathlib.Core.List.{List, [], ◌∷◌, ◌++◌}
use seplogic.Ra.Ura.{Ura}
use base.Fraction.{full_share}
use mir.Syntax.{named}
use mir.Val.{Val, vptr, vunit, vstruct, of_list}
use base.Logic.{SProp, ent, emp, id⊢}
use base.Fml.{ftrue, fsep, flft}
use prog.Memory.{Memory}
use prog.Routine.{Routine}
use prog.Wp.{WpFn, Tables}
use types.Logic.{Logic}
use contract.Monad.{Fun}
use contract.Running.{tables, tables_of}
use sound.WpLaws.{WpFn-mono}
use types.Kit.{‵, raw, prop, ◌⊛◌, ◌$◌, ◌∵◌, !, qed, move, keep, use1, join, split, fsplit, fsplit3, fpick, feq_l, feq_i, regoal}
use types.Kit.{rewrite, suffices, group, frame, done}
use types.Part.{whole, sub, store_in}
use types.Run.{stop, fld, of_opd, unit_lit, assigns, returns, enter}
use types.ByLocal.{alloc_all, pass_all, free_all, look_at, get, get_in, through, sets}
use denote.Exit.{yes}
use denote.Memory.{cell_at}
use denote.RawPtr.{block_ptr, ptr_val}
use denote.Ref.{MutRef}
use denote.Signature.{plain}
use denote.Steps.{nothing, opens, closes}
use denote.Triple.Spec.{triple_of}
use denote.Triple.Table.{entered}
use denote.Triple.Walked.{says, Stays, stay_dropped, stay_ref, walk_of, ends_at, Goes-dropped, Goes-ref, walk_Meets}
use Rattle.std.specs.Prelude.{Some}
use Rattle.core.proofs.alloc.Calls.{handle_tells}
use Rattle.std_alloc.proofs.BoxSteps.Form.{D, B, word, box_typed}
use Rattle.std_alloc.proofs.BoxSteps.Steps.{box_out, box_in}
use Rattle.sctp_c.proofs.SenderBox.{E, FromParts as From}
use Rattle.sctp_c.specs.contracts.sender.SctpNewSender as New
use Rattle.sctp_c.specs.contracts.sender.SctpNewSender.hold as F
use Rattle.sctp_c.specs.contracts.sender.SctpNewSender.hold.Key.{name as #self}
use Rattle.sctp_c.proofs.sender.SctpNewSender.hold.Statement as stated
use Rattle.sctp_c.proofs.sender.SctpNewSender.hold.Code as code

abbrev stayed : Stays (F.ended).signature.params (F.ended).kept
stayed = (stay_ref (0 ∷ []) tt (plain (λ _. New.the_row)), (stay_dropped From yes, tt))

module _ {M : Type 1} {𝓤 : Ura M} (𝓛 : Logic 𝓤) (at_mem : Memory → SProp 𝓤) (run : Routine → Fun 𝓤) (𝓣 : Tables 𝓤 𝓛.H) where
  open 𝓛 use {H}

  walk : (z : (walk_of 𝓛 F.ended stayed (F.clauses 𝓛 at_mem run)).Ghost)
      → ent 𝓤 ((walk_of 𝓛 F.ended stayed (F.clauses 𝓛 at_mem run)).pre z)
      (WpFn 𝓤 H 𝓣.C 𝓣.Λ code.function (z.0.4.0 ++ (z.0.4.1.0 ++ [])) ((walk_of 𝓛 F.ended stayed (F.clauses 𝓛 at_mem run)).post z))
  walk z =
      let Post = (walk_of 𝓛 F.ended stayed (F.clauses 𝓛 at_mem run)).post z in
      let κ = z.0.0.0 in let q = z.0.1.0 in let r = z.0.3.0 in let rb = r.ref_ptr.0 in let ro = r.ref_ptr.1 in let h = r.now in
      let p = z.0.3.1.0 in let v : D E = record { ptr = p.ptr; alloc = p.alloc; value = p.value } in
      let Args = fsep ((MutRef (named 0) κ New.the_row).own_val r z.0.4.0) (fsep ((B E).own_val v z.0.4.1.0) ftrue) in
      qed 𝓛 (((‵ (flft κ q) ⊛ ‵ ftrue) ⊛ ‵ Args) ∷ raw (emp 𝓤) ∷ []) ∵
      split ! $ split ! $ move ! (2 ∷ []) $ fsplit ! $ fsplit3 ! $ feq_l ! (λ is_ref. move ! (2 ∷ []) $ fsplit ! $
      box_out E ! v z.0.4.1.0 (λ b o hv e ws fa.
      -- [the value; its token; its allocator; true; the reference, in two entries; the token; ..]
      regoal ! (λ (us : List Val). prop (WpFn 𝓤 H 𝓣.C 𝓣.Λ code.function us Post)) (λ i. is_ref i ++ (ws i ++ [])) refl $
      enter ! 𝓣.C 𝓣.Λ code.function (vptr rb ro ∷ word E hv b o ∷ []) _ $ alloc_all ! (λ ls. pass_all ! refl ((tt, tt), (box_typed E hv b o fa, tt)) $
      sets ! (of_opd ! (get_in ! (fld ! refl (stop !)) (sub ! 0 refl (whole !)))) refl (tt, tt) $
      sets ! (of_opd ! (get ! refl)) refl (tt, tt) $
      move ! (4 ∷ 5 ∷ 6 ∷ []) $ opens ! tt New.the_row {h = h} rb ro (λ us. move ! (1 ∷ []) $
      fsplit ! $ fpick ! (λ vss. fsplit ! $ feq_l ! (λ is_struct. fsplit ! $ feq_l ! (λ is_ptr. fsplit ! $
      handle_tells E.al ! h.alloc vss.1.0 (λ hv' is_alloc fa'.
      let cell : us ≡ vstruct (of_list (ptr_val h.at ∷ hv' ∷ [])) ∷ [] =
      subst (λ (ws : List Val). us ≡ vstruct (of_list (ptr_val h.at ∷ (ws ++ []))) ∷ []) is_alloc
      (subst (λ (ps : List Val). us ≡ vstruct (of_list (ps ++ (vss.1.0 ++ []))) ∷ []) is_ptr is_struct) in
      rewrite ! 3 (λ (us : List Val). ‵ (cell_at full_share New.the_row.mir us rb ro)) cell refl $
      -- [its allocator; true; what it owned; its cell; the open borrow, in three entries; the value; the value's token; ..]
      assigns ! (of_opd ! (get ! refl)) (through ! refl (fld ! refl (stop !))) (store_in ! 3 (sub ! 0 refl (whole !)) (tt, tt)) $
      sets ! (of_opd ! (unit_lit !)) refl (tt, tt) $
      let h' : New.the_row.Denot = record { at = block_ptr b o; alloc = h.alloc; value = Some v.value } in
      let d : D E = record { ptr = block_ptr b o; alloc = h.alloc; value = v.value } in
      move ! (7 ∷ 8 ∷ 0 ∷ []) $ box_in E ! d b o v.value refl refl $ use1 𝓛 (‵ (New.the_row.own_val h' (word E hv' b o ∷ []))) (id⊢ 𝓤 _) $
      move ! (3 ∷ 0 ∷ 4 ∷ 5 ∷ 6 ∷ []) $
      closes ! tt New.the_row h' (word E hv' b o ∷ []) rb ro $ returns ! (look_at ! 0 refl) $ free_all ! refl $
      keep ! (0 ∷ 1 ∷ 2 ∷ []) $ feq_i ! (List Val) z.0.4.0 (vptr rb ro ∷ []) is_ref $
      suffices ! _ (ends_at 𝓛 F.ended stayed (F.clauses 𝓛 at_mem run) z vunit tt (h', (tt, tt)) (tt, (tt, tt))) $ says ! refl $
      group ! 3 $ nothing ! $ nothing ! $ join ! $ move ! (1 ∷ 0 ∷ []) $ join ! $ nothing ! $ move ! (2 ∷ 0 ∷ []) $ join ! $ frame ! $ frame ! $
      feq_i ! _ (vunit ∷ []) _ refl $ done !))))))))

pub hold_spec : {M : Type 1} → stated.statement M
unfolding tables_of
hold_spec 𝓤 𝓛 𝓜 𝓡 wired =
    let 𝓣 : Tables 𝓤 𝓛.H = tables_of 𝓤 𝓛.H 𝓜 (tables 𝓤 𝓛.H 𝓜 𝓡 𝓡.env) in
    entered 𝓤 𝓛.H (triple_of 𝓛 F.signature (F.spec 𝓛 𝓜.mem 𝓡.returns)) 𝓣.C 𝓣.Λ #self code.function (code.unfolded 𝓤 𝓛.H 𝓜 𝓡 wired)
    (walk_Meets 𝓛 F.ended stayed (Goes-ref 𝓛 1 0 tt (plain (λ _. New.the_row)), (Goes-dropped 𝓛 1 From yes (λ κs x f. refl), tt))
    (F.clauses 𝓛 𝓜.mem 𝓡.returns) (WpFn 𝓤 𝓛.H 𝓣.C 𝓣.Λ code.function) (WpFn-mono 𝓤 𝓛.H 𝓛.laws 𝓣 code.function)
    (walk 𝓛 𝓜.mem 𝓡.returns 𝓣))
