-- `get_mut` lends the value behind the handle, and the handle follows it. The walk is that of `Box::as_mut`, with a cast more.
use mathlib.Core.Path.{◌≡◌, refl}
use Prim.Native.Nat.{ℕ}
use mathlib.Core.List.{List, [], ◌∷◌}
use seplogic.Ra.Ura.{Ura}
use base.Fraction.{full_share}
use mir.Syntax.{named}
use mir.Val.{Val, vptr}
use mir.Raw.{raw as bare}
use base.Logic.{ent, sep, emp, id⊢}
use base.Fml.{Lft, GName, Share, Fml, ftrue, flft, fsep}
use types.Logic.{Logic, sem}
use contract.Running.{tables}
use types.Kit.{‵, ◌⊛◌, some, at_ret, ◌$◌, ◌∵◌, !, qed, move, keep, use1, drop, split, join, pick, fsplit, fsplit3, fjoin, rewrite, suffices, frame, done, raw}
use types.Kit.{later, await, group, fpack}
use types.Part.{whole, sub, look_in}
use types.Run.{stop, fld, load, of_opd, first, blocks, exec, returns, enter, addr}
use types.ByLocal.{alloc_all, pass_all, free_all, look_at, get, through, sets, env, sets_last}
use denote.RattleType.{RattleType, owns}
use denote.Memory.{part_at, mem, cell_at, part_of}
use denote.RawPtr.{block_ptr}
use denote.Ref.{MutRef, mut_vals, mut_Tells}
use denote.Signature.{plain, mut_ref_to}
use denote.Steps.{nothing, opens}
use denote.Triple.Walked.{says, Stays, stay_dropped, walk_of, ends_at, Goes-spent_ref}
use denote.Exit.{no}
use denote.Follow.{follows, Part, lends_Part}
use Rattle.std.proofs.raw_atomic.Walks.{proved}
use Rattle.core.proofs.alloc.Calls.{token}
use Rattle.std_alloc.proofs.BoxSteps.Form.{D, R, B, τ, word, handle}
use Rattle.std_alloc.proofs.BoxSteps.Steps.{box_out, box_in}
use Rattle.sctp_c.specs.LentSender.{with_value}
use Rattle.sctp_c.specs.declared.sender.SctpSender.{SctpSender}
use Rattle.sctp_c.specs.contracts.sender.SctpSender as Row
use Rattle.sctp_c.specs.contracts.sender.typed.TypedSender as Value
use Rattle.sctp_c.proofs.SenderBox.{E}
use Rattle.sctp_c.specs.contracts.sender.SctpSender.get_mut as F
use Rattle.sctp_c.proofs.sender.SctpSender.get_mut.Statement as stated
use Rattle.sctp_c.proofs.sender.SctpSender.get_mut.Code as code

abbrev H' : RattleType
H' = Row.the_row

abbrev T' : RattleType
T' = Value.the_row

abbrev as_box : SctpSender → D E
as_box h = record { ptr = h.at; alloc = h.alloc; value = h.value }

abbrev stayed : Stays (F.ended).signature.params (F.ended).kept
stayed = (stay_dropped (mut_ref_to (0 ∷ []) tt (plain (λ _. H'))) no, tt)

module _ {M : Type 1} {𝓤 : Ura M} (𝓛 : Logic 𝓤) (κ : Lft) (q : Share) (rb ro : ℕ) (γ : GName) (h : SctpSender) (b o : ℕ) (hv : Val) where
  -- all of the handle but its value
  abbrev Rest : Fml
  Rest = fsep (fsep (token E.al h.alloc (bare (τ E)) (block_ptr b o)) (handle E h.alloc hv)) (cell_at full_share H'.mir (word E hv b o ∷ []) rb ro)

  back : h.at ≡ block_ptr b o → (w : T'.Denot) → ent 𝓤 (sep 𝓤 (sem 𝓛 ((mem T').own_at w b o)) (sem 𝓛 Rest)) (sem 𝓛 ((mem H').own_at (with_value h w) rb ro))
  unfolding part_of
  back at_b w =
      qed 𝓛 (‵ (part_at (R E) full_share w b o) ∷ ‵ Rest ∷ []) ∵ move ! (1 ∷ []) $ fsplit ! $ fsplit ! $ move ! (3 ∷ []) $
      box_in E ! (as_box (with_value h w)) b o w at_b refl $ move ! (1 ∷ 0 ∷ []) $ fjoin ! $
      fpack ! (List Val) (λ us. fsep (cell_at full_share H'.mir us rb ro) (H'.own_val (with_value h w) us)) (word E hv b o ∷ []) $ done !

pub get_mut_spec : {M : Type 1} → stated.statement M
get_mut_spec 𝓤 𝓛 𝓜 𝓡 wired =
    let c = F.clauses 𝓛 𝓜.mem 𝓡.returns in let W = walk_of 𝓛 F.ended stayed c in let 𝓣 = tables 𝓤 𝓛.H 𝓜 𝓡 𝓡.env in
    proved 𝓛 F.ended stayed c 𝓜 𝓡 (Goes-spent_ref 𝓛 1 (0 ∷ []) tt (plain (λ _. H')), tt)
    F.Key.name code.function (code.unfolded 𝓤 𝓛.H 𝓜 𝓡 wired)
    (λ κs. (mut_vals, tt)) (λ κs. (mut_Tells (named 0) κs.0 H', tt)) (λ κs qs bounds a n are.
    let κ = κs.0 in let q = qs.0 in let rb = a.0.ref_ptr.0 in let ro = a.0.ref_ptr.1 in let γ = a.0.ghost_name in let h = a.0.now in
    let y : W.Ghost = ((κs, qs, bounds, a, (vptr rb ro ∷ [], tt)), n) in
    qed 𝓛 (((‵ (flft κ q) ⊛ ‵ ftrue) ⊛ ‵ (owns (MutRef (named 0) κ H' ∷ []) a (vptr rb ro ∷ [], tt))) ∷ raw (emp 𝓤) ∷ []) ∵
    move ! (1 ∷ []) $ drop ! $ split ! $
    enter ! 𝓣.C 𝓣.Λ code.function (vptr rb ro ∷ []) _ $
    alloc_all ! (λ l. pass_all ! refl ((tt, tt), tt) $
    move ! (1 ∷ []) $ fsplit ! $ fsplit3 ! $ drop ! $ move ! (3 ∷ []) $ split ! $ move ! (2 ∷ 3 ∷ 0 ∷ []) $
    opens ! tt H' {h = h} rb ro (λ vs. move ! (1 ∷ []) $ use1 𝓛 (‵ ((B E).own_val (as_box h) vs)) (id⊢ 𝓤 _) $
    box_out E ! (as_box h) vs (λ b o hv at_b ws fa. move ! (1 ∷ 2 ∷ []) $ fjoin ! $ move ! (1 ∷ []) $
    rewrite ! 2 (λ (us : List Val). ‵ (cell_at full_share H'.mir us rb ro)) ws refl $
    first ! $ blocks ! $
    sets ! (of_opd ! (load ! (through ! refl (fld ! refl (stop !))) (look_in ! 2 (sub ! 0 refl (whole !))))) refl (tt, tt) $
    sets ! (of_opd ! (get ! refl)) refl (tt, tt) $
    sets_last ! (addr ! (through ! refl (stop !))) refl (tt, tt) $
    exec ! 𝓣.C 𝓣.Λ (env code.Mir.locals l) code.Mir.t-2 (at_ret _ (W.post y)) $
    sets ! (of_opd ! (get ! refl)) refl (tt, tt) $
    move ! (1 ∷ 2 ∷ []) $ fjoin ! $ move ! (2 ∷ 3 ∷ 4 ∷ 1 ∷ 0 ∷ []) $ group ! 5 $
    use1 𝓛 (later (some (λ (γ' : GName).
    raw (Part 𝓛 H' T' (with_value h) (named 0) κ q rb ro b o γ (sem 𝓛 (Rest 𝓛 κ q rb ro γ h b o hv)) (back 𝓛 κ q rb ro γ h b o hv at_b) h.value γ'))))
    (lends_Part 𝓛 H' T' (with_value h) (named 0) κ q rb ro b o γ (sem 𝓛 (Rest 𝓛 κ q rb ro γ h b o hv)) (back 𝓛 κ q rb ro γ h b o hv at_b) (H'.coded.code h)
    (H'.coded.code h) h.value) $ await ! tt $ pick ! (λ γ'.
    returns ! (look_at ! 0 refl) $ free_all ! refl $
    keep ! (0 ∷ []) $
    use1 𝓛 (‵ ((MutRef (named 0) κ T').own_val (record { ref_ptr = (b, o); ghost_name = γ'; now = h.value }) (vptr b o ∷ [])) ⊛
    (‵ (flft κ q) ⊛ ‵ (follows H' T' γ γ' (with_value h)))) (id⊢ 𝓤 _) $ split ! $ move ! (1 ∷ []) $ split ! $ move ! (2 ∷ 0 ∷ 1 ∷ []) $
    suffices ! _ (ends_at 𝓛 F.ended stayed c y (vptr b o) (record { ref_ptr = (b, o); ghost_name = γ'; now = h.value }) (tt, tt) (tt, tt)) $
    nothing ! $ nothing ! $ fjoin ! $ join ! $ nothing ! $ move ! (2 ∷ 0 ∷ []) $ join ! $ join ! $ frame ! $ says ! refl $ done !)))))
