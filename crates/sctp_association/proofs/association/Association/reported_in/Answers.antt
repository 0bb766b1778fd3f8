use Rattle.std.proofs.Common.{◌≡◌, ◌≢◌, ◌+◌, ◌-◌, ◌<◌, ◌≤◌, Some, [], ◌∷◌, ◌++◌, List, ℕ, length, ap, sym, arith, rules, length-append, ◌∙◌, eqb-true, eq-eqb}
use Rattle.std.proofs.lemmas.Bool.{false≢true}
use Rattle.std.specs.Prelude.{slice_range, take}
use Rattle.sctp_association.proofs.Reporting.{joined_full, joined_more, length_padded, none_if, params_next, params_none, params_over, some_if, told_within}
use Rattle.sctp_association.proofs.association.Association.reported_in.Goals as goal
use Rattle.sctp_association.proofs.association.Association.reported_in.Goals.{else-loop-seen-test, then-loop-seen-test+in_default}
use Rattle.sctp_association.proofs.association.Association.reported_in.Goals.{then-loop-seen-test+in-Some+then-param-padding}
use Rattle.sctp_association.specs.Reports.{if_some, joined, most_reported, padded, params_told, told_params}
use Rattle.sctp_handshake.specs.InitValues.{told_from}
use Rattle.sctp_util.specs.Padding.{padding_of}

pub slice_bounds-param-count : goal.slice_bounds-param-count
slice_bounds-param-count c = (told_within (length c.args.value.now) c.args.value.now c.loop-seen.from c.in-Some.one (sym c.in-Some.ensures)).0

pub slice_bounds-param-start : goal.slice_bounds-param-start
slice_bounds-param-start c =
    let within = told_within (length c.args.value.now) c.args.value.now c.loop-seen.from c.in-Some.one (sym c.in-Some.ensures) in
    omega (arith, within.0, within.1)

pub slice_bounds-param-end : goal.slice_bounds-param-end
slice_bounds-param-end c = (told_within (length c.args.value.now) c.args.value.now c.loop-seen.from c.in-Some.one (sym c.in-Some.ensures)).1

pub loop-seen-preserved : goal.loop-seen-preserved
loop-seen-preserved c =
    let value = c.args.value.now in
    let raw = c.loop-seen.raw.items in
    let most = c.most_reported-most.result in
    let p : List ℕ = slice_range value c.in-Some.one.from c.in-Some.one.to in
    let later = told_params (length value - (c.loop-seen._seen + 1)) value c.in-Some.one.next in
    let found : told_from (length value) value c.loop-seen.from ≡ Some c.in-Some.one = sym c.in-Some.ensures in
    let padding : c.get_padding_size-padding.result ≡ padding_of (length raw) = search rules in
    let room : length p + padding_of (length raw) ≤ most - length raw = search rules in
    let items : c.extend_from_slice-in-loop-seen.new.self.items ≡ padded raw ++ p = c.in_ok-extend_from_slice-2.ensures.ok
    ∙ ap (λ (l : List ℕ). l ++ p) (c.in_ok-extend_from_slice.ensures.ok ∙ ap (λ n. raw ++ take n (0 ∷ 0 ∷ 0 ∷ [])) padding) in
    record {
      fits = omega (arith, ap (λ (l : List ℕ). length l) items, length-append (padded raw) p, length_padded raw, room, c.loop-seen.invariant.fits);
      same = ap (λ (l : List ℕ). joined most l later) items ∙ sym (joined_more most raw p later room)
          ∙ sym (ap (λ ps. joined most raw ps) (params_next value c.loop-seen.from c.loop-seen._seen c.in-Some.one (omega arith) found))
          ∙ c.loop-seen.invariant.same;
    }

pub returns-then-is_empty : goal.returns-then-is_empty
unfolding params_told
returns-then-is_empty c =
    let value = c.args.value.now in
    let raw = c.loop-seen.raw.items in
    let most = c.most_reported-most.result in
    let end : joined most raw (told_params (length value - c.loop-seen._seen) value c.loop-seen.from) ≡ raw = elim c.loop-seen-test.branch [
      | else-loop-seen-test w ↦ ap (λ ps. joined most raw ps) (params_none value c.loop-seen.from (length value - c.loop-seen._seen) (omega arith))
      | then-loop-seen-test+in_default w ↦ ap (λ ps. joined most raw ps)
          (params_over value c.loop-seen.from (length value - c.loop-seen._seen) (sym w.first_from.ensures ∙ w.in_default.is))
      | then-loop-seen-test+in-Some+then-param-padding w ↦
          let p : List ℕ = slice_range value w.in-Some.one.from w.in-Some.one.to in
          let full : most - length raw < length p + padding_of (length raw) = search rules in
          ap (λ ps. joined most raw ps) (params_next value c.loop-seen.from c.loop-seen._seen w.in-Some.one (omega arith) (sym w.in-Some.ensures))
          ∙ joined_full most raw p _ full
    ] in
    let all : joined (most_reported c.args.self.now.config.mtu) [] (told_params (length value) value 16) ≡ raw =
    ap (λ m. joined m [] (told_params (length value) value 16)) (sym c.most_reported-most.ensures.value) ∙ sym c.loop-seen.invariant.same ∙ end in
    sym (ap if_some all ∙ none_if raw (eqb-true _ _ (sym c.is_empty.ensures ∙ c.if-is_empty.true)))

pub returns : goal.returns
unfolding params_told
returns c =
    let value = c.args.value.now in
    let raw = c.loop-seen.raw.items in
    let most = c.most_reported-most.result in
    let end : joined most raw (told_params (length value - c.loop-seen._seen) value c.loop-seen.from) ≡ raw = elim c.loop-seen-test.branch [
      | else-loop-seen-test w ↦ ap (λ ps. joined most raw ps) (params_none value c.loop-seen.from (length value - c.loop-seen._seen) (omega arith))
      | then-loop-seen-test+in_default w ↦ ap (λ ps. joined most raw ps)
          (params_over value c.loop-seen.from (length value - c.loop-seen._seen) (sym w.first_from.ensures ∙ w.in_default.is))
      | then-loop-seen-test+in-Some+then-param-padding w ↦
          let p : List ℕ = slice_range value w.in-Some.one.from w.in-Some.one.to in
          let full : most - length raw < length p + padding_of (length raw) = search rules in
          ap (λ ps. joined most raw ps) (params_next value c.loop-seen.from c.loop-seen._seen w.in-Some.one (omega arith) (sym w.in-Some.ensures))
          ∙ joined_full most raw p _ full
    ] in
    let all : joined (most_reported c.args.self.now.config.mtu) [] (told_params (length value) value 16) ≡ raw =
    ap (λ m. joined m [] (told_params (length value) value 16)) (sym c.most_reported-most.ensures.value) ∙ sym c.loop-seen.invariant.same ∙ end in
    let some : length raw ≢ 0 = λ e. false≢true (sym c.if-is_empty.false ∙ c.is_empty.ensures ∙ eq-eqb _ _ e) in
    ap Some c.in_ok-freeze.ensures.ok ∙ sym (ap if_some all ∙ some_if raw (omega arith))
