use Rattle.std.proofs.Common.{ap, sym, ◌∙◌, ◌++◌, ◌∷◌, [], map}
use Rattle.std.specs.Prelude.{find}
use Rattle.std.proofs.lemmas.List.{map-append}
use Rattle.sctp_link.specs.declared.progress.StreamProgress.{StreamProgress}
use Rattle.sctp_link.specs.Progress.{Standing, standing_of, number, has_number}
use Rattle.sctp_link.proofs.standings.Kept.{absent-shown}
use Rattle.sctp_link.proofs.progress.Progress.open.Goals as goal

pub push-requires : goal.push-requires
push-requires c =
    let h = c.self.inside in
    absent-shown h.numbers h.streams.items c.self.invariant c.args.stream (ap (find (has_number c.args.stream)) c.self.view_is ∙ c.requires)

pub invariant_of-self-2 : goal.invariant_of-self-2
invariant_of-self-2 c =
    let h = c.self.inside in
    let p : StreamProgress = c.new.result in
    let put = c.put.ensures.items ∙ ap (λ xs. xs ++ p ∷ []) c.reserve.ensures.items in
    c.in_ok-push.ensures.ok
    ∙ ap (λ ns. ns ++ c.args.stream ∷ []) c.self.invariant
    ∙ ap (λ n. map (λ (x : StreamProgress). x.number) h.streams.items ++ n ∷ []) (sym (ap number c.new.ensures))
    ∙ sym (map-append (λ (x : StreamProgress). x.number) h.streams.items (p ∷ []))
    ∙ ap (map (λ (x : StreamProgress). x.number)) (sym put)

pub returns-clause-ok : goal.returns-clause-ok
returns-clause-ok c =
    let h = c.self.inside in
    let p : StreamProgress = c.new.result in
    let put = c.put.ensures.items ∙ ap (λ xs. xs ++ p ∷ []) c.reserve.ensures.items in
    rw (← c.self.view_is)
    (ap (map standing_of) put ∙ map-append standing_of h.streams.items (p ∷ [])
    ∙ ap (λ (z : Standing). map standing_of h.streams.items ++ z ∷ []) c.new.ensures)
