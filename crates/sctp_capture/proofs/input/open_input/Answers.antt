use Rattle.std.proofs.Common.{sym, ◌∙◌}
use Rattle.sctp_capture.proofs.Heads.{opened_capture, opened_lines, opened_blocks, opened_other, kind_is_long}
use Rattle.sctp_capture.specs.Kind.{IsNoOther}
use Rattle.sctp_capture.proofs.input.open_input.Goals as goal

pub returns-in-Some-clause-opens : goal.returns-in-Some-clause-opens
returns-in-Some-clause-opens g c = opened_capture _ (g.R.Read.remaining c.fill.new.self.reader) _ c.fill.new.self.held.items c.in-Some.head c.in_ok-fill.ensures.keeps
    (rw c.held.ensures at c.in-Some.ensures.some) c.advance.ensures.drops

pub returns-then-begins_blocks-clause-opens : goal.returns-then-begins_blocks-clause-opens
returns-then-begins_blocks-clause-opens g c = opened_blocks _ (g.R.Read.remaining c.fill.new.self.reader) c.fill.new.self.held.items c.in_ok-fill.ensures.keeps
    c.in_ok-fill.ensures.full (rw c.held.ensures at c.in-None.ensures.none)
    (rw c.held-in-None.ensures at (c.begins_blocks.ensures.yes c.if-begins_blocks.true))

pub returns-in_default-clause-opens : goal.returns-in_default-clause-opens
returns-in_default-clause-opens g c =
    let answered = rw c.held-in-None-2.ensures at c.other_kind.ensures.long in
    let other : IsNoOther c.fill.new.self.held.items = λ long. sym (answered long) ∙ c.in_default.is in
    opened_lines _ (g.R.Read.remaining c.fill.new.self.reader) c.fill.new.self.held.items c.in_ok-fill.ensures.keeps c.in_ok-fill.ensures.full
    (rw c.held.ensures at c.in-None.ensures.none)
    (rw c.held-in-None.ensures at (c.begins_blocks.ensures.no c.if-begins_blocks.false)) other

pub returns-in-Some-other_kind-clause-fault : goal.returns-in-Some-other_kind-clause-fault
returns-in-Some-other_kind-clause-fault g c =
    let kind = c.in-Some-other_kind.kind in
    let is = c.in-Some-other_kind.is in
    let four = kind_is_long c.fill.new.self.held.items c.other_kind.result kind (rw c.held-in-None-2.ensures at c.other_kind.ensures.short) is in
    let begins = rw c.held-in-None-2.ensures at c.other_kind.ensures.long in
    opened_other _ (g.R.Read.remaining c.fill.new.self.reader) c.fill.new.self.held.items kind c.in_ok-fill.ensures.keeps c.in_ok-fill.ensures.full
    (rw c.held.ensures at c.in-None.ensures.none) (rw c.held-in-None.ensures at (c.begins_blocks.ensures.no c.if-begins_blocks.false))
    four (sym (begins four) ∙ is)
