use Rattle.std.proofs.Common.{◌≡◌, ◌<◌, length, arith}
use Rattle.std.proofs.lemmas.Grind.{common_steps}
use Rattle.sctp_capture.specs.Record.{IsEntry}
use Rattle.sctp_capture.proofs.Entries.{entry_next, entry_none}
use Rattle.sctp_capture.proofs.record.next_entry.Goals as goal

pub returns-then-is_empty-clause-takes : goal.returns-then-is_empty-clause-takes
returns-then-is_empty-clause-takes g c =
    let none : length c.fill-2.new.self.held.items ≡ 0 = grind (arith, common_steps) in
    entry_none _ (g.R.Read.remaining c.fill.new.self.reader)
    (g.R.Read.remaining c.fill-2.new.self.reader) c.fill.new.self.held.items c.fill-2.new.self.held.items c.wanted_in-wanted.result
    c.in_ok-fill.ensures.keeps c.in_ok-fill-2.ensures.keeps c.in_ok-fill-2.ensures.full c.wanted_in-wanted.ensures.long none

pub returns-clause-takes : goal.returns-clause-takes
returns-clause-takes g c =
    let some : 0 < length c.fill-2.new.self.held.items = grind (arith, common_steps) in
    let is : IsEntry c.args.head.now c.fill-2.new.self.held.items c.in_ok-record.record = rw c.held-3.ensures at c.in_ok-record.ensures in
    entry_next c.args.head.now _ (g.R.Read.remaining c.fill.new.self.reader)
    (g.R.Read.remaining c.fill-2.new.self.reader) _ c.fill.new.self.held.items c.fill-2.new.self.held.items
    c.wanted_in-wanted.result c.span_in-span.result c.in_ok-record.record c.in_ok-fill.ensures.keeps c.in_ok-fill.ensures.full c.in_ok-fill-2.ensures.keeps
    c.in_ok-fill-2.ensures.full
    c.wanted_in-wanted.ensures.long (rw c.held.ensures at c.wanted_in-wanted.ensures.whole) some is (rw c.held-4.ensures at c.span_in-span.ensures.short)
    (rw c.held-4.ensures at c.span_in-span.ensures.whole) c.in_ok-skip.ensures.skips
