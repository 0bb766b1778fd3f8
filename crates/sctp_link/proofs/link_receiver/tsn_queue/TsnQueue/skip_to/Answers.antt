use Rattle.std.proofs.Common.{◌≡◌, ap, sym, ◌∙◌, true, false}
use Rattle.std.specs.Prelude.{if◌then◌else◌}
use Rattle.sctp_util.specs.Serial.{comes_before}
use Rattle.sctp_receiver.specs.TsnFilter.{skipped_to}
use Rattle.sctp_link.specs.Tsns.{Kept}
use Rattle.sctp_link.proofs.tsns.QueueCalls.{after-skip, skip-placeholders}
use Rattle.sctp_link.proofs.link_receiver.tsn_queue.TsnQueue.skip_to.Goals as goal

pub returns-then-not-sna32lt-clause-value : goal.returns-then-not-sna32lt-clause-value
returns-then-not-sna32lt-clause-value c =
    let f = c.args.self.now.filter in
    let late : comes_before f.cumulative_tsn c.args.tsn ≡ false = rw (← c.self.view_is) (sym c.sna32lt.ensures ∙ c.if-not-sna32lt.true) in
    sym (ap (λ b. if b then skipped_to c.args.tsn f else f) late)

pub invariant_of-self : goal.invariant_of-self
invariant_of-self c =
    let i = c.self.invariant in
    let before : comes_before c.self.inside.cumulative_tsn c.args.tsn ≡ true = sym c.sna32lt.ensures ∙ c.if-not-sna32lt.false in
    let a = after-skip c.self.inside.cumulative_tsn c.self.inside.queue c.advance-self-inside.new.queue c.advance-self-inside.result
    c.args.self.now.filter (ap (λ (k : Kept). k.filter) c.self.view_is) i.in_range i.placeholders i.rise c.args.tsn c.ranges.tsn.fits before
    c.pop_up_to.new.self c.pop_up_to.ensures c.advance-self-inside.ensures.moved c.advance-self-inside.ensures.rest in
    record {
      in_range = a.0.small;
      placeholders = c.advance-self-inside.ensures.placeholders (skip-placeholders c.self.inside.cumulative_tsn c.self.inside.queue
          c.advance-self-inside.new.queue c.advance-self-inside.result c.args.self.now.filter (ap (λ (k : Kept). k.filter) c.self.view_is) i.in_range
          i.placeholders i.rise c.args.tsn c.ranges.tsn.fits before c.pop_up_to.new.self c.pop_up_to.ensures);
      rise = a.0.rise;
    }

pub returns-clause-value : goal.returns-clause-value
returns-clause-value c =
    let i = c.self.invariant in
    let f = c.args.self.now.filter in
    let before : comes_before c.self.inside.cumulative_tsn c.args.tsn ≡ true = sym c.sna32lt.ensures ∙ c.if-not-sna32lt.false in
    let early : comes_before f.cumulative_tsn c.args.tsn ≡ true = rw (← c.self.view_is) before in
    (after-skip c.self.inside.cumulative_tsn c.self.inside.queue c.advance-self-inside.new.queue c.advance-self-inside.result f
    (ap (λ (k : Kept). k.filter) c.self.view_is) i.in_range i.placeholders i.rise c.args.tsn c.ranges.tsn.fits before c.pop_up_to.new.self
    c.pop_up_to.ensures c.advance-self-inside.ensures.moved c.advance-self-inside.ensures.rest).1
    ∙ sym (ap (λ b. if b then skipped_to c.args.tsn f else f) early)
