use Rattle.sctp_association.proofs.Above.{sends_above}
use Rattle.sctp_association.proofs.Running.{none_sent}
use Rattle.sctp_association.specs.Brought.{AddsOnly}
use Rattle.std.proofs.Common.{[], Bool, Ok, false, true, ◌||◌, ◌≡◌, ℕ, arith, refl, sym, ap, subst, ◌∙◌, inl, inr}
use Rattle.sctp_association.proofs.Fewer.{data_same}
use Rattle.sctp_association.proofs.Left.{dropped_few, lifetimes_same, owed_few, told_less}
use Rattle.sctp_association.proofs.Lows.{only_same, only_then, only_told, puts_same, puts_then, told_in}
use Rattle.sctp_association.proofs.Making.{dropped_in, dropped_on, none_dropped, started_on}
use Rattle.sctp_association.proofs.outbound.Outbound.abandon.Goals as goal
use Rattle.sctp_association.specs.declared.outbound.Outbound.{Outbound}
use Rattle.sctp_delivery.proofs.Dropped.{answered}
use Rattle.sctp_association.specs.Lows.{PutsAll, tells_drop_low}
use Rattle.sctp_association.specs.Most.{tells_some}
use Rattle.sctp_sender.specs.Drops.{with_lifetimes}
use Rattle.sctp_sender.specs.Sender.{Transmission}
use Rattle.sctp_sender.specs.Thresholds.{fell}

or-true : (b : Bool) → b || true ≡ true
or-true true = refl
or-true false = refl

pub loop-preserved : goal.loop-preserved
loop-preserved c =
    let drops = answered c.args.now c.loop.self.sender c.drop_expired.new.self (Ok c.in_ok-dropped.field-0) c.in_ok-dropped.ensures.run
    c.in_ok-dropped.ensures.run_of_one c.in_ok-dropped.ensures.run_any c.in_ok-dropped.ensures.run_few c.in_ok-dropped.ensures.tail
    c.in_ok-dropped.ensures.late c.in_ok-dropped.ensures.worn c.in_ok-dropped.ensures.released c.in_ok-dropped.ensures.none in
    let sent = dropped_on c.args.now c.in_ok-dropped.field-0 _ _ _ c.loop.invariant.1 drops in
    let may = sym c.may_drop.ensures ∙ c.if-not-may_drop.false in
    let few = dropped_few c.args.now c.in_ok-dropped.field-0 c.loop.self.sender c.drop_expired.new.self c.in_ok-dropped.ensures.run
    c.in_ok-dropped.ensures.tail c.in_ok-dropped.ensures.late c.in_ok-dropped.ensures.worn c.in_ok-dropped.ensures.none in
    let less = told_less c.in_ok-dropped.field-0 c.in-Some.dropped _ _ c.in-Some.is few.1 in
    let left = owed_few c.loop.self c.note_dropped.new.self c.drop_expired.new.self (tells_some c.in-Some.dropped) c.note_dropped.ensures.rest few.0 less in
    let all = dropped_in c.args.self.now c.loop.self c.note_dropped.new.self c.drop_expired.new.self _ c.loop.invariant.0 c.note_dropped.ensures.rest sent in
    let told = told_in c.args.now c.in_ok-dropped.field-0 c.in-Some.dropped c.in-Some.is c.loop.self.sender c.drop_expired.new.self
    c.in_ok-dropped.ensures.run c.in_ok-dropped.ensures.run_low c.in_ok-dropped.ensures.list_low in
    let one =
    dropped_on c.args.now c.in_ok-dropped.field-0 c.loop.self.sender c.loop.self.sender c.drop_expired.new.self (none_sent c.loop.self.sender) drops in
    let only = only_told c.in_ok-dropped.field-0 c.in-Some.dropped c.in-Some.is c.loop.self.sender c.drop_expired.new.self
    c.in_ok-dropped.ensures.run_low c.in_ok-dropped.ensures.list_low in
    let before = c.loop.invariant.3 in (
      all.0,
      all.1,
      λ h. absurd (none_dropped c.args.now c.args.self.now c.loop.self c.loop.invariant.2 may h),
      omega (arith, before, left),
      λ due. ap (λ (o : Outbound). o.is_skip_due) c.note_dropped.ensures.rest ∙ ap (λ (b : Bool). tells_some c.in-Some.dropped || b) (c.loop.invariant.4 due)
          ∙ or-true (tells_some c.in-Some.dropped),
      λ s h. c.note_dropped.ensures.low s (c.loop.invariant.5 s h),
      c.note_dropped.ensures.room ∙ c.loop.invariant.6,
      subst (λ (o : Outbound). PutsAll (λ s. fell s c.args.self.now.sender o.sender) c.args.low.now c.note_dropped.new.low) (sym c.note_dropped.ensures.rest)
          (puts_then c.args.self.now.sender c.loop.self.sender c.drop_expired.new.self (λ s. tells_drop_low s c.in-Some.dropped) c.args.low.now c.loop.low
          c.note_dropped.new.low told c.loop.invariant.7 c.loop.invariant.6 c.note_dropped.ensures.low c.note_dropped.ensures.told),
      subst (λ (o : Outbound). AddsOnly (λ s. fell s c.args.self.now.sender o.sender ≡ true) c.args.low.now c.note_dropped.new.low)
          (sym c.note_dropped.ensures.rest)
          (only_then c.args.self.now.sender c.loop.self.sender c.drop_expired.new.self (λ s. tells_drop_low s c.in-Some.dropped) c.args.low.now c.loop.low
          c.note_dropped.new.low (λ s. sends_above s [] c.args.self.now.sender c.loop.self.sender c.loop.invariant.1)
          (λ s. sends_above s [] c.loop.self.sender c.drop_expired.new.self one) only c.loop.invariant.8 c.note_dropped.ensures.only),
    )

pub returns-in-None-clause-dropped : goal.returns-in-None-clause-dropped
returns-in-None-clause-dropped c =
    let drops = answered c.args.now c.loop.self.sender c.drop_expired.new.self (Ok c.in_ok-dropped.field-0) c.in_ok-dropped.ensures.run
    c.in_ok-dropped.ensures.run_of_one c.in_ok-dropped.ensures.run_any c.in_ok-dropped.ensures.run_few c.in_ok-dropped.ensures.tail
    c.in_ok-dropped.ensures.late c.in_ok-dropped.ensures.worn c.in_ok-dropped.ensures.released c.in_ok-dropped.ensures.none in
    dropped_on c.args.now c.in_ok-dropped.field-0 _ _ _ c.loop.invariant.1 drops

pub returns-in-None-clause-early : goal.returns-in-None-clause-early
returns-in-None-clause-early c h =
    absurd (none_dropped c.args.now c.args.self.now c.loop.self c.loop.invariant.2 (sym c.may_drop.ensures ∙ c.if-not-may_drop.false) h)

pub returns-in_err-dropped-clause-early : goal.returns-in_err-dropped-clause-early
returns-in_err-dropped-clause-early c h =
    absurd (none_dropped c.args.now c.args.self.now c.loop.self c.loop.invariant.2 (sym c.may_drop.ensures ∙ c.if-not-may_drop.false) h)

pub returns-after-loop-clause-early : goal.returns-after-loop-clause-early
returns-after-loop-clause-early c h = inl (c.loop.invariant.2 h)

pub returns-then-not-may_drop-clause-dropped : goal.returns-then-not-may_drop-clause-dropped
returns-then-not-may_drop-clause-dropped c = started_on c.args.now _ _ _ c.loop.invariant.1 c.start.ensures

started_in : (now : ℕ) (a l : Outbound) (u : Transmission) → l ≡ a → u ≡ with_lifetimes now l.sender
    → record l { sender = u } ≡ record a { sender = with_lifetimes now a.sender }
started_in now a l u same e =
    ap (λ t. let y : Outbound = record l { sender = t } in y) e
    ∙ ap (λ (o : Outbound). let y : Outbound = record o { sender = with_lifetimes now o.sender } in y) same

pub returns-then-not-may_drop-clause-early : goal.returns-then-not-may_drop-clause-early
returns-then-not-may_drop-clause-early c h =
    inr (started_in c.args.now c.args.self.now c.loop.self c.start.new.sender (c.loop.invariant.2 h) c.start.ensures)

-- ## What can still leave

pub returns-in-None-clause-fewer : goal.returns-in-None-clause-fewer
returns-in-None-clause-fewer c =
    let few = dropped_few c.args.now c.in_ok-dropped.field-0 c.loop.self.sender c.drop_expired.new.self c.in_ok-dropped.ensures.run
    c.in_ok-dropped.ensures.tail c.in_ok-dropped.ensures.late c.in_ok-dropped.ensures.worn c.in_ok-dropped.ensures.none in
    let less = few.0 in
    let before = c.loop.invariant.3 in
    omega (arith, less, before)

pub returns-in_err-dropped-clause-fewer : goal.returns-in_err-dropped-clause-fewer
returns-in_err-dropped-clause-fewer c =
    let same = data_same c.loop.self (record c.loop.self { sender = c.drop_expired.new.self }) c.in_err-dropped.ensures.err refl in
    let before = c.loop.invariant.3 in
    omega (arith, same, before)

pub returns-then-not-may_drop-clause-fewer : goal.returns-then-not-may_drop-clause-fewer
returns-then-not-may_drop-clause-fewer c =
    let same = lifetimes_same c.args.now c.loop.self.sender c.start.new.sender c.start.ensures in
    let before = c.loop.invariant.3 in
    omega (arith, same, before)

-- ## What is told

pub returns-in-None-clause-told : goal.returns-in-None-clause-told
returns-in-None-clause-told c = puts_same c.args.self.now.sender c.loop.self.sender c.drop_expired.new.self _ _
    (ap (λ (t : Transmission). t.streams) (c.in_ok-dropped.ensures.none c.in-None.is)) c.loop.invariant.7

pub returns-in_err-dropped-clause-told : goal.returns-in_err-dropped-clause-told
returns-in_err-dropped-clause-told c = puts_same c.args.self.now.sender c.loop.self.sender c.drop_expired.new.self _ _
    (ap (λ (t : Transmission). t.streams) c.in_err-dropped.ensures.err) c.loop.invariant.7

pub returns-then-not-may_drop-clause-told : goal.returns-then-not-may_drop-clause-told
returns-then-not-may_drop-clause-told c = puts_same c.args.self.now.sender c.loop.self.sender c.start.new.sender _ _
    (ap (λ (t : Transmission). t.streams) c.start.ensures) c.loop.invariant.7

-- ## No other stream

pub returns-in-None-clause-only : goal.returns-in-None-clause-only
returns-in-None-clause-only c = only_same c.args.self.now.sender c.loop.self.sender c.drop_expired.new.self _ _
    (ap (λ (t : Transmission). t.streams) (c.in_ok-dropped.ensures.none c.in-None.is)) c.loop.invariant.8

pub returns-in_err-dropped-clause-only : goal.returns-in_err-dropped-clause-only
returns-in_err-dropped-clause-only c = only_same c.args.self.now.sender c.loop.self.sender c.drop_expired.new.self _ _
    (ap (λ (t : Transmission). t.streams) c.in_err-dropped.ensures.err) c.loop.invariant.8

pub returns-then-not-may_drop-clause-only : goal.returns-then-not-may_drop-clause-only
returns-then-not-may_drop-clause-only c = only_same c.args.self.now.sender c.loop.self.sender c.start.new.sender _ _
    (ap (λ (t : Transmission). t.streams) c.start.ensures) c.loop.invariant.8
