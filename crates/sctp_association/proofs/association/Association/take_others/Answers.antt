use Rattle.std.proofs.Common.{◌≡◌, ℕ, Ok, ap, arith, inl, inr, length, refl, rules, subst, sym, ◌∙◌}
use Rattle.std.proofs.lemmas.Bool.{false≢true}
use Rattle.sctp_association.proofs.Each.{data_counts, none_left, one_less, owed_at, owed_first, owed_next, owed_none, owed_passed, owed_refused, owed_stop}
use Rattle.sctp_association.proofs.Each.{tagged}
use Rattle.sctp_association.proofs.Arrived.{arrives_of}
use Rattle.sctp_association.proofs.Paths.{move_at, move_next, move_none, move_noted, move_passed, move_refused, move_stop, owed_move}
use Rattle.sctp_association.proofs.Sacks.{owed_sack, sack_at, sack_next, sack_none, sack_noted, sack_passed, sack_refused, sack_stop}
use Rattle.sctp_association.proofs.Sacks.{sacks_tagged}
use Rattle.sctp_association.specs.Once.{none_seen, seen}
use Rattle.sctp_association.specs.Halves.{halves_of}
use Rattle.sctp_util.specs.Field.{u32_at}
use Rattle.sctp_association.proofs.Offered.{offered_same, offered_then}
use Rattle.sctp_association.proofs.Telling.{tells_same, tells_then}
use Rattle.sctp_association.proofs.Carrying.{next_own}
use Rattle.sctp_association.proofs.Walks.{no_echo, to_cut, to_next, to_over, to_seen, walks_next, walks_none, walks_over, walks_seen, walks_stop, walks_unread}
use Rattle.sctp_association.proofs.Coming.{if_ok}
use Rattle.sctp_association.specs.Parts.{WalksTo}
use Rattle.sctp_association.specs.Walks.{OtherOn, Walks}
use Rattle.sctp_association.proofs.Ends.{ended_first, ended_next, ended_same, ended_stop}
use Rattle.sctp_association.specs.Ends.{EndsOn}
use Rattle.sctp_association.specs.declared.association.Association.{Association}
use Rattle.sctp_association.specs.declared.association.arrivals.Step.TheVariants.{Cut, Next, Refused, Stop}
use Rattle.sctp_association.proofs.association.Association.take_others.Goals as goal

pub loop-init : goal.loop-init
loop-init c = record {
  bytes = refl;
  own = c.requires.own;
  came = offered_same _ _ _ refl;
  tells = tells_same _ _ refl;
  each = owed_first _ _ _ _;
  sacks = λ other takes. owed_sack _ _ _ _ _ _ c.behind-once.ensures other takes;
  path = λ takes all. owed_move c.header-tag.result.verification_tag c.args.datagram.now c.args.now _ _ _ _ c.behind-once.ensures takes all;
  count = omega arith;
  idle = λ e. refl;
  over = ended_first c.args.datagram.now c.args.self.now;
  walks = λ last h. walks_seen c.header-tag.result.verification_tag c.args.datagram.now c.args.now _ _ _ _ last c.behind-once.ensures h;
  in_part = λ last h. to_seen c.header-tag.result.verification_tag c.args.datagram.now c.args.now _ _ _ _ last c.behind-once.ensures h;
}

pub loop-preserved-then-not-counts : goal.loop-preserved-then-not-counts
loop-preserved-then-not-counts c = record {
  bytes = c.next.ensures.bytes ∙ c.loop.invariant.bytes;
  own = (next_own _ _ _ _ c.in-Some.ensures.place c.loop.invariant.own).1;
  came = c.loop.invariant.came;
  tells = c.loop.invariant.tells;
  each = λ takes. owed_passed c.header-tag.result.verification_tag c.args.datagram.now c.in-Some.chunk c.next.new.self.left c.loop.self c.loop.self
      c.args.chunks.left c.args.self.now (data_counts c.in-Some.chunk c.loop.once (sym c.if-not-counts.ensures.value)) refl (
      owed_at _ _ _ _ _ _ _ c.in-Some.ensures.place (c.loop.invariant.each takes)
      );
  sacks = λ other takes. sack_noted _ _ _ _ _ _ (seen c.in-Some.chunk.typ c.loop.once) _ c.if-not-counts.ensures.noted (
      sack_passed c.header-tag.result.verification_tag c.args.datagram.now c.in-Some.chunk c.next.new.self.left c.loop.self c.args.chunks.left
      (halves_of c.args.self.now) c.loop.once (sym c.if-not-counts.ensures.value)
      (sack_at _ _ _ _ _ _ _ _ c.in-Some.ensures.place (c.loop.invariant.sacks other takes)));
  path = λ takes all. move_noted c.header-tag.result.verification_tag c.args.datagram.now c.args.now _ _ c.next.new.self.left c.loop.self
      (seen c.in-Some.chunk.typ c.loop.once) _ c.if-not-counts.ensures.noted (
      move_passed c.header-tag.result.verification_tag c.args.datagram.now c.args.now _ _ c.in-Some.chunk c.next.new.self.left c.loop.self c.loop.once
      (sym c.if-not-counts.ensures.value)
      (move_at c.header-tag.result.verification_tag c.args.datagram.now c.args.now _ _ _ _ _ _ c.in-Some.ensures.place (c.loop.invariant.path takes all)));
  count = one_less _ _ _ _ _ c.in-Some.ensures.place c.loop.invariant.count;
  idle = λ e. absurd (omega (arith, c.left-end.ensures, ap length e, c.loop-test.true));
  over = c.loop.invariant.over;
  walks = λ last h. c.loop.invariant.walks last (walks_over c.header-tag.result.verification_tag c.args.datagram.now c.args.now c.loop.once c.in-Some.chunk
      c.next.new.self.left _
      c.in-Some.ensures.place c.loop.self c.loop.self last (sym c.if-not-counts.ensures.value)
      (walks_seen c.header-tag.result.verification_tag c.args.datagram.now c.args.now _ _ _ _ last c.if-not-counts.ensures.noted h));
  in_part = λ last h. c.loop.invariant.in_part last (to_over c.header-tag.result.verification_tag c.args.datagram.now c.args.now c.loop.once c.in-Some.chunk
      c.next.new.self.left _
      c.in-Some.ensures.place c.loop.self c.loop.self last (sym c.if-not-counts.ensures.value)
      (to_seen c.header-tag.result.verification_tag c.args.datagram.now c.args.now _ _ _ _ last c.if-not-counts.ensures.noted h));
}

pub loop-preserved : goal.loop-preserved
loop-preserved c = record {
  bytes = c.next.ensures.bytes ∙ c.loop.invariant.bytes;
  own = (next_own _ _ _ _ c.in-Some.ensures.place c.loop.invariant.own).1;
  came = offered_then _ _ _ c.loop.invariant.came _ c.take_other.ensures.came;
  tells = tells_then _ _ _ c.loop.invariant.tells c.take_other.ensures.tells;
  each = λ takes. owed_next c.header-tag.result.verification_tag c.args.datagram.now c.in-Some.chunk c.next.new.self.left c.loop.self c.take_other.new.self
      c.args.chunks.left c.args.self.now (arrives_of _ _ _ _ c.take_other.ensures.came.arrives) c.take_other.result c.take_other.ensures.on
      (search rules) (owed_at _ _ _ _ _ _ _ c.in-Some.ensures.place (c.loop.invariant.each takes));
  sacks = λ other takes. sack_noted _ _ _ _ _ _ (seen c.in-Some.chunk.typ c.loop.once) _ c.if-not-counts.ensures.noted (
      sack_next c.header-tag.result.verification_tag c.args.datagram.now c.in-Some.chunk c.next.new.self.left c.loop.self c.take_other.new.self
      c.args.chunks.left (halves_of c.args.self.now) c.loop.once c.take_other.result (arrives_of _ _ _ _ c.take_other.ensures.came.arrives)
      c.take_other.ensures.sacks (search rules) (sack_at _ _ _ _ _ _ _ _ c.in-Some.ensures.place (c.loop.invariant.sacks other takes)));
  path = λ takes all. move_noted c.header-tag.result.verification_tag c.args.datagram.now c.args.now _ _ c.next.new.self.left c.take_other.new.self
      (seen c.in-Some.chunk.typ c.loop.once) _ c.if-not-counts.ensures.noted (
      move_next c.header-tag.result.verification_tag c.args.datagram.now c.args.now _ _ c.in-Some.chunk c.next.new.self.left c.loop.self c.loop.once
      c.take_other.new.self c.take_other.result
      c.take_other.ensures.sacks c.take_other.ensures.path (search rules) (sym c.if-not-counts.ensures.value)
      (move_at c.header-tag.result.verification_tag c.args.datagram.now c.args.now _ _ _ _ _ _ c.in-Some.ensures.place (c.loop.invariant.path takes all)));
  count = one_less _ _ _ _ _ c.in-Some.ensures.place c.loop.invariant.count;
  idle = λ e. absurd (omega (arith, c.left-end.ensures, ap length e, c.loop-test.true));
  over = ended_next _ c.args.self.now c.loop.self c.take_other.new.self c.in-Some.chunk (next_own _ _ _ _ c.in-Some.ensures.place c.loop.invariant.own).0
      c.loop.invariant.over
      (if_ok (λ s. EndsOn c.in-Some.chunk c.args.datagram.now s c.loop.self c.take_other.new.self) c.take_other.result Next
      (search rules) c.take_other.ensures.over);
  walks = λ last h. c.loop.invariant.walks last (walks_next c.header-tag.result.verification_tag c.args.datagram.now c.args.now c.loop.once c.in-Some.chunk
      c.next.new.self.left _
      c.in-Some.ensures.place c.loop.self c.take_other.new.self last (sym c.if-not-counts.ensures.value)
      (if_ok (λ s. OtherOn c.in-Some.chunk c.header-tag.result.verification_tag c.args.datagram.now c.args.now s c.loop.self c.take_other.new.self)
      c.take_other.result Next (search rules) c.take_other.ensures.walks)
      (walks_seen c.header-tag.result.verification_tag c.args.datagram.now c.args.now _ _ _ _ last c.if-not-counts.ensures.noted h));
  in_part = λ last h. c.loop.invariant.in_part last (to_next c.header-tag.result.verification_tag c.args.datagram.now c.args.now c.loop.once c.in-Some.chunk
      c.next.new.self.left _
      c.in-Some.ensures.place c.loop.self c.take_other.new.self last (sym c.if-not-counts.ensures.value)
      (if_ok (λ s. OtherOn c.in-Some.chunk c.header-tag.result.verification_tag c.args.datagram.now c.args.now s c.loop.self c.take_other.new.self)
      c.take_other.result Next (search rules) c.take_other.ensures.walks)
      (to_seen c.header-tag.result.verification_tag c.args.datagram.now c.args.now _ _ _ _ last c.if-not-counts.ensures.noted h));
}

-- no COOKIE-ECHO counts
pub take_other-requires-clause-counted : goal.take_other-requires-clause-counted
take_other-requires-clause-counted c is = no_echo c.in-Some.chunk.typ c.loop.once (sym c.if-not-counts.ensures.value) is

pub take_other-requires-clause-own : goal.take_other-requires-clause-own
take_other-requires-clause-own c = (next_own _ _ _ _ c.in-Some.ensures.place c.loop.invariant.own).0

pub returns-in-Ok-Cut : goal.returns-in-Ok-Cut
returns-in-Ok-Cut c = record {
  each = λ takes is. absurd (false≢true is);
  sacks = λ other takes is. absurd (false≢true is);
  path = λ takes is all. absurd (false≢true is);
  none = λ e. absurd (omega (arith, c.left-end.ensures, ap length e, c.loop-test.true));
  came = offered_then _ _ _ c.loop.invariant.came _ c.take_other.ensures.came;
  tells = tells_then _ _ _ c.loop.invariant.tells c.take_other.ensures.tells;
  over = ended_same _ c.args.self.now c.loop.self c.take_other.new.self c.loop.invariant.over (if_ok
      (λ s. EndsOn c.in-Some.chunk c.args.datagram.now s c.loop.self c.take_other.new.self) c.take_other.result Cut (search rules) c.take_other.ensures.over);
  walks = λ is. absurd (false≢true is);
  in_part =
      λ is. subst (λ (n : ℕ). WalksTo n c.args.datagram.now c.args.now (seen c.args.first none_seen) c.args.chunks.left c.args.self.now c.take_other.new.self)
      (c.header-tag.ensures.verification_tag ∙ ap (λ l. u32_at l 4) c.requires.whole)
      (c.loop.invariant.in_part c.take_other.new.self (to_cut c.header-tag.result.verification_tag c.args.datagram.now c.args.now c.loop.once
      c.in-Some.chunk c.next.new.self.left _ c.in-Some.ensures.place c.loop.self c.loop.self c.take_other.new.self (sym c.if-not-counts.ensures.value)
      (inr (if_ok (λ s. OtherOn c.in-Some.chunk c.header-tag.result.verification_tag c.args.datagram.now c.args.now s c.loop.self
      c.take_other.new.self) c.take_other.result Cut (search rules) c.take_other.ensures.walks))));
}

pub returns-in-Ok-Cut-2 : goal.returns-in-Ok-Cut-2
returns-in-Ok-Cut-2 c = record {
  each = λ takes is. absurd (false≢true is);
  sacks = λ other takes is. absurd (false≢true is);
  path = λ takes is all. absurd (false≢true is);
  none = λ e. absurd (omega (arith, c.left-end.ensures, ap length e, c.loop-test.true));
  came = offered_then _ _ _ c.loop.invariant.came _ c.take_other.ensures.came;
  tells = tells_then _ _ _ c.loop.invariant.tells c.take_other.ensures.tells;
  over = let same : c.take_other.new.self ≡ c.loop.self = search rules in
      ended_same _ c.args.self.now c.loop.self c.take_other.new.self c.loop.invariant.over (ap (λ (a : Association). a.is_over) same);
  walks = λ is. absurd (false≢true is);
  in_part = λ is. let same : c.take_other.new.self ≡ c.loop.self = search rules in
      subst (λ (n : ℕ). WalksTo n c.args.datagram.now c.args.now (seen c.args.first none_seen) c.args.chunks.left c.args.self.now c.take_other.new.self)
      (c.header-tag.ensures.verification_tag ∙ ap (λ l. u32_at l 4) c.requires.whole)
      (c.loop.invariant.in_part c.take_other.new.self (to_cut c.header-tag.result.verification_tag c.args.datagram.now c.args.now c.loop.once
      c.in-Some.chunk c.next.new.self.left _ c.in-Some.ensures.place c.loop.self c.loop.self c.take_other.new.self (sym c.if-not-counts.ensures.value)
      (inl same)));
}

pub returns-after-loop : goal.returns-after-loop
returns-after-loop c = record {
  each = λ takes is. inr (owed_none c.header-tag.result.verification_tag c.args.datagram.now c.loop.chunks.left c.args.chunks.left c.loop.self
      c.args.self.now (none_left _ _ _ _ c.loop.invariant.count c.left-end.ensures c.loop-test.false)
      (c.loop.invariant.each (tagged _ _ _ (c.header-tag.ensures.verification_tag ∙ ap (λ l. u32_at l 4) c.requires.whole) takes)));
  sacks = λ other takes is. inr (sack_none c.header-tag.result.verification_tag c.args.datagram.now c.loop.chunks.left c.args.chunks.left c.loop.self
      (halves_of c.args.self.now) c.loop.once (none_left _ _ _ _ c.loop.invariant.count c.left-end.ensures c.loop-test.false)
      (c.loop.invariant.sacks other (sacks_tagged _ _ _ (c.header-tag.ensures.verification_tag ∙ ap (λ l. u32_at l 4) c.requires.whole) takes)));
  path = λ takes is all. inr (move_none c.header-tag.result.verification_tag c.args.datagram.now c.args.now _ _ c.loop.chunks.left c.loop.self c.loop.once
      (none_left _ _ _ _ c.loop.invariant.count c.left-end.ensures c.loop-test.false) (c.loop.invariant.path
      (sacks_tagged _ _ _ (c.header-tag.ensures.verification_tag ∙ ap (λ l. u32_at l 4) c.requires.whole) takes) all));
  came = c.loop.invariant.came;
  tells = c.loop.invariant.tells;
  none = λ e. (refl, c.loop.invariant.idle e);
  over = ended_same _ c.args.self.now c.loop.self c.loop.self c.loop.invariant.over refl;
  walks = λ is. subst (λ (n : ℕ). Walks n c.args.datagram.now c.args.now (seen c.args.first none_seen) c.args.chunks.left c.args.self.now c.loop.self)
      (c.header-tag.ensures.verification_tag ∙ ap (λ l. u32_at l 4) c.requires.whole)
      (c.loop.invariant.walks c.loop.self (walks_none c.header-tag.result.verification_tag c.args.datagram.now c.args.now c.loop.once c.loop.chunks.left
      c.loop.self
      (none_left _ _ _ _ c.loop.invariant.count c.left-end.ensures c.loop-test.false)));
  in_part = λ is. absurd (false≢true (sym is));
}

pub returns-in_default : goal.returns-in_default
returns-in_default c = record {
  each = λ takes is. inr (owed_none c.header-tag.result.verification_tag c.args.datagram.now c.loop.chunks.left c.args.chunks.left c.loop.self
      c.args.self.now (search rules)
      (c.loop.invariant.each (tagged _ _ _ (c.header-tag.ensures.verification_tag ∙ ap (λ l. u32_at l 4) c.requires.whole) takes)));
  sacks = λ other takes is. inr (sack_none c.header-tag.result.verification_tag c.args.datagram.now c.loop.chunks.left c.args.chunks.left c.loop.self
      (halves_of c.args.self.now) c.loop.once (search rules)
      (c.loop.invariant.sacks other (sacks_tagged _ _ _ (c.header-tag.ensures.verification_tag ∙ ap (λ l. u32_at l 4) c.requires.whole) takes)));
  path = λ takes is all. inr (move_none c.header-tag.result.verification_tag c.args.datagram.now c.args.now _ _ c.loop.chunks.left c.loop.self c.loop.once
      (search rules) (c.loop.invariant.path
      (sacks_tagged _ _ _ (c.header-tag.ensures.verification_tag ∙ ap (λ l. u32_at l 4) c.requires.whole) takes) all));
  came = c.loop.invariant.came;
  tells = c.loop.invariant.tells;
  none = λ e. (refl, c.loop.invariant.idle e);
  over = ended_same _ c.args.self.now c.loop.self c.loop.self c.loop.invariant.over refl;
  walks = λ is. subst (λ (n : ℕ). Walks n c.args.datagram.now c.args.now (seen c.args.first none_seen) c.args.chunks.left c.args.self.now c.loop.self)
      (c.header-tag.ensures.verification_tag ∙ ap (λ l. u32_at l 4) c.requires.whole)
      (c.loop.invariant.walks c.loop.self (walks_none c.header-tag.result.verification_tag c.args.datagram.now c.args.now c.loop.once c.loop.chunks.left
      c.loop.self
      (search rules)));
  in_part = λ is. absurd (false≢true (sym is));
}

pub returns-in-Ok-Stop : goal.returns-in-Ok-Stop
returns-in-Ok-Stop c = record {
  each = λ takes is. owed_stop c.header-tag.result.verification_tag c.args.datagram.now c.in-Some.chunk c.next.new.self.left c.loop.self c.take_other.new.self
      c.args.chunks.left c.args.self.now (arrives_of _ _ _ _ c.take_other.ensures.came.arrives) c.take_other.result c.take_other.ensures.on
      (search rules) (owed_at _ _ _ _ _ _ _ c.in-Some.ensures.place
      (c.loop.invariant.each (tagged _ _ _ (c.header-tag.ensures.verification_tag ∙ ap (λ l. u32_at l 4) c.requires.whole) takes)));
  sacks = λ other takes is. sack_stop c.header-tag.result.verification_tag c.args.datagram.now c.in-Some.chunk c.next.new.self.left c.loop.self
      c.take_other.new.self c.args.chunks.left (halves_of c.args.self.now) c.loop.once c.take_other.result
      (arrives_of _ _ _ _ c.take_other.ensures.came.arrives) c.take_other.ensures.sacks (search rules)
      (sack_at _ _ _ _ _ _ _ _ c.in-Some.ensures.place (c.loop.invariant.sacks other
      (sacks_tagged _ _ _ (c.header-tag.ensures.verification_tag ∙ ap (λ l. u32_at l 4) c.requires.whole) takes)));
  path = λ takes is all. inl (move_stop c.header-tag.result.verification_tag c.args.datagram.now c.args.now _ _ c.in-Some.chunk c.next.new.self.left c.loop.self
      c.loop.once c.take_other.new.self
      c.take_other.result c.take_other.ensures.sacks c.take_other.ensures.path (search rules)
      (move_at c.header-tag.result.verification_tag c.args.datagram.now c.args.now _ _ _ _ _ _ c.in-Some.ensures.place (c.loop.invariant.path
      (sacks_tagged _ _ _ (c.header-tag.ensures.verification_tag ∙ ap (λ l. u32_at l 4) c.requires.whole) takes) all)));
  came = offered_then _ _ _ c.loop.invariant.came _ c.take_other.ensures.came;
  tells = tells_then _ _ _ c.loop.invariant.tells c.take_other.ensures.tells;
  none = λ e. absurd (omega (arith, c.left-end.ensures, ap length e, c.loop-test.true));
  over = ended_stop _ c.args.self.now c.loop.self c.take_other.new.self c.in-Some.chunk (next_own _ _ _ _ c.in-Some.ensures.place c.loop.invariant.own).0
      c.loop.invariant.over (if_ok (λ s. EndsOn c.in-Some.chunk c.args.datagram.now s c.loop.self c.take_other.new.self) c.take_other.result Stop
      (search rules) c.take_other.ensures.over);
  walks = λ is. subst (λ (n : ℕ). Walks n c.args.datagram.now c.args.now (seen c.args.first none_seen) c.args.chunks.left c.args.self.now c.take_other.new.self)
      (c.header-tag.ensures.verification_tag ∙ ap (λ l. u32_at l 4) c.requires.whole)
      (c.loop.invariant.walks c.take_other.new.self (walks_stop c.header-tag.result.verification_tag c.args.datagram.now c.args.now c.loop.once
      c.in-Some.chunk c.next.new.self.left _
      c.in-Some.ensures.place c.loop.self c.take_other.new.self c.take_other.new.self (sym c.if-not-counts.ensures.value)
      (if_ok (λ s. OtherOn c.in-Some.chunk c.header-tag.result.verification_tag c.args.datagram.now c.args.now s c.loop.self c.take_other.new.self)
      c.take_other.result Stop (search rules) c.take_other.ensures.walks)));
  in_part = λ is. absurd (false≢true (sym is));
}

pub returns-in-Ok-Refused : goal.returns-in-Ok-Refused
returns-in-Ok-Refused c = record {
  each = λ takes is.
      inr (owed_refused c.header-tag.result.verification_tag c.args.datagram.now c.in-Some.chunk c.next.new.self.left c.loop.self c.take_other.new.self
      c.args.chunks.left c.args.self.now (arrives_of _ _ _ _ c.take_other.ensures.came.arrives) c.take_other.result c.take_other.ensures.on
      (λ t going. c.take_other.ensures.never t going c.in-Ok-Refused.field-0-0 (c.in-Ok-Refused.is ∙ ap Ok c.in-Ok-Refused.field-0-is))
      (owed_at _ _ _ _ _ _ _ c.in-Some.ensures.place
      (c.loop.invariant.each (tagged _ _ _ (c.header-tag.ensures.verification_tag ∙ ap (λ l. u32_at l 4) c.requires.whole) takes))));
  sacks = λ other takes is. inr (sack_refused c.header-tag.result.verification_tag c.args.datagram.now c.in-Some.chunk c.next.new.self.left c.loop.self
      c.take_other.new.self c.args.chunks.left (halves_of c.args.self.now) c.loop.once c.take_other.result
      (arrives_of _ _ _ _ c.take_other.ensures.came.arrives) c.take_other.ensures.sacks
      (λ t going. c.take_other.ensures.never_sacks t going c.in-Ok-Refused.field-0-0 (c.in-Ok-Refused.is ∙ ap Ok c.in-Ok-Refused.field-0-is))
      (sack_at _ _ _ _ _ _ _ _ c.in-Some.ensures.place (c.loop.invariant.sacks other
      (sacks_tagged _ _ _ (c.header-tag.ensures.verification_tag ∙ ap (λ l. u32_at l 4) c.requires.whole) takes))));
  path = λ takes is all.
      move_refused c.header-tag.result.verification_tag c.args.datagram.now c.args.now _ _ c.in-Some.chunk c.next.new.self.left c.loop.self c.loop.once
      (λ t going. c.take_other.ensures.never_sacks t going c.in-Ok-Refused.field-0-0 (c.in-Ok-Refused.is ∙ ap Ok c.in-Ok-Refused.field-0-is))
      (move_at c.header-tag.result.verification_tag c.args.datagram.now c.args.now _ _ _ _ _ _ c.in-Some.ensures.place (c.loop.invariant.path
      (sacks_tagged _ _ _ (c.header-tag.ensures.verification_tag ∙ ap (λ l. u32_at l 4) c.requires.whole) takes) all));
  came = offered_then _ _ _ c.loop.invariant.came _ c.take_other.ensures.came;
  tells = tells_then _ _ _ c.loop.invariant.tells c.take_other.ensures.tells;
  none = λ e. absurd (omega (arith, c.left-end.ensures, ap length e, c.loop-test.true));
  over = ended_same _ c.args.self.now c.loop.self c.take_other.new.self c.loop.invariant.over
      (ap (λ (a : Association). a.is_over) (c.take_other.ensures.refused c.in-Ok-Refused.field-0-0 (c.in-Ok-Refused.is ∙ ap Ok c.in-Ok-Refused.field-0-is)));
  walks = λ is. subst (λ (n : ℕ). Walks n c.args.datagram.now c.args.now (seen c.args.first none_seen) c.args.chunks.left c.args.self.now c.take_other.new.self)
      (c.header-tag.ensures.verification_tag ∙ ap (λ l. u32_at l 4) c.requires.whole)
      (c.loop.invariant.walks c.take_other.new.self (walks_unread c.header-tag.result.verification_tag c.args.datagram.now c.args.now c.loop.once
      c.in-Some.chunk c.next.new.self.left _
      c.in-Some.ensures.place c.loop.self c.take_other.new.self c.take_other.new.self (sym c.if-not-counts.ensures.value)
      (if_ok (λ s. OtherOn c.in-Some.chunk c.header-tag.result.verification_tag c.args.datagram.now c.args.now s c.loop.self c.take_other.new.self)
      c.take_other.result (Refused c.in-Ok-Refused.field-0-0)
      (c.in-Ok-Refused.is ∙ ap Ok c.in-Ok-Refused.field-0-is) c.take_other.ensures.walks)));
  in_part = λ is. absurd (false≢true (sym is));
}
