use Rattle.std.proofs.Common.{Bool, ◌-◌, ap, arith, length, refl, subst, ◌∙◌}
use Rattle.sctp_association.proofs.Fewer.{data_same, fewer_from, fewer_same, fewer_then}
use Rattle.sctp_association.proofs.Counted.{none_same, none_then}
use Rattle.sctp_association.proofs.Congested.{each_new, each_none, each_then, news_by, news_held}
use Rattle.sctp_association.proofs.Idle.{waits_not}
use Rattle.sctp_association.proofs.Putting.{from_same, kept, nothing, out_then}
use Rattle.sctp_association.proofs.outbound.Outbound.put_new.Goals as goal
use Rattle.sctp_association.specs.Congested.{begun, path_of}
use Rattle.sctp_association.specs.declared.outbound.Outbound.{Outbound}
use Rattle.sctp_association.specs.Idle.{WaitsBehind}
use Rattle.sctp_sender.specs.Sender.{Transmission}

pub returns-then-not-begin_new-clause-made : goal.returns-then-not-begin_new-clause-made
returns-then-not-begin_new-clause-made c = kept _ _ _ _ c.begin_new.ensures.sender refl

pub returns-then-not-begin_new-clause-idle : goal.returns-then-not-begin_new-clause-idle
returns-then-not-begin_new-clause-idle c head short = record {
  sender = c.begin_new.ensures.sender;
  waiting = waits_not _ c.args.self.now.sender (c.begin_new.ensures.none c.if-not-begin_new.true);
}

pub returns-in_err-put_next-clause-made : goal.returns-in_err-put_next-clause-made
returns-in_err-put_next-clause-made c = from_same _ _ _ _ _ c.begin_new.ensures.sender c.put_next.ensures.made

pub returns-then-not-branch-clause-made : goal.returns-then-not-branch-clause-made
returns-then-not-branch-clause-made c = from_same _ _ _ _ _ c.begin_new.ensures.sender c.put_next.ensures.made

pub returns-then-not-branch-clause-idle : goal.returns-then-not-branch-clause-idle
returns-then-not-branch-clause-idle c head short =
    let held = c.in_ok-put_next.ensures.held c.if-not-branch.true in
    record {
      sender = ap (λ (o : Outbound). o.sender) held.0 ∙ c.begin_new.ensures.sender;
      waiting = λ _. subst (λ (t : Transmission). WaitsBehind (c.args.packet.now.limit - length c.args.packet.now.bytes) t) c.begin_new.ensures.sender
          (c.in_ok-put_next.ensures.none c.if-not-branch.true);
    }

pub loop-init : goal.loop-init
loop-init c = (refl, none_same _, (λ r. nothing _), omega arith, each_none _ _ _ refl, fewer_same _ _ _ _ refl refl)

pub loop-preserved : goal.loop-preserved
loop-preserved c = (
  c.put_timely.ensures.limit ∙ c.loop.invariant.0,
  none_then _ _ _ c.loop.invariant.1 c.put_timely.ensures.counts,
  out_then _ _ _ _ _ _ c.loop.invariant.2 c.put_timely.ensures.made,
  omega (arith, c.loop.invariant.3, c.put_timely.ensures.grows),
  each_then _ _ (path_of c.loop.self) _ c.loop.invariant.4 (each_new c.args.now _ _ c.put_timely.ensures.within),
  fewer_then _ _ _ _ _ _ c.loop.invariant.5 c.put_timely.ensures.fewer,
)

pub returns-in_err-put_timely-clause-made : goal.returns-in_err-put_timely-clause-made
returns-in_err-put_timely-clause-made c = from_same _ _ _ _ _ c.begin_new.ensures.sender (
    out_then _ _ _ _ _ _ c.put_next.ensures.made (out_then _ _ _ _ _ _ c.loop.invariant.2 c.put_timely.ensures.made)
    )

pub returns-in_err-put_timely-clause-grows : goal.returns-in_err-put_timely-clause-grows
returns-in_err-put_timely-clause-grows c = omega (arith, c.put_next.ensures.grows, c.loop.invariant.3, c.put_timely.ensures.grows)

pub returns-after-loop-clause-made : goal.returns-after-loop-clause-made
returns-after-loop-clause-made c =
    from_same _ _ _ _ _ c.begin_new.ensures.sender (out_then _ _ _ _ _ _ c.put_next.ensures.made c.loop.invariant.2)

pub returns-after-loop-clause-grows : goal.returns-after-loop-clause-grows
returns-after-loop-clause-grows c = omega (arith, c.put_next.ensures.grows, c.loop.invariant.3)

pub returns-after-loop-clause-idle : goal.returns-after-loop-clause-idle
returns-after-loop-clause-idle c head short =
    absurd (omega (arith, short, c.in_ok-put_next.ensures.put head c.if-not-branch.false, c.loop.invariant.3))

pub returns-then-not-branch-2-clause-made : goal.returns-then-not-branch-2-clause-made
returns-then-not-branch-2-clause-made c = from_same _ _ _ _ _ c.begin_new.ensures.sender (
    out_then _ _ _ _ _ _ c.put_next.ensures.made (out_then _ _ _ _ _ _ c.loop.invariant.2 c.put_timely.ensures.made)
    )

pub returns-then-not-branch-2-clause-grows : goal.returns-then-not-branch-2-clause-grows
returns-then-not-branch-2-clause-grows c = omega (arith, c.put_next.ensures.grows, c.loop.invariant.3, c.put_timely.ensures.grows)

pub returns-then-not-branch-2-clause-idle : goal.returns-then-not-branch-2-clause-idle
returns-then-not-branch-2-clause-idle c head short = absurd (omega (
  arith,
  short,
  c.in_ok-put_next.ensures.put head c.if-not-branch.false,
  c.loop.invariant.3,
  c.put_timely.ensures.grows,
))

pub returns-then-not-begin_new-clause-within : goal.returns-then-not-begin_new-clause-within
returns-then-not-begin_new-clause-within c = news_held c.args.now _ _ _ (
    c.begin_new.ensures.begins ∙ ap (λ (b : Bool). begun c.args.now c.args.self.now.rto b (path_of c.args.self.now)) c.if-not-begin_new.true
    )

pub returns-in_err-put_next-clause-within : goal.returns-in_err-put_next-clause-within
returns-in_err-put_next-clause-within c = news_by c.args.now _ _ (path_of c.begin_new.new.self) _ (c.begin_new.ensures.waits c.if-not-begin_new.false)
    (c.begin_new.ensures.clear c.if-not-begin_new.false) (
    c.begin_new.ensures.begins ∙ ap (λ (b : Bool). begun c.args.now c.args.self.now.rto b (path_of c.args.self.now)) c.if-not-begin_new.false
    ) (each_new c.args.now _ _ c.put_next.ensures.within)

pub returns-then-not-branch-clause-within : goal.returns-then-not-branch-clause-within
returns-then-not-branch-clause-within c = news_by c.args.now _ _ (path_of c.begin_new.new.self) _ (c.begin_new.ensures.waits c.if-not-begin_new.false)
    (c.begin_new.ensures.clear c.if-not-begin_new.false) (
    c.begin_new.ensures.begins ∙ ap (λ (b : Bool). begun c.args.now c.args.self.now.rto b (path_of c.args.self.now)) c.if-not-begin_new.false
    ) (each_new c.args.now _ _ c.put_next.ensures.within)

pub returns-in_err-put_timely-clause-within : goal.returns-in_err-put_timely-clause-within
returns-in_err-put_timely-clause-within c = news_by c.args.now _ _ (path_of c.begin_new.new.self) _ (c.begin_new.ensures.waits c.if-not-begin_new.false)
    (c.begin_new.ensures.clear c.if-not-begin_new.false) (
    c.begin_new.ensures.begins ∙ ap (λ (b : Bool). begun c.args.now c.args.self.now.rto b (path_of c.args.self.now)) c.if-not-begin_new.false
    ) (each_then _ _ (path_of c.put_next.new.self) _ (each_new c.args.now _ _ c.put_next.ensures.within)
    (each_then _ _ (path_of c.loop.self) _ c.loop.invariant.4 (each_new c.args.now _ _ c.put_timely.ensures.within)))

pub returns-after-loop-clause-within : goal.returns-after-loop-clause-within
returns-after-loop-clause-within c = news_by c.args.now _ _ (path_of c.begin_new.new.self) _ (c.begin_new.ensures.waits c.if-not-begin_new.false)
    (c.begin_new.ensures.clear c.if-not-begin_new.false) (
    c.begin_new.ensures.begins ∙ ap (λ (b : Bool). begun c.args.now c.args.self.now.rto b (path_of c.args.self.now)) c.if-not-begin_new.false
    ) (each_then _ _ (path_of c.put_next.new.self) _ (each_new c.args.now _ _ c.put_next.ensures.within) c.loop.invariant.4)

pub returns-then-not-branch-2-clause-within : goal.returns-then-not-branch-2-clause-within
returns-then-not-branch-2-clause-within c = news_by c.args.now _ _ (path_of c.begin_new.new.self) _ (c.begin_new.ensures.waits c.if-not-begin_new.false)
    (c.begin_new.ensures.clear c.if-not-begin_new.false) (
    c.begin_new.ensures.begins ∙ ap (λ (b : Bool). begun c.args.now c.args.self.now.rto b (path_of c.args.self.now)) c.if-not-begin_new.false
    ) (each_then _ _ (path_of c.put_next.new.self) _ (each_new c.args.now _ _ c.put_next.ensures.within)
    (each_then _ _ (path_of c.loop.self) _ c.loop.invariant.4 (each_new c.args.now _ _ c.put_timely.ensures.within)))

-- ## What can still leave

pub returns-then-not-begin_new-clause-fewer : goal.returns-then-not-begin_new-clause-fewer
returns-then-not-begin_new-clause-fewer c = fewer_same _ _ _ _
    (data_same c.args.self.now c.begin_new.new.self c.begin_new.ensures.sender c.begin_new.ensures.skip) refl

pub returns-in_err-put_next-clause-fewer : goal.returns-in_err-put_next-clause-fewer
returns-in_err-put_next-clause-fewer c = fewer_from _ _ _ _ _
    (data_same c.args.self.now c.begin_new.new.self c.begin_new.ensures.sender c.begin_new.ensures.skip) c.put_next.ensures.fewer

pub returns-then-not-branch-clause-fewer : goal.returns-then-not-branch-clause-fewer
returns-then-not-branch-clause-fewer c = fewer_from _ _ _ _ _
    (data_same c.args.self.now c.begin_new.new.self c.begin_new.ensures.sender c.begin_new.ensures.skip) c.put_next.ensures.fewer

pub returns-in_err-put_timely-clause-fewer : goal.returns-in_err-put_timely-clause-fewer
returns-in_err-put_timely-clause-fewer c = fewer_from _ _ _ _ _
    (data_same c.args.self.now c.begin_new.new.self c.begin_new.ensures.sender c.begin_new.ensures.skip)
    (fewer_then _ _ _ _ _ _ c.put_next.ensures.fewer (fewer_then _ _ _ _ _ _ c.loop.invariant.5 c.put_timely.ensures.fewer))

pub returns-after-loop-clause-fewer : goal.returns-after-loop-clause-fewer
returns-after-loop-clause-fewer c = fewer_from _ _ _ _ _
    (data_same c.args.self.now c.begin_new.new.self c.begin_new.ensures.sender c.begin_new.ensures.skip)
    (fewer_then _ _ _ _ _ _ c.put_next.ensures.fewer c.loop.invariant.5)

pub returns-then-not-branch-2-clause-fewer : goal.returns-then-not-branch-2-clause-fewer
returns-then-not-branch-2-clause-fewer c = fewer_from _ _ _ _ _
    (data_same c.args.self.now c.begin_new.new.self c.begin_new.ensures.sender c.begin_new.ensures.skip)
    (fewer_then _ _ _ _ _ _ c.put_next.ensures.fewer (fewer_then _ _ _ _ _ _ c.loop.invariant.5 c.put_timely.ensures.fewer))
