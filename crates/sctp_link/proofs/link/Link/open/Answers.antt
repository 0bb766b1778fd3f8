use Rattle.sctp_link.proofs.Names.{◌≡◌, None, refl, ap, sym, ◌∙◌, subst, after_open, refusal_of, Sides, IsLinked, record_in, state_from, record_from, sides_in}
use Rattle.sctp_link.proofs.Names.{on-error, on-ok, stream_in, IsAligned, sides}
use Rattle.sctp_receiver.specs.Receiver as R
use Rattle.sctp_sender.specs.Sender as S
use Rattle.sctp_model.specs.declared.event.Event.TheVariants as E
use Rattle.sctp_link.proofs.sides.Opening.{no-progress, sender-undone, receiver-undone, opened-sides, opened-aligned, same-parts}
use Rattle.sctp_link.proofs.upkeep.Frames.{moved}
use Rattle.sctp_link.proofs.sender.Opening.{linked-open, new-number, streams-more}
use Rattle.sctp_link.proofs.link.Link.open.Given.{Over}
use Rattle.sctp_link.proofs.link.Link.open.Goals.{After-open, After-open-2, After-open-3, After-close, After-close-then-is_err-3-2}
use Rattle.sctp_link.proofs.link.Link.open.Goals as goal

-- The stream is not open.
closed : (g : Over) (c : After-open g) → stream_in c.args.stream (sides_in c.self.inside) ≡ None
closed g c =
    let ok : refusal_of (record_in c.self.inside) (E.Open c.args.stream) ≡ None = rw (← c.self.view_is) at c.requires in
    new-number c.self.invariant.1 c.args.stream ok refl

-- The sender has it, and the receiver too.
sent : (g : Over) (c : After-open-2 g) → c.open.new.self ≡ S.open_stream c.args.stream c.self.inside.sender
sent g c = on-ok c.open.result c.is_err.result c.is_err.ensures.value c.if-is_err.false c.open.ensures.ok

received : (g : Over) (c : After-open-3 g) → c.open-2.new.self ≡ R.open_stream c.args.stream c.self.inside.receiver
received g c = on-ok c.open-2.result c.is_err-2.result c.is_err-2.ensures.value c.if-is_err-2.false c.open-2.ensures.ok

pub open-requires-3 : goal.open-requires-3
open-requires-3 g c = no-progress c.self.invariant.0 c.args.stream (closed g (goal.at.open-requires-3 g c).After-open)

-- Where the receiver refuses each part is what it was.
undone : (g : Over) (c : After-close g) → stream_in c.args.stream (sides_in c.self.inside) ≡ None
    → c.open.new.self ≡ S.open_stream c.args.stream c.self.inside.sender → IsAligned c.close.new.self c.open-2.new.self c.self.inside.progress
    × (sides c.close.new.self c.open-2.new.self c.self.inside.progress ≡ sides_in c.self.inside)
undone g c none sent =
    same-parts c.close.new.self c.open-2.new.self c.self.inside.progress
    (sender-undone c.self.invariant.0 c.args.stream none c.close.new.self (c.close.ensures ∙ ap (S.close_stream c.args.stream) sent))
    (on-error c.open-2.result c.is_err-2.result c.is_err-2.ensures.value c.if-is_err-2.true c.open-2.ensures.err) refl c.self.invariant.0

pub invariant_of-self-then-is_err-2 : goal.invariant_of-self-then-is_err-2
invariant_of-self-then-is_err-2 g c =
    let p = goal.at.invariant_of-self-then-is_err-2 g c in
    let u = undone g p.After-close (closed g p.After-open) (sent g p.After-open-2) in
    (u.0, subst (λ (y : Sides). IsLinked (g.C.Checksum.sum c.self.inside.checksum) (state_from y c.self.inside)) (sym u.1) c.self.invariant.1)

pub returns-then-is_err-2-clause-err : goal.returns-then-is_err-2-clause-err
returns-then-is_err-2-clause-err g c =
    let p = goal.at.returns-then-is_err-2-clause-err g c in
    let u = undone g p.After-close (closed g p.After-open) (sent g p.After-open-2) in
    rw (← c.self.view_is) (ap (λ (y : Sides). record_from y c.self.inside) u.1)

-- So where the progress has no room.
undone-both : (g : Over) (c : After-close-then-is_err-3-2 g) → stream_in c.args.stream (sides_in c.self.inside) ≡ None
    → c.open.new.self ≡ S.open_stream c.args.stream c.self.inside.sender → c.open-2.new.self ≡ R.open_stream c.args.stream c.self.inside.receiver
    → IsAligned c.close-then-is_err-3-2.new.self c.close-then-is_err-3.new.self c.open-3.new.self
    × (sides c.close-then-is_err-3-2.new.self c.close-then-is_err-3.new.self c.open-3.new.self ≡ sides_in c.self.inside)
undone-both g c none sent received =
    let s = c.args.stream in
    same-parts c.close-then-is_err-3-2.new.self c.close-then-is_err-3.new.self c.open-3.new.self (sender-undone c.self.invariant.0 s none
    c.close-then-is_err-3-2.new.self (c.close-then-is_err-3-2.ensures ∙ ap (S.close_stream s) sent))
    (receiver-undone c.self.invariant.0 s none c.close-then-is_err-3.new.self (c.close-then-is_err-3.ensures ∙ ap (R.close_stream s) received))
    (on-error c.open-3.result c.is_err-3.result c.is_err-3.ensures.value c.if-is_err-3.true c.open-3.ensures.err) c.self.invariant.0

pub invariant_of-self-then-is_err-3 : goal.invariant_of-self-then-is_err-3
invariant_of-self-then-is_err-3 g c =
    let p = goal.at.invariant_of-self-then-is_err-3 g c in
    let u = undone-both g p.After-close-then-is_err-3-2 (closed g p.After-open) (sent g p.After-open-2) (received g p.After-open-3) in
    (u.0, subst (λ (y : Sides). IsLinked (g.C.Checksum.sum c.self.inside.checksum) (state_from y c.self.inside)) (sym u.1) c.self.invariant.1)

pub returns-then-is_err-3-clause-err : goal.returns-then-is_err-3-clause-err
returns-then-is_err-3-clause-err g c =
    let p = goal.at.returns-then-is_err-3-clause-err g c in
    let u = undone-both g p.After-close-then-is_err-3-2 (closed g p.After-open) (sent g p.After-open-2) (received g p.After-open-3) in
    rw (← c.self.view_is) (ap (λ (y : Sides). record_from y c.self.inside) u.1)

pub invariant_of-self-else-is_err-3 : goal.invariant_of-self-else-is_err-3
invariant_of-self-else-is_err-3 g c =
    let p = goal.at.invariant_of-self-else-is_err-3 g c in
    let a = c.self.inside in
    let s = c.args.stream in
    let ok : refusal_of (record_in a) (E.Open s) ≡ None = rw (← c.self.view_is) at c.requires in
    let none = closed g p.After-open in
    let put = on-ok c.open-3.result c.is_err-3.result c.is_err-3.ensures.value c.if-is_err-3.false c.open-3.ensures.ok in
    let both = opened-sides c.self.invariant.0 s none c.open.new.self c.open-2.new.self c.open-3.new.self (sent g p.After-open-2)
    (received g p.After-open-3) put in (
      opened-aligned c.self.invariant.0 s none c.open.new.self c.open-2.new.self c.open-3.new.self (sent g p.After-open-2) (received g p.After-open-3) put,
      subst (λ (y : Sides). IsLinked (g.C.Checksum.sum a.checksum) (state_from y a)) (sym both)
          (moved _ _ (after_open (record_in a) s) (ap (λ rs. record (record_in a) { streams = rs })
          (streams-more s a.sender.fragment_size a.sender.max_message_size (sides_in a).streams)) (linked-open c.self.invariant.1 s ok refl)),
    )

pub returns-clause-ok : goal.returns-clause-ok
returns-clause-ok g c =
    let p = goal.at.returns-clause-ok g c in
    let a = c.self.inside in
    let s = c.args.stream in
    let put = on-ok c.open-3.result c.is_err-3.result c.is_err-3.ensures.value c.if-is_err-3.false c.open-3.ensures.ok in
    rw (← c.self.view_is) (record {
      right = refl;
      moves = ap (λ (y : Sides). record_from y a) (opened-sides c.self.invariant.0 s (closed g p.After-open) c.open.new.self c.open-2.new.self c.open-3.new.self
          (sent g p.After-open-2) (received g p.After-open-3) put)
          ∙ ap (λ rs. record (record_in a) { streams = rs }) (streams-more s a.sender.fragment_size a.sender.max_message_size (sides_in a).streams);
    })
