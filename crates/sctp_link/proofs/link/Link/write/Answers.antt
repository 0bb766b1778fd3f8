use Rattle.sctp_link.proofs.Names.{◌≡◌, ◌++◌, ◌∷◌, ◌+◌, [], length, rules, refl, ap, sym, subst, None, Some, ◌∙◌, arith, refusal_of, fragments_in}
use Rattle.sctp_link.proofs.Names.{IsRight, written_of, message_written, Written, Sides, IsAligned, sides, written_on, IsLinked, record_in, state_from}
use Rattle.sctp_link.proofs.Names.{record_from, sides_in, Inside, OpenStream, PayloadProtocolIdentifier, ℕ, List, ◌<◌, stream_in}
use Rattle.sctp_model.specs.declared.event.Event.TheVariants as E
use Rattle.sctp_model.specs.Reply as R
use Rattle.sctp_link.proofs.sides.Joined.{states-joined}
use Rattle.sctp_link.proofs.sides.Aligned.{alike}
use Rattle.sctp_link.proofs.sides.Changes.{only-memory, recorded, sender-has, state-is, ordered-answered, written-aligned, written-sides}
use Rattle.sctp_link.proofs.sender.WrittenLists.{some-bytes, write-on, fits-64, next-short, sender-takes, write-right, linked-wrote}
use Rattle.sctp_link.proofs.link.Link.write.Given.{Over}
use Rattle.sctp_link.proofs.link.Link.write.Goals.{After-fragments_in-count, After-push_reserved}
use Rattle.sctp_link.proofs.link.Link.write.Goals as goal

-- What the event meets: some bytes, and an open stream.
record Accepted {C : Type 0} (a : Inside C) (s : ℕ) (ppi : PayloadProtocolIdentifier) (bytes : List ℕ) : Type 0 where
  some : 0 < length bytes
  ok : refusal_of (record_in a) (E.Write s ppi bytes) ≡ None
  on : OpenStream
  found : stream_in s (sides_in a) ≡ Some on

accepted : (g : Over) (c : After-fragments_in-count g) → Accepted c.self.inside c.args.stream c.args.ppi c.args.bytes
accepted g c =
    let some = some-bytes c.args.bytes c.is_empty.result c.is_empty.ensures c.if-is_empty.false in
    let ok : refusal_of (record_in c.self.inside) (E.Write c.args.stream c.args.ppi c.args.bytes) ≡ None = rw (← c.self.view_is) at c.requires in
    let on = write-on c.self.invariant.1 c.args.stream c.args.ppi c.args.bytes some ok refl in
    record { some = some; ok = ok; on = on.0; found = on.1 }

pub unreachable-requires : goal.unreachable-requires
unreachable-requires g c =
    let w = accepted g (goal.at.unreachable-requires g c).After-fragments_in-count in
    let no : None ≡ Some w.on.state = c.in_default.ensures ∙ sender-has c.self.invariant.0 c.args.stream w.on w.found in
    cc

pub memory-requires : goal.memory-requires
memory-requires g c =
    let w = accepted g (goal.at.memory-requires g c).After-fragments_in-count in
    let states = sym (states-joined c.self.inside.sender.streams c.self.inside.receiver.streams c.self.inside.progress (alike c.self.invariant.0)) in
    only-memory c.in-Err.refusal _
    (sender-takes c.self.invariant.1 c.args.stream c.args.ppi c.args.bytes w.some w.ok refl w.on w.found c.self.inside.sender states
    refl refl) c.in-Err.ensures.refused

pub record_write-requires : goal.record_write-requires
record_write-requires g c =
    let w = accepted g (goal.at.record_write-requires g c).After-fragments_in-count in
    omega (
      arith,
      next-short c.self.invariant.1 c.args.stream c.args.ppi c.args.bytes w.some w.ok refl w.on w.found,
      ordered-answered c.self.invariant.0 c.args.stream w.on w.found,
    )

pub overflow_add-self-2 : goal.overflow_add-self-2
overflow_add-self-2 g c =
    let w = accepted g (goal.at.overflow_add-self-2 g c).After-fragments_in-count in
    omega (arith, fits-64 c.self.invariant.1 c.args.stream c.args.ppi c.args.bytes w.some w.ok refl c.len-len.result c.len-len.ensures.value)

-- What is then kept: the sides, the messages, and how many fragments there are.
record Wrote (g : Over) (c : After-push_reserved g) (on : OpenStream) : Type 0 where
  both : sides c.write.new.self c.self.inside.receiver c.record_write.new.self ≡ written_on on c.args.stream c.args.ppi c.args.bytes (sides_in c.self.inside)
  more : c.push_reserved.new.self.items
      ≡ c.self.inside.messages.items ++ message_written c.args.stream (written_of on c.args.ppi) c.args.ppi c.args.bytes ∷ []
  count : c.fragments_in-count.result ≡ fragments_in (record_in c.self.inside) c.args.bytes

wrote : (g : Over) (c : After-push_reserved g) (w : Accepted c.self.inside c.args.stream c.args.ppi c.args.bytes) → Wrote g c w.on
wrote g c w =
    let written : c.written_of-written.result ≡ written_of w.on c.args.ppi = recorded c.written_of-written.result c.in-Some.state.now c.args.ppi
    c.ordered.result w.on c.written_of-written.ensures.ordered c.written_of-written.ensures.reliability c.written_of-written.ensures.value
    c.written_of-written.ensures.before (state-is c.self.invariant.0 c.args.stream w.on w.found c.in-Some.state.now c.in-Some.ensures)
    (c.ordered.ensures ∙ ordered-answered c.self.invariant.0 c.args.stream w.on w.found) in
    let sent = c.in-Ok.ensures.ok w.some w.on.state (sender-has c.self.invariant.0 c.args.stream w.on w.found) in
    let kept : c.reserve.new.self.items ≡ c.self.inside.messages.items = search rules in
    record {
      both = ap (sides c.write.new.self c.self.inside.receiver) c.record_write.ensures ∙ written-sides c.self.invariant.0 c.args.stream w.on w.found c.args.ppi
          c.args.bytes c.write.new.self sent c.written_of-written.result.ordered (ap (λ (w : Written). w.ordered) written) c.self.invariant.1.apart;
      more = cc (c.push_reserved.ensures.items, kept, c.message_written.ensures, written);
      count = cc (c.fragments_in-count.ensures.value c.args.bytes c.len-len.ensures.value, c.fragment_size.ensures.value);
    }

pub invariant_of-self-2 : goal.invariant_of-self-2
invariant_of-self-2 g c =
    let w = accepted g (goal.at.invariant_of-self-2 g c).After-fragments_in-count in
    let r = wrote g (goal.at.invariant_of-self-2 g c).After-push_reserved w in
    let sent = c.in-Ok.ensures.ok w.some w.on.state (sender-has c.self.invariant.0 c.args.stream w.on w.found) in (
      subst (λ ps. IsAligned c.write.new.self c.self.inside.receiver ps) (sym c.record_write.ensures)
          (written-aligned c.self.invariant.0 c.args.stream w.on w.found c.args.ppi c.args.bytes c.write.new.self sent c.written_of-written.result.ordered),
      subst (λ (y : Sides). IsLinked (g.C.Checksum.sum c.self.inside.checksum) (state_from y (record c.self.inside {
        messages = c.push_reserved.new.self;
        fragments = c.self.inside.fragments + c.fragments_in-count.result;
        written = c.self.inside.written + c.len-len.result;
      }))) (sym r.both) (linked-wrote c.self.invariant.1 c.args.stream c.args.ppi c.args.bytes w.some w.ok refl w.on w.found c.self.inside.messages.items
          c.push_reserved.new.self.items refl refl r.more _ _ c.fragments_in-count.result refl r.count
          (ap (λ n. c.self.inside.written + n) c.len-len.ensures.value)),
    )

pub returns-clause-ok : goal.returns-clause-ok
returns-clause-ok g c =
    let w = accepted g (goal.at.returns-clause-ok g c).After-fragments_in-count in
    let r = wrote g (goal.at.returns-clause-ok g c).After-push_reserved w in
    let number : c.len-number.result ≡ length c.self.inside.messages.items = search rules in
    rw (← c.self.view_is) (subst (λ (y : Sides). IsRight (record_in c.self.inside) (E.Write c.args.stream c.args.ppi c.args.bytes)
    (R.Wrote (Some c.len-number.result) c.fragments_in-count.result) (record_from y (record c.self.inside { messages = c.push_reserved.new.self })))
    (sym r.both)
    (write-right c.self.invariant.1 c.args.stream c.args.ppi c.args.bytes w.some w.ok refl w.on w.found c.self.inside.messages.items
    c.push_reserved.new.self.items refl refl r.more c.len-number.result c.fragments_in-count.result number r.count))
