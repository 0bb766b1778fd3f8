use Rattle.sctp_sender.proofs.Names.{◌≡◌, ◌+◌, ◌<◌, ap, sym, ◌∙◌, true, false, subst, inr, None, rules, arith, length, if◌then◌else◌, is_some}
use Rattle.sctp_sender.proofs.Names.{QueueFull, Flight, Transmission, is_open, write_refusal, fragments_with_mode}
use Rattle.sctp_sender.proofs.Names.{IsAllSettled, AreReported, IsCovered}
use Rattle.std.specs.Prelude.{Some}
use Rattle.sctp_sender.specs.Sender.{is_full_of}
use Rattle.sctp_sender.proofs.SenderStreams.{unknown, too-large, by-room, refused-not}
use Rattle.sctp_sender.proofs.Settled.{fragments-settled, message-settled}
use Rattle.sctp_sender.proofs.Seen.{sender_in}
use Rattle.sctp_sender.proofs.Covers.{fragments-unacked, message-covered}
use Rattle.sctp_sender.proofs.Listed.{message-reported}
use Rattle.sctp_sender.proofs.sender.Sender.write.Goals.{After-is_full, Else-is_full, In-Some, Then-is_full}
use Rattle.sctp_sender.proofs.sender.Sender.write.Goals as goal

-- The stream is open.
opens : (c : In-Some) → is_open c.args.stream (sender_in c.self.inside) ≡ true
opens c = ap is_some (sym c.in-Some.ensures)

-- What refuses the write where its message is not too large.
judged : (c : After-is_full) → is_open c.args.stream (sender_in c.self.inside) ≡ true
    → write_refusal c.args.stream (length c.args.bytes.now) (sender_in c.self.inside) ≡ (if c.is_full.result then Some QueueFull else None)
judged c open' =
    by-room c.args.stream (length c.args.bytes.now) (sender_in c.self.inside) open' (omega (arith, c.if-len-self.false, c.len-len.ensures.value))
    ∙ ap (λ b. if b then Some QueueFull else None) (ap (λ n. is_full_of n c.self.inside.flight.queue) (sym c.len-len.ensures.value)
    ∙ ap (is_full_of c.len-len.result) (sym c.queue.ensures) ∙ sym c.is_full.ensures)

filled : (c : Then-is_full) → write_refusal c.args.stream (length c.args.bytes.now) (sender_in c.self.inside)
    ≡ (if c.is_full.result then Some QueueFull else None) → write_refusal c.args.stream (length c.args.bytes.now) (sender_in c.self.inside) ≡ Some QueueFull
filled c e = e ∙ ap (λ b. if b then Some QueueFull else None) c.if-is_full.true

taken : (c : Else-is_full) → write_refusal c.args.stream (length c.args.bytes.now) (sender_in c.self.inside)
    ≡ (if c.is_full.result then Some QueueFull else None) → write_refusal c.args.stream (length c.args.bytes.now) c.args.self.now ≡ None
taken c e = rw (← c.self.view_is) (e ∙ ap (λ b. if b then Some QueueFull else None) c.if-is_full.false)

pub returns-in_default-clause-refused : goal.returns-in_default-clause-refused
returns-in_default-clause-refused c =
    inr (rw (← c.self.view_is) (unknown c.args.stream (length c.args.bytes.now) (sender_in c.self.inside)
    (sym c.in_default.ensures)))

pub returns-then-len-self-clause-refused : goal.returns-then-len-self-clause-refused
returns-then-len-self-clause-refused c =
    inr (rw (← c.self.view_is)
    (too-large c.args.stream (length c.args.bytes.now) (sender_in c.self.inside) (opens (goal.at.returns-then-len-self-clause-refused c).In-Some)
    (omega (arith, c.if-len-self.true, c.len-len.ensures.value))))

pub returns-then-is_full-clause-refused : goal.returns-then-is_full-clause-refused
returns-then-is_full-clause-refused c =
    let p = goal.at.returns-then-is_full-clause-refused c in inr (rw (← c.self.view_is) (filled p.Then-is_full (judged p.After-is_full (opens p.In-Some))))

pub returns-then-len-eq0-clause-accepted : goal.returns-then-len-eq0-clause-accepted
returns-then-len-eq0-clause-accepted c =
    let p = goal.at.returns-then-len-eq0-clause-accepted c in λ _. taken p.Else-is_full (judged p.After-is_full (opens p.In-Some))

pub returns-in_err-count-clause-refused : goal.returns-in_err-count-clause-refused
returns-in_err-count-clause-refused c =
    let p = goal.at.returns-in_err-count-clause-refused c in
    let none = taken p.Else-is_full (judged p.After-is_full (opens p.In-Some)) in
    search rules

pub returns-clause-accepted : goal.returns-clause-accepted
returns-clause-accepted c =
    let p = goal.at.returns-clause-accepted c in λ _. taken p.Else-is_full (judged p.After-is_full (opens p.In-Some))

pub returns-in_default-clause-idle : goal.returns-in_default-clause-idle
returns-in_default-clause-idle c = λ len none.
    let t : Transmission = sender_in c.self.inside in
    let here : write_refusal c.args.stream 0 t ≡ None = rw (← c.self.view_is) at none in
    refused-not c.args.stream (length c.args.bytes.now) t _
    (unknown c.args.stream (length c.args.bytes.now) t (sym c.in_default.ensures)) len here

pub returns-then-len-self-clause-idle : goal.returns-then-len-self-clause-idle
returns-then-len-self-clause-idle c = λ len none. absurd (omega (arith, c.if-len-self.true, c.len-len.ensures.value, len))

pub returns-then-is_full-clause-idle : goal.returns-then-is_full-clause-idle
returns-then-is_full-clause-idle c = λ len none.
    let p = goal.at.returns-then-is_full-clause-idle c in
    let t : Transmission = sender_in c.self.inside in
    let here : write_refusal c.args.stream 0 t ≡ None = rw (← c.self.view_is) at none in
    refused-not c.args.stream (length c.args.bytes.now) t _ (filled p.Then-is_full (judged p.After-is_full (opens p.In-Some))) len here

pub returns-in_err-count-clause-idle : goal.returns-in_err-count-clause-idle
returns-in_err-count-clause-idle c = λ len none. absurd (omega (arith, c.if-len-eq0.false, c.len-len.ensures.value, len))

pub returns-clause-bytes : goal.returns-clause-bytes
returns-clause-bytes c = rw (← c.self.view_is) c.in_ok-count.ensures.bytes

pub invariant_of-self-2 : goal.invariant_of-self-2
invariant_of-self-2 c =
    let f : Flight = c.self.inside.flight in
    let l = c.in-Some.state.now in
    let cs = fragments_with_mode l c.args.ppi c.args.bytes.now in
    let unacked = fragments-unacked l c.args.ppi c.args.bytes.now in (
      c.self.invariant.0,
      c.self.invariant.1,
      subst (λ (g : Flight). IsAllSettled g.queue) (sym c.in_ok-count.ensures.ok)
          (message-settled cs f.queue (fragments-settled l c.args.ppi c.args.bytes.now) c.self.invariant.2),
      subst (IsCovered c.self.inside.kept) (sym c.in_ok-count.ensures.ok) (message-covered c.self.inside.kept cs f unacked c.self.invariant.3),
      subst (AreReported c.self.inside.kept) (sym c.in_ok-count.ensures.ok) (message-reported c.self.inside.kept cs f c.self.invariant.4),
    )
