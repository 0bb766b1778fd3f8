use Rattle.std.proofs.Common.{◌≡◌, ◌∙◌, ◌⊎◌, ◌+◌, ◌<◌, ◌≤◌, List, ℕ, Some, inl, inr, min, ap, arith, sym}
use Rattle.std.proofs.lemmas.List.{with_items_is}
use Rattle.sctp_association.specs.Reads.{length_of, message_in}
use Rattle.sctp_channels.proofs.Holding.{held_next}
use Rattle.sctp_channels.specs.Steps.{held_of, state_of}
use Rattle.sctp_channels.proofs.channels.Channels.hold.Goals as goal
use Rattle.sctp_channels.proofs.channels.Channels.hold.Goals.{then-length-most, else-length-most}

pub returns-clause-held : goal.returns-clause-held
returns-clause-held c =
    let next = message_in c.args.stream c.args.association.now.inbound in
    let n = c.if-length-most.resize in
    let len = c.in-Some.length in
    let limit = c.saturating_add-most.ensures in
    let by : ((n ≡ 1) × (min (c.args.self.now.most_name + 12) 18446744073709551615 < len))
    ⊎ ((n ≡ len) × (len ≤ min (c.args.self.now.most_name + 12) 18446744073709551615)) = elim c.if-length-most.branch [
      | then-length-most w ↦ inl (w.resize-is, omega (arith, w.if-length-most.true, limit))
      | else-length-most w ↦ inr (w.resize-is, omega (arith, w.if-length-most.false, limit))
    ] in
    let room = c.deref_mut.ensures.len ∙ c.in_ok-resize.ensures.len in
    let small : n < 18446744073709551615 = omega (arith, c.in_ok-resize.ensures.len, c.resize.new.self.small) in
    let size : Some (len, c.in-Some.field-0-1) ≡ length_of next = sym c.in-Some.is ∙ c.next_len.ensures in
    let bytes = held_next _ next c.in-Some-2.message c.args.self.now.most_name len n c.in-Some.field-0-1 c.deref_mut.result.now c.read-2.new.buf c.read-2.result
    (sym c.in-Some-2.is ∙ c.in_ok-message.ensures.message) size by room small c.read-2.ensures.ok c.read-2.ensures.short in record {
      none = ap held_of c.requires.none;
      control = c.requires.next;
      is = ap (λ (b : List ℕ). record (state_of c.args.self.now c.args.association.now) {
        held = Some (record { stream = c.args.stream; bytes = b });
        association = c.read.new.self;
      }) (with_items_is c.resize.new.self c.read-2.new.buf (c.read-2.auto.buf ∙ c.deref_mut.ensures.len) ∙ bytes);
      read = c.in_ok-message.ensures.taken;
      beside = c.in_ok-message.ensures.rest;
    }
