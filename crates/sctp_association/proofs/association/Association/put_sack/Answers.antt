use Rattle.std.proofs.Common.{Option, Some, ap, inl, is_some, refl, sym, ◌∙◌}
use Rattle.sctp_association.proofs.Known.{owes_alike}
use Rattle.sctp_association.proofs.Leaving.{sack_left}
use Rattle.sctp_association.proofs.Others.{sack_side}
use Rattle.sctp_association.proofs.association.Association.put_sack.Goals as goal
use Rattle.sctp_association.specs.Entering.{usable_in}
use Rattle.sctp_association.specs.Kept.{sack_waits, unknown_in}
use Rattle.sctp_association.specs.Leaving.{acked_of}
use Rattle.sctp_association.specs.Packets.{Stands}
use Rattle.sctp_association.specs.declared.inbound.Inbound.{Inbound}
use Rattle.sctp_chunks.specs.Wire.{sack_chunk}

pub returns-in-Some-clause-kept : goal.returns-in-Some-clause-kept
returns-in-Some-clause-kept c = record {
  config = refl;
  key = refl;
  machine = refl;
  alone = refl;
  cookie = refl;
  events = refl;
  over = refl;
  wants = refl;
  control = refl;
  guard = refl;
  failures = refl;
  rto = refl;
  usable = λ s. c.put_sack.ensures.usable s ∙ sym (ap (λ (x : Option Inbound). usable_in s x) c.in-Some.is);
  due = owes_alike _;
  sack = λ none. c.put_sack.ensures.waits (sym (ap sack_waits c.in-Some.is) ∙ none);
  unknown = λ s told. ap unknown_in c.in-Some.is ∙ (sym (ap (λ o. o) c.put_sack.ensures.unknown) ∙ told);
}

pub returns-in-Some-clause-made : goal.returns-in-Some-clause-made
returns-in-Some-clause-made c = sack_side _ _ c.args.self.now.inbound c.in-Some.inbound c.put_sack.new.self _ _
    (λ s was none. (ap sack_waits c.in-Some.is ∙ was, none)) c.put_sack.ensures.made c.in-Some.is refl

pub returns-in-Some-clause-leaves : goal.returns-in-Some-clause-leaves
returns-in-Some-clause-leaves c =
    let put = c.put_sack.ensures in
    let own = c.in-Some.is in
    record {
      cookie_echo = λ e. inl e;
      cookie_ack = λ e. inl e;
      shutdown = λ e. inl e;
      shutdown_ack = λ e. inl e;
      heartbeat = λ _ e. inl e;
      sack = sack_left c.args.self.now.inbound c.in-Some.inbound (is_some c.put_sack.new.self.delay.due)
          (λ s. Stands c.args.self.now.draft.bytes c.put_sack.new.packet.bytes (sack_chunk s)) own put.leaves;
      report = λ _ e. inl e;
      unknown = λ _ e. inl (put.unknown ∙ (sym (ap unknown_in own) ∙ e));
      cookie = refl;
      acked = ap Some put.cumulative ∙ sym (ap acked_of own);
      limit = put.limit;
    }
