use Rattle.std.proofs.Common.{◌≡◌, ◌⊎◌, ◌≤◌, ◌∷◌, [], ap, false, inl, inr, length, refl, sym, true, ◌∙◌}
use Rattle.std.proofs.lemmas.Bool.{leb-true}
use Rattle.sctp_association.proofs.Leaving.{left_or_too_long}
use Rattle.sctp_association.proofs.Known.{owes_alike}
use Rattle.sctp_association.proofs.Making.{of-some}
use Rattle.sctp_association.proofs.Others.{others_none}
use Rattle.sctp_association.proofs.association.Association.put_heartbeat_ack.Goals as goal
use Rattle.sctp_association.proofs.association.Association.put_heartbeat_ack.Goals.{then-is_put-via-then-is_put, then-is_put-via-else-is_put+then-is_empty}
use Rattle.sctp_association.specs.Leaving.{heartbeat_ack_of}
use Rattle.sctp_chunks.specs.Wire.{heartbeat_ack_chunk}
use Rattle.sctp_params.specs.Param.{heartbeat_info}

pub returns-then-is_put-clause-leaves : goal.returns-then-is_put-clause-leaves
returns-then-is_put-clause-leaves c =
    let put = c.put-is_put.ensures in
    let how : (c.put-is_put.result ≡ true) ⊎ ((c.put-is_put.result ≡ false) × (length c.put-is_put.new.self.bytes ≤ 12)) = elim c.then-is_put.branch [
      | then-is_put-via-then-is_put w ↦ inl w.if-is_put.true
      | then-is_put-via-else-is_put+then-is_empty w ↦ inr (w.if-is_put.false, leb-true _ 12 (sym w.is_empty.ensures ∙ w.if-is_empty.true))
    ] in
    record {
      cookie_echo = λ e. inl e;
      cookie_ack = λ e. inl e;
      shutdown = λ e. inl e;
      shutdown_ack = λ e. inl e;
      heartbeat = λ info e. inr (
          left_or_too_long c.put-is_put.result (heartbeat_ack_of info) _ c.args.self.now.draft c.put-is_put.new.self
          (ap heartbeat_ack_chunk (c.in_ok-heartbeat_ack.ensures ∙ ap (λ i. heartbeat_info i ∷ []) (of-some _ _ (sym c.in-Some.is ∙ e))))
          put.added put.fits put.full how
          );
      sack = λ e. inl e;
      report = λ _ e. inl e;
      unknown = λ _ e. inl e;
      cookie = refl;
      acked = refl;
      limit = put.limit;
    }

pub returns-in_err-heartbeat_ack-clause-others : goal.returns-in_err-heartbeat_ack-clause-others
returns-in_err-heartbeat_ack-clause-others c = others_none c.args.self.now _
    (record {
      sender = refl;
      receiver = refl;
      path = refl;
    })
    (record {
      config = refl;
      key = refl;
      machine = refl;
      alone = refl;
      cookie = refl;
      events = refl;
      over = refl;
      wants = refl;
      control = refl;
      guard = refl;
      failures = refl;
      rto = refl;
      usable = λ s. refl;
      due = owes_alike _;
      sack = λ e. e;
      unknown = λ s e. e;
    })
    (record { heartbeat = refl; idle = refl; requests = refl; peer = refl }) refl
