use Rattle.sctp_association.proofs.Leaving.{stands_put}
use Rattle.sctp_association.proofs.Others.{others_none, others_one, others_same}
use Rattle.std.proofs.Common.{inl, inr, refl}
use Rattle.std.proofs.Common.{◌≤◌, ap, length, subst, sym, ◌∙◌}
use Rattle.sctp_association.proofs.Idle.{shutdown_ack_put}
use Rattle.sctp_association.proofs.association.Association.put_shutdown_ack.Goals as goal
use Rattle.sctp_association.proofs.association.Association.put_shutdown_ack.Goals.{else-self-via-else-self, else-self-via-then-self+else-put}
use Rattle.sctp_association.specs.declared.association.Association.{Association}
use Rattle.sctp_association.proofs.Known.{owes_alike}
use Rattle.sctp_association.specs.Halves.{PutsOthers}
use Rattle.sctp_packets.specs.Draft.{Draft}

pub returns-else-self-clause-owes : goal.returns-else-self-clause-owes
returns-else-self-clause-owes c head short = elim c.else-self.branch [
  | else-self-via-then-self+else-put w ↦ absurd (shutdown_ack_put _ _ _ w.put.result w.put.ensures.grows head
      (subst (λ (a : Association). length a.draft.bytes ≤ 12) w.self-is short) w.put.ensures.least w.if-put.false w.put.ensures.fits)
  | else-self-via-else-self w ↦ ap (λ (a : Association). a.due.shutdown_ack) w.self-is ∙ w.if-self.false
]

pub returns-then-put-clause-leaves : goal.returns-then-put-clause-leaves
returns-then-put-clause-leaves c = record {
  cookie_echo = λ e. inl e;
  cookie_ack = λ e. inl e;
  shutdown = λ e. inl e;
  shutdown_ack = λ _. inr (stands_put c.put.result _ _ _ c.put.ensures.added c.if-put.true);
  heartbeat = λ _ e. inl e;
  sack = λ e. inl e;
  report = λ _ e. inl e;
  unknown = λ _ e. inl e;
  cookie = refl;
  acked = refl;
  limit = c.put.ensures.limit;
}

pub returns-then-put-clause-others : goal.returns-then-put-clause-others
returns-then-put-clause-others c =
    others_one c.put.result _ c.args.self.now _ c.put.ensures.added tt (inl c.if-self.true, refl)
    (record {
      sender = refl;
      receiver = refl;
      path = refl;
    })
    (record {
      config = refl;
      key = refl;
      machine = refl;
      alone = refl;
      cookie = refl;
      events = refl;
      over = refl;
      wants = refl;
      control = refl;
      guard = refl;
      failures = refl;
      rto = refl;
      usable = λ s. refl;
      due = record {
        cookie_echo = λ e. e;
        cookie_ack = λ e. e;
        shutdown = λ e. e;
        shutdown_ack = λ e. refl;
        heartbeat = λ info e. e;
        report = λ r e. e;
      };
      sack = λ e. e;
      unknown = λ s e. e;
    })
    (record { heartbeat = refl; idle = refl; requests = refl; peer = refl })

pub returns-else-self-clause-others : goal.returns-else-self-clause-others
returns-else-self-clause-others c = elim c.else-self.branch [
  | else-self-via-then-self+else-put w ↦ subst (PutsOthers c.args.self.now) (sym w.self-is) (
      others_none c.args.self.now _ (record {
        sender = refl;
        receiver = refl;
        path = refl;
      })
      (record {
        config = refl;
        key = refl;
        machine = refl;
        alone = refl;
        cookie = refl;
        events = refl;
        over = refl;
        wants = refl;
        control = refl;
        guard = refl;
        failures = refl;
        rto = refl;
        usable = λ s. refl;
        due = owes_alike _;
        sack = λ e. e;
        unknown = λ s e. e;
      })
      (record { heartbeat = refl; idle = refl; requests = refl; peer = refl })
      (ap (λ (d : Draft). d.bytes) (w.put.ensures.full w.if-put.false))
      )
  | else-self-via-else-self w ↦ others_same c.args.self.now _ w.self-is
]
