use Rattle.std.proofs.Common.{inl, inr, refl, sym, ◌∙◌}
use Rattle.sctp_association.proofs.Known.{owes_alike}
use Rattle.sctp_association.proofs.Leaving.{stands_put}
use Rattle.sctp_association.proofs.Others.{others_none, others_one}
use Rattle.sctp_association.proofs.association.Association.put_cookie_echo.Goals as goal

pub returns-then-is_put-clause-leaves : goal.returns-then-is_put-clause-leaves
returns-then-is_put-clause-leaves c = record {
  cookie_echo = λ _. inr (
    c.in-Some.cookie,
    sym c.take.ensures.value ∙ c.in-Some.is,
    stands_put c.put-is_put.result _ _ _ c.put-is_put.ensures.added c.if-is_put.true,
  );
  cookie_ack = λ e. inl e;
  shutdown = λ e. inl e;
  shutdown_ack = λ e. inl e;
  heartbeat = λ _ e. inl e;
  sack = λ e. inl e;
  report = λ _ e. inl e;
  unknown = λ _ e. inl e;
  cookie = sym c.in-Some.is ∙ c.take.ensures.value;
  acked = refl;
  limit = c.put-is_put.ensures.limit;
}

pub returns-then-is_put-clause-others : goal.returns-then-is_put-clause-others
returns-then-is_put-clause-others c =
    let own = sym c.in-Some.is ∙ c.take.ensures.value in
    others_one c.put-is_put.result _ c.args.self.now _ c.put-is_put.ensures.added tt
    (c.if-not-self.false, sym c.take.ensures.value ∙ c.in-Some.is, refl)
    (record {
      sender = refl;
      receiver = refl;
      path = refl;
    })
    (record {
      config = refl;
      key = refl;
      machine = refl;
      alone = refl;
      cookie = own;
      events = refl;
      over = refl;
      wants = refl;
      control = refl;
      guard = refl;
      failures = refl;
      rto = refl;
      usable = λ s. refl;
      due = record {
        cookie_echo = λ e. refl;
        cookie_ack = λ e. e;
        shutdown = λ e. e;
        shutdown_ack = λ e. e;
        heartbeat = λ info e. e;
        report = λ r e. e;
      };
      sack = λ e. e;
      unknown = λ s e. e;
    })
    (record { heartbeat = refl; idle = refl; requests = refl; peer = refl })

pub returns-in_default-clause-others : goal.returns-in_default-clause-others
returns-in_default-clause-others c = others_none c.args.self.now _
    (record {
      sender = refl;
      receiver = refl;
      path = refl;
    })
    (record {
      config = refl;
      key = refl;
      machine = refl;
      alone = refl;
      cookie = c.take.ensures.after ∙ (sym c.in_default.is ∙ c.take.ensures.value);
      events = refl;
      over = refl;
      wants = refl;
      control = refl;
      guard = refl;
      failures = refl;
      rto = refl;
      usable = λ s. refl;
      due = owes_alike _;
      sack = λ e. e;
      unknown = λ s e. e;
    })
    (record { heartbeat = refl; idle = refl; requests = refl; peer = refl }) refl
