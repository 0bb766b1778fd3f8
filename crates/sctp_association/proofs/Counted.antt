-- What is counted, and what becomes of T3-rtx, as a packet is filled.
use Rattle.std.proofs.Common.{◌≡◌, ◌⊎◌, inl, inr, Option, None, ℕ, refl, ap, ◌∙◌, arith}
use Rattle.sctp_association.specs.Counts.{CountsNone, IsCountedAlong, IsCountedOn}
use Rattle.sctp_association.specs.declared.outbound.Outbound.{Outbound}
use Rattle.sctp_path.specs.declared.timer.Timer.{Timer}

pub none_same : (a : Outbound) → CountsNone a a
none_same a = record { resent = refl; timeouts = refl; failures = refl; rto = refl; timer = refl }

pub none_then : (a b c : Outbound) → CountsNone a b → CountsNone b c → CountsNone a c
none_then a b c f g = record {
  resent = g.resent ∙ f.resent;
  timeouts = g.timeouts ∙ f.timeouts;
  failures = g.failures ∙ f.failures;
  rto = g.rto ∙ f.rto;
  timer = g.timer ∙ f.timer;
}

pub along_then : (a b c : Outbound) → IsCountedAlong a b → IsCountedAlong b c → IsCountedAlong a c
along_then a b c f g =
    let first = f.resent in
    let last = g.resent in
    record {
      resent = omega (arith, first, last);
      timeouts = g.timeouts ∙ f.timeouts;
      failures = g.failures ∙ f.failures;
      rto = g.rto ∙ f.rto;
    }

stops-then : (x y z : Option ℕ) → (y ≡ x) ⊎ (y ≡ None) → (z ≡ y) ⊎ (z ≡ None) → (z ≡ x) ⊎ (z ≡ None)
stops-then x y z f (inr none) = inr none
stops-then x y z (inl e) (inl same) = inl (same ∙ e)
stops-then x y z (inr e) (inl same) = inr (same ∙ e)

pub on_then : (a b c : Outbound) → IsCountedOn a b → IsCountedOn b c → IsCountedOn a c
on_then a b c f g =
    record { along = along_then a b c f.along g.along; timer = stops-then a.timer.at b.timer.at c.timer.at f.timer g.timer }

pub on_none : (a b : Outbound) → CountsNone a b → IsCountedOn a b
on_none a b n =
    let same = n.resent in
    record {
      along = record { resent = omega (arith, same); timeouts = n.timeouts; failures = n.failures; rto = n.rto };
      timer = inl (ap (λ (t : Timer). t.at) n.timer);
    }

pub on_same : (a : Outbound) → IsCountedOn a a
on_same a = on_none a a (none_same a)
