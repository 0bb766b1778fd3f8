-- How long an association lasts that hears nothing of its peer.
use Rattle.std.proofs.Common.{◌≡◌, ◌⊎◌, inl, inr, ◌≤◌, ◌<◌, ℕ, suc, ◌+◌, ◌-◌, ◌^◌, Bool, true, false, [], ◌∷◌, refl, ap, sym, subst, ◌∙◌, arith}
use Rattle.std.proofs.lemmas.Bool.{false≢true}
use Rattle.std.proofs.lemmas.Bool.Decides.{nat_tests}
use Rattle.std.specs.Prelude.{◌&&◌, ◌||◌, if◌then◌else◌, is_some, max, nat_lt, not}
use Rattle.sctp_association.specs.Kept.{IsUnmoved}
use Rattle.sctp_association.specs.Lasting.{EachEnds, EachExpiryCounts, EachLaterCallLasts, EachQuietCallLasts, Expires, FewAreLeft, LastsNoLonger}
use Rattle.sctp_association.specs.Lasting.{control_left, expires, expires_control, expiries_left, left_in, t3_left}
use Rattle.sctp_association.specs.declared.association.Association.{Association}
use Rattle.sctp_handshake.specs.Endings.{drained_row, on_drained}
use Rattle.sctp_handshake.specs.Machines.{Takes, failed}
use Rattle.sctp_handshake.specs.States.{timer}
use Rattle.sctp_handshake.specs.Timeouts.{on_timed_out, sent_again, timed_out_row}
use Rattle.sctp_handshake.specs.declared.answer.Answer.{Answer}
use Rattle.sctp_handshake.specs.declared.answer.Reply.{Reply}
use Rattle.sctp_handshake.specs.declared.answer.Reply.TheVariants.{CookieEcho, Init, Shutdown, ShutdownAck}
use Rattle.sctp_handshake.specs.declared.machine.Machine.{Machine}
use Rattle.sctp_handshake.specs.declared.state.State.{State}
use Rattle.sctp_handshake.specs.declared.state.State.TheVariants.{Closed, CookieEchoed, CookieWait, Established, ShutdownPending, ShutdownReceived}
use Rattle.sctp_handshake.specs.declared.state.State.TheVariants.{ShutdownAckSent, ShutdownSent}
use Rattle.sctp_path.specs.declared.failures.Failures.{Failures}
use Rattle.sctp_path.specs.declared.timer.Timer.{Timer}
use Rattle.sctp_path.specs.Timers.{is_due, is_passed, one_more}

-- ## The machine

-- what is left in its state
in-state : (s : State) (m : Machine) → m.state ≡ s → control_left m ≡ left_in s m.limits m.attempts
in-state s m is = ap (λ (x : State). left_in x m.limits m.attempts) is

drained-left : (s : State) (m : Machine) → m.state ≡ s → control_left (drained_row s m).machine ≤ control_left m
drained-left ShutdownPending m is = omega (arith, in-state ShutdownPending m is)
drained-left ShutdownReceived m is = omega (arith, in-state ShutdownReceived m is)
drained-left _ m is = omega arith

pub drained_left : (m n : Machine) (a : Answer) → Takes (on_drained m) n a → control_left n ≤ control_left m
drained_left m n a t = subst (λ (k : Machine). control_left k ≤ control_left m) (sym t.machine) (drained-left m.state m refl)

-- the timer of the state ran out, and the association goes on
again-fewer : (b : Bool) (most : ℕ) (r : Reply) (m : Machine) → nat_lt m.attempts most ≡ b
    → is_some (if b then sent_again r m else failed m).answer.told ≡ false → control_left m ≡ most - m.attempts
    → control_left (sent_again r m).machine ≡ most - (m.attempts + 1)
    → control_left (if b then sent_again r m else failed m).machine < control_left m
again-fewer true most r m is goes now later =
    let less : m.attempts < most = grind (arith, nat_tests) in
    omega (arith, less, now, later)
again-fewer false most r m is goes now later = absurd (false≢true (sym goes))

timed-fewer : (s : State) (m : Machine) → m.state ≡ s → is_some (timer s) ≡ true → is_some (timed_out_row s m).answer.told ≡ false
    → control_left (timed_out_row s m).machine < control_left m
timed-fewer CookieWait m is has goes =
    again-fewer (nat_lt m.attempts m.limits.max_init_retransmits) m.limits.max_init_retransmits Init m refl goes (in-state CookieWait m is)
    (ap (λ (x : State). left_in x m.limits (m.attempts + 1)) is)
timed-fewer CookieEchoed m is has goes =
    again-fewer (nat_lt m.attempts m.limits.max_init_retransmits) m.limits.max_init_retransmits CookieEcho m refl goes (in-state CookieEchoed m is)
    (ap (λ (x : State). left_in x m.limits (m.attempts + 1)) is)
timed-fewer ShutdownSent m is has goes =
    again-fewer (nat_lt m.attempts m.limits.association_max_retrans) m.limits.association_max_retrans Shutdown m refl goes (in-state ShutdownSent m is)
    (ap (λ (x : State). left_in x m.limits (m.attempts + 1)) is)
timed-fewer ShutdownAckSent m is has goes =
    again-fewer (nat_lt m.attempts m.limits.association_max_retrans) m.limits.association_max_retrans ShutdownAck m refl goes
    (in-state ShutdownAckSent m is) (ap (λ (x : State). left_in x m.limits (m.attempts + 1)) is)
timed-fewer _ m is has goes = absurd (false≢true has)

-- in a state without a timer nothing changes
timed-same : (s : State) (m : Machine) → is_some (timer s) ≡ false → (timed_out_row s m).machine ≡ m
timed-same Closed m none = refl
timed-same Established m none = refl
timed-same ShutdownPending m none = refl
timed-same ShutdownReceived m none = refl
timed-same _ m none = absurd (false≢true (sym none))

-- no more are left, and fewer in a state with a timer
pub record RunsOut (m n : Machine) : Type 0 where
  pub left : control_left n ≤ control_left m
  pub fewer : is_some (timer m.state) ≡ true → control_left n < control_left m

runs-out : (b : Bool) (m n : Machine) → is_some (timer m.state) ≡ b → (b ≡ true → control_left n < control_left m) → (b ≡ false → n ≡ m)
    → RunsOut m n
runs-out true m n is fewer same =
    let less = fewer refl in
    record { left = omega (arith, less); fewer = λ has. less }
runs-out false m n is fewer same = record {
  left = subst (λ (k : Machine). control_left k ≤ control_left m) (sym (same refl)) (omega arith);
  fewer = λ has. absurd (false≢true (sym is ∙ has));
}

pub timed_left : (m n : Machine) (a : Answer) → Takes (on_timed_out m) n a → is_some a.told ≡ false → RunsOut m n
timed_left m n a t goes = runs-out (is_some (timer m.state)) m n refl
    (λ has. subst (λ (k : Machine). control_left k < control_left m) (sym t.machine)
    (timed-fewer m.state m refl has (ap (λ (x : Answer). is_some x.told) (sym t.answer) ∙ goes)))
    (λ none. t.machine ∙ timed-same m.state m none)

-- ## Failures

counted-left : (f g : Failures) → g.most ≡ f.most → f.count ≤ g.count → t3_left g ≤ t3_left f
counted-left f g most more = omega (arith, most, more)

-- where the limit is not passed fewer are left
pub t3_fewer : (f : Failures) → f.most < 2 ^ 32 - 1 → is_passed (one_more f) ≡ false → t3_left (one_more f) < t3_left f
t3_fewer f low on =
    let within : (one_more f).count ≤ f.most = grind (arith, nat_tests, on) in
    omega (arith, low, within)

-- ## The association

left-by : (o p : Bool) (x y : ℕ) → p ≡ o → y ≤ x → (if p then 0 else suc y) ≤ (if o then 0 else suc x)
left-by true true x y is less = omega arith
left-by false false x y is less = omega (arith, less)
left-by true false x y is less = absurd (false≢true is)
left-by false true x y is less = absurd (false≢true (sym is))

-- as many are left where it is over, and no more else
pub lasts_by : (a b : Association) → b.is_over ≡ a.is_over → b.outbound.failures ≡ a.outbound.failures
    → control_left b.machine ≤ control_left a.machine → LastsNoLonger a b
lasts_by a b over same less = record {
  most = ap (λ (f : Failures). f.most) same;
  left = left-by a.is_over b.is_over (t3_left a.outbound.failures + control_left a.machine) (t3_left b.outbound.failures + control_left b.machine) over
      (omega (arith, less, ap t3_left same));
}

pub lasts_same : (a b : Association) → b.is_over ≡ a.is_over → b.machine ≡ a.machine → b.outbound.failures ≡ a.outbound.failures → LastsNoLonger a b
lasts_same a b over machine same =
    lasts_by a b over same (subst (λ (k : Machine). control_left k ≤ control_left a.machine) (sym machine) (omega arith))

pub lasts_unmoved : (a b : Association) → IsUnmoved a b → LastsNoLonger a b
lasts_unmoved a b u = lasts_same a b u.over u.machine u.failures

none-left : (a : Association) → a.is_over ≡ true → expiries_left a ≡ 0
none-left a over = ap (λ (o : Bool). if o then 0 else suc (t3_left a.outbound.failures + control_left a.machine)) over

some-left : (a : Association) → a.is_over ≡ false → expiries_left a ≡ suc (t3_left a.outbound.failures + control_left a.machine)
some-left a over = ap (λ (o : Bool). if o then 0 else suc (t3_left a.outbound.failures + control_left a.machine)) over

pub lasts_over : (a b : Association) → b.is_over ≡ true → b.outbound.failures.most ≡ a.outbound.failures.most → LastsNoLonger a b
lasts_over a b over most = record { most = most; left = omega (arith, none-left b over) }

pub lasts_then : (a b c : Association) → LastsNoLonger a b → LastsNoLonger b c → LastsNoLonger a c
lasts_then a b c f g =
    let first = f.left in
    let last = g.left in
    record { most = g.most ∙ f.most; left = omega (arith, first, last) }

-- ## An expiry

-- it ends what was not over
pub expires_over : (k : Bool) (a b : Association) → a.is_over ≡ false → b.is_over ≡ true → b.outbound.failures.most ≡ a.outbound.failures.most
    → Expires k a b
expires_over k a b going over most = record {
  lasts = lasts_over a b over most;
  fewer = λ is low. omega (arith, none-left b over, some-left a going);
}

-- the timer of the state ran out, and the association goes on
pub expires_run_out : (a b : Association) → a.is_over ≡ false → b.is_over ≡ a.is_over → b.outbound.failures ≡ a.outbound.failures
    → RunsOut a.machine b.machine → Expires (is_some (timer a.machine.state)) a b
expires_run_out a b going over same ran = record {
  lasts = lasts_by a b over same ran.left;
  fewer = λ is low. let less = ran.fewer is in omega (arith, less, ap t3_left same, some-left a going, some-left b (over ∙ going));
}

-- no more are left of either, and by an expiry fewer in all
pub expires_on : (k : Bool) (a b : Association) → a.is_over ≡ false → b.is_over ≡ false → b.outbound.failures.most ≡ a.outbound.failures.most
    → t3_left b.outbound.failures + control_left b.machine ≤ t3_left a.outbound.failures + control_left a.machine
    → (k ≡ true → a.outbound.failures.most < 2 ^ 32 - 1
    → t3_left b.outbound.failures + control_left b.machine < t3_left a.outbound.failures + control_left a.machine)
    → Expires k a b
expires_on k a b going on most left fewer = record {
  lasts = record { most = most; left = omega (arith, left, some-left a going, some-left b on) };
  fewer = λ is low. let less = fewer is low in omega (arith, less, some-left a going, some-left b on);
}

-- ## `handle_timeout`

pub counted_most : (f g : Failures) → (g ≡ f) ⊎ (g ≡ one_more f) → g.most ≡ f.most
counted_most f g (inl same) = ap (λ (x : Failures). x.most) same
counted_most f g (inr more) = ap (λ (x : Failures). x.most) more

pub t3_most : (due : Bool) (f g : Failures) → (due ≡ false → g ≡ f) → (due ≡ true → g ≡ one_more f) → g.most ≡ f.most
t3_most false f g same counted = counted_most f g (inl (same refl))
t3_most true f g same counted = counted_most f g (inr (counted refl))

-- where T3-rtx expired fewer are left
t3-fewer-by : (due : Bool) (f g : Failures) → (due ≡ true → (g ≡ one_more f) × (is_passed g ≡ false)) → due ≡ true → f.most < 2 ^ 32 - 1
    → t3_left g < t3_left f
t3-fewer-by due f g counted is most =
    let more = counted is in
    subst (λ (x : Failures). t3_left x < t3_left f) (sym more.0) (t3_fewer f most (subst (λ (x : Failures). is_passed x ≡ false) more.0 more.1))

which : (o d e : Bool) → (not o && (d || e)) ≡ true → (d ≡ true) ⊎ (e ≡ true)
which true d e is = absurd (false≢true is)
which false true e is = inl refl
which false false e is = inr is

module _ (now : ℕ) (a m b : Association) (g : Failures) (going : a.is_over ≡ false) (control : Expires (expires_control now a) a m)
    (same : m.outbound.failures ≡ a.outbound.failures) (timer : m.outbound.timer ≡ a.outbound.timer) (over : b.is_over ≡ m.is_over)
    (machine : b.machine ≡ m.machine) (more : m.outbound.failures.count ≤ g.count) (further : g.count ≤ b.outbound.failures.count)
    (waits : is_due now m.outbound.timer.at ≡ false → g ≡ m.outbound.failures)
    (counted : is_due now m.outbound.timer.at ≡ true → (g ≡ one_more m.outbound.failures) × (is_passed g ≡ false))
    (last : (b.outbound.failures ≡ g) ⊎ (b.outbound.failures ≡ one_more g)) where
  after : g.most ≡ m.outbound.failures.most
  after = t3_most (is_due now m.outbound.timer.at) m.outbound.failures g waits (λ is. (counted is).0)

  most : b.outbound.failures.most ≡ a.outbound.failures.most
  most = counted_most g b.outbound.failures last ∙ after ∙ ap (λ (x : Failures). x.most) same

  due-same : is_due now m.outbound.timer.at ≡ is_due now a.outbound.timer.at
  due-same = ap (λ (x : Timer). is_due now x.at) timer

  first : t3_left m.outbound.failures ≡ t3_left a.outbound.failures
  first = ap t3_left same

  one : t3_left g ≤ t3_left m.outbound.failures
  one = counted-left m.outbound.failures g after more

  two : t3_left b.outbound.failures ≤ t3_left g
  two = counted-left g b.outbound.failures (counted_most g b.outbound.failures last) further

  rest : control_left b.machine ≡ control_left m.machine
  rest = ap control_left machine

  on : m.is_over ≡ false → Expires (expires now a) a b
  on goes =
      let left = control.lasts.left in
      let here = some-left a going in
      let there = some-left m goes in
      expires_on (expires now a) a b going (over ∙ goes) most (omega (arith, left, here, there, first, one, two, rest)) (λ is small. by is small)
    where
      by : expires now a ≡ true → a.outbound.failures.most < 2 ^ 32 - 1
          → t3_left b.outbound.failures + control_left b.machine < t3_left a.outbound.failures + control_left a.machine
      by is small = either (which a.is_over (is_due now a.outbound.timer.at) (expires_control now a) is)
        where
          either : (is_due now a.outbound.timer.at ≡ true) ⊎ (expires_control now a ≡ true)
              → t3_left b.outbound.failures + control_left b.machine < t3_left a.outbound.failures + control_left a.machine
          either (inl due) =
              let left = control.lasts.left in
              let here = some-left a going in
              let there = some-left m goes in
              let low = subst (λ (x : Failures). x.most < 2 ^ 32 - 1) (sym same) small in
              let fewer = t3-fewer-by (is_due now m.outbound.timer.at) m.outbound.failures g counted (due-same ∙ due) low in
              omega (arith, left, here, there, first, fewer, two, rest)
          either (inr ran) =
              let fewer = control.fewer ran small in
              let here = some-left a going in
              let there = some-left m goes in
              omega (arith, fewer, here, there, first, one, two, rest)

  by-over : (o : Bool) → m.is_over ≡ o → Expires (expires now a) a b
  by-over true is = expires_over (expires now a) a b going (over ∙ is) most
  by-over false is = on is

  pub timed_lasts : Expires (expires now a) a b
  timed_lasts = by-over m.is_over refl

-- ## The law

pub each-quiet : EachQuietCallLasts
each-quiet a b over machine same = record { lasts = lasts_same a b over machine same; fewer = λ is low. absurd (false≢true is) }

pub each-later : EachLaterCallLasts
each-later e a b c step rest = record {
  lasts = lasts_then a b c step.lasts rest;
  fewer = λ is low. let less = step.fewer is low in let left = rest.left in omega (arith, less, left);
}

pub each-counts : EachExpiryCounts
each-counts [] a b low run = omega (arith, ap expiries_left run)
each-counts (true ∷ es) a b low run =
    let step = run.1.0 in
    let less = step.fewer refl low in
    let rest = each-counts es run.0 b (subst (λ n. n < 2 ^ 32 - 1) (sym step.lasts.most) low) run.1.1 in
    omega (arith, less, rest)
each-counts (false ∷ es) a b low run =
    let step = run.1.0 in
    let less = step.lasts.left in
    let rest = each-counts es run.0 b (subst (λ n. n < 2 ^ 32 - 1) (sym step.lasts.most) low) run.1.1 in
    omega (arith, less, rest)

ends-by : (o : Bool) (a : Association) → a.is_over ≡ o → expiries_left a ≤ 0 → o ≡ true
ends-by true a is none = refl
ends-by false a is none = absurd (omega (arith, some-left a is, none))

pub each-ends : EachEnds
each-ends es a b low run enough =
    let counts = each-counts es a b low run in
    ends-by b.is_over b refl (omega (arith, counts, enough))

left-most : (s : State) (m : Machine) → m.state ≡ s → control_left m ≤ max m.limits.max_init_retransmits m.limits.association_max_retrans
left-most Closed m is = omega (arith, in-state Closed m is)
left-most CookieWait m is = omega (arith, in-state CookieWait m is)
left-most CookieEchoed m is = omega (arith, in-state CookieEchoed m is)
left-most Established m is = omega (arith, in-state Established m is)
left-most ShutdownPending m is = omega (arith, in-state ShutdownPending m is)
left-most ShutdownSent m is = omega (arith, in-state ShutdownSent m is)
left-most ShutdownReceived m is = omega (arith, in-state ShutdownReceived m is)
left-most ShutdownAckSent m is = omega (arith, in-state ShutdownAckSent m is)

few-by : (o : Bool) (x y : ℕ) → x ≤ y → (if o then 0 else suc x) ≤ suc y
few-by true x y less = omega arith
few-by false x y less = omega (arith, less)

pub few-left : FewAreLeft
few-left a = few-by a.is_over (t3_left a.outbound.failures + control_left a.machine)
    (a.outbound.failures.most + max a.machine.limits.max_init_retransmits a.machine.limits.association_max_retrans)
    (omega (arith, left-most a.machine.state a.machine refl))
