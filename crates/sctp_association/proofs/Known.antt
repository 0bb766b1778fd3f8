-- What an input leaves of what the machine knows of its peer, and what of an association stays.
use Rattle.std.proofs.Common.{◌≡◌, ◌⊎◌, ℕ, ◌<◌, Bool, true, false, Option, None, Some, inl, inr, refl, ap, subst, sym, ◌∙◌}
use Rattle.std.proofs.lemmas.Bool.{false≢true}
use Rattle.std.proofs.lemmas.Option.{none-some}
use Rattle.std.specs.Prelude.{nat_lt, if◌then◌else◌}
use Rattle.sctp_association.specs.Beginnings.{HasFreshTag, KeepsPeer, KnowsNoMore, is_asking, is_standing}
use Rattle.sctp_association.specs.Events.{brought_at}
use Rattle.sctp_association.specs.Kept.{IsKept, IsUnmoved, OwesLess, OwesNoMore, RestStays, ticket_due}
use Rattle.sctp_association.specs.Lasting.{StaysWithin}
use Rattle.sctp_association.specs.declared.association.Association.{Association}
use Rattle.sctp_association.specs.declared.config.Config.{Config}
use Rattle.sctp_association.specs.declared.due.Due.{Due}
use Rattle.sctp_association.specs.declared.event.Events.{Events}
use Rattle.sctp_association.specs.declared.outbound.Outbound.{Outbound}
use Rattle.sctp_handshake.specs.Answers.{silent}
use Rattle.sctp_handshake.specs.Cookies.{begun_again, on_stale_cookie, stale_cookie_row}
use Rattle.sctp_handshake.specs.Endings.{abort_row, drained_row, on_abort, on_drained, on_shutdown, on_shutdown_ack, on_shutdown_asked}
use Rattle.sctp_handshake.specs.Endings.{on_shutdown_complete, shutdown_ack_row, shutdown_asked_row, shutdown_complete_row, shutdown_row}
use Rattle.sctp_handshake.specs.Machines.{Step, Takes, closed, failed, into}
use Rattle.sctp_handshake.specs.Timeouts.{on_packet_arrived, on_timed_out, packet_arrived_row, sent_again, timed_out_row}
use Rattle.sctp_handshake.specs.declared.answer.Answer.{Answer}
use Rattle.sctp_handshake.specs.declared.answer.Reply.{Reply}
use Rattle.sctp_handshake.specs.declared.answer.Reply.TheVariants.{CookieEcho, Init, Shutdown, ShutdownAck}
use Rattle.sctp_handshake.specs.declared.machine.Machine.{Machine}
use Rattle.sctp_handshake.specs.declared.offer.Offer.{Offer}
use Rattle.sctp_handshake.specs.declared.state.State.{State}
use Rattle.sctp_handshake.specs.declared.state.State.TheVariants.{Closed, CookieEchoed, CookieWait, Established, ShutdownPending, ShutdownReceived}
use Rattle.sctp_handshake.specs.declared.state.State.TheVariants.{ShutdownAckSent, ShutdownSent}
use Rattle.sctp_path.specs.Rto.{Timeout}
use Rattle.sctp_path.specs.declared.failures.Failures.{Failures}

-- ## The machine

pub knows_same : (m n : Machine) → n ≡ m → KnowsNoMore m n
knows_same m n e = record {
  asking = λ asks. subst (λ (k : Machine). is_asking k.state ≡ true) e asks;
  standing = λ stands. subst (λ (k : Machine). is_standing k.state ≡ true) e stands;
  peer = λ o is. sym (ap (λ (k : Machine). k.peer) e) ∙ is;
  own = ap (λ (k : Machine). k.own) e;
  restarted = ap (λ (k : Machine). k.has_restarted) e;
  limits = ap (λ (k : Machine). k.limits) e;
}

pub knows_then : (m n k : Machine) → KnowsNoMore m n → KnowsNoMore n k → KnowsNoMore m k
knows_then m n k f g = record {
  asking = λ e. f.asking (g.asking e);
  standing = λ e. f.standing (g.standing e);
  peer = λ o e. f.peer o (g.peer o e);
  own = g.own ∙ f.own;
  restarted = g.restarted ∙ f.restarted;
  limits = g.limits ∙ f.limits;
}

knows-closed : (m : Machine) → KnowsNoMore m (closed m)
knows-closed m = record {
  asking = λ e. absurd (false≢true e);
  standing = λ e. absurd (false≢true e);
  peer = λ o e. absurd (none-some o e);
  own = refl;
  restarted = refl;
  limits = refl;
}

-- where an association stands
knows-into : (s : State) (m : Machine) → is_asking s ≡ false → is_standing m.state ≡ true → KnowsNoMore m (into s m)
knows-into s m is stands = record {
  asking = λ e. absurd (false≢true (sym is ∙ e));
  standing = λ e. stands;
  peer = λ o e. e;
  own = refl;
  restarted = refl;
  limits = refl;
}

-- ## Inputs

arrived-knows : (s : State) (m : Machine) → KnowsNoMore m (packet_arrived_row s true m).machine
arrived-knows ShutdownSent m = record { asking = λ e. e; standing = λ e. e; peer = λ o e. e; own = refl; restarted = refl; limits = refl }
arrived-knows _ m = knows_same m m refl

abort-knows : (s : State) (m : Machine) → KnowsNoMore m (abort_row s m).machine
abort-knows Closed m = knows_same m m refl
abort-knows _ m = knows-closed m

shutdown-knows : (s : State) (m : Machine) → m.state ≡ s → KnowsNoMore m (shutdown_row s m).machine
shutdown-knows Established m is = knows-into ShutdownReceived m refl (ap is_standing is)
shutdown-knows ShutdownPending m is = knows-into ShutdownReceived m refl (ap is_standing is)
shutdown-knows ShutdownSent m is = knows-into ShutdownAckSent m refl (ap is_standing is)
shutdown-knows _ m is = knows_same m m refl

asked-knows : (s : State) (m : Machine) → m.state ≡ s → KnowsNoMore m (shutdown_asked_row s m).machine
asked-knows CookieWait m is = knows-closed m
asked-knows Established m is = knows-into ShutdownPending m refl (ap is_standing is)
asked-knows _ m is = knows_same m m refl

ack-knows : (s : State) (m : Machine) → KnowsNoMore m (shutdown_ack_row s m).machine
ack-knows ShutdownSent m = knows-closed m
ack-knows ShutdownAckSent m = knows-closed m
ack-knows _ m = knows_same m m refl

complete-knows : (s : State) (m : Machine) → KnowsNoMore m (shutdown_complete_row s m).machine
complete-knows ShutdownAckSent m = knows-closed m
complete-knows _ m = knows_same m m refl

drained-knows : (s : State) (m : Machine) → m.state ≡ s → KnowsNoMore m (drained_row s m).machine
drained-knows ShutdownPending m is = knows-into ShutdownSent m refl (ap is_standing is)
drained-knows ShutdownReceived m is = knows-into ShutdownAckSent m refl (ap is_standing is)
drained-knows _ m is = knows_same m m refl

-- the handshake begins again in CookieEchoed, where this side asks, too
retried-knows : (b : Bool) (fresh : ℕ) (m : Machine) → m.state ≡ CookieEchoed
    → KnowsNoMore m (record (if b then begun_again fresh m else failed m).machine { own = m.own })
retried-knows true fresh m is = record {
  asking = λ e. ap is_asking is;
  standing = λ e. absurd (false≢true e);
  peer = λ o e. absurd (none-some o e);
  own = refl;
  restarted = refl;
  limits = refl;
}
retried-knows false fresh m is = knows-closed m

stale-knows : (s : State) (fresh : ℕ) (m : Machine) → m.state ≡ s → KnowsNoMore m (record (stale_cookie_row s fresh m).machine { own = m.own })
stale-knows CookieEchoed fresh m is = retried-knows (nat_lt m.stale m.limits.max_init_retransmits) fresh m is
stale-knows _ fresh m is = knows_same m m refl

-- with the same tag or the fresh one
retried-own : (b : Bool) (fresh : ℕ) (m : Machine) → 0 < fresh
    → ((if b then begun_again fresh m else failed m).machine.own ≡ m.own) ⊎ HasFreshTag m.own (if b then begun_again fresh m else failed m).machine.own
retried-own true fresh m some = inr (record { same = refl; some = some })
retried-own false fresh m some = inl refl

stale-own : (s : State) (fresh : ℕ) (m : Machine) → 0 < fresh
    → ((stale_cookie_row s fresh m).machine.own ≡ m.own) ⊎ HasFreshTag m.own (stale_cookie_row s fresh m).machine.own
stale-own CookieEchoed fresh m some = retried-own (nat_lt m.stale m.limits.max_init_retransmits) fresh m some
stale-own _ fresh m some = inl refl

-- the timer of the state ran out
again-knows : (b : Bool) (r : Reply) (m : Machine) → KnowsNoMore m (if b then sent_again r m else failed m).machine
again-knows true r m = record { asking = λ e. e; standing = λ e. e; peer = λ o e. e; own = refl; restarted = refl; limits = refl }
again-knows false r m = knows-closed m

timed-knows : (s : State) (m : Machine) → KnowsNoMore m (timed_out_row s m).machine
timed-knows CookieWait m = again-knows (nat_lt m.attempts m.limits.max_init_retransmits) Init m
timed-knows CookieEchoed m = again-knows (nat_lt m.attempts m.limits.max_init_retransmits) CookieEcho m
timed-knows ShutdownSent m = again-knows (nat_lt m.attempts m.limits.association_max_retrans) Shutdown m
timed-knows ShutdownAckSent m = again-knows (nat_lt m.attempts m.limits.association_max_retrans) ShutdownAck m
timed-knows _ m = knows_same m m refl

module _ (m n : Machine) (a : Answer) where
  taken : (s : Step) → KnowsNoMore m s.machine → Takes s n a → KnowsNoMore m n
  taken s k t = subst (KnowsNoMore m) (sym t.machine) k

  pub knows_arrived : Takes (on_packet_arrived true m) n a → KnowsNoMore m n
  knows_arrived t = taken (on_packet_arrived true m) (arrived-knows m.state m) t

  pub knows_abort : Takes (on_abort m) n a → KnowsNoMore m n
  knows_abort t = taken (on_abort m) (abort-knows m.state m) t

  pub knows_shutdown : Takes (on_shutdown m) n a → KnowsNoMore m n
  knows_shutdown t = taken (on_shutdown m) (shutdown-knows m.state m refl) t

  pub knows_asked : Takes (on_shutdown_asked m) n a → KnowsNoMore m n
  knows_asked t = taken (on_shutdown_asked m) (asked-knows m.state m refl) t

  pub knows_shutdown_ack : Takes (on_shutdown_ack m) n a → KnowsNoMore m n
  knows_shutdown_ack t = taken (on_shutdown_ack m) (ack-knows m.state m) t

  pub knows_complete : Takes (on_shutdown_complete m) n a → KnowsNoMore m n
  knows_complete t = taken (on_shutdown_complete m) (complete-knows m.state m) t

  pub knows_drained : Takes (on_drained m) n a → KnowsNoMore m n
  knows_drained t = taken (on_drained m) (drained-knows m.state m refl) t

  pub knows_timed : Takes (on_timed_out m) n a → KnowsNoMore m n
  knows_timed t = taken (on_timed_out m) (timed-knows m.state m) t

  pub knows_stale : (fresh : ℕ) → Takes (on_stale_cookie fresh m) n a → KnowsNoMore m (record n { own = m.own })
  knows_stale fresh t = subst (λ (k : Machine). KnowsNoMore m (record k { own = m.own })) (sym t.machine) (stale-knows m.state fresh m refl)

  pub own_stale : (fresh : ℕ) → 0 < fresh → Takes (on_stale_cookie fresh m) n a → (n.own ≡ m.own) ⊎ HasFreshTag m.own n.own
  own_stale fresh some t =
      subst (λ (k : Machine). (k.own ≡ m.own) ⊎ HasFreshTag m.own k.own) (sym t.machine) (stale-own m.state fresh m some)

-- so of what this side offers then, where an ERROR told it
pub fresh_own : {o p q : Offer} {Told : Type 0} → (p ≡ o) ⊎ HasFreshTag o p → q ≡ p → Told → (q ≡ o) ⊎ (Told × HasFreshTag o q)
fresh_own (inl same) is told = inl (is ∙ same)
fresh_own {o} (inr fresh) is told = inr (told, subst (HasFreshTag o) (sym is) fresh)

-- the same, where what is dropped tells the machine
pub knows_abort_of : {m n : Machine} {a : Answer} → (a ≡ silent → n ≡ m) → Takes (on_abort m) n a → KnowsNoMore m n
knows_abort_of {m} {n} {a} dropped t = knows_abort m n a t

-- ## The limits of what is sent

-- the limits and the config are the same
pub within_by : (a b : Association) → b.config ≡ a.config → b.outbound.failures.most ≡ a.outbound.failures.most
    → b.outbound.rto.limits ≡ a.outbound.rto.limits → StaysWithin a b
within_by a b config most limits = (
  λ e. most ∙ e ∙ ap (λ (c : Config). c.max_retrans) (sym config),
  λ e. limits ∙ e ∙ ap (λ (c : Config). c.rto) (sym config),
)

pub within_same : (a b : Association) → b.config ≡ a.config → b.outbound ≡ a.outbound → StaysWithin a b
within_same a b config same = within_by a b config (ap (λ (o : Outbound). o.failures.most) same) (ap (λ (o : Outbound). o.rto.limits) same)

pub within_then : (a b c : Association) → StaysWithin a b → StaysWithin b c → StaysWithin a c
within_then a b c f g = (λ e. g.0 (f.0 e), λ e. g.1 (f.1 e))

-- ## The association

pub kept_then : (a b c : Association) → IsKept a b → IsKept b c → IsKept a c
kept_then a b c f g = record {
  config = g.config ∙ f.config;
  key = g.key ∙ f.key;
  machine = g.machine ∙ f.machine;
  owes = λ t e. f.owes t (g.owes t e);
  sending = within_then a b c f.sending g.sending;
}

-- so of one that has the same
pub kept_by : {a b c : Association} → IsKept a b → c.config ≡ b.config → c.key ≡ b.key → c.machine ≡ b.machine → OwesNoMore b c → StaysWithin b c → IsKept a c
kept_by k f g h o w = record {
  config = f ∙ k.config;
  key = g ∙ k.key;
  machine = h ∙ k.machine;
  owes = λ t e. k.owes t (o t e);
  sending = (λ e. w.0 (k.sending.0 e), λ e. w.1 (k.sending.1 e));
}

-- nothing changed
pub kept_same : (a : Association) → IsKept a a
kept_same a = record { config = refl; key = refl; machine = refl; owes = λ t e. e; sending = (λ e. e, λ e. e) }

pub keeps_kept : (a b : Association) → IsKept a b → KeepsPeer a b
keeps_kept a b k = record {
  config = k.config;
  key = k.key;
  machine = knows_same a.machine b.machine k.machine;
  owes = k.owes;
  sending = k.sending;
}

pub keeps_then : (a b c : Association) → KeepsPeer a b → KeepsPeer b c → KeepsPeer a c
keeps_then a b c f g = record {
  config = g.config ∙ f.config;
  key = g.key ∙ f.key;
  machine = knows_then a.machine b.machine c.machine f.machine g.machine;
  owes = λ t e. f.owes t (g.owes t e);
  sending = within_then a b c f.sending g.sending;
}

-- an input that leaves the machine so, and then what stays
pub keeps_by : (a b : Association) (n : Machine) → KnowsNoMore a.machine n → b.config ≡ a.config → b.key ≡ a.key → b.machine ≡ n → OwesNoMore a b
    → StaysWithin a b → KeepsPeer a b
keeps_by a b n k c e is o w = record { config = c; key = e; machine = subst (KnowsNoMore a.machine) (sym is) k; owes = o; sending = w }

-- the same, of a machine that was the association's
pub keeps_as : (a b : Association) (m n : Machine) → KnowsNoMore m n → m ≡ a.machine → b.config ≡ a.config → b.key ≡ a.key → b.machine ≡ n → OwesNoMore a b
    → StaysWithin a b → KeepsPeer a b
keeps_as a b m n k own c e is o w = record {
  config = c;
  key = e;
  machine = subst (λ (x : Machine). KnowsNoMore x b.machine) own (subst (KnowsNoMore m) (sym is) k);
  owes = o;
  sending = w;
}

-- ## The INIT ACK that is due

-- the same is due, or none
pub owes_same : (a b : Association) → b.due ≡ a.due → OwesNoMore a b
owes_same a b e t owed = sym (ap (λ (d : Due). ticket_due d.alone) e) ∙ owed

pub owes_none : (a b : Association) → ticket_due b.due.alone ≡ None → OwesNoMore a b
owes_none a b none t owed = absurd (none-some t (sym none ∙ owed))

-- where nothing has moved
pub unmoved_within : (a b : Association) → IsUnmoved a b → StaysWithin a b
unmoved_within a b u = within_by a b u.config (ap (λ (f : Failures). f.most) u.failures) (ap (λ (t : Timeout). t.limits) u.rto)

pub unmoved_keeps : (a b : Association) → IsUnmoved a b → KeepsPeer a b
unmoved_keeps a b u = record {
  config = u.config;
  key = u.key;
  machine = knows_same a.machine b.machine u.machine;
  owes = λ t e. sym (ap ticket_due u.alone) ∙ e;
  sending = unmoved_within a b u;
}

-- what is due now was due, where nothing is due that was not
pub was : (x y : Bool) → (x ≡ false → y ≡ false) → y ≡ true → x ≡ true
was true y f e = refl
was false y f e = absurd (false≢true (sym (f refl) ∙ e))

pub still_none : {X : Type 0} (x y : Option X) → ((o : X) → y ≡ Some o → x ≡ Some o) → x ≡ None → y ≡ None
still_none x None f e = refl
still_none x (Some o) f e = absurd (none-some o (sym e ∙ f o refl))

pub owes_alike : (d : Due) → OwesLess d d
owes_alike d = record {
  cookie_echo = λ e. e;
  cookie_ack = λ e. e;
  shutdown = λ e. e;
  shutdown_ack = λ e. e;
  heartbeat = λ info e. e;
  report = λ r e. e;
}

pub unmoved_same : (a : Association) → IsUnmoved a a
unmoved_same a = record {
  config = refl;
  key = refl;
  machine = refl;
  alone = refl;
  cookie = refl;
  events = refl;
  over = refl;
  wants = refl;
  control = refl;
  guard = refl;
  failures = refl;
  rto = refl;
  usable = λ s. refl;
  due = owes_alike a.due;
  sack = λ e. e;
  unknown = λ s e. e;
}

less_then : {d e f : Due} → OwesLess d e → OwesLess e f → OwesLess d f
less_then h k = record {
  cookie_echo = λ e. k.cookie_echo (h.cookie_echo e);
  cookie_ack = λ e. k.cookie_ack (h.cookie_ack e);
  shutdown = λ e. k.shutdown (h.shutdown e);
  shutdown_ack = λ e. k.shutdown_ack (h.shutdown_ack e);
  heartbeat = λ info e. h.heartbeat info (k.heartbeat info e);
  report = λ r e. h.report r (k.report r e);
}

pub unmoved_then : (a b c : Association) → IsUnmoved a b → IsUnmoved b c → IsUnmoved a c
unmoved_then a b c f g = record {
  config = g.config ∙ f.config;
  key = g.key ∙ f.key;
  machine = g.machine ∙ f.machine;
  alone = g.alone ∙ f.alone;
  cookie = g.cookie ∙ f.cookie;
  events = g.events ∙ f.events;
  over = g.over ∙ f.over;
  wants = g.wants ∙ f.wants;
  control = g.control ∙ f.control;
  guard = g.guard ∙ f.guard;
  failures = g.failures ∙ f.failures;
  rto = g.rto ∙ f.rto;
  usable = λ s. g.usable s ∙ f.usable s;
  due = less_then f.due g.due;
  sack = λ e. g.sack (f.sack e);
  unknown = λ s e. f.unknown s (g.unknown s e);
}

-- ## Beside both halves, the requests and the events

pub rest_same : (a : Association) → RestStays a a
rest_same a = record { due = refl; control = refl; guard = refl; over = refl; wants = refl; acks = refl; events = refl }

pub rest_then : (a b c : Association) → RestStays a b → RestStays b c → RestStays a c
rest_then a b c f g = record {
  due = g.due ∙ f.due;
  control = g.control ∙ f.control;
  guard = g.guard ∙ f.guard;
  over = g.over ∙ f.over;
  wants = g.wants ∙ f.wants;
  acks = g.acks ∙ f.acks;
  events = g.events ∙ ap (λ (e : Events). brought_at 130 e c.events) f.events;
}
