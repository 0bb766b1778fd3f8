-- What follows from a step of the state machine.
use Rattle.std.proofs.Common.{◌≡◌, ◌⊎◌, ℕ, Bool, true, false, List, Option, Some, None, refl, ap, sym, subst, arith, ◌∙◌, inl, inr}
use Rattle.std.proofs.lemmas.Bool.{false≢true, ne_eqb}
use Rattle.std.proofs.lemmas.Option.{none-some}
use Rattle.std.specs.Prelude.{Result, Ok, Err, IfOk, ◌==◌, ◌≢◌, if◌then◌else◌, is_some}
use Rattle.sctp_association.proofs.Timers.{runs_from, runs_none, runs_told}
use Rattle.sctp_association.specs.Causes.{cause_in}
use Rattle.sctp_association.specs.Coming.{goes_on}
use Rattle.sctp_association.specs.Ends.{IsAbortedBy, IsAbortedByPeer}
use Rattle.sctp_association.specs.Fresh.{fresh_tag}
use Rattle.sctp_association.specs.Kept.{IsKept, RestStays}
use Rattle.sctp_association.specs.Rows.{FollowsAnswer, FollowsStep, RowOn, Settles, StepsOn, asked_for, asked_in}
use Rattle.sctp_association.specs.Rows.{drained_where, over_by, owed_by, owed_once, row_at, row_of, settled, still_wants, tag_of, tag_to}
use Rattle.sctp_association.specs.Sending.{holds_nothing}
use Rattle.sctp_association.specs.Telling.{ending_by, passed_on, whole_of}
use Rattle.sctp_association.specs.Timers.{EntersTimers, KeepsTimers, RunsTimers, StartsTimers, StopsTimers, stops}
use Rattle.sctp_association.proofs.Kept.{IsWithin}
use Rattle.sctp_association.specs.declared.association.Association.{Association}
use Rattle.sctp_association.specs.declared.association.arrivals.Step as arrivals
use Rattle.sctp_association.specs.declared.association.arrivals.Step.TheVariants.{Next, Stop, Cut, Refused}
use Rattle.sctp_association.specs.declared.due.Due.{Due}
use Rattle.sctp_association.specs.declared.event.Ending.{Ending}
use Rattle.sctp_association.specs.declared.event.Events.{Events}
use Rattle.sctp_association.specs.declared.fault.Fault.{Fault}
use Rattle.sctp_association.specs.declared.outbound.Outbound.{Outbound}
use Rattle.sctp_datagram.specs.declared.datagram.ChunkPlace.{ChunkPlace}
use Rattle.sctp_handshake.specs.Answers.{silent}
use Rattle.sctp_handshake.specs.Endings.{drained_row, on_drained, on_shutdown_asked, shutdown_asked_row}
use Rattle.sctp_handshake.specs.Machines.{Step, dropped}
use Rattle.sctp_handshake.specs.declared.answer.Answer.{Answer}
use Rattle.sctp_handshake.specs.declared.answer.Reply.{Reply}
use Rattle.sctp_handshake.specs.declared.answer.Reply.TheVariants as reply
use Rattle.sctp_handshake.specs.declared.answer.Told.{Told}
use Rattle.sctp_handshake.specs.declared.answer.Told.TheVariants as told
use Rattle.sctp_handshake.specs.declared.machine.Machine.{Machine}
use Rattle.sctp_handshake.specs.declared.state.State.{State}
use Rattle.sctp_handshake.specs.declared.state.State.TheVariants.{Closed, Established, ShutdownAckSent, ShutdownPending, ShutdownReceived, ShutdownSent}
use Rattle.sctp_handshake.specs.States.{timer}

-- ## An answer is followed

-- nothing is answered
pub follows_none : (a : Answer) (tag : ℕ) (before : State) (now : ℕ) (x : Association) → a.reply ≡ None → a.told ≡ None → x.machine.state ≡ before
    → FollowsAnswer a tag before now x x
follows_none a tag before now x reply told state = record {
  due = sym (ap (λ o. by (owed_once a.told (owed_by o tag x.due))) reply ∙ ap (λ o. by (owed_once o x.due)) told);
  timers = runs_none a before now x x reply told state refl refl;
  over = sym (ap (λ o. over_by o x.is_over) told);
  told = sym (ap (λ o. passed_on o (ending_by (is_some a.reply)) (whole_of x.events)) told);
  wants = refl;
}
  where
    by : Due → Due
    by d = record d { heartbeat = x.due.heartbeat; report = x.due.report }

-- nothing is answered, and another reply may be due
pub follows_still : (tag now : ℕ) (x y : Association) → y.machine ≡ x.machine
    → y.due ≡ record x.due { heartbeat = y.due.heartbeat; report = y.due.report } → y.is_over ≡ x.is_over
    → y.wants_shutdown ≡ x.wants_shutdown → y.control ≡ x.control → y.guard ≡ x.guard → whole_of y.events ≡ whole_of x.events
    → FollowsStep (dropped x.machine) tag now x y
follows_still tag now x y machine due over wants control guard whole = record {
  machine = machine;
  answer = record {
    due = due;
    timers = runs_none silent x.machine.state now x y refl refl (ap (λ (m : Machine). m.state) machine) control guard;
    over = over;
    told = whole;
    wants = wants;
  };
}

-- what came before left what is due
pub follows_from : (r : Answer) (tag : ℕ) (before was : State) (now : ℕ) (x y e : Association) → FollowsAnswer r tag was now y e → was ≡ before
    → y.due ≡ x.due → y.is_over ≡ x.is_over → y.wants_shutdown ≡ x.wants_shutdown → y.control ≡ x.control → y.guard ≡ x.guard
    → whole_of y.events ≡ whole_of x.events → FollowsAnswer r tag before now x e
follows_from r tag before was now x y e h same due over wants control guard whole = record {
  due = h.due ∙ ap (λ (d : Due). record (owed_once r.told (owed_by r.reply tag d)) { heartbeat = e.due.heartbeat; report = e.due.report }) due;
  timers = subst (λ (s : State). RunsTimers r s now x e) same (runs_from r was now x y e control guard h.timers);
  over = h.over ∙ ap (λ (b : Bool). over_by r.told b) over;
  told = h.told ∙ ap (λ (v : Events). passed_on r.told (ending_by (is_some r.reply)) v) whole;
  wants = h.wants ∙ wants;
}

-- so is it where a report was noted
pub follows_noted : (r : Answer) (tag : ℕ) (before : State) (now : ℕ) (x y e : Association) → y.due ≡ record x.due { report = y.due.report }
    → y.is_over ≡ x.is_over → y.wants_shutdown ≡ x.wants_shutdown → y.control ≡ x.control → y.guard ≡ x.guard
    → whole_of y.events ≡ whole_of x.events → FollowsAnswer r tag before now y e → FollowsAnswer r tag before now x e
follows_noted r tag before now x y e due over wants control guard whole h = record {
  due = h.due ∙ ap (λ (d : Due). record (owed_once r.told (owed_by r.reply tag d)) { heartbeat = e.due.heartbeat; report = e.due.report }) due
      ∙ reported r.told r.reply;
  timers = runs_from r before now x y e control guard h.timers;
  over = h.over ∙ ap (λ (b : Bool). over_by r.told b) over;
  told = h.told ∙ ap (λ (v : Events). passed_on r.told (ending_by (is_some r.reply)) v) whole;
  wants = h.wants ∙ wants;
}
  where
    by : Due → Due
    by d = record d { heartbeat = e.due.heartbeat; report = e.due.report }

    told-of : (t : Option Told) (k : Option Reply) → by (owed_by k tag (record x.due { report = y.due.report })) ≡ by (owed_by k tag x.due)
        → by (owed_once t (owed_by k tag (record x.due { report = y.due.report }))) ≡ by (owed_once t (owed_by k tag x.due))
    told-of None k h = h
    told-of (Some told.Connected) k h = ap (λ (d : Due). record d { cookie_echo = false }) h
    told-of (Some told.Restarted) k h = ap (λ (d : Due). record d { cookie_echo = false }) h
    told-of (Some _) k h = h

    replied : (k : Option Reply) → by (owed_by k tag (record x.due { report = y.due.report })) ≡ by (owed_by k tag x.due)
    replied None = refl
    replied (Some (reply.ShutdownComplete true)) = refl
    replied (Some (reply.ShutdownComplete false)) = refl
    replied (Some _) = refl

    reported : (t : Option Told) (k : Option Reply)
        → by (owed_once t (owed_by k tag (record x.due { report = y.due.report }))) ≡ by (owed_once t (owed_by k tag x.due))
    reported t k = told-of t k (replied k)

whole-passed : (t : Told) (how : Ending) (e : Events) → whole_of (passed_on (Some t) how e) ≡ passed_on (Some t) how (whole_of e)
whole-passed told.Connected how e = refl
whole-passed told.Restarted how e = refl
whole-passed told.ShutdownBegun how e = refl
whole-passed told.Closed how e = refl
whole-passed told.Failed how e = refl

-- the timers run, its reply is due, and what it tells is passed on
module _ (a : Answer) (tag : ℕ) (before : State) (now : ℕ) (x y z e : Association) (first : y ≡ record x { control = y.control; guard = y.guard })
    (next : z ≡ record y { due = owed_by a.reply tag y.due }) where
  ran : z ≡ record x { control = z.control; guard = z.guard; due = owed_by a.reply tag x.due }
  ran = next ∙ ap (λ (k : Association). record k { control = y.control; guard = y.guard; due = owed_by a.reply tag k.due }) first
      ∙ ap (λ (k : Association). record x { control = k.control; guard = k.guard; due = owed_by a.reply tag x.due }) (sym next)

  pub follows_told : ((y.machine.state ≢ before) ⊎ (a.reply ≡ Some reply.Shutdown) → StartsTimers now x y)
      → (y.machine.state ≡ before → a.reply ≢ Some reply.Shutdown → KeepsTimers x y) → (t : Told) → a.told ≡ Some t → e.due ≡ owed_once (Some t) z.due
      → e.is_over ≡ over_by (Some t) z.is_over → e.events ≡ passed_on (Some t) (ending_by (is_some a.reply)) z.events
      → e.wants_shutdown ≡ z.wants_shutdown
      → e.machine ≡ z.machine
      → e.config ≡ z.config → (stops (Some t) ≡ true → StopsTimers e) → (stops (Some t) ≡ false → KeepsTimers z e)
      → (stops (Some t) ≡ false → e.outbound.rto ≡ z.outbound.rto) → FollowsAnswer a tag before now x e
  follows_told start keep t is due over told wants machine config stop kept rto = record {
    due = owed ∙ ap (λ (d : Due). record (owed_once a.told (owed_by a.reply tag x.due)) { heartbeat = d.heartbeat; report = d.report }) (sym owed);
    timers = runs_told a before now x y e start keep (machine ∙ ap (λ (k : Association). k.machine) next) (config ∙ ap (λ (k : Association). k.config) next)
        (λ s. stop (goes true s)) (λ s. let k = kept (goes false s) in record {
          control = k.control ∙ ap (λ (k : Association). k.control) next;
          guard = k.guard ∙ ap (λ (k : Association). k.guard) next;
        }) (λ s. rto (goes false s) ∙ ap (λ (k : Association). k.outbound.rto) next);
    over = over ∙ ap (λ (k : Association). over_by (Some t) k.is_over) ran ∙ ap (λ o. over_by o x.is_over) (sym is);
    told = ap whole_of told ∙ whole-passed t (ending_by (is_some a.reply)) z.events
        ∙ ap (λ (k : Association). passed_on (Some t) (ending_by (is_some a.reply)) (whole_of k.events)) ran
        ∙ ap (λ o. passed_on o (ending_by (is_some a.reply)) (whole_of x.events)) (sym is);
    wants = wants ∙ ap (λ (k : Association). k.wants_shutdown) ran;
  }
    where
      owed : e.due ≡ owed_once a.told (owed_by a.reply tag x.due)
      owed = due ∙ ap (λ (k : Association). owed_once (Some t) k.due) ran ∙ ap (λ o. owed_once o (owed_by a.reply tag x.due)) (sym is)

      goes : (b : Bool) → stops a.told ≡ b → stops (Some t) ≡ b
      goes b s = sym (ap stops is) ∙ s

-- the machine takes a step, and then its answer is followed
pub follows_step : (s : Step) (tag now : ℕ) (x y : Association) (n : Machine) (a : Answer) → n ≡ s.machine → a ≡ s.answer → y.machine ≡ n
    → FollowsAnswer a tag x.machine.state now x y → FollowsStep s tag now x y
follows_step s tag now x y n a machine answer is h = record {
  machine = is ∙ machine;
  answer = subst (λ (k : Answer). FollowsAnswer k tag x.machine.state now x y) answer h;
}

-- an error of the peer is told besides
pub follows_error : (s : Step) (tag now : ℕ) (x y : Association) (cause : Option ℕ) (p : IsWithin y) → FollowsStep s tag now x y
    → FollowsStep s tag now x (record y { events = record y.events { peer_error = cause }; limited = p })
follows_error s tag now x y cause p h =
    let t = h.answer.timers in
    record {
      machine = h.machine;
      answer = record {
        due = h.answer.due;
        timers = record {
          stop = λ off. let k = t.stop off in record { control = k.control; guard = k.guard };
          start = λ off other. let k = t.start off other in record { control = k.control; guard = k.guard };
          keep = λ off same none. let k = t.keep off same none in record { control = k.control; guard = k.guard };
        };
        over = h.answer.over;
        told = h.answer.told;
        wants = h.answer.wants;
      };
    }

-- ## The row of a chunk

-- its row by its type
pub row_typ : (c : ChunkPlace) (d : List ℕ) (now : ℕ) (a : Association) (n : ℕ) → c.typ ≡ n
    → row_of c d now a ≡ row_at n (cause_in d c) (fresh_tag a.key now a.machine.own) a.machine
row_typ c d now a n typ = ap (λ k. row_at k (cause_in d c) (fresh_tag a.key now a.machine.own) a.machine) typ

module _ (c : ChunkPlace) (d : List ℕ) (now : ℕ) (a b : Association) where
  pub row_is : (t : Step) (n : ℕ) → c.typ ≢ 6 → row_of c d now a ≡ t → tag_to c.typ a.machine ≡ n → (s : arrivals.Step) → StepsOn t n now s a b
      → RowOn c d now s a b
  row_is t n other row tag Next h =
      (other, subst (λ k. FollowsStep (row_of c d now a) k now a b) (sym tag) (subst (λ (k : Step). FollowsStep k n now a b) (sym row) h))
  row_is t n other row tag Stop h = absurd h
  row_is t n other row tag Cut h = absurd h
  row_is t n other row tag (Refused r) h = tt

  pub row_steps : (t : Step) (n : ℕ) → c.typ ≢ 6 → row_of c d now a ≡ t → tag_to c.typ a.machine ≡ n → (r : Result arrivals.Step Fault)
      → IfOk r (λ s. StepsOn t n now s a b) → IfOk r (λ s. RowOn c d now s a b)
  row_steps t n other row tag (Ok s) h = row_is t n other row tag s h
  row_steps t n other row tag (Err e) h = tt

  -- a chunk behind which the datagram goes on may end the association
  pub row_goes : (t : Step) (n : ℕ) → row_of c d now a ≡ t → tag_to c.typ a.machine ≡ n → goes_on c.typ ≡ true → (s : arrivals.Step)
      → (s ≡ Next → FollowsStep t n now a b) → (s ≡ Stop → IsAbortedBy c d a.machine.peer b) → RowOn c d now s a b
  row_goes t n row tag goes Next next stop = row_is t n (λ is. false≢true (sym (ap goes_on is) ∙ goes)) row tag Next (next refl)
  row_goes t n row tag goes Stop next stop = inr (goes, stop refl)
  row_goes t n row tag goes Cut next stop = tt
  row_goes t n row tag goes (Refused r) next stop = tt

  -- a RE-CONFIG leaves the state, what is due, and the timers of the state
  pub row_reset : c.typ ≡ 130 → IsKept a b → RestStays a b → (r : Result arrivals.Step Fault) → (r ≡ Ok Stop → ⊥) → IfOk r (λ s. RowOn c d now s a b)
  row_reset typ kept rest r stop = by r refl
    where
      still : FollowsStep (dropped a.machine) 0 now a b
      still = follows_still 0 now a b kept.machine
          (rest.due ∙ ap (λ (k : Due). record a.due { heartbeat = k.heartbeat; report = k.report }) (sym rest.due))
          rest.over rest.wants rest.control rest.guard (ap whole_of rest.events)

      on : (s : arrivals.Step) → r ≡ Ok s → RowOn c d now s a b
      on Next is =
          row_is (dropped a.machine) 0 (λ e. omega (arith, e, typ)) (row_typ c d now a 130 typ) (ap (λ n. tag_to n a.machine) typ) Next still
      on Stop is = absurd (stop is)
      on Cut is = tt
      on (Refused why) is = tt

      by : (q : Result arrivals.Step Fault) → r ≡ q → IfOk q (λ s. RowOn c d now s a b)
      by (Ok s) is = on s is
      by (Err e) is = tt

  pub row_abort : (s : arrivals.Step) → c.typ ≡ 6 → (s ≡ Next → ⊥) → (s ≡ Stop → IsAbortedByPeer a b) → RowOn c d now s a b
  row_abort Next typ next stop = absurd (next refl)
  row_abort Stop typ next stop = inl (typ, stop refl)
  row_abort Cut typ next stop = tt
  row_abort (Refused r) typ next stop = tt

-- an answer is followed, or the chunk is not expected
pub steps_on : (t : Step) (n now : ℕ) (a b : Association) (s : arrivals.Step) → (s ≡ Next → FollowsStep t n now a b) → (s ≡ Stop → ⊥)
    → (s ≡ Cut → ⊥) → StepsOn t n now s a b
steps_on t n now a b Next next stop cut = next refl
steps_on t n now a b Stop next stop cut = absurd (stop refl)
steps_on t n now a b Cut next stop cut = absurd (cut refl)
steps_on t n now a b (Refused r) next stop cut = tt

row_if : (typ n : ℕ) (s t : Step) → (typ ≡ n → ⊥) → (if typ == n then s else t) ≡ t
row_if typ n s t other = ap (λ b. if b then s else t) (ne_eqb typ n other)

-- of no other type has the table a row
pub row_other : (typ : ℕ) (cause : Option ℕ) (fresh : ℕ) (m : Machine) → (typ ≡ 0 → ⊥) → (typ ≡ 6 → ⊥) → (typ ≡ 7 → ⊥) → (typ ≡ 8 → ⊥) → (typ ≡ 9 → ⊥)
    → (typ ≡ 11 → ⊥) → (typ ≡ 14 → ⊥) → row_at typ cause fresh m ≡ dropped m
row_other typ cause fresh m n0 n6 n7 n8 n9 n11 n14 =
    row_if typ 0 _ _ n0 ∙ row_if typ 6 _ _ n6 ∙ row_if typ 7 _ _ n7 ∙ row_if typ 8 _ _ n8 ∙ row_if typ 9 _ _ n9 ∙ row_if typ 11 _ _ n11
    ∙ row_if typ 14 _ _ n14

pub tag_other : (typ : ℕ) (m : Machine) → (typ ≡ 8 → ⊥) → tag_to typ m ≡ 0
tag_other typ m other = ap (λ b. if b then tag_of m.peer else 0) (ne_eqb typ 8 other)

-- ## The datagram ends

pub asked_closed : (wants : Bool) (m : Machine) → m.state ≡ Closed → asked_for wants m ≡ m
asked_closed true m is = ap (λ s. asked_in s m) is
asked_closed false m is = refl

drained-closed : (drained : Bool) (m : Machine) → m.state ≡ Closed → drained_where drained m ≡ dropped m
drained-closed true m is = ap (λ s. drained_row s m) is
drained-closed false m is = refl

-- no shutdown was asked for, or the association does not stand
asked-none : (s : State) (wants : Bool) (m : Machine) → (wants ≡ true → s ≡ Established → ⊥)
    → ((if wants then asked_in s m else m) ≡ m) × (still_wants s wants ≡ wants)
asked-none Established true m idle = absurd (idle refl refl)
asked-none Established false m idle = (refl, refl)
asked-none _ true m idle = (refl, refl)
asked-none _ false m idle = (refl, refl)

-- the shutdown that was asked for begins, and else all of it stays
pub record Asked (x y : Association) : Type 0 where
  pub machine : y.machine ≡ asked_for x.wants_shutdown x.machine
  pub wants : y.wants_shutdown ≡ still_wants x.machine.state x.wants_shutdown
  pub due : y.due ≡ x.due
  pub over : y.is_over ≡ x.is_over
  pub outbound : y.outbound ≡ x.outbound
  pub control : y.control ≡ x.control
  pub guard : y.guard ≡ x.guard

pub asked_idle : (x y : Association) → y ≡ x → (x.wants_shutdown ≡ true → x.machine.state ≡ Established → ⊥) → Asked x y
asked_idle x y is idle =
    let none = asked-none x.machine.state x.wants_shutdown x.machine idle in
    record {
      machine = ap (λ (k : Association). k.machine) is ∙ sym none.0;
      wants = ap (λ (k : Association). k.wants_shutdown) is ∙ sym none.1;
      due = ap (λ (k : Association). k.due) is;
      over = ap (λ (k : Association). k.is_over) is;
      outbound = ap (λ (k : Association). k.outbound) is;
      control = ap (λ (k : Association). k.control) is;
      guard = ap (λ (k : Association). k.guard) is;
    }

pub asked_begins : (x : Association) → x.wants_shutdown ≡ true → x.machine.state ≡ Established
    → ((on_shutdown_asked x.machine).machine ≡ asked_for x.wants_shutdown x.machine) × (false ≡ still_wants x.machine.state x.wants_shutdown)
asked_begins x wants stands = (
  ap (λ (s : State). (shutdown_asked_row s x.machine).machine) stands ∙ sym (ap (λ (s : State). asked_in s x.machine) stands)
      ∙ sym (ap (λ (b : Bool). if b then asked_in x.machine.state x.machine else x.machine) wants),
  sym (ap (λ (s : State). still_wants s x.wants_shutdown) stands),
)

-- it is noted that nothing waits or is in flight, if that is so
pub settles_by : (now : ℕ) (x y e : Association) → Asked x y → (holds_nothing y.outbound.sender ≡ false → e ≡ y)
    → (holds_nothing y.outbound.sender ≡ true → e.machine ≡ (on_drained y.machine).machine)
    → e.due ≡ owed_by (drained_where (holds_nothing y.outbound.sender) y.machine).answer.reply 0 y.due → e.is_over ≡ y.is_over → e.outbound ≡ y.outbound
    → e.wants_shutdown ≡ y.wants_shutdown
    → RunsTimers (drained_where (holds_nothing y.outbound.sender) y.machine).answer y.machine.state now y e → Settles now x e
settles_by now x y e is waits drained due over outbound wants timers = record {
  machine = machine-of (holds_nothing y.outbound.sender) refl ∙ ap (λ (s : Step). s.machine) step;
  due = due ∙ ap (λ (s : Step). owed_by s.answer.reply 0 y.due) step ∙ ap (λ (d : Due). owed_by (settled x).answer.reply 0 d) is.due;
  over = over ∙ is.over;
  outbound = outbound ∙ is.outbound;
  wants = wants ∙ is.wants;
  timers = subst (λ (s : Step). RunsTimers s.answer (asked_for x.wants_shutdown x.machine).state now x e) step (
      subst (λ (m : Machine). RunsTimers (drained_where (holds_nothing y.outbound.sender) y.machine).answer m.state now x e) is.machine
      (runs_from _ _ now x y e is.control is.guard timers)
      );
}
  where
    step : drained_where (holds_nothing y.outbound.sender) y.machine ≡ settled x
    step = ap (λ (m : Machine). drained_where (holds_nothing y.outbound.sender) m) is.machine
        ∙ ap (λ (o : Outbound). drained_where (holds_nothing o.sender) (asked_for x.wants_shutdown x.machine)) is.outbound

    machine-of : (b : Bool) → holds_nothing y.outbound.sender ≡ b → e.machine ≡ (drained_where (holds_nothing y.outbound.sender) y.machine).machine
    machine-of true b = drained b ∙ sym (ap (λ (k : Bool). (drained_where k y.machine).machine) b)
    machine-of false b = ap (λ (k : Association). k.machine) (waits b) ∙ sym (ap (λ (k : Bool). (drained_where k y.machine).machine) b)

-- what came before left all that this looks at
pub settles_from : (now : ℕ) (x y e : Association) → y.machine ≡ x.machine → y.due ≡ x.due → y.is_over ≡ x.is_over → y.outbound ≡ x.outbound
    → y.wants_shutdown ≡ x.wants_shutdown → y.control ≡ x.control → y.guard ≡ x.guard → Settles now y e → Settles now x e
settles_from now x y e machine due over outbound wants control guard h = record {
  machine = h.machine ∙ ap (λ (s : Step). s.machine) step;
  due = h.due ∙ ap (λ (s : Step). owed_by s.answer.reply 0 y.due) step ∙ ap (λ (d : Due). owed_by (settled x).answer.reply 0 d) due;
  over = h.over ∙ over;
  outbound = h.outbound ∙ outbound;
  wants = h.wants ∙ ap (λ (m : Machine). still_wants m.state y.wants_shutdown) machine ∙ ap (λ (w : Bool). still_wants x.machine.state w) wants;
  timers = subst (λ (s : Step). RunsTimers s.answer (asked_for x.wants_shutdown x.machine).state now x e) step (
      subst (λ (m : Machine). RunsTimers (settled y).answer m.state now x e) asked (runs_from _ _ now x y e control guard h.timers)
      );
}
  where
    asked : asked_for y.wants_shutdown y.machine ≡ asked_for x.wants_shutdown x.machine
    asked = ap (λ (m : Machine). asked_for y.wants_shutdown m) machine ∙ ap (λ (w : Bool). asked_for w x.machine) wants

    step : settled y ≡ settled x
    step = ap (λ (m : Machine). drained_where (holds_nothing y.outbound.sender) m) asked
        ∙ ap (λ (o : Outbound). drained_where (holds_nothing o.sender) (asked_for x.wants_shutdown x.machine)) outbound

-- where it is closed no shutdown goes on
pub settled_closed : (x : Association) → x.machine.state ≡ Closed → settled x ≡ dropped x.machine
settled_closed x is =
    ap (λ m. drained_where (holds_nothing x.outbound.sender) m) (asked_closed x.wants_shutdown x.machine is)
    ∙ drained-closed (holds_nothing x.outbound.sender) x.machine is

-- ## A shutdown goes on

-- another state is entered that has a timer, and nothing is told
record Moves (m : Machine) (s : Step) : Type 0 where
  other : s.machine.state ≢ m.state
  timed : is_some (timer s.machine.state) ≡ true
  silent : s.answer.told ≡ None

drained-moves : (s : State) (m : Machine) → m.state ≡ s → (drained_row s m ≡ dropped m) ⊎ Moves m (drained_row s m)
drained-moves ShutdownPending m is = inr (record { other = λ same. state-differs (same ∙ is); timed = refl; silent = refl })
  where
    state-differs : ShutdownSent ≡ ShutdownPending → ⊥
    state-differs e = cc
drained-moves ShutdownReceived m is = inr (record { other = λ same. state-differs (same ∙ is); timed = refl; silent = refl })
  where
    state-differs : ShutdownAckSent ≡ ShutdownReceived → ⊥
    state-differs e = cc
drained-moves _ m is = inl refl

goes-or-stays : (drained : Bool) (m : Machine) → (drained_where drained m ≡ dropped m) ⊎ Moves m (drained_where drained m)
goes-or-stays true m = drained-moves m.state m refl
goes-or-stays false m = inl refl

-- the state once the shutdown is asked for
asked-state : (s : State) (wants : Bool) (m : Machine) → m.state ≡ s
    → ((if wants then asked_in s m else m).state ≡ m.state) ⊎ ((s ≡ Established) × ((if wants then asked_in s m else m).state ≡ ShutdownPending))
asked-state Established true m is = inr (refl, refl)
asked-state _ true m is = inl refl
asked-state _ false m is = inl refl

pub settles_enters : (now : ℕ) (x e : Association) → Settles now x e → EntersTimers now x e
settles_enters now x e h = by (goes-or-stays (holds_nothing x.outbound.sender) n)
  where
    n : Machine
    n = asked_for x.wants_shutdown x.machine

    state : e.machine.state ≡ (settled x).machine.state
    state = ap (λ (m : Machine). m.state) h.machine

    asked : (n.state ≡ x.machine.state) ⊎ ((x.machine.state ≡ Established) × (n.state ≡ ShutdownPending))
    asked = asked-state x.machine.state x.wants_shutdown x.machine refl

    never : Moves n (settled x) → (e.machine.state ≡ x.machine.state) ⊎ (timer e.machine.state ≡ None) → ⊥
    never m (inl same) = elim asked [
      | inl is ↦ m.other (sym state ∙ same ∙ sym is)
      | inr p ↦ false≢true (sym (ap (λ s. is_some (timer s)) (sym state ∙ same ∙ p.0)) ∙ m.timed)
    ]
    never m (inr none) = false≢true (sym (ap is_some none) ∙ ap (λ s. is_some (timer s)) state ∙ m.timed)

    by : (settled x ≡ dropped n) ⊎ Moves n (settled x) → EntersTimers now x e
    by (inl stays) =
        let same : e.machine.state ≡ n.state = state ∙ ap (λ (s : Step). s.machine.state) stays in
        record {
          start = λ other has. elim asked [
            | inl is ↦ absurd (other (same ∙ is))
            | inr p ↦ absurd (false≢true (sym (ap (λ s. is_some (timer s)) (same ∙ p.1)) ∙ has))
          ];
          keep = λ why. h.timers.keep (ap (λ (s : Step). stops s.answer.told) stays) same (λ is.
              none-some reply.Shutdown (sym (ap (λ (s : Step). s.answer.reply) stays) ∙ is));
        }
    by (inr m) = record {
      start = λ other has. h.timers.start (ap stops m.silent) (inl (λ is. m.other (sym state ∙ is)));
      keep = λ why. absurd (never m why);
    }
