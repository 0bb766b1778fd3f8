-- Each packet that is written leaves fewer packets that can leave at the same moment.
use Rattle.sctp_association.specs.Congested.{Path}
use Rattle.std.proofs.Common.{◌≡◌, ◌⊎◌, inl, inr, ℕ, ◌+◌, ◌<◌, ◌≤◌, Bool, true, false, List, [], ◌∷◌, length, Option, Some, None, refl, sym, ap, subst, ◌∙◌}
use Rattle.std.proofs.Common.{arith}
use Rattle.std.proofs.lemmas.Bool.{cases_lt, false≢true}
use Rattle.std.proofs.lemmas.List.{append-nil}
use Rattle.std.proofs.lemmas.Option.{none-some}
use Rattle.std.specs.Prelude.{IfSome, is_some}
use Rattle.std.specs.List.{AllByRecursion}
use Rattle.sctp_association.proofs.Idle.{draft-length}
use Rattle.sctp_association.proofs.Others.{beats_same, once_puts, others_puts}
use Rattle.sctp_association.specs.Rows.{owed_by}
use Rattle.sctp_association.specs.declared.association.Association.{Association}
use Rattle.sctp_association.specs.declared.due.Due.{Due}
use Rattle.sctp_association.specs.declared.outbound.Outbound.{Outbound}
use Rattle.sctp_association.specs.Halves.{IsAsTimed, PutsDue, PutsOnce, PutsOthers}
use Rattle.sctp_association.specs.Kept.{IsUnmoved, sack_waits, unknown_in}
use Rattle.sctp_association.specs.Leaving.{AsksNoMore, IsDueOnce, IsParamOnce, OwedAt, OwesNothingNew, beats, one_where, owed_at, owed_of}
use Rattle.sctp_association.specs.Leaving.{requests_due}
use Rattle.sctp_association.specs.Most.{FewerWherePut, most_data, most_packets, most_replies, packets_in, shutdowns_left}
use Rattle.sctp_association.specs.Packets.{Adds, with_chunks}
use Rattle.sctp_chunks.specs.Wire.{Wire, cookie_ack_chunk, cookie_echo_chunk, error_chunk, heartbeat_ack_chunk, heartbeat_chunk, reconfig_chunk, sack_chunk}
use Rattle.sctp_chunks.specs.Wire.{forward_tsn_chunk}
use Rattle.sctp_chunks.specs.Wire.{shutdown_ack_chunk, shutdown_chunk}
use Rattle.sctp_handshake.specs.declared.answer.Answer.{Answer}
use Rattle.sctp_handshake.specs.declared.machine.Machine.{Machine}
use Rattle.sctp_handshake.specs.Endings.{drained_row, on_drained, on_shutdown_asked, shutdown_asked_row}
use Rattle.sctp_handshake.specs.Machines.{Takes}
use Rattle.sctp_handshake.specs.declared.state.State.{State}
use Rattle.sctp_handshake.specs.declared.state.State.TheVariants.{CookieWait, Established, ShutdownAckSent, ShutdownPending, ShutdownReceived, ShutdownSent}
use Rattle.sctp_packets.specs.Draft.{IsDraft}
use Rattle.sctp_packets.specs.Packet.{Parts, body_of}
use Rattle.sctp_params.specs.Param.{Parameter, outgoing_reset_request, reconfig_response}

-- ## Steps

pub fewer_same : (m n : ℕ) (x y : List ℕ) → n ≡ m → y ≡ x → FewerWherePut m n x y
fewer_same m n x y e f = record { most = omega (arith, e); fewer = λ more. omega (arith, more, ap length f) }

pub fewer_less : (m n : ℕ) (x y : List ℕ) → n < m → FewerWherePut m n x y
fewer_less m n x y less = record { most = omega (arith, less); fewer = λ _. less }

pub fewer_then : (m n o : ℕ) (x y z : List ℕ) → FewerWherePut m n x y → FewerWherePut n o y z → FewerWherePut m o x z
fewer_then m n o x y z a b = record { most = omega (arith, a.most, b.most); fewer = fewer }
  where
    fewer : length x < length z → o < m
    fewer more = by (cases_lt (length x) (length y))
      where
        by : (length x < length y) ⊎ (length y ≤ length x) → o < m
        by (inl grew) = let less = a.fewer grew in let most = b.most in omega (arith, less, most)
        by (inr short) = let less = b.fewer (omega (arith, short, more)) in let most = a.most in omega (arith, less, most)

-- behind what counts as much
pub fewer_from : (m n o : ℕ) (x y : List ℕ) → n ≡ m → FewerWherePut n o x y → FewerWherePut m o x y
fewer_from m n o x y e s = subst (λ k. FewerWherePut k o x y) e s

pub fewer_to : (m n o : ℕ) (x y : List ℕ) → o ≡ n → FewerWherePut m n x y → FewerWherePut m o x y
fewer_to m n o x y e s = subst (λ k. FewerWherePut m k x y) (sym e) s

-- ## The half that sends

pub data_same : (a b : Outbound) → b.sender ≡ a.sender → b.is_skip_due ≡ a.is_skip_due → most_data b ≡ most_data a
data_same a b sender skip =
    let one = ap one_where skip in
    let rest = ap (λ t. packets_in t.flight.queue) sender in
    omega (arith, one, rest)

-- the FORWARD-TSN that is due leaves
pub skip_less : (k : Bool) (n : ℕ) (x y : List ℕ) → k ≡ true → FewerWherePut (one_where k + n) (0 + n) x y
skip_less k n x y e = let one = ap one_where e in fewer_less (one_where k + n) (0 + n) x y (omega (arith, one))

-- ## Replies

one-few : (x y : Bool) → (x ≡ false → y ≡ false) → one_where y ≤ one_where x
one-few true true h = omega arith
one-few true false h = omega arith
one-few false true h = absurd (false≢true (sym (h refl)))
one-few false false h = omega arith

one-less : (x y : Bool) → x ≡ true → y ≡ false → one_where y < one_where x
one-less x y e f = rw (e, f) (omega arith)

some-few : {X : Type 0} (x y : Option X) → ((v : X) → y ≡ Some v → x ≡ Some v) → one_where (is_some y) ≤ one_where (is_some x)
some-few (Some v) (Some w) h = omega arith
some-few (Some v) None h = omega arith
some-few None (Some w) h = absurd (none-some w (h w refl))
some-few None None h = omega arith

pub some_less : {X : Type 0} (x y : Option X) (v : X) → x ≡ Some v → y ≡ None → one_where (is_some y) < one_where (is_some x)
some_less x y v e f = rw (e, f) (omega arith)

-- what is due one by one, where the state stays
record IsFewer (x y : OwedAt) : Type 0 where
  cookie_echo : one_where y.owed.due.cookie_echo ≤ one_where x.owed.due.cookie_echo
  cookie_ack : one_where y.owed.due.cookie_ack ≤ one_where x.owed.due.cookie_ack
  shutdown : one_where y.owed.due.shutdown ≤ one_where x.owed.due.shutdown
  shutdown_ack : one_where y.owed.due.shutdown_ack ≤ one_where x.owed.due.shutdown_ack
  heartbeat : one_where (is_some y.owed.due.heartbeat) ≤ one_where (is_some x.owed.due.heartbeat)
  report : one_where (is_some y.owed.due.report) ≤ one_where (is_some x.owed.due.report)
  sack : one_where y.owed.sack ≤ one_where x.owed.sack
  unknown : one_where (is_some y.owed.unknown) ≤ one_where (is_some x.owed.unknown)
  state : shutdowns_left y.owed.state ≡ shutdowns_left x.owed.state
  beat : one_where y.beat ≤ one_where x.beat
  request : one_where y.request ≤ one_where x.request
  responses : y.responses ≤ x.responses

few-sum : (x y : OwedAt) → IsFewer x y → most_replies y ≤ most_replies x
few-sum x y f = omega (
  arith,
  f.cookie_echo,
  f.cookie_ack,
  f.shutdown,
  f.shutdown_ack,
  f.heartbeat,
  f.report,
  f.sack,
  f.unknown,
  f.state,
  f.beat,
  f.request,
  f.responses,
)

module _ (now : ℕ) (a b : Association) (u : IsUnmoved a b) (m : AsksNoMore now a b) where
  few-each : IsFewer (owed_at now a) (owed_at now b)
  few-each = record {
    cookie_echo = one-few a.due.cookie_echo b.due.cookie_echo u.due.cookie_echo;
    cookie_ack = one-few a.due.cookie_ack b.due.cookie_ack u.due.cookie_ack;
    shutdown = one-few a.due.shutdown b.due.shutdown u.due.shutdown;
    shutdown_ack = one-few a.due.shutdown_ack b.due.shutdown_ack u.due.shutdown_ack;
    heartbeat = some-few a.due.heartbeat b.due.heartbeat u.due.heartbeat;
    report = some-few a.due.report b.due.report u.due.report;
    sack = one-few (sack_waits a.inbound) (sack_waits b.inbound) u.sack;
    unknown = some-few (unknown_in a.inbound) (unknown_in b.inbound) u.unknown;
    state = ap (λ (x : Machine). shutdowns_left x.state) u.machine;
    beat = one-few (beats now a) (beats now b) m.beat;
    request = one-few (requests_due now a.requests) (requests_due now b.requests) m.request;
    responses = m.responses;
  }

  pub replies_few : most_replies (owed_at now b) ≤ most_replies (owed_at now a)
  replies_few = few-sum (owed_at now a) (owed_at now b) few-each

  -- a parameter of a RE-CONFIG was due
  param-less : (p : Parameter) → IsParamOnce (owed_at now a) (owed_at now b) p → most_replies (owed_at now b) < most_replies (owed_at now a)
  param-less (outgoing_reset_request r) h =
      let f = few-each in
      let less = one-less (requests_due now a.requests) (requests_due now b.requests) h.0 h.1 in
      omega (arith, less, f.cookie_echo, f.cookie_ack, f.shutdown, f.shutdown_ack, f.heartbeat, f.report, f.sack, f.unknown, f.state, f.beat, f.responses)
  param-less (reconfig_response r) h =
      let f = few-each in
      omega (arith, h, f.cookie_echo, f.cookie_ack, f.shutdown, f.shutdown_ack, f.heartbeat, f.report, f.sack, f.unknown, f.state, f.beat, f.request)
  param-less _ h = absurd h

  reconfig-less : (o : Option Parameter) → is_some o ≡ true → IfSome o (IsParamOnce (owed_at now a) (owed_at now b))
      → most_replies (owed_at now b) < most_replies (owed_at now a)
  reconfig-less None some h = absurd (false≢true some)
  reconfig-less (Some p) some h = param-less p h

  -- what is put was due
  pub reply_less : b.outbound.is_skip_due ≡ a.outbound.is_skip_due → (w : Wire) → IsDueOnce (owed_at now a) (owed_at now b) w
      → most_replies (owed_at now b) < most_replies (owed_at now a)
  reply_less skip (heartbeat_chunk ps) h =
      let f = few-each in
      let less = one-less (beats now a) (beats now b) h.0 h.1 in
      omega (arith, less, f.cookie_echo, f.cookie_ack, f.shutdown, f.shutdown_ack, f.heartbeat, f.report, f.sack, f.unknown, f.state, f.request, f.responses)
  reply_less skip (reconfig_chunk r) h = reconfig-less r.param_a h.0 h.1.0
  reply_less skip (cookie_echo_chunk k) h =
      let f = few-each in
      let less = one-less a.due.cookie_echo b.due.cookie_echo h.0 h.2 in
      omega (arith, less, f.cookie_ack, f.shutdown, f.shutdown_ack, f.heartbeat, f.report, f.sack, f.unknown, f.state, f.beat, f.request, f.responses)
  reply_less skip cookie_ack_chunk h =
      let f = few-each in
      let less = one-less a.due.cookie_ack b.due.cookie_ack h.0 h.1 in
      omega (arith, less, f.cookie_echo, f.shutdown, f.shutdown_ack, f.heartbeat, f.report, f.sack, f.unknown, f.state, f.beat, f.request, f.responses)
  reply_less skip (shutdown_chunk n) h = by h.0
    where
      same : b.machine.state ≡ a.machine.state
      same = ap (λ (x : Machine). x.state) u.machine

      by : (a.due.shutdown ≡ true) ⊎ ((a.machine.state ≡ ShutdownSent → ⊥) × (b.machine.state ≡ ShutdownSent))
          → most_replies (owed_at now b) < most_replies (owed_at now a)
      by (inl due) =
          let f = few-each in
          let less = one-less a.due.shutdown b.due.shutdown due h.1 in
          omega (arith, less, f.cookie_echo, f.cookie_ack, f.shutdown_ack, f.heartbeat, f.report, f.sack, f.unknown, f.state, f.beat, f.request, f.responses)
      by (inr r) = absurd (r.0 (sym same ∙ r.1))
  reply_less skip shutdown_ack_chunk h = by h.0
    where
      same : b.machine.state ≡ a.machine.state
      same = ap (λ (x : Machine). x.state) u.machine

      by : (a.due.shutdown_ack ≡ true) ⊎ ((a.machine.state ≡ ShutdownAckSent → ⊥) × (b.machine.state ≡ ShutdownAckSent))
          → most_replies (owed_at now b) < most_replies (owed_at now a)
      by (inl due) =
          let f = few-each in
          let less = one-less a.due.shutdown_ack b.due.shutdown_ack due h.1 in
          omega (arith, less, f.cookie_echo, f.cookie_ack, f.shutdown, f.heartbeat, f.report, f.sack, f.unknown, f.state, f.beat, f.request, f.responses)
      by (inr r) = absurd (r.0 (sym same ∙ r.1))
  reply_less skip (heartbeat_ack_chunk ps) h =
      let f = few-each in
      let less = some_less a.due.heartbeat b.due.heartbeat h.0 h.1 h.3 in
      omega (arith, less, f.cookie_echo, f.cookie_ack, f.shutdown, f.shutdown_ack, f.report, f.sack, f.unknown, f.state, f.beat, f.request, f.responses)
  reply_less skip (sack_chunk s) h =
      let f = few-each in
      let less = one-less (sack_waits a.inbound) (sack_waits b.inbound) h.0 h.1 in
      omega (arith, less, f.cookie_echo, f.cookie_ack, f.shutdown, f.shutdown_ack, f.heartbeat, f.report, f.unknown, f.state, f.beat, f.request, f.responses)
  reply_less skip (error_chunk cs) (inl r) =
      let f = few-each in
      let less = some_less a.due.report b.due.report r.0 r.1 r.3 in
      omega (arith, less, f.cookie_echo, f.cookie_ack, f.shutdown, f.shutdown_ack, f.heartbeat, f.sack, f.unknown, f.state, f.beat, f.request, f.responses)
  reply_less skip (error_chunk cs) (inr s) =
      let f = few-each in
      let less = some_less (unknown_in a.inbound) (unknown_in b.inbound) s.0 s.1 s.3 in
      omega (arith, less, f.cookie_echo, f.cookie_ack, f.shutdown, f.shutdown_ack, f.heartbeat, f.report, f.sack, f.state, f.beat, f.request, f.responses)
  reply_less skip (forward_tsn_chunk f) h = absurd (false≢true (sym h.1 ∙ skip ∙ h.0))
  reply_less skip _ h = absurd h

-- ## A packet

-- where no chunk is put it is as long as before
none-longer : (p : Parts) (old new : List ℕ) → Adds [] old new → IsDraft p old → length new ≡ length old
none-longer p old new added draft =
    let before = draft-length p old draft in
    let after = draft-length (with_chunks [] p) new (added.draft p draft) in
    let same = ap (λ ws. length (body_of ws)) (append-nil p.chunks) in
    omega (arith, before, after, same)

module _ (now : ℕ) (a b : Association) (u : IsUnmoved a b) (m : AsksNoMore now a b) where
  chunks-less : b.outbound.is_skip_due ≡ a.outbound.is_skip_due → (ws : List Wire) → Adds ws a.draft.bytes b.draft.bytes
      → AllByRecursion (IsDueOnce (owed_at now a) (owed_at now b)) ws → (p : Parts) → IsDraft p a.draft.bytes → length a.draft.bytes < length b.draft.bytes
      → most_replies (owed_at now b) < most_replies (owed_at now a)
  chunks-less skip [] added each p draft more = let same = none-longer p a.draft.bytes b.draft.bytes added draft in absurd (omega (arith, more, same))
  chunks-less skip (w ∷ ws) added each p draft more = reply_less now a b u m skip w each.0

  alone-same : one_where (is_some b.due.alone) ≡ one_where (is_some a.due.alone)
  alone-same = ap (λ o. one_where (is_some o)) u.alone

  -- replies are put, and the half that sends is as it was
  pub due_fewer : PutsDue now a b → b.outbound.sender ≡ a.outbound.sender → b.outbound.is_skip_due ≡ a.outbound.is_skip_due → (p : Parts)
      → IsDraft p a.draft.bytes → FewerWherePut (most_packets now a) (most_packets now b) a.draft.bytes b.draft.bytes
  due_fewer put sender skip p draft =
      let alone = alone-same in
      let few = replies_few now a b u m in
      let same = data_same a.outbound b.outbound sender skip in
      record {
        most = omega (arith, alone, few, same);
        fewer = λ more. let less = chunks-less skip put.chunks put.added put.plain p draft more in omega (arith, alone, less, same);
      }

  -- DATA and FORWARD-TSN are put
  pub data_fewer : FewerWherePut (most_data a.outbound) (most_data b.outbound) a.draft.bytes b.draft.bytes
      → FewerWherePut (most_packets now a) (most_packets now b) a.draft.bytes b.draft.bytes
  data_fewer s =
      let alone = alone-same in
      let few = replies_few now a b u m in
      let most = s.most in
      record {
        most = omega (arith, alone, few, most);
        fewer = λ more. let less = s.fewer more in omega (arith, alone, few, less);
      }

pub others_fewer : (now : ℕ) (a b : Association) → PutsOthers a b → (p : Parts) → IsDraft p a.draft.bytes
    → FewerWherePut (most_packets now a) (most_packets now b) a.draft.bytes b.draft.bytes
others_fewer now a b o p draft =
    due_fewer now a b o.kept (beats_same now a b o.timed)
    (once_puts a b now (others_puts a b o)) o.halves.sender (ap (λ (p : Path). p.skip) o.halves.path) p draft

pub once_fewer : (now : ℕ) (a b : Association) → PutsOnce a b → IsUnmoved a b → IsAsTimed a b → b.outbound.sender ≡ a.outbound.sender
    → b.outbound.is_skip_due ≡ a.outbound.is_skip_due → (p : Parts) → IsDraft p a.draft.bytes
    → FewerWherePut (most_packets now a) (most_packets now b) a.draft.bytes b.draft.bytes
once_fewer now a b o u t sender skip p draft = due_fewer now a b u (beats_same now a b t) (once_puts a b now o) sender skip p draft

-- ## As the shutdown goes on

alone-row : (s : State) (m : Machine) (d e : Due) → e ≡ owed_by (drained_row s m).answer.reply 0 d → e.alone ≡ d.alone
alone-row ShutdownPending m d e due = ap (λ (x : Due). x.alone) due
alone-row ShutdownReceived m d e due = ap (λ (x : Due). x.alone) due
alone-row _ m d e due = ap (λ (x : Due). x.alone) due

shut-row : (s : State) (m : Machine) → m.state ≡ s → shutdowns_left s ≡ 0 → (drained_row s m).machine.state ≡ m.state
shut-row ShutdownPending m is none = absurd (omega (arith, none))
shut-row ShutdownReceived m is none = absurd (omega (arith, none))
shut-row _ m is none = refl

asked-row : (s : State) (m : Machine) → m.state ≡ s → shutdowns_left s ≡ 0 → (shutdown_asked_row s m).machine.state ≡ m.state
asked-row CookieWait m is none = absurd (omega (arith, none))
asked-row Established m is none = absurd (omega (arith, none))
asked-row _ m is none = refl

-- as the machine is told that nothing waits or is in flight
pub drained_alone : (m n : Machine) (r : Answer) (d e : Due) → Takes (on_drained m) n r → e ≡ owed_by r.reply 0 d → e.alone ≡ d.alone
drained_alone m n r d e t due = alone-row m.state m d e (subst (λ (x : Answer). e ≡ owed_by x.reply 0 d) t.answer due)

pub drained_shut : (m n : Machine) (r : Answer) → Takes (on_drained m) n r → shutdowns_left m.state ≡ 0 → n.state ≡ m.state
drained_shut m n r t none = ap (λ (x : Machine). x.state) t.machine ∙ shut-row m.state m refl none

pub asked_shut : (m n : Machine) (r : Answer) → Takes (on_shutdown_asked m) n r → shutdowns_left m.state ≡ 0 → n.state ≡ m.state
asked_shut m n r t none = ap (λ (x : Machine). x.state) t.machine ∙ asked-row m.state m refl none

flag : (x y : Bool) (Q : Type 0) → (y ≡ true → (x ≡ true) ⊎ Q) → (one_where y ≤ one_where x) ⊎ Q
flag x false Q f = inl (omega arith)
flag x true Q f = by (f refl)
  where
    by : (x ≡ true) ⊎ Q → (1 ≤ one_where x) ⊎ Q
    by (inl e) = inl (rw e (omega arith))
    by (inr q) = inr q

true-few : (x y : Bool) → (y ≡ true → x ≡ true) → one_where y ≤ one_where x
true-few x false h = omega arith
true-few x true h = rw (h refl) (omega arith)

one-most : (x : Bool) → one_where x ≤ 1
one-most true = omega arith
one-most false = omega arith

zero-or-one : (s : State) → (shutdowns_left s ≡ 0) ⊎ (shutdowns_left s ≡ 1)
zero-or-one ShutdownSent = inl refl
zero-or-one ShutdownAckSent = inl refl
zero-or-one _ = inr refl

-- a state that is reached is another
reached-one : (s t r : State) → (s ≡ r → ⊥) → t ≡ r → (shutdowns_left s ≡ 0 → t ≡ s) → shutdowns_left s ≡ 1
reached-one s t r other is shut = by (zero-or-one s)
  where
    by : (shutdowns_left s ≡ 0) ⊎ (shutdowns_left s ≡ 1) → shutdowns_left s ≡ 1
    by (inl e) = absurd (other (sym (shut e) ∙ is))
    by (inr e) = e

left-few : (s t : State) → (shutdowns_left s ≡ 0 → t ≡ s) → shutdowns_left t ≤ shutdowns_left s
left-few s t shut = by (zero-or-one s) (zero-or-one t)
  where
    by : (shutdowns_left s ≡ 0) ⊎ (shutdowns_left s ≡ 1) → (shutdowns_left t ≡ 0) ⊎ (shutdowns_left t ≡ 1) → shutdowns_left t ≤ shutdowns_left s
    by (inl e) f = let same = ap shutdowns_left (shut e) in omega (arith, same)
    by (inr e) (inl f) = omega (arith, e, f)
    by (inr e) (inr f) = omega (arith, e, f)

sent≢acked : ShutdownSent ≡ ShutdownAckSent → ⊥
sent≢acked e = cc

shuts : (s t : State) (x p y q : Bool) → (p ≡ true → (x ≡ true) ⊎ ((s ≡ ShutdownSent → ⊥) × (t ≡ ShutdownSent)))
    → (q ≡ true → (y ≡ true) ⊎ ((s ≡ ShutdownAckSent → ⊥) × (t ≡ ShutdownAckSent))) → (shutdowns_left s ≡ 0 → t ≡ s)
    → one_where p + one_where q + shutdowns_left t ≤ one_where x + one_where y + shutdowns_left s
shuts s t x p y q f g shut = by (flag x p _ f) (flag y q _ g)
  where
    by : (one_where p ≤ one_where x) ⊎ ((s ≡ ShutdownSent → ⊥) × (t ≡ ShutdownSent))
        → (one_where q ≤ one_where y) ⊎ ((s ≡ ShutdownAckSent → ⊥) × (t ≡ ShutdownAckSent))
        → one_where p + one_where q + shutdowns_left t ≤ one_where x + one_where y + shutdowns_left s
    by (inl a) (inl b) = let few = left-few s t shut in omega (arith, a, b, few)
    by (inl a) (inr b) =
        let none = ap shutdowns_left b.1 in
        let one = reached-one s t ShutdownAckSent b.0 b.1 shut in
        let most = one-most q in
        omega (arith, a, none, one, most)
    by (inr a) (inl b) =
        let none = ap shutdowns_left a.1 in
        let one = reached-one s t ShutdownSent a.0 a.1 shut in
        let most = one-most p in
        omega (arith, b, none, one, most)
    by (inr a) (inr b) = absurd (sent≢acked (sym a.1 ∙ b.1))

module _ (now : ℕ) (a b : Association) (o : OwesNothingNew (owed_of a) (owed_of b)) (m : AsksNoMore now a b)
    (shut : shutdowns_left a.machine.state ≡ 0 → b.machine.state ≡ a.machine.state) where
  shuts-few : one_where b.due.shutdown + one_where b.due.shutdown_ack + shutdowns_left b.machine.state
      ≤ one_where a.due.shutdown + one_where a.due.shutdown_ack + shutdowns_left a.machine.state
  shuts-few = shuts a.machine.state b.machine.state a.due.shutdown b.due.shutdown a.due.shutdown_ack b.due.shutdown_ack o.shutdown o.shutdown_ack shut

  settled-few : most_replies (owed_at now b) ≤ most_replies (owed_at now a)
  settled-few =
      let s = shuts-few in
      let c = true-few a.due.cookie_echo b.due.cookie_echo o.cookie_echo in
      let d = true-few a.due.cookie_ack b.due.cookie_ack o.cookie_ack in
      let e = some-few a.due.heartbeat b.due.heartbeat o.heartbeat in
      let f = some-few a.due.report b.due.report o.report in
      let g = one-few (sack_waits a.inbound) (sack_waits b.inbound) o.sack in
      let h = some-few (unknown_in a.inbound) (unknown_in b.inbound) o.unknown in
      let i = one-few (beats now a) (beats now b) m.beat in
      let j = one-few (requests_due now a.requests) (requests_due now b.requests) m.request in
      let k = m.responses in
      omega (arith, s, c, d, e, f, g, h, i, j, k)

  -- the half that sends stays, or less is left to send
  pub settled_few : b.due.alone ≡ a.due.alone → most_data b.outbound ≤ most_data a.outbound → most_packets now b ≤ most_packets now a
  settled_few alone half =
      let one = ap (λ x. one_where (is_some x)) alone in
      let replies = settled-few in
      omega (arith, one, replies, half)
