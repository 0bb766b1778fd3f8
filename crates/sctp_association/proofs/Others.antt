-- Chunks that neither half answers, and the datagram in the end.
use Rattle.std.proofs.Common.{◌≡◌, ◌⊎◌, inl, inr, ℕ, List, [], ◌∷◌, ◌++◌, length, Bool, true, false, Option, None, Some, Result, Ok, Err, arith, refl, ap, sym}
use Rattle.std.proofs.Common.{subst, ◌∙◌}
use Rattle.std.proofs.lemmas.Bool.{false≢true}
use Rattle.std.proofs.lemmas.List.{append-nil}
use Rattle.std.specs.List.{AllByRecursion}
use Rattle.std.specs.Prelude.{IfSome, ◌≤◌, is_some}
use Rattle.std.specs.Result.{IsErr}
use Rattle.sctp_association.proofs.Known.{still_none, unmoved_same, unmoved_then, was}
use Rattle.sctp_association.proofs.Idle.{longer_by_chunk}
use Rattle.sctp_association.proofs.Putting.{shutdown_put, adds_none, adds_then, all_append, all_put, all_so, and_so, none_made, nothing, puts_so, all_where}
use Rattle.sctp_association.proofs.Running.{none_in, none_sent, sent_then}
use Rattle.sctp_association.specs.declared.association.Association.{Association}
use Rattle.sctp_association.specs.Congested.{Path, path_of}
use Rattle.sctp_association.specs.declared.inbound.Inbound.{Inbound}
use Rattle.sctp_association.specs.Halves.{HalvesAlike, IsAsTimed, PutsDue, PutsOnce, PutsOthers, PutsSent, is_sent, receiver_of, sides_of, PutsDueOrData}
use Rattle.sctp_association.specs.Kept.{IsUnmoved, sack_waits, unknown_in}
use Rattle.sctp_association.specs.declared.fault.Fault.{Fault}
use Rattle.sctp_association.specs.Leaving.{AsksNoMore, IsDueOnce, IsDueOrData, IsParamOnce, IsReplyOnce, OwedAt, OwesNoMoreAt, Reaches, beats, owed_at}
use Rattle.sctp_association.specs.Leaving.{owed_of, requests_due, responses_due}
use Rattle.sctp_association.specs.Packets.{Adds, IsOf, IsPacketOf, IsSackOnce, IsSkipOnce, IsWritten, PutsIn, PutsOf, Sides, Transmits, made_in, put_where}
use Rattle.sctp_association.specs.Packets.{sides}
use Rattle.sctp_association.specs.Packets.{sum_of, with_chunks}
use Rattle.sctp_association.specs.Runs.{ReportsIn, Sends}
use Rattle.sctp_chunks.specs.Wire.{Wire, cookie_ack_chunk, cookie_echo_chunk, data_chunk, error_chunk, forward_tsn_chunk, heartbeat_ack_chunk, heartbeat_chunk}
use Rattle.sctp_chunks.specs.Wire.{reconfig_chunk, sack_chunk, shutdown_ack_chunk, shutdown_chunk}
use Rattle.sctp_data.specs.SelectiveAck.{Sack}
use Rattle.sctp_delivery.specs.SenderCalls.{Made}
use Rattle.sctp_handshake.specs.declared.machine.Machine.{Machine}
use Rattle.sctp_handshake.specs.declared.state.State.{State}
use Rattle.sctp_handshake.specs.declared.state.State.TheVariants.{ShutdownAckSent, ShutdownSent}
use Rattle.sctp_packets.specs.declared.packet.CommonHeader.{CommonHeader}
use Rattle.sctp_packets.specs.Draft.{IsDraft, headed}
use Rattle.sctp_packets.specs.Packet.{Parts, packet_encoding}
use Rattle.sctp_params.specs.Param.{Parameter, outgoing_reset_request, reconfig_response}
use Rattle.sctp_path.specs.Timers.{is_due}
use Rattle.sctp_receiver.specs.Receiver.{Reception}
use Rattle.sctp_sender.specs.Sender.{Transmission}

pub alike_then : (a b c : Association) → HalvesAlike a b → HalvesAlike b c → HalvesAlike a c
alike_then a b c h k = record {
  sender = k.sender ∙ h.sender;
  receiver = k.receiver ∙ h.receiver;
  path = k.path ∙ h.path;
}

pub alike_same : (a : Association) → HalvesAlike a a
alike_same a = record { sender = refl; receiver = refl; path = refl }

-- the same is due at the same moment
pub timed_same : (a : Association) → IsAsTimed a a
timed_same a = record { heartbeat = refl; idle = refl; requests = refl; peer = refl }

pub timed_then : (a b c : Association) → IsAsTimed a b → IsAsTimed b c → IsAsTimed a c
timed_then a b c t s = record { heartbeat = s.heartbeat ∙ t.heartbeat; idle = s.idle ∙ t.idle; requests = s.requests ∙ t.requests; peer = s.peer ∙ t.peer }

pub others_none : (a b : Association) → HalvesAlike a b → IsUnmoved a b → IsAsTimed a b → b.draft.bytes ≡ a.draft.bytes → PutsOthers a b
others_none a b h u t e = record {
  halves = h;
  chunks = [];
  added = subst (λ x. Adds [] a.draft.bytes x) (sym e) (adds_none a.draft.bytes);
  own = tt;
  plain = tt;
  kept = u;
  timed = t;
}

-- nothing is put, and nothing changes
pub others_same : (a b : Association) → b ≡ a → PutsOthers a b
others_same a b is = subst (PutsOthers a) (sym is) (others_none a a (alike_same a) (unmoved_same a) (timed_same a) refl)

-- ## What is due once

-- of a parameter of a RE-CONFIG
module _ (now : ℕ) (a b c : Association) where
  param-before : AsksNoMore now a b → (p : Parameter) → IsParamOnce (owed_at now b) (owed_at now c) p → IsParamOnce (owed_at now a) (owed_at now c) p
  param-before m (outgoing_reset_request r) h = (was (requests_due now a.requests) (requests_due now b.requests) m.request h.0, h.1)
  param-before m (reconfig_response r) h = omega (arith, h, m.responses)
  param-before m _ h = absurd h

  pub params_before : AsksNoMore now a b → (o : Option Parameter) → IfSome o (IsParamOnce (owed_at now b) (owed_at now c))
      → IfSome o (IsParamOnce (owed_at now a) (owed_at now c))
  params_before m None h = tt
  params_before m (Some p) h = param-before m p h

  param-behind : AsksNoMore now b c → (p : Parameter) → IsParamOnce (owed_at now a) (owed_at now b) p → IsParamOnce (owed_at now a) (owed_at now c) p
  param-behind m (outgoing_reset_request r) h = (h.0, m.request h.1)
  param-behind m (reconfig_response r) h = omega (arith, h, m.responses)
  param-behind m _ h = absurd h

  pub params_behind : AsksNoMore now b c → (o : Option Parameter) → IfSome o (IsParamOnce (owed_at now a) (owed_at now b))
      → IfSome o (IsParamOnce (owed_at now a) (owed_at now c))
  params_behind m None h = tt
  params_behind m (Some p) h = param-behind m p h

-- no FORWARD-TSN is due that was not
abbrev pub SkipsNoMore : Association → Association → Type 0
SkipsNoMore a b = a.outbound.is_skip_due ≡ false → b.outbound.is_skip_due ≡ false

pub skip_kept : (a b : Association) → path_of b.outbound ≡ path_of a.outbound → SkipsNoMore a b
skip_kept a b e none = ap (λ (p : Path). p.skip) e ∙ none

pub skip_so : (a b c : Association) → SkipsNoMore a b → SkipsNoMore b c → SkipsNoMore a c
skip_so a b c f g none = g (f none)

or-both : {P Q R S : Type 0} → (P → R) → (Q → S) → P ⊎ Q → R ⊎ S
or-both f g (inl p) = inl (f p)
or-both f g (inr q) = inr (g q)

module _ (a b c : Association) where
  reached-before : IsUnmoved a b → (s : State) → Reaches s (owed_of b) (owed_of c) → Reaches s (owed_of a) (owed_of c)
  reached-before u s h = (λ e. h.0 (ap (λ (m : Machine). m.state) u.machine ∙ e), h.1)

  reached-behind : IsUnmoved b c → (s : State) → Reaches s (owed_of a) (owed_of b) → Reaches s (owed_of a) (owed_of c)
  reached-behind u s h = (h.0, ap (λ (m : Machine). m.state) u.machine ∙ h.1)

  -- what was due behind a step that makes nothing due was due before
  once-before : IsUnmoved a b → (w : Wire) → IsReplyOnce (owed_of b) (owed_of c) w → IsReplyOnce (owed_of a) (owed_of c) w
  once-before u (cookie_echo_chunk k) h = (was a.due.cookie_echo b.due.cookie_echo u.due.cookie_echo h.0, sym u.cookie ∙ h.1, h.2)
  once-before u cookie_ack_chunk h = (was a.due.cookie_ack b.due.cookie_ack u.due.cookie_ack h.0, h.1)
  once-before u (shutdown_chunk n) h = (or-both (was a.due.shutdown b.due.shutdown u.due.shutdown) (reached-before u ShutdownSent) h.0, h.1)
  once-before u shutdown_ack_chunk h =
      (or-both (was a.due.shutdown_ack b.due.shutdown_ack u.due.shutdown_ack) (reached-before u ShutdownAckSent) h.0, h.1)
  once-before u (heartbeat_ack_chunk ps) h = (h.0, u.due.heartbeat h.0 h.1, h.2, h.3)
  once-before u (sack_chunk s) h = (was (sack_waits a.inbound) (sack_waits b.inbound) u.sack h.0, h.1)
  once-before u (error_chunk cs) h = or-both (λ r. (r.0, u.due.report r.0 r.1, r.2, r.3)) (λ s. (s.0, u.unknown s.0 s.1, s.2, s.3)) h
  once-before u _ h = absurd h

  -- and what is due no more is so behind one
  once-behind : IsUnmoved b c → (w : Wire) → IsReplyOnce (owed_of a) (owed_of b) w → IsReplyOnce (owed_of a) (owed_of c) w
  once-behind u (cookie_echo_chunk k) h = (h.0, h.1, u.due.cookie_echo h.2)
  once-behind u cookie_ack_chunk h = (h.0, u.due.cookie_ack h.1)
  once-behind u (shutdown_chunk n) h = (or-both (λ e. e) (reached-behind u ShutdownSent) h.0, u.due.shutdown h.1)
  once-behind u shutdown_ack_chunk h = (or-both (λ e. e) (reached-behind u ShutdownAckSent) h.0, u.due.shutdown_ack h.1)
  once-behind u (heartbeat_ack_chunk ps) h = (h.0, h.1, h.2, still_none b.due.heartbeat c.due.heartbeat u.due.heartbeat h.3)
  once-behind u (sack_chunk s) h = (h.0, u.sack h.1)
  once-behind u (error_chunk cs) h = or-both (λ r. (r.0, r.1, r.2, still_none b.due.report c.due.report u.due.report r.3))
      (λ s. (s.0, s.1, s.2, still_none (unknown_in b.inbound) (unknown_in c.inbound) u.unknown s.3)) h
  once-behind u _ h = absurd h

  -- the same, of a HEARTBEAT, a RE-CONFIG and a FORWARD-TSN too
  due-before : (now : ℕ) → IsUnmoved a b → AsksNoMore now a b → SkipsNoMore a b → (w : Wire) → IsDueOnce (owed_at now b) (owed_at now c) w
      → IsDueOnce (owed_at now a) (owed_at now c) w
  due-before now u m s (heartbeat_chunk ps) h = (was (beats now a) (beats now b) m.beat h.0, h.1)
  due-before now u m s (reconfig_chunk r) h =
      (h.0, (params_before now a b c m r.param_a h.1.0, params_before now a b c m r.param_b h.1.1))
  due-before now u m s (forward_tsn_chunk f) h = (was a.outbound.is_skip_due b.outbound.is_skip_due s h.0, h.1)
  due-before now u m s w h = once-before u w h

  due-behind : (now : ℕ) → IsUnmoved b c → AsksNoMore now b c → SkipsNoMore b c → (w : Wire) → IsDueOnce (owed_at now a) (owed_at now b) w
      → IsDueOnce (owed_at now a) (owed_at now c) w
  due-behind now u m s (heartbeat_chunk ps) h = (h.0, m.beat h.1)
  due-behind now u m s (reconfig_chunk r) h =
      (h.0, (params_behind now a b c m r.param_a h.1.0, params_behind now a b c m r.param_b h.1.1))
  due-behind now u m s (forward_tsn_chunk f) h = (h.0, s h.1)
  due-behind now u m s w h = once-behind u w h

skip-due : (now : ℕ) (a b : Association) (w : Wire) → IsSkipOnce a.outbound.is_skip_due b.outbound.is_skip_due w
    → IsDueOrData (owed_at now a) (owed_at now b) w
skip-due now a b (data_chunk d) h = tt
skip-due now a b (forward_tsn_chunk f) h = h
skip-due now a b _ h = absurd h

-- so it is of one that is put behind what makes no FORWARD-TSN due
skip-behind : (now : ℕ) (a b c : Association) → SkipsNoMore a b → (w : Wire) → IsSkipOnce b.outbound.is_skip_due c.outbound.is_skip_due w
    → IsDueOrData (owed_at now a) (owed_at now c) w
skip-behind now a b c s (data_chunk d) h = tt
skip-behind now a b c s (forward_tsn_chunk f) h = (was a.outbound.is_skip_due b.outbound.is_skip_due s h.0, h.1)
skip-behind now a b c s _ h = absurd h

due-or-data : (now : ℕ) (a b : Association) (w : Wire) → IsDueOnce (owed_at now a) (owed_at now b) w → IsDueOrData (owed_at now a) (owed_at now b) w
due-or-data now a b (data_chunk d) h = tt
due-or-data now a b w h = h

once-due : (now : ℕ) (a b : Association) (w : Wire) → IsReplyOnce (owed_of a) (owed_of b) w → IsDueOnce (owed_at now a) (owed_at now b) w
once-due now a b (heartbeat_chunk ps) h = absurd h
once-due now a b (reconfig_chunk r) h = absurd h
once-due now a b (forward_tsn_chunk f) h = absurd h
once-due now a b w h = h

pub at_most_same : {m n : ℕ} → m ≡ n → m ≤ n
at_most_same e = omega (arith, e)

-- where the moment stays none is due that was not
pub beats_same : (now : ℕ) (a b : Association) → IsAsTimed a b → AsksNoMore now a b
beats_same now a b t = record {
  beat = λ e. ap (is_due now) t.heartbeat ∙ e;
  request = λ e. ap (requests_due now) t.requests ∙ e;
  responses = at_most_same (ap responses_due t.peer);
}

pub at_then : (x y z : OwedAt) → OwesNoMoreAt x y → OwesNoMoreAt y z → OwesNoMoreAt x z
at_then x y z m n = record {
  beat = λ e. n.beat (m.beat e);
  request = λ e. n.request (m.request e);
  responses = omega (arith, m.responses, n.responses);
}

pub beats_then : (now : ℕ) (a b c : Association) → AsksNoMore now a b → AsksNoMore now b c → AsksNoMore now a c
beats_then now a b c m n = record {
  beat = λ e. n.beat (m.beat e);
  request = λ e. n.request (m.request e);
  responses = omega (arith, m.responses, n.responses);
}

pub others_then : (a b c : Association) → PutsOthers a b → PutsOthers b c → PutsOthers a c
others_then a b c p q = record {
  halves = alike_then a b c p.halves q.halves;
  chunks = p.chunks ++ q.chunks;
  added = adds_then p.chunks q.chunks a.draft.bytes b.draft.bytes c.draft.bytes p.added q.added;
  own = all_append (IsOf [] []) p.chunks q.chunks p.own q.own;
  plain = all_append (IsReplyOnce (owed_of a) (owed_of c)) p.chunks q.chunks
      (all_so (IsReplyOnce (owed_of a) (owed_of b)) (IsReplyOnce (owed_of a) (owed_of c)) (once-behind a b c q.kept) p.chunks p.plain)
      (all_so (IsReplyOnce (owed_of b) (owed_of c)) (IsReplyOnce (owed_of a) (owed_of c)) (once-before a b c p.kept) q.chunks q.plain);
  kept = unmoved_then a b c p.kept q.kept;
  timed = timed_then a b c p.timed q.timed;
}

-- a chunk is put, where it fits
pub others_one : (k : Bool) (w : Wire) (a b : Association) → Adds (put_where k w) a.draft.bytes b.draft.bytes → IsOf [] [] w
    → IsReplyOnce (owed_of a) (owed_of b) w → HalvesAlike a b → IsUnmoved a b → IsAsTimed a b → PutsOthers a b
others_one k w a b added of plain h u t = record {
  halves = h;
  chunks = put_where k w;
  added = added;
  own = all_put (IsOf [] []) k w of;
  plain = all_put (IsReplyOnce (owed_of a) (owed_of b)) k w plain;
  kept = u;
  timed = t;
}

module _ (a b : Association) where
  -- what leads on from a side that is the same
  pub put_alike : (P : Wire → Type 0) (x y : List ℕ) → HalvesAlike a b
      → PutsOf P (sides a.outbound.sender (receiver_of a.inbound) x) (sides a.outbound.sender (receiver_of a.inbound) y)
      → PutsOf P (sides a.outbound.sender (receiver_of a.inbound) x) (sides b.outbound.sender (receiver_of b.inbound) y)
  put_alike P x y h p =
      let s = subst (λ t. PutsOf P (sides a.outbound.sender (receiver_of a.inbound) x) (sides t (receiver_of a.inbound) y)) (sym h.sender) p in
      subst (λ r. PutsOf P (sides a.outbound.sender (receiver_of a.inbound) x) (sides b.outbound.sender r y)) (sym h.receiver) s

  pub others_puts : PutsOthers a b → PutsOnce a b
  others_puts p = put_alike (IsReplyOnce (owed_of a) (owed_of b)) a.draft.bytes b.draft.bytes p.halves (record {
    made = [];
    sacks = [];
    chunks = p.chunks;
    sent = none_sent a.outbound.sender;
    reported = none_in (receiver_of a.inbound);
    added = p.added;
    own = p.own;
    plain = p.plain;
    each = λ _ _. sym (none_made [] p.chunks p.own);
  })

  -- where nothing is put
  pub alike_puts : {P : Wire → Type 0} → HalvesAlike a b → (x : List ℕ) → PutsOf P (sides a.outbound.sender (receiver_of a.inbound) x)
      (sides b.outbound.sender (receiver_of b.inbound) x)
  alike_puts {P} h x = put_alike P x x h (nothing (sides a.outbound.sender (receiver_of a.inbound) x))

  pub due_data : (now : ℕ) → PutsDue now a b → PutsDueOrData now a b
  due_data now p = puts_so (IsDueOnce (owed_at now a) (owed_at now b)) (IsDueOrData (owed_at now a) (owed_at now b)) (due-or-data now a b)
      (sides_of a) (sides_of b) p

  pub once_puts : (now : ℕ) → PutsOnce a b → PutsDue now a b
  once_puts now p = puts_so (IsReplyOnce (owed_of a) (owed_of b)) (IsDueOnce (owed_at now a) (owed_at now b)) (once-due now a b) (sides_of a) (sides_of b) p

-- steps that make nothing due
pub due_then : (now : ℕ) (a b c : Association) → PutsDue now a b → IsUnmoved a b → AsksNoMore now a b → SkipsNoMore a b → PutsDue now b c
    → IsUnmoved b c → AsksNoMore now b c → SkipsNoMore b c → PutsDue now a c
due_then now a b c p u m s q v n k = and_so (IsDueOnce (owed_at now a) (owed_at now b)) (IsDueOnce (owed_at now b) (owed_at now c))
    (IsDueOnce (owed_at now a) (owed_at now c)) (sides_of a) (sides_of b) (sides_of c)
    (due-behind a b c now v n k) (due-before a b c now u m s) p q

pub due_others : (now : ℕ) (a b c : Association) → PutsDue now a b → IsUnmoved a b → AsksNoMore now a b → SkipsNoMore a b → PutsOthers b c
    → PutsDue now a c
due_others now a b c p u m s q =
    due_then now a b c p u m s (once_puts b c now (others_puts b c q)) q.kept (beats_same now b c q.timed) (skip_kept b c q.halves.path)

-- and DATA and FORWARD-TSN behind them
pub data_then : (now : ℕ) (a b c : Association) → PutsDue now a b → SkipsNoMore a b → PutsSent b c → IsUnmoved b c → AsksNoMore now b c
    → SkipsNoMore b c → PutsDueOrData now a c
data_then now a b c p s q v n k = and_so (IsDueOnce (owed_at now a) (owed_at now b))
    (IsSkipOnce b.outbound.is_skip_due c.outbound.is_skip_due) (IsDueOrData (owed_at now a) (owed_at now c))
    (sides_of a) (sides_of b) (sides_of c) (λ w h. due-or-data now a c w (due-behind a b c now v n k w h)) (skip-behind now a b c s) p q

-- no HEARTBEAT is among them
pub once_then : (a b c : Association) → PutsOnce a b → IsUnmoved a b → PutsOnce b c → IsUnmoved b c → PutsOnce a c
once_then a b c p u q v = and_so (IsReplyOnce (owed_of a) (owed_of b)) (IsReplyOnce (owed_of b) (owed_of c)) (IsReplyOnce (owed_of a) (owed_of c))
    (sides_of a) (sides_of b) (sides_of c) (once-behind a b c v) (once-before a b c u) p q

pub once_others : (a b c : Association) → PutsOnce a b → IsUnmoved a b → PutsOthers b c → PutsOnce a c
once_others a b c p u q = once_then a b c p u (others_puts b c q) q.kept

pub others_once : (a b c : Association) → PutsOthers a b → PutsOnce b c → IsUnmoved b c → PutsOnce a c
others_once a b c p q v = once_then a b c (others_puts a b p) p.kept q v

-- a chunk is put that neither half answers
pub puts_one : {P : Wire → Type 0} (k : Bool) (w : Wire) (t : Transmission) (r : Option Reception) (x y : List ℕ) → Adds (put_where k w) x y
    → IsOf [] [] w → (k ≡ true → P w) → PutsOf P (sides t r x) (sides t r y)
puts_one {P} k w t r x y added of plain = record {
  made = [];
  sacks = [];
  chunks = put_where k w;
  sent = none_sent t;
  reported = none_in r;
  added = added;
  own = all_put (IsOf [] []) k w of;
  plain = all_where P k w plain;
  each = λ _ _. sym (none_made [] (put_where k w) (all_put (IsOf [] []) k w of));
}

module _ {P : Wire → Type 0} where
  pub same_puts : (a b : Association) → b.draft.bytes ≡ a.draft.bytes → HalvesAlike a b → PutsOf P (sides_of a) (sides_of b)
  same_puts a b e h = subst (λ x. PutsOf P (sides_of a) (sides b.outbound.sender (receiver_of b.inbound) x)) (sym e) (alike_puts a b h a.draft.bytes)

-- what a receiver puts, where there is one
in_side : (P : Wire → Type 0) (t : Transmission) (o p : Option Inbound) (i j : Inbound) (x y : List ℕ) → o ≡ Some i → p ≡ Some j
    → ((t : Transmission) → PutsOf P (sides t (Some i.receiver) x) (sides t (Some j.receiver) y))
    → PutsOf P (sides t (receiver_of o) x) (sides t (receiver_of p) y)
in_side P t o p i j x y e f h =
    let first = subst (λ k. PutsOf P (sides t (receiver_of k) x) (sides t (Some j.receiver) y)) (sym e) (h t) in
    subst (λ k. PutsOf P (sides t (receiver_of o) x) (sides t (receiver_of k) y)) (sym f) first

pub shutdown_side : {P : Wire → Type 0} (n : ℕ) (k : Bool) (t : Transmission) (o : Option Inbound) (i : Inbound) (x y : List ℕ) → o ≡ Some i
    → n ≡ i.receiver.cumulative_tsn → P (shutdown_chunk n) → Adds (put_where k (shutdown_chunk n)) x y
    → PutsOf P (sides t (receiver_of o) x) (sides t (receiver_of o) y)
shutdown_side {P} n k t o i x y e own plain added = in_side P t o o i i x y e e (shutdown_put P n k i.receiver x y own plain added)

-- a SACK that waited, where there is a receiver
sack-so : (P : Wire → Type 0) (some none : Bool) → ((s : Sack) → some ≡ true → none ≡ false → P (sack_chunk s)) → (w : Wire) → IsSackOnce some none w → P w
sack-so P some none f (sack_chunk s) h = f s h.0 h.1
sack-so P some none f _ h = absurd h

pub sack_side : {P : Wire → Type 0} (t u : Transmission) (o : Option Inbound) (i j : Inbound) (x y : List ℕ)
    → ((s : Sack) → is_some i.delay.due ≡ true → is_some j.delay.due ≡ false → P (sack_chunk s))
    → PutsIn (IsSackOnce (is_some i.delay.due) (is_some j.delay.due)) i.receiver j.receiver x y → o ≡ Some i → u ≡ t
    → PutsOf P (sides t (receiver_of o) x) (sides u (Some j.receiver) y)
sack_side {P} t u o i j x y f h is same =
    let Q : Wire → Type 0 = IsSackOnce (is_some i.delay.due) (is_some j.delay.due) in
    let one = subst (λ k. PutsOf Q (sides t (receiver_of k) x) (sides t (Some j.receiver) y)) (sym is) (h t) in
    let two = subst (λ v. PutsOf Q (sides t (receiver_of o) x) (sides v (Some j.receiver) y)) (sym same) one in
    puts_so Q P (sack-so P (is_some i.delay.due) (is_some j.delay.due) f) (sides t (receiver_of o) x) (sides u (Some j.receiver) y) two

-- ## A datagram

-- what was put behind a header, sealed
pub written : (h : CommonHeader) (z : Bool) (P : Wire → Type 0) (ws : List Wire) (begun full sealed : List ℕ) → IsDraft (headed h) begun
    → Adds ws begun full → AllByRecursion P ws → ((p : Parts) → IsDraft p full → sealed ≡ packet_encoding (sum_of z) p) → IsPacketOf P sealed
written h z P ws begun full sealed draft added own encoded =
    let d = added.draft (headed h) draft in
    record { packet = with_chunks ws (headed h); is_zero = z; encoded = encoded _ d; encodings = d.encodings; fits = d.fits; own = own }

module _ {P : Wire → Type 0} (t u : Transmission) (r q : Option Reception) (x begun full : List ℕ) (p : PutsOf P (sides t r begun) (sides u q full)) where
  -- where nothing was put, or a call was refused
  pub unsent_after : (h : CommonHeader) → IsDraft (headed h) begun → length full ≤ 12 → (y : List ℕ) → Transmits false (sides t r x) (sides u q y)
  unsent_after h draft short y = record {
    made = p.made;
    sacks = p.sacks;
    sent = p.sent;
    reported = p.reported;
    written = λ e. absurd (false≢true e);
    each = λ e. absurd (false≢true e);
    none = λ _. p.each (headed h) draft ∙ ap made_in (none p.chunks p.added);
  }
    where
      none : (ws : List Wire) → Adds ws begun full → ws ≡ []
      none [] added = refl
      none (w ∷ ws) added = absurd (omega (arith, short, longer_by_chunk [] ws w (headed h) full (added.draft (headed h) draft)))

  pub sealed_after : (h : CommonHeader) (z : Bool) (sealed : List ℕ) → IsDraft (headed h) begun
      → ((d : Parts) → IsDraft d full → sealed ≡ packet_encoding (sum_of z) d) → Transmits true (sides t r x) (sides u q sealed)
  sealed_after h z sealed draft encoded =
      let d = p.added.draft (headed h) draft in
      record {
        made = p.made;
        sacks = p.sacks;
        sent = p.sent;
        reported = p.reported;
        written = λ e. written h z (IsOf p.made p.sacks) p.chunks begun full sealed draft p.added p.own encoded;
        each = λ e. record {
          packet = with_chunks p.chunks (headed h);
          is_zero = z;
          encoded = encoded _ d;
          encodings = d.encodings;
          fits = d.fits;
          each = sym (p.each (headed h) draft);
        };
        none = λ e. absurd (false≢true (sym e));
      }

  -- each of its chunks is such
  pub plain_after : (h : CommonHeader) (z : Bool) (sealed : List ℕ) → IsDraft (headed h) begun
      → ((d : Parts) → IsDraft d full → sealed ≡ packet_encoding (sum_of z) d) → IsPacketOf P sealed
  plain_after h z sealed draft encoded = written h z P p.chunks begun full sealed draft p.added p.plain encoded

-- behind calls that make no chunk
pub before_then : (k : Bool) (s : Sides) (t : Transmission) (r : Option Reception) (y : List ℕ) (z : Sides) → Sends [] s.sender t → r ≡ s.receiver
    → Transmits k (sides t r y) z → Transmits k s z
before_then k s t r y z sent same f = record {
  made = f.made;
  sacks = f.sacks;
  sent = subst (λ (ms : List Made). Sends ms s.sender z.sender) (append-nil f.made) (sent_then [] f.made s.sender t z.sender sent f.sent);
  reported = subst (λ (r : Option Reception). ReportsIn f.sacks r z.receiver) same f.reported;
  written = f.written;
  each = f.each;
  none = f.none;
}

pub sent_same : (k : Bool) (s : Sides) (u v : Transmission) (q : Option Reception) (y : List ℕ) → v ≡ u → Transmits k s (sides u q y)
    → Transmits k s (sides v q y)
sent_same k s u v q y e h = subst (λ w. Transmits k s (sides w q y)) (sym e) h

-- no datagram
pub unsent : (s : Sides) (t : Transmission) (r : Option Reception) (y : List ℕ) → Sends [] s.sender t → r ≡ s.receiver → Transmits false s (sides t r y)
unsent s t r y sent same = record {
  made = [];
  sacks = [];
  sent = sent;
  reported = subst (λ (r : Option Reception). ReportsIn [] s.receiver r) (sym same) (none_in s.receiver);
  written = λ e. absurd (false≢true e);
  each = λ e. absurd (false≢true e);
  none = λ _. refl;
}

pub unsent_alike : (a b : Association) → HalvesAlike a b → (y : List ℕ)
    → Transmits false (sides_of a) (sides b.outbound.sender (receiver_of b.inbound) y)
unsent_alike a b h y = unsent (sides_of a) b.outbound.sender (receiver_of b.inbound) y
    (subst (λ t. Sends [] a.outbound.sender t) (sym h.sender) (none_sent a.outbound.sender)) h.receiver

-- nor where the call is refused
pub refused : (o : Result Bool Fault) → IsErr o → is_sent o ≡ false
refused (Ok b) h = absurd (false≢true h)
refused (Err e) h = refl

pub unsent_err : {X : Type 0} (o : Result Bool Fault) → IsErr o → is_sent o ≡ true → X
unsent_err o h e = absurd (false≢true (sym (refused o h) ∙ e))

pub none_sent_so : (o : Result Bool Fault) (s z : Sides) → IsErr o → Transmits false s z → Transmits (is_sent o) s z
none_sent_so o s z h t = subst (λ k. Transmits k s z) (sym (refused o h)) t

-- a packet of one reply
pub sent_alone : (a b : Association) → HalvesAlike a b → IsWritten [] [] b.draft.bytes → Transmits true (sides_of a) (sides_of b)
sent_alone a b h w = record {
  made = [];
  sacks = [];
  sent = subst (λ t. Sends [] a.outbound.sender t) (sym h.sender) (none_sent a.outbound.sender);
  reported = subst (λ r. ReportsIn [] (receiver_of a.inbound) r) (sym h.receiver) (none_in (receiver_of a.inbound));
  written = λ e. w;
  each = λ e. record {
    packet = w.packet;
    is_zero = w.is_zero;
    encoded = w.encoded;
    encodings = w.encodings;
    fits = w.fits;
    each = none_made [] w.packet.chunks w.own;
  };
  none = λ e. absurd (false≢true (sym e));
}
