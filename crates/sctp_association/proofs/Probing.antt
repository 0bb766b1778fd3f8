-- A HEARTBEAT leaves where one is due, and its answer is awaited.
use Rattle.std.proofs.Common.{◌≡◌, inl, inr, ℕ, ◌≤◌, List, [], ◌∷◌, ◌++◌, length, Bool, true, false, Option, Some, None, arith, refl, ap, sym, subst, ◌∙◌}
use Rattle.std.proofs.lemmas.Bool.{false≢true}
use Rattle.std.proofs.lemmas.List.{append-nil}
use Rattle.std.specs.List.{AllByRecursion}
use Rattle.std.specs.Prelude.{Result, option_map}
use Rattle.std.specs.Result.{IsErr}
use Rattle.sctp_association.proofs.Idle.{longer_by_chunk}
use Rattle.sctp_association.proofs.Known.{was}
use Rattle.sctp_association.proofs.Others.{refused}
use Rattle.sctp_association.proofs.Putting.{adds_none, adds_then}
use Rattle.sctp_association.specs.declared.association.Association.{Association}
use Rattle.sctp_association.specs.declared.due.Alone.{Alone}
use Rattle.sctp_association.specs.declared.due.AloneKind.{AloneKind}
use Rattle.sctp_association.specs.declared.due.AloneKind.TheVariants as alone
use Rattle.sctp_association.specs.declared.fault.Fault.{Fault}
use Rattle.sctp_association.specs.Halves.{IsAsTimed, PutsOnce, PutsOthers, PutsSent, is_sent}
use Rattle.sctp_association.specs.Leaving.{AsksNoMore, IsReplyOnce, beats, owed_of}
use Rattle.sctp_association.specs.Packets.{Adds, IsSkipOnce, put_where, sum_of, with_chunks}
use Rattle.sctp_association.specs.Probing.{KeepsBeat, LeavesBeat, Probes, PutsBeat, Waits, WaitsIdle, beat_at, beat_where, beats_in, used_at}
use Rattle.sctp_association.specs.Replying.{AreReply, IsOneWithin, IsReply, header_to}
use Rattle.sctp_chunks.specs.Wire.{Wire, heartbeat_chunk}
use Rattle.sctp_handshake.specs.declared.machine.Machine.{Machine}
use Rattle.sctp_packets.specs.declared.packet.CommonHeader.{CommonHeader}
use Rattle.sctp_packets.specs.Draft.{IsDraft, headed}
use Rattle.sctp_packets.specs.Packet.{Parts, packet_encoding}
use Rattle.sctp_params.specs.Param.{Parameter}
use Rattle.sctp_path.specs.declared.heartbeat.Heartbeat.{Heartbeat}
use Rattle.sctp_path.specs.Heartbeats.{after_asking}

-- ## Which chunks

beats-append : (ws vs : List Wire) → beats_in (ws ++ vs) ≡ beats_in ws ++ beats_in vs
beats-append [] vs = refl
beats-append (heartbeat_chunk ps ∷ ws) vs = ap (λ (bs : List (List Parameter)). ps ∷ bs) (beats-append ws vs)
beats-append (w ∷ ws) vs = beats-append ws vs

free-one : (P : Wire → Type 0) → ((ps : List Parameter) → P (heartbeat_chunk ps) → ⊥) → (w : Wire) (ws : List Wire) → P w → beats_in ws ≡ []
    → beats_in (w ∷ ws) ≡ []
free-one P none (heartbeat_chunk ps) ws h rest = absurd (none ps h)
free-one P none _ ws h rest = rest

free-of : (P : Wire → Type 0) → ((ps : List Parameter) → P (heartbeat_chunk ps) → ⊥) → (ws : List Wire) → AllByRecursion P ws → beats_in ws ≡ []
free-of P none [] h = refl
free-of P none (w ∷ ws) h = free-one P none w ws h.0 (free-of P none ws h.1)

none-then : (ws vs : List Wire) → beats_in ws ≡ [] → beats_in (ws ++ vs) ≡ beats_in vs
none-then ws vs none = beats-append ws vs ∙ ap (λ (bs : List (List Parameter)). bs ++ beats_in vs) none

then-none : (ws vs : List Wire) → beats_in vs ≡ [] → beats_in (ws ++ vs) ≡ beats_in ws
then-none ws vs none = beats-append ws vs ∙ ap (λ (bs : List (List Parameter)). beats_in ws ++ bs) none ∙ append-nil (beats_in ws)

one-free : (k : Bool) (w : Wire) → beats_in (w ∷ []) ≡ [] → beats_in (put_where k w) ≡ []
one-free true w e = e
one-free false w e = refl

-- ## None is put

pub keeps_same : (a b : Association) → b.draft.bytes ≡ a.draft.bytes → b.heartbeat ≡ a.heartbeat → KeepsBeat a b
keeps_same a b e same = record {
  chunks = [];
  added = subst (λ (x : List ℕ). Adds [] a.draft.bytes x) (sym e) (adds_none a.draft.bytes);
  none = refl;
  same = same;
}

pub keeps_put : (k : Bool) (w : Wire) (a b : Association) → Adds (put_where k w) a.draft.bytes b.draft.bytes → beats_in (w ∷ []) ≡ []
    → b.heartbeat ≡ a.heartbeat → KeepsBeat a b
keeps_put k w a b added free same = record { chunks = put_where k w; added = added; none = one-free k w free; same = same }

pub keeps_then : (a b c : Association) → KeepsBeat a b → KeepsBeat b c → KeepsBeat a c
keeps_then a b c h k = record {
  chunks = h.chunks ++ k.chunks;
  added = adds_then h.chunks k.chunks a.draft.bytes b.draft.bytes c.draft.bytes h.added k.added;
  none = none-then h.chunks k.chunks h.none ∙ k.none;
  same = k.same ∙ h.same;
}

pub others_keep : (a b : Association) → PutsOthers a b → KeepsBeat a b
others_keep a b p = record {
  chunks = p.chunks;
  added = p.added;
  none = free-of (IsReplyOnce (owed_of a) (owed_of b)) (λ r h. h) p.chunks p.plain;
  same = p.timed.idle;
}

pub once_keep : (a b : Association) → PutsOnce a b → IsAsTimed a b → KeepsBeat a b
once_keep a b p t = record {
  chunks = p.chunks;
  added = p.added;
  none = free-of (IsReplyOnce (owed_of a) (owed_of b)) (λ r h. h) p.chunks p.plain;
  same = t.idle;
}

-- ## One is put, or none

pub puts_none : (now : ℕ) (a b : Association) → KeepsBeat a b → PutsBeat Waits now a b
puts_none now a b k = record { chunks = k.chunks; added = k.added; asks = false; each = k.none; probes = k.same }

-- one that is due, and is put
pub puts_one : (now : ℕ) (k : Bool) (ps : List Parameter) (a b : Association) (h i : Heartbeat) → k ≡ true → ps ≡ beat_at now
    → Adds (put_where k (heartbeat_chunk ps)) a.draft.bytes b.draft.bytes → beats now a ≡ true → a.heartbeat ≡ Some h → b.heartbeat ≡ Some i
    → i ≡ after_asking now now h → PutsBeat Waits now a b
puts_one now k ps a b h i put is added due old new asked = record {
  chunks = put_where k (heartbeat_chunk ps);
  added = added;
  asks = true;
  each = ap (λ (b : Bool). beats_in (put_where b (heartbeat_chunk ps))) put ∙ ap (λ (qs : List Parameter). qs ∷ []) is;
  probes = (due, new ∙ ap (λ (x : Heartbeat). Some x) asked ∙ sym (ap (option_map (after_asking now now)) old));
}

probes-from : (now : ℕ) (a b c : Association) (asks : Bool) → Waits a b → (beats now a ≡ false → beats now b ≡ false)
    → Probes Waits now asks b c → Probes Waits now asks a c
probes-from now a b c true same more h =
    (was (beats now a) (beats now b) more h.0, h.1 ∙ ap (option_map (after_asking now now)) same)
probes-from now a b c false same more h = h ∙ same

-- behind what puts none
pub puts_later : (now : ℕ) (a b c : Association) → KeepsBeat a b → AsksNoMore now a b → PutsBeat Waits now b c → PutsBeat Waits now a c
puts_later now a b c k more p = record {
  chunks = k.chunks ++ p.chunks;
  added = adds_then k.chunks p.chunks a.draft.bytes b.draft.bytes c.draft.bytes k.added p.added;
  asks = p.asks;
  each = none-then k.chunks p.chunks k.none ∙ p.each;
  probes = probes-from now a b c p.asks k.same more.beat p.probes;
}

probes-then : (now : ℕ) (a b c : Association) (asks : Bool) → Waits b c → Probes Waits now asks a b → Probes Waits now asks a c
probes-then now a b c true same h = (h.0, same ∙ h.1)
probes-then now a b c false same h = same ∙ h

-- and before it
pub puts_first : (now : ℕ) (a b c : Association) → PutsBeat Waits now a b → KeepsBeat b c → PutsBeat Waits now a c
puts_first now a b c p k = record {
  chunks = p.chunks ++ k.chunks;
  added = adds_then p.chunks k.chunks a.draft.bytes b.draft.bytes c.draft.bytes p.added k.added;
  asks = p.asks;
  each = then-none p.chunks k.chunks k.none ∙ p.each;
  probes = probes-then now a b c p.asks k.same p.probes;
}

-- ## DATA behind it

used-after : (now : ℕ) (h : Option Heartbeat) → option_map (used_at now) (option_map (after_asking now now) h) ≡ option_map (after_asking now now) h
used-after now None = refl
used-after now (Some h) = refl

probes-used : (now : ℕ) (a b c : Association) (asks : Bool) → WaitsIdle now b c → Probes Waits now asks a b → Probes (WaitsIdle now) now asks a c
probes-used now a b c true (inl same) h = (h.0, same ∙ h.1)
probes-used now a b c true (inr used) h =
    (h.0, used.1 ∙ ap (option_map (used_at now)) h.1 ∙ used-after now a.heartbeat)
probes-used now a b c false (inl same) h = inl (same ∙ h)
probes-used now a b c false (inr used) h = inr (used.0, used.1 ∙ ap (option_map (used_at now)) h)

probes-idle : (now : ℕ) (a b : Association) (asks : Bool) → Probes Waits now asks a b → Probes (WaitsIdle now) now asks a b
probes-idle now a b true h = h
probes-idle now a b false h = inl h

pub puts_idle : (now : ℕ) (a b : Association) → PutsBeat Waits now a b → PutsBeat (WaitsIdle now) now a b
puts_idle now a b p = record { chunks = p.chunks; added = p.added; asks = p.asks; each = p.each; probes = probes-idle now a b p.asks p.probes }

pub puts_data : (now : ℕ) (a b c : Association) → PutsBeat Waits now a b → PutsSent b c → WaitsIdle now b c → PutsBeat (WaitsIdle now) now a c
puts_data now a b c p d w = record {
  chunks = p.chunks ++ d.chunks;
  added = adds_then p.chunks d.chunks a.draft.bytes b.draft.bytes c.draft.bytes p.added d.added;
  asks = p.asks;
  each = then-none p.chunks d.chunks (free-of (IsSkipOnce b.outbound.is_skip_due c.outbound.is_skip_due) (λ r h. h) d.chunks d.plain) ∙ p.each;
  probes = probes-used now a b c p.asks w p.probes;
}

-- where the path stays, and what was due before
pub probes_paused : (now : ℕ) (d b a c : Association) (asks : Bool) → Probes (WaitsIdle now) now asks d b → d.heartbeat ≡ a.heartbeat
    → beats now a ≡ beats now d → c.outbound.used ≡ b.outbound.used → c.heartbeat ≡ b.heartbeat → Probes (WaitsIdle now) now asks a c
probes_paused now d b a c true h before due used same = (due ∙ h.0, same ∙ h.1 ∙ ap (option_map (after_asking now now)) before)
probes_paused now d b a c false (inl h) before due used same = inl (same ∙ h ∙ before)
probes_paused now d b a c false (inr h) before due used same =
    inr (used ∙ h.0, same ∙ h.1 ∙ ap (option_map (used_at now)) before)

-- ## A datagram

none-of : (asks : Bool) (now : ℕ) → [] ≡ beat_where asks now → asks ≡ false
none-of true now e = absurd (cc e)
none-of false now e = refl

module _ (now : ℕ) (a new : Association) (h : CommonHeader) (begun full : List ℕ) (draft : IsDraft (headed h) begun) (ws : List Wire) (asks : Bool)
    (added : Adds ws begun full) (each : beats_in ws ≡ beat_where asks now) (probes : Probes (WaitsIdle now) now asks a new) where
  -- what was put behind a header, sealed
  pub beat_sealed : (z : Bool) → ((p : Parts) → IsDraft p full → new.draft.bytes ≡ packet_encoding (sum_of z) p) → LeavesBeat now true a new
  beat_sealed z encoded =
      let d = added.draft (headed h) draft in
      record {
        asks = asks;
        probes = probes;
        written = λ _. record {
          packet = with_chunks ws (headed h);
          is_zero = z;
          encoded = encoded _ d;
          encodings = d.encodings;
          fits = d.fits;
          each = each;
        };
        none = λ e. absurd (false≢true (sym e));
      }

  no-chunks : length full ≤ 12 → (vs : List Wire) → Adds vs begun full → vs ≡ []
  no-chunks short [] adds = refl
  no-chunks short (w ∷ vs) adds = absurd (omega (arith, short, longer_by_chunk [] vs w (headed h) full (adds.draft (headed h) draft)))

  -- where nothing was put, or a call was refused
  pub beat_unsent : length full ≤ 12 → LeavesBeat now false a new
  beat_unsent short = record {
    asks = asks;
    probes = probes;
    written = λ e. absurd (false≢true e);
    none = λ _. none-of asks now (sym (ap beats_in (no-chunks short ws added)) ∙ each);
  }

-- no datagram, and none leaves
pub beat_kept : (now : ℕ) (a new : Association) → new.heartbeat ≡ a.heartbeat → LeavesBeat now false a new
beat_kept now a new same = record { asks = false; probes = inl same; written = λ e. absurd (false≢true e); none = λ _. refl }

pub beat_none_so : (now : ℕ) (o : Result Bool Fault) (a new : Association) → IsErr o → LeavesBeat now false a new → LeavesBeat now (is_sent o) a new
beat_none_so now o a new err h = subst (λ (k : Bool). LeavesBeat now k a new) (sym (refused o err)) h

idle-from : (now : ℕ) (a b c : Association) (asks : Bool) → Waits a b → (beats now a ≡ false → beats now b ≡ false)
    → Probes (WaitsIdle now) now asks b c → Probes (WaitsIdle now) now asks a c
idle-from now a b c true same more h =
    (was (beats now a) (beats now b) more h.0, h.1 ∙ ap (option_map (after_asking now now)) same)
idle-from now a b c false same more (inl h) = inl (h ∙ same)
idle-from now a b c false same more (inr h) = inr (h.0, h.1 ∙ ap (option_map (used_at now)) same)

-- behind what keeps it
pub beat_from : (now : ℕ) (k : Bool) (a b new : Association) → b.heartbeat ≡ a.heartbeat → AsksNoMore now a b → LeavesBeat now k b new
    → LeavesBeat now k a new
beat_from now k a b new same more h =
    record { asks = h.asks; probes = idle-from now a b new h.asks same more.beat h.probes; written = h.written; none = h.none }

-- a packet of one reply has none
within-free : (limit : ℕ) (w : Wire) (ws : List Wire) → beats_in (w ∷ []) ≡ [] → IsOneWithin limit w ws → beats_in ws ≡ []
within-free limit w ws e one = ap beats_in one.chunks ∙ one-free one.is_put w e

reply-free : (limit : ℕ) (key : List ℕ) (m : Machine) (raw : Option (List ℕ)) (kind : AloneKind) (ws : List Wire) → AreReply limit key m raw kind ws
    → beats_in ws ≡ []
reply-free limit key m raw alone.Init ws are = within-free limit _ ws refl are
reply-free limit key m raw (alone.InitAck ticket) ws are = within-free limit _ ws refl are.2
reply-free limit key m raw (alone.StaleCookie by) ws are = ap beats_in are
reply-free limit key m raw alone.ShuttingDown ws are = ap beats_in are
reply-free limit key m raw alone.ShutdownComplete ws are = ap beats_in are
reply-free limit key m raw (alone.Abort code) ws are = ap beats_in are
reply-free limit key m raw alone.NoCookie ws are = ap beats_in are
reply-free limit key m raw alone.HostName ws are = within-free limit _ ws refl are
reply-free limit key m raw (alone.NoUserData tsn) ws are = ap beats_in are

pub beat_alone : (now : ℕ) (one : Alone) (a new : Association) → IsReply one a new.draft.bytes → new.heartbeat ≡ a.heartbeat → LeavesBeat now true a new
beat_alone now one a new is same = record {
  asks = false;
  probes = inl same;
  written = λ _. record {
    packet = with_chunks is.chunks (headed (header_to a.config one.tag));
    is_zero = false;
    encoded = is.packet.encoded;
    encodings = is.packet.encodings;
    fits = is.packet.fits;
    each = reply-free a.draft.limit a.key a.machine a.due.unknown_params one.kind is.chunks is.are;
  };
  none = λ e. absurd (false≢true (sym e));
}
