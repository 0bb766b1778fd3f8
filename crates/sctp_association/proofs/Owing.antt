-- An ERROR about a stream that there is not, and a HEARTBEAT: each leaves once.
use Rattle.std.proofs.Common.{◌≡◌, ℕ, ◌≤◌, ◌<◌, ◌+◌, List, [], ◌∷◌, ◌++◌, Bool, true, false, Option, Some, None, arith, get_or}
use Rattle.std.proofs.Common.{refl, ap, inr, sym, subst, ◌∙◌}
use Rattle.std.specs.Int.{to_be_bytes, w16}
use Rattle.std.specs.Prelude.{IfSome, is_some, max, ◌==◌, ◌-◌, ◌^◌, if◌then◌else◌}
use Rattle.sctp_association.specs.Congested.{path_of}
use Rattle.sctp_association.proofs.Known.{owes_alike}
use Rattle.sctp_association.proofs.Others.{others_one}
use Rattle.sctp_association.specs.Entering.{usable_in}
use Rattle.sctp_association.specs.Served.{is_usable}
use Rattle.sctp_association.specs.declared.association.Association.{Association}
use Rattle.sctp_association.specs.declared.inbound.Inbound.{Inbound}
use Rattle.sctp_association.specs.declared.outbound.Outbound.{Outbound}
use Rattle.sctp_association.specs.Halves.{HalvesAlike, IsAsTimed, PutsOthers, receiver_of}
use Rattle.sctp_association.specs.declared.due.Due.{Due}
use Rattle.sctp_association.specs.Kept.{IsUnmoved, OwesLess, sack_waits, unknown_in}
use Rattle.sctp_association.specs.Leaving.{AsksNoMore, IsStreamTold}
use Rattle.sctp_association.specs.Packets.{Adds, put_where}
use Rattle.sctp_association.specs.Reports.{one_cause}
use Rattle.sctp_association.specs.Still.{IsLater, heartbeat_by, heartbeat_in}
use Rattle.sctp_chunks.specs.Wire.{error_chunk}
use Rattle.sctp_chunks.specs.declared.chunk.error_cause.ErrorCause.{ErrorCause}
use Rattle.sctp_handshake.specs.declared.machine.Machine.{Machine}
use Rattle.sctp_handshake.specs.declared.state.State.{State}
use Rattle.sctp_handshake.specs.declared.state.State.TheVariants.{Established}
use Rattle.sctp_packets.specs.Draft.{Draft}
use Rattle.sctp_path.specs.declared.heartbeat.Heartbeat.{Heartbeat}
use Rattle.sctp_path.specs.Rto.{Timeout}
use Rattle.sctp_path.specs.Timers.{Delay, is_due, later}
use Rattle.sctp_util.specs.Field.{be16}

-- ## An ERROR about a stream

-- nothing changes but a receiver and the packet
pub record IsBeside (a b : Association) : Type 0 where
  pub outbound : b.outbound ≡ a.outbound
  pub config : b.config ≡ a.config
  pub key : b.key ≡ a.key
  pub machine : b.machine ≡ a.machine
  pub due : b.due ≡ a.due
  pub cookie : b.cookie ≡ a.cookie
  pub events : b.events ≡ a.events
  pub over : b.is_over ≡ a.is_over
  pub wants : b.wants_shutdown ≡ a.wants_shutdown
  pub control : b.control ≡ a.control
  pub guard : b.guard ≡ a.guard
  pub heartbeat : b.heartbeat ≡ a.heartbeat
  pub requests : b.requests ≡ a.requests
  pub peer : b.peer_requests ≡ a.peer_requests

module _ (a m : Association) (i j : Inbound) (inbound : a.inbound ≡ Some i) (after : m.inbound ≡ Some j) (receiver : j.receiver ≡ i.receiver)
    (delay : j.delay ≡ i.delay) (told : (s : ℕ) → j.unknown_stream ≡ Some s → i.unknown_stream ≡ Some s)
    (usable : (s : ℕ) → is_usable s j ≡ is_usable s i) (same : IsBeside a m) where
  told-alike : (d : Draft) → HalvesAlike a (record m { draft = d })
  told-alike d = record {
    sender = ap (λ (o : Outbound). o.sender) same.outbound;
    receiver = ap receiver_of after ∙ ap (λ r. Some r) receiver ∙ sym (ap receiver_of inbound);
    path = ap path_of same.outbound;
  }

  told-unmoved : (d : Draft) → IsUnmoved a (record m { draft = d })
  told-unmoved d = record {
    config = same.config;
    key = same.key;
    machine = same.machine;
    alone = ap (λ (x : Due). x.alone) same.due;
    cookie = same.cookie;
    events = same.events;
    over = same.over;
    wants = same.wants;
    control = same.control;
    guard = same.guard;
    failures = ap (λ (o : Outbound). o.failures) same.outbound;
    rto = ap (λ (o : Outbound). o.rto) same.outbound;
    usable = λ s. ap (λ (x : Option Inbound). usable_in s x) after ∙ usable s ∙ sym (ap (λ (x : Option Inbound). usable_in s x) inbound);
    due = subst (OwesLess a.due) (sym same.due) (owes_alike a.due);
    sack = λ e. ap sack_waits after ∙ ap (λ (x : Delay). is_some x.due) delay ∙ sym (ap sack_waits inbound) ∙ e;
    unknown = λ s e. ap unknown_in inbound ∙ told s (sym (ap unknown_in after) ∙ e);
  }

  told-timed : (d : Draft) → IsAsTimed a (record m { draft = d })
  told-timed d = record {
    heartbeat = ap (λ (x : Machine). heartbeat_in x.state m.outbound.rto.rto m.heartbeat) same.machine
        ∙ ap (λ (o : Outbound). heartbeat_in a.machine.state o.rto.rto m.heartbeat) same.outbound
        ∙ ap (λ (h : Option Heartbeat). heartbeat_in a.machine.state a.outbound.rto.rto h) same.heartbeat;
    idle = same.heartbeat;
    requests = same.requests;
    peer = same.peer;
  }

  pub stream_put : (k : Bool) (stream : ℕ) (cs : List ErrorCause) (d : Draft) → i.unknown_stream ≡ Some stream → j.unknown_stream ≡ None
      → cs ≡ one_cause 1 (be16 stream ++ 0 ∷ 0 ∷ []) → Adds (put_where k (error_chunk cs)) a.draft.bytes d.bytes → PutsOthers a (record m { draft = d })
  stream_put k stream cs d noted gone tells added = others_one k (error_chunk cs) a (record m { draft = d }) added tt
      (inr (stream, ap unknown_in inbound ∙ noted, tells, ap unknown_in after ∙ gone)) (told-alike d) (told-unmoved d) (told-timed d)

-- what is said where there is a receiving half
pub told_of : (o p : Option Inbound) (i j : Inbound) → o ≡ Some i → p ≡ Some j → IsStreamTold i j
    → IfSome o (λ i. (j : Inbound) × (p ≡ Some j) × IsStreamTold i j)
told_of o p i j is after told = subst (λ (o : Option Inbound). IfSome o (λ i. (j : Inbound) × (p ≡ Some j) × IsStreamTold i j)) (sym is) (j, after, told)

pub told_in : (o p : Option Inbound) (i : Inbound) → o ≡ Some i → IfSome o (λ i. (j : Inbound) × (p ≡ Some j) × IsStreamTold i j)
    → (j : Inbound) × (p ≡ Some j) × IsStreamTold i j
told_in o p i is h = subst (λ (o : Option Inbound). IfSome o (λ i. (j : Inbound) × (p ≡ Some j) × IsStreamTold i j)) is h

-- the two bytes of a number, and two bytes 0
pub as_stream : (n : ℕ) (bytes : List ℕ) → bytes ≡ to_be_bytes w16 n
    → get_or bytes 0 0 ∷ get_or bytes 1 0 ∷ 0 ∷ 0 ∷ [] ≡ be16 n ++ 0 ∷ 0 ∷ []
unfolding be16
as_stream n bytes e = ap (λ (b : List ℕ). get_or b 0 0 ∷ get_or b 1 0 ∷ 0 ∷ 0 ∷ []) e

-- ## A HEARTBEAT

pub later_not_due : (now : ℕ) (o : Option ℕ) → IsLater now o → is_due now o ≡ false
later_not_due now None h = refl
later_not_due now (Some at) h = grind arith

comes-by : (now at : ℕ) (b : Bool) → (at == 2 ^ 64 - 1) ≡ b → (b ≡ false → now < at) → is_due now (if b then None else Some at) ≡ false
comes-by now at true e h = refl
comes-by now at false e h = let k = h refl in grind arith

past : (now used k : ℕ) → used ≡ now → 1 ≤ k → (later used k == 2 ^ 64 - 1) ≡ false → now < later used k
past now used k same h e = grind arith

-- where there is none no HEARTBEAT is due
pub none_beats : (now : ℕ) (s : State) (rto : ℕ) (h : Option Heartbeat) → h ≡ None → is_due now (heartbeat_in s rto h) ≡ false
none_beats now Established rto h e = ap (λ (o : Option Heartbeat). is_due now (heartbeat_by rto o)) e
none_beats now _ rto h e = refl

-- where the path was used just now the next one is later
pub used_later : (now : ℕ) (s : State) (rto : ℕ) (h : Heartbeat) → h.used ≡ now → is_due now (heartbeat_in s rto (Some h)) ≡ false
used_later now Established rto h same =
    comes-by now (later h.used (max rto 1 + h.interval)) _ refl (past now h.used (max rto 1 + h.interval) same (omega arith))
used_later now _ rto h same = refl

-- an RTO that is the same
pub beats_rto : (now : ℕ) (s : State) (h : Option Heartbeat) (t u : Timeout) → u ≡ t → is_due now (heartbeat_in s t.rto h) ≡ false
    → is_due now (heartbeat_in s u.rto h) ≡ false
beats_rto now s h t u same none = subst (λ (r : Timeout). is_due now (heartbeat_in s r.rto h) ≡ false) (sym same) none

-- the half that sends changes, and the RTO stays
pub rto_asks : (now : ℕ) (a : Association) (o : Outbound) → o.rto ≡ a.outbound.rto → AsksNoMore now a (record a { outbound = o })
rto_asks now a o same = record {
  beat = λ none. beats_rto now a.machine.state a.heartbeat a.outbound.rto o.rto same none;
  request = λ e. e;
  responses = omega arith;
}
