-- Chunks that are read whole, and states in which they are taken.
use Rattle.std.proofs.Common.{◌≡◌, ◌⊎◌, ℕ, ◌≤◌, Bool, true, false, List, drop, Option, Some, None, refl, ap, sym, subst, ◌∙◌, inl, inr, arith}
use Rattle.std.proofs.lemmas.Bool.{and_from, and_parts, cases_Bool, eqb-true, false≢true, or_cases}
use Rattle.std.specs.Prelude.{◌==◌, ◌||◌, is_some}
use Rattle.crc32c.specs.Castagnoli.{crc32c_of}
use Rattle.sctp_association.proofs.Each.{going_types}
use Rattle.sctp_association.specs.Coming.{GoesOn, IsTakenFrom, TakesDataOf, goes_on, is_due, zero_checksum_of}
use Rattle.sctp_association.specs.Halves.{receiver_of}
use Rattle.sctp_association.specs.declared.association.Association.{Association}
use Rattle.sctp_association.specs.declared.association.Reason.{Reason}
use Rattle.sctp_association.specs.declared.association.Reason.TheVariants.{Unexpected}
use Rattle.sctp_association.specs.declared.association.arrivals.Step.{Step}
use Rattle.sctp_association.specs.declared.association.arrivals.Step.TheVariants.{Next, Stop, Cut, Refused}
use Rattle.sctp_association.specs.declared.inbound.Inbound.{Inbound}
use Rattle.sctp_chunks.specs.Fault.{SackFault}
use Rattle.sctp_chunks.specs.Framing.{type_at}
use Rattle.sctp_chunks.specs.Init.{ack_type}
use Rattle.sctp_chunks.specs.Wire.{IsForwardTsn, IsHeartbeat, IsHeartbeatAck, IsShutdown, Wire, forward_tsn_chunk, heartbeat_ack_chunk, heartbeat_chunk}
use Rattle.sctp_chunks.specs.Wire.{init_chunk, shutdown_chunk, type_of}
use Rattle.sctp_datagram.proofs.InPlace.{sack_valid}
use Rattle.sctp_datagram.specs.Framing.{ChunkFault, StartsWith}
use Rattle.sctp_association.specs.declared.config.Config.{Config}
use Rattle.sctp_datagram.specs.Fault.{IsAccepted}
use Rattle.sctp_datagram.specs.Places.{IsPlace}
use Rattle.sctp_datagram.specs.declared.datagram.ZeroChecksum.{ZeroChecksum}
use Rattle.sctp_datagram.specs.Types.{is_whole_type}
use Rattle.sctp_datagram.specs.declared.datagram.ChunkPlace.{ChunkPlace}
use Rattle.sctp_handshake.specs.Endings.{drained_row, on_drained}
use Rattle.sctp_handshake.specs.Machines.{Takes}
use Rattle.sctp_handshake.specs.States.{takes_data, takes_sacks}
use Rattle.sctp_handshake.specs.Timeouts.{on_packet_arrived, packet_arrived_row}
use Rattle.sctp_handshake.specs.declared.answer.Answer.{Answer}
use Rattle.sctp_handshake.specs.declared.machine.Machine.{Machine}
use Rattle.sctp_handshake.specs.declared.state.State.{State}
use Rattle.sctp_handshake.specs.declared.state.State.TheVariants.{Closed, ShutdownPending, ShutdownReceived, ShutdownSent}
use Rattle.sctp_util.specs.Outcome.{OrMemory}
use Rattle.sctp_util.specs.declared.error.Error.{Error}
use Rattle.sctp_util.specs.declared.error.Error.TheVariants.{ErrOutOfMemory}

-- ## What is read

not-ack : (b : Bool) (n : ℕ) → 3 ≤ n → n ≡ ack_type b → ⊥
not-ack true n most e = omega (arith, most, e)
not-ack false n most e = omega (arith, most, e)

abbrev IsOfKind : Wire → Type 0
IsOfKind w = (type_of w ≡ 4 → IsHeartbeat w) × (type_of w ≡ 5 → IsHeartbeatAck w) × (type_of w ≡ 7 → IsShutdown w) × (type_of w ≡ 192 → IsForwardTsn w)

of-kind : (w : Wire) → IsOfKind w
of-kind (heartbeat_chunk ps) = (λ t. tt, λ t. absurd (omega (arith, t)), λ t. absurd (omega (arith, t)), λ t. absurd (omega (arith, t)))
of-kind (heartbeat_ack_chunk ps) = (λ t. absurd (omega (arith, t)), λ t. tt, λ t. absurd (omega (arith, t)), λ t. absurd (omega (arith, t)))
of-kind (shutdown_chunk n) = (λ t. absurd (omega (arith, t)), λ t. absurd (omega (arith, t)), λ t. tt, λ t. absurd (omega (arith, t)))
of-kind (forward_tsn_chunk f) = (λ t. absurd (omega (arith, t)), λ t. absurd (omega (arith, t)), λ t. absurd (omega (arith, t)), λ t. tt)
of-kind (init_chunk i) = (
  λ t. absurd (not-ack i.is_ack 4 (omega arith) (sym t)),
  λ t. absurd (not-ack i.is_ack 5 (omega arith) (sym t)),
  λ t. absurd (not-ack i.is_ack 7 (omega arith) (sym t)),
  λ t. absurd (not-ack i.is_ack 192 (omega arith) (sym t)),
)
of-kind _ = (λ t. absurd (omega (arith, t)), λ t. absurd (omega (arith, t)), λ t. absurd (omega (arith, t)), λ t. absurd (omega (arith, t)))

module _ (d : List ℕ) (p : ChunkPlace) (place : IsPlace d p) where
  type-there : (n : ℕ) → p.typ ≡ n → type_at (drop p.at d) ≡ n
  type-there n is = sym (ap (λ (k : ChunkPlace). k.typ) place.told) ∙ is

  reads-there : (n : ℕ) → p.typ ≡ n → is_whole_type n ≡ true → (w : Wire) × StartsWith (drop p.at d) w
  reads-there n is whole = place.there.reads (ap is_whole_type (type-there n is) ∙ whole)

  -- a SACK of a datagram is read, unless memory is wanting
  pub sack_read : p.typ ≡ 3 → (bytes : List ℕ) → bytes ≡ drop p.at d → (e : Error) → (e ≡ ErrOutOfMemory → ⊥) → OrMemory e (ChunkFault SackFault e bytes) → ⊥
  sack_read is bytes cut e not (inl memory) = not memory
  sack_read is bytes cut e not (inr fault) =
      let reads = reads-there 3 is refl in
      sack_valid e (drop p.at d) reads.0 reads.1 (type-there 3 is) (subst (ChunkFault SackFault e) cut fault)

  read-of : (n : ℕ) → p.typ ≡ n → is_whole_type n ≡ true → (K : Wire → Type 0) → ((w : Wire) → type_of w ≡ n → K w)
      → (w : Wire) × (K w × StartsWith (drop p.at d) w)
  read-of n is whole K kind =
      let reads = reads-there n is whole in
      (reads.0, (kind reads.0 (sym reads.1.typ ∙ type-there n is), reads.1))

  -- so is a FORWARD-TSN, a HEARTBEAT, a HEARTBEAT-ACK, a SHUTDOWN
  pub forward_read : p.typ ≡ 192 → (w : Wire) × (IsForwardTsn w × StartsWith (drop p.at d) w)
  forward_read is = read-of 192 is refl IsForwardTsn (λ w typ. (of-kind w).3 typ)

  pub heartbeat_read : p.typ ≡ 4 → (w : Wire) × (IsHeartbeat w × StartsWith (drop p.at d) w)
  heartbeat_read is = read-of 4 is refl IsHeartbeat (λ w typ. (of-kind w).0 typ)

  pub heartbeat_ack_read : p.typ ≡ 5 → (w : Wire) × (IsHeartbeatAck w × StartsWith (drop p.at d) w)
  heartbeat_ack_read is = read-of 5 is refl IsHeartbeatAck (λ w typ. (of-kind w).1 typ)

  pub shutdown_read : p.typ ≡ 7 → (w : Wire) × (IsShutdown w × StartsWith (drop p.at d) w)
  shutdown_read is = read-of 7 is refl IsShutdown (λ w typ. (of-kind w).2 typ)

-- ## In which states

-- a chunk that is taken goes on
pub due_going : (typ : ℕ) (a : Association) → is_due typ a ≡ true → goes_on typ ≡ true
due_going typ a due = elim (cases_Bool ((typ == 0) || (typ == 192))) [
  | inl first ↦ elim (or_cases (typ == 0) (typ == 192) first) [
    | inl is ↦ ap goes_on (eqb-true typ 0 is)
    | inr is ↦ ap goes_on (eqb-true typ 192 is)
  ]
  | inr other ↦ ap goes_on (eqb-true typ 3 (and_parts (typ == 3) (takes_sacks a.machine.state) (rw other at due)).0)
]

closed-due : (typ : ℕ) (a : Association) → a.machine.state ≡ Closed → (typ ≡ 0) ⊎ ((typ ≡ 3) ⊎ (typ ≡ 192)) → is_due typ a ≡ true → ⊥
closed-due typ a closed (inl is) due =
    false≢true (sym (ap takes_data closed) ∙ (and_parts (takes_data a.machine.state) (is_some a.inbound) (sym (ap (λ n. is_due n a) is) ∙ due)).0)
closed-due typ a closed (inr (inl is)) due = false≢true (sym (ap takes_sacks closed) ∙ sym (ap (λ n. is_due n a) is) ∙ due)
closed-due typ a closed (inr (inr is)) due =
    false≢true (sym (ap takes_data closed) ∙ (and_parts (takes_data a.machine.state) (is_some a.inbound) (sym (ap (λ n. is_due n a) is) ∙ due)).0)

-- none is in Closed
pub due_begun : (typ : ℕ) (a : Association) → is_due typ a ≡ true → a.machine.state ≡ Closed → ⊥
due_begun typ a due closed = closed-due typ a closed (going_types typ (due_going typ a due)) due

pub data_due : (tag : ℕ) (a : Association) → TakesDataOf tag a → is_due 0 a ≡ true
data_due tag a takes = and_from (takes_data a.machine.state) (is_some a.inbound) takes.state takes.served

pub data_begun : (tag : ℕ) (a : Association) → TakesDataOf tag a → a.machine.state ≡ Closed → ⊥
data_begun tag a takes closed = false≢true (sym (ap takes_data closed) ∙ takes.state)

-- ## DATA is taken as before

some-of : (o : Option Inbound) → is_some (receiver_of o) ≡ is_some o
some-of None = refl
some-of (Some i) = refl

-- where the machine is in the same state, with the same own tag, and there is a receiver as before
pub takes_on : (tag : ℕ) (a b : Association) → TakesDataOf tag a → b.is_over ≡ a.is_over → b.machine.state ≡ a.machine.state
    → b.machine.own ≡ a.machine.own → is_some b.inbound ≡ true → TakesDataOf tag b
takes_on tag a b t over state own served = record {
  going = over ∙ t.going;
  state = ap takes_data state ∙ t.state;
  served = served;
  own = t.own ∙ ap (λ o. o.tag) (sym own);
}

-- where there is a receiver, one is behind what leaves it alike
pub served_alike : (o p : Option Inbound) → receiver_of p ≡ receiver_of o → is_some o ≡ true → is_some p ≡ true
served_alike o p same is = sym (some-of p) ∙ ap is_some same ∙ some-of o ∙ is

arrived-state : (s : State) (m : Machine) → m.state ≡ s → (packet_arrived_row s true m).machine.state ≡ m.state
arrived-state ShutdownSent m is = refl
arrived-state _ m is = refl

-- DATA leaves the state
pub arrived_state : (m n : Machine) (a : Answer) → Takes (on_packet_arrived true m) n a → n.state ≡ m.state
arrived_state m n a t = ap (λ (k : Machine). k.state) t.machine ∙ arrived-state m.state m refl

-- nor is anything told
arrived-told : (s : State) (m : Machine) → (packet_arrived_row s true m).answer.told ≡ None
arrived-told ShutdownSent m = refl
arrived-told _ m = refl

pub arrived_told : (m n : Machine) (a : Answer) → Takes (on_packet_arrived true m) n a → a.told ≡ None
arrived_told m n a t = ap (λ (k : Answer). k.told) t.answer ∙ arrived-told m.state m

drained-told : (s : State) (m : Machine) → (drained_row s m).answer.told ≡ None
drained-told ShutdownPending m = refl
drained-told ShutdownReceived m = refl
drained-told _ m = refl

pub drained_told : (m : Machine) (a : Answer) → a ≡ (on_drained m).answer → a.told ≡ None
drained_told m a e = ap (λ (k : Answer). k.told) e ∙ drained-told m.state m

-- ## What a chunk came to

module _ (c : ChunkPlace) (tag : ℕ) (d : List ℕ) (s : Step) (a b : Association) where
  pub goes_by : ((r : Reason) → s ≡ Refused r → (r ≡ Unexpected) × (c.typ ≡ 0 → ⊥)) → (s ≡ Stop → b.is_over ≡ true)
      → (s ≡ Next → TakesDataOf tag b × IsTakenFrom c d a b) → GoesOn c tag d s a b
  goes_by = by s
    where
      by : (s : Step) → ((r : Reason) → s ≡ Refused r → (r ≡ Unexpected) × (c.typ ≡ 0 → ⊥)) → (s ≡ Stop → b.is_over ≡ true)
          → (s ≡ Next → TakesDataOf tag b × IsTakenFrom c d a b) → GoesOn c tag d s a b
      by Next never over taken = taken refl
      by Stop never over taken = over refl
      by Cut never over taken = tt
      by (Refused r) never over taken = never r refl

-- ## A valid datagram

pub accepted_as : (c : Config) (z : ZeroChecksum) (d bytes : List ℕ) → zero_checksum_of c ≡ z → bytes ≡ d → IsAccepted (zero_checksum_of c) crc32c_of d
    → IsAccepted z crc32c_of bytes
accepted_as c z d bytes e same valid =
    let P : ZeroChecksum → Type 0 = λ k. IsAccepted k crc32c_of bytes in
    subst P e (subst (λ (l : List ℕ). IsAccepted (zero_checksum_of c) crc32c_of l) (sym same) valid)
