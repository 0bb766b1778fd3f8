-- Which chunk may end an association.
use Rattle.std.proofs.Common.{◌≡◌, ◌⊎◌, ℕ, Bool, true, false, List, drop, Option, Some, None, refl, ap, sym, subst, ◌∙◌, inl, inr}
use Rattle.std.proofs.lemmas.Bool.{cases_Bool, cases_eq, false≢true, ne_eqb}
use Rattle.std.proofs.lemmas.Option.{none-some}
use Rattle.std.specs.Prelude.{Result, Ok, Err, IfErr, IfOk, IfSome, ◌==◌, is_some}
use Rattle.sctp_association.proofs.Rows.{asked_closed, row_other, settled_closed}
use Rattle.sctp_association.specs.Coming.{goes_on}
use Rattle.sctp_association.specs.Cookies.{cookie_in}
use Rattle.sctp_association.specs.Ends.{Ends, EndsData, EndsIn, EndsOn, EndsSkip, IsAborted, IsAbortedBy, IsEndedBy, IsForged, abort_for, advised_code}
use Rattle.sctp_association.specs.Ends.{by_data, by_empty, by_sack, by_skip, ends_at, ends_by_type}
use Rattle.sctp_association.specs.Halves.{receiver_of}
use Rattle.sctp_association.specs.Openings.{EchoesOn, InitAckOn}
use Rattle.sctp_association.specs.Causes.{cause_in}
use Rattle.sctp_association.specs.Fresh.{fresh_tag}
use Rattle.sctp_association.specs.Rows.{FollowsStep, RowOn, Settles, error_row, has_row, over_by, owed_by, row_at, settled}
use Rattle.sctp_association.specs.Timers.{KeepsTimers, stops}
use Rattle.sctp_association.specs.declared.association.Association.{Association}
use Rattle.sctp_association.specs.declared.association.arrivals.Step.{Step}
use Rattle.sctp_association.specs.declared.association.arrivals.Step.TheVariants.{Next, Stop, Cut, Refused}
use Rattle.sctp_association.specs.declared.due.AloneKind.{AloneKind}
use Rattle.sctp_association.specs.declared.due.AloneKind.TheVariants as alone
use Rattle.sctp_association.specs.declared.due.Due.{Due}
use Rattle.sctp_association.specs.declared.event.Events.{Events}
use Rattle.sctp_association.specs.declared.fault.Fault.{Fault}
use Rattle.sctp_association.specs.declared.inbound.Followed.{Followed}
use Rattle.sctp_association.specs.declared.inbound.Followed.TheVariants.{Abort, Done, NoUserData, Wanting}
use Rattle.sctp_data.specs.declared.chunk.chunk_payload_data.ChunkPayloadData.{ChunkPayloadData}
use Rattle.sctp_data.specs.ForwardTsn.{ForwardTsn}
use Rattle.sctp_data.specs.PayloadData.{data_of}
use Rattle.sctp_association.specs.declared.outbound.Outbound.{Outbound}
use Rattle.sctp_chunks.specs.Wire.{data_chunk, forward_tsn_chunk, sack_chunk}
use Rattle.sctp_data.specs.SelectiveAck.{Sack}
use Rattle.sctp_datagram.specs.Carried.{IsChunkOf}
use Rattle.sctp_datagram.specs.Framing.{StartsWith}
use Rattle.sctp_datagram.specs.declared.datagram.ChunkPlace.{ChunkPlace}
use Rattle.sctp_handshake.specs.Cookies.{cookie_ack_row, cookie_step, renewal_row, repeat_row, row_of, unless_stale}
use Rattle.sctp_handshake.specs.Endings.{shutdown_row}
use Rattle.sctp_handshake.specs.Machines as machines
use Rattle.sctp_handshake.specs.declared.machine.cookies.CookieRow.{CookieRow}
use Rattle.sctp_handshake.specs.declared.machine.cookies.CookieRow.TheVariants.{First, Restart, Collision, Late, Repeat, Unlisted}
use Rattle.sctp_handshake.specs.declared.answer.Reply.TheVariants.{Shutdown}
use Rattle.sctp_handshake.specs.declared.machine.Machine.{Machine}
use Rattle.sctp_handshake.specs.declared.offer.Offer.{Offer}
use Rattle.sctp_handshake.specs.declared.state.State.{State}
use Rattle.sctp_handshake.specs.declared.state.State.TheVariants.{Closed, CookieEchoed}
use Rattle.sctp_handshake.specs.declared.ticket.Ticket.{Ticket}
use Rattle.sctp_association.specs.Paths.{taken_as}
use Rattle.sctp_path.specs.declared.timer.Timer.{Timer}
use Rattle.sctp_receiver.specs.Receiver.{Reception}
use Rattle.sctp_sender.specs.Flight.{sack_refusal}
use Rattle.sctp_sender.specs.Sender.{take_back_refusal}
use Rattle.sctp_sender.specs.declared.sender.refusal.SenderRefusal.{SenderRefusal}
use Rattle.sctp_sender.specs.declared.sender.refusal.SenderRefusal.TheVariants.{OutOfMemory}

-- ## What ends nothing

module _ (c : ChunkPlace) (d : List ℕ) (a b : Association) where
  -- it is over as it was
  pub ends_same : b.is_over ≡ a.is_over → (s : Step) → EndsOn c d s a b
  ends_same same Next = λ going over. absurd (false≢true (sym going ∙ sym same ∙ over))
  ends_same same Stop = λ going over. absurd (false≢true (sym going ∙ sym same ∙ over))
  ends_same same Cut = same
  ends_same same (Refused r) = tt

  pub ends_same_of : b.is_over ≡ a.is_over → (r : Result Step Fault) → IfOk r (λ s. EndsOn c d s a b)
  ends_same_of same (Ok s) = ends_same same s
  ends_same_of same (Err e) = tt

-- a step by which the machine tells no end
abbrev Goes : machines.Step → Type 0
Goes s = over_by s.answer.told false ≡ false

shutdown-goes : (s : State) (m : Machine) → Goes (shutdown_row s m)
shutdown-goes Closed m = refl
shutdown-goes _ m = refl

ack-goes : (s : State) (m : Machine) → Goes (cookie_ack_row s m)
ack-goes CookieEchoed m = refl
ack-goes _ m = refl

unless-goes : (stale : Bool) (m : Machine) (s : machines.Step) → Goes s → Goes (unless_stale stale m s)
unless-goes true m s h = refl
unless-goes false m s h = h

renewal-goes : (s : State) (t : Ticket) (m : Machine) → Goes (renewal_row s t m)
renewal-goes Closed t m = refl
renewal-goes _ t m = refl

repeat-goes : (s : State) (m : Machine) → Goes (repeat_row s m)
repeat-goes CookieEchoed m = refl
repeat-goes _ m = refl

echo-goes : (r : CookieRow) (t : Ticket) (stale : Bool) (m : Machine) → Goes (cookie_step r t stale m)
echo-goes First t stale m = unless-goes stale m _ (renewal-goes m.state t m)
echo-goes Restart t stale m = unless-goes stale m _ (renewal-goes m.state t m)
echo-goes Collision t stale m = unless-goes stale m _ (renewal-goes m.state t m)
echo-goes Late t stale m = unless-goes stale m _ refl
echo-goes Repeat t stale m = repeat-goes m.state m
echo-goes Unlisted t stale m = unless-goes stale m _ refl

-- where the step is followed that tells no end, it is over as it was
goes-over : (s : machines.Step) (tag now : ℕ) (a b : Association) → Goes s → FollowsStep s tag now a b → a.is_over ≡ false → b.is_over ≡ true → ⊥
goes-over s tag now a b goes h going over =
    false≢true (sym goes ∙ sym (ap (λ (x : Bool). over_by s.answer.told x) going) ∙ sym h.answer.over ∙ over)

-- ## A chunk that has a row

-- the causes of an ERROR that end nothing
error-ends : (cause : Option ℕ) (fresh : ℕ) (m : Machine) → over_by (error_row cause fresh m).answer.told false ≡ true → ends_at 9 cause ≡ true
error-ends None fresh m e = absurd (false≢true e)
error-ends (Some code) fresh m e = elim (cases_Bool (code == 3)) [
  | inl is ↦ is
  | inr other ↦ absurd (false≢true (rw other at e))
]

row-ends : (typ : ℕ) (cause : Option ℕ) (fresh : ℕ) (m : Machine) → goes_on typ ≡ false → over_by (row_at typ cause fresh m).answer.told false ≡ true
    → ends_at typ cause ≡ true
row-ends typ cause fresh m off e = elim (cases_eq typ 6) [
  | inl is ↦ ap (λ n. ends_at n cause) is
  | inr n6 ↦ elim (cases_eq typ 8) [
    | inl is ↦ ap (λ n. ends_at n cause) is
    | inr n8 ↦ elim (cases_eq typ 14) [
      | inl is ↦ ap (λ n. ends_at n cause) is
      | inr n14 ↦ elim (cases_eq typ 9) [
        | inl is ↦ ap (λ n. ends_at n cause) is ∙ error-ends cause fresh m (sym (ap told is) ∙ e)
        | inr n9 ↦ elim (cases_eq typ 7) [
          | inl is ↦ absurd (false≢true (sym (shutdown-goes m.state m) ∙ sym (ap told is) ∙ e))
          | inr n7 ↦ elim (cases_eq typ 11) [
            | inl is ↦ absurd (false≢true (sym (ack-goes m.state m) ∙ sym (ap told is) ∙ e))
            | inr n11 ↦ absurd (false≢true (sym (ap (λ (s : machines.Step). over_by s.answer.told false)
                (row_other typ cause fresh m (λ is. false≢true (sym off ∙ ap goes_on is)) n6 n7 n8 n9 n11 n14)) ∙ e))
          ]
        ]
      ]
    ]
  ]
]
  where
    told : ℕ → Bool
    told n = over_by (row_at n cause fresh m).answer.told false

module _ (c : ChunkPlace) (d : List ℕ) (a b : Association) where
  pub ends_row : (now : ℕ) → goes_on c.typ ≡ false → (s : Step) → (s ≡ Cut → ⊥) → RowOn c d now s a b → EndsOn c d s a b
  ends_row now off Next whole h = λ going over. row-ends c.typ (cause_in d c) (fresh_tag a.key now a.machine.own) a.machine off (
      sym (ap (λ (x : Bool). over_by (row_at c.typ (cause_in d c) (fresh_tag a.key now a.machine.own) a.machine).answer.told x) going) ∙ sym h.1.answer.over
      ∙ over
      )
  ends_row now off Stop whole (inl e) = λ going over. inl (ap (λ n. ends_at n (cause_in d c)) e.0)
  ends_row now off Stop whole (inr e) = absurd (false≢true (sym off ∙ e.0))
  ends_row now off Cut whole h = absurd (whole refl)
  ends_row now off (Refused r) whole h = tt

  -- a COOKIE-ECHO ends nothing
  pub ends_echo : (tag now : ℕ) (s : Step) → EchoesOn tag (cookie_in d c) now s a b → EndsOn c d s a b
  ends_echo tag now Next h = λ going over. absurd (goes-over h.0 _ now a b (ap (λ (s : machines.Step). over_by s.answer.told false) h.2.is
      ∙ echo-goes (row_of h.2.made.ticket a.machine) h.2.made.ticket _ a.machine) h.2.follows going over)
  ends_echo tag now Stop h = λ going over. absurd (goes-over h.0 _ now a b (ap (λ (s : machines.Step). over_by s.answer.told false) h.2.is
      ∙ echo-goes (row_of h.2.made.ticket a.machine) h.2.made.ticket _ a.machine) h.2.follows going over)
  ends_echo tag now Cut h = absurd h
  ends_echo tag now (Refused r) h = tt

  -- an INIT ACK may
  pub ends_init_ack : (now : ℕ) → c.typ ≡ 2 → (s : Step) → InitAckOn c d now s a b → EndsOn c d s a b
  ends_init_ack now typ Next h = λ going over. ap (λ n. ends_at n (cause_in d c)) typ
  ends_init_ack now typ Stop h = λ going over. inl (ap (λ n. ends_at n (cause_in d c)) typ)
  ends_init_ack now typ Cut h = absurd h
  ends_init_ack now typ (Refused r) h = tt

-- none of these types
pub off_other : (typ : ℕ) → (typ ≡ 0 → ⊥) → (typ ≡ 3 → ⊥) → (typ ≡ 192 → ⊥) → goes_on typ ≡ false
off_other typ n0 n3 n192 = rw (ne_eqb typ 0 n0) (rw (ne_eqb typ 3 n3) (ne_eqb typ 192 n192))

pub row_has : (typ : ℕ) → (typ ≡ 1 → ⊥) → (typ ≡ 2 → ⊥) → (typ ≡ 10 → ⊥) → has_row typ ≡ true
row_has typ n1 n2 n10 = rw (ne_eqb typ 1 n1) (rw (ne_eqb typ 2 n2) (rw (ne_eqb typ 10 n10) refl))

-- an answer of a call carries over
pub if_then : {T E : Type 0} {P Q : T → Type 0} (r : Result T E) → ((x : T) → r ≡ Ok x → P x → Q x) → IfOk r P → IfOk r Q
if_then (Ok x) f h = f x refl h
if_then (Err e) f h = tt

-- ## DATA and FORWARD-TSN

module _ (c : ChunkPlace) (d : List ℕ) (p q : Option Offer) (same : q ≡ p) (b : Association) (r : Reception) (is : receiver_of b.inbound ≡ Some r) where
  pub data_aborts : (chunk : ChunkPayloadData) → StartsWith (drop c.at d) (data_chunk (data_of chunk)) → (f : Followed) → EndsData chunk f r
      → (f ≡ Done → ⊥) → (f ≡ Wanting → ⊥) → IfSome (abort_for f) (λ kind. IsAborted kind q b) → IsAbortedBy c d p b
  data_aborts chunk reads Done h done wanting aborts = absurd (done refl)
  data_aborts chunk reads Wanting h done wanting aborts = absurd (wanting refl)
  data_aborts chunk reads (NoUserData tsn) h done wanting aborts =
      by_empty chunk reads h.0 (subst (λ n. IsAborted (alone.NoUserData n) p b) h.1 (subst (λ o. IsAborted (alone.NoUserData tsn) o b) same aborts))
  data_aborts chunk reads (Abort cause) h done wanting aborts =
      by_data r is chunk reads cause h (subst (λ o. IsAborted (alone.Abort (advised_code cause)) o b) same aborts)

  pub skip_aborts : (skip : ForwardTsn) → StartsWith (drop c.at d) (forward_tsn_chunk skip) → (f : Followed) → EndsSkip skip f r
      → (f ≡ Done → ⊥) → (f ≡ Wanting → ⊥) → IfSome (abort_for f) (λ kind. IsAborted kind q b) → IsAbortedBy c d p b
  skip_aborts skip reads Done h done wanting aborts = absurd (done refl)
  skip_aborts skip reads Wanting h done wanting aborts = absurd (wanting refl)
  skip_aborts skip reads (NoUserData tsn) h done wanting aborts = absurd h
  skip_aborts skip reads (Abort cause) h done wanting aborts =
      by_skip r is skip reads cause h (subst (λ o. IsAborted (alone.Abort (advised_code cause)) o b) same aborts)

-- a SACK that was read is there
pub sack_there : (at : ℕ) (d : List ℕ) (s : Sack) (bytes : List ℕ) → bytes ≡ drop at d → StartsWith bytes (sack_chunk s)
    → StartsWith (drop at d) (sack_chunk s)
sack_there at d s bytes cut reads = subst (λ (b : List ℕ). StartsWith b (sack_chunk s)) cut reads

-- what the sender refuses, but for memory, is forged
pub forged_by : {A : Type 0} (s t : Sack) (o : Outbound) (r : Result A SenderRefusal) → t ≡ taken_as s o → ((x : A) → r ≡ Ok x → ⊥)
    → (r ≡ Err OutOfMemory → ⊥)
    → IfErr r (λ e. ((e ≡ OutOfMemory) × (sack_refusal t o.sender.flight ≡ None))
    ⊎ ((sack_refusal t o.sender.flight ≡ Some e) ⊎ (take_back_refusal t o.sender ≡ Some e)))
    → IsForged s o
forged_by s t o (Ok x) same not_ok other why = absurd (not_ok x refl)
forged_by s t o (Err k) same not_ok other why = elim why [
  | inl m ↦ absurd (other (ap (λ (e : SenderRefusal). Err e) m.0))
  | inr (inl f) ↦ inl (sym (ap (λ (x : Sack). is_some (sack_refusal x o.sender.flight)) same) ∙ ap (λ (x : Option SenderRefusal). is_some x) f)
  | inr (inr f) ↦ inr (sym (ap (λ (x : Sack). is_some (take_back_refusal x o.sender)) same) ∙ ap (λ (x : Option SenderRefusal). is_some x) f)
]

pub forged_still : (s : Sack) (o p : Outbound) → p ≡ o → IsForged s o → IsForged s p
forged_still s o p same h = subst (IsForged s) (sym same) h

-- ## Chunks one behind the other

-- an association that is closed stays so as the datagram ends
module _ (now : ℕ) (a b : Association) (came : receiver_of b.inbound ≡ receiver_of a.inbound) (events : b.events ≡ a.events) (ends : Settles now a b) where
  aborted-kept : (kind : AloneKind) (peer : Option Offer) → IsAborted kind peer a → IsAborted kind peer b
  aborted-kept kind peer h =
      let machine : b.machine ≡ a.machine = ends.machine ∙ ap (λ (s : machines.Step). s.machine) (settled_closed a h.state) in
      let due : b.due ≡ a.due = ends.due ∙ ap (λ (s : machines.Step). owed_by s.answer.reply 0 a.due) (settled_closed a h.state) in
      let silent : (settled a).answer.reply ≡ None = ap (λ (s : machines.Step). s.answer.reply) (settled_closed a h.state) in
      let kept : KeepsTimers a b = ends.timers.keep (ap (λ (s : machines.Step). stops s.answer.told) (settled_closed a h.state))
      (ap (λ (m : Machine). m.state) machine ∙ sym (ap (λ (m : Machine). m.state) (asked_closed a.wants_shutdown a.machine h.state)))
      (λ e. none-some Shutdown (sym silent ∙ e)) in
      record {
        over = ends.over ∙ h.over;
        state = ap (λ (m : Machine). m.state) machine ∙ h.state;
        told = ap (λ (e : Events). e.closed) events ∙ h.told;
        timers = record {
          control = ap (λ (t : Timer). t.at) kept.control ∙ h.timers.control;
          guard = ap (λ (t : Timer). t.at) kept.guard ∙ h.timers.guard;
        };
        alone = ap (λ (x : Due). x.alone) due ∙ h.alone;
        farewell = λ is. ap (λ (x : Due). x.farewell) due ∙ h.farewell is;
      }

  pub aborted_still : (c : ChunkPlace) (d : List ℕ) (peer : Option Offer) → IsAbortedBy c d peer a → IsAbortedBy c d peer b
  aborted_still c d peer (by_empty chunk reads none h) = by_empty chunk reads none (aborted-kept _ peer h)
  aborted_still c d peer (by_data r is chunk reads cause why h) = by_data r (came ∙ is) chunk reads cause why (aborted-kept _ peer h)
  aborted_still c d peer (by_skip r is f reads cause why h) = by_skip r (came ∙ is) f reads cause why (aborted-kept _ peer h)
  aborted_still c d peer (by_sack s reads forged h) = by_sack s reads (forged_still s a.outbound b.outbound ends.outbound forged) (aborted-kept _ peer h)

  ends-still : (c : ChunkPlace) (d : List ℕ) (peer : Option Offer) → Ends c d peer a → Ends c d peer b
  ends-still c d peer (inl e) = inl e
  ends-still c d peer (inr h) = inr (aborted_still c d peer h)

  pub ended_still : (d : List ℕ) (x : Association) → EndsIn d x a → EndsIn d x b
  ended_still d x was = λ going over.
      let h = was going (sym ends.over ∙ over) in
      record { chunk = h.chunk; own = h.own; peer = h.peer; ends = ends-still h.chunk d h.peer h.ends }

-- so far one ended it by its type, if any did
pub record EndedByType (d : List ℕ) : Type 0 where
  pub chunk : ChunkPlace
  pub own : IsChunkOf d chunk
  pub ends : ends_by_type chunk d ≡ true

abbrev pub EndedSo : List ℕ → (old new : Association) → Type 0
EndedSo d old new = old.is_over ≡ false → new.is_over ≡ true → EndedByType d

ended-of : (d : List ℕ) (b : Association) → EndedByType d → IsEndedBy d b
ended-of d b e = record { chunk = e.chunk; own = e.own; peer = None; ends = inl e.ends }

module _ (d : List ℕ) (a m b : Association) (c : ChunkPlace) (own : IsChunkOf d c) (so : EndedSo d a m) where
  -- behind another chunk
  pub ended_next : EndsOn c d Next m b → EndedSo d a b
  ended_next on = λ going over. elim (cases_Bool m.is_over) [
    | inl was ↦ so going was
    | inr was ↦ record { chunk = c; own = own; ends = on was over }
  ]

  pub ended_stop : EndsOn c d Stop m b → EndsIn d a b
  ended_stop on = λ going over. elim (cases_Bool m.is_over) [
    | inl was ↦ ended-of d b (so going was)
    | inr was ↦ record { chunk = c; own = own; peer = m.machine.peer; ends = on was over }
  ]

-- nothing more ends it
pub ended_same : (d : List ℕ) (a m b : Association) → EndedSo d a m → b.is_over ≡ m.is_over → EndsIn d a b
ended_same d a m b so same = λ going over. ended-of d b (so going (sym same ∙ over))

pub ended_first : (d : List ℕ) (a : Association) → EndedSo d a a
ended_first d a = λ going over. absurd (false≢true (sym going ∙ over))

-- behind what ended it by its type others end it no more, and the end of the datagram leaves it
pub ended_then : (d : List ℕ) (a m b : Association) → EndedSo d a m → EndsIn d m b → EndsIn d a b
ended_then d a m b so others = λ going over. elim (cases_Bool m.is_over) [
  | inl was ↦ ended-of d b (so going was)
  | inr was ↦ others was over
]
