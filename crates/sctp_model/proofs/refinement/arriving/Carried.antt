-- A slot that a DATA datagram carries, and the forms that the record may have after it.
use Rattle.sctp_model.proofs.Names.{◌≡◌, ℕ, ◌<◌, Bool, true, false, [], ◌∷◌, ◌++◌, length, Option, Some, None, refl, arith, if◌then◌else◌, is_some, fails}
use Rattle.sctp_model.proofs.Names.{length-kept-positive, Setup, LinkRecord, StreamRecord, message_at, slot_at, message_of, stream_at, has_fragment, is_new}
use Rattle.sctp_model.proofs.Names.{stream_changed, with_complete, becomes_complete, receive_slot, nat_tests}
use Rattle.sctp_model.proofs.sender.Shape.{shape, sent}
use Rattle.sctp_model.proofs.sender.SenderRun.{Consistent}
use Rattle.sctp_model.proofs.refinement.arriving.Arrival
use Rattle.sctp_model.proofs.refinement.arriving.Arrival.{with_arrived}
use Rattle.sctp_model.proofs.refinement.arriving.SlotArrives.{Enters}

pub record Carried (w : LinkRecord) (p : ℕ) : Type 0 where
  pub made : p < length w.slots
  pub fragment : (slot_at w p).is_terminal_chunk ≡ false
  pub alive : (message_at w (message_of w p)).expired ≡ false
  pub known : (r : StreamRecord) × (stream_at w (message_at w (message_of w p)).stream ≡ Some r)

pub enters : (w : LinkRecord) (p : ℕ) → Carried w p → is_new w p ≡ true → Enters w (message_at w (message_of w p)).stream p
enters w p c e = record { made = c.made; new = e; fragment = c.fragment; stream = refl; alive = c.alive }

-- each slot that has a fragment is such a one
pub carried : (setup : Setup) (w : LinkRecord) (p : ℕ) → Consistent setup w → p < length w.slots → (slot_at w p).is_terminal_chunk ≡ false → Carried w p
carried setup w p g lt terminal = record {
  made = lt;
  fragment = terminal;
  alive = fails (message_at w (message_of w p)).expired (λ e. not_sent (g.sender.expired_unsent (message_of w p) (g.sender.made p lt) e));
  known = some-of (stream_at w (message_at w (message_of w p)).stream) refl (g.known (message_of w p) (g.sender.made p lt));
}
  where
    not_sent : sent (shape w) (message_of w p) ≡ 0 → ⊥
    not_sent z = omega (
      arith,
      z,
      length-kept-positive (has_fragment w (message_of w p)) p 0 (length w.slots) (omega arith) (omega (arith, lt)) (Arrival.has-fragment w p terminal),
    )

    some-of : (o : Option StreamRecord) → stream_at w (message_at w (message_of w p)).stream ≡ o → is_some o ≡ true
        → (r : StreamRecord) × (stream_at w (message_at w (message_of w p)).stream ≡ Some r)
    some-of None e h = cc
    some-of (Some r) e h = (r, e)

-- the record after a new one, by whether its message becomes complete
abbrev pub noted : LinkRecord → ℕ → Bool → LinkRecord
noted w p b = if b then stream_changed (with_arrived w p) (message_at w (message_of w p)).stream (with_complete (message_of w p)) else with_arrived w p

-- P of the record after a slot, from P of the forms that it may have
pub by_step : (P : LinkRecord → Type 0) (w : LinkRecord) (p : ℕ) → P (record w { duplicates = w.duplicates ++ p ∷ [] })
    → (is_new w p ≡ true → (b : Bool) → becomes_complete (with_arrived w p) (message_of w p) ≡ b → P (noted w p b)) → P (receive_slot w p)
by_step P w p again new = grind (arith, nat_tests)
