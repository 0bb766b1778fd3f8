-- The slots of a datagram that come: what is known of them before, and what of the record they change.
use Rattle.sctp_model.proofs.Names.{◌≡◌, ℕ, zero, suc, ◌<◌, false, List, [], ◌∷◌, length, Some, arith, ap, ◌∙◌, slice_get, slice_index_or, fold, LinkRecord}
use Rattle.sctp_model.proofs.Names.{Data, slot_at, AllFragments, receive_slot, nat_tests}
use Rattle.sctp_model.proofs.refinement.arriving.Carried.{Carried, carried}
use Rattle.sctp_model.proofs.refinement.Histories.{Facts}
use Rattle.sctp_model.proofs.refinement.acknowledging.QuietSender.{SameToSender, same-then}
use Rattle.sctp_model.proofs.refinement.acknowledging.QuietSender
use Rattle.sctp_model.proofs.refinement.arriving.SlotArrives

module _ {w : LinkRecord} (f : Facts w) (k : ℕ) (ps : List ℕ) (e : slice_get w.network k ≡ Some (Data ps)) where
  fragment-at : (qs : List ℕ) (i : ℕ) → AllFragments w qs → i < length qs
      → (slice_index_or qs i 0 < length w.slots) × ((slot_at w (slice_index_or qs i 0)).is_terminal_chunk ≡ false)
  fragment-at [] i a lt = absurd (omega arith)
  fragment-at (q ∷ qs) zero a lt = (a.0, a.1)
  fragment-at (q ∷ qs) (suc i) a lt = fragment-at qs i a.2 (omega arith)

  all-fragments : AllFragments w ps
  all-fragments = f.valid.network.carried k ps e

  pub all-inside : (i : ℕ) → i < length ps → slice_index_or ps i 0 < length w.slots
  all-inside i lt = (fragment-at ps i all-fragments lt).0

  pub all-carried : (i : ℕ) → i < length ps → Carried w (slice_index_or ps i 0)
  all-carried i lt = let t = fragment-at ps i all-fragments lt in carried w.setup w (slice_index_or ps i 0) f.consistent t.0 t.1

-- slots change streams, slots and duplicates alone
pub rest-one : (w : LinkRecord) (p : ℕ)
    → receive_slot w p ≡ record w { streams = (receive_slot w p).streams; slots = (receive_slot w p).slots; duplicates = (receive_slot w p).duplicates }
rest-one w p = grind (arith, nat_tests, SlotArrives.repeated)

pub rest-all : (w v : LinkRecord) (ps : List ℕ) → v ≡ record w { streams = v.streams; slots = v.slots; duplicates = v.duplicates }
    → (let u = fold receive_slot v ps in u ≡ record w { streams = u.streams; slots = u.slots; duplicates = u.duplicates })
rest-all w v [] e = e
rest-all w v (p ∷ ps) e =
    let u = receive_slot v p in
    rest-all w u ps (rest-one v p ∙ ap {B = LinkRecord} (λ (z : LinkRecord). record z { streams = u.streams; slots = u.slots; duplicates = u.duplicates }) e)

pub quiet-slots : (w v : LinkRecord) (ps : List ℕ) → SameToSender w v → SameToSender w (fold receive_slot v ps)
quiet-slots w v [] f = f
quiet-slots w v (p ∷ ps) f = quiet-slots w (receive_slot v p) ps (same-then w v (receive_slot v p) f (QuietSender.same-slot v p))
