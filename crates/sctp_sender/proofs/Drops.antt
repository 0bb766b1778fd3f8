-- What expired is dropped group by group.
use Rattle.sctp_sender.proofs.Names.{◌≡◌, ℕ, zero, suc, ◌<◌, Bool, true, false, [], ◌∷◌, Option, Some, None, refl, ap, sym, arith, ◌||◌, is_some, list_any}
use Rattle.sctp_sender.proofs.Names.{none-some, not_both, ChunkPayloadData, Outbound, expiring, AbandonedMessage, Transmission, after_abandon, falls_on}
use Rattle.sctp_sender.proofs.Names.{tells_message_low}
use Rattle.sctp_outbound.specs.outbound_queue.OutboundQueue.{AreExpiredOf, stream_and_kind}
use Rattle.sctp_sender.specs.Thresholds.{fell}
use Rattle.sctp_sender.proofs.Lows.{messages-tell}

pub at-first : (a x : Bool) → true ≡ a → true ≡ (a || x)
at-first true x e = refl
at-first false x e = absurd (not_both (sym e))

-- ## A run in front

some-kind : (o : Option ChunkPayloadData) (k : ℕ × Bool) → stream_and_kind o ≡ Some k → true ≡ is_some o
some-kind None k e = absurd (none-some k e)
some-kind (Some c) k e = refl

-- where some messages expired, the first of them stands in front
pub front-expires : (s : ℕ) (u : Bool) (now m : ℕ) (q : Outbound) → 0 < m → AreExpiredOf s u now m q → true ≡ is_some (expiring now q)
front-expires s u now zero q some h = absurd (omega (arith, some))
front-expires s u now (suc zero) q some h = some-kind (expiring now q) (s, u) h.1
front-expires s u now (suc (suc n)) q some h = front-expires s u now (suc n) q (omega arith) h.0

-- ## A list of one

pub one-tells : (old new : Transmission) (a : AbandonedMessage) (m : Option ℕ) → new ≡ after_abandon m a.stream a.bytes old
    → a.is_low ≡ falls_on a.stream a.bytes old.streams → (s : ℕ) → list_any (tells_message_low s) (a ∷ []) ≡ fell s old new
one-tells old new a m is low s = messages-tell s old.streams new.streams (a ∷ []) (a ∷ [])
    (ap (λ (b : Bool). let x : AbandonedMessage = record a { is_low = b } in x ∷ []) low) (ap (λ (t : Transmission). t.streams) is)
