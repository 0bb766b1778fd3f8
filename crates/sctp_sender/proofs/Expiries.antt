-- What stands once several messages expired, one after another.
use Rattle.sctp_sender.proofs.Names.{◌≡◌, ℕ, zero, suc, List, Option, Some, None, refl, sym, subst, ◌∙◌, IfSome, GapAckBlock, ChunkPayloadData, Outbound}
use Rattle.sctp_sender.proofs.Names.{expired_of, expiring, Kept, Flight, with_queue, AreReported, IsCovered, AreKnown, IsAllSettled}
use Rattle.std.specs.Prelude.{IfNone}
use Rattle.sctp_outbound.specs.declared.outbound_queue.expiry.ExpiredRun.{ExpiredRun}
use Rattle.sctp_outbound.specs.outbound_queue.OutboundQueue.{expired_times}
use Rattle.sctp_sender.proofs.Covers.{expired-covered}
use Rattle.sctp_sender.proofs.InLine.{IsInLine, expired-in-line}
use Rattle.sctp_sender.proofs.Listed.{expired-reported}
use Rattle.sctp_sender.proofs.Settled.{expired-settled}

-- a run that expired or not is so many messages
pub so-many : (now : ℕ) (q new : Outbound) (r : Option ExpiredRun) → IfSome r (λ run. new ≡ expired_times now run.messages q)
    → IfNone r ((expiring now q ≡ None) × (new ≡ q)) → (n : ℕ) × (new ≡ expired_times now n q)
so-many now q new None some none = (0, none.1)
so-many now q new (Some run) some none = (run.messages, some)

-- what is in flight stays
one-chunks : (o : Option ChunkPayloadData) (q : Outbound) → (expired_of o q).inflight.chunks ≡ q.inflight.chunks
one-chunks None q = refl
one-chunks (Some c) q = refl

module _ (now : ℕ) (q : Outbound) where
  pub times-chunks : (n : ℕ) → (expired_times now n q).inflight.chunks ≡ q.inflight.chunks
  times-chunks zero = refl
  times-chunks (suc n) = let p : Outbound = expired_times now n q in one-chunks (expiring now p) p ∙ times-chunks n

  pub times-in-line : (n : ℕ) → IsInLine q → IsInLine (expired_times now n q)
  times-in-line zero v = v
  times-in-line (suc n) v =
      let p : Outbound = expired_times now n q in expired-in-line (expiring now p) p (expired_of (expiring now p) p) refl (times-in-line n v)

  pub times-known : (n : ℕ) (bs : List GapAckBlock) → AreKnown bs q.inflight.chunks → AreKnown bs (expired_times now n q).inflight.chunks
  times-known n bs known = subst (λ (cs : List ChunkPayloadData). AreKnown bs cs) (sym (times-chunks n)) known

  pub times-settled : (n : ℕ) → IsAllSettled q → IsAllSettled (expired_times now n q)
  times-settled zero v = v
  times-settled (suc n) v = let p : Outbound = expired_times now n q in expired-settled (expiring now p) p (times-settled n v)

module _ (o : Option Kept) (now : ℕ) (f : Flight) where
  pub times-covered : (n : ℕ) → IsCovered o f → IsCovered o (with_queue f (expired_times now n f.queue))
  times-covered zero v = v
  times-covered (suc n) v =
      let p : Outbound = expired_times now n f.queue in expired-covered o (expiring now p) (with_queue f p) (times-covered n v)

  pub times-reported : (n : ℕ) → AreReported o f → AreReported o (with_queue f (expired_times now n f.queue))
  times-reported zero v = v
  times-reported (suc n) v =
      let p : Outbound = expired_times now n f.queue in expired-reported o (expiring now p) (with_queue f p) (times-reported n v)
