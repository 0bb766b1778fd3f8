-- The bytes that leave, by what the queue holds before and after.
use Rattle.sctp_model.proofs.Names.{◌≡◌, ℕ, ◌-◌, ◌<◌, ◌^◌, length, None, refl, ap, arith, find, has_tsn, Outbound, total_bytes, to_abandon, abandoned_of}
use Rattle.sctp_model.proofs.Names.{expiring_tail, LinkRecord, Setup, tsn_of, growth, History, record_of, IsRun, refusal_of, after, IsSetup, RefinesOutbound}
use Rattle.sctp_outbound.specs.outbound_queue.OutboundQueue.{message_of}
use Rattle.sctp_model.specs.declared.event.Event.TheVariants as E
use Rattle.sctp_model.proofs.sender.SenderRun.{consistent-run}
use Rattle.sctp_model.proofs.refinement.sending.Fragments.{going-run}
use Rattle.sctp_model.proofs.refinement.sending.KindsRun.{taken-run}
use Rattle.sctp_model.proofs.refinement.abandonment.Released.{growth-by_queues}
use Rattle.sctp_model.proofs.refinement.abandonment.AbandonedEvents.{refines-abandon, refines-tail}

module _ (setup : Setup) (h : History) (is : IsSetup setup) (run : IsRun setup h) (q : Outbound) (t : RefinesOutbound (record_of setup h) q) where
  abbrev w : LinkRecord
  w = record_of setup h

  first : w.setup.first < 2 ^ 32
  first = let e = ap (λ (s : Setup). s.first) (consistent-run setup h run).setup_is in omega (arith, e, is.first)

  -- an Abandon
  module _ (tsn : ℕ) (fits : tsn < 2 ^ 32) (ok : refusal_of w (E.Abandon tsn) ≡ None) where
    abbrev r : Outbound
    r = abandoned_of (to_abandon (find (has_tsn tsn) q.inflight.chunks)) (tsn_of w (length w.slots)) q

    pub bytes-abandon : growth w (after w (E.Abandon tsn)) ≡ total_bytes q - total_bytes r
    bytes-abandon = growth-by_queues setup h is run (E.Abandon tsn) ok refl q r t (refines-abandon setup w tsn q (consistent-run setup h run) first fits ok t)

  -- a Tail
  module _ (now : ℕ) where
    abbrev u : Outbound
    u = abandoned_of (message_of (expiring_tail now q)) (tsn_of w (length w.slots)) q

    pub bytes-tail : growth w (after w (E.Tail now)) ≡ total_bytes q - total_bytes u
    bytes-tail = growth-by_queues setup h is run (E.Tail now) refl refl q u t (refines-tail setup w now q (going-run setup h run) (taken-run setup h is run) t)
