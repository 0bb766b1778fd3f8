-- A SACK of the network, and the slots that it reports.
use Rattle.sctp_model.proofs.Names.{◌≡◌, ℕ, ◌-◌, ◌<◌, ◌≤◌, true, length, Option, Some, None, inl, inr, arith, nat_lt, slice_get, cases_lt, lt-ltb}
use Rattle.sctp_model.proofs.Names.{NoSuchDatagram, Setup, LinkRecord, Report, Sack, History, IsRun, record_of, unless, log_of, IsSetup, or-left, reports}
use Rattle.sctp_model.proofs.Names.{nat_tests}
use Rattle.sctp_model.specs.Steps.{is_for_sender}
use Rattle.sctp_model.proofs.receiver.Received.{received-run}
use Rattle.sctp_model.specs.LinkRecord as W
use Rattle.sctp_model.proofs.acknowledgement.Acknowledged

-- what is for the sender is a SACK
pub sack-there : (o : Option W.Datagram) → unless (is_for_sender o) NoSuchDatagram None ≡ None → (r : Report) × (o ≡ Some (Sack r))
sack-there b e = grind (arith, nat_tests)

-- only slots that are there are reported
abbrev pub Reported : LinkRecord → Type 0
Reported w = (k : ℕ) (r : Report) → slice_get w.network k ≡ Some (Sack r) → (p : ℕ) → reports r p ≡ true → p < length w.slots

pub reported-run : (setup : Setup) (h : History) → IsSetup setup → IsRun setup h → Reported (record_of setup h)
reported-run setup h is run = λ k r e p t. Acknowledged.seen-made (record_of setup h) (log_of setup h) p (received-run setup h is run).known.arrivals
    (Acknowledged.sack-at (log_of setup h) (record_of setup h).network k (Sack r) (Acknowledged.sacks-run setup h is run) e p t)

pub count-made : (w : LinkRecord) (k : ℕ) (r : Report) → Reported w → slice_get w.network k ≡ Some (Sack r) → r.cumulative ≤ length w.slots
count-made w k r made there = elim (cases_lt 0 r.cumulative) [
  | inl some ↦
      let last = made k r there (r.cumulative - 1)
      (or-left (nat_lt (r.cumulative - 1) r.cumulative) _ (lt-ltb (r.cumulative - 1) r.cumulative (omega (arith, some)))) in
      omega (arith, some, last)
  | inr none ↦ omega (arith, none)
]
