-- The fragments of a Send go one after another.
use Rattle.sctp_model.proofs.Names.{◌≡◌, ℕ, ◌≤◌, length, Some, None, sym, arith, subst, nat_tests, next_pending, Outbound, all_started, sent_peeked, Setup}
use Rattle.sctp_model.proofs.Names.{LinkRecord, front, sent_of, tsn_of, after_start, send_fragment, send_fragment_of, History, record_of, IsRun, waiting_at}
use Rattle.sctp_model.proofs.Names.{RefinesOutbound}
use Rattle.sctp_model.proofs.sender.Shape.{shape}
use Rattle.sctp_model.proofs.sender.SenderRun.{consistent-run, consistent-started}
use Rattle.sctp_model.proofs.sender.Few
use Rattle.sctp_model.proofs.sender.Fronts.{front-none}
use Rattle.sctp_model.proofs.refinement.sending.Sent.{front_is, pending-sent, pending-idle}
use Rattle.sctp_model.proofs.refinement.sending.SentInFlight.{refines-sent}
use Rattle.sctp_model.proofs.refinement.sending.KindsRun.{Going, turns-as, turns-run}
use Rattle.sctp_model.proofs.sender.Shapes

pub going-run : (setup : Setup) (h : History) → IsRun setup h → Going setup (record_of setup h)
going-run setup h run = record { consistent = consistent-run setup h run; turns = turns-run setup h run }

-- nothing is shown where nothing is pending
pub idle : (w : LinkRecord) (q : Outbound) → RefinesOutbound w q → front w ≡ None → next_pending q.pending ≡ None
idle w q t e = pending-idle w q.pending t.pending (λ k lt. front-none (shape w) e k lt)

-- where there is a front, its next fragment is shown
pub shown : (setup : Setup) (w : LinkRecord) (n : ℕ) (q : Outbound) → Going setup w → front w ≡ Some n → RefinesOutbound w q
    → next_pending q.pending ≡ Some (waiting_at w n (sent_of w n))
shown setup w n q g e t = (pending-sent w n (front_is w g.consistent.sender g.turns n e) q.pending t.pending).0

-- and takes the next slot
pub refines-fragment : (setup : Setup) (w : LinkRecord) (n now : ℕ) (q : Outbound) → Going setup w → front w ≡ Some n → w.taken ≤ length w.slots
    → q.next_unstarted ≡ length w.messages → RefinesOutbound w q → RefinesOutbound (send_fragment w) (sent_peeked q (tsn_of w (length w.slots)) now)
refines-fragment setup w n now q g e made all t =
    subst (λ o. RefinesOutbound (send_fragment_of w o) (sent_peeked q (tsn_of w (length w.slots)) now)) (sym e)
    (refines-sent w n now q (front_is w g.consistent.sender g.turns n e) (Few.few setup w g.consistent) made all t)

-- once lifetimes have started, all have
pub all-begun : (w : LinkRecord) (now : ℕ) (q : Outbound) → RefinesOutbound w q → (all_started now q).next_unstarted ≡ length w.messages
all-begun w now q t = grind (arith, nat_tests)

pub going-started : (setup : Setup) (w : LinkRecord) (now : ℕ) → Going setup w → Going setup (after_start w now)
going-started setup w now g =
    record {
      consistent = consistent-started setup w now g.consistent;
      turns = turns-as (shape w) (shape (after_start w now)) (Shapes.shape-started w now) g.turns;
    }
