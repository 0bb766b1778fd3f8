-- In every history: what the receiver keeps.
use Rattle.sctp_model.proofs.Names.{◌≡◌, ℕ, ◌+◌, ◌<◌, ◌≤◌, Bool, true, false, List, [], ◌∷◌, ◌++◌, length, map, Some, refl, ap, sym, ◌∙◌, inl, inr, arith, ◌⊎◌}
use Rattle.sctp_model.proofs.Names.{if◌then◌else◌, subst, cases_lt, nat_tests, Setup, Sack, LinkRecord, is_new, cumulative, History, record_of, IsRun, LogEntry}
use Rattle.sctp_model.proofs.Names.{IsSetup}
use Rattle.sctp_model.specs.Messages
use Rattle.sctp_model.specs.Changes
use Rattle.sctp_model.specs.Log
use Rattle.sctp_model.proofs.sender.Shape.{shape}
use Rattle.sctp_model.proofs.sender.SenderRun.{Consistent}
use Rattle.sctp_model.proofs.sender.Network.{NamesFit}
use Rattle.sctp_model.proofs.receiver.Events.{Keeps, run-keeps}
use Rattle.sctp_model.proofs.receiver.Arrivals.{with_arrived, arrived-beyond, skipped-le}
use Rattle.sctp_model.proofs.receiver.View
use Rattle.sctp_model.proofs.receiver.View.{View, view, arrived_in, skipped_in, read_in}
use Rattle.sctp_model.proofs.receiver.Names.{view-skip}
use Rattle.sctp_model.proofs.receiver.Known
use Rattle.sctp_model.proofs.receiver.Known.{Known, Complete, ReadsComplete, ReadsRun, reads, still-of}
use Rattle.sctp_model.proofs.receiver.KnownRun.{known-keeps, new-not, new-past}
use Rattle.sctp_model.proofs.receiver.Ordered
use Rattle.sctp_model.proofs.receiver.Ordered.{Ordered}

pub record Received (w : LinkRecord) (log : List LogEntry) : Type 0 where
  pub known : Known w log
  pub ordered : Ordered (view w)

pub ordered-as : (u v : View) → v ≡ u → Ordered u → Ordered v
ordered-as u v e o = subst Ordered (sym e) o

ordered-received : (setup : Setup) (w : LinkRecord) (p : ℕ) → Consistent setup w → p < length w.slots → (Messages.slot_at w p).is_terminal_chunk ≡ false
    → Ordered (view w) → Ordered (view (Changes.receive_slot w p))
ordered-received setup w p g lt terminal o = by (is_new w p) refl
  where
    by : (b : Bool) → is_new w p ≡ b → Ordered (view (Changes.receive_slot w p))
    by true e =
        ordered-as (Known.noting (arrived_in (view w) p) (Messages.message_of w p)) (view (Changes.receive_slot w p)) (Known.view-received setup w p g lt e)
        (Ordered.ordered-noting (arrived_in (view w) p) (Messages.message_of w p)
        (Ordered.ordered-arrived (view w) p g.sender lt terminal (new-not w p e) (new-past w p e) o))
    by false e = ordered-as (view w) (view (Changes.receive_slot w p)) (ap
        (λ b. view (if b then Changes.note_completion (with_arrived w p) (Messages.message_of w p) else record w { duplicates = w.duplicates ++ p ∷ [] })) e) o

ordered-skip : (setup : Setup) (w : LinkRecord) (upto : ℕ) (names : List ℕ) → Consistent setup w → NamesFit (shape w) upto names → Ordered (view w)
    → Ordered (view (Changes.receive_skip w upto names))
ordered-skip setup w upto names g f o = by (Changes.skip_counts w upto) refl
  where
    by : (b : Bool) → Changes.skip_counts w upto ≡ b → Ordered (view (Changes.receive_skip w upto names))
    by true e =
        let c : cumulative w ≤ upto = grind (arith, nat_tests) in
        ordered-as (skipped_in (view w) upto names) (view (Changes.receive_skip w upto names))
        (ap (λ b. view (if b then record w { skipped = upto + 1; streams = map (Changes.named_by w names) w.streams } else w)) e
        ∙ view-skip setup w upto names g f)
        (Ordered.ordered-skipped (view w) upto names g.sender f (omega (arith, c, skipped-le w)) o)
    by false e = grind (arith, nat_tests)

ordered-reading : (setup : Setup) (w : LinkRecord) (log : List LogEntry) (s n : ℕ) → Consistent setup w → Messages.is_open w s ≡ true
    → ReadsComplete (view w) s n ⊎ ReadsRun (view w) s n → Complete (view w) log → Ordered (view w) → Ordered (view (Changes.read_of w s (Some n)))
ordered-reading setup w log s n g a (inl r) h o = ordered-as (read_in (view w) s n) (view (Changes.read_of w s (Some n))) (View.view-read w s n a)
    (Ordered.ordered-read_unordered (view w) s n g.sender (Known.ready-first (view w) log s n h r).kind o)
ordered-reading setup w log s n g a (inr r) h o = ordered-as (read_in (view w) s n) (view (Changes.read_of w s (Some n))) (View.view-read w s n a)
    (Ordered.ordered-read (view w) s n g.sender o (Ordered.due-of (view w) s n o r))

pub received-keeps : (setup : Setup) → Keeps setup Received
received-keeps setup =
    let k = known-keeps setup in
    record {
      begins = grind (arith, nat_tests);
      quiet = λ w v log g a q b. record {
        known = k.quiet w v log g a q b.known;
        ordered = Ordered.ordered-still (view w) (view v) (still-of setup w v g a q) b.ordered (λ p e. inside w p e (cases_lt p (length w.slots)));
      };
      opened = grind (arith, nat_tests, View.view-opened);
      moded = λ w log s u r n g b. record {
        known = k.moded w log s u r n g b.known;
        ordered = ordered-as (view w) (view (Changes.after_mode w s u r n)) (View.view-moded w s u r n) b.ordered;
      };
      slot = λ w log p g lt m b. record { known = k.slot w log p g lt m b.known; ordered = ordered-received setup w p g lt m b.ordered };
      skip = λ w log upto names g lt f b. record { known = k.skip w log upto names g lt f b.known; ordered = ordered-skip setup w upto names g f b.ordered };
      reported = λ w log credit g b. record { known = k.reported w log credit g b.known; ordered = b.ordered };
      taken = λ w log r g b. record {
        known = k.taken w log r g b.known;
        ordered = ordered-as (view w) (view (Changes.after_acked w (Some (Sack r)))) (View.view-taken w r) b.ordered;
      };
      read = λ w log s n g o e b.
          record { known = k.read w log s n g o e b.known; ordered = ordered-reading setup w log s n g o (reads (view w) s n e) b.known.complete b.ordered };
    }
  where
    inside : (w : LinkRecord) (p : ℕ) → (view w).arrived p ≡ true → (p < length w.slots) ⊎ (length w.slots ≤ p) → p < length w.slots
    inside w p h1 h2 = grind (arith, nat_tests, arrived-beyond)

pub received-run : (setup : Setup) (h : History) → IsSetup setup → IsRun setup h → Received (record_of setup h) (Log.log_of setup h)
received-run setup h is run = run-keeps setup Received (received-keeps setup) h is run
