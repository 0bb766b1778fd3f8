-- In every history what is complete in the record is what the order of arrivals makes complete.
use Rattle.sctp_model.proofs.Names.{◌≡◌, ℕ, ◌+◌, ◌<◌, ◌≤◌, Bool, true, false, List, [], ◌∷◌, ◌++◌, length, map, Some, refl, ap, sym, ◌∙◌, arith, if◌then◌else◌}
use Rattle.sctp_model.proofs.Names.{subst, nat_tests, Setup, Sack, LinkRecord, is_new, arrived_at, cumulative, History, record_of, IsRun, LogEntry}
use Rattle.sctp_model.proofs.Names.{SlotReceived, SkipReceived, SackMade, IsSetup, OnEveryRun, CompletenessAgrees}
use Rattle.sctp_model.specs.Messages
use Rattle.sctp_model.specs.Changes
use Rattle.sctp_model.specs.Log
use Rattle.sctp_model.proofs.sender.Shape.{shape}
use Rattle.sctp_model.proofs.sender.SenderRun.{Consistent}
use Rattle.sctp_model.proofs.sender.Network.{NamesFit}
use Rattle.sctp_model.proofs.receiver.Events.{Keeps, run-keeps}
use Rattle.sctp_model.proofs.receiver.Arrivals.{Arrivals, arrivals-keeps, arrivals-new, with_arrived, skipped-le}
use Rattle.sctp_model.proofs.receiver.View
use Rattle.sctp_model.proofs.receiver.View.{View, view, arrived_in, skipped_in, read_in}
use Rattle.sctp_model.proofs.receiver.Names.{view-skip}
use Rattle.sctp_model.proofs.receiver.CompleteMessages
use Rattle.sctp_model.proofs.receiver.Known
use Rattle.sctp_model.proofs.receiver.Known.{Complete, Known, hears, complete-as, still-of}

-- what is new has not arrived
pub new-not : (w : LinkRecord) (p : ℕ) → is_new w p ≡ true → arrived_at w p ≡ false
new-not w p e = grind (arith, nat_tests)

-- and is past what was skipped
pub new-past : (w : LinkRecord) (p : ℕ) → is_new w p ≡ true → w.skipped ≤ p
new-past w p e = grind (arith, nat_tests)

pub hears-as : (u v : View) (log : List LogEntry) → v ≡ u → CompleteMessages.Hears u log → CompleteMessages.Hears v log
hears-as u v log e h = subst (λ y. CompleteMessages.Hears y log) (sym e) h

pub hears-new : (w : LinkRecord) (log : List LogEntry) (p : ℕ) → p < length w.slots → is_new w p ≡ true → Arrivals w log
    → CompleteMessages.Hears (arrived_in (view w) p) (SlotReceived p ∷ log)
hears-new w log p lt new h = hears-as (view (with_arrived w p)) (arrived_in (view w) p) (SlotReceived p ∷ log) (sym (View.view-arrived w p lt))
    (hears (with_arrived w p) (SlotReceived p ∷ log) (arrivals-new w log p lt new h))

complete-received : (setup : Setup) (w : LinkRecord) (log : List LogEntry) (p : ℕ) → Consistent setup w → p < length w.slots
    → (Messages.slot_at w p).is_terminal_chunk ≡ false → Arrivals w log → Arrivals (Changes.receive_slot w p) (SlotReceived p ∷ log) → Complete (view w) log
    → Complete (view (Changes.receive_slot w p)) (SlotReceived p ∷ log)
complete-received setup w log p g lt terminal arrivals arrivals' h = by (is_new w p) refl
  where
    by : (b : Bool) → is_new w p ≡ b → Complete (view (Changes.receive_slot w p)) (SlotReceived p ∷ log)
    by true e = complete-as (Known.noting (arrived_in (view w) p) (Messages.message_of w p)) (view (Changes.receive_slot w p)) (SlotReceived p ∷ log)
        (Known.view-received setup w p g lt e)
        (Known.complete-slot (view w) log p g.sender h (hears w log arrivals) (hears-new w log p lt e arrivals) lt terminal (new-not w p e))
    by false e =
        let same : view (Changes.receive_slot w p) ≡ view w = ap (λ b.
        view (if b then Changes.note_completion (with_arrived w p) (Messages.message_of w p) else record w { duplicates = w.duplicates ++ p ∷ [] })) e in
        complete-as (view w) (view (Changes.receive_slot w p)) (SlotReceived p ∷ log) same
        (Known.complete-again (view w) (SlotReceived p) log (hears w log arrivals) (hears-as (view (Changes.receive_slot w p)) (view w) (SlotReceived p ∷ log)
        (sym same) (hears (Changes.receive_slot w p) (SlotReceived p ∷ log) arrivals')) g.sender (lt, h.datagram_received) h)

complete-skipped : (setup : Setup) (w : LinkRecord) (log : List LogEntry) (upto : ℕ) (names : List ℕ) → Consistent setup w → NamesFit (shape w) upto names
    → Arrivals w log → Arrivals (Changes.receive_skip w upto names) (SkipReceived upto names ∷ log) → Complete (view w) log
    → Complete (view (Changes.receive_skip w upto names)) (SkipReceived upto names ∷ log)
complete-skipped setup w log upto names g f arrivals arrivals' h = by (Changes.skip_counts w upto) refl
  where
    by : (b : Bool) → Changes.skip_counts w upto ≡ b → Complete (view (Changes.receive_skip w upto names)) (SkipReceived upto names ∷ log)
    by true e =
        let same : view (Changes.receive_skip w upto names) ≡ skipped_in (view w) upto names = ap (λ b.
        view (if b then record w { skipped = upto + 1; streams = map (Changes.named_by w names) w.streams } else w)) e ∙ view-skip setup w upto names g f in
        let c : cumulative w ≤ upto = grind (arith, nat_tests) in
        complete-as (skipped_in (view w) upto names) (view (Changes.receive_skip w upto names)) (SkipReceived upto names ∷ log) same
        (Known.complete-skip (view w) log upto names (hears w log arrivals)
        (hears-as (view (Changes.receive_skip w upto names)) (skipped_in (view w) upto names)
        (SkipReceived upto names ∷ log) (sym same) (hears (Changes.receive_skip w upto names) (SkipReceived upto names ∷ log) arrivals')) g.sender
        (omega (arith, c, skipped-le w)) h)
    by false e =
        let same : view (Changes.receive_skip w upto names) ≡ view w = grind (arith, nat_tests) in
        complete-as (view w) (view (Changes.receive_skip w upto names)) (SkipReceived upto names ∷ log) same
        (Known.complete-again (view w) (SkipReceived upto names) log (hears w log arrivals)
        (hears-as (view (Changes.receive_skip w upto names)) (view w) (SkipReceived upto names ∷ log) (sym same)
        (hears (Changes.receive_skip w upto names) (SkipReceived upto names ∷ log) arrivals')) g.sender h.datagram_received h)

pub known-keeps : (setup : Setup) → Keeps setup Known
known-keeps setup =
    let k = arrivals-keeps setup in
    record {
      begins = grind (arith, nat_tests);
      quiet = λ w v log g a q b. record {
        arrivals = k.quiet w v log g a q b.arrivals;
        complete = Known.complete-quiet (view w) (view v) log b.arrivals.arrived (still-of setup w v g a q) b.complete;
      };
      opened = grind (arith, nat_tests, View.view-opened);
      moded = λ w log s u r n g b. record {
        arrivals = k.moded w log s u r n g b.arrivals;
        complete = complete-as (view w) (view (Changes.after_mode w s u r n)) log (View.view-moded w s u r n) b.complete;
      };
      slot = λ w log p g lt m b. let h = k.slot w log p g lt m b.arrivals in
          record { arrivals = h; complete = complete-received setup w log p g lt m b.arrivals h b.complete };
      skip = λ w log upto names g lt f b. let h = k.skip w log upto names g lt f b.arrivals in
          record { arrivals = h; complete = complete-skipped setup w log upto names g f b.arrivals h b.complete };
      reported = λ w log credit g b. let h = k.reported w log credit g b.arrivals in record {
        arrivals = h;
        complete = Known.complete-again (view w) SackMade log (hears w log b.arrivals)
            (record { arrived = h.arrived; covered = h.covered }) g.sender b.complete.datagram_received b.complete;
      };
      taken = λ w log r g b. record {
        arrivals = k.taken w log r g b.arrivals;
        complete = complete-as (view w) (view (Changes.after_acked w (Some (Sack r)))) log (View.view-taken w r) b.complete;
      };
      read = λ w log s n g o e b. record {
        arrivals = k.read w log s n g o e b.arrivals;
        complete = complete-as (read_in (view w) s n) (view (Changes.read_of w s (Some n))) log (View.view-read w s n o)
            (Known.complete-reading (view w) log s n b.complete (Known.reads (view w) s n e));
      };
    }

pub known-run : (setup : Setup) (h : History) → IsSetup setup → IsRun setup h → Known (record_of setup h) (Log.log_of setup h)
known-run setup h is run = run-keeps setup Known (known-keeps setup) h is run

pub completeness_agrees : OnEveryRun CompletenessAgrees
completeness_agrees setup h is run n lt = (known-run setup h is run).complete.agrees n lt
