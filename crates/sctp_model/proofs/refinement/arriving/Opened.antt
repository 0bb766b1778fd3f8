-- Streams open and change their mode: the receiver's queues.
use Rattle.sctp_model.proofs.Names.{◌≡◌, ℕ, ◌<◌, Bool, true, false, [], length, map, ap, sym, ◌∙◌, arith, kept-none, fails, not_both, ReliabilityType}
use Rattle.sctp_model.proofs.Names.{Reassembly, Setup, LinkRecord, message_at, stream_of, is_open, no_stream, ordered_on, is_ordered_on, is_held, next_of}
use Rattle.sctp_model.proofs.Names.{chunk_at, set_of, complete_set_of, is_unassembled, ordered_sets, unassembled_chunks, nat_tests}
use Rattle.sctp_model.specs.Changes.{after_open, after_mode}
use Rattle.sctp_model.proofs.sender.SenderRun.{Consistent}
use Rattle.sctp_model.proofs.receiver.View
use Rattle.sctp_model.specs.refinement.Holds.{reassembly_of}
use Rattle.sctp_model.proofs.refinement.reading.Keeps
use Rattle.sctp_model.proofs.refinement.reading.Line
use Rattle.sctp_model.proofs.refinement.arriving.Unassembled
use Rattle.sctp_model.proofs.refinement.skipping.SkipStep
use Rattle.sctp_model.proofs.refinement.reading.Taken.{held}
use Rattle.sctp_model.proofs.refinement.arriving.Unordered.{unordered-of}

-- the queues of the streams that are open stay as they are
pub opened-same : (w : LinkRecord) (s t : ℕ) → is_open w s ≡ false → reassembly_of (after_open w s) t ≡ reassembly_of w t
opened-same w s t e =
    Keeps.restreamed w (after_open w s).streams t (λ x. ap (λ u. u.named x) (View.view-opened w s e)) (ap (λ u. u.complete t) (View.view-opened w s e))

pub mode-same : (w : LinkRecord) (s : ℕ) (unordered : Bool) (reliability : ReliabilityType) (value t : ℕ)
    → reassembly_of (after_mode w s unordered reliability value) t ≡ reassembly_of w t
mode-same w s u r n t = Keeps.restreamed w (after_mode w s u r n).streams t (λ x. ap (λ y. y.named x) (View.view-moded w s u r n))
    (ap (λ y. y.complete t) (View.view-moded w s u r n))

-- a stream that is not open has nothing
module _ (setup : Setup) (w : LinkRecord) (s : ℕ) (g : Consistent setup w) (closed : is_open w s ≡ false) where
  no-message : (n : ℕ) → n < length w.messages → (message_at w n).stream ≡ s → ⊥
  no-message n lt e = not_both (sym closed ∙ ap (is_open w) (sym e) ∙ g.known n lt)

  no-record : stream_of w s ≡ no_stream s
  no-record = grind (arith, nat_tests)

  none-on : (k : ℕ) → k < length w.messages → is_ordered_on w s k ≡ false
  none-on k lt = fails (is_ordered_on w s k) (λ e. no-message k lt (Line.on-stream w s k e))

  pub line : ordered_on w s ≡ []
  line = kept-none (is_ordered_on w s) 0 (length w.messages) (λ k a b. none-on k (omega arith))

  pub next : next_of w s ≡ 0
  next = cc (no-record, line)

  sets : ordered_sets w s ≡ []
  sets = ap (map (set_of w))
      (kept-none (is_held w s) 0 (length w.messages) (λ k a b. fails (is_held w s k) (λ h. not_both (sym (none-on k (omega arith)) ∙ (held w s k h).on))))

  unassembled : unassembled_chunks w s ≡ []
  unassembled = ap (map (chunk_at w)) (kept-none (is_unassembled w s) 0 (length w.slots) (λ p a b. fails (is_unassembled w s p) (λ h. none p (omega arith) h)))
    where
      none : (p : ℕ) → p < length w.slots → is_unassembled w s p ≡ true → ⊥
      none p lt h = grind (arith, nat_tests, Unassembled.unassembled, no-message, unordered-of)

  -- as a new queue has it
  pub closed-empty : reassembly_of w s ≡ (let q : Reassembly = record { next_ssn = 0; ordered = []; unordered = []; unassembled = [] } in q)
  closed-empty = SkipStep.parts next sets (ap (λ r. map (complete_set_of w) r.complete) no-record) unassembled
