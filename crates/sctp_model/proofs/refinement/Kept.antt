-- What an event leaves of a record that stands for a history.
use Rattle.sctp_model.proofs.Names.{◌≡◌, ℕ, true, false, length, None, refl, ap, sym, ◌∙◌, arith, subst, pieces, Event, LinkRecord, ordered_before, message_at}
use Rattle.sctp_model.proofs.Names.{next_of, refusal_of, after, fragments_accepted, record_of, in_all, written_bytes, filter_of, amount, keeps_amounts}
use Rattle.sctp_model.proofs.Names.{counters_on, is_write, is_read, log_of, nat_tests}
use Rattle.sctp_model.proofs.sender.SenderRun.{consistent-run, consistent-after}
use Rattle.sctp_model.proofs.sender.Moves.{Quiet}
use Rattle.sctp_model.specs.refinement.Holds.{reassembly_of}
use Rattle.sctp_model.specs.refinement.Indexes.{begun_on}
use Rattle.sctp_model.proofs.refinement.sending.BegunRun.{SendsNone, none-after}
use Rattle.sctp_model.proofs.refinement.amounts.StreamCounters.{written-same, counters-same}
use Rattle.sctp_model.proofs.refinement.amounts.StreamAmounts.{amount-same}
use Rattle.sctp_model.proofs.refinement.reading.ReadOne.{KeepsNext, next-same}
use Rattle.sctp_model.proofs.refinement.amounts.MessageSums.{sum-same}
use Rattle.sctp_model.proofs.receiver.ValidRun.{record_is_valid}
use Rattle.sctp_model.proofs.receiver.Received.{received-run}
use Rattle.sctp_model.proofs.refinement.amounts.AnsweredSums.{answered-after}
use Rattle.sctp_model.proofs.refinement.sending.QuietReceiver.{reassembly-quiet, filter-quiet}
use Rattle.sctp_model.proofs.refinement.Histories.{Stands, facts}

-- all that a stream keeps of the record is as it was, but for the count of messages begun
pub record SameStream (w v : LinkRecord) (s : ℕ) : Type 0 where
  pub setup : v.setup ≡ w.setup
  pub held : reassembly_of v s ≡ reassembly_of w s
  pub ordered : ordered_before v s (length v.messages) ≡ ordered_before w s (length w.messages)
  pub next : next_of v s ≡ next_of w s
  pub amount : amount v s ≡ amount w s
  pub counters : counters_on v s ≡ counters_on w s

module _ {w : LinkRecord} (s : Stands w) (e : Event) (ok : refusal_of w e ≡ None) where
  abbrev v : LinkRecord
  v = after w e

  pub setup-same : v.setup ≡ w.setup
  setup-same = (consistent-after w.setup w e ok (facts s).consistent).setup_is

  -- the index expected next
  pub next-kept : KeepsNext e → (t : ℕ) → next_of v t ≡ next_of w t
  next-kept keeps t = grind (arith, nat_tests, next-same)

  -- the receiver's queues, where the receiver knows of nothing new
  pub held-quiet : Quiet w v → (t : ℕ) → reassembly_of v t ≡ reassembly_of w t
  held-quiet q t =
      subst (λ u. refusal_of u e ≡ None → Quiet u (after u e) → reassembly_of (after u e) t ≡ reassembly_of u t) (sym s.stands.is)
      (λ ok' q'. let g = consistent-run w.setup s.history s.stands.run in reassembly-quiet w.setup (record_of w.setup s.history)
      (after (record_of w.setup s.history) e) (log_of w.setup s.history) g (consistent-after w.setup (record_of w.setup s.history) e ok' g) q'
      (received-run w.setup s.history s.setup s.stands.run) (record_is_valid w.setup s.history s.setup s.stands.run) t)
      ok q

  pub filter-kept : Quiet w v → filter_of v ≡ filter_of w
  filter-kept q = grind (arith, nat_tests, consistent-run, filter-quiet, consistent-after, received-run, record_is_valid)

  -- indexes, where no fragment is sent
  pub begun-kept : SendsNone e → (t : ℕ) → begun_on v t ≡ begun_on w t
  begun-kept none t = (none-after w.setup w e (facts s).consistent none).begun t

  -- so a stream is as it was, where nothing is written
  pub stream-quiet : Quiet w v → KeepsNext e → keeps_amounts e ≡ true → is_write e ≡ false → is_read e ≡ false
      → ((t : ℕ) → ordered_before v t (length v.messages) ≡ ordered_before w t (length w.messages)) → (t : ℕ) → SameStream w v t
  stream-quiet q keeps amounts no-write no-read before t = record {
    setup = setup-same;
    held = held-quiet q t;
    ordered = before t;
    next = next-kept keeps t;
    amount = amount-same w.setup w e t s.setup (facts s).consistent amounts;
    counters = counters-same w.setup w e t (facts s).consistent no-write no-read;
  }

  -- what was accepted and what was written
  pub fragments-same : is_write e ≡ false → fragments_accepted v ≡ fragments_accepted w
  fragments-same no-write =
      let t = answered-after w.setup w e (facts s).consistent no-write in
      ap (λ r. in_all v (λ n. length (pieces (length (message_at v n).bytes) r.size (message_at v n).bytes))) setup-same
      ∙ sum-same w v (λ m. true) (λ m. length (pieces (length m.bytes) w.setup.size m.bytes)) t.count (λ n lt. refl)
      (λ n lt. ap (λ b. length (pieces (length b) w.setup.size b)) (t.bytes n lt))

  pub written-kept : is_write e ≡ false → in_all v (written_bytes v) ≡ in_all w (written_bytes w)
  written-kept no-write = written-same w.setup w e (facts s).consistent no-write
