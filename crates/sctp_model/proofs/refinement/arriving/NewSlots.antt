-- A new slot of an ordered message: its index is at or past the one expected next.
use Rattle.sctp_model.proofs.Names.{◌≡◌, ℕ, ◌+◌, ◌≤◌, Bool, true, false, refl, ap, sym, ◌∙◌, arith, ◌||◌, nat_lt, nat_tests, negated, fails, length-kept-le}
use Rattle.sctp_model.proofs.Names.{LinkRecord, message_at, message_of, stream_of, is_ordered_on, index_of, fragment_count, has_fragment, arrived_at}
use Rattle.sctp_model.proofs.Names.{arrived_of, is_new, next_of, IsLaid, Valid, has_come}
use Rattle.sctp_model.proofs.receiver.Arrivals.{new-unseen}
use Rattle.sctp_model.proofs.refinement.arriving.Arrival
use Rattle.sctp_model.proofs.refinement.arriving.Arrival.{with_arrived}
use Rattle.sctp_model.proofs.refinement.arriving.Carried.{Carried}
use Rattle.sctp_model.proofs.refinement.reading.Line.{next_reads}

neither : (a b : Bool) → (a || b) ≡ false → (a ≡ false) × (b ≡ false)
neither true b e = cc
neither false b e = (refl, e)

module _ (w : LinkRecord) (s p : ℕ) (valid : Valid w) (c : Carried w p) (new : is_new w p ≡ true) (on : is_ordered_on w s (message_of w p) ≡ true) where
  abbrev n : ℕ
  n = message_of w p

  unseen : (nat_lt p w.skipped ≡ false) × (arrived_at w p ≡ false)
  unseen = neither (nat_lt p w.skipped) (arrived_at w p) (negated (nat_lt p w.skipped || arrived_at w p) (sym (new-unseen w p) ∙ new))

  here : has_fragment w n p ≡ true
  here = Arrival.has-fragment w p c.fragment

  -- not all of its message had arrived
  one-short : arrived_of w n + 1 ≤ fragment_count w n
  one-short =
      let laid = valid.laid n in
      let laid' : IsLaid (with_arrived w p) n laid.0 = record {
        at = λ k e. laid.1.at k (sym (Arrival.has_fragment-arrived w p n k) ∙ e) ∙ ap (λ i. laid.0 + i) (sym (Arrival.fragment-arrived w p k));
        within = λ k e. rw (Arrival.fragment-arrived w p k) (laid.1.within k (sym (Arrival.has_fragment-arrived w p n k) ∙ e));
      } in
      let count : arrived_of (with_arrived w p) n ≤ fragment_count w n = rw (Arrival.window (with_arrived w p) n laid.0 laid')
      (length-kept-le (has_come (with_arrived w p) n) laid.0 (fragment_count w n)) in
      omega (arith, Arrival.arrived_of-here w p c.made unseen.1 c.fragment, count)

  unread : (message_at w n).read ≡ false
  unread = fails (message_at w n).read (λ e. let all = valid.read_complete s n on e in
      let h : arrived_of w n ≡ fragment_count w n = grind (arith, nat_tests) in absurd (omega (arith, one-short)))

  past : (stream_of w s).named ≤ index_of w n
  past = grind (arith, nat_tests, here)

  pub new-past : next_of w s ≤ index_of w n
  new-past = grind (arith, nat_tests, unread, next_reads, past)
