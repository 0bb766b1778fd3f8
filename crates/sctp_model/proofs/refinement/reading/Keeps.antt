-- Stream records that change elsewhere, and reads as the record has them.
use Rattle.sctp_model.proofs.Names.{◌≡◌, ℕ, Bool, true, false, List, [], drop, Some, refl, ap, sym, ◌∙◌, arith, if◌then◌else◌, ◌==◌, nat_tests, map-kept-same}
use Rattle.sctp_model.proofs.Names.{LinkRecord, StreamRecord, message_of, stream_at, stream_of, is_ordered_on, is_unordered_on, stream_changed, with_complete}
use Rattle.sctp_model.proofs.Names.{becomes_complete, receive_slot, read_of, fails, not_both}
use Rattle.sctp_model.specs.Changes
use Rattle.sctp_model.specs.refinement.Holds.{reassembly_of}
use Rattle.sctp_model.proofs.refinement.arriving.Arrival.{with_arrived}
use Rattle.sctp_model.proofs.refinement.arriving.Stays
use Rattle.sctp_model.proofs.refinement.arriving.Stays.{by_place}
use Rattle.sctp_model.proofs.refinement.skipping.SkipStep.{then_by, find-map, find-passes, parts}
use Rattle.sctp_model.specs.Receiver
use Rattle.sctp_model.proofs.refinement.reading.Line
use Rattle.sctp_model.proofs.refinement.reading.Reading.{with_read}
use Rattle.sctp_model.proofs.refinement.arriving.Unordered.{ArrivesUnassembled, unordered-of}
use Rattle.sctp_model.proofs.refinement.arriving.UnorderedStep.{with_streams, next-streams, sets-streams}

-- ## A stream's queue where the stream's record is as it was

pub restreamed : (v : LinkRecord) (rs : List StreamRecord) (t : ℕ) → ((x : ℕ) → (stream_of (with_streams v rs) x).named ≡ (stream_of v x).named)
    → (stream_of (with_streams v rs) t).complete ≡ (stream_of v t).complete → reassembly_of (with_streams v rs) t ≡ reassembly_of v t
restreamed v rs t named complete = grind (arith, nat_tests, parts, next-streams, sets-streams, map-kept-same, unordered-of)

-- what a change of one stream's record leaves of the others'
module _ (v : LinkRecord) (s : ℕ) (f : StreamRecord → StreamRecord) (stream : (r : StreamRecord) → (f r).stream ≡ r.stream)
    (named : (r : StreamRecord) → (f r).named ≡ r.named) where
  abbrev at_s : StreamRecord → StreamRecord
  at_s r = if r.stream == s then f r else r

  at-stream : (r : StreamRecord) → (at_s r).stream ≡ r.stream
  at-stream r = grind (arith, nat_tests)

  at-named : (r : StreamRecord) → (at_s r).named ≡ r.named
  at-named r = grind (arith, nat_tests)

  pub found : (t : ℕ) → stream_at (stream_changed v s f) t ≡ then_by (λ r. if r.stream == s then f r else r) (stream_at v t)
  found t = find-map at_s at-stream t v.streams

  pub named-changed : (t : ℕ) → (stream_of (stream_changed v s f) t).named ≡ (stream_of v t).named
  named-changed t = grind (arith, nat_tests, found, at-named)

  pub complete-other : (t : ℕ) → (t ≡ s → ⊥) → (stream_of (stream_changed v s f) t).complete ≡ (stream_of v t).complete
  complete-other t ne = grind (arith, nat_tests, found, find-passes)

  pub complete-here : (r : StreamRecord) → stream_at v s ≡ Some r → (stream_of (stream_changed v s f) s).complete ≡ (f (stream_of v s)).complete
  complete-here r e = grind (arith, nat_tests, find-passes, found)

-- ## An unordered chunk arrives: the other streams

pub unordered-elsewhere : (w : LinkRecord) (s p t : ℕ) → ArrivesUnassembled w s p → (t ≡ s → ⊥) → reassembly_of (receive_slot w p) t ≡ reassembly_of w t
unordered-elsewhere w s p t a ne =
    let n = message_of w p in
    let v = with_arrived w p in
    let u = unordered-of w s n a.on in
    let new : Receiver.is_new w p ≡ true = rw a.new (grind (arith, nat_tests, a.fresh)) in
    let off : is_unordered_on w t n ≡ false = fails (is_unordered_on w t n) (λ e. ne (sym (unordered-of w t n e).0 ∙ u.0)) in
    let off' : is_ordered_on w t n ≡ false = fails (is_ordered_on w t n) (λ e. not_both (sym u.1 ∙ Line.on-ordered w t n e)) in
    let plain : reassembly_of v t ≡ reassembly_of w t = parts refl (Stays.ordered_sets-elsewhere w p t off') (Stays.complete_sets-arrived w p t)
    (Stays.unassembled-elsewhere w p t off) in
    let noted : reassembly_of (stream_changed v s (with_complete n)) t ≡ reassembly_of v t = restreamed v (stream_changed v s (with_complete n)).streams t
    (named-changed v s (with_complete n) (λ r. refl) (λ r. refl)) (complete-other v s (with_complete n) (λ r. refl) (λ r. refl) t ne) in
    let moved : receive_slot w p ≡ (if becomes_complete v n then stream_changed v s (with_complete n) else v) = rw (new, u.0) refl in
    cc (moved, step v n (becomes_complete v n) noted, plain)
  where
    step : (v : LinkRecord) (n : ℕ) (b : Bool) → reassembly_of (stream_changed v s (with_complete n)) t ≡ reassembly_of v t
        → reassembly_of (if b then stream_changed v s (with_complete n) else v) t ≡ reassembly_of v t
    step v n true e = e
    step v n false e = refl

-- ## A read as the record has it

-- of an ordered message: no unordered one was complete
pub ordered-read_of : (w : LinkRecord) (s n t : ℕ) (r : StreamRecord) → stream_at w s ≡ Some r → (stream_of w s).complete ≡ []
    → reassembly_of (read_of w s (Some n)) t ≡ reassembly_of (with_read w n) t
ordered-read_of w s n t r open' empty =
    let v = with_read w n in
    let f = Changes.without_first in
    restreamed v (stream_changed v s f).streams t (named-changed v s f (λ r. refl) (λ r. refl))
    (by_place {C = (stream_of (stream_changed v s f) t).complete ≡ (stream_of v t).complete} t s
    (λ ne. complete-other v s f (λ r. refl) (λ r. refl) t ne)
    (λ e. ap (λ x. (stream_of (stream_changed v s f) x).complete) e ∙ complete-here v s f (λ r. refl) (λ r. refl) r open' ∙ ap (drop 1) empty ∙ sym empty
    ∙ ap (λ x. (stream_of w x).complete) (sym e)))
