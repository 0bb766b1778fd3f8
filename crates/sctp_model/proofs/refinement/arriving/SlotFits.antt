-- The span test of a datagram of slots, slot by slot.
use Rattle.sctp_model.proofs.Names.{◌≡◌, ℕ, ◌<◌, ◌≤◌, Bool, true, false, List, [], ◌∷◌, length, map, Some, refl, ap, sym, ◌∙◌, arith, ◌==◌, ◌&&◌, is_some}
use Rattle.sctp_model.proofs.Names.{if◌then◌else◌, fold, slice_get, slice_index_or, list_any, list_all, filter, subst, both, and, same_test, LinkRecord}
use Rattle.sctp_model.proofs.Names.{StreamRecord, Data, message_at, message_of, index_of, is_new, next_of, fits, spans_fit, receive_slot, arrival_fits, IsSpan}
use Rattle.sctp_model.proofs.Names.{Valid}
use Rattle.sctp_model.proofs.refinement.arriving.Carried.{Carried}
use Rattle.sctp_model.proofs.refinement.arriving.SpanEnds.{fits-span}
use Rattle.sctp_model.specs.refinement.Arriving.{LiesSomewhere, slot_fits}
use Rattle.sctp_model.proofs.receiver.ValidRun.{span-open}
use Rattle.sctp_model.proofs.refinement.arriving.SlotSpans.{added_on, added-any, any-carried, all-each, each-all, AddsAt, added-from, fits-each, only-one}
use Rattle.sctp_model.proofs.refinement.arriving.SlotSpans.{own-stream, fits-all, new-among}
use Rattle.sctp_model.proofs.refinement.arriving.SlotsCome.{all-carried}
use Rattle.sctp_model.proofs.refinement.reading.Line
use Rattle.sctp_model.proofs.refinement.arriving.NewSlots.{new-past}
use Rattle.sctp_model.proofs.refinement.Histories.{Facts}

module _ {w : LinkRecord} (ps : List ℕ) (valid : Valid w) (all : spans_fit w [] ≡ true)
    (carried : (i : ℕ) → i < length ps → Carried w (slice_index_or ps i 0)) where
  abbrev ms : List ℕ
  ms = map (message_of w) (filter (is_new w) ps)

  slots-fit : spans_fit w ms ≡ true → (p : ℕ) → list_any (λ q. q == p) ps ≡ true → slot_fits w p ≡ true
  slots-fit e p there = step (is_new w p && (message_at w n).ordered) refl
    where
      n : ℕ
      n = message_of w p

      c : Carried w p
      c = any-carried (Carried w) ps carried p there

      s : ℕ
      s = (message_at w n).stream

      sp : IsSpan w s (added_on w s ps)
      sp = span-open w s ms e (ap is_some c.known.1)

      step : (b : Bool) → (is_new w p && (message_at w n).ordered) ≡ b → (if b then fits w (index_of w n ∷ []) s else true) ≡ true
      step false h = refl
      step true h =
          let f = both (is_new w p) (message_at w n).ordered h in
          let there' = added-any w s n ms (own-stream w p c f.1) (new-among w ps p there f.0) in
          fits-span w s (index_of w n ∷ []) (record {
            low = sp.low;
            high = sp.high;
            short = sp.short;
            next = sp.next;
            held = sp.held;
            others = λ y g. sp.others y (ap (λ k. list_any (λ z. z == k) (added_on w s ps)) (only-one (index_of w n) y g) ∙ there');
          })

  fit-slots : ((p : ℕ) → list_any (λ q. q == p) ps ≡ true → slot_fits w p ≡ true) → spans_fit w ms ≡ true
  fit-slots h = each w.streams all
    where
      one : (t y : ℕ) → AddsAt w t y ps → (next_of w t ≤ y) × (fits w (y ∷ []) t ≡ true)
      one t y a =
          let n = message_of w a.place in
          let c = any-carried (Carried w) ps carried a.place a.there in
          let yes : (is_new w a.place && (message_at w n).ordered) ≡ true = and (is_new w a.place)
          (message_at w n).ordered a.new (Line.on-ordered w t n a.on) in
          let f = sym (ap (λ b. if b then fits w (index_of w n ∷ []) (message_at w n).stream else true) yes) ∙ h a.place a.there in (
            omega (arith, new-past w t a.place valid c a.new a.on, a.index),
            sym (ap (λ k. fits w (k ∷ []) t) a.index) ∙ sym (ap (fits w (index_of w n ∷ [])) (Line.on-stream w t n a.on)) ∙ f,
          )

      each : (rs : List StreamRecord) → list_all (λ r. fits w [] r.stream) rs ≡ true → list_all (λ r. fits w (added_on w r.stream ps) r.stream) rs ≡ true
      each [] e = refl
      each (r ∷ rs) e = let c = both (fits w [] r.stream) (list_all (λ r. fits w [] r.stream) rs) e in and (fits w (added_on w r.stream ps) r.stream)
          (list_all (λ r. fits w (added_on w r.stream ps) r.stream) rs)
          (fits-each w r.stream (added_on w r.stream ps) c.0 (λ y g. one r.stream y (added-from w r.stream y ps g))) (each rs c.1)

  later : spans_fit w ms ≡ true → spans_fit (fold receive_slot w ps) ms ≡ true
  later e = fits-all w w ps ps ms (record { setup = refl; network = refl; shape_is = refl }) (λ p h. h) (λ p h new. new-among w ps p h new) e

  -- the test of all of them is that of each
  pub arrival-fits-slots : arrival_fits w (Some (Data ps)) ≡ list_all (slot_fits w) ps
  arrival-fits-slots =
      joined (spans_fit w ms) (spans_fit (fold receive_slot w ps) ms) later
      ∙ same_test (spans_fit w ms) (list_all (slot_fits w) ps) (λ e. all-each (slot_fits w) ps (slots-fit e))
      (λ e. fit-slots (each-all (slot_fits w) ps e))
    where
      joined : (a b : Bool) → (a ≡ true → b ≡ true) → (a && b) ≡ a
      joined true b h = h refl
      joined false b h = refl

-- a slot that lies in some datagram
pub lying : {w : LinkRecord} → Facts w → (p : ℕ) → LiesSomewhere w p → Carried w p
lying {w} f p s = subst (Carried w) s.5 (all-carried f s.0 s.1 s.3 s.2 s.4)

pub data-fits : {w : LinkRecord} (f : Facts w) (k : ℕ) (ps : List ℕ) → slice_get w.network k ≡ Some (Data ps)
    → arrival_fits w (Some (Data ps)) ≡ list_all (slot_fits w) ps
data-fits f k ps e = arrival-fits-slots ps f.valid.valid f.spans (all-carried f k ps e)
