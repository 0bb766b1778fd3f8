-- The streams that a FORWARD-TSN visits, as calls change them.
use Rattle.sctp_receiver.proofs.Names.{◌≡◌, ℕ, ◌+◌, ◌<◌, Bool, true, false, List, [], ◌∷◌, ◌++◌, length, refl, ap, sym, ◌∙◌, arith, ◌==◌, ◌&&◌, ◌||◌, slice_get}
use Rattle.sctp_receiver.proofs.Names.{slice_index_or, slice_set, slice_get_past, by_same, some-same, not_both, InboundStream, VisitOrder, is_spot_before}
use Rattle.sctp_receiver.proofs.Names.{is_visited, holds_any, holds_incomplete, IsListing}
use Rattle.sctp_receiver.proofs.Names.{◌-◌, Some, if◌then◌else◌, same-yes, slice_get_within}
use Rattle.std.proofs.Common.{length-append}
use Rattle.std.specs.List.{swap_remove}
use Rattle.sctp_stream.proofs.Removals.{out-length, stays-there, last-here}
use Rattle.sctp_receiver.proofs.Settled.{none-incomplete}
use Rattle.sctp_receiver.specs.declared.receiver.spans.TsnSpan.{TsnSpan}
use Rattle.sctp_receiver.specs.Spans.{holds_outside}
use Rattle.sctp_receiver.proofs.VisitOrders.{end-here, end-there, read-at, set-here, set-there}
use Rattle.sctp_receiver.proofs.Visiting.{others-renewed, visited-renewed}

abbrev pub any : InboundStream → Bool
any l = holds_any l.queue.held

abbrev pub incomplete : InboundStream → Bool
incomplete l = holds_incomplete l.queue.held

abbrev pub outside : TsnSpan → InboundStream → Bool
outside s l = holds_outside s l.queue.held

pub nothing-any : (l : InboundStream) → any l ≡ false → incomplete l ≡ false
nothing-any l h = none-incomplete l.queue.held h

-- the stream at a place changed
module _ (v w : VisitOrder) (ls : List InboundStream) (k : ℕ) (x y : InboundStream) (lt : k < length ls) (at : x ≡ slice_index_or ls k x)
    (listing : IsListing v ls) (places : length w.spots ≡ length v.spots) (length-same : length (slice_set ls k y) ≡ length ls)
    (others : (p : ℕ) → (p == k) ≡ false → is_visited p w ≡ is_visited p v) where
  renewed : (more : Bool) → is_visited k w ≡ (any y && (more || is_visited k v)) → (more ≡ false → incomplete x ≡ false → incomplete y ≡ false)
      → ((p : ℕ) → (p == k) ≡ false → slice_get w.spans p ≡ slice_get v.spans p) → ((s : TsnSpan) → slice_get w.spans k ≡ Some s → outside s y ≡ false)
      → IsListing w (slice_set ls k y)
  renewed more here keeps same inside = record {
    listed = record {
      places = omega (arith, places, length-same, listing.listed.places);
      others = others-renewed any incomplete v w ls k x y more lt at others here listing.listed.others (nothing-any y) keeps;
    };
    visited = visited-renewed any incomplete v w ls k x y more lt at others here listing.visited;
    spans = λ p s z ts e. by_same p k
        (λ q. ap (outside s) (some-same (sym e ∙ ap (slice_get (slice_set ls k y)) q ∙ set-here ls k y lt)) ∙ inside s (ap (slice_get w.spans) (sym q) ∙ ts))
        (λ ne t. listing.spans p s z (sym (same p t) ∙ ts) (sym (set-there ls k p y ne) ∙ e));
  }

  -- it may hold more, within a stretch of TSNs
  pub renewed-more : is_visited k w ≡ any y → ((p : ℕ) → (p == k) ≡ false → slice_get w.spans p ≡ slice_get v.spans p)
      → ((s : TsnSpan) → slice_get w.spans k ≡ Some s → outside s y ≡ false) → IsListing w (slice_set ls k y)
  renewed-more here same inside = renewed true (here ∙ always (any y)) (λ e. absurd (not_both (sym e))) same inside
    where
      always : (b : Bool) → b ≡ (b && (true || is_visited k v))
      always true = refl
      always false = refl

  -- it holds nothing incomplete where it held none, and nothing outside of a stretch where it did not
  pub renewed-less : is_visited k w ≡ (any y && (false || is_visited k v)) → (incomplete x ≡ false → incomplete y ≡ false) → w.spans ≡ v.spans
      → ((s : TsnSpan) → outside s x ≡ false → outside s y ≡ false) → IsListing w (slice_set ls k y)
  renewed-less here keeps same inside = renewed false here (λ e. keeps) (λ p t. ap (λ ss. slice_get ss p) same)
      (λ s ts. inside s (listing.spans k s x (sym (ap (λ ss. slice_get ss k) same) ∙ ts) (read-at ls k x lt at)))

-- one more is opened
pub one-opened : (v w : VisitOrder) (ls : List InboundStream) (l : InboundStream) → IsListing v ls → length w.spots ≡ length v.spots + 1
    → ((p : ℕ) → is_visited p w ≡ is_visited p v) → ((p : ℕ) → p < length v.spots → slice_get w.spans p ≡ slice_get v.spans p)
    → incomplete l ≡ false → ((s : TsnSpan) → outside s l ≡ false) → IsListing w (ls ++ l ∷ [])
one-opened v w ls l listing places same spans none inside = record {
  listed = record {
    places = omega (arith, places, listing.listed.places, length-append ls (l ∷ []));
    others = λ p x e h. by_same p (length ls)
        (λ z. ap incomplete (some-same (sym e ∙ ap (slice_get (ls ++ l ∷ [])) z ∙ end-here ls l)) ∙ none)
        (λ ne t. listing.listed.others p x (sym (end-there ls l p ne) ∙ e) (sym (same p) ∙ h));
  };
  visited = λ p x e h. by_same p (length ls)
      (λ z. absurd (not_both (sym (past p z) ∙ sym (same p) ∙ h)))
      (λ ne t. listing.visited p x (sym (end-there ls l p ne) ∙ e) (sym (same p) ∙ h));
  spans = λ p s x ts e. by_same p (length ls)
      (λ z. ap (outside s) (some-same (sym e ∙ ap (slice_get (ls ++ l ∷ [])) z ∙ end-here ls l)) ∙ inside s)
      (λ ne t. let there = sym (end-there ls l p ne) ∙ e in
      listing.spans p s x (sym (spans p (omega (arith, slice_get_within ls p x there, listing.listed.places))) ∙ ts) there);
}
  where
    past : (p : ℕ) → p ≡ length ls → is_visited p v ≡ false
    past p z = ap (is_spot_before v.count) (slice_get_past v.spots p (omega (arith, z, listing.listed.places)))

-- one is closed, and the last one takes its place
pub one-closed : (v w : VisitOrder) (ls : List InboundStream) (k : ℕ) (d : InboundStream) → k < length ls → IsListing v ls
    → length w.spots + 1 ≡ length v.spots → ((p : ℕ) → p < length w.spots → is_visited p w ≡ is_visited (if p == k then length w.spots else p) v)
    → ((p : ℕ) → p < length w.spots → slice_get w.spans p ≡ slice_get v.spans (if p == k then length w.spots else p)) → IsListing w (swap_remove ls k d)
one-closed v w ls k d lt listing places visited spans = record {
  listed = record {
    places = omega (arith, count, places, listing.listed.places);
    others = λ p x e h. listing.listed.others (was p) x (stood p x e) (sym (visited p (within p x e)) ∙ h);
  };
  visited = λ p x e h. listing.visited (was p) x (stood p x e) (sym (visited p (within p x e)) ∙ h);
  spans = λ p s x ts e. listing.spans (was p) s x (sym (spans p (within p x e)) ∙ ts) (stood p x e);
}
  where
    count : length (swap_remove ls k d) + 1 ≡ length ls
    count = out-length ls k d lt

    was : ℕ → ℕ
    was p = if p == k then length w.spots else p

    within : (p : ℕ) (x : InboundStream) → slice_get (swap_remove ls k d) p ≡ Some x → p < length w.spots
    within p x e = omega (arith, slice_get_within (swap_remove ls k d) p x e, count, places, listing.listed.places)

    stood : (p : ℕ) (x : InboundStream) → slice_get (swap_remove ls k d) p ≡ Some x → slice_get ls (was p) ≡ Some x
    stood p x e = by_same p k
        (λ z. let end : length w.spots ≡ length ls - 1 = omega (arith, places, listing.listed.places) in
        let same : was p ≡ length w.spots = ap (λ n. if n == k then length w.spots else n) z ∙ ap (λ b. if b then length w.spots else k) (same-yes k) in
        ap (slice_get ls) (same ∙ end) ∙ sym (last-here ls k d lt (omega (arith, within p x e, z, places, listing.listed.places)))
        ∙ ap (slice_get (swap_remove ls k d)) (sym z) ∙ e)
        (λ ne t. ap (λ b. slice_get ls (if b then length w.spots else p)) t
        ∙ sym (stays-there ls k d lt p ne (omega (arith, within p x e, places, listing.listed.places))) ∙ e)
