-- What a FORWARD-TSN names, and whether stream sequence numbers can still be told apart after it.
use Rattle.sctp_model.proofs.Names.{◌≡◌, ℕ, ◌+◌, ◌-◌, ◌<◌, ◌≤◌, ◌^◌, Bool, true, false, List, [], ◌∷◌, length, map, Some, None, ap, sym, ◌∙◌, arith}
use Rattle.sctp_model.proofs.Names.{if◌then◌else◌, ◌&&◌, min, max, nat_lt, slice_get, slice_index_or, not, nat_le, ◌==◌, list_all, nat_tests, same_test, fails}
use Rattle.sctp_model.proofs.Names.{ChunkSet, is_complete, LinkRecord, StreamRecord, Forward, stream_at, index_of, slots_where, message_at, is_ordered_on}
use Rattle.sctp_model.proofs.Names.{cumulative, next_of, is_held, is_complete_message, held_on, fits, least, set_of, arrival_fits, can_name, low_named}
use Rattle.sctp_model.proofs.Names.{end_named, lowest_held, highest_held, complete_first, min_with, names_fit, on_stream, all-kept, all-at, same-yes, same-is}
use Rattle.sctp_model.proofs.Names.{and-true}
use Rattle.sctp_model.specs.Messages.{belongs_to}
use Rattle.sctp_model.specs.Steps.{skip_refusal}
use Rattle.sctp_model.proofs.sender.Shape.{shape}
use Rattle.sctp_model.proofs.sender.Network.{NamesFit, fit-at, IsNamable}
use Rattle.sctp_model.proofs.refinement.skipping.SkipStep.{with_skip}
use Rattle.sctp_model.proofs.refinement.amounts.Bounds.{messages-few}
use Rattle.sctp_model.proofs.refinement.skipping.StreamsAt.{found-at, all-same}
use Rattle.sctp_model.proofs.refinement.skipping.SkipSpans.{least-start, fits-both, skip-fits, next-short}
use Rattle.sctp_model.proofs.refinement.arriving.Arrival
use Rattle.sctp_model.proofs.refinement.reading.Line
use Rattle.sctp_model.proofs.refinement.reading.Taken
use Rattle.sctp_model.proofs.refinement.Histories.{Facts}
use Rattle.sctp_model.proofs.sender.SenderRun.{unless-holds}
use Rattle.sctp_model.proofs.sender.Sender.{Sender}
use Rattle.sctp_model.proofs.sender.Slots.{sent-alive}

pub first-at : (w : LinkRecord) (s : ℕ) → 0 < length (held_on w s) → complete_first w (held_on w s)
    ≡ (if is_complete_message w (slice_index_or (held_on w s) 0 0) then Some (index_of w (slice_index_or (held_on w s) 0 0)) else None)
first-at w s some = grind (arith, nat_tests)

pub complete-set : {w : LinkRecord} (f : Facts w) (s n : ℕ) (set : ChunkSet) → is_held w s n ≡ true → set ≡ set_of w n
    → is_complete set.chunks ≡ is_complete_message w n
complete-set {w} f s n set h e =
    let on = (Taken.held w s n h).on in
    cc (e, Arrival.set_is_complete w n f.valid.valid (Line.on-made w s n on), Taken.complete-ordered w s n on)

-- the first one held is at least the least
pub first-over : (w : LinkRecord) (s a : ℕ) → min (lowest_held w s) a ≤ min_with (complete_first w (held_on w s)) a
first-over w s a = by (held_on w s)
  where
    least-le : (c : ℕ) (ns : List ℕ) → least c (map (index_of w) ns) ≤ c
    least-le c [] = omega arith
    least-le c (n ∷ ns) = omega (arith, least-le (min c (index_of w n)) ns)

    by : (ns : List ℕ) → min (least (next_of w s) (map (index_of w) ns)) a ≤ min_with (complete_first w ns) a
    by [] = omega arith
    by (n ∷ ns) = step (is_complete_message w n) (least-le (min (next_of w s) (index_of w n)) ns)
      where
        step : (b : Bool) → least (min (next_of w s) (index_of w n)) (map (index_of w) ns) ≤ min (next_of w s) (index_of w n)
            → min (least (min (next_of w s) (index_of w n)) (map (index_of w) ns)) a ≤ min_with (if b then Some (index_of w n) else None) a
        step true le = omega (arith, le)
        step false le = omega (arith, le)

pub lowest-short : {w : LinkRecord} → Facts w → (s : ℕ) → lowest_held w s < 2 ^ 31
lowest-short {w} f s = omega (arith, next-short w s f.valid.valid, least-start w s, messages-few w.setup w f.consistent)

-- the code's test against the one of the record
pub record Judged (w : LinkRecord) (s : ℕ) (names : List ℕ) (lo hi low end : ℕ) : Type 0 where
  pub no' : min lo low + 32768 ≤ max hi (end - 1) → false ≡ names_fit w s names
  pub yes' : max hi (end - 1) < min lo low + 32768 → end < min lo low + 32768 → nat_lt end (min lo low + 32768) ≡ names_fit w s names
  pub edge : (m : ℕ) → m ≡ min_with (complete_first w (held_on w s)) low → max hi (end - 1) < min lo low + 32768 → min lo low + 32768 ≤ end
      → nat_lt (end - 32768) m ≡ names_fit w s names

pub judged : (w : LinkRecord) (s : ℕ) (names : List ℕ) (lo hi low end : ℕ) → lo ≡ lowest_held w s → hi ≡ highest_held w s
    → low ≡ low_named w s names → end ≡ end_named w s names → Judged w s names lo hi low end
judged w s names lo hi low end a b c d = grind (arith, nat_tests, first-over)

-- a skip that lies in the network
pub record Skips (w : LinkRecord) (upto : ℕ) (names : List ℕ) : Type 0 where
  pub made : upto < length w.slots
  pub fit : NamesFit (shape w) upto names

pub skips-in : {w : LinkRecord} (f : Facts w) (k upto : ℕ) (names : List ℕ) → slice_get w.network k ≡ Some (Forward upto names) → Skips w upto names
skips-in {w} f k upto names e = let t = fit-at (shape w) w.network k (Forward upto names) f.fit e in record { made = t.0; fit = t.1 }

-- on an open stream
pub stream-fits : {w : LinkRecord} (f : Facts w) (s upto : ℕ) (names : List ℕ) (r : StreamRecord) → stream_at w s ≡ Some r
    → (fits w (map (index_of w) (on_stream w s names)) s
    && fits (with_skip w upto names) (map (index_of w) (on_stream w s names)) s) ≡ names_fit w s names
stream-fits {w} f s upto names r e = cc (fits-both w s upto names r f.valid.valid e (messages-few w.setup w f.consistent))

-- all of them
pub all-fit : {w : LinkRecord} (f : Facts w) (upto : ℕ) (names : List ℕ) → cumulative w ≤ upto
    → list_all (λ r. names_fit w r.stream names) w.streams ≡ arrival_fits w (Some (Forward upto names))
all-fit {w} f upto names counts =
    sym (skip-fits w upto names counts ∙ all-same (λ r. fits w (map (index_of w) (on_stream w r.stream names)) r.stream
    && fits (with_skip w upto names) (map (index_of w) (on_stream w r.stream names)) r.stream)
    (λ r. names_fit w r.stream names) w.streams (λ i d lt. let r = found-at i w.streams d lt in
    stream-fits f (slice_index_or w.streams i d).stream upto names r.0 r.1))

pub same-names : (w : LinkRecord) (k upto : ℕ) (names others : List ℕ) → slice_get w.network k ≡ Some (Forward upto names)
    → slice_get w.network k ≡ Some (Forward upto others) → names ≡ others
same-names w k upto names others e f = let same : Some (Forward upto names) ≡ Some (Forward upto others) = sym e ∙ f in cc

-- no slot past a place is of the message
pub past-none : (w : LinkRecord) (n upto : ℕ) → ((p : ℕ) → upto < p → p < length w.slots → belongs_to w n p ≡ false)
    → false ≡ not (list_all (λ p. nat_le p upto) (slots_where w (belongs_to w n)))
past-none w n upto h = grind (arith, nat_tests, all-kept)

pub past-some : (w : LinkRecord) (n upto p : ℕ) → upto < p → p < length w.slots → belongs_to w n p ≡ true
    → true ≡ not (list_all (λ p. nat_le p upto) (slots_where w (belongs_to w n)))
past-some w n upto p lt inside e =
    sym (ap not (fails (list_all (λ p. nat_le p upto) (slots_where w (belongs_to w n))) (λ a. let t = all-at (λ p. nat_le p upto) (belongs_to w n) p 0
    (length w.slots) (omega arith) (omega (arith, inside)) e a in let le : p ≤ upto = grind (arith, nat_tests) in absurd (omega (arith, le, lt)))))

-- what an accepted skip meets
pub record Names (w : LinkRecord) (upto : ℕ) (names : List ℕ) : Type 0 where
  pub made : upto < length w.slots
  pub can : list_all (can_name w upto) names ≡ true
  pub few : length names ≤ 16381

pub accepted : (w : LinkRecord) (upto : ℕ) (names : List ℕ) → skip_refusal w upto names ≡ None → Names w upto names
accepted w upto names ok = grind (arith, nat_tests, unless-holds)

-- a message that can be named stands on its stream
pub named-on : (w : LinkRecord) (upto s n : ℕ) → Sender (shape w) → IsNamable (shape w) upto n → (s == (message_at w n).stream) ≡ is_ordered_on w s n
named-on w upto s n sender i = cc (turn s (message_at w n).stream, and-true ((message_at w n).stream == s), live)
  where
    turn : (a b : ℕ) → (a == b) ≡ (b == a)
    turn a b = same_test (a == b) (b == a) (λ e. ap (λ k. k == a) (sym (same-is a b e)) ∙ same-yes a) (λ e. ap (λ k. k == b) (sym (same-is b a e)) ∙ same-yes b)

    live : ((message_at w n).ordered && not (message_at w n).expired) ≡ true
    live = ap (λ b. b && not (message_at w n).expired) i.ordered ∙ ap not (sent-alive (shape w) n sender i.some)
