-- Rows that are filled, one after another, and how many there can be.
use Rattle.std.proofs.Common.{◌≡◌, ℕ, zero, suc, ◌+◌, ◌<◌, ◌≤◌, Bool, true, false, if◌then◌else◌, List, [], ◌∷◌, ◌++◌, length, get_or, set, take, drop, Option}
use Rattle.std.proofs.Common.{Some, None, refl, ap, sym, ◌∙◌, arith}
use Rattle.std.specs.Prelude.{map, min, not}
use Rattle.std.specs.List.{filter}
use Rattle.std.proofs.lemmas.List.{length-map, take-map}
use Rattle.std.proofs.lemmas.List.Filters.{length-filter_both}
use Rattle.sctp_data.specs.SelectiveAck.{Sack}
use Rattle.sctp_data.specs.declared.chunk.chunk_payload_data.ChunkPayloadData.{ChunkPayloadData}
use Rattle.sctp_util.specs.Lists.{change_where}
use Rattle.sctp_sender.specs.declared.sender.flight.Released.{Released}
use Rattle.sctp_sender.specs.Flight.{released_by, released_of, is_outdated, is_whole, reports_anew}
use Rattle.sctp_sender.specs.Keeping.{answered_back}
use Rattle.sctp_sender.specs.Outgoing.{has_number, less_by}
use Rattle.sctp_sender.specs.Sender.{Transmission, taken_back_by, back_by}
use Rattle.sctp_sender.specs.Thresholds.{with_lows}
use Rattle.sctp_stream.specs.declared.outbound_stream.OutboundStream.{OutboundStream}
use Rattle.sctp_c.specs.Acks.{released_to}
use Rattle.sctp_c.specs.Out.{filled}
use Rattle.sctp_c.proofs.Rows.{filled-done}

-- the first so many rows are filled
abbrev pub filled_to : {A B : Type 0} → (A → B) → ℕ → List A → List B → List B
filled_to f i xs old = map f (take i xs) ++ drop i old

pub fill-step : {A B : Type 0} (f : A → B) (xs : List A) (old : List B) (i : ℕ) (d : A) → i < length xs → i < length old
    → set (filled_to f i xs old) i (f (get_or xs i d)) ≡ filled_to f (suc i) xs old
fill-step f [] old i d lt room = absurd (omega arith)
fill-step f (x ∷ xs) [] i d lt room = absurd (omega arith)
fill-step f (x ∷ xs) (o ∷ old) zero d lt room = refl
fill-step f (x ∷ xs) (o ∷ old) (suc i) d lt room = ap (λ rest. f x ∷ rest) (fill-step f xs old i d (omega arith) (omega arith))

-- one more row is filled
pub fill-next : {A B : Type 0} (f : A → B) (xs : List A) (old rows : List B) (i : ℕ) (y : B) (d : A) → i < min (length old) (length xs)
    → rows ≡ filled_to f i xs old → y ≡ f (get_or xs i d) → set rows i y ≡ filled_to f (i + 1) xs old
fill-next f xs old rows i y d lt e is =
    let next : suc i ≡ i + 1 = omega arith in
    ap (λ r. set r i y) e ∙ ap (λ z. set (filled_to f i xs old) i z) is ∙ fill-step f xs old i d (omega arith) (omega arith)
    ∙ ap (λ n. filled_to f n xs old) next

-- as many as there is room for
pub fill-done : {A B : Type 0} (f : A → B) (xs : List A) (old rows : List B) (i : ℕ) → i ≡ min (length old) (length xs) → rows ≡ filled_to f i xs old
    → rows ≡ filled (map f xs) old
fill-done f xs old rows i end e =
    e ∙ ap (λ z. z ++ drop i old) (sym (take-map f i xs)) ∙ filled-done i (map f xs) old (omega (arith, end, length-map xs f))

-- ## How many rows there are

pub lows-length : (rs : List Released) (ls : List OutboundStream) → length (with_lows rs ls) ≡ length rs
lows-length [] ls = refl
lows-length (r ∷ rs) ls = ap suc (lows-length rs (change_where (has_number r.stream) (less_by r.bytes) ls))

pub filter-few : {A : Type 0} (p : A → Bool) (xs : List A) → length (filter p xs) ≤ length xs
filter-few p xs = omega (arith, length-filter_both p (λ x. not (p x)) (λ x. refl) xs)

pub released-few : (s : Sack) (t : Transmission) → length (released_to s t) ≤ length t.flight.queue.inflight.chunks
released-few s t = step (is_outdated s t.flight) refl
  where
    chunks : List ChunkPayloadData
    chunks = t.flight.queue.inflight.chunks

    answered : Bool → List Released
    answered b = if b then [] else map (released_of (is_whole s t.flight)) (filter (reports_anew s) chunks)

    step : (b : Bool) → is_outdated s t.flight ≡ b → length (released_to s t) ≤ length t.flight.queue.inflight.chunks
    step true e =
        let none : length (released_by s t.flight) ≡ 0 = ap (λ b. length (answered b)) e in
        omega (arith, none, lows-length (released_by s t.flight) t.streams)
    step false e =
        let all : length (released_by s t.flight) ≡ length (answered false) = ap (λ b. length (answered b)) e in
        omega (
          arith,
          all,
          lows-length (released_by s t.flight) t.streams,
          length-map (filter (reports_anew s) chunks) (released_of (is_whole s t.flight)),
          filter-few (reports_anew s) chunks,
        )

pub answered-few : (bs : List (Option (List ℕ))) (cs : List ChunkPayloadData) → length (answered_back bs cs) ≤ length cs
answered-few [] cs = omega arith
answered-few (b ∷ bs) [] = omega arith
answered-few (None ∷ bs) (c ∷ cs) = omega (arith, answered-few bs cs)
answered-few (Some bytes ∷ bs) (c ∷ cs) = omega (arith, answered-few bs cs)

pub taken-few : (s : Sack) (t : Transmission) → length (taken_back_by s t) ≤ length t.flight.queue.inflight.chunks
taken-few s t = answered-few (back_by s t.flight t.kept) t.flight.queue.inflight.chunks
