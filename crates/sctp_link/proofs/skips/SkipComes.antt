-- The arrival of a FORWARD-TSN: what it names, and its span test.
use Rattle.sctp_link.proofs.Names.{◌≡◌, ℕ, zero, suc, ◌+◌, ◌-◌, ◌<◌, ◌≤◌, Bool, true, false, List, [], ◌∷◌, length, map, Some, None, refl, ap, sym, ◌∙◌}
use Rattle.sctp_link.proofs.Names.{arith, if◌then◌else◌, ◌==◌, find, slice_get, slice_index_or, filter, subst, forward_tsn_chunk, ReadsPacket, LinkRecord}
use Rattle.sctp_link.proofs.Names.{StreamRecord, Forward, stream_at, is_open, is_ordered_on, index_of, cumulative, held_on, after_arrive}
use Rattle.sctp_link.proofs.Names.{refusal_of, IsSpan, shape, IsNamable, NamesFit, low_named, end_named, complete_first, min_with, with_skip, skip-step}
use Rattle.sctp_link.proofs.Names.{sets-held, OpenStream, has_number, Named, Message, Datagram, State, IsLinked, message_record, progress_of, stream_record}
use Rattle.sctp_link.proofs.Names.{datagram_record, kind_record, index_in, is_on, named_from, none_named, wire_skip, packet_with, length-mapped, get_or-map}
use Rattle.sctp_link.proofs.Names.{skips_come_valid}
use Rattle.sctp_model.proofs.refinement.skipping.StreamsAt.{found-at}
use Rattle.sctp_model.specs.declared.event.Event.TheVariants as E
use Rattle.sctp_model.specs.refinement.Naming.{on_stream}
use Rattle.sctp_link.proofs.upkeep.Facts.{over}
use Rattle.sctp_link.proofs.receiver.Hears.{stream-ordered}
use Rattle.sctp_link.proofs.upkeep.Observed.{encoded, kind-there}

-- ## What it names

-- the names of the record, by the messages that a link keeps
module _ {sum : List ℕ → ℕ} {x : State} (l : IsLinked sum x) (ms : List Message) (messages_are : x.recorded.messages ≡ map message_record ms)
    (progress_are : x.progress ≡ map progress_of ms) where
  on-is : (s n : ℕ) → is_on ms s n ≡ is_ordered_on x.recorded s n
  on-is s n = ap (λ rs. is_ordered_on (record x.recorded { messages = rs }) s n) (sym messages_are)

  pub index-is : (upto n : ℕ) → IsNamable (shape x.recorded) upto n → index_in ms n ≡ index_of x.recorded n
  index-is upto n i = ap (λ (ps : List (ℕ × ℕ)). (slice_index_or ps n (0, 0)).1) (sym progress_are) ∙ l.indexes n i.some i.ordered

  -- the same function on those that pass
  mapped-is : (f g : ℕ → ℕ) (upto s : ℕ) (ns : List ℕ) → ((n : ℕ) → IsNamable (shape x.recorded) upto n → f n ≡ g n) → NamesFit (shape x.recorded) upto ns
      → map f (filter (is_on ms s) ns) ≡ map g (on_stream x.recorded s ns)
  mapped-is f g upto s [] same fit = refl
  mapped-is f g upto s (n ∷ ns) same fit = ap (λ b. map f (if b then n ∷ filter (is_on ms s) ns else filter (is_on ms s) ns)) (on-is s n)
      ∙ step (is_ordered_on x.recorded s n) (mapped-is f g upto s ns same fit.1)
    where
      step : (b : Bool) → map f (filter (is_on ms s) ns) ≡ map g (on_stream x.recorded s ns) → map f (if b then n ∷ filter (is_on ms s) ns
          else filter (is_on ms s) ns) ≡ map g (if b then n ∷ on_stream x.recorded s ns else on_stream x.recorded s ns)
      step true ih = ap (λ y. y ∷ map f (filter (is_on ms s) ns)) (same n fit.0) ∙ ap (λ ys. g n ∷ ys) ih
      step false ih = ih

  pub names-are : (upto s : ℕ) (ns : List ℕ) → NamesFit (shape x.recorded) upto ns
      → named_from ms s none_named ns ≡ (let r : Named = record { low = low_named x.recorded s ns; end = end_named x.recorded s ns } in r)
  names-are upto s ns fit =
      let low = mapped-is (index_in ms) (index_of x.recorded) upto s ns (λ n i. index-is upto n i) fit in
      let end = mapped-is (λ n. index_in ms n + 1) (λ n. index_of x.recorded n + 1) upto s ns (λ n i. ap (λ k. k + 1) (index-is upto n i)) fit in
      cc (low, end)

-- ## A stream at a place

pub open-at : (x : State) → x.recorded.streams ≡ map stream_record x.open_streams → (j : ℕ) (d : OpenStream) → j < length x.open_streams
    → (r : StreamRecord) × (stream_at x.recorded (slice_index_or x.open_streams j d).state.stream_identifier ≡ Some r)
open-at x streams_are j d lt =
    let f = found-at j (map stream_record x.open_streams) (stream_record d) (omega (arith, lt, length-mapped stream_record x.open_streams)) in
    let same : (slice_index_or (map stream_record x.open_streams) j (stream_record d)).stream ≡ (slice_index_or x.open_streams j d).state.stream_identifier =
    ap (λ (q : StreamRecord). q.stream) (get_or-map stream_record x.open_streams j d (stream_record d) lt) in (
      f.0,
      ap (λ t. find (λ (q : StreamRecord). q.stream == t) x.recorded.streams) (sym same)
          ∙ ap (find (λ q. q.stream == (slice_index_or (map stream_record x.open_streams) j (stream_record d)).stream)) streams_are ∙ f.1,
    )

pub record-at : (ls : List OpenStream) (j : ℕ) (d : OpenStream) (r : StreamRecord) → slice_get (map stream_record ls) j ≡ Some r
    → r.stream ≡ (slice_index_or ls j d).state.stream_identifier
record-at [] j d r e = cc
record-at (y ∷ ls) zero d r e = let same : stream_record y ≡ r = cc in ap (λ q. q.stream) (sym same)
record-at (y ∷ ls) (suc j) d r e = record-at ls j d r e

-- a stream found at a place
module _ {sum : List ℕ → ℕ} {x : State} (l : IsLinked sum x) (at s : ℕ) (d : OpenStream) (lt : at < length x.open_streams)
    (found : find (has_number s) x.open_streams ≡ Some (slice_index_or x.open_streams at d)) where
  held-count : length (slice_index_or x.open_streams at d).inbound.queue.held.ordered ≡ length (held_on x.recorded s)
  held-count = ap length (stream-ordered l at s d lt found) ∙ sets-held x.recorded s

  pub stream-some : 0 < length (slice_index_or x.open_streams at d).inbound.queue.held.ordered → 0 < length (held_on x.recorded s)
  stream-some some = omega (arith, some, held-count)

  pub first-none : length (slice_index_or x.open_streams at d).inbound.queue.held.ordered ≡ 0 → (low : ℕ)
      → low ≡ min_with (complete_first x.recorded (held_on x.recorded s)) low
  first-none e low = by (held_on x.recorded s) (sym held-count ∙ e)
    where
      by : (ns : List ℕ) → length ns ≡ 0 → low ≡ min_with (complete_first x.recorded ns) low
      by [] z = refl
      by (n ∷ ns) z = absurd (omega arith)

-- what its bytes read as
pub reads-skip : {sum : List ℕ → ℕ} {x : State} (k upto : ℕ) (names : List ℕ) (ds : List Datagram) (y : Datagram) → IsLinked sum x
    → x.recorded.network ≡ map datagram_record ds → x.datagrams ≡ map (λ d. d.bytes) ds → slice_get x.recorded.network k ≡ Some (Forward upto names)
    → y ≡ slice_index_or ds k y → ReadsPacket sum y.bytes (packet_with (forward_tsn_chunk (wire_skip x.recorded upto names) ∷ []))
reads-skip k upto names ds y l network same e is = (encoded ds k y (Forward upto names) l network same e is).reads

-- the names that a link keeps of a datagram
pub names-kept : (ds : List Datagram) (k : ℕ) (y : Datagram) (u upto : ℕ) (answered names : List ℕ)
    → slice_get (map datagram_record ds) k ≡ Some (Forward upto names) → y ≡ slice_index_or ds k y → kind_record y.kind ≡ Forward u answered → answered ≡ names
names-kept ds k y u upto answered names e is kind =
    let same : Forward u answered ≡ Forward upto names = sym kind ∙ kind-there ds k y (Forward upto names) e is in cc

-- ## What counts

module _ {sum : List ℕ → ℕ} {x : State} (l : IsLinked sum x) (k upto : ℕ) (names : List ℕ) (none : refusal_of x.recorded (E.Arrive k) ≡ None)
    (e : slice_get x.recorded.network k ≡ Some (Forward upto names)) (counts : cumulative x.recorded ≤ upto) where
  abbrev w : LinkRecord
  w = x.recorded

  pub spans : (s : ℕ) → is_open w s ≡ true
      → IsSpan w s (map (index_of w) (on_stream w s names)) × IsSpan (with_skip w upto names) s (map (index_of w) (on_stream w s names))
  spans s o =
      let two = over (λ (u : LinkRecord). refusal_of u (E.Arrive k) ≡ None → slice_get u.network k ≡ Some (Forward upto names) → cumulative u ≤ upto
      → is_open u s ≡ true → IsSpan u s (map (index_of u) (filter (is_ordered_on u s) names))
      × IsSpan (after_arrive u (Some (Forward upto names))) s (map (index_of u) (filter (is_ordered_on u s) names))) l
      (λ a b c d. skips_come_valid w.setup l.history l.setup l.stands.run k upto names a b c s d) none e counts o in
      (two.0, subst (λ (u : LinkRecord). IsSpan u s (map (index_of w) (on_stream w s names))) (skip-step w upto names counts) two.1)
