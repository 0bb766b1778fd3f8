-- A session in which few TSNs are given out, call by call of the sender: what is given out, and what is made of it.
use Rattle.sctp_delivery.proofs.Names.{◌≡◌, ℕ, ◌+◌, ◌<◌, ◌≤◌, ◌^◌, Bool, true, false, List, [], ◌∷◌, length, Option, Some, None, refl, ap, sym, subst, ◌∙◌}
use Rattle.sctp_delivery.proofs.Names.{arith, if◌then◌else◌, ◌||◌, option_map, Contains, list_any, nat_tests, none-some, common_steps, distance, not_both, tsn}
use Rattle.sctp_delivery.proofs.Names.{distance-tsn, ChunkPayloadData, Sack, Outbound, all_started, as_sent, expired_of, sent_next, with_message, next_pending}
use Rattle.sctp_delivery.proofs.Names.{peeked_all_started, following_tsn, has_tsn, tsns, Released, Flight, after_abandonment, after_sack, is_outdated}
use Rattle.sctp_delivery.proofs.Names.{next_after_send, take_sack, with_room, reports, abandoned_each, fragments_with_mode, after_misses, can_miss, missed}
use Rattle.sctp_delivery.proofs.Names.{Transmission, write_refusal, started-inflight, changed-run, passes, was_passed, was_taken, reports_tsn, Made, SenderCall}
use Rattle.sctp_delivery.proofs.Names.{data_chunk, forward_tsn, made_after, with_chunk, SenderFollows, Session, IsReported, ForwardTsn}
use Rattle.sctp_outbound.specs.payload_queue.PayloadQueue as payload
use Rattle.sctp_sender.specs.Flight.{with_queue}
use Rattle.sctp_sender.specs.Sender.{stream_of}
use Rattle.sctp_sender.proofs.MarkedRuns.{part-run}
use Rattle.sctp_delivery.specs.SenderCalls as outgoing
use Rattle.sctp_delivery.proofs.Every.{Every, every-contained, every-found, every-of}
use Rattle.sctp_delivery.proofs.GivenTsns.{IsNumbered, Raises, given, raises-abandoned, raises-each, raises-none, raises-sent, taken-numbered, flight-given}
use Rattle.sctp_delivery.proofs.GivenTsns.{passable-end, passable-skip, IsGoneUpTo, IsPassable, passed-gone}
use Rattle.sctp_delivery.proofs.ArrivedTsns.{IsArrived}
use Rattle.sctp_delivery.proofs.ReportedTsns.{IsTruthful, answered-known}
use Rattle.sctp_delivery.proofs.TsnPlaces.{IsGiven, at-or-before, before, more-given, next-place}
use Rattle.sctp_delivery.proofs.Changes.{Change, all_start, acknowledges, changes, each_leaves, flight_after, front_expires, more_room, nothing, one_leaves}
use Rattle.sctp_delivery.proofs.Changes.{some_marked, some_missed}
use Rattle.sctp_delivery.proofs.Writing.{accepted-stream}
use Rattle.sctp_delivery.proofs.ValidMarks.{IsValid, abandoned-valid, each-valid, expired-valid, fragments-unmarked, marked-valid, message-valid, missed-valid}
use Rattle.sctp_delivery.proofs.ValidMarks.{more-passed, sack-valid, sent-valid, started-valid}

-- ## What is known

-- a TSN was taken, or passed
abbrev pub known : Session → ℕ → Bool
known s t = was_taken t s || was_passed t s

-- or dropped: one of these
abbrev pub known_or : (ℕ → Bool) → Session → ℕ → Bool
known_or dropped s t = (dropped t || was_taken t s) || was_passed t s

abbrev pub none_dropped : ℕ → Bool
none_dropped t = false

-- a chunk that was made has a TSN that was given out, or goes to one
abbrev pub IsMadeGiven : ℕ → ℕ → Made → Type 0
IsMadeGiven p n (data_chunk d) = IsGiven p n d.tsn
IsMadeGiven p n (forward_tsn f) = IsGiven p n f.new_cumulative_tsn

pub more-made-given : (p m n : ℕ) → m ≤ n → (x : Made) → IsMadeGiven p m x → IsMadeGiven p n x
more-made-given p m n le (data_chunk d) g = more-given p m n d.tsn le g
more-made-given p m n le (forward_tsn f) g = more-given p m n f.new_cumulative_tsn le g

-- the next TSN is past all that FORWARD-TSNs pass
pub next-unpassed : (p n : ℕ) (ms : List Made) → n < 2 ^ 31 → Every (IsMadeGiven p n) ms → list_any (passes (tsn p (n + 1))) ms ≡ false
next-unpassed p n [] few h = refl
next-unpassed p n (data_chunk d ∷ ms) few h = next-unpassed p n ms few h.1
next-unpassed p n (forward_tsn f ∷ ms) few h = grind (arith, nat_tests, common_steps, at-or-before, next-unpassed p n ms few h.1)

-- ## Calls of the sender

-- the TSN has a place from k on, up to n
abbrev pub IsFrom : ℕ → ℕ → ℕ → ℕ → Type 0
IsFrom p n k t = (j : ℕ) × (k ≤ j) × (j ≤ n) × (t ≡ tsn p j)

-- so many TSNs more, as a session counts them; what is acknowledged cumulatively is known still, and never less
pub record IsMoved (p n : ℕ) (kn : ℕ → Bool) (f g : Flight) : Type 0 where
  pub numbered : n + distance f.next_tsn g.next_tsn < 2 ^ 31 → IsNumbered p (n + distance f.next_tsn g.next_tsn) g
  pub settled : IsArrived p n kn f.acked_tsn [] → IsArrived p n kn g.acked_tsn []
  pub rises : (k : ℕ) → f.acked_tsn ≡ tsn p k → k ≤ n → IsFrom p n k g.acked_tsn

moved : (p n most : ℕ) (kn : ℕ → Bool) (f g : Flight) → most < 2 ^ 32 → IsNumbered p n f → Raises p most f g → IsMoved p n kn f g
moved p n most kn f g short h r =
    let e = given p n most f g short h.next_is r in
    let total = h.total in
    grind (arith, nat_tests)

-- where none is given out
moved-none : (p n : ℕ) (kn : ℕ → Bool) (f g : Flight) → g.next_tsn ≡ f.next_tsn → (IsArrived p n kn f.acked_tsn [] → IsArrived p n kn g.acked_tsn [])
    → ((k : ℕ) → f.acked_tsn ≡ tsn p k → k ≤ n → IsFrom p n k g.acked_tsn) → IsNumbered p n f → IsNumbered p n g → IsMoved p n kn f g
moved-none p n kn f g same settled rises h k = grind (arith, common_steps, distance-tsn)

same-moved : (p n : ℕ) (kn : ℕ → Bool) (f g : Flight) → tsns g.queue.inflight.chunks ≡ tsns f.queue.inflight.chunks → g.next_tsn ≡ f.next_tsn
    → g.acked_tsn ≡ f.acked_tsn → IsNumbered p n f → IsMoved p n kn f g
same-moved p n kn f g same next acked h = moved p n 0 kn f g (omega arith) h (raises-none p 0 f g same next acked)

-- where the call makes this of what is in flight
moved-to : (p n : ℕ) (kn : ℕ → Bool) (f g k : Flight) → g ≡ k → IsMoved p n kn f k → IsMoved p n kn f g
moved-to p n kn f g k e m = subst (IsMoved p n kn f) (sym e) m

pub message-inflight : (cs : List ChunkPayloadData) (q : Outbound) → (with_message cs q).inflight ≡ q.inflight
message-inflight [] q = refl
message-inflight (c ∷ cs) q = refl

-- a stream that a write is accepted for is open
pub written-open : (stream len : ℕ) (t : Transmission) → write_refusal stream len t ≡ None → stream_of stream t ≡ None → ⊥
written-open stream len t none closed = let l = accepted-stream stream len t none in none-some l.0 (sym closed ∙ l.1)

each-moved : (p n : ℕ) (kn : ℕ → Bool) (f : Flight) (ts : List ℕ) → n < 2 ^ 31 → length ts ≤ 1 + length f.queue.inflight.chunks → IsNumbered p n f
    → IsMoved p n kn f (abandoned_each ts f)
each-moved p n kn f ts few short h = let total = h.total in moved p n (length ts) kn f (abandoned_each ts f) (omega (arith, few, short, total)) h
    (raises-each p ts f)

abandoned-moved : (p n : ℕ) (kn : ℕ → Bool) (o : Option ℕ) (f : Flight) → IsNumbered p n f → IsMoved p n kn f (after_abandonment o f)
abandoned-moved p n kn o f h = moved p n 1 kn f (after_abandonment o f) (omega arith) h (raises-abandoned p 1 o f (omega arith))

pub sack-next : (k : Sack) (f : Flight) → (after_sack k f).next_tsn ≡ f.next_tsn
sack-next k f = elim (is_outdated k f) as (λ b. (if b then f else take_sack k f).next_tsn ≡ f.next_tsn) [ true ↦ refl | false ↦ refl ]

sack-settled : (p n : ℕ) (kn : ℕ → Bool) (k : Sack) (f : Flight) → IsTruthful p n kn k → IsArrived p n kn f.acked_tsn [] → IsArrived p n kn
    (after_sack k f).acked_tsn []
sack-settled p n kn k f t h = grind (arith, nat_tests)

sack-rises : (p n : ℕ) (kn : ℕ → Bool) (s : Sack) (f : Flight) → n < 2 ^ 31 → IsTruthful p n kn s → (k : ℕ) → f.acked_tsn ≡ tsn p k → k ≤ n
    → IsFrom p n k (after_sack s f).acked_tsn
sack-rises p n kn s f few t k is le = by (is_outdated s f) refl
  where
    by : (b : Bool) → is_outdated s f ≡ b → IsFrom p n k (if b then f else take_sack s f).acked_tsn
    by b h2 = grind (arith, nat_tests, before)

abbrev pub flight_of : Session → Flight
flight_of s = s.sending.sender.flight

module _ (p n : ℕ) (kn : ℕ → Bool) (old new : Session) (few : n < 2 ^ 31) (h : IsNumbered p n old.sending.sender.flight) where
  abbrev Moves : Type 0
  Moves = IsMoved p n kn old.sending.sender.flight new.sending.sender.flight

  same-queue : (q : Outbound) → tsns q.inflight.chunks ≡ tsns (flight_of old).queue.inflight.chunks
      → IsMoved p n kn (flight_of old) (with_queue (flight_of old) q)
  same-queue q same = same-moved p n kn (flight_of old) (with_queue (flight_of old) q) same refl refl h

  moved-by : (call : SenderCall) → ((k : Sack) (gone : List Released) → call ≡ outgoing.takes_sack k gone → IsTruthful p n kn k)
      → (c : Change call old.sending.sender) → IsMoved p n kn (flight_of old) (flight_after call old.sending.sender c)
  moved-by call t nothing = same-queue (flight_of old).queue refl
  moved-by call t (all_start now) =
      same-queue (all_started now (flight_of old).queue) (ap (λ (w : payload.Payload). tsns w.chunks) (started-inflight now (flight_of old).queue))
  moved-by call t (more_room count) = same-queue (with_room count (flight_of old).queue) refl
  moved-by call t (some_marked q g k) = grind (arith, nat_tests, common_steps, same-queue, changed-run)
  moved-by call t (some_missed count) =
      same-queue (after_misses count (flight_of old)).queue (part-run can_miss missed (λ d. refl) (flight_of old).queue.inflight.chunks count)
  moved-by call t (one_leaves o e found) = abandoned-moved p n kn o (flight_of old) h
  moved-by call t (each_leaves ts short e) = each-moved p n kn (flight_of old) ts few short h
  moved-by call t (front_expires now c found e) = same-queue (expired_of (Some c) (flight_of old).queue) refl
  moved-by call t (acknowledges k gone e) =
      let truth = t k gone e in
      moved-none p n kn (flight_of old) (after_sack k (flight_of old)) (sack-next k (flight_of old)) (sack-settled p n kn k (flight_of old) truth)
      (sack-rises p n kn k (flight_of old) few truth) h (taken-numbered p n truth.place k (flight_of old) few truth.within truth.is h)

  pub moves : (call : SenderCall) → Every (IsTruthful p n kn) old.sacks → SenderFollows call old new → Moves
  moves (outgoing.writes stream ppi (b ∷ bs)) t f =
      let l = accepted-stream stream (length (b ∷ bs)) old.sending.sender f.accepted in
      let cs = fragments_with_mode l.0 ppi (b ∷ bs) in
      moved-to p n kn (flight_of old) (flight_of new) _ (ap (λ (u : Transmission). u.flight) (f.exact.1 (omega arith) l.0 l.1))
      (same-queue (with_message cs (flight_of old).queue) (ap (λ (w : payload.Payload). tsns w.chunks) (message-inflight cs (flight_of old).queue)))
  moves (outgoing.sends now) t f =
      let k = record (flight_of old) { queue = sent_next (flight_of old).queue (flight_of old).next_tsn now; next_tsn = next_after_send (flight_of old) } in
      moved-to p n kn (flight_of old) (flight_of new) k (ap (λ (u : Transmission). u.flight) f.exact)
      (moved p n 1 kn (flight_of old) k (omega arith) h (raises-sent p 1 now (flight_of old) (omega arith)))
  moves call t f =
      let x = changes old.sending.sender new.sending.sender call refl f.step.sender f.exact in
      moved-to p n kn (flight_of old) (flight_of new) _ x.flight
      (moved-by call (λ k gone e. every-contained (IsTruthful p n kn) old.sacks k (subst (λ c. IsReported c old) e f.handed) t) x.change)

-- ## What they make

module _ (p n : ℕ) (old new : Session) (few : n < 2 ^ 31) (h : IsNumbered p n old.sending.sender.flight) where
  abbrev after : ℕ
  after = n + distance (flight_of old).next_tsn (flight_of new).next_tsn

  abbrev AreGiven : List Made → Type 0
  AreGiven ms = Every (IsMadeGiven p after) ms

  kept-given : (ms : List Made) → Every (IsMadeGiven p n) ms → AreGiven ms
  kept-given ms m = every-of (IsMadeGiven p n) (IsMadeGiven p after) (more-made-given p n after (omega arith)) ms m

  -- the next TSN is given out where something waits
  next-given : (b : Bool) → true ≡ b → (flight_of new).next_tsn ≡ (if b then following_tsn (flight_of old).next_tsn else (flight_of old).next_tsn)
      → IsGiven p after (flight_of old).next_tsn
  next-given b h2 h3 = grind (arith, nat_tests, distance-tsn, next-place, not_both)

  pub made-given : (call : SenderCall) → Every (IsMadeGiven p n) old.made → SenderFollows call old new → AreGiven (made_after call old.sending.sender old.made)
  made-given (outgoing.sends now) m f = grind (arith, nat_tests, kept-given, next-given, peeked_all_started)
  made-given (outgoing.resends u now c) m f = (
    more-given p n after c.tsn (omega arith) (every-found (λ (d : ChunkPayloadData). IsGiven p n d.tsn) (has_tsn u)
        (flight_of old).queue.inflight.chunks c f.accepted.1 (flight-given p n (flight_of old) h)),
    kept-given old.made m,
  )
  made-given (outgoing.forwards u c) m f = (
    more-given p n after c.new_cumulative_tsn (omega arith)
        (passable-skip p n (flight_of old) h few u c.new_cumulative_tsn f.accepted.0).given,
    kept-given old.made m,
  )
  made-given (outgoing.forwards_within bytes c) m f = (
    more-given p n after c.new_cumulative_tsn (omega arith)
        (passable-end p n (flight_of old) h few c.new_cumulative_tsn f.accepted.0 f.accepted.1).given,
    kept-given old.made m,
  )
  made-given call m f = kept-given old.made m

-- # A session in which few TSNs are given out, call by call: what is acknowledged, and what is passed

-- ## Marks of a call of the sender

-- the TSN came: it was taken, or is one of these, which were dropped
abbrev pub came_in : (ℕ → Bool) → Session → ℕ → Bool
came_in dropped s t = dropped t || was_taken t s

abbrev pub passed_in : List Made → ℕ → Bool
passed_in ms t = list_any (passes t) ms

-- what is acknowledged came, and what was passed is abandoned
abbrev pub IsValidBut : (ℕ → Bool) → Session → Type 0
IsValidBut dropped s = IsValid (came_in dropped s) (passed_in s.made) s.sending.sender.flight.queue

module _ (dropped : ℕ → Bool) (p n : ℕ) (old new : Session) (few : n < 2 ^ 31) (h : IsNumbered p n old.sending.sender.flight)
    (s : IsValidBut dropped old) where
  -- with what came and was passed before the call
  abbrev StillValid : Type 0
  StillValid = IsValid (came_in dropped old) (passed_in old.made) new.sending.sender.flight.queue

  valid-to : (t : Transmission) → new.sending.sender ≡ t → IsValid (came_in dropped old) (passed_in old.made) t.flight.queue → StillValid
  valid-to t e k = subst (λ (u : Transmission). IsValid (came_in dropped old) (passed_in old.made) u.flight.queue) (sym e) k

  answered : Every (IsTruthful p n (known_or dropped old)) old.sacks → (k : Sack) → Contains old.sacks k → Every
      (λ (c : ChunkPayloadData). reports k c ≡ true → known_or dropped old c.tsn ≡ true) old.sending.sender.flight.queue.inflight.chunks
  answered t k in' =
      let truth = every-contained (IsTruthful p n (known_or dropped old)) old.sacks k in' t in
      every-of (λ (c : ChunkPayloadData). IsGiven p n c.tsn) (λ (c : ChunkPayloadData). reports k c ≡ true → known_or dropped old c.tsn ≡ true)
      (λ c g e. one truth c g e) old.sending.sender.flight.queue.inflight.chunks (flight-given p n old.sending.sender.flight h)
    where
      one : IsTruthful p n (known_or dropped old) k → (c : ChunkPayloadData) → IsGiven p n c.tsn → reports k c ≡ true → known_or dropped old c.tsn ≡ true
      one truth c g e =
          let within = g.within in
          let at = answered-known p n (known_or dropped old) k g.place few g.some (omega (arith, within, few)) truth
          (subst (λ t. reports_tsn t k ≡ true) g.is e) in
          subst (λ t. known_or dropped old t ≡ true) (sym g.is) at.0

  changed-valid : (call : SenderCall) → ((k : Sack) (gone : List Released) → call ≡ outgoing.takes_sack k gone → Contains old.sacks k)
      → Every (IsTruthful p n (known_or dropped old)) old.sacks → (c : Change call old.sending.sender)
      → IsValid (came_in dropped old) (passed_in old.made) (flight_after call old.sending.sender c).queue
  changed-valid call r t nothing = s
  changed-valid call r t (all_start now) = started-valid (came_in dropped old) (passed_in old.made) now old.sending.sender.flight.queue s
  changed-valid call r t (more_room count) = record { ordered = s.ordered; unordered = s.unordered; inflight = s.inflight }
  changed-valid call r t (some_marked q f k) =
      marked-valid (came_in dropped old) (passed_in old.made) q f k old.sending.sender.flight.queue s
  changed-valid call r t (some_missed count) = missed-valid (came_in dropped old) (passed_in old.made) count old.sending.sender.flight s
  changed-valid call r t (one_leaves o e found) =
      abandoned-valid (came_in dropped old) (passed_in old.made) o old.sending.sender.flight.next_tsn old.sending.sender.flight.queue s
  changed-valid call r t (each_leaves ts short e) = each-valid (came_in dropped old) (passed_in old.made) ts old.sending.sender.flight s
  changed-valid call r t (front_expires now c found e) =
      expired-valid (came_in dropped old) (passed_in old.made) (Some c) old.sending.sender.flight.queue s
  changed-valid call r t (acknowledges k gone e) =
      sack-valid (came_in dropped old) (passed_in old.made) k old.sending.sender.flight (answered t k (r k gone e)) s

  stays-valid : (call : SenderCall) → Every (IsTruthful p n (known_or dropped old)) old.sacks → Every (IsMadeGiven p n) old.made
      → SenderFollows call old new → StillValid
  stays-valid (outgoing.writes stream ppi (b ∷ bs)) t m f =
      let l = accepted-stream stream (length (b ∷ bs)) old.sending.sender f.accepted in
      valid-to _ (f.exact.1 (omega arith) l.0 l.1)
      (message-valid (came_in dropped old) (passed_in old.made) (fragments_with_mode l.0 ppi (b ∷ bs)) old.sending.sender.flight.queue
      (fragments-unmarked l.0 ppi (b ∷ bs)) s)
  stays-valid (outgoing.sends now) t m f =
      valid-to _ f.exact
      (sent-valid (came_in dropped old) (passed_in old.made) old.sending.sender.flight.queue old.sending.sender.flight.next_tsn now
      (ap (passed_in old.made) h.next_is ∙ next-unpassed p n old.made few m) s)
  stays-valid call t m f =
      let x = changes old.sending.sender new.sending.sender call refl f.step.sender f.exact in
      subst (λ (g : Flight). IsValid (came_in dropped old) (passed_in old.made) g.queue) (sym x.flight)
      (changed-valid call (λ k gone e. subst (λ c. IsReported c old) e f.handed) t x.change)

  -- and with what it passes itself
  abbrev IsValidWith : List Made → Type 0
  IsValidWith ms = IsValid (came_in dropped old) (passed_in ms) new.sending.sender.flight.queue

  passing : (c : ForwardTsn) → new.sending.sender ≡ old.sending.sender → IsPassable p n old.sending.sender.flight h few c.new_cumulative_tsn → StillValid
      → IsValidWith (forward_tsn c ∷ old.made)
  passing c e g k =
      more-passed (came_in dropped old) (passed_in old.made) (passed_in (forward_tsn c ∷ old.made)) new.sending.sender.flight.queue
      (subst (λ (u : Transmission). Every (λ (x : ChunkPayloadData). passed_in (forward_tsn c ∷ old.made) x.tsn ≡ true →
      (passed_in old.made x.tsn || x.abandoned) ≡ true) u.flight.queue.inflight.chunks) (sym e)
      (every-of (IsGoneUpTo c.new_cumulative_tsn) (λ (x : ChunkPayloadData). passed_in (forward_tsn c ∷ old.made) x.tsn ≡ true →
      (passed_in old.made x.tsn || x.abandoned) ≡ true) one old.sending.sender.flight.queue.inflight.chunks
      (passed-gone p n old.sending.sender.flight h few c.new_cumulative_tsn g)))
      k
    where
      one : (x : ChunkPayloadData) → IsGoneUpTo c.new_cumulative_tsn x → passed_in (forward_tsn c ∷ old.made) x.tsn ≡ true →
          (passed_in old.made x.tsn || x.abandoned) ≡ true
      one x h2 h3 = grind (arith, nat_tests)

  pub stays-valid-with : (call : SenderCall) → Every (IsTruthful p n (known_or dropped old)) old.sacks → Every (IsMadeGiven p n) old.made
      → SenderFollows call old new → IsValidWith (made_after call old.sending.sender old.made)
  stays-valid-with (outgoing.sends now) t m f = by (next_pending (all_started now old.sending.sender.flight.queue).pending)
    where
      still : StillValid
      still = stays-valid (outgoing.sends now) t m f

      by : (o : Option ChunkPayloadData) → IsValidWith (with_chunk (option_map (as_sent old.sending.sender.flight.next_tsn now) o) old.made)
      by None = still
      by (Some c) = still
  stays-valid-with (outgoing.forwards u c) t m f = passing c f.exact (passable-skip p n old.sending.sender.flight h few u c.new_cumulative_tsn f.accepted.0)
      (stays-valid (outgoing.forwards u c) t m f)
  stays-valid-with (outgoing.forwards_within bytes c) t m f = passing c f.exact
      (passable-end p n old.sending.sender.flight h few c.new_cumulative_tsn f.accepted.0 f.accepted.1) (stays-valid (outgoing.forwards_within bytes c) t m f)
  stays-valid-with call t m f = stays-valid call t m f
