-- By calls by which a sender sends, no fewer chunks are in flight: as many more as TSNs are given out.
use Rattle.std.proofs.Common.{◌≡◌, ◌+◌, ◌-◌, ◌%◌, ◌<◌, ◌^◌, ℕ, true, List, [], ◌∷◌, length, Some, refl, ap, sym, subst, ◌∙◌, arith}
use Rattle.std.proofs.lemmas.Bool.{false≢true}
use Rattle.std.proofs.lemmas.Bool.Decides.{nat_tests}
use Rattle.std.specs.Prelude.{nat_lt}
use Rattle.std.specs.List.{list_all}
use Rattle.sctp_association.specs.Hosts.{is_asking}
use Rattle.sctp_association.specs.Runs.{Runs, SendsBy, is_sending, made_by}
use Rattle.sctp_data.specs.declared.chunk.chunk_payload_data.ChunkPayloadData.{ChunkPayloadData}
use Rattle.sctp_delivery.proofs.Changes.{Change, acknowledges, all_start, changes, each_leaves, flight_after, front_expires, more_room, nothing, one_leaves}
use Rattle.sctp_delivery.proofs.Changes.{some_marked, some_missed}
use Rattle.sctp_delivery.proofs.GivenTsns.{Raises, as-long, raises-abandoned, raises-each, raises-none, raises-sent}
use Rattle.sctp_delivery.proofs.Names.{after_abandonment, after_misses, can_miss, change_where, changed-run, missed, started-inflight, tsns, with_inflight}
use Rattle.sctp_delivery.proofs.Names.{with_room}
use Rattle.sctp_delivery.proofs.Names.{fragments_with_mode, is_outstanding, with_retransmit}
use Rattle.sctp_delivery.proofs.SackSteps.{message-inflight}
use Rattle.sctp_delivery.proofs.Writing.{accepted-stream}
use Rattle.sctp_delivery.proofs.YoungReads.{both-pass}
use Rattle.sctp_delivery.specs.SenderCalls as outgoing
use Rattle.sctp_delivery.specs.SenderCalls.{Made, SenderCall, SenderMakes}
use Rattle.sctp_outbound.specs.outbound_queue.OutboundQueue.{all_started, expired_of, sent_next}
use Rattle.sctp_outbound.specs.payload_queue.PayloadQueue as payload
use Rattle.sctp_sender.proofs.MarkedRuns.{part-run}
use Rattle.sctp_sender.specs.Flight.{Flight, next_after_send, with_queue}
use Rattle.sctp_sender.specs.Late.{abandoned_each}
use Rattle.sctp_sender.specs.Sender.{Transmission}
use Rattle.sctp_util.proofs.More.{both}
use Rattle.sctp_util.specs.Serial.{comes_before, distance}

-- ## A call

-- so many TSNs were given out, and so many chunks more are in flight
pub record Rises (f g : Flight) : Type 0 where
  pub given : ℕ
  pub long : length g.queue.inflight.chunks ≡ length f.queue.inflight.chunks + given
  pub next : g.next_tsn ≡ (f.next_tsn + given) % 2 ^ 32

-- some number of them
record RaisesSome (p : ℕ) (f g : Flight) : Type 0 where
  most : ℕ
  raises : Raises p most f g

abbrev some : (p most : ℕ) (f g : Flight) → Raises p most f g → RaisesSome p f g
some p most f g r = record { most = most; raises = r }

module _ (call : SenderCall) (t : Transmission) (p : ℕ) (sending : is_sending call ≡ true) where
  change-raises : (c : Change call t) → RaisesSome p t.flight (flight_after call t c)
  change-raises nothing = some p 0 t.flight t.flight (raises-none p 0 t.flight t.flight refl refl refl)
  change-raises (all_start now) =
      let g = with_queue t.flight (all_started now t.flight.queue) in
      some p 0 t.flight g
      (raises-none p 0 t.flight g (ap (λ (w : payload.Payload). tsns w.chunks) (started-inflight now t.flight.queue)) refl refl)
  change-raises (more_room count) =
      let g = with_queue t.flight (with_room count t.flight.queue) in some p 0 t.flight g (raises-none p 0 t.flight g refl refl refl)
  change-raises (some_marked q m k) =
      let cs = t.flight.queue.inflight.chunks in
      let g = with_queue t.flight (with_inflight t.flight.queue (change_where q m cs)) in
      some p 0 t.flight g (raises-none p 0 t.flight g (changed-run q m (λ c. ap (λ (d : ChunkPayloadData). d.tsn) (k c)) cs) refl refl)
  change-raises (some_missed count) =
      let g = after_misses count t.flight in
      some p 0 t.flight g (raises-none p 0 t.flight g (part-run can_miss missed (λ d. refl) t.flight.queue.inflight.chunks count) refl refl)
  change-raises (one_leaves o e found) =
      let g = after_abandonment o t.flight in some p 1 t.flight g (raises-abandoned p 1 o t.flight (omega arith))
  change-raises (each_leaves ts short e) =
      let g = abandoned_each ts t.flight in some p (length ts) t.flight g (raises-each p ts t.flight)
  change-raises (front_expires now c found e) =
      let g = with_queue t.flight (expired_of (Some c) t.flight.queue) in some p 0 t.flight g (raises-none p 0 t.flight g refl refl refl)
  change-raises (acknowledges k gone e) = absurd (false≢true (sym (ap is_sending e) ∙ sending))

by-change : (call : SenderCall) (t u : Transmission) (p : ℕ) → is_sending call ≡ true → outgoing.SenderMakes call t u
    → (x : (c : Change call t) × (u.flight ≡ flight_after call t c)) → RaisesSome p t.flight u.flight
by-change call t u p e m x = subst (λ (g : Flight). RaisesSome p t.flight g) (sym x.1) (change-raises call t p e x.0)

raises-by : (call : SenderCall) (t u : Transmission) (p : ℕ) → is_sending call ≡ true → SenderMakes call t u → RaisesSome p t.flight u.flight
raises-by (outgoing.sends now) t u p e m =
    let g = record t.flight { queue = sent_next t.flight.queue t.flight.next_tsn now; next_tsn = next_after_send t.flight } in
    subst (λ (v : Transmission). RaisesSome p t.flight v.flight) (sym m.1.0) (some p 1 t.flight g (raises-sent p 1 now t.flight (omega arith)))
raises-by (outgoing.writes stream ppi bytes) t u p e m = absurd (false≢true e)
raises-by call t u p e m = let x = changes t u call refl m.0 m.1.0 in by-change call t u p e m (x.change, x.flight)

rises-of : (f g : Flight) → f.next_tsn < 2 ^ 32 → RaisesSome f.next_tsn f g → Rises f g
rises-of f g small r = record {
  given = r.raises.count;
  long = r.raises.long;
  next = let e = r.raises.next 0 (omega (arith, small)) in omega (arith, e);
}

pub rises-by : (call : SenderCall) (t u : Transmission) → t.flight.next_tsn < 2 ^ 32 → SendsBy call t u → Rises t.flight u.flight
rises-by call t u small m = rises-of t.flight u.flight small (raises-by call t u t.flight.next_tsn m.0 m.1)

pub rises-each : (cs : List SenderCall) (ms : List Made) (t u : Transmission) → t.flight.next_tsn < 2 ^ 32 → Runs SendsBy made_by cs ms t u
    → Rises t.flight u.flight
rises-each [] ms t u small r = record {
  given = 0;
  long = let e = ap (λ (v : Transmission). length v.flight.queue.inflight.chunks) r.1 in omega (arith, e);
  next = let e = ap (λ (v : Transmission). v.flight.next_tsn) r.1 in omega (arith, e, small);
}
rises-each (c ∷ cs) ms t u small r =
    let x = rises-by c t r.mid small r.made in
    let first = x.next in
    let y = rises-each cs r.later r.mid u (omega (arith, first)) r.rest in
    let a = x.long in
    let b = y.long in
    let second = y.next in
    record { given = x.given + y.given; long = omega (arith, a, b); next = omega (arith, first, second) }

-- ## What comes before the first and the last of the next TSNs comes before each between

before-between : (x a k j : ℕ) → k + j < 2 ^ 31 → comes_before x a ≡ true → comes_before x ((a + (k + j)) % 2 ^ 32) ≡ true
    → comes_before x ((a + k) % 2 ^ 32) ≡ true
unfolding comes_before distance
before-between x a k j few first last =
    let p = both (nat_lt 0 ((a + (2 ^ 32 - x)) % 2 ^ 32)) (nat_lt ((a + (2 ^ 32 - x)) % 2 ^ 32) (2 ^ 31)) first in
    let q = both (nat_lt 0 (((a + (k + j)) % 2 ^ 32 + (2 ^ 32 - x)) % 2 ^ 32)) (nat_lt (((a + (k + j)) % 2 ^ 32 + (2 ^ 32 - x)) % 2 ^ 32) (2 ^ 31)) last in
    let p-some : 0 < (a + (2 ^ 32 - x)) % 2 ^ 32 = grind (arith, nat_tests, p.0) in
    let p-near : (a + (2 ^ 32 - x)) % 2 ^ 32 < 2 ^ 31 = grind (arith, nat_tests, p.1) in
    let q-some : 0 < ((a + (k + j)) % 2 ^ 32 + (2 ^ 32 - x)) % 2 ^ 32 = grind (arith, nat_tests, q.0) in
    let q-near : ((a + (k + j)) % 2 ^ 32 + (2 ^ 32 - x)) % 2 ^ 32 < 2 ^ 31 = grind (arith, nat_tests, q.1) in
    let some : 0 < ((a + k) % 2 ^ 32 + (2 ^ 32 - x)) % 2 ^ 32 = omega (arith, few, p-some, p-near, q-some, q-near) in
    let near : ((a + k) % 2 ^ 32 + (2 ^ 32 - x)) % 2 ^ 32 < 2 ^ 31 = omega (arith, few, p-some, p-near, q-some, q-near) in
    grind (arith, nat_tests, some, near)

abbrev pub AreBefore : ℕ → List ChunkPayloadData → Type 0
AreBefore n cs = list_all (λ (c : ChunkPayloadData). comes_before c.tsn n) cs ≡ true

pub all-between : (f g h : Flight) (x : Rises f g) (y : Rises g h) → length h.queue.inflight.chunks < 2 ^ 31 → (cs : List ChunkPayloadData)
    → AreBefore f.next_tsn cs → AreBefore h.next_tsn cs → AreBefore g.next_tsn cs
all-between f g h x y few cs first last =
    let a = x.long in
    let b = y.long in
    let mid = x.next in
    let end' = y.next in
    let to : h.next_tsn ≡ (f.next_tsn + (x.given + y.given)) % 2 ^ 32 = omega (arith, mid, end') in
    subst (λ (n : ℕ). AreBefore n cs) (sym mid)
    (both-pass (λ c. comes_before c.tsn f.next_tsn) (λ c. comes_before c.tsn ((f.next_tsn + (x.given + y.given)) % 2 ^ 32))
    (λ c. comes_before c.tsn ((f.next_tsn + x.given) % 2 ^ 32))
    (λ c p q. before-between c.tsn f.next_tsn x.given y.given (omega (arith, a, b, few)) p q) cs first (subst (λ (n : ℕ). AreBefore n cs) to last))

-- ## A call for the application

-- no TSN is given out
pub ask-next : (call : SenderCall) (t u : Transmission) → is_asking call ≡ true → SenderMakes call t u → u.flight.next_tsn ≡ t.flight.next_tsn
ask-next (outgoing.opens stream) t u e m = ap (λ (v : Transmission). v.flight.next_tsn) m.0
ask-next (outgoing.sets_mode stream unordered reliability value) t u e m = ap (λ (v : Transmission). v.flight.next_tsn) m.0
ask-next (outgoing.writes stream ppi []) t u e m = ap (λ (v : Transmission). v.flight.next_tsn) (m.1.0.0 refl)
ask-next (outgoing.writes stream ppi (b ∷ bytes)) t u e m =
    let l = accepted-stream stream (length (b ∷ bytes)) t m.1.1.0 in ap (λ (v : Transmission). v.flight.next_tsn) (m.1.0.1 (omega arith) l.0 l.1)
ask-next (outgoing.sets_low stream bytes) t u e m = ap (λ (v : Transmission). v.flight.next_tsn) m.0
ask-next (outgoing.sets_size size) t u e m = ap (λ (v : Transmission). v.flight.next_tsn) m.0
ask-next outgoing.marks t u e m = ap (λ (v : Transmission). v.flight.next_tsn) m.0
ask-next _ t u e m = absurd (false≢true e)

-- and as many chunks are in flight
pub ask-long : (call : SenderCall) (t u : Transmission) → is_asking call ≡ true → SenderMakes call t u
    → length u.flight.queue.inflight.chunks ≡ length t.flight.queue.inflight.chunks
ask-long (outgoing.opens stream) t u e m = ap (λ (v : Transmission). length v.flight.queue.inflight.chunks) m.0
ask-long (outgoing.sets_mode stream unordered reliability value) t u e m = ap (λ (v : Transmission). length v.flight.queue.inflight.chunks) m.0
ask-long (outgoing.writes stream ppi []) t u e m = ap (λ (v : Transmission). length v.flight.queue.inflight.chunks) (m.1.0.0 refl)
ask-long (outgoing.writes stream ppi (b ∷ bytes)) t u e m =
    let l = accepted-stream stream (length (b ∷ bytes)) t m.1.1.0 in
    ap (λ (v : Transmission). length v.flight.queue.inflight.chunks) (m.1.0.1 (omega arith) l.0 l.1)
    ∙ ap (λ (w : payload.Payload). length w.chunks) (message-inflight (fragments_with_mode l.0 ppi (b ∷ bytes)) t.flight.queue)
ask-long (outgoing.sets_low stream bytes) t u e m = ap (λ (v : Transmission). length v.flight.queue.inflight.chunks) m.0
ask-long (outgoing.sets_size size) t u e m = ap (λ (v : Transmission). length v.flight.queue.inflight.chunks) m.0
ask-long outgoing.marks t u e m =
    let cs = t.flight.queue.inflight.chunks in
    ap (λ (v : Transmission). length v.flight.queue.inflight.chunks) m.0
    ∙ as-long (change_where is_outstanding (with_retransmit true) cs) cs (changed-run is_outstanding (with_retransmit true) (λ c. refl) cs)
ask-long _ t u e m = absurd (false≢true e)

-- nor by counting misses, and as many chunks are in flight
pub misses-next : (count : ℕ) (t u : Transmission) → SenderMakes (outgoing.misses count) t u → u.flight.next_tsn ≡ t.flight.next_tsn
misses-next count t u m = ap (λ (v : Transmission). v.flight.next_tsn) m.0

pub misses-long : (count : ℕ) (t u : Transmission) → SenderMakes (outgoing.misses count) t u
    → length u.flight.queue.inflight.chunks ≡ length t.flight.queue.inflight.chunks
misses-long count t u m =
    ap (λ (v : Transmission). length v.flight.queue.inflight.chunks) m.0
    ∙ as-long (after_misses count t.flight).queue.inflight.chunks t.flight.queue.inflight.chunks
    (part-run can_miss missed (λ d. refl) t.flight.queue.inflight.chunks count)
