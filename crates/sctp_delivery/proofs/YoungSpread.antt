-- In a whole life few ordered messages of a stream are begun past the place acknowledged, and a FORWARD-TSN names the last ones up to its place.
use Rattle.sctp_delivery.proofs.Names.{common_steps, nat_tests, ◌≡◌, ℕ, ◌+◌, ◌<◌, ◌≤◌, ◌^◌, Bool, true, List, [], length, map, refl, ap, sym, subst, ◌∙◌, arith}
use Rattle.sctp_delivery.proofs.Names.{inl, ⊤, Option, Some, None, tsn, distance-tsn, ahead, ForwardTsn, ChunkPayloadData, Made, data_chunk, forward_tsn}
use Rattle.sctp_delivery.proofs.Names.{with_chunk, next_chunk, Session, SenderCall, ReceiverCall, data_of, of_receiver, Ledger, Limits, at_start, SenderFollows}
use Rattle.sctp_delivery.proofs.Names.{of_sender, IsAccepted, Name, Transmission, named_up_to}
use Rattle.sctp_util.specs.Serial.{distance}
use Rattle.sctp_delivery.specs.Recent.{Aged, aged_after, new_chunks, older}
use Rattle.sctp_delivery.specs.SenderCalls as outgoing
use Rattle.sctp_delivery.specs.Session.{count_in_flight}
use Rattle.sctp_delivery.proofs.Calls.{sent_by}
use Rattle.sctp_delivery.proofs.Cases.{all_streams, where-is}
use Rattle.sctp_delivery.proofs.Delivered.{HoldsOn, Sends, next_tsn, sender-step-on}
use Rattle.sctp_delivery.proofs.Every.{Every, every-joined, every-mapped}
use Rattle.sctp_delivery.proofs.FewInFlight.{sack-place}
use Rattle.sctp_delivery.proofs.FlightPlaces.{IsSetOn, sender-set}
use Rattle.sctp_delivery.proofs.GivenTsns.{IsPassable, lead-within, passable-end, passable-skip}
use Rattle.sctp_delivery.proofs.OrderedEntries.{AreIndexedOn, IsIndexed}
use Rattle.sctp_delivery.proofs.Queues.{IsOnceMore}
use Rattle.sctp_delivery.proofs.Recent.{IsNear, sack-fits, sender-moves}
use Rattle.sctp_delivery.proofs.Senders.{IsMoreBy}
use Rattle.sctp_delivery.proofs.Sent.{Entry, Numbered}
use Rattle.sctp_delivery.proofs.SpreadCalls as spread
use Rattle.sctp_delivery.proofs.SpreadCalls.{calm-near, not-far, sent-near}
use Rattle.sctp_delivery.proofs.SpreadEntries.{to-up}
use Rattle.sctp_delivery.proofs.SpreadFlight.{AreOn, AreSteps, Tells, named-at, tells-later}
use Rattle.sctp_delivery.proofs.TsnPlaces.{base}
use Rattle.sctp_delivery.proofs.YoungReads.{more-long}

-- a FORWARD-TSN goes to a place that lies fewer than 2^31 places before those that were given out since, and tells of each stream
abbrev pub IsNamedAt : (going : ℕ → Bool) (first a age : ℕ) → List Entry → Made → Type 0
IsNamedAt going first a age sent (data_chunk d) = ⊤
IsNamedAt going first a age sent (forward_tsn g) =
    (place : ℕ) × (place ≤ length sent) × (length sent < place + age + 2 ^ 31) × (g.new_cumulative_tsn ≡ tsn (base first) place)
    × ((st : ℕ) → going st ≡ true → Tells st a place sent g.streams)

pub record IsSpreadOver (going : ℕ → Bool) (first : ℕ) (s : Session) (sent : List Entry) (ages : List Aged) : Type 0 where
  pub set : IsSetOn going first s.sending.sender.flight sent
  pub near : (st : ℕ) → going st ≡ true → spread.IsNear st set.acked sent
  pub names : Every (λ (m : Aged). IsNamedAt going first set.acked m.age sent m.chunk) ages

pub named-later : (going : ℕ → Bool) (first a b age more-age : ℕ) (sent more : List Entry) → a ≤ b → a ≤ length sent → IsOnceMore sent more
    → length more + age ≤ length sent + more-age → (m : Made) → IsNamedAt going first a age sent m → IsNamedAt going first b more-age more m
named-later going first a b age more-age sent more le within once few (data_chunk d) h = tt
named-later going first a b age more-age sent more le within once few (forward_tsn g) h =
    let far = h.1 in
    let old = h.2 in
    let long = (more-long sent more once).0 in (
      h.0,
      omega (arith, far, long),
      omega (arith, old, few),
      h.3,
      λ st o. tells-later st a b h.0 sent more g.streams le within far once (h.4 st o),
    )

module _ (going : ℕ → Bool) (first : ℕ) (call : SenderCall) (old new : Session) (ns : List Numbered) (sent : List Entry) (ages : List Aged)
    (f : SenderFollows call old new) (h : HoldsOn going first old ns sent) (few : count_in_flight new < 2 ^ 31) (i : IsNear old) (j : IsNear new)
    (p : IsSpreadOver going first old sent ages) where
  abbrev u : Transmission
  u = old.sending.sender

  abbrev x : Sends going first call old new ns sent
  x = sender-step-on going first call old new ns sent f h

  abbrev a : ℕ
  a = p.set.acked

  set' : IsSetOn going first new.sending.sender.flight x.more
  set' = sender-set going first call old new ns sent f h i.few few i.regular.regular.numbered (λ k gone e. (sack-fits old new few i call f k gone e).0) p.set

  within : a ≤ length sent
  within = let t = p.set.total in omega (arith, t)

  -- no lower place is acknowledged
  rises : a ≤ set'.acked
  rises = grind (arith, set', more-long, sender-moves, sack-fits, sack-place)

  near-after : (c : SenderCall) → IsAccepted c u → IsMoreBy (sent_by c u) sent x.more → (st : ℕ) → going st ≡ true → spread.IsNear st a x.more
  near-after (outgoing.sends now) ok grown st o = by (next_chunk now u) refl grown
    where
      by : (o : Option ChunkPayloadData) → o ≡ next_chunk now u → IsMoreBy o sent x.more → spread.IsNear st a x.more
      by None is g = calm-near st a sent x.more within g (p.near st o)
      by (Some c) is g =
          subst (spread.IsNear st a) (sym g.2)
          (sent-near st a (length sent) sent u.flight c g.0 g.1 within refl p.set.total (p.set.set st o).0
          (λ same. where-is (going c.stream_identifier) (IsIndexed (data_of c) sent) (ap going same ∙ o)
          (subst (AreIndexedOn going) g.2 x.holds.held.stands.queued.indexed).0) (not-far u now c is ok) (p.near st o))
  near-after c ok grown st o = calm-near st a sent x.more within grown (p.near st o)

  -- what is passed by a FORWARD-TSN that is made
  named-new : (g : ForwardTsn) → IsPassable u.flight.acked_tsn (count_in_flight old) u.flight i.regular.regular.numbered i.few g.new_cumulative_tsn
      → Name g.streams (named_up_to g.new_cumulative_tsn u.flight) → IsNamedAt going first set'.acked 1 x.more (forward_tsn g)
  named-new g y name =
      let run = i.regular.regular.numbered in
      let k = y.given.place in
      let total = run.total in
      let at = run.acked_is in
      let is = y.given.is in
      let past = y.past in
      let upto = y.upto in
      let short = lead-within u.flight.queue.inflight.chunks in
      let was = i.few in
      let t = p.set.total in
      let base-is = p.set.is in
      let here : g.new_cumulative_tsn ≡ tsn (base first) (a + k) = omega (arith, is, base-is) in
      let none : run.acked ≡ 0 = omega (arith, total) in
      let far : ahead u.flight g.new_cumulative_tsn ≡ k = grind (arith, nat_tests, common_steps, distance-tsn) in
      let long = more-long sent x.more x.once in
      let lo = long.0 in
      let hi = long.1 in (
        a + k,
        omega (arith, t, upto, short, none, lo),
        omega (arith, t, past, was, hi),
        here,
        λ st o. tells-later st a set'.acked (a + k) sent x.more g.streams rises within (omega (arith, t, upto, short, none)) x.once
            (named-at st (base first) a k sent u.flight t (p.set.set st o).0 (p.set.set st o).1 g far (omega (arith, upto, none)) here name),
      )

  new-named : (c : SenderCall) → SenderFollows c old new
      → Every (λ (m : Aged). IsNamedAt going first set'.acked m.age x.more m.chunk) (map (λ m. record { chunk = m; age = 1 }) (new_chunks (of_sender c) old))
  new-named (outgoing.sends now) g = by (next_chunk now u)
    where
      by : (o : Option ChunkPayloadData)
          → Every (λ (m : Aged). IsNamedAt going first set'.acked m.age x.more m.chunk) (map (λ m. record { chunk = m; age = 1 }) (with_chunk o []))
      by None = tt
      by (Some c) = (tt, tt)
  new-named (outgoing.forwards t c) g = (
    named-new c (passable-skip u.flight.acked_tsn (count_in_flight old) u.flight i.regular.regular.numbered i.few t c.new_cumulative_tsn g.accepted.0)
        g.accepted.1,
    tt,
  )
  new-named (outgoing.forwards_within bytes c) g = grind (arith, nat_tests, common_steps, named-new, passable-end)
  new-named c g = tt

  pub sender-spread : IsSpreadOver going first new x.more (aged_after (of_sender call) old new ages)
  sender-spread = record {
    set = set';
    near = λ st o. let n = near-after call f.accepted x.grown st o in let up = to-up st a set'.acked x.more rises in omega (arith, n, up);
    names =
        let given = distance (next_tsn old) (next_tsn new) in
        every-joined (λ (m : Aged). IsNamedAt going first set'.acked m.age x.more m.chunk)
        (map (λ m. record { chunk = m; age = 1 }) (new_chunks (of_sender call) old))
        (map (older given) ages) (new-named call f)
        (every-mapped (λ (m : Aged). IsNamedAt going first a m.age sent m.chunk) (λ (m : Aged). IsNamedAt going first set'.acked m.age x.more m.chunk)
        (older given)
        (λ m y. let n = x.few in named-later going first a set'.acked m.age (m.age + given) sent x.more rises within x.once (omega (arith, n)) m.chunk y) ages
        p.names);
  }

abbrev pub IsSpreadOut : ℕ → Session → List Entry → List Aged → Type 0
IsSpreadOut first s sent ages = IsSpreadOver all_streams first s sent ages

-- a call of the receiver, by which the sender stays as it is
abbrev pub receiver-spread : (going : ℕ → Bool) (first : ℕ) (call : ReceiverCall) (old new : Session) (sent : List Entry) (ages : List Aged)
    → new.sending ≡ old.sending → IsSpreadOver going first old sent ages → IsSpreadOver going first new sent (aged_after (of_receiver call) old new ages)
receiver-spread going first call old new sent ages same p =
    let given = distance (next_tsn old) (next_tsn new) in
    let a = p.set.acked in
    let t = p.set.total in
    record {
      set = record {
        acked = a;
        total = subst (λ (l : Ledger). a + length l.sender.flight.queue.inflight.chunks ≡ length sent) (sym same) t;
        is = subst (λ (l : Ledger). l.sender.flight.acked_tsn ≡ tsn (base first) a) (sym same) p.set.is;
        set = λ st o.
            subst (λ (l : Ledger). AreSteps st sent a l.sender.flight.queue.inflight.chunks × AreOn st sent a l.sender.flight.queue.inflight.chunks)
            (sym same) (p.set.set st o);
      };
      near = p.near;
      names = every-mapped (λ (m : Aged). IsNamedAt going first a m.age sent m.chunk) (λ (m : Aged). IsNamedAt going first a m.age sent m.chunk) (older given)
          (λ m y. named-later going first a a m.age (m.age + given) sent sent (omega arith) (omega (arith, t)) (inl refl) (omega arith) m.chunk y) ages p.names;
    }

abbrev pub spread-first : (going : ℕ → Bool) (first size max most : ℕ) (limits : Option Limits) → first < 2 ^ 32
    → IsSpreadOver going first (at_start first size max most limits) [] []
spread-first going first size max most limits small = record {
  set = record { acked = 0; total = omega arith; is = omega (arith, small); set = λ st o. (tt, tt) };
  near = λ st o. omega arith;
  names = tt;
}
