-- A session of a sender that keeps what is reported, beside one in which no gap ack block is taken: both make the same chunks.
use Rattle.sctp_delivery.proofs.Names.{nat_tests, common_steps, ◌≡◌, ℕ, ◌<◌, ◌+◌, ◌^◌, List, [], ◌∷◌, ◌++◌, refl, ap, sym, subst, ◌∙◌, arith, append-nil}
use Rattle.sctp_delivery.proofs.Names.{Option, Some, None, Contains, ChunkPayloadData, Sack, Limits, OutboundStream, distance, Transmission, Call, Follows}
use Rattle.sctp_delivery.proofs.Names.{ReceiverFollows, RunsTo, Session, IsReported, at_start, of_receiver, of_sender, abandoned_by, abandoned_in, tsns_given}
use Rattle.sctp_delivery.proofs.Names.{Modes, at_first, modes_after, modes_from, SenderCall, SenderMakes, ReceiverCall, made_after, written_after}
use Rattle.sctp_delivery.proofs.Names.{reports_after, Made, Write, IsAccounted, length, Drop}
use Rattle.sctp_delivery.specs.Session.{count_in_flight}
use Rattle.sctp_delivery.specs.ReceiverCalls as incoming
use Rattle.sctp_receiver.specs.Receiver.{sack_within}
use Rattle.sctp_delivery.proofs.Delivered.{next_tsn}
use Rattle.sctp_delivery.proofs.Every.{Every, every-of}
use Rattle.sctp_delivery.proofs.OneRead.{given-then, no-way, run-then}
use Rattle.sctp_delivery.proofs.FewInFlight.{AreRegular, IsRegular, regular-then}
use Rattle.sctp_delivery.proofs.Plain.{AreLike, IsBareSack, are-long}
use Rattle.sctp_delivery.proofs.PlainFlights.{flight_with}
use Rattle.sctp_delivery.proofs.PlainStreams.{AreAlike, bare}
use Rattle.sctp_delivery.proofs.Sessions.{accounted}
use Rattle.sctp_delivery.proofs.Stands.{contains-more, sender-follows, sender_after}
use Rattle.sctp_delivery.proofs.TsnPlaces.{tsn-small}
use Rattle.sctp_sender.specs.declared.sender.Reported.{Reported}
use Rattle.sctp_sender.specs.declared.sender.Reported.TheVariants.{Keep}
use Rattle.sctp_delivery.specs.Returns.{at_start_with}

-- ## Calls one after another, with what laws ask of them

-- what a call abandons, and what it makes of the modes
abbrev pub gone_by : Call → Session → List ℕ
gone_by (of_sender call) s = abandoned_by call s.sending.sender
gone_by (of_receiver call) s = []

abbrev pub modes_by : Call → Modes → Modes
modes_by (of_sender call) m = modes_after call m
modes_by (of_receiver call) m = m

pub gone-then : (cs : List Call) (c : Call) (old mid new : Session) (r : RunsTo old cs mid) (f : Follows c mid new)
    → abandoned_in old (cs ++ c ∷ []) new (run-then cs c old mid new r f) ≡ abandoned_in old cs mid r ++ gone_by c mid
unfolding run-then
gone-then [] (of_sender call) old mid new r f = append-nil (abandoned_by call old.sending.sender)
    ∙ ap (λ (s : Session). abandoned_by call s.sending.sender) (sym r)
gone-then [] (of_receiver call) old mid new r f = refl
gone-then (of_sender call ∷ cs) c old mid new r f = grind (arith, nat_tests, common_steps, gone-then cs c r.0 mid new r.1.1 f)
gone-then (of_receiver call ∷ cs) c old mid new r f = gone-then cs c r.0 mid new r.1.1 f

modes-then : (cs : List Call) (c : Call) (m : Modes) → modes_from m (cs ++ c ∷ []) ≡ modes_by c (modes_from m cs)
modes-then [] (of_sender call) m = refl
modes-then [] (of_receiver call) m = refl
modes-then (of_sender call ∷ cs) c m = modes-then cs c (modes_after call m)
modes-then (of_receiver call ∷ cs) c m = modes-then cs c m

-- the sender as it would be, with these streams and chunks in flight
abbrev pub as_plain : Transmission → List OutboundStream → List ChunkPayloadData → Transmission
as_plain t ls ds = record {
  streams = ls;
  flight = flight_with t.flight ds;
  fragment_size = t.fragment_size;
  max_message_size = t.max_message_size;
  kept = None;
}

abbrev pub kept_of : Option (List (Option (List ℕ))) → List (Option (List ℕ))
kept_of None = []
kept_of (Some ks) = ks

-- the SACK was made there too, and one that is the same without its gap ack blocks
pub record IsThere (ks : List Sack) (s : Sack) : Type 0 where
  pub itself : Contains ks s
  pub bare : Sack
  pub other : Contains ks bare
  pub is-bare : IsBareSack s bare

-- the second session is as the first one, with this sender, would be
pub record Shadows (t : Transmission) (s d : Session) : Type 0 where
  pub streams : List OutboundStream
  pub chunks : List ChunkPayloadData
  pub sender : d.sending.sender ≡ as_plain t streams chunks
  pub alike : AreAlike t.streams streams
  pub like : AreLike (kept_of t.kept) t.flight.queue.inflight.chunks chunks
  pub receiving : d.receiving ≡ s.receiving
  pub made : d.made ≡ s.made
  pub written : d.written ≡ s.written
  pub sacks : Every (IsThere d.sacks) s.sacks

module _ (first size max most : ℕ) (limits : Option Limits) where
  -- it is one that gives out so many TSNs, abandons these messages and has these modes
  pub record PlainPlays (d : Session) (n : ℕ) (gone : List ℕ) (m : Modes) : Type 0 where
    pub calls : List Call
    pub run : RunsTo (at_start first size max most limits) calls d
    pub given : tsns_given (at_start first size max most limits) calls d run ≡ n
    pub left : abandoned_in (at_start first size max most limits) calls d run ≡ gone
    pub said : modes_from at_first calls ≡ m

  pub plays-then : (d e : Session) (n : ℕ) (gone : List ℕ) (m : Modes) → PlainPlays d n gone m → (c : Call) → Follows c d e
      → PlainPlays e (n + distance (next_tsn d) (next_tsn e)) (gone ++ gone_by c d) (modes_by c m)
  plays-then d e n gone m p c f =
      let start = at_start first size max most limits in
      record {
        calls = p.calls ++ c ∷ [];
        run = run-then p.calls c start d e p.run f;
        given = given-then p.calls c start d e p.run f ∙ ap (λ k. k + distance (next_tsn d) (next_tsn e)) p.given;
        left = gone-then p.calls c start d e p.run f ∙ ap (λ xs. xs ++ gone_by c d) p.left;
        said = modes-then p.calls c at_first ∙ ap (modes_by c) p.said;
      }

-- sessions of a sender that keeps nothing, and what is so of each that gives out so many TSNs, abandons these messages and has these modes; and
-- what is asked of how many TSNs were given out, and how many chunks are in flight
pub record Others (first : ℕ) : Type 1 where
  pub Bound : ℕ → ℕ → Type 0
  pub fewer : (n k more : ℕ) → Bound (n + more) (k + more) → Bound n k
  pub Plays : Session → ℕ → List ℕ → Modes → Type 0
  pub onward : (d e : Session) (n : ℕ) (gone : List ℕ) (m : Modes) → Bound n (count_in_flight d)
      → Bound (n + distance (next_tsn d) (next_tsn e)) (count_in_flight e) → Plays d n gone m → (c : Call) → Follows c d e
      → Plays e (n + distance (next_tsn d) (next_tsn e)) (gone ++ gone_by c d) (modes_by c m)
  pub regular : (d : Session) (n : ℕ) (gone : List ℕ) (m : Modes) → Bound n (count_in_flight d) → Plays d n gone m → IsRegular d
  pub room : (d : Session) (n : ℕ) (gone : List ℕ) (m : Modes) (more : ℕ) → Bound (n + more) (count_in_flight d + more) → Plays d n gone m
      → count_in_flight d + more < 2 ^ 31
  pub accounted : (d : Session) (n : ℕ) (gone : List ℕ) (m : Modes) → Bound n (count_in_flight d) → Plays d n gone m → IsAccounted d

-- those without any other calls, in which fewer than 2^31 chunks are in flight after each call
pub record PlaysOn (first size max most : ℕ) (limits : Option Limits) (d : Session) (n : ℕ) (gone : List ℕ) (m : Modes) : Type 0 where
  pub plain : PlainPlays first size max most limits d n gone m
  pub regular : AreRegular d

abbrev pub plain : (first size max most : ℕ) (limits : Option Limits) → Others first
plain first size max most limits = record {
  Bound = λ n k. k < 2 ^ 31;
  fewer = λ n k more b. omega (arith, b);
  Plays = PlaysOn first size max most limits;
  onward = λ d e n gone m was few p c f. record {
    plain = plays-then first size max most limits d e n gone m p.plain c f;
    regular = regular-then c d e was few f p.regular;
  };
  regular = λ d n gone m few p. p.regular.regular;
  room = λ d n gone m more few p. few;
  accounted = λ d n gone m few p. accounted first size max most limits p.plain.calls d p.plain.run;
}

module _ (first : ℕ) (others : Others first) where
  -- such a session, where the first one has come to this
  pub record Goes (t : Transmission) (s : Session) (n : ℕ) (gone : List ℕ) (m : Modes) : Type 0 where
    pub other : Session
    pub shadow : Shadows t s other
    pub plays : others.Plays other n gone m

  -- it begins beside one that is new
  pub goes-first : (reported : Reported) (size max most : ℕ) (limits : Option Limits) → others.Plays (at_start first size max most limits) 0 [] at_first
      → Goes (at_start_with reported first size max most limits).sending.sender (at_start_with reported first size max most limits) 0 [] at_first
  goes-first Drop size max most limits p = grind (arith, nat_tests, common_steps)
  goes-first Keep size max most limits p = grind (arith, nat_tests, common_steps)

  -- as many chunks are in flight there
  pub same-count : (t : Transmission) (s : Session) (n : ℕ) (gone : List ℕ) (m : Modes) (g : Goes t s n gone m)
      → length t.flight.queue.inflight.chunks ≡ count_in_flight g.other
  same-count t s n gone m g = grind (arith, nat_tests, common_steps, are-long)

  -- so what is asked here is asked there
  pub bound-there : (t : Transmission) (s : Session) (n : ℕ) (gone : List ℕ) (m : Modes) (g : Goes t s n gone m)
      → others.Bound n (length t.flight.queue.inflight.chunks) → others.Bound n (count_in_flight g.other)
  bound-there t s n gone m g b = subst (others.Bound n) (same-count t s n gone m g) b

  pub regular-of : (t : Transmission) (s : Session) (n : ℕ) (gone : List ℕ) (m : Modes) → others.Bound n (length t.flight.queue.inflight.chunks)
      → (g : Goes t s n gone m) → IsRegular g.other
  regular-of t s n gone m few g = others.regular g.other n gone m (bound-there t s n gone m g few) g.plays

  pub room-of : (t : Transmission) (s : Session) (n : ℕ) (gone : List ℕ) (m : Modes) (more : ℕ)
      → others.Bound (n + more) (length t.flight.queue.inflight.chunks + more) → (g : Goes t s n gone m)
      → length t.flight.queue.inflight.chunks + more < 2 ^ 31
  room-of t s n gone m more few g =
      let same = same-count t s n gone m g in
      subst (λ k. k + more < 2 ^ 31) (sym same)
      (others.room g.other n gone m more (subst (λ k. others.Bound (n + more) (k + more)) same few) g.plays)

  pub small-next : (t : Transmission) (s : Session) (n : ℕ) (gone : List ℕ) (m : Modes) → others.Bound n (length t.flight.queue.inflight.chunks)
      → (g : Goes t s n gone m) → t.flight.next_tsn < 2 ^ 32
  small-next t s n gone m few g =
      let i = regular-of t s n gone m few g in
      let is = i.numbered.next_is in
      let near = tsn-small g.other.sending.sender.flight.acked_tsn (count_in_flight g.other + 1) in
      let same : next_tsn g.other ≡ t.flight.next_tsn = ap (λ (u : Transmission). u.flight.next_tsn) g.shadow.sender in
      omega (arith, is, near, same)

  -- ## What the other session makes of a call

  module _ (t u : Transmission) (s v : Session) (n : ℕ) (gone : List ℕ) (m : Modes) (g : Goes t s n gone m) (call : SenderCall)
      (was : others.Bound n (length t.flight.queue.inflight.chunks))
      (few : others.Bound (n + distance t.flight.next_tsn u.flight.next_tsn) (length u.flight.queue.inflight.chunks))
      (received : v.receiving ≡ s.receiving) (reported : v.sacks ≡ s.sacks) (made : v.made ≡ made_after call t s.made)
      (wrote : v.written ≡ written_after call s.written) where
    abbrev pub After : Type 0
    After = Goes u v (n + distance t.flight.next_tsn u.flight.next_tsn) (gone ++ abandoned_by call t) (modes_after call m)

    -- a call like it
    pub calls-too : (c : SenderCall) (ls : List OutboundStream) (ds : List ChunkPayloadData)
        → SenderMakes c (as_plain t g.shadow.streams g.shadow.chunks) (as_plain u ls ds) → IsReported c g.other → AreAlike u.streams ls
        → AreLike (kept_of u.kept) u.flight.queue.inflight.chunks ds
        → ((ms : List Made) → made_after c (as_plain t g.shadow.streams g.shadow.chunks) ms ≡ made_after call t ms)
        → ((ws : List Write) → written_after c ws ≡ written_after call ws) → modes_after c m ≡ modes_after call m
        → abandoned_by c (as_plain t g.shadow.streams g.shadow.chunks) ≡ abandoned_by call t → After
    calls-too c ls ds makes handed alike like same-made same-written same-modes same-gone =
        let x = g.shadow in
        let d = g.other in
        let e = sender_after c d (as_plain u ls ds) in
        let f = sender-follows c d (as_plain u ls ds) (subst (λ y. SenderMakes c y (as_plain u ls ds)) (sym x.sender) makes) handed in
        let far : distance (next_tsn d) (next_tsn e) ≡ distance t.flight.next_tsn u.flight.next_tsn =
        ap (λ (y : Transmission). distance y.flight.next_tsn u.flight.next_tsn) x.sender in
        let few' : others.Bound (n + distance (next_tsn d) (next_tsn e)) (count_in_flight e) = grind (arith, nat_tests, common_steps, are-long) in
        let p = others.onward d e n gone m (bound-there t s n gone m g was) few' g.plays (of_sender c) f in
        let lost : gone_by (of_sender c) d ≡ abandoned_by call t = ap (abandoned_by c) x.sender ∙ same-gone in
        record {
          other = e;
          shadow = grind (arith, nat_tests, common_steps);
          plays = grind (arith, nat_tests, common_steps);
        }

    -- none
    pub stays-so : AreAlike u.streams t.streams → AreLike (kept_of u.kept) u.flight.queue.inflight.chunks g.shadow.chunks
        → as_plain u g.shadow.streams g.shadow.chunks ≡ as_plain t g.shadow.streams g.shadow.chunks → t.flight.next_tsn < 2 ^ 32
        → ((ms : List Made) → made_after call t ms ≡ ms) → ((ws : List Write) → written_after call ws ≡ ws) → modes_after call m ≡ m
        → abandoned_by call t ≡ [] → After
    stays-so alike like same near same-made same-written same-modes same-gone = grind (arith, nat_tests, common_steps, no-way)

  -- ## A call of the receiver

  -- a SACK more, which is no other one's
  there-more : (k : Sack) (ks ss : List Sack) → Every (IsThere ks) ss → Every (IsThere (k ∷ ks)) ss
  there-more k ks ss h = every-of (IsThere ks) (IsThere (k ∷ ks))
      (λ s i. record { itself = contains-more s k ks i.itself; bare = i.bare; other = contains-more i.bare k ks i.other; is-bare = i.is-bare }) ss h

  -- the SACK that it makes, behind the same without blocks
  there-new : (k b : Sack) (ks ss : List Sack) → IsBareSack k b → Every (IsThere ks) ss → Every (IsThere (k ∷ b ∷ ks)) (k ∷ ss)
  there-new k b ks ss bare h = grind (arith, there-more)

  there-after : (call : ReceiverCall) (r : _) (ks ss : List Sack) → Every (IsThere ks) ss
      → Every (IsThere (reports_after call r (sack_within 0 0 r ∷ ks))) (reports_after call r ss)
  there-after h0 h1 h2 h3 h4 = grind (arith, nat_tests, common_steps, there-new, there-more)

  -- the receiver makes the same, and before it a SACK without blocks
  pub receives-too : (call : ReceiverCall) (s v : Session) (n : ℕ) (gone : List ℕ) (m : Modes) → others.Bound n (count_in_flight s)
      → Goes s.sending.sender s n gone m → ReceiverFollows call s v → Goes v.sending.sender v n gone m
  receives-too call s v n gone m few g f =
      let x = g.shadow in
      let d = g.other in
      let r = d.receiving.receiver in
      let e : Session = record d { sacks = sack_within 0 0 r ∷ d.sacks } in
      let w : Session = record d {
        receiving = v.receiving;
        sacks = reports_after call r (sack_within 0 0 r ∷ d.sacks);
      } in
      let one : ReceiverFollows (incoming.makes_sack 0 0) d e =
      record { handed = tt; step = record { receiver = refl; accepted = refl; read = refl }; accepted = tt; after = refl } in
      let two : ReceiverFollows call e w = grind (arith, nat_tests, common_steps) in
      let near : next_tsn d < 2 ^ 32 =
      let same : next_tsn d ≡ s.sending.sender.flight.next_tsn = ap (λ (u : Transmission). u.flight.next_tsn) x.sender in
      let a = small-next s.sending.sender s n gone m few g in omega (arith, same, a) in
      let zero = no-way (next_tsn d) near in
      let was = bound-there s.sending.sender s n gone m g few in
      let once : others.Bound (n + distance (next_tsn d) (next_tsn e)) (count_in_flight e) =
      subst (λ k. others.Bound k (count_in_flight d)) {x = n} {y = n + distance (next_tsn d) (next_tsn e)} (omega (arith, zero)) was in
      let twice : others.Bound (n + distance (next_tsn d) (next_tsn e) + distance (next_tsn e) (next_tsn w)) (count_in_flight w) =
      grind (arith, nat_tests, common_steps) in
      let p = others.onward e w (n + distance (next_tsn d) (next_tsn e))
      (gone ++ []) m once twice (others.onward d e n gone m was once g.plays (of_receiver (incoming.makes_sack 0 0)) one)
      (of_receiver call) two in
      let still : v.sending ≡ s.sending = ap (λ (y : Session). y.sending) f.after in
      record {
        other = w;
        shadow = grind (arith, nat_tests, common_steps, there-after);
        plays = grind (arith, nat_tests, common_steps);
      }
