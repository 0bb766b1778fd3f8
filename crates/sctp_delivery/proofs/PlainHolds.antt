-- A session of a sender that keeps what is reported holds what the session beside it does: what got TSNs, and how all that waits follows on.
use Rattle.sctp_delivery.proofs.Names.{arith, nat_tests, common_steps, ◌≡◌, ℕ, ◌<◌, ◌^◌, Bool, List, [], ◌∷◌, map, refl, ap, sym, subst, if◌then◌else◌, ◌==◌}
use Rattle.sctp_delivery.proofs.Names.{◌||◌, Option, list_any, ChunkPayloadData, OutboundStream, Limits, Transmission, Session, Modes, is_of}
use Rattle.sctp_delivery.proofs.AmountLaws.{HasMade, made-in}
use Rattle.sctp_delivery.proofs.Cases.{all_streams}
use Rattle.sctp_delivery.proofs.Every.{every-all}
use Rattle.sctp_delivery.proofs.InFlight.{IsKnownOn}
use Rattle.sctp_delivery.proofs.Numbers.{AreSized, IsSteady, all-open, count_of, is_there, number_of}
use Rattle.sctp_delivery.proofs.Plain.{AreLike, IsLike, any-plain, are-plain, paired}
use Rattle.sctp_delivery.proofs.PlainSessions.{Goes, as_plain, kept_of, plain}
use Rattle.sctp_delivery.proofs.PlainStreams.{AreAlike, bare}
use Rattle.sctp_delivery.proofs.Senders.{IsHeld, IsHeldOn, renumbered}
use Rattle.sctp_delivery.proofs.Sent.{Entry, Numbered}

-- ## Streams that are alike

numbers-bare : (s : ℕ) (ls : List OutboundStream) → number_of s (map bare ls) ≡ number_of s ls
numbers-bare s [] = refl
numbers-bare s (l ∷ ls) = ap (λ n. if l.stream_identifier == s then l.sequence_number else n) (numbers-bare s ls)

there-bare : (s : ℕ) (ls : List OutboundStream) → is_there s (map bare ls) ≡ is_there s ls
there-bare s [] = refl
there-bare s (l ∷ ls) = ap (λ b. (l.stream_identifier == s) || b) (there-bare s ls)

counts-bare : (s : ℕ) (ls : List OutboundStream) → count_of s (map bare ls) ≡ count_of s ls
counts-bare s [] = refl
counts-bare s (l ∷ ls) = grind (arith, nat_tests, common_steps, counts-bare s ls)

sized-alike : (ls ms : List OutboundStream) → AreAlike ms ls → AreSized ls → AreSized ms
sized-alike ls [] e z = tt
sized-alike [] (m ∷ ms) e z = absurd (cc)
sized-alike (l ∷ ls) (m ∷ ms) e z =
    let one : bare m ≡ bare l = cc in
    let rest : AreAlike ms ls = cc in
    (subst (λ (x : OutboundStream). 0 < x.max_payload_size) (sym one) z.0, sized-alike ls ms rest z.1)

pub steady-alike : (ls ms : List OutboundStream) → AreAlike ms ls → IsSteady ls ms
steady-alike ls ms e = grind (arith, nat_tests, common_steps, numbers-bare, there-bare, sized-alike, counts-bare)

-- ## One session

pub known-like : (on : ℕ → Bool) (first : ℕ) (sent : List Entry) (k : Option (List ℕ)) (c d : ChunkPayloadData) → IsLike k c d → Unit {0}
    → IsKnownOn on first sent d → IsKnownOn on first sent c
known-like on first sent k c d i h6 h = grind (arith, nat_tests, common_steps)

-- a sender whose streams and chunks in flight are alike those of one that keeps nothing holds what that one does
pub held-like : (on : ℕ → Bool) (first : ℕ) (t : Transmission) (ls : List OutboundStream) (ds : List ChunkPayloadData) (ns : List Numbered)
    (sent : List Entry) → AreAlike t.streams ls → AreLike (kept_of t.kept) t.flight.queue.inflight.chunks ds → IsHeldOn on ns first (as_plain t ls ds) sent
    → IsHeldOn on ns first t sent
held-like on first t ls ds ns sent alike like h =
    let ks = kept_of t.kept in
    let cs = t.flight.queue.inflight.chunks in
    let steady = steady-alike ls t.streams alike in
    let st = renumbered on ns first (λ r. number_of r ls) (λ r. number_of r t.streams) _ t.flight.next_tsn sent (λ r _. steady.numbers r) h.stands in
    let any : (k : ℕ) → list_any (is_of k) cs ≡ list_any (is_of k) ds = λ k. any-plain (is_of k) (λ c. refl) cs ds (are-plain ks cs ds like) in
    record {
      stands = record {
        queued = st.queued;
        sendable = grind (arith, nat_tests, common_steps);
        known = paired (λ c. Unit {0}) (IsKnownOn on first sent) (IsKnownOn on first sent) (known-like on first sent) ks cs ds like
            (every-all (λ c. Unit {0}) (λ c. tt) cs) st.known;
        counted = st.counted;
        begun' = st.begun';
        ids = st.ids;
      };
      open' = all-open on ls t.streams (λ r _. steady.there r) ns h.open';
      sized = steady.sized h.sized;
      apart = steady.apart h.apart;
      size = h.size;
    }

module _ (first size max most : ℕ) (limits : Option Limits) (small : first < 2 ^ 32) (some : 0 < size) (s : Session) (n : ℕ) (gone : List ℕ) (m : Modes)
    (g : Goes first (plain first size max most limits) s.sending.sender s n gone m) where
  there : HasMade first g.other
  there = made-in first size max most limits g.plays.plain.calls g.other small some g.plays.plain.run

  abbrev t : Transmission
  t = s.sending.sender

  held : IsHeld there.numbered first s.sending.sender there.sent
  held =
      held-like all_streams first t g.shadow.streams g.shadow.chunks there.numbered there.sent g.shadow.alike g.shadow.like
      (subst (λ u. IsHeld there.numbered first u there.sent) g.shadow.sender there.holds.held)

  -- it has made what got TSNs, too
  pub has-made : HasMade first s
  has-made = grind (arith, nat_tests, common_steps, held)
