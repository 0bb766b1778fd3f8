-- Stream sequence numbers are numbers of 16 bits, in every reliable session: those of the streams, of what waits, of what is in flight,
-- and of each DATA chunk that was made.
use Rattle.sctp_delivery.proofs.Names.{common_steps, nat_tests, ◌≡◌, ℕ, ◌^◌, ◌<◌, true, false, List, [], ◌∷◌, length, Some, refl, sym, subst, arith, ⊤, ◌&&◌}
use Rattle.sctp_delivery.proofs.Names.{nat_lt, change_where, not_both, ChunkPayloadData, PayloadProtocolIdentifier, is_ordered, Outbound, all_started}
use Rattle.sctp_delivery.proofs.Names.{next_pending, OutboundStream, Released, released_by, after_releases, fragments_with_mode, has_number, less_by, with_size}
use Rattle.sctp_delivery.proofs.Names.{wrote, Transmission, Makes, is_reliable_at_sender, IsAccepted, Made, MakesExactly, SenderCall, as_run, data_chunk}
use Rattle.sctp_delivery.proofs.Names.{forward_tsn, made_after}
use Rattle.sctp_delivery.specs.SenderCalls as outgoing
use Rattle.sctp_delivery.proofs.Cases.{at-if}
use Rattle.sctp_delivery.proofs.Every.{Every, every-changed, every-found, every-joined, every-mapped}
use Rattle.sctp_delivery.proofs.QueueChunks.{EachIs, each-fragment, peeked, pushed, started}
use Rattle.sctp_delivery.proofs.Writing.{accepted-stream}
use Rattle.sctp_delivery.proofs.Changes.{Keeps, each-call, is_write}

-- the number is one of 16 bits
abbrev pub IsShort : ChunkPayloadData → Type 0
IsShort c = c.stream_sequence_number < 2 ^ 16

abbrev pub IsShortOn : OutboundStream → Type 0
IsShortOn l = l.sequence_number < 2 ^ 16

abbrev pub IsShortMade : Made → Type 0
IsShortMade (data_chunk d) = d.stream_sequence_number < 2 ^ 16
IsShortMade (forward_tsn f) = ⊤

abbrev pub ShortQueue : Outbound → Type 0
ShortQueue q = EachIs IsShort IsShort q

pub record AreShort (t : Transmission) : Type 0 where
  pub streams : Every IsShortOn t.streams
  pub queue : ShortQueue t.flight.queue

started-short : (now : ℕ) (q : Outbound) → ShortQueue q → ShortQueue (all_started now q)
started-short now q s = started IsShort IsShort now (λ c i. i) q s

-- what is sent next
pub next-short : (now : ℕ) (q : Outbound) (c : ChunkPayloadData) → next_pending (all_started now q).pending ≡ Some c → EachIs IsShort IsShort q → IsShort c
next-short now q c e s =
    let r = started-short now q s in
    peeked IsShort (all_started now q).pending.selected (all_started now q).pending c e (r.ordered, r.unordered)

-- ## A write

wrote-short : (ppi : PayloadProtocolIdentifier) (bytes : List ℕ) (l : OutboundStream) → IsShortOn l → IsShortOn (wrote ppi bytes l)
wrote-short ppi bytes l s = at-if (λ z. z < 2 ^ 16) (is_ordered l.unordered ppi && nat_lt 0 (length bytes)) (λ e. omega arith) (λ e. s)

releases-short : (rs : List Released) (ls : List OutboundStream) → Every IsShortOn ls → Every IsShortOn (after_releases rs ls)
releases-short [] ls s = s
releases-short (r ∷ rs) ls s = releases-short rs (change_where (has_number r.stream) (less_by r.bytes) ls)
    (every-changed IsShortOn (has_number r.stream) (less_by r.bytes) (λ l h e. e) ls s)

-- ## The calls

module _ (t u : Transmission) (s : AreShort t) where
  keeps : Keeps IsShort IsShort t
  keeps = grind (arith, nat_tests, common_steps)

  -- by a call that writes nothing, where the streams are so
  unwritten : (call : SenderCall) → is_write call ≡ false → Makes (as_run call) t u → MakesExactly call t u → (v : Transmission) → u ≡ v
      → Every IsShortOn v.streams → AreShort u
  unwritten call o m x v e k = grind (arith, nat_tests, common_steps, each-call, keeps)

  pub stays-short : (call : SenderCall) → is_reliable_at_sender call ≡ true → Makes (as_run call) t u → MakesExactly call t u → IsAccepted call t → AreShort u
  stays-short (outgoing.opens stream) r m x a =
      unwritten (outgoing.opens stream) refl m x _ m (every-joined IsShortOn t.streams _ s.streams (omega arith, tt))
  stays-short (outgoing.sets_mode stream unordered reliability value) r m x a = grind (arith, nat_tests, common_steps, unwritten, every-changed)
  stays-short (outgoing.sets_low stream bytes) r m x a = grind (arith, nat_tests, common_steps, unwritten, every-changed)
  stays-short (outgoing.sets_size size) r m x a =
      unwritten (outgoing.sets_size size) refl m x _ m (every-mapped IsShortOn IsShortOn (with_size size) (λ l h. h) t.streams s.streams)
  stays-short (outgoing.writes stream ppi []) r m x a = subst AreShort (sym (x.0 refl)) s
  stays-short (outgoing.writes stream ppi (b ∷ bs)) r m x a =
      let l = accepted-stream stream (length (b ∷ bs)) t a in
      subst AreShort (sym (x.1 (omega arith) l.0 l.1))
      (record {
        streams = every-changed IsShortOn (has_number stream) (wrote ppi (b ∷ bs)) (λ k h e. wrote-short ppi (b ∷ bs) k e) t.streams s.streams;
        queue =
            let h = every-found IsShortOn (has_number stream) t.streams l.0 l.1 s.streams in
            pushed IsShort IsShort IsShort IsShort (λ c i. i) (λ c i. i) (fragments_with_mode l.0 ppi (b ∷ bs)) t.flight.queue
            (each-fragment IsShort l.0 ppi (b ∷ bs) (λ _. h)) s.queue;
      })
  stays-short (outgoing.starts now) r m x a = unwritten (outgoing.starts now) refl m x _ m s.streams
  stays-short (outgoing.reserves more) r m x a = unwritten (outgoing.reserves more) refl m x _ m s.streams
  stays-short (outgoing.sends now) r m x a = unwritten (outgoing.sends now) refl m x _ x s.streams
  stays-short (outgoing.resends tsn now c) r m x a = unwritten (outgoing.resends tsn now c) refl m x _ m s.streams
  stays-short outgoing.marks r m x a = unwritten outgoing.marks refl m x _ m s.streams
  stays-short (outgoing.misses count) r m x a = unwritten (outgoing.misses count) refl m x _ m s.streams
  stays-short (outgoing.takes_sack k gone) r m x a =
      unwritten (outgoing.takes_sack k gone) refl m x _ x (releases-short (released_by k t.flight) t.streams s.streams)
  stays-short call r m x a = absurd (not_both r)

pub made-short : (call : SenderCall) (t : Transmission) (ms : List Made) → is_reliable_at_sender call ≡ true → IsAccepted call t → AreShort t
    → Every IsShortMade ms → Every IsShortMade (made_after call t ms)
made-short h0 h1 h2 h3 h4 h5 h6 = grind (arith, nat_tests, common_steps, next-short, every-found, not_both)
