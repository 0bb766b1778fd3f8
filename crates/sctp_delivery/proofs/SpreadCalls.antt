-- In each session of few TSNs: how many more ordered messages of a stream were begun than up to the place acknowledged, and what each
-- FORWARD-TSN names.
use Rattle.sctp_delivery.proofs.Names.{common_steps, ◌≡◌, ℕ, ◌+◌, ◌-◌, ◌%◌, ◌^◌, ◌<◌, ◌≤◌, Bool, false, List, [], ◌∷◌, length, Option, Some, None, refl, ap}
use Rattle.sctp_delivery.proofs.Names.{sym, subst, ◌∙◌, arith, none-some, nat_tests, distance, negated, same-is, both, tsn, ChunkPayloadData, data_of, Limits}
use Rattle.sctp_delivery.proofs.Names.{Flight, is_too_far, past_number, send_refusal, Transmission, ReceiverCall, IsAccepted, SenderCall, made_after}
use Rattle.sctp_delivery.proofs.Names.{next_chunk, ReceiverFollows, SenderFollows, Session, at_start, true, Ledger}
use Rattle.sctp_sender.proofs.Sent.{as-noted, none-noted}
use Rattle.sctp_delivery.specs.SenderCalls as outgoing
use Rattle.sctp_delivery.proofs.Calls.{numbered_after, sent_by}
use Rattle.sctp_delivery.proofs.Delivered as delivered
use Rattle.sctp_delivery.proofs.Cases.{all_streams, where-is}
use Rattle.sctp_delivery.proofs.Delivered.{HoldsOn, next_tsn}
use Rattle.sctp_delivery.proofs.Every.{Every, every-of}
use Rattle.sctp_delivery.proofs.OrderedEntries.{AreIndexedOn, IsIndexed, begins_on, begun_on}
use Rattle.sctp_delivery.proofs.GivenTsns.{passable-end, passable-skip}
use Rattle.sctp_delivery.proofs.Queues.{IsEnded, IsOnceMore}
use Rattle.sctp_delivery.proofs.SackLaws as sacks
use Rattle.sctp_delivery.proofs.SackLaws.{IsInStepBut}
use Rattle.sctp_delivery.proofs.SackSteps.{known_or, moves, none_dropped}
use Rattle.sctp_delivery.proofs.Senders.{IsMoreBy}
use Rattle.sctp_delivery.proofs.Sent.{Entry, Numbered, fragment}
use Rattle.sctp_delivery.proofs.SpreadEntries.{begun_to, to-all, to-more, to-up}
use Rattle.sctp_delivery.proofs.SpreadFlight.{AreOn, AreSteps, IsMadeNaming, are-on, are-steps, named, naming-later, near-next}
use Rattle.sctp_delivery.proofs.TsnPlaces.{base, same-place}

-- at most 2^14 ordered messages of the stream more were begun than up to the place a
abbrev pub IsNear : ℕ → ℕ → List Entry → Type 0
IsNear st a sent = begun_on st sent ≤ begun_to st a sent + 2 ^ 14

-- after n TSNs, with an entry for each: on these streams few are begun past the place acknowledged, and each FORWARD-TSN names the last
-- begun up to it
pub record IsSpreadOn (on dropped : ℕ → Bool) (first n : ℕ) (s : Session) (ns : List Numbered) (sent : List Entry) : Type 0 where
  pub holds : HoldsOn on first s ns sent
  pub step : IsInStepBut dropped (base first) n s
  pub long : length sent ≡ n
  pub near : (st : ℕ) → on st ≡ true → IsNear st step.numbered.acked sent
  pub names : (st : ℕ) → on st ≡ true → Every (IsMadeNaming st (base first) step.numbered.acked sent) s.made

abbrev pub IsSpread : (first n : ℕ) (s : Session) (ns : List Numbered) (sent : List Entry) → Type 0
IsSpread first n s ns sent = IsSpreadOn all_streams none_dropped first n s ns sent

-- ## What is sent

same-past : (o : Option ChunkPayloadData) (c d : ChunkPayloadData) → d.stream_sequence_number ≡ c.stream_sequence_number
    → past_number o d ≡ past_number o c
same-past None c d e = refl
same-past (Some x) c d e = ap (λ k. (k + (2 ^ 16 - x.stream_sequence_number)) % 2 ^ 16) e

-- it is not too far, as what was found in front was not
pub not-far : (t : Transmission) (now : ℕ) (c : ChunkPayloadData) → Some c ≡ next_chunk now t → send_refusal t.flight ≡ None → is_too_far t.flight c ≡ false
not-far t now c is none = grind (arith, nat_tests, as-noted, none-noted, none-some, same-past)

pub calm-near : (st a : ℕ) (sent more : List Entry) → a ≤ length sent → IsEnded sent more → IsNear st a sent → IsNear st a more
calm-near h0 h1 h2 h3 h4 h5 h6 = grind (arith, nat_tests, common_steps)

pub sent-near : (st a n : ℕ) (sent : List Entry) (f : Flight) (c : ChunkPayloadData) (w : Numbered) (after : List ℕ) → a ≤ length sent → length sent ≡ n
    → a + length f.queue.inflight.chunks ≡ n → AreSteps st sent a f.queue.inflight.chunks
    → (c.stream_identifier ≡ st → IsIndexed (data_of c) sent) → is_too_far f c ≡ false → IsNear st a sent
    → IsNear st a (fragment (data_of c) w after ∷ sent)
sent-near st a n sent f c w after within long total steps index far near = by (begins_on st (data_of c)) refl
  where
    same : begun_to st a (fragment (data_of c) w after ∷ sent) ≡ begun_to st a sent
    same = to-more st a (fragment (data_of c) w after) sent within

    all : begun_to st n sent ≡ begun_on st sent
    all = to-all st n sent (omega (arith, long))

    by : (b : Bool) → begins_on st (data_of c) ≡ b → IsNear st a (fragment (data_of c) w after ∷ sent)
    by b h2 = grind (arith, nat_tests, all, both, near-next, negated, same, same-is, steps)

-- ## A call of the sender

module _ (on dropped : ℕ → Bool) (first n : ℕ) (old : Session) (ns : List Numbered) (sent : List Entry) (i : IsSpreadOn on dropped first n old ns sent)
    (small : n < 2 ^ 31) (st : ℕ) (o : on st ≡ true) where
  steps : AreSteps st sent i.step.numbered.acked old.sending.sender.flight.queue.inflight.chunks
  steps = grind (arith, nat_tests, common_steps, are-steps)

  there : AreOn st sent i.step.numbered.acked old.sending.sender.flight.queue.inflight.chunks
  there = grind (arith, nat_tests, common_steps, are-on)

  within : i.step.numbered.acked ≤ length sent
  within = let total = i.step.numbered.total in let long = i.long in omega (arith, total, long)

  near-after : (call : SenderCall) (more : List Entry) → IsMoreBy (sent_by call old.sending.sender) sent more → IsAccepted call old.sending.sender
      → AreIndexedOn on more → IsNear st i.step.numbered.acked more
  near-after (outgoing.sends now) more grown accepted indexed = by (next_chunk now old.sending.sender) refl grown
    where
      by : (o' : Option ChunkPayloadData) → o' ≡ next_chunk now old.sending.sender → IsMoreBy o' sent more → IsNear st i.step.numbered.acked more
      by None is g = calm-near st i.step.numbered.acked sent more within g (i.near st o)
      by (Some c) is g =
          subst (IsNear st i.step.numbered.acked) (sym g.2)
          (sent-near st i.step.numbered.acked n sent old.sending.sender.flight c g.0 g.1 within i.long i.step.numbered.total steps
          (λ same. where-is (on c.stream_identifier) (IsIndexed (data_of c) sent) (ap on same ∙ o) (subst (AreIndexedOn on) g.2 indexed).0)
          (not-far old.sending.sender now c is accepted) (i.near st o))
  near-after call more grown accepted indexed = calm-near st i.step.numbered.acked sent more within grown (i.near st o)

  names-after : (call : SenderCall) → IsAccepted call old.sending.sender
      → Every (IsMadeNaming st (base first) i.step.numbered.acked sent) (made_after call old.sending.sender old.made)
  names-after (outgoing.sends now) accepted = grind (arith, nat_tests, common_steps)
  names-after (outgoing.resends u now c) accepted = (tt, i.names st o)
  names-after (outgoing.forwards u g) accepted = (
    named st (base first) n sent old.sending.sender.flight i.step.numbered small i.long steps there g
        (passable-skip (base first) n old.sending.sender.flight i.step.numbered small u g.new_cumulative_tsn accepted.0) accepted.1,
    i.names st o,
  )
  names-after (outgoing.forwards_within bytes g) accepted = (
    named st (base first) n sent old.sending.sender.flight i.step.numbered small i.long steps there g
        (passable-end (base first) n old.sending.sender.flight i.step.numbered small g.new_cumulative_tsn accepted.0 accepted.1) accepted.2,
    i.names st o,
  )
  names-after call accepted = i.names st o

-- what it is after the call: as many entries, or one more, and no lower place is acknowledged
pub record SpreadsOn (on dropped : ℕ → Bool) (first n : ℕ) (call : SenderCall) (old new : Session) (ns : List Numbered) (sent : List Entry)
    (i : IsSpreadOn on dropped first n old ns sent) : Type 0 where
  pub more : List Entry
  pub spread : IsSpreadOn on dropped first (n + distance (next_tsn old) (next_tsn new)) new (numbered_after call ns) more
  pub once : IsOnceMore sent more
  pub grown : IsMoreBy (sent_by call old.sending.sender) sent more
  pub rises : i.step.numbered.acked ≤ spread.step.numbered.acked

abbrev pub Spreads : (first n : ℕ) (call : SenderCall) (old new : Session) (ns : List Numbered) (sent : List Entry) → IsSpread first n old ns sent → Type 0
Spreads first n call old new ns sent i = SpreadsOn all_streams none_dropped first n call old new ns sent i

pub sender-spreads-on : (on dropped : ℕ → Bool) (first n : ℕ) (call : SenderCall) (old new : Session) (ns : List Numbered) (sent : List Entry)
    (i : IsSpreadOn on dropped first n old ns sent) → n + distance (next_tsn old) (next_tsn new) < 2 ^ 31 → SenderFollows call old new
    → SpreadsOn on dropped first n call old new ns sent i
sender-spreads-on on dropped first n call old new ns sent i few f =
    let small : n < 2 ^ 31 = omega (arith, few) in
    let x = delivered.sender-step-on on first call old new ns sent f i.holds in
    let step = sacks.sender-step-but dropped (base first) n old new call few f i.step in
    let a = i.step.numbered.acked in
    let b = step.numbered.acked in
    let total = i.step.numbered.total in
    let long = i.long in
    let within : a ≤ length sent = omega (arith, total, long) in
    let r =
    (moves (base first) n (known_or dropped old) old new small i.step.numbered call i.step.sacks f).rises a i.step.numbered.acked_is (omega (arith, total)) in
    let most = step.numbered.total in
    let from = r.1 in
    let upto = r.2 in
    let same : b ≡ r.0 = same-place (base first) b r.0 (omega (arith, most, few)) (omega (arith, upto, small)) (sym step.numbered.acked_is ∙ r.3) in
    let rises : a ≤ b = omega (arith, same, from) in
    record {
      more = x.more;
      spread = record {
        holds = x.holds;
        step = step;
        long = grind (arith, nat_tests, common_steps);
        near = λ st o.
            let near = near-after on dropped first n old ns sent i small st o call x.more x.grown f.accepted x.holds.held.stands.queued.indexed in
            let up = to-up st a b x.more rises in
            omega (arith, near, up);
        names = λ st o.
            subst (Every (IsMadeNaming st (base first) b x.more)) (sym (ap (λ (s : Session). s.made) f.after))
            (every-of (IsMadeNaming st (base first) a sent) (IsMadeNaming st (base first) b x.more)
            (naming-later st (base first) a b sent x.more rises within x.once) (made_after call old.sending.sender old.made)
            (names-after on dropped first n old ns sent i small st o call f.accepted));
      };
      once = x.once;
      grown = x.grown;
      rises = rises;
    }

pub sender-spreads : (first n : ℕ) (call : SenderCall) (old new : Session) (ns : List Numbered) (sent : List Entry) (i : IsSpread first n old ns sent)
    → n + distance (next_tsn old) (next_tsn new) < 2 ^ 31 → SenderFollows call old new → Spreads first n call old new ns sent i
sender-spreads first n call old new ns sent i few f = sender-spreads-on all_streams none_dropped first n call old new ns sent i few f

-- ## A call of the receiver

-- where the sender stays as it is
pub beside-spreads : (on dropped : ℕ → Bool) (first n : ℕ) (old new : Session) (ns : List Numbered) (sent : List Entry) → n < 2 ^ 31
    → new.sending ≡ old.sending → new.made ≡ old.made → new.written ≡ old.written → IsInStepBut dropped (base first) n new
    → IsSpreadOn on dropped first n old ns sent → IsSpreadOn on dropped first n new ns sent
beside-spreads on dropped first n old new ns sent small sending made written step i =
    let acked_same = ap (λ (l : Ledger). l.sender.flight.acked_tsn) sending in
    let total = i.step.numbered.total in
    let most = step.numbered.total in
    let same : i.step.numbered.acked ≡ step.numbered.acked = grind (arith, nat_tests, common_steps) in
    record {
      holds = delivered.beside-on on first old new ns sent sending made written i.holds;
      step = step;
      long = i.long;
      near = λ st o. subst (λ a. IsNear st a sent) same (i.near st o);
      names = λ st o.
          subst (Every (IsMadeNaming st (base first) step.numbered.acked sent)) (sym made)
          (subst (λ a. Every (IsMadeNaming st (base first) a sent) old.made) same (i.names st o));
    }

pub receiver-spreads-on : (on dropped : ℕ → Bool) (first n : ℕ) (call : ReceiverCall) (old new : Session) (ns : List Numbered) (sent : List Entry)
    → n < 2 ^ 31 → ReceiverFollows call old new → IsSpreadOn on dropped first n old ns sent → IsSpreadOn on dropped first n new ns sent
receiver-spreads-on on dropped first n call old new ns sent small f i =
    beside-spreads on dropped first n old new ns sent small (ap (λ (s : Session). s.sending) f.after) (ap (λ (s : Session). s.made) f.after)
    (ap (λ (s : Session). s.written) f.after) (sacks.receiver-step-but dropped (base first) n call old new small f i.step) i

pub receiver-spreads : (first n : ℕ) (call : ReceiverCall) (old new : Session) (ns : List Numbered) (sent : List Entry) → n < 2 ^ 31
    → ReceiverFollows call old new → IsSpread first n old ns sent → IsSpread first n new ns sent
receiver-spreads first n call old new ns sent small f i = receiver-spreads-on all_streams none_dropped first n call old new ns sent small f i

-- ## Every session

pub spread-first-on : (on dropped : ℕ → Bool) (tsn size max most : ℕ) (limits : Option Limits) → tsn < 2 ^ 32 → 0 < size
    → IsSpreadOn on dropped tsn 0 (at_start tsn size max most limits) [] []
spread-first-on on dropped tsn size max most limits small some = record {
  holds = record { held = delivered.held-first on tsn size max most limits small some; made = tt; writes = refl; placed = tt };
  step = sacks.begin-but dropped tsn size max most limits small;
  long = refl;
  near = λ st o. omega arith;
  names = λ st o. tt;
}
