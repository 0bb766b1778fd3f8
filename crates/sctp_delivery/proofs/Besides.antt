-- Sessions that can end: beside each one is one of a sender that keeps what is reported, which ends by the same calls.
use Rattle.sctp_delivery.proofs.Names.{nat_tests, common_steps, ◌≡◌, ℕ, ◌<◌, ◌≤◌, ◌+◌, ◌^◌, true, false, List, ◌∷◌, length, refl, ap, ap₂, sym, subst, ◌∙◌}
use Rattle.sctp_delivery.proofs.Names.{arith, Option, Some, None, option_map, ◌||◌, find, list_all, list_any, Contains, change_where, and, not_both, none-some}
use Rattle.sctp_delivery.proofs.Names.{some-same, ChunkPayloadData, ForwardTsn, Sack, Flight, Transmission, Stand, Session, SenderFollows, ReceiverFollows}
use Rattle.sctp_delivery.proofs.Names.{Follows, Call, of_receiver, of_sender, ReceiverCall, sends, resends, forwards, takes_sack, data_chunk, forward_tsn}
use Rattle.sctp_delivery.proofs.Names.{made_after, Outbound, reports_after, data_of, has_tsn, bytes_written, held_by_sender, total_bytes, with_inflight}
use Rattle.sctp_delivery.proofs.Names.{all_started, next_pending, sent_next, started-inflight, next_after_send, with_flight, count_again, sent_again, resent_at}
use Rattle.sctp_delivery.proofs.Names.{skip_end, named_up_to, is_outdated, sack_refusal, after_sack, after_acked, released_by, with_lows, distance}
use Rattle.sctp_delivery.proofs.Names.{accepted_after, is_exhausted, EachOtherIsReadOnce, chunks_waiting}
use Rattle.sctp_sender.specs.Abandonment.{Name}
use Rattle.sctp_sender.specs.declared.sender.flight.Released.{Released}
use Rattle.sctp_sender.specs.declared.sender.flight.kept.TakenBack.{TakenBack}
use Rattle.sctp_sender.specs.Sender.{taken_back_by}
use Rattle.sctp_sender.specs.Totals.{bytes_in}
use Rattle.sctp_sender.proofs.Lows.{released-same}
use Rattle.sctp_sender.proofs.Settled.{sack-bytes}
use Rattle.sctp_receiver.specs.Receiver.{sack_within}
use Rattle.sctp_delivery.specs.Ending.{is_delivery}
use Rattle.sctp_delivery.specs.ReceiverCalls as incoming
use Rattle.sctp_delivery.specs.ReceiverCalls.{makes_sack}
use Rattle.sctp_delivery.specs.ReturnEndings.{AreAckedAfter, taken_by}
use Rattle.sctp_delivery.specs.Returns.{CallOrReturn, RunsWithReturns, TakesBack, after_return, makes, other_calls, takes_back, tsns_given_so}
use Rattle.sctp_delivery.proofs.Cases.{at-if}
use Rattle.sctp_delivery.proofs.Delivered.{next_tsn}
use Rattle.sctp_delivery.proofs.Every.{Every, every-all, every-changed, every-found, every-of}
use Rattle.sctp_delivery.proofs.GivenTsns.{IsNumbered}
use Rattle.sctp_delivery.proofs.Plain.{AreLike, IsBareSack, IsLike, are-changed, are-long, are-plain, found-plain, paired, plain}
use Rattle.sctp_delivery.proofs.PlainCalls.{in-place, kept-sacked, sent-bytes}
use Rattle.sctp_delivery.proofs.PlainFlights.{are-sacked, are-sent, chunks_of, flight_with, named-both, refusal-same, sack-same, send-same, settled-kept}
use Rattle.sctp_delivery.proofs.PlainFlights.{skip-same, started-same}
use Rattle.sctp_delivery.proofs.PlainReturns.{back-fits, back-like, back-more}
use Rattle.sctp_delivery.proofs.PlainSessions.{kept_of}
use Rattle.sctp_delivery.proofs.QueueChunks.{EachIs}
use Rattle.sctp_delivery.proofs.QueueChunks as queues
use Rattle.sctp_delivery.proofs.SackLaws.{IsInStep}
use Rattle.sctp_delivery.proofs.ValidMarks.{IsUnmarked}

-- ## Beside a session

abbrev flying : Session → List ChunkPayloadData
flying s = s.sending.sender.flight.queue.inflight.chunks

-- a chunk that is acknowledged was taken, or its message is abandoned
abbrev pub IsCame : List ChunkPayloadData → ChunkPayloadData → Type 0
IsCame accepted c = c.acked ≡ true → (list_any (has_tsn c.tsn) accepted || c.abandoned) ≡ true

-- the sender of the second keeps what is reported; the first is as that would be if no gap ack block were taken
pub record IsBeside (s k : Session) : Type 0 where
  pub flight : s.sending.sender.flight ≡ flight_with k.sending.sender.flight s.sending.sender.flight.queue.inflight.chunks
  pub like : AreLike (kept_of k.sending.sender.kept) k.sending.sender.flight.queue.inflight.chunks s.sending.sender.flight.queue.inflight.chunks
  pub receiving : s.receiving ≡ k.receiving
  pub made : s.made ≡ k.made
  pub written : s.written ≡ k.written
  pub came : Every (IsCame s.receiving.accepted) k.sending.sender.flight.queue.inflight.chunks
  pub short : bytes_written s < 2 ^ 64

module _ (now : ℕ) (gone : List ℕ) (sacks made' : ℕ) where
  -- calls of delivery lead from the second to the end
  pub record EndsSo (s k : Session) : Type 0 where
    pub calls : List CallOrReturn
    pub ended : Session
    pub run : RunsWithReturns k calls ended
    pub delivery : list_all (is_delivery now) (other_calls calls) ≡ true
    pub acked : AreAckedAfter None calls
    pub given : tsns_given_so k calls ended run ≡ chunks_waiting s.sending.sender
    pub written : ended.written ≡ k.written
    pub few-sacks : length ended.sacks + length s.sacks ≤ length k.sacks + sacks
    pub few-made : length ended.made ≤ made'
    pub exhausted : is_exhausted ended.sending.sender ended.receiving.receiver ≡ true
    pub read : EachOtherIsReadOnce gone ended

  -- so does each one beside the session
  abbrev pub EachEnds : Session → Type 0
  EachEnds s = (k : Session) → IsBeside s k → EndsSo s k

  -- ## The end

  pub ends-here : (s : Session) → is_exhausted s.sending.sender s.receiving.receiver ≡ true → EachOtherIsReadOnce gone s → chunks_waiting s.sending.sender ≡ 0
      → length s.sacks ≤ sacks → length s.made ≤ made' → EachEnds s
  ends-here s exhausted read waiting few few-made k x = grind (arith, nat_tests, common_steps, are-long)

  -- ## A call in front

  one-before : (call : Call) (s t k v : Session) → Follows call k v → is_delivery now call ≡ true → taken_by call ≡ None
      → distance (next_tsn k) (next_tsn v) + chunks_waiting t.sending.sender ≡ chunks_waiting s.sending.sender → v.written ≡ k.written
      → length v.sacks + length s.sacks ≡ length k.sacks + length t.sacks → EndsSo t v → EndsSo s k
  one-before call s t k v f d none waiting written same e = record {
    calls = makes call ∷ e.calls;
    ended = e.ended;
    run = (v, (f, e.run));
    delivery = and (is_delivery now call) (list_all (is_delivery now) (other_calls e.calls)) d e.delivery;
    acked = (none, e.acked);
    given = let g = e.given in omega (arith, g, waiting);
    written = e.written ∙ written;
    few-sacks = let l = e.few-sacks in omega (arith, l, same);
    few-made = e.few-made;
    exhausted = e.exhausted;
    read = e.read;
  }

  -- a SACK, and what it takes back
  acked-before : (sack : Sack) (back : List TakenBack) (left : List Released) (s t k r v : Session) → TakesBack sack back k r
      → SenderFollows (takes_sack sack left) r v → distance (next_tsn k) (next_tsn k) ≡ 0 → next_tsn v ≡ next_tsn r
      → chunks_waiting t.sending.sender ≡ chunks_waiting s.sending.sender → length t.sacks ≡ length s.sacks → EndsSo t v → EndsSo s k
  acked-before sack back left s t k r v f h zero' next waiting same e = record {
    calls = takes_back sack back ∷ makes (of_sender (takes_sack sack left)) ∷ e.calls;
    ended = e.ended;
    run = (r, (f, (v, (h, e.run))));
    delivery = e.delivery;
    acked = (refl, (refl, e.acked));
    given = grind (arith, nat_tests, common_steps);
    written = e.written ∙ ap (λ (y : Session). y.written) h.after ∙ ap (λ (y : Session). y.written) f.after;
    few-sacks = grind (arith, nat_tests, common_steps);
    few-made = e.few-made;
    exhausted = e.exhausted;
    read = e.read;
  }

-- ## A call of the receiver

-- one more was taken, or none
came-more : (call : ReceiverCall) (accepted : List ChunkPayloadData) (c : ChunkPayloadData) → IsCame accepted c
    → IsCame (accepted_after (incoming.as_run call) accepted) c
came-more h0 h1 h2 h3 = grind (arith, nat_tests, common_steps)

one-more-sack : (call : ReceiverCall) (r : _) (ks ss : List Sack)
    → length (reports_after call r ks) + length ss ≡ length ks + length (reports_after call r ss)
one-more-sack h0 h1 h2 h3 = grind (arith, nat_tests, common_steps)

module _ (call : ReceiverCall) (s t k : Session) (f : ReceiverFollows call s t) (x : IsBeside s k) where
  abbrev pub received : Session
  received = record {
    sending = k.sending;
    receiving = t.receiving;
    made = k.made;
    sacks = reports_after call k.receiving.receiver k.sacks;
    written = k.written;
  }

  pub receives-so : ReceiverFollows call k (record {
    sending = k.sending;
    receiving = t.receiving;
    made = k.made;
    sacks = reports_after call k.receiving.receiver k.sacks;
    written = k.written;
  })
  receives-so = grind (arith, nat_tests, common_steps)

  pub received-beside : IsBeside t (record {
    sending = k.sending;
    receiving = t.receiving;
    made = k.made;
    sacks = reports_after call k.receiving.receiver k.sacks;
    written = k.written;
  })
  received-beside = grind (arith, nat_tests, common_steps, every-of, came-more)

pub receiver-so : (now : ℕ) (gone : List ℕ) (sacks made : ℕ) (call : ReceiverCall) (s t : Session) → ReceiverFollows call s t
    → distance (next_tsn s) (next_tsn s) ≡ 0 → EachEnds now gone sacks made t → EachEnds now gone sacks made s
receiver-so now gone sacks made call s t f zero' ends k x =
    one-before now gone sacks made (of_receiver call) s t k (received call s t k f x) (receives-so call s t k f x) refl refl
    (let e = ap (λ (g : Flight). distance g.next_tsn g.next_tsn) x.flight in let w = ap (λ (y : Session). chunks_waiting y.sending.sender) f.after in
    omega (arith, e, zero', w)) refl
    (let a = one-more-sack call k.receiving.receiver k.sacks s.sacks in
    let b = ap (λ (y : Session). length y.sacks) f.after in
    let c = ap (λ (r : Stand). length (reports_after call r.receiver s.sacks)) x.receiving in omega (arith, a, b, c))
    (ends (received call s t k f x) (received-beside call s t k f x))

-- ## A chunk is sent

module _ (p n : ℕ) (few : n < 2 ^ 31) (s k : Session) (i : IsInStep p n s) (x : IsBeside s k) where
  abbrev u : Transmission
  u = k.sending.sender

  abbrev q : Outbound
  q = k.sending.sender.flight.queue

  abbrev ds : List ChunkPayloadData
  ds = s.sending.sender.flight.queue.inflight.chunks

  numbered-so : IsNumbered p n (flight_with k.sending.sender.flight s.sending.sender.flight.queue.inflight.chunks)
  numbered-so = subst (IsNumbered p n) x.flight i.numbered

  -- what waits is neither acknowledged nor abandoned; and what is in flight came, where it is acknowledged
  are-so : EachIs IsUnmarked (IsCame s.receiving.accepted) k.sending.sender.flight.queue
  are-so = grind (arith, nat_tests, common_steps)

  started-so : (now : ℕ) → EachIs IsUnmarked (IsCame s.receiving.accepted) (all_started now k.sending.sender.flight.queue)
  started-so now = queues.started IsUnmarked (IsCame s.receiving.accepted) now (λ c h. h) q are-so

  module _ (now : ℕ) (t : Session) (f : SenderFollows (sends now) s t) where
    abbrev sent : Session
    sent = record k {
      sending = record k.sending {
        sender = with_flight (record k.sending.sender.flight {
          queue = sent_next k.sending.sender.flight.queue k.sending.sender.flight.next_tsn now;
          next_tsn = next_after_send k.sending.sender.flight;
        }) k.sending.sender;
      };
      made = made_after (sends now) k.sending.sender k.made;
    }

    -- the flight of the other
    after-is : t.sending.sender.flight ≡ flight_with (record k.sending.sender.flight {
      queue = sent_next k.sending.sender.flight.queue k.sending.sender.flight.next_tsn now;
      next_tsn = next_after_send k.sending.sender.flight;
    }) (sent_next
        (with_inflight k.sending.sender.flight.queue s.sending.sender.flight.queue.inflight.chunks) k.sending.sender.flight.next_tsn now).inflight.chunks
    after-is = grind (arith, nat_tests, common_steps)

    same-bytes : total_bytes (sent_next k.sending.sender.flight.queue k.sending.sender.flight.next_tsn now) ≡ total_bytes k.sending.sender.flight.queue
    same-bytes = grind (arith, nat_tests, common_steps, sent-bytes, started-inflight, started-same)

    sends-step : SenderFollows (sends now) k sent
    sends-step = grind (arith, nat_tests, common_steps, same-bytes, send-same)

    made-same : t.made ≡ made_after (sends now) k.sending.sender k.made
    made-same = grind (arith, nat_tests, common_steps)

    sent-beside : IsBeside t sent
    sent-beside = record {
      flight = after-is ∙ ap (flight_with sent.sending.sender.flight) (sym (ap (λ (g : Flight). g.queue.inflight.chunks) after-is));
      like = subst (AreLike (kept_of u.kept) (sent_next q u.flight.next_tsn now).inflight.chunks) (sym (ap (λ (g : Flight). g.queue.inflight.chunks) after-is))
          (are-sent p n u.flight (kept_of u.kept) ds x.like few numbered-so now (let e = started-so now in
          record { ordered = e.ordered; unordered = e.unordered }));
      receiving = ap (λ (y : Session). y.receiving) f.after ∙ x.receiving;
      made = made-same;
      written = ap (λ (y : Session). y.written) f.after ∙ x.written;
      came = subst (λ (r : Stand). Every (IsCame r.accepted) (flying sent)) (sym (ap (λ (y : Session). y.receiving) f.after))
          (queues.sent IsUnmarked (IsCame s.receiving.accepted) u.flight.next_tsn now (λ c h e. absurd (not_both (sym h.0 ∙ e)))
          (next_pending (all_started now q).pending) (all_started now q) refl (started-so now)).inflight;
      short = let e = ap bytes_written f.after in let h = x.short in omega (arith, e, h);
    }

pub sends-so : (p n : ℕ) → n < 2 ^ 31 → (now : ℕ) (gone : List ℕ) (sacks made : ℕ) (s t : Session) → IsInStep p n s → SenderFollows (sends now) s t
    → is_delivery now (of_sender (sends now)) ≡ true
    → distance (next_tsn s) (next_tsn t) + chunks_waiting t.sending.sender ≡ chunks_waiting s.sending.sender
    → EachEnds now gone sacks made t → EachEnds now gone sacks made s
sends-so p n few now gone sacks made s t i f d waiting ends k x =
    one-before now gone sacks made (of_sender (sends now)) s t k (sent p n few s k i x now t f) (sends-step p n few s k i x now t f) d refl
    (let a = ap (λ (g : Flight). g.next_tsn) x.flight in
    let b = ap (λ (g : Flight). g.next_tsn) (after-is p n few s k i x now t f) in
    let c = ap₂ distance a b in omega (arith, c, waiting)) refl
    (let e = ap (λ (y : Session). length y.sacks) f.after in omega (arith, e))
    (ends (sent p n few s k i x now t f) (sent-beside p n few s k i x now t f))

-- ## A chunk that is due is sent again

module _ (s k : Session) (x : IsBeside s k) (d : ChunkPayloadData) (found : find (has_tsn d.tsn) s.sending.sender.flight.queue.inflight.chunks ≡ Some d)
    (kept : d.abandoned ≡ false) (untaken : list_any (has_tsn d.tsn) s.receiving.accepted ≡ false) where
  -- the chunk in its place
  record IsThere : Type 0 where
    chunk : ChunkPayloadData
    place : Option (List ℕ)
    there : find (has_tsn d.tsn) k.sending.sender.flight.queue.inflight.chunks ≡ Some chunk
    like : IsLike place chunk d

  is-there : IsThere
  is-there = by (find (has_tsn d.tsn) (flying k)) refl
      (found-plain (has_tsn d.tsn) (λ c. refl) (flying k) (flying s) (are-plain (kept_of k.sending.sender.kept) (flying k) (flying s) x.like)
      ∙ ap (option_map plain) found)
    where
      by : (o : Option ChunkPayloadData) → find (has_tsn d.tsn) k.sending.sender.flight.queue.inflight.chunks ≡ o
          → option_map plain o ≡ Some (plain d) → IsThere
      by None e h = absurd (none-some (plain d) h)
      by (Some c) e h =
          let b = in-place d.tsn c (kept_of k.sending.sender.kept) (flying k) (flying s) x.like e in
          record { chunk = c; place = b.kept; there = e; like = subst (IsLike b.kept c) (some-same (sym b.found ∙ found)) b.like }

  abbrev c : ChunkPayloadData
  c = is-there.chunk

  -- it is not acknowledged, since it did not come
  unacked : is-there.chunk.acked ≡ false
  unacked = grind (arith, nat_tests, common_steps, every-found, not_both)

  again-same : count_again is-there.chunk ≡ count_again d
  again-same = ap count_again is-there.like.same

  same-data : data_of d ≡ data_of is-there.chunk
  same-data =
      sym (ap₂ (λ (y : ChunkPayloadData) bytes. data_of (record y { user_data = bytes })) is-there.like.same (is-there.like.whole unacked))

  module _ (now : ℕ) (t : Session) (f : SenderFollows (resends d.tsn now d) s t) where
    abbrev resent : Session
    resent = record k {
      sending = record k.sending { sender = with_flight (resent_at d.tsn now is-there.chunk k.sending.sender.flight) k.sending.sender };
      made = data_chunk (data_of (sent_again (count_again is-there.chunk) now is-there.chunk)) ∷ k.made;
    }

    resends-step : SenderFollows (resends d.tsn now is-there.chunk) k resent
    resends-step = grind (arith, nat_tests, common_steps, unacked)

    again-is : t.sending.sender.flight ≡ flight_with (resent_at d.tsn now is-there.chunk k.sending.sender.flight)
        (change_where (has_tsn d.tsn) (sent_again (count_again d) now) s.sending.sender.flight.queue.inflight.chunks)
    again-is = ap (λ (y : Transmission). y.flight) f.step.sender ∙ ap (λ (g : Flight). resent_at d.tsn now d g) x.flight

    resent-beside : IsBeside t resent
    resent-beside = grind (arith, nat_tests, common_steps, again-is, are-changed, again-same, same-data, every-changed)

pub resends-so : (now : ℕ) (gone : List ℕ) (sacks made : ℕ) (s t : Session) (d : ChunkPayloadData)
    → find (has_tsn d.tsn) s.sending.sender.flight.queue.inflight.chunks ≡ Some d → d.abandoned ≡ false
    → list_any (has_tsn d.tsn) s.receiving.accepted ≡ false → SenderFollows (resends d.tsn now d) s t
    → is_delivery now (of_sender (resends d.tsn now d)) ≡ true
    → distance (next_tsn s) (next_tsn t) + chunks_waiting t.sending.sender ≡ chunks_waiting s.sending.sender
    → EachEnds now gone sacks made t → EachEnds now gone sacks made s
resends-so now gone sacks made s t d found kept untaken f delivery waiting ends k x =
    one-before now gone sacks made (of_sender (resends d.tsn now (c s k x d found kept untaken))) s t k (resent s k x d found kept untaken now t f)
    (resends-step s k x d found kept untaken now t f) delivery refl
    (let a = ap (λ (g : Flight). g.next_tsn) x.flight in
    let b = ap (λ (g : Flight). g.next_tsn) (again-is s k x d found kept untaken now t f) in
    let e = ap₂ distance a b in omega (arith, e, waiting)) refl
    (let e = ap (λ (y : Session). length y.sacks) f.after in omega (arith, e))
    (ends (resent s k x d found kept untaken now t f) (resent-beside s k x d found kept untaken now t f))

-- ## A FORWARD-TSN

pub forwards-so : (now : ℕ) (gone : List ℕ) (sacks made : ℕ) (s t : Session) (point : ℕ) (g : ForwardTsn) → SenderFollows (forwards point g) s t
    → distance (next_tsn s) (next_tsn s) ≡ 0 → EachEnds now gone sacks made t → EachEnds now gone sacks made s
forwards-so now gone sacks made s t point g f zero' ends k x =
    one-before now gone sacks made (of_sender (forwards point g)) s t k forwarded step refl refl
    (let e = ap (λ (h : Flight). distance h.next_tsn h.next_tsn) x.flight in let w = ap (λ (y : Transmission). chunks_waiting y) f.exact in
    omega (arith, e, zero', w)) refl
    (let e = ap (λ (y : Session). length y.sacks) f.after in omega (arith, e)) (ends forwarded (record {
      flight = subst (λ (y : Transmission). y.flight ≡ flight_with k.sending.sender.flight y.flight.queue.inflight.chunks) (sym f.exact) x.flight;
      like = subst (λ (y : Transmission). AreLike (kept_of k.sending.sender.kept) (flying k) y.flight.queue.inflight.chunks) (sym f.exact) x.like;
      receiving = ap (λ (y : Session). y.receiving) f.after ∙ x.receiving;
      made = ap (λ (y : Session). y.made) f.after ∙ ap (λ ms. forward_tsn g ∷ ms) x.made;
      written = ap (λ (y : Session). y.written) f.after ∙ x.written;
      came = subst (λ (r : Stand). Every (IsCame r.accepted) (flying k)) (sym (ap (λ (y : Session). y.receiving) f.after)) x.came;
      short = let e = ap bytes_written f.after in let h = x.short in omega (arith, e, h);
    }))
  where
    forwarded : Session
    forwarded = record k { made = forward_tsn g ∷ k.made }

    step : SenderFollows (forwards point g) k (record k { made = forward_tsn g ∷ k.made })
    step =
        let u = k.sending.sender in
        let ks = kept_of u.kept in
        let a = subst (λ (h : Flight). (Some g.new_cumulative_tsn ≡ skip_end point h) × Name g.streams (named_up_to g.new_cumulative_tsn h)) x.flight
        f.accepted in
        record {
          handed = tt;
          step = record { sender = omega arith; written = omega arith; released = omega arith; taken_back = omega arith };
          exact = refl;
          accepted = (
            a.0 ∙ skip-same u.flight ks (flying s) x.like point,
            λ st. a.1 st ∙ sym (named-both u.flight ks (flying s) x.like g.new_cumulative_tsn st),
          );
          answered = tt;
          after = refl;
        }

-- ## A SACK without gap ack blocks

module _ (p n : ℕ) (few : n < 2 ^ 31) (s u t : Session) (w : ℕ) (f : ReceiverFollows (makes_sack w 0) s u) (left : List Released)
    (g : SenderFollows (takes_sack (sack_within w 0 s.receiving.receiver) left) u t) (i : IsInStep p n u) (full : held_by_sender u.sending.sender < 2 ^ 64)
    (came : Every (λ c. (list_any (has_tsn c.tsn) s.receiving.accepted || c.abandoned) ≡ true) u.sending.sender.flight.queue.inflight.chunks)
    (k : Session) (x : IsBeside s k) where
  abbrev sack : Sack
  sack = sack_within w 0 s.receiving.receiver

  bare : IsBareSack (sack_within w 0 s.receiving.receiver) (sack_within w 0 s.receiving.receiver)
  bare = record { same = refl; none = refl }

  abbrev others : List ChunkPayloadData
  others = u.sending.sender.flight.queue.inflight.chunks

  y : IsBeside u (received (makes_sack w 0) s u k f x)
  y = received-beside (makes_sack w 0) s u k f x

  there : Contains (sack_within w 0 k.receiving.receiver ∷ k.sacks) (sack_within w 0 s.receiving.receiver)
  there = (0, omega arith, ap (λ (r : Stand). sack_within w 0 r.receiver) (sym x.receiving))

  -- what it takes back has come back
  abbrev back : List TakenBack
  back = taken_back_by (sack_within w 0 s.receiving.receiver) k.sending.sender

  abbrev returned : Session
  returned = after_return (sack_within w 0 s.receiving.receiver) (taken_back_by (sack_within w 0 s.receiving.receiver) k.sending.sender)
      (received (makes_sack w 0) s u k f x)

  abbrev v : Flight
  v = returned.sending.sender.flight

  like-back : AreLike (kept_of k.sending.sender.kept) (flying returned) u.sending.sender.flight.queue.inflight.chunks
  like-back = back-like sack k.sending.sender.flight k.sending.sender.kept others y.like

  -- the SACK is not refused, whatever chunks there are, if they are as many
  unrefused : (cs : List ChunkPayloadData) → length cs ≡ length u.sending.sender.flight.queue.inflight.chunks
      → sack_refusal (sack_within w 0 s.receiving.receiver) (flight_with k.sending.sender.flight cs) ≡ None
  unrefused cs long =
      ap (λ (h : Flight). sack_refusal sack (flight_with h cs)) (sym y.flight) ∙ refusal-same sack sack u.sending.sender.flight cs bare long g.accepted

  returns : TakesBack (sack_within w 0 s.receiving.receiver) (taken_back_by (sack_within w 0 s.receiving.receiver) k.sending.sender)
      (received (makes_sack w 0) s u k f x) returned
  returns = record {
    handed = there;
    step = record { sender = back-more sack k.sending.sender others y.like; written = omega arith; released = omega arith; taken_back = refl };
    exact = refl;
    accepted = back-fits sack k.sending.sender others y.like
        (let e = ap (λ (h : Flight). total_bytes h.queue) y.flight in let l = full in omega (arith, e, l))
        (unrefused (flying k) (are-long (kept_of k.sending.sender.kept) (flying k) others y.like));
    answered = refl;
    after = refl;
  }

  abbrev lost : List Released
  lost = with_lows (released_by (sack_within w 0 s.receiving.receiver) returned.sending.sender.flight) returned.sending.sender.streams

  abbrev acked : Session
  acked = record returned {
    sending = record returned.sending {
      sender = after_acked (sack_within w 0 s.receiving.receiver) returned.sending.sender;
      released = returned.sending.released
          + bytes_in (with_lows (released_by (sack_within w 0 s.receiving.receiver) returned.sending.sender.flight) returned.sending.sender.streams);
    };
  }

  unrefused-then : sack_refusal (sack_within w 0 s.receiving.receiver) returned.sending.sender.flight ≡ None
  unrefused-then = unrefused (flying returned) (are-long (kept_of k.sending.sender.kept) (flying returned) others like-back)

  takes : SenderFollows (takes_sack (sack_within w 0 s.receiving.receiver) lost) returned acked
  takes = record {
    handed = there;
    step = record {
      sender = released-same (total_bytes v.queue) (total_bytes (after_sack sack v).queue) returned.sending.sender.streams (released_by sack v) lost refl
          (sack-bytes sack v (settled-kept (kept_of k.sending.sender.kept) (flying returned) others like-back));
      written = omega arith;
      released = refl;
      taken_back = omega arith;
    };
    exact = refl;
    accepted = unrefused-then;
    answered = refl;
    after = refl;
  }

  acked-is : t.sending.sender.flight ≡ flight_with (after_sack (sack_within w 0 s.receiving.receiver) returned.sending.sender.flight)
      (chunks_of (after_sack (sack_within w 0 s.receiving.receiver)
      (flight_with returned.sending.sender.flight u.sending.sender.flight.queue.inflight.chunks)))
  acked-is = ap (λ (r : Transmission). r.flight) g.exact ∙ ap (after_sack sack) y.flight ∙ sack-same sack sack v others bare

  fits : (sack_within w 0 s.receiving.receiver).cumulative_tsn_ack < 2 ^ 32
  fits = grind (arith, nat_tests, common_steps)

  -- each chunk that is left came, or is abandoned
  all-came : Every (λ c. (list_any (has_tsn c.tsn) s.receiving.accepted || c.abandoned) ≡ true) (flying acked)
  all-came =
      let Came : ChunkPayloadData → Type 0 = λ c. (list_any (has_tsn c.tsn) s.receiving.accepted || c.abandoned) ≡ true in
      let none : ChunkPayloadData → Type 0 = λ c. Unit {0} in
      let h = paired none Came Came (λ _ c d j _ e. ap₂ (λ a b. list_any (has_tsn a) s.receiving.accepted || b) (ap (λ (z : ChunkPayloadData). z.tsn) j.same)
      (ap (λ (z : ChunkPayloadData). z.abandoned) j.same) ∙ e) (kept_of k.sending.sender.kept) (flying returned) others like-back
      (every-all none (λ c. tt) (flying returned)) came in
      (queues.sacked none Came sack (λ c r e. e) v (record {
        ordered = every-all none (λ c. tt) v.queue.pending.ordered;
        unordered = every-all none (λ c. tt) v.queue.pending.unordered;
        inflight = h;
      })).inflight

  acked-beside : IsBeside t acked
  acked-beside = record {
    flight = acked-is ∙ ap (flight_with acked.sending.sender.flight) (sym (ap (λ (h : Flight). h.queue.inflight.chunks) acked-is));
    like = subst (AreLike (kept_of acked.sending.sender.kept) (flying acked)) (sym (ap (λ (h : Flight). h.queue.inflight.chunks) acked-is))
        (kept-sacked sack v (chunks_of (after_sack sack (flight_with v others))) k.sending.sender.kept
        (are-sacked sack sack bare p n v (kept_of k.sending.sender.kept) others like-back few
        (subst (IsNumbered p n) y.flight i.numbered) fits unrefused-then));
    receiving = ap (λ (z : Session). z.receiving) g.after;
    made = ap (λ (z : Session). z.made) g.after ∙ y.made;
    written = ap (λ (z : Session). z.written) g.after ∙ y.written;
    came = grind (arith, nat_tests, common_steps, every-of, all-came);
    short = let e = ap bytes_written g.after in let h = y.short in omega (arith, e, h);
  }

  same-after : (after_sack (sack_within w 0 s.receiving.receiver) returned.sending.sender.flight).next_tsn ≡ returned.sending.sender.flight.next_tsn
  same-after = at-if (λ (h : Flight). h.next_tsn ≡ v.next_tsn) (is_outdated sack v) (λ _. refl) (λ _. refl)

pub answered-so : (p n : ℕ) → n < 2 ^ 31 → (now : ℕ) (gone : List ℕ) (sacks made : ℕ) (s u t : Session) (w : ℕ) → ReceiverFollows (makes_sack w 0) s u
    → (left : List Released) → SenderFollows (takes_sack (sack_within w 0 s.receiving.receiver) left) u t → IsInStep p n u
    → held_by_sender u.sending.sender < 2 ^ 64
    → Every (λ c. (list_any (has_tsn c.tsn) s.receiving.accepted || c.abandoned) ≡ true) u.sending.sender.flight.queue.inflight.chunks
    → distance (next_tsn s) (next_tsn s) ≡ 0 → chunks_waiting t.sending.sender ≡ chunks_waiting u.sending.sender
    → EachEnds now gone sacks made t → EachEnds now gone sacks made s
answered-so p n few now gone sacks made s u t w f left g i full came zero' waiting ends k x =
    let e : distance (next_tsn k) (next_tsn k) ≡ 0 = ap (λ (h : Flight). distance h.next_tsn h.next_tsn) (sym x.flight) ∙ zero' in
    let c = ap (λ (z : Session). chunks_waiting z.sending.sender) f.after in
    let l = ap (λ (z : Session). length z.sacks) f.after in
    let m = ap (λ (z : Session). length z.sacks) g.after in
    one-before now gone sacks made (of_receiver (makes_sack w 0)) s u k (received (makes_sack w 0) s u k f x) (receives-so (makes_sack w 0) s u k f x) refl refl
    (omega (arith, e, c)) refl (omega (arith, l))
    (acked-before now gone sacks made (sack_within w 0 s.receiving.receiver) (taken_back_by (sack_within w 0 s.receiving.receiver) k.sending.sender)
    (lost p n few s u t w f left g i full came k x) u t (received (makes_sack w 0) s u k f x) (returned p n few s u t w f left g i full came k x)
    (acked p n few s u t w f left g i full came k x) (returns p n few s u t w f left g i full came k x) (takes p n few s u t w f left g i full came k x) e
    (same-after p n few s u t w f left g i full came k x) waiting m (ends (acked p n few s u t w f left g i full came k x)
    (acked-beside p n few s u t w f left g i full came k x)))
