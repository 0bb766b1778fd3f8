-- Sessions that can end: each chunk in flight that was lost is sent again, and taken.
use Rattle.sctp_delivery.proofs.Names.{◌≡◌, ℕ, zero, suc, ◌^◌, ◌<◌, ◌≤◌, Bool, true, false, not, List, [], ◌∷◌, length, get_or, Option, Some, None, is_some}
use Rattle.sctp_delivery.proofs.Names.{inl, inr, refl, ap, sym, subst, ◌∙◌, arith, ◌+◌, ◌%◌, ◌==◌, ◌||◌, All, Contains, find, if◌then◌else◌, nat_le, ◌&&◌}
use Rattle.sctp_delivery.proofs.Names.{list_any, filter, list_all, sum_by, nat_tests, get_or_default, cases_lt, or-left, or-right, or-split, same-is, same-yes}
use Rattle.sctp_delivery.proofs.Names.{some-same, length-change_where, fails, not_both, and, both, distance-tsn, tsn, change_where, Seen, advance_over}
use Rattle.sctp_delivery.proofs.Names.{at_or_before, distance, data_of, ChunkPayloadData, ReassemblyState, after_ordered_push, Pushes, PushesAs, with_queue}
use Rattle.sctp_delivery.proofs.Names.{Reception, arrival_refusal, filter_of, is_open, stream_of, with_filter, follow_forward_tsn, is_stale, window, has_come}
use Rattle.sctp_delivery.proofs.Names.{with_tsn, New, InboundStream, has_tsn, Flight, can_resend, after_sack, count_again, resent_at, sent_again, with_flight}
use Rattle.sctp_delivery.proofs.Names.{Transmission, Ledger, reads_nothing, takes, follows, flight_of, in_flight, IsCaughtUp, passes, tsns_given, was_passed}
use Rattle.sctp_delivery.proofs.Names.{was_taken, Made, data_chunk, resends, forward_tsn, forwards, takes_sack, ReceiverFollows, SenderFollows, Session}
use Rattle.sctp_delivery.proofs.Names.{of_receiver, of_sender, none-some, ForwardTsn, Sack, ChunkForwardTsnStream, as_acknowledged, Stand, after_forward_tsn}
use Rattle.sctp_delivery.proofs.Names.{without_incomplete, advanced_ack_point, named_up_to, skip_end, chunks_waiting, reads_nothing_on, Call, Limits, RunsTo}
use Rattle.sctp_delivery.proofs.Names.{ap₂, at_start, bytes_written, common_steps, held_by_sender, sum_by-cons}
use Rattle.sctp_reassembly.specs.reassembly_queue.ReassemblyQueue.{is_complete_with}
use Rattle.sctp_receiver.specs.Inbound.{has_number}
use Rattle.sctp_delivery.specs.Ending.{is_to_come, left_on}
use Rattle.sctp_receiver.specs.Receiver.{sack_within}
use Rattle.sctp_delivery.specs.ReceiverCalls.{makes_sack}
use Rattle.sctp_delivery.proofs.HeldCosts.{lefts-le}
use Rattle.sctp_delivery.proofs.RoundsEnd.{ahead-of-sacks, leaves-fewer, all-go-on, found-in, same-next, same-pending, reporting-of}
use Rattle.sctp_delivery.proofs.ArrivedTsns.{IsArrived, IsKnown}
use Rattle.sctp_delivery.proofs.EndSteps.{Rests, ends-open, ends-read, rests-same, rests-then, due, is_due, less-due, none-refused, price, same-due, spent}
use Rattle.sctp_delivery.proofs.EndSteps.{taken-cost, due_by, followed-cost, rest_of, sack-due, At, Ends, Setting, apart-at, at-same, kept-at, long-enough}
use Rattle.sctp_delivery.proofs.EndSteps.{all-left, no-distance, reached, receiver-alone, receiver-before, sender-before, start}
use Rattle.sctp_delivery.proofs.Besides.{answered-so, forwards-so, resends-so}
use Rattle.sctp_delivery.proofs.Sessions.{accounted}
use Rattle.sctp_delivery.proofs.Every.{Every, all-of-every, every-at, every-of, every-of-all, one-of, every-passing}
use Rattle.sctp_delivery.proofs.GivenTsns.{IsNumbered, flight-given, passable-skip}
use Rattle.sctp_delivery.proofs.PushesExist.{unordered-pushed, named, names}
use Rattle.sctp_delivery.proofs.RefusedLaw.{limits-same, none-read-with-room}
use Rattle.sctp_delivery.proofs.SackLaws.{IsInStep, in-step, pass-abandoned}
use Rattle.sctp_delivery.proofs.SackSteps.{known}
use Rattle.sctp_delivery.proofs.TsnPlaces.{IsGiven, at-or-before, base, next-place, same-place}
use Rattle.sctp_delivery.proofs.Delivered.{next_tsn}
use Rattle.sctp_delivery.proofs.ForwardLaw.{none-made}
use Rattle.sctp_delivery.proofs.InTheEnd.{unread-of}
use Rattle.sctp_delivery.proofs.Taking.{can}

-- ## What is due

-- where none is due, each was taken whose message is not abandoned
none-due : (accepted cs : List ChunkPayloadData) → list_any (is_due accepted) cs ≡ false
    → Every (λ c. c.abandoned ≡ false → list_any (has_tsn c.tsn) accepted ≡ true) cs
none-due accepted [] e = tt
none-due accepted (c ∷ cs) e = grind (arith, nat_tests, not_both, none-due accepted cs)

-- ## A chunk is taken

-- what comes makes something of the queue
record IsQueued (c : ChunkPayloadData) (old : ReassemblyState) : Type 0 where
  complete : Bool
  queue : ReassemblyState
  pushed : Pushes c complete old queue

queued : (c : ChunkPayloadData) (old : ReassemblyState) → IsQueued c old
queued c old = by c.unordered refl
  where
    by : (b : Bool) → c.unordered ≡ b → IsQueued c old
    by false e = record {
      complete = is_complete_with c old.held;
      queue = after_ordered_push c old;
      pushed = subst (λ u. PushesAs u c (is_complete_with c old.held) old (after_ordered_push c old)) (sym e) (refl, refl);
    }
    by true e =
        let p = unordered-pushed c old in
        record { complete = p.complete; queue = p.new; pushed = subst (λ u. PushesAs u c p.complete old p.new) (sym e) p.pushed }

module _ (c : ChunkPayloadData) (s : Session) (l : InboundStream) (found : stream_of c.stream_identifier s.receiving.receiver ≡ Some l) where
  abbrev after_takes : Session
  after_takes = record s {
    receiving = record s.receiving {
      receiver = with_filter (with_tsn c.tsn (filter_of s.receiving.receiver)) (record s.receiving.receiver {
        streams = change_where (has_number c.stream_identifier) (with_queue (queued c l.queue).queue) s.receiving.receiver.streams;
      });
      accepted = c ∷ s.receiving.accepted;
    };
  }

  takes-one : Contains s.made (data_chunk (data_of c)) → arrival_refusal c s.receiving.receiver ≡ None → has_come c.tsn (filter_of s.receiving.receiver) ≡ false
      → ReceiverFollows (takes c (New (queued c l.queue).complete)) s after_takes
  takes-one handed accepted fresh = grind (arith, nat_tests, queued)

-- ## A chunk is sent again

abbrev pub after_resends : ℕ → ChunkPayloadData → Session → Session
after_resends now c s =
    record s {
      sending = record s.sending { sender = with_flight (resent_at c.tsn now c s.sending.sender.flight) s.sending.sender };
      made = data_chunk (data_of (sent_again (count_again c) now c)) ∷ s.made;
    }

resends-one : (now : ℕ) (c : ChunkPayloadData) (s : Session) → can_resend c.tsn (flight_of s) ≡ true → find (has_tsn c.tsn) (in_flight s) ≡ Some c
    → SenderFollows (resends c.tsn now c) s (after_resends now c s)
resends-one now c s can found = grind (arith, nat_tests)

-- ## All are taken

-- the receiver took each chunk in flight whose message is not abandoned; as many are in flight as before, and as many wait
pub record Delivered (s t : Session) : Type 0 where
  pub pending : (flight_of t).queue.pending ≡ (flight_of s).queue.pending
  pub as_many : length (in_flight t) ≡ length (in_flight s)
  pub sacks : t.sacks ≡ s.sacks
  pub few : spent t ≤ spent s
  pub taken : All (λ c. c.abandoned ≡ false → was_taken c.tsn t ≡ true) (in_flight t)

-- what is known of a chunk in flight
record IsFound (f : Flight) (accepted : List ChunkPayloadData) (made : List Made) (c : ChunkPayloadData) : Type 0 where
  found : find (has_tsn c.tsn) f.queue.inflight.chunks ≡ Some c
  sent : Contains f.queue.inflight.chunks c
  given : (p n : ℕ) → IsNumbered p n f → IsGiven p n c.tsn
  goes-on : (can_resend c.tsn f || (list_any (has_tsn c.tsn) accepted || c.abandoned)) ≡ true
  passed : list_any (passes c.tsn) made ≡ true → c.abandoned ≡ true

abbrev IsFoundIn : Session → ChunkPayloadData → Type 0
IsFoundIn s c = IsFound s.sending.sender.flight s.receiving.accepted s.made c

-- the same where these stay
found-still : (s t : Session) (c : ChunkPayloadData) → Rests s t → IsFoundIn s c → IsFoundIn t c
found-still s t c x f = grind (arith, nat_tests)

-- as much is due
due-still : (w : ChunkPayloadData → ℕ) (s t : Session) → t.sending ≡ s.sending → t.receiving.accepted ≡ s.receiving.accepted
    → due_by w t.receiving.accepted (in_flight t) ≡ due_by w s.receiving.accepted (in_flight s)
due-still w s t sent came =
    ap (λ (l : Ledger). due_by w t.receiving.accepted l.sender.flight.queue.inflight.chunks) sent ∙ ap (λ xs. due_by w xs (in_flight s)) came

-- one that is due
record IsDue (accepted : List ChunkPayloadData) (c : ChunkPayloadData) : Type 0 where
  kept : c.abandoned ≡ false
  untaken : list_any (has_tsn c.tsn) accepted ≡ false

due-parts : (accepted : List ChunkPayloadData) (c : ChunkPayloadData) → is_due accepted c ≡ true → IsDue accepted c
due-parts accepted c e = grind (arith, nat_tests, not_both)

can-again : (s : Session) (c : ChunkPayloadData) → IsFoundIn s c → IsDue s.receiving.accepted c → can_resend c.tsn (flight_of s) ≡ true
can-again s c f d = grind (arith, nat_tests, not_both, or-split)

-- what came is known
come-known : (p n : ℕ) (kn : ℕ → Bool) (r : Reception) → n < 2 ^ 31 → IsArrived p n kn r.cumulative_tsn r.beyond → (t : ℕ) → IsGiven p n t
    → has_come t (filter_of r) ≡ true → kn t ≡ true
come-known p n kn r few h t g e = grind (arith, nat_tests, at-or-before, one-of, or-split, same-is)

-- no more is due than the chunks in flight count for that are to come
module _ (first size max most : ℕ) (limits : Option Limits) (cs : List Call) (s : Session) (small : first < 2 ^ 32) (some : 0 < size)
    (run : RunsTo (at_start first size max most limits) cs s) (few : tsns_given (at_start first size max most limits) cs s run < 2 ^ 31) where
  abbrev n : ℕ
  n = tsns_given (at_start first size max most limits) cs s run

  step : IsInStep (base first) (tsns_given (at_start first size max most limits) cs s run) s
  step = in-step first size max most limits cs s run small few

  each-to-come : Every (λ c. is_due s.receiving.accepted c ≡ true → is_to_come s.receiving.receiver c ≡ true) (in_flight s)
  each-to-come = every-of-all (λ c. is_due s.receiving.accepted c ≡ true → is_to_come s.receiving.receiver c ≡ true) (in_flight s) (λ k d lt e.
      let c = get_or (in_flight s) k d in
      let parts = due-parts s.receiving.accepted c e in
      let g = every-at (λ (x : ChunkPayloadData). IsGiven (base first) n x.tsn)
      (in_flight s) k d lt (flight-given (base first) n (flight_of s) step.numbered) in
      let fresh = fails (has_come c.tsn (filter_of s.receiving.receiver)) (λ h. elim (or-split (was_taken c.tsn s) (was_passed c.tsn s)
      (come-known (base first) n (known s) s.receiving.receiver few step.arrived c.tsn g h)) [
        | inl t ↦ not_both (sym parts.untaken ∙ t)
        | inr t ↦ not_both (sym parts.kept ∙ pass-abandoned first size max most limits cs s run small few k d lt t)
      ]) in
      ap₂ (λ a b. not (a || b)) parts.kept fresh)

  few-to-come : (xs : List ChunkPayloadData) → Every (λ c. is_due s.receiving.accepted c ≡ true → is_to_come s.receiving.receiver c ≡ true) xs
      → due_by price s.receiving.accepted xs ≤ sum_by price (filter (is_to_come s.receiving.receiver) xs)
  few-to-come [] e = omega arith
  few-to-come (c ∷ cs') e = grind (arith, nat_tests, common_steps, sum_by-cons, few-to-come cs' e.1)

  pub due-to-come : due_by price s.receiving.accepted (in_flight s) ≤ sum_by price (filter (is_to_come s.receiving.receiver) (in_flight s))
  due-to-come = few-to-come (in_flight s) each-to-come

pub some-of : {A : Type 0} (o : Option A) → is_some o ≡ true → (x : A) × (o ≡ Some x)
some-of None e = absurd (not_both e)
some-of (Some x) e = (x, refl)

-- one more was taken, so fewer are due
record Nearer (s t : Session) : Type 0 where
  pending : (flight_of t).queue.pending ≡ (flight_of s).queue.pending
  as_many : length (in_flight t) ≡ length (in_flight s)
  sacks : t.sacks ≡ s.sacks
  few : spent t ≤ spent s
  fewer : due t.receiving.accepted (in_flight t) < due s.receiving.accepted (in_flight s)

nearer-then : (s u t : Session) → Rests s u → Nearer u t → Nearer s t
nearer-then s u t x y = grind (arith, nat_tests, due-still)

module _ (b : Setting) where
  pub few-given : (n : ℕ) (s : Session) (i : At b n s) → tsns_given (start b) i.calls s i.run < 2 ^ 31
  few-given n s i = let e = i.given in let f = i.few in omega (arith, e, f)

  all-found : (n : ℕ) (s : Session) → At b n s → Every (IsFoundIn s) (in_flight s)
  all-found n s i = every-of-all (IsFoundIn s) (in_flight s) (λ k d lt. record {
    found = found-in (base b.first) n s i.few (kept-at b n s i).kept.step k d lt;
    sent = (k, lt, get_or_default (in_flight s) k (get_or (in_flight s) k d) d lt);
    given = λ p m h. every-at (λ (c : ChunkPayloadData). IsGiven p m c.tsn) (in_flight s) k d lt (flight-given p m (flight_of s) h);
    goes-on = all-go-on b.first b.size b.max b.most b.limits i.calls s i.run b.small (few-given n s i) k d lt;
    passed = pass-abandoned b.first b.size b.max b.most b.limits i.calls s i.run b.small (few-given n s i) k d lt;
  })

  -- such a chunk is not refused, and did not come
  module _ (n : ℕ) (s : Session) (i : At b n s) (c : ChunkPayloadData) (f : IsFoundIn s c) (d : IsDue s.receiving.accepted c) where
    fresh : has_come c.tsn (filter_of s.receiving.receiver) ≡ false
    fresh = fails (has_come c.tsn (filter_of s.receiving.receiver)) (λ e.
        let step = (kept-at b n s i).kept.step in
        elim (or-split (was_taken c.tsn s) (was_passed c.tsn s)
        (come-known (base b.first) n (known s) s.receiving.receiver i.few step.arrived c.tsn (f.given (base b.first) n step.numbered) e)) [
          | inl t ↦ not_both (sym d.untaken ∙ t)
          | inr t ↦ not_both (sym d.kept ∙ f.passed t)
        ])

    -- it is as far past the cumulative TSN as one in flight may be
    near : distance s.receiving.receiver.cumulative_tsn c.tsn ≤ length (in_flight s)
    near =
        let few = i.few in
        let step = (kept-at b n s i).kept.step in
        let g = f.given (base b.first) n step.numbered in
        let up = ahead-of-sacks b.first n s few (reached b n s i) step in
        let total = step.numbered.total in
        let within = g.within in
        let most = step.arrived.within in
        grind (arith, nat_tests, at-or-before, cases_lt, distance-tsn, fresh, not_both, or-left)

    unrefused : reads_nothing s.receiving.receiver ≡ true → is_due s.receiving.accepted c ≡ true
        → is_open c.stream_identifier s.receiving.receiver ≡ true → arrival_refusal c s.receiving.receiver ≡ None
    unrefused none e there =
        let less = less-due price c s.receiving.accepted (in_flight s) e f.found in
        none-read-with-room b.first b.size b.max b.most b.limits i.calls s b.small b.some i.run (few-given n s i) (long-enough b n s i) none c
        (record { chunk = c; sent = f.sent; kept = d.kept; same = inl refl }) there
        (none-refused b.limits s c.tsn i.room (limits-same i.calls (start b) s i.run) near (omega (arith, less)) (all-left b n s i none))

  -- the chunk is sent again, and taken
  deliver-open : (n : ℕ) (s : Session) → At b n s → reads_nothing s.receiving.receiver ≡ true → (c : ChunkPayloadData) → IsFoundIn s c
      → is_due s.receiving.accepted c ≡ true → is_open c.stream_identifier s.receiving.receiver ≡ true
      → ((t : Session) → At b n t → Nearer s t → Ends b t) → Ends b s
  deliver-open n s i none c f e there next =
      let d = due-parts s.receiving.accepted c e in
      let l = some-of (stream_of c.stream_identifier s.receiving.receiver) there in
      let u = after_resends b.now c s in
      let again = resends-one b.now c s (can-again s c f d) f.found in
      let long = length-change_where (has_tsn c.tsn) (sent_again (count_again c) b.now) (in_flight s) in
      let price-same = same-due price (λ k m x. refl) s.receiving.accepted (has_tsn c.tsn) (count_again c) b.now (in_flight s) in
      let j = at-same b n (of_sender (resends c.tsn b.now c)) s u again (same-yes b.now) refl refl (omega (arith, long)) (omega (arith, price-same))
      (omega (arith, price-same)) i in
      let t = after_takes c u l.0 l.1 in
      let taking = takes-one c u l.0 l.1 (0, omega arith, refl) (unrefused n s i c f d none e there) (fresh n s i c f d) in
      let ones = same-due (λ x. 1) (λ k m x. refl) (c ∷ s.receiving.accepted) (has_tsn c.tsn) (count_again c) b.now (in_flight s) in
      let lt = less-due (λ x. 1) c s.receiving.accepted (in_flight s) e f.found in
      resent (receiver-before b n (takes c (New (queued c (l.0).queue).complete)) u t j taking
      (next t (at-same b n (of_receiver (takes c (New (queued c (l.0).queue).complete))) u t taking refl refl refl (omega arith)
      (let before = same-due price (λ k m x. refl) (c ∷ s.receiving.accepted) (has_tsn c.tsn) (count_again c) b.now (in_flight s) in
      let less = less-due price c s.receiving.accepted (in_flight s) e f.found in
      omega (arith, before, less, price-same))
      (let more = taken-cost c (queued c (l.0).queue).complete l.0 (queued c (l.0).queue).queue s.receiving.receiver.streams (apart-at b n s i) l.1
      (queued c (l.0).queue).pushed in
      let before = same-due price (λ k m x. refl) (c ∷ s.receiving.accepted) (has_tsn c.tsn) (count_again c) b.now (in_flight s) in
      let less = less-due price c s.receiving.accepted (in_flight s) e f.found in
      let left-before = all-left b n s i none in
      let left-after = lefts-le (change_where (has_number c.stream_identifier) (with_queue (queued c (l.0).queue).queue) s.receiving.receiver.streams) in
      omega (arith, more, before, less, price-same, left-before, left-after)) j) (record {
        pending = refl;
        as_many = long;
        sacks = refl;
        few = omega (arith, ones, lt);
        fewer = omega (arith, ones, lt);
      })))
    where
      resent : Ends b (after_resends b.now c s) → Ends b s
      resent x =
          let d = due-parts s.receiving.accepted c e in
          let again = resends-one b.now c s (can-again s c f d) f.found in
          let zero' = no-distance b n s i in
          record {
            alone = sender-before b (resends c.tsn b.now c) s (after_resends b.now c s) again (same-yes b.now) (omega (arith, zero')) x.alone;
            beside = resends-so b.now b.gone b.sacks b.made s (after_resends b.now c s) c f.found d.kept d.untaken again (same-yes b.now)
                (omega (arith, zero')) x.beside;
          }

  deliver-one : (n : ℕ) (s : Session) → At b n s → reads_nothing s.receiving.receiver ≡ true → (c : ChunkPayloadData) → IsFoundIn s c
      → is_due s.receiving.accepted c ≡ true → ((t : Session) → At b n t → Nearer s t → Ends b t) → Ends b s
  deliver-one n s i none c f e next = ends-open b c.stream_identifier n s i (λ u j o.
      deliver-open n u j (o.unread none) c (found-still s u c o.rests f) (ap (λ xs. is_due xs c) o.rests.accepted ∙ e) o.there
      (λ t k y. next t k (nearer-then s u t o.rests y)))

  -- where each was taken, it can end
  abbrev pub EndsDelivered : ℕ → Session → Type 0
  EndsDelivered n s = (t : Session) → At b n t → Delivered s t → Ends b t

  deliver-on : (n : ℕ) (s : Session) → At b n s → EndsDelivered n s → ((t : Session) → At b n t → Nearer s t → Ends b t) → Ends b s
  deliver-on n s i next more = ends-read b n s i (λ u j x none. by u j x none (list_any (is_due u.receiving.accepted) (in_flight u)) refl)
    where
      by : (u : Session) → At b n u → Rests s u → reads_nothing u.receiving.receiver ≡ true → (c : Bool)
          → list_any (is_due u.receiving.accepted) (in_flight u) ≡ c → Ends b u
      by u j x none false e = next u j (record {
        pending = ap (λ (l : Ledger). l.sender.flight.queue.pending) x.sending;
        as_many = ap (λ (l : Ledger). length l.sender.flight.queue.inflight.chunks) x.sending;
        sacks = x.sacks;
        few = let made = ap length x.made in let same = due-still (λ c. 1) s u x.sending x.accepted in omega (arith, made, same);
        taken = all-of-every (λ (c : ChunkPayloadData). c.abandoned ≡ false → was_taken c.tsn u ≡ true) (in_flight u)
            (none-due u.receiving.accepted (in_flight u) e);
      })
      by u j x none true e =
          let one = one-of (IsFoundIn u) (is_due u.receiving.accepted) (in_flight u) e (all-found n u j) in
          deliver-one n u j none one.0 one.2 one.1 (λ t k y. more t k (nearer-then s u t x y))

  deliver-all : (m n : ℕ) (s : Session) → At b n s → due s.receiving.accepted (in_flight s) ≤ m → EndsDelivered n s → Ends b s
  deliver-all zero n s i le next = deliver-on n s i next (λ t j y. let lt = y.fewer in absurd (omega (arith, le, lt)))
  deliver-all (suc m) n s i le next = deliver-on n s i next (λ t j y.
      let lt = y.fewer in
      deliver-all m n t j (omega (arith, le, lt)) (λ u k z. next u k (record {
        pending = z.pending ∙ y.pending;
        as_many = z.as_many ∙ y.as_many;
        sacks = z.sacks ∙ y.sacks;
        few = let le = z.few in let more = y.few in omega (arith, le, more);
        taken = z.taken;
      })))

  pub ends-delivered : (n : ℕ) (s : Session) → At b n s → EndsDelivered n s → Ends b s
  ends-delivered n s i next = deliver-all (due s.receiving.accepted (in_flight s)) n s i (omega arith) next

-- # Sessions that can end: where a FORWARD-TSN can be made the receiver follows it, and its SACK leaves fewer chunks in flight

-- ## The streams that it names

-- each is open
record AreOpened (ns : List ChunkForwardTsnStream) (s t : Session) : Type 0 where
  rests : Rests s t
  unread : reads_nothing t.receiving.receiver ≡ true
  stays : (x : ℕ) → is_open x s.receiving.receiver ≡ true → is_open x t.receiving.receiver ≡ true
  all : list_all (λ m. is_open m.identifier t.receiving.receiver) ns ≡ true

nothing-on : (x : ℕ) (r : Reception) → reads_nothing r ≡ true → reads_nothing_on x r ≡ true
nothing-on x r none = grind (arith, nat_tests, is_some, unread-of)

all-due : (ns : List ChunkForwardTsnStream) (r : Reception) → reads_nothing r ≡ true → list_all (λ m. is_open m.identifier r) ns ≡ true
    → list_all (λ m. is_open m.identifier r && reads_nothing_on m.identifier r) ns ≡ true
all-due [] r none e = refl
all-due (m ∷ ms) r none e = grind (arith, nat_tests, common_steps, both, and, nothing-on)

-- ## The cumulative TSN

-- it goes on from a place, over TSNs that were given out
goes-up : (p n : ℕ) (kn : ℕ → Bool) (c : ℕ) (ts : List ℕ) (j : ℕ) → n < 2 ^ 31 → j ≤ n → c ≡ tsn p j → Every (IsKnown p n kn) ts
    → (q : ℕ) × (j ≤ q) × (q ≤ n) × ((advance_over c ts).cum ≡ tsn p q)
goes-up p n kn c [] j few le is h = (j, omega arith, le, is)
goes-up p n kn c (t ∷ ts) j few le is h = by (t == (c + 1) % 2 ^ 32) refl
    (λ next below. goes-up p n kn t ts (j + 1) few below next h.1)
  where
    by : (b : Bool) → (t == (c + 1) % 2 ^ 32) ≡ b
        → (t ≡ tsn p (j + 1) → j + 1 ≤ n → (q : ℕ) × (j + 1 ≤ q) × (q ≤ n) × ((advance_over t ts).cum ≡ tsn p q))
        → (q : ℕ) × (j ≤ q) × (q ≤ n)
        × ((let s : Seen = if b then advance_over t ts else (let r : Seen = record { cum = c; held = t ∷ ts } in r) in s.cum) ≡ tsn p q)
    by b h2 h3 = grind (arith, nat_tests, next-place, same-is, same-place)

module _ (b : Setting) (n : ℕ) (s : Session) (i : At b n s) (p : ℕ)
    (skip : skip_end (advanced_ack_point (flight_of s)) (flight_of s) ≡ Some p) where
  abbrev g : ForwardTsn
  g = record { new_cumulative_tsn = p; streams = names (named_up_to p s.sending.sender.flight) }

  abbrev r : Reception
  r = s.receiving.receiver

  gets-there : at_or_before p (after_forward_tsn g r).cumulative_tsn ≡ true
  gets-there = by (is_stale g r) refl
    where
      by : (c : Bool) → is_stale g r ≡ c
          → at_or_before p (if c then r else without_incomplete p (if c then r else follow_forward_tsn g r)).cumulative_tsn ≡ true
      by true e = e
      by false e =
          let few = i.few in
          let step = (kept-at b n s i).kept.step in
          let given = (passable-skip (base b.first) n (flight_of s) step.numbered few (advanced_ack_point (flight_of s)) p (sym skip)).given in
          let within = given.within in
          let up = goes-up (base b.first) n (known s) p (filter (λ t. not (at_or_before t p)) r.beyond) given.place few given.within given.is
          (every-passing (IsKnown (base b.first) n (known s)) (λ t. not (at_or_before t p)) r.beyond step.arrived.each) in
          let le = up.1 in
          let most = up.2 in
          ap (at_or_before p) up.3 ∙ ap (λ t. at_or_before t (tsn (base b.first) up.0)) given.is
          ∙ at-or-before (base b.first) given.place up.0 (omega (arith, within, few)) (omega (arith, most, few))
          ∙ (let h : nat_le given.place up.0 ≡ true = grind (arith, nat_tests, le) in h)

  abbrev made-one : Session
  made-one = record s { made = forward_tsn g ∷ s.made }

  abbrev followed-one : Session
  followed-one = record made-one { receiving = record s.receiving { receiver = after_forward_tsn g s.receiving.receiver } }

  making : SenderFollows (forwards (advanced_ack_point (flight_of s)) g) s made-one
  making = grind (arith, nat_tests, common_steps, step, named)

  following : reads_nothing s.receiving.receiver ≡ true → list_all (λ m. is_open m.identifier s.receiving.receiver) g.streams ≡ true
      → ReceiverFollows (follows g) made-one followed-one
  following none all = record {
    handed = (0, omega arith, refl);
    step = record { receiver = refl; accepted = refl; read = refl };
    accepted = none-made b.first b.size b.max b.most b.limits i.calls s b.small b.some i.run (few-given b n s i) g
        (inl (advanced_ack_point (flight_of s), making.accepted)) (all-due g.streams s.receiving.receiver none all);
    after = refl;
  }

  -- it is made and followed
  forward-one : reads_nothing s.receiving.receiver ≡ true → list_all (λ m. is_open m.identifier s.receiving.receiver) g.streams ≡ true
      → ((t : Session) → At b n t → t.sending ≡ s.sending → t.receiving.accepted ≡ s.receiving.accepted → t.sacks ≡ s.sacks
      → length t.made ≡ length s.made + 1 → at_or_before p t.receiving.receiver.cumulative_tsn ≡ true → Ends b t) → Ends b s
  forward-one none all next =
      let point = advanced_ack_point (flight_of s) in
      let j = at-same b n (of_sender (forwards point g)) s made-one making refl refl refl (omega arith) (omega arith) (omega arith) i in
      let f = following none all in
      made-before (receiver-before b n (follows g) made-one followed-one j f
      (next followed-one (at-same b n (of_receiver (follows g)) made-one followed-one f refl refl refl (omega arith) (omega arith)
      (let less = followed-cost g s.receiving.receiver in
      let left-before = all-left b n s i none in
      let left-after = lefts-le (after_forward_tsn g s.receiving.receiver).streams in
      omega (arith, less, left-before, left-after)) j) refl refl refl (omega arith) gets-there))
    where
      made-before : Ends b made-one → Ends b s
      made-before x =
          let point = advanced_ack_point (flight_of s) in
          let zero' = no-distance b n s i in
          record {
            alone = sender-before b (forwards point g) s made-one making refl (omega (arith, zero')) x.alone;
            beside = forwards-so b.now b.gone b.sacks b.made s made-one point g making zero' x.beside;
          }

-- ## Caught up

pub record CaughtUp (s t : Session) : Type 0 where
  pub caught : IsCaughtUp t
  pub sending : t.sending ≡ s.sending
  pub sacks : t.sacks ≡ s.sacks
  pub few : spent t ≤ spent s + 1

abbrev pub AreTaken : Session → Type 0
AreTaken s = All (λ c. c.abandoned ≡ false → was_taken c.tsn s ≡ true) (in_flight s)

taken-still : (s t : Session) → t.sending ≡ s.sending → t.receiving.accepted ≡ s.receiving.accepted → AreTaken s → AreTaken t
taken-still s t a e h = grind (arith, nat_tests, common_steps)

module _ (b : Setting) where
  open-names : (ns : List ChunkForwardTsnStream) (n : ℕ) (s : Session) → At b n s → reads_nothing s.receiving.receiver ≡ true
      → ((t : Session) → At b n t → AreOpened ns s t → Ends b t) → Ends b s
  open-names [] n s i none next = next s i (record { rests = rests-same s; unread = none; stays = λ x e. e; all = refl })
  open-names (m ∷ ms) n s i none next = ends-open b m.identifier n s i (λ u j o.
      open-names ms n u j (o.unread none) (λ t k a. next t k (record {
        rests = rests-then s u t o.rests a.rests;
        unread = a.unread;
        stays = λ x e. a.stays x (o.stays x e);
        all = and (is_open m.identifier t.receiving.receiver) (list_all (λ l. is_open l.identifier t.receiving.receiver) ms)
            (a.stays m.identifier o.there) a.all;
      })))

  abbrev EndsCaughtUp : ℕ → Session → Type 0
  EndsCaughtUp n s = (t : Session) → At b n t → CaughtUp s t → Ends b t

  caught-by : (s : Session) (p : ℕ) → skip_end (advanced_ack_point (flight_of s)) (flight_of s) ≡ Some p → AreTaken s
      → at_or_before p s.receiving.receiver.cumulative_tsn ≡ true → IsCaughtUp s
  caught-by s p e taken upto = grind (arith, nat_tests, some-same)

  pub ends-caught-up : (n : ℕ) (s : Session) → At b n s → AreTaken s → EndsCaughtUp n s → Ends b s
  ends-caught-up n s i taken next = by (skip_end (advanced_ack_point (flight_of s)) (flight_of s)) refl
    where
      -- the FORWARD-TSN to the place is made
      forward : (p : ℕ) → skip_end (advanced_ack_point (flight_of s)) (flight_of s) ≡ Some p → Ends b s
      forward p e = ends-read b n s i (λ u j x none. open-names (names (named_up_to p (flight_of s))) n u j none (λ w k o.
          let same : w.sending ≡ s.sending = o.rests.sending ∙ x.sending in
          let skip : skip_end (advanced_ack_point (flight_of w)) (flight_of w) ≡ Some p =
          ap (λ (l : Ledger). skip_end (advanced_ack_point l.sender.flight) l.sender.flight) same ∙ e in
          let all : list_all (λ m. is_open m.identifier w.receiving.receiver) (names (named_up_to p (flight_of w))) ≡ true =
          ap (λ (l : Ledger). list_all (λ m. is_open m.identifier w.receiving.receiver) (names (named_up_to p l.sender.flight))) same ∙ o.all in
          forward-one b n w k p skip o.unread all (λ t l sending accepted sacks made upto.
          let sent : t.sending ≡ s.sending = sending ∙ same in
          let came : t.receiving.accepted ≡ s.receiving.accepted = accepted ∙ o.rests.accepted ∙ x.accepted in
          next t l (record {
            caught = caught-by t p (ap (λ (y : Ledger). skip_end (advanced_ack_point y.sender.flight) y.sender.flight) sent ∙ e)
                (taken-still s t sent came taken) upto;
            sending = sent;
            sacks = sacks ∙ o.rests.sacks ∙ x.sacks;
            few =
                let more = ap length (o.rests.made ∙ x.made) in
                let due-same = due-still (λ c. 1) s t sent came in
                omega (arith, more, made, due-same);
          }))))

      at : (p : ℕ) → skip_end (advanced_ack_point (flight_of s)) (flight_of s) ≡ Some p → (c : Bool)
          → at_or_before p s.receiving.receiver.cumulative_tsn ≡ c → Ends b s
      at p e true upto = next s i (record { caught = caught-by s p e taken upto; sending = refl; sacks = refl; few = omega arith })
      at p e false upto = forward p e

      by : (o : Option ℕ) → skip_end (advanced_ack_point (flight_of s)) (flight_of s) ≡ o → Ends b s
      by None e = next s i (record {
        caught = record { taken = taken; followed = λ tsn h. absurd (none-some tsn (sym e ∙ h)) };
        sending = refl;
        sacks = refl;
        few = omega arith;
      })
      by (Some p) e = at p e (at_or_before p s.receiving.receiver.cumulative_tsn) refl

-- ## A SACK

-- fewer chunks are in flight, and as many wait
pub record Answered (s t : Session) : Type 0 where
  pub waiting : chunks_waiting t.sending.sender ≡ chunks_waiting s.sending.sender
  pub fewer : length (in_flight t) < length (in_flight s)
  pub sacks : length t.sacks ≡ length s.sacks + 1
  pub few : spent t ≤ spent s

-- it makes no more due
after-due : (w : ChunkPayloadData → ℕ) → ((c : ChunkPayloadData) → w (as_acknowledged c) ≤ w c) → (k : Sack) (accepted : List ChunkPayloadData) (f : Flight)
    → due_by w accepted (after_sack k f).queue.inflight.chunks ≤ due_by w accepted f.queue.inflight.chunks
after-due w less k accepted f = grind (arith, nat_tests, sack-due)

first-of : {x y : Sack} {xs ys : List Sack} → x ∷ xs ≡ y ∷ ys → x ≡ y
first-of e = cc

-- each chunk in flight was taken, or its message is abandoned
each-came : (s : Session) → AreTaken s → Every (λ c. (list_any (has_tsn c.tsn) s.receiving.accepted || c.abandoned) ≡ true) (in_flight s)
each-came s h = grind (arith, nat_tests, common_steps, every-of, or-right, or-left, every-of-all)

module _ (b : Setting) where
  -- what is held is no more than what was written
  held-few : (n : ℕ) (s : Session) → At b n s → bytes_written s < 2 ^ 64 → held_by_sender s.sending.sender < 2 ^ 64
  held-few n s i few = let all = accounted b.first b.size b.max b.most b.limits i.calls s i.run in omega (arith, all, few)

  pub ends-answered : (n : ℕ) (s : Session) → At b n s → IsCaughtUp s → 0 < length (in_flight s)
      → ((t : Session) → At b n t → Answered s t → Ends b t) → Ends b s
  ends-answered n s i caught some next =
      let w = window s.receiving.receiver in
      let c = can (base b.first) n s i.few (kept-at b n s i).kept.step (makes_sack w 0) refl in
      let t = c.0 in
      let a = c.1 in
      let u = a.reported in
      let sender : u.sending ≡ s.sending = ap (λ (x : Session). x.sending) a.reporting.after in
      let first = ap (λ (l : Ledger). l.sender.flight.next_tsn) sender in
      let same-there = reporting-of a.call s u a.makes a.reporting in
      let streams = same-there.streams in
      let came = same-there.accepted in
      let left = ap (λ (l : Ledger). length l.sender.flight.queue.inflight.chunks) sender in
      let held = ap (sum_by left_on) streams in
      let due-there = due-still price s u sender came in
      let pending = ap (λ (l : Ledger). l.sender.flight.queue.pending) sender in
      let waiting = ap rest_of pending in
      let j = at-same b n (of_receiver a.call) s u a.reporting refl first pending (omega (arith, left)) (omega (arith, due-there, waiting))
      (omega (arith, held, due-there, waiting)) i in
      let second : next_tsn t ≡ next_tsn u = same-next s t a ∙ sym first in
      let less = (leaves-fewer b.first n s t i.few (reached b n s i) caught a).fewer some in
      let waits = ap (λ p. length p.ordered + length p.unordered) (same-pending s t a) in
      let still = ap rest_of (same-pending s t a) in
      let same = ap (λ (x : Session). x.receiving) a.taking.after in
      let held' = ap (λ (x : Stand). sum_by left_on x.receiver.streams) same in
      let due-after = ap (λ (x : Stand). due_by price x.accepted (in_flight t)) same
      ∙ ap (λ (x : Transmission). due_by price u.receiving.accepted x.flight.queue.inflight.chunks) a.taking.exact in
      let fewer-due = after-due price (λ x. omega arith) a.sack u.receiving.accepted u.sending.sender.flight in
      let due-same = ap (λ (x : Stand). due x.accepted (in_flight t)) same
      ∙ ap (λ (x : Transmission). due u.receiving.accepted x.flight.queue.inflight.chunks) a.taking.exact in
      let due-first = due-still (λ c. 1) s u sender came in
      let due-less = after-due (λ x. 1) (λ x. omega arith) a.sack u.receiving.accepted u.sending.sender.flight in
      let sent-same = ap length (ap (λ (x : Session). x.made) a.taking.after ∙ ap (λ (x : Session). x.made) a.reporting.after) in
      let k = at-same b n (of_sender (takes_sack a.sack a.gone)) u t a.taking refl second (same-pending s t a ∙ sym pending) (omega (arith, less, left))
      (omega (arith, due-after, fewer-due, still, waiting))
      (omega (arith, held', due-after, fewer-due, still, waiting)) j in
      let none : distance (next_tsn u) (next_tsn t) ≡ 0 = ap (distance (next_tsn u)) second ∙ no-distance b n u j in
      let waited = ap (λ (l : Ledger). chunks_waiting l.sender) sender in
      let made = ap length (ap (λ (x : Session). x.sacks) a.taking.after ∙ a.made) in
      let e = next t k (record {
        waiting = omega (arith, waits);
        fewer = less;
        sacks = omega (arith, made);
        few = omega (arith, due-same, due-first, due-less, sent-same);
      }) in
      record {
        alone = receiver-alone b n a.call s u i a.reporting
            (sender-before b (takes_sack a.sack a.gone) u t a.taking refl (omega (arith, none, waits, waited)) e.alone);
        beside =
            let f = subst (λ call. ReceiverFollows call s u) c.2 a.reporting in
            let is : a.sack ≡ sack_within w 0 s.receiving.receiver = first-of (sym a.made ∙ ap (λ (x : Session). x.sacks) f.after) in
            let full = held-few n u j in
            λ m x. answered-so (base b.first) n i.few b.now b.gone b.sacks b.made s u t w f a.gone
            (subst (λ y. SenderFollows (takes_sack y a.gone) u t) is a.taking) (kept-at b n u j).kept.step
            (full (let l = ap bytes_written a.reporting.after in let h = x.short in omega (arith, l, h)))
            (subst (λ (l : Ledger). Every (λ y. (list_any (has_tsn y.tsn) s.receiving.accepted || y.abandoned) ≡ true) l.sender.flight.queue.inflight.chunks)
            (sym sender) (each-came s caught.taken)) (no-distance b n s i) (omega (arith, waits, waited)) e.beside m x;
      }
