-- In a whole life the chunks in flight stand for the last entries, one after another, while fewer than 2^31 are in flight.
use Rattle.sctp_delivery.proofs.Names.{common_steps, nat_tests, ◌≡◌, ℕ, zero, suc, ◌+◌, ◌%◌, ◌<◌, ◌^◌, Bool, true, false, List, [], ◌∷◌, ◌++◌, length, take}
use Rattle.sctp_delivery.proofs.Names.{drop, refl, ap, sym, subst, ◌∙◌, arith, inl, inr, if◌then◌else◌, Option, Some, None, change_where, insert_before}
use Rattle.sctp_delivery.proofs.Names.{length-append, length-drop, find, option_map, tsn, tsns, ChunkPayloadData, data_of, chunk_before, as_abandoned}
use Rattle.sctp_delivery.proofs.Names.{as_acknowledged, as_sent, is_of, terminal_chunk, has_tsn, following_tsn, all_started, started-inflight, with_inflight}
use Rattle.sctp_delivery.proofs.Names.{after_abandonment, after_sack, take_sack, is_outdated, sack_refusal, reports_anew, message_to_abandon, abandoned_at}
use Rattle.sctp_delivery.proofs.Names.{abandoned_each, after_misses, can_miss, missed, sent_next, next_after_send, next_pending, last_removed, no_last, waits}
use Rattle.sctp_delivery.proofs.Names.{partially_sent, IsRunFrom, tsns_from, changed-run, past-is, Flight, Sack, Released, Transmission, SenderCall}
use Rattle.sctp_delivery.proofs.Names.{SenderFollows, Session, Outbound, sent_of, with_terminal_chunk, fragments_with_mode, with_message, is_ordered_on}
use Rattle.sctp_delivery.proofs.Names.{found-partial, peeked_all_started}
use Rattle.std.specs.Prelude.{is_some}
use Rattle.sctp_outbound.specs.payload_queue.PayloadQueue as payload
use Rattle.sctp_outbound.proofs.lemmas.outbound_queue.Abandoned.{last_removed_none}
use Rattle.sctp_sender.proofs.InLine.{put-behind}
use Rattle.sctp_sender.specs.Flight.{count_acked, with_queue}
use Rattle.sctp_delivery.specs.SenderCalls as outgoing
use Rattle.sctp_delivery.proofs.Calls.{sent_by}
use Rattle.sctp_delivery.proofs.Cases.{all_streams, where-is}
use Rattle.sctp_delivery.proofs.Changes.{Change, acknowledges, all_start, changes, each_leaves, flight_after, front_expires, more_room, nothing, one_leaves}
use Rattle.sctp_delivery.proofs.Changes.{partial-found, some_marked, some_missed}
use Rattle.sctp_delivery.proofs.Delivered.{HoldsOn, Sends, next_tsn, sender-step-on}
use Rattle.sctp_delivery.proofs.FewInFlight.{IsInRun, IsSmall, raised-run, sack-place}
use Rattle.sctp_delivery.proofs.GivenTsns.{raises-abandoned, raises-each}
use Rattle.sctp_delivery.proofs.OrderedEntries.{AreIndexedOn, IsIndexed, IsLatest, begun_on, ends_on}
use Rattle.sctp_delivery.proofs.OrderedRest.{last-rest}
use Rattle.sctp_delivery.proofs.Queues.{Abandons, IsEnded, StandsOn}
use Rattle.sctp_delivery.proofs.Numbers.{number_of}
use Rattle.sctp_delivery.proofs.SackSteps.{message-inflight}
use Rattle.sctp_delivery.proofs.Senders.{IsMoreBy, gone-one}
use Rattle.sctp_delivery.proofs.Sent.{Entry, Numbered, fragment, terminal}
use Rattle.sctp_delivery.proofs.SpreadEntries.{IsStep, at-more, at-here, ordered-alike, step-alike, step-fragment, step-terminal, to-all, to-more}
use Rattle.sctp_delivery.proofs.SpreadFlight.{AreOn, AreSteps}
use Rattle.sctp_delivery.proofs.TsnPlaces.{base, tsn-small}
use Rattle.sctp_delivery.proofs.Writing.{accepted-stream}

-- ## Chunks that are alike

pub record IsKin (c d : ChunkPayloadData) : Type 0 where
  pub stream : d.stream_identifier ≡ c.stream_identifier
  pub kind : d.unordered ≡ c.unordered
  pub number : d.stream_sequence_number ≡ c.stream_sequence_number

abbrev pub AreKin : List ChunkPayloadData → List ChunkPayloadData → Type 0
AreKin [] [] = Unit {0}
AreKin [] (d ∷ ds) = ⊥
AreKin (c ∷ cs) [] = ⊥
AreKin (c ∷ cs) (d ∷ ds) = IsKin c d × AreKin cs ds

pub kin-itself : (cs : List ChunkPayloadData) → AreKin cs cs
kin-itself [] = tt
kin-itself (c ∷ cs) = (record { stream = refl; kind = refl; number = refl }, kin-itself cs)

pub kin-long : (cs ds : List ChunkPayloadData) → AreKin cs ds → length cs ≡ length ds
kin-long [] [] k = refl
kin-long [] (d ∷ ds) k = absurd k
kin-long (c ∷ cs) [] k = absurd k
kin-long (c ∷ cs) (d ∷ ds) k = ap suc (kin-long cs ds k.1)

module _ (p : ChunkPayloadData → Bool) (f : ChunkPayloadData → ChunkPayloadData) (kin : (c : ChunkPayloadData) → IsKin c (f c)) where
  kin-changed : (cs : List ChunkPayloadData) → AreKin cs (change_where p f cs)
  kin-changed [] = tt
  kin-changed (c ∷ cs) = grind (arith, nat_tests, common_steps, kin-changed cs)

  kin-part : (i : ℕ) (cs : List ChunkPayloadData) → AreKin cs (change_where p f (take i cs) ++ drop i cs)
  kin-part zero cs = kin-itself cs
  kin-part (suc i) [] = tt
  kin-part (suc i) (c ∷ cs) = grind (arith, nat_tests, common_steps, kin-part i cs)

-- ## Places

abbrev pub AreSet : ℕ → List Entry → ℕ → List ChunkPayloadData → Type 0
AreSet st sent a cs = AreSteps st sent a cs × AreOn st sent a cs

module _ (st : ℕ) (sent : List Entry) where
  pub set-kin : (a : ℕ) (cs ds : List ChunkPayloadData) → AreKin cs ds → AreSet st sent a cs → AreSet st sent a ds
  set-kin a [] [] k s = s
  set-kin a [] (d ∷ ds) k s = absurd k
  set-kin a (c ∷ cs) [] k s = absurd k
  set-kin a (c ∷ cs) (d ∷ ds) k s = grind (arith, nat_tests, common_steps, step-alike, ordered-alike, set-kin (a + 1) cs ds k.1 (s.0.1, s.1.1))

  set-drop : (k a : ℕ) (cs : List ChunkPayloadData) → AreSet st sent a cs → AreSet st sent (a + k) (drop k cs)
  set-drop zero a cs s = subst (λ b. AreSet st sent b cs) {x = a} {y = a + 0} (omega arith) s
  set-drop (suc k) a [] s = (tt, tt)
  set-drop (suc k) a (c ∷ cs) s =
      subst (λ b. AreSet st sent b (drop k cs)) {x = a + 1 + k} {y = a + suc k} (omega arith) (set-drop k (a + 1) cs (s.0.1, s.1.1))

  -- with one more entry, and its chunk
  set-put : (e : Entry) (x : ChunkPayloadData) → IsStep st (begun_on st sent) (begun_on st (e ∷ sent)) x → is_ordered_on st x ≡ ends_on st (e ∷ sent)
      → (a : ℕ) (cs : List ChunkPayloadData) → a + length cs ≡ length sent → AreSet st sent a cs → AreSet st (e ∷ sent) a (cs ++ x ∷ [])
  set-put e x s o a [] long k = grind (arith, nat_tests, common_steps, to-more, to-all, at-here)
  set-put e x s o a (c ∷ cs) long k = grind (arith, nat_tests, common_steps, to-more, at-more, set-put e x s o (a + 1) cs (omega (arith, long)) (k.0.1, k.1.1))

-- those in flight stand for the last entries, on the streams on which numbers go on
pub record IsSetOn (going : ℕ → Bool) (first : ℕ) (f : Flight) (sent : List Entry) : Type 0 where
  pub acked : ℕ
  pub total : acked + length f.queue.inflight.chunks ≡ length sent
  pub is : f.acked_tsn ≡ tsn (base first) acked
  pub set : (st : ℕ) → going st ≡ true → AreSet st sent acked f.queue.inflight.chunks

abbrev pub IsSet : ℕ → Flight → List Entry → Type 0
IsSet first f sent = IsSetOn all_streams first f sent

pub same-set : (going : ℕ → Bool) (first : ℕ) (f g : Flight) (sent : List Entry) → g.acked_tsn ≡ f.acked_tsn
    → AreKin f.queue.inflight.chunks g.queue.inflight.chunks → IsSetOn going first f sent → IsSetOn going first g sent
same-set going first f g sent acked kin s = grind (arith, nat_tests, common_steps, kin-long, set-kin)

abbrev kin-chunks : (f : Flight) (cs : List ChunkPayloadData) → cs ≡ f.queue.inflight.chunks → AreKin f.queue.inflight.chunks cs
kin-chunks f cs e = subst (AreKin f.queue.inflight.chunks) (sym e) (kin-itself f.queue.inflight.chunks)

-- the chunk stands for the entry behind these
record IsNextFor (st : ℕ) (sent : List Entry) (e : Entry) (x : ChunkPayloadData) : Type 0 where
  step : IsStep st (begun_on st sent) (begun_on st (e ∷ sent)) x
  on : is_ordered_on st x ≡ ends_on st (e ∷ sent)

put-set : (going : ℕ → Bool) (first : ℕ) (f g : Flight) (sent : List Entry) (e : Entry) (x : ChunkPayloadData) (ds : List ChunkPayloadData)
    → AreKin f.queue.inflight.chunks ds → tsns ds ≡ tsns f.queue.inflight.chunks → g.queue.inflight.chunks ≡ insert_before chunk_before x ds
    → g.acked_tsn ≡ f.acked_tsn → x.tsn ≡ f.next_tsn → length f.queue.inflight.chunks < 2 ^ 31 → IsInRun f
    → ((st : ℕ) → going st ≡ true → IsNextFor st sent e x) → IsSetOn going first f sent → IsSetOn going first g (e ∷ sent)
put-set going first f g sent e x ds kin same put acked is few run next s =
    let cs = f.queue.inflight.chunks in
    let long = kin-long cs ds kin in
    let start = tsn f.acked_tsn (run.acked + 1) in
    let next-is = run.next_is in
    let total = run.total in
    let run' : IsRunFrom start ds = same ∙ run.run ∙ ap (λ n. tsns_from start n) long in
    let at-end : insert_before chunk_before x ds ≡ ds ++ x ∷ [] =
    put-behind x ds start (tsn-small f.acked_tsn (run.acked + 1)) (omega (arith, few, long)) run' (omega (arith, is, next-is, total, long)) in
    let now : g.queue.inflight.chunks ≡ ds ++ x ∷ [] = put ∙ at-end in
    let n = ap length now in
    let l = length-append ds (x ∷ []) in
    let t = s.total in
    record {
      acked = s.acked;
      total = omega (arith, n, l, t, long);
      is = acked ∙ s.is;
      set = λ st o. subst (AreSet st (e ∷ sent) s.acked) (sym now)
          (set-put st sent e x (next st o).step (next st o).on s.acked ds (omega (arith, t, long)) (set-kin st sent s.acked cs ds kin (s.set st o)));
    }

-- ## A SACK

sack-set : (going : ℕ → Bool) (first : ℕ) (k : Sack) (f : Flight) (sent : List Entry) → IsSmall k.cumulative_tsn_ack → length f.queue.inflight.chunks < 2 ^ 31
    → sack_refusal k f ≡ None → IsInRun f → IsSetOn going first f sent → IsSetOn going first (after_sack k f) sent
sack-set going first k f sent small few none run s = by (is_outdated k f) refl
  where
    by : (b : Bool) → is_outdated k f ≡ b → IsSetOn going first (if b then f else take_sack k f) sent
    by true e = s
    by false e =
        let cs = f.queue.inflight.chunks in
        let n = length cs in
        let c = count_acked k f in
        let ds = change_where (reports_anew k) as_acknowledged cs in
        let kin = kin-changed (reports_anew k) as_acknowledged (λ d. record { stream = refl; kind = refl; number = refl }) cs in
        let long = kin-long cs ds kin in
        let at = sack-place k f small none run e in
        let total = run.total in
        let is = run.acked_is in
        let fits : f.acked_tsn < 2 ^ 32 = let t = tsn-small f.acked_tsn run.acked in omega (arith, t, is) in
        let first' : tsn f.acked_tsn (run.acked + 1) ≡ following_tsn f.acked_tsn = omega (arith, total, fits) in
        let run' : IsRunFrom (following_tsn f.acked_tsn) ds = changed-run (reports_anew k) as_acknowledged (λ d. refl) cs ∙ run.run
        ∙ ap (λ t. tsns_from t n) first' ∙ ap (tsns_from (following_tsn f.acked_tsn)) long in
        let le = at.0 in
        let left : payload.past k.cumulative_tsn_ack ds ≡ drop c ds =
        past-is ds f.acked_tsn k.cumulative_tsn_ack fits small (omega (arith, few, long)) (omega (arith, le, long)) run' in
        let m = ap length left in
        let d = length-drop c ds in
        let t = s.total in
        let cum = at.1 in
        let was = s.is in
        record {
          acked = s.acked + c;
          total = omega (arith, m, d, t, le, long);
          is = omega (arith, cum, was);
          set = λ st o. subst (AreSet st sent (s.acked + c)) (sym left) (set-drop st sent c s.acked ds (set-kin st sent s.acked cs ds kin (s.set st o)));
        }

-- ## A message is abandoned

-- as many entries more are the same ones
one-end : (first next : ℕ) (sent xs ys : List Entry) → IsEnded sent xs → IsEnded sent ys → next ≡ (first + length xs) % 2 ^ 32
    → next ≡ (first + length ys) % 2 ^ 32 → xs ≡ ys
one-end h0 h1 h2 h3 h4 h5 h6 h7 h8 = grind (arith, nat_tests, common_steps)

-- where no TSN is given out, there is no entry more; and where one is, it is a terminal one
still : (first next : ℕ) (sent more : List Entry) → IsEnded sent more → next ≡ (first + length sent) % 2 ^ 32 → next ≡ (first + length more) % 2 ^ 32
    → more ≡ sent
still first next sent more (inl e) a b = e
still first next sent more (inr e) a b = let n = ap length e in absurd (omega (arith, n, a, b))

moved : (first next : ℕ) (sent more : List Entry) → IsEnded sent more → next ≡ (first + length sent) % 2 ^ 32
    → following_tsn next ≡ (first + length more) % 2 ^ 32 → more ≡ terminal ∷ sent
moved first next sent more (inl e) a b = let n = ap length e in absurd (omega (arith, n, a, b))
moved first next sent more (inr e) a b = e

module _ (going : ℕ → Bool) (ws : List Numbered) (first : ℕ) (number : ℕ → ℕ) where
  leave-set : (f : Flight) (sent : List Entry) (h : StandsOn going ws first number f.queue f.next_tsn sent) (o : Option ℕ)
      → ((m : ℕ) → o ≡ Some m → waits m f.queue.pending ≡ true → partially_sent f.queue.pending ≡ Some m) → length f.queue.inflight.chunks < 2 ^ 31
      → IsInRun f → IsSetOn going first f sent → (more : List Entry) → IsEnded sent more → (after_abandonment o f).next_tsn ≡ (first + length more) % 2 ^ 32
      → IsSetOn going first (after_abandonment o f) more
  leave-set f sent h None partial few run s more ended counted = grind (arith, nat_tests, common_steps)
  leave-set f sent h (Some m) partial few run s more ended counted = by (waits m f.queue.pending) refl
    where
      cs : List ChunkPayloadData
      cs = f.queue.inflight.chunks

      ds : List ChunkPayloadData
      ds = change_where (is_of m) as_abandoned cs

      kin : AreKin cs ds
      kin = kin-changed (is_of m) as_abandoned (λ d. record { stream = refl; kind = refl; number = refl }) cs

      by : (b : Bool) → waits m f.queue.pending ≡ b → IsSetOn going first (after_abandonment (Some m) f) more
      by false w =
          let next : f.next_tsn ≡ (first + length more) % 2 ^ 32 = subst (λ b. (if b then following_tsn f.next_tsn else f.next_tsn)
          ≡ (first + length more) % 2 ^ 32) w counted in
          let chunks : (after_abandonment (Some m) f).queue.inflight.chunks ≡ change_where (is_of m) as_abandoned f.queue.inflight.chunks =
          ap (λ o. (with_terminal_chunk o f.next_tsn (payload.with_chunks f.queue.inflight
          (change_where (is_of m) as_abandoned f.queue.inflight.chunks))).chunks) (last_removed_none m f.queue.pending w) in
          subst (IsSetOn going first (after_abandonment (Some m) f)) (sym (still first f.next_tsn sent more ended h.counted next))
          (same-set going first f (after_abandonment (Some m) f) sent refl (subst (AreKin f.queue.inflight.chunks) (sym chunks) kin) s)
      by true w = from (last_removed m f.queue.pending) refl
        where
          from : (o : Option ChunkPayloadData) → last_removed m f.queue.pending ≡ o → IsSetOn going first (after_abandonment (Some m) f) more
          from None e = absurd (no_last m f.queue.pending w e)
          from (Some c) e =
              let t = terminal_chunk f.next_tsn c in
              let next : following_tsn f.next_tsn ≡ (first + length more) % 2 ^ 32 = subst (λ b. (if b then following_tsn f.next_tsn else f.next_tsn)
              ≡ (first + length more) % 2 ^ 32) w counted in
              let rest = last-rest going ws first number sent m c f.queue.pending f.queue.inflight.chunks f.queue.next_message_id h.sendable
              (partial m refl w) e h.queued in
              let chunks : (after_abandonment (Some m) f).queue.inflight.chunks
              ≡ insert_before chunk_before (terminal_chunk f.next_tsn c) (change_where (is_of m) as_abandoned f.queue.inflight.chunks) =
              ap (λ o. (with_terminal_chunk o f.next_tsn (payload.with_chunks f.queue.inflight
              (change_where (is_of m) as_abandoned f.queue.inflight.chunks))).chunks) e in
              subst (IsSetOn going first (after_abandonment (Some m) f)) (sym (moved first f.next_tsn sent more ended h.counted next))
              (put-set going first f (after_abandonment (Some m) f) sent terminal t (change_where (is_of m) as_abandoned f.queue.inflight.chunks) kin
              (changed-run (is_of m) as_abandoned (λ d. refl) f.queue.inflight.chunks) chunks refl refl few run
              (λ st o. record {
                step = step-terminal st t sent (λ same. where-is (going t.stream_identifier)
                    (t.unordered ≡ false → IsLatest (begun_on t.stream_identifier sent) t.stream_sequence_number) (ap going same ∙ o) rest.0);
                on = rest.1 st;
              }) s)

  -- several, one after another
  leave-each : (ts : List ℕ) (f : Flight) (sent : List Entry) → StandsOn going ws first number f.queue f.next_tsn sent
      → length (abandoned_each ts f).queue.inflight.chunks < 2 ^ 31 → IsInRun f → IsSetOn going first f sent
      → (a : Abandons going ws first number sent f.queue (abandoned_each ts f).queue (abandoned_each ts f).next_tsn)
      × IsSetOn going first (abandoned_each ts f) a.more
  leave-each [] f sent h few run s = (record { more = sent; stands = h; ended = inl refl; last = inl refl; none = λ e. (refl, e) }, s)
  leave-each (t ∷ ts) f sent h few run s =
      let g = abandoned_at t f in
      let o = message_to_abandon t f in
      let r = raises-abandoned f.acked_tsn 1 o f (omega arith) in
      let all = raises-each g.acked_tsn ts g in
      let long = r.long in
      let rest = all.long in
      let a = gone-one going ws first number f sent h t in
      let run' = raised-run 1 f g r (omega (arith, few, rest)) run in
      let one = leave-set f sent h o (found-partial f.queue h.sendable t (find (has_tsn t) f.queue.inflight.chunks) refl) (omega (arith, few, long, rest))
      run s a.more a.ended a.stands.counted in
      let b = leave-each ts g a.more a.stands few run' one in (
        record {
          more = b.0.more;
          stands = b.0.stands;
          ended = elim a.last [
            | inl e ↦ subst (λ z. IsEnded z b.0.more) e b.0.ended
            | inr e ↦ subst (IsEnded sent) (sym (b.0.none e).0) a.ended
          ];
          last = elim b.0.last [
            | inr e ↦ inr e
            | inl e ↦ elim a.last [ inl k ↦ inl (e ∙ k) | inr k ↦ inr (b.0.none k).1 ]
          ];
          none = λ e. let x = a.none e in let y = b.0.none x.1 in (y.0 ∙ x.0, y.1);
        },
        b.1,
      )

-- ## A call of the sender

module _ (going : ℕ → Bool) (first : ℕ) (call : SenderCall) (old new : Session) (ns : List Numbered) (sent : List Entry) (f : SenderFollows call old new)
    (h : HoldsOn going first old ns sent) (was : length old.sending.sender.flight.queue.inflight.chunks < 2 ^ 31)
    (few : length new.sending.sender.flight.queue.inflight.chunks < 2 ^ 31) (run : IsInRun old.sending.sender.flight)
    (small : (k : Sack) (gone : List Released) → call ≡ outgoing.takes_sack k gone → IsSmall k.cumulative_tsn_ack)
    (s : IsSetOn going first old.sending.sender.flight sent) where
  abbrev u : Transmission
  u = old.sending.sender

  abbrev x : Sends going first call old new ns sent
  x = sender-step-on going first call old new ns sent f h

  abbrev counted : next_tsn old ≡ (first + length sent) % 2 ^ 32
  counted = h.held.stands.counted

  -- where the next TSN stays as it is
  quiet-set : (g : Flight) → g.next_tsn ≡ u.flight.next_tsn → (more : List Entry) → IsEnded sent more → g.next_tsn ≡ (first + length more) % 2 ^ 32
      → IsSetOn going first g sent → IsSetOn going first g more
  quiet-set g e more ended to i = subst (IsSetOn going first g) (sym (still first g.next_tsn sent more ended (e ∙ counted) to)) i

  change-set : (c : SenderCall) → c ≡ call → outgoing.IsAccepted c u → (ch : Change c u) → length (flight_after c u ch).queue.inflight.chunks < 2 ^ 31
      → (more : List Entry) → IsEnded sent more → (flight_after c u ch).next_tsn ≡ (first + length more) % 2 ^ 32
      → IsSetOn going first (flight_after c u ch) more
  change-set c is ok nothing few' more ended to = quiet-set u.flight refl more ended to s
  change-set c is ok (all_start now) few' more ended to = grind (arith, nat_tests, common_steps)
  change-set c is ok (more_room count) few' more ended to = grind (arith, nat_tests, common_steps)
  change-set c is ok (some_marked p q k) few' more ended to =
      let g = with_queue u.flight (with_inflight u.flight.queue (change_where p q u.flight.queue.inflight.chunks)) in
      quiet-set g refl more ended to
      (same-set going first u.flight g sent refl (kin-changed p q (λ d. record {
        stream = ap (λ (y : ChunkPayloadData). y.stream_identifier) (k d);
        kind = ap (λ (y : ChunkPayloadData). y.unordered) (k d);
        number = ap (λ (y : ChunkPayloadData). y.stream_sequence_number) (k d);
      }) u.flight.queue.inflight.chunks) s)
  change-set c is ok (some_missed count) few' more ended to =
      let g = after_misses count u.flight in
      quiet-set g refl more ended to
      (same-set going first u.flight g sent refl (kin-part can_miss missed (λ d. record { stream = refl; kind = refl; number = refl }) count
      u.flight.queue.inflight.chunks) s)
  change-set c is ok (one_leaves o e found) few' more ended to =
      leave-set going ns first (λ r. number_of r u.streams) u.flight sent h.held.stands o
      (partial-found u h.held.stands.sendable o found) was run s more ended to
  change-set c is ok (each_leaves ts short e) few' more ended to =
      let r = leave-each going ns first (λ r. number_of r u.streams) ts u.flight sent h.held.stands few' run s in
      let g = abandoned_each ts u.flight in
      subst (IsSetOn going first g) (one-end first g.next_tsn sent r.0.more more r.0.ended ended r.0.stands.counted to) r.1
  change-set c is ok (front_expires now d found e) few' more ended to = grind (arith, nat_tests, common_steps)
  change-set c is ok (acknowledges k gone e) few' more ended to = grind (arith, quiet-set, sack-set)

  to-flight : (v : Flight) → new.sending.sender.flight ≡ v → (v.next_tsn ≡ (first + length x.more) % 2 ^ 32 → IsSetOn going first v x.more)
      → IsSetOn going first new.sending.sender.flight x.more
  to-flight v e k = grind (arith, nat_tests, common_steps)

  sent-set : (now : ℕ) (o : Option ChunkPayloadData) → next_pending (all_started now u.flight.queue).pending ≡ o
      → IsMoreBy (option_map (as_sent u.flight.next_tsn now) o) sent x.more → (v : Flight) → v.acked_tsn ≡ u.flight.acked_tsn
      → v.queue ≡ sent_of o (all_started now u.flight.queue) u.flight.next_tsn now
      → v.next_tsn ≡ (if is_some o then following_tsn u.flight.next_tsn else u.flight.next_tsn) → v.next_tsn ≡ (first + length x.more) % 2 ^ 32
      → IsSetOn going first v x.more
  sent-set now None e grown v acked queue next to = grind (arith, nat_tests, common_steps)
  sent-set now (Some c) e grown v acked queue next to =
      let t = as_sent u.flight.next_tsn now c in
      let cs = u.flight.queue.inflight.chunks in
      let chunks : v.queue.inflight.chunks ≡ insert_before chunk_before t cs = ap (λ (q : Outbound). q.inflight.chunks) queue
      ∙ ap (λ (w : payload.Payload). insert_before chunk_before t w.chunks) (started-inflight now u.flight.queue) in
      let entry = fragment (data_of t) grown.0 grown.1 in
      let indexed = subst (AreIndexedOn going) grown.2 x.holds.held.stands.queued.indexed in
      subst (IsSetOn going first v) (sym grown.2)
      (put-set going first u.flight v sent entry t cs (kin-itself cs) refl chunks acked refl was run
      (λ st o. record {
        step = step-fragment st t grown.0 grown.1 sent
            (λ same. where-is (going t.stream_identifier) (IsIndexed (data_of t) sent) (ap going same ∙ o) indexed.0);
        on = refl;
      }) s)

  to-set : (c : SenderCall) → c ≡ call → SenderFollows c old new → IsMoreBy (sent_by c u) sent x.more → IsSetOn going first new.sending.sender.flight x.more
  to-set (outgoing.writes stream ppi (b ∷ bs)) is g grown =
      let l = accepted-stream stream (length (b ∷ bs)) u g.accepted in
      let cs = fragments_with_mode l.0 ppi (b ∷ bs) in
      let v = with_queue u.flight (with_message cs u.flight.queue) in
      to-flight v (ap (λ (y : Transmission). y.flight) (g.exact.1 (omega arith) l.0 l.1)) (λ to. quiet-set v refl x.more grown to
      (same-set going first u.flight v sent refl (kin-chunks u.flight v.queue.inflight.chunks (ap (λ (w : payload.Payload). w.chunks)
      (message-inflight cs u.flight.queue))) s))
  to-set (outgoing.sends now) is g grown =
      let v = record u.flight { queue = sent_next u.flight.queue u.flight.next_tsn now; next_tsn = next_after_send u.flight } in
      to-flight v (ap (λ (y : Transmission). y.flight) g.exact) (λ to.
      sent-set now (next_pending (all_started now u.flight.queue).pending) refl grown v refl refl
      (ap (λ b. if b then following_tsn u.flight.next_tsn else u.flight.next_tsn) (sym (peeked_all_started now u.flight.queue))) to)
  to-set c is g grown =
      let ch = changes u new.sending.sender c refl g.step.sender g.exact in
      to-flight (flight_after c u ch.change) ch.flight (λ to.
      change-set c is g.accepted ch.change (subst (λ (y : Flight). length y.queue.inflight.chunks < 2 ^ 31) ch.flight few) x.more grown to)

  pub sender-set : IsSetOn going first new.sending.sender.flight x.more
  sender-set = to-set call refl f x.grown
