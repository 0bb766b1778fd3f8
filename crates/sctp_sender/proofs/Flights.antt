-- TSNs in flight follow one another, whatever is sent, abandoned or marked.
use Rattle.sctp_sender.proofs.Names.{◌≡◌, ℕ, zero, suc, ◌+◌, ◌<◌, ◌%◌, ◌^◌, Bool, true, false, List, [], ◌∷◌, ◌++◌, length, length-append, get_or, Option, Some}
use Rattle.sctp_sender.proofs.Names.{None, refl, ap, sym, ◌∙◌, arith, if◌then◌else◌, ◌==◌, is_some, length-map, ne_eqb, nat_tests, change_where, insert_before}
use Rattle.sctp_sender.proofs.Names.{comes_before, fails, ChunkPayloadData, has_tsn, chunk_before, following_tsn, tsns, as_abandoned, is_of, Outbound}
use Rattle.sctp_sender.proofs.Names.{all_started, sent_of, sent_next, as_sent, abandoned_of, has_tail, message_of, with_terminal_chunk, terminal_chunk}
use Rattle.sctp_sender.proofs.Names.{next_pending, start_pending, last_removed, without, waits, peeked_all_started, last_removed_none, Flight, IsContiguous}
use Rattle.sctp_sender.proofs.Names.{tsns_from, may_send, StandSideBySide, messages_in_line}
use Rattle.sctp_util.specs.Serial.{distance}
use Rattle.sctp_util.proofs.Edits.{find-none}
use Rattle.sctp_util.proofs.Distances.{not_before_from}
use Rattle.sctp_serial.specs.Window.{IsWindow, is_held}
use Rattle.sctp_outbound.specs.outbound_queue.OutboundQueue.{tsn_after_of}
use Rattle.sctp_outbound.specs.payload_queue.PayloadQueue as payload
use Rattle.sctp_outbound.proofs.lemmas.outbound_queue.Abandoned.{no_last}
use Rattle.sctp_sender.proofs.Runs.{IsRunFrom, tsn-at, changed-run}

-- ## The next TSN

apart : (base k : ℕ) → base < 2 ^ 32 → k + 1 < 2 ^ 32 → distance base ((base + 1 + k) % 2 ^ 32) ≡ k + 1
unfolding distance
apart base k small near = omega arith

module _ (f : Flight) (inv : IsContiguous f) where
  at : (k : ℕ) (d : ChunkPayloadData) → k < length f.queue.inflight.chunks → (get_or f.queue.inflight.chunks k d).tsn ≡ (f.acked_tsn + 1 + k) % 2 ^ 32
  at k d lt = let e = tsn-at f.queue.inflight.chunks (following_tsn f.acked_tsn) k d (omega arith) inv.run lt in omega arith

  pub fresh : is_held f.queue.inflight.chunks f.next_tsn ≡ false
  fresh = ap is_some
      (find-none (has_tsn f.next_tsn) f.queue.inflight.chunks (λ k d lt. ne_eqb _ _ (λ e. let h = at k d lt in omega (arith, h, e, inv.next, inv.few, lt))))

  pub window : (base : ℕ) × IsWindow base f.queue.inflight.chunks f.next_tsn
  window = (
    f.acked_tsn,
    record {
      base_in_range = inv.in_range;
      number = let e = ap (distance f.acked_tsn) inv.next in let d = apart f.acked_tsn (length f.queue.inflight.chunks) inv.in_range (omega (arith, inv.few)) in
          (omega (arith, e, d), omega (arith, e, d, inv.few));
      held = λ k d lt. let e = ap (distance f.acked_tsn) (at k d lt) in let h = apart f.acked_tsn k inv.in_range (omega (arith, inv.few, lt)) in
          (omega (arith, e, h), omega (arith, e, h, lt, inv.few));
    },
  )

may : (f : Flight) → may_send f ≡ true → length f.queue.inflight.chunks + 1 < 2 ^ 31
may f h = grind (arith, nat_tests, h)

-- ## The same TSNs, and one more

count : (xs : List ChunkPayloadData) → length (tsns xs) ≡ length xs
count xs = length-map xs (λ c. c.tsn)

pub kept : (f g : Flight) → tsns g.queue.inflight.chunks ≡ tsns f.queue.inflight.chunks → g.next_tsn ≡ f.next_tsn → g.acked_tsn ≡ f.acked_tsn
    → StandSideBySide (messages_in_line g.queue) → IsContiguous f → IsContiguous g
kept f g same next acked line inv =
    let n : length g.queue.inflight.chunks ≡ length f.queue.inflight.chunks = sym (count g.queue.inflight.chunks) ∙ ap length same
    ∙ count f.queue.inflight.chunks in
    record {
      in_range = omega (arith, acked, inv.in_range);
      run = same ∙ inv.run ∙ ap (tsns_from (following_tsn f.acked_tsn)) (sym n)
          ∙ ap (λ a. tsns_from (following_tsn a) (length g.queue.inflight.chunks)) (sym acked);
      next = next ∙ inv.next ∙ ap (λ m. (f.acked_tsn + 1 + m) % 2 ^ 32) (sym n) ∙ ap (λ a. (a + 1 + length g.queue.inflight.chunks) % 2 ^ 32) (sym acked);
      few = omega (arith, n, inv.few);
      side_by_side = line;
    }

one-more : (t n : ℕ) → t < 2 ^ 32 → tsns_from t n ++ ((t + n) % 2 ^ 32) ∷ [] ≡ tsns_from t (suc n)
one-more t zero small = ap (λ u. u ∷ []) {x = (t + 0) % 2 ^ 32} {y = t} (omega arith)
one-more t (suc n) small =
    let e : (t + suc n) % 2 ^ 32 ≡ (following_tsn t + n) % 2 ^ 32 = omega arith in
    ap (λ u. t ∷ (tsns_from (following_tsn t) n ++ u ∷ [])) e ∙ ap (λ ts. t ∷ ts) (one-more (following_tsn t) n (omega arith))

pub grown : (f g : Flight) → tsns g.queue.inflight.chunks ≡ tsns f.queue.inflight.chunks ++ f.next_tsn ∷ [] → g.next_tsn ≡ following_tsn f.next_tsn
    → g.acked_tsn ≡ f.acked_tsn → may_send f ≡ true → StandSideBySide (messages_in_line g.queue) → IsContiguous f → IsContiguous g
grown f g more next acked room line inv =
    let n : length g.queue.inflight.chunks ≡ suc (length f.queue.inflight.chunks) =
    sym (count g.queue.inflight.chunks) ∙ ap length more
    ∙ (let a = length-append (tsns f.queue.inflight.chunks) (f.next_tsn ∷ []) in let b = count f.queue.inflight.chunks in omega arith) in
    let first = following_tsn f.acked_tsn in
    let at : f.next_tsn ≡ (first + length f.queue.inflight.chunks) % 2 ^ 32 = omega (arith, inv.next) in
    let few = may f room in
    record {
      in_range = omega (arith, acked, inv.in_range);
      run =
          more ∙ ap (λ t. tsns f.queue.inflight.chunks ++ t ∷ []) at ∙ ap (λ ts. ts ++ ((first + length f.queue.inflight.chunks) % 2 ^ 32) ∷ []) inv.run
          ∙ one-more first (length f.queue.inflight.chunks) (omega arith) ∙ ap (tsns_from first) (sym n)
          ∙ ap (λ a. tsns_from (following_tsn a) (length g.queue.inflight.chunks)) (sym acked);
      next = omega (arith, next, inv.next, n, acked);
      few = omega (arith, n, few);
      side_by_side = line;
    }

-- ## A chunk with the next TSN goes to the end

pub behind : (first m : ℕ) → first < 2 ^ 32 → 0 < m → m < 2 ^ 31 → comes_before ((first + m) % 2 ^ 32) first ≡ false
unfolding distance
behind first m small pos near = not_before_from ((first + m) % 2 ^ 32) first (omega arith)

pub put-last : (x : ChunkPayloadData) (cs : List ChunkPayloadData) (first : ℕ) → first < 2 ^ 32 → length cs < 2 ^ 31 → IsRunFrom first cs
    → x.tsn ≡ (first + length cs) % 2 ^ 32 → tsns (insert_before chunk_before x cs) ≡ tsns cs ++ x.tsn ∷ []
put-last x [] first small few run is = refl
put-last x (c ∷ cs) first small few run is =
    let head : c.tsn ≡ first = cc in
    let tail : IsRunFrom (following_tsn first) cs = cc in
    let late : comes_before x.tsn c.tsn ≡ false = ap (λ t. comes_before t c.tsn) is ∙ ap (comes_before ((first + suc (length cs)) % 2 ^ 32)) head
    ∙ behind first (suc (length cs)) small (omega arith) (omega (arith, few)) in
    let same : x.tsn ≡ (following_tsn first + length cs) % 2 ^ 32 = omega (arith, is) in
    ap (λ b. tsns (if b then x ∷ c ∷ cs else c ∷ insert_before chunk_before x cs)) late
    ∙ ap (λ ts. c.tsn ∷ ts) (put-last x cs (following_tsn first) (omega arith) (omega (arith, few)) tail same)

-- put behind chunks that have the TSNs of those in flight
put-in : (f : Flight) (x : ChunkPayloadData) (cs : List ChunkPayloadData) → IsContiguous f → tsns cs ≡ tsns f.queue.inflight.chunks → x.tsn ≡ f.next_tsn
    → tsns (insert_before chunk_before x cs) ≡ tsns f.queue.inflight.chunks ++ f.next_tsn ∷ []
put-in f x cs inv same is =
    let n : length cs ≡ length f.queue.inflight.chunks = sym (count cs) ∙ ap length same ∙ count f.queue.inflight.chunks in
    put-last x cs (following_tsn f.acked_tsn) (omega arith) (omega (arith, n, inv.few)) (same ∙ inv.run ∙ ap (tsns_from (following_tsn f.acked_tsn)) (sym n))
    (omega (arith, is, inv.next, n)) ∙ ap (λ ts. ts ++ x.tsn ∷ []) same ∙ ap (λ t. tsns f.queue.inflight.chunks ++ t ∷ []) is

-- ## Sending

pub started-inflight : (now : ℕ) (q : Outbound) → (all_started now q).inflight ≡ q.inflight
started-inflight now q = by (q.next_unstarted == q.next_message_id)
  where
    by : (b : Bool)
        → (if b then q else record q { pending = start_pending q.next_unstarted now q.pending; next_unstarted = q.next_message_id }).inflight ≡ q.inflight
    by true = refl
    by false = refl

pub sent : (f : Flight) (now : ℕ) (then' : Outbound) (next : ℕ) → IsContiguous f → may_send f ≡ true → then' ≡ sent_next f.queue f.next_tsn now
    → next ≡ (if is_some (next_pending f.queue.pending) then following_tsn f.next_tsn else f.next_tsn) → StandSideBySide (messages_in_line then')
    → IsContiguous (record { queue = then'; next_tsn = next; acked_tsn = f.acked_tsn })
sent f now then' next inv room is raised line = by (next_pending (all_started now f.queue).pending) (peeked_all_started now f.queue) is
  where
    same : tsns (all_started now f.queue).inflight.chunks ≡ tsns f.queue.inflight.chunks
    same = ap (λ (p : payload.Payload). tsns p.chunks) (started-inflight now f.queue)

    by : (o : Option ChunkPayloadData) → is_some o ≡ is_some (next_pending f.queue.pending) → then' ≡ sent_of o (all_started now f.queue) f.next_tsn now
        → IsContiguous (record { queue = then'; next_tsn = next; acked_tsn = f.acked_tsn })
    by None none e = kept f (record { queue = then'; next_tsn = next; acked_tsn = f.acked_tsn }) (ap (λ (o : Outbound). tsns o.inflight.chunks) e ∙ same)
        (raised ∙ ap (λ b. if b then following_tsn f.next_tsn else f.next_tsn) (sym none)) refl line inv
    by (Some c) some e =
        grown f (record { queue = then'; next_tsn = next; acked_tsn = f.acked_tsn })
        (ap (λ (o : Outbound). tsns o.inflight.chunks) e ∙ put-in f (as_sent f.next_tsn now c) (all_started now f.queue).inflight.chunks inv same refl)
        (raised ∙ ap (λ b. if b then following_tsn f.next_tsn else f.next_tsn) (sym some)) refl room line inv

-- ## Abandoning

-- what is to be abandoned has a tail only where it is there
pub tail-there : (o : Option ChunkPayloadData) (q : Outbound) → has_tail (message_of o) q ≡ true → is_some o ≡ true
tail-there None q e = e
tail-there (Some c) q e = refl

pub after-abandoning : (f : Flight) (o : Option ℕ) (then' : Outbound) (next : ℕ) → IsContiguous f → (has_tail o f.queue ≡ true → may_send f ≡ true)
    → then' ≡ abandoned_of o f.next_tsn f.queue → next ≡ tsn_after_of o f.next_tsn f.queue → StandSideBySide (messages_in_line then')
    → IsContiguous (record { queue = then'; next_tsn = next; acked_tsn = f.acked_tsn })
after-abandoning f None then' next inv room is raised line =
    kept f (record { queue = then'; next_tsn = next; acked_tsn = f.acked_tsn }) (ap (λ (o : Outbound). tsns o.inflight.chunks) is) raised refl line inv
after-abandoning f (Some m) then' next inv room is raised line = by (last_removed m f.queue.pending) refl is
  where
    by : (o : Option ChunkPayloadData) → last_removed m f.queue.pending ≡ o → then' ≡ record f.queue {
      pending = without m f.queue.pending;
      inflight = with_terminal_chunk o f.next_tsn (payload.with_chunks f.queue.inflight (change_where (is_of m) as_abandoned f.queue.inflight.chunks));
    } → IsContiguous (record { queue = then'; next_tsn = next; acked_tsn = f.acked_tsn })
    by None none e =
        let still : waits m f.queue.pending ≡ false = fails (waits m f.queue.pending) (λ t. no_last m f.queue.pending t none) in
        kept f (record { queue = then'; next_tsn = next; acked_tsn = f.acked_tsn })
        (ap (λ (o : Outbound). tsns o.inflight.chunks) e ∙ changed-run (is_of m) as_abandoned (λ c. refl) f.queue.inflight.chunks)
        (raised ∙ ap (λ b. if b then following_tsn f.next_tsn else f.next_tsn) still) refl line inv
    by (Some c) some e = tail (waits m f.queue.pending) refl
      where
        tail : (b : Bool) → waits m f.queue.pending ≡ b → IsContiguous (record { queue = then'; next_tsn = next; acked_tsn = f.acked_tsn })
        tail false w = let none = last_removed_none m f.queue.pending w in absurd (cc)
        tail true w =
            grown f (record { queue = then'; next_tsn = next; acked_tsn = f.acked_tsn })
            (ap (λ (o : Outbound). tsns o.inflight.chunks) e ∙ put-in f (terminal_chunk f.next_tsn c)
            (change_where (is_of m) as_abandoned f.queue.inflight.chunks) inv (changed-run (is_of m) as_abandoned (λ d. refl) f.queue.inflight.chunks) refl)
            (raised ∙ ap (λ b. if b then following_tsn f.next_tsn else f.next_tsn) w) refl (room w) line inv
