-- Lifetimes start.
use Rattle.sctp_link.proofs.Names.{◌≡◌, ℕ, zero, suc, ◌<◌, ◌≤◌, true, false, List, [], ◌∷◌, length, map, Option, Some, None, refl, ap, sym, ◌∙◌, arith}
use Rattle.sctp_link.proofs.Names.{slice_index_or, is_some, not, nat_le, subst, nat_tests, length-mapped, Outbound, all_started, no_message, ordered_before}
use Rattle.sctp_link.proofs.Names.{after_start, start_lifetime, reply_to, refines-started, all-begun, before-started, Message, message_record, progress_of}
use Rattle.sctp_link.proofs.Names.{with_start, start_from, State, IsLinked, stands-then, stream-quiet, begun-kept, fragments-same, written-kept}
use Rattle.sctp_model.specs.declared.event.Event.TheVariants as E
use Rattle.sctp_model.proofs.sender.Moves
use Rattle.sctp_link.proofs.upkeep.Frames.{stream-same, indexed-kept, encodings-same}
use Rattle.sctp_link.proofs.upkeep.Facts.{told}

-- ## The messages

-- those from a place on start, where just these have not
start-all : (now : ℕ) (ms : List Message) → ((n : ℕ) → n < length ms → is_some (slice_index_or (map message_record ms) n no_message).started ≡ false)
    → map message_record (map (with_start now) ms) ≡ map (start_lifetime now) (map message_record ms)
start-all now [] h = refl
start-all now (m ∷ ms) h =
    ap (λ r. r ∷ map message_record (map (with_start now) ms)) (starts m.started refl (h 0 (omega arith)))
    ∙ ap (λ l. start_lifetime now (message_record m) ∷ l) (start-all now ms (λ n lt. h (suc n) (omega (arith, lt))))
  where
    starts : (o : Option ℕ) → m.started ≡ o → is_some m.started ≡ false → message_record (with_start now m) ≡ start_lifetime now (message_record m)
    starts None e h = rw e refl
    starts (Some t) e h = cc

pub start-records : (now first : ℕ) (ms : List Message)
    → ((n : ℕ) → n < length ms → n < first → is_some (slice_index_or (map message_record ms) n no_message).started ≡ true)
    → ((n : ℕ) → n < length ms → first ≤ n → is_some (slice_index_or (map message_record ms) n no_message).started ≡ false)
    → map message_record (start_from first now ms) ≡ map (start_lifetime now) (map message_record ms)
start-records now zero ms old new = start-all now ms (λ n lt. new n lt (omega arith))
start-records now (suc first) [] old new = refl
start-records now (suc first) (m ∷ ms) old new =
    ap (λ l. message_record m ∷ l)
    (start-records now first ms (λ n a b. old (suc n) (omega (arith, a)) (omega (arith, b))) (λ n a b. new (suc n) (omega (arith, a)) (omega (arith, b))))
    ∙ ap (λ r. r ∷ map (start_lifetime now) (map message_record ms)) (stays m.started refl (old 0 (omega arith) (omega arith)))
  where
    stays : (o : Option ℕ) → m.started ≡ o → is_some m.started ≡ true → message_record m ≡ start_lifetime now (message_record m)
    stays None e h = cc
    stays (Some t) e h = rw e refl

-- how far each was sent stays
pub start-progress : (now first : ℕ) (ms : List Message) → map progress_of (start_from first now ms) ≡ map progress_of ms
start-progress now zero ms = each ms
  where
    each : (ms : List Message) → map progress_of (map (with_start now) ms) ≡ map progress_of ms
    each [] = refl
    each (m ∷ ms) = ap (λ l. progress_of m ∷ l) (each ms)
start-progress now (suc first) [] = refl
start-progress now (suc first) (m ∷ ms) = ap (λ l. progress_of m ∷ l) (start-progress now first ms)

-- ## The event

module _ {sum : List ℕ → ℕ} {x : State} (l : IsLinked sum x) (now : ℕ) where
  pub starts-records : (ms : List Message) → x.recorded.messages ≡ map message_record ms
      → map message_record (start_from x.unstarted now ms) ≡ (after_start x.recorded now).messages
  starts-records ms e =
      start-records now x.unstarted ms
      (λ n lt below. ap (λ r. is_some (slice_index_or r n no_message).started) (sym e) ∙ l.outbound.unstarted n (omega (arith, lt, count))
      ∙ ap not (above n below))
      (λ n lt from. ap (λ r. is_some (slice_index_or r n no_message).started) (sym e) ∙ l.outbound.unstarted n (omega (arith, lt, count))
      ∙ ap not (reached n from)) ∙ ap (map (start_lifetime now)) (sym e)
    where
      count : length x.recorded.messages ≡ length ms
      count = ap length e ∙ length-mapped message_record ms

      above : (n : ℕ) → n < x.unstarted → nat_le x.outbound.next_unstarted n ≡ false
      above n lt = let s = l.unstarted in grind (arith, nat_tests)

      reached : (n : ℕ) → x.unstarted ≤ n → nat_le x.outbound.next_unstarted n ≡ true
      reached n le = let s = l.unstarted in grind (arith, nat_tests)

  pub linked-start : IsLinked sum
      (record x { recorded = after_start x.recorded now; unstarted = length x.recorded.messages; outbound = all_started now x.outbound })
  linked-start = record {
    setup = l.setup;
    history = (E.Start now, reply_to x.recorded (E.Start now)) ∷ l.history;
    stands = stands-then (E.Start now) refl l.stands;
    outbound = refines-started x.recorded now x.outbound l.outbound;
    unstarted = sym (all-begun x.recorded now x.outbound l.outbound);
    filter = l.filter;
    next = l.next;
    acked = l.acked;
    fragments = l.fragments ∙ sym (fragments-same (told l) (E.Start now) refl refl);
    written = l.written ∙ sym (written-kept (told l) (E.Start now) refl refl);
    sents = λ n lt. l.sents n (omega (arith, lt, length-mapped (start_lifetime now) x.recorded.messages));
    indexes = (indexed-kept l (E.Start now) refl tt).is;
    low = l.low;
    open_streams =
        λ k d lt. stream-same (slice_index_or x.open_streams k d) (stream-quiet (told l) (E.Start now) refl (Moves.quiet-started x.recorded now) tt refl
        refl refl (λ s. ap (ordered_before (after_start x.recorded now) s) (length-mapped (start_lifetime now) x.recorded.messages)
        ∙ before-started x.recorded now s (length x.recorded.messages)) (slice_index_or x.open_streams k d).state.stream_identifier)
        (begun-kept (told l) (E.Start now) refl tt (slice_index_or x.open_streams k d).state.stream_identifier) (l.open_streams k d lt);
    apart = l.apart;
    encodings = encodings-same l (E.Start now) refl refl;
  }

-- the record and what stands beside it, where the messages are those that started
pub linked-starts : {sum : List ℕ → ℕ} {x : State} (now : ℕ) (ms started' : List Message) (unstarted : ℕ) (q : Outbound) → IsLinked sum x
    → x.recorded.messages ≡ map message_record ms → x.progress ≡ map progress_of ms → started' ≡ start_from x.unstarted now ms → unstarted ≡ length ms
    → q ≡ all_started now x.outbound → IsLinked sum (record x
    { recorded = record x.recorded { messages = map message_record started' }; progress = map progress_of started'; unstarted = unstarted; outbound = q })
linked-starts {sum} {x} now ms started' unstarted q l em es e eu eq =
    let is : map message_record started' ≡ (after_start x.recorded now).messages = ap (map message_record) e ∙ starts-records l now ms em in
    let same : map progress_of started' ≡ x.progress = ap (map progress_of) e ∙ start-progress now x.unstarted ms ∙ sym es in
    let count : unstarted ≡ length x.recorded.messages = eu ∙ sym (length-mapped message_record ms) ∙ ap length (sym em) in
    subst (λ a.
    IsLinked sum (record x { recorded = record x.recorded { messages = a }; progress = map progress_of started'; unstarted = unstarted; outbound = q }))
    (sym is) (subst (λ a. IsLinked sum (record x { recorded = after_start x.recorded now; progress = a; unstarted = unstarted; outbound = q })) (sym same)
    (subst (λ a. IsLinked sum (record x { recorded = after_start x.recorded now; unstarted = a; outbound = q })) (sym count) (subst (λ a. IsLinked sum
    (record x { recorded = after_start x.recorded now; unstarted = length x.recorded.messages; outbound = a })) (sym eq) (linked-start l now))))

pub start-moves : {sum : List ℕ → ℕ} {x : State} (now : ℕ) (ms started' : List Message) → IsLinked sum x → x.recorded.messages ≡ map message_record ms
    → started' ≡ start_from x.unstarted now ms → record x.recorded { messages = map message_record started' } ≡ after_start x.recorded now
start-moves {x} now ms started' l em e = ap (λ a. record x.recorded { messages = a }) (ap (map message_record) e ∙ starts-records l now ms em)
