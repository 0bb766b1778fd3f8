use Rattle.sctp_model.proofs.Names.{◌≡◌, ℕ, zero, suc, ◌+◌, ◌<◌, Bool, true, false, List, [], ◌∷◌, ◌++◌, length, map, Option, Some, None, refl, ap, sym, ◌∙◌}
use Rattle.sctp_model.proofs.Names.{arith, append-nil, zero-add, if◌then◌else◌, ◌==◌, ◌&&◌, ◌||◌, nat_lt, list_any, list_all, subst, nat_tests, numbers_where}
use Rattle.sctp_model.proofs.Names.{always, total_over, fails, both, changed-keeps, changed-same, changed-other, length-changed, Event, Reply, Setup}
use Rattle.sctp_model.proofs.Names.{LinkRecord, next_read, Shown, total_shown, shown_on, counted_shown, counted_length, writes_in, reads_in, numbers_read}
use Rattle.sctp_model.proofs.Names.{number_read, History, record_of, IsRun, refusal_of, reply_to, after, read_reply, IsSetup, OnEveryRun, AllDifferent}
use Rattle.sctp_model.proofs.Names.{ReadsShowMessages, ReadsDiffer, CountersAreSums, shown_of, by_same, same-yes, same-is, any-append, total-none, total-one}
use Rattle.sctp_model.proofs.Names.{total-kept_same, total-where}
use Rattle.sctp_model.proofs.receiver.View.{view}
use Rattle.sctp_model.proofs.receiver.Known.{HasRead, differ-more}
use Rattle.sctp_model.proofs.receiver.Shown.{has-read, reads_show_messages}
use Rattle.sctp_model.specs.declared.event.Event.TheVariants as E
use Rattle.sctp_model.specs.Reply as R
use Rattle.sctp_model.specs.Messages
use Rattle.sctp_model.specs.Amounts
use Rattle.sctp_model.specs.Changes
use Rattle.sctp_model.proofs.sender.SenderRun.{consistent-run}
use Rattle.sctp_model.proofs.sender.Moves
use Rattle.sctp_model.proofs.sender.Lifetimes.{messages-received}
use Rattle.sctp_model.proofs.sender.Written.{messages_are_writes}
use Rattle.sctp_model.proofs.acknowledgement.BytesAnswered.{total-answered}

-- The counters of a stream are sums over its writes and its reads.

-- ## Sums

-- those of a stream
total-on : (f : Shown → ℕ) (g : ℕ → Shown) (s from count : ℕ)
    → total_over (λ n. f (g n)) (numbers_where (λ n. (g n).0 == s) from count) ≡ total_shown f (shown_on s (map g (numbers_where always from count)))
total-on f g s from zero = refl
total-on f g s from (suc count) = grind (arith, nat_tests, (total-on f g s (from + 1) count))

abbrev among : List ℕ → ℕ → Bool
among xs n = list_any (λ k. k == n) xs

-- the sum over distinct numbers is the sum over those that are among them
total-among : (f : ℕ → ℕ) (xs : List ℕ) (count : ℕ) → AllDifferent xs → ((n : ℕ) → among xs n ≡ true → n < count)
    → total_over f xs ≡ total_over f (numbers_where (among xs) 0 count)
total-among f [] count d below = sym (total-where f (λ n. false) 0 count ∙ total-none (λ n. 0) 0 count (λ k a b. refl))
total-among f (x ∷ xs) count d below =
    let ih = total-among f xs count d.1 (λ n e. below n ((elim (x == n) as (λ a. (a || (among xs n)) ≡ true) [ true ↦ refl | false ↦ e ]))) in
    let lt = below x (yes' (among xs x)) in
    let one = total-one (λ n. if among xs n then f n else 0) (λ n. if among (x ∷ xs) n then f n else 0) x (f x) 0 count (omega arith) (omega (arith, lt))
    (λ k ne. ap (λ b. if b || among xs k then f k else 0) (sym (fails (x == k) (λ e. ne (sym (same-is x k e))))))
    (ap (λ b. (if b then f x else 0) + f x) d.0 ∙ zero-add (f x) ∙ sym (ap (λ b. if b || among xs x then f x else 0) (same-yes x))) in
    omega (arith, ih, total-where f (among xs) 0 count, total-where f (among (x ∷ xs)) 0 count, one)
  where
    yes' : (b : Bool) → ((x == x) || b) ≡ true
    yes' b = ap (λ a. a || b) (same-yes x)

-- ## Which messages were read

abbrev IsRead : LinkRecord → ℕ → ℕ → Bool
IsRead w s n = ((Messages.message_at w n).stream == s) && (Messages.message_at w n).read

-- the numbers of the messages read are those that are marked so
record Marked (setup : Setup) (h : History) (w : LinkRecord) : Type 0 where
  is : (s n : ℕ) → n < length w.messages → among (numbers_read setup h s) n ≡ IsRead w s n
  made : (s n : ℕ) → among (numbers_read setup h s) n ≡ true → n < length w.messages

marked-quiet : (setup : Setup) (h : History) (w v : LinkRecord) → Moves.Quiet w v → Marked setup h w → Marked setup h v
marked-quiet setup h w v q m = grind (arith, nat_tests)

all-among : (t : ℕ → Bool) (xs : List ℕ) (n : ℕ) → list_all t xs ≡ true → among xs n ≡ true → t n ≡ true
all-among t [] n a e = cc
all-among t (x ∷ xs) n a e = step (x == n) refl e (λ h. all-among t xs n (both (t x) (list_all t xs) a).1 h)
  where
    step : (b : Bool) → (x == n) ≡ b → (b || among xs n) ≡ true → (among xs n ≡ true → t n ≡ true) → t n ≡ true
    step b h1 h2 h3 = grind (arith, nat_tests)

-- nothing is read
marked-nothing : (setup : Setup) (older : History) (t : ℕ) (r : Reply) → r ≡ R.Nothing → Marked setup older (record_of setup older)
    → Marked setup ((E.Read t, r) ∷ older) (record_of setup older)
marked-nothing setup older t r f m = grind (arith, nat_tests, append-nil)

-- message k is read
module _ (setup : Setup) (older : History) (t k : ℕ) (r : Reply) (e : next_read (record_of setup older) t ≡ Some k)
    (f : r ≡ read_reply (record_of setup older) (Some k)) where
  abbrev w : LinkRecord
  w = record_of setup older

  abbrev v : LinkRecord
  v = Changes.read_of (record_of setup older) t (Some k)

  read-more : (s : ℕ) → numbers_read setup ((E.Read t, r) ∷ older) s ≡ numbers_read setup older s ++ (if t == s then k ∷ [] else [])
  read-more s = grind (arith, nat_tests)

  among-more : (s n : ℕ) → among (numbers_read setup ((E.Read t, r) ∷ older) s) n ≡ (among (numbers_read setup older s) n || ((t == s) && (k == n)))
  among-more s n = grind (arith, nat_tests, any-append)

  marked-one : k < length w.messages → (Messages.message_at w k).stream ≡ t → Marked setup older w → Marked setup ((E.Read t, r) ∷ older) v
  marked-one lt on m = search (arith, nat_tests, among-more, by_same, changed-other, length-changed, same-is, both, changed-same, same-yes)

marked-read : (setup : Setup) (older : History) (t : ℕ) (r : Reply) (o : Option ℕ) → next_read (record_of setup older) t ≡ o
    → r ≡ read_reply (record_of setup older) o → ((s : ℕ) → list_all (λ n. nat_lt n (length (Changes.read_of (record_of setup older) t o).messages)
    && ((Messages.message_at (Changes.read_of (record_of setup older) t o) n).stream == s)) (numbers_read setup ((E.Read t, r) ∷ older) s) ≡ true)
    → Marked setup older (record_of setup older) → Marked setup ((E.Read t, r) ∷ older) (Changes.read_of (record_of setup older) t o)
marked-read setup older t r None e f all m = marked-nothing setup older t r f m
marked-read setup older t r (Some k) e f all m =
    let w = record_of setup older in
    let v = Changes.read_of w t (Some k) in
    let here : among (numbers_read setup ((E.Read t, r) ∷ older) t) k ≡ true = among-more setup older t k r e f t k
    ∙ ap (λ b. among (numbers_read setup older t) k || (b && (k == k))) (same-yes t) ∙ ap (λ b. among (numbers_read setup older t) k || b) (same-yes k)
    ∙ (elim (among (numbers_read setup older t) k) as (λ b. (b || true) ≡ true) [ true ↦ refl | false ↦ refl ]) in
    let a = both (nat_lt k (length v.messages)) ((Messages.message_at v k).stream == t) (all-among
    (λ n. nat_lt n (length v.messages) && ((Messages.message_at v n).stream == t)) (numbers_read setup ((E.Read t, r) ∷ older) t) k (all t) here) in
    let low = a.0 in
    let lt : k < length v.messages = grind (arith, nat_tests) in
    marked-one setup older t k r e f (omega (arith, lt, length-changed Changes.mark_read k w.messages)) (sym
    (changed-keeps Changes.mark_read (λ y. y.stream) (λ y. refl) k k w.messages Messages.no_message) ∙ same-is (Messages.message_at v k).stream t a.1) m

marked-run : OnEveryRun ReadsShowMessages → (setup : Setup) (h : History) → IsSetup setup → IsRun setup h → Marked setup h (record_of setup h)
marked-run show setup [] is run = record { is = λ s n lt. absurd (omega arith); made = λ s n e. cc }
marked-run show setup ((event, r) ∷ older) is run =
    by_event event r run.0 run.1.0 (λ s. (show setup ((event, r) ∷ older) is run s).1) (marked-run show setup older is run.1.1)
  where
    quiet : (v : LinkRecord) → Moves.Quiet (record_of setup older) v → Marked setup older (record_of setup older) → Marked setup older v
    quiet v q m = marked-quiet setup older (record_of setup older) v q m

    by_event : (event : Event) (r : Reply) → refusal_of (record_of setup older) event ≡ None → r ≡ reply_to (record_of setup older) event
        → ((s : ℕ) → list_all (λ n. nat_lt n (length (after (record_of setup older) event).messages)
        && ((Messages.message_at (after (record_of setup older) event) n).stream == s)) (numbers_read setup ((event, r) ∷ older) s) ≡ true)
        → Marked setup older (record_of setup older) → Marked setup ((event, r) ∷ older) (after (record_of setup older) event)
    by_event (E.Read t) r ok f all m = marked-read setup older t r (next_read (record_of setup older) t) refl f all m
    by_event (E.Arrive k) r ok f all m = grind (arith, nat_tests, messages-received)
    by_event (E.Acked k) r ok f all m = grind (arith, nat_tests)
    by_event (E.Open s) r ok f all m = record { is = m.is; made = m.made }
    by_event (E.Mode s a b c) r ok f all m = record { is = m.is; made = m.made }
    by_event (E.Ack a) r ok f all m = record { is = m.is; made = m.made }
    by_event event r ok f all m = let q = quiet (after (record_of setup older) event)
        (Moves.quiet-after setup (record_of setup older) event refl (consistent-run setup older run.1.1)) m in record { is = q.is; made = q.made }

-- ## The law

abbrev counters : ℕ → ℕ → ℕ → ℕ → ℕ → Amounts.Counters
counters s a b c d = record {
  stream_identifier = s;
  generation = 0;
  messages_sent = Amounts.saturate a;
  bytes_sent = Amounts.saturate b;
  messages_received = Amounts.saturate c;
  bytes_received = Amounts.saturate d;
}

-- a sum over the messages read is one over the reads
received : OnEveryRun ReadsShowMessages → OnEveryRun ReadsDiffer → (setup : Setup) (h : History) → IsSetup setup → IsRun setup h → (s : ℕ) (f : Shown → ℕ)
    → Amounts.on_stream (record_of setup h) s (Amounts.if_read (record_of setup h) (λ n. f (shown_of (record_of setup h) n))) ≡ total_shown f (reads_in h s)
received show differ setup h is run s f =
    let w = record_of setup h in
    let m = marked-run show setup h is run in
    let g : ℕ → ℕ = λ n. f (shown_of w n) in
    let xs = numbers_read setup h s in
    let sum = total-among g xs (length w.messages) (differ setup h is run s) (m.made s) in
    total-where (Amounts.if_read w g) (λ n. (Messages.message_at w n).stream == s) 0 (length w.messages)
    ∙ total-kept_same (λ n. if (Messages.message_at w n).stream == s then Amounts.if_read w g n else 0)
    (λ n. if among xs n then g n else 0) always 0 (length w.messages)
    (λ k a b. two ((Messages.message_at w k).stream == s) (Messages.message_at w k).read (g k) ∙ ap (λ b. if b then g k else 0) (sym (m.is s k (omega arith))))
    ∙ sym (total-where g (among xs) 0 (length w.messages)) ∙ sym sum
    ∙ total-answered f (shown_of w) xs ∙ ap (total_shown f) (sym (show setup h is run s).0)
  where
    two : (a b : Bool) (c : ℕ) → (if a then (if b then c else 0) else 0) ≡ (if a && b then c else 0)
    two a b c = grind (arith, nat_tests)

counters-sum : OnEveryRun ReadsShowMessages → OnEveryRun ReadsDiffer → OnEveryRun CountersAreSums
counters-sum show differ setup h is run s open' =
    let w = record_of setup h in
    let sent : (f : Shown → ℕ) → Amounts.on_stream w s (λ n. f (shown_of w n)) ≡ total_shown f (shown_on s (writes_in h)) =
    λ f. total-on f (shown_of w) s 0 (length w.messages) ∙ ap (λ l. total_shown f (shown_on s l)) (messages_are_writes setup h is run) in
    let got = received show differ setup h is run s in
    ap (λ b. if b then Some (counters s (Amounts.on_stream w s (Amounts.message_count w)) (Amounts.on_stream w s (Amounts.counted_bytes w))
    (Amounts.on_stream w s (Amounts.if_read w (Amounts.message_count w))) (Amounts.on_stream w s (Amounts.if_read w (Amounts.counted_bytes w))))
    else None) open' ∙ ap (λ a. Some (counters s a (Amounts.on_stream w s (Amounts.counted_bytes w))
    (Amounts.on_stream w s (Amounts.if_read w (Amounts.message_count w))) (Amounts.on_stream w s (Amounts.if_read w (Amounts.counted_bytes w)))))
    (sent counted_shown) ∙ ap (λ a. Some (counters s (total_shown counted_shown (shown_on s (writes_in h))) a
    (Amounts.on_stream w s (Amounts.if_read w (Amounts.message_count w))) (Amounts.on_stream w s (Amounts.if_read w (Amounts.counted_bytes w)))))
    (sent counted_length) ∙ ap (λ a. Some (counters s (total_shown counted_shown (shown_on s (writes_in h)))
    (total_shown counted_length (shown_on s (writes_in h))) a (Amounts.on_stream w s (Amounts.if_read w (Amounts.counted_bytes w))))) (got counted_shown)
    ∙ ap (λ a. Some (counters s (total_shown counted_shown (shown_on s (writes_in h))) (total_shown counted_length (shown_on s (writes_in h)))
    (total_shown counted_shown (reads_in h s)) a)) (got counted_length)

-- ## None is read twice

pub reads_differ : OnEveryRun ReadsDiffer
reads_differ setup [] is run s = tt
reads_differ setup ((event, r) ∷ older) is run s = by event r run.1.0 (reads_differ setup older is run.1.1 s)
  where
    none : (c : Bool) (l : List ℕ) → l ++ (if c then [] else []) ≡ l
    none c l = grind (arith, nat_tests, append-nil)

    read : (t : ℕ) (r : Reply) (o : Option ℕ) → next_read (record_of setup older) t ≡ o → r ≡ read_reply (record_of setup older) o
        → AllDifferent (numbers_read setup older s) → AllDifferent (numbers_read setup ((E.Read t, r) ∷ older) s)
    read t r None e f d = subst AllDifferent (sym (ap (λ y. numbers_read setup older s ++ (if t == s then number_read (record_of setup older) s y else [])) f
        ∙ none (t == s) (numbers_read setup older s))) d
    read t r (Some n) e f d = subst AllDifferent (sym (read-more setup older t n r e f s)) (more (t == s) refl)
      where
        hit : HasRead (view (record_of setup older)) t n
        hit = has-read setup older is run.1.1 t n e

        ands : (b : Bool) → (b && false) ≡ false
        ands b = grind (arith, nat_tests)

        absent : among (numbers_read setup older s) n ≡ false
        absent = (marked-run reads_show_messages setup older is run.1.1).is s n hit.made
            ∙ ap (λ b. ((Messages.message_at (record_of setup older) n).stream == s) && b) hit.unread
            ∙ ands ((Messages.message_at (record_of setup older) n).stream == s)

        more : (b : Bool) → (t == s) ≡ b → AllDifferent (numbers_read setup older s ++ (if b then n ∷ [] else []))
        more true q = differ-more (numbers_read setup older s) n absent d
        more false q = subst AllDifferent (sym (append-nil (numbers_read setup older s))) d

    by : (event : Event) (r : Reply) → r ≡ reply_to (record_of setup older) event → AllDifferent (numbers_read setup older s)
        → AllDifferent (numbers_read setup ((event, r) ∷ older) s)
    by (E.Read t) r f d = read t r (next_read (record_of setup older) t) refl f d
    by event r f x = x

pub counters_are_sums : OnEveryRun CountersAreSums
counters_are_sums = counters-sum reads_show_messages reads_differ
