use Rattle.sctp_model.proofs.Names.{◌≡◌, ℕ, ◌+◌, ◌-◌, ◌<◌, ◌≤◌, Bool, true, false, List, [], ◌∷◌, length, map, get_or, Option, Some, None, refl, ap, sym, ◌∙◌}
use Rattle.sctp_model.proofs.Names.{arith, add-one, fun_ext, if◌then◌else◌, ◌==◌, ◌&&◌, ◌||◌, not, fold, slice_get, slice_index_or, max, numbers_where, always}
use Rattle.sctp_model.proofs.Names.{numbers_from, total_over, pieces, kept-same, kept-none, kept-snoc_in, fails, not_both, both, and, kept-short}
use Rattle.sctp_model.proofs.Names.{length-changed, Event, Setup, Datagram, Data, Forward, Sack, LinkRecord, reports, Shown, total_shown, length_shown}
use Rattle.sctp_model.proofs.Names.{released_by, released_in, History, record_of, IsRun, reply_to, after, sent_reply, expired_reply, tail_reply, IsSetup}
use Rattle.sctp_model.proofs.Names.{OnEveryRun, SumsAgree, length-mapped, numbered-at, total-le, total-append, total-kept_same, total-wider, nat_tests}
use Rattle.sctp_model.proofs.sender.Sender.{Sender}
use Rattle.sctp_model.specs.declared.event.Event.TheVariants as E
use Rattle.sctp_model.specs.Messages
use Rattle.sctp_model.specs.Amounts
use Rattle.sctp_model.specs.Changes
use Rattle.sctp_model.proofs.sender.Shape.{Shape, MessagePart, shape, message_part, has, written}
use Rattle.sctp_model.proofs.sender.Shapes
use Rattle.sctp_model.proofs.sender.SenderEnds.{message-old, message-new}
use Rattle.sctp_model.proofs.sender.SenderRun.{Consistent, consistent-run, sends-keep, written_as}
use Rattle.sctp_model.proofs.sender.Moves
use Rattle.sctp_model.proofs.sender.Moves.{Quiet}
use Rattle.sctp_model.proofs.sender.Network
use Rattle.sctp_model.proofs.acknowledgement.Bytes.{balance, size-some}
use Rattle.sctp_model.proofs.acknowledgement.Acknowledged.{as-datagram}
use Rattle.sctp_model.proofs.sender.Written.{shown_part, messages_are_writes}

-- What was written and what was released, by the writes and the replies.

-- ## Written

pub total-answered : (f : Shown → ℕ) (g : ℕ → Shown) (xs : List ℕ) → total_over (λ n. f (g n)) xs ≡ total_shown f (map g xs)
total-answered f g [] = refl
total-answered f g (x ∷ xs) = omega (arith, total-answered f g xs)

-- ## Released

abbrev pub released : LinkRecord → ℕ
released w = Amounts.in_all w (Amounts.released_bytes w)

-- the released bytes of message n, by the shape and the acknowledged slots
abbrev released_with : Shape → (ℕ → Bool) → ℕ → ℕ
released_with x a n =
    if (x.message n).expired || (x.message n).abandoned then length (x.message n).bytes
    else total_over (λ p. length (get_or (pieces (length (x.message n).bytes) x.size (x.message n).bytes) (x.slot p).fragment []))
    (numbers_where (λ p. has x n p && a p) 0 x.slots)

abbrev acknowledged_at : LinkRecord → ℕ → Bool
acknowledged_at w p = (Messages.slot_at w p).acknowledged

released-same : (w v : LinkRecord) → shape v ≡ shape w → ((p : ℕ) → acknowledged_at v p ≡ acknowledged_at w p) → released v ≡ released w
released-same w v e a =
    ap (λ x. total_over (released_with x (acknowledged_at v)) (numbers_from 0 x.count)) e
    ∙ ap (λ f. total_over (released_with (shape w) f) (numbers_from 0 (length w.messages))) (fun_ext a)

-- what a sender's change leaves acknowledged
acknowledged-quiet : (w v : LinkRecord) → Quiet w v → (n : ℕ) → n < length w.messages → Amounts.acknowledged_bytes v n ≡ Amounts.acknowledged_bytes w n
acknowledged-quiet w v q n lt =
    let g = q.grows in
    let t : ℕ → Bool = λ p. has (shape v) n p && acknowledged_at v p in
    let more : length v.slots ≡ length w.slots + (length v.slots - length w.slots) = omega (arith, g.slots) in
    ap (total_over (Amounts.slot_bytes v n)) (kept-short t 0 (length w.slots) (length v.slots - length w.slots) (length v.slots) more
    (λ k a b. fails (t k) (λ e. not_both (sym (q.fresh k (omega arith) (omega arith)) ∙ (both (has (shape v) n k) (acknowledged_at v k) e).1))))
    ∙ total-kept_same (Amounts.slot_bytes v n) (Amounts.slot_bytes w n) t 0 (length w.slots) (λ k a b. same-bytes k (omega arith))
    ∙ ap (total_over (Amounts.slot_bytes w n))
    (kept-same t (λ p. has (shape w) n p && acknowledged_at w p) 0 (length w.slots) (λ k a b. ap (λ s. ((s.message == n) && not s.is_terminal_chunk)
    && acknowledged_at v k) (g.slot k (omega arith)) ∙ ap (λ c. has (shape w) n k && c) (q.acknowledged k (omega arith))))
  where
    same-bytes : (k : ℕ) → k < length w.slots → Amounts.slot_bytes v n k ≡ Amounts.slot_bytes w n k
    same-bytes k l = grind (arith, nat_tests)

-- it never takes back what was released
released-grows : (setup : Setup) (w v : LinkRecord) → IsSetup setup → Consistent setup w → Quiet w v → length v.messages ≡ length w.messages
    → released w ≤ released v
released-grows setup w v is g q count = omega (
  arith,
  total-le (Amounts.released_bytes w) (Amounts.released_bytes v) 0 (length w.messages)
      (λ n a b. each n (omega arith) (Amounts.is_expired_or_abandoned v n) refl (Amounts.is_expired_or_abandoned w n) refl),
  ap (λ c. total_over (Amounts.released_bytes v) (numbers_from 0 c)) count,
)
  where
    bytes : (n : ℕ) → n < length w.messages → (Messages.message_at v n).bytes ≡ (Messages.message_at w n).bytes
    bytes n lt = ap (λ m. m.bytes) (q.grows.message n lt)

    given : (n : ℕ) → n < length w.messages → Amounts.is_expired_or_abandoned w n ≡ true → Amounts.is_expired_or_abandoned v n ≡ true
    given n lt e = grind (arith, nat_tests)

    within : (n : ℕ) → n < length w.messages → Amounts.released_bytes w n ≤ Amounts.written_bytes w n
    within n lt = omega (arith, balance w n g.sender (size-some setup w is g) lt)

    each : (n : ℕ) → n < length w.messages → (b : Bool) → Amounts.is_expired_or_abandoned v n ≡ b → (c : Bool) → Amounts.is_expired_or_abandoned w n ≡ c
        → Amounts.released_bytes w n ≤ Amounts.released_bytes v n
    each n lt true e c f = let z : Amounts.released_bytes v n ≡ Amounts.written_bytes v n = grind (arith, nat_tests) in
        omega (arith, z, within n lt, ap length (bytes n lt))
    each n lt false e true f = absurd (not_both (sym e ∙ given n lt f))
    each n lt false e false f = grind (arith, nat_tests, acknowledged-quiet)

-- where no message expires or is abandoned, nothing is released
released-kept : (w v : LinkRecord) → Quiet w v → length v.messages ≡ length w.messages
    → ((n : ℕ) → Amounts.is_expired_or_abandoned v n ≡ Amounts.is_expired_or_abandoned w n) → released v ≡ released w
released-kept w v q count given = search (arith, nat_tests, total-kept_same, acknowledged-quiet)

-- ## Each event

abbrev released_all : Shape → (ℕ → Bool) → ℕ
released_all x a = total_over (released_with x a) (numbers_from 0 x.count)

-- a new message has no slots yet
released-written : (x : Shape) (a : ℕ → Bool) (m : MessagePart) → Sender x → m.expired ≡ false → m.abandoned ≡ false
    → released_all (written x m) a ≡ released_all x a
released-written x a m s e b =
    ap (λ c. total_over (released_with (written x m) a) (numbers_where always 0 c)) (add-one x.count)
    ∙ ap (total_over (released_with (written x m) a)) (kept-snoc_in always 0 x.count x.count (omega arith) refl)
    ∙ total-append (released_with (written x m) a) (numbers_where always 0 x.count) (x.count ∷ [])
    ∙ (let old = total-kept_same (released_with (written x m) a) (released_with x a) always 0 x.count
    (λ k i j. ap (released_of k) (message-old x m k (omega arith))) in omega (arith, old, new))
  where
    released_of : ℕ → MessagePart → ℕ
    released_of k y = if y.expired || y.abandoned then length y.bytes
        else total_over (λ p. length (get_or (pieces (length y.bytes) x.size y.bytes) (x.slot p).fragment [])) (numbers_where (λ p. has x k p && a p) 0 x.slots)

    none : numbers_where (λ p. has x x.count p && a p) 0 x.slots ≡ []
    none = grind (arith, nat_tests, kept-none)

    new : released_with (written x m) a x.count ≡ 0
    new = cc (message-new x m, e, b, none)

pub messages-sent : (u : LinkRecord) → (Changes.send_fragments u).messages ≡ u.messages
messages-sent u = sends-keep (λ v. v.messages ≡ u.messages) (λ v e. more v (Messages.front v) ∙ e) u refl
  where
    more : (v : LinkRecord) (o : Option ℕ) → (Changes.send_fragment_of v o).messages ≡ v.messages
    more v o = grind (arith, nat_tests)

released-sent : (setup : Setup) (w : LinkRecord) (now : ℕ) (o : Option ℕ) → Consistent setup w
    → released (Changes.send_from (Changes.after_start w now) o) ≡ released w
released-sent setup w now None g = released-same w (Changes.after_start w now) (Shapes.shape-started w now) (λ p. refl)
released-sent setup w now (Some n) g =
    let u = Changes.after_start w now in
    let e = messages-sent u in
    released-kept w (Changes.send_from u (Some n)) (Moves.quiet-sent setup w now (Some n) g)
    (ap length e ∙ length-mapped (Changes.start_lifetime now) w.messages)
    (λ k. ap (λ ms. (slice_index_or ms k Messages.no_message).expired || (slice_index_or ms k Messages.no_message).abandoned) e
    ∙ ap (λ x. (x.message k).expired || (x.message k).abandoned) (Shapes.shape-started w now))

pub count-abandoned : (w : LinkRecord) (n : ℕ) → length (Changes.after_abandon w n).messages ≡ length w.messages
count-abandoned w n = grind (arith, nat_tests, length-changed)

pub count-late : (ns : List ℕ) (w : LinkRecord) → length (fold Changes.after_abandon w ns).messages ≡ length w.messages
count-late [] w = refl
count-late (n ∷ ns) w = count-late ns (Changes.after_abandon w n) ∙ count-abandoned w n

grown : (setup : Setup) (w v : LinkRecord) → IsSetup setup → Consistent setup w → Quiet w v → length v.messages ≡ length w.messages
    → released v ≡ released w + Amounts.growth w v
grown setup w v is g q c = omega (arith, released-grows setup w v is g q c)

released-expired : (setup : Setup) (w : LinkRecord) (o : Option ℕ) → IsSetup setup → Consistent setup w → Quiet w (Changes.after_expire w o)
    → released (Changes.after_expire w o) ≡ released w + released_by (expired_reply w (Changes.after_expire w o) o)
released-expired setup w None is g q = omega arith
released-expired setup w (Some n) is g q = grown setup w (Changes.after_expire w (Some n)) is g q (length-changed Changes.mark_expired n w.messages)

released-tail : (setup : Setup) (w : LinkRecord) (o : Option ℕ) → IsSetup setup → Consistent setup w
    → released (Changes.after_tail w o) ≡ released w + released_by (tail_reply w (Changes.after_tail w o) o)
released-tail setup w None is g = omega arith
released-tail setup w (Some n) is g = grown setup w (Changes.after_abandon w n) is g (Moves.quiet-abandoned setup w n g) (count-abandoned w n)

released-acked : (w : LinkRecord) (o : Option Datagram) → released (Changes.after_acked w o) ≡ released w + Amounts.growth w (Changes.after_acked w o)
released-acked w None = omega arith
released-acked w (Some (Data ps)) = omega arith
released-acked w (Some (Forward upto names)) = omega arith
released-acked w (Some (Sack r)) = omega (arith, less)
  where
    acked : (p : ℕ) → p < length w.slots → acknowledged_at w p ≡ true → acknowledged_at (Changes.after_acked w (Some (Sack r))) p ≡ true
    acked p lt e = ap (λ y. y.acknowledged) (numbered-at (Changes.acknowledged_by r) 0 p w.slots Messages.no_slot lt) ∙ ap (λ b. b || reports r (0 + p)) e

    each : (n : ℕ) → released_with (shape w) (acknowledged_at w) n ≤ released_with (shape w) (acknowledged_at (Changes.after_acked w (Some (Sack r)))) n
    each n = step ((Messages.message_at w n).expired || (Messages.message_at w n).abandoned)
      where
        step : (b : Bool) → (if b then length (Messages.message_at w n).bytes
            else total_over (Amounts.slot_bytes w n) (numbers_where (λ p. has (shape w) n p && acknowledged_at w p) 0 (length w.slots)))
            ≤ (if b then length (Messages.message_at w n).bytes else total_over (Amounts.slot_bytes w n)
            (numbers_where (λ p. has (shape w) n p && acknowledged_at (Changes.after_acked w (Some (Sack r))) p) 0 (length w.slots)))
        step true = omega arith
        step false = total-wider (Amounts.slot_bytes w n) (λ p. has (shape w) n p && acknowledged_at w p)
            (λ p. has (shape w) n p && acknowledged_at (Changes.after_acked w (Some (Sack r))) p) 0 (length w.slots)
            (λ k a b e. let h = both (has (shape w) n k) (acknowledged_at w k) e in
            and (has (shape w) n k) (acknowledged_at (Changes.after_acked w (Some (Sack r))) k) h.0 (acked k (omega arith) h.1))

    less : released w ≤ released (Changes.after_acked w (Some (Sack r)))
    less = omega (
      arith,
      total-le (released_with (shape w) (acknowledged_at w))
          (released_with (shape w) (acknowledged_at (Changes.after_acked w (Some (Sack r))))) 0 (length w.messages) (λ n a b. each n),
      ap (λ x. released_all x (acknowledged_at (Changes.after_acked w (Some (Sack r))))) (Shapes.shape-acknowledged w r (max w.taken r.cumulative)),
    )

none-sent : (w v : LinkRecord) (o : Option ℕ) → released_by (sent_reply w v o) ≡ 0
none-sent w v o = grind (arith, nat_tests)

released-after : (setup : Setup) (w : LinkRecord) (e : Event) → IsSetup setup → Consistent setup w
    → released (after w e) ≡ released w + released_by (reply_to w e)
released-after setup w (E.Write s ppi (b ∷ bs)) is g =
    let m = written_as w s ppi (b ∷ bs) in
    let e = ap (λ x. released_all x (acknowledged_at w)) (Shapes.shape-written w m) in
    let z = released-written (shape w) (acknowledged_at w) (message_part m) g.sender refl refl in
    omega (arith, e, z)
released-after setup w (E.Start now) is g = omega (arith, released-same w (Changes.after_start w now) (Shapes.shape-started w now) (λ p. refl))
released-after setup w (E.Send now) is g = omega (arith, released-sent setup w now (Messages.front w) g, none-sent w (after w (E.Send now)) (Messages.front w))
released-after setup w (E.Expire now) is g = released-expired setup w (Changes.expiring w now) is g (Moves.quiet-expire setup w now (Messages.front w) g)
released-after setup w (E.Tail now) is g = released-tail setup w (Changes.tailing w now) is g
released-after setup w (E.Late now) is g =
    grown setup w (Changes.after_late w now) is g (Moves.quiet-lates setup w now g) (count-late (Changes.late_messages w now) w)
released-after setup w (E.Abandon tsn) is g = let n = Messages.message_of w (Messages.place_of w tsn) in
    grown setup w (Changes.after_abandon w n) is g (Moves.quiet-abandoned setup w n g) (count-abandoned w n)
released-after setup w (E.Arrive k) is g = grind (arith, nat_tests, released-same, Network.same-received, as-datagram)
released-after setup w (E.Acked k) is g = released-acked w (slice_get w.network k)
released-after setup w (E.Read s) is g = grind (arith, nat_tests, released-same, Network.same-read)
released-after setup w event is g = omega arith

pub released-run : (setup : Setup) (h : History) → IsSetup setup → IsRun setup h → released (record_of setup h) ≡ released_in h
released-run setup [] is run = refl
released-run setup (entry ∷ older) is run =
    cc (released-after setup (record_of setup older) entry.0 is (consistent-run setup older run.1.1), run.1.0, released-run setup older is run.1.1)

pub sums_agree : OnEveryRun SumsAgree
sums_agree setup h is run = (
  total-answered length_shown (λ n. shown_part ((shape (record_of setup h)).message n)) (numbers_where always 0 (length (record_of setup h).messages))
      ∙ ap (total_shown length_shown) (messages_are_writes setup h is run),
  released-run setup h is run,
)
