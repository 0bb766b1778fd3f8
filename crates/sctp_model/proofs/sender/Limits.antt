use Rattle.sctp_model.proofs.Names.{◌≡◌, ℕ, zero, suc, ◌+◌, ◌-◌, ◌*◌, ◌/◌, ◌<◌, ◌≤◌, Bool, true, false, List, [], ◌∷◌, length, map, Option, Some, None, refl}
use Rattle.sctp_model.proofs.Names.{ap, sym, ◌∙◌, inl, inr, arith, ◌⊎◌, if◌then◌else◌, nat_le, slice_index_or, nat_tests, numbers_where, always, numbers_from}
use Rattle.sctp_model.proofs.Names.{total_over, pieces, kept-snoc_in, length-mapped, length-numbers, total-append, total-kept_same, ChunkPayloadData, Setup}
use Rattle.sctp_model.proofs.Names.{LinkRecord, chunk_at, contents_in, datagram, DataContents, History, record_of, IsRun, reply_to, after, sent_reply, IsSetup}
use Rattle.sctp_model.proofs.Names.{OnEveryRun, WithinLimit, FilledToLimit, data_length, packet_length, next_fragment}
use Rattle.sctp_model.specs.declared.event.Event.TheVariants as E
use Rattle.sctp_model.specs.Reply as R
use Rattle.sctp_model.specs.Messages
use Rattle.sctp_model.specs.Changes
use Rattle.sctp_model.proofs.sender.Shape.{Shape, shape, sent, slotted, front_of}
use Rattle.sctp_model.proofs.sender.Sender.{slot-old}
use Rattle.sctp_model.proofs.sender.SenderRun.{consistent-run}
use Rattle.sctp_model.proofs.sender.Shapes
use Rattle.sctp_model.proofs.sender.Sends.{takes_pending}

-- A datagram of several fragments is within the limit, and the next fragment would not fit.

-- ## The length of what took slots

-- the fragment in the slot at this place
abbrev data_in : Shape → ℕ → List ℕ
data_in x p = slice_index_or (pieces (length (x.message (x.slot p).message).bytes) x.size (x.message (x.slot p).message).bytes) (x.slot p).fragment []

-- the length of a packet of the chunks of all slots from this one on
abbrev used_from : Shape → ℕ → ℕ
used_from x start = 12 + total_over (λ p. data_length (data_in x p)) (numbers_from start (x.slots - start))

-- the length of the next fragment of message n
abbrev next_of : LinkRecord → ℕ → ℕ
next_of w n = data_length (next_fragment w n)

chunk-is : (b : ℕ) → Changes.chunk_length b ≡ 16 + (b + 3) / 4 * 4
chunk-is b = omega arith

used-more : (w : LinkRecord) (n start : ℕ) → start ≤ length w.slots → used_from (slotted (shape w) n false) start ≡ used_from (shape w) start + next_of w n
used-more w n start le =
    let x = shape w in
    let y = slotted x n false in
    let f : ℕ → ℕ = λ p. data_length (data_in y p) in
    let count : x.slots + 1 - start ≡ suc (x.slots - start) = omega (arith, le) in
    let last : x.slots ≡ start + (x.slots - start) = omega (arith, le) in
    let all = ap (λ c. total_over f (numbers_where always start c)) count
    ∙ ap (total_over f) (kept-snoc_in always start (x.slots - start) x.slots last refl)
    ∙ total-append f (numbers_where always start (x.slots - start)) (x.slots ∷ []) in
    let old = total-kept_same f (λ p. data_length (data_in x p)) always start (x.slots - start)
    (λ k a b. ap (λ s. data_length (slice_index_or (pieces (length (x.message s.message).bytes) x.size (x.message s.message).bytes) s.fragment []))
    (slot-old x n k false (omega (arith, le)))) in
    let new : f x.slots ≡ next_of w n = grind (arith, nat_tests) in
    omega (arith, all, old, new)

-- ## As a datagram is filled

-- a record in which this much is used of a datagram that begins with this slot
record Filling (setup : Setup) (start used : ℕ) (v : LinkRecord) : Type 0 where
  own : v.setup ≡ setup
  begun : start ≤ length v.slots
  is : used ≡ used_from (shape v) start

filling-more : (setup : Setup) (start used : ℕ) (v : LinkRecord) (n : ℕ) → Filling setup start used v
    → Filling setup start (Changes.plus used (Changes.next_length_of v (Some n))) (Changes.with_slot v n false)
filling-more setup start used v n f = grind (arith, nat_tests, Shapes.shape-slot, used-more, chunk-is)

-- what filling makes of a record of which this much was used
record Filled (setup : Setup) (start used : ℕ) (v u : LinkRecord) : Type 0 where
  length_now : ℕ
  filling : Filling setup start length_now u
  kept_within : (length_now ≤ setup.limit) ⊎ ((length_now ≡ used) × (length u.slots ≡ length v.slots))
  full : (n : ℕ) → Messages.front u ≡ Some n → setup.limit < length_now + next_of u n

fill : (setup : Setup) (start most used : ℕ) (v : LinkRecord) → Filling setup start used v → setup.limit < used + most
    → Filled setup start used v (Changes.fill_datagram most used v)
fill setup start zero used v f fuel = record { length_now = used; filling = f; kept_within = inr (refl, refl); full = λ n e. omega (arith, fuel) }
fill setup start (suc most) used v f fuel = step (λ n g m. fill setup start most (used + more n) (Changes.with_slot v n false) g m) (Messages.front v) refl
  where
    more : ℕ → ℕ
    more n = Changes.chunk_length (length (next_fragment v n))

    limit : v.setup.limit ≡ setup.limit
    limit = ap (λ t. t.limit) f.own

    Rest : ℕ → Type 0
    Rest n = Filling setup start (used + more n) (Changes.with_slot v n false) → setup.limit < used + more n + most
        → Filled setup start (used + more n) (Changes.with_slot v n false) (Changes.fill_datagram most (used + more n) (Changes.with_slot v n false))

    low : (n now : ℕ) (P : Type 0) → used + more n ≤ setup.limit → (now ≤ setup.limit) ⊎ ((now ≡ used + more n) × P) → now ≤ setup.limit
    low n now P h1 h2 = grind (arith, nat_tests)

    test : (n : ℕ) → Rest n → Messages.front v ≡ Some n → (b : Bool) → nat_le (used + more n) v.setup.limit ≡ b
        → Filled setup start used v (if b then Changes.fill_datagram most (used + more n) (Changes.with_slot v n false) else v)
    test n rest e true t =
        let fits : used + more n ≤ setup.limit = (let z : used + more n ≤ v.setup.limit = grind (arith, nat_tests) in omega (arith, z, limit)) in
        let r = rest (filling-more setup start used v n f) (omega (arith, fuel)) in
        record { length_now = r.length_now; filling = r.filling; kept_within = inl (low n r.length_now _ fits r.kept_within); full = r.full }
    test n rest e false t = grind (arith, nat_tests)

    step : ((n : ℕ) → Rest n) → (o : Option ℕ) → Messages.front v ≡ o → Filled setup start used v (if Changes.chunk_fits v used (Changes.next_length_of v o)
        then Changes.fill_datagram most (Changes.plus used (Changes.next_length_of v o)) (Changes.send_fragment_of v o) else v)
    step rest None e = record { length_now = used; filling = f; kept_within = inr (refl, refl); full = λ n g. cc }
    step rest (Some n) e = test n (rest n) e (nat_le (used + more n) v.setup.limit) refl

-- ## A Send

abbrev taken : LinkRecord → ℕ → LinkRecord
taken w now = Changes.send_fragments (Changes.after_start w now)

record Sent (setup : Setup) (w : LinkRecord) (now : ℕ) : Type 0 where
  length_now : ℕ
  is : length_now ≡ used_from (shape (taken w now)) (length w.slots)
  kept_within : (length_now ≤ setup.limit) ⊎ (length (taken w now).slots ≡ length w.slots + 1)
  full : (n : ℕ) → Messages.front (taken w now) ≡ Some n → setup.limit < length_now + next_of (taken w now) n

send-fills : (setup : Setup) (w : LinkRecord) (now n : ℕ) → w.setup ≡ setup → Messages.front w ≡ Some n → Sent setup w now
send-fills setup w now n own e = step (Messages.front (Changes.after_start w now)) refl (ap front_of (Shapes.shape-started w now) ∙ e)
  where
    u : LinkRecord
    u = Changes.after_start w now

    base : Filling setup (length w.slots) 12 u
    base = grind (arith, nat_tests)

    step : (o : Option ℕ) → Messages.front u ≡ o → o ≡ Some n → Sent setup w now
    step o f g =
        let one = filling-more setup (length w.slots) 12 u n base in
        let limit : u.setup.limit ≡ setup.limit = ap (λ t. t.limit) own in
        let r = fill setup (length w.slots) u.setup.limit (12 + Changes.chunk_length (length (next_fragment u n)))
        (Changes.with_slot u n false) one (omega (arith, limit)) in
        let same : Changes.fill_datagram u.setup.limit (12 + Changes.chunk_length (length (next_fragment u n)))
        (Changes.with_slot u n false) ≡ taken w now = grind (arith, nat_tests) in
        record {
          length_now = r.length_now;
          is = r.filling.is ∙ ap (λ v. used_from (shape v) (length w.slots)) same;
          kept_within = low r.length_now (r.length_now ≡ 12 + Changes.chunk_length (length (next_fragment u n))) (Changes.fill_datagram u.setup.limit
              (12 + Changes.chunk_length (length (next_fragment u n))) (Changes.with_slot u n false)) r.kept_within (ap (λ v. length v.slots) same);
          full = λ k h. omega (arith, r.full k (ap Messages.front same ∙ h), ap (λ v. next_of v k) same);
        }
      where
        low : (now' : ℕ) (P : Type 0) (v : LinkRecord) → (now' ≤ setup.limit) ⊎ (P × (length v.slots ≡ length (Changes.with_slot u n false).slots))
            → length v.slots ≡ length (taken w now).slots → (now' ≤ setup.limit) ⊎ (length (taken w now).slots ≡ length w.slots + 1)
        low now' P v (inl l) s = inl l
        low now' P v (inr e) s = inr (omega (arith, s, e.1, ap (λ y. y.slots) (Shapes.shape-slot u n false)))

packet-is : (w : LinkRecord) (from count : ℕ) → packet_length (map (chunk_at w) (numbers_where always from count))
    ≡ 12 + total_over (λ p. data_length (data_in (shape w) p)) (numbers_where always from count)
packet-is w from zero = refl
packet-is w from (suc count) = omega (arith, packet-is w (from + 1) count)

-- what a Send made, by its reply
record Made (setup : Setup) (w : LinkRecord) (now count : ℕ) (chunks : List ChunkPayloadData) : Type 0 where
  filled : Sent setup w now
  many : length chunks ≡ count
  is : packet_length chunks ≡ used_from (shape (taken w now)) (length w.slots)
  slots : length (taken w now).slots ≡ length w.slots + count
  same_front : Messages.front (after w (E.Send now)) ≡ Messages.front (taken w now)
  same_next : (n : ℕ) → next_of (after w (E.Send now)) n ≡ next_of (taken w now) n

send-made : (setup : Setup) (h : History) → IsSetup setup → IsRun setup h → (now d tsn ssn count : ℕ) (chunks : List ChunkPayloadData)
    → reply_to (record_of setup h) (E.Send now) ≡ R.Sent d tsn ssn count → datagram (after (record_of setup h) (E.Send now)) d ≡ Some (DataContents chunks)
    → Made setup (record_of setup h) now count chunks
send-made setup h is run now d tsn ssn count chunks e m = step (Messages.front w) refl e
  where
    w : LinkRecord
    w = record_of setup h

    listed : map (chunk_at (after w (E.Send now))) (numbers_from (length w.slots) count) ≡ chunks
    listed = let z = sym (ap (contents_in (after w (E.Send now))) (takes_pending setup h is run now d tsn ssn count e).1.1) ∙ m in cc

    some : 0 < count
    some = (takes_pending setup h is run now d tsn ssn count e).0

    step : (o : Option ℕ) → Messages.front w ≡ o → sent_reply w (after w (E.Send now)) o ≡ R.Sent d tsn ssn count → Made setup w now count chunks
    step None f i = cc
    step (Some n) f i =
        let v = taken w now in
        let made : after w (E.Send now) ≡ Changes.with_data (Changes.after_start w now) v = ap (Changes.send_from (Changes.after_start w now)) f in
        let c : length (after w (E.Send now)).slots - length w.slots ≡ count = cc in
        let long : length (after w (E.Send now)).slots ≡ length v.slots = ap (λ y. length y.slots) made in
        let all : length v.slots - length w.slots ≡ count = omega (arith, c, long) in
        let same : shape (after w (E.Send now)) ≡ shape v = ap shape made in
        record {
          filled = send-fills setup w now n (consistent-run setup h run).setup_is f;
          many = cc (listed, length-mapped (chunk_at (after w (E.Send now))) (numbers_from (length w.slots) count), length-numbers (length w.slots) count);
          is = sym (ap packet_length listed) ∙ packet-is (after w (E.Send now)) (length w.slots) count
              ∙ ap (λ x. 12 + total_over (λ p. data_length (data_in x p)) (numbers_from (length w.slots) count)) same
              ∙ ap (λ k. 12 + total_over (λ p. data_length (data_in (shape v) p)) (numbers_from (length w.slots) k)) (sym all);
          slots = omega (arith, all, some);
          same_front = ap front_of same;
          same_next = λ k. ap (λ x. data_length (slice_index_or (pieces (length (x.message k).bytes) x.size (x.message k).bytes) (sent x k) [])) same;
        }

-- ## The laws

pub within_limit : OnEveryRun WithinLimit
within_limit setup h is run now d tsn ssn count chunks e m =
    let s = send-made setup h is run now d tsn ssn count chunks e m in
    (s.many, λ several. (elim s.filled.kept_within [ inl l ↦ omega (arith, l, s.is, s.filled.is) | inr one ↦ absurd (omega (arith, one, s.slots, several)) ]))

pub filled_to_limit : OnEveryRun FilledToLimit
filled_to_limit setup h is run now d tsn ssn count n chunks e m f =
    let s = send-made setup h is run now d tsn ssn count chunks e m in
    omega (arith, s.filled.full n (sym s.same_front ∙ f), s.is, s.filled.is, s.same_next n)
