-- The bytes of some streams that wait and are in flight, and the buffered amount of a stream: what each change of a sender makes of them.
use Rattle.sctp_delivery.proofs.Names.{◌≡◌, ℕ, ◌+◌, ◌-◌, ◌<◌, Bool, true, false, not, List, [], ◌∷◌, ◌++◌, length, map, take, drop, Option, Some, None, refl}
use Rattle.sctp_delivery.proofs.Names.{ap, sym, ◌∙◌, arith, if◌then◌else◌, ◌==◌, find, filter, sum_by, take-append-drop, sum_by-append, sum_by-cons, is_some}
use Rattle.sctp_delivery.proofs.Names.{none-some, nat_tests, common_steps, change_where, sum_by-inserted, ChunkPayloadData, Sack, Selected, as_abandoned}
use Rattle.sctp_delivery.proofs.Names.{as_acknowledged, is_of, is_outstanding, Outbound, abandon_chunks, all_started, as_sent, expired_of, sent_of, total_bytes}
use Rattle.sctp_delivery.proofs.Names.{with_message, with_message_id, past, Pending, chunk_to_pop_from, list_to_pop, next_pending, rest_from, without_message}
use Rattle.sctp_delivery.proofs.Names.{IsSendable, made, sendable-sent, bytes_of, chunk_before, Released, AbandonedMessage, released_of, reports_anew}
use Rattle.sctp_delivery.proofs.Names.{after_leaving, after_releases, has_number, less_by, with_lows, with_message_lows, OutboundStream, bytes_for}
use Rattle.sctp_delivery.proofs.Names.{bytes_of_chunks, bytes_of_messages}
use Rattle.sctp_util.proofs.Edits.{change_where-map}
use Rattle.sctp_sender.specs.Thresholds.{falls_on}
use Rattle.sctp_delivery.proofs.Every.{Every, every-of, every-all}

-- ## The bytes of some streams

-- of a chunk
abbrev pub size : (ℕ → Bool) → ChunkPayloadData → ℕ
size on c = if on c.stream_identifier then length c.user_data else 0

abbrev pub weigh : (ℕ → Bool) → List ChunkPayloadData → ℕ
weigh on cs = sum_by (size on) cs

abbrev pub waiting : (ℕ → Bool) → Pending → ℕ
waiting on q = weigh on q.ordered + weigh on q.unordered

-- of all that waits and is in flight
abbrev pub held : (ℕ → Bool) → Outbound → ℕ
held on q = waiting on q.pending + weigh on q.inflight.chunks

-- one stream, and all others
abbrev pub only : ℕ → ℕ → Bool
only s t = t == s

abbrev pub others : ℕ → ℕ → Bool
others s t = not (t == s)

pub zero-if : (b : Bool) → ◌≡◌ {A = ℕ} (if b then 0 else 0) 0
zero-if true = refl
zero-if false = refl

split : (s : ℕ) (cs : List ChunkPayloadData) → weigh (only s) cs + weigh (others s) cs ≡ bytes_of cs
split s [] = refl
split s (c ∷ cs) = grind (arith, common_steps, split s cs)

pub split-all : (s : ℕ) (q : Outbound) → held (only s) q + held (others s) q ≡ total_bytes q
split-all s q =
    let a = split s q.pending.ordered in
    let b = split s q.pending.unordered in
    let c = split s q.inflight.chunks in
    omega (arith, a, b, c)

-- it is outstanding, or has no bytes
abbrev pub IsBare : ChunkPayloadData → Type 0
IsBare c = is_outstanding c ≡ false → length c.user_data ≡ 0

module _ (on : ℕ → Bool) where
  changed-where : (p : ChunkPayloadData → Bool) (f : ChunkPayloadData → ChunkPayloadData) (xs : List ChunkPayloadData)
      → Every (λ c. p c ≡ true → size on (f c) ≡ size on c) xs → weigh on (change_where p f xs) ≡ weigh on xs
  changed-where p f [] e = refl
  changed-where p f (c ∷ cs) e = grind (arith, common_steps, changed-where p f cs e.1)

  pub changed : (p : ChunkPayloadData → Bool) (f : ChunkPayloadData → ChunkPayloadData) → ((c : ChunkPayloadData) → size on (f c) ≡ size on c)
      → (xs : List ChunkPayloadData) → weigh on (change_where p f xs) ≡ weigh on xs
  changed p f same xs = changed-where p f xs (every-all (λ c. p c ≡ true → size on (f c) ≡ size on c) (λ c _. same c) xs)

  -- of the first so many
  pub first-changed : (p : ChunkPayloadData → Bool) (f : ChunkPayloadData → ChunkPayloadData) → ((c : ChunkPayloadData) → size on (f c) ≡ size on c)
      → (i : ℕ) (xs : List ChunkPayloadData) → weigh on (change_where p f (take i xs) ++ drop i xs) ≡ weigh on xs
  first-changed p f same i xs =
      let a = sum_by-append (size on) (change_where p f (take i xs)) (drop i xs) in
      let b = changed p f same (take i xs) in
      let d = sum_by-append (size on) (take i xs) (drop i xs) in
      let e = ap (weigh on) (take-append-drop i xs) in
      omega (arith, a, b, d, e)

  -- ## A message leaves

  -- each chunk of the message is on none of these streams
  abbrev AreOff : ℕ → List ChunkPayloadData → Type 0
  AreOff m xs = Every (λ c. is_of m c ≡ true → on c.stream_identifier ≡ false) xs

  pub record IsOff (m : ℕ) (q : Outbound) : Type 0 where
    pub ordered : AreOff m q.pending.ordered
    pub unordered : AreOff m q.pending.unordered
    pub inflight : AreOff m q.inflight.chunks

  pub off-size : (c : ChunkPayloadData) → on c.stream_identifier ≡ false → size on c ≡ 0
  off-size c e = ap (λ b. if b then length c.user_data else 0) e

  left-of : (m : ℕ) (xs : List ChunkPayloadData) → AreOff m xs → weigh on (without_message m xs) ≡ weigh on xs
  left-of m [] o = refl
  left-of m (c ∷ cs) o = grind (arith, common_steps, left-of m cs o.1)

  marked-of : (m : ℕ) (xs : List ChunkPayloadData) → AreOff m xs → weigh on (change_where (is_of m) as_abandoned xs) ≡ weigh on xs
  marked-of m xs o = grind (arith, nat_tests, changed-where, every-of, off-size, zero-if)

  pub abandoned : (m tsn : ℕ) (q : Outbound) → IsOff m q → held on (abandon_chunks m tsn q) ≡ held on q
  abandoned m tsn q o = grind (arith, nat_tests, left-of, marked-of, sum_by-inserted, zero-if)

  pub expired : (c : ChunkPayloadData) (q : Outbound) → IsOff c.message_id q → held on (expired_of (Some c) q) ≡ held on q
  expired c q o = grind (arith, nat_tests, common_steps, left-of, changed)

  -- ## Chunks are sent

  pub started : (now : ℕ) (q : Outbound) → held on (all_started now q) ≡ held on q
  started now q = grind (arith, nat_tests, common_steps, changed)

  popped : (k : Option Bool) (os us : List ChunkPayloadData) (sel : Option Selected) (ro ru : ℕ) (c : ChunkPayloadData)
      → chunk_to_pop_from k (made os us sel ro ru) ≡ Some c
      → waiting on (rest_from k (made os us sel ro ru)) + size on c ≡ waiting on (made os us sel ro ru)
  popped h0 h1 h2 h3 h4 h5 h6 h7 = grind (arith, nat_tests, common_steps)

  pub sent : (tsn now : ℕ) (q : Outbound) → IsSendable q.pending q.inflight.chunks q.next_message_id → (o : Option ChunkPayloadData)
      → next_pending q.pending ≡ o → held on (sent_of o q tsn now) ≡ held on q
  sent tsn now q s None e = refl
  sent tsn now q s (Some c) e =
      let p = q.pending in
      let t = as_sent tsn now c in
      let a = popped (list_to_pop p.selected c.beginning_fragment c.unordered) p.ordered p.unordered p.selected p.ordered_room p.unordered_room c
      (sendable-sent p q.inflight.chunks q.next_message_id c t refl s e).taken in
      let b = sum_by-inserted (size on) chunk_before t q.inflight.chunks in
      omega (arith, a, b)

  -- ## A SACK

  -- the bytes that are told of a chunk
  abbrev pub told : Released → ℕ
  told r = if on r.stream then r.bytes else 0

  module _ (k : Sack) (w : ℕ → Bool) where
    abbrev after : List ChunkPayloadData → List ChunkPayloadData
    after cs = past k.cumulative_tsn_ack (change_where (reports_anew k) as_acknowledged cs)

    abbrev gone : List ChunkPayloadData → List Released
    gone cs = map (released_of w) (filter (reports_anew k) cs)

    pub sacked : (cs : List ChunkPayloadData) → Every IsBare cs → weigh on (after cs) + sum_by told (gone cs) ≡ weigh on cs
    sacked [] t = refl
    sacked (c ∷ cs) t = grind (arith, common_steps, sacked cs t.1)

  -- ## A write

  none-weighs : (xs : List ChunkPayloadData) (n : ℕ) → Every (λ c. on c.stream_identifier ≡ false) xs → weigh on (map (with_message_id n) xs) ≡ 0
  none-weighs [] n e = refl
  none-weighs (c ∷ cs) n e = grind (arith, nat_tests, none-weighs cs n e.1)

  pub pushed : (cs : List ChunkPayloadData) (q : Outbound) → Every (λ c. on c.stream_identifier ≡ false) cs → held on (with_message cs q) ≡ held on q
  pushed [] q e = refl
  pushed (c ∷ cs) q e = grind (arith, common_steps, none-weighs, sum_by-append)

-- ## The amount of a stream

-- 0 where it is not open
abbrev pub amount : ℕ → List OutboundStream → ℕ
amount s [] = 0
amount s (l ∷ ls) = if l.stream_identifier == s then l.buffered_amount else amount s ls

pub amount-found : (s : ℕ) (ls : List OutboundStream) (l : OutboundStream) → find (has_number s) ls ≡ Some l → amount s ls ≡ l.buffered_amount
amount-found s [] l e = absurd (none-some l e)
amount-found s (x ∷ xs) l e = grind (arith, nat_tests, amount-found s xs l)

-- a stream is opened
pub amount-opened : (s : ℕ) (x : OutboundStream) → x.buffered_amount ≡ 0 → (ls : List OutboundStream) → amount s (ls ++ x ∷ []) ≡ amount s ls
amount-opened s x z [] = elim (x.stream_identifier == s) as (λ b. (if b then x.buffered_amount else 0) ≡ 0) [ true ↦ z | false ↦ refl ]
amount-opened s x z (l ∷ ls) = ap (λ k. if l.stream_identifier == s then l.buffered_amount else k) (amount-opened s x z ls)

-- all are changed, and their amounts stay
pub amount-mapped : (s : ℕ) (f : OutboundStream → OutboundStream) → ((l : OutboundStream) → (f l).stream_identifier ≡ l.stream_identifier)
    → ((l : OutboundStream) → (f l).buffered_amount ≡ l.buffered_amount) → (ls : List OutboundStream) → amount s (map f ls) ≡ amount s ls
amount-mapped s f number same [] = refl
amount-mapped s f number same (l ∷ ls) = grind (arith, nat_tests, amount-mapped s f number same ls)

-- some are changed, and their amounts stay
pub amount-kept : (s : ℕ) (p : OutboundStream → Bool) (f : OutboundStream → OutboundStream)
    → ((l : OutboundStream) → (f l).stream_identifier ≡ l.stream_identifier) → ((l : OutboundStream) → (f l).buffered_amount ≡ l.buffered_amount)
    → (ls : List OutboundStream) → amount s (change_where p f ls) ≡ amount s ls
amount-kept s p f number same ls = grind (arith, nat_tests, amount-mapped, change_where-map)

-- one is changed
module _ (s r : ℕ) (f : OutboundStream → OutboundStream) (number : (l : OutboundStream) → (f l).stream_identifier ≡ l.stream_identifier) where
  abbrev after-one : List OutboundStream → List OutboundStream
  after-one ls = change_where (has_number r) f ls

  -- its amount becomes g of what it was
  pub amount-changed : (g : ℕ → ℕ) → ((l : OutboundStream) → (f l).buffered_amount ≡ g l.buffered_amount) → 0 ≡ g 0 → (r == s) ≡ true
      → (ls : List OutboundStream) → amount s (after-one ls) ≡ g (amount s ls)
  amount-changed g is z same [] = z
  amount-changed g is z same (l ∷ ls) = grind (arith, nat_tests, amount-changed g is z same ls)

  pub amount-elsewhere : (r == s) ≡ false → (ls : List OutboundStream) → amount s (after-one ls) ≡ amount s ls
  amount-elsewhere other [] = refl
  amount-elsewhere other (l ∷ ls) = grind (arith, nat_tests, amount-elsewhere other ls)

-- where it is something, the stream is open
pub amount-open : (s : ℕ) (ls : List OutboundStream) → 0 < amount s ls → is_some (find (has_number s) ls) ≡ true
amount-open s [] lt = absurd (omega (arith, lt))
amount-open s (l ∷ ls) lt = grind (arith, nat_tests, amount-open s ls)

-- of a stream that is open
pub amount-at : (s : ℕ) (f : OutboundStream → OutboundStream) → ((l : OutboundStream) → (f l).stream_identifier ≡ l.stream_identifier)
    → (ls : List OutboundStream) (l : OutboundStream) → find (has_number s) ls ≡ Some l
    → amount s (change_where (has_number s) f ls) ≡ (f l).buffered_amount
amount-at s f number [] l e = absurd (none-some l e)
amount-at s f number (x ∷ xs) l e = grind (arith, nat_tests, amount-at s f number xs l)

-- one has so many bytes less
pub amount-less : (s r bytes : ℕ) (f : OutboundStream → OutboundStream) → ((l : OutboundStream) → (f l).stream_identifier ≡ l.stream_identifier)
    → ((l : OutboundStream) → (f l).buffered_amount ≡ l.buffered_amount - bytes) → (ls : List OutboundStream)
    → amount s (change_where (has_number r) f ls) ≡ amount s ls - bytes_for s r bytes
amount-less s r bytes f number is ls = by (r == s) refl
  where
    by : (b : Bool) → (r == s) ≡ b → amount s (change_where (has_number r) f ls) ≡ amount s ls - (if b then bytes else 0)
    by true e = amount-changed s r f number (λ n. n - bytes) is (omega arith) e ls
    by false e = let h = amount-elsewhere s r f number e ls in omega (arith, h)

-- and those of chunks, and of messages, one after another
pub amount-released : (s : ℕ) (rs : List Released) (ls : List OutboundStream) → amount s (after_releases rs ls) ≡ amount s ls - bytes_of_chunks s rs
amount-released s [] ls = omega arith
amount-released s (r ∷ rs) ls =
    let a = amount-released s rs (change_where (has_number r.stream) (less_by r.bytes) ls) in
    let b = amount-less s r.stream r.bytes (less_by r.bytes) (λ l. refl) (λ l. refl) ls in
    let n = sum_by-cons (λ (x : Released). bytes_for s x.stream x.bytes) r rs in
    omega (arith, a, b, n)

pub amount-left : (s : ℕ) (gs : List AbandonedMessage) (ls : List OutboundStream) → amount s (after_leaving gs ls) ≡ amount s ls - bytes_of_messages s gs
amount-left s [] ls = omega arith
amount-left s (g ∷ gs) ls =
    let a = amount-left s gs (change_where (has_number g.stream) (less_by g.bytes) ls) in
    let b = amount-less s g.stream g.bytes (less_by g.bytes) (λ l. refl) (λ l. refl) ls in
    let n = sum_by-cons (λ (x : AbandonedMessage). bytes_for s x.stream x.bytes) g gs in
    omega (arith, a, b, n)

-- whatever is told of low thresholds
pub lows-told : (s : ℕ) (rs : List Released) (ls : List OutboundStream) → bytes_of_chunks s (with_lows rs ls) ≡ bytes_of_chunks s rs
lows-told s [] ls = refl
lows-told s (r ∷ rs) ls =
    let more = change_where (has_number r.stream) (less_by r.bytes) ls in
    let x : Released = record r { is_low = falls_on r.stream r.bytes ls } in
    sum_by-cons (λ (y : Released). bytes_for s y.stream y.bytes) x (with_lows rs more)
    ∙ ap (λ n. bytes_for s r.stream r.bytes + n) (lows-told s rs more) ∙ sym (sum_by-cons (λ (y : Released). bytes_for s y.stream y.bytes) r rs)

pub message-lows-told : (s : ℕ) (gs : List AbandonedMessage) (ls : List OutboundStream)
    → bytes_of_messages s (with_message_lows gs ls) ≡ bytes_of_messages s gs
message-lows-told s [] ls = refl
message-lows-told s (g ∷ gs) ls =
    let more = change_where (has_number g.stream) (less_by g.bytes) ls in
    let x : AbandonedMessage = record g { is_low = falls_on g.stream g.bytes ls } in
    sum_by-cons (λ (y : AbandonedMessage). bytes_for s y.stream y.bytes) x (with_message_lows gs more)
    ∙ ap (λ n. bytes_for s g.stream g.bytes + n) (message-lows-told s gs more)
    ∙ sym (sum_by-cons (λ (y : AbandonedMessage). bytes_for s y.stream y.bytes) g gs)
