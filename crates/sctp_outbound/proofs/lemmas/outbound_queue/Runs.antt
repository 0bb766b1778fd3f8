-- Messages of one stream that expire one after another.
use Rattle.std.proofs.Common.{◌≡◌, ℕ, ◌+◌, ◌-◌, ◌%◌, ◌^◌, ◌<◌, Bool, true, false, not, if◌then◌else◌, List, [], ◌∷◌, Option, Some, None, slice_get}
use Rattle.std.proofs.Common.{refl, sym, ap, ap₂, ◌∙◌, subst, arith}
use Rattle.std.proofs.lemmas.Option.{none-some}
use Rattle.sctp_data.specs.declared.chunk.chunk_payload_data.ChunkPayloadData.{ChunkPayloadData}
use Rattle.sctp_util.specs.Lists.{change_where}
use Rattle.sctp_outbound.specs.declared.pending_queue.Selected.{Selected}
use Rattle.sctp_outbound.specs.Marks.{is_of}
use Rattle.sctp_outbound.specs.outbound_queue.OutboundQueue.{IsOfRun, Outbound, closed_run, expired_of, expiring, is_expired, passing, stream_and_kind}
use Rattle.sctp_outbound.specs.pending_queue.PendingQueue.{Pending, closed_up, list_of, lower_by, lowered, next_pending, one_lower, without, without_message}
use Rattle.sctp_outbound.proofs.lemmas.outbound_queue.Sendable.{made}
use Rattle.sctp_serial.specs.DataChunks.{is_on}

-- ## Numbers

-- one number lower after so many
one_more : (k : ℕ) (c : ChunkPayloadData) → k + 1 < 2 ^ 16 → one_lower (lower_by k c) ≡ lower_by (k + 1) c
one_more k c lt = ap (λ n. let d : ChunkPayloadData = record c { stream_sequence_number = n } in d) (number c.stream_sequence_number)
  where
    number : (s : ℕ) → ((s + (2 ^ 16 - k)) % 2 ^ 16 + (2 ^ 16 - 1)) % 2 ^ 16 ≡ (s + (2 ^ 16 - (k + 1))) % 2 ^ 16
    number s = omega (arith, lt)

module _ (s m k : ℕ) (lt : k + 1 < 2 ^ 16) where
  -- the numbers of what is left go one lower where those of all went so many lower
  list_lower : (xs : List ChunkPayloadData) → change_where (is_on s) one_lower (without_message m (change_where (is_on s) (lower_by k) xs))
      ≡ change_where (is_on s) (lower_by (k + 1)) (without_message m xs)
  list_lower [] = refl
  list_lower (x ∷ xs) = step (is_on s x) refl (list_lower xs)
    where
      ws : List ChunkPayloadData
      ws = without_message m (change_where (is_on s) (lower_by k) xs)

      vs : List ChunkPayloadData
      vs = without_message m xs

      number : (b : Bool) → is_of m (if b then lower_by k x else x) ≡ is_of m x
      number true = refl
      number false = refl

      by : (b a : Bool) → is_on s x ≡ b → change_where (is_on s) one_lower ws ≡ change_where (is_on s) (lower_by (k + 1)) vs
          → change_where (is_on s) one_lower (if not a then (if b then lower_by k x else x) ∷ ws else ws)
          ≡ change_where (is_on s) (lower_by (k + 1)) (if not a then x ∷ vs else vs)
      by b true e ih = ih
      by true false e ih = rw e (ap₂ (λ (y : ChunkPayloadData) ys. y ∷ ys) (one_more k x lt) ih)
      by false false e ih = rw e (ap (λ ys. x ∷ ys) ih)

      step : (b : Bool) → is_on s x ≡ b → change_where (is_on s) one_lower ws ≡ change_where (is_on s) (lower_by (k + 1)) vs
          → change_where (is_on s) one_lower (if not (is_of m (if b then lower_by k x else x)) then (if b then lower_by k x else x) ∷ ws else ws)
          ≡ change_where (is_on s) (lower_by (k + 1)) (if not (is_of m x) then x ∷ vs else vs)
      step b e ih = subst (λ t. change_where (is_on s) one_lower (if not t then (if b then lower_by k x else x) ∷ ws else ws)
          ≡ change_where (is_on s) (lower_by (k + 1)) (if not (is_of m x) then x ∷ vs else vs)) (sym (number b)) (by b (is_of m x) e ih)

  pending_lower : (q : Pending) → closed_up s (without m (lowered s k q)) ≡ lowered s (k + 1) (without m q)
  pending_lower q = ap (λ os. let p : Pending = record (without m q) { ordered = os } in p) (list_lower q.ordered)

-- ## The chunk in front

some_is : (x c : ChunkPayloadData) → Some x ≡ Some c → x ≡ c
some_is x c h = cc

-- with its number so many lower, or as it was
abbrev lower_if : Bool → ℕ → ChunkPayloadData → ChunkPayloadData
lower_if b k c = if b then lower_by k c else c

module _ (s k : ℕ) where
  first_lowered : (os : List ChunkPayloadData) (c : ChunkPayloadData) → slice_get os 0 ≡ Some c
      → (b : Bool) × (slice_get (change_where (is_on s) (lower_by k) os) 0 ≡ Some (lower_if b k c))
  first_lowered [] c h = absurd (none-some c h)
  first_lowered (o ∷ os) c h = (is_on s o, ap (λ (y : ChunkPayloadData). Some (lower_if (is_on s o) k y)) (some_is o c h))

  next_lowered : (os us : List ChunkPayloadData) (sel : Option Selected) (ro ru : ℕ) (c : ChunkPayloadData) → next_pending (made os us sel ro ru) ≡ Some c
      → (b : Bool) × (next_pending (lowered s k (made os us sel ro ru)) ≡ Some (lower_if b k c))
  next_lowered os (u ∷ us) None ro ru c h = (false, h)
  next_lowered os [] None ro ru c h = first_lowered os c h
  next_lowered os us (Some t) ro ru c h = by t.unordered h
    where
      by : (u : Bool) → slice_get (list_of u (made os us (Some t) ro ru)) 0 ≡ Some c
          → (b : Bool) × (slice_get (list_of u (lowered s k (made os us (Some t) ro ru))) 0 ≡ Some (lower_if b k c))
      by true h = (false, h)
      by false h = first_lowered os c h

-- ## One message more

pub expiring_is : (now : ℕ) (q : Outbound) (c : ChunkPayloadData) → next_pending q.pending ≡ Some c → is_expired now c ≡ true → expiring now q ≡ Some c
expiring_is now q c h e = ap (passing (is_expired now)) h ∙ rw e refl

pub expired_ordered : (q : Outbound) (s m : ℕ) (c : ChunkPayloadData) → c.stream_identifier ≡ s → c.unordered ≡ false → c.message_id ≡ m
    → expired_of (Some c) q ≡ record q { pending = closed_up s (without m q.pending) }
expired_ordered q s m c e u n = rw (u, e, n) refl

pub expired_unordered : (q : Outbound) (m : ℕ) (c : ChunkPayloadData) → c.unordered ≡ true → c.message_id ≡ m
    → expired_of (Some c) q ≡ record q { pending = without m q.pending }
expired_unordered q m c u n = rw (u, n) refl

same_answer : (s : ℕ) (kind : Bool) (c : ChunkPayloadData) → c.stream_identifier ≡ s → c.unordered ≡ kind → stream_and_kind (Some c) ≡ Some (s, kind)
same_answer s kind c e u = rw (e, u) refl

-- so many expired, the next one too
pub record Next (now s k m : ℕ) (kind : Bool) (q : Outbound) : Type 0 where
  pub removed : expired_of (expiring now (closed_run s kind k q)) (closed_run s kind k q) ≡ closed_run s kind (k + 1)
      (record q { pending = without m q.pending })
  pub answer : stream_and_kind (expiring now (closed_run s kind k q)) ≡ Some (s, kind)

module _ (now s k m : ℕ) (q : Outbound) (lt : k + 1 < 2 ^ 16) where
  next_of : (kind : Bool) (c : ChunkPayloadData) → next_pending q.pending ≡ Some c → IsOfRun now s kind m (Some c) → Next now s k m kind q
  next_of true c e h =
      let it = expiring_is now q c e h.0 in
      record {
        removed = ap (λ o. expired_of o q) it ∙ expired_unordered q m c h.2 h.3;
        answer = ap stream_and_kind it ∙ same_answer s true c h.1 h.2;
      }
  next_of false c e h =
      let n = next_lowered s k q.pending.ordered q.pending.unordered q.pending.selected q.pending.ordered_room q.pending.unordered_room c e in
      let it = expiring_is now (closed_run s false k q) (lower_if n.0 k c) n.1 (still n.0) in
      record {
        removed = ap (λ o. expired_of o (closed_run s false k q)) it ∙ expired_ordered (closed_run s false k q) s m (lower_if n.0 k c)
            (stream n.0) (kind n.0) (number n.0) ∙ ap (λ p. let r : Outbound = record q { pending = p } in r) (pending_lower s m k lt q.pending);
        answer = ap stream_and_kind it ∙ same_answer s false (lower_if n.0 k c) (stream n.0) (kind n.0);
      }
    where
      still : (b : Bool) → is_expired now (lower_if b k c) ≡ true
      still true = h.0
      still false = h.0

      stream : (b : Bool) → (lower_if b k c).stream_identifier ≡ s
      stream true = h.1
      stream false = h.1

      kind : (b : Bool) → (lower_if b k c).unordered ≡ false
      kind true = h.2
      kind false = h.2

      number : (b : Bool) → (lower_if b k c).message_id ≡ m
      number true = h.3
      number false = h.3

  pub next_in_run : (kind : Bool) → IsOfRun now s kind m (next_pending q.pending) → Next now s k m kind q
  next_in_run kind h = by (next_pending q.pending) refl h
    where
      by : (o : Option ChunkPayloadData) → next_pending q.pending ≡ o → IsOfRun now s kind m o → Next now s k m kind q
      by None e h = absurd h
      by (Some c) e h = next_of kind c e h

-- the first one of a run
pub record First (now s m : ℕ) (kind : Bool) (q : Outbound) : Type 0 where
  pub removed : expired_of (expiring now q) q ≡ closed_run s kind 1 (record q { pending = without m q.pending })
  pub answer : stream_and_kind (expiring now q) ≡ Some (s, kind)

pub first_in_run : (now s m : ℕ) (q : Outbound) (kind : Bool) → IsOfRun now s kind m (next_pending q.pending) → First now s m kind q
first_in_run now s m q kind h = by (next_pending q.pending) refl h
  where
    one : (kind : Bool) (c : ChunkPayloadData) → IsOfRun now s kind m (Some c)
        → expired_of (Some c) q ≡ closed_run s kind 1 (record q { pending = without m q.pending })
    one true c h = expired_unordered q m c h.2 h.3
    one false c h = expired_ordered q s m c h.1 h.2 h.3

    by : (o : Option ChunkPayloadData) → next_pending q.pending ≡ o → IsOfRun now s kind m o → First now s m kind q
    by None e h = absurd h
    by (Some c) e h =
        let it = expiring_is now q c e h.0 in
        record { removed = ap (λ o. expired_of o q) it ∙ one kind c h; answer = ap stream_and_kind it ∙ same_answer s kind c h.1 h.2 }

-- ## The end of a run

-- what expires of the stream is of the run
in_run : (now s : ℕ) (kind : Bool) (c : ChunkPayloadData) → stream_and_kind (passing (is_expired now) (Some c)) ≡ Some (s, kind)
    → IsOfRun now s kind c.message_id (Some c)
in_run now s kind c h = by (is_expired now c) refl h
  where
    pair_of : (a p : ℕ × Bool) → ◌≡◌ {A = Option (ℕ × Bool)} (Some a) (Some p) → a ≡ p
    pair_of a p h = cc

    stream : stream_and_kind (Some c) ≡ Some (s, kind) → c.stream_identifier ≡ s
    stream h = ap (λ (a : ℕ × Bool). a.0) (pair_of (c.stream_identifier, c.unordered) (s, kind) h)

    unordered : stream_and_kind (Some c) ≡ Some (s, kind) → c.unordered ≡ kind
    unordered h = ap (λ (a : ℕ × Bool). a.1) (pair_of (c.stream_identifier, c.unordered) (s, kind) h)

    by : (b : Bool) → is_expired now c ≡ b → stream_and_kind (if b then Some c else None) ≡ Some (s, kind) → IsOfRun now s kind c.message_id (Some c)
    by true e h = (e, stream h, unordered h, refl)
    by false e h = cc

-- so it is where numbers are lower
raised : (now s k : ℕ) (kind b : Bool) (c : ChunkPayloadData) → IsOfRun now s kind c.message_id (Some (lower_if b k c))
    → IsOfRun now s kind c.message_id (Some c)
raised now s k kind true c h = h
raised now s k kind false c h = h

number_if : (b : Bool) (k : ℕ) (c : ChunkPayloadData) → (lower_if b k c).message_id ≡ c.message_id
number_if true k c = refl
number_if false k c = refl

none_lowered : (s k : ℕ) (os us : List ChunkPayloadData) (sel : Option Selected) (ro ru : ℕ) → next_pending (made os us sel ro ru) ≡ None
    → next_pending (lowered s k (made os us sel ro ru)) ≡ None
none_lowered s k os (u ∷ us) None ro ru h = h
none_lowered s k [] [] None ro ru h = h
none_lowered s k (o ∷ os) [] None ro ru h = cc
none_lowered s k os us (Some t) ro ru h = by t.unordered os h
  where
    by : (u : Bool) (os : List ChunkPayloadData) → slice_get (list_of u (made os us (Some t) ro ru)) 0 ≡ None
        → slice_get (list_of u (lowered s k (made os us (Some t) ro ru))) 0 ≡ None
    by true os h = h
    by false [] h = h
    by false (o ∷ os) h = cc

pub run_ends : (now s k : ℕ) (kind : Bool) (q : Outbound) → ((m : ℕ) → IsOfRun now s kind m (next_pending q.pending) → ⊥)
    → stream_and_kind (expiring now (closed_run s kind k q)) ≡ Some (s, kind) → ⊥
run_ends now s k kind q none h = by (next_pending q.pending) refl kind none h
  where
    by : (o : Option ChunkPayloadData) → next_pending q.pending ≡ o → (kind : Bool) → ((m : ℕ) → IsOfRun now s kind m (next_pending q.pending) → ⊥)
        → stream_and_kind (expiring now (closed_run s kind k q)) ≡ Some (s, kind) → ⊥
    by None e true none h = none-some (s, true) (ap (λ o. stream_and_kind (passing (is_expired now) o)) (sym e) ∙ h)
    by None e false none h = none-some (s, false) (ap (λ o. stream_and_kind (passing (is_expired now) o))
        (sym (none_lowered s k q.pending.ordered q.pending.unordered q.pending.selected q.pending.ordered_room q.pending.unordered_room e)) ∙ h)
    by (Some c) e true none h =
        let here = in_run now s true c (ap (λ o. stream_and_kind (passing (is_expired now) o)) (sym e) ∙ h) in
        none c.message_id (subst (IsOfRun now s true c.message_id) (sym e) here)
    by (Some c) e false none h =
        let n = next_lowered s k q.pending.ordered q.pending.unordered q.pending.selected q.pending.ordered_room q.pending.unordered_room c e in
        let here = in_run now s false (lower_if n.0 k c) (ap (λ o. stream_and_kind (passing (is_expired now) o)) (sym n.1) ∙ h) in
        let same = subst (λ m. IsOfRun now s false m (Some (lower_if n.0 k c))) (number_if n.0 k c) here in
        none c.message_id (subst (IsOfRun now s false c.message_id) (sym e) (raised now s k false n.0 c same))
