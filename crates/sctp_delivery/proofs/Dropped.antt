-- What `drop_expired` gives up, as calls of a session.
use Rattle.sctp_delivery.proofs.Names.{◌≡◌, ℕ, zero, suc, ◌+◌, ◌-◌, ◌^◌, ◌<◌, ◌≤◌, Bool, true, false, List, [], ◌∷◌, ◌++◌, Option, Some, None, Result, Ok, Err}
use Rattle.sctp_delivery.proofs.Names.{refl, ap, ap₂, sym, subst, ◌∙◌, arith, ◌==◌, ◌&&◌, IfOk, IfSome, if◌then◌else◌, option_map, list_all, list_all-append}
use Rattle.sctp_delivery.proofs.Names.{sum_by-append, none-some, nat_tests, ChunkPayloadData, removed_le, Outbound, expired_of, expiring, expiring_tail}
use Rattle.sctp_delivery.proofs.Names.{late_tsns, message_of, total_bytes, ExpiredMessage, AbandonedMessage, SenderRefusal, late_order, leaving_each}
use Rattle.sctp_delivery.proofs.Names.{worn_order, has_number, Transmission, after_abandon, after_expire, held_by_sender, with_message_lows, OutboundStream}
use Rattle.sctp_delivery.proofs.Names.{change_where, same-yes, bytes_for, bytes_of_messages, SenderCall, SenderMakes, expires, expires_late, expires_rexmit}
use Rattle.sctp_delivery.proofs.Names.{expires_tail, starts}
use Rattle.std.specs.Prelude.{◌≢◌, is_some}
use Rattle.sctp_outbound.proofs.lemmas.pending_queue.Waiting.{bytes_of-change_where}
use Rattle.sctp_outbound.specs.outbound_queue.OutboundQueue.{AreExpiredOf, expired_times, stream_and_kind}
use Rattle.sctp_sender.specs.declared.sender.Dropped.{Dropped}
use Rattle.sctp_sender.specs.declared.sender.Dropped.TheVariants.{Expired, Abandoned}
use Rattle.sctp_sender.specs.Drops.{TailGoes, bytes_dropped, list_in, run_in, with_lifetimes}
use Rattle.sctp_sender.specs.Flight.{with_queue}
use Rattle.sctp_sender.specs.Late.{after_late, after_worn}
use Rattle.sctp_sender.specs.Outgoing.{after_expiries}
use Rattle.sctp_sender.specs.Sender.{after_expire_run}
use Rattle.sctp_sender.specs.SenderRuns.{bytes_of_all}
use Rattle.sctp_delivery.specs.Amounts.{Drops, told_each, told_of}
use Rattle.sctp_delivery.specs.SenderCalls.{SenderMakesEach, Tells, is_drop}

-- ## Calls one after another

-- such calls, whose answers tell so many bytes on each stream
abbrev Gives : (ℕ → ℕ) → ℕ → Transmission → Transmission → Type 0
Gives b now old new =
    (calls : List SenderCall)
    × (SenderMakesEach calls old new × ((list_all (is_drop now) calls ≡ true) × ((s : ℕ) → told_each s calls ≡ b s)))

gives-as : (b c : ℕ → ℕ) → ((s : ℕ) → b s ≡ c s) → (now : ℕ) (old new : Transmission) → Gives b now old new → Gives c now old new
gives-as b c same now old new h = (h.0, (h.1.0, (h.1.1.0, λ s. h.1.1.1 s ∙ same s)))

one : (now : ℕ) (call : SenderCall) (old new : Transmission) → is_drop now call ≡ true → SenderMakes call old new → Gives (λ s. told_of s call) now old new
one now call old new e m = (call ∷ [], ((new, (m, refl)), (ap (λ b. b && true) e, λ s. omega arith)))

each-then : (cs ds : List SenderCall) (a b c : Transmission) → SenderMakesEach cs a b → SenderMakesEach ds b c → SenderMakesEach (cs ++ ds) a c
each-then [] ds a b c h k = subst (λ t. SenderMakesEach ds t c) h k
each-then (x ∷ cs) ds a b c h k = (h.0, (h.1.0, each-then cs ds h.0 b c h.1.1 k))

both-drop : (b d : ℕ → ℕ) (now : ℕ) (x y z : Transmission) → Gives b now x y → Gives d now y z → Gives (λ s. b s + d s) now x z
both-drop b d now x y z h k = grind (arith, nat_tests, each-then, list_all-append, sum_by-append)

-- ## Messages in front

abbrev stream_in : Option (ℕ × Bool) → ℕ
stream_in None = 0
stream_in (Some p) = p.0

abbrev kind_in : Option (ℕ × Bool) → Bool
kind_in None = false
kind_in (Some p) = p.1

abbrev after_first : Bool → ℕ → ℕ → OutboundStream → Bool → OutboundStream
after_first u n a l k = if k then after_expiries u n a l else l

abbrev after_both : ℕ → Bool → ℕ → ℕ → ℕ → OutboundStream → Bool → OutboundStream
after_both s u n a b l k = if has_number s (after_first u n a l k) then after_expiries u 1 b (after_first u n a l k) else after_first u n a l k

heads : (s : ℕ) (u : Bool) (n a b : ℕ) (l : OutboundStream) → n + 1 < 2 ^ 16 → (k : Bool) → has_number s l ≡ k
    → after_both s u n a b l (has_number s l) ≡ after_first u (n + 1) (a + b) l (has_number s l)
heads s u n a b l h7 k h9 = grind (arith, nat_tests)

streams-then : (s : ℕ) (u : Bool) (n a b : ℕ) → n + 1 < 2 ^ 16 → (ls : List OutboundStream)
    → change_where (has_number s) (after_expiries u 1 b) (change_where (has_number s) (after_expiries u n a) ls)
    ≡ change_where (has_number s) (after_expiries u (n + 1) (a + b)) ls
streams-then s u n a b few [] = refl
streams-then s u n a b few (l ∷ ls) =
    ap₂ (λ (x : OutboundStream) (xs : List OutboundStream). x ∷ xs) (heads s u n a b l few (has_number s l) refl) (streams-then s u n a b few ls)

-- a message that leaves takes its bytes with it
leaves-le : (o : Option ChunkPayloadData) (q : Outbound) → total_bytes (expired_of o q) ≤ total_bytes q
leaves-le None q = omega arith
leaves-le (Some c) q = grind (arith, nat_tests, bytes_of-change_where, removed_le)

module _ (now s : ℕ) (u : Bool) (t : Transmission) where
  -- what waits once so many expired, and their bytes
  abbrev left : ℕ → Outbound
  left n = expired_times now n t.flight.queue

  abbrev gone : ℕ → ℕ
  gone n = total_bytes t.flight.queue - total_bytes (left n)

  abbrev after : ℕ → Transmission
  after n = after_expire_run s u n (gone n) now t

  least : (n : ℕ) → total_bytes (left n) ≤ total_bytes t.flight.queue
  least zero = omega arith
  least (suc n) = let rest = leaves-le (expiring now (left n)) (left n) in let all = least n in omega (arith, rest, all)

  -- one message, where it is of the stream
  steps : (old new : Transmission) (bytes : ℕ) (o : Option ChunkPayloadData) → expiring now old.flight.queue ≡ o → stream_and_kind o ≡ Some (s, u)
      → new ≡ record old {
        streams = change_where (has_number s) (after_expiries u 1 bytes) old.streams;
        flight = with_queue old.flight (expired_of o old.flight.queue);
      } → held_by_sender new + bytes ≡ held_by_sender old → Gives (λ x. bytes_for x s bytes) now old new
  steps old new bytes None is of made held = absurd (none-some (s, u) of)
  steps old new bytes (Some c) is of made held =
      let m : ExpiredMessage = record { stream = s; bytes = bytes; is_low = false } in
      let stream : c.stream_identifier ≡ s = ap stream_in of in
      let kind : c.unordered ≡ u = ap kind_in of in
      let shape : record old {
        streams = change_where (has_number s) (after_expiries u 1 bytes) old.streams;
        flight = with_queue old.flight (expired_of (Some c) old.flight.queue);
      } ≡ after_expire c bytes now old = cc in
      let goes = subst (λ q. IfSome q (λ d. new ≡ after_expire d bytes now old)) (sym is) (made ∙ shape) in
      let told : Some s ≡ option_map (λ (d : ChunkPayloadData). d.stream_identifier) (expiring now old.flight.queue) =
      sym (ap (option_map (λ (d : ChunkPayloadData). d.stream_identifier)) is ∙ ap Some stream) in
      one now (expires now (Some m)) old new (same-yes now) (held, ((ap is_some (sym is), (goes, λ n. absurd (none-some m (sym n)))), (tt, told)))

  -- so many, one after another
  run-drops : (n : ℕ) → AreExpiredOf s u now (suc n) t.flight.queue → suc n < 2 ^ 16 → Gives (λ x. bytes_for x s (gone (suc n))) now t (after (suc n))
  run-drops zero are few =
      let le = least 1 in
      steps t (after 1) (gone 1) (expiring now t.flight.queue) refl are.1 refl (omega (arith, le))
  run-drops (suc n) are few =
      let q : Outbound = left (suc n) in
      let more = leaves-le (expiring now q) q in
      let le = least (suc n) in
      let b : ℕ = total_bytes q - total_bytes (left (suc (suc n))) in
      let sum : gone (suc n) + b ≡ gone (suc (suc n)) = omega (arith, more, le) in
      let up : suc n + 1 ≡ suc (suc n) = omega arith in
      let streams = streams-then s u (suc n) (gone (suc n)) b (omega (arith, few)) t.streams
      ∙ ap₂ (λ k a. change_where (has_number s) (after_expiries u k a) t.streams) up sum in
      gives-as (λ x. bytes_for x s (gone (suc n)) + bytes_for x s b) (λ x. bytes_for x s (gone (suc (suc n))))
      (λ x. joined (s == x) (gone (suc n)) b (gone (suc (suc n))) sum) now t (after (suc (suc n)))
      (both-drop (λ x. bytes_for x s (gone (suc n))) (λ x. bytes_for x s b) now t (after (suc n)) (after (suc (suc n)))
      (run-drops n are.0 (omega (arith, few)))
      (steps (after (suc n)) (after (suc (suc n))) b (expiring now q) refl are.1
      (ap (λ ls. record (after (suc (suc n))) { streams = ls }) (sym streams)) (omega (arith, more))))
    where
      joined : (k : Bool) (a b c : ℕ) → a + b ≡ c → (if k then a else 0) + (if k then b else 0) ≡ (if k then c else 0)
      joined true a b c e = e
      joined false a b c e = refl

  run-dropped : (n bytes : ℕ) (new : Transmission) → AreExpiredOf s u now n t.flight.queue → 0 < n → n < 2 ^ 16
      → new ≡ after_expire_run s u n bytes now t → held_by_sender new + bytes ≡ held_by_sender t
      → Gives (λ x. bytes_for x s bytes) now t new
  run-dropped n bytes new h4 h5 h6 h7 h8 = grind (arith, nat_tests, gives-as, run-drops)

-- ## The rest of a message

tail-dropped : (now : ℕ) (old new : Transmission) (gone : List AbandonedMessage) (c : ChunkPayloadData) → expiring_tail now old.flight.queue ≡ Some c
    → TailGoes c old new gone → held_by_sender new + bytes_of_all gone ≡ held_by_sender old
    → Gives (λ x. bytes_of_messages x gone) now old new
tail-dropped now old new [] c is goes held = absurd goes
tail-dropped now old new (a ∷ b ∷ rest) c is goes held = absurd goes
tail-dropped now old new (a ∷ []) c is goes held =
    let made = subst (λ o. new ≡ after_abandon (message_of o) a.stream a.bytes old) (sym is) goes.2 in
    let told = subst (Tells (Some a)) (sym is) (ap Some goes.0, ap Some goes.1) in
    one now (expires_tail now (Some a)) old new (same-yes now) (held, ((made, λ n. absurd (none-some a (sym n))), (tt, told)))

-- ## An answer

module _ (now : ℕ) (old new : Transmission) where
  abbrev Runs : Option Dropped → Type 0
  Runs r = IfSome (run_in r) (λ g. new ≡ after_expire_run g.stream g.unordered g.messages g.bytes now old)

  abbrev OfOne : Option Dropped → Type 0
  OfOne r = IfSome (run_in r) (λ g. AreExpiredOf g.stream g.unordered now g.messages old.flight.queue)

  abbrev Any : Option Dropped → Type 0
  Any r = IfSome (run_in r) (λ g. 0 < g.messages)

  abbrev Few : Option Dropped → Type 0
  Few r = IfSome (run_in r) (λ g. g.messages < 2 ^ 16)

  abbrev Tail : Option Dropped → Type 0
  Tail r = IfSome (list_in r) (λ gone. IfSome (expiring_tail now old.flight.queue) (λ c. TailGoes c old new gone))

  abbrev Late : Option Dropped → Type 0
  Late r =
      IfSome (list_in r) (λ gone. expiring_tail now old.flight.queue ≡ None → late_tsns now old.flight.queue ≢ []
      → (new ≡ after_late now old) × (gone ≡ with_message_lows (leaving_each (late_order now old.flight) old.flight) old.streams))

  abbrev Worn : Option Dropped → Type 0
  Worn r =
      IfSome (list_in r) (λ gone. expiring_tail now old.flight.queue ≡ None → late_tsns now old.flight.queue ≡ []
      → (new ≡ after_worn old) × (gone ≡ with_message_lows (leaving_each (worn_order old.flight) old.flight) old.streams))

  dropped : (r : Option Dropped) → Runs r → OfOne r → Any r → Few r → Tail r → Late r → Worn r
      → held_by_sender new + bytes_dropped r ≡ held_by_sender old → (r ≡ None → new ≡ with_lifetimes now old) → Drops r now old new
  dropped None run of any few tail late worn held none = one now (starts now) old new (same-yes now) (none refl, (tt, (tt, tt)))
  dropped (Some (Expired g)) run of any few tail late worn held none =
      run-dropped now g.stream g.unordered old g.messages g.bytes new of any few run held
  dropped (Some (Abandoned gone)) run of any few tail late worn held none =
      by (expiring_tail now old.flight.queue) refl (late_tsns now old.flight.queue) refl
    where
      by : (o : Option ChunkPayloadData) → expiring_tail now old.flight.queue ≡ o → (ts : List ℕ) → late_tsns now old.flight.queue ≡ ts
          → Gives (λ x. bytes_of_messages x gone.items) now old new
      by (Some c) is ts due =
          tail-dropped now old new gone.items c is (subst (λ o. IfSome o (λ d. TailGoes d old new gone.items)) is tail) held
      by None is [] due = one now (expires_rexmit gone.items) old new refl (held, ((worn is due).0, (tt, (worn is due).1)))
      by None is (x ∷ ts) due =
          let some : late_tsns now old.flight.queue ≢ [] = λ e. cc in
          one now (expires_late now gone.items) old new (same-yes now) (held, ((late is some).0, (tt, (late is some).1)))

  pub answered : (a : Result (Option Dropped) SenderRefusal) → IfOk a Runs → IfOk a OfOne → IfOk a Any → IfOk a Few → IfOk a Tail → IfOk a Late → IfOk a Worn
      → IfOk a (λ r. held_by_sender new + bytes_dropped r ≡ held_by_sender old) → IfOk a (λ r. r ≡ None → new ≡ with_lifetimes now old)
      → IfOk a (λ r. Drops r now old new)
  answered (Ok r) run of any few tail late worn held none = dropped r run of any few tail late worn held none
  answered (Err e) run of any few tail late worn held none = tt
