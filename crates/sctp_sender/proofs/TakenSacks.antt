-- A SACK by which something may come back first.
use Rattle.sctp_sender.proofs.Names.{◌≡◌, ℕ, Bool, true, false, List, [], length, Option, Some, None, refl, ap, sym, ◌∙◌, IfSome, if◌then◌else◌, is_some, not}
use Rattle.sctp_sender.proofs.Names.{◌&&◌, nat_lt, list_all, false≢true, Sack, total_bytes, SenderRefusal, InflightQueueTsnPop, TsnRequestNotExist, Flight}
use Rattle.sctp_sender.proofs.Names.{count_acked, is_outdated, is_within, sack_refusal, after_returns, answered_back, back_each, bytes_back, with_restored}
use Rattle.sctp_sender.proofs.Names.{Transmission, after_take_back, back_by, or_full, take_back_refusal, taken_back_by}
use Rattle.std.specs.Option.{option_map}
use Rattle.std.specs.Prelude.{◌-◌, ◌+◌, ◌^◌}
use Rattle.sctp_sender.proofs.Keepings.{length-restored}

pub if-each : {X : Type 0} (o : Option X) {P Q : X → Type 0} → ((x : X) → P x → Q x) → IfSome o P → IfSome o Q
if-each None each h = tt
if-each (Some x) each h = each x h

pub same-refusal : (s : Sack) (bs : List (Option (List ℕ))) (f : Flight) → sack_refusal s (with_restored bs f) ≡ sack_refusal s f
same-refusal s bs f = ap (λ n. by n) (length-restored bs f.queue.inflight.chunks)
  where
    by : ℕ → Option SenderRefusal
    by n = if is_outdated s f then None else (
        if nat_lt n (count_acked s f) then Some InflightQueueTsnPop
        else (if list_all (is_within (n - count_acked s f)) s.gap_ack_blocks then None else Some TsnRequestNotExist)
        )

pub nothing-kept : (s : Sack) (t : Transmission) → t.kept ≡ None → after_take_back s t ≡ t
nothing-kept s t e = ap (λ o. let u : Transmission = record t {
  streams = after_returns (answered_back (back_by s t.flight o) t.flight.queue.inflight.chunks) t.streams;
  flight = with_restored (back_by s t.flight o) t.flight;
} in u) e

pub none-told : (s : Sack) (t : Transmission) → t.kept ≡ None → taken_back_by s t ≡ []
none-told s t e = ap (λ o. answered_back (back_by s t.flight o) t.flight.queue.inflight.chunks) e

pub none-old : (s : Sack) (t : Transmission) → is_outdated s t.flight ≡ true → taken_back_by s t ≡ []
none-old s t e = by t.kept
  where
    by : (o : Option (List (Option (List ℕ)))) → answered_back (back_by s t.flight o) t.flight.queue.inflight.chunks ≡ []
    by None = refl
    by (Some ks) = ap (λ b. answered_back (if b then [] else back_each s t.flight.queue.inflight.chunks ks) t.flight.queue.inflight.chunks) e

-- one that is refused for what it claims takes nothing back
pub claim-refused : {A : Type 0} (s : Sack) (t : Transmission) (ks : List (Option (List ℕ))) → t.kept ≡ Some ks
    → is_some (sack_refusal s t.flight) ≡ true → take_back_refusal s t ≡ None → A
claim-refused {A} s t ks kept claimed none = by (is_outdated s t.flight) refl
  where
    fits : Bool
    fits = nat_lt (total_bytes t.flight.queue + bytes_back (taken_back_by s t)) (2 ^ 64)

    all : Option SenderRefusal
    all = or_full (sack_refusal s t.flight) fits

    full : (o : Option SenderRefusal) → is_some o ≡ true → is_some (or_full o fits) ≡ true
    full None e = absurd (false≢true e)
    full (Some r) e = refl

    by : (b : Bool) → is_outdated s t.flight ≡ b → A
    by true e = absurd (false≢true (ap is_some (sym (ap (λ c. if c then None else rest) e)) ∙ claimed))
      where
        rest : Option SenderRefusal
        rest = if nat_lt (length t.flight.queue.inflight.chunks) (count_acked s t.flight) then Some InflightQueueTsnPop
            else (if list_all (is_within (length t.flight.queue.inflight.chunks - count_acked s t.flight)) s.gap_ack_blocks then None
            else Some TsnRequestNotExist)
    by false e = absurd (false≢true (ap is_some (sym none ∙ ap (λ o. if is_some o && not (is_outdated s t.flight) then all else None) kept
        ∙ ap (λ c. if not c then all else None) e) ∙ full (sack_refusal s t.flight) claimed))

-- where nothing is kept, it is as if nothing came back
pub none-listed : {X Y : Type 0} (o : Option X) (f : X → Y) → is_some o ≡ false → option_map f o ≡ None
none-listed None f e = refl
none-listed (Some x) f e = absurd (false≢true (sym e))

pub none-refused : (s : Sack) (t : Transmission) → t.kept ≡ None → take_back_refusal s t ≡ None
none-refused s t e = ap (λ o. if is_some o && not (is_outdated s t.flight) then refusal else None) e
  where
    refusal : Option SenderRefusal
    refusal = or_full (sack_refusal s t.flight) (nat_lt (total_bytes t.flight.queue + bytes_back (taken_back_by s t)) (2 ^ 64))
