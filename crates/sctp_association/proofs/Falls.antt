-- Each stream whose buffered amount falls by a SACK is told.
use Rattle.std.proofs.Common.{◌≡◌, ℕ, Bool, true, false, List, [], refl, ap, ◌∙◌}
use Rattle.std.specs.Global.{Global}
use Rattle.std.specs.List.{list_any}
use Rattle.std.specs.Prelude.{Result, Ok, if◌then◌else◌, Vec, map, filter}
use Rattle.sctp_association.proofs.Coming.{if_ok, on_ok}
use Rattle.sctp_association.proofs.Lows.{fell_same}
use Rattle.sctp_association.specs.Arrivals.{without_gaps}
use Rattle.sctp_association.specs.Brought.{falls_at, falls_by}
use Rattle.sctp_association.specs.Paths.{taken_as}
use Rattle.sctp_association.specs.declared.outbound.Outbound.{Outbound}
use Rattle.sctp_data.specs.SelectiveAck.{Sack}
use Rattle.sctp_sender.specs.Calls.{Acknowledges, Acks}
use Rattle.sctp_sender.specs.Flight.{Flight, is_outdated, released_by, released_of, is_whole, reports_anew}
use Rattle.sctp_sender.specs.Outgoing.{after_releases}
use Rattle.sctp_sender.specs.Sender.{Transmission, after_acked, after_take_back}
use Rattle.sctp_sender.specs.Thresholds.{fell, tells_low}
use Rattle.sctp_sender.specs.declared.sender.Acked.{Acked}
use Rattle.sctp_sender.specs.declared.sender.flight.Released.{Released}
use Rattle.sctp_sender.specs.declared.sender.refusal.SenderRefusal.{SenderRefusal}
use Rattle.sctp_util.specs.Serial.{comes_before}

-- what is released by the SACK tells of each stream whose amount falls
pub sack_falls : (n : ℕ) (k : Sack) (o : Outbound) (t : Sack) (new : Transmission) (acked : Acked) (r : Result Acked SenderRefusal) → r ≡ Ok acked
    → Acknowledges t o.sender new r → t ≡ taken_as k o → {l : List Released} → l ≡ acked.released.items → falls_by n k o ≡ true
    → list_any (tells_low n) l ≡ true
sack_falls n k o t new acked r is h same l falls =
    ap (list_any (tells_low n)) l ∙ if_ok _ r acked is h.low n ∙ ap (fell n (after_take_back t o.sender)) (on_ok r acked is h.ok)
    ∙ ap (λ (x : Sack). falls_at n x (after_take_back x o.sender)) same ∙ falls

-- ## One that is outdated

released-none : (s : Sack) (f : Flight) → is_outdated s f ≡ true → released_by s f ≡ []
released-none s f is =
    ap (λ (b : Bool). let l : List Released = if b then [] else map (released_of (is_whole s f)) (filter (reports_anew s) f.queue.inflight.chunks) in l) is

passed-same : (b : Bool) (k : Sack) → (if b then without_gaps k else k).cumulative_tsn_ack ≡ k.cumulative_tsn_ack
passed-same true k = refl
passed-same false k = refl

-- by an outdated one no amount falls
outdated-none : (n : ℕ) (s : Sack) (t : Transmission) → is_outdated s t.flight ≡ true → falls_at n s t ≡ true → ⊥
outdated-none n s t is h = fell_same n t (after_acked s t) (ap (λ rs. after_releases rs t.streams) (released-none s t.flight is)) h

pub outdated_falls : (n : ℕ) (k : Sack) (o : Outbound) → is_outdated k o.sender.flight ≡ true → falls_by n k o ≡ true → ⊥
outdated_falls n k o is h = outdated-none n (taken_as k o) (after_take_back (taken_as k o) o.sender)
    (ap (λ (tsn : ℕ). comes_before tsn o.sender.flight.acked_tsn) (passed-same _ k) ∙ is) h

-- ## A SHUTDOWN

-- what is released by it tells of each stream whose amount falls
pub shutdown_falls : (n : ℕ) (s : Sack) (old new : Transmission) (v : Vec Released Global) (r : Result (Vec Released Global) SenderRefusal) → r ≡ Ok v
    → Acks s old new r → {l : List Released} → l ≡ v.items → fell n old new ≡ true → list_any (tells_low n) l ≡ true
shutdown_falls n s old new v r is h l falls = ap (list_any (tells_low n)) l ∙ if_ok _ r v is h.low n ∙ falls

-- an outdated one leaves the streams
pub shutdown_outdated : (s : Sack) (old new : Transmission) (v : Vec Released Global) (r : Result (Vec Released Global) SenderRefusal) → r ≡ Ok v
    → Acks s old new r → is_outdated s old.flight ≡ true → new.streams ≡ old.streams
shutdown_outdated s old new v r is h late =
    ap (λ (t : Transmission). t.streams) (on_ok r v is h.ok) ∙ ap (λ rs. after_releases rs old.streams) (released-none s old.flight late)
