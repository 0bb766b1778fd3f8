-- Runs of calls go on where others end.
use Rattle.std.proofs.Common.{◌≡◌, ℕ, List, [], ◌∷◌, ◌++◌, Bool, true, false, Option, Some, None, refl, ap, sym, subst, ◌∙◌, append_assoc}
use Rattle.std.proofs.lemmas.Bool.{false≢true}
use Rattle.std.proofs.lemmas.List.{append-nil}
use Rattle.std.specs.List.{list_all}
use Rattle.std.specs.Prelude.{◌&&◌}
use Rattle.sctp_association.specs.Runs.{AcksBy, Reports, ReportsIn, Runs, Sends, SendsBy, is_sending, made_by, reported_by}
use Rattle.sctp_data.specs.SelectiveAck.{Sack}
use Rattle.sctp_delivery.specs.ReceiverCalls.{ReceiverCall}
use Rattle.sctp_delivery.specs.SenderCalls.{Made, SenderCall, SenderMakesEach, is_drop}
use Rattle.sctp_delivery.specs.SenderCalls.{abandons, expires, expires_late, expires_rexmit, expires_tail, forwards, forwards_within, marks, misses, opens}
use Rattle.sctp_delivery.specs.SenderCalls.{resends, reserves, sends, sets_low, sets_mode, sets_size, starts, takes_sack, writes}
use Rattle.sctp_receiver.specs.Receiver.{Reception}
use Rattle.sctp_sender.specs.Sender.{Transmission}

module _ {C T A : Type 0} (Makes : C → T → T → Type 0) (answers : C → T → List A) where
  runs_then : (cs ds : List C) (ps bs : List A) (x y z : T) → Runs Makes answers cs ps x y → Runs Makes answers ds bs y z
      → Runs Makes answers (cs ++ ds) (bs ++ ps) x z
  runs_then [] ds ps bs x y z r s =
      subst (λ l. Runs Makes answers ds l x z) (sym (ap (λ l. bs ++ l) r.0 ∙ append-nil bs)) (subst (λ t. Runs Makes answers ds bs t z) r.1 s)
  runs_then (c ∷ cs) ds ps bs x y z r s = record {
    mid = r.mid;
    later = bs ++ r.later;
    made = r.made;
    rest = runs_then cs ds r.later bs r.mid y z r.rest s;
    order = ap (λ l. bs ++ l) r.order ∙ sym (append_assoc bs r.later (answers c x));
  }

  runs_one : (c : C) (x y : T) → Makes c x y → Runs Makes answers (c ∷ []) (answers c x) x y
  runs_one c x y m = record { mid = y; later = []; made = m; rest = (refl, refl); order = refl }

-- ## A sender

pub none_sent : (t : Transmission) → Sends [] t t
none_sent t = record { calls = []; run = (refl, refl) }

pub sent_then : (ps bs : List Made) (t u v : Transmission) → Sends ps t u → Sends bs u v → Sends (bs ++ ps) t v
sent_then ps bs t u v r s = record {
  calls = r.calls ++ s.calls;
  run = runs_then SendsBy made_by r.calls s.calls ps bs t u v r.run s.run;
}

pub sent_by : (c : SenderCall) (t u : Transmission) → SendsBy c t u → Sends (made_by c t) t u
sent_by c t u m = record { calls = c ∷ []; run = runs_one SendsBy made_by c t u m }

-- a call that abandons what has expired is one by which a sender sends, and makes no chunk; the others do not so
abbrev IsSilent : SenderCall → Transmission → Type 0
IsSilent c t = (is_sending c ≡ true) × (made_by c t ≡ [])

silent : (now : ℕ) (c : SenderCall) (t : Transmission) → is_drop now c ≡ true → IsSilent c t
silent now (opens stream) t e = absurd (false≢true e)
silent now (sets_mode stream unordered reliability value) t e = absurd (false≢true e)
silent now (writes stream ppi bytes) t e = absurd (false≢true e)
silent now (starts at) t e = (refl, refl)
silent now (sends at) t e = absurd (false≢true e)
silent now (resends tsn at c) t e = absurd (false≢true e)
silent now (abandons tsn a) t e = absurd (false≢true e)
silent now (expires at m) t e = (refl, refl)
silent now (expires_tail at m) t e = (refl, refl)
silent now (expires_late at gone) t e = (refl, refl)
silent now (expires_rexmit gone) t e = (refl, refl)
silent now (forwards tsn f) t e = absurd (false≢true e)
silent now (forwards_within bytes f) t e = absurd (false≢true e)
silent now marks t e = absurd (false≢true e)
silent now (misses count) t e = absurd (false≢true e)
silent now (sets_size size) t e = absurd (false≢true e)
silent now (sets_low stream bytes) t e = absurd (false≢true e)
silent now (reserves more) t e = absurd (false≢true e)
silent now (takes_sack sack gone) t e = absurd (false≢true e)

both : (a b : Bool) → a && b ≡ true → (a ≡ true) × (b ≡ true)
both true b e = (refl, e)
both false b e = absurd (false≢true e)

dropped_run : (now : ℕ) (cs : List SenderCall) (t u : Transmission) → SenderMakesEach cs t u → list_all (is_drop now) cs ≡ true
    → Runs SendsBy made_by cs [] t u
dropped_run now [] t u r e = (refl, r)
dropped_run now (c ∷ cs) t u r e =
    let all = both (is_drop now c) (list_all (is_drop now) cs) e in
    let none = silent now c t all.0 in
    record { mid = r.0; later = []; made = (none.0, r.1.0); rest = dropped_run now cs r.0 u r.1.1 all.1; order = sym none.1 }

pub dropped_each : (now : ℕ) (cs : List SenderCall) (t u : Transmission) → SenderMakesEach cs t u → list_all (is_drop now) cs ≡ true → Sends [] t u
dropped_each now cs t u r e = record { calls = cs; run = dropped_run now cs t u r e }

-- ## A receiver

pub none_reported : (r : Reception) → Reports [] r r
none_reported r = record { calls = []; run = (refl, refl) }

pub reported_then : (ps bs : List Sack) (r s t : Reception) → Reports ps r s → Reports bs s t → Reports (bs ++ ps) r t
reported_then ps bs r s t x y = record {
  calls = x.calls ++ y.calls;
  run = runs_then AcksBy reported_by x.calls y.calls ps bs r s t x.run y.run;
}

pub reported_once : (c : ReceiverCall) (r s : Reception) → AcksBy c r s → Reports (reported_by c r) r s
reported_once c r s m = record { calls = c ∷ []; run = runs_one AcksBy reported_by c r s m }

pub none_in : (r : Option Reception) → ReportsIn [] r r
none_in None = refl
none_in (Some r) = none_reported r

pub reported_in : (ps bs : List Sack) (r s t : Option Reception) → ReportsIn ps r s → ReportsIn bs s t → ReportsIn (bs ++ ps) r t
reported_in ps bs None None None x y = ap (λ l. l ++ ps) y ∙ x
reported_in ps bs None None (Some t) x y = absurd y
reported_in ps bs None (Some s) t x y = absurd x
reported_in ps bs (Some r) None t x y = absurd x
reported_in ps bs (Some r) (Some s) None x y = absurd y
reported_in ps bs (Some r) (Some s) (Some t) x y = reported_then ps bs r s t x y
