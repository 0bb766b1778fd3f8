-- Calls of a sender and of a receiver, one after another and none refused: what they make, and what they answer.
use Rattle.std.specs.Prelude.{◌≡◌, Bool, true, false, List, [], ◌∷◌, ◌++◌, Option, Some, None}
use Rattle.sctp_data.specs.SelectiveAck.{Sack}
use Rattle.sctp_delivery.specs.ReceiverCalls.{ReceiverCall, ReceiverMakes, forgets, makes_sack, reports_after}
use Rattle.sctp_delivery.specs.SenderCalls.{Made, SenderCall, SenderMakes, made_after}
use Rattle.sctp_delivery.specs.SenderCalls.{expires, expires_late, expires_rexmit, expires_tail, forwards_within, resends, sends, starts}
use Rattle.sctp_receiver.specs.Receiver.{Reception}
use Rattle.sctp_sender.specs.Resending.{is_to_resend}
use Rattle.sctp_sender.specs.Sender.{Transmission}

-- a call leads from old to mid, and what it answers stands behind what later ones answer
pub record Step {C T A : Type 0} (Makes : C → T → T → Type 0) (answers : C → T → List A) (call : C)
    (Rest : List A → T → Type 0) (all : List A) (old : T) : Type 0 where
  pub mid : T
  pub later : List A
  pub made : Makes call old mid
  pub rest : Rest later mid
  pub order : all ≡ later ++ answers call old

-- calls lead from old to new; their answers, the last one first
abbrev pub Runs : {C T A : Type 0} → (C → T → T → Type 0) → (C → T → List A) → List C → List A
    → T → T → Type 0
Runs Makes answers [] all old new = (all ≡ []) × (new ≡ old)
Runs Makes answers (c ∷ cs) all old new =
    Step Makes answers c (λ later mid. Runs Makes answers cs later mid new) all old

-- ## The sender

-- a call by which a sender sends, sends a marked chunk again, or abandons: no other comes between
abbrev pub is_sending : SenderCall → Bool
is_sending (sends now) = true
is_sending (resends tsn now c) = is_to_resend c
is_sending (forwards_within bytes f) = true
is_sending (starts now) = true
is_sending (expires now m) = true
is_sending (expires_tail now m) = true
is_sending (expires_late now gone) = true
is_sending (expires_rexmit gone) = true
is_sending _ = false

abbrev pub SendsBy : SenderCall → Transmission → Transmission → Type 0
SendsBy call old new = (is_sending call ≡ true) × SenderMakes call old new

abbrev pub made_by : SenderCall → Transmission → List Made
made_by call t = made_after call t []

-- such calls made these chunks
pub record Sends (made : List Made) (old new : Transmission) : Type 0 where
  pub calls : List SenderCall
  pub run : Runs SendsBy made_by calls made old new

-- ## The receiver

-- a call by which a receiver reports
abbrev pub is_acking : ReceiverCall → Bool
is_acking (makes_sack credit bytes) = true
is_acking forgets = true
is_acking _ = false

abbrev pub AcksBy : ReceiverCall → Reception → Reception → Type 0
AcksBy call old new = (is_acking call ≡ true) × ReceiverMakes call old new

abbrev pub reported_by : ReceiverCall → Reception → List Sack
reported_by call r = reports_after call r []

-- such calls made these SACKs
pub record Reports (sacks : List Sack) (old new : Reception) : Type 0 where
  pub calls : List ReceiverCall
  pub run : Runs AcksBy reported_by calls sacks old new

-- where there is a receiver
abbrev pub ReportsIn : List Sack → Option Reception → Option Reception → Type 0
ReportsIn sacks None None = sacks ≡ []
ReportsIn sacks (Some old) (Some new) = Reports sacks old new
ReportsIn sacks None (Some new) = ⊥
ReportsIn sacks (Some old) None = ⊥
