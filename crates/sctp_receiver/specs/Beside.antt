-- Runs of calls of a receiver beside which something is kept.
use Rattle.std.specs.Prelude.{◌≡◌, ℕ, List, [], ◌∷◌, Option}
use Rattle.sctp_receiver.specs.declared.receiver.limits.Limits.{Limits}
use Rattle.sctp_receiver.specs.Receiver.{Reception}
use Rattle.sctp_receiver.specs.ReceiverRuns.{Call, Follows, Stand, at_start}

-- calls one after another; what each makes of the thing beside is handed in, by the receiver before the call
abbrev pub RunsBeside : {A : Type 0} → (Call → Reception → A → A) → Stand → A → List Call → Stand → A → Type 0
RunsBeside after old x [] new y = (new ≡ old) × (y ≡ x)
RunsBeside after old x (c ∷ cs) new y =
    (mid : Stand)
    × (Follows c old mid × RunsBeside after mid (after c old.receiver x) cs new y)

-- P after each run of calls on a new receiver, whatever the chunks that come, with this beside at the start
abbrev pub AfterEachRunBeside : {A : Type 0} → (Call → Reception → A → A) → A → (Stand → A → Type 0) → Type 0
AfterEachRunBeside {A} after x P =
    (tsn max : ℕ) (limits : Option Limits) (calls : List Call) (s : Stand) (y : A)
    → RunsBeside after (at_start tsn max limits) x calls s y → P s y
