-- Sessions of every call in a whole life: whatever is handed over is less than 2^31 TSNs old (RFC 1982 3.2), however many TSNs were given out.
use Rattle.std.specs.Prelude.{◌≡◌, ⊤, ℕ, ◌+◌, ◌^◌, ◌<◌, ◌≤◌, true, if◌then◌else◌, List, [], ◌∷◌, ◌++◌, length, map, Option}
use Rattle.std.specs.List.{filter}
use Rattle.sctp_data.specs.PayloadData.{data_of}
use Rattle.sctp_data.specs.SelectiveAck.{Sack}
use Rattle.sctp_util.specs.Serial.{comes_before, distance}
use Rattle.sctp_receiver.specs.declared.receiver.limits.Limits.{Limits}
use Rattle.sctp_sender.specs.declared.sender.Reported.{Reported}
use Rattle.sctp_serial.specs.DataChunks.{has_tsn}
use Rattle.sctp_delivery.specs.EveryCall.{AnyCall, RunsAny, closes_incoming, discards, makes, of_receiving, of_sending, passes_over, resets_incoming}
use Rattle.sctp_delivery.specs.EveryCall.{tsns_given_any}
use Rattle.sctp_delivery.specs.Messages.{fragments_of_all}
use Rattle.sctp_delivery.specs.Recent.{Aged, AgedSack, HoldsRecent, IsAmongYoung, IsForwardYoung, IsRecent, IsYoung, aged_after, gives, new_sacks, sack_older}
use Rattle.sctp_delivery.specs.Recent.{times_taken}
use Rattle.sctp_delivery.specs.Returns.{at_start_with}
use Rattle.sctp_delivery.specs.SenderCalls.{data_chunk, forward_tsn}
use Rattle.sctp_delivery.specs.Session.{Session, bytes_written, count_in_flight}

-- ## What is handed over has no old TSN

-- so it is of the call (`IsRecent`). Of a DATA chunk that is dropped the same is asked as of one that is taken, and of a FORWARD-TSN whose names are
-- passed over the same as of one that is followed
abbrev pub IsRecentAny : AnyCall → Session → Type 0
IsRecentAny (makes call) s = IsRecent call s
IsRecentAny (of_sending call) s = ⊤
IsRecentAny (of_receiving (discards c)) s =
    comes_before c.tsn s.sending.sender.flight.next_tsn ≡ true
IsRecentAny (of_receiving (closes_incoming stream)) s = ⊤
IsRecentAny (of_receiving (resets_incoming stream last)) s = ⊤
IsRecentAny (of_receiving (passes_over f)) s =
    comes_before f.new_cumulative_tsn s.sending.sender.flight.next_tsn ≡ true

-- of each call, and fewer than 2^31 chunks are in flight after it
abbrev pub AreRecentAny : (old : Session) (calls : List AnyCall) (new : Session)
    → RunsAny old calls new → Type 0
AreRecentAny old [] new run = ⊤
AreRecentAny old (c ∷ cs) new run =
    IsRecentAny c old × (count_in_flight run.0 < 2 ^ 31) × AreRecentAny run.0 cs new run.1.1

-- ## TSNs

-- how often the calls give the TSN out
abbrev pub times_given_any : (tsn : ℕ) (old : Session) (calls : List AnyCall) (new : Session)
    → RunsAny old calls new → ℕ
times_given_any tsn old [] new run = 0
times_given_any tsn old (c ∷ cs) new run =
    (if gives tsn old run.0 then 1 else 0) + times_given_any tsn run.0 cs new run.1.1

-- so many fragments with it were read
abbrev pub times_read : ℕ → Session → ℕ
times_read tsn s = length (filter (has_tsn tsn) (fragments_of_all s.receiving.read))

-- where each was given out so often: none was taken as new more often
abbrev pub AreTakenAsGiven : (ℕ → ℕ) → Session → Type 0
AreTakenAsGiven given s = (tsn : ℕ) → tsn < 2 ^ 32 → times_taken tsn s ≤ given tsn

-- or read
abbrev pub AreReadAsGiven : (ℕ → ℕ) → Session → Type 0
AreReadAsGiven given s = (tsn : ℕ) → tsn < 2 ^ 32 → times_read tsn s ≤ given tsn

-- ## SACKs

abbrev pub new_sacks_any : AnyCall → Session → List Sack
new_sacks_any (makes call) s = new_sacks call s
new_sacks_any (of_sending call) s = []
new_sacks_any (of_receiving call) s = []

-- all that were made, with their ages, the last one first, where these were before
abbrev pub sacks_aged_any : List AgedSack → (old : Session) (calls : List AnyCall) (new : Session)
    → RunsAny old calls new → List AgedSack
sacks_aged_any ages old [] new run = ages
sacks_aged_any ages old (c ∷ cs) new run =
    sacks_aged_any (map (λ k. record { sack = k; age = 0 }) (new_sacks_any c old)
    ++ map (sack_older (distance old.sending.sender.flight.next_tsn
    run.0.sending.sender.flight.next_tsn)) ages)
    run.0 cs new run.1.1

-- P of how often each TSN was given out, of the SACKs that were made, and of the session, after each session in which what is handed over is
-- recent; the first TSN is a number of 32 bits
abbrev pub WhileAnyRecent : ((ℕ → ℕ) → List AgedSack → Session → Type 0) → Type 0
WhileAnyRecent P =
    (reported : Reported) (tsn size max most : ℕ) (limits : Option Limits)
    (calls : List AnyCall) (s : Session)
    → (run : RunsAny (at_start_with reported tsn size max most limits) calls s) → tsn < 2 ^ 32
    → AreRecentAny (at_start_with reported tsn size max most limits) calls s run
    → P (λ t. times_given_any t (at_start_with reported tsn size max most limits) calls s run)
    (sacks_aged_any [] (at_start_with reported tsn size max most limits) calls s run) s

-- ## DATA chunks

-- how old the chunks are that were made: calls that most sessions do not have make none, and give out no TSN
abbrev pub aged_any : AnyCall → Session → Session → List Aged → List Aged
aged_any (makes call) old new ages = aged_after call old new ages
aged_any (of_sending call) old new ages = ages
aged_any (of_receiving call) old new ages = ages

-- a DATA chunk that is taken is less than 2^31 TSNs old
abbrev pub IsYoungAny : AnyCall → List Aged → Type 0
IsYoungAny (makes call) ages = IsYoung call ages
IsYoungAny (of_sending call) ages = ⊤
IsYoungAny (of_receiving call) ages = ⊤

-- so it is of each call, and of what the receiver holds after each
abbrev pub AreYoungAny : List Aged → (old : Session) (calls : List AnyCall) (new : Session)
    → RunsAny old calls new → Type 0
AreYoungAny ages old [] new run = ⊤
AreYoungAny ages old (c ∷ cs) new run =
    IsYoungAny c ages × HoldsRecent run.0
    × AreYoungAny (aged_any c old run.0 ages) run.0 cs new run.1.1

-- P of the calls and of the session, after each session in which all this is so, fragments have some bytes, and fewer than 2^64 were written
abbrev pub WhileAnyYoung : (List AnyCall → Session → Type 0) → Type 0
WhileAnyYoung P =
    (reported : Reported) (tsn size max most : ℕ) (limits : Option Limits)
    (calls : List AnyCall) (s : Session)
    → (run : RunsAny (at_start_with reported tsn size max most limits) calls s) → tsn < 2 ^ 32
    → 0 < size → AreRecentAny (at_start_with reported tsn size max most limits) calls s run
    → AreYoungAny [] (at_start_with reported tsn size max most limits) calls s run
    → bytes_written s < 2 ^ 64 → P calls s

-- ## FORWARD-TSNs, and what is dropped

-- a FORWARD-TSN that is handed over is less than 2^31 TSNs old, and so is a DATA chunk that is dropped
abbrev pub IsPassedYoung : AnyCall → List Aged → Type 0
IsPassedYoung (makes call) ages = IsForwardYoung call ages
IsPassedYoung (of_sending call) ages = ⊤
IsPassedYoung (of_receiving (discards c)) ages = IsAmongYoung (data_chunk (data_of c)) ages
IsPassedYoung (of_receiving (closes_incoming stream)) ages = ⊤
IsPassedYoung (of_receiving (resets_incoming stream last)) ages = ⊤
IsPassedYoung (of_receiving (passes_over f)) ages = IsAmongYoung (forward_tsn f) ages

abbrev pub ArePassedYoung : List Aged → (old : Session) (calls : List AnyCall) (new : Session)
    → RunsAny old calls new → Type 0
ArePassedYoung ages old [] new run = ⊤
ArePassedYoung ages old (c ∷ cs) new run =
    IsPassedYoung c ages × ArePassedYoung (aged_any c old run.0 ages) run.0 cs new run.1.1

-- P of the calls and of the session, where that is so, too
abbrev pub WhileAllAnyYoung : (List AnyCall → Session → Type 0) → Type 0
WhileAllAnyYoung P =
    (reported : Reported) (tsn size max most : ℕ) (limits : Option Limits)
    (calls : List AnyCall) (s : Session)
    → (run : RunsAny (at_start_with reported tsn size max most limits) calls s) → tsn < 2 ^ 32
    → 0 < size → AreRecentAny (at_start_with reported tsn size max most limits) calls s run
    → AreYoungAny [] (at_start_with reported tsn size max most limits) calls s run
    → ArePassedYoung [] (at_start_with reported tsn size max most limits) calls s run
    → bytes_written s < 2 ^ 64 → P calls s

-- all this is so of each session that gives out fewer than 2^31 TSNs
abbrev pub FewTsnsAreYoungAny : Type 0
FewTsnsAreYoungAny =
    (reported : Reported) (tsn size max most : ℕ) (limits : Option Limits)
    (calls : List AnyCall) (s : Session)
    → (run : RunsAny (at_start_with reported tsn size max most limits) calls s) → tsn < 2 ^ 32
    → 0 < size
    → tsns_given_any (at_start_with reported tsn size max most limits) calls s run < 2 ^ 31
    → bytes_written s < 2 ^ 64
    → AreRecentAny (at_start_with reported tsn size max most limits) calls s run
    × AreYoungAny [] (at_start_with reported tsn size max most limits) calls s run
    × ArePassedYoung [] (at_start_with reported tsn size max most limits) calls s run
