-- Sessions of a whole life: whatever is handed over is less than 2^31 TSNs old (RFC 1982 3.2), however many TSNs were given out.
use Rattle.std.specs.Prelude.{◌≡◌, ⊤, ℕ, ◌+◌, ◌^◌, ◌<◌, ◌≤◌, Bool, true, if◌then◌else◌, nat_lt, List, [], ◌∷◌, ◌++◌, length, map, All, Contains, Option, None}
use Rattle.std.specs.List.{filter, list_all}
use Rattle.sctp_data.specs.PayloadData.{data_of}
use Rattle.sctp_data.specs.SelectiveAck.{Sack}
use Rattle.sctp_util.specs.Serial.{at_or_before, comes_before, distance}
use Rattle.sctp_receiver.specs.declared.receiver.limits.Limits.{Limits}
use Rattle.sctp_sender.specs.Flight.{sack_refusal}
use Rattle.sctp_serial.specs.DataChunks.{has_tsn}
use Rattle.sctp_delivery.specs.Complete.{fragments_held, is_reliable}
use Rattle.sctp_delivery.specs.ReceiverCalls.{follows, reports_after, takes}
use Rattle.sctp_delivery.specs.Sacks.{tsns_given}
use Rattle.sctp_delivery.specs.SenderCalls.{Made, data_chunk, forward_tsn, forwards, forwards_within, next_chunk, sends, takes_sack, with_chunk}
use Rattle.sctp_delivery.specs.Session.{Call, RunsTo, Session, at_start, count_in_flight, of_receiver, of_sender}

-- the TSN of a chunk, and that to which a FORWARD-TSN goes, are before the sender's next one, and the cumulative TSN of a SACK is not past the
-- receiver's: so each is less than 2^31 TSNs old
abbrev pub IsRecent : Call → Session → Type 0
IsRecent (of_sender (takes_sack sack gone)) s =
    at_or_before sack.cumulative_tsn_ack s.receiving.receiver.cumulative_tsn ≡ true
IsRecent (of_receiver (takes c arrival)) s =
    comes_before c.tsn s.sending.sender.flight.next_tsn ≡ true
IsRecent (of_receiver (follows f)) s =
    comes_before f.new_cumulative_tsn s.sending.sender.flight.next_tsn ≡ true
IsRecent _ s = ⊤

-- so it is of each call, and fewer than 2^31 chunks are in flight after it
abbrev pub AreRecent : (old : Session) (calls : List Call) (new : Session)
    → RunsTo old calls new → Type 0
AreRecent old [] new run = ⊤
AreRecent old (c ∷ cs) new run =
    IsRecent c old × (count_in_flight run.0 < 2 ^ 31) × AreRecent run.0 cs new run.1.1

-- P after each such session; the first TSN is a number of 32 bits
abbrev pub WhileRecent : (Session → Type 0) → Type 0
WhileRecent P =
    (tsn size max most : ℕ) (limits : Option Limits) (calls : List Call) (s : Session)
    → tsn < 2 ^ 32 → (r : RunsTo (at_start tsn size max most limits) calls s)
    → AreRecent (at_start tsn size max most limits) calls s r → P s

-- ## How often a TSN is given out, and taken

-- the call gives the TSN out: it is one of those from the sender's next one on, up to the one that is next then
abbrev pub gives : ℕ → Session → Session → Bool
gives tsn old new =
    nat_lt (distance old.sending.sender.flight.next_tsn tsn)
    (distance old.sending.sender.flight.next_tsn new.sending.sender.flight.next_tsn)

abbrev pub times_given : (tsn : ℕ) (old : Session) (calls : List Call) (new : Session)
    → RunsTo old calls new → ℕ
times_given tsn old [] new run = 0
times_given tsn old (c ∷ cs) new run =
    (if gives tsn old run.0 then 1 else 0) + times_given tsn run.0 cs new run.1.1

-- so many DATA chunks with it were taken as new
abbrev pub times_taken : ℕ → Session → ℕ
times_taken tsn s = length (filter (has_tsn tsn) s.receiving.accepted)

-- after each such session no TSN was taken more often than it was given out
abbrev pub EachIsTakenOnceWhereGiven : Type 0
EachIsTakenOnceWhereGiven =
    (first size max most : ℕ) (limits : Option Limits) (calls : List Call) (s : Session)
    → first < 2 ^ 32 → (r : RunsTo (at_start first size max most limits) calls s)
    → AreRecent (at_start first size max most limits) calls s r → (tsn : ℕ) → tsn < 2 ^ 32
    → times_taken tsn s ≤ times_given tsn (at_start first size max most limits) calls s r

-- ## What each chunk is, and not its TSN alone

-- a chunk that was made, and its age: so many TSNs were given out from that of a DATA chunk on, or since a FORWARD-TSN was made
pub record Aged : Type 0 where
  pub chunk : Made
  pub age : ℕ

abbrev pub older : ℕ → Aged → Aged
older given a = record a { age = a.age + given }

-- the DATA chunk to which the call gives a TSN, if there is one, or the FORWARD-TSN that it makes
abbrev pub new_chunks : Call → Session → List Made
new_chunks (of_sender (sends now)) s = with_chunk (next_chunk now s.sending.sender) []
new_chunks (of_sender (forwards tsn f)) s = forward_tsn f ∷ []
new_chunks (of_sender (forwards_within bytes f)) s = forward_tsn f ∷ []
new_chunks _ s = []

-- all of these, the last one first, after a call. A DATA chunk that is sent again is as old as before
abbrev pub aged_after : Call → Session → Session → List Aged → List Aged
aged_after call old new ages =
    map (λ m. record { chunk = m; age = 1 }) (new_chunks call old)
    ++ map (older (distance old.sending.sender.flight.next_tsn new.sending.sender.flight.next_tsn))
    ages

-- it is among these, and less than 2^31 TSNs old
abbrev pub IsAmongYoung : Made → List Aged → Type 0
IsAmongYoung m ages =
    (age : ℕ) × (age < 2 ^ 31) × Contains ages (record { chunk = m; age = age })

-- a DATA chunk that is handed over is so
abbrev pub IsYoung : Call → List Aged → Type 0
IsYoung (of_receiver (takes c arrival)) ages = IsAmongYoung (data_chunk (data_of c)) ages
IsYoung _ ages = ⊤

-- and the receiver holds none whose TSN is not before the next one: what came is read, or dropped, before it is 2^31 TSNs old
abbrev pub HoldsRecent : Session → Type 0
HoldsRecent s =
    (stream : ℕ) → list_all (λ c. comes_before c.tsn s.sending.sender.flight.next_tsn)
    (fragments_held stream s.receiving.receiver) ≡ true

-- so it is of each call, and after each
abbrev pub AreYoung : List Aged → (old : Session) (calls : List Call) (new : Session)
    → RunsTo old calls new → Type 0
AreYoung ages old [] new run = ⊤
AreYoung ages old (c ∷ cs) new run =
    IsYoung c ages × HoldsRecent run.0
    × AreYoung (aged_after c old run.0 ages) run.0 cs new run.1.1

-- and so is each FORWARD-TSN that is handed over
abbrev pub IsForwardYoung : Call → List Aged → Type 0
IsForwardYoung (of_receiver (follows f)) ages = IsAmongYoung (forward_tsn f) ages
IsForwardYoung _ ages = ⊤

abbrev pub AreForwardsYoung : List Aged → (old : Session) (calls : List Call) (new : Session)
    → RunsTo old calls new → Type 0
AreForwardsYoung ages old [] new run = ⊤
AreForwardsYoung ages old (c ∷ cs) new run =
    IsForwardYoung c ages
    × AreForwardsYoung (aged_after c old run.0 ages) run.0 cs new run.1.1

-- P after each session in which that is so of DATA chunks, and fragments have some bytes
abbrev pub WhileYoung : (Session → Type 0) → Type 0
WhileYoung P =
    (tsn size max most : ℕ) (limits : Option Limits) (calls : List Call) (s : Session)
    → tsn < 2 ^ 32 → 0 < size → (r : RunsTo (at_start tsn size max most limits) calls s)
    → AreYoung [] (at_start tsn size max most limits) calls s r → P s

-- and in which nothing that is handed over has an old TSN, as above
abbrev pub WhileRecentAndYoung : (Session → Type 0) → Type 0
WhileRecentAndYoung P =
    (tsn size max most : ℕ) (limits : Option Limits) (calls : List Call) (s : Session)
    → tsn < 2 ^ 32 → 0 < size → (r : RunsTo (at_start tsn size max most limits) calls s)
    → AreRecent (at_start tsn size max most limits) calls s r
    → AreYoung [] (at_start tsn size max most limits) calls s r → P s

-- P of the calls and of the session, where that is so of FORWARD-TSNs, too
abbrev pub AfterEachYoungRun : (List Call → Session → Type 0) → Type 0
AfterEachYoungRun P =
    (tsn size max most : ℕ) (limits : Option Limits) (calls : List Call) (s : Session)
    → tsn < 2 ^ 32 → 0 < size → (r : RunsTo (at_start tsn size max most limits) calls s)
    → AreRecent (at_start tsn size max most limits) calls s r
    → AreYoung [] (at_start tsn size max most limits) calls s r
    → AreForwardsYoung [] (at_start tsn size max most limits) calls s r → P calls s

abbrev pub WhileAllAreYoung : (Session → Type 0) → Type 0
WhileAllAreYoung P = AfterEachYoungRun (λ calls s. P s)

-- and where the calls are reliable, so that there are no FORWARD-TSNs
abbrev pub WhileReliableAndYoung : (Session → Type 0) → Type 0
WhileReliableAndYoung P =
    (tsn size max most : ℕ) (limits : Option Limits) (calls : List Call) (s : Session)
    → tsn < 2 ^ 32 → 0 < size → (r : RunsTo (at_start tsn size max most limits) calls s)
    → AreRecent (at_start tsn size max most limits) calls s r
    → AreYoung [] (at_start tsn size max most limits) calls s r
    → list_all is_reliable calls ≡ true → P s

-- so it is of each session that gives out fewer than 2^31 TSNs
abbrev pub FewTsnsAreYoung : Type 0
FewTsnsAreYoung =
    (tsn size max most : ℕ) (limits : Option Limits) (calls : List Call) (s : Session)
    → tsn < 2 ^ 32 → 0 < size → (r : RunsTo (at_start tsn size max most limits) calls s)
    → tsns_given (at_start tsn size max most limits) calls s r < 2 ^ 31
    → AreRecent (at_start tsn size max most limits) calls s r
    × AreYoung [] (at_start tsn size max most limits) calls s r
    × AreForwardsYoung [] (at_start tsn size max most limits) calls s r

-- ## SACKs

-- a SACK, and how many TSNs were given out since it was made
pub record AgedSack : Type 0 where
  pub sack : Sack
  pub age : ℕ

abbrev pub sack_older : ℕ → AgedSack → AgedSack
sack_older given k = record k { age = k.age + given }

-- the SACK that the call makes, if there is one
abbrev pub new_sacks : Call → Session → List Sack
new_sacks (of_receiver call) s = reports_after call s.receiving.receiver []
new_sacks (of_sender call) s = []

-- all that were made, the last one first, where these were before
abbrev pub sacks_aged : List AgedSack → (old : Session) (calls : List Call) (new : Session)
    → RunsTo old calls new → List AgedSack
sacks_aged ages old [] new run = ages
sacks_aged ages old (c ∷ cs) new run =
    sacks_aged (map (λ k. record { sack = k; age = 0 }) (new_sacks c old)
    ++ map (sack_older (distance old.sending.sender.flight.next_tsn run.0.sending.sender.flight.next_tsn)) ages)
    run.0 cs new run.1.1

-- none of these is refused now that is less than 2^31 TSNs old, and whose cumulative TSN is not past the receiver's
abbrev pub NoneYoungIsRefused : List AgedSack → Session → Type 0
NoneYoungIsRefused ages s =
    All (λ k. k.age < 2 ^ 31
    → at_or_before k.sack.cumulative_tsn_ack s.receiving.receiver.cumulative_tsn ≡ true
    → sack_refusal k.sack s.sending.sender.flight ≡ None) ages

-- so it is after each session in which what is handed over is recent
abbrev pub NoYoungSackIsRefused : Type 0
NoYoungSackIsRefused =
    (tsn size max most : ℕ) (limits : Option Limits) (calls : List Call) (s : Session)
    → tsn < 2 ^ 32 → 0 < size → (r : RunsTo (at_start tsn size max most limits) calls s)
    → AreRecent (at_start tsn size max most limits) calls s r
    → NoneYoungIsRefused (sacks_aged [] (at_start tsn size max most limits) calls s r) s
