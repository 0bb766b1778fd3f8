-- Worked examples for the law without loss: histories that agree on one stream and in nothing else, and what counts as lost.
use Rattle.sctp_model.proofs.Names.{◌≡◌, ℕ, Bool, true, false, List, [], ◌∷◌, map, Some, refl, sym, ◌∙◌, arith, list_all, Event, Setup, LinkRecord, LogEntry}
use Rattle.sctp_model.proofs.Names.{◌++◌, numbers_from, SlotReceived, SkipReceived, Shown, modes_in, writes_on, started_in, log_of, History, record_of}
use Rattle.sctp_model.proofs.Names.{IsReadWholly, arrivals_on, fragment_arrived, was_lost, has_loss_on, loses_nothing, ordered_run, complete_unordered}
use Rattle.sctp_model.proofs.Names.{ordered_shown, unordered_shown}
use Rattle.sctp_data.specs.declared.chunk.chunk_payload_data.PayloadProtocolIdentifier.TheVariants as P
use Rattle.sctp_data.specs.declared.chunk.chunk_payload_data.ReliabilityType.TheVariants as T
use Rattle.sctp_model.specs.declared.event.Event.TheVariants as E
use Rattle.sctp_model.proofs.scripts.Play.{answered, answered-run}
use Rattle.sctp_model.proofs.Composed.{reads_are_settled}

-- ## A history

abbrev setup : Setup
setup = record { first = 10; size = 3; largest = 100; limit = 0 }

-- so many Sends at a moment, arrivals of these datagrams, and so many reads of stream 1
abbrev sends : ℕ → ℕ → List Event
sends now count = map (λ k. E.Send now) (numbers_from 0 count)

abbrev arrivals : List ℕ → List Event
arrivals datagrams = map (λ k. E.Arrive k) datagrams

abbrev reads : ℕ → List Event
reads count = map (λ k. E.Read 1) (numbers_from 0 count)

-- stream 1: an ordered message of two fragments, an unordered one, an ordered one of which only the first fragment arrives, and one behind it; stream 2: a
-- message that arrives
abbrev base_events : List Event
base_events =
    E.Open 1 ∷
    E.Open 2 ∷
    E.Write 1 P.Binary (97 ∷ 98 ∷ 99 ∷ 100 ∷ []) ∷
    E.Mode 1 true T.Reliable 0 ∷
    E.Write 1 P.Binary (101 ∷ []) ∷
    E.Mode 1 false T.Reliable 0 ∷
    E.Write 1 P.Binary (102 ∷ 103 ∷ 104 ∷ 105 ∷ []) ∷
    E.Write 1 P.Binary (106 ∷ []) ∷
    E.Write 2 P.Binary (120 ∷ []) ∷
    sends 0 7 ++ arrivals (6 ∷ 0 ∷ 1 ∷ 2 ∷ 3 ∷ 5 ∷ []) ++ reads 2

abbrev base : History
base = answered setup base_events []

abbrev writes_1 : List (Shown × Bool)
writes_1 =
    ((1, P.Binary, 97 ∷ 98 ∷ 99 ∷ 100 ∷ []), false) ∷
    ((1, P.Binary, 101 ∷ []), true) ∷
    ((1, P.Binary, 102 ∷ 103 ∷ 104 ∷ 105 ∷ []), false) ∷
    ((1, P.Binary, 106 ∷ []), false) ∷
    []

base_writes : writes_on base 1 ≡ writes_1
base_writes = refl

base_arrivals : arrivals_on setup base 1 ≡ true ∷ true ∷ false ∷ true ∷ []
base_arrivals = refl

base_is_read : IsReadWholly setup base 1
base_is_read = record {
  is = record { first = omega arith; some = omega arith; size = omega arith };
  run = answered-run setup base_events [] refl tt;
  unlost = refl;
  exhausted = refl;
}

base_ordered : ordered_shown setup base 1 ≡ (1, P.Binary, 97 ∷ 98 ∷ 99 ∷ 100 ∷ []) ∷ []
base_ordered = refl

base_unordered : unordered_shown setup base 1 ≡ false ∷ true ∷ false ∷ false ∷ []
base_unordered = refl

-- by the words of the law: as above, and where the unordered message alone did not arrive
base_by_arrivals : map (ordered_run writes_1) ((true ∷ true ∷ false ∷ true ∷ []) ∷ (true ∷ false ∷ true ∷ true ∷ []) ∷ []) ≡
    ((1, P.Binary, 97 ∷ 98 ∷ 99 ∷ 100 ∷ []) ∷ []) ∷
    ((1, P.Binary, 97 ∷ 98 ∷ 99 ∷ 100 ∷ []) ∷ (1, P.Binary, 102 ∷ 103 ∷ 104 ∷ 105 ∷ []) ∷ (1, P.Binary, 106 ∷ []) ∷ []) ∷
    []
base_by_arrivals = refl

complete_ones_by_arrivals : map (complete_unordered writes_1) ((true ∷ true ∷ false ∷ true ∷ []) ∷ (true ∷ false ∷ true ∷ true ∷ []) ∷ [])
    ≡ (false ∷ true ∷ false ∷ false ∷ []) ∷ (false ∷ false ∷ false ∷ false ∷ []) ∷ []
complete_ones_by_arrivals = refl

-- ## Other lifetimes, and other arrivals on stream 2

-- the same writes, but all of stream 1 have lifetimes, which start at another moment; the message of stream 2 does not arrive, nor does the first fragment of
-- the third one of stream 1
abbrev timed_events : List Event
timed_events =
    E.Open 1 ∷
    E.Open 2 ∷
    E.Mode 1 false T.Timed 5 ∷
    E.Write 1 P.Binary (97 ∷ 98 ∷ 99 ∷ 100 ∷ []) ∷
    E.Mode 1 true T.Rexmit 3 ∷
    E.Write 1 P.Binary (101 ∷ []) ∷
    E.Mode 1 false T.Timed 7 ∷
    E.Write 1 P.Binary (102 ∷ 103 ∷ 104 ∷ 105 ∷ []) ∷
    E.Write 1 P.Binary (106 ∷ []) ∷
    E.Write 2 P.Binary (120 ∷ []) ∷
    E.Start 9 ∷
    sends 10 6 ++ arrivals (1 ∷ 2 ∷ 0 ∷ 5 ∷ []) ++ reads 2

abbrev timed : History
timed = answered setup timed_events []

timed_is_read : IsReadWholly setup timed 1
timed_is_read = record {
  is = base_is_read.is;
  run = answered-run setup timed_events [] refl tt;
  unlost = refl;
  exhausted = refl;
}

-- what the law asks: the same writes on stream 1, and the same messages of it arrived wholly
timed_writes : writes_on timed 1 ≡ writes_1
timed_writes = refl

timed_arrivals : arrivals_on setup timed 1 ≡ true ∷ true ∷ false ∷ true ∷ []
timed_arrivals = refl

-- what it does not ask: the same lifetimes, moments, arrivals on stream 2, and fragments of what did not arrive wholly
lifetimes : map (λ h. map (λ m. m.value) (modes_in h)) (base ∷ timed ∷ []) ≡ (0 ∷ 0 ∷ 0 ∷ 0 ∷ 0 ∷ []) ∷ (5 ∷ 3 ∷ 7 ∷ 7 ∷ 0 ∷ []) ∷ []
lifetimes = refl

moments : map (λ h. started_in h 0) (base ∷ timed ∷ []) ≡ Some 0 ∷ Some 9 ∷ []
moments = refl

other_stream : map (λ h. arrivals_on setup h 2) (base ∷ timed ∷ []) ≡ (true ∷ []) ∷ (false ∷ []) ∷ []
other_stream = refl

first_fragment : map (λ h. fragment_arrived (record_of setup h) (log_of setup h) 2 0) (base ∷ timed ∷ []) ≡ true ∷ false ∷ []
first_fragment = refl

-- so the law says that they read the same
timed_reads : (ordered_shown setup base 1 ≡ ordered_shown setup timed 1) × (unordered_shown setup base 1 ≡ unordered_shown setup timed 1)
timed_reads = reads_are_settled setup setup base timed 1 base_is_read timed_is_read (base_writes ∙ sym timed_writes) (base_arrivals ∙ sym timed_arrivals)

-- ## Another link

abbrev other : Setup
other = record { first = 4294967295; size = 2; largest = 50; limit = 72 }

-- another first TSN, fragment size and limit; a message of stream 2 expires, one datagram carries three fragments and comes twice, a SACK is taken, and the
-- message that did not arrive, of the stream itself, is abandoned
abbrev link_events : List Event
link_events =
    E.Open 2 ∷
    E.Mode 2 true T.Timed 1 ∷
    E.Write 2 P.String (121 ∷ []) ∷
    E.Open 1 ∷
    E.Write 1 P.Binary (97 ∷ 98 ∷ 99 ∷ 100 ∷ []) ∷
    E.Mode 1 true T.Timed 9 ∷
    E.Write 1 P.Binary (101 ∷ []) ∷
    E.Mode 1 false T.Timed 9 ∷
    E.Write 1 P.Binary (102 ∷ 103 ∷ 104 ∷ 105 ∷ []) ∷
    E.Start 0 ∷
    E.Expire 1000000 ∷
    E.Send 1000001 ∷
    E.Send 1000002 ∷
    E.Write 1 P.Binary (106 ∷ []) ∷
    E.Send 1000003 ∷
    E.Arrive 2 ∷
    E.Arrive 0 ∷
    E.Ack 7 ∷
    E.Acked 3 ∷
    E.Abandon 2 ∷
    E.Arrive 0 ∷
    reads 3

abbrev link : History
link = answered other link_events []

link_is_read : IsReadWholly other link 1
link_is_read = record {
  is = record { first = omega arith; some = omega arith; size = omega arith };
  run = answered-run other link_events [] refl tt;
  unlost = refl;
  exhausted = refl;
}

link_writes : writes_on link 1 ≡ writes_1
link_writes = refl

link_arrivals : arrivals_on other link 1 ≡ true ∷ true ∷ false ∷ true ∷ []
link_arrivals = refl

link_loses : list_all (λ entry. loses_nothing entry.0) link ≡ false
link_loses = refl

link_reads : (ordered_shown setup base 1 ≡ ordered_shown other link 1) × (unordered_shown setup base 1 ≡ unordered_shown other link 1)
link_reads = reads_are_settled setup other base link 1 base_is_read link_is_read (base_writes ∙ sym link_writes) (base_arrivals ∙ sym link_arrivals)

-- ## What counts as lost

-- the first message expires, so the second one is read
abbrev expired_events : List Event
expired_events =
    E.Open 1 ∷
    E.Mode 1 false T.Timed 0 ∷
    E.Write 1 P.Binary (97 ∷ []) ∷
    E.Mode 1 false T.Reliable 0 ∷
    E.Write 1 P.Binary (98 ∷ []) ∷
    E.Start 0 ∷
    E.Expire 0 ∷
    E.Send 0 ∷
    E.Arrive 0 ∷
    E.Read 1 ∷
    []

-- the first message does not arrive, so the second one waits
abbrev waiting_events : List Event
waiting_events =
    E.Open 1 ∷
    E.Write 1 P.Binary (97 ∷ []) ∷
    E.Write 1 P.Binary (98 ∷ []) ∷
    E.Send 0 ∷
    E.Send 0 ∷
    E.Arrive 1 ∷
    E.Read 1 ∷
    []

abbrev expired : History
expired = answered setup expired_events []

abbrev waiting : History
waiting = answered setup waiting_events []

abbrev writes_2 : List (Shown × Bool)
writes_2 = ((1, P.Binary, 97 ∷ []), false) ∷ ((1, P.Binary, 98 ∷ []), false) ∷ []

-- the same writes and the same arrivals, and other reads: a message was lost
expiry_writes : map (λ h. writes_on h 1) (expired ∷ waiting ∷ []) ≡ writes_2 ∷ writes_2 ∷ []
expiry_writes = refl

expiry_arrivals : map (λ h. arrivals_on setup h 1) (expired ∷ waiting ∷ []) ≡ (false ∷ true ∷ []) ∷ (false ∷ true ∷ []) ∷ []
expiry_arrivals = refl

expiry_reads : map (λ h. ordered_shown setup h 1) (expired ∷ waiting ∷ []) ≡ ((1, P.Binary, 98 ∷ []) ∷ []) ∷ [] ∷ []
expiry_reads = refl

expiry_is_loss : map (λ h. has_loss_on setup h 1) (expired ∷ waiting ∷ []) ≡ true ∷ false ∷ []
expiry_is_loss = refl

-- slot 0 has a message of stream 2, slots 1 and 2 an unordered message of stream 1 (number 1), slot 3 an ordered one (number 2)
abbrev sent : LinkRecord
sent =
    record_of setup (
    answered setup (
    E.Open 1 ∷
    E.Open 2 ∷
    E.Write 2 P.Binary (120 ∷ []) ∷
    E.Send 0 ∷
    E.Mode 1 true T.Reliable 0 ∷
    E.Write 1 P.Binary (98 ∷ 99 ∷ 100 ∷ 101 ∷ []) ∷
    E.Send 0 ∷
    E.Send 0 ∷
    E.Mode 1 false T.Reliable 0 ∷
    E.Write 1 P.Binary (97 ∷ []) ∷
    E.Send 0 ∷
    []
    ) []
    )

-- what came, the newest first
abbrev lost_with : List LogEntry → ℕ → Type 0
lost_with log n = was_lost sent log n ≡ true

abbrev safe_with : List LogEntry → ℕ → Type 0
safe_with log n = was_lost sent log n ≡ false

covered_in_the_middle : lost_with (SlotReceived 2 ∷ SkipReceived 1 [] ∷ SlotReceived 1 ∷ []) 1
covered_in_the_middle = refl

covered_when_complete : safe_with (SkipReceived 2 [] ∷ SlotReceived 2 ∷ SlotReceived 1 ∷ []) 1
covered_when_complete = refl

covered_and_incomplete : safe_with (SkipReceived 1 [] ∷ SlotReceived 1 ∷ []) 1
covered_and_incomplete = refl

passed_over : lost_with (SkipReceived 3 (2 ∷ []) ∷ []) 2
passed_over = refl

passed_over_when_complete : safe_with (SkipReceived 3 (2 ∷ []) ∷ SlotReceived 3 ∷ []) 2
passed_over_when_complete = refl

covered_and_not_named : safe_with (SkipReceived 3 [] ∷ []) 2
covered_and_not_named = refl
