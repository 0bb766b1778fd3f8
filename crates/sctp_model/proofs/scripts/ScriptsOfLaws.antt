-- Worked examples for the words of the laws: which messages are past their deadlines, which slots are late, how long a datagram is.
use Rattle.sctp_model.proofs.Names.{◌≡◌, ℕ, Bool, true, false, List, [], ◌∷◌, map, Some, None, refl, option_to_list, Event, Setup, Contents, DataContents}
use Rattle.sctp_model.proofs.Names.{datagram, is_past_deadline_by_events, History, record_of, may_want_memory, data_length, packet_length, next_fragment}
use Rattle.sctp_model.proofs.Names.{unsent_past_deadline, partially_sent_past_deadline, late_slots_by_events}
use Rattle.sctp_data.specs.declared.chunk.chunk_payload_data.PayloadProtocolIdentifier.TheVariants as P
use Rattle.sctp_data.specs.declared.chunk.chunk_payload_data.ReliabilityType.TheVariants as T
use Rattle.sctp_model.specs.declared.event.Event.TheVariants as E
use Rattle.sctp_model.proofs.scripts.Play.{answered}

abbrev setup_of : ℕ → Setup
setup_of limit = record { first = 10; size = 3; largest = 100; limit = limit }

-- ## Messages past their deadlines

-- in turn: timed, DCEP, limited by retransmissions, reliable, and timed past the greatest moment
abbrev five_messages : History
five_messages =
    answered (setup_of 0) (
    E.Open 1 ∷
    E.Mode 1 false T.Timed 1 ∷
    E.Write 1 P.Binary (97 ∷ []) ∷
    E.Write 1 P.Dcep (3 ∷ []) ∷
    E.Mode 1 false T.Rexmit 0 ∷
    E.Write 1 P.Binary (98 ∷ []) ∷
    E.Mode 1 false T.Reliable 1 ∷
    E.Write 1 P.Binary (99 ∷ []) ∷
    E.Start 100 ∷
    E.Mode 1 false T.Timed 1 ∷
    E.Write 1 P.Binary (100 ∷ []) ∷
    E.Start 18446744073708551616 ∷
    []
    ) []

abbrev past_deadline_at : ℕ → List Bool
past_deadline_at now = map (is_past_deadline_by_events five_messages now) (0 ∷ 1 ∷ 2 ∷ 3 ∷ 4 ∷ 5 ∷ [])

not_yet : past_deadline_at 1000099 ≡ false ∷ false ∷ false ∷ false ∷ false ∷ false ∷ []
not_yet = refl

just_now : past_deadline_at 1000100 ≡ true ∷ false ∷ false ∷ false ∷ false ∷ false ∷ []
just_now = refl

at_the_end_of_time : past_deadline_at 18446744073709551615 ≡ true ∷ false ∷ false ∷ false ∷ false ∷ false ∷ []
at_the_end_of_time = refl

the_front_expires : unsent_past_deadline five_messages (record_of (setup_of 0) five_messages) 1000100 ≡ Some 0
the_front_expires = refl

no_tail_is_left : partially_sent_past_deadline five_messages (record_of (setup_of 0) five_messages) 1000100 ≡ None
no_tail_is_left = refl

-- ## Late slots

-- two of three fragments are sent, and the second is acknowledged by a gap block
abbrev partially_sent : History
partially_sent =
    answered (setup_of 0) (
    E.Open 1 ∷
    E.Mode 1 false T.Timed 1 ∷
    E.Write 1 P.Binary (97 ∷ 98 ∷ 99 ∷ 100 ∷ 101 ∷ 102 ∷ 103 ∷ []) ∷
    E.Send 0 ∷
    E.Send 0 ∷
    E.Arrive 1 ∷
    E.Ack 0 ∷
    E.Acked 2 ∷
    []
    ) []

late_with_all_slots : late_slots_by_events (setup_of 0) partially_sent (record_of (setup_of 0) partially_sent) 1000000 ≡ 0 ∷ 1 ∷ []
late_with_all_slots = refl

abbrev wholly_sent : History
wholly_sent = answered (setup_of 0) (E.Send 0 ∷ []) partially_sent

late_where_not_acknowledged : late_slots_by_events (setup_of 0) wholly_sent (record_of (setup_of 0) wholly_sent) 1000000 ≡ 0 ∷ 2 ∷ []
late_where_not_acknowledged = refl

the_tail_is_abandoned : partially_sent_past_deadline partially_sent (record_of (setup_of 0) partially_sent) 1000000 ≡ Some 0
the_tail_is_abandoned = refl

-- ## Lengths

lengths : map data_length ([] ∷ (1 ∷ []) ∷ (1 ∷ 2 ∷ 3 ∷ 4 ∷ []) ∷ (1 ∷ 2 ∷ 3 ∷ 4 ∷ 5 ∷ []) ∷ []) ≡ 16 ∷ 20 ∷ 20 ∷ 24 ∷ []
lengths = refl

-- a message of two fragments, 3 bytes and 1 byte, is sent with this limit
abbrev sent_with : ℕ → History
sent_with limit = answered (setup_of limit) (E.Open 1 ∷ E.Write 1 P.Binary (97 ∷ 98 ∷ 99 ∷ 100 ∷ []) ∷ E.Send 0 ∷ []) []

abbrev length_in : Contents → ℕ
length_in (DataContents chunks) = packet_length chunks
length_in _ = 0

two_in_one : map length_in (option_to_list (datagram (record_of (setup_of 52) (sent_with 52)) 0)) ≡ 52 ∷ []
two_in_one = refl

one_alone : map length_in (option_to_list (datagram (record_of (setup_of 51) (sent_with 51)) 0)) ≡ 32 ∷ []
one_alone = refl

the_next_would_not_fit : data_length (next_fragment (record_of (setup_of 51) (sent_with 51)) 0) ≡ 20
the_next_would_not_fit = refl

-- ## Want of memory

abbrev wants : List Event → List Event → List Bool
wants before events = map (may_want_memory (record_of (setup_of 0) (answered (setup_of 0) before []))) events

-- nothing is pending, nothing is past its deadline, a message wholly sent is abandoned, and there is no second datagram
idle_wants_none :
    wants (E.Open 1 ∷ E.Write 1 P.Binary (97 ∷ []) ∷ E.Send 0 ∷ [])
    (E.Send 0 ∷ E.Tail 0 ∷ E.Late 0 ∷ E.Abandon 10 ∷ E.Write 1 P.Binary [] ∷ E.Expire 0 ∷ E.Start 0 ∷ E.Read 1 ∷ E.Arrive 1 ∷ [])
    ≡ false ∷ false ∷ false ∷ false ∷ false ∷ false ∷ false ∷ false ∷ false ∷ []
idle_wants_none = refl

-- a fragment is pending, two slots and the tail are past their deadlines, a partially sent message is abandoned, and a datagram comes
what_grows_wants :
    wants (E.Open 1 ∷ E.Mode 1 false T.Timed 0 ∷ E.Write 1 P.Binary (97 ∷ 98 ∷ 99 ∷ 100 ∷ []) ∷ E.Send 0 ∷ [])
    (E.Send 0 ∷ E.Tail 0 ∷ E.Late 0 ∷ E.Abandon 10 ∷ E.Write 1 P.Binary (97 ∷ []) ∷ E.Abandon 11 ∷ E.Write 2 P.Binary (97 ∷ []) ∷ E.Arrive 0 ∷ [])
    ≡ true ∷ true ∷ true ∷ true ∷ true ∷ false ∷ false ∷ true ∷ []
what_grows_wants = refl
