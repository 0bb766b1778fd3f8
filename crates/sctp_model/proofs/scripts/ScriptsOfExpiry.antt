-- Scripts computed by the definitions: 9 scripts, 75 steps.
use Rattle.sctp_model.proofs.Names.{true, false, [], ◌∷◌, Some, refl, codes, DataContents, SackContents}
use Rattle.sctp_model.specs.declared.event.Event.TheVariants as E
use Rattle.sctp_model.specs.Reply as R
use Rattle.sctp_data.specs.declared.chunk.chunk_payload_data.PayloadProtocolIdentifier.TheVariants as P
use Rattle.sctp_data.specs.declared.chunk.chunk_payload_data.ReliabilityType.TheVariants as T
use Rattle.sctp_model.proofs.scripts.Play.{link, chunk, ◌⇒◌, Plays, nothing}

dcep_never_expires : Plays (link 10 3 100 0) (
    E.Open 1 ⇒ R.Opened ∷
    E.Mode 1 true T.Timed 1 ⇒ R.«Set» ∷
    E.Write 1 P.Dcep (3 ∷ []) ⇒ R.Wrote (Some 0) 1 ∷
    E.Start 0 ⇒ R.Started ∷
    E.Expire 9000000 ⇒ R.Idle ∷
    E.Send 9000000 ⇒ R.Sent 0 10 0 1 ∷
    []) (record nothing {
      ledger = record { written = 1; pending = 0; in_flight = 1; released = 0 };
      contents = DataContents (chunk 10 1 0 P.Dcep (3 ∷ []) true true false ∷ []) ∷ [];
      streams = (1, 1, 0 ∷ 0 ∷ 0 ∷ 0 ∷ []) ∷ [];
      in_flight = (10, 3 ∷ []) ∷ [];
      reassembly = (0, [], [], []) ∷ [];
    })
dcep_never_expires = (refl, refl)

deadline_at_the_greatest_moment : Plays (link 10 3 100 0) (
    E.Open 1 ⇒ R.Opened ∷
    E.Mode 1 false T.Timed 1 ⇒ R.«Set» ∷
    E.Write 1 P.Binary (codes "a") ⇒ R.Wrote (Some 0) 1 ∷
    E.Start 18446744073708551615 ⇒ R.Started ∷
    E.Expire 18446744073709551614 ⇒ R.Idle ∷
    E.Expire 18446744073709551615 ⇒ R.Expired 1 1 ∷
    []) (record nothing {
      ledger = record { written = 1; pending = 0; in_flight = 0; released = 1 };
      streams = (1, 0, 1 ∷ 1 ∷ 0 ∷ 0 ∷ []) ∷ [];
      reassembly = (0, [], [], []) ∷ [];
    })
deadline_at_the_greatest_moment = (refl, refl)

expiry_closes_the_numbers_up : Plays (link 10 3 100 0) (
    E.Open 1 ⇒ R.Opened ∷
    E.Mode 1 false T.Timed 1 ⇒ R.«Set» ∷
    E.Write 1 P.Binary (codes "aaa") ⇒ R.Wrote (Some 0) 1 ∷
    E.Mode 1 false T.Reliable 0 ⇒ R.«Set» ∷
    E.Write 1 P.Binary (codes "bbb") ⇒ R.Wrote (Some 1) 1 ∷
    E.Start 100 ⇒ R.Started ∷
    E.Expire 1000099 ⇒ R.Idle ∷
    E.Expire 1000100 ⇒ R.Expired 1 3 ∷
    E.Send 0 ⇒ R.Sent 0 10 0 1 ∷
    []) (record nothing {
      ledger = record { written = 6; pending = 0; in_flight = 3; released = 3 };
      contents = DataContents (chunk 10 1 0 P.Binary (codes "bbb") true true false ∷ []) ∷ [];
      streams = (1, 3, 2 ∷ 6 ∷ 0 ∷ 0 ∷ []) ∷ [];
      in_flight = (10, codes "bbb") ∷ [];
      reassembly = (0, [], [], []) ∷ [];
    })
expiry_closes_the_numbers_up = (refl, refl)

expiry_on_one_of_two_streams : Plays (link 10 3 100 0) (
    E.Open 1 ⇒ R.Opened ∷
    E.Open 2 ⇒ R.Opened ∷
    E.Mode 1 false T.Timed 1 ⇒ R.«Set» ∷
    E.Write 1 P.Binary (codes "a") ⇒ R.Wrote (Some 0) 1 ∷
    E.Mode 1 false T.Reliable 0 ⇒ R.«Set» ∷
    E.Write 1 P.Binary (codes "b") ⇒ R.Wrote (Some 1) 1 ∷
    E.Write 2 P.Binary (codes "c") ⇒ R.Wrote (Some 2) 1 ∷
    E.Start 0 ⇒ R.Started ∷
    E.Expire 1000000 ⇒ R.Expired 1 1 ∷
    E.Write 1 P.Binary (codes "d") ⇒ R.Wrote (Some 3) 1 ∷
    E.Send 0 ⇒ R.Sent 0 10 0 1 ∷
    E.Send 0 ⇒ R.Sent 1 11 0 1 ∷
    E.Send 0 ⇒ R.Sent 2 12 1 1 ∷
    []) (record nothing {
      ledger = record { written = 4; pending = 0; in_flight = 3; released = 1 };
      contents =
          DataContents (chunk 10 1 0 P.Binary (codes "b") true true false ∷ []) ∷
          DataContents (chunk 11 2 0 P.Binary (codes "c") true true false ∷ []) ∷
          DataContents (chunk 12 1 1 P.Binary (codes "d") true true false ∷ []) ∷
          [];
      streams = (1, 2, 3 ∷ 3 ∷ 0 ∷ 0 ∷ []) ∷ (2, 1, 1 ∷ 1 ∷ 0 ∷ 0 ∷ []) ∷ [];
      in_flight = (10, codes "b") ∷ (11, codes "c") ∷ (12, codes "d") ∷ [];
      reassembly = (0, [], [], []) ∷ (0, [], [], []) ∷ [];
    })
expiry_on_one_of_two_streams = (refl, refl)

late_and_not_yet : Plays (link 10 3 100 0) (
    E.Open 1 ⇒ R.Opened ∷
    E.Mode 1 false T.Timed 1 ⇒ R.«Set» ∷
    E.Write 1 P.Binary (codes "abcdefg") ⇒ R.Wrote (Some 0) 3 ∷
    E.Send 0 ⇒ R.Sent 0 10 0 1 ∷
    E.Late 999999 ⇒ R.Late 0 0 ∷
    E.Late 1000000 ⇒ R.Late 1 7 ∷
    []) (record nothing {
      ledger = record { written = 7; pending = 0; in_flight = 0; released = 7 };
      contents = DataContents (chunk 10 1 0 P.Binary (codes "abc") true false false ∷ []) ∷ [];
      streams = (1, 0, 1 ∷ 7 ∷ 0 ∷ 0 ∷ []) ∷ [];
      in_flight = (10, []) ∷ (11, []) ∷ [];
      reassembly = (0, [], [], []) ∷ [];
    })
late_and_not_yet = (refl, refl)

late_lists_all_of_a_partially_sent_message : Plays (link 10 3 100 0) (
    E.Open 1 ⇒ R.Opened ∷
    E.Mode 1 false T.Timed 1 ⇒ R.«Set» ∷
    E.Write 1 P.Binary (codes "abcdefg") ⇒ R.Wrote (Some 0) 3 ∷
    E.Send 0 ⇒ R.Sent 0 10 0 1 ∷
    E.Send 0 ⇒ R.Sent 1 11 0 1 ∷
    E.Arrive 1 ⇒ R.New ∷
    E.Ack 0 ⇒ R.Ack 2 ∷
    E.Acked 2 ⇒ R.Acked 3 ∷
    E.Late 1000000 ⇒ R.Late 2 4 ∷
    E.Write 1 P.Binary (codes "x") ⇒ R.Wrote (Some 1) 1 ∷
    E.Send 0 ⇒ R.Sent 3 13 1 1 ∷
    []) (record nothing {
      ledger = record { written = 8; pending = 0; in_flight = 1; released = 7 };
      contents =
          DataContents (chunk 10 1 0 P.Binary (codes "abc") true false false ∷ []) ∷
          DataContents (chunk 11 1 0 P.Binary (codes "def") false false false ∷ []) ∷
          SackContents 9 0 ((2, 2) ∷ []) [] ∷
          DataContents (chunk 13 1 1 P.Binary (codes "x") true true false ∷ []) ∷
          [];
      streams = (1, 1, 2 ∷ 8 ∷ 0 ∷ 0 ∷ []) ∷ [];
      in_flight = (10, []) ∷ (11, []) ∷ (12, []) ∷ (13, codes "x") ∷ [];
      held = 11 ∷ [];
      reassembly = (0, (11 ∷ []) ∷ [], [], []) ∷ [];
    })
late_lists_all_of_a_partially_sent_message = (refl, refl)

late_message_wholly_sent : Plays (link 10 3 100 0) (
    E.Open 1 ⇒ R.Opened ∷
    E.Mode 1 false T.Timed 1 ⇒ R.«Set» ∷
    E.Write 1 P.Binary (codes "abcdef") ⇒ R.Wrote (Some 0) 2 ∷
    E.Send 0 ⇒ R.Sent 0 10 0 1 ∷
    E.Send 0 ⇒ R.Sent 1 11 0 1 ∷
    E.Late 1000000 ⇒ R.Late 2 6 ∷
    E.Write 1 P.Binary (codes "x") ⇒ R.Wrote (Some 1) 1 ∷
    E.Send 0 ⇒ R.Sent 2 12 1 1 ∷
    []) (record nothing {
      ledger = record { written = 7; pending = 0; in_flight = 1; released = 6 };
      contents =
          DataContents (chunk 10 1 0 P.Binary (codes "abc") true false false ∷ []) ∷
          DataContents (chunk 11 1 0 P.Binary (codes "def") false true false ∷ []) ∷
          DataContents (chunk 12 1 1 P.Binary (codes "x") true true false ∷ []) ∷
          [];
      streams = (1, 1, 2 ∷ 7 ∷ 0 ∷ 0 ∷ []) ∷ [];
      in_flight = (10, []) ∷ (11, []) ∷ (12, codes "x") ∷ [];
      reassembly = (0, [], [], []) ∷ [];
    })
late_message_wholly_sent = (refl, refl)

late_skips_what_is_acknowledged : Plays (link 10 3 100 0) (
    E.Open 1 ⇒ R.Opened ∷
    E.Mode 1 false T.Timed 1 ⇒ R.«Set» ∷
    E.Write 1 P.Binary (codes "abcdef") ⇒ R.Wrote (Some 0) 2 ∷
    E.Send 0 ⇒ R.Sent 0 10 0 1 ∷
    E.Send 0 ⇒ R.Sent 1 11 0 1 ∷
    E.Arrive 1 ⇒ R.New ∷
    E.Ack 0 ⇒ R.Ack 2 ∷
    E.Acked 2 ⇒ R.Acked 3 ∷
    E.Late 1000000 ⇒ R.Late 1 3 ∷
    []) (record nothing {
      ledger = record { written = 6; pending = 0; in_flight = 0; released = 6 };
      contents =
          DataContents (chunk 10 1 0 P.Binary (codes "abc") true false false ∷ []) ∷
          DataContents (chunk 11 1 0 P.Binary (codes "def") false true false ∷ []) ∷
          SackContents 9 0 ((2, 2) ∷ []) [] ∷
          [];
      streams = (1, 0, 1 ∷ 6 ∷ 0 ∷ 0 ∷ []) ∷ [];
      in_flight = (10, []) ∷ (11, []) ∷ [];
      held = 11 ∷ [];
      reassembly = (0, (11 ∷ []) ∷ [], [], []) ∷ [];
    })
late_skips_what_is_acknowledged = (refl, refl)

no_deadline_past_the_greatest_moment : Plays (link 10 3 100 0) (
    E.Open 1 ⇒ R.Opened ∷
    E.Mode 1 false T.Timed 1 ⇒ R.«Set» ∷
    E.Write 1 P.Binary (codes "a") ⇒ R.Wrote (Some 0) 1 ∷
    E.Start 18446744073709551615 ⇒ R.Started ∷
    E.Expire 18446744073709551615 ⇒ R.Idle ∷
    E.Start 0 ⇒ R.Started ∷
    E.Expire 18446744073709551615 ⇒ R.Idle ∷
    []) (record nothing {
      ledger = record { written = 1; pending = 1; in_flight = 0; released = 0 };
      streams = (1, 1, 1 ∷ 1 ∷ 0 ∷ 0 ∷ []) ∷ [];
      ordered = (0, codes "a") ∷ [];
      reassembly = (0, [], [], []) ∷ [];
    })
no_deadline_past_the_greatest_moment = (refl, refl)
