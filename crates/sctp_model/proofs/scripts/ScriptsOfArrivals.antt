-- Scripts computed by the definitions: 6 scripts, 77 steps.
use Rattle.sctp_model.proofs.Names.{◌≡◌, true, false, [], ◌∷◌, Some, refl, codes, reply_to, DataContents, SackContents}
use Rattle.sctp_model.specs.declared.event.Event.TheVariants as E
use Rattle.sctp_model.specs.Reply as R
use Rattle.sctp_data.specs.declared.chunk.chunk_payload_data.PayloadProtocolIdentifier.TheVariants as P
use Rattle.sctp_data.specs.declared.chunk.chunk_payload_data.ReliabilityType.TheVariants as T
use Rattle.sctp_model.specs.declared.event.LinkRefusal.TheVariants as F
use Rattle.sctp_model.proofs.scripts.Play.{link, chunk, Ask, ◌⇒◌, ◌⇏◌, hands, Plays, nothing, played}

acknowledgement_and_resend : Plays (link 10 3 100 0) (
    E.Open 1 ⇒ R.Opened ∷
    E.Write 1 P.Binary (codes "abcdefg") ⇒ R.Wrote (Some 0) 3 ∷
    E.Send 0 ⇒ R.Sent 0 10 0 1 ∷
    E.Send 0 ⇒ R.Sent 1 11 0 1 ∷
    E.Send 0 ⇒ R.Sent 2 12 0 1 ∷
    E.Arrive 0 ⇒ R.New ∷
    E.Arrive 2 ⇒ R.New ∷
    E.Ack 0 ⇒ R.Ack 3 ∷
    E.Acked 3 ⇒ R.Acked 4 ∷
    E.Acked 3 ⇒ R.Acked 0 ∷
    E.Resend 12 ⇏ F.NotInFlight ∷
    E.Resend 10 ⇏ F.NotInFlight ∷
    E.Resend 11 ⇒ R.Resent 4 ∷
    E.Arrive 4 ⇒ R.New ∷
    hands 1 P.Binary (codes "abc" ∷ codes "def" ∷ codes "g" ∷ []) ∷
    []) (record nothing {
      ledger = record { written = 7; pending = 0; in_flight = 3; released = 4 };
      contents =
          DataContents (chunk 10 1 0 P.Binary (codes "abc") true false false ∷ []) ∷
          DataContents (chunk 11 1 0 P.Binary (codes "def") false false false ∷ []) ∷
          DataContents (chunk 12 1 0 P.Binary (codes "g") false true false ∷ []) ∷
          SackContents 10 0 ((2, 2) ∷ []) [] ∷
          DataContents (chunk 11 1 0 P.Binary (codes "def") false false false ∷ []) ∷
          [];
      streams = (1, 3, 1 ∷ 7 ∷ 1 ∷ 7 ∷ []) ∷ [];
      in_flight = (11, codes "def") ∷ (12, []) ∷ [];
      reassembly = (1, [], [], []) ∷ [];
    })
acknowledgement_and_resend = (refl, refl)

duplicate_and_credit : Plays (link 4294967294 3 100 0) (
    E.Open 1 ⇒ R.Opened ∷
    E.Write 1 P.Binary (codes "abcdefg") ⇒ R.Wrote (Some 0) 3 ∷
    E.Send 0 ⇒ R.Sent 0 4294967294 0 1 ∷
    E.Send 0 ⇒ R.Sent 1 4294967295 0 1 ∷
    E.Send 0 ⇒ R.Sent 2 0 0 1 ∷
    E.Send 0 ⇒ R.Idle ∷
    E.Arrive 0 ⇒ R.New ∷
    E.Arrive 0 ⇒ R.Repeat ∷
    E.Ack 258 ⇒ R.Ack 3 ∷
    []) (record nothing {
      ledger = record { written = 7; pending = 0; in_flight = 7; released = 0 };
      contents =
          DataContents (chunk 4294967294 1 0 P.Binary (codes "abc") true false false ∷ []) ∷
          DataContents (chunk 4294967295 1 0 P.Binary (codes "def") false false false ∷ []) ∷
          DataContents (chunk 0 1 0 P.Binary (codes "g") false true false ∷ []) ∷
          SackContents 4294967294 258 [] (4294967294 ∷ []) ∷
          [];
      streams = (1, 7, 1 ∷ 7 ∷ 0 ∷ 0 ∷ []) ∷ [];
      in_flight = (4294967294, codes "abc") ∷ (4294967295, codes "def") ∷ (0, codes "g") ∷ [];
      reassembly = (0, (4294967294 ∷ []) ∷ [], [], []) ∷ [];
    })
duplicate_and_credit = (refl, refl)

fragments_past_the_last_tsn : Plays (link 4294967294 3 100 0) (
    E.Open 1 ⇒ R.Opened ∷
    E.Write 1 P.Binary (codes "abcdefg") ⇒ R.Wrote (Some 0) 3 ∷
    E.Send 0 ⇒ R.Sent 0 4294967294 0 1 ∷
    E.Send 0 ⇒ R.Sent 1 4294967295 0 1 ∷
    E.Send 0 ⇒ R.Sent 2 0 0 1 ∷
    E.Send 0 ⇒ R.Idle ∷
    E.Arrive 2 ⇒ R.New ∷
    E.Arrive 0 ⇒ R.New ∷
    E.Read 1 ⇒ R.Nothing ∷
    E.Arrive 1 ⇒ R.New ∷
    hands 1 P.Binary (codes "abc" ∷ codes "def" ∷ codes "g" ∷ []) ∷
    E.Read 1 ⇒ R.Nothing ∷
    []) (record nothing {
      ledger = record { written = 7; pending = 0; in_flight = 7; released = 0 };
      contents =
          DataContents (chunk 4294967294 1 0 P.Binary (codes "abc") true false false ∷ []) ∷
          DataContents (chunk 4294967295 1 0 P.Binary (codes "def") false false false ∷ []) ∷
          DataContents (chunk 0 1 0 P.Binary (codes "g") false true false ∷ []) ∷
          [];
      streams = (1, 7, 1 ∷ 7 ∷ 1 ∷ 7 ∷ []) ∷ [];
      in_flight = (4294967294, codes "abc") ∷ (4294967295, codes "def") ∷ (0, codes "g") ∷ [];
      reassembly = (1, [], [], []) ∷ [];
    })
fragments_past_the_last_tsn = (refl, refl)

gap_block_past_the_last_tsn : Plays (link 4294967294 3 100 0) (
    E.Open 1 ⇒ R.Opened ∷
    E.Write 1 P.Binary (codes "abcdefg") ⇒ R.Wrote (Some 0) 3 ∷
    E.Send 0 ⇒ R.Sent 0 4294967294 0 1 ∷
    E.Send 0 ⇒ R.Sent 1 4294967295 0 1 ∷
    E.Send 0 ⇒ R.Sent 2 0 0 1 ∷
    E.Send 0 ⇒ R.Idle ∷
    E.Arrive 2 ⇒ R.New ∷
    E.Arrive 0 ⇒ R.New ∷
    E.Ack 0 ⇒ R.Ack 3 ∷
    []) (record nothing {
      ledger = record { written = 7; pending = 0; in_flight = 7; released = 0 };
      contents =
          DataContents (chunk 4294967294 1 0 P.Binary (codes "abc") true false false ∷ []) ∷
          DataContents (chunk 4294967295 1 0 P.Binary (codes "def") false false false ∷ []) ∷
          DataContents (chunk 0 1 0 P.Binary (codes "g") false true false ∷ []) ∷
          SackContents 4294967294 0 ((2, 2) ∷ []) [] ∷
          [];
      streams = (1, 7, 1 ∷ 7 ∷ 0 ∷ 0 ∷ []) ∷ [];
      in_flight = (4294967294, codes "abc") ∷ (4294967295, codes "def") ∷ (0, codes "g") ∷ [];
      held = 0 ∷ [];
      reassembly = (0, (4294967294 ∷ 0 ∷ []) ∷ [], [], []) ∷ [];
    })
gap_block_past_the_last_tsn = (refl, refl)

two_streams_out_of_order : Plays (link 4294967295 2 100 0) (
    E.Open 1 ⇒ R.Opened ∷
    E.Open 2 ⇒ R.Opened ∷
    E.Write 1 P.Binary (codes "abc") ⇒ R.Wrote (Some 0) 2 ∷
    E.Write 2 P.Binary (codes "de") ⇒ R.Wrote (Some 1) 1 ∷
    E.Write 1 P.Binary (codes "f") ⇒ R.Wrote (Some 2) 1 ∷
    E.Send 0 ⇒ R.Sent 0 4294967295 0 1 ∷
    E.Send 0 ⇒ R.Sent 1 0 0 1 ∷
    E.Send 0 ⇒ R.Sent 2 1 0 1 ∷
    E.Send 0 ⇒ R.Sent 3 2 1 1 ∷
    E.Arrive 3 ⇒ R.New ∷
    E.Arrive 2 ⇒ R.New ∷
    E.Read 1 ⇒ R.Nothing ∷
    hands 2 P.Binary (codes "de" ∷ []) ∷
    E.Arrive 0 ⇒ R.New ∷
    E.Read 1 ⇒ R.Nothing ∷
    E.Arrive 1 ⇒ R.New ∷
    hands 1 P.Binary (codes "ab" ∷ codes "c" ∷ []) ∷
    hands 1 P.Binary (codes "f" ∷ []) ∷
    E.Read 1 ⇒ R.Nothing ∷
    []) (record nothing {
      ledger = record { written = 6; pending = 0; in_flight = 6; released = 0 };
      contents =
          DataContents (chunk 4294967295 1 0 P.Binary (codes "ab") true false false ∷ []) ∷
          DataContents (chunk 0 1 0 P.Binary (codes "c") false true false ∷ []) ∷
          DataContents (chunk 1 2 0 P.Binary (codes "de") true true false ∷ []) ∷
          DataContents (chunk 2 1 1 P.Binary (codes "f") true true false ∷ []) ∷
          [];
      streams = (1, 4, 2 ∷ 4 ∷ 2 ∷ 4 ∷ []) ∷ (2, 2, 1 ∷ 2 ∷ 1 ∷ 2 ∷ []) ∷ [];
      in_flight = (4294967295, codes "ab") ∷ (0, codes "c") ∷ (1, codes "de") ∷ (2, codes "f") ∷ [];
      reassembly = (2, [], [], []) ∷ (1, [], [], []) ∷ [];
    })
two_streams_out_of_order = (refl, refl)

unordered_before_ordered : Plays (link 10 3 100 0) (
    E.Open 1 ⇒ R.Opened ∷
    E.Write 1 P.Binary (codes "aaa") ⇒ R.Wrote (Some 0) 1 ∷
    E.Mode 1 true T.Reliable 0 ⇒ R.«Set» ∷
    E.Write 1 P.Binary (codes "bbbccc") ⇒ R.Wrote (Some 1) 2 ∷
    E.Send 0 ⇒ R.Sent 0 10 1 1 ∷
    E.Send 0 ⇒ R.Sent 1 11 1 1 ∷
    E.Send 0 ⇒ R.Sent 2 12 0 1 ∷
    E.Arrive 1 ⇒ R.New ∷
    E.Arrive 0 ⇒ R.New ∷
    hands 1 P.Binary (codes "bbb" ∷ codes "ccc" ∷ []) ∷
    E.Read 1 ⇒ R.Nothing ∷
    E.Arrive 2 ⇒ R.New ∷
    hands 1 P.Binary (codes "aaa" ∷ []) ∷
    []) (record nothing {
      ledger = record { written = 9; pending = 0; in_flight = 9; released = 0 };
      contents =
          DataContents (chunk 10 1 1 P.Binary (codes "bbb") true false true ∷ []) ∷
          DataContents (chunk 11 1 1 P.Binary (codes "ccc") false true true ∷ []) ∷
          DataContents (chunk 12 1 0 P.Binary (codes "aaa") true true false ∷ []) ∷
          [];
      streams = (1, 9, 2 ∷ 9 ∷ 2 ∷ 9 ∷ []) ∷ [];
      in_flight = (10, codes "bbb") ∷ (11, codes "ccc") ∷ (12, codes "aaa") ∷ [];
      reassembly = (1, [], [], []) ∷ [];
    })
unordered_before_ordered = (refl, refl)

-- a complete unordered message has no stream sequence number of its own: its set has 0, whatever its chunks carry (RFC 4960 6.6)
set_of_an_unordered_message :
    reply_to (played (link 10 3 100 0) (
    Ask (E.Open 1) ∷
    Ask (E.Write 1 P.Binary (codes "aaa")) ∷
    Ask (E.Mode 1 true T.Reliable 0) ∷
    Ask (E.Write 1 P.Binary (codes "b")) ∷
    Ask (E.Send 0) ∷
    Ask (E.Arrive 0) ∷
    [])) (E.Read 1)
    ≡ R.Message 1 P.Binary (record { ssn = 0; ppi = P.Binary; chunks = chunk 10 1 1 P.Binary (codes "b") true true true ∷ [] })
set_of_an_unordered_message = refl
