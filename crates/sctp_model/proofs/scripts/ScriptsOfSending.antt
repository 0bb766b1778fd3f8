-- Scripts computed by the definitions: 9 scripts, 63 steps.
use Rattle.sctp_model.proofs.Names.{true, false, [], ◌∷◌, Some, None, refl, codes, DataContents, SackContents}
use Rattle.sctp_model.specs.declared.event.Event.TheVariants as E
use Rattle.sctp_model.specs.Reply as R
use Rattle.sctp_data.specs.declared.chunk.chunk_payload_data.PayloadProtocolIdentifier.TheVariants as P
use Rattle.sctp_model.specs.declared.event.LinkRefusal.TheVariants as F
use Rattle.sctp_model.proofs.scripts.Play.{link, chunk, ◌⇒◌, ◌⇏◌, skips_not, hands, Plays, nothing}

both_fragments_fit_with_padding : Plays (link 10 3 100 52) (
    E.Open 1 ⇒ R.Opened ∷
    E.Write 1 P.Binary (codes "abcd") ⇒ R.Wrote (Some 0) 2 ∷
    E.Send 0 ⇒ R.Sent 0 10 0 2 ∷
    E.Send 0 ⇒ R.Idle ∷
    []) (record nothing {
      ledger = record { written = 4; pending = 0; in_flight = 4; released = 0 };
      contents = DataContents (chunk 10 1 0 P.Binary (codes "abc") true false false ∷ chunk 11 1 0 P.Binary (codes "d") false true false ∷ []) ∷ [];
      streams = (1, 4, 1 ∷ 4 ∷ 0 ∷ 0 ∷ []) ∷ [];
      in_flight = (10, codes "abc") ∷ (11, codes "d") ∷ [];
      reassembly = (0, [], [], []) ∷ [];
    })
both_fragments_fit_with_padding = (refl, refl)

counters_by_payload_type : Plays (link 10 3 100 0) (
    E.Open 1 ⇒ R.Opened ∷
    E.Write 1 P.StringEmpty (0 ∷ []) ⇒ R.Wrote (Some 0) 1 ∷
    E.Write 1 P.String (195 ∷ 169 ∷ []) ⇒ R.Wrote (Some 1) 1 ∷
    E.Write 1 P.Dcep (3 ∷ []) ⇒ R.Wrote (Some 2) 1 ∷
    E.Write 1 P.Binary [] ⇒ R.Wrote None 0 ∷
    E.Send 0 ⇒ R.Sent 0 10 0 1 ∷
    E.Arrive 0 ⇒ R.New ∷
    hands 1 P.StringEmpty ((0 ∷ []) ∷ []) ∷
    E.Resend 10 ⇒ R.Resent 1 ∷
    E.Ack 0 ⇒ R.Ack 2 ∷
    E.Acked 2 ⇒ R.Acked 1 ∷
    []) (record nothing {
      ledger = record { written = 4; pending = 3; in_flight = 0; released = 1 };
      contents =
          DataContents (chunk 10 1 0 P.StringEmpty (0 ∷ []) true true false ∷ []) ∷
          DataContents (chunk 10 1 0 P.StringEmpty (0 ∷ []) true true false ∷ []) ∷
          SackContents 10 0 [] [] ∷
          [];
      streams = (1, 3, 2 ∷ 2 ∷ 1 ∷ 0 ∷ []) ∷ [];
      ordered = (1, 195 ∷ 169 ∷ []) ∷ (2, 3 ∷ []) ∷ [];
      reassembly = (1, [], [], []) ∷ [];
    })
counters_by_payload_type = (refl, refl)

each_refusal : Plays (link 10 3 3 0) (
    E.Write 1 P.Binary (codes "a") ⇏ F.StreamUnknown ∷
    E.Open 1 ⇒ R.Opened ∷
    E.Open 1 ⇏ F.StreamOpen ∷
    E.Write 1 P.Binary (codes "aaaa") ⇏ F.MessageTooLarge ∷
    E.Arrive 0 ⇏ F.NoSuchDatagram ∷
    E.Resend 10 ⇏ F.NotInFlight ∷
    skips_not 10 [] F.SkipUnassigned ∷
    E.Write 1 P.Binary (codes "aaa") ⇒ R.Wrote (Some 0) 1 ∷
    E.Write 1 P.Binary (codes "bbb") ⇒ R.Wrote (Some 1) 1 ∷
    E.Send 0 ⇒ R.Sent 0 10 0 1 ∷
    skips_not 10 (1 ∷ []) F.SkipNames ∷
    []) (record nothing {
      ledger = record { written = 6; pending = 3; in_flight = 3; released = 0 };
      contents = DataContents (chunk 10 1 0 P.Binary (codes "aaa") true true false ∷ []) ∷ [];
      streams = (1, 6, 2 ∷ 6 ∷ 0 ∷ 0 ∷ []) ∷ [];
      ordered = (1, codes "bbb") ∷ [];
      in_flight = (10, codes "aaa") ∷ [];
      reassembly = (0, [], [], []) ∷ [];
    })
each_refusal = (refl, refl)

empty_write_takes_no_number : Plays (link 10 3 100 0) (
    E.Open 1 ⇒ R.Opened ∷
    E.Write 1 P.Binary [] ⇒ R.Wrote None 0 ∷
    E.Write 1 P.Binary (codes "aaa") ⇒ R.Wrote (Some 0) 1 ∷
    E.Send 0 ⇒ R.Sent 0 10 0 1 ∷
    []) (record nothing {
      ledger = record { written = 3; pending = 0; in_flight = 3; released = 0 };
      contents = DataContents (chunk 10 1 0 P.Binary (codes "aaa") true true false ∷ []) ∷ [];
      streams = (1, 3, 1 ∷ 3 ∷ 0 ∷ 0 ∷ []) ∷ [];
      in_flight = (10, codes "aaa") ∷ [];
      reassembly = (0, [], [], []) ∷ [];
    })
empty_write_takes_no_number = (refl, refl)

first_message : Plays (link 10 3 100 0) (
    E.Open 1 ⇒ R.Opened ∷
    E.Write 1 P.Binary (codes "abc") ⇒ R.Wrote (Some 0) 1 ∷
    E.Send 0 ⇒ R.Sent 0 10 0 1 ∷
    E.Arrive 0 ⇒ R.New ∷
    hands 1 P.Binary (codes "abc" ∷ []) ∷
    E.Read 1 ⇒ R.Nothing ∷
    []) (record nothing {
      ledger = record { written = 3; pending = 0; in_flight = 3; released = 0 };
      contents = DataContents (chunk 10 1 0 P.Binary (codes "abc") true true false ∷ []) ∷ [];
      streams = (1, 3, 1 ∷ 3 ∷ 1 ∷ 3 ∷ []) ∷ [];
      in_flight = (10, codes "abc") ∷ [];
      reassembly = (1, [], [], []) ∷ [];
    })
first_message = (refl, refl)

one_chunk : Plays (link 10 3 100 0) (
    E.Open 1 ⇒ R.Opened ∷
    E.Write 1 P.Binary (codes "abc") ⇒ R.Wrote (Some 0) 1 ∷
    E.Send 0 ⇒ R.Sent 0 10 0 1 ∷
    []) (record nothing {
      ledger = record { written = 3; pending = 0; in_flight = 3; released = 0 };
      contents = DataContents (chunk 10 1 0 P.Binary (codes "abc") true true false ∷ []) ∷ [];
      streams = (1, 3, 1 ∷ 3 ∷ 0 ∷ 0 ∷ []) ∷ [];
      in_flight = (10, codes "abc") ∷ [];
      reassembly = (0, [], [], []) ∷ [];
    })
one_chunk = (refl, refl)

one_chunk_again_then_both : Plays (link 10 3 100 60) (
    E.Open 1 ⇒ R.Opened ∷
    E.Write 1 P.Binary (codes "abcdefg") ⇒ R.Wrote (Some 0) 3 ∷
    E.Send 0 ⇒ R.Sent 0 10 0 2 ∷
    E.Send 0 ⇒ R.Sent 1 12 0 1 ∷
    E.Send 0 ⇒ R.Idle ∷
    E.Resend 11 ⇒ R.Resent 2 ∷
    E.Arrive 2 ⇒ R.New ∷
    E.Arrive 0 ⇒ R.New ∷
    E.Ack 0 ⇒ R.Ack 3 ∷
    []) (record nothing {
      ledger = record { written = 7; pending = 0; in_flight = 7; released = 0 };
      contents =
          DataContents (chunk 10 1 0 P.Binary (codes "abc") true false false ∷ chunk 11 1 0 P.Binary (codes "def") false false false ∷ []) ∷
          DataContents (chunk 12 1 0 P.Binary (codes "g") false true false ∷ []) ∷
          DataContents (chunk 11 1 0 P.Binary (codes "def") false false false ∷ []) ∷
          SackContents 11 0 [] (11 ∷ []) ∷
          [];
      streams = (1, 7, 1 ∷ 7 ∷ 0 ∷ 0 ∷ []) ∷ [];
      in_flight = (10, codes "abc") ∷ (11, codes "def") ∷ (12, codes "g") ∷ [];
      reassembly = (0, (10 ∷ 11 ∷ []) ∷ [], [], []) ∷ [];
    })
one_chunk_again_then_both = (refl, refl)

padding_counts_against_the_limit : Plays (link 10 3 100 51) (
    E.Open 1 ⇒ R.Opened ∷
    E.Write 1 P.Binary (codes "abcd") ⇒ R.Wrote (Some 0) 2 ∷
    E.Send 0 ⇒ R.Sent 0 10 0 1 ∷
    E.Send 0 ⇒ R.Sent 1 11 0 1 ∷
    E.Send 0 ⇒ R.Idle ∷
    []) (record nothing {
      ledger = record { written = 4; pending = 0; in_flight = 4; released = 0 };
      contents =
          DataContents (chunk 10 1 0 P.Binary (codes "abc") true false false ∷ []) ∷
          DataContents (chunk 11 1 0 P.Binary (codes "d") false true false ∷ []) ∷
          [];
      streams = (1, 4, 1 ∷ 4 ∷ 0 ∷ 0 ∷ []) ∷ [];
      in_flight = (10, codes "abc") ∷ (11, codes "d") ∷ [];
      reassembly = (0, [], [], []) ∷ [];
    })
padding_counts_against_the_limit = (refl, refl)

two_chunks_in_a_datagram : Plays (link 10 3 100 60) (
    E.Open 1 ⇒ R.Opened ∷
    E.Write 1 P.Binary (codes "abcdefg") ⇒ R.Wrote (Some 0) 3 ∷
    E.Send 0 ⇒ R.Sent 0 10 0 2 ∷
    E.Send 0 ⇒ R.Sent 1 12 0 1 ∷
    E.Send 0 ⇒ R.Idle ∷
    E.Arrive 0 ⇒ R.New ∷
    E.Arrive 0 ⇒ R.Repeat ∷
    E.Ack 0 ⇒ R.Ack 2 ∷
    E.Arrive 1 ⇒ R.New ∷
    hands 1 P.Binary (codes "abc" ∷ codes "def" ∷ codes "g" ∷ []) ∷
    []) (record nothing {
      ledger = record { written = 7; pending = 0; in_flight = 7; released = 0 };
      contents =
          DataContents (chunk 10 1 0 P.Binary (codes "abc") true false false ∷ chunk 11 1 0 P.Binary (codes "def") false false false ∷ []) ∷
          DataContents (chunk 12 1 0 P.Binary (codes "g") false true false ∷ []) ∷
          SackContents 11 0 [] (10 ∷ 11 ∷ []) ∷
          [];
      streams = (1, 7, 1 ∷ 7 ∷ 1 ∷ 7 ∷ []) ∷ [];
      in_flight = (10, codes "abc") ∷ (11, codes "def") ∷ (12, codes "g") ∷ [];
      reassembly = (1, [], [], []) ∷ [];
    })
two_chunks_in_a_datagram = (refl, refl)
