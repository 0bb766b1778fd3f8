-- Scripts computed by the definitions: 5 scripts, 36 steps.
use Rattle.sctp_model.proofs.Names.{true, false, [], ◌∷◌, Some, refl, codes, DataContents, SackContents}
use Rattle.sctp_model.specs.declared.event.Event.TheVariants as E
use Rattle.sctp_model.specs.Reply as R
use Rattle.sctp_data.specs.declared.chunk.chunk_payload_data.PayloadProtocolIdentifier.TheVariants as P
use Rattle.sctp_data.specs.declared.chunk.chunk_payload_data.ReliabilityType.TheVariants as T
use Rattle.sctp_model.specs.declared.event.LinkRefusal.TheVariants as F
use Rattle.sctp_model.proofs.scripts.Play.{link, chunk, ◌⇒◌, ◌⇏◌, Plays, nothing}

abandonment_after_acknowledgement : Plays (link 10 3 100 0) (
    E.Open 1 ⇒ R.Opened ∷
    E.Write 1 P.Binary (codes "abcdef") ⇒ R.Wrote (Some 0) 2 ∷
    E.Send 0 ⇒ R.Sent 0 10 0 1 ∷
    E.Send 0 ⇒ R.Sent 1 11 0 1 ∷
    E.Arrive 1 ⇒ R.New ∷
    E.Ack 0 ⇒ R.Ack 2 ∷
    E.Acked 2 ⇒ R.Acked 3 ∷
    E.Abandon 11 ⇒ R.Released 1 3 ∷
    []) (record nothing {
      ledger = record { written = 6; pending = 0; in_flight = 0; released = 6 };
      contents =
          DataContents (chunk 10 1 0 P.Binary (codes "abc") true false false ∷ []) ∷
          DataContents (chunk 11 1 0 P.Binary (codes "def") false true false ∷ []) ∷
          SackContents 9 0 ((2, 2) ∷ []) [] ∷
          [];
      streams = (1, 0, 1 ∷ 6 ∷ 0 ∷ 0 ∷ []) ∷ [];
      in_flight = (10, []) ∷ (11, []) ∷ [];
      held = 11 ∷ [];
      reassembly = (0, (11 ∷ []) ∷ [], [], []) ∷ [];
    })
abandonment_after_acknowledgement = (refl, refl)

terminal_chunk_after_abandonment : Plays (link 10 3 100 0) (
    E.Open 1 ⇒ R.Opened ∷
    E.Write 1 P.Binary (codes "abcdefg") ⇒ R.Wrote (Some 0) 3 ∷
    E.Send 0 ⇒ R.Sent 0 10 0 1 ∷
    E.Abandon 10 ⇒ R.Released 1 7 ∷
    E.Abandon 10 ⇒ R.Released 1 0 ∷
    E.Resend 10 ⇏ F.NotInFlight ∷
    E.Write 1 P.Binary (codes "x") ⇒ R.Wrote (Some 1) 1 ∷
    E.Send 0 ⇒ R.Sent 1 12 1 1 ∷
    []) (record nothing {
      ledger = record { written = 8; pending = 0; in_flight = 1; released = 7 };
      contents =
          DataContents (chunk 10 1 0 P.Binary (codes "abc") true false false ∷ []) ∷
          DataContents (chunk 12 1 1 P.Binary (codes "x") true true false ∷ []) ∷
          [];
      streams = (1, 1, 2 ∷ 8 ∷ 0 ∷ 0 ∷ []) ∷ [];
      in_flight = (10, []) ∷ (11, []) ∷ (12, codes "x") ∷ [];
      reassembly = (0, [], [], []) ∷ [];
    })
terminal_chunk_after_abandonment = (refl, refl)

no_terminal_chunk_where_all_was_sent : Plays (link 10 3 100 0) (
    E.Open 1 ⇒ R.Opened ∷
    E.Write 1 P.Binary (codes "aaa") ⇒ R.Wrote (Some 0) 1 ∷
    E.Send 0 ⇒ R.Sent 0 10 0 1 ∷
    E.Abandon 10 ⇒ R.Released 1 3 ∷
    E.Write 1 P.Binary (codes "b") ⇒ R.Wrote (Some 1) 1 ∷
    E.Send 0 ⇒ R.Sent 1 11 1 1 ∷
    []) (record nothing {
      ledger = record { written = 4; pending = 0; in_flight = 1; released = 3 };
      contents =
          DataContents (chunk 10 1 0 P.Binary (codes "aaa") true true false ∷ []) ∷
          DataContents (chunk 11 1 1 P.Binary (codes "b") true true false ∷ []) ∷
          [];
      streams = (1, 1, 2 ∷ 4 ∷ 0 ∷ 0 ∷ []) ∷ [];
      in_flight = (10, []) ∷ (11, codes "b") ∷ [];
      reassembly = (0, [], [], []) ∷ [];
    })
no_terminal_chunk_where_all_was_sent = (refl, refl)

no_resend_of_an_abandoned_chunk : Plays (link 10 3 100 0) (
    E.Open 1 ⇒ R.Opened ∷
    E.Write 1 P.Binary (codes "abcdefg") ⇒ R.Wrote (Some 0) 3 ∷
    E.Send 0 ⇒ R.Sent 0 10 0 1 ∷
    E.Abandon 10 ⇒ R.Released 1 7 ∷
    E.Resend 11 ⇏ F.NotInFlight ∷
    E.Abandon 11 ⇒ R.Released 1 0 ∷
    []) (record nothing {
      ledger = record { written = 7; pending = 0; in_flight = 0; released = 7 };
      contents = DataContents (chunk 10 1 0 P.Binary (codes "abc") true false false ∷ []) ∷ [];
      streams = (1, 0, 1 ∷ 7 ∷ 0 ∷ 0 ∷ []) ∷ [];
      in_flight = (10, []) ∷ (11, []) ∷ [];
      reassembly = (0, [], [], []) ∷ [];
    })
no_resend_of_an_abandoned_chunk = (refl, refl)

tail_after_acknowledgement : Plays (link 10 3 100 0) (
    E.Open 1 ⇒ R.Opened ∷
    E.Mode 1 false T.Timed 1 ⇒ R.«Set» ∷
    E.Write 1 P.Binary (codes "abcdefg") ⇒ R.Wrote (Some 0) 3 ∷
    E.Send 0 ⇒ R.Sent 0 10 0 1 ∷
    E.Arrive 0 ⇒ R.New ∷
    E.Ack 0 ⇒ R.Ack 1 ∷
    E.Acked 1 ⇒ R.Acked 3 ∷
    E.Tail 1000000 ⇒ R.Released 1 4 ∷
    []) (record nothing {
      ledger = record { written = 7; pending = 0; in_flight = 0; released = 7 };
      contents =
          DataContents (chunk 10 1 0 P.Binary (codes "abc") true false false ∷ []) ∷
          SackContents 10 0 [] [] ∷
          [];
      streams = (1, 0, 1 ∷ 7 ∷ 0 ∷ 0 ∷ []) ∷ [];
      in_flight = (11, []) ∷ [];
      reassembly = (0, (10 ∷ []) ∷ [], [], []) ∷ [];
    })
tail_after_acknowledgement = (refl, refl)
