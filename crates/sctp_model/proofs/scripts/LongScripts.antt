-- Scripts computed by the definitions: 2 scripts, 64 steps.
use Rattle.sctp_model.proofs.Names.{true, false, [], ◌∷◌, Some, refl, codes, DataContents, ForwardContents, SackContents}
use Rattle.sctp_model.specs.declared.event.Event.TheVariants as E
use Rattle.sctp_model.specs.Reply as R
use Rattle.sctp_data.specs.declared.chunk.chunk_payload_data.PayloadProtocolIdentifier.TheVariants as P
use Rattle.sctp_data.specs.declared.chunk.chunk_payload_data.ReliabilityType.TheVariants as T
use Rattle.sctp_model.specs.declared.event.LinkRefusal.TheVariants as F
use Rattle.sctp_model.proofs.scripts.Play.{link, chunk, ◌⇒◌, ◌⇏◌, skips, hands, Plays, nothing}

long_script : Plays (link 4294967290 3 100 0) (
    E.Open 1 ⇒ R.Opened ∷
    E.Mode 1 false T.Timed 5 ⇒ R.«Set» ∷
    E.Write 1 P.Binary (codes "abcdef") ⇒ R.Wrote (Some 0) 2 ∷
    E.Mode 1 true T.Reliable 0 ⇒ R.«Set» ∷
    E.Write 1 P.String (codes "xxxyy") ⇒ R.Wrote (Some 1) 2 ∷
    E.Start 0 ⇒ R.Started ∷
    E.Send 0 ⇒ R.Sent 0 4294967290 1 1 ∷
    E.Send 0 ⇒ R.Sent 1 4294967291 1 1 ∷
    E.Send 0 ⇒ R.Sent 2 4294967292 0 1 ∷
    E.Arrive 1 ⇒ R.New ∷
    E.Resend 4294967290 ⇒ R.Resent 3 ∷
    E.Arrive 3 ⇒ R.New ∷
    E.Arrive 0 ⇒ R.Repeat ∷
    E.Ack 0 ⇒ R.Ack 4 ∷
    E.Acked 4 ⇒ R.Acked 5 ∷
    hands 1 P.String (codes "xxx" ∷ codes "yy" ∷ []) ∷
    E.Tail 5000000 ⇒ R.Released 1 6 ∷
    E.Mode 1 false T.Timed 1 ⇒ R.«Set» ∷
    E.Write 1 P.Binary (codes "a") ⇒ R.Wrote (Some 2) 1 ∷
    E.Write 1 P.Binary (codes "b") ⇒ R.Wrote (Some 3) 1 ∷
    E.Start 5000000 ⇒ R.Started ∷
    E.Expire 6000000 ⇒ R.Expired 1 1 ∷
    E.Send 6000000 ⇒ R.Sent 5 4294967294 1 1 ∷
    E.Late 6000000 ⇒ R.Late 1 1 ∷
    skips 4294967294 (0 ∷ 3 ∷ []) 6 ∷
    E.Arrive 6 ⇒ R.Skipped ∷
    E.Arrive 6 ⇒ R.Stale ∷
    E.Arrive 2 ⇒ R.Repeat ∷
    E.Abandon 4294967294 ⇒ R.Released 1 0 ∷
    E.Read 1 ⇒ R.Nothing ∷
    E.Ack 0 ⇒ R.Ack 7 ∷
    E.Acked 7 ⇒ R.Acked 0 ∷
    []) (record nothing {
      ledger = record { written = 13; pending = 0; in_flight = 0; released = 13 };
      contents =
          DataContents (chunk 4294967290 1 1 P.String (codes "xxx") true false true ∷ []) ∷
          DataContents (chunk 4294967291 1 1 P.String (codes "yy") false true true ∷ []) ∷
          DataContents (chunk 4294967292 1 0 P.Binary (codes "abc") true false false ∷ []) ∷
          DataContents (chunk 4294967290 1 1 P.String (codes "xxx") true false true ∷ []) ∷
          SackContents 4294967291 0 [] (4294967290 ∷ []) ∷
          DataContents (chunk 4294967294 1 1 P.Binary (codes "b") true true false ∷ []) ∷
          ForwardContents 4294967294 ((1, 0) ∷ (1, 1) ∷ []) ∷
          SackContents 4294967294 0 [] (4294967292 ∷ []) ∷
          [];
      streams = (1, 0, 4 ∷ 13 ∷ 1 ∷ 5 ∷ []) ∷ [];
      reassembly = (2, [], [], []) ∷ [];
    })
long_script = (refl, refl)

long_script_with_limit : Plays (link 4294967290 3 100 60) (
    E.Open 1 ⇒ R.Opened ∷
    E.Mode 1 false T.Timed 5 ⇒ R.«Set» ∷
    E.Write 1 P.Binary (codes "abcdef") ⇒ R.Wrote (Some 0) 2 ∷
    E.Mode 1 true T.Reliable 0 ⇒ R.«Set» ∷
    E.Write 1 P.String (codes "xxxyy") ⇒ R.Wrote (Some 1) 2 ∷
    E.Start 0 ⇒ R.Started ∷
    E.Send 0 ⇒ R.Sent 0 4294967290 1 2 ∷
    E.Send 0 ⇒ R.Sent 1 4294967292 0 2 ∷
    E.Send 0 ⇒ R.Idle ∷
    E.Arrive 1 ⇒ R.New ∷
    E.Resend 4294967290 ⇒ R.Resent 2 ∷
    E.Arrive 3 ⇏ F.NoSuchDatagram ∷
    E.Arrive 0 ⇒ R.New ∷
    E.Ack 0 ⇒ R.Ack 3 ∷
    E.Acked 4 ⇏ F.NoSuchDatagram ∷
    hands 1 P.String (codes "xxx" ∷ codes "yy" ∷ []) ∷
    E.Tail 5000000 ⇒ R.Idle ∷
    E.Mode 1 false T.Timed 1 ⇒ R.«Set» ∷
    E.Write 1 P.Binary (codes "a") ⇒ R.Wrote (Some 2) 1 ∷
    E.Write 1 P.Binary (codes "b") ⇒ R.Wrote (Some 3) 1 ∷
    E.Start 5000000 ⇒ R.Started ∷
    E.Expire 6000000 ⇒ R.Expired 1 1 ∷
    E.Send 6000000 ⇒ R.Sent 4 4294967294 1 1 ∷
    E.Late 6000000 ⇒ R.Late 3 7 ∷
    skips 4294967294 (0 ∷ 3 ∷ []) 5 ∷
    E.Arrive 6 ⇏ F.NoSuchDatagram ∷
    E.Arrive 6 ⇏ F.NoSuchDatagram ∷
    E.Arrive 2 ⇒ R.Repeat ∷
    E.Abandon 4294967294 ⇒ R.Released 1 0 ∷
    hands 1 P.Binary (codes "abc" ∷ codes "def" ∷ []) ∷
    E.Ack 0 ⇒ R.Ack 6 ∷
    E.Acked 7 ⇏ F.NoSuchDatagram ∷
    []) (record nothing {
      ledger = record { written = 13; pending = 0; in_flight = 5; released = 8 };
      contents =
          DataContents (chunk 4294967290 1 1 P.String (codes "xxx") true false true ∷ chunk 4294967291 1 1 P.String (codes "yy") false true true ∷ []) ∷
          DataContents (chunk 4294967292 1 0 P.Binary (codes "abc") true false false ∷ chunk 4294967293 1 0 P.Binary (codes "def") false true false ∷ []) ∷
          DataContents (chunk 4294967290 1 1 P.String (codes "xxx") true false true ∷ []) ∷
          SackContents 4294967293 0 [] [] ∷
          DataContents (chunk 4294967294 1 1 P.Binary (codes "b") true true false ∷ []) ∷
          ForwardContents 4294967294 ((1, 0) ∷ (1, 1) ∷ []) ∷
          SackContents 4294967293 0 [] (4294967290 ∷ []) ∷
          [];
      streams = (1, 5, 4 ∷ 13 ∷ 2 ∷ 11 ∷ []) ∷ [];
      in_flight =
          (4294967290, codes "xxx") ∷
          (4294967291, codes "yy") ∷
          (4294967292, []) ∷
          (4294967293, []) ∷
          (4294967294, []) ∷
          [];
      reassembly = (1, [], [], []) ∷ [];
    })
long_script_with_limit = (refl, refl)
