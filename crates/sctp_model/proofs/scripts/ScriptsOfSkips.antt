-- Scripts computed by the definitions: 8 scripts, 114 steps.
use Rattle.sctp_model.proofs.Names.{true, false, List, [], ◌∷◌, ◌++◌, Some, refl, codes, Contents, DataContents, ForwardContents, SackContents}
use Rattle.sctp_model.specs.declared.event.Event.TheVariants as E
use Rattle.sctp_model.specs.Reply as R
use Rattle.sctp_data.specs.declared.chunk.chunk_payload_data.PayloadProtocolIdentifier.TheVariants as P
use Rattle.sctp_data.specs.declared.chunk.chunk_payload_data.ReliabilityType.TheVariants as T
use Rattle.sctp_model.proofs.scripts.Play.{link, chunk, Step, ◌⇒◌, skips, hands, Plays, nothing}

-- three ordered messages of one fragment each are written on stream 1 and sent
abbrev three_sent : List Step
three_sent =
    E.Open 1 ⇒ R.Opened ∷
    E.Write 1 P.Binary (codes "aaa") ⇒ R.Wrote (Some 0) 1 ∷
    E.Write 1 P.Binary (codes "bbb") ⇒ R.Wrote (Some 1) 1 ∷
    E.Write 1 P.Binary (codes "ccc") ⇒ R.Wrote (Some 2) 1 ∷
    E.Send 0 ⇒ R.Sent 0 10 0 1 ∷
    E.Send 0 ⇒ R.Sent 1 11 1 1 ∷
    E.Send 0 ⇒ R.Sent 2 12 2 1 ∷
    []

abbrev three_chunks : List Contents
three_chunks =
    DataContents (chunk 10 1 0 P.Binary (codes "aaa") true true false ∷ []) ∷
    DataContents (chunk 11 1 1 P.Binary (codes "bbb") true true false ∷ []) ∷
    DataContents (chunk 12 1 2 P.Binary (codes "ccc") true true false ∷ []) ∷
    []

-- an ordered message and an unordered one of two fragments are sent
abbrev two_kinds_sent : List Step
two_kinds_sent =
    E.Open 1 ⇒ R.Opened ∷
    E.Write 1 P.Binary (codes "aaa") ⇒ R.Wrote (Some 0) 1 ∷
    E.Send 0 ⇒ R.Sent 0 10 0 1 ∷
    E.Mode 1 true T.Reliable 0 ⇒ R.«Set» ∷
    E.Write 1 P.Binary (codes "bbbccc") ⇒ R.Wrote (Some 1) 2 ∷
    E.Send 0 ⇒ R.Sent 1 11 1 1 ∷
    E.Send 0 ⇒ R.Sent 2 12 1 1 ∷
    []

abbrev two_kinds : List Contents
two_kinds =
    DataContents (chunk 10 1 0 P.Binary (codes "aaa") true true false ∷ []) ∷
    DataContents (chunk 11 1 1 P.Binary (codes "bbb") true false true ∷ []) ∷
    DataContents (chunk 12 1 1 P.Binary (codes "ccc") false true true ∷ []) ∷
    []

later_skip_first : Plays (link 10 3 100 0) (
    three_sent ++ (
    E.Abandon 10 ⇒ R.Released 1 3 ∷
    E.Abandon 11 ⇒ R.Released 1 3 ∷
    skips 10 (0 ∷ []) 3 ∷
    skips 11 (0 ∷ 1 ∷ []) 4 ∷
    E.Arrive 4 ⇒ R.Skipped ∷
    E.Arrive 3 ⇒ R.Stale ∷
    E.Arrive 2 ⇒ R.New ∷
    hands 1 P.Binary (codes "ccc" ∷ []) ∷
    [])) (record nothing {
      ledger = record { written = 9; pending = 0; in_flight = 3; released = 6 };
      contents = three_chunks ++ (
          ForwardContents 10 ((1, 0) ∷ []) ∷
          ForwardContents 11 ((1, 0) ∷ (1, 1) ∷ []) ∷
          []);
      streams = (1, 3, 3 ∷ 9 ∷ 1 ∷ 3 ∷ []) ∷ [];
      in_flight = (10, []) ∷ (11, []) ∷ (12, codes "ccc") ∷ [];
      reassembly = (3, [], [], []) ∷ [];
    })
later_skip_first = (refl, refl)

later_skip_names_an_earlier_message : Plays (link 10 3 100 0) (
    three_sent ++ (
    skips 11 (1 ∷ []) 3 ∷
    skips 12 (0 ∷ []) 4 ∷
    E.Arrive 3 ⇒ R.Skipped ∷
    E.Arrive 4 ⇒ R.Skipped ∷
    E.Ack 0 ⇒ R.Ack 5 ∷
    E.Write 1 P.Binary (codes "d") ⇒ R.Wrote (Some 3) 1 ∷
    E.Send 0 ⇒ R.Sent 6 13 3 1 ∷
    E.Arrive 6 ⇒ R.New ∷
    E.Read 1 ⇒ R.Nothing ∷
    [])) (record nothing {
      ledger = record { written = 10; pending = 0; in_flight = 10; released = 0 };
      contents = three_chunks ++ (
          ForwardContents 11 ((1, 1) ∷ []) ∷
          ForwardContents 12 ((1, 0) ∷ []) ∷
          SackContents 12 0 [] [] ∷
          DataContents (chunk 13 1 3 P.Binary (codes "d") true true false ∷ []) ∷
          []);
      streams = (1, 10, 4 ∷ 10 ∷ 0 ∷ 0 ∷ []) ∷ [];
      in_flight = (10, codes "aaa") ∷ (11, codes "bbb") ∷ (12, codes "ccc") ∷ (13, codes "d") ∷ [];
      reassembly = (2, (13 ∷ []) ∷ [], [], []) ∷ [];
    })
later_skip_names_an_earlier_message = (refl, refl)

skip_into_an_unordered_message : Plays (link 10 3 100 0) (
    two_kinds_sent ++ (
    E.Arrive 1 ⇒ R.New ∷
    skips 11 [] 3 ∷
    E.Arrive 3 ⇒ R.Skipped ∷
    E.Arrive 2 ⇒ R.New ∷
    E.Read 1 ⇒ R.Nothing ∷
    [])) (record nothing {
      ledger = record { written = 9; pending = 0; in_flight = 9; released = 0 };
      contents = two_kinds ++ (ForwardContents 11 [] ∷ []);
      streams = (1, 9, 2 ∷ 9 ∷ 0 ∷ 0 ∷ []) ∷ [];
      in_flight = (10, codes "aaa") ∷ (11, codes "bbb") ∷ (12, codes "ccc") ∷ [];
      reassembly = (0, [], [], 12 ∷ []) ∷ [];
    })
skip_into_an_unordered_message = (refl, refl)

skip_keeps_a_complete_message : Plays (link 10 3 100 0) (
    three_sent ++ (
    E.Arrive 1 ⇒ R.New ∷
    skips 11 (1 ∷ []) 3 ∷
    E.Arrive 3 ⇒ R.Skipped ∷
    hands 1 P.Binary (codes "bbb" ∷ []) ∷
    E.Arrive 3 ⇒ R.Stale ∷
    [])) (record nothing {
      ledger = record { written = 9; pending = 0; in_flight = 9; released = 0 };
      contents = three_chunks ++ (ForwardContents 11 ((1, 1) ∷ []) ∷ []);
      streams = (1, 9, 3 ∷ 9 ∷ 1 ∷ 3 ∷ []) ∷ [];
      in_flight = (10, codes "aaa") ∷ (11, codes "bbb") ∷ (12, codes "ccc") ∷ [];
      reassembly = (2, [], [], []) ∷ [];
    })
skip_keeps_a_complete_message = (refl, refl)

skip_of_a_lost_message : Plays (link 10 3 100 0) (
    three_sent ++ (
    E.Arrive 1 ⇒ R.New ∷
    E.Abandon 10 ⇒ R.Released 1 3 ∷
    skips 10 (0 ∷ []) 3 ∷
    E.Arrive 3 ⇒ R.Skipped ∷
    hands 1 P.Binary (codes "bbb" ∷ []) ∷
    E.Arrive 0 ⇒ R.Repeat ∷
    E.Arrive 2 ⇒ R.New ∷
    hands 1 P.Binary (codes "ccc" ∷ []) ∷
    [])) (record nothing {
      ledger = record { written = 9; pending = 0; in_flight = 6; released = 3 };
      contents = three_chunks ++ (ForwardContents 10 ((1, 0) ∷ []) ∷ []);
      streams = (1, 6, 3 ∷ 9 ∷ 2 ∷ 6 ∷ []) ∷ [];
      in_flight = (10, []) ∷ (11, codes "bbb") ∷ (12, codes "ccc") ∷ [];
      duplicates = 10 ∷ [];
      reassembly = (3, [], [], []) ∷ [];
    })
skip_of_a_lost_message = (refl, refl)

skip_over_a_terminal_chunk : Plays (link 10 3 100 0) (
    E.Open 1 ⇒ R.Opened ∷
    E.Write 1 P.Binary (codes "abcdefg") ⇒ R.Wrote (Some 0) 3 ∷
    E.Send 0 ⇒ R.Sent 0 10 0 1 ∷
    E.Arrive 0 ⇒ R.New ∷
    E.Abandon 10 ⇒ R.Released 1 7 ∷
    E.Write 1 P.Binary (codes "x") ⇒ R.Wrote (Some 1) 1 ∷
    E.Send 0 ⇒ R.Sent 1 12 1 1 ∷
    skips 11 (0 ∷ []) 2 ∷
    E.Arrive 1 ⇒ R.New ∷
    E.Arrive 2 ⇒ R.Skipped ∷
    E.Ack 0 ⇒ R.Ack 3 ∷
    hands 1 P.Binary (codes "x" ∷ []) ∷
    E.Read 1 ⇒ R.Nothing ∷
    E.Acked 3 ⇒ R.Acked 1 ∷
    []) (record nothing {
      ledger = record { written = 8; pending = 0; in_flight = 0; released = 8 };
      contents =
          DataContents (chunk 10 1 0 P.Binary (codes "abc") true false false ∷ []) ∷
          DataContents (chunk 12 1 1 P.Binary (codes "x") true true false ∷ []) ∷
          ForwardContents 11 ((1, 0) ∷ []) ∷
          SackContents 12 0 [] [] ∷
          [];
      streams = (1, 0, 2 ∷ 8 ∷ 1 ∷ 1 ∷ []) ∷ [];
      reassembly = (2, [], [], []) ∷ [];
    })
skip_over_a_terminal_chunk = (refl, refl)

skips_in_order : Plays (link 10 3 100 0) (
    three_sent ++ (
    E.Abandon 10 ⇒ R.Released 1 3 ∷
    E.Abandon 11 ⇒ R.Released 1 3 ∷
    skips 10 (0 ∷ []) 3 ∷
    skips 11 (0 ∷ 1 ∷ []) 4 ∷
    E.Arrive 3 ⇒ R.Skipped ∷
    E.Arrive 4 ⇒ R.Skipped ∷
    E.Arrive 2 ⇒ R.New ∷
    hands 1 P.Binary (codes "ccc" ∷ []) ∷
    [])) (record nothing {
      ledger = record { written = 9; pending = 0; in_flight = 3; released = 6 };
      contents = three_chunks ++ (
          ForwardContents 10 ((1, 0) ∷ []) ∷
          ForwardContents 11 ((1, 0) ∷ (1, 1) ∷ []) ∷
          []);
      streams = (1, 3, 3 ∷ 9 ∷ 1 ∷ 3 ∷ []) ∷ [];
      in_flight = (10, []) ∷ (11, []) ∷ (12, codes "ccc") ∷ [];
      reassembly = (3, [], [], []) ∷ [];
    })
skips_in_order = (refl, refl)

stale_skip_keeps_unassembled_fragments : Plays (link 10 3 100 0) (
    two_kinds_sent ++ (
    E.Arrive 0 ⇒ R.New ∷
    E.Arrive 1 ⇒ R.New ∷
    skips 11 [] 3 ∷
    E.Arrive 3 ⇒ R.Stale ∷
    E.Arrive 2 ⇒ R.New ∷
    hands 1 P.Binary (codes "bbb" ∷ codes "ccc" ∷ []) ∷
    hands 1 P.Binary (codes "aaa" ∷ []) ∷
    E.Read 1 ⇒ R.Nothing ∷
    [])) (record nothing {
      ledger = record { written = 9; pending = 0; in_flight = 9; released = 0 };
      contents = two_kinds ++ (ForwardContents 11 [] ∷ []);
      streams = (1, 9, 2 ∷ 9 ∷ 2 ∷ 9 ∷ []) ∷ [];
      in_flight = (10, codes "aaa") ∷ (11, codes "bbb") ∷ (12, codes "ccc") ∷ [];
      reassembly = (1, [], [], []) ∷ [];
    })
stale_skip_keeps_unassembled_fragments = (refl, refl)
