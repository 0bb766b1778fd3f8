-- The printed names of chunk types (RFC 4960 3.2, RFC 6525 3.1, RFC 3758 3.2, RFC 8260 2.3.1).
use Rattle.std.specs.Prelude.{ℕ, ◌==◌, if◌then◌else◌, List, [], ◌∷◌, codes, Option, Some, None}
use Rattle.sctp_util.specs.declared.util.ChunkType.{ChunkType}

-- the name that stands beside a number in a table, where there is one
abbrev pub name_in : List (ℕ × List ℕ) → ℕ → Option (List ℕ)
name_in [] n = None
name_in (row ∷ rows) n = if n == row.0 then Some row.1 else name_in rows n

abbrev pub chunk_type_names : List (ℕ × List ℕ)
chunk_type_names =
    (0, codes "DATA")
    ∷ (1, codes "INIT")
    ∷ (2, codes "INIT-ACK")
    ∷ (3, codes "SACK")
    ∷ (4, codes "HEARTBEAT")
    ∷ (5, codes "HEARTBEAT-ACK")
    ∷ (6, codes "ABORT")
    ∷ (7, codes "SHUTDOWN")
    ∷ (8, codes "SHUTDOWN-ACK")
    ∷ (9, codes "ERROR")
    ∷ (10, codes "COOKIE-ECHO")
    ∷ (11, codes "COOKIE-ACK")
    ∷ (13, codes "ECNE")
    ∷ (14, codes "SHUTDOWN-COMPLETE")
    ∷ (130, codes "RECONFIG")
    ∷ (192, codes "FORWARD-TSN")
    ∷ (194, codes "I-FORWARD-TSN")
    ∷ []

-- the fixed name of a chunk type, where it has one
abbrev pub chunk_type_name : ChunkType → Option (List ℕ)
chunk_type_name t = name_in chunk_type_names t.0
