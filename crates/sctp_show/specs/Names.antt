-- Names of the numbers in SCTP packets.
use Rattle.std.specs.Prelude.{ℕ, ◌==◌, if◌then◌else◌, List, [], codes}

-- of a payload protocol identifier of WebRTC (RFC 8831 8); nothing where it has none
abbrev pub payload_name : ℕ → List ℕ
payload_name identifier =
    if identifier == 50 then codes "DCEP"
    else if identifier == 51 then codes "String"
    else if identifier == 52 then codes "Binary Partial"
    else if identifier == 53 then codes "Binary"
    else if identifier == 54 then codes "String Partial"
    else if identifier == 56 then codes "String Empty"
    else if identifier == 57 then codes "Binary Empty"
    else []

-- what a Re-configuration Response answers (RFC 6525 4.4)
abbrev pub result_name : ℕ → List ℕ
result_name answer =
    if answer == 0 then codes "Success - Nothing to do"
    else if answer == 1 then codes "Success - Performed"
    else if answer == 2 then codes "Denied"
    else if answer == 3 then codes "Error - Wrong SSN"
    else if answer == 4 then codes "Error - Request already in progress"
    else if answer == 5 then codes "Error - Bad Sequence Number"
    else if answer == 6 then codes "In progress"
    else codes "unknown"
