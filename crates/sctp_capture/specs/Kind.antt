-- Kinds of files that are known by the number that their first four bytes are.
use Rattle.std.specs.Prelude.{◌≡◌, ℕ, ◌≤◌, List, length, ◌/◌, Bool, ◌==◌, ◌||◌, ◌&&◌, leb, is_some, if◌then◌else◌, Option, Some, None}
use Rattle.sctp_util.specs.Field.{u32_at}
use Rattle.sctp_capture.specs.declared.kind.Kind.{Kind}
use Rattle.sctp_capture.specs.declared.kind.Kind.TheVariants as kind

-- text that begins with U+FEFF: in UTF-16, in either byte order, or in UTF-8
abbrev pub kind_of_text : ℕ → Option Kind
kind_of_text first =
    if first / 65536 == 65279 || first / 65536 == 65534 then Some kind.Utf16
    else if first / 256 == 15711167 then Some kind.ByteOrderMark
    else None

-- the number that a capture begins with, in either byte order, with micro- or nanoseconds: where it is not read as one, its header is cut off
abbrev pub is_magic : ℕ → Bool
is_magic first =
    first == 2712847316 || (first == 3569595041 || (first == 2712812621 || first == 1295823521))

-- gzip by its first two bytes alone, text with a mark by two or three, bzip2 with its digit from 1 to 9, each other kind by all four
abbrev pub kind_by : ℕ → Option Kind
kind_by first =
    if first / 65536 == 8075 then Some kind.Gzip
    else if is_some (kind_of_text first) then kind_of_text first
    else if first == 682962941 then Some kind.Zstandard
    else if first == 69356824 then Some kind.Lz4
    else if first == 1347093252 then Some kind.Zip
    else if first == 4248271448 then Some kind.Xz
    else if leb 1113221169 first && leb first 1113221177 then Some kind.Bzip2
    else if first == 2303741511 then Some kind.Png
    else if first == 2135247942 then Some kind.Elf
    else if first == 1936617327 then Some kind.Snoop
    else if first == 1651798894 then Some kind.Btsnoop
    else if first == 1381258067 || first == 1196245589 then Some kind.NetworkMonitor
    else if first == 2712849716 || first == 885895841 then Some kind.ModifiedPcap
    else if is_magic first then Some kind.CutPcap
    else if first == 512 then Some kind.K12
    else if first == 724380973 then Some kind.K12Text
    else if first == 1414681422 then Some kind.Sniffer
    else if first == 1447251968 || first == 1480806400 then Some kind.NetXray
    else if first == 1768977522 then Some kind.Iptrace
    else None

-- the bytes begin as no file of such a kind does
abbrev pub IsNoOther : List ℕ → Type 0
IsNoOther bytes = 4 ≤ length bytes → kind_by (u32_at bytes 0) ≡ None
