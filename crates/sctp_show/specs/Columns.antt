-- How long frames are, and lines of columns.
use Rattle.std.specs.Prelude.{ℕ, ◌+◌, ◌-◌, Bool, true, false, ◌==◌, if◌then◌else◌, List, [], ◌++◌, length, replicate, codes, decimal, Option, Some, None}
use Rattle.std.specs.Prelude.{Result, Ok, Err}
use Rattle.std.specs.Net.Text.{ip_text}
use Rattle.std.specs.declared.net.ip_addr.IpAddr.{IpAddr}
use Rattle.sctp_capture.specs.declared.record.Direction.{Direction}
use Rattle.sctp_capture.specs.declared.record.Direction.TheVariants as directions
use Rattle.sctp_capture.specs.declared.record.Fault.{Fault}
use Rattle.sctp_capture.specs.Fault.{fault_text}
use Rattle.sctp_show.specs.declared.page.Form.{Form}
use Rattle.sctp_show.specs.declared.page.Form.TheVariants.{Text, Json}
use Rattle.sctp_show.specs.declared.columns.Layout.{Layout}
use Rattle.sctp_show.specs.declared.columns.Layout.TheVariants.{Lines, Blocks, Columns}
use Rattle.sctp_show.specs.declared.columns.Size.{Size}
use Rattle.sctp_show.specs.declared.mark.Mark.{Mark}
use Rattle.sctp_show.specs.declared.mark.Mark.TheVariants.{Plain}
use Rattle.sctp_show.specs.Mark.{marked}

-- records are printed as text, in columns
abbrev pub in_columns : Form → Layout → Bool
in_columns Text Columns = true
in_columns Text Lines = false
in_columns Text Blocks = false
in_columns Json layout = false

-- ---- how long a frame is

-- What was captured of a frame, and how long it was, where the capture lost so many bytes. Of an exported PDU (252), as which a line with addresses is
-- read, it is the datagram that counts, of which so many bytes are missing.
abbrev pub size_of : ℕ → List ℕ → ℕ → List ℕ → ℕ → Size
size_of link_type frame lost datagram missing =
    if link_type == 252
    then record { captured = length datagram; original = length datagram + missing }
    else record { captured = length frame; original = length frame + lost }

-- what JSON says of it: how much was captured, where that is not all
abbrev pub size_members : Size → List ℕ
size_members s =
    codes ",\"length\":" ++ (decimal s.original
    ++ (if s.captured == s.original then [] else codes ",\"captured\":" ++ decimal s.captured))

-- the line of `-V`
abbrev pub size_line : Size → List ℕ
size_line s =
    codes "    Frame: " ++ (decimal s.original ++ (codes " bytes"
    ++ ((if s.captured == s.original then []
    else codes ", " ++ (decimal s.captured ++ codes " captured")) ++ codes "\n")))

-- ---- cells

-- a text behind as many blanks as it is shorter than the width; a longer text is whole
abbrev pub right_cell : ℕ → List ℕ → List ℕ
right_cell width text = replicate (width - length text) 32 ++ text

-- a text before as many blanks
abbrev pub left_cell : ℕ → List ℕ → List ℕ
left_cell width text = text ++ replicate (width - length text) 32

-- where a packet came from: an address, or what is known without one
abbrev pub source_cell : Option (IpAddr × IpAddr) → Option Direction → List ℕ
source_cell (Some ends) direction = ip_text ends.0
source_cell None None = codes "-"
source_cell None (Some directions.In) = codes "peer"
source_cell None (Some directions.Out) = codes "here"

-- whither it went
abbrev pub destination_cell : Option (IpAddr × IpAddr) → Option Direction → List ℕ
destination_cell (Some ends) direction = ip_text ends.1
destination_cell None None = codes "-"
destination_cell None (Some directions.In) = codes "here"
destination_cell None (Some directions.Out) = codes "peer"

-- how long the frame of a record was of which no packet is shown, where it has a frame
abbrev pub length_cell : Result (List ℕ) Fault → ℕ → List ℕ
length_cell (Ok frame) lost = decimal (length frame + lost)
length_cell (Err fault) lost = codes "-"

-- ---- lines

-- the cells behind the number: time, source, destination, length, and what the packet holds
abbrev pub cells : List ℕ → List ℕ → List ℕ → List ℕ → List ℕ → List ℕ
cells time source destination size info =
    right_cell 12 time ++ (codes " " ++ (left_cell 15 source ++ (codes " "
    ++ (left_cell 15 destination ++ (codes " " ++ (right_cell 6 size ++ (codes " " ++ info)))))))

-- a line: a number, and cells as they stand out
abbrev pub row : List ℕ → Mark → List ℕ → List ℕ
row number mark shown = right_cell 6 number ++ (codes " " ++ (marked mark shown ++ codes "\n"))

-- the line above the others
abbrev pub heading : Form → Layout → List ℕ
heading form layout =
    if in_columns form layout
    then row (codes "No.") Plain (cells (codes "Time") (codes "Source") (codes "Destination")
    (codes "Length") (codes "Info"))
    else []

-- the line of a packet that went between these ends, or in this direction, and stands out so; its time is shown so, and what it holds
abbrev pub packet_row : ℕ → Mark → List ℕ → Option (IpAddr × IpAddr) → Option Direction → Size
    → List ℕ → List ℕ
packet_row number mark time ends direction size info =
    row (decimal number) mark
    (cells time (source_cell ends direction) (destination_cell ends direction)
    (decimal size.original) info)

-- why no packet is shown of a record
abbrev pub fault_info : Fault → List ℕ
fault_info fault = codes "not shown: " ++ fault_text fault

-- the line of a record of which no packet is shown, at a time that is shown so
abbrev pub fault_row : ℕ → List ℕ → Result (List ℕ) Fault → ℕ → Fault → List ℕ
fault_row number time frame lost fault =
    row (decimal number) Plain
    (cells time (codes "-") (codes "-") (length_cell frame lost) (fault_info fault))
