-- What is written for records.
use Rattle.std.specs.Prelude.{◌≡◌, ◌≢◌, ℕ, Bool, ◌+◌, ◌≤◌, ◌<◌, ◌⊎◌, true, false, if◌then◌else◌, List, [], ◌∷◌, ◌++◌, length, drop, codes, decimal, MatchResult}
use Rattle.std.specs.Prelude.{IsSomeAnd, Option, None}
use Rattle.sctp_util.specs.Walk.{Walks}
use Rattle.sctp_packets.specs.Packet.{after}
use Rattle.sctp_dissect.specs.declared.dissection.Dissection.{Dissection}
use Rattle.sctp_dissect.specs.Dissection.{ReadsHeader, Shows, Stops, IsShort}
use Rattle.sctp_capture.specs.declared.record.Fault.{Fault}
use Rattle.sctp_capture.specs.declared.record.Record.{Record}
use Rattle.std.specs.declared.net.ip_addr.IpAddr.{IpAddr}
use Rattle.sctp_capture.specs.Fault.{fault_text}
use Rattle.sctp_capture.specs.Exported.{IsHeld, AreHeldEnds}
use Rattle.sctp_show.specs.declared.page.Form.{Form}
use Rattle.sctp_show.specs.declared.page.Form.TheVariants.{Text, Json}
use Rattle.sctp_show.specs.declared.text.Options.{Options}
use Rattle.sctp_show.specs.Sum.{sum_of, sum_for, is_wrong}
use Rattle.sctp_show.specs.Cut.{WithCut}
use Rattle.sctp_show.specs.Choice.{passes, asks_nothing}
use Rattle.sctp_show.specs.Scene.{scene_of}
use Rattle.sctp_show.specs.Columns as columns
use Rattle.sctp_show.specs.declared.columns.Size.{Size}
use Rattle.sctp_show.specs.declared.mark.Mark.{Mark}
use Rattle.sctp_capture.specs.declared.record.Direction.{Direction}
use Rattle.sctp_capture.specs.declared.record.Time.{Time}

-- a record's number, and what it shows; in JSON how long its frame is, too
abbrev pub numbered_text : Form → ℕ → Size → List ℕ → List ℕ
numbered_text Text number size shown = decimal number ++ (codes " " ++ shown)
numbered_text Json number size shown =
    codes "{\"record\":" ++ (decimal number ++ (columns.size_members size ++ shown))

-- a record of which no packet is shown, and why
abbrev pub refused_text : Form → ℕ → Fault → List ℕ
refused_text Text number fault =
    decimal number ++ (codes " not shown: " ++ (fault_text fault ++ codes "\n"))
refused_text Json number fault =
    codes "{\"record\":" ++ (decimal number
    ++ (codes ",\"not_shown\":\"" ++ (fault_text fault ++ codes "\"}\n")))

-- the same, but nothing where something is asked for
abbrev pub fault_line : Options → ℕ → Fault → List ℕ
fault_line o number fault =
    if asks_nothing o.filter then refused_text o.form number fault else []

-- the same of a record, at a time that is shown somehow, where it is printed in columns
pub record IsFaultText (o : Options) (number : ℕ) (r : Record) (fault : Fault) (text : List ℕ)
    : Type 0 where
  pub lines : columns.in_columns o.form o.layout ≡ false → text ≡ fault_line o number fault
  pub columns : columns.in_columns o.form o.layout ≡ true → asks_nothing o.filter ≡ true
      → (time : List ℕ) × (text ≡ columns.fault_row number time r.frame r.lost fault)
  pub hidden : asks_nothing o.filter ≡ false → text ≡ []

-- ---- a record that has a frame

-- the datagram in a frame whose capture lost so many bytes: all of it, or what an IP packet carries, of which so many bytes are missing
pub record Holds (link_type port : ℕ) (frame : List ℕ) (lost : ℕ) (datagram : List ℕ)
    (missing : ℕ) : Type 0 where
  pub alone : link_type ≡ 248 → (datagram ≡ frame) × (missing ≡ lost)
  pub carried : link_type ≢ 248 → IsHeld link_type port frame lost datagram missing

-- and the addresses between which it went, if a header below it says them
pub record AreEndsIn (link_type : ℕ) (frame : List ℕ) (lost : ℕ)
    (ends : Option (IpAddr × IpAddr)) : Type 0 where
  pub alone : link_type ≡ 248 → ends ≡ None
  pub carried : link_type ≢ 248 → AreHeldEnds link_type frame lost ends

-- what a datagram shows
pub record IsSeen (sum : List ℕ → ℕ) (datagram : List ℕ) (d : Dissection) : Type 0 where
  pub short : length datagram < 12 → IsShort datagram d
  pub header : 12 ≤ length datagram → IsSomeAnd d.header (ReadsHeader sum datagram)
  pub items : 12 ≤ length datagram → Walks Shows after (drop 12 datagram) d.items.items d.rest
  pub fault : 12 ≤ length datagram → Stops d.fault d.rest

-- what a datagram shows of which so many bytes are missing, with the chunk that ends among them
pub record IsShown (sum : List ℕ → ℕ) (datagram : List ℕ) (missing : ℕ) (d : Dissection) : Type 0
  where
    pub walked : Dissection
    pub is_seen : IsSeen sum datagram walked
    pub cut : WithCut missing walked d

-- A packet that is shown has its number, and what it shows. In columns that are a time, which is shown somehow, its ends, how long its frame is, and
-- what it holds.
pub record IsShownText (o : Options) (number : ℕ) (direction : Option Direction) (size : Size)
    (ends : Option (IpAddr × IpAddr)) (text : List ℕ) : Type 0 where
  pub lines : columns.in_columns o.form o.layout ≡ false
      → (shown : List ℕ) × (text ≡ numbered_text o.form number size shown)
  pub columns : columns.in_columns o.form o.layout ≡ true
      → (mark : Mark) × (time : List ℕ) × (info : List ℕ)
      × (text ≡ columns.packet_row number mark time ends direction size info)

-- A packet that the filter lets pass is shown. Of another one nothing is written.
-- No checksum is computed where bytes are missing. Whether the receiver accepts a checksum of zero, packets before this one say, and records before it
-- when the first one was captured.
pub record IsPacketText (o : Options) (number : ℕ) (r : Record) (size : Size) (datagram : List ℕ)
    (missing : ℕ) (ends : Option (IpAddr × IpAddr)) (text : List ℕ) : Type 0 where
  pub seen : Dissection
  pub is_shown : IsShown (sum_of (sum_for o.sum missing)) datagram missing seen
  pub accepts_zero : Bool
  pub start : Option Time
  pub shown : passes o.filter (scene_of missing
      (is_wrong (sum_for o.sum missing) accepts_zero seen.header) ends start r.time) seen ≡ true
      → IsShownText o number r.direction size ends text
  pub hidden : passes o.filter (scene_of missing
      (is_wrong (sum_for o.sum missing) accepts_zero seen.header) ends start r.time) seen ≡ false
      → text ≡ []

-- the text of a record with a frame: that of the packet in it, or why there is none
abbrev pub IsFrameText : Options → ℕ → Record → List ℕ → List ℕ → Type 0
IsFrameText o number r frame text =
    ((datagram : List ℕ) × (missing : ℕ) × Holds r.link_type o.port frame r.lost datagram missing
    × ((ends : Option (IpAddr × IpAddr)) × AreEndsIn r.link_type frame r.lost ends
    × IsPacketText o number r (columns.size_of r.link_type frame r.lost datagram missing)
    datagram missing ends text))
    ⊎ (((datagram : List ℕ) → (missing : ℕ)
    → Holds r.link_type o.port frame r.lost datagram missing → ⊥)
    × ((fault : Fault) × IsFaultText o number r fault text))

-- ---- records

-- the text of a record
abbrev pub IsText : Options → ℕ → Record → List ℕ → Type 0
IsText o number r text =
    MatchResult r.frame (λ frame. IsFrameText o number r frame text)
    (λ fault. IsFaultText o number r fault text)

-- the texts of the records, in order, whose first has this number
abbrev pub AreTexts : Options → ℕ → List Record → List (List ℕ) → Type 0
AreTexts o number [] [] = Unit {0}
AreTexts o number (r ∷ rs) (t ∷ ts) = IsText o number r t × AreTexts o (number + 1) rs ts
AreTexts o number _ _ = ⊥

-- a record of which something is written is shown
abbrev pub shown_by : List ℕ → ℕ
shown_by [] = 0
shown_by (x ∷ xs) = 1

abbrev pub shown_in : List (List ℕ) → ℕ
shown_in [] = 0
shown_in (t ∷ ts) = shown_by t + shown_in ts
