-- The blocks of a capture in the newer format (pcapng), by its bytes.
use Rattle.std.specs.Prelude.{◌≡◌, ◌≢◌, ℕ, ◌+◌, ◌-◌, ◌*◌, ◌/◌, ◌%◌, ◌<◌, ◌≤◌, ◌⊎◌, Bool, true, false, ◌==◌, ltb, leb, not, min, if◌then◌else◌, List, [], ◌∷◌}
use Rattle.std.specs.Prelude.{◌++◌}
use Rattle.std.specs.Prelude.{length, drop, take, slice_get, slice_range, Option, Some, None, Ok, Err, IsSomeAnd}
use Rattle.sctp_util.specs.Field.{u32_at, u32_le_at}
use Rattle.sctp_capture.specs.declared.record.Order.{Order}
use Rattle.sctp_capture.specs.declared.record.Order.TheVariants.{Big, Little}
use Rattle.sctp_capture.specs.declared.record.Time.{Time}
use Rattle.sctp_capture.specs.declared.record.Fault.{Fault}
use Rattle.sctp_capture.specs.declared.record.Fault.TheVariants.{CutOff, TooLong, BadBlock, NoInterface}
use Rattle.sctp_capture.specs.declared.record.Record.{Record}
use Rattle.sctp_capture.specs.declared.blocks.Interface.{Interface}
use Rattle.sctp_capture.specs.declared.blocks.Section.{Section}
use Rattle.sctp_capture.specs.declared.blocks.BlockHead.{BlockHead}
use Rattle.sctp_capture.specs.Record.{number_at}
use Rattle.sctp_capture.specs.Options.{first_half, padded, direction_in}

-- what is known of the section that is read: the order of its numbers, its interfaces, and whether the next block cannot be found
pub record Known : Type 0 where
  pub order : Order
  pub interfaces : List Interface
  pub is_lost : Bool

abbrev pub known_of : Section → Known
known_of s = record { order = s.order; interfaces = s.interfaces.items; is_lost = s.is_lost }

-- before the first section
abbrev pub IsBegun : Known → Type 0
IsBegun k = (k.interfaces ≡ []) × (k.is_lost ≡ false)

-- ---- the head of a block

-- a section begins
abbrev pub IsBlocks : List ℕ → Type 0
IsBlocks bytes = (4 ≤ length bytes) × (u32_at bytes 0 ≡ 168627466)

-- the order of a block's numbers: a section says its own by its third number, and may say none
abbrev pub order_in : Order → List ℕ → Option Order
order_in order bytes =
    if u32_at bytes 0 == 168627466
    then (if u32_at bytes 8 == 439041101 then Some Big else if u32_le_at bytes 8 == 439041101
    then Some Little else None)
    else Some order

-- The bytes begin with the head of a block: its type, and its length, which is twelve bytes at least and a multiple of four.
pub record IsBlockHead (before : Order) (bytes : List ℕ) (h : BlockHead) : Type 0 where
  pub long : 12 ≤ length bytes
  pub order : order_in before bytes ≡ Some h.order
  pub typ : h.typ ≡ number_at h.order bytes 0
  pub declares : h.length ≡ number_at h.order bytes 4
  pub least : 12 ≤ h.length
  pub fours : h.length % 4 ≡ 0

-- ---- what a block says

-- The interface that a block describes. Of its unit of time nothing is said here.
pub record IsInterface (order : Order) (block : List ℕ) (i : Interface) : Type 0 where
  pub short : length block < 20 → i.link_type ≡ 65535
  pub link_type : 20 ≤ length block → i.link_type ≡ first_half order (number_at order block 8)
  pub limit : 20 ≤ length block → i.limit ≡ number_at order block 12

-- the part of a second that is left, in microseconds where those are the units, and else in nanoseconds
abbrev pub fraction_of : ℕ → ℕ → ℕ
fraction_of units ticks =
    if units == 1000000 then ticks % units
    else if leb units 1000000000 then (ticks % units) * 1000000000 / units
    else (ticks % units) / (units / 1000000000)

-- when so many units had passed, of which so many make a second
abbrev pub time_of : ℕ → ℕ → Option Time
time_of units ticks =
    if units == 0 then None
    else Some (record {
      seconds = ticks / units;
      fraction = fraction_of units ticks;
      nanoseconds = not (units == 1000000);
    })

-- the interface of a packet: the older of two blocks has its number in two bytes
abbrev pub interface_number : BlockHead → List ℕ → ℕ
interface_number h block =
    if h.typ == 2 then first_half h.order (number_at h.order block 8) else number_at h.order block 8

abbrev pub ticks_at : Order → List ℕ → ℕ
ticks_at order block = number_at order block 12 * 4294967296 + number_at order block 16

-- A packet with an interface, a time, and lengths of its own: the captured one, and the one that it had. Its flags may say whether it came in. They are
-- an option behind the frame.
pub record IsEnhanced (interfaces : List Interface) (h : BlockHead) (block : List ℕ)
    (r : Record) : Type 0 where
  pub refused : (fault : Fault) → r.frame ≡ Err fault → r.direction ≡ None
  pub short : length block < 32 → r.frame ≡ Err BadBlock
  pub unknown : 32 ≤ length block → length interfaces ≤ interface_number h block → r.frame
      ≡ Err NoInterface
  pub cut : 32 ≤ length block → interface_number h block < length interfaces → length block
      < number_at h.order block 20 + 32 → r.frame ≡ Err BadBlock
  pub whole : (i : Interface) → slice_get interfaces (interface_number h block) ≡ Some i
      → number_at h.order block 20 + 32 ≤ length block
      → (r.time ≡ time_of i.units (ticks_at h.order block)) × (r.link_type ≡ i.link_type)
      × (r.frame ≡ Ok (slice_range block 28 (28 + number_at h.order block 20)))
      × (r.lost ≡ number_at h.order block 24 - number_at h.order block 20)
      × (r.direction ≡ direction_in h.order block (28 + padded (number_at h.order block 20)))

-- how many bytes there are of the frame in a block that says only how long it was
abbrev pub simple_length : Order → Interface → List ℕ → ℕ → ℕ
simple_length order i block room =
    if i.limit == 0 then min (number_at order block 8) room
    else min (min (number_at order block 8) room) i.limit

-- a packet of the first interface, with no time
pub record IsSimple (interfaces : List Interface) (order : Order) (block : List ℕ)
    (r : Record) : Type 0 where
  pub direction : r.direction ≡ None
  pub short : length block < 16 → r.frame ≡ Err BadBlock
  pub unknown : 16 ≤ length block → interfaces ≡ [] → r.frame ≡ Err NoInterface
  pub whole : (i : Interface) (room : ℕ) → slice_get interfaces 0 ≡ Some i → room + 16
      ≡ length block
      → (r.link_type ≡ i.link_type) × (r.frame
      ≡ Ok (slice_range block 12 (12 + simple_length order i block room)))
      × (r.lost ≡ number_at order block 8 - simple_length order i block room)

-- the record that the block of a packet is
pub record IsPacket (interfaces : List Interface) (h : BlockHead) (block : List ℕ)
    (r : Record) : Type 0 where
  pub simple : h.typ ≡ 3 → IsSimple interfaces h.order block r
  pub enhanced : h.typ ≢ 3 → IsEnhanced interfaces h block r

-- ---- what a block gives

-- interfaces and packets are read
abbrev pub IsRead : ℕ → Type 0
IsRead typ = (typ ≡ 1) ⊎ ((typ ≡ 2) ⊎ ((typ ≡ 3) ⊎ (typ ≡ 6)))

abbrev pub IsRefused : Fault → Option Record → Type 0
IsRefused fault r = IsSomeAnd r (λ x. x.frame ≡ Err fault)

-- 4,096 interfaces of a section are kept
abbrev pub with_interface : Known → Interface → Known
with_interface k i =
    if ltb (length k.interfaces) 4096 then
    record { order = k.order; interfaces = k.interfaces ++ i ∷ []; is_lost = k.is_lost } else k

-- a section begins: no interface of it is known
abbrev pub begun : Known → Order → Known
begun k order = record { order = order; interfaces = []; is_lost = k.is_lost }

-- the block of an interface or a packet
pub record GivesRead (k : Known) (h : BlockHead) (block : List ℕ) (r : Option Record)
    (after : Known) : Type 0 where
  pub interface : h.typ ≡ 1 → (r ≡ None)
      × ((i : Interface) × IsInterface h.order block i × (after ≡ with_interface k i))
  pub packet : h.typ ≢ 1 → IsSomeAnd r (IsPacket k.interfaces h block) × (after ≡ k)

-- a block that is there to its end
pub record GivesWhole (k : Known) (h : BlockHead) (block : List ℕ) (r : Option Record)
    (after : Known) : Type 0 where
  pub section : h.typ ≡ 168627466 → (r ≡ None) × (after ≡ begun k h.order)
  pub other : h.typ ≢ 168627466 → (IsRead h.typ → ⊥) → (r ≡ None) × (after ≡ k)
  pub read : IsRead h.typ → GivesRead k h block r after

-- a block that is longer than is read
pub record GivesLong (k : Known) (h : BlockHead) (r : Option Record) (after : Known) : Type 0
  where
    pub section : h.typ ≡ 168627466 → (r ≡ None) × (after ≡ begun k h.order)
    pub other : h.typ ≢ 168627466 → (IsRead h.typ → ⊥) → (r ≡ None) × (after ≡ k)
    pub read : IsRead h.typ → IsRefused TooLong r × (after ≡ k)

-- the record that a block is, if it is one, and what is known behind it, by as much of the block as there is: of any type it is cut off
-- where the input ends within it, unless it is longer than is read
pub record Gives (k : Known) (h : BlockHead) (block : List ℕ) (r : Option Record)
    (after : Known) : Type 0 where
  pub cut_off : h.length ≤ 262144 → length block < h.length → IsRefused CutOff r × (after ≡ k)
  pub whole : h.length ≤ 262144 → h.length ≤ length block → GivesWhole k h block r after
  pub long : 262144 < h.length → GivesLong k h r after

-- as much of the block is held as is to be read
abbrev pub HoldsBlock : BlockHead → List ℕ → Type 0
HoldsBlock h held = h.length ≤ 262144 → h.length ≤ length held

-- ---- the next block

-- a record that a block is, if it is one; what is known behind the block, and what is left
pub record Piece : Type 0 where
  pub found : Option Record
  pub known : Known
  pub left : List ℕ

-- fewer than twelve bytes are left
pub record IsCutHead (k : Known) (bytes : List ℕ) (p : Piece) : Type 0 where
  pub few : length bytes < 12
  pub found : IsRefused CutOff p.found
  pub known : p.known ≡ k
  pub left : p.left ≡ []

-- no head of a block stands here, so that no later one can be found
pub record IsBadHead (k : Known) (bytes : List ℕ) (p : Piece) : Type 0 where
  pub long : 12 ≤ length bytes
  pub none : (h : BlockHead) → IsBlockHead k.order bytes h → ⊥
  pub found : IsRefused BadBlock p.found
  pub known : p.known ≡ record { order = k.order; interfaces = k.interfaces; is_lost = true }
  pub left : p.left ≡ bytes

pub record IsHeaded (k : Known) (bytes : List ℕ) (p : Piece) : Type 0 where
  pub head : BlockHead
  pub is : IsBlockHead k.order bytes head
  pub gives : Gives k head (take head.length bytes) p.found p.known
  pub left : p.left ≡ drop head.length bytes

-- the block that the bytes begin with
abbrev pub IsBlock : Known → List ℕ → Piece → Type 0
IsBlock k bytes p =
    (k.is_lost ≡ false) × (IsCutHead k bytes p ⊎ (IsBadHead k bytes p ⊎ IsHeaded k bytes p))

-- no block follows
abbrev pub IsEnd : Known → List ℕ → Type 0
IsEnd k bytes = (bytes ≡ []) ⊎ (k.is_lost ≡ true)
