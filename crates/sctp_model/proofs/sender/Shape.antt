-- What the sender's laws speak of: messages and slots without the flags that the receiver and the network set.
use Rattle.sctp_model.proofs.Names.{ℕ, ◌+◌, Bool, List, length, Option, if◌then◌else◌, ◌==◌, ◌&&◌, ◌||◌, not, nat_lt, numbers_where, first_of, or_else, pieces}
use Rattle.sctp_model.proofs.Names.{PayloadProtocolIdentifier, Message, Slot, LinkRecord, message_at, slot_at}

-- a message as it was written, and whether it expired or was abandoned
pub record MessagePart : Type 0 where
  pub stream : ℕ
  pub ordered : Bool
  pub ppi : PayloadProtocolIdentifier
  pub bytes : List ℕ
  pub before : ℕ
  pub expired : Bool
  pub abandoned : Bool

abbrev pub message_part : Message → MessagePart
message_part m =
    record { stream = m.stream; ordered = m.ordered; ppi = m.ppi; bytes = m.bytes; before = m.before; expired = m.expired; abandoned = m.abandoned }

-- what a slot is for
pub record SlotPart : Type 0 where
  pub message : ℕ
  pub fragment : ℕ
  pub is_terminal_chunk : Bool

abbrev pub slot_part : Slot → SlotPart
slot_part x = record { message = x.message; fragment = x.fragment; is_terminal_chunk = x.is_terminal_chunk }

-- the messages and slots of a record
pub record Shape : Type 0 where
  pub size : ℕ
  pub count : ℕ
  pub message : ℕ → MessagePart
  pub slots : ℕ
  pub slot : ℕ → SlotPart

abbrev pub shape : LinkRecord → Shape
shape w = record {
  size = w.setup.size;
  count = length w.messages;
  message = λ n. message_part (message_at w n);
  slots = length w.slots;
  slot = λ p. slot_part (slot_at w p);
}

-- ## The words of the record, over its shape

abbrev pub has : Shape → ℕ → ℕ → Bool
has x n p = ((x.slot p).message == n) && not (x.slot p).is_terminal_chunk

abbrev pub sent : Shape → ℕ → ℕ
sent x n = length (numbers_where (has x n) 0 x.slots)

abbrev pub parts : Shape → ℕ → ℕ
parts x n = length (pieces (length (x.message n).bytes) x.size (x.message n).bytes)

abbrev pub partial : Shape → ℕ → Bool
partial x n = nat_lt 0 (sent x n) && (nat_lt (sent x n) (parts x n) && not (x.message n).abandoned)

abbrev pub unsent : Shape → ℕ → Bool
unsent x n = (sent x n == 0) && not (x.message n).expired

abbrev pub on : Shape → ℕ → ℕ → Bool
on x s n = ((x.message n).stream == s) && ((x.message n).ordered && not (x.message n).expired)

abbrev pub index : Shape → ℕ → ℕ
index x n = length (numbers_where (on x (x.message n).stream) 0 n)

abbrev pub front_of : Shape → Option ℕ
front_of x =
    or_else (first_of (numbers_where (partial x) 0 x.count))
    (or_else (first_of (numbers_where (λ n. unsent x n && not (x.message n).ordered) 0 x.count))
    (first_of (numbers_where (λ n. unsent x n && (x.message n).ordered) 0 x.count)))

-- ## Changes of a shape

-- one more slot
abbrev pub slotted : Shape → ℕ → Bool → Shape
slotted x n is_terminal_chunk =
    record x {
      slots = x.slots + 1;
      slot = λ p. if p == x.slots then record { message = n; fragment = sent x n; is_terminal_chunk = is_terminal_chunk } else x.slot p;
    }

-- one more message
abbrev pub written : Shape → MessagePart → Shape
written x m = record x { count = x.count + 1; message = λ k. if k == x.count then m else x.message k }

-- message n abandoned
abbrev pub abandoned_at : Shape → ℕ → Shape
abandoned_at x n = record x { message = λ k. record (x.message k) { abandoned = (k == n) || (x.message k).abandoned } }

-- message n expired
abbrev pub expired_at : Shape → ℕ → Shape
expired_at x n = record x { message = λ k. record (x.message k) { expired = (k == n) || (x.message k).expired } }
