-- What bytes show as error causes, whatever they are: items by their declared lengths, each with its padding, and a rest.
use Rattle.std.specs.Prelude.{◌≡◌, ℕ, List, take, drop}
use Rattle.sctp_util.specs.Padding.{padded_length}
use Rattle.sctp_chunks.specs.ErrorCause.{cause_declared_length, ReadsCause}
use Rattle.sctp_dissect.specs.declared.causes.CauseItem.{CauseItem}

-- the cause that the bytes begin with, and what there is of its padding
unfoldable pub cause_span : List ℕ → List ℕ
cause_span bytes = take (padded_length (cause_declared_length bytes)) bytes

-- what follows a cause and its padding; the last padding may be missing
unfoldable pub after_padded_cause : List ℕ → List ℕ
after_padded_cause bytes = drop (padded_length (cause_declared_length bytes)) bytes

-- the item that the bytes begin with
pub record ShowsCause (rest : List ℕ) (item : CauseItem) : Type 0 where
  pub bytes : item.bytes ≡ cause_span rest
  pub reading : ReadsCause rest item.cause

abbrev pub cause_bytes : CauseItem → List ℕ
cause_bytes item = item.bytes
