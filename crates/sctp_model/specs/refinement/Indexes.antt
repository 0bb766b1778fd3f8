-- Indexes as the sender gives them out.
use Rattle.std.specs.Prelude.{ℕ, Bool, ◌&&◌, ◌==◌, nat_lt, length}
use Rattle.sctp_model.specs.LinkRecord.{LinkRecord}
use Rattle.sctp_model.specs.Messages.{message_at, messages_where, sent_of}

-- message n is an ordered one of stream s, and some of it was sent
abbrev pub is_begun_on : LinkRecord → ℕ → ℕ → Bool
is_begun_on w s n =
    ((message_at w n).stream == s) && ((message_at w n).ordered && nat_lt 0 (sent_of w n))

-- how many ordered messages of stream s were begun: the index that the next one takes
abbrev pub begun_on : LinkRecord → ℕ → ℕ
begun_on w s = length (messages_where w (is_begun_on w s))
