-- A FORWARD-TSN that a caller in C is given (RFC 3758 3.5).
use Rattle.std.specs.Prelude.{◌≡◌, ◌⊎◌, ℕ, ◌+◌, ◌*◌, ◌≤◌, ◌<◌, true, List, length, min, Some}
use Rattle.sctp_chunks.specs.Wire.{encoding_of, forward_tsn_chunk}
use Rattle.sctp_data.specs.ForwardTsn.{ForwardTsn}
use Rattle.sctp_sender.specs.Abandonment.{IsTooLong, Name, advanced_ack_point, ahead, is_end, named_up_to, skip_end}
use Rattle.sctp_sender.specs.Flight.{Flight}
use Rattle.sctp_c.specs.Out.{at_front, padded}

-- how many bytes of a buffer it may take: its length is a multiple of four that two bytes declare
abbrev pub forward_tsn_room : List ℕ → ℕ
forward_tsn_room out = min (length out) 65532

-- it stands at the front of the buffer: it goes to a TSN at which a message ends, and one to each later such TSN would be too long
pub record WritesForwardTsn (out_old out_new : List ℕ) (written : ℕ) (f : Flight) : Type 0 where
  pub forward : ForwardTsn
  pub ends : is_end forward.new_cumulative_tsn f ≡ true
  pub names : Name forward.streams (named_up_to forward.new_cumulative_tsn f)
  pub furthest : (t : ℕ) → is_end t f ≡ true
      → (ahead f t ≤ ahead f forward.new_cumulative_tsn) ⊎ IsTooLong (forward_tsn_room out_old) t f
  pub bytes : out_new ≡ at_front (encoding_of (forward_tsn_chunk forward)) out_old
  pub size : written ≡ length (encoding_of (forward_tsn_chunk forward))

-- there is one to be sent, up to the advanced ack point: so many bytes it has, or so many as a chunk may have at most
pub record IsWanted (wanted : ℕ) (f : Flight) : Type 0 where
  pub forward : ForwardTsn
  pub upto : Some forward.new_cumulative_tsn ≡ skip_end (advanced_ack_point f) f
  pub names : Name forward.streams (named_up_to forward.new_cumulative_tsn f)
  pub size : wanted ≡ min (8 + 4 * length forward.streams) 65532

-- and to no TSN at which a message ends is there one that fits the buffer
pub record WantsForwardTsn (out : List ℕ) (wanted : ℕ) (f : Flight) : Type 0 where
  pub whole : IsWanted wanted f
  pub none : (t : ℕ) → is_end t f ≡ true → IsTooLong (forward_tsn_room out) t f

-- the one up to a TSN, or to the last TSN before it at which a message ends
pub record WritesForwardTo (tsn : ℕ) (out_old out_new : List ℕ) (written : ℕ) (f : Flight) : Type 0
  where
    pub forward : ForwardTsn
    pub upto : Some forward.new_cumulative_tsn ≡ skip_end tsn f
    pub names : Name forward.streams (named_up_to forward.new_cumulative_tsn f)
    pub bytes : out_new ≡ at_front (padded (encoding_of (forward_tsn_chunk forward))) out_old
    pub size : written ≡ length (padded (encoding_of (forward_tsn_chunk forward)))

-- that one is longer than the buffer: so many bytes are wanted
pub record WantsForwardTo (tsn : ℕ) (out : List ℕ) (wanted : ℕ) (f : Flight) : Type 0 where
  pub forward : ForwardTsn
  pub upto : Some forward.new_cumulative_tsn ≡ skip_end tsn f
  pub names : Name forward.streams (named_up_to forward.new_cumulative_tsn f)
  pub size : wanted ≡ length (padded (encoding_of (forward_tsn_chunk forward)))
  pub short : length out < wanted
