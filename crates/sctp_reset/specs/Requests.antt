-- What this side asked for, as plain records (RFC 6525 4.1).
use Rattle.std.specs.Prelude.{ℕ, ◌<◌, List, [], length, Option, Some, None}

-- a request: its number, the last TSN assigned, its streams, when it is to be sent next, and how many sendings
-- nothing answered since the last answer
pub record Request : Type 0 where
  pub number : ℕ
  pub last_tsn : ℕ
  pub streams : List ℕ
  pub at : ℕ
  pub unanswered : ℕ

-- the streams that wait, in the order in which they were asked for; the request under way; the next request's number
pub record Requests : Type 0 where
  pub waiting : List ℕ
  pub under_way : Option Request
  pub next_number : ℕ

abbrev pub streams_of : Option Request → List ℕ
streams_of None = []
streams_of (Some r) = r.streams

-- a request under way lists a stream: a request without any would be for all (RFC 6525 4.1)
abbrev pub ListsStreams : Option Request → Type 0
ListsStreams None = Unit {0}
ListsStreams (Some r) = 0 < length r.streams
