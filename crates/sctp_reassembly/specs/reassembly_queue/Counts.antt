-- How many chunks sets have.
use Rattle.std.specs.Prelude.{◌≡◌, ℕ, ◌≤◌, List, [], length}
use Rattle.std.specs.List.{sum_by}
use Rattle.sctp_data.specs.ChunkSet.{ChunkSet}

-- a deque of sets, and how many fit into it before more memory is asked for
pub record SetDeque : Type 0 where
  pub items : List ChunkSet
  pub capacity : ℕ

-- without sets it keeps room for sixteen at most
abbrev pub KeepsFew : SetDeque → Type 0
KeepsFew s = s.items ≡ [] → s.capacity ≤ 16

abbrev pub set_chunks : List ChunkSet → ℕ
set_chunks sets = sum_by (λ s. length s.chunks) sets
