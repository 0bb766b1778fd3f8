-- Where the chunks of a packet lie, which may be of any types (RFC 9260 3.2).
use Rattle.std.specs.Prelude.{◌≡◌, ◌⊎◌, ℕ, zero, suc, ◌+◌, ◌≤◌, true, false, List, [], ◌∷◌, ◌++◌, length, drop}
use Rattle.sctp_util.specs.Padding.{padded_length}
use Rattle.sctp_chunks.specs.Framing.{type_at, flags_at, declared_length}
use Rattle.sctp_chunks.specs.Wire.{Wire}
use Rattle.sctp_datagram.specs.Framing.{HasFrame, StartsWith}
use Rattle.sctp_datagram.specs.Types.{is_read_type, is_reported, is_stopping, is_whole_type}
use Rattle.sctp_datagram.specs.declared.datagram.ChunkPlace.{ChunkPlace}

-- the bytes begin with a chunk and its padding, which may be any bytes; one of a type that is read whole is read
pub record IsThere (bytes : List ℕ) : Type 0 where
  pub is_framed : HasFrame bytes
  pub whole : padded_length (declared_length bytes) ≤ length bytes
  pub reads : is_whole_type (type_at bytes) ≡ true → (w : Wire) × StartsWith bytes w

-- where the chunk behind the one at a place begins
abbrev pub behind : List ℕ → ℕ → ℕ
behind packet at = at + padded_length (declared_length (drop at packet))

-- what is told of the chunk that begins at a place of a packet
abbrev pub place_at : List ℕ → ℕ → ChunkPlace
place_at packet at = record {
  at = at;
  length = declared_length (drop at packet);
  typ = type_at (drop at packet);
  flags = flags_at (drop at packet);
  is_known = is_read_type (type_at (drop at packet));
  is_reported = is_reported (type_at (drop at packet));
}

-- a chunk of the packet is there, and this is what is told of it
pub record IsPlace (packet : List ℕ) (p : ChunkPlace) : Type 0 where
  pub told : p ≡ place_at packet p.at
  pub there : IsThere (drop p.at packet)

-- ## Rows: what a row says of the chunk at a place is handed in

-- of so many chunks, one behind the padding of the other, the first at a place
abbrev pub rows_from : {T : Type 0} → (List ℕ → ℕ → T) → List ℕ → ℕ → ℕ → List T
rows_from row packet at zero = []
rows_from row packet at (suc n) = row packet at ∷ rows_from row packet (behind packet at) n

-- rows tell of the chunks from one place to another; none of them stops the reading
abbrev pub Passes : {T : Type 0} → (List ℕ → ℕ → T) → List ℕ → ℕ → List T → ℕ → Type 0
Passes row packet at [] end = at ≡ end
Passes row packet at (r ∷ rows) end =
    (r ≡ row packet at) × IsThere (drop at packet)
    × (is_stopping (type_at (drop at packet)) ≡ false) × Passes row packet (behind packet at) rows end

-- the rows tell of all chunks up to the end of the packet, or up to the first one that stops the reading, and of that one
pub record TellsAll {T : Type 0} (row : List ℕ → ℕ → T) (packet : List ℕ) (rows : List T) : Type 0 where
  pub passed : List T
  pub end : ℕ
  pub passes : Passes row packet 12 passed end
  pub ended : ((drop end packet ≡ []) × (rows ≡ passed))
      ⊎ (IsThere (drop end packet) × (is_stopping (type_at (drop end packet)) ≡ true)
      × (rows ≡ passed ++ row packet end ∷ []))

-- so many chunks are there, one behind the padding of the other, the first at a place
abbrev pub AreThere : List ℕ → ℕ → ℕ → Type 0
AreThere packet at zero = Unit {0}
AreThere packet at (suc n) = IsThere (drop at packet) × AreThere packet (behind packet at) n

-- so many there are in a packet, up to its end or to the first one that stops the reading, and that one
pub record HasChunks (packet : List ℕ) (n : ℕ) : Type 0 where
  pub rows : List ChunkPlace
  pub told : TellsAll place_at packet rows
  pub count : n ≡ length rows
