-- Where the fragments of a message are stored.
use Rattle.std.specs.Prelude.{Bool, true, false, List, [], ◌∷◌}
use Rattle.sctp_data.specs.declared.chunk.chunk_payload_data.ChunkPayloadData.{ChunkPayloadData}
use Rattle.sctp_reassembly.specs.declared.reassembly_queue.fragment_list.Stored.{Stored}
use Rattle.sctp_reassembly.specs.declared.reassembly_queue.fragment_list.Stored.TheVariants.{One, Many}

abbrev pub items_of : Stored → List ChunkPayloadData
items_of (One fragment) = fragment ∷ []
items_of (Many list) = list.items

abbrev pub is_list : Stored → Bool
is_list (One fragment) = false
is_list (Many list) = true
