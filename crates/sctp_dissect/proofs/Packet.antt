-- A dissection beside the packet that its datagram is.
use Rattle.std.proofs.Common.{◌≡◌, ℕ, ◌≤◌, List, ◌++◌, length, take, drop, sym, ◌∙◌, append_assoc}
use Rattle.std.specs.Prelude.{Some}
use Rattle.std.specs.List.{flat_map}
use Rattle.std.proofs.lemmas.List.{take-append-drop}
use Rattle.sctp_util.specs.Walk.{Walks}
use Rattle.sctp_util.specs.Field.{u32_le_at}
use Rattle.sctp_packets.specs.Packet.{Parts, ReadsPacket, after, checksum_input}
use Rattle.sctp_dissect.specs.declared.dissection.Header.{Header}
use Rattle.sctp_dissect.specs.declared.dissection.Dissection.{Dissection}
use Rattle.sctp_dissect.specs.Dissection.{ReadsHeader, Shows, Stops, IsHeader, IsPacket, item_bytes, shown_bytes}
use Rattle.sctp_dissect.proofs.Walk.{walk_joins, strict_walk, whole_walk}

module _ (sum : List ℕ → ℕ) (raw body : List ℕ) (h : Header) (d : Dissection) where
  pub shown_joins : d.header ≡ Some h → ReadsHeader sum raw h → body ≡ drop 12 raw → Walks Shows after body d.items.items d.rest → shown_bytes d ≡ raw
  shown_joins has head is_body walk =
      let first : h.bytes ≡ take 12 raw = head.bytes in
      let others : flat_map item_bytes d.items.items ++ d.rest ≡ body = walk_joins body d.items.items d.rest walk in
      let both : take 12 raw ++ drop 12 raw ≡ raw = take-append-drop 12 raw in
      let regrouped : (h.bytes ++ flat_map item_bytes d.items.items) ++ d.rest ≡ h.bytes ++ (flat_map item_bytes d.items.items ++ d.rest) =
      append_assoc h.bytes (flat_map item_bytes d.items.items) d.rest in
      let all : (h.bytes ++ flat_map item_bytes d.items.items) ++ d.rest ≡ raw = cc in
      rw has all

  -- the packet that the datagram is, is shown
  pub packet_shown : d.header ≡ Some h → ReadsHeader sum raw h → body ≡ drop 12 raw → Walks Shows after body d.items.items d.rest → Stops d.fault d.rest
      → (p : Parts) → ReadsPacket sum raw p → IsPacket d p
  packet_shown has head is_body walk stops p reads =
      let all = whole_walk body d.items.items d.rest d.fault p.chunks walk stops (rw is_body reads.chunks) in
      let stands : h.checksum ≡ u32_le_at raw 8 = head.checksum in
      let computed : h.computed ≡ sum (checksum_input raw) = head.computed in
      let right : u32_le_at raw 8 ≡ sum (checksum_input raw) = reads.is_headed.checksum in
      let sums : h.checksum ≡ h.computed = cc in
      record {
        header = rw has (
          sums,
          reads.source_port ∙ sym head.source_port,
          reads.destination_port ∙ sym head.destination_port,
          reads.verification_tag ∙ sym head.verification_tag,
        );
        chunks = all.chunks;
        rest = all.rest;
        fault = all.fault;
      }

  -- the packet that is shown is the datagram
  pub shown_packet : 12 ≤ length raw → d.header ≡ Some h → ReadsHeader sum raw h → body ≡ drop 12 raw → Walks Shows after body d.items.items d.rest
      → (p : Parts) → IsPacket d p → ReadsPacket sum raw p
  shown_packet long has head is_body walk p shown =
      let heads : IsHeader (Some h) p = rw has at shown.header in
      let stands : h.checksum ≡ u32_le_at raw 8 = head.checksum in
      let computed : h.computed ≡ sum (checksum_input raw) = head.computed in
      let sums : h.checksum ≡ h.computed = heads.0 in
      let right : u32_le_at raw 8 ≡ sum (checksum_input raw) = cc in
      let walked = strict_walk body d.items.items p.chunks (rw shown.rest at walk) shown.chunks in
      record {
        is_headed = record { long = long; checksum = right };
        source_port = heads.1 ∙ head.source_port;
        destination_port = heads.2 ∙ head.destination_port;
        verification_tag = heads.3 ∙ head.verification_tag;
        chunks = rw is_body at walked;
      }
