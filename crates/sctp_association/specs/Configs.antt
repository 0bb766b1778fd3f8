-- Which Config and Secrets an association can have, and what it offers by them (RFC 9260 3.3.2, 5.1, 5.3.1, 16).
use Rattle.std.specs.Prelude.{ℕ, ◌-◌, ◌^◌, ◌==◌, Bool, true, not, ◌&&◌, min, nat_le}
use Rattle.sctp_association.specs.declared.config.Config.{Config}
use Rattle.sctp_association.specs.declared.config.Secrets.{Secrets}
use Rattle.sctp_handshake.specs.declared.offer.Offer.{Offer}

-- ## What is taken

-- a packet takes any control chunk, and is no longer than an IP packet
abbrev pub is_mtu : ℕ → Bool
is_mtu mtu = nat_le 512 mtu && nat_le mtu 65535

-- The window is at least that of an INIT (3.3.2). There is a stream each way, a chunk may be in flight, a TSN may lie past the cumulative one, and no
-- port is 0.
abbrev pub is_config : Config → Bool
is_config c = is_mtu c.mtu && (nat_le 1500 c.window
    && (nat_le 1 c.reach && (nat_le 1 c.most_in_flight
    && (nat_le 1 c.outbound_streams && (nat_le 1 c.inbound_streams
    && (not (c.source_port == 0) && not (c.destination_port == 0)))))))

-- and the verification tag is not 0 (5.3.1)
abbrev pub can_be_made : Config → Secrets → Bool
can_be_made c s = not (s.tag == 0) && is_config c

-- what its INIT and its INIT ACK say of this side (3.3.2): a window past 32 bits is told as the greatest one
abbrev pub offer_by : Config → Secrets → Offer
offer_by c s = record {
  tag = s.tag;
  window = min c.window (2 ^ 32 - 1);
  outbound_streams = c.outbound_streams;
  inbound_streams = c.inbound_streams;
  first_tsn = s.first_tsn;
  forward_tsn = true;
  reconfig = true;
  zero_checksum = c.zero_checksum;
}
