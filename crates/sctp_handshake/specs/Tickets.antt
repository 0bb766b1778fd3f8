-- The bytes of a ticket: 19 of each offer, and nine of the tie-tags.
use Rattle.std.specs.Prelude.{ℕ, ◌+◌, ◌<◌, ◌^◌, Bool, true, false, ◌&&◌, ◌||◌, not, ◌==◌, nat_le, if◌then◌else◌, slice_index, List, [], ◌∷◌, ◌++◌, length}
use Rattle.std.specs.Prelude.{Option, Some, None, Result, Ok, Err}
use Rattle.sctp_util.specs.Field.{be16, be32, u16_at, u32_at}
use Rattle.sctp_handshake.specs.declared.offer.Offer.{Offer}
use Rattle.sctp_handshake.specs.declared.ticket.Ticket.{Ticket}
use Rattle.sctp_handshake.specs.declared.ticket.TicketFault.{TicketFault}
use Rattle.sctp_handshake.specs.declared.ticket.TicketFault.TheVariants.{WrongLength, NoFlag, StrayTieTags}
use Rattle.sctp_handshake.specs.declared.ticket.TieTags.{TieTags}

-- ## Written

abbrev pub flag : Bool → ℕ
flag true = 1
flag false = 0

abbrev pub offer_bytes : Offer → List ℕ
offer_bytes o =
    be32 o.tag ++ be32 o.window ++ be16 o.outbound_streams ++ be16 o.inbound_streams
    ++ be32 o.first_tsn ++ flag o.forward_tsn ∷ flag o.reconfig ∷ flag o.zero_checksum ∷ []

abbrev pub tie_tags_bytes : Option TieTags → List ℕ
tie_tags_bytes None = 0 ∷ [] ++ be32 0 ++ be32 0
tie_tags_bytes (Some t) = 1 ∷ [] ++ be32 t.own ++ be32 t.peer

abbrev pub ticket_bytes : Ticket → List ℕ
ticket_bytes t = offer_bytes t.own ++ offer_bytes t.peer ++ tie_tags_bytes t.tie_tags

-- ## Each number fits its width

pub record OfferFits (o : Offer) : Type 0 where
  pub tag : o.tag < 2 ^ 32
  pub window : o.window < 2 ^ 32
  pub outbound_streams : o.outbound_streams < 2 ^ 16
  pub inbound_streams : o.inbound_streams < 2 ^ 16
  pub first_tsn : o.first_tsn < 2 ^ 32

abbrev pub TieTagsFit : Option TieTags → Type 0
TieTagsFit None = Unit {0}
TieTagsFit (Some t) = (t.own < 2 ^ 32) × (t.peer < 2 ^ 32)

pub record TicketFits (t : Ticket) : Type 0 where
  pub own : OfferFits t.own
  pub peer : OfferFits t.peer
  pub tie_tags : TieTagsFit t.tie_tags

-- ## Read

abbrev pub is_flag : List ℕ → ℕ → Bool
is_flag bytes at = nat_le (slice_index bytes at) 1

abbrev pub are_flags : List ℕ → ℕ → Bool
are_flags bytes at = is_flag bytes at && is_flag bytes (at + 1) && is_flag bytes (at + 2)

abbrev pub flag_at : List ℕ → ℕ → Bool
flag_at bytes at = slice_index bytes at == 1

abbrev pub offer_at : List ℕ → ℕ → Offer
offer_at bytes at = record {
  tag = u32_at bytes at;
  window = u32_at bytes (at + 4);
  outbound_streams = u16_at bytes (at + 8);
  inbound_streams = u16_at bytes (at + 10);
  first_tsn = u32_at bytes (at + 12);
  forward_tsn = flag_at bytes (at + 16);
  reconfig = flag_at bytes (at + 17);
  zero_checksum = flag_at bytes (at + 18);
}

abbrev pub tie_tags_at : List ℕ → Option TieTags
tie_tags_at bytes =
    if flag_at bytes 38 then Some (record { own = u32_at bytes 39; peer = u32_at bytes 43 })
    else None

-- tie-tags stand there, and are said not to
abbrev pub are_stray : List ℕ → Bool
are_stray bytes =
    (slice_index bytes 38 == 0) && (not (u32_at bytes 39 == 0) || not (u32_at bytes 43 == 0))

abbrev pub has_flags : List ℕ → Bool
has_flags bytes = are_flags bytes 16 && are_flags bytes 35 && is_flag bytes 38

abbrev pub ticket_at : List ℕ → Ticket
ticket_at bytes =
    record { own = offer_at bytes 0; peer = offer_at bytes 19; tie_tags = tie_tags_at bytes }

-- the ticket that bytes are, or the first fault
abbrev pub ticket_in : List ℕ → Result Ticket TicketFault
ticket_in bytes =
    if not (length bytes == 47) then Err WrongLength else (if not (has_flags bytes) then Err NoFlag
    else (if are_stray bytes then Err StrayTieTags else Ok (ticket_at bytes)))
