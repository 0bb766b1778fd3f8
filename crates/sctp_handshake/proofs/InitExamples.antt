-- Values of INITs and INIT ACKs: three that other stacks sent, and some made by hand.
use Rattle.std.proofs.Common.{◌≡◌, ℕ, Bool, true, false, List, [], ◌∷◌, refl}
use Rattle.std.specs.Prelude.{Some, None, Ok, Err}
use Rattle.sctp_util.specs.Field.{be16, be32, u16_at, u32_at}
use Rattle.sctp_handshake.specs.declared.init_value.InitFault.TheVariants.{ShortValue, BrokenParameter, MissingCookie}
use Rattle.sctp_handshake.specs.declared.offer.Offer.{Offer}
use Rattle.sctp_handshake.specs.InitValues.{init_in, cookie_in, told_from, init_bytes}

abbrev offer : ℕ → ℕ → ℕ → ℕ → ℕ → Bool → Bool → Bool → Offer
offer tag window outbound_streams inbound_streams first_tsn forward_tsn reconfig zero_checksum = record {
  tag = tag;
  window = window;
  outbound_streams = outbound_streams;
  inbound_streams = inbound_streams;
  first_tsn = first_tsn;
  forward_tsn = forward_tsn;
  reconfig = reconfig;
  zero_checksum = zero_checksum;
}

-- aiortc
abbrev aiortc : List ℕ
aiortc = 241 ∷ 126 ∷ 43 ∷ 166 ∷ 0 ∷ 16 ∷ 0 ∷ 0 ∷ 255 ∷ 255 ∷ 255 ∷ 255 ∷ 105 ∷ 211 ∷ 13 ∷ 230 ∷ 192 ∷ 0 ∷ 0 ∷ 4 ∷ 128 ∷ 8 ∷ 0 ∷ 6 ∷ 192 ∷ 130 ∷ 0 ∷ 0
    ∷ []

aiortc_init : init_in aiortc ≡ Ok (record { offer = offer 4051577766 1048576 65535 65535 1775439334 true true false; cookie = None })
unfolding u16_at u32_at
aiortc_init = refl

aiortc_no_ack : cookie_in (init_in aiortc) ≡ Err MissingCookie
unfolding u16_at u32_at
aiortc_no_ack = refl

-- and its INIT ACK
aiortc_ack : cookie_in (init_in (190 ∷ 183 ∷ 146 ∷ 56 ∷ 0 ∷ 16 ∷ 0 ∷ 0 ∷ 255 ∷ 255 ∷ 255 ∷ 255 ∷ 178 ∷ 188 ∷ 130 ∷ 211 ∷ 192 ∷ 0 ∷ 0 ∷ 4 ∷ 128 ∷ 8 ∷ 0
    ∷ 6 ∷ 192 ∷ 130 ∷ 0 ∷ 0 ∷ 0 ∷ 7 ∷ 0 ∷ 28 ∷ 107 ∷ 3 ∷ 186 ∷ 85 ∷ 32 ∷ 219 ∷ 146 ∷ 237 ∷ 58 ∷ 187 ∷ 142 ∷ 139 ∷ 115 ∷ 68 ∷ 200 ∷ 72 ∷ 161 ∷ 249 ∷
    109 ∷ 100 ∷ 135 ∷ 233 ∷ 155 ∷ 232 ∷ []))
    ≡ Ok (offer 3199701560 1048576 65535 65535 2998698707 true true false, record { typ = 7; at = 32; length = 24; next = 56 })
unfolding u16_at u32_at
aiortc_ack = refl

-- pion names FORWARD-TSN among its extensions alone
pion_init : init_in (243 ∷ 241 ∷ 34 ∷ 40 ∷ 0 ∷ 16 ∷ 0 ∷ 0 ∷ 255 ∷ 255 ∷ 255 ∷ 255 ∷ 237 ∷ 188 ∷ 33 ∷ 146 ∷ 128 ∷ 8 ∷ 0 ∷ 6 ∷ 130 ∷ 192 ∷ 0 ∷ 0 ∷ [])
    ≡ Ok (record { offer = offer 4092666408 1048576 65535 65535 3988529554 true true false; cookie = None })
unfolding u16_at u32_at
pion_init = refl

-- Types 0xC123 and 0x8077 are passed over, and the first is told of; 0x4123 is told of, and nothing is read behind it.
abbrev unknown : List ℕ
unknown = 0 ∷ 0 ∷ 0 ∷ 11 ∷ 0 ∷ 0 ∷ 7 ∷ 208 ∷ 0 ∷ 10 ∷ 0 ∷ 8 ∷ 0 ∷ 0 ∷ 0 ∷ 100 ∷ 193 ∷ 35 ∷ 0 ∷ 4 ∷ 128 ∷ 119 ∷ 0 ∷ 5 ∷ 9 ∷ 0 ∷ 0 ∷ 0 ∷ 192 ∷ 0 ∷ 0 ∷ 4
    ∷ 65 ∷ 35 ∷ 0 ∷ 4 ∷ 128 ∷ 8 ∷ 0 ∷ 5 ∷ 130 ∷ []

unknown_init : init_in unknown ≡ Ok (record { offer = offer 11 2000 10 8 100 true false false; cookie = None })
unfolding u16_at u32_at
unknown_init = refl

unknown_told : told_from 41 unknown 16 ≡ Some (record { from = 16; to = 20; next = 20 })
unfolding u16_at
unknown_told = refl

unknown_told_next : told_from 41 unknown 20 ≡ Some (record { from = 32; to = 36; next = 41 })
unfolding u16_at
unknown_told_next = refl

unknown_told_last : told_from 41 unknown 41 ≡ None
unfolding u16_at
unknown_told_last = refl

-- an address is passed over, and three bytes at the end are
zero_checksum_init : init_in (0 ∷ 0 ∷ 0 ∷ 11 ∷ 0 ∷ 0 ∷ 7 ∷ 208 ∷ 0 ∷ 10 ∷ 0 ∷ 8 ∷ 0 ∷ 0 ∷ 0 ∷ 100 ∷ 128 ∷ 1 ∷ 0 ∷ 8 ∷ 0 ∷ 0 ∷ 0 ∷ 1 ∷ 0 ∷ 5 ∷ 0 ∷ 8 ∷
    192 ∷ 0 ∷ 2 ∷ 1 ∷ 128 ∷ 8 ∷ 0 ∷ 5 ∷ 130 ∷ 0 ∷ 0 ∷ 0 ∷ 1 ∷ 2 ∷ 3 ∷ [])
    ≡ Ok (record { offer = offer 11 2000 10 8 100 false true true; cookie = None })
unfolding u16_at u32_at
zero_checksum_init = refl

-- nothing is read behind type 0x0123, and no one is told
stopped_init : init_in (0 ∷ 0 ∷ 0 ∷ 11 ∷ 0 ∷ 0 ∷ 7 ∷ 208 ∷ 0 ∷ 10 ∷ 0 ∷ 8 ∷ 0 ∷ 0 ∷ 0 ∷ 100 ∷ 1 ∷ 35 ∷ 0 ∷ 4 ∷ 192 ∷ 0 ∷ 0 ∷ 4 ∷ [])
    ≡ Ok (record { offer = offer 11 2000 10 8 100 false false false; cookie = None })
unfolding u16_at u32_at
stopped_init = refl

stopped_told : told_from 24 (0 ∷ 0 ∷ 0 ∷ 11 ∷ 0 ∷ 0 ∷ 7 ∷ 208 ∷ 0 ∷ 10 ∷ 0 ∷ 8 ∷ 0 ∷ 0 ∷ 0 ∷ 100 ∷ 1 ∷ 35 ∷ 0 ∷ 4 ∷ 192 ∷ 0 ∷ 0 ∷ 4 ∷ []) 16 ≡ None
unfolding u16_at
stopped_told = refl

-- a parameter with a length under four, and one that is longer than what is left
broken_init : init_in (0 ∷ 0 ∷ 0 ∷ 11 ∷ 0 ∷ 0 ∷ 7 ∷ 208 ∷ 0 ∷ 10 ∷ 0 ∷ 8 ∷ 0 ∷ 0 ∷ 0 ∷ 100 ∷ 192 ∷ 0 ∷ 0 ∷ 3 ∷ []) ≡ Err BrokenParameter
unfolding u16_at u32_at
broken_init = refl

cut_init : init_in (0 ∷ 0 ∷ 0 ∷ 11 ∷ 0 ∷ 0 ∷ 7 ∷ 208 ∷ 0 ∷ 10 ∷ 0 ∷ 8 ∷ 0 ∷ 0 ∷ 0 ∷ 100 ∷ 192 ∷ 0 ∷ 0 ∷ 4 ∷ 0 ∷ 7 ∷ 0 ∷ 12 ∷ []) ≡ Err BrokenParameter
unfolding u16_at u32_at
cut_init = refl

short_init : init_in (0 ∷ 0 ∷ 0 ∷ 11 ∷ 0 ∷ 0 ∷ 7 ∷ 208 ∷ 0 ∷ 10 ∷ 0 ∷ 8 ∷ 0 ∷ 0 ∷ 0 ∷ []) ≡ Err ShortValue
unfolding u16_at u32_at
short_init = refl

-- as it is written
written_init : init_bytes (offer 11 2000 10 8 100 true true true)
    ≡ 0 ∷ 0 ∷ 0 ∷ 11 ∷ 0 ∷ 0 ∷ 7 ∷ 208 ∷ 0 ∷ 10 ∷ 0 ∷ 8 ∷ 0 ∷ 0 ∷ 0 ∷ 100 ∷ 192 ∷ 0 ∷ 0 ∷ 4 ∷ 128 ∷ 1 ∷ 0 ∷ 8 ∷ 0 ∷ 0 ∷ 0 ∷ 1 ∷ 128 ∷ 8 ∷ 0 ∷ 6 ∷ 130
    ∷ 192 ∷ []
unfolding be16 be32
written_init = refl
