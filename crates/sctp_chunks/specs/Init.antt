-- INIT and INIT-ACK: how an association begins (RFC 4960 3.3.2, 3.3.3).
use Rattle.std.specs.Prelude.{◌≡◌, ℕ, ◌≤◌, Bool, true, false, List, ◌++◌, length, drop, map}
use Rattle.sctp_util.specs.Field.{be16, be32, u16_at, u32_at}
use Rattle.sctp_params.specs.Param.{Parameter}
use Rattle.sctp_params.specs.ParamKind.{parameter_of}
use Rattle.sctp_chunks.specs.Params.{ReadsParams, params_encoding}
use Rattle.sctp_chunks.specs.declared.chunk.chunk_init.ChunkInit.{ChunkInit}

-- the wire part of an INIT
pub record Init : Type 0 where
  pub is_ack : Bool
  pub initiate_tag : ℕ
  pub advertised_receiver_window_credit : ℕ
  pub num_outbound_streams : ℕ
  pub num_inbound_streams : ℕ
  pub initial_tsn : ℕ
  pub params : List Parameter

abbrev pub init_of : ChunkInit → Init
init_of c = record {
  is_ack = c.is_ack;
  initiate_tag = c.initiate_tag;
  advertised_receiver_window_credit = c.advertised_receiver_window_credit;
  num_outbound_streams = c.num_outbound_streams;
  num_inbound_streams = c.num_inbound_streams;
  initial_tsn = c.initial_tsn;
  params = map parameter_of c.params.items;
}

-- what a value says, but for its kind and its parameters
abbrev pub init_in : Bool → List ℕ → List Parameter → Init
init_in is_ack value params = record {
  is_ack = is_ack;
  initiate_tag = u32_at value 0;
  advertised_receiver_window_credit = u32_at value 4;
  num_outbound_streams = u16_at value 8;
  num_inbound_streams = u16_at value 10;
  initial_tsn = u32_at value 12;
  params = params;
}

pub record ReadsInit (flags : ℕ) (value : List ℕ) (i : Init) : Type 0 where
  pub long : 16 ≤ length value
  pub no_flags : flags ≡ 0
  pub fields : i ≡ init_in i.is_ack value i.params
  pub params : ReadsParams (drop 16 value) i.params

abbrev pub ack_type : Bool → ℕ
ack_type true = 2
ack_type false = 1

unfoldable pub init_value : Init → List ℕ
init_value i =
    be32 i.initiate_tag ++ be32 i.advertised_receiver_window_credit ++ be16 i.num_outbound_streams
    ++ be16 i.num_inbound_streams ++ be32 i.initial_tsn
    ++ params_encoding false i.params
