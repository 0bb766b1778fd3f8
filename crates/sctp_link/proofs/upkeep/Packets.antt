-- Packets of one chunk.
use Rattle.sctp_link.proofs.Names.{◌≡◌, List, [], ◌∷◌, ◌++◌, map, refl, ap, ◌∙◌, ChunkKind, ChunkPayloadData, ChunkSelectiveAck, data_of, Sack, ForwardTsn}
use Rattle.sctp_link.proofs.Names.{fresh, IsFreshData, Wire, data_chunk, sack_chunk, forward_tsn_chunk, wire_of}
use Rattle.sctp_chunks.specs.declared.chunk.chunk_kind.ChunkKind.TheVariants as K
use Rattle.sctp_data.specs.declared.chunk.chunk_forward_tsn.ChunkForwardTsn.{ChunkForwardTsn}
use Rattle.sctp_data.specs.PayloadData.{Data}

-- a list of chunks whose wire parts are one has a last one
pub some_kind : (ks : List ChunkKind) (w : Wire) → ks ≡ [] → map wire_of ks ≡ w ∷ [] → ⊥
some_kind [] w e one = cc
some_kind (k ∷ ks) w e one = cc

-- and that one is it
pub last_kind : (ks : List ChunkKind) (kind : ChunkKind) (w : Wire) → map wire_of (ks ++ kind ∷ []) ≡ w ∷ [] → wire_of kind ≡ w
last_kind [] kind w one = cc
last_kind (k ∷ []) kind w one = cc
last_kind (k ∷ j ∷ ks) kind w one = cc

-- the wire part of a DATA chunk, of a SACK or of a FORWARD-TSN is of no other kind
pub data_kind : (k : ChunkKind) (d : Data) → ((c : ChunkPayloadData) → k ≡ K.PayloadData c → ⊥) → wire_of k ≡ data_chunk d → ⊥
data_kind (K.PayloadData c) d other e = other c refl
data_kind k d other e = cc

pub sack_kind : (k : ChunkKind) (s : Sack) → ((c : ChunkSelectiveAck) → k ≡ K.SelectiveAck c → ⊥) → wire_of k ≡ sack_chunk s → ⊥
sack_kind (K.SelectiveAck c) s other e = other c refl
sack_kind k s other e = cc

pub forward_tsn_kind : (k : ChunkKind) (f : ForwardTsn) → ((c : ChunkForwardTsn) → k ≡ K.ForwardTsn c → ⊥) → wire_of k ≡ forward_tsn_chunk f → ⊥
forward_tsn_kind (K.ForwardTsn c) f other e = other c refl
forward_tsn_kind k f other e = cc

same_data : (c d : Data) → data_chunk c ≡ data_chunk d → c ≡ d
same_data c d e = cc

pub same_sack : (c s : Sack) → sack_chunk c ≡ sack_chunk s → c ≡ s
same_sack c s e = cc

pub same_forward_tsn : (c f : ForwardTsn) → forward_tsn_chunk c ≡ forward_tsn_chunk f → c ≡ f
same_forward_tsn c f e = cc

-- a DATA chunk as reading gives it, from its wire part
pub fresh_data : (c : ChunkPayloadData) (d : Data) → IsFreshData c → data_chunk (data_of c) ≡ data_chunk d → c ≡ fresh d
fresh_data c d new e = new ∙ ap fresh (same_data (data_of c) d e)

-- the last of some chunks that are DATA
pub record LastData (ks : List ChunkKind) (kind : ChunkKind) (front : List Data) : Type 0 where
  pub less : List Data
  pub final : Data
  pub all : front ≡ less ++ final ∷ []
  pub rest : map wire_of ks ≡ map data_chunk less
  pub last : wire_of kind ≡ data_chunk final

pub last_data : (ks : List ChunkKind) (kind : ChunkKind) (front : List Data) → map wire_of (ks ++ kind ∷ []) ≡ map data_chunk front → LastData ks kind front
last_data [] kind [] e = cc
last_data [] kind (d ∷ []) e = record { less = []; final = d; all = refl; rest = refl; last = let h : wire_of kind ≡ data_chunk d = cc in h }
last_data [] kind (d ∷ c ∷ ds) e = cc
last_data (k ∷ ks) kind [] e = cc
last_data (k ∷ ks) kind (d ∷ ds) e =
    let tail : map wire_of (ks ++ kind ∷ []) ≡ map data_chunk ds = cc in
    let head : wire_of k ≡ data_chunk d = cc in
    let r = last_data ks kind ds tail in
    record {
      less = d ∷ r.less;
      final = r.final;
      all = ap (λ xs. d ∷ xs) r.all;
      rest = ap (λ w. w ∷ map wire_of ks) head ∙ ap (λ ws. data_chunk d ∷ ws) r.rest;
      last = r.last;
    }

-- no chunks
pub none_data : (front : List Data) → [] ≡ map data_chunk front → front ≡ []
none_data [] e = refl
none_data (d ∷ ds) e = cc
