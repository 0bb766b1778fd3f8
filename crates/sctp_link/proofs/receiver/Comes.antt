-- What the bytes of a datagram that comes read as.
use Rattle.sctp_link.proofs.Names.{Vec, Global, ◌≡◌, ℕ, ◌<◌, List, [], ◌∷◌, length, map, Option, Some, None, refl, ap, sym, ◌∙◌, arith, slice_get}
use Rattle.sctp_link.proofs.Names.{slice_index_or, subst, slice_get_within, NoSuchDatagram, SpanTooWide, refusal_of, unless, is_for_receiver, arrival_fits}
use Rattle.sctp_link.proofs.Names.{data_of, fresh, data_chunk, ReadsPacket, Report, LinkRecord, Data, chunk_at, Kind, Datagram, State, IsLinked, kind_record}
use Rattle.sctp_link.proofs.Names.{datagram_record, packet_with, wire_data, length-mapped}
use Rattle.sctp_model.specs.declared.event.Event.TheVariants as E
use Rattle.sctp_data.specs.PayloadData.{Data as DataParts}
use Rattle.sctp_model.specs.LinkRecord.{Sack}
use Rattle.sctp_model.specs.LinkRecord as W
use Rattle.sctp_link.specs.declared.record.Kind.TheVariants as K
use Rattle.sctp_link.proofs.upkeep.Observed.{encoded, kind-there}

-- what the chunks of slots say
abbrev pub said : LinkRecord → List ℕ → List DataParts
said w ps = map (λ p. data_of (chunk_at w p)) ps

said-wire : (w : LinkRecord) (ps : List ℕ) → map wire_data (map (chunk_at w) ps) ≡ map data_chunk (said w ps)
said-wire w [] = refl
said-wire w (p ∷ ps) = ap (λ ws. data_chunk (data_of (chunk_at w p)) ∷ ws) (said-wire w ps)

pub said-fresh : (w : LinkRecord) (ps : List ℕ) → map fresh (said w ps) ≡ map (chunk_at w) ps
said-fresh w [] = refl
said-fresh w (p ∷ ps) = ap (λ cs. chunk_at w p ∷ cs) (said-fresh w ps)

-- the bytes of a datagram of slots read back
pub says-data : {sum : List ℕ → ℕ} {x : State} (k : ℕ) (ps : List ℕ) (ds : List Datagram) (y : Datagram) → IsLinked sum x
    → x.recorded.network ≡ map datagram_record ds → x.datagrams ≡ map (λ d. d.bytes) ds → slice_get x.recorded.network k ≡ Some (Data ps)
    → y ≡ slice_index_or ds k y → ReadsPacket sum y.bytes (packet_with (map data_chunk (said x.recorded ps)))
says-data {sum} {x} k ps ds y l network same e is =
    subst (λ ws. ReadsPacket sum y.bytes (packet_with ws)) (said-wire x.recorded ps) (encoded ds k y (Data ps) l network same e is).reads

-- the places that a link keeps of a datagram
pub places-kept : (ds : List Datagram) (k : ℕ) (y : Datagram) (answered places : List ℕ) → slice_get (map datagram_record ds) k ≡ Some (W.Data places)
    → y ≡ slice_index_or ds k y → kind_record y.kind ≡ W.Data answered → answered ≡ places
places-kept ds k y answered places e is kind =
    let same : W.Data answered ≡ W.Data places = sym kind ∙ kind-there ds k y (W.Data places) e is in cc

-- no other kind has a record of slots
pub never-other : (kind : Kind) (places : List ℕ) → ((answered : Vec ℕ Global) → kind ≡ K.Data answered → ⊥) → kind_record kind ≡ W.Data places → ⊥
never-other (K.Data answered) places other e = other answered refl
never-other (K.Forward upto messages) places other e = cc
never-other (K.Sack cumulative credit blocks duplicates) places other e = cc

-- what is not refused is there, and no SACK
pub never-sack : (w : LinkRecord) (k : ℕ) (r : Report) → slice_get w.network k ≡ Some (Sack r) → refusal_of w (E.Arrive k) ≡ None → ⊥
never-sack w k r e none =
    let is : unless (is_for_receiver (Some (Sack r))) NoSuchDatagram (unless (arrival_fits w (Some (Sack r))) SpanTooWide None) ≡ None =
    ap (λ o. unless (is_for_receiver o) NoSuchDatagram (unless (arrival_fits w o) SpanTooWide None)) (sym e) ∙ none in
    cc

pub there-is : (w : LinkRecord) (k : ℕ) (ds : List Datagram) → w.network ≡ map datagram_record ds → refusal_of w (E.Arrive k) ≡ None → k < length ds
there-is w k ds same none = step (slice_get w.network k) refl none
  where
    step : (o : Option W.Datagram) → slice_get w.network k ≡ o → unless (is_for_receiver o) NoSuchDatagram (unless (arrival_fits w o) SpanTooWide None) ≡ None
        → k < length ds
    step None e h = cc
    step (Some g) e h = omega (arith, slice_get_within w.network k g e, ap length same, length-mapped datagram_record ds)
