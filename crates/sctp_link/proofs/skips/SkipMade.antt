-- A FORWARD-TSN is made: what it may name, what it says, and the link after it.
use Rattle.sctp_link.proofs.Names.{◌≡◌, ℕ, ◌+◌, ◌<◌, ◌≤◌, ◌^◌, List, [], ◌∷◌, ◌++◌, length, map, None, ap, sym, ◌∙◌, arith, slice_index_or, subst, ForwardTsn}
use Rattle.sctp_link.proofs.Names.{forward_tsn_value, forward_tsn_chunk, ReadsPacket, packet_encoding, Event, LinkRecord, Forward, message_of, tsn_of}
use Rattle.sctp_link.proofs.Names.{with_datagram, refusal_of, after, skip_refusal, NamesFit, names-fit, shape, Message, Slot, message_record, slot_record}
use Rattle.sctp_link.proofs.Names.{progress_of, pair_in, wire_skip, packet_with, State, IsLinked, length-mapped, length_forward_tsn_value, accepted}
use Rattle.sctp_link.proofs.upkeep.Facts.{facts}
use Rattle.sctp_link.proofs.receiver.Hears.{slot-raw}
use Rattle.sctp_link.proofs.skips.NamesInTurn.{pairs-are}
use Rattle.sctp_link.proofs.upkeep.Frames.{linked-more}

-- the message of a slot, as a link keeps it
pub slot-of : {sum : List ℕ → ℕ} {x : State} (l : IsLinked sum x) (slots : List Slot) (messages : List Message) → x.recorded.slots ≡ map slot_record slots
    → x.recorded.messages ≡ map message_record messages → (p : ℕ) (y : Slot) → p < length slots → y ≡ slice_index_or slots p y
    → message_of x.recorded p ≡ y.message
slot-of l slots messages a b p y lt is = ap (λ t. t.message) (slot-raw l slots messages a b p y lt) ∙ ap (λ (t : Slot). t.message) (sym is)

-- so many names fit
pub skip-short : (f : ForwardTsn) → length f.streams ≤ 16381 → 4 + length (forward_tsn_value f) < 2 ^ 16
skip-short f le = omega (arith, length_forward_tsn_value f, le)

module _ {sum : List ℕ → ℕ} {x : State} (l : IsLinked sum x) (upto : ℕ) (names : List ℕ) (ok : skip_refusal x.recorded upto names ≡ None) where
  abbrev w : LinkRecord
  w = x.recorded

  abbrev v : LinkRecord
  v = with_datagram x.recorded (Forward upto names)

  fit : NamesFit (shape w) upto names
  fit = names-fit w upto names (facts l).consistent.sender (accepted w upto names ok).can

  module _ (ms : List Message) (messages_are : x.recorded.messages ≡ map message_record ms) (progress_are : x.progress ≡ map progress_of ms) where
    pub skip-says : (f : ForwardTsn) → f.new_cumulative_tsn ≡ tsn_of w upto → f.streams ≡ map (pair_in ms) names → f ≡ wire_skip w upto names
    skip-says f a b =
        ap (λ t. let r : ForwardTsn = record { new_cumulative_tsn = t; streams = f.streams } in r) a ∙ ap (λ ps. let r : ForwardTsn =
        record { new_cumulative_tsn = tsn_of w upto; streams = ps } in r) (b ∙ pairs-are l ms messages_are progress_are upto names fit)

    pub pairs-short : (f : ForwardTsn) → f.streams ≡ map (pair_in ms) names → 4 + length (forward_tsn_value f) < 2 ^ 16
    pairs-short f b = skip-short f (omega (arith, ap length b, length-mapped (pair_in ms) names, (accepted w upto names ok).few))

  pub linked-made : (f : ForwardTsn) → f ≡ wire_skip x.recorded upto names → (bytes : List ℕ) (e : Event) → refusal_of w e ≡ None → after w e ≡ v
      → bytes ≡ packet_encoding sum (packet_with (forward_tsn_chunk f ∷ [])) → ReadsPacket sum bytes (packet_with (forward_tsn_chunk f ∷ []))
      → length x.datagrams ≡ length w.network → IsLinked sum (record x { recorded = v; datagrams = x.datagrams ++ bytes ∷ [] })
  linked-made f says bytes e none is encoding reads count =
      linked-more l e none (Forward upto names) w.duplicates bytes x.outbound x.filter is l.outbound l.unstarted l.filter count (record {
        encoding = encoding ∙ ap (λ t. packet_encoding sum (packet_with (forward_tsn_chunk t ∷ []))) says;
        reads = subst (λ t. ReadsPacket sum bytes (packet_with (forward_tsn_chunk t ∷ []))) says reads;
      })
