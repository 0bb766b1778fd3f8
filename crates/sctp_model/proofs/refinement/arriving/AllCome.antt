-- The slots of a datagram come to a valid record, one after another.
use Rattle.sctp_model.proofs.Names.{◌≡◌, ℕ, ◌<◌, ◌≤◌, List, [], ◌∷◌, ◌++◌, length, map, Some, None, refl, ap, sym, ◌∙◌, arith, append_assoc, ◌+◌, ◌%◌, ◌^◌}
use Rattle.sctp_model.proofs.Names.{false, fold, slice_get, ◌==◌, not, if◌then◌else◌, slice_index_or, subst, is_too_large, Setup, LinkRecord, Data, message_at}
use Rattle.sctp_model.proofs.Names.{message_of, receive_slot, chunk_at, History, IsRun, record_of, refusal_of, IsSetup, fold-append, nat_tests, pieces, fresh}
use Rattle.sctp_model.proofs.Names.{ChunkPayloadData}
use Rattle.sctp_model.specs.Valid.{ComesValid}
use Rattle.sctp_model.proofs.sender.SenderRun.{Consistent, consistent-run, consistent-received}
use Rattle.sctp_model.proofs.acknowledgement.Bytes.{size-some}
use Rattle.sctp_model.proofs.refinement.arriving.Carried.{carried, enters}
use Rattle.sctp_model.specs.refinement.Arriving.{Comes, AllCome}
use Rattle.sctp_model.proofs.receiver.ValidRun.{slots_come_valid}
use Rattle.sctp_model.proofs.refinement.amounts.NoLarger.{no-larger}
use Rattle.sctp_model.proofs.refinement.sending.SlotsGoOn.{AllGoOn, goes-run}
use Rattle.sctp_model.proofs.refinement.amounts.Sizes.{never-too-large}
use Rattle.sctp_model.proofs.refinement.Histories.{Stands, over}
use Rattle.sctp_model.proofs.sender.Shape.{Shape, shape, index, parts}
use Rattle.sctp_model.specs.declared.event.Event.TheVariants as E
use Rattle.sctp_model.proofs.sender.Network
use Rattle.sctp_model.proofs.refinement.arriving.Arrival
use Rattle.sctp_model.proofs.refinement.arriving.SlotArrives

-- ## What a chunk says, where the same is known of its slot

-- the chunk of a slot, by what the sender knows
abbrev chunk_by : Shape → ℕ → ℕ → ChunkPayloadData
chunk_by y first p =
    fresh (record {
      unordered = not (y.message (y.slot p).message).ordered;
      beginning_fragment = (y.slot p).fragment == 0;
      ending_fragment = (y.slot p).fragment + 1 == parts y (y.slot p).message;
      immediate_sack = false;
      tsn = (first + p) % 2 ^ 32;
      stream_identifier = (y.message (y.slot p).message).stream;
      stream_sequence_number = (if (y.message (y.slot p).message).ordered then index y (y.slot p).message else (y.message (y.slot p).message).before) % 2 ^ 16;
      payload_type = (y.message (y.slot p).message).ppi;
      user_data = slice_index_or (pieces (length (y.message (y.slot p).message).bytes) y.size (y.message (y.slot p).message).bytes) (y.slot p).fragment [];
    })

pub chunk-same : (w v : LinkRecord) (p : ℕ) → Network.Same w v → chunk_at w p ≡ chunk_at v p
chunk-same w v p s = ap (λ y. chunk_by y w.setup.first p) (sym s.shape_is) ∙ ap (λ t. chunk_by (shape v) t.first p) (sym s.setup)

-- ## Slots one after another

module _ (setup : Setup) (h : History) (is : IsSetup setup) (run : IsRun setup h) (k : ℕ) (none : refusal_of (record_of setup h) (E.Arrive k) ≡ None) where
  abbrev w : LinkRecord
  w = record_of setup h

  comes-one : (v : LinkRecord) (front : List ℕ) (p : ℕ) (qs : List ℕ) → v ≡ fold receive_slot w front → Consistent setup v
      → slice_get w.network k ≡ Some (Data (front ++ p ∷ qs)) → Comes v p (chunk_at w p)
  comes-one v front p qs eq g e =
      let valid : ComesValid v p = subst (λ u. ComesValid u p) (sym eq) (slots_come_valid setup h is run k front p qs none e) in
      let same : Network.Same w v = subst (Network.Same w) (sym eq) (Network.same-slots w front) in
      let c = carried setup v p g valid.made valid.fragment in
      let chunk = chunk-same w v p same in
      let n = message_of v p in
      let made : n < length w.messages = omega (arith, valid.valid.made n p (Arrival.has-fragment v p valid.fragment), ap (λ y. y.count) same.shape_is) in
      let short : length (message_at v n).bytes ≤ v.setup.largest =
      omega (arith, no-larger setup h n is run made, ap (λ y. length (y.message n).bytes) same.shape_is, ap (λ s. s.largest) g.setup_is) in
      record {
        valid = valid;
        alive = c.alive;
        known = c.known;
        chunk = chunk;
        small = λ new q held limit. ap (λ x. is_too_large x q) chunk
            ∙ never-too-large setup v p q g valid.valid valid.unassembled (subst AllGoOn (sym same.shape_is) (goes-run setup h run))
            (size-some setup v is g) c new
            (λ o. valid.near (message_at v n).stream (SlotArrives.ordered-on v (message_at v n).stream p (enters v p c new) o) new) short held limit;
      }

  comes-from : (v : LinkRecord) (front rest : List ℕ) → v ≡ fold receive_slot w front → Consistent setup v → slice_get w.network k ≡ Some (Data (front ++ rest))
      → AllCome v rest (map (chunk_at w) rest)
  comes-from v front [] eq g e = tt
  comes-from v front (p ∷ qs) eq g e = (
    comes-one v front p qs eq g e,
    comes-from (receive_slot v p) (front ++ p ∷ []) qs (ap (λ u. receive_slot u p) eq ∙ sym (fold-append receive_slot w front (p ∷ [])))
        (consistent-received setup v p g) (e ∙ ap (λ ps. Some (Data ps)) (sym (append_assoc front (p ∷ []) qs))),
  )

  comes-run : (ps : List ℕ) → slice_get w.network k ≡ Some (Data ps) → AllCome w ps (map (chunk_at w) ps)
  comes-run ps e = comes-from w [] ps refl (consistent-run setup h run) e

-- so do those of a datagram of a record that stands for a history
pub all-come : {w : LinkRecord} (s : Stands w) (k : ℕ) (ps : List ℕ) → refusal_of w (E.Arrive k) ≡ None → slice_get w.network k ≡ Some (Data ps)
    → AllCome w ps (map (chunk_at w) ps)
all-come {w} s k ps none e = grind (arith, nat_tests, over, comes-run)
