-- A SACK is made.
use Rattle.sctp_link.proofs.Names.{◌≡◌, ℕ, ◌+◌, ◌-◌, ◌<◌, ◌≤◌, ◌%◌, ◌^◌, List, [], ◌∷◌, ◌++◌, length, map, take, min, refl, ap, sym, ◌∙◌, arith, subst}
use Rattle.sctp_link.proofs.Names.{take-map, runs_of, length-mapped, GapAckBlock, Sack, sack_value, sack_chunk, ReadsPacket, packet_encoding, gap_offsets}
use Rattle.sctp_link.proofs.Names.{ends_of, LinkRecord, tsn_of, cumulative, contents_of, cumulative_tsn, FilterRecord, after_ack, Reception, sack, Filter}
use Rattle.sctp_link.proofs.Names.{gap_ack_blocks, placeholder, IsDatagram, packet_with, block_of, State, IsLinked, cumulative-le, length-take, take-min}
use Rattle.sctp_link.proofs.Names.{length_sack_value}
use Rattle.sctp_model.specs.Reports.{report_of, gap_blocks}
use Rattle.sctp_model.specs.declared.event.Event.TheVariants as E
use Rattle.sctp_model.specs.LinkRecord as W
use Rattle.sctp_model.proofs.refinement.acknowledging.SackMade.{blocks-are}
use Rattle.sctp_receiver.specs.Receiver.{filter_of}
use Rattle.sctp_link.proofs.receiver.Came.{blocks-ends, tsns-beyond}
use Rattle.sctp_link.proofs.upkeep.Facts.{facts}
use Rattle.sctp_link.proofs.receiver.Came.{blocks-of}
use Rattle.sctp_link.proofs.upkeep.Frames.{linked-more}

-- so many entries fit
sack-short : (s : Sack) → length s.gap_ack_blocks ≤ 16379 → length s.duplicate_tsn ≤ 16379 - length s.gap_ack_blocks → 4 + length (sack_value s) < 2 ^ 16
sack-short s a b = omega (arith, length_sack_value s, a, b)

taken-short : {A : Type 0} (xs ys : List A) → ys ≡ take 16379 xs → length ys ≤ 16379
taken-short xs ys e = omega (arith, ap length e, length-take 16379 xs)

module _ {sum : List ℕ → ℕ} {x : State} (l : IsLinked sum x) (credit : ℕ) where
  abbrev w : LinkRecord
  w = x.recorded

  abbrev v : LinkRecord
  v = after_ack x.recorded credit

  cumulative-is : x.filter.cumulative_tsn ≡ cumulative_tsn w (cumulative w)
  cumulative-is = ap (λ (f : FilterRecord). f.cumulative) l.filter

  repeats-are : x.filter.duplicates ≡ map (tsn_of w) w.duplicates
  repeats-are = ap (λ (f : FilterRecord). f.duplicates) l.filter

  -- as many repeats are noted in both
  pub repeats-count : length x.filter.duplicates ≡ length w.duplicates
  repeats-count = ap length repeats-are ∙ length-mapped (tsn_of w) w.duplicates

  pub cumulative-place : ((x.filter.cumulative_tsn + (2 ^ 32 - w.setup.first)) % 2 ^ 32 + 1) % 2 ^ 32 ≡ cumulative w
  cumulative-place =
      let f = facts l in
      let top = cumulative-le w f.valid.valid.skipped_made in
      let first = l.setup.first in
      let few = f.few in
      omega (arith, cumulative-is, top, first, few)

  -- what a receiver with this filter reports
  module _ (r : Reception) (same : x.filter ≡ filter_of r) (s : Sack) (is : s ≡ sack credit r) where
    pub cut-is : s.gap_ack_blocks ≡ take 16379 (gap_ack_blocks x.filter)
    cut-is = ap (λ (t : Sack). t.gap_ack_blocks) is ∙ ap (λ f. take 16379 (gap_ack_blocks f)) (sym same)

    answered-most : s.duplicate_tsn ≡ take (16379 - length s.gap_ack_blocks) x.filter.duplicates
    answered-most =
        ap (λ (t : Sack). t.duplicate_tsn) is ∙ ap (λ f. take (16379 - length (take 16379 (gap_ack_blocks (filter_of r)))) f.duplicates) (sym same)
        ∙ ap (λ bs. take (16379 - length bs) x.filter.duplicates) (sym (ap (λ (t : Sack). t.gap_ack_blocks) is))

    answered-length : length s.duplicate_tsn ≡ min (16379 - length s.gap_ack_blocks) (length x.filter.duplicates)
    answered-length = ap length answered-most ∙ length-take (16379 - length s.gap_ack_blocks) x.filter.duplicates

    pub answered-count : length s.duplicate_tsn ≡ min (16379 - length s.gap_ack_blocks) (length w.duplicates)
    answered-count = answered-length ∙ ap (min (16379 - length s.gap_ack_blocks)) repeats-count

    pub answered-is : s.duplicate_tsn ≡ take (length s.duplicate_tsn) x.filter.duplicates
    answered-is = answered-most ∙ sym (take-min (16379 - length s.gap_ack_blocks) (length s.duplicate_tsn) x.filter.duplicates answered-length)

    pub fits-encoding : 4 + length (sack_value s) < 2 ^ 16
    fits-encoding = sack-short s (taken-short (gap_ack_blocks x.filter) s.gap_ack_blocks cut-is) (omega (arith, answered-count))

  module _ (all bs : List GapAckBlock) (runs : all ≡ gap_ack_blocks x.filter) (cut : bs ≡ take 16379 all) where
    pub blocks-made : map ends_of bs ≡ gap_blocks w
    blocks-made =
        let f = facts l in
        ap (map ends_of) cut ∙ sym (take-map ends_of 16379 all) ∙ ap (take 16379) (ap (map ends_of) runs ∙ blocks-ends x.filter)
        ∙ ap (λ t. take 16379 (runs_of (gap_offsets t (map placeholder x.filter.beyond)))) cumulative-is
        ∙ sym (blocks-are w credit (map placeholder x.filter.beyond) f.valid.valid.skipped_made f.few (tsns-beyond w x.filter l.filter))

    blocks-count : length bs ≡ length (gap_blocks w)
    blocks-count = sym (length-mapped ends_of bs) ∙ ap length blocks-made

    module _ (count : ℕ) (counted : count ≡ min (16379 - length bs) (length w.duplicates)) where
      pub repeats-answered : take count w.duplicates ≡ (report_of w credit).duplicates
      repeats-answered = take-min (16379 - length bs) count w.duplicates counted ∙ ap (λ k. take (16379 - k) w.duplicates) blocks-count

      tsns-answered : take count x.filter.duplicates ≡ map (tsn_of w) (report_of w credit).duplicates
      tsns-answered = ap (take count) repeats-are ∙ take-map (tsn_of w) count w.duplicates ∙ ap (map (tsn_of w)) repeats-answered

      pub report-is : (cum : ℕ) (blocks : List (ℕ × ℕ)) (repeats : List ℕ) → cum ≡ cumulative w → blocks ≡ map ends_of bs → repeats ≡ take count w.duplicates
          → (let r : W.Report = record { cumulative = cum; credit = credit; blocks = blocks; duplicates = repeats } in r) ≡ report_of w credit
      report-is cum blocks repeats a b c =
          ap (λ k. let r : W.Report = record { cumulative = k; credit = credit; blocks = blocks; duplicates = repeats } in r) a
          ∙ ap (λ k. let r : W.Report = record { cumulative = cumulative w; credit = credit; blocks = k; duplicates = repeats } in r) (b ∙ blocks-made)
          ∙ ap (λ k. let r : W.Report = record { cumulative = cumulative w; credit = credit; blocks = gap_blocks w; duplicates = k } in r)
          (c ∙ repeats-answered)

      says : (s : Sack) → s.cumulative_tsn_ack ≡ x.filter.cumulative_tsn → s.advertised_receiver_window_credit ≡ credit → s.gap_ack_blocks ≡ bs
          → s.duplicate_tsn ≡ take count x.filter.duplicates → s ≡ (let t : Sack = record {
            cumulative_tsn_ack = cumulative_tsn w (cumulative w);
            advertised_receiver_window_credit = credit;
            gap_ack_blocks = map block_of (gap_blocks w);
            duplicate_tsn = map (tsn_of w) (report_of w credit).duplicates;
          } in t)
      says s a b c d =
          ap (λ k. let t : Sack = record {
            cumulative_tsn_ack = k;
            advertised_receiver_window_credit = s.advertised_receiver_window_credit;
            gap_ack_blocks = s.gap_ack_blocks;
            duplicate_tsn = s.duplicate_tsn;
          } in t) (a ∙ cumulative-is) ∙ ap (λ k. let t : Sack = record {
            cumulative_tsn_ack = cumulative_tsn w (cumulative w);
            advertised_receiver_window_credit = k;
            gap_ack_blocks = s.gap_ack_blocks;
            duplicate_tsn = s.duplicate_tsn;
          } in t) b ∙ ap (λ k. let t : Sack = record {
            cumulative_tsn_ack = cumulative_tsn w (cumulative w);
            advertised_receiver_window_credit = credit;
            gap_ack_blocks = k;
            duplicate_tsn = s.duplicate_tsn;
          } in t) (c ∙ sym (blocks-of bs) ∙ ap (map block_of) blocks-made) ∙ ap (λ k. let t : Sack = record {
            cumulative_tsn_ack = cumulative_tsn w (cumulative w);
            advertised_receiver_window_credit = credit;
            gap_ack_blocks = map block_of (gap_blocks w);
            duplicate_tsn = k;
          } in t) (d ∙ tsns-answered)

      pub linked-ack : (s : Sack) (bytes : List ℕ) (filter : Filter) → s.cumulative_tsn_ack ≡ x.filter.cumulative_tsn → s.advertised_receiver_window_credit
          ≡ credit → s.gap_ack_blocks ≡ bs → s.duplicate_tsn ≡ take count x.filter.duplicates → bytes ≡ packet_encoding sum (packet_with (sack_chunk s ∷ []))
          → ReadsPacket sum bytes (packet_with (sack_chunk s ∷ [])) → length x.datagrams ≡ length w.network → filter ≡ record x.filter { duplicates = [] }
          → IsLinked sum (record x { recorded = v; datagrams = x.datagrams ++ bytes ∷ []; filter = filter })
      linked-ack s bytes filter ea eb ec ed encoding reads len ef =
          subst (λ f. IsLinked sum (record x { recorded = v; datagrams = x.datagrams ++ bytes ∷ []; filter = f })) (sym ef)
          (linked-more l (E.Ack credit) refl (W.Sack (report_of w credit)) [] bytes x.outbound (record x.filter { duplicates = [] }) refl l.outbound l.unstarted
          (ap (λ (f : FilterRecord). let r : FilterRecord = record { cumulative = f.cumulative; held = f.held; duplicates = [] } in r) l.filter) len is)
        where
          is : IsDatagram sum (contents_of v (W.Sack (report_of w credit))) bytes
          is =
              let e = says s ea eb ec ed in
              record {
                encoding = encoding ∙ ap (λ t. packet_encoding sum (packet_with (sack_chunk t ∷ []))) e;
                reads = subst (λ t. ReadsPacket sum bytes (packet_with (sack_chunk t ∷ []))) e reads;
              }

-- the record with the datagram that says it
pub recorded-acked : (w : LinkRecord) (credit : ℕ) (network : List W.Datagram) (repeats : List ℕ) (r : W.Report) → network ≡ w.network ++ W.Sack r ∷ []
    → r ≡ report_of w credit → repeats ≡ [] → record w { network = network; duplicates = repeats } ≡ after_ack w credit
recorded-acked w credit network repeats r a b c = cc (a, b, c)
