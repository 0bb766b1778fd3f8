-- What calls lead to is within bounds.
use Rattle.std.proofs.Common.{◌≡◌, ℕ, zero, suc, ◌+◌, ◌*◌, ◌<◌, ◌≤◌, Bool, true, false, List, [], ◌∷◌, ◌++◌, length, All, refl, ap, sym, ◌∙◌, subst, arith}
use Rattle.std.proofs.lemmas.List.{length-map}
use Rattle.std.specs.Prelude.{◌==◌, if◌then◌else◌, Some}
use Rattle.std.specs.List.{sum_by}
use Rattle.sctp_association.proofs.Few.{AreBelow, no-more}
use Rattle.sctp_association.specs.Reached.{AreUsual, IsReached, IsUsual, most_user_data}
use Rattle.sctp_data.specs.declared.chunk.chunk_payload_data.ChunkPayloadData.{ChunkPayloadData}
use Rattle.sctp_data.specs.ForwardTsn.{ForwardTsn}
use Rattle.sctp_receiver.proofs.Closed.{closed-apart}
use Rattle.sctp_receiver.proofs.DataEach.{takes-keeps}
use Rattle.sctp_receiver.proofs.Forwarded.{after-numbers}
use Rattle.sctp_receiver.proofs.HeldBound.{few-chunks, few-duplicates, few-tsns, little}
use Rattle.sctp_receiver.proofs.Inbounds.{stays-changed, stays-mapped}
use Rattle.sctp_receiver.proofs.Receptions.{read-numbers}
use Rattle.sctp_receiver.proofs.StreamCosts.{are_apart, more-apart}
use Rattle.sctp_receiver.specs.declared.receiver.arrival.Arrival.TheVariants.{New, Repeat}
use Rattle.sctp_receiver.specs.declared.receiver.inbound_streams.InboundStream.{InboundStream}
use Rattle.sctp_receiver.specs.declared.receiver.limits.Limits.{Limits}
use Rattle.sctp_receiver.specs.Inbound.{has_number, new_stream, number, numbers_of}
use Rattle.sctp_receiver.specs.Limits.{chunk_cost, cost_of}
use Rattle.sctp_receiver.specs.Receiver.{Reception, after_discard, after_forward, filter_of, is_stale, max_sack_entries, repeat_tsn}
use Rattle.sctp_receiver.specs.Receiver.{with_filter}
use Rattle.sctp_receiver.specs.ReceiverRuns.{Call, Makes, RunsUnrefused, Stand, accepted_after, at_start, chunks_held}
use Rattle.sctp_receiver.specs.ReceiverRuns.{opens, closes, takes, discards, reports, reports_within, reads, resets, forwards, forwards_by_names}
use Rattle.sctp_receiver.specs.Resets.{stream_reset}
use Rattle.sctp_receiver.specs.Skips.{after_forward_tsn, incomplete_forwarded, without_incomplete}
use Rattle.sctp_receiver.specs.TsnFilter.{has_come, with_tsn}
use Rattle.sctp_stream.proofs.Removals.{out-each}
use Rattle.sctp_stream.proofs.StreamPlaces.{numbers-out}
use Rattle.sctp_stream.specs.Numbers.{swapped_out}

-- ## Chunks have few bytes

abbrev IsShort : ChunkPayloadData → Type 0
IsShort c = length c.user_data ≤ most_user_data

all-cons : (c : ChunkPayloadData) (cs : List ChunkPayloadData) → IsShort c → All IsShort cs → All IsShort (c ∷ cs)
all-cons c cs h all zero d lt = h
all-cons c cs h all (suc k) d lt = all k d (omega (arith, lt))

short-after : (n : ℕ) (c : Call) (cs : List ChunkPayloadData) → IsUsual n c → All IsShort cs → All IsShort (accepted_after c cs)
short-after n (takes c (New complete)) cs h all = all-cons c cs h all
short-after n (takes c Repeat) cs h all = all
short-after n (opens s) cs h all = all
short-after n (closes s) cs h all = all
short-after n (discards t) cs h all = all
short-after n reports cs h all = all
short-after n (reports_within b) cs h all = all
short-after n (reads s) cs h all = all
short-after n (resets s l) cs h all = all
short-after n (forwards f) cs h all = all
short-after n (forwards_by_names f) cs h all = all

short-run : (n : ℕ) (calls : List Call) (old new : Stand) → AreUsual n calls → RunsUnrefused old calls new → All IsShort old.accepted → All IsShort new.accepted
short-run n [] old new usual e all = subst (λ (s : Stand). All IsShort s.accepted) (sym e) all
short-run n (c ∷ cs) old new usual r all =
    short-run n cs r.0 new usual.1 r.1.1 (subst (All IsShort) (sym r.1.0.1.accepted) (short-after n c old.accepted usual.0 all))

-- ## Few streams are open

-- no number twice, and each below this one
abbrev pub AreFew : ℕ → List ℕ → Type 0
AreFew n ns = (are_apart ns ≡ true) × AreBelow n ns

abbrev Few : ℕ → Reception → Type 0
Few n r = AreFew n (numbers_of r.streams)

below-more : (n : ℕ) (ls : List InboundStream) (x : InboundStream) → AreBelow n (numbers_of ls) → number x < n → AreBelow n (numbers_of (ls ++ x ∷ []))
below-more n [] x h lt = (lt, tt)
below-more n (l ∷ ls) x h lt = (h.0, below-more n ls x h.1 lt)

below-closed : (n s : ℕ) (ls : List InboundStream) → AreBelow n (numbers_of ls) → AreBelow n (numbers_of (swapped_out (has_number s) ls))
below-closed n s ls h = subst (AreBelow n) (sym (numbers-out number s ls)) (out-each (λ k. k == s) (λ k. k < n) (numbers_of ls) h)

dropped-numbers : (tsn : ℕ) (r : Reception) → numbers_of (after_discard tsn r).streams ≡ numbers_of r.streams
dropped-numbers tsn r = by (has_come tsn (filter_of r))
  where
    by : (b : Bool) → numbers_of (if b then repeat_tsn tsn r else with_filter (with_tsn tsn (filter_of r)) r).streams ≡ numbers_of r.streams
    by true = refl
    by false = refl

skipped-numbers : (f : ForwardTsn) (r : Reception) → numbers_of (after_forward_tsn f r).streams ≡ numbers_of r.streams
skipped-numbers f r = by (is_stale f r) (after-numbers f r)
  where
    by : (b : Bool) → numbers_of (after_forward f r).streams ≡ numbers_of r.streams
        → numbers_of (if b then r else without_incomplete f.new_cumulative_tsn (after_forward f r)).streams ≡ numbers_of r.streams
    by true h = refl
    by false h = stays-mapped number (incomplete_forwarded f.new_cumulative_tsn) (λ l. refl) (after_forward f r).streams ∙ h

few-after : (n : ℕ) (c : Call) (old new : Reception) → IsUsual n c → Makes c old new → Few n old → Few n new
few-after n c old new usual made few = by c usual made
  where
    numbers : Reception → List ℕ
    numbers r = numbers_of r.streams

    same : numbers_of new.streams ≡ numbers_of old.streams → Few n new
    same e = subst (AreFew n) (sym e) few

    by : (c : Call) → IsUsual n c → Makes c old new → Few n new
    by (opens s) usual made = subst (Few n) (sym made.1) (
      more-apart old.streams (new_stream s old.max_message_size) few.0 made.0,
      below-more n old.streams (new_stream s old.max_message_size) few.1 usual,
    )
    by (closes s) usual made = subst (Few n) (sym made) (
      closed-apart s old.streams few.0,
      below-closed n s old.streams few.1,
    )
    by (takes c a) usual made = same (takes-keeps c a old new made).0
    by (discards t) usual made = same (ap numbers made ∙ dropped-numbers t old)
    by reports usual made = same (ap numbers made)
    by (reports_within b) usual made = same (ap numbers made)
    by (reads s) usual made = same (ap numbers made ∙ read-numbers s old)
    by (resets s last) usual made = same (ap numbers made ∙ stays-changed number (stream_reset last) (λ l. refl) (has_number s) old.streams)
    by (forwards f) usual made = same (ap numbers made ∙ skipped-numbers f old)
    by (forwards_by_names f) usual made = same (ap numbers made ∙ after-numbers f old)

few-run : (n : ℕ) (calls : List Call) (old new : Stand) → AreUsual n calls → RunsUnrefused old calls new → Few n old.receiver → Few n new.receiver
few-run n [] old new usual e few = subst (λ (s : Stand). Few n s.receiver) (sym e) few
few-run n (c ∷ cs) old new usual r few = few-run n cs r.0 new usual.1 r.1.1 (few-after n c old.receiver r.0.receiver usual.0 r.1.0.1.receiver few)

-- ## Bounds

module _ (l : Limits) (n : ℕ) (r : Reception) (h : IsReached l n r) where
  pub chunks-held : chunk_cost * chunks_held r ≤ l.window + l.reach * chunk_cost
  chunks-held = subst (λ r. chunk_cost * chunks_held r ≤ l.window + l.reach * chunk_cost) h.there (few-chunks h.tsn h.max l h.calls h.stand h.usize h.run)

  pub bytes-held : sum_by cost_of r.streams ≤ l.window + l.reach * (most_user_data + chunk_cost)
  bytes-held =
      let short = short-run n h.calls (at_start h.tsn h.max (Some l)) h.stand h.usual h.run (λ k d lt. omega (arith, lt)) in
      subst (λ (r : Reception). sum_by cost_of r.streams ≤ l.window + l.reach * (most_user_data + chunk_cost)) h.there
      (little h.tsn h.max l h.calls h.stand h.usize h.run most_user_data short)

  pub tsns-beyond : length r.beyond ≤ l.reach
  tsns-beyond = subst (λ (r : Reception). length r.beyond ≤ l.reach) h.there (few-tsns h.tsn h.max l h.calls h.stand h.usize h.run)

  pub duplicates-noted : length r.duplicates ≤ max_sack_entries
  duplicates-noted = subst (λ (r : Reception). length r.duplicates ≤ max_sack_entries) h.there (few-duplicates h.tsn h.max l h.calls h.stand h.usize h.run)

  pub streams-few : AreFew n (numbers_of r.streams)
  streams-few = subst (Few n) h.there (few-run n h.calls (at_start h.tsn h.max (Some l)) h.stand h.usual h.run (refl, tt))

  pub streams-open : length r.streams ≤ n
  streams-open =
      let less = no-more n (numbers_of r.streams) streams-few.0 streams-few.1 in
      omega (arith, less, length-map r.streams number)
