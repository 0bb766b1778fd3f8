-- What the counters of a receiver's streams say.
use Rattle.sctp_receiver.proofs.Names.{◌≡◌, ℕ, ◌+◌, Bool, true, false, List, [], ◌∷◌, ◌++◌, map, length, Option, Some, None, refl, ap, sym, ◌∙◌, arith, subst}
use Rattle.sctp_receiver.proofs.Names.{if◌then◌else◌, find, ◌==◌, is_some, option_map, IfSome, option_or, filter, sum_by, eq-eqb, find-append, sum_by-cons}
use Rattle.sctp_receiver.proofs.Names.{change_where, same-is, fails, not_both, ChunkPayloadData, ChunkForwardTsnStream, ChunkSet, ForwardTsn, message_read, New}
use Rattle.sctp_receiver.proofs.Names.{Repeat, InboundStream, number, has_number, new_stream, with_queue, stream_read, ssn_forwarded, named_forwarded}
use Rattle.sctp_receiver.proofs.Names.{unassembled_forwarded, Reception, Accepts, filter_of, with_filter, repeat_tsn, after_discard, message_of, message_on}
use Rattle.sctp_receiver.proofs.Names.{is_stale, stream_of, follow_forward_tsn, after_forward, Call, opens, closes, takes, discards, reports, reports_within}
use Rattle.sctp_receiver.proofs.Names.{reads, resets, forwards, forwards_by_names, Makes, stream_reset, incomplete_forwarded, without_incomplete}
use Rattle.sctp_receiver.proofs.Names.{after_forward_tsn, has_come, with_tsn, bytes_of}
use Rattle.sctp_data.specs.PayloadTypes.{counted_as}
use Rattle.sctp_data.specs.declared.chunk.chunk_payload_data.PayloadProtocolIdentifier.{PayloadProtocolIdentifier}
use Rattle.sctp_data.specs.declared.chunk.chunk_payload_data.PayloadProtocolIdentifier.TheVariants.{Dcep, String, Binary, StringEmpty, BinaryEmpty, Unknown}
use Rattle.sctp_stream.specs.declared.stream.DataChannelStats.{DataChannelStats}
use Rattle.sctp_stream.specs.Stats.{with_received}
use Rattle.sctp_receiver.specs.Inbound.{count_read}
use Rattle.sctp_receiver.specs.Counters.{is_of_channel, channel_bytes, with_read, read_since, stats_on, Count, CountersAreSums}
use Rattle.sctp_receiver.proofs.BesideRuns.{kept}
use Rattle.sctp_receiver.proofs.Closed.{others-left, stays-apart}
use Rattle.sctp_receiver.proofs.Forwarded.{found-mapped}
use Rattle.sctp_receiver.proofs.Handed.{found-changed}
use Rattle.sctp_receiver.proofs.Inbounds.{pushed-number}
use Rattle.sctp_receiver.proofs.Names.{numbers_of}
use Rattle.sctp_receiver.proofs.StreamCosts.{are_apart}
use Rattle.sctp_stream.proofs.Removals.{out-none}
use Rattle.sctp_stream.specs.Numbers.{swapped_out}

-- ## One message

counts-none : (max s : ℕ) → Count [] (new_stream s max).stats
counts-none max s = record { messages = refl; bytes = refl }

counts-one : (set : ChunkSet) (ms : List ChunkSet) (stats : DataChannelStats) → Count ms stats
    → Count (set ∷ ms) (with_received (counted_as set.ppi (bytes_of set.chunks)) stats)
counts-one set ms stats k = by set.ppi refl
  where
    more : sum_by (λ m. channel_bytes m.ppi (bytes_of m.chunks)) (set ∷ ms)
        ≡ channel_bytes set.ppi (bytes_of set.chunks) + sum_by (λ m. channel_bytes m.ppi (bytes_of m.chunks)) ms
    more = sum_by-cons (λ (m : ChunkSet). channel_bytes m.ppi (bytes_of m.chunks)) set ms

    here : (b : Bool) → is_of_channel set.ppi ≡ b → length (filter (λ m. is_of_channel m.ppi) (set ∷ ms))
        ≡ (if b then 1 else 0) + length (filter (λ m. is_of_channel m.ppi) ms)
    here true e = ap (λ b. length (if b then set ∷ filter (λ m. is_of_channel m.ppi) ms else filter (λ m. is_of_channel m.ppi) ms)) e ∙ omega arith
    here false e = ap (λ b. length (if b then set ∷ filter (λ m. is_of_channel m.ppi) ms else filter (λ m. is_of_channel m.ppi) ms)) e ∙ omega arith

    counted : (n : ℕ) → channel_bytes set.ppi (bytes_of set.chunks) ≡ n → is_of_channel set.ppi ≡ true → Count (set ∷ ms) (with_received (Some n) stats)
    counted n e is =
        let h = here true is in
        let m = k.messages in
        let b = k.bytes in
        record { messages = omega (arith, h, m); bytes = omega (arith, more, e, b) }

    uncounted : channel_bytes set.ppi (bytes_of set.chunks) ≡ 0 → is_of_channel set.ppi ≡ false → Count (set ∷ ms) stats
    uncounted e is =
        let h = here false is in
        let m = k.messages in
        let b = k.bytes in
        record { messages = omega (arith, h, m); bytes = omega (arith, more, e, b) }

    by : (p : PayloadProtocolIdentifier) → set.ppi ≡ p → Count (set ∷ ms) (with_received (counted_as p (bytes_of set.chunks)) stats)
    by Dcep e = uncounted (ap (λ q. channel_bytes q (bytes_of set.chunks)) e) (ap is_of_channel e)
    by String e = counted (bytes_of set.chunks) (ap (λ q. channel_bytes q (bytes_of set.chunks)) e) (ap is_of_channel e)
    by Binary e = counted (bytes_of set.chunks) (ap (λ q. channel_bytes q (bytes_of set.chunks)) e) (ap is_of_channel e)
    by StringEmpty e = counted 0 (ap (λ q. channel_bytes q (bytes_of set.chunks)) e) (ap is_of_channel e)
    by BinaryEmpty e = counted 0 (ap (λ q. channel_bytes q (bytes_of set.chunks)) e) (ap is_of_channel e)
    by Unknown e = uncounted (ap (λ q. channel_bytes q (bytes_of set.chunks)) e) (ap is_of_channel e)

counts-read : (o : Option ChunkSet) (ms : List ChunkSet) (stats : DataChannelStats) → Count ms stats → Count (with_read o ms) (count_read o stats)
counts-read None ms stats k = k
counts-read (Some set) ms stats k = counts-one set ms stats k

-- ## A stream by its number

pub found-number : (s : ℕ) (ls : List InboundStream) (x : InboundStream) → find (has_number s) ls ≡ Some x → number x ≡ s
found-number s [] x e = cc
found-number s (l ∷ ls) x e = by (number l == s) refl e (found-number s ls x)
  where
    by : (b : Bool) → (number l == s) ≡ b → (if b then Some l else find (has_number s) ls) ≡ Some x → (find (has_number s) ls ≡ Some x → number x ≡ s)
        → number x ≡ s
    by true h f rest = let same : l ≡ x = cc in sym (ap number same) ∙ same-is (number l) s h
    by false h f rest = rest f

module _ (stream : ℕ) where
  abbrev stats_in : List InboundStream → Option DataChannelStats
  stats_in ls = option_map (λ l. l.stats) (find (has_number stream) ls)

  -- a change that leaves numbers and counters
  mapped-stats : (f : InboundStream → InboundStream) → ((l : InboundStream) → number (f l) ≡ number l) → ((l : InboundStream) → (f l).stats ≡ l.stats)
      → (ls : List InboundStream) → stats_in (map f ls) ≡ stats_in ls
  mapped-stats f same stays ls = ap (option_map (λ l. l.stats)) (found-mapped stream f same ls) ∙ by (find (has_number stream) ls)
    where
      by : (o : Option InboundStream) → option_map (λ l. l.stats) (option_map f o) ≡ option_map (λ l. l.stats) o
      by None = refl
      by (Some l) = ap Some (stays l)

  changed-stats : (s : ℕ) (f : InboundStream → InboundStream) → ((l : InboundStream) → (number l == s) ≡ true → number (f l) ≡ number l)
      → ((l : InboundStream) → (f l).stats ≡ l.stats) → (ls : List InboundStream) → stats_in (change_where (has_number s) f ls) ≡ stats_in ls
  changed-stats s f same stays ls = ap (option_map (λ l. l.stats)) (found-changed s stream f same ls) ∙ by (find (has_number stream) ls)
    where
      one : (b : Bool) (l : InboundStream) → (if b then f l else l).stats ≡ l.stats
      one true l = stays l
      one false l = refl

      by : (o : Option InboundStream)
          → option_map (λ l. l.stats) (option_map (λ l. if has_number s l then f l else l) o) ≡ option_map (λ l. l.stats) o
      by None = refl
      by (Some l) = ap Some (one (has_number s l) l)

  named-stats : (ns : List ChunkForwardTsnStream) (ls : List InboundStream) → stats_in (named_forwarded ns ls) ≡ stats_in ls
  named-stats [] ls = refl
  named-stats (n ∷ ns) ls =
      named-stats ns (change_where (has_number n.identifier) (ssn_forwarded n.sequence) ls)
      ∙ changed-stats n.identifier (ssn_forwarded n.sequence) (λ l e. refl) (λ l. refl) ls

  forwarded-stats : (g : ForwardTsn) (r : Reception) → stats_in (after_forward g r).streams ≡ stats_in r.streams
  forwarded-stats g r = by (is_stale g r)
    where
      by : (b : Bool) → stats_in (if b then r else follow_forward_tsn g r).streams ≡ stats_in r.streams
      by true = refl
      by false =
          mapped-stats (unassembled_forwarded g.new_cumulative_tsn) (λ l. refl) (λ l. refl) (named_forwarded g.streams r.streams)
          ∙ named-stats g.streams r.streams

  skipped-stats : (g : ForwardTsn) (r : Reception) → stats_in (after_forward_tsn g r).streams ≡ stats_in r.streams
  skipped-stats g r = by (is_stale g r)
    where
      by : (b : Bool) → stats_in (if b then r else without_incomplete g.new_cumulative_tsn (after_forward g r)).streams ≡ stats_in r.streams
      by true = refl
      by false =
          mapped-stats (incomplete_forwarded g.new_cumulative_tsn) (λ l. refl) (λ l. refl) (after_forward g r).streams ∙ forwarded-stats g r

  discarded-stats : (t : ℕ) (r : Reception) → stats_in (after_discard t r).streams ≡ stats_in r.streams
  discarded-stats t r = by (has_come t (filter_of r))
    where
      by : (b : Bool) → stats_in (if b then repeat_tsn t r else with_filter (with_tsn t (filter_of r)) r).streams ≡ stats_in r.streams
      by true = refl
      by false = refl

  accepted-stats : (c : ChunkPayloadData) (complete : Bool) (old new : Reception) → Accepts c complete old new
      → stats_in new.streams ≡ stats_in old.streams
  accepted-stats c complete old new a =
      let sid = c.stream_identifier in
      let numbers : (l : InboundStream) → (number l == sid) ≡ true → a.queue.si ≡ number l = λ l e.
      pushed-number c complete a.stream.queue a.queue a.pushed ∙ found-number sid old.streams a.stream a.found
      ∙ sym (same-is (number l) sid e) in
      ap (λ (r : Reception). stats_in r.streams) a.after ∙ changed-stats sid (with_queue a.queue) numbers (λ l. refl) old.streams

  -- ## One call

  abbrev Counted : Reception → List ChunkSet → Type 0
  Counted r ms = IfSome (stats_on stream r) (Count ms)

  stays : (old new : Reception) (ms : List ChunkSet) → stats_in new.streams ≡ stats_in old.streams → Counted old ms → Counted new ms
  stays old new ms e k = subst (λ o. IfSome o (Count ms)) (sym e) k

  opened : (s : ℕ) (r : Reception) (ms : List ChunkSet) → is_some (stream_of s r) ≡ false → Counted r ms
      → IfSome (stats_in (r.streams ++ new_stream s r.max_message_size ∷ [])) (Count (if s == stream then [] else ms))
  opened s r ms none k =
      subst (λ o. IfSome (option_map (λ l. l.stats) o) (Count (if s == stream then [] else ms)))
      (sym (find-append (has_number stream) r.streams (new_stream s r.max_message_size ∷ []))) (by (s == stream) refl)
    where
      not-open : (o : Option InboundStream) → is_some o ≡ false → o ≡ None
      not-open None e = refl
      not-open (Some l) e = cc

      rest : (o : Option InboundStream) → IfSome (option_map (λ l. l.stats) o) (Count ms)
          → IfSome (option_map (λ l. l.stats) (option_or o None)) (Count ms)
      rest None h = tt
      rest (Some l) h = h

      by : (b : Bool) → (s == stream) ≡ b
          → IfSome (option_map (λ l. l.stats) (option_or (stream_of stream r) (if b then Some (new_stream s r.max_message_size) else None)))
          (Count (if b then [] else ms))
      by true e =
          let gone : stream_of stream r ≡ None = not-open (stream_of stream r) (ap (λ n. is_some (stream_of n r)) (sym (same-is s stream e)) ∙ none) in
          subst (λ o. IfSome (option_map (λ l. l.stats) (option_or o (Some (new_stream s r.max_message_size)))) (Count [])) (sym gone)
          (counts-none r.max_message_size s)
      by false e = rest (stream_of stream r) k

  closed : (s : ℕ) (r : Reception) (ms : List ChunkSet) → are_apart (numbers_of r.streams) ≡ true → Counted r ms
      → IfSome (stats_in (swapped_out (has_number s) r.streams)) (Count (if s == stream then [] else ms))
  closed s r ms apart k = by (s == stream) refl
    where
      by : (b : Bool) → (s == stream) ≡ b → IfSome (stats_in (swapped_out (has_number s) r.streams)) (Count (if b then [] else ms))
      by true e =
          subst (λ n. IfSome (stats_in (swapped_out (has_number n) r.streams)) (Count [])) (sym (same-is s stream e))
          (subst (λ o. IfSome (option_map (λ l. l.stats) o) (Count [])) (sym (out-none (has_number stream) r.streams)) tt)
      by false e = subst (λ o. IfSome (option_map (λ l. l.stats) o) (Count ms)) (sym (others-left s stream e r.streams apart)) k

  read : (s : ℕ) (r : Reception) (ms : List ChunkSet) → Counted r ms
      → IfSome (stats_in (change_where (has_number s) stream_read r.streams)) (Count (if s == stream then with_read (message_on s r) ms else ms))
  read s r ms k =
      subst (λ o. IfSome (option_map (λ l. l.stats) o) (Count (if s == stream then with_read (message_on s r) ms else ms)))
      (sym (found-changed s stream stream_read (λ l e. refl) r.streams)) (by (s == stream) refl)
    where
      here : s ≡ stream → (o : Option InboundStream) → stream_of stream r ≡ o → IfSome (option_map (λ l. l.stats) o) (Count ms)
          → IfSome (option_map (λ l. l.stats) (option_map (λ l. if has_number s l then stream_read l else l) o)) (Count (with_read (message_of o) ms))
      here same None f h = tt
      here same (Some l) f h =
          let on : has_number s l ≡ true = eq-eqb (number l) s (found-number stream r.streams l f ∙ sym same) in
          subst (λ b. Count (with_read (message_read l.queue.held) ms) (if b then stream_read l else l).stats) (sym on)
          (counts-read (message_read l.queue.held) ms l.stats h)

      elsewhere : (s == stream) ≡ false → (o : Option InboundStream) → stream_of stream r ≡ o → IfSome (option_map (λ l. l.stats) o) (Count ms)
          → IfSome (option_map (λ l. l.stats) (option_map (λ l. if has_number s l then stream_read l else l) o)) (Count ms)
      elsewhere differ None f h = tt
      elsewhere differ (Some l) f h =
          let off : has_number s l ≡ false = fails (has_number s l)
          (λ t. not_both (sym differ ∙ eq-eqb s stream (sym (same-is (number l) s t) ∙ found-number stream r.streams l f))) in
          subst (λ b. Count ms (if b then stream_read l else l).stats) (sym off) h

      by : (b : Bool) → (s == stream) ≡ b
          → IfSome (option_map (λ l. l.stats) (option_map (λ l. if has_number s l then stream_read l else l) (stream_of stream r)))
          (Count (if b then with_read (message_on s r) ms else ms))
      by true e =
          let same = same-is s stream e in
          subst (λ m. IfSome (option_map (λ l. l.stats) (option_map (λ l. if has_number s l then stream_read l else l) (stream_of stream r)))
          (Count (with_read m ms))) (ap (λ n. message_on n r) (sym same)) (here same (stream_of stream r) refl k)
      by false e = elsewhere e (stream_of stream r) refl k

  step : (c : Call) (old new : Reception) (ms : List ChunkSet) → Makes c old new → are_apart (numbers_of old.streams) ≡ true → Counted old ms
      → Counted new (read_since stream c old ms)
  step (opens s) old new ms m apart k = subst (λ r. Counted r (if s == stream then [] else ms)) (sym m.1) (opened s old ms m.0 k)
  step (closes s) old new ms m apart k = subst (λ r. Counted r (if s == stream then [] else ms)) (sym m) (closed s old ms apart k)
  step (takes c (New complete)) old new ms m apart k = stays old new ms (accepted-stats c complete old new m) k
  step (takes c Repeat) old new ms m apart k = stays old new ms (ap (λ (r : Reception). stats_in r.streams) m) k
  step (discards tsn) old new ms m apart k = stays old new ms (ap (λ (r : Reception). stats_in r.streams) m ∙ discarded-stats tsn old) k
  step reports old new ms m apart k = stays old new ms (ap (λ (r : Reception). stats_in r.streams) m) k
  step (reports_within bytes) old new ms m apart k = stays old new ms (ap (λ (r : Reception). stats_in r.streams) m) k
  step (reads s) old new ms m apart k =
      subst (λ r. Counted r (if s == stream then with_read (message_on s old) ms else ms)) (sym m) (read s old ms k)
  step (resets s last) old new ms m apart k =
      stays old new ms (ap (λ (r : Reception). stats_in r.streams) m
      ∙ changed-stats s (stream_reset last) (λ l e. refl) (λ l. refl) old.streams) k
  step (forwards g) old new ms m apart k = stays old new ms (ap (λ (r : Reception). stats_in r.streams) m ∙ skipped-stats g old) k
  step (forwards_by_names g) old new ms m apart k = stays old new ms (ap (λ (r : Reception). stats_in r.streams) m ∙ forwarded-stats g old) k

  abbrev Keeps : Reception → List ChunkSet → Type 0
  Keeps r ms = (are_apart (numbers_of r.streams) ≡ true) × Counted r ms

  keeps : (c : Call) (old new : Reception) (ms : List ChunkSet) → Makes c old new → Keeps old ms → Keeps new (read_since stream c old ms)
  keeps c old new ms m k = (stays-apart c old new m k.0, step c old new ms m k.0 k.1)

pub sums : CountersAreSums
sums stream tsn max limits calls s ms r = (kept (read_since stream) (Keeps stream) (keeps stream) calls _ s [] ms r (refl, tt)).1
