-- A FORWARD-TSN that counts is followed: what it makes of a link.
use Rattle.sctp_link.proofs.Names.{◌≡◌, ℕ, ◌+◌, ◌<◌, ◌≤◌, false, List, [], ◌∷◌, length, map, Some, None, Result, refl, ap, sym, ◌∙◌, arith, not, true}
use Rattle.sctp_link.proofs.Names.{if◌then◌else◌, OnOk, IfErr, max, slice_get, slice_index_or, is_some, nat_le, subst, nat_tests, ForwardTsn}
use Rattle.sctp_link.proofs.Names.{held_after_unordered_skip, LinkRecord, StreamRecord, Forward, stream_at, tsn_of, cumulative, next_of, named_by}
use Rattle.sctp_link.proofs.Names.{receive_skip, after_arrive, filter_of, refusal_of, after, reassembly_of, seen_of, low_named, end_named, counters_on}
use Rattle.sctp_link.proofs.Names.{with_skip, skip-step, counters-same, ssns_of, skipped_each, Reception, forward_refusal, TsnOpposite, Filter, skipped_to}
use Rattle.sctp_link.proofs.Names.{is_opposite, ReceiverRefusal, Transmission, Standing, OpenStream, join, stream_numbers, on_inbound, forwarded_on, Sides}
use Rattle.sctp_link.proofs.Names.{IsAligned, sides, reception_of, with_filter_of, follow_forward_tsn, after_forward, Named, Message, State, IsLinked}
use Rattle.sctp_link.proofs.Names.{IsOpenStream, stats_of, filter_shown, IsApart, message_record, progress_of, stream_record, named_from, none_named}
use Rattle.sctp_link.proofs.Names.{with_names, standing_named, wire_skip, length-mapped, get_or-map, map-twice, filter-skipped, queue-skip, next-skip}
use Rattle.sctp_link.proofs.Names.{named-from, skipped-number, skipped-size, at_or_before, Skips, skips-in, unless-refused}
use Rattle.sctp_model.specs.declared.event.Event.TheVariants as E
use Rattle.sctp_model.proofs.sender.Network
use Rattle.sctp_model.specs.refinement.Naming.{on_stream}
use Rattle.sctp_model.proofs.refinement.acknowledging.QuietSender
use Rattle.sctp_receiver.specs.Receiver as R
use Rattle.sctp_link.proofs.sides.Aligned.{reception-is, forward-aligned, forward-sides, standing-mapped, with-progress}
use Rattle.sctp_link.proofs.sides.Joined.{progress-mapped}
use Rattle.sctp_link.proofs.receiver.Came.{filter-gone, never-opposite, passed-is}
use Rattle.sctp_link.proofs.upkeep.Facts.{facts}
use Rattle.sctp_link.proofs.upkeep.StreamsAfter.{stream-then, linked-then}
use Rattle.sctp_link.proofs.skips.SkipComes.{names-are, open-at, spans}
use Rattle.sctp_link.proofs.skips.NamesInTurn.{pairs_of, queue-in-turn}

-- a stream after it
abbrev pub skipped_stream : LinkRecord → ℕ → List ℕ → List Message → OpenStream → OpenStream
skipped_stream w upto names ms y = with_names ms names (on_inbound (forwarded_on (wire_skip w upto names).streams (tsn_of w upto)) y)

module _ {sum : List ℕ → ℕ} {x : State} (l : IsLinked sum x) (k upto : ℕ) (names : List ℕ) (none : refusal_of x.recorded (E.Arrive k) ≡ None)
    (e : slice_get x.recorded.network k ≡ Some (Forward upto names)) (counts : cumulative x.recorded ≤ upto) where
  abbrev w : LinkRecord
  w = x.recorded

  abbrev v : LinkRecord
  v = after x.recorded (E.Arrive k)

  pub after-is : v ≡ with_skip w upto names
  after-is = ap (after_arrive w) e ∙ skip-step w upto names counts

  pub frame : Network.Same w v
  frame = Network.same-received w (slice_get w.network k)

  quiet : QuietSender.SameToSender w v
  quiet = subst (QuietSender.SameToSender w) (sym (ap (after_arrive w) e)) (QuietSender.same-skip w upto names)

  counters-stay : (t : ℕ) → counters_on v t ≡ counters_on w t
  counters-stay t = counters-same w.setup w (E.Arrive k) t (facts l).consistent refl refl

  skips : Skips w upto names
  skips = skips-in (facts l) k upto names e

  -- ## Both sides

  module _ (f : ForwardTsn) (y : Sides) (says : f ≡ wire_skip w upto names) (same : x.filter ≡ R.filter_of (reception_of y)) where
    -- its TSN is past what came
    pub never-refused : forward_refusal f (reception_of y) ≡ None
    never-refused =
        let t = facts l in
        ap (λ (g : ForwardTsn). forward_refusal g (reception_of y)) says ∙ ap (λ g. if is_opposite (tsn_of w upto) g then Some TsnOpposite else None) (sym same)
        ∙ ap (λ b. if b then Some TsnOpposite else None) (never-opposite w x.filter t.valid.valid.skipped_made t.few l.filter upto skips.made)

    not-stale : at_or_before (tsn_of w upto) y.cumulative_tsn ≡ false
    not-stale =
        let t = facts l in
        let past : nat_le (cumulative w) upto ≡ true = grind (arith, nat_tests) in
        ap (λ (g : Filter). at_or_before (tsn_of w upto) g.cumulative_tsn) (sym same)
        ∙ passed-is w x.filter t.valid.valid.skipped_made t.few l.filter upto skips.made ∙ ap not past

    -- the streams discard what is named, and it is recorded how far they were named
    pub sides-then : (ms : List Message) (z u : Sides) → z ≡ after_forward f y → u ≡ record z { streams = map (with_names ms names) z.streams }
        → u ≡ record (with_filter_of (skipped_to (tsn_of w upto) (R.filter_of (reception_of y))) y) { streams = map (skipped_stream w upto names ms) y.streams }
    sides-then ms z u a b =
        let one : z ≡ follow_forward_tsn (wire_skip w upto names) y = a ∙ ap (λ (g : ForwardTsn). after_forward g y) says
        ∙ ap (λ c. if c then y else follow_forward_tsn (wire_skip w upto names) y) not-stale in
        b ∙ ap (λ (s : Sides). record s { streams = map (with_names ms names) s.streams }) one
        ∙ ap (λ ls. record (with_filter_of (skipped_to (tsn_of w upto) (R.filter_of (reception_of y))) y) { streams = ls })
        (map-twice (with_names ms names) (on_inbound (forwarded_on (wire_skip w upto names).streams (tsn_of w upto))) y.streams)

  module _ (ms : List Message) (messages_are : x.recorded.messages ≡ map message_record ms) (progress_are : x.progress ≡ map progress_of ms)
      (streams_are : x.recorded.streams ≡ map stream_record x.open_streams) where
    named-is : (s : ℕ) → named_from ms s none_named names ≡ (let r : Named = record { low = low_named w s names; end = end_named w s names } in r)
    named-is s = names-are l ms messages_are progress_are upto s names skips.fit

    abbrev turned : OpenStream → OpenStream
    turned = skipped_stream x.recorded upto names ms

    -- ## The record

    stream-is : (y : OpenStream) → stream_record (turned y) ≡ named_by w names (stream_record y)
    stream-is y =
        ap (λ (n : Named). record (stream_record y) { named = max y.named n.end }) (named-is y.state.stream_identifier)
        ∙ ap (λ m. record (stream_record y) { named = m }) (sym (named-from w y.named (on_stream w y.state.stream_identifier names)))

    streams-are : (ls : List OpenStream) → map stream_record (map turned ls) ≡ map (named_by w names) (map stream_record ls)
    streams-are [] = refl
    streams-are (y ∷ ls) = ap (λ r. r ∷ map stream_record (map turned ls)) (stream-is y) ∙ ap (λ rs. named_by w names (stream_record y) ∷ rs) (streams-are ls)

    pub recorded-skipped : (skipped : ℕ) → skipped ≡ upto + 1 → record w { streams = map stream_record (map turned x.open_streams); skipped = skipped } ≡ v
    recorded-skipped skipped same =
        ap (λ n. record w { streams = map stream_record (map turned x.open_streams); skipped = n }) same
        ∙ ap (λ rs. record w { streams = rs; skipped = upto + 1 }) (streams-are x.open_streams ∙ ap (map (named_by w names)) (sym streams_are)) ∙ sym after-is

    -- ## The streams

    stream-skipped : (y : OpenStream) (r : StreamRecord) → stream_at w y.state.stream_identifier ≡ Some r → IsOpenStream w y → IsOpenStream v (turned y)
    stream-skipped y r o i =
        let s = y.state.stream_identifier in
        let f = facts l in
        let tsn = tsn_of w upto in
        let end = (named_from ms s none_named names).end in
        let end-is : end ≡ end_named w s names = ap (λ (n : Named). n.end) (named-is s) in
        let sp = spans l k upto names none e counts s (ap is_some o) in
        let queue = queue-skip w s upto names r f.valid.valid skips.made counts o sp.0 sp.1 in
        let ssns = ssns_of y.inbound.queue.si (pairs_of w names) in
        stream-then l (E.Arrive k) none frame refl y (turned y) i refl
        (ap (λ t. held_after_unordered_skip tsn (skipped_each (ssns_of t (pairs_of w names)) y.inbound.queue).held) i.si
        ∙ ap (held_after_unordered_skip tsn) (queue-in-turn l k upto names none e counts s r y.inbound.queue o i.held) ∙ sym queue
        ∙ ap (λ u. reassembly_of u s) (sym after-is)) (skipped-number ssns y.inbound.queue)
        (skipped-size ssns y.inbound.queue) refl refl refl refl (ap (λ n. max y.next n) end-is ∙ ap (λ n. max n (end_named w s names)) i.next
        ∙ sym (next-skip w s upto names r f.valid.valid o) ∙ ap (λ u. next_of u s) (sym after-is)) refl (i.stats ∙ ap stats_of (sym (counters-stay s)))

    each-skipped : (j : ℕ) (d : OpenStream) → j < length (map turned x.open_streams) → IsOpenStream v (slice_index_or (map turned x.open_streams) j d)
    each-skipped j d lt =
        let inside : j < length x.open_streams = omega (arith, lt, length-mapped turned x.open_streams) in
        let o = open-at x streams_are j d inside in
        subst (IsOpenStream v) (sym (get_or-map turned x.open_streams j d d inside))
        (stream-skipped (slice_index_or x.open_streams j d) o.0 o.1 (l.open_streams j d inside))

    numbers-same : (ls : List OpenStream) → stream_numbers (map turned ls) ≡ stream_numbers ls
    numbers-same [] = refl
    numbers-same (y ∷ ls) = ap (λ ns. y.state.stream_identifier ∷ ns) (numbers-same ls)

    -- ## The filter

    pub filter-then : (filter : Filter) → filter ≡ skipped_to (tsn_of w upto) x.filter → filter_shown filter ≡ filter_of v
    filter-then filter is =
        filter-gone w v (tsn_of w upto) x.filter filter l.filter is (ap seen_of after-is ∙ filter-skipped w upto (facts l).few skips.made counts)
        (ap (λ u. (filter_of u).duplicates) after-is)

    pub linked-skip : (filter : Filter) (u : LinkRecord) → filter_shown filter ≡ filter_of v → u ≡ v
        → IsLinked sum (record x { recorded = u; open_streams = map turned x.open_streams; filter = filter })
    linked-skip filter u held same =
        linked-then l (E.Arrive k) none frame x.progress (map turned x.open_streams) filter u refl held each-skipped
        (subst IsApart (sym (numbers-same x.open_streams)) l.apart) quiet same

    pub received-follow : (skipped : ℕ) → skipped ≡ upto + 1
        → record w { streams = map stream_record (map turned x.open_streams); skipped = skipped } ≡ receive_skip w upto names
    received-follow skipped count = recorded-skipped skipped count ∙ ap (after_arrive w) e

    pub linked-follow : (skipped : ℕ) (filter : Filter) → skipped ≡ upto + 1 → filter ≡ skipped_to (tsn_of w upto) x.filter → IsLinked sum (record x {
      recorded = record w { streams = map stream_record (map turned x.open_streams); skipped = skipped };
      open_streams = map turned x.open_streams;
      filter = filter;
    })
    linked-follow skipped filter count is =
        linked-skip filter (record w { streams = map stream_record (map turned x.open_streams); skipped = skipped }) (filter-then filter is)
        (recorded-skipped skipped count)

module _ {t : Transmission} {r : Reception} (s : Reception) {ps : List Standing} (a : IsAligned t r ps) (f : ForwardTsn)
    (none : forward_refusal f (reception_of (sides t r ps)) ≡ None) where
  module _ {T : Type 0} (res : Result T ReceiverRefusal) (ok : OnOk res (s ≡ R.after_forward f r))
      (refused : IfErr res (λ e. forward_refusal f r ≡ Some e)) where
    takes : s ≡ R.after_forward f r
    takes = unless-refused res (forward_refusal f r) ok refused (ap (forward_refusal f) (sym (reception-is a)) ∙ none)

    pub followed-aligned : IsAligned t s ps
    followed-aligned = forward-aligned a f s takes

    pub followed-sides : sides t s ps ≡ after_forward f (sides t r ps)
    followed-sides = forward-sides a f s takes

-- and it is recorded how far the messages of each stream were named
module _ {t : Transmission} {r : Reception} {ps : List Standing} (a : IsAligned t r ps) (ms : List Message) (names : List ℕ) where
  pub named-aligned : IsAligned t r (map (standing_named ms names) ps)
  named-aligned = with-progress a _ (standing-mapped (standing_named ms names) (λ p. refl) ps)

  pub named-sides : sides t r (map (standing_named ms names) ps) ≡ record (sides t r ps) { streams = map (with_names ms names) (sides t r ps).streams }
  named-sides =
      ap (λ ls. let y : Sides = record (sides t r ps) { streams = ls } in y)
      (progress-mapped (standing_named ms names) (with_names ms names)
      (λ s i p same. ap (λ n. join s i (let x : Standing =
      record p { next = max p.next (named_from ms n none_named names).end; named = max p.named (named_from ms n none_named names).end } in x)) (sym same))
      t.streams r.streams ps a.progresses)
