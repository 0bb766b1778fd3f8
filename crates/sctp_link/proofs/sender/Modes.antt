-- A stream takes another mode.
use Rattle.sctp_link.proofs.Names.{◌≡◌, ℕ, Bool, List, map, None, refl, ap, sym, ◌∙◌, ◌==◌, if◌then◌else◌, slice_index_or, ReliabilityType, LinkRecord}
use Rattle.sctp_link.proofs.Names.{after_mode, refusal_of, change_where, OpenStream, has_number, on_state, stream_record, State, IsOpenStream, IsLinked}
use Rattle.sctp_link.proofs.Names.{next-kept}
use Rattle.sctp_model.specs.declared.event.Event.TheVariants as E
use Rattle.sctp_model.specs.Changes.{with_mode}
use Rattle.sctp_model.proofs.refinement.arriving.Opened
use Rattle.sctp_sender.specs.Outgoing as Outgoing
use Rattle.sctp_link.proofs.upkeep.Frames.{stream-same, encodings-same, linked-beside}
use Rattle.sctp_link.proofs.upkeep.ChangedStreams.{records-changed, each-changed}
use Rattle.sctp_link.proofs.upkeep.StreamPlaces.{apart-changed}
use Rattle.sctp_link.proofs.upkeep.Facts.{told}

module _ {sum : List ℕ → ℕ} {x : State} (l : IsLinked sum x) (s : ℕ) (unordered : Bool) (reliability : ReliabilityType) (value : ℕ)
    (ok : refusal_of x.recorded (E.Mode s unordered reliability value) ≡ None) (streams : x.recorded.streams ≡ map stream_record x.open_streams) where
  abbrev v : LinkRecord
  v = after_mode x.recorded s unordered reliability value

  kept : (t : OpenStream) → IsOpenStream x.recorded t → IsOpenStream v t
  kept t i =
      stream-same t (record {
        setup = refl;
        held = Opened.mode-same x.recorded s unordered reliability value t.state.stream_identifier;
        ordered = refl;
        next = next-kept (told l) (E.Mode s unordered reliability value) ok tt t.state.stream_identifier;
        amount = refl;
        counters = refl;
      })
      refl i

  changes : (t : OpenStream) → IsOpenStream v t → IsOpenStream v (on_state (Outgoing.with_mode unordered reliability value) t)
  changes t i = record {
    held = i.held;
    si = i.si;
    largest = i.largest;
    size = i.size;
    ordered = i.ordered;
    number = i.number;
    begun = i.begun;
    next = i.next;
    amount = i.amount;
    stats = i.stats;
  }

  -- the streams in the mode
  abbrev pub streams_then : List OpenStream
  streams_then = change_where (has_number s) (on_state (Outgoing.with_mode unordered reliability value)) x.open_streams

  pub mode-moves : map stream_record streams_then ≡ v.streams
  mode-moves =
      records-changed (with_mode unordered reliability value) (on_state (Outgoing.with_mode unordered reliability value)) (λ t. refl) s x.open_streams
      ∙ ap (map (λ r. if r.stream == s then with_mode unordered reliability value r else r)) (sym streams)

  pub linked-mode : IsLinked sum (record x { recorded = v; open_streams = streams_then })
  linked-mode =
      linked-beside l (E.Mode s unordered reliability value) ok v.streams x.recorded.network x.recorded.duplicates refl streams_then x.datagrams x.outbound
      x.filter l.outbound l.unstarted l.filter
      (each-changed (IsOpenStream v) (on_state (Outgoing.with_mode unordered reliability value)) s x.open_streams
      (λ k d lt e. changes (slice_index_or x.open_streams k d) (kept (slice_index_or x.open_streams k d) (l.open_streams k d lt)))
      (λ k d lt ne. kept (slice_index_or x.open_streams k d) (l.open_streams k d lt)))
      (apart-changed s (on_state (Outgoing.with_mode unordered reliability value)) x.open_streams (λ t. refl) l.apart)
      (encodings-same l (E.Mode s unordered reliability value) ok refl)
