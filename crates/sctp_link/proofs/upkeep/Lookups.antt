-- A stream looked up among those that a link keeps.
use Rattle.sctp_link.proofs.Names.{◌≡◌, ℕ, ◌<◌, true, false, List, length, map, Option, Some, None, refl, ap, sym, ◌∙◌, ◌==◌, find, is_some, option_map}
use Rattle.sctp_link.proofs.Names.{slice_index_or, subst, ReassemblyState, LinkRecord, is_open, stream_at, OpenStream, has_number, State, IsLinked}
use Rattle.sctp_link.proofs.Names.{IsOpenStream, stream_record, not_both}
use Rattle.sctp_link.proofs.upkeep.Apart.{number-found, stream-found}
use Rattle.sctp_link.proofs.upkeep.StreamPlaces.{placed}

-- nothing is kept of a stream that is not open
pub none-open : (w : LinkRecord) (s : ℕ) (ls : List OpenStream) → w.streams ≡ map stream_record ls → find (has_number s) ls ≡ None → is_open w s ≡ false
none-open w s ls same e = ap is_some (ap (find (λ r. r.stream == s)) same ∙ stream-found s ls ∙ ap (option_map stream_record) e)

pub some-open : (w : LinkRecord) (s : ℕ) (ls : List OpenStream) (l : OpenStream) → w.streams ≡ map stream_record ls → find (has_number s) ls ≡ Some l
    → stream_at w s ≡ Some (stream_record l)
some-open w s ls l same e = ap (find (λ r. r.stream == s)) same ∙ stream-found s ls ∙ ap (option_map stream_record) e

-- an open one is kept
pub open-kept : (w : LinkRecord) (s : ℕ) (ls : List OpenStream) → w.streams ≡ map stream_record ls → is_open w s ≡ true
    → (l : OpenStream) × (find (has_number s) ls ≡ Some l)
open-kept w s ls same open' = by (find (has_number s) ls) refl
  where
    by : (o : Option OpenStream) → find (has_number s) ls ≡ o → (l : OpenStream) × (find (has_number s) ls ≡ Some l)
    by None e = absurd (not_both (sym (none-open w s ls same e) ∙ open'))
    by (Some l) e = (l, e)

-- what is kept of an open stream, at its place
pub record IsKept (sum : List ℕ → ℕ) (x : State) (s : ℕ) (l : OpenStream) : Type 0 where
  pub is_open : is_open x.recorded s ≡ true
  pub number : l.state.stream_identifier ≡ s
  pub open_stream : IsOpenStream x.recorded l

pub kept-at : {sum : List ℕ → ℕ} {x : State} (s k : ℕ) (l : OpenStream) → x.recorded.streams ≡ map stream_record x.open_streams → IsLinked sum x
    → k < length x.open_streams → find (has_number s) x.open_streams ≡ Some (slice_index_or x.open_streams k l) → l ≡ slice_index_or x.open_streams k l
    → IsKept sum x s l
kept-at {x} s k l same i lt found is = record {
  is_open = ap is_some (some-open x.recorded s x.open_streams l same here);
  number = number-found s x.open_streams l here;
  open_stream = subst (IsOpenStream x.recorded) (sym is) (i.open_streams k l lt);
}
  where
    here : find (has_number s) x.open_streams ≡ Some l
    here = found ∙ ap (λ y. Some y) (sym is)

-- ## The queue of a stream

abbrev queue_in : OpenStream → ReassemblyState
queue_in l = l.inbound.queue

-- there is none
pub queue-none : (s : ℕ) (ls : List OpenStream) → None ≡ option_map queue_in (find (has_number s) ls) → find (has_number s) ls ≡ None
queue-none s ls e = by (find (has_number s) ls) e
  where
    by : (o : Option OpenStream) → None ≡ option_map queue_in o → o ≡ None
    by None h = refl
    by (Some l) h = cc

-- it is that of the stream at a place
pub record QueueAt (s : ℕ) (ls : List OpenStream) (q : ReassemblyState) : Type 0 where
  pub stream : OpenStream
  pub at : ℕ
  pub inside : at < length ls
  pub found : find (has_number s) ls ≡ Some (slice_index_or ls at stream)
  pub queue : q ≡ (slice_index_or ls at stream).inbound.queue

pub queue-at : (s : ℕ) (ls : List OpenStream) (q : ReassemblyState) → Some q ≡ option_map queue_in (find (has_number s) ls) → QueueAt s ls q
queue-at s ls q e = by (find (has_number s) ls) refl e
  where
    by : (o : Option OpenStream) → find (has_number s) ls ≡ o → Some q ≡ option_map queue_in o → QueueAt s ls q
    by None f h = cc
    by (Some l) f h =
        let p = placed s ls l f in
        let same : q ≡ l.inbound.queue = cc in
        record { stream = l; at = p.0; inside = p.1.0; found = f ∙ ap (λ y. Some y) (sym (p.1.1 l)); queue = same ∙ ap queue_in (sym (p.1.1 l)) }
