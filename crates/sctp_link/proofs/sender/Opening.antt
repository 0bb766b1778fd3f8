-- A stream opens.
use Rattle.sctp_link.proofs.Names.{◌≡◌, ℕ, Bool, true, false, List, [], ◌∷◌, ◌++◌, length, map, Some, None, refl, ap, sym, ◌∙◌, arith, length-append, ◌==◌}
use Rattle.sctp_link.proofs.Names.{if◌then◌else◌, slice_index_or, find, is_some, subst, map-append, get-snoc_old, get-snoc_new, by_last, negated, Reassembly}
use Rattle.sctp_link.proofs.Names.{StreamOpen, LinkRecord, is_open, no_stream, next_of, after_open, refusal_of, unless-holds, begun-closed, next-same}
use Rattle.sctp_link.proofs.Names.{amount-none, counters-none, reassembly_of, OpenStream, has_number, new_open_stream, stream_record, State, IsOpenStream}
use Rattle.sctp_link.proofs.Names.{IsLinked, stats_of, none-of, Facts}
use Rattle.sctp_model.specs.declared.event.Event.TheVariants as E
use Rattle.sctp_model.proofs.refinement.arriving.Opened
use Rattle.sctp_link.proofs.upkeep.Facts.{facts}
use Rattle.sctp_link.proofs.upkeep.Frames.{stream-same, encodings-same, linked-beside}
use Rattle.sctp_link.proofs.upkeep.StreamPlaces.{apart-more}

-- ## Streams among those that are open

-- the stream of a place is open where it is found
pub open-found : (s : ℕ) (ls : List OpenStream) → is_some (find (has_number s) ls) ≡ is_some (find (λ r. r.stream == s) (map stream_record ls))
open-found s [] = refl
open-found s (l ∷ ls) = by (l.state.stream_identifier == s) (open-found s ls)
  where
    by : (b : Bool) → is_some (find (has_number s) ls) ≡ is_some (find (λ r. r.stream == s) (map stream_record ls)) → is_some (if b then Some l
        else find (has_number s) ls) ≡ is_some (if b then Some (stream_record l) else find (λ r. r.stream == s) (map stream_record ls))
    by true e = refl
    by false e = e

-- the record of one more stream
pub streams-more : (s size largest : ℕ) (ls : List OpenStream)
    → map stream_record (ls ++ new_open_stream s size largest ∷ []) ≡ map stream_record ls ++ no_stream s ∷ []
streams-more s size largest ls = map-append stream_record ls (new_open_stream s size largest ∷ [])

-- ## The event

module _ {sum : List ℕ → ℕ} {x : State} (l : IsLinked sum x) (s : ℕ) (ok : refusal_of x.recorded (E.Open s) ≡ None)
    (streams : x.recorded.streams ≡ map stream_record x.open_streams) where
  abbrev v : LinkRecord
  v = after_open x.recorded s

  f : Facts x.recorded
  f = facts l

  closed : is_open x.recorded s ≡ false
  closed = negated (is_open x.recorded s) (unless-holds _ StreamOpen None ok).0

  stream-old : (t : OpenStream) → IsOpenStream x.recorded t → IsOpenStream (after_open x.recorded s) t
  stream-old t i =
      stream-same t (record {
        setup = refl;
        held = Opened.opened-same x.recorded s t.state.stream_identifier closed;
        ordered = refl;
        next = subst (λ u. next_of (after_open u s) t.state.stream_identifier ≡ next_of u t.state.stream_identifier) (sym l.stands.is) (next-same
            x.recorded.setup l.history (E.Open s) t.state.stream_identifier l.setup l.stands.run (ap (λ u. refusal_of u (E.Open s)) (sym l.stands.is) ∙ ok) tt);
        amount = refl;
        counters = refl;
      })
      refl i

  stream-new : IsOpenStream (after_open x.recorded s) (new_open_stream s x.recorded.setup.size x.recorded.setup.largest)
  stream-new =
      let a : reassembly_of (after_open x.recorded s) s ≡ (let q : Reassembly = record { next_ssn = 0; ordered = []; unordered = []; unassembled = [] } in q) =
      Opened.opened-same x.recorded s s closed ∙ Opened.closed-empty x.recorded.setup x.recorded s f.consistent closed in
      let n : next_of (after_open x.recorded s) s ≡ 0 = subst (λ u. next_of (after_open u s) s ≡ next_of u s) (sym l.stands.is)
      (next-same x.recorded.setup l.history (E.Open s) s l.setup l.stands.run (ap (λ u. refusal_of u (E.Open s)) (sym l.stands.is) ∙ ok) tt)
      ∙ Opened.next x.recorded.setup x.recorded s f.consistent closed in
      record {
        held = sym a;
        si = refl;
        largest = refl;
        size = refl;
        ordered = sym (ap length (Opened.line x.recorded.setup x.recorded s f.consistent closed));
        number = refl;
        begun = sym (begun-closed x.recorded.setup x.recorded s f.consistent closed);
        next = sym n;
        amount = sym (amount-none x.recorded.setup x.recorded s f.consistent closed);
        stats = sym (ap stats_of (counters-none x.recorded.setup x.recorded s f.consistent closed));
      }

  -- and no open stream has its number
  pub new-number : find (has_number s) x.open_streams ≡ None
  new-number =
      none-of (find (has_number s) x.open_streams) (open-found s x.open_streams ∙ ap (λ rs. is_some (find (λ r. r.stream == s) rs)) (sym streams) ∙ closed)

  -- the stream that opens
  abbrev pub m : OpenStream
  m = new_open_stream s x.recorded.setup.size x.recorded.setup.largest

  pub linked-open : IsLinked sum (record x { recorded = v; open_streams = x.open_streams ++ m ∷ [] })
  linked-open =
      linked-beside l (E.Open s) ok v.streams x.recorded.network x.recorded.duplicates refl
      (x.open_streams ++ m ∷ []) x.datagrams x.outbound x.filter l.outbound
      l.unstarted l.filter (λ k d lt. by_last {P = IsOpenStream (after_open x.recorded s) (slice_index_or (x.open_streams ++ m ∷ []) k d)} k
      (length x.open_streams) (omega (arith, lt, length-append x.open_streams (m ∷ [])))
      (λ below. subst (IsOpenStream (after_open x.recorded s)) (sym (get-snoc_old x.open_streams m k d (λ z. absurd (omega (arith, below, z)))))
      (stream-old (slice_index_or x.open_streams k d) (l.open_streams k d below)))
      (λ z. subst (IsOpenStream (after_open x.recorded s))
      (sym (ap (λ j. slice_index_or (x.open_streams ++ m ∷ []) j d) z ∙ get-snoc_new x.open_streams m d)) stream-new))
      (apart-more x.open_streams m l.apart new-number) (encodings-same l (E.Open s) ok refl)
