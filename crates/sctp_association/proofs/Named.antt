-- The streams that a FORWARD-TSN names are opened.
use Rattle.std.proofs.Common.{◌≡◌, ◌==◌, ℕ, ◌<◌, Bool, true, false, List, [], ◌∷◌, ◌++◌, get_or, length, map, Some, Result, Ok, Err, refl, ap, sym, subst, ◌∙◌}
use Rattle.std.proofs.lemmas.Bool.{false≢true}
use Rattle.std.proofs.lemmas.List.Elements.{All-weaker, Contains-get_or}
use Rattle.std.specs.Prelude.{All, Contains, find, is_some, if◌then◌else◌}
use Rattle.sctp_association.proofs.Arriving.{follows_of}
use Rattle.sctp_association.proofs.Opened.{found-last}
use Rattle.sctp_association.specs.Arrivals.{AsksFor, IsNamed, IsOpening, IsOpeningNamed, Received, Receives}
use Rattle.sctp_association.specs.Served.{AreServed, IsServed}
use Rattle.sctp_association.specs.StreamSet.{is_in}
use Rattle.sctp_association.specs.declared.inbound.Inbound.{Inbound}
use Rattle.sctp_chunks.specs.Wire.{forward_tsn_chunk}
use Rattle.sctp_data.specs.declared.chunk.chunk_forward_tsn.ChunkForwardTsnStream.{ChunkForwardTsnStream}
use Rattle.sctp_data.specs.ForwardTsn.{ForwardTsn}
use Rattle.sctp_receiver.proofs.Forwarded.{after-numbers}
use Rattle.sctp_receiver.specs.Calls.{Skips}
use Rattle.sctp_receiver.specs.declared.receiver.arrival.Forwarded.{Forwarded}
use Rattle.sctp_receiver.specs.declared.receiver.inbound_streams.InboundStream.{InboundStream}
use Rattle.sctp_receiver.specs.declared.receiver.refusal.ReceiverRefusal.{ReceiverRefusal}
use Rattle.sctp_receiver.specs.Inbound.{has_number, new_stream, number, numbers_of}
use Rattle.sctp_receiver.specs.Receiver.{Reception, after_forward, is_open, is_stale, open_stream}
use Rattle.sctp_receiver.specs.Skips.{after_forward_tsn, incomplete_forwarded, past_closed_refusal, without_incomplete}
use Rattle.sctp_receiver.specs.ReceiverRuns.{Call, opens}
use Rattle.sctp_util.proofs.Cases.{same-yes}

-- ## What is open

found-still : {X : Type 0} (p : X → Bool) (xs : List X) (y : X) → is_some (find p xs) ≡ true → is_some (find p (xs ++ y ∷ [])) ≡ true
found-still p [] y h = absurd (false≢true h)
found-still p (x ∷ xs) y h = by (p x) (found-still p xs y) h
  where
    by : (b : Bool) → (is_some (find p xs) ≡ true → is_some (find p (xs ++ y ∷ [])) ≡ true) → is_some (if b then Some x else find p xs) ≡ true
        → is_some (if b then Some x else find p (xs ++ y ∷ [])) ≡ true
    by true rest e = refl
    by false rest e = rest e

module _ (s : ℕ) (r q : Reception) (e : q ≡ open_stream s r) where
  pub open_now : is_open s q ≡ true
  open_now = ap (is_open s) e ∙ found-last (has_number s) r.streams (new_stream s r.max_message_size) (same-yes s)

  pub open_still : (n : ℕ) → is_open n r ≡ true → is_open n q ≡ true
  open_still n h = ap (is_open n) e ∙ found-still (has_number n) r.streams (new_stream s r.max_message_size) h

-- what was served is served still
pub served_still : (old new : Inbound) → new.streams ≡ old.streams → ((n : ℕ) → is_in n new.discarded ≡ is_in n old.discarded)
    → ((n : ℕ) → is_open n old.receiver ≡ true → is_open n new.receiver ≡ true) → (n : ℕ) → IsServed n old → IsServed n new
served_still old new streams same still n h few shut =
    still n (h (subst (λ (k : ℕ). n < k) streams few) (sym (same n) ∙ shut))

-- ## What stays open

abbrev numbers-in : ℕ → List ℕ → Bool
numbers-in n [] = false
numbers-in n (m ∷ ms) = if m == n then true else numbers-in n ms

by-numbers : (n : ℕ) (ls : List InboundStream) → is_some (find (has_number n) ls) ≡ numbers-in n (numbers_of ls)
by-numbers n [] = refl
by-numbers n (l ∷ ls) = by (has_number n l) (by-numbers n ls)
  where
    by : (b : Bool) → is_some (find (has_number n) ls) ≡ numbers-in n (numbers_of ls)
        → is_some (if b then Some l else find (has_number n) ls) ≡ (if b then true else numbers-in n (numbers_of ls))
    by true e = refl
    by false e = e

incomplete-numbers : (tsn : ℕ) (ls : List InboundStream) → numbers_of (map (incomplete_forwarded tsn) ls) ≡ numbers_of ls
incomplete-numbers tsn [] = refl
incomplete-numbers tsn (l ∷ ls) = ap (λ ns. number l ∷ ns) (incomplete-numbers tsn ls)

skipped-numbers : (f : ForwardTsn) (r : Reception) → numbers_of (after_forward_tsn f r).streams ≡ numbers_of r.streams
skipped-numbers f r = by (is_stale f r) (after-numbers f r)
  where
    by : (b : Bool) → numbers_of (after_forward f r).streams ≡ numbers_of r.streams
        → numbers_of (if b then r else without_incomplete f.new_cumulative_tsn (after_forward f r)).streams ≡ numbers_of r.streams
    by true e = refl
    by false e = incomplete-numbers f.new_cumulative_tsn (after_forward f r).streams ∙ e

pub skipped-open : (n : ℕ) (f : ForwardTsn) (r : Reception) → is_open n (after_forward_tsn f r) ≡ is_open n r
skipped-open n f r =
    by-numbers n (after_forward_tsn f r).streams ∙ ap (numbers-in n) (skipped-numbers f r) ∙ sym (by-numbers n r.streams)

still-open : (f : ForwardTsn) (r s : Reception) (a : Result Forwarded ReceiverRefusal) → Skips past_closed_refusal f r s a
    → (n : ℕ) → is_open n r ≡ true → is_open n s ≡ true
still-open f r s (Ok x) h n e = ap (is_open n) h.ok ∙ skipped-open n f r ∙ e
still-open f r s (Err x) h n e = ap (is_open n) h.err ∙ e

-- a FORWARD-TSN that is followed closes no stream
pub skipped_served : (f : ForwardTsn) (old : Inbound) (streams : ℕ) (discarded : List Bool) (new : Reception) (a : Result Forwarded ReceiverRefusal)
    → Skips past_closed_refusal f old.receiver new a → streams ≡ old.streams → discarded ≡ old.discarded → AreServed f old
    → All (λ n. n.identifier < streams → is_in n.identifier discarded ≡ false → is_open n.identifier new ≡ true) f.streams
skipped_served f old streams discarded new a h same alike served =
    All-weaker (λ n. IsServed n.identifier old) (λ n. n.identifier < streams → is_in n.identifier discarded ≡ false → is_open n.identifier new ≡ true)
    (λ n s few shut. still-open f old.receiver new a h n.identifier
    (s (subst (λ (k : ℕ). n.identifier < k) same few) (ap (is_in n.identifier) (sym alike) ∙ shut))) f.streams served

-- ## What is called

pub named_at : (f : ForwardTsn) (xs : List ChunkForwardTsnStream) (k : ℕ) (d : ChunkForwardTsnStream) → xs ≡ f.streams → k < length xs
    → IsNamed f (get_or xs k d).identifier
named_at f xs k d e lt =
    record { named = get_or xs k d; own = subst (λ (l : List ChunkForwardTsnStream). Contains l (get_or xs k d)) e (Contains-get_or xs k d lt); is = refl }

module _ (f : ForwardTsn) (stream : ℕ) (named : IsNamed f stream) where
  opening-named : (call : Call) → IsOpening stream call → IsOpeningNamed f call
  opening-named (opens s) e = subst (IsNamed f) (sym e) named
  opening-named _ e = absurd e

  pub named_opened : (r s : Reception) → Received (IsOpening stream) r s → Received (IsOpeningNamed f) r s
  named_opened r s h = follows_of (IsOpening stream) (IsOpeningNamed f) Receives opening-named r s h

named-asked : (f : ForwardTsn) (call : Call) → IsOpeningNamed f call → AsksFor (forward_tsn_chunk f) call
named-asked f (opens stream) e = e
named-asked f _ e = absurd e

pub named_asked : (f : ForwardTsn) (r s : Reception) → Received (IsOpeningNamed f) r s → Received (AsksFor (forward_tsn_chunk f)) r s
named_asked f r s h = follows_of (IsOpeningNamed f) (AsksFor (forward_tsn_chunk f)) Receives (named-asked f) r s h
