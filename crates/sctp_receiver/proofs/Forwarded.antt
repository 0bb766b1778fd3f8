-- What a FORWARD-TSN makes of each stream of a receiver: one map over them.
use Rattle.sctp_receiver.proofs.Names.{◌≡◌, refl, ap, ◌∙◌, ℕ, Bool, true, false, List, [], ◌∷◌, map, Some, ◌==◌, if◌then◌else◌, find, option_map, filter}
use Rattle.sctp_receiver.proofs.Names.{change_where, ChunkForwardTsnStream, ForwardTsn, ReassemblyState, after_ordered_skip, InboundStream, number, numbers_of}
use Rattle.sctp_receiver.proofs.Names.{has_number, with_queue, ssn_forwarded, named_forwarded, unassembled_forwarded, Reception, stream_of, follow_forward_tsn}
use Rattle.sctp_receiver.proofs.Names.{after_forward, is_stale}
use Rattle.sctp_receiver.specs.Inbound.{ssns_of}
use Rattle.sctp_receiver.specs.Inbound.{skipped_each, stream_forwarded}
use Rattle.sctp_receiver.proofs.Inbounds.{stays-mapped}
use Rattle.sctp_util.proofs.Getting.{map-twice}

-- ## Skips

pub skipped-number : (ssns : List ℕ) (q : ReassemblyState) → (skipped_each ssns q).si ≡ q.si
skipped-number [] q = refl
skipped-number (ssn ∷ ssns) q = skipped-number ssns (after_ordered_skip ssn q)

pub skipped-size : (ssns : List ℕ) (q : ReassemblyState) → (skipped_each ssns q).max_message_size ≡ q.max_message_size
skipped-size [] q = refl
skipped-size (ssn ∷ ssns) q = skipped-size ssns (after_ordered_skip ssn q)

-- ## Names

-- the first name, and then the others
first-name : (n : ChunkForwardTsnStream) (ns : List ChunkForwardTsnStream) (l : InboundStream)
    → stream_forwarded ns (if has_number n.identifier l then ssn_forwarded n.sequence l else l) ≡ stream_forwarded (n ∷ ns) l
first-name n ns l = by (l.queue.si == n.identifier)
  where
    others : List ChunkForwardTsnStream
    others = filter (λ m. l.queue.si == m.identifier) ns

    by : (b : Bool) → stream_forwarded ns (if b then ssn_forwarded n.sequence l else l)
        ≡ with_queue (skipped_each (map (λ m. m.sequence) (if b then n ∷ others else others)) l.queue) l
    by true = refl
    by false = refl

first-names : (n : ChunkForwardTsnStream) (ns : List ChunkForwardTsnStream) (ls : List InboundStream)
    → map (stream_forwarded ns) (change_where (has_number n.identifier) (ssn_forwarded n.sequence) ls) ≡ map (stream_forwarded (n ∷ ns)) ls
first-names n ns [] = refl
first-names n ns (l ∷ ls) = rw (first-name n ns l) (ap (λ xs. stream_forwarded (n ∷ ns) l ∷ xs) (first-names n ns ls))

no-names : (ls : List InboundStream) → ls ≡ map (stream_forwarded []) ls
no-names [] = refl
no-names (l ∷ ls) = ap (λ xs. l ∷ xs) (no-names ls)

-- each stream discards what the names have for it
pub named-mapped : (ns : List ChunkForwardTsnStream) (ls : List InboundStream) → named_forwarded ns ls ≡ map (stream_forwarded ns) ls
named-mapped [] ls = no-names ls
named-mapped (n ∷ ns) ls = named-mapped ns (change_where (has_number n.identifier) (ssn_forwarded n.sequence) ls) ∙ first-names n ns ls

-- and then the unassembled fragments
pub unassembled-mapped : (tsn : ℕ) (ns : List ChunkForwardTsnStream) (ls : List InboundStream)
    → map (unassembled_forwarded tsn) (named_forwarded ns ls) ≡ map (λ l. unassembled_forwarded tsn (stream_forwarded ns l)) ls
unassembled-mapped tsn ns ls = ap (map (unassembled_forwarded tsn)) (named-mapped ns ls) ∙ map-twice (unassembled_forwarded tsn) (stream_forwarded ns) ls

pub followed-mapped : (f : ForwardTsn) (r : Reception)
    → (follow_forward_tsn f r).streams ≡ map (λ l. unassembled_forwarded f.new_cumulative_tsn (stream_forwarded f.streams l)) r.streams
followed-mapped f r = unassembled-mapped f.new_cumulative_tsn f.streams r.streams

-- ## A stream by its number

pub found-mapped : (s : ℕ) (f : InboundStream → InboundStream) → ((l : InboundStream) → number (f l) ≡ number l) → (ls : List InboundStream)
    → find (has_number s) (map f ls) ≡ option_map f (find (has_number s) ls)
found-mapped s f same [] = refl
found-mapped s f same (l ∷ ls) = ap (λ n. if n == s then Some (f l) else find (has_number s) (map f ls)) (same l)
    ∙ by (has_number s l) (found-mapped s f same ls)
  where
    by : (b : Bool) → find (has_number s) (map f ls) ≡ option_map f (find (has_number s) ls)
        → (if b then Some (f l) else find (has_number s) (map f ls)) ≡ option_map f (if b then Some l else find (has_number s) ls)
    by true rest = refl
    by false rest = rest

pub found-followed : (s : ℕ) (f : ForwardTsn) (r : Reception)
    → stream_of s (follow_forward_tsn f r) ≡ option_map (λ l. unassembled_forwarded f.new_cumulative_tsn (stream_forwarded f.streams l)) (stream_of s r)
found-followed s f r = ap (find (has_number s)) (followed-mapped f r) ∙ found-mapped s
    (λ l. unassembled_forwarded f.new_cumulative_tsn (stream_forwarded f.streams l)) (λ l. skipped-number (ssns_of l.queue.si f.streams) l.queue) r.streams

-- ## What stays

pub stays-named : {B : Type 0} (p : InboundStream → B) (ns : List ChunkForwardTsnStream) → ((l : InboundStream) → p (stream_forwarded ns l) ≡ p l)
    → (ls : List InboundStream) → map p (named_forwarded ns ls) ≡ map p ls
stays-named p ns same ls = ap (map p) (named-mapped ns ls) ∙ stays-mapped p (stream_forwarded ns) same ls

pub named-numbers : (ns : List ChunkForwardTsnStream) (ls : List InboundStream) → numbers_of (named_forwarded ns ls) ≡ numbers_of ls
named-numbers ns ls = stays-named number ns (λ l. skipped-number (ssns_of l.queue.si ns) l.queue) ls

pub followed-numbers : (f : ForwardTsn) (r : Reception) → numbers_of (follow_forward_tsn f r).streams ≡ numbers_of r.streams
followed-numbers f r = stays-mapped number (unassembled_forwarded f.new_cumulative_tsn) (λ l. refl) (named_forwarded f.streams r.streams)
    ∙ named-numbers f.streams r.streams

-- also where it is stale
pub after-numbers : (f : ForwardTsn) (r : Reception) → numbers_of (after_forward f r).streams ≡ numbers_of r.streams
after-numbers f r = by (is_stale f r)
  where
    by : (b : Bool) → numbers_of (if b then r else follow_forward_tsn f r).streams ≡ numbers_of r.streams
    by true = refl
    by false = followed-numbers f r

pub after-size : (f : ForwardTsn) (r : Reception) → (after_forward f r).max_message_size ≡ r.max_message_size
after-size f r = by (is_stale f r)
  where
    by : (b : Bool) → (if b then r else follow_forward_tsn f r).max_message_size ≡ r.max_message_size
    by true = refl
    by false = refl
