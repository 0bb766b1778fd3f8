-- What a read hands out.
use Rattle.sctp_model.proofs.Names.{◌≡◌, ℕ, ◌+◌, ◌<◌, true, List, [], ◌∷◌, length, drop, Some, None, refl, ap, sym, ◌∙◌, inl, inr, arith, length-append, Option}
use Rattle.sctp_model.proofs.Names.{◌⊎◌, ◌==◌, ◌&&◌, if◌then◌else◌, option_map, list_any, subst, same-yes, or-left, front-kept, FrontOf, ChunkSet}
use Rattle.sctp_model.proofs.Names.{ChunkPayloadData, bytes_of, LinkRecord, message_at, stream_of, index_of, is_held, next_of, read_of, after_reading}
use Rattle.sctp_model.proofs.Names.{filter_of, set_of, complete_set_of, handed_out, joined_bytes, sum_by-cons, nat_tests}
use Rattle.sctp_reassembly.specs.reassembly_queue.ReassemblyQueue.{at_start}
use Rattle.sctp_model.proofs.refinement.reading.ReadOne.{ReadsComplete, ReadsOrdered}
use Rattle.sctp_model.proofs.refinement.arriving.SpanEnds.{Begins, set-begins, complete-begins}
use Rattle.sctp_reassembly.specs.declared.reassembly_queue.chunks.Chunks.{Chunks}
use Rattle.sctp_model.proofs.refinement.reading.Line
use Rattle.sctp_model.proofs.refinement.Histories.{Facts}

pub filter-read : (w : LinkRecord) (s : ℕ) (o : Option ℕ) → filter_of (read_of w s o) ≡ filter_of w
filter-read w s None = refl
filter-read w s (Some n) = refl

pub front-held : (w : LinkRecord) (s : ℕ) (l : List ℕ) (k : ℕ) (rest : List ℕ) → FrontOf (is_held w s) 0 (length w.messages) l → l ≡ k ∷ rest
    → is_held w s k ≡ true
front-held w s [] k rest f e = cc
front-held w s (j ∷ r) k rest f e = let z : j ≡ k = cc in ap (is_held w s) (sym z) ∙ f.passes

pub joined-length : (cs : List ChunkPayloadData) → length (joined_bytes cs) ≡ bytes_of cs
joined-length [] = refl
joined-length (c ∷ cs) = let more = sum_by-cons (λ (x : ChunkPayloadData). length x.user_data) c cs in
    omega (arith, length-append c.user_data (joined_bytes cs), joined-length cs, more)

-- what is handed out has the payload type of its message
pub ppi-handed : (w : LinkRecord) (n : ℕ) → (handed_out w n).ppi ≡ (message_at w n).ppi
ppi-handed w n = grind (arith, nat_tests)

-- what is read, by its kind
pub record HandsOut (w : LinkRecord) (s n : ℕ) : Type 0 where
  pub begins : Begins w n (handed_out w n).chunks
  pub made : n < length w.messages
  pub stream : (message_at w n).stream ≡ s
  pub next : next_of (after_reading w s) s ≡ (if (message_at w n).ordered && (index_of w n == next_of w s) then index_of w n + 1 else next_of w s)
  pub other : (t : ℕ) → (t ≡ s → ⊥) → next_of (after_reading w s) t ≡ next_of w t
  pub complete : (if (message_at w n).ordered then (stream_of w s).complete else drop 1 (stream_of w s).complete) ≡ drop 1 (stream_of w s).complete

pub hands-complete : {w : LinkRecord} (f : Facts w) (s n : ℕ) → ReadsComplete w s n → HandsOut w s n
hands-complete {w} f s n o =
    let kind = o.unordered in
    let any : list_any (λ k. k == n) (stream_of w s).complete ≡ true = ap (list_any (λ k. k == n)) o.complete
    ∙ or-left (n == n) (list_any (λ k. k == n) o.rest) (same-yes n) in
    let waits = f.valid.unassembled.waits s n any in
    record {
      begins = subst (λ (c : ChunkSet). Begins w n c.chunks) (sym (ap (λ b. if b then set_of w n else complete_set_of w n) kind))
          (complete-begins w s n f.valid.valid f.valid.unassembled f.setup.first any);
      made = waits.made;
      stream = waits.stream;
      next = o.next s ∙ sym (ap (λ b. if b && (index_of w n == next_of w s) then index_of w n + 1 else next_of w s) kind);
      other = λ t ne. o.next t;
      complete = ap (λ b. if b then (stream_of w s).complete else drop 1 (stream_of w s).complete) kind;
    }

pub hands-ordered : {w : LinkRecord} (f : Facts w) (s n : ℕ) → ReadsOrdered w s n → HandsOut w s n
hands-ordered {w} f s n o = grind (arith, nat_tests, Line.on-ordered, front-held, front-kept, set-begins, Line.on-made, Line.on-stream)

pub hands-out : {w : LinkRecord} (f : Facts w) (s n : ℕ) → ReadsComplete w s n ⊎ ReadsOrdered w s n → HandsOut w s n
hands-out f s n (inl o) = hands-complete f s n o
hands-out f s n (inr o) = hands-ordered f s n o

pub none-mapped : (o : Option ChunkSet) → None ≡ option_map at_start o → o ≡ None
none-mapped None e = refl
none-mapped (Some t) e = cc

pub some-mapped : (o : Option ChunkSet) (c : Chunks) → Some c ≡ option_map at_start o → o ≡ Some c.set
some-mapped None c e = cc
some-mapped (Some t) c e = let z : c ≡ at_start t = cc in ap (λ (a : Chunks). Some a.set) (sym z)
