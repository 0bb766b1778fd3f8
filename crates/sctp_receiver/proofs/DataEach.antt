-- Several DATA chunks, one after another.
use Rattle.sctp_receiver.proofs.Names.{◌≡◌, ℕ, List, [], ◌∷◌, ◌++◌, take, Some, refl, ap, sym, ◌∙◌, subst, arith, true, false, Bool, inl, inr}
use Rattle.sctp_receiver.proofs.Names.{slice_get, ◌==◌, find, if◌then◌else◌, nat_tests, change_where, ChunkPayloadData, ReassemblyState, Arrival, New, Repeat}
use Rattle.sctp_receiver.proofs.Names.{ReceiverRefusal, OutOfMemory, InboundStream, numbers_of, number, has_number, with_queue, Reception, Takes, TakesFirstBy}
use Rattle.sctp_receiver.proofs.Names.{TakesEach, IsRefusedFor, data_refusal}
use Rattle.std.specs.Prelude.{◌⊎◌}
use Rattle.sctp_receiver.specs.Receiver.{StopsAt}
use Rattle.sctp_receiver.proofs.Inbounds.{pushed-number}

-- one more is taken
pub takes-more : (cs : List ChunkPayloadData) (bs : List Arrival) (c : ChunkPayloadData) (a : Arrival) (old mid new : Reception)
    → TakesEach cs bs old mid → TakesFirstBy data_refusal c a mid new → TakesEach (cs ++ c ∷ []) (bs ++ a ∷ []) old new
takes-more [] [] c a old mid new t f = (new, (subst (λ r. TakesFirstBy data_refusal c a r new) t f, refl))
takes-more [] (b ∷ bs) c a old mid new t f = absurd t
takes-more (d ∷ cs) [] c a old mid new t f = absurd t
takes-more (d ∷ cs) (b ∷ bs) c a old mid new t f = (t.0, (t.1.0, takes-more cs bs c a t.0 mid new t.1.1 f))

-- the next one is refused, or memory ran out
pub stops : (cs : List ChunkPayloadData) (bs : List Arrival) (i : ℕ) (c : ChunkPayloadData) (old mid : Reception) (e : ReceiverRefusal)
    → TakesEach (take i cs) bs old mid → slice_get cs i ≡ Some c → IsRefusedFor (data_refusal c mid) e → (e ≡ OutOfMemory) ⊎ StopsAt cs old e
stops cs bs i c old mid e t at (inl h) = inl h.0
stops cs bs i c old mid e t at (inr h) = inr (record { count = i; arrivals = bs; mid = mid; taken = t; chunk = c; next = at; refused = h })

-- a chunk leaves the numbers of the streams
changed-numbers : (s : ℕ) (q : ReassemblyState) → q.si ≡ s → (ls : List InboundStream)
    → numbers_of (change_where (has_number s) (with_queue q) ls) ≡ numbers_of ls
changed-numbers s q same [] = refl
changed-numbers s q same (l ∷ ls) = ap (λ n. n ∷ numbers_of (change_where (has_number s) (with_queue q) ls)) (one (has_number s l) refl)
    ∙ ap (λ ns. number l ∷ ns) (changed-numbers s q same ls)
  where
    one : (b : Bool) → has_number s l ≡ b → number (if b then with_queue q l else l) ≡ number l
    one true h = let e : l.queue.si ≡ s = grind (arith, nat_tests, h) in same ∙ sym e
    one false h = refl

found-has : (p : InboundStream → Bool) (ls : List InboundStream) (x : InboundStream) → find p ls ≡ Some x → p x ≡ true
found-has p [] x e = cc
found-has p (l ∷ ls) x e = by (p l) refl e (found-has p ls x)
  where
    by : (b : Bool) → p l ≡ b → (if b then Some l else find p ls) ≡ Some x → (find p ls ≡ Some x → p x ≡ true) → p x ≡ true
    by true h f rest = let same : l ≡ x = cc in subst (λ y. p y ≡ true) same h
    by false h f rest = rest f

pub takes-keeps : (c : ChunkPayloadData) (a : Arrival) (old new : Reception) → Takes c a old new
    → (numbers_of new.streams ≡ numbers_of old.streams) × (new.max_message_size ≡ old.max_message_size)
takes-keeps c (New complete) old new t =
    let has : (t.stream.queue.si == c.stream_identifier) ≡ true = found-has (has_number c.stream_identifier) old.streams t.stream t.found in
    let same : t.queue.si ≡ c.stream_identifier = pushed-number c complete t.stream.queue t.queue t.pushed ∙ grind (arith, nat_tests, has) in (
      ap (λ (r : Reception). numbers_of r.streams) t.after ∙ changed-numbers c.stream_identifier t.queue same old.streams,
      ap (λ (r : Reception). r.max_message_size) t.after,
    )
takes-keeps c Repeat old new t = (ap (λ (r : Reception). numbers_of r.streams) t, ap (λ (r : Reception). r.max_message_size) t)
