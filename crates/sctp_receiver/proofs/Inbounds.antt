-- What a fragment and a FORWARD-TSN make of the streams of a receiver.
use Rattle.sctp_receiver.proofs.Names.{◌≡◌, sym, ap, ◌∙◌, refl, ℕ, List, [], ◌∷◌, map, Bool, true, false, Some, None, inl, inr, Result, Ok, Err, subst}
use Rattle.sctp_receiver.proofs.Names.{if◌then◌else◌, find, slice_index_or, slice_set, OnErr, IfOk, IfErr, change_where, ChunkPayloadData, ReassemblyState}
use Rattle.sctp_receiver.proofs.Names.{is_too_large, PushUndo, IsOnlyPlace, InboundStream, ReceiverRefusal, MessageTooLarge, OutOfMemory, number, numbers_of}
use Rattle.sctp_receiver.proofs.Names.{has_number, with_queue, Pushes, PushesAs, stream_refusal, IsRefusedFor, found, changed}
use Rattle.sctp_receiver.specs.Inbound.{PushesOn}

pub pushed-number : (c : ChunkPayloadData) (complete : Bool) (old new : ReassemblyState) → Pushes c complete old new → new.si ≡ old.si
pushed-number c complete old new p = by c.unordered p
  where
    by : (b : Bool) → PushesAs b c complete old new → new.si ≡ old.si
    by false e = ap (λ (q : ReassemblyState). q.si) e.0
    by true e = ap (λ (q : ReassemblyState). q.si) e.1

-- what each stream keeps, all keep
module _ {B : Type 0} (p : InboundStream → B) (f : InboundStream → InboundStream) (same : (l : InboundStream) → p (f l) ≡ p l) where
  pub stays-mapped : (ls : List InboundStream) → map p (map f ls) ≡ map p ls
  stays-mapped [] = refl
  stays-mapped (l ∷ ls) = ap (λ x. x ∷ map p (map f ls)) (same l) ∙ ap (λ xs. p l ∷ xs) (stays-mapped ls)

  pub stays-changed : (q : InboundStream → Bool) (ls : List InboundStream) → map p (change_where q f ls) ≡ map p ls
  stays-changed q [] = refl
  stays-changed q (l ∷ ls) = ap (λ x. x ∷ map p (change_where q f ls)) (by (q l)) ∙ ap (λ xs. p l ∷ xs) (stays-changed q ls)
    where
      by : (b : Bool) → p (if b then f l else l) ≡ p l
      by true = same l
      by false = refl

-- a push on the stream at a place
module _ (c : ChunkPayloadData) (ls : List InboundStream) (k : ℕ) (p : IsOnlyPlace c.stream_identifier (numbers_of ls) k) (x y : InboundStream)
    (at : x ≡ slice_index_or ls k x) (rest : y ≡ record x { queue = y.queue }) where
  pub number-stays : (r : Result (Bool × PushUndo) ReceiverRefusal) → IfOk r (λ put. Pushes c put.0 x.queue y.queue) → OnErr r (y ≡ x) → number y ≡ number x
  number-stays (Ok put) ok err = pushed-number c put.0 x.queue y.queue ok
  number-stays (Err e) ok err = ap number err

  pub is-found : find (has_number c.stream_identifier) ls ≡ Some x
  is-found = found number ls (numbers_of ls) refl c.stream_identifier k p x at

  pub pushes : (r : Result (Bool × PushUndo) ReceiverRefusal) → IfOk r (λ put. Pushes c put.0 x.queue y.queue)
      → IfOk r (λ put. PushesOn c put.0 ls (slice_set ls k y))
  pushes (Ok put) ok = record {
    stream = x;
    found = is-found;
    queue = y.queue;
    pushed = ok;
    after = changed number ls (numbers_of ls) refl c.stream_identifier k p (with_queue y.queue) x y at rest;
  }
  pushes (Err e) ok = ok

  pub fits : is_too_large c x.queue ≡ false → stream_refusal c (find (has_number c.stream_identifier) ls) ≡ None
  fits small = ap (stream_refusal c) is-found ∙ ap (λ b. if b then Some MessageTooLarge else None) small

  pub why : (e : ReceiverRefusal) → e ≡ (if is_too_large c x.queue then MessageTooLarge else OutOfMemory)
      → IsRefusedFor (stream_refusal c (find (has_number c.stream_identifier) ls)) e
  why e h = subst (λ o. IsRefusedFor o e) (sym (ap (stream_refusal c) is-found)) (by (is_too_large c x.queue) h)
    where
      by : (b : Bool) → e ≡ (if b then MessageTooLarge else OutOfMemory) → IsRefusedFor (if b then Some MessageTooLarge else None) e
      by true h = inr (ap Some (sym h))
      by false h = inl (h, refl)

  pub refused : {T : Type 0} (r : Result T ReceiverRefusal) → IfErr r (λ e. e ≡ (if is_too_large c x.queue then MessageTooLarge else OutOfMemory))
      → IfErr r (λ e. IsRefusedFor (stream_refusal c (find (has_number c.stream_identifier) ls)) e)
  refused (Ok t) h = h
  refused (Err e) h = why e h
