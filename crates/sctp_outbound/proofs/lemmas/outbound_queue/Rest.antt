-- The message in front, and whether a message in flight waits too.
use Rattle.std.proofs.Common.{◌≡◌, ◌==◌, ℕ, Bool, true, false, List, [], ◌∷◌, Option, Some, None, slice_get, refl, sym, ap, ◌∙◌, subst, arith}
use Rattle.std.specs.List.{list_any}
use Rattle.std.proofs.lemmas.Option.{none-some}
use Rattle.std.specs.Option.{option_map}
use Rattle.std.proofs.lemmas.Bool.{eq-eqb, false≢true}
use Rattle.std.proofs.lemmas.Bool.Decides.{nat_tests}
use Rattle.sctp_data.specs.declared.chunk.chunk_payload_data.ChunkPayloadData.{ChunkPayloadData}
use Rattle.sctp_outbound.specs.pending_queue.PendingQueue.{Pending, list_of, next_pending}
use Rattle.sctp_outbound.specs.pending_queue.Whole.{GoesOn, IsSendable, partially_sent, stage_of, stand_in_front, waits}
use Rattle.sctp_outbound.proofs.lemmas.outbound_queue.Sendable.{goes_on, made}
use Rattle.sctp_outbound.proofs.lemmas.outbound_queue.SideBySide.{peeked_waits}
use Rattle.sctp_util.proofs.Cases.{or-left}
use Rattle.sctp_util.proofs.More.{fails}
use Rattle.sctp_outbound.specs.declared.pending_queue.Selected.{Selected}
use Rattle.sctp_outbound.specs.Marks.{is_of}
use Rattle.sctp_outbound.proofs.lemmas.pending_queue.Front.{front_stands, none_stands}

module _ (q : Pending) (xs : List ChunkPayloadData) (n m : ℕ) (s : IsSendable q xs n) (partial : waits m q ≡ true → partially_sent q ≡ Some m) where
  front : waits m q ≡ true → GoesOn m (next_pending q)
  front w = goes_on q xs n m s (partial w)

  pub none-in-front : next_pending q ≡ None → false ≡ waits m q
  none-in-front none = sym (fails (waits m q) (λ w. subst (GoesOn m) none (front w)))

  pub in-front : (c : ChunkPayloadData) → next_pending q ≡ Some c → (c.message_id == m) ≡ waits m q
  in-front c is = by (waits m q) (c.message_id == m) refl refl
    where
      by : (w e : Bool) → waits m q ≡ w → (c.message_id == m) ≡ e → e ≡ w
      by true true h k = refl
      by false false h k = refl
      by true false h k =
          let g = subst (GoesOn m) is (front h) in
          sym k ∙ eq-eqb _ _ g.0
      by false true h k =
          let same : c.message_id ≡ m = grind (arith, nat_tests, k) in
          absurd (false≢true (sym h ∙ ap (λ n. waits n q) (sym same) ∙ peeked_waits q.ordered q.unordered q.selected q.ordered_room q.unordered_room c is))

-- ## The message in front

-- in neither list does a chunk of the message stand behind one of another
abbrev pub StandsInFront : ℕ → Pending → Type 0
StandsInFront m q = (stand_in_front m q.ordered ≡ true) × (stand_in_front m q.unordered ≡ true)

first_is_of : (c : ChunkPayloadData) (cs : List ChunkPayloadData) → list_any (is_of c.message_id) (c ∷ cs) ≡ true
first_is_of c cs = let it : is_of c.message_id c ≡ true = grind (arith, nat_tests) in
    or-left (is_of c.message_id c) (list_any (is_of c.message_id) cs) it

some_is : (x c : ChunkPayloadData) → Some x ≡ Some c → x ≡ c
some_is x c h = cc

module _ (sel : Option Selected) (ro ru n : ℕ) (xs : List ChunkPayloadData) where
  unordered_stands : (os us : List ChunkPayloadData) (c : ChunkPayloadData) → IsSendable (made os us sel ro ru) xs n → slice_get us 0 ≡ Some c
      → StandsInFront c.message_id (made os us sel ro ru)
  unordered_stands os [] c s h = absurd (none-some c h)
  unordered_stands os (u ∷ us) c s h = subst (λ (y : ChunkPayloadData). StandsInFront y.message_id (made os (u ∷ us) sel ro ru)) (some_is u c h) (
    none_stands u.message_id os (fails _ (λ e. false≢true (sym (s.apart u.message_id e) ∙ first_is_of u us))),
    front_stands true n (stage_of true sel) u us s.unordered,
  )

  ordered_stands : (os us : List ChunkPayloadData) (c : ChunkPayloadData) → IsSendable (made os us sel ro ru) xs n → slice_get os 0 ≡ Some c
      → StandsInFront c.message_id (made os us sel ro ru)
  ordered_stands [] us c s h = absurd (none-some c h)
  ordered_stands (o ∷ os) us c s h = subst (λ (y : ChunkPayloadData). StandsInFront y.message_id (made (o ∷ os) us sel ro ru)) (some_is o c h) (
    front_stands false n (stage_of false sel) o os s.ordered,
    none_stands o.message_id us (s.apart o.message_id (first_is_of o os)),
  )

next_stands_of : (os us : List ChunkPayloadData) (sel : Option Selected) (ro ru n : ℕ) (xs : List ChunkPayloadData) (c : ChunkPayloadData)
    → IsSendable (made os us sel ro ru) xs n → next_pending (made os us sel ro ru) ≡ Some c → StandsInFront c.message_id (made os us sel ro ru)
next_stands_of os [] None ro ru n xs c s h = ordered_stands None ro ru n xs os [] c s h
next_stands_of os (u ∷ us) None ro ru n xs c s h = unordered_stands None ro ru n xs os (u ∷ us) c s h
next_stands_of os us (Some t) ro ru n xs c s h = by t.unordered h
  where
    by : (k : Bool) → slice_get (list_of k (made os us (Some t) ro ru)) 0 ≡ Some c → StandsInFront c.message_id (made os us (Some t) ro ru)
    by true h = unordered_stands (Some t) ro ru n xs os us c s h
    by false h = ordered_stands (Some t) ro ru n xs os us c s h

-- the message of the chunk that is next stands in front
pub next_stands : (q : Pending) (xs : List ChunkPayloadData) (n m : ℕ) → IsSendable q xs n
    → option_map (λ (c : ChunkPayloadData). c.message_id) (next_pending q) ≡ Some m → StandsInFront m q
next_stands q xs n m s h = by (next_pending q) refl h
  where
    number : (c : ChunkPayloadData) → Some c.message_id ≡ Some m → c.message_id ≡ m
    number c h = cc

    by : (o : Option ChunkPayloadData) → next_pending q ≡ o → option_map (λ (c : ChunkPayloadData). c.message_id) o ≡ Some m → StandsInFront m q
    by None e h = absurd (none-some m h)
    by (Some c) e h =
        subst (λ k. StandsInFront k q) (number c h) (next_stands_of q.ordered q.unordered q.selected q.ordered_room q.unordered_room n xs c s e)

-- and so does the partially sent one
pub partial_stands : (q : Pending) (xs : List ChunkPayloadData) (n m : ℕ) → IsSendable q xs n → partially_sent q ≡ Some m → StandsInFront m q
partial_stands q xs n m s h = by (next_pending q) refl (goes_on q xs n m s h)
  where
    by : (o : Option ChunkPayloadData) → next_pending q ≡ o → GoesOn m o → StandsInFront m q
    by None e g = absurd g
    by (Some c) e g =
        subst (λ k. StandsInFront k q) (g.0) (next_stands_of q.ordered q.unordered q.selected q.ordered_room q.unordered_room n xs c s e)
