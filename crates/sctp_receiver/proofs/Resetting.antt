-- A reset of the stream at a place, and streams of which none has what a skip discards without a name.
use Rattle.sctp_receiver.proofs.Names.{◌≡◌, ℕ, true, false, List, [], ◌∷◌, map, Some, refl, ap, ap₂, sym, ◌∙◌, Result, Ok, Err, find, if◌then◌else◌, is_some}
use Rattle.sctp_receiver.proofs.Names.{slice_index_or, slice_set, OnOk, OnErr, IfErr, list_any, change_where, neither, cannot_complete, incomplete_agrees}
use Rattle.sctp_receiver.proofs.Names.{IsOnlyPlace, found, changed, InboundStream, ReceiverRefusal, StreamUnknown, OutOfMemory, number, numbers_of, has_number}
use Rattle.sctp_receiver.proofs.Names.{with_queue, stream_reset, incomplete_forwarded, has_incomplete}
use Rattle.sctp_receiver.specs.Resets.{keeps_message}

pub number-kept : (last : ℕ) (x y : InboundStream) {T E : Type 0} (r : Result T E) → OnOk r (y ≡ stream_reset last x) → OnErr r (y ≡ x) → number y ≡ number x
number-kept last x y (Ok v) ok err = ap number ok
number-kept last x y (Err e) ok err = ap number err

module _ (s last : ℕ) (ls : List InboundStream) (ns : List ℕ) (is : ns ≡ numbers_of ls) (k : ℕ) (p : IsOnlyPlace s ns k) (x y : InboundStream)
    (at : x ≡ slice_index_or ls k x) {T : Type 0} where
  pub resets : (r : Result T ReceiverRefusal) → OnOk r (y ≡ stream_reset last x)
      → OnOk r (slice_set ls k y ≡ change_where (has_number s) (stream_reset last) ls)
  resets (Ok v) ok = changed number ls ns is s k p (stream_reset last) x y at ok
  resets (Err e) ok = tt

  pub wanted : (r : Result T ReceiverRefusal) → OnErr r (keeps_message last (Some x) ≡ true)
      → IfErr r (λ e. e ≡ OutOfMemory → keeps_message last (find (has_number s) ls) ≡ true)
  wanted (Ok v) w = tt
  wanted (Err e) w = λ _. ap (keeps_message last) (found number ls ns is s k p x at) ∙ w

  pub refused : (r : Result T ReceiverRefusal) → IfErr r (λ e. e ≡ OutOfMemory)
      → IfErr r (λ e. e ≡ (if is_some (find (has_number s) ls) then OutOfMemory else StreamUnknown))
  refused (Ok v) memory = tt
  refused (Err e) memory = memory ∙ ap (λ o. if is_some o then OutOfMemory else StreamUnknown) (sym (found number ls ns is s k p x at))

-- where no stream has such a message, none changes
pub none-incomplete : (tsn : ℕ) (ls : List InboundStream) → has_incomplete tsn ls ≡ false → map (incomplete_forwarded tsn) ls ≡ ls
none-incomplete tsn [] h = refl
none-incomplete tsn (l ∷ ls) h =
    let (a, b) = neither (list_any (cannot_complete tsn) l.queue.held.ordered) (has_incomplete tsn ls) h in
    ap₂ (λ q ms. with_queue q l ∷ ms) (incomplete_agrees tsn l.queue a) (none-incomplete tsn ls b)
