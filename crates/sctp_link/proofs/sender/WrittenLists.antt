-- What the lists of a link are once a write was taken.
use Rattle.sctp_link.proofs.Names.{◌≡◌, ℕ, ◌+◌, ◌<◌, ◌≤◌, ◌^◌, Bool, true, false, List, [], ◌∷◌, ◌++◌, length, map, Option, Some, None, is_some, refl, ap, sym}
use Rattle.sctp_link.proofs.Names.{◌∙◌, arith, ◌==◌, ◌||◌, not, if◌then◌else◌, nat_le, nat_lt, find, subst, map-append, nat_tests, length-mapped}
use Rattle.sctp_link.proofs.Names.{length-kept-le, PayloadProtocolIdentifier, with_message, total_bytes, LinkRefusal, StreamUnknown, is_open, after_write}
use Rattle.sctp_link.proofs.Names.{refusal_of, unless, IsRight, fragments_in, fragments_accepted, unless-holds, write-open, change_where, fragments_with_mode}
use Rattle.sctp_link.proofs.Names.{Transmission, is_full_of, write_refusal, OpenStream, has_number, written_of, wrote_to, Message, stream_record}
use Rattle.sctp_link.proofs.Names.{message_record, progress_of, message_written, State, IsOpenStream, IsLinked, messages-few, LinkRecord}
use Rattle.std.proofs.Common.{option_map}
use Rattle.sctp_model.specs.declared.event.Event.TheVariants as E
use Rattle.sctp_model.specs.declared.event.LinkRefusal.TheVariants.{MessageTooLarge, TsnsUsedUp}
use Rattle.sctp_model.specs.Reply as R
use Rattle.sctp_model.specs.Messages as M
use Rattle.sctp_sender.specs.Outgoing as Outgoing
use Rattle.sctp_sender.proofs.SenderStreams
use Rattle.sctp_sender.specs.declared.sender.refusal.SenderRefusal.TheVariants.{QueueFull}
use Rattle.sctp_link.proofs.upkeep.StreamPlaces.{placed}
use Rattle.sctp_link.proofs.upkeep.Facts.{facts}
use Rattle.sctp_link.proofs.upkeep.Frames.{moved}
use Rattle.sctp_link.proofs.upkeep.Bounds.{queued-few}
use Rattle.sctp_link.proofs.sender.Writing
use Rattle.sctp_link.proofs.upkeep.Lookups.{open-kept}

-- a list that is not empty
pub some-bytes : (bytes : List ℕ) (b : Bool) → b ≡ (length bytes == 0) → b ≡ false → 0 < length bytes
some-bytes bytes b is no' = let e : (length bytes == 0) ≡ false = sym is ∙ no' in grind (arith, nat_tests)

-- the state of a stream is found where the stream is
pub state-found : (s : ℕ) (ls : List OpenStream) → find (Outgoing.has_number s) (map (λ l. l.state) ls) ≡ option_map (λ l. l.state) (find (has_number s) ls)
state-found s [] = refl
state-found s (l ∷ ls) = step (l.state.stream_identifier == s) (state-found s ls)
  where
    step : (b : Bool) → find (Outgoing.has_number s) (map (λ l. l.state) ls) ≡ option_map (λ l. l.state) (find (has_number s) ls) → (if b then Some l.state
        else find (Outgoing.has_number s) (map (λ l. l.state) ls)) ≡ option_map (λ (l : OpenStream). l.state) (if b then Some l else find (has_number s) ls)
    step true e = refl
    step false e = e

module _ {sum : List ℕ → ℕ} {x : State} (l : IsLinked sum x) (s : ℕ) (ppi : PayloadProtocolIdentifier) (bytes : List ℕ) (some : 0 < length bytes)
    (ok : refusal_of x.recorded (E.Write s ppi bytes) ≡ None) (streams : x.recorded.streams ≡ map stream_record x.open_streams) where
  pub write-few : x.written + length bytes < 2 ^ 47
  write-few = by bytes some ok
    where
      by : (bytes : List ℕ) → 0 < length bytes → refusal_of x.recorded (E.Write s ppi bytes) ≡ None → x.written + length bytes < 2 ^ 47
      by [] some ok = absurd (omega arith)
      by (b ∷ bs) some ok = let few = Writing.few l s ppi b bs ok streams in omega (arith, few, l.written)

  pub fits-64 : (n : ℕ) → n ≡ length bytes → x.written + n < 2 ^ 64
  fits-64 n e = omega (arith, write-few, e)

  -- the stream is found
  pub write-on : (m : OpenStream) × (find (has_number s) x.open_streams ≡ Some m)
  write-on = open-kept x.recorded s x.open_streams streams (write-open x.recorded s ppi bytes ok)

  write-small : length bytes ≤ x.recorded.setup.largest
  write-small =
      let large : Option LinkRefusal = unless (nat_lt (fragments_accepted x.recorded + fragments_in x.recorded bytes) (2 ^ 31)) TsnsUsedUp None in
      let a = (unless-holds (is_open x.recorded s) StreamUnknown (unless (nat_le (length bytes) x.recorded.setup.largest) MessageTooLarge large) ok).1 in
      let b = (unless-holds (nat_le (length bytes) x.recorded.setup.largest) MessageTooLarge large a).0 in
      grind (arith, nat_tests)

  module _ (m : OpenStream) (here : find (has_number s) x.open_streams ≡ Some m) where
    i : IsOpenStream x.recorded m
    i = let p = placed s x.open_streams m here in subst (IsOpenStream x.recorded) (p.1.1 m) (l.open_streams p.0 m p.1.0)

    -- there is one more number for an ordered message
    pub next-short : m.ordered + 1 < 2 ^ 64
    next-short =
        omega (
          arith,
          i.ordered,
          length-kept-le (M.is_ordered_on x.recorded m.state.stream_identifier) 0 (length x.recorded.messages),
          messages-few x.recorded.setup x.recorded (facts l).consistent,
        )

    -- the sender takes it
    not-full : is_full_of (length bytes) x.outbound ≡ false
    not-full =
        let queued = queued-few l in
        let few = messages-few x.recorded.setup x.recorded (facts l).consistent in
        let a : nat_lt (x.outbound.next_message_id + 1)
        (2 ^ 64) ≡ true = (let lt : x.outbound.next_message_id + 1 < 2 ^ 64 = omega (arith, l.outbound.next, few) in grind (arith, nat_tests)) in
        let b : nat_lt (total_bytes x.outbound + length bytes) (2 ^ 64) ≡ true =
        (let lt : total_bytes x.outbound + length bytes < 2 ^ 64 = omega (arith, queued, write-few, l.written) in grind (arith, nat_tests)) in
        ap (λ t. not t || not (nat_lt (total_bytes x.outbound + length bytes) (2 ^ 64))) a ∙ ap not b

    pub sender-takes : (t : Transmission) → t.streams ≡ map (λ l. l.state) x.open_streams → t.flight.queue ≡ x.outbound
        → t.max_message_size ≡ x.recorded.setup.largest → write_refusal s (length bytes) t ≡ None
    sender-takes t es eq em =
        SenderStreams.by-room s (length bytes) t
        (ap (λ ls. is_some (find (Outgoing.has_number s) ls)) es ∙ ap is_some (state-found s x.open_streams)
        ∙ ap (λ o. is_some (option_map (λ l. l.state) o)) here)
        (omega (arith, write-small, em)) ∙ ap (λ b. if b then Some QueueFull else None) (ap (is_full_of (length bytes)) eq ∙ not-full)

    abbrev pub kept : Message
    kept = message_written s (written_of m ppi) ppi bytes

    module _ (ms more : List Message) (em : x.recorded.messages ≡ map message_record ms) (es : x.progress ≡ map progress_of ms)
        (e : more ≡ ms ++ kept ∷ []) where
      -- the record once bytes were written, and a link with these parts
      abbrev recorded-then : List ℕ → LinkRecord
      recorded-then bytes = record x.recorded
          { streams = map stream_record (change_where (has_number s) (wrote_to ppi bytes) x.open_streams); messages = map message_record more }

      abbrev state-then : LinkRecord → List ℕ → ℕ → ℕ → State
      state-then w bytes fragments written = record x {
        recorded = w;
        open_streams = change_where (has_number s) (wrote_to ppi bytes) x.open_streams;
        progress = map progress_of more;
        outbound = with_message (fragments_with_mode m.state ppi bytes) x.outbound;
        fragments = fragments;
        written = written;
      }

      pub recorded-wrote : recorded-then bytes ≡ after_write x.recorded s ppi bytes
      recorded-wrote = by bytes some ok e
        where
          by : (bytes : List ℕ) → 0 < length bytes → refusal_of x.recorded (E.Write s ppi bytes) ≡ None
              → more ≡ ms ++ message_written s (written_of m ppi) ppi bytes ∷ [] → recorded-then bytes ≡ after_write x.recorded s ppi bytes
          by [] some ok e = absurd (omega arith)
          by (b ∷ bs) some ok e =
              ap (λ a. record x.recorded { streams = a; messages = map message_record more }) (Writing.streams-wrote l s ppi b bs ok streams m here)
              ∙ ap (λ a. record x.recorded { messages = a }) (Writing.messages-wrote l s ppi b bs ok streams m here ms more em e)

      pub write-right : (number count : ℕ) → number ≡ length ms → count ≡ fragments_in x.recorded bytes
          → IsRight x.recorded (E.Write s ppi bytes) (R.Wrote (Some number) count) (recorded-then bytes)
      write-right number count en ec = record {
        right = ap (λ k. R.Wrote (Some k) count) (en ∙ sym (length-mapped message_record ms) ∙ ap length (sym em))
            ∙ ap (R.Wrote (Some (length x.recorded.messages))) ec
            ∙ sym (ap (λ b. R.Wrote (if b then None else Some (length x.recorded.messages)) (fragments_in x.recorded bytes)) full);
        moves = recorded-wrote;
      }
        where
          full : (length bytes == 0) ≡ false
          full = grind (arith, nat_tests)

      pub linked-wrote : (fragments written count : ℕ) → fragments ≡ x.fragments + count → count ≡ fragments_in x.recorded bytes
          → written ≡ x.written + length bytes → IsLinked sum (state-then (recorded-then bytes) bytes fragments written)
      linked-wrote fragments written count ef ec ew =
          moved sum (state-then (recorded-then bytes) bytes fragments written) (after_write x.recorded s ppi bytes) recorded-wrote
          (by bytes some ok e ec ew)
        where
          by : (bytes : List ℕ) → 0 < length bytes → refusal_of x.recorded (E.Write s ppi bytes) ≡ None
              → more ≡ ms ++ message_written s (written_of m ppi) ppi bytes ∷ [] → count ≡ fragments_in x.recorded bytes → written ≡ x.written + length bytes
              → IsLinked sum (state-then (after_write x.recorded s ppi bytes) bytes fragments written)
          by [] some ok e ec ew = absurd (omega arith)
          by (b ∷ bs) some ok e ec ew =
              Writing.linked-write l s ppi b bs ok streams m here (map progress_of more) fragments written count (ap length es ∙ length-mapped progress_of ms
              ∙ sym (ap length em ∙ length-mapped message_record ms)) (ap (map progress_of) e
              ∙ map-append progress_of ms (message_written s (written_of m ppi) ppi (b ∷ bs) ∷ []) ∙ ap (λ a. a ++ (0, 0) ∷ []) (sym es)) ef ec ew
