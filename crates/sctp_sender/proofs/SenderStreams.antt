-- Which streams of a sender are open, and the fragments of a write.
use Rattle.sctp_sender.proofs.Names.{◌≡◌, ℕ, zero, suc, ◌+◌, ◌<◌, ◌≤◌, Bool, true, false, List, [], ◌∷◌, length, length-append, map, drop, Option, Some, None}
use Rattle.sctp_sender.proofs.Names.{refl, ap, sym, ◌∙◌, arith, subst, ◌==◌, if◌then◌else◌, nat_lt, not, find, is_some, MatchOption, slice_index_or, nat_tests}
use Rattle.sctp_sender.proofs.Names.{get_or_default, sum_by-cons, numbers_from, same-yes, ChunkPayloadData, PayloadProtocolIdentifier, IsMessageOrNone}
use Rattle.sctp_sender.proofs.Names.{bytes_of, OutboundStream, SenderRefusal, QueueFull, Transmission, is_open, write_refusal, is_drained, IsOnlyPlace}
use Rattle.sctp_sender.proofs.Names.{IsAbsent, number, numbers_of, has_number, with_reliability, fragments_with_mode, fragment_at, pieces_of, new_stream, take_all, drop_all}
use Rattle.sctp_sender.proofs.Names.{absent-find, inside, found, map-twice}
use Rattle.sctp_data.specs.PayloadTypes.{is_ordered}
use Rattle.sctp_util.specs.Kept.{numbers_where, always}
use Rattle.sctp_util.specs.Lists.{pieces}
use Rattle.sctp_data.specs.declared.chunk.chunk_payload_data.ReliabilityType.{ReliabilityType}
use Rattle.sctp_outbound.specs.pending_queue.Whole.{IsMessage}
use Rattle.sctp_reassembly.specs.reassembly_queue.Fragments.{payload_of}
use Rattle.sctp_sender.specs.declared.sender.refusal.SenderRefusal.TheVariants.{StreamUnknown, StreamBusy, MessageTooLarge}
use Rattle.sctp_sender.specs.Outgoing.{sole_fragment}
use Rattle.sctp_sender.specs.Sender.{is_full}
use Rattle.sctp_stream.specs.Stream.{fragment}
use Rattle.sctp_sender.specs.Settings.{reset_refusal}

module _ (ls : List OutboundStream) (s : ℕ) where
  pub closed : IsAbsent s (numbers_of ls) → find (has_number s) ls ≡ None
  closed absent = absent-find number ls (numbers_of ls) refl s absent

  pub open-at : (k : ℕ) → IsOnlyPlace s (numbers_of ls) k → is_some (find (has_number s) ls) ≡ true
  open-at k p =
      let x = slice_index_or ls k (new_stream 0 0) in
      ap is_some (found number ls (numbers_of ls) refl s k p x (get_or_default ls k (new_stream 0 0) x (inside number ls (numbers_of ls) refl s k p)))

  pub open-is : (o : Option ℕ) → MatchOption o (IsAbsent s (numbers_of ls)) (IsOnlyPlace s (numbers_of ls)) → is_some (find (has_number s) ls) ≡ is_some o
  open-is None absent = ap is_some (closed absent)
  open-is (Some k) p = open-at k p

-- ## Why a write is refused

module _ (s len : ℕ) (t : Transmission) where
  pub unknown : find (has_number s) t.streams ≡ None → write_refusal s len t ≡ Some StreamUnknown
  unknown e = ap (λ b. if not b then Some StreamUnknown
      else (if nat_lt t.max_message_size len then Some MessageTooLarge else (if is_full len t then Some QueueFull else None))) (ap is_some e)

  module _ (open' : is_open s t ≡ true) where
    pub too-large : t.max_message_size < len → write_refusal s len t ≡ Some MessageTooLarge
    too-large lt =
        let e : nat_lt t.max_message_size len ≡ true = grind (arith, nat_tests, lt) in
        ap (λ b. if not b then Some StreamUnknown
        else (if nat_lt t.max_message_size len then Some MessageTooLarge else (if is_full len t then Some QueueFull else None))) open'
        ∙ ap (λ b. if b then Some MessageTooLarge else (if is_full len t then Some QueueFull else None)) e

    pub by-room : len ≤ t.max_message_size → write_refusal s len t ≡ (if is_full len t then Some QueueFull else None)
    by-room le =
        let e : nat_lt t.max_message_size len ≡ false = grind (arith, nat_tests, le) in
        ap (λ b. if not b then Some StreamUnknown
        else (if nat_lt t.max_message_size len then Some MessageTooLarge else (if is_full len t then Some QueueFull else None))) open'
        ∙ ap (λ b. if b then Some MessageTooLarge else (if is_full len t then Some QueueFull else None)) e

-- ## The fragments of a write are one message

abbrev pub made : OutboundStream → PayloadProtocolIdentifier → List ℕ → ℕ → ChunkPayloadData
made s ppi bytes i = with_reliability s.reliability_type s.reliability_value (fragment_at s ppi bytes i)

pub fragments-made : (s : OutboundStream) (ppi : PayloadProtocolIdentifier) (bytes : List ℕ)
    → fragments_with_mode s ppi bytes ≡ map (made s ppi bytes) (numbers_from 0 (length (pieces_of s bytes)))
fragments-made s ppi bytes =
    map-twice (with_reliability s.reliability_type s.reliability_value) (fragment_at s ppi bytes) (numbers_from 0 (length (pieces_of s bytes)))

message-from : (h : ℕ → ChunkPayloadData) (kind goes : Bool) (i k total : ℕ) → i + suc k ≡ total → (i == 0) ≡ not goes
    → ((j : ℕ) → (h j).beginning_fragment ≡ (j == 0)) → ((j : ℕ) → (h j).ending_fragment ≡ (j + 1 == total)) → ((j : ℕ) → (h j).unordered ≡ kind)
    → IsMessage kind goes (map h (numbers_where always i (suc k)))
message-from h kind goes i zero total e first begins ends same =
    let last : (i + 1 == total) ≡ true = (let z : i + 1 ≡ total = omega (arith, e) in grind (arith, nat_tests)) in
    (begins i ∙ first, ends i ∙ last, same i)
message-from h kind goes i (suc k) total e first begins ends same =
    let more : (i + 1 == total) ≡ false = (let z : i + 1 < total = omega (arith, e) in grind (arith, nat_tests)) in
    let later : (i + 1 == 0) ≡ not true = grind (arith, nat_tests) in
    (begins i ∙ first, ends i ∙ more, same i, message-from h kind true (i + 1) k total (omega (arith, e)) later begins ends same)

count-some : (size : ℕ) (bytes : List ℕ) → 0 < length bytes → (k : ℕ) × (length (pieces (length bytes) size bytes) ≡ suc k)
count-some size [] some = absurd (omega arith)
count-some size (b ∷ bs) some = (length (pieces (length bs) size (drop size (b ∷ bs))), refl)

none-or : (kind : Bool) (xs : List ChunkPayloadData) → IsMessage kind false xs → IsMessageOrNone xs
none-or kind [] m = tt
none-or kind (c ∷ []) m = (m.0, m.1, refl)
none-or kind (c ∷ d ∷ ds) m = let same : c.unordered ≡ kind = m.2 in subst (λ k. IsMessage k false (c ∷ d ∷ ds)) (sym same) m

pub one-message : (s : OutboundStream) (ppi : PayloadProtocolIdentifier) (bytes : List ℕ) → 0 < length bytes → IsMessageOrNone (fragments_with_mode s ppi bytes)
one-message s ppi bytes some =
    let k = count-some s.max_payload_size bytes some in
    let kind = not (is_ordered s.unordered ppi) in
    subst IsMessageOrNone (sym (fragments-made s ppi bytes ∙ ap (λ n. map (made s ppi bytes) (numbers_from 0 n)) k.1))
    (none-or kind (map (made s ppi bytes) (numbers_from 0 (suc k.0)))
    (message-from (made s ppi bytes) kind false 0 k.0 (length (pieces_of s bytes)) (omega (arith, k.1)) (same-yes 0) (λ j. refl) (λ j. refl) (λ j. refl)))

-- ## A write that is one fragment

no-pieces : (most size : ℕ) → pieces most size [] ≡ []
no-pieces zero size = refl
no-pieces (suc most) size = refl

one-piece : (size : ℕ) (bytes : List ℕ) → 0 < length bytes → length bytes ≤ size → pieces (length bytes) size bytes ≡ bytes ∷ []
one-piece size [] some short = absurd (omega arith)
one-piece size (b ∷ bs) some short =
    ap (λ (t : List ℕ). t ∷ pieces (length bs) size (drop size (b ∷ bs))) (take_all size (b ∷ bs) short)
    ∙ ap (λ (d : List ℕ). (b ∷ bs) ∷ pieces (length bs) size d) (drop_all size (b ∷ bs) short)
    ∙ ap (λ (ps : List (List ℕ)). (b ∷ bs) ∷ ps) (no-pieces (length bs) size)

-- the fragments of a write that has some bytes, and at most as many as a fragment
pub sole-is : (s : OutboundStream) (ppi : PayloadProtocolIdentifier) (bytes : List ℕ) → 0 < length bytes → length bytes ≤ s.max_payload_size
    → sole_fragment s ppi bytes ∷ [] ≡ fragments_with_mode s ppi bytes
sole-is s ppi bytes some short =
    sym (ap (λ (ps : List (List ℕ)). map (with_reliability s.reliability_type s.reliability_value)
    (map (λ i. fragment s ppi (i == 0) (i + 1 == length ps) (slice_index_or ps i [])) (numbers_from 0 (length ps))))
    (one-piece s.max_payload_size bytes some short))

-- it is one message
pub sole-message : (s : OutboundStream) (ppi : PayloadProtocolIdentifier) (bytes : List ℕ) → IsMessageOrNone (sole_fragment s ppi bytes ∷ [])
sole-message s ppi bytes = (refl, refl, refl)

-- ## Their bytes

pub bytes-are : (reliability : ReliabilityType) (value : ℕ) (cs : List ChunkPayloadData)
    → bytes_of (map (with_reliability reliability value) cs) ≡ length (payload_of cs)
bytes-are reliability value [] = refl
bytes-are reliability value (c ∷ cs) =
    let a = sum_by-cons (λ (x : ChunkPayloadData). length x.user_data) (with_reliability reliability value c) (map (with_reliability reliability value) cs) in
    let b = bytes-are reliability value cs in
    let d = length-append c.user_data (payload_of cs) in
    omega arith

-- what is refused is not accepted
pub refused-not : (s len : ℕ) (t : Transmission) (e : SenderRefusal) → write_refusal s len t ≡ Some e → len ≡ 0 → write_refusal s 0 t ≡ None → false ≡ true
refused-not s len t e is zero' none = let same : write_refusal s len t ≡ write_refusal s 0 t = ap (λ n. write_refusal s n t) zero' in absurd (cc)

-- ## Why a reset is refused

module _ (s : ℕ) (t : Transmission) where
  pub reset-unknown : find (has_number s) t.streams ≡ None → reset_refusal s t ≡ Some StreamUnknown
  reset-unknown e = ap (λ b. if not b then Some StreamUnknown else (if is_drained s t then None else Some StreamBusy)) (ap is_some e)

  pub reset-known : is_open s t ≡ true → reset_refusal s t ≡ (if is_drained s t then None else Some StreamBusy)
  reset-known e = ap (λ b. if not b then Some StreamUnknown else (if is_drained s t then None else Some StreamBusy)) e

  pub reset-busy : is_open s t ≡ true → is_drained s t ≡ false → reset_refusal s t ≡ Some StreamBusy
  reset-busy e h = reset-known e ∙ ap (λ b. if b then None else Some StreamBusy) h

  pub reset-fine : is_open s t ≡ true → is_drained s t ≡ true → reset_refusal s t ≡ None
  reset-fine e h = reset-known e ∙ ap (λ b. if b then None else Some StreamBusy) h
