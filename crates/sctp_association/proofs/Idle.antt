-- When nothing was put into a packet, and why.
use Rattle.std.proofs.Common.{◌≡◌, ◌≢◌, ◌⊎◌, inl, inr, ℕ, ◌+◌, ◌*◌, ◌-◌, ◌<◌, ◌≤◌, Bool, true, false, List, [], ◌∷◌, ◌++◌, length, Option, Some, None, Result}
use Rattle.std.proofs.Common.{Ok, Err, refl, ap, sym, subst}
use Rattle.std.proofs.Common.{◌∙◌, arith, length-append}
use Rattle.std.specs.Prelude.{◌^◌, IfOk, IfSome, OnOk, find, if◌then◌else◌, max, min, slice_get}
use Rattle.std.specs.List.{count_by}
use Rattle.std.specs.Option.{option_map}
use Rattle.std.proofs.lemmas.Bool.{false≢true, leb-true, le-leb}
use Rattle.std.proofs.lemmas.List.Concat.{flat_map-append, flat_map-cons}
use Rattle.std.proofs.lemmas.List.Sums.{sum_by-cons}
use Rattle.sctp_association.proofs.Making.{of-some, some-none, told-once}
use Rattle.sctp_association.specs.declared.outbound.Outbound.{Outbound}
use Rattle.sctp_association.specs.Idle.{IsMarkedBehind, SendsNoneAgain, SendsNoneNew, WaitsBehind, WaitsForSacks, in_flight}
use Rattle.sctp_association.specs.Packets.{Adds, with_chunks}
use Rattle.sctp_association.specs.Sending.{flight_of, marked_in}
use Rattle.sctp_chunks.proofs.Lengths.{length_data_value, length_sack_value}
use Rattle.sctp_chunks.specs.Params.{padded_param, params_encoding}
use Rattle.sctp_chunks.specs.Wire.{HasEncoding, HasForm, Wire, cookie_ack_chunk, data_chunk, heartbeat_chunk, sack_chunk, shutdown_ack_chunk, shutdown_chunk}
use Rattle.sctp_chunks.specs.Wire.{value_of}
use Rattle.sctp_data.specs.declared.chunk.chunk_payload_data.ChunkPayloadData.{ChunkPayloadData}
use Rattle.sctp_data.specs.PayloadData.{data_of}
use Rattle.sctp_data.specs.SelectiveAck.{Sack}
use Rattle.sctp_outbound.specs.declared.pending_queue.Selected.{Selected}
use Rattle.sctp_outbound.specs.Outstanding.{outstanding_of}
use Rattle.sctp_outbound.specs.pending_queue.PendingQueue.{Pending, chunk_count, front_of, list_of, next_pending, next_pending_of}
use Rattle.sctp_packets.proofs.Sealed.{length_head_encoding}
use Rattle.sctp_packets.proofs.Written.{length_padded_encoding}
use Rattle.sctp_packets.specs.Draft.{IsDraft}
use Rattle.sctp_packets.specs.Packet.{Parts, body_of, head_of, padded_encoding}
use Rattle.sctp_delivery.specs.SenderCalls.{next_chunk}
use Rattle.sctp_params.proofs.ParamLengths.{length_param_encoding}
use Rattle.sctp_params.specs.Param.{Parameter, heartbeat_info}
use Rattle.sctp_path.specs.Timers.{Delay}
use Rattle.sctp_sender.proofs.Sent.{as-noted}
use Rattle.sctp_sender.specs.Flight.{Flight}
use Rattle.sctp_sender.specs.Resending.{count_again, fits, if_it_fits, is_to_resend, next_within, sent_again}
use Rattle.sctp_sender.specs.Sender.{Transmission}
use Rattle.sctp_serial.specs.DataChunks.{has_tsn}
use Rattle.sctp_util.proofs.Fields.{length_be32}
use Rattle.sctp_util.specs.Padding.{four_zeroes, padded_length, padding_of}

-- ## What is found

one-more : {X : Type 0} (p : X → Bool) (x : X) (xs : List X) → count_by p (x ∷ xs) ≡ (if p x then 1 else 0) + count_by p xs
one-more p x xs = sum_by-cons (λ c. if p c then 1 else 0) x xs

found-first : {X : Type 0} (p : X → Bool) (x : X) (xs : List X) (b : Bool) → p x ≡ b → count_by p (x ∷ xs) ≡ 0 → find p xs ≡ None → find p (x ∷ xs) ≡ None
found-first p x xs true is e rest = absurd (omega (arith, e, one-more p x xs, ap {B = ℕ} (λ b. if b then 1 else 0) is))
found-first p x xs false is e rest = rw is rest

-- none is found where none is counted
pub none_found : {X : Type 0} (p : X → Bool) (xs : List X) → count_by p xs ≡ 0 → find p xs ≡ None
none_found p [] e = refl
none_found p (x ∷ xs) e = found-first p x xs (p x) refl e (none_found p xs (omega (arith, e, one-more p x xs)))

pub if_none : (P : ChunkPayloadData → Type 0) (o : Option ChunkPayloadData) → o ≡ None → IfSome o P
if_none P o e = subst (λ o. IfSome o P) (sym e) tt

-- ## What waits

no_front : (xs ys : List ChunkPayloadData) → length ys + length xs ≡ 0 → front_of xs ys ≡ None
no_front [] [] e = refl
no_front [] (y ∷ ys) e = absurd (omega (arith, e))
no_front (x ∷ xs) ys e = absurd (omega (arith, e))

no_first : (xs : List ChunkPayloadData) → length xs ≡ 0 → slice_get xs 0 ≡ None
no_first [] e = refl
no_first (x ∷ xs) e = absurd (omega (arith, e))

no-next : (q : Pending) (s : Option Selected) → length q.ordered + length q.unordered ≡ 0 → next_pending_of s q ≡ None
no-next q None e = no_front q.unordered q.ordered e
no-next q (Some s) e = by s.unordered
  where
    by : (b : Bool) → slice_get (list_of b q) 0 ≡ None
    by true = no_first q.unordered (omega (arith, e))
    by false = no_first q.ordered (omega (arith, e))

pub none_waits : (q : Pending) → chunk_count q ≡ 0 → next_pending q ≡ None
none_waits q e = no-next q q.selected e

pub waits_not : (room : ℕ) (t : Transmission) → (0 < marked_in t) ⊎ (chunk_count t.flight.queue.pending ≡ 0) → marked_in t ≡ 0 → WaitsBehind room t
waits_not room t (inl there) e = absurd (omega (arith, there, e))
waits_not room t (inr none) e =
    if_none (λ c. fits room c ≡ true → in_flight t ≢ []) (next_pending t.flight.queue.pending) (none_waits t.flight.queue.pending none)

pub none_marked : (room : ℕ) (t : Transmission) → (outstanding_of (in_flight t)).marked ≡ 0 → IsMarkedBehind room t
none_marked room t e = if_none (λ c. fits room c ≡ true → 0 < flight_of (in_flight t)) (find is_to_resend (in_flight t))
    (none_found is_to_resend (in_flight t) e)

-- ## What fits

unfit-by : (P : Type 0) (c : ChunkPayloadData) (b : Bool) → (if b then Some c else None) ≡ None → b ≡ true → P
unfit-by P c true e h = absurd (some-none c e)
unfit-by P c false e h = absurd (false≢true h)

-- what is none fits nowhere
pub unfit : (room : ℕ) (P : Type 0) (o : Option ChunkPayloadData) → if_it_fits room o ≡ None → IfSome o (λ c. fits room c ≡ true → P)
unfit room P None e = tt
unfit room P (Some c) e = unfit-by P c (fits room c) e

padding_16 : (n : ℕ) → padding_of (16 + n) ≡ padding_of n
padding_16 n = omega arith

-- a DATA chunk that fits can be put
pub data_fits : (c : ChunkPayloadData) (old limit : ℕ) → fits (limit - old) c ≡ true → limit ≤ 65535
    → HasEncoding (data_chunk (data_of c)) × (old + length (padded_encoding (data_chunk (data_of c))) ≤ limit)
data_fits c old limit fit most =
    let w : Wire = data_chunk (data_of c) in
    let le = leb-true _ (limit - old) fit in
    let value = length_data_value (data_of c) in
    let four : 4 + length (value_of w) ≡ 16 + length c.user_data = omega (arith, value) in
    let zeros = ap padding_of four ∙ padding_16 (length c.user_data) in
    ((tt, omega (arith, le, most, value)), omega (arith, le, four, zeros, length_padded_encoding w))

-- so can a SACK, where there is no other chunk
pub sack_fits : (s : Sack) (old limit : ℕ) → 16 + 4 * (length s.gap_ack_blocks + length s.duplicate_tsn) ≤ max 16 (limit - old)
    → length s.gap_ack_blocks + length s.duplicate_tsn ≤ 16379 → old ≤ 12 → 28 ≤ limit
    → HasEncoding (sack_chunk s) × (old + length (padded_encoding (sack_chunk s)) ≤ limit)
sack_fits s old limit fit few head least =
    let w : Wire = sack_chunk s in
    let value = length_sack_value s in
    let four : 4 + length (value_of w) ≡ 4 * (4 + (length s.gap_ack_blocks + length s.duplicate_tsn)) = omega (arith, value) in
    let zeros : padding_of (4 + length (value_of w)) ≡ 0 = ap padding_of four ∙ omega arith in
    ((tt, omega (arith, few, value)), omega (arith, fit, head, least, four, zeros, length_padded_encoding w))

-- so can a chunk of so few bytes, without padding
small-fits : (k : ℕ) (w : Wire) (old limit : ℕ) → HasForm w → 4 + length (value_of w) ≡ k → padding_of k ≡ 0 → k ≤ 16 → old ≤ 12 → 28 ≤ limit
    → HasEncoding w × (old + length (padded_encoding w) ≤ limit)
small-fits k w old limit form size none few head least =
    let zeros : padding_of (4 + length (value_of w)) ≡ 0 = ap padding_of size ∙ none in
    ((form, omega (arith, size, few)), omega (arith, size, few, head, least, zeros, length_padded_encoding w))

-- a HEARTBEAT with eight bytes
length-info : (ps : List Parameter) (info : List ℕ) → ps ≡ heartbeat_info info ∷ [] → length info ≡ 8 → 4 + length (params_encoding true ps) ≡ 16
unfolding params_encoding padded_param
length-info ps info is eight =
    ap (λ (qs : List Parameter). 4 + length (params_encoding true qs)) is ∙ omega (arith, length_param_encoding (heartbeat_info info), eight)

-- COOKIE-ACK, SHUTDOWN-ACK, SHUTDOWN and HEARTBEAT are put where there is no other chunk
module _ (old new : List ℕ) (limit : ℕ) (put : Bool) (grown : length old ≤ length new) (head : 12 ≤ length old) (short : length new ≤ 12)
    (least : 28 ≤ limit) (not : put ≡ false) where
  small-put : (k : ℕ) (w : Wire) → HasForm w → 4 + length (value_of w) ≡ k → padding_of k ≡ 0 → k ≤ 16
      → (HasEncoding w → 12 ≤ length old → length old + length (padded_encoding w) ≤ limit → put ≡ true) → ⊥
  small-put k w form size none few fits =
      let h = small-fits k w (length old) limit form size none few (omega (arith, grown, short)) least in
      false≢true (sym not ∙ fits h.0 head h.1)

  pub cookie_ack_put : (HasEncoding cookie_ack_chunk → 12 ≤ length old → length old + length (padded_encoding cookie_ack_chunk) ≤ limit → put ≡ true) → ⊥
  cookie_ack_put fits = small-put 4 cookie_ack_chunk tt refl refl (omega arith) fits

  pub shutdown_ack_put : (HasEncoding shutdown_ack_chunk → 12 ≤ length old → length old + length (padded_encoding shutdown_ack_chunk) ≤ limit → put ≡ true)
      → ⊥
  shutdown_ack_put fits = small-put 4 shutdown_ack_chunk tt refl refl (omega arith) fits

  pub shutdown_put : (n : ℕ)
      → (HasEncoding (shutdown_chunk n) → 12 ≤ length old → length old + length (padded_encoding (shutdown_chunk n)) ≤ limit → put ≡ true) → ⊥
  shutdown_put n fits = small-put 8 (shutdown_chunk n) tt (omega (arith, length_be32 n)) refl (omega arith) fits

  pub heartbeat_put : (ps : List Parameter) (info : List ℕ) → ps ≡ heartbeat_info info ∷ [] → length info ≡ 8
      → (HasEncoding (heartbeat_chunk ps) → 12 ≤ length old → length old + length (padded_encoding (heartbeat_chunk ps)) ≤ limit → put ≡ true) → ⊥
  heartbeat_put ps info is eight fits = small-put 16 (heartbeat_chunk ps) tt (length-info ps info is eight) refl (omega arith) fits

-- a report is due no more, where the packet has no chunk
pub none_or : (P Q : Type 0) (n : ℕ) → P ⊎ (Q × (12 < n)) → n ≤ 12 → P
none_or P Q n (inl p) short = p
none_or P Q n (inr w) short = absurd (omega (arith, w.1, short))

-- what was not due is not where it stays so
pub no_shutdown : (x y : Bool) (d e : Option Delay) → (x ≡ false → y ≡ false) → e ≡ d → (x ≡ false) ⊎ (d ≡ None) → (y ≡ false) ⊎ (e ≡ None)
no_shutdown x y d e stays same (inl none) = inl (stays none)
no_shutdown x y d e stays same (inr none) = inr (same ∙ none)

-- ## What is sent

resent-if : (now room : ℕ) (chunk c : ChunkPayloadData) (b : Bool) → fits room c ≡ b
    → Some chunk ≡ option_map (λ c. sent_again (count_again c) now c) (if b then Some c else None) → fits room chunk ≡ true
resent-if now room chunk c true is e = subst (λ m. fits room m ≡ true) (sym (of-some chunk (sent_again (count_again c) now c) e)) is
resent-if now room chunk c false is e = absurd (some-none chunk e)

resent-by : (now room : ℕ) (chunk : ChunkPayloadData) (o : Option ChunkPayloadData)
    → Some chunk ≡ option_map (λ c. sent_again (count_again c) now c) (if_it_fits room o) → fits room chunk ≡ true
resent-by now room chunk None e = absurd (some-none chunk e)
resent-by now room chunk (Some c) e = resent-if now room chunk c (fits room c) refl e

-- what is sent again fits
pub resent_fits : (now room : ℕ) (f : Flight) (chunk : ChunkPayloadData)
    → Some chunk ≡ option_map (λ c. sent_again (count_again c) now c) (next_within room f) → fits room chunk ≡ true
resent_fits now room f chunk e = resent-by now room chunk (find is_to_resend f.queue.inflight.chunks) e

-- what waited fits once it is sent
pub sent_fits : (now room : ℕ) (t : Transmission) (c chunk : ChunkPayloadData) → next_pending t.flight.queue.pending ≡ Some c → Some chunk ≡ next_chunk now t
    → fits room c ≡ true → fits room chunk ≡ true
sent_fits now room t c chunk e is h =
    subst (λ (m : ChunkPayloadData). fits room m ≡ true) (as-noted t.flight.queue t.flight.next_tsn now c chunk e is) h

-- where it was found to fit
pub fits_so : (n room : ℕ) (c : ChunkPayloadData) → n ≡ min (16 + padded_length (length c.user_data)) (2 ^ 64 - 1) → n ≤ room → room ≤ 65535
    → fits room c ≡ true
fits_so n room c is le most = le-leb _ room (omega (arith, is, le, most))

-- what is sent fits, where it is lent by its TSN
pub lent_fits : (now room : ℕ) (t u : Transmission) (tsn : ℕ) (peeked chunk : ChunkPayloadData)
    → Some tsn ≡ option_map (λ _. t.flight.next_tsn) (next_pending t.flight.queue.pending)
    → (next_pending t.flight.queue.pending ≢ None → find (has_tsn t.flight.next_tsn) u.flight.queue.inflight.chunks ≡ next_chunk now t)
    → Some chunk ≡ find (has_tsn tsn) u.flight.queue.inflight.chunks → next_pending t.flight.queue.pending ≡ Some peeked → fits room peeked ≡ true
    → fits room chunk ≡ true
lent_fits now room t u tsn peeked chunk answer noted lent e fit =
    let told = told-once t.flight.next_tsn tsn (next_pending t.flight.queue.pending) answer in
    sent_fits now room t peeked chunk e (lent ∙ ap (λ n. find (has_tsn n) u.flight.queue.inflight.chunks) told.0 ∙ noted told.1) fit

-- ## A packet gets no shorter

pub put_longer : (w : Wire) (old new : List ℕ) → new ≡ old ++ padded_encoding w → 12 ≤ length old → 12 < length new
put_longer w old new e head = omega (arith, head, ap length e, length-append old (padded_encoding w), length_padded_encoding w)

-- a DATA chunk that fits is put
pub data_put : (c : ChunkPayloadData) (room limit : ℕ) (old new : List ℕ) (b : Bool) → fits room c ≡ true → room ≡ limit - length old → limit ≤ 65535
    → (HasEncoding (data_chunk (data_of c)) → 12 ≤ length old → length old + length (padded_encoding (data_chunk (data_of c))) ≤ limit → b ≡ true)
    → (b ≡ true → new ≡ old ++ padded_encoding (data_chunk (data_of c))) → 12 ≤ length old → 12 < length new
data_put c room limit old new b fit is most fitting put head =
    let h = data_fits c (length old) limit (subst (λ r. fits r c ≡ true) is fit) most in
    put_longer (data_chunk (data_of c)) old new (put (fitting h.0 head h.1)) head

pub draft-length : (p : Parts) (bytes : List ℕ) → IsDraft p bytes → length bytes ≡ 12 + length (body_of p.chunks)
draft-length p bytes draft = omega (
  arith,
  ap length draft.unsealed,
  length-append (head_of p ++ four_zeroes) (body_of p.chunks),
  length-append (head_of p) four_zeroes,
  length_head_encoding p.source_port p.destination_port p.verification_tag,
)

body-append : (ws vs : List Wire) → body_of (ws ++ vs) ≡ body_of ws ++ body_of vs
body-append ws vs = rw flat_map-append refl

-- a DATA chunk that fits is put where the packet was begun
pub data_is_put : (c : ChunkPayloadData) (room limit : ℕ) (old : List ℕ) (b : Bool) → fits room c ≡ true → room ≡ limit - length old → limit ≤ 65535
    → (HasEncoding (data_chunk (data_of c)) → 12 ≤ length old → length old + length (padded_encoding (data_chunk (data_of c))) ≤ limit → b ≡ true)
    → (p : Parts) → IsDraft p old → b ≡ true
data_is_put c room limit old b fit is most fitting p draft =
    let h = data_fits c (length old) limit (subst (λ r. fits r c ≡ true) is fit) most in
    fitting h.0 (omega (arith, draft-length p old draft)) h.1

-- a packet with a chunk is longer than its header
pub longer_by_chunk : (before behind : List Wire) (w : Wire) (p : Parts) (bytes : List ℕ) → IsDraft (with_chunks (before ++ w ∷ behind) p) bytes
    → 12 < length bytes
longer_by_chunk before behind w p bytes draft = omega (
  arith,
  draft-length (with_chunks (before ++ w ∷ behind) p) bytes draft,
  ap length (body-append p.chunks (before ++ w ∷ behind)),
  length-append (body_of p.chunks) (body_of (before ++ w ∷ behind)),
  ap length (body-append before (w ∷ behind)),
  length-append (body_of before) (body_of (w ∷ behind)),
  ap length (flat_map-cons padded_encoding w behind),
  length-append (padded_encoding w) (body_of behind),
  length_padded_encoding w,
)

pub added_longer : (ws : List Wire) (p : Parts) (old new : List ℕ) → Adds ws old new → IsDraft p old → (12 ≤ length old) × (length old ≤ length new)
added_longer ws p old new added draft =
    let before = draft-length p old draft in
    let after = draft-length (with_chunks ws p) new (added.draft p draft) in
    let body = ap length (body-append p.chunks ws) ∙ length-append (body_of p.chunks) (body_of ws) in
    (omega (arith, before), omega (arith, before, after, body))

-- ## What calls answer

-- of what is answered both say so
pub both_so : {E : Type 0} (A B C : Bool → Type 0) (r : Result Bool E) → ((s : Bool) → A s → B s → C s) → IfOk r A → IfOk r B → IfOk r C
both_so A B C (Ok s) f a b = f s a b
both_so A B C (Err e) f a b = tt

pub ok_is : {X E : Type 0} (P : X → Type 0) (r : Result X E) (x : X) → r ≡ Ok x → IfOk r P → P x
ok_is P r x e h = subst (λ r. IfOk r P) e h

pub on_ok : {X E P : Type 0} (r : Result X E) → P → OnOk r P
on_ok (Ok x) h = h
on_ok (Err e) h = tt

pub on_ok_so : {X E P Q : Type 0} (r : Result X E) → (Q → P) → OnOk r Q → OnOk r P
on_ok_so (Ok x) f h = f h
on_ok_so (Err e) f h = tt

pub on_ok_both : {X E P Q R : Type 0} (r : Result X E) → (Q → R → P) → OnOk r Q → OnOk r R → OnOk r P
on_ok_both (Ok x) f h k = f h k
on_ok_both (Err e) f h k = tt

-- what waits does so behind what is in flight, where it does while nothing is in flight
waits-so : (room : ℕ) (t : Transmission) → (in_flight t ≡ [] → WaitsBehind room t) → WaitsBehind room t
waits-so room t f = by (next_pending t.flight.queue.pending) f
  where
    by : (o : Option ChunkPayloadData) → (in_flight t ≡ [] → IfSome o (λ c. fits room c ≡ true → in_flight t ≢ []))
        → IfSome o (λ c. fits room c ≡ true → in_flight t ≢ [])
    by None f = tt
    by (Some c) f = λ fit none. f none fit none

-- nothing was sent again, and nothing that waits
pub both_wait : (limit room rest : ℕ) (a b c : Outbound) → SendsNoneAgain room a b → SendsNoneNew rest b c → room ≡ limit - 12 → rest ≡ limit - 12
    → WaitsForSacks limit c.sender
both_wait limit room rest a b c f g e is = record {
  waiting = subst (λ (n : ℕ). WaitsBehind n c.sender) is (subst (λ (t : Transmission). WaitsBehind rest t) (sym g.sender)
      (waits-so rest b.sender (λ none. g.waiting (ap (λ l. (outstanding_of l).marked) none))));
  marked = subst (λ (n : ℕ). IsMarkedBehind n c.sender) e
      (subst (λ (t : Transmission). IsMarkedBehind room t) (sym (g.sender ∙ f.sender)) f.marked);
}
