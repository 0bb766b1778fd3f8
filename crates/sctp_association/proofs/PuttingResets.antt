-- A RE-CONFIG of any response, and of a request of few streams, fits where a packet has room for the longest one. What is due leaves by it.
use Rattle.std.proofs.Common.{◌≡◌, ◌⊎◌, inl, inr, ℕ, ◌+◌, ◌≤◌, ◌<◌, List, [], length, length-append, Bool, Option, Some, None, true, false, arith}
use Rattle.std.proofs.Common.{refl, ap, sym, subst, ◌∙◌}
use Rattle.std.proofs.lemmas.Bool.{false≢true}
use Rattle.std.proofs.lemmas.Option.{none-some}
use Rattle.std.specs.Prelude.{option_map, is_some, max, if◌then◌else◌}
use Rattle.sctp_association.proofs.Making.{of-some}
use Rattle.sctp_association.proofs.Putting.{adds_none}
use Rattle.sctp_association.proofs.Requesting.{answers_by, left_in}
use Rattle.sctp_association.specs.declared.association.Association.{Association}
use Rattle.sctp_association.specs.Packets.{Adds, put_where}
use Rattle.sctp_association.specs.Requesting.{Asks, HasRoom, IsFewOf, LeavesReset, OwesNoReset, PutsExact, PutsReset, Resets, at_most_one, begun, due_of}
use Rattle.sctp_association.specs.Requesting.{first_response}
use Rattle.sctp_association.specs.Requesting.{last_asked, reconfig_with, reconfigs_in, request_wire, resets_of, sent_where}
use Rattle.sctp_chunks.proofs.ParamsEncoding.{length_padded_param}
use Rattle.sctp_chunks.specs.Params.{gap, padded_param}
use Rattle.sctp_chunks.specs.Reconfig.{Reconfig, reconfig_value}
use Rattle.sctp_chunks.specs.Wire.{HasEncoding, HasFirst, reconfig_chunk}
use Rattle.sctp_packets.proofs.Written.{length_padded_encoding}
use Rattle.sctp_packets.specs.Draft.{Draft}
use Rattle.sctp_packets.specs.Packet.{padded_encoding}
use Rattle.sctp_params.proofs.ParamLengths.{length_reset_request_value, length_response_value}
use Rattle.sctp_params.specs.Param.{outgoing_reset_request, reconfig_response}
use Rattle.sctp_params.specs.ResetRequest.{ResetRequest}
use Rattle.sctp_params.specs.declared.param.param_reconfig_response.ParamReconfigResponse.{ParamReconfigResponse}
use Rattle.sctp_reset.specs.Own.{after_sent}
use Rattle.sctp_reset.specs.Peer.{without_first}
use Rattle.sctp_reset.specs.Requests.{Request, Requests}
use Rattle.sctp_reset.specs.declared.peer_requests.PeerRequests.{PeerRequests}
use Rattle.sctp_sender.specs.Sender.{Transmission}

request-bytes : (q : ResetRequest) → length q.stream_identifiers ≤ 64 → length (padded_param true (outgoing_reset_request q)) ≤ 144
request-bytes q few = omega (arith, few, length_padded_param true (outgoing_reset_request q), length_reset_request_value q)

sized : (b some : Bool) (n : ℕ) → n ≡ 8 + (if some then 8 else 0) → 4 + n + gap b (4 + n) ≤ 20
sized true true n e = omega (arith, e)
sized true false n e = omega (arith, e)
sized false true n e = omega (arith, e)
sized false false n e = omega (arith, e)

response-bytes : (b : Bool) (p : ParamReconfigResponse) → length (padded_param b (reconfig_response p)) ≤ 20
response-bytes b p = omega (arith, length_padded_param b (reconfig_response p), sized b (is_some p.next_tsns) _ (length_response_value p))

-- it has an encoding, of at most so many bytes
abbrev pub Fits : Reconfig → Type 0
Fits r = HasEncoding (reconfig_chunk r) × (length (padded_encoding (reconfig_chunk r)) ≤ 168)

fits-by : (r : Reconfig) → HasFirst r.param_a → length (reconfig_value r) ≤ 164 → Fits r
fits-by r first le = ((first, omega (arith, le)), omega (arith, le, length_padded_encoding (reconfig_chunk r)))

pub reconfig_fits : (p : Option ParamReconfigResponse) (q : Option ResetRequest) (r : Reconfig) → reconfig_with p q ≡ Some r → IsFewOf q → Fits r
reconfig_fits None None r e few = absurd (none-some r e)
reconfig_fits None (Some q) r e few = subst Fits (of-some _ r e) (fits-by _ tt (omega (arith, request-bytes q few)))
reconfig_fits (Some p) None r e few = subst Fits (of-some _ r e) (fits-by _ tt (omega (arith, response-bytes true p)))
reconfig_fits (Some p) (Some q) r e few = subst Fits (of-some _ r e) (fits-by _ tt (omega (
  arith,
  response-bytes false p,
  request-bytes q few,
  length-append (padded_param false (reconfig_response p)) (padded_param true (outgoing_reset_request q)),
)))

-- ## What leaves

none-mapped : {A B : Type 0} (f : A → B) (o : Option A) → None ≡ option_map f o → o ≡ None
none-mapped f None e = refl
none-mapped f (Some x) e = absurd (none-some (f x) e)

pub none_of : {A : Type 0} (o : Option A) → is_some o ≡ false → o ≡ None
none_of None e = refl
none_of (Some x) e = absurd (false≢true (sym e))

pub some_mapped : {A B : Type 0} (f : A → B) (o : Option A) → is_some (option_map f o) ≡ is_some o
some_mapped f None = refl
some_mapped f (Some x) = refl

module _ (now rto : ℕ) (t : Transmission) where
  asks-by : (old mid new : Requests) (u : Option Request) (wire : Option ResetRequest) (f : Request → ResetRequest)
      → due_of now (begun now t old).under_way ≡ u → mid ≡ begun now t old → wire ≡ option_map f u
      → new ≡ sent_where (is_some wire) now rto mid → Asks now rto t u old new
  asks-by old mid new None wire f due is of sent =
      inr (sent ∙ ap (λ (w : Option ResetRequest). sent_where (is_some w) now rto mid) of ∙ is)
  asks-by old mid new (Some r) wire f due is of sent = (
    due,
    sent ∙ ap (λ (w : Option ResetRequest). sent_where (is_some w) now rto mid) of ∙ ap (after_sent now rto) is,
  )

  -- the response that is due, and the request, in a RE-CONFIG
  pub leaves_by : (old new : Resets) (mid : Requests) (p : Option ParamReconfigResponse) (wire : Option ResetRequest) → mid ≡ begun now t old.own
      → wire ≡ option_map (request_wire (last_asked old.peer)) (due_of now mid.under_way) → p ≡ first_response old.peer
      → new.peer ≡ option_map without_first old.peer → new.own ≡ sent_where (is_some wire) now rto mid
      → LeavesReset now rto t (reconfig_with p wire) old new
  leaves_by old new mid p wire is of first left sent =
      let due = ap (λ (o : Requests). due_of now o.under_way) is in
      record {
        response = p;
        request = due_of now mid.under_way;
        chunk = ap (reconfig_with p) of;
        answers = answers_by p old.peer new.peer first left;
        asks = asks-by old.own mid new.own (due_of now mid.under_way) wire (request_wire (last_asked old.peer)) (sym due) is of sent;
      }

-- nothing is put: a request may have begun
pub puts_waiting : (now : ℕ) (a q : Association) → q ≡ record a { requests = q.requests }
    → (q.requests ≡ a.requests) ⊎ (q.requests ≡ begun now a.outbound.sender a.requests) → PutsReset now a q
puts_waiting now a q rest asks = record {
  chunks = [];
  added = subst (λ (x : List ℕ). Adds [] a.draft.bytes x) (sym (ap (λ (x : Association). x.draft.bytes) rest)) (adds_none a.draft.bytes);
  reconfig = None;
  each = refl;
  leaves = record {
    response = None;
    request = None;
    chunk = refl;
    answers = ap (λ (x : Association). x.peer_requests) rest;
    asks = asks;
  };
}

-- a request that begins, a response that is taken, and the RE-CONFIG of both
module _ (now : ℕ) (a q p d : Association) (one : q ≡ record a { requests = q.requests }) (two : p ≡ record q { peer_requests = p.peer_requests })
    (r : Option ParamReconfigResponse) (wire : Option ResetRequest) (is : q.requests ≡ begun now a.outbound.sender a.requests)
    (of : wire ≡ option_map (request_wire (last_asked a.peer_requests)) (due_of now q.requests.under_way))
    (first : r ≡ first_response q.peer_requests) (left : p.peer_requests ≡ option_map without_first q.peer_requests) where
  same-peer : q.peer_requests ≡ a.peer_requests
  same-peer = ap (λ (x : Association). x.peer_requests) one

  pub puts_exactly : d ≡ record p { draft = d.draft; requests = d.requests } → PutsExact now r wire p d → PutsReset now a d
  puts_exactly three e = record {
    chunks = e.chunks;
    added = subst (λ (x : Draft). Adds e.chunks x.bytes d.draft.bytes)
        (ap (λ (x : Association). x.draft) two ∙ ap (λ (x : Association). x.draft) one) e.added;
    reconfig = reconfig_with r wire;
    each = e.each;
    leaves = leaves_by now (max a.outbound.rto.rto 1) a.outbound.sender (resets_of a) (resets_of d) q.requests r wire is of
        (first ∙ ap first_response same-peer)
        (ap (λ (x : Association). x.peer_requests) three ∙ left ∙ ap (λ (o : Option PeerRequests). option_map without_first o) same-peer)
        (e.sent ∙ ap (λ (x : Association). sent_where (is_some wire) now (max x.outbound.rto.rto 1) x.requests) two
        ∙ ap (λ (x : Association). sent_where (is_some wire) now (max x.outbound.rto.rto 1) q.requests) one);
  }

  -- neither is due
  pub owes_none : r ≡ None → wire ≡ None → OwesNoReset now a.outbound.sender (resets_of a)
  owes_none empty none = record {
    response = sym (ap first_response same-peer) ∙ sym first ∙ empty;
    request = sym (ap (λ (o : Requests). due_of now o.under_way) is)
        ∙ none-mapped (request_wire (last_asked a.peer_requests)) (due_of now q.requests.under_way) (sym none ∙ of);
  }

  pub puts_neither : r ≡ None → wire ≡ None → PutsReset now a p
  puts_neither empty none = record {
    chunks = [];
    added = subst (λ (x : Draft). Adds [] a.draft.bytes x.bytes)
        (sym (ap (λ (x : Association). x.draft) two ∙ ap (λ (x : Association). x.draft) one)) (adds_none a.draft.bytes);
    reconfig = None;
    each = refl;
    leaves = record {
      response = None;
      request = None;
      chunk = refl;
      answers = left ∙ left_in q.peer_requests (sym first ∙ empty) ∙ same-peer;
      asks = inr (ap (λ (x : Association). x.requests) two ∙ is);
    };
  }

-- ## Into a packet

with-none : (p : Option ParamReconfigResponse) (q : Option ResetRequest) → reconfig_with p q ≡ None → q ≡ None
with-none None None e = refl
with-none None (Some q) e = absurd (none-some _ (sym e))
with-none (Some p) q e = absurd (none-some _ (sym e))

pub with_some : (p : Option ParamReconfigResponse) (q : Option ResetRequest) → (is_some q ≡ true) ⊎ (is_some p ≡ true)
    → is_some (reconfig_with p q) ≡ true
with_some None None (inl e) = e
with_some None None (inr e) = e
with_some None (Some q) e = refl
with_some (Some p) q e = refl

-- there is none to put
pub exact_none : (now : ℕ) (p : Option ParamReconfigResponse) (q : Option ResetRequest) (a : Association) → reconfig_with p q ≡ None
    → PutsExact now p q a a
exact_none now p q a e = record {
  chunks = [];
  added = adds_none a.draft.bytes;
  each = sym (ap at_most_one e);
  sent = sym (ap (λ (o : Option ResetRequest). sent_where (is_some o) now (max a.outbound.rto.rto 1) a.requests) (with-none p q e));
  longer = λ some. absurd (false≢true (sym (ap is_some e) ∙ some));
}

module _ (p : Option ParamReconfigResponse) (q : Option ResetRequest) (r : Reconfig) (is : reconfig_with p q ≡ Some r) (few : IsFewOf q) (old : Draft)
    (room : HasRoom old) where
  -- it is put
  pub exact_room : (k : Bool) → (HasEncoding (reconfig_chunk r) → 12 ≤ length old.bytes
      → length old.bytes + length (padded_encoding (reconfig_chunk r)) ≤ old.limit → k ≡ true) → k ≡ true
  exact_room k fits =
      let f = reconfig_fits p q r is few in
      fits f.0 room.begun (omega (arith, f.1, room.room))

  pub exact_put : (now : ℕ) (k : Bool) (a d : Association) → k ≡ true → Adds (put_where k (reconfig_chunk r)) a.draft.bytes d.draft.bytes
      → d.requests ≡ sent_where (is_some q) now (max a.outbound.rto.rto 1) a.requests → 12 < length d.draft.bytes → PutsExact now p q a d
  exact_put now k a d put added sent longer = record {
    chunks = put_where k (reconfig_chunk r);
    added = added;
    each = ap (λ (b : Bool). reconfigs_in (put_where b (reconfig_chunk r))) put ∙ sym (ap at_most_one is);
    sent = sent;
    longer = λ _. longer;
  }

  pub longer_put : (new : List ℕ) → length new ≡ length old.bytes + length (padded_encoding (reconfig_chunk r)) → 12 < length new
  longer_put new e = omega (arith, e, room.begun, length_padded_encoding (reconfig_chunk r))
