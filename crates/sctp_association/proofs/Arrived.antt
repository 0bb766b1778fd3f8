-- What comes in a datagram: calls of both halves, each for a chunk of it.
use Rattle.std.proofs.Common.{◌≡◌, ℕ, List, [], ◌∷◌, drop, take, Option, Some, None, refl, ap, sym, subst, ◌∙◌, inl, inr}
use Rattle.std.specs.Prelude.{◌⊎◌, Contains}
use Rattle.sctp_association.proofs.Arriving.{follows_of, follows_one, follows_same, follows_then}
use Rattle.sctp_association.specs.Arrivals.{Arrival, Arrives, ArrivesAs, Asks, AsksFor, AsksToHear, CallsArrive, Does, Follows, Halves, HasParam}
use Rattle.sctp_association.specs.Arrivals.{Hearing, Hears, HearsBy, IsBrought, IsBroughtAs, IsOfHalf, IsReset, IsResetAt, IsRestart, ParamAsks, ParamAsksIn}
use Rattle.sctp_association.specs.Arrivals.{Received, ReceivedIn, Receives, Steps}
use Rattle.sctp_association.specs.Arrivals.{by_chunk, by_param, halves, hears, receives, restarts}
use Rattle.sctp_association.specs.declared.association.Association.{Association}
use Rattle.sctp_association.specs.declared.inbound.Inbound.{Inbound}
use Rattle.sctp_association.specs.Halves.{HalvesAlike, halves_of, receiver_of}
use Rattle.sctp_chunks.specs.Wire.{Wire, sack_chunk}
use Rattle.sctp_data.specs.SelectiveAck.{Sack}
use Rattle.sctp_datagram.specs.Carried.{IsChunkOf}
use Rattle.sctp_datagram.specs.Framing.{StartsWith}
use Rattle.sctp_datagram.specs.declared.datagram.ChunkPlace.{ChunkPlace}
use Rattle.sctp_params.specs.Param.{Parameter, outgoing_reset_request, reconfig_response}
use Rattle.sctp_params.specs.ParamKind.{ReadsParam}
use Rattle.sctp_params.specs.ResetRequest.{ResetRequest}
use Rattle.sctp_params.specs.declared.param.param_reconfig_response.ParamReconfigResponse.{ParamReconfigResponse}
use Rattle.sctp_receiver.specs.Receiver.{Reception}
use Rattle.sctp_receiver.specs.ReceiverRuns.{Call, resets}
use Rattle.sctp_sender.specs.Sender.{Transmission}

-- ## A call of one half is one of both

module _ (P : Call → Type 0) (Q : Arrival → Type 0) (asks : (c : Call) → P c → Q (receives c)) (t : Transmission) where
  receiver-steps : (cs : List Call) (r s : Reception) → Steps P Receives cs r s → Follows Q Does (halves t (Some r)) (halves t (Some s))
  receiver-steps [] r s e = follows_same Q Does (halves t (Some r)) (halves t (Some s)) (ap (λ x. halves t (Some x)) e)
  receiver-steps (c ∷ cs) r s e =
      follows_then Q Does (halves t (Some r)) (halves t (Some e.0)) (halves t (Some s))
      (follows_one Q Does (receives c) (halves t (Some r)) (halves t (Some e.0)) (asks c e.1.0.asked) (refl, e.1.0.does))
      (receiver-steps cs e.0 s e.1.1)

  pub receiver_in : (r s : Option Reception) → ReceivedIn P r s → Follows Q Does (halves t r) (halves t s)
  receiver_in None None h = follows_same Q Does (halves t None) (halves t None) refl
  receiver_in None (Some s) h = absurd h
  receiver_in (Some r) None h = absurd h
  receiver_in (Some r) (Some s) h = receiver-steps h.calls r s h.run

-- where there is one
pub received_in : (P : Call → Type 0) (o p : Option Inbound) (i j : Inbound) → o ≡ Some i → p ≡ Some j → Received P i.receiver j.receiver
    → ReceivedIn P (receiver_of o) (receiver_of p)
received_in P o p i j e f h =
    let first = subst (λ k. ReceivedIn P (receiver_of k) (Some j.receiver)) (sym e) h in
    subst (λ k. ReceivedIn P (receiver_of o) (receiver_of k)) (sym f) first

pub received_in_same : (P : Call → Type 0) (r s : Option Reception) → s ≡ r → ReceivedIn P r s
received_in_same P r s e = subst (λ x. ReceivedIn P r x) (sym e) (same r)
  where
    same : (r : Option Reception) → ReceivedIn P r r
    same None = tt
    same (Some r) = follows_same P Receives r r refl

pub received_in_then : (P : Call → Type 0) (r s t : Option Reception) → ReceivedIn P r s → ReceivedIn P s t → ReceivedIn P r t
received_in_then P None None None h k = tt
received_in_then P None None (Some t) h k = absurd k
received_in_then P None (Some s) t h k = absurd h
received_in_then P (Some r) None t h k = absurd h
received_in_then P (Some r) (Some s) None h k = absurd k
received_in_then P (Some r) (Some s) (Some t) h k = follows_then P Receives r s t h k

pub received_in_of : (P Q : Call → Type 0) → ((c : Call) → P c → Q c) → (r s : Option Reception) → ReceivedIn P r s → ReceivedIn Q r s
received_in_of P Q more None None h = tt
received_in_of P Q more None (Some s) h = absurd h
received_in_of P Q more (Some r) None h = absurd h
received_in_of P Q more (Some r) (Some s) h = follows_of P Q Receives more r s h

module _ (P : Hearing → Type 0) (Q : Arrival → Type 0) (asks : (h : Hearing) → P h → Q (hears h)) (r : Option Reception) where
  sender-steps : (hs : List Hearing) (t u : Transmission) → Steps P Hears hs t u → Follows Q Does (halves t r) (halves u r)
  sender-steps [] t u e = follows_same Q Does (halves t r) (halves u r) (ap (λ x. halves x r) e)
  sender-steps (h ∷ hs) t u e =
      follows_then Q Does (halves t r) (halves e.0 r) (halves u r)
      (follows_one Q Does (hears h) (halves t r) (halves e.0 r) (asks h e.1.0.asked) (refl, e.1.0.does))
      (sender-steps hs e.0 u e.1.1)

  pub sender_led : (t u : Transmission) → HearsBy P t u → Follows Q Does (halves t r) (halves u r)
  sender_led t u f = sender-steps f.calls t u f.run

-- ## Of a datagram

-- what comes as a rule says comes
pub arrives_of : (Rule : Arrival → Type 0) (d : List ℕ) (x y : Halves) → ArrivesAs Rule d x y → Arrives d x y
arrives_of Rule d x y f = follows_of (IsBroughtAs Rule d) (IsBrought d) Does (λ a h. h.brought) x y f

pub arrives_same : (d : List ℕ) (x y : Halves) → y ≡ x → Arrives d x y
arrives_same d x y e = follows_same (IsBrought d) Does x y e

pub came_same : (d : List ℕ) (x y : Halves) → y ≡ x → CallsArrive d x y
came_same d x y e = follows_same (IsBroughtAs IsOfHalf d) Does x y e

pub came_then : (d : List ℕ) (x y z : Halves) → CallsArrive d x y → CallsArrive d y z → CallsArrive d x z
came_then d x y z f g = follows_then (IsBroughtAs IsOfHalf d) Does x y z f g

pub alike_halves : (a b : Association) → HalvesAlike a b → halves_of b ≡ halves_of a
alike_halves a b h = ap (λ t. halves t (receiver_of b.inbound)) h.sender ∙ ap (λ r. halves a.outbound.sender r) h.receiver

pub came_alike : (d : List ℕ) (a b : Association) → HalvesAlike a b → CallsArrive d (halves_of a) (halves_of b)
came_alike d a b h = came_same d (halves_of a) (halves_of b) (alike_halves a b h)

-- each is for the chunk at a place
module _ (d : List ℕ) (p : ChunkPlace) (own : IsChunkOf d p) (w : Wire) (reads : StartsWith (drop p.at d) w) where
  brought : (a : Arrival) → Asks w a → IsOfHalf a → IsBroughtAs IsOfHalf d a
  brought a asks of = record { brought = by_chunk w (record { place = p; own = own; reads = reads }) asks; rule = of }

  pub receiver_came : (t : Transmission) (o k : Option Inbound) (i j : Inbound) → o ≡ Some i → k ≡ Some j → Received (AsksFor w) i.receiver j.receiver
      → CallsArrive d (halves t (receiver_of o)) (halves t (receiver_of k))
  receiver_came t o k i j e f h =
      receiver_in (AsksFor w) (IsBroughtAs IsOfHalf d) (λ c a. brought (receives c) a tt) t (receiver_of o) (receiver_of k)
      (received_in (AsksFor w) o k i j e f h)

  pub sender_came : (r : Option Reception) (t u : Transmission) → HearsBy (AsksToHear w) t u → CallsArrive d (halves t r) (halves u r)
  sender_came r t u h = sender_led (AsksToHear w) (IsBroughtAs IsOfHalf d) (λ c a. brought (hears c) a tt) r t u h

-- a SACK that is read where it lies
pub sack_came : (d : List ℕ) (p : ChunkPlace) → IsChunkOf d p → (bytes : List ℕ) (s : Sack) → bytes ≡ drop p.at d → StartsWith bytes (sack_chunk s)
    → (r : Option Reception) (t u : Transmission) → HearsBy (AsksToHear (sack_chunk s)) t u → CallsArrive d (halves t r) (halves u r)
sack_came d p own bytes s e reads r t u h =
    sender_came d p own (sack_chunk s) (subst (λ (l : List ℕ). StartsWith l (sack_chunk s)) e reads) r t u h

-- a parameter asks for calls of halves that are there
param-of-half : (q : Parameter) (a : Arrival) → ParamAsks q a → IsOfHalf a
param-of-half (outgoing_reset_request r) (receives (resets stream last)) is = tt
param-of-half (reconfig_response r) (hears (restarts stream)) is = tt
param-of-half _ _ is = absurd is

-- each is for a parameter of the chunk at a place
module _ (d : List ℕ) (p : ChunkPlace) (own : IsChunkOf d p) (is : p.typ ≡ 130) (at : ℕ) (raw : List ℕ) (cut : raw ≡ take p.length (drop p.at d)) where
  param-brought : (a : Arrival) → ParamAsksIn (drop at raw) a → IsBroughtAs IsOfHalf d a
  param-brought a h =
      let has : HasParam d h.param = record {
        place = p;
        own = own;
        is = is;
        at = at;
        reads = subst (λ (l : List ℕ). ReadsParam (drop at l) h.param) cut h.reads;
      } in record { brought = by_param h.param has h.asks; rule = param-of-half h.param a h.asks }

  pub param_came : (x y : Halves) → Follows (ParamAsksIn (drop at raw)) Does x y → CallsArrive d x y
  param_came x y f = follows_of (ParamAsksIn (drop at raw)) (IsBroughtAs IsOfHalf d) Does param-brought x y f

-- ## Of a RE-CONFIG chunk

module _ (bytes : List ℕ) (q : Parameter) (reads : ReadsParam bytes q) where
  param-asks : (a : Arrival) → ParamAsks q a → ParamAsksIn bytes a
  param-asks a h = record { param = q; reads = reads; asks = h }

  pub param_follows : (x y : Halves) → Follows (ParamAsks q) Does x y → Follows (ParamAsksIn bytes) Does x y
  param_follows x y f = follows_of (ParamAsks q) (ParamAsksIn bytes) Does param-asks x y f

-- the same, of bytes that were cut out
pub param_follows_of : (bytes raw : List ℕ) (q : Parameter) → raw ≡ bytes → ReadsParam raw q → (x y : Halves) → Follows (ParamAsks q) Does x y
    → Follows (ParamAsksIn bytes) Does x y
param_follows_of bytes raw q e reads x y f = param_follows bytes q (subst (λ (l : List ℕ). ReadsParam l q) e reads) x y f

-- a stream that the request names is reset, or any where it names none
reset-asked : (r : ResetRequest) (stream last : ℕ) → last ≡ r.sender_last_tsn → (r.stream_identifiers ≡ []) ⊎ Contains r.stream_identifiers stream
    → (c : Call) → IsReset stream last c → ParamAsks (outgoing_reset_request r) (receives c)
reset-asked r stream last is named (resets s l) e =
    (e.1 ∙ is, subst (λ n. (r.stream_identifiers ≡ []) ⊎ Contains r.stream_identifiers n) (sym e.0) named)
reset-asked r stream last is named _ e = absurd e

all-asked : (r : ResetRequest) (last : ℕ) → last ≡ r.sender_last_tsn → r.stream_identifiers ≡ []
    → (c : Call) → IsResetAt last c → ParamAsks (outgoing_reset_request r) (receives c)
all-asked r last is none (resets s l) e = (e ∙ is, inl none)
all-asked r last is none _ e = absurd e

pub one_of_all : (stream last : ℕ) (c : Call) → IsReset stream last c → IsResetAt last c
one_of_all stream last (resets s l) e = e.1
one_of_all stream last _ e = absurd e

module _ (r : ResetRequest) (last : ℕ) (is : last ≡ r.sender_last_tsn) (t u : Transmission) (same : u ≡ t) (x y : Option Reception) where
  abbrev IsFor : Type 0
  IsFor = Follows (ParamAsks (outgoing_reset_request r)) Does (halves t x) (halves u y)

  moved : Follows (ParamAsks (outgoing_reset_request r)) Does (halves t x) (halves t y) → IsFor
  moved f = subst (λ v. Follows (ParamAsks (outgoing_reset_request r)) Does (halves t x) (halves v y)) (sym same) f

  pub one_reset : (stream : ℕ) → Contains r.stream_identifiers stream → ReceivedIn (IsReset stream last) x y → IsFor
  one_reset stream named h =
      moved (receiver_in (IsReset stream last) (ParamAsks (outgoing_reset_request r)) (reset-asked r stream last is (inr named)) t x y h)

  pub all_reset : r.stream_identifiers ≡ [] → ReceivedIn (IsResetAt last) x y → IsFor
  all_reset none h = moved (receiver_in (IsResetAt last) (ParamAsks (outgoing_reset_request r)) (all-asked r last is none) t x y h)

-- ## Streams of this side begin again, as the peer responds

module _ (bytes : List ℕ) (q : ParamReconfigResponse) (reads : ReadsParam bytes (reconfig_response q)) where
  restart-asked : (h : Hearing) → IsRestart h → ParamAsksIn bytes (hears h)
  restart-asked (restarts stream) e = record { param = reconfig_response q; reads = reads; asks = tt }
  restart-asked _ e = absurd e

  pub responded : (r : Option Reception) (t u : Transmission) → HearsBy IsRestart t u → Follows (ParamAsksIn bytes) Does (halves t r) (halves u r)
  responded r t u h = sender_led IsRestart (ParamAsksIn bytes) restart-asked r t u h

pub responded_of : (bytes raw : List ℕ) (q : ParamReconfigResponse) → raw ≡ bytes → ReadsParam raw (reconfig_response q) → (r s : Option Reception)
    → s ≡ r → (t u : Transmission) → HearsBy IsRestart t u → Follows (ParamAsksIn bytes) Does (halves t r) (halves u s)
responded_of bytes raw q e reads r s same t u h =
    subst (λ k. Follows (ParamAsksIn bytes) Does (halves t r) (halves u k)) (sym same)
    (responded bytes q (subst (λ (l : List ℕ). ReadsParam l (reconfig_response q)) e reads) r t u h)
