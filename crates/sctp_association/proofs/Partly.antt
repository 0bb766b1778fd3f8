-- What a chunk makes at which memory is wanting.
use Rattle.std.proofs.Common.{◌≡◌, ℕ, Bool, true, List, Option, Some, Result, Ok, Err, ap, sym, subst, ◌∙◌, inl, inr, ◌<◌, ◌+◌, ◌-◌, suc, arith, false, []}
use Rattle.std.proofs.Common.{◌∷◌, length, drop, get_or}
use Rattle.std.proofs.lemmas.List.{drop_more}
use Rattle.std.specs.Prelude.{OnErr, ◌&&◌, nat_lt, not, ◌==◌, ◌||◌}
use Rattle.sctp_association.specs.AcksDue.{Acks, acks_in, acks_of}
use Rattle.sctp_association.specs.Arrivals.{Received, ReceivedIn}
use Rattle.sctp_association.specs.Brought.{AddsOnly, NotesOnly}
use Rattle.sctp_association.specs.Entering.{usable_in}
use Rattle.sctp_association.specs.Events.{BringsNone}
use Rattle.sctp_association.specs.Halves.{receiver_of}
use Rattle.sctp_association.specs.Kept.{unknown_in}
use Rattle.sctp_association.specs.Partly.{OpensIn, OpensOnly, ParamPart, ParamsPart, RequestPart, ResetsPart, ResetsPartListed, StaysUnreset}
use Rattle.sctp_association.proofs.Reconfigs.{end_not}
use Rattle.sctp_association.specs.Reconfigs.{OnlyReceives, ParamOn, ResetsStream, inbound_agreed, numbers_from, with_peer}
use Rattle.sctp_association.specs.StreamSet.{is_in}
use Rattle.sctp_association.specs.Telling.{KeepsEvents, TellsIn}
use Rattle.sctp_association.specs.declared.association.Association.{Association}
use Rattle.sctp_association.specs.declared.event.Event.TheVariants as event
use Rattle.sctp_association.specs.declared.event.Events.{Events}
use Rattle.sctp_association.specs.declared.inbound.Inbound.{Inbound}
use Rattle.sctp_receiver.specs.Receiver.{Reception}
use Rattle.sctp_receiver.specs.ReceiverRuns.{Call}
use Rattle.sctp_datagram.specs.Params.{TellsParam}
use Rattle.sctp_datagram.specs.declared.params.ParamPlace.{ParamPlace}
use Rattle.sctp_handshake.specs.InitValues.{place}
use Rattle.sctp_handshake.specs.Machines.{agreed}
use Rattle.sctp_params.specs.ResetRequest.{ResetRequest}
use Rattle.sctp_params.specs.declared.param.param_reconfig_response.ReconfigResult.{ReconfigResult}
use Rattle.sctp_params.specs.declared.param.param_reconfig_response.ReconfigResult.TheVariants.{InProgress}
use Rattle.sctp_reset.specs.Peer.{after_request, due_for}
use Rattle.sctp_reset.specs.declared.peer_requests.Due.TheVariants.{Perform}
use Rattle.sctp_reset.specs.declared.peer_requests.PeerRequests.{PeerRequests}

-- where no stream is added to the sets no event comes
added-none : (s : ℕ) (a b : List Bool) → AddsOnly (λ n. ⊥) a b → is_in s b ≡ true → is_in s a ≡ true
added-none s a b only w = elim (only s w) [
  | inl h ↦ h
  | inr p ↦ absurd p
]

notes-none : (e f : Events) → NotesOnly (λ s. ⊥) (λ s. ⊥) e f → BringsNone e f
notes-none e f n event.Connected w = sym (ap (λ (x : Events). x.connected) n.rest) ∙ w
notes-none e f n event.Restarted w = sym (ap (λ (x : Events). x.restarted) n.rest) ∙ w
notes-none e f n (event.Readable s) w = added-none s e.readable f.readable n.readable w
notes-none e f n (event.BufferedAmountLow s) w = sym (ap (λ (x : Events). is_in s x.low) n.rest) ∙ w
notes-none e f n (event.ResetByUs s) w = sym (ap (λ (x : Events). is_in s x.reset_by_us) n.rest) ∙ w
notes-none e f n (event.ResetRefused s) w = sym (ap (λ (x : Events). is_in s x.reset_refused) n.rest) ∙ w
notes-none e f n (event.ResetByPeer s) w = n.reset_by_peer s w
notes-none e f n (event.TooLong s) w = added-none s e.too_long f.too_long n.too_long w
notes-none e f n (event.PeerError c) w = sym (ap (λ (x : Events). x.peer_error) n.rest) ∙ w
notes-none e f n event.Shutdown w = sym (ap (λ (x : Events). x.shutdown) n.rest) ∙ w
notes-none e f n (event.Closed x) w = sym (ap (λ (y : Events). y.closed) n.rest) ∙ w

module _ (Opens : Call → Type 0) where
  -- ## The receiving half

  pub opens_from : (i j : Inbound) (e f : Events) → Received Opens i.receiver j.receiver → j.streams ≡ i.streams
      → ((n : ℕ) → is_in n j.discarded ≡ is_in n i.discarded) → acks_in j ≡ acks_in i → j.unknown_stream ≡ i.unknown_stream
      → TellsIn (Some i) e (Some j) f → NotesOnly (λ s. ⊥) (λ s. ⊥) e f → OpensIn Opens i e j f
  opens_from i j e f received streams discarded acks unknown tells notes = record {
    receiver = received;
    streams = streams;
    discarded = discarded;
    acks = acks;
    unknown = unknown;
    kept = tells.kept;
    none = notes-none e f notes;
  }

  -- what is refused then changes nothing
  pub opens_err : {X E : Type 0} (r : Result X E) (i j k : Inbound) (e f g : Events) → OnErr r ((k ≡ j) × (g ≡ f)) → OpensIn Opens i e j f
      → OnErr r (OpensIn Opens i e k g)
  opens_err (Ok x) i j k e f g h o = tt
  opens_err (Err x) i j k e f g h o =
      subst (λ (y : Inbound). OpensIn Opens i e y g) (sym h.0) (subst (λ (y : Events). OpensIn Opens i e j y) (sym h.1) o)

  pub opens_still : (i j k : Inbound) (e f : Events) → OpensIn Opens i e j f → k.receiver ≡ j.receiver → k.streams ≡ j.streams → k.discarded ≡ j.discarded
      → acks_in k ≡ acks_in j → k.unknown_stream ≡ j.unknown_stream → OpensIn Opens i e k f
  opens_still i j k e f o receiver streams discarded acks unknown = record {
    receiver = subst (λ (r : Reception). Received Opens i.receiver r) (sym receiver) o.receiver;
    streams = streams ∙ o.streams;
    discarded = λ n. ap (is_in n) discarded ∙ o.discarded n;
    acks = acks ∙ o.acks;
    unknown = unknown ∙ o.unknown;
    kept = o.kept;
    none = o.none;
  }

  -- ## An association

  pub opens_only : (a b : Association) (i j : Inbound) → a.inbound ≡ Some i → b.inbound ≡ Some j → OpensIn Opens i a.events j b.events → OnlyReceives a b
      → OpensOnly Opens a b
  opens_only a b i j old new o rest = record {
    receiver = subst (λ x. ReceivedIn Opens x (receiver_of b.inbound)) (sym (ap receiver_of old))
        (subst (λ x. ReceivedIn Opens (Some i.receiver) x) (sym (ap receiver_of new)) o.receiver);
    usable = λ s. ap (usable_in s) new ∙ ap (λ (n : ℕ). nat_lt s n && not (is_in s j.discarded)) o.streams
        ∙ ap (λ (t : Bool). nat_lt s i.streams && not t) (o.discarded s) ∙ sym (ap (usable_in s) old);
    acks = ap (λ (x : Option Inbound). acks_of x) new ∙ ap (λ (x : Acks). let y : Option Acks = Some x in y) o.acks
        ∙ sym (ap (λ (x : Option Inbound). acks_of x) old);
    unknown = ap unknown_in new ∙ o.unknown ∙ sym (ap unknown_in old);
    kept = o.kept;
    none = o.none;
    rest = rest;
  }

-- ## A RE-CONFIG

-- there is more room for events, and nothing else
abbrev pub Grows : (e f : Events) → Type 0
Grows e f = KeepsEvents e f × BringsNone e f

pub unreset_in : {X E : Type 0} (r : Result X E) (a b : Association) (i j : Inbound) → a.inbound ≡ Some i → b.inbound ≡ Some j
    → OnErr r ((j ≡ i) × Grows a.events b.events) → OnlyReceives a b → OnErr r (StaysUnreset a b)
unreset_in (Ok x) a b i j old new h rest = tt
unreset_in (Err x) a b i j old new h rest = record {
  inbound = new ∙ ap (λ (k : Inbound). let o : Option Inbound = Some k in o) h.0 ∙ sym old;
  kept = h.1.0;
  none = h.1.1;
  rest = rest;
}

module _ (last : ℕ) (named : Bool) (ss : List ℕ) (i : ℕ) (lt : i < length ss) (a : Association) where
  part-here : (new : Association) → ResetsPart last named (get_or ss i 0 ∷ drop (i + 1) ss) a new → ResetsPart last named (drop i ss) a new
  part-here new h = subst (λ l. ResetsPart last named l a new) (sym (drop_more ss i 0 lt)) h

  pub part_step : (one : ReconfigResult) (b : Association) → ResetsStream (get_or ss i 0) last named one a b → (one ≡ InProgress → ⊥)
      → (new : Association) → ResetsPart last named (drop (i + 1) ss) b new → ResetsPart last named (drop i ss) a new
  part_step one b reset goes new h = part-here new (inr (one, goes, (b, reset, h)))

  pub part_stop : (b : Association) → StaysUnreset a b → ResetsPart last named (drop i ss) a b
  part_stop b h = part-here b (inl h)

module _ (last i left : ℕ) (a b : Association) where
  part-numbered : (new : Association) (n : ℕ) → n ≡ suc left → ResetsPart last false (i ∷ numbers_from left (suc i)) a new
      → ResetsPart last false (numbers_from n i) a new
  part-numbered new n is h = subst (λ k. ResetsPart last false (numbers_from k i) a new) (sym is) h

  pub part_all : (n : ℕ) → n ≡ left + 1 → (one : ReconfigResult) → ResetsStream i last false one a b → (one ≡ InProgress → ⊥) → (new : Association)
      → ResetsPart last false (numbers_from left (i + 1)) b new → ResetsPart last false (numbers_from n i) a new
  part_all n is one reset goes new h =
      let one-more : n ≡ suc left = omega (arith, is) in
      let next : i + 1 ≡ suc i = omega arith in
      part-numbered new n one-more (inr (one, goes, (b, reset, subst (λ k. ResetsPart last false (numbers_from left k) b new) next h)))

  pub part_last : (n : ℕ) → n ≡ left + 1 → StaysUnreset a b → ResetsPart last false (numbers_from n i) a b
  part_last n is h =
      let one-more : n ≡ suc left = omega (arith, is) in
      part-numbered b n one-more (inl h)

-- what is so where it is refused, and it is
pub err_of : {X E A : Type 0} (r : Result X E) → ((x : X) → r ≡ Ok x → ⊥) → OnErr r A → A
err_of (Ok x) off h = absurd (off x (λ i. Ok x))
err_of (Err x) off h = h

pub err_map : {X E A B : Type 0} (r : Result X E) → (A → B) → OnErr r A → OnErr r B
err_map (Ok x) f h = tt
err_map (Err x) f h = f h

pub part_some : (last : ℕ) (ss : List ℕ) (a b : Association) → 0 < length ss → ResetsPart last true ss a b → ResetsPartListed last ss a b
part_some last [] a b some h = absurd (omega (arith, some))
part_some last (s ∷ ss) a b some h = h

pub part_none : (last : ℕ) (ss : List ℕ) (a b : Association) → ss ≡ []
    → ResetsPart last false (numbers_from (inbound_agreed (agreed a.machine)) 0) a b → ResetsPartListed last ss a b
part_none last ss a b none h = subst (λ l. ResetsPartListed last l a b) (sym none) h

pub part_request : (r : ResetRequest) (o : Option PeerRequests) (p q : PeerRequests) (a b : Association) → o ≡ Some p
    → q ≡ after_request r.reconfig_request_sequence_number p → due_for r.reconfig_request_sequence_number p ≡ Perform
    → ResetsPartListed r.sender_last_tsn r.stream_identifiers (with_peer q a) b → RequestPart r o a b
part_request r o p q a b is came due h = subst (λ x. RequestPart r x a b) (sym is)
    (due, subst (λ x. ResetsPartListed r.sender_last_tsn r.stream_identifiers (with_peer x a) b) came h)

-- ## Its parameters

module _ (raw : List ℕ) (at : ℕ) (has : Bool) (p : ParamPlace) (tells : TellsParam raw at p) (now most seen : ℕ) (lt : seen < most)
    (goes : ((p.typ == 13) && has) ≡ false) (a b : Association) where
  left-more : (new : Association) → ((left : ℕ) → ParamsPart (suc left) raw at has now a new) → ParamsPart (most - seen) raw at has now a new
  left-more new h =
      let left : most - seen ≡ suc (most - (seen + 1)) = omega (arith, lt) in
      subst (λ n. ParamsPart n raw at has now a new) (sym left) (h (most - (seen + 1)))

  pub param_part_next : ParamOn p.typ raw at now a b → (later : Bool) → later ≡ (has || (p.typ == 13)) → (new : Association)
      → ParamsPart (most - (seen + 1)) raw p.next later now b new → ParamsPart (most - seen) raw at has now a new
  param_part_next followed later is new h =
      let left : most - seen ≡ suc (most - (seen + 1)) = omega (arith, lt) in
      subst (λ n. ParamsPart n raw at has now a new) (sym left) (
        end_not raw at has p tells goes,
        inr (
          b,
          subst (λ t. ParamOn t raw at now a b) tells.typ followed,
          subst (λ n. ParamsPart (most - (seen + 1)) raw n (has || ((place raw at).typ == 13)) now b new) tells.later
              (subst (λ x. ParamsPart (most - (seen + 1)) raw p.next x now b new) (is ∙ ap (λ n. has || (n == 13)) tells.typ) h),
        ),
      )

  pub param_part_stop : ParamPart (drop at raw) a b → ParamsPart (most - seen) raw at has now a b
  param_part_stop h = left-more b (λ left. (end_not raw at has p tells goes, inl h))
