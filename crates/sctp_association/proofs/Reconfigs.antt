-- What a RE-CONFIG makes, one stream and one parameter after the other.
use Rattle.std.proofs.Common.{◌≡◌, ◌⊎◌, ℕ, zero, suc, ◌+◌, ◌-◌, ◌<◌, ◌≤◌, ◌==◌, Bool, true, false, List, [], ◌∷◌, length, get_or, drop, set, Option, Some, None}
use Rattle.std.proofs.Common.{refl, ap, sym, subst, ◌∙◌, inl, inr, arith}
use Rattle.std.proofs.lemmas.Bool.{and_parts, cases_lt, false≢true, le-leb, leb-true}
use Rattle.std.proofs.lemmas.Bool.Decides.{nat_tests}
use Rattle.std.proofs.lemmas.List.{drop_more, ext_get_or, get_or-set_other, get_or-set_same, length-drop, length-set, set_past}
use Rattle.std.proofs.Math.ListN.{drop_of_length-le}
use Rattle.std.specs.Option.{option_map}
use Rattle.std.specs.Prelude.{IfErr, IfOk, OnErr, OnOk, Result, Ok, Err, find, is_some, nat_le, not, ◌&&◌, ◌||◌, if◌then◌else◌}
use Rattle.sctp_association.specs.Reconfigs.{FollowsBytes, FollowsParam, IsPerformed, ParamOn, ParamsOn, Performs, RequestBy, RequestOn, ResetsEach}
use Rattle.sctp_association.specs.Reconfigs.{ResetsListed}
use Rattle.sctp_association.specs.Reconfigs.{OnlyReceives, ResetsIn, ResetsOne, ResetsStream, TellsReset, reset_open, reset_result}
use Rattle.sctp_association.specs.Reconfigs.{answered, denied, denied_by, followed, inbound_agreed, is_denied, is_end, is_read, number_at, numbers_from}
use Rattle.sctp_association.specs.Reconfigs.{restarted, result_with}
use Rattle.sctp_association.specs.Reconfigs.{with_each, with_peer}
use Rattle.sctp_association.specs.StreamSet.{is_in}
use Rattle.sctp_association.specs.declared.association.Association.{Association}
use Rattle.sctp_association.specs.declared.event.Events.{Events}
use Rattle.sctp_association.specs.declared.fault.Fault.{Fault}
use Rattle.sctp_association.specs.declared.inbound.Inbound.{Inbound}
use Rattle.sctp_datagram.specs.Params.{TellsParam}
use Rattle.sctp_datagram.specs.declared.params.ParamPlace.{ParamPlace}
use Rattle.sctp_handshake.specs.InitValues.{is_param, place}
use Rattle.sctp_handshake.specs.Machines.{agreed}
use Rattle.sctp_params.specs.Param.{Parameter}
use Rattle.sctp_params.specs.ParamFraming.{IsParam, param_declared_length}
use Rattle.sctp_params.specs.ParamKind.{ReadsParam, parameter_of}
use Rattle.sctp_params.specs.ResetRequest.{ResetRequest}
use Rattle.sctp_params.specs.declared.param.param_kind.ParamKind.{ParamKind}
use Rattle.sctp_params.specs.declared.param.param_kind.ParamKind.TheVariants.{OutgoingResetRequest, ReconfigResponse}
use Rattle.sctp_params.specs.declared.param.param_outgoing_reset_request.ParamOutgoingResetRequest.{ParamOutgoingResetRequest}
use Rattle.sctp_params.specs.declared.param.param_reconfig_response.ParamReconfigResponse.{ParamReconfigResponse}
use Rattle.sctp_params.specs.declared.param.param_reconfig_response.ReconfigResult.{ReconfigResult}
use Rattle.sctp_params.specs.declared.param.param_reconfig_response.ReconfigResult.TheVariants.{Denied, ErrorWrongSsn, InProgress, SuccessPerformed}
use Rattle.sctp_reset.specs.Own.{after_response, answer_to}
use Rattle.sctp_reset.specs.Requests.{Request, Requests}
use Rattle.sctp_reset.specs.declared.own_requests.Answer.{Answer}
use Rattle.sctp_reset.specs.declared.own_requests.Answer.TheVariants as answer
use Rattle.sctp_reset.specs.Peer.{after_answer, after_request, due_for, due_of, kept_result, respond, result_of}
use Rattle.sctp_reset.specs.declared.peer_requests.Due.{Due}
use Rattle.sctp_reset.specs.declared.peer_requests.Due.TheVariants.{Again, Bad, Perform}
use Rattle.sctp_reset.specs.declared.peer_requests.PeerRequests.{PeerRequests}
use Rattle.sctp_receiver.specs.Receiver.{IsRefusedFor, Reception, is_open}
use Rattle.sctp_receiver.specs.Resets.{reset_refusal, reset_stream}
use Rattle.sctp_receiver.specs.declared.receiver.refusal.ReceiverRefusal.TheVariants.{ResetInProgress, StreamUnknown}
use Rattle.sctp_sender.specs.Outgoing.{from_first, has_number}
use Rattle.sctp_sender.specs.Sender as sending
use Rattle.sctp_sender.specs.Sender.{Transmission, with_streams}
use Rattle.sctp_sender.specs.Settings as settings
use Rattle.sctp_sender.specs.Settings.{is_drained, reset_on}
use Rattle.sctp_sender.specs.declared.sender.refusal.SenderRefusal.{SenderRefusal}
use Rattle.sctp_sender.specs.declared.sender.refusal.SenderRefusal.TheVariants as refusal
use Rattle.sctp_stream.specs.declared.outbound_stream.OutboundStream.{OutboundStream}
use Rattle.sctp_util.proofs.Cases.{by_same, same-yes}
use Rattle.sctp_util.specs.Lists.{change_where}
use Rattle.sctp_util.specs.Serial.{comes_before}
use Rattle.sctp_util.specs.declared.error.Error.{Error}
use Rattle.sctp_util.specs.declared.error.Error.TheVariants.{ErrOutOfMemory, ErrParamHeaderTooShort}

-- ## Sets

-- a number is put into it, where it has room
pub is_put : (s : ℕ) (a b : List Bool) → (s < length a → (n : ℕ) → is_in n b ≡ (if n == s then true else is_in n a)) → (length a ≤ s → b ≡ a)
    → length b ≡ length a → b ≡ set a s true
is_put s a b value full room = by (cases_lt s (length a))
  where
    at : s < length a → (n : ℕ) → is_in n (set a s true) ≡ (if n == s then true else is_in n a)
    at lt n = by_same n s
        (λ is. ap (λ k. is_in k (set a s true)) is ∙ get_or-set_same a s true false lt ∙ sym (ap (λ (k : ℕ). if k == s then true else is_in k a) is
        ∙ ap (λ (t : Bool). if t then true else is_in s a) (same-yes s)))
        (λ apart is. get_or-set_other a s n true false apart ∙ sym (ap (λ (t : Bool). if t then true else is_in n a) is))

    by : (s < length a) ⊎ (length a ≤ s) → b ≡ set a s true
    by (inl lt) = ext_get_or false b (set a s true) (room ∙ sym (length-set a s true)) (λ n below. value lt n ∙ sym (at lt n))
    by (inr ge) = full ge ∙ sym (set_past a s true ge)

-- ## A response

module _ (ss : List ℕ) (i : ℕ) (lt : i < length ss) where
  pub restarted_next : (t : Transmission) → restarted (drop i ss) t ≡ restarted (drop (i + 1) ss) (reset_on (get_or ss i 0) t)
  restarted_next t = ap (λ l. restarted l t) (drop_more ss i 0 lt)

  pub put_next : (flags : List Bool) → with_each (drop i ss) flags ≡ with_each (drop (i + 1) ss) (set flags (get_or ss i 0) true)
  put_next flags = ap (λ l. with_each l flags) (drop_more ss i 0 lt)

-- a stream that is not open stays so
unopened-same : (s : ℕ) (ls : List OutboundStream) → is_some (find (has_number s) ls) ≡ false → change_where (has_number s) from_first ls ≡ ls
unopened-same s [] none = refl
unopened-same s (l ∷ ls) none = by (has_number s l) (unopened-same s ls) none
  where
    by : (b : Bool) → (is_some (find (has_number s) ls) ≡ false → change_where (has_number s) from_first ls ≡ ls)
        → is_some (if b then Some l else find (has_number s) ls) ≡ false
        → (if b then from_first l else l) ∷ change_where (has_number s) from_first ls ≡ l ∷ ls
    by true rest none = absurd (false≢true (sym none))
    by false rest none = ap (λ k. l ∷ k) (rest none)

unknown-shut : (s : ℕ) (t : Transmission) → settings.reset_refusal s t ≡ Some refusal.StreamUnknown → sending.is_open s t ≡ false
unknown-shut s t e = by (sending.is_open s t) (is_drained s t) e
  where
    by : (o d : Bool) → (if not o then Some refusal.StreamUnknown else (if d then None else Some refusal.StreamBusy)) ≡ Some refusal.StreamUnknown → o ≡ false
    by false d e = refl
    by true true e = cc
    by true false e = cc

-- so it is whatever the sender answers, but where the stream is busy
pub restarts_unknown : (s : ℕ) (t u : Transmission) → settings.reset_refusal s t ≡ Some refusal.StreamUnknown → u ≡ t → u ≡ reset_on s t
restarts_unknown s t u e same = same ∙ sym (ap (λ ls. with_streams ls t) (unopened-same s t.streams (unknown-shut s t e)))

-- whatever the sender answers, but where the stream is busy
pub restarts_by : {X : Type 0} (s : ℕ) (t u : Transmission) (r : Result X SenderRefusal) → OnOk r (u ≡ reset_on s t)
    → IfErr r (λ e. settings.reset_refusal s t ≡ Some e) → OnErr r (u ≡ t) → IfErr r (λ e. e ≡ refusal.StreamUnknown) → u ≡ reset_on s t
restarts_by s t u (Ok x) ok refused err unknown = ok
restarts_by s t u (Err e) ok refused err unknown = restarts_unknown s t u (refused ∙ ap Some unknown) err

-- of these streams so many are restarted, and told of
pub record Restarts (ss : List ℕ) (i : ℕ) (a b : Association) : Type 0 where
  pub sender : restarted (drop i ss) b.outbound.sender ≡ restarted ss a.outbound.sender
  pub told : with_each (drop i ss) b.events.reset_by_us ≡ with_each ss a.events.reset_by_us
  pub rest : b ≡ record a {
    outbound = record a.outbound { sender = b.outbound.sender };
    events = record a.events { reset_by_us = b.events.reset_by_us };
  }

module _ (ss : List ℕ) (i : ℕ) (a b : Association) (h : Restarts ss i a b) where
  pub restarts_next : (c : Association) → i < length ss → c.outbound.sender ≡ reset_on (get_or ss i 0) b.outbound.sender
      → c.events.reset_by_us ≡ set b.events.reset_by_us (get_or ss i 0) true
      → c ≡ record b {
        outbound = record b.outbound { sender = c.outbound.sender };
        events = record b.events { reset_by_us = c.events.reset_by_us };
      }
      → Restarts ss (i + 1) a c
  restarts_next c lt sender told rest = record {
    sender = ap (λ t. restarted (drop (i + 1) ss) t) sender ∙ sym (restarted_next ss i lt b.outbound.sender) ∙ h.sender;
    told = ap (λ t. with_each (drop (i + 1) ss) t) told ∙ sym (put_next ss i lt b.events.reset_by_us) ∙ h.told;
    rest = rest ∙ ap (λ (x : Association). record x {
      outbound = record x.outbound { sender = c.outbound.sender };
      events = record x.events { reset_by_us = c.events.reset_by_us };
    }) h.rest;
  }

  pub restarts_all : length ss ≤ i → (q : Request) → q.streams ≡ ss → b ≡ followed (answer.Performed q) a
  restarts_all over q is =
      let none : drop i ss ≡ [] = drop_of_length-le ss over in
      let sender : b.outbound.sender ≡ restarted q.streams a.outbound.sender =
      sym (ap (λ l. restarted l b.outbound.sender) none) ∙ h.sender ∙ sym (ap (λ l. restarted l a.outbound.sender) is) in
      let told : b.events.reset_by_us ≡ with_each q.streams a.events.reset_by_us =
      sym (ap (λ l. with_each l b.events.reset_by_us) none) ∙ h.told ∙ sym (ap (λ l. with_each l a.events.reset_by_us) is) in
      h.rest ∙ ap (λ t. record a {
        outbound = record a.outbound { sender = t };
        events = record a.events { reset_by_us = b.events.reset_by_us };
      }) sender ∙ ap (λ f. record a {
        outbound = record a.outbound { sender = restarted q.streams a.outbound.sender };
        events = record a.events { reset_by_us = f };
      }) told

pub restarts_none : (ss : List ℕ) (a : Association) → Restarts ss 0 a a
restarts_none ss a = record { sender = refl; told = refl; rest = refl }

-- of these streams so many are told of as refused
pub record TellsRefused (ss : List ℕ) (i : ℕ) (a b : Association) : Type 0 where
  pub told : with_each (drop i ss) b.events.reset_refused ≡ with_each ss a.events.reset_refused
  pub rest : b ≡ record a { events = record a.events { reset_refused = b.events.reset_refused } }

module _ (ss : List ℕ) (i : ℕ) (a b : Association) (h : TellsRefused ss i a b) where
  pub refused_next : (c : Association) → i < length ss → c.events.reset_refused ≡ set b.events.reset_refused (get_or ss i 0) true
      → c ≡ record b { events = record b.events { reset_refused = c.events.reset_refused } } → TellsRefused ss (i + 1) a c
  refused_next c lt told rest = record {
    told = ap (λ t. with_each (drop (i + 1) ss) t) told ∙ sym (put_next ss i lt b.events.reset_refused) ∙ h.told;
    rest = rest ∙ ap (λ (x : Association). record x { events = record x.events { reset_refused = c.events.reset_refused } }) h.rest;
  }

  pub refused_all : length ss ≤ i → (q : Request) (why : ReconfigResult) → q.streams ≡ ss → b ≡ followed (answer.Refused q why) a
  refused_all over q why is =
      let none : drop i ss ≡ [] = drop_of_length-le ss over in
      let told : b.events.reset_refused ≡ with_each q.streams a.events.reset_refused =
      sym (ap (λ l. with_each l b.events.reset_refused) none) ∙ h.told ∙ sym (ap (λ l. with_each l a.events.reset_refused) is) in
      h.rest ∙ ap (λ f. record a { events = record a.events { reset_refused = f } }) told

pub refused_none : (ss : List ℕ) (a : Association) → TellsRefused ss 0 a a
refused_none ss a = record { told = refl; rest = refl }

-- the answer is followed, once the request is over or is to be sent again
module _ (r : ParamReconfigResponse) (now : ℕ) (a : Association) (x : Answer)
    (is : x ≡ answer_to r.reconfig_response_sequence_number r.result a.requests.under_way) where
  pub response_made : (b c : Association) → c ≡ followed x b → (o : Requests) → b ≡ record a { requests = o } → (rto : ℕ)
      → o ≡ after_response r.reconfig_response_sequence_number r.result now rto a.requests → rto ≡ a.outbound.rto.rto → c ≡ answered r now a
  response_made b c h o requests rto left timeout = h ∙ ap (λ k. followed k b) is
      ∙ ap (followed (answer_to r.reconfig_response_sequence_number r.result a.requests.under_way)) (requests
      ∙ ap (λ (k : Requests). record a { requests = k }) (left
      ∙ ap (λ t. after_response r.reconfig_response_sequence_number r.result now t a.requests) timeout))

  pub waits_made : (x ≡ answer.Wait) ⊎ (x ≡ answer.NotUnderWay) → (b : Association) → b ≡ followed x b
  waits_made (inl e) b = sym (ap (λ k. followed k b) e)
  waits_made (inr e) b = sym (ap (λ k. followed k b) e)

-- ## Streams of the peer

-- so it is of an association
module _ (s last : ℕ) (named : Bool) (a b : Association) where
  pub stream_in : (q : Result ReconfigResult Fault) (i j : Inbound) → a.inbound ≡ Some i → b.inbound ≡ Some j
      → IfOk q (λ r. ResetsOne s last named r i a.events j b.events) → OnlyReceives a b → IfOk q (λ r. ResetsStream s last named r a b)
  stream_in (Ok r) i j is become h rest = record {
    resets = subst (λ (o : Option Inbound). ResetsIn s last named r o a.events b.inbound b.events) (sym is)
        (subst (λ (o : Option Inbound). ResetsIn s last named r (Some i) a.events o b.events) (sym become) h);
    rest = rest;
  }
  stream_in (Err e) i j is become h rest = tt

  pub stream_none : a.inbound ≡ None → b ≡ a → ResetsStream s last named ErrorWrongSsn a b
  stream_none none same = subst (ResetsStream s last named ErrorWrongSsn a) (sym same) (record {
    resets = subst (λ (o : Option Inbound). ResetsIn s last named ErrorWrongSsn o a.events a.inbound a.events) (sym none) (refl, none, refl);
    rest = record {
      config = refl;
      key = refl;
      machine = refl;
      is_over = refl;
      wants_shutdown = refl;
      outbound = refl;
      requests = refl;
      peer_requests = refl;
      control = refl;
      guard = refl;
      heartbeat = refl;
      cookie = refl;
      due = refl;
      draft = refl;
    };
  })

-- Of the streams from a place on one more is reset. Its reset is in progress, or others follow.
module _ (last : ℕ) (named : Bool) (ss : List ℕ) (i : ℕ) (so_far : ReconfigResult) (a : Association) where
  here : (outcome : ReconfigResult) (new : Association) → i < length ss
      → ResetsEach last named (get_or ss i 0 ∷ drop (i + 1) ss) so_far outcome a new → ResetsEach last named (drop i ss) so_far outcome a new
  here outcome new lt h = subst (λ l. ResetsEach last named l so_far outcome a new) (sym (drop_more ss i 0 lt)) h

  pub each_step : i < length ss → (one next : ReconfigResult) (b : Association) → ResetsStream (get_or ss i 0) last named one a b
      → (one ≡ InProgress → ⊥) → next ≡ result_with named so_far one → (outcome : ReconfigResult) (new : Association)
      → ResetsEach last named (drop (i + 1) ss) next outcome b new → ResetsEach last named (drop i ss) so_far outcome a new
  each_step lt one next b reset goes is outcome new h =
      here outcome new lt (inr (one, goes, (b, reset, subst (λ r. ResetsEach last named (drop (i + 1) ss) r outcome b new) is h)))

  pub each_stop : i < length ss → (one : ReconfigResult) (b : Association) → ResetsStream (get_or ss i 0) last named one a b → one ≡ InProgress
      → ResetsEach last named (drop i ss) so_far InProgress a b
  each_stop lt one b reset is = here InProgress b lt (inl (subst (λ r. ResetsStream (get_or ss i 0) last named r a b) is reset, refl))

  pub each_over : length ss ≤ i → ResetsEach last named (drop i ss) so_far so_far a a
  each_over over = subst (λ l. ResetsEach last named l so_far so_far a a) (sym (drop_of_length-le ss over)) (refl, refl)

-- so it is of all numbers up to one
module _ (last i left : ℕ) (a b : Association) where
  numbered : (outcome : ReconfigResult) (new : Association) (n : ℕ) → n ≡ suc left
      → ResetsEach last false (i ∷ numbers_from left (suc i)) SuccessPerformed outcome a new
      → ResetsEach last false (numbers_from n i) SuccessPerformed outcome a new
  numbered outcome new n is h = subst (λ k. ResetsEach last false (numbers_from k i) SuccessPerformed outcome a new) (sym is) h

  pub all_step : (n : ℕ) → n ≡ left + 1 → (one : ReconfigResult) → ResetsStream i last false one a b → (one ≡ InProgress → ⊥)
      → (outcome : ReconfigResult) (new : Association)
      → ResetsEach last false (numbers_from left (i + 1)) SuccessPerformed outcome b new
      → ResetsEach last false (numbers_from n i) SuccessPerformed outcome a new
  all_step n is one reset goes outcome new h =
      let one-more : n ≡ suc left = omega (arith, is) in
      let next : i + 1 ≡ suc i = omega arith in
      numbered outcome new n one-more
      (inr (one, goes, (b, reset, subst (λ k. ResetsEach last false (numbers_from left k) SuccessPerformed outcome b new) next h)))

  pub all_stop : (n : ℕ) → n ≡ left + 1 → (one : ReconfigResult) → ResetsStream i last false one a b → one ≡ InProgress
      → ResetsEach last false (numbers_from n i) SuccessPerformed InProgress a b
  all_stop n is one reset stop =
      let one-more : n ≡ suc left = omega (arith, is) in
      numbered InProgress b n one-more (inl (subst (λ r. ResetsStream i last false r a b) stop reset, refl))

wrong-other : ErrorWrongSsn ≡ SuccessPerformed → ⊥
wrong-other e = cc

pub progress_other : InProgress ≡ SuccessPerformed → ⊥
progress_other e = cc

-- a number past those that were agreed, and a request of which a TSN is missing
module _ (s last : ℕ) (named : Bool) (i : Inbound) (e : Events) where
  result-of : (b k : Bool) → nat_le i.streams s ≡ b → comes_before i.receiver.cumulative_tsn last ≡ k
      → reset_result s last i ≡ (if b then ErrorWrongSsn else (if k then InProgress else SuccessPerformed))
  result-of b k is ks =
      ap (λ (x : Bool). if x then ErrorWrongSsn else (if comes_before i.receiver.cumulative_tsn last then InProgress else SuccessPerformed)) is
      ∙ ap (λ (x : Bool). if b then ErrorWrongSsn else (if x then InProgress else SuccessPerformed)) ks

  pub reset_wrong : i.streams ≤ s → ResetsOne s last named ErrorWrongSsn i e i e
  reset_wrong le = record {
    result = sym (result-of true (comes_before i.receiver.cumulative_tsn last) (le-leb i.streams s le) refl);
    performed = λ is. absurd (wrong-other is);
    unperformed = λ off. (refl, refl);
  }

  below : s < i.streams → nat_le i.streams s ≡ false
  below lt = grind (arith, nat_tests)

  pub reset_waits : s < i.streams → comes_before i.receiver.cumulative_tsn last ≡ true → ResetsOne s last named InProgress i e i e
  reset_waits lt missing = record {
    result = sym (result-of false true (below lt) missing);
    performed = λ is. absurd (progress_other is);
    unperformed = λ off. (refl, refl);
  }

  pub reset_done : s < i.streams → comes_before i.receiver.cumulative_tsn last ≡ false → (j : Inbound) (f : Events) → IsPerformed s last named i e j f
      → ResetsOne s last named SuccessPerformed i e j f
  reset_done lt whole j f h = record {
    result = sym (result-of false false (below lt) whole);
    performed = λ is. h;
    unperformed = λ off. absurd (off refl);
  }

-- what the receiver makes of it, where no TSN is missing
module _ (s last : ℕ) (r q : Reception) (whole : comes_before r.cumulative_tsn last ≡ false) where
  refusal-of : (o : Bool) → is_open s r ≡ o → reset_refusal s last r ≡ (if o then None else Some StreamUnknown)
  refusal-of o is = ap (λ (x : Bool). if x then (if comes_before r.cumulative_tsn last then Some ResetInProgress else None) else Some StreamUnknown) is
      ∙ ap (λ (k : Bool). if o then (if k then Some ResetInProgress else None) else Some StreamUnknown) whole

  pub never_waits : IsRefusedFor (reset_refusal s last r) ResetInProgress → ⊥
  never_waits h = by (is_open s r) refl h
    where
      by : (o : Bool) → is_open s r ≡ o → IsRefusedFor (reset_refusal s last r) ResetInProgress → ⊥
      by o is (inl h) = cc (h.0)
      by true is (inr h) = cc (refusal-of true is, h)
      by false is (inr h) = cc (refusal-of false is, h)

  pub was_open : reset_refusal s last r ≡ None → is_open s r ≡ true
  was_open e = by (is_open s r) refl
    where
      by : (o : Bool) → is_open s r ≡ o → is_open s r ≡ true
      by true is = is
      by false is = cc (refusal-of false is, e)

  pub was_shut : IsRefusedFor (reset_refusal s last r) StreamUnknown → is_open s r ≡ false
  was_shut h = by (is_open s r) refl h
    where
      by : (o : Bool) → is_open s r ≡ o → IsRefusedFor (reset_refusal s last r) StreamUnknown → is_open s r ≡ false
      by false is h = is
      by true is (inl h) = cc (h.0)
      by true is (inr h) = cc (refusal-of true is, h)

  pub resets_open : is_open s r ≡ true → q ≡ reset_stream s last r → q ≡ reset_open s last r
  resets_open is made = made ∙ sym (ap (λ (x : Bool). if x then reset_stream s last r else r) is)

  pub resets_shut : is_open s r ≡ false → q ≡ r → q ≡ reset_open s last r
  resets_shut is same = same ∙ sym (ap (λ (x : Bool). if x then reset_stream s last r else r) is)

-- the user is told of it
module _ (s : ℕ) (named told : Bool) (a m b : List Bool) (same : (n : ℕ) → is_in n m ≡ is_in n a) (kept : length a ≤ length m)
    (room : named ≡ true → s < length m) (value : told ≡ true → s < length m → (n : ℕ) → is_in n b ≡ (if n == s then true else is_in n m))
    (full : told ≡ true → length m ≤ s → b ≡ m) (silent : told ≡ false → b ≡ m) where
  has-room : (named ≡ true) ⊎ (s < length a) → s < length m
  has-room (inl is) = room is
  has-room (inr lt) = omega (arith, lt, kept)

  other : (n : ℕ) → (n == s) ≡ false → (t : Bool) → told ≡ t → (s < length m) ⊎ (length m ≤ s) → is_in n b ≡ is_in n m
  other n apart true is (inl lt) = value is lt n ∙ ap (λ (t : Bool). if t then true else is_in n m) apart
  other n apart true is (inr ge) = ap (is_in n) (full is ge)
  other n apart false is h = ap (is_in n) (silent is)

  pub tells_put : TellsReset s named told a b
  tells_put = record {
    told = λ is h. value is (has-room h) s ∙ ap (λ (t : Bool). if t then true else is_in s m) (same-yes s);
    untold = λ is. ap (is_in s) (silent is) ∙ same s;
    others = λ n apart. other n apart told refl (cases_lt s (length m)) ∙ same n;
  }

-- a result that is none of these two is that of the request
pub wrong_result : (so_far one : ReconfigResult) → (one ≡ SuccessPerformed → ⊥) → result_with true so_far one ≡ one
wrong_result so_far SuccessPerformed other = absurd (other refl)
wrong_result so_far _ other = refl

-- nothing but the receiving half and the events changes
pub each_peer : (last : ℕ) (named : Bool) (ss : List ℕ) (so_far outcome : ReconfigResult) (a b : Association)
    → ResetsEach last named ss so_far outcome a b → b.peer_requests ≡ a.peer_requests
each_peer last named [] so_far outcome a b h = ap (λ (x : Association). x.peer_requests) h.1
each_peer last named (s ∷ ss) so_far outcome a b (inl h) = h.0.rest.peer_requests
each_peer last named (s ∷ ss) so_far outcome a b (inr h) =
    each_peer last named ss (result_with named so_far h.0) outcome h.2.0 b h.2.2 ∙ h.2.1.rest.peer_requests

pub listed_some : (last : ℕ) (ss : List ℕ) (outcome : ReconfigResult) (a b : Association) → 0 < length ss
    → ResetsEach last true ss SuccessPerformed outcome a b → ResetsListed last ss outcome a b
listed_some last [] outcome a b some h = absurd (omega (arith, some))
listed_some last (s ∷ ss) outcome a b some h = h

pub listed_none : (last : ℕ) (ss : List ℕ) (outcome : ReconfigResult) (a b : Association) → ss ≡ []
    → ResetsEach last false (numbers_from (inbound_agreed (agreed a.machine)) 0) SuccessPerformed outcome a b → ResetsListed last ss outcome a b
listed_none last ss outcome a b none h = subst (λ l. ResetsListed last l outcome a b) (sym none) h

pub listed_all : (q : Result ReconfigResult Fault) (last : ℕ) (ss : List ℕ) (a b : Association) → ss ≡ []
    → IfOk q (λ r. ResetsEach last false (numbers_from (inbound_agreed (agreed a.machine)) 0) SuccessPerformed r a b)
    → IfOk q (λ r. ResetsListed last ss r a b)
listed_all (Ok r) last ss a b none h = listed_none last ss r a b none h
listed_all (Err e) last ss a b none h = tt

pub listed_peer : (last : ℕ) (ss : List ℕ) (outcome : ReconfigResult) (a b : Association) → ResetsListed last ss outcome a b
    → b.peer_requests ≡ a.peer_requests
listed_peer last [] outcome a b h = each_peer last false (numbers_from (inbound_agreed (agreed a.machine)) 0) SuccessPerformed outcome a b h
listed_peer last (s ∷ ss) outcome a b h = each_peer last true (s ∷ ss) SuccessPerformed outcome a b h

-- ## A request

-- the expected one came just now
awaited-by : (n : ℕ) (p : PeerRequests) (b : Bool) → (n == p.expected) ≡ b → due_for n p ≡ Perform → (after_request n p).is_awaited ≡ true
awaited-by n p true e due = ap (λ (b : Bool). (if b then record p { is_awaited = true } else respond n (result_of (kept_result n p)) p).is_awaited) e
awaited-by n p false e due = absurd (none (kept_result n p) (sym (ap (λ (b : Bool). if b then Perform else due_of (kept_result n p)) e) ∙ due))
  where
    none : (o : Option ReconfigResult) → due_of o ≡ Perform → ⊥
    none (Some r) is = cc
    none None is = cc

pub awaited : (n : ℕ) (p : PeerRequests) → due_for n p ≡ Perform → (after_request n p).is_awaited ≡ true
awaited n p due = awaited-by n p (n == p.expected) refl due

module _ (r : ResetRequest) (a b : Association) (o : Option PeerRequests) (p q : PeerRequests) (is : o ≡ Some p)
    (came : q ≡ after_request r.reconfig_request_sequence_number p) (d : Due) (due : d ≡ due_for r.reconfig_request_sequence_number p) where
  request-by : RequestBy d r q a b → RequestOn r o a b
  request-by h =
      subst (λ x. RequestOn r x a b) (sym is) (subst (λ x. RequestBy (due_for r.reconfig_request_sequence_number p) r x a b) came
      (subst (λ x. RequestBy x r q a b) due h))

  pub request_performed : d ≡ Perform → Performs r q a b → RequestOn r o a b
  request_performed perform h = request-by (subst (λ x. RequestBy x r q a b) (sym perform) h)

  pub request_answered : (d ≡ Perform → ⊥) → b ≡ with_peer q a → RequestOn r o a b
  request_answered other h = request-by (by d other)
    where
      by : (x : Due) → (x ≡ Perform → ⊥) → RequestBy x r q a b
      by Perform off = absurd (off refl)
      by (Again result) off = h
      by Bad off = h

pub request_none : (r : ResetRequest) (a b : Association) (o : Option PeerRequests) → o ≡ None → b ≡ a → RequestOn r o a b
request_none r a b o none same = subst (λ x. RequestOn r x a b) (sym none) same

-- ## A denied request

pub denied_none : (n : Option ℕ) (a : Association) → a.peer_requests ≡ None → a ≡ denied_by n a
denied_none None a none = refl
denied_none (Some k) a none = sym (ap (λ (x : Option PeerRequests). record a { peer_requests = option_map (denied k) x }) none
    ∙ ap (λ (x : Option PeerRequests). record a { peer_requests = x }) (sym none))

-- the expected one, and any other one
pub denied_expected : (n : ℕ) (p q : PeerRequests) → q ≡ after_request n p → due_for n p ≡ Perform → after_answer Denied q ≡ denied n p
denied_expected n p q came due = by (n == p.expected) refl
  where
    by : (b : Bool) → (n == p.expected) ≡ b → after_answer Denied q ≡ denied n p
    by true e = ap (after_answer Denied) came ∙ sym (ap (λ (b : Bool). if b then after_answer Denied (after_request n p) else after_request n p) e)
    by false e = absurd (none (kept_result n p) (sym (ap (λ (b : Bool). if b then Perform else due_of (kept_result n p)) e) ∙ due))
      where
        none : (o : Option ReconfigResult) → due_of o ≡ Perform → ⊥
        none (Some r) is = cc
        none None is = cc

pub denied_other : (n : ℕ) (p q : PeerRequests) → q ≡ after_request n p → (due_for n p ≡ Perform → ⊥) → q ≡ denied n p
denied_other n p q came other = by (n == p.expected) refl
  where
    by : (b : Bool) → (n == p.expected) ≡ b → q ≡ denied n p
    by true e = absurd (other (ap (λ (b : Bool). if b then Perform else due_of (kept_result n p)) e))
    by false e = came ∙ sym (ap (λ (b : Bool). if b then after_answer Denied (after_request n p) else after_request n p) e)

-- ## A parameter

-- neither a request to reset outgoing streams nor a response
pub kind_other : (p : ParamKind) (now : ℕ) (a b : Association) → b ≡ a → ((r : ParamOutgoingResetRequest) → p ≡ OutgoingResetRequest r → ⊥)
    → ((r : ParamReconfigResponse) → p ≡ ReconfigResponse r → ⊥) → FollowsParam (parameter_of p) now a b
kind_other (OutgoingResetRequest r) now a b same request response = absurd (request r refl)
kind_other (ReconfigResponse r) now a b same request response = absurd (response r refl)
kind_other _ now a b same request response = same

-- by its type
module _ (typ : ℕ) (raw : List ℕ) (at now : ℕ) (a b : Association) where
  pub param_read : is_read typ ≡ true → is_denied typ ≡ false → FollowsBytes (drop at raw) now a b → ParamOn typ raw at now a b
  param_read on plain h = record {
    read = λ e. h;
    denied = λ e. absurd (false≢true (sym plain ∙ e));
    other = λ e f. absurd (false≢true (sym e ∙ on));
  }

  pub param_denied : is_denied typ ≡ true → is_read typ ≡ false → b ≡ denied_by (number_at raw at) a → ParamOn typ raw at now a b
  param_denied on plain h = record {
    read = λ e. absurd (false≢true (sym plain ∙ e));
    denied = λ e. h;
    other = λ e f. absurd (false≢true (sym f ∙ on));
  }

  pub param_other : is_read typ ≡ false → is_denied typ ≡ false → b ≡ a → ParamOn typ raw at now a b
  param_other read denied h = record {
    read = λ e. absurd (false≢true (sym read ∙ e));
    denied = λ e. absurd (false≢true (sym denied ∙ e));
    other = λ e f. h;
  }

pub param_ok : {X E : Type 0} (q : Result X E) (typ : ℕ) (raw : List ℕ) (at now : ℕ) (a b : Association) → is_read typ ≡ true → is_denied typ ≡ false
    → OnOk q (FollowsBytes (drop at raw) now a b) → OnOk q (ParamOn typ raw at now a b)
param_ok (Ok x) typ raw at now a b on plain h = param_read typ raw at now a b on plain h
param_ok (Err e) typ raw at now a b on plain h = tt

-- bytes that are cut out of the chunk
module _ (rest raw : List ℕ) (at now : ℕ) (a b : Association) (cut : rest ≡ drop at raw) where
  pub read_some : {X E : Type 0} (q : Result X E) (p : Parameter) → ReadsParam rest p → OnOk q (FollowsParam p now a b)
      → OnOk q (FollowsBytes (drop at raw) now a b)
  read_some (Ok x) p reads h = inl (p, subst (λ l. ReadsParam l p) cut reads, h)
  read_some (Err e) p reads h = tt

  pub read_none : {X E : Type 0} (q : Result X E) (e : Error) → OnOk q (e ≡ ErrOutOfMemory → ⊥)
      → ((p : Parameter) → ReadsParam rest p → e ≡ ErrOutOfMemory) → b ≡ a → OnOk q (FollowsBytes (drop at raw) now a b)
  read_none (Ok x) e other only same = inr (λ p reads. other (only p (subst (λ l. ReadsParam l p) (sym cut) reads)), same)
  read_none (Err x) e other only same = tt

-- no bytes are left
pub none_left : (raw : List ℕ) (at now : ℕ) (a : Association) → length raw < at → FollowsBytes (drop at raw) now a a
none_left raw at now a lt = inr (λ p reads. let headed = reads.is_param.headed in absurd (omega (arith, headed, length-drop at raw, lt)), refl)

-- ## A chunk

module _ (raw : List ℕ) (at : ℕ) where
  pub param_there : IsParam (drop at raw) → is_param raw at ≡ true
  param_there h = rw (le-leb 4 (length (drop at raw)) h.headed) (rw (le-leb 4 (param_declared_length (drop at raw)) h.least)
      (rw (le-leb (param_declared_length (drop at raw)) (length (drop at raw)) h.within) refl))

  pub param_none : (IsParam (drop at raw) → ⊥) → is_param raw at ≡ false
  param_none off = by (is_param raw at) refl
    where
      by : (b : Bool) → is_param raw at ≡ b → is_param raw at ≡ false
      by false e = e
      by true e =
          let one = and_parts (nat_le 4 (length (drop at raw)) && nat_le 4 (param_declared_length (drop at raw)))
          (nat_le (param_declared_length (drop at raw)) (length (drop at raw))) e in
          let two = and_parts (nat_le 4 (length (drop at raw))) (nat_le 4 (param_declared_length (drop at raw))) one.0 in
          absurd (off (record {
            headed = leb-true 4 (length (drop at raw)) two.0;
            least = leb-true 4 (param_declared_length (drop at raw)) two.1;
            within = leb-true (param_declared_length (drop at raw)) (length (drop at raw)) one.1;
          }))

  pub param_over : length raw ≤ at → is_param raw at ≡ false
  param_over le = param_none (λ h. let headed = h.headed in absurd (omega (arith, headed, length-drop at raw, le)))

  -- none was found
  pub param_missing : (l : List ℕ) → l ≡ raw → (r : Result ParamPlace Error) → ((p : ParamPlace) → r ≡ Ok p → ⊥)
      → IfErr r (λ e. (e ≡ ErrParamHeaderTooShort) × (IsParam (drop at l) → ⊥)) → is_param raw at ≡ false
  param_missing l is (Ok p) off h = absurd (off p refl)
  param_missing l is (Err e) off h = param_none (λ there. h.1 (subst (λ x. IsParam (drop at x)) (sym is) there))

  module _ (has : Bool) where
    -- no parameter stands there
    pub end_none : is_param raw at ≡ false → is_end raw at has ≡ true
    end_none e = ap (λ (b : Bool). not b || (((place raw at).typ == 13) && has)) e

    module _ (p : ParamPlace) (tells : TellsParam raw at p) where
      -- it is a second request to reset outgoing streams
      pub end_second : (p.typ == 13) ≡ true → has ≡ true → is_end raw at has ≡ true
      end_second is was = rw (param_there tells.is_param) (rw (sym (ap (λ n. n == 13) tells.typ) ∙ is) (rw was refl))

      -- it is none
      pub end_not : ((p.typ == 13) && has) ≡ false → is_end raw at has ≡ false
      end_not is = rw (param_there tells.is_param) (sym (ap (λ n. (n == 13) && has) tells.typ) ∙ is)

      module _ (now most seen : ℕ) (lt : seen < most) (goes : ((p.typ == 13) && has) ≡ false) (a b : Association)
          (followed : ParamOn p.typ raw at now a b) where
        step : (later : Bool) → later ≡ (has || (p.typ == 13)) → (new : Association) (left : ℕ) → most - seen ≡ suc left
            → ParamsOn left raw p.next later now b new → ParamsOn (suc left) raw at has now a new
        step later is new left e h = inr (
          end_not goes,
          (
            b,
            subst (λ t. ParamOn t raw at now a b) tells.typ followed,
            subst (λ n. ParamsOn left raw n (has || ((place raw at).typ == 13)) now b new) tells.later
                (subst (λ x. ParamsOn left raw p.next x now b new) (is ∙ ap (λ n. has || (n == 13)) tells.typ) h),
          ),
        )

        -- a parameter more is followed
        pub params_next : (later : Bool) → later ≡ (has || (p.typ == 13)) → (new : Association)
            → ParamsOn (most - (seen + 1)) raw p.next later now b new → ParamsOn (most - seen) raw at has now a new
        params_next later is new h =
            let left : most - seen ≡ suc (most - (seen + 1)) = omega (arith, lt) in
            subst (λ n. ParamsOn n raw at has now a new) (sym left) (step later is new (most - (seen + 1)) left h)

  -- nothing more is followed
  pub params_end : (most : ℕ) (has : Bool) (now : ℕ) (a : Association) → is_end raw at has ≡ true → ParamsOn most raw at has now a a
  params_end zero has now a e = refl
  params_end (suc most) has now a e = inl (e, refl)

pub params_over : (most : ℕ) (raw : List ℕ) (at : ℕ) (has : Bool) (now : ℕ) (a : Association) → most ≡ 0 → ParamsOn most raw at has now a a
params_over zero raw at has now a e = refl
params_over (suc most) raw at has now a e = absurd (omega (arith, e))
