-- A RE-CONFIG leaves where a response or a request is due.
use Rattle.std.proofs.Common.{◌≡◌, ◌⊎◌, ℕ, ◌≤◌, ◌<◌, List, Bool, true, false, Option, Some, None, arith, refl, ap, inl, inr, sym, subst, ◌∙◌}
use Rattle.std.proofs.lemmas.Bool.{false≢true}
use Rattle.std.specs.Prelude.{IfSome, is_some}
use Rattle.sctp_association.proofs.Known.{owes_alike}
use Rattle.sctp_association.proofs.Others.{put_alike, puts_one, same_puts}
use Rattle.sctp_association.proofs.Owing.{later_not_due}
use Rattle.sctp_association.proofs.Putting.{adds_none}
use Rattle.sctp_association.specs.declared.association.Association.{Association}
use Rattle.sctp_association.specs.Halves.{HalvesAlike, PutsDue, receiver_of}
use Rattle.sctp_association.specs.Leaving.{AsksNoMore, IsDueOnce, IsParamOf, IsParamOnce, PutsReconfig, owed_at, request_in, requests_due, responses_due}
use Rattle.sctp_association.specs.Kept.{IsUnmoved}
use Rattle.sctp_association.specs.Still.{IsLater, comes, heartbeat_time, request_by, request_time}
use Rattle.sctp_chunks.specs.Wire.{reconfig_chunk}
use Rattle.sctp_packets.specs.Draft.{Draft}
use Rattle.sctp_params.specs.Param.{Parameter, outgoing_reset_request, reconfig_response}
use Rattle.sctp_params.specs.declared.param.param_reconfig_response.ParamReconfigResponse.{ParamReconfigResponse}
use Rattle.sctp_path.specs.Timers.{is_due}
use Rattle.sctp_reset.specs.Peer.{first_due, without_first}
use Rattle.sctp_reset.specs.Requests.{Request, Requests}
use Rattle.sctp_reset.specs.declared.peer_requests.PeerRequests.{PeerRequests}

-- ## Responses

fewer-of : (p : PeerRequests) (o n : Option ParamReconfigResponse)
    → responses_due (Some (without_first (record p { older = o; newer = n }))) ≤ responses_due (Some (record p { older = o; newer = n }))
fewer-of p (Some r) n = omega arith
fewer-of p None (Some r) = omega arith
fewer-of p None None = omega arith

pub fewer : (p : PeerRequests) → responses_due (Some (without_first p)) ≤ responses_due (Some p)
fewer p = fewer-of p p.older p.newer

taken-of : (p : PeerRequests) (o n : Option ParamReconfigResponse) → is_some (first_due (record p { older = o; newer = n })) ≡ true
    → responses_due (Some (without_first (record p { older = o; newer = n }))) < responses_due (Some (record p { older = o; newer = n }))
taken-of p (Some r) n h = omega arith
taken-of p None (Some r) h = omega arith
taken-of p None None h = absurd (false≢true h)

pub taken : (p : PeerRequests) → is_some (first_due p) ≡ true → responses_due (Some (without_first p)) < responses_due (Some p)
taken p h = taken-of p p.older p.newer h

-- ## Requests

later-by : (now : ℕ) (w : List ℕ) (u : Option Request) → is_some u ≡ true → IsLater now (request_by u) → request_in now w u ≡ false
later-by now w None some later = absurd (false≢true some)
later-by now w (Some r) some later = later_not_due now (comes r.at) later

pub later_asked : (now : ℕ) (o : Requests) → is_some o.under_way ≡ true → IsLater now (request_by o.under_way) → requests_due now o ≡ false
later_asked now o some later = later-by now o.waiting o.under_way some later

-- ## A RE-CONFIG

module _ (now : ℕ) (a d : Association) (responds asks : Bool) (p : PutsReconfig responds asks a.draft d.draft)
    (less : responds ≡ true → responses_due d.peer_requests < responses_due a.peer_requests) (h : HalvesAlike a d) where
  param-once : (asks ≡ true → (requests_due now a.requests ≡ true) × (requests_due now d.requests ≡ false)) → (q : Parameter)
      → IsParamOf responds asks q → IsParamOnce (owed_at now a) (owed_at now d) q
  param-once f (outgoing_reset_request r) is = f is
  param-once f (reconfig_response r) is = less is
  param-once f _ is = absurd is

  params-once : (asks ≡ true → (requests_due now a.requests ≡ true) × (requests_due now d.requests ≡ false)) → (o : Option Parameter)
      → IfSome o (IsParamOf responds asks) → IfSome o (IsParamOnce (owed_at now a) (owed_at now d))
  params-once f None is = tt
  params-once f (Some q) is = param-once f q is

  puts-so : (asks ≡ true → (requests_due now a.requests ≡ true) × (requests_due now d.requests ≡ false)) → PutsDue now a d
  puts-so f = put_alike a d (IsDueOnce (owed_at now a) (owed_at now d)) a.draft.bytes d.draft.bytes h (
      puts_one p.is_put (reconfig_chunk p.chunk) a.outbound.sender (receiver_of a.inbound) a.draft.bytes d.draft.bytes p.added tt
      (λ is. (p.some is, (params-once f p.chunk.param_a p.own.first, params-once f p.chunk.param_b p.own.second))))

  puts-by : (asks ≡ true → requests_due now a.requests ≡ true) → (d.draft ≡ a.draft) ⊎ (requests_due now d.requests ≡ false) → PutsDue now a d
  puts-by due (inl same) = same_puts a d (ap (λ (x : Draft). x.bytes) same) h
  puts-by due (inr later) = puts-so (λ e. (due e, later))

  pub puts_resets : (k : Bool) → asks ≡ k → (asks ≡ true → requests_due now a.requests ≡ true)
      → (asks ≡ true → (d.draft ≡ a.draft) ⊎ (requests_due now d.requests ≡ false)) → PutsDue now a d
  puts_resets false is due sent = puts-so (λ e. absurd (false≢true (sym is ∙ e)))
  puts_resets true is due sent = puts-by due (sent is)

-- nothing is put
pub puts_nothing : (responds asks : Bool) (d : Draft) → PutsReconfig responds asks d d
puts_nothing responds asks d = record {
  is_put = false;
  chunk = record { param_a = None; param_b = None };
  own = record { first = tt; second = tt };
  some = λ is. absurd (false≢true is);
  added = adds_none d.bytes;
}

-- ## What changes beside the packet

pub request_rest : (a q : Association) → q ≡ record a { requests = q.requests }
    → q ≡ record a { draft = q.draft; requests = q.requests; peer_requests = q.peer_requests }
request_rest a q e =
    subst (λ (x : Association). x ≡ record a { draft = x.draft; requests = x.requests; peer_requests = x.peer_requests }) (sym e) refl

pub response_rest : (a q p : Association) → q ≡ record a { requests = q.requests } → p ≡ record q { peer_requests = p.peer_requests }
    → p ≡ record a { draft = p.draft; requests = p.requests; peer_requests = p.peer_requests }
response_rest a q p one two =
    subst (λ (x : Association). x ≡ record a { draft = x.draft; requests = x.requests; peer_requests = x.peer_requests })
    (sym (two ∙ ap (λ (x : Association). record x { peer_requests = p.peer_requests }) one)) refl

-- only requests and responses change
module _ (now : ℕ) (a d : Association) (rest : d ≡ record a { draft = d.draft; requests = d.requests; peer_requests = d.peer_requests }) where
  pub reset_alike : HalvesAlike a d
  reset_alike = subst (HalvesAlike a) (sym rest) (record {
    sender = refl;
    receiver = refl;
    path = refl;
  })

  pub reset_unmoved : IsUnmoved a d
  reset_unmoved = subst (IsUnmoved a) (sym rest) (record {
    config = refl;
    key = refl;
    machine = refl;
    alone = refl;
    cookie = refl;
    events = refl;
    over = refl;
    wants = refl;
    control = refl;
    guard = refl;
    failures = refl;
    rto = refl;
    usable = λ s. refl;
    due = owes_alike a.due;
    sack = λ e. e;
    unknown = λ s e. e;
  })

  pub reset_asks : (requests_due now a.requests ≡ false → requests_due now d.requests ≡ false)
      → responses_due d.peer_requests ≤ responses_due a.peer_requests → AsksNoMore now a d
  reset_asks f less = record {
    beat = λ e. ap (λ (x : Association). is_due now (heartbeat_time x)) rest ∙ e;
    request = f;
    responses = less;
  }

-- a request, a response, and the packet in turn
module _ (a q p d : Association) (one : q ≡ record a { requests = q.requests }) (two : p ≡ record q { peer_requests = p.peer_requests })
    (three : d ≡ record p { draft = d.draft; requests = d.requests }) where
  same-peer : d.peer_requests ≡ p.peer_requests
  same-peer = ap (λ (x : Association). x.peer_requests) three

  pub reset_rest : d ≡ record a { draft = d.draft; requests = d.requests; peer_requests = d.peer_requests }
  reset_rest = three
      ∙ ap (λ (x : Association). record x { draft = d.draft; requests = d.requests }) (
      two ∙ ap (λ (x : Association). record x { peer_requests = p.peer_requests }) one)
      ∙ ap (λ r. record a { draft = d.draft; requests = d.requests; peer_requests = r }) (sym same-peer)

  pub reset_less : responses_due p.peer_requests < responses_due q.peer_requests → responses_due d.peer_requests < responses_due a.peer_requests
  reset_less h = omega (arith, h, ap responses_due same-peer, ap (λ (x : Association). responses_due x.peer_requests) one)

  pub reset_most : responses_due p.peer_requests ≤ responses_due q.peer_requests → responses_due d.peer_requests ≤ responses_due a.peer_requests
  reset_most h = omega (arith, h, ap responses_due same-peer, ap (λ (x : Association). responses_due x.peer_requests) one)

  -- the packet was not written yet
  pub reset_draft : p.draft ≡ a.draft
  reset_draft = ap (λ (x : Association). x.draft) two ∙ ap (λ (x : Association). x.draft) one

  pub reset_requests : p.requests ≡ q.requests
  reset_requests = ap (λ (x : Association). x.requests) two

-- what was sent is due later
pub sent_later : (now : ℕ) (d : Association) (old given : Draft) → is_some d.requests.under_way ≡ true → given ≡ old
    → (d.draft ≡ given) ⊎ IsLater now (request_time d) → (d.draft ≡ old) ⊎ (requests_due now d.requests ≡ false)
sent_later now d old given under same (inl kept) = inl (kept ∙ same)
sent_later now d old given under same (inr later) = inr (later_asked now d.requests under later)
