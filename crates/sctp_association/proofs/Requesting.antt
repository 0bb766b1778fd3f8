-- The request under way is of few streams. A RE-CONFIG leaves where a response or a request is due, and says what it does.
use Rattle.std.proofs.Common.{◌≡◌, inl, ℕ, ◌+◌, ◌-◌, ◌^◌, ◌≤◌, List, [], ◌∷◌, ◌++◌, length, length-take, take, Bool, true, false, Option, Some, None}
use Rattle.std.proofs.Common.{arith, refl, ap, sym, subst, ◌∙◌}
use Rattle.std.proofs.lemmas.Bool.{false≢true}
use Rattle.std.proofs.lemmas.List.{append-nil}
use Rattle.std.proofs.lemmas.Option.{none-some}
use Rattle.std.specs.Prelude.{nat_le, ◌==◌, ◌%◌, max, if◌then◌else◌, is_some, option_map}
use Rattle.std.specs.List.{AllByRecursion, filter}
use Rattle.std.specs.Prelude.{Result, Ok, Err, OnErr, OnOk}
use Rattle.std.specs.Result.{IsErr}
use Rattle.sctp_association.proofs.Idle.{longer_by_chunk}
use Rattle.sctp_association.proofs.Making.{of-some}
use Rattle.sctp_association.proofs.Others.{refused}
use Rattle.sctp_association.proofs.Putting.{adds_none, adds_then}
use Rattle.sctp_association.specs.declared.association.Association.{Association}
use Rattle.sctp_association.specs.declared.due.Alone.{Alone}
use Rattle.sctp_association.specs.declared.due.AloneKind.{AloneKind}
use Rattle.sctp_association.specs.declared.due.AloneKind.TheVariants as alone
use Rattle.sctp_association.specs.declared.fault.Fault.{Fault}
use Rattle.sctp_association.specs.Halves.{IsAsTimed, PutsOnce, PutsOthers, PutsSent, is_sent}
use Rattle.sctp_association.specs.Leaving.{IsReplyOnce, owed_of, request_in, requests_due}
use Rattle.sctp_association.specs.Packets.{Adds, IsSkipOnce, put_where, sum_of, with_chunks}
use Rattle.sctp_association.specs.Replying.{AreReply, IsOneWithin, IsReply, header_to}
use Rattle.sctp_association.specs.Requesting.{Answers, KeepsResets, LeavesReset, LeavesResetIn, OwesNoReset, PutsReset, Resets, at_most_one, begun, due_of}
use Rattle.sctp_association.specs.Requesting.{first_response, reconfigs_in, resets_of}
use Rattle.sctp_association.specs.Still.{comes}
use Rattle.sctp_chunks.specs.Reconfig.{Reconfig}
use Rattle.sctp_chunks.specs.Wire.{Wire, reconfig_chunk}
use Rattle.sctp_handshake.specs.declared.machine.Machine.{Machine}
use Rattle.sctp_packets.specs.declared.packet.CommonHeader.{CommonHeader}
use Rattle.sctp_packets.specs.Draft.{IsDraft, headed}
use Rattle.sctp_packets.specs.Packet.{Parts, packet_encoding}
use Rattle.sctp_params.specs.declared.param.param_reconfig_response.ParamReconfigResponse.{ParamReconfigResponse}
use Rattle.sctp_params.specs.declared.param.param_reconfig_response.ReconfigResult.{ReconfigResult}
use Rattle.sctp_params.specs.declared.param.param_reconfig_response.ReconfigResult.TheVariants.{InProgress}
use Rattle.sctp_path.specs.Rto.{Timeout}
use Rattle.sctp_path.specs.Timers.{is_due}
use Rattle.sctp_reset.specs.Own.{after_ask, after_begin, after_failed, after_response, after_sent, begin_with, counted, due_at, has_failed, is_asked}
use Rattle.sctp_reset.specs.Own.{left_after, left_of, picked, unpicked}
use Rattle.sctp_reset.specs.Peer.{older_of, without_first}
use Rattle.sctp_reset.specs.Requests.{Request, Requests, streams_of}
use Rattle.sctp_reset.specs.declared.peer_requests.PeerRequests.{PeerRequests}
use Rattle.sctp_sender.specs.Sender.{Transmission}
use Rattle.sctp_sender.specs.Settings.{is_drained}

-- ## Few streams

abbrev pub IsFew : Option Request → Type 0
IsFew u = length (streams_of u) ≤ 64

few-asked-if : (b : Bool) (s : ℕ) (o : Requests) → IsFew o.under_way → IsFew (if b then o else record o { waiting = o.waiting ++ s ∷ [] }).under_way
few-asked-if true s o h = h
few-asked-if false s o h = h

pub few_asked : (s : ℕ) (o : Requests) → length (streams_of o.under_way) ≤ 64 → length (streams_of (after_ask s o).under_way) ≤ 64
few_asked s o h = few-asked-if (is_asked s o) s o h

few-with : (ps left : List ℕ) (last now : ℕ) (o : Requests) → length ps ≤ 64 → IsFew o.under_way → IsFew (begin_with ps left last now o).under_way
few-with [] left last now o short h = h
few-with (p ∷ ps) left last now o short h = short

few-begun-if : (b : Bool) (ps left : List ℕ) (last now : ℕ) (o : Requests) → length ps ≤ 64 → IsFew o.under_way
    → IsFew (if b then o else begin_with ps left last now o).under_way
few-begun-if true ps left last now o short h = h
few-begun-if false ps left last now o short h = few-with ps left last now o short h

pub taken_short : (n : ℕ) (xs : List ℕ) → length (take n xs) ≤ n
taken_short n xs = omega (arith, length-take n xs)

pub few_begun : (drained : ℕ → Bool) (last now : ℕ) (o : Requests) → length (streams_of o.under_way) ≤ 64
    → length (streams_of (after_begin drained 64 last now o).under_way) ≤ 64
few_begun drained last now o h = few-begun-if (is_some o.under_way) (picked drained 64 o.waiting) (unpicked drained 64 o.waiting) last now o
    (taken_short 64 (filter drained o.waiting)) h

few-sent-of : (now rto : ℕ) (o : Requests) (u : Option Request) → IsFew u → IsFew (after_sent now rto (record o { under_way = u })).under_way
few-sent-of now rto o None h = h
few-sent-of now rto o (Some r) h = h

-- where a request begins, or that is refused
pub few_after : {E : Type 0} (r : Result (Unit {0}) E) (drained : ℕ → Bool) (last now : ℕ) (o p : Requests)
    → OnOk r (p ≡ after_begin drained 64 last now o) → OnErr r (p ≡ o) → length (streams_of o.under_way) ≤ 64 → length (streams_of p.under_way) ≤ 64
few_after (Ok u) drained last now o p ok err h = subst (λ (q : Requests). length (streams_of q.under_way) ≤ 64) (sym ok) (few_begun drained last now o h)
few_after (Err e) drained last now o p ok err h = subst (λ (q : Requests). length (streams_of q.under_way) ≤ 64) (sym err) h

pub begun_by : {E : Type 0} (r : Result (Unit {0}) E) (now : ℕ) (t : Transmission) (tsn : ℕ) (o a p : Requests) → tsn ≡ t.flight.next_tsn → o ≡ a
    → OnOk r (p ≡ after_begin (λ s. is_drained s t) 64 ((tsn + (2 ^ 32 - 1)) % 2 ^ 32) now o) → OnOk r (p ≡ begun now t a)
begun_by (Ok u) now t tsn o a p same view ok =
    ok ∙ ap (λ (n : ℕ). after_begin (λ s. is_drained s t) 64 ((n + (2 ^ 32 - 1)) % 2 ^ 32) now o) same ∙ ap (begun now t) view
begun_by (Err e) now t tsn o a p same view ok = ok

pub few_sent : (now rto : ℕ) (o : Requests) → length (streams_of o.under_way) ≤ 64 → length (streams_of (after_sent now rto o).under_way) ≤ 64
few_sent now rto o h = few-sent-of now rto o o.under_way h

few-failed-if : (b : Bool) (now : ℕ) (o : Requests) (u : Option Request) → IsFew u
    → IsFew (if b then record o { under_way = option_map counted u } else record o { under_way = u }).under_way
few-failed-if true now o None h = h
few-failed-if true now o (Some r) h = h
few-failed-if false now o u h = h

pub few_failed : (now : ℕ) (o : Requests) → length (streams_of o.under_way) ≤ 64 → length (streams_of (after_failed now o).under_way) ≤ 64
few_failed now o h = few-failed-if (has_failed now o.under_way) now o o.under_way h

few-left : (result : ReconfigResult) (now rto : ℕ) (r : Request) → IsFew (Some r) → IsFew (left_after result now rto r)
few-left InProgress now rto r h = h
few-left _ now rto r h = omega arith

few-left-if : (b : Bool) (result : ReconfigResult) (now rto : ℕ) (r : Request) → IsFew (Some r) → IsFew (if b then left_after result now rto r else Some r)
few-left-if true result now rto r h = few-left result now rto r h
few-left-if false result now rto r h = h

few-left-of : (number : ℕ) (result : ReconfigResult) (now rto : ℕ) (u : Option Request) → IsFew u → IsFew (left_of number result now rto u)
few-left-of number result now rto None h = h
few-left-of number result now rto (Some r) h = few-left-if (r.number == number) result now rto r h

pub few_answered : (number : ℕ) (result : ReconfigResult) (now rto : ℕ) (o : Requests) → length (streams_of o.under_way) ≤ 64
    → length (streams_of (after_response number result now rto o).under_way) ≤ 64
few_answered number result now rto o h = few-left-of number result now rto o.under_way h

-- ## The one that is due

comes-so : (now : ℕ) (r : Request) (b : Bool) → (r.at == 2 ^ 64 - 1) ≡ b → b ≡ false → nat_le r.at now ≡ true
    → (if is_due now (if b then None else Some r.at) then Some r else None) ≡ Some r
comes-so now r true is off le = absurd (false≢true (sym off))
comes-so now r false is off le = ap (λ (k : Bool). if k then Some r else None) le

comes-not : (now : ℕ) (r : Request) (b : Bool) → b ≡ true → (if is_due now (if b then None else Some r.at) then Some r else None) ≡ None
comes-not now r true on = refl
comes-not now r false on = absurd (false≢true on)

late-not : (now : ℕ) (r : Request) (b : Bool) → nat_le r.at now ≡ false → (if is_due now (if b then None else Some r.at) then Some r else None) ≡ None
late-not now r true late = refl
late-not now r false late = ap (λ (k : Bool). if k then Some r else None) late

due-if : (now : ℕ) (q r : Request) (b : Bool) → nat_le q.at now ≡ b → Some r ≡ (if b then Some q else None) → (nat_le q.at now ≡ true) × (Some r ≡ Some q)
due-if now q r true le e = (le, e)
due-if now q r false le e = absurd (none-some r (sym e))

pub due_comes : (now : ℕ) (u : Option Request) (r : Request) → Some r ≡ due_at now u → (r.at == 2 ^ 64 - 1) ≡ false → due_of now u ≡ Some r
due_comes now None r e h = absurd (none-some r (sym e))
due_comes now (Some q) r e h =
    let due = due-if now q r (nat_le q.at now) refl e in
    comes-so now q (q.at == 2 ^ 64 - 1) refl (ap (λ (x : Request). x.at == 2 ^ 64 - 1) (sym (of-some r q due.1)) ∙ h) due.0 ∙ sym due.1

-- a time that passes the greatest moment does not come
pub due_never : (now : ℕ) (u : Option Request) (r : Request) → Some r ≡ due_at now u → (r.at == 2 ^ 64 - 1) ≡ true → due_of now u ≡ None
due_never now None r e h = refl
due_never now (Some q) r e h =
    let due = due-if now q r (nat_le q.at now) refl e in
    comes-not now q (q.at == 2 ^ 64 - 1) (ap (λ (x : Request). x.at == 2 ^ 64 - 1) (sym (of-some r q due.1)) ∙ h)

late-if : (now : ℕ) (q : Request) (b : Bool) → nat_le q.at now ≡ b → None ≡ (if b then Some q else None) → nat_le q.at now ≡ false
late-if now q true le e = absurd (none-some q e)
late-if now q false le e = le

pub due_none : (now : ℕ) (u : Option Request) → None ≡ due_at now u → due_of now u ≡ None
due_none now None e = refl
due_none now (Some q) e = late-not now q (q.at == 2 ^ 64 - 1) (late-if now q (nat_le q.at now) refl e)

-- a request that is due is under way
due-some : (now : ℕ) (w : List ℕ) (q r : Request) (b : Bool) → is_due now (comes q.at) ≡ b → (if b then Some q else None) ≡ Some r
    → request_in now w (Some q) ≡ true
due-some now w q r true is e = is
due-some now w q r false is e = absurd (none-some r e)

due-in : (now : ℕ) (w : List ℕ) (u : Option Request) (r : Request) → due_of now u ≡ Some r → (is_some u ≡ true) × (request_in now w u ≡ true)
due-in now w None r e = absurd (none-some r e)
due-in now w (Some q) r e = (refl, due-some now w q r (is_due now (comes q.at)) refl e)

pub due_is : (now : ℕ) (o : Requests) (r : Request) → due_of now o.under_way ≡ Some r → (is_some o.under_way ≡ true) × (requests_due now o ≡ true)
due_is now o r e = due-in now o.waiting o.under_way r e

-- ## Responses

none-left : (p : PeerRequests) (o n : Option ParamReconfigResponse) → older_of o n ≡ None
    → without_first (record p { older = o; newer = n }) ≡ record p { older = o; newer = n }
none-left p (Some r) n e = absurd (none-some r (sym e))
none-left p None (Some r) e = absurd (none-some r (sym e))
none-left p None None e = refl

pub left_in : (o : Option PeerRequests) → first_response o ≡ None → option_map without_first o ≡ o
left_in None e = refl
left_in (Some p) e = ap (λ q. Some q) (none-left p p.older p.newer e)

-- the response that is due leaves, or none is due
pub answers_by : (response : Option ParamReconfigResponse) (old new : Option PeerRequests) → response ≡ first_response old
    → new ≡ option_map without_first old → Answers response old new
answers_by None old new is left = left ∙ left_in old (sym is)
answers_by (Some p) old new is left = (sym is, left)

-- ## Which chunks

pub reconfigs_append : (ws vs : List Wire) → reconfigs_in (ws ++ vs) ≡ reconfigs_in ws ++ reconfigs_in vs
reconfigs_append [] vs = refl
reconfigs_append (reconfig_chunk r ∷ ws) vs = ap (λ (rs : List Reconfig). r ∷ rs) (reconfigs_append ws vs)
reconfigs_append (w ∷ ws) vs = reconfigs_append ws vs

free-one : (P : Wire → Type 0) → ((r : Reconfig) → P (reconfig_chunk r) → ⊥) → (w : Wire) (ws : List Wire) → P w → reconfigs_in ws ≡ []
    → reconfigs_in (w ∷ ws) ≡ []
free-one P none (reconfig_chunk r) ws h rest = absurd (none r h)
free-one P none _ ws h rest = rest

-- such chunks have no RE-CONFIG
pub free_of : (P : Wire → Type 0) → ((r : Reconfig) → P (reconfig_chunk r) → ⊥) → (ws : List Wire) → AllByRecursion P ws → reconfigs_in ws ≡ []
free_of P none [] h = refl
free_of P none (w ∷ ws) h = free-one P none w ws h.0 (free_of P none ws h.1)

none-then : (ws vs : List Wire) → reconfigs_in ws ≡ [] → reconfigs_in (ws ++ vs) ≡ reconfigs_in vs
none-then ws vs none = reconfigs_append ws vs ∙ ap (λ (rs : List Reconfig). rs ++ reconfigs_in vs) none

then-none : (ws vs : List Wire) → reconfigs_in vs ≡ [] → reconfigs_in (ws ++ vs) ≡ reconfigs_in ws
then-none ws vs none = reconfigs_append ws vs ∙ ap (λ (rs : List Reconfig). reconfigs_in ws ++ rs) none ∙ append-nil (reconfigs_in ws)

one-free : (k : Bool) (w : Wire) → reconfigs_in (w ∷ []) ≡ [] → reconfigs_in (put_where k w) ≡ []
one-free true w e = e
one-free false w e = refl

-- ## None is put

pub keeps_same : (a b : Association) → b.draft.bytes ≡ a.draft.bytes → resets_of b ≡ resets_of a → KeepsResets a b
keeps_same a b e same = record {
  chunks = [];
  added = subst (λ (x : List ℕ). Adds [] a.draft.bytes x) (sym e) (adds_none a.draft.bytes);
  none = refl;
  same = same;
}

pub keeps_then : (a b c : Association) → KeepsResets a b → KeepsResets b c → KeepsResets a c
keeps_then a b c h k = record {
  chunks = h.chunks ++ k.chunks;
  added = adds_then h.chunks k.chunks a.draft.bytes b.draft.bytes c.draft.bytes h.added k.added;
  none = none-then h.chunks k.chunks h.none ∙ k.none;
  same = k.same ∙ h.same;
}

pub keeps_put : (k : Bool) (w : Wire) (a b : Association) → Adds (put_where k w) a.draft.bytes b.draft.bytes → reconfigs_in (w ∷ []) ≡ []
    → resets_of b ≡ resets_of a → KeepsResets a b
keeps_put k w a b added free same = record { chunks = put_where k w; added = added; none = one-free k w free; same = same }

abbrev pub resets_with : Requests → Option PeerRequests → Resets
resets_with own peer = record { own = own; peer = peer }

pub both_same : (x y : Requests) (p q : Option PeerRequests) → y ≡ x → q ≡ p → resets_with y q ≡ resets_with x p
both_same x y p q e f = ap (λ (z : Requests). resets_with z q) e ∙ ap (λ (z : Option PeerRequests). resets_with x z) f

pub timed_resets : (a b : Association) → IsAsTimed a b → resets_of b ≡ resets_of a
timed_resets a b t = both_same a.requests b.requests a.peer_requests b.peer_requests t.requests t.peer

pub others_keep : (a b : Association) → PutsOthers a b → KeepsResets a b
others_keep a b p = record {
  chunks = p.chunks;
  added = p.added;
  none = free_of (IsReplyOnce (owed_of a) (owed_of b)) (λ r h. h) p.chunks p.plain;
  same = timed_resets a b p.timed;
}

pub once_keep : (a b : Association) → PutsOnce a b → IsAsTimed a b → KeepsResets a b
once_keep a b p t = record {
  chunks = p.chunks;
  added = p.added;
  none = free_of (IsReplyOnce (owed_of a) (owed_of b)) (λ r h. h) p.chunks p.plain;
  same = timed_resets a b t;
}

pub sent_keep : (a b : Association) → PutsSent a b → resets_of b ≡ resets_of a → KeepsResets a b
sent_keep a b p same = record {
  chunks = p.chunks;
  added = p.added;
  none = free_of (IsSkipOnce a.outbound.is_skip_due b.outbound.is_skip_due) (λ r h. h) p.chunks p.plain;
  same = same;
}

-- ## One is put, or none

leaves-none : (now rto : ℕ) (t : Transmission) (x y : Resets) → y ≡ x → LeavesReset now rto t None x y
leaves-none now rto t x y same = record {
  response = None;
  request = None;
  chunk = refl;
  answers = ap (λ (r : Resets). r.peer) same;
  asks = inl (ap (λ (r : Resets). r.own) same);
}

pub puts_none : (now : ℕ) (a b : Association) → KeepsResets a b → PutsReset now a b
puts_none now a b k = record {
  chunks = k.chunks;
  added = k.added;
  reconfig = None;
  each = k.none;
  leaves = leaves-none now (max a.outbound.rto.rto 1) a.outbound.sender (resets_of a) (resets_of b) k.same;
}

leaves-from : (now : ℕ) (s : Timeout) (u : Transmission) (y : Resets) (r : Timeout) (t : Transmission) (x z : Resets) (c : Option Reconfig) → s ≡ r
    → u ≡ t → y ≡ x → LeavesReset now (max s.rto 1) u c y z → LeavesReset now (max r.rto 1) t c x z
leaves-from now s u y r t x z c same sender resets h =
    let one = subst (λ (r : Timeout). LeavesReset now (max r.rto 1) u c y z) same h in
    let two = subst (λ (t : Transmission). LeavesReset now (max r.rto 1) t c y z) sender one in
    subst (λ (x : Resets). LeavesReset now (max r.rto 1) t c x z) resets two

-- behind what puts none
pub puts_later : (now : ℕ) (a b c : Association) → KeepsResets a b → b.outbound.sender ≡ a.outbound.sender → b.outbound.rto ≡ a.outbound.rto
    → PutsReset now b c → PutsReset now a c
puts_later now a b c k sender rto p = record {
  chunks = k.chunks ++ p.chunks;
  added = adds_then k.chunks p.chunks a.draft.bytes b.draft.bytes c.draft.bytes k.added p.added;
  reconfig = p.reconfig;
  each = none-then k.chunks p.chunks k.none ∙ p.each;
  leaves = leaves-from now b.outbound.rto b.outbound.sender (resets_of b) a.outbound.rto a.outbound.sender (resets_of a) (resets_of c) p.reconfig rto
      sender k.same p.leaves;
}

-- and before it
pub puts_first : (now : ℕ) (a b c : Association) → PutsReset now a b → KeepsResets b c → PutsReset now a c
puts_first now a b c p k = record {
  chunks = p.chunks ++ k.chunks;
  added = adds_then p.chunks k.chunks a.draft.bytes b.draft.bytes c.draft.bytes p.added k.added;
  reconfig = p.reconfig;
  each = then-none p.chunks k.chunks k.none ∙ p.each;
  leaves = subst (λ (z : Resets). LeavesReset now (max a.outbound.rto.rto 1) a.outbound.sender p.reconfig (resets_of a) z) (sym k.same) p.leaves;
}

-- ## A datagram

none-of : (o : Option Reconfig) → [] ≡ at_most_one o → o ≡ None
none-of None e = refl
none-of (Some r) e = absurd (cc e)

module _ (now : ℕ) (a c : Association) (h : CommonHeader) (begun full : List ℕ) (draft : IsDraft (headed h) begun) where
  -- what was put behind a header, sealed
  pub reset_sealed : (t : Transmission) (new : Association) (z : Bool) (ws : List Wire) (o : Option Reconfig) → Adds ws begun full
      → reconfigs_in ws ≡ at_most_one o → LeavesReset now (max a.outbound.rto.rto 1) t o (resets_of a) (resets_of new)
      → ((p : Parts) → IsDraft p full → new.draft.bytes ≡ packet_encoding (sum_of z) p) → LeavesResetIn now true t a new
  reset_sealed t new z ws o added each leaves encoded =
      let d = added.draft (headed h) draft in
      record {
        reconfig = o;
        leaves = leaves;
        written = λ _. record {
          packet = with_chunks ws (headed h);
          is_zero = z;
          encoded = encoded _ d;
          encodings = d.encodings;
          fits = d.fits;
          each = each;
        };
        none = λ e. absurd (false≢true (sym e));
      }

  -- where nothing was put, or a call was refused
  pub reset_unsent : (t : Transmission) (new : Association) (ws : List Wire) (o : Option Reconfig) → Adds ws begun full → length full ≤ 12
      → reconfigs_in ws ≡ at_most_one o → LeavesReset now (max a.outbound.rto.rto 1) t o (resets_of a) (resets_of new)
      → LeavesResetIn now false t a new
  reset_unsent t new ws o added short each leaves = record {
    reconfig = o;
    leaves = leaves;
    written = λ e. absurd (false≢true e);
    none = λ _. none-of o (sym (ap reconfigs_in (no-chunks ws added)) ∙ each);
  }
    where
      no-chunks : (ws : List Wire) → Adds ws begun full → ws ≡ []
      no-chunks [] added = refl
      no-chunks (w ∷ ws) added = absurd (omega (arith, short, longer_by_chunk [] ws w (headed h) full (added.draft (headed h) draft)))

-- no datagram, and all stays due
pub reset_kept : (now : ℕ) (t : Transmission) (a new : Association) → resets_of new ≡ resets_of a → LeavesResetIn now false t a new
reset_kept now t a new same = record {
  reconfig = None;
  leaves = leaves-none now (max a.outbound.rto.rto 1) t (resets_of a) (resets_of new) same;
  written = λ e. absurd (false≢true e);
  none = λ _. refl;
}

pub reset_none_so : (now : ℕ) (o : Result Bool Fault) (t : Transmission) (a new : Association) → IsErr o → LeavesResetIn now false t a new
    → LeavesResetIn now (is_sent o) t a new
reset_none_so now o t a new err h = subst (λ (k : Bool). LeavesResetIn now k t a new) (sym (refused o err)) h

pub not_ok : {X : Type 0} (o : Result Bool Fault) → IsErr o → o ≡ Ok false → X
not_ok o err is = absurd (false≢true (subst (λ (r : Result Bool Fault). IsErr r) is err))

-- behind what keeps the requests
pub reset_from : (now : ℕ) (k : Bool) (t : Transmission) (a b new : Association) → b.outbound.rto ≡ a.outbound.rto → resets_of b ≡ resets_of a
    → LeavesResetIn now k t b new → LeavesResetIn now k t a new
reset_from now k t a b new rto same h = record {
  reconfig = h.reconfig;
  leaves = leaves-from now b.outbound.rto t (resets_of b) a.outbound.rto t (resets_of a) (resets_of new) h.reconfig rto refl same h.leaves;
  written = h.written;
  none = h.none;
}

pub asks_none : (now : ℕ) (a b : Association) → resets_of b ≡ resets_of a → b.outbound.sender ≡ a.outbound.sender
    → OwesNoReset now b.outbound.sender (resets_of b) → OwesNoReset now a.outbound.sender (resets_of a)
asks_none now a b same sender h = subst (λ (r : Resets). OwesNoReset now a.outbound.sender r) same
    (subst (λ (t : Transmission). OwesNoReset now t (resets_of b)) sender h)

-- a packet of one reply has none
within-free : (limit : ℕ) (w : Wire) (ws : List Wire) → reconfigs_in (w ∷ []) ≡ [] → IsOneWithin limit w ws → reconfigs_in ws ≡ []
within-free limit w ws e one = ap reconfigs_in one.chunks ∙ one-free one.is_put w e

reply-free : (limit : ℕ) (key : List ℕ) (m : Machine) (raw : Option (List ℕ)) (kind : AloneKind) (ws : List Wire) → AreReply limit key m raw kind ws
    → reconfigs_in ws ≡ []
reply-free limit key m raw alone.Init ws are = within-free limit _ ws refl are
reply-free limit key m raw (alone.InitAck ticket) ws are = within-free limit _ ws refl are.2
reply-free limit key m raw (alone.StaleCookie by) ws are = ap reconfigs_in are
reply-free limit key m raw alone.ShuttingDown ws are = ap reconfigs_in are
reply-free limit key m raw alone.ShutdownComplete ws are = ap reconfigs_in are
reply-free limit key m raw (alone.Abort code) ws are = ap reconfigs_in are
reply-free limit key m raw alone.NoCookie ws are = ap reconfigs_in are
reply-free limit key m raw alone.HostName ws are = within-free limit _ ws refl are
reply-free limit key m raw (alone.NoUserData tsn) ws are = ap reconfigs_in are

pub reset_alone : (now : ℕ) (t : Transmission) (one : Alone) (a new : Association) → IsReply one a new.draft.bytes → resets_of new ≡ resets_of a
    → LeavesResetIn now true t a new
reset_alone now t one a new is same = record {
  reconfig = None;
  leaves = leaves-none now (max a.outbound.rto.rto 1) t (resets_of a) (resets_of new) same;
  written = λ _. record {
    packet = with_chunks is.chunks (headed (header_to a.config one.tag));
    is_zero = false;
    encoded = is.packet.encoded;
    encodings = is.packet.encodings;
    fits = is.packet.fits;
    each = reply-free a.draft.limit a.key a.machine a.due.unknown_params one.kind is.chunks is.are;
  };
  none = λ e. absurd (false≢true (sym e));
}
