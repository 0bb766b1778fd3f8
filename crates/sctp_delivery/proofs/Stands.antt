-- Two hosts stand in a session, and each call leads to the next.
use Rattle.sctp_delivery.proofs.Names.{common_steps, ◌≡◌, ℕ, ◌+◌, ◌%◌, ◌^◌, ◌≤◌, List, [], ◌∷◌, ◌++◌, length, suc, inl, inr, refl, ap, sym, subst, ◌∙◌, arith}
use Rattle.sctp_delivery.proofs.Names.{Option, Some, None, nat_tests, Contains, Sack, ChunkPayloadData, Reception, Transmission, ReceiverCall, reports_after}
use Rattle.sctp_delivery.proofs.Names.{SenderCall, Made, made_after, next_chunk, with_chunk, written_after, SenderMakes, Call, RunsTo, ReceiverFollows}
use Rattle.sctp_delivery.proofs.Names.{SenderFollows, Session, at_start, of_receiver, of_sender, IsReported, takes_sack, writes, expires, expires_tail}
use Rattle.sctp_delivery.proofs.Names.{abandons, expires_late, expires_rexmit, sends, data_chunk, data_of}
use Rattle.sctp_util.specs.Serial.{distance}
use Rattle.sctp_receiver.specs.Receiver.{sack_within}
use Rattle.sctp_receiver.specs.ReceiverRuns as receiver_runs
use Rattle.sctp_sender.specs.SenderRuns as sender_runs
use Rattle.sctp_delivery.specs.ReceiverCalls as incoming
use Rattle.sctp_delivery.specs.ReceiverCalls.{ReceiverMakes}
use Rattle.sctp_delivery.specs.SenderCalls as outgoing
use Rattle.sctp_delivery.specs.Session.{IsSent}
use Rattle.sctp_delivery.specs.Stand.{EachReceiverCallSteps, EachSenderCallSteps, EachTwoBegin, EachKeepsNothing, Stand, Steps}
use Rattle.sctp_delivery.proofs.Delivered.{next_tsn, sender-step}
use Rattle.sctp_delivery.proofs.ModeSessions.{said-in}
use Rattle.sctp_delivery.proofs.OneRead.{given-then, run-then}
use Rattle.sctp_delivery.proofs.Queues.{IsOnceMore}
use Rattle.sctp_delivery.proofs.Sent.{Entry}
use Rattle.sctp_delivery.proofs.Writing.{accepted-stream}

-- ## What a call leads to

abbrev pub sender_after : SenderCall → Session → Transmission → Session
sender_after call s new = record s {
  sending = record {
    sender = new;
    written = s.sending.written + sender_runs.written_by (outgoing.as_run call);
    released = s.sending.released + sender_runs.released_by (outgoing.as_run call);
    taken_back = s.sending.taken_back + sender_runs.taken_back_by (outgoing.as_run call);
  };
  made = made_after call s.sending.sender s.made;
  written = written_after call s.written;
}

pub sender-follows : (call : SenderCall) (s : Session) (new : Transmission) → SenderMakes call s.sending.sender new → IsReported call s
    → SenderFollows call s (sender_after call s new)
sender-follows call s new m h = grind (arith, nat_tests, common_steps)

abbrev pub receiver_after : ReceiverCall → Session → Reception → Session
receiver_after call s new = record s {
  receiving = record {
    receiver = new;
    accepted = receiver_runs.accepted_after (incoming.as_run call) s.receiving.accepted;
    read = receiver_runs.messages_after (incoming.as_run call) s.receiving.receiver s.receiving.read;
  };
  sacks = reports_after call s.receiving.receiver s.sacks;
}

pub receiver-follows : (call : ReceiverCall) (s : Session) (new : Reception) → ReceiverMakes call s.receiving.receiver new → IsSent call s
    → ReceiverFollows call s (receiver_after call s new)
receiver-follows call s new m h =
    record { handed = h; step = record { receiver = m.0; accepted = refl; read = refl }; accepted = m.1; after = refl }

-- ## What was made stays made

pub contains-more : {A : Type 0} (x y : A) (xs : List A) → Contains xs x → Contains (y ∷ xs) x
contains-more x y xs c = (suc c.0, (let lt = c.1 in omega (arith, lt)), c.2)

pub more-made : (call : SenderCall) (t : Transmission) (ms : List Made) (m : Made) → Contains ms m → Contains (made_after call t ms) m
more-made (outgoing.sends now) t ms m c = by (next_chunk now t)
  where
    by : (o : Option ChunkPayloadData) → Contains (with_chunk o ms) m
    by None = c
    by (Some d) = contains-more m _ ms c
more-made (outgoing.resends tsn now d) t ms m c = contains-more m _ ms c
more-made (outgoing.forwards tsn f) t ms m c = contains-more m _ ms c
more-made (outgoing.forwards_within bytes f) t ms m c = contains-more m _ ms c
more-made call t ms m c = c

pub more-reported : (call : ReceiverCall) (r : Reception) (ks : List Sack) (k : Sack) → Contains ks k → Contains (reports_after call r ks) k
more-reported (incoming.reports credit) r ks k c = contains-more k _ ks c
more-reported (incoming.reports_within credit bytes) r ks k c = contains-more k _ ks c
more-reported (incoming.makes_sack credit bytes) r ks k c = contains-more k _ ks c
more-reported call r ks k c = c

-- ## How many TSNs a call gives out

pub one-given : (first : ℕ) (sent more : List Entry) (a b : ℕ) → a ≡ (first + length sent) % 2 ^ 32 → b ≡ (first + length more) % 2 ^ 32 → IsOnceMore sent more
    → distance a b ≤ 1
unfolding distance
one-given first sent more a b e f (inl same) = let n = ap length same in omega (arith, n, e, f)
one-given first sent more a b e f (inr x) = let n = ap length x.1 in omega (arith, n, e, f)

-- the TSN that is next moves on by one at most
given-once : (call : SenderCall) (st : Stand) (t : Session) → SenderFollows call st.session t → distance (next_tsn st.session) (next_tsn t) ≤ 1
given-once call st t f =
    let h = said-in st.tsn st.size st.max st.most st.limits st.calls st.session st.small st.some st.run in
    let x = sender-step st.tsn call st.session t h.numbered h.sent f h.holds in
    one-given st.tsn h.sent x.more (next_tsn st.session) (next_tsn t) h.holds.held.stands.counted x.holds.held.stands.counted x.once

no-way : (first : ℕ) (sent : List Entry) (a : ℕ) → a ≡ (first + length sent) % 2 ^ 32 → distance a a ≡ 0
unfolding distance
no-way first sent a e = omega (arith, e)

same-way : (st : Stand) → distance (next_tsn st.session) (next_tsn st.session) ≡ 0
same-way st = grind (arith, nat_tests, common_steps, said-in, no-way)

-- ## The laws

pub two-begin : EachTwoBegin
two-begin tsn size max most limits small some = (
  record {
    tsn = tsn;
    size = size;
    max = max;
    most = most;
    limits = limits;
    calls = [];
    session = at_start tsn size max most limits;
    run = refl;
    small = small;
    some = some;
    few = omega arith;
  },
  record { sends = refl; receives = refl },
  refl,
  refl,
  refl,
)

pub sender-steps : EachSenderCallSteps
sender-steps call old new r st is m h room =
    let t = sender_after call st.session new in
    let f = sender-follows call st.session new (subst (λ x. SenderMakes call x new) (sym is.sends) m) h in
    let one = given-once call st t f in
    let start = at_start st.tsn st.size st.max st.most st.limits in
    let given = given-then st.calls (of_sender call) start st.session t st.run f in (
      record st {
        calls = st.calls ++ of_sender call ∷ [];
        session = t;
        run = run-then st.calls (of_sender call) start st.session t st.run f;
        few = omega (arith, given, one, room);
      },
      record { sends = refl; receives = is.receives },
      record {
        step = f;
        calls = refl;
        given = omega (arith, given, one);
        made = λ x c. more-made call st.session.sending.sender st.session.made x c;
        sacks = λ k c. c;
      },
    )

pub receiver-steps : EachReceiverCallSteps
receiver-steps call old new u st is m h =
    let t = receiver_after call st.session new in
    let f = receiver-follows call st.session new (subst (λ x. ReceiverMakes call x new) (sym is.receives) m) h in
    let none = same-way st in
    let few = st.few in
    let start = at_start st.tsn st.size st.max st.most st.limits in
    let given = given-then st.calls (of_receiver call) start st.session t st.run f in (
      record st {
        calls = st.calls ++ of_receiver call ∷ [];
        session = t;
        run = run-then st.calls (of_receiver call) start st.session t st.run f;
        few = omega (arith, given, none, few);
      },
      record { sends = is.sends; receives = refl },
      record {
        step = f;
        calls = refl;
        given = omega (arith, given, none);
        made = λ x c. c;
        sacks = λ k c. more-reported call st.session.receiving.receiver st.session.sacks k c;
      },
    )

-- ## Nothing is kept

keeps-call : (call : SenderCall) (s t : Session) → SenderFollows call s t → s.sending.sender.kept ≡ None → t.sending.sender.kept ≡ None
keeps-call (writes stream ppi []) s t f e = ap (λ (u : Transmission). u.kept) (f.exact.0 refl) ∙ e
keeps-call (writes stream ppi (b ∷ bs)) s t f e =
    let l = accepted-stream stream (length (b ∷ bs)) s.sending.sender f.accepted in
    ap (λ (u : Transmission). u.kept) (f.exact.1 (omega arith) l.0 l.1) ∙ e
keeps-call (sends now) s t f e = ap (λ (u : Transmission). u.kept) f.exact ∙ e
keeps-call (abandons tsn a) s t f e = ap (λ (u : Transmission). u.kept) f.exact ∙ e
keeps-call (expires now None) s t f e = ap (λ (u : Transmission). u.kept) (f.exact.1.1 refl) ∙ e
keeps-call (expires now (Some m)) s t f e = grind (arith, nat_tests)
keeps-call (expires_tail now None) s t f e = ap (λ (u : Transmission). u.kept) (f.exact.1 refl) ∙ e
keeps-call (expires_tail now (Some a)) s t f e = ap (λ (u : Transmission). u.kept) f.exact.0 ∙ e
keeps-call (expires_late now gone) s t f e = ap (λ (u : Transmission). u.kept) f.exact ∙ e
keeps-call (expires_rexmit gone) s t f e = ap (λ (u : Transmission). u.kept) f.exact ∙ e
keeps-call (outgoing.forwards tsn g) s t f e = ap (λ (u : Transmission). u.kept) f.exact ∙ e
keeps-call (outgoing.forwards_within bytes g) s t f e = ap (λ (u : Transmission). u.kept) f.exact ∙ e
keeps-call (takes_sack sack gone) s t f e = grind (arith, nat_tests)
keeps-call call s t f e = ap (λ (u : Transmission). u.kept) f.step.sender ∙ e

keeps-run : (cs : List Call) (old new : Session) → RunsTo old cs new → old.sending.sender.kept ≡ None → new.sending.sender.kept ≡ None
keeps-run [] old new r e = ap (λ (s : Session). s.sending.sender.kept) r ∙ e
keeps-run (of_sender call ∷ cs) old new r e = keeps-run cs r.0 new r.1.1 (keeps-call call old r.0 r.1.0 e)
keeps-run (of_receiver call ∷ cs) old new r e =
    keeps-run cs r.0 new r.1.1 (ap (λ (s : Session). s.sending.sender.kept) r.1.0.after ∙ e)

pub keeps-nothing : EachKeepsNothing
keeps-nothing t r st at = grind (arith, nat_tests, common_steps, keeps-run)

-- ## What can be handed over

-- the chunk that a sending answers
pub sent-made : (now : ℕ) (c : ChunkPayloadData) (t : Transmission) (a b : Stand) → Steps (of_sender (sends now)) a b → a.session.sending.sender ≡ t
    → Some c ≡ next_chunk now t → Contains b.session.made (data_chunk (data_of c))
sent-made now c t a b s at next = grind (arith, nat_tests, common_steps)

-- the SACK that the receiver makes
pub sack-made : (credit room : ℕ) (k : Sack) (r : Reception) (a b : Stand) → Steps (of_receiver (incoming.reports_within credit room)) a b
    → a.session.receiving.receiver ≡ r → k ≡ sack_within credit room r → Contains b.session.sacks k
sack-made credit room k r a b s at is = grind (arith, nat_tests, common_steps)
