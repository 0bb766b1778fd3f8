-- Two hosts stand in a session of every call, and each call leads to the next.
use Rattle.sctp_delivery.proofs.Names.{nat_tests, common_steps, ◌≡◌, ◌+◌, ◌≤◌, ◌<◌, ◌^◌, List, [], ◌∷◌, ◌++◌, refl, ap, sym, subst, ◌∙◌, arith, Contains, Sack}
use Rattle.sctp_delivery.proofs.Names.{Session, SenderCall, SenderFollows, SenderMakes, of_sender, of_receiver, takes_sack, bytes_written, distance}
use Rattle.sctp_delivery.proofs.Names.{Transmission, Made}
use Rattle.sctp_sender.specs.SenderRuns as sender_runs
use Rattle.sctp_receiver.specs.ReceiverRuns as receiver_runs
use Rattle.sctp_delivery.specs.EveryCall.{AnyCall, FollowsAny, ReceiverDoes, RunsAny, SenderDoes, SenderOther, as_receiver_run, as_sender_run, makes}
use Rattle.sctp_delivery.specs.EveryCall.{of_receiving, of_sending, takes_back, tsns_given_any}
use Rattle.sctp_delivery.specs.ReceiverCalls.{ReceiverMakes}
use Rattle.sctp_delivery.specs.Returns.{after_return, at_start_with}
use Rattle.sctp_delivery.specs.SenderCalls.{TakesBackAndSack}
use Rattle.sctp_delivery.specs.StandAny.{EachAckedStepsAny, EachReceiverCallStepsAny, EachReceiverOtherStepsAny, EachSenderCallStepsAny}
use Rattle.sctp_delivery.specs.StandAny.{EachSenderOtherStepsAny, EachTwoBeginAny, StandAny, StepsAny, given_any, most_given_any}
use Rattle.sctp_delivery.proofs.Delivered.{next_tsn}
use Rattle.sctp_delivery.proofs.EveryMessages as messages
use Rattle.sctp_delivery.proofs.EveryRuns.{next-same}
use Rattle.sctp_delivery.proofs.Stands.{more-made, more-reported, receiver-follows, receiver_after, sender-follows, sender_after}

-- ## One call more

unfoldable pub run-then : (cs : List AnyCall) (c : AnyCall) (old mid new : Session) → RunsAny old cs mid → FollowsAny c mid new → RunsAny old (cs ++ c ∷ []) new
run-then [] c old mid new r f = (new, (subst (λ s. FollowsAny c s new) r f, refl))
run-then (d ∷ cs) c old mid new r f = (r.0, (r.1.0, run-then cs c r.0 mid new r.1.1 f))

pub given-then : (cs : List AnyCall) (c : AnyCall) (old mid new : Session) (r : RunsAny old cs mid) (f : FollowsAny c mid new)
    → tsns_given_any old (cs ++ c ∷ []) new (run-then cs c old mid new r f) ≡ tsns_given_any old cs mid r + distance (next_tsn mid) (next_tsn new)
unfolding run-then
given-then [] c old mid new r f = let e = ap (λ s. distance (next_tsn s) (next_tsn new)) r in omega (arith, e)
given-then (d ∷ cs) c old mid new r f = let e = given-then cs c r.0 mid new r.1.1 f in omega (arith, e)

module _ (st : StandAny) where
  same-way : distance (next_tsn st.session) (next_tsn st.session) ≡ 0
  same-way = messages.same-way st.reported st.tsn st.size st.max st.most st.limits st.calls st.session st.run st.small st.some st.few st.short

  given-once : (call : SenderCall) (t : Session) → SenderFollows call st.session t → distance (next_tsn st.session) (next_tsn t) ≤ 1
  given-once call t f =
      messages.given-once st.reported st.tsn st.size st.max st.most st.limits st.calls st.session st.run st.small st.some st.few st.short call t f

  -- what one call leads to
  record LeadsTo (c : AnyCall) (t : Session) : Type 0 where
    next : StandAny
    there : next.session ≡ t
    steps : StepsAny c st next

  leads : (c : AnyCall) (t : Session) → FollowsAny c st.session t → distance (next_tsn st.session) (next_tsn t) ≤ most_given_any c
      → given_any st + most_given_any c < 2 ^ 31 → bytes_written t < 2 ^ 64
      → ((m : Made) → Contains st.session.made m → Contains t.made m) → ((k : Sack) → Contains st.session.sacks k → Contains t.sacks k) → LeadsTo c t
  leads c t f most few short made sacks =
      let start = at_start_with st.reported st.tsn st.size st.max st.most st.limits in
      let given = given-then st.calls c start st.session t st.run f in
      record {
        next = record st {
          calls = st.calls ++ c ∷ [];
          session = t;
          run = run-then st.calls c start st.session t st.run f;
          few = omega (arith, given, most, few);
          short = short;
        };
        there = refl;
        steps = record { step = f; calls = refl; given = omega (arith, given, most); made = made; sacks = sacks };
      }

-- ## The laws

pub two-begin : EachTwoBeginAny
two-begin reported tsn size max most limits small some = (
  record {
    reported = reported;
    tsn = tsn;
    size = size;
    max = max;
    most = most;
    limits = limits;
    calls = [];
    session = at_start_with reported tsn size max most limits;
    run = refl;
    small = small;
    some = some;
    few = omega arith;
    short = omega arith;
  },
  record { sends = refl; receives = refl },
  refl,
  refl,
  refl,
)

pub sender-steps : EachSenderCallStepsAny
sender-steps call old new r st is m h room bytes =
    let t = sender_after call st.session new in
    let f = sender-follows call st.session new (subst (λ x. SenderMakes call x new) (sym is.sends) m) h in
    let l = leads st (makes (of_sender call)) t f (given-once st call t f) room bytes
    (λ x c. more-made call st.session.sending.sender st.session.made x c) (λ k c. c) in (
      l.next,
      record {
        sends = ap (λ (s : Session). s.sending.sender) l.there;
        receives = ap (λ (s : Session). s.receiving.receiver) l.there ∙ is.receives;
      },
      l.steps,
    )

pub receiver-steps : EachReceiverCallStepsAny
receiver-steps call old new u st is m h =
    let t = receiver_after call st.session new in
    let f = receiver-follows call st.session new (subst (λ x. ReceiverMakes call x new) (sym is.receives) m) h in
    let none = same-way st in
    let few = st.few in
    let l = leads st (makes (of_receiver call)) t f (omega (arith, none)) (omega (arith, few)) st.short (λ x c. c)
    (λ k c. more-reported call st.session.receiving.receiver st.session.sacks k c) in (
      l.next,
      record {
        sends = ap (λ (s : Session). s.sending.sender) l.there ∙ is.sends;
        receives = ap (λ (s : Session). s.receiving.receiver) l.there;
      },
      l.steps,
    )

-- the sender then
abbrev after_other : SenderOther → Session → Transmission → Session
after_other call s new = record s {
  sending = record {
    sender = new;
    written = s.sending.written + sender_runs.written_by (as_sender_run call);
    released = s.sending.released + sender_runs.released_by (as_sender_run call);
    taken_back = s.sending.taken_back + sender_runs.taken_back_by (as_sender_run call);
  };
}

pub sender-other-steps : EachSenderOtherStepsAny
sender-other-steps call old new r st is m exact taken h =
    let t = after_other call st.session new in
    let f : SenderDoes call st.session t = grind (arith, nat_tests, common_steps) in
    let none = same-way st in
    let few = st.few in
    let same = ap (distance (next_tsn st.session)) (next-same call st.session t f) in
    let l = leads st (of_sending call) t f (omega (arith, none, same)) (omega (arith, few)) st.short (λ x c. c) (λ k c. c) in (
      l.next,
      record {
        sends = ap (λ (s : Session). s.sending.sender) l.there;
        receives = ap (λ (s : Session). s.receiving.receiver) l.there ∙ is.receives;
      },
      l.steps,
    )

pub receiver-other-steps : EachReceiverOtherStepsAny
receiver-other-steps call old new u st is m taken h =
    let s = st.session in
    let t : Session = record s {
      receiving = record {
        receiver = new;
        accepted = receiver_runs.accepted_after (as_receiver_run call) s.receiving.accepted;
        read = receiver_runs.messages_after (as_receiver_run call) s.receiving.receiver s.receiving.read;
      };
    } in
    let f : ReceiverDoes call s t = grind (arith, nat_tests, common_steps) in
    let none = same-way st in
    let few = st.few in
    let l = leads st (of_receiving call) t f (omega (arith, none)) (omega (arith, few)) st.short (λ x c. c) (λ k c. c) in (
      l.next,
      record {
        sends = ap (λ (x : Session). x.sending.sender) l.there ∙ is.sends;
        receives = ap (λ (x : Session). x.receiving.receiver) l.there;
      },
      l.steps,
    )

pub acked-steps : EachAckedStepsAny
acked-steps sack back gone old new r st is x handed room =
    let w =
    messages.two-calls st.reported st.tsn st.size st.max st.most st.limits st.calls st.session st.run st.small st.some st.few st.short sack back gone new
    handed (subst (λ y. TakesBackAndSack sack back gone y new) (sym is.sends) x) in
    let none = same-way st in
    let few = st.few in
    let a = leads st (of_sending (takes_back sack back)) (after_return sack back st.session) w.0 (omega (arith, none)) (omega (arith, few)) st.short (λ m c. c)
    (λ k c. c) in
    let t = w.1 in
    let f : SenderFollows (takes_sack sack gone) a.next.session t = subst (λ y. SenderFollows (takes_sack sack gone) y t) (sym a.there) w.2 in
    let given = a.steps.given in
    let less = a.next.short in
    let same = ap bytes_written f.after in
    let b = leads a.next (makes (of_sender (takes_sack sack gone))) t f (given-once a.next (takes_sack sack gone) t f) (omega (arith, given, room))
    (omega (arith, same, less)) (λ m c. subst (λ ms. Contains ms m) (sym (ap (λ (s : Session). s.made) f.after)) c)
    (λ k c. subst (λ ks. Contains ks k) (sym (ap (λ (s : Session). s.sacks) f.after)) c) in (
      a.next,
      a.steps,
      (
        b.next,
        record {
          sends = ap (λ (s : Session). s.sending.sender) b.there ∙ w.3;
          receives = ap (λ (s : Session). s.receiving.receiver) b.there ∙ ap (λ (s : Session). s.receiving.receiver) f.after
              ∙ ap (λ (s : Session). s.receiving.receiver) a.there ∙ is.receives;
        },
        b.steps,
      ),
    )
