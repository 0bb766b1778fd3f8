-- Where few fragments are written, nothing that datagrams bring is old, nor is what hosts hold.
use Rattle.std.proofs.Common.{◌≡◌, ◌+◌, ◌≤◌, ◌<◌, ◌^◌, ℕ, true, false, List, [], ◌∷◌, ◌++◌, Option, Some, None, refl, ap, sym, subst, ◌∙◌}
use Rattle.std.proofs.Common.{arith}
use Rattle.std.specs.Prelude.{Contains, if◌then◌else◌}
use Rattle.sctp_association.proofs.Hosts.{Fits, chunk-of}
use Rattle.sctp_association.proofs.HostSteps.{IsThere, either, plain-sack}
use Rattle.sctp_association.proofs.Long.{Allows, Long, ages-in, ages-of, first-of, given-of, next-small, ready-of, same-way, used-of}
use Rattle.sctp_association.proofs.LongCalls.{sack-next}
use Rattle.sctp_association.proofs.LongArrivals.{Ready, ready-then, take-one}
use Rattle.sctp_association.proofs.LongSteps.{next-of, other-follows, other_after, take-back}
use Rattle.sctp_association.proofs.Tsns.{makes-uses, no-further}
use Rattle.sctp_association.specs.Acks.{without_blocks}
use Rattle.sctp_association.specs.Arrivals.{Arrival, Does, Halves, Hearing, Hears, IsBrought, Receives, ReceivesIn, Steps, halves, without_gaps}
use Rattle.sctp_association.specs.Arrivals.{acks, begins, counts, hears, passes, receives, renews, restarts}
use Rattle.sctp_association.specs.Delivered.{IsFor, IsForMade}
use Rattle.sctp_association.specs.Hosts.{AreByRule, Host, IsReceiver}
use Rattle.sctp_association.specs.Hosts.{Way, bytes_of, fragments_by}
use Rattle.sctp_association.specs.Ages.{IsYoungCall}
use Rattle.sctp_data.specs.SelectiveAck.{Sack}
use Rattle.sctp_delivery.proofs.EveryFewYoung.{few-young}
use Rattle.sctp_delivery.proofs.StandsAny.{given-then, run-then}
use Rattle.sctp_delivery.proofs.Stands.{receiver-follows, receiver_after, sender-follows, sender_after}
use Rattle.sctp_delivery.specs.EveryCall.{AnyCall, FollowsAny, IsMadeChunk, IsReceiverTaken, ReceiverOther, RunsAny, as_receiver_run, discards, makes}
use Rattle.sctp_delivery.specs.EveryCall.{of_receiving, passes_over}
use Rattle.sctp_delivery.specs.EveryRecent.{ArePassedYoung, AreRecentAny, AreYoungAny, IsPassedYoung, IsRecentAny, IsYoungAny, aged_any}
use Rattle.sctp_delivery.specs.ReceiverCalls as incoming
use Rattle.sctp_delivery.specs.ReceiverCalls.{ReceiverCall, ReceiverMakes}
use Rattle.sctp_delivery.specs.Recent.{Aged, HoldsRecent, IsAmongYoung}
use Rattle.sctp_delivery.specs.SenderCalls.{Made, SenderCall, SenderMakes, TakesBackAndSack, data_chunk, forward_tsn, takes_sack, written_after}
use Rattle.sctp_delivery.specs.Session.{IsReported, IsSent, Session, bytes_written, count_in_flight, of_receiver, of_sender}
use Rattle.sctp_receiver.specs.Receiver.{Reception, discard_refusal}
use Rattle.sctp_receiver.specs.ReceiverRuns as runs
use Rattle.sctp_receiver.specs.ReceiverRuns.{Makes}
use Rattle.sctp_receiver.specs.Skips.{names_closed, past_closed_refusal}
use Rattle.sctp_receiver.specs.declared.receiver.refusal.ReceiverRefusal.TheVariants.{NamedStreamUnknown}
use Rattle.sctp_sender.specs.Sender.{Transmission}
use Rattle.sctp_util.specs.Serial.{at_or_before, comes_before, distance}

-- ## The last of some calls

last-recent : (cs : List AnyCall) (c : AnyCall) (old mid new : Session) (r : RunsAny old cs mid) (f : FollowsAny c mid new)
    → AreRecentAny old (cs ++ c ∷ []) new (run-then cs c old mid new r f) → IsRecentAny c mid × (count_in_flight new < 2 ^ 31)
unfolding run-then
last-recent [] c old mid new r f q = (subst (IsRecentAny c) (sym r) q.0, q.1)
last-recent (d ∷ cs) c old mid new r f q = last-recent cs c r.0 mid new r.1.1 f q.2

last-young : (ages : List Aged) (cs : List AnyCall) (c : AnyCall) (old mid new : Session) (r : RunsAny old cs mid) (f : FollowsAny c mid new)
    → AreYoungAny ages old (cs ++ c ∷ []) new (run-then cs c old mid new r f) → IsYoungAny c (ages-in ages old cs mid r) × HoldsRecent new
unfolding run-then
last-young ages [] c old mid new r f q = (q.0, q.1)
last-young ages (d ∷ cs) c old mid new r f q = last-young (aged_any d old r.0 ages) cs c r.0 mid new r.1.1 f q.2

last-passed : (ages : List Aged) (cs : List AnyCall) (c : AnyCall) (old mid new : Session) (r : RunsAny old cs mid) (f : FollowsAny c mid new)
    → ArePassedYoung ages old (cs ++ c ∷ []) new (run-then cs c old mid new r f) → IsPassedYoung c (ages-in ages old cs mid r)
unfolding run-then
last-passed ages [] c old mid new r f q = q.0
last-passed ages (d ∷ cs) c old mid new r f q = last-passed (aged_any d old r.0 ages) cs c r.0 mid new r.1.1 f q.1

few-allows : (st : Long) (c : AnyCall) (t : Session) → FollowsAny c st.ran.session t
    → given-of st + distance (next-of st.ran.session.sending.sender) (next-of t.sending.sender) < 2 ^ 31 → bytes_written t < 2 ^ 64 → Allows st c t
few-allows st c t f few short =
    let x = st.ran in
    let begin = first-of x in
    let given = given-then x.calls c begin x.session t x.run f in
    let law = few-young x.reported x.tsn x.size x.max x.most x.limits (x.calls ++ c ∷ []) t (run-then x.calls c begin x.session t x.run f) st.small st.some
    (omega (arith, given, few)) short in
    let q = last-recent x.calls c begin x.session t x.run f law.0 in
    let y = last-young [] x.calls c begin x.session t x.run f law.1 in
    record {
      recent = q.0;
      flying = q.1;
      young = y.0;
      holds = y.1;
      passed = last-passed [] x.calls c begin x.session t x.run f law.2;
      short = short;
    }

-- ## One call

module _ (st : Long) (few : used-of st < 2 ^ 31) where
  -- no TSN is given out
  still-few : (t : Session) → next-of t.sending.sender ≡ next-of st.ran.session.sending.sender
      → given-of st + distance (next-of st.ran.session.sending.sender) (next-of t.sending.sender) < 2 ^ 31
  still-few t same =
      let none = ap (distance (next-of st.ran.session.sending.sender)) same ∙ same-way st in
      omega (arith, none, few)

  few-receive : (call : ReceiverCall) (new : Reception) → ReceiverMakes call st.ran.session.receiving.receiver new → IsSent call st.ran.session
      → Allows st (makes (of_receiver call)) (receiver_after call st.ran.session new)
  few-receive call new m h =
      let t = receiver_after call st.ran.session new in
      few-allows st (makes (of_receiver call)) t (receiver-follows call st.ran.session new m h) (still-few t refl) st.short

  few-other : (call : ReceiverOther) (new : Reception) → Makes (as_receiver_run call) st.ran.session.receiving.receiver new
      → IsReceiverTaken call st.ran.session.receiving.receiver → IsMadeChunk call st.ran.session
      → Allows st (of_receiving call) (other_after call st.ran.session new)
  few-other call new m taken made =
      let t = other_after call st.ran.session new in
      few-allows st (of_receiving call) t (other-follows call st.ran.session new m taken made) (still-few t refl) st.short

-- so many TSNs at most
pub few-send : (st : Long) (call : SenderCall) (new : Transmission) → SenderMakes call st.ran.session.sending.sender new → IsReported call st.ran.session
    → used-of st + fragments_by call st.ran.session.sending.sender < 2 ^ 31 → bytes_of (written_after call st.ran.session.written) < 2 ^ 64
    → Allows st (makes (of_sender call)) (sender_after call st.ran.session new)
few-send st call new m h few short =
    let old = st.ran.session.sending.sender in
    let u = makes-uses old (next-small st) (ready-of st) call new m in
    let far : distance (next-of old) (next-of new) ≤ u.given =
    subst (λ (k : ℕ). distance (next-of old) k ≤ u.given) (sym u.next) (no-further (next-of old) u.given (next-small st)) in
    let fewer = u.fewer in
    few-allows st (makes (of_sender call)) (sender_after call st.ran.session new) (sender-follows call st.ran.session new m h)
    (omega (arith, few, far, fewer)) short

-- ## A call that a datagram brings

same-receiver : (w : Way) (o : Option Reception) (r s : Reception) → IsReceiver w o r → IsReceiver w o s → r ≡ s
same-receiver w None r s p q = p ∙ sym q
same-receiver w (Some x) r s p q = p ∙ sym q

module _ (P Q : AnyCall → Type 0) (w out : Way) (peer : Host) (hs gs : List Aged) (ms : List Made) (ks : List Sack) where
  abbrev Next : ℕ
  Next = peer.sender.flight.next_tsn

  module _ (t : Transmission) (r s : Reception) (st : Long) (few : used-of st < 2 ^ 31) (is : st.ran.session.receiving.receiver ≡ r)
      (from' : st.ran.session.sending.sender ≡ peer.sender) (made : (m : Made) → Contains ms m → Contains st.ran.session.made m) (c : gs ≡ ages-of st) where
    among : (m : Made) → IsAmongYoung m (ages-of st) → IsAmongYoung m gs
    among m h = subst (IsAmongYoung m) (sym c) h

    before : (n : ℕ) → comes_before n (next-of st.ran.session.sending.sender) ≡ true → comes_before n Next ≡ true
    before n e = subst (λ (u : Transmission). comes_before n u.flight.next_tsn ≡ true) from' e

    receive-young : (call : runs.Call) → Receives call r s → Fits P Q w (receives call) (halves t (Some r)) → IsForMade ms call
        → IsYoungCall out gs peer (receives call) (halves t (Some r))
    receive-young (runs.takes x a) h fits of =
        let l = few-receive st few (incoming.takes x a) s (subst (λ q. ReceiverMakes (incoming.takes x a) q s) (sym is) (h.makes, h.accepted)) (made _ of) in
        among _ l.young
    receive-young (runs.forwards f) h fits of =
        either
        (λ (named : names_closed f r ≡ false).
        let none = ap (λ b. if b then Some NamedStreamUnknown else past_closed_refusal f r) named ∙ h.accepted in
        let l = few-receive st few (incoming.follows f) s (subst (λ q. ReceiverMakes (incoming.follows f) q s) (sym is) (h.makes, none)) (made _ of) in
        (among (forward_tsn f) l.passed, before f.new_cumulative_tsn l.recent))
        (λ (q : Q (of_receiving (passes_over f))).
        let l = few-other st few (passes_over f) s (subst (λ x. runs.Makes (runs.forwards f) x s) (sym is) h.makes)
        (subst (λ x. past_closed_refusal f x ≡ None) (sym is) h.accepted) (made _ of) in
        (among (forward_tsn f) l.passed, before f.new_cumulative_tsn l.recent))
        fits
    receive-young (runs.discards tsn) h fits of =
        let d = of.chunk in
        let l = few-other st few (discards (chunk-of d)) s
        (subst (λ x. runs.Makes (runs.discards d.tsn) x s) (sym is) (subst (λ n. runs.Makes (runs.discards n) r s) of.is h.makes))
        (subst (λ x. discard_refusal d.tsn x ≡ None) (sym is) (subst (λ n. discard_refusal n r ≡ None) of.is h.unrefused.1)) (made _ of.own) in
        (d, sym of.is, among (data_chunk d) l.passed)
    receive-young call h fits of = tt

  receive-in-young : (call : runs.Call) (t : Transmission) (o p : Option Reception) (st : Long) → used-of st < 2 ^ 31 → ReceivesIn call o p
      → Fits P Q w (receives call) (halves t o) → IsForMade ms call → IsReceiver w o st.ran.session.receiving.receiver
      → st.ran.session.sending.sender ≡ peer.sender → ((m : Made) → Contains ms m → Contains st.ran.session.made m) → gs ≡ ages-of st
      → IsYoungCall out gs peer (receives call) (halves t o)
  receive-in-young call t (Some r) (Some s) st few h fits of is from' made c = receive-young t r s st few is from' made c call h fits of
  receive-in-young call t (Some r) None st few h fits of is from' made c = absurd h
  receive-in-young call t None p st few h fits of is from' made c = absurd h

  module _ (st : Long) (few : used-of st < 2 ^ 31) (aged : hs ≡ ages-of st) (beyond : IsReceiver out peer.receiver st.ran.session.receiving.receiver) where
    reached : (tsn : ℕ) → at_or_before tsn st.ran.session.receiving.receiver.cumulative_tsn ≡ true → (r : Reception) → IsReceiver out peer.receiver r
        → at_or_before tsn r.cumulative_tsn ≡ true
    reached tsn e r is =
        subst (λ (q : Reception). at_or_before tsn q.cumulative_tsn ≡ true)
        (same-receiver out peer.receiver st.ran.session.receiving.receiver r beyond is) e

    sack-young : (k : Sack) (back : _) (gone : _) (new : Transmission) → TakesBackAndSack k back gone st.ran.session.sending.sender new
        → Contains st.ran.session.sacks k → at_or_before k.cumulative_tsn_ack st.ran.session.receiving.receiver.cumulative_tsn ≡ true
    sack-young k back gone new x handed =
        let b = take-back P st hs aged k back gone new x handed in
        let y = b.reach.next in
        let v = sender_after (takes_sack k gone) y.ran.session new in
        let given = b.reach.given in
        let l = few-allows y (makes (of_sender (takes_sack k gone))) v b.follows
        (still-few y (omega (arith, few, given)) v (sack-next y k gone v b.follows)) y.short in
        subst (λ (q : Reception). at_or_before k.cumulative_tsn_ack q.cumulative_tsn ≡ true) b.reach.receives l.recent

    hear-young : (h : Hearing) (old new : Halves) → Hears h st.ran.session.sending.sender new.sender → IsFor ms ks (hears h)
        → ((k : Sack) → Contains ks k → IsThere st.ran.session k) → IsYoungCall out gs peer (hears h) old
    hear-young (acks k back gone) old new x of there =
        either
        (λ (e : k ≡ of.sack).
        reached k.cumulative_tsn_ack
        (sack-young k back gone new.sender x (subst (λ (j : Sack). Contains st.ran.session.sacks j) (sym e) (there of.sack of.own).own)))
        (λ (e : k ≡ without_gaps of.sack).
        reached k.cumulative_tsn_ack
        (subst (λ (j : Sack). at_or_before j.cumulative_tsn_ack st.ran.session.receiving.receiver.cumulative_tsn ≡ true) (sym e)
        (sack-young (without_blocks of.sack.cumulative_tsn_ack) back gone new.sender
        (plain-sack of.sack back gone st.ran.session.sending.sender new.sender
        (subst (λ (j : Sack). TakesBackAndSack j back gone st.ran.session.sending.sender new.sender) e x)) (there of.sack of.own).plain)))
        of.is
    hear-young (passes tsn gone) old new x of there =
        let k = without_blocks tsn in
        let handed = subst (λ (n : ℕ). Contains st.ran.session.sacks (without_blocks n)) of.cumulative (there of.sack of.own).plain in
        let v = sender_after (takes_sack k gone) st.ran.session new.sender in
        let f = sender-follows (takes_sack k gone) st.ran.session new.sender x handed in
        let l = few-allows st (makes (of_sender (takes_sack k gone))) v f (still-few st few v (sack-next st k gone v f)) st.short in
        reached tsn l.recent
    hear-young (counts count) old new x of there = tt
    hear-young (restarts stream) old new x of there = tt

  one-young : (a : Arrival) (old new : Halves) (forth back : Long) → Does a old new → Fits P Q w a old → IsFor ms ks a
      → Ready P Q w out peer hs gs ms ks forth back old → used-of forth < 2 ^ 31 → used-of back < 2 ^ 31 → IsYoungCall out gs peer a old
  one-young (receives call) old new forth back d fits of z few few-back =
      receive-in-young call old.sender old.receiver new.receiver back few-back d.1 fits of z.receives z.from' z.made z.ages
  one-young (hears h) old new forth back d fits of z few few-back =
      hear-young forth few z.aged z.beyond h old new (subst (λ t. Hears h t new.sender) (sym z.sends) d.1) of z.sacks
  one-young (begins tsn max limits) old new forth back d fits of z few few-back = tt
  one-young (renews tsn size max) old new forth back d fits of z few few-back = tt

  pub each-young : (datagram : List ℕ) (calls : List Arrival) (old new : Halves) (forth back : Long) (r : Steps (IsBrought datagram) Does calls old new)
      → AreByRule (Fits P Q w) datagram calls old new r → ((a : Arrival) → IsBrought datagram a → IsFor ms ks a)
      → Ready P Q w out peer hs gs ms ks forth back old → used-of forth < 2 ^ 31 → used-of back < 2 ^ 31
      → AreByRule (IsYoungCall out gs peer) datagram calls old new r
  each-young datagram [] old new forth back r fits for z few few-back = tt
  each-young datagram (a ∷ calls) old new forth back r fits for z few few-back =
      let y = one-young a old r.0 forth back r.1.0.does fits.0 (for a r.1.0.asked) z few few-back in
      let x = take-one P Q w out peer hs gs ms ks a old r.0 forth back r.1.0.does fits.0 y (for a r.1.0.asked) z in
      let first = x.sent.given in
      let second = x.led.given in (
        y,
        each-young datagram calls r.0 new x.sent.next x.led.next r.1.1 fits.1 for (ready-then P Q w out peer hs gs ms ks old r.0 forth back z x)
            (omega (arith, first, few)) (omega (arith, second, few-back)),
      )
